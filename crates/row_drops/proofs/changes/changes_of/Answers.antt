use Rattle.std.proofs.Common.{◌≡◌, Bool, true, false, length, ap, sym, ◌∙◌}
use Rattle.std.specs.Prelude.{◌==◌}
use Rattle.row_drops.proofs.Nodes.{found}
use Rattle.row_drops.proofs.changes.changes_of.Goals as goal

pub returns-in-Ok : goal.returns-in-Ok
returns-in-Ok c =
    let opened = c.in_ok-open.ensures.ok in
    found c.args.id c.args.nodes c.args.target.now opened.0 c.args.rows.now c.in-Ok.changes.items c.requires opened.1 opened.2
    (λ none. let empty : ◌≡◌ {A = Bool} true false = sym (ap (λ rows. length rows == 0) none) ∙ sym c.is_empty.ensures ∙ c.if-is_empty.false in cc)
    (λ older. let third : ◌≡◌ {A = Bool} true false = sym (c.are_older.ensures.1 older) ∙ c.if-are_older.false in cc)
    c.in-Ok.ensures
