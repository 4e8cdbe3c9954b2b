use Rattle.std.proofs.Common.{ℕ, Bool, List, Option, length, sym, ap, subst, ◌∙◌}
use Rattle.std.specs.Prelude.{◌==◌}
use Rattle.node_work.specs.Working.{ComesTo}
use Rattle.node_clients.specs.Connecting.{ConnectsAt, ConnectsBy}
use Rattle.node_clients.proofs.connect.connect.Goals as goal

pub returns-then-is_empty : goal.returns-then-is_empty
returns-then-is_empty c =
    let p = c.args.packet.now in
    let at = c.args.connection in
    let w = c.args.work.now in
    let r = c.name.result in
    let new = c.name.new.work in
    let empty = ap (λ (s : List ℕ). length s == 0) (sym c.as_str.ensures.same) ∙ sym c.is_empty.ensures ∙ c.if-is_empty.true in
    subst (λ (o : Option ℕ). ComesTo (λ x. x) r w new (ConnectsBy o at p)) (sym (sym c.refusal.ensures ∙ c.in_default.is))
    (subst (λ (b : Bool). ComesTo (λ x. x) r w new (ConnectsAt b at p)) (sym empty) c.name.ensures)
