use Rattle.std.proofs.Common.{◌≡◌, [], map, subst, sym, ap}
use Rattle.row_store.specs.Rows.{entry_of}
use Rattle.bridge_lanes.specs.Changes.{now_of}
use Rattle.bridge_lanes.specs.Rows.{rows_of}
use Rattle.bridge_deltas.specs.Links.{LinksView}
use Rattle.bridge_deltas.proofs.Telling.{no_rows, rows_made}
use Rattle.bridge_deltas.proofs.links.Links.rows.Goals as goal

pub returns-clause-ok : goal.returns-clause-ok
returns-clause-ok c =
    subst (λ (l : LinksView). map entry_of c.add_numbers.new.out.items ≡ rows_of (now_of l.lanes)) c.self.view_is
    (rows_made c.self.inside.lanes.items (map entry_of c.new-out.result.items) (map entry_of c.add_messages.new.out.items) (map entry_of c.add_numbers.new.out.items) (ap (map entry_of) c.new-out.ensures.items) c.in_ok-add_messages.ensures.ok c.in_ok-add_numbers.ensures.ok)

pub returns-in_err-add_messages-clause-nothing : goal.returns-in_err-add_messages-clause-nothing
returns-in_err-add_messages-clause-nothing c = λ e.
    let none = no_rows c.self.inside.lanes.items (subst (λ (l : LinksView). rows_of (now_of l.lanes) ≡ []) (sym c.self.view_is) e) in
    absurd (let no = c.in_err-add_messages.ensures.none none.0 in cc)

pub returns-in_err-add_numbers-clause-nothing : goal.returns-in_err-add_numbers-clause-nothing
returns-in_err-add_numbers-clause-nothing c = λ e.
    let none = no_rows c.self.inside.lanes.items (subst (λ (l : LinksView). rows_of (now_of l.lanes) ≡ []) (sym c.self.view_is) e) in
    absurd (let no = c.in_err-add_numbers.ensures.none none.1 in cc)
