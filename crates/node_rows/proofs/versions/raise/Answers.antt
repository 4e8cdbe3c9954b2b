use Rattle.std.proofs.Common.{map as map_list, subst, sym}
use Rattle.row_store.specs.Rows.{entry_of}
use Rattle.node_rows.specs.Versions.{AreRaising, Raise}
use Rattle.node_rows.proofs.Raising.{raise_so, with_put}
use Rattle.node_rows.proofs.versions.raise.Goals as goal

pub returns-in-None : goal.returns-in-None
returns-in-None c =
    let rows = map_list entry_of c.args.rows.now in
    let changes = c.in_ok-changes.changes.items in
    subst (λ seen. Raise rows (with_put seen changes)) c.in-None.is
    (raise_so rows changes c.in_ok-seen_row.field-0 (subst (λ first. AreRaising first rows changes) c.are_first.ensures c.in_ok-changes.ensures) c.in_ok-seen_row.ensures)

pub returns-in_ok-push-in-Some : goal.returns-in_ok-push-in-Some
returns-in_ok-push-in-Some c =
    let rows = map_list entry_of c.args.rows.now in
    let changes = c.in_ok-changes.changes.items in
    subst (Raise rows) (sym c.in_ok-push-in-Some.ensures.items) (subst (λ seen. Raise rows (with_put seen changes)) c.in-Some.is
    (raise_so rows changes c.in_ok-seen_row.field-0 (subst (λ first. AreRaising first rows changes) c.are_first.ensures c.in_ok-changes.ensures) c.in_ok-seen_row.ensures))
