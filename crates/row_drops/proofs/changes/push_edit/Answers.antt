use Rattle.std.proofs.Common.{◌++◌, [], map, append-nil, ap, sym, ◌∙◌}
use Rattle.std.specs.Prelude.{option_map}
use Rattle.std.proofs.lemmas.List.{map_push}
use Rattle.bridge_lanes.specs.Changes.{left_of}
use Rattle.row_store.specs.Rows.{entry_of}
use Rattle.row_drops.specs.Dropping.{edit}
use Rattle.row_drops.proofs.Edited.{left_made, none_made}
use Rattle.row_drops.proofs.changes.push_edit.Goals as goal

pub returns-in_ok-push-in-Some : goal.returns-in_ok-push-in-Some
returns-in_ok-push-in-Some c =
    let row = entry_of c.args.row.now in
    ap (map left_of) c.in_ok-push-in-Some.ensures.items ∙ map_push left_of c.args.changes.now.items c.in-Some.change
    ∙ ap (λ ls. map left_of c.args.changes.now.items ++ ls) (left_made row.0 (edit c.args.target.now row.0 row.1) (left_of c.in-Some.change) (ap (option_map left_of) (sym c.in-Some.is) ∙ c.in_ok-change.ensures))

pub returns-in-None : goal.returns-in-None
returns-in-None c =
    let row = entry_of c.args.row.now in
    sym (ap (λ ls. map left_of c.args.changes.now.items ++ ls) (none_made row.0 (edit c.args.target.now row.0 row.1) (ap (option_map left_of) (sym c.in-None.is) ∙ c.in_ok-change.ensures)) ∙ append-nil (map left_of c.args.changes.now.items))
