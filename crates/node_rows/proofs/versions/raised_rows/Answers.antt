use Rattle.std.proofs.Common.{◌≡◌, map as map_list, Some, ap, subst, ◌∙◌}
use Rattle.std.specs.FinMap.Entries.{put}
use Rattle.std.specs.Prelude.{option_map}
use Rattle.std.proofs.lemmas.Result.{IfOk-weaker}
use Rattle.row_store.specs.Rows.{entry_of, key_cmp, key_of}
use Rattle.node_rows.specs.Versions.{are_first, raised_all, raised_each, seen_key, seen_value, with_seen}
use Rattle.node_rows.proofs.Raising.{put_seen}
use Rattle.node_rows.proofs.versions.raised_rows.Goals as goal

pub returns-in-Some : goal.returns-in-Some
returns-in-Some c =
    let rows = map_list entry_of c.args.rows.now in
    let seen = c.in-Some.seen in
    let is : option_map entry_of (Some seen) ≡ option_map (λ v. (seen_key, v)) (seen_value rows) =
    subst (λ s. option_map entry_of s ≡ option_map (λ v. (seen_key, v)) (seen_value rows)) c.in-Some.is c.in_ok-seen_row.ensures
    in
    let all : put key_cmp (key_of seen) seen.value.items (map_list entry_of c.in_ok-made.made.items) ≡ raised_all rows =
    ap (put key_cmp (key_of seen) seen.value.items) c.in_ok-made.ensures ∙ put_seen (seen_value rows) seen (raised_each c.are_first.result rows) is
    ∙ ap (λ first. with_seen (seen_value rows) (raised_each first rows)) c.are_first.ensures
    in
    IfOk-weaker c.with_row.result _ _ (λ made put_in. put_in ∙ all) c.with_row.ensures
