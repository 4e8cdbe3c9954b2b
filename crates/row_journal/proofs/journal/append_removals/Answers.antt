use Rattle.std.proofs.Common.{◌++◌, ◌∷◌, [], None, append_assoc, map, ap, sym, ◌∙◌}
use Rattle.std.proofs.lemmas.List.{map-append}
use Rattle.row_store.specs.Noted.{pair_of}
use Rattle.row_journal.specs.Journal.{entry_key, removals}
use Rattle.row_journal.proofs.JournalLaws.{removals_more}
use Rattle.row_journal.proofs.journal.append_removals.Goals as goal

pub loop-at-preserved : goal.loop-at-preserved
loop-at-preserved c =
    let before = map pair_of c.args.changes.now.items in
    let at = c.loop-at.at in
    ap (map pair_of) c.in_ok-push.ensures.items ∙ map-append pair_of c.loop-at.changes.items _
    ∙ (λ i. c.loop-at.invariant i ++ ((240, (c.new.ensures.items i, (c.in_ok-place.ensures.items ∙ c.to_be_bytes.ensures) i)), None) ∷ [])
    ∙ append_assoc before (removals at) ((entry_key at, None) ∷ []) ∙ ap (λ gone. before ++ gone) (sym (removals_more at))
