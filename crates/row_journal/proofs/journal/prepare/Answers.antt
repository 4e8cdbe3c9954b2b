use Rattle.std.proofs.Common.{◌≡◌, ◌∷◌, ◌++◌, [], Some, map, take, ap, ◌∙◌}
use Rattle.std.proofs.lemmas.List.{map-append}
use Rattle.row_store.specs.Noted.{pair_of}
use Rattle.row_journal.specs.Journal.{entry_key}
use Rattle.row_journal.proofs.journal.prepare.Goals as goal

pub returns-clause-changes : goal.returns-clause-changes
returns-clause-changes c =
    let piece : map pair_of c.in_ok-changes.changes.items ≡ map pair_of (take c.piece-made.result c.args.journal.now.noted.items) =
    c.in_ok-changes.ensures ∙ ap (λ xs. map pair_of (take c.piece-made.result xs)) (c.deref.ensures.value ∙ c.in_ok-reserve.ensures.items) in
    ap (map pair_of) c.in_ok-push.ensures.items ∙ map-append pair_of c.in_ok-changes.changes.items (c.in_ok-entry.entry ∷ [])
    ∙ (λ i. piece i ++ (c.in_ok-entry.ensures ∙ ap (λ bytes. (entry_key c.args.journal.now.count, Some bytes)) c.requires) i ∷ [])
