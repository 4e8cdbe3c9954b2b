use Rattle.std.proofs.Common.{map, ap, sym, ◌∙◌}
use Rattle.row_store.specs.Noted.{pair_of}
use Rattle.row_journal.specs.Journal.{after_pairs, removals}
use Rattle.row_journal.proofs.JournalLaws.{after_all_is, after_both}
use Rattle.row_journal.proofs.journal.Journal.fold_changes.Goals as goal

pub returns-clause-changes : goal.returns-clause-changes
returns-clause-changes c = λ d covers.
    let gone = removals c.args.self.now.count in
    let lasts = c.in_ok-changes.changes.items in
    after_all_is d c.append_removals.new.changes.items ∙ ap (after_pairs d) c.in_ok-append_removals.ensures ∙ after_both d (map pair_of lasts) gone
    ∙ ap (λ e. after_pairs e gone) (sym (after_all_is d lasts) ∙ c.in_ok-changes.ensures.content d covers ∙ ap (λ xs. after_pairs d (map pair_of xs)) c.deref.ensures.value)
    ∙ sym (after_both d (map pair_of c.args.self.now.noted.items) gone)
