use Rattle.std.proofs.Common.{◌∙◌, ap, map, subst}
use Rattle.row_store.specs.Noted.{pair_of}
use Rattle.row_journal.specs.Journal.{NamesWithin, after_pairs}
use Rattle.row_journal.proofs.CallLaws.{begun}
use Rattle.row_journal.proofs.journal.Journal.begin_fold.Goals as goal

pub returns-clause-kept : goal.returns-clause-kept
returns-clause-kept c = λ d kept.
    let old = c.args.self.now in
    let lasts = c.in_ok-lasts.lasts.items in
    begun d old.noted.items lasts old.count old.tops.entries
    (λ e covers. c.in_ok-lasts.ensures.content e covers ∙ ap (λ xs. after_pairs e (map pair_of xs)) c.deref.ensures.value)
    (subst (λ xs. NamesWithin (map pair_of lasts) (map pair_of xs)) c.deref.ensures.value c.in_ok-lasts.ensures.named)
    kept
