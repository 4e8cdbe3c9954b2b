-- Many turns, and a fold of them.
use Rattle.std.proofs.Common.{◌≡◌, ◌<◌, ◌+◌, ◌^◌, ℕ, suc, length, List, [], ◌∷◌, ◌++◌, refl, sym, ap, subst, ◌∙◌, arith, append_assoc, append-nil}
use Rattle.std.specs.List.{AllByRecursion}
use Rattle.std.specs.FinMap.{insert}
use Rattle.row_store.specs.Rows.{Content}
use Rattle.row_store.specs.Noted.{Pair}
use Rattle.row_journal.specs.Spelling.{turn}
use Rattle.row_journal.specs.Journal.{HasTurns, after_pairs, entry_key, others, removals}
use Rattle.row_journal.specs.Laws.{AllIsShown, CanBeWritten, ChangesArePairs, FoldIsTurns, JournalIsOne, NamedAreHidden, TurnsAreShown, all_of, written}
use Rattle.row_journal.proofs.JournalLaws.{after_all_is, length_more, others_insert, turns_more, turns_once}
use Rattle.row_journal.proofs.ShownLaws.{bare_shown, fold_shown, named_shown, others_all, shown_is}
use Rattle.row_journal.proofs.NamedLaws.{plain_named}

more_than : (n : ℕ) → n + 1 ≡ suc n
more_than n = omega arith

run_has : (c : Content) (before ts : List (List Pair)) → HasTurns c before → AllByRecursion turn.Fits ts → length before + length ts < 256 ^ 8 → HasTurns (written c (length before) ts) (before ++ ts)
run_has c before [] has fit few = subst (λ us. HasTurns c us) (sym (append-nil before)) has
run_has c before (t ∷ ts) has fit few =
    let d = insert c (entry_key (length before)) (turn.bytes t) in
    let one = turns_more c before t (omega (arith, few)) fit.0 has in
    let more = run_has d (before ++ t ∷ []) ts one fit.1 (omega (arith, few, length_more before t)) in
    subst (λ n. HasTurns (written d n ts) (before ++ t ∷ ts)) (length_more before t ∙ more_than (length before))
    (subst (λ us. HasTurns (written d (length (before ++ t ∷ [])) ts) us) (append_assoc before (t ∷ []) ts) more)

run_others : (c : Content) (n : ℕ) (ts : List (List Pair)) → others (written c n ts) ≡ others c
run_others c n [] = refl
run_others c n (t ∷ ts) = run_others (insert c (entry_key n) (turn.bytes t)) (suc n) ts ∙ others_insert c (entry_key n) (turn.bytes t) refl

run_new : (c : Content) (ts : List (List Pair)) → HasTurns c [] → CanBeWritten ts → HasTurns (written c 0 ts) ts
run_new c ts has can = run_has c [] ts has can.fit (omega (arith, can.few))

pub changes_are_pairs : ChangesArePairs
changes_are_pairs = after_all_is

pub all_is_shown : AllIsShown
all_is_shown = bare_shown

pub turns_are_shown : TurnsAreShown
turns_are_shown c ts has can = shown_is (written c 0 ts) ts (omega (arith, can.few)) (run_new c ts has can) ∙ ap (λ o. after_pairs o (all_of ts)) (run_others c 0 ts ∙ others_all c has)

pub fold_is_turns : FoldIsTurns
fold_is_turns c ts has can plain =
    let d = written c 0 ts in
    let done = fold_shown d ts (all_of ts) (omega (arith, can.few)) (run_new c ts has can) plain refl in
    sym (bare_shown (after_pairs d (all_of ts ++ removals (length ts))) done.0) ∙ done.1 ∙ turns_are_shown c ts has can

pub named_are_hidden : NamedAreHidden
named_are_hidden c ts piece has can plain within =
    named_shown (written c 0 ts) ts piece (omega (arith, can.few)) (run_new c ts has can) (plain_named piece (all_of ts) plain within) within

pub journal_is_one : JournalIsOne
journal_is_one c ts us few less a b = turns_once c ts us few less a b
