-- What a store shows that has a journal.
use Rattle.std.proofs.Common.{◌≡◌, ◌≢◌, inl, inr, ◌<◌, ◌≤◌, ◌+◌, ◌^◌, ◌&&◌, ℕ, zero, suc, length, get_or, Bool, true, false, not, cond, List, [], ◌∷◌, ◌++◌, Some, None, Less, T, refl, sym, ap, subst, ◌∙◌, arith, eq-eqb, eqb-true}
use Rattle.std.specs.Prelude.{flat_map}
use Rattle.std.specs.List.{AllByRecursion}
use Rattle.std.specs.Cmp.{tied_itself}
use Rattle.std.specs.Ordering.{eq_by_cmp, is_eq, is_lt}
use Rattle.std.specs.FinMap.{entries, get, get-entries, get-retain_keys, insert, find, is_sorted, same_map}
use Rattle.std.specs.FinMap.Entries.{below_all}
use Rattle.std.proofs.lemmas.List.{append-nil}
use Rattle.std.proofs.lemmas.Bool.{cases_Bool}
use Rattle.row_store.proofs.Keys.{keys_total, exact_keys, equal_is}
use Rattle.row_store.proofs.Sorted.{entries_are}
use Rattle.row_store.specs.Rows.{Key, Content, key_cmp}
use Rattle.row_store.specs.Noted.{Pair}
use Rattle.row_journal.specs.Spelling.{turn}
use Rattle.row_journal.specs.Journal.{after_pairs, is_entry, journal, others, read_whole, turn_in, shown, entry_key, removals, AreOthers, HasTurns, NamesWithin}
use Rattle.row_journal.specs.Reading.{numbered}
use Rattle.row_journal.proofs.Numbers.{bytes_rise}
use Rattle.row_journal.proofs.TurnLaws.{turn_is}
use Rattle.row_journal.proofs.JournalLaws.{after_both, entry_apart, flat_more, fold_leaves, length_more, get_other, others_insert, others_pairs, plain_leaves, turns_more}
use Rattle.row_journal.proofs.NamedLaws.{hides}

-- ---- the rows of turns

later : (m n : ℕ) → m < n → n < 256 ^ 8 → key_cmp (entry_key m) (entry_key n) ≡ Less
later m n low few = bytes_rise m n low (omega (arith, few))

joined : (a b : Bool) → T a → T b → T (a && b)
joined true b p q = q
joined false b p q = absurd p

below_numbered : (m n : ℕ) (ts : List (List Pair)) → m < n → n + length ts ≤ 256 ^ 8 → T (below_all key_cmp (entry_key m) (numbered n ts))
below_numbered m n [] low few = tt
below_numbered m n (t ∷ ts) low few = joined _ _ (subst (λ o. T (is_lt o)) (sym (later m n low (omega (arith, few)))) tt) (below_numbered m (suc n) ts (omega (arith, low)) (omega (arith, few)))

numbered_sorted : (n : ℕ) (ts : List (List Pair)) → n + length ts ≤ 256 ^ 8 → T (is_sorted key_cmp (numbered n ts))
numbered_sorted n [] few = tt
numbered_sorted n (t ∷ ts) few = joined _ _ (below_numbered n (suc n) ts (omega arith) (omega (arith, few))) (numbered_sorted (suc n) ts (omega (arith, few)))

shifted : (n k : ℕ) → n + suc k ≡ suc n + k
shifted n k = omega arith

from_0 : (k : ℕ) → 0 + k ≡ k
from_0 k = omega arith

unshifted : (n : ℕ) → n + 0 ≡ n
unshifted n = omega arith

tied : (q k : Key) → eq_by_cmp key_cmp q k ≡ true → q ≡ k
tied q k e = exact_keys q k (equal_is (key_cmp q k) e)

ties : (q k : Key) → q ≡ k → eq_by_cmp key_cmp q k ≡ true
ties q k is = ap (λ x. eq_by_cmp key_cmp q x) (sym is) ∙ ap is_eq (tied_itself keys_total q)

-- a content that has these turns from a number on, and elsewhere in the journal nothing
find_turn : (c : Content) (q : Key) (n : ℕ) (ts : List (List Pair))
    → ((k : ℕ) → k < length ts → get c (entry_key (n + k)) ≡ Some (turn.bytes (get_or ts k [])))
    → (((k : ℕ) → k < length ts → q ≢ entry_key (n + k)) → get c q ≡ None)
    → get c q ≡ find key_cmp q (numbered n ts)
find_turn c q n [] here none = none (λ k h. absurd (omega (arith, h)))
find_turn c q n (t ∷ ts) here none = elim (cases_Bool (eq_by_cmp key_cmp q (entry_key n))) [
  | inl tie ↦ ap (λ x. get c x) (tied q (entry_key n) tie) ∙ ap (λ k. get c (entry_key k)) (sym (unshifted n)) ∙ here 0 (omega arith)
      ∙ sym (ap (λ b. cond b (Some (turn.bytes t)) (find key_cmp q (numbered (suc n) ts))) tie)
  | inr other ↦ find_turn c q (suc n) ts
      (λ k h. ap (λ x. get c (entry_key x)) (sym (shifted n k)) ∙ here (suc k) (omega (arith, h)))
      (λ apart. none (one_more apart other)) ∙ sym (ap (λ b. cond b (Some (turn.bytes t)) (find key_cmp q (numbered (suc n) ts))) other)
]
  where
    one_more : ((k : ℕ) → k < length ts → q ≢ entry_key (suc n + k)) → eq_by_cmp key_cmp q (entry_key n) ≡ false → (k : ℕ) → k < length (t ∷ ts) → q ≢ entry_key (n + k)
    one_more apart other zero h is = absurd (let z : true ≡ false = sym (ties q (entry_key n) (is ∙ ap entry_key (unshifted n))) ∙ other in cc)
    one_more apart other (suc k) h is = apart k (omega (arith, h)) (is ∙ ap entry_key (shifted n k))

pub get_journal : (c : Content) (q : Key) → get (journal c) q ≡ cond (is_entry q) (get c q) None
get_journal c q = get-retain_keys c is_entry q (λ x e. ap is_entry (sym (exact_keys q x e)))

other_kind : (q : Key) (n : ℕ) (ts : List (List Pair)) → is_entry q ≡ false → find key_cmp q (numbered n ts) ≡ None
other_kind q n [] other = refl
other_kind q n (t ∷ ts) other = elim (cases_Bool (eq_by_cmp key_cmp q (entry_key n))) [
  | inl tie ↦ absurd (let z : true ≡ false = sym (ap is_entry (tied q (entry_key n) tie)) ∙ other in cc)
  | inr apart ↦ ap (λ b. cond b (Some (turn.bytes t)) (find key_cmp q (numbered (suc n) ts))) apart ∙ other_kind q (suc n) ts other
]

-- the rows of a journal, in the order of their keys
pub journal_rows : (c : Content) (ts : List (List Pair)) → length ts ≤ 256 ^ 8 → HasTurns c ts → entries (journal c) ≡ numbered 0 ts
journal_rows c ts few has = entries_are (journal c) (numbered 0 ts) (numbered_sorted 0 ts (omega (arith, few))) (λ q. get_journal c q ∙ by q (is_entry q) refl)
  where
    by : (q : Key) (b : Bool) → is_entry q ≡ b → cond b (get c q) None ≡ find key_cmp q (numbered 0 ts)
    by q false other = sym (other_kind q 0 ts other)
    by q true is = find_turn c q 0 ts (λ k h. ap (λ x. get c (entry_key x)) (from_0 k) ∙ has.here k h)
        (λ apart. has.none q (eqb-true q.0 240 is) (λ k h is. apart k h (is ∙ ap entry_key (sym (from_0 k)))))

-- ---- what the rows of a journal spell

read_turn : (t : List Pair) → turn.Fits t → read_whole (turn.at (turn.bytes t)) ≡ t
read_turn t fits = ap (λ bs. read_whole (turn.at bs)) (sym (append-nil (turn.bytes t))) ∙ ap read_whole (turn_is.again t [] fits)

read_turns : (n : ℕ) (ts : List (List Pair)) → AllByRecursion turn.Fits ts → flat_map turn_in (numbered n ts) ≡ flat_map (λ t. t) ts
read_turns n [] fit = refl
read_turns n (t ∷ ts) fit = λ i. read_turn t fit.0 i ++ read_turns (suc n) ts fit.1 i

pub shown_is : (c : Content) (ts : List (List Pair)) → length ts ≤ 256 ^ 8 → HasTurns c ts → shown c ≡ after_pairs (others c) (flat_map (λ t. t) ts)
shown_is c ts few has = ap (λ es. after_pairs (others c) (flat_map turn_in es)) (journal_rows c ts few has) ∙ ap (after_pairs (others c)) (read_turns 0 ts has.fit)

-- ---- rows that were read

at_numbered : (n k : ℕ) (ts : List (List Pair)) → k < length ts → n + length ts ≤ 256 ^ 8 → find key_cmp (entry_key (n + k)) (numbered n ts) ≡ Some (turn.bytes (get_or ts k []))
at_numbered n k [] low few = absurd (omega (arith, low))
at_numbered n zero (t ∷ ts) low few = ap (λ b. cond b (Some (turn.bytes t)) (find key_cmp (entry_key (n + 0)) (numbered (suc n) ts))) (ties (entry_key (n + 0)) (entry_key n) (ap entry_key (unshifted n)))
at_numbered n (suc k) (t ∷ ts) low few = elim (cases_Bool (eq_by_cmp key_cmp (entry_key (n + suc k)) (entry_key n))) [
  | inl tie ↦ absurd (omega (arith, entry_apart (n + suc k) n (omega (arith, few, low)) (omega (arith, few)) (tied (entry_key (n + suc k)) (entry_key n) tie)))
  | inr apart ↦ ap (λ b. cond b (Some (turn.bytes t)) (find key_cmp (entry_key (n + suc k)) (numbered (suc n) ts))) apart
      ∙ ap (λ x. find key_cmp (entry_key x) (numbered (suc n) ts)) (shifted n k) ∙ at_numbered (suc n) k ts (omega (arith, low)) (omega (arith, few))
]

none_numbered : (q : Key) (n : ℕ) (ts : List (List Pair)) → ((k : ℕ) → k < length ts → q ≢ entry_key (n + k)) → find key_cmp q (numbered n ts) ≡ None
none_numbered q n [] apart = refl
none_numbered q n (t ∷ ts) apart = elim (cases_Bool (eq_by_cmp key_cmp q (entry_key n))) [
  | inl tie ↦ absurd (apart 0 (omega arith) (tied q (entry_key n) tie ∙ ap entry_key (sym (unshifted n))))
  | inr other ↦ ap (λ b. cond b (Some (turn.bytes t)) (find key_cmp q (numbered (suc n) ts))) other
      ∙ none_numbered q (suc n) ts (λ k h is. apart (suc k) (omega (arith, h)) (is ∙ ap entry_key (sym (shifted n k))))
]

entry_of_kind : (c : Content) (q : Key) → q.0 ≡ 240 → get c q ≡ find key_cmp q (entries (journal c))
entry_of_kind c q is = sym (sym (get-entries (journal c) q) ∙ get_journal c q ∙ ap (λ b. cond b (get c q) None) (eq-eqb q.0 240 is))

-- rows under the numbers from 0 on, in the order of their keys, are a journal
pub rows_are : (c : Content) (ts : List (List Pair)) → length ts ≤ 256 ^ 8 → AllByRecursion turn.Fits ts → entries (journal c) ≡ numbered 0 ts → HasTurns c ts
rows_are c ts few fit is = record {
  here = λ n h. entry_of_kind c (entry_key n) refl ∙ ap (find key_cmp (entry_key n)) is ∙ ap (λ x. find key_cmp (entry_key x) (numbered 0 ts)) (sym (from_0 n)) ∙ at_numbered 0 n ts h (omega (arith, few));
  none = λ key kind apart. entry_of_kind c key kind ∙ ap (find key_cmp key) is ∙ none_numbered key 0 ts (λ k h is. apart k h (is ∙ ap entry_key (from_0 k)));
  fit = fit;
}

-- ---- calls

-- where there is no journal all rows are shown
pub others_all : (c : Content) → HasTurns c [] → others c ≡ c
others_all c has = same_map keys_total exact_keys (others c) c (λ q. get_other c q ∙ by q (is_entry q) refl)
  where
    by : (q : Key) (b : Bool) → is_entry q ≡ b → cond (not b) (get c q) None ≡ get c q
    by q false other = refl
    by q true is = sym (has.none q (eqb-true q.0 240 is) (λ n h. absurd (omega (arith, h))))

pub bare_shown : (c : Content) → HasTurns c [] → shown c ≡ c
bare_shown c has = shown_is c [] (omega arith) has ∙ others_all c has

-- one row more
pub turn_shown : (c : Content) (ts : List (List Pair)) (xs : List Pair) → length ts < 256 ^ 8 → turn.Fits xs → HasTurns c ts
    → shown (insert c (entry_key (length ts)) (turn.bytes xs)) ≡ after_pairs (shown c) xs
turn_shown c ts xs few fits has =
    let d = insert c (entry_key (length ts)) (turn.bytes xs) in
    shown_is d (ts ++ xs ∷ []) (omega (arith, few, length_more ts xs)) (turns_more c ts xs few fits has)
    ∙ ap (λ o. after_pairs o (flat_map (λ t. t) (ts ++ xs ∷ []))) (others_insert c (entry_key (length ts)) (turn.bytes xs) refl)
    ∙ ap (after_pairs (others c)) (flat_more ts xs) ∙ after_both (others c) (flat_map (λ t. t) ts) xs
    ∙ ap (λ o. after_pairs o xs) (sym (shown_is c ts (omega (arith, few)) has))

-- a fold
pub fold_shown : (c : Content) (ts : List (List Pair)) (ps : List Pair) → length ts ≤ 256 ^ 8 → HasTurns c ts → AreOthers ps → after_pairs (others c) ps ≡ after_pairs (others c) (flat_map (λ t. t) ts)
    → HasTurns (after_pairs c (ps ++ removals (length ts))) [] × (shown (after_pairs c (ps ++ removals (length ts))) ≡ shown c)
fold_shown c ts ps few has plain are =
    let left = fold_leaves c ts ps has plain in
    let d = after_pairs c (ps ++ removals (length ts)) in
    (left.0, shown_is d [] (omega arith) left.0 ∙ left.1 ∙ are ∙ sym (shown_is c ts few has))

-- changes of other kinds, where there is no journal
pub plain_shown : (c : Content) (ps : List Pair) → HasTurns c [] → AreOthers ps → shown (after_pairs c ps) ≡ after_pairs (shown c) ps
plain_shown c ps has plain = bare_shown (after_pairs c ps) (plain_leaves c [] ps has plain) ∙ ap (λ d. after_pairs d ps) (sym (bare_shown c has))

-- changes under keys that the turns name
pub named_shown : (c : Content) (ts : List (List Pair)) (ps : List Pair) → length ts ≤ 256 ^ 8 → HasTurns c ts → AreOthers ps → NamesWithin ps (flat_map (λ t. t) ts)
    → shown (after_pairs c ps) ≡ shown c
named_shown c ts ps few has plain within =
    shown_is (after_pairs c ps) ts few (plain_leaves c ts ps has plain) ∙ ap (λ o. after_pairs o (flat_map (λ t. t) ts)) (others_pairs c ps plain)
    ∙ hides (others c) ps (flat_map (λ t. t) ts) within ∙ sym (shown_is c ts few has)
