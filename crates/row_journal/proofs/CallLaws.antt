-- What calls of the store make of what is shown.
use Rattle.std.proofs.Common.{◌≡◌, ◌≢◌, ◌⊎◌, inl, inr, ◌<◌, ◌+◌, ◌^◌, ℕ, suc, length, true, false, List, [], ◌∷◌, ◌++◌, Some, Result, Ok, Err, OnOk, OnErr, map, take, drop, refl, sym, ap, subst, ◌∙◌, arith}
use Rattle.std.specs.Prelude.{flat_map}
use Rattle.row_store.specs.declared.row.Change.{Change}
use Rattle.row_store.specs.declared.store.RowFault.{RowFault}
use Rattle.row_store.specs.declared.store.RowFault.TheVariants.{BadRow}
use Rattle.row_store.specs.declared.store.RowStore.{Ghosts}
use Rattle.std.specs.FinMap.{entries, insert}
use Rattle.std.specs.Prelude.{Vec, IfOk}
use Rattle.std.specs.List.{AllByRecursion}
use Rattle.std.specs.declared.alloc.Global.{Global}
use Rattle.std.proofs.lemmas.Result.{IfOk-weaker}
use Rattle.std.proofs.lemmas.List.{take-append-drop}
use Rattle.row_store.specs.declared.row.Row.{Row}
use Rattle.row_store.specs.Rows.{Content, after_all, entry_of}
use Rattle.row_store.specs.Noted.{Pair, pair_of}
use Rattle.row_journal.specs.Calls.{Loads, Makes}
use Rattle.row_journal.specs.Spelling.{Tells, turn}
use Rattle.row_journal.proofs.EndLaws.{items_fit, items_length}
use Rattle.row_journal.specs.Journal.{after_pairs, names, others, shown, entry_key, removals, AreOthers, HasTurns, IsNoted, NamesWithin}
use Rattle.row_journal.proofs.JournalLaws.{after_all_is, after_both, flat_more, length_more, others_insert, others_pairs, plain_leaves, turns_more}
use Rattle.row_journal.proofs.NamedLaws.{hides, named_back, named_front, named_more, plain_named}
use Rattle.row_journal.specs.Tops.{Allows, Covers, Grows, IsKept, Tops}
use Rattle.row_journal.proofs.TopsLaws.{covers_after, covers_more, covers_others}
use Rattle.row_journal.proofs.ShownLaws.{bare_shown, fold_shown, named_shown, plain_shown, turn_shown}

abbrev Settled : {R : Type 0} → Ghosts R → Type 0
Settled {R} g = (s : R) (c : Content) → g.is_open s → g.may_leave s c → c ≡ g.content s

-- a call that isn't made, and one that has nothing to make
pub refused : {R : Type 0} (g : Ghosts R) → Settled g → (s : R) (fault : RowFault) (made : Content) → fault ≢ BadRow → Makes g s s (Err fault) made
refused g settled s fault made not = record {
  ok = λ clean up. tt;
  err = λ clean up. refl;
  crash = λ clean up c left. inl (ap shown (settled s c up left));
  rows = λ is. not (ap (fault_in fault) is);
  was_clean = λ clean. clean;
  was_open = λ clean up. up;
}
  where
    fault_in : RowFault → Result (Unit {0}) RowFault → RowFault
    fault_in d (Ok x) = d
    fault_in d (Err f) = f

pub nothing : {R : Type 0} (g : Ghosts R) → Settled g → (s : R) → Makes g s s (Ok tt) (shown (g.content s))
nothing g settled s = record {
  ok = λ clean up. (up, refl);
  err = λ clean up. tt;
  crash = λ clean up c left. inl (ap shown (settled s c up left));
  rows = λ is. absurd cc;
  was_clean = λ clean. clean;
  was_open = λ clean up. up;
}

-- a call of the store by which what is shown becomes this
pub applied : {R : Type 0} (g : Ghosts R) (old new : R) (result : Result (Unit {0}) RowFault) (changes : List Change) (made : Content)
    → (g.is_clean old → g.is_open old → shown (after_all (g.content old) changes) ≡ made)
    → (g.is_clean new → g.is_open old → OnOk result (g.is_open new × (g.content new ≡ after_all (g.content old) changes)))
    → (g.is_clean new → g.is_open new → OnErr result (g.content new ≡ g.content old))
    → (g.is_clean new → g.is_open old → (c : Content) → g.may_leave new c → (c ≡ g.content old) ⊎ (c ≡ after_all (g.content old) changes))
    → result ≢ Err BadRow → (g.is_clean new → g.is_clean old) → (g.is_clean new → g.is_open new → g.is_open old)
    → Makes g old new result made
applied g old new result changes made means ok err crash rows was_clean was_open = record {
  ok = λ clean up. by_ok result (means (was_clean clean) up) (ok clean up);
  err = λ clean up. by_err result (err clean up);
  crash = λ clean up c left. elim (crash clean up c left) [
    | inl same ↦ inl (ap shown same)
    | inr is ↦ inr (ap shown is ∙ means (was_clean clean) up)
  ];
  rows = rows;
  was_clean = was_clean;
  was_open = was_open;
}
  where
    by_ok : (r : Result (Unit {0}) RowFault) → shown (after_all (g.content old) changes) ≡ made → OnOk r (g.is_open new × (g.content new ≡ after_all (g.content old) changes)) → OnOk r (g.is_open new × (shown (g.content new) ≡ made))
    by_ok (Ok x) is done = (done.0, ap shown done.1 ∙ is)
    by_ok (Err f) is done = tt

    by_err : (r : Result (Unit {0}) RowFault) → OnErr r (g.content new ≡ g.content old) → OnErr r (shown (g.content new) ≡ shown (g.content old))
    by_err (Ok x) same = tt
    by_err (Err f) same = ap shown same

-- a call after a fold, and a fold that failed
pub after_fold : {R : Type 0} (g : Ghosts R) (old mid new : R) (result : Result (Unit {0}) RowFault) (changes : List Change)
    → Makes g old mid (Ok tt) (shown (g.content old)) → Makes g mid new result (after_all (shown (g.content mid)) changes)
    → Makes g old new result (after_all (shown (g.content old)) changes)
after_fold g old mid new result changes fold call = record {
  ok = λ clean up. by_ok result (same (call.was_clean clean) up) (call.ok clean (is_open (call.was_clean clean) up));
  err = λ clean up. by_err result (same (call.was_clean clean) (was (call.was_clean clean) (call.was_open clean up))) (call.err clean up);
  crash = λ clean up c left. elim (call.crash clean (is_open (call.was_clean clean) up) c left) [
    | inl stays ↦ inl (stays ∙ same (call.was_clean clean) up)
    | inr made ↦ inr (made ∙ ap (λ d. after_all d changes) (same (call.was_clean clean) up))
  ];
  rows = call.rows;
  was_clean = λ clean. fold.was_clean (call.was_clean clean);
  was_open = λ clean up. was (call.was_clean clean) (call.was_open clean up);
}
  where
    was : g.is_clean mid → g.is_open mid → g.is_open old
    was clean up = fold.was_open clean up

    is_open : g.is_clean mid → g.is_open old → g.is_open mid
    is_open clean up = (fold.ok clean up).0

    same : g.is_clean mid → g.is_open old → shown (g.content mid) ≡ shown (g.content old)
    same clean up = (fold.ok clean up).1

    by_ok : (r : Result (Unit {0}) RowFault) → shown (g.content mid) ≡ shown (g.content old) → OnOk r (g.is_open new × (shown (g.content new) ≡ after_all (shown (g.content mid)) changes)) → OnOk r (g.is_open new × (shown (g.content new) ≡ after_all (shown (g.content old)) changes))
    by_ok (Ok x) is done = (done.0, done.1 ∙ ap (λ d. after_all d changes) is)
    by_ok (Err f) is done = tt

    by_err : (r : Result (Unit {0}) RowFault) → shown (g.content mid) ≡ shown (g.content old) → OnErr r (shown (g.content new) ≡ shown (g.content mid)) → OnErr r (shown (g.content new) ≡ shown (g.content old))
    by_err (Ok x) is stays = tt
    by_err (Err f) is stays = stays ∙ is

pub fold_failed : {R : Type 0} (g : Ghosts R) (old new : R) (fault : RowFault) (made : Content) → Makes g old new (Err fault) (shown (g.content old)) → Makes g old new (Err fault) made
fold_failed g old new fault made fold = record {
  ok = λ clean up. tt;
  err = fold.err;
  crash = λ clean up c left. elim (fold.crash clean up c left) [ inl same ↦ inl same | inr same ↦ inl same ];
  rows = fold.rows;
  was_clean = fold.was_clean;
  was_open = fold.was_open;
}

-- ---- what is noted

no_turns : (ts : List (List Pair)) → length ts ≡ 0 → ts ≡ []
no_turns [] e = refl
no_turns (t ∷ ts) e = absurd (omega (arith, e))

pub noted_none : (c : Content) (noted : List Change) → IsNoted c noted 0 → HasTurns c []
noted_none c noted n = subst (λ ts. HasTurns c ts) (no_turns n.turns n.counted) n.has

pub none_noted : (c : Content) (noted : List Change) (count : ℕ) → HasTurns c [] → noted ≡ [] → count ≡ 0 → IsNoted c noted count
none_noted c noted count has none zero_ = record {
  turns = [];
  few = omega (arith, zero_);
  has = has;
  counted = sym zero_;
  leave = ap (λ xs. after_pairs (others c) (map pair_of xs)) none;
  named = λ q is. absurd (let z : false ≡ true = sym (ap (λ xs. names (map pair_of xs) q) none) ∙ is in cc);
  plain = subst (λ xs. AreOthers (map pair_of xs)) (sym none) tt;
}

-- a fold
pub folded : (c : Content) (noted changes : List Change) (count : ℕ) → IsNoted c noted count
    → after_all c changes ≡ after_pairs c (map pair_of noted ++ removals count)
    → HasTurns (after_all c changes) [] × (shown (after_all c changes) ≡ shown c)
folded c noted changes count n makes =
    let done = fold_shown c n.turns (map pair_of noted) (omega (arith, n.few, n.counted)) n.has n.plain n.leave in
    let is : after_pairs c (map pair_of noted ++ removals (length n.turns)) ≡ after_all c changes = ap (λ k. after_pairs c (map pair_of noted ++ removals k)) n.counted ∙ sym makes in
    subst (λ d. HasTurns d [] × (shown d ≡ shown c)) is done

parts : (us vs : List Change) → map pair_of (us ++ vs) ≡ map pair_of us ++ map pair_of vs
parts [] vs = refl
parts (u ∷ us) vs = ap (λ ps. pair_of u ∷ ps) (parts us vs)

both : (us vs : List Pair) → AreOthers us → AreOthers vs → AreOthers (us ++ vs)
both [] vs a b = b
both (u ∷ us) vs a b = (a.0, both us vs a.1 b)

front : (us vs : List Pair) → AreOthers (us ++ vs) → AreOthers us
front [] vs all = tt
front (u ∷ us) vs all = (all.0, front us vs all.1)

back : (us vs : List Pair) → AreOthers (us ++ vs) → AreOthers vs
back [] vs all = all
back (u ∷ us) vs all = back us vs all.1

-- a piece of a fold: the front of what is noted is made
pieced : (c : Content) (noted these rest : List Change) (count : ℕ) → these ++ rest ≡ noted → IsNoted c noted count
    → IsNoted (after_pairs c (map pair_of these)) rest count × (shown (after_pairs c (map pair_of these)) ≡ shown c)
pieced c noted these rest count cut n =
    let ps = map pair_of these in
    let qs = map pair_of rest in
    let all = flat_map (λ t. t) n.turns in
    let pairs : map pair_of noted ≡ ps ++ qs = ap (map pair_of) (sym cut) ∙ parts these rest in
    let named : NamesWithin (ps ++ qs) all = subst (λ xs. NamesWithin xs all) pairs n.named in
    let plain : AreOthers (ps ++ qs) = subst AreOthers pairs n.plain in
    let within = named_front ps qs all named in
    let first = front ps qs plain in (
      record {
        turns = n.turns;
        few = n.few;
        has = plain_leaves c n.turns ps n.has first;
        counted = n.counted;
        leave = ap (λ d. after_pairs d qs) (others_pairs c ps first) ∙ sym (after_both (others c) ps qs) ∙ ap (after_pairs (others c)) (sym pairs) ∙ n.leave
            ∙ sym (hides (others c) ps all within) ∙ ap (λ d. after_pairs d all) (sym (others_pairs c ps first));
        named = named_back ps qs all named;
        plain = back ps qs plain;
      },
      named_shown c n.turns ps (omega (arith, n.few, n.counted)) n.has first within,
    )

-- a row of the journal
entered : (c : Content) (noted copies : List Change) (xs : List Pair) (count : ℕ) → count + 1 < 2 ^ 64 → IsNoted c noted count → turn.Fits xs → AreOthers xs → map pair_of copies ≡ xs
    → IsNoted (after_pairs c ((entry_key count, Some (turn.bytes xs)) ∷ [])) (noted ++ copies) (count + 1) × (shown (after_pairs c ((entry_key count, Some (turn.bytes xs)) ∷ [])) ≡ after_pairs (shown c) xs)
entered c noted copies xs count few n fits plain same = subst (λ k. Enters k) n.counted (
  record {
    turns = n.turns ++ xs ∷ [];
    few = omega (arith, few, n.counted);
    has = turns_more c n.turns xs short fits n.has;
    counted = length_more n.turns xs;
    leave = ap (λ d. after_pairs d (map pair_of (noted ++ copies))) hidden ∙ ap (after_pairs (others c)) pairs ∙ after_both (others c) (map pair_of noted) xs
        ∙ ap (λ d. after_pairs d xs) n.leave ∙ sym (after_both (others c) (flat_map (λ t. t) n.turns) xs) ∙ ap (after_pairs (others c)) (sym (flat_more n.turns xs))
        ∙ ap (λ d. after_pairs d (flat_map (λ t. t) (n.turns ++ xs ∷ []))) (sym hidden);
    named = λ q is. ap (λ ps. names ps q) (flat_more n.turns xs) ∙ named_more (map pair_of noted) (flat_map (λ t. t) n.turns) xs n.named q (ap (λ ps. names ps q) (sym pairs) ∙ is);
    plain = subst AreOthers (sym pairs) (both (map pair_of noted) xs n.plain plain);
  },
  turn_shown c n.turns xs short fits n.has,
)
  where
    Enters : ℕ → Type 0
    Enters k = IsNoted (after_pairs c ((entry_key k, Some (turn.bytes xs)) ∷ [])) (noted ++ copies) (k + 1) × (shown (after_pairs c ((entry_key k, Some (turn.bytes xs)) ∷ [])) ≡ after_pairs (shown c) xs)

    short : length n.turns < 256 ^ 8
    short = omega (arith, few, n.counted)

    hidden : others (insert c (entry_key (length n.turns)) (turn.bytes xs)) ≡ others c
    hidden = others_insert c (entry_key (length n.turns)) (turn.bytes xs) refl

    pairs : map pair_of (noted ++ copies) ≡ map pair_of noted ++ xs
    pairs = parts noted copies ∙ ap (λ ps. map pair_of noted ++ ps) same

-- a piece of a fold, and a row of the journal
pub written : (c : Content) (noted made copies changes : List Change) (at count : ℕ) → count + 1 < 2 ^ 64 → IsNoted c noted count
    → turn.Fits (map pair_of changes) → AreOthers (map pair_of changes)
    → map pair_of made ≡ map pair_of (take at noted) ++ (entry_key count, Some (turn.bytes (map pair_of changes))) ∷ []
    → map pair_of copies ≡ map pair_of changes
    → IsNoted (after_all c made) (drop at noted ++ copies) (count + 1) × (shown (after_all c made) ≡ after_all (shown c) changes)
written c noted made copies changes at count few n fits plain is same =
    let xs = map pair_of changes in
    let ps = map pair_of (take at noted) in
    let d = after_pairs c ps in
    let one = pieced c noted (take at noted) (drop at noted) count (take-append-drop at noted) n in
    let two = entered d (drop at noted) copies xs count few one.0 fits plain same in
    let makes : after_all c made ≡ after_pairs d ((entry_key count, Some (turn.bytes xs)) ∷ []) = after_all_is c made ∙ ap (after_pairs c) is ∙ after_both c ps ((entry_key count, Some (turn.bytes xs)) ∷ []) in (
      subst (λ e. IsNoted e (drop at noted ++ copies) (count + 1)) (sym makes) two.0,
      ap shown makes ∙ two.1 ∙ ap (λ e. after_pairs e xs) one.1 ∙ sym (after_all_is (shown c) changes),
    )

-- changes without the journal, of which there is none
pub made_plainly : (c : Content) (noted changes : List Change) → IsNoted c noted 0 → AreOthers (map pair_of changes)
    → IsNoted (after_all c changes) noted 0 × (shown (after_all c changes) ≡ after_all (shown c) changes)
made_plainly c noted changes n plain =
    let ps = map pair_of changes in
    let none = noted_none c noted n in
    let within = subst (λ (ts : List (List Pair)). NamesWithin (map pair_of noted) (flat_map (λ t. t) ts)) (no_turns n.turns n.counted) n.named in (
      record {
        turns = [];
        few = omega arith;
        has = subst (λ d. HasTurns d []) (sym (after_all_is c changes)) (plain_leaves c [] ps none plain);
        counted = refl;
        leave = hides (others (after_all c changes)) (map pair_of noted) [] within;
        named = within;
        plain = n.plain;
      },
      ap shown (after_all_is c changes) ∙ plain_shown c ps none plain ∙ sym (after_all_is (shown c) changes),
    )

-- what stays noted when the store was called without the journal
pub plainly_kept : {R : Type 0} (g : Ghosts R) (mid new : R) (result : Result (Unit {0}) RowFault) (noted changes : List Change) (count : ℕ)
    → count ≡ 0 → AreOthers (map pair_of changes)
    → (g.is_clean mid → g.is_open mid → IsNoted (g.content mid) noted count)
    → (g.is_clean new → g.is_open mid → OnOk result (g.is_open new × (g.content new ≡ after_all (g.content mid) changes)))
    → (g.is_clean new → g.is_open new → OnErr result (g.content new ≡ g.content mid))
    → (g.is_clean new → g.is_clean mid) → (g.is_clean new → g.is_open new → g.is_open mid)
    → g.is_clean new → g.is_open new → IsNoted (g.content new) noted count
plainly_kept g mid new result noted changes count zero_ plain kept ok err was_clean was_open clean up =
    by result (kept (was_clean clean) (was_open clean up)) (ok clean (was_open clean up)) (err clean up)
  where
    by : (r : Result (Unit {0}) RowFault) → IsNoted (g.content mid) noted count → OnOk r (g.is_open new × (g.content new ≡ after_all (g.content mid) changes))
        → OnErr r (g.content new ≡ g.content mid) → IsNoted (g.content new) noted count
    by (Ok x) n done same = subst (λ d. IsNoted d noted count) (sym done.1)
        (subst (λ k. IsNoted (after_all (g.content mid) changes) noted k) (sym zero_) (made_plainly (g.content mid) noted changes (subst (λ k. IsNoted (g.content mid) noted k) zero_ n) plain).0)
    by (Err f) n done same = subst (λ d. IsNoted d noted count) (sym same) n

pub plainly_made : {R : Type 0} (g : Ghosts R) (mid : R) (noted changes : List Change) (count : ℕ) → count ≡ 0 → AreOthers (map pair_of changes)
    → (g.is_clean mid → g.is_open mid → IsNoted (g.content mid) noted count)
    → g.is_clean mid → g.is_open mid → shown (after_all (g.content mid) changes) ≡ after_all (shown (g.content mid)) changes
plainly_made g mid noted changes count zero_ plain kept clean up =
    (made_plainly (g.content mid) noted changes (subst (λ k. IsNoted (g.content mid) noted k) zero_ (kept clean up)) plain).1

pub turn_fits : (changes : List Change) → length changes < 2 ^ 16 → AllByRecursion (λ c. Tells (pair_of c)) changes → turn.Fits (map pair_of changes)
turn_fits changes few fit = (omega (arith, few, long changes, items_length [] (map pair_of changes)), items_fit [] (map pair_of changes) (each changes fit))
  where
    long : (xs : List Change) → length (map pair_of xs) ≡ length xs
    long [] = refl
    long (x ∷ xs) = ap suc (long xs)

    each : (xs : List Change) → AllByRecursion (λ c. Tells (pair_of c)) xs → AllByRecursion Tells (map pair_of xs)
    each [] all = tt
    each (x ∷ xs) all = (all.0, each xs all.1)

-- rows that are loaded after a fold
pub loaded : {R : Type 0} (g : Ghosts R) (old mid new : R) (result : Result (Vec Row Global) RowFault)
    → Makes g old mid (Ok tt) (shown (g.content old)) → (g.is_clean mid → g.is_open mid → HasTurns (g.content mid) [])
    → (g.is_clean new → g.is_open mid → IfOk result (λ rows. map entry_of rows.items ≡ entries (g.content mid)))
    → (g.is_clean new → g.is_open new → g.content new ≡ g.content mid)
    → (g.is_clean new → g.is_open mid → (c : Content) → g.may_leave new c → c ≡ g.content mid)
    → (g.is_clean new → g.is_open mid → result ≢ Err BadRow) → (g.is_clean new → g.is_open mid → OnOk result (g.is_open new))
    → (g.is_clean new → g.is_clean mid) → (g.is_clean new → g.is_open new → g.is_open mid)
    → Loads g old new result
loaded g old mid new result fold none ok stays crash rows stays_open was_clean was_open = record {
  ok = λ clean up. IfOk-weaker result _ _ (λ found is. is ∙ ap entries (sym (bare_shown (g.content mid) (none (was_clean clean) (opens (was_clean clean) up))) ∙ same (was_clean clean) up))
      (ok clean (opens (was_clean clean) up));
  same = λ clean up. ap shown (stays clean up) ∙ same (was_clean clean) (fold.was_open (was_clean clean) (was_open clean up));
  crash = λ clean up c left. ap shown (crash clean (opens (was_clean clean) up) c left) ∙ same (was_clean clean) up;
  rows = λ clean up. rows clean (opens (was_clean clean) up);
  stays_open = λ clean up. stays_open clean (opens (was_clean clean) up);
  was_clean = λ clean. fold.was_clean (was_clean clean);
  was_open = λ clean up. fold.was_open (was_clean clean) (was_open clean up);
}
  where
    opens : g.is_clean mid → g.is_open old → g.is_open mid
    opens clean up = (fold.ok clean up).0

    same : g.is_clean mid → g.is_open old → shown (g.content mid) ≡ shown (g.content old)
    same clean up = (fold.ok clean up).1

-- ---- what is kept

pub kept_grown : (c : Content) (noted noted' : List Change) (count count' : ℕ) (old new : Tops) → noted' ≡ noted → count' ≡ count → Grows old new → IsKept c noted count old → IsKept c noted' count' new
kept_grown c noted noted' count count' old new is same grows k = record {
  journal = subst (λ xs. IsNoted c xs count') (sym is) (subst (λ n. IsNoted c noted n) (sym same) k.journal);
  covers = covers_more old new c grows k.covers;
}

-- a fold begins
pub begun : (c : Content) (noted lasts : List Change) (count : ℕ) (tops : Tops) → ((d : Content) → Covers tops d → after_all d lasts ≡ after_pairs d (map pair_of noted))
    → NamesWithin (map pair_of lasts) (map pair_of noted) → IsKept c noted count tops → IsKept c lasts count tops
begun c noted lasts count tops makes within k =
    let n = k.journal in
    record {
      journal = record {
        turns = n.turns;
        few = n.few;
        has = n.has;
        counted = n.counted;
        leave = sym (after_all_is (others c) lasts) ∙ makes (others c) (covers_others tops c k.covers) ∙ n.leave;
        named = λ q is. n.named q (within q is);
        plain = plain_named (map pair_of lasts) (map pair_of noted) n.plain within;
      };
      covers = k.covers;
    }

pub plainly_covers : {R : Type 0} (g : Ghosts R) (mid new : R) (result : Result (Unit {0}) RowFault) (changes : List Change) (old tops : Tops)
    → Grows old tops → AllByRecursion (Allows tops) changes → (g.is_clean mid → g.is_open mid → Covers old (g.content mid))
    → (g.is_clean new → g.is_open mid → OnOk result (g.is_open new × (g.content new ≡ after_all (g.content mid) changes)))
    → (g.is_clean new → g.is_open new → OnErr result (g.content new ≡ g.content mid))
    → (g.is_clean new → g.is_clean mid) → (g.is_clean new → g.is_open new → g.is_open mid)
    → g.is_clean new → g.is_open new → Covers tops (g.content new)
plainly_covers g mid new result changes old tops grows all covers ok err was_clean was_open clean up =
    by result (covers_more old tops (g.content mid) grows (covers (was_clean clean) (was_open clean up))) (ok clean (was_open clean up)) (err clean up)
  where
    by : (r : Result (Unit {0}) RowFault) → Covers tops (g.content mid) → OnOk r (g.is_open new × (g.content new ≡ after_all (g.content mid) changes)) → OnErr r (g.content new ≡ g.content mid) → Covers tops (g.content new)
    by (Ok x) before done same = subst (λ d. Covers tops d) (sym done.1) (covers_after tops (g.content mid) changes before all)
    by (Err f) before done same = subst (λ d. Covers tops d) (sym same) before
