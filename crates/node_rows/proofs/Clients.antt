-- The rows of sessions in the order of their clients.
use Rattle.std.proofs.Common.{◌≡◌, ◌≢◌, inl, inr, ℕ, ◌<◌, ◌^◌, Bool, true, false, cond, T, List, [], ◌∷◌, Option, Some, None, Ordering, Less, Equal, Greater, arith, refl, sym, ap, subst, ◌∙◌}
use Rattle.std.specs.Prelude.{nat_le}
use Rattle.std.specs.Cmp.{tied_itself}
use Rattle.std.specs.Cmp.Lexicographic.{slice_cmp, nat_list_cmp_total}
use Rattle.std.specs.FinMap.{find, get-from_entries, is_sorted}
use Rattle.std.specs.List.{AllByRecursion}
use Rattle.std.specs.Ordering.{eq_by_cmp, is_eq, nat_cmp, ordering_then}
use Rattle.std.proofs.lemmas.Bool.{and_parts, cases_Bool, cases_eq, ltb-true}
use Rattle.std.proofs.lemmas.Map.Lookups.{exact_bytes}
use Rattle.row_store.specs.Rows.{Key, key_cmp, Plain}
use Rattle.row_store.proofs.Keys.{keys_total, equal_is}
use Rattle.qos_handshakes.specs.Entries.{Entries}
use Rattle.qos_handshakes.specs.Restored.{agree, first_place}
use Rattle.session_rows.specs.Durable.{Durable, IsDurable}
use Rattle.session_rows.specs.Fields.{main}
use Rattle.session_rows.specs.Rows.{main_key, copy_key, copy_row, copy_rows, rows_of}
use Rattle.node_rows.specs.Rows.{session_row}
use Rattle.node_rows.specs.Sessions.{AreSessions, own_row, own_rows, all_copies, session_at}
use Rattle.node_rows.proofs.Lists.{IsAbove, all_both, all_turned, either, find_both, find_none, one_list, other_key, same_key, sorted_both, sorted_head, sorted_more, sorted_tail}
use Rattle.bridge_lanes.proofs.Numbers.{bytes_rise}

-- ---- clients
abbrev pub same_client : List ℕ → List ℕ → Bool
same_client = eq_by_cmp (slice_cmp nat_cmp)

pub client_is : (a b : List ℕ) → same_client a b ≡ true → a ≡ b
client_is a b t = exact_bytes a b (equal_is (slice_cmp nat_cmp a b) t)

pub client_itself : (a : List ℕ) → same_client a a ≡ true
client_itself a = ap is_eq (tied_itself nat_list_cmp_total a)

client_differs : (a b : List ℕ) → same_client a b ≡ false → a ≢ b
client_differs a b f same = (let other : true ≡ false = sym (client_itself a) ∙ ap (same_client a) same ∙ f in cc)

-- ---- places
places_above : (p next : ℕ) (es : Entries) → p < first_place next es → agree next es ≡ true → AllByRecursion (λ e. p < e.0) es
places_above p next [] low is = tt
places_above p next (e ∷ es) low is =
    let parts = and_parts _ (agree next es) is in
    let below : e.0 < first_place next es = ltb-true _ _ (and_parts _ _ (and_parts (nat_le 1 e.0) _ parts.0).1).0 in
    (low, places_above p next es (omega (arith, low, below)) parts.1)

copy_above : (client : List ℕ) (p q : ℕ) → p < q → q < 2 ^ 64 → key_cmp (copy_key client p) (copy_key client q) ≡ Less
copy_above client p q low small = rw (tied_itself nat_list_cmp_total client) (bytes_rise p q low small)

abbrev AreSmall : Entries → Type 0
AreSmall es = AllByRecursion (λ e. e.0 < 2 ^ 64) es

copies_above : (client : List ℕ) (p : ℕ) (es : Entries) → AllByRecursion (λ e. p < e.0) es → AreSmall es → AllByRecursion (IsAbove (copy_key client p)) (copy_rows client es)
copies_above client p [] above small = tt
copies_above client p (e ∷ es) above small = (copy_above client p e.0 above.0 small.0, copies_above client p es above.1 small.1)

copies_sorted : (client : List ℕ) (next : ℕ) (es : Entries) → AreSmall es → agree next es ≡ true → T (is_sorted key_cmp (copy_rows client es))
copies_sorted client next [] small is = tt
copies_sorted client next (e ∷ es) small is =
    let parts = and_parts _ (agree next es) is in
    let below : e.0 < first_place next es = ltb-true _ _ (and_parts _ _ (and_parts (nat_le 1 e.0) _ parts.0).1).0 in
    sorted_more (copy_row client e) (copy_rows client es) (copies_above client e.0 es (places_above e.0 next es below parts.1) small.1) (copies_sorted client next es small.1 parts.1)

pub copies_rise : (d : Durable) → IsDurable d → T (is_sorted key_cmp (copy_rows d.client d.copies))
copies_rise d is = copies_sorted d.client d.main.next_place d.copies (all_turned _ _ d.copies (λ e h. h.0) is.form.copies) is.agree

-- ---- whose rows they are
abbrev IsCopyOf : List ℕ → Plain → Type 0
IsCopyOf client e = (e.0.0 ≡ 3) × (e.0.1.0 ≡ client)

pub copies_of : (client : List ℕ) (es : Entries) → AllByRecursion (IsCopyOf client) (copy_rows client es)
copies_of client [] = tt
copies_of client (e ∷ es) = ((refl, refl), copies_of client es)

pub are_own : (ds : List Durable) → AllByRecursion (λ e. e.0.0 ≡ 2) (own_rows ds)
are_own [] = tt
are_own (d ∷ ds) = (refl, are_own ds)

pub are_copies : (ds : List Durable) → AllByRecursion (λ e. e.0.0 ≡ 3) (all_copies ds)
are_copies [] = tt
are_copies (d ∷ ds) = all_both _ (copy_rows d.client d.copies) (all_copies ds) (all_turned _ _ (copy_rows d.client d.copies) (λ e h. h.0) (copies_of d.client d.copies)) (are_copies ds)

pub rows_rise : (d : Durable) → IsDurable d → T (is_sorted key_cmp (rows_of d))
rows_rise d is =
    sorted_more (own_row d) (copy_rows d.client d.copies) (all_turned _ (IsAbove (main_key d.client)) (copy_rows d.client d.copies) (λ e h. later e h.0) (copies_of d.client d.copies)) (copies_rise d is)
  where
    later : (e : Plain) → e.0.0 ≡ 3 → key_cmp (main_key d.client) e.0 ≡ Less
    later e three = rw three refl

-- ---- what is found among them
not_own : (q : Key) (d : Durable) → q.1.0 ≢ d.client → same_key q (main_key d.client) ≡ false
not_own q d apart = other_key q (main_key d.client) (λ e. apart (ap (λ (k : Key). k.1.0) e))

not_copy : (q : Key) (d : Durable) → q.1.0 ≢ d.client → find key_cmp q (copy_rows d.client d.copies) ≡ None
not_copy q d apart = find_none q (λ k. (k.0 ≡ 3) × (k.1.0 ≡ d.client)) (copy_rows d.client d.copies) (copies_of d.client d.copies) (λ h. apart h.1)

abbrev NoneThere : Key → List Durable → Type 0
NoneThere q ds = (find key_cmp q (own_rows ds) ≡ None) × (find key_cmp q (all_copies ds) ≡ None)

pub none_there : (q : Key) (ds : List Durable) → session_at ds q.1.0 ≡ None → NoneThere q ds
none_there q [] none = (refl, refl)
none_there q (d ∷ ds) none = elim (cases_Bool (same_client q.1.0 d.client)) [
  | inl t ↦ absurd (let other : Some d ≡ None = rw t at none in cc)
  | inr f ↦
      let apart = client_differs q.1.0 d.client f in
      let more = none_there q ds (rw f at none) in
      (rw (not_own q d apart) more.0, find_both q (copy_rows d.client d.copies) (all_copies ds) ∙ rw (not_copy q d apart) more.1)
]

-- no two are of one client
pub AreApart : List Durable → Type 0
AreApart [] = Unit {0}
AreApart (d ∷ ds) = (session_at ds d.client ≡ None) × AreApart ds

abbrev both : Bool → List ℕ → Option (List ℕ) → Option (List ℕ) → Option (List ℕ) → Option (List ℕ)
both b v own copy others = either (cond b (Some v) own) (either copy others)

both_own : (b : Bool) (v : List ℕ) (own mine others : Option (List ℕ)) → own ≡ None → others ≡ None → both b v own mine others ≡ cond b (Some v) mine
both_own true v own mine others first last = refl
both_own false v own None others first last = rw (first, last) refl
both_own false v own (Some c) others first last = rw first refl

pub found : (q : Key) (ds : List Durable) → AreApart ds → either (find key_cmp q (own_rows ds)) (find key_cmp q (all_copies ds)) ≡ session_row (session_at ds q.1.0) q
unfolding AreApart
found q [] apart = refl
found q (d ∷ ds) apart = elim (cases_Bool (same_client q.1.0 d.client)) [
  | inl t ↦
      let none = none_there q ds (rw (client_is q.1.0 d.client t) apart.0) in
      ap (either (find key_cmp q (own_rows (d ∷ ds)))) (find_both q (copy_rows d.client d.copies) (all_copies ds))
      ∙ both_own (same_key q (main_key d.client)) _ (find key_cmp q (own_rows ds)) (find key_cmp q (copy_rows d.client d.copies)) (find key_cmp q (all_copies ds)) none.0 none.1
      ∙ rw t (sym (get-from_entries keys_total (rows_of d) q))
  | inr f ↦
      let apart_from = client_differs q.1.0 d.client f in
      ap (either (find key_cmp q (own_rows (d ∷ ds)))) (find_both q (copy_rows d.client d.copies) (all_copies ds))
      ∙ rw (not_own q d apart_from, not_copy q d apart_from, f) (found q ds apart.1)
]

-- ---- clients that rise
less_first : (o : Ordering) → ordering_then o Equal ≡ Less → o ≡ Less
less_first Less h = refl
less_first Equal h = absurd cc
less_first Greater h = absurd cc

abbrev pub IsAfter : List ℕ → Durable → Type 0
IsAfter client d = slice_cmp nat_cmp client d.client ≡ Less

pub clients_above : (client : List ℕ) (ds : List Durable) → AllByRecursion (IsAbove (main_key client)) (own_rows ds) → AllByRecursion (IsAfter client) ds
clients_above client [] above = tt
clients_above client (d ∷ ds) above = (less_first (slice_cmp nat_cmp client d.client) above.0, clients_above client ds above.1)

no_session : (client : List ℕ) (ds : List Durable) → AllByRecursion (IsAfter client) ds → session_at ds client ≡ None
no_session client [] after = refl
no_session client (d ∷ ds) after = rw (after.0) (no_session client ds after.1)

pub clients_apart : (ds : List Durable) → T (is_sorted key_cmp (own_rows ds)) → AreApart ds
unfolding AreApart
clients_apart [] up = tt
clients_apart (d ∷ ds) up = (no_session d.client ds (clients_above d.client ds (sorted_head (own_row d) (own_rows ds) up)), clients_apart ds (sorted_tail (own_row d) (own_rows ds) up))

above_client : (a b : Key) → a.0 ≡ 3 → b.0 ≡ 3 → slice_cmp nat_cmp a.1.0 b.1.0 ≡ Less → key_cmp a b ≡ Less
above_client a b three also less = rw (three, also, less) refl

above_copies : (k : Key) (ds : List Durable) → k.0 ≡ 3 → AllByRecursion (IsAfter k.1.0) ds → AllByRecursion (IsAbove k) (all_copies ds)
above_copies k [] three after = tt
above_copies k (d ∷ ds) three after =
    all_both (IsAbove k) (copy_rows d.client d.copies) (all_copies ds)
    (all_turned _ (IsAbove k) (copy_rows d.client d.copies) (λ e h. above_client k e.0 three h.0 (rw h.1 after.0)) (copies_of d.client d.copies))
    (above_copies k ds three after.1)

pub all_rise : (ds : List Durable) → AllByRecursion IsDurable ds → T (is_sorted key_cmp (own_rows ds)) → T (is_sorted key_cmp (all_copies ds))
all_rise [] are up = tt
all_rise (d ∷ ds) are up =
    let after = clients_above d.client ds (sorted_head (own_row d) (own_rows ds) up) in
    sorted_both (copy_rows d.client d.copies) (all_copies ds) (copies_rise d are.0) (all_rise ds are.1 (sorted_tail (own_row d) (own_rows ds) up))
    (all_turned _ _ (copy_rows d.client d.copies) (λ e h. above_copies e.0 ds h.0 (rw h.1 after)) (copies_of d.client d.copies))

-- ---- what sessions there must be
pub session_is : (P : Durable → Type 0) (ds : List Durable) (client : List ℕ) (d : Durable) → AllByRecursion P ds → session_at ds client ≡ Some d → P d × (client ≡ d.client)
session_is P [] client d all is = absurd cc
session_is P (x ∷ ds) client d all is = elim (cases_Bool (same_client client x.client)) [
  | inl t ↦
      let here : Some x ≡ Some d = rw t at is in
      let same : x ≡ d = cc in
      subst (λ (y : Durable). P y × (client ≡ y.client)) same (all.0, client_is client x.client t)
  | inr f ↦ session_is P ds client d all.1 (rw f at is)
]

module _ (sessions : List ℕ → Option Durable) (sound : (client : List ℕ) (d : Durable) → sessions client ≡ Some d → IsDurable d × (d.client ≡ client)) where
  abbrev IsOne : Durable → Type 0
  IsOne d = (sessions d.client ≡ Some d) × IsDurable d

  -- the row is the own row of one of them
  abbrev pub IsOwn : Plain → Type 0
  IsOwn e = (d : Durable) × (sessions e.0.1.0 ≡ Some d) × (own_row d ≡ e)

  listed : (own : List Plain) → AllByRecursion IsOwn own → (ds : List Durable) × (own_rows ds ≡ own) × AllByRecursion IsOne ds
  listed [] all = ([], refl, tt)
  listed (e ∷ es) all =
      let d = all.0.0 in
      let is = sound e.0.1.0 d all.0.1 in
      let more = listed es all.1 in
      (d ∷ more.0, (λ i. all.0.2 i ∷ more.1 i), ((subst (λ (c : List ℕ). sessions c ≡ Some d) (sym is.1) all.0.1, is.0), more.2))

  -- each of them has its own row there
  abbrev pub HaveOwn : List Plain → Type 0
  HaveOwn own = (client : List ℕ) (d : Durable) → sessions client ≡ Some d → find key_cmp (main_key client) own ≡ Some (main.bytes d.main)

  no_bytes : (o : Option (List ℕ)) (v : List ℕ) → o ≡ None → o ≡ Some v → ⊥
  no_bytes o v none some = (let other : None ≡ Some v = sym none ∙ some in cc)

  all_there : (ds : List Durable) → AllByRecursion IsOne ds → HaveOwn (own_rows ds) → (client : List ℕ) → session_at ds client ≡ sessions client
  all_there ds are have client = by (session_at ds client) refl (sessions client) refl
    where
      by : (o : Option Durable) → session_at ds client ≡ o → (p : Option Durable) → sessions client ≡ p → o ≡ p
      by None h None s = refl
      by None h (Some d) s = absurd (no_bytes (find key_cmp (main_key client) (own_rows ds)) (main.bytes d.main) (none_there (main_key client) ds h).0 (have client d s))
      by (Some d) h p s = (let one = session_is IsOne ds client d are h in sym one.0.0 ∙ ap sessions (sym one.1) ∙ s)

  only_copies : (q : Key) (ds : List Durable) → q.0 ≡ 3 → AreApart ds → find key_cmp q (all_copies ds) ≡ session_row (session_at ds q.1.0) q
  only_copies q ds three apart =
      let none = find_none q (λ k. k.0 ≡ 2) (own_rows ds) (are_own ds) (λ two. let other : 2 ≡ 3 = sym two ∙ three in absurd (omega (arith, other))) in
      rw none at (found q ds apart)

  pub complete : (own copies : List Plain) → T (is_sorted key_cmp own) → T (is_sorted key_cmp copies) → AllByRecursion IsOwn own → HaveOwn own → AllByRecursion (λ e. e.0.0 ≡ 3) copies
      → ((q : Key) → q.0 ≡ 3 → find key_cmp q copies ≡ session_row (sessions q.1.0) q) → (ds : List Durable) × AreSessions own copies ds
  complete own copies up also are have kinds rows =
      let list = listed own are in
      let ds = list.0 in
      let rise = subst (λ (es : List Plain). T (is_sorted key_cmp es)) (sym list.1) up in
      let there = all_there ds list.2 (subst HaveOwn (sym list.1) have) in
      let durable = all_turned IsOne IsDurable ds (λ d h. h.1) list.2 in (
        ds,
        record {
          durable = durable;
          own_are = list.1;
          copies_are = one_list (all_copies ds) copies (all_rise ds durable rise) also (λ q. elim (cases_eq q.0 3) [
            | inl three ↦ only_copies q ds three (clients_apart ds rise) ∙ ap (λ (o : Option Durable). session_row o q) (there q.1.0) ∙ sym (rows q three)
            | inr other ↦ find_none q (λ k. k.0 ≡ 3) (all_copies ds) (are_copies ds) other ∙ sym (find_none q (λ k. k.0 ≡ 3) copies kinds other)
          ]);
        },
      )
