-- A table of places by identifier finds what a search by identifier finds.
use Rattle.std.proofs.Common.{◌≡◌, ◌≢◌, ℕ, zero, suc, ◌-◌, ◌<◌, ◌≤◌, true, false, List, [], ◌∷◌, ◌++◌, Option, Some, None, IsSome, length, refl, sym, ◌∙◌, ap, arith, get_or, set, inl, inr, length-append}
use Rattle.std.specs.Prelude.{IsSomeAnd}
use Rattle.std.proofs.Math.ListN.{length-set}
use Rattle.std.proofs.lemmas.List.{get_or_past}
use Rattle.std.specs.Prelude.{OnOk, OnErr, Result, Ok, Err}
use Rattle.std.proofs.lemmas.Bool.{cases_eq, cases_lt, cases_Bool, eq-eqb, eqb-true, both_ways, false_from_ne_true, false≢true}
use Rattle.std.proofs.lemmas.Bool.Decides.{nat_tests}
use Rattle.std.proofs.lemmas.Cmp.{ranked}
use Rattle.std.proofs.lemmas.Grind.{common_steps}
use Rattle.std.proofs.lemmas.Map.Keys.{sorted_head, sorted_tail}
use Rattle.std.specs.BTreeMap.{is_at, insert_entry}
use Rattle.std.specs.Ordering.{nat_cmp}
use Rattle.std.specs.declared.cmp.Ordering.TheVariants.{Greater, Less}
use Rattle.std.specs.Map.{remove_entry, set_value, keys_of}
use Rattle.std.specs.List.{AllByRecursion}
use Rattle.std.specs.List.Sorted.{IsStrictlySortedBy}
use Rattle.qos_handshakes.specs.declared.copies.Entry.{Entry}
use Rattle.qos_handshakes.specs.declared.copies.Stage.{Stage}
use Rattle.qos_handshakes.specs.declared.copies.Stage.TheVariants.{Waiting, Published, Released}
use Rattle.qos_handshakes.specs.Outbox.{waits, away, is_owed, is_published, stage_id}
use Rattle.std.specs.Prelude.{Bool, not, ◌&&◌}
use Rattle.qos_handshakes.specs.Entries.{Entries, HasRange, stage_has, has_id, find_id, drop_id, write_id, write_at, as_published, as_released, as_here, at_place, place_in, Held, HasRoom, IsLeastFree, NoneFree, IsListed, IsIndexed, AllPlacesBelow}

-- each entry with the identifier stands at the place
abbrev pub OnlyAt : ℕ → ℕ → Entries → Type 0
OnlyAt id place es = AllByRecursion (λ e. has_id id e.1 ≡ true → e.0 ≡ place) es

abbrev pub NoneHas : ℕ → Entries → Type 0
NoneHas id es = AllByRecursion (λ e. has_id id e.1 ≡ false) es

pub is_at-here : (p k : ℕ) → k ≡ p → is_at (nat_cmp p) k ≡ true
is_at-here p k h = grind (arith, nat_tests)

pub is_at-apart : (p k : ℕ) → k ≢ p → is_at (nat_cmp p) k ≡ false
is_at-apart p k h = grind (arith, nat_tests)

pub find-none : (id : ℕ) (es : Entries) → NoneHas id es → find_id id es ≡ None
find-none id [] h = refl
find-none id (e ∷ es) h = rw h.0 (find-none id es h.1)

pub drop-none : (id : ℕ) (es : Entries) → NoneHas id es → drop_id id es ≡ es
drop-none id [] h = refl
drop-none id (e ∷ es) h = rw h.0 (ap (λ (t : Entries). e ∷ t) (drop-none id es h.1))

pub at-head : (place : ℕ) (x : Entry) (e : ℕ × Entry) (es : Entries) → at_place place (e ∷ es) ≡ Some x → e.0 ≡ place → e.1 ≡ x
at-head place x e es at here = let h : Some e.1 ≡ Some x = rw (is_at-here place e.0 here) at at in cc

pub at-tail : (place : ℕ) (x : Entry) (e : ℕ × Entry) (es : Entries) → at_place place (e ∷ es) ≡ Some x → e.0 ≢ place → at_place place es ≡ Some x
at-tail place x e es at apart = rw (is_at-apart place e.0 apart) at at

-- an entry that has not the identifier is not the one at its place
pub apart-from : (id place : ℕ) (x : Entry) (e : ℕ × Entry) (es : Entries) → at_place place (e ∷ es) ≡ Some x → has_id id x ≡ true → has_id id e.1 ≡ false → e.0 ≢ place
apart-from id place x e es at is not' = λ here. both_ways (has_id id e.1) not' (ap (has_id id) (at-head place x e es at here) ∙ is)

pub find-at : (id place : ℕ) (x : Entry) (es : Entries) → OnlyAt id place es → at_place place es ≡ Some x → has_id id x ≡ true → find_id id es ≡ Some x
find-at id place x [] only at is = at
find-at id place x (e ∷ es) only at is =
    elim (cases_Bool (has_id id e.1)) [
      | inl h ↦ rw h (ap Some (at-head place x e es at (only.0 h)))
      | inr h ↦ rw h (find-at id place x es only.1 (at-tail place x e es at (apart-from id place x e es at is h)) is)
    ]

pub drop-at : (id place : ℕ) (x : Entry) (es : Entries) → OnlyAt id place es → at_place place es ≡ Some x → has_id id x ≡ true → remove_entry (is_at (nat_cmp place)) es ≡ drop_id id es
drop-at id place x [] only at is = refl
drop-at id place x (e ∷ es) only at is =
    elim (cases_Bool (has_id id e.1)) [
      | inl h ↦ rw (h, is_at-here place e.0 (only.0 h)) refl
      | inr h ↦ let apart : e.0 ≢ place = apart-from id place x e es at is h in
          rw (h, is_at-apart place e.0 apart) (ap (λ (t : Entries). e ∷ t) (drop-at id place x es only.1 (at-tail place x e es at apart) is))
    ]

pub write-at : (f : Entry → Entry) (id place : ℕ) (x : Entry) (es : Entries) → OnlyAt id place es → at_place place es ≡ Some x → has_id id x ≡ true → write_at f place es ≡ write_id f id es
write-at f id place x [] only at is = refl
write-at f id place x (e ∷ es) only at is =
    elim (cases_Bool (has_id id e.1)) [
      | inl h ↦ rw (h, is_at-here place e.0 (only.0 h)) refl
      | inr h ↦ let apart : e.0 ≢ place = apart-from id place x e es at is h in
          rw (h, is_at-apart place e.0 apart) (ap (λ (t : Entries). e ∷ t) (write-at f id place x es only.1 (at-tail place x e es at apart) is))
    ]

pub write-none : (f : Entry → Entry) (id : ℕ) (es : Entries) → NoneHas id es → write_id f id es ≡ es
write-none f id [] h = refl
write-none f id (e ∷ es) h = rw h.0 (ap (λ (t : Entries). e ∷ t) (write-none f id es h.1))

-- a write through `get_mut`
pub set-written : (f : Entry → Entry) (place : ℕ) (x : Entry) (es : Entries) → at_place place es ≡ Some x → set_value (is_at (nat_cmp place)) es (f x) ≡ write_at f place es
set-written f place x [] at = refl
set-written f place x (e ∷ es) at =
    elim (cases_eq e.0 place) [
      | inl h ↦ rw (is_at-here place e.0 h, at-head place x e es at h) refl
      | inr h ↦ rw (is_at-apart place e.0 h) (ap (λ (t : Entries). e ∷ t) (set-written f place x es (at-tail place x e es at h)))
    ]

pub none-written : (f : Entry → Entry) (place : ℕ) (es : Entries) → at_place place es ≡ None → write_at f place es ≡ es
none-written f place [] at = refl
none-written f place (e ∷ es) at =
    elim (cases_eq e.0 place) [
      | inl h ↦ let bad : Some e.1 ≡ None = rw (is_at-here place e.0 h) at at in (cc)
      | inr h ↦ rw (is_at-apart place e.0 h) (ap (λ (t : Entries). e ∷ t) (none-written f place es (rw (is_at-apart place e.0 h) at at)))
    ]

-- what stands at places after a write
pub at-written : (f : Entry → Entry) (place : ℕ) (x : Entry) (es : Entries) → at_place place es ≡ Some x → at_place place (write_at f place es) ≡ Some (f x)
at-written f place x [] at = let bad : None ≡ Some x = at in (cc)
at-written f place x (e ∷ es) at =
    elim (cases_eq e.0 place) [
      | inl h ↦ rw (is_at-here place e.0 h, is_at-here place e.0 h) (ap (λ (y : Entry). Some (f y)) (at-head place x e es at h))
      | inr h ↦ rw (is_at-apart place e.0 h, is_at-apart place e.0 h) (at-written f place x es (at-tail place x e es at h))
    ]

pub at-written_other : (f : Entry → Entry) (p place : ℕ) (es : Entries) → p ≢ place → at_place p (write_at f place es) ≡ at_place p es
at-written_other f p place [] apart = refl
at-written_other f p place (e ∷ es) apart =
    elim (cases_eq e.0 place) [
      | inl h ↦ let other : e.0 ≢ p = λ q. apart (sym q ∙ h) in rw (is_at-here place e.0 h, is_at-apart p e.0 other) refl
      | inr h ↦ rw (is_at-apart place e.0 h) (elim (cases_eq e.0 p) [
        | inl q ↦ rw (is_at-here p e.0 q) refl
        | inr q ↦ rw (is_at-apart p e.0 q) (at-written_other f p place es apart)
      ])
    ]

-- a place past all others goes to the end
pub insert-last : (place : ℕ) (x : Entry) (es : Entries) → AllPlacesBelow es place → insert_entry nat_cmp es place x ≡ es ++ (place, x) ∷ []
insert-last place x [] h = refl
insert-last place x (e ∷ es) h = let after : nat_cmp place e.0 ≡ Greater = grind (arith, nat_tests) in rw after (ap (λ (t : Entries). e ∷ t) (insert-last place x es h.1))

-- the table's entry for an identifier is its only place
pub only-listed : (places : List ℕ) (id : ℕ) (es : Entries) → AllByRecursion (IsListed places) es → OnlyAt id (place_in places id) es
only-listed places id [] h = tt
only-listed places id (e ∷ es) h = (λ is. sym (h.0.place id is), only-listed places id es h.1)

pub none-listed : (places : List ℕ) (id : ℕ) (es : Entries) → AllByRecursion (IsListed places) es → place_in places id ≡ 0 → NoneHas id es
none-listed places id [] h z = tt
none-listed places id (e ∷ es) h z = (false_from_ne_true (has_id id e.1) (λ is. let e0 : e.0 ≡ 0 = sym (h.0.place id is) ∙ z in omega (arith, h.0.placed)), none-listed places id es h.1 z)

pub found : (o : Option Entry) (id : ℕ) → IsSomeAnd o (λ x. has_id id x ≡ true) → (x : Entry) × (o ≡ Some x) × (has_id id x ≡ true)
found None id some = absurd some
found (Some x) id some = (x, refl, some)

-- what the table points to
pub points-to : (es : Entries) (places : List ℕ) (id : ℕ) → IsIndexed es places → place_in places id ≢ 0 → (x : Entry) × (at_place (place_in places id) es ≡ Some x) × (has_id id x ≡ true)
points-to es places id h some = found (at_place (place_in places id) es) id (h.points id some)

pub at-zero : (places : List ℕ) (es : Entries) → AllByRecursion (IsListed places) es → at_place 0 es ≡ None
at-zero places [] h = refl
at-zero places (e ∷ es) h = let apart : e.0 ≢ 0 = omega (arith, h.0.placed) in rw (is_at-apart 0 e.0 apart) (at-zero places es h.1)

-- by the table or by a search
pub find-indexed : (es : Entries) (places : List ℕ) (id : ℕ) → IsIndexed es places → at_place (place_in places id) es ≡ find_id id es
find-indexed es places id h =
    elim (cases_eq (place_in places id) 0) [
      | inl z ↦ rw z (at-zero places es h.listed ∙ sym (find-none id es (none-listed places id es h.listed z)))
      | inr some ↦ let t = points-to es places id h some in t.1 ∙ sym (find-at id (place_in places id) t.0 es (only-listed places id es h.listed) t.1 t.2)
    ]

pub drop-indexed : (es : Entries) (places : List ℕ) (id : ℕ) → IsIndexed es places → place_in places id ≢ 0 → remove_entry (is_at (nat_cmp (place_in places id))) es ≡ drop_id id es
drop-indexed es places id h some =
    let t = points-to es places id h some in drop-at id (place_in places id) t.0 es (only-listed places id es h.listed) t.1 t.2

pub drop-free : (es : Entries) (places : List ℕ) (id : ℕ) → IsIndexed es places → place_in places id ≡ 0 → drop_id id es ≡ es
drop-free es places id h z = drop-none id es (none-listed places id es h.listed z)

pub one-stage : (i j : ℕ) (s : Stage) → stage_has i s ≡ true → stage_has j s ≡ true → i ≡ j
one-stage i j Waiting p q = absurd (false≢true p)
one-stage i j (Published k) p q = sym (eqb-true k i p) ∙ eqb-true k j q
one-stage i j (Released k o) p q = sym (eqb-true k i p) ∙ eqb-true k j q

-- an entry has one identifier
pub one-id : (i j : ℕ) (x y : Entry) → x ≡ y → has_id i x ≡ true → has_id j y ≡ true → i ≡ j
one-id i j x y same p q = one-stage i j x.stage p (ap (has_id j) same ∙ q)

pub same-entry : (o p : Option Entry) (x y : Entry) → o ≡ p → o ≡ Some x → p ≡ Some y → x ≡ y
same-entry o p x y e a b = let s : Some x ≡ Some y = sym a ∙ e ∙ b in cc

-- ---- the table after a write
pub place_in-set_other : (places : List ℕ) (i j v : ℕ) → j ≢ suc i → place_in (set places i v) j ≡ place_in places j
place_in-set_other places i zero v h = refl
place_in-set_other places i (suc j) v h = let apart : j ≢ i = omega (arith, h) in grind (arith, common_steps)

pub place_in-set_same : (places : List ℕ) (i v : ℕ) → i < length places → place_in (set places i v) (suc i) ≡ v
place_in-set_same places i v h = grind (arith, common_steps)

-- no entry after the one at a place has its identifier
pub none-after : (id : ℕ) (k : ℕ) (es : Entries) → AllByRecursion (λ q. nat_cmp k q ≡ Less) (keys_of es) → OnlyAt id k es → NoneHas id es
none-after id k [] below only = tt
none-after id k (e ∷ es) below only =
    (false_from_ne_true (has_id id e.1) (λ is. let lt : k < e.0 = ranked k e.0 Less (sym below.0) in let same : e.0 ≡ k = only.0 is in omega arith), none-after id k es below.1 only.1)

-- entries at other places stay
pub at-removed : (p place : ℕ) (es : Entries) → p ≢ place → at_place p (remove_entry (is_at (nat_cmp place)) es) ≡ at_place p es
at-removed p place [] apart = refl
at-removed p place (e ∷ es) apart =
    elim (cases_eq e.0 place) [
      | inl h ↦ let other : e.0 ≢ p = λ q. apart (sym q ∙ h) in rw (is_at-here place e.0 h, is_at-apart p e.0 other) refl
      | inr h ↦ rw (is_at-apart place e.0 h) (elim (cases_eq e.0 p) [
        | inl q ↦ rw (is_at-here p e.0 q) refl
        | inr q ↦ rw (is_at-apart p e.0 q) (at-removed p place es apart)
      ])
    ]

-- the same under an equal place
pub same-place : (id k place : ℕ) (es : Entries) → k ≡ place → OnlyAt id place es → OnlyAt id k es
same-place id k place [] same only = tt
same-place id k place (e ∷ es) same only = (λ is. only.0 is ∙ sym same, same-place id k place es same only.1)

pub points-dropped : (es : Entries) (places : List ℕ) (i id : ℕ) → IsIndexed es places → place_in places (suc i) ≢ 0 → i < length places → place_in (set places i 0) id ≢ 0 → IsSomeAnd (at_place (place_in (set places i 0) id) (remove_entry (is_at (nat_cmp (place_in places (suc i)))) es)) (λ x. has_id id x ≡ true)
points-dropped es places i id h some lt used =
    let ne : id ≢ suc i = λ same. used (ap (place_in (set places i 0)) same ∙ place_in-set_same places i 0 lt) in
    let stay : place_in (set places i 0) id ≡ place_in places id = place_in-set_other places i id 0 ne in
    let used' : place_in places id ≢ 0 = λ z. used (stay ∙ z) in
    let mine = points-to es places id h used' in
    let its = points-to es places (suc i) h some in
    let apart : place_in places id ≢ place_in places (suc i) = λ same. ne (one-id id (suc i) mine.0 its.0 (same-entry (at_place (place_in places id) es) (at_place (place_in places (suc i)) es) mine.0 its.0 (ap (λ (p : ℕ). at_place p es) same) mine.1 its.1) mine.2 its.2) in
    rw (stay, at-removed (place_in places id) (place_in places (suc i)) es apart) (h.points id used')

-- the other entries are listed as before
pub listed-others : (places : List ℕ) (i : ℕ) (es : Entries) → NoneHas (suc i) es → AllByRecursion (IsListed places) es → AllByRecursion (IsListed (set places i 0)) es
listed-others places i [] none h = tt
listed-others places i (e ∷ es) none h = (
  record {
    placed = h.0.placed;
    place = λ id is. place_in-set_other places i id 0 (λ same. both_ways (has_id (suc i) e.1) none.0 (ap (λ (k : ℕ). has_id k e.1) (sym same) ∙ is)) ∙ h.0.place id is;
  },
  listed-others places i es none.1 h.1,
)

pub listed-dropped : (places : List ℕ) (i place : ℕ) (es : Entries) → IsStrictlySortedBy nat_cmp (keys_of es) → OnlyAt (suc i) place es → AllByRecursion (IsListed places) es → AllByRecursion (IsListed (set places i 0)) (drop_id (suc i) es)
listed-dropped places i place [] sorted only h = tt
listed-dropped places i place (e ∷ es) sorted only h =
    elim (cases_Bool (has_id (suc i) e.1)) [
      | inl is ↦ rw is (listed-others places i es (none-after (suc i) e.0 es (sorted_head nat_cmp e.0 (keys_of es) sorted) (same-place (suc i) e.0 place es (only.0 is) only.1)) h.1)
      | inr not' ↦ rw not' ((
        record {
          placed = h.0.placed;
          place = λ id is. place_in-set_other places i id 0 (λ same. both_ways (has_id (suc i) e.1) not' (ap (λ (k : ℕ). has_id k e.1) (sym same) ∙ is)) ∙ h.0.place id is;
        },
        listed-dropped places i place es (sorted_tail nat_cmp e.0 (keys_of es) sorted) only.1 h.1,
      ))
    ]

pub indexed-dropped : (es : Entries) (places : List ℕ) (i : ℕ) → IsIndexed es places → place_in places (suc i) ≢ 0 → i < length places → IsStrictlySortedBy nat_cmp (keys_of (remove_entry (is_at (nat_cmp (place_in places (suc i)))) es)) → IsIndexed (remove_entry (is_at (nat_cmp (place_in places (suc i)))) es) (set places i 0)
indexed-dropped es places i h some lt sorted = record {
  ordered = sorted;
  listed = rw (drop-indexed es places (suc i) h some) (listed-dropped places i (place_in places (suc i)) es h.ordered (only-listed places (suc i) es h.listed) h.listed);
  points = λ id used. points-dropped es places i id h some lt used;
  small = rw length-set h.small;
}

-- an identifier in the table is within it
pub within : (places : List ℕ) (i : ℕ) → place_in places (suc i) ≢ 0 → i < length places
within places i h = elim (cases_lt i (length places)) [ inl lt ↦ lt | inr past ↦ absurd (h (get_or_past places i 0 past)) ]

-- what `remove` leaves
pub removed : (es ns : Entries) (places ps : List ℕ) (id place : ℕ) → IsIndexed es places → ps ≡ places → place ≡ place_in ps id → place ≢ 0 → ns ≡ remove_entry (is_at (nat_cmp place)) es → IsStrictlySortedBy nat_cmp (keys_of ns) → IsIndexed ns (set places (id - 1) 0) × (ns ≡ drop_id id es)
removed es ns places ps zero place h same is some gone sorted = absurd (some is)
removed es ns places ps (suc i) place h same is some gone sorted =
    let e : place ≡ place_in places (suc i) = is ∙ ap (λ (q : List ℕ). place_in q (suc i)) same in
    let some' : place_in places (suc i) ≢ 0 = λ z. some (e ∙ z) in
    let gone' : ns ≡ remove_entry (is_at (nat_cmp (place_in places (suc i)))) es = gone ∙ ap (λ (p : ℕ). remove_entry (is_at (nat_cmp p)) es) e in
    let back : suc i - 1 ≡ i = omega arith in
    (rw (back, gone') (indexed-dropped es places i h some' (within places i some') (rw gone' at sorted)), gone' ∙ drop-indexed es places (suc i) h some')

pub at-appended : (p : ℕ) (es t : Entries) (P : Entry → Type 0) → IsSomeAnd (at_place p es) P → IsSomeAnd (at_place p (es ++ t)) P
at-appended p [] t P h = absurd h
at-appended p (e ∷ es) t P h =
    elim (cases_eq e.0 p) [
      | inl q ↦ rw (is_at-here p e.0 q) (rw (is_at-here p e.0 q) at h)
      | inr q ↦ rw (is_at-apart p e.0 q) (at-appended p es t P (rw (is_at-apart p e.0 q) at h))
    ]

pub listed-appended : (places : List ℕ) (es : Entries) (e : ℕ × Entry) → AllByRecursion (IsListed places) es → IsListed places e → AllByRecursion (IsListed places) (es ++ e ∷ [])
listed-appended places [] e h l = (l, tt)
listed-appended places (x ∷ es) e h l = (h.0, listed-appended places es e h.1 l)

-- what `insert` of a copy that waits leaves
pub pushed : (es ns : Entries) (places : List ℕ) (place : ℕ) (x : Entry) → IsIndexed es places → AllPlacesBelow es place → 1 ≤ place → x.stage ≡ Waiting → ns ≡ insert_entry nat_cmp es place x → IsStrictlySortedBy nat_cmp (keys_of ns) → IsIndexed ns places × (ns ≡ es ++ (place, x) ∷ [])
pushed es ns places place x h past counted waits is sorted =
    let e : ns ≡ es ++ (place, x) ∷ [] = is ∙ insert-last place x es past in (
      record {
        ordered = sorted;
        listed = rw e (listed-appended places es (place, x) h.listed (record { placed = counted; place = λ id has. absurd (false≢true (ap (stage_has id) (sym waits) ∙ has)) }));
        points = λ id some. rw e (at-appended (place_in places id) es ((place, x) ∷ []) (λ y. has_id id y ≡ true) (h.points id some));
        small = h.small;
      },
      e,
    )

-- the same, or nothing for want of memory
pub pushed-or-not : {T E : Type 0} (r : Result T E) (es ns : Entries) (places : List ℕ) (place : ℕ) (x : Entry) → IsIndexed es places → AllPlacesBelow es place → 1 ≤ place → x.stage ≡ Waiting → OnOk r (ns ≡ insert_entry nat_cmp es place x) → OnErr r (ns ≡ es) → IsStrictlySortedBy nat_cmp (keys_of ns) → IsIndexed ns places
pushed-or-not (Ok v) es ns places place x h past counted waits is same sorted = (pushed es ns places place x h past counted waits is sorted).0
pushed-or-not (Err e) es ns places place x h past counted waits is same sorted = rw same h

-- ---- the view
abbrev pub held_of : Entries → ℕ → Held
held_of es n = record { entries = es; slots = n }

pub held : (es ns : Entries) (m n : ℕ) → ns ≡ es → n ≡ m → held_of ns n ≡ held_of es m
held es ns m n a b = rw (a, b) refl

-- ---- a write at a place
-- past a key, what holds of entries at other keys
pub past-head : (Q : ℕ × Entry → Type 0) (k : ℕ) (es : Entries) → AllByRecursion (λ q. nat_cmp k q ≡ Less) (keys_of es) → AllByRecursion (λ e. e.0 ≢ k → Q e) es → AllByRecursion Q es
past-head Q k [] below h = tt
past-head Q k (e ∷ es) below h =
    let lt : k < e.0 = ranked k e.0 Less (sym below.0) in let apart : e.0 ≢ k = omega arith in (h.0 apart, past-head Q k es below.1 h.1)

pub listed-written : (ps : List ℕ) (f : Entry → Entry) (place : ℕ) (es : Entries) → 1 ≤ place → ((x : Entry) (j : ℕ) → has_id j (f x) ≡ true → place_in ps j ≡ place) → IsStrictlySortedBy nat_cmp (keys_of es) → AllByRecursion (λ e. e.0 ≢ place → IsListed ps e) es → AllByRecursion (IsListed ps) (write_at f place es)
listed-written ps f place [] counted new sorted h = tt
listed-written ps f place (e ∷ es) counted new sorted h =
    elim (cases_eq e.0 place) [
      | inl same ↦ rw (is_at-here place e.0 same) (
        (record { placed = omega arith; place = λ j has. new e.1 j has ∙ sym same }),
        past-head (IsListed ps) place es (rw same at (sorted_head nat_cmp e.0 (keys_of es) sorted)) h.1,
      )
      | inr apart ↦ rw (is_at-apart place e.0 apart) (h.0 apart, listed-written ps f place es counted new (sorted_tail nat_cmp e.0 (keys_of es) sorted) h.1)
    ]

pub keys-written : (f : Entry → Entry) (place : ℕ) (es : Entries) → keys_of (write_at f place es) ≡ keys_of es
keys-written f place [] = refl
keys-written f place (e ∷ es) =
    elim (cases_eq e.0 place) [
      | inl same ↦ rw (is_at-here place e.0 same) refl
      | inr apart ↦ rw (is_at-apart place e.0 apart) (ap (λ (t : List ℕ). e.0 ∷ t) (keys-written f place es))
    ]

pub listed-elsewhere : (places : List ℕ) (place : ℕ) (es : Entries) → AllByRecursion (IsListed places) es → AllByRecursion (λ e. e.0 ≢ place → IsListed places e) es
listed-elsewhere places place [] h = tt
listed-elsewhere places place (e ∷ es) h = (λ _. h.0, listed-elsewhere places place es h.1)

-- what stands at a place is placed
pub placed-at : (places : List ℕ) (place : ℕ) (x : Entry) (es : Entries) → AllByRecursion (IsListed places) es → at_place place es ≡ Some x → 1 ≤ place
placed-at places place x [] h at = let bad : None ≡ Some x = at in (cc)
placed-at places place x (e ∷ es) h at = elim (cases_eq e.0 place) [
  | inl same ↦ omega (arith, h.0.placed)
  | inr apart ↦ placed-at places place x es h.1 (at-tail place x e es at apart)
]

pub some-and : (o : Option Entry) (x : Entry) (P : Entry → Type 0) → o ≡ Some x → P x → IsSomeAnd o P
some-and o x P e p = rw e p

-- the exchange of an identifier, changed under its identifier
pub indexed-released : (es : Entries) (places : List ℕ) (id order : ℕ) → IsIndexed es places → place_in places id ≢ 0 → IsIndexed (write_at (as_released id order) (place_in places id) es) places
indexed-released es places id order h some =
    let its = points-to es places id h some in
    let place = place_in places id in
    record {
      ordered = rw (keys-written (as_released id order) place es) h.ordered;
      listed = listed-written places (as_released id order) place es (placed-at places place its.0 es h.listed its.1)
          (λ x j has. ap (place_in places) (sym (eqb-true id j has))) h.ordered (listed-elsewhere places place es h.listed);
      points = λ j used. elim (cases_eq (place_in places j) place) [
        | inl same ↦
            let mine = points-to es places j h used in
            let one : j ≡ id = one-id j id mine.0 its.0 (same-entry (at_place (place_in places j) es) (at_place place es) mine.0 its.0 (ap (λ (p : ℕ). at_place p es) same) mine.1 its.1) mine.2 its.2 in
            some-and _ (as_released id order its.0) (λ y. has_id j y ≡ true) (ap (λ (p : ℕ). at_place p (write_at (as_released id order) place es)) same ∙ at-written (as_released id order) place its.0 es its.1) (eq-eqb id j (sym one))
        | inr apart ↦ rw (at-written_other (as_released id order) (place_in places j) place es apart) (h.points j used)
      ];
      small = h.small;
    }

pub waits-has : (id : ℕ) (s : Stage) → waits s ≡ true → stage_has id s ≡ false
waits-has id Waiting w = refl
waits-has id (Published j) w = absurd (false≢true w)
waits-has id (Released j o) w = absurd (false≢true w)

-- the entries elsewhere are listed after a write at a free slot
pub listed-beside : (places : List ℕ) (i place : ℕ) (es : Entries) → place_in places (suc i) ≡ 0 → AllByRecursion (IsListed places) es → AllByRecursion (λ e. e.0 ≢ place → IsListed (set places i place) e) es
listed-beside places i place [] free h = tt
listed-beside places i place (e ∷ es) free h = (
  λ _. record {
    placed = h.0.placed;
    place = λ j has.
        let ne : j ≢ suc i = λ same. let z : e.0 ≡ 0 = sym (h.0.place j has) ∙ ap (place_in places) same ∙ free in omega (arith, h.0.placed) in
        place_in-set_other places i j place ne ∙ h.0.place j has;
  },
  listed-beside places i place es free h.1,
)

pub indexed-published : (es : Entries) (places : List ℕ) (i place : ℕ) (x : Entry) → IsIndexed es places → at_place place es ≡ Some x → waits x.stage ≡ true → place_in places (suc i) ≡ 0 → i < length places → IsIndexed (write_at (as_published (suc i)) place es) (set places i place)
indexed-published es places i place x h at w free lt =
    let counted : 1 ≤ place = placed-at places place x es h.listed at in
    record {
      ordered = rw (keys-written (as_published (suc i)) place es) h.ordered;
      listed = listed-written (set places i place) (as_published (suc i)) place es counted
          (λ y j has. ap (place_in (set places i place)) (sym (eqb-true (suc i) j has)) ∙ place_in-set_same places i place lt) h.ordered (listed-beside places i place es free h.listed);
      points = λ j used. elim (cases_eq j (suc i)) [
        | inl same ↦ some-and _ (as_published (suc i) x) (λ y. has_id j y ≡ true)
            (ap (λ (k : ℕ). at_place (place_in (set places i place) k) (write_at (as_published (suc i)) place es)) same ∙ ap (λ (p : ℕ). at_place p (write_at (as_published (suc i)) place es)) (place_in-set_same places i place lt) ∙ at-written (as_published (suc i)) place x es at)
            (eq-eqb (suc i) j (sym same))
        | inr ne ↦
            let stay : place_in (set places i place) j ≡ place_in places j = place_in-set_other places i j place ne in
            let used' : place_in places j ≢ 0 = λ z. used (stay ∙ z) in
            let mine = points-to es places j h used' in
            let apart : place_in places j ≢ place = λ same. both_ways (has_id j x) (waits-has j x.stage w) (ap (has_id j) (same-entry (at_place place es) (at_place (place_in places j) es) x mine.0 (ap (λ (p : ℕ). at_place p es) (sym same)) at mine.1) ∙ mine.2) in
            rw (stay, at-written_other (as_published (suc i)) (place_in places j) place es apart) (h.points j used')
      ];
      small = rw length-set h.small;
    }

-- ---- the least free identifier
pub used-below : (es : Entries) (places : List ℕ) (free k : ℕ) → IsIndexed es places → ((j : ℕ) → j < free → get_or places j 0 ≢ 0) → 1 ≤ k → k ≤ free → IsSome (find_id k es)
used-below es places free zero h scan first last = absurd (omega arith)
used-below es places free (suc j) h scan first last =
    let used : place_in places (suc j) ≢ 0 = scan j (omega arith) in
    let its = points-to es places (suc j) h used in
    rw (sym (find-indexed es places (suc j) h) ∙ its.1) refl

pub ready-none : (es : Entries) (places : List ℕ) (free : ℕ) → IsIndexed es places → 65535 ≤ free → ((j : ℕ) → j < free → get_or places j 0 ≢ 0) → NoneFree es
ready-none es places free h full scan = λ k first last. used-below es places free k h scan first (omega arith)

pub ready-least : (es : Entries) (places : List ℕ) (free : ℕ) → IsIndexed es places → free < 65535 → get_or places free 0 ≡ 0 → ((j : ℕ) → j < free → get_or places j 0 ≢ 0) → IsLeastFree es (suc free)
ready-least es places free h room zero' scan = record {
  first = omega arith;
  last = omega arith;
  free = find-none (suc free) es (none-listed places (suc free) es h.listed zero');
  least = λ k first below. used-below es places free k h scan first (omega arith);
}

pub more : (places : List ℕ) (i : ℕ) → get_or (places ++ 0 ∷ []) i 0 ≡ get_or places i 0
more [] zero = refl
more [] (suc i) = refl
more (p ∷ ps) zero = refl
more (p ∷ ps) (suc i) = more ps i

pub place_in-more : (places : List ℕ) (id : ℕ) → place_in (places ++ 0 ∷ []) id ≡ place_in places id
place_in-more places zero = refl
place_in-more places (suc i) = more places i

pub listed-more : (places : List ℕ) (es : Entries) → AllByRecursion (IsListed places) es → AllByRecursion (IsListed (places ++ 0 ∷ [])) es
listed-more places [] h = tt
listed-more places (e ∷ es) h = (record { placed = h.0.placed; place = λ j has. place_in-more places j ∙ h.0.place j has }, listed-more places es h.1)

pub ready-more : (es : Entries) (places ns : List ℕ) → IsIndexed es places → length places < 65535 → ns ≡ places ++ 0 ∷ [] → IsIndexed es ns
ready-more es places ns h room is = rw is (record {
  ordered = h.ordered;
  listed = listed-more places es h.listed;
  points = λ id used. rw (place_in-more places id) (h.points id (λ z. used (place_in-more places id ∙ z)));
  small = rw length-append (omega arith);
})

-- ---- a copy that is left out
pub waiting-at : (o : Option Entry) → IsSomeAnd o (λ x. waits x.stage ≡ true) → (x : Entry) × (o ≡ Some x) × (waits x.stage ≡ true)
waiting-at None h = absurd h
waiting-at (Some x) h = (x, refl, h)

pub listed-removed : (places : List ℕ) (place : ℕ) (es : Entries) → AllByRecursion (IsListed places) es → AllByRecursion (IsListed places) (remove_entry (is_at (nat_cmp place)) es)
listed-removed places place [] h = tt
listed-removed places place (e ∷ es) h = elim (cases_eq e.0 place) [
  | inl same ↦ rw (is_at-here place e.0 same) h.1
  | inr apart ↦ rw (is_at-apart place e.0 apart) (h.0, listed-removed places place es h.1)
]

pub indexed-left : (es ns : Entries) (places : List ℕ) (place : ℕ) → IsIndexed es places → IsSomeAnd (at_place place es) (λ x. waits x.stage ≡ true) → ns ≡ remove_entry (is_at (nat_cmp place)) es → IsStrictlySortedBy nat_cmp (keys_of ns) → IsIndexed ns places
indexed-left es ns places place h w is sorted =
    let its = waiting-at (at_place place es) w in
    record {
      ordered = sorted;
      listed = rw is (listed-removed places place es h.listed);
      points = λ id used.
          let mine = points-to es places id h used in
          let apart : place_in places id ≢ place = λ same. both_ways (has_id id its.0) (waits-has id its.0.stage its.2) (ap (has_id id) (same-entry (at_place place es) (at_place (place_in places id) es) its.0 mine.0 (ap (λ (p : ℕ). at_place p es) (sym same)) its.1 mine.1) ∙ mine.2) in
          rw (is, at-removed (place_in places id) place es apart) (h.points id used);
      small = h.small;
    }

-- what `publish` leaves
pub published : (es ns : Entries) (places : List ℕ) (id place : ℕ) → IsIndexed es places → IsSomeAnd (at_place place es) (λ x. waits x.stage ≡ true) → IsLeastFree es id → id ≤ length places → ns ≡ write_at (as_published id) place es → IsIndexed ns (set places (id - 1) place)
published es ns places zero place h w free room is = absurd (omega (arith, free.first))
published es ns places (suc i) place h w free room is =
    let its = waiting-at (at_place place es) w in
    let back : suc i - 1 ≡ i = omega arith in
    let lt : i < length places = omega arith in
    let none : place_in places (suc i) ≡ 0 = elim (cases_eq (place_in places (suc i)) 0) [
      | inl z ↦ z
      | inr some ↦ let its' = points-to es places (suc i) h some in let bad : Some its'.0 ≡ None = sym its'.1 ∙ find-indexed es places (suc i) h ∙ free.free in (cc)
    ] in
    rw (back, is) (indexed-published es places i place its.0 h its.1 its.2 none lt)

-- what `release` leaves
pub released : (es ns : Entries) (places ps : List ℕ) (id place order : ℕ) → IsIndexed es places → ps ≡ places → place ≡ place_in ps id → ns ≡ write_at (as_released id order) place es → IsIndexed ns places × (ns ≡ write_id (as_released id order) id es)
released es ns places ps id place order h same at is =
    let e : place ≡ place_in places id = at ∙ ap (λ (q : List ℕ). place_in q id) same in
    elim (cases_eq (place_in places id) 0) [
      | inl z ↦
          let n : ns ≡ es = is ∙ ap (λ (p : ℕ). write_at (as_released id order) p es) (e ∙ z) ∙ none-written (as_released id order) 0 es (at-zero places es h.listed) in
          (rw n h, n ∙ sym (write-none (as_released id order) id es (none-listed places id es h.listed z)))
      | inr some ↦
          let its = points-to es places id h some in
          let n : ns ≡ write_at (as_released id order) (place_in places id) es = is ∙ ap (λ (p : ℕ). write_at (as_released id order) p es) e in
          (rw n (indexed-released es places id order h some), n ∙ write-at (as_released id order) id (place_in places id) its.0 es (only-listed places id es h.listed) its.1 its.2)
    ]

-- ---- room for an identifier
pub room-free : (es : Entries) (places : List ℕ) (free : ℕ) → IsIndexed es places → free < length places → get_or places free 0 ≡ 0 → HasRoom (held_of es (length places))
room-free es places free h lt zero' = inr (suc free, omega arith, omega (arith, lt), find-none (suc free) es (none-listed places (suc free) es h.listed zero'))

pub room-more : (es : Entries) (places ns : List ℕ) (free : ℕ) → IsIndexed es places → free ≡ length places → ns ≡ places ++ 0 ∷ [] → HasRoom (held_of es (length ns))
room-more es places ns free h all is =
    let past : length places ≤ free = omega (arith, all) in
    inr (suc free, omega arith, rw (is, length-append {A = ℕ}) (omega (arith, all)), find-none (suc free) es (none-listed places (suc free) es h.listed (get_or_past places free 0 past)))

pub least-none : (es : Entries) (places : List ℕ) (free : ℕ) → IsIndexed es places → length places ≤ free → ((j : ℕ) → j < free → get_or places j 0 ≢ 0) → HasRoom (held_of es (length places)) → NoneFree es
least-none es places free h all scan (inl full) = ready-none es places free h (omega (arith, all, full)) scan
least-none es places free h all scan (inr room) =
    let some : IsSome (find_id room.0 es) = used-below es places free room.0 h scan room.1 (omega (arith, all, room.2)) in absurd (false≢true (rw (room.3) at some))

-- where every slot is used, and one may be added, there is no room
pub lacks-room : (es : Entries) (places : List ℕ) (free : ℕ) → IsIndexed es places → length places ≤ free → length places < 65535 → ((j : ℕ) → j < free → get_or places j 0 ≢ 0) → HasRoom (held_of es (length places)) → ⊥
lacks-room es places free h all few scan (inl full) = omega (arith, few, full)
lacks-room es places free h all few scan (inr room) =
    let some : IsSome (find_id room.0 es) = used-below es places free room.0 h scan room.1 (omega (arith, all, room.2)) in false≢true (rw (room.3) at some)

-- ---- an exchange that ends where it stands
listed-at : (places : List ℕ) (id place : ℕ) (x : Entry) (es : Entries) → AllByRecursion (IsListed places) es → at_place place es ≡ Some x → has_id id x ≡ true → place_in places id ≡ place
listed-at places id place x [] h at is = let bad : None ≡ Some x = at in (cc)
listed-at places id place x (e ∷ es) h at is = elim (cases_eq e.0 place) [
  | inl same ↦ h.0.place id (ap (has_id id) (at-head place x e es at same) ∙ is) ∙ same
  | inr apart ↦ listed-at places id place x es h.1 (at-tail place x e es at apart) is
]

pub owed-id : (s : Stage) (here : Bool) → is_published s && not here ≡ true → stage_has (stage_id s) s ≡ true
owed-id Waiting here o = absurd (false≢true o)
owed-id (Published id) here o = eq-eqb id id refl
owed-id (Released id order) here o = absurd (false≢true o)

pub ended-at : (es : Entries) (places : List ℕ) (place id : ℕ) (x : Entry) → IsIndexed es places → at_place place es ≡ Some x → IsSomeAnd (at_place place es) (λ y. is_owed y ≡ true) → id ≡ stage_id x.stage → drop_id id es ≡ remove_entry (is_at (nat_cmp place)) es
ended-at es places place id x h at owed is =
    let o : is_owed x ≡ true = rw at at owed in
    let has : has_id id x ≡ true = rw is (owed-id x.stage x.here o) in
    sym (drop-at id place x es (same-place id place (place_in places id) es (sym (listed-at places id place x es h.listed at has)) (only-listed places id es h.listed)) at has)

-- ---- what is sent again, and a new connection
listed-here : (places : List ℕ) (place : ℕ) (es : Entries) → AllByRecursion (IsListed places) es → AllByRecursion (IsListed places) (write_at as_here place es)
listed-here places place [] h = tt
listed-here places place (e ∷ es) h = elim (cases_Bool (is_at (nat_cmp place) e.0)) [
  | inl t ↦ rw t (record { placed = h.0.placed; place = λ id has. h.0.place id has }, h.1)
  | inr f ↦ rw f (h.0, listed-here places place es h.1)
]

pub has-at : (Q : Entry → Type 0) (place p : ℕ) (es : Entries) → ((x : Entry) → Q x → Q (as_here x)) → IsSomeAnd (at_place p es) Q → IsSomeAnd (at_place p (write_at as_here place es)) Q
has-at Q place p [] k h = h
has-at Q place p (e ∷ es) k h = elim (cases_eq e.0 place) [
  | inl same ↦ elim (cases_eq e.0 p) [
    | inl here ↦ rw (is_at-here place e.0 same, is_at-here p e.0 here) (k e.1 (rw (is_at-here p e.0 here) at h))
    | inr away' ↦ rw (is_at-here place e.0 same, is_at-apart p e.0 away') (rw (is_at-apart p e.0 away') at h)
  ]
  | inr apart ↦ elim (cases_eq e.0 p) [
    | inl here ↦ rw (is_at-apart place e.0 apart, is_at-here p e.0 here) (rw (is_at-here p e.0 here) at h)
    | inr away' ↦ rw (is_at-apart place e.0 apart, is_at-apart p e.0 away') (has-at Q place p es k (rw (is_at-apart p e.0 away') at h))
  ]
]

pub indexed-here : (es ns : Entries) (places : List ℕ) (place : ℕ) → IsIndexed es places → ns ≡ write_at as_here place es → IsIndexed ns places
indexed-here es ns places place h is = rw is (record {
  ordered = rw (keys-written as_here place es) h.ordered;
  listed = listed-here places place es h.listed;
  points = λ id used. has-at (λ x. has_id id x ≡ true) place (place_in places id) es (λ x t. t) (h.points id used);
  small = h.small;
})

keys-away : (es : Entries) → keys_of (away es) ≡ keys_of es
keys-away [] = refl
keys-away (e ∷ es) = ap (λ (t : List ℕ). e.0 ∷ t) (keys-away es)

listed-away : (places : List ℕ) (es : Entries) → AllByRecursion (IsListed places) es → AllByRecursion (IsListed places) (away es)
listed-away places [] h = tt
listed-away places (e ∷ es) h = (record { placed = h.0.placed; place = λ id has. h.0.place id has }, listed-away places es h.1)

at-away : (id p : ℕ) (es : Entries) → IsSomeAnd (at_place p es) (λ x. has_id id x ≡ true) → IsSomeAnd (at_place p (away es)) (λ x. has_id id x ≡ true)
at-away id p [] h = h
at-away id p (e ∷ es) h = elim (cases_eq e.0 p) [
  | inl here ↦ rw (is_at-here p e.0 here) (rw (is_at-here p e.0 here) at h)
  | inr apart ↦ rw (is_at-apart p e.0 apart) (at-away id p es (rw (is_at-apart p e.0 apart) at h))
]

pub indexed-away : (es ns : Entries) (places : List ℕ) → IsIndexed es places → ns ≡ away es → IsIndexed ns places
indexed-away es ns places h is = rw is (record {
  ordered = rw (keys-away es) h.ordered;
  listed = listed-away places es h.listed;
  points = λ id used. at-away id (place_in places id) es (h.points id used);
  small = h.small;
})

-- ---- identifiers are in range
place-range : (places : List ℕ) (id : ℕ) → length places ≤ 65535 → place_in places id ≢ 0 → (1 ≤ id) × (id ≤ 65535)
place-range places zero small some = absurd (some refl)
place-range places (suc i) small some = let lt = within places i some in (omega arith, omega (arith, lt, small))

listed-range : (places : List ℕ) (es : Entries) → length places ≤ 65535 → AllByRecursion (IsListed places) es → AllByRecursion (λ e. HasRange e.1) es
listed-range places [] small h = tt
listed-range places (e ∷ es) small h = (
  λ id is. place-range places id small (λ z. let e0 : e.0 ≡ 0 = sym (h.0.place id is) ∙ z in omega (arith, h.0.placed, e0)),
  listed-range places es small h.1,
)

pub in-range : (es : Entries) (places : List ℕ) → IsIndexed es places → AllByRecursion (λ e. HasRange e.1) es
in-range es places h = listed-range places es h.small h.listed
