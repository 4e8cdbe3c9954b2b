-- The resends that are owed, by place.
use Rattle.std.proofs.Common.{◌≡◌, ◌≢◌, ℕ, ◌+◌, ◌<◌, ◌≤◌, true, false, [], ◌∷◌, Some, None, refl, sym, ◌∙◌, ap, arith, inl, inr}
use Rattle.std.specs.Prelude.{nat_le}
use Rattle.std.specs.List.{AllByRecursion}
use Rattle.std.specs.List.Sorted.{IsStrictlySortedBy}
use Rattle.std.specs.BTreeMap.{is_at}
use Rattle.std.specs.Map.{remove_entry, keys_of}
use Rattle.std.specs.Ordering.{nat_cmp}
use Rattle.std.specs.declared.cmp.Ordering.TheVariants.{Less}
use Rattle.std.proofs.lemmas.Bool.{cases_Bool, cases_eq, both_ways, leb-true, leb-false, le-leb}
use Rattle.std.proofs.lemmas.Cmp.{ranked}
use Rattle.std.proofs.lemmas.Map.Keys.{sorted_head, sorted_tail}
use Rattle.qos_handshakes.specs.declared.copies.Entry.{Entry}
use Rattle.qos_handshakes.specs.Length.{length_of}
use Rattle.qos_handshakes.specs.Entries.{Entries, write_at, at_place, as_here, place_from, AllPlacesBelow}
use Rattle.qos_handshakes.specs.Outbox.{waits, away, is_owed, fits, resent, first_owed, after_resend, without_large, AreOwedFrom, AreOwedWithin, AreAnswered, HaveOrders, IsFirstOwed, IsQueued, IsCounted}
use Rattle.qos_handshakes.proofs.Indexed.{is_at-here, is_at-apart, at-head, at-tail}
use Rattle.qos_handshakes.proofs.EntryLaws.{in_flight-away, NoneOwed}

abbrev pub AreSorted : Entries → Type 0
AreSorted es = IsStrictlySortedBy nat_cmp (keys_of es)

-- what stands at a place past a key
pub at-after : (k place : ℕ) (x : Entry) (es : Entries) → AllByRecursion (λ q. nat_cmp k q ≡ Less) (keys_of es) → at_place place es ≡ Some x → k < place
at-after k place x [] below at = let bad : None ≡ Some x = at in (cc)
at-after k place x (e ∷ es) below at = elim (cases_eq e.0 place) [
  | inl same ↦ let lt : k < e.0 = ranked k e.0 Less (sym below.0) in omega (arith, lt, same)
  | inr apart ↦ at-after k place x es below.1 (at-tail place x e es at apart)
]

-- an entry before the one at a place is not owed, where none is owed below
before : (place until : ℕ) (x : Entry) (e : ℕ × Entry) (es : Entries) → AreSorted (e ∷ es) → AreOwedWithin place until (e ∷ es) → at_place place (e ∷ es) ≡ Some x → e.0 ≢ place → is_owed e.1 ≡ false
before place until x e es sorted h at apart = elim (cases_Bool (is_owed e.1)) [
  | inl o ↦ absurd (let lt : e.0 < place = at-after e.0 place x es (sorted_head nat_cmp e.0 (keys_of es) sorted) (at-tail place x e es at apart) in let le = (h.0 o).0 in omega (arith, lt, le))
  | inr f ↦ f
]

-- ---- the first place from one on
pub place-le : (p q : ℕ) (es : Entries) → place_from p es ≡ Some q → p ≤ q
place-le p q [] is = (cc is)
place-le p q (e ∷ es) is = elim (cases_Bool (nat_le p e.0)) [
  | inl t ↦ let f : Some e.0 ≡ Some q = rw t at is in let same : e.0 ≡ q = cc in let le = leb-true p e.0 t in omega (arith, le, same)
  | inr t ↦ place-le p q es (rw t at is)
]

pub place-there : (p q : ℕ) (es : Entries) → place_from p es ≡ Some q → (x : Entry) × (at_place q es ≡ Some x)
place-there p q [] is = (cc is)
place-there p q (e ∷ es) is = elim (cases_eq e.0 q) [
  | inl same ↦ (e.1, rw (is_at-here q e.0 same) refl)
  | inr apart ↦ elim (cases_Bool (nat_le p e.0)) [
    | inl t ↦ absurd (apart (let f : Some e.0 ≡ Some q = rw t at is in cc))
    | inr t ↦ let r = place-there p q es (rw t at is) in (r.0, rw (is_at-apart q e.0 apart) r.1)
  ]
]

pub none-there : (p q : ℕ) (es : Entries) → place_from p es ≡ Some q → at_place q es ≡ None → ⊥
none-there p q es is at = let r = place-there p q es is in let bad : Some r.0 ≡ None = sym r.1 ∙ at in (cc)

abbrev Within : ℕ → ℕ → ℕ × Entry → Type 0
Within from until e = is_owed e.1 ≡ true → (from ≤ e.0) × (e.0 < until)

-- entries past a key
past-within : (k from until : ℕ) (es : Entries) → AllByRecursion (λ q. nat_cmp k q ≡ Less) (keys_of es) → AllByRecursion (Within from until) es → AllByRecursion (Within (k + 1) until) es
past-within k from until [] below h = tt
past-within k from until (e ∷ es) below h = (λ o. let lt : k < e.0 = ranked k e.0 Less (sym below.0) in (omega (arith, lt), (h.0 o).1), past-within k from until es below.1 h.1)

all-lower : (k from until : ℕ) (es : Entries) → from ≤ k → AllByRecursion (Within k until) es → AllByRecursion (Within from until) es
all-lower k from until [] le h = tt
all-lower k from until (e ∷ es) le h = (λ o. let a = (h.0 o).0 in (omega (arith, le, a), (h.0 o).1), all-lower k from until es le h.1)

pub within-found : (p q until : ℕ) (es : Entries) → AreSorted es → AreOwedWithin p until es → place_from p es ≡ Some q → AreOwedWithin q until es
within-found p q until [] sorted h is = tt
within-found p q until (e ∷ es) sorted h is = elim (cases_Bool (nat_le p e.0)) [
  | inl t ↦
      let f : Some e.0 ≡ Some q = rw t at is in let same : e.0 ≡ q = cc in
      (λ o. (omega (arith, same), (h.0 o).1), all-lower (e.0 + 1) q until es (omega (arith, same)) (past-within e.0 p until es (sorted_head nat_cmp e.0 (keys_of es) sorted) h.1))
  | inr t ↦
      let lt = leb-false p e.0 t in
      (λ o. absurd (let le = (h.0 o).0 in omega (arith, lt, le)), within-found p q until es (sorted_tail nat_cmp e.0 (keys_of es) sorted) h.1 (rw t at is))
]

-- where what stands there is not owed
pub within-past : (q until : ℕ) (x : Entry) (es : Entries) → AreSorted es → AreOwedWithin q until es → at_place q es ≡ Some x → is_owed x ≡ false → AreOwedWithin (q + 1) until es
within-past q until x [] sorted h at not' = tt
within-past q until x (e ∷ es) sorted h at not' = elim (cases_eq e.0 q) [
  | inl same ↦ (
    λ o. absurd (both_ways (is_owed e.1) (ap is_owed (at-head q x e es at same) ∙ not') o),
    all-lower (e.0 + 1) (q + 1) until es (omega (arith, same)) (past-within e.0 q until es (sorted_head nat_cmp e.0 (keys_of es) sorted) h.1),
  )
  | inr apart ↦ (
    λ o. absurd (both_ways (is_owed e.1) (before q until x e es sorted h at apart) o),
    within-past q until x es (sorted_tail nat_cmp e.0 (keys_of es) sorted) h.1 (at-tail q x e es at apart) not',
  )
]

-- where it is removed
pub within-removed : (q until : ℕ) (es : Entries) → AreSorted es → AreOwedWithin q until es → AreOwedWithin (q + 1) until (remove_entry (is_at (nat_cmp q)) es)
within-removed q until [] sorted h = tt
within-removed q until (e ∷ es) sorted h = elim (cases_eq e.0 q) [
  | inl same ↦ rw (is_at-here q e.0 same) (all-lower (e.0 + 1) (q + 1) until es (omega (arith, same)) (past-within e.0 q until es (sorted_head nat_cmp e.0 (keys_of es) sorted) h.1))
  | inr apart ↦ rw (is_at-apart q e.0 apart) (λ o. let le = (h.0 o).0 in (omega (arith, le, apart), (h.0 o).1), within-removed q until es (sorted_tail nat_cmp e.0 (keys_of es) sorted) h.1)
]

-- where none is left below the now limit
pub within-none : (p until : ℕ) (es : Entries) → AreOwedWithin p until es → place_from p es ≡ None → AreOwedWithin until until es
within-none p until [] h is = tt
within-none p until (e ∷ es) h is = elim (cases_Bool (nat_le p e.0)) [
  | inl t ↦ (let bad : Some e.0 ≡ None = rw t at is in cc)
  | inr t ↦ let lt = leb-false p e.0 t in (λ o. absurd (let le = (h.0 o).0 in omega (arith, lt, le)), within-none p until es h.1 (rw t at is))
]

pub within-end : (q until : ℕ) (es : Entries) → AreOwedWithin q until es → until ≤ q → NoneOwed es
within-end q until [] h le = tt
within-end q until (e ∷ es) h le = (
  elim (cases_Bool (is_owed e.1)) [ inl o ↦ absurd (let k = h.0 o in let a = k.0 in let b = k.1 in omega (arith, a, b, le)) | inr f ↦ f ],
  within-end q until es h.1 le,
)

pub none-within : (from until : ℕ) (es : Entries) → NoneOwed es → AreOwedWithin from until es
none-within from until [] h = tt
none-within from until (e ∷ es) h = (λ o. absurd (both_ways (is_owed e.1) h.0 o), none-within from until es h.1)

-- ---- what is ended before the first that fits
pub nothing-large : (now limit : ℕ) (es : Entries) → NoneOwed es → without_large now limit es ≡ es
nothing-large now limit [] h = refl
nothing-large now limit (e ∷ es) h = rw h.0 (ap (λ (t : Entries). e ∷ t) (nothing-large now limit es h.1))

first-found : (now limit q until : ℕ) (x : Entry) (es : Entries) → AreSorted es → AreOwedWithin q until es → at_place q es ≡ Some x → is_owed x ≡ true → fits now limit x.delivery ≡ true
    → (first_owed now limit es ≡ Some (resent x)) × (after_resend now limit es ≡ write_at as_here q es) × (without_large now limit es ≡ es)
first-found now limit q until x [] sorted h at o g = let bad : None ≡ Some x = at in (cc)
first-found now limit q until x (e ∷ es) sorted h at o g = elim (cases_eq e.0 q) [
  | inl same ↦
      let is : e.1 ≡ x = at-head q x e es at same in
      let o' : is_owed e.1 ≡ true = ap is_owed is ∙ o in let g' : fits now limit e.1.delivery ≡ true = ap (λ (y : Entry). fits now limit y.delivery) is ∙ g in
      (rw (o', g') (ap (λ (y : Entry). Some (resent y)) is), rw (o', g', is_at-here q e.0 same) refl, rw (o', g') refl)
  | inr apart ↦
      let f = before q until x e es sorted h at apart in
      let r = first-found now limit q until x es (sorted_tail nat_cmp e.0 (keys_of es) sorted) h.1 (at-tail q x e es at apart) o g in
      (rw f r.0, rw (f, is_at-apart q e.0 apart) (ap (λ (t : Entries). e ∷ t) r.1), rw f (ap (λ (t : Entries). e ∷ t) r.2))
]

pub found-fits : (now limit q until : ℕ) (x : Entry) (es : Entries) → AreSorted es → AreOwedWithin q until es → at_place q es ≡ Some x → is_owed x ≡ true → fits now limit x.delivery ≡ true → IsFirstOwed now limit q es × (without_large now limit es ≡ es)
found-fits now limit q until x es sorted h at o g =
    let r = first-found now limit q until x es sorted h at o g in (record { entry = x; at = at; owed = o; sent = r.0; left = r.1 }, r.2)

pub found-large : (now limit q until : ℕ) (x : Entry) (es : Entries) → AreSorted es → AreOwedWithin q until es → at_place q es ≡ Some x → is_owed x ≡ true → fits now limit x.delivery ≡ false → without_large now limit (remove_entry (is_at (nat_cmp q)) es) ≡ without_large now limit es
found-large now limit q until x [] sorted h at o g = refl
found-large now limit q until x (e ∷ es) sorted h at o g = elim (cases_eq e.0 q) [
  | inl same ↦
      let is : e.1 ≡ x = at-head q x e es at same in
      let o' : is_owed e.1 ≡ true = ap is_owed is ∙ o in let g' : fits now limit e.1.delivery ≡ false = ap (λ (y : Entry). fits now limit y.delivery) is ∙ g in
      rw (o', g', is_at-here q e.0 same) refl
  | inr apart ↦
      let f = before q until x e es sorted h at apart in
      rw (f, is_at-apart q e.0 apart) (rw f (ap (λ (t : Entries). e ∷ t) (found-large now limit q until x es (sorted_tail nat_cmp e.0 (keys_of es) sorted) h.1 (at-tail q x e es at apart) o g)))
]

-- ---- a new connection
below-away : (next : ℕ) (es : Entries) → AllPlacesBelow es next → AllPlacesBelow (away es) next
below-away next [] h = tt
below-away next (e ∷ es) h = (h.0, below-away next es h.1)

queued-away : (first next : ℕ) (es : Entries) → IsQueued first next es → IsQueued first next (away es)
queued-away first next [] q = q
queued-away first next (e ∷ es) q = elim (cases_Bool (waits e.1.stage)) [
  | inl w ↦ let r = rw w at q in rw w (r.0, refl, queued-away (first + 1) next es r.2)
  | inr w ↦ let r = rw w at q in rw w (r.0, queued-away first next es r.1)
]

from-zero : (es : Entries) → AreOwedFrom 0 es
from-zero [] = tt
from-zero (e ∷ es) = (λ _. omega arith, from-zero es)

answered-away : (es : Entries) → AreAnswered es → AreAnswered (away es)
answered-away [] h = tt
answered-away (e ∷ es) h = (h.0, answered-away es h.1)

orders-away : (es : Entries) → HaveOrders es → HaveOrders (away es)
orders-away [] h = tt
orders-away (e ∷ es) h = (h.0, orders-away es h.1)

-- what `resume` leaves
pub counted-resumed : (es ns : Entries) (first flight next from : ℕ) → IsCounted es first flight next from → ns ≡ away es → IsCounted ns first 0 next 0
counted-resumed es ns first flight next from h is = rw is (record {
  flight_is = sym (in_flight-away es);
  below = below-away next es h.below;
  queued = queued-away first next es h.queued;
  start = h.start;
  owed = from-zero (away es);
  answered = answered-away es h.answered;
  orders = orders-away es h.orders;
})

-- ---- what `next_owed` needs
pub ends-none : (p until now limit : ℕ) (es : Entries) → AreOwedWithin p until es → place_from p es ≡ None → (without_large now limit es ≡ es) × AreOwedWithin until until es
ends-none p until now limit es h is =
    let t = within-none p until es h is in (nothing-large now limit es (within-end until until es t (omega arith)), t)

pub ends-past : (p q until now limit : ℕ) (es : Entries) → AreSorted es → AreOwedWithin p until es → place_from p es ≡ Some q → until ≤ q → (without_large now limit es ≡ es) × AreOwedWithin until until es
ends-past p q until now limit es sorted h is past =
    let n = within-end q until es (within-found p q until es sorted h is) past in (nothing-large now limit es n, none-within until until es n)

pub fits-limit : (now limit n : ℕ) (x : Entry) → n ≡ length_of now x.delivery → n ≤ limit → fits now limit x.delivery ≡ true
fits-limit now limit n x is le = le-leb (length_of now x.delivery) limit (omega (arith, is, le))

pub passes-limit : (now limit n : ℕ) (x : Entry) → n ≡ length_of now x.delivery → limit < n → fits now limit x.delivery ≡ false
passes-limit now limit n x is lt = elim (cases_Bool (fits now limit x.delivery)) [
  | inl t ↦ absurd (let le = leb-true (length_of now x.delivery) limit t in omega (arith, is, lt, le))
  | inr f ↦ f
]
