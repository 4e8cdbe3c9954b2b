-- PUBRELs, as the calls tell them.
use Rattle.std.proofs.Common.{◌≡◌, ◌≢◌, ℕ, ◌+◌, ◌<◌, ◌≤◌, true, false, cond, not, List, [], ◌∷◌, ◌++◌, ◌⊎◌, Option, Some, None, refl, sym, ◌∙◌, ap, arith, inl, inr}
use Rattle.std.specs.Prelude.{◌==◌, nat_lt}
use Rattle.std.proofs.lemmas.Bool.{cases_Bool, cases_eq, cases_lt, eqb-true, eq-eqb, ne_eqb, both_ways, and_parts, false≢true, ltb-true, ltb-false, lt-ltb}
use Rattle.std.proofs.lemmas.Bool.Decides.{nat_tests}
use Rattle.std.specs.BTreeMap.{insert_entry}
use Rattle.std.specs.Map.{values_of}
use Rattle.std.specs.Ordering.{nat_cmp}
use Rattle.std.specs.declared.cmp.Ordering.TheVariants.{Less, Equal, Greater}
use Rattle.std.specs.List.{AllByRecursion}
use Rattle.qos_handshakes.specs.declared.answers.Offer.{Offer}
use Rattle.qos_handshakes.specs.declared.answers.Offer.TheVariants.{Queued, Full, AtEnd}
use Rattle.qos_handshakes.specs.declared.answers.Ack.{Ack}
use Rattle.qos_handshakes.specs.declared.answers.Ack.TheVariants.{Done, Unknown}
use Rattle.qos_handshakes.specs.declared.answers.Rec.{Rec}
use Rattle.qos_handshakes.specs.declared.answers.Rec.TheVariants as rec
use Rattle.qos_handshakes.specs.declared.copies.Entry.{Entry}
use Rattle.qos_handshakes.specs.declared.copies.Stage.{Stage}
use Rattle.qos_handshakes.specs.declared.copies.Stage.TheVariants.{Waiting, Published, Released}
use Rattle.mqtt_fields.specs.declared.options.Qos.{Qos}
use Rattle.mqtt_fields.specs.declared.options.Qos.TheVariants.{AtMostOnce, AtLeastOnce, ExactlyOnce}
use Rattle.mqtt_message.specs.declared.delivery.Delivery.{Delivery}
use Rattle.qos_handshakes.specs.Entries.{Entries, stage_has, has_id, find_id, drop_id, write_id, as_released}
use Rattle.qos_handshakes.specs.Outbox.{Outbox, Sent, chosen, waits, is_published, is_released, is_acknowledged, is_completed, takes_pubrec, stage_pair, released_pair, sorted, by_release, stage_order, order_above, after_resend, NextStep, OfferStep, EndStep, ReceivedIf, empty_outbox}
use Rattle.law_handshakes.specs.Runs.{Step, offered, acknowledged, completed, received, resumed, listed, asked, lost, Takes, Run}
use Rattle.law_handshakes.specs.Numbers.{AreNumbered, NoneHas}
use Rattle.qos_handshakes.specs.Touched.{is_in}
use Rattle.law_handshakes.specs.Lists.{without}
use Rattle.law_handshakes.specs.Releases.{pubrecs_after, ReleasesKnown, AllReleasesKnown, KeepsReleases, pubrecs_in, KeepsReleasesFirst}
use Rattle.qos_handshakes.proofs.EntryLaws.{none-head, none-tail}
use Rattle.law_handshakes.proofs.NumberLaws.{numbered-step}
use Rattle.law_handshakes.proofs.ChosenLaws.{chosen-offered, chosen-dropped, chosen-away, chosen-resent, chosen-sent, chosen-none_sent}
use Rattle.law_handshakes.proofs.ResendLaws.{found-acknowledged, found-completed}
use Rattle.law_handshakes.proofs.QuotaLaws.{numbered-later}
use Rattle.law_handshakes.proofs.OpenLaws.{all-both, all-tail}

-- an order of release, and the identifier
abbrev pub Pair : Type 0
Pair = ℕ × ℕ

abbrev pub pairs : Entries → List Pair
pairs es = chosen released_pair es

-- ---- comparisons
less : (a b : ℕ) → a < b → nat_cmp a b ≡ Less
less a b h = grind (arith, nat_tests)

equal : (a b : ℕ) → a ≡ b → nat_cmp a b ≡ Equal
equal a b h = grind (arith, nat_tests)

greater : (a b : ℕ) → b < a → nat_cmp a b ≡ Greater
greater a b h = grind (arith, nat_tests)

-- a lies before b, at it or after it
compared : (a b : ℕ) → (a < b) ⊎ ((a ≡ b) ⊎ (b < a))
compared a b = elim (cases_lt a b) [
  | inl h ↦ inl h
  | inr h ↦ elim (cases_eq a b) [ inl e ↦ inr (inl e) | inr n ↦ let k : b < a = omega (arith, h, n) in inr (inr k) ]
]

-- ---- insertion into pairs by order
all-inserted : (Q : Pair → Type 0) (k v : ℕ) (S : List Pair) → AllByRecursion Q S → Q (k, v) → AllByRecursion Q (insert_entry nat_cmp S k v)
all-inserted Q k v [] h q = (q, tt)
all-inserted Q k v (s ∷ S) h q = elim (compared k s.0) [
  | inl c ↦ rw (less k s.0 c) (q, h)
  | inr c ↦ elim c [
    | inl c ↦ rw (equal k s.0 c) (rw c at q, h.1)
    | inr c ↦ rw (greater k s.0 c) (h.0, all-inserted Q k v S h.1 q)
  ]
]

pub all-sorted : (Q : Pair → Type 0) (xs : List Pair) → AllByRecursion Q xs → AllByRecursion Q (sorted xs)
all-sorted Q [] h = tt
all-sorted Q (x ∷ xs) h = all-inserted Q x.0 x.1 (sorted xs) (all-sorted Q xs h.1) h.0

-- past all others
insert-past : (k v : ℕ) (S : List Pair) → AllByRecursion (λ s. s.0 < k) S → insert_entry nat_cmp S k v ≡ S ++ (k, v) ∷ []
insert-past k v [] h = refl
insert-past k v (s ∷ S) h = rw (greater k s.0 h.0) (ap (λ (t : List Pair). s ∷ t) (insert-past k v S h.1))

-- before the last
insert-before : (k v : ℕ) (z : Pair) (S : List Pair) → k < z.0 → insert_entry nat_cmp (S ++ z ∷ []) k v ≡ insert_entry nat_cmp S k v ++ z ∷ []
insert-before k v z [] h = rw (less k z.0 h) refl
insert-before k v z (s ∷ S) h = elim (compared k s.0) [
  | inl c ↦ rw (less k s.0 c) refl
  | inr c ↦ elim c [
    | inl c ↦ rw (equal k s.0 c) refl
    | inr c ↦ rw (greater k s.0 c) (ap (λ (t : List Pair). s ∷ t) (insert-before k v z S h))
  ]
]

all-more : (k n : ℕ) (S : List Pair) → k < n → AllByRecursion (λ t. n < t.0) S → AllByRecursion (λ t. k < t.0) S
all-more k n [] lt h = tt
all-more k n (s ∷ S) lt h = (omega (arith, lt, h.0), all-more k n S lt h.1)

-- the pairs rise
abbrev AreRising : List Pair → Type 0
AreRising [] = Unit {0}
AreRising (s ∷ S) = AllByRecursion (λ t. s.0 < t.0) S × AreRising S

rising-inserted : (k v : ℕ) (S : List Pair) → AreRising S → AreRising (insert_entry nat_cmp S k v)
rising-inserted k v [] h = (tt, tt)
rising-inserted k v (s ∷ S) h = elim (compared k s.0) [
  | inl c ↦ rw (less k s.0 c) ((c, all-more k s.0 S c h.0), h)
  | inr c ↦ elim c [
    | inl c ↦ rw (equal k s.0 c) h
    | inr c ↦ rw (greater k s.0 c) (all-inserted (λ t. s.0 < t.0) k v S h.0 c, rising-inserted k v S h.1)
  ]
]

rising-sorted : (xs : List Pair) → AreRising (sorted xs)
rising-sorted [] = tt
rising-sorted (x ∷ xs) = rising-inserted x.0 x.1 (sorted xs) (rising-sorted xs)

insert-first : (k v : ℕ) (S : List Pair) → AllByRecursion (λ t. k < t.0) S → insert_entry nat_cmp S k v ≡ (k, v) ∷ S
insert-first k v [] h = refl
insert-first k v (s ∷ S) h = rw (less k s.0 h.0) refl

-- ---- removal of the first pair with an identifier
abbrev drop_value : ℕ → List Pair → List Pair
drop_value id [] = []
drop_value id (s ∷ S) = cond (s.1 == id) S (s ∷ drop_value id S)

values-dropped : (id : ℕ) (S : List Pair) → values_of (drop_value id S) ≡ without id (values_of S)
values-dropped id [] = refl
values-dropped id (s ∷ S) = elim (cases_Bool (s.1 == id)) [
  | inl h ↦ rw h refl
  | inr h ↦ rw h (ap (λ (t : List ℕ). s.1 ∷ t) (values-dropped id S))
]

-- what was just inserted
drop-inserted : (k id : ℕ) (S : List Pair) → AllByRecursion (λ s. (s.0 ≢ k) × (s.1 ≢ id)) S → drop_value id (insert_entry nat_cmp S k id) ≡ S
drop-inserted k id [] h = rw (eq-eqb id id refl) refl
drop-inserted k id (s ∷ S) h = elim (compared k s.0) [
  | inl c ↦ rw (less k s.0 c) (rw (eq-eqb id id refl) refl)
  | inr c ↦ elim c [
    | inl c ↦ absurd (h.0.0 (sym c))
    | inr c ↦ rw (greater k s.0 c) (rw (ne_eqb s.1 id h.0.1) (ap (λ (t : List Pair). s ∷ t) (drop-inserted k id S h.1)))
  ]
]

-- another
drop-other : (k v id : ℕ) (S : List Pair) → v ≢ id → AreRising S → AllByRecursion (λ s. s.0 ≢ k) S → insert_entry nat_cmp (drop_value id S) k v ≡ drop_value id (insert_entry nat_cmp S k v)
drop-other k v id [] ne r h = rw (ne_eqb v id ne) refl
drop-other k v id (s ∷ S) ne r h = elim (compared k s.0) [
  | inl c ↦ elim (cases_Bool (s.1 == id)) [
    | inl t ↦ rw (less k s.0 c, ne_eqb v id ne, t) (insert-first k v S (all-more k s.0 S c r.0))
    | inr t ↦ rw (less k s.0 c, ne_eqb v id ne, t) (rw (less k s.0 c) refl)
  ]
  | inr c ↦ elim c [
    | inl c ↦ absurd (h.0 (sym c))
    | inr c ↦ elim (cases_Bool (s.1 == id)) [
      | inl t ↦ rw (greater k s.0 c, t) refl
      | inr t ↦ rw (greater k s.0 c, t) (rw (greater k s.0 c) (ap (λ (l : List Pair). s ∷ l) (drop-other k v id S ne r.1 h.1)))
    ]
  ]
]

-- ---- orders and identifiers of the pairs differ
abbrev pub AreDistinct : List Pair → Type 0
AreDistinct [] = Unit {0}
AreDistinct (x ∷ xs) = AllByRecursion (λ y. (y.0 ≢ x.0) × (y.1 ≢ x.1)) xs × AreDistinct xs

distinct-tail : (s : Stage) (xs : List Pair) → AreDistinct (stage_pair s ++ xs) → AreDistinct xs
distinct-tail Waiting xs h = h
distinct-tail (Published id) xs h = h
distinct-tail (Released id order) xs h = h.1

all-firsts : (k v : ℕ) (xs : List Pair) → AllByRecursion (λ y. (y.0 ≢ k) × (y.1 ≢ v)) xs → AllByRecursion (λ y. y.0 ≢ k) xs
all-firsts k v [] h = tt
all-firsts k v (x ∷ xs) h = (h.0.0, all-firsts k v xs h.1)

all-apart : (id order : ℕ) (xs : List Pair) → AllByRecursion (λ y. y.0 < order) xs → AllByRecursion (λ y. y.1 ≢ id) xs → AllByRecursion (λ y. (y.0 ≢ order) × (y.1 ≢ id)) xs
all-apart id order [] b n = tt
all-apart id order (x ∷ xs) b n = ((λ same. let lt : x.0 < order = b.0 in omega (arith, lt, same), n.0), all-apart id order xs b.1 n.1)

all-front : (Q : Pair → Type 0) (xs ys : List Pair) → AllByRecursion Q (xs ++ ys) → AllByRecursion Q xs
all-front Q [] ys h = tt
all-front Q (x ∷ xs) ys h = (h.0, all-front Q xs ys h.1)

all-later : (n : ℕ) (xs : List Pair) → AllByRecursion (λ y. y.0 < n) xs → AllByRecursion (λ y. y.0 < n + 1) xs
all-later n [] h = tt
all-later n (x ∷ xs) h = (omega (arith, h.0), all-later n xs h.1)

-- an exchange that ends
head-dropped : (id : ℕ) (s : Stage) (xs : List Pair) → stage_has id s ≡ true → is_released s ≡ true → AreDistinct (stage_pair s ++ xs) → sorted xs ≡ drop_value id (sorted (stage_pair s ++ xs))
head-dropped id Waiting xs h r d = absurd (false≢true r)
head-dropped id (Published i) xs h r d = absurd (false≢true r)
head-dropped id (Released i order) xs h r d =
    let same : i ≡ id = eqb-true i id h in
    rw same (sym (drop-inserted order id (sorted xs) (all-sorted _ xs (rw same at d.0))))

tail-dropped : (id : ℕ) (s : Stage) (xs ys : List Pair) → stage_has id s ≡ false → AreDistinct (stage_pair s ++ xs) → sorted ys ≡ drop_value id (sorted xs) → sorted (stage_pair s ++ ys) ≡ drop_value id (sorted (stage_pair s ++ xs))
tail-dropped id Waiting xs ys h d e = e
tail-dropped id (Published i) xs ys h d e = e
tail-dropped id (Released i order) xs ys h d e =
    rw e (drop-other order i id (sorted xs) (λ same. both_ways (i == id) h (eq-eqb i id same)) (rising-sorted xs) (all-sorted (λ s. s.0 ≢ order) xs (all-firsts order i xs d.0)))

released-dropped : (id : ℕ) (x : Entry) (es : Entries) → AreDistinct (pairs es) → find_id id es ≡ Some x → is_released x.stage ≡ true → sorted (pairs (drop_id id es)) ≡ drop_value id (sorted (pairs es))
released-dropped id x [] d is r = refl
released-dropped id x (e ∷ es) d is r = elim (cases_Bool (has_id id e.1)) [
  | inl h ↦ let f : Some e.1 ≡ Some x = rw h at is in let same : e.1 ≡ x = cc in rw h (head-dropped id e.1.stage (pairs es) h (rw same r) d)
  | inr h ↦ rw h (tail-dropped id e.1.stage (pairs es) (pairs (drop_id id es)) h d (released-dropped id x es (distinct-tail e.1.stage (pairs es) d) (rw h at is) r))
]

-- an exchange that is released
tail-written : (s : Stage) (z : Pair) (xs ys : List Pair) → AllByRecursion (λ y. y.0 < z.0) (stage_pair s ++ xs) → sorted ys ≡ sorted xs ++ z ∷ [] → sorted (stage_pair s ++ ys) ≡ sorted (stage_pair s ++ xs) ++ z ∷ []
tail-written Waiting z xs ys h e = e
tail-written (Published i) z xs ys h e = e
tail-written (Released i order) z xs ys h e = rw e (insert-before order i z (sorted xs) h.0)

released-written : (id order : ℕ) (x : Entry) (es : Entries) → AllByRecursion (λ y. y.0 < order) (pairs es) → find_id id es ≡ Some x → stage_pair x.stage ≡ [] → sorted (pairs (write_id (as_released id order) id es)) ≡ sorted (pairs es) ++ (order, id) ∷ []
released-written id order x [] h is p = (cc is)
released-written id order x (e ∷ es) h is p = elim (cases_Bool (has_id id e.1)) [
  | inl t ↦
      let f : Some e.1 ≡ Some x = rw t at is in let same : e.1 ≡ x = cc in let none : stage_pair e.1.stage ≡ [] = ap (λ (y : Entry). stage_pair y.stage) same ∙ p in
      rw (t, none) (insert-past order id (sorted (pairs es)) (all-sorted (λ y. y.0 < order) (pairs es) (all-tail (λ y. y.0 < order) (stage_pair e.1.stage) (pairs es) h)))
  | inr t ↦ rw t (tail-written e.1.stage (order, id) (pairs es) (pairs (write_id (as_released id order) id es)) h (released-written id order x es (all-tail (λ y. y.0 < order) (stage_pair e.1.stage) (pairs es) h) (rw t at is) p))
]

all-written : (Q : Pair → Type 0) (id order : ℕ) (es : Entries) → AllByRecursion Q (pairs es) → Q (order, id) → AllByRecursion Q (pairs (write_id (as_released id order) id es))
all-written Q id order [] h q = tt
all-written Q id order (e ∷ es) h q = elim (cases_Bool (has_id id e.1)) [
  | inl t ↦ rw t (q, all-tail Q (stage_pair e.1.stage) (pairs es) h)
  | inr t ↦ rw t (all-both Q (stage_pair e.1.stage) (pairs (write_id (as_released id order) id es)) (all-front Q (stage_pair e.1.stage) (pairs es) h) (all-written Q id order es (all-tail Q (stage_pair e.1.stage) (pairs es) h) q))
]

pair-written : (id order : ℕ) (s : Stage) (xs ys : List Pair) → stage_has id s ≡ false → AllByRecursion (λ y. y.0 < order) (stage_pair s ++ xs) → AreDistinct (stage_pair s ++ xs) → ((Q : Pair → Type 0) → AllByRecursion Q xs → Q (order, id) → AllByRecursion Q ys) → AreDistinct ys → AreDistinct (stage_pair s ++ ys)
pair-written id order Waiting xs ys h b d w k = k
pair-written id order (Published i) xs ys h b d w k = k
pair-written id order (Released i o) xs ys h b d w k =
    (w (λ y. (y.0 ≢ o) × (y.1 ≢ i)) d.0 (λ same. let lt : o < order = b.0 in let is : order ≡ o = same in omega (arith, lt, is), λ same. both_ways (i == id) h (eq-eqb i id (sym same))), k)

distinct-written : (id order : ℕ) (es : Entries) → AllByRecursion (λ y. y.0 < order) (pairs es) → AllByRecursion (λ y. y.1 ≢ id) (pairs es) → AreDistinct (pairs es) → AreDistinct (pairs (write_id (as_released id order) id es))
distinct-written id order [] b n d = tt
distinct-written id order (e ∷ es) b n d =
    let b' = all-tail (λ y. y.0 < order) (stage_pair e.1.stage) (pairs es) b in
    let n' = all-tail (λ y. y.1 ≢ id) (stage_pair e.1.stage) (pairs es) n in
    let d' = distinct-tail e.1.stage (pairs es) d in
    elim (cases_Bool (has_id id e.1)) [
      | inl t ↦ rw t (all-apart id order (pairs es) b' n', d')
      | inr t ↦ rw t (pair-written id order e.1.stage (pairs es) (pairs (write_id (as_released id order) id es)) t b d (λ Q h q. all-written Q id order es h q) (distinct-written id order es b' n' d'))
    ]

pairs-dropped : (Q : Pair → Type 0) (id : ℕ) (es : Entries) → AllByRecursion Q (pairs es) → AllByRecursion Q (pairs (drop_id id es))
pairs-dropped Q id [] h = tt
pairs-dropped Q id (e ∷ es) h = elim (cases_Bool (has_id id e.1)) [
  | inl t ↦ rw t (all-tail Q (stage_pair e.1.stage) (pairs es) h)
  | inr t ↦ rw t (all-both Q (stage_pair e.1.stage) (pairs (drop_id id es)) (all-front Q (stage_pair e.1.stage) (pairs es) h) (pairs-dropped Q id es (all-tail Q (stage_pair e.1.stage) (pairs es) h)))
]

pair-dropped : (s : Stage) (xs ys : List Pair) → AreDistinct (stage_pair s ++ xs) → ((Q : Pair → Type 0) → AllByRecursion Q xs → AllByRecursion Q ys) → AreDistinct ys → AreDistinct (stage_pair s ++ ys)
pair-dropped Waiting xs ys d w k = k
pair-dropped (Published i) xs ys d w k = k
pair-dropped (Released i order) xs ys d w k = (w (λ y. (y.0 ≢ order) × (y.1 ≢ i)) d.0, k)

distinct-dropped : (id : ℕ) (es : Entries) → AreDistinct (pairs es) → AreDistinct (pairs (drop_id id es))
distinct-dropped id [] d = tt
distinct-dropped id (e ∷ es) d = elim (cases_Bool (has_id id e.1)) [
  | inl t ↦ rw t (distinct-tail e.1.stage (pairs es) d)
  | inr t ↦ rw t (pair-dropped e.1.stage (pairs es) (pairs (drop_id id es)) d (λ Q h. pairs-dropped Q id es h) (distinct-dropped id es (distinct-tail e.1.stage (pairs es) d)))
]

-- ---- which identifiers are released
pub has-none : (id : ℕ) (S : List Pair) → AllByRecursion (λ y. y.1 ≢ id) S → is_in id (values_of S) ≡ false
has-none id [] h = refl
has-none id (s ∷ S) h = rw (ne_eqb s.1 id h.0) (has-none id S h.1)

has-inserted : (k id : ℕ) (S : List Pair) → is_in id (values_of (insert_entry nat_cmp S k id)) ≡ true
has-inserted k id [] = rw (eq-eqb id id refl) refl
has-inserted k id (s ∷ S) = elim (compared k s.0) [
  | inl c ↦ rw (less k s.0 c) (rw (eq-eqb id id refl) refl)
  | inr c ↦ elim c [
    | inl c ↦ rw (equal k s.0 c) (rw (eq-eqb id id refl) refl)
    | inr c ↦ rw (greater k s.0 c) (elim (cases_Bool (s.1 == id)) [ inl t ↦ rw t refl | inr t ↦ rw t (has-inserted k id S) ])
  ]
]

has-kept : (k v id : ℕ) (S : List Pair) → AllByRecursion (λ s. s.0 ≢ k) S → is_in id (values_of S) ≡ true → is_in id (values_of (insert_entry nat_cmp S k v)) ≡ true
has-kept k v id [] h t = absurd (false≢true t)
has-kept k v id (s ∷ S) h t = elim (compared k s.0) [
  | inl c ↦ rw (less k s.0 c) (elim (cases_Bool (v == id)) [ inl q ↦ rw q refl | inr q ↦ rw q t ])
  | inr c ↦ elim c [
    | inl c ↦ absurd (h.0 (sym c))
    | inr c ↦ rw (greater k s.0 c) (elim (cases_Bool (s.1 == id)) [ inl q ↦ rw q refl | inr q ↦ rw q (has-kept k v id S h.1 (rw q at t)) ])
  ]
]

head-has : (id : ℕ) (s : Stage) (xs : List Pair) → stage_has id s ≡ true → is_released s ≡ true → is_in id (values_of (sorted (stage_pair s ++ xs))) ≡ true
head-has id Waiting xs h r = absurd (false≢true r)
head-has id (Published i) xs h r = absurd (false≢true r)
head-has id (Released i order) xs h r = rw (eqb-true i id h) (has-inserted order id (sorted xs))

tail-has : (id : ℕ) (s : Stage) (xs : List Pair) → AreDistinct (stage_pair s ++ xs) → is_in id (values_of (sorted xs)) ≡ true → is_in id (values_of (sorted (stage_pair s ++ xs))) ≡ true
tail-has id Waiting xs d h = h
tail-has id (Published i) xs d h = h
tail-has id (Released i order) xs d h = has-kept order i id (sorted xs) (all-sorted (λ s. s.0 ≢ order) xs (all-firsts order i xs d.0)) h

pub has-released : (id : ℕ) (x : Entry) (es : Entries) → AreDistinct (pairs es) → find_id id es ≡ Some x → is_released x.stage ≡ true → is_in id (values_of (sorted (pairs es))) ≡ true
has-released id x [] d is r = (cc is)
has-released id x (e ∷ es) d is r = elim (cases_Bool (has_id id e.1)) [
  | inl h ↦ let f : Some e.1 ≡ Some x = rw h at is in let same : e.1 ≡ x = cc in head-has id e.1.stage (pairs es) h (rw same r)
  | inr h ↦ tail-has id e.1.stage (pairs es) d (has-released id x es (distinct-tail e.1.stage (pairs es) d) (rw h at is) r)
]

pair-other : (id : ℕ) (s : Stage) → stage_has id s ≡ false → AllByRecursion (λ y. y.1 ≢ id) (stage_pair s)
pair-other id Waiting h = tt
pair-other id (Published i) h = tt
pair-other id (Released i order) h = (λ same. both_ways (i == id) h (eq-eqb i id same), tt)

none-released : (id : ℕ) (es : Entries) → NoneHas id es → AllByRecursion (λ y. y.1 ≢ id) (pairs es)
none-released id [] h = tt
none-released id (e ∷ es) h = all-both (λ y. y.1 ≢ id) (stage_pair e.1.stage) (pairs es) (pair-other id e.1.stage (none-head id e es h)) (none-released id es (none-tail id e es h))

pub not-released : (id : ℕ) (x : Entry) (es : Entries) → AreNumbered es → find_id id es ≡ Some x → stage_pair x.stage ≡ [] → AllByRecursion (λ y. y.1 ≢ id) (pairs es)
not-released id x [] n is p = tt
not-released id x (e ∷ es) n is p = elim (cases_Bool (has_id id e.1)) [
  | inl h ↦
      let f : Some e.1 ≡ Some x = rw h at is in let same : e.1 ≡ x = cc in let none : stage_pair e.1.stage ≡ [] = ap (λ (y : Entry). stage_pair y.stage) same ∙ p in
      rw none (none-released id es (numbered-later id e.1.stage es h n.0))
  | inr h ↦ all-both (λ y. y.1 ≢ id) (stage_pair e.1.stage) (pairs es) (pair-other id e.1.stage h) (not-released id x es n.1 (rw h at is) p)
]

has-last : (id : ℕ) (ks : List ℕ) → is_in id (ks ++ id ∷ []) ≡ true
has-last id [] = rw (eq-eqb id id refl) refl
has-last id (k ∷ ks) = elim (cases_Bool (k == id)) [ inl h ↦ rw h refl | inr h ↦ rw h (has-last id ks) ]

values-append : (S : List Pair) (z : Pair) → values_of (S ++ z ∷ []) ≡ values_of S ++ z.1 ∷ []
values-append [] z = refl
values-append (s ∷ S) z = ap (λ (t : List ℕ). s.1 ∷ t) (values-append S z)

-- ---- orders after a crash
all-below : (n : ℕ) (s : Stage) → stage_order s < n → AllByRecursion (λ y. y.0 < n) (stage_pair s)
all-below n Waiting h = tt
all-below n (Published id) h = tt
all-below n (Released id order) h = (h, tt)

above-head : (n : ℕ) (s : Stage) (m : ℕ) → cond (nat_lt (stage_order s) m) m (stage_order s + 1) ≡ n → AllByRecursion (λ y. y.0 < n) (stage_pair s) × (m ≤ n)
above-head n s m is = elim (cases_Bool (nat_lt (stage_order s) m)) [
  | inl t ↦ let e : m ≡ n = rw t at is in let lt = ltb-true (stage_order s) m t in (all-below n s (omega (arith, lt, e)), omega (arith, e))
  | inr f ↦ let e : stage_order s + 1 ≡ n = rw f at is in let le = ltb-false (stage_order s) m f in (all-below n s (omega (arith, e)), omega (arith, le, e))
]

all-upto : (m n : ℕ) (xs : List Pair) → m ≤ n → AllByRecursion (λ y. y.0 < m) xs → AllByRecursion (λ y. y.0 < n) xs
all-upto m n [] le h = tt
all-upto m n (x ∷ xs) le h = (omega (arith, le, h.0), all-upto m n xs le h.1)

below-above : (es : Entries) → AllByRecursion (λ y. y.0 < order_above es) (pairs es)
below-above [] = tt
below-above (e ∷ es) =
    let t = above-head (order_above (e ∷ es)) e.1.stage (order_above es) refl in
    all-both (λ y. y.0 < order_above (e ∷ es)) (stage_pair e.1.stage) (pairs es) t.0 (all-upto (order_above es) (order_above (e ∷ es)) (pairs es) t.1 (below-above es))

-- ---- what the calls leave
pub record IsKnown (known : List ℕ) (o : Outbox) : Type 0 where
  pub is : known ≡ values_of (by_release o.copies)
  pub distinct : AreDistinct (pairs o.copies)
  pub below : AllByRecursion (λ y. y.0 < o.next_order) (pairs o.copies)

known-same : (known : List ℕ) (old new : Outbox) → pairs new.copies ≡ pairs old.copies → new.next_order ≡ old.next_order → IsKnown known old → IsKnown known new
known-same known old new e n k = record {
  is = k.is ∙ sym (ap (λ (xs : List Pair). values_of (sorted xs)) e);
  distinct = rw e k.distinct;
  below = rw (e, n) k.below;
}

pair-published : (s : Stage) → is_published s ≡ true → stage_pair s ≡ []
pair-published Waiting h = absurd (false≢true h)
pair-published (Published id) h = refl
pair-published (Released id order) h = absurd (false≢true h)

pair-waits : (s : Stage) → waits s ≡ true → stage_pair s ≡ []
pair-waits Waiting h = refl
pair-waits (Published id) h = absurd (false≢true h)
pair-waits (Released id order) h = absurd (false≢true h)

pair-received : (q : Qos) (s : Stage) → takes_pubrec q s ≡ true → stage_pair s ≡ []
pair-received AtMostOnce s h = absurd (false≢true h)
pair-received AtLeastOnce s h = absurd (false≢true h)
pair-received ExactlyOnce Waiting h = absurd (false≢true h)
pair-received ExactlyOnce (Published id) h = refl
pair-received ExactlyOnce (Released id order) h = absurd (false≢true h)

pairs-resent : (now limit : ℕ) (es : Entries) → pairs (after_resend now limit es) ≡ pairs es
pairs-resent now limit es = chosen-resent released_pair now limit (λ x t. pair-published x.stage (and_parts (is_published x.stage) (not x.here) t).0) (λ x t. pair-published x.stage (and_parts (is_published x.stage) (not x.here) t).0) es

pub known-next : (known : List ℕ) (now limit : ℕ) (old new : Outbox) (a : Option Sent) → NextStep now limit old a new → IsKnown known old → IsKnown known new
known-next known now limit old new None s k = elim s.step [
  | inl t ↦ rw t.1 k
  | inr t ↦ elim t [
    | inl u ↦ rw u.3 (known-same known old _ (pairs-resent now limit old.copies) refl k)
    | inr u ↦ rw u.3 (known-same known old _ (chosen-none_sent released_pair now limit 0 (λ x w. pair-waits x.stage w) (after_resend now limit old.copies) u.2 ∙ pairs-resent now limit old.copies) refl k)
  ]
]
known-next known now limit old new (Some x) (inl s) k = rw s.left (known-same known old _ (pairs-resent now limit old.copies) refl k)
known-next known now limit old new (Some x) (inr s) k =
    rw s.left (known-same known old _ (chosen-sent released_pair now limit x.id (λ y w. pair-waits y.stage w) (λ y. refl) (after_resend now limit old.copies) ∙ pairs-resent now limit old.copies) refl k)

pub known-offer : (known : List ℕ) (old new : Outbox) (c : Delivery) (a : Offer) → OfferStep old c a new → IsKnown known old → IsKnown known new
known-offer known old new c Queued s k = rw s.2 (known-same known old _ (chosen-offered released_pair old.next_place c old.copies refl) refl k)
known-offer known old new c Full s k = rw s.1 k
known-offer known old new c AtEnd s k = rw s.2 k

pub known-acknowledge : (known : List ℕ) (old new : Outbox) (id : ℕ) (a : Ack) → EndStep (is_acknowledged (find_id id old.copies)) old id a new → IsKnown known old → IsKnown known new
known-acknowledge known old new id Done s k =
    let f = found-acknowledged (find_id id old.copies) s.0 in rw s.1 (known-same known old _ (chosen-dropped released_pair id f.0 old.copies f.1 (pair-published f.0.stage f.2)) refl k)
known-acknowledge known old new id Unknown s k = rw s.1 k

pub known-complete : (known : List ℕ) (old new : Outbox) (id : ℕ) (a : Ack) → EndStep (is_completed (find_id id old.copies)) old id a new → IsKnown known old → IsKnown (pubrecs_after known (completed id a)) new
known-complete known old new id Done s k =
    let f = found-completed (find_id id old.copies) s.0 in
    rw s.1 (record {
      is = ap (without id) k.is ∙ sym (values-dropped id (by_release old.copies)) ∙ sym (ap (λ (S : List Pair). values_of S) (released-dropped id f.0 old.copies k.distinct f.1 f.2));
      distinct = distinct-dropped id old.copies k.distinct;
      below = pairs-dropped (λ y. y.0 < old.next_order) id old.copies k.below;
    })
known-complete known old new id Unknown s k = rw s.1 k

pub known-received : (known : List ℕ) (o : Option Entry) (old new : Outbox) (id reason : ℕ) (a : Rec) → find_id id old.copies ≡ o → ReceivedIf o old id reason a new → AreNumbered old.copies → IsKnown known old → ReleasesKnown known (received id reason a) × IsKnown (pubrecs_after known (received id reason a)) new
known-received known None old new id reason a is s n k = rw (s.0, s.1) (tt, k)
known-received known (Some x) old new id reason rec.Release is (inl s) n k =
    let p = pair-received x.delivery.qos x.stage s.0 in
    let others = not-released id x old.copies n is p in
    let free : is_in id known ≡ false = ap (is_in id) k.is ∙ has-none id (by_release old.copies) (all-sorted (λ y. y.1 ≢ id) (pairs old.copies) others) in
    rw (s.3, free, lt-ltb reason 128 s.1) (
      has-last id known,
      record {
        is = ap (λ (t : List ℕ). t ++ id ∷ []) k.is ∙ sym (values-append (by_release old.copies) (old.next_order, id)) ∙ sym (ap (λ (S : List Pair). values_of S) (released-written id old.next_order x old.copies k.below is p));
        distinct = distinct-written id old.next_order old.copies k.below others k.distinct;
        below = all-written (λ y. y.0 < old.next_order + 1) id old.next_order old.copies (all-later old.next_order (pairs old.copies) k.below) (omega arith);
      },
    )
known-received known (Some x) old new id reason rec.Release is (inr s) n k =
    let there : is_in id known ≡ true = ap (is_in id) k.is ∙ has-released id x old.copies k.distinct is s.0 in rw (s.1, there) (there, k)
known-received known (Some x) old new id reason rec.Ended is s n k =
    (tt, rw s.2 (known-same known old _ (chosen-dropped released_pair id x old.copies is (pair-received x.delivery.qos x.stage s.0)) refl k))
known-received known (Some x) old new id reason rec.Unknown is s n k = (tt, rw s.2 k)
known-received known (Some x) old new id reason rec.AtEnd is s n k = (tt, rw s.3 k)

known-lost : (known : List ℕ) (old new : Outbox) → Takes old lost new → IsKnown known old → IsKnown known new
known-lost known old new s k =
    let e = chosen-away released_pair released_pair (λ x. refl) old.copies in
    rw s (record {
      is = k.is ∙ sym (ap (λ (xs : List Pair). values_of (sorted xs)) e);
      distinct = rw e k.distinct;
      below = rw e (below-above old.copies);
    })

pub known-step : (known : List ℕ) (old new : Outbox) (s : Step) → Takes old s new → AreNumbered old.copies → IsKnown known old → ReleasesKnown known s × IsKnown (pubrecs_after known s) new
known-step known old new (offered c a) s n k = (tt, known-offer known old new c a s k)
known-step known old new (acknowledged id a) s n k = (tt, known-acknowledge known old new id a s k)
known-step known old new (completed id a) s n k = (tt, known-complete known old new id a s k)
known-step known old new (received id reason a) s n k = known-received known _ old new id reason a refl s n k
known-step known old new (resumed maximum) s n k = (tt, rw s (known-same known old _ (chosen-away released_pair released_pair (λ x. refl) old.copies) refl k))
known-step known old new (listed ids) s n k = (s.0 ∙ sym k.is, rw s.1 k)
known-step known old new (asked now limit a) s n k = (tt, known-next known now limit old new a s k)
known-step known old new lost s n k = (tt, known-lost known old new s k)

known-run : (known : List ℕ) (start : Outbox) (steps : List Step) (end : Outbox) → Run start steps end → AreNumbered start.copies → IsKnown known start → AllReleasesKnown known steps
known-run known start [] end r n k = tt
known-run known start (s ∷ ss) end r n k =
    let t = known-step known start r.0 s r.1 n k in (t.0, known-run (pubrecs_after known s) r.0 ss end r.2 (numbered-step start r.0 s r.1 n) t.1)

pub keeps_releases : KeepsReleases
keeps_releases = λ steps end r. known-run [] empty_outbox steps end r tt (record { is = refl; distinct = tt; below = tt })

known-later : (known : List ℕ) (before after : List Step) → AllReleasesKnown known (before ++ after) → AllReleasesKnown (pubrecs_in known before) after
known-later known [] after h = h
known-later known (s ∷ before) after h = known-later (pubrecs_after known s) before after h.1

pub keeps_releases_first : KeepsReleasesFirst
keeps_releases_first = λ before here maximum ids end r. (known-later [] before (resumed maximum ∷ listed ids ∷ here) (keeps_releases (before ++ resumed maximum ∷ listed ids ∷ here) end r)).1.0
