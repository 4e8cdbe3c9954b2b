-- Entries that are put back one before the other.
use Rattle.std.proofs.Common.{◌≡◌, ◌≢◌, ℕ, zero, suc, ◌+◌, ◌-◌, ◌⊎◌, ◌<◌, ◌≤◌, Bool, true, false, not, ◌||◌, cond, List, [], ◌∷◌, ◌++◌, Option, Some, None, length, refl, sym, ◌∙◌, ap, arith, set, inl, inr, length-append}
use Rattle.std.specs.Prelude.{IsSomeAnd, is_some, nat_lt, nat_le, max, ◌==◌}
use Rattle.std.proofs.Math.ListN.{length-set}
use Rattle.std.proofs.lemmas.Bool.{cases_eq, cases_Bool, and_parts, both_ways, leb-true, ltb-true, eqb-true, eq-eqb, ne_eqb, false≢true}
use Rattle.std.proofs.lemmas.Bool.Decides.{nat_tests}
use Rattle.std.proofs.lemmas.Map.Keys.{sorted_head}
use Rattle.std.specs.BTreeMap.{is_at, insert_entry}
use Rattle.std.specs.Map.{keys_of, lookup}
use Rattle.std.specs.Ordering.{nat_cmp}
use Rattle.std.specs.declared.cmp.Ordering.TheVariants.{Less}
use Rattle.std.specs.List.{AllByRecursion}
use Rattle.std.specs.List.Sorted.{IsStrictlySortedBy}
use Rattle.mqtt_fields.specs.declared.options.Qos.{Qos}
use Rattle.mqtt_fields.specs.declared.options.Qos.TheVariants.{AtMostOnce, AtLeastOnce, ExactlyOnce}
use Rattle.qos_handshakes.specs.declared.copies.Entry.{Entry}
use Rattle.qos_handshakes.specs.declared.copies.Stage.{Stage}
use Rattle.qos_handshakes.specs.declared.copies.Stage.TheVariants.{Waiting, Published, Released}
use Rattle.qos_handshakes.specs.Entries.{Entries, has_id, stage_has, find_id, at_place, place_in, IsListed, IsIndexed, AllPlacesBelow}
use Rattle.qos_handshakes.specs.Outbox.{waits, in_flight, stage_id, IsQueued, IsCounted, AreAnswered, HaveOrders, stage_order, AreOwedFrom}
use Rattle.qos_handshakes.specs.Restored.{first_place, all_wait, has_order, is_free, stage_fits, is_asked, precedes, agree}
use Rattle.qos_handshakes.specs.Restoring.{IsPadded, IsPutting}
use Rattle.qos_handshakes.proofs.EntryLaws.{not-true}
use Rattle.qos_handshakes.proofs.Indexed.{more, waits-has, is_at-here, is_at-apart, one-id, place_in-set_same, place_in-set_other, past-head, listed-beside, some-and, points-to, find-indexed}
use Rattle.qos_handshakes.proofs.Owed.{at-after}

-- ---- free slots
pub padded-none : (ps : List ℕ) → IsPadded ps ps
padded-none ps = record { same = λ i. refl; longer = omega arith }

pub padded-one : (ps qs : List ℕ) → IsPadded ps qs → IsPadded ps (qs ++ 0 ∷ [])
padded-one ps qs p = record { same = λ i. more qs i ∙ p.same i; longer = rw length-append (omega (arith, p.longer)) }

padded-place : (ps qs : List ℕ) (id : ℕ) → IsPadded ps qs → place_in qs id ≡ place_in ps id
padded-place ps qs zero p = refl
padded-place ps qs (suc i) p = p.same i

listed-padded : (ps qs : List ℕ) (es : Entries) → IsPadded ps qs → AllByRecursion (IsListed ps) es → AllByRecursion (IsListed qs) es
listed-padded ps qs [] p h = tt
listed-padded ps qs (e ∷ es) p h = (record { placed = h.0.placed; place = λ id has. padded-place ps qs id p ∙ h.0.place id has }, listed-padded ps qs es p h.1)

pub padded-indexed : (es : Entries) (ps qs : List ℕ) → IsIndexed es ps → IsPadded ps qs → length qs ≤ 65535 → IsIndexed es qs
padded-indexed es ps qs h p small = record {
  ordered = h.ordered;
  listed = listed-padded ps qs es p h.listed;
  points = λ id some. rw (padded-place ps qs id p) (h.points id (λ z. some (padded-place ps qs id p ∙ z)));
  small = small;
}

-- ---- an entry before all others
pub inserted-first : (place : ℕ) (x : Entry) (es : Entries) → place < first_place (place + 1) es → insert_entry nat_cmp es place x ≡ (place, x) ∷ es
inserted-first place x [] lt = refl
inserted-first place x (e ∷ es) lt = let less : nat_cmp place e.0 ≡ Less = grind (arith, nat_tests) in rw less refl

some-of : (o : Option Entry) (Q : Entry → Type 0) → IsSomeAnd o Q → (y : Entry) × (o ≡ Some y)
some-of None Q h = absurd h
some-of (Some y) Q h = (y, refl)

at-before : (p place : ℕ) (x : Entry) (es : Entries) (Q : Entry → Type 0) → AllByRecursion (λ q. nat_cmp place q ≡ Less) (keys_of es) → IsSomeAnd (at_place p es) Q → IsSomeAnd (at_place p ((place, x) ∷ es)) Q
at-before p place x es Q below h = elim (cases_eq place p) [
  | inl same ↦ absurd (let y = some-of (at_place p es) Q h in let lt = at-after place p y.0 es below y.1 in omega (arith, lt, same))
  | inr apart ↦ rw (is_at-apart p place apart) h
]

at-same : (p q : ℕ) (es : Entries) (Q : Entry → Type 0) → p ≡ q → IsSomeAnd (at_place q es) Q → IsSomeAnd (at_place p es) Q
at-same p q es Q same h = rw same h

put-waiting : (es ns : Entries) (ps : List ℕ) (place : ℕ) (x : Entry) → IsIndexed es ps → 1 ≤ place → waits x.stage ≡ true → ns ≡ (place, x) ∷ es → IsStrictlySortedBy nat_cmp (keys_of ns) → IsIndexed ns ps
put-waiting es ns ps place x h counted w is sorted = record {
  ordered = sorted;
  listed = rw is (record { placed = counted; place = λ id has. absurd (both_ways (has_id id x) (waits-has id x.stage w) has) }, h.listed);
  points = λ id used. rw is (at-before (place_in ps id) place x es (λ y. has_id id y ≡ true) (sorted_head nat_cmp place (keys_of es) (rw is at sorted)) (h.points id used));
  small = h.small;
}

at-first : (place : ℕ) (x : Entry) (es : Entries) → at_place place ((place, x) ∷ es) ≡ Some x
at-first place x es = rw (is_at-here place place refl) refl

put-exchange : (es ns : Entries) (ps : List ℕ) (i place : ℕ) (x : Entry) → IsIndexed es ps → 1 ≤ place → has_id (suc i) x ≡ true → place_in ps (suc i) ≡ 0 → i < length ps → ns ≡ (place, x) ∷ es → IsStrictlySortedBy nat_cmp (keys_of ns) → IsIndexed ns (set ps i place)
put-exchange es ns ps i place x h counted has free lt is sorted =
    let below = sorted_head nat_cmp place (keys_of es) (rw is at sorted) in
    record {
      ordered = sorted;
      listed = rw is (
        record { placed = counted; place = λ j hj. ap (place_in (set ps i place)) (one-id j (suc i) x x refl hj has) ∙ place_in-set_same ps i place lt },
        past-head (IsListed (set ps i place)) place es below (listed-beside ps i place es free h.listed),
      );
      points = λ j used. rw is (elim (cases_eq j (suc i)) [
        | inl same ↦ some-and (at_place (place_in (set ps i place) j) ((place, x) ∷ es)) x (λ y. has_id j y ≡ true)
            (ap (λ (k : ℕ). at_place (place_in (set ps i place) k) ((place, x) ∷ es)) same ∙ ap (λ (p : ℕ). at_place p ((place, x) ∷ es)) (place_in-set_same ps i place lt) ∙ at-first place x es)
            (ap (λ (k : ℕ). has_id k x) same ∙ has)
        | inr ne ↦
            let stay : place_in (set ps i place) j ≡ place_in ps j = place_in-set_other ps i j place ne in
            at-same (place_in (set ps i place) j) (place_in ps j) ((place, x) ∷ es) (λ y. has_id j y ≡ true) stay (at-before (place_in ps j) place x es (λ y. has_id j y ≡ true) below (h.points j (λ z. used (stay ∙ z))))
      ]);
      small = rw length-set h.small;
    }

none-of : (o : Option Entry) → not (is_some o) ≡ true → o ≡ None
none-of None f = refl
none-of (Some x) f = absurd (false≢true f)

free-parts : (id : ℕ) (es : Entries) → is_free id es ≡ true → (id ≢ 0) × (find_id id es ≡ None)
free-parts id es f =
    let p = and_parts (not (id == 0)) (not (is_some (find_id id es))) f in
    (λ z. both_ways (id == 0) (not-true (id == 0) p.0) (eq-eqb id 0 z), none-of (find_id id es) p.1)

free-slot : (es : Entries) (ps : List ℕ) (id : ℕ) → IsIndexed es ps → is_free id es ≡ true → place_in ps id ≡ 0
free-slot es ps id h f = elim (cases_eq (place_in ps id) 0) [
  | inl z ↦ z
  | inr some ↦ let its = points-to es ps id h some in let bad : Some its.0 ≡ None = sym its.1 ∙ find-indexed es ps id h ∙ (free-parts id es f).1 in (cc)
]

stage-own : (s : Stage) → waits s ≡ false → stage_has (stage_id s) s ≡ true
stage-own Waiting w = absurd (false≢true (sym w))
stage-own (Published id) w = eq-eqb id id refl
stage-own (Released id order) w = eq-eqb id id refl

waits-zero : (s : Stage) → waits s ≡ true → stage_id s ≡ 0
waits-zero Waiting w = refl
waits-zero (Published id) w = absurd (false≢true w)
waits-zero (Released id order) w = absurd (false≢true w)

-- what `put_first` leaves, under an identifier or none
pub put-first : (es ns : Entries) (ps : List ℕ) (id place : ℕ) (x : Entry) → IsIndexed es ps → 1 ≤ place → (waits x.stage ≡ true) ⊎ (is_free (stage_id x.stage) es ≡ true) → id ≡ stage_id x.stage → id ≢ 0 → id ≤ length ps → ns ≡ (place, x) ∷ es → IsStrictlySortedBy nat_cmp (keys_of ns) → IsIndexed ns (set ps (id - 1) place)
put-first es ns ps zero place x h counted free same some room is sorted = absurd (some refl)
put-first es ns ps (suc i) place x h counted (inl w) same some room is sorted = absurd (some (same ∙ waits-zero x.stage w))
put-first es ns ps (suc i) place x h counted (inr free) same some room is sorted =
    let back : suc i - 1 ≡ i = omega arith in
    let f : is_free (suc i) es ≡ true = ap (λ (k : ℕ). is_free k es) same ∙ free in
    let w : waits x.stage ≡ false = elim (cases_Bool (waits x.stage)) [ inl t ↦ absurd (some (same ∙ waits-zero x.stage t)) | inr g ↦ g ] in
    let has : has_id (suc i) x ≡ true = ap (λ (k : ℕ). has_id k x) same ∙ stage-own x.stage w in
    rw back (put-exchange es ns ps i place x h counted has (free-slot es ps (suc i) h f) (omega (arith, room)) is sorted)

pub put-none : (es ns : Entries) (ps : List ℕ) (id place : ℕ) (x : Entry) → IsIndexed es ps → 1 ≤ place → (waits x.stage ≡ true) ⊎ (is_free (stage_id x.stage) es ≡ true) → id ≡ stage_id x.stage → id ≡ 0 → ns ≡ (place, x) ∷ es → IsStrictlySortedBy nat_cmp (keys_of ns) → IsIndexed ns ps
put-none es ns ps id place x h counted (inl w) same none is sorted = put-waiting es ns ps place x h counted w is sorted
put-none es ns ps id place x h counted (inr free) same none is sorted = absurd ((free-parts (stage_id x.stage) es free).0 (sym same ∙ none))

-- ---- what is held while entries are put back
first-below : (first next : ℕ) (es : Entries) → IsQueued first next es → first_place next es ≤ first
first-below first next [] q = omega (arith, q)
first-below first next (e ∷ es) q = elim (cases_Bool (waits e.1.stage)) [
  | inl w ↦ let r = rw w at q in omega (arith, r.0)
  | inr w ↦ let r = rw w at q in omega (arith, r.0)
]

pub record Parts (next place : ℕ) (x : Entry) (es : Entries) : Type 0 where
  pub counted : 1 ≤ place
  pub before : place < first_place next es
  pub away : x.here ≡ false
  pub asked : is_asked x.delivery.qos ≡ true
  pub stage : stage_fits next es place x.stage ≡ true

pub parts : (next place : ℕ) (x : Entry) (es : Entries) → precedes next es place x ≡ true → Parts next place x es
parts next place x es p =
    let a = and_parts (nat_le 1 place) _ p in
    let b = and_parts (nat_lt place (first_place next es)) _ a.1 in
    let c = and_parts (not x.here) _ b.1 in
    let d = and_parts (is_asked x.delivery.qos) _ c.1 in
    record { counted = leb-true 1 place a.0; before = ltb-true place (first_place next es) b.0; away = not-true x.here c.0; asked = d.0; stage = d.1 }

pub putting-waiting : (es : Entries) (orders : List (ℕ × ℕ)) (first first_waiting next next_order place : ℕ) (waiting : Bool) (x : Entry) → IsPutting es orders first waiting first_waiting next next_order → precedes next es place x ≡ true → x.stage ≡ Waiting
    → IsPutting ((place, x) ∷ es) orders place waiting place next next_order
putting-waiting es orders first first_waiting next next_order place waiting x h p s =
    let t = parts next place x es p in
    let f = and_parts (all_wait es) (place + 1 == first_place next es) (rw s at t.stage) in
    let at : first_waiting ≡ place + 1 = h.head f.0 ∙ sym (eqb-true (place + 1) (first_place next es) f.1) in
    record {
      agreed = rw (p, h.agreed) refl;
      first_is = refl;
      waiting_is = rw s h.waiting_is;
      queued = rw s (refl, t.away, rw at at h.queued);
      head = λ _. refl;
      orders_are = λ order. rw s (h.orders_are order);
      above = rw s (grind (arith, nat_tests, h.above, h.least));
      least = h.least;
      most = h.most;
    }

pub putting-published : (es : Entries) (orders : List (ℕ × ℕ)) (first first_waiting next next_order place id : ℕ) (waiting : Bool) (x : Entry) → IsPutting es orders first waiting first_waiting next next_order → precedes next es place x ≡ true → x.stage ≡ Published id
    → IsPutting ((place, x) ∷ es) orders place false first_waiting next next_order
putting-published es orders first first_waiting next next_order place id waiting x h p s =
    let t = parts next place x es p in
    let low = first-below first_waiting next es h.queued in
    record {
      agreed = rw (p, h.agreed) refl;
      first_is = refl;
      waiting_is = rw s refl;
      queued = rw s (omega (arith, t.before, low), h.queued);
      head = λ w. absurd (false≢true (rw s at w));
      orders_are = λ order. rw s (h.orders_are order);
      above = rw s (grind (arith, nat_tests, h.above, h.least));
      least = h.least;
      most = h.most;
    }

orders-more : (orders new : List (ℕ × ℕ)) (es : Entries) (order id : ℕ) → ((q : ℕ) → is_some (lookup (is_at (nat_cmp q)) orders) ≡ has_order q es) → ((q : ℕ) → lookup (is_at (nat_cmp q)) new ≡ cond (is_at (nat_cmp order) q) (Some id) (lookup (is_at (nat_cmp q)) orders))
    → (q : ℕ) → is_some (lookup (is_at (nat_cmp q)) new) ≡ (order == q) || has_order q es
orders-more orders new es order id old more' q = elim (cases_eq q order) [
  | inl same ↦ rw (more' q, is_at-here order q same, eq-eqb order q (sym same)) refl
  | inr apart ↦ rw (more' q, is_at-apart order q apart, ne_eqb order q (λ z. apart (sym z))) (old q)
]

pub putting-released : (es : Entries) (orders new : List (ℕ × ℕ)) (first first_waiting next next_order place id order above : ℕ) (waiting : Bool) (x : Entry) → IsPutting es orders first waiting first_waiting next next_order → precedes next es place x ≡ true → x.stage ≡ Released id order
    → ((q : ℕ) → lookup (is_at (nat_cmp q)) new ≡ cond (is_at (nat_cmp order) q) (Some id) (lookup (is_at (nat_cmp q)) orders)) → above ≡ max next_order (order + 1)
    → IsPutting ((place, x) ∷ es) new place false first_waiting next above
putting-released es orders new first first_waiting next next_order place id order above waiting x h p s more' greatest =
    let t = parts next place x es p in
    let low = first-below first_waiting next es h.queued in
    let f = and_parts (is_free id es) _ (rw s at t.stage) in
    let g = and_parts (nat_le 1 order) _ f.1 in
    let k = and_parts (nat_lt order 4611686018427387904) _ g.1 in
    let lt = ltb-true order 4611686018427387904 k.0 in
    record {
      agreed = rw (p, h.agreed) refl;
      first_is = refl;
      waiting_is = rw s refl;
      queued = rw s (omega (arith, t.before, low), h.queued);
      head = λ w. absurd (false≢true (rw s at w));
      orders_are = λ q. rw s (orders-more orders new es order id h.orders_are more' q);
      above = rw s (grind (arith, nat_tests, h.above, greatest));
      least = grind (arith, nat_tests, h.least, greatest);
      most = grind (arith, nat_tests, h.most, greatest, lt);
    }

-- ---- what is made of them
agree-both : (next : ℕ) (e : ℕ × Entry) (es : Entries) → agree next (e ∷ es) ≡ true → (precedes next es e.0 e.1 ≡ true) × (agree next es ≡ true)
agree-both next e es a = and_parts (precedes next es e.0 e.1) (agree next es) a

agree-next : (next : ℕ) (es : Entries) → agree next es ≡ true → (1 ≤ next) × (next ≤ 4611686018427387904)
agree-next next [] a = let p = and_parts (nat_le 1 next) _ a in (leb-true 1 next p.0, leb-true next _ p.1)
agree-next next (e ∷ es) a = agree-next next es (agree-both next e es a).1

pub disagree-next : (next : ℕ) (es : Entries) → ((1 ≤ next) × (next ≤ 4611686018427387904) → ⊥) → agree next es ≡ false
disagree-next next es bad = elim (cases_Bool (agree next es)) [ inl a ↦ absurd (bad (agree-next next es a)) | inr f ↦ f ]

-- the later entries of those that agree agree too
agree-later : (next : ℕ) (left es : Entries) → agree next (left ++ es) ≡ true → agree next es ≡ true
agree-later next [] es a = a
agree-later next (e ∷ left) es a = agree-later next left es (agree-both next e (left ++ es) a).1

pub disagree-at : (next place : ℕ) (x : Entry) (left es : Entries) → precedes next es place x ≡ false → agree next (left ++ (place, x) ∷ es) ≡ false
disagree-at next place x left es not' = elim (cases_Bool (agree next (left ++ (place, x) ∷ es))) [
  | inl a ↦ absurd (both_ways (precedes next es place x) not' (agree-both next (place, x) es (agree-later next left ((place, x) ∷ es) a)).0)
  | inr f ↦ f
]

none-here : (next : ℕ) (es : Entries) → agree next es ≡ true → in_flight es ≡ 0
none-here next [] a = refl
none-here next (e ∷ es) a = let b = agree-both next e es a in rw (parts next e.0 e.1 es b.0).away (omega (arith, none-here next es b.1))

asked-not : (q : Qos) → is_asked q ≡ true → q ≢ AtMostOnce
asked-not AtMostOnce a = absurd (false≢true a)
asked-not AtLeastOnce a = λ z. (cc z)
asked-not ExactlyOnce a = λ z. (cc z)

all-answered : (next : ℕ) (es : Entries) → agree next es ≡ true → AreAnswered es
all-answered next [] a = tt
all-answered next (e ∷ es) a = let b = agree-both next e es a in (asked-not e.1.delivery.qos (parts next e.0 e.1 es b.0).asked, all-answered next es b.1)

first-least : (next : ℕ) (es : Entries) → agree next es ≡ true → first_place next es ≤ next
first-least next [] a = omega arith
first-least next (e ∷ es) a = let b = agree-both next e es a in let t = (parts next e.0 e.1 es b.0).before in let k = first-least next es b.1 in omega (arith, t, k)

all-below : (next : ℕ) (es : Entries) → agree next es ≡ true → AllPlacesBelow es next
all-below next [] a = tt
all-below next (e ∷ es) a = let b = agree-both next e es a in let t = (parts next e.0 e.1 es b.0).before in let k = first-least next es b.1 in (omega (arith, t, k), all-below next es b.1)

all-owed : (es : Entries) → AreOwedFrom 0 es
all-owed [] = tt
all-owed (e ∷ es) = (λ _. omega arith, all-owed es)

pub released-order : (next place id order : ℕ) (x : Entry) (es : Entries) → precedes next es place x ≡ true → x.stage ≡ Released id order → order < 4611686018427387904
released-order next place id order x es p s =
    let f = and_parts (is_free id es) _ (rw s at (parts next place x es p).stage) in
    let g = and_parts (nat_le 1 order) _ f.1 in
    let k = and_parts (nat_lt order 4611686018427387904) _ g.1 in ltb-true order 4611686018427387904 k.0

fits-order : (next place : ℕ) (x : Entry) (es : Entries) (s : Stage) → precedes next es place x ≡ true → x.stage ≡ s → stage_order s < 4611686018427387904
fits-order next place x es Waiting p is = omega arith
fits-order next place x es (Published id) p is = omega arith
fits-order next place x es (Released id order) p is = released-order next place id order x es p is

all-orders : (next : ℕ) (es : Entries) → agree next es ≡ true → HaveOrders es
all-orders next [] a = tt
all-orders next (e ∷ es) a = let b = agree-both next e es a in (fits-order next e.0 e.1 es e.1.stage b.0 refl, all-orders next es b.1)

pub counted-restored : (es : Entries) (orders : List (ℕ × ℕ)) (first first_waiting next next_order : ℕ) (waiting : Bool) → IsPutting es orders first waiting first_waiting next next_order → IsCounted es first_waiting 0 next 0
counted-restored es orders first first_waiting next next_order waiting h = record {
  flight_is = sym (none-here next es h.agreed);
  below = all-below next es h.agreed;
  queued = h.queued;
  start = (agree-next next es h.agreed).0;
  owed = all-owed es;
  answered = all-answered next es h.agreed;
  orders = all-orders next es h.agreed;
}

pub free-stage : (next place : ℕ) (es : Entries) (s : Stage) → stage_fits next es place s ≡ true → (waits s ≡ true) ⊎ (is_free (stage_id s) es ≡ true)
free-stage next place es Waiting f = inl refl
free-stage next place es (Published id) f = inr f
free-stage next place es (Released id order) f = inr (and_parts (is_free id es) _ f).0

-- ---- one entry from the end
append-nil : (es : Entries) → es ++ [] ≡ es
append-nil [] = refl
append-nil (e ∷ es) = ap (λ (t : Entries). e ∷ t) (append-nil es)

pub none-back : (es : Entries) → es ++ [] ≡ es
none-back es = append-nil es

append-one : (left : Entries) (e : ℕ × Entry) (es : Entries) → (left ++ e ∷ []) ++ es ≡ left ++ e ∷ es
append-one [] e es = refl
append-one (x ∷ left) e es = ap (λ (t : Entries). x ∷ t) (append-one left e es)

pub one-back : (left rest es all : Entries) (place : ℕ) (x : Entry) → left ++ es ≡ all → left ≡ rest ++ (place, x) ∷ [] → rest ++ (place, x) ∷ es ≡ all
one-back left rest es all place x so is = sym (append-one rest (place, x) es) ∙ ap (λ (t : Entries). t ++ es) (sym is) ∙ so

pub disagree-back : (next place : ℕ) (left rest es all : Entries) (x : Entry) → left ++ es ≡ all → left ≡ rest ++ (place, x) ∷ [] → precedes next es place x ≡ false → agree next all ≡ false
disagree-back next place left rest es all x so is not' = ap (agree next) (sym (one-back left rest es all place x so is)) ∙ disagree-at next place x rest es not'

pub first-small : (next : ℕ) (es : Entries) → agree next es ≡ true → first_place next es ≤ 4611686018427387904
first-small next es a = let k = first-least next es a in let n = (agree-next next es a).1 in omega (arith, k, n)
