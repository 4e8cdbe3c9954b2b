-- What `next` comes to is a turn.
use Rattle.std.proofs.Common.{◌≡◌, ℕ, zero, suc, ◌≤◌, ◌⊎◌, Bool, true, false, not, cond, [], ◌∷◌, ◌++◌, Option, Some, None, IsSome, refl, sym, ◌∙◌, ap, arith, inl, inr}
use Rattle.std.specs.List.{AllByRecursion, filter}
use Rattle.std.proofs.lemmas.Bool.{cases_Bool, cases_eq, both_ways, false≢true}
use Rattle.mqtt_message.specs.declared.delivery.Delivery.{Delivery}
use Rattle.qos_handshakes.specs.declared.copies.Entry.{Entry}
use Rattle.qos_handshakes.specs.Entries.{Entries, find_id, as_here, as_published, NoneFree}
use Rattle.qos_handshakes.specs.Outbox.{Outbox, Sent, waits, waiting, is_owed, fits, is_sendable, resent, first_owed, after_resend, first_waiting, after_send, SendsNothing, Resends, Sends, NextStep}
use Rattle.law_handshakes.specs.Turns.{GoesFirst, NoneGoes, may_go_again, is_queued, may_go, SomeFree, Turn, full, again, unnumbered, first, idle, answer_of, HasQueue, Leaves, IsTurn, NextIsATurn}

-- ---- the first that goes, and what is left, of any entries that have their turn
module _ (turn may : Entry → Bool) where
  abbrev goes_in : Entries → Option Entry
  goes_in [] = None
  goes_in (e ∷ es) = cond (turn e.1) (cond (may e.1) (Some e.1) (goes_in es)) (goes_in es)

  abbrev left_in : (Entry → Entry) → Entries → Entries
  left_in change [] = []
  left_in change (e ∷ es) = cond (turn e.1) (cond (may e.1) ((e.0, change e.1) ∷ es) (left_in change es)) (e ∷ left_in change es)

  leaves-more : (e : ℕ × Entry) (es : Entries) (x changed : Entry) (new : Entries) → turn e.1 ≡ true → may e.1 ≡ false → GoesFirst turn may es x changed new → GoesFirst turn may (e ∷ es) x changed new
  leaves-more e es x changed new t g r = record {
    left = e ∷ r.left;
    place = r.place;
    right = r.right;
    is = ap (λ (l : Entries). e ∷ l) r.is;
    its = r.its;
    goes = r.goes;
    none_before = (λ u. g, r.none_before);
    stay = rw t r.stay;
  }

  keeps-more : (e : ℕ × Entry) (es : Entries) (x changed : Entry) (new : Entries) → turn e.1 ≡ false → GoesFirst turn may es x changed new → GoesFirst turn may (e ∷ es) x changed (e ∷ new)
  keeps-more e es x changed new t r = record {
    left = e ∷ r.left;
    place = r.place;
    right = r.right;
    is = ap (λ (l : Entries). e ∷ l) r.is;
    its = r.its;
    goes = r.goes;
    none_before = (λ u. absurd (both_ways (turn e.1) t u), r.none_before);
    stay = rw t (ap (λ (l : Entries). e ∷ l) r.stay);
  }

  goes-at-once : (change : Entry → Entry) (e : ℕ × Entry) (es : Entries) (x : Entry) → turn e.1 ≡ true → may e.1 ≡ true → e.1 ≡ x → GoesFirst turn may (e ∷ es) x (change x) ((e.0, change e.1) ∷ es)
  goes-at-once change e es x t g it = record {
    left = [];
    place = e.0;
    right = es;
    is = ap (λ (y : Entry). (e.0, y) ∷ es) it;
    its = ap turn (sym it) ∙ t;
    goes = ap may (sym it) ∙ g;
    none_before = tt;
    stay = ap (λ (y : Entry). (e.0, change y) ∷ es) it;
  }

  one-goes : (change : Entry → Entry) (es : Entries) (x : Entry) → goes_in es ≡ Some x → GoesFirst turn may es x (change x) (left_in change es)
  one-goes change [] x is = let bad : None ≡ Some x = is in absurd (cc)
  one-goes change (e ∷ es) x is = elim (cases_Bool (turn e.1)) [
    | inl t ↦ elim (cases_Bool (may e.1)) [
      | inl g ↦ let same : Some e.1 ≡ Some x = rw (t, g) at is in rw (t, g) (goes-at-once change e es x t g (cc))
      | inr g ↦ rw (t, g) (leaves-more e es x (change x) (left_in change es) t g (one-goes change es x (rw (t, g) at is)))
    ]
    | inr t ↦ rw t (keeps-more e es x (change x) (left_in change es) t (one-goes change es x (rw t at is)))
  ]

  none-goes : (change : Entry → Entry) (es : Entries) → goes_in es ≡ None → NoneGoes turn may es (left_in change es)
  none-goes change [] is = record { none = tt; stay = refl }
  none-goes change (e ∷ es) is = elim (cases_Bool (turn e.1)) [
    | inl t ↦ elim (cases_Bool (may e.1)) [
      | inl g ↦ let bad : Some e.1 ≡ None = rw (t, g) at is in absurd (cc)
      | inr g ↦ let r = none-goes change es (rw (t, g) at is) in record { none = (λ u. g, r.none); stay = rw (t, g) r.stay }
    ]
    | inr t ↦ let r = none-goes change es (rw t at is) in record { none = (λ u. absurd (both_ways (turn e.1) t u), r.none); stay = rw t (ap (λ (l : Entries). e ∷ l) r.stay) }
  ]

  -- and back
  goes-past : (change : Entry → Entry) (left : Entries) (place : ℕ) (x : Entry) (right : Entries) → turn x ≡ true → may x ≡ true → AllByRecursion (λ e. turn e.1 ≡ true → may e.1 ≡ false) left
      → (goes_in (left ++ (place, x) ∷ right) ≡ Some x) × (left_in change (left ++ (place, x) ∷ right) ≡ filter (λ e. not (turn e.1)) left ++ (place, change x) ∷ right)
  goes-past change [] place x right t g none = (rw (t, g) refl, rw (t, g) refl)
  goes-past change (e ∷ left) place x right t g none =
      let r = goes-past change left place x right t g none.1 in
      elim (cases_Bool (turn e.1)) [
        | inl u ↦ let n : may e.1 ≡ false = none.0 u in (rw (u, n) r.0, rw (u, n) r.1)
        | inr u ↦ (rw u r.0, rw u (ap (λ (l : Entries). e ∷ l) r.1))
      ]

  goes-back : (change : Entry → Entry) (es : Entries) (x : Entry) (new : Entries) → GoesFirst turn may es x (change x) new → (goes_in es ≡ Some x) × (new ≡ left_in change es)
  goes-back change es x new g =
      let r = goes-past change g.left g.place x g.right g.its g.goes g.none_before in
      (ap goes_in g.is ∙ r.0, g.stay ∙ sym r.1 ∙ ap (left_in change) (sym g.is))

  none-past : (change : Entry → Entry) (es : Entries) → AllByRecursion (λ e. turn e.1 ≡ true → may e.1 ≡ false) es → (goes_in es ≡ None) × (left_in change es ≡ filter (λ e. not (turn e.1)) es)
  none-past change [] none = (refl, refl)
  none-past change (e ∷ es) none =
      let r = none-past change es none.1 in
      elim (cases_Bool (turn e.1)) [
        | inl u ↦ let n : may e.1 ≡ false = none.0 u in (rw (u, n) r.0, rw (u, n) r.1)
        | inr u ↦ (rw u r.0, rw u (ap (λ (l : Entries). e ∷ l) r.1))
      ]

  none-back : (change : Entry → Entry) (es new : Entries) → NoneGoes turn may es new → (goes_in es ≡ None) × (new ≡ left_in change es)
  none-back change es new n = let r = none-past change es n.none in (r.0, n.stay ∙ sym r.1)

-- ---- of what is sent again, and of the queue
abbrev mapped : {B : Type 0} → (Entry → B) → Option Entry → Option B
mapped f None = None
mapped f (Some x) = Some (f x)

mapped-none : {B : Type 0} (f : Entry → B) (o : Option Entry) → mapped f o ≡ None → o ≡ None
mapped-none f None is = refl
mapped-none f (Some x) is = let bad : Some (f x) ≡ None = is in absurd (cc)

mapped-some : {B : Type 0} (f : Entry → B) (o : Option Entry) (b : B) → mapped f o ≡ Some b → (x : Entry) × (o ≡ Some x) × (f x ≡ b)
mapped-some f None b is = let bad : None ≡ Some b = is in absurd (cc)
mapped-some f (Some x) b is = let same : Some (f x) ≡ Some b = is in (x, refl, (cc))

module _ (now limit : ℕ) where
  first-owed : (es : Entries) → first_owed now limit es ≡ mapped resent (goes_in is_owed (may_go_again now limit) es)
  first-owed [] = refl
  first-owed (e ∷ es) = elim (cases_Bool (is_owed e.1)) [
    | inl t ↦ elim (cases_Bool (fits now limit e.1.delivery)) [
      | inl g ↦ rw (t, g) refl
      | inr g ↦ rw (t, g) (first-owed es)
    ]
    | inr t ↦ rw t (first-owed es)
  ]

  after-resend : (es : Entries) → after_resend now limit es ≡ left_in is_owed (may_go_again now limit) as_here es
  after-resend [] = refl
  after-resend (e ∷ es) = elim (cases_Bool (is_owed e.1)) [
    | inl t ↦ elim (cases_Bool (fits now limit e.1.delivery)) [
      | inl g ↦ rw (t, g) refl
      | inr g ↦ rw (t, g) (after-resend es)
    ]
    | inr t ↦ rw t (ap (λ (l : Entries). e ∷ l) (after-resend es))
  ]

  first-waiting : (es : Entries) → first_waiting now limit es ≡ mapped (λ x. x.delivery) (goes_in is_queued (may_go now limit) es)
  first-waiting [] = refl
  first-waiting (e ∷ es) = elim (cases_Bool (waits e.1.stage)) [
    | inl t ↦ elim (cases_Bool (is_sendable now limit e.1.delivery)) [
      | inl g ↦ rw (t, g) refl
      | inr g ↦ rw (t, g) (first-waiting es)
    ]
    | inr t ↦ rw t (first-waiting es)
  ]

  after-send : (id : ℕ) (es : Entries) → after_send now limit id es ≡ left_in is_queued (may_go now limit) (as_published id) es
  after-send id [] = refl
  after-send id (e ∷ es) = elim (cases_Bool (waits e.1.stage)) [
    | inl t ↦ elim (cases_Bool (is_sendable now limit e.1.delivery)) [
      | inl g ↦ rw (t, g) refl
      | inr g ↦ rw (t, g) (after-send id es)
    ]
    | inr t ↦ rw t (ap (λ (l : Entries). e ∷ l) (after-send id es))
  ]

  nothing-waits : (id : ℕ) (es : Entries) → waiting es ≡ [] → after_send now limit id es ≡ es
  nothing-waits id [] is = refl
  nothing-waits id (e ∷ es) is = elim (cases_Bool (waits e.1.stage)) [
    | inl t ↦ let bad : e.1.delivery ∷ waiting es ≡ [] = rw t at is in absurd (cc)
    | inr t ↦ rw t (ap (λ (l : Entries). e ∷ l) (nothing-waits id es (rw t at is)))
  ]

  -- what is owed
  owed-none : (es : Entries) → first_owed now limit es ≡ None → NoneGoes is_owed (may_go_again now limit) es (after_resend now limit es)
  owed-none es is = rw (after-resend es) (none-goes is_owed (may_go_again now limit) as_here es (mapped-none resent (goes_in is_owed (may_go_again now limit) es) (sym (first-owed es) ∙ is)))

  none-owed : (es new : Entries) → NoneGoes is_owed (may_go_again now limit) es new → (first_owed now limit es ≡ None) × (new ≡ after_resend now limit es)
  none-owed es new n =
      let r = none-back is_owed (may_go_again now limit) as_here es new n in
      (first-owed es ∙ ap (mapped resent) r.0, r.1 ∙ sym (after-resend es))

  owed-some : (es : Entries) (s : Sent) → first_owed now limit es ≡ Some s → (x : Entry) × GoesFirst is_owed (may_go_again now limit) es x (as_here x) (after_resend now limit es) × (Some s ≡ Some (resent x))
  owed-some es s is =
      let o = mapped-some resent (goes_in is_owed (may_go_again now limit) es) s (sym (first-owed es) ∙ is) in
      (o.0, rw (after-resend es) (one-goes is_owed (may_go_again now limit) as_here es o.0 o.1), ap Some (sym o.2))

  some-owed : (es : Entries) (x : Entry) (new : Entries) → GoesFirst is_owed (may_go_again now limit) es x (as_here x) new → (first_owed now limit es ≡ Some (resent x)) × (new ≡ after_resend now limit es)
  some-owed es x new g =
      let r = goes-back is_owed (may_go_again now limit) as_here es x new g in
      (first-owed es ∙ ap (mapped resent) r.0, r.1 ∙ sym (after-resend es))

  -- what waits
  queued-none : (id : ℕ) (es : Entries) → first_waiting now limit es ≡ None → NoneGoes is_queued (may_go now limit) es (after_send now limit id es)
  queued-none id es is = rw (after-send id es) (none-goes is_queued (may_go now limit) (as_published id) es (mapped-none (λ (x : Entry). x.delivery) (goes_in is_queued (may_go now limit) es) (sym (first-waiting es) ∙ is)))

  none-queued : (id : ℕ) (es new : Entries) → NoneGoes is_queued (may_go now limit) es new → (first_waiting now limit es ≡ None) × (new ≡ after_send now limit id es)
  none-queued id es new n =
      let r = none-back is_queued (may_go now limit) (as_published id) es new n in
      (first-waiting es ∙ ap (mapped (λ (x : Entry). x.delivery)) r.0, r.1 ∙ sym (after-send id es))

  queued-some : (id : ℕ) (es : Entries) (c : Delivery) → first_waiting now limit es ≡ Some c → (x : Entry) × GoesFirst is_queued (may_go now limit) es x (as_published id x) (after_send now limit id es) × (x.delivery ≡ c)
  queued-some id es c is =
      let o = mapped-some (λ (x : Entry). x.delivery) (goes_in is_queued (may_go now limit) es) c (sym (first-waiting es) ∙ is) in
      (o.0, rw (after-send id es) (one-goes is_queued (may_go now limit) (as_published id) es o.0 o.1), o.2)

  some-queued : (id : ℕ) (es : Entries) (x : Entry) (new : Entries) → GoesFirst is_queued (may_go now limit) es x (as_published id x) new → (first_waiting now limit es ≡ Some x.delivery) × (new ≡ after_send now limit id es)
  some-queued id es x new g =
      let r = goes-back is_queued (may_go now limit) (as_published id) es x new g in
      (first-waiting es ∙ ap (mapped (λ (y : Entry). y.delivery)) r.0, r.1 ∙ sym (after-send id es))

-- ---- identifiers
some-or-none : (o : Option Entry) → IsSome o ⊎ (o ≡ None)
some-or-none None = inr refl
some-or-none (Some x) = inl refl

up-to : (es : Entries) (n : ℕ) → ((k : ℕ) → 1 ≤ k → k ≤ n → IsSome (find_id k es)) ⊎ ((k : ℕ) × (1 ≤ k) × (k ≤ n) × (find_id k es ≡ None))
up-to es zero = inl (λ k a b. absurd (omega (arith, a, b)))
up-to es (suc n) = elim (up-to es n) [
  | inl all ↦ elim (some-or-none (find_id (suc n) es)) [
    | inl s ↦ inl (λ k a b. elim (cases_eq k (suc n)) [
      | inl same ↦ rw same s
      | inr apart ↦ all k a (omega (arith, b, apart))
    ])
    | inr z ↦ inr (suc n, omega arith, omega arith, z)
  ]
  | inr t ↦ let le = t.2 in inr (t.0, t.1, omega (arith, le), t.3)
]

free-or-none : (es : Entries) → NoneFree es ⊎ SomeFree es
free-or-none es = up-to es 65535

none-some : (o : Option Entry) → IsSome o → o ≡ None → ⊥
none-some None s is = false≢true s
none-some (Some x) s is = let bad : Some x ≡ None = is in (cc)

never : (es : Entries) → SomeFree es → NoneFree es → ⊥
never es some none = none-some (find_id some.0 es) (none some.0 some.1 some.2) some.3

-- ---- steps
abbrev made : ℕ → Bool → Delivery → Sent
made id dup copy = record { id = id; dup = dup; copy = copy }

first-sent : (s : Sent) (d : Delivery) → s.dup ≡ false → d ≡ s.copy → Some s ≡ Some (made s.id false d)
first-sent s d first' same =
    let a : made s.id s.dup s.copy ≡ made s.id false s.copy = ap (λ (b : Bool). made s.id b s.copy) first' in
    let b : made s.id false s.copy ≡ made s.id false d = ap (λ (c : Delivery). made s.id false c) (sym same) in
    ap Some (a ∙ b)

module _ (now limit : ℕ) (old new : Outbox) where
  nothing : SendsNothing now limit old new → (turn : Turn) × IsTurn now limit turn old None new
  nothing h = elim h.step [
    | inl t ↦ (full, record { left = old.copies; leaves = (t.0, refl); answers = refl; is = t.1 })
    | inr t ↦ elim t [
      | inl u ↦ (unnumbered, record { left = after_resend now limit old.copies; leaves = (record { quota = u.0; none_again = owed-none now limit old.copies u.1 }, u.2); answers = refl; is = u.3 })
      | inr u ↦
          let queued = after_resend now limit old.copies in
          let has : HasQueue now limit old queued = record { quota = u.0; none_again = owed-none now limit old.copies u.1 } in
          elim (free-or-none queued) [
            | inl none ↦ (unnumbered, record { left = queued; leaves = (has, none); answers = refl; is = u.3 ∙ ap (λ (l : Entries). record old { copies = l }) (nothing-waits now limit 0 queued (u.4 none)) })
            | inr some ↦ (idle, record { left = after_send now limit 0 queued; leaves = (queued, has, some, queued-none now limit 0 queued u.2); answers = refl; is = u.3 })
          ]
    ]
  ]

  resends : (s : Sent) → Resends now limit old s new → (turn : Turn) × IsTurn now limit turn old (Some s) new
  resends s h =
      let o = owed-some now limit old.copies s h.sent in
      (again o.0, record { left = after_resend now limit old.copies; leaves = (h.quota, o.1); answers = o.2; is = h.left })

  sends : (s : Sent) → Sends now limit old s new → (turn : Turn) × IsTurn now limit turn old (Some s) new
  sends s h =
      let queued = after_resend now limit old.copies in
      let o = queued-some now limit s.id queued s.copy h.sent in (
        first o.0 s.id,
        record {
          left = after_send now limit s.id queued;
          leaves = (queued, record { quota = h.quota; none_again = owed-none now limit old.copies h.none_owed }, h.number, o.1);
          answers = first-sent s o.0.delivery h.first o.2;
          is = h.left;
        },
      )

  turns : (answer : Option Sent) → NextStep now limit old answer new → (turn : Turn) × IsTurn now limit turn old answer new
  turns None h = nothing h
  turns (Some s) (inl h) = resends s h
  turns (Some s) (inr h) = sends s h

  -- and back
  abbrev Left : Entries → Type 0
  Left left = new ≡ record old { copies = left }

  left-as : (left known : Entries) → Left left → left ≡ known → Left known
  left-as left known is same = is ∙ ap (λ (l : Entries). record old { copies = l }) same

  from-turn : (turn : Turn) (left : Entries) → Leaves now limit turn old left → Left left → NextStep now limit old (answer_of turn) new
  from-turn full left h is = record { step = inl (h.0, left-as left old.copies is h.1) }
  from-turn (again x) left h is =
      let o = some-owed now limit old.copies x left h.1 in
      inl (record { quota = h.0; sent = o.0; left = left-as left (after_resend now limit old.copies) is o.1 })
  from-turn unnumbered left h is =
      let o = none-owed now limit old.copies left h.0.none_again in
      record { step = inr (inl (h.0.quota, o.0, rw (← o.1) h.1, left-as left (after_resend now limit old.copies) is o.1)) }
  from-turn (first x id) left h is =
      let o = none-owed now limit old.copies h.0 h.1.none_again in
      let q = some-queued now limit id h.0 x left h.3 in
      inr (record {
        quota = h.1.quota;
        none_owed = o.0;
        first = refl;
        number = rw (← o.1) h.2;
        sent = rw (← o.1) q.0;
        left = left-as left (after_send now limit id (after_resend now limit old.copies)) is (q.1 ∙ ap (after_send now limit id) o.1);
      })
  from-turn idle left h is =
      let o = none-owed now limit old.copies h.0 h.1.none_again in
      let q = none-queued now limit 0 h.0 left h.3 in
      record {
        step = inr (inr (
          h.1.quota,
          o.0,
          rw (← o.1) q.0,
          left-as left (after_send now limit 0 (after_resend now limit old.copies)) is (q.1 ∙ ap (after_send now limit 0) o.1),
          λ none. absurd (never h.0 h.2 (rw o.1 none)),
        ));
      }

  steps : (answer : Option Sent) → ((turn : Turn) × IsTurn now limit turn old answer new) → NextStep now limit old answer new
  steps answer t = rw t.1.answers (from-turn t.0 t.1.left t.1.leaves t.1.is)

pub next-is-a-turn : NextIsATurn
next-is-a-turn = λ now limit old answer new. (turns now limit old new answer, steps now limit old new answer)
