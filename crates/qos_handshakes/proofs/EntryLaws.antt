-- Small laws of entries: counts, searches, and all of them.
use Rattle.std.proofs.Common.{◌≡◌, ℕ, ◌+◌, ◌≤◌, Bool, true, false, cond, not, [], ◌∷◌, ◌++◌, Some, None, refl, ap, arith, inl, inr}
use Rattle.std.specs.List.{AllByRecursion}
use Rattle.std.proofs.lemmas.Bool.{cases_Bool, false≢true}
use Rattle.qos_handshakes.specs.declared.copies.Entry.{Entry}
use Rattle.qos_handshakes.specs.declared.copies.Stage.{Stage}
use Rattle.qos_handshakes.specs.declared.copies.Stage.TheVariants.{Waiting, Published, Released}
use Rattle.qos_handshakes.specs.Entries.{Entries, stage_has, has_id, find_id, drop_id, write_id}
use Rattle.qos_handshakes.specs.Outbox.{in_flight, waits, away, is_published, is_owed}

pub in_flight-append : (es fs : Entries) → in_flight (es ++ fs) ≡ in_flight es + in_flight fs
in_flight-append [] fs = omega arith
in_flight-append (e ∷ es) fs = omega (arith, in_flight-append es fs)

pub in_flight-drop_id : (id : ℕ) (es : Entries) → in_flight (drop_id id es) ≤ in_flight es
in_flight-drop_id id [] = omega arith
in_flight-drop_id id (e ∷ es) = elim (cases_Bool (has_id id e.1)) [
  | inl h ↦ rw h (omega arith)
  | inr h ↦ rw h (omega (arith, in_flight-drop_id id es))
]

pub in_flight-write_id : (f : Entry → Entry) (h : (x : Entry) → (f x).here ≡ x.here) (id : ℕ) (es : Entries) → in_flight (write_id f id es) ≡ in_flight es
in_flight-write_id f k id [] = refl
in_flight-write_id f k id (e ∷ es) = elim (cases_Bool (has_id id e.1)) [
  | inl h ↦ rw (h, k e.1) refl
  | inr h ↦ rw h (ap (λ (n : ℕ). cond e.1.here 1 0 + n) (in_flight-write_id f k id es))
]

pub in_flight-away : (es : Entries) → in_flight (away es) ≡ 0
in_flight-away [] = refl
in_flight-away (e ∷ es) = omega (arith, in_flight-away es)

pub stage_has-waits : (id : ℕ) (s : Stage) → stage_has id s ≡ true → waits s ≡ false
stage_has-waits id Waiting h = absurd (false≢true h)
stage_has-waits id (Published i) h = refl
stage_has-waits id (Released i o) h = refl

pub all-dropped : (Q : ℕ × Entry → Type 0) (id : ℕ) (es : Entries) → AllByRecursion Q es → AllByRecursion Q (drop_id id es)
all-dropped Q id [] h = tt
all-dropped Q id (e ∷ es) h = elim (cases_Bool (has_id id e.1)) [
  | inl t ↦ rw t h.1
  | inr f ↦ rw f (h.0, all-dropped Q id es h.1)
]

pub all-appended : (Q : ℕ × Entry → Type 0) (e : ℕ × Entry) (es : Entries) → AllByRecursion Q es → Q e → AllByRecursion Q (es ++ e ∷ [])
all-appended Q e [] h q = (q, tt)
all-appended Q e (x ∷ es) h q = (h.0, all-appended Q e es h.1 q)

pub published-waits : (s : Stage) → waits s ≡ true → is_published s ≡ false
published-waits Waiting w = refl
published-waits (Published id) w = absurd (false≢true w)
published-waits (Released id order) w = absurd (false≢true w)

pub waits-owed : (x : Entry) → waits x.stage ≡ true → is_owed x ≡ false
waits-owed x w = rw (published-waits x.stage w) refl

abbrev pub NoneOwed : Entries → Type 0
NoneOwed es = AllByRecursion (λ e. is_owed e.1 ≡ false) es

pub not-true : (b : Bool) → not b ≡ true → b ≡ false
not-true true h = absurd (false≢true h)
not-true false h = refl

-- no entry has an identifier
abbrev pub NoneHas : ℕ → Entries → Type 0
NoneHas id es = find_id id es ≡ None

pub none-head : (k : ℕ) (e : ℕ × Entry) (es : Entries) → NoneHas k (e ∷ es) → has_id k e.1 ≡ false
none-head k e es h = elim (cases_Bool (has_id k e.1)) [ inl t ↦ (let bad : Some e.1 ≡ None = rw t at h in cc) | inr f ↦ f ]

pub none-tail : (k : ℕ) (e : ℕ × Entry) (es : Entries) → NoneHas k (e ∷ es) → NoneHas k es
none-tail k e es h = rw (none-head k e es h) at h

pub none-cons : (k : ℕ) (e : ℕ × Entry) (es : Entries) → has_id k e.1 ≡ false → NoneHas k es → NoneHas k (e ∷ es)
none-cons k e es h n = rw h n
