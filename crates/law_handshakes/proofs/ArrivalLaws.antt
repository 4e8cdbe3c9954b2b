-- Calls of what came, one after the other.
use Rattle.std.proofs.Common.{◌≡◌, ◌≢◌, ℕ, ◌≤◌, ◌<◌, Bool, true, false, List, [], ◌∷◌, Option, Some, None, refl, sym, ◌∙◌, ap, arith, inl, inr}
use Rattle.std.specs.Prelude.{is_some}
use Rattle.std.proofs.lemmas.Bool.{cases_Bool, cases_eq, eq-eqb, ne_eqb, false≢true}
use Rattle.std.proofs.lemmas.Cmp.{ranked}
use Rattle.std.specs.BTreeMap.{is_at, insert_entry}
use Rattle.std.specs.Map.{remove_entry}
use Rattle.std.specs.Ordering.{nat_cmp}
use Rattle.std.specs.declared.cmp.Ordering.TheVariants.{Equal, Greater}
use Rattle.qos_handshakes.specs.declared.answers.Ack.TheVariants.{Done, Unknown}
use Rattle.qos_handshakes.specs.declared.answers.In.TheVariants.{New, Repeat, InUse, OverMaximum}
use Rattle.qos_handshakes.specs.Incoming.{Received, opened, opened_here, of_before}
use Rattle.qos_handshakes.proofs.Indexed.{is_at-here, is_at-apart}
use Rattle.qos_handshakes.proofs.Arrivals.{three, here-inserted, here-removed, here-before}
use Rattle.law_handshakes.specs.Incoming.{Arrival, published2, published1, released, restarted, Arrives, ArriveAll, is_open_after, AnswersBy, identifier_in, IsOnce, KeepsOnce, KeepsMaximum}

-- no identifier stands twice
abbrev pub NoneTwice : Received → Type 0
NoneTwice [] = Unit {0}
NoneTwice (e ∷ es) = (opened e.0 es ≡ None) × NoneTwice es

-- ---- a new exchange
pub opened-new : (i : ℕ) (es : Received) → opened i es ≡ None → opened i (insert_entry nat_cmp es i true) ≡ Some true
opened-new i [] none = rw (is_at-here i i refl) refl
opened-new i (e ∷ es) none = elim (three (nat_cmp i e.0)) [
  | inl less ↦ rw less (rw (is_at-here i i refl) refl)
  | inr more ↦ elim more [
    | inl same ↦ (let bad : Some e.1 ≡ None = rw same at none in cc)
    | inr great ↦
        let apart : e.0 ≢ i = λ z. let lt : e.0 < i = ranked i e.0 Greater (sym great) in omega (arith, lt, z) in
        rw great (rw (is_at-apart i e.0 apart) (opened-new i es (rw great at none)))
  ]
]

pub opened-other : (i id : ℕ) (es : Received) → i ≢ id → opened id (insert_entry nat_cmp es i true) ≡ opened id es
opened-other i id [] ne = rw (is_at-apart id i ne) refl
opened-other i id (e ∷ es) ne = elim (three (nat_cmp i e.0)) [
  | inl less ↦ rw less (rw (is_at-apart id i ne) refl)
  | inr more ↦ elim more [
    | inl same ↦ let eq : i ≡ e.0 = ranked i e.0 Equal (sym same) in rw (same, is_at-apart id e.0 (λ z. ne (eq ∙ z))) refl
    | inr great ↦ rw great (elim (cases_Bool (is_at (nat_cmp id) e.0)) [ inl t ↦ rw t refl | inr f ↦ rw f (opened-other i id es ne) ])
  ]
]

pub twice-new : (i : ℕ) (es : Received) → opened i es ≡ None → NoneTwice es → NoneTwice (insert_entry nat_cmp es i true)
twice-new i [] none h = (refl, tt)
twice-new i (e ∷ es) none h = elim (three (nat_cmp i e.0)) [
  | inl less ↦ rw less (none, (h.0, h.1))
  | inr more ↦ elim more [
    | inl same ↦ (let bad : Some e.1 ≡ None = rw same at none in cc)
    | inr great ↦
        let ne : i ≢ e.0 = λ z. let lt : e.0 < i = ranked i e.0 Greater (sym great) in omega (arith, lt, z) in
        rw great (opened-other i e.0 es ne ∙ h.0, twice-new i es (rw great at none) h.1)
  ]
]

-- ---- one that ends
pub opened-ended : (i : ℕ) (es : Received) → NoneTwice es → opened i (remove_entry (is_at (nat_cmp i)) es) ≡ None
opened-ended i [] h = refl
opened-ended i (e ∷ es) h = elim (cases_eq e.0 i) [
  | inl same ↦ rw (is_at-here i e.0 same) (ap (λ (k : ℕ). opened k es) (sym same) ∙ h.0)
  | inr apart ↦ rw (is_at-apart i e.0 apart) (rw (is_at-apart i e.0 apart) (opened-ended i es h.1))
]

pub opened-stays : (i id : ℕ) (es : Received) → i ≢ id → opened id (remove_entry (is_at (nat_cmp i)) es) ≡ opened id es
opened-stays i id [] ne = refl
opened-stays i id (e ∷ es) ne = elim (cases_eq e.0 i) [
  | inl same ↦ rw (is_at-here i e.0 same, is_at-apart id e.0 (λ z. ne (sym same ∙ z))) refl
  | inr apart ↦ rw (is_at-apart i e.0 apart) (elim (cases_Bool (is_at (nat_cmp id) e.0)) [ inl t ↦ rw t refl | inr f ↦ rw f (opened-stays i id es ne) ])
]

none-ended : (i k : ℕ) (es : Received) → opened k es ≡ None → opened k (remove_entry (is_at (nat_cmp i)) es) ≡ None
none-ended i k [] none = refl
none-ended i k (e ∷ es) none = elim (cases_Bool (is_at (nat_cmp k) e.0)) [
  | inl t ↦ (let bad : Some e.1 ≡ None = rw t at none in cc)
  | inr f ↦ elim (cases_Bool (is_at (nat_cmp i) e.0)) [ inl t ↦ rw t (rw f at none) | inr g ↦ rw g (rw f (none-ended i k es (rw f at none))) ]
]

pub twice-ended : (i : ℕ) (es : Received) → NoneTwice es → NoneTwice (remove_entry (is_at (nat_cmp i)) es)
twice-ended i [] h = tt
twice-ended i (e ∷ es) h = elim (cases_Bool (is_at (nat_cmp i) e.0)) [
  | inl t ↦ rw t h.1
  | inr f ↦ rw f (none-ended i e.0 es h.0, twice-ended i es h.1)
]

-- ---- a new connection
pub opened-before : (id : ℕ) (es : Received) → is_some (opened id (of_before es)) ≡ is_some (opened id es)
opened-before id [] = refl
opened-before id (e ∷ es) = elim (cases_Bool (is_at (nat_cmp id) e.0)) [ inl t ↦ rw t refl | inr f ↦ rw f (opened-before id es) ]

none-before : (k : ℕ) (es : Received) → opened k es ≡ None → opened k (of_before es) ≡ None
none-before k [] none = refl
none-before k (e ∷ es) none = elim (cases_Bool (is_at (nat_cmp k) e.0)) [
  | inl t ↦ (let bad : Some e.1 ≡ None = rw t at none in cc)
  | inr f ↦ rw f (none-before k es (rw f at none))
]

pub twice-before : (es : Received) → NoneTwice es → NoneTwice (of_before es)
twice-before [] h = tt
twice-before (e ∷ es) h = (none-before e.0 es h.0, twice-before es h.1)

-- ---- each call
record Once (id : ℕ) (old : Received) (a : Arrival) (new : Received) : Type 0 where
  pub is : is_some (opened id new) ≡ is_open_after id (is_some (opened id old)) a
  pub answers : identifier_in id a ≡ id → AnswersBy (is_some (opened id old)) a
  pub twice : NoneTwice new

once-new : (id i : ℕ) (old new : Received) → opened i old ≡ None → new ≡ insert_entry nat_cmp old i true → NoneTwice old → Once id old (published2 i New) new
once-new id i old new none is h = record {
  is = elim (cases_eq i id) [
    | inl same ↦ rw (eq-eqb i id same) (ap is_some (ap (opened id) is ∙ ap (λ (k : ℕ). opened k (insert_entry nat_cmp old i true)) (sym same) ∙ opened-new i old none))
    | inr ne ↦ rw (ne_eqb i id ne) (ap is_some (ap (opened id) is ∙ opened-other i id old ne))
  ];
  answers = λ same. ap is_some (ap (λ (k : ℕ). opened k old) (sym same) ∙ none);
  twice = rw is (twice-new i old none h);
}

once-done : (id i : ℕ) (old new : Received) → is_some (opened i old) ≡ true → new ≡ remove_entry (is_at (nat_cmp i)) old → NoneTwice old → Once id old (released i Done) new
once-done id i old new some is h = record {
  is = elim (cases_eq i id) [
    | inl same ↦ rw (eq-eqb i id same) (ap is_some (ap (opened id) is ∙ ap (λ (k : ℕ). opened k (remove_entry (is_at (nat_cmp i)) old)) (sym same) ∙ opened-ended i old h))
    | inr ne ↦ rw (ne_eqb i id ne) (ap is_some (ap (opened id) is ∙ opened-stays i id old ne))
  ];
  answers = λ same. ap (λ (k : ℕ). is_some (opened k old)) (sym same) ∙ some;
  twice = rw is (twice-ended i old h);
}

same-open : (id : ℕ) (old new : Received) → new ≡ old → is_some (opened id new) ≡ is_some (opened id old)
same-open id old new is = ap (λ (r : Received). is_some (opened id r)) is

some-open : (id i : ℕ) (old : Received) (b : Bool) → opened i old ≡ Some b → i ≡ id → is_some (opened id old) ≡ true
some-open id i old b at same = ap is_some (ap (λ (k : ℕ). opened k old) (sym same) ∙ at)

once-step : (id : ℕ) (old new : Received) (a : Arrival) → Arrives old a new → NoneTwice old → Once id old a new
once-step id old new (published2 i New) s h = once-new id i old new s.1 s.2 h
once-step id old new (published2 i Repeat) s h = record {
  is = same-open id old new s.1;
  answers = λ same. elim s.0 [ inl t ↦ some-open id i old true t same | inr t ↦ some-open id i old false t.1 same ];
  twice = rw (s.1) h;
}
once-step id old new (published2 i InUse) s h = absurd s
once-step id old new (published2 i OverMaximum) s h = record { is = same-open id old new s.2; answers = λ same. tt; twice = rw (s.2) h }
once-step id old new (published1 i New) s h = record { is = same-open id old new s.1; answers = λ same. ap is_some (ap (λ (k : ℕ). opened k old) (sym same) ∙ s.0.1); twice = rw (s.1) h }
once-step id old new (published1 i Repeat) s h = absurd s.0
once-step id old new (published1 i InUse) s h = record { is = same-open id old new s.1; answers = λ same. ap (λ (k : ℕ). is_some (opened k old)) (sym same) ∙ s.0.1; twice = rw (s.1) h }
once-step id old new (published1 i OverMaximum) s h = record { is = same-open id old new s.1; answers = λ same. tt; twice = rw (s.1) h }
once-step id old new (released i Done) s h = once-done id i old new s.0 s.1 h
once-step id old new (released i Unknown) s h = record { is = same-open id old new s.1; answers = λ same. ap is_some (ap (λ (k : ℕ). opened k old) (sym same) ∙ s.0); twice = rw (s.1) h }
once-step id old new restarted s h = record { is = same-open id (of_before old) new s ∙ opened-before id old; answers = λ same. tt; twice = rw s (twice-before old h) }

once-run : (id : ℕ) (start : Received) (arrivals : List Arrival) (end : Received) → ArriveAll start arrivals end → NoneTwice start → IsOnce id (is_some (opened id start)) arrivals
once-run id start [] end r h = tt
once-run id start (a ∷ rest) end r h =
    let t = once-step id start r.0 a r.1 h in (t.answers, rw (← t.is) (once-run id r.0 rest end r.2 t.twice))

pub keeps_once : KeepsOnce
keeps_once = λ id arrivals end r. once-run id [] arrivals end r tt

-- ---- the maximum
here-ended : (i : ℕ) (o : Option Bool) (es : Received) → opened i es ≡ o → is_some o ≡ true → opened_here (remove_entry (is_at (nat_cmp i)) es) ≤ opened_here es
here-ended i None es at some = absurd (false≢true some)
here-ended i (Some b) es at some = let k = here-removed i b es at in omega (arith, k)

most-step : (old new : Received) (a : Arrival) → Arrives old a new → opened_here old ≤ 100 → opened_here new ≤ 100
most-step old new (published2 i New) s h = let k = here-inserted i old s.1 in rw (s.2) (omega (arith, k, s.0))
most-step old new (published2 i Repeat) s h = rw (s.1) h
most-step old new (published2 i InUse) s h = absurd s
most-step old new (published2 i OverMaximum) s h = rw (s.2) h
most-step old new (published1 i answer) s h = rw (s.1) h
most-step old new (released i Done) s h = let k = here-ended i (opened i old) old refl s.0 in rw (s.1) (omega (arith, k, h))
most-step old new (released i Unknown) s h = rw (s.1) h
most-step old new restarted s h = rw s (let k = here-before old in omega (arith, k))

most-run : (start : Received) (arrivals : List Arrival) (end : Received) → ArriveAll start arrivals end → opened_here start ≤ 100 → opened_here end ≤ 100
most-run start [] end r h = rw r h
most-run start (a ∷ rest) end r h = most-run r.0 rest end r.2 (most-step start r.0 a r.1 h)

pub keeps_maximum : KeepsMaximum
keeps_maximum = λ arrivals end r. most-run [] arrivals end r (omega arith)
