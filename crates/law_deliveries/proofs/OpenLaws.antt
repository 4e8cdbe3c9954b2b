-- What packets show of the exchanges that are open is what a session holds of them.
use Rattle.std.proofs.Common.{◌≡◌, ◌≢◌, ℕ, ◌+◌, Bool, true, false, cond, List, [], ◌∷◌, ◌++◌, Option, Some, None, length, refl, sym, ◌∙◌, ap, subst, arith, inl, inr, length-append}
use Rattle.std.specs.Prelude.{◌==◌, is_some}
use Rattle.std.proofs.lemmas.Bool.{cases_Bool, cases_eq, eq-eqb, ne_eqb, both_ways, false≢true}
use Rattle.std.specs.BTreeMap.{is_at, insert_entry}
use Rattle.std.specs.Map.{remove_entry}
use Rattle.std.specs.Ordering.{nat_cmp}
use Rattle.qos_handshakes.specs.Incoming.{Received, opened, opened_here, of_before}
use Rattle.qos_handshakes.proofs.Arrivals.{here-inserted, here-removed, here-before}
use Rattle.qos_handshakes.specs.Touched.{is_in}
use Rattle.law_handshakes.specs.Lists.{without}
use Rattle.law_handshakes.proofs.ArrivalLaws.{NoneTwice, opened-new, opened-other, twice-new, opened-ended, opened-stays, twice-ended, twice-before}
use Rattle.law_deliveries.specs.Open.{OpenExchanges, none_open, with_one, without_one}

-- ---- identifiers in a list
abbrev pub Apart : List ℕ → Type 0
Apart [] = Unit {0}
Apart (k ∷ ks) = (is_in k ks ≡ false) × Apart ks

has-head : (id k : ℕ) (ks : List ℕ) → is_in id (k ∷ ks) ≡ false → k ≢ id
has-head id k ks h = λ same. let bad : true ≡ false = rw (eq-eqb k id same) at h in (cc)

has-tail : (id k : ℕ) (ks : List ℕ) → is_in id (k ∷ ks) ≡ false → is_in id ks ≡ false
has-tail id k ks h = rw (ne_eqb k id (has-head id k ks h)) at h

has-end : (id : ℕ) (ks : List ℕ) → is_in id (ks ++ id ∷ []) ≡ true
has-end id [] = rw (eq-eqb id id refl) refl
has-end id (k ∷ ks) = elim (cases_Bool (k == id)) [ inl t ↦ rw t refl | inr f ↦ rw f (has-end id ks) ]

has-other : (i id : ℕ) (ks : List ℕ) → i ≢ id → is_in id (ks ++ i ∷ []) ≡ is_in id ks
has-other i id [] ne = rw (ne_eqb i id ne) refl
has-other i id (k ∷ ks) ne = elim (cases_Bool (k == id)) [ inl t ↦ rw t refl | inr f ↦ rw f (has-other i id ks ne) ]

apart-end : (id : ℕ) (ks : List ℕ) → is_in id ks ≡ false → Apart ks → Apart (ks ++ id ∷ [])
apart-end id [] none h = (refl, tt)
apart-end id (k ∷ ks) none h =
    let ne : k ≢ id = has-head id k ks none in
    (has-other id k ks (λ z. ne (sym z)) ∙ h.0, apart-end id ks (has-tail id k ks none) h.1)

gone : (id : ℕ) (ks : List ℕ) → Apart ks → is_in id (without id ks) ≡ false
gone id [] h = refl
gone id (k ∷ ks) h = elim (cases_eq k id) [
  | inl same ↦ rw (eq-eqb k id same) (ap (λ (i : ℕ). is_in i ks) (sym same) ∙ h.0)
  | inr ne ↦ rw (ne_eqb k id ne) (rw (ne_eqb k id ne) (gone id ks h.1))
]

stays : (i id : ℕ) (ks : List ℕ) → i ≢ id → is_in id (without i ks) ≡ is_in id ks
stays i id [] ne = refl
stays i id (k ∷ ks) ne = elim (cases_eq k i) [
  | inl same ↦ let apart : k ≢ id = λ z. ne (sym same ∙ z) in rw (eq-eqb k i same, ne_eqb k id apart) refl
  | inr other ↦ rw (ne_eqb k i other) (elim (cases_Bool (k == id)) [ inl t ↦ rw t refl | inr f ↦ rw f (stays i id ks ne) ])
]

apart-without : (i : ℕ) (ks : List ℕ) → Apart ks → Apart (without i ks)
apart-without i [] h = tt
apart-without i (k ∷ ks) h = elim (cases_eq k i) [
  | inl same ↦ rw (eq-eqb k i same) h.1
  | inr other ↦ rw (ne_eqb k i other) (stays i k ks (λ z. other (sym z)) ∙ h.0, apart-without i ks h.1)
]

count-without : (id : ℕ) (ks : List ℕ) → is_in id ks ≡ true → length (without id ks) + 1 ≡ length ks
count-without id [] h = absurd (false≢true h)
count-without id (k ∷ ks) h = elim (cases_Bool (k == id)) [
  | inl t ↦ rw t (omega arith)
  | inr f ↦ let more = count-without id ks (rw f at h) in rw f (omega (arith, more))
]

absent : (id : ℕ) (ks : List ℕ) → is_in id ks ≡ false → without id ks ≡ ks
absent id [] h = refl
absent id (k ∷ ks) h = rw (ne_eqb k id (has-head id k ks h)) (ap (λ (l : List ℕ). k ∷ l) (absent id ks (has-tail id k ks h)))

-- ---- what a session holds
abbrev pub as_held : Bool → Bool → Option Bool
as_held true here = Some here
as_held false here = None

pub record Knows (o : OpenExchanges) (r : Received) : Type 0 where
  pub held : (id : ℕ) → opened id r ≡ as_held (is_in id o.all) (is_in id o.here)
  pub count : length o.here ≡ opened_here r
  pub within : (id : ℕ) → is_in id o.here ≡ true → is_in id o.all ≡ true
  pub all_apart : Apart o.all
  pub here_apart : Apart o.here
  pub twice : NoneTwice r

held-none : (a h : Bool) → as_held a h ≡ None → a ≡ false
held-none true h is = let bad : Some h ≡ None = is in absurd (cc)
held-none false h is = refl

held-some : (a h b : Bool) → as_held a h ≡ Some b → (a ≡ true) × (h ≡ b)
held-some true h b is = let same : Some h ≡ Some b = is in (refl, (cc))
held-some false h b is = let bad : None ≡ Some b = is in absurd (cc)

pub known-none : (o : OpenExchanges) (r : Received) (id : ℕ) → Knows o r → opened id r ≡ None → is_in id o.all ≡ false
known-none o r id k none = held-none (is_in id o.all) (is_in id o.here) (sym (k.held id) ∙ none)

pub known-some : (o : OpenExchanges) (r : Received) (id : ℕ) (b : Bool) → Knows o r → opened id r ≡ Some b → (is_in id o.all ≡ true) × (is_in id o.here ≡ b)
known-some o r id b k some = held-some (is_in id o.all) (is_in id o.here) b (sym (k.held id) ∙ some)

no-true : (a b : Bool) → (a ≡ true → b ≡ true) → b ≡ false → a ≡ false
no-true true b up f = absurd (both_ways b f (up refl))
no-true false b up f = refl

pub known-not-here : (o : OpenExchanges) (r : Received) (id : ℕ) → Knows o r → opened id r ≡ None → is_in id o.here ≡ false
known-not-here o r id k none = no-true (is_in id o.here) (is_in id o.all) (k.within id) (known-none o r id k none)

is-held : (a h : Bool) → is_some (as_held a h) ≡ a
is-held true h = refl
is-held false h = refl

-- whether an exchange is open
pub known-open : (o : OpenExchanges) (r : Received) (id : ℕ) → Knows o r → is_some (opened id r) ≡ is_in id o.all
known-open o r id k = ap is_some (k.held id) ∙ is-held (is_in id o.all) (is_in id o.here)

pub knows-none : Knows none_open []
knows-none = record { held = λ id. refl; count = refl; within = λ id h. absurd (false≢true h); all_apart = tt; here_apart = tt; twice = tt }

-- ---- a new exchange
pub knows-new : (o : OpenExchanges) (r : Received) (id : ℕ) → Knows o r → opened id r ≡ None → Knows (with_one id o) (insert_entry nat_cmp r id true)
knows-new o r id k none =
    let all = known-none o r id k none in
    let here = known-not-here o r id k none in
    record {
      held = λ j. elim (cases_eq id j) [
        | inl same ↦ ap (λ (i : ℕ). opened i (insert_entry nat_cmp r id true)) (sym same) ∙ opened-new id r none
            ∙ sym (ap (λ (i : ℕ). as_held (is_in i (o.all ++ id ∷ [])) (is_in i (o.here ++ id ∷ []))) (sym same) ∙ ap (λ (b : Bool). as_held b (is_in id (o.here ++ id ∷ []))) (has-end id o.all) ∙ ap (λ (b : Bool). as_held true b) (has-end id o.here))
        | inr ne ↦ opened-other id j r ne ∙ k.held j ∙ sym (ap (λ (b : Bool). as_held b (is_in j (o.here ++ id ∷ []))) (has-other id j o.all ne) ∙ ap (λ (b : Bool). as_held (is_in j o.all) b) (has-other id j o.here ne))
      ];
      count = let n = here-inserted id r none in let m = k.count in omega (arith, length-append o.here (id ∷ []), n, m);
      within = λ j h. elim (cases_eq id j) [
        | inl same ↦ ap (λ (i : ℕ). is_in i (o.all ++ id ∷ [])) (sym same) ∙ has-end id o.all
        | inr ne ↦ has-other id j o.all ne ∙ k.within j (sym (has-other id j o.here ne) ∙ h)
      ];
      all_apart = apart-end id o.all all k.all_apart;
      here_apart = apart-end id o.here here k.here_apart;
      twice = twice-new id r none k.twice;
    }

-- ---- one that ends
count-ended : (id : ℕ) (ks : List ℕ) (n m : ℕ) (b : Bool) → is_in id ks ≡ b → n + cond b 1 0 ≡ m → length ks ≡ m → length (without id ks) ≡ n
count-ended id ks n m true is sum same = let less = count-without id ks is in omega (arith, less, sum, same)
count-ended id ks n m false is sum same = let none = ap length (absent id ks is) in omega (arith, none, sum, same)

pub knows-ended : (o : OpenExchanges) (r : Received) (id : ℕ) (b : Bool) → Knows o r → opened id r ≡ Some b → Knows (without_one id o) (remove_entry (is_at (nat_cmp id)) r)
knows-ended o r id b k some = record {
  held = λ j. elim (cases_eq id j) [
    | inl same ↦ ap (λ (i : ℕ). opened i (remove_entry (is_at (nat_cmp id)) r)) (sym same) ∙ opened-ended id r k.twice
        ∙ sym (ap (λ (i : ℕ). as_held (is_in i (without id o.all)) (is_in i (without id o.here))) (sym same) ∙ ap (λ (c : Bool). as_held c (is_in id (without id o.here))) (gone id o.all k.all_apart))
    | inr ne ↦ opened-stays id j r ne ∙ k.held j ∙ sym (ap (λ (c : Bool). as_held c (is_in j (without id o.here))) (stays id j o.all ne) ∙ ap (λ (c : Bool). as_held (is_in j o.all) c) (stays id j o.here ne))
  ];
  count = count-ended id o.here (opened_here (remove_entry (is_at (nat_cmp id)) r)) (opened_here r) b (known-some o r id b k some).1 (here-removed id b r some) k.count;
  within = λ j h. elim (cases_eq id j) [
    | inl same ↦ absurd (false≢true (sym (gone id o.here k.here_apart) ∙ ap (λ (i : ℕ). is_in i (without id o.here)) same ∙ h))
    | inr ne ↦ stays id j o.all ne ∙ k.within j (sym (stays id j o.here ne) ∙ h)
  ];
  all_apart = apart-without id o.all k.all_apart;
  here_apart = apart-without id o.here k.here_apart;
  twice = twice-ended id r k.twice;
}

abbrev listed : List ℕ → List ℕ → OpenExchanges
listed all here = record { all = all; here = here }

none-ended : (o : OpenExchanges) (id : ℕ) → is_in id o.all ≡ false → is_in id o.here ≡ false → without_one id o ≡ o
none-ended o id all here =
    let a : listed (without id o.all) (without id o.here) ≡ listed o.all (without id o.here) = ap (λ (l : List ℕ). listed l (without id o.here)) (absent id o.all all) in
    let b : listed o.all (without id o.here) ≡ listed o.all o.here = ap (λ (l : List ℕ). listed o.all l) (absent id o.here here) in
    a ∙ b

pub knows-unknown : (o : OpenExchanges) (r : Received) (id : ℕ) → Knows o r → opened id r ≡ None → Knows (without_one id o) r
knows-unknown o r id k none = subst (λ (x : OpenExchanges). Knows x r) (sym (none-ended o id (known-none o r id k none) (known-not-here o r id k none))) k

-- ---- a new connection
before-held : (id : ℕ) (es : Received) → opened id (of_before es) ≡ as_held (is_some (opened id es)) false
before-held id [] = refl
before-held id (e ∷ es) = elim (cases_Bool (is_at (nat_cmp id) e.0)) [ inl t ↦ rw t refl | inr f ↦ rw f (before-held id es) ]

pub knows-begun : (o : OpenExchanges) (r : Received) → Knows o r → Knows (record o { here = [] }) (of_before r)
knows-begun o r k = record {
  held = λ id. before-held id r ∙ ap (λ (b : Bool). as_held b false) (known-open o r id k);
  count = sym (here-before r);
  within = λ id h. absurd (false≢true h);
  all_apart = k.all_apart;
  here_apart = tt;
  twice = twice-before r k.twice;
}
