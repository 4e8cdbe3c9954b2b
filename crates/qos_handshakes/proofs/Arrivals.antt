-- How many exchanges were opened on a connection, call by call.
use Rattle.std.proofs.Common.{◌≡◌, ◌⊎◌, ℕ, ◌+◌, true, false, cond, [], ◌∷◌, Option, Some, None, refl, sym, ◌∙◌, ap, arith, inl, inr, map}
use Rattle.std.specs.Prelude.{Bool, is_some, ◌<◌, ◌≤◌, List, ◌++◌}
use Rattle.std.proofs.lemmas.Bool.Decides.{nat_tests}
use Rattle.std.proofs.lemmas.Bool.{cases_Bool, false≢true}
use Rattle.std.specs.BTreeMap.{is_at, insert_entry}
use Rattle.std.specs.Map.{remove_entry, keys_of}
use Rattle.std.specs.Ordering.{nat_cmp}
use Rattle.std.specs.declared.cmp.Ordering.{Ordering}
use Rattle.std.specs.declared.cmp.Ordering.TheVariants.{Less, Equal, Greater}
use Rattle.qos_handshakes.specs.Incoming.{Received, opened, opened_here, of_before, rise, of_identifiers}
use Rattle.qos_handshakes.proofs.RiseLaws.{first_of, rise-first, rise-parts}

pub before-is_map : (es : Received) → of_before es ≡ map (λ (e : ℕ × Bool). (e.0, false)) es
before-is_map [] = refl
before-is_map (e ∷ es) = ap (λ (t : Received). (e.0, false) ∷ t) (before-is_map es)

pub here-before : (es : Received) → opened_here (of_before es) ≡ 0
here-before [] = refl
here-before (e ∷ es) = omega (arith, here-before es)

pub three : (o : Ordering) → (o ≡ Less) ⊎ ((o ≡ Equal) ⊎ (o ≡ Greater))
three Less = inl refl
three Equal = inr (inl refl)
three Greater = inr (inr refl)

pub here-inserted : (id : ℕ) (es : Received) → opened id es ≡ None → opened_here (insert_entry nat_cmp es id true) ≡ opened_here es + 1
here-inserted id [] none = refl
here-inserted id (e ∷ es) none = elim (three (nat_cmp id e.0)) [
  | inl less ↦ rw less (omega arith)
  | inr more ↦ elim more [
    | inl same ↦ (let bad : Some e.1 ≡ None = rw same at none in cc)
    | inr great ↦ rw great (omega (arith, here-inserted id es (rw great at none)))
  ]
]

pub here-removed : (id : ℕ) (b : Bool) (es : Received) → opened id es ≡ Some b → opened_here (remove_entry (is_at (nat_cmp id)) es) + cond b 1 0 ≡ opened_here es
here-removed id b [] is = let bad : None ≡ Some b = is in (cc)
here-removed id b (e ∷ es) is = elim (cases_Bool (is_at (nat_cmp id) e.0)) [
  | inl t ↦ let f : Some e.1 ≡ Some b = rw t at is in let g : b ≡ e.1 = cc in rw (t, g) (omega arith)
  | inr f ↦ rw f (omega (arith, here-removed id b es (rw f at is)))
]

pub absent : (o p : Option Bool) (b : Bool) → o ≡ p → b ≡ is_some o → b ≡ false → p ≡ None
absent None p b same is not' = sym same
absent (Some x) p b same is not' = absurd (false≢true (sym not' ∙ is))

-- ---- identifiers that were kept
pub made-first : (id : ℕ) (m : Received) → id < first_of (keys_of m) → insert_entry nat_cmp m id false ≡ (id, false) ∷ m
made-first id [] lt = refl
made-first id (e ∷ es) lt = let less : nat_cmp id e.0 ≡ Less = grind (arith, nat_tests) in rw less refl

ids-nil : (is : List ℕ) → is ++ [] ≡ is
ids-nil [] = refl
ids-nil (i ∷ is) = ap (λ (t : List ℕ). i ∷ t) (ids-nil is)

pub ids-none : (is : List ℕ) → is ++ [] ≡ is
ids-none is = ids-nil is

ids-one : (left : List ℕ) (i : ℕ) (is : List ℕ) → (left ++ i ∷ []) ++ is ≡ left ++ i ∷ is
ids-one [] i is = refl
ids-one (x ∷ left) i is = ap (λ (t : List ℕ). x ∷ t) (ids-one left i is)

pub ids-back : (left rest is all : List ℕ) (i : ℕ) → left ++ is ≡ all → left ≡ rest ++ i ∷ [] → rest ++ i ∷ is ≡ all
ids-back left rest is all i so at = sym (ids-one rest i is) ∙ ap (λ (t : List ℕ). t ++ is) (sym at) ∙ so

rise-later : (left is : List ℕ) → rise (left ++ is) ≡ true → rise is ≡ true
rise-later [] is r = r
rise-later (i ∷ left) is r = rise-later left is (rise-parts i (left ++ is) r).2

pub ids-fall : (left rest is all : List ℕ) (i : ℕ) → left ++ is ≡ all → left ≡ rest ++ i ∷ [] → first_of is ≤ i → rise all ≡ false
ids-fall left rest is all i so at past = elim (cases_Bool (rise all)) [
  | inl r ↦ absurd (
      let b = rise-later rest (i ∷ is) (ap rise (ids-back left rest is all i so at) ∙ r) in
      let lt = rise-first i is b in omega (arith, lt, past))
  | inr f ↦ f
]

pub kept-here : (is : List ℕ) → opened_here (of_identifiers is) ≡ 0
kept-here [] = refl
kept-here (i ∷ is) = omega (arith, kept-here is)
