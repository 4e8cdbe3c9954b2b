-- What the map of entries is asked: the first entry from a place on, and a change of each.
use Rattle.std.proofs.Common.{◌≡◌, ℕ, [], ◌∷◌, Some, None, refl, ◌∙◌, ap, arith, inl, inr, false, map}
use Rattle.std.specs.Prelude.{nat_le}
use Rattle.std.proofs.lemmas.Bool.{cases_Bool}
use Rattle.std.proofs.lemmas.Bool.Decides.{nat_tests}
use Rattle.std.specs.Ordering.{nat_cmp}
use Rattle.std.specs.BTreeMap.Range.{range_contains, entries_between}
use Rattle.std.specs.declared.ops.Bound.TheVariants.{Included, Unbounded}
use Rattle.qos_handshakes.specs.declared.copies.Entry.{Entry}
use Rattle.qos_handshakes.specs.Entries.{Entries, place_from}
use Rattle.qos_handshakes.specs.Outbox.{away}

pub away-is_map : (es : Entries) → away es ≡ map (λ (e : ℕ × Entry). (e.0, record e.1 { here = false })) es
away-is_map [] = refl
away-is_map (e ∷ es) = ap (λ (t : Entries). (e.0, record e.1 { here = false }) ∷ t) (away-is_map es)

in-range : (p k : ℕ) → range_contains nat_cmp (Included p) Unbounded k ≡ nat_le p k
in-range p k = grind (arith, nat_tests)

pub range-head : (p : ℕ) (e : ℕ × Entry) (rest es : Entries) → entries_between nat_cmp (Included p) Unbounded es ≡ e ∷ rest → place_from p es ≡ Some e.0
range-head p e rest [] h = (cc h)
range-head p e rest (x ∷ xs) h = elim (cases_Bool (nat_le p x.0)) [
  | inl t ↦ let g : x ∷ entries_between nat_cmp (Included p) Unbounded xs ≡ e ∷ rest = rw (in-range p x.0 ∙ t) at h in let same : x ≡ e = cc in rw t (ap (λ (y : ℕ × Entry). Some y.0) same)
  | inr f ↦ rw f (range-head p e rest xs (rw (in-range p x.0 ∙ f) at h))
]

pub range-none : (p : ℕ) (es : Entries) → entries_between nat_cmp (Included p) Unbounded es ≡ [] → place_from p es ≡ None
range-none p [] h = refl
range-none p (x ∷ xs) h = elim (cases_Bool (nat_le p x.0)) [
  | inl t ↦ (let bad : x ∷ entries_between nat_cmp (Included p) Unbounded xs ≡ [] = rw (in-range p x.0 ∙ t) at h in cc)
  | inr f ↦ rw f (range-none p xs (rw (in-range p x.0 ∙ f) at h))
]
