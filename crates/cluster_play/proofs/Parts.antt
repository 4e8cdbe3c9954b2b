-- Parts of a state: states of operations that they list, all of which it lists too.
use Rattle.std.proofs.Common.{◌≡◌, ℕ, zero, suc, cond, List, [], ◌∷◌, ◌++◌, filter, drop, refl, sym, ap, ◌∙◌, inl, inr, subst}
use Rattle.std.specs.List.{AllByRecursion}
use Rattle.std.specs.FinSet as set
use Rattle.bridge_deltas.specs.Buffer.{with_delta}
use Rattle.bridge_deltas.specs.Shipped.{IsNew, IsShipped, joined_to}
use Rattle.causal_context.specs.Dots.{Dots, dot_cmp, dot_cmp_total}
use Rattle.causal_context.specs.SetLattice.{IsSubset}
use Rattle.filter_trie.specs.Selected.{IsSelected}
use Rattle.replica_store.specs.declared.operation.Operation.{Operation}
use Rattle.replica_store.specs.Operations.{dot_of, HaveOwnDots}
use Rattle.replica_store.specs.States.{State, nothing, state_join}
use Rattle.replica_store.specs.StateOf.{IsStateOf}
use Rattle.replica_store.proofs.Deltas.{joined_is}
use Rattle.cluster_play.proofs.Bools.{or_true, or_left, or_right}
use Rattle.cluster_play.proofs.Sound.{Sound, lists, sound_joined}
use Rattle.cluster_play.proofs.Splits.{all_both, all_weaker}

pub record IsPart (ms : List Operation) (s t : State) : Type 0 where
  pub sound : Sound ms t
  pub within : IsSubset t.taken s.taken

abbrev pub AreParts : List Operation → State → List State → Type 0
AreParts ms s ts = AllByRecursion (IsPart ms s) ts

-- ---- the state of no operation
none_listed : (ms : List Operation) → filter (lists nothing) ms ≡ []
none_listed [] = refl
none_listed (o ∷ ms) = ap (λ b. cond b (o ∷ filter (lists nothing) ms) (filter (lists nothing) ms)) (set.contains-empty dot_cmp (dot_of o)) ∙ none_listed ms

pub sound_nothing : (ms : List Operation) → Sound ms nothing
sound_nothing ms = subst (λ O. IsStateOf O nothing) (sym (none_listed ms)) (joined_is [] (λ o p a b e. absurd a))

nothing_is_part : (ms : List Operation) (s : State) → IsPart ms s nothing
nothing_is_part ms s = record { sound = sound_nothing ms; within = λ q h. absurd (let no = sym (set.contains-empty dot_cmp q) ∙ h in cc) }

-- ---- of a state that grows
pub within_joined : (t s u : State) → IsSubset t.taken s.taken → IsSubset t.taken (state_join s u).taken
within_joined t s u h q e = set.contains-union dot_cmp_total s.taken u.taken q ∙ or_left (set.contains s.taken q) (set.contains u.taken q) (h q e)

pub within_itself : (t s : State) → IsSubset t.taken (state_join s t).taken
within_itself t s q e = set.contains-union dot_cmp_total s.taken t.taken q ∙ or_right (set.contains s.taken q) (set.contains t.taken q) e

pub parts_stay : (ms ns : List Operation) (s s' : State) (ts : List State) → ((t : State) → Sound ms t → Sound ns t) → IsSubset s.taken s'.taken → AreParts ms s ts → AreParts ns s' ts
parts_stay ms ns s s' ts sound below = all_weaker (IsPart ms s) (IsPart ns s') ts (λ t p. record { sound = sound t p.sound; within = λ q e. below q (p.within q e) })

-- ---- the last deltas
parts_drop : (ms : List Operation) (s : State) (n : ℕ) (ts : List State) → AreParts ms s ts → AreParts ms s (drop n ts)
parts_drop ms s zero [] a = a
parts_drop ms s zero (t ∷ ts) a = a
parts_drop ms s (suc n) [] a = a
parts_drop ms s (suc n) (t ∷ ts) a = parts_drop ms s n ts a.1

-- one more is kept
pub parts_with : (ms : List Operation) (s d : State) (ts : List State) → IsPart ms s d → AreParts ms s ts → AreParts ms s (with_delta d ts)
parts_with ms s d ts p a = parts_drop ms s _ (ts ++ d ∷ []) (all_both (IsPart ms s) ts (d ∷ []) a (p, tt))

-- ---- what is sent of a state
module _ (ms : List Operation) (s : State) (own : HaveOwnDots ms) where
  joined_part : (t u : State) → IsPart ms s t → IsPart ms s u → IsPart ms s (state_join t u)
  joined_part t u p q = record {
    sound = sound_joined ms t u own p.sound q.sound;
    within = λ d e. elim (or_true (set.contains t.taken d) (set.contains u.taken d) (sym (set.contains-union dot_cmp_total t.taken u.taken d) ∙ e)) [
      | inl a ↦ p.within d a
      | inr b ↦ q.within d b
    ];
  }

  joined_parts : (t : State) (ts : List State) → IsPart ms s t → AreParts ms s ts → IsPart ms s (joined_to t ts)
  joined_parts t [] p a = p
  joined_parts t (u ∷ ts) p a = joined_parts (state_join t u) ts (joined_part t u p a.0) a.1

  parts_selected : (P : State → Type 0) (ts news : List State) → IsSelected P ts news → AreParts ms s ts → AreParts ms s news
  parts_selected P [] news h a = subst (AreParts ms s) (sym h) tt
  parts_selected P (t ∷ ts) news (inl h) a = subst (AreParts ms s) (sym h.1.1) (a.0, parts_selected P ts h.1.0 h.1.2 a.1)
  parts_selected P (t ∷ ts) news (inr h) a = parts_selected P ts news h.1 a.1

  pub shipped_part : (belief : Dots) (deltas : List State) (t : State) → Sound ms s → AreParts ms s deltas → IsShipped belief deltas s t → IsPart ms s t
  shipped_part belief deltas t h a (inl x) = subst (IsPart ms s) (sym x.1.2) (joined_parts nothing x.1.0 (nothing_is_part ms s) (parts_selected (IsNew belief) deltas x.1.0 x.1.1 a))
  shipped_part belief deltas t h a (inr x) = subst (IsPart ms s) (sym x.1) (record { sound = h; within = λ q e. e })
