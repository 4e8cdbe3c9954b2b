-- A walk down the levels of a key finds where the texts begin that stand after it.
use Rattle.std.proofs.Common.{◌≡◌, ◌-◌, ◌⊎◌, ℕ, List, [], ◌∷◌, ◌++◌, length, take, Option, Some, None, inl, inr, refl, sym, ap, subst, ◌∙◌, arith, append_assoc, length-append}
use Rattle.std.proofs.Math.Seq.{take-append_seam}
use Rattle.filter_trie.specs.Search.Seeking.{IsBefore, IsFrom, IsPast, IsNext, deeper}
use Rattle.filter_trie.proofs.Order.{asymmetric, after_front, without_front, above, begins}

-- past the key the texts that have P begin at `best`, or they stand under q and have Q there
abbrev pub Reaches : (List ℕ → Type 0) → (List ℕ → Type 0) → List ℕ → List ℕ → List ℕ → Option (List ℕ) → Type 0
Reaches P Q key q rest best = (text : List ℕ) → P text → IsBefore key text
    → ((t : List ℕ) × (text ≡ q ++ t) × Q t × IsBefore rest t) ⊎ (((t : List ℕ) → IsBefore (q ++ t) text) × IsFrom best text)

-- how far a walk has come
pub record Walk (P Q : List ℕ → Type 0) (key rest : List ℕ) (best : Option (List ℕ)) : Type 0 where
  pub front : List ℕ
  pub parts : key ≡ front ++ rest
  pub past : IsPast key best
  pub reaches : Reaches P Q key front rest best

take_front : (front rest : List ℕ) → take (length (front ++ rest) - length rest) (front ++ rest) ≡ front
take_front front rest =
    let n : length (front ++ rest) - length rest ≡ length front = omega (arith, length-append front rest) in
    ap (λ i. take i (front ++ rest)) n ∙ take-append_seam front rest

-- the bound in terms of the front
lower : List ℕ → Option (List ℕ) → Option (List ℕ) → Option (List ℕ)
lower front None best = best
lower front (Some bound) best = Some (front ++ bound)

deeper_is : (key front rest : List ℕ) (local best : Option (List ℕ)) → key ≡ front ++ rest → deeper key rest local best ≡ lower front local best
unfolding lower
deeper_is key front rest None best parts = refl
deeper_is key front rest (Some bound) best parts =
    ap (λ k. Some (take (length k - length rest) k ++ bound)) parts ∙ ap (λ f. Some (f ++ bound)) (take_front front rest)

lower_past : (key front rest : List ℕ) (local best : Option (List ℕ)) → key ≡ front ++ rest → IsPast rest local → IsPast key best → IsPast key (lower front local best)
unfolding lower
lower_past key front rest None best parts new old = old
lower_past key front rest (Some bound) best parts new old =
    let B : List ℕ → Type 0 = λ k. IsBefore k (front ++ bound) in
    subst B (sym parts) (after_front front rest bound new)

-- what is above the front is from its bounds on
lower_above : (front text : List ℕ) (local best : Option (List ℕ)) → ((t : List ℕ) → IsBefore (front ++ t) text) → IsFrom best text → IsFrom (lower front local best) text
unfolding lower
lower_above front text None best over from = from
lower_above front text (Some bound) best over from = λ h. asymmetric text (front ++ bound) h (over bound)

lower_from : (front t : List ℕ) (local best : Option (List ℕ)) → IsFrom local t → IsFrom (lower front local best) (front ++ t)
unfolding lower
lower_from front t None best from = absurd from
lower_from front t (Some bound) best from = λ h. from (without_front front t bound h)

-- a text under the front is under its level too, or from a bound on
module _ (Q R : List ℕ → Type 0) (front rest level later : List ℕ) (best local : Option (List ℕ)) where
  under : rest ≡ (level ++ 47 ∷ []) ++ later
      → ((t : List ℕ) → Q t → IsBefore rest t → IsFrom local t ⊎ ((u : List ℕ) × (t ≡ level ++ 47 ∷ u)))
      → ((u : List ℕ) → Q (level ++ 47 ∷ u) → R u)
      → (text t : List ℕ) → text ≡ front ++ t → Q t → IsBefore rest t
      → ((u : List ℕ) × (text ≡ (front ++ (level ++ 47 ∷ [])) ++ u) × R u × IsBefore later u)
      ⊎ (((u : List ℕ) → IsBefore ((front ++ (level ++ 47 ∷ [])) ++ u) text) × IsFrom (lower front local best) text)
  under whole covers down text t same q before =
      let p : List ℕ = level ++ 47 ∷ [] in
      let joined : (u : List ℕ) → p ++ u ≡ level ++ 47 ∷ u = λ u. append_assoc level (47 ∷ []) u in
      let further : (u : List ℕ) → front ++ (p ++ u) ≡ (front ++ p) ++ u = λ u. sym (append_assoc front p u) in
      let D : List ℕ → Type 0 = λ x. IsBefore x t in
      let high : IsBefore (p ++ later) t = subst D whole before in
      elim (begins p t) [
        | inl b ↦
            let S : List ℕ → Type 0 = λ x. IsBefore (p ++ later) x in
            inl (b.0, same ∙ ap (λ x. front ++ x) b.1 ∙ further b.0, down b.0 (subst Q (b.1 ∙ joined b.0) q), without_front p later b.0 (subst S b.1 high))
        | inr none ↦ inr (
          (λ u.
              let B : List ℕ → Type 0 = λ x. IsBefore x text in
              let C : List ℕ → Type 0 = λ x. IsBefore (front ++ (p ++ u)) x in
              subst B (further u) (subst C (sym same) (after_front front (p ++ u) t (above p later t high none u)))),
          elim (covers t q before) [
            | inl from ↦ let F : List ℕ → Type 0 = IsFrom (lower front local best) in subst F (sym same) (lower_from front t local best from)
            | inr on ↦ absurd (none on.0 (on.1 ∙ sym (joined on.0)))
          ],
        )
      ]

module _ (P Q : List ℕ → Type 0) (key rest : List ℕ) (best local : Option (List ℕ)) where
  -- at the last level that is looked at
  pub walk_ends : Walk P Q key rest best → IsPast rest local → ((t : List ℕ) → Q t → IsBefore rest t → IsFrom local t) → IsNext P key (deeper key rest local best)
  walk_ends w past covers =
      let N : Option (List ℕ) → Type 0 = IsNext P key in
      let L : Option (List ℕ) = lower w.front local best in
      subst N (sym (deeper_is key w.front rest local best w.parts)) (
        lower_past key w.front rest local best w.parts past w.past,
        λ text p h. elim (w.reaches text p h) [
          | inl r ↦ let F : List ℕ → Type 0 = IsFrom L in subst F (sym r.1) (lower_from w.front r.0 local best (covers r.0 r.2 r.3))
          | inr r ↦ lower_above w.front text local best r.0 r.1
        ],
      )

  -- to the next level
  pub walk_goes_on : (R : List ℕ → Type 0) (level later : List ℕ) → Walk P Q key rest best → rest ≡ level ++ 47 ∷ later → IsPast rest local
      → ((t : List ℕ) → Q t → IsBefore rest t → IsFrom local t ⊎ ((u : List ℕ) × (t ≡ level ++ 47 ∷ u)))
      → ((u : List ℕ) → Q (level ++ 47 ∷ u) → R u)
      → Walk P R key later (deeper key rest local best)
  walk_goes_on R level later w step past covers down =
      let p : List ℕ = level ++ 47 ∷ [] in
      let joined : (u : List ℕ) → level ++ 47 ∷ u ≡ p ++ u = λ u. sym (append_assoc level (47 ∷ []) u) in
      let further : (u : List ℕ) → w.front ++ (p ++ u) ≡ (w.front ++ p) ++ u = λ u. sym (append_assoc w.front p u) in
      let whole : rest ≡ p ++ later = step ∙ joined later in
      let L : Option (List ℕ) = lower w.front local best in
      let K : Option (List ℕ) → Type 0 = Walk P R key later in
      subst K (sym (deeper_is key w.front rest local best w.parts)) (record {
        front = w.front ++ p;
        parts = w.parts ∙ ap (λ r. w.front ++ r) whole ∙ further later;
        past = lower_past key w.front rest local best w.parts past w.past;
        reaches = λ text h before. elim (w.reaches text h before) [
          | inl r ↦ under Q R w.front rest level later best local whole covers down text r.0 r.1 r.2 r.3
          | inr r ↦ inr ((λ t. let B : List ℕ → Type 0 = λ x. IsBefore x text in subst B (further t) (r.0 (p ++ t))), lower_above w.front text local best r.0 r.1)
        ];
      })
