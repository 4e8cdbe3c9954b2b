-- Where shared filters stand among all.
use Rattle.std.proofs.Common.{◌≡◌, ◌+◌, ◌⊎◌, ℕ, false, cond, not, List, [], ◌∷◌, ◌++◌, length, take, drop, inl, inr, refl, sym, ap, subst, ◌∙◌, arith, append_assoc, Option, Some, None}
use Rattle.std.specs.Prelude.{codes, nat_eq}
use Rattle.std.specs.List.{position_or_len, starts_with}
use Rattle.std.specs.Cmp.Lexicographic.{bytes_decides}
use Rattle.std.proofs.Math.Seq.{drop-append-add}
use Rattle.std.proofs.lemmas.List.{take-append-drop}
use Rattle.std.proofs.lemmas.Bool.{false_from_ne_true}
use Rattle.mqtt_topics.specs.Levels.{is_separator, levels}
use Rattle.mqtt_topics.specs.Topics.{filter_part, IsShared}
use Rattle.mqtt_topics.specs.Matching.{Matches, PlainMatches, LevelsMatch, BeginsWithDollar, BeginsWithWildcard}
use Rattle.filter_trie.specs.Search.Seeking.{IsBefore, IsNext, IsLevel}
use Rattle.filter_trie.proofs.Order.{asymmetric, after_front, without_front, not_below_front, transitive, either_side, above, begins, next_byte}
use Rattle.filter_trie.proofs.LevelLaws.{no_separator}
use Rattle.filter_trie.proofs.FilterWalk.{Matching}

pub shares : (f : List ℕ) → IsShared f → (t : List ℕ) × (f ≡ codes "$share/" ++ t)
shares f h =
    let e : codes "$share/" ≡ take 7 f = (bytes_decides (codes "$share/") (take 7 f)).0 h in
    (drop 7 f, sym (take-append-drop 7 f) ∙ ap (λ x. x ++ drop 7 f) (sym e))

pub plain_part : (f : List ℕ) → ((t : List ℕ) → f ≡ codes "$share/" ++ t → ⊥) → filter_part f ≡ f
plain_part f none =
    let plain : starts_with nat_eq f (codes "$share/") ≡ false = false_from_ne_true (starts_with nat_eq f (codes "$share/")) (λ h. let s = shares f h in none s.0 s.1) in
    rw plain refl

separator_at : (share f : List ℕ) → IsLevel share → position_or_len is_separator (share ++ 47 ∷ f) ≡ length share
separator_at [] f h = refl
separator_at (b ∷ share) f h =
    let n : ℕ = position_or_len is_separator (share ++ 47 ∷ f) in
    let r : n ≡ length share = separator_at share f h.1 in
    let e : position_or_len is_separator (b ∷ (share ++ 47 ∷ f)) ≡ 1 + n = ap (λ s. cond (not s) (1 + n) 0) (no_separator b h.0) in
    e ∙ omega arith

pub shared_part : (share f : List ℕ) → IsLevel share → filter_part (codes "$share/" ++ (share ++ 47 ∷ f)) ≡ f
shared_part share f h = rw (separator_at share f h) (drop-append-add share (47 ∷ f) 1)

-- past a shared filter
pub shared_next : (group part name bound : List ℕ) → IsLevel group → IsNext (Matching (levels name)) part (Some bound)
    → IsNext (λ f. Matches f name) (codes "$share/" ++ (group ++ 47 ∷ part)) (Some (codes "$share/" ++ (group ++ 47 ∷ bound)))
shared_next group part name bound fine next =
    let p : List ℕ = codes "$share/" ++ (group ++ 47 ∷ []) in
    let front : (t : List ℕ) → codes "$share/" ++ (group ++ 47 ∷ t) ≡ p ++ t = λ t. ap (λ x. codes "$share/" ++ x) (sym (append_assoc group (47 ∷ []) t)) in
    let B : List ℕ → Type 0 = IsBefore (p ++ part) in
    let past : IsBefore (p ++ part) (p ++ bound) = after_front p part bound next.0 in
    let from : (f : List ℕ) → Matches f name → IsBefore (p ++ part) f → IsBefore f (p ++ bound) → ⊥ = λ f m after h. elim (begins p f) [
      | inl (t, e) ↦
          let M : List ℕ → Type 0 = λ x. PlainMatches x name in
          let A : List ℕ → Type 0 = λ x. IsBefore x (p ++ bound) in
          let whole : filter_part f ≡ t = ap filter_part (e ∙ sym (front t)) ∙ shared_part group t fine in
          next.1 t (subst M whole m).0 (without_front p part t (subst B e after)) (without_front p t bound (subst A e h))
      | inr none ↦ asymmetric f (p ++ bound) h (above p part f after none bound)
    ] in
    let N : List ℕ → List ℕ → Type 0 = λ k b. IsNext (λ f. Matches f name) k (Some b) in
    let K : List ℕ → Type 0 = λ k. N k (p ++ bound) in
    let C : List ℕ → Type 0 = N (codes "$share/" ++ (group ++ 47 ∷ part)) in
    subst C (sym (front bound)) (subst K (sym (front part)) (past, from))

-- a filter that matches is plain and has levels that match, or is shared
pub plain_or_shared : (f name : List ℕ) → Matches f name → Matching (levels name) f ⊎ ((t : List ℕ) × (f ≡ codes "$share/" ++ t))
plain_or_shared f name m = elim (begins (codes "$share/") f) [
  | inl s ↦ inr s
  | inr none ↦ inl (let M : List ℕ → Type 0 = λ x. PlainMatches x name in (subst M (plain_part f none) m).0)
]

-- past a key that stands after every shared filter
pub plain_next : (key name : List ℕ) (bound : Option (List ℕ)) → (IsBefore key (codes "$share0") → ⊥) → IsNext (Matching (levels name)) key bound
    → IsNext (λ f. Matches f name) key bound
plain_next key name bound high next = (
  next.0,
  λ f m after. elim (plain_or_shared f name m) [
    | inl p ↦ next.1 f p after
    | inr (t, e) ↦
        let B : List ℕ → Type 0 = IsBefore key in
        let below : IsBefore (codes "$share/" ++ t) (codes "$share0") = after_front (codes "$share") (47 ∷ t) (48 ∷ []) (inl (omega arith)) in
        absurd (high (transitive key (codes "$share/" ++ t) (codes "$share0") (subst B e after) below))
  ],
)

from_share : (f : List ℕ) → (t : List ℕ) × (f ≡ codes "$share/" ++ t) → IsBefore f (codes "$share") → ⊥
from_share f (t, e) h = let B : List ℕ → Type 0 = λ x. IsBefore x (codes "$share") in not_below_front (codes "$share") (47 ∷ t) (subst B e h)

-- past a key before "$share" the bound is the lesser of the two
pub early_next : (key name bound : List ℕ) → IsNext (Matching (levels name)) key (Some bound) → IsBefore bound (codes "$share")
    → IsNext (λ f. Matches f name) key (Some bound)
early_next key name bound next low = (
  next.0,
  λ f m after h. elim (plain_or_shared f name m) [
    | inl p ↦ next.1 f p after h
    | inr s ↦ from_share f s (transitive f bound (codes "$share") h low)
  ],
)

pub share_next : (key name : List ℕ) (bound : Option (List ℕ)) → IsNext (Matching (levels name)) key bound → IsBefore key (codes "$share")
    → ((b : List ℕ) → bound ≡ Some b → IsBefore b (codes "$share") → ⊥) → IsNext (λ f. Matches f name) key (Some (codes "$share"))
share_next key name None next low high = (low, λ f m after h. elim (plain_or_shared f name m) [ inl p ↦ next.1 f p after | inr s ↦ from_share f s h ])
share_next key name (Some b) next low high = (
  low,
  λ f m after h. elim (plain_or_shared f name m) [
    | inl p ↦ elim (either_side f b (codes "$share") h) [ inl l ↦ next.1 f p after l | inr l ↦ high b refl l ]
    | inr s ↦ from_share f s h
  ],
)

-- names that begin with `$`
dollars : (n : List ℕ) → BeginsWithDollar n → (t : List ℕ) × (n ≡ 36 ∷ t)
dollars n h =
    let e : 36 ∷ [] ≡ take 1 n = (bytes_decides (36 ∷ []) (take 1 n)).0 h in
    (drop 1 n, sym (take-append-drop 1 n) ∙ ap (λ x. x ++ drop 1 n) (sym e))

-- past a name that begins with `$`, for a filter that begins with a wildcard
pub dollar_next : (filter key : List ℕ) → BeginsWithWildcard (filter_part filter) → BeginsWithDollar key → IsNext (Matches filter) key (Some (37 ∷ []))
dollar_next filter key wild dollar =
    let k = dollars key dollar in
    let N : List ℕ → Type 0 = λ x. IsNext (Matches filter) x (Some (37 ∷ [])) in
    subst N (sym k.1) (
      inl (omega arith),
      λ n m after. next_byte [] n 36 (above (36 ∷ []) k.0 n after
          (λ t e. let D : List ℕ → Type 0 = BeginsWithDollar in m.1 wild (subst D (sym e) refl))),
    )

pub topic_next : (filter key : List ℕ) (bound : Option (List ℕ)) → IsNext (λ n. LevelsMatch (levels (filter_part filter)) (levels n)) key bound → IsNext (Matches filter) key bound
topic_next filter key bound next = (next.0, λ n m after. next.1 n m.0 after)
