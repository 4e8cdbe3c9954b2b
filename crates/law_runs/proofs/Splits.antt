-- Where something stands among acts that come one after the other.
use Rattle.std.proofs.Common.{◌≡◌, ◌⊎◌, inl, inr, List, [], ◌∷◌, ◌++◌, refl, sym, ◌∙◌, subst}
use Rattle.node_work.specs.Acts.{Act, Runs, next}
use Rattle.node_work.specs.View.{Place, HeldView}

module _ {A : Type 0} where
  pub head_is : {x y : A} {xs ys : List A} → x ∷ xs ≡ y ∷ ys → x ≡ y
  head_is e = cc

  pub tail_is : {x y : A} {xs ys : List A} → x ∷ xs ≡ y ∷ ys → xs ≡ ys
  tail_is e = cc

  pub none_there : {X : Type 0} (before after : List A) (a : A) → [] ≡ before ++ a ∷ after → X
  none_there [] after a e = cc
  none_there (b ∷ before) after a e = cc

  -- one alone is no other
  pub alone_is : (x a : A) (before after : List A) → x ∷ [] ≡ before ++ a ∷ after → x ≡ a
  alone_is x a [] after e = head_is e
  alone_is x a (b ∷ before) after e = none_there before after a (tail_is e)

  pub splits : (xs ys before after : List A) (a : A) → xs ++ ys ≡ before ++ a ∷ after
      → ((rest : List A) × (xs ≡ before ++ a ∷ rest) × (after ≡ rest ++ ys)) ⊎ ((front : List A) × (before ≡ xs ++ front) × (ys ≡ front ++ a ∷ after))
  splits [] ys before after a e = inr (before, refl, e)
  splits (x ∷ xs) ys [] after a e = inl (xs, (λ i. head_is e i ∷ xs), sym (tail_is e))
  splits (x ∷ xs) ys (b ∷ before) after a e =
      elim (splits xs ys before after a (tail_is e)) [
        | inl r ↦ inl (r.0, (λ i. head_is e i ∷ r.1 i), r.2)
        | inr r ↦ inr (r.0, (λ i. head_is (sym e) i ∷ r.1 i), r.2)
      ]

-- ---- acts in parts
pub runs_split : (p : Place) (xs ys : List Act) (h h' : HeldView) → Runs p h (xs ++ ys) h' → (mid : HeldView) × Runs p h xs mid × Runs p mid ys h'
runs_split p [] ys h h' r = (h, refl, r)
runs_split p (x ∷ xs) ys h h' r = let s = runs_split p xs ys r.0 h' r.2 in (s.0, (r.0, r.1, s.1), s.2)

-- one act leaves what is next
pub left_by : (p : Place) (h mid : HeldView) (a : Act) (acts : List Act) → acts ≡ a ∷ [] → Runs p h acts mid → mid ≡ next h a
left_by p h mid a acts is runs = let r = subst (λ xs. Runs p h xs mid) is runs in r.2 ∙ r.1.1
