-- Lists that rise, seen from their front.
use Rattle.std.proofs.Common.{◌≡◌, ℕ, suc, zero, ◌+◌, ◌-◌, ◌<◌, ◌≤◌, Bool, true, false, ◌&&◌, List, [], ◌∷◌, ◌++◌, length, get_or, take, T, sym, ap, subst, ◌∙◌, ◌⊎◌, inl, inr, arith}
use Rattle.std.proofs.lemmas.Bool.{cases_order}
use Rattle.std.proofs.lemmas.List.{get_or_default, take_more, get_or-take, length-take-le}
use Rattle.std.specs.Ordering.{is_lt}
use Rattle.std.specs.declared.cmp.Ordering.{Ordering}
use Rattle.std.specs.declared.cmp.Ordering.TheVariants.{Less}
use Rattle.std.specs.Cmp.{IsTotalOrder}
use Rattle.std.specs.FinMap.Entries.{below_all}
use Rattle.subscription_set.specs.Sorted.{Rises}
use Rattle.subscription_set.proofs.Places.{rises, lessly, first_part, second_part}

both_parts : (a b : Bool) → T a → T b → T (a && b)
both_parts true b p q = q
both_parts false b p q = absurd p

lt_of : {r : Ordering} → r ≡ Less → T (is_lt r)
lt_of e = subst (λ r. T (is_lt r)) (sym e) tt

module _ {K X : Type 0} {R : K → K → Ordering} (o : IsTotalOrder R) where
  below_push : (k : K) (es : List (K × X)) (x : K × X) → T (below_all R k es) → R k x.0 ≡ Less → T (below_all R k (es ++ x ∷ []))
  below_push k [] x h lt = both_parts _ _ (lt_of lt) tt
  below_push k (e ∷ es) x h lt = both_parts _ _ (first_part _ _ h) (below_push k es x (second_part _ _ h) lt)

  rises_push : (es : List (K × X)) (x : K × X) → Rises R es → ((j : ℕ) (d : K × X) → j < length es → R (get_or es j d).0 x.0 ≡ Less) → Rises R (es ++ x ∷ [])
  rises_push [] x h p = tt
  rises_push (e ∷ es) x h p = both_parts _ _ (below_push e.0 es x (first_part _ _ h) (p zero e (omega arith))) (rises_push es x (second_part _ _ h) (λ j d lt. p (suc j) d (omega (arith, lt))))

  pub rises_one : (es : List (K × X)) → Rises R (take 1 es)
  rises_one [] = tt
  rises_one (e ∷ es) = tt

  -- one more pair, whose key is above the one before
  pub rises_more : (es : List (K × X)) (i : ℕ) (a b : K × X) → 1 ≤ i → i < length es → a ≡ get_or es (i - 1) a → b ≡ get_or es i b → is_lt (R a.0 b.0) ≡ true → Rises R (take i es) → Rises R (take (i + 1) es)
  rises_more es i a b from lt a_is b_is less h =
      (let len : length (take i es) ≡ i = length-take-le i es (omega (arith, lt)) in
      subst (Rises R) (sym (take_more es i b lt ∙ ap (λ y. take i es ++ y ∷ []) (sym b_is))) (rises_push (take i es) b h (λ j d l. before len j d (cases_order j (i - 1)) l)))
    where
      before : length (take i es) ≡ i → (j : ℕ) (d : K × X) → (j ≡ i - 1) ⊎ ((j < i - 1) ⊎ (i - 1 < j)) → j < length (take i es) → R (get_or (take i es) j d).0 b.0 ≡ Less
      before len j d (inl e) l = ap (λ (y : K × X). R y.0 b.0) (get_or-take i es j d (omega (arith, e, from)) ∙ ap (λ n. get_or es n d) e ∙ get_or_default es (i - 1) d a (omega (arith, from, lt)) ∙ sym a_is) ∙ lessly _ less
      before len j d (inr (inl l)) m = o.trans (get_or (take i es) j d).0 a.0 b.0
          (sym (ap (λ (y : K × X). R (get_or (take i es) j d).0 y.0) (get_or-take i es (i - 1) d (omega (arith, from)) ∙ get_or_default es (i - 1) d a (omega (arith, from, lt)) ∙ sym a_is)) ∙ rises o (take i es) j (i - 1) d h l (omega (arith, len, from)))
          (lessly _ less)
      before len j d (inr (inr g)) m = absurd (omega (arith, len, g, m, from))

  -- two neighbours out of order
  pub not_rising : (es : List (K × X)) (i : ℕ) (a b : K × X) → 1 ≤ i → i < length es → a ≡ get_or es (i - 1) a → b ≡ get_or es i b → is_lt (R a.0 b.0) ≡ false → Rises R es → ⊥
  not_rising es i a b from lt a_is b_is less h =
      (let e = sym (λ j. is_lt (R (a_at j).0 (b_at j).0)) ∙ ap is_lt (rises o es (i - 1) i a h (omega (arith, from)) lt) in cc)
    where
      a_at : get_or es (i - 1) a ≡ a
      a_at = sym a_is

      b_at : get_or es i a ≡ b
      b_at = get_or_default es i a b lt ∙ sym b_is
