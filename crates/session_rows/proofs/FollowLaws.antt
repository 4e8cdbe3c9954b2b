-- Copies that follow one another.
use Rattle.std.proofs.Common.{◌≡◌, ℕ, ◌⊎◌, false, refl, sym, subst, ◌∙◌, inl, inr, arith}
use Rattle.std.proofs.lemmas.Bool.{cases_Bool, false≢true}
use Rattle.qos_handshakes.specs.Touched.{Watched, TouchesChanged, is_in}
use Rattle.session_rows.specs.Changes.{Follows, Stays, Moves}

pub follows_same : (w : Watched) → Follows w w
follows_same w = record { each = λ p. inl (refl, refl, omega arith) }

pub follows_equal : (o n : Watched) → n ≡ o → Follows o n
follows_equal o n e = subst (λ (w : Watched). Follows o w) (sym e) (follows_same o)

-- what is touched by a call stays or moves
pub follows_touched : (o n : Watched) → TouchesChanged o n → Follows o n
follows_touched o n t = record {
  each = λ p. elim (t.1 p) [
    | inl same ↦ elim (cases_Bool (is_in p n.touched)) [
      | inl here ↦ elim (t.0.only p here) [
        | inl before ↦ inl (here ∙ sym before, same.0, omega (arith, same.1))
        | inr differs ↦ absurd (differs same.0)
      ]
      | inr none ↦ inl (none ∙ sym (untouched p none), same.0, omega (arith, same.1))
    ]
    | inr further ↦ elim (cases_Bool (is_in p n.touched)) [
      | inl here ↦ inr (here, further)
      | inr none ↦ elim (t.0.changed p) [
        | inl same ↦ inl (none ∙ sym (untouched p none), same, omega (arith, further))
        | inr here ↦ absurd (false≢true (sym none ∙ here))
      ]
    ]
  ];
}
  where
    untouched : (p : ℕ) → is_in p n.touched ≡ false → is_in p o.touched ≡ false
    untouched p none = elim (cases_Bool (is_in p o.touched)) [
      | inl here ↦ absurd (false≢true (sym none ∙ t.0.still p here))
      | inr gone ↦ gone
    ]

then_at : (p : ℕ) (a b c : Watched) → Stays p a b ⊎ Moves p a b → Stays p b c ⊎ Moves p b c → Stays p a c ⊎ Moves p a c
then_at p a b c (inl s) (inl t) = inl (t.0 ∙ s.0, s.1 ∙ t.1, omega (arith, s.2, t.2))
then_at p a b c (inl s) (inr m) = inr (m.0, omega (arith, s.2, m.1))
then_at p a b c (inr m) (inl t) = inr (t.0 ∙ m.0, omega (arith, m.1, t.2))
then_at p a b c (inr m) (inr n) = inr (n.0, omega (arith, m.1, n.1))

pub follows_then : (a b c : Watched) → Follows a b → Follows b c → Follows a c
follows_then a b c x y = record { each = λ p. then_at p a b c (x.each p) (y.each p) }

pub follows_touched_then : (a b c : Watched) → TouchesChanged a b → Follows b c → Follows a c
follows_touched_then a b c x y = follows_then a b c (follows_touched a b x) y

pub ruleset follows = (follows_same, follows_equal, follows_touched, follows_touched_then)
