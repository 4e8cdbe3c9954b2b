-- Steps one after another.
use Rattle.std.specs.Prelude.{◌≡◌, ◌<◌, ℕ, zero, suc, List, [], ◌∷◌, Bool, true, false}

abbrev pub with_if : Bool → ℕ → List ℕ → List ℕ
with_if true number numbers = number ∷ numbers
with_if false number numbers = numbers

module _ {W : Type 0} where
  -- one step for each number of a list, in order
  abbrev pub Each : (ℕ → W → W → Type 0) → List ℕ → W → W → Type 0
  Each step [] w w' = w' ≡ w
  Each step (key ∷ keys) w w' = (m : W) × step key w m × Each step keys m w'

  -- one step for each number below a bound, rising
  abbrev pub EachBelow : (ℕ → W → W → Type 0) → ℕ → W → W → Type 0
  EachBelow step zero w w' = w' ≡ w
  EachBelow step (suc n) w w' = (m : W) × EachBelow step n w m × step n m w'

  -- one step for each number of a list, in order, and the numbers whose step told that there may be more
  abbrev pub EachTells : (ℕ → W → Bool → W → Type 0) → List ℕ → W → List ℕ → W → Type 0
  EachTells step [] w found w' = (w' ≡ w) × (found ≡ [])
  EachTells step (key ∷ keys) w found w' =
      (m : W) × (more : Bool) × (others : List ℕ) × step key w more m × EachTells step keys m others w' × (found ≡ with_if more key others)

  module _ (comes nobody : W → W → Type 0) (most : ℕ) where
    -- so many have come that no more are let in now, or nobody came then
    abbrev pub IsEnough : Bool → ℕ → W → W → Type 0
    IsEnough true count w w' = (count ≡ most) × (w' ≡ w)
    IsEnough false count w w' = (count < most) × nobody w w'

    -- one after another comes, until nobody does or the most have come, where there may be more
    pub record AreLetIn (w : W) (more : Bool) (w' : W) : Type 0 where
      pub count : ℕ
      pub between : W
      pub each : EachBelow (λ _. comes) count w between
      pub enough : IsEnough more count between w'

    -- nobody is asked for where nobody can have come
    abbrev pub AreLetInIf : Bool → W → Bool → W → Type 0
    AreLetInIf true w more w' = AreLetIn w more w'
    AreLetInIf false w more w' = (more ≡ false) × (w' ≡ w)
