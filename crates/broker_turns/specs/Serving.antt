-- Turns one after another, and what comes before the first.
use Rattle.std.specs.Prelude.{◌≡◌, ◌<◌, ◌⊎◌, ℕ, zero, suc}

module _ {C W : Type 0} (tells : C → ℕ → C → Type 0) (turn : ℕ → W → W → Type 0) where
  -- the clock tells a moment, and the turn is made at it
  pub record IsNext (c : C) (w : W) (c' : C) (w' : W) : Type 0 where
    pub at : ℕ
    pub told : tells c at c'
    pub made : turn at w w'

  -- so many turns, one after another
  abbrev pub IsTurns : ℕ → C → W → C → W → Type 0
  IsTurns zero c w c' w' = (c' ≡ c) × (w' ≡ w)
  IsTurns (suc n) c w c' w' = (d : C) × (m : W) × IsTurns n c w d m × IsNext d m c' w'

-- the clock tells a moment, and the fault is of that moment
pub record IsCut {C F : Type 0} (tells : C → ℕ → C → Type 0) (caused : ℕ → F → Type 0) (c c' : C) (fault : F) : Type 0 where
  pub at : ℕ
  pub told : tells c at c'
  pub is : caused at fault

module _ {C W F : Type 0} (tells : C → ℕ → C → Type 0) (turn : ℕ → W → W → Type 0) (broken : ℕ → W → F → Type 0) where
  -- fewer turns were made than were asked for, and the next one stopped so
  pub record IsStopped (turns : ℕ) (c : C) (w : W) (c' : C) (fault : F) : Type 0 where
    pub made : ℕ
    pub fewer : made < turns
    pub before : C
    pub reached : W
    pub whole : IsTurns tells turn made c w before reached
    pub cut : IsCut tells (λ at f. broken at reached f) before c' fault

-- the start is made at a moment that the clock tells, and then so many turns
module _ {C W : Type 0} (tells : C → ℕ → C → Type 0) (start turn : ℕ → W → W → Type 0) where
  abbrev pub IsServed : ℕ → C → W → C → W → Type 0
  IsServed turns c w c' w' = (d : C) × (m : W) × IsNext tells start c w d m × IsTurns tells turn turns d m c' w'

  -- it stopped before the first turn, or in one of them
  abbrev pub IsUnserved : {F : Type 0} → (ℕ → W → F → Type 0) → (ℕ → W → F → Type 0) → ℕ → C → W → C → F → Type 0
  IsUnserved unstarted broken turns c w c' fault =
      IsCut tells (λ at f. unstarted at w f) c c' fault
      ⊎ ((d : C) × (m : W) × IsNext tells start c w d m × IsStopped tells turn broken turns d m c' fault)
