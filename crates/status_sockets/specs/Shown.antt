-- What is shown of figures that are told.
use Rattle.std.specs.Prelude.{◌≡◌}
use Rattle.status_figures.specs.declared.figures.Figures.{Figures}

-- some are told, and these are they, but for what the program takes of its machine
pub record IsShown (tells : Figures → Type 0) (shown : Figures) : Type 0 where
  pub told : Figures
  pub is_told : tells told
  pub is : shown ≡ record told { usage = shown.usage }
