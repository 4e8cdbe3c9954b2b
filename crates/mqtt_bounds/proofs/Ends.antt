-- How what is left begins.
use Rattle.std.proofs.Common.{◌≡◌, ◌<◌, ℕ, zero, suc, List, length, drop, refl, arith}
use Rattle.std.proofs.lemmas.List.{length-drop}
use Rattle.mqtt_bounds.specs.PieceLaws.{Ends}
use Rattle.mqtt_bounds.specs.Pieces.{Cut, cut, cut_by, cut_within, front_at}
use Rattle.mqtt_bounds.specs.declared.front.Front.{Front}
use Rattle.mqtt_bounds.specs.declared.front.Front.TheVariants as fronts
use Rattle.mqtt_bounds.proofs.Growing.{front_whole}

ends_case : (limit : ℕ) (bs : List ℕ) (f : Front) (next : List ℕ → Cut) → front_at limit bs ≡ f → ((used : ℕ) → f ≡ fronts.Whole used → Ends limit (next (drop used bs)).rest (next (drop used bs)).end)
    → Ends limit (cut_by bs next f).rest (cut_by bs next f).end
ends_case limit bs fronts.Waits next e rest = e
ends_case limit bs fronts.TooLong next e rest = e
ends_case limit bs fronts.Broken next e rest = e
ends_case limit bs (fronts.Whole used) next e rest = rest used refl

ends_within : (n limit : ℕ) (bs : List ℕ) → length bs < n → Ends limit (cut_within limit n bs).rest (cut_within limit n bs).end
unfolding cut_within
ends_within zero limit bs lt = absurd (omega arith)
ends_within (suc n) limit bs lt = ends_case limit bs (front_at limit bs) (λ rest. cut_within limit n rest) refl
    (λ used e. let w = front_whole limit bs used e in ends_within n limit (drop used bs) (omega (arith, w.0, w.2, length-drop used bs)))

pub cut_ends : (limit : ℕ) (bs : List ℕ) → Ends limit (cut limit bs).rest (cut limit bs).end
cut_ends limit bs = ends_within (suc (length bs)) limit bs (omega arith)
