-- What becomes of a message that is wanted.
use Rattle.std.proofs.Common.{◌≡◌, ◌<◌, ◌^◌, ℕ, true, nat_le, if◌then◌else◌, length, refl, sym, ◌∙◌, arith}
use Rattle.std.proofs.lemmas.Bool.{le-leb}
use Rattle.bridge_frames.specs.declared.forward.Forward.{Forward}
use Rattle.bridge_routes.specs.declared.destinations.Route.{Route}
use Rattle.bridge_routes.specs.declared.destinations.Route.TheVariants.{Lane, TooLarge}
use Rattle.bridge_routes.specs.Routes.{frame_length, is_wanted, route_of}

-- at most 65,535 picks
few_picks : (n : ℕ) → n < 2 ^ 16 → nat_le n 65535 ≡ true
few_picks n few = le-leb n 65535 (omega (arith, few))

pub route_wanted : (f : Forward) (r : Route) → is_wanted f ≡ true → length f.picks < 2 ^ 16 → r ≡ (if nat_le (frame_length f) 2097152 then Lane f else TooLarge) → r ≡ route_of f
route_wanted f r wanted few is = is ∙ sym (rw (wanted, few_picks (length f.picks) few) refl)
