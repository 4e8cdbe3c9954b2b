use Rattle.std.proofs.Common.{ℕ, List, refl, subst}
use Rattle.home_table.specs.Homes.{IsHome}
use Rattle.bridge_routes.proofs.destinations.homed.Goals as goal

pub returns : goal.returns
returns c = (
  rw (c.in_ok-copy.ensures, c.in_ok-shared.ensures) refl,
  subst (λ (x : List ℕ). IsHome c.args.table.now x c.home_of.result) c.as_str.ensures.same c.home_of.ensures.home,
)
