use Rattle.std.proofs.Common.{flat_map, sym, ap, ◌∙◌}
use Rattle.bridge_routes.specs.Copies.{entries_in}
use Rattle.bridge_routes.specs.Picks.{IsSharedFor, pick_of, picked}
use Rattle.bridge_routes.specs.Gathered.{by_group}
use Rattle.bridge_routes.proofs.Selecting.{selected_once}
use Rattle.bridge_routes.proofs.laws.picks_are_determined.Goals as goal

pub returns : goal.returns
returns c = λ turn live m out other a b. a.2 ∙ ap (λ es. flat_map (λ g. pick_of m (picked turn g.1)) (by_group es)) (selected_once (IsSharedFor m) (entries_in live) a.0 b.0 a.1 b.1) ∙ sym b.2
