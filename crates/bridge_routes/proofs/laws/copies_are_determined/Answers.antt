use Rattle.std.proofs.Common.{map, sym, ap, ◌∙◌}
use Rattle.bridge_routes.specs.Copies.{Counts, plain_copy, entries_in}
use Rattle.bridge_routes.specs.Gathered.{by_client}
use Rattle.bridge_routes.proofs.Selecting.{selected_once}
use Rattle.bridge_routes.proofs.laws.copies_are_determined.Goals as goal

pub returns : goal.returns
returns c = λ live m out other a b. a.2 ∙ ap (λ es. map (plain_copy m) (by_client es)) (selected_once (Counts m) (entries_in live) a.0 b.0 a.1 b.1) ∙ sym b.2
