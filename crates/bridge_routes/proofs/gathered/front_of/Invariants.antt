use Rattle.std.proofs.Common.{◌≡◌, ◌+◌, drop}
use Rattle.subscription_set.specs.Filing.{text_cmp}
use Rattle.bridge_routes.specs.Gathered.{client_of}
use Rattle.bridge_routes.specs.Tables.{front, referents}
use Rattle.bridge_routes.proofs.gathered.front_of.Given as goal

abbrev pub invariant-loop-i : goal.invariant-loop-i
invariant-loop-i l = l.i + front text_cmp client_of l.client (referents (drop l.i l.entries)) ≡ front text_cmp client_of l.client (referents l.entries)
