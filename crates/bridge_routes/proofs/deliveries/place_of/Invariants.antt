use Rattle.std.proofs.Common.{◌≡◌, ◌++◌, take, drop}
use Rattle.bridge_routes.specs.Ascending.{put_number}
use Rattle.bridge_routes.proofs.deliveries.place_of.Given as goal

abbrev pub invariant-loop-i : goal.invariant-loop-i
invariant-loop-i l = take l.i l.numbers ++ put_number l.n (drop l.i l.numbers) ≡ put_number l.n l.numbers
