use Rattle.std.proofs.Common.{◌≡◌, drop, ℕ}
use Rattle.door_bounds.specs.Clients.{client_of, noted}
use Rattle.door_bounds.proofs.clients.Clients.note.Given as goal

abbrev pub invariant-loop-output : goal.invariant-loop-output
invariant-loop-output l = (q : ℕ) → noted q (drop l.output-index l.outputs) (client_of l.self q) ≡ noted q l.outputs (client_of l.fn.self q)
