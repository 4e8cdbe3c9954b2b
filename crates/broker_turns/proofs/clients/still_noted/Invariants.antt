use Rattle.std.proofs.Common.{◌≡◌, ◌&&◌, ℕ, take}
use Rattle.slab.specs.Slab.{get}
use Rattle.broker_turns.specs.Clients.{is_noted_at}
use Rattle.broker_turns.specs.Numbers.{is_among}
use Rattle.broker_turns.proofs.clients.still_noted.Given as goal

abbrev pub invariant-loop-key : goal.invariant-loop-key
invariant-loop-key g l =
    (key : ℕ) → is_among l.noted.items key ≡ (is_among (take l.key-index l.keys) key && is_noted_at (get l.slab key))
