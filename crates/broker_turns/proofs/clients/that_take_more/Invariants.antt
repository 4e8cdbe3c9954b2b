use Rattle.std.proofs.Common.{◌≡◌, ◌&&◌, ℕ, take}
use Rattle.slab.specs.Slab.{get}
use Rattle.broker_turns.specs.Clients.{takes_more_at}
use Rattle.broker_turns.specs.Numbers.{is_among}
use Rattle.broker_turns.proofs.clients.that_take_more.Given as goal

abbrev pub invariant-loop-key : goal.invariant-loop-key
invariant-loop-key g l =
    (key : ℕ) → is_among l.takers.items key ≡ (is_among (take l.key-index l.keys) key && takes_more_at (get l.slab key))
