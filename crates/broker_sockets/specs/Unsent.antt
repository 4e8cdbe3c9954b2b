-- What waits to be written to one peer.
use Rattle.std.specs.Prelude.{◌≡◌, ◌<◌, ℕ, List, length, vec_capacity}
use Rattle.broker_sockets.specs.declared.unsent.Waiting.{Waiting}
use Rattle.broker_sockets.specs.declared.unsent.Waiting.TheVariants.{Few, Many}

-- the bytes that wait, in order
abbrev pub bytes_in : Waiting → List ℕ
bytes_in (Few buffer) = buffer.items
bytes_in (Many queue) = queue.value

-- where nothing waits no memory is kept for it
abbrev pub IsLean : Waiting → Type 0
IsLean (Few buffer) = length buffer.items ≡ 0 → vec_capacity buffer ≡ 0
IsLean (Many queue) = 0 < length queue.value
