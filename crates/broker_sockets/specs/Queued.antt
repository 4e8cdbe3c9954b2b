-- What a queue of buffers holds.
use Rattle.std.specs.Prelude.{◌≡◌, ℕ, List, ◌++◌, ◌≤◌, length, drop}
use Rattle.std.specs.List.{All}
use Rattle.broker_sockets.specs.declared.queue.Queue.TheInside.{Inside}
use Rattle.broker_sockets.specs.Buffers.{behind, HasBytes}

-- the bytes that wait, in order
abbrev pub waiting : Inside → List ℕ
waiting u = drop u.start u.first.items ++ behind u.rest.items u.last

-- the count is right, and the first buffer has bytes to be written unless nothing waits
pub record IsSound (u : Inside) : Type 0 where
  pub started : u.start ≤ length u.first.items
  pub counted : u.len ≡ length (waiting u)
  pub first : length u.first.items ≤ u.start → u.len ≡ 0
  pub full : All HasBytes u.rest.items
