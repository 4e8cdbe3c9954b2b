-- What a client's calls do: bytes that are put behind others.
use Rattle.std.specs.Prelude.{◌≡◌, ◌≤◌, ℕ, List, ◌++◌, length, drop, take, Option, Some, None, Ok}
use Rattle.mqtt_packets.specs.declared.packet.Packet.{Packet}
use Rattle.mqtt3_packets.specs.Stream.{packet_at}
use Rattle.door_mqtt3.specs.Client.{AreSpelled, Notice, Outcome, Walk, done_with, limit, walk_at}
use Rattle.door_mqtt3.specs.declared.client.Client.{Client}
use Rattle.door_mqtt3.specs.declared.client.Order.{Order}
use Rattle.door_mqtt3.specs.declared.taken.Taken.{Taken}

-- these notices are put behind
abbrev pub Appends : List Notice → List ℕ → List ℕ → Type 0
Appends notices old new = (more : List ℕ) × (new ≡ old ++ more) × AreSpelled notices more

pub record IsOutcome (o : Outcome) (c : Client) (old new : Taken) : Type 0 where
  pub client : c ≡ o.client
  pub told : Appends o.told old.told.items new.told.items
  pub first : new.first.items ≡ old.first.items ++ o.first

pub record IsWalk (w : Walk) (left : List ℕ) (c : Client) (old new : Taken) : Type 0 where
  pub client : c ≡ w.client
  pub rest : left ≡ w.rest
  pub told : Appends w.told old.told.items new.told.items
  pub first : new.first.items ≡ old.first.items ++ w.first

-- nothing is done
pub record IsUntouched (c d : Client) (old new : Taken) : Type 0 where
  pub client : d ≡ c
  pub taken : new ≡ old

-- the packet in front of some bytes takes so many of them, and this comes of it
pub record IsDone (order : Order) (bs : List ℕ) (used : ℕ) (c d : Client) (old new : Taken) : Type 0 where
  pub packet : Packet
  pub fits : used ≤ length bs
  pub found : packet_at c.level limit bs ≡ Ok (Some (packet, drop used bs))
  pub outcome : IsOutcome (done_with order c packet (take used bs)) d old new

-- no whole packet stands in front, or a fault, with which the walk ends
abbrev pub IsUndone : Order → List ℕ → Client → Client → Taken → Taken → Type 0
IsUndone order bs c d old new = (next : Client → List ℕ → Walk) → IsWalk (walk_at order c bs next (packet_at c.level limit bs)) bs d old new

-- so many bytes are used of what stands in front, or the walk ends
abbrev pub IsPassing : Order → List ℕ → Client → Client → Taken → Taken → Option ℕ → Type 0
IsPassing order bs c d old new None = IsUndone order bs c d old new
IsPassing order bs c d old new (Some used) = IsDone order bs used c d old new

pub record IsTaken (o : Outcome) (c : Client) (taken : Taken) : Type 0 where
  pub client : c ≡ o.client
  pub told : AreSpelled o.told taken.told.items
  pub first : taken.first.items ≡ o.first

-- what is sent first isn't, where nothing came
pub record IsToldBy (o : Outcome) (c : Client) (bytes : List ℕ) : Type 0 where
  pub client : c ≡ o.client
  pub told : AreSpelled o.told bytes
