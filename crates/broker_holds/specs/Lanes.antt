-- What waits for each other node, and whether that is too much.
use Rattle.std.specs.Prelude.{◌≡◌, ◌+◌, ◌-◌, ◌/◌, ◌≤◌, ◌<◌, ◌&&◌, ◌||◌, ℕ, Bool, true, false, leb, ltb, if◌then◌else◌}
use Rattle.broker_holds.specs.declared.gauge.Lane.{Lane}

-- nothing waits
abbrev pub empty_lane : Lane
empty_lane = record { waiting = 0; moved = 0 }

-- so many messages wait at a moment: it moves where they are 4,096 at most, or fewer than before
abbrev pub lane_after : ℕ → ℕ → Lane → Lane
lane_after waiting at lane = record { waiting = waiting; moved = if leb waiting 4096 || ltb waiting lane.waiting then at else lane.moved }

-- so many may wait: 4,096, and one more for every two milliseconds since it has moved
abbrev pub most_waiting : ℕ → Lane → ℕ
most_waiting at lane = 4096 + (at - lane.moved) / 2

-- the link to its node stands, more messages wait than may, and it has moved less than 60,000 milliseconds ago
abbrev pub is_strained : Bool → ℕ → Lane → Bool
is_strained stands at lane = stands && ltb (most_waiting at lane) lane.waiting && ltb (at - lane.moved) 60000

-- when clients are held back for a lane, of 65,536 messages at most
pub record KeepsRoom : Type 0 where
  -- not for a node without a link
  pub unlinked : (at : ℕ) (lane : Lane) → is_strained false at lane ≡ false
  -- not while no more than 4,096 messages wait
  pub short : (stands : Bool) (at : ℕ) (lane : Lane) → lane.waiting ≤ 4096 → is_strained stands at lane ≡ false
  -- and where they aren't, though the link stands and the lane has moved within a minute, there is room for 31,440 more
  pub room : (at : ℕ) (lane : Lane) → at - lane.moved < 60000 → is_strained true at lane ≡ false → lane.waiting + 31440 ≤ 65536
