-- How many were refused.
use Rattle.std.specs.Prelude.{◌==◌, ℕ, ◌+◌, ◌-◌, ◌^◌, List, [], ◌∷◌, min, Some, None, flat_map, if◌then◌else◌}
use Rattle.door_packets.specs.Codes.{refused_in}
use Rattle.door_guard.specs.declared.counts.Refusals.{Refusals}
use Rattle.door_packets.specs.declared.step.Step.{Step}
use Rattle.door_packets.specs.declared.step.Step.TheVariants.{Opens, Rooms, Tells, Asks, Acks, Subacks, Drops, TurnsAway, Ends}

pub data Refusal : Type 0 where
  -- a client isn't let in
  Connect : Refusal
  -- the handler inside isn't told of a PUBLISH
  Publish : Refusal
  -- it isn't asked for so many filters of a SUBSCRIBE
  Filters : (filters : ℕ) → Refusal
  -- a message that it gives isn't sent, since its receiver may not read it
  Message : Refusal

-- so many more, up to the greatest number that there is
abbrev pub more : ℕ → ℕ → ℕ
more by count = min (count + by) (2 ^ 64 - 1)

abbrev pub none_refused : Refusals
none_refused = record { connects = 0; publishes = 0; filters = 0; messages = 0 }

abbrev pub with_one : Refusal → Refusals → Refusals
with_one Connect n = record n { connects = more 1 n.connects }
with_one Publish n = record n { publishes = more 1 n.publishes }
with_one (Filters filters) n = record n { filters = more filters n.filters }
with_one Message n = record n { messages = more 1 n.messages }

-- one after another
abbrev pub counted : List Refusal → Refusals → Refusals
counted [] n = n
counted (x ∷ xs) n = counted xs (with_one x n)

-- what is refused where this is done
abbrev pub refused_by : Step → List Refusal
refused_by Opens = []
refused_by (Rooms n) = []
refused_by (Tells bytes) = []
refused_by (Asks p None) = []
refused_by (Asks p (Some a)) = Filters (refused_in a.codes) ∷ []
refused_by (Acks bytes) = Publish ∷ []
refused_by (Subacks bytes n) = Filters n ∷ []
refused_by Drops = Publish ∷ []
refused_by (TurnsAway code) = Connect ∷ []
refused_by Ends = Publish ∷ []

-- ---- of all connections

-- what is refused, behind the connection that it is on
abbrev pub Refused : Type 0
Refused = ℕ × Refusal

abbrev pub refused_one : ℕ → Refused → List Refusal
refused_one q x = if x.0 == q then x.1 ∷ [] else []

abbrev pub refused_on : ℕ → List Refused → List Refusal
refused_on q refused = flat_map (refused_one q) refused

abbrev pub all_counted : List Refused → Refusals → Refusals
all_counted [] n = n
all_counted (x ∷ xs) n = all_counted xs (with_one x.1 n)
