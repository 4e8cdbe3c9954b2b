-- What is done for bytes that came on a connection.
use Rattle.std.specs.Prelude.{◌≡◌, ℕ, List, [], ◌∷◌, ◌++◌, Bool, true, false, Option, Some, None, Result, Ok, Err, if◌then◌else◌}
use Rattle.std.specs.FinSet as set
use Rattle.mqtt_packets.specs.Stream.{packet_at}
use Rattle.mqtt_packets.specs.declared.connect.Connect.{Connect}
use Rattle.mqtt_packets.specs.declared.fault.PacketFault.{PacketFault}
use Rattle.mqtt_packets.specs.declared.packet.Packet.{Packet}
use Rattle.mqtt_packets.specs.declared.packet.Packet.TheVariants as packets
use Rattle.mqtt_packets.specs.declared.publish.Publish.{Publish}
use Rattle.mqtt_packets.specs.declared.subscribe.Subscribe.{Subscribe}
use Rattle.door_packets.specs.Packets.{aliases_after, cleaned, connect_code, is_allowed, login_of, publish_step, subscribe_step}
use Rattle.door_packets.specs.Rights.{Rights}
use Rattle.door_packets.specs.declared.access.Login.{Login}
use Rattle.door_packets.specs.declared.client.Client.{Client}
use Rattle.door_packets.specs.declared.client.Stage.{Stage}
use Rattle.door_packets.specs.declared.client.Stage.TheVariants.{Waiting, Open, Over, Leaving}
use Rattle.door_packets.specs.declared.step.Step.{Step}
use Rattle.door_packets.specs.declared.step.Step.TheVariants.{Opens, Rooms, Tells, Asks, Acks, Subacks, Drops, TurnsAway, Ends}
use Rattle.door_packets.specs.declared.walk.Walk.{Walk}

-- ---- a client

-- nothing of it came
abbrev pub fresh : Client
fresh = record { partial = []; stage = Waiting None; login = None; aliases = set.empty }

abbrev pub is_leaving_at : Stage → Bool
is_leaving_at (Waiting room) = false
is_leaving_at Open = false
is_leaving_at Over = false
is_leaving_at Leaving = true

-- its end went out
abbrev pub is_leaving : Client → Bool
is_leaving c = is_leaving_at c.stage

abbrev pub left : Client → Client
left c = record c { stage = Leaving }

-- ---- one packet after another

-- what is known of the client, and what is done so far
pub record Walked : Type 0 where
  pub client : Client
  pub steps : List Step

abbrev pub seen : Walk → Walked
seen w = record { client = w.client; steps = w.steps.items }

abbrev pub started : Client → Walked
started c = record { client = c; steps = [] }

abbrev pub with_step : Walked → Step → Walked
with_step w step = record { client = w.client; steps = w.steps ++ step ∷ [] }

abbrev pub at_stage : Walked → Stage → Walked
at_stage w stage = record { client = record w.client { stage = stage }; steps = w.steps }

-- the handler inside is told that the connection is open, and how much room it has
abbrev pub begun : Walked → Option ℕ → Walked
begun w None = with_step w Opens
begun w (Some n) = with_step (with_step w Opens) (Rooms n)

-- ---- the first packet

-- it is no CONNECT: the handler inside is told of it, and of nothing else
abbrev pub told_first : Walked → Option ℕ → List ℕ → Walked
told_first w room bs = with_step (at_stage (begun w room) Over) (Tells bs)

abbrev pub with_login : Walked → Login → Walked
with_login w l = record { client = record w.client { stage = Open; login = Some l }; steps = w.steps }

-- the client is let in
abbrev pub let_in : Walked → Option ℕ → Login → Step → Walked
let_in w room l step = with_step (with_login (begun w room) l) step

-- with Clean Start, where the session has to end
abbrev pub connect_step : (List ℕ → Bool) → List ℕ → Connect → Step
connect_step marked bs c = if marked c.client then Asks (packets.Connect (cleaned c)) None else Tells bs

abbrev pub entered_with : (List ℕ → Bool) → Walked → Option ℕ → List ℕ → Connect → Option ℕ → Walked
entered_with marked w room bs c (Some code) = with_step (at_stage w Over) (TurnsAway code)
entered_with marked w room bs c None = let_in w room (login_of c) (connect_step marked bs c)

abbrev pub entered_as : Rights → (List ℕ → Bool) → Walked → Option ℕ → List ℕ → Connect → Walked
entered_as r marked w room bs c = entered_with marked w room bs c (connect_code r c)

abbrev pub entered_by : Rights → (List ℕ → Bool) → Walked → Option ℕ → List ℕ → Packet → Walked
entered_by r marked w room bs (packets.Connect c) = entered_as r marked w room bs c
entered_by r marked w room bs p = told_first w room bs

abbrev pub entered : Rights → (List ℕ → Bool) → Walked → Option ℕ → List ℕ → Result (Option (Packet × List ℕ)) PacketFault → Walked
entered r marked w room bs (Ok (Some x)) = entered_by r marked w room bs x.0
entered r marked w room bs _ = told_first w room bs

-- ---- those behind it

-- of a client whose connection ends nothing more is looked at
abbrev pub stage_by : Step → Stage → Stage
stage_by Ends stage = Over
stage_by step stage = stage

abbrev pub publish_noted : Walked → List ℕ → Publish → Bool → Walked
publish_noted w bs p allowed =
    with_step (record {
      client = record w.client { stage = stage_by (publish_step allowed bs p) w.client.stage; aliases = aliases_after allowed p w.client.aliases };
      steps = w.steps;
    }) (publish_step allowed bs p)

abbrev pub published_by : Rights → Walked → List ℕ → Publish → Option Login → Walked
published_by r w bs p None = w
published_by r w bs p (Some l) = publish_noted w bs p (is_allowed r l w.client.aliases p)

abbrev pub published : Rights → Walked → List ℕ → Publish → Walked
published r w bs p = published_by r w bs p w.client.login

abbrev pub subscribed_by : Rights → Walked → List ℕ → Subscribe → Option Login → Walked
subscribed_by r w bs s None = w
subscribed_by r w bs s (Some l) = with_step w (subscribe_step r l bs s)

abbrev pub subscribed : Rights → Walked → List ℕ → Subscribe → Walked
subscribed r w bs s = subscribed_by r w bs s w.client.login

abbrev pub next_by : Rights → Walked → List ℕ → Packet → Walked
next_by r w bs (packets.Publish p) = published r w bs p
next_by r w bs (packets.Subscribe s) = subscribed r w bs s
next_by r w bs p = with_step w (Tells bs)

-- one that can't be read is told as it came
abbrev pub next : Rights → Walked → List ℕ → Result (Option (Packet × List ℕ)) PacketFault → Walked
next r w bs (Ok (Some x)) = next_by r w bs x.0
next r w bs _ = with_step w (Tells bs)

abbrev pub took_at : Rights → (List ℕ → Bool) → Walked → List ℕ → Stage → Walked
took_at r marked w bs (Waiting room) = entered r marked w room bs (packet_at bs)
took_at r marked w bs Open = next r w bs (packet_at bs)
took_at r marked w bs Over = w
took_at r marked w bs Leaving = w

abbrev pub took : Rights → (List ℕ → Bool) → Walked → List ℕ → Walked
took r marked w bs = took_at r marked w bs w.client.stage

abbrev pub walked : Rights → (List ℕ → Bool) → Walked → List (List ℕ) → Walked
walked r marked w [] = w
walked r marked w (p ∷ ps) = walked r marked (took r marked w p) ps
