-- What is done for bytes that came on a connection.
use Rattle.std.specs.Prelude.{ℕ, List, [], ◌++◌, Bool, true, false, if◌then◌else◌}
use Rattle.mqtt_bounds.specs.Pieces.{Cut, cut}
use Rattle.mqtt_bounds.specs.declared.cut.End.{End}
use Rattle.mqtt_bounds.specs.declared.cut.End.TheVariants as ends
use Rattle.door_packets.specs.Rights.{Rights}
use Rattle.door_packets.specs.Walk.{Walked, at_stage, started, told_first, walked, with_step}
use Rattle.door_packets.specs.declared.client.Client.{Client}
use Rattle.door_packets.specs.declared.client.Stage.{Stage}
use Rattle.door_packets.specs.declared.client.Stage.TheVariants.{Waiting, Open, Over, Leaving}
use Rattle.door_packets.specs.declared.step.Step.TheVariants.{Tells}

-- the most bytes of a packet
abbrev pub limit : ℕ
limit = 1048576

abbrev pub is_open : End → Bool
is_open ends.Open = true
is_open end = false

-- what isn't whole yet is kept
abbrev pub kept : End → List ℕ → List ℕ
kept end rest = if is_open end then rest else []

abbrev pub unread_at : Walked → List ℕ → Stage → Walked
unread_at w rest (Waiting room) = told_first w room rest
unread_at w rest Open = with_step (at_stage w Over) (Tells rest)
unread_at w rest Over = w
unread_at w rest Leaving = w

-- what can't be a packet is told as it is
abbrev pub unread : Walked → List ℕ → Walked
unread w rest = unread_at w rest w.client.stage

abbrev pub ended : End → List ℕ → Walked → Walked
ended end rest w = if is_open end then w else unread w rest

abbrev pub finished : Rights → (List ℕ → Bool) → Client → Cut → Walked
finished r marked c parts = ended parts.end parts.rest (walked r marked (started (record c { partial = kept parts.end parts.rest })) parts.packets)

abbrev pub come_on : Rights → (List ℕ → Bool) → Client → List ℕ → Walked
come_on r marked c bytes = finished r marked c (cut limit (c.partial ++ bytes))

abbrev pub come_at : Rights → (List ℕ → Bool) → Client → List ℕ → Stage → Walked
come_at r marked c bytes (Waiting room) = come_on r marked c bytes
come_at r marked c bytes Open = come_on r marked c bytes
come_at r marked c bytes Over = started c
come_at r marked c bytes Leaving = started c

-- what comes of bytes
abbrev pub come : Rights → (List ℕ → Bool) → Client → List ℕ → Walked
come r marked c bytes = come_at r marked c bytes c.stage
