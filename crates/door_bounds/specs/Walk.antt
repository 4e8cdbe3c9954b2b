-- What is done for bytes that came on a connection.
use Rattle.std.specs.Prelude.{◌≡◌, ℕ, ◌==◌, ◌||◌, not, List, [], ◌∷◌, ◌++◌, Bool, true, false, Option, Some, None, Result, Ok, Err, if◌then◌else◌}
use Rattle.std.specs.declared.alloc.Global.{Global}
use Rattle.std.specs.Prelude.{Vec}
use Rattle.mqtt_packets.specs.Stream.{packet_at}
use Rattle.mqtt_packets.specs.declared.fault.PacketFault.{PacketFault}
use Rattle.mqtt_packets.specs.declared.packet.Packet.{Packet}
use Rattle.mqtt_bounds.specs.Bounded.{bounded}
use Rattle.mqtt_bounds.specs.declared.bounds.Bounds.{Bounds}
use Rattle.mqtt_bounds.specs.declared.verdict.Mend.{Mend}
use Rattle.mqtt_bounds.specs.declared.verdict.Mend.TheVariants as mends
use Rattle.mqtt_bounds.specs.declared.verdict.Verdict.{Verdict}
use Rattle.mqtt_bounds.specs.declared.verdict.Verdict.TheVariants as verdicts
use Rattle.mqtt_bounds.specs.Pieces.{Cut, cut}
use Rattle.mqtt_bounds.specs.declared.cut.End.{End}
use Rattle.mqtt_bounds.specs.declared.cut.End.TheVariants as ends
use Rattle.door_bounds.specs.Limits.{limit_of}
use Rattle.door_bounds.specs.declared.client.Client.{Client}
use Rattle.door_bounds.specs.declared.step.Step.{Step}
use Rattle.door_bounds.specs.declared.step.Step.TheVariants as steps
use Rattle.door_bounds.specs.declared.walk.Walk.{Walk}

-- ---- a packet

abbrev pub begins_connect : List ℕ → Bool
begins_connect [] = false
begins_connect (b ∷ bs) = b == 16

-- one that can't be read goes on as it came
abbrev pub verdict_at : Bounds → Bool → Result (Option (Packet × List ℕ)) PacketFault → Verdict
verdict_at b full (Ok (Some x)) = bounded b full x.0
verdict_at b full _ = verdicts.Goes mends.Nothing

abbrev pub first_of : List ℕ → List ℕ
first_of [] = []
first_of (b ∷ bs) = b ∷ []

-- the first byte of a packet, and the greatest Remaining Length that there is
abbrev pub too_large : List ℕ → List ℕ
too_large bs = first_of bs ++ 255 ∷ 255 ∷ 255 ∷ 127 ∷ []

-- ---- one after another

-- what is done so far, and what is told next
pub record Walked : Type 0 where
  pub greeted : Bool
  pub steps : List Step
  pub run : List ℕ

abbrev pub seen : Walk → Walked
seen w = record { greeted = w.greeted; steps = w.steps.items; run = w.run.items }

abbrev pub started : Bool → Walked
started greeted = record { greeted = greeted; steps = []; run = [] }

-- what is to be told comes first
abbrev pub with_step : Walked → Step → Walked
with_step w step = record w { steps = (w.steps ++ steps.Tells w.run mends.Nothing ∷ []) ++ step ∷ []; run = [] }

abbrev pub told_with : Walked → List ℕ → Mend → Walked
told_with w bs mends.Nothing = record w { run = w.run ++ bs }
told_with w bs (mends.Connack longest expiry) = with_step w (steps.Tells bs (mends.Connack longest expiry))
told_with w bs (mends.Suback identifier codes) = with_step w (steps.Tells bs (mends.Suback identifier codes))
told_with w bs (mends.Disconnect reason) = with_step w (steps.Tells bs (mends.Disconnect reason))

abbrev pub answered_with : Walked → Option Packet → Walked
answered_with w None = w
answered_with w (Some p) = with_step w (steps.Answers p)

-- what breaks a limit doesn't go on; before a CONNECT came it is told as a packet that is too large, behind one it is answered
abbrev pub refused : Walked → List ℕ → Option Packet → Walked
refused w bs answer = if w.greeted then answered_with w answer else record w { run = w.run ++ too_large bs }

-- where the connection ends it is told as a packet that is too large, and the DISCONNECT that this brings has another reason
abbrev pub put : Walked → List ℕ → Verdict → Walked
put w bs (verdicts.Goes mend) = told_with w bs mend
put w bs (verdicts.Becomes p mend) = with_step w (steps.Asks p mend)
put w bs (verdicts.Refused answer) = refused w bs answer
put w bs (verdicts.Ends reason) = with_step w (steps.Tells (too_large bs) (mends.Disconnect reason))

abbrev pub took : Bounds → Bool → Walked → List ℕ → Walked
took b full w bs = put (record w { greeted = w.greeted || begins_connect bs }) bs (verdict_at b full (packet_at bs))

abbrev pub walked : Bounds → Bool → Walked → List (List ℕ) → Walked
walked b full w [] = w
walked b full w (p ∷ ps) = walked b full (took b full w p) ps

-- ---- bytes

-- Of what isn't whole yet nothing is told. What can't be a packet is told as it is.
abbrev pub ended : End → List ℕ → List ℕ
ended ends.Open rest = []
ended ends.TooLong rest = too_large rest
ended ends.Broken rest = rest

abbrev pub is_open : End → Bool
is_open ends.Open = true
is_open end = false

abbrev pub kept : End → List ℕ → List ℕ
kept end rest = if is_open end then rest else []

-- what is done, and what is known of the client then
pub record Come : Type 0 where
  pub steps : List Step
  pub client : Client

abbrev pub finish_with : Cut → Walked → Come
finish_with c w = record {
  steps = w.steps ++ steps.Tells (w.run ++ ended c.end c.rest) mends.Nothing ∷ [];
  client = record { partial = kept c.end c.rest; greeted = w.greeted; over = not (is_open c.end) };
}

abbrev pub finished : Bounds → Bool → Bool → Cut → Come
finished b full greeted c = finish_with c (walked b full (started greeted) c.packets)

abbrev pub come_on : Bounds → Bool → Client → List ℕ → Come
come_on b full c bytes = finished b full c.greeted (cut (limit_of b.longest_packet) (c.partial ++ bytes))

-- what comes of bytes
abbrev pub come : Bounds → Bool → Client → List ℕ → Come
come b full c bytes = if c.over then record { steps = []; client = c } else come_on b full c bytes

-- a client of which nothing came
abbrev pub fresh : Client
fresh = record { partial = []; greeted = false; over = false }

pub record IsCome (come : Come) (did : Vec Step Global) (c : Client) : Type 0 where
  pub steps : did.items ≡ come.steps
  pub client : c ≡ come.client
