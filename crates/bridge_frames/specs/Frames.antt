-- The bytes of frames. Numbers have their highest byte first.
use Rattle.std.specs.Prelude.{◌≡◌, ◌+◌, ◌<◌, ◌≤◌, ◌^◌, ℕ, nat_lt, List, [], ◌∷◌, length, Option, Some, None, Result, Ok, Err, if◌then◌else◌}
use Rattle.std.specs.Int.{w16, w32}
use Rattle.mqtt_fields.specs.declared.fault.FieldFault.{FieldFault}
use Rattle.mqtt_fields.specs.Field.{Field, after, seen, variant}
use Rattle.mqtt_fields.specs.Numbers.{number, long}
use Rattle.causal_context.specs.Dots.{Dots}
use Rattle.causal_context.specs.Spelling.{context}
use Rattle.replica_store.specs.States.{State}
use Rattle.replica_bytes.specs.Stores.{state}
use Rattle.bridge_frames.specs.declared.body.FrameBody.{FrameBody}
use Rattle.bridge_frames.specs.declared.body.FrameBody.TheVariants.{Hello, Delta, Know, Forward, Got}
use Rattle.bridge_frames.specs.declared.fault.LinkFault.{LinkFault}
use Rattle.bridge_frames.specs.declared.fault.LinkFault.TheVariants.{TooLarge}
use Rattle.bridge_frames.specs.declared.frame.BridgeFrame.{BridgeFrame}
use Rattle.bridge_frames.specs.declared.kind.Kind.{Kind}
use Rattle.bridge_frames.specs.declared.kind.Kind.TheVariants as kinds
use Rattle.bridge_frames.specs.Kinds.{kind}
use Rattle.bridge_frames.specs.declared.greeting.Greeting.{Greeting}
use Rattle.bridge_frames.specs.Forwards.{Numbered, got_number, numbered}
use Rattle.bridge_frames.specs.Greetings.{greeting}

abbrev pub Frame : Type 0
Frame = BridgeFrame

-- the most bytes that follow a frame's length
abbrev pub limit : ℕ
limit = 268435456

-- ---- how long a frame is
abbrev pub length_by : Result (ℕ × List ℕ) FieldFault → Result (Option ℕ) LinkFault
length_by (Ok x) = if nat_lt limit x.0 then Err TooLarge else Ok (Some (4 + x.0))
length_by (Err _) = Ok None

-- a length in four bytes, and what it counts
abbrev pub length_in : List ℕ → Result (Option ℕ) LinkFault
length_in bs = length_by ((number w32).at bs)

-- ---- bodies
abbrev pub as_hello : FrameBody → Option Greeting
as_hello (Hello g) = Some g
as_hello _ = None

abbrev pub as_delta : FrameBody → Option State
as_delta (Delta s) = Some s
as_delta _ = None

abbrev pub as_know : FrameBody → Option Dots
as_know (Know c) = Some c
as_know _ = None

abbrev pub as_forward : FrameBody → Option Numbered
as_forward (Forward n f) = Some (n, f)
as_forward _ = None

abbrev pub as_got : FrameBody → Option ℕ
as_got (Got n) = Some n
as_got _ = None

abbrev pub kind_of : FrameBody → Kind
kind_of (Hello _) = kinds.Hello
kind_of (Delta _) = kinds.Delta
kind_of (Know _) = kinds.Know
kind_of (Forward _ _) = kinds.Forward
kind_of (Got _) = kinds.Got

-- what a node says of itself
abbrev pub hello : Field FrameBody
hello = variant Hello as_hello greeting

-- a state
abbrev pub delta : Field FrameBody
delta = variant Delta as_delta state

-- a context
abbrev pub know : Field FrameBody
know = variant Know as_know context

-- a message under its number
abbrev pub forward : Field FrameBody
forward = variant (λ x. Forward x.0 x.1) as_forward numbered

-- a number below 2^62, in eight bytes; 0 stands for none
abbrev pub got : Field FrameBody
got = variant Got as_got got_number

-- the body of a frame of this kind
abbrev pub body : Kind → Field FrameBody
body kinds.Hello = hello
body kinds.Delta = delta
body kinds.Know = know
body kinds.Forward = forward
body kinds.Got = got

-- a message has a number that lanes give
abbrev pub IsPlain : FrameBody → Type 0
IsPlain (Forward n f) = (1 ≤ n) × (n < 2 ^ 62)
IsPlain _ = Unit {0}

-- ---- frames
abbrev pub Parts : Type 0
Parts = Kind × (ℕ × (ℕ × FrameBody))

abbrev pub frame_of : Parts → Frame
frame_of x = record { from = x.1.0; to = x.1.1.0; body = x.1.1.1 }

abbrev pub frame_parts : Frame → Parts
frame_parts f = (kind_of f.body, (f.from, (f.to, f.body)))

-- what follows the length: the kind in a byte, the two nodes in two bytes each, and the body
unfoldable pub content : Field Frame
content = seen frame_of frame_parts (after kind (λ k. after (number w16) (λ _. after (number w16) (λ _. body k))))

-- a frame: the length of what follows in four bytes, and what follows
abbrev pub spelling : Frame → List ℕ
spelling f = long.bytes (content.bytes f)

pub record HasSpelling (f : Frame) : Type 0 where
  pub fits : content.Fits f
  pub small : length (content.bytes f) ≤ limit

-- the bytes are the frame's spelling
pub record Spells (bs : List ℕ) (f : Frame) : Type 0 where
  pub is : bs ≡ spelling f
  pub has : HasSpelling f

-- ---- reading
-- a field that takes all of some bytes
abbrev pub whole_of : {A : Type 0} → Result (A × List ℕ) FieldFault → Option A
whole_of (Ok (a, [])) = Some a
whole_of (Ok (a, b ∷ bs)) = None
whole_of (Err e) = None

abbrev pub whole : {A : Type 0} → Field A → List ℕ → Option A
whole f bs = whole_of (f.at bs)

-- what follows the length, where a frame may have so much
abbrev pub frame_of_run : Option (List ℕ) → Option Frame
frame_of_run None = None
frame_of_run (Some run) = if nat_lt limit (length run) then None else whole content run

-- the frame whose spelling the bytes are, if they are one's
unfoldable pub frame_in : List ℕ → Option Frame
frame_in bs = frame_of_run (whole long bs)
