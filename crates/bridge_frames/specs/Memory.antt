-- When the reading of a frame wants memory.
use Rattle.std.specs.Prelude.{◌≡◌, ◌≢◌, ◌⊎◌, ℕ, List, Ok}
use Rattle.std.specs.FinSet as set
use Rattle.std.specs.Int.{w16}
use Rattle.mqtt_fields.specs.Field.{Field, after}
use Rattle.mqtt_fields.specs.Numbers.{number, long}
use Rattle.mqtt_message.specs.Spelling.{flag, listed}
use Rattle.causal_context.specs.Spelling as contexts
use Rattle.replica_store.specs.States.{nothing}
use Rattle.replica_bytes.specs.Memory as states
use Rattle.replica_bytes.specs.Memory.{After, HasText, WantsSome}
use Rattle.bridge_frames.specs.declared.body.FrameBody.{FrameBody}
use Rattle.bridge_frames.specs.declared.body.FrameBody.TheVariants as bodies
use Rattle.bridge_frames.specs.declared.kind.Kind.{Kind}
use Rattle.bridge_frames.specs.declared.kind.Kind.TheVariants as kinds
use Rattle.bridge_frames.specs.Kinds.{kind}
use Rattle.bridge_frames.specs.Forwards.{got_number, lane_number, pick}
use Rattle.bridge_frames.specs.Greetings.{format}

-- of so many picks there is a first, and its client has been read
pub record PicksWant (bs : List ℕ) : Type 0 where
  pub count : ℕ
  pub rest : List ℕ
  pub read : (number w16).at bs ≡ Ok (count, rest)
  pub wants : WantsSome HasText count rest

-- after the flag a pick's client has been read, or after all picks the topic
abbrev pub ForwardWants : List ℕ → Type 0
ForwardWants = After flag (λ more. PicksWant more ⊎ After (listed pick) HasText more)

-- after the format and the two numbers, something of the context has been read
abbrev pub GreetingWants : List ℕ → Type 0
GreetingWants = After format (After got_number (After got_number contexts.WantsMemory))

-- Got wants none. A set or a state wants some once something of it has been read, a Hello once something of its context has, and a
-- message once a client of its picks or its topic has.
abbrev pub BodyWants : Kind → List ℕ → Type 0
BodyWants kinds.Hello bs = GreetingWants bs
BodyWants kinds.Delta bs = states.WantsMemory bs
BodyWants kinds.Know bs = contexts.WantsMemory bs
BodyWants kinds.Forward bs = After lane_number ForwardWants bs
BodyWants kinds.Got bs = ⊥

-- the kind, and the two nodes
abbrev pub head : Field (Kind × (ℕ × ℕ))
head = after kind (λ _. after (number w16) (λ _. number w16))

-- these have been read, and the body wants memory
pub record ContentWants (bs : List ℕ) : Type 0 where
  pub front : Kind × (ℕ × ℕ)
  pub rest : List ℕ
  pub read : head.at bs ≡ Ok (front, rest)
  pub wants : BodyWants front.0 rest

-- the length counts what follows it, and that wants memory
pub record WantsMemory (bs : List ℕ) : Type 0 where
  pub run : List ℕ
  pub is : bs ≡ long.bytes run
  pub wants : ContentWants run

-- ---- copies
-- Got has nothing that is copied or shared, nor have a Delta of nothing, and a Hello and a Know of no dots
abbrev pub CopyWants : FrameBody → Type 0
CopyWants (bodies.Hello g) = g.dots ≢ set.empty
CopyWants (bodies.Delta s) = s ≢ nothing
CopyWants (bodies.Know dots) = dots ≢ set.empty
CopyWants (bodies.Forward n f) = Unit {0}
CopyWants (bodies.Got n) = ⊥
