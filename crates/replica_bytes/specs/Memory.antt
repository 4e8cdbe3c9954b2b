-- When the reading of a state wants memory.
use Rattle.std.specs.Prelude.{◌≡◌, ◌<◌, ◌⊎◌, ℕ, List, true, Ok, IsOk}
use Rattle.std.specs.Int.{w32}
use Rattle.mqtt_fields.specs.Field.{Field}
use Rattle.mqtt_fields.specs.Numbers.{number, text}
use Rattle.causal_context.specs.Spelling as contexts
use Rattle.mqtt_message.specs.Spelling.{flag}
use Rattle.replica_bytes.specs.Values.{dot, stamp}
use Rattle.replica_bytes.specs.Stores.{subscriptions}

-- this field has been read, and what follows wants memory
pub record After {A : Type 0} (f : Field A) (Wants : List ℕ → Type 0) (bs : List ℕ) : Type 0 where
  pub value : A
  pub rest : List ℕ
  pub read : f.at bs ≡ Ok (value, rest)
  pub wants : Wants rest

-- of so many values there is a first, and it wants memory
abbrev pub WantsSome : (List ℕ → Type 0) → ℕ → List ℕ → Type 0
WantsSome Wants count bs = (0 < count) × Wants bs

-- the same after the number of values
pub record FirstOf (Wants : List ℕ → Type 0) (bs : List ℕ) : Type 0 where
  pub count : ℕ
  pub rest : List ℕ
  pub read : (number w32).at bs ≡ Ok (count, rest)
  pub wants : WantsSome Wants count rest

-- a string has been read
abbrev pub HasText : List ℕ → Type 0
HasText bs = IsOk (text.at bs)

-- a subscription wants memory once its client has been read
abbrev pub EntryWants : List ℕ → Type 0
EntryWants = After dot HasText

abbrev pub SubscriptionsWant : List ℕ → Type 0
SubscriptionsWant bs = contexts.WantsMemory bs ⊎ After contexts.context (FirstOf EntryWants) bs

-- a flag has been read that says that there is a message, and the message's topic
pub record MessageBegins (bs : List ℕ) : Type 0 where
  pub rest : List ℕ
  pub read : flag.at bs ≡ Ok (true, rest)
  pub topic : HasText rest

-- what is kept of a given topic wants memory once its stamp has been read, and the topic of a message
abbrev pub KeptWants : List ℕ → Type 0
KeptWants = After stamp MessageBegins

-- a topic and what is kept of it want memory once the topic has been read
abbrev pub RetainedWants : List ℕ → Type 0
RetainedWants = FirstOf HasText

-- A range of a set, a client or a topic has been read. The state of no operation wants none.
abbrev pub WantsMemory : List ℕ → Type 0
WantsMemory bs = contexts.WantsMemory bs ⊎ After contexts.context (λ more. SubscriptionsWant more ⊎ After subscriptions RetainedWants more) bs
