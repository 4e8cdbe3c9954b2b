-- What the handler inside is told, and what goes out.
use Rattle.std.specs.Prelude.{◌≡◌, ◌==◌, ◌||◌, not, ℕ, List, [], ◌∷◌, ◌++◌, length, Bool, true, false, is_some}
use Rattle.broker_sockets.specs.declared.events.Event.{Event}
use Rattle.broker_sockets.specs.declared.events.EventKind.TheVariants.{Piece}
use Rattle.broker_sockets.specs.declared.events.Output.{Output}
use Rattle.broker_sockets.specs.declared.events.Output.TheVariants.{Send}
use Rattle.mqtt_bounds.specs.declared.verdict.Mend.{Mend}
use Rattle.door_bounds.specs.Clients.{AreNoted, client_of}
use Rattle.door_bounds.specs.Mending.{Buffer, IsMendedTo, IsSpelled}
use Rattle.door_bounds.specs.declared.clients.Clients.{Clients}
use Rattle.door_bounds.specs.declared.step.Step.{Step}
use Rattle.door_bounds.specs.declared.step.Step.TheVariants as steps

-- there are no bytes, or the connection isn't open
abbrev pub is_silent : ℕ → List ℕ → Clients → Bool
is_silent q bs k = (length bs == 0) || not (is_some (client_of k q))

abbrev pub IsOutIf : Bool → ℕ → List ℕ → List Output → List Output → Type 0
IsOutIf true q bs o o' = o' ≡ o
IsOutIf false q bs o o' = (bytes : Buffer) × (bytes.items ≡ bs) × (o' ≡ o ++ Send q bytes ∷ [])

-- these bytes go out on a connection behind what went out before
abbrev pub IsOut : ℕ → List ℕ → Clients → List Output → List Output → Type 0
IsOut q bs k o o' = IsOutIf (is_silent q bs k) q bs o o'

-- an event of which the handler inside was told, and what it gave
abbrev pub Told : Type 0
Told = Event × List Output

module _ {H : Type 0} (handles : H → Event → List Output → H → Type 0) where
  abbrev pub AreTold : List Told → H → H → Type 0
  AreTold [] h h' = h' ≡ h
  AreTold (t ∷ more) h h' = (m : H) × handles h t.0 t.1 m × AreTold more m h'

  -- the handler inside is told, and the connections that it closes are noted
  pub record IsTold (e : Event) (given : List Output) (h h' : H) (k k' : Clients) : Type 0 where
    pub handled : handles h e given h'
    pub clients : AreNoted given k k'

  -- of bytes of a client, and what it gives goes out, mended
  pub record IsSpoken (at q : ℕ) (bs : List ℕ) (mend : Mend) (h h' : H) (k k' : Clients) (o o' : List Output) : Type 0 where
    pub bytes : Buffer
    pub same : bytes.items ≡ bs
    pub given : List Output
    pub told : IsTold (record { at = at; kind = Piece q bytes }) given h h' k k'
    pub sent : IsMendedTo q mend given o o'

  abbrev pub IsTellingIf : Bool → ℕ → ℕ → List ℕ → Mend → H → H → Clients → Clients → List Output → List Output → Type 0
  IsTellingIf true at q bs mend h h' k k' o o' = (h' ≡ h) × (k' ≡ k) × (o' ≡ o)
  IsTellingIf false at q bs mend h h' k k' o o' = IsSpoken at q bs mend h h' k k' o o'

  abbrev pub IsTelling : ℕ → ℕ → List ℕ → Mend → H → H → Clients → Clients → List Output → List Output → Type 0
  IsTelling at q bs mend h h' k k' o o' = IsTellingIf (is_silent q bs k) at q bs mend h h' k k' o o'

  -- one thing is done
  abbrev pub IsStep : ℕ → ℕ → Step → H → H → Clients → Clients → List Output → List Output → Type 0
  IsStep at q (steps.Tells bs mend) h h' k k' o o' = IsTelling at q bs mend h h' k k' o o'
  IsStep at q (steps.Asks p mend) h h' k k' o o' = (bs : List ℕ) × IsSpelled p bs × IsTelling at q bs mend h h' k k' o o'
  IsStep at q (steps.Answers p) h h' k k' o o' = (bs : List ℕ) × IsSpelled p bs × IsOut q bs k o o' × (h' ≡ h) × (k' ≡ k)

  -- one after another
  abbrev pub AreSteps : ℕ → ℕ → List Step → H → H → Clients → Clients → List Output → List Output → Type 0
  AreSteps at q [] h h' k k' o o' = (h' ≡ h) × (k' ≡ k) × (o' ≡ o)
  AreSteps at q (s ∷ ss) h h' k k' o o' = (m : H) × (l : Clients) × (p : List Output) × IsStep at q s h m k l o p × AreSteps at q ss m h' l k' p o'
