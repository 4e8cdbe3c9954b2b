-- What a turn is to the handler: what it is told, and when it settles.
use Rattle.std.specs.Prelude.{◌≡◌, ℕ, List, [], ◌∷◌, Bool, Option}
use Rattle.std.specs.declared.net.socket_addr.SocketAddr.{SocketAddr}
use Rattle.broker_sockets.specs.declared.bridge.Given.{Given}
use Rattle.broker_sockets.specs.declared.bridge.PeerEvent.{PeerEvent}
use Rattle.broker_sockets.specs.declared.events.Event.{Event}
use Rattle.broker_sockets.specs.declared.events.Output.{Output}
use Rattle.broker_sockets.specs.declared.network.Answer.{Answer}
use Rattle.broker_sockets.specs.declared.ready.Ready.{Ready}
use Rattle.broker_sockets.specs.declared.ready.Watched.{Watched}
use Rattle.broker_turns.specs.declared.setting.Setting.{Setting}
use Rattle.broker_turns.specs.Turns.{IsTurn, Site}

-- an event of clients and what the handler gave out at it, or one of other nodes
pub data Told : Type 0 where
  Of_client : (e : Event) (outputs : List Output) → Told
  Of_peer : (e : PeerEvent) (given : Given) → Told

module _ {H : Type 0} (handles : H → Event → List Output → H → Type 0) (hears : H → PeerEvent → Given → H → Type 0) where
  abbrev pub IsTakenBy : Told → H → H → Type 0
  IsTakenBy (Of_client e outputs) h h' = handles h e outputs h'
  IsTakenBy (Of_peer e given) h h' = hears h e given h'

  -- the handler is told these, one after another
  abbrev pub AreTold : List Told → H → H → Type 0
  AreTold [] h h' = h' ≡ h
  AreTold (t ∷ more) h h' = (m : H) × IsTakenBy t h m × AreTold more m h'

-- each time it is told an event of a client, and settles
abbrev pub AreSettled : {H : Type 0} → (H → Event → List Output → H → Type 0) → (H → H → Type 0) → List (Event × List Output) → H → H → Type 0
AreSettled handles settles [] h h' = h' ≡ h
AreSettled {H = H} handles settles (t ∷ more) h h' = (m : H) × (n : H) × handles h t.0 t.1 m × settles m n × AreSettled handles settles more n h'

-- it is told all that came and was due, and settles; then, of one client after another that is lost while it is written to, it is told, and
-- settles
pub record Settles {H : Type 0} (handles : H → Event → List Output → H → Type 0) (hears : H → PeerEvent → Given → H → Type 0) (settles : H → H → Type 0) (h h' : H) : Type 0 where
  pub told : List Told
  pub last : H
  pub all : AreTold handles hears told h last
  pub settled : H
  pub first : settles last settled
  pub lost : List (Event × List Output)
  pub then : AreSettled handles settles lost settled h'

module _
    {S H L T : Type 0} (accepts : S → L → Option T → S → Type 0) (watches : S → T → Watched → Bool → S → Type 0) (connects : S → SocketAddr → Option T → S → Type 0)
    (reads : S → T → Answer → List ℕ → S → T → Type 0) (writes : S → T → List ℕ → Answer → S → T → Type 0) (finds : S → Ready → S → Type 0)
    (handles : H → Event → List Output → H → Type 0) (hears : H → PeerEvent → Given → H → Type 0) (settles : H → H → Type 0) where
  -- a turn is that to the handler, and nothing else
  abbrev pub TurnSettles : Type 0
  TurnSettles =
      (setting : Setting L) (at : ℕ) (old new : Site S H T) → IsTurn accepts watches connects reads writes finds handles hears settles setting at old new
      → Settles handles hears settles old.place.reach.near.handler new.place.reach.near.handler
