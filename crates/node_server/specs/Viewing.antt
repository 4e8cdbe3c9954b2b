-- A handler at which somebody looks.
use Rattle.std.specs.Prelude.{◌↔◌, List}
use Rattle.broker_sockets.specs.declared.bridge.Given.{Given}
use Rattle.broker_sockets.specs.declared.bridge.PeerEvent.{PeerEvent}
use Rattle.broker_sockets.specs.declared.events.Event.{Event}
use Rattle.broker_sockets.specs.declared.events.Output.{Output}
use Rattle.node_server.specs.declared.viewed.Viewed.{Viewed}

-- what is seen of it: the handler inside
abbrev pub inside_of : {H W : Type 0} → Viewed H W → H
inside_of d = d.inside

-- each call of it is just that call of the handler inside
module _ {H W : Type 0} (handles : H → Event → List Output → H → Type 0) (hears : H → PeerEvent → Given → H → Type 0) (settles : H → H → Type 0)
    (viewed_handles : Viewed H W → Event → List Output → Viewed H W → Type 0) (viewed_hears : Viewed H W → PeerEvent → Given → Viewed H W → Type 0)
    (viewed_settles : Viewed H W → Viewed H W → Type 0) where
  pub record ViewingChangesNothing : Type 0 where
    pub handled : (d d' : Viewed H W) (e : Event) (outputs : List Output) → viewed_handles d e outputs d' ↔ handles d.inside e outputs d'.inside
    pub heard : (d d' : Viewed H W) (e : PeerEvent) (given : Given) → viewed_hears d e given d' ↔ hears d.inside e given d'.inside
    pub settled : (d d' : Viewed H W) → viewed_settles d d' ↔ settles d.inside d'.inside
