-- What the door makes of an event: just what the handler inside makes of it, and a count.
use Rattle.std.specs.Prelude.{◌≡◌, List, option_map}
use Rattle.broker_sockets.specs.declared.bridge.Given.{Given}
use Rattle.broker_sockets.specs.declared.bridge.PeerEvent.{PeerEvent}
use Rattle.broker_sockets.specs.declared.events.Event.{Event}
use Rattle.broker_sockets.specs.declared.events.Output.{Output}
use Rattle.status_tally.specs.Tallying.{gave, gave_frames, heard as heard_of, met}
use Rattle.status_tally.specs.declared.tallied.Tallied.{Tallied}

pub record IsAnswered {H : Type 0} (handles : H → Event → List Output → H → Type 0) (d : Tallied H) (e : Event) (outputs : List Output) (d' : Tallied H) : Type 0 where
  pub answered : handles d.inside e outputs d'.inside
  pub tally : d'.tally ≡ option_map (λ t. gave outputs (met e.at e.kind t)) d.tally

pub record IsRefused {H F : Type 0} (refuses : H → Event → F → H → Type 0) (d : Tallied H) (e : Event) (fault : F) (d' : Tallied H) : Type 0 where
  pub refused : refuses d.inside e fault d'.inside
  pub tally : d'.tally ≡ option_map (met e.at e.kind) d.tally

pub record IsSettled {H : Type 0} (settles : H → H → Type 0) (d d' : Tallied H) : Type 0 where
  pub settled : settles d.inside d'.inside
  pub tally : d'.tally ≡ d.tally

pub record IsStopped {H F : Type 0} (stops : H → F → H → Type 0) (d : Tallied H) (fault : F) (d' : Tallied H) : Type 0 where
  pub stopped : stops d.inside fault d'.inside
  pub tally : d'.tally ≡ d.tally

pub record IsHeard {H : Type 0} (hears : H → PeerEvent → Given → H → Type 0) (d : Tallied H) (e : PeerEvent) (given : Given) (d' : Tallied H) : Type 0 where
  pub heard : hears d.inside e given d'.inside
  pub tally : d'.tally ≡ option_map (λ t. gave_frames given.frames.items (gave given.outputs.items (heard_of e.at e.kind t))) d.tally

pub record IsDeclined {H F : Type 0} (declines : H → PeerEvent → F → H → Type 0) (d : Tallied H) (e : PeerEvent) (fault : F) (d' : Tallied H) : Type 0 where
  pub declined : declines d.inside e fault d'.inside
  pub tally : d'.tally ≡ option_map (heard_of e.at e.kind) d.tally
