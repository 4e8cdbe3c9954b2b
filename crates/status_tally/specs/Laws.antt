-- Any calls of a handler, one after another.
use Rattle.std.specs.Prelude.{◌≡◌, ◌↔◌, ◌⊎◌, ℕ, true, option_map, List, [], ◌∷◌, Some, None}
use Rattle.broker_sockets.specs.declared.bridge.Given.{Given}
use Rattle.broker_sockets.specs.declared.bridge.PeerEvent.{PeerEvent}
use Rattle.broker_sockets.specs.declared.bridge.PeerEventKind.{PeerEventKind}
use Rattle.broker_sockets.specs.declared.bridge.PeerEventKind.TheVariants.{Linked, Frame, More, Ship}
use Rattle.broker_sockets.specs.declared.events.Event.{Event}
use Rattle.broker_sockets.specs.declared.events.Output.{Output}
use Rattle.status_tally.specs.Links.{head_of, heard_by}
use Rattle.status_tally.specs.Tallying.{link_of, new_tally}
use Rattle.status_tally.specs.declared.tallied.Tallied.{Tallied}
use Rattle.status_tally.specs.declared.tally.Tally.{Tally}

-- a call, with what was given out
pub data Call : Type 0 where
  handled : Event → List Output → Call
  heard : PeerEvent → Given → Call
  settled : Call

module _ {H : Type 0} (handles : H → Event → List Output → H → Type 0) (hears : H → PeerEvent → Given → H → Type 0) (settles : H → H → Type 0) where
  abbrev pub Takes : H → Call → H → Type 0
  Takes h (handled e outputs) h' = handles h e outputs h'
  Takes h (heard e given) h' = hears h e given h'
  Takes h settled h' = settles h h'

  abbrev pub Take : H → List Call → H → Type 0
  Take h [] h' = h' ≡ h
  Take h (call ∷ calls) h' = (m : H) × Takes h call m × Take m calls h'

-- what calls of the door come to is what the same calls of the handler inside come to
abbrev pub ChangesNothing : {H : Type 0} → (H → Event → List Output → H → Type 0) → (H → PeerEvent → Given → H → Type 0) → (H → H → Type 0)
    → (Tallied H → Event → List Output → Tallied H → Type 0) → (Tallied H → PeerEvent → Given → Tallied H → Type 0) → (Tallied H → Tallied H → Type 0) → Type 0
ChangesNothing {H} handles hears settles door_handles door_hears door_settles =
    (calls : List Call) (d d' : Tallied H) → Take door_handles door_hears door_settles d calls d' → Take handles hears settles d.inside calls d'.inside

-- ---- who is told as heard

-- a frame of a peer comes
abbrev pub IsOf : ℕ → PeerEventKind → Type 0
IsOf peer (Linked other) = ⊥
IsOf peer (Frame bytes) = option_map (λ head. head.0) (head_of bytes.items) ≡ Some peer
IsOf peer (Ship other) = ⊥
IsOf peer (More other after) = ⊥

abbrev pub Brings : ℕ → Call → Type 0
Brings peer (handled e outputs) = ⊥
Brings peer (heard e given) = IsOf peer e.kind
Brings peer settled = ⊥

-- in one of the calls it does
abbrev pub WasThere : ℕ → List Call → Type 0
WasThere peer [] = ⊥
WasThere peer (call ∷ calls) = Brings peer call ⊎ WasThere peer calls

-- a peer is told as heard only where a frame of it came in one of the calls since nothing was counted
abbrev pub HeardWasThere : {H : Type 0} → (Tallied H → Event → List Output → Tallied H → Type 0) → (Tallied H → PeerEvent → Given → Tallied H → Type 0)
    → (Tallied H → Tallied H → Type 0) → Type 0
HeardWasThere {H} door_handles door_hears door_settles =
    (calls : List Call) (d d' : Tallied H) (nodes : ℕ) (t : Tally) → Take door_handles door_hears door_settles d calls d' → d.tally ≡ Some (new_tally nodes)
    → d'.tally ≡ Some t → (peer at : ℕ) → heard_by at (link_of peer t) ≡ true → WasThere peer calls

-- where the door doesn't count, each call of it is just that call of the handler inside
module _ {H : Type 0} (handles : H → Event → List Output → H → Type 0) (hears : H → PeerEvent → Given → H → Type 0) (settles : H → H → Type 0)
    (door_handles : Tallied H → Event → List Output → Tallied H → Type 0) (door_hears : Tallied H → PeerEvent → Given → Tallied H → Type 0)
    (door_settles : Tallied H → Tallied H → Type 0) where
  pub record IdleChangesNothing : Type 0 where
    pub handled : (d d' : Tallied H) (e : Event) (outputs : List Output) → d.tally ≡ None → door_handles d e outputs d' ↔ (handles d.inside e outputs d'.inside × (d'.tally ≡ None))
    pub heard : (d d' : Tallied H) (e : PeerEvent) (given : Given) → d.tally ≡ None → door_hears d e given d' ↔ (hears d.inside e given d'.inside × (d'.tally ≡ None))
    pub settled : (d d' : Tallied H) → d.tally ≡ None → door_settles d d' ↔ (settles d.inside d'.inside × (d'.tally ≡ None))
