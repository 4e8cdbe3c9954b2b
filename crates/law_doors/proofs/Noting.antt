-- What a relation over a handler is over one that notes its calls.
use Rattle.std.proofs.Common.{◌≡◌, List, [], ◌∷◌, ◌++◌, append_assoc, append-nil, refl, sym, ap, ◌∙◌}
use Rattle.broker_sockets.specs.declared.bridge.Given.{Given}
use Rattle.broker_sockets.specs.declared.bridge.PeerEvent.{PeerEvent}
use Rattle.broker_sockets.specs.declared.events.Event.{Event}
use Rattle.broker_sockets.specs.declared.events.Output.{Output}
use Rattle.broker_turns.specs.Handling.Told.{Of_client}
use Rattle.law_doors.specs.Calls.{AreCalled, Call, Tells}
use Rattle.law_doors.proofs.Calls.{called_join}

module _ {H : Type 0} (handles : H → Event → List Output → H → Type 0) (hears : H → PeerEvent → Given → H → Type 0) (settles : H → H → Type 0) where
  -- the handler is called so, and these calls behind some notes are so
  pub record Noted (h h' : H) (notes : List Call) (Is : List Call → Type 0) : Type 0 where
    pub calls : List Call
    pub called : AreCalled handles hears settles calls h h'
    pub end : List Call
    pub ends : end ≡ notes ++ calls
    pub is : Is end

  -- nothing is called
  pub noted_none : (h h' : H) (notes : List Call) (Is : List Call → Type 0) → h' ≡ h → Is notes → Noted h h' notes Is
  noted_none h h' notes Is same is = record { calls = []; called = same; end = notes; ends = sym (append-nil notes); is = is }

  -- one event
  pub noted_one : (e : Event) (outputs : List Output) (h h' : H) (notes : List Call) (Is : List Call → Type 0) → handles h e outputs h' → Is (notes ++ Tells (Of_client e outputs) ∷ []) → Noted h h' notes Is
  noted_one e outputs h h' notes Is handled is =
      record { calls = Tells (Of_client e outputs) ∷ []; called = (h', handled, refl); end = notes ++ Tells (Of_client e outputs) ∷ []; ends = refl; is = is }

  -- the same is another thing
  pub noted_as : (h h' : H) (notes : List Call) (Is Or : List Call → Type 0) → ((end : List Call) → Is end → Or end) → Noted h h' notes Is → Noted h h' notes Or
  noted_as h h' notes Is Or by n = record { calls = n.calls; called = n.called; end = n.end; ends = n.ends; is = by n.end n.is }

  -- one after the other
  pub noted_then : (h m h' : H) (notes : List Call) (Is Then All : List Call → Type 0) → (n : Noted h m notes Is) → ((end : List Call) → Then end → All end) → Noted m h' n.end Then → Noted h h' notes All
  noted_then h m h' notes Is Then All n by more = record {
    calls = n.calls ++ more.calls;
    called = called_join handles hears settles n.calls more.calls h m h' n.called more.called;
    end = more.end;
    ends = more.ends ∙ ap (λ (xs : List Call). xs ++ more.calls) n.ends ∙ append_assoc notes n.calls more.calls;
    is = by more.end more.is;
  }
