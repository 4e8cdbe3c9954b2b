-- What a node that has started does.
use Rattle.std.proofs.Common.{◌≡◌, List, Option, Some, refl}
use Rattle.broker_node.specs.declared.event.EventKind.{EventKind}
use Rattle.broker_node.specs.declared.event.EventKind.TheVariants as kinds
use Rattle.broker_node.specs.Due.{DoesDue}
use Rattle.broker_node.specs.Idle.{NothingDue, AsksNothing, GoesIdle}
use Rattle.broker_node.specs.Turns.{AnswersEvent, AwaitsStart, AnswersAfterDue}
use Rattle.node_work.specs.Acts.{Act}
use Rattle.node_work.specs.View.{Place, HeldView, WorkView}
use Rattle.node_work.specs.Working.{Did, Then}
use Rattle.node_work.proofs.Working.{did_nothing}

-- at another event than Started: what is due, and then what it asks for
pub goes : (kind : EventKind) → ¬ (kind ≡ kinds.Started) → (out : Option (Unit {0})) (p : Place) (h : HeldView) (acts : List Act) → Then DoesDue (λ _. AnswersEvent kind) out p h acts → AnswersAfterDue kind out p h acts
goes kinds.Started other out p h acts d = absurd (other refl)
goes (kinds.Opened connection) other out p h acts d = d
goes (kinds.Piece connection bytes) other out p h acts d = d
goes (kinds.Room connection bytes) other out p h acts d = d
goes (kinds.Closed connection) other out p h acts d = d
goes (kinds.Frame bytes) other out p h acts d = d
goes (kinds.Linked peer) other out p h acts d = d
goes (kinds.Ship peer) other out p h acts d = d
goes (kinds.More peer after) other out p h acts d = d
goes kinds.Tick other out p h acts d = d
goes (kinds.Evict client) other out p h acts d = d
goes (kinds.Table homes) other out p h acts d = d

pub goes_idle : (kind : EventKind) → ¬ (kind ≡ kinds.Started) → (p : Place) (h : HeldView) → GoesIdle p h kind → NothingDue h × AsksNothing p h kind
goes_idle kinds.Started other p h i = absurd (other refl)
goes_idle (kinds.Opened connection) other p h i = i
goes_idle (kinds.Piece connection bytes) other p h i = i
goes_idle (kinds.Room connection bytes) other p h i = i
goes_idle (kinds.Closed connection) other p h i = i
goes_idle (kinds.Frame bytes) other p h i = i
goes_idle (kinds.Linked peer) other p h i = i
goes_idle (kinds.Ship peer) other p h i = i
goes_idle (kinds.More peer after) other p h i = i
goes_idle kinds.Tick other p h i = i
goes_idle (kinds.Evict client) other p h i = i
goes_idle (kinds.Table homes) other p h i = i

-- before it has started: nothing
pub waits : (kind : EventKind) → ¬ (kind ≡ kinds.Started) → (w : WorkView) → Did w w (AwaitsStart kind (Some tt))
waits kinds.Started other w = absurd (other refl)
waits (kinds.Opened connection) other w = did_nothing w tt
waits (kinds.Piece connection bytes) other w = did_nothing w tt
waits (kinds.Room connection bytes) other w = did_nothing w tt
waits (kinds.Closed connection) other w = did_nothing w tt
waits (kinds.Frame bytes) other w = did_nothing w tt
waits (kinds.Linked peer) other w = did_nothing w tt
waits (kinds.Ship peer) other w = did_nothing w tt
waits (kinds.More peer after) other w = did_nothing w tt
waits kinds.Tick other w = did_nothing w tt
waits (kinds.Evict client) other w = did_nothing w tt
waits (kinds.Table homes) other w = did_nothing w tt
