-- Calls of a handler, one after another, and the connections of clients that are open after them.
use Rattle.std.specs.Prelude.{◌≡◌, ◌≤◌, ◌==◌, ◌&&◌, ◌||◌, ℕ, List, [], ◌∷◌, Bool, true, false, not, length}
use Rattle.std.specs.List.{AllByRecursion}
use Rattle.broker_sockets.specs.declared.bridge.Given.{Given}
use Rattle.broker_sockets.specs.declared.bridge.PeerEvent.{PeerEvent}
use Rattle.broker_sockets.specs.declared.events.Event.{Event}
use Rattle.broker_sockets.specs.declared.events.EventKind.{EventKind}
use Rattle.broker_sockets.specs.declared.events.EventKind.TheVariants.{Started, Opened, Piece, Room, Closed, Tick}
use Rattle.broker_sockets.specs.declared.events.Output.{Output}
use Rattle.broker_sockets.specs.declared.events.Output.TheVariants.{Send, Close}

-- an event of clients and what was given out at it, one of other nodes, or that it settled
pub data Call : Type 0 where
  Handled : (e : Event) (outputs : List Output) → Call
  Heard : (e : PeerEvent) (given : Given) → Call
  Settled : Call

module _ {H : Type 0} (handles : H → Event → List Output → H → Type 0) (hears : H → PeerEvent → Given → H → Type 0) (settles : H → H → Type 0) where
  abbrev pub IsMade : Call → H → H → Type 0
  IsMade (Handled e outputs) h h' = handles h e outputs h'
  IsMade (Heard e given) h h' = hears h e given h'
  IsMade Settled h h' = settles h h'

  abbrev pub AreMade : List Call → H → H → Type 0
  AreMade [] h h' = h' ≡ h
  AreMade (call ∷ more) h h' = (m : H) × IsMade call h m × AreMade more m h'

-- ---- which connections are open

-- it is open once it was opened, and isn't once it is gone
abbrev pub open_by : ℕ → EventKind → Bool → Bool
open_by c Started before = before
open_by c (Opened connection) before = (c == connection) || before
open_by c (Piece connection bytes) before = before
open_by c (Room connection bytes) before = before
open_by c (Closed connection) before = not (c == connection) && before
open_by c Tick before = before

-- nor once it is closed
abbrev pub open_past : ℕ → List Output → Bool → Bool
open_past c [] before = before
open_past c (Send connection bytes ∷ more) before = open_past c more before
open_past c (Close connection ∷ more) before = open_past c more (not (c == connection) && before)

abbrev pub open_after : ℕ → List Call → Bool → Bool
open_after c [] before = before
open_after c (Handled e outputs ∷ more) before = open_after c more (open_past c outputs (open_by c e.kind before))
open_after c (Heard e given ∷ more) before = open_after c more (open_past c given.outputs.items before)
open_after c (Settled ∷ more) before = open_after c more before

-- connections of which none is named twice
abbrev pub AreApart : List ℕ → Type 0
AreApart [] = Unit {0}
AreApart (c ∷ cs) = AllByRecursion (λ x. (x == c) ≡ false) cs × AreApart cs

-- no more than so many connections are open after the calls
abbrev pub AtMostOpen : ℕ → List Call → Type 0
AtMostOpen most calls = (cs : List ℕ) → AreApart cs → AllByRecursion (λ c. open_after c calls false ≡ true) cs → length cs ≤ most
