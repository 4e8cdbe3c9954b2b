-- How the calls of a session end.
use Rattle.std.specs.Prelude.{◌≡◌, Result, Ok, Err, Option, Some, None}
use Rattle.mqtt_sessions.specs.declared.fault.SessionFault.{SessionFault}
use Rattle.mqtt_sessions.specs.declared.fault.SessionFault.TheVariants.{NoMemory, NumbersAtEnd, Spent, BadRow}
use Rattle.mqtt_sessions.specs.Reaction.{Reaction}
use Rattle.mqtt_sessions.specs.State.{State}

-- a fault of a call that isn't of a spent session: NumbersAtEnd exactly where a number is at its end, NoMemory only
-- where the call may want memory
abbrev pub IsFault : Type 0 → Type 0 → SessionFault → Type 0
IsFault Wants Ends NoMemory = Wants
IsFault Wants Ends NumbersAtEnd = Ends
IsFault Wants Ends Spent = ⊥
IsFault Wants Ends BadRow = ⊥

abbrev pub CalledBy : (State → Reaction → State → Type 0) → (State → Type 0) → (State → Type 0) → State → Result Reaction SessionFault → Option State → Type 0
CalledBy Step Wants Ends s (Ok r) new = (left : State) × (new ≡ Some left) × Step s r left
CalledBy Step Wants Ends s (Err e) new = IsFault (Wants s) (Ends s) e × (new ≡ None)

-- a call is a step, or a fault that leaves the session spent, as None stands for
abbrev pub Called : (State → Reaction → State → Type 0) → (State → Type 0) → (State → Type 0) → Option State → Result Reaction SessionFault → Option State → Type 0
Called Step Wants Ends None result new = (result ≡ Err Spent) × (new ≡ None)
Called Step Wants Ends (Some s) result new = CalledBy Step Wants Ends s result new

abbrev pub never : State → Type 0
never s = ⊥
