-- Packet Identifiers (MQTT 5.0, 2.2.1).
use Rattle.std.specs.Prelude.{◌≡◌, ℕ, ◌<◌, ◌≤◌, false, List, [], ◌∷◌, ◌++◌, Some, None, IsSome}
use Rattle.qos_handshakes.specs.declared.copies.Stage.{Stage}
use Rattle.qos_handshakes.specs.declared.copies.Stage.TheVariants.{Waiting, Published, Released}
use Rattle.qos_handshakes.specs.Entries.{Entries, find_id}
use Rattle.qos_handshakes.specs.Outbox.{Outbox, Sent, empty_outbox}
use Rattle.law_handshakes.specs.Runs.{Step, Run, asked}

abbrev pub NoneHas : ℕ → Entries → Type 0
NoneHas id es = find_id id es ≡ None

abbrev pub IsNumbered : Stage → Entries → Type 0
IsNumbered Waiting later = Unit {0}
IsNumbered (Published id) later = (1 ≤ id) × (id ≤ 65535) × NoneHas id later
IsNumbered (Released id order) later = (1 ≤ id) × (id ≤ 65535) × NoneHas id later

-- unfinished identifiers are distinct, and from 1 to 65,535
abbrev pub AreNumbered : Entries → Type 0
AreNumbered [] = Unit {0}
AreNumbered (e ∷ es) = IsNumbered e.1.stage es × AreNumbered es

abbrev pub KeepsNumbers : Type 0
KeepsNumbers = (steps : List Step) (end : Outbox) → Run empty_outbox steps end → AreNumbered end.copies

-- under a first send every lesser identifier is unfinished too
abbrev pub KeepsLeast : Type 0
KeepsLeast = (steps : List Step) (now limit : ℕ) (s : Sent) (end : Outbox) → Run empty_outbox (steps ++ asked now limit (Some s) ∷ []) end → s.dup ≡ false
    → (k : ℕ) → 1 ≤ k → k < s.id → IsSome (find_id k end.copies)
