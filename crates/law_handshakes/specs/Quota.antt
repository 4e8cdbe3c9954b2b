-- Receive Maximum (MQTT 5.0, 4.9).
use Rattle.std.specs.Prelude.{◌≡◌, ℕ, ◌≤◌, ◌⊎◌, List, [], ◌∷◌, ◌++◌, Some, None, length}
use Rattle.qos_handshakes.specs.declared.answers.Ack.TheVariants.{Done}
use Rattle.qos_handshakes.specs.Entries.{NoneFree}
use Rattle.qos_handshakes.specs.Outbox.{Outbox, waiting, in_flight, empty_outbox}
use Rattle.law_handshakes.specs.Runs.{Step, Run, acknowledged, completed, received, resumed, asked, lost}
use Rattle.law_handshakes.specs.Lists.{without}
use Rattle.law_handshakes.specs.Resends.{owed}
use Rattle.qos_handshakes.specs.declared.answers.Rec.TheVariants as rec

-- the exchanges whose PUBLISH this connection sent are at most Receive Maximum
abbrev pub KeepsQuota : Type 0
KeepsQuota = (steps : List Step) (end : Outbox) → Run empty_outbox steps end → in_flight end.copies ≤ end.maximum

-- the identifiers of the PUBLISHes that this connection sent and whose exchanges are not over
abbrev pub flying_after : List ℕ → Step → List ℕ
flying_after flying (asked now limit (Some s)) = flying ++ s.id ∷ []
flying_after flying (acknowledged id Done) = without id flying
flying_after flying (completed id Done) = without id flying
flying_after flying (received id reason rec.Ended) = without id flying
flying_after flying (resumed maximum) = []
flying_after flying lost = []
flying_after flying s = flying

abbrev pub maximum_after : ℕ → Step → ℕ
maximum_after maximum (resumed m) = m
maximum_after maximum lost = 0
maximum_after maximum s = maximum

-- at each point they are at most Receive Maximum
abbrev pub FliesWithin : List ℕ → ℕ → List Step → Type 0
FliesWithin flying maximum [] = Unit {0}
FliesWithin flying maximum (s ∷ ss) = (length (flying_after flying s) ≤ maximum_after maximum s) × FliesWithin (flying_after flying s) (maximum_after maximum s) ss

abbrev pub KeepsWithin : Type 0
KeepsWithin = (steps : List Step) (end : Outbox) → Run empty_outbox steps end → FliesWithin [] 0 steps

-- the quota is full; or no resend is owed, and no identifier is free or nothing waits
abbrev pub CannotSend : Outbox → Type 0
CannotSend o = (o.maximum ≤ in_flight o.copies) ⊎ ((owed o.copies ≡ []) × (NoneFree o.copies ⊎ (waiting o.copies ≡ [])))

-- where nothing is answered, nothing more can be sent
abbrev pub KeepsBusy : Type 0
KeepsBusy = (steps : List Step) (now limit : ℕ) (end : Outbox) → Run empty_outbox (steps ++ asked now limit None ∷ []) end → CannotSend end
