-- PUBRELs (MQTT 5.0, 4.3.3 and 4.4).
use Rattle.std.specs.Prelude.{◌≡◌, ℕ, true, cond, nat_lt, List, [], ◌∷◌, ◌++◌}
use Rattle.qos_handshakes.specs.declared.answers.Ack.TheVariants.{Done}
use Rattle.qos_handshakes.specs.Outbox.{Outbox, empty_outbox}
use Rattle.law_handshakes.specs.Runs.{Step, Run, completed, received, resumed, listed}
use Rattle.qos_handshakes.specs.Touched.{is_in}
use Rattle.law_handshakes.specs.Lists.{without}
use Rattle.qos_handshakes.specs.declared.answers.Rec.TheVariants as rec

-- the identifiers whose PUBREC below 0x80 came and whose PUBCOMP did not, in the order of their first PUBRECs
abbrev pub pubrecs_after : List ℕ → Step → List ℕ
pubrecs_after known (received id reason rec.Release) = cond (is_in id known) known (cond (nat_lt reason 128) (known ++ id ∷ []) known)
pubrecs_after known (completed id Done) = without id known
pubrecs_after known s = known

-- a PUBREL answers such a PUBREC, or is one of those at the beginning of a connection, which are all of them in order
abbrev pub ReleasesKnown : List ℕ → Step → Type 0
ReleasesKnown known (received id reason rec.Release) = is_in id (pubrecs_after known (received id reason rec.Release)) ≡ true
ReleasesKnown known (listed ids) = ids ≡ known
ReleasesKnown known s = Unit {0}

abbrev pub AllReleasesKnown : List ℕ → List Step → Type 0
AllReleasesKnown known [] = Unit {0}
AllReleasesKnown known (s ∷ ss) = ReleasesKnown known s × AllReleasesKnown (pubrecs_after known s) ss

abbrev pub KeepsReleases : Type 0
KeepsReleases = (steps : List Step) (end : Outbox) → Run empty_outbox steps end → AllReleasesKnown [] steps

abbrev pub pubrecs_in : List ℕ → List Step → List ℕ
pubrecs_in known [] = known
pubrecs_in known (s ∷ ss) = pubrecs_in (pubrecs_after known s) ss

-- at the beginning of a connection there is one PUBREL for each exchange that was released before it, in order
abbrev pub KeepsReleasesFirst : Type 0
KeepsReleasesFirst = (before here : List Step) (maximum : ℕ) (ids : List ℕ) (end : Outbox) → Run empty_outbox (before ++ resumed maximum ∷ listed ids ∷ here) end → ids ≡ pubrecs_in [] before
