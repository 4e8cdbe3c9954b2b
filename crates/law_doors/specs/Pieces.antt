-- In whatever pieces a client's bytes come, the same comes of them.
use Rattle.std.specs.Prelude.{◌≡◌, ◌↔◌, ℕ, List, [], ◌∷◌, ◌++◌, if◌then◌else◌}
use Rattle.std.specs.List.{concat}
use Rattle.mqtt_fields.specs.Field.{IsBytes}
use Rattle.door_mqtt3.specs.Client.{AreSpelled}
use Rattle.door_mqtt3.specs.Stages.{Come, comes, has_ended}
use Rattle.law_doors.specs.Turns.{opened}

-- more bytes come; nothing counts behind what has ended a connection
abbrev pub come_then : Come → Come → Come
come_then c d = record { stage = d.stage; told = c.told ++ d.told; first = c.first ++ d.first }

abbrev pub come_more : Come → List ℕ → Come
come_more c bytes = if has_ended c.stage then c else come_then c (comes c.stage bytes)

-- piece by piece
abbrev pub come_pieces : Come → List (List ℕ) → Come
come_pieces c [] = c
come_pieces c (bytes ∷ more) = come_pieces (come_more c bytes) more

-- nothing came on a connection that is opened
abbrev pub nothing_came : Come
nothing_came = record { stage = opened; told = []; first = [] }

-- of both the same is known of the connection, the same bytes are told inside, and the same is sent first
pub record IsAlike (c d : Come) : Type 0 where
  pub stage : c.stage ≡ d.stage
  pub told : (bytes : List ℕ) → AreSpelled c.told bytes ↔ AreSpelled d.told bytes
  pub first : c.first ≡ d.first

abbrev pub AnyPieces : Type 0
AnyPieces = (pieces : List (List ℕ)) → IsBytes (concat pieces) → IsAlike (come_pieces nothing_came pieces) (comes opened (concat pieces))
