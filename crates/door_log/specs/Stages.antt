-- The connections of clients that are open, and how far each has come.
use Rattle.std.specs.Prelude.{◌≡◌, ℕ, ◌-◌, Bool, true, false, List, ◌++◌, length, take, refl}
use Rattle.std.specs.Coded.{Coded, code_by, coded_bool, coded_list, coded_ℕ, coded×}
use Rattle.std.specs.FinMap.{FinMap}
use Rattle.std.specs.FinMap as map
use Rattle.std.specs.Ordering.{nat_cmp}
use Rattle.door_log.specs.declared.clients.Stage.{Stage}
use Rattle.door_log.specs.declared.clients.Stage.TheVariants.{Coming, Accepted}

abbrev pub Stages : Type 0
Stages = FinMap nat_cmp Stage

-- what came so far, and a piece behind it, of which the first 1,048,576 bytes are kept
abbrev pub more_of : List ℕ → List ℕ → List ℕ
more_of held bytes = held ++ take (1048576 - length held) bytes

-- each is stored as whether its client was accepted, and its bytes
abbrev pub bytes_of : Stage → Bool × List ℕ
bytes_of (Coming held) = (false, held)
bytes_of (Accepted name) = (true, name)

abbrev pub stage_of : Bool × List ℕ → Stage
stage_of (false, held) = Coming held
stage_of (true, name) = Accepted name

abbrev pub stage_again : (stage : Stage) → stage_of (bytes_of stage) ≡ stage
stage_again (Coming held) = refl
stage_again (Accepted name) = refl

abbrev pub coded_stages : Coded Stages
coded_stages = map.code coded_ℕ (code_by (Bool × List ℕ) (coded× coded_bool (coded_list coded_ℕ)) bytes_of stage_of stage_again)
