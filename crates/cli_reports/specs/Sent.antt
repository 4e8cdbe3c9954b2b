-- To which node the lines of a balancer's text send an identifier.
use Rattle.std.specs.Prelude.{◌≡◌, ◌⊎◌, ◌<◌, ◌≤◌, ◌%◌, ◌↔◌, ℕ, Bool, List, [], ◌∷◌, Option, Some, None, length, sum, take, if◌then◌else◌}
use Rattle.std.specs.Str.{bytes_eq}
use Rattle.home_table.specs.Homes.{IsAutomatic, IsChosen, IsHome}
use Rattle.home_table.specs.Table.{Table}
use Rattle.cli_files.specs.Listed.{AreHomes}
use Rattle.cli_reports.specs.Balancer.{ordered}

abbrev pub begins_with : List ℕ → List ℕ → Bool
begins_with identifier prefix = bytes_eq (take (length prefix) identifier) prefix

-- the node of the first home with whose prefix the identifier begins
abbrev pub sent_by : List (List ℕ × ℕ) → List ℕ → Option ℕ
sent_by [] identifier = None
sent_by (home ∷ homes) identifier = if begins_with identifier home.0 then Some home.1 else sent_by homes identifier

-- the lines of identifiers that nodes give by themselves come first, then those of the homes, then those of the sums
abbrev pub IsSent : Table → List (List ℕ × ℕ) → List ℕ → ℕ → Type 0
IsSent t homes identifier node =
    ((node < length t.nodes) × IsAutomatic identifier node)
    ⊎ (IsChosen t identifier × (sent_by (ordered homes) identifier ≡ Some node))
    ⊎ (IsChosen t identifier × (sent_by (ordered homes) identifier ≡ None) × (node ≡ sum identifier % length t.nodes))

-- an identifier that a client may choose is sent to its home, and to no other node
abbrev pub ClientsAreSentHome : Type 0
ClientsAreSentHome =
    (t : Table) (homes : List (List ℕ × ℕ)) (identifier : List ℕ) (node : ℕ) → AreHomes t homes → 0 < length identifier → length identifier ≤ 256
    → IsSent t homes identifier node ↔ IsHome t identifier node
