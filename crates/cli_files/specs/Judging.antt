-- Which table that is found in a file may take the place of the one in force, and why another one isn't taken.
use Rattle.std.specs.Prelude.{◌≡◌, ◌≢◌, ◌≤◌, ◌<◌, ◌++◌, ℕ, List, length, codes, slice_get, option_map, Option, Some, Ok}
use Rattle.std.specs.Fmt.{decimal}
use Rattle.home_table.specs.Configurations.{configuration}
use Rattle.home_table.specs.Table.{Table}
use Rattle.cli_stops.specs.Causes.{found_text}
use Rattle.door_tables.specs.Newer.{IsNewer}
use Rattle.cli_files.specs.Looking.{Found}
use Rattle.cli_files.specs.declared.refusal.Refusal.{Refusal}
use Rattle.cli_files.specs.declared.refusal.Refusal.TheVariants.{Faulty, OtherNodes, NotNewer, OtherNumber, OtherAddress, OtherBridge}

-- where clients reach a node by a table, and where other nodes do
abbrev pub address_at : Table → ℕ → Option (List ℕ)
address_at t number = option_map (λ n. n.address) (slice_get t.nodes number)

abbrev pub bridge_at : Table → ℕ → Option (List ℕ)
bridge_at t number = option_map (λ n. n.bridge) (slice_get t.nodes number)

-- the first nodes have the same bridges
abbrev pub HasBridges : Table → Table → ℕ → Type 0
HasBridges homes other count = (number : ℕ) → number < count → bridge_at other number ≡ bridge_at homes number

-- a newer table for as many nodes, in which this node has the same number and the same address, and each node the same bridge
pub record IsTakeable (homes : Table) (id : ℕ) (other : Table) (number : ℕ) : Type 0 where
  pub newer : IsNewer homes other
  pub place : number ≡ id
  pub address : address_at other id ≡ address_at homes id
  pub bridges : HasBridges homes other (length homes.nodes)

-- what a reason says is so
abbrev pub IsReason : Table → ℕ → Table → ℕ → Refusal → Type 0
IsReason homes id other number (Faulty found) = ⊥
IsReason homes id other number (OtherNodes nodes) = (nodes ≡ length other.nodes) × (length other.nodes ≢ length homes.nodes)
IsReason homes id other number (NotNewer version) = (version ≡ other.version) × (other.version ≤ homes.version)
IsReason homes id other number (OtherNumber found) = (found ≡ number) × (number ≢ id)
IsReason homes id other number OtherAddress = address_at other id ≢ address_at homes id
IsReason homes id other number (OtherBridge node) = (node < length homes.nodes) × (bridge_at other node ≢ bridge_at homes node)

-- the file is a configuration with such a table
pub record IsTaken (found : Found) (node : List ℕ) (homes : Table) (id : ℕ) (other : Table) : Type 0 where
  pub text : List ℕ
  pub is : found ≡ Some text
  pub number : ℕ
  pub configured : configuration text node ≡ Ok (other, number)
  pub takeable : IsTakeable homes id other number

-- or it is one whose table has this reason not to be taken
pub record IsUntaken (found : Found) (node : List ℕ) (homes : Table) (id : ℕ) (refusal : Refusal) : Type 0 where
  pub text : List ℕ
  pub is : found ≡ Some text
  pub other : Table
  pub number : ℕ
  pub configured : configuration text node ≡ Ok (other, number)
  pub reason : IsReason homes id other number refusal

-- of a file that is none nothing more is said
abbrev pub IsRefused : Found → List ℕ → Table → ℕ → Refusal → Type 0
IsRefused found node homes id (Faulty cause) = Unit {0}
IsRefused found node homes id refusal = IsUntaken found node homes id refusal

abbrev pub refusal_text : Refusal → List ℕ
refusal_text (Faulty found) = found_text found
refusal_text (OtherNodes nodes) = codes "it has " ++ decimal nodes ++ codes " nodes, and the table in force has another number"
refusal_text (NotNewer version) = codes "its version " ++ decimal version ++ codes " is not greater than that of the table in force"
refusal_text (OtherNumber number) = codes "this node is node " ++ decimal number ++ codes " in it, counted from 0, and not so in the table in force"
refusal_text OtherAddress = codes "it has another address for this node, which needs a restart"
refusal_text (OtherBridge number) = codes "it has another bridge for node " ++ decimal number ++ codes ", counted from 0, which needs a restart"
