-- How a node takes another table of homes (MQTT 5.0, 4.11).
use Rattle.std.specs.Prelude.{ℕ, Bool, ◌&&◌, nat_eq, nat_lt, List, length, Option}
use Rattle.home_table.specs.Table.{Table}
use Rattle.session_table.specs.Seats.{AreElsewhere}
use Rattle.node_work.specs.declared.counts.Missed.TheVariants.{TableRefused}
use Rattle.node_work.specs.Acts.{Moved}
use Rattle.node_work.specs.Doings.{Misses}
use Rattle.node_work.specs.View.{Place, HeldView, nodes_of}
use Rattle.node_work.specs.Working.{Doing, Acting, Looks, FindsWhere, If, Then, Each}
use Rattle.node_clients.specs.Moving.{MovesAway}

-- the clients with sessions here whose home is elsewhere, in the order of their bytes
abbrev pub AreAway : Place → HeldView → List (List ℕ) → Type 0
AreAway p h away = AreElsewhere h.homes p.id h.sessions away

-- they go one by one
abbrev pub SendsAway : Option (Unit {0}) → Doing
SendsAway = FindsWhere AreAway (Each MovesAway)

-- a table that is newer than the node's, and for as many nodes
abbrev pub is_newer_table : Table → Place → HeldView → Bool
is_newer_table homes p h = nat_eq (length homes.nodes) (nodes_of p) && nat_lt h.homes.version homes.version

-- it is the node's from then on, and clients go by it
abbrev pub TakesNewerTable : Table → Option (Unit {0}) → Doing
TakesNewerTable homes = Then (Acting (λ p h. Moved homes)) (λ _. SendsAway)

-- another one is dropped, and counted
abbrev pub TakesTable : Table → Option (Unit {0}) → Doing
TakesTable homes = Looks (is_newer_table homes) (λ newer. If newer (TakesNewerTable homes) (Misses TableRefused))
