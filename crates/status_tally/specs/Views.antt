-- What is seen of a door: the handler inside, and what it has counted, if it counts.
use Rattle.std.specs.Prelude.{ℕ, Option}
use Rattle.status_figures.specs.declared.traffic.Traffic.{Traffic}
use Rattle.status_tally.specs.declared.tallied.Tallied.{Tallied}
use Rattle.status_tally.specs.declared.tally.Tally.{Tally}

abbrev pub inside_of : {H : Type 0} → Tallied H → H
inside_of d = d.inside

abbrev pub tally_of : {H : Type 0} → Tallied H → Option Tally
tally_of d = d.tally

-- what has gone through, and how many connections of clients are open
abbrev pub total_of : Tally → Traffic
total_of t = t.total

abbrev pub clients_of : Tally → ℕ
clients_of t = t.clients
