-- What is offered after SUBACK.
use Rattle.std.specs.Prelude.{◌≡◌, ◌++◌, List, ◌∷◌}
use Rattle.causal_context.specs.Dots.{Dot}
use Rattle.node_work.specs.Acts.{Act}
use Rattle.cluster_play.specs.Worlds.{World}
use Rattle.cluster_play.specs.Runs.{Played}
use Rattle.cluster_play.specs.Histories.{Reached, site, taken_amid, operations_amid, moment_amid}
use Rattle.cluster_play.specs.Answering.{AcknowledgesFilters, SendsAnswers, OffersAlike}

-- what is offered after SUBACK, one by one, are, filter by filter, the answers of what the node has taken by then, at its moment
abbrev pub AnswersAsSent : Type 0
AnswersAsSent =
    (run later : List Played) (m : Played) (w : World) → Reached (run ++ m ∷ later) w
    → (before : List Act) (s : AcknowledgesFilters m before)
    → SendsAnswers (operations_amid (site m.fate) run before) m before s × (s.at ≡ moment_amid (site m.fate) run before)

-- so nodes that have taken the same by then, in two steps of a run, offer the same to the same subscription at the same moment
abbrev pub SendAlike : Type 0
SendAlike =
    (whole run later run' later' : List Played) (m m' : Played) (w : World) → Reached whole w → whole ≡ run ++ m ∷ later → whole ≡ run' ++ m' ∷ later'
    → (before before' : List Act) (s : AcknowledgesFilters m before) (s' : AcknowledgesFilters m' before')
    → moment_amid (site m.fate) run before ≡ moment_amid (site m'.fate) run' before'
    → ((d : Dot) → taken_amid (site m.fate) run before d ≡ taken_amid (site m'.fate) run' before' d)
    → OffersAlike (operations_amid (site m.fate) run before) (operations_amid (site m'.fate) run' before') s.at s.grants s'.grants s.offers s'.offers
