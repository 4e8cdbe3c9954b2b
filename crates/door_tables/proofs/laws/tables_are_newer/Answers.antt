use Rattle.door_tables.specs.Answering.{IsHeard, IsSettled}
use Rattle.door_tables.proofs.Taking.{tables_are_newer}
use Rattle.door_tables.proofs.laws.tables_are_newer.Goals as goal

pub returns : goal.returns
returns g c =
    tables_are_newer g.H.Handler.handles g.H.BridgeHandler.hears g.H.Handler.settles g.H.TakesTables.goes_by g.H.TakesTables.takes g.F.Tables.offers
    (IsHeard g.H.BridgeHandler.hears) (IsSettled g.H.Handler.settles)
    (λ d e given d' is. is.0) (λ d d' is. is.0)
