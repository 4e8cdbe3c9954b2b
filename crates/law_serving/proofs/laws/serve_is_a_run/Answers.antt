use Rattle.node_keeper.specs.BatchViews.{node_in}
use Rattle.node_server.specs.Events.{event_of, peer_event_of, table_event}
use Rattle.node_server.specs.Serving.{IsAnsweredToAll, IsAnsweredToClients, IsCommitted, IsCutOff}
use Rattle.node_server.specs.Views.{keeper_of}
use Rattle.law_serving.proofs.Serving.{serve_is_a_run, stopped_serve_is_a_run}
use Rattle.law_serving.proofs.laws.serve_is_a_run.Goals as goal

pub returns-clause-run : goal.returns-clause-run
returns-clause-run g c =
    let R = g.R.RowStore in
    serve_is_a_run R.is_clean R.is_open R.content R.may_leave
    (λ s told handed s'. IsAnsweredToClients (keeper_of s) (event_of told) handed (keeper_of s'))
    (λ s told given s'. IsAnsweredToAll (keeper_of s) (peer_event_of told) given (keeper_of s'))
    (λ s s'. IsCommitted R.is_clean R.is_open R.content R.may_leave (keeper_of s) (keeper_of s'))
    (λ s. (node_in (keeper_of s)).homes) (λ s at homes handed s'. IsAnsweredToClients (keeper_of s) (table_event at homes) handed (keeper_of s')) g.F.Tables.offers
    (λ s e outputs s' is. is) (λ s at homes outputs s' is. is) (λ s e given s' is. is) (λ s s' is. is) g.E.Write.contents
    g.S.Sockets.accepts g.S.Readiness.watches g.S.Sockets.connects g.S.Sockets.reads g.S.Sockets.writes g.S.Readiness.finds g.C.Clock.tells

pub returns-clause-stopped : goal.returns-clause-stopped
returns-clause-stopped g c =
    let R = g.R.RowStore in
    stopped_serve_is_a_run R.is_clean R.is_open R.content R.may_leave
    (λ s told handed s'. IsAnsweredToClients (keeper_of s) (event_of told) handed (keeper_of s'))
    (λ s told given s'. IsAnsweredToAll (keeper_of s) (peer_event_of told) given (keeper_of s'))
    (λ s s'. IsCommitted R.is_clean R.is_open R.content R.may_leave (keeper_of s) (keeper_of s'))
    (λ s. (node_in (keeper_of s)).homes) (λ s at homes handed s'. IsAnsweredToClients (keeper_of s) (table_event at homes) handed (keeper_of s')) g.F.Tables.offers
    (λ s e outputs s' is. is) (λ s at homes outputs s' is. is) (λ s e given s' is. is) (λ s s' is. is) g.E.Write.contents
    g.met.R.RowStore.settled (λ s fault s'. IsCutOff R.is_clean R.is_open R.content R.may_leave (keeper_of s) fault (keeper_of s')) (λ s fault s' is. is)
    g.S.Sockets.accepts g.S.Readiness.watches g.S.Sockets.connects g.S.Sockets.reads g.S.Sockets.writes g.S.Readiness.finds g.C.Clock.tells _ _
