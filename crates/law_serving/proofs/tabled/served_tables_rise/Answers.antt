use Rattle.node_server.specs.Events.{event_of, peer_event_of, table_event}
use Rattle.node_server.specs.Serving.{IsAnsweredToAll, IsAnsweredToClients, IsCommitted}
use Rattle.node_server.specs.Views.{keeper_of}
use Rattle.law_serving.proofs.TableServing.{served_tables_rise}
use Rattle.law_serving.proofs.tabled.served_tables_rise.Goals as goal

pub returns : goal.returns
returns g c =
    let R = g.R.RowStore in
    served_tables_rise
    (λ s told handed s'. IsAnsweredToClients (keeper_of s) (event_of told) handed (keeper_of s'))
    (λ s told given s'. IsAnsweredToAll (keeper_of s) (peer_event_of told) given (keeper_of s'))
    (λ s s'. IsCommitted R.is_clean R.is_open R.content R.may_leave (keeper_of s) (keeper_of s'))
    (λ s at homes handed s'. IsAnsweredToClients (keeper_of s) (table_event at homes) handed (keeper_of s'))
    (λ s e outputs s' is. is) (λ s e given s' is. is) (λ s s' is. is.node) (λ s at homes outputs s' is. is) g.F.Tables.offers
