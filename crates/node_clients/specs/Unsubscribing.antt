-- How an UNSUBSCRIBE is answered (MQTT 5.0, 3.10.4 and 3.11).
use Rattle.std.specs.Prelude.{ℕ, cond, List, [], Option, Some}
use Rattle.mqtt_packets.specs.declared.unsubscribe.Unsubscribe.{Unsubscribe}
use Rattle.mqtt_topics.specs.Topics.{IsFilter}
use Rattle.law_sessions.specs.Runs.{answers}
use Rattle.session_table.specs.Calls.{stays}
use Rattle.node_work.specs.Calling.{Calls}
use Rattle.node_work.specs.Doings.{Removes}
use Rattle.node_work.specs.Working.{Doing, Returns, Where, Then, InTurn}
use Rattle.node_clients.specs.Ending.{ClosesAfter}

-- one filter: Success where the client's subscription to it stands, else No subscription existed; Topic Filter invalid for
-- a text that isn't a filter
abbrev pub Unsubscribed : List ℕ → List ℕ → Option ℕ → Doing
Unsubscribed client text = Where (IsFilter text) (Then (Removes client (Some text)) (λ stood. Returns (cond stood 0 17))) (Returns 143)

-- UNSUBACK; one that is longer than the client takes isn't sent, and closes the connection
abbrev pub SendsUnsuback : ℕ → List ℕ → ℕ → List ℕ → Option (Unit {0}) → Doing
SendsUnsuback c client packet codes = Then (Calls client (λ at. answers packet codes) stays) (λ r. ClosesAfter r.end c client)

-- each filter in turn, and then UNSUBACK with their reasons
abbrev pub ServesUnsubscribe : ℕ → List ℕ → Unsubscribe → Option (Unit {0}) → Doing
ServesUnsubscribe c client p = Then (InTurn (Unsubscribed client) p.filters []) (SendsUnsuback c client p.identifier)
