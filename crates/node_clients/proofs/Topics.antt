-- The topic of a PUBLISH, by what the aliases of its client stand for.
use Rattle.std.proofs.Common.{◌≡◌, ◌≢◌, ℕ, List, [], Option, Some, None, refl, sym, ap}
use Rattle.std.specs.Option.{option_and_then}
use Rattle.mqtt_packets.specs.declared.publish.Publish.{Publish}
use Rattle.mqtt_sessions.specs.Aliases.{Aliases, alias_of, alias_topic, filled, topic_for}
use Rattle.mqtt_sessions.specs.State.{aliases_of}
use Rattle.mqtt_sessions.proofs.ArrivingLaws.{own-filled, beside-filled}
use Rattle.session_table.specs.Seats.{Seat}
use Rattle.node_work.specs.Held.Sessions.{aliases_in}

pub seat-topic : (alias : ℕ) (o : Option Seat) → option_and_then (λ (s : Seat). topic_for alias (aliases_of s.session.link)) o ≡ topic_for alias (aliases_in o)
seat-topic alias None = refl
seat-topic alias (Some s) = refl

pub own-topic : (p : Publish) (known : Aliases) → p.topic ≢ [] → p.topic ≡ (filled known p).topic
own-topic p known some = sym (ap (λ (x : Publish). x.topic) (own-filled p known some))

pub set-topic : (p : Publish) (known : Aliases) (topic : List ℕ) → p.topic ≡ [] → Some topic ≡ alias_topic (alias_of p) known → topic ≡ (filled known p).topic
set-topic p known topic none is = sym (ap (λ (x : Publish). x.topic) (beside-filled p known (Some topic) none is))

pub no-topic : (p : Publish) (known : Aliases) → p.topic ≡ [] → None ≡ alias_topic (alias_of p) known → p.topic ≡ (filled known p).topic
no-topic p known none is = sym (ap (λ (x : Publish). x.topic) (beside-filled p known None none is))
