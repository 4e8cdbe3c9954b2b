-- Which subscription stands after a SUBSCRIBE, also one that names equal filters (MQTT 5.0, 3.8.3 and 3.8.4).
use Rattle.std.specs.Prelude.{◌≡◌, ℕ, ◌<◌, List, ◌∷◌, ◌++◌, Some}
use Rattle.std.specs.List.{AllByRecursion}
use Rattle.causal_context.specs.Dots.{Dot}
use Rattle.mqtt_packets.specs.declared.subscribe.SubscribeFilter.{SubscribeFilter}
use Rattle.subscription_set.specs.declared.entry.Entry.{Entry}
use Rattle.subscription_set.specs.Standing.{find_entry, live}
use Rattle.replica_store.specs.declared.operation.Operation.{Operation}
use Rattle.replica_store.specs.Operations.{Stands, IsLive}
use Rattle.node_work.specs.Acts.{Act}
use Rattle.node_work.specs.View.{HeldView}
use Rattle.node_clients.specs.Subscribing.{subscription_entry, identifier_of}
use Rattle.cluster_play.specs.Worlds.{World}
use Rattle.cluster_play.specs.Agreement.{HoldsAmid}
use Rattle.cluster_play.specs.Runs.{Played, Run}
use Rattle.cluster_play.specs.Histories.{Reached, site, operations_amid}
use Rattle.law_runs.specs.Staying.{CallsSession}
use Rattle.law_runs.specs.Filters.{FilterReply}
use Rattle.law_runs.specs.Subacks.{with_call}
use Rattle.law_causes.specs.Requests.{AsksToSubscribe, SubscribesInOrder}

-- a subscription is live, and no other one of its client to its filter stands
pub record StandsAlone (O : List Operation) (dot : Dot) (entry : Entry) : Type 0 where
  pub live : IsLive O dot entry
  pub alone : (d : Dot) (e : Entry) → Stands O d e → e.client ≡ entry.client → e.filter ≡ entry.filter → (d ≡ dot) × (e ≡ entry)

-- after these acts of a step the client's subscription to the filter stands alone, by what the node has taken until then, with these options and
-- this identifier; and by what the node holds there it is live
pub record HasOneSubscription (run later : List Played) (m : Played) (w : World) (acts : List Act) (client : List ℕ) (f : SubscribeFilter) (identifier : ℕ) : Type 0 where
  pub dot : Dot
  pub version : ℕ
  pub stands : StandsAlone (operations_amid (site m.fate) run acts) dot (subscription_entry client f identifier version)
  pub world : World
  pub reached : Reached run world
  pub path : Run world (m ∷ later) w
  pub held : HeldView
  pub there : HoldsAmid world m (site m.fate) acts held
  pub shows : find_entry dot (live held.store.subscriptions) ≡ Some (subscription_entry client f identifier version)

-- a Reason Code from 128 on is that of a refusal (2.4)
abbrev pub IsGrant : FilterReply → Type 0
IsGrant r = r.code < 128

-- none of these filters is equal to that one
abbrev pub NoneEquals : FilterReply → List FilterReply → Type 0
NoneEquals r rs = AllByRecursion (λ s. s.filter.filter ≡ r.filter.filter → ⊥) rs

-- once the filters of a SUBSCRIBE are answered: of each that is granted, and is the last of those equal to it, there is the subscription with
-- its options and the packet's identifier
abbrev pub LastOfEqualsStands : Type 0
LastOfEqualsStands =
    (run later : List Played) (m : Played) (w : World) → Reached (run ++ m ∷ later) w
    → (before : List Act) (c : CallsSession m before) (a : AsksToSubscribe c.step) (s : SubscribesInOrder run m before c a.subscribe)
    → (front back : List FilterReply) (r : FilterReply) → s.replies ≡ front ++ r ∷ back → IsGrant r → NoneEquals r back
    → HasOneSubscription run later m w (with_call before c ++ s.acts) c.step.client r.filter (identifier_of a.subscribe)
