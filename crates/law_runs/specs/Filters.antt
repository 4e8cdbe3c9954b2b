-- What each filter of a SUBSCRIBE is answered, by the operations that its node has taken (MQTT 5.0, 3.8.3.1, 3.8.4 and 3.9.3).
use Rattle.std.specs.Prelude.{◌≡◌, ◌↔◌, ◌⊎◌, ℕ, ◌<◌, ◌≤◌, Bool, true, false, length, List, [], ◌∷◌, ◌++◌, Some}
use Rattle.std.specs.List.{filter}
use Rattle.causal_context.specs.Dots.{Dot, Dots, dot_cmp}
use Rattle.mqtt_fields.specs.Options.{qos_of, retain_handling_of}
use Rattle.mqtt_packets.specs.declared.subscribe.SubscribeFilter.{SubscribeFilter}
use Rattle.mqtt_topics.specs.Topics.{IsFilter}
use Rattle.subscription_set.specs.declared.entry.Entry.{Entry}
use Rattle.subscription_set.specs.Entries.{same_text}
use Rattle.subscription_set.specs.Sorted.{Rises}
use Rattle.subscription_set.specs.Standing.{Entries, find_entry}
use Rattle.replica_store.specs.declared.operation.Operation.{Operation}
use Rattle.replica_store.specs.declared.operation.Operation.TheVariants as operations
use Rattle.replica_store.specs.Operations.{Stands, IsLive}
use Rattle.node_work.specs.Acts.{Act, Store, Made}
use Rattle.node_clients.specs.Subscribing.{subscription_entry}
use Rattle.cluster_play.specs.Runs.{Played}
use Rattle.cluster_play.specs.Histories.{site, operations_amid}

-- a subscription of the client to the filter stands
abbrev pub IsSubscribedTo : List Operation → List ℕ → List ℕ → Type 0
IsSubscribedTo O client filter = (dot : Dot) × (entry : Entry) × Stands O dot entry × (entry.client ≡ client) × (entry.filter ≡ filter)

-- all that is live, each subscription once, under its dot
pub record AreAllLive (O : List Operation) (all : Entries) : Type 0 where
  pub once : Rises dot_cmp all
  pub each : (dot : Dot) (entry : Entry) → (find_entry dot all ≡ Some entry) ↔ IsLive O dot entry

-- so many subscriptions of the client are live
abbrev pub HasLive : List Operation → List ℕ → ℕ → Type 0
HasLive O client count = (all : Entries) × AreAllLive O all × (count ≡ length (filter (λ x. same_text client x.1.client) all))

-- a new subscription, where the client has 1,000
abbrev pub IsOneTooMany : List Operation → List ℕ → List ℕ → Type 0
IsOneTooMany O client filter = (¬ IsSubscribedTo O client filter) × ((count : ℕ) × HasLive O client count × (1000 ≤ count))

-- one that stands, or where the client has fewer
abbrev pub IsNotTooMany : List Operation → List ℕ → List ℕ → Type 0
IsNotTooMany O client filter = IsSubscribedTo O client filter ⊎ ((count : ℕ) × HasLive O client count × (count < 1000))

-- no retained messages are asked for: by Retain Handling 2, or by 1 where the subscription stands already (3.8.3.1)
abbrev pub AsksForNone : List Operation → List ℕ → SubscribeFilter → Type 0
AsksForNone O client f = (retain_handling_of f.options ≡ 2) ⊎ ((retain_handling_of f.options ≡ 1) × IsSubscribedTo O client f.filter)

-- what becomes of a filter: its Reason Code, and whether the retained messages that match it are asked for
pub record FilterReply : Type 0 where
  pub filter : SubscribeFilter
  pub code : ℕ
  pub asks : Bool

-- it is refused with a code, and nothing is done
abbrev pub IsFilterRefused : ℕ → FilterReply → List Act → Type 0
IsFilterRefused code r acts = (r.code ≡ code) × (r.asks ≡ false) × (acts ≡ [])

-- it is granted with its QoS, by one Subscribe
abbrev pub IsFilterGranted : List Operation → List ℕ → ℕ → SubscribeFilter → FilterReply → List Act → Type 0
IsFilterGranted O client identifier f r acts =
    (r.code ≡ qos_of f.options)
    × (((r.asks ≡ false) × AsksForNone O client f) ⊎ ((r.asks ≡ true) × (¬ AsksForNone O client f)))
    × ((dot : Dot) × (cover : Dots) × (version : ℕ) × (acts ≡ Store (Made (operations.Subscribe dot (subscription_entry client f identifier version) cover)) ∷ []))

-- Topic Filter invalid for a text that isn't a filter; Quota exceeded for a new subscription too many; else it is granted
abbrev pub IsFilterAnswered : List Operation → List ℕ → ℕ → SubscribeFilter → FilterReply → List Act → Type 0
IsFilterAnswered O client identifier f r acts =
    ((¬ IsFilter f.filter) × IsFilterRefused 143 r acts)
    ⊎ (IsFilter f.filter × IsOneTooMany O client f.filter × IsFilterRefused 151 r acts)
    ⊎ (IsFilter f.filter × IsNotTooMany O client f.filter × IsFilterGranted O client identifier f r acts)

-- each filter in order, by what the node has taken when it comes to it, after these of its acts
abbrev pub AreFiltersAnswered : List Played → Played → List Act → List ℕ → ℕ → List SubscribeFilter → List FilterReply → List Act → Type 0
AreFiltersAnswered run m first client identifier [] replies acts = (replies ≡ []) × (acts ≡ [])
AreFiltersAnswered run m first client identifier (f ∷ fs) replies acts =
    (r : FilterReply) × (others : List FilterReply) × (own : List Act) × (rest : List Act) × (replies ≡ r ∷ others) × (r.filter ≡ f) × (acts ≡ own ++ rest)
    × IsFilterAnswered (operations_amid (site m.fate) run first) client identifier f r own
    × AreFiltersAnswered run m (first ++ own) client identifier fs others rest
