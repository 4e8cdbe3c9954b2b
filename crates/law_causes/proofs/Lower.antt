-- What holds of work that makes operations, by what holds of each of them.
use Rattle.std.proofs.Common.{ℕ, ◌&&◌, not, Bool, cond, List, [], ◌∷◌, ◌++◌, Option, Some, None}
use Rattle.mqtt_message.specs.declared.message.Message.{Message}
use Rattle.mqtt_message.specs.Identifiers.{identifiers_of}
use Rattle.mqtt_packets.specs.declared.packet.Packet.{Packet}
use Rattle.mqtt_packets.specs.declared.packet.Packet.TheVariants as packets
use Rattle.mqtt_packets.specs.declared.subscribe.Subscribe.{Subscribe}
use Rattle.mqtt_packets.specs.declared.subscribe.SubscribeFilter.{SubscribeFilter}
use Rattle.mqtt_packets.specs.declared.unsubscribe.Unsubscribe.{Unsubscribe}
use Rattle.mqtt_topics.specs.Topics.{IsFilter}
use Rattle.mqtt_sessions.specs.declared.reaction.Ask.{Ask}
use Rattle.mqtt_sessions.specs.declared.reaction.Ask.TheVariants as asks
use Rattle.mqtt_sessions.specs.Reaction.{Reaction}
use Rattle.replica_store.specs.declared.content.Content.{Content}
use Rattle.subscription_set.specs.declared.entry.Entry.{Entry}
use Rattle.law_sessions.specs.Runs.{takes, ticks, finishes}
use Rattle.session_table.specs.Calls.{stays}
use Rattle.node_work.specs.declared.granted.Granted.{Granted}
use Rattle.node_work.specs.Calling.{Calls}
use Rattle.node_work.specs.Doings.{MakesPut, MakesSubscribe, Removes}
use Rattle.node_work.specs.Passing.{content_given}
use Rattle.node_work.specs.Working.{Doing, Returns, Looks, If, Then, InTurn}
use Rattle.node_clients.specs.Ending as ending
use Rattle.node_clients.specs.Passing as passing
use Rattle.node_clients.specs.Serving as serving
use Rattle.node_clients.specs.Subscribing as subscribing
use Rattle.node_clients.specs.Unsubscribing as unsubscribing
use Rattle.broker_node.specs.Turns as turns
use Rattle.law_causes.proofs.Walk.{Walks, drops, closes_after, acknowledges, unacknowledges}

-- what holds of one operation, of a session's end, and of the copies of a message
pub record Makes (K : (A : Type 0) → (Option A → Doing) → Type 0) : Type 0 where
  pub put : (content : Content) → K (Unit {0}) (MakesPut content)
  pub subscribe : (entry : Entry) → K (Unit {0}) (MakesSubscribe entry)
  pub remove : (client : List ℕ) (to : Option (List ℕ)) → K Bool (Removes client to)
  pub end : (client : List ℕ) → K (Unit {0}) (ending.EndsSession client)
  pub copied : (m : Message) → K (Unit {0}) (Looks (λ p h. h.at) (passing.CopiesAt m))

module _ (K : (A : Type 0) → (Option A → Doing) → Type 0) (w : Walks K) (makes : Makes K) where
  abbrev Does : (Option (Unit {0}) → Doing) → Type 0
  Does P = K (Unit {0}) P

  in_turn : {A B : Type 0} (One : A → Option B → Doing) (xs : List A) (given : List B) → ((x : A) → K B (One x)) → K (List B) (InTurn One xs given)
  in_turn One [] given f = w.returns given
  in_turn One (x ∷ xs) given f = w.join (One x) (λ y. InTurn One xs (given ++ y ∷ [])) (f x) (λ y. in_turn One xs (given ++ y ∷ []) f)

  -- ---- a message that is passed on
  retains : (m : Message) → Does (passing.Retains m)
  retains m = w.by_test m.retain (MakesPut (content_given m)) (Returns tt) (makes.put (content_given m)) (w.returns tt)

  passes : (m : Message) → Does (passing.Passes m)
  passes m = w.join (passing.Retains m) (λ _. Looks (λ p h. h.at) (passing.CopiesAt m)) (retains m) (λ _. makes.copied m)

  passes_will : (m : Message) → Does (passing.PassesWill m)
  passes_will m =
      w.looks (λ p h. passing.lacks_room m h) (λ lacks. If lacks passing.Drops (passing.Passes m))
      (λ lacks. w.by_test lacks passing.Drops (passing.Passes m) (drops K w) (passes m))

  passes_asked : (ask : Option Ask) → Does (ending.PassesAsked ask)
  passes_asked None = w.returns tt
  passes_asked (Some (asks.Pass m)) = passes_will m
  passes_asked (Some asks.Subscribe) = w.returns tt
  passes_asked (Some asks.Unsubscribe) = w.returns tt

  -- ---- a session's end
  follows : (client : List ℕ) (r : Reaction) → Does (ending.FollowsReaction client r)
  follows client r =
      w.join (ending.PassesAsked r.ask) (λ _. If r.over (ending.EndsSession client) (Returns tt)) (passes_asked r.ask)
      (λ _. w.by_test r.over (ending.EndsSession client) (Returns tt) (makes.end client) (w.returns tt))

  pub ticks_of : (client : List ℕ) → Does (ending.Ticks client)
  ticks_of client = w.join (Calls client ticks stays) (ending.FollowsReaction client) (w.calls client ticks stays) (follows client)

  pub finishes_of : (client : List ℕ) → Does (ending.Finishes client)
  finishes_of client = w.join (Calls client finishes stays) (ending.FollowsReaction client) (w.calls client finishes stays) (follows client)

  -- ---- SUBSCRIBE and UNSUBSCRIBE
  grants_by : (client : List ℕ) (identifier : ℕ) (f : SubscribeFilter) (stood : Bool) → K Granted (subscribing.GrantsBy client identifier f stood)
  grants_by client identifier f stood =
      let full = Returns (subscribing.filter_refused 151) in
      let given = subscribing.granted f (identifiers_of identifier) stood in
      let One = subscribing.SubscribesTo client identifier f in
      let one = w.looks (λ p h. h.homes.version) (λ version. MakesSubscribe (subscribing.subscription_entry client f identifier version)) (λ version. makes.subscribe (subscribing.subscription_entry client f identifier version)) in
      w.looks (λ p h. not stood && subscribing.has_most client h.store) (λ is. If is full (Then One (λ _. Returns given)))
      (λ is. w.by_test is full (Then One (λ _. Returns given)) (w.returns (subscribing.filter_refused 151)) (w.join One (λ _. Returns given) one (λ _. w.returns given)))

  grants : (client : List ℕ) (identifier : ℕ) (f : SubscribeFilter) → K Granted (subscribing.Grants client identifier f)
  grants client identifier f =
      w.by_whether (IsFilter f.filter) (Looks (λ p h. subscribing.stands client f.filter h) (subscribing.GrantsBy client identifier f)) (Returns (subscribing.filter_refused 143))
      (w.looks (λ p h. subscribing.stands client f.filter h) (subscribing.GrantsBy client identifier f) (grants_by client identifier f)) (w.returns (subscribing.filter_refused 143))

  subscribes : (c : ℕ) (client : List ℕ) (q : Subscribe) → Does (subscribing.ServesSubscribe c client q)
  subscribes c client q =
      w.join (InTurn (subscribing.Grants client (subscribing.identifier_of q)) q.filters []) (subscribing.SendsSuback c client q.identifier)
      (in_turn (subscribing.Grants client (subscribing.identifier_of q)) q.filters [] (grants client (subscribing.identifier_of q))) (acknowledges K w ticks_of c client q.identifier)

  unsubscribed : (client text : List ℕ) → K ℕ (unsubscribing.Unsubscribed client text)
  unsubscribed client text =
      w.by_whether (IsFilter text) (Then (Removes client (Some text)) (λ stood. Returns (cond stood 0 17))) (Returns 143)
      (w.join (Removes client (Some text)) (λ stood. Returns (cond stood 0 17)) (makes.remove client (Some text)) (λ stood. w.returns (cond stood 0 17))) (w.returns 143)

  unsubscribes : (c : ℕ) (client : List ℕ) (u : Unsubscribe) → Does (unsubscribing.ServesUnsubscribe c client u)
  unsubscribes c client u =
      w.join (InTurn (unsubscribing.Unsubscribed client) u.filters []) (unsubscribing.SendsUnsuback c client u.identifier)
      (in_turn (unsubscribing.Unsubscribed client) u.filters [] (unsubscribed client)) (unacknowledges K w ticks_of c client u.identifier)

  subscribes_by : (c : ℕ) (client : List ℕ) (k : Packet) → Does (serving.SubscribesBy c client k)
  subscribes_by c client (packets.Subscribe q) = subscribes c client q
  subscribes_by c client _ = w.returns tt

  unsubscribes_by : (c : ℕ) (client : List ℕ) (k : Packet) → Does (serving.UnsubscribesBy c client k)
  unsubscribes_by c client (packets.Unsubscribe u) = unsubscribes c client u
  unsubscribes_by c client _ = w.returns tt

  -- ---- a packet of an accepted client
  does_asked : (ask : Option Ask) (c : ℕ) (client : List ℕ) (k : Packet) (room : Bool) (end : Option ℕ) → Does (serving.DoesAsked ask c client k room end)
  does_asked None c client k room end = w.by_test (serving.is_dropped k room end) passing.Drops (Returns tt) (drops K w) (w.returns tt)
  does_asked (Some (asks.Pass m)) c client k room end = passes m
  does_asked (Some asks.Subscribe) c client k room end = subscribes_by c client k
  does_asked (Some asks.Unsubscribe) c client k room end = unsubscribes_by c client k

  does_reaction : (c : ℕ) (client : List ℕ) (k : Packet) (room : Bool) (r : Reaction) → Does (serving.DoesReaction c client k room r)
  does_reaction c client k room r =
      w.join (serving.DoesAsked r.ask c client k room r.end) (λ _. ending.ClosesAfter r.end c client) (does_asked r.ask c client k room r.end) (λ _. closes_after K w ticks_of r.end c client)

  pub serves : (c : ℕ) (client : List ℕ) (k : Packet) → Does (serving.ServesPacket c client k)
  serves c client k =
      w.looks (λ place h. serving.room_for client k h) (serving.ServesIn c client k)
      (λ room. w.join (Calls client (λ at. takes k at room) stays) (serving.DoesReaction c client k room) (w.calls client (λ at. takes k at room) stays) (does_reaction c client k room))

  pub evicts : (client : List ℕ) → Does (turns.Evicts client)
  evicts client = w.join (Removes client None) (λ _. Returns tt) (makes.remove client None) (λ _. w.returns tt)
