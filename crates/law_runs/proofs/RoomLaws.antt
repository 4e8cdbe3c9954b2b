-- When a message with RETAIN is refused for want of room.
use Rattle.std.proofs.Common.{◌≡◌, ◌≢◌, ◌↔◌, ◌⊎◌, inl, inr, ℕ, ◌==◌, ◌&&◌, ◌||◌, not, nat_lt, Bool, true, false, cond, is_some, length, List, [], ◌∷◌, ◌++◌, Option, Some, None, unwrap_or, refl, sym, ap, ◌∙◌, subst, arith}
use Rattle.std.specs.List.{list_any}
use Rattle.std.specs.FinMap as map
use Rattle.std.proofs.lemmas.Bool.{eqb-true, ltb-true, ltb-false}
use Rattle.mqtt_fields.specs.declared.options.Qos.{Qos}
use Rattle.mqtt_message.specs.Parts.{is_name}
use Rattle.mqtt_message.specs.declared.message.Message.{Message}
use Rattle.mqtt_packets.specs.declared.packet.Packet.{Packet}
use Rattle.mqtt_packets.specs.declared.packet.Packet.TheVariants as packets
use Rattle.mqtt_packets.specs.declared.publish.Publish.{Publish}
use Rattle.mqtt_topics.specs.Levels.{is_wildcard}
use Rattle.mqtt_topics.specs.Topics.{IsName}
use Rattle.mqtt_sessions.specs.declared.reaction.Ask.TheVariants.{Pass}
use Rattle.mqtt_sessions.specs.Aliases as aliases
use Rattle.mqtt_sessions.specs.Answers.{puback, pubrec}
use Rattle.mqtt_sessions.specs.Reaction.{Reaction}
use Rattle.mqtt_sessions.specs.State.{Link, State as SessionState, aliases_of, new_session}
use Rattle.law_sessions.specs.Aliases.{topic_under, topics_told}
use Rattle.law_sessions.specs.Replies.{Reply, reaction_of}
use Rattle.law_sessions.specs.Runs.{Step, Reacts, connected_after, takes, Run as SessionRun}
use Rattle.law_sessions.proofs.AliasLaws.{held}
use Rattle.law_sessions.proofs.LiftLaws.{connected_over as lifted_over, whole}
use Rattle.law_sessions.proofs.ReplyLaws.{keeps_unheard, replies_by_link, told-under}
use Rattle.session_table.specs.Seats.{Seat}
use Rattle.replica_store.specs.declared.kept.Kept.{Kept}
use Rattle.replica_store.specs.declared.operation.Operation.{Operation}
use Rattle.replica_store.specs.Operations.{HasKept}
use Rattle.replica_store.specs.States.{State}
use Rattle.replica_store.specs.StateOf.{IsStateOf}
use Rattle.node_work.specs.Acts.{Act}
use Rattle.node_work.specs.Held.Sessions.{aliases_in, aliases_at}
use Rattle.node_work.specs.Passing.{has_room}
use Rattle.node_clients.specs.Serving.{takes_topic}
use Rattle.law_runs.specs.StepPublishing.{AnswersWith}
use Rattle.law_runs.proofs.Acks.{Says, replied}
use Rattle.cluster_play.specs.Worlds.{World}
use Rattle.cluster_play.specs.Runs.{Played}
use Rattle.cluster_play.specs.Histories.{Reached, site, acts_of, operations_amid}
use Rattle.cluster_play.proofs.Lives.{sessions_are_runs_amid}
use Rattle.cluster_play.proofs.Showing.{node_holds_amid}
use Rattle.law_runs.specs.Staying.{CallsSession}
use Rattle.law_runs.specs.Publishing.{TakesPublish, connected_over, events_before}
use Rattle.law_runs.proofs.Staying.{CalledAt, called_at}
use Rattle.law_runs.specs.Rooms.{IsTopicHeld, HoldsTopics, LacksRoomForTopic, HasRoomForTopic, message_taken, topics_open, QuotaIsExact, PassedHasRoom, RoomIsExact}
use Rattle.law_runs.proofs.Quotas.{is_quota, quota_refuses, refused_asks}
use Rattle.law_runs.proofs.Rooming.{room_is_told}

-- ---- a topic name
some_long : (topic : List ℕ) → topic ≢ [] → not (length topic == 0) ≡ true
some_long topic some = by (length topic == 0) refl
  where
    empty : (t : List ℕ) → length t ≡ 0 → t ≡ []
    empty [] e = refl
    empty (b ∷ bs) e = absurd (omega (arith, e))

    by : (b : Bool) → (length topic == 0) ≡ b → not b ≡ true
    by true e = absurd (some (empty topic (eqb-true (length topic) 0 e)))
    by false e = refl

none_wild : (topic : List ℕ) → (list_any is_wildcard topic ≡ true → ⊥) → not (list_any is_wildcard topic) ≡ true
none_wild topic plain = by (list_any is_wildcard topic) refl
  where
    by : (b : Bool) → list_any is_wildcard topic ≡ b → not b ≡ true
    by true e = absurd (plain e)
    by false e = refl

and_both : (a b : Bool) → a ≡ true → b ≡ true → (a && b) ≡ true
and_both true b e h = h
and_both false b e h = cc

name_is : (topic : List ℕ) → IsName topic → is_name topic ≡ true
name_is topic n = and_both (not (length topic == 0)) _ (some_long topic n.some) (none_wild topic n.plain)

takes_name : (topic : List ℕ) (s : State) → IsName topic → takes_topic topic s ≡ has_room topic s
takes_name topic s n = ap (λ b. cond b (has_room topic s) (nat_lt (map.len s.retained) 100000)) (name_is topic n)

-- ---- what a node holds
module _ (O : List Operation) (s : State) (is : IsStateOf O s) where
  held_by : (topic : List ℕ) (x : Option Kept) → HasKept O topic x → (is_some x ≡ true) ↔ IsTopicHeld O topic
  held_by topic None h = ((λ e. absurd (let z : false ≡ true = e in cc)), (λ k. absurd (h k.0 k.1)))
  held_by topic (Some kept) h = ((λ e. (kept, h.put)), (λ k. refl))

  is_held : (topic : List ℕ) → (map.contains_key s.retained topic ≡ true) ↔ IsTopicHeld O topic
  is_held topic = held_by topic (map.get s.retained topic) (is.retained topic)

  holds_topics : HoldsTopics O (map.len s.retained)
  holds_topics = (
    map.entries s.retained,
    record {
      once = map.entries_sorted s.retained;
      each = λ topic. subst (λ x. (is_some x ≡ true) ↔ IsTopicHeld O topic) (map.get-entries s.retained topic) (is_held topic);
    },
    map.len-entries s.retained,
  )

  room_by : (topic : List ℕ) (a b : Bool) → map.contains_key s.retained topic ≡ a → nat_lt (map.len s.retained) 100000 ≡ b → (a || b) ≡ true → HasRoomForTopic O topic
  room_by topic true b e f t = inl ((is_held topic).0 e)
  room_by topic false b e f t = inr (map.len s.retained, holds_topics, ltb-true (map.len s.retained) 100000 (f ∙ t))

  full_by : (topic : List ℕ) (a b : Bool) → map.contains_key s.retained topic ≡ a → nat_lt (map.len s.retained) 100000 ≡ b → (a || b) ≡ false → LacksRoomForTopic O topic
  full_by topic true b e f t = absurd (let z : true ≡ false = t in cc)
  full_by topic false b e f t = (
    (λ k. absurd (let z : true ≡ false = sym ((is_held topic).1 k) ∙ e in cc)),
    (map.len s.retained, holds_topics, ltb-false (map.len s.retained) 100000 (f ∙ t)),
  )

  pub has_room_if : (topic : List ℕ) → has_room topic s ≡ true → HasRoomForTopic O topic
  has_room_if topic t = room_by topic (map.contains_key s.retained topic) (nat_lt (map.len s.retained) 100000) refl refl t

  pub lacks_room_if : (topic : List ℕ) → has_room topic s ≡ false → LacksRoomForTopic O topic
  lacks_room_if topic t = full_by topic (map.contains_key s.retained topic) (nat_lt (map.len s.retained) 100000) refl refl t

-- ---- two tests
retained_and_none : (a b : Bool) → (a && not b) ≡ true → (a ≡ true) × (b ≡ false)
retained_and_none true true e = absurd (let z : false ≡ true = e in cc)
retained_and_none true false e = (refl, refl)
retained_and_none false b e = absurd (let z : false ≡ true = e in cc)

-- ---- in a run
module _ (run later : List Played) (m : Played) (w : World) (r : Reached (run ++ m ∷ later) w) (before : List Act) (c : CallsSession m before) (qos : Qos) (id : ℕ) (t : TakesPublish qos id c.step) (name : IsName (message_taken run m before c t).topic) where
  abbrev here : CalledAt run m before c
  here = called_at run later m w r before c

  abbrev session : SessionState
  session = here.finds.seat.session

  abbrev topic : List ℕ
  topic = (message_taken run m before c t).topic

  abbrev O : List Operation
  O = operations_amid (site m.fate) run before

  state : IsStateOf O here.finds.held.store
  state = (node_holds_amid run here.finds.world here.next m here.finds.reached here.honest here.happens (site m.fate) before here.finds.held here.finds.there).state

  abbrev steps : List Step
  steps = events_before run m before c

  runs : SessionRun (new_session c.step.client) steps session
  runs = sessions_are_runs_amid run here.finds.world m here.finds.reached (site m.fate) before here.finds.held here.finds.there c.step.client here.finds.seat here.finds.found

  reacts : Reacts session (takes (packets.Publish t.publish) c.step.at t.room) c.step.reaction c.step.after
  reacts = subst (λ e. Reacts session e c.step.reaction c.step.after) t.event here.reacts

  -- the topic that the node looks at is the message's
  seen : (l : Link) → session.link ≡ Some l → (aliases.filled (aliases_at c.step.client here.finds.held) t.publish).topic ≡ topic
  seen l e =
      ap (λ (o : Option Seat). (aliases.filled (aliases_in o) t.publish).topic) here.finds.found
      ∙ ap (λ (x : Option (List ℕ)). unwrap_or x []) (told-under c.step.client steps session l t.publish runs e)

  -- the session is told whether there is room for it
  room_is : (l : Link) → session.link ≡ Some l → t.room ≡ has_room topic here.finds.held.store
  room_is l e =
      let there = here.finds.there in
      room_is_told here.event there.holds.site.node.place there.held here.finds.held (acts_of m.fate) here.decides before c.after c.step c.acts there.runs (packets.Publish t.publish) c.step.at t.room t.event
      ∙ ap (λ x. takes_topic x here.finds.held.store) (seen l e) ∙ takes_name topic here.finds.held.store name

  -- ---- Quota exceeded
  quota_by : (q : Packet) → is_quota q ≡ true → AnswersWith q c.step.reaction.packets → (t.publish.retain ≡ true) × LacksRoomForTopic O topic
  quota_by q is g =
      let x = replied session c.step.after (packets.Publish t.publish) c.step.at t.room c.step.reaction q reacts g in
      let parts = retained_and_none t.publish.retain t.room (quota_refuses (held x.link) session t.publish c.step.at t.room q is (subst (Says q) x.is.is x.says_it)) in
      (parts.0, lacks_room_if O here.finds.held.store state topic (sym (room_is x.link x.linked) ∙ parts.1))

  quota : (number : ℕ) → AnswersWith (puback number 151) c.step.reaction.packets ⊎ AnswersWith (pubrec number 151) c.step.reaction.packets → (t.publish.retain ≡ true) × LacksRoomForTopic O topic
  quota number (inl g) = quota_by (puback number 151) refl g
  quota number (inr g) = quota_by (pubrec number 151) refl g

  -- ---- what is passed on
  none_asked : (l : Link) → session.link ≡ Some l → (t.publish.retain && not t.room) ≡ true → c.step.reaction.ask ≡ None
  none_asked l e refused =
      let x = replies_by_link session c.step.after l (packets.Publish t.publish) c.step.at t.room c.step.reaction e reacts in
      ap (λ (v : Reaction). v.ask) x.gives ∙ ap (λ (y : Reply). (reaction_of l.limit y).ask) x.is ∙ refused_asks l.limit (held l) session t.publish c.step.at t.room refused

  passed_by : (x : Message) (o : Option Link) → session.link ≡ o → c.step.reaction.ask ≡ Some (Pass x) → t.publish.retain ≡ true → HasRoomForTopic O topic
  passed_by x None e asks retained =
      absurd (let z : None ≡ Some (Pass x) = sym (ap (λ (v : Reaction). v.ask) (keeps_unheard session c.step.after (packets.Publish t.publish) c.step.at t.room c.step.reaction e reacts).0) ∙ asks in cc)
  passed_by x (Some l) e asks retained = by t.room refl
    where
      by : (b : Bool) → t.room ≡ b → HasRoomForTopic O topic
      by true is = has_room_if O here.finds.held.store state topic (sym (room_is l e) ∙ is)
      by false is = absurd (let z : None ≡ Some (Pass x) = sym (none_asked l e ((λ i. retained i && not (is i)))) ∙ asks in cc)

  passed : (x : Message) → c.step.reaction.ask ≡ Some (Pass x) → t.publish.retain ≡ true → HasRoomForTopic O topic
  passed x asks retained = passed_by x session.link refl asks retained

pub quota_is_exact : QuotaIsExact
quota_is_exact = λ run later m w r before c qos id t name number g. quota run later m w r before c qos id t name number g

pub passed_has_room : PassedHasRoom
passed_has_room = λ run later m w r before c qos id t name x asks retained. passed run later m w r before c qos id t name x asks retained

-- ---- of each PUBLISH, also where nothing is answered
room_exactly : (O : List Operation) (s : State) → IsStateOf O s → (topic : List ℕ) (room : Bool) → has_room topic s ≡ room → cond room (HasRoomForTopic O topic) (LacksRoomForTopic O topic)
room_exactly O s is topic true e = has_room_if O s is topic e
room_exactly O s is topic false e = lacks_room_if O s is topic e

-- whether the connection is open, by the events
same_over : (on : Bool) (steps : List Step) → lifted_over on steps ≡ connected_over on steps
same_over on [] = refl
same_over on (s ∷ ss) = same_over (connected_after on s.event s.reaction) ss

-- without an alias that stands for a topic a PUBLISH has its own
none_under : (topic : List ℕ) (alias : Option ℕ) → aliases.topic_by topic alias [] ≡ topic_under (λ a. None) topic alias
none_under [] None = refl
none_under [] (Some alias) = refl
none_under (b ∷ bs) alias = refl

-- the topic that a session looks at is the one that the packets of its connection told
topic_seen : (client : List ℕ) (steps : List Step) (session : SessionState) (p : Publish) → SessionRun (new_session client) steps session → (o : Option Link) → session.link ≡ o
    → aliases.topic_of (aliases_of session.link) p ≡ topic_under (topics_open steps) p.topic (aliases.alias_of p)
topic_seen client steps session p runs None e =
    let open_is : connected_over false steps ≡ false = sym (same_over false steps) ∙ (whole client steps session runs).connected ∙ ap (λ (o : Option Link). is_some o) e in
    ap (λ (o : Option Link). aliases.topic_of (aliases_of o) p) e ∙ none_under p.topic (aliases.alias_of p) ∙ ap (λ b. topic_under (cond b (topics_told steps) (λ a. None)) p.topic (aliases.alias_of p)) (sym open_is)
topic_seen client steps session p runs (Some l) e =
    let open_is : connected_over false steps ≡ true = sym (same_over false steps) ∙ (whole client steps session runs).connected ∙ ap (λ (o : Option Link). is_some o) e in
    told-under client steps session l p runs e ∙ ap (λ b. topic_under (cond b (topics_told steps) (λ a. None)) p.topic (aliases.alias_of p)) (sym open_is)

pub room_is_exact : RoomIsExact
room_is_exact = λ run later m w r before c publish now room event topic under name.
    let here = called_at run later m w r before c in
    let there = here.finds.there in
    let held = here.finds.held in
    let O = operations_amid (site m.fate) run before in
    let steps = events_before run m before c in
    let session = here.finds.seat.session in
    let state : IsStateOf O held.store = (node_holds_amid run here.finds.world here.next m here.finds.reached here.honest here.happens (site m.fate) before held there).state in
    let runs : SessionRun (new_session c.step.client) steps session = sessions_are_runs_amid run here.finds.world m here.finds.reached (site m.fate) before held there c.step.client here.finds.seat here.finds.found in
    let seen : (aliases.filled (aliases_at c.step.client held) publish).topic ≡ topic =
    ap (λ (o : Option Seat). (aliases.filled (aliases_in o) publish).topic) here.finds.found ∙ ap (λ (x : Option (List ℕ)). unwrap_or x []) (topic_seen c.step.client steps session publish runs session.link refl ∙ under) in
    let told = room_is_told here.event there.holds.site.node.place there.held held (acts_of m.fate) here.decides before c.after c.step c.acts there.runs (packets.Publish publish) now room event in
    let is : room ≡ has_room topic held.store = told ∙ ap (λ t. takes_topic t held.store) seen ∙ takes_name topic held.store name in
    room_exactly O held.store state topic room (sym is)
