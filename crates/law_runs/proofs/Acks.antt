-- What PUBACK 0x00 and PUBREC 0x00 tell.
use Rattle.std.proofs.Common.{◌≡◌, ◌⊎◌, inl, inr, ℕ, nat_lt, ◌==◌, ◌&&◌, not, Bool, true, false, cond, is_some, length, replicate, List, [], ◌∷◌, ◌++◌, Option, Some, None, unwrap_or, refl, sym, ap, ◌∙◌, subst}
use Rattle.std.proofs.lemmas.List.{append-nil}
use Rattle.std.specs.List.{AllByRecursion, list_any}
use Rattle.mqtt_fields.specs.declared.options.Qos.{Qos}
use Rattle.mqtt_fields.specs.declared.options.Qos.TheVariants.{AtMostOnce, AtLeastOnce, ExactlyOnce}
use Rattle.mqtt_packets.specs.declared.packet.Packet.{Packet}
use Rattle.mqtt_packets.specs.declared.packet.Packet.TheVariants as packets
use Rattle.mqtt_packets.specs.declared.publish.Publish.{Publish}
use Rattle.mqtt_topics.specs.Levels.{is_wildcard}
use Rattle.mqtt_message.specs.declared.message.Message.{Message}
use Rattle.mqtt_message.specs.Accepted.{accepted}
use Rattle.qos_handshakes.specs.declared.copies.Entry.{Entry}
use Rattle.qos_handshakes.specs.Entries.{find_id}
use Rattle.qos_handshakes.specs.Incoming.{Received, opened}
use Rattle.qos_handshakes.specs.Outbox.{Sent, is_released, takes_pubrec}
use Rattle.mqtt_sessions.specs.declared.link.Asked.{Asked}
use Rattle.mqtt_sessions.specs.declared.link.Asked.TheVariants.{Subscribing, Unsubscribing}
use Rattle.mqtt_sessions.specs.declared.reaction.Ask.{Ask}
use Rattle.mqtt_sessions.specs.declared.reaction.Ask.TheVariants as server
use Rattle.mqtt_sessions.specs.declared.reaction.Output.{Output}
use Rattle.mqtt_sessions.specs.declared.reaction.Output.TheVariants.{Answer}
use Rattle.mqtt_sessions.specs.Answers.{puback, pubrec, pubrel, suback, unsuback, connack, fits}
use Rattle.mqtt_sessions.specs.Aliases.{alias_of, topic_of}
use Rattle.mqtt_sessions.specs.Arriving.{has_property, message_in}
use Rattle.mqtt_sessions.specs.Connecting.{OpensIf}
use Rattle.mqtt_sessions.specs.Asking.{answer_on}
use Rattle.mqtt_sessions.specs.Reaction.{Reaction, Comes, publishes_of, pubrels_of}
use Rattle.mqtt_sessions.specs.State.{Link, State, aliases_of, limit_in}
use Rattle.mqtt_packets.specs.declared.connect.Connect.{Connect}
use Rattle.law_sessions.specs.Replies.{Reply, silent, says, asks, both, ends, leaves, reaction_of, is_invalid, reply_at, reply_under, reply_publish, reply_exactly_once, reply_pubrec, reply_known, reply_unknown, reply_request, reply_codes, reply_disconnect, has_hundred, IsReply, IsReplied, then_sends}
use Rattle.law_sessions.specs.Runs.{Event, connects, rooms, queues, takes, answers, closes, ticks, finishes, loses, Reacts}
use Rattle.law_sessions.specs.Silence.{IsPublish}
use Rattle.law_sessions.proofs.ElseLaws.{keeps_nothing_else}
use Rattle.law_sessions.specs.Aliases.{Topics, topic_under}
use Rattle.law_sessions.proofs.AliasLaws.{held}
use Rattle.law_sessions.proofs.ReplyLaws.{replies_by_link, under-is, keeps_unheard, keeps_codes}
use Rattle.law_runs.specs.StepPublishing.{AnswersWith, Publishes, PubackTells, PubrecTells, message_at}

-- ---- packets

abbrev is_ack : Packet → Bool
is_ack (packets.Puback a) = true
is_ack (packets.Pubrec a) = true
is_ack _ = false

-- an answer to a packet of the client, but for PUBREL and PUBCOMP
abbrev pub is_answer : Packet → Bool
is_answer (packets.Puback a) = true
is_answer (packets.Pubrec a) = true
is_answer (packets.Suback a) = true
is_answer (packets.Unsuback a) = true
is_answer _ = false

abbrev is_puback : Packet → Bool
is_puback (packets.Puback a) = true
is_puback _ = false

abbrev is_pubrec : Packet → Bool
is_pubrec (packets.Pubrec a) = true
is_pubrec _ = false

abbrev reason_in : Packet → ℕ
reason_in (packets.Puback a) = a.reason
reason_in (packets.Pubrec a) = a.reason
reason_in _ = 0

abbrev identifier_in : Packet → ℕ
identifier_in (packets.Puback a) = a.identifier
identifier_in (packets.Pubrec a) = a.identifier
identifier_in _ = 0

pub true_is_not_false : {X : Type 0} → true ≡ false → X
true_is_not_false e = absurd (let z = e in cc)

-- ---- outputs that aren't one
pub none_sent : (p : Packet) (ss : List Sent) → AnswersWith p (publishes_of ss) → ⊥
none_sent p [] g = g
none_sent p (s ∷ ss) (inl e) = cc e
none_sent p (s ∷ ss) (inr g) = none_sent p ss g

pub none_published : (p : Packet) (os : List Output) → AllByRecursion IsPublish os → AnswersWith p os → ⊥
none_published p [] all g = g
none_published p (o ∷ os) all (inl e) = subst IsPublish e all.0
none_published p (o ∷ os) all (inr g) = none_published p os all.1 g

none_released : (p : Packet) (ids : List ℕ) (rest : List Output) → is_answer p ≡ true → (AnswersWith p rest → ⊥) → AnswersWith p (pubrels_of ids ++ rest) → ⊥
none_released p [] rest ack lacks g = lacks g
none_released p (id ∷ ids) rest ack lacks (inl e) = (let same : pubrel id 0 ≡ p = cc e in true_is_not_false (sym ack ∙ ap is_answer (sym same)))
none_released p (id ∷ ids) rest ack lacks (inr g) = none_released p ids rest ack lacks g

-- ---- replies

-- the packet of a reply
abbrev pub Says : Packet → Reply → Type 0
Says p silent = ⊥
Says p (says q) = q ≡ p
Says p (asks a) = ⊥
Says p (both q a) = q ≡ p
Says p (ends code) = ⊥
Says p leaves = ⊥

-- of a kind
abbrev pub tells : (Packet → Bool) → Reply → Bool
tells f silent = false
tells f (says q) = f q
tells f (asks a) = false
tells f (both q a) = f q
tells f (ends code) = false
tells f leaves = false

pub said : (f : Packet → Bool) (p : Packet) (x : Reply) → Says p x → tells f x ≡ f p
said f p silent s = absurd s
said f p (says q) s = ap f s
said f p (asks a) s = absurd s
said f p (both q a) s = ap f s
said f p (ends code) s = absurd s
said f p leaves s = absurd s

if_given : (b : Bool) (q p : Packet) (x y : Reaction) (rest : List Output) → x.packets ≡ Answer q ∷ [] → y.packets ≡ [] → (AnswersWith p rest → ⊥) → AnswersWith p ((cond b x y).packets ++ rest) → q ≡ p
if_given true q p x y rest e f lacks g = one (subst (λ os. AnswersWith p (os ++ rest)) e g)
  where
    one : AnswersWith p (Answer q ∷ rest) → q ≡ p
    one (inl same) = cc same
    one (inr more) = absurd (lacks more)
if_given false q p x y rest e f lacks g = absurd (lacks (subst (λ os. AnswersWith p (os ++ rest)) f g))

pub given_by : (limit : ℕ) (x : Reply) (p : Packet) (rest : List Output) → (AnswersWith p rest → ⊥) → AnswersWith p ((reaction_of limit x).packets ++ rest) → Says p x
given_by limit silent p rest lacks g = lacks g
given_by limit (says q) p rest lacks g = if_given (fits limit q) q p _ _ rest refl refl lacks g
given_by limit (asks a) p rest lacks g = lacks g
given_by limit (both q a) p rest lacks g = if_given (fits limit q) q p _ _ rest refl refl lacks g
given_by limit (ends code) p rest lacks g = lacks g
given_by limit leaves p rest lacks g = lacks g

-- the reply to a packet that comes, where its reaction gives one out
pub record Replied (p : Packet) (k : Packet) (now : ℕ) (room : Bool) (old : State) (r : Reaction) : Type 0 where
  pub link : Link
  pub linked : old.link ≡ Some link
  pub is : IsReplied (held link) link.limit k now room old r
  pub says_it : Says p is.reply

pub replied : (old new : State) (k : Packet) (now : ℕ) (room : Bool) (r : Reaction) (p : Packet) → Reacts old (takes k now room) r new → AnswersWith p r.packets → Replied p k now room old r
replied old new k now room r p h g = by old.link refl
  where
    by : (o : Option Link) → old.link ≡ o → Replied p k now room old r
    by None e = absurd (subst (λ (x : Reaction). AnswersWith p x.packets) (keeps_unheard old new k now room r e h).0 g)
    by (Some l) e =
        let x = replies_by_link old new l k now room r e h in
        record { link = l; linked = e; is = x; says_it = given_by l.limit x.reply p (publishes_of x.sents) (none_sent p x.sents) (subst (λ (y : Reaction). AnswersWith p y.packets) x.gives g) }

-- ---- replies that say neither
pub cond_false : (f : Packet → Bool) (b : Bool) (x y : Reply) → tells f x ≡ false → tells f y ≡ false → tells f (cond b x y) ≡ false
cond_false f true x y e g = e
cond_false f false x y e g = g

unknown_false : (id reason : ℕ) → tells is_ack (reply_unknown id reason) ≡ false
unknown_false id reason = cond_false is_ack (nat_lt reason 128) (says (pubrel id 146)) silent refl refl

known_false : (id reason : ℕ) → tells is_ack (reply_known id reason) ≡ false
known_false id reason = cond_false is_ack (nat_lt reason 128) (says (pubrel id 0)) silent refl refl

pubrec_false : (o : Option Entry) (id reason : ℕ) → tells is_ack (reply_pubrec o id reason) ≡ false
pubrec_false None id reason = unknown_false id reason
pubrec_false (Some x) id reason =
    let rest = cond (takes_pubrec x.delivery.qos x.stage) (reply_known id reason) (reply_unknown id reason) in
    cond_false is_ack (is_released x.stage) (says (pubrel id 0)) rest refl
    (cond_false is_ack (takes_pubrec x.delivery.qos x.stage) (reply_known id reason) (reply_unknown id reason) (known_false id reason) (unknown_false id reason))

pub request_false : (r : Received) (id : ℕ) (p : Packet) (ask : Ask) → is_ack p ≡ false → tells is_ack (reply_request r id p ask) ≡ false
request_false r id p ask bare = cond_false is_ack (is_some (opened id r)) (says p) (asks ask) bare refl

pub left_false : (o : Option ℕ) (expiry : ℕ) → tells is_ack (reply_disconnect o expiry) ≡ false
left_false None expiry = refl
left_false (Some n) expiry = cond_false is_ack ((expiry == 0) && not (n == 0)) (ends 130) leaves refl refl

-- a packet that has one is a PUBLISH
abbrev IsPublished : Packet → Reply → Type 0
IsPublished k x = ((p : Publish) × (k ≡ packets.Publish p)) ⊎ (tells is_ack x ≡ false)

is_published : (told : Topics) (k : Packet) (now : ℕ) (room : Bool) (s : State) (x : Reply) → IsReply told k now room s x → IsPublished k x
is_published told (packets.Publish p) now room s x e = inl (p, refl)
is_published told (packets.Puback a) now room s x e = inr (ap (tells is_ack) e)
is_published told (packets.Pubrec a) now room s x e = inr (ap (tells is_ack) e ∙ pubrec_false (find_id a.identifier s.outbox.copies) a.identifier a.reason)
is_published told (packets.Pubrel a) now room s x e = inr (ap (tells is_ack) e)
is_published told (packets.Pubcomp a) now room s x e = inr (ap (tells is_ack) e)
is_published told (packets.Subscribe p) now room s x (inl e) = inr (ap (tells is_ack) e.1)
is_published told (packets.Subscribe p) now room s x (inr e) = inr (ap (tells is_ack) e.1 ∙ request_false s.incoming p.identifier (suback p.identifier (replicate (length p.filters) 145)) server.Subscribe refl)
is_published told (packets.Unsubscribe p) now room s x e = inr (ap (tells is_ack) e ∙ request_false s.incoming p.identifier (unsuback p.identifier (replicate (length p.filters) 145)) server.Unsubscribe refl)
is_published told packets.Pingreq now room s x e = inr (ap (tells is_ack) e)
is_published told (packets.Disconnect p) now room s x e = inr (ap (tells is_ack) e ∙ left_false _ s.kept.expiry)
is_published told (packets.Connect p) now room s x e = inr (ap (tells is_ack) e)
is_published told (packets.Connack p) now room s x e = inr (ap (tells is_ack) e)
is_published told (packets.Suback p) now room s x e = inr (ap (tells is_ack) e)
is_published told (packets.Unsuback p) now room s x e = inr (ap (tells is_ack) e)
is_published told packets.Pingresp now room s x e = inr (ap (tells is_ack) e)
is_published told (packets.Auth p) now room s x e = inr (ap (tells is_ack) e)

-- ---- the reply to a PUBLISH

-- a reply that asks the node to pass the message on, too
abbrev Passes : Packet → Message → Reply → Type 0
Passes p m x = x ≡ both p (server.Pass m)

once_at : (full is refused : Bool) (n id : ℕ) (m : Message) (x : Reply) → x ≡ cond full (ends 147) (cond is (says (puback n 145)) (cond refused (says (puback n 151)) (both (puback n 0) (server.Pass m))))
    → Says (puback id 0) x → (n ≡ id) × Passes (puback n 0) m x
once_at true is refused n id m x e s = absurd (subst (Says (puback id 0)) e s)
once_at false true refused n id m x e s = absurd (let z : 145 ≡ 0 = ap reason_in (subst (Says (puback id 0)) e s) in cc)
once_at false false true n id m x e s = absurd (let z : 151 ≡ 0 = ap reason_in (subst (Says (puback id 0)) e s) in cc)
once_at false false false n id m x e s = (ap identifier_in (subst (Says (puback id 0)) e s), e)

again_at : (full : Bool) (n id : ℕ) → Says (pubrec id 0) (cond full (ends 147) (says (pubrec n 0))) → n ≡ id
again_at true n id s = absurd s
again_at false n id s = ap identifier_in s

first_at : (full refused : Bool) (n id : ℕ) (m : Message) (x : Reply) → x ≡ cond full (ends 147) (cond refused (says (pubrec n 151)) (both (pubrec n 0) (server.Pass m)))
    → Says (pubrec id 0) x → (n ≡ id) × Passes (pubrec n 0) m x
first_at true refused n id m x e s = absurd (subst (Says (pubrec id 0)) e s)
first_at false true n id m x e s = absurd (let z : 151 ≡ 0 = ap reason_in (subst (Says (pubrec id 0)) e s) in cc)
first_at false false n id m x e s = (ap identifier_in (subst (Says (pubrec id 0)) e s), e)

twice_at : (o : Option Bool) (r : Received) (refused : Bool) (n id : ℕ) (m : Message) (x : Reply) → x ≡ reply_exactly_once o r n refused m → Says (pubrec id 0) x → (n ≡ id) × ((is_some o ≡ true) ⊎ Passes (pubrec n 0) m x)
twice_at (Some true) r refused n id m x e s = (ap identifier_in (subst (Says (pubrec id 0)) e s), inl refl)
twice_at (Some false) r refused n id m x e s = (again_at (has_hundred r) n id (subst (Says (pubrec id 0)) e s), inl refl)
twice_at None r refused n id m x e s = (let t = first_at (has_hundred r) refused n id m x e s in (t.0, inr t.1))

twice_false : (o : Option Bool) (r : Received) (refused : Bool) (n : ℕ) (m : Message) → tells is_puback (reply_exactly_once o r n refused m) ≡ false
twice_false (Some true) r refused n m = refl
twice_false (Some false) r refused n m = cond_false is_puback (has_hundred r) (ends 147) (says (pubrec n 0)) refl refl
twice_false None r refused n m =
    let passes = both (pubrec n 0) (server.Pass m) in
    cond_false is_puback (has_hundred r) (ends 147) (cond refused (says (pubrec n 151)) passes) refl (cond_false is_puback refused (says (pubrec n 151)) passes refl refl)

-- by QoS
once_by : (q : Qos) (r : Received) (n id : ℕ) (refused : Bool) (m : Message) (x : Reply) → x ≡ reply_at q r n refused m → Says (puback id 0) x → (q ≡ AtLeastOnce) × (n ≡ id) × Passes (puback n 0) m x
once_by AtMostOnce r n id refused m x e s = true_is_not_false (sym (said is_ack _ x s) ∙ ap (tells is_ack) e ∙ cond_false is_ack refused silent (asks (server.Pass m)) refl refl)
once_by AtLeastOnce r n id refused m x e s = (let t = once_at (has_hundred r) (is_some (opened n r)) refused n id m x e s in (refl, t.0, t.1))
once_by ExactlyOnce r n id refused m x e s = true_is_not_false (sym (said is_puback _ x s) ∙ ap (tells is_puback) e ∙ twice_false (opened n r) r refused n m)

once_false : (r : Received) (n : ℕ) (refused : Bool) (m : Message) → tells is_pubrec (reply_at AtLeastOnce r n refused m) ≡ false
once_false r n refused m =
    let last = cond refused (says (puback n 151)) (both (puback n 0) (server.Pass m)) in
    let open_too = cond (is_some (opened n r)) (says (puback n 145)) last in
    cond_false is_pubrec (has_hundred r) (ends 147) open_too refl
    (cond_false is_pubrec (is_some (opened n r)) (says (puback n 145)) last refl (cond_false is_pubrec refused (says (puback n 151)) (both (puback n 0) (server.Pass m)) refl refl))

twice_by : (q : Qos) (r : Received) (n id : ℕ) (refused : Bool) (m : Message) (x : Reply) → x ≡ reply_at q r n refused m → Says (pubrec id 0) x → (q ≡ ExactlyOnce) × (n ≡ id) × ((is_some (opened n r) ≡ true) ⊎ Passes (pubrec n 0) m x)
twice_by AtMostOnce r n id refused m x e s = true_is_not_false (sym (said is_ack _ x s) ∙ ap (tells is_ack) e ∙ cond_false is_ack refused silent (asks (server.Pass m)) refl refl)
twice_by AtLeastOnce r n id refused m x e s = true_is_not_false (sym (said is_pubrec _ x s) ∙ ap (tells is_pubrec) e ∙ once_false r n refused m)
twice_by ExactlyOnce r n id refused m x e s = (let t = twice_at (opened n r) r refused n id m x e s in (refl, t.0, t.1))

-- none of the refusals
unrefused : (b c : Bool) (q : Packet) (x y : Reply) → x ≡ cond b (ends 130) (cond c (ends 144) y) → Says q x → x ≡ y
unrefused true c q x y e s = absurd (subst (Says q) e s)
unrefused false true q x y e s = absurd (subst (Says q) e s)
unrefused false false q x y e s = e

valid : (a : Bool) (q : Packet) (x y : Reply) → x ≡ cond a (ends 148) y → Says q x → x ≡ y
valid true q x y e s = absurd (subst (Says q) e s)
valid false q x y e s = e

-- a PUBLISH that is answered so has a topic
abbrev RepliesTo : Option (List ℕ) → State → Publish → ℕ → Bool → Reply → Type 0
RepliesTo o s p now room x =
    (topic : List ℕ) × (o ≡ Some topic) × (x ≡ reply_at p.qos s.incoming p.identifier (p.retain && not room) (accepted (record p { topic = topic }) s.kept.client now))

under_so : (o : Option (List ℕ)) (s : State) (p : Publish) (now : ℕ) (room : Bool) (q : Packet) (x : Reply) → x ≡ reply_under o s p now room → Says q x → RepliesTo o s p now room x
under_so None s p now room q x e said = absurd (subst (Says q) e said)
under_so (Some topic) s p now room q x e said = (topic, refl, unrefused (has_property 11 p.properties) (list_any is_wildcard p.topic) q x _ e said)

replies_to : (told : Topics) (s : State) (p : Publish) (now : ℕ) (room : Bool) (q : Packet) (x : Reply) → x ≡ reply_publish told s p now room → Says q x → RepliesTo (topic_under told p.topic (alias_of p)) s p now room x
replies_to told s p now room q x e said = under_so (topic_under told p.topic (alias_of p)) s p now room q x (valid (is_invalid (alias_of p)) q x _ e said) said

-- its message is under the topic that the connection holds for it
message_is : (old : State) (l : Link) (p : Publish) (now : ℕ) (o : Option (List ℕ)) → old.link ≡ Some l → topic_under (held l) p.topic (alias_of p) ≡ o → accepted (record p { topic = unwrap_or o [] }) old.kept.client now ≡ message_in p now old
message_is old l p now o e is =
    sym (ap (λ (t : Option (List ℕ)). accepted (record p { topic = unwrap_or t [] }) old.kept.client now) (ap (λ (k : Option Link). topic_of (aliases_of k) p) e ∙ under-is p.topic (alias_of p) l.aliases ∙ is))

-- what a reaction asks, by its reply
asked_by : (limit : ℕ) (x : Reply) (p : Packet) (m : Message) (sents : List Sent) (r : Reaction) → Passes p m x → r ≡ then_sends (reaction_of limit x) sents → r.ask ≡ Some (server.Pass m)
asked_by limit x p m sents r e g = ap (λ (v : Reaction). v.ask) g ∙ ap (λ y. (reaction_of limit y).ask) e ∙ by (fits limit p) _ _ refl refl
  where
    by : (b : Bool) (y z : Reaction) → y.ask ≡ Some (server.Pass m) → z.ask ≡ Some (server.Pass m) → (cond b y z).ask ≡ Some (server.Pass m)
    by true y z u v = u
    by false y z u v = v

-- ---- packets that come
module _ (old new : State) (now : ℕ) (room : Bool) (r : Reaction) (id : ℕ) where
  publish_once : (p : Publish) → Replied (puback id 0) (packets.Publish p) now room old r → (q : Publishes AtLeastOnce id (takes (packets.Publish p) now room)) × (r.ask ≡ Some (server.Pass (message_at old q)))
  publish_once p x =
      let y = replies_to (held x.link) old p now room (puback id 0) x.is.reply x.is.is x.says_it in
      let t = once_by p.qos old.incoming p.identifier id _ _ x.is.reply y.2 x.says_it in (
        record { publish = p; now = now; room = room; event = refl; qos_is = t.0; identifier = t.1 },
        asked_by x.link.limit x.is.reply _ _ x.is.sents r t.2 x.is.gives ∙ ap (λ m. Some (server.Pass m)) (message_is old x.link p now (Some y.0) x.linked y.1),
      )

  publish_twice : (p : Publish) → Replied (pubrec id 0) (packets.Publish p) now room old r
      → (q : Publishes ExactlyOnce id (takes (packets.Publish p) now room)) × ((is_some (opened id old.incoming) ≡ true) ⊎ (r.ask ≡ Some (server.Pass (message_at old q))))
  publish_twice p x =
      let y = replies_to (held x.link) old p now room (pubrec id 0) x.is.reply x.is.is x.says_it in
      let t = twice_by p.qos old.incoming p.identifier id _ _ x.is.reply y.2 x.says_it in (
        record { publish = p; now = now; room = room; event = refl; qos_is = t.0; identifier = t.1 },
        elim t.2 [
          | inl is ↦ inl (ap (λ n. is_some (opened n old.incoming)) (sym t.1) ∙ is)
          | inr passes ↦ inr (asked_by x.link.limit x.is.reply _ _ x.is.sents r passes x.is.gives ∙ ap (λ m. Some (server.Pass m)) (message_is old x.link p now (Some y.0) x.linked y.1))
        ],
      )

-- a CONNECT, and an event that gives nothing out, give out no such answer
module _ (p : Packet) (ack : is_answer p ≡ true) where
  pub connect_none : (b : Bool) (old : State) (c : Connect) (answer : Packet) (room : Option ℕ) (now : ℕ) (r : Reaction) (new : State) → is_answer answer ≡ false → OpensIf b old c answer room now r new → AnswersWith p r.packets → ⊥
  connect_none true old c answer room now r new plain o g = by (subst (λ (v : Reaction). AnswersWith p v.packets) o.reacts g)
    where
      by : AnswersWith p (Answer answer ∷ pubrels_of o.ids ++ publishes_of o.sents) → ⊥
      by (inl e) = (let same : answer ≡ p = cc e in true_is_not_false (sym ack ∙ ap is_answer (sym same) ∙ plain))
      by (inr more) = none_released p o.ids (publishes_of o.sents) ack (none_sent p o.sents) more
  connect_none false old c answer room now r new plain o g = subst (λ (v : Reaction). AnswersWith p v.packets) o.0 g

  pub room_none : (old new : State) (bytes now : ℕ) (r : Reaction) → Reacts old (rooms bytes now) r new → AnswersWith p r.packets → ⊥
  room_none old new bytes now r h g = none_sent p h.sents (subst (λ (v : Reaction). AnswersWith p v.packets) h.reacts g)

  pub nothing_given : (ps : List Output) → ps ≡ [] → AnswersWith p ps → ⊥
  nothing_given ps e g = subst (AnswersWith p) e g

-- nor do the codes of SUBACK and UNSUBACK give out PUBACK or PUBREC
module _ (p : Packet) (ack : is_ack p ≡ true) where
  codes_none : (old new : State) (id : ℕ) (codes : List ℕ) (r : Reaction) → Reacts old (answers id codes) r new → AnswersWith p r.packets → ⊥
  codes_none old new id codes r h g = by old.link refl
    where
      not_codes : (a : Option Asked) → Says p (reply_codes a id codes) → ⊥
      not_codes None s = s
      not_codes (Some Subscribing) s = true_is_not_false (sym ack ∙ ap is_ack (sym s))
      not_codes (Some Unsubscribing) s = true_is_not_false (sym ack ∙ ap is_ack (sym s))

      by : (o : Option Link) → old.link ≡ o → ⊥
      by None e = subst (λ (v : Reaction). AnswersWith p v.packets) ((subst (λ l. Comes (answer_on l id codes old) r new) e h).0) g
      by (Some l) e = not_codes l.asked (given_by l.limit (reply_codes l.asked id codes) p [] (λ z. z) (subst (λ os. AnswersWith p os) (ap (λ (v : Reaction). v.packets) (keeps_codes old new l id codes r e h) ∙ sym (append-nil _)) g))

-- ---- each event

-- what gives out PUBACK or PUBREC takes a PUBLISH
record Takes (p : Packet) (old : State) (e : Event) (r : Reaction) : Type 0 where
  publish : Publish
  now : ℕ
  room : Bool
  is : e ≡ takes (packets.Publish publish) now room
  reply : Replied p (packets.Publish publish) now room old r

takes_publish : (p : Packet) → is_ack p ≡ true → is_answer p ≡ true → (old new : State) (e : Event) (r : Reaction) → Reacts old e r new → AnswersWith p r.packets → Takes p old e r
takes_publish p ack answer old new (connects c continued room now) r h g = absurd (connect_none p answer (fits (limit_in c.properties) (connack continued c.client old.kept.client)) old c _ room now r new refl h.1 g)
takes_publish p ack answer old new (rooms bytes now) r h g = absurd (room_none p answer old new bytes now r h g)
takes_publish p ack answer old new (queues d now) r h g = absurd (none_published p r.packets (keeps_nothing_else old new (queues d now) r h) g)
takes_publish p ack answer old new (takes k now room) r h g =
    let x = replied old new k now room r p h g in
    elim (is_published (held x.link) k now room old x.is.reply x.is.is) [
      | inl q ↦ record { publish = q.0; now = now; room = room; is = ap (λ z. takes z now room) q.1; reply = subst (λ z. Replied p z now room old r) q.1 x }
      | inr f ↦ true_is_not_false (sym ack ∙ sym (said is_ack p x.is.reply x.says_it) ∙ f)
    ]
takes_publish p ack answer old new (answers id codes) r h g = absurd (codes_none p ack old new id codes r h g)
takes_publish p ack answer old new (closes now) r h g = absurd (nothing_given p answer r.packets (keeps_nothing_else old new (closes now) r h) g)
takes_publish p ack answer old new (ticks now) r h g = absurd (nothing_given p answer r.packets (keeps_nothing_else old new (ticks now) r h) g)
takes_publish p ack answer old new (finishes now) r h g = absurd (nothing_given p answer r.packets (keeps_nothing_else old new (finishes now) r h) g)
takes_publish p ack answer old new loses r h g = absurd (nothing_given p answer r.packets (keeps_nothing_else old new loses r h) g)

abbrev Once : State → Reaction → ℕ → Event → Type 0
Once old r id e = (q : Publishes AtLeastOnce id e) × (r.ask ≡ Some (server.Pass (message_at old q)))

abbrev Twice : State → Reaction → ℕ → Event → Type 0
Twice old r id e = (q : Publishes ExactlyOnce id e) × ((is_some (opened id old.incoming) ≡ true) ⊎ (r.ask ≡ Some (server.Pass (message_at old q))))

pub puback_tells : PubackTells
puback_tells = λ old new e r id h g. (let t = takes_publish (puback id 0) refl refl old new e r h g in subst (Once old r id) (sym t.is) (publish_once old new t.now t.room r id t.publish t.reply))

pub pubrec_tells : PubrecTells
pubrec_tells = λ old new e r id h g. (let t = takes_publish (pubrec id 0) refl refl old new e r h g in subst (Twice old r id) (sym t.is) (publish_twice old new t.now t.room r id t.publish t.reply))

-- ---- a PUBLISH that is answered by one packet, and what is asked for it

only_by : (b : Bool) (q p : Packet) (x y : Reaction) → x.packets ≡ Answer q ∷ [] → y.packets ≡ [] → AnswersWith p (cond b x y).packets → (cond b x y).packets ≡ Answer p ∷ []
only_by true q p x y e f g = one (subst (AnswersWith p) e g)
  where
    one : AnswersWith p (Answer q ∷ []) → x.packets ≡ Answer p ∷ []
    one (inl same) = e ∙ ap (λ o. o ∷ []) same
    one (inr more) = absurd more
only_by false q p x y e f g = absurd (subst (AnswersWith p) f g)

reply_alone : (limit : ℕ) (x : Reply) (p : Packet) → AnswersWith p (reaction_of limit x).packets → (reaction_of limit x).packets ≡ Answer p ∷ []
reply_alone limit silent p g = absurd g
reply_alone limit (says q) p g = only_by (fits limit q) q p _ _ refl refl g
reply_alone limit (asks a) p g = absurd g
reply_alone limit (both q a) p g = only_by (fits limit q) q p _ _ refl refl g
reply_alone limit (ends code) p g = absurd g
reply_alone limit leaves p g = absurd g

-- it asks to pass its message on, or nothing
abbrev IsAsked : ℕ → Message → Reply → Type 0
IsAsked limit m x = ((reaction_of limit x).ask ≡ None) ⊎ ((reaction_of limit x).ask ≡ Some (server.Pass m))

if_asked : (limit : ℕ) (m : Message) (b : Bool) (x y : Reply) → IsAsked limit m x → IsAsked limit m y → IsAsked limit m (cond b x y)
if_asked limit m true x y e f = e
if_asked limit m false x y e f = f

says_asked : (limit : ℕ) (m : Message) (p : Packet) → IsAsked limit m (says p)
says_asked limit m p = inl (by (fits limit p) _ _ refl refl)
  where
    by : (b : Bool) (y z : Reaction) → y.ask ≡ None → z.ask ≡ None → (cond b y z).ask ≡ None
    by true y z u v = u
    by false y z u v = v

both_asked : (limit : ℕ) (m : Message) (p : Packet) → IsAsked limit m (both p (server.Pass m))
both_asked limit m p = inr (asked_by limit (both p (server.Pass m)) p m [] (then_sends (reaction_of limit (both p (server.Pass m))) []) refl refl)

at_asked : (limit : ℕ) (q : Qos) (r : Received) (n : ℕ) (refused : Bool) (m : Message) → IsAsked limit m (reply_at q r n refused m)
at_asked limit AtMostOnce r n refused m = if_asked limit m refused silent (asks (server.Pass m)) (inl refl) (inr refl)
at_asked limit AtLeastOnce r n refused m =
    let last = cond refused (says (puback n 151)) (both (puback n 0) (server.Pass m)) in
    if_asked limit m (has_hundred r) (ends 147) (cond (is_some (opened n r)) (says (puback n 145)) last) (inl refl)
    (if_asked limit m (is_some (opened n r)) (says (puback n 145)) last (says_asked limit m (puback n 145))
    (if_asked limit m refused (says (puback n 151)) (both (puback n 0) (server.Pass m)) (says_asked limit m (puback n 151)) (both_asked limit m (puback n 0))))
at_asked limit ExactlyOnce r n refused m = by (opened n r)
  where
    by : (o : Option Bool) → IsAsked limit m (reply_exactly_once o r n refused m)
    by (Some true) = says_asked limit m (pubrec n 0)
    by (Some false) = if_asked limit m (has_hundred r) (ends 147) (says (pubrec n 0)) (inl refl) (says_asked limit m (pubrec n 0))
    by None =
        let passes = both (pubrec n 0) (server.Pass m) in
        if_asked limit m (has_hundred r) (ends 147) (cond refused (says (pubrec n 151)) passes) (inl refl)
        (if_asked limit m refused (says (pubrec n 151)) passes (says_asked limit m (pubrec n 151)) (both_asked limit m (pubrec n 0)))

under_asked : (limit : ℕ) (o : Option (List ℕ)) (s : State) (p : Publish) (now : ℕ) (room : Bool) → IsAsked limit (accepted (record p { topic = unwrap_or o [] }) s.kept.client now) (reply_under o s p now room)
under_asked limit None s p now room = inl refl
under_asked limit (Some topic) s p now room =
    let m = accepted (record p { topic = topic }) s.kept.client now in
    let x = reply_at p.qos s.incoming p.identifier (p.retain && not room) m in
    let y = cond (list_any is_wildcard p.topic) (ends 144) x in
    if_asked limit m (has_property 11 p.properties) (ends 130) y (inl refl)
    (if_asked limit m (list_any is_wildcard p.topic) (ends 144) x (inl refl) (at_asked limit p.qos s.incoming p.identifier (p.retain && not room) m))

publish_asked : (limit : ℕ) (told : Topics) (s : State) (p : Publish) (now : ℕ) (room : Bool)
    → IsAsked limit (accepted (record p { topic = unwrap_or (topic_under told p.topic (alias_of p)) [] }) s.kept.client now) (reply_publish told s p now room)
publish_asked limit told s p now room =
    let o = topic_under told p.topic (alias_of p) in
    if_asked limit (accepted (record p { topic = unwrap_or o [] }) s.kept.client now) (is_invalid (alias_of p)) (ends 148) (reply_under o s p now room) (inl refl) (under_asked limit o s p now room)

module _ (old new : State) (p : Publish) (now : ℕ) (room : Bool) (r : Reaction) (h : Reacts old (takes (packets.Publish p) now room) r new) where
  not_sent : (told : Topics) (limit : ℕ) (x : IsReplied told limit (packets.Publish p) now room old r) → r.packets ≡ (reaction_of limit x.reply).packets
  not_sent told limit x = ap (λ (v : Reaction). v.packets) x.gives ∙ elim x.queue [ inl none ↦ ap (λ ss. (reaction_of limit x.reply).packets ++ publishes_of ss) none ∙ append-nil _ | inr room_made ↦ absurd room_made.0 ]

  pub alone : (q : Packet) → AnswersWith q r.packets → r.packets ≡ Answer q ∷ []
  alone q g =
      let x = replied old new (packets.Publish p) now room r q h g in
      let same = not_sent (held x.link) x.link.limit x.is in
      same ∙ reply_alone x.link.limit x.is.reply q (subst (AnswersWith q) same g)

  -- what is asked for is to pass the message on
  pub asks_pass : is_some r.ask ≡ true → r.ask ≡ Some (server.Pass (message_in p now old))
  asks_pass some = by old.link refl
    where
      m : Message
      m = message_in p now old

      by_reply : (l : Link) → old.link ≡ Some l → IsReplied (held l) l.limit (packets.Publish p) now room old r → r.ask ≡ Some (server.Pass m)
      by_reply l e x =
          let limit = l.limit in
          let o = topic_under (held l) p.topic (alias_of p) in
          let is : IsAsked limit m (reply_publish (held l) old p now room) = subst (λ (k : Message). IsAsked limit k (reply_publish (held l) old p now room)) (message_is old l p now o e refl) (publish_asked limit (held l) old p now room) in
          let same : r.ask ≡ (reaction_of limit x.reply).ask = ap (λ (v : Reaction). v.ask) x.gives in
          elim (subst (IsAsked limit m) (sym x.is) is) [
            | inl none ↦ absurd (let z : false ≡ true = sym (ap is_some (same ∙ none)) ∙ some in cc)
            | inr passes ↦ same ∙ passes
          ]

      by : (o : Option Link) → old.link ≡ o → r.ask ≡ Some (server.Pass m)
      by None e = absurd (let z : false ≡ true = sym (ap (λ (v : Reaction). is_some v.ask) (keeps_unheard old new (packets.Publish p) now room r e h).0) ∙ some in cc)
      by (Some l) e = by_reply l e (replies_by_link old new l (packets.Publish p) now room r e h)
