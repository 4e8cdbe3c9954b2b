-- SUBACK goes out where its session is given codes, or where the identifier of a SUBSCRIBE is in use.
use Rattle.std.proofs.Common.{◌≡◌, ◌⊎◌, inl, inr, ℕ, ◌==◌, ◌&&◌, not, nat_lt, Bool, true, false, cond, is_some, length, replicate, List, [], Option, Some, None, refl, sym, ap, ◌∙◌, subst}
use Rattle.std.proofs.lemmas.List.{append-nil}
use Rattle.std.specs.List.{list_any}
use Rattle.mqtt_fields.specs.declared.options.Qos.{Qos}
use Rattle.mqtt_fields.specs.declared.options.Qos.TheVariants.{AtMostOnce, AtLeastOnce, ExactlyOnce}
use Rattle.mqtt_fields.specs.Properties.{first_four}
use Rattle.mqtt_packets.specs.declared.packet.Packet.{Packet}
use Rattle.mqtt_packets.specs.declared.packet.Packet.TheVariants as packets
use Rattle.mqtt_packets.specs.declared.publish.Publish.{Publish}
use Rattle.mqtt_packets.specs.declared.subscribe.Subscribe.{Subscribe}
use Rattle.mqtt_topics.specs.Levels.{is_wildcard}
use Rattle.mqtt_message.specs.Accepted.{accepted}
use Rattle.mqtt_message.specs.declared.message.Message.{Message}
use Rattle.qos_handshakes.specs.declared.copies.Entry.{Entry}
use Rattle.qos_handshakes.specs.Entries.{find_id}
use Rattle.qos_handshakes.specs.Incoming.{Received, opened}
use Rattle.qos_handshakes.specs.Outbox.{is_released, takes_pubrec}
use Rattle.mqtt_sessions.specs.declared.link.Asked.{Asked}
use Rattle.mqtt_sessions.specs.declared.link.Asked.TheVariants.{Subscribing, Unsubscribing}
use Rattle.mqtt_sessions.specs.declared.reaction.Ask.TheVariants as server
use Rattle.mqtt_sessions.specs.Aliases.{alias_of}
use Rattle.mqtt_sessions.specs.Answers.{puback, pubrec, pubrel, suback, unsuback, connack, fits}
use Rattle.mqtt_sessions.specs.Arriving.{has_property}
use Rattle.mqtt_sessions.specs.Asking.{answer_on, asked_of}
use Rattle.mqtt_sessions.specs.Reaction.{Reaction, Comes}
use Rattle.mqtt_sessions.specs.State.{Link, State, limit_in}
use Rattle.law_sessions.specs.Aliases.{Topics, topic_under}
use Rattle.law_sessions.specs.Replies.{Reply, silent, says, asks, both, ends, leaves, reaction_of, is_invalid, reply_publish, reply_under, reply_at, reply_exactly_once, reply_pubrec, reply_known, reply_unknown, reply_codes, reply_disconnect, has_hundred, IsReply}
use Rattle.law_sessions.specs.Runs.{Event, connects, queues, rooms, takes, answers, closes, ticks, finishes, loses, Reacts}
use Rattle.law_sessions.proofs.AliasLaws.{held}
use Rattle.law_sessions.proofs.ElseLaws.{keeps_nothing_else}
use Rattle.law_sessions.proofs.ReplyLaws.{keeps_codes}
use Rattle.law_runs.specs.StepPublishing.{AnswersWith}
use Rattle.law_runs.proofs.Acks.{Says, tells, said, given_by, replied, cond_false, true_is_not_false, none_published, connect_none, nothing_given}

abbrev is_suback : Packet → Bool
is_suback (packets.Suback a) = true
is_suback _ = false

abbrev codes_in : Packet → List ℕ
codes_in (packets.Suback a) = a.reasons
codes_in _ = []

abbrev identifier_in : Packet → ℕ
identifier_in (packets.Suback a) = a.identifier
identifier_in _ = 0

-- ---- replies that have no SUBACK
passes_false : (b : Bool) (x : Reply) → tells is_suback x ≡ false → tells is_suback (cond b (ends 147) x) ≡ false
passes_false b x e = cond_false is_suback b (ends 147) x refl e

twice_false : (o : Option Bool) (r : Received) (refused : Bool) (n : ℕ) (m : Message) → tells is_suback (reply_exactly_once o r n refused m) ≡ false
twice_false (Some true) r refused n m = refl
twice_false (Some false) r refused n m = passes_false (has_hundred r) (says (pubrec n 0)) refl
twice_false None r refused n m =
    let passes = both (pubrec n 0) (server.Pass m) in
    passes_false (has_hundred r) (cond refused (says (pubrec n 151)) passes) (cond_false is_suback refused (says (pubrec n 151)) passes refl refl)

at_false : (q : Qos) (r : Received) (n : ℕ) (refused : Bool) (m : Message) → tells is_suback (reply_at q r n refused m) ≡ false
at_false AtMostOnce r n refused m = cond_false is_suback refused silent (asks (server.Pass m)) refl refl
at_false AtLeastOnce r n refused m =
    let passes = both (puback n 0) (server.Pass m) in
    let last = cond refused (says (puback n 151)) passes in
    passes_false (has_hundred r) (cond (is_some (opened n r)) (says (puback n 145)) last)
    (cond_false is_suback (is_some (opened n r)) (says (puback n 145)) last refl (cond_false is_suback refused (says (puback n 151)) passes refl refl))
at_false ExactlyOnce r n refused m = twice_false (opened n r) r refused n m

under_false : (o : Option (List ℕ)) (s : State) (p : Publish) (now : ℕ) (room : Bool) → tells is_suback (reply_under o s p now room) ≡ false
under_false None s p now room = refl
under_false (Some topic) s p now room =
    let m = accepted (record p { topic = topic }) s.kept.client now in
    let x = reply_at p.qos s.incoming p.identifier (p.retain && not room) m in
    let y = cond (list_any is_wildcard p.topic) (ends 144) x in
    cond_false is_suback (has_property 11 p.properties) (ends 130) y refl
    (cond_false is_suback (list_any is_wildcard p.topic) (ends 144) x refl (at_false p.qos s.incoming p.identifier (p.retain && not room) m))

publish_false : (told : Topics) (s : State) (p : Publish) (now : ℕ) (room : Bool) → tells is_suback (reply_publish told s p now room) ≡ false
publish_false told s p now room =
    let o = topic_under told p.topic (alias_of p) in
    cond_false is_suback (is_invalid (alias_of p)) (ends 148) (reply_under o s p now room) refl (under_false o s p now room)

pubrec_false : (o : Option Entry) (id reason : ℕ) → tells is_suback (reply_pubrec o id reason) ≡ false
pubrec_false None id reason = cond_false is_suback (nat_lt reason 128) (says (pubrel id 146)) silent refl refl
pubrec_false (Some x) id reason =
    let known = cond_false is_suback (nat_lt reason 128) (says (pubrel id 0)) silent refl refl in
    let unknown = cond_false is_suback (nat_lt reason 128) (says (pubrel id 146)) silent refl refl in
    let rest = cond (takes_pubrec x.delivery.qos x.stage) (reply_known id reason) (reply_unknown id reason) in
    cond_false is_suback (is_released x.stage) (says (pubrel id 0)) rest refl
    (cond_false is_suback (takes_pubrec x.delivery.qos x.stage) (reply_known id reason) (reply_unknown id reason) known unknown)

left_false : (o : Option ℕ) (expiry : ℕ) → tells is_suback (reply_disconnect o expiry) ≡ false
left_false None expiry = refl
left_false (Some n) expiry = cond_false is_suback ((expiry == 0) && not (n == 0)) (ends 130) leaves refl refl

request_false : (b : Bool) (id : ℕ) (codes : List ℕ) → tells is_suback (cond b (says (unsuback id codes)) (asks server.Unsubscribe)) ≡ false
request_false true id codes = refl
request_false false id codes = refl

-- ---- the packet that is answered by one
pub record IsInUse (k : Packet) (id : ℕ) (codes : List ℕ) (x : Reply) : Type 0 where
  pub subscribe : Subscribe
  pub is : k ≡ packets.Subscribe subscribe
  pub identifier : subscribe.identifier ≡ id
  pub told : codes ≡ replicate (length subscribe.filters) 145
  pub reply : x ≡ says (suback id codes)

module _ (id : ℕ) (codes : List ℕ) where
  none : {X : Type 0} (x : Reply) → tells is_suback x ≡ false → Says (suback id codes) x → X
  none x e s = true_is_not_false (sym (said is_suback (suback id codes) x s) ∙ e)

  in_use : (p : Subscribe) (b : Bool) (x : Reply) → x ≡ cond b (says (suback p.identifier (replicate (length p.filters) 145))) (asks server.Subscribe) → Says (suback id codes) x → IsInUse (packets.Subscribe p) id codes x
  in_use p true x e s =
      let same : suback p.identifier (replicate (length p.filters) 145) ≡ suback id codes = subst (Says (suback id codes)) e s in
      record { subscribe = p; is = refl; identifier = ap identifier_in same; told = sym (ap codes_in same); reply = e ∙ ap says same }
  in_use p false x e s = absurd (subst (Says (suback id codes)) e s)

  replied_codes : (told : Topics) (k : Packet) (now : ℕ) (room : Bool) (s : State) (x : Reply) → IsReply told k now room s x → Says (suback id codes) x → IsInUse k id codes x
  replied_codes told (packets.Publish p) now room s x e t = none x (ap (tells is_suback) e ∙ publish_false told s p now room) t
  replied_codes told (packets.Puback k) now room s x e t = none x (ap (tells is_suback) e) t
  replied_codes told (packets.Pubrec k) now room s x e t = none x (ap (tells is_suback) e ∙ pubrec_false (find_id k.identifier s.outbox.copies) k.identifier k.reason) t
  replied_codes told (packets.Pubrel k) now room s x e t = none x (ap (tells is_suback) e) t
  replied_codes told (packets.Pubcomp k) now room s x e t = none x (ap (tells is_suback) e) t
  replied_codes told (packets.Subscribe p) now room s x (inl e) t = none x (ap (tells is_suback) e.1) t
  replied_codes told (packets.Subscribe p) now room s x (inr e) t = in_use p (is_some (opened p.identifier s.incoming)) x e.1 t
  replied_codes told (packets.Unsubscribe p) now room s x e t = none x (ap (tells is_suback) e ∙ request_false (is_some (opened p.identifier s.incoming)) p.identifier (replicate (length p.filters) 145)) t
  replied_codes told packets.Pingreq now room s x e t = none x (ap (tells is_suback) e) t
  replied_codes told (packets.Disconnect p) now room s x e t = none x (ap (tells is_suback) e ∙ left_false (first_four 17 p.properties) s.kept.expiry) t
  replied_codes told (packets.Connect p) now room s x e t = none x (ap (tells is_suback) e) t
  replied_codes told (packets.Connack p) now room s x e t = none x (ap (tells is_suback) e) t
  replied_codes told (packets.Suback p) now room s x e t = none x (ap (tells is_suback) e) t
  replied_codes told (packets.Unsuback p) now room s x e t = none x (ap (tells is_suback) e) t
  replied_codes told packets.Pingresp now room s x e t = none x (ap (tells is_suback) e) t
  replied_codes told (packets.Auth p) now room s x e t = none x (ap (tells is_suback) e) t

  -- a reply that only says something asks for nothing
  asks_none : (b : Bool) (y z : Reaction) → y.ask ≡ None → z.ask ≡ None → (cond b y z).ask ≡ None
  asks_none true y z u v = u
  asks_none false y z u v = v

  -- ---- each event
  pub record TakesInUse (e : Event) (r : Reaction) : Type 0 where
    pub subscribe : Subscribe
    pub now : ℕ
    pub room : Bool
    pub event : e ≡ takes (packets.Subscribe subscribe) now room
    pub identifier : subscribe.identifier ≡ id
    pub told : codes ≡ replicate (length subscribe.filters) 145
    pub nothing : r.ask ≡ None

  -- the codes that were asked for
  abbrev pub IsGiven : State → Event → Type 0
  IsGiven old e = (e ≡ answers id codes) × (asked_of old.link ≡ Some Subscribing)

  by_asked : (o : Option Asked) (id' : ℕ) (codes' : List ℕ) → Says (suback id codes) (reply_codes o id' codes') → (o ≡ Some Subscribing) × (id' ≡ id) × (codes' ≡ codes)
  by_asked None id' codes' s = absurd s
  by_asked (Some Subscribing) id' codes' s = (refl, ap identifier_in s, ap codes_in s)
  by_asked (Some Unsubscribing) id' codes' s = true_is_not_false (ap is_suback (sym s))

  given_at : (o : Option Link) (old new : State) (id' : ℕ) (codes' : List ℕ) (r : Reaction) → old.link ≡ o → Reacts old (answers id' codes') r new → AnswersWith (suback id codes) r.packets → IsGiven old (answers id' codes')
  given_at None old new id' codes' r e h g =
      absurd (subst (λ (v : Reaction). AnswersWith (suback id codes) v.packets) ((subst (λ l. Comes (answer_on l id' codes' old) r new) e h).0) g)
  given_at (Some l) old new id' codes' r e h g =
      let s = given_by l.limit (reply_codes l.asked id' codes') (suback id codes) [] (λ z. z)
      (subst (AnswersWith (suback id codes)) (ap (λ (v : Reaction). v.packets) (keeps_codes old new l id' codes' r e h) ∙ sym (append-nil _)) g) in
      let t = by_asked l.asked id' codes' s in
      ((λ i. answers (t.1 i) (t.2 i)), ap asked_of e ∙ t.0)

  pub suback_is_of : (old new : State) (e : Event) (r : Reaction) → Reacts old e r new → AnswersWith (suback id codes) r.packets → TakesInUse e r ⊎ IsGiven old e
  suback_is_of old new (connects c continued room now) r h g = absurd (connect_none (suback id codes) refl (fits (limit_in c.properties) (connack continued c.client old.kept.client)) old c _ room now r new refl h.1 g)
  suback_is_of old new (queues d now) r h g = absurd (none_published (suback id codes) r.packets (keeps_nothing_else old new (queues d now) r h) g)
  suback_is_of old new (rooms bytes now) r h g = absurd (none_published (suback id codes) r.packets (keeps_nothing_else old new (rooms bytes now) r h) g)
  suback_is_of old new (takes k now room) r h g =
      let x = replied old new k now room r (suback id codes) h g in
      let u = replied_codes (held x.link) k now room old x.is.reply x.is.is x.says_it in
      inl (record {
        subscribe = u.subscribe;
        now = now;
        room = room;
        event = ap (λ z. takes z now room) u.is;
        identifier = u.identifier;
        told = u.told;
        nothing = ap (λ (v : Reaction). v.ask) x.is.gives ∙ ap (λ y. (reaction_of x.link.limit y).ask) u.reply ∙ asks_none (fits x.link.limit (suback id codes)) _ _ refl refl;
      })
  suback_is_of old new (answers id' codes') r h g = inr (given_at old.link old new id' codes' r refl h g)
  suback_is_of old new (closes now) r h g = absurd (nothing_given (suback id codes) refl r.packets (keeps_nothing_else old new (closes now) r h) g)
  suback_is_of old new (ticks now) r h g = absurd (nothing_given (suback id codes) refl r.packets (keeps_nothing_else old new (ticks now) r h) g)
  suback_is_of old new (finishes now) r h g = absurd (nothing_given (suback id codes) refl r.packets (keeps_nothing_else old new (finishes now) r h) g)
  suback_is_of old new loses r h g = absurd (nothing_given (suback id codes) refl r.packets (keeps_nothing_else old new loses r h) g)
