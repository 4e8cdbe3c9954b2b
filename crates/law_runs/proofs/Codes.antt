-- Which events of a session give out SUBACK and UNSUBACK.
use Rattle.std.proofs.Common.{◌≡◌, ◌⊎◌, inl, inr, ℕ, ◌==◌, ◌&&◌, not, nat_lt, Bool, true, false, cond, is_some, length, replicate, List, [], Option, Some, None, refl, sym, ap, ◌∙◌, subst}
use Rattle.std.proofs.lemmas.List.{append-nil}
use Rattle.std.specs.List.{list_any}
use Rattle.mqtt_fields.specs.declared.options.Qos.{Qos}
use Rattle.mqtt_fields.specs.declared.options.Qos.TheVariants.{AtMostOnce, AtLeastOnce, ExactlyOnce}
use Rattle.mqtt_packets.specs.declared.packet.Packet.{Packet}
use Rattle.mqtt_packets.specs.declared.packet.Packet.TheVariants as packets
use Rattle.mqtt_packets.specs.declared.publish.Publish.{Publish}
use Rattle.mqtt_packets.specs.declared.subscribe.Subscribe.{Subscribe}
use Rattle.mqtt_packets.specs.declared.unsubscribe.Unsubscribe.{Unsubscribe}
use Rattle.mqtt_topics.specs.Levels.{is_wildcard}
use Rattle.mqtt_message.specs.declared.message.Message.{Message}
use Rattle.mqtt_message.specs.Accepted.{accepted}
use Rattle.qos_handshakes.specs.declared.copies.Entry.{Entry}
use Rattle.qos_handshakes.specs.Entries.{find_id}
use Rattle.qos_handshakes.specs.Incoming.{Received, opened}
use Rattle.qos_handshakes.specs.Outbox.{is_released, takes_pubrec}
use Rattle.mqtt_fields.specs.Properties.{first_four}
use Rattle.mqtt_sessions.specs.declared.link.Asked.{Asked}
use Rattle.mqtt_sessions.specs.declared.link.Asked.TheVariants.{Subscribing, Unsubscribing}
use Rattle.mqtt_sessions.specs.declared.reaction.Ask.{Ask}
use Rattle.mqtt_sessions.specs.declared.reaction.Ask.TheVariants as server
use Rattle.mqtt_sessions.specs.Answers.{puback, pubrec, pubrel, suback, unsuback, connack, fits}
use Rattle.mqtt_sessions.specs.Aliases.{alias_of}
use Rattle.mqtt_sessions.specs.Arriving.{has_property}
use Rattle.law_sessions.specs.Aliases.{Topics, topic_under}
use Rattle.law_sessions.proofs.AliasLaws.{held}
use Rattle.mqtt_sessions.specs.Asking.{answer_of, answer_on, asked_of, waiting_by, asking}
use Rattle.mqtt_sessions.specs.Packets.{PacketIf}
use Rattle.mqtt_sessions.specs.Reaction.{Reaction, Outcome, Comes, answered}
use Rattle.mqtt_sessions.specs.State.{Link, State, heard, heard_by, limit_in, limit_of}
use Rattle.law_sessions.specs.Replies.{Reply, silent, says, asks, both, ends, leaves, is_invalid, reply_publish, reply_under, reply_at, reply_exactly_once, reply_pubrec, reply_known, reply_unknown, reply_codes, reply_disconnect, has_hundred, IsReply}
use Rattle.law_sessions.specs.Runs.{Event, connects, rooms, queues, takes, answers, closes, ticks, finishes, loses, Reacts}
use Rattle.law_sessions.proofs.ElseLaws.{keeps_nothing_else}
use Rattle.law_sessions.proofs.ReplyLaws.{keeps_unheard, keeps_codes}
use Rattle.law_runs.specs.StepPublishing.{AnswersWith}
use Rattle.law_runs.specs.StepAsking.{AreInUse}
use Rattle.law_runs.proofs.Acks.{is_answer, Says, tells, said, given_by, replied, cond_false, true_is_not_false, none_published, connect_none, room_none, nothing_given}

abbrev is_coded : Packet → Bool
is_coded (packets.Suback a) = true
is_coded (packets.Unsuback a) = true
is_coded _ = false

abbrev is_suback : Packet → Bool
is_suback (packets.Suback a) = true
is_suback _ = false

abbrev codes_in : Packet → List ℕ
codes_in (packets.Suback a) = a.reasons
codes_in (packets.Unsuback a) = a.reasons
codes_in _ = []

abbrev identifier_in : Packet → ℕ
identifier_in (packets.Suback a) = a.identifier
identifier_in (packets.Unsuback a) = a.identifier
identifier_in _ = 0

-- what is asked for
coded : (a : Asked) (id : ℕ) (codes : List ℕ) → is_coded (answer_of a id codes) ≡ true
coded Subscribing id codes = refl
coded Unsubscribing id codes = refl

codes_of : (a : Asked) (id : ℕ) (codes : List ℕ) → codes_in (answer_of a id codes) ≡ codes
codes_of Subscribing id codes = refl
codes_of Unsubscribing id codes = refl

same_answer : (a b : Asked) (id id' : ℕ) (codes codes' : List ℕ) → answer_of b id' codes' ≡ answer_of a id codes → (b ≡ a) × (id' ≡ id) × (codes' ≡ codes)
same_answer Subscribing Subscribing id id' codes codes' e = (refl, ap identifier_in e, ap codes_in e)
same_answer Unsubscribing Unsubscribing id id' codes codes' e = (refl, ap identifier_in e, ap codes_in e)
same_answer Subscribing Unsubscribing id id' codes codes' e = true_is_not_false (sym (ap is_suback e))
same_answer Unsubscribing Subscribing id id' codes codes' e = true_is_not_false (ap is_suback e)

-- ---- replies that have no codes
passes_false : (b : Bool) (x : Reply) → tells is_coded x ≡ false → tells is_coded (cond b (ends 147) x) ≡ false
passes_false b x e = cond_false is_coded b (ends 147) x refl e

twice_false : (o : Option Bool) (r : Received) (refused : Bool) (n : ℕ) (m : Message) → tells is_coded (reply_exactly_once o r n refused m) ≡ false
twice_false (Some true) r refused n m = refl
twice_false (Some false) r refused n m = passes_false (has_hundred r) (says (pubrec n 0)) refl
twice_false None r refused n m =
    let passes = both (pubrec n 0) (server.Pass m) in
    passes_false (has_hundred r) (cond refused (says (pubrec n 151)) passes) (cond_false is_coded refused (says (pubrec n 151)) passes refl refl)

at_false : (q : Qos) (r : Received) (n : ℕ) (refused : Bool) (m : Message) → tells is_coded (reply_at q r n refused m) ≡ false
at_false AtMostOnce r n refused m = cond_false is_coded refused silent (asks (server.Pass m)) refl refl
at_false AtLeastOnce r n refused m =
    let passes = both (puback n 0) (server.Pass m) in
    let last = cond refused (says (puback n 151)) passes in
    passes_false (has_hundred r) (cond (is_some (opened n r)) (says (puback n 145)) last)
    (cond_false is_coded (is_some (opened n r)) (says (puback n 145)) last refl (cond_false is_coded refused (says (puback n 151)) passes refl refl))
at_false ExactlyOnce r n refused m = twice_false (opened n r) r refused n m

under_false : (o : Option (List ℕ)) (s : State) (p : Publish) (now : ℕ) (room : Bool) → tells is_coded (reply_under o s p now room) ≡ false
under_false None s p now room = refl
under_false (Some topic) s p now room =
    let m = accepted (record p { topic = topic }) s.kept.client now in
    let x = reply_at p.qos s.incoming p.identifier (p.retain && not room) m in
    let y = cond (list_any is_wildcard p.topic) (ends 144) x in
    cond_false is_coded (has_property 11 p.properties) (ends 130) y refl
    (cond_false is_coded (list_any is_wildcard p.topic) (ends 144) x refl (at_false p.qos s.incoming p.identifier (p.retain && not room) m))

publish_false : (told : Topics) (s : State) (p : Publish) (now : ℕ) (room : Bool) → tells is_coded (reply_publish told s p now room) ≡ false
publish_false told s p now room =
    let o = topic_under told p.topic (alias_of p) in
    cond_false is_coded (is_invalid (alias_of p)) (ends 148) (reply_under o s p now room) refl (under_false o s p now room)

pubrec_false : (o : Option Entry) (id reason : ℕ) → tells is_coded (reply_pubrec o id reason) ≡ false
pubrec_false None id reason = cond_false is_coded (nat_lt reason 128) (says (pubrel id 146)) silent refl refl
pubrec_false (Some x) id reason =
    let known = cond_false is_coded (nat_lt reason 128) (says (pubrel id 0)) silent refl refl in
    let unknown = cond_false is_coded (nat_lt reason 128) (says (pubrel id 146)) silent refl refl in
    let rest = cond (takes_pubrec x.delivery.qos x.stage) (reply_known id reason) (reply_unknown id reason) in
    cond_false is_coded (is_released x.stage) (says (pubrel id 0)) rest refl
    (cond_false is_coded (takes_pubrec x.delivery.qos x.stage) (reply_known id reason) (reply_unknown id reason) known unknown)

left_false : (o : Option ℕ) (expiry : ℕ) → tells is_coded (reply_disconnect o expiry) ≡ false
left_false None expiry = refl
left_false (Some n) expiry = cond_false is_coded ((expiry == 0) && not (n == 0)) (ends 130) leaves refl refl

-- ---- the codes of a reply
module _ (a : Asked) (id : ℕ) (codes : List ℕ) where
  none_coded : (x : Reply) → tells is_coded x ≡ false → Says (answer_of a id codes) x → AreInUse codes
  none_coded x e s = true_is_not_false (sym (coded a id codes) ∙ sym (said is_coded (answer_of a id codes) x s) ∙ e)

  in_use : (b : Bool) (n : ℕ) (p : Packet) (ask : Ask) → codes_in p ≡ replicate n 145 → Says (answer_of a id codes) (cond b (says p) (asks ask)) → AreInUse codes
  in_use true n p ask e s = (n, sym (codes_of a id codes) ∙ ap codes_in (sym s) ∙ e)
  in_use false n p ask e s = absurd s

  replied_codes : (told : Topics) (k : Packet) (now : ℕ) (room : Bool) (s : State) (x : Reply) → IsReply told k now room s x → Says (answer_of a id codes) x → AreInUse codes
  replied_codes told (packets.Publish p) now room s x e t = none_coded x (ap (tells is_coded) e ∙ publish_false told s p now room) t
  replied_codes told (packets.Puback k) now room s x e t = none_coded x (ap (tells is_coded) e) t
  replied_codes told (packets.Pubrec k) now room s x e t = none_coded x (ap (tells is_coded) e ∙ pubrec_false (find_id k.identifier s.outbox.copies) k.identifier k.reason) t
  replied_codes told (packets.Pubrel k) now room s x e t = none_coded x (ap (tells is_coded) e) t
  replied_codes told (packets.Pubcomp k) now room s x e t = none_coded x (ap (tells is_coded) e) t
  replied_codes told (packets.Subscribe p) now room s x (inl e) t = none_coded x (ap (tells is_coded) e.1) t
  replied_codes told (packets.Subscribe p) now room s x (inr e) t =
      in_use (is_some (opened p.identifier s.incoming)) (length p.filters) (suback p.identifier (replicate (length p.filters) 145)) server.Subscribe refl (subst (Says (answer_of a id codes)) e.1 t)
  replied_codes told (packets.Unsubscribe p) now room s x e t =
      in_use (is_some (opened p.identifier s.incoming)) (length p.filters) (unsuback p.identifier (replicate (length p.filters) 145)) server.Unsubscribe refl (subst (Says (answer_of a id codes)) e t)
  replied_codes told packets.Pingreq now room s x e t = none_coded x (ap (tells is_coded) e) t
  replied_codes told (packets.Disconnect p) now room s x e t = none_coded x (ap (tells is_coded) e ∙ left_false (first_four 17 p.properties) s.kept.expiry) t
  replied_codes told (packets.Connect p) now room s x e t = none_coded x (ap (tells is_coded) e) t
  replied_codes told (packets.Connack p) now room s x e t = none_coded x (ap (tells is_coded) e) t
  replied_codes told (packets.Suback p) now room s x e t = none_coded x (ap (tells is_coded) e) t
  replied_codes told (packets.Unsuback p) now room s x e t = none_coded x (ap (tells is_coded) e) t
  replied_codes told packets.Pingresp now room s x e t = none_coded x (ap (tells is_coded) e) t
  replied_codes told (packets.Auth p) now room s x e t = none_coded x (ap (tells is_coded) e) t

  -- the codes that were asked for
  abbrev AreGiven : State → Event → Type 0
  AreGiven old e = (e ≡ answers id codes) × (asked_of old.link ≡ Some a)

  by_asked : (o : Option Asked) (id' : ℕ) (codes' : List ℕ) → Says (answer_of a id codes) (reply_codes o id' codes') → (o ≡ Some a) × (id' ≡ id) × (codes' ≡ codes)
  by_asked None id' codes' s = absurd s
  by_asked (Some Subscribing) id' codes' s = let t = same_answer a Subscribing id id' codes codes' s in (ap Some t.0, t.1, t.2)
  by_asked (Some Unsubscribing) id' codes' s = let t = same_answer a Unsubscribing id id' codes codes' s in (ap Some t.0, t.1, t.2)

  given_at : (o : Option Link) (old new : State) (id' : ℕ) (codes' : List ℕ) (r : Reaction) → old.link ≡ o → Reacts old (answers id' codes') r new → AnswersWith (answer_of a id codes) r.packets → AreGiven old (answers id' codes')
  given_at None old new id' codes' r e h g =
      absurd (subst (λ (v : Reaction). AnswersWith (answer_of a id codes) v.packets) ((subst (λ l. Comes (answer_on l id' codes' old) r new) e h).0) g)
  given_at (Some l) old new id' codes' r e h g =
      let s = given_by l.limit (reply_codes l.asked id' codes') (answer_of a id codes) [] (λ z. z)
      (subst (AnswersWith (answer_of a id codes)) (ap (λ (v : Reaction). v.packets) (keeps_codes old new l id' codes' r e h) ∙ sym (append-nil _)) g) in
      let t = by_asked l.asked id' codes' s in
      ((λ i. answers (t.1 i) (t.2 i)), ap asked_of e ∙ t.0)

answers_it : (a : Asked) (id : ℕ) (codes : List ℕ) → is_answer (answer_of a id codes) ≡ true
answers_it Subscribing id codes = refl
answers_it Unsubscribing id codes = refl

pub codes_tell : (a : Asked) (id : ℕ) (codes : List ℕ) (old new : State) (e : Event) (r : Reaction) → Reacts old e r new → AnswersWith (answer_of a id codes) r.packets → AreInUse codes ⊎ ((e ≡ answers id codes) × (asked_of old.link ≡ Some a))
codes_tell a id codes old new (connects c continued room now) r h g = absurd (connect_none (answer_of a id codes) (answers_it a id codes) (fits (limit_in c.properties) (connack continued c.client old.kept.client)) old c _ room now r new refl h.1 g)
codes_tell a id codes old new (rooms bytes now) r h g = absurd (room_none (answer_of a id codes) (answers_it a id codes) old new bytes now r h g)
codes_tell a id codes old new (queues d now) r h g = absurd (none_published (answer_of a id codes) r.packets (keeps_nothing_else old new (queues d now) r h) g)
codes_tell a id codes old new (takes k now room) r h g = let x = replied old new k now room r (answer_of a id codes) h g in inl (replied_codes a id codes (held x.link) k now room old x.is.reply x.is.is x.says_it)
codes_tell a id codes old new (answers id' codes') r h g = inr (given_at a id codes old.link old new id' codes' r refl h g)
codes_tell a id codes old new (closes now) r h g = absurd (nothing_given (answer_of a id codes) (answers_it a id codes) r.packets (keeps_nothing_else old new (closes now) r h) g)
codes_tell a id codes old new (ticks now) r h g = absurd (nothing_given (answer_of a id codes) (answers_it a id codes) r.packets (keeps_nothing_else old new (ticks now) r h) g)
codes_tell a id codes old new (finishes now) r h g = absurd (nothing_given (answer_of a id codes) (answers_it a id codes) r.packets (keeps_nothing_else old new (finishes now) r h) g)
codes_tell a id codes old new loses r h g = absurd (nothing_given (answer_of a id codes) (answers_it a id codes) r.packets (keeps_nothing_else old new loses r h) g)

-- ---- what a connection waits for after it took a SUBSCRIBE or an UNSUBSCRIBE
asks_no_more : (b : Bool) (x y : Outcome) (ask : Ask) {X : Type 0} → x.reaction.ask ≡ None → y.reaction.ask ≡ None → (cond b x y).reaction.ask ≡ Some ask → X
asks_no_more true x y ask e f g = absurd (let z = sym e ∙ g in cc)
asks_no_more false x y ask e f g = absurd (let z = sym f ∙ g in cc)

asked_by : (b : Bool) (limit : ℕ) (p : Packet) (ask : Ask) (a : Asked) (old : State) (now : ℕ) (l : Link) (r : Reaction) (new : State) → old.link ≡ Some l
    → Comes (cond b (answered limit p None (heard old now)) (asking ask a (heard old now))) r new → r.ask ≡ Some ask → asked_of new.link ≡ Some a
asked_by true limit p ask a old now l r new e h is = asks_no_more (fits limit p) _ _ ask refl refl (ap (λ (v : Reaction). v.ask) (sym h.0) ∙ is)
asked_by false limit p ask a old now l r new e h is = ap (λ (v : State). asked_of v.link) h.1 ∙ ap (λ o. asked_of (waiting_by (heard_by o now) (Some a))) e

module _ (old new : State) (now : ℕ) (room : Bool) (r : Reaction) where
  unheard : {X : Type 0} (k : Packet) (ask : Ask) → old.link ≡ None → Reacts old (takes k now room) r new → r.ask ≡ Some ask → X
  unheard k ask e h is = absurd (let z : None ≡ Some ask = sym (ap (λ (v : Reaction). v.ask) (keeps_unheard old new k now room r e h).0) ∙ is in cc)

  pub subscribing_after : (p : Subscribe) → Reacts old (takes (packets.Subscribe p) now room) r new → r.ask ≡ Some server.Subscribe → asked_of new.link ≡ Some Subscribing
  subscribing_after p h is = by old.link refl
    where
      by : (o : Option Link) → old.link ≡ o → asked_of new.link ≡ Some Subscribing
      by None e = unheard (packets.Subscribe p) server.Subscribe e h is
      by (Some l) e = elim (subst (λ o. PacketIf (limit_of o) (packets.Subscribe p) now room old r new) e h) [
        | inl d ↦ absurd (let z : None ≡ Some server.Subscribe = sym (ap (λ (v : Reaction). v.ask) d.1.0) ∙ is in cc)
        | inr d ↦ asked_by (is_some (opened p.identifier old.incoming)) l.limit _ server.Subscribe Subscribing old now l r new e d.1 is
      ]

  pub unsubscribing_after : (p : Unsubscribe) → Reacts old (takes (packets.Unsubscribe p) now room) r new → r.ask ≡ Some server.Unsubscribe → asked_of new.link ≡ Some Unsubscribing
  unsubscribing_after p h is = by old.link refl
    where
      by : (o : Option Link) → old.link ≡ o → asked_of new.link ≡ Some Unsubscribing
      by None e = unheard (packets.Unsubscribe p) server.Unsubscribe e h is
      by (Some l) e = asked_by (is_some (opened p.identifier old.incoming)) l.limit _ server.Unsubscribe Unsubscribing old now l r new e (subst (λ o. PacketIf (limit_of o) (packets.Unsubscribe p) now room old r new) e h) is
