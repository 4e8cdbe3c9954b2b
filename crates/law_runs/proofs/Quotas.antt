-- What a session answers to a PUBLISH that is refused for want of room, and to another one.
use Rattle.std.proofs.Common.{◌≡◌, ℕ, ◌==◌, ◌&&◌, not, Bool, true, false, cond, is_some, List, Option, Some, None, refl, sym, ◌∙◌, subst}
use Rattle.std.specs.List.{list_any}
use Rattle.mqtt_fields.specs.declared.options.Qos.{Qos}
use Rattle.mqtt_fields.specs.declared.options.Qos.TheVariants.{AtMostOnce, AtLeastOnce, ExactlyOnce}
use Rattle.mqtt_packets.specs.declared.packet.Packet.{Packet}
use Rattle.mqtt_packets.specs.declared.packet.Packet.TheVariants as packets
use Rattle.mqtt_packets.specs.declared.publish.Publish.{Publish}
use Rattle.mqtt_topics.specs.Levels.{is_wildcard}
use Rattle.mqtt_message.specs.Accepted.{accepted}
use Rattle.mqtt_message.specs.declared.message.Message.{Message}
use Rattle.qos_handshakes.specs.Incoming.{Received, opened}
use Rattle.mqtt_sessions.specs.declared.reaction.Ask.TheVariants as server
use Rattle.mqtt_sessions.specs.Aliases.{alias_of}
use Rattle.mqtt_sessions.specs.Answers.{puback, pubrec, fits}
use Rattle.mqtt_sessions.specs.Arriving.{has_property}
use Rattle.mqtt_sessions.specs.Reaction.{Reaction}
use Rattle.mqtt_sessions.specs.State.{State}
use Rattle.law_sessions.specs.Aliases.{Topics, topic_under}
use Rattle.law_sessions.specs.Replies.{Reply, says, both, ends, reaction_of, has_hundred, is_invalid, reply_at, reply_exactly_once, reply_under, reply_publish}
use Rattle.law_runs.proofs.Acks.{Says, tells, said, true_is_not_false}

-- Quota exceeded
abbrev pub is_quota : Packet → Bool
is_quota (packets.Puback a) = a.reason == 151
is_quota (packets.Pubrec a) = a.reason == 151
is_quota _ = false

-- ---- it is said where the message is refused
twice_quota : (o : Option Bool) (r : Received) (n : ℕ) (refused : Bool) (m : Message) → tells is_quota (reply_exactly_once o r n refused m) ≡ true → refused ≡ true
twice_quota (Some true) r n refused m e = true_is_not_false (sym e)
twice_quota (Some false) r n refused m e = by (has_hundred r) e
  where
    by : (b : Bool) → tells is_quota (cond b (ends 147) (says (pubrec n 0))) ≡ true → refused ≡ true
    by true f = true_is_not_false (sym f)
    by false f = true_is_not_false (sym f)
twice_quota None r n refused m e = by (has_hundred r) refused e
  where
    by : (b c : Bool) → tells is_quota (cond b (ends 147) (cond c (says (pubrec n 151)) (both (pubrec n 0) (server.Pass m)))) ≡ true → c ≡ true
    by true c f = true_is_not_false (sym f)
    by false true f = refl
    by false false f = true_is_not_false (sym f)

at_quota : (q : Qos) (r : Received) (n : ℕ) (refused : Bool) (m : Message) → tells is_quota (reply_at q r n refused m) ≡ true → refused ≡ true
at_quota AtMostOnce r n true m e = refl
at_quota AtMostOnce r n false m e = true_is_not_false (sym e)
at_quota AtLeastOnce r n refused m e = by (has_hundred r) (is_some (opened n r)) refused e
  where
    by : (b c d : Bool) → tells is_quota (cond b (ends 147) (cond c (says (puback n 145)) (cond d (says (puback n 151)) (both (puback n 0) (server.Pass m))))) ≡ true → d ≡ true
    by true c d f = true_is_not_false (sym f)
    by false true d f = true_is_not_false (sym f)
    by false false true f = refl
    by false false false f = true_is_not_false (sym f)
at_quota ExactlyOnce r n refused m e = twice_quota (opened n r) r n refused m e

under_quota : (o : Option (List ℕ)) (s : State) (p : Publish) (now : ℕ) (room : Bool) → tells is_quota (reply_under o s p now room) ≡ true → (p.retain && not room) ≡ true
under_quota None s p now room e = true_is_not_false (sym e)
under_quota (Some topic) s p now room e = by (has_property 11 p.properties) (list_any is_wildcard p.topic) e
  where
    by : (b c : Bool) → tells is_quota (cond b (ends 130) (cond c (ends 144) (reply_at p.qos s.incoming p.identifier (p.retain && not room) (accepted (record p { topic = topic }) s.kept.client now)))) ≡ true → (p.retain && not room) ≡ true
    by true c f = true_is_not_false (sym f)
    by false true f = true_is_not_false (sym f)
    by false false f = at_quota p.qos s.incoming p.identifier (p.retain && not room) _ f

pub quota_refuses : (told : Topics) (s : State) (p : Publish) (now : ℕ) (room : Bool) (q : Packet) → is_quota q ≡ true → Says q (reply_publish told s p now room) → (p.retain && not room) ≡ true
quota_refuses told s p now room q is says_it = by (is_invalid (alias_of p)) (said is_quota q (reply_publish told s p now room) says_it ∙ is)
  where
    by : (b : Bool) → tells is_quota (cond b (ends 148) (reply_under (topic_under told p.topic (alias_of p)) s p now room)) ≡ true → (p.retain && not room) ≡ true
    by true f = true_is_not_false (sym f)
    by false f = under_quota (topic_under told p.topic (alias_of p)) s p now room f

-- ---- where it is refused nothing is asked
abbrev AsksNothing : ℕ → Reply → Type 0
AsksNothing limit x = (reaction_of limit x).ask ≡ None

says_nothing : (limit : ℕ) (q : Packet) → AsksNothing limit (says q)
says_nothing limit q = by (fits limit q) _ _ refl refl
  where
    by : (b : Bool) (y z : Reaction) → y.ask ≡ None → z.ask ≡ None → (cond b y z).ask ≡ None
    by true y z u v = u
    by false y z u v = v

if_nothing : (limit : ℕ) (b : Bool) (x y : Reply) → AsksNothing limit x → AsksNothing limit y → AsksNothing limit (cond b x y)
if_nothing limit true x y e f = e
if_nothing limit false x y e f = f

at_nothing : (limit : ℕ) (q : Qos) (r : Received) (n : ℕ) (m : Message) → AsksNothing limit (reply_at q r n true m)
at_nothing limit AtMostOnce r n m = refl
at_nothing limit AtLeastOnce r n m =
    let last = cond (is_some (opened n r)) (says (puback n 145)) (says (puback n 151)) in
    if_nothing limit (has_hundred r) (ends 147) last refl (if_nothing limit (is_some (opened n r)) (says (puback n 145)) (says (puback n 151)) (says_nothing limit (puback n 145)) (says_nothing limit (puback n 151)))
at_nothing limit ExactlyOnce r n m = by (opened n r)
  where
    by : (o : Option Bool) → AsksNothing limit (reply_exactly_once o r n true m)
    by (Some true) = says_nothing limit (pubrec n 0)
    by (Some false) = if_nothing limit (has_hundred r) (ends 147) (says (pubrec n 0)) refl (says_nothing limit (pubrec n 0))
    by None = if_nothing limit (has_hundred r) (ends 147) (says (pubrec n 151)) refl (says_nothing limit (pubrec n 151))

under_nothing : (limit : ℕ) (o : Option (List ℕ)) (s : State) (p : Publish) (now : ℕ) (room : Bool) → (p.retain && not room) ≡ true → AsksNothing limit (reply_under o s p now room)
under_nothing limit None s p now room e = refl
under_nothing limit (Some topic) s p now room e =
    let m = accepted (record p { topic = topic }) s.kept.client now in
    let x = reply_at p.qos s.incoming p.identifier (p.retain && not room) m in
    let last : AsksNothing limit x = subst (λ b. AsksNothing limit (reply_at p.qos s.incoming p.identifier b m)) (sym e) (at_nothing limit p.qos s.incoming p.identifier m) in
    if_nothing limit (has_property 11 p.properties) (ends 130) (cond (list_any is_wildcard p.topic) (ends 144) x) refl (if_nothing limit (list_any is_wildcard p.topic) (ends 144) x refl last)

pub refused_asks : (limit : ℕ) (told : Topics) (s : State) (p : Publish) (now : ℕ) (room : Bool) → (p.retain && not room) ≡ true → AsksNothing limit (reply_publish told s p now room)
refused_asks limit told s p now room e =
    let o = topic_under told p.topic (alias_of p) in
    if_nothing limit (is_invalid (alias_of p)) (ends 148) (reply_under o s p now room) refl (under_nothing limit o s p now room e)
