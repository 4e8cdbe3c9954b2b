-- The aliases that a session holds are those that the packets of its connection told.
use Rattle.std.proofs.Common.{◌≡◌, ◌≢◌, ℕ, ◌<◌, Bool, true, false, cond, List, [], ◌∷◌, Option, Some, None, refl, sym, ◌∙◌, ap, subst, inl, inr, arith}
use Rattle.std.specs.Prelude.{◌==◌, ◌&&◌, is_some, length, not, replicate}
use Rattle.std.specs.BTreeMap.{is_at, insert_entry}
use Rattle.std.specs.Ordering.{nat_cmp}
use Rattle.std.specs.declared.cmp.Ordering.TheVariants.{Equal, Greater}
use Rattle.std.proofs.lemmas.Bool.{cases_Bool, cases_eq, eq-eqb, ne_eqb}
use Rattle.std.proofs.lemmas.Cmp.{ranked}
use Rattle.mqtt_fields.specs.declared.options.Qos.{Qos}
use Rattle.mqtt_fields.specs.declared.options.Qos.TheVariants.{AtMostOnce, AtLeastOnce, ExactlyOnce}
use Rattle.mqtt_fields.specs.Properties.{first_four}
use Rattle.mqtt_packets.specs.declared.connect.Connect.{Connect}
use Rattle.mqtt_packets.specs.declared.ended.Ended.{Ended}
use Rattle.mqtt_packets.specs.declared.packet.Packet.{Packet}
use Rattle.mqtt_packets.specs.declared.packet.Packet.TheVariants as packets
use Rattle.mqtt_packets.specs.declared.publish.Publish.{Publish}
use Rattle.mqtt_packets.specs.declared.subscribe.Subscribe.{Subscribe}
use Rattle.mqtt_message.specs.declared.delivery.Delivery.{Delivery}
use Rattle.mqtt_message.specs.declared.message.Message.{Message}
use Rattle.qos_handshakes.specs.declared.answers.In.{In}
use Rattle.qos_handshakes.specs.declared.answers.In.TheVariants.{New, Repeat, InUse, OverMaximum}
use Rattle.qos_handshakes.specs.declared.answers.Rec.{Rec}
use Rattle.qos_handshakes.specs.declared.answers.Rec.TheVariants as rec
use Rattle.qos_handshakes.specs.Incoming.{opened}
use Rattle.qos_handshakes.specs.Outbox.{Outbox}
use Rattle.qos_handshakes.proofs.Arrivals.{three}
use Rattle.qos_handshakes.proofs.Indexed.{is_at-here, is_at-apart}
use Rattle.mqtt_sessions.specs.declared.link.Asked.{Asked}
use Rattle.mqtt_sessions.specs.declared.link.Asked.TheVariants.{Subscribing, Unsubscribing}
use Rattle.mqtt_sessions.specs.declared.reaction.Ask.{Ask}
use Rattle.mqtt_sessions.specs.Aliases.{Aliases, alias_of, set_by, topic_for}
use Rattle.mqtt_sessions.specs.Answers.{connack, fits, pubcomp, pubrel, suback, unsuback}
use Rattle.mqtt_sessions.specs.Arriving.{after_release, arrival_once, arrival_twice, is_unwelcome, message_in, once_by, passes_by, publish_by, refusal, release_code, setting, setting_by, twice_by}
use Rattle.mqtt_sessions.specs.Asking.{SubscribeStep, answer_by, answer_of, answer_on, unsubscribed, waiting_by, waiting_for}
use Rattle.mqtt_sessions.specs.Connecting.{OpensIf}
use Rattle.mqtt_sessions.specs.Ending.{disconnected_by, has_run_out, is_due, end_due, will_due, ticked, ticked_if, timed_out}
use Rattle.mqtt_sessions.specs.Packets.{PubrecBy, SaysUnknown, KindStep, PacketIf}
use Rattle.mqtt_sessions.specs.Reaction.{Reaction, Comes, answered}
use Rattle.mqtt_sessions.specs.Sending.{QueueIf, is_once}
use Rattle.mqtt_sessions.specs.State.{Link, State, aliases_of, heard, heard_by, limit_in, limit_of, new_session}
use Rattle.law_sessions.specs.Aliases.{Topics, given_by, given_in, later, topic_after, topic_over, topics_told}
use Rattle.law_sessions.specs.Runs.{Event, connects, queues, rooms, takes, answers, closes, ticks, finishes, loses, Step, Reacts, Run}

-- ---- an alias that is set
topic-set : (alias : ℕ) (topic : List ℕ) (known : Aliases) → topic_for alias (insert_entry nat_cmp known alias topic) ≡ Some topic
topic-set alias topic [] = rw (is_at-here alias alias refl) refl
topic-set alias topic (e ∷ es) = elim (three (nat_cmp alias e.0)) [
  | inl less ↦ rw less (rw (is_at-here alias alias refl) refl)
  | inr more ↦ elim more [
    | inl same ↦ let eq : alias ≡ e.0 = ranked alias e.0 Equal (sym same) in rw (same, is_at-here alias e.0 (sym eq)) refl
    | inr great ↦
        let apart : e.0 ≢ alias = λ z. let lt : e.0 < alias = ranked alias e.0 Greater (sym great) in omega (arith, lt, z) in
        rw great (rw (is_at-apart alias e.0 apart) (topic-set alias topic es))
  ]
]

topic-other : (set alias : ℕ) (topic : List ℕ) (known : Aliases) → set ≢ alias → topic_for alias (insert_entry nat_cmp known set topic) ≡ topic_for alias known
topic-other set alias topic [] ne = rw (is_at-apart alias set ne) refl
topic-other set alias topic (e ∷ es) ne = elim (three (nat_cmp set e.0)) [
  | inl less ↦ rw less (rw (is_at-apart alias set ne) refl)
  | inr more ↦ elim more [
    | inl same ↦ let eq : set ≡ e.0 = ranked set e.0 Equal (sym same) in rw (same, is_at-apart alias e.0 (λ z. ne (eq ∙ z))) refl
    | inr great ↦ rw great (elim (cases_Bool (is_at (nat_cmp alias) e.0)) [ inl t ↦ rw t refl | inr f ↦ rw f (topic-other set alias topic es ne) ])
  ]
]

set-told : (topic : List ℕ) (set : Option ℕ) (known : Aliases) (alias : ℕ) (t : Option (List ℕ)) → topic_for alias known ≡ t → topic_for alias (set_by topic set known) ≡ later (given_by alias set topic) t
set-told [] None known alias t e = e
set-told [] (Some a) known alias t e = e
set-told (b ∷ bs) None known alias t e = e
set-told (b ∷ bs) (Some a) known alias t e = elim (cases_eq a alias) [
  | inl same ↦ rw (eq-eqb a alias same) (subst (λ (k : ℕ). topic_for k (insert_entry nat_cmp known a (b ∷ bs)) ≡ Some (b ∷ bs)) same (topic-set a (b ∷ bs) known))
  | inr ne ↦ rw (ne_eqb a alias ne) (topic-other a alias (b ∷ bs) known ne ∙ e)
]

-- ---- what is held is what was told
abbrev pub AreTold : Topics → Option Link → Type 0
AreTold told None = Unit {0}
AreTold told (Some l) = (alias : ℕ) → topic_for alias l.aliases ≡ told alias

-- a connection keeps its aliases, or is gone
abbrev Have : Aliases → Option Link → Type 0
Have known None = ⊥
Have known (Some k) = known ≡ k.aliases

abbrev KeepsThem : Option Link → Option Link → Type 0
KeepsThem None old = Unit {0}
KeepsThem (Some l) old = Have l.aliases old

kept-told : (told : Topics) (new old : Option Link) → KeepsThem new old → AreTold told old → AreTold told new
kept-told told None old k h = tt
kept-told told (Some l) None k h = absurd k
kept-told told (Some l) (Some o) k h = λ alias. ap (topic_for alias) k ∙ h alias

kept : (o : Option Link) → KeepsThem o o
kept None = tt
kept (Some l) = refl

abbrev Keeps : State → State → Type 0
Keeps new old = KeepsThem new.link old.link

answered-keeps : (limit : ℕ) (p : Packet) (ask : Option Ask) (s : State) → Keeps (answered limit p ask s).left s
answered-keeps limit p ask s = elim (cases_Bool (fits limit p)) [ inl f ↦ rw f (kept s.link) | inr f ↦ rw f tt ]

comes-keeps : (limit : ℕ) (p : Packet) (ask : Option Ask) (s old new : State) (r : Reaction) → s.link ≡ old.link → Comes (answered limit p ask s) r new → Keeps new old
comes-keeps limit p ask s old new r e c = rw (c.1, ← e) (answered-keeps limit p ask s)

-- ---- PUBLISH
once-keeps : (a : In) (unwelcome : Bool) (limit id : ℕ) (m : Message) (s : State) → Keeps (once_by a unwelcome limit id m s).left s
once-keeps OverMaximum unwelcome limit id m s = tt
once-keeps InUse unwelcome limit id m s = answered-keeps limit _ None s
once-keeps Repeat unwelcome limit id m s = answered-keeps limit _ None s
once-keeps New true limit id m s = answered-keeps limit _ None s
once-keeps New false limit id m s = answered-keeps limit _ _ s

twice-keeps : (a : In) (unwelcome : Bool) (limit id : ℕ) (m : Message) (s : State) → Keeps (twice_by a unwelcome limit id m s).left s
twice-keeps OverMaximum unwelcome limit id m s = tt
twice-keeps InUse unwelcome limit id m s = answered-keeps limit _ None s
twice-keeps Repeat unwelcome limit id m s = answered-keeps limit _ None s
twice-keeps New true limit id m s = answered-keeps limit _ None s
twice-keeps New false limit id m s = answered-keeps limit _ _ s

passes-keeps : (q : Qos) (p : Publish) (unwelcome : Bool) (limit : ℕ) (m : Message) (s : State) → Keeps (passes_by q p unwelcome limit m s).left s
passes-keeps AtMostOnce p unwelcome limit m s = kept s.link
passes-keeps AtLeastOnce p unwelcome limit m s = once-keeps (arrival_once s.incoming p.identifier) unwelcome limit p.identifier m s
passes-keeps ExactlyOnce p unwelcome limit m s = twice-keeps (arrival_twice s.incoming p.identifier) unwelcome limit p.identifier m _

setting-told : (told : Topics) (p : Publish) (o : Option Link) → AreTold told o → AreTold (λ alias. later (given_by alias (alias_of p) p.topic) (told alias)) (setting_by o p)
setting-told told p None h = tt
setting-told told p (Some l) h = λ alias. set-told p.topic (alias_of p) l.aliases alias (told alias) (h alias)

publish-told : (told : Topics) (why : Option ℕ) (p : Publish) (now : ℕ) (room : Bool) (limit : ℕ) (s : State) → AreTold told s.link → AreTold (λ alias. later (given_by alias (alias_of p) p.topic) (told alias)) (publish_by why p now room limit s).left.link
publish-told told (Some code) p now room limit s h = tt
publish-told told None p now room limit s h =
    let m = message_in p now (setting p s) in
    kept-told (λ alias. later (given_by alias (alias_of p) p.topic) (told alias)) (passes_by p.qos p (is_unwelcome p room) limit m (setting p s)).left.link (setting_by s.link p)
    (passes-keeps p.qos p (is_unwelcome p room) limit m (setting p s)) (setting-told told p s.link h)

-- ---- any other packet
unknown-keeps : (id reason limit : ℕ) (s old new : State) (r : Reaction) → s.link ≡ old.link → SaysUnknown id reason limit s r new → Keeps new old
unknown-keeps id reason limit s old new r e (inl h) = comes-keeps limit (pubrel id 146) None s old new r e h.1
unknown-keeps id reason limit s old new r e (inr h) = rw (h.2, ← e) (kept s.link)

pubrec-keeps : (a : Rec) (id reason now limit : ℕ) (s new : State) (mid : Outbox) (r : Reaction) → PubrecBy a id reason now limit s mid r new → Keeps new s
pubrec-keeps rec.Release id reason now limit s new mid r h = comes-keeps limit (pubrel id 0) None _ s new r refl h
pubrec-keeps rec.Ended id reason now limit s new mid r h = rw h.left (kept s.link)
pubrec-keeps rec.Unknown id reason now limit s new mid r h = unknown-keeps id reason limit _ s new r refl h
pubrec-keeps rec.AtEnd id reason now limit s new mid r h = absurd h

waiting-keeps : (asked : Option Asked) (o : Option Link) → KeepsThem (waiting_by o asked) o
waiting-keeps asked None = tt
waiting-keeps asked (Some l) = refl

asks-keeps : (b : Bool) (limit : ℕ) (p : Packet) (s t : State) (w : Reaction) → Keeps t s → Keeps (cond b (answered limit p None s) (record { reaction = w; left = t })).left s
asks-keeps true limit p s t w k = answered-keeps limit p None s
asks-keeps false limit p s t w k = k

subscribe-keeps : (p : Subscribe) (limit : ℕ) (s new : State) (r : Reaction) → SubscribeStep p limit s r new → Keeps new s
subscribe-keeps p limit s new r (inl h) = rw h.1.1 tt
subscribe-keeps p limit s new r (inr h) =
    rw h.1.1 (asks-keeps (is_some (opened p.identifier s.incoming)) limit (suback p.identifier (replicate (length p.filters) 145)) s (waiting_for (Some Subscribing) s) _ (waiting-keeps (Some Subscribing) s.link))

disconnect-keeps : (o : Option ℕ) (p : Ended) (limit : ℕ) (s : State) → Keeps (disconnected_by o p limit s).left s
disconnect-keeps None p limit s = tt
disconnect-keeps (Some new) p limit s = elim (cases_Bool ((s.kept.expiry == 0) && not (new == 0))) [ inl h ↦ rw h tt | inr h ↦ rw h tt ]

kind-told : (told : Topics) (p : Packet) (now : ℕ) (room : Bool) (limit : ℕ) (s new : State) (r : Reaction) → AreTold told s.link → KindStep p now room limit s r new → AreTold (λ alias. later (given_in alias p) (told alias)) new.link
kind-told told (packets.Publish p) now room limit s new r a h = rw h.1 (publish-told told (refusal (aliases_of s.link) p) p now room limit s a)
kind-told told (packets.Puback k) now room limit s new r a h = rw h.left a
kind-told told (packets.Pubrec k) now room limit s new r a h = kept-told told new.link s.link (pubrec-keeps h.answer k.identifier k.reason now limit s new h.mid r h.goes_on) a
kind-told told (packets.Pubrel k) now room limit s new r a h =
    kept-told told new.link s.link (comes-keeps limit (pubcomp k.identifier (release_code s.incoming k.identifier)) None (record s { incoming = after_release s.incoming k.identifier }) s new r refl h) a
kind-told told (packets.Pubcomp k) now room limit s new r a h = rw h.left a
kind-told told (packets.Subscribe p) now room limit s new r a h = kept-told told new.link s.link (subscribe-keeps p limit s new r h) a
kind-told told (packets.Unsubscribe p) now room limit s new r a h =
    rw h.1
    (kept-told told (unsubscribed p limit s).left.link s.link
    (asks-keeps (is_some (opened p.identifier s.incoming)) limit (unsuback p.identifier (replicate (length p.filters) 145)) s (waiting_for (Some Unsubscribing) s) _ (waiting-keeps (Some Unsubscribing) s.link)) a)
kind-told told packets.Pingreq now room limit s new r a h = kept-told told new.link s.link (comes-keeps limit packets.Pingresp None s s new r refl h) a
kind-told told (packets.Disconnect p) now room limit s new r a h = rw h.1 (kept-told told (disconnected_by (first_four 17 p.properties) p limit s).left.link s.link (disconnect-keeps (first_four 17 p.properties) p limit s) a)
kind-told told (packets.Connect p) now room limit s new r a h = rw h.1 tt
kind-told told (packets.Connack p) now room limit s new r a h = rw h.1 tt
kind-told told (packets.Suback p) now room limit s new r a h = rw h.1 tt
kind-told told (packets.Unsuback p) now room limit s new r a h = rw h.1 tt
kind-told told packets.Pingresp now room limit s new r a h = rw h.1 tt
kind-told told (packets.Auth p) now room limit s new r a h = rw h.1 tt

heard-told : (told : Topics) (o : Option Link) (now : ℕ) → AreTold told o → AreTold told (heard_by o now)
heard-told told None now h = tt
heard-told told (Some l) now h = h

packet-told : (told : Topics) (o : Option Link) (p : Packet) (now : ℕ) (room : Bool) (old new : State) (r : Reaction) → old.link ≡ o → AreTold told old.link → PacketIf (limit_of o) p now room old r new → AreTold (λ alias. later (given_in alias p) (told alias)) new.link
packet-told told None p now room old new r e a h = rw (h.1, e) tt
packet-told told (Some l) p now room old new r e a h = kind-told told p now room l.limit (heard old now) new r (heard-told told old.link now a) h

-- ---- any other event
opens-told : (fits : Bool) (old new : State) (c : Connect) (p : Packet) (room : Option ℕ) (now : ℕ) (r : Reaction) → OpensIf fits old c p room now r new → AreTold (λ alias. None) new.link
opens-told true old new c p room now r h = rw h.left (λ alias. refl)
opens-told false old new c p room now r h = rw h.1 tt

queue-keeps : (b : Bool) (old new : State) (d : Delivery) (now : ℕ) (r : Reaction) → QueueIf b old d now r new → Keeps new old
queue-keeps true old new d now r q = rw q.1 (kept old.link)
queue-keeps false old new d now r (inl q) = rw q.left (kept old.link)
queue-keeps false old new d now r (inr q) = rw q.left (kept old.link)

codes-keep : (a : Option Asked) (limit id : ℕ) (codes : List ℕ) (s : State) → Keeps (answer_by a limit id codes s).left s
codes-keep None limit id codes s = kept s.link
codes-keep (Some a) limit id codes s = elim (cases_Bool (fits limit (answer_of a id codes))) [ inl f ↦ rw f (waiting-keeps None s.link) | inr f ↦ rw f tt ]

answer-keeps : (o : Option Link) (id : ℕ) (codes : List ℕ) (s : State) → Keeps (answer_on o id codes s).left s
answer-keeps None id codes s = kept s.link
answer-keeps (Some l) id codes s = codes-keep l.asked l.limit id codes s

timed-keeps : (o : Option Link) (s : State) → Keeps (timed_out o s).left s
timed-keeps None s = kept s.link
timed-keeps (Some l) s = tt

tick-keeps : (a b c : Bool) (now : ℕ) (s : State) → Keeps (ticked_if a b c now s).left s
tick-keeps true b c now s = timed-keeps s.link s
tick-keeps false true c now s = kept s.link
tick-keeps false false c now s = kept s.link

told-step : (told : Topics) (old new : State) (e : Event) (r : Reaction) → AreTold told old.link → Reacts old e r new → AreTold (λ alias. topic_after alias (told alias) e) new.link
told-step told old new (connects c continued room now) r a h = opens-told (fits (limit_in c.properties) (connack continued c.client old.kept.client)) old new c (connack continued c.client old.kept.client) room now r h.1
told-step told old new (queues d now) r a h = kept-told told new.link old.link (queue-keeps (is_once d.qos) old new d now r h) a
told-step told old new (rooms bytes now) r a h = kept-told told new.link old.link (rw h.left (kept old.link)) a
told-step told old new (takes p now room) r a h = packet-told told old.link p now room old new r refl a h
told-step told old new (answers id codes) r a h = rw h.1 (kept-told told (answer_on old.link id codes old).left.link old.link (answer-keeps old.link id codes old) a)
told-step told old new (closes now) r a h = rw h.1 tt
told-step told old new (ticks now) r a h = rw h.1 (kept-told told (ticked now old).left.link old.link (tick-keeps (has_run_out old.link now) (is_due (will_due old.kept) now) (is_due (end_due old.kept) now) now old) a)
told-step told old new (finishes now) r a h = rw h.1 tt
told-step told old new loses r a h = rw h.link tt

told-run : (told : Topics) (old : State) (steps : List Step) (end : State) → AreTold told old.link → Run old steps end → AreTold (λ alias. topic_over alias (told alias) steps) end.link
told-run told old [] end a h = rw h a
told-run told old (s ∷ ss) end a h = told-run (λ alias. topic_after alias (told alias) s.event) h.0 ss end (told-step told old h.0 s.event s.reaction a h.1) h.2

-- the topics that a connection holds
abbrev pub held : Link → Topics
held l = λ alias. topic_for alias l.aliases

pub held-told : (client : List ℕ) (steps : List Step) (end : State) (l : Link) → Run (new_session client) steps end → end.link ≡ Some l → held l ≡ topics_told steps
held-told client steps end l run e =
    let all : (alias : ℕ) → topic_for alias l.aliases ≡ topic_over alias None steps = subst (AreTold (topics_told steps)) e (told-run (λ alias. None) (new_session client) steps end tt run) in
    λ i alias. all alias i
