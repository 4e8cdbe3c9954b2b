-- The events that leave the handshakes of what is sent.
use Rattle.std.proofs.Common.{◌≡◌, ℕ, Bool, true, false, List, [], ◌∷◌, ◌⊎◌, Option, Some, None, IsSome, refl, ◌∙◌, inl, inr}
use Rattle.std.specs.Prelude.{is_some, cond, not, ◌==◌, ◌&&◌}
use Rattle.std.specs.List.{AllByRecursion}
use Rattle.std.proofs.lemmas.Bool.{cases_Bool, false≢true}
use Rattle.mqtt_fields.specs.declared.options.Qos.{Qos}
use Rattle.mqtt_fields.specs.declared.options.Qos.TheVariants.{AtMostOnce, AtLeastOnce, ExactlyOnce}
use Rattle.mqtt_packets.specs.declared.packet.Packet.{Packet}
use Rattle.mqtt_packets.specs.declared.packet.Packet.TheVariants as packets
use Rattle.mqtt_packets.specs.declared.publish.Publish.{Publish}
use Rattle.mqtt_packets.specs.declared.ended.Ended.{Ended}
use Rattle.mqtt_packets.specs.declared.subscribe.Subscribe.{Subscribe}
use Rattle.mqtt_packets.specs.declared.unsubscribe.Unsubscribe.{Unsubscribe}
use Rattle.mqtt_message.specs.declared.message.Message.{Message}
use Rattle.qos_handshakes.specs.declared.answers.In.{In}
use Rattle.qos_handshakes.specs.declared.answers.In.TheVariants.{New, Repeat, InUse, OverMaximum}
use Rattle.qos_handshakes.specs.Incoming.{opened}
use Rattle.mqtt_sessions.specs.declared.link.Asked.{Asked}
use Rattle.mqtt_sessions.specs.declared.reaction.Ask.{Ask}
use Rattle.mqtt_sessions.specs.declared.reaction.Output.{Output}
use Rattle.mqtt_sessions.specs.declared.reaction.Output.TheVariants as out
use Rattle.mqtt_sessions.specs.Answers as answer_packets
use Rattle.mqtt_sessions.specs.Answers.{fits}
use Rattle.mqtt_sessions.specs.Arriving.{refusal, message_in, setting, setting_by, is_unwelcome, arrival_once, arrival_twice, once_by, twice_by, passes_by, publish_by}
use Rattle.mqtt_sessions.specs.Asking.{SubscribeStep, subscribed, unsubscribed, asking, answer_of, answer_by, answer_on, waiting_for}
use Rattle.mqtt_sessions.specs.Ending.{disconnected_by, will_after, passes_will, timed_out, ticked_if, ticked}
use Rattle.mqtt_sessions.specs.Packets.{PubackStep, PubcompStep, PubrecStep, KindStep}
use Rattle.mqtt_sessions.specs.Reaction.{Reaction, Outcome, Comes, answered, refused, nothing, packet_of}
use Rattle.mqtt_sessions.specs.State.{State, Link, aliases_of, cut}
use Rattle.law_sessions.specs.Sizes.{EndFits}
use Rattle.law_sessions.specs.Sends.{sent_in, sent_once_in, marks_in}

-- an open connection has this limit
abbrev pub HasLimit : ℕ → Option Link → Type 0
HasLimit limit None = Unit {0}
HasLimit limit (Some l) = l.limit ≡ limit

-- each packet is an answer, and fits
abbrev pub AreAnswers : ℕ → List Output → Type 0
AreAnswers limit [] = Unit {0}
AreAnswers limit (out.Publish p ∷ ps) = ⊥
AreAnswers limit (out.Answer p ∷ ps) = (fits limit p ≡ true) × AreAnswers limit ps

pub record IsQuiet (limit : ℕ) (old : State) (r : Reaction) (new : State) : Type 0 where
  pub plain : AreAnswers limit r.packets
  pub same : new.outbox ≡ old.outbox
  pub held : new.room ≡ old.room
  pub limited : HasLimit limit new.link
  pub last : EndFits limit r.end
  pub ends : IsSome r.end → (r.packets ≡ []) × (new.link ≡ None)
  pub stays : r.end ≡ None → is_some new.link ≡ is_some old.link

pub none-sent : (limit : ℕ) (ps : List Output) → AreAnswers limit ps → sent_in ps ≡ []
none-sent limit [] a = refl
none-sent limit (out.Publish p ∷ ps) a = absurd a
none-sent limit (out.Answer p ∷ ps) a = none-sent limit ps a.1

pub none-once : (limit : ℕ) (ps : List Output) → AreAnswers limit ps → sent_once_in ps ≡ []
none-once limit [] a = refl
none-once limit (out.Publish p ∷ ps) a = absurd a
none-once limit (out.Answer p ∷ ps) a = none-once limit ps a.1

pub answers-fit : (limit now : ℕ) (ps : List Output) → AreAnswers limit ps → AllByRecursion (λ (o : Output). fits limit (packet_of now o) ≡ true) ps
answers-fit limit now [] a = tt
answers-fit limit now (out.Publish p ∷ ps) a = absurd a
answers-fit limit now (out.Answer p ∷ ps) a = (a.0, answers-fit limit now ps a.1)

pub none-some : {A : Type 0} (o : Option A) → o ≡ None → IsSome o → ⊥
none-some None e some = false≢true some
none-some (Some a) e some = (cc)

-- nothing is sent, and the connection stays
pub still : (limit : ℕ) (old new : State) (ask : Option Ask) (over full : Bool) → new.outbox ≡ old.outbox → new.room ≡ old.room → is_some new.link ≡ is_some old.link → HasLimit limit new.link
    → IsQuiet limit old (record { packets = []; ask = ask; end = None; over = over; full = full }) new
still limit old new ask over full same held link is = record { plain = tt; same = same; held = held; limited = is; last = tt; ends = λ t. absurd (false≢true t); stays = λ _. link }

-- nothing is sent, and the connection is cut
pub cuts : (limit : ℕ) (old s : State) (ask : Option Ask) (code : ℕ) → EndFits limit (Some code) → s.outbox ≡ old.outbox → s.room ≡ old.room → IsQuiet limit old (record nothing { ask = ask; end = Some code }) (cut s)
cuts limit old s ask code fit same held = record { plain = tt; same = same; held = held; limited = tt; last = fit; ends = λ _. (refl, refl); stays = λ t. (cc) }

pub quiet-answered : (limit : ℕ) (p : Packet) (ask : Option Ask) (old s : State) → s.outbox ≡ old.outbox → s.room ≡ old.room → is_some s.link ≡ is_some old.link → HasLimit limit s.link → IsQuiet limit old (answered limit p ask s).reaction (answered limit p ask s).left
quiet-answered limit p ask old s same held link is = elim (cases_Bool (fits limit p)) [
  | inl f ↦ rw f (record { plain = (f, tt); same = same; held = held; limited = is; last = tt; ends = λ t. absurd (false≢true t); stays = λ _. link })
  | inr f ↦ rw f (cuts limit old s ask 0 (inl refl) same held)
]

refused-fits : (limit code : ℕ) → EndFits limit (Some (cond (fits limit (answer_packets.disconnect code)) code 0))
refused-fits limit code = elim (cases_Bool (fits limit (answer_packets.disconnect code))) [ inl f ↦ rw f (inr f) | inr f ↦ rw f (inl refl) ]

pub quiet-refused : (limit code : ℕ) (old s : State) → s.outbox ≡ old.outbox → s.room ≡ old.room → IsQuiet limit old (refused limit code s).reaction (refused limit code s).left
quiet-refused limit code old s same held = cuts limit old s None (cond (fits limit (answer_packets.disconnect code)) code 0) (refused-fits limit code) same held

by-comes : (limit : ℕ) (old new : State) (o : Outcome) (r : Reaction) → Comes o r new → IsQuiet limit old o.reaction o.left → IsQuiet limit old r new
by-comes limit old new o r c q = rw c.0 (rw c.1 q)

-- ---- PUBLISH and PUBREL
abbrev IsQuietly : ℕ → State → Outcome → Type 0
IsQuietly limit old o = IsQuiet limit old o.reaction o.left

quiet-once : (a : In) (unwelcome : Bool) (limit id : ℕ) (m : Message) (s : State) → HasLimit limit s.link → IsQuietly limit s (once_by a unwelcome limit id m s)
quiet-once OverMaximum unwelcome limit id m s is = quiet-refused limit 147 s s refl refl
quiet-once InUse unwelcome limit id m s is = quiet-answered limit (answer_packets.puback id 145) None s s refl refl refl is
quiet-once Repeat unwelcome limit id m s is = quiet-answered limit (answer_packets.puback id 145) None s s refl refl refl is
quiet-once New true limit id m s is = quiet-answered limit (answer_packets.puback id 151) None s s refl refl refl is
quiet-once New false limit id m s is = quiet-answered limit (answer_packets.puback id 0) _ s s refl refl refl is

quiet-twice : (a : In) (unwelcome : Bool) (limit id : ℕ) (m : Message) (old s : State) → s.outbox ≡ old.outbox → s.room ≡ old.room → is_some s.link ≡ is_some old.link → HasLimit limit s.link → IsQuietly limit old (twice_by a unwelcome limit id m s)
quiet-twice OverMaximum unwelcome limit id m old s same held link is = quiet-refused limit 147 old s same held
quiet-twice InUse unwelcome limit id m old s same held link is = quiet-answered limit (answer_packets.pubrec id 0) None old s same held link is
quiet-twice Repeat unwelcome limit id m old s same held link is = quiet-answered limit (answer_packets.pubrec id 0) None old s same held link is
quiet-twice New true limit id m old s same held link is = quiet-answered limit (answer_packets.pubrec id 151) None old s same held link is
quiet-twice New false limit id m old s same held link is = quiet-answered limit (answer_packets.pubrec id 0) _ old s same held link is

quiet-passes : (q : Qos) (p : Publish) (unwelcome : Bool) (limit : ℕ) (m : Message) (s : State) → HasLimit limit s.link → IsQuietly limit s (passes_by q p unwelcome limit m s)
quiet-passes AtMostOnce p unwelcome limit m s is = still limit s s _ false false refl refl refl is
quiet-passes AtLeastOnce p unwelcome limit m s is = quiet-once (arrival_once s.incoming p.identifier) unwelcome limit p.identifier m s is
quiet-passes ExactlyOnce p unwelcome limit m s is = quiet-twice (arrival_twice s.incoming p.identifier) unwelcome limit p.identifier m s _ refl refl refl is

-- where the alias of a PUBLISH was set before
setting-limit : (limit : ℕ) (p : Publish) (o : Option Link) → HasLimit limit o → HasLimit limit (setting_by o p)
setting-limit limit p None is = tt
setting-limit limit p (Some l) is = is

setting-open : (p : Publish) (o : Option Link) → is_some (setting_by o p) ≡ is_some o
setting-open p None = refl
setting-open p (Some l) = refl

quiet-from : (limit : ℕ) (old s : State) (r : Reaction) (new : State) → s.outbox ≡ old.outbox → s.room ≡ old.room → is_some s.link ≡ is_some old.link → IsQuiet limit s r new → IsQuiet limit old r new
quiet-from limit old s r new e h link q = record { plain = q.plain; same = q.same ∙ e; held = q.held ∙ h; limited = q.limited; last = q.last; ends = q.ends; stays = λ t. q.stays t ∙ link }

quiet-publish : (o : Option ℕ) (p : Publish) (now : ℕ) (room : Bool) (limit : ℕ) (s : State) → HasLimit limit s.link → IsQuietly limit s (publish_by o p now room limit s)
quiet-publish (Some code) p now room limit s is = quiet-refused limit code s s refl refl
quiet-publish None p now room limit s is =
    quiet-from limit s (setting p s) _ _ refl refl (setting-open p s.link) (quiet-passes p.qos p (is_unwelcome p room) limit (message_in p now (setting p s)) (setting p s) (setting-limit limit p s.link is))

-- ---- SUBSCRIBE and UNSUBSCRIBE, and their codes
quiet-waiting : (limit : ℕ) (asked : Option Asked) (o : Option Link) (s : State) → s.link ≡ o → HasLimit limit o → HasLimit limit (waiting_for asked s).link
quiet-waiting limit asked None s e is = rw e tt
quiet-waiting limit asked (Some l) s e is = rw e is

waiting-link : (asked : Option Asked) (o : Option Link) (s : State) → s.link ≡ o → is_some (waiting_for asked s).link ≡ is_some s.link
waiting-link asked None s e = rw e refl
waiting-link asked (Some l) s e = rw e refl

quiet-asking : (limit : ℕ) (ask : Ask) (asked : Asked) (s : State) → HasLimit limit s.link → IsQuietly limit s (asking ask asked s)
quiet-asking limit ask asked s is = still limit s _ (Some ask) false false refl refl (waiting-link (Some asked) s.link s refl) (quiet-waiting limit (Some asked) s.link s refl is)

quiet-subscribed : (p : Subscribe) (limit : ℕ) (s : State) → HasLimit limit s.link → IsQuietly limit s (subscribed p limit s)
quiet-subscribed p limit s is = elim (cases_Bool (is_some (opened p.identifier s.incoming))) [
  | inl t ↦ rw t (quiet-answered limit _ None s s refl refl refl is)
  | inr t ↦ rw t (quiet-asking limit _ _ s is)
]

quiet-unsubscribed : (p : Unsubscribe) (limit : ℕ) (s : State) → HasLimit limit s.link → IsQuietly limit s (unsubscribed p limit s)
quiet-unsubscribed p limit s is = elim (cases_Bool (is_some (opened p.identifier s.incoming))) [
  | inl t ↦ rw t (quiet-answered limit _ None s s refl refl refl is)
  | inr t ↦ rw t (quiet-asking limit _ _ s is)
]

quiet-subscribe : (p : Subscribe) (limit : ℕ) (s : State) (r : Reaction) (new : State) → HasLimit limit s.link → SubscribeStep p limit s r new → IsQuiet limit s r new
quiet-subscribe p limit s r new is (inl h) = by-comes limit s new _ r h.1 (quiet-refused limit 130 s s refl refl)
quiet-subscribe p limit s r new is (inr h) = by-comes limit s new _ r h.1 (quiet-subscribed p limit s is)

quiet-codes : (a : Option Asked) (l : Link) (id : ℕ) (codes : List ℕ) (s : State) → s.link ≡ Some l → IsQuietly l.limit s (answer_by a l.limit id codes s)
quiet-codes None l id codes s e = still l.limit s s None false false refl refl refl (rw e refl)
quiet-codes (Some a) l id codes s e =
    quiet-answered l.limit (answer_of a id codes) None s (waiting_for None s) refl refl (waiting-link None (Some l) s e) (quiet-waiting l.limit None (Some l) s e refl)

pub quiet-answer : (o : Option Link) (limit id : ℕ) (codes : List ℕ) (s : State) (r : Reaction) (new : State) → s.link ≡ o → HasLimit limit o → Comes (answer_on o id codes s) r new → IsQuiet limit s r new
quiet-answer None limit id codes s r new e is c = by-comes limit s new _ r c (still limit s s None false false refl refl refl (rw e tt))
quiet-answer (Some l) limit id codes s r new e is c = by-comes limit s new _ r c (rw (← is) (quiet-codes l.asked l id codes s e))

-- ---- ends
quiet-left : (o : Option ℕ) (p : Ended) (limit : ℕ) (s : State) → IsQuietly limit s (disconnected_by o p limit s)
quiet-left None p limit s = cuts limit s (record s { kept = record s.kept { will = will_after p.reason s.kept.will } }) None 0 (inl refl) refl refl
quiet-left (Some expiry) p limit s = elim (cases_Bool ((s.kept.expiry == 0) && not (expiry == 0))) [
  | inl t ↦ rw t (quiet-refused limit 130 s s refl refl)
  | inr t ↦ rw t (cuts limit s (record s { kept = record s.kept { expiry = expiry; will = will_after p.reason s.kept.will } }) None 0 (inl refl) refl refl)
]

pub quiet-will : (limit now : ℕ) (over : Bool) (s : State) → HasLimit limit s.link → IsQuietly limit s (passes_will now over s)
quiet-will limit now over s is = still limit s _ _ over false refl refl refl is

quiet-timed : (o : Option Link) (limit : ℕ) (s : State) → s.link ≡ o → HasLimit limit o → IsQuietly limit s (timed_out o s)
quiet-timed None limit s e is = still limit s s None false false refl refl refl (rw e tt)
quiet-timed (Some l) limit s e is = rw (← is) (quiet-refused l.limit 141 s s refl refl)

quiet-ticked : (a b c : Bool) (limit now : ℕ) (s : State) → HasLimit limit s.link → IsQuietly limit s (ticked_if a b c now s)
quiet-ticked true b c limit now s is = quiet-timed s.link limit s refl is
quiet-ticked false true c limit now s is = quiet-will limit now false s is
quiet-ticked false false c limit now s is = still limit s s None c false refl refl refl is

pub quiet-tick : (limit now : ℕ) (s : State) (r : Reaction) (new : State) → HasLimit limit s.link → Comes (ticked now s) r new → IsQuiet limit s r new
quiet-tick limit now s r new is c = by-comes limit s new _ r c (quiet-ticked _ _ _ limit now s is)

-- ---- packets
-- those that answer what was sent
abbrev pub IsHandshake : Packet → ℕ → ℕ → State → Reaction → State → Type 0
IsHandshake (packets.Puback a) now limit s r new = PubackStep a.identifier now limit s r new
IsHandshake (packets.Pubrec a) now limit s r new = PubrecStep a.identifier a.reason now limit s r new
IsHandshake (packets.Pubcomp a) now limit s r new = PubcompStep a.identifier now limit s r new
IsHandshake p now limit s r new = ⊥

-- any other leaves the outbox
pub kinds : (p : Packet) (now : ℕ) (room : Bool) (limit : ℕ) (s : State) (r : Reaction) (new : State) → HasLimit limit s.link → KindStep p now room limit s r new → (IsQuiet limit s r new × (marks_in p ≡ [])) ⊎ IsHandshake p now limit s r new
kinds (packets.Publish p) now room limit s r new is h = inl (by-comes limit s new _ r h (quiet-publish (refusal (aliases_of s.link) p) p now room limit s is), refl)
kinds (packets.Puback a) now room limit s r new is h = inr h
kinds (packets.Pubrec a) now room limit s r new is h = inr h
kinds (packets.Pubrel a) now room limit s r new is h = inl (by-comes limit s new _ r h (quiet-answered limit _ None s _ refl refl refl is), refl)
kinds (packets.Pubcomp a) now room limit s r new is h = inr h
kinds (packets.Subscribe p) now room limit s r new is h = inl (quiet-subscribe p limit s r new is h, refl)
kinds (packets.Unsubscribe p) now room limit s r new is h = inl (by-comes limit s new _ r h (quiet-unsubscribed p limit s is), refl)
kinds packets.Pingreq now room limit s r new is h = inl (by-comes limit s new _ r h (quiet-answered limit _ None s s refl refl refl is), refl)
kinds (packets.Disconnect p) now room limit s r new is h = inl (by-comes limit s new _ r h (quiet-left _ p limit s), refl)
kinds (packets.Connect p) now room limit s r new is h = inl (by-comes limit s new _ r h (quiet-refused limit 130 s s refl refl), refl)
kinds (packets.Connack p) now room limit s r new is h = inl (by-comes limit s new _ r h (quiet-refused limit 130 s s refl refl), refl)
kinds (packets.Suback p) now room limit s r new is h = inl (by-comes limit s new _ r h (quiet-refused limit 130 s s refl refl), refl)
kinds (packets.Unsuback p) now room limit s r new is h = inl (by-comes limit s new _ r h (quiet-refused limit 130 s s refl refl), refl)
kinds packets.Pingresp now room limit s r new is h = inl (by-comes limit s new _ r h (quiet-refused limit 130 s s refl refl), refl)
kinds (packets.Auth p) now room limit s r new is h = inl (by-comes limit s new _ r h (quiet-refused limit 130 s s refl refl), refl)
