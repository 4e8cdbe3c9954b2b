use Rattle.qos_handshakes.specs.Touched.{is_in}
-- Each PUBLISH, PUBREL, SUBSCRIBE and UNSUBSCRIBE is answered as the packets before it say.
use Rattle.std.proofs.Common.{◌≡◌, ℕ, ◌<◌, ◌≤◌, Bool, true, false, cond, List, [], ◌∷◌, ◌++◌, Option, Some, None, length, refl, sym, ◌∙◌, ap, arith, inl, inr}
use Rattle.std.specs.Prelude.{◌&&◌, not, is_some, replicate}
use Rattle.std.specs.List.{list_any}
use Rattle.std.proofs.lemmas.Bool.{cases_Bool, leb-true, leb-false, le-leb, false≢true}
use Rattle.mqtt_fields.specs.declared.options.Qos.{Qos}
use Rattle.mqtt_fields.specs.declared.options.Qos.TheVariants.{AtMostOnce, AtLeastOnce, ExactlyOnce}
use Rattle.mqtt_fields.specs.Properties.{first_two}
use Rattle.mqtt_packets.specs.declared.packet.Packet.{Packet}
use Rattle.mqtt_packets.specs.declared.packet.Packet.TheVariants as packets
use Rattle.mqtt_packets.specs.declared.publish.Publish.{Publish}
use Rattle.mqtt_topics.specs.Levels.{is_wildcard}
use Rattle.mqtt_message.specs.Accepted.{accepted}
use Rattle.mqtt_message.specs.declared.message.Message.{Message}
use Rattle.qos_handshakes.specs.Incoming.{Received, opened, opened_here}
use Rattle.law_handshakes.proofs.ChosenLaws.{append-nil}
use Rattle.mqtt_sessions.specs.declared.reaction.Ask.{Ask}
use Rattle.mqtt_sessions.specs.declared.reaction.Ask.TheVariants as server
use Rattle.mqtt_sessions.specs.declared.reaction.Output.TheVariants.{Answer}
use Rattle.mqtt_sessions.specs.Answers.{puback, pubrec, pubcomp, suback, unsuback, disconnect, fits}
use Rattle.mqtt_sessions.specs.Arriving.{has_property}
use Rattle.mqtt_sessions.specs.Reaction.{Reaction, nothing}
use Rattle.mqtt_sessions.specs.State.{Link, State, new_session}
use Rattle.mqtt_sessions.proofs.LengthLaws.{puback_length, pubrec_length, pubcomp_length, disconnect_fit}
use Rattle.law_sessions.specs.Aliases.{Topics, topic_under, topics_told}
use Rattle.law_sessions.specs.Replies.{Reply, says, asks, both, ends, reaction_of, has_hundred, is_invalid, reply_exactly_once, reply_at, reply_under, reply_publish, reply_request, MakesRoom, then_sends, IsReplied}
use Rattle.law_sessions.specs.Runs.{Step, takes, Reacts, Run}
use Rattle.law_sessions.proofs.QuietLaws.{HasLimit}
use Rattle.law_sessions.proofs.ReplyLaws.{keeps_replies}
use Rattle.law_sessions.proofs.SilenceLaws.{run-split}
use Rattle.law_deliveries.specs.Open.{OpenExchanges, open_told, connected_told}
use Rattle.law_deliveries.specs.Publishes.{Verdict, passed_on, repeated, in_use, over_quota, exceeded, FaresOnce, FaresTwice, GetsBack, IsPassedOn, AnswersAt, fault_under, fault_in, message_under, message_told, AnswersUnless, KeepsPublishes, KeepsPubrels}
use Rattle.law_deliveries.specs.Requests.{AsksOrSays, AsksBy, KeepsRequests}
use Rattle.law_deliveries.proofs.OpenLaws.{Knows, known-none, known-some, known-not-here, known-open}
use Rattle.law_deliveries.proofs.WalkLaws.{stands}

-- ---- what is short is sent
said : (limit : ℕ) (p : Packet) → fits limit p ≡ true → reaction_of limit (says p) ≡ record nothing { packets = Answer p ∷ [] }
said limit p f = rw f refl

said-both : (limit : ℕ) (p : Packet) (a : Ask) → fits limit p ≡ true → reaction_of limit (both p a) ≡ record nothing { packets = Answer p ∷ []; ask = Some a }
said-both limit p a f = rw f refl

ended : (limit code : ℕ) → 5 ≤ limit → 0 < code → reaction_of limit (ends code) ≡ record nothing { end = Some code }
ended limit code long some =
    let f : fits limit (disconnect code) ≡ true = sym (disconnect_fit limit code some) ∙ le-leb 3 limit (omega (arith, long)) in
    rw f refl

module _ (limit : ℕ) (long : 5 ≤ limit) where
  puback-fits : (id : ℕ) → (fits limit (puback id 0) ≡ true) × (fits limit (puback id 145) ≡ true) × (fits limit (puback id 151) ≡ true)
  puback-fits id = (rw (puback_length id 0) (le-leb 4 limit (omega (arith, long))), rw (puback_length id 145) (le-leb 5 limit long), rw (puback_length id 151) (le-leb 5 limit long))

  pubrec-fits : (id : ℕ) → (fits limit (pubrec id 0) ≡ true) × (fits limit (pubrec id 151) ≡ true)
  pubrec-fits id = (rw (pubrec_length id 0) (le-leb 4 limit (omega (arith, long))), rw (pubrec_length id 151) (le-leb 5 limit long))

  pubcomp-fits : (id : ℕ) (b : Bool) → fits limit (pubcomp id (cond b 0 146)) ≡ true
  pubcomp-fits id true = rw (pubcomp_length id 0) (le-leb 4 limit (omega (arith, long)))
  pubcomp-fits id false = rw (pubcomp_length id 146) (le-leb 5 limit long)

-- ---- PUBLISH
module _ (limit : ℕ) (long : 5 ≤ limit) (o : OpenExchanges) (held : Received) (k : Knows o held) (r : Reaction) where
  full : has_hundred held ≡ true → 100 ≤ length o.here
  full t = let le = leb-true 100 (opened_here held) t in let same = k.count in omega (arith, le, same)

  not-full : has_hundred held ≡ false → length o.here < 100
  not-full f = let lt = leb-false 100 (opened_here held) f in let same = k.count in omega (arith, lt, same)

  at-most-answered : (refused : Bool) (m : Message) (id : ℕ) → r ≡ reaction_of limit (reply_at AtMostOnce held id refused m) → IsPassedOn refused m r
  at-most-answered true m id is = is
  at-most-answered false m id is = is

  once-answered : (refused : Bool) (m : Message) (id : ℕ) → r ≡ reaction_of limit (reply_at AtLeastOnce held id refused m) → (v : Verdict) × FaresOnce o id refused v × GetsBack (puback id) m v r
  once-answered refused m id is = elim (cases_Bool (has_hundred held)) [
    | inl t ↦ (exceeded, full t, rw t at is ∙ ended limit 147 long (omega arith))
    | inr t ↦ elim (cases_Bool (is_some (opened id held))) [
      | inl u ↦ (in_use, (not-full t, sym (known-open o held id k) ∙ u), rw (t, u) at is ∙ said limit (puback id 145) (puback-fits limit long id).1)
      | inr u ↦
          let new : is_in id o.all ≡ false = sym (known-open o held id k) ∙ u in
          elim (cases_Bool refused) [
            | inl v ↦ (over_quota, (not-full t, new, v), rw (t, u, v) at is ∙ said limit (puback id 151) (puback-fits limit long id).2)
            | inr v ↦ (passed_on, (not-full t, new, v), rw (t, u, v) at is ∙ said-both limit (puback id 0) (server.Pass m) (puback-fits limit long id).0)
          ]
    ]
  ]

  twice-answered : (x : Option Bool) (refused : Bool) (m : Message) (id : ℕ) → opened id held ≡ x → r ≡ reaction_of limit (reply_exactly_once x held id refused m) → (v : Verdict) × FaresTwice o id refused v × GetsBack (pubrec id) m v r
  twice-answered (Some true) refused m id e is = (repeated, inl (known-some o held id true k e).1, is ∙ said limit (pubrec id 0) (pubrec-fits limit long id).0)
  twice-answered (Some false) refused m id e is =
      let known = known-some o held id false k e in
      elim (cases_Bool (has_hundred held)) [
        | inl t ↦ (exceeded, (full t, known.1), rw t at is ∙ ended limit 147 long (omega arith))
        | inr t ↦ (repeated, inr (not-full t, known.0), rw t at is ∙ said limit (pubrec id 0) (pubrec-fits limit long id).0)
      ]
  twice-answered None refused m id e is = elim (cases_Bool (has_hundred held)) [
    | inl t ↦ (exceeded, (full t, known-not-here o held id k e), rw t at is ∙ ended limit 147 long (omega arith))
    | inr t ↦
        let new : is_in id o.all ≡ false = known-none o held id k e in
        elim (cases_Bool refused) [
          | inl v ↦ (over_quota, (not-full t, new, v), rw (t, v) at is ∙ said limit (pubrec id 151) (pubrec-fits limit long id).1)
          | inr v ↦ (passed_on, (not-full t, new, v), rw (t, v) at is ∙ said-both limit (pubrec id 0) (server.Pass m) (pubrec-fits limit long id).0)
        ]
  ]

  at-answered : (q : Qos) (refused : Bool) (m : Message) (id : ℕ) → r ≡ reaction_of limit (reply_at q held id refused m) → AnswersAt q o id refused m r
  at-answered AtMostOnce refused m id is = at-most-answered refused m id is
  at-answered AtLeastOnce refused m id is = once-answered refused m id is
  at-answered ExactlyOnce refused m id is = twice-answered (opened id held) refused m id refl is

  unless : (p : Publish) (room : Bool) (m : Message) (b : Bool) (code : ℕ) (x : Option ℕ) (y : Reply) → 0 < code → (r ≡ reaction_of limit y → AnswersUnless x o p room m r) → r ≡ reaction_of limit (cond b (ends code) y) → AnswersUnless (cond b (Some code) x) o p room m r
  unless p room m true code x y some f is = is ∙ ended limit code long some
  unless p room m false code x y some f is = f is

  under-answered : (topic : Option (List ℕ)) (client : List ℕ) (s : State) (p : Publish) (now : ℕ) (room : Bool) → s.incoming ≡ held → s.kept.client ≡ client → r ≡ reaction_of limit (reply_under topic s p now room)
      → AnswersUnless (fault_under topic p) o p room (message_under topic client p now) r
  under-answered None client s p now room same own is = is ∙ ended limit 130 long (omega arith)
  under-answered (Some topic) client s p now room same own is =
      let m = accepted (record p { topic = topic }) client now in
      let y = reply_at p.qos s.incoming p.identifier (p.retain && not room) (accepted (record p { topic = topic }) s.kept.client now) in
      unless p room m (has_property 11 p.properties) 130 (cond (list_any is_wildcard p.topic) (Some 144) None) (cond (list_any is_wildcard p.topic) (ends 144) y) (omega arith)
      (unless p room m (list_any is_wildcard p.topic) 144 None y (omega arith) (λ e. at-answered p.qos (p.retain && not room) m p.identifier (rw (same, own) at e)))
      is

  publish-answered : (told : Topics) (client : List ℕ) (s : State) (p : Publish) (now : ℕ) (room : Bool) → s.incoming ≡ held → s.kept.client ≡ client → r ≡ reaction_of limit (reply_publish told s p now room) → AnswersUnless (fault_in told p) o p room (message_told told client p now) r
  publish-answered told client s p now room same own is =
      let alias = first_two 35 p.properties in
      let topic = topic_under told p.topic alias in
      unless p room (message_told told client p now) (is_invalid alias) 148 (fault_under topic p) (reply_under topic s p now room) (omega arith) (under-answered topic client s p now room same own) is

  -- ---- SUBSCRIBE and UNSUBSCRIBE
  request-answered : (b : Bool) (p : Packet) (ask : Ask) → r ≡ reaction_of limit (cond b (says p) (asks ask)) → AsksOrSays b p ask r
  request-answered true p ask is = elim (cases_Bool (fits limit p)) [ inl f ↦ inl (rw f at is) | inr f ↦ inr (rw f at is) ]
  request-answered false p ask is = is

  asks-so : (id : ℕ) (p : Packet) (ask : Ask) (x : Reply) → x ≡ reply_request held id p ask → r ≡ reaction_of limit x → AsksOrSays (is_in id o.all) p ask r
  asks-so id p ask x same is = request-answered (is_in id o.all) p ask (is ∙ ap (reaction_of limit) (same ∙ ap (λ (b : Bool). cond b (says p) (asks ask)) (known-open o held id k)))

-- ---- the last of a list of events
then-none : (r : Reaction) → then_sends r [] ≡ r
then-none r = rw (append-nil r.packets) refl

alone : (told : Topics) (limit : ℕ) (p : Packet) (now : ℕ) (room : Bool) (s : State) (r : Reaction) (x : IsReplied told limit p now room s r) → (MakesRoom p → ⊥) → r ≡ reaction_of limit x.reply
alone told limit p now room s r x never = elim x.queue [
  | inl none ↦ x.gives ∙ ap (then_sends (reaction_of limit x.reply)) none ∙ then-none (reaction_of limit x.reply)
  | inr more ↦ absurd (never more.0)
]

record Last (client : List ℕ) (before : List Step) (p : Packet) (now : ℕ) (room : Bool) (r : Reaction) : Type 0 where
  state : State
  limit : ℕ
  long : 5 ≤ limit
  knows : Knows (open_told before) state.incoming
  of : state.kept.client ≡ client
  replied : IsReplied (topics_told before) limit p now room state r

has-limit : (limit : ℕ) (x : Option Link) (l : Link) → x ≡ Some l → HasLimit limit x → l.limit ≡ limit
has-limit limit None l e h = let bad : None ≡ Some l = e in (cc)
has-limit limit (Some k) l e h = let same : Some k ≡ Some l = e in let it : k ≡ l = cc in ap (λ (y : Link). y.limit) (sym it) ∙ h

last-by : (client : List ℕ) (before : List Step) (mid new : State) (p : Packet) (now : ℕ) (room : Bool) (r : Reaction) (x : Option Link) → mid.link ≡ x → is_some x ≡ true → Run (new_session client) before mid → connected_told before ≡ true → Reacts mid (takes p now room) r new → Last client before p now room r
last-by client before mid new p now room r None e some run on h = absurd (false≢true some)
last-by client before mid new p now room r (Some l) e some run on h =
    let s = stands client before mid run in
    let same = has-limit s.limit mid.link l e s.limited in
    record {
      state = mid;
      limit = l.limit;
      long = let most = s.long on in omega (arith, most, same);
      knows = s.knows;
      of = s.of;
      replied = keeps_replies client before mid new l p now room r run e h;
    }

last : (client : List ℕ) (before : List Step) (p : Packet) (now : ℕ) (room : Bool) (r : Reaction) (end : State) → Run (new_session client) (before ++ record { event = takes p now room; reaction = r } ∷ []) end → connected_told before ≡ true → Last client before p now room r
last client before p now room r end run on =
    let t = run-split (new_session client) before (record { event = takes p now room; reaction = r } ∷ []) end run in
    let s = stands client before t.0 t.1 in
    last-by client before t.0 t.2.0 p now room r t.0.link refl (sym s.connected ∙ on) t.1 on t.2.1

pub keeps-publishes : KeepsPublishes
keeps-publishes = λ client before p now room r end run on.
    let x = last client before (packets.Publish p) now room r end run on in
    publish-answered x.limit x.long (open_told before) x.state.incoming x.knows r (topics_told before) client x.state p now room refl x.of
    (alone (topics_told before) x.limit (packets.Publish p) now room x.state r x.replied (λ never. never) ∙ ap (reaction_of x.limit) x.replied.is)

pub keeps-pubrels : KeepsPubrels
keeps-pubrels = λ client before a now room r end run on.
    let x = last client before (packets.Pubrel a) now room r end run on in
    let o = open_told before in
    alone (topics_told before) x.limit (packets.Pubrel a) now room x.state r x.replied (λ never. never)
    ∙ ap (reaction_of x.limit) x.replied.is
    ∙ ap (λ (b : Bool). reaction_of x.limit (says (pubcomp a.identifier (cond b 0 146)))) (known-open o x.state.incoming a.identifier x.knows)
    ∙ said x.limit (pubcomp a.identifier (cond (is_in a.identifier o.all) 0 146)) (pubcomp-fits x.limit x.long a.identifier (is_in a.identifier o.all))

asks-by : (client : List ℕ) (p : Packet) (before : List Step) (now : ℕ) (room : Bool) (r : Reaction) → Last client before p now room r → AsksBy (open_told before) p r
asks-by client (packets.Subscribe p) before now room r x = λ fair.
    let is = alone (topics_told before) x.limit (packets.Subscribe p) now room x.state r x.replied (λ never. never) in
    elim x.replied.is [
      | inl share ↦ absurd (fair share.0)
      | inr other ↦ asks-so x.limit x.long (open_told before) x.state.incoming x.knows r p.identifier (suback p.identifier (replicate (length p.filters) 145)) server.Subscribe x.replied.reply other.1 is
    ]
asks-by client (packets.Unsubscribe p) before now room r x =
    let is = alone (topics_told before) x.limit (packets.Unsubscribe p) now room x.state r x.replied (λ never. never) in
    asks-so x.limit x.long (open_told before) x.state.incoming x.knows r p.identifier (unsuback p.identifier (replicate (length p.filters) 145)) server.Unsubscribe x.replied.reply x.replied.is is
asks-by client (packets.Publish p) before now room r x = tt
asks-by client (packets.Puback a) before now room r x = tt
asks-by client (packets.Pubrec a) before now room r x = tt
asks-by client (packets.Pubrel a) before now room r x = tt
asks-by client (packets.Pubcomp a) before now room r x = tt
asks-by client packets.Pingreq before now room r x = tt
asks-by client (packets.Disconnect p) before now room r x = tt
asks-by client (packets.Connect p) before now room r x = tt
asks-by client (packets.Connack p) before now room r x = tt
asks-by client (packets.Suback p) before now room r x = tt
asks-by client (packets.Unsuback p) before now room r x = tt
asks-by client packets.Pingresp before now room r x = tt
asks-by client (packets.Auth p) before now room r x = tt

pub keeps-requests : KeepsRequests
keeps-requests = λ client before p now room r end run on. asks-by client p before now room r (last client before p now room r end run on)
