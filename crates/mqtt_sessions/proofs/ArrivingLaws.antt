-- Of which PUBLISH a message can be made, and under which topic.
use Rattle.std.proofs.Common.{◌≡◌, ◌≢◌, ℕ, ◌<◌, Bool, true, false, cond, List, [], ◌∷◌, Option, Some, None, Result, Ok, Err, refl, sym, subst, ap, ◌∙◌, arith, inl, inr}
use Rattle.std.specs.Prelude.{IfErr, IsErrAnd, IsSome, MatchOption, is_none, is_some, unwrap_or}
use Rattle.std.specs.List.{list_any}
use Rattle.std.proofs.lemmas.Bool.{false≢true}
use Rattle.mqtt_fields.specs.Numbers.{IsText}
use Rattle.mqtt_fields.specs.declared.options.Qos.{Qos}
use Rattle.mqtt_fields.specs.declared.options.Qos.TheVariants.{AtMostOnce, AtLeastOnce, ExactlyOnce}
use Rattle.mqtt_packets.specs.declared.publish.Publish.{Publish}
use Rattle.mqtt_packets.specs.declared.packet.Packet.{Packet}
use Rattle.mqtt_packets.specs.declared.packet.Packet.TheVariants as packets
use Rattle.mqtt_packets.specs.Written.{HasSpelling}
use Rattle.mqtt_topics.specs.Levels.{is_wildcard}
use Rattle.mqtt_topics.specs.Topics.{IsName}
use Rattle.mqtt_message.specs.Accepted.{IsAcceptable, accepted}
use Rattle.mqtt_message.specs.Laws.{SpelledIsAcceptable}
use Rattle.mqtt_message.specs.declared.message.Message.{Message}
use Rattle.qos_handshakes.specs.declared.answers.In.{In}
use Rattle.qos_handshakes.specs.declared.answers.In.TheVariants.{New, Repeat, InUse, OverMaximum}
use Rattle.qos_handshakes.specs.Incoming.{Received, Publish1Answer, opened, opened_here}
use Rattle.mqtt_sessions.specs.Aliases.{Aliases, alias_of, alias_topic, filled, is_beyond, set_by, topic_by, topic_of}
use Rattle.mqtt_sessions.specs.Answers.{fits, puback, pubrec}
use Rattle.mqtt_sessions.specs.Arriving.{after_twice, arrival_once, arrival_twice, has_property, is_unwelcome, message_in, once_by, passes_by, publish_by, publish_outcome, refusal, setting, setting_by, twice_by}
use Rattle.mqtt_sessions.specs.Called.{IsFault}
use Rattle.mqtt_sessions.specs.Packets.{SetsAlias, WantsFor}
use Rattle.mqtt_sessions.specs.declared.fault.SessionFault.{SessionFault}
use Rattle.mqtt_sessions.specs.declared.fault.SessionFault.TheVariants.{NoMemory as OutOfMemory}
use Rattle.mqtt_sessions.specs.Reaction.{Reaction, Outcome, Comes, answered, gives_out, nothing}
use Rattle.mqtt_sessions.specs.declared.reaction.Ask.{Ask}
use Rattle.mqtt_sessions.specs.declared.reaction.Ask.TheVariants as asks
use Rattle.mqtt_sessions.specs.declared.reaction.Output.TheVariants.{Answer}
use Rattle.mqtt_sessions.specs.State.{Link, State, aliases_of, cut}

-- ---- the topic of a PUBLISH
-- setting an alias leaves it
set-by : (topic : List ℕ) (a : Option ℕ) (known : Aliases) → topic_by topic a (set_by topic a known) ≡ topic_by topic a known
set-by [] a known = refl
set-by (b ∷ bs) a known = refl

pub set-topic : (o : Option Link) (p : Publish) → topic_of (aliases_of (setting_by o p)) p ≡ topic_of (aliases_of o) p
set-topic None p = refl
set-topic (Some l) p = set-by p.topic (alias_of p) l.aliases

-- a PUBLISH with its topic filled in
filled-with : (p : Publish) {s t : Option (List ℕ)} → s ≡ t → record p { topic = unwrap_or s [] } ≡ record p { topic = unwrap_or t [] }
filled-with p e = ap (λ (x : Option (List ℕ)). record p { topic = unwrap_or x [] }) e

own-by : (topic : List ℕ) (a : Option ℕ) (known : Aliases) → topic ≢ [] → topic_by topic a known ≡ Some topic
own-by [] a known some = absurd (some refl)
own-by (b ∷ bs) a known some = refl

pub own-filled : (p : Publish) (known : Aliases) → p.topic ≢ [] → filled known p ≡ p
own-filled p known some = filled-with p (own-by p.topic (alias_of p) known some)

none-by : (topic : List ℕ) (a : Option ℕ) (known : Aliases) → topic ≡ [] → topic_by topic a known ≡ alias_topic a known
none-by [] a known none = refl
none-by (b ∷ bs) a known none = (cc none)

beside-as : (p : Publish) (o : Option (List ℕ)) → p.topic ≡ [] → MatchOption o (record p { topic = unwrap_or o [] } ≡ p) (λ t. record p { topic = unwrap_or o [] } ≡ record p { topic = t })
beside-as p None none = ap (λ (t : List ℕ). record p { topic = t }) (sym none)
beside-as p (Some t) none = refl

pub beside-filled : (p : Publish) (known : Aliases) (o : Option (List ℕ)) → p.topic ≡ [] → o ≡ alias_topic (alias_of p) known → MatchOption o (filled known p ≡ p) (λ t. filled known p ≡ record p { topic = t })
beside-filled p known o none is =
    subst (λ (x : Option (List ℕ)). MatchOption o (record p { topic = unwrap_or x [] } ≡ p) (λ t. record p { topic = unwrap_or x [] } ≡ record p { topic = t })) (is ∙ sym (none-by p.topic (alias_of p) known none)) (beside-as p o none)

-- ---- one that isn't refused
taken : (a b c d : Bool) → cond {A = Option ℕ} a (Some 148) (cond b (Some 130) (cond c (Some 130) (cond d (Some 144) None))) ≡ None → (b ≡ false) × (d ≡ false)
taken true b c d h = (cc h)
taken false true c d h = (cc h)
taken false false true d h = (cc h)
taken false false false true h = (cc h)
taken false false false false h = (refl, refl)

named-one : (o : Option (List ℕ)) → ((t : List ℕ) → o ≡ Some t → IsName t) → is_none o ≡ false → (t : List ℕ) × (o ≡ Some t) × IsName t
named-one None named some = absurd (false≢true (sym some))
named-one (Some t) named some = (t, refl, named t refl)

named-by : (topic : List ℕ) (a : Option ℕ) (known : Aliases) → IsText topic → list_any is_wildcard topic ≡ false → ((t : List ℕ) → alias_topic a known ≡ Some t → IsName t) → is_none (topic_by topic a known) ≡ false
    → (t : List ℕ) × (topic_by topic a known ≡ Some t) × IsName t
named-by [] a known text plain named some = named-one (alias_topic a known) named some
named-by (b ∷ bs) a known text plain named some = (b ∷ bs, refl, record { fits = text; some = λ e. cc; plain = λ w. false≢true (sym plain ∙ w) })

pub acceptable : (o : Option Link) (p : Publish) → SpelledIsAcceptable → HasSpelling (packets.Publish p) → IsText p.topic → ((t : List ℕ) → alias_topic (alias_of p) (aliases_of o) ≡ Some t → IsName t) → refusal (aliases_of o) p ≡ None
    → IsAcceptable (filled (aliases_of o) p)
acceptable o p law h text named none =
    let t = taken (is_beyond (alias_of p)) (is_none (topic_of (aliases_of o) p)) (has_property 11 p.properties) (list_any is_wildcard p.topic) none in
    let n = named-by p.topic (alias_of p) (aliases_of o) text t.1 named t.0 in
    subst IsAcceptable (sym (filled-with p n.1)) (law p n.0 h n.2)

-- ---- it is answered by its QoS, and then its alias is set
message-set : (p : Publish) (now : ℕ) (s : State) → message_in p now (setting p s) ≡ message_in p now s
message-set p now s = ap (λ (q : Publish). accepted q s.kept.client now) (filled-with p (set-topic s.link p))

abbrev set-after : Publish → Outcome → Outcome
set-after p o = record { reaction = o.reaction; left = setting p o.left }

answer-by : (p : Publish) (b : Bool) (k : Packet) (ask : Option Ask) (s : State)
    → cond {A = Outcome} b (record { reaction = record nothing { packets = Answer k ∷ []; ask = ask }; left = setting p s }) (record { reaction = record nothing { ask = ask; end = Some 0 }; left = cut (setting p s) })
    ≡ set-after p (cond {A = Outcome} b (record { reaction = record nothing { packets = Answer k ∷ []; ask = ask }; left = s }) (record { reaction = record nothing { ask = ask; end = Some 0 }; left = cut s }))
answer-by p true k ask s = refl
answer-by p false k ask s = refl

answer-after : (p : Publish) (limit : ℕ) (k : Packet) (ask : Option Ask) (s : State) → answered limit k ask (setting p s) ≡ set-after p (answered limit k ask s)
answer-after p limit k ask s = answer-by p (fits limit k) k ask s

once-after : (p : Publish) (i : In) (unwelcome : Bool) (limit id : ℕ) (m : Message) (s : State) → once_by i unwelcome limit id m (setting p s) ≡ set-after p (once_by i unwelcome limit id m s)
once-after p OverMaximum unwelcome limit id m s = refl
once-after p InUse unwelcome limit id m s = answer-after p limit (puback id 145) None s
once-after p Repeat unwelcome limit id m s = answer-after p limit (puback id 145) None s
once-after p New true limit id m s = answer-after p limit (puback id 151) None s
once-after p New false limit id m s = answer-after p limit (puback id 0) (Some (asks.Pass m)) s

twice-after : (p : Publish) (i : In) (unwelcome : Bool) (limit id : ℕ) (m : Message) (s : State) → twice_by i unwelcome limit id m (setting p s) ≡ set-after p (twice_by i unwelcome limit id m s)
twice-after p OverMaximum unwelcome limit id m s = refl
twice-after p InUse unwelcome limit id m s = answer-after p limit (pubrec id 0) None s
twice-after p Repeat unwelcome limit id m s = answer-after p limit (pubrec id 0) None s
twice-after p New true limit id m s = answer-after p limit (pubrec id 151) None s
twice-after p New false limit id m s = answer-after p limit (pubrec id 0) (Some (asks.Pass m)) s

passes-after : (qos : Qos) (p : Publish) (unwelcome : Bool) (limit : ℕ) (m : Message) (s : State) → passes_by qos p unwelcome limit m (setting p s) ≡ set-after p (passes_by qos p unwelcome limit m s)
passes-after AtMostOnce p unwelcome limit m s = refl
passes-after AtLeastOnce p unwelcome limit m s = once-after p (arrival_once s.incoming p.identifier) unwelcome limit p.identifier m s
passes-after ExactlyOnce p unwelcome limit m s =
    let i = arrival_twice s.incoming p.identifier in
    twice-after p i unwelcome limit p.identifier m (record s { incoming = after_twice i unwelcome p.identifier s.incoming })

module _ (p : Publish) (now : ℕ) (room unwelcome : Bool) (limit : ℕ) (s : State) (none : refusal (aliases_of s.link) p ≡ None) (welcome : unwelcome ≡ is_unwelcome p room) where
  abbrev passing : Outcome
  passing = passes_by p.qos p unwelcome limit (message_in p now s) s

  published-is : publish_outcome p now room limit s ≡ set-after p passing
  published-is =
      ap (λ (o : Option ℕ). publish_by o p now room limit s) none ∙ ap (λ (m : Message). passes_by p.qos p (is_unwelcome p room) limit m (setting p s)) (message-set p now s)
      ∙ ap (λ (u : Bool). passes_by p.qos p u limit (message_in p now s) (setting p s)) (sym welcome) ∙ passes-after p.qos p unwelcome limit (message_in p now s) s

  pub publishes : (r : Reaction) (mid new : State) → Comes passing r mid → new ≡ setting p mid → Comes (publish_outcome p now room limit s) r new
  publishes r mid new h is = subst (λ (o : Outcome). Comes o r new) (sym published-is) (h.0, is ∙ ap (λ (x : State). setting p x) h.1)

  pub passing-wants : gives_out passing.reaction ≡ true → WantsFor p (publish_outcome p now room limit s)
  passing-wants given = inl (ap (λ (o : Outcome). gives_out o.reaction) published-is ∙ given)

  pub alias-wants : (r : Reaction) (mid : State) → Comes passing r mid → SetsAlias p mid → WantsFor p (publish_outcome p now room limit s)
  alias-wants r mid h a =
      inr (subst (λ (o : Outcome). SetsAlias p o.left) (sym published-is) (a.0, a.1, linked passing.left.link (subst (λ (x : State). IsSome x.link) h.1 a.2)))
    where
      linked : (o : Option Link) → IsSome o → IsSome (setting_by o p)
      linked None on = on
      linked (Some l) on = refl

-- ---- where memory is wanted
pub is-fault : {A : Type 0} (r : Result A SessionFault) (W : Type 0) → IsErrAnd r (λ e. e ≡ OutOfMemory) → W → IfErr r (λ e. IsFault W ⊥ e)
is-fault (Ok a) W is w = tt
is-fault (Err e) W is w = subst (λ (f : SessionFault). IsFault W ⊥ f) (sym is) w

answer-given-by : (b : Bool) (k : Packet) (ask : Option Ask) (s : State) → b ≡ true
    → gives_out (cond {A = Outcome} b (record { reaction = record nothing { packets = Answer k ∷ []; ask = ask }; left = s }) (record { reaction = record nothing { ask = ask; end = Some 0 }; left = cut s })).reaction ≡ true
answer-given-by true k ask s fit = refl
answer-given-by false k ask s fit = absurd (false≢true fit)

pub answer-given : (limit : ℕ) (k : Packet) (ask : Option Ask) (s : State) → fits limit k ≡ true → gives_out (answered limit k ask s).reaction ≡ true
answer-given limit k ask s fit = answer-given-by (fits limit k) k ask s fit

answer-fits-by : (b : Bool) (k : Packet) (s : State)
    → gives_out (cond {A = Outcome} b (record { reaction = record nothing { packets = Answer k ∷ []; ask = None }; left = s }) (record { reaction = record nothing { ask = None; end = Some 0 }; left = cut s })).reaction ≡ true → b ≡ true
answer-fits-by true k s given = refl
answer-fits-by false k s given = given

pub answer-fits : (limit : ℕ) (k : Packet) (s : State) → gives_out (answered limit k None s).reaction ≡ true → fits limit k ≡ true
answer-fits limit k s given = answer-fits-by (fits limit k) k s given

pass-given-by : (b : Bool) (k : Packet) (m : Message) (s : State)
    → gives_out (cond {A = Outcome} b (record { reaction = record nothing { packets = Answer k ∷ []; ask = Some (asks.Pass m) }; left = s }) (record { reaction = record nothing { ask = Some (asks.Pass m); end = Some 0 }; left = cut s })).reaction ≡ true
pass-given-by true k m s = refl
pass-given-by false k m s = refl

pub pass-given : (limit : ℕ) (k : Packet) (m : Message) (s : State) → gives_out (answered limit k (Some (asks.Pass m)) s).reaction ≡ true
pass-given limit k m s = pass-given-by (fits limit k) k m s

-- what would be opened at QoS 2 is new at QoS 1 too
pub new-once : (r : Received) (id : ℕ) (i : In) → Publish1Answer r id i → opened_here r < 100 → opened id r ≡ None → i ≡ New
new-once r id New a few none = refl
new-once r id Repeat a few none = absurd a
new-once r id InUse a few none = absurd (false≢true (ap is_some (sym none) ∙ a.1))
new-once r id OverMaximum a few none = absurd (omega (arith, a, few))
