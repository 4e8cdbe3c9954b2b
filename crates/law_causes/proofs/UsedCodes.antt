-- What a session answers to a SUBSCRIBE or an UNSUBSCRIBE, and which events give out their codes.
use Rattle.std.proofs.Common.{◌≡◌, ◌⊎◌, inl, inr, ℕ, Bool, true, false, cond, is_some, length, replicate, List, [], ◌∷◌, ◌++◌, Option, Some, None, refl, sym, ap, ◌∙◌, subst}
use Rattle.std.proofs.lemmas.List.{append-nil}
use Rattle.std.specs.List.{AllByRecursion}
use Rattle.mqtt_packets.specs.declared.packet.Packet.{Packet}
use Rattle.mqtt_packets.specs.declared.packet.Packet.TheVariants as packets
use Rattle.qos_handshakes.specs.Incoming.{opened}
use Rattle.qos_handshakes.specs.Outbox.{Sent}
use Rattle.mqtt_sessions.specs.declared.link.Asked.{Asked}
use Rattle.mqtt_sessions.specs.declared.link.Asked.TheVariants.{Subscribing, Unsubscribing}
use Rattle.mqtt_sessions.specs.declared.reaction.Ask.TheVariants as server
use Rattle.mqtt_sessions.specs.declared.reaction.Output.{Output}
use Rattle.mqtt_sessions.specs.declared.reaction.Output.TheVariants.{Answer}
use Rattle.mqtt_sessions.specs.Answers.{suback, fits}
use Rattle.mqtt_sessions.specs.Asking.{answer_of, answer_on}
use Rattle.mqtt_sessions.specs.Reaction.{Reaction, Comes, nothing}
use Rattle.mqtt_sessions.specs.State.{Link, State}
use Rattle.law_sessions.specs.Aliases.{Topics}
use Rattle.law_sessions.specs.Replies.{Reply, silent, says, asks, ends, reaction_of, then_sends, reply_codes, reply_request, IsReplied, MakesRoom}
use Rattle.law_sessions.specs.Runs.{Event, connects, queues, rooms, takes, answers, closes, ticks, finishes, loses, Step, Reacts, connected_after}
use Rattle.law_sessions.proofs.ReplyLaws.{keeps_codes}
use Rattle.law_deliveries.specs.Codes.{Question, question_in, question_after, IsOwn, OwnCodes, CodesBy, AllCodes}
use Rattle.law_runs.specs.StepPublishing.{AnswersWith}
use Rattle.law_runs.specs.StepSending.{IsIn}
use Rattle.law_runs.proofs.Acks.{Says, given_by, true_is_not_false}
use Rattle.law_causes.specs.InUse.{KeepsRules, ask_for, IsRefusedInUse, IsAsked}

-- ---- what a SUBSCRIBE or an UNSUBSCRIBE is answered
refuses : (limit : ℕ) (q : Question) (r : Reaction) → r ≡ then_sends (reaction_of limit (says (answer_of q.kind q.identifier (replicate q.count 145)))) [] → IsRefusedInUse q r
refuses limit q r e = by (fits limit (answer_of q.kind q.identifier (replicate q.count 145))) e
  where
    by : (b : Bool) → r ≡ then_sends (cond b (record nothing { packets = Answer (answer_of q.kind q.identifier (replicate q.count 145)) ∷ [] }) (record nothing { end = Some 0 })) [] → IsRefusedInUse q r
    by true h = (ap (λ (v : Reaction). v.ask) h, inl (ap (λ (v : Reaction). v.packets) h))
    by false h = (ap (λ (v : Reaction). v.ask) h, inr (ap (λ (v : Reaction). v.packets) h, ap (λ (v : Reaction). v.end) h))

asked : (limit : ℕ) (q : Question) (r : Reaction) → r ≡ then_sends (reaction_of limit (asks (ask_for q.kind))) [] → IsAsked q r
asked limit q r e = (ap (λ (v : Reaction). v.packets) e, ap (λ (v : Reaction). v.ask) e)

request : (b : Bool) (limit : ℕ) (q : Question) (r : Reaction) → r ≡ then_sends (reaction_of limit (cond b (says (answer_of q.kind q.identifier (replicate q.count 145))) (asks (ask_for q.kind)))) [] → cond b (IsRefusedInUse q r) (IsAsked q r)
request true limit q r e = refuses limit q r e
request false limit q r e = asked limit q r e

no_sends : (k : Packet) (reply : Reply) (sents : List Sent) → (MakesRoom k → ⊥) → (sents ≡ []) ⊎ (MakesRoom k × (reply ≡ silent)) → sents ≡ []
no_sends k reply sents none (inl e) = e
no_sends k reply sents none (inr e) = absurd (none e.0)

module _ (told : Topics) (limit : ℕ) (now : ℕ) (room : Bool) (s : State) (r : Reaction) where
  -- the reply alone
  alone : (k : Packet) (x : IsReplied told limit k now room s r) → (MakesRoom k → ⊥) → (y : Reply) → x.reply ≡ y → r ≡ then_sends (reaction_of limit y) []
  alone k x none y e = x.gives ∙ (λ i. then_sends (reaction_of limit (e i)) (no_sends k x.reply x.sents none x.queue i))

  pub requested : (k : Packet) (q : Question) → question_in k ≡ Some q → KeepsRules k → IsReplied told limit k now room s r → cond (is_some (opened q.identifier s.incoming)) (IsRefusedInUse q r) (IsAsked q r)
  requested (packets.Subscribe p) q e rules x =
      let same : record { kind = Subscribing; identifier = p.identifier; count = length p.filters } ≡ q = (let z = e in cc) in
      let reply : x.reply ≡ reply_request s.incoming p.identifier (suback p.identifier (replicate (length p.filters) 145)) server.Subscribe = elim x.is [ inl d ↦ absurd (rules d.0) | inr d ↦ d.1 ] in
      subst (λ (v : Question). cond (is_some (opened v.identifier s.incoming)) (IsRefusedInUse v r) (IsAsked v r)) same
      (request (is_some (opened p.identifier s.incoming)) limit (record { kind = Subscribing; identifier = p.identifier; count = length p.filters }) r (alone (packets.Subscribe p) x (λ z. z) _ reply))
  requested (packets.Unsubscribe p) q e rules x =
      let same : record { kind = Unsubscribing; identifier = p.identifier; count = length p.filters } ≡ q = (let z = e in cc) in
      subst (λ (v : Question). cond (is_some (opened v.identifier s.incoming)) (IsRefusedInUse v r) (IsAsked v r)) same
      (request (is_some (opened p.identifier s.incoming)) limit (record { kind = Unsubscribing; identifier = p.identifier; count = length p.filters }) r (alone (packets.Unsubscribe p) x (λ z. z) _ x.is))
  requested (packets.Publish p) q e rules x = absurd (let z = e in cc)
  requested (packets.Puback p) q e rules x = absurd (let z = e in cc)
  requested (packets.Pubrec p) q e rules x = absurd (let z = e in cc)
  requested (packets.Pubrel p) q e rules x = absurd (let z = e in cc)
  requested (packets.Pubcomp p) q e rules x = absurd (let z = e in cc)
  requested packets.Pingreq q e rules x = absurd (let z = e in cc)
  requested (packets.Disconnect p) q e rules x = absurd (let z = e in cc)
  requested (packets.Connect p) q e rules x = absurd (let z = e in cc)
  requested (packets.Connack p) q e rules x = absurd (let z = e in cc)
  requested (packets.Suback p) q e rules x = absurd (let z = e in cc)
  requested (packets.Unsuback p) q e rules x = absurd (let z = e in cc)
  requested packets.Pingresp q e rules x = absurd (let z = e in cc)
  requested (packets.Auth p) q e rules x = absurd (let z = e in cc)

-- ---- which events give out codes
abbrev is_suback : Packet → Bool
is_suback (packets.Suback a) = true
is_suback _ = false

abbrev codes_in : Packet → List ℕ
codes_in (packets.Suback a) = a.reasons
codes_in (packets.Unsuback a) = a.reasons
codes_in _ = []

abbrev identifier_in : Packet → ℕ
identifier_in (packets.Suback a) = a.identifier
identifier_in (packets.Unsuback a) = a.identifier
identifier_in _ = 0

same_answer : (a b : Asked) (id id' : ℕ) (codes codes' : List ℕ) → answer_of b id' codes' ≡ answer_of a id codes → (id' ≡ id) × (codes' ≡ codes)
same_answer Subscribing Subscribing id id' codes codes' e = (ap identifier_in e, ap codes_in e)
same_answer Unsubscribing Unsubscribing id id' codes codes' e = (ap identifier_in e, ap codes_in e)
same_answer Subscribing Unsubscribing id id' codes codes' e = true_is_not_false (sym (ap is_suback e))
same_answer Unsubscribing Subscribing id id' codes codes' e = true_is_not_false (ap is_suback e)

-- what is told of the last of some events
pub last_codes : (on : Bool) (q : Option Question) (steps : List Step) (s : Step) → AllCodes on q (steps ++ s ∷ []) → (p : Option Question) × CodesBy p s.event s.reaction
last_codes on q [] s h = (q, h.0)
last_codes on q (t ∷ steps) s h = last_codes (connected_after on t.event t.reaction) (question_after on q t.event t.reaction) steps s h.1

own_in : (e : Event) (r : Reaction) (os : List Output) (o : Output) → AllByRecursion (OwnCodes e r) os → IsIn o os → OwnCodes e r o
own_in e r [] o all i = absurd i
own_in e r (x ∷ os) o all (inl same) = subst (OwnCodes e r) same all.0
own_in e r (x ∷ os) o all (inr i) = own_in e r os o all.1 i

module _ (a : Asked) (id : ℕ) (codes : List ℕ) where
  -- a packet whose codes these are, and for which the node isn't asked
  pub record IsRequest (k : Packet) (r : Reaction) : Type 0 where
    pub question : question_in k ≡ Some (record { kind = a; identifier = id; count = length codes })
    pub asks : r.ask ≡ None

  is_own : (e : Event) (r : Reaction) (b : Asked) → OwnCodes e r (Answer (answer_of b id codes)) → IsOwn b id (length codes) e r
  is_own e r Subscribing o = o
  is_own e r Unsubscribing o = o

  own_of : (q : Option Question) (e : Event) (r : Reaction) → AllByRecursion (OwnCodes e r) r.packets → AnswersWith (answer_of a id codes) r.packets → IsOwn a id (length codes) e r
  own_of q e r all g = is_own e r a (own_in e r r.packets (Answer (answer_of a id codes)) all g)

  by_asked : (o : Option Asked) (id' : ℕ) (codes' : List ℕ) → Says (answer_of a id codes) (reply_codes o id' codes') → (id' ≡ id) × (codes' ≡ codes)
  by_asked None id' codes' s = absurd s
  by_asked (Some Subscribing) id' codes' s = same_answer a Subscribing id id' codes codes' s
  by_asked (Some Unsubscribing) id' codes' s = same_answer a Unsubscribing id id' codes codes' s

  given_at : (o : Option Link) (old new : State) (id' : ℕ) (codes' : List ℕ) (r : Reaction) → old.link ≡ o → Reacts old (answers id' codes') r new → AnswersWith (answer_of a id codes) r.packets → answers id' codes' ≡ answers id codes
  given_at None old new id' codes' r e h g =
      absurd (subst (λ (v : Reaction). AnswersWith (answer_of a id codes) v.packets) ((subst (λ l. Comes (answer_on l id' codes' old) r new) e h).0) g)
  given_at (Some l) old new id' codes' r e h g =
      let s = given_by l.limit (reply_codes l.asked id' codes') (answer_of a id codes) [] (λ z. z)
      (subst (AnswersWith (answer_of a id codes)) (ap (λ (v : Reaction). v.packets) (keeps_codes old new l id' codes' r e h) ∙ sym (append-nil _)) g) in
      let t = by_asked l.asked id' codes' s in
      λ i. answers (t.0 i) (t.1 i)

  -- such a packet comes, or the node gives them
  pub record TakesOne (e : Event) (r : Reaction) : Type 0 where
    pub packet : Packet
    pub now : ℕ
    pub room : Bool
    pub event : e ≡ takes packet now room
    pub is : IsRequest packet r

  pub codes_given : (old new : State) (e : Event) (r : Reaction) (q : Option Question) → CodesBy q e r → Reacts old e r new → AnswersWith (answer_of a id codes) r.packets → TakesOne e r ⊎ (e ≡ answers id codes)
  codes_given old new (connects c continued room now) r q all h g = absurd (own_of q (connects c continued room now) r all g)
  codes_given old new (queues d now) r q all h g = absurd (own_of q (queues d now) r all g)
  codes_given old new (rooms bytes now) r q all h g = absurd (own_of q (rooms bytes now) r all g)
  codes_given old new (takes k now room) r q all h g =
      let o = own_of q (takes k now room) r all g in inl (record { packet = k; now = now; room = room; event = refl; is = record { question = o.0; asks = o.1 } })
  codes_given old new (answers id' codes') r q all h g = inr (given_at old.link old new id' codes' r refl h g)
  codes_given old new (closes now) r q all h g = absurd (own_of q (closes now) r all g)
  codes_given old new (ticks now) r q all h g = absurd (own_of q (ticks now) r all g)
  codes_given old new (finishes now) r q all h g = absurd (own_of q (finishes now) r all g)
  codes_given old new loses r q all h g = absurd (own_of q loses r all g)

  -- its identifier is in use, and each code is Packet Identifier in use
  used_by : (q : Question) (b : Bool) (r : Reaction) → r.ask ≡ None → AnswersWith (answer_of a id codes) r.packets → cond b (IsRefusedInUse q r) (IsAsked q r) → (b ≡ true) × (codes ≡ replicate q.count 145)
  used_by q false r none g d = absurd (let z : None ≡ Some (ask_for q.kind) = sym none ∙ d.1 in cc)
  used_by q true r none g (ask, (inr d)) = absurd (subst (AnswersWith (answer_of a id codes)) d.0 g)
  used_by q true r none g (ask, (inl d)) = (refl, one (subst (AnswersWith (answer_of a id codes)) d g))
    where
      one : AnswersWith (answer_of a id codes) (Answer (answer_of q.kind q.identifier (replicate q.count 145)) ∷ []) → codes ≡ replicate q.count 145
      one (inl same) = sym (same_answer a q.kind id q.identifier codes (replicate q.count 145) (let z = same in cc)).1
      one (inr more) = absurd more

  -- a packet that breaks a rule is answered by none
  pub keeps_rules : (told : Topics) (limit : ℕ) (now : ℕ) (room : Bool) (s : State) (r : Reaction) (k : Packet) → IsReplied told limit k now room s r → AnswersWith (answer_of a id codes) r.packets → KeepsRules k
  keeps_rules told limit now room s r (packets.Subscribe p) x g = λ broken. elim x.is [
    | inl d ↦ subst (λ (v : Reaction). AnswersWith (answer_of a id codes) v.packets) (alone told limit now room s r (packets.Subscribe p) x (λ z. z) (ends 130) d.1) g
    | inr d ↦ d.0 broken
  ]
  keeps_rules told limit now room s r _ x g = tt

  pub in_use_by : (told : Topics) (limit : ℕ) (now : ℕ) (room : Bool) (s : State) (r : Reaction) (k : Packet) (q : Question) → question_in k ≡ Some q → r.ask ≡ None → IsReplied told limit k now room s r → AnswersWith (answer_of a id codes) r.packets
      → (is_some (opened q.identifier s.incoming) ≡ true) × (codes ≡ replicate q.count 145)
  in_use_by told limit now room s r k q e none x g =
      used_by q (is_some (opened q.identifier s.incoming)) r none g (requested told limit now room s r k q e (keeps_rules told limit now room s r k x g) x)
