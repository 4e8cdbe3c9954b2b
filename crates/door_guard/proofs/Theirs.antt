-- Whatever happens on a connection, only what its user may do.
use Rattle.std.proofs.Common.{◌≡◌, ℕ, Bool, true, false, arith, cond, List, [], ◌∷◌, ◌++◌, Option, Some, None, Result, Ok, Err, inl, inr, refl, sym, ap, subst, ◌∙◌}
use Rattle.std.specs.Prelude.{◌&&◌, ◌⊎◌, filter, is_none, is_some, length}
use Rattle.std.specs.List.{AllByRecursion, list_all}
use Rattle.std.proofs.lemmas.Bool.{eqb-true}
use Rattle.mqtt_fields.specs.declared.options.Qos.{Qos}
use Rattle.mqtt_fields.specs.declared.options.Qos.TheVariants.{AtMostOnce, AtLeastOnce, ExactlyOnce}
use Rattle.mqtt_packets.specs.Stream.{packet_at}
use Rattle.mqtt_packets.specs.declared.connect.Connect.{Connect}
use Rattle.mqtt_packets.specs.declared.fault.PacketFault.{PacketFault}
use Rattle.mqtt_packets.specs.declared.packet.Packet.{Packet}
use Rattle.mqtt_packets.specs.declared.packet.Packet.TheVariants as packets
use Rattle.mqtt_packets.specs.declared.publish.Publish.{Publish}
use Rattle.mqtt_packets.specs.declared.subscribe.Subscribe.{Subscribe}
use Rattle.mqtt_packets.specs.declared.subscribe.SubscribeFilter.{SubscribeFilter}
use Rattle.mqtt_bounds.specs.PieceLaws.{Ends}
use Rattle.mqtt_bounds.specs.Pieces.{Cut, cut}
use Rattle.mqtt_bounds.specs.declared.cut.End.{End}
use Rattle.mqtt_bounds.specs.declared.cut.End.TheVariants as ends
use Rattle.mqtt_bounds.proofs.Ends.{cut_ends}
use Rattle.door_packets.specs.Answers.{pubrec}
use Rattle.door_guard.specs.Laws.{AreReadable, IsFreed, IsLet, IsUnread, MayGoOut, MayReceive, MaySay, MayTell, OnlyTheirs, login_of}
use Rattle.door_guard.specs.Replies.{IsAnswer}
use Rattle.door_guard.specs.Replies.Answer.{Acknowledges, Ends as EndsIt, Receives, Subscribes, TurnsAway}
use Rattle.door_packets.specs.Packets.{Aliases, aliases_after, cleaned, codes_of, connect_code, filter_code, has_topic, is_alias_allowed, alias_of, is_allowed, is_asked, publish_step, refusal_at, smaller, subscribe_step, suback_step}
use Rattle.door_packets.specs.Codes.{merged}
use Rattle.door_packets.specs.Packets.{login_of as names_of}
use Rattle.door_packets.specs.Rights.{Rights}
use Rattle.door_packets.specs.Sending.{is_readable, may_receive, mended, readable_at}
use Rattle.door_packets.specs.Going.{is_nothing, may_go}
use Rattle.door_guard.specs.Stages.{Effect, Happening, Held, after, done, does_next, effect, ends, gone_by, got, held_after, quiet, says, sends, spaced_by}
use Rattle.door_guard.specs.Stages.Happening.{Opens, Goes, Spaces, Comes, Does, Rests, Gets, Closes, Leaves}
use Rattle.door_guard.specs.Stages.Notice.{Gone}
use Rattle.door_guard.specs.Stages.Outgoing.{End as EndOf}
use Rattle.door_guard.specs.Stages.Said.{Same}
use Rattle.door_packets.specs.Walk.{Walked, begun, connect_step, entered, entered_by, entered_with, fresh, is_leaving, let_in, next, next_by, published_by, stage_by, started, subscribed_by, told_first, took, took_at, walked, with_step}
use Rattle.door_packets.specs.Coming.{come_at, come_on, ended, kept, limit, unread_at}
use Rattle.door_packets.specs.declared.access.Login.{Login}
use Rattle.door_packets.specs.declared.client.Client.{Client}
use Rattle.door_packets.specs.declared.client.Stage.{Stage}
use Rattle.door_packets.specs.declared.client.Stage.TheVariants as stages
use Rattle.door_packets.specs.declared.step.Step.{Step}
use Rattle.door_packets.specs.declared.step.Step.TheVariants as steps
use Rattle.door_guard.proofs.Entering.{each_entered}
use Rattle.door_guard.proofs.Paths.{all_then}

-- ---- what is read

abbrev ReadOf : Rights → Option Login → Result (Option (Packet × List ℕ)) PacketFault → Type 0
ReadOf r l (Ok (Some y)) = IsLet r l y.0
ReadOf r l (Ok None) = Unit {0}
ReadOf r l (Err f) = Unit {0}

read_let : (r : Rights) (l : Option Login) (bs : List ℕ) → ReadOf r l (packet_at bs) → MayTell r l bs
read_let r l bs is = inl (λ p rest e. subst (ReadOf r l) e is)

-- ---- steps

abbrev StepLet : Rights → Option Login → Step → Type 0
StepLet r l steps.Opens = Unit {0}
StepLet r l (steps.Rooms n) = Unit {0}
StepLet r l (steps.Tells bs) = MayTell r l bs
StepLet r l (steps.Asks p a) = IsLet r l p
StepLet r l (steps.Acks bs) = IsAnswer bs
StepLet r l (steps.Subacks bs n) = IsAnswer bs
StepLet r l steps.Drops = Unit {0}
StepLet r l (steps.TurnsAway code) = Unit {0}
StepLet r l steps.Ends = Unit {0}

abbrev StageGood : Stage → Option Login → Type 0
StageGood (stages.Waiting room) l = l ≡ None
StageGood stages.Open l = (x : Login) × (l ≡ Some x)
StageGood stages.Over l = Unit {0}
StageGood stages.Leaving l = Unit {0}

record IsGood (r : Rights) (stage : Stage) (l : Option Login) : Type 0 where
  staged : StageGood stage l

abbrev FirstGood : Stage → List Step → Type 0
FirstGood (stages.Waiting room) ss = ss ≡ []
FirstGood stages.Open ss = Unit {0}
FirstGood stages.Over ss = Unit {0}
FirstGood stages.Leaving ss = Unit {0}

-- a walk, on which this one was let in if anyone was
record IsWalkGood (r : Rights) (w : Walked) : Type 0 where
  client : IsGood r w.client.stage w.client.login
  steps : AllByRecursion (StepLet r w.client.login) w.steps
  first : FirstGood w.client.stage w.steps

not_first : (stage : Stage) (ss : List Step) → ((room : Option ℕ) → stage ≡ stages.Waiting room → ⊥) → FirstGood stage ss
not_first (stages.Waiting room) ss other = absurd (other room refl)
not_first stages.Open ss other = tt
not_first stages.Over ss other = tt
not_first stages.Leaving ss other = tt

-- of one that was let in, and whose stage is so
later : (r : Rights) (w : Walked) (stage : Stage) (aliases : Aliases) (step : Step) → w.client.stage ≡ stages.Open → (stage ≡ stages.Open) ⊎ (stage ≡ stages.Over) → IsWalkGood r w → StepLet r w.client.login step
    → IsWalkGood r (record { client = record w.client { stage = stage; aliases = aliases }; steps = w.steps ++ step ∷ [] })
later r w stage aliases step opened is good one = record {
  client = record {
    staged = elim is [
      | inl e ↦ subst (λ (s : Stage). StageGood s w.client.login) (opened ∙ sym e) good.client.staged
      | inr e ↦ subst (λ (s : Stage). StageGood s w.client.login) (sym e) tt
    ];
  };
  steps = all_then (StepLet r w.client.login) w.steps (step ∷ []) good.steps (one, tt);
  first = elim is [
    | inl e ↦ subst (λ (s : Stage). FirstGood s (w.steps ++ step ∷ [])) (sym e) tt
    | inr e ↦ subst (λ (s : Stage). FirstGood s (w.steps ++ step ∷ [])) (sym e) tt
  ];
}

-- ---- CONNECT

none_some : (x : Login) → None ≡ Some x → ⊥
none_some x e = absurd cc

both_true : (a b : Bool) → (a && b) ≡ true → (a ≡ true) × (b ≡ true)
both_true true true e = (refl, refl)
both_true true false e = absurd cc
both_true false b e = absurd cc

-- ---- the first packet

begun_steps : (r : Rights) (l : Option Login) (w : Walked) (room : Option ℕ) → w.steps ≡ [] → AllByRecursion (StepLet r l) (begun w room).steps
begun_steps r l w None none = subst (λ (ss : List Step). AllByRecursion (StepLet r l) (ss ++ steps.Opens ∷ [])) (sym none) (tt, tt)
begun_steps r l w (Some n) none = subst (λ (ss : List Step). AllByRecursion (StepLet r l) ((ss ++ steps.Opens ∷ []) ++ steps.Rooms n ∷ [])) (sym none) (tt, (tt, tt))

begun_login : (w : Walked) (room : Option ℕ) → (begun w room).client.login ≡ w.client.login
begun_login w None = refl
begun_login w (Some n) = refl

first_good : (r : Rights) (w : Walked) (room : Option ℕ) (bs : List ℕ) → IsGood r (stages.Waiting room) w.client.login → w.steps ≡ [] → MayTell r None bs → IsWalkGood r (told_first w room bs)
first_good r w room bs good none may =
    let nobody : (begun w room).client.login ≡ None = begun_login w room ∙ good.staged in
    let tells : StepLet r (begun w room).client.login (steps.Tells bs) = subst (λ (l : Option Login). MayTell r l bs) (sym nobody) may in
    record {
      client = record { staged = tt };
      steps = all_then (StepLet r (begun w room).client.login) (begun w room).steps (steps.Tells bs ∷ []) (begun_steps r (begun w room).client.login w room none) (tells, tt);
      first = tt;
    }

let_in_good : (r : Rights) (w : Walked) (room : Option ℕ) (l : Login) (step : Step) → w.steps ≡ [] → StepLet r (Some l) step → IsWalkGood r (let_in w room l step)
let_in_good r w room l step none one = record {
  client = record { staged = (l, refl) };
  steps = all_then (StepLet r (Some l)) (begun w room).steps (step ∷ []) (begun_steps r (Some l) w room none) (one, tt);
  first = tt;
}

connect_let : (r : Rights) (marked : Bool) (bs : List ℕ) (c : Connect) (l : Login) → MayTell r (Some l) bs → StepLet r (Some l) (cond marked (steps.Asks (packets.Connect (cleaned c)) None) (steps.Tells bs))
connect_let r true bs c l may = tt
connect_let r false bs c l may = may

with_good : (r : Rights) (marked : List ℕ → Bool) (w : Walked) (room : Option ℕ) (bs : List ℕ) (c : Connect) (code : Option ℕ) → IsGood r (stages.Waiting room) w.client.login → w.steps ≡ []
    → MayTell r (Some (names_of c)) bs → IsWalkGood r (entered_with marked w room bs c code)
with_good r marked w room bs c (Some code) good none may = record {
  client = record { staged = tt };
  steps = subst (λ (ss : List Step). AllByRecursion (StepLet r w.client.login) (ss ++ steps.TurnsAway code ∷ [])) (sym none) (tt, tt);
  first = tt;
}
with_good r marked w room bs c None good none may =
    let_in_good r w room (names_of c) (connect_step marked bs c) none (connect_let r (marked c.client) bs c (names_of c) may)

entered_case : (r : Rights) (marked : List ℕ → Bool) (w : Walked) (room : Option ℕ) (bs rest : List ℕ) (p : Packet) → packet_at bs ≡ Ok (Some (p, rest)) → IsGood r (stages.Waiting room) w.client.login → w.steps ≡ []
    → IsWalkGood r (entered_by r marked w room bs p)
entered_case r marked w room bs rest (packets.Connect c) e good none =
    with_good r marked w room bs c (connect_code r c) good none (read_let r (Some (names_of c)) bs (subst (ReadOf r (Some (names_of c))) (sym e) tt))
entered_case r marked w room bs rest (packets.Connack c) e good none = first_good r w room bs good none (read_let r None bs (subst (ReadOf r None) (sym e) tt))
entered_case r marked w room bs rest (packets.Puback a) e good none = first_good r w room bs good none (read_let r None bs (subst (ReadOf r None) (sym e) tt))
entered_case r marked w room bs rest (packets.Pubrec a) e good none = first_good r w room bs good none (read_let r None bs (subst (ReadOf r None) (sym e) tt))
entered_case r marked w room bs rest (packets.Pubrel a) e good none = first_good r w room bs good none (read_let r None bs (subst (ReadOf r None) (sym e) tt))
entered_case r marked w room bs rest (packets.Pubcomp a) e good none = first_good r w room bs good none (read_let r None bs (subst (ReadOf r None) (sym e) tt))
entered_case r marked w room bs rest (packets.Suback s) e good none = first_good r w room bs good none (read_let r None bs (subst (ReadOf r None) (sym e) tt))
entered_case r marked w room bs rest (packets.Unsubscribe u) e good none = first_good r w room bs good none (read_let r None bs (subst (ReadOf r None) (sym e) tt))
entered_case r marked w room bs rest (packets.Unsuback s) e good none = first_good r w room bs good none (read_let r None bs (subst (ReadOf r None) (sym e) tt))
entered_case r marked w room bs rest packets.Pingreq e good none = first_good r w room bs good none (read_let r None bs (subst (ReadOf r None) (sym e) tt))
entered_case r marked w room bs rest packets.Pingresp e good none = first_good r w room bs good none (read_let r None bs (subst (ReadOf r None) (sym e) tt))
entered_case r marked w room bs rest (packets.Disconnect p) e good none = first_good r w room bs good none (read_let r None bs (subst (ReadOf r None) (sym e) tt))
entered_case r marked w room bs rest (packets.Auth p) e good none = first_good r w room bs good none (read_let r None bs (subst (ReadOf r None) (sym e) tt))
entered_case r marked w room bs rest (packets.Publish p) e good none = first_good r w room bs good none (read_let r None bs (subst (ReadOf r None) (sym e) tt))
entered_case r marked w room bs rest (packets.Subscribe s) e good none = first_good r w room bs good none (read_let r None bs (subst (ReadOf r None) (sym e) tt))

entered_good : (r : Rights) (marked : List ℕ → Bool) (w : Walked) (room : Option ℕ) (bs : List ℕ) (x : Result (Option (Packet × List ℕ)) PacketFault) → packet_at bs ≡ x → IsGood r (stages.Waiting room) w.client.login → w.steps ≡ []
    → IsWalkGood r (entered r marked w room bs x)
entered_good r marked w room bs (Ok (Some (p, rest))) e good none = entered_case r marked w room bs rest p e good none
entered_good r marked w room bs (Ok None) e good none = first_good r w room bs good none (read_let r None bs (subst (ReadOf r None) (sym e) tt))
entered_good r marked w room bs (Err f) e good none = first_good r w room bs good none (read_let r None bs (subst (ReadOf r None) (sym e) tt))

-- ---- PUBLISH

topic_case : (b may other : Bool) → cond b may other ≡ true → b ≡ true → may ≡ true
topic_case true may other e is = e
topic_case false may other e is = absurd cc

again_step : (r : Rights) (l : Option Login) (p : Publish) (dup : Bool) → StepLet r l (cond dup steps.Ends (steps.Acks (pubrec p.identifier)))
again_step r l p true = tt
again_step r l p false = (Receives p.identifier, refl)

refused_step : (r : Rights) (l : Option Login) (p : Publish) (qos : Qos) → StepLet r l (refusal_at qos p)
refused_step r l p AtMostOnce = tt
refused_step r l p AtLeastOnce = (Acknowledges p.identifier, refl)
refused_step r l p ExactlyOnce = again_step r l p p.dup

publish_let : (r : Rights) (w : Walked) (bs rest : List ℕ) (p : Publish) (l : Login) (allowed : Bool) → packet_at bs ≡ Ok (Some (packets.Publish p, rest)) → is_allowed r l w.client.aliases p ≡ allowed
    → StepLet r (Some l) (publish_step allowed bs p)
publish_let r w bs rest p l true e is =
    read_let r (Some l) bs (subst (ReadOf r (Some l)) (sym e) (λ has. topic_case (has_topic p) (r.may_write l p.topic) (is_alias_allowed w.client.aliases (alias_of p)) is has))
publish_let r w bs rest p l false e is = refused_step r (Some l) p p.qos

staged_by : (step : Step) → (stage_by step stages.Open ≡ stages.Open) ⊎ (stage_by step stages.Open ≡ stages.Over)
staged_by steps.Opens = inl refl
staged_by (steps.Rooms n) = inl refl
staged_by (steps.Tells bs) = inl refl
staged_by (steps.Asks p a) = inl refl
staged_by (steps.Acks bs) = inl refl
staged_by (steps.Subacks bs n) = inl refl
staged_by steps.Drops = inl refl
staged_by (steps.TurnsAway code) = inl refl
staged_by steps.Ends = inr refl

stage_so : (step : Step) (stage : Stage) → stage ≡ stages.Open → (stage_by step stage ≡ stages.Open) ⊎ (stage_by step stage ≡ stages.Over)
stage_so step stage opened = subst (λ (s : Stage). (stage_by step s ≡ stages.Open) ⊎ (stage_by step s ≡ stages.Over)) (sym opened) (staged_by step)

published_case : (r : Rights) (w : Walked) (bs rest : List ℕ) (p : Publish) (login : Option Login) → w.client.login ≡ login → packet_at bs ≡ Ok (Some (packets.Publish p, rest)) → w.client.stage ≡ stages.Open → IsWalkGood r w
    → IsWalkGood r (published_by r w bs p login)
published_case r w bs rest p None is e opened good = good
published_case r w bs rest p (Some l) is e opened good =
    let allowed : Bool = is_allowed r l w.client.aliases p in
    let one : StepLet r w.client.login (publish_step allowed bs p) = subst (λ (x : Option Login). StepLet r x (publish_step allowed bs p)) (sym is) (publish_let r w bs rest p l allowed e refl) in
    later r w (stage_by (publish_step allowed bs p) w.client.stage) (aliases_after allowed p w.client.aliases) (publish_step allowed bs p) opened (stage_so (publish_step allowed bs p) w.client.stage opened) good one

-- ---- SUBSCRIBE

abbrev code_of : Bool → Option ℕ
code_of b = cond b None (Some 135)

code_none : (b : Bool) → is_none (code_of b) ≡ true → b ≡ true
code_none true e = refl
code_none false e = absurd cc

all_asked : (r : Rights) (l : Login) (fs : List SubscribeFilter) → list_all is_none (codes_of r l fs) ≡ true → AllByRecursion (λ f. r.may_subscribe l f.filter ≡ true) fs
all_asked r l [] e = tt
all_asked r l (f ∷ fs) e =
    let both = both_true (is_none (filter_code r l f)) (list_all is_none (codes_of r l fs)) e in
    (code_none (is_asked r l f) both.0, all_asked r l fs both.1)

kept_asked : (r : Rights) (l : Login) (f : SubscribeFilter) (fs : List SubscribeFilter) (b : Bool) → is_asked r l f ≡ b → AllByRecursion (λ x. r.may_subscribe l x.filter ≡ true) fs
    → AllByRecursion (λ x. r.may_subscribe l x.filter ≡ true) (cond b (f ∷ fs) fs)
kept_asked r l f fs true is all = (is, all)
kept_asked r l f fs false is all = all

some_asked : (r : Rights) (l : Login) (fs : List SubscribeFilter) → AllByRecursion (λ f. r.may_subscribe l f.filter ≡ true) (filter (is_asked r l) fs)
some_asked r l [] = tt
some_asked r l (f ∷ fs) = kept_asked r l f (filter (is_asked r l) fs) (is_asked r l f) refl (some_asked r l fs)

subscribe_case : (r : Rights) (l : Login) (bs rest : List ℕ) (s : Subscribe) (none some : Bool) → packet_at bs ≡ Ok (Some (packets.Subscribe s, rest)) → list_all is_none (codes_of r l s.filters) ≡ none
    → StepLet r (Some l) (cond none (steps.Tells bs) (cond some (suback_step s.identifier (codes_of r l s.filters))
    (steps.Asks (packets.Subscribe (smaller r l s)) (Some (record { identifier = s.identifier; codes = codes_of r l s.filters })))))
subscribe_case r l bs rest s true some e is = read_let r (Some l) bs (subst (ReadOf r (Some l)) (sym e) (all_asked r l s.filters is))
subscribe_case r l bs rest s false true e is = (Subscribes s.identifier (merged (codes_of r l s.filters) []), refl)
subscribe_case r l bs rest s false false e is = some_asked r l s.filters

with_good_step : (r : Rights) (w : Walked) (step : Step) → w.client.stage ≡ stages.Open → IsWalkGood r w → StepLet r w.client.login step → IsWalkGood r (with_step w step)
with_good_step r w step opened good one = record {
  client = good.client;
  steps = all_then (StepLet r w.client.login) w.steps (step ∷ []) good.steps (one, tt);
  first = subst (λ (s : Stage). FirstGood s (w.steps ++ step ∷ [])) (sym opened) tt;
}

subscribed_case : (r : Rights) (w : Walked) (bs rest : List ℕ) (s : Subscribe) (login : Option Login) → w.client.login ≡ login → packet_at bs ≡ Ok (Some (packets.Subscribe s, rest)) → w.client.stage ≡ stages.Open → IsWalkGood r w
    → IsWalkGood r (subscribed_by r w bs s login)
subscribed_case r w bs rest s None is e opened good = good
subscribed_case r w bs rest s (Some l) is e opened good =
    with_good_step r w (subscribe_step r l bs s) opened good
    (subst (λ (x : Option Login). StepLet r x (subscribe_step r l bs s)) (sym is) (subscribe_case r l bs rest s (list_all is_none (codes_of r l s.filters)) (list_all is_some (codes_of r l s.filters)) e refl))

-- ---- any other packet

tells_good : (r : Rights) (w : Walked) (bs : List ℕ) (x : Result (Option (Packet × List ℕ)) PacketFault) → packet_at bs ≡ x → w.client.stage ≡ stages.Open → IsWalkGood r w → ((l : Login) → ReadOf r (Some l) x)
    → IsWalkGood r (with_step w (steps.Tells bs))
tells_good r w bs x e opened good may =
    let at_open : StageGood stages.Open w.client.login = subst (λ (s : Stage). StageGood s w.client.login) opened good.client.staged in
    let tells : MayTell r (Some at_open.0) bs = read_let r (Some at_open.0) bs (subst (ReadOf r (Some at_open.0)) (sym e) (may at_open.0)) in
    with_good_step r w (steps.Tells bs) opened good (subst (λ (l : Option Login). MayTell r l bs) (sym at_open.1) tells)

next_case : (r : Rights) (w : Walked) (bs rest : List ℕ) (p : Packet) → packet_at bs ≡ Ok (Some (p, rest)) → w.client.stage ≡ stages.Open → IsWalkGood r w → IsWalkGood r (next_by r w bs p)
next_case r w bs rest (packets.Publish p) e opened good = published_case r w bs rest p w.client.login refl e opened good
next_case r w bs rest (packets.Subscribe s) e opened good = subscribed_case r w bs rest s w.client.login refl e opened good
next_case r w bs rest (packets.Connect c) e opened good = tells_good r w bs (Ok (Some (packets.Connect c, rest))) e opened good (λ l. tt)
next_case r w bs rest (packets.Connack c) e opened good = tells_good r w bs (Ok (Some (packets.Connack c, rest))) e opened good (λ l. tt)
next_case r w bs rest (packets.Puback a) e opened good = tells_good r w bs (Ok (Some (packets.Puback a, rest))) e opened good (λ l. tt)
next_case r w bs rest (packets.Pubrec a) e opened good = tells_good r w bs (Ok (Some (packets.Pubrec a, rest))) e opened good (λ l. tt)
next_case r w bs rest (packets.Pubrel a) e opened good = tells_good r w bs (Ok (Some (packets.Pubrel a, rest))) e opened good (λ l. tt)
next_case r w bs rest (packets.Pubcomp a) e opened good = tells_good r w bs (Ok (Some (packets.Pubcomp a, rest))) e opened good (λ l. tt)
next_case r w bs rest (packets.Suback s) e opened good = tells_good r w bs (Ok (Some (packets.Suback s, rest))) e opened good (λ l. tt)
next_case r w bs rest (packets.Unsubscribe u) e opened good = tells_good r w bs (Ok (Some (packets.Unsubscribe u, rest))) e opened good (λ l. tt)
next_case r w bs rest (packets.Unsuback s) e opened good = tells_good r w bs (Ok (Some (packets.Unsuback s, rest))) e opened good (λ l. tt)
next_case r w bs rest packets.Pingreq e opened good = tells_good r w bs (Ok (Some (packets.Pingreq, rest))) e opened good (λ l. tt)
next_case r w bs rest packets.Pingresp e opened good = tells_good r w bs (Ok (Some (packets.Pingresp, rest))) e opened good (λ l. tt)
next_case r w bs rest (packets.Disconnect p) e opened good = tells_good r w bs (Ok (Some (packets.Disconnect p, rest))) e opened good (λ l. tt)
next_case r w bs rest (packets.Auth p) e opened good = tells_good r w bs (Ok (Some (packets.Auth p, rest))) e opened good (λ l. tt)

next_good : (r : Rights) (w : Walked) (bs : List ℕ) (x : Result (Option (Packet × List ℕ)) PacketFault) → packet_at bs ≡ x → w.client.stage ≡ stages.Open → IsWalkGood r w → IsWalkGood r (next r w bs x)
next_good r w bs (Ok (Some (p, rest))) e opened good = next_case r w bs rest p e opened good
next_good r w bs (Ok None) e opened good = tells_good r w bs (Ok None) e opened good (λ l. tt)
next_good r w bs (Err f) e opened good = tells_good r w bs (Err f) e opened good (λ l. tt)

-- ---- one packet after another

waiting : (r : Rights) (w : Walked) (room : Option ℕ) → w.client.stage ≡ stages.Waiting room → IsWalkGood r w → IsGood r (stages.Waiting room) w.client.login × (w.steps ≡ [])
waiting r w room is good =
    (subst (λ (s : Stage). IsGood r s w.client.login) is good.client, subst (λ (s : Stage). FirstGood s w.steps) is good.first)

took_case : (r : Rights) (marked : List ℕ → Bool) (w : Walked) (bs : List ℕ) (stage : Stage) → w.client.stage ≡ stage → IsWalkGood r w → IsWalkGood r (took_at r marked w bs stage)
took_case r marked w bs (stages.Waiting room) is good = let x = waiting r w room is good in entered_good r marked w room bs (packet_at bs) refl x.0 x.1
took_case r marked w bs stages.Open is good = next_good r w bs (packet_at bs) refl is good
took_case r marked w bs stages.Over is good = good
took_case r marked w bs stages.Leaving is good = good

walked_good : (r : Rights) (marked : List ℕ → Bool) (w : Walked) (ps : List (List ℕ)) → IsWalkGood r w → IsWalkGood r (walked r marked w ps)
walked_good r marked w [] good = good
walked_good r marked w (p ∷ ps) good = walked_good r marked (took r marked w p) ps (took_case r marked w p w.client.stage refl good)

-- what begins no packet
unread_case : (r : Rights) (w : Walked) (rest : List ℕ) (stage : Stage) → w.client.stage ≡ stage → IsUnread rest → IsWalkGood r w → IsWalkGood r (unread_at w rest stage)
unread_case r w rest (stages.Waiting room) is none good = let x = waiting r w room is good in first_good r w room rest x.0 x.1 (inr none)
unread_case r w rest stages.Open is none good = later r w stages.Over w.client.aliases (steps.Tells rest) is (inr refl) good (inr none)
unread_case r w rest stages.Over is none good = good
unread_case r w rest stages.Leaving is none good = good

ended_good : (r : Rights) (end : End) (rest : List ℕ) (w : Walked) → Ends limit rest end → IsWalkGood r w → IsWalkGood r (ended end rest w)
ended_good r ends.Open rest w e good = good
ended_good r ends.TooLong rest w e good = unread_case r w rest w.client.stage refl (inl e) good
ended_good r ends.Broken rest w e good = unread_case r w rest w.client.stage refl (inr e) good

first_none : (stage : Stage) → FirstGood stage []
first_none (stages.Waiting room) = refl
first_none stages.Open = tt
first_none stages.Over = tt
first_none stages.Leaving = tt

started_good : (r : Rights) (c : Client) → IsGood r c.stage c.login → IsWalkGood r (started c)
started_good r c good = record { client = good; steps = tt; first = first_none c.stage }

come_on_good : (r : Rights) (marked : List ℕ → Bool) (c : Client) (bytes : List ℕ) → IsGood r c.stage c.login → IsWalkGood r (come_on r marked c bytes)
come_on_good r marked c bytes good =
    let parts : Cut = cut limit (c.partial ++ bytes) in
    let begin : Walked = started (record c { partial = kept parts.end parts.rest }) in
    ended_good r parts.end parts.rest (walked r marked begin parts.packets) (cut_ends limit (c.partial ++ bytes))
    (walked_good r marked begin parts.packets (started_good r (record c { partial = kept parts.end parts.rest }) good))

come_case : (r : Rights) (marked : List ℕ → Bool) (c : Client) (bytes : List ℕ) (stage : Stage) → IsGood r c.stage c.login → IsWalkGood r (come_at r marked c bytes stage)
come_case r marked c bytes (stages.Waiting room) good = come_on_good r marked c bytes good
come_case r marked c bytes stages.Open good = come_on_good r marked c bytes good
come_case r marked c bytes stages.Over good = started_good r c good
come_case r marked c bytes stages.Leaving good = started_good r c good

-- ---- what happens

record IsHeldGood (r : Rights) (x : Held) : Type 0 where
  client : IsGood r x.client.stage x.client.login
  todo : AllByRecursion (StepLet r x.client.login) x.doing.todo

abbrev Good : Rights → Option Held → Type 0
Good r None = Unit {0}
Good r (Some x) = IsHeldGood r x

record EffectGood (r : Rights) (l : Option Login) (e : Effect) : Type 0 where
  held : Good r e.held
  told : AllByRecursion (MaySay r l) e.told
  out : AllByRecursion (MayGoOut r l) e.out

if_good : (r : Rights) (l : Option Login) (b : Bool) (e f : Effect) → EffectGood r l e → EffectGood r l f → EffectGood r l (cond b e f)
if_good r l true e f a b = a
if_good r l false e f a b = b

quiet_good : (r : Rights) (l : Option Login) (s : Option Held) → Good r s → EffectGood r l (quiet s)
quiet_good r l s good = record { held = good; told = tt; out = tt }

-- its end goes out
left_good : (r : Rights) (x : Held) → IsHeldGood r x → EffectGood r x.client.login (ends x)
left_good r x good = record {
  held = record { client = record { staged = tt }; todo = good.todo };
  told = tt;
  out = (inr (EndsIt, refl), (tt, tt));
}

spaced_good : (r : Rights) (n : ℕ) (x : Held) (stage : Stage) → x.client.stage ≡ stage → IsHeldGood r x → EffectGood r x.client.login (spaced_by n x stage)
spaced_good r n x (stages.Waiting room) is good = record {
  held = record { client = record { staged = subst (λ (s : Stage). StageGood s x.client.login) is good.client.staged }; todo = good.todo };
  told = tt;
  out = tt;
}
spaced_good r n x stages.Open is good = record { held = good; told = (tt, tt); out = tt }
spaced_good r n x stages.Over is good = record { held = good; told = (tt, tt); out = tt }
spaced_good r n x stages.Leaving is good = record { held = good; told = tt; out = tt }

-- a step is done
done_good : (r : Rights) (x : Held) (more : List Step) (step : Step) → IsGood r x.client.stage x.client.login → StepLet r x.client.login step → AllByRecursion (StepLet r x.client.login) more
    → EffectGood r x.client.login (done x more step)
done_good r x more steps.Opens good one all = record { held = record { client = good; todo = all }; told = (tt, tt); out = tt }
done_good r x more (steps.Rooms n) good one all = record { held = record { client = good; todo = all }; told = (tt, tt); out = tt }
done_good r x more (steps.Tells bs) good one all = record { held = record { client = good; todo = all }; told = (one, tt); out = tt }
done_good r x more (steps.Asks p a) good one all = record { held = record { client = good; todo = all }; told = (one, tt); out = tt }
done_good r x more (steps.Acks bs) good one all = record { held = record { client = good; todo = all }; told = tt; out = (inr one, tt) }
done_good r x more (steps.Subacks bs n) good one all = record { held = record { client = good; todo = all }; told = tt; out = (inr one, tt) }
done_good r x more steps.Drops good one all = record { held = record { client = good; todo = all }; told = tt; out = tt }
done_good r x more (steps.TurnsAway code) good one all = record { held = tt; told = tt; out = (inr (TurnsAway code, refl), (tt, tt)) }
done_good r x more steps.Ends good one all = left_good r (record { client = x.client; doing = record { todo = more; awaited = None } }) (record { client = good; todo = all })

does_good : (r : Rights) (x : Held) (todo : List Step) → IsGood r x.client.stage x.client.login → AllByRecursion (StepLet r x.client.login) todo → IsHeldGood r x → EffectGood r x.client.login (does_next x todo)
does_good r x [] client all good = quiet_good r x.client.login (Some x) good
does_good r x (step ∷ more) client all good =
    if_good r x.client.login (is_leaving x.client) (quiet (after x more None)) (done x more step)
    (quiet_good r x.client.login (after x more None) (record { client = client; todo = all.1 })) (done_good r x more step client all.0 all.1)

-- ---- what goes out

received : (r : Rights) (l : Option Login) (p : Publish) → may_receive r l p ≡ true → MayReceive r l p
received r None p e = absurd cc
received r (Some x) p e = (x, refl, e)

readable_so : (r : Rights) (l : Option Login) (x : List ℕ) → is_readable r l x ≡ true → (p : Publish) (rest : List ℕ) → packet_at x ≡ Ok (Some (packets.Publish p, rest)) → MayReceive r l p
readable_so r l x is p rest e = received r l p (sym (ap (readable_at r l) e) ∙ is)

all_readable : (r : Rights) (l : Option Login) (xs : List (List ℕ)) → list_all (is_readable r l) xs ≡ true
    → AllByRecursion (λ x. (p : Publish) (rest : List ℕ) → packet_at x ≡ Ok (Some (packets.Publish p, rest)) → MayReceive r l p) xs
all_readable r l [] e = tt
all_readable r l (x ∷ xs) e = let both = both_true (is_readable r l x) (list_all (is_readable r l) xs) e in (readable_so r l x both.0, all_readable r l xs both.1)

empty_is : (xs : List ℕ) → is_nothing xs ≡ true → xs ≡ []
empty_is [] e = refl
empty_is (x ∷ xs) e = let zero : length (x ∷ xs) ≡ 0 = eqb-true (length (x ∷ xs)) 0 e in absurd (omega arith)

goes_readable : (r : Rights) (l : Option Login) (bs : List ℕ) → may_go r l bs ≡ true → AreReadable r l bs
goes_readable r l bs e =
    let parts : Cut = cut 268435460 bs in
    let both = both_true (is_nothing parts.rest) (list_all (is_readable r l) parts.packets) e in
    record { whole = empty_is parts.rest both.0; each = all_readable r l parts.packets both.1 }

got_good : (r : Rights) (x : Held) (bs : List ℕ) (goes : Bool) → may_go r x.client.login bs ≡ goes → IsHeldGood r x → EffectGood r x.client.login (cond goes (sends (Some x) bs) (ends x))
got_good r x bs true is good = record { held = good; told = tt; out = (inl (goes_readable r x.client.login bs is), tt) }
got_good r x bs false is good = left_good r x good

gone_good : (r : Rights) (l : Option Login) (stage : Stage) → AllByRecursion (MaySay r l) (gone_by stage)
gone_good r l (stages.Waiting room) = tt
gone_good r l stages.Open = (tt, tt)
gone_good r l stages.Over = (tt, tt)
gone_good r l stages.Leaving = (tt, tt)

closed_good : (r : Rights) (l : Option Login) (b : Bool) → AllByRecursion (MayGoOut r l) (cond b [] (EndOf ∷ []))
closed_good r l true = tt
closed_good r l false = (tt, tt)

fresh_good : (r : Rights) → IsGood r fresh.stage fresh.login
fresh_good r = record { staged = refl }

effect_good : (r : Rights) (s : Option Held) (h : Happening) → Good r s → EffectGood r (login_of s) (effect r s h)
effect_good r s Opens good = record { held = record { client = fresh_good r; todo = tt }; told = tt; out = tt }
effect_good r None Goes good = record { held = tt; told = tt; out = tt }
effect_good r (Some x) Goes good = record { held = tt; told = gone_good r x.client.login x.client.stage; out = tt }
effect_good r None (Spaces n) good = quiet_good r None None tt
effect_good r (Some x) (Spaces n) good = spaced_good r n x x.client.stage refl good
effect_good r None (Comes marked bytes) good = quiet_good r None None tt
effect_good r (Some x) (Comes marked bytes) good =
    let w = come_case r marked x.client bytes x.client.stage good.client in
    record { held = record { client = w.client; todo = w.steps }; told = tt; out = tt }
effect_good r None Does good = quiet_good r None None tt
effect_good r (Some x) Does good = does_good r x x.doing.todo good.client good.todo good
effect_good r None Rests good = quiet_good r None None tt
effect_good r (Some x) Rests good = record { held = record { client = good.client; todo = good.todo }; told = tt; out = tt }
effect_good r None (Gets bytes) good = quiet_good r None None tt
effect_good r (Some x) (Gets bytes) good =
    let put : List ℕ = mended x.doing.awaited bytes in
    if_good r x.client.login (is_leaving x.client) (quiet (Some x)) (got r x put) (quiet_good r x.client.login (Some x) good) (got_good r x put (may_go r x.client.login put) refl good)
effect_good r None Closes good = record { held = tt; told = tt; out = tt }
effect_good r (Some x) Closes good = record { held = tt; told = tt; out = closed_good r x.client.login (is_leaving x.client) }
effect_good r None Leaves good = quiet_good r None None tt
effect_good r (Some x) Leaves good =
    if_good r x.client.login (is_leaving x.client) (says None (Same Gone)) (quiet (Some x)) (record { held = tt; told = (tt, tt); out = tt }) (quiet_good r x.client.login (Some x) good)

all_good : (r : Rights) (s : Option Held) (hs : List Happening) → Good r s → Good r (held_after r s hs)
all_good r s [] good = good
all_good r s (h ∷ hs) good = all_good r (effect r s h).held hs (effect_good r s h good).held

-- ---- who was let in stays that

abbrev Stays : Option Login → Option Held → Type 0
Stays l s = (login_of s ≡ l) ⊎ ((login_of s ≡ None) × IsFreed s)

not_waiting : (r : Rights) (stage : Stage) (login : Option Login) (l : Login) (room : Option ℕ) → stage ≡ stages.Waiting room → StageGood stage login → login ≡ Some l → ⊥
not_waiting r stage login l room is good e =
    let nobody : login ≡ None = subst (λ (s : Stage). StageGood s login) is good in none_some l (sym nobody ∙ e)

published_login : (r : Rights) (w : Walked) (bs : List ℕ) (p : Publish) (login : Option Login) → (published_by r w bs p login).client.login ≡ w.client.login
published_login r w bs p None = refl
published_login r w bs p (Some l) = refl

subscribed_login : (r : Rights) (w : Walked) (bs : List ℕ) (s : Subscribe) (login : Option Login) → (subscribed_by r w bs s login).client.login ≡ w.client.login
subscribed_login r w bs s None = refl
subscribed_login r w bs s (Some l) = refl

next_login : (r : Rights) (w : Walked) (bs : List ℕ) (p : Packet) → (next_by r w bs p).client.login ≡ w.client.login
next_login r w bs (packets.Publish p) = published_login r w bs p w.client.login
next_login r w bs (packets.Subscribe s) = subscribed_login r w bs s w.client.login
next_login r w bs (packets.Connect c) = refl
next_login r w bs (packets.Connack c) = refl
next_login r w bs (packets.Puback a) = refl
next_login r w bs (packets.Pubrec a) = refl
next_login r w bs (packets.Pubrel a) = refl
next_login r w bs (packets.Pubcomp a) = refl
next_login r w bs (packets.Suback s) = refl
next_login r w bs (packets.Unsubscribe u) = refl
next_login r w bs (packets.Unsuback s) = refl
next_login r w bs packets.Pingreq = refl
next_login r w bs packets.Pingresp = refl
next_login r w bs (packets.Disconnect e) = refl
next_login r w bs (packets.Auth e) = refl

read_login : (r : Rights) (w : Walked) (bs : List ℕ) (x : Result (Option (Packet × List ℕ)) PacketFault) → (next r w bs x).client.login ≡ w.client.login
read_login r w bs (Ok (Some (p, rest))) = next_login r w bs p
read_login r w bs (Ok None) = refl
read_login r w bs (Err f) = refl

took_login : (r : Rights) (marked : List ℕ → Bool) (w : Walked) (bs : List ℕ) (l : Login) (stage : Stage) → w.client.stage ≡ stage → IsWalkGood r w → w.client.login ≡ Some l → (took_at r marked w bs stage).client.login ≡ Some l
took_login r marked w bs l (stages.Waiting room) is good e = absurd (not_waiting r w.client.stage w.client.login l room is good.client.staged e)
took_login r marked w bs l stages.Open is good e = read_login r w bs (packet_at bs) ∙ e
took_login r marked w bs l stages.Over is good e = e
took_login r marked w bs l stages.Leaving is good e = e

walked_login : (r : Rights) (marked : List ℕ → Bool) (w : Walked) (ps : List (List ℕ)) (l : Login) → IsWalkGood r w → w.client.login ≡ Some l → (walked r marked w ps).client.login ≡ Some l
walked_login r marked w [] l good e = e
walked_login r marked w (p ∷ ps) l good e =
    walked_login r marked (took r marked w p) ps l (took_case r marked w p w.client.stage refl good) (took_login r marked w p l w.client.stage refl good e)

unread_login : (r : Rights) (w : Walked) (rest : List ℕ) (l : Login) (stage : Stage) → w.client.stage ≡ stage → IsWalkGood r w → w.client.login ≡ Some l → (unread_at w rest stage).client.login ≡ Some l
unread_login r w rest l (stages.Waiting room) is good e = absurd (not_waiting r w.client.stage w.client.login l room is good.client.staged e)
unread_login r w rest l stages.Open is good e = e
unread_login r w rest l stages.Over is good e = e
unread_login r w rest l stages.Leaving is good e = e

ended_login : (r : Rights) (end : End) (rest : List ℕ) (w : Walked) (l : Login) → IsWalkGood r w → w.client.login ≡ Some l → (ended end rest w).client.login ≡ Some l
ended_login r ends.Open rest w l good e = e
ended_login r ends.TooLong rest w l good e = unread_login r w rest l w.client.stage refl good e
ended_login r ends.Broken rest w l good e = unread_login r w rest l w.client.stage refl good e

come_on_login : (r : Rights) (marked : List ℕ → Bool) (c : Client) (bytes : List ℕ) (l : Login) → IsGood r c.stage c.login → c.login ≡ Some l → (come_on r marked c bytes).client.login ≡ Some l
come_on_login r marked c bytes l good e =
    let parts : Cut = cut limit (c.partial ++ bytes) in
    let begin : Walked = started (record c { partial = kept parts.end parts.rest }) in
    let start : IsWalkGood r begin = started_good r (record c { partial = kept parts.end parts.rest }) good in
    ended_login r parts.end parts.rest (walked r marked begin parts.packets) l (walked_good r marked begin parts.packets start) (walked_login r marked begin parts.packets l start e)

come_login : (r : Rights) (marked : List ℕ → Bool) (c : Client) (bytes : List ℕ) (l : Login) (stage : Stage) → IsGood r c.stage c.login → c.login ≡ Some l → (come_at r marked c bytes stage).client.login ≡ Some l
come_login r marked c bytes l (stages.Waiting room) good e = come_on_login r marked c bytes l good e
come_login r marked c bytes l stages.Open good e = come_on_login r marked c bytes l good e
come_login r marked c bytes l stages.Over good e = e
come_login r marked c bytes l stages.Leaving good e = e

stays_if : (l : Option Login) (b : Bool) (e f : Effect) → Stays l e.held → Stays l f.held → Stays l (cond b e f).held
stays_if l true e f a b = a
stays_if l false e f a b = b

done_stays : (x : Held) (more : List Step) (step : Step) → Stays x.client.login (done x more step).held
done_stays x more steps.Opens = inl refl
done_stays x more (steps.Rooms n) = inl refl
done_stays x more (steps.Tells bs) = inl refl
done_stays x more (steps.Asks p a) = inl refl
done_stays x more (steps.Acks bs) = inl refl
done_stays x more (steps.Subacks bs n) = inl refl
done_stays x more steps.Drops = inl refl
done_stays x more (steps.TurnsAway code) = inr (refl, tt)
done_stays x more steps.Ends = inl refl

does_stays : (x : Held) (todo : List Step) → Stays x.client.login (does_next x todo).held
does_stays x [] = inl refl
does_stays x (step ∷ more) = stays_if x.client.login (is_leaving x.client) (quiet (after x more None)) (done x more step) (inl refl) (done_stays x more step)

spaced_stays : (n : ℕ) (x : Held) (stage : Stage) → Stays x.client.login (spaced_by n x stage).held
spaced_stays n x (stages.Waiting room) = inl refl
spaced_stays n x stages.Open = inl refl
spaced_stays n x stages.Over = inl refl
spaced_stays n x stages.Leaving = inl refl

some_stays : (r : Rights) (x : Held) (h : Happening) (l : Login) → IsHeldGood r x → x.client.login ≡ Some l → Stays x.client.login (effect r (Some x) h).held
some_stays r x Opens l good e = inr (refl, refl)
some_stays r x Goes l good e = inr (refl, tt)
some_stays r x (Spaces n) l good e = spaced_stays n x x.client.stage
some_stays r x (Comes marked bytes) l good e = inl (come_login r marked x.client bytes l x.client.stage good.client e ∙ sym e)
some_stays r x Does l good e = does_stays x x.doing.todo
some_stays r x Rests l good e = inl refl
some_stays r x (Gets bytes) l good e =
    let put : List ℕ = mended x.doing.awaited bytes in
    stays_if x.client.login (is_leaving x.client) (quiet (Some x)) (got r x put) (inl refl) (stays_if x.client.login (may_go r x.client.login put) (sends (Some x) put) (ends x) (inl refl) (inl refl))
some_stays r x Closes l good e = inr (refl, tt)
some_stays r x Leaves l good e = stays_if x.client.login (is_leaving x.client) (says None (Same Gone)) (quiet (Some x)) (inr (refl, tt)) (inl refl)

held_stays : (r : Rights) (s : Option Held) (h : Happening) (l : Login) → Good r s → login_of s ≡ Some l → Stays (Some l) (effect r s h).held
held_stays r None h l good e = absurd (none_some l e)
held_stays r (Some x) h l good e = subst (λ (y : Option Login). Stays y (effect r (Some x) h).held) e (some_stays r x h l good e)

pub only_theirs : (r : Rights) → OnlyTheirs r
only_theirs r = record {
  admitted = each_entered r;
  told = λ hs h. (effect_good r (held_after r None hs) h (all_good r None hs tt)).told;
  out = λ hs h. (effect_good r (held_after r None hs) h (all_good r None hs tt)).out;
  stays = λ hs h l e. held_stays r (held_after r None hs) h l (all_good r None hs tt) e;
}
