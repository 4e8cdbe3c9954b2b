-- What PUBACK and PUBREC tell stays true.
use Rattle.std.proofs.Common.{◌≡◌, ◌⊎◌, inl, inr, ℕ, ◌==◌, ◌&&◌, Bool, true, false, cond, is_some, List, [], ◌∷◌, ◌++◌, Option, Some, None, unwrap_or, refl, sym, ap, ◌∙◌, subst, append_assoc, eq-eqb, eqb-true}
use Rattle.causal_context.specs.Dots.{Dot}
use Rattle.mqtt_fields.specs.declared.options.Qos.{Qos}
use Rattle.mqtt_fields.specs.declared.options.Qos.TheVariants.{AtMostOnce, AtLeastOnce, ExactlyOnce}
use Rattle.mqtt_message.specs.Accepted.{accepted as message_of}
use Rattle.mqtt_message.specs.declared.message.Message.{Message}
use Rattle.replica_store.specs.declared.operation.Operation.TheVariants.{Put}
use Rattle.replica_store.specs.Stamps.{Stamp}
use Rattle.mqtt_sessions.specs.declared.reaction.Ask.TheVariants.{Pass}
use Rattle.mqtt_sessions.specs.Answers.{puback, pubrec}
use Rattle.mqtt_packets.specs.declared.packet.Packet.TheVariants as packets
use Rattle.mqtt_packets.specs.declared.publish.Publish.{Publish}
use Rattle.mqtt_sessions.specs.Aliases as aliases
use Rattle.mqtt_sessions.specs.Reaction.{Reaction}
use Rattle.mqtt_sessions.specs.State.{Link, aliases_of, new_session}
use Rattle.law_sessions.specs.Aliases.{topics_told}
use Rattle.law_sessions.specs.Arrivals.{is_exactly_once, is_for, PassesBy, PassesOnce}
use Rattle.law_sessions.specs.Runs.{Step, Reacts, takes, loses, Run as SessionRun}
use Rattle.law_sessions.proofs.ArrivalLaws.{keeps_once}
use Rattle.law_sessions.proofs.ReplyLaws.{keeps_unheard, told-under}
use Rattle.law_nodes.specs.Lives.{life, step_in, lost_step}
use Rattle.law_nodes.proofs.LifeLaws.{run_more}
use Rattle.node_work.specs.Acts.{Act, Store, Session, Made}
use Rattle.node_work.specs.Held.Sessions.{Called, HappensAt}
use Rattle.node_work.specs.Passing.{content_given}
use Rattle.law_runs.specs.StepPublishing.{AnswersWith, Publishes, BeginsWithPassingOn, message_at}
use Rattle.law_runs.proofs.Acks.{puback_tells, pubrec_tells, alone, asks_pass}
use Rattle.law_runs.proofs.Passing.{accepted_is_passed_on}
use Rattle.cluster_play.specs.Worlds.{World}
use Rattle.cluster_play.specs.Runs.{Played}
use Rattle.cluster_play.specs.Histories.{Reached, site, acts_of, moves_amid}
use Rattle.cluster_play.proofs.Lives.{sessions_are_runs_amid}
use Rattle.law_runs.specs.Staying.{CallsSession}
use Rattle.law_runs.specs.Publishing.{TakesPublish, PutStays, IsPassedOn, WasPassedOn, StaysOpen, connected_over, PubackStaysTrue, PubrecStaysTrue, events_before, with_topic_told, message_after}
use Rattle.law_runs.proofs.Opening.{OpenedIn, last_once, open_over, opened_at, opened_in}
use Rattle.law_runs.proofs.Staying.{CalledAt, Finds, called_at, stays_made}

-- what is passed on after a call
passed_on : (run later : List Played) (m : Played) (w : World) → Reached (run ++ m ∷ later) w → (before : List Act) (c : CallsSession m before) (x : Message) (f : Finds run m before c) → BeginsWithPassingOn x c.step.at f.held.bridge c.after → IsPassedOn run later m w before c x
passed_on run later m w r before c x f passes = record {
  world = f.world;
  reached = f.reached;
  held = f.held;
  there = f.there;
  passes = passes;
  put = λ t. put_by x.retain passes.put t;
}
  where
    put_by : (b : Bool) → cond b ((dot : Dot) × (stamp : Stamp) × (passes.puts ≡ Store (Made (Put dot stamp (content_given x))) ∷ [])) (passes.puts ≡ []) → b ≡ true → PutStays run later m w before c x
    put_by true d t =
        let call = Session (Called c.step) in
        let a = Store (Made (Put d.0 d.1 (content_given x))) in
        let acts : acts_of m.fate ≡ (before ++ call ∷ []) ++ a ∷ passes.rest =
        c.acts ∙ ap (λ zs. before ++ call ∷ zs) (passes.is ∙ ap (λ zs. zs ++ passes.rest) d.2) ∙ sym (append_assoc before (call ∷ []) (a ∷ passes.rest)) in
        record { dot = d.0; stamp = d.1; made = stays_made run later m w r (before ++ call ∷ []) passes.rest (Put d.0 d.1 (content_given x)) acts; follows = refl }
    put_by false d t = absurd (let z : false ≡ true = t in cc)

module _ (run later : List Played) (m : Played) (w : World) (r : Reached (run ++ m ∷ later) w) (before : List Act) (c : CallsSession m before) where
  abbrev here : CalledAt run m before c
  here = called_at run later m w r before c

  -- the call takes the PUBLISH at its moment
  abbrev at_moment : {qos : Qos} {id : ℕ} (p : Publishes qos id c.step.event) → p.now ≡ c.step.at
  at_moment p = subst (HappensAt here.finds.held.at) p.event here.moment ∙ sym here.at

  abbrev takes_it : (qos : Qos) (id : ℕ) → Publishes qos id c.step.event → TakesPublish qos id c.step
  takes_it qos id p = record { publish = p.publish; room = p.room; event = p.event ∙ ap (λ n. takes (packets.Publish p.publish) n p.room) (at_moment p); qos_is = p.qos_is; identifier = p.identifier }

  -- the events of the session before the call
  abbrev steps : List Step
  steps = events_before run m before c

  runs : SessionRun (new_session c.step.client) steps here.finds.seat.session
  runs = sessions_are_runs_amid run here.finds.world m here.finds.reached (site m.fate) before here.finds.held here.finds.there c.step.client here.finds.seat here.finds.found

  -- by what they told the PUBLISH has its topic
  under : {qos : Qos} {id : ℕ} (p : Publishes qos id c.step.event) → c.step.reaction.ask ≡ Some (Pass (message_at here.finds.seat.session p)) → (o : Option Link) → here.finds.seat.session.link ≡ o
      → aliases.filled (aliases_of here.finds.seat.session.link) p.publish ≡ with_topic_told (topics_told steps) p.publish
  under p asks None e =
      let reacts = subst (λ e. Reacts here.finds.seat.session e c.step.reaction c.step.after) p.event here.reacts in
      let none = keeps_unheard here.finds.seat.session c.step.after (packets.Publish p.publish) p.now p.room c.step.reaction e reacts in
      absurd (let z : None ≡ Some (Pass (message_at here.finds.seat.session p)) = sym (ap (λ (v : Reaction). v.ask) none.0) ∙ asks in cc)
  under p asks (Some l) e = ap (λ (t : Option (List ℕ)). record p.publish { topic = unwrap_or t [] }) (told-under c.step.client steps here.finds.seat.session l p.publish runs e)

  accepted : (qos : Qos) (id : ℕ) (p : Publishes qos id c.step.event) → c.step.reaction.ask ≡ Some (Pass (message_at here.finds.seat.session p)) → IsPassedOn run later m w before c (message_after steps (takes_it qos id p))
  accepted qos id p asks =
      let x = message_after steps (takes_it qos id p) in
      let same : message_at here.finds.seat.session p ≡ x = λ i. message_of (under p asks here.finds.seat.session.link refl i) (here.client i) (at_moment p i) in
      passed_on run later m w r before c x here.finds
      (accepted_is_passed_on here.event here.finds.there.holds.site.node.place here.finds.there.held here.finds.held (acts_of m.fate) here.decides before c.after c.step x c.acts here.finds.there.runs
      (record { publish = p.publish; now = p.now; room = p.room; event = p.event; asks = asks ∙ ap (λ y. Some (Pass y)) same }))

  pub once : (id : ℕ) → AnswersWith (puback id 0) c.step.reaction.packets → (t : TakesPublish AtLeastOnce id c.step) × IsPassedOn run later m w before c (message_after steps t)
  once id g =
      let t = puback_tells here.finds.seat.session c.step.after c.step.event c.step.reaction id here.reacts g in
      (takes_it AtLeastOnce id t.0, accepted AtLeastOnce id t.0 t.1)

-- ---- PUBREC

is_for_it : (id : ℕ) (p : Publish) → p.qos ≡ ExactlyOnce → p.identifier ≡ id → is_for id p ≡ true
is_for_it id p q i = (λ k. is_exactly_once (q k) && (i k == id)) ∙ eq-eqb id id refl

qos_for : (q : Qos) (b : Bool) → is_exactly_once q && b ≡ true → (q ≡ ExactlyOnce) × (b ≡ true)
qos_for AtMostOnce b e = absurd (let z : false ≡ true = e in cc)
qos_for AtLeastOnce b e = absurd (let z : false ≡ true = e in cc)
qos_for ExactlyOnce b e = (refl, e)

-- the call that opened the exchange
opened_by : (run later : List Played) (m : Played) (w : World) → Reached (run ++ m ∷ later) w → (before : List Act) (c : CallsSession m before) (id : ℕ) → OpenedIn false id (life c.step.client (moves_amid (site m.fate) run before) []) → WasPassedOn run later m w before c id
opened_by run later m w r before c id o =
    let lost : lost_step ≡ o.step → ⊥ = λ e. (let z : loses ≡ takes (packets.Publish o.opens.publish) o.opens.now o.opens.room = ap (λ (v : Step). v.event) e ∙ o.opens.event in cc) in
    let x = opened_at run later m before c.after (Session (Called c.step)) c.step.client o.past o.since o.step c.acts lost o.is in
    let there = x.there in
    let call : CallsSession there.m there.before = record { step = x.step; after = there.after; acts = there.acts } in
    let again : Reached (there.first ++ there.m ∷ there.last) w = subst (λ ms. Reached ms w) {y = there.first ++ there.m ∷ there.last} there.is r in
    let event : x.step.event ≡ takes (packets.Publish o.opens.publish) o.opens.now o.opens.room = ap (λ (v : Step). v.event) x.step_is ∙ o.opens.event in
    let is = qos_for o.opens.publish.qos (o.opens.publish.identifier == id) o.opens.is_for in
    let p : Publishes ExactlyOnce id x.step.event = record { publish = o.opens.publish; now = o.opens.now; room = o.opens.room; event = event; qos_is = is.0; identifier = eqb-true o.opens.publish.identifier id is.1 } in
    let here = called_at there.first there.last there.m w again there.before call in
    let asks : x.step.reaction.ask ≡ Some (Pass (message_at here.finds.seat.session p)) =
    asks_pass here.finds.seat.session x.step.after o.opens.publish o.opens.now o.opens.room x.step.reaction (subst (λ e. Reacts here.finds.seat.session e x.step.reaction x.step.after) event here.reacts)
    (ap (λ (v : Step). is_some v.reaction.ask) x.step_is ∙ o.opens.asks) in
    record {
      first = there.first;
      opening = there.m;
      last = there.last;
      whole = there.is;
      at = there.at;
      earlier = there.before;
      call = call;
      same = x.same;
      publish = takes_it there.first there.last there.m w again there.before call ExactlyOnce id p;
      passed = accepted there.first there.last there.m w again there.before call ExactlyOnce id p asks;
      past = o.past;
      since = o.since;
      calls = o.is ∙ ap (λ t. o.past ++ t ∷ o.since) (sym x.step_is);
      stays = subst (λ t. StaysOpen (connected_over false (o.past ++ t ∷ [])) id o.since) (sym x.step_is) o.stays;
    }

twice : (run later : List Played) (m : Played) (w : World) (r : Reached (run ++ m ∷ later) w) (before : List Act) (c : CallsSession m before) (id : ℕ) → AnswersWith (pubrec id 0) c.step.reaction.packets
    → (t : TakesPublish ExactlyOnce id c.step) × (IsPassedOn run later m w before c (message_after (events_before run m before c) t) ⊎ WasPassedOn run later m w before c id)
twice run later m w r before c id g =
    let here = called_at run later m w r before c in
    let old = here.finds.seat.session in
    let t = pubrec_tells old c.step.after c.step.event c.step.reaction id here.reacts g in
    let p = t.0 in
    let client = c.step.client in
    let steps = life client (moves_amid (site m.fate) run before) [] in
    let reacts : Reacts old (takes (packets.Publish p.publish) p.now p.room) c.step.reaction c.step.after = subst (λ e. Reacts old e c.step.reaction c.step.after) p.event here.reacts in
    let runs : SessionRun (new_session client) steps old = sessions_are_runs_amid run here.finds.world m here.finds.reached (site m.fate) before here.finds.held here.finds.there client here.finds.seat here.finds.found in
    let once = last_once false id false steps (step_in c.step)
    (keeps_once client id (steps ++ step_in c.step ∷ []) c.step.after (run_more (new_session client) old c.step.after steps (step_in c.step) runs here.reacts)) in
    let passes : PassesOnce (open_over false id false steps) id c.step.reaction =
    (subst (λ e. PassesBy id (open_over false id false steps) e c.step.reaction) p.event once) (is_for_it id p.publish p.qos_is p.identifier) in
    (takes_it run later m w r before c ExactlyOnce id p, by p reacts passes (open_over false id false steps) refl)
  where
    by : (p : Publishes ExactlyOnce id c.step.event)
        → Reacts (called_at run later m w r before c).finds.seat.session (takes (packets.Publish p.publish) p.now p.room) c.step.reaction c.step.after
        → PassesOnce (open_over false id false (life c.step.client (moves_amid (site m.fate) run before) [])) id c.step.reaction
        → (b : Bool) → open_over false id false (life c.step.client (moves_amid (site m.fate) run before) []) ≡ b
        → IsPassedOn run later m w before c (message_after (events_before run m before c) (takes_it run later m w r before c ExactlyOnce id p)) ⊎ WasPassedOn run later m w before c id
    by p reacts passes true e = inr (opened_by run later m w r before c id (opened_in id (life c.step.client (moves_amid (site m.fate) run before) []) e))
    by p reacts passes false e =
        let old = (called_at run later m w r before c).finds.seat.session in
        let some = passes.received (alone old c.step.after p.publish p.now p.room c.step.reaction reacts (pubrec id 0) g) e in
        inl (accepted run later m w r before c ExactlyOnce id p (asks_pass old c.step.after p.publish p.now p.room c.step.reaction reacts (ap is_some some.1)))

pub puback_stays_true : PubackStaysTrue
puback_stays_true = λ run later m w r before c id g. once run later m w r before c id g

pub pubrec_stays_true : PubrecStaysTrue
pubrec_stays_true = λ run later m w r before c id g. twice run later m w r before c id g
