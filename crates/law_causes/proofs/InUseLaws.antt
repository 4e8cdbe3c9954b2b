-- Packet Identifiers that are in use, in every run.
use Rattle.std.proofs.Common.{◌≡◌, inl, inr, ℕ, ◌<◌, Bool, true, false, cond, is_some, length, List, [], ◌∷◌, ◌++◌, Option, Some, None, refl, sym, ap, ◌∙◌, subst, arith, append_assoc}
use Rattle.mqtt_packets.specs.declared.packet.Packet.TheVariants as packets
use Rattle.mqtt_packets.specs.declared.subscribe.SubscribeFilter.{SubscribeFilter}
use Rattle.mqtt_fields.specs.Options.{qos_of}
use Rattle.mqtt_sessions.specs.declared.link.Asked.{Asked}
use Rattle.mqtt_sessions.specs.Asking.{answer_of}
use Rattle.mqtt_sessions.specs.Reaction.{Reaction}
use Rattle.mqtt_sessions.specs.State.{Link, State, new_session}
use Rattle.qos_handshakes.specs.Incoming.{opened}
use Rattle.law_sessions.specs.Runs.{Step, Run, Reacts, takes, answers}
use Rattle.law_sessions.proofs.LiftLaws as lifted
use Rattle.law_sessions.proofs.LiftLaws.{whole}
use Rattle.law_sessions.proofs.ReplyLaws.{keeps_replies, keeps_unheard}
use Rattle.law_deliveries.specs.Codes.{Question, KeepsAnswers}
use Rattle.law_nodes.specs.Lives.{step_in}
use Rattle.law_nodes.proofs.LifeLaws.{run_more}
use Rattle.node_work.specs.declared.granted.Granted.{Granted}
use Rattle.node_work.specs.Acts.{Act, Store, Session, next}
use Rattle.node_work.specs.Held.Sessions.{SessionStep, Called}
use Rattle.node_work.specs.View.{Place, HeldView}
use Rattle.node_clients.specs.Subscribing.{granted_reasons}
use Rattle.law_runs.specs.StepPublishing.{AnswersWith}
use Rattle.law_runs.specs.StepSending.{IsIn}
use Rattle.law_runs.proofs.Splits.{head_is, tail_is, runs_split}
use Rattle.cluster_play.specs.Worlds.{World}
use Rattle.cluster_play.specs.Runs.{Played}
use Rattle.cluster_play.specs.Histories.{Reached, site, acts_of}
use Rattle.cluster_play.proofs.Lives.{sessions_are_runs_amid}
use Rattle.law_runs.specs.Publishing.{connected_over, events_before}
use Rattle.law_runs.specs.Staying.{CallsSession}
use Rattle.law_runs.proofs.Staying.{CalledAt, called_at}
use Rattle.law_runs.proofs.AnsweringLaws.{IsSubscribe, IsUnsubscribe, Requested, answers_asked}
use Rattle.law_runs.proofs.Granting.{IsTold, AreTold}
use Rattle.law_runs.proofs.Stores.{AreStores}
use Rattle.law_causes.specs.InUse.{is_in_use, TakesRequest, KeepsRules, IsRefusedInUse, IsAsked, InUseIsRefused, IsOfUse, InUseIsTold}
use Rattle.law_causes.proofs.Opened.{open_is_told}
use Rattle.law_causes.proofs.Requesting.{IsTextTold, AreTextsTold, IsUnsubscribed, DoneBy, requests_done, texts_stores}
use Rattle.law_causes.proofs.UsedCodes.{TakesOne, requested, last_codes, codes_given, in_use_by}

-- ---- codes that aren't Packet Identifier in use
below : (n : ℕ) → n ≡ 145 → n < 145 → ⊥
below n e h = omega (arith, e, h)

granted_below : (options : ℕ) → qos_of options < 145
granted_below options = omega arith

told_apart : (p : Place) (h : HeldView) (client : List ℕ) (identifier : ℕ) (f : SubscribeFilter) (g : Granted) (acts : List Act) → IsTold p h client identifier f g acts → g.reason ≡ 145 → ⊥
told_apart p h client identifier f g acts (inl d) e = let z : ◌≡◌ {A = ℕ} 143 145 = sym (ap (λ (x : Granted). x.reason) d.1) ∙ e in omega (arith, z)
told_apart p h client identifier f g acts (inr (inl d)) e = let z : ◌≡◌ {A = ℕ} 151 145 = sym (ap (λ (x : Granted). x.reason) d.3) ∙ e in omega (arith, z)
told_apart p h client identifier f g acts (inr (inr d)) e = below (qos_of f.options) (sym (ap (λ (x : Granted). x.reason) d.2) ∙ e) (granted_below f.options)

filters_apart : (p : Place) (h : HeldView) (client : List ℕ) (identifier : ℕ) (fs : List SubscribeFilter) (gs : List Granted) (acts : List Act) → AreTold p h client identifier fs gs acts → IsIn 145 (granted_reasons gs) → ⊥
filters_apart p h client identifier [] gs acts d i = subst (λ zs. IsIn 145 (granted_reasons zs)) d.0 i
filters_apart p h client identifier (f ∷ fs) gs acts (g, others, own, mid, rest, is, all, one, ran, more) i =
    elim (subst (λ zs. IsIn 145 (granted_reasons zs)) is i) [
      | inl e ↦ told_apart p h client identifier f g own one e
      | inr k ↦ filters_apart p mid client identifier fs others rest more k
    ]

text_apart : (p : Place) (h : HeldView) (client text : List ℕ) (code : ℕ) (acts : List Act) → IsTextTold p h client text code acts → code ≡ 145 → ⊥
text_apart p h client text code acts (inl d) e = let z : ◌≡◌ {A = ℕ} 143 145 = sym d.1 ∙ e in omega (arith, z)
text_apart p h client text code acts (inr (inl d)) e = let z : ◌≡◌ {A = ℕ} 17 145 = sym d.2 ∙ e in omega (arith, z)
text_apart p h client text code acts (inr (inr d)) e = let z : ◌≡◌ {A = ℕ} 0 145 = sym d.2 ∙ e in omega (arith, z)

texts_apart : (p : Place) (h : HeldView) (client : List ℕ) (texts : List (List ℕ)) (codes : List ℕ) (acts : List Act) → AreTextsTold p h client texts codes acts → IsIn 145 codes → ⊥
texts_apart p h client [] codes acts d i = subst (IsIn 145) d.0 i
texts_apart p h client (text ∷ texts) codes acts (code, others, own, mid, rest, is, all, one, ran, more) i =
    elim (subst (IsIn 145) is i) [ inl e ↦ text_apart p h client text code own one e | inr k ↦ texts_apart p mid client texts others rest more k ]

-- ---- the first call after operations is one
first_call : (xs ys later last : List Act) (s t : SessionStep) → AreStores xs → AreStores ys → xs ++ Session (Called s) ∷ later ≡ ys ++ Session (Called t) ∷ last → s ≡ t
first_call [] [] later last s t a b e = let z : Session (Called s) ≡ Session (Called t) = head_is e in cc
first_call [] (Store y ∷ ys) later last s t a b e = absurd (let z : Session (Called s) ≡ Store y = head_is e in cc)
first_call [] (y ∷ ys) later last s t a b e = absurd b.0
first_call (Store x ∷ xs) [] later last s t a b e = absurd (let z : Store x ≡ Session (Called t) = head_is e in cc)
first_call (Store x ∷ xs) (Store y ∷ ys) later last s t a b e = first_call xs ys later last s t a.1 b.1 (tail_is e)
first_call (Store x ∷ xs) (y ∷ ys) later last s t a b e = absurd b.0
first_call (x ∷ xs) ys later last s t a b e = absurd a.0

connected_same : (on : Bool) (steps : List Step) → lifted.connected_over on steps ≡ connected_over on steps
connected_same on [] = refl
connected_same on (s ∷ ss) = connected_same _ ss

module _ (run later : List Played) (m : Played) (w : World) (r : Reached (run ++ m ∷ later) w) (before : List Act) (c : CallsSession m before) where
  abbrev here : CalledAt run m before c
  here = called_at run later m w r before c

  abbrev place : Place
  place = here.finds.there.holds.site.node.place

  abbrev start : HeldView
  start = here.finds.there.held

  abbrev old : State
  old = here.finds.seat.session

  -- the events of the session before the call
  abbrev steps : List Step
  steps = events_before run m before c

  lived : Run (new_session c.step.client) steps old
  lived = sessions_are_runs_amid run here.finds.world m here.finds.reached (site m.fate) before here.finds.held here.finds.there c.step.client here.finds.seat here.finds.found

  used_is : (id : ℕ) → is_some (opened id old.incoming) ≡ is_in_use id steps
  used_is id = open_is_told c.step.client id steps old lived

  linked : connected_over false steps ≡ true → is_some old.link ≡ true
  linked on = sym (whole c.step.client steps old lived).connected ∙ connected_same false steps ∙ on

  refused : (q : Question) (t : TakesRequest c.step q) → KeepsRules t.packet → (o : Option Link) → old.link ≡ o → is_some o ≡ true → cond (is_in_use q.identifier steps) (IsRefusedInUse q c.step.reaction) (IsAsked q c.step.reaction)
  refused q t rules None e some = absurd (let z : false ≡ true = some in cc)
  refused q t rules (Some l) e some =
      let reacts : Reacts old (takes t.packet t.now t.room) c.step.reaction c.step.after = subst (λ v. Reacts old v c.step.reaction c.step.after) t.event here.reacts in
      let x = keeps_replies c.step.client steps old c.step.after l t.packet t.now t.room c.step.reaction lived e reacts in
      subst (λ b. cond b (IsRefusedInUse q c.step.reaction) (IsAsked q c.step.reaction)) (used_is q.identifier) (requested _ l.limit t.now t.room old c.step.reaction t.packet q t.question rules x)

  -- ---- codes that the node gives
  subscribed_apart : (mid : HeldView) (call : SessionStep) (id : ℕ) (codes : List ℕ) (acts : List Act) → IsSubscribe place mid c.step call id codes acts c.after → IsIn 145 codes → ⊥
  subscribed_apart mid call id codes acts d i =
      filters_apart place mid c.step.client _ d.subscribe.filters d.grants acts d.told (subst (IsIn 145) d.codes_are i)

  unsubscribed_apart : (id : ℕ) (codes : List ℕ) (q : Requested place start before c.step id codes c.after) (d : IsUnsubscribe q.call q.acts) → c.step.event ≡ answers id codes → IsIn 145 codes → ⊥
  unsubscribed_apart id codes q d e i =
      let one = Session (Called q.call) in
      let rest = q.acts ++ Session (Called c.step) ∷ c.after in
      let acts : acts_of m.fate ≡ q.comes.earlier ++ one ∷ rest = c.acts ∙ ap (λ zs. zs ++ Session (Called c.step) ∷ c.after) q.comes.is ∙ append_assoc q.comes.earlier (one ∷ q.acts) (Session (Called c.step) ∷ c.after) in
      let parts = runs_split place q.comes.earlier (one ∷ []) start q.mid q.comes.runs in
      let done : DoneBy q.call.reaction.ask place (next parts.0 one) q.call (packets.Unsubscribe d.unsubscribe) rest =
      requests_done here.event place start parts.0 (acts_of m.fate) here.decides q.comes.earlier rest q.call acts parts.1 (packets.Unsubscribe d.unsubscribe) d.now d.room d.event in
      let x : IsUnsubscribed place (next parts.0 one) q.call d.unsubscribe rest = subst (λ ask. DoneBy ask place (next parts.0 one) q.call (packets.Unsubscribe d.unsubscribe) rest) d.asked done in
      let same : c.step ≡ x.answered.answer = first_call q.acts x.acts c.after x.answered.rest c.step x.answered.answer d.stores (texts_stores place (next parts.0 one) q.call.client d.unsubscribe.filters x.codes x.acts x.told) x.answered.is in
      let codes_are : answers id codes ≡ answers d.unsubscribe.identifier x.codes = sym e ∙ ap (λ (v : SessionStep). v.event) same ∙ x.answered.event in
      let same_codes : codes ≡ x.codes = (let z = codes_are in cc) in
      texts_apart place (next parts.0 one) q.call.client d.unsubscribe.filters x.codes x.acts x.told (subst (IsIn 145) same_codes i)

  given_apart : (id : ℕ) (codes : List ℕ) → c.step.event ≡ answers id codes → IsIn 145 codes → ⊥
  given_apart id codes e i =
      let q = answers_asked here.event place start (acts_of m.fate) here.decides before c.after c.step c.acts id codes e in
      elim q.kind [ inl d ↦ subscribed_apart q.mid q.call id codes q.acts d i | inr d ↦ unsubscribed_apart id codes q d e i ]

  told_use : KeepsAnswers → (kind : Asked) (id : ℕ) (codes : List ℕ) → AnswersWith (answer_of kind id codes) c.step.reaction.packets → IsIn 145 codes → IsOfUse run m before c kind id codes
  told_use law kind id codes g i =
      let own = last_codes false None steps (step_in c.step) (law c.step.client (steps ++ step_in c.step ∷ []) c.step.after (run_more (new_session c.step.client) old c.step.after steps (step_in c.step) lived here.reacts)) in
      elim (codes_given kind id codes old c.step.after c.step.event c.step.reaction own.0 own.1 here.reacts g) [
        | inl t ↦ by_link kind id codes g t old.link refl
        | inr e ↦ absurd (given_apart id codes e i)
      ]
    where
      by_link : (kind : Asked) (id : ℕ) (codes : List ℕ) → AnswersWith (answer_of kind id codes) c.step.reaction.packets → TakesOne kind id codes c.step.event c.step.reaction → (o : Option Link) → old.link ≡ o → IsOfUse run m before c kind id codes
      by_link kind id codes g t None e =
          let reacts : Reacts old (takes t.packet t.now t.room) c.step.reaction c.step.after = subst (λ v. Reacts old v c.step.reaction c.step.after) t.event here.reacts in
          absurd (subst (λ (v : Reaction). AnswersWith (answer_of kind id codes) v.packets) (keeps_unheard old c.step.after t.packet t.now t.room c.step.reaction e reacts).0 g)
      by_link kind id codes g t (Some l) e =
          let q : Question = record { kind = kind; identifier = id; count = length codes } in
          let reacts : Reacts old (takes t.packet t.now t.room) c.step.reaction c.step.after = subst (λ v. Reacts old v c.step.reaction c.step.after) t.event here.reacts in
          let x = keeps_replies c.step.client steps old c.step.after l t.packet t.now t.room c.step.reaction lived e reacts in
          let u = in_use_by kind id codes _ l.limit t.now t.room old c.step.reaction t.packet q t.is.question t.is.asks x g in
          record {
            question = q;
            takes = record { packet = t.packet; now = t.now; room = t.room; event = t.event; question = t.is.question };
            kind_is = refl;
            identifier = refl;
            used = sym (used_is id) ∙ u.0;
            all = u.1;
          }

pub in_use_is_refused : InUseIsRefused
in_use_is_refused = λ run later m w r before c q t on rules.
    refused run later m w r before c q t rules (called_at run later m w r before c).finds.seat.session.link refl (linked run later m w r before c on)

pub in_use_is_told : KeepsAnswers → InUseIsTold
in_use_is_told law = λ run later m w r before c kind id codes g i. told_use run later m w r before c law kind id codes g i
