-- Wills are passed on in every step, and in every run.
use Rattle.std.proofs.Common.{◌≡◌, ◌⊎◌, inl, inr, ℕ, not, nat_lt, ◌^◌, Bool, true, false, cond, List, [], ◌∷◌, ◌++◌, Option, refl, sym, ap, ◌∙◌, append_assoc}
use Rattle.causal_context.specs.Dots.{Dot}
use Rattle.mqtt_message.specs.declared.message.Message.{Message}
use Rattle.mqtt_packets.specs.declared.packet.Packet.{Packet}
use Rattle.mqtt_packets.specs.Written.{written}
use Rattle.replica_store.specs.declared.operation.Operation.TheVariants.{Put}
use Rattle.replica_store.specs.Stamps.{Stamp}
use Rattle.law_sessions.specs.Runs.{connects, takes}
use Rattle.session_table.specs.Calls.{stays, moves}
use Rattle.node_work.specs.declared.outcome.Output.TheVariants.{Send, Close}
use Rattle.node_work.specs.Acts.{Act, MomentTaken, Began, Moved, Store, Connection, Session, Bridge, Out, Named, Made, Merged}
use Rattle.node_work.specs.Calling.{Calls}
use Rattle.node_work.specs.Doings.{TakesMoment}
use Rattle.node_work.specs.declared.counts.Missed.TheVariants.{BadFrame}
use Rattle.node_work.specs.Held.Bridge.{Took, Got as GotBy, Believed, Greeted, Gave, Left_out}
use Rattle.node_work.specs.Held.Connections.{Opened, Accepted, Roomed, Closed as Closed_at, Fed}
use Rattle.node_work.specs.Held.Sessions.{Begun, Called}
use Rattle.node_work.specs.Passing.{content_given}
use Rattle.node_work.specs.View.{HeldView}
use Rattle.node_work.specs.Working.{Doing, If, Then}
use Rattle.node_clients.specs.Passing as passing
use Rattle.node_clients.specs.Serving as serving
use Rattle.broker_node.specs.declared.event.Event.{Event}
use Rattle.broker_node.specs.declared.event.EventKind.{EventKind}
use Rattle.broker_node.specs.declared.event.EventKind.TheVariants as kinds
use Rattle.broker_node.specs.Due as due
use Rattle.broker_node.specs.Turns as turns
use Rattle.law_runs.specs.StepPublishing.{BeginsWithPassingOn}
use Rattle.cluster_play.specs.Worlds.{World}
use Rattle.cluster_play.specs.Runs.{Played}
use Rattle.cluster_play.specs.Histories.{Reached, acts_of}
use Rattle.law_runs.specs.Publishing.{PutStays}
use Rattle.law_runs.specs.Staying.{CallsSession as Called_in}
use Rattle.law_runs.proofs.Staying.{called_at, stays_made}
use Rattle.law_steps.specs.Wills.{AsksForWill, BeginsDropped, IsPublished, WillIsPassedOn, WillsArePassedOn, WillsStayPassedOn}
use Rattle.law_steps.proofs.Above.{High, does_due, does_reaction, piece_of, leaves_of, makes_room, starts, opens, takes_table}
use Rattle.law_steps.proofs.Below.{evicts}
use Rattle.law_steps.proofs.Between.{Mid, greets, hears, ships, ships_more}
use Rattle.law_steps.proofs.Joining.{j_acting, j_numbered, j_calls}
use Rattle.law_steps.proofs.WillWork.{T, K, c, low, one_told, call_other, ticks_of, finishes_of, run_out}

high : High K
high = record {
  sends = λ n packet. j_acting T c (λ p h. Out (Send n (written packet))) (λ p h. one_told p h (Out (Send n (written packet))) tt);
  closed = λ n. j_acting T c (λ p h. Connection (Closed_at n)) (λ p h. one_told p h (Connection (Closed_at n)) tt);
  close = λ n. j_acting T c (λ p h. Out (Close n)) (λ p h. one_told p h (Out (Close n)) tt);
  fed = λ n piece. j_acting T c (λ p h. Connection (Fed n piece)) (λ p h. one_told p h (Connection (Fed n piece)) tt);
  accepted = λ n client. j_acting T c (λ p h. Connection (Accepted n client)) (λ p h. one_told p h (Connection (Accepted n client)) tt);
  roomed = λ n bytes. j_acting T c (λ p h. Connection (Roomed n bytes)) (λ p h. one_told p h (Connection (Roomed n bytes)) tt);
  begun = λ client. j_acting T c (λ p h. Session (Begun client)) (λ p h. one_told p h (Session (Begun client)) tt);
  joined = λ n client q continued room. j_calls T c client (connects q continued room) (moves n) (call_other (connects q continued room) (λ at will. will));
  named = λ number. j_acting T c (λ p h. Named number) (λ p h. one_told p h (Named number) tt);
  began = j_acting T c (λ p h. Began) (λ p h. one_told p h Began tt);
  moved = λ homes. j_acting T c (λ p h. Moved homes) (λ p h. one_told p h (Moved homes) tt);
  ticks_of = ticks_of;
  finishes_of = finishes_of;
  run_out = run_out;
}

abbrev Does : (Option (Unit {0}) → Doing) → Type 0
Does P = K (Unit {0}) P

serves : (n : ℕ) (client : List ℕ) (k : Packet) → Does (serving.ServesPacket n client k)
serves n client k =
    low.looks (λ p h. serving.room_for client k h) (serving.ServesIn n client k)
    (λ room. low.join (Calls client (λ at. takes k at room) stays) (serving.DoesReaction n client k room)
    (j_calls T c client (λ at. takes k at room) stays (call_other (λ at. takes k at room) (λ at will. will))) (does_reaction K low high n client k room))

-- ---- frames
mid : Mid K
mid = record {
  gave = λ f. j_acting T c (λ p h. Bridge (Gave f)) (λ p h. one_told p h (Bridge (Gave f)) tt);
  took = λ from number m copies lost. j_acting T c (λ p h. Bridge (Took from number m copies lost)) (λ p h. one_told p h (Bridge (Took from number m copies lost)) tt);
  merged = λ s. j_acting T c (λ p h. Store (Merged s)) (λ p h. one_told p h (Store (Merged s)) tt);
  believed = λ from dots. j_acting T c (λ p h. Bridge (Believed from dots)) (λ p h. one_told p h (Bridge (Believed from dots)) tt);
  greeted = λ from g. j_acting T c (λ p h. Bridge (Greeted from g)) (λ p h. one_told p h (Bridge (Greeted from g)) tt);
  got = λ from number. j_acting T c (λ p h. Bridge (GotBy from number)) (λ p h. one_told p h (Bridge (GotBy from number)) tt);
  bad = j_acting T c (λ p h. Bridge (Left_out BadFrame)) (λ p h. one_told p h (Bridge (Left_out BadFrame)) tt);
}

-- ---- events
answers_kind : (kind : EventKind) → Does (turns.AnswersEvent kind)
answers_kind kinds.Started = low.returns tt
answers_kind (kinds.Opened n) = opens K low high n (j_acting T c (λ p h. Connection (Opened n)) (λ p h. one_told p h (Connection (Opened n)) tt))
answers_kind (kinds.Piece n bytes) =
    piece_of K low high serves (λ n. record { of = λ x p h acts d. absurd d }) (λ n code of. record { of = λ x p h acts d. of.of x p h acts d }) (λ n client. record { of = λ x p h acts d. absurd d }) (λ n client code of. record { of = λ x p h acts d. of.of x p h acts d }) n bytes
answers_kind (kinds.Closed n) = leaves_of K low high n
answers_kind (kinds.Room n bytes) = makes_room K low high n bytes
answers_kind (kinds.Frame bytes) = hears K low mid bytes
answers_kind (kinds.Linked peer) = greets K low mid peer
answers_kind (kinds.Ship peer) = ships K low mid peer
answers_kind (kinds.More peer after) = ships_more K low mid peer after
answers_kind kinds.Tick = low.returns tt
answers_kind (kinds.Evict client) = evicts K low client
answers_kind (kinds.Table homes) = takes_table K low high homes

after_due : (kind : EventKind) → Does (Then due.DoesDue (λ _. turns.AnswersEvent kind))
after_due kind = low.join due.DoesDue (λ _. turns.AnswersEvent kind) (does_due K low high) (λ _. answers_kind kind)

goes_on : (kind : EventKind) → Does (turns.AnswersAfterDue kind)
goes_on kinds.Started = low.returns tt
goes_on (kinds.Opened n) = after_due (kinds.Opened n)
goes_on (kinds.Piece n bytes) = after_due (kinds.Piece n bytes)
goes_on (kinds.Closed n) = after_due (kinds.Closed n)
goes_on (kinds.Room n bytes) = after_due (kinds.Room n bytes)
goes_on (kinds.Frame bytes) = after_due (kinds.Frame bytes)
goes_on (kinds.Linked peer) = after_due (kinds.Linked peer)
goes_on (kinds.Ship peer) = after_due (kinds.Ship peer)
goes_on (kinds.More peer after) = after_due (kinds.More peer after)
goes_on kinds.Tick = after_due kinds.Tick
goes_on (kinds.Evict client) = after_due (kinds.Evict client)
goes_on (kinds.Table homes) = after_due (kinds.Table homes)

first_turn : (kind : EventKind) → Does (turns.AwaitsStart kind)
first_turn kinds.Started = starts K low high
first_turn (kinds.Opened n) = low.returns tt
first_turn (kinds.Piece n bytes) = low.returns tt
first_turn (kinds.Closed n) = low.returns tt
first_turn (kinds.Room n bytes) = low.returns tt
first_turn (kinds.Frame bytes) = low.returns tt
first_turn (kinds.Linked peer) = low.returns tt
first_turn (kinds.Ship peer) = low.returns tt
first_turn (kinds.More peer after) = low.returns tt
first_turn kinds.Tick = low.returns tt
first_turn (kinds.Evict client) = low.returns tt
first_turn (kinds.Table homes) = low.returns tt

decides : (e : Event) → Does (turns.Decides e)
decides e =
    low.join (TakesMoment e.at) (λ _. turns.Turn e.kind) (j_numbered T c (λ p h. not (nat_lt e.at (2 ^ 62))) (λ p h. MomentTaken e.at) (λ p h. one_told p h (MomentTaken e.at) tt))
    (λ _. low.looks (λ p h. h.started) (λ is. If is (turns.AnswersAfterDue e.kind) (turns.AwaitsStart e.kind)) (λ is. low.by_test is (turns.AnswersAfterDue e.kind) (turns.AwaitsStart e.kind) (goes_on e.kind) (first_turn e.kind)))

pub wills_are_passed_on : WillsArePassedOn
wills_are_passed_on = λ e p h held acts d before after s m is ran asks. (decides e).of tt p h acts d before after s held is ran m asks

-- ---- in a run
module _ (run later : List Played) (m : Played) (w : World) (r : Reached (run ++ m ∷ later) w) (before : List Act) (k : Called_in m before) (x : Message) where
  put_by : (b : Bool) (xs : List Act) → cond b ((dot : Dot) × (stamp : Stamp) × (xs ≡ Store (Made (Put dot stamp (content_given x))) ∷ [])) (xs ≡ []) → (rest : List Act) → k.after ≡ xs ++ rest → b ≡ true → PutStays run later m w before k x
  put_by true xs d rest is so =
      let call = Session (Called k.step) in
      let a = Store (Made (Put d.0 d.1 (content_given x))) in
      let acts : acts_of m.fate ≡ (before ++ call ∷ []) ++ a ∷ rest = k.acts ∙ ap (λ zs. before ++ call ∷ zs) (is ∙ ap (λ zs. zs ++ rest) d.2) ∙ sym (append_assoc before (call ∷ []) (a ∷ rest)) in
      record { dot = d.0; stamp = d.1; made = stays_made run later m w r (before ++ call ∷ []) rest (Put d.0 d.1 (content_given x)) acts; follows = refl }
  put_by false xs d rest is so = absurd (let z : false ≡ true = so in cc)

  stays_by : (b : Bool) (h : HeldView) → cond b (BeginsDropped k.after) (BeginsWithPassingOn x k.step.at h.bridge k.after) → x.retain ≡ true → BeginsDropped k.after ⊎ PutStays run later m w before k x
  stays_by true h d so = inl d
  stays_by false h d so = inr (put_by x.retain d.puts d.put d.rest d.is so)

  will_stays : AsksForWill k.step x → WillIsPassedOn run later m w before k x
  will_stays asks =
      let here = called_at run later m w r before k in
      let f = here.finds in
      let published : IsPublished f.held x k.step.at k.after =
      wills_are_passed_on here.event f.there.holds.site.node.place f.there.held f.held (acts_of m.fate) here.decides before k.after k.step x k.acts f.there.runs asks in
      record { world = f.world; reached = f.reached; held = f.held; there = f.there; published = published; put = stays_by (passing.lacks_room x f.held) f.held published }

pub wills_stay_passed_on : WillsStayPassedOn
wills_stay_passed_on = λ run later m w r before k x asks. will_stays run later m w r before k x asks
