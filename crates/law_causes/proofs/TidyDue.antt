-- What is due, and how sessions end: directly behind each DISCONNECT its connection is closed.
use Rattle.std.specs.FinMap as map
use Rattle.std.proofs.Common.{◌≡◌, ◌≢◌, ◌⊎◌, inl, inr, ℕ, ◌<◌, ◌≤◌, ◌+◌, ◌*◌, nat_lt, nat_le, Bool, true, false, cond, is_some, List, [], ◌∷◌, ◌++◌, Option, Some, None, refl, sym, ap, ◌∙◌, subst}
use Rattle.std.proofs.lemmas.Bool.{ltb-true, leb-true}
use Rattle.std.specs.List.{AllByRecursion}
use Rattle.std.specs.Ordering.{eq_by_cmp}
use Rattle.law_maps.proofs.Texts.{same_text, itself, get_inserted, get_apart, get_removed, get_left}
use Rattle.bridge_routes.specs.declared.plain.PlainCopy.{PlainCopy as Copy}
use Rattle.bridge_routes.specs.declared.destinations.Route.{Route}
use Rattle.bridge_routes.specs.declared.destinations.Route.TheVariants.{Nothing, Lane, TooLarge}
use Rattle.bridge_deltas.specs.declared.offer.Offer.{Offer}
use Rattle.bridge_deltas.specs.declared.offer.Offer.TheVariants.{Queued, Full, AtEnd}
use Rattle.bridge_frames.specs.declared.forward.Forward.{Forward}
use Rattle.causal_context.specs.Dots.{Dot}
use Rattle.replica_store.specs.declared.operation.Operation.TheVariants.{Put}
use Rattle.replica_store.specs.Stamps.{Stamp}
use Rattle.mqtt_message.specs.declared.message.Message.{Message}
use Rattle.mqtt_message.specs.Expiry.{IsBefore}
use Rattle.node_work.specs.Passing.{content_given}
use Rattle.mqtt_sessions.specs.declared.reaction.Ask.{Ask}
use Rattle.mqtt_sessions.specs.declared.reaction.Ask.TheVariants as asks
use Rattle.mqtt_sessions.specs.Ending.{has_run_out}
use Rattle.mqtt_sessions.specs.State.{Link}
use Rattle.law_sessions.specs.Runs.{Event, connects, queues, rooms, takes, answers, closes, ticks, finishes, loses, Reacts}
use Rattle.session_table.specs.Dues.{Due}
use Rattle.session_table.specs.Listing.{text_cmp}
use Rattle.session_table.specs.Seats.{Seat, Seats, run_outs, wills_due, ends_due}
use Rattle.subscription_set.specs.Standing.{any_below}
use Rattle.node_bridge.specs.View.{BridgeView, offer_to}
use Rattle.node_work.specs.declared.outcome.Output.TheVariants.{Close}
use Rattle.node_work.specs.Acts.{Act, StoreAct, MomentTaken, Began, Moved, Named, Acknowledged, Made, Store, Connection, Session, Bridge, Out, Passed, Dropped, Allowed, Runs, next}
use Rattle.node_work.specs.Held.Bridge.{BridgeAct, Put as Put_in, Took, Got, Believed, Greeted, Gave, Left_out}
use Rattle.node_work.specs.Held.Connections.{Closed}
use Rattle.node_work.specs.Held.Sessions.{SessionStep, Begun, Called, Over, IsOn, IsCall, HappensAt, has_session, will_is_due, end_is_due}
use Rattle.node_work.specs.View.{Place, HeldView}
use Rattle.node_clients.specs.Ending.{ends_below}
use Rattle.node_clients.specs.Passing.{lacks_room}
use Rattle.cluster_play.proofs.Bools.{and_true, some_is}
use Rattle.law_runs.specs.StepPublishing.{CopiesAreQueued, AreRouted, IsPutInLane, IsRouted}
use Rattle.law_runs.specs.StepSending.{IsIn}
use Rattle.law_runs.proofs.Keeping.{none_some}
use Rattle.law_steps.specs.Due.{HasRunOut, InOrder, TimesOut}
use Rattle.law_steps.specs.Ending.{AllDueIsDone, ClosesOn, DoesOwn, EndsAlone, OwnIsDone, Parts as IsParted, TickIsDone, removed_below}
use Rattle.law_steps.specs.Passing.{AreItsCopies, PassesOn, PassesWillOn}
use Rattle.law_steps.specs.Starting.{IsClosed}
use Rattle.law_steps.proofs.ClosingLaws.{second_runs}
use Rattle.law_steps.proofs.RunOuts.{run_outs_are_exact}
use Rattle.law_causes.proofs.Farewells.{IsDueEvent, stays_rested, tick_ends}
use Rattle.law_causes.proofs.Tidy.{EndShuts, CallShuts, IsPlain, Shuts, Tidy, mild_by, plain_tidy, tidy_both, tidy_is, tidy_none, tidy_parts}

-- ---- acts by which something due is done
abbrev pub IsDueAct : Act → Type 0
IsDueAct (Session (Called s)) = IsDueEvent s.event
IsDueAct (Session (Over client)) = Unit {0}
IsDueAct (Store a) = Unit {0}
IsDueAct (Bridge a) = Unit {0}
IsDueAct (Passed m copies lost routes) = Unit {0}
IsDueAct Dropped = Unit {0}
IsDueAct a = ⊥

abbrev pub AreDue : List Act → Type 0
AreDue acts = AllByRecursion IsDueAct acts

abbrev pub ArePlain : List Act → Type 0
ArePlain acts = AllByRecursion IsPlain acts

pub all_both : (P : Act → Type 0) (xs ys : List Act) → AllByRecursion P xs → AllByRecursion P ys → AllByRecursion P (xs ++ ys)
all_both P [] ys a b = b
all_both P (x ∷ xs) ys a b = (a.0, all_both P xs ys a.1 b)

pub all_is : (P : Act → Type 0) (xs ys : List Act) → xs ≡ ys → AllByRecursion P ys → AllByRecursion P xs
all_is P xs ys is a = subst (AllByRecursion P) (sym is) a

pub all_parts : (P : Act → Type 0) (acts xs ys : List Act) → acts ≡ xs ++ ys → AllByRecursion P xs → AllByRecursion P ys → AllByRecursion P acts
all_parts P acts xs ys is a b = all_is P acts (xs ++ ys) is (all_both P xs ys a b)

-- ---- a message that is passed on
-- both due and plain
abbrev pub IsPassing : Act → Type 0
IsPassing a = IsDueAct a × IsPlain a

abbrev pub ArePassing : List Act → Type 0
ArePassing acts = AllByRecursion IsPassing acts

pub passing_due : (acts : List Act) → ArePassing acts → AreDue acts
passing_due [] a = tt
passing_due (x ∷ acts) a = (a.0.0, passing_due acts a.1)

pub passing_plain : (acts : List Act) → ArePassing acts → ArePlain acts
passing_plain [] a = tt
passing_plain (x ∷ acts) a = (a.0.1, passing_plain acts a.1)

pub queued_passing : (at : ℕ) (copies : List Copy) (calls : List Act) → CopiesAreQueued at copies calls → ArePassing calls
queued_passing at [] calls is = all_is IsPassing calls [] is tt
queued_passing at (x ∷ xs) calls (s, rest, is, of, when, event, more) =
    all_is IsPassing calls (Session (Called s) ∷ rest) is ((subst IsDueEvent (sym event) tt, mild_by s (queues x.delivery at) event tt), queued_passing at xs rest more)

lane_passing : (peer : ℕ) (m : Forward) (offer : Offer) (acts : List Act) → IsPutInLane peer m offer acts → ArePassing acts
lane_passing peer m (Queued n) acts is = all_is IsPassing acts _ is ((tt, tt), tt)
lane_passing peer m Full acts is = all_is IsPassing acts _ is ((tt, tt), tt)
lane_passing peer m AtEnd acts is = absurd is

route_passing : (b : BridgeView) (peer : ℕ) (r : Route) (acts : List Act) → IsRouted b peer r acts → ArePassing acts
route_passing b peer Nothing acts is = all_is IsPassing acts _ is tt
route_passing b peer (Lane m) acts is = lane_passing peer m (offer_to peer b) acts is
route_passing b peer TooLarge acts is = all_is IsPassing acts _ is ((tt, tt), tt)

routed_passing : (b : BridgeView) (routes : List (ℕ × Route)) (acts : List Act) → AreRouted b routes acts → ArePassing acts
routed_passing b [] acts is = all_is IsPassing acts _ is tt
routed_passing b (x ∷ xs) acts (own, rest, is, one, more) = all_parts IsPassing acts own rest is (route_passing b x.0 x.1 own one) (routed_passing b xs rest more)

put_if : (m : Message) (b : Bool) (acts : List Act) → cond b ((dot : Dot) × (stamp : Stamp) × (acts ≡ Store (Made (Put dot stamp (content_given m))) ∷ [])) (acts ≡ []) → ArePassing acts
put_if m true acts d = all_is IsPassing acts _ d.2 ((tt, tt), tt)
put_if m false acts d = all_is IsPassing acts [] d tt

copies_passing : (m : Message) (at : ℕ) (b : BridgeView) (acts : List Act) → AreItsCopies m at b acts → ArePassing acts
copies_passing m at b acts d =
    all_is IsPassing acts _ d.is ((tt, tt), all_both IsPassing d.calls d.to_others (queued_passing at d.copies d.calls d.queued) (routed_passing b d.routes d.to_others d.routed))

copied_passing : (m : Message) (at : ℕ) (b : BridgeView) (rest : List Act) → (IsBefore at m.deadline × AreItsCopies m at b rest) ⊎ ((¬ IsBefore at m.deadline) × (rest ≡ [])) → ArePassing rest
copied_passing m at b rest (inl d) = copies_passing m at b rest d.1
copied_passing m at b rest (inr d) = all_is IsPassing rest [] d.1 tt

pub message_passing : (m : Message) (at : ℕ) (b : BridgeView) (acts : List Act) → PassesOn m at b acts → ArePassing acts
message_passing m at b acts d = all_parts IsPassing acts d.puts d.rest d.is (put_if m m.retain d.puts d.put) (copied_passing m at b d.rest d.copied)

will_if : (m : Message) (at : ℕ) (view : BridgeView) (b : Bool) (acts : List Act) → cond b (acts ≡ Dropped ∷ []) (PassesOn m at view acts) → ArePassing acts
will_if m at view true acts d = all_is IsPassing acts _ d ((tt, tt), tt)
will_if m at view false acts d = message_passing m at view acts d

will_passing : (h : HeldView) (ask : Option Ask) (acts : List Act) → PassesWillOn h ask acts → ArePassing acts
will_passing h None acts d = all_is IsPassing acts [] d tt
will_passing h (Some (asks.Pass m)) acts d = will_if m h.at h.bridge (lacks_room m h) acts d
will_passing h (Some asks.Subscribe) acts d = all_is IsPassing acts [] d tt
will_passing h (Some asks.Unsubscribe) acts d = all_is IsPassing acts [] d tt

-- ---- the end of a session
removed_if : (b : Bool) (a : StoreAct) → ArePassing (cond b (Store a ∷ []) [])
removed_if true a = ((tt, tt), tt)
removed_if false a = tt

alone_passing : (p : Place) (h : HeldView) (client : List ℕ) (acts : List Act) → EndsAlone p h client acts → ArePassing acts
alone_passing p h client acts d =
    all_parts IsPassing acts (removed_below p.id client (ends_below d.home p h) h) (Session (Over client) ∷ []) d.is (removed_if (any_below client (ends_below d.home p h) h.store.subscriptions) _) ((tt, tt), tt)

ended_if : (p : Place) (h : HeldView) (client : List ℕ) (b : Bool) (acts : List Act) → cond b (EndsAlone p h client acts) (acts ≡ []) → ArePassing acts
ended_if p h client true acts d = alone_passing p h client acts d
ended_if p h client false acts d = all_is IsPassing acts [] d tt

-- behind the call
follows_passing : (event : ℕ → Event) (p : Place) (h : HeldView) (client : List ℕ) (acts : List Act) (d : DoesOwn event p h client acts) → ArePassing (d.asked ++ d.ended)
follows_passing event p h client acts d =
    all_both IsPassing d.asked d.ended (will_passing (next h (Session (Called d.call))) d.call.reaction.ask d.asked d.asks) (ended_if p d.held client d.call.reaction.over d.ended d.ends)

-- ---- no Keep Alive runs out
abbrev pub IsRested : List ℕ → HeldView → Type 0
IsRested q h = (seat : Seat) (c : ℕ) → map.get h.sessions q ≡ Some seat → seat.connection ≡ Some c → has_run_out seat.session.link h.at ≡ false

-- the connection after such an event is the one before
on_before : (e : Event) (before on : Option ℕ) (c : ℕ) → IsDueEvent e → IsOn e before on → on ≡ Some c → before ≡ Some c
on_before (connects k continued room now) before on c due is at = absurd due
on_before (queues d now) before on c due is at = sym is ∙ at
on_before (rooms bytes now) before on c due is at = absurd due
on_before (takes k now room) before on c due is at = absurd due
on_before (answers id codes) before on c due is at = absurd due
on_before (closes now) before on c due is at = none_some (sym is ∙ at)
on_before (ticks now) before on c due is at = sym is ∙ at
on_before (finishes now) before on c due is at = sym is ∙ at
on_before loses before on c due is at = absurd due

at_moment : (e : Event) (at now : ℕ) → HappensAt at e → e ≡ ticks now → now ≡ at
at_moment e at now happens is = subst (HappensAt at) is happens

call_rested : (q : List ℕ) (p : Place) (h : HeldView) (s : SessionStep) → IsDueEvent s.event → IsCall h s → IsRested q h → IsRested q (next h (Session (Called s)))
call_rested q p h s due call rested seat c found at = by (eq_by_cmp text_cmp q s.client) refl
  where
    own : Seat
    own = record { session = s.after; connection = s.on }

    by : (b : Bool) → eq_by_cmp text_cmp q s.client ≡ b → has_run_out seat.session.link h.at ≡ false
    by true e =
        let same : q ≡ s.client = same_text q s.client e in
        let is : own ≡ seat = some_is (sym (get_inserted h.sessions s.client own) ∙ ap (map.get (map.insert h.sessions s.client own)) (sym same) ∙ found) in
        let on : s.on ≡ Some c = ap (λ (v : Seat). v.connection) is ∙ at in
        let was = rested call.seat c (ap (map.get h.sessions) same ∙ call.found) (on_before s.event call.seat.connection s.on c due call.on on) in
        ap (λ (v : Seat). has_run_out v.session.link h.at) (sym is)
        ∙ stays_rested call.seat.session s.after s.event s.reaction h.at due (λ now is_tick. at_moment s.event h.at now call.moment is_tick) was call.reacts
    by false e = rested seat c (sym (get_apart h.sessions s.client own q e) ∙ found) at

over_rested : (q client : List ℕ) (h : HeldView) → IsRested q h → IsRested q (next h (Session (Over client)))
over_rested q client h rested seat c found at = by (eq_by_cmp text_cmp q client) refl
  where
    by : (b : Bool) → eq_by_cmp text_cmp q client ≡ b → has_run_out seat.session.link h.at ≡ false
    by true e = none_some (sym (get_removed h.sessions client) ∙ ap (map.get (map.remove h.sessions client)) (sym (same_text q client e)) ∙ found)
    by false e = rested seat c (sym (get_left h.sessions client q e) ∙ found) at

bridge_rested : (q : List ℕ) (h : HeldView) (a : BridgeAct) → IsRested q h → IsRested q (next h (Bridge a))
bridge_rested q h (Put_in peer m) rested = rested
bridge_rested q h (Took peer number m copies lost) rested = rested
bridge_rested q h (Got peer number) rested = rested
bridge_rested q h (Believed peer dots) rested = rested
bridge_rested q h (Greeted peer g) rested = rested
bridge_rested q h (Gave f) rested = rested
bridge_rested q h (Left_out what) rested = rested

act_rested : (q : List ℕ) (p : Place) (h : HeldView) (a : Act) → IsDueAct a → Allowed p h a → IsRested q h → IsRested q (next h a)
act_rested q p h (Session (Called s)) due allowed rested = call_rested q p h s due allowed rested
act_rested q p h (Session (Over client)) due allowed rested = over_rested q client h rested
act_rested q p h (Session (Begun client)) due allowed rested = absurd due
act_rested q p h (Store a) due allowed rested = rested
act_rested q p h (Bridge a) due allowed rested = bridge_rested q h a rested
act_rested q p h (Passed m copies lost routes) due allowed rested = rested
act_rested q p h Dropped due allowed rested = rested
act_rested q p h (MomentTaken at) due allowed rested = absurd due
act_rested q p h Began due allowed rested = absurd due
act_rested q p h (Moved homes) due allowed rested = absurd due
act_rested q p h (Connection a) due allowed rested = absurd due
act_rested q p h (Out o) due allowed rested = absurd due
act_rested q p h (Named number) due allowed rested = absurd due
act_rested q p h (Acknowledged client packet at grants offers) due allowed rested = absurd due

pub stays : (q : List ℕ) (p : Place) (acts : List Act) (h h' : HeldView) → AreDue acts → Runs p h acts h' → IsRested q h → IsRested q h'
stays q p [] h h' due runs rested = subst (IsRested q) (sym runs) rested
stays q p (a ∷ acts) h h' due runs rested = stays q p acts runs.0 h' due.1 runs.2 (subst (IsRested q) (sym runs.1.1) (act_rested q p h a due.0 runs.1.0 rested))

-- ---- a tick, where the client's Keep Alive hasn't run out, or a session's end
pub record Well (p : Place) (acts : List Act) : Type 0 where
  pub tidy : Tidy acts
  pub due : AreDue acts

well_none : (p : Place) (acts : List Act) → acts ≡ [] → Well p acts
well_none p acts is = record { tidy = tidy_none acts is; due = all_is IsDueAct acts [] is tt }

-- the tick ends no connection
tick_shuts : (client : List ℕ) (h : HeldView) (s : SessionStep) (after : List Act) → s.client ≡ client → s.event ≡ ticks h.at → IsCall h s → IsRested client h → CallShuts s s.event after
tick_shuts client h s after of event call rested = subst (λ e. CallShuts s e after) (sym event) (λ c code on ends. none_some (sym (no_end c on) ∙ ends))
  where
    no_end : (c : ℕ) → s.on ≡ Some c → s.reaction.end ≡ None
    no_end c on =
        let due : IsDueEvent s.event = subst IsDueEvent (sym event) tt in
        tick_ends call.seat.session s.after h.at s.reaction
        (rested call.seat c (ap (map.get h.sessions) (sym of) ∙ call.found) (on_before s.event call.seat.connection s.on c due call.on on))
        (subst (λ e. Reacts call.seat.session e s.reaction s.after) event call.reacts)

tick_well : (p : Place) (h h' : HeldView) (client : List ℕ) (acts : List Act) → IsRested client h → DoesOwn ticks p h client acts → Runs p h acts h' → Well p acts
tick_well p h h' client acts rested d runs =
    let r = subst (λ xs. Runs p h xs h') d.is runs in
    let passing = follows_passing ticks p h client acts d in
    record {
      tidy = tidy_is acts _ d.is (tick_shuts client h d.call (d.asked ++ d.ended) d.of d.event_is r.1.0 rested, plain_tidy (d.asked ++ d.ended) (passing_plain (d.asked ++ d.ended) passing));
      due = all_is IsDueAct acts _ d.is (subst IsDueEvent (sym d.event_is) tt, passing_due (d.asked ++ d.ended) passing);
    }

pub tick_if : (b : Bool) (p : Place) (h h' : HeldView) (client : List ℕ) (acts : List Act) → IsRested client h → cond b (DoesOwn ticks p h client acts) (acts ≡ []) → Runs p h acts h' → Well p acts
tick_if true p h h' client acts rested d runs = tick_well p h h' client acts rested d runs
tick_if false p h h' client acts rested d runs = well_none p acts d

finish_well : (p : Place) (h : HeldView) (client : List ℕ) (acts : List Act) → DoesOwn finishes p h client acts → Well p acts
finish_well p h client acts d =
    let passing = follows_passing finishes p h client acts d in
    record {
      tidy = plain_tidy acts (all_is IsPlain acts _ d.is (mild_by d.call (finishes h.at) d.event_is tt, passing_plain (d.asked ++ d.ended) passing));
      due = all_is IsDueAct acts _ d.is (subst IsDueEvent (sym d.event_is) tt, passing_due (d.asked ++ d.ended) passing);
    }

pub finish_if : (b : Bool) (p : Place) (h : HeldView) (client : List ℕ) (acts : List Act) → cond b (DoesOwn finishes p h client acts) (acts ≡ []) → Well p acts
finish_if true p h client acts d = finish_well p h client acts d
finish_if false p h client acts d = well_none p acts d

-- ---- a client that goes away
closed_rested : (p : Place) (h left : HeldView) (client : List ℕ) (told : List Act) → IsClosed h client told → Runs p h told left → IsRested client left
closed_rested p h left client told d runs seat c found at =
    let r = subst (λ xs. Runs p h xs left) d.is runs in
    let own : Seat = record { session = d.call.after; connection = d.call.on } in
    let same : left ≡ next h (Session (Called d.call)) = r.2 ∙ r.1.1 in
    let is : own ≡ seat = some_is (sym (get_inserted h.sessions d.call.client own) ∙ ap (map.get (map.insert h.sessions d.call.client own)) d.of ∙ ap (λ (v : HeldView). map.get v.sessions client) (sym same) ∙ found) in
    none_some (sym d.off ∙ ap (λ (v : Seat). v.connection) is ∙ at)

missing_rested : (h left : HeldView) (client : List ℕ) → has_session client h ≡ false → left ≡ h → IsRested client left
missing_rested h left client none same seat c found at =
    absurd (let z : true ≡ false = ap is_some (sym found) ∙ ap (λ (v : HeldView). has_session client v) same ∙ none in cc)

pub record Told (p : Place) (client : List ℕ) (told : List Act) (left : HeldView) : Type 0 where
  pub well : Well p told
  pub rested : IsRested client left

told_by : (b : Bool) (p : Place) (h left : HeldView) (client : List ℕ) (told : List Act) → has_session client h ≡ b → cond b (IsClosed h client told) (told ≡ []) → Runs p h told left → Told p client told left
told_by true p h left client told has d runs = record {
  well = record {
    tidy = plain_tidy told (all_is IsPlain told _ d.is (mild_by d.call (closes h.at) d.event tt, tt));
    due = all_is IsDueAct told _ d.is (subst IsDueEvent (sym d.event) tt, tt);
  };
  rested = closed_rested p h left client told d runs;
}
told_by false p h left client told has d runs = record { well = well_none p told d; rested = missing_rested h left client has (subst (λ xs. Runs p h xs left) d runs) }

due_if : (b : Bool) (p : Place) (h h' : HeldView) (client : List ℕ) (acts : List Act) → IsRested client h → cond b (OwnIsDone ticks p h client acts) (acts ≡ []) → Runs p h acts h' → Well p acts
due_if true p h h' client acts rested d runs = tick_if (has_session client h) p h h' client acts rested d runs
due_if false p h h' client acts rested d runs = well_none p acts d

pub parts_well : (p : Place) (h h' : HeldView) (client : List ℕ) (acts : List Act) → IsParted p h client acts → Runs p h acts h' → Well p acts
parts_well p h h' client acts d runs =
    let later = second_runs p h d.left h' d.told (d.wills ++ d.ends) acts d.is d.leaves runs in
    let last = second_runs p d.left d.held h' d.wills d.ends (d.wills ++ d.ends) refl d.runs later in
    let told = told_by (has_session client h) p h d.left client d.told refl d.tells d.leaves in
    let wills = due_if (will_is_due client d.left) p d.left d.held client d.wills told.rested d.wills_are d.runs in
    let rested = stays client p d.wills d.left d.held wills.due d.runs told.rested in
    let ends = due_if (end_is_due client d.held) p d.held h' client d.ends rested d.ends_are last in
    record {
      tidy = tidy_parts acts d.told (d.wills ++ d.ends) d.is told.well.tidy (tidy_both d.wills d.ends wills.tidy ends.tidy);
      due = all_parts IsDueAct acts d.told (d.wills ++ d.ends) d.is told.well.due (all_both IsDueAct d.wills d.ends wills.due ends.due);
    }

-- its connection is closed
pub record Shut (c : ℕ) (acts rest : List Act) : Type 0 where
  pub tidy : Tidy acts
  pub shuts : Shuts c acts
  pub due : AreDue rest

pub closes_shut : (p : Place) (h h' : HeldView) (c : ℕ) (client : List ℕ) (acts : List Act) → (d : ClosesOn p h c client acts) → Runs p h acts h' → Shut c acts d.0
closes_shut p h h' c client acts d runs =
    let r = subst (λ xs. Runs p h xs h') d.1 runs in
    let same : r.2.0 ≡ next h (Connection (Closed c)) = r.2.1.1 ∙ r.1.1 in
    let well = parts_well p (next h (Connection (Closed c))) h' client d.0 d.2 (subst (λ v. Runs p v d.0 h') same r.2.2) in
    record { tidy = tidy_is acts _ d.1 (tt, (tt, well.tidy)); shuts = (d.0, d.1); due = well.due }

-- ---- a Keep Alive that has run out
out_tidy : (h : HeldView) (d : Due) (acts : List Act) → TimesOut h d acts → Tidy acts
out_tidy h d acts t =
    let shuts : EndShuts t.call (Connection (Closed d.0) ∷ Out (Close d.0) ∷ Session (Called t.leave) ∷ []) =
    λ c code on ends. inr (Session (Called t.leave) ∷ [], (let same : d.0 ≡ c = some_is (sym t.on ∙ on) in λ i. Connection (Closed (same i)) ∷ Out (Close (same i)) ∷ Session (Called t.leave) ∷ [])) in
    let first : CallShuts t.call t.call.event (Connection (Closed d.0) ∷ Out (Close d.0) ∷ Session (Called t.leave) ∷ []) =
    subst (λ e. CallShuts t.call e (Connection (Closed d.0) ∷ Out (Close d.0) ∷ Session (Called t.leave) ∷ [])) (sym t.event) shuts in
    let last : Tidy (Session (Called t.leave) ∷ []) = plain_tidy (Session (Called t.leave) ∷ []) (mild_by t.leave (closes h.at) t.leave_event tt, tt) in
    tidy_is acts _ t.is (first, (tt, (tt, last)))

outs_tidy : (p : Place) (ds : List Due) (h mid : HeldView) (acts : List Act) → InOrder TimesOut p ds h acts mid → Tidy acts
outs_tidy p [] h mid acts d = tidy_none acts d.0
outs_tidy p (x ∷ ds) h mid acts (own, left, rest, is, ran, one, more) = tidy_parts acts own rest is (out_tidy h x own one) (outs_tidy p ds left mid rest more)

-- what a session that is on a connection afterwards was before
pub record WasSeated (h mid : HeldView) (q : List ℕ) (seat : Seat) (ds : List Due) : Type 0 where
  pub found : map.get h.sessions q ≡ Some seat
  pub at : mid.at ≡ h.at
  pub others : AllByRecursion (λ (d : Due). d.1 ≢ q) ds

out_back : (p : Place) (h mid : HeldView) (d : Due) (acts : List Act) → TimesOut h d acts → Runs p h acts mid → (q : List ℕ) (seat : Seat) (c : ℕ) → map.get mid.sessions q ≡ Some seat → seat.connection ≡ Some c → WasSeated h mid q seat (d ∷ [])
out_back p h mid d acts t runs q seat c found at = by (eq_by_cmp text_cmp q t.leave.client) refl
  where
    one : Seat
    one = record { session = t.call.after; connection = t.call.on }

    two : Seat
    two = record { session = t.leave.after; connection = t.leave.on }

    mids : Seats
    mids = map.insert h.sessions t.call.client one

    r : Runs p h (Session (Called t.call) ∷ Connection (Closed d.0) ∷ Out (Close d.0) ∷ Session (Called t.leave) ∷ []) mid
    r = subst (λ xs. Runs p h xs mid) t.is runs

    sessions : mid.sessions ≡ map.insert mids t.leave.client two
    sessions =
        ap (λ (v : HeldView). v.sessions) (r.2.2.2.2 ∙ r.2.2.2.1.1) ∙ ap (λ (v : HeldView). map.insert v.sessions t.leave.client two) (r.2.2.1.1 ∙ r.2.1.1) ∙ ap (λ (v : HeldView). map.insert v.sessions t.leave.client two) r.1.1

    moment : mid.at ≡ h.at
    moment = ap (λ (v : HeldView). v.at) (r.2.2.2.2 ∙ r.2.2.2.1.1) ∙ ap (λ (v : HeldView). v.at) (r.2.2.1.1 ∙ r.2.1.1) ∙ ap (λ (v : HeldView). v.at) r.1.1

    here : map.get (map.insert mids t.leave.client two) q ≡ Some seat
    here = ap (λ (m : Seats). map.get m q) (sym sessions) ∙ found

    by : (b : Bool) → eq_by_cmp text_cmp q t.leave.client ≡ b → WasSeated h mid q seat (d ∷ [])
    by true e =
        let is : two ≡ seat = some_is (sym (get_inserted mids t.leave.client two) ∙ ap (map.get (map.insert mids t.leave.client two)) (sym (same_text q t.leave.client e)) ∙ here) in
        none_some (sym t.off ∙ ap (λ (v : Seat). v.connection) is ∙ at)
    by false e =
        let apart : eq_by_cmp text_cmp q t.call.client ≡ false = ap (eq_by_cmp text_cmp q) (t.of ∙ sym t.leave_of) ∙ e in
        record {
          found = sym (get_apart h.sessions t.call.client one q apart) ∙ sym (get_apart mids t.leave.client two q e) ∙ here;
          at = moment;
          others = (λ same. (let z : true ≡ false = sym (itself q) ∙ ap (eq_by_cmp text_cmp q) (sym same ∙ sym t.leave_of) ∙ e in cc), tt);
        }

outs_back : (p : Place) (ds : List Due) (h mid : HeldView) (acts : List Act) → InOrder TimesOut p ds h acts mid → (q : List ℕ) (seat : Seat) (c : ℕ) → map.get mid.sessions q ≡ Some seat → seat.connection ≡ Some c → WasSeated h mid q seat ds
outs_back p [] h mid acts d q seat c found at = record { found = ap (λ (v : HeldView). map.get v.sessions q) (sym d.1) ∙ found; at = ap (λ (v : HeldView). v.at) d.1; others = tt }
outs_back p (x ∷ ds) h mid acts (own, left, rest, is, ran, one, more) q seat c found at =
    let later = outs_back p ds left mid rest more q seat c found at in
    let first = out_back p h left x own one ran q seat c later.found at in
    record { found = first.found; at = later.at ∙ first.at; others = (first.others.0, later.others) }

-- a Bool by which it has run out says so
late_by : (o : Option Link) (now : ℕ) → has_run_out o now ≡ true → (l : Link) × (o ≡ Some l) × (0 < l.keep_alive) × (l.last + 1500 * l.keep_alive ≤ now)
late_by None now e = absurd (let z : false ≡ true = e in cc)
late_by (Some l) now e =
    let parts = and_true (nat_lt 0 l.keep_alive) (nat_le (l.last + 1500 * l.keep_alive) now) e in
    (l, refl, ltb-true 0 l.keep_alive parts.0, leb-true (l.last + 1500 * l.keep_alive) now parts.1)

none_in : (c : ℕ) (q : List ℕ) (ds : List Due) → AllByRecursion (λ (d : Due). d.1 ≢ q) ds → IsIn (c, q) ds → ⊥
none_in c q [] others i = i
none_in c q (d ∷ ds) others (inl e) = others.0 (ap (λ (x : Due). x.1) e)
none_in c q (d ∷ ds) others (inr i) = none_in c q ds others.1 i

-- once those connections are closed no other's has
outs_rested : (p : Place) (h mid : HeldView) (acts : List Act) → InOrder TimesOut p (run_outs h.sessions h.at) h acts mid → (q : List ℕ) → IsRested q mid
outs_rested p h mid acts d q seat c found at = by (has_run_out seat.session.link mid.at) refl
  where
    was : WasSeated h mid q seat (run_outs h.sessions h.at)
    was = outs_back p (run_outs h.sessions h.at) h mid acts d q seat c found at

    by : (b : Bool) → has_run_out seat.session.link mid.at ≡ b → has_run_out seat.session.link mid.at ≡ false
    by true e =
        let late = late_by seat.session.link h.at (ap (has_run_out seat.session.link) (sym was.at) ∙ e) in
        let out : HasRunOut h c q = record { seat = seat; found = was.found; on = at; link = late.0; linked = late.1; counts = late.2; late = late.3 } in
        absurd (none_in c q (run_outs h.sessions h.at) was.others ((run_outs_are_exact h (c, q)).1 out))
    by false e = e

-- ---- all that is due
due_tidy : (p : Place) (ds : List Due) (h mid : HeldView) (acts : List Act) → ((q : List ℕ) → IsRested q h) → InOrder (TickIsDone p) p ds h acts mid → Well p acts × ((q : List ℕ) → IsRested q mid)
due_tidy p [] h mid acts rested d = (well_none p acts d.0, λ q. subst (IsRested q) (sym d.1) (rested q))
due_tidy p (x ∷ ds) h mid acts rested (own, left, rest, is, ran, one, more) =
    let first = tick_if (has_session x.1 h) p h left x.1 own (rested x.1) one ran in
    let later = due_tidy p ds left mid rest (λ q. stays q p own h left first.due ran (rested q)) more in
    (record { tidy = tidy_parts acts own rest is first.tidy later.0.tidy; due = all_parts IsDueAct acts own rest is first.due later.0.due }, later.1)

pub record DueTidy (d : List Act) (wills ends : List Act) : Type 0 where
  pub tidy : Tidy d
  pub wills_due : AreDue wills
  pub ends_due : AreDue ends

pub all_due_tidy : (p : Place) (h last : HeldView) (acts : List Act) (d : AllDueIsDone p h acts last) → DueTidy acts d.wills d.ends
all_due_tidy p h last acts d =
    let wills = due_tidy p (wills_due d.mid.sessions d.mid.at) d.mid d.mid2 d.wills (outs_rested p h d.mid d.outs d.outs_are) d.wills_are in
    let ends = due_tidy p (ends_due d.mid2.sessions d.mid2.at) d.mid2 last d.ends wills.1 d.ends_are in
    record {
      tidy = tidy_parts acts d.outs (d.wills ++ d.ends) d.is (outs_tidy p (run_outs h.sessions h.at) h d.mid d.outs d.outs_are) (tidy_both d.wills d.ends wills.0.tidy ends.0.tidy);
      wills_due = wills.0.due;
      ends_due = ends.0.due;
    }
