-- What the steps of a run make, and what a delivered frame brings.
use Rattle.std.proofs.Common.{◌≡◌, ◌≢◌, ◌<◌, Bool, true, false, not, cond, ◌||◌, ◌&&◌, nat_eq, nat_lt, List, [], ◌∷◌, ◌++◌, Some, refl, sym, ap, ◌∙◌, ◌⊎◌, inl, inr, subst, eq-eqb, lt-ltb, length}
use Rattle.std.specs.List.{slice_get}
use Rattle.std.specs.FinSet as set
use Rattle.causal_context.specs.Dots.{Dot}
use Rattle.replica_store.specs.declared.operation.Operation.{Operation}
use Rattle.replica_store.specs.Operations.{dot_of, HaveOwnDots}
use Rattle.replica_store.specs.States.{State}
use Rattle.broker_node.specs.declared.event.EventKind.TheVariants as kinds
use Rattle.bridge_frames.specs.declared.body.FrameBody.TheVariants.{Delta}
use Rattle.bridge_frames.specs.declared.frame.BridgeFrame.{BridgeFrame}
use Rattle.bridge_frames.specs.Frames.{HasSpelling, spelling}
use Rattle.bridge_frames.proofs.FrameLaws.{read_again}
use Rattle.node_work.specs.Acts.{Act, MomentTaken, Began, Moved, Store, Connection, Session, Bridge, Out, Named, Acknowledged, Passed, Dropped, Made, Merged, IsMade, Runs, gather, merge_in}
use Rattle.node_work.specs.Held.Bridge.{Carries, Gave}
use Rattle.broker_node.specs.Step.{brought, brought_in}
use Rattle.bridge_deltas.proofs.Shipping.{shipped_enough}
use Rattle.node_bridge.specs.View.{belief_of}
use Rattle.node_rows.specs.Naming.{state_among}
use Rattle.node_rows.specs.Reading.{IsAmong}
use Rattle.node_rows.proofs.Naming.{state_tested}
use Rattle.node_work.specs.Frames.{names_nodes, states_in}
use Rattle.node_work.specs.View.{Place, nodes_of}
use Rattle.cluster_play.specs.Worlds.{Site, World}
use Rattle.cluster_play.specs.Runs.{Played}
use Rattle.cluster_play.specs.Histories.{Reached, site, acts_of, gained, gain_in, gains, taken, taken_amid, operations_amid, same_dot}
use Rattle.cluster_play.specs.Agreement.{AnswersByOperations, HoldsAmid}
use Rattle.cluster_play.specs.CatchingUp.{FrameArrives, GivesDelta}
use Rattle.cluster_play.specs.MadeOperations.{MakesNext}
use Rattle.cluster_play.proofs.Bools.{or_true, or_left, or_right, nat_cases, nat_other, some_is, dot_same}
use Rattle.cluster_play.proofs.Operations.{own_some}
use Rattle.cluster_play.proofs.Kept.{explained}
use Rattle.cluster_play.proofs.Paths.{commits_acts, midway, taken_both}
use Rattle.cluster_play.proofs.Rows.{Committed, committed}
use Rattle.cluster_play.proofs.Amid.{amid_acts, runs_split, taken_step}
use Rattle.cluster_play.proofs.Next.{next_operation}
use Rattle.cluster_play.proofs.Showing.{node_holds_amid}
use Rattle.cluster_play.proofs.Splits.{gained_both}
use Rattle.cluster_play.proofs.Plain.{sound_among}
use Rattle.cluster_play.proofs.Telling.{given_spelled, sound_in}

gained_here : (before after : List Act) (a : Act) (d : Dot) → gain_in a d ≡ true → gained (before ++ a ∷ after) d ≡ true
gained_here before after a d h = gained_both before (a ∷ after) d ∙ or_right (gained before d) (gain_in a d || gained after d) (or_left (gain_in a d) (gained after d) h)

pub operations_of_a_step : (run later : List Played) (m : Played) (w : World) → Reached (run ++ m ∷ later) w
    → (before after : List Act) (o : Operation) → acts_of m.fate ≡ before ++ Store (Made o) ∷ after
    → MakesNext run later m w before o × (taken (site m.fate) (run ++ m ∷ later) (dot_of o) ≡ true)
operations_of_a_step run later m w r before after o h =
    let i = site m.fate in
    let a = Store (Made o) in
    let half = midway run (m ∷ later) w r in
    let e = commits_acts m.fate before after a h in
    let c = committed half.mid m.step m.fate half.path.0 e.0 half.path.1 e.1 in
    let place = c.was.node.place in
    let parts = runs_split place before (a ∷ after) c.before c.after (subst (λ acts. Runs place c.before acts c.after) h c.steps.runs) in
    let there : HoldsAmid half.mid m i before parts.0 = record {
      event = e.0;
      commits = e.1;
      at = refl;
      rest = a ∷ after;
      acts = h;
      held = c.before;
      holds = record { site = c.was; at = c.at; up = c.up };
      runs = parts.1;
    } in
    let id : place.id ≡ i = ((explained run half.mid half.reached).sites i c.was c.at).id in
    let by : AnswersByOperations (operations_amid i run before) parts.0 = node_holds_amid run half.mid half.path.0 m half.reached half.honest.0 half.path.1 i before parts.0 there in
    let own : HaveOwnDots (operations_amid i run before) = own_some _ (λ p. taken_amid i run before (dot_of p)) (amid_acts run later m w r before after a h).grown.own_dots in
    let made : IsMade i parts.0.homes.version parts.0.store o = subst (λ j. IsMade j parts.0.homes.version parts.0.store o) id parts.2.1.0 in
    let gain : gained (acts_of m.fate) (dot_of o) ≡ true = ap (λ acts. gained acts (dot_of o)) h ∙ gained_here before after (Store (Made o)) (dot_of o) (dot_same (dot_of o) (dot_of o) refl) in (
      record {
        world = half.mid;
        reached = half.reached;
        path = half.path;
        held = parts.0;
        there = there;
        next = next_operation i (operations_amid i run before) parts.0.store own by.state parts.0.homes.version o made;
      },
      taken_step run later m (dot_of o) (or_right (taken i run (dot_of o)) _ gain),
    )

-- a Delta frame, when it goes out: each dot that its node had taken its receiver has taken already, or the frame lists it
pub record IsSent (run : List Played) (w : World) (m : Played) (before : List Act) (f : BridgeFrame) (s : State) : Type 0 where
  pub spelled : HasSpelling f
  pub from : f.from ≡ site m.fate
  pub within : site m.fate < length w.sites
  pub among : IsAmong (length w.sites) s
  pub covers : (d : Dot) → taken_amid (site m.fate) run before d ≡ true → (taken f.to run d ≡ true) ⊎ (set.contains s.taken d ≡ true)

pub sent_as : (run later : List Played) (m : Played) (w : World) → Reached (run ++ m ∷ later) w → (before : List Act) (f : BridgeFrame) (s : GivesDelta m before f) → IsSent run w m before f s.state
sent_as run later m w r before f s =
    let a = amid_acts run later m w r before s.after (Bridge (Gave f)) s.acts in
    let given = a.runs.1.0 in
    let ships = subst (Carries a.held f.to) s.is_delta given.carries in
    record {
      spelled = given_spelled (length w.sites) (site m.fate) _ (λ j d. taken j run d) a.held (record { grown = a.grown; deltas = a.deltas }) a.kept a.place f given;
      from = given.from ∙ a.id;
      within = a.within;
      among = sound_among (length w.sites) _ s.state (sound_in (length w.sites) (site m.fate) _ (λ j d. taken j run d) a.held (record { grown = a.grown; deltas = a.deltas }) a.kept f.to f.body given.carries s.state s.is_delta) a.plain;
      covers = λ d h. elim (shipped_enough (belief_of a.held.bridge f.to) a.held.bridge.deltas a.held.store s.state ships.2 d (a.listed d ∙ h)) [
        | inl x ↦ inl (a.kept.beliefs f.to d x)
        | inr y ↦ inr y
      ];
    }

-- some state lists the dot
abbrev pub any_lists : List State → Dot → Bool
any_lists [] d = false
any_lists (t ∷ ts) d = set.contains t.taken d || any_lists ts d

merges_gain : (acts : List Act) (d : Dot) → any_lists (gather merge_in acts) d ≡ true → gained acts d ≡ true
merges_gain [] d h = h
merges_gain (MomentTaken at ∷ acts) d h = merges_gain acts d h
merges_gain (Began ∷ acts) d h = merges_gain acts d h
merges_gain (Moved homes ∷ acts) d h = merges_gain acts d h
merges_gain (Store (Made o) ∷ acts) d h = or_right (same_dot (dot_of o) d) (gained acts d) (merges_gain acts d h)
merges_gain (Store (Merged t) ∷ acts) d h = elim (or_true (set.contains t.taken d) (any_lists (gather merge_in acts) d) h) [
  | inl a ↦ or_left (set.contains t.taken d) (gained acts d) a
  | inr b ↦ or_right (set.contains t.taken d) (gained acts d) (merges_gain acts d b)
]
merges_gain (Connection a ∷ acts) d h = merges_gain acts d h
merges_gain (Session a ∷ acts) d h = merges_gain acts d h
merges_gain (Bridge a ∷ acts) d h = merges_gain acts d h
merges_gain (Out o ∷ acts) d h = merges_gain acts d h
merges_gain (Named number ∷ acts) d h = merges_gain acts d h
merges_gain (Acknowledged client packet at grants offers ∷ acts) d h = merges_gain acts d h
merges_gain (Passed m copies lost routes ∷ acts) d h = merges_gain acts d h
merges_gain (Dropped ∷ acts) d h = merges_gain acts d h

-- a frame for this node from another one brings its state
frame_brings : (p : Place) (f : BridgeFrame) (t : State) → HasSpelling f → f.to ≡ p.id → f.from ≢ p.id → f.from < nodes_of p → IsAmong (nodes_of p) t → f.body ≡ Delta t → brought p (kinds.Frame (spelling f)) ≡ t ∷ []
frame_brings p f t spelled to from below among is =
    let known : state_among (nodes_of p) t ≡ true = (state_tested (nodes_of p) t).1 among in
    ap (brought_in p) (read_again f spelled)
    ∙ (λ n. cond (nat_eq f.to p.id && not (nat_eq f.from p.id) && nat_lt f.from (nodes_of p) && names_nodes (nodes_of p) (is n)) (states_in (is n)) [])
    ∙ (λ n. cond (eq-eqb f.to p.id to n && not (nat_other f.from p.id from n) && lt-ltb f.from (nodes_of p) below n && known n) (t ∷ []) [])

-- the frame comes to another node than the one that sent it
module _ (run : List Played) (w w' : World) (r : Reached run w) (m : Played) (f : BridgeFrame) (a : FrameArrives w f m w') (t : State) (is : f.body ≡ Delta t) where
  here : Committed w (site m.fate) a.event (acts_of m.fate) w'
  here = committed w m.step m.fate w' a.event a.happens a.commits

  pub gains_all : HasSpelling f → f.from ≢ f.to → f.from < length w.sites → IsAmong (length w.sites) t → (d : Dot) → set.contains t.taken d ≡ true → gained (acts_of m.fate) d ≡ true
  gains_all spelled other below among d listed =
      let at : slice_get w.sites f.to ≡ Some here.was = subst (λ j. slice_get w.sites j ≡ Some here.was) a.at here.at in
      let there = (explained run w r).sites f.to here.was at in
      let place = here.was.node.place in
      let same_site : here.was ≡ a.holds.site = some_is (sym at ∙ a.holds.at) in
      let same_held : here.before ≡ a.held = some_is (sym here.up ∙ ap (λ (v : Site). v.node.up) same_site ∙ a.holds.up) in
      let merges : gather merge_in (acts_of m.fate) ≡ t ∷ [] =
      here.steps.merged ∙ (λ n. cond (same_held n).started (brought place (a.brings n)) []) ∙ ap (λ b. cond b (brought place (kinds.Frame (spelling f))) []) a.started
      ∙ frame_brings place f t spelled (sym there.id) (λ e. other (e ∙ there.id)) (subst (λ n. f.from < n) (sym there.nodes) below)
      (subst (λ n. IsAmong n t) (sym there.nodes) among) is in
      merges_gain (acts_of m.fate) d (ap (λ ts. any_lists ts d) merges ∙ or_left (set.contains t.taken d) false listed)

  -- so the receiver has taken each dot that the frame lists and the sender had taken
  pub takes_all : (later : List Played) → HasSpelling f → f.from < length w.sites → IsAmong (length w.sites) t → (d : Dot) → taken f.from run d ≡ true → set.contains t.taken d ≡ true → taken f.to (run ++ m ∷ later) d ≡ true
  takes_all later spelled below among d had listed =
      taken_both f.to run (m ∷ later) d ∙ elim (nat_cases f.from f.to) [
        | inl e ↦ or_left (taken f.to run d) (taken f.to (m ∷ later) d) (subst (λ j. taken j run d ≡ true) e had)
        | inr ne ↦ or_right (taken f.to run d) (taken f.to (m ∷ later) d)
            (or_left (gains f.to m.fate d) (taken f.to later d) (ap (λ b. b && gained (acts_of m.fate) d) (eq-eqb (site m.fate) f.to a.at) ∙ gains_all spelled ne below among d listed))
      ]

pub catch_up : (run amid later : List Played) (m arrival : Played) (w w' : World) → Reached (run ++ m ∷ amid) w
    → (before : List Act) (f : BridgeFrame) → GivesDelta m before f → FrameArrives w f arrival w'
    → (d : Dot) → taken_amid (site m.fate) run before d ≡ true → taken f.to ((run ++ m ∷ amid) ++ arrival ∷ later) d ≡ true
catch_up run between later m arrival w w' r before f s a d had =
    let whole = run ++ m ∷ between in
    let i = site m.fate in
    let sent = sent_as run between m w r before f s in
    let all : taken_amid i run (acts_of m.fate) d ≡ true = elim (or_true (taken i run d) (gained before d) had) [
      | inl x ↦ or_left (taken i run d) (gained (acts_of m.fate) d) x
      | inr y ↦ or_right (taken i run d) (gained (acts_of m.fate) d) (ap (λ acts. gained acts d) s.acts ∙ gained_both before (Bridge (Gave f) ∷ s.after) d ∙ or_left (gained before d) (gained s.after d) y)
    ] in
    let mine : taken f.from whole d ≡ true = subst (λ j. taken j whole d ≡ true) (sym sent.from) (taken_step run between m d all) in
    elim (sent.covers d had) [
      | inl x ↦ taken_both f.to whole (arrival ∷ later) d ∙ or_left (taken f.to whole d) (taken f.to (arrival ∷ later) d) (taken_both f.to run (m ∷ between) d ∙ or_left (taken f.to run d) (taken f.to (m ∷ between) d) x)
      | inr y ↦ takes_all whole w w' r arrival f a s.state s.is_delta later sent.spelled (subst (λ j. j < length w.sites) (sym sent.from) sent.within) sent.among d mine y
    ]
