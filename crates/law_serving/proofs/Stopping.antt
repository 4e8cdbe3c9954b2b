-- Serving that stops is a run that a crash ends.
use Rattle.std.proofs.Common.{◌≡◌, ◌⊎◌, ℕ, zero, List, [], ◌∷◌, ◌++◌, map, Bool, true, false, Option, Some, refl, sym, subst, ◌∙◌, inl, inr}
use Rattle.std.specs.declared.net.socket_addr.SocketAddr.{SocketAddr}
use Rattle.slab.specs.Slab.{get}
use Rattle.broker_sockets.specs.declared.bridge.Given.{Given}
use Rattle.broker_sockets.specs.declared.bridge.PeerEvent.{PeerEvent}
use Rattle.broker_sockets.specs.declared.events.Event.{Event}
use Rattle.broker_sockets.specs.declared.events.EventKind.TheVariants.{Closed, Tick}
use Rattle.broker_sockets.specs.declared.events.Output.{Output}
use Rattle.broker_sockets.specs.declared.network.Answer.{Answer}
use Rattle.broker_sockets.specs.declared.ready.Ready.{Ready}
use Rattle.broker_sockets.specs.declared.ready.Watched.{Watched}
use Rattle.broker_turns.specs.declared.clients.Client.{Client}
use Rattle.broker_turns.specs.declared.setting.Setting.{Setting}
use Rattle.broker_turns.specs.declared.turn.TurnFault.{TurnFault}
use Rattle.broker_turns.specs.Bridging.{Place, Reach, Search, place, search}
use Rattle.broker_turns.specs.Broken.{IsAskedOnce, IsBroken, IsBrokenOff, IsBrokenTurn, IsEnd, IsGivenInVain, IsUndecidedTurn, IsUngivenTurn, IsUnlooked, IsUnsettled, IsUnwrote, IsWrittenLast}
use Rattle.broker_turns.specs.Connections.{World, event}
use Rattle.broker_turns.specs.Handling.{AreTold, Told}
use Rattle.broker_turns.specs.Handling.Told.{Of_client}
use Rattle.broker_turns.specs.Turns.{IsDecided, IsTakenIn, Site, front}
use Rattle.law_serving.specs.Calls.{IsAt, IsDone, Rests, Settles, Tells, Through}
use Rattle.law_serving.specs.Stopping.{IsCutTurn, IsSince}
use Rattle.law_serving.specs.Traces.{IsTrace}
use Rattle.law_serving.proofs.Tracing.{Walks, rests_by, trace_join, trace_over}
use Rattle.law_serving.proofs.Turning.{Made, decided, each_wrote, given_out, none, taken_in}
use Rattle.law_serving.proofs.Walking.{all_join, spot, through_join, walked_settles}

-- what the handler is told, as calls
pub told_done : {H : Type 0} (T : Type 0) (handles : H → Event → List Output → H → Type 0) (hears : H → PeerEvent → Given → H → Type 0) (settles : H → H → Type 0) (told : List Told) (h h' : H)
    → AreTold handles hears told h h' → Through (IsDone T handles hears settles) (map Tells told) h h'
told_done T handles hears settles [] h h' same = same
told_done T handles hears settles (t ∷ told) h h' all = (all.0, all.1, told_done T handles hears settles told all.0 h' all.2)

module _
    {S H L T Fault : Type 0} (accepts : S → L → Option T → S → Type 0) (watches : S → T → Watched → Bool → S → Type 0) (connects : S → SocketAddr → Option T → S → Type 0)
    (reads : S → T → Answer → List ℕ → S → T → Type 0) (writes : S → T → List ℕ → Answer → S → T → Type 0) (finds : S → Ready → S → Type 0)
    (handles : H → Event → List Output → H → Type 0) (hears : H → PeerEvent → Given → H → Type 0) (settles : H → H → Type 0)
    (refuses : H → Event → Fault → H → Type 0) (declines : H → PeerEvent → Fault → H → Type 0) (stops : H → Fault → H → Type 0)
    (setting : Setting L) (at : ℕ) (s' : S) (h' : H) (fault : TurnFault Fault) where
  abbrev Cut : Place S H T → Type 0
  Cut p = IsCutTurn accepts watches connects reads writes finds handles hears settles refuses declines stops setting at p s' h' fault

  abbrev Since : Place S H T → Place S H T → List Told → Type 0
  Since p q told = IsSince accepts watches connects reads writes finds handles hears settles refuses declines stops setting at p s' h' fault q told

  abbrev Ends : H → Type 0
  Ends last = IsEnd handles hears refuses declines at fault last h' ⊎ IsUnsettled stops last h' fault

  abbrev Before : List Event → Place S H T → Place S H T → Type 0
  Before clock p q = Made accepts watches connects reads writes finds handles hears settles setting at false clock p q

  -- it stops before it has settled
  before_settling : (clock : List Event) (p q : Place S H T) → Before clock p q → (told : List Told) (last : H) → AreTold handles hears told q.reach.near.handler last → Since p q told → Ends last → Cut p
  before_settling clock p q t told last more since ends = record {
    clock = clock;
    calls = t.0;
    reached = q;
    trace = t.1;
    moment = t.2;
    rests = rests_by t.0 t.3;
    told = told;
    last = last;
    more = more;
    since = since;
    ends = ends;
  }

  abbrev Off : S → H → Type 0
  Off s h = IsBrokenOff (IsAskedOnce accepts watches connects reads) handles hears refuses declines at s h s' h' fault

  broken_before : (clock : List Event) (p q : Place S H T) → Before clock p q → Off q.reach.sockets q.reach.near.handler → Cut p
  broken_before clock p q t is = before_settling clock p q t is.broken.told is.broken.last is.broken.all (inl is.asked) (inl is.broken.ends)

  -- at the start, or while what came is taken in
  pub cut_first : (p : Place S H T) → Off p.reach.sockets p.reach.near.handler → Cut p
  cut_first p is = broken_before [] p p (none accepts watches connects reads writes finds handles hears settles setting at false p p refl) is

  -- once it has settled
  after_settling : (p q r : Place S H T) → (first : Before (event at Tick ∷ []) p q) → (rest : Walks accepts watches connects reads writes finds handles hears settles setting at (Settles ∷ []) q r) → (s : Place S H T)
      → Made accepts watches connects reads writes finds handles hears settles setting at true [] r s → (told : List Told) (last : H) → AreTold handles hears told s.reach.near.handler last → Since p s told → Ends last → Cut p
  after_settling p q r first w s out told last more since ends =
      let one : IsTrace accepts watches connects reads writes finds handles hears settles setting [] (Settles ∷ []) q r = record { asked = w.asked; done = w.done; news = refl; time = refl; flows = w.flows } in
      let until = trace_join accepts watches connects reads writes finds handles hears settles setting (event at Tick ∷ []) [] first.0 (Settles ∷ []) p q r first.1 one in
      let calls = first.0 ++ Settles ∷ [] in
      record {
        clock = event at Tick ∷ [];
        calls = calls ++ out.0;
        reached = s;
        trace = trace_join accepts watches connects reads writes finds handles hears settles setting (event at Tick ∷ []) [] calls out.0 p r s until out.1;
        moment = all_join (IsAt at) calls out.0 (all_join (IsAt at) first.0 (Settles ∷ []) first.2 (tt, tt)) out.2;
        rests = λ b.
            let x = rests_by first.0 first.3 b in
            (true, through_join Rests calls out.0 b true true (through_join Rests first.0 (Settles ∷ []) b x.0 true x.1 (true, refl, refl)) out.3);
        told = told;
        last = last;
        more = more;
        since = since;
        ends = ends;
      }

  -- ---- a turn

  module _ (old : Site S H T) where
    taken_first : (more : Ready) (taken : Place S H T) → IsTakenIn accepts watches reads handles hears setting at old.ready old.place more taken → Before [] old.place taken
    taken_first more taken is = (taken_in accepts watches connects reads writes finds handles hears settles setting at old.ready old.place more taken is).0

    decided_first : (ends : H → H → Type 0) (more : Ready) (taken : Place S H T) → IsTakenIn accepts watches reads handles hears setting at old.ready old.place more taken
        → (q' : Search S H T) (d : IsDecided watches connects handles hears ends setting at (search taken.reach.sockets taken.reach.near old.sought) q') → Before (event at Tick ∷ []) old.place (place d.roomed.sockets d.roomed.near taken.accepted)
    decided_first ends more taken is q' d =
        trace_over accepts watches connects reads writes finds handles hears settles setting at false [] (event at Tick ∷ []) old.place taken (place d.roomed.sockets d.roomed.near taken.accepted)
        (taken_first more taken is)
        (decided accepts watches connects reads writes finds handles hears settles setting at ends taken.accepted (search taken.reach.sockets taken.reach.near old.sought) q' d)

    undecided : IsUndecidedTurn accepts watches connects reads writes handles hears settles refuses declines stops setting at old s' h' fault → Cut old.place
    undecided u = elim u.breaks [
      | inl off ↦
          let Reached : S → H → Type 0 = λ s h. IsBrokenOff (IsAskedOnce accepts watches connects reads) handles hears refuses declines at u.taken.reach.sockets u.taken.reach.near.handler s h fault in
          broken_before [] old.place u.taken (taken_first u.more u.taken u.takes_in)
          (subst (λ (s : S). Reached s h') u.sockets (subst (λ (h : H). Reached u.reached.reach.sockets h) u.ends off))
      | inr d ↦
          let Stopped : H → Type 0 = λ x. IsUnsettled stops d.roomed.near.handler x fault in
          let roomed = place d.roomed.sockets d.roomed.near u.taken.accepted in
          before_settling (event at Tick ∷ []) old.place roomed (decided_first (λ h x. IsUnsettled stops h x fault) u.more u.taken u.takes_in u.reached d) [] d.roomed.near.handler refl
          (inl (zero, sym u.sockets ∙ d.settled.sockets)) (inr (subst Stopped u.ends d.settled.does.does))
    ]

    module _ (gives : Reach S H T → Type 0) (u : IsUngivenTurn accepts watches connects reads writes handles hears settles refuses declines stops setting at old s' h' fault gives) where
      abbrev roomed_at : Place S H T
      roomed_at = place u.decides.roomed.sockets u.decides.roomed.near u.taken.accepted

      abbrev settled_at : Place S H T
      settled_at = place u.settled.sockets u.settled.near u.taken.accepted

      settles_there : Walks accepts watches connects reads writes finds handles hears settles setting at (Settles ∷ []) roomed_at settled_at
      settles_there =
          let d = u.decides in
          let n = d.roomed.near in
          let h = u.settled.near.handler in
          let a = u.taken.accepted in
          let from = spot d.roomed.sockets h n.clients n.dialled a in
          let here = walked_settles accepts watches connects reads writes finds handles hears settles setting at d.roomed.sockets n.handler h n.clients n.dialled a d.settled.does.does in
          let same : settled_at ≡ from = λ i. spot (d.settled.sockets i) h (d.settled.does.clients i) (d.settled.does.dialled i) a in
          let Walked_to : Place S H T → Type 0 = λ q. Walks accepts watches connects reads writes finds handles hears settles setting at (Settles ∷ []) roomed_at q in
          subst Walked_to (sym same) here

      ends_after : (s : Place S H T) → Made accepts watches connects reads writes finds handles hears settles setting at true [] settled_at s → (told : List Told) (last : H)
          → AreTold handles hears told s.reach.near.handler last → Since old.place s told → Ends last → Cut old.place
      ends_after s out told last more since ends =
          after_settling old.place roomed_at settled_at
          (decided_first settles u.more u.taken u.takes_in (search u.settled.sockets u.settled.near u.sought) u.decides) settles_there s out told last more since ends

    -- while clients are written to
    unwrote : (u : IsUngivenTurn accepts watches connects reads writes handles hears settles refuses declines stops setting at old s' h' fault
        (IsGivenInVain accepts watches connects reads writes handles hears settles refuses declines stops setting at old s' h' fault))
        → (between : World S H T) → Made accepts watches connects reads writes finds handles hears settles setting at true [] (place u.settled.sockets u.settled.near u.taken.accepted) (spot between.sockets between.handler between.clients u.settled.near.dialled u.taken.accepted)
        → (key : ℕ) → IsUnwrote writes handles hears refuses declines stops at key between u.gives_out.reached fault → Cut old.place
    unwrote u between out key is =
        let gives = IsGivenInVain accepts watches connects reads writes handles hears settles refuses declines stops setting at old s' h' fault in
        let s = spot between.sockets between.handler between.clients u.settled.near.dialled u.taken.accepted in
        let Written : S → Type 0 = λ x. IsWrittenLast writes between.sockets is.client x is.left in
        let offered : (k : ℕ) × (client : Client T) × (get between.clients k ≡ Some client) × (left : Client T) × IsWrittenLast writes between.sockets client s' left =
        (key, is.client, is.found, is.left, subst Written u.gives_out.sockets is.written) in
        elim is.breaks [
          | inl broken ↦
              let Ended : H → Type 0 = λ x. IsBroken handles hears refuses declines at between.handler x fault in
              let b = subst Ended u.gives_out.ends broken in
              ends_after gives u s out b.told b.last b.all (inr (inl offered)) (inl b.ends)
          | inr lost ↦
              let Stopped : H → Type 0 = λ x. IsUnsettled stops lost.0 x fault in
              ends_after gives u s out (Of_client (event at (Closed key)) lost.1.handled.outputs ∷ []) lost.0 (lost.0, lost.1.handled.answered, refl) (inr (inl offered)) (inr (subst Stopped u.gives_out.ends lost.2))
        ]

    given_in_vain : IsUngivenTurn accepts watches connects reads writes handles hears settles refuses declines stops setting at old s' h' fault
        (IsGivenInVain accepts watches connects reads writes handles hears settles refuses declines stops setting at old s' h' fault) → Cut old.place
    given_in_vain u =
        let gives = IsGivenInVain accepts watches connects reads writes handles hears settles refuses declines stops setting at old s' h' fault in
        let here = place u.settled.sockets u.settled.near u.taken.accepted in
        elim u.gives_out.breaks [
          | inl memory ↦
              let End : TurnFault Fault → Type 0 = λ f. IsEnd handles hears refuses declines at f u.settled.near.handler h' in
              ends_after gives u here (none accepts watches connects reads writes finds handles hears settles setting at true here here refl) [] u.settled.near.handler refl
              (inr (inr (refl, memory.0))) (inl (subst End (sym memory.0) (sym u.gives_out.ends ∙ memory.2)))
          | inr lost ↦
              let wrote = each_wrote accepts watches connects reads writes finds handles hears settles setting at u.settled.near.dialled u.taken.accepted lost.2.before (front u.settled) lost.2.between lost.2.each in
              unwrote u lost.2.between wrote.0 lost.2.key lost.2.last
        ]

    unlooked : IsUngivenTurn accepts watches connects reads writes handles hears settles refuses declines stops setting at old s' h' fault
        (IsUnlooked accepts watches connects reads writes handles hears settles refuses declines stops setting at old s' h' fault) → Cut old.place
    unlooked u =
        let gives = IsUnlooked accepts watches connects reads writes handles hears settles refuses declines stops setting at old s' h' fault in
        let End : TurnFault Fault → Type 0 = λ f. IsEnd handles hears refuses declines at f u.gives_out.given.near.handler h' in
        let out = given_out accepts watches connects reads writes finds handles hears settles setting at u.taken.accepted u.settled u.gives_out.given u.gives_out.gives_out in
        ends_after gives u (place u.gives_out.given.sockets u.gives_out.given.near u.taken.accepted) out.0 [] u.gives_out.given.near.handler refl
        (inr (inr (refl, u.gives_out.memory))) (inl (subst End (sym u.gives_out.memory) (sym u.gives_out.ends)))

    pub cut_turn : IsBrokenTurn accepts watches connects reads writes handles hears settles refuses declines stops setting at old s' h' fault → Cut old.place
    cut_turn (inl first) = cut_first old.place first
    cut_turn (inr (inl u)) = undecided u
    cut_turn (inr (inr (inl u))) = given_in_vain u
    cut_turn (inr (inr (inr u))) = unlooked u
