-- A turn over sockets of a served node behind its doors is a run.
use Rattle.std.proofs.Common.{◌≡◌, ℕ, List, [], ◌∷◌, ◌++◌, Bool, true, false, Option, Some, None, refl, sym, ap, subst, ◌∙◌}
use Rattle.std.specs.declared.net.socket_addr.SocketAddr.{SocketAddr}
use Rattle.broker_sockets.specs.declared.bridge.Given.{Given}
use Rattle.broker_sockets.specs.declared.bridge.PeerEvent.{PeerEvent}
use Rattle.broker_sockets.specs.declared.events.Event.{Event as Told}
use Rattle.broker_sockets.specs.declared.events.Output.{Output as Handed}
use Rattle.broker_sockets.specs.declared.network.Answer.{Answer}
use Rattle.broker_sockets.specs.declared.ready.Ready.{Ready}
use Rattle.broker_sockets.specs.declared.ready.Watched.{Watched}
use Rattle.broker_turns.specs.declared.setting.Setting.{Setting}
use Rattle.broker_turns.proofs.Handling.{turn_settles}
use Rattle.broker_turns.specs.Handling.{AreSettled, AreTold, Of_client, Of_peer, Told as Heard}
use Rattle.broker_turns.specs.Turns.{IsStart, IsTurn, Site as Seat}
use Rattle.door_limits.specs.Answering.{AreCut, AreCutIf, Cut, IsAnswered, IsAnsweredBy, IsAnsweredIf, IsHeard, IsSettled, gone, is_tick, is_told}
use Rattle.door_limits.specs.Limits.{are_none}
use Rattle.door_limits.specs.Views.{connections_of, inside_of, limits_of}
use Rattle.door_bounds.specs.Answering.{IsAnswered as IsBounded, IsHeard as IsBoundedOfPeers, IsSettled as IsSettledWithin}
use Rattle.door_bounds.specs.Telling.{AreTold as AreTalkedOf, Told as Talked}
use Rattle.door_bounds.specs.Views.{inside_of as bounded_in}
use Rattle.door_bounds.proofs.Following.{some_told}
use Rattle.door_guard.specs.Answering.{IsAnswered as IsGuarded, IsHeard as IsGuardedOfPeers, IsSettled as IsSettledWithUsers}
use Rattle.door_guard.specs.Telling.{AreTold as AreGuardedOf, Told as Passed}
use Rattle.door_guard.specs.Views.{inside_of as guarded_in}
use Rattle.door_guard.proofs.Calling.{some_heard, some_told as some_passed}
use Rattle.door_log.specs.Answering.{IsAnswered as IsNoted, IsHeard as IsNotedOfPeers, IsSettled as IsSettledBefore}
use Rattle.door_log.specs.Views.{inside_of as limited_in}
use Rattle.home_table.specs.Table.{Table}
use Rattle.door_tables.specs.Answering.{IsAnswered as IsTabled, IsAnsweredIf as IsTabledIf, IsGiven, IsHeard as IsTabledOfPeers, IsSettled as IsSettledWithTables, is_tick as may_bring}
use Rattle.door_tables.specs.Views.{inside_of as tabled_in}
use Rattle.node_server.specs.Viewing.{inside_of as looked_at}
use Rattle.status_tally.specs.Doors.{IsAnswered as IsCounted, IsHeard as IsCountedOfPeers, IsSettled as IsSettledBehind}
use Rattle.status_tally.specs.Views.{inside_of as logged_in}
use Rattle.cluster_play.proofs.Sites.{get-set_same}
use Rattle.cluster_play.specs.Worlds.{World, world_with}
use Rattle.node_keeper.specs.declared.batch.BatchKeeper.{BatchKeeper}
use Rattle.node_keeper.specs.Batches.{Answered}
use Rattle.node_keeper.specs.BatchViews.{node_in, rows_in}
use Rattle.node_server.specs.declared.served.ServedNode.{ServedNode}
use Rattle.node_server.specs.Events.{event_of, peer_event_of, table_event}
use Rattle.node_server.specs.Serving.{IsAnsweredToAll, IsAnsweredToClients, IsCommitted}
use Rattle.node_server.specs.Stack.{BoundedNode, GuardedNode, LimitedNode, TabledNode, node_behind}
use Rattle.node_server.specs.Views.{keeper_of}
use Rattle.row_store.specs.Rows.{Content}
use Rattle.law_serving.proofs.Joining.{changed_over, run_over, taken_join}
use Rattle.law_serving.proofs.ServedRunning.{turn_is_run}
use Rattle.law_serving.proofs.Settling.{settled_is_run, taken_rows}
use Rattle.law_serving.specs.Settling.{EventsAreTaken, TurnBegins, served_site}
use Rattle.law_serving.specs.Sockets.{Door, HasCommitted, SocketTurnIsRun, HasTakenSince, StartIsTaken, served_in}
use Rattle.law_serving.specs.Turns.{IsRunOf, frames_of}
use Rattle.door_users.specs.Files.{rights_of}

-- ---- what is taken

abbrev Taken : {R : Type 0} → ServedNode R → ServedNode R → Type 0
Taken s s' = (answered : List Answered) × EventsAreTaken (keeper_of s) answered (keeper_of s')

taken_none : {R : Type 0} (s s' : ServedNode R) → s' ≡ s → Taken s s'
taken_none s s' same = ([], ap (λ x. keeper_of x) same)

taken_over : {R : Type 0} (a b c : ServedNode R) → Taken a b → Taken b c → Taken a c
taken_over a b c p q = (p.0 ++ q.0, taken_join (keeper_of a) (keeper_of b) (keeper_of c) p.0 q.0 p.1 q.1)

-- ---- what goes on behind a door

module _ {A B : Type 0} (within : A → B) (handles : B → Told → List Handed → B → Type 0) (door_handles : A → Told → List Handed → A → Type 0)
    (by_handles : (d : A) (e : Told) (outputs : List Handed) (d' : A) → door_handles d e outputs d' → handles (within d) e outputs (within d')) where
  told_behind : (hears : B → PeerEvent → Given → B → Type 0) (door_hears : A → PeerEvent → Given → A → Type 0)
      → ((d : A) (e : PeerEvent) (given : Given) (d' : A) → door_hears d e given d' → hears (within d) e given (within d'))
      → (told : List Heard) (d d' : A) → AreTold door_handles door_hears told d d' → AreTold handles hears told (within d) (within d')
  told_behind hears door_hears by_hears [] d d' same = ap within same
  told_behind hears door_hears by_hears (Of_client e outputs ∷ more) d d' all =
      (within all.0, by_handles d e outputs all.0 all.1, told_behind hears door_hears by_hears more all.0 d' all.2)
  told_behind hears door_hears by_hears (Of_peer e given ∷ more) d d' all =
      (within all.0, by_hears d e given all.0 all.1, told_behind hears door_hears by_hears more all.0 d' all.2)

  settled_behind : (settles : B → B → Type 0) (door_settles : A → A → Type 0) → ((d d' : A) → door_settles d d' → settles (within d) (within d'))
      → (lost : List (Told × List Handed)) (d d' : A) → AreSettled door_handles door_settles lost d d' → AreSettled handles settles lost (within d) (within d')
  settled_behind settles door_settles by_settles [] d d' same = ap within same
  settled_behind settles door_settles by_settles (t ∷ more) d d' all =
      (within all.0, within all.1, by_handles d t.0 t.1 all.0 all.2, by_settles all.0 all.1 all.3, settled_behind settles door_settles by_settles more all.1 d' all.4)

module _ {R : Type 0} (is_clean is_open : R → Type 0) (content : R → Content) (may_leave : R → Content → Type 0) where
  -- ---- what is committed

  -- from a node that has committed all
  abbrev Runs : ServedNode R → ServedNode R → Type 0
  Runs s s' =
      (is_clean (rows_in (keeper_of s')) → is_clean (rows_in (keeper_of s)))
      × ((w : World) (i : ℕ) → TurnBegins is_open content w i (keeper_of s) → is_clean (rows_in (keeper_of s')) → (answered : List Answered) × HasCommitted is_open content w i answered s')

  at_rest : (w : World) (i : ℕ) (s : ServedNode R) → TurnBegins is_open content w i (keeper_of s) → HasCommitted is_open content w i [] s
  at_rest w i s b =
      let k = keeper_of s in
      let site = served_site content k in
      record {
        run = turn_is_run w i site [] (node_in k) (content (rows_in k)) b.at (refl, refl);
        begins = record { at = get-set_same w.sites i site site b.at; held = b.held; up = b.up; nothing = b.nothing; stands = b.stands };
      }

  settles_over : (w : World) (i : ℕ) (s t : ServedNode R) (xs ys : List Answered) → HasCommitted is_open content w i xs s
      → HasCommitted is_open content (world_with w i (served_site content (keeper_of s)) (frames_of xs)) i ys t → HasCommitted is_open content w i (xs ++ ys) t
  settles_over w i s t xs ys p q =
      let first = served_site content (keeper_of s) in
      let last = served_site content (keeper_of t) in
      let Begun : World → Type 0 = λ v. TurnBegins is_open content v i (keeper_of t) in
      record { run = run_over w i first last xs ys p.run q.run; begins = subst Begun (changed_over w i first last xs ys) q.begins }

  runs_none : (s s' : ServedNode R) → s' ≡ s → Runs s s'
  runs_none s s' same =
      let Clean : ServedNode R → Type 0 = λ x. is_clean (rows_in (keeper_of x)) in (
        λ clean. subst Clean same clean,
        λ w i b clean. let Settled : ServedNode R → Type 0 = λ x. HasCommitted is_open content w i [] x in ([], subst Settled (sym same) (at_rest w i s b)),
      )

  runs_over : (a b c : ServedNode R) → Runs a b → Runs b c → Runs a c
  runs_over a b c p q = (
    λ clean. p.0 (q.0 clean),
    λ w i begins clean.
        let first = p.1 w i begins (q.0 clean) in
        let second = q.1 (world_with w i (served_site content (keeper_of b)) (frames_of first.0)) i first.1.begins clean in
        (first.0 ++ second.0, settles_over w i b c first.0 second.0 first.1 second.1),
  )

  -- what is taken, and then committed
  runs_once : (s m s' : ServedNode R) → Taken s m → IsCommitted is_clean is_open content may_leave (keeper_of m) (keeper_of s') → Runs s s'
  runs_once s m s' taken commit = (
    λ clean. subst is_clean (taken_rows (keeper_of s) (keeper_of m) taken.0 taken.1) (commit.was_clean clean),
    λ w i begins clean.
        let settled = settled_is_run is_clean is_open content may_leave w i (keeper_of s) (keeper_of m) (keeper_of s') taken.0 begins taken.1 commit clean in
        (taken.0, record { run = settled.0; begins = settled.1 }),
  )

  module _ {F : Type 0} (handles : ServedNode R → Told → List Handed → ServedNode R → Type 0) (hears : ServedNode R → PeerEvent → Given → ServedNode R → Type 0)
      (settles : ServedNode R → ServedNode R → Type 0) (goes_by : ServedNode R → Table) (takes : ServedNode R → ℕ → Table → List Handed → ServedNode R → Type 0)
      (offers : F → ℕ → Table → Option Table → F → Type 0)
      (by_clients : (s : ServedNode R) (e : Told) (outputs : List Handed) (s' : ServedNode R) → handles s e outputs s' → IsAnsweredToClients (keeper_of s) (event_of e) outputs (keeper_of s'))
      (by_tables : (s : ServedNode R) (at : ℕ) (homes : Table) (outputs : List Handed) (s' : ServedNode R) → takes s at homes outputs s' → IsAnsweredToClients (keeper_of s) (table_event at homes) outputs (keeper_of s'))
      (by_peers : (s : ServedNode R) (e : PeerEvent) (given : Given) (s' : ServedNode R) → hears s e given s' → IsAnsweredToAll (keeper_of s) (peer_event_of e) given (keeper_of s'))
      (by_commit : (s s' : ServedNode R) → settles s s' → IsCommitted is_clean is_open content may_leave (keeper_of s) (keeper_of s')) where
    taken_handled : (s : ServedNode R) (e : Told) (outputs : List Handed) (s' : ServedNode R) → handles s e outputs s' → Taken s s'
    taken_handled s e outputs s' is = let a = by_clients s e outputs s' is in ((event_of e, a.made) ∷ [], (keeper_of s', a.taken, refl))

    taken_heard : (s : ServedNode R) (e : PeerEvent) (given : Given) (s' : ServedNode R) → hears s e given s' → Taken s s'
    taken_heard s e given s' is = let a = by_peers s e given s' is in ((peer_event_of e, a.made) ∷ [], (keeper_of s', a.taken, refl))

    taken_table : (s : ServedNode R) (at : ℕ) (homes : Table) (outputs : List Handed) (s' : ServedNode R) → takes s at homes outputs s' → Taken s s'
    taken_table s at homes outputs s' is = let a = by_tables s at homes outputs s' is in ((table_event at homes, a.made) ∷ [], (keeper_of s', a.taken, refl))

    -- ---- behind a door at which newer tables of homes come

    abbrev Tables : TabledNode R F → Told → List Handed → TabledNode R F → Type 0
    Tables t e outputs t' = IsTabled handles takes goes_by offers t e outputs t'

    taken_given : (offered : Option Table) (s : ServedNode R) (e : Told) (outputs : List Handed) (s' : ServedNode R) → IsGiven handles takes offered e s outputs s' → Taken s s'
    taken_given None s e outputs s' is = taken_handled s e outputs s' is
    taken_given (Some homes) s e outputs s' is = taken_table s e.at homes outputs s' is

    taken_ticked : (ticks : Bool) (t : TabledNode R F) (e : Told) (outputs : List Handed) (t' : TabledNode R F) → IsTabledIf handles takes goes_by offers ticks e outputs t t'
        → Taken (tabled_in t) (tabled_in t')
    taken_ticked true t e outputs t' is = taken_given is.offered (tabled_in t) e outputs (tabled_in t') is.given
    taken_ticked false t e outputs t' is = taken_handled (tabled_in t) e outputs (tabled_in t') is.answered

    taken_tabled : (t : TabledNode R F) (e : Told) (outputs : List Handed) (t' : TabledNode R F) → Tables t e outputs t' → Taken (tabled_in t) (tabled_in t')
    taken_tabled t e outputs t' is = taken_ticked (may_bring e.kind) t e outputs t' is

    -- ---- behind users

    taken_passed : (told : List Passed) (t t' : TabledNode R F) → AreGuardedOf Tables told t t' → Taken (tabled_in t) (tabled_in t')
    taken_passed [] t t' same = taken_none (tabled_in t) (tabled_in t') (ap (λ (x : TabledNode R F). tabled_in x) same)
    taken_passed (e ∷ more) t t' all =
        taken_over (tabled_in t) (tabled_in all.0) (tabled_in t') (taken_tabled t e.0 e.1 all.0 all.1) (taken_passed more all.0 t' all.2)

    abbrev Guards : GuardedNode R F → Told → List Handed → GuardedNode R F → Type 0
    Guards g e outputs g' = IsGuarded Tables rights_of g e outputs g'

    abbrev in_guard : GuardedNode R F → ServedNode R
    in_guard g = tabled_in (guarded_in g)

    taken_guarded : (g : GuardedNode R F) (e : Told) (outputs : List Handed) (g' : GuardedNode R F) → Guards g e outputs g' → Taken (in_guard g) (in_guard g')
    taken_guarded g e outputs g' is = let told = some_passed Tables rights_of g e outputs g' is in taken_passed told.0 (guarded_in g) (guarded_in g') told.1

    -- ---- behind limits on what clients send

    taken_talked : (told : List Talked) (g g' : GuardedNode R F) → AreTalkedOf Guards told g g' → Taken (in_guard g) (in_guard g')
    taken_talked [] g g' same = taken_none (in_guard g) (in_guard g') (ap (λ (x : GuardedNode R F). in_guard x) same)
    taken_talked (e ∷ more) g g' all =
        taken_over (in_guard g) (in_guard all.0) (in_guard g') (taken_guarded g e.0 e.1 all.0 all.1) (taken_talked more all.0 g' all.2)

    abbrev Answers : (G : Type 0) → BoundedNode R F G → Told → List Handed → BoundedNode R F G → Type 0
    Answers G b e outputs b' = IsBounded Guards b e outputs b'

    abbrev Hears : (G : Type 0) → BoundedNode R F G → PeerEvent → Given → BoundedNode R F G → Type 0
    Hears G b e given b' = IsBoundedOfPeers (IsGuardedOfPeers (IsTabledOfPeers hears) rights_of) b e given b'

    abbrev Settles : (G : Type 0) → BoundedNode R F G → BoundedNode R F G → Type 0
    Settles G b b' = IsSettledWithin (IsSettledWithUsers (IsSettledWithTables settles)) b b'

    taken_bounded : {G : Type 0} (b : BoundedNode R F G) (e : Told) (outputs : List Handed) (b' : BoundedNode R F G) → Answers G b e outputs b'
        → Taken (in_guard (bounded_in b)) (in_guard (bounded_in b'))
    taken_bounded b e outputs b' is = let told = some_told Guards b e outputs b' is in taken_talked told.0 (bounded_in b) (bounded_in b') told.1

    -- ---- and behind limits on clients

    taken_cuts : {G : Type 0} (at : ℕ) (cuts : List Cut) (d d' : LimitedNode R F G) → AreCut (Answers G) at cuts d d' → Taken (node_behind d) (node_behind d')
    taken_cuts {G = G} at [] d d' same = taken_none (node_behind d) (node_behind d') (ap (λ (x : LimitedNode R F G). node_behind x) same)
    taken_cuts {G = G} at (cut ∷ more) d d' all =
        taken_over (node_behind d) (node_behind all.0) (node_behind d') (taken_bounded (inside_of d) (gone at cut.0) cut.1 (inside_of all.0) all.1.told.answered) (taken_cuts at more all.0 d' all.2)

    taken_swept : {G : Type 0} (ticks : Bool) (at : ℕ) (cuts : List Cut) (d d' : LimitedNode R F G) → AreCutIf (Answers G) ticks at cuts d d' → Taken (node_behind d) (node_behind d')
    taken_swept {G = G} true at cuts d d' swept = taken_cuts at cuts d d' swept.each
    taken_swept {G = G} false at cuts d d' swept = taken_none (node_behind d) (node_behind d') (ap (λ (x : LimitedNode R F G). node_behind x) swept.1)

    taken_by : {G : Type 0} (told : Bool) (e : Told) (outputs : List Handed) (d d' : LimitedNode R F G) → IsAnsweredBy (Answers G) told e outputs d d' → Taken (node_behind d) (node_behind d')
    taken_by {G = G} true e outputs d d' is =
        taken_over (node_behind d) (node_behind is.between) (node_behind d') (taken_bounded (inside_of d) e is.given (inside_of is.between) is.told.answered)
        (taken_swept (is_tick e.kind) e.at is.cuts is.between d' is.swept)
    taken_by {G = G} false e outputs d d' is = taken_none (node_behind d) (node_behind d') (ap (λ (x : LimitedNode R F G). node_behind x) is.1)

    taken_if : {G : Type 0} (free : Bool) (e : Told) (outputs : List Handed) (d d' : LimitedNode R F G) → IsAnsweredIf (Answers G) free e outputs d d' → Taken (node_behind d) (node_behind d')
    taken_if {G = G} true e outputs d d' is = taken_bounded (inside_of d) e outputs (inside_of d') is.answered
    taken_if {G = G} false e outputs d d' is = taken_by (is_told (limits_of d) (connections_of d) e.kind) e outputs d d' is

    taken_answered : {G : Type 0} (d : LimitedNode R F G) (e : Told) (outputs : List Handed) (d' : LimitedNode R F G) → IsAnswered (Answers G) d e outputs d' → Taken (node_behind d) (node_behind d')
    taken_answered {G = G} d e outputs d' is = taken_if (are_none (limits_of d)) e outputs d d' is

    taken_all : {G : Type 0} (told : List Heard) (d d' : LimitedNode R F G) → AreTold (IsAnswered (Answers G)) (IsHeard (Hears G)) told d d' → Taken (node_behind d) (node_behind d')
    taken_all {G = G} [] d d' same = taken_none (node_behind d) (node_behind d') (ap (λ (x : LimitedNode R F G). node_behind x) same)
    taken_all {G = G} (Of_client e outputs ∷ more) d d' all =
        taken_over (node_behind d) (node_behind all.0) (node_behind d') (taken_answered d e outputs all.0 all.1) (taken_all more all.0 d' all.2)
    taken_all {G = G} (Of_peer e given ∷ more) d d' all =
        let heard = some_heard (IsTabledOfPeers hears) rights_of (bounded_in (inside_of d)) e given (bounded_in (inside_of all.0)) all.1.heard.0 in
        taken_over (node_behind d) (node_behind all.0) (node_behind d') (taken_heard (node_behind d) e heard.0 (node_behind all.0) heard.1.0) (taken_all more all.0 d' all.2)

    runs_all : {G : Type 0} (lost : List (Told × List Handed)) (d d' : LimitedNode R F G) → AreSettled (IsAnswered (Answers G)) (IsSettled (Settles G)) lost d d' → Runs (node_behind d) (node_behind d')
    runs_all {G = G} [] d d' same = runs_none (node_behind d) (node_behind d') (ap (λ (x : LimitedNode R F G). node_behind x) same)
    runs_all {G = G} (t ∷ more) d d' all =
        runs_over (node_behind d) (node_behind all.1) (node_behind d')
        (runs_once (node_behind d) (node_behind all.0) (node_behind all.1) (taken_answered d t.0 t.1 all.0 all.2) (by_commit (node_behind all.0) (node_behind all.1) all.3.settled.0.0.0)) (runs_all more all.1 d' all.4)

    -- ---- and behind the others: the log, the tally, and whoever looks

    abbrev DoorHandles : (G E W : Type 0) → Door R F G E W → Told → List Handed → Door R F G E W → Type 0
    DoorHandles G E W d e outputs d' = IsCounted (IsNoted (IsAnswered (Answers G))) (looked_at d) e outputs (looked_at d')

    abbrev DoorHears : (G E W : Type 0) → Door R F G E W → PeerEvent → Given → Door R F G E W → Type 0
    DoorHears G E W d e given d' = IsCountedOfPeers (IsNotedOfPeers (IsHeard (Hears G))) (looked_at d) e given (looked_at d')

    abbrev DoorSettles : (G E W : Type 0) → (E → Option (List ℕ)) → Door R F G E W → Door R F G E W → Type 0
    DoorSettles G E W contents d d' = IsSettledBehind (IsSettledBefore (IsSettled (Settles G)) contents) (looked_at d) (looked_at d')

    told_within : {G E W : Type 0} (told : List Heard) (d d' : Door R F G E W) → AreTold (DoorHandles G E W) (DoorHears G E W) told d d'
        → AreTold (IsAnswered (Answers G)) (IsHeard (Hears G)) told (limited_in (logged_in (looked_at d))) (limited_in (logged_in (looked_at d')))
    told_within {G = G} {E = E} {W = W} told d d' all =
        told_behind (λ (x : Door R F G E W). limited_in (logged_in (looked_at x))) (IsAnswered (Answers G)) (DoorHandles G E W) (λ a e outputs b is. is.answered.answered)
        (IsHeard (Hears G)) (DoorHears G E W) (λ a e given b is. is.heard.heard) told d d' all

    settled_within : {G E W : Type 0} (contents : E → Option (List ℕ)) (lost : List (Told × List Handed)) (d d' : Door R F G E W)
        → AreSettled (DoorHandles G E W) (DoorSettles G E W contents) lost d d'
        → AreSettled (IsAnswered (Answers G)) (IsSettled (Settles G)) lost (limited_in (logged_in (looked_at d))) (limited_in (logged_in (looked_at d')))
    settled_within {G = G} {E = E} {W = W} contents lost d d' all =
        settled_behind (λ (x : Door R F G E W). limited_in (logged_in (looked_at x))) (IsAnswered (Answers G)) (DoorHandles G E W) (λ a e outputs b is. is.answered.answered)
        (IsSettled (Settles G)) (DoorSettles G E W contents) (λ a b is. is.settled.settled) lost d d' all

    pub start_is_taken : {S T G E W : Type 0} (at : ℕ) (old new : Seat S (Door R F G E W) T) → IsStart (DoorHandles G E W) at old new
        → (w : World) (i : ℕ) (pending : List Answered) → HasTakenSince is_open content w i pending (served_in old) → (more : List Answered) × HasTakenSince is_open content w i more (served_in new)
    start_is_taken at old new start w i pending stands =
        let first = start.told.does.does.handled in
        let was = limited_in (logged_in (looked_at old.place.reach.near.handler)) in
        let is = limited_in (logged_in (looked_at new.place.reach.near.handler)) in
        let taken = taken_answered was _ first.outputs is first.answered.answered.answered in
        (pending ++ taken.0, record { before = stands.before; begins = stands.begins; taken = taken_join stands.before (keeper_of (served_in old)) (keeper_of (served_in new)) pending taken.0 stands.taken taken.1 })

    module _ {S L T G E W : Type 0}
        (accepts : S → L → Option T → S → Type 0) (watches : S → T → Watched → Bool → S → Type 0) (connects : S → SocketAddr → Option T → S → Type 0)
        (reads : S → T → Answer → List ℕ → S → T → Type 0) (writes : S → T → List ℕ → Answer → S → T → Type 0) (finds : S → Ready → S → Type 0)
        (contents : E → Option (List ℕ)) where
      pub socket_turn_is_run : SocketTurnIsRun is_clean is_open content accepts watches connects reads writes finds
          (DoorHandles G E W) (DoorHears G E W) (DoorSettles G E W contents)
      socket_turn_is_run setting at old new turn w i pending stands clean =
          let t = turn_settles (DoorHandles G E W) (DoorHears G E W) (DoorSettles G E W contents) accepts watches connects reads writes finds setting at old new turn in
          let s = served_in old in
          let before_all = old.place.reach.near.handler in
          let after_all = new.place.reach.near.handler in
          let was_bounded = limited_in (logged_in (looked_at before_all)) in
          let is_bounded = limited_in (logged_in (looked_at after_all)) in
          let last_bounded = limited_in (logged_in (looked_at t.last)) in
          let settled_bounded = limited_in (logged_in (looked_at t.settled)) in
          let all = taken_all t.told was_bounded last_bounded (told_within t.told before_all t.last t.all) in
          let last = node_behind last_bounded in
          let settled = node_behind settled_bounded in
          let commit = by_commit last settled t.first.settled.settled.settled.0.0.0 in
          let on = runs_all t.lost settled_bounded is_bounded (settled_within contents t.lost t.settled after_all t.then) in
          let was = on.0 clean in
          let answered = pending ++ all.0 in
          let before = taken_join stands.before (keeper_of s) (keeper_of last) pending all.0 stands.taken all.1 in
          let one = settled_is_run is_clean is_open content may_leave w i stands.before (keeper_of last) (keeper_of settled) answered stands.begins before commit was in
          let done : HasCommitted is_open content w i answered settled = record { run = one.0; begins = one.1 } in
          let more = on.1 (world_with w i (served_site content (keeper_of settled)) (frames_of answered)) i one.1 clean in (
            answered ++ more.0,
            settles_over w i settled (served_in new) answered more.0 done more.1,
            (runs_once s last settled all commit).0 was,
          )
