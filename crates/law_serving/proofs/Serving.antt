-- Turns of the program are a run of the served node behind its handlers.
use Rattle.std.proofs.Common.{◌≡◌, ◌<◌, ℕ, List, [], ◌∷◌, ◌++◌, map, Bool, true, Option, length, refl, sym, subst, ◌∙◌, inl, inr, arith}
use Rattle.std.specs.Prelude.{flat_map}
use Rattle.std.specs.List.{AllByRecursion}
use Rattle.std.specs.declared.net.socket_addr.SocketAddr.{SocketAddr}
use Rattle.broker_sockets.specs.declared.bridge.Given.{Given}
use Rattle.broker_sockets.specs.declared.bridge.PeerEvent.{PeerEvent}
use Rattle.broker_sockets.specs.declared.events.Event.{Event}
use Rattle.broker_sockets.specs.declared.events.Output.{Output}
use Rattle.broker_sockets.specs.declared.network.Answer.{Answer}
use Rattle.broker_sockets.specs.declared.ready.Ready.{Ready}
use Rattle.broker_sockets.specs.declared.ready.Watched.{Watched}
use Rattle.broker_turns.specs.declared.setting.Setting.{Setting}
use Rattle.broker_turns.specs.declared.turn.TurnFault.{TurnFault}
use Rattle.broker_turns.specs.declared.turn.TurnFault.TheVariants.{NoMemory, Handler}
use Rattle.broker_turns.specs.Broken.{IsUnsettled}
use Rattle.broker_turns.specs.Turns.{Site as Seat}
use Rattle.door_bounds.specs.Faults.{IsCutOff as IsCutOffWithin}
use Rattle.door_bounds.specs.Views.{inside_of as bounded_in}
use Rattle.door_bounds.specs.declared.fault.BoundedFault.TheVariants as of_bounds
use Rattle.door_guard.specs.Answering.{IsAnswered as IsGuarded, IsHeard as IsGuardedOfPeers, IsSettled as IsSettledWithUsers}
use Rattle.door_guard.specs.Faults.{IsCutOff as IsCutOffGuarded}
use Rattle.door_guard.specs.Views.{inside_of as guarded_in}
use Rattle.door_guard.specs.declared.fault.GuardFault.TheVariants as of_guards
use Rattle.door_users.specs.Files.{rights_of}
use Rattle.door_limits.specs.Faults.{IsCutOff as IsCutOffLimited}
use Rattle.door_limits.specs.Views.{inside_of as limited_in}
use Rattle.door_limits.specs.declared.fault.LimitedFault.TheVariants as of_limits
use Rattle.door_log.specs.Faults.{IsCutOff as IsCutOffBefore}
use Rattle.door_log.specs.declared.fault.LoggedFault.TheVariants as of_log
use Rattle.door_mqtt3.specs.Telling.{IsCutOff as IsCutOffTranslated}
use Rattle.door_mqtt3.specs.declared.fault.Mqtt3Fault.TheVariants as of_levels
use Rattle.door_tables.specs.Views.{inside_of as tabled_in}
use Rattle.node_keeper.specs.declared.fault.KeeperFault.{KeeperFault}
use Rattle.law_serving.proofs.Settling.{crash_amid_commit, crash_before_commit}
use Rattle.law_serving.proofs.Stopping.{cut_first, cut_turn, told_done}
use Rattle.law_serving.specs.Stopping.{IsCutTurn, StoppedServeIsARun, Stops}
use Rattle.door_bounds.specs.Answering.{IsAnswered as IsBounded, IsHeard as IsBoundedOfPeers, IsSettled as IsSettledWithin}
use Rattle.door_limits.specs.Answering.{IsAnswered as IsLimited, IsHeard as IsLimitedOfPeers, IsSettled as IsSettledLimited}
use Rattle.door_log.specs.Answering.{IsAnswered as IsNoted, IsHeard as IsNotedOfPeers, IsSettled as IsSettledBefore}
use Rattle.door_log.specs.Views.{inside_of as logged_in}
use Rattle.law_doors.proofs.Bounds.{bounds_tell}
use Rattle.law_doors.proofs.Guards.{guards_tell}
use Rattle.law_doors.proofs.Levels.{levels_tell}
use Rattle.law_doors.proofs.Limits.{limits_tell}
use Rattle.law_doors.specs.Bounds.{Bounds_pass}
use Rattle.law_doors.specs.Calls.{AreCalled, Call}
use Rattle.law_doors.specs.Guards.{Guards_pass}
use Rattle.law_doors.specs.Levels.{Levels_pass}
use Rattle.law_doors.specs.Limits.{Limits_pass}
use Rattle.home_table.specs.Table.{Table}
use Rattle.door_mqtt3.specs.Telling.{IsAnswered as IsTranslated, IsHeard as IsTranslatedOfPeers, IsSettled as IsSettledTranslated}
use Rattle.door_mqtt3.specs.Views.{clients_of, inside_of as translated_in}
use Rattle.node_server.specs.declared.served.ServedNode.{ServedNode}
use Rattle.node_server.specs.Events.{event_of, peer_event_of, table_event}
use Rattle.node_server.specs.Serving.{IsAnsweredToAll, IsAnsweredToClients, IsCommitted, IsCutOff}
use Rattle.node_server.specs.Stack.{BoundedNode, BoundedNodeFault, GuardedNode, GuardedNodeFault, LimitedNode, LimitedNodeFault, LoggedNode, LoggedNodeFault, NodeFault, TabledNode}
use Rattle.node_server.specs.Views.{keeper_of}
use Rattle.row_store.specs.Rows.{Content}
use Rattle.law_serving.specs.Sockets.{Door}
use Rattle.node_server.specs.Viewing.{inside_of as looked_at}
use Rattle.status_tally.specs.Doors.{IsAnswered as IsCounted, IsHeard as IsCountedOfPeers, IsSettled as IsSettledBehind, IsStopped as IsStoppedBehind}
use Rattle.status_tally.specs.Views.{inside_of as counted_in}
use Rattle.door_tables.proofs.Taking.{tables_are_newer}
use Rattle.door_tables.specs.Answering.{IsAnswered as IsTabled, IsHeard as IsTabledOfPeers, IsSettled as IsSettledWithTables}
use Rattle.door_tables.specs.Calls.{Made}
use Rattle.door_tables.specs.Laws.{AreMade}
use Rattle.law_serving.specs.Calls as turns
use Rattle.law_serving.specs.Calls.{IsDone, Rests, Through}
use Rattle.law_serving.specs.Traces.{IsOfTurn, Round}
use Rattle.law_serving.proofs.Tracing.{rests_by}
use Rattle.law_serving.proofs.Turning.{serving_is_a_trace}
use Rattle.law_serving.proofs.Walking.{through_join}
use Rattle.law_serving.proofs.Passing.{as_table_calls, called_within, hub_called, hub_rests, passed_rests, rests_in, tables_rest}
use Rattle.law_serving.proofs.Running.{made_is_run, rests_after}
use Rattle.law_serving.specs.Doors.{ArePassedDown, Whole, as_table_call, bounds_in, calls_of, guards_in, limits_in, node_in}
use Rattle.law_serving.specs.Serving.{ServeIsARun, hub_calls}

-- ---- when the handler rests

module _ {T : Type 0} where
  abbrev calls_in : Round T → List (turns.Call T)
  calls_in round = round.calls

  -- over rounds, and it rests in the end where there was one
  rests_over : (rounds : List (Round T)) → AllByRecursion (λ round. IsOfTurn round.at round.calls) rounds → (before : Bool) → (after : Bool) × Through Rests (flat_map calls_in rounds) before after × (0 < length rounds → after ≡ true)
  rests_over [] each before = (before, refl, λ some. absurd (omega (arith, some)))
  rests_over (round ∷ rounds) each before =
      let rest = rests_over rounds each.1 true in
      (rest.0, through_join Rests round.calls (flat_map calls_in rounds) before true rest.0 (each.0.rests before) rest.1, λ some. last rounds rest.0 rest.1 rest.2)
    where
      last : (more : List (Round T)) (after : Bool) → Through Rests (flat_map calls_in more) true after → (0 < length more → after ≡ true) → after ≡ true
      last [] after same some = same
      last (r ∷ more) after through some = some (omega arith)

-- ---- each handler hands on what the node gives where it can't settle

module _ {R F : Type 0} (stops : ServedNode R → KeeperFault → ServedNode R → Type 0) where
  abbrev Tables_stop : TabledNode R F → KeeperFault → TabledNode R F → Type 0
  Tables_stop d fault d' = stops (tabled_in d) fault (tabled_in d')

  abbrev NodeStops : TabledNode R F → TabledNode R F → Type 0
  NodeStops d d' = (fault : KeeperFault) × stops (tabled_in d) fault (tabled_in d')

  abbrev Guards_stop : GuardedNode R F → GuardedNodeFault → GuardedNode R F → Type 0
  Guards_stop = IsCutOffGuarded Tables_stop

  within_guards : (d d' : GuardedNode R F) (fault : GuardedNodeFault) → Guards_stop d fault d' → NodeStops (guarded_in d) (guarded_in d')
  within_guards d d' of_guards.NoMemory is = absurd is
  within_guards d d' (of_guards.Inside fault) is = (fault, is)

  module _ {G : Type 0} where
    within_bounds : (d d' : BoundedNode R F G) (fault : BoundedNodeFault) → IsCutOffWithin Guards_stop d fault d' → NodeStops (guarded_in (bounded_in d)) (guarded_in (bounded_in d'))
    within_bounds d d' of_bounds.NoMemory is = absurd is
    within_bounds d d' (of_bounds.Inside fault) is = within_guards (bounded_in d) (bounded_in d') fault is

    within_limits : (d d' : LimitedNode R F G) (fault : LimitedNodeFault) → IsCutOffLimited (IsCutOffWithin Guards_stop) d fault d' → NodeStops (guarded_in (bounded_in (limited_in d))) (guarded_in (bounded_in (limited_in d')))
    within_limits d d' of_limits.NoMemory is = absurd is
    within_limits d d' (of_limits.Inside fault) is = within_bounds (limited_in d) (limited_in d') fault is

    behind_log : {E : Type 0} (d d' : LoggedNode R F G E) (fault : LoggedNodeFault) → IsCutOffBefore (IsCutOffLimited (IsCutOffWithin Guards_stop)) d fault d' → NodeStops (guarded_in (bounded_in (limited_in (logged_in d)))) (guarded_in (bounded_in (limited_in (logged_in d'))))
    behind_log d d' of_log.NoMemory is = absurd is
    behind_log d d' (of_log.Inside fault) is = within_limits (logged_in d) (logged_in d') fault is

    module _ {E W : Type 0} where
      abbrev Door_stops : Door R F G E W → LoggedNodeFault → Door R F G E W → Type 0
      Door_stops d fault d' = IsStoppedBehind (IsCutOffBefore (IsCutOffLimited (IsCutOffWithin Guards_stop))) (looked_at d) fault (looked_at d')

      abbrev Whole_stops : Whole R F G E W → NodeFault → Whole R F G E W → Type 0
      Whole_stops d fault d' = IsCutOffTranslated Door_stops d fault d'

      node_stops : (d d' : Whole R F G E W) (fault : NodeFault) → Whole_stops d fault d' → NodeStops (guarded_in (guards_in d)) (guarded_in (guards_in d'))
      node_stops d d' of_levels.NoMemory is = absurd is
      node_stops d d' (of_levels.Inside fault) is = behind_log (counted_in (looked_at (translated_in d))) (counted_in (looked_at (translated_in d'))) fault is.stopped

      turn_stops : (d d' : Whole R F G E W) (fault : TurnFault NodeFault) → IsUnsettled Whole_stops d d' fault → NodeStops (guarded_in (guards_in d)) (guarded_in (guards_in d'))
      turn_stops d d' NoMemory is = absurd is
      turn_stops d d' (Handler fault) is = node_stops d d' fault is

-- ---- each handler settles where it is asked to

module _ {R : Type 0} (is_clean is_open : R → Type 0) (content : R → Content) (may_leave : R → Content → Type 0) where
  module _ {F : Type 0} (handles : ServedNode R → Event → List Output → ServedNode R → Type 0) (hears : ServedNode R → PeerEvent → Given → ServedNode R → Type 0)
      (settles : ServedNode R → ServedNode R → Type 0) (goes_by : ServedNode R → Table) (takes : ServedNode R → ℕ → Table → List Output → ServedNode R → Type 0)
      (offers : F → ℕ → Table → Option Table → F → Type 0)
      (by_clients : (s : ServedNode R) (e : Event) (outputs : List Output) (s' : ServedNode R) → handles s e outputs s' → IsAnsweredToClients (keeper_of s) (event_of e) outputs (keeper_of s'))
      (by_tables : (s : ServedNode R) (at : ℕ) (homes : Table) (outputs : List Output) (s' : ServedNode R) → takes s at homes outputs s' → IsAnsweredToClients (keeper_of s) (table_event at homes) outputs (keeper_of s'))
      (by_peers : (s : ServedNode R) (e : PeerEvent) (given : Given) (s' : ServedNode R) → hears s e given s' → IsAnsweredToAll (keeper_of s) (peer_event_of e) given (keeper_of s'))
      (by_commit : (s s' : ServedNode R) → settles s s' → IsCommitted is_clean is_open content may_leave (keeper_of s) (keeper_of s')) where
    -- ---- the relations of each handler

    abbrev Tables_handle : TabledNode R F → Event → List Output → TabledNode R F → Type 0
    Tables_handle = IsTabled handles takes goes_by offers

    abbrev Tables_hear : TabledNode R F → PeerEvent → Given → TabledNode R F → Type 0
    Tables_hear = IsTabledOfPeers hears

    abbrev Tables_settle : TabledNode R F → TabledNode R F → Type 0
    Tables_settle = IsSettledWithTables settles

    abbrev Guards_handle : GuardedNode R F → Event → List Output → GuardedNode R F → Type 0
    Guards_handle = IsGuarded Tables_handle rights_of

    abbrev Guards_hear : GuardedNode R F → PeerEvent → Given → GuardedNode R F → Type 0
    Guards_hear = IsGuardedOfPeers Tables_hear rights_of

    abbrev Guards_settle : GuardedNode R F → GuardedNode R F → Type 0
    Guards_settle = IsSettledWithUsers Tables_settle

    module _ {G : Type 0} where
      abbrev Bounds_handle : BoundedNode R F G → Event → List Output → BoundedNode R F G → Type 0
      Bounds_handle = IsBounded Guards_handle

      abbrev Bounds_hear : BoundedNode R F G → PeerEvent → Given → BoundedNode R F G → Type 0
      Bounds_hear = IsBoundedOfPeers Guards_hear

      abbrev Bounds_settle : BoundedNode R F G → BoundedNode R F G → Type 0
      Bounds_settle = IsSettledWithin Guards_settle

      abbrev Limits_handle : LimitedNode R F G → Event → List Output → LimitedNode R F G → Type 0
      Limits_handle = IsLimited Bounds_handle

      abbrev Limits_hear : LimitedNode R F G → PeerEvent → Given → LimitedNode R F G → Type 0
      Limits_hear = IsLimitedOfPeers Bounds_hear

      abbrev Limits_settle : LimitedNode R F G → LimitedNode R F G → Type 0
      Limits_settle = IsSettledLimited Bounds_settle

      module _ {E W : Type 0} (contents : E → Option (List ℕ)) where
        abbrev Door_handles : Door R F G E W → Event → List Output → Door R F G E W → Type 0
        Door_handles d e outputs d' = IsCounted (IsNoted Limits_handle) (looked_at d) e outputs (looked_at d')

        abbrev Door_hears : Door R F G E W → PeerEvent → Given → Door R F G E W → Type 0
        Door_hears d e given d' = IsCountedOfPeers (IsNotedOfPeers Limits_hear) (looked_at d) e given (looked_at d')

        abbrev Door_settles : Door R F G E W → Door R F G E W → Type 0
        Door_settles d d' = IsSettledBehind (IsSettledBefore Limits_settle contents) (looked_at d) (looked_at d')

        abbrev Whole_handles : Whole R F G E W → Event → List Output → Whole R F G E W → Type 0
        Whole_handles = IsTranslated Door_handles

        abbrev Whole_hears : Whole R F G E W → PeerEvent → Given → Whole R F G E W → Type 0
        Whole_hears = IsTranslatedOfPeers Door_handles Door_hears

        abbrev Whole_settles : Whole R F G E W → Whole R F G E W → Type 0
        Whole_settles = IsSettledTranslated Door_settles

        -- ---- from the hub down to the node

        record Passes_down (hub : List Call) (d d' : Whole R F G E W) : Type 0 where
          made : List Made
          are : AreMade handles hears settles goes_by takes made (node_in d) (node_in d')
          passed : ArePassedDown d d' hub made
          rests : rests_in hub true ≡ true → rests_after made true ≡ true

        passes_down : (hub : List Call) (d d' : Whole R F G E W) → AreCalled Whole_handles Whole_hears Whole_settles hub d d' → Passes_down hub d d'
        passes_down hub d d' all =
            let levels = levels_tell Door_handles Door_hears Door_settles hub d d' all in
            let open_in : Door R F G E W → LimitedNode R F G = λ x. logged_in (counted_in (looked_at x)) in
            let at_limits = called_within open_in Limits_handle Limits_hear Limits_settle Door_handles Door_hears Door_settles
            (λ a e outputs b is. is.answered.answered) (λ a e given b is. is.heard.heard) (λ a b is. is.settled.settled) levels.0 (translated_in d) (translated_in d') levels.1 in
            let limits = limits_tell Bounds_handle Bounds_hear Bounds_settle levels.0 (limits_in d) (limits_in d') at_limits in
            let bounds = bounds_tell Guards_handle Guards_hear Guards_settle limits.0 (bounds_in d) (bounds_in d') limits.1 in
            let guards = guards_tell rights_of Tables_handle Tables_hear Tables_settle bounds.0 (guards_in d) (guards_in d') bounds.1 in
            let at_tables = as_table_calls Tables_handle Tables_hear Tables_settle guards.0 _ _ guards.1 in
            let tables = tables_are_newer handles hears settles goes_by takes offers Tables_hear Tables_settle (λ a e given b is. is.0) (λ a b is. is.0) (map as_table_call guards.0) _ _ at_tables in
            record {
              made = tables.0;
              are = tables.2;
              passed = record { translated = levels.0; levels = levels.2; let_in = limits.0; limits = limits.2; within = bounds.0; bounds = bounds.2; of_users = guards.0; guards = guards.2; tables = tables.1 };
              rests = λ is.
                  let one = passed_rests Levels_pass (λ k k' first p. p.0) hub (clients_of d) (clients_of d') levels.0 true true levels.2 (λ x. x) is in
                  let two = passed_rests (Limits_pass _) (λ k k' first p. p.0) levels.0 _ _ limits.0 true true limits.2 (λ x. x) one in
                  let three = passed_rests Bounds_pass (λ k k' first p. p.0) limits.0 _ _ bounds.0 true true bounds.2 (λ x. x) two in
                  let four = passed_rests (Guards_pass rights_of) (λ k k' first p. p.0) bounds.0 _ _ guards.0 true true guards.2 (λ x. x) three in
                  tables_rest guards.0 tables.0 tables.1 four;
            }

        module _ {S L T C : Type 0}
            (accepts : S → L → Option T → S → Type 0) (watches : S → T → Watched → Bool → S → Type 0) (connects : S → SocketAddr → Option T → S → Type 0)
            (reads : S → T → Answer → List ℕ → S → T → Type 0) (writes : S → T → List ℕ → Answer → S → T → Type 0) (finds : S → Ready → S → Type 0) (tells : C → ℕ → C → Type 0) where
          pub serve_is_a_run : ServeIsARun accepts watches connects reads writes finds Whole_handles Whole_hears Whole_settles tells is_clean is_open content
          serve_is_a_run setting turns c c' old new served clean =
              let s = serving_is_a_trace accepts watches connects reads writes finds Whole_handles Whole_hears Whole_settles C tells setting turns c c' old new served in
              let d = old.place.reach.near.handler in
              let d' = new.place.reach.near.handler in
              let all = flat_map calls_in (s.first ∷ s.rounds) in
              let first = rests_by s.first.calls s.unwritten true in
              let rest = rests_over s.rounds s.each first.0 in
              let through = through_join Rests s.first.calls (flat_map calls_in s.rounds) true first.0 rest.0 first.1 rest.1 in
              let hub = hub_calls (s.first ∷ s.rounds) in
              let down = passes_down hub d d' (hub_called Whole_handles Whole_hears Whole_settles all d d' s.trace.done) in
              let run = made_is_run is_clean is_open content may_leave handles hears settles goes_by takes by_clients by_tables by_peers by_commit down.made (node_in d) (node_in d') down.are clean in
              record {
                trace = s;
                made = down.made;
                passed = down.passed;
                answered = run.0;
                just = run.1;
                run = run.2.0;
                committed = λ some.
                    let rested : rest.0 ≡ true = rest.2 (subst (λ (n : ℕ). 0 < n) (sym s.count) some) in
                    run.2.1 (down.rests (sym (hub_rests all true rest.0 through) ∙ rested));
              }

        -- ---- where it stops

        module _ (settled : (rows : R) (c : Content) → is_open rows → may_leave rows c → c ≡ content rows) (stops : ServedNode R → KeeperFault → ServedNode R → Type 0)
            (by_stop : (s : ServedNode R) (fault : KeeperFault) (s' : ServedNode R) → stops s fault s' → IsCutOff is_clean is_open content may_leave (keeper_of s) fault (keeper_of s')) where
          module _ {S L T C : Type 0}
              (accepts : S → L → Option T → S → Type 0) (watches : S → T → Watched → Bool → S → Type 0) (connects : S → SocketAddr → Option T → S → Type 0)
              (reads : S → T → Answer → List ℕ → S → T → Type 0) (writes : S → T → List ℕ → Answer → S → T → Type 0) (finds : S → Ready → S → Type 0) (tells : C → ℕ → C → Type 0)
              (refuses : Whole R F G E W → Event → NodeFault → Whole R F G E W → Type 0) (declines : Whole R F G E W → PeerEvent → NodeFault → Whole R F G E W → Type 0) where
            abbrev Goes_on : Setting L → Whole R F G E W → List (turns.Call T) → ℕ → Seat S (Whole R F G E W) T → S → Whole R F G E W → TurnFault NodeFault → Type 0
            Goes_on setting d before at old s' h' fault =
                Stops accepts watches connects reads writes finds Whole_handles Whole_hears Whole_settles refuses declines (Whole_stops stops) tells is_clean is_open content may_leave setting d before at old s' h' fault

            goes_on : (setting : Setting L) (d : Whole R F G E W) (before : List (turns.Call T)) (at : ℕ) (old : Seat S (Whole R F G E W) T) (s' : S) (h' : Whole R F G E W) (fault : TurnFault NodeFault)
                → Through (IsDone T Whole_handles Whole_hears Whole_settles) before d old.place.reach.near.handler
                → IsCutTurn accepts watches connects reads writes finds Whole_handles Whole_hears Whole_settles refuses declines (Whole_stops stops) setting at old.place s' h' fault → Goes_on setting d before at old s' h' fault
            goes_on setting d before at old s' h' fault done cut = (
              cut,
              λ clean.
                  let m = old.place.reach.near.handler in
                  let told = told_done T Whole_handles Whole_hears Whole_settles cut.told cut.reached.reach.near.handler cut.last cut.more in
                  let rest = through_join (IsDone T Whole_handles Whole_hears Whole_settles) cut.calls (map turns.Tells cut.told) m cut.reached.reach.near.handler cut.last cut.trace.done told in
                  let calls = before ++ (cut.calls ++ map turns.Tells cut.told) in
                  let all = through_join (IsDone T Whole_handles Whole_hears Whole_settles) before (cut.calls ++ map turns.Tells cut.told) d m cut.last done rest in
                  let down = passes_down (flat_map calls_of calls) d cut.last (hub_called Whole_handles Whole_hears Whole_settles calls d cut.last all) in
                  let run = made_is_run is_clean is_open content may_leave handles hears settles goes_by takes by_clients by_tables by_peers by_commit down.made (node_in d) (node_in cut.last) down.are clean in
                  let far = run.2.0 in
                  record {
                    made = down.made;
                    passed = down.passed;
                    answered = run.0;
                    just = run.1;
                    run = far;
                    crash = λ w i begins c left. crash_before_commit is_clean is_open content may_leave settled w i far.last (keeper_of (node_in cut.last)) far.waits begins far.taken c left;
                    amid = λ unsettled clean_then w i begins c left.
                        let off = turn_stops stops cut.last h' fault unsettled in
                        crash_amid_commit is_clean is_open content may_leave w i far.last (keeper_of (node_in cut.last)) (keeper_of (node_in h')) far.waits off.0 begins far.taken (by_stop (node_in cut.last) off.0 (node_in h') off.1) clean_then c left;
                  },
            )

            pub stopped_serve_is_a_run : StoppedServeIsARun accepts watches connects reads writes finds Whole_handles Whole_hears Whole_settles refuses declines (Whole_stops stops) tells is_clean is_open content may_leave
            stopped_serve_is_a_run setting turns c c' old s' h' fault (inl cut) =
                inl (record {
                  at = cut.at;
                  told = cut.told;
                  is = goes_on setting old.place.reach.near.handler [] cut.at old s' h' fault refl
                      (cut_first accepts watches connects reads writes finds Whole_handles Whole_hears Whole_settles refuses declines (Whole_stops stops) setting cut.at s' h' fault old.place cut.is);
                })
            stopped_serve_is_a_run setting turns c c' old s' h' fault (inr (d, m, next, stopped)) =
                let s = serving_is_a_trace accepts watches connects reads writes finds Whole_handles Whole_hears Whole_settles C tells setting stopped.made c stopped.before old stopped.reached (d, m, next, stopped.whole) in
                let cut = stopped.cut in
                inr (
                  stopped.made,
                  stopped.before,
                  stopped.reached,
                  stopped.fewer,
                  λ clean. serve_is_a_run accepts watches connects reads writes finds tells setting stopped.made c stopped.before old stopped.reached (d, m, next, stopped.whole) clean,
                  s,
                  record {
                    at = cut.at;
                    told = cut.told;
                    is = goes_on setting old.place.reach.near.handler (flat_map calls_in (s.first ∷ s.rounds)) cut.at stopped.reached s' h' fault s.trace.done
                        (cut_turn accepts watches connects reads writes finds Whole_handles Whole_hears Whole_settles refuses declines (Whole_stops stops) setting cut.at s' h' fault stopped.reached cut.is);
                  },
                )
