-- Calls of a served node are a run of it.
use Rattle.std.proofs.Common.{◌≡◌, ℕ, List, [], ◌∷◌, ◌++◌, Bool, true, false, append_assoc, append-nil, refl, sym, subst, ap, ◌∙◌}
use Rattle.std.proofs.lemmas.List.Concat.{flat_map-append}
use Rattle.std.specs.Prelude.{flat_map}
use Rattle.broker_sockets.specs.declared.bridge.Given.{Given}
use Rattle.broker_sockets.specs.declared.bridge.PeerEvent.{PeerEvent}
use Rattle.broker_sockets.specs.declared.events.Event.{Event as Told}
use Rattle.broker_sockets.specs.declared.events.Output.{Output}
use Rattle.cluster_play.specs.Worlds.{World}
use Rattle.home_table.specs.Table.{Table}
use Rattle.node_keeper.specs.declared.batch.BatchKeeper.{BatchKeeper}
use Rattle.node_keeper.specs.Batches.{Answered}
use Rattle.node_keeper.specs.BatchViews.{rows_in}
use Rattle.node_server.specs.declared.served.ServedNode.{ServedNode}
use Rattle.node_server.specs.Events.{event_of, peer_event_of, table_event}
use Rattle.node_server.specs.Serving.{IsAnsweredToAll, IsAnsweredToClients, IsCommitted, IsTaken}
use Rattle.node_server.specs.Views.{keeper_of}
use Rattle.row_store.specs.Rows.{Content}
use Rattle.law_serving.proofs.Joining.{taken_join}
use Rattle.law_serving.proofs.Settling.{settled_is_run}
use Rattle.law_serving.specs.Settling.{TurnBegins}
use Rattle.door_tables.specs.Calls.{Handled, Heard, Made, Plain, Settled, Taken}
use Rattle.door_tables.specs.Laws.{AreMade}
use Rattle.law_serving.specs.Serving.{AreAnswersTo, AreCommits, IsCommit, IsRunSoFar}

-- whether it has settled since it was told anything
abbrev pub rests_after : List Made → Bool → Bool
rests_after [] rests = rests
rests_after (Plain (Handled e outputs) ∷ made) rests = rests_after made false
rests_after (Plain (Heard e given) ∷ made) rests = rests_after made false
rests_after (Plain Settled ∷ made) rests = rests_after made true
rests_after (Taken at homes outputs ∷ made) rests = rests_after made false

abbrev whole : List Answered → List Answered
whole events = events

module _ {R : Type 0} (is_clean is_open : R → Type 0) (content : R → Content) (may_leave : R → Content → Type 0) where
  commits_last : (commits : List (List Answered)) (events : List Answered) (k m k' : BatchKeeper R) → AreCommits is_open content k commits m → IsCommit is_open content m events k' → AreCommits is_open content k (commits ++ events ∷ []) k'
  commits_last [] events k m k' same one = let From : BatchKeeper R → Type 0 = λ x. IsCommit is_open content x events k' in (k', subst From same one, refl)
  commits_last (first ∷ more) events k m k' all one = (all.0, all.1, commits_last more events all.0 m k' all.2 one)

  whole_last : (commits : List (List Answered)) (events : List Answered) → flat_map whole commits ++ events ≡ flat_map whole (commits ++ events ∷ []) ++ []
  whole_last commits events =
      ap (λ (xs : List Answered). flat_map whole commits ++ xs) (sym (append-nil events)) ∙ sym (flat_map-append whole commits (events ∷ [])) ∙ sym (append-nil (flat_map whole (commits ++ events ∷ [])))

  abbrev SoFar : BatchKeeper R → List Answered → BatchKeeper R → Type 0
  SoFar k answered k' = IsRunSoFar is_open content k answered k'

  abbrev pub Clean : ServedNode R → Type 0
  Clean s = is_clean (rows_in (keeper_of s))

  module _ (handles : ServedNode R → Told → List Output → ServedNode R → Type 0) (hears : ServedNode R → PeerEvent → Given → ServedNode R → Type 0) (settles : ServedNode R → ServedNode R → Type 0)
      (goes_by : ServedNode R → Table) (takes : ServedNode R → ℕ → Table → List Output → ServedNode R → Type 0)
      (by_clients : (s : ServedNode R) (e : Told) (outputs : List Output) (s' : ServedNode R) → handles s e outputs s' → IsAnsweredToClients (keeper_of s) (event_of e) outputs (keeper_of s'))
      (by_tables : (s : ServedNode R) (at : ℕ) (homes : Table) (outputs : List Output) (s' : ServedNode R) → takes s at homes outputs s' → IsAnsweredToClients (keeper_of s) (table_event at homes) outputs (keeper_of s'))
      (by_peers : (s : ServedNode R) (e : PeerEvent) (given : Given) (s' : ServedNode R) → hears s e given s' → IsAnsweredToAll (keeper_of s) (peer_event_of e) given (keeper_of s'))
      (by_commit : (s s' : ServedNode R) → settles s s' → IsCommitted is_clean is_open content may_leave (keeper_of s) (keeper_of s')) where
    abbrev pub NodeMade : List Made → ServedNode R → ServedNode R → Type 0
    NodeMade made s s' = AreMade handles hears settles goes_by takes made s s'

    clean_of : (s m : ServedNode R) → rows_in (keeper_of m) ≡ rows_in (keeper_of s) → Clean m → Clean s
    clean_of s m same clean = subst is_clean same clean

    -- clean after the calls, and so before them
    clean_before : (made : List Made) (s s' : ServedNode R) → NodeMade made s s' → Clean s' → Clean s
    clean_before [] s s' same clean = subst Clean same clean
    clean_before (Plain (Handled e outputs) ∷ made) s s' all clean = clean_of s all.0 (by_clients s e outputs all.0 all.1).taken.rows (clean_before made all.0 s' all.2 clean)
    clean_before (Plain (Heard e given) ∷ made) s s' all clean = clean_of s all.0 (by_peers s e given all.0 all.1).taken.rows (clean_before made all.0 s' all.2 clean)
    clean_before (Plain Settled ∷ made) s s' all clean = (by_commit s all.0 all.1).was_clean (clean_before made all.0 s' all.2 clean)
    clean_before (Taken at homes outputs ∷ made) s s' all clean = clean_of s all.0 (by_tables s at homes outputs all.0 all.1.0).taken.rows (clean_before made all.0 s' all.2 clean)

    module _ (k : BatchKeeper R) where
      -- after more was made
      record Goes_on (xs : List Answered) (made : List Made) (rests : Bool) (s' : ServedNode R) : Type 0 where
        more : List Answered
        just : AreAnswersTo made more
        run : SoFar k (xs ++ more) (keeper_of s')
        waits : rests ≡ true → run.waits ≡ []

      -- the node has taken one more event
      takes_one : (xs : List Answered) (a : Answered) (l m : BatchKeeper R) → (far : SoFar k xs l) → IsTaken l a.0 a.1 m → SoFar k (xs ++ a ∷ []) m
      takes_one xs a l m far taken = record {
        commits = far.commits;
        waits = far.waits ++ a ∷ [];
        all = ap (λ (ys : List Answered). ys ++ a ∷ []) far.all ∙ append_assoc (flat_map whole far.commits) far.waits (a ∷ []);
        last = far.last;
        runs = far.runs;
        taken = taken_join far.last l m far.waits (a ∷ []) far.taken (m, taken, refl);
      }

      -- and commits
      committed : (xs : List Answered) (l m : BatchKeeper R) → (far : SoFar k xs l) → IsCommitted is_clean is_open content may_leave l m → is_clean (rows_in m) → (next : SoFar k xs m) × (next.waits ≡ [])
      committed xs l m far commit clean =
          let one : (w : World) (i : ℕ) → TurnBegins is_open content w i far.last → _ = λ w i b. settled_is_run is_clean is_open content may_leave w i far.last l m far.waits b far.taken commit clean in
          let is : IsCommit is_open content far.last far.waits m = record { run = λ w i b. (one w i b).0; stands = λ w i b. (one w i b).1 } in (
            record {
              commits = far.commits ++ far.waits ∷ [];
              waits = [];
              all = far.all ∙ whole_last far.commits far.waits;
              last = m;
              runs = commits_last far.commits far.waits k far.last m far.runs is;
              taken = refl;
            },
            refl,
          )

      -- one event more, and then the rest
      joins : (xs : List Answered) (a : Answered) (call : Made) (made : List Made) (rests : Bool) (s' : ServedNode R) → ((more : List Answered) → AreAnswersTo made more → AreAnswersTo (call ∷ made) (a ∷ more))
          → Goes_on (xs ++ a ∷ []) made rests s' → Goes_on xs (call ∷ made) rests s'
      joins xs a call made rests s' answers rest =
          let Run : List Answered → Type 0 = λ ys. (far : SoFar k ys (keeper_of s')) × (rests ≡ true → far.waits ≡ []) in
          let both = subst Run (append_assoc xs (a ∷ []) rest.more) (rest.run, rest.waits) in
          record { more = a ∷ rest.more; just = answers rest.more rest.just; run = both.0; waits = both.1 }

      goes_on : (xs : List Answered) (made : List Made) (s s' : ServedNode R) (b : Bool) → NodeMade made s s' → Clean s' → (far : SoFar k xs (keeper_of s)) → (b ≡ true → far.waits ≡ []) → Goes_on xs made (rests_after made b) s'
      goes_on xs [] s s' b same clean far rests =
          let Run : ServedNode R → Type 0 = λ x. (f : SoFar k xs (keeper_of x)) × (b ≡ true → f.waits ≡ []) in
          let here = subst Run (sym same) (far, rests) in
          let Ends : List Answered → Type 0 = λ ys. (f : SoFar k ys (keeper_of s')) × (b ≡ true → f.waits ≡ []) in
          let both = subst Ends (sym (append-nil xs)) here in
          record { more = []; just = tt; run = both.0; waits = both.1 }
      goes_on xs (Plain (Handled e outputs) ∷ made) s s' b all clean far rests =
          let one = by_clients s e outputs all.0 all.1 in
          let a : Answered = (event_of e, one.made) in
          joins xs a (Plain (Handled e outputs)) made (rests_after made false) s' (λ more is. (refl, one.passed, is))
          (goes_on (xs ++ a ∷ []) made all.0 s' false all.2 clean (takes_one xs a (keeper_of s) (keeper_of all.0) far one.taken) (λ is. absurd cc))
      goes_on xs (Plain (Heard e given) ∷ made) s s' b all clean far rests =
          let one = by_peers s e given all.0 all.1 in
          let a : Answered = (peer_event_of e, one.made) in
          joins xs a (Plain (Heard e given)) made (rests_after made false) s' (λ more is. (refl, one.passed.0, one.passed.1, is))
          (goes_on (xs ++ a ∷ []) made all.0 s' false all.2 clean (takes_one xs a (keeper_of s) (keeper_of all.0) far one.taken) (λ is. absurd cc))
      goes_on xs (Taken at homes outputs ∷ made) s s' b all clean far rests =
          let one = by_tables s at homes outputs all.0 all.1.0 in
          let a : Answered = (table_event at homes, one.made) in
          joins xs a (Taken at homes outputs) made (rests_after made false) s' (λ more is. (refl, one.passed, is))
          (goes_on (xs ++ a ∷ []) made all.0 s' false all.2 clean (takes_one xs a (keeper_of s) (keeper_of all.0) far one.taken) (λ is. absurd cc))
      goes_on xs (Plain Settled ∷ made) s s' b all clean far rests =
          let next = committed xs (keeper_of s) (keeper_of all.0) far (by_commit s all.0 all.1) (clean_before made all.0 s' all.2 clean) in
          let rest = goes_on xs made all.0 s' true all.2 clean next.0 (λ _. next.1) in
          record { more = rest.more; just = rest.just; run = rest.run; waits = rest.waits }

    -- from nothing
    pub made_is_run : (made : List Made) (s s' : ServedNode R) → NodeMade made s s' → Clean s'
        → (answered : List Answered) × AreAnswersTo made answered × ((run : SoFar (keeper_of s) answered (keeper_of s')) × (rests_after made true ≡ true → run.waits ≡ []))
    made_is_run made s s' all clean =
        let k = keeper_of s in
        let none : SoFar k [] k = record { commits = []; waits = []; all = refl; last = k; runs = refl; taken = refl } in
        let far = goes_on k [] made s s' true all clean none (λ _. refl) in
        (far.more, far.just, (far.run, far.waits))
