-- Calls of the whole are calls of the served node.
use Rattle.std.proofs.Common.{◌≡◌, List, [], ◌∷◌, ◌++◌, map, Bool, true, false, refl, sym, subst, ap, ◌∙◌}
use Rattle.std.specs.Prelude.{flat_map}
use Rattle.broker_sockets.specs.declared.bridge.Given.{Given}
use Rattle.broker_sockets.specs.declared.bridge.PeerEvent.{PeerEvent}
use Rattle.broker_sockets.specs.declared.events.Event.{Event}
use Rattle.broker_sockets.specs.declared.events.Output.{Output}
use Rattle.broker_turns.specs.Handling.Told.{Of_client, Of_peer}
use Rattle.law_doors.specs.Calls.{AreCalled, ArePassed, Call, Settles, Tells}
use Rattle.law_serving.proofs.Running.{rests_after}
use Rattle.law_serving.specs.Doors.{as_table_call, calls_of}
use Rattle.door_tables.specs.Calls as tables
use Rattle.door_tables.specs.Calls.{AreFor, Made, Plain, Taken}
use Rattle.law_serving.specs.Calls as turns
use Rattle.law_serving.specs.Calls.{IsDone, Rests, Through}

-- ---- of the hub

module _ {H : Type 0} (handles : H → Event → List Output → H → Type 0) (hears : H → PeerEvent → Given → H → Type 0) (settles : H → H → Type 0) where
  abbrev Called : List Call → H → H → Type 0
  Called calls h h' = AreCalled handles hears settles calls h h'

  from_same : (calls : List Call) (h m h' : H) → m ≡ h → Called calls m h' → Called calls h h'
  from_same calls h m h' same all = let From : H → Type 0 = λ x. Called calls x h' in subst From same all

  module _ {T : Type 0} where
    pub hub_called : (calls : List (turns.Call T)) (h h' : H) → Through (IsDone T handles hears settles) calls h h' → Called (flat_map calls_of calls) h h'
    hub_called [] h h' same = same
    hub_called (turns.Accepts stream ∷ calls) h h' all = from_same (flat_map calls_of calls) h all.0 h' all.1 (hub_called calls all.0 h' all.2)
    hub_called (turns.Accepts_link stream ∷ calls) h h' all = from_same (flat_map calls_of calls) h all.0 h' all.1 (hub_called calls all.0 h' all.2)
    hub_called (turns.Dials address stream ∷ calls) h h' all = from_same (flat_map calls_of calls) h all.0 h' all.1 (hub_called calls all.0 h' all.2)
    hub_called (turns.Watches name stream answer ∷ calls) h h' all = from_same (flat_map calls_of calls) h all.0 h' all.1 (hub_called calls all.0 h' all.2)
    hub_called (turns.Reads key stream answer bytes after ∷ calls) h h' all = from_same (flat_map calls_of calls) h all.0 h' all.1 (hub_called calls all.0 h' all.2)
    hub_called (turns.Reads_link name stream answer bytes frames goes_on after ∷ calls) h h' all = from_same (flat_map calls_of calls) h all.0 h' all.1 (hub_called calls all.0 h' all.2)
    hub_called (turns.Writes name stream offered answer after ∷ calls) h h' all = from_same (flat_map calls_of calls) h all.0 h' all.1 (hub_called calls all.0 h' all.2)
    hub_called (turns.Lets_go name asked ∷ calls) h h' all = from_same (flat_map calls_of calls) h all.0 h' all.1 (hub_called calls all.0 h' all.2)
    hub_called (turns.Finds ready ∷ calls) h h' all = from_same (flat_map calls_of calls) h all.0 h' all.1 (hub_called calls all.0 h' all.2)
    hub_called (turns.Tells told ∷ calls) h h' all = (all.0, all.1, hub_called calls all.0 h' all.2)
    hub_called (turns.Settles ∷ calls) h h' all = (all.0, all.1, hub_called calls all.0 h' all.2)

-- ---- when it has settled

abbrev pub rests_in : List Call → Bool → Bool
rests_in [] rests = rests
rests_in (Tells told ∷ calls) rests = rests_in calls false
rests_in (Settles ∷ calls) rests = rests_in calls true

rests_join : (xs ys : List Call) (b : Bool) → rests_in (xs ++ ys) b ≡ rests_in ys (rests_in xs b)
rests_join [] ys b = refl
rests_join (Tells told ∷ xs) ys b = rests_join xs ys false
rests_join (Settles ∷ xs) ys b = rests_join xs ys true

module _ {T : Type 0} where
  rested : (calls : List (turns.Call T)) (b m b' : Bool) → m ≡ b → Through Rests calls m b' → Through Rests calls b b'
  rested calls b m b' same through = let From : Bool → Type 0 = λ x. Through Rests calls x b' in subst From same through

  pub hub_rests : (calls : List (turns.Call T)) (b b' : Bool) → Through Rests calls b b' → b' ≡ rests_in (flat_map calls_of calls) b
  hub_rests [] b b' same = same
  hub_rests (turns.Accepts stream ∷ calls) b b' all = hub_rests calls b b' (rested calls b all.0 b' all.1 all.2)
  hub_rests (turns.Accepts_link stream ∷ calls) b b' all = hub_rests calls b b' (rested calls b all.0 b' all.1 all.2)
  hub_rests (turns.Dials address stream ∷ calls) b b' all = hub_rests calls b b' (rested calls b all.0 b' all.1 all.2)
  hub_rests (turns.Watches name stream answer ∷ calls) b b' all = hub_rests calls b b' (rested calls b all.0 b' all.1 all.2)
  hub_rests (turns.Reads key stream answer bytes after ∷ calls) b b' all = hub_rests calls b b' (rested calls b all.0 b' all.1 all.2)
  hub_rests (turns.Reads_link name stream answer bytes frames goes_on after ∷ calls) b b' all = hub_rests calls b b' (rested calls b all.0 b' all.1 all.2)
  hub_rests (turns.Writes name stream offered answer after ∷ calls) b b' all = hub_rests calls b b' (rested calls b all.0 b' all.1.1 all.2)
  hub_rests (turns.Lets_go name asked ∷ calls) b b' all = hub_rests calls b b' (rested calls b all.0 b' all.1 all.2)
  hub_rests (turns.Finds ready ∷ calls) b b' all = hub_rests calls b b' (rested calls b all.0 b' all.1 all.2)
  hub_rests (turns.Tells told ∷ calls) b b' all = hub_rests calls false b' (rested calls false all.0 b' all.1 all.2)
  hub_rests (turns.Settles ∷ calls) b b' all = hub_rests calls true b' (rested calls true all.0 b' all.1 all.2)

-- a handler that settles where it is asked to, and not else: where the calls before it rest, so do those behind it
module _ {K : Type 0} (passes : K → Call → List Call → K → Type 0) (settles : (k k' : K) (first : List Call) → passes k Settles first k' → first ≡ Settles ∷ []) where
  pub passed_rests : (calls : List Call) (k k' : K) (inside : List Call) (b c : Bool) → ArePassed passes k calls inside k' → (b ≡ true → c ≡ true) → rests_in calls b ≡ true → rests_in inside c ≡ true
  passed_rests [] k k' inside b c all may rests = let Rests_in : List Call → Type 0 = λ xs. rests_in xs c ≡ true in subst Rests_in (sym all.0) (may rests)
  passed_rests (Tells told ∷ calls) k k' inside b c all may rests =
      let Rests_in : List Call → Type 0 = λ xs. rests_in xs c ≡ true in
      subst Rests_in (sym all.5) (rests_join all.1 all.2 c ∙ passed_rests calls all.0 k' all.2 false (rests_in all.1 c) all.4 (λ is. absurd cc) rests)
  passed_rests (Settles ∷ calls) k k' inside b c all may rests =
      let Rests_in : List Call → Type 0 = λ xs. rests_in xs c ≡ true in
      let here : rests_in all.1 c ≡ true = ap (λ (xs : List Call). rests_in xs c) (settles k all.0 all.1 all.3) in
      subst Rests_in (sym all.5) (rests_join all.1 all.2 c ∙ passed_rests calls all.0 k' all.2 true (rests_in all.1 c) all.4 (λ _. here) rests)

made_rests : (calls : List Call) (made : List Made) (b : Bool) → AreFor (map as_table_call calls) made → rests_after made b ≡ rests_in calls b
made_rests [] [] b all = refl
made_rests [] (made ∷ more) b all = absurd all
made_rests (call ∷ calls) [] b all = absurd all
made_rests (Tells (Of_client e outputs) ∷ calls) (Plain made ∷ more) b all =
    let After : tables.Call → Type 0 = λ x. rests_after (Plain x ∷ more) b ≡ rests_in calls false in
    subst After (sym all.0) (made_rests calls more false all.1)
made_rests (Tells (Of_client e outputs) ∷ calls) (Taken at homes given ∷ more) b all = made_rests calls more false all.1
made_rests (Tells (Of_peer e given) ∷ calls) (Plain made ∷ more) b all =
    let After : tables.Call → Type 0 = λ x. rests_after (Plain x ∷ more) b ≡ rests_in calls false in
    subst After (sym all.0) (made_rests calls more false all.1)
made_rests (Tells (Of_peer e given) ∷ calls) (Taken at homes outputs ∷ more) b all = absurd all.0
made_rests (Settles ∷ calls) (Plain made ∷ more) b all =
    let After : tables.Call → Type 0 = λ x. rests_after (Plain x ∷ more) b ≡ rests_in calls true in
    subst After (sym all.0) (made_rests calls more true all.1)
made_rests (Settles ∷ calls) (Taken at homes outputs ∷ more) b all = absurd all.0

pub tables_rest : (calls : List Call) (made : List Made) → AreFor (map as_table_call calls) made → rests_in calls true ≡ true → rests_after made true ≡ true
tables_rest calls made all rests = made_rests calls made true all ∙ rests

-- ---- of a handler that hands all on

module _ {A B : Type 0} (within : A → B) (handles : B → Event → List Output → B → Type 0) (hears : B → PeerEvent → Given → B → Type 0) (settles : B → B → Type 0)
    (handles' : A → Event → List Output → A → Type 0) (hears' : A → PeerEvent → Given → A → Type 0) (settles' : A → A → Type 0)
    (by_handles : (d : A) (e : Event) (outputs : List Output) (d' : A) → handles' d e outputs d' → handles (within d) e outputs (within d'))
    (by_hears : (d : A) (e : PeerEvent) (given : Given) (d' : A) → hears' d e given d' → hears (within d) e given (within d'))
    (by_settles : (d d' : A) → settles' d d' → settles (within d) (within d')) where
  pub called_within : (calls : List Call) (d d' : A) → AreCalled handles' hears' settles' calls d d' → AreCalled handles hears settles calls (within d) (within d')
  called_within [] d d' same = ap within same
  called_within (Tells (Of_client e outputs) ∷ calls) d d' all = (within all.0, by_handles d e outputs all.0 all.1, called_within calls all.0 d' all.2)
  called_within (Tells (Of_peer e given) ∷ calls) d d' all = (within all.0, by_hears d e given all.0 all.1, called_within calls all.0 d' all.2)
  called_within (Settles ∷ calls) d d' all = (within all.0, by_settles d all.0 all.1, called_within calls all.0 d' all.2)

-- the same calls of the door for tables
module _ {H : Type 0} (handles : H → Event → List Output → H → Type 0) (hears : H → PeerEvent → Given → H → Type 0) (settles : H → H → Type 0) where
  pub as_table_calls : (calls : List Call) (d d' : H) → AreCalled handles hears settles calls d d' → tables.AreCalled handles hears settles (map as_table_call calls) d d'
  as_table_calls [] d d' same = same
  as_table_calls (Tells (Of_client e outputs) ∷ calls) d d' all = (all.0, all.1, as_table_calls calls all.0 d' all.2)
  as_table_calls (Tells (Of_peer e given) ∷ calls) d d' all = (all.0, all.1, as_table_calls calls all.0 d' all.2)
  as_table_calls (Settles ∷ calls) d d' all = (all.0, all.1, as_table_calls calls all.0 d' all.2)
