-- A call of a session is an act of the node.
use Rattle.std.proofs.Common.{◌≡◌, ℕ, ◌+◌, ◌<◌, ◌++◌, length, get_or, take, append_assoc, List, [], ◌∷◌, Option, Some, None, Result, Ok, Err, inl, inr, refl, sym, ap, subst, ◌∙◌}
use Rattle.std.specs.Prelude.{option_and_then, IfOk, map as map_list}
use Rattle.std.specs.FinMap as map
use Rattle.std.specs.Result.{OnOk}
use Rattle.std.proofs.lemmas.List.{append-nil, take_more, map-append}
use Rattle.mqtt_sessions.specs.declared.fault.SessionFault.{SessionFault}
use Rattle.mqtt_sessions.specs.declared.fault.SessionFault.TheVariants as faults
use Rattle.mqtt_sessions.specs.Reaction.{Reaction, nothing}
use Rattle.law_sessions.specs.Runs.{Event}
use Rattle.session_table.specs.Calls.{GoesTo, IsSpelledIf, reaction_of}
use Rattle.session_table.specs.Seats.{Seat, Seats}
use Rattle.session_table.specs.declared.call.Addressed.{Addressed}
use Rattle.law_maps.proofs.Texts.{get_inserted}
use Rattle.row_store.specs.Leading.{Rows}
use Rattle.node_work.specs.declared.fault.NodeFault.{NodeFault}
use Rattle.node_work.specs.declared.fault.NodeFault.TheVariants.{NoMemory, NumbersAtEnd, Stopped}
use Rattle.node_work.specs.declared.outcome.Output.{Output}
use Rattle.node_work.specs.Acts.{Session}
use Rattle.node_work.specs.Calling.{Calls, CallsAt}
use Rattle.node_work.specs.Held.Calling.{IsHeldCall, Reacted, connection_of, reacted, fault_of}
use Rattle.node_work.specs.Held.Sessions.{SessionStep, Called, IsOn, HappensAt, counted, outputs_on}
use Rattle.node_work.specs.View.{HeldView, WorkView}
use Rattle.row_store.specs.declared.row.Change.{Change}
use Rattle.session_table.specs.Rows.{LeadsOn}
use Rattle.node_work.specs.Lasting.{held_row, work_row}
use Rattle.node_work.specs.Working.{Did, ComesTo}
use Rattle.node_work.proofs.Telling.{Tell, TellsFrom, names_one, names_quiet, no_names, sessions_tell, still_begin, tells_none, tells_of}

-- one more packet of a reaction
pub sends_next : {A : Type 0} (f : ℕ → A → Output) (w m m' : WorkView) (xs : List A) (i : ℕ) (x : A) → i < length xs → x ≡ get_or xs i x → m ≡ record w { outputs = w.outputs ++ map_list (f w.held.at) (take i xs) }
    → m' ≡ record m { outputs = m.outputs ++ f m.held.at x ∷ [] } → m' ≡ record w { outputs = w.outputs ++ map_list (f w.held.at) (take (i + 1) xs) }
sends_next f w m m' xs i x below at is e =
    let one = f w.held.at in
    let more : map_list one (take (i + 1) xs) ≡ map_list one (take i xs) ++ one x ∷ [] = ap (map_list one) (take_more xs i x below) ∙ map-append one (take i xs) (get_or xs i x ∷ []) ∙ (λ j. map_list one (take i xs) ++ one (sym at j) ∷ []) in
    e ∙ ap (λ (v : WorkView). record v { outputs = v.outputs ++ f v.held.at x ∷ [] }) is
    ∙ ap (λ os. record w { outputs = os }) (append_assoc w.outputs (map_list one (take i xs)) (one x ∷ []) ∙ ap (λ os. w.outputs ++ os) (sym more))

-- a session begins or is over
pub both_tell : {T E : Type 0} (id : ℕ) (h h' : HeldView) (before after : List Change) (r : Result T E) (s : Seats) → OnOk r (h' ≡ record h { sessions = s }) → OnOk r (LeadsOn h.sessions before after h'.sessions) → OnOk r (TellsFrom (held_row id h) before after (held_row id h'))
both_tell id h h' before after (Ok x) s is l = sessions_tell id h h' s before after is l
both_tell id h h' before after (Err e) s is l = tt

-- a call leaves the node's moment as it was
pub spelled_after : (client : List ℕ) (e : Event) (on : Option ℕ → Option ℕ) (h h' : HeldView) (called : Result (Option Reaction) SessionFault) → IsHeldCall client e on h called h' → IfOk called (IsSpelledIf h.at) → IfOk called (IsSpelledIf h'.at)
spelled_after client e on h h' called k = subst (λ n. IfOk called (IsSpelledIf n)) (sym (ap (λ (v : HeldView). v.at) k.2))

module _ (client : List ℕ) (event : ℕ → Event) (on : Option ℕ → Option ℕ) (w w' : WorkView) (h' : HeldView) (cs : List Change) where
  call_tells : (s : Seats) → h' ≡ record w.held { sessions = s } → LeadsOn w.held.sessions w.changes cs h'.sessions → w'.changes ≡ cs → work_row w' ≡ held_row w.place.id h' → Tell w w'
  call_tells s is l changes rows =
      let t = sessions_tell w.place.id w.held h' s w.changes cs is l in
      subst (λ (r : Rows). TellsFrom (work_row w) w.changes w'.changes r) (sym rows) (subst (λ (xs : List Change). TellsFrom (work_row w) w.changes xs (held_row w.place.id h')) (sym changes) t)

  -- the client has no session
  no_call : IsHeldCall client (event w.held.at) on w.held (Ok None) h' → LeadsOn w.held.sessions w.changes cs h'.sessions → w' ≡ record w { held = h'; changes = cs } → Did w w' (Calls client event on (Some nothing))
  no_call k l e =
      let held : h' ≡ w.held = k.2 ∙ (λ i. record w.held { sessions = k.1.1 i }) in
      record {
        acts = [];
        does = subst (λ o. CallsAt client event on o (Some nothing) w.place w.held []) (sym k.1.0) (refl, refl);
        runs = ap (λ (v : WorkView). v.held) e ∙ held;
        given = ap (λ (v : WorkView). v.outputs) e ∙ sym (append-nil w.outputs);
        tells = tells_of w w' (call_tells k.0 k.2 l (ap (λ (v : WorkView). v.changes) e) (ap work_row e));
        begins = still_begin w w' (call_tells k.0 k.2 l (ap (λ (v : WorkView). v.changes) e) (ap work_row e));
        names = names_quiet w w' [] (call_tells k.0 k.2 l (ap (λ (v : WorkView). v.changes) e) (ap work_row e)) (ap (λ (v : WorkView). v.place) e) (ap (λ (v : WorkView). v.held) e ∙ held);
        place = ap (λ (v : WorkView). v.place) e;
      }

  one_call : (a : Addressed) → IsHeldCall client (event w.held.at) on w.held (Ok (Some a.reaction)) h' → GoesTo client h'.sessions (Some a) → ((before : Option ℕ) → IsOn (event w.held.at) before (on before)) → HappensAt w.held.at (event w.held.at)
      → LeadsOn w.held.sessions w.changes cs h'.sessions → w' ≡ reacted a.to a.reaction (record w { held = h'; changes = cs }) → Did w w' (Calls client event on (Some a.reaction))
  one_call a k goes is_on happens l e =
      let r = a.reaction in
      let seat = k.1.0 in
      let after = k.1.1 in
      let found = k.1.2 in
      let step : SessionStep = record { client = client; on = on seat.connection; at = w.held.at; event = event w.held.at; reaction = r; after = after } in
      let held : h' ≡ record w.held { sessions = map.insert w.held.sessions client (record { session = after; connection = on seat.connection }) } = k.2 ∙ (λ i. record w.held { sessions = k.1.4 i }) in
      let at : map.get h'.sessions client ≡ Some (record { session = after; connection = on seat.connection }) = ap (λ (h : HeldView). map.get h.sessions client) held ∙ get_inserted w.held.sessions client (record { session = after; connection = on seat.connection }) in
      let there : a.to ≡ on seat.connection = goes ∙ ap (option_and_then (λ (x : Seat). x.connection)) at in
      record {
        acts = Session (Called step) ∷ [];
        does = subst (λ o. CallsAt client event on o (Some r) w.place w.held (Session (Called step) ∷ [])) (sym found) (inr (r, after, refl, k.1.3, refl));
        runs = (
          w'.held,
          (
            record { seat = seat; found = found; on = is_on seat.connection; at = refl; moment = happens; reacts = k.1.3 },
            ap (λ (v : WorkView). v.held) e ∙ ap (λ (h : HeldView). record h { counts = counted r.full h.counts }) held,
          ),
          refl,
        );
        given = ap (λ (v : WorkView). v.outputs) e
            ∙ (λ i. w.outputs ++ outputs_on (there i) (ap (λ (h : HeldView). h.at) held i) r)
            ∙ ap (λ os. w.outputs ++ os) (sym (append-nil (outputs_on (on seat.connection) w.held.at r)));
        tells = tells_of w w' (call_tells k.0 k.2 l (ap (λ (v : WorkView). v.changes) e) (ap work_row e));
        begins = still_begin w w' (call_tells k.0 k.2 l (ap (λ (v : WorkView). v.changes) e) (ap work_row e));
        names = names_one w w' (Session (Called step)) (call_tells k.0 k.2 l (ap (λ (v : WorkView). v.changes) e) (ap work_row e)) (ap (λ (v : WorkView). v.place) e)
            (ap (λ (v : WorkView). v.held) e ∙ ap (λ (h : HeldView). record h { counts = counted r.full h.counts }) held);
        place = ap (λ (v : WorkView). v.place) e;
      }

  -- a number can't be had
  call_stops : IsHeldCall client (event w.held.at) on w.held (Err faults.NumbersAtEnd) h' → Did w w (Calls client event on None)
  call_stops k = record {
    acts = [];
    does = subst (λ o. CallsAt client event on o None w.place w.held []) (sym k.1.1) (inl (refl, k.1.2, refl));
    runs = refl;
    given = sym (append-nil w.outputs);
    tells = tells_none w w refl refl;
    begins = λ old lead begins. begins;
    names = no_names w w [] refl;
    place = refl;
  }

  call_fault : (f : SessionFault) → IsHeldCall client (event w.held.at) on w.held (Err f) h' → ComesTo (λ x. x) (Err (fault_of f)) w w' (Calls client event on)
  call_fault faults.NoMemory k = tt
  call_fault faults.NumbersAtEnd k = (w, call_stops k)
  call_fault faults.Spent k = absurd k.1
  call_fault faults.BadRow k = absurd k.1

  pub comes_call : (called : Result (Option Addressed) SessionFault) (r : Result Reaction NodeFault) → IsHeldCall client (event w.held.at) on w.held (reaction_of called) h' → OnOk called (LeadsOn w.held.sessions w.changes cs h'.sessions) → IfOk called (GoesTo client h'.sessions) → ((before : Option ℕ) → IsOn (event w.held.at) before (on before))
      → HappensAt w.held.at (event w.held.at) → Reacted (connection_of called) (reaction_of called) r (record w { held = h'; changes = cs }) w' → ComesTo (λ x. x) r w w' (Calls client event on)
  comes_call (Ok None) (Ok x) k l goes is_on happens d = subst (λ y. Did w w' (Calls client event on (Some y))) (sym d.0) (no_call k l d.1)
  comes_call (Ok (Some a)) (Ok x) k l goes is_on happens d = subst (λ y. Did w w' (Calls client event on (Some y))) (sym d.0) (one_call a k goes is_on happens l d.1)
  comes_call (Ok None) (Err NoMemory) k l goes is_on happens d = tt
  comes_call (Ok (Some a)) (Err NoMemory) k l goes is_on happens d = tt
  comes_call (Ok None) (Err NumbersAtEnd) k l goes is_on happens d = absurd (let z : NumbersAtEnd ≡ NoMemory = d in cc)
  comes_call (Ok (Some a)) (Err NumbersAtEnd) k l goes is_on happens d = absurd (let z : NumbersAtEnd ≡ NoMemory = d in cc)
  comes_call (Ok None) (Err Stopped) k l goes is_on happens d = absurd (let z : Stopped ≡ NoMemory = d in cc)
  comes_call (Ok (Some a)) (Err Stopped) k l goes is_on happens d = absurd (let z : Stopped ≡ NoMemory = d in cc)
  comes_call (Err f) r k l goes is_on happens d = subst (λ q. ComesTo (λ x. x) q w w' (Calls client event on)) (sym d.0) (call_fault f k)
