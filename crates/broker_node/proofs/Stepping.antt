-- A step of a node, from its work.
use Rattle.std.proofs.Common.{◌≡◌, ℕ, ◌<◌, ◌≤◌, ◌^◌, max, not, nat_lt, Bool, true, false, cond, List, [], ◌∷◌, ◌++◌, length, Option, Some, None, Result, Ok, Err, inl, inr, refl, sym, ap, subst, ◌∙◌, arith}
use Rattle.std.specs.Result.{IfErr, IfOk, IsErrAnd, IsOk}
use Rattle.std.proofs.lemmas.Bool.Decides.{nat_tests}
use Rattle.home_table.specs.Table.{IsTable, Table}
use Rattle.node_work.specs.declared.fault.NodeFault.{NodeFault}
use Rattle.node_work.specs.declared.fault.NodeFault.TheVariants.{NoMemory, NumbersAtEnd, Stopped}
use Rattle.node_work.specs.declared.outcome.Outcome.{Outcome}
use Rattle.node_work.specs.declared.outcome.Output.{Output}
use Rattle.node_work.specs.Acts.{Act, MomentTaken, Runs, gather, heard_in, merge_in, moved_in, output_in}
use Rattle.node_work.specs.View.{Place, HeldView, WorkView, NodeView, nodes_of, place_of, up_of}
use Rattle.node_work.specs.Lasting.{AreAltered, CanLast, held_row}
use Rattle.node_work.specs.Working.{Did, ComesTo, Doing}
use Rattle.row_store.specs.Gathered.{AreOnce, Settle}
use Rattle.row_store.specs.Leading.{Lead, Begin, Differ}
use Rattle.row_store.proofs.Leaving.{settled_lead, settled_named}
use Rattle.row_store.specs.declared.row.Change.{Change}
use Rattle.session_table.specs.Rows.{own_kind}
use Rattle.broker_node.specs.declared.event.Event.{Event}
use Rattle.broker_node.specs.Idle.{IsIdle, Keeps, Rests, RestsWhereIdle}
use Rattle.broker_node.specs.Step.{MayBringTables, IsDone, IsAtEnd, IsHeard, HasCause, HasCauseAt, Settles, step_start, brought, may_move}
use Rattle.broker_node.specs.Turns.{Decides}
use Rattle.broker_node.proofs.Altering.{alter_cases}
use Rattle.broker_node.proofs.Determined.{decides_determined}
use Rattle.broker_node.proofs.Handing.{turn_brings}
use Rattle.broker_node.proofs.Tables.{nodes_stay, table_stays}

is_below : (n : ℕ) → not (nat_lt n (2 ^ 62)) ≡ false → n < 2 ^ 62
is_below n h = grind (arith, nat_tests)

-- the moment that was taken
taken_by : (b : Bool) (at : ℕ) (x : Option (Unit {0})) (acts : List Act) → x ≡ Some tt → cond b ((x ≡ None) × (acts ≡ [])) ((x ≡ Some tt) × (acts ≡ MomentTaken at ∷ [])) → (b ≡ false) × (acts ≡ MomentTaken at ∷ [])
taken_by true at x acts is d = absurd (let z : Some tt ≡ None = sym is ∙ d.0 in cc)
taken_by false at x acts is d = (refl, d.1)

-- what follows from what an event comes to
record Follows (e : Event) (p : Place) (h : HeldView) (acts : List Act) : Type 0 where
  moment : e.at < 2 ^ 62
  merged : gather merge_in acts ≡ cond h.started (brought p e.kind) []
  heard : cond h.started (IsHeard p e.kind (gather heard_in acts)) (gather heard_in acts ≡ [])
  moved : cond h.started (MayBringTables e.kind (gather moved_in acts)) (gather moved_in acts ≡ [])

follows : (e : Event) (p : Place) (h : HeldView) (acts : List Act) → Decides e (Some tt) p h acts → Follows e p h acts
follows e p h acts (inl d) = absurd (let z : Some tt ≡ None = d.0 in cc)
follows e p h acts (inr d) =
    let t = taken_by (not (nat_lt e.at (2 ^ 62))) e.at (Some d.0) d.1 refl d.4 in
    let r = subst (λ xs. Runs p h xs d.2) t.1 d.5 in
    let mid : d.2 ≡ record h { at = max h.at e.at } = r.2 ∙ r.1.1 in
    let started : d.2.started ≡ h.started = ap (λ (v : HeldView). v.started) mid in
    let whole : acts ≡ MomentTaken e.at ∷ d.3 = d.7 ∙ ap (λ xs. xs ++ d.3) t.1 in
    let turn = turn_brings d.2.started e.kind p d.2 d.3 d.6 in
    record {
      moment = is_below e.at t.0;
      merged = ap (gather merge_in) whole ∙ turn.merged ∙ ap (λ b. cond b (brought p e.kind) []) started;
      heard = subst (λ b. cond b (IsHeard p e.kind (gather heard_in acts)) (gather heard_in acts ≡ [])) started
          (subst (λ bs. cond d.2.started (IsHeard p e.kind bs) (bs ≡ [])) (sym (ap (gather heard_in) whole)) turn.heard);
      moved = subst (λ b. cond b (MayBringTables e.kind (gather moved_in acts)) (gather moved_in acts ≡ [])) started
          (subst (λ ts. cond d.2.started (MayBringTables e.kind ts) (ts ≡ [])) (sym (ap (gather moved_in) whole)) turn.moved);
    }

-- ---- what the work comes to
abbrev failed : NodeFault → Result (Unit {0}) NodeFault
failed f = Err f

begun_idle : (w start : WorkView) (e : Event) → start ≡ step_start w → IsIdle w.place w.held e → IsIdle start.place start.held e
begun_idle w start e is i = subst (λ (v : WorkView). IsIdle v.place v.held e) (sym is) i

pub settles : (e : Event) (r : Result Outcome NodeFault) (w start last w' : WorkView) → start ≡ step_start w → Did start last (Decides e (Some tt)) → IfOk r (λ o. o.outputs.items ≡ last.outputs) → IfOk r (λ o. AreOnce o.changes.items)
    → IfOk r (λ o. Settle own_kind o.changes.items last.changes) → CanLast last.held → w' ≡ step_start last → IfOk r (λ o. Settles w e o w')
settles e (Ok o) w start last w' is d given once settled lasts rest = record { last = last; did = subst (λ (v : WorkView). Did v last (Decides e (Some tt))) is d; given = given; once = once; settled = settled; lasts = lasts; rest = rest }
settles e (Err f) w start last w' is d given once settled lasts rest = tt

pub settled_idle : (e : Event) (r : Result Outcome NodeFault) (w start last : WorkView) → start ≡ step_start w → (e.at < 2 ^ 62 → IsIdle start.place start.held e → Keeps (Ok tt) start last) → IfOk r (λ o. o.outputs.items ≡ last.outputs)
    → (last.changes ≡ [] → IfOk r (λ o. o.changes.items ≡ []) × IsOk r) → e.at < 2 ^ 62 → IsIdle w.place w.held e → Rests r
settled_idle e r w start last is idle given none below i =
    let k = idle below (begun_idle w start e is i) in
    let told = none (k.2 ∙ ap (λ (v : WorkView). v.changes) is) in
    by r given told.0 told.1 (k.1 ∙ ap (λ (v : WorkView). v.outputs) is)
  where
    by : (q : Result Outcome NodeFault) → IfOk q (λ o. o.outputs.items ≡ last.outputs) → IfOk q (λ o. o.changes.items ≡ []) → IsOk q → last.outputs ≡ [] → Rests q
    by (Ok o) g c y out = (o, refl, g ∙ out, c)
    by (Err f) g c y out = absurd (let z : false ≡ true = y in cc)

pub failed_idle : (e : Event) (r : Result Outcome NodeFault) (f : NodeFault) (w start last : WorkView) → start ≡ step_start w → (e.at < 2 ^ 62 → IsIdle start.place start.held e → Keeps (Err f) start last) → e.at < 2 ^ 62 → IsIdle w.place w.held e → Rests r
failed_idle e r f w start last is idle below i = absurd (let z : failed f ≡ Ok tt = (idle below (begun_idle w start e is i)).0 in cc)

wanting_comes : (r : Result Outcome NodeFault) (w w' : WorkView) (P : Option (Unit {0}) → Doing) → IfErr r (λ f. f ≡ NoMemory) → IfErr r (λ f. ComesTo {T = Unit {0}} (λ x. x) (Err f) w w' P)
wanting_comes (Ok o) w w' P e = tt
wanting_comes (Err NoMemory) w w' P e = tt
wanting_comes (Err NumbersAtEnd) w w' P e = absurd (let z : NumbersAtEnd ≡ NoMemory = e in cc)
wanting_comes (Err Stopped) w w' P e = absurd (let z : Stopped ≡ NoMemory = e in cc)

pub settled_wanting : (r : Result Outcome NodeFault) (w w' : WorkView) (P : Option (Unit {0}) → Doing) → IfErr r (λ f. f ≡ NoMemory) → IfErr r (λ f. ComesTo {T = Unit {0}} (λ x. x) (Err f) w w' P)
settled_wanting = wanting_comes

comes_elsewhere : (f : NodeFault) (w a b : WorkView) (P : Option (Unit {0}) → Doing) → ComesTo {T = Unit {0}} (λ x. x) (Err f) w a P → ComesTo {T = Unit {0}} (λ x. x) (Err f) w b P
comes_elsewhere NoMemory w a b P d = tt
comes_elsewhere NumbersAtEnd w a b P d = d
comes_elsewhere Stopped w a b P d = d

pub failed_comes : (r : Result Outcome NodeFault) (f : NodeFault) (w start a b : WorkView) (P : Option (Unit {0}) → Doing) → IsErrAnd r (λ e. e ≡ f) → start ≡ step_start w → ComesTo {T = Unit {0}} (λ x. x) (Err f) start a P
    → IfErr r (λ g. ComesTo {T = Unit {0}} (λ x. x) (Err g) (step_start w) b P)
failed_comes (Ok o) f w start a b P is at d = tt
failed_comes (Err g) f w start a b P is at d = subst (λ h. ComesTo {T = Unit {0}} (λ x. x) (Err h) (step_start w) b P) (sym is) (comes_elsewhere f (step_start w) a b P (subst (λ (v : WorkView). ComesTo {T = Unit {0}} (λ x. x) (Err f) v a P) at d))

-- ---- a step
module _ (n : NodeView) (place : Place) (homes : Table) (w : WorkView) (stopped : Bool) (e : Event) (view : record { place = place; homes = homes; up = up_of stopped w.held } ≡ n) (kept : stopped ≡ false → (w.place ≡ place) × (w.held.homes ≡ homes)) (runs : stopped ≡ false) where
  up : n.up ≡ Some w.held
  up = sym (ap (λ (m : NodeView). m.up) view) ∙ ap (λ b. up_of b w.held) runs

  places : n.place ≡ w.place
  places = sym (ap (λ (m : NodeView). m.place) view) ∙ sym (kept runs).0

  -- what is said of the work is said of the node
  here : (P : Place → HeldView → Type 0) → P w.place w.held → P n.place w.held
  here P d = subst (λ (p : Place). P p w.held) (sym places) d

  pub done : (o : Outcome) (w' : WorkView) (after : Table) → Settles w e o w' → after ≡ w'.held.homes → IsDone n e o.outputs.items o.changes.items (record { place = place; homes = after; up = up_of stopped w'.held })
  done o w' table s held =
      let d = s.did in
      let last = s.last in
      let does = here (λ p h. Decides e (Some tt) p h d.acts) d.does in
      let after = follows e n.place w.held d.acts does in
      let t = d.tells in
      let told : Lead (held_row w.place.id w.held) (held_row last.place.id last.held) last.changes = subst (λ (xs : List Change). Lead (held_row w.place.id w.held) (held_row last.place.id last.held) xs) (sym t.1) t.2 in
      let lead : Lead (held_row n.place.id w.held) (held_row n.place.id last.held) last.changes =
      here (λ p h. Lead (held_row p.id h) (held_row p.id last.held) last.changes) (subst (λ (p : Place). Lead (held_row w.place.id w.held) (held_row p.id last.held) last.changes) d.place told) in
      let begun_told : Begin own_kind (held_row w.place.id w.held) last.changes = d.begins (held_row w.place.id w.held) (λ key. refl) (λ key own. tt) in
      let begins : Begin own_kind (held_row n.place.id w.held) last.changes = here (λ p h. Begin own_kind (held_row p.id h) last.changes) begun_told in
      let altered : AreAltered w.place.id w.held d.acts o.changes.items = λ key kind named. elim (alter_cases w.place.id d.acts w.held key) [ inl a ↦ a | inr still ↦ absurd (d.names key kind still (settled_named own_kind o.changes.items last.changes s.settled key named) refl) ] in
      let final = settled_lead own_kind (held_row n.place.id w.held) (held_row n.place.id last.held) o.changes.items last.changes s.settled begins lead in
      record {
        before = w.held;
        after = last.held;
        acts = d.acts;
        was = up;
        is = ap (λ b. up_of b w'.held) runs ∙ ap (λ (v : WorkView). Some v.held) s.rest;
        homes = held ∙ ap (λ (v : WorkView). v.held.homes) s.rest;
        steps = record {
          does = does;
          runs = here (λ p h. Runs p h d.acts last.held) d.runs;
          given = s.given ∙ d.given;
          moment = after.moment;
          merged = after.merged;
          heard = after.heard;
          moved = after.moved;
        };
        once = s.once;
        lasts = s.lasts;
        leads = final.0;
        differ = final.1;
        altered = here (λ p h. AreAltered p.id h d.acts o.changes.items) altered;
      }

  -- where the event can bring no table, the one stays that there was
  pub same_table : (o : Outcome) (w' : WorkView) → Settles w e o w' → may_move w.held.started e.kind ≡ false → homes ≡ w'.held.homes
  same_table o w' s none =
      let d = s.did in
      let does = here (λ p h. Decides e (Some tt) p h d.acts) d.does in
      let after = follows e n.place w.held d.acts does in
      sym (kept runs).1 ∙ sym (table_stays n.place w.held s.last.held e.kind d.acts none after.moved (here (λ p h. Runs p h d.acts s.last.held) d.runs)) ∙ sym (ap (λ (v : WorkView). v.held.homes) s.rest)

  pub place_stays : (o : Outcome) (w' : WorkView) → Settles w e o w' → w'.place ≡ place
  place_stays o w' s = ap (λ (v : WorkView). v.place) s.rest ∙ s.did.place ∙ (kept runs).0

  -- the table after it is for as many nodes
  pub for_as_many : (o : Outcome) (w' : WorkView) (id : ℕ) (after : Table) → Settles w e o w' → place ≡ place_of id homes → after ≡ w'.held.homes → place_of id after ≡ place
  for_as_many o w' id after s is same =
      let d = s.did in
      let of : nodes_of w.place ≡ length homes.nodes = ap (λ (p : Place). p.nodes) ((kept runs).0 ∙ is) in
      let first : length w.held.homes.nodes ≡ nodes_of w.place = ap (λ (t : Table). length t.nodes) (kept runs).1 ∙ sym of in
      let last : length s.last.held.homes.nodes ≡ nodes_of w.place = nodes_stay w.place d.acts w.held s.last.held d.runs first in
      let count : length after.nodes ≡ length homes.nodes = ap (λ (t : Table). length t.nodes) (same ∙ ap (λ (v : WorkView). v.held.homes) s.rest) ∙ last ∙ of in
      let there : place_of id after ≡ place_of id homes = λ i. record { id = id; nodes = count i } in
      there ∙ sym is

  pub not_at_end : IsTable w.held.homes → (o : Outcome) (w' : WorkView) → Settles w e o w' → IsAtEnd n e → ⊥
  not_at_end table o w' s a =
      let d = s.did in
      let same : Some a.0 ≡ Some w.held = sym a.1 ∙ up in
      let held : a.0 ≡ w.held = cc in
      let z : None ≡ Some tt = (decides_determined e None (Some tt) n.place w.held a.2.0 d.acts table (subst (λ h. Decides e None n.place h a.2.0) held a.2.1) (here (λ p h. Decides e (Some tt) p h d.acts) d.does)).0 in
      cc

  abbrev faulted : NodeFault → Result Outcome NodeFault
  faulted f = Err f

  cause_of : (f : NodeFault) (w' : WorkView) → (e.at < 2 ^ 62 → IsIdle w.place w.held e → Rests (Err f)) → (2 ^ 62 ≤ e.at → faulted f ≡ faulted NumbersAtEnd)
      → ComesTo {T = Unit {0}} (λ x. x) (Err f) (step_start w) w' (Decides e) → HasCause n.place w.held e f
  cause_of NoMemory w' idle end k = (below, busy)
    where
      below : e.at < 2 ^ 62
      below = by_end (nat_lt e.at (2 ^ 62)) refl
        where
          by_end : (b : Bool) → nat_lt e.at (2 ^ 62) ≡ b → e.at < 2 ^ 62
          by_end true t = grind (arith, nat_tests)
          by_end false t = absurd (let q : 2 ^ 62 ≤ e.at = grind (arith, nat_tests) in let z : faulted NoMemory ≡ faulted NumbersAtEnd = end q in cc)

      busy : ¬ IsIdle n.place w.held e
      busy t = let r = here (λ p h. IsIdle p h e → Rests (Err NoMemory)) (λ q. idle below q) t in let z : faulted NoMemory ≡ Ok r.0 = r.1 in cc
  cause_of NumbersAtEnd w' idle end k = (k.1.acts, here (λ p h. Decides e None p h k.1.acts) k.1.does)
  cause_of Stopped w' idle end k = k

  pub cause : (f : NodeFault) (w' : WorkView) → (e.at < 2 ^ 62 → IsIdle w.place w.held e → Rests (Err f)) → (2 ^ 62 ≤ e.at → faulted f ≡ faulted NumbersAtEnd)
      → ComesTo {T = Unit {0}} (λ x. x) (Err f) (step_start w) w' (Decides e) → HasCauseAt n.up n.place e f
  cause f w' idle end k = subst (λ u. HasCauseAt u n.place e f) (sym up) (cause_of f w' idle end k)

  -- an event that brings nothing to do
  pub rests : (r : Result Outcome NodeFault) → (e.at < 2 ^ 62 → IsIdle w.place w.held e → Rests r) → RestsWhereIdle n e r
  rests r idle h is below rest =
      let same : Some h ≡ Some w.held = sym is ∙ up in
      let held : h ≡ w.held = cc in
      here (λ p v. IsIdle p v e → Rests r) (λ q. idle below q) (subst (λ v. IsIdle n.place v e) held rest)
