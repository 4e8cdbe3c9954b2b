-- A step leads from a world that is explained to one that is.
use Rattle.std.proofs.Common.{◌≡◌, ◌≢◌, ℕ, ◌≤◌, ◌^◌, Bool, true, false, cond, ◌&&◌, ◌||◌, nat_eq, List, [], ◌∷◌, ◌++◌, Some, refl, sym, ap, ◌∙◌, inl, inr, subst, length, eq-eqb, append_assoc}
use Rattle.std.proofs.lemmas.List.{append-nil}
use Rattle.std.specs.List.{slice_get}
use Rattle.std.specs.FinSet as set
use Rattle.causal_context.specs.Dots.{Dot}
use Rattle.replica_store.specs.declared.operation.Operation.{Operation}
use Rattle.replica_store.specs.Operations.{HaveOwnDots}
use Rattle.replica_store.specs.States.{State}
use Rattle.replica_store.proofs.Unions.{among_cases}
use Rattle.broker_node.specs.declared.event.Event.{Event}
use Rattle.home_table.specs.Table.{Table}
use Rattle.node_keeper.specs.Keeping.{AreOf}
use Rattle.node_rows.specs.Reading.{IsLasting, RowsTellAll}
use Rattle.node_bridge.specs.View.{BridgeView}
use Rattle.node_work.specs.declared.frame.Frame.{Frame}
use Rattle.node_work.specs.Acts.{Act, Bridge, Runs, gather, op_in, merge_in}
use Rattle.node_work.specs.Held.Bridge.{Gave}
use Rattle.node_work.specs.Lasting.{lasting}
use Rattle.node_work.specs.View.{Place, HeldView, fresh}
use Rattle.law_nodes.specs.Moves.{Move, Moves, Reopened, did}
use Rattle.law_nodes.proofs.MoveLaws.{moves_join, acts_are_moves}
use Rattle.cluster_play.specs.declared.step.Step.{Step}
use Rattle.cluster_play.specs.Worlds.{Site, World, Fate, Released, Lost, Cut, Faulted, Was_down, Restarted, Happens, frames_in}
use Rattle.cluster_play.specs.Runs.{IsKnown, IsHonestStep}
use Rattle.cluster_play.specs.Histories.{site, acts_of, ops_of, gained, gains, taken, moves_of, own_moves}
use Rattle.cluster_play.proofs.Bools.{or_false, or_left, or_right, or_true, and_false, nat_other, some_is}
use Rattle.cluster_play.proofs.Bridging.{IsKept, kept_more, woken_kept}
use Rattle.cluster_play.proofs.Giving.{given_out}
use Rattle.cluster_play.proofs.Sites.{each_changed, get_within}
use Rattle.cluster_play.proofs.Paths.{known_event, step_sites}
use Rattle.cluster_play.proofs.Rows.{Committed, Rests, Stays, Woke, came}
use Rattle.cluster_play.proofs.Sound.{Sound, Grown}
use Rattle.cluster_play.proofs.Growing.{AllSound, Grows, Holding, acts_grow}
use Rattle.cluster_play.proofs.Parts.{AreParts, parts_stay}
use Rattle.cluster_play.proofs.Plain.{AllPlain}
use Rattle.cluster_play.proofs.Lasts.{may_be_same, reopened}
use Rattle.cluster_play.proofs.Splits.{all_front, all_weaker, gained_both, gather_both, runs_split}
use Rattle.cluster_play.proofs.Telling.{WasGiven, given_more, told}
use Rattle.cluster_play.proofs.Explaining.{Past, past_and, led_by, lasts_here, Seated, Explains}
use Rattle.cluster_play.proofs.Brought.{all_merged, Acted, site_amid}

-- ---- another node than the one of the fate
-- an operation of node i leaves what another node has of its own
holding_other : (i j : ℕ) (ms : List Operation) (g h h' : HeldView) (acts : List Act) → i ≢ j → Grows i ms h acts h' → Holding j ms g → Holding j (ms ++ gather op_in acts) g
holding_other i j ms g h h' acts ne k x = record {
  grown = record {
    own_dots = k.holding.grown.own_dots;
    sound = k.stays g.store x.grown.sound;
    own = λ o a e. elim (among_cases o ms (gather op_in acts) a) [
      | inl b ↦ x.grown.own o b e
      | inr b ↦ absurd (ne (sym (k.own o b) ∙ e))
    ];
  };
  deltas = parts_stay ms (ms ++ gather op_in acts) g.store g.store g.bridge.deltas k.stays (λ d e. e) x.deltas;
}

-- what was taken stays so
took_more : (p : Past) (fate : Fate) (i : ℕ) (d : Dot) → p.took i d ≡ true → (p.took i d || gains i fate d) ≡ true
took_more p fate i d h = or_left (p.took i d) (gains i fate d) h

-- a fate that does nothing to node i, which goes on or stops
seat_stays : (p : Past) (count i : ℕ) (fate : Fate) (s s' : Site) (x : Seated p count i s) → Stays s s' → Holding i (p.ops ++ ops_of fate) x.held → own_moves i fate ≡ [] → ((d : Dot) → gains i fate d ≡ false)
    → Seated (past_and p fate) count i s'
seat_stays p count i fate s s' x stays holding none idle = record {
  id = ap (λ (q : Place). q.id) stays.place ∙ x.id;
  nodes = ap (λ (q : Place). q.nodes) stays.place ∙ x.nodes;
  held = x.held;
  homes = stays.homes ∙ x.homes;
  first = x.first;
  was = x.was;
  moves = led_by s.node.place s'.node.place x.first (p.moves i ++ own_moves i fate) x.held stays.place
      (subst (λ ms. Moves s.node.place (fresh x.first) ms x.held) (sym (ap (λ ms. p.moves i ++ ms) none ∙ append-nil (p.moves i))) x.moves);
  rows = subst (λ (q : Place). AreOf q s'.rows x.held) (sym stays.place) (subst (λ rows. AreOf s.node.place rows x.held) (sym (may_be_same s.node.place s.rows s'.rows x.held x.rows stays.rows)) x.rows);
  lasts = x.lasts;
  up = λ h u. x.up h (stays.up h u);
  holding = holding;
  kept = kept_more count p.took (λ j d. p.took j d || gains j fate d) x.held.bridge (took_more p fate) x.kept;
  listed = λ d. x.listed d ∙ sym (or_false (p.took i d)) ∙ ap (λ b. p.took i d || b) (sym (idle d));
}

same_seat : (s : Site) → Stays s s
same_seat s = record { place = refl; homes = refl; rows = inl refl; up = λ h u. u }

none_other : (i j : ℕ) (ms : List Move) → i ≢ j → cond (nat_eq i j) ms [] ≡ []
none_other i j ms ne = ap (λ b. cond b ms []) (nat_other i j ne)

idle_other : (i j : ℕ) (acts : List Act) (d : Dot) → i ≢ j → (nat_eq i j && gained acts d) ≡ false
idle_other i j acts d ne = ap (λ b. b && gained acts d) (nat_other i j ne)

if_none : (b : Bool) → ◌≡◌ {A = List Move} (cond b [] []) []
if_none true = refl
if_none false = refl

-- ---- a node commits acts
module _ (p : Past) (w : World) (x : Explains p w) (i : ℕ) (e : Event) (acts : List Act) (w' : World) (c : Committed w i e acts w') (fate : Fate) (own : site fate ≡ i) (does : acts_of fate ≡ acts) (moves : moves_of fate ≡ did acts) where
  here : Seated p (length w.sites) i c.was
  here = x.sites i c.was c.at

  held_before : here.held ≡ c.before
  held_before = sym (here.up c.before c.up)

  seat_committed : Acted p (length w.sites) i c.before acts c.after → Seated (past_and p fate) (length w.sites) i c.later
  seat_committed g =
      let mine : own_moves i fate ≡ did acts = ap (λ b. cond b (moves_of fate) []) (eq-eqb (site fate) i own) ∙ moves in
      let place = c.was.node.place in
      let first = fresh here.first in
      let all : Moves place first (p.moves i ++ did acts) c.after =
      moves_join place (p.moves i) (did acts) first c.before c.after (subst (Moves place first (p.moves i)) held_before here.moves) (acts_are_moves place c.before c.after acts c.steps.runs) in
      record {
        id = ap (λ (q : Place). q.id) c.place ∙ here.id;
        nodes = ap (λ (q : Place). q.nodes) c.place ∙ here.nodes;
        held = c.after;
        homes = c.homes;
        first = here.first;
        was = here.was;
        moves = led_by place c.later.node.place here.first (p.moves i ++ own_moves i fate) c.after c.place (subst (λ ms. Moves place first (p.moves i ++ ms) c.after) (sym mine) all);
        rows = subst (λ (q : Place). AreOf q c.later.rows c.after) (sym c.place) (c.rows (subst (AreOf place c.was.rows) held_before here.rows));
        lasts = c.lasts;
        up = c.is;
        holding = subst (λ xs. Holding i (p.ops ++ gather op_in xs) c.after) (sym does) g.grows.holding;
        kept = kept_more (length w.sites) p.took (λ j d. p.took j d || gains j fate d) c.after.bridge (took_more p fate) g.kept;
        listed = λ d.
            g.grows.takes d ∙ ap (λ (v : HeldView). set.contains v.store.taken d || gained acts d) (sym held_before) ∙ ap (λ b. b || gained acts d) (here.listed d)
            ∙ ap (λ xs. p.took i d || gained xs d) (sym does) ∙ ap (λ b. p.took i d || (b && gained (acts_of fate) d)) (sym (eq-eqb (site fate) i own));
      }

  seat_other : Grows i p.ops c.before acts c.after → (j : ℕ) (s : Site) → i ≢ j → slice_get w.sites j ≡ Some s → Seated (past_and p fate) (length w.sites) j s
  seat_other g j s ne a =
      let y = x.sites j s a in
      let apart : site fate ≢ j = λ q. ne (sym own ∙ q) in
      seat_stays p (length w.sites) j fate s s y (same_seat s)
      (subst (λ xs. Holding j (p.ops ++ gather op_in xs) y.held) (sym does) (holding_other i j p.ops y.held c.before c.after acts ne g y.holding))
      (none_other (site fate) j (moves_of fate) apart) (λ d. idle_other (site fate) j (acts_of fate) d apart)

  -- what was made so far was made
  stays_made : IsKnown w.frames e.kind → (before rest : List Act) (mid : HeldView) → acts ≡ before ++ rest → Runs c.was.node.place c.before before mid → Runs c.was.node.place mid rest c.after
      → (t : State) → Sound (p.ops ++ gather op_in before) t → Sound (p.ops ++ gather op_in acts) t
  stays_made known before rest mid is first last t s =
      let g = site_amid p w x i e acts w' c known before rest mid is first in
      let place = c.was.node.place in
      let all = all_merged p w x place c.before c.after e acts c.outputs known c.steps in
      let parts = all_front (Sound p.ops) (gather merge_in before) (gather merge_in rest) (subst (AllSound p.ops) (ap (gather merge_in) is ∙ gather_both merge_in before rest) all) in
      let holding : Holding place.id (p.ops ++ gather op_in before) mid = subst (λ j. Holding j (p.ops ++ gather op_in before) mid) (sym here.id) g.grows.holding in
      let k = acts_grow place rest (p.ops ++ gather op_in before) mid c.after holding last (all_weaker (Sound p.ops) (Sound (p.ops ++ gather op_in before)) (gather merge_in rest) g.grows.stays parts.1) in
      subst (λ os. Sound os t) (append_assoc p.ops (gather op_in before) (gather op_in rest) ∙ ap (λ os. p.ops ++ os) (sym (ap (gather op_in) is ∙ gather_both op_in before rest))) (k.stays t s)

  -- a frame that went out
  given_now : IsKnown w.frames e.kind → (k : ℕ) (sent : Frame) → slice_get (frames_in c.outputs) k ≡ Some sent → WasGiven (length w.sites) (p.ops ++ gather op_in acts) (λ j d. p.took j d || gains j fate d) sent
  given_now known k sent at =
      let o = given_out c.was.node.place acts c.before c.after c.steps.runs k sent (subst (λ os. slice_get (frames_in os) k ≡ Some sent) c.steps.given at) in
      let rest = Bridge (Gave o.frame) ∷ o.after in
      let parts = runs_split c.was.node.place o.before rest c.before c.after (subst (λ xs. Runs c.was.node.place c.before xs c.after) o.acts_are c.steps.runs) in
      let mid = parts.0 in
      let g = site_amid p w x i e acts w' c known o.before rest mid o.acts_are parts.1 in
      let so_far : (d : Dot) → set.contains mid.store.taken d ≡ (p.took i d || gained o.before d) =
      λ d. g.grows.takes d ∙ ap (λ (v : HeldView). set.contains v.store.taken d || gained o.before d) (sym held_before) ∙ ap (λ b. b || gained o.before d) (here.listed d) in
      let all_gained : (d : Dot) → gains i fate d ≡ (gained o.before d || gained rest d) =
      λ d. ap (λ b. b && gained (acts_of fate) d) (eq-eqb (site fate) i own) ∙ ap (λ xs. gained xs d) (does ∙ o.acts_are) ∙ gained_both o.before rest d in
      record {
        frame = o.frame;
        is = o.is;
        told = told (length w.sites) i (p.ops ++ gather op_in o.before) p.took mid g.grows.holding g.kept (p.ops ++ gather op_in acts) (λ j d. p.took j d || gains j fate d) c.was.node.place o.frame here.id
            (get_within w.sites i c.was c.at) (stays_made known o.before rest mid o.acts_are parts.1 parts.2)
            (λ d h. elim (or_true (p.took i d) (gained o.before d) (sym (so_far d) ∙ h)) [
              | inl a ↦ or_left (p.took i d) (gains i fate d) a
              | inr b ↦ or_right (p.took i d) (gains i fate d) (all_gained d ∙ or_left (gained o.before d) (gained rest d) b)
            ]) parts.2.1.0;
      }

  pub explains_committed : length w'.sites ≡ length w.sites → IsKnown w.frames e.kind → Explains (past_and p fate) w'
  explains_committed count known =
      let g = site_amid p w x i e acts w' c known acts [] c.after (sym (append-nil acts)) c.steps.runs in
      let ops : p.ops ++ gather op_in acts ≡ p.ops ++ ops_of fate = ap (λ xs. p.ops ++ gather op_in xs) (sym does) in
      record {
        few = subst (λ n. n ≤ 2 ^ 16) (sym count) x.few;
        own_dots = subst HaveOwnDots ops g.grows.holding.grown.own_dots;
        plain = subst (λ n. AllPlain n (p.ops ++ ops_of fate)) (sym count) (subst (AllPlain (length w.sites)) ops g.plain);
        sites = λ j s a. subst (λ n. Seated (past_and p fate) n j s) (sym count)
            (each_changed (Seated (past_and p fate) (length w.sites)) w.sites i c.was c.later c.at (seat_committed g) (seat_other g.grows) j s (subst (λ ss. slice_get ss j ≡ Some s) c.sites a));
        frames = λ n sent a. subst (λ k. WasGiven k (p.ops ++ ops_of fate) (λ j d. p.took j d || gains j fate d) sent) (sym count) (subst (λ os. WasGiven (length w.sites) os (λ j d. p.took j d || gains j fate d) sent) ops (elim (c.frames n sent a) [
          | inl old ↦ given_more (length w.sites) p.ops (p.ops ++ gather op_in acts) p.took (λ j d. p.took j d || gains j fate d) sent g.grows.stays (took_more p fate) (x.frames n sent old)
          | inr new ↦ given_now known new.0 sent new.1
        ]));
      }

-- ---- a step that commits nothing
module _ (p : Past) (w w' : World) (x : Explains p w) (fate : Fate) (idle : acts_of fate ≡ []) (count : length w'.sites ≡ length w.sites) where
  no_ops : p.ops ≡ p.ops ++ ops_of fate
  no_ops = sym (ap (λ xs. p.ops ++ gather op_in xs) idle ∙ append-nil p.ops)

  no_gain : (i : ℕ) (d : Dot) → gains i fate d ≡ false
  no_gain i d = ap (λ xs. nat_eq (site fate) i && gained xs d) idle ∙ and_false (nat_eq (site fate) i)

  explains_with : ((i : ℕ) (s : Site) → slice_get w'.sites i ≡ Some s → Seated (past_and p fate) (length w.sites) i s) → w'.frames ≡ w.frames → Explains (past_and p fate) w'
  explains_with sites frames = record {
    few = subst (λ n. n ≤ 2 ^ 16) (sym count) x.few;
    own_dots = subst HaveOwnDots no_ops x.own_dots;
    plain = subst (λ n. AllPlain n (p.ops ++ ops_of fate)) (sym count) (subst (AllPlain (length w.sites)) no_ops x.plain);
    sites = λ i s a. subst (λ n. Seated (past_and p fate) n i s) (sym count) (sites i s a);
    frames = λ n sent a. subst (λ k. WasGiven k (p.ops ++ ops_of fate) (λ j d. p.took j d || gains j fate d) sent) (sym count)
        (given_more (length w.sites) p.ops (p.ops ++ ops_of fate) p.took (λ j d. p.took j d || gains j fate d) sent (λ t s. subst (λ os. Sound os t) no_ops s) (took_more p fate) (x.frames n sent (subst (λ fs. slice_get fs n ≡ Some sent) frames a)));
  }

  pub explains_idle : moves_of fate ≡ [] → Rests w w' → Explains (past_and p fate) w'
  explains_idle none r = explains_with (λ i s a. (let k = r.sites i s a in
      let y = x.sites i k.0 k.1 in
      seat_stays p (length w.sites) i fate k.0 s y k.2 (subst (λ os. Holding i os y.held) no_ops y.holding) (ap (λ ms. cond (nat_eq (site fate) i) ms []) none ∙ if_none (nat_eq (site fate) i)) (no_gain i))) r.frames

  -- a node is opened again
  seat_woke : RowsTellAll → (i : ℕ) (homes : Table) (c : Woke w i homes w') → site fate ≡ i → moves_of fate ≡ Reopened homes ∷ [] → Seated (past_and p fate) (length w.sites) i c.later
  seat_woke tell i homes c own moves =
      let y = x.sites i c.was c.at in
      let o = c.reopens.node in
      let place = c.was.node.place in
      let first = fresh y.first in
      let can : IsLasting place.id place.nodes (lasting y.held) = lasts_here p w x i c.was c.at y in
      let again = reopened tell place homes c.was.rows c.later.rows y.held o.held o.lasting can y.rows c.reopens.rows o.are o.woken in
      let at : c.later.node.place ≡ place = ap (λ n. n.place) o.is in
      let mine : own_moves i fate ≡ Reopened homes ∷ [] = ap (λ b. cond b (moves_of fate) []) (eq-eqb (site fate) i own) ∙ moves in
      let all : Moves place first (p.moves i ++ Reopened homes ∷ []) o.held = moves_join place (p.moves i) (Reopened homes ∷ []) first y.held o.held y.moves (o.held, again.woken, refl) in
      record {
        id = ap (λ (q : Place). q.id) at ∙ y.id;
        nodes = ap (λ (q : Place). q.nodes) at ∙ y.nodes;
        held = o.held;
        homes = ap (λ n. n.homes) o.is ∙ sym (ap (λ (v : HeldView). v.homes) o.woken.2);
        first = y.first;
        was = y.was;
        moves = led_by place c.later.node.place y.first (p.moves i ++ own_moves i fate) o.held at (subst (λ ms. Moves place first (p.moves i ++ ms) o.held) (sym mine) all);
        rows = subst (λ (q : Place). AreOf q c.later.rows o.held) (sym at) again.are;
        lasts = again.lasts;
        up = λ h u. some_is (sym u ∙ ap (λ n. n.up) o.is);
        holding = record {
          grown = subst (Grown i (p.ops ++ ops_of fate)) (sym again.store) (subst (λ os. Grown i os y.held.store) no_ops y.holding.grown);
          deltas = subst (λ (b : BridgeView). AreParts (p.ops ++ ops_of fate) o.held.store b.deltas) (sym again.bridge) tt;
        };
        kept = subst (IsKept (length w.sites) (λ j d. p.took j d || gains j fate d)) (sym again.bridge) (woken_kept (length w.sites) (λ j d. p.took j d || gains j fate d) y.held.bridge.lanes y.kept.lanes y.kept.below);
        listed = λ d. ap (λ (t : State). set.contains t.taken d) again.store ∙ y.listed d ∙ sym (or_false (p.took i d)) ∙ ap (λ b. p.took i d || b) (sym (no_gain i d));
      }

  pub explains_woke : RowsTellAll → (i : ℕ) (homes : Table) → Woke w i homes w' → site fate ≡ i → moves_of fate ≡ Reopened homes ∷ [] → Explains (past_and p fate) w'
  explains_woke tell i homes c own moves = explains_with (λ j s a. each_changed (Seated (past_and p fate) (length w.sites)) w.sites i c.was c.later c.at (seat_woke tell i homes c own moves)
      (λ j s ne a. (let y = x.sites j s a in
      let apart : site fate ≢ j = λ q. ne (sym own ∙ q) in
      seat_stays p (length w.sites) j fate s s y (same_seat s) (subst (λ os. Holding j os y.held) no_ops y.holding) (none_other (site fate) j (moves_of fate) apart) (no_gain j)))
      j s (subst (λ ss. slice_get ss j ≡ Some s) c.sites a)) c.frames

-- ---- a step
pub step_explains : RowsTellAll → (p : Past) (w w' : World) (step : Step) → Explains p w → (fate : Fate) → IsHonestStep w.frames step → Happens w step fate w' → Explains (past_and p fate) w'
step_explains tell p w w' step x (Released i e acts outputs) honest h =
    let fate = Released i e acts outputs in
    explains_committed p w x i e acts w' (came w step fate w' h) fate refl refl refl (step_sites w step fate w' h) (known_event w step fate w' e honest h refl)
step_explains tell p w w' step x (Lost i e acts) honest h =
    let fate = Lost i e acts in
    explains_committed p w x i e acts w' (came w step fate w' h) fate refl refl refl (step_sites w step fate w' h) (known_event w step fate w' e honest h refl)
step_explains tell p w w' step x (Cut i) honest h = explains_idle p w w' x (Cut i) refl (step_sites w step (Cut i) w' h) refl (came w step (Cut i) w' h)
step_explains tell p w w' step x (Faulted i fault) honest h = explains_idle p w w' x (Faulted i fault) refl (step_sites w step (Faulted i fault) w' h) refl (came w step (Faulted i fault) w' h)
step_explains tell p w w' step x (Was_down i) honest h = explains_idle p w w' x (Was_down i) refl (step_sites w step (Was_down i) w' h) refl (came w step (Was_down i) w' h)
step_explains tell p w w' step x (Restarted i homes) honest h = explains_woke p w w' x (Restarted i homes) refl (step_sites w step (Restarted i homes) w' h) tell i homes (came w step (Restarted i homes) w' h) refl refl
