-- What the acts of a step do to the operations that there are, and to what its node has taken.
use Rattle.std.proofs.Common.{◌≡◌, ℕ, false, ◌||◌, List, [], ◌∷◌, ◌++◌, refl, sym, ap, ◌∙◌, inl, inr, subst, append_assoc}
use Rattle.std.proofs.lemmas.List.{append-nil}
use Rattle.std.specs.List.{AllByRecursion}
use Rattle.std.specs.FinSet as set
use Rattle.causal_context.specs.Dots.{Dot, dot_cmp_total}
use Rattle.replica_store.specs.declared.operation.Operation.{Operation}
use Rattle.replica_store.specs.Operations.{dot_of, Among}
use Rattle.replica_store.specs.States.{State, state_join}
use Rattle.replica_store.specs.StateOf.{delta_of}
use Rattle.replica_store.specs.Making.{next_dot}
use Rattle.replica_store.proofs.Unions.{among_cases}
use Rattle.node_bridge.specs.View.{keeps}
use Rattle.node_work.specs.Acts.{Act, MomentTaken, Began, Moved, Store, Connection, Session, Bridge, Out, Named, Acknowledged, Passed, Dropped, Made, Merged, Does, Runs, gather, op_in, merge_in}
use Rattle.node_work.specs.Held.Bridge.{BridgeAct, Put, Took, Got, Believed, Greeted, Gave, Left_out, bridged}
use Rattle.node_work.specs.Held.Connections.{ConnectionAct, Opened, Fed, Accepted, Roomed, Closed, after_connection_act}
use Rattle.node_work.specs.Held.Sessions.{SessionAct, Begun, Called, Over, called}
use Rattle.node_work.specs.View.{Place, HeldView}
use Rattle.cluster_play.specs.Histories.{same_dot, gain_in, gained}
use Rattle.cluster_play.proofs.Bools.{or_false, or_assoc}
use Rattle.cluster_play.proofs.Operations.{IsFresh}
use Rattle.cluster_play.proofs.Parts.{AreParts, parts_stay, parts_with, within_itself, within_joined}
use Rattle.cluster_play.proofs.Sound.{Sound, Grown, sound_fresh, sound_delta, takes_made, made_dot, is_fresh, grown_made, grown_merged}
use Rattle.cluster_play.proofs.Splits.{all_front, all_weaker, gained_both, gather_both}

abbrev pub AllSound : List Operation → List State → Type 0
AllSound ms ts = AllByRecursion (Sound ms) ts

-- what node i holds: the state of the operations that it lists, with all of its own among them, and the last deltas are its parts
pub record Holding (i : ℕ) (ms : List Operation) (h : HeldView) : Type 0 where
  pub grown : Grown i ms h.store
  pub deltas : AreParts ms h.store h.bridge.deltas

pub record Grows (i : ℕ) (ms : List Operation) (h : HeldView) (acts : List Act) (h' : HeldView) : Type 0 where
  pub holding : Holding i (ms ++ gather op_in acts) h'
  pub stays : (t : State) → Sound ms t → Sound (ms ++ gather op_in acts) t
  pub takes : (d : Dot) → set.contains h'.store.taken d ≡ (set.contains h.store.taken d || gained acts d)
  pub own : (o : Operation) → Among o (gather op_in acts) → (dot_of o).node ≡ i

-- ---- acts that leave the state and the last deltas
pub record Leaves (h m : HeldView) : Type 0 where
  pub store : m.store ≡ h.store
  pub deltas : m.bridge.deltas ≡ h.bridge.deltas

leaves_by : (h m v : HeldView) → m ≡ v → Leaves h v → Leaves h m
leaves_by h m v e l = subst (λ (u : HeldView). Leaves h u) (sym e) l

leaves_itself : (h : HeldView) → Leaves h h
leaves_itself h = record { store = refl; deltas = refl }

connection_leaves : (h : HeldView) (a : ConnectionAct) → Leaves h (after_connection_act h a)
connection_leaves h (Opened c) = record { store = refl; deltas = refl }
connection_leaves h (Fed c piece) = record { store = refl; deltas = refl }
connection_leaves h (Accepted c client) = record { store = refl; deltas = refl }
connection_leaves h (Roomed c bytes) = record { store = refl; deltas = refl }
connection_leaves h (Closed c) = record { store = refl; deltas = refl }

session_leaves : (h : HeldView) (a : SessionAct) → Leaves h (called h a)
session_leaves h (Begun client) = record { store = refl; deltas = refl }
session_leaves h (Called step) = record { store = refl; deltas = refl }
session_leaves h (Over client) = record { store = refl; deltas = refl }

bridge_leaves : (h : HeldView) (a : BridgeAct) → Leaves h (bridged h a)
bridge_leaves h (Put peer m) = record { store = refl; deltas = refl }
bridge_leaves h (Took peer number m copies lost) = record { store = refl; deltas = refl }
bridge_leaves h (Got peer number) = record { store = refl; deltas = refl }
bridge_leaves h (Believed peer dots) = record { store = refl; deltas = refl }
bridge_leaves h (Greeted peer g) = record { store = refl; deltas = refl }
bridge_leaves h (Gave f) = leaves_itself h
bridge_leaves h (Left_out what) = record { store = refl; deltas = refl }

-- ---- one act
-- one that makes and takes nothing
quiet : (i : ℕ) (ms : List Operation) (h m v : HeldView) (a : Act) → Holding i ms h → op_in a ≡ [] → ((d : Dot) → gain_in a d ≡ false) → m ≡ v → Leaves h v → Grows i ms h (a ∷ []) m
quiet i ms h m v a g none idle is leaves =
    let l = leaves_by h m v is leaves in
    let no : gather op_in (a ∷ []) ≡ [] = ap (λ os. os ++ []) none in
    let e : ms ≡ ms ++ gather op_in (a ∷ []) = sym (ap (λ os. ms ++ os) no ∙ append-nil ms) in
    record {
      holding = subst (λ os. Holding i os m) e (record {
        grown = subst (Grown i ms) (sym l.store) g.grown;
        deltas = subst (λ (s : State). AreParts ms s m.bridge.deltas) (sym l.store) (subst (AreParts ms h.store) (sym l.deltas) g.deltas);
      });
      stays = λ t s. subst (λ os. Sound os t) e s;
      takes = λ d. ap (λ (s : State). set.contains s.taken d) l.store ∙ sym (or_false (set.contains h.store.taken d)) ∙ ap (λ b. set.contains h.store.taken d || (b || false)) (sym (idle d));
      own = λ o x. absurd (subst (Among o) no x);
    }

made_grows : (i : ℕ) (ms : List Operation) (h m : HeldView) (o : Operation) → Holding i ms h → dot_of o ≡ next_dot i h.store → m ≡ record h { store = state_join h.store (delta_of o); bridge = keeps (delta_of o) h.bridge }
    → Grows i ms h (Store (Made o) ∷ []) m
made_grows i ms h m o g is next =
    let s = h.store in
    let t = state_join s (delta_of o) in
    let own = g.grown.own_dots in
    let fresh : IsFresh ms o = is_fresh i ms s o g.grown is in
    let old : AreParts (ms ++ o ∷ []) t h.bridge.deltas = parts_stay ms (ms ++ o ∷ []) s t h.bridge.deltas (λ u x. sound_fresh ms u o own x fresh) (within_joined s s (delta_of o) (λ q e. e)) g.deltas in
    record {
      holding = subst (Holding i (ms ++ o ∷ [])) (sym next) (record {
        grown = grown_made i ms s o g.grown fresh;
        deltas = parts_with (ms ++ o ∷ []) t (delta_of o) h.bridge.deltas (record { sound = sound_delta ms o own fresh; within = within_itself (delta_of o) s }) old;
      });
      stays = λ u x. sound_fresh ms u o own x fresh;
      takes = λ d. ap (λ (v : HeldView). set.contains v.store.taken d) next ∙ takes_made s o d ∙ ap (λ b. set.contains s.taken d || b) (sym (or_false (same_dot (dot_of o) d)));
      own = λ p y. elim y [ inl e ↦ ap (λ q. (dot_of q).node) e ∙ ap (λ d. d.node) is | inr z ↦ absurd z ];
    }

merged_grows : (i : ℕ) (ms : List Operation) (h m : HeldView) (t : State) → Holding i ms h → Sound ms t → m ≡ record h { store = state_join h.store t; bridge = keeps t h.bridge } → Grows i ms h (Store (Merged t) ∷ []) m
merged_grows i ms h m t g sound next =
    let s = h.store in
    let u = state_join s t in
    let e : ms ≡ ms ++ [] = sym (append-nil ms) in
    let old : AreParts ms u h.bridge.deltas = parts_stay ms ms s u h.bridge.deltas (λ v x. x) (within_joined s s t (λ q b. b)) g.deltas in
    record {
      holding = subst (λ os. Holding i os m) e (subst (Holding i ms) (sym next) (record {
        grown = grown_merged i ms s t g.grown sound;
        deltas = parts_with ms u t h.bridge.deltas (record { sound = sound; within = within_itself t s }) old;
      }));
      stays = λ v x. subst (λ os. Sound os v) e x;
      takes = λ d. ap (λ (v : HeldView). set.contains v.store.taken d) next ∙ set.contains-union dot_cmp_total s.taken t.taken d ∙ ap (λ b. set.contains s.taken d || b) (sym (or_false (set.contains t.taken d)));
      own = λ o x. absurd x;
    }

pub act_grows : (p : Place) (ms : List Operation) (h m : HeldView) (a : Act) → Holding p.id ms h → Does p h a m → AllSound ms (merge_in a) → Grows p.id ms h (a ∷ []) m
act_grows p ms h m (MomentTaken at) g d s = quiet p.id ms h m _ (MomentTaken at) g refl (λ q. refl) d.1 (record { store = refl; deltas = refl })
act_grows p ms h m Began g d s = quiet p.id ms h m _ Began g refl (λ q. refl) d.1 (record { store = refl; deltas = refl })
act_grows p ms h m (Moved homes) g d s = quiet p.id ms h m _ (Moved homes) g refl (λ q. refl) d.1 (record { store = refl; deltas = refl })
act_grows p ms h m (Store (Made o)) g d s = made_grows p.id ms h m o g (made_dot p.id h.homes.version h.store o d.0) d.1
act_grows p ms h m (Store (Merged t)) g d s = merged_grows p.id ms h m t g s.0 d.1
act_grows p ms h m (Connection c) g d s = quiet p.id ms h m _ (Connection c) g refl (λ q. refl) d.1 (connection_leaves h c)
act_grows p ms h m (Session c) g d s = quiet p.id ms h m _ (Session c) g refl (λ q. refl) d.1 (session_leaves h c)
act_grows p ms h m (Bridge b) g d s = quiet p.id ms h m _ (Bridge b) g refl (λ q. refl) d.1 (bridge_leaves h b)
act_grows p ms h m (Out o) g d s = quiet p.id ms h m _ (Out o) g refl (λ q. refl) d.1 (leaves_itself h)
act_grows p ms h m (Named number) g d s = quiet p.id ms h m _ (Named number) g refl (λ q. refl) d.1 (record { store = refl; deltas = refl })
act_grows p ms h m (Acknowledged client packet at grants offers) g d s = quiet p.id ms h m _ (Acknowledged client packet at grants offers) g refl (λ q. refl) d.1 (leaves_itself h)
act_grows p ms h m (Passed x copies lost routes) g d s = quiet p.id ms h m _ (Passed x copies lost routes) g refl (λ q. refl) d.1 (record { store = refl; deltas = refl })
act_grows p ms h m Dropped g d s = quiet p.id ms h m _ Dropped g refl (λ q. refl) d.1 (record { store = refl; deltas = refl })

-- ---- several
pub grows_then : (i : ℕ) (ms : List Operation) (h m h' : HeldView) (xs ys : List Act) → Grows i ms h xs m → Grows i (ms ++ gather op_in xs) m ys h' → Grows i ms h (xs ++ ys) h'
grows_then i ms h m h' xs ys g k =
    let both = gather_both op_in xs ys in
    let e : (ms ++ gather op_in xs) ++ gather op_in ys ≡ ms ++ gather op_in (xs ++ ys) = append_assoc ms (gather op_in xs) (gather op_in ys) ∙ ap (λ os. ms ++ os) (sym both) in
    record {
      holding = subst (λ os. Holding i os h') e k.holding;
      stays = λ t s. subst (λ os. Sound os t) e (k.stays t (g.stays t s));
      takes = λ d. k.takes d ∙ ap (λ b. b || gained ys d) (g.takes d) ∙ or_assoc (set.contains h.store.taken d) (gained xs d) (gained ys d) ∙ ap (λ b. set.contains h.store.taken d || b) (sym (gained_both xs ys d));
      own = λ o x. elim (among_cases o (gather op_in xs) (gather op_in ys) (subst (Among o) both x)) [ inl a ↦ g.own o a | inr b ↦ k.own o b ];
    }

pub none_grows : (i : ℕ) (ms : List Operation) (h h' : HeldView) → Holding i ms h → h' ≡ h → Grows i ms h [] h'
none_grows i ms h h' g same =
    let e : ms ≡ ms ++ [] = sym (append-nil ms) in
    record {
      holding = subst (λ os. Holding i os h') e (subst (Holding i ms) (sym same) g);
      stays = λ t s. subst (λ os. Sound os t) e s;
      takes = λ d. ap (λ (v : HeldView). set.contains v.store.taken d) same ∙ sym (or_false (set.contains h.store.taken d));
      own = λ o x. absurd x;
    }

pub acts_grow : (p : Place) (acts : List Act) (ms : List Operation) (h h' : HeldView) → Holding p.id ms h → Runs p h acts h' → AllSound ms (gather merge_in acts) → Grows p.id ms h acts h'
acts_grow p [] ms h h' g r a = none_grows p.id ms h h' g r
acts_grow p (x ∷ acts) ms h h' g r a =
    let parts = all_front (Sound ms) (merge_in x) (gather merge_in acts) a in
    let one = act_grows p ms h r.0 x g r.1 parts.0 in
    let ms' = ms ++ gather op_in (x ∷ []) in
    grows_then p.id ms h r.0 h' (x ∷ []) acts one
    (acts_grow p acts ms' r.0 h' one.holding r.2 (all_weaker (Sound ms) (Sound ms') (gather merge_in acts) one.stays parts.1))
