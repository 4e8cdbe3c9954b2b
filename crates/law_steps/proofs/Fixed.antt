-- What keeps the laws of an event is its step.
use Rattle.std.proofs.Common.{◌≡◌, ◌≢◌, ◌⊎◌, ℕ, Bool, true, false, cond, List, [], ◌∷◌, ◌++◌, Option, Some, None, refl, sym, ap, ◌∙◌, subst}
use Rattle.std.specs.FinMap as map
use Rattle.bridge_frames.specs.Frames.{frame_in}
use Rattle.home_table.specs.Table.{IsTable}
use Rattle.node_work.specs.Acts.{Act, MomentTaken, Connection, Session, Runs, gather, next, output_in}
use Rattle.node_work.specs.Held.Connections.{Opened, client_at, is_open}
use Rattle.node_work.specs.Held.Sessions.{SessionStep, Called, has_session}
use Rattle.node_work.specs.View.{Place, HeldView}
use Rattle.node_work.proofs.Homes.{is_table_on}
use Rattle.node_clients.proofs.Determined.{runs_determined}
use Rattle.broker_node.specs.declared.event.Event.{Event}
use Rattle.broker_node.specs.declared.event.EventKind.{EventKind}
use Rattle.broker_node.specs.declared.event.EventKind.TheVariants as kinds
use Rattle.law_runs.specs.ConnectionRooms.{CallsWithRoom, IsToldOf}
use Rattle.law_steps.specs.Determining.{ComesTo, GoesBy, KeepsLaws, AreOne, LawsDetermine}
use Rattle.law_steps.specs.Ending.{LeavesFrom}
use Rattle.law_steps.proofs.Bridging.{frame_fixed, more_fixed, ships_fixed}
use Rattle.law_steps.proofs.Calls.{IsKnown, after_head, same_call, two_heads, two_parts}
use Rattle.law_steps.proofs.EndingLaws.{due_fixed, leaves_fixed}
use Rattle.law_steps.proofs.Moving.{starts_fixed, table_fixed}
use Rattle.law_steps.proofs.Pieces.{bytes_fixed}

-- ---- what an event comes to
opened_fixed : (b : Bool) (c : ℕ) (xs ys : List Act) → cond b (xs ≡ []) (xs ≡ Connection (Opened c) ∷ []) → cond b (ys ≡ []) (ys ≡ Connection (Opened c) ∷ []) → xs ≡ ys
opened_fixed true c xs ys x y = x ∙ sym y
opened_fixed false c xs ys x y = x ∙ sym y

left_fixed : (b : Bool) (p : Place) (h : HeldView) (c : ℕ) (last last' : HeldView) (xs ys : List Act) → IsTable h.homes → Runs p h xs last → Runs p h ys last'
    → cond b (LeavesFrom p h c (client_at c h) xs) (xs ≡ []) → cond b (LeavesFrom p h c (client_at c h) ys) (ys ≡ []) → xs ≡ ys
left_fixed true p h c last last' xs ys sound r s x y = leaves_fixed (client_at c h) p h c last last' xs ys sound r s x y
left_fixed false p h c last last' xs ys sound r s x y = x ∙ sym y

calls_fixed : (has : Bool) (client : List ℕ) (bytes at : ℕ) (p : Place) (h last last' : HeldView) (xs ys : List Act) → Runs p h xs last → Runs p h ys last' → cond has (CallsWithRoom client bytes at xs) (xs ≡ []) → cond has (CallsWithRoom client bytes at ys) (ys ≡ []) → xs ≡ ys
calls_fixed true client bytes at p h last last' xs ys r s x y =
    let a = after_head p h last xs (Session (Called x.call)) [] x.is r in
    let b = after_head p h last' ys (Session (Called y.call)) [] y.is s in
    x.is ∙ ap (λ (v : SessionStep). Session (Called v) ∷ []) (same_call p h x.call y.call a.0 b.0 (x.of ∙ sym y.of) (x.event ∙ sym y.event) (subst IsKnown (sym x.event) tt)) ∙ sym y.is
calls_fixed false client bytes at p h last last' xs ys r s x y = x ∙ sym y

told_fixed : (client : Option (List ℕ)) (c bytes at : ℕ) (p : Place) (h last last' : HeldView) (xs ys : List Act) → Runs p h xs last → Runs p h ys last' → IsToldOf c bytes at h client xs → IsToldOf c bytes at h client ys → xs ≡ ys
told_fixed None c bytes at p h last last' xs ys r s x y = x ∙ sym y
told_fixed (Some client) c bytes at p h last last' xs ys r s x y = calls_fixed (has_session client h) client bytes at p h last last' xs ys r s x y

room_fixed : (b : Bool) (c bytes : ℕ) (p : Place) (h last last' : HeldView) (xs ys : List Act) → Runs p h xs last → Runs p h ys last'
    → cond b (IsToldOf c bytes h.at h (client_at c h) xs) (xs ≡ []) → cond b (IsToldOf c bytes h.at h (client_at c h) ys) (ys ≡ []) → xs ≡ ys
room_fixed true c bytes p h last last' xs ys r s x y = told_fixed (client_at c h) c bytes h.at p h last last' xs ys r s x y
room_fixed false c bytes p h last last' xs ys r s x y = x ∙ sym y

comes_fixed : (kind : EventKind) (p : Place) (h last last' : HeldView) (xs ys : List Act) → IsTable h.homes → Runs p h xs last → Runs p h ys last' → ComesTo kind p h xs → ComesTo kind p h ys → xs ≡ ys
comes_fixed kinds.Tick p h last last' xs ys sound r s x y = x ∙ sym y
comes_fixed (kinds.Opened c) p h last last' xs ys sound r s x y = opened_fixed (is_open c h) c xs ys x y
comes_fixed (kinds.Closed c) p h last last' xs ys sound r s x y = left_fixed (is_open c h) p h c last last' xs ys sound r s x y
comes_fixed (kinds.Room c bytes) p h last last' xs ys sound r s x y = room_fixed (is_open c h) c bytes p h last last' xs ys r s x y
comes_fixed (kinds.Piece c bytes) p h last last' xs ys sound r s x y = bytes_fixed (map.get h.connections c) p h c bytes last last' xs ys sound r s x y
comes_fixed (kinds.Evict client) p h last last' xs ys sound r s x y = x ∙ sym y
comes_fixed kinds.Started p h last last' xs ys sound r s x y = x ∙ sym y
comes_fixed (kinds.Frame bytes) p h last last' xs ys sound r s x y = frame_fixed (frame_in bytes) p h last last' xs ys sound r s x y
comes_fixed (kinds.Linked peer) p h last last' xs ys sound r s x y = x ∙ sym y
comes_fixed (kinds.Ship peer) p h last last' xs ys sound r s x y = ships_fixed p h peer xs ys x y
comes_fixed (kinds.More peer after) p h last last' xs ys sound r s x y = more_fixed p h peer after xs ys x y
comes_fixed (kinds.Table homes) p h last last' xs ys sound r s x y = table_fixed homes p h last last' xs ys r s x y

-- ---- after what is due
goes_fixed : (e : Event) (p : Place) (h last last' : HeldView) (xs ys : List Act) → IsTable h.homes → Runs p h xs last → Runs p h ys last' → GoesBy e p h xs → GoesBy e p h ys → xs ≡ ys
goes_fixed e p h last last' xs ys sound r s x y =
    let a = MomentTaken e.at in
    let now = next h a in
    two_heads p h last last' xs ys a a (x.own ++ x.rest) (y.own ++ y.rest) x.is y.is refl r s (λ r2 s2.
    two_parts p now last last' (x.own ++ x.rest) (y.own ++ y.rest) x.own x.rest y.own y.rest refl refl r2 s2
    (λ m n ra rb. due_fixed p now m n x.held y.held x.own y.own sound ra rb x.due y.due)
    (λ mid ra rb rc rd. (
    let hx : x.held ≡ mid = runs_determined p x.own now x.held mid x.runs ra in
    let hy : y.held ≡ mid = runs_determined p y.own now y.held mid y.runs rb in
    comes_fixed e.kind p mid last last' x.rest y.rest (is_table_on p x.own now mid ra sound) rc rd
    (subst (λ v. ComesTo e.kind p v x.rest) hx x.answers) (subst (λ v. ComesTo e.kind p v y.rest) hy y.answers))))

module _ (e : Event) (p : Place) (h last last' : HeldView) (acts acts' : List Act) (sound : IsTable h.homes) (r : Runs p h acts last) (s : Runs p h acts' last') (k : KeepsLaws e p h acts) (k' : KeepsLaws e p h acts') where
  at_start : (started : Bool) → h.started ≡ started → e.kind ≡ kinds.Started → acts ≡ acts'
  at_start true so kind = k.once so kind ∙ sym (k'.once so kind)
  at_start false so kind = starts_fixed p h e.at last last' acts acts' sound r s (k.begins so kind) (k'.begins so kind)

  at_another : (started : Bool) → h.started ≡ started → e.kind ≢ kinds.Started → acts ≡ acts'
  at_another true so other = goes_fixed e p h last last' acts acts' sound r s (k.goes so other) (k'.goes so other)
  at_another false so other = k.waits so other ∙ sym (k'.waits so other)

  same_by : (kind : EventKind) → e.kind ≡ kind → acts ≡ acts'
  same_by kinds.Started is = at_start h.started refl is
  same_by (kinds.Opened c) is = at_another h.started refl (λ q. (let z : kinds.Opened c ≡ kinds.Started = sym is ∙ q in cc))
  same_by (kinds.Piece c bytes) is = at_another h.started refl (λ q. (let z : kinds.Piece c bytes ≡ kinds.Started = sym is ∙ q in cc))
  same_by (kinds.Room c bytes) is = at_another h.started refl (λ q. (let z : kinds.Room c bytes ≡ kinds.Started = sym is ∙ q in cc))
  same_by (kinds.Closed c) is = at_another h.started refl (λ q. (let z : kinds.Closed c ≡ kinds.Started = sym is ∙ q in cc))
  same_by (kinds.Frame bytes) is = at_another h.started refl (λ q. (let z : kinds.Frame bytes ≡ kinds.Started = sym is ∙ q in cc))
  same_by (kinds.Linked peer) is = at_another h.started refl (λ q. (let z : kinds.Linked peer ≡ kinds.Started = sym is ∙ q in cc))
  same_by (kinds.Ship peer) is = at_another h.started refl (λ q. (let z : kinds.Ship peer ≡ kinds.Started = sym is ∙ q in cc))
  same_by (kinds.More peer after) is = at_another h.started refl (λ q. (let z : kinds.More peer after ≡ kinds.Started = sym is ∙ q in cc))
  same_by kinds.Tick is = at_another h.started refl (λ q. (let z : kinds.Tick ≡ kinds.Started = sym is ∙ q in cc))
  same_by (kinds.Evict client) is = at_another h.started refl (λ q. (let z : kinds.Evict client ≡ kinds.Started = sym is ∙ q in cc))
  same_by (kinds.Table homes) is = at_another h.started refl (λ q. (let z : kinds.Table homes ≡ kinds.Started = sym is ∙ q in cc))

  same_acts : acts ≡ acts'
  same_acts = same_by e.kind refl

  are_one : acts ≡ acts' → AreOne acts acts' last last'
  are_one same = record { same_acts = same; same_outputs = ap (gather output_in) same; same_left = runs_determined p acts h last last' r (subst (λ zs. Runs p h zs last') (sym same) s) }

pub laws_determine : LawsDetermine
laws_determine = λ e p h last last' acts acts' sound r s k k'. are_one e p h last last' acts acts' sound r s k k' (same_acts e p h last last' acts acts' sound r s k k')
