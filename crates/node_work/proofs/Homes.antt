-- The table of homes through the acts of a node.
use Rattle.std.proofs.Common.{◌≡◌, List, [], ◌∷◌, ◌++◌, refl, sym, ap, subst, ◌∙◌}
use Rattle.home_table.specs.Table.{Table, IsTable}
use Rattle.node_work.specs.Acts.{Act, MomentTaken, Began, Moved, Store, Connection, Session, Bridge, Out, Named, Acknowledged, Passed, Dropped, Allowed, Runs, gather, moved_in, next}
use Rattle.node_work.specs.Held.Bridge.{BridgeAct, Put, Took, Got, Believed, Greeted, Gave, Left_out, bridged}
use Rattle.node_work.specs.Held.Connections.{ConnectionAct, Opened, Fed, Roomed, Accepted, Closed, after_connection_act}
use Rattle.node_work.specs.Held.Sessions.{SessionAct, Begun, Called, Over, called}
use Rattle.node_work.specs.View.{Place, HeldView}

connection_homes : (h : HeldView) (a : ConnectionAct) → (after_connection_act h a).homes ≡ h.homes
connection_homes h (Opened c) = refl
connection_homes h (Fed c piece) = refl
connection_homes h (Roomed c bytes) = refl
connection_homes h (Accepted c client) = refl
connection_homes h (Closed c) = refl

session_homes : (h : HeldView) (a : SessionAct) → (called h a).homes ≡ h.homes
session_homes h (Begun client) = refl
session_homes h (Called s) = refl
session_homes h (Over client) = refl

bridge_homes : (h : HeldView) (a : BridgeAct) → (bridged h a).homes ≡ h.homes
bridge_homes h (Put peer m) = refl
bridge_homes h (Took peer number m copies lost) = refl
bridge_homes h (Got peer number) = refl
bridge_homes h (Believed peer dots) = refl
bridge_homes h (Greeted peer g) = refl
bridge_homes h (Gave f) = refl
bridge_homes h (Left_out what) = refl

-- an act takes another table, or leaves the one that there is
pub homes_by : (P : Table → Type 0) (p : Place) (h : HeldView) (a : Act) → Allowed p h a → ((t : Table) → a ≡ Moved t → P t) → P h.homes → P (next h a).homes
homes_by P p h (MomentTaken at) may taken old = old
homes_by P p h Began may taken old = old
homes_by P p h (Moved homes) may taken old = taken homes refl
homes_by P p h (Store a) may taken old = old
homes_by P p h (Connection a) may taken old = subst P (sym (connection_homes h a)) old
homes_by P p h (Session a) may taken old = subst P (sym (session_homes h a)) old
homes_by P p h (Bridge a) may taken old = subst P (sym (bridge_homes h a)) old
homes_by P p h (Out o) may taken old = old
homes_by P p h (Named number) may taken old = old
homes_by P p h (Acknowledged client packet at grants offers) may taken old = old
homes_by P p h (Passed m copies lost routes) may taken old = old
homes_by P p h Dropped may taken old = old

-- what is a table stays one
act_is_table : (p : Place) (h : HeldView) (a : Act) → Allowed p h a → IsTable h.homes → IsTable (next h a).homes
act_is_table p h a may sound = homes_by IsTable p h a may (λ t is. (subst (λ x. Allowed p h x) is may).table) sound

pub is_table_on : (p : Place) (acts : List Act) (h h' : HeldView) → Runs p h acts h' → IsTable h.homes → IsTable h'.homes
is_table_on p [] h h' ran sound = subst (λ (g : HeldView). IsTable g.homes) (sym ran) sound
is_table_on p (a ∷ acts) h h' ran sound = is_table_on p acts ran.0 h' ran.2 (subst (λ (g : HeldView). IsTable g.homes) (sym ran.1.1) (act_is_table p h a ran.1.0 sound))

-- where none is taken it stays
act_homes : (p : Place) (h : HeldView) (a : Act) → Allowed p h a → moved_in a ≡ [] → (next h a).homes ≡ h.homes
act_homes p h a may none = homes_by (λ t. t ≡ h.homes) p h a may (λ t is. absurd (let e : t ∷ [] ≡ [] = sym (ap moved_in is) ∙ none in cc)) refl

none_first : {A : Type 0} (xs ys : List A) → xs ++ ys ≡ [] → (xs ≡ []) × (ys ≡ [])
none_first [] ys e = (refl, e)
none_first (x ∷ xs) ys e = absurd (cc)

pub homes_stay : (p : Place) (acts : List Act) (h h' : HeldView) → Runs p h acts h' → gather moved_in acts ≡ [] → h'.homes ≡ h.homes
homes_stay p [] h h' ran none = ap (λ (g : HeldView). g.homes) ran
homes_stay p (a ∷ acts) h h' ran none =
    let parts = none_first (moved_in a) (gather moved_in acts) none in
    homes_stay p acts ran.0 h' ran.2 parts.1 ∙ ap (λ (g : HeldView). g.homes) ran.1.1 ∙ act_homes p h a ran.1.0 parts.0
