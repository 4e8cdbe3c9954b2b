-- Which clients go, and which tables are taken.
use Rattle.std.specs.FinMap as map
use Rattle.std.proofs.Common.{map as map_list, ◌≡◌, ◌≢◌, ℕ, ◌<◌, Bool, true, false, ◌&&◌, cond, List, [], ◌∷◌, length, Option, Some, None, inl, inr, max, refl, sym, ap, subst, ◌∙◌, arith}
use Rattle.std.specs.Prelude.{nat_eq, nat_lt}
use Rattle.std.proofs.lemmas.Bool.{and_parts}
use Rattle.std.proofs.lemmas.Bool.Decides.{nat_tests}
use Rattle.home_table.specs.Table.{Table, IsTable}
use Rattle.bridge_routes.proofs.Selecting.{selected_once}
use Rattle.session_table.specs.Seats.{AreElsewhere, IsElsewhere, Seats}
use Rattle.node_work.specs.Acts.{Act, Allowed, MayMove, Runs, gather, moved_in, next}
use Rattle.node_work.specs.View.{HeldView, Place, WorkView, nodes_of}
use Rattle.node_work.proofs.Homes.{homes_by, homes_stay}
use Rattle.broker_node.specs.declared.event.Event.{Event}
use Rattle.broker_node.specs.declared.event.EventKind.{EventKind}
use Rattle.broker_node.specs.declared.event.EventKind.TheVariants as kinds
use Rattle.broker_node.specs.Moving.{AreAway, is_newer_table}
use Rattle.broker_node.specs.Idle.{IsIdle, IsIdleAt}
use Rattle.broker_node.specs.Step.{MayBringTables, may_move}

pub may_be_taken : (homes : Table) (p : Place) (h : HeldView) → IsTable homes → is_newer_table homes p h ≡ true → MayMove p h homes
may_be_taken homes p h table newer =
    let parts = and_parts (nat_eq (length homes.nodes) (nodes_of p)) (nat_lt h.homes.version homes.version) newer in
    record { table = table; nodes = same _ _ parts.0; newer = below _ _ parts.1 }
  where
    same : (a b : ℕ) → nat_eq a b ≡ true → a ≡ b
    same a b e = grind (arith, nat_tests)

    below : (a b : ℕ) → nat_lt a b ≡ true → a < b
    below a b e = grind (arith, nat_tests)

-- an event that brings no table, or comes before the node has started, takes none
not_taken : (started : Bool) (kind : EventKind) (ts : List Table) → may_move started kind ≡ false → cond started (MayBringTables kind ts) (ts ≡ []) → ts ≡ []
not_taken false kind ts e d = d
not_taken true kinds.Started ts e d = d
not_taken true (kinds.Opened connection) ts e d = d
not_taken true (kinds.Piece connection bytes) ts e d = d
not_taken true (kinds.Room connection bytes) ts e d = d
not_taken true (kinds.Closed connection) ts e d = d
not_taken true (kinds.Frame bytes) ts e d = d
not_taken true (kinds.Linked peer) ts e d = d
not_taken true (kinds.Ship peer) ts e d = d
not_taken true (kinds.More peer after) ts e d = d
not_taken true kinds.Tick ts e d = d
not_taken true (kinds.Evict client) ts e d = d
not_taken true (kinds.Table homes) ts e d = absurd (let z : true ≡ false = e in cc)

pub table_stays : (p : Place) (h h' : HeldView) (kind : EventKind) (acts : List Act) → may_move h.started kind ≡ false → cond h.started (MayBringTables kind (gather moved_in acts)) (gather moved_in acts ≡ []) → Runs p h acts h' → h'.homes ≡ h.homes
table_stays p h h' kind acts e d ran = homes_stay p acts h h' ran (not_taken h.started kind (gather moved_in acts) e d)

-- what was looked at is what the work holds
pub looked : (w : WorkView) (h : HeldView) (homes : Table) (id : ℕ) (sessions : Seats) (away : List (List ℕ)) → h ≡ w.held → homes ≡ h.homes → id ≡ w.place.id → sessions ≡ h.sessions
    → AreElsewhere homes id sessions away → AreAway w.place w.held away
looked w h homes id sessions away held table own seats are =
    let by_table = subst (λ (t : Table). AreElsewhere t id sessions away) (table ∙ ap (λ (v : HeldView). v.homes) held) are in
    let by_id = subst (λ i. AreElsewhere w.held.homes i sessions away) own by_table in
    subst (λ (s : Seats). AreElsewhere w.held.homes w.place.id s away) (seats ∙ ap (λ (v : HeldView). v.sessions) held) by_id

-- where nobody's home is elsewhere, nobody goes
pub none_go : (p : Place) (h : HeldView) (away : List (List ℕ)) → AreAway p h away → AreAway p h [] → away ≡ []
none_go p h away are none = selected_once (IsElsewhere h.homes p.id) (map_list (λ e. e.0) (map.entries h.sessions)) away [] are none

-- the table is for as many nodes as it was
act_nodes : (p : Place) (h : HeldView) (a : Act) → Allowed p h a → length h.homes.nodes ≡ nodes_of p → length (next h a).homes.nodes ≡ nodes_of p
act_nodes p h a may same = homes_by (λ t. length t.nodes ≡ nodes_of p) p h a may (λ t is. (subst (λ x. Allowed p h x) is may).nodes) same

pub nodes_stay : (p : Place) (acts : List Act) (h h' : HeldView) → Runs p h acts h' → length h.homes.nodes ≡ nodes_of p → length h'.homes.nodes ≡ nodes_of p
nodes_stay p [] h h' ran same = subst (λ (g : HeldView). length g.homes.nodes ≡ nodes_of p) (sym ran) same
nodes_stay p (a ∷ acts) h h' ran same =
    nodes_stay p acts ran.0 h' ran.2 (subst (λ (g : HeldView). length g.homes.nodes ≡ nodes_of p) (sym ran.1.1) (act_nodes p h a ran.1.0 same))

-- what was looked up of it after a step that may bring another one, and after any other
pub not_moved : (moves : Bool) (looked : Option Table) (homes : Table) → cond moves (looked ≡ Some homes) (looked ≡ None) → looked ≡ None → moves ≡ false
not_moved true looked homes is none = absurd (let z : Some homes ≡ None = sym is ∙ none in cc)
not_moved false looked homes is none = refl

pub moved_to : (moves : Bool) (looked : Option Table) (homes after : Table) → cond moves (looked ≡ Some homes) (looked ≡ None) → looked ≡ Some after → after ≡ homes
moved_to true looked homes after is some = let z : Some after ≡ Some homes = sym some ∙ is in cc
moved_to false looked homes after is some = absurd (let z : Some after ≡ None = sym some ∙ is in cc)

-- an event that may bring a table isn't idle
moves_busy : (started : Bool) (kind : EventKind) (p : Place) (h : HeldView) → may_move started kind ≡ true → h.started ≡ started → IsIdleAt p h kind → ⊥
moves_busy false kind p h moves is idle = absurd (let z : false ≡ true = moves in cc)
moves_busy true kinds.Started p h moves is idle = absurd (let z : false ≡ true = moves in cc)
moves_busy true (kinds.Opened connection) p h moves is idle = absurd (let z : false ≡ true = moves in cc)
moves_busy true (kinds.Piece connection bytes) p h moves is idle = absurd (let z : false ≡ true = moves in cc)
moves_busy true (kinds.Room connection bytes) p h moves is idle = absurd (let z : false ≡ true = moves in cc)
moves_busy true (kinds.Closed connection) p h moves is idle = absurd (let z : false ≡ true = moves in cc)
moves_busy true (kinds.Frame bytes) p h moves is idle = absurd (let z : false ≡ true = moves in cc)
moves_busy true (kinds.Linked peer) p h moves is idle = absurd (let z : false ≡ true = moves in cc)
moves_busy true (kinds.Ship peer) p h moves is idle = absurd (let z : false ≡ true = moves in cc)
moves_busy true (kinds.More peer after) p h moves is idle = absurd (let z : false ≡ true = moves in cc)
moves_busy true kinds.Tick p h moves is idle = absurd (let z : false ≡ true = moves in cc)
moves_busy true (kinds.Evict client) p h moves is idle = absurd (let z : false ≡ true = moves in cc)
moves_busy true (kinds.Table homes) p h moves is (inl waits) = let z : true ≡ false = sym is ∙ waits.0 in cc
moves_busy true (kinds.Table homes) p h moves is (inr goes) = goes.1.1

pub moves_not_idle : (p : Place) (h : HeldView) (e : Event) → may_move h.started e.kind ≡ true → IsIdle p h e → ⊥
moves_not_idle p h e moves idle = moves_busy h.started e.kind p (record h { at = max h.at e.at }) moves refl idle
