-- What a node holds, or held last, is what its moves lead to.
use Rattle.std.proofs.Common.{◌≡◌, ℕ, List, [], ◌∷◌, Some, refl, sym, ap, subst, ◌∙◌}
use Rattle.std.specs.List.{slice_get}
use Rattle.std.specs.FinMap as map
use Rattle.mqtt_sessions.specs.State.{new_session}
use Rattle.law_sessions.specs.Runs.{Run as SessionRun}
use Rattle.session_table.specs.Seats.{Seat}
use Rattle.home_table.specs.Table.{Table}
use Rattle.node_work.specs.Acts.{Act, MomentTaken, Began, Moved, Store, Connection, Session, Bridge, Out, Named, Acknowledged, Passed, Dropped, Allowed, moved_in, next}
use Rattle.node_work.specs.View.{Place, HeldView, fresh}
use Rattle.node_work.proofs.Homes.{homes_stay}
use Rattle.law_nodes.specs.Lives.{life}
use Rattle.law_nodes.specs.Moves.{Move, Acted, Reopened, Moves, did}
use Rattle.law_nodes.proofs.LifeLaws as lives
use Rattle.law_nodes.proofs.MoveLaws.{moves_join, acts_are_moves}
use Rattle.cluster_play.specs.Worlds.{Site, World}
use Rattle.cluster_play.specs.Runs.{Played}
use Rattle.cluster_play.specs.Histories.{IsFirst, homes_after, last_table, moves_at, moves_amid, Reached}
use Rattle.cluster_play.specs.Agreement.{Holds, HoldsAmid}
use Rattle.cluster_play.proofs.Explaining.{first_in, is_first}
use Rattle.cluster_play.proofs.Kept.{explained}

-- from the table with which it was first opened
pub record Led (run : List Played) (w : World) (r : Reached run w) (i : ℕ) (p : Place) (h : HeldView) : Type 0 where
  pub first : Table
  pub was : first_in r.start i ≡ Some first
  pub moves : Moves p (fresh first) (moves_at i run) h

pub led : (run : List Played) (w : World) (r : Reached run w) (i : ℕ) (h : HeldView) (at : Holds w i h) → Led run w r i at.site.node.place h
led run w r i h at =
    let x = (explained run w r).sites i at.site at.at in
    record { first = x.first; was = x.was; moves = subst (Moves at.site.node.place (fresh x.first) (moves_at i run)) (sym (x.up h at.up)) x.moves }

pub at_moves : (run : List Played) (w : World) (r : Reached run w) (i : ℕ) (h : HeldView) (at : Holds w i h)
    → (first : Table) × IsFirst r.start i first × Moves at.site.node.place (fresh first) (moves_at i run) h
at_moves run w r i h at =
    let l = led run w r i h at in
    (l.first, is_first r.start i l.first l.was, l.moves)

-- amid a step too
pub amid_moves : (p : Place) (first : HeldView) (run : List Played) (i : ℕ) (before : List Act) (h mid : HeldView) → Moves p first (moves_at i run) h → Moves p h (did before) mid → Moves p first (moves_amid i run before) mid
amid_moves p first run i before h mid r q = moves_join p (moves_at i run) (did before) first h mid r q

pub sessions_are_runs : (run : List Played) (w : World) → Reached run w → (i : ℕ) (h : HeldView) → Holds w i h
    → (client : List ℕ) (seat : Seat) → map.get h.sessions client ≡ Some seat → SessionRun (new_session client) (life client (moves_at i run) []) seat.session
sessions_are_runs run w r i h at = let l = led run w r i h at in lives.sessions_are_runs at.site.node.place l.first h (moves_at i run) l.moves

pub sessions_are_runs_amid : (run : List Played) (w : World) (m : Played) → Reached run w → (i : ℕ) (before : List Act) (mid : HeldView) → HoldsAmid w m i before mid
    → (client : List ℕ) (seat : Seat) → map.get mid.sessions client ≡ Some seat → SessionRun (new_session client) (life client (moves_amid i run before) []) seat.session
sessions_are_runs_amid run w m r i before mid a =
    let place = a.holds.site.node.place in
    let l = led run w r i a.held a.holds in
    lives.sessions_are_runs place l.first mid (moves_amid i run before)
    (amid_moves place (fresh l.first) run i before a.held mid l.moves (acts_are_moves place a.held mid before a.runs))

-- ---- the table of homes that moves leave
one_table : (p : Place) (h : HeldView) (a : Act) → Allowed p h a → (next h a).homes ≡ last_table h.homes (moved_in a)
one_table p h (MomentTaken at) may = refl
one_table p h Began may = refl
one_table p h (Moved homes) may = refl
one_table p h (Store a) may = refl
one_table p h (Connection a) may = homes_stay p (Connection a ∷ []) h (next h (Connection a)) (next h (Connection a), (may, refl), refl) refl
one_table p h (Session a) may = homes_stay p (Session a ∷ []) h (next h (Session a)) (next h (Session a), (may, refl), refl) refl
one_table p h (Bridge a) may = homes_stay p (Bridge a ∷ []) h (next h (Bridge a)) (next h (Bridge a), (may, refl), refl) refl
one_table p h (Out o) may = refl
one_table p h (Named number) may = refl
one_table p h (Acknowledged client packet at grants offers) may = refl
one_table p h (Passed m copies lost routes) may = refl
one_table p h Dropped may = refl

pub moves_homes : (p : Place) (moves : List Move) (h h' : HeldView) → Moves p h moves h' → h'.homes ≡ homes_after h.homes moves
moves_homes p [] h h' all = ap (λ (v : HeldView). v.homes) all
moves_homes p (Acted a ∷ moves) h h' all = moves_homes p moves all.0 h' all.2 ∙ ap (λ t. homes_after t moves) (ap (λ (v : HeldView). v.homes) all.1.1 ∙ one_table p h a all.1.0)
moves_homes p (Reopened homes ∷ moves) h h' all = moves_homes p moves all.0 h' all.2 ∙ ap (λ t. homes_after t moves) (ap (λ (v : HeldView). v.homes) all.1.2)

pub keeps_its_table : (run : List Played) (w : World) (r : Reached run w) (i : ℕ) (s : Site) → slice_get w.sites i ≡ Some s
    → (first : Table) × IsFirst r.start i first × (s.node.homes ≡ homes_after first (moves_at i run))
keeps_its_table run w r i s at =
    let x = (explained run w r).sites i s at in
    (x.first, is_first r.start i x.first x.was, x.homes ∙ moves_homes s.node.place (moves_at i run) (fresh x.first) x.held x.moves)
