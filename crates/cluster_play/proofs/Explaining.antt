-- What was made and taken, and what became of each node, explains a world.
use Rattle.std.proofs.Common.{◌≡◌, ℕ, ◌≤◌, ◌^◌, Bool, ◌||◌, List, [], ◌∷◌, ◌++◌, Option, Some, None, option_map, filter, length, refl, subst, sym}
use Rattle.std.specs.List.{slice_get}
use Rattle.std.specs.FinSet as set
use Rattle.causal_context.specs.Dots.{Dot}
use Rattle.home_table.specs.Table.{Table}
use Rattle.replica_store.specs.declared.operation.Operation.{Operation}
use Rattle.replica_store.specs.Operations.{HaveOwnDots}
use Rattle.node_keeper.specs.Keeping.{AreOf}
use Rattle.node_rows.specs.Reading.{HasNoLane, IsLasting}
use Rattle.node_work.specs.declared.frame.Frame.{Frame}
use Rattle.node_work.specs.Lasting.{CanLast, lasting}
use Rattle.node_work.specs.View.{Place, HeldView, fresh}
use Rattle.law_nodes.specs.Moves.{Move, Moves}
use Rattle.cluster_play.specs.Worlds.{Site, World, Fate}
use Rattle.cluster_play.specs.Runs.{Played}
use Rattle.cluster_play.specs.Histories.{IsFirst, ops_of, made, gains, taken, own_moves, moves_at}
use Rattle.cluster_play.proofs.Bools.{none-some, some_is}
use Rattle.cluster_play.proofs.Bridging.{IsKept}
use Rattle.cluster_play.proofs.Paths.{made_more, taken_more, moves_more}
use Rattle.cluster_play.proofs.Sound.{lists}
use Rattle.cluster_play.proofs.Growing.{Holding}
use Rattle.cluster_play.proofs.Plain.{AllPlain, is_among}
use Rattle.cluster_play.proofs.Operations.{among_some}
use Rattle.cluster_play.proofs.Own.{has_no_lane}
use Rattle.cluster_play.proofs.Lasts.{is_lasting}
use Rattle.cluster_play.proofs.Telling.{WasGiven}

-- the table of homes with which a node was first opened
abbrev pub first_in : World → ℕ → Option Table
first_in w i = option_map (λ s. s.node.homes) (slice_get w.sites i)

-- with which tables the nodes were first opened, what was made and taken, and what became of what each node held
pub record Past : Type 0 where
  pub first : ℕ → Option Table
  pub ops : List Operation
  pub took : ℕ → Dot → Bool
  pub moves : ℕ → List Move

abbrev pub past : World → List Played → Past
past start run = record { first = λ i. first_in start i; ops = made run; took = λ i d. taken i run d; moves = λ i. moves_at i run }

-- and what comes to a fate
abbrev pub past_and : Past → Fate → Past
past_and p fate = record { first = p.first; ops = p.ops ++ ops_of fate; took = λ i d. p.took i d || gains i fate d; moves = λ i. p.moves i ++ own_moves i fate }

pub past_more : (start : World) (run : List Played) (m : Played) → past_and (past start run) m.fate ≡ past start (run ++ m ∷ [])
past_more start run m = λ n. record { first = λ i. first_in start i; ops = made_more run m n; took = λ i d. taken_more i run m d n; moves = λ i. moves_more i run m n }

-- moves of a node are those of another one with its place
pub led_by : (p p' : Place) (first : Table) (ms : List Move) (h : HeldView) → p' ≡ p → Moves p (fresh first) ms h → Moves p' (fresh first) ms h
led_by p p' first ms h place moves = subst (λ (q : Place). Moves q (fresh first) ms h) (sym place) moves

first_of : (start : World) (i : ℕ) (homes : Table) (o : Option Site) → slice_get start.sites i ≡ o → option_map (λ s. s.node.homes) o ≡ Some homes → IsFirst start i homes
first_of start i homes None at is = none-some is
first_of start i homes (Some s) at is = (s, at, sym (some_is is))

pub is_first : (start : World) (i : ℕ) (homes : Table) → first_in start i ≡ Some homes → IsFirst start i homes
is_first start i homes is = first_of start i homes (slice_get start.sites i) refl is

-- what node i holds, or held last: the moves lead to it from its first opening on, the rows are its, it is the state of what the node
-- has taken, and so are the last deltas; and what it believes of other nodes is so
pub record Seated (p : Past) (count i : ℕ) (s : Site) : Type 0 where
  pub id : s.node.place.id ≡ i
  pub nodes : s.node.place.nodes ≡ count
  pub held : HeldView
  pub homes : s.node.homes ≡ held.homes
  pub first : Table
  pub was : p.first i ≡ Some first
  pub moves : Moves s.node.place (fresh first) (p.moves i) held
  pub rows : AreOf s.node.place s.rows held
  pub lasts : CanLast held
  pub up : (h : HeldView) → s.node.up ≡ Some h → h ≡ held
  pub holding : Holding i p.ops held
  pub kept : IsKept count p.took held.bridge
  pub listed : (d : Dot) → set.contains held.store.taken d ≡ p.took i d

pub record Explains (p : Past) (w : World) : Type 0 where
  pub few : length w.sites ≤ 2 ^ 16
  pub own_dots : HaveOwnDots p.ops
  pub plain : AllPlain (length w.sites) p.ops
  pub sites : (i : ℕ) (s : Site) → slice_get w.sites i ≡ Some s → Seated p (length w.sites) i s
  pub frames : (n : ℕ) (sent : Frame) → slice_get w.frames n ≡ Some sent → WasGiven (length w.sites) p.ops p.took sent

-- what it held last can last
pub seat_lasts : (p : Past) (w : World) → Explains p w → (i : ℕ) (s : Site) (at : slice_get w.sites i ≡ Some s) (x : Seated p (length w.sites) i s) → IsLasting i (length w.sites) (lasting x.held)
seat_lasts p w e i s at x =
    let none : HasNoLane i x.held.bridge.lanes = subst (λ j. HasNoLane j x.held.bridge.lanes) x.id (has_no_lane s.node.place x.first (p.moves i) x.held x.moves) in
    let s = x.held.store in
    let taken = filter (lists s) p.ops in
    let plain : AllPlain (length w.sites) taken = λ o a. e.plain o (among_some (lists s) o p.ops a).0 in
    is_lasting i (length w.sites) x.held x.lasts (is_among (length w.sites) taken s x.holding.grown.sound plain) x.kept.lanes none e.few

-- of the node that it is
pub lasts_here : (p : Past) (w : World) → Explains p w → (i : ℕ) (s : Site) (at : slice_get w.sites i ≡ Some s) (x : Seated p (length w.sites) i s) → IsLasting s.node.place.id s.node.place.nodes (lasting x.held)
lasts_here p w e i s at x =
    subst (λ n. IsLasting s.node.place.id n (lasting x.held)) (sym x.nodes) (subst (λ j. IsLasting j (length w.sites) (lasting x.held)) (sym x.id) (seat_lasts p w e i s at x))
