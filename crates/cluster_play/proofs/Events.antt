-- What befalls a node in its seat.
use Rattle.std.proofs.Common.{◌≡◌, ◌≢◌, ℕ, ◌<◌, ◌≤◌, List, [], ◌∷◌, ◌++◌, Option, Some, None, Result, Ok, Err, OnOk, refl, sym, ap, ◌∙◌, get_or, inl, inr, length, map, subst, zero, suc, arith}
use Rattle.std.specs.Prelude.{is_some, true, false}
use Rattle.std.specs.List.{slice_get}
use Rattle.std.proofs.Math.ListN.{set}
use Rattle.std.proofs.lemmas.List.{append-nil}
use Rattle.broker_node.specs.declared.event.Event.{Event}
use Rattle.node_keeper.specs.declared.fault.KeeperFault.{KeeperFault}
use Rattle.node_keeper.specs.declared.fault.KeeperFault.TheVariants.{NoMemory, Rows, NumbersAtEnd, Stopped}
use Rattle.node_keeper.specs.declared.keeper.Keeper.{Keeper}
use Rattle.node_keeper.specs.Keeping.{AreOfNone, CannotOpen, Commits, KeeperHasCauseAt, IsOneFailureMore, OpensFromRows, may_be_marked}
use Rattle.node_keeper.specs.Views.{node_of, rows_of}
use Rattle.node_work.specs.declared.frame.Frame.{Frame}
use Rattle.node_work.specs.declared.outcome.Output.{Output}
use Rattle.node_work.specs.View.{HeldView, NodeView, Place}
use Rattle.row_store.specs.declared.store.RowFault.TheVariants as row_faults
use Rattle.row_store.specs.Rows.{Content}
use Rattle.row_store.specs.declared.memory.MemoryRows.{MemoryRows}
use Rattle.cluster_play.specs.declared.line.Line.{Line}
use Rattle.cluster_play.specs.declared.line.Line.TheVariants as lines
use Rattle.cluster_play.specs.declared.step.Step.TheVariants as steps
use Rattle.cluster_play.specs.Clusters.{site_of}
use Rattle.cluster_play.specs.Playing.{IsDoneAt, MemoryRunsOut}
use Rattle.cluster_play.specs.Worlds.{Site, World, Fate, Released, Lost, Cut, Faulted, Was_down, Restarted, Befalls, IsInMemory, MayStop, MayStayDown, OfEvent, OfCrashBefore, OfCrashAfter, OfRestart, arrival, world_with, nth_from_one, stopped, frames_in}
use Rattle.cluster_play.proofs.Lasts.{none_without}
use Rattle.cluster_play.proofs.Sites.{get_map, map_set, set_own}

-- two things that hold at Ok
pub both_ok : {A E P Q X : Type 0} (r : Result A E) → OnOk r P → OnOk r Q → (P → Q → X) → OnOk r X
both_ok (Ok x) p q f = f p q
both_ok (Err e) p q f = p

pub get_there : {A : Type 0} (xs : List A) (i : ℕ) (x : A) → i < length xs → x ≡ get_or xs i x → slice_get xs i ≡ Some x
get_there [] i x h e = absurd (omega arith)
get_there (y ∷ xs) zero x h e = ap Some (sym e)
get_there (y ∷ xs) (suc i) x h e = get_there xs i x (omega arith) e

pub get_past : {A : Type 0} (xs : List A) (i : ℕ) → length xs ≤ i → slice_get xs i ≡ None
get_past [] i h = refl
get_past (y ∷ xs) zero h = absurd (omega arith)
get_past (y ∷ xs) (suc i) h = get_past xs i (omega arith)

pub map_past : {A B : Type 0} (f : A → B) (xs : List A) (i : ℕ) → length xs ≤ i → slice_get (map f xs) i ≡ None
map_past f [] i h = refl
map_past f (y ∷ xs) zero h = absurd (omega arith)
map_past f (y ∷ xs) (suc i) h = map_past f xs i (omega arith)

-- the world of keepers and frames
abbrev pub world_of : List (Keeper MemoryRows) → List Frame → World
world_of nodes frames = record { sites = map site_of nodes; frames = frames }

pub same_site : (k k' : Keeper MemoryRows) → node_of k' ≡ node_of k → rows_of k' ≡ rows_of k → site_of k' ≡ site_of k
same_site k k' node rows = λ n. record { node = node n; rows = rows n }

was_down : (up : Option HeldView) (p : Place) (e : Event) → KeeperHasCauseAt up p e Stopped → up ≡ None
was_down None p e h = refl
was_down (Some v) p e h = absurd h

has_cause : (up : Option HeldView) (n : NodeView) (e : Event) (fault : KeeperFault) → n.up ≡ up → fault ≢ Stopped → KeeperHasCauseAt up n.place e fault → IsInMemory fault → MayStop n e fault
has_cause None n e fault is other cause memory = absurd (other cause)
has_cause (Some h) n e fault is other cause memory = record { held = h; up = is; cause = cause; in_memory = memory }

-- a store of rows in memory counts no failure, and finds no bad row when it is changed
no_count : {P : Type 0} → IsOneFailureMore 0 0 → P
no_count (inl h) = absurd (omega arith)
no_count (inr h) = absurd (omega arith)

pub in_memory : (fault : KeeperFault) → (fault ≡ Rows row_faults.BadRow → ⊥) → (fault ≡ Rows row_faults.Device → IsOneFailureMore 0 0) → IsInMemory fault
in_memory NoMemory bad device = tt
in_memory (Rows row_faults.NoMemory) bad device = refl
in_memory (Rows row_faults.Device) bad device = no_count (device refl)
in_memory (Rows row_faults.BadRow) bad device = absurd (bad refl)
in_memory NumbersAtEnd bad device = tt
in_memory Stopped bad device = tt

-- rows that are those of none after an opening were so before
none_before : (p : Place) (rows rows' : Content) → may_be_marked p.id rows rows' → AreOfNone p rows' → AreOfNone p rows
none_before p rows rows' (inl e) none = subst (AreOfNone p) e none
none_before p rows rows' (inr e) none = subst (AreOfNone p) (sym e.0) (none_without p)

pub stays_down : (s : Site) (rows' : Content) (fault : KeeperFault) → CannotOpen fault → may_be_marked s.node.place.id s.rows rows' → (fault ≡ Rows row_faults.BadRow → AreOfNone s.node.place rows') → (fault ≡ Rows row_faults.Device → IsOneFailureMore 0 0)
    → MayStayDown s fault
stays_down s rows' NoMemory cannot m bad device = tt
stays_down s rows' (Rows row_faults.NoMemory) cannot m bad device = inl refl
stays_down s rows' (Rows row_faults.Device) cannot m bad device = no_count (device refl)
stays_down s rows' (Rows row_faults.BadRow) cannot m bad device = inr (refl, none_before s.node.place s.rows rows' m (bad refl))
stays_down s rows' NumbersAtEnd (inl e) m bad device = cc
stays_down s rows' NumbersAtEnd (inr e) m bad device = absurd (let no = e.2 in cc)
stays_down s rows' Stopped (inl e) m bad device = cc
stays_down s rows' Stopped (inr e) m bad device = absurd (let no = e.2 in cc)

pub never_stopped : (fault : KeeperFault) → CannotOpen fault → fault ≢ Stopped
never_stopped fault (inl e) is = (let no : NoMemory ≡ Stopped = sym e ∙ is in cc)
never_stopped fault (inr e) is = (let no : Rows e.0 ≡ Stopped = sym e.2 ∙ is in cc)

module _ (nodes : List (Keeper MemoryRows)) (frames : List Frame) (i : ℕ) (k : Keeper MemoryRows) (below : i < length nodes) (there : k ≡ get_or nodes i k) where
  abbrev before : World
  before = world_of nodes frames

  pub at : slice_get (map site_of nodes) i ≡ Some (site_of k)
  at = get_map site_of nodes i k (get_there nodes i k below there)

  same : (k' : Keeper MemoryRows) (s : Site) (fs more : List Frame) → site_of k' ≡ s → fs ≡ frames ++ more → world_of (set nodes i k') fs ≡ world_with before i s more
  same k' s fs more e added = λ n. record { sites = (map_set site_of nodes i k' ∙ ap (set (map site_of nodes) i) e) n; frames = added n }

  alone : (k' : Keeper MemoryRows) (s : Site) → site_of k' ≡ s → world_of (set nodes i k') frames ≡ world_with before i s []
  alone k' s e = same k' s frames [] e (sym (append-nil frames))

  still : (k' : Keeper MemoryRows) → site_of k' ≡ site_of k → world_of (set nodes i k') frames ≡ before
  still k' e = λ n. record { sites = (map_set site_of nodes i k' ∙ ap (set (map site_of nodes) i) e ∙ set_own (map site_of nodes) i (site_of k) at) n; frames = frames }

  -- ---- an event that a node takes
  pub event_done : (e : Event) (outputs : List Output) (k' : Keeper MemoryRows) (fs : List Frame) (c : Commits (node_of k) (rows_of k) e outputs (node_of k') (rows_of k')) → (node_of k').place ≡ (node_of k).place → fs ≡ frames ++ frames_in outputs
      → Befalls before i (OfEvent e) (Released i e c.done.acts outputs) (world_of (set nodes i k') fs)
  event_done e outputs k' fs c place added =
      (site_of k, at, refl, (refl, (site_of k', record { commits = c; does = refl; place = place }, same k' (site_of k') fs (frames_in outputs) refl added)))

  -- the sites then are those after the step
  pub sites_done : (outputs : List Output) (k' : Keeper MemoryRows) (fs : List Frame) → (world_of (set nodes i k') fs).sites ≡ (world_with before i (site_of k') (frames_in outputs)).sites
  sites_done outputs k' fs = map_set site_of nodes i k'

  -- and a crash before anything is given out
  pub lost_done : (e : Event) (outputs : List Output) (mid k' : Keeper MemoryRows) (c : Commits (node_of k) (rows_of k) e outputs (node_of mid) (rows_of mid)) → (node_of mid).place ≡ (node_of k).place → (node_of k') ≡ record (node_of mid) { up = None } → (rows_of k') ≡ (rows_of mid)
      → Befalls before i (OfCrashAfter e) (Lost i e c.done.acts) (world_of (set nodes i k') frames)
  lost_done e outputs mid k' c place node rows =
      (site_of k, at, refl, (refl, (outputs, site_of mid, record { commits = c; does = refl; place = place }, alone k' (stopped (site_of mid)) (λ n. record { node = node n; rows = rows n }))))

  -- ---- an event that it doesn't take
  module _ (Of : Site → Fate → Type 0) (e : Event) (may : (fault : KeeperFault) → MayStop (node_of k) e fault → Of (site_of k) (Faulted i fault)) (down : Of (site_of k) (Was_down i)) where
    faulted : (fault : KeeperFault) (k' : Keeper MemoryRows) → fault ≢ Stopped → KeeperHasCauseAt (node_of k).up (node_of k).place e fault → IsInMemory fault → (node_of k') ≡ record (node_of k) { up = None } → (rows_of k') ≡ (rows_of k)
        → Befalls before i Of (Faulted i fault) (world_of (set nodes i k') frames)
    faulted fault k' other cause memory node rows =
        (site_of k, at, may fault (has_cause (node_of k).up (node_of k) e fault refl other cause memory), (refl, (site_of k', record { node = node; rows = inl rows }, alone k' (site_of k') refl)))

    stayed_down : (k' : Keeper MemoryRows) → KeeperHasCauseAt (node_of k).up (node_of k).place e Stopped → ((node_of k).up ≡ None → site_of k' ≡ site_of k) → Befalls before i Of (Was_down i) (world_of (set nodes i k') frames)
    stayed_down k' cause same_keeper =
        let none = was_down (node_of k).up (node_of k).place e cause in
        (site_of k, at, down, (refl, none, still k' (same_keeper none)))

    -- with its line
    pub refused : (ls ls' : List Line) (fault : KeeperFault) (k' : Keeper MemoryRows) → KeeperHasCauseAt (node_of k).up (node_of k).place e fault → IsInMemory fault → ((node_of k).up ≡ None → site_of k' ≡ site_of k) → (node_of k') ≡ record (node_of k) { up = None }
        → (rows_of k') ≡ (rows_of k) → (fault ≡ Stopped → ls' ≡ ls ++ lines.Down i ∷ []) → (fault ≢ Stopped → ls' ≡ ls ++ lines.Fault i fault ∷ []) → IsDoneAt before i Of ls ls' (world_of (set nodes i k') frames)
    refused ls ls' NoMemory k' cause memory stays node rows told other = (Faulted i NoMemory, faulted NoMemory k' (λ x. cc) cause memory node rows, other (λ x. cc))
    refused ls ls' (Rows f) k' cause memory stays node rows told other = (Faulted i (Rows f), faulted (Rows f) k' (λ x. cc) cause memory node rows, other (λ x. cc))
    refused ls ls' NumbersAtEnd k' cause memory stays node rows told other = (Faulted i NumbersAtEnd, faulted NumbersAtEnd k' (λ x. cc) cause memory node rows, other (λ x. cc))
    refused ls ls' Stopped k' cause memory stays node rows told other = (Was_down i, stayed_down k' cause stays, told refl)

  pub event_refused : (e : Event) (ls ls' : List Line) (fault : KeeperFault) (k' : Keeper MemoryRows) → KeeperHasCauseAt (node_of k).up (node_of k).place e fault → IsInMemory fault → ((node_of k).up ≡ None → site_of k' ≡ site_of k)
      → (node_of k') ≡ record (node_of k) { up = None } → (rows_of k') ≡ (rows_of k) → (fault ≡ Stopped → ls' ≡ ls ++ lines.Down i ∷ []) → (fault ≢ Stopped → ls' ≡ ls ++ lines.Fault i fault ∷ []) → IsDoneAt before i (OfEvent e) ls ls' (world_of (set nodes i k') frames)
  event_refused e = refused (OfEvent e) e (λ fault m. m) tt

  pub crash_refused : (e : Event) (ls ls' : List Line) (fault : KeeperFault) (k' : Keeper MemoryRows) → KeeperHasCauseAt (node_of k).up (node_of k).place e fault → IsInMemory fault → ((node_of k).up ≡ None → site_of k' ≡ site_of k)
      → (node_of k') ≡ record (node_of k) { up = None } → (rows_of k') ≡ (rows_of k) → (fault ≡ Stopped → ls' ≡ ls ++ lines.Down i ∷ []) → (fault ≢ Stopped → ls' ≡ ls ++ lines.Fault i fault ∷ []) → IsDoneAt before i (OfCrashAfter e) ls ls' (world_of (set nodes i k') frames)
  crash_refused e = refused (OfCrashAfter e) e (λ fault m. m) tt

  -- ---- a crash before an event
  some_held : (o : Option HeldView) → is_some o ≡ true → (h : HeldView) × (o ≡ Some h)
  some_held None e = cc
  some_held (Some h) e = (h, refl)

  none_held : (o : Option HeldView) → is_some o ≡ false → o ≡ None
  none_held None e = refl
  none_held (Some h) e = cc

  pub cut_done : (k' : Keeper MemoryRows) → is_some (node_of k).up ≡ true → (node_of k') ≡ record (node_of k) { up = None } → (rows_of k') ≡ (rows_of k) → Befalls before i OfCrashBefore (Cut i) (world_of (set nodes i k') frames)
  cut_done k' runs node rows = (site_of k, at, tt, (refl, some_held (node_of k).up runs, alone k' (stopped (site_of k)) (λ n. record { node = node n; rows = rows n })))

  pub cut_down : is_some (node_of k).up ≡ false → Befalls before i OfCrashBefore (Was_down i) (world_of (set nodes i k) frames)
  cut_down down = (site_of k, at, tt, (refl, none_held (node_of k).up down, still k refl))

  -- ---- a restart
  pub restarted : (k' : Keeper MemoryRows) → OpensFromRows (node_of k).place (node_of k).homes (rows_of k) (rows_of k') (node_of k') → Befalls before i OfRestart (Restarted i (node_of k).homes) (world_of (set nodes i k') frames)
  restarted k' o = (site_of k, at, tt, (refl, (site_of k', record { rows = o.mark; node = o.reopened; table = inl refl }, alone k' (site_of k') refl)))

  pub not_restarted : (fault : KeeperFault) (k' : Keeper MemoryRows) → MayStayDown (site_of k) fault → (node_of k') ≡ record (node_of k) { up = None } → may_be_marked (node_of k).place.id (rows_of k) (rows_of k') → Befalls before i OfRestart (Faulted i fault) (world_of (set nodes i k') frames)
  not_restarted fault k' may node rows = (site_of k, at, may, (refl, (site_of k', record { node = node; rows = rows }, alone k' (site_of k') refl)))

-- memory that is refused at the event of a delivery is refused at the delivery
pub delivery_out : (w w' : World) (number at : ℕ) (f : Frame) → nth_from_one w.frames number ≡ Some f → MemoryRunsOut w (steps.Event f.to (arrival f at)) w' → MemoryRunsOut w (steps.Deliver number at) w'
delivery_out w w' number at f there (inl same) = inl same
delivery_out w w' number at f there (inr x) = inr (x.0, x.1, x.2, x.3, x.4, (f, there, x.5), x.6)
