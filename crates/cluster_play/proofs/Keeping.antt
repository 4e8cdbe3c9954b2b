-- What the rows of nodes say, and what a restart makes of them.
use Rattle.std.proofs.Common.{◌≡◌, ℕ, length, List, ◌∷◌, ◌++◌, true, Some, sym, ap, ◌∙◌, inl, inr, subst}
use Rattle.std.specs.List.{slice_get}
use Rattle.std.specs.FinSet as set
use Rattle.causal_context.specs.Dots.{Dot, Dots}
use Rattle.node_keeper.specs.declared.fault.KeeperFault.{KeeperFault}
use Rattle.home_table.specs.Table.{Table}
use Rattle.node_keeper.specs.Keeping.{AreOf, AreOfNone}
use Rattle.node_rows.proofs.OneNode.{rows_tell_all}
use Rattle.node_rows.specs.Reading.{IsLasting}
use Rattle.bridge_frames.specs.declared.body.FrameBody.{FrameBody}
use Rattle.bridge_frames.specs.declared.body.FrameBody.TheVariants.{Know}
use Rattle.bridge_frames.specs.declared.frame.BridgeFrame.{BridgeFrame}
use Rattle.node_work.specs.Acts.{Act, Bridge}
use Rattle.node_work.specs.Held.Bridge.{Carries, Gave}
use Rattle.node_work.specs.Lasting.{IsWoken, lasting}
use Rattle.node_work.specs.View.{HeldView}
use Rattle.cluster_play.specs.Worlds.{Site, World, Fate, Faulted, Restarted, Happens, stopped}
use Rattle.cluster_play.specs.Runs.{Played}
use Rattle.cluster_play.specs.Histories.{Reached, site, acts_of, gained, made, taken, taken_amid}
use Rattle.cluster_play.specs.Agreement.{Holds}
use Rattle.cluster_play.specs.Lasting.{KeepsIts, WakesFrom}
use Rattle.cluster_play.proofs.Bools.{or_true, or_left, or_right, some_is}
use Rattle.cluster_play.proofs.Sites.{get-set_same}
use Rattle.cluster_play.proofs.Amid.{amid_acts, taken_step}
use Rattle.cluster_play.proofs.Explaining.{Seated, is_first, lasts_here, past, seat_lasts}
use Rattle.cluster_play.proofs.Kept.{explained}
use Rattle.cluster_play.proofs.Lasts.{may_be_same, reopened}
use Rattle.cluster_play.proofs.Paths.{Befell, befell}
use Rattle.cluster_play.proofs.Rows.{Woke, came}
use Rattle.cluster_play.proofs.Sound.{state_by}
use Rattle.cluster_play.proofs.Splits.{gained_both}

module _ (run : List Played) (w : World) (r : Reached run w) (i : ℕ) (s : Site) (at : slice_get w.sites i ≡ Some s) where
  seat : Seated (past r.start run) (length w.sites) i s
  seat = (explained run w r).sites i s at

  can : IsLasting i (length w.sites) (lasting seat.held)
  can = seat_lasts (past r.start run) w (explained run w r) i s at seat

  can_here : IsLasting s.node.place.id s.node.place.nodes (lasting seat.held)
  can_here = lasts_here (past r.start run) w (explained run w r) i s at seat

  pub keeps_operations : KeepsIts run i s
  keeps_operations = record {
    said = lasting seat.held;
    are = (can_here, seat.rows);
    state = state_by (made run) seat.held.store (taken i run) seat.holding.grown.sound seat.listed;
    listed = seat.listed;
  }

  pub rows_of_node : AreOfNone s.node.place s.rows → ⊥
  rows_of_node none = none (lasting seat.held) (inl (can_here, seat.rows))

pub rows_of_held : (run : List Played) (w : World) → Reached run w → (i : ℕ) (h : HeldView) (at : Holds w i h) → AreOf at.site.node.place at.site.rows h × IsLasting i (length w.sites) (lasting h)
rows_of_held run w r i h at =
    let x = seat run w r i at.site at.at in
    let same : x.held ≡ h = sym (x.up h at.up) in
    (subst (AreOf at.site.node.place at.site.rows) same x.rows, subst (λ (v : HeldView). IsLasting i (length w.sites) (lasting v)) same (can run w r i at.site at.at))

restarted_seat : (run : List Played) (w w' : World) (r : Reached run w) (i : ℕ) (homes : Table) → Woke w i homes w' → (h' : HeldView) → Holds w' i h' → WakesFrom run r.start w i homes h'
restarted_seat run w w' r i homes c h' holds =
    let x = seat run w r i c.was c.at in
    let o = c.reopens.node in
    let place = c.was.node.place in
    let again = reopened rows_tell_all place homes c.was.rows c.later.rows x.held o.held o.lasting (can_here run w r i c.was c.at) x.rows c.reopens.rows o.are o.woken in
    let there : c.later ≡ holds.site = some_is (sym (get-set_same w.sites i c.later c.was c.at) ∙ sym (ap (λ ss. slice_get ss i) c.sites) ∙ holds.at) in
    let same : o.held ≡ h' = some_is (sym (ap (λ n. n.up) o.is) ∙ ap (λ (s : Site). s.node.up) there ∙ holds.up) in
    record {
      site = c.was;
      at = c.at;
      held = x.held;
      last = record { first = x.first; is_first = is_first r.start i x.first x.was; moves = x.moves; homes = x.homes; rows = x.rows; up = x.up };
      woken = subst (IsWoken homes (lasting x.held)) same again.woken;
    }

pub restarts_with_what_lasts : (run : List Played) (w w' : World) (m : Played) (r : Reached run w) → Happens w m.step m.fate w' → (i : ℕ) (homes : Table) → m.fate ≡ Restarted i homes → (h' : HeldView) → Holds w' i h' → WakesFrom run r.start w i homes h'
restarts_with_what_lasts run w w' m r h i homes is h' holds =
    restarted_seat run w w' r i homes (came w m.step (Restarted i homes) w' (subst (λ (f : Fate). Happens w m.step f w') is h)) h' holds

faulted_site : (run : List Played) (w w' : World) → Reached run w → (i : ℕ) (fault : KeeperFault) → Befell w (Faulted i fault) w' → (s s' : Site) → slice_get w.sites i ≡ Some s → slice_get w'.sites i ≡ Some s' → s' ≡ stopped s
faulted_site run w w' r i fault b s s' at at' =
    let here : i ≡ b.i = b.becomes.0 in
    let later = b.becomes.1.0 in
    let h = b.becomes.1.1 in
    let was : b.was ≡ s = some_is (sym b.at ∙ ap (slice_get w.sites) (sym here) ∙ at) in
    let there : later ≡ s' = some_is (sym (get-set_same w.sites b.i later b.was b.at) ∙ ap (λ (v : World). slice_get v.sites b.i) (sym b.becomes.1.2) ∙ ap (slice_get w'.sites) (sym here) ∙ at') in
    let x = seat run w r b.i b.was b.at in
    let rows : later.rows ≡ b.was.rows = may_be_same b.was.node.place b.was.rows later.rows x.held x.rows h.rows in
    sym there ∙ (λ n. record { node = h.node n; rows = rows n }) ∙ ap stopped was

pub faults_leave_rows : (run : List Played) (w w' : World) (m : Played) → Reached run w → Happens w m.step m.fate w' → (i : ℕ) (fault : KeeperFault) → m.fate ≡ Faulted i fault
    → (s s' : Site) → slice_get w.sites i ≡ Some s → slice_get w'.sites i ≡ Some s' → s' ≡ stopped s
faults_leave_rows run w w' m r h i fault is =
    faulted_site run w w' r i fault (befell w m.step (Faulted i fault) w' (subst (λ (f : Fate). Happens w m.step f w') is h))

known_dots : (held : HeldView) (to : ℕ) (dots : Dots) (b : FrameBody) → Carries held to b → b ≡ Know dots → dots ≡ held.store.taken
known_dots held to dots b h e = subst (Carries held to) e h

pub knows_what_is_taken : (run later : List Played) (m : Played) (w : World) → Reached (run ++ m ∷ later) w
    → (before after : List Act) (f : BridgeFrame) (dots : Dots) → acts_of m.fate ≡ before ++ Bridge (Gave f) ∷ after → f.body ≡ Know dots
    → (d : Dot) → set.contains dots d ≡ true → taken (site m.fate) (run ++ m ∷ later) d ≡ true
knows_what_is_taken run later m w r before after f dots acts is d h =
    let i = site m.fate in
    let a = amid_acts run later m w r before after (Bridge (Gave f)) acts in
    let there : taken_amid i run before d ≡ true = sym (a.listed d) ∙ ap (λ ds. set.contains ds d) (sym (known_dots a.held f.to dots f.body a.runs.1.0.carries is)) ∙ h in
    taken_step run later m d (elim (or_true (taken i run d) _ there) [
      | inl x ↦ or_left (taken i run d) _ x
      | inr y ↦ or_right (taken i run d) _ (ap (λ xs. gained xs d) acts ∙ gained_both before (Bridge (Gave f) ∷ after) d ∙ or_left (gained before d) (gained after d) y)
    ])
