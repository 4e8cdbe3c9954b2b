-- What a served node takes and commits is a run, and so is a crash of it.
use Rattle.std.proofs.Common.{◌≡◌, ℕ, List, [], ◌∷◌, Some, ◌⊎◌, inl, inr, refl, sym, ap, subst, ◌∙◌}
use Rattle.cluster_play.proofs.Sites.{get-set_same}
use Rattle.cluster_play.specs.Worlds.{Site, World}
use Rattle.node_keeper.specs.declared.batch.BatchKeeper.{BatchKeeper}
use Rattle.node_keeper.specs.Batches.{Answered, AreDecided, AreHandled}
use Rattle.node_keeper.specs.BatchViews.{node_in, rows_in, waiting_in}
use Rattle.node_keeper.proofs.Batching.{batch_is_steps}
use Rattle.node_server.specs.Serving.{IsTaken, committed}
use Rattle.node_work.specs.View.{NodeView}
use Rattle.row_store.specs.declared.row.Change.{Change}
use Rattle.row_store.specs.Rows.{Content, after_all}
use Rattle.law_serving.proofs.ServedRunning.{crash_is_run, runs_on, turn_is_run}
use Rattle.law_serving.specs.Settling.{EventsAreTaken, TurnBegins, CrashAfterCommit, CrashAmidCommit, CrashBeforeCommit, CrashWhereHalted, SettledIsRun, served_site}
use Rattle.law_serving.specs.Turns.{CutAfter, CutBefore, IsRunOf, down}

-- ---- what is taken

taken_decided : {R : Type 0} (k k' : BatchKeeper R) (answered : List Answered) → EventsAreTaken k answered k' → AreDecided (node_in k) (waiting_in k) answered (node_in k') (waiting_in k')
taken_decided k k' [] same = (ap (λ b. node_in b) same, ap (λ b. waiting_in b) same)
taken_decided k k' (a ∷ more) taken = (node_in taken.0, waiting_in taken.0, taken.1.decided, taken_decided taken.0 k' more taken.2)

-- touches no rows
pub taken_rows : {R : Type 0} (k k' : BatchKeeper R) (answered : List Answered) → EventsAreTaken k answered k' → rows_in k' ≡ rows_in k
taken_rows k k' [] same = ap (λ b. rows_in b) same
taken_rows k k' (a ∷ more) taken = taken_rows taken.0 k' more taken.2 ∙ taken.1.rows

module _ {R : Type 0} (is_clean is_open : R → Type 0) (content : R → Content) (may_leave : R → Content → Type 0) where
  -- with its changes made at once, it was handled event by event
  taken_handled : (w : World) (i : ℕ) (k k' : BatchKeeper R) (answered : List Answered) → TurnBegins is_open content w i k → EventsAreTaken k answered k'
      → AreHandled (node_in k) (content (rows_in k)) answered (node_in k') (committed content k')
  taken_handled w i k k' answered b taken =
      let Decided : List Change → Type 0 = λ waiting. AreDecided (node_in k) waiting answered (node_in k') (waiting_in k') in
      let Handled : R → Type 0 = λ rows. AreHandled (node_in k) (content (rows_in k)) answered (node_in k') (after_all (content rows) (waiting_in k')) in
      subst Handled (sym (taken_rows k k' answered taken))
      (batch_is_steps (node_in k) (node_in k') (content (rows_in k)) answered (waiting_in k') (subst Decided b.nothing (taken_decided k k' answered taken)))

  still_open : (w : World) (i : ℕ) (k k' : BatchKeeper R) (answered : List Answered) → TurnBegins is_open content w i k → EventsAreTaken k answered k' → is_open (rows_in k')
  still_open w i k k' answered b taken = subst is_open (sym (taken_rows k k' answered taken)) b.stands

  pub settled_is_run : SettledIsRun is_clean is_open content may_leave
  settled_is_run w i k k' k'' answered b taken commit clean =
      let stands = still_open w i k k' answered b taken in
      let written = commit.written clean stands in
      let run = turn_is_run w i (served_site content k) answered (node_in k') (committed content k') b.at (taken_handled w i k k' answered b taken) in
      let Node : NodeView → Type 0 = λ n. IsRunOf w i answered (record { node = n; rows = content (rows_in k'') }) in
      let Rows : Content → Type 0 = λ c. IsRunOf w i answered (record { node = node_in k'; rows = c }) in
      let on = runs_on (node_in k) (node_in k') (content (rows_in k)) (committed content k') answered b.held b.up (taken_handled w i k k' answered b taken) in (
        subst Node (sym commit.node) (subst Rows (sym written.1) run),
        record {
          at = get-set_same w.sites i (served_site content k'') (served_site content k) b.at;
          held = on.0;
          up = ap (λ (n : NodeView). n.up) commit.node ∙ on.1;
          nothing = commit.nothing;
          stands = written.0;
        },
        subst is_clean (taken_rows k k' answered taken) (commit.was_clean clean),
      )

  -- ---- a crash

  crashes : (w : World) (i : ℕ) (k k' : BatchKeeper R) (answered : List Answered) → TurnBegins is_open content w i k → EventsAreTaken k answered k'
      → CutBefore w i (down (node_in k) (content (rows_in k))) × CutAfter w i answered (down (node_in k') (committed content k'))
  crashes w i k k' answered b taken =
      crash_is_run w i (served_site content k) b.held answered (node_in k') (committed content k') b.at b.up (taken_handled w i k k' answered b taken)

  was_cut : (w : World) (i : ℕ) (k k' : BatchKeeper R) (answered : List Answered) → TurnBegins is_open content w i k → EventsAreTaken k answered k'
      → (c : Content) → c ≡ content (rows_in k') → CutBefore w i (down (node_in k) c)
  was_cut w i k k' answered b taken c is =
      let Cut : Content → Type 0 = λ x. CutBefore w i (down (node_in k) x) in
      subst Cut (sym (is ∙ ap content (taken_rows k k' answered taken))) (crashes w i k k' answered b taken).0

  was_after : (w : World) (i : ℕ) (k k' : BatchKeeper R) (answered : List Answered) → TurnBegins is_open content w i k → EventsAreTaken k answered k'
      → (c : Content) → c ≡ committed content k' → CutAfter w i answered (down (node_in k') c)
  was_after w i k k' answered b taken c is =
      let Cut : Content → Type 0 = λ x. CutAfter w i answered (down (node_in k') x) in
      subst Cut (sym is) (crashes w i k k' answered b taken).1

  -- while rows are open a crash leaves what they hold
  module _ (settled : (rows : R) (c : Content) → is_open rows → may_leave rows c → c ≡ content rows) where
    pub crash_before_commit : CrashBeforeCommit is_open content may_leave
    crash_before_commit w i k k' answered b taken c left =
        was_cut w i k k' answered b taken c (settled (rows_in k') c (still_open w i k k' answered b taken) left)

    pub crash_where_halted : CrashWhereHalted is_open content may_leave
    crash_where_halted w i k k' k'' answered e fault b taken halted c left =
        let Left : R → Type 0 = λ rows. may_leave rows c in
        crash_before_commit w i k k' answered b taken c (subst Left halted.rows left)

  pub crash_amid_commit : CrashAmidCommit is_clean is_open content may_leave
  crash_amid_commit w i k k' k'' answered fault b taken off clean c left =
      elim (off.left clean (still_open w i k k' answered b taken) c left) [
        | inl before ↦ inl (was_cut w i k k' answered b taken c before)
        | inr made ↦ inr (was_after w i k k' answered b taken c made)
      ]

  pub crash_after_commit : CrashAfterCommit is_clean is_open content may_leave
  crash_after_commit w i k k' k'' answered b taken commit clean c left =
      was_after w i k k' answered b taken c (commit.left clean (still_open w i k k' answered b taken) c left)
