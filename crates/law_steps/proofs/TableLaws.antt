-- What comes of a table of homes in a step.
use Rattle.std.proofs.Common.{◌≡◌, ◌⊎◌, inl, inr, ℕ, ◌<◌, ◌&&◌, ◌^◌, not, nat_eq, nat_lt, Bool, true, false, List, [], ◌∷◌, ◌++◌, length, Some, refl, sym, ap, ◌∙◌, subst, append_assoc, arith, eq-eqb}
use Rattle.std.proofs.lemmas.List.{append-nil}
use Rattle.std.proofs.lemmas.Bool.{and_parts, lt-ltb}
use Rattle.std.proofs.lemmas.Bool.Decides.{nat_tests}
use Rattle.home_table.specs.Table.{Table}
use Rattle.node_work.specs.declared.counts.Missed.TheVariants.{TableRefused}
use Rattle.node_work.specs.Acts.{Act, Began, MomentTaken, Moved, Bridge, Runs, next}
use Rattle.node_work.specs.Doings.{Misses, TakesMoment}
use Rattle.node_work.specs.Held.Bridge.{Left_out}
use Rattle.node_work.specs.View.{Place, HeldView, nodes_of}
use Rattle.node_work.specs.Working.{If, Then}
use Rattle.node_work.proofs.Working.{runs_join}
use Rattle.broker_node.specs.declared.event.Event.{Event}
use Rattle.broker_node.specs.declared.event.EventKind.TheVariants as kinds
use Rattle.broker_node.specs.Due as due
use Rattle.broker_node.specs.Moving as tables
use Rattle.broker_node.specs.Turns as turns
use Rattle.law_runs.proofs.Keeping.{none_some}
use Rattle.law_runs.proofs.Passing.{numbered}
use Rattle.law_runs.proofs.Splits.{left_by}
use Rattle.law_steps.specs.Tables.{ClientsGo, IsNewer, TicksFirst, TableIsTaken, TableIsRefused, TablesAreTaken, TablesWait, BeginsWork, StartsSendAway}
use Rattle.law_steps.proofs.Beginning.{still_homes}
use Rattle.law_steps.proofs.MoveEnding.{second_runs}
use Rattle.law_steps.proofs.Still.{closes_stored, does_due}
use Rattle.law_steps.proofs.Turn.{sends_away}

-- ---- the moment, and then the turn
pub record Turning (p : Place) (h : HeldView) (e : Event) (acts : List Act) : Type 0 where
  pub rest : List Act
  pub is : acts ≡ MomentTaken e.at ∷ rest
  pub first : TakesMoment e.at (Some tt) p h (MomentTaken e.at ∷ [])
  pub does : If h.started (turns.AnswersAfterDue e.kind) (turns.AwaitsStart e.kind) (Some tt) p (next h (MomentTaken e.at)) rest

pub turning : (e : Event) (p : Place) (h : HeldView) (acts : List Act) → turns.Decides e (Some tt) p h acts → Turning p h e acts
turning e p h acts (inl d) = none_some (sym d.0)
turning e p h acts (inr (x, own, mid, rest, one, runs, more, is)) =
    let alone : own ≡ MomentTaken e.at ∷ [] = numbered (not (nat_lt e.at (2 ^ 62))) x (MomentTaken e.at) own one in
    let left : mid ≡ next h (MomentTaken e.at) = left_by p h mid (MomentTaken e.at) own alone runs in
    record {
      rest = rest;
      is = is ∙ ap (λ xs. xs ++ rest) alone;
      first = subst (TakesMoment e.at (Some tt) p h) alone one;
      does = subst (λ (v : HeldView). If v.started (turns.AnswersAfterDue e.kind) (turns.AwaitsStart e.kind) (Some tt) p v rest) left more;
    }

moment_runs : (p : Place) (h : HeldView) (at : ℕ) → Runs p h (MomentTaken at ∷ []) (next h (MomentTaken at))
moment_runs p h at = (next h (MomentTaken at), (tt, refl), refl)

turn_runs : (e : Event) (p : Place) (h last : HeldView) (acts : List Act) (t : Turning p h e acts) → Runs p h acts last → Runs p (next h (MomentTaken e.at)) t.rest last
turn_runs e p h last acts t runs = second_runs p h (next h (MomentTaken e.at)) last (MomentTaken e.at ∷ []) t.rest acts t.is (moment_runs p h e.at) runs

-- ---- what is due first, as at a Tick
ticks_first : (e : Event) (p : Place) (h mid : HeldView) (acts own : List Act) → h.started ≡ true → Turning p h e acts → due.DoesDue (Some tt) p (next h (MomentTaken e.at)) own → Runs p (next h (MomentTaken e.at)) own mid → TicksFirst e p h
ticks_first e p h mid acts own started t one ran =
    let a = MomentTaken e.at ∷ [] in
    let start = next h (MomentTaken e.at) in
    let does : turns.AnswersAfterDue kinds.Tick (Some tt) p start own = inr (tt, own, mid, [], one, ran, (refl, refl), sym (append-nil own)) in
    record {
      due = a ++ own;
      does = inr (tt, a, start, own, t.first, moment_runs p h e.at, subst (λ b. If b (turns.AnswersAfterDue kinds.Tick) (turns.AwaitsStart kinds.Tick) (Some tt) p start own) (sym started) does, refl);
      left = mid;
      runs = runs_join p a own h start mid (moment_runs p h e.at) ran;
    }

due_homes : (p : Place) (h mid : HeldView) (own : List Act) → due.DoesDue (Some tt) p h own → Runs p h own mid → mid.homes ≡ h.homes
due_homes p h mid own one ran = still_homes p h mid own (does_due tt p h own one) ran

-- ---- the test
same_number : (a b : ℕ) → nat_eq a b ≡ true → a ≡ b
same_number a b e = grind (arith, nat_tests)

below_number : (a b : ℕ) → nat_lt a b ≡ true → a < b
below_number a b e = grind (arith, nat_tests)

is_newer : (homes : Table) (p : Place) (h mid : HeldView) → mid.homes ≡ h.homes → tables.is_newer_table homes p mid ≡ true → IsNewer p h homes
is_newer homes p h mid same newer =
    let parts = and_parts (nat_eq (length homes.nodes) (nodes_of p)) (nat_lt mid.homes.version homes.version) newer in
    (same_number _ _ parts.0, subst (λ (t : Table). t.version < homes.version) same (below_number _ _ parts.1))

both_true : (a b : Bool) → a ≡ true → b ≡ true → (a && b) ≡ true
both_true true b e f = f
both_true false b e f = cc

not_newer : (homes : Table) (p : Place) (h mid : HeldView) → mid.homes ≡ h.homes → tables.is_newer_table homes p mid ≡ false → IsNewer p h homes → ⊥
not_newer homes p h mid same older newer =
    let nodes : nat_eq (length homes.nodes) (nodes_of p) ≡ true = eq-eqb (length homes.nodes) (nodes_of p) newer.0 in
    let version : nat_lt mid.homes.version homes.version ≡ true = lt-ltb mid.homes.version homes.version (subst (λ (t : Table). t.version < homes.version) (sym same) newer.1) in
    let z : true ≡ false = sym (both_true (nat_eq (length homes.nodes) (nodes_of p)) (nat_lt mid.homes.version homes.version) nodes version) ∙ older in cc

-- ---- a table that is handed to a node that has started
module _ (e : Event) (homes : Table) (p : Place) (h last : HeldView) (acts : List Act) (started : h.started ≡ true) (t : Turning p h e acts) (runs : Runs p h acts last) where
  abbrev start : HeldView
  start = next h (MomentTaken e.at)

  abbrev Comes : Type 0
  Comes = (IsNewer p h homes × TableIsTaken e p h homes acts last) ⊎ ((¬ (IsNewer p h homes)) × TableIsRefused e p h acts last)

  module _ (own rest : List Act) (mid : HeldView) (one : due.DoesDue (Some tt) p start own) (ran : Runs p start own mid) (is : t.rest ≡ own ++ rest) where
    abbrev first : TicksFirst e p h
    first = ticks_first e p h mid acts own started t one ran

    whole : acts ≡ first.due ++ rest
    unfolding ticks_first
    whole = t.is ∙ ap (λ xs. MomentTaken e.at ∷ xs) is

    later : Runs p mid rest last
    later = second_runs p start mid last own rest t.rest is ran (turn_runs e p h last acts t runs)

    same : mid.homes ≡ h.homes
    same = due_homes p start mid own one ran

    comes_by : (newer : Bool) → tables.is_newer_table homes p mid ≡ newer → If newer (tables.TakesNewerTable homes) (Misses TableRefused) (Some tt) p mid rest → Comes
    unfolding ticks_first
    comes_by true newer (inl d) = none_some (sym d.0)
    comes_by true newer (inr (x, made, moved, away, takes, ran2, more, all)) =
        let left : moved ≡ next mid (Moved homes) = left_by p mid moved (Moved homes) made takes.1 ran2 in
        let after : Runs p moved away last = second_runs p mid moved last made away rest all ran2 later in
        inl (
          is_newer homes p h mid same newer,
          record {
            first = first;
            rest = away;
            is = whole ∙ ap (λ xs. first.due ++ xs) (all ∙ ap (λ xs. xs ++ away) takes.1);
            sends = subst (λ v. ClientsGo p v away last) left (sends_away tt p moved last away more after);
          },
        )
    comes_by false newer d =
        inr (
          not_newer homes p h mid same newer,
          record {
            first = first;
            is = whole ∙ ap (λ xs. first.due ++ xs) d.1;
            counted = left_by p mid last (Bridge (Left_out TableRefused)) rest d.1 later;
          },
        )

  comes : Then due.DoesDue (λ _. tables.TakesTable homes) (Some tt) p start t.rest → Comes
  comes (inl d) = none_some (sym d.0)
  comes (inr (x, own, mid, rest, one, ran, more, is)) = comes_by own rest mid one ran is (tables.is_newer_table homes p mid) refl more

pub tables_are_taken : TablesAreTaken
tables_are_taken = λ e homes p h last acts is started d runs. (
    let t = turning e p h acts d in
    let does : turns.AnswersAfterDue (kinds.Table homes) (Some tt) p (next h (MomentTaken e.at)) t.rest =
    subst (λ k. turns.AnswersAfterDue k (Some tt) p (next h (MomentTaken e.at)) t.rest) is (subst (λ b. If b (turns.AnswersAfterDue e.kind) (turns.AwaitsStart e.kind) (Some tt) p (next h (MomentTaken e.at)) t.rest) started t.does) in
    comes e homes p h last acts started t runs does)

pub tables_wait : TablesWait
tables_wait = λ e homes p h acts is waits d. (
    let t = turning e p h acts d in
    let does : turns.AwaitsStart (kinds.Table homes) (Some tt) p (next h (MomentTaken e.at)) t.rest =
    subst (λ k. turns.AwaitsStart k (Some tt) p (next h (MomentTaken e.at)) t.rest) is (subst (λ b. If b (turns.AnswersAfterDue e.kind) (turns.AwaitsStart e.kind) (Some tt) p (next h (MomentTaken e.at)) t.rest) waits t.does) in
    t.is ∙ ap (λ xs. MomentTaken e.at ∷ xs) does.1)

-- ---- a node that begins its work
starts : (p : Place) (h0 h last : HeldView) (front rest acts : List Act) → Runs p h0 front h → h.homes ≡ h0.homes → acts ≡ front ++ rest → due.Starts (Some tt) p h rest → Runs p h rest last → BeginsWork p h0 acts last
starts p h0 h last front rest acts ran0 same0 is0 (inl d) runs = none_some (sym d.0)
starts p h0 h last front rest acts ran0 same0 is0 (inr (x, began, h1, rest1, one, ran1, (inl d), is1)) runs = none_some (sym d.0)
starts p h0 h last front rest acts ran0 same0 is0 (inr (x, began, h1, rest1, one, ran1, (inr (y, closed, h2, rest2, two, ran2, (inl d), is2)), is1)) runs = none_some (sym d.0)
starts p h0 h last front rest acts ran0 same0 is0 (inr (x, began, h1, rest1, one, ran1, (inr (y, closed, h2, rest2, two, ran2, (inr (z, own, h3, rest3, three, ran3, more, is3)), is2)), is1)) runs =
    let later1 : Runs p h1 rest1 last = second_runs p h h1 last began rest1 rest is1 ran1 runs in
    let later2 : Runs p h2 rest2 last = second_runs p h1 h2 last closed rest2 rest1 is2 ran2 later1 in
    let later3 : Runs p h3 rest3 last = second_runs p h2 h3 last own rest3 rest2 is3 ran3 later2 in
    let left : h1 ≡ next h Began = left_by p h h1 Began began one.1 ran1 in
    let first : List Act = front ++ (began ++ (closed ++ own)) in
    record {
      first = first;
      left = h3;
      runs = runs_join p front (began ++ (closed ++ own)) h0 h h3 ran0 (runs_join p began (closed ++ own) h h1 h3 ran1 (runs_join p closed own h1 h2 h3 ran2 ran3));
      homes = still_homes p h2 h3 own (does_due z p h2 own three) ran3 ∙ still_homes p h1 h2 closed (closes_stored y p h1 closed two) ran2 ∙ ap (λ (v : HeldView). v.homes) left ∙ same0;
      rest = rest3;
      is = is0 ∙ ap (λ xs. front ++ xs) (is1 ∙ ap (λ xs. began ++ xs) (is2 ∙ ap (λ xs. closed ++ xs) is3 ∙ sym (append_assoc closed own rest3)) ∙ sym (append_assoc began (closed ++ own) rest3)) ∙ sym (append_assoc front (began ++ (closed ++ own)) rest3);
      sends = sends_away tt p h3 last rest3 more later3;
    }

pub starts_send_away : StartsSendAway
starts_send_away = λ e p h last acts is waits d runs. (
    let t = turning e p h acts d in
    let does : due.Starts (Some tt) p (next h (MomentTaken e.at)) t.rest =
    subst (λ k. turns.AwaitsStart k (Some tt) p (next h (MomentTaken e.at)) t.rest) is (subst (λ b. If b (turns.AnswersAfterDue e.kind) (turns.AwaitsStart e.kind) (Some tt) p (next h (MomentTaken e.at)) t.rest) waits t.does) in
    starts p h (next h (MomentTaken e.at)) last (MomentTaken e.at ∷ []) t.rest acts (moment_runs p h e.at) refl t.is does (turn_runs e p h last acts t runs))
