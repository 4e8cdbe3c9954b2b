-- The commands of the program, and the tasks of what follows them.
use Rattle.std.proofs.Common.{◌≡◌, ◌∙◌, ◌≤◌, ℕ, List, [], Option, Some, None, Result, Ok, Err, Bool, true, false, codes, inl, inr, refl, sym, ap, subst, option_map}
use Rattle.std.specs.Prelude.{IfOk, IfSome, IsErrAnd, MatchResult}
use Rattle.std.specs.Borrow.{Bor}
use Rattle.std.specs.Box.{box_value}
use Rattle.std.specs.Str.Parse.{ParsesUnsigned}
use Rattle.clap.specs.Words.{App, HasKind, HasMatchesOf, Row, Text, fault_of, first_of, first_value, is_simple, is_simple_and_free, one_of, found_of, one_text, rows_of, subcommand_name_of, subcommand_of, subcommand_rows_of}
use Rattle.clap.specs.declared.parser.matches.ArgMatches.{ArgMatches}
use Rattle.clap.specs.declared.parser.matches.Found.{Found}
use Rattle.clap.specs.declared.parser.matches.ArgMatches.TheViews.{out-ArgMatches, out-SubCommand}
use Rattle.clap.specs.declared.error.Error.{Error}
use Rattle.clap.proofs.OnLiterals.{clap_on_literals}
use Rattle.clap.proofs.WalkLemmas.{first_value-rows, one_text-rows}
use Rattle.broker_command.specs.Line.{broker, IsFlag, IsNode, IsNumber, IsOf, IsRun, IsServe, IsTask}
use Rattle.broker_command.specs.declared.task.Task.{Task}
use Rattle.broker_command.specs.declared.task.Task.TheVariants.{Play, Loopback, Serve, Password, Check, DropRows, Balancer}

-- the program's commands are such that what a parse of words gives is stated exactly
pub broker_is_simple : is_simple broker ≡ true
unfolding broker clap_on_literals
broker_is_simple = refl

-- and such that its faults are
pub broker_is_free : is_simple_and_free broker ≡ true
unfolding broker clap_on_literals
broker_is_free = refl

-- what a getter of text gives is the first value of the row
pub word_of : (f : Found) (id : Text) (o : Option (Bor Text)) (s : Bor Text) (w : Text) → option_map (λ b. b.now) o ≡ first_value f id
    → o ≡ Some s → w ≡ s.now → first_of id (rows_of f) ≡ Some w
word_of f id o s w e is w_is = sym (first_value-rows f id) ∙ sym e ∙ ap (option_map (λ b. b.now)) is ∙ ap Some (sym w_is)

-- where it gives none, the row has none
pub absent_word : (f : Found) (id : Text) (o : Option (Bor Text)) → option_map (λ b. b.now) o ≡ first_value f id → o ≡ None → first_of id (rows_of f) ≡ None
absent_word f id o e is = sym (first_value-rows f id) ∙ sym e ∙ ap (option_map (λ b. b.now)) is

-- what a getter of a number gives is the number that the row's text spells
pub number_read : (E : Type 0) (G : Text → Result ℕ E → Type 0) (f : Found) (id : Text) (number : ℕ)
    → ((t : Text) (r : Result ℕ E) → G t r → ParsesUnsigned 32 10 t r)
    → (one_text f id ≡ None → ⊥) → ((t : Text) → one_text f id ≡ Some t → G t (Ok number))
    → 1 ≤ number → number ≤ 1000000000 → IsNumber (rows_of f) id number
number_read E G f id number only none value least most = go (one_text f id) refl
  where
    go : (o : Option Text) → one_text f id ≡ o → IsNumber (rows_of f) id number
    go None e = absurd (none e)
    go (Some t) e =
        let read = only t (Ok number) (value t e) in record {
          text = t;
          given = sym (one_text-rows f id) ∙ e;
          numeral = read.0.0;
          value = read.1;
          least = least;
          most = most;
        }

-- where it gives none, there is no text
pub none_read : (f : Found) (id : Text) → ((t : Text) → one_text f id ≡ Some t → ⊥) → one_of id (rows_of f) ≡ None
none_read f id never = go (one_text f id) refl
  where
    go : (o : Option Text) → one_text f id ≡ o → one_of id (rows_of f) ≡ None
    go None e = sym (one_text-rows f id) ∙ e
    go (Some t) e = absurd (never t e)

-- a flag that a getter reads
pub flag_read : (f : Found) (id : Text) (given : Bool) → (one_text f id ≡ None → given ≡ false) → (one_text f id ≡ Some (codes "false") → given ≡ false)
    → (one_text f id ≡ Some (codes "true") → given ≡ true) → IsFlag (rows_of f) id given
flag_read f id given absent off on = record {
  absent = λ e. absent (one_text-rows f id ∙ e);
  off = λ e. off (one_text-rows f id ∙ e);
  on = λ e. on (one_text-rows f id ∙ e);
}

-- a parse that succeeds found no fault, and met the command that the words name
pub asked : (a : App) (words : List Text) (m : ArgMatches) → a ≡ broker → HasMatchesOf a words m
    → (is_simple_and_free a ≡ true → fault_of a words ≡ []) → (o : Option Task) → IfSome o (IsOf (subcommand_rows_of m)) → IfSome o (IsTask words)
asked a words m is matches free None h = h
asked a words m is matches free (Some task) h = record {
  faultless = ap (λ (x : App). fault_of x words) (sym is) ∙ free (ap is_simple_and_free is ∙ broker_is_free);
  asked = subst (λ (s : Option (Text × List Row)). IsOf s task) ((matches (ap is_simple is ∙ broker_is_simple)).1 ∙ ap (λ (x : App). subcommand_of x words) is) h;
}

-- a parse that fails has one of the words' faults, or memory ran out
pub refused : {X : Type 0} (a : App) (words : List Text) (e : Error) (r : Result X Error) (P : X → Type 0) → a ≡ broker
    → (is_simple_and_free a ≡ true → HasKind (fault_of a words) e) → IsErrAnd r (λ x. x ≡ e) → MatchResult r P (HasKind (fault_of broker words))
refused a words e (Ok x) P is fails given = absurd given
refused a words e (Err x) P is fails given =
    let failed = subst (λ (y : App). HasKind (fault_of y words) e) is (fails (ap is_simple_and_free is ∙ broker_is_free)) in
    subst (λ (y : Error). HasKind (fault_of broker words) y) (sym given) failed

-- a node for as many turns as were read
pub counted_if : {E : Type 0} (rows : List Row) (turns : ℕ) (r : Result (Option Task) E) → IsNumber rows (codes "turns") turns
    → IfOk r (λ o. IfSome o (IsNode rows (Some turns))) → IfOk r (λ o. IfSome o (IsServe rows))
counted_if rows turns (Ok None) read h = h
counted_if rows turns (Ok (Some task)) read h = (turns, read, h)
counted_if rows turns (Err e) read h = h

pub firsts : {A X Y : Type 0} (f : A → X) (g : A → Y) (o : Option A) → option_map (λ (p : X × Y). p.0) (option_map (λ (a : A). (f a, g a)) o) ≡ option_map f o
firsts f g None = refl
firsts f g (Some a) = refl

-- the name of the subcommand that a parse entered is the first part of its rows
pub named_rows : (m : ArgMatches) → option_map (λ p. p.0) (subcommand_rows_of m) ≡ subcommand_name_of m
named_rows m = firsts (λ b. (out-SubCommand (box_value b)).name.now) (λ b. rows_of (found_of (out-SubCommand (box_value b)).matches)) (out-ArgMatches m).subcommand

-- the subcommand that a parse entered, by its name and by its rows
entered : (o : Option (Text × List Row)) (name : Text) (rows : List Row) → option_map (λ p. p.0) o ≡ Some name → option_map (λ p. p.1) o ≡ Some rows → o ≡ Some (name, rows)
entered None name rows named rowed = let bad : ◌≡◌ {A = Option Text} None (Some name) = named in cc
entered (Some (n, r)) name rows named rowed = cc (named, rowed)

served_is : (rows : List Row) (o : Option Task) → IfSome o (IsServe rows) → IfSome o (IsOf (Some (codes "serve", rows)))
served_is rows None h = h
served_is rows (Some (Play script)) h = absurd h.2
served_is rows (Some (Loopback script)) h = absurd h.2
served_is rows (Some (Serve asked)) h = inl (refl, h)
served_is rows (Some (Check configuration node database)) h = absurd h.2
served_is rows (Some (Password name)) h = absurd h.2
served_is rows (Some (DropRows asked)) h = absurd h.2
served_is rows (Some (Balancer configuration)) h = absurd h.2

run_is : (rows : List Row) (o : Option Task) → IfSome o (IsRun rows) → IfSome o (IsOf (Some (codes "run", rows)))
run_is rows None h = h
run_is rows (Some (Play script)) h = absurd h
run_is rows (Some (Loopback script)) h = absurd h
run_is rows (Some (Serve asked)) h = inr (refl, h)
run_is rows (Some (Check configuration node database)) h = absurd h
run_is rows (Some (Password name)) h = absurd h
run_is rows (Some (DropRows asked)) h = absurd h
run_is rows (Some (Balancer configuration)) h = absurd h

-- so a command's task is what the words ask for
task_of_command : {E : Type 0} (P : List Row → Task → Type 0) (word : Text) (whole : (rows : List Row) (o : Option Task) → IfSome o (P rows) → IfSome o (IsOf (Some (word, rows))))
    (o : Option (Text × List Row)) (name : Text) (rows : List Row) (r : Result (Option Task) E)
    → option_map (λ p. p.0) o ≡ Some name → option_map (λ p. p.1) o ≡ Some rows → name ≡ word → IfOk r (λ t. IfSome t (P rows)) → IfOk r (λ t. IfSome t (IsOf o))
task_of_command P word whole o name rows (Ok t) named rowed is h =
    let entered_is : o ≡ Some (word, rows) = entered o word rows (named ∙ ap Some is) rowed in
    subst (λ (s : Option (Text × List Row)). IfSome t (IsOf s)) (sym entered_is) (whole rows t h)
task_of_command P word whole o name rows (Err e) named rowed is h = h

pub task_of_serve : {E : Type 0} (o : Option (Text × List Row)) (name : Text) (rows : List Row) (r : Result (Option Task) E)
    → option_map (λ p. p.0) o ≡ Some name → option_map (λ p. p.1) o ≡ Some rows → name ≡ codes "serve" → IfOk r (λ t. IfSome t (IsServe rows)) → IfOk r (λ t. IfSome t (IsOf o))
task_of_serve o name rows r named rowed is h = task_of_command IsServe (codes "serve") served_is o name rows r named rowed is h

pub task_of_run : {E : Type 0} (o : Option (Text × List Row)) (name : Text) (rows : List Row) (r : Result (Option Task) E)
    → option_map (λ p. p.0) o ≡ Some name → option_map (λ p. p.1) o ≡ Some rows → name ≡ codes "run" → IfOk r (λ t. IfSome t (IsRun rows)) → IfOk r (λ t. IfSome t (IsOf o))
task_of_run o name rows r named rowed is h = task_of_command IsRun (codes "run") run_is o name rows r named rowed is h
