-- What a move takes of the subscriptions that a node has taken, in every run.
use Rattle.std.proofs.Common.{◌≡◌, ◌⊎◌, ◌↔◌, inl, inr, ℕ, ◌<◌, ◌≤◌, ◌&&◌, ◌||◌, nat_lt, Bool, true, false, cond, List, [], ◌∷◌, ◌++◌, map as map_list, Some, refl, sym, ap, ◌∙◌, subst, append_assoc, arith}
use Rattle.std.specs.FinMap as map
use Rattle.std.specs.FinSet as set
use Rattle.std.specs.List.{AllByRecursion, list_any}
use Rattle.std.specs.Cmp.Lexicographic.{bytes_decides}
use Rattle.std.specs.Ordering.{eq_by_cmp}
use Rattle.std.proofs.lemmas.Bool.{ltb-false}
use Rattle.std.proofs.lemmas.Bool.Decides.{nat_tests}
use Rattle.causal_context.specs.Dots.{Dot, Dots, dot_cmp}
use Rattle.home_table.specs.Table.{Table}
use Rattle.session_table.specs.Seats.{AreElsewhere, IsElsewhere}
use Rattle.subscription_set.specs.declared.entry.Entry.{Entry}
use Rattle.subscription_set.specs.Entries.{is_of_below, same_text}
use Rattle.subscription_set.specs.Standing.{Entries, standing, any_below, dots_below}
use Rattle.subscription_set.proofs.Lists.{contains-dots_in}
use Rattle.replica_store.specs.declared.operation.Operation.{Operation}
use Rattle.replica_store.specs.declared.operation.Operation.TheVariants.{Subscribe}
use Rattle.replica_store.specs.Operations.{dot_of, cover_of, Among, HaveOwnDots, Stands, Subscribes}
use Rattle.replica_store.specs.States.{State}
use Rattle.replica_store.specs.StateOf.{IsStateOf}
use Rattle.replica_store.proofs.Unions.{among_cases, among_left, among_right}
use Rattle.replica_store.proofs.Views.{cover_below_is}
use Rattle.node_work.specs.Acts.{Act, MomentTaken, Began, Moved, Store, Made, Merged, Connection, Session, Bridge, Out, Named, Acknowledged, Passed, Dropped, Runs, gather, merge_in, moved_in, op_in, next}
use Rattle.node_work.specs.Held.Sessions.{Over}
use Rattle.node_work.specs.View.{Place, HeldView}
use Rattle.node_work.specs.Working.{If}
use Rattle.node_work.proofs.Working.{gather-append, runs_join}
use Rattle.broker_node.specs.declared.event.Event.{Event}
use Rattle.broker_node.specs.declared.event.EventKind.TheVariants as kinds
use Rattle.broker_node.specs.Step.{brought}
use Rattle.broker_node.specs.Turns as turns
use Rattle.broker_node.proofs.Handing.{turn_brings}
use Rattle.law_runs.specs.StepSending.{IsIn}
use Rattle.law_runs.proofs.Passing.{has_of}
use Rattle.cluster_play.specs.Worlds.{World, Fate, Released, Lost, Cut, Faulted, Was_down, Restarted}
use Rattle.cluster_play.specs.Runs.{Played}
use Rattle.cluster_play.specs.Histories.{Reached, site, event_committed, acts_of, made, taken, taken_amid, operations_amid, gained, same_dot}
use Rattle.cluster_play.specs.Agreement.{HoldsAmid}
use Rattle.cluster_play.proofs.Agreeing.{own_dots}
use Rattle.cluster_play.proofs.Bools.{and_true, dot_is, dot_same, or_assoc, or_left, or_right, or_true}
use Rattle.cluster_play.proofs.Operations.{among_kept, among_some, own_part, own_some}
use Rattle.cluster_play.proofs.Paths.{made_more, midway, reached_more}
use Rattle.cluster_play.proofs.Rows.{committed}
use Rattle.cluster_play.proofs.Showing.{node_holds_amid}
use Rattle.cluster_play.proofs.Splits.{gained_both}
use Rattle.law_steps.specs.Standing.{IsGoing, TakesTheOlder, MovesTakeTheOlder}
use Rattle.law_steps.specs.Tables.{GoInTurn, TableIsTaken}
use Rattle.law_steps.proofs.Calm.{Has}
use Rattle.law_steps.proofs.MoveEnding.{second_runs}
use Rattle.law_steps.proofs.Having.{due_tables, has_is, is_table, no_table, refused_tables}
use Rattle.law_steps.proofs.Keys.{key_in, keys_seated, selected_all, selected_in}
use Rattle.law_steps.proofs.Removing.{IsPut, RemovesOne, turn_op, turn_ends}
use Rattle.law_steps.proofs.SessionRuns.{all_sit}
use Rattle.law_steps.proofs.TableLaws.{turning, tables_are_taken}

-- ---- operations that are taken amid a step
module _ (i : ℕ) (run : List Played) where
  abbrev O : List Act → List Operation
  O acts = operations_amid i run acts

  abbrev Listed : List Act → List Operation
  Listed acts = made run ++ gather op_in acts

  abbrev is_taken : List Act → Operation → Bool
  is_taken acts o = taken_amid i run acts (dot_of o)

  listed_on : (xs ys : List Act) (o : Operation) → Among o (Listed xs) → Among o (Listed (xs ++ ys))
  listed_on xs ys o a = elim (among_cases o (made run) (gather op_in xs) a) [
    | inl x ↦ among_left o (made run) (gather op_in (xs ++ ys)) x
    | inr x ↦ among_right o (made run) (gather op_in (xs ++ ys)) (subst (Among o) (sym (gather-append op_in xs ys)) (among_left o (gather op_in xs) (gather op_in ys) x))
  ]

  taken_parts : (xs ys : List Act) (d : Dot) → taken_amid i run (xs ++ ys) d ≡ (taken_amid i run xs d || gained ys d)
  taken_parts xs ys d = ap (λ b. taken i run d || b) (gained_both xs ys d) ∙ sym (or_assoc (taken i run d) (gained xs d) (gained ys d))

  -- what is taken stays taken
  taken_on : (xs ys : List Act) (o : Operation) → Among o (O xs) → Among o (O (xs ++ ys))
  taken_on xs ys o a =
      let p = among_some (is_taken xs) o (Listed xs) a in
      among_kept (is_taken (xs ++ ys)) o (Listed (xs ++ ys)) (listed_on xs ys o p.0) (taken_parts xs ys (dot_of o) ∙ or_left (taken_amid i run xs (dot_of o)) (gained ys (dot_of o)) p.1)

  -- what acts take that merge nothing is made by them
  gained_made : (acts : List Act) (d : Dot) → gather merge_in acts ≡ [] → gained acts d ≡ true → (o : Operation) × Among o (gather op_in acts) × (dot_of o ≡ d)
  gained_made [] d none h = absurd (let z : false ≡ true = h in cc)
  gained_made (MomentTaken at ∷ acts) d none h = gained_made acts d none h
  gained_made (Began ∷ acts) d none h = gained_made acts d none h
  gained_made (Moved homes ∷ acts) d none h = gained_made acts d none h
  gained_made (Store (Made o) ∷ acts) d none h = elim (or_true (same_dot (dot_of o) d) (gained acts d) h) [
    | inl a ↦ (o, inl refl, dot_is (dot_of o) d a)
    | inr b ↦ (let r = gained_made acts d none b in (r.0, inr r.1, r.2))
  ]
  gained_made (Store (Merged t) ∷ acts) d none h = absurd (let z : t ∷ gather merge_in acts ≡ [] = none in cc)
  gained_made (Connection a ∷ acts) d none h = gained_made acts d none h
  gained_made (Session a ∷ acts) d none h = gained_made acts d none h
  gained_made (Bridge a ∷ acts) d none h = gained_made acts d none h
  gained_made (Out o ∷ acts) d none h = gained_made acts d none h
  gained_made (Named number ∷ acts) d none h = gained_made acts d none h
  gained_made (Acknowledged client packet at grants offers ∷ acts) d none h = gained_made acts d none h
  gained_made (Passed m copies lost routes ∷ acts) d none h = gained_made acts d none h
  gained_made (Dropped ∷ acts) d none h = gained_made acts d none h

  -- what is taken was taken before, or is made
  taken_by : (xs ys : List Act) (o : Operation) → HaveOwnDots (Listed (xs ++ ys)) → gather merge_in ys ≡ [] → Among o (O (xs ++ ys)) → Among o (O xs) ⊎ Among o (gather op_in ys)
  taken_by xs ys o own none a =
      let p = among_some (is_taken (xs ++ ys)) o (Listed (xs ++ ys)) a in
      let parts : Among o (Listed xs ++ gather op_in ys) = subst (Among o) (ap (λ zs. made run ++ zs) (gather-append op_in xs ys) ∙ sym (append_ops (made run) (gather op_in xs) (gather op_in ys))) p.0 in
      elim (among_cases o (Listed xs) (gather op_in ys) parts) [
        | inl old ↦ elim (or_true (taken_amid i run xs (dot_of o)) (gained ys (dot_of o)) (sym (taken_parts xs ys (dot_of o)) ∙ p.1)) [
          | inl t ↦ inl (among_kept (is_taken xs) o (Listed xs) old t)
          | inr g ↦ (
              let q = gained_made ys (dot_of o) none g in
              let there : Among q.0 (Listed (xs ++ ys)) = among_right q.0 (made run) (gather op_in (xs ++ ys)) (subst (Among q.0) (sym (gather-append op_in xs ys)) (among_right q.0 (gather op_in xs) (gather op_in ys) q.1)) in
              inr (subst (λ x. Among x (gather op_in ys)) (own q.0 o there p.0 q.2) q.1))
        ]
        | inr new ↦ inr new
      ]
    where
      append_ops : (a b c : List Operation) → (a ++ b) ++ c ≡ a ++ (b ++ c)
      append_ops a b c = append_assoc a b c

  -- what is made is taken
  made_taken : (xs ys : List Act) (o : Operation) → Among o (O (xs ++ Store (Made o) ∷ ys))
  made_taken xs ys o =
      let acts = xs ++ Store (Made o) ∷ ys in
      let there : Among o (gather op_in acts) = subst (Among o) (sym (gather-append op_in xs (Store (Made o) ∷ ys))) (among_right o (gather op_in xs) (gather op_in (Store (Made o) ∷ ys)) (inl refl)) in
      among_kept (is_taken acts) o (Listed acts) (among_right o (made run) (gather op_in acts) there)
      (taken_parts xs (Store (Made o) ∷ ys) (dot_of o) ∙ or_right (taken_amid i run xs (dot_of o)) (gained (Store (Made o) ∷ ys) (dot_of o)) (or_left (same_dot (dot_of o) (dot_of o)) (gained ys (dot_of o)) (dot_same (dot_of o) (dot_of o) refl)))

-- ---- the step that takes a table
commits_moved : (fate : Fate) (homes : Table) → gather moved_in (acts_of fate) ≡ homes ∷ [] → (e : Event) × (event_committed fate ≡ Some e)
commits_moved (Released i e acts outputs) homes is = (e, refl)
commits_moved (Lost i e acts) homes is = (e, refl)
commits_moved (Cut i) homes is = absurd (let z : [] ≡ homes ∷ [] = is in cc)
commits_moved (Faulted i fault) homes is = absurd (let z : [] ≡ homes ∷ [] = is in cc)
commits_moved (Was_down i) homes is = absurd (let z : [] ≡ homes ∷ [] = is in cc)
commits_moved (Restarted i table) homes is = absurd (let z : [] ≡ homes ∷ [] = is in cc)

pub record TakesTable (e : Event) (p : Place) (h : HeldView) (homes : Table) (acts : List Act) (last : HeldView) : Type 0 where
  pub kind : e.kind ≡ kinds.Table homes
  pub started : h.started ≡ true
  pub takes : TableIsTaken e p h homes acts last

takes_table : (e : Event) (p : Place) (h last : HeldView) (acts : List Act) (homes : Table) → turns.Decides e (Some tt) p h acts → Runs p h acts last → gather moved_in acts ≡ homes ∷ [] → TakesTable e p h homes acts last
takes_table e p h last acts homes d runs moved = by h.started refl
  where
    none : {X : Type 0} → gather moved_in acts ≡ [] → X
    none is = let z : homes ∷ [] ≡ [] = sym moved ∙ is in cc

    by : (b : Bool) → h.started ≡ b → TakesTable e p h homes acts last
    by false waits =
        let t = turning e p h acts d in
        none (ap (gather moved_in) t.is ∙ (turn_brings false e.kind p (next h (MomentTaken e.at)) t.rest (subst (λ b. If b (turns.AnswersAfterDue e.kind) (turns.AwaitsStart e.kind) (Some tt) p (next h (MomentTaken e.at)) t.rest) waits t.does)).moved)
    by true started = elim (is_table e.kind) [
      | inl table ↦ (elim (tables_are_taken e table.0 p h last acts table.1 started d runs) [
        | inl x ↦ (
            let one : gather moved_in acts ≡ table.0 ∷ gather moved_in x.1.rest = ap (gather moved_in) x.1.is ∙ gather-append moved_in x.1.first.due (Moved table.0 ∷ x.1.rest) ∙ (λ i. due_tables e p h x.1.first i ++ (table.0 ∷ gather moved_in x.1.rest)) in
            let same : table.0 ≡ homes = (let z : table.0 ∷ gather moved_in x.1.rest ≡ homes ∷ [] = sym one ∙ moved in cc) in
            record { kind = table.1 ∙ ap kinds.Table same; started = started; takes = subst (λ t. TableIsTaken e p h t acts last) same x.1 })
        | inr x ↦ none (refused_tables e p h last acts x.1)
      ])
      | inr other ↦ (let t = turning e p h acts d in none (ap (gather moved_in) t.is ∙ no_table e.kind h.started p (next h (MomentTaken e.at)) t.rest other t.does))
    ]

-- ---- entries below a version
below_parts : (client : List ℕ) (version : ℕ) (entry : Entry) → is_of_below client version entry ≡ true → (entry.client ≡ client) × (entry.version < version)
below_parts client version entry is =
    let parts = and_true (same_text client entry.client) (nat_lt entry.version version) is in
    (sym ((bytes_decides client entry.client).0 parts.0), less entry.version version parts.1)
  where
    less : (a b : ℕ) → nat_lt a b ≡ true → a < b
    less a b e = grind (arith, nat_tests)

both_true : (a b : Bool) → a ≡ true → b ≡ true → (a && b) ≡ true
both_true true b e f = f
both_true false b e f = cc

is_below : (version : ℕ) (entry : Entry) → nat_lt entry.version version ≡ true → is_of_below entry.client version entry ≡ true
is_below version entry less = both_true (same_text entry.client entry.client) (nat_lt entry.version version) ((bytes_decides entry.client entry.client).1 refl) less

none_passes : (p : Entry → Bool) (r : Dot → Bool) (es : Entries) → list_any (λ x. p x.1) es ≡ false → list_any (λ x. p x.1 && r x.0) es ≡ false
none_passes p r [] e = refl
none_passes p r (x ∷ es) e = by (p x.1) (list_any (λ y. p y.1) es) e (none_passes p r es)
  where
    by : (a b : Bool) → (a || b) ≡ false → (b ≡ false → list_any (λ y. p y.1 && r y.0) es ≡ false) → ((a && r x.0) || list_any (λ y. p y.1 && r y.0) es) ≡ false
    by true b t f = absurd (let z : true ≡ false = t in cc)
    by false b t f = f t

none_covered : (client : List ℕ) (version : ℕ) (s : State) (dot : Dot) → any_below client version s.subscriptions ≡ false → set.contains (dots_below client version s.subscriptions) dot ≡ true → ⊥
none_covered client version s dot none has =
    let p : Entry → Bool = is_of_below client version in
    let z : false ≡ true = sym (none_passes p (λ d. eq_by_cmp dot_cmp dot d) (standing s.subscriptions) none) ∙ sym (contains-dots_in p (standing s.subscriptions) dot) ∙ has in cc

put_covers : (o : Operation) (dot : Dot) → IsPut o → set.contains (cover_of o) dot ≡ true → ⊥
put_covers o dot (d, stamp, content, is) has = let z : false ≡ true = sym (set.contains-empty dot_cmp dot) ∙ ap (λ k. set.contains (cover_of k) dot) (sym is) ∙ has in cc

all_in : {A : Type 0} (P : A → Type 0) (xs : List A) (x : A) → AllByRecursion P xs → IsIn x xs → P x
all_in P [] x all there = absurd there
all_in P (y ∷ ys) x all (inl e) = subst P e all.0
all_in P (y ∷ ys) x all (inr i) = all_in P ys x all.1 i

-- ---- what stands, by what the clients that go remove
module _ (i : ℕ) (run : List Played) (p : Place) (homes : Table) (held last : HeldView) (away : List (List ℕ)) (due rest : List Act)
    (are : AreElsewhere homes p.id held.sessions away) (go : GoInTurn p away (record held { homes = homes }) rest last) (own : HaveOwnDots (Listed i run (due ++ Moved homes ∷ rest))) (none : gather merge_in rest ≡ [])
    (state : (front back : List Act) (mid : HeldView) → rest ≡ front ++ back → Runs p (record held { homes = homes }) front mid → IsStateOf (O i run ((due ++ Moved homes ∷ []) ++ front)) mid.store) where
  abbrev pre : List Act
  pre = due ++ Moved homes ∷ []

  abbrev all : List Act
  all = due ++ Moved homes ∷ rest

  abbrev start : HeldView
  start = record held { homes = homes }

  -- the acts until some of the rest, and after them
  until : (front back : List Act) → rest ≡ front ++ back → all ≡ (pre ++ front) ++ back
  until front back is =
      ap (λ xs. due ++ Moved homes ∷ xs) is ∙ sym (append_assoc due (Moved homes ∷ []) (front ++ back)) ∙ sym (append_assoc pre front back)

  own_at : (front back : List Act) → rest ≡ front ++ back → HaveOwnDots (O i run (pre ++ front))
  own_at front back is =
      own_some (Listed i run (pre ++ front)) (is_taken i run (pre ++ front)) (own_part (Listed i run all) (Listed i run (pre ++ front)) own
      (λ o a. subst (λ xs. Among o (Listed i run xs)) (sym (until front back is)) (listed_on i run (pre ++ front) back o a)))

  covers : (front back : List Act) (mid : HeldView) → rest ≡ front ++ back → Runs p start front mid → (client : List ℕ) (dot : Dot)
      → (set.contains (dots_below client homes.version mid.store.subscriptions) dot ≡ true) ↔ ((entry : Entry) × Stands (O i run (pre ++ front)) dot entry × (is_of_below client homes.version entry ≡ true))
  covers front back mid is ran client dot = cover_below_is (O i run (pre ++ front)) mid.store (own_at front back is) (state front back mid is ran) client homes.version dot

  -- two Subscribes at a dot are of one entry
  one_entry : (front back : List Act) → rest ≡ front ++ back → (dot : Dot) (entry other : Entry) → Subscribes (O i run due) dot entry → Subscribes (O i run (pre ++ front)) dot other → entry ≡ other
  one_entry front back is dot entry other a b =
      let listed : (xs ys : List Act) (o : Operation) → all ≡ xs ++ ys → Among o (O i run xs) → Among o (Listed i run all) =
      λ xs ys o so there. subst (λ zs. Among o (Listed i run zs)) (sym so) (listed_on i run xs ys o (among_some (is_taken i run xs) o (Listed i run xs) there).0) in
      let same : Subscribe dot entry a.0 ≡ Subscribe dot other b.0 =
      own (Subscribe dot entry a.0) (Subscribe dot other b.0) (listed due (Moved homes ∷ rest) (Subscribe dot entry a.0) refl a.1) (listed (pre ++ front) back (Subscribe dot other b.0) (until front back is) b.1) refl in
      cc

  -- those that go
  goes : (client : List ℕ) → IsIn client away → IsGoing p.id held homes client
  goes client there =
      let x = all_in (λ q. IsElsewhere homes p.id q × Has q held) away client
      (selected_all (IsElsewhere homes p.id) (λ q. Has q held) (map_list (λ e. e.0) (map.entries held.sessions)) away are (keys_seated held.sessions)) there in
      (has_is client held x.1, x.0)

  is_away : (client : List ℕ) → IsGoing p.id held homes client → IsIn client away
  is_away client g =
      let has = has_of client held g.0 in
      selected_in (IsElsewhere homes p.id) (map_list (λ e. e.0) (map.entries held.sessions)) away client are (key_in held.sessions client has.0 has.1) g.1

  new_ops : (o : Operation) → Among o (O i run all) → Among o (O i run due) ⊎ (IsPut o ⊎ RemovesOne p homes.version away start rest o)
  new_ops o a = elim (taken_by i run due (Moved homes ∷ rest) o own none a) [
    | inl old ↦ inl old
    | inr new ↦ inr (turn_op p homes.version away start last rest refl go o new)
  ]

  -- ---- what stays
  uncovered : (dot : Dot) (entry : Entry) → Stands (O i run due) dot entry → (homes.version ≤ entry.version) ⊎ (¬ (IsGoing p.id held homes entry.client)) → (o : Operation) → Among o (O i run all) → set.contains (cover_of o) dot ≡ true → ⊥
  uncovered dot entry stands why o there has = elim (new_ops o there) [
    | inl old ↦ stands.uncovered (o, old, has)
    | inr (inl put) ↦ put_covers o dot put has
    | inr (inr one) ↦ (
        let x = one.removes in
        let covered : set.contains (dots_below one.client homes.version x.mid.store.subscriptions) dot ≡ true = ap (λ k. set.contains (cover_of k) dot) (sym x.o_is) ∙ has in
        let w = (covers x.front (Store (Made o) ∷ x.back) x.mid x.is x.runs one.client dot).0 covered in
        let same : entry ≡ w.0 = one_entry x.front (Store (Made o) ∷ x.back) x.is dot entry w.0 stands.subscribed w.1.subscribed in
        let parts = below_parts one.client homes.version w.0 w.2 in
        elim why [
          | inl newer ↦ (let less : entry.version < homes.version = subst (λ (v : Entry). v.version < homes.version) (sym same) parts.1 in omega (arith, newer, less))
          | inr other ↦ other (subst (IsGoing p.id held homes) (sym (ap (λ (v : Entry). v.client) same ∙ parts.0)) (goes one.client one.among))
        ])
  ]

  stays : (dot : Dot) (entry : Entry) → Stands (O i run due) dot entry → (homes.version ≤ entry.version) ⊎ (¬ (IsGoing p.id held homes entry.client)) → Stands (O i run all) dot entry
  stays dot entry stands why = record {
    subscribed = (stands.subscribed.0, taken_on i run due (Moved homes ∷ rest) (Subscribe dot entry stands.subscribed.0) stands.subscribed.1);
    uncovered = λ x. uncovered dot entry stands why x.0 x.1 x.2;
  }

  -- ---- what goes
  -- a Subscribe that is taken afterwards was taken before
  was_taken : (dot : Dot) (entry : Entry) (cover : Dots) → Among (Subscribe dot entry cover) (O i run all) → Among (Subscribe dot entry cover) (O i run due)
  was_taken dot entry cover there = elim (new_ops (Subscribe dot entry cover) there) [
    | inl old ↦ old
    | inr (inl put) ↦ absurd (let z = put.3 in cc)
    | inr (inr one) ↦ absurd (let z = one.removes.o_is in cc)
  ]

  -- what stands afterwards stands before a client's Remove too
  stood : (front back : List Act) → rest ≡ front ++ back → (dot : Dot) (entry : Entry) → Stands (O i run all) dot entry → Stands (O i run (pre ++ front)) dot entry
  stood front back is dot entry stands = record {
    subscribed = (
      stands.subscribed.0,
      subst (λ xs. Among (Subscribe dot entry stands.subscribed.0) (O i run xs)) (sym (append_assoc due (Moved homes ∷ []) front))
          (taken_on i run due (Moved homes ∷ front) (Subscribe dot entry stands.subscribed.0) (was_taken dot entry stands.subscribed.0 stands.subscribed.1)),
    );
    uncovered = λ x. stands.uncovered (x.0, subst (λ xs. Among x.0 (O i run xs)) (sym (until front back is)) (taken_on i run (pre ++ front) back x.0 x.1), x.2);
  }

  older_goes : (dot : Dot) (entry : Entry) → Stands (O i run all) dot entry → IsGoing p.id held homes entry.client → nat_lt entry.version homes.version ≡ true → ⊥
  older_goes dot entry stands g less = elim (turn_ends p homes.version away start last rest refl go entry.client (is_away entry.client g)) [
    | inl (o, x) ↦ (
        let back = Store (Made o) ∷ x.back in
        let covered = (covers x.front back x.mid x.is x.runs entry.client dot).1 (entry, stood x.front back x.is dot entry stands, is_below homes.version entry less) in
        stands.uncovered (o, subst (λ xs. Among o (O i run xs)) (sym (until x.front back x.is)) (made_taken i run (pre ++ x.front) x.back o), ap (λ k. set.contains (cover_of k) dot) x.o_is ∙ covered))
    | inr x ↦ (
        let back = Session (Over entry.client) ∷ x.back in
        none_covered entry.client homes.version x.mid.store dot x.none ((covers x.front back x.mid x.is x.runs entry.client dot).1 (entry, stood x.front back x.is dot entry stands, is_below homes.version entry less)))
  ]

  takes : (dot : Dot) (entry : Entry) → Stands (O i run all) dot entry → IsGoing p.id held homes entry.client → homes.version ≤ entry.version
  takes dot entry stands g = by (nat_lt entry.version homes.version) refl
    where
      by : (b : Bool) → nat_lt entry.version homes.version ≡ b → homes.version ≤ entry.version
      by true less = absurd (older_goes dot entry stands g less)
      by false more = ltb-false entry.version homes.version more

-- ---- in a run
takes_the_older : (run later : List Played) (m : Played) (w : World) → Reached (run ++ m ∷ later) w → (homes : Table) → gather moved_in (acts_of m.fate) ≡ homes ∷ [] → TakesTheOlder run m homes
takes_the_older run later m w r homes moved =
    let i = site m.fate in
    let half = midway run (m ∷ later) w r in
    let e = commits_moved m.fate homes moved in
    let c = committed half.mid m.step m.fate half.path.0 e.0 half.path.1 e.1 in
    let place = c.was.node.place in
    let sits = all_sit run half.mid half.reached i c.was c.at in
    let t = takes_table e.0 place c.before c.after (acts_of m.fate) homes c.steps.does c.steps.runs moved in
    let due = t.takes.first.due in
    let rest = t.takes.rest in
    let held = t.takes.first.left in
    let start : HeldView = record held { homes = homes } in
    let pre = due ++ Moved homes ∷ [] in
    let own : HaveOwnDots (Listed i run (due ++ Moved homes ∷ rest)) =
    subst HaveOwnDots (sym (made_more run m) ∙ ap (λ xs. made run ++ gather op_in xs) t.takes.is) (own_dots (run ++ m ∷ []) half.path.0 (reached_more run m half.mid half.path.0 half.reached half.honest.0 half.path.1)) in
    let merged : gather merge_in (acts_of m.fate) ≡ [] = c.steps.merged ∙ ap (λ b. cond b (brought place e.0.kind) []) t.started ∙ ap (brought place) t.kind in
    let none : gather merge_in rest ≡ [] = second_nothing (gather merge_in due) (gather merge_in rest) (sym (gather-append merge_in due (Moved homes ∷ rest)) ∙ ap (gather merge_in) (sym t.takes.is) ∙ merged) in
    let later1 : Runs place held (Moved homes ∷ rest) c.after = second_runs place c.before held c.after due (Moved homes ∷ rest) (acts_of m.fate) t.takes.is t.takes.first.runs c.steps.runs in
    let pre_runs : Runs place c.before pre start = subst (λ v. Runs place c.before pre v) later1.1.1 (runs_join place due (Moved homes ∷ []) c.before held later1.0 t.takes.first.runs (later1.0, later1.1, refl)) in
    let there : (before after : List Act) (h : HeldView) → Runs place c.before before h → acts_of m.fate ≡ before ++ after → HoldsAmid half.mid m i before h =
    λ before after h ran so. record { event = e.0; commits = e.1; at = refl; rest = after; acts = so; held = c.before; holds = record { site = c.was; at = c.at; up = c.up }; runs = ran } in
    let whole : (front back : List Act) → rest ≡ front ++ back → acts_of m.fate ≡ (pre ++ front) ++ back =
    λ front back is. t.takes.is ∙ ap (λ xs. due ++ Moved homes ∷ xs) is ∙ sym (append_assoc due (Moved homes ∷ []) (front ++ back)) ∙ sym (append_assoc pre front back) in
    let state : (front back : List Act) (mid : HeldView) → rest ≡ front ++ back → Runs place start front mid → IsStateOf (O i run (pre ++ front)) mid.store =
    λ front back mid is ran. (node_holds_amid run half.mid half.path.0 m half.reached half.honest.0 half.path.1 i (pre ++ front) mid
    (there (pre ++ front) back mid (runs_join place pre front c.before start mid pre_runs ran) (whole front back is))).state in
    let go = t.takes.sends.go in
    let are = t.takes.sends.are in
    let away = t.takes.sends.away in
    record {
      before = due;
      rest = rest;
      is = t.takes.is;
      world = half.mid;
      reached = half.reached;
      held = held;
      there = there due (Moved homes ∷ rest) held t.takes.first.runs t.takes.is;
      takes = λ dot entry stands g.
          takes i run place homes held c.after away due rest are go own none state dot entry (subst (λ xs. Stands (operations_amid i run xs) dot entry) t.takes.is stands) (subst (λ n. IsGoing n held homes entry.client) (sym sits.id) g);
      leaves = λ dot entry stands why.
          subst (λ xs. Stands (operations_amid i run xs) dot entry) (sym t.takes.is) (stays i run place homes held c.after away due rest are go own none state dot entry stands
          (subst (λ n. (homes.version ≤ entry.version) ⊎ (¬ (IsGoing n held homes entry.client))) (sym sits.id) why));
    }
  where
    second_nothing : {A : Type 0} (xs ys : List A) → xs ++ ys ≡ [] → ys ≡ []
    second_nothing [] ys e = e
    second_nothing (x ∷ xs) ys e = absurd (let z : x ∷ (xs ++ ys) ≡ [] = e in cc)

pub moves_take_the_older : MovesTakeTheOlder
moves_take_the_older = λ run later m w r homes moved. takes_the_older run later m w r homes moved
