-- In a run each dot that an operation covers is that of an operation which was made before it.
use Rattle.std.proofs.Common.{◌≡◌, ℕ, true, false, List, [], ◌∷◌, ◌++◌, Option, Some, inl, inr, refl, sym, ap, ◌∙◌, subst, append_assoc}
use Rattle.std.specs.FinSet as set
use Rattle.causal_context.specs.Dots.{Dot, Dots, dot_cmp}
use Rattle.subscription_set.specs.declared.entry.Entry.{Entry}
use Rattle.replica_store.specs.declared.operation.Operation.{Operation}
use Rattle.replica_store.specs.declared.operation.Operation.TheVariants.{Subscribe, Remove, Put}
use Rattle.replica_store.specs.Making.{next_dot}
use Rattle.replica_store.specs.Operations.{dot_of, cover_of, Among, Stands}
use Rattle.replica_store.proofs.Unions.{among_left, among_right, among_cases}
use Rattle.node_work.specs.Acts.{Act, MomentTaken, Began, Moved, Store, Connection, Session, Bridge, Out, Named, Acknowledged, Passed, Dropped, Made, Merged, gather, op_in}
use Rattle.cluster_play.specs.Worlds.{World}
use Rattle.cluster_play.specs.Runs.{Played}
use Rattle.cluster_play.specs.Histories.{Reached, site, acts_of, ops_of, made, taken_amid}
use Rattle.cluster_play.specs.NextOperations.{CoversWhatStands, CoversWhatStandsBelow, IsNextOperation}
use Rattle.cluster_play.proofs.Amid.{amid_acts}
use Rattle.cluster_play.proofs.Catching.{operations_of_a_step}
use Rattle.cluster_play.proofs.Operations.{among_some, IsFresh}
use Rattle.cluster_play.proofs.Paths.{made_both}
use Rattle.cluster_play.proofs.Sound.{made_dot, is_fresh}
use Rattle.cluster_play.proofs.Splits.{gather_both}

-- an operation of the list has the dot
abbrev pub IsDotOf : List Operation → Dot → Type 0
IsDotOf O d = (p : Operation) × Among p O × (dot_of p ≡ d)

-- ---- where an operation is made
-- the act of a step that makes it
record MadeIn (acts : List Act) (o : Operation) : Type 0 where
  before : List Act
  after : List Act
  is : acts ≡ before ++ Store (Made o) ∷ after

op_of_act : (a : Act) (o : Operation) → Among o (op_in a) → a ≡ Store (Made o)
op_of_act (MomentTaken at) o x = absurd x
op_of_act Began o x = absurd x
op_of_act (Moved homes) o x = absurd x
op_of_act (Store (Made p)) o (inl e) = ap (λ q. Store (Made q)) (sym e)
op_of_act (Store (Made p)) o (inr x) = absurd x
op_of_act (Store (Merged s)) o x = absurd x
op_of_act (Connection c) o x = absurd x
op_of_act (Session c) o x = absurd x
op_of_act (Bridge b) o x = absurd x
op_of_act (Out e) o x = absurd x
op_of_act (Named number) o x = absurd x
op_of_act (Acknowledged client packet at grants offers) o x = absurd x
op_of_act (Passed m copies lost routes) o x = absurd x
op_of_act Dropped o x = absurd x

made_in : (acts : List Act) (o : Operation) → Among o (gather op_in acts) → MadeIn acts o
made_in [] o x = absurd x
made_in (a ∷ acts) o x = elim (among_cases o (op_in a) (gather op_in acts) x) [
  | inl here ↦ record { before = []; after = acts; is = ap (λ b. b ∷ acts) (op_of_act a o here) }
  | inr later ↦ (let r = made_in acts o later in record { before = a ∷ r.before; after = r.after; is = ap (λ xs. a ∷ xs) r.is })
]

-- the step of a run that makes it
record MadeAt (run : List Played) (o : Operation) : Type 0 where
  earlier : List Played
  m : Played
  later : List Played
  whole : run ≡ earlier ++ m ∷ later
  at : MadeIn (acts_of m.fate) o

made_at : (run : List Played) (o : Operation) → Among o (made run) → MadeAt run o
made_at [] o x = absurd x
made_at (m ∷ run) o x = elim (among_cases o (ops_of m.fate) (made run) x) [
  | inl here ↦ record { earlier = []; m = m; later = run; whole = refl; at = made_in (acts_of m.fate) o here }
  | inr there ↦ (let r = made_at run o there in record { earlier = m ∷ r.earlier; m = r.m; later = r.later; whole = ap (λ ms. m ∷ ms) r.whole; at = r.at })
]

-- what was made until then was made by the end
made_longer : (run : List Played) (pre all rest : List Act) (p : Operation) → all ≡ pre ++ rest → Among p (made run ++ gather op_in pre) → Among p (made run ++ gather op_in all)
made_longer run pre all rest p is a = elim (among_cases p (made run) (gather op_in pre) a) [
  | inl x ↦ among_left p (made run) (gather op_in all) x
  | inr x ↦ among_right p (made run) (gather op_in all) (subst (Among p) (sym (ap (gather op_in) is ∙ gather_both op_in pre rest)) (among_left p (gather op_in pre) (gather op_in rest) x))
]

made_later : (earlier later : List Played) (m : Played) (p : Operation) → Among p (made earlier ++ gather op_in (acts_of m.fate)) → Among p (made (earlier ++ m ∷ later))
made_later earlier later m p a =
    subst (Among p) (sym (made_both earlier (m ∷ later))) (elim (among_cases p (made earlier) (ops_of m.fate) a) [
      | inl x ↦ among_left p (made earlier) (made (m ∷ later)) x
      | inr x ↦ among_right p (made earlier) (made (m ∷ later)) (among_left p (ops_of m.fate) (made later) x)
    ])

-- ---- what it covers
stood : (O : List Operation) (d : Dot) (entry : Entry) → Stands O d entry → IsDotOf O d
stood O d entry s = (Subscribe d entry s.subscribed.0, s.subscribed.1, refl)

covers_made : (O : List Operation) (client : List ℕ) (to : Option (List ℕ)) (cover : Dots) → CoversWhatStands O client to cover → (d : Dot) → set.contains cover d ≡ true → IsDotOf O d
covers_made O client to cover covers d h = let there = (covers d).0 h in stood O d there.0 there.1

covers_made_below : (O : List Operation) (client : List ℕ) (version : ℕ) (cover : Dots) → CoversWhatStandsBelow O client version cover → (d : Dot) → set.contains cover d ≡ true → IsDotOf O d
covers_made_below O client version cover covers d h = let there = (covers d).0 h in stood O d there.0 there.1

next_covers : (i version : ℕ) (O : List Operation) (o : Operation) → IsNextOperation i version O o → (d : Dot) → set.contains (cover_of o) d ≡ true → IsDotOf O d
next_covers i version O (Subscribe dot entry cover) n d h = covers_made O entry.client (Some entry.filter) cover n.1 d h
next_covers i version O (Remove dot cover) n d h = elim n.1 [
  | inl x ↦ covers_made O x.0 x.1 cover x.2 d h
  | inr x ↦ covers_made_below O x.0 x.1 cover x.2 d h
]
next_covers i version O (Put dot stamp content) n d h = absurd (let no : false ≡ true = sym (set.contains-empty dot_cmp d) ∙ h in cc)

-- ---- in a run
covered_at : (run later : List Played) (m : Played) (w : World) → Reached (run ++ m ∷ later) w → (before after : List Act) (o : Operation) → acts_of m.fate ≡ before ++ Store (Made o) ∷ after
    → (d : Dot) → set.contains (cover_of o) d ≡ true → IsDotOf (made run ++ gather op_in before) d
covered_at run later m w r before after o is d h =
    let n = (operations_of_a_step run later m w r before after o is).0 in
    let k = next_covers (site m.fate) n.held.homes.version _ o n.next d h in
    (k.0, (among_some (λ p. taken_amid (site m.fate) run before (dot_of p)) k.0 (made run ++ gather op_in before) k.1).0, k.2)

module _ (run later : List Played) (m : Played) (w : World) (r : Reached (run ++ m ∷ later) w) (pre : List Act) where
  abbrev all : List Operation
  all = made run ++ gather op_in pre

  made_covers : (o : Operation) → Among o (made run) → (d : Dot) → set.contains (cover_of o) d ≡ true → IsDotOf all d
  made_covers o a d h =
      let s = made_at run o a in
      let there : Reached (s.earlier ++ s.m ∷ (s.later ++ m ∷ later)) w = subst (λ ms. Reached ms w) (ap (λ ms. ms ++ m ∷ later) s.whole ∙ append_assoc s.earlier (s.m ∷ s.later) (m ∷ later)) r in
      let k = covered_at s.earlier (s.later ++ m ∷ later) s.m w there s.at.before s.at.after o s.at.is d h in
      let whole = made_longer s.earlier s.at.before (acts_of s.m.fate) (Store (Made o) ∷ s.at.after) k.0 s.at.is k.1 in
      (k.0, among_left k.0 (made run) (gather op_in pre) (subst (λ ms. Among k.0 (made ms)) (sym s.whole) (made_later s.earlier s.later s.m k.0 whole)), k.2)

  amid_covers : (rest : List Act) → acts_of m.fate ≡ pre ++ rest → (o : Operation) → Among o (gather op_in pre) → (d : Dot) → set.contains (cover_of o) d ≡ true → IsDotOf all d
  amid_covers rest is o a d h =
      let s = made_in pre o a in
      let k = covered_at run later m w r s.before (s.after ++ rest) o (is ∙ ap (λ xs. xs ++ rest) s.is ∙ append_assoc s.before (Store (Made o) ∷ s.after) rest) d h in
      (k.0, made_longer run s.before pre (Store (Made o) ∷ s.after) k.0 s.is k.1, k.2)

  -- each dot that an operation covers, of those made until then, is that of one of them
  pub covered_is_made : (rest : List Act) → acts_of m.fate ≡ pre ++ rest → (o : Operation) → Among o all → (d : Dot) → set.contains (cover_of o) d ≡ true → IsDotOf all d
  covered_is_made rest is o a d h = elim (among_cases o (made run) (gather op_in pre) a) [
    | inl x ↦ made_covers o x d h
    | inr x ↦ amid_covers rest is o x d h
  ]

  -- an operation that is made has none of their dots
  pub new_is_fresh : (rest : List Act) (o : Operation) → acts_of m.fate ≡ pre ++ Store (Made o) ∷ rest → IsFresh all o
  new_is_fresh rest o is =
      let a = amid_acts run later m w r pre rest (Store (Made o)) is in
      let dot : dot_of o ≡ next_dot (site m.fate) a.held.store = subst (λ j. dot_of o ≡ next_dot j a.held.store) a.id (made_dot a.place.id a.held.homes.version a.held.store o a.runs.1.0) in
      is_fresh (site m.fate) all a.held.store o a.grown dot

  -- so none of them covers its dot
  pub none_covers_new : (rest : List Act) (o : Operation) → acts_of m.fate ≡ pre ++ Store (Made o) ∷ rest → (p : Operation) → Among p all → set.contains (cover_of p) (dot_of o) ≡ true → ⊥
  none_covers_new rest o is p a h =
      let k = covered_is_made (Store (Made o) ∷ rest) is p a (dot_of o) h in
      new_is_fresh rest o is k.0 k.1 k.2
