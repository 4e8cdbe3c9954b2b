-- Which subscription to a filter stands after Subscribes to it.
use Rattle.std.proofs.Common.{◌≡◌, ◌⊎◌, inl, inr, ℕ, ◌||◌, ◌&&◌, Bool, true, false, List, [], ◌∷◌, ◌++◌, Some, refl, sym, ap, ◌∙◌, subst, append_assoc}
use Rattle.std.proofs.lemmas.List.{append-nil}
use Rattle.std.specs.Cmp.Lexicographic.{bytes_decides}
use Rattle.std.specs.List.{AllByRecursion}
use Rattle.std.specs.FinSet as set
use Rattle.causal_context.specs.Dots.{Dot, Dots}
use Rattle.subscription_set.specs.declared.entry.Entry.{Entry}
use Rattle.subscription_set.specs.Entries.{is_of, same_text}
use Rattle.replica_store.specs.declared.operation.Operation.{Operation}
use Rattle.replica_store.specs.declared.operation.Operation.TheVariants as operations
use Rattle.replica_store.specs.Operations.{dot_of, cover_of, Among, HaveOwnDots, Stands}
use Rattle.replica_store.proofs.Unions.{among_cases}
use Rattle.node_work.specs.Acts.{Act, Store, Made, gather, op_in}
use Rattle.cluster_play.specs.Runs.{Played}
use Rattle.cluster_play.specs.Histories.{made, gained, same_dot, taken, taken_amid, operations_amid}
use Rattle.cluster_play.specs.NextOperations.{CoversWhatStands}
use Rattle.cluster_play.proofs.Bools.{or_true, or_left, or_right, dot_is, dot_same}
use Rattle.cluster_play.proofs.Operations.{IsFresh, among_some, among_kept, only}
use Rattle.cluster_play.proofs.Splits.{gather_both, gained_both}

among_left : (x : Operation) (O P : List Operation) → Among x O → Among x (O ++ P)
among_left x [] P a = absurd a
among_left x (y ∷ O) P (inl e) = inl e
among_left x (y ∷ O) P (inr a) = inr (among_left x O P a)

among_last : (x : Operation) (O : List Operation) → Among x (O ++ x ∷ [])
among_last x [] = inl refl
among_last x (y ∷ O) = inr (among_last x O)

and_both : (a b : Bool) → a ≡ true → b ≡ true → (a && b) ≡ true
and_both true b e h = h
and_both false b e h = cc

and_first : (a b : Bool) → (a && b) ≡ true → a ≡ true
and_first true b e = refl
and_first false b e = cc

and_second : (a b : Bool) → (a && b) ≡ true → b ≡ true
and_second true b e = e
and_second false b e = cc

is_of_both : (client filter : List ℕ) (e : Entry) → e.client ≡ client → e.filter ≡ filter → is_of client (Some filter) e ≡ true
is_of_both client filter e c f = and_both (same_text client e.client) (same_text filter e.filter) ((bytes_decides client e.client).1 (sym c)) ((bytes_decides filter e.filter).1 (sym f))

-- an act that makes a Subscribe
abbrev pub MakesOne : Act → Type 0
MakesOne a = (dot : Dot) × (entry : Entry) × (cover : Dots) × (a ≡ Store (Made (operations.Subscribe dot entry cover)))

module _ (run : List Played) (i : ℕ) where
  abbrev O : List Act → List Operation
  O pre = operations_amid i run pre

  -- all that was made until then
  abbrev pub all_made : List Act → List Operation
  all_made pre = made run ++ gather op_in pre

  module _ (pre : List Act) (o : Operation) where
    abbrev more : List Act
    more = pre ++ Store (Made o) ∷ []

    whole : all_made more ≡ all_made pre ++ o ∷ []
    whole = ap (λ zs. made run ++ zs) (gather_both op_in pre (Store (Made o) ∷ [])) ∙ sym (append_assoc (made run) (gather op_in pre) (o ∷ []))

    gains_on : (d : Dot) → gained more d ≡ (gained pre d || (same_dot (dot_of o) d || false))
    gains_on d = gained_both pre (Store (Made o) ∷ []) d

    -- what is taken after it is it, or was taken before
    step_back : HaveOwnDots (all_made more) → (x : Operation) → Among x (O more) → (x ≡ o) ⊎ Among x (O pre)
    step_back own x a =
        let r = among_some (λ p. taken_amid i run more (dot_of p)) x (all_made more) a in
        let o_there : Among o (all_made more) = subst (Among o) (sym whole) (among_last o (all_made pre)) in
        elim (or_true (taken i run (dot_of x)) (gained more (dot_of x)) r.1) [
          | inl t ↦ before r.0 (or_left (taken i run (dot_of x)) (gained pre (dot_of x)) t)
          | inr g ↦ elim (or_true (gained pre (dot_of x)) (same_dot (dot_of o) (dot_of x) || false) (sym (gains_on (dot_of x)) ∙ g)) [
            | inl t ↦ before r.0 (or_right (taken i run (dot_of x)) (gained pre (dot_of x)) t)
            | inr t ↦ elim (or_true (same_dot (dot_of o) (dot_of x)) false t) [
              | inl same ↦ inl (own x o r.0 o_there (sym (dot_is (dot_of o) (dot_of x) same)))
              | inr bad ↦ absurd (let z : false ≡ true = bad in cc)
            ]
          ]
        ]
      where
        before : Among x (all_made more) → taken_amid i run pre (dot_of x) ≡ true → (x ≡ o) ⊎ Among x (O pre)
        before there t = elim (among_cases x (all_made pre) (o ∷ []) (subst (Among x) whole there)) [
          | inl k ↦ inr (among_kept (λ p. taken_amid i run pre (dot_of p)) x (all_made pre) k t)
          | inr k ↦ inl (only o x k)
        ]

    -- what was taken before it is taken after it
    step_on : (x : Operation) → Among x (O pre) → Among x (O more)
    step_on x a =
        let r = among_some (λ p. taken_amid i run pre (dot_of p)) x (all_made pre) a in
        among_kept (λ p. taken_amid i run more (dot_of p)) x (all_made more) (subst (Among x) (sym whole) (among_left x (all_made pre) (o ∷ []) r.0))
        (elim (or_true (taken i run (dot_of x)) (gained pre (dot_of x)) r.1) [
          | inl t ↦ or_left (taken i run (dot_of x)) (gained more (dot_of x)) t
          | inr g ↦ or_right (taken i run (dot_of x)) (gained more (dot_of x)) (gains_on (dot_of x) ∙ or_left (gained pre (dot_of x)) (same_dot (dot_of o) (dot_of x) || false) g)
        ])

    -- and so is it
    step_in : Among o (O more)
    step_in =
        among_kept (λ p. taken_amid i run more (dot_of p)) o (all_made more) (subst (Among o) (sym whole) (among_last o (all_made pre)))
        (or_right (taken i run (dot_of o)) (gained more (dot_of o)) (gains_on (dot_of o) ∙ or_right (gained pre (dot_of o)) (same_dot (dot_of o) (dot_of o) || false) (or_left (same_dot (dot_of o) (dot_of o)) false (dot_same (dot_of o) (dot_of o) refl))))

  -- what stands of a client to a filter is one subscription alone
  abbrev pub OnlyStands : List Act → List ℕ → List ℕ → Dot → Entry → Type 0
  OnlyStands pre client filter dot entry = (d : Dot) (e : Entry) → Stands (O pre) d e → e.client ≡ client → e.filter ≡ filter → (d ≡ dot) × (e ≡ entry)

  -- what stands after a Subscribe stood before, or is its own
  stood : (pre : List Act) (dot : Dot) (entry : Entry) (cover : Dots) → HaveOwnDots (all_made (pre ++ Store (Made (operations.Subscribe dot entry cover)) ∷ [])) → (d : Dot) (e : Entry)
      → Stands (O (pre ++ Store (Made (operations.Subscribe dot entry cover)) ∷ [])) d e → ((d ≡ dot) × (e ≡ entry)) ⊎ Stands (O pre) d e
  stood pre dot entry cover own d e s =
      let o = operations.Subscribe dot entry cover in
      elim (step_back pre o own (operations.Subscribe d e s.subscribed.0) s.subscribed.1) [
        | inl is ↦ inl ((let z : operations.Subscribe d e s.subscribed.0 ≡ o = is in cc), (let z : operations.Subscribe d e s.subscribed.0 ≡ o = is in cc))
        | inr was ↦ inr (record { subscribed = (s.subscribed.0, was); uncovered = λ k. s.uncovered (k.0, step_on pre o k.0 k.1, k.2) })
      ]

  first_only : (pre : List Act) (dot : Dot) (entry : Entry) (cover : Dots) → HaveOwnDots (all_made (pre ++ Store (Made (operations.Subscribe dot entry cover)) ∷ [])) → CoversWhatStands (O pre) entry.client (Some entry.filter) cover
      → OnlyStands (pre ++ Store (Made (operations.Subscribe dot entry cover)) ∷ []) entry.client entry.filter dot entry
  first_only pre dot entry cover own covers d e s client filter =
      let o = operations.Subscribe dot entry cover in
      elim (stood pre dot entry cover own d e s) [
        | inl same ↦ same
        | inr was ↦ absurd (s.uncovered (o, step_in pre o, (covers d).1 (e, was, is_of_both entry.client entry.filter e client filter)))
      ]

  -- one to another filter leaves it so
  later_only : (pre : List Act) (client filter : List ℕ) (dot : Dot) (entry : Entry) (d1 : Dot) (e1 : Entry) (c1 : Dots) → HaveOwnDots (all_made (pre ++ Store (Made (operations.Subscribe d1 e1 c1)) ∷ []))
      → (e1.client ≡ client → e1.filter ≡ filter → ⊥) → OnlyStands pre client filter dot entry → OnlyStands (pre ++ Store (Made (operations.Subscribe d1 e1 c1)) ∷ []) client filter dot entry
  later_only pre client filter dot entry d1 e1 c1 own other alone d e s same_client same_filter =
      elim (stood pre d1 e1 c1 own d e s) [
        | inl same ↦ absurd (other (ap (λ (v : Entry). v.client) (sym same.1) ∙ same_client) (ap (λ (v : Entry). v.filter) (sym same.1) ∙ same_filter))
        | inr was ↦ alone d e was same_client same_filter
      ]

  -- none of these is to the filter
  abbrev pub NoneTo : List ℕ → List ℕ → List Act → Type 0
  NoneTo client filter acts =
      (before after : List Act) (d : Dot) (e : Entry) (c : Dots) → acts ≡ before ++ Store (Made (operations.Subscribe d e c)) ∷ after → e.client ≡ client → e.filter ≡ filter → ⊥

  all_only : (rest pre : List Act) (client filter : List ℕ) (dot : Dot) (entry : Entry) → AllByRecursion MakesOne rest → ((xs ys : List Act) → rest ≡ xs ++ ys → HaveOwnDots (all_made (pre ++ xs)))
      → NoneTo client filter rest → OnlyStands pre client filter dot entry → OnlyStands (pre ++ rest) client filter dot entry
  all_only [] pre client filter dot entry ones own none alone = subst (λ zs. OnlyStands zs client filter dot entry) (sym (append-nil pre)) alone
  all_only (a ∷ rest) pre client filter dot entry ((d1, e1, c1, is), ones) own none alone =
      let b = Store (Made (operations.Subscribe d1 e1 c1)) in
      let so : OnlyStands (pre ++ b ∷ []) client filter dot entry = later_only pre client filter dot entry d1 e1 c1 (subst (λ x. HaveOwnDots (all_made (pre ++ x ∷ []))) is (own (a ∷ []) rest refl))
      (λ c f. none [] rest d1 e1 c1 (ap (λ x. x ∷ rest) is) c f) alone in
      let more : OnlyStands (pre ++ a ∷ []) client filter dot entry = subst (λ x. OnlyStands (pre ++ x ∷ []) client filter dot entry) (sym is) so in
      subst (λ zs. OnlyStands zs client filter dot entry) (append_assoc pre (a ∷ []) rest)
      (all_only rest (pre ++ a ∷ []) client filter dot entry ones
      (λ xs ys e. subst (λ zs. HaveOwnDots (all_made zs)) (sym (append_assoc pre (a ∷ []) xs)) (own (a ∷ xs) ys (ap (λ zs. a ∷ zs) e)))
      (λ before after d e c eq. none (a ∷ before) after d e c (ap (λ zs. a ∷ zs) eq)) more)

  -- the last one to a filter
  pub last_only : (own rest pre : List Act) (dot : Dot) (entry : Entry) (cover : Dots) → AllByRecursion MakesOne rest
      → ((xs ys : List Act) → own ++ Store (Made (operations.Subscribe dot entry cover)) ∷ rest ≡ xs ++ ys → HaveOwnDots (all_made (pre ++ xs)))
      → CoversWhatStands (O (pre ++ own)) entry.client (Some entry.filter) cover → NoneTo entry.client entry.filter rest
      → OnlyStands (pre ++ (own ++ Store (Made (operations.Subscribe dot entry cover)) ∷ rest)) entry.client entry.filter dot entry
  last_only own rest pre dot entry cover ones dots covers none =
      let a = Store (Made (operations.Subscribe dot entry cover)) in
      let parts : own ++ a ∷ rest ≡ (own ++ a ∷ []) ++ rest = sym (append_assoc own (a ∷ []) rest) in
      let so : OnlyStands ((pre ++ own) ++ a ∷ []) entry.client entry.filter dot entry =
      first_only (pre ++ own) dot entry cover (subst (λ zs. HaveOwnDots (all_made zs)) (sym (append_assoc pre own (a ∷ []))) (dots (own ++ a ∷ []) rest parts)) covers in
      let same : ((pre ++ own) ++ a ∷ []) ++ rest ≡ pre ++ (own ++ a ∷ rest) = append_assoc (pre ++ own) (a ∷ []) rest ∙ append_assoc pre own (a ∷ rest) in
      subst (λ zs. OnlyStands zs entry.client entry.filter dot entry) same
      (all_only rest ((pre ++ own) ++ a ∷ []) entry.client entry.filter dot entry ones
      (λ xs ys e. subst (λ zs. HaveOwnDots (all_made zs)) (sym (append_assoc (pre ++ own) (a ∷ []) xs ∙ append_assoc pre own (a ∷ xs)))
      (dots (own ++ a ∷ xs) ys (ap (λ zs. own ++ a ∷ zs) e ∙ sym (append_assoc own (a ∷ xs) ys)))) none so)

  -- ---- and it stands
  -- where what was made before it covers no dot of it
  first_stands : (pre : List Act) (dot : Dot) (entry : Entry) (cover : Dots) → HaveOwnDots (all_made (pre ++ Store (Made (operations.Subscribe dot entry cover)) ∷ [])) → CoversWhatStands (O pre) entry.client (Some entry.filter) cover
      → IsFresh (all_made pre) (operations.Subscribe dot entry cover) → ((p : Operation) → Among p (all_made pre) → set.contains (cover_of p) dot ≡ true → ⊥)
      → Stands (O (pre ++ Store (Made (operations.Subscribe dot entry cover)) ∷ [])) dot entry
  first_stands pre dot entry cover own covers fresh uncovered =
      let o = operations.Subscribe dot entry cover in
      let earlier : (x : Operation) → Among x (O pre) → Among x (all_made pre) = λ x a. (among_some (λ p. taken_amid i run pre (dot_of p)) x (all_made pre) a).0 in
      record {
        subscribed = (cover, step_in pre o);
        uncovered = λ k. elim (step_back pre o own k.0 k.1) [
          | inl is ↦ (let there = (covers dot).0 (subst (λ x. set.contains (cover_of x) dot ≡ true) is k.2) in
              let by = there.1.subscribed in
              fresh (operations.Subscribe dot there.0 by.0) (earlier (operations.Subscribe dot there.0 by.0) by.1) refl)
          | inr was ↦ uncovered k.0 (earlier k.0 was) k.2
        ];
      }

  -- one to another filter leaves it so
  later_stands : (pre : List Act) (dot : Dot) (entry : Entry) (d1 : Dot) (e1 : Entry) (c1 : Dots) → HaveOwnDots (all_made (pre ++ Store (Made (operations.Subscribe d1 e1 c1)) ∷ []))
      → CoversWhatStands (O pre) e1.client (Some e1.filter) c1 → (e1.client ≡ entry.client → e1.filter ≡ entry.filter → ⊥) → Stands (O pre) dot entry
      → Stands (O (pre ++ Store (Made (operations.Subscribe d1 e1 c1)) ∷ [])) dot entry
  later_stands pre dot entry d1 e1 c1 own covers other s =
      let o = operations.Subscribe d1 e1 c1 in
      let more = pre ++ Store (Made o) ∷ [] in
      let later : (x : Operation) → Among x (O pre) → Among x (all_made more) = λ x a. (among_some (λ p. taken_amid i run more (dot_of p)) x (all_made more) (step_on pre o x a)).0 in
      record {
        subscribed = (s.subscribed.0, step_on pre o (operations.Subscribe dot entry s.subscribed.0) s.subscribed.1);
        uncovered = λ k. elim (step_back pre o own k.0 k.1) [
          | inl is ↦ (let there = (covers dot).0 (subst (λ x. set.contains (cover_of x) dot ≡ true) is k.2) in
              let by = there.1.subscribed in
              let one : operations.Subscribe dot there.0 by.0 ≡ operations.Subscribe dot entry s.subscribed.0 = own _ _ (later (operations.Subscribe dot there.0 by.0) by.1) (later (operations.Subscribe dot entry s.subscribed.0) s.subscribed.1) refl in
              let same : there.0 ≡ entry = (let z : operations.Subscribe dot there.0 by.0 ≡ operations.Subscribe dot entry s.subscribed.0 = one in cc) in
              other ((bytes_decides e1.client there.0.client).0 (and_first (same_text e1.client there.0.client) (same_text e1.filter there.0.filter) there.2) ∙ ap (λ (v : Entry). v.client) same)
              ((bytes_decides e1.filter there.0.filter).0 (and_second (same_text e1.client there.0.client) (same_text e1.filter there.0.filter) there.2) ∙ ap (λ (v : Entry). v.filter) same))
          | inr was ↦ s.uncovered (k.0, was, k.2)
        ];
      }

  -- each of these covers what stood of its client to its filter
  abbrev pub CoverInTurn : List Act → List Act → Type 0
  CoverInTurn pre acts =
      (own rest : List Act) (dot : Dot) (entry : Entry) (cover : Dots) → acts ≡ own ++ Store (Made (operations.Subscribe dot entry cover)) ∷ rest → CoversWhatStands (O (pre ++ own)) entry.client (Some entry.filter) cover

  all_stand : (rest pre : List Act) (dot : Dot) (entry : Entry) → AllByRecursion MakesOne rest → ((xs ys : List Act) → rest ≡ xs ++ ys → HaveOwnDots (all_made (pre ++ xs)))
      → CoverInTurn pre rest → NoneTo entry.client entry.filter rest → Stands (O pre) dot entry → Stands (O (pre ++ rest)) dot entry
  all_stand [] pre dot entry ones own covers none stands = subst (λ zs. Stands (O zs) dot entry) (sym (append-nil pre)) stands
  all_stand (a ∷ rest) pre dot entry ((d1, e1, c1, is), ones) own covers none stands =
      let b = Store (Made (operations.Subscribe d1 e1 c1)) in
      let first : CoversWhatStands (O pre) e1.client (Some e1.filter) c1 =
      subst (λ zs. CoversWhatStands (O zs) e1.client (Some e1.filter) c1) (append-nil pre) (covers [] rest d1 e1 c1 (ap (λ x. x ∷ rest) is)) in
      let so : Stands (O (pre ++ b ∷ [])) dot entry = later_stands pre dot entry d1 e1 c1 (subst (λ x. HaveOwnDots (all_made (pre ++ x ∷ []))) is (own (a ∷ []) rest refl)) first
      (λ c f. none [] rest d1 e1 c1 (ap (λ x. x ∷ rest) is) c f) stands in
      let more : Stands (O (pre ++ a ∷ [])) dot entry = subst (λ x. Stands (O (pre ++ x ∷ [])) dot entry) (sym is) so in
      subst (λ zs. Stands (O zs) dot entry) (append_assoc pre (a ∷ []) rest)
      (all_stand rest (pre ++ a ∷ []) dot entry ones
      (λ xs ys e. subst (λ zs. HaveOwnDots (all_made zs)) (sym (append_assoc pre (a ∷ []) xs)) (own (a ∷ xs) ys (ap (λ zs. a ∷ zs) e)))
      (λ front back d e c eq. subst (λ zs. CoversWhatStands (O zs) e.client (Some e.filter) c) (sym (append_assoc pre (a ∷ []) front)) (covers (a ∷ front) back d e c (ap (λ zs. a ∷ zs) eq)))
      (λ before after d e c eq. none (a ∷ before) after d e c (ap (λ zs. a ∷ zs) eq)) more)

  -- the last one to a filter
  pub last_stands : (own rest pre : List Act) (dot : Dot) (entry : Entry) (cover : Dots) → AllByRecursion MakesOne rest
      → ((xs ys : List Act) → own ++ Store (Made (operations.Subscribe dot entry cover)) ∷ rest ≡ xs ++ ys → HaveOwnDots (all_made (pre ++ xs)))
      → CoverInTurn pre (own ++ Store (Made (operations.Subscribe dot entry cover)) ∷ rest) → NoneTo entry.client entry.filter rest
      → IsFresh (all_made (pre ++ own)) (operations.Subscribe dot entry cover) → ((p : Operation) → Among p (all_made (pre ++ own)) → set.contains (cover_of p) dot ≡ true → ⊥)
      → Stands (O (pre ++ (own ++ Store (Made (operations.Subscribe dot entry cover)) ∷ rest))) dot entry
  last_stands own rest pre dot entry cover ones dots covers none fresh uncovered =
      let a = Store (Made (operations.Subscribe dot entry cover)) in
      let parts : own ++ a ∷ rest ≡ (own ++ a ∷ []) ++ rest = sym (append_assoc own (a ∷ []) rest) in
      let so : Stands (O ((pre ++ own) ++ a ∷ [])) dot entry =
      first_stands (pre ++ own) dot entry cover (subst (λ zs. HaveOwnDots (all_made zs)) (sym (append_assoc pre own (a ∷ []))) (dots (own ++ a ∷ []) rest parts)) (covers own rest dot entry cover refl) fresh uncovered in
      let same : ((pre ++ own) ++ a ∷ []) ++ rest ≡ pre ++ (own ++ a ∷ rest) = append_assoc (pre ++ own) (a ∷ []) rest ∙ append_assoc pre own (a ∷ rest) in
      subst (λ zs. Stands (O zs) dot entry) same
      (all_stand rest ((pre ++ own) ++ a ∷ []) dot entry ones
      (λ xs ys e. subst (λ zs. HaveOwnDots (all_made zs)) (sym (append_assoc (pre ++ own) (a ∷ []) xs ∙ append_assoc pre own (a ∷ xs)))
      (dots (own ++ a ∷ xs) ys (ap (λ zs. own ++ a ∷ zs) e ∙ sym (append_assoc own (a ∷ xs) ys))))
      (λ front back d e c eq. subst (λ zs. CoversWhatStands (O zs) e.client (Some e.filter) c) (sym (append_assoc (pre ++ own) (a ∷ []) front ∙ append_assoc pre own (a ∷ front)))
      (covers (own ++ a ∷ front) back d e c (ap (λ zs. own ++ a ∷ zs) eq ∙ sym (append_assoc own (a ∷ front) (Store (Made (operations.Subscribe d e c)) ∷ back)))))
      none so)
