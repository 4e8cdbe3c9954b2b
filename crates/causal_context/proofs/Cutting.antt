-- The steps of a cut.
use Rattle.std.proofs.Common.{◌≡◌, ℕ, ◌+◌, ◌-◌, ◌<◌, ◌≤◌, Bool, true, false, not, ◌||◌, ◌&&◌, List, [], ◌∷◌, length, get_or, take, refl, sym, ap, subst, ◌∙◌, inl, inr, ◌⊎◌, arith}
use Rattle.std.specs.Cmp.{both_ways, first_so, second_so}
use Rattle.std.proofs.lemmas.Bool.{cases_order}
use Rattle.std.proofs.lemmas.List.{take_all, get_or_default}
use Rattle.std.proofs.lemmas.List.Folds.{list_any_more, list_any_at}
use Rattle.causal_context.specs.Dots.{Dot}
use Rattle.causal_context.specs.declared.ranges.Range.{Range}
use Rattle.causal_context.specs.Ranges.{covers, covered, IsFine, IsSound, IsApart, AreBelow}
use Rattle.causal_context.specs.RangeSteps.{StartsBy, StartsAfter, EndsBefore, ArePassed, AllStartUpTo, IsJoined, IsCutBy, AreCut}
use Rattle.causal_context.proofs.RangeLemmas.{IsIn, in_from_covers, covers_from_in, or_cases, or_left, or_right, or_false, or_group}
use Rattle.causal_context.proofs.Below.{between_free, none_covered}

not_true : (b : Bool) → b ≡ false → not b ≡ true
not_true b e = ap not e

both_true : (a b : Bool) → a ≡ true → b ≡ true → (a && b) ≡ true
both_true true b p q = q
both_true false b p q = cc

not_false : (b : Bool) → not b ≡ true → b ≡ true → ⊥
not_false b e t = cc

-- the range from its start to before a number
abbrev pub head_of : Range → ℕ → Range
head_of range first = record { node = range.node; first = range.first; last = first - 1 }

-- out has what old has, and what the cuts leave of the range before a number
pub record IsCutting (old : List Range) (range : Range) (cuts : List Range) (place first : ℕ) (out : List Range) : Type 0 where
  pub sound : IsSound out
  pub from : range.first ≤ first
  pub to : first ≤ range.last
  pub starts : AllStartUpTo out (record { node = range.node; first = first; last = range.last })
  pub passed : ArePassed cuts place (record { node = range.node; number = first })
  pub members : (q : Dot) → covered q out ≡ (covered q old || (covers q (head_of range first) && not (covered q cuts)))

starts_later : (rs : List Range) (a b : Range) → AllStartUpTo rs a → a.node ≤ b.node → (a.node ≡ b.node → a.first ≤ b.first) → AllStartUpTo rs b
starts_later rs a b all nodes numbers k d lt = let start = all k d lt in
    record { nodes = omega (arith, start.nodes); numbers = λ h. (let m = start.nodes in let u = start.numbers (omega arith) in let v = numbers (omega arith) in omega arith) }

passed_later : (cuts : List Range) (place : ℕ) (p q : Dot) → ArePassed cuts place p → p.node ≤ q.node → (p.node ≡ q.node → p.number ≤ q.number) → ArePassed cuts place q
passed_later cuts place p q passed nodes numbers = record {
  in_range = passed.in_range;
  before = λ k e lt. (let ends = passed.before k e lt in record { nodes = omega (arith, ends.nodes); numbers = λ h. (let m = ends.nodes in let u = ends.numbers (omega arith) in let v = numbers (omega arith) in omega arith) });
}

-- what a cut leaves of a longer head: the head before, and a piece that is free of cuts
more_members : (q : Dot) (old : Bool) (cut : Bool) (head piece longer : Bool) → (piece ≡ true → (cut ≡ false) × (longer ≡ true)) → (head ≡ true → longer ≡ true)
    → (longer ≡ true → cut ≡ false → (head ≡ true) ⊎ (piece ≡ true)) → ((old || (head && not cut)) || piece) ≡ (old || (longer && not cut))
more_members q old cut head piece longer free inside split = or_group old (head && not cut) piece ∙ ap (λ b. old || b) (both_ways ((head && not cut) || piece) (longer && not cut)
    (λ e. elim (or_cases (head && not cut) piece e) [
      | inl a ↦ both_true longer (not cut) (inside (first_so head (not cut) a)) (second_so head (not cut) a)
      | inr b ↦ (let f = free b in both_true longer (not cut) f.1 (not_true cut f.0))
    ])
    (λ e. (let l = first_so longer (not cut) e in let n = second_so longer (not cut) e in elim (split l (uncut cut n)) [
      | inl a ↦ or_left (head && not cut) piece (both_true head (not cut) a n)
      | inr b ↦ or_right (head && not cut) piece b
    ])))
  where
    uncut : (b : Bool) → not b ≡ true → b ≡ false
    uncut true e = cc
    uncut false e = refl

module _ (old : List Range) (range : Range) (cuts : List Range) (sound : IsSound cuts) (fine : IsFine range) where
  no_dot : (q : Dot) → covers q (head_of range range.first) ≡ false
  no_dot q = both_ways (covers q (head_of range range.first)) false (λ e. (let i = in_from_covers q (head_of range range.first) e in absurd (omega (arith, i.from, i.to, fine.from)))) (λ e. cc)

  none_there : (b n x : Bool) → x ≡ false → b ≡ (b || (x && n))
  none_there b n x e = sym (or_false b) ∙ ap (λ y. b || (y && n)) (sym e)

  -- before the first cut
  pub not_yet : (place : ℕ) → IsSound old → AllStartUpTo old range → ArePassed cuts place (record { node = range.node; number = range.first }) → IsCutting old range cuts place range.first old
  not_yet place old_sound starts passed = record {
    sound = old_sound;
    from = omega arith;
    to = fine.not_empty;
    starts = starts_later old range (record { node = range.node; first = range.first; last = range.last }) starts (omega arith) (λ h. omega arith);
    passed = passed;
    members = λ q. none_there (covered q old) (not (covered q cuts)) (covers q (head_of range range.first)) (no_dot q);
  }

  module _ (place first : ℕ) (out : List Range) (c : IsCutting old range cuts place first out) where
    first_is : 1 ≤ first
    first_is = omega (arith, c.from, fine.from)

    -- the dots of what is left are in no cut where the next cut starts after them
    free_piece : (to : ℕ) → ((e : Range) → place < length cuts → StartsAfter (record { node = range.node; number = to }) (get_or cuts place e)) → (q : Dot) → IsIn q (record { node = range.node; first = first; last = to }) → covered q cuts ≡ false
    free_piece to next q i = between_free cuts place q sound
        (λ k e lt. (let ends = c.passed.before k e lt in record { nodes = omega (arith, ends.nodes, i.node); numbers = λ h. (let m = ends.nodes in let n = i.node in let u = ends.numbers (omega arith) in omega (arith, i.from)) }))
        (λ e lt. (let after = next e lt in record { nodes = omega (arith, after.nodes, i.node); numbers = λ h. (let m = i.node in let u = after.numbers (omega arith) in omega (arith, i.to)) }))

    -- the head that grows by a piece
    grown : (to end : ℕ) (longer : Range) (mid : List Range) (q : Dot) → longer ≡ record { node = range.node; first = range.first; last = end } → first ≤ end + 1 → to ≤ end
        → ((e : Range) → place < length cuts → StartsAfter (record { node = range.node; number = to }) (get_or cuts place e))
        → ((q : Dot) → range.node ≡ q.node → first ≤ q.number → to < q.number → q.number ≤ end → covered q cuts ≡ true)
        → IsJoined out (record { node = range.node; first = first; last = to }) mid → covered q mid ≡ (covered q old || (covers q longer && not (covered q cuts)))
    grown to end longer mid q is_longer reach within next rest joined =
        let ln = ap (λ x. x.node) is_longer in let lf = ap (λ x. x.first) is_longer in let ll = ap (λ x. x.last) is_longer in
        let piece : Range = record { node = range.node; first = first; last = to } in
        joined.members q ∙ ap (λ b. b || covers q piece) (c.members q) ∙ more_members q (covered q old) (covered q cuts) (covers q (head_of range first)) (covers q piece) (covers q longer)
        (λ e. (let i = in_from_covers q piece e in (free_piece to next q i, covers_from_in q longer (record { node = omega (arith, i.node); from = omega (arith, i.from, c.from); to = omega (arith, i.to) }))))
        (λ e. (let i = in_from_covers q (head_of range first) e in covers_from_in q longer (record { node = omega (arith, i.node); from = omega (arith, i.from); to = omega (arith, i.to, first_is) })))
        (λ e free. (let i = in_from_covers q longer e in elim (cases_order q.number first) [
          | inr (inl less) ↦ inl (covers_from_in q (head_of range first) (record { node = omega (arith, i.node); from = omega (arith, i.from); to = omega arith }))
          | inl at ↦ inr (in_piece q longer ln ll i (omega arith) free)
          | inr (inr more) ↦ inr (in_piece q longer ln ll i (omega arith) free)
        ]))
      where
        in_piece : (q : Dot) (longer : Range) → longer.node ≡ range.node → longer.last ≡ end → IsIn q longer → first ≤ q.number → covered q cuts ≡ false → covers q (record { node = range.node; first = first; last = to }) ≡ true
        in_piece q longer ln ll i from free = elim (cases_order q.number to) [
          | inl at ↦ covers_from_in q (record { node = range.node; first = first; last = to }) (record { node = omega (arith, i.node); from = from; to = omega arith })
          | inr (inl less) ↦ covers_from_in q (record { node = range.node; first = first; last = to }) (record { node = omega (arith, i.node); from = from; to = omega arith })
          | inr (inr more) ↦ absurd (let there = rest q (omega (arith, i.node)) from more (omega (arith, i.to)) in cc)
        ]

    -- a piece that is not empty is free of cuts
    pub left_uncut : (to : ℕ) → first ≤ to → to ≤ range.last → ((e : Range) → place < length cuts → StartsAfter (record { node = range.node; number = to }) (get_or cuts place e)) → AreBelow (range ∷ []) cuts → ⊥
    left_uncut to some within next below =
        let q : Dot = record { node = range.node; number = first } in
        let there = below q (or_left (covers q range) false (covers_from_in q range (record { node = refl; from = c.from; to = omega arith }))) in
        let free = free_piece to next q (record { node = refl; from = omega arith; to = some }) in cc

    -- no cut is left that could reach into the range
    pub no_more_cuts : (new : List Range) → ((e : Range) → place < length cuts → StartsAfter (record { node = range.node; number = range.last }) (get_or cuts place e))
        → IsJoined out (record { node = range.node; first = first; last = range.last }) new → IsCutBy old range cuts place new
    no_more_cuts new next joined = record {
      sound = joined.sound;
      starts = starts_later new (record { node = range.node; first = first; last = range.last }) (record { node = range.node; first = range.last; last = range.last }) joined.starts (omega arith) (λ h. c.to);
      passed = passed_later cuts place (record { node = range.node; number = first }) (record { node = range.node; number = range.last + 1 }) c.passed (omega arith) (λ h. omega (arith, c.to));
      members = λ q. grown range.last range.last range new q refl (omega (arith, c.to)) (omega arith) next (λ p m f g h. absurd (omega arith)) joined;
    }

    module _ (cut : Range) (lt : place < length cuts) (is : cut ≡ get_or cuts place cut) where
      cut_at : (e : Range) → get_or cuts place e ≡ cut
      cut_at e = get_or_default cuts place e cut lt ∙ sym is

      cut_fine : IsFine cut
      cut_fine = subst IsFine (cut_at cut) (sound.fine place cut lt)

      passed_one : (d : Dot) → ArePassed cuts place d → EndsBefore d cut → ArePassed cuts (place + 1) d
      passed_one d passed ends = record {
        in_range = omega arith;
        before = λ k e less. elim (cases_order k place) [
          | inl same ↦ subst (EndsBefore d) (sym (ap (λ m. get_or cuts m e) same ∙ cut_at e)) ends
          | inr (inl low) ↦ passed.before k e low
          | inr (inr high) ↦ absurd (omega arith)
        ];
      }

      -- a cut that ends before what is left
      pub skip_cut : EndsBefore (record { node = range.node; number = first }) cut → IsCutting old range cuts (place + 1) first out
      skip_cut ends = record {
        sound = c.sound;
        from = c.from;
        to = c.to;
        starts = c.starts;
        passed = passed_one (record { node = range.node; number = first }) c.passed ends;
        members = c.members;
      }

      module _ (by : StartsBy (record { node = range.node; number = range.last }) cut) (late : EndsBefore (record { node = range.node; number = first }) cut → ⊥) where
        same_node : cut.node ≡ range.node
        same_node = elim (cases_order cut.node range.node) [
          | inl same ↦ same
          | inr (inl less) ↦ absurd (late (record { nodes = omega arith; numbers = λ h. absurd (omega arith) }))
          | inr (inr more) ↦ absurd (omega (arith, by.nodes))
        ]

        reaches : first ≤ cut.last
        reaches = elim (cases_order cut.last first) [
          | inl at ↦ omega arith
          | inr (inl less) ↦ absurd (late (record { nodes = omega (arith, same_node); numbers = λ h. less }))
          | inr (inr more) ↦ omega arith
        ]

        next_cut : (e : Range) → place < length cuts → StartsAfter (record { node = range.node; number = cut.first - 1 }) (get_or cuts place e)
        next_cut e in_range = subst (StartsAfter (record { node = range.node; number = cut.first - 1 })) (sym (cut_at e)) (record { nodes = omega (arith, same_node); numbers = λ h. omega (arith, cut_fine.from) })

        is_cut : (q : Dot) → range.node ≡ q.node → cut.first - 1 < q.number → q.number ≤ cut.last → covered q cuts ≡ true
        is_cut q node above to = list_any_at (covers q) cuts place cut lt (subst (λ (x : Range). covers q x ≡ true) is (covers_from_in q cut (record { node = omega (arith, same_node); from = omega arith; to = to })))

        -- what is left before the cut is in no cut
        pub left_of_cut : first ≤ cut.first - 1 → AreBelow (range ∷ []) cuts → ⊥
        left_of_cut some = left_uncut (cut.first - 1) some (omega (arith, by.numbers same_node)) next_cut

        module _ (mid : List Range) (joined : IsJoined out (record { node = range.node; first = first; last = cut.first - 1 }) mid) where
          -- a cut that ends within the range
          pub cut_within : cut.last < range.last → IsCutting old range cuts (place + 1) (cut.last + 1) mid
          cut_within short = record {
            sound = joined.sound;
            from = omega (arith, c.from, reaches);
            to = omega arith;
            starts = starts_later mid (record { node = range.node; first = first; last = cut.first - 1 }) (record { node = range.node; first = cut.last + 1; last = range.last }) joined.starts (omega arith) (λ h. omega (arith, reaches));
            passed = passed_one (record { node = range.node; number = cut.last + 1 }) (passed_later cuts place (record { node = range.node; number = first }) (record { node = range.node; number = cut.last + 1 }) c.passed (omega arith) (λ h. omega (arith, reaches)))
                (record { nodes = omega (arith, same_node); numbers = λ h. omega arith });
            members = λ q. grown (cut.first - 1) cut.last (head_of range (cut.last + 1)) mid q (λ i. record { node = range.node; first = range.first; last = back i }) (omega (arith, reaches)) (omega (arith, cut_fine.not_empty)) next_cut
                (λ p node from above to. is_cut p node above to) joined;
          }
            where
              back : cut.last + 1 - 1 ≡ cut.last
              back = omega arith

          -- a cut that reaches to the end of the range or past it
          pub cut_past : range.last ≤ cut.last → IsCutBy old range cuts place mid
          cut_past past = record {
            sound = joined.sound;
            starts = starts_later mid (record { node = range.node; first = first; last = cut.first - 1 }) (record { node = range.node; first = range.last; last = range.last }) joined.starts (omega arith) (λ h. omega (arith, c.to));
            passed = passed_later cuts place (record { node = range.node; number = first }) (record { node = range.node; number = range.last + 1 }) c.passed (omega arith) (λ h. omega (arith, c.to));
            members = λ q. grown (cut.first - 1) cut.last (record { node = range.node; first = range.first; last = cut.last }) mid q refl (omega (arith, reaches)) (omega (arith, cut_fine.not_empty)) next_cut
                (λ p node from above to. is_cut p node above to) joined ∙ ap (λ b. covered q old || b) (same_left q);
          }
            where
              same_left : (q : Dot) → (covers q (record { node = range.node; first = range.first; last = cut.last }) && not (covered q cuts)) ≡ (covers q range && not (covered q cuts))
              same_left q =
                  let longer : Range = record { node = range.node; first = range.first; last = cut.last } in
                  both_ways (covers q longer && not (covered q cuts)) (covers q range && not (covered q cuts))
                  (λ e. (let i = in_from_covers q longer (first_so (covers q longer) (not (covered q cuts)) e) in let n = second_so (covers q longer) (not (covered q cuts)) e in
                  elim (cases_order q.number range.last) [
                    | inr (inr more) ↦ absurd (not_false (covered q cuts) n (is_cut q i.node (omega (arith, by.numbers same_node)) i.to))
                    | inl at ↦ both_true (covers q range) (not (covered q cuts)) (covers_from_in q range (record { node = i.node; from = i.from; to = omega arith })) n
                    | inr (inl less) ↦ both_true (covers q range) (not (covered q cuts)) (covers_from_in q range (record { node = i.node; from = i.from; to = omega arith })) n
                  ]))
                  (λ e. (let i = in_from_covers q range (first_so (covers q range) (not (covered q cuts)) e) in
                  both_true (covers q longer) (not (covered q cuts)) (covers_from_in q longer (record { node = i.node; from = i.from; to = omega (arith, i.to) })) (second_so (covers q range) (not (covered q cuts)) e)))

-- out has what the first i ranges have and the cuts have not; what comes next is past the cuts before the place
pub record IsCutUpTo (ranges cuts : List Range) (i place : ℕ) (out : List Range) : Type 0 where
  pub sound : IsSound out
  pub starts : (d : Range) → i < length ranges → AllStartUpTo out (get_or ranges i d)
  pub passed : (d : Range) → i < length ranges → ArePassed cuts place (record { node = (get_or ranges i d).node; number = (get_or ranges i d).first })
  pub members : (q : Dot) → covered q out ≡ (covered q (take i ranges) && not (covered q cuts))

or_and : (a b n : Bool) → ((a && n) || (b && n)) ≡ ((a || b) && n)
or_and true true true = refl
or_and true true false = refl
or_and true false true = refl
or_and true false false = refl
or_and false b n = refl

pub nothing_cut : (ranges cuts out : List Range) → out ≡ [] → IsCutUpTo ranges cuts 0 0 out
nothing_cut ranges cuts out e = subst (IsCutUpTo ranges cuts 0 0) (sym e) (record {
  sound = record { fine = λ k d lt. absurd (omega arith); apart = λ i j d p lt. absurd (omega arith) };
  starts = λ d lt k x in_out. absurd (omega arith);
  passed = λ d lt. record { in_range = omega arith; before = λ k x less. absurd (omega arith) };
  members = λ q. refl;
})

pub one_more_cut : (ranges cuts : List Range) (i place next : ℕ) (r : Range) (out new : List Range) → IsSound ranges → i < length ranges → r ≡ get_or ranges i r → IsCutUpTo ranges cuts i place out → IsCutBy out r cuts next new → IsCutUpTo ranges cuts (i + 1) next new
one_more_cut ranges cuts i place next r out new sound lt is c one =
    let fine = subst IsFine (sym is) (sound.fine i r lt) in
    let apart : (d : Range) → i + 1 < length ranges → IsApart r (get_or ranges (i + 1) d) = λ d in_range. subst (λ (x : Range). IsApart x (get_or ranges (i + 1) d)) (sym (is ∙ get_or_default ranges i r d lt)) (sound.apart i (i + 1) d (omega arith) in_range) in
    record {
      sound = one.sound;
      starts = λ d in_range. (let p = apart d in_range in starts_later new (record { node = r.node; first = r.last; last = r.last }) (get_or ranges (i + 1) d) one.starts p.nodes (λ h. omega (arith, p.numbers h)));
      passed = λ d in_range. (let p = apart d in_range in passed_later cuts next (record { node = r.node; number = r.last + 1 }) (record { node = (get_or ranges (i + 1) d).node; number = (get_or ranges (i + 1) d).first }) one.passed p.nodes (λ h. omega (arith, p.numbers h)));
      members = λ q. one.members q ∙ ap (λ b. b || (covers q r && not (covered q cuts))) (c.members q) ∙ or_and (covered q (take i ranges)) (covers q r) (not (covered q cuts))
          ∙ ap (λ b. b && not (covered q cuts)) (ap (λ (x : Range). covered q (take i ranges) || covers q x) is ∙ sym (list_any_more (covers q) ranges i r lt));
    }

pub all_cut : (ranges cuts : List Range) (i place : ℕ) (out : List Range) → IsCutUpTo ranges cuts i place out → length ranges ≤ i → AreCut ranges cuts out
all_cut ranges cuts i place out c past = record {
  sound = c.sound;
  members = λ q. c.members q ∙ ap (λ rs. covered q rs && not (covered q cuts)) (take_all i ranges past);
}

-- nothing is left of ranges whose dots are all cut
pub none_left_of : (ranges cuts out : List Range) → AreCut ranges cuts out → AreBelow ranges cuts → length out ≡ 0
none_left_of ranges cuts out c below = none_covered out c.sound (λ q e.
    (let left = sym (c.members q) ∙ e in
    not_false (covered q cuts) (second_so (covered q ranges) (not (covered q cuts)) left) (below q (first_so (covered q ranges) (not (covered q cuts)) left))))
