-- Pushing a range on sound ranges.
use Rattle.std.proofs.Common.{◌≡◌, ℕ, ◌+◌, ◌<◌, ◌≤◌, Bool, true, false, ◌||◌, ◌&&◌, ◌==◌, List, [], ◌∷◌, ◌++◌, length, get_or, set, take, refl, sym, ap, subst, ◌∙◌, inl, inr, ◌⊎◌, arith}
use Rattle.std.specs.Prelude.{nat_le}
use Rattle.std.specs.Cmp.{both_ways, first_so, second_so}
use Rattle.std.proofs.lemmas.Bool.{leb-true, le-leb, eq-eqb, eqb-true, cases_order}
use Rattle.std.proofs.lemmas.List.{take_all, take_more_set, get_or-set_same, get_or-set_other, get_or_default, length-set}
use Rattle.std.proofs.lemmas.List.Folds.{list_any-append, list_any_more, list_any_at}
use Rattle.std.proofs.lemmas.List.Elements.{All-push}
use Rattle.std.proofs.lemmas.List.Quantifiers.{all_pairs_push}
use Rattle.causal_context.specs.Dots.{Dot}
use Rattle.causal_context.specs.declared.ranges.Range.{Range}
use Rattle.causal_context.specs.Ranges.{covers, covered, IsFine, IsSound, IsApart}
use Rattle.causal_context.specs.RangeSteps.{StartsBy, StartsAfter, StartsUpTo, AllStartUpTo, IsJoined}

-- the dot is in the range
pub record IsIn (q : Dot) (r : Range) : Type 0 where
  pub node : r.node ≡ q.node
  pub from : r.first ≤ q.number
  pub to : q.number ≤ r.last

pub in_from_covers : (q : Dot) (r : Range) → covers q r ≡ true → IsIn q r
in_from_covers q r e =
    let rest = second_so (r.node == q.node) (nat_le r.first q.number && nat_le q.number r.last) e in
    record { node = eqb-true r.node q.node (first_so (r.node == q.node) (nat_le r.first q.number && nat_le q.number r.last) e); from = leb-true r.first q.number (first_so (nat_le r.first q.number) (nat_le q.number r.last) rest); to = leb-true q.number r.last (second_so (nat_le r.first q.number) (nat_le q.number r.last) rest) }

pub covers_from_in : (q : Dot) (r : Range) → IsIn q r → covers q r ≡ true
covers_from_in q r i = rw (eq-eqb r.node q.node i.node, le-leb r.first q.number i.from, le-leb q.number r.last i.to)

pub not_so : {P : Type 0} (b : Bool) → (b ≡ true → P) × (P → b ≡ true) → b ≡ false → P → ⊥
not_so b test e p = let t = test.1 p in cc

pub starts_after : (d : Dot) (r : Range) → (StartsBy d r → ⊥) → StartsAfter d r
starts_after d r late = elim (cases_order r.node d.node) [
  | inr (inl less) ↦ absurd (late (record { nodes = omega arith; numbers = λ h. absurd (omega arith) }))
  | inr (inr more) ↦ record { nodes = omega arith; numbers = λ h. absurd (omega arith) }
  | inl same ↦ elim (cases_order d.number r.first) [
    | inr (inl less) ↦ record { nodes = omega arith; numbers = λ h. less }
    | inl at ↦ absurd (late (record { nodes = omega arith; numbers = λ h. omega arith }))
    | inr (inr more) ↦ absurd (late (record { nodes = omega arith; numbers = λ h. omega arith }))
  ]
]

-- the range at a place
pub read_at : (rs : List Range) (i : ℕ) (d : Range) → i < length rs → get_or rs i d ≡ get_or rs i (get_or rs i d)
read_at rs i d lt = get_or_default rs i d (get_or rs i d) lt

pub or_cases : (a b : Bool) → (a || b) ≡ true → (a ≡ true) ⊎ (b ≡ true)
or_cases true b e = inl refl
or_cases false b e = inr e

pub or_left : (a b : Bool) → a ≡ true → (a || b) ≡ true
or_left true b e = refl
or_left false b e = cc

pub or_right : (a b : Bool) → b ≡ true → (a || b) ≡ true
or_right true b e = refl
or_right false b e = e

pub or_false : (a : Bool) → (a || false) ≡ a
or_false true = refl
or_false false = refl

pub or_group : (a b c : Bool) → ((a || b) || c) ≡ (a || (b || c))
or_group true b c = refl
or_group false b c = refl

itself : (r : Range) → StartsUpTo r r
itself r = record { nodes = omega arith; numbers = λ e. omega arith }

pub pushed : (rs : List Range) (r : Range) → IsSound rs → IsFine r → AllStartUpTo rs r → ((k : ℕ) (d : Range) → k < length rs → IsApart (get_or rs k d) r) → IsJoined rs r (rs ++ r ∷ [])
pushed rs r sound fine starts apart = record {
  sound = record { fine = All-push IsFine rs r sound.fine fine; apart = all_pairs_push IsApart rs r sound.apart apart };
  starts = All-push (λ x. StartsUpTo x r) rs r starts (itself r);
  members = λ q. list_any-append (covers q) rs (r ∷ []) ∙ ap (λ b. covered q rs || b) (or_false (covers q r));
}

pub apart_trans : (a b c : Range) → IsFine b → IsApart a b → IsApart b c → IsApart a c
apart_trans a b c fine p q = record { nodes = omega (arith, p.nodes, q.nodes); numbers = λ e. (let n = p.nodes in let m = q.nodes in let x = p.numbers (omega arith) in let y = q.numbers (omega arith) in let f = fine.not_empty in omega arith) }

-- apart from the last is apart from all
pub all_apart : (rs : List Range) (i : ℕ) (last r : Range) → IsSound rs → i + 1 ≡ length rs → last ≡ get_or rs i last → IsApart last r → (k : ℕ) (d : Range) → k < length rs → IsApart (get_or rs k d) r
all_apart rs i last r sound at is apart k d lt =
    let here : last ≡ get_or rs i d = is ∙ get_or_default rs i last d (omega arith) in
    elim (cases_order k i) [
      | inl same ↦ subst (λ x. IsApart x r) (here ∙ ap (λ m. get_or rs m d) (sym same)) apart
      | inr (inl below) ↦ apart_trans (get_or rs k d) last r (subst IsFine (sym here) (sound.fine i d (omega arith))) (subst (IsApart (get_or rs k d)) (sym here) (sound.apart k i d below (omega arith))) apart
      | inr (inr more) ↦ absurd (omega arith)
    ]

pub kept : (rs : List Range) (i : ℕ) (last r : Range) → IsSound rs → AllStartUpTo rs r → i + 1 ≡ length rs → last ≡ get_or rs i last → r.node ≤ last.node → r.last ≤ last.last → IsJoined rs r rs
kept rs i last r sound starts at is node to = record {
  sound = sound;
  starts = starts;
  members = λ q. both_ways (covered q rs) (covered q rs || covers q r) (λ e. or_left _ _ e) (λ e. elim (or_cases (covered q rs) (covers q r) e) [
    | inl a ↦ a
    | inr b ↦ (
        let inside = in_from_covers q r b in
        let start = subst (λ x. StartsUpTo x r) (sym is) (starts i last (omega arith)) in
        let same : last.node ≡ r.node = omega (arith, start.nodes) in
        list_any_at (covers q) rs i last (omega arith) (subst (λ x. covers q x ≡ true) is (covers_from_in q last (record { node = omega (arith, inside.node); from = omega (arith, start.numbers same, inside.from); to = omega (arith, inside.to) }))))
  ]);
}

pub extended : (rs : List Range) (i : ℕ) (last r new : Range) → IsSound rs → IsFine r → AllStartUpTo rs r → i + 1 ≡ length rs → last ≡ get_or rs i last → r.node ≤ last.node → r.first ≤ last.last + 1 → last.last < r.last
    → new ≡ record { node = last.node; first = last.first; last = r.last } → IsJoined rs r (set rs i new)
extended rs i last r new sound fine starts at is node touches more is_new =
    let new_node : new.node ≡ last.node = ap (λ x. x.node) is_new in
    let new_first : new.first ≡ last.first = ap (λ x. x.first) is_new in
    let new_last : new.last ≡ r.last = ap (λ x. x.last) is_new in
    let start = subst (λ x. StartsUpTo x r) (sym is) (starts i last (omega arith)) in
    let same : last.node ≡ r.node = omega (arith, start.nodes) in
    let last_fine = subst IsFine (sym is) (sound.fine i last (omega arith)) in
    let len = length-set rs i new in
    let at_i : (d : Range) → get_or (set rs i new) i d ≡ new = λ d. get_or-set_same rs i new d (omega arith) in
    let at_k : (k : ℕ) (d : Range) → (k ≡ i → ⊥) → get_or (set rs i new) k d ≡ get_or rs k d = λ k d ne. get_or-set_other rs i k new d ne in
    let here : (d : Range) → last ≡ get_or rs i d = λ d. is ∙ get_or_default rs i last d (omega arith) in
    record {
      sound = record {
        fine = λ k d lt. elim (cases_order k i) [
          | inl e ↦ subst IsFine (sym (ap (λ m. get_or (set rs i new) m d) e ∙ at_i d)) (record { node = omega (arith, last_fine.node); from = omega (arith, last_fine.from); not_empty = omega (arith, last_fine.not_empty); below = omega (arith, fine.below) })
          | inr (inl less) ↦ subst IsFine (sym (at_k k d (λ e. omega arith))) (sound.fine k d (omega arith))
          | inr (inr greater) ↦ absurd (omega arith)
        ];
        apart = λ k j d lt in_range. elim (cases_order j i) [
          | inl e ↦ (let old = subst (IsApart (get_or rs k d)) (sym (here d)) (sound.apart k i d (omega arith) (omega arith)) in
              subst (λ x. IsApart x (get_or (set rs i new) j d)) (sym (at_k k d (λ f. omega arith)))
              (subst (IsApart (get_or rs k d)) (sym (ap (λ m. get_or (set rs i new) m d) e ∙ at_i d))
              (record { nodes = omega (arith, old.nodes); numbers = λ f. omega (arith, old.numbers (omega arith)) })))
          | inr (inl less) ↦ subst (λ x. IsApart x (get_or (set rs i new) j d)) (sym (at_k k d (λ f. omega arith))) (subst (IsApart (get_or rs k d)) (sym (at_k j d (λ f. omega arith))) (sound.apart k j d lt (omega arith)))
          | inr (inr greater) ↦ absurd (omega arith)
        ];
      };
      starts = λ k d lt. elim (cases_order k i) [
        | inl e ↦ subst (λ x. StartsUpTo x r) (sym (ap (λ m. get_or (set rs i new) m d) e ∙ at_i d)) (record { nodes = omega arith; numbers = λ f. omega (arith, start.numbers same) })
        | inr (inl less) ↦ subst (λ x. StartsUpTo x r) (sym (at_k k d (λ e. omega arith))) (starts k d (omega arith))
        | inr (inr greater) ↦ absurd (omega arith)
      ];
      members = λ q.
          let after : covered q (set rs i new) ≡ (covered q (take i rs) || covers q new) =
          ap (covered q) (sym (take_all (i + 1) (set rs i new) (omega arith)) ∙ take_more_set rs i new (omega arith)) ∙ list_any-append (covers q) (take i rs) (new ∷ []) ∙ ap (λ b. covered q (take i rs) || b) (or_false (covers q new)) in
          let before : covered q rs ≡ (covered q (take i rs) || covers q last) =
          ap (covered q) (sym (take_all (i + 1) rs (omega arith))) ∙ list_any_more (covers q) rs i last (omega arith) ∙ ap (λ x. covered q (take i rs) || covers q x) (sym is) in
          let one : covers q new ≡ (covers q last || covers q r) = both_ways (covers q new) (covers q last || covers q r)
          (λ e. (let inside = in_from_covers q new e in elim (cases_order q.number last.last) [
            | inl f ↦ or_left (covers q last) (covers q r) (covers_from_in q last (record { node = omega (arith, inside.node); from = omega (arith, inside.from); to = omega arith }))
            | inr (inl f) ↦ or_left (covers q last) (covers q r) (covers_from_in q last (record { node = omega (arith, inside.node); from = omega (arith, inside.from); to = omega arith }))
            | inr (inr f) ↦ or_right (covers q last) (covers q r) (covers_from_in q r (record { node = omega (arith, inside.node); from = omega arith; to = omega (arith, inside.to) }))
          ]))
          (λ e. elim (or_cases (covers q last) (covers q r) e) [
            | inl a ↦ (let inside = in_from_covers q last a in covers_from_in q new (record { node = omega (arith, inside.node); from = omega (arith, inside.from); to = omega (arith, inside.to) }))
            | inr b ↦ (let inside = in_from_covers q r b in covers_from_in q new (record { node = omega (arith, inside.node); from = omega (arith, inside.from, start.numbers same); to = omega (arith, inside.to) }))
          ]) in
          after ∙ ap (λ b. covered q (take i rs) || b) one ∙ sym (or_group (covered q (take i rs)) (covers q last) (covers q r)) ∙ ap (λ b. b || covers q r) (sym before);
    }
