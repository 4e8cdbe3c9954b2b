-- The rows of a node cut by kind.
use Rattle.std.proofs.Common.{◌≡◌, ◌≢◌, inl, inr, ℕ, ◌<◌, ◌≤◌, Bool, false, cond, T, List, [], ◌∷◌, ◌++◌, Option, Some, None, arith, refl, sym, ap, subst, ◌∙◌}
use Rattle.std.specs.Prelude.{◌==◌, if◌then◌else◌}
use Rattle.std.specs.FinMap.{find, is_sorted}
use Rattle.std.specs.List.{AllByRecursion}
use Rattle.std.proofs.lemmas.Bool.{cases_eq, ne_eqb}
use Rattle.row_store.specs.Rows.{Key, key_cmp, Plain}
use Rattle.bridge_lanes.specs.Changes.{is_lane_kind}
use Rattle.bridge_lanes.specs.Rows as lane_rows
use Rattle.replica_store.specs.States.{State}
use Rattle.session_rows.specs.Durable.{Durable}
use Rattle.replica_rows.specs.Rows.{row_at}
use Rattle.node_rows.specs.Rows.{Lasting, mark, mark_at, mark_key, node_row, session_row}
use Rattle.node_rows.specs.Sessions.{AreSessions, session_at}
use Rattle.node_rows.proofs.Lists.{either, find_both, find_none, other_key, same_key}
use Rattle.node_rows.proofs.Clients.{are_copies, are_own, clients_apart, found}

-- ---- rows by kind
other_kind : (q : Key) (n : ℕ) → q.0 ≢ n → (q.0 == n) ≡ false
other_kind q n apart = ne_eqb q.0 n apart

pub mark_row : (id : ℕ) (x : Lasting) (q : Key) → q.0 ≡ 1 → node_row id x q ≡ mark_at (mark id x.named) q.1.0 q.1.1
mark_row id x q one = rw one refl

pub own_kind : (id : ℕ) (x : Lasting) (q : Key) → q.0 ≡ 2 → node_row id x q ≡ session_row (x.sessions q.1.0) q
own_kind id x q two = rw two refl

pub copy_kind : (id : ℕ) (x : Lasting) (q : Key) → q.0 ≡ 3 → node_row id x q ≡ session_row (x.sessions q.1.0) q
copy_kind id x q three = rw three refl

-- the rows of the other kinds: those of the lanes and those of the state
abbrev pub last_row : Lasting → Key → Option (List ℕ)
last_row x q = if is_lane_kind q.0 then lane_rows.row_at x.lanes q else row_at x.store q

pub other_row : (id : ℕ) (x : Lasting) (q : Key) → q.0 ≢ 1 → q.0 ≢ 2 → q.0 ≢ 3 → node_row id x q ≡ last_row x q
other_row id x q one two three = rw (other_kind q 1 one, other_kind q 2 two, other_kind q 3 three) refl

no_state_row : (s : State) (q : Key) → q.0 ≢ 4 → q.0 ≢ 5 → q.0 ≢ 6 → row_at s q ≡ None
no_state_row s q four five six = rw (other_kind q 4 four, other_kind q 5 five, other_kind q 6 six) refl

pub no_high_row : (s : State) (q : Key) → 6 < q.0 → row_at s q ≡ None
no_high_row s q high = no_state_row s q (λ e. absurd (omega (arith, e, high))) (λ e. absurd (omega (arith, e, high))) (λ e. absurd (omega (arith, e, high)))

pub no_low_row : (s : State) (q : Key) → q.0 ≤ 3 → row_at s q ≡ None
no_low_row s q low = no_state_row s q (λ e. absurd (omega (arith, e, low))) (λ e. absurd (omega (arith, e, low))) (λ e. absurd (omega (arith, e, low)))

pub no_last_row : (x : Lasting) (q : Key) → q.0 ≤ 3 → last_row x q ≡ None
no_last_row x q low = rw (other_kind q 7 (λ e. absurd (omega (arith, e, low))), other_kind q 8 (λ e. absurd (omega (arith, e, low)))) (no_low_row x.store q low)

-- what is found in four parts
abbrev pub among : Bool → List ℕ → Option (List ℕ) → Option (List ℕ) → Option (List ℕ) → Option (List ℕ)
among b v o c r = cond b (Some v) (either o (either c r))

pub in_first : (b : Bool) (v : List ℕ) (o c r : Option (List ℕ)) → o ≡ None → c ≡ None → r ≡ None → among b v o c r ≡ cond b (Some v) None
in_first b v o c r x y z = rw (x, y, z) refl

pub in_middle : (b : Bool) (v : List ℕ) (o c r : Option (List ℕ)) → b ≡ false → r ≡ None → among b v o c r ≡ either o c
in_middle b v o None r x z = rw (x, z) refl
in_middle b v o (Some w) r x z = rw x refl

pub in_last : (b : Bool) (v : List ℕ) (o c r : Option (List ℕ)) → b ≡ false → o ≡ None → c ≡ None → among b v o c r ≡ r
in_last b v o c r x y z = rw (x, y, z) refl

marked : (v : List ℕ) (q : Key) → q.0 ≡ 1 → cond (same_key q mark_key) (Some v) None ≡ mark_at v q.1.0 q.1.1
marked v (k, ([], [])) one = rw one refl
marked v (k, ([], b ∷ place)) one = rw one refl
marked v (k, (b ∷ owner, place)) one = rw one refl

pub find_cut : (q : Key) (first : Plain) (own copies others : List Plain)
    → find key_cmp q (first ∷ (own ++ (copies ++ others))) ≡ cond (same_key q first.0) (Some first.1) (either (find key_cmp q own) (either (find key_cmp q copies) (find key_cmp q others)))
find_cut q first own copies others =
    ap (cond (same_key q first.0) (Some first.1)) (find_both q own (copies ++ others) ∙ ap (either (find key_cmp q own)) (find_both q copies others))

-- ---- parts that say it
module _ (id : ℕ) (x : Lasting) (first : Plain) (own copies others : List Plain) (ds : List Durable) (is : first ≡ (mark_key, mark id x.named)) (up : T (is_sorted key_cmp own)) (are : AreSessions own copies ds)
    (there : (client : List ℕ) → x.sessions client ≡ session_at ds client) (rest : (q : Key) → find key_cmp q others ≡ last_row x q) where
  own_two : AllByRecursion (λ e. e.0.0 ≡ 2) own
  own_two = subst (AllByRecursion (λ (e : Plain). e.0.0 ≡ 2)) are.own_are (are_own ds)

  copies_three : AllByRecursion (λ e. e.0.0 ≡ 3) copies
  copies_three = subst (AllByRecursion (λ (e : Plain). e.0.0 ≡ 3)) are.copies_are (are_copies ds)

  not_first : (q : Key) → q.0 ≢ 1 → same_key q first.0 ≡ false
  not_first q other = other_key q first.0 (λ e. other (ap (λ (k : Key). k.0) (e ∙ ap (λ (f : Plain). f.0) is)))

  no_own : (q : Key) → q.0 ≢ 2 → find key_cmp q own ≡ None
  no_own q other = find_none q (λ k. k.0 ≡ 2) own own_two other

  no_copies : (q : Key) → q.0 ≢ 3 → find key_cmp q copies ≡ None
  no_copies q other = find_none q (λ k. k.0 ≡ 3) copies copies_three other

  sessions_found : (q : Key) → either (find key_cmp q own) (find key_cmp q copies) ≡ session_row (x.sessions q.1.0) q
  sessions_found q =
      let rise = subst (λ (es : List Plain). T (is_sorted key_cmp es)) (sym are.own_are) up in
      (λ i. either (find key_cmp q (sym are.own_are i)) (find key_cmp q (sym are.copies_are i))) ∙ found q ds (clients_apart ds rise) ∙ ap (λ (o : Option Durable). session_row o q) (sym (there q.1.0))

  none_left : (q : Key) → q.0 ≤ 3 → find key_cmp q others ≡ None
  none_left q low = rest q ∙ no_last_row x q low

  pub say_so : (q : Key) → find key_cmp q (first ∷ (own ++ (copies ++ others))) ≡ node_row id x q
  say_so q = find_cut q first own copies others ∙ elim (cases_eq q.0 1) [
    | inl one ↦
        in_first (same_key q first.0) first.1 _ _ _ (no_own q (λ e. absurd (omega (arith, e, one)))) (no_copies q (λ e. absurd (omega (arith, e, one)))) (none_left q (omega (arith, one)))
        ∙ (λ i. cond (same_key q (is i).0) (Some (is i).1) None) ∙ marked (mark id x.named) q one ∙ sym (mark_row id x q one)
    | inr one ↦ elim (cases_eq q.0 2) [
      | inl two ↦ in_middle _ first.1 _ _ _ (not_first q one) (none_left q (omega (arith, two))) ∙ sessions_found q ∙ sym (own_kind id x q two)
      | inr two ↦ elim (cases_eq q.0 3) [
        | inl three ↦ in_middle _ first.1 _ _ _ (not_first q one) (none_left q (omega (arith, three))) ∙ sessions_found q ∙ sym (copy_kind id x q three)
        | inr three ↦ in_last _ first.1 _ _ _ (not_first q one) (no_own q two) (no_copies q three) ∙ rest q ∙ sym (other_row id x q one two three)
      ]
    ]
  ]
