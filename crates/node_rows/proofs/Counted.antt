-- Rows at the front, counted.
use Rattle.std.proofs.Common.{◌≡◌, ℕ, zero, suc, ◌+◌, ◌-◌, ◌<◌, ◌≤◌, Bool, true, false, T, List, [], ◌∷◌, ◌++◌, map, length, take, drop, get_or, arith, refl, sym, ap, subst, ◌∙◌}
use Rattle.std.specs.Prelude.{nat_eq, not}
use Rattle.std.specs.Cmp.Lexicographic.{other_text, pointwise, same_text}
use Rattle.std.proofs.lemmas.List.{take_all, take_more}
use Rattle.std.proofs.Math.Seq.{drop-cons}
use Rattle.std.specs.FinMap.{is_sorted}
use Rattle.std.specs.List.{AllByRecursion}
use Rattle.row_store.specs.declared.row.Row.{Row}
use Rattle.row_store.specs.Rows.{entry_of, key_cmp, Plain}
use Rattle.node_rows.specs.Sessions.{IsOf, StartsApart}
use Rattle.node_rows.proofs.Lists.{IsAbove, all_turned, kind_up, sorted_front, sorted_head, sorted_tail}

mapped_last : (rs : List Row) (r : Row) → map entry_of (rs ++ r ∷ []) ≡ map entry_of rs ++ entry_of r ∷ []
mapped_last [] r = refl
mapped_last (x ∷ rs) r = ap (λ (es : List Plain). entry_of x ∷ es) (mapped_last rs r)

pub taken_more : (rs : List Row) (i : ℕ) (r : Row) → i < length rs → r ≡ get_or rs i r → map entry_of (take (i + 1) rs) ≡ map entry_of (take i rs) ++ entry_of r ∷ []
taken_more rs i r lt at = ap (map entry_of) (take_more rs i r lt ∙ ap (λ (y : Row). take i rs ++ y ∷ []) (sym at)) ∙ mapped_last (take i rs) r

pub left_at : (rs : List Row) (i : ℕ) (r : Row) → i < length rs → r ≡ get_or rs i r → map entry_of (drop i rs) ≡ entry_of r ∷ map entry_of (drop (i + 1) rs)
left_at rs i r lt at = ap (map entry_of) (drop-cons rs i r lt ∙ ap (λ (y : Row). y ∷ drop (suc i) rs) (sym at)) ∙ ap (λ n. entry_of r ∷ map entry_of (drop n rs)) later
  where
    later : suc i ≡ i + 1
    later = omega arith

all_last : (P : Plain → Type 0) (es : List Plain) (e : Plain) → AllByRecursion P es → P e → AllByRecursion P (es ++ e ∷ [])
all_last P [] e all one = (one, tt)
all_last P (x ∷ es) e all one = (all.0, all_last P es e all.1 one)

pub all_taken : (P : Plain → Type 0) (rs : List Row) (i : ℕ) (r : Row) → i < length rs → r ≡ get_or rs i r → AllByRecursion P (map entry_of (take i rs)) → P (entry_of r) → AllByRecursion P (map entry_of (take (i + 1) rs))
all_taken P rs i r lt at all one = subst (AllByRecursion P) (sym (taken_more rs i r lt at)) (all_last P (map entry_of (take i rs)) (entry_of r) all one)

drop_sorted : (rs : List Row) (i : ℕ) → T (is_sorted key_cmp (map entry_of rs)) → T (is_sorted key_cmp (map entry_of (drop i rs)))
drop_sorted rs zero up = up
drop_sorted [] (suc i) up = tt
drop_sorted (r ∷ rs) (suc i) up = drop_sorted rs i (sorted_tail (entry_of r) (map entry_of rs) up)

pub later_sorted : (rs later : List Row) (i : ℕ) → later ≡ drop i rs → T (is_sorted key_cmp (map entry_of rs)) → T (is_sorted key_cmp (map entry_of later))
later_sorted rs later i is up = subst (λ (ls : List Row). T (is_sorted key_cmp (map entry_of ls))) (sym is) (drop_sorted rs i up)

pub kinds_above : (kind : ℕ) (rs : List Row) (i : ℕ) (r : Row) → T (is_sorted key_cmp (map entry_of rs)) → i < length rs → r ≡ get_or rs i r → kind < (get_or rs i r).kind → AllByRecursion (λ e. kind < e.0.0) (map entry_of (drop i rs))
kinds_above kind rs i r up lt at higher =
    let high : kind < r.kind = subst (λ (y : Row). kind < y.kind) (sym at) higher in
    let from = left_at rs i r lt at in
    let rest = map entry_of (drop (i + 1) rs) in
    let rise = sorted_head (entry_of r) rest (subst (λ (es : List Plain). T (is_sorted key_cmp es)) from (drop_sorted rs i up)) in
    subst (AllByRecursion (λ (e : Plain). kind < e.0.0)) (sym from) (high, all_turned (IsAbove (entry_of r).0) (λ (e : Plain). kind < e.0.0) rest (λ e above. omega (arith, high, kind_up (entry_of r).0 e.0 above)) rise)

pub starts_here : (owner text : List ℕ) (rs : List Row) (i : ℕ) (r : Row) (differ : Bool) → i < length rs → r ≡ get_or rs i r → text ≡ (get_or rs i r).owner.items → differ ≡ not (pointwise nat_eq text owner) → differ ≡ true → StartsApart owner (map entry_of (drop i rs))
starts_here owner text rs i r differ lt at is test yes_other =
    subst (StartsApart owner) (sym (left_at rs i r lt at)) (λ same. other_text text owner (turned (pointwise nat_eq text owner) (sym yes_other ∙ test)) (is ∙ ap (λ (y : Row). y.owner.items) (sym at) ∙ same))
  where
    turned : (b : Bool) → true ≡ not b → false ≡ b
    turned true e = sym e
    turned false e = refl

pub is_here : (owner text : List ℕ) (rs : List Row) (i : ℕ) (r : Row) (differ : Bool) → r ≡ get_or rs i r → text ≡ (get_or rs i r).owner.items → differ ≡ not (pointwise nat_eq text owner) → differ ≡ false → IsOf owner (entry_of r)
is_here owner text rs i r differ at is test no_other =
    ap (λ (y : Row). y.owner.items) at ∙ sym is ∙ same_text text owner (turned (pointwise nat_eq text owner) (sym no_other ∙ test))
  where
    turned : (b : Bool) → false ≡ not b → true ≡ b
    turned true e = refl
    turned false e = sym e

-- ---- cuts
pub mapped_both : (xs ys : List Row) → map entry_of (xs ++ ys) ≡ map entry_of xs ++ map entry_of ys
mapped_both [] ys = refl
mapped_both (x ∷ xs) ys = ap (λ (es : List Plain). entry_of x ∷ es) (mapped_both xs ys)

pub none_left : (rs : List Row) (i : ℕ) → length rs ≤ i → map entry_of (drop i rs) ≡ []
none_left rs zero end = by rs end
  where
    by : (rs : List Row) → length rs ≤ 0 → map entry_of rs ≡ []
    by [] end = refl
    by (r ∷ rs) end = absurd (omega (arith, end))
none_left [] (suc i) end = refl
none_left (r ∷ rs) (suc i) end = none_left rs i (omega (arith, end))

pub all_before_end : (rs : List Row) (i : ℕ) → length rs ≤ i → map entry_of (take i rs) ≡ map entry_of rs
all_before_end rs i end = ap (map entry_of) (take_all i rs (omega (arith, end)))

-- the row at a place, those of its owner that are next, and the others
pub record IsNextRow (own : List Row) (i : ℕ) (row : Row) (rest mine others : List Row) : Type 0 where
  pub left : map entry_of (drop i own) ≡ entry_of row ∷ map entry_of (drop (i + 1) own)
  pub taken : map entry_of (take (i + 1) own) ≡ map entry_of (take i own) ++ entry_of row ∷ []
  pub rest_are : map entry_of rest ≡ map entry_of mine ++ map entry_of others
  pub theirs : AllByRecursion (IsOf row.owner.items) (map entry_of mine)
  pub apart : StartsApart row.owner.items (map entry_of others)

pub next_row : (own rest mine others : List Row) (i count : ℕ) (row : Row) (owner : List ℕ) → i < length own → row ≡ get_or own i row → owner ≡ row.owner.items → rest ≡ mine ++ others → mine ≡ take count rest → others ≡ drop count rest
    → AllByRecursion (IsOf owner) (map entry_of (take count rest)) → StartsApart owner (map entry_of (drop count rest)) → IsNextRow own i row rest mine others
next_row own rest mine others i count row owner lt at same rest_is mine_is others_is theirs apart =
    record {
      left = left_at own i row lt at;
      taken = taken_more own i row lt at;
      rest_are = ap (map entry_of) rest_is ∙ mapped_both mine others;
      theirs = subst (λ (o : List ℕ). AllByRecursion (IsOf o) (map entry_of mine)) same (subst (λ (rs : List Row). AllByRecursion (IsOf owner) (map entry_of rs)) (sym mine_is) theirs);
      apart = subst (λ (o : List ℕ). StartsApart o (map entry_of others)) same (subst (λ (rs : List Row). StartsApart owner (map entry_of rs)) (sym others_is) apart);
    }

-- the rows behind the first
abbrev pub behind : List Row → List Row
behind rows = take (length rows - 1) (drop 1 rows)

behind_all : (rows : List Row) → behind rows ≡ drop 1 rows
behind_all [] = take_all 0 [] (omega arith)
behind_all (r ∷ rows) = take_all (length (r ∷ rows) - 1) rows (omega arith)

pub first_and_behind : (rows : List Row) (first : Row) → 1 ≤ length rows → first ≡ get_or rows 0 first → map entry_of rows ≡ entry_of first ∷ map entry_of (behind rows)
first_and_behind rows first some at = left_at rows 0 first (omega (arith, some)) at ∙ ap (λ (rs : List Row). entry_of first ∷ map entry_of rs) (sym (behind_all rows))

pub behind_sorted : (rows : List Row) → T (is_sorted key_cmp (map entry_of rows)) → T (is_sorted key_cmp (map entry_of (behind rows)))
behind_sorted rows up = subst (λ (rs : List Row). T (is_sorted key_cmp (map entry_of rs))) (sym (behind_all rows)) (drop_sorted rows 1 up)

pub no_rows : (rows : List Row) → length rows < 1 → rows ≡ []
no_rows [] few = refl
no_rows (r ∷ rows) few = absurd (omega (arith, few))

pub front_sorted : (rows own later : List Row) → rows ≡ own ++ later → T (is_sorted key_cmp (map entry_of rows)) → T (is_sorted key_cmp (map entry_of own))
front_sorted rows own later is up = sorted_front (map entry_of own) (map entry_of later) (subst (λ (es : List Plain). T (is_sorted key_cmp es)) (ap (map entry_of) is ∙ mapped_both own later) up)
