-- The entries that are present are in the order of their dots.
use Rattle.std.specs.Prelude.{Bool, true, false, ◌&&◌, T, List, [], ◌∷◌, Some, None}
use Rattle.std.specs.FinMap as map
use Rattle.causal_context.specs.Dots.{Dot, dot_cmp}
use Rattle.subscription_set.specs.Statuses.{Status}
use Rattle.subscription_set.specs.Standing.{present}

both : (a b : Bool) → T a → T b → T (a && b)
both true b p q = q
both false b p q = absurd p

first : (a b : Bool) → T (a && b) → T a
first true b p = tt
first false b p = absurd p

second : (a b : Bool) → T (a && b) → T b
second true b p = p
second false b p = absurd p

below-present : (d : Dot) (xs : List (Dot × Status)) → T (map.Entries.below_all dot_cmp d xs) → T (map.Entries.below_all dot_cmp d (present xs))
below-present d [] h = tt
below-present d (x ∷ xs) h = one x.1 (below-present d xs (second _ _ h))
  where
    one : (s : Status) → T (map.Entries.below_all dot_cmp d (present xs)) → T (map.Entries.below_all dot_cmp d (present ((x.0, s) ∷ xs)))
    one None r = r
    one (Some e) r = both _ _ (first _ _ h) r

pub rises-present : (xs : List (Dot × Status)) → T (map.is_sorted dot_cmp xs) → T (map.is_sorted dot_cmp (present xs))
rises-present [] h = tt
rises-present (x ∷ xs) h = one x.1 (rises-present xs (second _ _ h))
  where
    one : (s : Status) → T (map.is_sorted dot_cmp (present xs)) → T (map.is_sorted dot_cmp (present ((x.0, s) ∷ xs)))
    one None r = r
    one (Some e) r = both _ _ (below-present x.0 xs (first _ _ h)) r
