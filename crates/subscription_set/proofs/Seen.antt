-- Which dots were seen, and with which statuses.
use Rattle.std.specs.Prelude.{◌≡◌, Bool, true, false, cond, ◌||◌, is_some, List, [], ◌∷◌, map as map_list, Some, None, refl}
use Rattle.std.proofs.Common.{ap, sym, ◌∙◌}
use Rattle.std.specs.List.{list_any}
use Rattle.std.specs.Ordering.{eq_by_cmp}
use Rattle.std.specs.Cmp.{Equal-is}
use Rattle.std.specs.FinSet as set
use Rattle.std.specs.FinMap as map
use Rattle.causal_context.specs.Dots.{Dot, Dots, dot_cmp, dot_cmp_total, dot_cmp_antisym}
use Rattle.subscription_set.specs.Statuses.{Status, Statuses}
use Rattle.subscription_set.specs.Standing.{Entries, find_entry, statuses, seen_of}

find_listed : (q : Dot) (es : Entries) (ds : List Dot) → map.find {X = Status} dot_cmp q (map_list (λ d. (d, find_entry d es)) ds) ≡ cond (list_any (eq_by_cmp dot_cmp q) ds) (Some (find_entry q es)) None
find_listed q es [] = refl
find_listed q es (d ∷ ds) = elim (eq_by_cmp dot_cmp q d) as (λ b. eq_by_cmp dot_cmp q d ≡ b → cond b (Some (find_entry d es)) (map.find {X = Status} dot_cmp q (map_list (λ d. (d, find_entry d es)) ds)) ≡ cond (b || list_any (eq_by_cmp dot_cmp q) ds) (Some (find_entry q es)) None) [
  | true ↦ λ t. ap (λ x. Some (find_entry x es)) (sym (dot_cmp_antisym q d ((Equal-is (dot_cmp q d)).0 t)))
  | false ↦ λ t. find_listed q es ds
] refl

pub get-statuses : (seen : Dots) (es : Entries) (q : Dot) → map.get (statuses seen es) q ≡ cond (set.contains seen q) (Some (find_entry q es)) None
unfolding statuses
get-statuses seen es q = map.get-from_entries dot_cmp_total _ q ∙ find_listed q es (set.items seen) ∙ ap (λ b. cond b (Some (find_entry q es)) None) (sym (set.contains-items seen q))

some_cond : {X : Type 0} (b : Bool) (x : X) → is_some (cond b (Some x) None) ≡ b
some_cond true x = refl
some_cond false x = refl

pub contains-seen_of : (m : Statuses) (q : Dot) → set.contains (seen_of m) q ≡ is_some (map.get m q)
unfolding seen_of
contains-seen_of m q = set.contains-from_list dot_cmp_total (map.keys m) q ∙ sym (map.contains_key-keys m q)

pub seen_of-statuses : (seen : Dots) (es : Entries) → seen_of (statuses seen es) ≡ seen
seen_of-statuses seen es = set.same_set dot_cmp_total dot_cmp_antisym _ _ (λ q.
    contains-seen_of (statuses seen es) q ∙ ap is_some (get-statuses seen es q) ∙ some_cond (set.contains seen q) (find_entry q es))
