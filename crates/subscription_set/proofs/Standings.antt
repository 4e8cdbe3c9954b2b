-- What stands in a set that is made of entries.
use Rattle.std.proofs.Common.{◌≡◌, Bool, true, false, cond, ◌∷◌, [], List, Option, Some, None, is_some, T, refl, sym, ap, subst, ◌∙◌}
use Rattle.std.specs.FinSet as set
use Rattle.std.specs.FinMap as map
use Rattle.std.specs.FinMap.Entries.{same_entries, below_all}
use Rattle.std.specs.Ordering.{eq_by_cmp}
use Rattle.std.specs.Cmp.{Equal-is}
use Rattle.causal_context.specs.Dots.{Dots, Dot, dot_cmp, dot_cmp_total, dot_cmp_antisym}
use Rattle.subscription_set.specs.declared.entry.Entry.{Entry}
use Rattle.subscription_set.specs.Statuses.{Status, Statuses}
use Rattle.subscription_set.specs.Standing.{Entries, find_entry, statuses, present, standing, entry_of}
use Rattle.subscription_set.proofs.Seen.{get-statuses, contains-seen_of, seen_of-statuses}
use Rattle.subscription_set.proofs.Present.{rises-present}
use Rattle.subscription_set.specs.Merging.{IsSet}
use Rattle.subscription_set.proofs.Places.{found_none, first_part, second_part}

tied_dot : (q d : Dot) → eq_by_cmp dot_cmp q d ≡ true → q ≡ d
tied_dot q d e = dot_cmp_antisym q d ((Equal-is (dot_cmp q d)).0 e)

not_below : (q d : Dot) (xs : List (Dot × Status)) → eq_by_cmp dot_cmp q d ≡ true → T (below_all dot_cmp d xs) → map.find dot_cmp q xs ≡ None
not_below q d xs t h = found_none dot_cmp_total xs q (subst (λ y. T (below_all dot_cmp y xs)) (sym (tied_dot q d t)) h)

module _ (q d : Dot) (xs : List (Dot × Status)) (h : T (below_all dot_cmp d xs)) (rest : find_entry q (present xs) ≡ entry_of (map.find dot_cmp q xs)) where
  found_first : (s : Status) (b : Bool) → eq_by_cmp dot_cmp q d ≡ b → find_entry q (present ((d, s) ∷ xs)) ≡ entry_of (cond (eq_by_cmp dot_cmp q d) (Some s) (map.find dot_cmp q xs))
  found_first None true t = rest ∙ ap entry_of (not_below q d xs t h) ∙ ap (λ c. entry_of (cond c (Some None) (map.find dot_cmp q xs))) (sym t)
  found_first None false t = rest ∙ ap (λ c. entry_of (cond c (Some None) (map.find dot_cmp q xs))) (sym t)
  found_first (Some e) true t = ap (λ c. cond c (Some e) (find_entry q (present xs))) t ∙ ap (λ c. entry_of (cond c (Some (Some e)) (map.find dot_cmp q xs))) (sym t)
  found_first (Some e) false t = ap (λ c. cond c (Some e) (find_entry q (present xs))) t ∙ rest ∙ ap (λ c. entry_of (cond c (Some (Some e)) (map.find dot_cmp q xs))) (sym t)

pub find-present : (xs : List (Dot × Status)) (q : Dot) → T (map.is_sorted dot_cmp xs) → find_entry q (present xs) ≡ entry_of (map.find dot_cmp q xs)
find-present [] q h = refl
find-present (x ∷ xs) q h = found_first q x.0 xs (first_part _ _ h) (find-present xs q (second_part _ _ h)) x.1 (eq_by_cmp dot_cmp q x.0) refl

pub find-standing : (m : Statuses) (q : Dot) → find_entry q (standing m) ≡ entry_of (map.get m q)
unfolding standing
find-standing m q = find-present (map.entries m) q (map.entries_sorted m) ∙ ap entry_of (sym (map.get-entries m q))

pub rises-standing : (m : Statuses) → T (map.is_sorted dot_cmp (standing m))
unfolding standing
rises-standing m = rises-present (map.entries m) (map.entries_sorted m)

at_seen : (b : Bool) (x : Option Entry) → (is_some x ≡ true → b ≡ true) → entry_of (cond b (Some x) None) ≡ x
at_seen true x h = refl
at_seen false None h = refl
at_seen false (Some e) h = (let no = h refl in cc)

pub standing-statuses : (c : Dots) (es : Entries) → IsSet c es → standing (statuses c es) ≡ es
standing-statuses c es h = same_entries dot_cmp dot_cmp_total dot_cmp_antisym (standing (statuses c es)) es (rises-standing (statuses c es)) h.rises
    (λ q. find-standing (statuses c es) q ∙ ap entry_of (get-statuses c es q) ∙ at_seen (set.contains c q) (find_entry q es) (h.seen q))

-- where no dot was seen, nothing stands
pub nothing_seen : (c : Dots) (es : Entries) → statuses c es ≡ map.empty → c ≡ set.empty
nothing_seen c es none = set.same_set dot_cmp_total dot_cmp_antisym c set.empty (λ q. ap (λ s. set.contains s q) (sym (seen_of-statuses c es)) ∙ contains-seen_of (statuses c es) q
    ∙ ap (λ m. is_some (map.get m q)) none ∙ ap is_some (map.get-empty dot_cmp q) ∙ sym (set.contains-empty dot_cmp q))

pub nothing_stands : (c : Dots) (es : Entries) → IsSet c es → statuses c es ≡ map.empty → es ≡ []
nothing_stands c es h none = same_entries dot_cmp dot_cmp_total dot_cmp_antisym es [] h.rises tt (λ q. by q (find_entry q es) (h.seen q))
  where
    by : (q : Dot) (x : Option Entry) → (is_some x ≡ true → set.contains c q ≡ true) → x ≡ None
    by q None seen = refl
    by q (Some e) seen = (let no = sym (seen refl) ∙ ap (λ s. set.contains s q) (nothing_seen c es none) ∙ set.contains-empty dot_cmp q in cc)

-- the entries inside are what stands
pub entries_are : (c : Dots) (es : Entries) (now : Statuses) (xs : Entries) → IsSet c es → statuses c es ≡ now → xs ≡ es → xs ≡ standing now
entries_are c es now xs h view e = e ∙ sym (standing-statuses c es h) ∙ ap standing view
