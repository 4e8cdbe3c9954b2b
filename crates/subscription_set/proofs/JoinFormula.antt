-- The formula by which two sets are joined, and that it gives the join.
use Rattle.std.specs.Prelude.{◌≡◌, Bool, true, false, cond, ◌||◌, if◌then◌else◌, is_some, Option, Some, None, refl}
use Rattle.std.proofs.Common.{ap, sym, ◌∙◌}
use Rattle.std.specs.FinSet as set
use Rattle.std.specs.FinMap as map
use Rattle.causal_context.specs.Dots.{Dots, Dot, dot_cmp_total, dot_cmp_antisym}
use Rattle.causal_context.specs.MapLattice.{option_join, get-merge}
use Rattle.subscription_set.specs.declared.entry.Entry.{Entry}
use Rattle.subscription_set.specs.Entries.{entry_eq}
use Rattle.subscription_set.specs.Statuses.{status_join, statuses_join}
use Rattle.subscription_set.specs.Standing.{Entries, find_entry, AreSeen, statuses}
use Rattle.subscription_set.proofs.Seen.{get-statuses}

-- at one dot: (s and t) or (s without the dots that t has seen) or (t without the dots that s has seen)
abbrev pub kept_entry : Bool → Bool → Option Entry → Option Entry → Option Entry
kept_entry in_s in_t None None = None
kept_entry in_s in_t (Some e) None = cond in_t None (Some e)
kept_entry in_s in_t None (Some f) = cond in_s None (Some f)
kept_entry in_s in_t (Some e) (Some f) = if entry_eq e f then Some e else None

-- out has the join's entry at each dot
abbrev pub IsJoinOf : Dots → Entries → Dots → Entries → Entries → Type 0
IsJoinOf c es k fs out = (q : Dot) → find_entry q out ≡ kept_entry (set.contains c q) (set.contains k q) (find_entry q es) (find_entry q fs)

-- where the dot of one of the others' entries was seen, the same entry is present
abbrev pub HaveSame : Dots → Entries → Entries → Type 0
HaveSame c es fs = (q : Dot) (e : Entry) → find_entry q fs ≡ Some e → set.contains c q ≡ true → find_entry q es ≡ Some e

at_dot : (in_c in_k : Bool) (x y : Option Entry) → (is_some x ≡ true → in_c ≡ true) → (is_some y ≡ true → in_k ≡ true)
    → cond (in_c || in_k) (Some (kept_entry in_c in_k x y)) None ≡ option_join status_join (cond in_c (Some x) None) (cond in_k (Some y) None)
unfolding status_join
at_dot true true None None p q = refl
at_dot true true None (Some f) p q = refl
at_dot true true (Some e) None p q = refl
at_dot true true (Some e) (Some f) p q = refl
at_dot true false x (Some f) p q = (let no = q refl in cc)
at_dot true false None None p q = refl
at_dot true false (Some e) None p q = refl
at_dot false true (Some e) y p q = (let no = p refl in cc)
at_dot false true None None p q = refl
at_dot false true None (Some f) p q = refl
at_dot false false x y p q = refl

-- the formula is the join
pub join_by_formula : (c k : Dots) (es fs out : Entries) → AreSeen c es → AreSeen k fs → IsJoinOf c es k fs out → statuses (set.union c k) out ≡ statuses_join (statuses c es) (statuses k fs)
unfolding statuses_join
join_by_formula c k es fs out p r is = map.same_map dot_cmp_total dot_cmp_antisym _ _ (λ q.
    get-statuses (set.union c k) out q ∙ ap (λ b. cond b (Some (find_entry q out)) None) (set.contains-union dot_cmp_total c k q) ∙ ap (λ x. cond (set.contains c q || set.contains k q) (Some x) None) (is q)
    ∙ at_dot (set.contains c q) (set.contains k q) (find_entry q es) (find_entry q fs) (p q) (r q)
    ∙ (λ i. option_join status_join (sym (get-statuses c es q) i) (sym (get-statuses k fs q) i))
    ∙ sym (get-merge dot_cmp_total status_join (statuses c es) (statuses k fs) q))
