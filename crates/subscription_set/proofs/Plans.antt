-- What a merge leaves.
use Rattle.std.proofs.Common.{◌≡◌, Bool, true, false, cond, ◌||◌, [], is_some, Option, Some, None, refl, sym, ap, ◌∙◌}
use Rattle.std.specs.FinSet as set
use Rattle.std.specs.FinMap as map
use Rattle.std.specs.Ordering.{eq_by_cmp}
use Rattle.std.specs.Cmp.{Equal-is}
use Rattle.causal_context.specs.Dots.{Dots, Dot, dot_cmp, dot_cmp_total, dot_cmp_antisym}
use Rattle.subscription_set.specs.declared.entry.Entry.{Entry}
use Rattle.subscription_set.specs.Standing.{Entries, find_entry, AreSeen, statuses}
use Rattle.subscription_set.proofs.Seen.{get-statuses}
use Rattle.subscription_set.proofs.JoinFormula.{IsJoinOf, kept_entry}

module _ (c : Dots) (es : Entries) (k : Dots) (fs : Entries) where
  kept_seen : (a b : Bool) (x y : Option Entry) → (is_some x ≡ true → a ≡ true) → (is_some y ≡ true → b ≡ true) → is_some (kept_entry a b x y) ≡ true → (a || b) ≡ true
  kept_seen true b x y p r h = refl
  kept_seen false true x y p r h = refl
  kept_seen false false None None p r h = cc
  kept_seen false false None (Some f) p r h = r refl
  kept_seen false false (Some e) y p r h = p refl

  pub join_seen : (out : Entries) → AreSeen c es → AreSeen k fs → IsJoinOf c es k fs out → AreSeen (set.union c k) out
  join_seen out p r is q h = set.contains-union dot_cmp_total c k q ∙ kept_seen (set.contains c q) (set.contains k q) (find_entry q es) (find_entry q fs) (p q) (r q) (ap is_some (sym (is q)) ∙ h)

pub tied_dot : (q d : Dot) → eq_by_cmp dot_cmp q d ≡ true → q ≡ d
tied_dot q d e = dot_cmp_antisym q d ((Equal-is (dot_cmp q d)).0 e)

pub same_statuses : (s : Dots) (xs ys : Entries) → ((q : Dot) → find_entry q xs ≡ find_entry q ys) → statuses s xs ≡ statuses s ys
same_statuses s xs ys h = map.same_map dot_cmp_total dot_cmp_antisym _ _ (λ q. get-statuses s xs q ∙ ap (λ x. cond (set.contains s q) (Some x) None) (h q) ∙ sym (get-statuses s ys q))

pub seen_as : (s : Dots) (xs ys : Entries) → ((q : Dot) → find_entry q xs ≡ find_entry q ys) → AreSeen s ys → AreSeen s xs
seen_as s xs ys h p q e = p q (ap is_some (sym (h q)) ∙ e)

pub none_seen : statuses set.empty [] ≡ map.empty
none_seen = map.same_map dot_cmp_total dot_cmp_antisym _ _ (λ q. get-statuses set.empty [] q ∙ ap (λ b. cond b (Some None) None) (set.contains-empty dot_cmp q) ∙ sym (map.get-empty dot_cmp q))
