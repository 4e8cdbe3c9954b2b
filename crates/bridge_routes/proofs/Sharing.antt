-- What is picked is of shared subscriptions.
use Rattle.std.proofs.Common.{◌≡◌, ℕ, zero, suc, Bool, true, false, cond, ◌&&◌, T, List, [], ◌∷◌, ◌++◌, filter, flat_map, slice_get, Option, Some, None, inl, inr, refl, sym, ap, subst, ◌∙◌}
use Rattle.std.proofs.lemmas.Cmp.{tied_itself}
use Rattle.std.specs.List.{AllByRecursion}
use Rattle.std.specs.Ordering.{eq_by_cmp, is_eq, is_lt}
use Rattle.std.specs.declared.cmp.Ordering.{Ordering}
use Rattle.std.specs.declared.cmp.Ordering.TheVariants.{Less, Equal, Greater}
use Rattle.std.specs.Cmp.{IsTotalOrder, Equal-is}
use Rattle.std.specs.FinMap.{IsAntisymmetric, find}
use Rattle.std.specs.FinMap.Entries.{below_all, is_sorted}
use Rattle.filter_trie.specs.Selected.{IsSelected}
use Rattle.mqtt_message.specs.declared.message.Message.{Message}
use Rattle.mqtt_topics.specs.Topics.{IsShared}
use Rattle.subscription_set.specs.Entries.{Entry}
use Rattle.subscription_set.specs.Standing.{Entries}
use Rattle.subscription_set.proofs.Spreading.{text_total, text_anti, pair_total, pair_anti}
use Rattle.bridge_routes.specs.declared.groups.GroupPick.{GroupPick}
use Rattle.bridge_routes.specs.Copies.{entries_in}
use Rattle.bridge_routes.specs.Gathered.{Group, by_client, by_group, client_of, group_of}
use Rattle.bridge_routes.specs.Picks.{ArePicks, AreShared, IsSharedFor, pick_by, pick_of, picked}
use Rattle.bridge_routes.proofs.Gathering.{some_of, gathered, gathered_holds, gathered_rises}

first : (a b : Bool) → T (a && b) → T a
first true b p = tt
first false b p = p

second : (a b : Bool) → T (a && b) → T b
second true b p = p
second false b p = absurd p

less : (r : Ordering) → T (is_lt r) → r ≡ Less
less Less p = refl
less Equal p = absurd p
less Greater p = absurd p

-- ---- what holds of each element of a list
all_front : {X : Type 0} (P : X → Type 0) (xs ys : List X) → AllByRecursion P xs → AllByRecursion P ys → AllByRecursion P (xs ++ ys)
all_front P [] ys h k = k
all_front P (x ∷ xs) ys h k = (h.0, all_front P xs ys h.1 k)

all_kept : {X : Type 0} (P : X → Type 0) (p : X → Bool) (xs : List X) → AllByRecursion P xs → AllByRecursion P (filter p xs)
all_kept P p [] h = tt
all_kept P p (x ∷ xs) h = elim (p x) as (λ b. AllByRecursion P (cond b (x ∷ filter p xs) (filter p xs))) [
  | true ↦ (h.0, all_kept P p xs h.1)
  | false ↦ all_kept P p xs h.1
]

all_flat : {X Y : Type 0} (Q : X → Type 0) (P : Y → Type 0) (f : X → List Y) → ((x : X) → Q x → AllByRecursion P (f x)) → (xs : List X) → AllByRecursion Q xs → AllByRecursion P (flat_map f xs)
all_flat Q P f g [] h = tt
all_flat Q P f g (x ∷ xs) h = all_front P (f x) (flat_map f xs) (g x h.0) (all_flat Q P f g xs h.1)

all_at : {X : Type 0} (P : X → Type 0) (xs : List X) (n : ℕ) (x : X) → AllByRecursion P xs → slice_get xs n ≡ Some x → P x
all_at P [] n x h is = absurd (let no : None ≡ Some x = is in cc)
all_at P (y ∷ ys) zero x h is = subst P (let same : y ≡ x = cc in same) h.0
all_at P (y ∷ ys) (suc n) x h is = all_at P ys n x h.1 is

all_selected : {X : Type 0} (P Q : X → Type 0) → ((x : X) → P x → Q x) → (xs out : List X) → IsSelected P xs out → AllByRecursion Q out
all_selected P Q f [] out is = subst (AllByRecursion Q) (sym is) tt
all_selected P Q f (x ∷ xs) out (inl a) = subst (AllByRecursion Q) (sym a.1.1) (f x a.0, all_selected P Q f xs a.1.0 a.1.2)
all_selected P Q f (x ∷ xs) out (inr a) = all_selected P Q f xs out a.1

some_is : {X : Type 0} (xs ys : List X) → some_of xs ≡ Some ys → xs ≡ ys
some_is [] ys e = absurd cc
some_is (x ∷ xs) ys e = cc

-- ---- what is gathered of a list is of the list
module _ {K X : Type 0} {R : K → K → Ordering} (o : IsTotalOrder R) where
  none_below : (q k : K) (es : List (K × X)) → R q k ≡ Equal → T (below_all R k es) → find R q es ≡ None
  none_below q k [] tied below = refl
  none_below q k (e ∷ es) tied below =
      let past : R q e.0 ≡ Less = o.congr q k e.0 tied ∙ less (R k e.0) (first _ _ below) in
      ap (λ r. cond (is_eq r) (Some e.1) (find R q es)) past ∙ none_below q k es tied (second _ _ below)

  all_found : (P : X → Type 0) (es : List (K × X)) → T (is_sorted R es) → ((q : K) (v : X) → find R q es ≡ Some v → P v) → AllByRecursion (λ e. P e.1) es
  all_found P [] rises h = tt
  all_found P (e ∷ es) rises h = (
    h e.0 e.1 (ap (λ r. cond (is_eq r) (Some e.1) (find R e.0 es)) (tied_itself o e.0)),
    all_found P es (second _ _ rises) (λ q v is. h q v (later q v is)),
  )
    where
      later : (q : K) (v : X) → find R q es ≡ Some v → cond (eq_by_cmp R q e.0) (Some e.1) (find R q es) ≡ Some v
      later q v is = elim (eq_by_cmp R q e.0) as (λ b. eq_by_cmp R q e.0 ≡ b → cond b (Some e.1) (find R q es) ≡ Some v) [
        | true ↦ λ t. absurd (let no : None ≡ Some v = sym (none_below q e.0 es ((Equal-is (R q e.0)).0 t) (first _ _ rises)) ∙ is in cc)
        | false ↦ λ t. is
      ] refl

all_gathered : {K X : Type 0} {R : K → K → Ordering} (o : IsTotalOrder R) (anti : IsAntisymmetric R) (key : X → K) (P : X → Type 0) (xs : List X) → AllByRecursion P xs
    → AllByRecursion (λ e. AllByRecursion P e.1) (gathered o anti key xs)
all_gathered {R = R} o anti key P xs all =
    all_found o (AllByRecursion P) (gathered o anti key xs) (gathered_rises o anti key xs)
    (λ q v is. let own = filter (λ x. eq_by_cmp R q (key x)) xs in subst (AllByRecursion P) (some_is own v (sym (gathered_holds o anti key xs q) ∙ is)) (all_kept P (λ x. eq_by_cmp R q (key x)) xs all))

-- ---- picks
abbrev Shared : List Entry → Type 0
Shared es = AllByRecursion (λ e. IsShared e.filter) es

by_shared : (m : Message) (client : List ℕ) (es : List Entry) → Shared es → AreShared (pick_by m client es)
by_shared m client [] all = tt
by_shared m client (e ∷ es) all = (all.0, tt)

pick_shared : (m : Message) (found : Option (List ℕ × List Entry)) → ((x : List ℕ × List Entry) → found ≡ Some x → Shared x.1) → AreShared (pick_of m found)
pick_shared m None all = tt
pick_shared m (Some x) all = by_shared m x.0 x.1 (all x refl)

group_shared : (turn : ℕ) (m : Message) (es : List Entry) → Shared es → AreShared (pick_of m (picked turn es))
group_shared turn m es all =
    pick_shared m (picked turn es) (λ x is. all_at (λ (y : List ℕ × List Entry). Shared y.1) (by_client es) _ x (all_gathered text_total text_anti client_of (λ e. IsShared e.filter) es all) is)

pub picks_shared : (turn : ℕ) (live : Entries) (m : Message) (out : List GroupPick) → ArePicks turn live m out → AreShared out
picks_shared turn live m out a =
    let shared = all_selected (IsSharedFor m) (λ e. IsShared e.filter) (λ e p. p.0) (entries_in live) a.0 a.1 in
    let groups = all_gathered (pair_total text_total text_anti text_total text_anti) (pair_anti text_total text_anti text_total text_anti) group_of (λ e. IsShared e.filter) a.0 shared in
    subst AreShared (sym a.2)
    (all_flat (λ (g : Group × List Entry). Shared g.1) (λ x. IsShared x.filter) (λ g. pick_of m (picked turn g.1)) (λ g all. group_shared turn m g.1 all) (by_group a.0) groups)
