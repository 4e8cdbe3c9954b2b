-- What a merge with a set that is below finds: nothing leaves, and nothing is new.
use Rattle.std.proofs.Common.{◌≡◌, Bool, true, false, not, ◌&&◌, ◌||◌, List, [], ◌∷◌, is_some, Option, Some, None, refl, sym, ap, ◌∙◌}
use Rattle.std.specs.List.{list_any}
use Rattle.std.specs.Ordering.{eq_by_cmp, is_eq}
use Rattle.std.proofs.lemmas.Cmp.{tied_itself}
use Rattle.std.specs.FinMap as map
use Rattle.std.specs.FinSet as set
use Rattle.causal_context.specs.Dots.{Dots, Dot, dot_cmp, dot_cmp_total}
use Rattle.causal_context.specs.MapLattice.{OptionBelow}
use Rattle.subscription_set.specs.declared.entry.Entry.{Entry}
use Rattle.subscription_set.specs.Entries.{entry_eq-decides}
use Rattle.subscription_set.specs.Indexing.{ByDot}
use Rattle.subscription_set.specs.Joining.{AreLeaving, AreUnseen, is_leaving}
use Rattle.subscription_set.specs.Merging.{IsSet}
use Rattle.subscription_set.specs.Standing.{Entries, statuses}
use Rattle.subscription_set.specs.Statuses.{Status, StatusBelow, StatusesBelow}
use Rattle.subscription_set.proofs.Leaving.{leaves_is}
use Rattle.subscription_set.proofs.Order.{subset_from}
use Rattle.subscription_set.proofs.Joins.{Moved, any_of}

-- ---- lists of dots

own : (d : Dot) → eq_by_cmp dot_cmp d d ≡ true
own d = ap is_eq (tied_itself dot_cmp_total d)

-- no dot is in the list
pub no_dots : (ds : List Dot) → ((q : Dot) → list_any (eq_by_cmp dot_cmp q) ds ≡ false) → ds ≡ []
no_dots [] none = refl
no_dots (d ∷ ds) none = (let is = ap (λ b. b || list_any (eq_by_cmp dot_cmp d) ds) (own d) in let no = none d in cc)

first_of_both : (a b c : Bool) → a ≡ true → (c || (a || b)) ≡ true
first_of_both true b true e = refl
first_of_both true b false e = refl
first_of_both false b c e = cc

-- an entry that is next and passes
pub next_is_any : (t : Dot × Entry → Bool) (x : Dot × Entry) (out : List Dot) (left left' : Entries) (first : List Dot) (all : Entries) → left ≡ x ∷ left' → t x ≡ true → Moved t out left first all
    → (list_any (eq_by_cmp dot_cmp x.0) first || any_of t x.0 all) ≡ true
next_is_any t x out left left' first all one passes so =
    sym (so x.0) ∙ ap (λ l. list_any (eq_by_cmp dot_cmp x.0) out || any_of t x.0 l) one
    ∙ first_of_both (eq_by_cmp dot_cmp x.0 x.0 && t x) (any_of t x.0 left') (list_any (eq_by_cmp dot_cmp x.0) out) (λ i. both (own x.0) passes i)
  where
    both : {a b : Bool} → a ≡ true → b ≡ true → (a && b) ≡ true
    both e f i = e i && f i

-- ---- a set that is below

not_leaving : (x y : Option Status) → OptionBelow StatusBelow y x → is_leaving x y ≡ false
not_leaving None y below = refl
not_leaving (Some None) y below = refl
not_leaving (Some (Some e)) None below = refl
not_leaving (Some (Some e)) (Some None) below = absurd below
not_leaving (Some (Some e)) (Some (Some f)) below = ap not ((entry_eq-decides e f).1 (sym below))

module _ (c k : Dots) (m others : ByDot) (p : IsSet c (map.entries m)) (r : IsSet k (map.entries others)) where
  pub none_leaves : ((q : Dot) → is_leaving (map.get (statuses c (map.entries m)) q) (map.get (statuses k (map.entries others)) q) ≡ false) → AreLeaving m k others []
  none_leaves none q = sym (leaves_is c k m others p q ∙ none q)

  pub below_leaves_none : StatusesBelow (statuses k (map.entries others)) (statuses c (map.entries m)) → AreLeaving m k others []
  below_leaves_none below = none_leaves (λ q. not_leaving _ _ (below q))

  pub below_is_seen : StatusesBelow (statuses k (map.entries others)) (statuses c (map.entries m)) → AreUnseen c others []
  below_is_seen below q = by (is_some (map.get others q)) (set.contains c q) (λ some. subset_from k c (map.entries others) (map.entries m) r p below q (r.seen q (ap is_some (sym (map.get-entries others q)) ∙ some)))
    where
      by : (a b : Bool) → (a ≡ true → b ≡ true) → false ≡ (a && not b)
      by true true h = refl
      by true false h = (let no = h refl in cc)
      by false b h = refl
