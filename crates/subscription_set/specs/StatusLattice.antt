-- Statuses are a lattice, and so are those of each dot.
use Rattle.std.specs.Prelude.{◌≡◌, true, false, Some, None, refl}
use Rattle.std.proofs.Common.{ap, sym, subst, ◌∙◌}
use Rattle.causal_context.specs.Dots.{dot_cmp_total, dot_cmp_antisym}
use Rattle.causal_context.specs.Lattices.{JoinLaws}
use Rattle.causal_context.specs.MapLattice.{map_lattice}
use Rattle.subscription_set.specs.declared.entry.Entry.{Entry}
use Rattle.subscription_set.specs.Entries.{entry_eq, entry_eq-decides}
use Rattle.subscription_set.specs.Statuses.{Status, status_join, StatusBelow, statuses_join, StatusesBelow}

pub join-same : (a : Entry) → status_join (Some a) (Some a) ≡ Some a
unfolding status_join
join-same a = rw ((entry_eq-decides a a).1 refl)

pub join-other : (a b : Entry) → entry_eq a b ≡ false → status_join (Some a) (Some b) ≡ None
unfolding status_join
join-other a b e = rw e

by_same : (a b : Entry) (P : Type 0) → (a ≡ b → P) → (entry_eq a b ≡ false → P) → P
by_same a b P same apart = elim (entry_eq a b) as (λ t. entry_eq a b ≡ t → P) [
  | true ↦ λ e. same ((entry_eq-decides a b).0 e)
  | false ↦ λ e. apart e
] refl

pub join_none : (x : Status) → status_join x None ≡ None
unfolding status_join
join_none None = refl
join_none (Some a) = refl

pub none_join : (x : Status) → status_join None x ≡ None
unfolding status_join
none_join x = refl

idempotent : (x : Status) → status_join x x ≡ x
idempotent None = none_join None
idempotent (Some a) = join-same a

not_same : (a b : Entry) → entry_eq a b ≡ false → entry_eq b a ≡ false
not_same a b e = elim (entry_eq b a) as (λ t. entry_eq b a ≡ t → t ≡ false) [
  | true ↦ λ h. (let same = (entry_eq-decides a b).1 (sym ((entry_eq-decides b a).0 h)) in cc)
  | false ↦ λ h. refl
] refl

commutative : (x y : Status) → status_join x y ≡ status_join y x
commutative None y = none_join y ∙ sym (join_none y)
commutative (Some a) None = join_none (Some a) ∙ sym (none_join (Some a))
commutative (Some a) (Some b) = by_same a b _ (λ e i. status_join (Some (e i)) (Some (sym e i))) (λ e. join-other a b e ∙ sym (join-other b a (not_same a b e)))

associative : (x y z : Status) → status_join (status_join x y) z ≡ status_join x (status_join y z)
associative None y z = ap (λ m. status_join m z) (none_join y) ∙ none_join z ∙ sym (none_join (status_join y z))
associative (Some a) None z = ap (λ m. status_join m z) (join_none (Some a)) ∙ none_join z ∙ sym (ap (status_join (Some a)) (none_join z) ∙ join_none (Some a))
associative (Some a) (Some b) None = join_none (status_join (Some a) (Some b)) ∙ sym (ap (status_join (Some a)) (join_none (Some b)) ∙ join_none (Some a))
associative (Some a) (Some b) (Some c) =
    by_same a b _
    (λ e. subst (λ w. status_join (status_join (Some a) (Some w)) (Some c) ≡ status_join (Some a) (status_join (Some w) (Some c))) e (ap (λ m. status_join m (Some c)) (join-same a)
    ∙ by_same a c _ (λ f. subst (λ w. status_join (Some a) (Some w) ≡ status_join (Some a) (status_join (Some a) (Some w))) f (ap (status_join (Some a)) (sym (join-same a))))
    (λ f. join-other a c f ∙ sym (ap (status_join (Some a)) (join-other a c f) ∙ join_none (Some a)))))
    (λ e. ap (λ m. status_join m (Some c)) (join-other a b e) ∙ none_join (Some c)
    ∙ by_same b c _ (λ f. subst (λ w. None ≡ status_join (Some a) (status_join (Some b) (Some w))) f (sym (ap (status_join (Some a)) (join-same b) ∙ join-other a b e)))
    (λ f. sym (ap (status_join (Some a)) (join-other b c f) ∙ join_none (Some a))))

to_order : (x y : Status) → status_join x y ≡ y → StatusBelow x y
to_order x None e = tt
to_order None (Some b) e = (let f = sym (none_join (Some b)) ∙ e in cc)
to_order (Some a) (Some b) e = by_same a b _ (λ f. f) (λ f. (let g = sym (join-other a b f) ∙ e in cc))

from_order : (x y : Status) → StatusBelow x y → status_join x y ≡ y
from_order x None b = join_none x
from_order None (Some b) h = absurd h
from_order (Some a) (Some b) h = ap (λ w. status_join (Some w) (Some b)) h ∙ join-same b

pub status_lattice : JoinLaws status_join StatusBelow
status_lattice = record { idempotent = idempotent; commutative = commutative; associative = associative; to_order = to_order; from_order = from_order }

pub statuses_lattice : JoinLaws statuses_join StatusesBelow
unfolding statuses_join
statuses_lattice = map_lattice dot_cmp_total dot_cmp_antisym status_lattice
