-- Acts, one part after the other.
use Rattle.std.proofs.Common.{◌≡◌, ◌||◌, List, [], ◌∷◌, ◌++◌, refl, sym, ap, ◌∙◌, append_assoc}
use Rattle.std.specs.List.{AllByRecursion}
use Rattle.causal_context.specs.Dots.{Dot}
use Rattle.node_work.specs.Acts.{Act, Runs, gather}
use Rattle.node_work.specs.View.{Place, HeldView}
use Rattle.cluster_play.specs.Histories.{gained, gain_in}
use Rattle.cluster_play.proofs.Bools.{or_assoc}

pub gather_both : {A : Type 0} (f : Act → List A) (xs ys : List Act) → gather f (xs ++ ys) ≡ gather f xs ++ gather f ys
gather_both f [] ys = refl
gather_both f (x ∷ xs) ys = ap (λ zs. f x ++ zs) (gather_both f xs ys) ∙ sym (append_assoc (f x) (gather f xs) (gather f ys))

pub gained_both : (xs ys : List Act) (d : Dot) → gained (xs ++ ys) d ≡ (gained xs d || gained ys d)
gained_both [] ys d = refl
gained_both (x ∷ xs) ys d = ap (λ b. gain_in x d || b) (gained_both xs ys d) ∙ sym (or_assoc (gain_in x d) (gained xs d) (gained ys d))

pub runs_split : (p : Place) (xs ys : List Act) (h h' : HeldView) → Runs p h (xs ++ ys) h' → (mid : HeldView) × Runs p h xs mid × Runs p mid ys h'
runs_split p [] ys h h' r = (h, refl, r)
runs_split p (x ∷ xs) ys h h' r = let s = runs_split p xs ys r.0 h' r.2 in (s.0, (r.0, r.1, s.1), s.2)

-- ---- what holds of each of a list
pub all_front : {A : Type 0} (P : A → Type 0) (xs ys : List A) → AllByRecursion P (xs ++ ys) → AllByRecursion P xs × AllByRecursion P ys
all_front P [] ys a = (tt, a)
all_front P (x ∷ xs) ys a = let r = all_front P xs ys a.1 in ((a.0, r.0), r.1)

pub all_both : {A : Type 0} (P : A → Type 0) (xs ys : List A) → AllByRecursion P xs → AllByRecursion P ys → AllByRecursion P (xs ++ ys)
all_both P [] ys a b = b
all_both P (x ∷ xs) ys a b = (a.0, all_both P xs ys a.1 b)

pub all_weaker : {A : Type 0} (P Q : A → Type 0) (xs : List A) → ((x : A) → P x → Q x) → AllByRecursion P xs → AllByRecursion Q xs
all_weaker P Q [] f a = tt
all_weaker P Q (x ∷ xs) f a = (f x a.0, all_weaker P Q xs f a.1)
