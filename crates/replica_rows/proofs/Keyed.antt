-- The rows of a state, key by key.
use Rattle.std.proofs.Common.{◌≡◌, ℕ, Bool, true, false, if◌then◌else◌, List, [], ◌∷◌, ◌++◌, Some, None, Result, Ok, Err, refl, sym, ap, subst, ◌∙◌}
use Rattle.std.specs.Str.{bytes_eq}
use Rattle.std.specs.FinMap as map
use Rattle.std.proofs.lemmas.Slice.Eq.{bytes_eq-Decides}
use Rattle.mqtt_fields.specs.declared.fault.FieldFault.{FieldFault}
use Rattle.mqtt_fields.specs.Field.{Field, IsField}
use Rattle.causal_context.specs.Dots.{Dot}
use Rattle.subscription_set.specs.declared.entry.Entry.{Entry}
use Rattle.replica_store.specs.declared.kept.Kept.{Kept}
use Rattle.replica_store.specs.States.{State}
use Rattle.replica_bytes.specs.Values.{dot, subscription, subscription_in, kept}
use Rattle.replica_bytes.proofs.Wholes.{dot_is}
use Rattle.replica_rows.specs.Rows.{spelled_by, spelled_in, spelled, subscription_of, subscription_at, kept_of, row_at}
use Rattle.replica_rows.specs.Steps.{subscription_key}

by_bool : (b : Bool) {P : Type 0} → (b ≡ true → P) → (b ≡ false → P) → P
by_bool true f g = f refl
by_bool false f g = g refl

pub bytes_same : (bs : List ℕ) → bytes_eq bs bs ≡ true
bytes_same bs = (bytes_eq-Decides bs bs).1 refl

append_none : (xs : List ℕ) → xs ++ [] ≡ xs
append_none [] = refl
append_none (x ∷ xs) = ap (λ ys. x ∷ ys) (append_none xs)

some_is : {A : Type 0} (a b : A) → Some a ≡ Some b → a ≡ b
some_is a b e = cc

-- what has a spelling is read from it
pub spelled_again : {A : Type 0} (f : Field A) → IsField f → (a : A) → f.Fits a → spelled f (f.bytes a) ≡ Some a
unfolding spelled
spelled_again f F a fits =
    let at = ap f.at (sym (append_none (f.bytes a))) ∙ F.again a [] fits in
    ap (spelled_in f (f.bytes a)) at ∙ ap (λ b. if b then Some a else None) (bytes_same (f.bytes a))

-- and what is read is spelled so
pub spelled_so : {A : Type 0} (f : Field A) (bs : List ℕ) (a : A) → spelled f bs ≡ Some a → f.bytes a ≡ bs
unfolding spelled
spelled_so {A} f bs a e = read (f.at bs) e
  where
    whole : (x : A) (rest : List ℕ) → spelled_by f bs x rest ≡ Some a → f.bytes a ≡ bs
    whole x [] h = by_bool (bytes_eq (f.bytes x) bs)
        (λ t. subst (λ y. f.bytes y ≡ bs) (some_is x a (sym (ap (λ b. if b then Some x else None) t) ∙ h)) ((bytes_eq-Decides (f.bytes x) bs).0 t))
        (λ n. absurd (let none = sym (ap (λ b. if b then Some x else None) n) ∙ h in cc))
    whole x (b ∷ rest) h = absurd (cc)

    read : (r : Result (A × List ℕ) FieldFault) → spelled_in f bs r ≡ Some a → f.bytes a ≡ bs
    read (Ok x) h = whole x.0 x.1 h
    read (Err fault) h = absurd (cc)

-- values that are spelled alike are the same
pub one_value : {A : Type 0} (f : Field A) → IsField f → (a b : A) → f.Fits a → f.Fits b → f.bytes a ≡ f.bytes b → a ≡ b
one_value f F a b x y e = some_is a b (sym (spelled_again f F a x) ∙ ap (spelled f) e ∙ spelled_again f F b y)

-- ---- the row of a subscription

pub at_dot : (s : State) (client : List ℕ) (d : Dot) → dot.Fits d → row_at s (4, (client, dot.bytes d)) ≡ subscription_of client (map.get s.subscriptions d)
at_dot s client d fits = ap (subscription_at s client) (spelled_again dot dot_is d fits)

pub row_stands : (s : State) (d : Dot) (e : Entry) → dot.Fits d → map.get s.subscriptions d ≡ Some (Some e) → row_at s (subscription_key e d) ≡ Some (subscription.bytes (subscription_in e))
row_stands s d e fits is =
    at_dot s e.client d fits ∙ ap (subscription_of e.client) is ∙ ap (λ b. if b then Some (subscription.bytes (subscription_in e)) else None) (bytes_same e.client)

pub row_unseen : (s : State) (client : List ℕ) (d : Dot) → dot.Fits d → map.get s.subscriptions d ≡ None → row_at s (4, (client, dot.bytes d)) ≡ None
row_unseen s client d fits is = at_dot s client d fits ∙ ap (subscription_of client) is

pub row_removed : (s : State) (client : List ℕ) (d : Dot) → dot.Fits d → map.get s.subscriptions d ≡ Some None → row_at s (4, (client, dot.bytes d)) ≡ None
row_removed s client d fits is = at_dot s client d fits ∙ ap (subscription_of client) is

-- ---- the row of a topic

pub row_kept : (s : State) (topic : List ℕ) (k : Kept) → map.get s.retained topic ≡ Some k → row_at s (5, (topic, [])) ≡ Some ((kept topic).bytes k)
row_kept s topic k is = ap (kept_of topic) is

pub row_not_kept : (s : State) (topic : List ℕ) → map.get s.retained topic ≡ None → row_at s (5, (topic, [])) ≡ None
row_not_kept s topic is = ap (kept_of topic) is
