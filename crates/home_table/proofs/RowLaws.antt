-- Rows as they stand in the values of TOML.
use Rattle.std.proofs.Common.{◌≡◌, ℕ, ◌+◌, ◌<◌, Bool, ◌&&◌, List, [], ◌∷◌, ◌++◌, map, take, length, get_or, Option, Some, None, option_map, String, Global, string_bytes, zero, suc, refl, ap, ◌∙◌, inl, inr, arith}
use Rattle.std.specs.Prelude.{option_and_then}
use Rattle.std.specs.List.{list_all}
use Rattle.std.specs.Map.{keys_of}
use Rattle.std.proofs.lemmas.List.{take_more, map_push, get_or-map, length-map}
use Rattle.toml.specs.declared.value.Value.{Value}
use Rattle.toml.specs.View.{view, members_view, items_view}
use Rattle.home_table.specs.Document.{has_only, each, list_of, Refuses}
use Rattle.home_table.specs.declared.fault.TableFault.{TableFault}
use Rattle.toml.specs.Data.{Data}

-- what a test of the map's keys says of the table
pub list_all-keys : (is_key : List ℕ → Bool) (es : List (String Global × Value)) → list_all (λ key. is_key (string_bytes key)) (keys_of es) ≡ has_only is_key (members_view es)
list_all-keys is_key [] = refl
list_all-keys is_key (e ∷ es) = ap (λ b. is_key (string_bytes e.0) && b) (list_all-keys is_key es)

pub list_of-view : (vs : List Value) → list_of (items_view vs) ≡ map view vs
list_of-view [] = refl
list_of-view (v ∷ vs) = ap (λ ds. view v ∷ ds) (list_of-view vs)

pushed : {B : Type 0} (r : Option B) (s t : Option (List B)) (ys : List B) (y : B) → ((vs : List B) → s ≡ Some vs → t ≡ Some (vs ++ y ∷ []))
    → option_and_then (λ v. option_map (λ vs. v ∷ vs) s) r ≡ Some ys → option_and_then (λ v. option_map (λ vs. v ∷ vs) t) r ≡ Some (ys ++ y ∷ [])
pushed None s t ys y next e = absurd (cc)
pushed (Some v) None t ys y next e = absurd (cc)
pushed (Some v) (Some vs) t ys y next e = let same : v ∷ vs ≡ ys = cc in rw (next vs refl) (ap (λ zs. Some (zs ++ y ∷ [])) same)

-- one more at the end
pub each-push : {A B : Type 0} (f : A → Option B) (xs : List A) (x : A) (ys : List B) (y : B) → each f xs ≡ Some ys → f x ≡ Some y → each f (xs ++ x ∷ []) ≡ Some (ys ++ y ∷ [])
each-push f [] x [] y is one = rw one refl
each-push f [] x (z ∷ ys) y is one = absurd (cc)
each-push f (w ∷ xs) x ys y is one = pushed (f w) (each f xs) (each f (xs ++ x ∷ [])) ys y (λ vs e. each-push f xs x vs y e one) is

nothing : {B : Type 0} (r : Option B) (s : Option (List B)) → s ≡ None → option_and_then (λ y. option_map (λ ys. y ∷ ys) s) r ≡ None
nothing None s e = refl
nothing (Some y) s e = rw e refl

-- one that gives nothing
pub each-none : {A B : Type 0} (f : A → Option B) (xs : List A) (i : ℕ) (d : A) → i < length xs → f (get_or xs i d) ≡ None → each f xs ≡ None
each-none f [] i d inside none = absurd (omega arith)
each-none f (x ∷ xs) zero d inside none = rw none refl
each-none f (x ∷ xs) (suc i) d inside none = nothing (f x) (each f xs) (each-none f xs i d (omega arith) none)

-- the rows up to a place, and the one there
pub each_more : {B : Type 0} (f : Data → Option B) (vs : List Value) (i : ℕ) (d : Value) (ys : List B) (y : B) → i < length vs
    → each f (map view (take i vs)) ≡ Some ys → f (view (get_or vs i d)) ≡ Some y → each f (map view (take (i + 1) vs)) ≡ Some (ys ++ y ∷ [])
each_more f vs i d ys y inside so_far one =
    ap (λ ws. each f (map view ws)) (take_more vs i d inside) ∙ ap (each f) (map_push view (take i vs) (get_or vs i d))
    ∙ each-push f (map view (take i vs)) (view (get_or vs i d)) ys y so_far one

-- a row that can't be had
pub refused_at : {B : Type 0} (f : Data → Option B) (vs : List Value) (i : ℕ) (d : Value) (fault : TableFault) → i < length vs
    → Refuses (f (view (get_or vs i d))) fault → Refuses (each f (map view vs)) fault
refused_at f vs i d fault inside (inl memory) = inl memory
refused_at f vs i d fault inside (inr syntax_fault) =
    inr (syntax_fault.0, each-none f (map view vs) i (view d) (omega (arith, length-map vs view)) (ap f (get_or-map view vs i d (view d) inside) ∙ syntax_fault.1))
