-- Lists and their beginnings.
use Rattle.std.proofs.Common.{◌≡◌, ℕ, zero, suc, ◌+◌, ◌≤◌, List, [], ◌∷◌, ◌++◌, Option, Some, None, refl, sym, ap, ◌∙◌, length, drop, length-append, append_assoc, arith}
use Rattle.std.proofs.lemmas.List.{append-nil}
use Rattle.std.specs.List.{slice_get}
use Rattle.bridge_lanes.specs.Lanes.{Begins, IsNumbered}

some_is : {A : Type 0} {x y : A} → Some x ≡ Some y → x ≡ y
some_is e = cc

none-some : {A P : Type 0} {x : A} → ◌≡◌ {A = Option A} None (Some x) → P
none-some e = cc

pub begins_length : {A : Type 0} (xs ys : List A) → Begins xs ys → length xs ≤ length ys
begins_length xs ys b = let e : length xs + length b.0 ≡ length ys = sym (length-append xs b.0) ∙ ap length b.1 in omega arith

pub begins_own : {A : Type 0} (xs : List A) → Begins xs xs
begins_own xs = ([], append-nil xs)

pub begins_longer : {A : Type 0} (xs ys zs : List A) → Begins xs ys → Begins xs (ys ++ zs)
begins_longer xs ys zs b = (b.0 ++ zs, sym (append_assoc xs b.0 zs) ∙ ap (λ v. v ++ zs) b.1)

front : {A : Type 0} (xs rest : List A) (m : A) → slice_get (xs ++ rest) (length xs) ≡ Some m → (more : List A) × (rest ≡ m ∷ more)
front [] [] m h = none-some h
front [] (y ∷ ys) m h = (ys, ap (λ z. z ∷ ys) (some_is h))
front (x ∷ xs) rest m h = front xs rest m h

-- one more of the longer list
pub begins_more : {A : Type 0} (xs ys : List A) (m : A) → Begins xs ys → slice_get ys (length xs) ≡ Some m → Begins (xs ++ m ∷ []) ys
begins_more xs ys m b h =
    let f = front xs b.0 m (ap (λ v. slice_get v (length xs)) b.1 ∙ h) in
    (f.0, append_assoc xs (m ∷ []) f.0 ∙ ap (λ v. xs ++ v) (sym f.1) ∙ b.1)

get_longer : {A : Type 0} (xs ys : List A) (k : ℕ) (m : A) → slice_get xs k ≡ Some m → slice_get (xs ++ ys) k ≡ Some m
get_longer [] ys k m h = none-some h
get_longer (x ∷ xs) ys zero m h = h
get_longer (x ∷ xs) ys (suc k) m h = get_longer xs ys k m h

pub numbered_longer : {A : Type 0} (xs ys : List A) (number : ℕ) (m : A) → IsNumbered xs number m → IsNumbered (xs ++ ys) number m
numbered_longer xs ys number m h = (h.0, h.1, get_longer xs ys h.0 m h.2)

pub get-drop : {A : Type 0} (g : ℕ) (xs : List A) (k : ℕ) → slice_get (drop g xs) k ≡ slice_get xs (g + k)
get-drop zero xs k = let e : k ≡ 0 + k = omega arith in ap (slice_get xs) e
get-drop (suc g) [] k = refl
get-drop (suc g) (x ∷ xs) k = let e : suc (g + k) ≡ suc g + k = omega arith in get-drop g xs k ∙ ap (slice_get (x ∷ xs)) e
