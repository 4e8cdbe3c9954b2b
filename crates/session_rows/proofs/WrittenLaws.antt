-- What is appended goes after what was there, and where a part has no room all of it has none.
use Rattle.std.proofs.Common.{◌≡◌, ℕ, ◌<◌, ◌≤◌, ◌+◌, List, [], ◌∷◌, ◌++◌, length, get_or, take, drop, Result, Ok, Err, refl, sym, ap, ◌∙◌, length-append, length-take, arith}
use Rattle.std.specs.Int.{w16, w32}
use Rattle.std.specs.Prelude.{flat_map, OnErr, OnOk}
use Rattle.std.proofs.lemmas.List.{take-append-drop, take-append-le}
use Rattle.std.proofs.Math.Seq.{take-append_seam}
use Rattle.std.proofs.lemmas.List.Folds.{length-flat_map-take}
use Rattle.mqtt_fields.specs.Numbers.{number}
use Rattle.session_rows.specs.Fields.{many}

-- what begins so begins so with more behind it
pub begins_on : {A : Type 0} (old now new more : List A) → take (length old) now ≡ old → new ≡ now ++ more → take (length old) new ≡ old
begins_on old now new more is made =
    ap (take (length old)) made ∙ take-append-le (length old) now more (omega (arith, ap length is, length-take (length old) now)) ∙ is

-- what begins with what begins so
pub begins_so : {A : Type 0} (old now new : List A) → take (length old) now ≡ old → take (length now) new ≡ now → take (length old) new ≡ old
begins_so old now new a b =
    begins_on old now new (drop (length now) new) a (sym (take-append-drop (length now) new) ∙ ap (λ xs. xs ++ drop (length now) new) b)

-- also where the last part has no room
pub begins_either : {A T E : Type 0} (r : Result T E) (old now new more : List A) → take (length old) now ≡ old → OnOk r (new ≡ now ++ more) → OnErr r (new ≡ now) → take (length old) new ≡ old
begins_either (Ok x) old now new more is ok err = begins_on old now new more is ok
begins_either (Err e) old now new more is ok err = ap (take (length old)) err ∙ is

-- three parts, one after another
pub begins_three : {A : Type 0} (old one two three a b d : List A) → one ≡ old ++ a → two ≡ one ++ b → three ≡ two ++ d → take (length old) three ≡ old
begins_three old one two three a b d first second third =
    begins_on old two three d (begins_on old one two b (ap (take (length old)) first ∙ take-append_seam old a) second) third

pub none-of : {A : Type 0} (xs ys : List A) → xs ++ ys ≡ [] → (xs ≡ []) × (ys ≡ [])
none-of [] ys e = (refl, e)
none-of (x ∷ xs) ys e = absurd cc

-- where one identifier more doesn't fit, all of them don't
pub no_room : (ids : List ℕ) (k : ℕ) (before items : List ℕ) (len capacity len' capacity' : ℕ)
    → k < length ids → items ≡ before ++ ((number w32).bytes (length ids) ++ flat_map (number w16).bytes (take k ids)) → len ≡ length before → len' ≡ length items
    → capacity ≤ capacity' → capacity' < len' + 2 → capacity < len + length ((many (number w16)).bytes ids)
no_room ids k before items len capacity len' capacity' inside is before_len items_len grown full =
    let front = (number w32).bytes (length ids) in
    let some = flat_map (number w16).bytes (take k ids) in
    let one : length ((number w16).bytes (get_or ids k 0)) ≡ 2 = refl in
    omega (arith, ap length is, length-append before (front ++ some), length-append front some, length-append front (flat_map (number w16).bytes ids), length-flat_map-take (number w16).bytes ids k 0 inside, one)
