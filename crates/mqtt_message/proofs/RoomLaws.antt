-- How much room Subscription Identifiers take.
use Rattle.std.proofs.Common.{◌≡◌, ℕ, ◌+◌, ◌*◌, ◌<◌, ◌≤◌, List, [], ◌∷◌, ◌++◌, length, take, Result, Ok, Err, refl, ap, length-append, length-take, arith}
use Rattle.std.specs.Prelude.{flat_map, OnErr}
use Rattle.std.specs.Int.{w16, w32}
use Rattle.mqtt_fields.specs.Numbers.{number}
use Rattle.mqtt_message.specs.Parts.{identifiers}

pub on_err : {T E : Type 0} (r : Result T E) (Q : Type 0) → Q → OnErr r Q
on_err (Ok x) Q q = tt
on_err (Err e) Q q = q

numbers_len : (ns : List ℕ) → length (flat_map (number w32).bytes ns) ≡ 4 * length ns
numbers_len [] = refl
numbers_len (n ∷ ns) = omega (arith, length-append ((number w32).bytes n) (flat_map (number w32).bytes ns), numbers_len ns)

-- where one more doesn't fit, all of them don't
pub no_room : (ns : List ℕ) (k : ℕ) (before items : List ℕ) (len capacity len' capacity' : ℕ)
    → k < length ns → items ≡ before ++ ((number w16).bytes (length ns) ++ flat_map (number w32).bytes (take k ns)) → len ≡ length before → len' ≡ length items
    → capacity ≤ capacity' → capacity' < len' + 4 → capacity < len + length (identifiers.bytes ns)
unfolding identifiers
no_room ns k before items len capacity len' capacity' inside is before_len items_len grown full =
    let front = (number w16).bytes (length ns) in
    let some = flat_map (number w32).bytes (take k ns) in
    let whole : length (front ++ flat_map (number w32).bytes ns) ≡ 2 + 4 * length ns = omega (arith, length-append front (flat_map (number w32).bytes ns), numbers_len ns) in
    let so_far : length items ≡ length before + (2 + 4 * k) =
    omega (arith, ap length is, length-append before (front ++ some), length-append front some, numbers_len (take k ns), length-take k ns) in
    omega (arith, whole, so_far)
