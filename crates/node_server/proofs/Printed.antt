-- Texts that a writer took one after another.
use Rattle.std.proofs.Common.{◌≡◌, ℕ, List, ◌++◌, Option, Some, None, ap, append_assoc, ◌∙◌}
use Rattle.std.specs.Io.KnownBytes.{Appends}

pub appends-both : (a b c : Option (List ℕ)) (x y : List ℕ) → Appends a b x → Appends b c y → Appends a c (x ++ y)
appends-both None b c x y first second = tt
appends-both (Some xs) None c x y first second = absurd first
appends-both (Some xs) (Some ys) None x y first second = absurd second
appends-both (Some xs) (Some ys) (Some zs) x y first second = second ∙ ap (λ l. l ++ y) first ∙ append_assoc xs x y
