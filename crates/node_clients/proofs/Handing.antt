-- The copies of a message from another node.
use Rattle.std.proofs.Common.{◌≡◌, ℕ, ◌+◌, suc, arith, List, [], ◌∷◌, ◌++◌, length, Option, Some, None, refl, ap, ◌∙◌}
use Rattle.bridge_routes.specs.declared.plain.PlainCopy.{PlainCopy as Copy}
use Rattle.node_work.specs.Handed.{found, gone}

-- those that are found and those that are gone are all of them
pub found_or_gone : (xs : List (Option Copy)) → length (found xs) + gone xs ≡ length xs
found_or_gone [] = refl
found_or_gone (None ∷ xs) = let h = found_or_gone xs in omega (arith, h)
found_or_gone (Some x ∷ xs) = let h = found_or_gone xs in omega (arith, h)
