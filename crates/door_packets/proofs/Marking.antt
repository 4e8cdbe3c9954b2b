-- One mark more, or less.
use Rattle.std.proofs.Common.{◌≡◌, Bool, true, false, cond, Option, Some, None, refl}
use Rattle.std.specs.Prelude.{◌||◌, ◌&&◌, not, is_some}

pub added : (b : Bool) (x : Option (Unit {0})) → is_some (cond b (Some tt) x) ≡ (b || is_some x)
added true x = refl
added false x = refl

pub removed : (b : Bool) (x : Option (Unit {0})) → is_some (cond b None x) ≡ (not b && is_some x)
removed true x = refl
removed false x = refl
