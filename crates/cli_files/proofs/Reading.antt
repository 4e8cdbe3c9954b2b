-- What the texts of files that were read say.
use Rattle.std.proofs.Common.{◌≡◌, ℕ, Bool, List, Option, Result}
use Rattle.std.specs.Prelude.{IfOk, is_some}
use Rattle.std.proofs.lemmas.Result.{IfOk-weaker}
use Rattle.door_users.specs.Files.{AreOfFiles, rights_of}
use Rattle.door_users.specs.declared.file_access.FileAccess.{FileAccess}
use Rattle.cli_files.specs.Users.{AreRead}

pub are_read : {E : Type 0} (r : Result FileAccess E) (users : List ℕ) (rules permissions : Option (List ℕ)) (anonymous : Bool) → is_some rules ≡ is_some permissions
    → IfOk r (λ a. AreOfFiles users rules anonymous (rights_of a)) → IfOk r (λ a. AreRead permissions anonymous (rights_of a))
are_read r users rules permissions anonymous named are = IfOk-weaker r _ _ (λ a is. record { users = users; rules = rules; named = named; are = is }) are
