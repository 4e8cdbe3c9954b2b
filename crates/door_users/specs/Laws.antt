-- What the files decide.
use Rattle.std.specs.Prelude.{◌≡◌, ℕ, List, ◌∷◌, ◌++◌, Bool, true, Option, Some, None}
use Rattle.door_packets.specs.Rights.{Rights}
use Rattle.door_packets.specs.declared.access.Admission.TheVariants.{Admitted}
use Rattle.mqtt_access.specs.Pbkdf2.{derived_key}
use Rattle.mqtt_access.specs.declared.permissions.Permissions.{Permissions}
use Rattle.door_users.specs.Accounts.{Account}
use Rattle.door_users.specs.Files.{AreRights}

-- an account of the file has this name, and its hash is the password's derived key
pub record IsUser (users : List Account) (name password : List ℕ) : Type 0 where
  pub earlier : List Account
  pub account : Account
  pub later : List Account
  pub there : users ≡ earlier ++ account ∷ later
  pub named : account.name ≡ name
  pub hashed : derived_key password account.salt account.iterations ≡ account.hash

-- where rights are those of these files:
pub record FilesDecide : Type 0 where
  -- who has a user name is admitted only with the password of that user
  pub named : (users : List Account) (rules : Option Permissions) (anonymous : Bool) (r : Rights) (name : List ℕ) (password : Option (List ℕ))
      → AreRights users rules anonymous r → r.admission (Some name) password ≡ Admitted → (p : List ℕ) × (password ≡ Some p) × IsUser users name p
  -- who has none, only where that is allowed
  pub nameless : (users : List Account) (rules : Option Permissions) (anonymous : Bool) (r : Rights) (password : Option (List ℕ))
      → AreRights users rules anonymous r → r.admission None password ≡ Admitted → anonymous ≡ true
