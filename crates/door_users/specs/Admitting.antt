-- Who is let in.
use Rattle.std.specs.Prelude.{ℕ, List, Option, Some, None, find, if◌then◌else◌}
use Rattle.std.specs.Str.{bytes_eq}
use Rattle.mqtt_access.specs.Pbkdf2.{derived_key}
use Rattle.door_users.specs.declared.users.Entry.{Entry}
use Rattle.door_users.specs.declared.users.Entry.TheVariants.{Admitted, WrongPassword}
use Rattle.door_users.specs.Accounts.{Account}

-- the password's derived key is the hash of the account
abbrev pub entry_by : Option Account → List ℕ → Entry
entry_by None password = WrongPassword
entry_by (Some a) password = if bytes_eq (derived_key password a.salt a.iterations) a.hash then Admitted else WrongPassword

abbrev pub entry_of : List Account → List ℕ → List ℕ → Entry
entry_of accounts name password = entry_by (find (λ a. bytes_eq a.name name) accounts) password
