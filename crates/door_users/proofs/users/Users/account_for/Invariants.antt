use Rattle.std.proofs.Common.{◌≡◌, drop}
use Rattle.std.specs.Prelude.{find}
use Rattle.std.specs.Str.{bytes_eq}
use Rattle.door_users.specs.Accounts.{Account}
use Rattle.door_users.proofs.users.Users.account_for.Given as goal

abbrev pub invariant-loop-account : goal.invariant-loop-account
invariant-loop-account l = find (λ (a : Account). bytes_eq a.name l.name) (drop l.account-index l.self-inside.accounts.items) ≡ find (λ (a : Account). bytes_eq a.name l.name) l.self-inside.accounts.items
