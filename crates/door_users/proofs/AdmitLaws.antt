-- Who is let in.
use Rattle.std.proofs.Common.{◌≡◌, ℕ, Bool, true, false, cond, ◌&&◌, List, Option, Some, None, MatchOption, refl, sym, ap, subst, ◌∙◌}
use Rattle.std.specs.Prelude.{◌↔◌, IsTrue, find}
use Rattle.std.specs.Str.{bytes_eq}
use Rattle.mqtt_access.specs.Pbkdf2.{derived_key}
use Rattle.mqtt_access.proofs.Tests.{and_first, and_second, by_test, never, same, tests_same}
use Rattle.door_users.specs.declared.users.Entry.TheVariants.{Admitted, WrongPassword}
use Rattle.door_users.specs.Accounts.{Account}
use Rattle.door_users.specs.Admitting.{entry_by, entry_of}

abbrev key_of : Account → List ℕ → List ℕ
key_of a password = derived_key password a.salt a.iterations

-- the account that was found, if one was
abbrev IsFound : Option Account → Account → Bool → Type 0
IsFound o a known = MatchOption o (known ≡ false) (λ x. (a ≡ x) × (known ≡ true))

decided : (x : Account) (password : List ℕ) (b : Bool) → bytes_eq (key_of x password) x.hash ≡ b → cond b Admitted WrongPassword ≡ entry_by (Some x) password
decided x password b e = sym (ap (λ (c : Bool). cond c Admitted WrongPassword) e)

wrong : (right known : Bool) → (right && known) ≡ false → known ≡ true → right ≡ true → ⊥
wrong true known e k r = never (sym e ∙ k)
wrong false known e k r = never r

module _ (a : Account) (known right : Bool) (password : List ℕ) where
  admitted_by : (o : Option Account) → IsFound o a known → IsTrue right ↔ (key_of a password ≡ a.hash) → (right && known) ≡ true → Admitted ≡ entry_by o password
  admitted_by None h is e = never (sym h ∙ and_second right known e)
  admitted_by (Some x) h is e =
      let own : key_of x password ≡ x.hash = subst (λ (y : Account). key_of y password ≡ y.hash) h.0 (is.0 (and_first right known e)) in
      decided x password true (tests_same (key_of x password) x.hash own)

  refused_by : (o : Option Account) → IsFound o a known → IsTrue right ↔ (key_of a password ≡ a.hash) → (right && known) ≡ false → WrongPassword ≡ entry_by o password
  refused_by None h is e = refl
  refused_by (Some x) h is e =
      by_test (bytes_eq (key_of x password) x.hash) (WrongPassword ≡ entry_by (Some x) password)
      (λ t. absurd (wrong right known e h.1 (is.1 (subst (λ (y : Account). key_of y password ≡ y.hash) (sym h.0) (same (key_of x password) x.hash t)))))
      (λ f. decided x password false f)

pub admitted : (accounts : List Account) (name : List ℕ) (a : Account) (known right : Bool) (password : List ℕ) → MatchOption (find (λ x. bytes_eq x.name name) accounts) (known ≡ false) (λ x. (a ≡ x) × (known ≡ true))
    → IsTrue right ↔ (derived_key password a.salt a.iterations ≡ a.hash) → (right && known) ≡ true → Admitted ≡ entry_of accounts name password
admitted accounts name a known right password h is e = admitted_by a known right password (find (λ x. bytes_eq x.name name) accounts) h is e

pub refused : (accounts : List Account) (name : List ℕ) (a : Account) (known right : Bool) (password : List ℕ) → MatchOption (find (λ x. bytes_eq x.name name) accounts) (known ≡ false) (λ x. (a ≡ x) × (known ≡ true))
    → IsTrue right ↔ (derived_key password a.salt a.iterations ≡ a.hash) → (right && known) ≡ false → WrongPassword ≡ entry_of accounts name password
refused accounts name a known right password h is e = refused_by a known right password (find (λ x. bytes_eq x.name name) accounts) h is e
