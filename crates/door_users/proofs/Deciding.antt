-- Who is admitted stands in the file.
use Rattle.std.proofs.Common.{◌≡◌, ℕ, Bool, true, false, cond, List, [], ◌∷◌, Option, Some, None, refl, sym, ap, ◌∙◌}
use Rattle.std.specs.Prelude.{find}
use Rattle.std.specs.Str.{bytes_eq}
use Rattle.door_packets.specs.declared.access.Admission.TheVariants as admissions
use Rattle.mqtt_access.specs.Pbkdf2.{derived_key}
use Rattle.mqtt_access.proofs.Tests.{same}
use Rattle.mqtt_access.specs.declared.permissions.Permissions.{Permissions}
use Rattle.mqtt_access.specs.Rules.{Asked}
use Rattle.mqtt_access.specs.Rules.Asked.{ToRead, ToSubscribe, ToWrite}
use Rattle.mqtt_access.specs.declared.index.RuleIndex.{RuleIndex}
use Rattle.door_packets.specs.declared.access.Login.{Login}
use Rattle.door_users.specs.Files.{AreRights, IsIndexIf, entry_as, may_at, may_by, may_connect_at, may_connect_by, password_at, rights_of}
use Rattle.door_users.specs.Laws.{FilesDecide, IsUser}
use Rattle.door_users.specs.Accounts.{Account}
use Rattle.door_users.specs.Admitting.{entry_by, entry_of}
use Rattle.door_users.specs.declared.users.Entry.{Entry}
use Rattle.door_users.specs.declared.users.Entry.TheVariants.{Admitted, WrongPassword}

abbrev by_name : List ℕ → Account → Bool
by_name name a = bytes_eq a.name name

hashed_by : (a : Account) (password : List ℕ) (b : Bool) → bytes_eq (derived_key password a.salt a.iterations) a.hash ≡ b → cond b Admitted WrongPassword ≡ Admitted → derived_key password a.salt a.iterations ≡ a.hash
hashed_by a password true is e = same (derived_key password a.salt a.iterations) a.hash is
hashed_by a password false is e = absurd cc

module _ (name password : List ℕ) where
  one_more : (x : Account) (xs : List Account) → (entry_by (find (by_name name) xs) password ≡ Admitted → IsUser xs name password) → (b : Bool) → by_name name x ≡ b
      → entry_by (cond b (Some x) (find (by_name name) xs)) password ≡ Admitted → IsUser (x ∷ xs) name password
  one_more x xs rest true is e = record {
    earlier = [];
    account = x;
    later = xs;
    there = refl;
    named = same x.name name is;
    hashed = hashed_by x password (bytes_eq (derived_key password x.salt x.iterations) x.hash) refl e;
  }
  one_more x xs rest false is e =
      let r = rest e in
      record {
        earlier = x ∷ r.earlier;
        account = r.account;
        later = r.later;
        there = ap (λ (ys : List Account). x ∷ ys) r.there;
        named = r.named;
        hashed = r.hashed;
      }

  in_file : (users : List Account) → entry_of users name password ≡ Admitted → IsUser users name password
  in_file [] e = absurd cc
  in_file (x ∷ xs) e = one_more x xs (in_file xs) (by_name name x) refl e

was_entry : (e : Entry) → entry_as e ≡ admissions.Admitted → e ≡ Admitted
was_entry Admitted is = refl
was_entry WrongPassword is = absurd cc

by_password : (users : List Account) (name : List ℕ) (password : Option (List ℕ)) → password_at users name password ≡ admissions.Admitted → (p : List ℕ) × (password ≡ Some p) × IsUser users name p
by_password users name None e = absurd cc
by_password users name (Some p) e = (p, refl, in_file name p users (was_entry (entry_of users name p) e))

let_nameless : (anonymous : Bool) → cond anonymous admissions.Admitted admissions.NoName ≡ admissions.Admitted → anonymous ≡ true
let_nameless true e = refl
let_nameless false e = absurd cc

pub decide : FilesDecide
decide = record {
  named = λ users rules anonymous r name password are e. by_password users name password (sym (are.admits (Some name) password) ∙ e);
  nameless = λ users rules anonymous r password are e. let_nameless anonymous (sym (are.admits None password) ∙ e);
}

-- ---- by the users that they are for

may_alike : (rules : Option Permissions) (x : Option RuleIndex) (l : Login) (asked : Asked) → IsIndexIf rules x → may_by x l asked ≡ may_at rules l asked
may_alike None None l asked is = refl
may_alike None (Some x) l asked is = absurd is
may_alike (Some rules) None l asked is = absurd is
may_alike (Some rules) (Some x) l asked is = is.topics l.user l.client asked

connect_alike : (rules : Option Permissions) (x : Option RuleIndex) (l : Login) → IsIndexIf rules x → may_connect_by x l ≡ may_connect_at rules l
connect_alike None None l is = refl
connect_alike None (Some x) l is = absurd is
connect_alike (Some rules) None l is = absurd is
connect_alike (Some rules) (Some x) l is = is.clients l.user l.client

pub made : (users : List Account) (rules : Option Permissions) (x : Option RuleIndex) (anonymous : Bool) → IsIndexIf rules x → AreRights users rules anonymous (rights_of (record { users = users; rules = x; anonymous = anonymous }))
made users rules x anonymous is = record {
  admits = λ user password. refl;
  connects = λ l. connect_alike rules x l is;
  writes = λ l topic. may_alike rules x l (ToWrite topic) is;
  reads = λ l topic. may_alike rules x l (ToRead topic) is;
  subscribes = λ l filter. may_alike rules x l (ToSubscribe filter) is;
}
