-- What the files of users and of permissions give a client.
use Rattle.std.specs.Prelude.{◌≡◌, ℕ, List, Bool, true, Option, Some, None, Ok, Err, if◌then◌else◌}
use Rattle.door_packets.specs.Rights.{Rights}
use Rattle.door_packets.specs.declared.access.Admission.{Admission}
use Rattle.door_packets.specs.declared.access.Admission.TheVariants as admissions
use Rattle.door_packets.specs.declared.access.Login.{Login}
use Rattle.mqtt_access.specs.Index.{IsIndexOf, may_connect_in, may_in}
use Rattle.mqtt_access.specs.Rules.{Asked, may, may_connect}
use Rattle.mqtt_access.specs.Rules.Asked.{ToRead, ToSubscribe, ToWrite}
use Rattle.mqtt_access.specs.declared.index.RuleIndex.{RuleIndex}
use Rattle.mqtt_access.specs.declared.permissions.Permissions.{Permissions}
use Rattle.door_users.specs.Accounts.{Account, accounts_of}
use Rattle.door_users.specs.Admitting.{entry_of}
use Rattle.door_users.specs.Rules.{rules_of}
use Rattle.door_users.specs.declared.fault.AccessFault.{AccessFault}
use Rattle.door_users.specs.declared.fault.AccessFault.TheVariants as faults
use Rattle.door_users.specs.declared.file_access.FileAccess.{FileAccess}
use Rattle.door_users.specs.declared.users.Entry.{Entry}
use Rattle.door_users.specs.declared.users.Entry.TheVariants.{Admitted, WrongPassword}

abbrev pub entry_as : Entry → Admission
entry_as Admitted = admissions.Admitted
entry_as WrongPassword = admissions.WrongPassword

-- a name without a password isn't admitted
abbrev pub password_at : List Account → List ℕ → Option (List ℕ) → Admission
password_at users name None = admissions.WrongPassword
password_at users name (Some password) = entry_as (entry_of users name password)

abbrev pub admission_at : List Account → Bool → Option (List ℕ) → Option (List ℕ) → Admission
admission_at users anonymous None password = if anonymous then admissions.Admitted else admissions.NoName
admission_at users anonymous (Some name) password = password_at users name password

-- without rules all may be done
abbrev pub may_at : Option Permissions → Login → Asked → Bool
may_at None l asked = true
may_at (Some rules) l asked = may rules.topics.items l.user l.client asked

abbrev pub may_connect_at : Option Permissions → Login → Bool
may_connect_at None l = true
may_connect_at (Some rules) l = may_connect rules.clients.items l.user l.client

-- who may come and do what, by these files
pub record AreRights (users : List Account) (rules : Option Permissions) (anonymous : Bool) (r : Rights) : Type 0 where
  pub admits : (user password : Option (List ℕ)) → r.admission user password ≡ admission_at users anonymous user password
  pub connects : (l : Login) → r.may_connect l ≡ may_connect_at rules l
  pub writes : (l : Login) (topic : List ℕ) → r.may_write l topic ≡ may_at rules l (ToWrite topic)
  pub reads : (l : Login) (topic : List ℕ) → r.may_read l topic ≡ may_at rules l (ToRead topic)
  pub subscribes : (l : Login) (filter : List ℕ) → r.may_subscribe l filter ≡ may_at rules l (ToSubscribe filter)

-- ---- by the texts of the files

abbrev pub AreRulesIf : Option (List ℕ) → Option Permissions → Type 0
AreRulesIf None None = Unit {0}
AreRulesIf None (Some rules) = ⊥
AreRulesIf (Some text) None = ⊥
AreRulesIf (Some text) (Some rules) = rules_of text ≡ Ok (rules.topics.items, rules.clients.items)

-- who may come and do what is what the texts of the files say
pub record AreOfFiles (users : List ℕ) (permissions : Option (List ℕ)) (anonymous : Bool) (r : Rights) : Type 0 where
  pub accounts : List Account
  pub rules : Option Permissions
  pub users_are : accounts_of users ≡ Ok accounts
  pub rules_are : AreRulesIf permissions rules
  pub rights : AreRights accounts rules anonymous r

-- the line that is told has that flaw, and no earlier one has any
abbrev pub IsOfUsers : List ℕ → AccessFault → Type 0
IsOfUsers text faults.NoMemory = Unit {0}
IsOfUsers text (faults.Users number flaw) = accounts_of text ≡ Err (number, flaw)
IsOfUsers text (faults.Permissions number flaw) = ⊥

abbrev pub IsOfPermissions : Option (List ℕ) → AccessFault → Type 0
IsOfPermissions text faults.NoMemory = Unit {0}
IsOfPermissions text (faults.Users number flaw) = ⊥
IsOfPermissions None (faults.Permissions number flaw) = ⊥
IsOfPermissions (Some text) (faults.Permissions number flaw) = rules_of text ≡ Err (number, flaw)

abbrev pub IsFault : List ℕ → Option (List ℕ) → AccessFault → Type 0
IsFault users permissions faults.NoMemory = Unit {0}
IsFault users permissions (faults.Users number flaw) = IsOfUsers users (faults.Users number flaw)
IsFault users permissions (faults.Permissions number flaw) = IsOfPermissions permissions (faults.Permissions number flaw)

-- ---- by the users that they are for

abbrev pub IsIndexIf : Option Permissions → Option RuleIndex → Type 0
IsIndexIf None None = Unit {0}
IsIndexIf None (Some x) = ⊥
IsIndexIf (Some rules) None = ⊥
IsIndexIf (Some rules) (Some x) = IsIndexOf rules x

abbrev pub may_by : Option RuleIndex → Login → Asked → Bool
may_by None l asked = true
may_by (Some rules) l asked = may_in rules l.user l.client asked

abbrev pub may_connect_by : Option RuleIndex → Login → Bool
may_connect_by None l = true
may_connect_by (Some rules) l = may_connect_in rules l.user l.client

abbrev pub rights_of : FileAccess → Rights
rights_of f = record {
  admission = admission_at f.users f.anonymous;
  may_connect = may_connect_by f.rules;
  may_write = λ l topic. may_by f.rules l (ToWrite topic);
  may_read = λ l topic. may_by f.rules l (ToRead topic);
  may_subscribe = λ l filter. may_by f.rules l (ToSubscribe filter);
}
