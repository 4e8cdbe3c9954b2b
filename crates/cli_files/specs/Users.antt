-- What a node is started with, by the options that say who may come.
use Rattle.std.specs.Prelude.{◌≡◌, ℕ, List, Bool, true, false, Option, Some, None, is_some}
use Rattle.door_packets.specs.Rights.{Rights}
use Rattle.door_users.specs.Files.{AreOfFiles}

-- there are users where a file of them is named; without it none of the other options may be given
abbrev pub AreAsked : Option (List ℕ) → Option (List ℕ) → Bool → Bool → Type 0
AreAsked None permissions anonymous given = (given ≡ false) × (is_some permissions ≡ false) × (anonymous ≡ false)
AreAsked (Some users) permissions anonymous given = given ≡ true

-- what each client may do is what the texts of both files say: the second one has a text where it is named, and only there
pub record AreRead (permissions : Option (List ℕ)) (anonymous : Bool) (rights : Rights) : Type 0 where
  pub users : List ℕ
  pub rules : Option (List ℕ)
  pub named : is_some rules ≡ is_some permissions
  pub are : AreOfFiles users rules anonymous rights
