-- Copies and picks are determined by what is live, the message and the turn; their identifiers ascend.
use Rattle.std.specs.Prelude.{◌≡◌, ℕ, List}
use Rattle.std.specs.List.{flat_map}
use Rattle.mqtt_message.specs.declared.message.Message.{Message}
use Rattle.mqtt_message.specs.Identifiers.{identifiers_of}
use Rattle.subscription_set.specs.Entries.{Entry}
use Rattle.subscription_set.specs.Standing.{Entries}
use Rattle.bridge_routes.specs.declared.plain.PlainCopy.{PlainCopy}
use Rattle.bridge_routes.specs.declared.groups.GroupPick.{GroupPick}
use Rattle.bridge_routes.specs.Ascending.{IsAscending}
use Rattle.bridge_routes.specs.Copies.{AreCopies}
use Rattle.bridge_routes.specs.Deliveries.{identifiers_in}
use Rattle.bridge_routes.specs.Picks.{ArePicks}

abbrev pub CopiesAreDetermined : Type 0
CopiesAreDetermined = (live : Entries) (m : Message) (out other : List PlainCopy) → AreCopies live m out → AreCopies live m other → out ≡ other

abbrev pub PicksAreDetermined : Type 0
PicksAreDetermined = (turn : ℕ) (live : Entries) (m : Message) (out other : List GroupPick) → ArePicks turn live m out → ArePicks turn live m other → out ≡ other

-- the identifiers of a copy are those of its subscriptions, ascending, repeats kept
abbrev pub IdentifiersAscend : Type 0
IdentifiersAscend = (own : List Entry) → IsAscending (flat_map (λ e. identifiers_of e.identifier) own) (identifiers_in own)

-- of some numbers there is one such list
abbrev pub OneAscends : Type 0
OneAscends = (numbers xs ys : List ℕ) → IsAscending numbers xs → IsAscending numbers ys → xs ≡ ys
