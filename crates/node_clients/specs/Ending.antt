-- How connections and sessions end (MQTT 5.0, 3.1.2.5, 3.1.2.11.2 and 3.14).
use Rattle.std.specs.Prelude.{ℕ, ◌+◌, ◌==◌, Bool, cond, List, Option, Some, None}
use Rattle.home_table.specs.Homes.{IsHome}
use Rattle.mqtt_sessions.specs.declared.reaction.Ask.{Ask}
use Rattle.mqtt_sessions.specs.declared.reaction.Ask.TheVariants.{Pass, Subscribe, Unsubscribe}
use Rattle.mqtt_sessions.specs.Reaction.{Reaction}
use Rattle.law_sessions.specs.Runs.{closes, ticks, finishes}
use Rattle.session_table.specs.Calls.{stays, leaves}
use Rattle.node_work.specs.declared.outcome.Output.TheVariants.{Close}
use Rattle.node_work.specs.Acts.{Connection, Session, Out}
use Rattle.node_work.specs.Calling.{Calls}
use Rattle.node_work.specs.Doings.{RemovesBelow}
use Rattle.node_work.specs.Held.Connections.{Closed}
use Rattle.node_work.specs.Held.Sessions.{Over, will_is_due, end_is_due}
use Rattle.node_work.specs.View.{Place, HeldView}
use Rattle.node_work.specs.Working.{Doing, Returns, Acting, Looks, FindsWhere, If, Then}
use Rattle.node_clients.specs.Passing.{PassesWill}

-- ---- a session
-- of a session that ends, or whose will is due, a node is asked to publish the will
abbrev pub PassesAsked : Option Ask → Option (Unit {0}) → Doing
PassesAsked None = Returns tt
PassesAsked (Some (Pass m)) = PassesWill m
PassesAsked (Some Subscribe) = Returns tt
PassesAsked (Some Unsubscribe) = Returns tt

-- a client's home, by the node's table
abbrev pub IsAtHome : List ℕ → Place → HeldView → ℕ → Type 0
IsAtHome client p h node = IsHome h.homes client node

-- the version below which subscriptions end with the session of a client whose home is at a node: those that were made under the
-- version of the node's table or an older one, and where the home is elsewhere under an older one
abbrev pub ends_below : ℕ → Place → HeldView → ℕ
ends_below node p h = cond (node == p.id) (h.homes.version + 1) h.homes.version

abbrev pub RemovesFor : List ℕ → ℕ → Option Bool → Doing
RemovesFor client node = Looks (ends_below node) (RemovesBelow client)

abbrev pub RemovesOwn : List ℕ → Option Bool → Doing
RemovesOwn client = FindsWhere (IsAtHome client) (RemovesFor client)

-- one Remove takes these subscriptions of the client, and then its session is over
abbrev pub EndsSession : List ℕ → Option (Unit {0}) → Doing
EndsSession client = Then (RemovesOwn client) (λ _. Acting (λ p h. Session (Over client)))

abbrev pub FollowsReaction : List ℕ → Reaction → Option (Unit {0}) → Doing
FollowsReaction client r = Then (PassesAsked r.ask) (λ _. If r.over (EndsSession client) (Returns tt))

-- one thing that is due of a session: its will, else its end
abbrev pub Ticks : List ℕ → Option (Unit {0}) → Doing
Ticks client = Then (Calls client ticks stays) (FollowsReaction client)

-- a session ends now: its will is published first
abbrev pub Finishes : List ℕ → Option (Unit {0}) → Doing
Finishes client = Then (Calls client finishes stays) (FollowsReaction client)

-- ---- a close: what is due at this moment is done at once, the will and then the end
abbrev pub TicksIf : Bool → List ℕ → Option (Unit {0}) → Doing
TicksIf due client = If due (Ticks client) (Returns tt)

abbrev pub DoesDueOf : List ℕ → Option (Unit {0}) → Doing
DoesDueOf client = Then (Looks (λ p h. will_is_due client h) (λ due. TicksIf due client)) (λ _. Looks (λ p h. end_is_due client h) (λ due. TicksIf due client))

abbrev pub Parts : List ℕ → Option (Unit {0}) → Doing
Parts client = Then (Calls client closes leaves) (λ _. DoesDueOf client)

-- the node closes a connection
abbrev pub ClosesConnection : ℕ → Option (Unit {0}) → Doing
ClosesConnection c = Then (Acting (λ p h. Connection (Closed c))) (λ _. Acting (λ p h. Out (Close c)))

abbrev pub ClosesFor : ℕ → List ℕ → Option (Unit {0}) → Doing
ClosesFor c client = Then (ClosesConnection c) (λ _. Parts client)

-- before a client was accepted, or after
abbrev pub ClosesBy : ℕ → Option (List ℕ) → Option (Unit {0}) → Doing
ClosesBy c None = ClosesConnection c
ClosesBy c (Some client) = ClosesFor c client

-- where a reaction says so
abbrev pub ClosesAfter : Option ℕ → ℕ → List ℕ → Option (Unit {0}) → Doing
ClosesAfter None c client = Returns tt
ClosesAfter (Some code) c client = ClosesFor c client
