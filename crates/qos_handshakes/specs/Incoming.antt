-- The QoS 2 exchanges that a client has opened (MQTT 5.0, 4.3.3), and what each call does to them.
use Rattle.std.specs.Prelude.{◌≡◌, ℕ, ◌+◌, ◌<◌, ◌≤◌, ◌⊎◌, Bool, true, false, cond, List, [], ◌∷◌, Option, Some, None, is_some, nat_lt, ◌&&◌}
use Rattle.std.specs.BTreeMap.{is_at, insert_entry}
use Rattle.std.specs.List.{list_all}
use Rattle.std.specs.Map.{lookup, remove_entry}
use Rattle.std.specs.Ordering.{nat_cmp}
use Rattle.qos_handshakes.specs.declared.answers.Ack.{Ack}
use Rattle.qos_handshakes.specs.declared.answers.Ack.TheVariants.{Done, Unknown}
use Rattle.qos_handshakes.specs.declared.answers.In.{In}
use Rattle.qos_handshakes.specs.declared.answers.In.TheVariants.{New, Repeat, InUse, OverMaximum}

-- the open exchanges by rising identifier, and whether the PUBLISH of each came on this connection
abbrev pub Received : Type 0
Received = List (ℕ × Bool)

-- whether the PUBLISH came on this connection, of an open exchange
abbrev pub opened : ℕ → Received → Option Bool
opened id r = lookup (is_at (nat_cmp id)) r

-- how many were opened on this connection
abbrev pub opened_here : Received → ℕ
opened_here [] = 0
opened_here (e ∷ es) = cond e.1 1 0 + opened_here es

-- A PUBLISH at QoS 2. A client may have 100 open on a connection (3.2.2.3.3); a repeat of one of these is no further one.
abbrev pub Publish2Step : Received → ℕ → In → Received → Type 0
Publish2Step old id New new = (opened_here old < 100) × (opened id old ≡ None) × (new ≡ insert_entry nat_cmp old id true)
Publish2Step old id Repeat new = ((opened id old ≡ Some true) ⊎ ((opened_here old < 100) × (opened id old ≡ Some false))) × (new ≡ old)
Publish2Step old id InUse new = ⊥
Publish2Step old id OverMaximum new = (100 ≤ opened_here old) × (opened id old ≡ Some true → ⊥) × (new ≡ old)

-- A PUBLISH at QoS 1, which opens nothing.
abbrev pub Publish1Answer : Received → ℕ → In → Type 0
Publish1Answer r id New = (opened_here r < 100) × (opened id r ≡ None)
Publish1Answer r id Repeat = ⊥
Publish1Answer r id InUse = (opened_here r < 100) × (is_some (opened id r) ≡ true)
Publish1Answer r id OverMaximum = 100 ≤ opened_here r

-- A PUBREL ends an exchange.
abbrev pub ReleaseStep : Received → ℕ → Ack → Received → Type 0
ReleaseStep old id Done new = (is_some (opened id old) ≡ true) × (new ≡ remove_entry (is_at (nat_cmp id)) old)
ReleaseStep old id Unknown new = (opened id old ≡ None) × (new ≡ old)

-- A new connection, on which no PUBLISH has come.
abbrev pub of_before : Received → Received
of_before [] = []
of_before (e ∷ es) = (e.0, false) ∷ of_before es

-- ---- identifiers that were kept
-- each is a Two Byte Integer (1.5.2), and below all that come after it
abbrev pub rise : List ℕ → Bool
rise [] = true
rise (i ∷ is) = nat_lt i 65536 && list_all (nat_lt i) is && rise is

-- their exchanges are open, and there is no connection
abbrev pub of_identifiers : List ℕ → Received
of_identifiers [] = []
of_identifiers (i ∷ is) = (i, false) ∷ of_identifiers is

abbrev pub identifiers_of : Received → List ℕ
identifiers_of [] = []
identifiers_of (e ∷ es) = e.0 ∷ identifiers_of es
