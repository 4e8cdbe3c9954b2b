-- For whom a session begins: clients whose home is this node.
use Rattle.std.proofs.Common.{◌≡◌, inl, inr, ℕ, ◌<◌, ◌^◌, ◌==◌, Bool, true, false, List, [], ◌∷◌, ◌++◌, length, Option, Some, None, refl, sym, subst, arith}
use Rattle.std.specs.FinMap as map
use Rattle.std.specs.List.{AllByRecursion}
use Rattle.std.proofs.lemmas.Bool.Decides.{nat_tests}
use Rattle.home_table.specs.Homes.{IsHome}
use Rattle.home_table.specs.Table.{Table}
use Rattle.home_table.proofs.AutomaticLaws.{decimal_is_whole}
use Rattle.mqtt_packets.specs.declared.connect.Connect.{Connect}
use Rattle.mqtt_packets.specs.declared.fault.PacketFault.{PacketFault}
use Rattle.mqtt_packets.specs.declared.packet.Packet.{Packet}
use Rattle.mqtt_packets.specs.declared.packet.Packet.TheVariants as packets
use Rattle.mqtt_sessions.specs.Reaction.{Reaction}
use Rattle.law_sessions.specs.Runs.{connects}
use Rattle.session_table.specs.Calls.{moves}
use Rattle.node_work.specs.declared.counts.Missed.TheVariants.{TableRefused}
use Rattle.node_work.specs.Acts.{Act, Began, MomentTaken, Moved, Connection, Session, Named, Runs, gather, moved_in}
use Rattle.node_work.specs.Doings.{Misses, TakesMoment}
use Rattle.node_work.specs.Held.Connections.{Accepted, Fed, Opened, client_at, is_open, room_at}
use Rattle.node_work.specs.Held.Feeding.{cut_of}
use Rattle.node_work.specs.Held.Sessions.{Begun, has_session}
use Rattle.node_work.specs.View.{Place, HeldView, ConnectionView, nodes_of}
use Rattle.node_work.specs.Working.{Doing, Returns, Acting, Looks, If, Where, Then, Each}
use Rattle.node_work.proofs.Homes.{homes_stay}
use Rattle.node_clients.specs.Connecting as connecting
use Rattle.node_clients.specs.Ending as endings
use Rattle.node_clients.specs.Naming.{IsNextNumber, automatic}
use Rattle.node_clients.specs.Pieces as pieces
use Rattle.node_clients.specs.Rooms as giving
use Rattle.node_clients.proofs.Determined.{runs_determined}
use Rattle.broker_node.specs.declared.event.Event.{Event}
use Rattle.broker_node.specs.declared.event.EventKind.{EventKind}
use Rattle.broker_node.specs.declared.event.EventKind.TheVariants as kinds
use Rattle.broker_node.specs.Due as due
use Rattle.broker_node.specs.Moving as tables
use Rattle.broker_node.specs.Turns as turns
use Rattle.broker_node.proofs.Tables.{nodes_stay}
use Rattle.law_runs.proofs.Keeping.{none_some}
use Rattle.law_runs.proofs.Passing.{numbered}
use Rattle.law_runs.proofs.Splits.{alone_is, none_there, runs_split, splits}
use Rattle.law_steps.proofs.EachAct.{K}
use Rattle.law_steps.proofs.Still as still
use Rattle.law_steps.proofs.Still.{IsStill}

-- ---- among the acts each client whose session begins has its home here, by the table that the node holds there
abbrev pub Begin : Place → HeldView → List Act → Type 0
Begin p h acts = (before after : List Act) (client : List ℕ) (mid : HeldView) → acts ≡ before ++ Session (Begun client) ∷ after → Runs p h before mid → IsHome mid.homes client p.id

at_split : (before after : List Act) (a : Act) → AllByRecursion IsStill (before ++ a ∷ after) → IsStill a
at_split [] after a all = all.0
at_split (b ∷ before) after a all = at_split before after a all.1

still_begin : (p : Place) (h : HeldView) (acts : List Act) → AllByRecursion IsStill acts → Begin p h acts
still_begin p h acts all before after client mid is ran = absurd (at_split before after (Session (Begun client)) (subst (AllByRecursion IsStill) is all))

act_begin : (p : Place) (h : HeldView) (a : Act) → ((client : List ℕ) → a ≡ Session (Begun client) → ⊥) → Begin p h (a ∷ [])
act_begin p h a other before after client mid is ran = absurd (other client (alone_is a (Session (Begun client)) before after is))

begun_begin : (p : Place) (h : HeldView) (client : List ℕ) → IsHome h.homes client p.id → Begin p h (Session (Begun client) ∷ [])
begun_begin p h client home [] after other mid is ran =
    let same : client ≡ other = (let z : Session (Begun client) ≡ Session (Begun other) = alone_is (Session (Begun client)) (Session (Begun other)) [] after is in cc) in
    subst (λ q. IsHome mid.homes q p.id) same (subst (λ (v : HeldView). IsHome v.homes client p.id) (sym ran) home)
begun_begin p h client home (b ∷ before) after other mid is ran = none_there before after (Session (Begun other)) (let z : [] ≡ before ++ Session (Begun other) ∷ after = cc in z)

pub both_begin : (p : Place) (h mid : HeldView) (xs ys : List Act) → Runs p h xs mid → Begin p h xs → Begin p mid ys → Begin p h (xs ++ ys)
both_begin p h mid xs ys runs f g before after client held is ran =
    elim (splits xs ys before after (Session (Begun client)) is) [
      | inl r ↦ f before r.0 client held r.1 ran
      | inr r ↦ (
          let parts = runs_split p xs r.0 h held (subst (λ zs. Runs p h zs held) r.1 ran) in
          let same : parts.0 ≡ mid = runs_determined p xs h parts.0 mid parts.1 runs in
          g r.0 after client held r.2 (subst (λ v. Runs p v r.0 held) same parts.2))
    ]

-- what is still leaves the table
still_tables : (acts : List Act) → AllByRecursion IsStill acts → gather moved_in acts ≡ []
still_tables [] all = refl
still_tables (a ∷ acts) all = λ i. one a all.0 i ++ still_tables acts all.1 i
  where
    one : (a : Act) → IsStill a → moved_in a ≡ []
    one (Moved homes) s = absurd s
    one a s = refl

pub still_homes : (p : Place) (h h' : HeldView) (acts : List Act) → AllByRecursion IsStill acts → Runs p h acts h' → h'.homes ≡ h.homes
still_homes p h h' acts all runs = homes_stay p acts h h' runs (still_tables acts all)

module _ (p : Place) (here : p.id < nodes_of p) where
  -- its table has as many nodes as the cluster
  abbrev Sits : HeldView → Type 0
  Sits h = length h.homes.nodes ≡ nodes_of p

  abbrev B : (A : Type 0) → (Option A → Doing) → Type 0
  B A P = (x : A) (h : HeldView) (acts : List Act) → Sits h → P (Some x) p h acts → Begin p h acts

  b_still : {A : Type 0} (P : Option A → Doing) → K IsStill A P → B A P
  b_still P f x h acts sits d = still_begin p h acts (f x p h acts d)

  b_looks : {A C : Type 0} (see : Place → HeldView → A) (P : A → Option C → Doing) → ((y : A) → B C (P y)) → B C (Looks see P)
  b_looks see P f x h acts sits d = f (see p h) x h acts sits d

  b_if : {A : Type 0} (b : Bool) (P R : Option A → Doing) → B A P → B A R → B A (If b P R)
  b_if true P R f g x h acts sits d = f x h acts sits d
  b_if false P R f g x h acts sits d = g x h acts sits d

  b_where : {A : Type 0} (X : Type 0) (P R : Option A → Doing) → B A P → B A R → B A (Where X P R)
  b_where X P R f g x h acts sits (inl d) = f x h acts sits d.1
  b_where X P R f g x h acts sits (inr d) = g x h acts sits d.1

  b_then : {A C : Type 0} (P : Option A → Doing) (R : A → Option C → Doing) → B A P → ((y : A) → B C (R y)) → B C (Then P R)
  b_then P R f g x h acts sits (inl d) = none_some (sym d.0)
  b_then P R f g x h acts sits (inr (y, own, mid, rest, one, runs, more, is)) =
      subst (Begin p h) (sym is) (both_begin p h mid own rest runs (f y h own sits one) (g y x mid rest (nodes_stay p own h mid runs sits) more))

  b_each : {A : Type 0} (One : A → Option (Unit {0}) → Doing) (xs : List A) → ((x : A) → B (Unit {0}) (One x)) → B (Unit {0}) (Each One xs)
  b_each One [] f x h acts sits d = subst (Begin p h) (sym d.1) (still_begin p h [] tt)
  b_each One (y ∷ ys) f x h acts sits d = b_then (One y) (λ _. Each One ys) (f y) (λ _. b_each One ys f) x h acts sits d

  b_returns : {A : Type 0} (y : A) → B A (Returns y)
  b_returns y x h acts sits d = subst (Begin p h) (sym d.1) (still_begin p h [] tt)

  b_act : (a : Place → HeldView → Act) → ((h : HeldView) (client : List ℕ) → a p h ≡ Session (Begun client) → ⊥) → B (Unit {0}) (Acting a)
  b_act a other x h acts sits d = subst (Begin p h) (sym d.1) (act_begin p h (a p h) (other h))

  -- ---- a client whose home is here is accepted
  abbrev AtHome : List ℕ → (A : Type 0) → (Option A → Doing) → Type 0
  AtHome client A P = (x : A) (h : HeldView) (acts : List Act) → IsHome h.homes client p.id → P (Some x) p h acts → Begin p h acts

  home_then : {A C : Type 0} (client : List ℕ) (P : Option A → Doing) (R : A → Option C → Doing) → K IsStill A P → ((y : A) → AtHome client C (R y)) → AtHome client C (Then P R)
  home_then client P R f g x h acts home (inl d) = none_some (sym d.0)
  home_then client P R f g x h acts home (inr (y, own, mid, rest, one, runs, more, is)) =
      let all = f y p h own one in
      subst (Begin p h) (sym is) (both_begin p h mid own rest runs (still_begin p h own all) (g y x mid rest (subst (λ (t : Table). IsHome t client p.id) (sym (still_homes p h mid own all runs)) home) more))

  joins : (has : Bool) (c : ℕ) (client : List ℕ) (q : Connect) (room : Option ℕ) → AtHome client Reaction (connecting.JoinsBy has c client q room)
  joins true c client q room r h acts home d = still_begin p h acts (still.calling client (connects q true room) (moves c) r p h acts d)
  joins false c client q room r h acts home (inl d) = none_some (sym d.0)
  joins false c client q room r h acts home (inr (y, own, mid, rest, one, runs, more, is)) =
      subst (Begin p h) (sym is) (both_begin p h mid own rest runs (subst (Begin p h) (sym one.1) (begun_begin p h client home))
      (still_begin p mid rest (still.calling client (connects q false room) (moves c) r p mid rest more)))

  -- once it is accepted, its session is continued or begins, and then the connection may end
  joined : (c : ℕ) (client : List ℕ) (q : Connect) → AtHome client (Unit {0}) (Then (connecting.Joins c client q) (λ r. endings.ClosesAfter r.end c client))
  joined c client q x h acts home (inl d) = none_some (sym d.0)
  joined c client q x h acts home (inr (r, own, mid, rest, one, runs, more, is)) =
      subst (Begin p h) (sym is) (both_begin p h mid own rest runs (joins (has_session client h) c client q (room_at c h) r h own home one) (still_begin p mid rest (still.closes_after r.end c client x p mid rest more)))

  accepts : (c : ℕ) (q : Connect) (client : List ℕ) → AtHome client (Unit {0}) (connecting.Accepts c q client)
  accepts c q client =
      home_then client (connecting.TakesOver client) (λ _. Then (connecting.Cleans q.clean_start client) (λ _. connecting.BeginsSession c client q)) (still.takes_over client) (λ _.
      home_then client (connecting.Cleans q.clean_start client) (λ _. connecting.BeginsSession c client q) (still.cleans q.clean_start client) (λ _.
      home_then client (Acting (λ place h. Connection (Accepted c client))) (λ _. Then (connecting.Joins c client q) (λ r. endings.ClosesAfter r.end c client)) (accepted c client) (λ _. joined c client q)))
    where
      accepted : (c : ℕ) (client : List ℕ) → K IsStill (Unit {0}) (Acting (λ place h. Connection (Accepted c client)))
      accepted c client x place h acts d = subst (AllByRecursion IsStill) (sym d.1) (tt, tt)

  -- ---- CONNECT
  same_number : (a b : ℕ) → (a == b) ≡ true → a ≡ b
  same_number a b e = grind (arith, nat_tests)

  comes_home : (there : Bool) (c : ℕ) (q : Connect) (node : ℕ) (x : Unit {0}) (h : HeldView) (acts : List Act) → IsHome h.homes q.client node → (node == p.id) ≡ there
      → If there (connecting.AcceptsAs c q q.client) (connecting.Refers c q node) (Some x) p h acts → Begin p h acts
  comes_home true c q node x h acts home is (inl d) = accepts c q q.client x h acts (subst (IsHome h.homes q.client) (same_number node p.id is) home) d.1
  comes_home true c q node x h acts home is (inr d) = still_begin p h acts (still.refuses c q 144 None x p h acts d.1)
  comes_home false c q node x h acts home is d = still_begin p h acts (still.refuses c q 156 (connecting.address_of h node) x p h acts d)

  -- an identifier that the node gives has its home here
  own_home : (h : HeldView) (number : ℕ) → Sits h → number < 2 ^ 62 → IsHome h.homes (automatic p.id number) p.id
  own_home h number sits below = inl (subst (λ n. p.id < n) (sym sits) here, (_, decimal_is_whole number (omega (arith, below)), refl))

  names_by : (c : ℕ) (q : Connect) (number : Option ℕ) (x : Unit {0}) (h : HeldView) (acts : List Act) → Sits h → IsNextNumber p h number → connecting.NamesBy c q number (Some x) p h acts → Begin p h acts
  names_by c q None x h acts sits next d = none_some (sym d.0)
  names_by c q (Some number) x h acts sits next (inl d) = none_some (sym d.0)
  names_by c q (Some number) x h acts sits next (inr (y, own, mid, rest, one, runs, more, is)) =
      let client = automatic p.id number in
      subst (Begin p h) (sym is) (both_begin p h mid own rest runs (subst (Begin p h) (sym one.1) (act_begin p h (Named number) (λ q e. cc)))
      (accepts c q client x mid rest (own_home mid number (nodes_stay p own h mid runs sits) next.1) more))

  connects_at : (bare : Bool) (c : ℕ) (q : Connect) → B (Unit {0}) (connecting.ConnectsAt bare c q)
  connects_at true c q x h acts sits (inl d) = let found = d.1 in names_by c q found.0 x h acts sits found.1 found.2
  connects_at true c q x h acts sits (inr d) = still_begin p h acts (still.refuses c q 144 None x p h acts d.1)
  connects_at false c q x h acts sits d = comes_home (d.0 == p.id) c q d.0 x h acts d.1 refl d.2

  connects_by : (code : Option ℕ) (c : ℕ) (q : Connect) → B (Unit {0}) (connecting.ConnectsBy code c q)
  connects_by (Some code) c q = b_still (connecting.RefusesConnect c q code None) (still.refuses c q code None)
  connects_by None c q = connects_at (length q.client == 0) c q

  -- ---- pieces
  first : (c : ℕ) (k : Packet) → B (Unit {0}) (pieces.AnswersFirstPacket c k)
  first c (packets.Connect q) = connects_by (connecting.connect_refusal q) c q
  first c _ = b_still (endings.ClosesConnection c) (still.closes_of c)

  answers_by : (c : ℕ) (k : Packet) (client : Option (List ℕ)) → B (Unit {0}) (pieces.AnswersPacketBy c k client)
  answers_by c k None = first c k
  answers_by c k (Some client) = b_still (pieces.AnswersPacketBy c k (Some client)) (still.serves c client k)

  answers_if : (c : ℕ) (k : Packet) → B (Unit {0}) (pieces.AnswersIfOpen c k)
  answers_if c k =
      b_looks (λ p h. is_open c h) (λ is. If is (pieces.AnswersPacket c k) (Returns tt))
      (λ is. b_if is (pieces.AnswersPacket c k) (Returns tt) (b_looks (λ p h. client_at c h) (pieces.AnswersPacketBy c k) (answers_by c k)) (b_returns tt))

  takes_all : (c : ℕ) (ks : List Packet) (fault : Option PacketFault) → B (Unit {0}) (pieces.TakesPackets c ks fault)
  takes_all c ks fault = b_then (Each (pieces.AnswersIfOpen c) ks) (λ _. pieces.BreaksIfOpen c fault) (b_each (pieces.AnswersIfOpen c) ks (answers_if c)) (λ _. b_still (pieces.BreaksIfOpen c fault) (still.breaks_if c fault))

  piece_at : (c : ℕ) (piece : List ℕ) (found : Option ConnectionView) → B (Unit {0}) (pieces.PieceAt c piece found)
  piece_at c piece None = b_returns tt
  piece_at c piece (Some found) =
      let cut = cut_of found.stream piece in
      b_if found.stream.failed (pieces.Shuts c) (pieces.Feeds c piece found)
      (b_looks (λ p h. client_at c h) (endings.ClosesBy c) (λ client. b_still (endings.ClosesBy c client) (still.closes_by c client)))
      (b_then (Acting (λ p h. Connection (Fed c piece))) (λ _. pieces.TakesPackets c cut.packets cut.fault) (b_act (λ p h. Connection (Fed c piece)) (λ h q e. cc)) (λ _. takes_all c cut.packets cut.fault))

  -- ---- tables of homes
  takes_table : (homes : Table) → B (Unit {0}) (tables.TakesTable homes)
  takes_table homes =
      b_looks (tables.is_newer_table homes) (λ newer. If newer (tables.TakesNewerTable homes) (Misses TableRefused))
      (λ newer. b_if newer (tables.TakesNewerTable homes) (Misses TableRefused)
      (b_then (Acting (λ p h. Moved homes)) (λ _. tables.SendsAway) (b_act (λ p h. Moved homes) (λ h q e. cc)) (λ _. b_still tables.SendsAway still.goes_away))
      (b_still (Misses TableRefused) (still.misses_of TableRefused)))

  starts : B (Unit {0}) due.Starts
  starts =
      b_then (Acting (λ p h. Began)) (λ _. Then due.ClosesStored (λ _. Then due.DoesDue (λ _. tables.SendsAway))) (b_act (λ p h. Began) (λ h q e. cc)) (λ _.
      b_then due.ClosesStored (λ _. Then due.DoesDue (λ _. tables.SendsAway)) (b_still due.ClosesStored still.closes_stored) (λ _.
      b_then due.DoesDue (λ _. tables.SendsAway) (b_still due.DoesDue still.does_due) (λ _. b_still tables.SendsAway still.goes_away)))

  -- ---- events
  answers_kind : (kind : EventKind) → B (Unit {0}) (turns.AnswersEvent kind)
  answers_kind kinds.Started = b_returns tt
  answers_kind (kinds.Opened c) =
      let opens : Option (Unit {0}) → Doing = Acting (λ p h. Connection (Opened c)) in
      b_looks (λ p h. is_open c h) (λ there. If there (Returns tt) opens) (λ there. b_if there (Returns tt) opens (b_returns tt) (b_act (λ p h. Connection (Opened c)) (λ h q e. cc)))
  answers_kind (kinds.Piece c bytes) = b_looks (λ p h. map.get h.connections c) (pieces.PieceAt c bytes) (piece_at c bytes)
  answers_kind (kinds.Closed c) = b_still (pieces.Leaves c) (still.leaves_of c)
  answers_kind (kinds.Room c bytes) = b_still (giving.MakesRoom c bytes) (still.makes_room c bytes)
  answers_kind (kinds.Frame bytes) = b_still (turns.AnswersEvent (kinds.Frame bytes)) (still.hears bytes)
  answers_kind (kinds.Linked peer) = b_still (turns.AnswersEvent (kinds.Linked peer)) (still.greets peer)
  answers_kind (kinds.Ship peer) = b_still (turns.AnswersEvent (kinds.Ship peer)) (still.ships peer)
  answers_kind (kinds.More peer after) = b_still (turns.AnswersEvent (kinds.More peer after)) (still.ships_more peer after)
  answers_kind kinds.Tick = b_returns tt
  answers_kind (kinds.Evict client) = b_still (turns.Evicts client) (still.evicts client)
  answers_kind (kinds.Table homes) = takes_table homes

  after_due : (kind : EventKind) → B (Unit {0}) (Then due.DoesDue (λ _. turns.AnswersEvent kind))
  after_due kind = b_then due.DoesDue (λ _. turns.AnswersEvent kind) (b_still due.DoesDue still.does_due) (λ _. answers_kind kind)

  goes_on : (kind : EventKind) → B (Unit {0}) (turns.AnswersAfterDue kind)
  goes_on kinds.Started = b_returns tt
  goes_on (kinds.Opened c) = after_due (kinds.Opened c)
  goes_on (kinds.Piece c bytes) = after_due (kinds.Piece c bytes)
  goes_on (kinds.Closed c) = after_due (kinds.Closed c)
  goes_on (kinds.Room c bytes) = after_due (kinds.Room c bytes)
  goes_on (kinds.Frame bytes) = after_due (kinds.Frame bytes)
  goes_on (kinds.Linked peer) = after_due (kinds.Linked peer)
  goes_on (kinds.Ship peer) = after_due (kinds.Ship peer)
  goes_on (kinds.More peer after) = after_due (kinds.More peer after)
  goes_on kinds.Tick = after_due kinds.Tick
  goes_on (kinds.Evict client) = after_due (kinds.Evict client)
  goes_on (kinds.Table homes) = after_due (kinds.Table homes)

  first_turn : (kind : EventKind) → B (Unit {0}) (turns.AwaitsStart kind)
  first_turn kinds.Started = starts
  first_turn (kinds.Opened c) = b_returns tt
  first_turn (kinds.Piece c bytes) = b_returns tt
  first_turn (kinds.Closed c) = b_returns tt
  first_turn (kinds.Room c bytes) = b_returns tt
  first_turn (kinds.Frame bytes) = b_returns tt
  first_turn (kinds.Linked peer) = b_returns tt
  first_turn (kinds.Ship peer) = b_returns tt
  first_turn (kinds.More peer after) = b_returns tt
  first_turn kinds.Tick = b_returns tt
  first_turn (kinds.Evict client) = b_returns tt
  first_turn (kinds.Table homes) = b_returns tt

  moment : (at : ℕ) → B (Unit {0}) (TakesMoment at)
  moment at x h acts sits d = subst (Begin p h) (sym (numbered _ x (MomentTaken at) acts d)) (act_begin p h (MomentTaken at) (λ q e. cc))

  pub decides : (e : Event) → B (Unit {0}) (turns.Decides e)
  decides e =
      b_then (TakesMoment e.at) (λ _. turns.Turn e.kind) (moment e.at)
      (λ _. b_looks (λ p h. h.started) (λ is. If is (turns.AnswersAfterDue e.kind) (turns.AwaitsStart e.kind)) (λ is. b_if is (turns.AnswersAfterDue e.kind) (turns.AwaitsStart e.kind) (goes_on e.kind) (first_turn e.kind)))
