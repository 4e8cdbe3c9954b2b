-- A turn as calls.
use Rattle.std.proofs.Common.{◌≡◌, ℕ, zero, suc, List, [], ◌∷◌, ◌++◌, append_assoc, append-nil, Bool, true, false, Option, Some, None, eqb, inl, inr, length, length-append, refl, sym, subst, ap, ◌∙◌, arith}
use Rattle.std.proofs.lemmas.List.Concat.{flat_map-append}
use Rattle.std.proofs.lemmas.List.{map-append}
use Rattle.std.proofs.lemmas.List.{nil_from_length}
use Rattle.std.proofs.lemmas.Bool.Decides.{eqb_tells}
use Rattle.std.specs.Prelude.{◌≢◌, ◌⊎◌, ◌||◌, flat_map, map, not, option_map}
use Rattle.std.specs.List.{AllByRecursion}
use Rattle.std.specs.declared.net.socket_addr.SocketAddr.{SocketAddr}
use Rattle.slab.specs.Slab.{Slab, get}
use Rattle.broker_sockets.specs.declared.bridge.Given.{Given}
use Rattle.broker_sockets.specs.declared.bridge.PeerEvent.{PeerEvent}
use Rattle.broker_sockets.specs.declared.events.Event.{Event}
use Rattle.broker_sockets.specs.declared.events.EventKind.TheVariants.{Started, Tick}
use Rattle.broker_sockets.specs.declared.events.Output.{Output}
use Rattle.broker_sockets.specs.declared.network.Answer.{Answer}
use Rattle.broker_sockets.specs.declared.ready.Ready.{Ready}
use Rattle.broker_sockets.specs.declared.ready.Watched.{Watched}
use Rattle.broker_sockets.specs.declared.ready.Watched.TheVariants as watched
use Rattle.broker_turns.specs.declared.clients.Client.{Client}
use Rattle.broker_turns.specs.declared.lines.Line.{Line}
use Rattle.broker_turns.specs.declared.setting.Setting.{Setting}
use Rattle.broker_turns.specs.Bridging.{IsHeardFrom, IsLinkAccepted, IsNoLinkAccepted, IsOffered, IsPeerRead, IsSought, IsSupplied, Near, Place, Reach, Search, place, search}
use Rattle.broker_turns.specs.Clients.{AreDue, is_due_at}
use Rattle.broker_turns.specs.Numbers.{is_among}
use Rattle.broker_turns.specs.Connections.{IsAccepted, IsNobodyAccepted, IsRead, IsRoomStep, IsWrote, World, event}
use Rattle.broker_turns.specs.Lines.{link_of}
use Rattle.broker_turns.specs.Serving.{IsTurns}
use Rattle.broker_turns.specs.Steps.{AreLetInIf, Each, EachBelow, EachTells, IsEnough}
use Rattle.broker_turns.specs.Turns.{IsDecided, IsEither, IsGivenOut, IsStart, IsTakenIn, IsTurn, Site, front}
use Rattle.law_serving.specs.Calls.{Call, IsAmong, IsAt, IsFinding, IsWrittenTo, Rests, Settles, Through}
use Rattle.law_serving.specs.Channels.{Channel, Goes, IsReadOrShut, channel_at, is_ready, of_client, of_line}
use Rattle.law_serving.specs.Traces.{IsInTwo, IsOfTurn, IsTrace, Round, ServingIsATrace, TurnIsATrace}
use Rattle.law_serving.proofs.Attending.{IsOpen, IsThere, goes_on_or}
use Rattle.law_serving.proofs.Linking.{dialled_at, found_ready, link_accepted, link_read_in, link_written_in, no_link_accepted, peer_read_in, shipped_in}
use Rattle.law_serving.proofs.Tracing.{IsOwed, Traced, Walks, Wrote, accepted, among_left, nobody_accepted, read_in, rests_by, room_made, started, ticked, trace_join, trace_none, trace_over, wrote_in, wrote_keeps}
use Rattle.law_serving.proofs.Walking.{all_join, spot, through_join, walked_settles}

among_right : {A : Type 0} (is : A → Type 0) (xs ys : List A) → IsAmong is ys → IsAmong is (xs ++ ys)
among_right is [] ys some = some
among_right is (x ∷ xs) ys some = inr (among_right is xs ys some)

due_by : (closing none : Bool) → none ≡ false → (closing || not none) ≡ true
due_by true none is = refl
due_by false true is = absurd cc
due_by false false is = refl

due_one : (closing : Bool) (unsent : List ℕ) → unsent ≢ [] → (closing || not (eqb (length unsent) 0)) ≡ true
due_one closing unsent waits = due_by closing (eqb (length unsent) 0) (not_empty unsent (eqb_tells (length unsent) 0) waits)
  where
    not_empty : (xs : List ℕ) → ((eqb (length xs) 0 ≡ true) × (length xs ≡ 0)) ⊎ ((eqb (length xs) 0 ≡ false) × (length xs ≢ 0)) → xs ≢ [] → eqb (length xs) 0 ≡ false
    not_empty xs (inl empty) some = absurd (some (nil_from_length xs empty.1))
    not_empty xs (inr full) some = full.0

-- ---- one step after another

module _ {W : Type 0} (Q : W → W → Type 0) (stays : (w w' : W) → w' ≡ w → Q w w') (over : (a b c : W) → Q a b → Q b c → Q a c) where
  each : (step : ℕ → W → W → Type 0) → ((key : ℕ) (w w' : W) → step key w w' → Q w w') → (keys : List ℕ) (w w' : W) → Each step keys w w' → Q w w'
  each step one [] w w' same = stays w w' same
  each step one (key ∷ keys) w w' all = over w all.0 w' (one key w all.0 all.1) (each step one keys all.0 w' all.2)

  each_below : (step : ℕ → W → W → Type 0) → ((key : ℕ) (w w' : W) → step key w w' → Q w w') → (n : ℕ) (w w' : W) → EachBelow step n w w' → Q w w'
  each_below step one zero w w' same = stays w w' same
  each_below step one (suc n) w w' all = over w all.0 w' (each_below step one n w all.0 all.1) (one n all.0 w' all.2)

  each_tells : (step : ℕ → W → Bool → W → Type 0) → ((key : ℕ) (w : W) (more : Bool) (w' : W) → step key w more w' → Q w w') → (keys : List ℕ) (w : W) (found : List ℕ) (w' : W) → EachTells step keys w found w' → Q w w'
  each_tells step one [] w found w' same = stays w w' same.0
  each_tells step one (key ∷ keys) w found w' all = over w all.0 w' (one key w all.1 all.0 all.3) (each_tells step one keys all.0 all.2 w' all.4)

  module _ (comes nobody : W → W → Type 0) (one : (w w' : W) → comes w w' → Q w w') (none : (w w' : W) → nobody w w' → Q w w') (most : ℕ) where
    enough : (more : Bool) (count : ℕ) (w w' : W) → IsEnough comes nobody most more count w w' → Q w w'
    enough true count w w' is = stays w w' is.1
    enough false count w w' is = none w w' is.1

    let_in : (may : Bool) (w : W) (more : Bool) (w' : W) → AreLetInIf comes nobody most may w more w' → Q w w'
    let_in true w more w' all =
        over w all.between w' (each_below (λ _. comes) (λ _ v v' is. one v v' is) all.count w all.between all.each) (enough more all.count all.between w' all.enough)
    let_in false w more w' all = stays w w' all.1

-- what the network tells is ready in the next turn
some_or : (a b : Bool) → a ≡ true → (a || b) ≡ true
some_or true b is = refl
some_or false b is = absurd cc

next_ready : (found more all : Ready) → IsEither found more all → (name : Watched) → is_ready found name ≡ true → is_ready all name ≡ true
next_ready found more all either (watched.Client key) is = either.clients.those key ∙ some_or (is_among found.clients.items key) (is_among more.clients.items key) is
next_ready found more all either (watched.Link key) is = either.links.those key ∙ some_or (is_among found.links.items key) (is_among more.links.items key) is
next_ready found more all either (watched.Peer peer) is = either.peers.those peer ∙ some_or (is_among found.peers.items peer) (is_among more.peers.items peer) is

-- a client that is there, or a link
open_client : {T : Type 0} (o : Option (Client T)) (x : Channel T) → option_map of_client o ≡ Some x → x.closing ≡ false → IsOpen o
open_client None x is wide = absurd cc
open_client (Some client) x is wide = let same : x ≡ of_client client = cc in ap (λ (y : Channel _). y.closing) (sym same) ∙ wide

there_line : {T : Type 0} (o : Option (Line T)) (x : Channel T) → option_map of_line o ≡ Some x → IsThere o
there_line None x is = absurd cc
there_line (Some line) x is = tt

module _
    {S H L T : Type 0} (accepts : S → L → Option T → S → Type 0) (watches : S → T → Watched → Bool → S → Type 0) (connects : S → SocketAddr → Option T → S → Type 0)
    (reads : S → T → Answer → List ℕ → S → T → Type 0) (writes : S → T → List ℕ → Answer → S → T → Type 0) (finds : S → Ready → S → Type 0)
    (handles : H → Event → List Output → H → Type 0) (hears : H → PeerEvent → Given → H → Type 0) (settles : H → H → Type 0)
    (setting : Setting L) (at : ℕ) where
  abbrev pub Made : Bool → List Event → Place S H T → Place S H T → Type 0
  Made out clock p p' = Traced accepts watches connects reads writes finds handles hears settles setting at out clock p p'

  abbrev pub over : (out : Bool) (a b c : Place S H T) → Made out [] a b → Made out [] b c → Made out [] a c
  over out a b c p q = trace_over accepts watches connects reads writes finds handles hears settles setting at out [] [] a b c p q

  pub none : (out : Bool) (p p' : Place S H T) → p' ≡ p → Made out [] p p'
  none out p p' same = trace_none accepts watches connects reads writes finds handles hears settles setting at out p p' same

  module _ (out : Bool) {W : Type 0} (of : W → Place S H T) where
    -- of places that others make
    abbrev Made_of : W → W → Type 0
    Made_of w w' = Made out [] (of w) (of w')

    none_of : (w w' : W) → w' ≡ w → Made_of w w'
    none_of w w' same = none out (of w) (of w') (ap of same)

    over_of : (a b c : W) → Made_of a b → Made_of b c → Made_of a c
    over_of a b c p q = over out (of a) (of b) (of c) p q

  abbrev pub on_front : List (Option (Line T)) → Slab (Line T) → World S H T → Place S H T
  on_front d a w = spot w.sockets w.handler w.clients d a

  abbrev on_links : Near H T → S × Slab (Line T) → Place S H T
  on_links n w = place w.0 n w.1

  abbrev pub on_reach : Slab (Line T) → Reach S H T → Place S H T
  on_reach a r = place r.sockets r.near a

  abbrev pub on_search : Slab (Line T) → Search S H T → Place S H T
  on_search a q = place q.reach.sockets q.reach.near a

  abbrev on_near : Slab (Line T) → S → Near H T → Place S H T
  on_near a s n = place s n a

  abbrev on_handler : S → List (Option (Line T)) → Slab (Line T) → H × Slab (Client T) → Place S H T
  on_handler s d a w = spot s w.0 w.1 d a

  abbrev on_dialled : H → Slab (Client T) → Slab (Line T) → S × List (Option (Line T)) → Place S H T
  on_dialled h c a w = spot w.0 h c w.1 a

  -- ---- what may have something

  -- a stream is read by these calls, or shut, where it doesn't close before them
  abbrev Attends : Watched → Place S H T → List (Call T) → Type 0
  Attends name p calls = (x : Channel T) → channel_at name p ≡ Some x → x.closing ≡ false → IsAmong (IsReadOrShut name) calls

  -- calls before them, and calls behind them
  attends_then : (name : Watched) (p q r : Place S H T) (first : Made false [] p q) (more : Made false [] q r) → Attends name q more.0 → Attends name p (first.0 ++ more.0)
  attends_then name p q r first more attends x there wide =
      let From : Option (Channel T) → Type 0 = λ o. Through (Goes name) first.0 o (channel_at name q) in
      elim (goes_on_or name first.0 x (channel_at name q) wide (subst From there (first.1.flows name))) [
        | inl read ↦ among_left (IsReadOrShut name) first.0 more.0 read
        | inr on ↦ among_right (IsReadOrShut name) first.0 more.0 (attends on.0 on.1 on.2)
      ]

  attends_first : (name : Watched) (p q r : Place S H T) (first : Made false [] p q) (more : Made false [] q r) → Attends name p first.0 → Attends name p (first.0 ++ more.0)
  attends_first name p q r first more attends x there wide = among_left (IsReadOrShut name) first.0 more.0 (attends x there wide)

  module _ {W : Type 0} (of : W → Place S H T) (name : ℕ → Watched) (step : ℕ → W → Bool → W → Type 0)
      (one : (key : ℕ) (w : W) (more : Bool) (w' : W) → step key w more w' → (t : Made false [] (of w) (of w')) × Attends (name key) (of w) t.0) where
    -- of some numbers each
    abbrev Attends_all : List ℕ → W → List (Call T) → Type 0
    Attends_all keys w calls = (key : ℕ) → is_among keys key ≡ true → Attends (name key) (of w) calls

    each_attended : (keys : List ℕ) (w : W) (found : List ℕ) (w' : W) → EachTells step keys w found w' → (t : Made false [] (of w) (of w')) × Attends_all keys w t.0
    each_attended [] w found w' same = (none false (of w) (of w') (ap of same.0), λ key among. absurd cc)
    each_attended (k ∷ keys) w found w' all =
        let m = all.0 in
        let first = one k w all.1 m all.3 in
        let rest = each_attended keys m all.2 w' all.4 in
        (over false (of w) (of m) (of w') first.0 rest.0, λ key among. attends_by key first rest (eqb_tells key k) among)
      where
        attends_by : (key : ℕ) (first : (t : Made false [] (of w) (of all.0)) × Attends (name k) (of w) t.0) (rest : (t : Made false [] (of all.0) (of w')) × Attends_all keys all.0 t.0)
            → ((eqb key k ≡ true) × (key ≡ k)) ⊎ ((eqb key k ≡ false) × (key ≢ k)) → (eqb key k || is_among keys key) ≡ true → Attends (name key) (of w) (first.0.0 ++ rest.0.0)
        attends_by key first rest (inl same) among =
            let Named : ℕ → Type 0 = λ n. Attends (name n) (of w) (first.0.0 ++ rest.0.0) in
            subst Named (sym same.1) (attends_first (name k) (of w) (of all.0) (of w') first.0 rest.0 first.1)
        attends_by key first rest (inr apart) among =
            let among_rest : is_among keys key ≡ true = sym (ap (λ (b : Bool). b || is_among keys key) apart.0) ∙ among in
            attends_then (name key) (of w) (of all.0) (of w') first.0 rest.0 (rest.1 key among_rest)

  client_read : (d : List (Option (Line T))) (a : Slab (Line T)) (key : ℕ) (w : World S H T) (more : Bool) (w' : World S H T) → IsRead reads handles at key w more w'
      → (t : Made false [] (on_front d a w) (on_front d a w')) × Attends (watched.Client key) (on_front d a w) t.0
  client_read d a key w more w' is =
      let r = read_in accepts watches connects reads writes finds handles hears settles setting at d a key (get w.clients key) w more w' refl is.by_client in
      (r.0, λ x there wide. r.1 (open_client (get w.clients key) x there wide))

  link_read : (key : ℕ) (p : Place S H T) (more : Bool) (p' : Place S H T) → IsHeardFrom reads hears at key p more p' → (t : Made false [] p p') × Attends (watched.Link key) p t.0
  link_read key p more p' is =
      let r = link_read_in accepts watches connects reads writes finds handles hears settles setting at key (get p.accepted key) p more p' refl is.by_link in
      (r.0, λ x there wide. r.1 (there_line (get p.accepted key) x there))

  peer_read : (a : Slab (Line T)) (peer : ℕ) (r : Reach S H T) (more : Bool) (r' : Reach S H T) → IsPeerRead reads hears at peer r more r' → (t : Made false [] (on_reach a r) (on_reach a r')) × Attends (watched.Peer peer) (on_reach a r) t.0
  peer_read a peer r more r' is =
      let t = peer_read_in accepts watches connects reads writes finds handles hears settles setting at a peer (link_of r.near.dialled peer) r more r' refl is.by_link in
      (t.0, λ x there wide. t.1 (there_line (link_of r.near.dialled peer) x there))

  by_kind : (ready : Ready) (p : Place S H T) (calls : List (Call T)) (name : Watched) → ((key : ℕ) → is_among ready.clients.items key ≡ true → Attends (watched.Client key) p calls)
      → ((key : ℕ) → is_among ready.links.items key ≡ true → Attends (watched.Link key) p calls) → ((peer : ℕ) → is_among ready.peers.items peer ≡ true → Attends (watched.Peer peer) p calls)
      → is_ready ready name ≡ true → Attends name p calls
  by_kind ready p calls (watched.Client key) clients links peers is = clients key is
  by_kind ready p calls (watched.Link key) clients links peers is = links key is
  by_kind ready p calls (watched.Peer peer) clients links peers is = peers peer is

  -- all that are ready
  abbrev Attends_ready : Ready → Place S H T → List (Call T) → Type 0
  Attends_ready ready p calls = (name : Watched) → is_ready ready name ≡ true → Attends name p calls

  pub taken_in : (ready : Ready) (p : Place S H T) (more : Ready) (p' : Place S H T) → IsTakenIn accepts watches reads handles hears setting at ready p more p' → (t : Made false [] p p') × Attends_ready ready p t.0
  taken_in ready p more p' t =
      let d = p.reach.near.dialled in
      let a = p.accepted in
      let j = t.joined in
      let n = j.reach.near in
      let clients = on_front d a in
      let came = let_in (Made_of false clients) (none_of false clients) (over_of false clients) (IsAccepted accepts watches handles at setting.listener) (IsNobodyAccepted accepts watches handles at setting.listener)
      (accepted accepts watches connects reads writes finds handles hears settles setting at d a) (nobody_accepted accepts watches connects reads writes finds handles hears settles setting at d a)
      64 ready.listeners (front p.reach) t.came (front j.reach) t.accepted.does.does in
      let joined = over false p (clients (front j.reach)) j came
      (none false (clients (front j.reach)) j (λ i. spot j.reach.sockets n.handler n.clients (t.accepted.does.dialled i) (t.accepted.accepted i))) in
      let links = on_links n in
      let linked = let_in (Made_of false links) (none_of false links) (over_of false links) (IsLinkAccepted accepts watches setting.bridge) (IsNoLinkAccepted accepts watches setting.bridge)
      (link_accepted accepts watches connects reads writes finds handles hears settles setting at n) (no_link_accepted accepts watches connects reads writes finds handles hears settles setting at n)
      64 ready.listeners (j.reach.sockets, j.accepted) t.linked (t.met.reach.sockets, t.met.accepted) t.links_accepted.does in
      let met = over false j (links (t.met.reach.sockets, t.met.accepted)) t.met linked
      (none false (links (t.met.reach.sockets, t.met.accepted)) t.met (λ i. place t.met.reach.sockets (t.links_accepted.near i) t.met.accepted)) in
      let readers = on_front t.met.reach.near.dialled t.met.accepted in
      let m = t.heard.reach.near in
      let read = each_attended readers (λ key. watched.Client key) (λ key w more' w'. IsRead reads handles at key w more' w') (client_read t.met.reach.near.dialled t.met.accepted)
      ready.clients.items (front t.met.reach) more.clients.items (front t.heard.reach) t.read.does.does in
      let read_on = none false (readers (front t.heard.reach)) t.heard (λ i. spot t.heard.reach.sockets m.handler m.clients (t.read.does.dialled i) (t.read.accepted i)) in
      let heard = over false t.met (readers (front t.heard.reach)) t.heard read.0 read_on in
      let whole : Place S H T → Place S H T = λ q. q in
      let listened = each_attended whole (λ key. watched.Link key) (λ key q more' q'. IsHeardFrom reads hears at key q more' q') link_read
      ready.links.items t.heard more.links.items t.listened t.links_read in
      let peers = on_reach t.listened.accepted in
      let asked = each_attended peers (λ peer. watched.Peer peer) (λ peer r more' r'. IsPeerRead reads hears at peer r more' r') (peer_read t.listened.accepted)
      ready.peers.items t.listened.reach more.peers.items p'.reach t.peers_read.does in
      let asked_on = none false (peers p'.reach) p' (λ i. place p'.reach.sockets p'.reach.near (t.peers_read.accepted i)) in
      let last = over false t.listened (peers p'.reach) p' asked.0 asked_on in
      let from_heard = over false t.heard t.listened p' listened.0 last in
      let from_met = over false t.met t.heard p' heard from_heard in
      let from_joined = over false j t.met p' met from_met in
      let back : (name : Watched) → Attends name t.met from_met.0 → Attends name p (joined.0 ++ from_joined.0) =
      λ name attends. attends_then name p j p' joined from_joined (attends_then name j t.met p' met from_met attends) in (
        over false p j p' joined from_joined,
        λ name is.
            back name (by_kind ready t.met from_met.0 name
            (λ key among. attends_first (watched.Client key) t.met t.heard p' heard from_heard (attends_first (watched.Client key) t.met (readers (front t.heard.reach)) t.heard read.0 read_on (read.1 key among)))
            (λ key among. attends_then (watched.Link key) t.met t.heard p' heard from_heard (attends_first (watched.Link key) t.heard t.listened p' listened.0 last (listened.1 key among)))
            (λ peer among. attends_then (watched.Peer peer) t.met t.heard p' heard from_heard (attends_then (watched.Peer peer) t.heard t.listened p' listened.0 last
            (attends_first (watched.Peer peer) t.listened (peers p'.reach) p' asked.0 asked_on (asked.1 peer among)))) is),
      )

  -- up to when the handler settles, whatever comes of that
  pub decided : (ends : H → H → Type 0) (a : Slab (Line T)) (q q' : Search S H T) (d : IsDecided watches connects handles hears ends setting at q q') → Made false (event at Tick ∷ []) (on_search a q) (on_reach a d.roomed)
  decided ends a q q' d =
      let searches = on_search a in
      let r = d.reached.reach in
      let dials = each_below (Made_of false searches) (none_of false searches) (over_of false searches) (IsSought connects watches hears at setting.peers.items)
      (λ peer v v' is. dialled_at accepts watches connects reads writes finds handles hears settles setting at a _ peer v v' is.by_address) (length setting.peers.items) q d.reached d.dialled in
      let ticks = ticked accepts watches connects reads writes finds handles hears settles setting at r.near.dialled a r.sockets r.near.handler d.told.near.handler r.near.clients d.told.near.clients d.ticked.does.handled in
      let told = on_reach a d.told in
      let ticked_to = spot r.sockets d.told.near.handler d.told.near.clients r.near.dialled a in
      let to_told = none false ticked_to told (λ i. spot (d.ticked.does.sockets i) d.told.near.handler d.told.near.clients (d.ticked.dialled i) a) in
      let nears = on_near a d.told.sockets in
      let ships = each_below (Made_of false nears) (none_of false nears) (over_of false nears) (IsSupplied hears at)
      (λ peer n n' is. shipped_in accepts watches connects reads writes finds handles hears settles setting at a d.told.sockets (link_of n.dialled peer) peer n n' refl is.by_link) (length setting.peers.items) d.told.near d.supplied.near d.shipped.does in
      let supplied = on_reach a d.supplied in
      let to_supplied = over false told (nears d.supplied.near) supplied ships (none false (nears d.supplied.near) supplied (λ i. place (d.shipped.sockets i) d.supplied.near a)) in
      let handlers = on_handler d.supplied.sockets d.supplied.near.dialled a in
      let rooms = each (Made_of false handlers) (none_of false handlers) (over_of false handlers) (IsRoomStep handles at)
      (λ key n n' is. room_made accepts watches connects reads writes finds handles hears settles setting at d.supplied.near.dialled a key d.supplied.sockets n.0 n'.0 n.1 n'.1 is) d.rooms_made.does.takers
      (d.supplied.near.handler, d.supplied.near.clients) (d.roomed.near.handler, d.roomed.near.clients) d.rooms_made.does.each in
      let roomed = on_reach a d.roomed in
      let from_rooms = handlers (d.roomed.near.handler, d.roomed.near.clients) in
      let to_roomed = over false supplied from_rooms roomed rooms (none false from_rooms roomed (λ i. spot (d.rooms_made.sockets i) d.roomed.near.handler d.roomed.near.clients (d.rooms_made.dialled i) a)) in
      let rest = over false ticked_to told roomed to_told (over false told supplied roomed to_supplied to_roomed) in
      let trace : (xs ys : List Event) (x y z : Place S H T) → Made false xs x y → Made false ys y z → Made false (xs ++ ys) x z =
      λ xs ys x y z. trace_over accepts watches connects reads writes finds handles hears settles setting at false xs ys x y z in
      trace [] (event at Tick ∷ []) (searches q) (searches d.reached) roomed dials (trace (event at Tick ∷ []) [] (searches d.reached) ticked_to roomed ticks rest)

  -- of these clients each for which something waits is asked
  abbrev Asks : List ℕ → Slab (Client T) → List (Call T) → Type 0
  Asks keys c calls = (key : ℕ) (client : Client T) → is_among keys key ≡ true → get c key ≡ Some client → client.unsent ≢ [] → IsAmong (IsWrittenTo (watched.Client key)) calls

  pub each_wrote : (d : List (Option (Line T))) (a : Slab (Line T)) (keys : List ℕ) (w w' : World S H T) → Each (λ key v v'. IsWrote writes handles settles at key v v') keys w w'
      → (t : Made true [] (on_front d a w) (on_front d a w')) × Asks keys w.clients t.0
  each_wrote d a [] w w' same = (none true (on_front d a w) (on_front d a w') (ap (on_front d a) same), λ key client among found waits. absurd cc)
  each_wrote d a (k ∷ keys) w w' all =
      let m = all.0 in
      let one = wrote_in accepts watches connects reads writes finds handles hears settles setting at d a k (get w.clients k) w m refl all.1.by_client in
      let rest = each_wrote d a keys m w' all.2 in
      (over true (on_front d a w) (on_front d a m) (on_front d a w') one.0 rest.0, λ key client among found waits. asks_by key client found waits one rest (eqb_tells key k) among)
    where
      asks_by : (key : ℕ) (client : Client T) → get w.clients key ≡ Some client → client.unsent ≢ []
          → (one : Wrote accepts watches connects reads writes finds handles hears settles setting at d a (IsOwed accepts watches connects reads writes finds handles hears settles setting at d a (get w.clients k)) k (on_front d a w) (on_front d a all.0))
          → (rest : (t : Made true [] (on_front d a all.0) (on_front d a w')) × Asks keys all.0.clients t.0)
          → ((eqb key k ≡ true) × (key ≡ k)) ⊎ ((eqb key k ≡ false) × (key ≢ k)) → (eqb key k || is_among keys key) ≡ true → IsAmong (IsWrittenTo (watched.Client key)) (one.0.0 ++ rest.0.0)
      asks_by key client found waits one rest (inl same) among =
          let here = one.1 (client, ap (λ (n : ℕ). get w.clients n) (sym same.1) ∙ found, waits) in
          let Named : ℕ → Type 0 = λ n. IsAmong (IsWrittenTo (watched.Client n)) (one.0.0 ++ rest.0.0) in
          subst Named (sym same.1) (among_left (IsWrittenTo (watched.Client k)) one.0.0 rest.0.0 here)
      asks_by key client found waits one rest (inr apart) among =
          let still = wrote_keeps accepts watches connects reads writes finds handles hears settles setting at d a k key (get w.clients k) client w all.0 apart.1 found waits all.1.by_client in
          let among_rest : is_among keys key ≡ true = sym (ap (λ (b : Bool). b || is_among keys key) apart.0) ∙ among in
          among_right (IsWrittenTo (watched.Client key)) one.0.0 rest.0.0 (rest.1 key still.0 among_rest still.1 still.2)

  pub given_out : (a : Slab (Line T)) (r r' : Reach S H T) (g : IsGivenOut writes handles settles setting at r r') → (t : Made true [] (on_reach a r) (on_reach a r')) × Asks g.due r.near.clients t.0
  given_out a r r' g =
      let n = g.served.near in
      let clients = on_front r.near.dialled a in
      let wrote = each_wrote r.near.dialled a g.due (front r) (front g.served) g.written.does in
      let lines = on_dialled n.handler n.clients a in
      let offers = each_below (Made_of true lines) (none_of true lines) (over_of true lines) (IsOffered writes)
      (λ peer w w' is. link_written_in accepts watches connects reads writes finds handles hears settles setting at a n.handler n.clients (link_of w.1 peer) peer w w' refl is.by_link) (length setting.peers.items)
      (g.served.sockets, n.dialled) (r'.sockets, r'.near.dialled) g.links_written.does in
      let from_lines = lines (r'.sockets, r'.near.dialled) in
      let ended = none true (clients (front g.served)) (on_reach a g.served) (λ i. spot g.served.sockets n.handler n.clients (g.written.dialled i) a) in
      let rest = over true (on_reach a g.served) from_lines (on_reach a r') offers (none true from_lines (on_reach a r') (λ i. spot r'.sockets (g.links_written.handler i) (g.links_written.clients i) r'.near.dialled a)) in
      let more = over true (clients (front g.served)) (on_reach a g.served) (on_reach a r') ended rest in
      (over true (on_reach a r) (clients (front g.served)) (on_reach a r') wrote.0 more, λ key client among found waits. among_left (IsWrittenTo (watched.Client key)) wrote.0.0 more.0 (wrote.1 key client among found waits))

  -- a turn by its parts: up to when the handler settles, and from then on
  abbrev Turn : Place S H T → Ready → Place S H T → Ready → Type 0
  Turn old ready new next =
      (two : IsInTwo accepts watches connects reads writes finds handles hears settles setting at old ready new next)
      × IsTrace accepts watches connects reads writes finds handles hears settles setting (event at Tick ∷ []) (two.before ++ two.after) old new × IsOfTurn at (two.before ++ two.after)

  parts : (old : Place S H T) (ready : Ready) (new : Place S H T) (next : Ready) (before settled : Place S H T) → (first : Made false (event at Tick ∷ []) old before) → Attends_ready ready old first.0 → Walks accepts watches connects reads writes finds handles hears settles setting at (Settles ∷ []) before settled
      → (last : Made true [] settled new) → ((key : ℕ) (x : Channel T) → channel_at (watched.Client key) settled ≡ Some x → x.waits ≢ [] → IsAmong (IsWrittenTo (watched.Client key)) last.0)
      → (found : Ready) → IsAmong (IsFinding found) last.0 → ((name : Watched) → is_ready found name ≡ true → is_ready next name ≡ true) → Turn old ready new next
  parts old ready new next before settled first read w last asked found told next_read =
      let one : IsTrace accepts watches connects reads writes finds handles hears settles setting [] (Settles ∷ []) before settled = record { asked = w.asked; done = w.done; news = refl; time = refl; flows = w.flows } in
      let until = trace_join accepts watches connects reads writes finds handles hears settles setting (event at Tick ∷ []) [] first.0 (Settles ∷ []) old before settled first.1 one in
      let calls = first.0 ++ Settles ∷ [] in
      let all = trace_join accepts watches connects reads writes finds handles hears settles setting (event at Tick ∷ []) [] calls last.0 old settled new until last.1 in (
        record {
          before = calls;
          after = last.0;
          settled = settled;
          first = until;
          last = last.1;
          read = λ name x is there wide. among_left (IsReadOrShut name) first.0 (Settles ∷ []) (read name is x there wide);
          found = found;
          told = told;
          next_read = next_read;
          asked = asked;
        },
        all,
        record {
          moment = all_join (IsAt at) calls last.0 (all_join (IsAt at) first.0 (Settles ∷ []) first.2 (tt, tt)) last.2;
          rests = λ b.
              let r = rests_by first.0 first.3 b in
              through_join Rests calls last.0 b true true (through_join Rests first.0 (Settles ∷ []) b r.0 true r.1 (true, refl, refl)) last.3;
        },
      )

  due_then : (c : Slab (Client T)) (due : List ℕ) → AreDue c due → (key : ℕ) (client : Client T) → get c key ≡ Some client → client.unsent ≢ [] → is_among due key ≡ true
  due_then c due all key client found waits =
      all.those key ∙ ap (λ (o : Option (Client T)). is_due_at o) found ∙ due_one client.closing client.unsent waits

  channel_waits : (o : Option (Client T)) (x : Channel T) → option_map of_client o ≡ Some x → x.waits ≢ [] → (client : Client T) × (o ≡ Some client) × (client.unsent ≢ [])
  channel_waits None x is waits = absurd cc
  channel_waits (Some client) x is waits = let same : x ≡ of_client client = cc in (client, refl, λ empty. waits (ap (λ (y : Channel T). y.waits) same ∙ empty))

  pub turn_made : (old new : Site S H T) → IsTurn accepts watches connects reads writes finds handles hears settles setting at old new → Turn old.place old.ready new.place new.ready
  unfolding none
  turn_made old new turn =
      let a = turn.taken.accepted in
      let d = turn.decides in
      let first = taken_in old.ready old.place turn.more turn.taken turn.takes_in in
      let next = decided settles a (search turn.taken.reach.sockets turn.taken.reach.near old.sought) (search turn.settled.sockets turn.settled.near new.sought) d in
      let before = trace_over accepts watches connects reads writes finds handles hears settles setting at false [] (event at Tick ∷ []) old.place turn.taken (on_reach a d.roomed) first.0 next in
      let n = d.roomed.near in
      let h' = turn.settled.near.handler in
      let from = spot d.roomed.sockets h' n.clients n.dialled a in
      let settles_here = walked_settles accepts watches connects reads writes finds handles hears settles setting at d.roomed.sockets n.handler h' n.clients n.dialled a d.settled.does.does in
      let settled_at = on_reach a turn.settled in
      let same : settled_at ≡ from = λ i. spot (d.settled.sockets i) h' (d.settled.does.clients i) (d.settled.does.dialled i) a in
      let Walked_to : Place S H T → Type 0 = λ q. Walks accepts watches connects reads writes finds handles hears settles setting at (Settles ∷ []) (on_reach a d.roomed) q in
      let rested = subst Walked_to (sym same) settles_here in
      let out = given_out a turn.settled turn.given turn.gives_out in
      let s' = new.place.reach.sockets in
      let looked = found_ready accepts watches connects reads writes finds handles hears settles setting at a turn.looks.found turn.given.sockets s' turn.given.near turn.looks.told in
      let last = place s' turn.given.near a in
      let end = over true (on_reach a turn.given) last new.place looked.0 (none true last new.place (λ i. place s' (turn.near i) (turn.accepted i))) in
      let after = over true settled_at (on_reach a turn.given) new.place out.0 end in
      let c = turn.settled.near.clients in
      parts old.place old.ready new.place new.ready (on_reach a d.roomed) settled_at before
      (λ name is x there wide. among_left (IsReadOrShut name) first.0.0 next.0 (first.1 name is x there wide))
      rested after
      (λ key x there waits.
      let at_hub = channel_waits (get c key) x there waits in
      among_left (IsWrittenTo (watched.Client key)) out.0.0 end.0 (out.1 key at_hub.0 (due_then c turn.gives_out.due turn.gives_out.all key at_hub.0 at_hub.1 at_hub.2) at_hub.1 at_hub.2))
      turn.looks.found (among_right (IsFinding turn.looks.found) out.0.0 end.0 (among_left (IsFinding turn.looks.found) looked.0.0 [] looked.1))
      (next_ready turn.looks.found turn.more new.ready turn.looks.either)

  pub start_made : (old new : Site S H T) → IsStart handles at old new → Made false (event at Started ∷ []) old.place new.place
  start_made old new start =
      let p = old.place in
      let p' = new.place in
      let n = p'.reach.near in
      let told = started accepts watches connects reads writes finds handles hears settles setting at p.reach.near.dialled p.accepted p.reach.sockets p.reach.near.handler n.handler p.reach.near.clients n.clients start.told.does.does.handled in
      let between = spot p.reach.sockets n.handler n.clients p.reach.near.dialled p.accepted in
      trace_over accepts watches connects reads writes finds handles hears settles setting at false (event at Started ∷ []) [] p between p' told
      (none false between p' (λ i. spot (start.told.does.does.sockets i) n.handler n.clients (start.told.does.dialled i) (start.told.accepted i)))

pub turn_is_a_trace : {S H L T : Type 0} (accepts : S → L → Option T → S → Type 0) (watches : S → T → Watched → Bool → S → Type 0) (connects : S → SocketAddr → Option T → S → Type 0)
    (reads : S → T → Answer → List ℕ → S → T → Type 0) (writes : S → T → List ℕ → Answer → S → T → Type 0) (finds : S → Ready → S → Type 0)
    (handles : H → Event → List Output → H → Type 0) (hears : H → PeerEvent → Given → H → Type 0) (settles : H → H → Type 0) → TurnIsATrace accepts watches connects reads writes finds handles hears settles
turn_is_a_trace accepts watches connects reads writes finds handles hears settles setting at old new turn = turn_made accepts watches connects reads writes finds handles hears settles setting at old new turn

-- ---- turns one after another

module _
    {S H L T C : Type 0} (accepts : S → L → Option T → S → Type 0) (watches : S → T → Watched → Bool → S → Type 0) (connects : S → SocketAddr → Option T → S → Type 0)
    (reads : S → T → Answer → List ℕ → S → T → Type 0) (writes : S → T → List ℕ → Answer → S → T → Type 0) (finds : S → Ready → S → Type 0)
    (handles : H → Event → List Output → H → Type 0) (hears : H → PeerEvent → Given → H → Type 0) (settles : H → H → Type 0)
    (setting : Setting L) (tells : C → ℕ → C → Type 0) where
  abbrev Tells : Round T → C → C → Type 0
  Tells round c c' = tells c round.at c'

  abbrev tick : Round T → Event
  tick round = event round.at Tick

  abbrev calls_in : Round T → List (Call T)
  calls_in round = round.calls

  abbrev IsOne : Round T → Type 0
  IsOne round = IsOfTurn round.at round.calls

  -- after the start
  record Turned (clock : List Event) (calls : List (Call T)) (turns : ℕ) (c : C) (p : Place S H T) (c' : C) (p' : Place S H T) : Type 0 where
    rounds : List (Round T)
    count : length rounds ≡ turns
    moments : Through Tells rounds c c'
    each : AllByRecursion IsOne rounds
    trace : IsTrace accepts watches connects reads writes finds handles hears settles setting (clock ++ map tick rounds) (calls ++ flat_map calls_in rounds) p p'

  join : (xs ys : List Event) (cs ds : List (Call T)) (p q r : Place S H T) → IsTrace accepts watches connects reads writes finds handles hears settles setting xs cs p q
      → IsTrace accepts watches connects reads writes finds handles hears settles setting ys ds q r → IsTrace accepts watches connects reads writes finds handles hears settles setting (xs ++ ys) (cs ++ ds) p r
  join xs ys cs ds p q r first more = trace_join accepts watches connects reads writes finds handles hears settles setting xs ys cs ds p q r first more

  turned : (first : Round T) (n : ℕ) (c : C) (from : Place S H T) (w : Site S H T) (c' : C) (w' : Site S H T)
      → IsTrace accepts watches connects reads writes finds handles hears settles setting (event first.at Started ∷ []) first.calls from w.place
      → IsTurns tells (λ at v v'. IsTurn accepts watches connects reads writes finds handles hears settles setting at v v') n c w c' w'
      → Turned (event first.at Started ∷ []) first.calls n c from c' w'.place
  turned first zero c from w c' w' start same =
      let Ends : Place S H T → Type 0 = λ q. IsTrace accepts watches connects reads writes finds handles hears settles setting (event first.at Started ∷ []) (first.calls ++ []) from q in
      let Calls : List (Call T) → Type 0 = λ calls. IsTrace accepts watches connects reads writes finds handles hears settles setting (event first.at Started ∷ []) calls from w.place in
      record {
        rounds = [];
        count = refl;
        moments = same.0;
        each = tt;
        trace = subst Ends (ap (λ (v : Site S H T). v.place) (sym same.1)) (subst Calls (sym (append-nil first.calls)) start);
      }
  turned first (suc n) c from w c' w' start all =
      let mid = all.1 in
      let before = turned first n c from w all.0 mid start all.2 in
      let next = all.3 in
      let one = turn_made accepts watches connects reads writes finds handles hears settles setting next.at mid w' next.made in
      let made_calls = one.0.before ++ one.0.after in
      let round : Round T = record { at = next.at; calls = made_calls } in
      let started = event first.at Started ∷ [] in
      let clocks : (started ++ map tick before.rounds) ++ tick round ∷ [] ≡ started ++ map tick (before.rounds ++ round ∷ []) =
      ap (λ (es : List Event). event first.at Started ∷ es) (sym (map-append tick before.rounds (round ∷ []))) in
      let calls : (first.calls ++ flat_map calls_in before.rounds) ++ made_calls ≡ first.calls ++ flat_map calls_in (before.rounds ++ round ∷ []) =
      append_assoc first.calls (flat_map calls_in before.rounds) made_calls
      ∙ ap (λ (more : List (Call T)). first.calls ++ (flat_map calls_in before.rounds ++ more)) (sym (append-nil made_calls))
      ∙ ap (λ (more : List (Call T)). first.calls ++ more) (sym (flat_map-append calls_in before.rounds (round ∷ []))) in
      let both = join (started ++ map tick before.rounds) (tick round ∷ []) (first.calls ++ flat_map calls_in before.rounds) made_calls from mid.place w'.place before.trace one.1 in
      let Clock : List Event → Type 0 = λ es. IsTrace accepts watches connects reads writes finds handles hears settles setting es ((first.calls ++ flat_map calls_in before.rounds) ++ made_calls) from w'.place in
      let Calls : List (Call T) → Type 0 = λ more. IsTrace accepts watches connects reads writes finds handles hears settles setting (started ++ map tick (before.rounds ++ round ∷ [])) more from w'.place in
      record {
        rounds = before.rounds ++ round ∷ [];
        count = omega (arith, length-append before.rounds (round ∷ []), before.count);
        moments = through_join Tells before.rounds (round ∷ []) c all.0 c' before.moments (c', next.told, refl);
        each = all_join IsOne before.rounds (round ∷ []) before.each (one.2, tt);
        trace = subst Calls calls (subst Clock clocks both);
      }

pub serving_is_a_trace : {S H L T : Type 0} (accepts : S → L → Option T → S → Type 0) (watches : S → T → Watched → Bool → S → Type 0) (connects : S → SocketAddr → Option T → S → Type 0)
    (reads : S → T → Answer → List ℕ → S → T → Type 0) (writes : S → T → List ℕ → Answer → S → T → Type 0) (finds : S → Ready → S → Type 0)
    (handles : H → Event → List Output → H → Type 0) (hears : H → PeerEvent → Given → H → Type 0) (settles : H → H → Type 0) (C : Type 0) (tells : C → ℕ → C → Type 0)
    → ServingIsATrace accepts watches connects reads writes finds handles hears settles C tells
serving_is_a_trace accepts watches connects reads writes finds handles hears settles C tells setting turns c c' old new served =
    let d = served.0 in
    let start = served.2 in
    let one = start_made accepts watches connects reads writes finds handles hears settles setting start.at old served.1 start.made in
    let first : Round _ = record { at = start.at; calls = one.0 } in
    let rest = turned accepts watches connects reads writes finds handles hears settles setting tells first turns d old.place served.1 c' new one.1 served.3 in
    record {
      first = first;
      rounds = rest.rounds;
      count = rest.count;
      moments = (d, start.told, rest.moments);
      start = one.2;
      unwritten = one.3;
      each = rest.each;
      trace = rest.trace;
    }
