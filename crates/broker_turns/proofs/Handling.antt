-- What a turn is to its handler. What holds of a handler where nothing is told, at each event, and of one after another, holds until it
-- settles, and so does what holds of each time it settles then.
use Rattle.std.proofs.Common.{◌≡◌, ℕ, zero, suc, List, [], ◌∷◌, ◌++◌, ◌<◌, ◌≤◌, ◌-◌, Bool, true, false, Option, Some, None, Vec, length, refl, subst, ap, ◌∙◌, arith}
use Rattle.std.specs.declared.alloc.Global.{Global}
use Rattle.std.specs.declared.net.socket_addr.SocketAddr.{SocketAddr}
use Rattle.slab.specs.Slab.{Slab, get}
use Rattle.broker_sockets.specs.declared.bridge.Given.{Given}
use Rattle.broker_sockets.specs.declared.bridge.PeerEvent.{PeerEvent}
use Rattle.broker_sockets.specs.declared.bridge.PeerEventKind.{PeerEventKind}
use Rattle.broker_sockets.specs.declared.events.Event.{Event}
use Rattle.broker_sockets.specs.declared.events.EventKind.{EventKind}
use Rattle.broker_sockets.specs.declared.events.EventKind.TheVariants.{Started, Opened, Piece, Room, Closed, Tick}
use Rattle.broker_sockets.specs.declared.events.Output.{Output}
use Rattle.broker_sockets.specs.declared.network.Answer.{Answer}
use Rattle.broker_sockets.specs.declared.network.Answer.TheVariants.{Later, Bytes, Gone}
use Rattle.broker_sockets.specs.declared.ready.Ready.{Ready}
use Rattle.broker_sockets.specs.declared.ready.Watched.{Watched}
use Rattle.broker_turns.specs.declared.clients.Client.{Client}
use Rattle.broker_turns.specs.declared.lines.Line.{Line}
use Rattle.broker_turns.specs.declared.setting.Setting.{Setting}
use Rattle.broker_turns.specs.declared.turn.Fate.{Fate}
use Rattle.broker_turns.specs.declared.turn.Fate.TheVariants.{Stays, Done, Lost}
use Rattle.broker_turns.specs.Bridging.{HearsAll, IsBegunBy, IsDialledAt, IsDialledIf, IsDialledOnce, IsHearing, IsHeardFrom, IsLinkReadIn, IsPeerRead, IsPeerReadIn, IsShipped, IsShippedIf, IsSought, IsSupplied, Near, Place, Reach, Search, search}
use Rattle.broker_turns.specs.Clients.{fresh, room_of, takes_more, told_all, told_at}
use Rattle.broker_turns.specs.Connections.{IsAccepted, IsHeard, IsJoined, IsLost, IsNobodyAccepted, IsParted, IsRead, IsReadIf, IsReadIn, IsRoomIf, IsRoomIn, IsRoomMade, IsRoomStep, IsWelcomed, IsWrote, IsWroteIn, World, event}
use Rattle.broker_turns.specs.Lines.{link_of}
use Rattle.broker_turns.specs.Steps.{AreLetInIf, Each, EachBelow, EachTells, IsEnough}
use Rattle.broker_turns.specs.Handling.{AreSettled, AreTold, Of_client, Of_peer, Told, TurnSettles}
use Rattle.broker_turns.specs.Rooms.{IsFollowedIf, IsNextRoom, IsRoomFirst, RoomFollowsOpened, RoomsComeFirst, bytes_for, stays_open}
use Rattle.broker_turns.specs.Turns.{IsDecided, IsGivenOut, IsTakenIn}
use Rattle.broker_turns.proofs.Rooming.{fresh-room, fresh-takes, takes-low}

-- ---- one step after another

module _ {H : Type 0} (Q : H → H → Type 0) (stays : (h h' : H) → h' ≡ h → Q h h') (over : (a b c : H) → Q a b → Q b c → Q a c) {W : Type 0} (of : W → H) where
  pub each : (step : ℕ → W → W → Type 0) → ((key : ℕ) (w w' : W) → step key w w' → Q (of w) (of w')) → (keys : List ℕ) (w w' : W) → Each step keys w w' → Q (of w) (of w')
  each step one [] w w' same = stays (of w) (of w') (ap of same)
  each step one (key ∷ keys) w w' all = over (of w) (of all.0) (of w') (one key w all.0 all.1) (each step one keys all.0 w' all.2)

  pub each_below : (step : ℕ → W → W → Type 0) → ((key : ℕ) (w w' : W) → step key w w' → Q (of w) (of w')) → (n : ℕ) (w w' : W) → EachBelow step n w w' → Q (of w) (of w')
  each_below step one zero w w' same = stays (of w) (of w') (ap of same)
  each_below step one (suc n) w w' all = over (of w) (of all.0) (of w') (each_below step one n w all.0 all.1) (one n all.0 w' all.2)

  pub each_tells : (step : ℕ → W → Bool → W → Type 0) → ((key : ℕ) (w : W) (more : Bool) (w' : W) → step key w more w' → Q (of w) (of w'))
      → (keys : List ℕ) (w : W) (found : List ℕ) (w' : W) → EachTells step keys w found w' → Q (of w) (of w')
  each_tells step one [] w found w' same = stays (of w) (of w') (ap of same.0)
  each_tells step one (key ∷ keys) w found w' all =
      over (of w) (of all.0) (of w') (one key w all.1 all.0 all.3) (each_tells step one keys all.0 all.2 w' all.4)

  module _ (comes nobody : W → W → Type 0) (one : (w w' : W) → comes w w' → Q (of w) (of w')) (none : (w w' : W) → nobody w w' → Q (of w) (of w')) (most : ℕ) where
    enough : (more : Bool) (count : ℕ) (w w' : W) → IsEnough comes nobody most more count w w' → Q (of w) (of w')
    enough true count w w' is = stays (of w) (of w') (ap of is.1)
    enough false count w w' is = none w w' is.1

    pub let_in : (may : Bool) (w : W) (more : Bool) (w' : W) → AreLetInIf comes nobody most may w more w' → Q (of w) (of w')
    let_in true w more w' all =
        over (of w) (of all.between) (of w') (each_below (λ _. comes) (λ _ v v' is. one v v' is) all.count w all.between all.each)
        (enough more all.count all.between w' all.enough)
    let_in false w more w' all = stays (of w) (of w') (ap of all.1)

-- ---- events

-- an event of which the room of no connection comes next, and no room
abbrev is_other : EventKind → Bool
is_other Started = true
is_other (Opened connection) = false
is_other (Piece connection bytes) = true
is_other (Room connection bytes) = false
is_other (Closed connection) = true
is_other Tick = true

module _ {H : Type 0} (handles : H → Event → List Output → H → Type 0) (hears : H → PeerEvent → Given → H → Type 0)
    (Q : H → H → Type 0) (stays : (h h' : H) → h' ≡ h → Q h h') (over : (a b c : H) → Q a b → Q b c → Q a c)
    (handled : (h : H) (e : Event) (outputs : List Output) (h' : H) → is_other e.kind ≡ true → handles h e outputs h' → Q h h')
    (heard : (h : H) (it : PeerEvent) (given : Given) (h' : H) → hears h it given h' → Q h h') where
  module _ {T : Type 0} (at : ℕ)
      (joined : (stream : T) (key : ℕ) (h : H) (c : Slab (Client T)) (h' : H) (c' : Slab (Client T)) → IsJoined handles at stream key h c h' c' → Q h h')
      (made : (key : ℕ) (h : H) (c : Slab (Client T)) (h' : H) (c' : Slab (Client T)) → IsRoomMade handles at key h c h' c' → Q h h') where
    pub welcomed : (watchable : Bool) (stream : T) (key : ℕ) (h : H) (c : Slab (Client T)) (h' : H) (c' : Slab (Client T)) → IsWelcomed handles at watchable stream key h c h' c' → Q h h'
    welcomed true stream key h c h' c' is = joined stream key h c h' c' is
    welcomed false stream key h c h' c' is = stays h h' is.0

    passed : (key : ℕ) (answer : Answer) (bytes : List ℕ) (client : Client T) (h : H) (c : Slab (Client T)) (more : Bool) (h' : H) (c' : Slab (Client T))
        → IsHeard handles at key answer bytes client h c more h' c' → Q h h'
    passed key Later bytes client h c more h' c' is = stays h h' is.0
    passed key (Bytes n) bytes client h c more h' c' is = handled h _ is.0.handled.outputs h' refl is.0.handled.answered
    passed key Gone bytes client h c more h' c' is = handled h _ is.0.handled.outputs h' refl is.0.handled.answered

    module _ {S : Type 0} (reads : S → T → Answer → List ℕ → S → T → Type 0) where
      read_if : (key : ℕ) (closing : Bool) (client : Client T) (w : World S H T) (more : Bool) (w' : World S H T) → IsReadIf reads handles at key closing client w more w' → Q w.handler w'.handler
      read_if key true client w more w' is = stays w.handler w'.handler (ap (λ (v : World S H T). v.handler) is.0)
      read_if key false client w more w' is = passed key is.answer is.bytes (record client { stream = is.stream }) w.handler w.clients more w'.handler w'.clients is.heard

      pub read_in : (key : ℕ) (client : Option (Client T)) (w : World S H T) (more : Bool) (w' : World S H T) → IsReadIn reads handles at key client w more w' → Q w.handler w'.handler
      read_in key None w more w' is = stays w.handler w'.handler (ap (λ (v : World S H T). v.handler) is.0)
      read_in key (Some client) w more w' is = read_if key client.closing client w more w' is

      -- ---- links

      hearing : (it : PeerEvent) (n n' : Near H T) → IsHearing hears it n n' → Q n.handler n'.handler
      hearing it n n' is = heard n.handler it is.given n'.handler is.answered

      pub hears_all : (frames : List (Vec ℕ Global)) (n n' : Near H T) → HearsAll hears at frames n n' → Q n.handler n'.handler
      hears_all [] n n' same = stays n.handler n'.handler (ap (λ (m : Near H T). m.handler) same)
      hears_all (frame ∷ frames) n n' all = over n.handler all.0.handler n'.handler (hearing _ (record n { dialled = all.1.links }) all.0 all.1.heard) (hears_all frames all.0 n' all.2)

      pub link_read : (link : Option (Line T)) (key : ℕ) (p : Place S H T) (more : Bool) (p' : Place S H T) → IsLinkReadIn reads hears at link key p more p' → Q p.reach.near.handler p'.reach.near.handler
      link_read None key p more p' is = stays p.reach.near.handler p'.reach.near.handler (ap (λ (v : Place S H T). v.reach.near.handler) is.0)
      link_read (Some line) key p more p' is = hears_all is.frames p.reach.near p'.reach.near is.heard

      pub peer_read : (link : Option (Line T)) (peer : ℕ) (r : Reach S H T) (more : Bool) (r' : Reach S H T) → IsPeerReadIn reads hears at link peer r more r' → Q r.near.handler r'.near.handler
      peer_read None peer r more r' is = stays r.near.handler r'.near.handler (ap (λ (v : Reach S H T). v.near.handler) is.0)
      peer_read (Some line) peer r more r' is = hears_all is.frames (record r.near { dialled = is.links }) r'.near is.heard

      module _ {L : Type 0} (accepts : S → L → Option T → S → Type 0) (watches : S → T → Watched → Bool → S → Type 0) (setting : Setting L) where
        pub taken_in : (ready : Ready) (p : Place S H T) (more : Ready) (p' : Place S H T) → IsTakenIn accepts watches reads handles hears setting at ready p more p'
            → Q p.reach.near.handler p'.reach.near.handler
        taken_in ready p more p' t =
            let of : Place S H T → H = λ v. v.reach.near.handler in
            let front : World S H T → H = λ v. v.handler in
            let came = let_in Q stays over front (IsAccepted accepts watches handles at setting.listener) (IsNobodyAccepted accepts watches handles at setting.listener)
            (λ w w' is. welcomed is.watchable is.stream is.key w.handler w.clients w'.handler w'.clients is.welcomed)
            (λ w w' is. stays w.handler w'.handler is.handler) 64 ready.listeners _ t.came _ t.accepted.does.does in
            let met = stays (of t.joined) (of t.met) (ap (λ (n : Near H T). n.handler) t.links_accepted.near) in
            let heard_of = each_tells Q stays over front (λ key w more' w'. IsRead reads handles at key w more' w') (λ key w more' w' is. read_in key _ w more' w' is.by_client)
            ready.clients.items _ more.clients.items _ t.read.does.does in
            let listened = each_tells Q stays over of (λ key w more' w'. IsHeardFrom reads hears at key w more' w') (λ key w more' w' is. link_read _ key w more' w' is.by_link)
            ready.links.items t.heard more.links.items t.listened t.links_read in
            let reach : Reach S H T → H = λ v. v.near.handler in
            let peers = each_tells Q stays over reach (λ key w more' w'. IsPeerRead reads hears at key w more' w') (λ key w more' w' is. peer_read _ key w more' w' is.by_link)
            ready.peers.items _ more.peers.items _ t.peers_read.does in
            over (of p) (of t.joined) (of p') came (over (of t.joined) (of t.met) (of p') met
            (over (of t.met) (of t.heard) (of p') heard_of (over (of t.heard) (of t.listened) (of p') listened peers)))

    -- ---- dialling, and what is due

    module _ {S : Type 0} (connects : S → SocketAddr → Option T → S → Type 0) (watches : S → T → Watched → Bool → S → Type 0) where
      begun : (stream : Option T) (peer : ℕ) (n n' : Near H T) → IsBegunBy connects watches hears at stream peer n n' → Q n.handler n'.handler
      begun None peer n n' same = stays n.handler n'.handler (ap (λ (m : Near H T). m.handler) same)
      begun (Some stream) peer n n' is = heard n.handler _ is.2.given n'.handler is.2.answered

      sought_same : (q q' : Search S H T) → q' ≡ q → Q q.reach.near.handler q'.reach.near.handler
      sought_same q q' same = stays q.reach.near.handler q'.reach.near.handler (ap (λ (v : Search S H T). v.reach.near.handler) same)

      dialled_once : (rested : Bool) (address : SocketAddr) (peer : ℕ) (q q' : Search S H T) → IsDialledOnce connects watches hears at rested address peer q q'
          → Q q.reach.near.handler q'.reach.near.handler
      dialled_once true address peer q q' is = begun is.stream peer q.reach.near q'.reach.near is.begun
      dialled_once false address peer q q' same = sought_same q q' same

      dialled_if : (link : Option (Line T)) (address : SocketAddr) (peer : ℕ) (q q' : Search S H T) → IsDialledIf connects watches hears at link address peer q q'
          → Q q.reach.near.handler q'.reach.near.handler
      dialled_if None address peer q q' is = dialled_once _ address peer q q' is
      dialled_if (Some line) address peer q q' same = sought_same q q' same

      pub dialled_at : (address : Option SocketAddr) (peer : ℕ) (q q' : Search S H T) → IsDialledAt connects watches hears at address peer q q'
          → Q q.reach.near.handler q'.reach.near.handler
      dialled_at None peer q q' same = sought_same q q' same
      dialled_at (Some address) peer q q' is = dialled_if _ address peer q q' is

      shipped_if : (kind : Option PeerEventKind) (peer : ℕ) (n n' : Near H T) → IsShippedIf hears at kind peer n n' → Q n.handler n'.handler
      shipped_if (Some kind) peer n n' is = over n.handler is.0.handler n'.handler (heard n.handler _ is.1.given is.0.handler is.1.answered) (stays is.0.handler n'.handler is.2.handler)
      shipped_if None peer n n' same = stays n.handler n'.handler (ap (λ (m : Near H T). m.handler) same)

      pub shipped : (link : Option (Line T)) (peer : ℕ) (n n' : Near H T) → IsShipped hears at link peer n n' → Q n.handler n'.handler
      shipped None peer n n' same = stays n.handler n'.handler (ap (λ (m : Near H T). m.handler) same)
      shipped (Some line) peer n n' is = shipped_if _ peer n n' is

      module _ {L : Type 0} (settles : H → H → Type 0) (setting : Setting L) where
        -- until the handler settles
        pub decided : (q q' : Search S H T) → IsDecided watches connects handles hears settles setting at q q'
            → (m : H) × Q q.reach.near.handler m × settles m q'.reach.near.handler
        decided q q' d =
            let of : Search S H T → H = λ v. v.reach.near.handler in
            let reach : Reach S H T → H = λ v. v.near.handler in
            let near : Near H T → H = λ v. v.handler in
            let sought = each_below Q stays over of (IsSought connects watches hears at setting.peers.items) (λ peer v v' is. dialled_at _ peer v v' is.by_address) _ q d.reached d.dialled in
            let ticked = handled (of d.reached) _ d.ticked.does.handled.outputs (reach d.told) refl d.ticked.does.handled.answered in
            let supplied = each_below Q stays over near (IsSupplied hears at) (λ peer v v' is. shipped (link_of v.dialled peer) peer v v' is.by_link) _ d.told.near d.supplied.near d.shipped.does in
            let rooms = each Q stays over (λ (n : H × Slab (Client T)). n.0) (IsRoomStep handles at) (λ key n n' is. made key n.0 n.1 n'.0 n'.1 is) d.rooms_made.does.takers _ _ d.rooms_made.does.each in (
              reach d.roomed,
              over (of q) (of d.reached) (reach d.roomed) sought
                  (over (of d.reached) (reach d.told) (reach d.roomed) ticked (over (reach d.told) (reach d.supplied) (reach d.roomed) supplied rooms)),
              d.settled.does.does,
            )

-- ---- after it has settled

module _ {H T : Type 0} (handles : H → Event → List Output → H → Type 0) (settles : H → H → Type 0)
    (P : H → H → Type 0) (stays : (h h' : H) → h' ≡ h → P h h') (over : (a b c : H) → P a b → P b c → P a c)
    (closed : (h : H) (e : Event) (outputs : List Output) (m h' : H) → handles h e outputs m → settles m h' → P h h') (at : ℕ) where
  lost : (closing : Bool) (key : ℕ) (h : H) (c : Slab (Client T)) (h' : H) (c' : Slab (Client T)) → IsLost handles settles at closing key h c h' c' → P h h'
  lost true key h c h' c' is = stays h h' is.0
  lost false key h c h' c' is = closed h _ is.1.handled.outputs is.0 h' is.1.handled.answered is.2

  parted : (key : ℕ) (fate : Fate) (left : Client T) (h : H) (c : Slab (Client T)) (h' : H) (c' : Slab (Client T)) → IsParted handles settles at key fate left h c h' c' → P h h'
  parted key Stays left h c h' c' is = stays h h' is.0
  parted key Done left h c h' c' is = stays h h' is.0
  parted key Lost left h c h' c' is = lost left.closing key h c h' c' is

  module _ {S : Type 0} (writes : S → T → List ℕ → Answer → S → T → Type 0) where
    wrote_in : (key : ℕ) (client : Option (Client T)) (w w' : World S H T) → IsWroteIn writes handles settles at key client w w' → P w.handler w'.handler
    wrote_in key None w w' same = stays w.handler w'.handler (ap (λ (v : World S H T). v.handler) same)
    wrote_in key (Some client) w w' is = parted key is.fate is.left w.handler w.clients w'.handler w'.clients is.parted

    pub given_out : {L : Type 0} (setting : Setting L) (r r' : Reach S H T) → IsGivenOut writes handles settles setting at r r' → P r.near.handler r'.near.handler
    given_out setting r r' g =
        let front : World S H T → H = λ v. v.handler in
        let reach : Reach S H T → H = λ v. v.near.handler in
        over (reach r) (reach g.served) (reach r')
        (each P stays over front (λ key w w'. IsWrote writes handles settles at key w w') (λ key w w' is. wrote_in key _ w w' is.by_client) g.due _ _ g.written.does)
        (stays (reach g.served) (reach r') g.links_written.handler)

-- ---- a turn

-- what is told next stays so where more is told later
next_join : (at key bytes : ℕ) (xs ys : List Told) → IsNextRoom at key bytes xs → IsNextRoom at key bytes (xs ++ ys)
next_join at key bytes [] ys none = absurd none
next_join at key bytes (Of_client e outputs ∷ xs) ys is = is
next_join at key bytes (Of_peer e given ∷ xs) ys none = absurd none

followed_join : (b : Bool) (at key bytes : ℕ) (xs ys : List Told) → IsFollowedIf b at key bytes xs → IsFollowedIf b at key bytes (xs ++ ys)
followed_join true at key bytes xs ys is = next_join at key bytes xs ys is
followed_join false at key bytes xs ys is = tt

first_join : (at : ℕ) (kind : EventKind) (outputs : List Output) (xs ys : List Told) → IsRoomFirst at kind outputs xs → IsRoomFirst at kind outputs (xs ++ ys)
first_join at Started outputs xs ys is = tt
first_join at (Opened c) outputs xs ys is = followed_join (stays_open c outputs) at c (1048576 - bytes_for c outputs) xs ys is
first_join at (Piece c bytes) outputs xs ys is = tt
first_join at (Room c bytes) outputs xs ys is = is
first_join at (Closed c) outputs xs ys is = tt
first_join at Tick outputs xs ys is = tt

rooms_join : (xs ys : List Told) → RoomsComeFirst xs → RoomsComeFirst ys → RoomsComeFirst (xs ++ ys)
rooms_join [] ys first more = more
rooms_join (Of_client e outputs ∷ xs) ys first more = (first_join e.at e.kind outputs xs ys first.0, rooms_join xs ys first.1 more)
rooms_join (Of_peer e given ∷ xs) ys first more = rooms_join xs ys first more

other_first : (at : ℕ) (kind : EventKind) (outputs : List Output) (more : List Told) → is_other kind ≡ true → IsRoomFirst at kind outputs more
other_first at Started outputs more other = tt
other_first at (Opened c) outputs more other = absurd cc
other_first at (Piece c bytes) outputs more other = tt
other_first at (Room c bytes) outputs more other = absurd cc
other_first at (Closed c) outputs more other = tt
other_first at Tick outputs more other = tt

module _ {H : Type 0} (handles : H → Event → List Output → H → Type 0) (hears : H → PeerEvent → Given → H → Type 0) (settles : H → H → Type 0) where
  abbrev Tells : H → H → Type 0
  Tells h h' = (told : List Told) × AreTold handles hears told h h' × RoomsComeFirst told

  told_join : (xs ys : List Told) (a b c : H) → AreTold handles hears xs a b → AreTold handles hears ys b c → AreTold handles hears (xs ++ ys) a c
  told_join [] ys a b c same more =
      let From : H → Type 0 = λ h. AreTold handles hears ys h c in
      subst From same more
  told_join (x ∷ xs) ys a b c first more = (first.0, first.1, told_join xs ys first.0 b c first.2 more)

  tells_none : (h h' : H) → h' ≡ h → Tells h h'
  tells_none h h' same = ([], same, tt)

  tells_over : (a b c : H) → Tells a b → Tells b c → Tells a c
  tells_over a b c p q = (p.0 ++ q.0, told_join p.0 q.0 a b c p.1 q.1, rooms_join p.0 q.0 p.2 q.2)

  tells_client : (h : H) (e : Event) (outputs : List Output) (h' : H) → is_other e.kind ≡ true → handles h e outputs h' → Tells h h'
  tells_client h e outputs h' other is = (Of_client e outputs ∷ [], (h', is, refl), (other_first e.at e.kind outputs [] other, tt))

  tells_peer : (h : H) (e : PeerEvent) (given : Given) (h' : H) → hears h e given h' → Tells h h'
  tells_peer h e given h' is = (Of_peer e given ∷ [], (h', is, refl), tt)

  -- the room of a connection, where it takes more, comes next
  abbrev TellsNext : ℕ → Bool → ℕ → ℕ → H → H → Type 0
  TellsNext at b key bytes h h' = (told : List Told) × AreTold handles hears told h h' × RoomsComeFirst told × IsFollowedIf b at key bytes told

  module _ {T : Type 0} (at : ℕ) where
    next_if : (b : Bool) (key : ℕ) (client : Client T) (h : H) (c : Slab (Client T)) (h' : H) (c' : Slab (Client T)) → takes_more client ≡ b → IsRoomIf handles at b key client h c h' c' → TellsNext at b key (room_of client) h h'
    next_if true key client h c h' c' takes is =
        let low : length client.unsent < 262144 = takes-low client takes in
        let room : (786432 < room_of client) × (room_of client ≤ 1048576) = (omega (arith, low), omega (arith, low)) in
        (Of_client (event at (Room key (room_of client))) is.handled.outputs ∷ [], (h', is.handled.answered, refl), (room, tt), refl)
    next_if false key client h c h' c' takes same = ([], same.0, tt, tt)

    made_in : (o : Option (Client T)) (key : ℕ) (h : H) (c : Slab (Client T)) (h' : H) (c' : Slab (Client T)) → IsRoomIn handles at o key h c h' c' → Tells h h'
    made_in None key h c h' c' same = tells_none h h' same.0
    made_in (Some client) key h c h' c' is =
        let next = next_if (takes_more client) key client h c h' c' refl is in
        (next.0, next.1, next.2)

    tells_made : (key : ℕ) (h : H) (c : Slab (Client T)) (h' : H) (c' : Slab (Client T)) → IsRoomMade handles at key h c h' c' → Tells h h'
    tells_made key h c h' c' made = made_in (get c key) key h c h' c' made.by_client

    tells_joined : (stream : T) (key : ℕ) (h : H) (c : Slab (Client T)) (h' : H) (c' : Slab (Client T)) → IsJoined handles at stream key h c h' c' → Tells h h'
    tells_joined stream key h c h' c' j =
        let outputs = j.handled.outputs in
        let n = told_all key outputs (fresh stream) in
        let there : get j.opened key ≡ Some n = j.handled.released key ∙ ap (λ (o : Option (Client T)). told_at key outputs o) j.added.changed in
        let In : Option (Client T) → Type 0 = λ o. IsRoomIn handles at o key j.told j.opened h' c' in
        let If : Bool → Type 0 = λ b. IsRoomIf handles at b key n j.told j.opened h' c' in
        let takes = fresh-takes key outputs stream in
        let next = next_if (stays_open key outputs) key n j.told j.opened h' c' takes (subst If takes (subst In there j.room.by_client)) in
        let Follows : ℕ → Type 0 = λ bytes. IsFollowedIf (stays_open key outputs) at key bytes next.0 in
        let follows = subst Follows (fresh-room key outputs stream) next.3 in
        (Of_client (event at (Opened key)) outputs ∷ next.0, (j.told, j.handled.answered, next.1), (follows, next.2))

  abbrev Loses : H → H → Type 0
  Loses h h' = (lost : List (Event × List Output)) × AreSettled handles settles lost h h'

  settled_join : (xs ys : List (Event × List Output)) (a b c : H) → AreSettled handles settles xs a b → AreSettled handles settles ys b c → AreSettled handles settles (xs ++ ys) a c
  settled_join [] ys a b c same more =
      let From : H → Type 0 = λ h. AreSettled handles settles ys h c in
      subst From same more
  settled_join (x ∷ xs) ys a b c first more = (first.0, first.1, first.2, first.3, settled_join xs ys first.1 b c first.4 more)

  loses_none : (h h' : H) → h' ≡ h → Loses h h'
  loses_none h h' same = ([], same)

  loses_over : (a b c : H) → Loses a b → Loses b c → Loses a c
  loses_over a b c p q = (p.0 ++ q.0, settled_join p.0 q.0 a b c p.1 q.1)

  loses_one : (h : H) (e : Event) (outputs : List Output) (m h' : H) → handles h e outputs m → settles m h' → Loses h h'
  loses_one h e outputs m h' is settled = ((e, outputs) ∷ [], (m, h', is, settled, refl))

  module _ {S L T : Type 0} (accepts : S → L → Option T → S → Type 0) (watches : S → T → Watched → Bool → S → Type 0) (connects : S → SocketAddr → Option T → S → Type 0)
      (reads : S → T → Answer → List ℕ → S → T → Type 0) (writes : S → T → List ℕ → Answer → S → T → Type 0) (finds : S → Ready → S → Type 0) where
    pub room_follows_opened : RoomFollowsOpened accepts watches connects reads writes finds handles hears settles
    room_follows_opened setting at old new turn =
        let h = old.place.reach.near.handler in
        let mid = turn.taken.reach.near.handler in
        let settled = turn.settled.near.handler in
        let given = turn.given.near.handler in
        let h' = new.place.reach.near.handler in
        let first = taken_in handles hears Tells tells_none tells_over tells_client tells_peer at (tells_joined at) (tells_made at) reads accepts watches setting old.ready old.place turn.more turn.taken turn.takes_in in
        let next = decided handles hears Tells tells_none tells_over tells_client tells_peer at (tells_joined at) (tells_made at) connects watches settles setting
        (search turn.taken.reach.sockets turn.taken.reach.near old.sought) (search turn.settled.sockets turn.settled.near new.sought) turn.decides in
        let all = tells_over h mid next.0 first next.1 in
        let out = given_out handles settles Loses loses_none loses_over loses_one at writes setting turn.settled turn.given turn.gives_out in
        let on = loses_over settled given h' out (loses_none given h' (ap (λ (n : Near H T). n.handler) turn.near)) in
        (record { told = all.0; last = next.0; all = all.1; settled = settled; first = next.2; lost = on.0; then = on.1 }, all.2)

    pub turn_settles : TurnSettles accepts watches connects reads writes finds handles hears settles
    turn_settles setting at old new turn = (room_follows_opened setting at old new turn).0
