-- What was told and asked before a turn stops, and what is told then.
use Rattle.std.proofs.Common.{◌≡◌, ◌<◌, ◌+◌, ◌++◌, ◌∙◌, append_assoc, drop, length, sym, take, ℕ, zero, suc, List, [], ◌∷◌, Bool, true, false, Option, Some, None, Result, Ok, Err, Vec, refl, subst, ap, inl, inr, slice_index_or}
use Rattle.std.proofs.lemmas.List.{take-append-drop, take_more}
use Rattle.std.specs.Result.{OnErr, IfErr, IsErrAnd}
use Rattle.std.specs.declared.alloc.Global.{Global}
use Rattle.std.specs.declared.net.socket_addr.SocketAddr.{SocketAddr}
use Rattle.slab.specs.Slab.{Slab, get}
use Rattle.broker_sockets.specs.declared.bridge.Given.{Given}
use Rattle.broker_sockets.specs.declared.bridge.PeerEvent.{PeerEvent}
use Rattle.broker_sockets.specs.declared.bridge.PeerEventKind.{PeerEventKind}
use Rattle.broker_sockets.specs.declared.events.Event.{Event}
use Rattle.broker_sockets.specs.declared.events.Output.{Output}
use Rattle.broker_sockets.specs.declared.network.Answer.{Answer}
use Rattle.broker_sockets.specs.declared.ready.Watched.{Watched}
use Rattle.broker_sockets.specs.declared.ready.Watched.TheVariants as watched
use Rattle.broker_turns.specs.declared.clients.Client.{Client}
use Rattle.broker_turns.specs.declared.lines.Line.{Line}
use Rattle.broker_turns.specs.declared.turn.TurnFault.{TurnFault}
use Rattle.broker_turns.specs.declared.turn.TurnFault.TheVariants.{NoMemory}
use Rattle.broker_turns.specs.Bridging.{HearsAll, IsBegun, IsDialledAt, IsDialledIf, IsDialledOnce, IsHeardFrom, IsLinkAccepted, IsLinkReadIn, IsNoLinkAccepted, IsPeerRead, IsPeerReadIn, IsShipped, IsShippedIf, IsSought, IsSupplied, IsWatchedIf, Near, Place, Reach, Search}
use Rattle.broker_turns.specs.Broken.{Again, IsAskedOnce, IsBroken, IsBrokenOff, IsReadOnce, Times}
use Rattle.broker_turns.specs.Connections.{IsAccepted, IsJoined, IsNobodyAccepted, IsRead, IsReadIf, IsReadIn, IsRoomIf, IsRoomIn, IsRoomMade, IsRoomStep, World}
use Rattle.broker_turns.specs.Handling.{AreTold, Told}
use Rattle.broker_turns.specs.Handling.Told.{Of_client, Of_peer}
use Rattle.broker_turns.specs.Lines.{link_of}
use Rattle.broker_turns.specs.Steps.{AreLetInIf, Each, EachBelow, EachTells}
use Rattle.broker_turns.proofs.Handling as handling
use Rattle.broker_turns.proofs.Serving.{failed}

-- ---- the sockets

module _ {S : Type 0} (asks : S → S → Type 0) where
  pub asked_none : (s s' : S) → s' ≡ s → Again asks s s'
  asked_none s s' same = (zero, same)

  pub asked_one : (s s' : S) → asks s s' → Again asks s s'
  asked_one s s' one = (suc zero, (s', one, refl))

  times_over : (n : ℕ) (a b c : S) → Times asks n a b → Again asks b c → Again asks a c
  times_over zero a b c same more =
      let From : S → Type 0 = λ s. Again asks s c in
      subst From same more
  times_over (suc n) a b c first more =
      let rest = times_over n first.0 b c first.2 more in
      (suc rest.0, (first.0, first.1, rest.1))

  pub asked_over : (a b c : S) → Again asks a b → Again asks b c → Again asks a c
  asked_over a b c first more = times_over first.0 a b c first.1 more

times_weaker : {S : Type 0} (asks asks' : S → S → Type 0) → ((s s' : S) → asks s s' → asks' s s') → (n : ℕ) (s s' : S) → Times asks n s s' → Times asks' n s s'
times_weaker asks asks' is zero s s' same = same
times_weaker asks asks' is (suc n) s s' first = (first.0, is s first.0 first.1, times_weaker asks asks' is n first.0 s' first.2)

pub asked_weaker : {S : Type 0} (asks asks' : S → S → Type 0) → ((s s' : S) → asks s s' → asks' s s') → (s s' : S) → Again asks s s' → Again asks' s s'
asked_weaker asks asks' is s s' all = (all.0, times_weaker asks asks' is all.0 s s' all.1)

-- ---- the handler

module _ {H : Type 0} (handles : H → Event → List Output → H → Type 0) (hears : H → PeerEvent → Given → H → Type 0) where
  abbrev pub Tells : H → H → Type 0
  Tells h h' = (told : List Told) × AreTold handles hears told h h'

  pub tells_none : (h h' : H) → h' ≡ h → Tells h h'
  tells_none h h' same = ([], same)

  told_over : (xs : List Told) (a b c : H) → AreTold handles hears xs a b → Tells b c → Tells a c
  told_over [] a b c same more =
      let From : H → Type 0 = λ h. Tells h c in
      subst From same more
  told_over (x ∷ xs) a b c first more =
      let rest = told_over xs first.0 b c first.2 more in
      (x ∷ rest.0, (first.0, first.1, rest.1))

  pub tells_over : (a b c : H) → Tells a b → Tells b c → Tells a c
  tells_over a b c first more = told_over first.0 a b c first.1 more

  pub tells_client : (h : H) (e : Event) (outputs : List Output) (h' : H) → handles h e outputs h' → Tells h h'
  tells_client h e outputs h' is = (Of_client e outputs ∷ [], (h', is, refl))

  pub tells_peer : (h : H) (e : PeerEvent) (given : Given) (h' : H) → hears h e given h' → Tells h h'
  tells_peer h e given h' is = (Of_peer e given ∷ [], (h', is, refl))

  module _ {T : Type 0} (at : ℕ) where
    room_if : (b : Bool) (key : ℕ) (client : Client T) (h : H) (c : Slab (Client T)) (h' : H) (c' : Slab (Client T)) → IsRoomIf handles at b key client h c h' c' → Tells h h'
    room_if true key client h c h' c' is = tells_client h _ is.handled.outputs h' is.handled.answered
    room_if false key client h c h' c' same = tells_none h h' same.0

    room_in : (o : Option (Client T)) (key : ℕ) (h : H) (c : Slab (Client T)) (h' : H) (c' : Slab (Client T)) → IsRoomIn handles at o key h c h' c' → Tells h h'
    room_in None key h c h' c' same = tells_none h h' same.0
    room_in (Some client) key h c h' c' is = room_if _ key client h c h' c' is

    pub room_tells : (key : ℕ) (h : H) (c : Slab (Client T)) (h' : H) (c' : Slab (Client T)) → IsRoomMade handles at key h c h' c' → Tells h h'
    room_tells key h c h' c' made = room_in (get c key) key h c h' c' made.by_client

    pub rooms_tell : (keys : List ℕ) (w w' : H × Slab (Client T)) → Each (IsRoomStep handles at) keys w w' → Tells w.0 w'.0
    rooms_tell keys w w' all =
        handling.each Tells tells_none tells_over (λ (n : H × Slab (Client T)). n.0) (IsRoomStep handles at) (λ key n n' is. room_tells key n.0 n.1 n'.0 n'.1 is) keys w w' all

    pub joined_tells : (stream : T) (key : ℕ) (h : H) (c : Slab (Client T)) (h' : H) (c' : Slab (Client T)) → IsJoined handles at stream key h c h' c' → Tells h h'
    joined_tells stream key h c h' c' j =
        tells_over h j.told h' (tells_client h _ j.handled.outputs j.told j.handled.answered) (room_tells key j.told j.opened h' c' j.room)

module _ {S H : Type 0} (handles : H → Event → List Output → H → Type 0) (hears : H → PeerEvent → Given → H → Type 0) (asks : S → S → Type 0) where
  -- what was told and asked
  abbrev pub Goes : S × H → S × H → Type 0
  Goes v v' = Tells handles hears v.1 v'.1 × Again asks v.0 v'.0

  pub goes_none : (v v' : S × H) → v' ≡ v → Goes v v'
  goes_none v v' same = (tells_none handles hears v.1 v'.1 (ap (λ (x : S × H). x.1) same), asked_none asks v.0 v'.0 (ap (λ (x : S × H). x.0) same))

  pub goes_over : (a b c : S × H) → Goes a b → Goes b c → Goes a c
  goes_over a b c first more = (tells_over handles hears a.1 b.1 c.1 first.0 more.0, asked_over asks a.0 b.0 c.0 first.1 more.1)

  -- and then more is told
  pub told_more : (v m : S × H) (h' : H) → Goes v m → Tells handles hears m.1 h' → Goes v (m.0, h')
  told_more v m h' before more = (tells_over handles hears v.1 m.1 h' before.0 more, before.1)

-- ---- until it stops

module _ {H F : Type 0} (handles : H → Event → List Output → H → Type 0) (hears : H → PeerEvent → Given → H → Type 0)
    (refuses : H → Event → F → H → Type 0) (declines : H → PeerEvent → F → H → Type 0) (at : ℕ) where
  -- what was told before
  pub broken_after : (h m h' : H) (fault : TurnFault F) → Tells handles hears h m → IsBroken handles hears refuses declines at m h' fault → IsBroken handles hears refuses declines at h h' fault
  broken_after h m h' fault before is =
      let all = tells_over handles hears h m is.last before (is.told, is.all) in
      record { told = all.0; last = is.last; all = all.1; ends = is.ends }

  -- there was no memory then
  pub broken_memory : (h h' : H) → Tells handles hears h h' → IsBroken handles hears refuses declines at h h' NoMemory
  broken_memory h h' before = record { told = before.0; last = h'; all = before.1; ends = refl }

  module _ {S : Type 0} (asks : S → S → Type 0) where
    abbrev pub Off : S × H → S × H → TurnFault F → Type 0
    Off v v' fault = IsBrokenOff asks handles hears refuses declines at v.0 v.1 v'.0 v'.1 fault

    pub off_after : (v m v' : S × H) (fault : TurnFault F) → Goes handles hears asks v m → Off m v' fault → Off v v' fault
    off_after v m v' fault before is = record {
      broken = broken_after v.1 m.1 v'.1 fault before.0 is.broken;
      asked = asked_over asks v.0 m.0 v'.0 before.1 is.asked;
    }

    pub off_memory : (v v' : S × H) → Goes handles hears asks v v' → Off v v' NoMemory
    off_memory v v' before = record { broken = broken_memory v.1 v'.1 before.0; asked = before.1 }

    pub off_told : (v : S × H) (s' : S) (m h' : H) (fault : TurnFault F) → Goes handles hears asks v (s', m) → IsBroken handles hears refuses declines at m h' fault → Off v (s', h') fault
    off_told v s' m h' fault before is = record { broken = broken_after v.1 m h' fault before.0 is; asked = before.1 }

    -- where a call fails
    pub off_err : {U : Type 0} (r : Result U (TurnFault F)) (fault : TurnFault F) (v m v' : S × H) → IsErrAnd r (λ e. e ≡ fault) → Goes handles hears asks v m → Off m v' fault → IfErr r (λ f. Off v v' f)
    off_err r fault v m v' failed_so before is = failed r fault (λ f. Off v v' f) failed_so (off_after v m v' fault before is)

    pub off_told_err : {U : Type 0} (r : Result U (TurnFault F)) (fault : TurnFault F) (v : S × H) (s' : S) (m h' : H) → IsErrAnd r (λ e. e ≡ fault) → Goes handles hears asks v (s', m) → IsBroken handles hears refuses declines at m h' fault
        → IfErr r (λ f. Off v (s', h') f)
    off_told_err r fault v s' m h' failed_so before is = failed r fault (λ f. Off v (s', h') f) failed_so (off_told v s' m h' fault before is)

    pub off_memory_err : {U : Type 0} (r : Result U (TurnFault F)) (v v' : S × H) → IsErrAnd r (λ e. e ≡ NoMemory) → Goes handles hears asks v v' → IfErr r (λ f. Off v v' f)
    off_memory_err r v v' failed_so before = failed r NoMemory (λ f. Off v v' f) failed_so (off_memory v v' before)

  pub broken_err : {U : Type 0} (r : Result U (TurnFault F)) (fault : TurnFault F) (h m h' : H) → IsErrAnd r (λ e. e ≡ fault) → Tells handles hears h m → IsBroken handles hears refuses declines at m h' fault
      → IfErr r (λ f. IsBroken handles hears refuses declines at h h' f)
  broken_err r fault h m h' failed_so before is = failed r fault (λ f. IsBroken handles hears refuses declines at h h' f) failed_so (broken_after h m h' fault before is)

  pub broken_memory_err : {U : Type 0} (r : Result U (TurnFault F)) (h h' : H) → IsErrAnd r (λ e. e ≡ NoMemory) → Tells handles hears h h' → IfErr r (λ f. IsBroken handles hears refuses declines at h h' f)
  broken_memory_err r h h' failed_so before = failed r NoMemory (λ f. IsBroken handles hears refuses declines at h h' f) failed_so (broken_memory h h' before)

-- what holds whatever the error is
pub on_err_any : {U E : Type 0} (r : Result U E) (P : Type 0) → P → OnErr r P
on_err_any (Ok x) P holds = tt
on_err_any (Err e) P holds = holds

-- ---- the steps of a turn

module _ {S H T : Type 0} (reads : S → T → Answer → List ℕ → S → T → Type 0)
    (handles : H → Event → List Output → H → Type 0) (hears : H → PeerEvent → Given → H → Type 0) (at : ℕ) where
  abbrev Reads : S × H → S × H → Type 0
  Reads v v' = Goes handles hears (IsReadOnce reads) v v'

  abbrev of_world : World S H T → S × H
  of_world w = (w.sockets, w.handler)

  abbrev of_place : Place S H T → S × H
  of_place p = (p.reach.sockets, p.reach.near.handler)

  abbrev of_reach : Reach S H T → S × H
  of_reach r = (r.sockets, r.near.handler)

  told_by_client : (key : ℕ) (w : World S H T) (more : Bool) (w' : World S H T) → IsRead reads handles at key w more w' → Tells handles hears w.handler w'.handler
  told_by_client key w more w' is =
      handling.read_in handles hears (Tells handles hears) (tells_none handles hears) (tells_over handles hears) (λ h e outputs h' other is. tells_client handles hears h e outputs h' is) (tells_peer handles hears) at
      (joined_tells handles hears at) (room_tells handles hears at) reads key (get w.clients key) w more w' is.by_client

  asked_if : (key : ℕ) (closing : Bool) (client : Client T) (w : World S H T) (more : Bool) (w' : World S H T) → IsReadIf reads handles at key closing client w more w' → Again (IsReadOnce reads) w.sockets w'.sockets
  asked_if key true client w more w' is = asked_none (IsReadOnce reads) w.sockets w'.sockets (ap (λ (v : World S H T). v.sockets) is.0)
  asked_if key false client w more w' is = asked_one (IsReadOnce reads) w.sockets w'.sockets (client.stream, is.answer, is.bytes, is.stream, is.answered)

  asked_in : (key : ℕ) (client : Option (Client T)) (w : World S H T) (more : Bool) (w' : World S H T) → IsReadIn reads handles at key client w more w' → Again (IsReadOnce reads) w.sockets w'.sockets
  asked_in key None w more w' is = asked_none (IsReadOnce reads) w.sockets w'.sockets (ap (λ (v : World S H T). v.sockets) is.0)
  asked_in key (Some client) w more w' is = asked_if key client.closing client w more w' is

  pub read_goes : (key : ℕ) (w : World S H T) (more : Bool) (w' : World S H T) → IsRead reads handles at key w more w' → Reads (of_world w) (of_world w')
  read_goes key w more w' is = (told_by_client key w more w' is, asked_in key (get w.clients key) w more w' is.by_client)

  pub reads_go : (keys : List ℕ) (w : World S H T) (found : List ℕ) (w' : World S H T) → EachTells (IsRead reads handles at) keys w found w' → Reads (of_world w) (of_world w')
  reads_go keys w found w' all = handling.each_tells Reads (goes_none handles hears (IsReadOnce reads)) (goes_over handles hears (IsReadOnce reads)) of_world (IsRead reads handles at) read_goes keys w found w' all

  -- links

  asked_link : (link : Option (Line T)) (key : ℕ) (p : Place S H T) (more : Bool) (p' : Place S H T) → IsLinkReadIn reads hears at link key p more p' → Again (IsReadOnce reads) p.reach.sockets p'.reach.sockets
  asked_link None key p more p' is = asked_none (IsReadOnce reads) p.reach.sockets p'.reach.sockets (ap (λ (v : Place S H T). v.reach.sockets) is.0)
  asked_link (Some line) key p more p' is = asked_one (IsReadOnce reads) p.reach.sockets p'.reach.sockets (line.stream, is.read.answer, is.read.bytes, is.left.stream, is.read.asked)

  pub link_goes : (key : ℕ) (p : Place S H T) (more : Bool) (p' : Place S H T) → IsHeardFrom reads hears at key p more p' → Reads (of_place p) (of_place p')
  link_goes key p more p' is = (
    handling.link_read handles hears (Tells handles hears) (tells_none handles hears) (tells_over handles hears) (λ h e outputs h' other is. tells_client handles hears h e outputs h' is) (tells_peer handles hears) at
        (joined_tells handles hears at) (room_tells handles hears at) reads (get p.accepted key) key p more p' is.by_link,
    asked_link (get p.accepted key) key p more p' is.by_link,
  )

  pub links_go : (keys : List ℕ) (p : Place S H T) (found : List ℕ) (p' : Place S H T) → EachTells (IsHeardFrom reads hears at) keys p found p' → Reads (of_place p) (of_place p')
  links_go keys p found p' all = handling.each_tells Reads (goes_none handles hears (IsReadOnce reads)) (goes_over handles hears (IsReadOnce reads)) of_place (IsHeardFrom reads hears at) link_goes keys p found p' all

  asked_peer : (link : Option (Line T)) (peer : ℕ) (r : Reach S H T) (more : Bool) (r' : Reach S H T) → IsPeerReadIn reads hears at link peer r more r' → Again (IsReadOnce reads) r.sockets r'.sockets
  asked_peer None peer r more r' is = asked_none (IsReadOnce reads) r.sockets r'.sockets (ap (λ (v : Reach S H T). v.sockets) is.0)
  asked_peer (Some line) peer r more r' is = asked_one (IsReadOnce reads) r.sockets r'.sockets (line.stream, is.read.answer, is.read.bytes, is.left.stream, is.read.asked)

  pub peer_goes : (peer : ℕ) (r : Reach S H T) (more : Bool) (r' : Reach S H T) → IsPeerRead reads hears at peer r more r' → Reads (of_reach r) (of_reach r')
  peer_goes peer r more r' is = (
    handling.peer_read handles hears (Tells handles hears) (tells_none handles hears) (tells_over handles hears) (λ h e outputs h' other is. tells_client handles hears h e outputs h' is) (tells_peer handles hears) at
        (joined_tells handles hears at) (room_tells handles hears at) reads (link_of r.near.dialled peer) peer r more r' is.by_link,
    asked_peer (link_of r.near.dialled peer) peer r more r' is.by_link,
  )

  pub peers_go : (peers : List ℕ) (r : Reach S H T) (found : List ℕ) (r' : Reach S H T) → EachTells (IsPeerRead reads hears at) peers r found r' → Reads (of_reach r) (of_reach r')
  peers_go peers r found r' all = handling.each_tells Reads (goes_none handles hears (IsReadOnce reads)) (goes_over handles hears (IsReadOnce reads)) of_reach (IsPeerRead reads hears at) peer_goes peers r found r' all

-- ---- who comes, and whom it dials

module _ {S L T : Type 0} (accepts : S → L → Option T → S → Type 0) (watches : S → T → Watched → Bool → S → Type 0) (connects : S → SocketAddr → Option T → S → Type 0)
    (reads : S → T → Answer → List ℕ → S → T → Type 0) where
  abbrev pub Asks : S → S → Type 0
  Asks s s' = IsAskedOnce accepts watches connects reads s s'

  pub as_asked : (s s' : S) → IsReadOnce reads s s' → Asks s s'
  as_asked s s' is = inr (inr (inr is))

  pub came_and_watched : (listener : L) (stream : T) (name : Watched) (watchable : Bool) (s m s' : S) → accepts s listener (Some stream) m → watches m stream name watchable s' → Again Asks s s'
  came_and_watched listener stream name watchable s m s' came watch =
      asked_over Asks s m s' (asked_one Asks s m (inl (listener, Some stream, came))) (asked_one Asks m s' (inr (inl (stream, name, watchable, watch))))

  pub nobody_came : (listener : L) (s s' : S) → accepts s listener None s' → Again Asks s s'
  nobody_came listener s s' came = asked_one Asks s s' (inl (listener, None, came))

  module _ (listener : L) where
    link_came : (w w' : S × Slab (Line T)) → IsLinkAccepted accepts watches listener w w' → Again Asks w.0 w'.0
    link_came w w' is = came_and_watched listener is.stream (watched.Link is.key) is.watchable w.0 is.asked w'.0 is.answered is.watched

    no_link_came : (w w' : S × Slab (Line T)) → IsNoLinkAccepted accepts watches listener w w' → Again Asks w.0 w'.0
    no_link_came w w' is = nobody_came listener w.0 w'.0 is.answered

    abbrev sockets_of : S × Slab (Line T) → S
    sockets_of w = w.0

    pub links_came : (n : ℕ) (w w' : S × Slab (Line T)) → EachBelow (λ (_ : ℕ). IsLinkAccepted accepts watches listener) n w w' → Again Asks w.0 w'.0
    links_came n w w' all = handling.each_below (Again Asks) (asked_none Asks) (asked_over Asks) sockets_of (λ (_ : ℕ). IsLinkAccepted accepts watches listener) (λ _ v v' is. link_came v v' is) n w w' all

    pub links_let_in : (may : Bool) (w : S × Slab (Line T)) (more : Bool) (w' : S × Slab (Line T)) → AreLetInIf (IsLinkAccepted accepts watches listener) (IsNoLinkAccepted accepts watches listener) 64 may w more w' → Again Asks w.0 w'.0
    links_let_in may w more w' all =
        handling.let_in (Again Asks) (asked_none Asks) (asked_over Asks) sockets_of (IsLinkAccepted accepts watches listener) (IsNoLinkAccepted accepts watches listener) link_came no_link_came 64 may w more w' all

  watched_if : (came : Option T) (peer : ℕ) (s : S) (stream : Option T) (s' : S) → IsWatchedIf connects watches came peer s stream s' → Again Asks s s'
  watched_if None peer s stream s' is = asked_none Asks s s' is.1
  watched_if (Some came) peer s stream s' is = asked_one Asks s s' (inr (inl (came, watched.Peer peer, is.0, is.1)))

  pub begun_asks : (address : SocketAddr) (peer : ℕ) (s : S) (stream : Option T) (s' : S) → IsBegun connects watches address peer s stream s' → Again Asks s s'
  begun_asks address peer s stream s' is =
      asked_over Asks s is.asked s' (asked_one Asks s is.asked (inr (inr (inl (address, is.came, is.answered))))) (watched_if is.came peer is.asked stream s' is.watched)

module _ {S H L T : Type 0} (accepts : S → L → Option T → S → Type 0) (watches : S → T → Watched → Bool → S → Type 0) (connects : S → SocketAddr → Option T → S → Type 0)
    (reads : S → T → Answer → List ℕ → S → T → Type 0)
    (handles : H → Event → List Output → H → Type 0) (hears : H → PeerEvent → Given → H → Type 0) (at : ℕ) where
  abbrev Moves : S × H → S × H → Type 0
  Moves v v' = Goes handles hears (IsAskedOnce accepts watches connects reads) v v'

  moves_none : (v v' : S × H) → v' ≡ v → Moves v v'
  moves_none v v' same = goes_none handles hears (IsAskedOnce accepts watches connects reads) v v' same

  moves_over : (a b c : S × H) → Moves a b → Moves b c → Moves a c
  moves_over a b c first more = goes_over handles hears (IsAskedOnce accepts watches connects reads) a b c first more

  pub as_moves : (v v' : S × H) → Goes handles hears (IsReadOnce reads) v v' → Moves v v'
  as_moves v v' is = (is.0, asked_weaker (IsReadOnce reads) (IsAskedOnce accepts watches connects reads) (as_asked accepts watches connects reads) v.0 v'.0 is.1)

  abbrev spot : World S H T → S × H
  spot w = (w.sockets, w.handler)

  module _ (listener : L) where
    accepted_goes : (w w' : World S H T) → IsAccepted accepts watches handles at listener w w' → Moves (spot w) (spot w')
    accepted_goes w w' is = (
      handling.welcomed handles hears (Tells handles hears) (tells_none handles hears) (tells_over handles hears) (λ h e outputs h' other is. tells_client handles hears h e outputs h' is) (tells_peer handles hears) at
          (joined_tells handles hears at) (room_tells handles hears at) is.watchable is.stream is.key w.handler w.clients w'.handler w'.clients is.welcomed,
      came_and_watched accepts watches connects reads listener is.stream (watched.Client is.key) is.watchable w.sockets is.asked w'.sockets is.answered is.watch,
    )

    nobody_goes : (w w' : World S H T) → IsNobodyAccepted accepts watches handles at listener w w' → Moves (spot w) (spot w')
    nobody_goes w w' is = (tells_none handles hears w.handler w'.handler is.handler, nobody_came accepts watches connects reads listener w.sockets w'.sockets is.answered)

    pub some_go : (n : ℕ) (w w' : World S H T) → EachBelow (λ (_ : ℕ). IsAccepted accepts watches handles at listener) n w w' → Moves (spot w) (spot w')
    some_go n w w' all = handling.each_below Moves moves_none moves_over spot (λ (_ : ℕ). IsAccepted accepts watches handles at listener) (λ _ v v' is. accepted_goes v v' is) n w w' all

    pub let_in_goes : (may : Bool) (w : World S H T) (more : Bool) (w' : World S H T) → AreLetInIf (IsAccepted accepts watches handles at listener) (IsNobodyAccepted accepts watches handles at listener) 64 may w more w' → Moves (spot w) (spot w')
    let_in_goes may w more w' all =
        handling.let_in Moves moves_none moves_over spot (IsAccepted accepts watches handles at listener) (IsNobodyAccepted accepts watches handles at listener) accepted_goes nobody_goes 64 may w more w' all

  -- dialling

  sought_still : (q q' : Search S H T) → q' ≡ q → Again (IsAskedOnce accepts watches connects reads) q.reach.sockets q'.reach.sockets
  sought_still q q' same = asked_none (IsAskedOnce accepts watches connects reads) q.reach.sockets q'.reach.sockets (ap (λ (v : Search S H T). v.reach.sockets) same)

  sought_once : (rested : Bool) (address : SocketAddr) (peer : ℕ) (q q' : Search S H T) → IsDialledOnce connects watches hears at rested address peer q q' → Again (IsAskedOnce accepts watches connects reads) q.reach.sockets q'.reach.sockets
  sought_once true address peer q q' is = begun_asks accepts watches connects reads address peer q.reach.sockets is.stream q'.reach.sockets is.answered
  sought_once false address peer q q' same = sought_still q q' same

  sought_if : (link : Option (Line T)) (address : SocketAddr) (peer : ℕ) (q q' : Search S H T) → IsDialledIf connects watches hears at link address peer q q' → Again (IsAskedOnce accepts watches connects reads) q.reach.sockets q'.reach.sockets
  sought_if None address peer q q' is = sought_once _ address peer q q' is
  sought_if (Some line) address peer q q' same = sought_still q q' same

  sought_at : (address : Option SocketAddr) (peer : ℕ) (q q' : Search S H T) → IsDialledAt connects watches hears at address peer q q' → Again (IsAskedOnce accepts watches connects reads) q.reach.sockets q'.reach.sockets
  sought_at None peer q q' same = sought_still q q' same
  sought_at (Some address) peer q q' is = sought_if _ address peer q q' is

  abbrev of_search : Search S H T → S × H
  of_search q = (q.reach.sockets, q.reach.near.handler)

  sought_goes : (peers : List (Option SocketAddr)) (peer : ℕ) (q q' : Search S H T) → IsSought connects watches hears at peers peer q q' → Moves (of_search q) (of_search q')
  sought_goes peers peer q q' is = (
    handling.dialled_at handles hears (Tells handles hears) (tells_none handles hears) (tells_over handles hears) (λ h e outputs h' other is. tells_client handles hears h e outputs h' is) (tells_peer handles hears) at
        (joined_tells handles hears at) (room_tells handles hears at) connects watches (slice_index_or peers peer None) peer q q' is.by_address,
    sought_at (slice_index_or peers peer None) peer q q' is.by_address,
  )

  pub all_sought : (peers : List (Option SocketAddr)) (n : ℕ) (q q' : Search S H T) → EachBelow (IsSought connects watches hears at peers) n q q' → Moves (of_search q) (of_search q')
  all_sought peers n q q' all = handling.each_below Moves moves_none moves_over of_search (IsSought connects watches hears at peers) (sought_goes peers) n q q' all

-- a stream that is read is asked
pub off_moves : {S H L T F : Type 0} (accepts : S → L → Option T → S → Type 0) (watches : S → T → Watched → Bool → S → Type 0) (connects : S → SocketAddr → Option T → S → Type 0)
    (reads : S → T → Answer → List ℕ → S → T → Type 0) (handles : H → Event → List Output → H → Type 0) (hears : H → PeerEvent → Given → H → Type 0)
    (refuses : H → Event → F → H → Type 0) (declines : H → PeerEvent → F → H → Type 0) (at : ℕ) (v v' : S × H) (fault : TurnFault F)
    → IsBrokenOff (IsReadOnce reads) handles hears refuses declines at v.0 v.1 v'.0 v'.1 fault → IsBrokenOff (IsAskedOnce accepts watches connects reads) handles hears refuses declines at v.0 v.1 v'.0 v'.1 fault
off_moves accepts watches connects reads handles hears refuses declines at v v' fault is = record {
  broken = is.broken;
  asked = asked_weaker (IsReadOnce reads) (IsAskedOnce accepts watches connects reads) (as_asked accepts watches connects reads) v.0 v'.0 is.asked;
}

-- ---- what other nodes bring, and what they are asked for

module _ {H T : Type 0} (handles : H → Event → List Output → H → Type 0) (hears : H → PeerEvent → Given → H → Type 0) (at : ℕ) where
  pub frames_heard : (frames : List (Vec ℕ Global)) (n n' : Near H T) → HearsAll hears at frames n n' → Tells handles hears n.handler n'.handler
  frames_heard [] n n' same = tells_none handles hears n.handler n'.handler (ap (λ (m : Near H T). m.handler) same)
  frames_heard (frame ∷ frames) n n' all =
      tells_over handles hears n.handler all.0.handler n'.handler (tells_peer handles hears n.handler _ all.1.heard.given all.0.handler all.1.heard.answered) (frames_heard frames all.0 n' all.2)

  shipped_if : (kind : Option PeerEventKind) (peer : ℕ) (n n' : Near H T) → IsShippedIf hears at kind peer n n' → Tells handles hears n.handler n'.handler
  shipped_if (Some kind) peer n n' is =
      tells_over handles hears n.handler is.0.handler n'.handler (tells_peer handles hears n.handler _ is.1.given is.0.handler is.1.answered) (tells_none handles hears is.0.handler n'.handler is.2.handler)
  shipped_if None peer n n' same = tells_none handles hears n.handler n'.handler (ap (λ (m : Near H T). m.handler) same)

  shipped : (link : Option (Line T)) (peer : ℕ) (n n' : Near H T) → IsShipped hears at link peer n n' → Tells handles hears n.handler n'.handler
  shipped None peer n n' same = tells_none handles hears n.handler n'.handler (ap (λ (m : Near H T). m.handler) same)
  shipped (Some line) peer n n' is = shipped_if _ peer n n' is

  pub shipped_all : (n : ℕ) (m m' : Near H T) → EachBelow (IsSupplied hears at) n m m' → Tells handles hears m.handler m'.handler
  shipped_all n m m' all =
      handling.each_below (Tells handles hears) (tells_none handles hears) (tells_over handles hears) (λ (x : Near H T). x.handler) (IsSupplied hears at)
      (λ peer v v' is. shipped (link_of v.dialled peer) peer v v' is.by_link) n m m' all

-- one of some numbers, with those before it and those after it
pub parted_at : (keys : List ℕ) (i : ℕ) → i < length keys → keys ≡ take i keys ++ slice_index_or keys i 0 ∷ drop (i + 1) keys
parted_at keys i within =
    sym (take-append-drop (i + 1) keys) ∙ ap (λ (xs : List ℕ). xs ++ drop (i + 1) keys) (take_more keys i 0 within)
    ∙ append_assoc (take i keys) (slice_index_or keys i 0 ∷ []) (drop (i + 1) keys)
