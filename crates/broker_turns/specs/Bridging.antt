-- What a turn does with the sockets between nodes.
use Rattle.std.specs.Prelude.{◌≡◌, ◌≢◌, ◌≤◌, ℕ, List, [], ◌∷◌, ◌++◌, leb, length, slice_index_or, slice_set, option_map, if◌then◌else◌, true, false, Bool, Option, Some, None, Vec}
use Rattle.std.specs.declared.alloc.Global.{Global}
use Rattle.std.specs.declared.net.socket_addr.SocketAddr.{SocketAddr}
use Rattle.slab.specs.Slab.{Slab, get, Updates}
use Rattle.broker_sockets.specs.declared.network.Answer.{Answer}
use Rattle.broker_sockets.specs.declared.network.Answer.TheVariants.{Later, Bytes, Gone}
use Rattle.broker_turns.specs.declared.clients.Client.{Client}
use Rattle.broker_sockets.specs.declared.ready.Watched.{Watched}
use Rattle.broker_sockets.specs.declared.ready.Watched.TheVariants.{Link, Peer}
use Rattle.broker_sockets.specs.declared.bridge.Given.{Given}
use Rattle.broker_sockets.specs.declared.bridge.PeerEvent.{PeerEvent}
use Rattle.broker_sockets.specs.declared.bridge.PeerEventKind.{PeerEventKind}
use Rattle.broker_sockets.specs.declared.bridge.PeerEventKind.TheVariants.{Linked, Frame}
use Rattle.broker_turns.specs.declared.lines.Line.{Line}
use Rattle.broker_sockets.specs.Answers.{Offers}
use Rattle.broker_turns.specs.Clients.{Released}
use Rattle.broker_sockets.specs.Frames.{IsCut}
use Rattle.broker_turns.specs.Lines.{Framed, Noted, asks_for, fresh_line, is_rested, link_of, marked}

-- what handles events, the clients by connection, and the links that were dialled, by peer
pub record Near (H T : Type 0) : Type 0 where
  pub handler : H
  pub clients : Slab (Client T)
  pub dialled : List (Option (Line T))

abbrev pub near : {H T : Type 0} → H → Slab (Client T) → List (Option (Line T)) → Near H T
near h c d = record { handler = h; clients = c; dialled = d }

-- with the sockets
pub record Reach (S H T : Type 0) : Type 0 where
  pub sockets : S
  pub near : Near H T

abbrev pub reach : {S H T : Type 0} → S → Near H T → Reach S H T
reach s n = record { sockets = s; near = n }

-- and with the links that were accepted
pub record Place (S H T : Type 0) : Type 0 where
  pub reach : Reach S H T
  pub accepted : Slab (Line T)

abbrev pub place : {S H T : Type 0} → S → Near H T → Slab (Line T) → Place S H T
place s n a = record { reach = reach s n; accepted = a }

-- with the moments at which peers were dialled last, by peer
pub record Search (S H T : Type 0) : Type 0 where
  pub reach : Reach S H T
  pub sought : List (Option ℕ)

abbrev pub search : {S H T : Type 0} → S → Near H T → List (Option ℕ) → Search S H T
search s n q = record { reach = reach s n; sought = q }

abbrev pub peer_event : ℕ → PeerEventKind → PeerEvent
peer_event at kind = record { at = at; kind = kind }

module _ {H T : Type 0} (hears : H → PeerEvent → Given → H → Type 0) where
  -- the handler answers an event, and what it gives out waits for the clients and the peers
  pub record IsHearing (it : PeerEvent) (n n' : Near H T) : Type 0 where
    pub given : Given
    pub answered : hears n.handler it given n'.handler
    pub released : Released given.outputs.items n.clients n'.clients
    pub framed : Framed given.frames.items n.dialled n'.dialled

  -- a frame is noted on the link of the node that sends it, and handed over
  pub record IsFrameHeard (at : ℕ) (frame : Vec ℕ Global) (n n' : Near H T) : Type 0 where
    pub links : List (Option (Line T))
    pub noted : Noted at frame.items n.dialled links
    pub heard : IsHearing (peer_event at (Frame frame)) (record n { dialled = links }) n'

  -- frames are handed over, in order
  abbrev pub HearsAll : ℕ → List (Vec ℕ Global) → Near H T → Near H T → Type 0
  HearsAll at [] n n' = n' ≡ n
  HearsAll at (frame ∷ frames) n n' = (m : Near H T) × IsFrameHeard at frame n m × HearsAll at frames m n'

-- what a read brought: whole frames, what is held then, whether the link goes on, and whether it may have more
abbrev pub IsTaken : Answer → List ℕ → List ℕ → List (Vec ℕ Global) → List ℕ → Bool → Bool → Type 0
IsTaken Later bytes held frames held' goes_on more = (frames ≡ []) × (held' ≡ held) × (goes_on ≡ true) × (more ≡ false)
IsTaken (Bytes n) bytes held frames held' goes_on more = IsCut (held ++ bytes) frames held' goes_on × (more ≡ goes_on)
IsTaken Gone bytes held frames held' goes_on more = (frames ≡ []) × (goes_on ≡ false) × (more ≡ false)

abbrev pub left_if : {T : Type 0} → Bool → Line T → Option (Line T)
left_if true line = Some line
left_if false line = None

-- a link is asked once to read, at most 65,536 bytes
pub record IsLineRead {S T : Type 0} (reads : S → T → Answer → List ℕ → S → T → Type 0) (s : S) (line : Line T) (frames : List (Vec ℕ Global)) (goes_on more : Bool) (s' : S) (line' : Line T) : Type 0 where
  pub answer : Answer
  pub bytes : List ℕ
  pub asked : reads s line.stream answer bytes s' line'.stream
  pub most : length bytes ≤ 65536
  pub taken : IsTaken answer bytes line.held frames line'.held goes_on more
  pub unsent : line'.unsent ≡ line.unsent
  pub known : line'.heard ≡ line.heard
  pub still : line'.asked ≡ line.asked
  pub as_ever : line'.awaited ≡ line.awaited
  pub sent : line'.sent ≡ line.sent
  pub got : line'.got ≡ line.got

module _ {S T : Type 0} (writes : S → T → List ℕ → Answer → S → T → Type 0) where
  -- a link is asked exactly where something waits
  abbrev pub LineTried : S → Line T → Option Answer → S → Line T → Type 0
  LineTried s line None s' left = (line.unsent ≡ []) × (s' ≡ s) × (left ≡ line)
  LineTried s line (Some answer) s' left =
      Offers writes line.unsent s line.stream answer left.unsent s' left.stream × (left.held ≡ line.held) × (left.heard ≡ line.heard) × (left.asked ≡ line.asked) × (left.awaited ≡ line.awaited)
      × (left.sent ≡ line.sent) × (left.got ≡ line.got)

-- a link goes on unless it failed or more than 536,870,912 bytes wait
abbrev pub goes_on_by : Option Answer → ℕ → Bool
goes_on_by None unsent = true
goes_on_by (Some Later) unsent = leb unsent 536870912
goes_on_by (Some (Bytes n)) unsent = leb unsent 536870912
goes_on_by (Some Gone) unsent = false

pub record IsLineWritten {S T : Type 0} (writes : S → T → List ℕ → Answer → S → T → Type 0) (s : S) (line : Line T) (goes_on : Bool) (s' : S) (left : Line T) : Type 0 where
  pub answer : Option Answer
  pub tried : LineTried writes s line answer s' left
  pub comes_to : goes_on ≡ goes_on_by answer (length left.unsent)

-- the link of a peer is this now, and the others are as they were
pub record Relinks {T : Type 0} (old new : List (Option (Line T))) (peer : ℕ) (link : Option (Line T)) : Type 0 where
  pub changed : link_of new peer ≡ link
  pub others : (other : ℕ) → other ≢ peer → link_of new other ≡ link_of old other

-- a link that was accepted stays as it is, or is let go
abbrev pub IsKept : {T : Type 0} → Bool → ℕ → Slab (Line T) → Slab (Line T) → Type 0
IsKept true key a a' = a' ≡ a
IsKept false key a a' = Updates a a' key None

-- so is one that was dialled
abbrev pub IsPeerKept : {T : Type 0} → Bool → ℕ → List (Option (Line T)) → List (Option (Line T)) → Type 0
IsPeerKept true peer d d' = d' ≡ d
IsPeerKept false peer d d' = Relinks d d' peer None

module _ {S L T : Type 0} (accepts : S → L → Option T → S → Type 0) (watches : S → T → Watched → Bool → S → Type 0) (listener : L) where
  -- it is kept where it can be watched
  abbrev pub IsAdmitted : Bool → T → ℕ → Slab (Line T) → Slab (Line T) → Type 0
  IsAdmitted true stream key a a' = Updates a a' key (Some (fresh_line stream))
  IsAdmitted false stream key a a' = a' ≡ a

  -- a link came, and is watched under a number that was free
  pub record IsLinkAccepted (w w' : S × Slab (Line T)) : Type 0 where
    pub stream : T
    pub asked : S
    pub answered : accepts w.0 listener (Some stream) asked
    pub key : ℕ
    pub free : get w.1 key ≡ None
    pub watchable : Bool
    pub watched : watches asked stream (Link key) watchable w'.0
    pub admitted : IsAdmitted watchable stream key w.1 w'.1

  pub record IsNoLinkAccepted (w w' : S × Slab (Line T)) : Type 0 where
    pub answered : accepts w.0 listener None w'.0
    pub links : w'.1 ≡ w.1

  -- the listener for other nodes is asked once
  abbrev pub IsLinkAwaited : Bool → S × Slab (Line T) → S × Slab (Line T) → Type 0
  IsLinkAwaited true w w' = IsLinkAccepted w w'
  IsLinkAwaited false w w' = IsNoLinkAccepted w w'

module _ {S H T : Type 0} (reads : S → T → Answer → List ℕ → S → T → Type 0) (hears : H → PeerEvent → Given → H → Type 0) (at : ℕ) where
  -- a link that was accepted is read, and the handler is handed its frames; it is let go unless it goes on
  pub record IsLinkRead (key : ℕ) (line : Line T) (p : Place S H T) (more : Bool) (p' : Place S H T) : Type 0 where
    pub frames : List (Vec ℕ Global)
    pub goes_on : Bool
    pub left : Line T
    pub read : IsLineRead reads p.reach.sockets line frames goes_on more p'.reach.sockets left
    pub kept : Updates p.accepted p'.accepted key (left_if goes_on left)
    pub heard : HearsAll hears at frames p.reach.near p'.reach.near

  abbrev pub IsLinkReadIn : Option (Line T) → ℕ → Place S H T → Bool → Place S H T → Type 0
  IsLinkReadIn None key p more p' = (p' ≡ p) × (more ≡ false)
  IsLinkReadIn (Some line) key p more p' = IsLinkRead key line p more p'

  -- the link of a number, if it is still there, is read; and whether it may have more
  pub record IsHeardFrom (key : ℕ) (p : Place S H T) (more : Bool) (p' : Place S H T) : Type 0 where
    pub by_link : IsLinkReadIn (get p.accepted key) key p more p'

  -- so is a link that was dialled
  pub record IsPeerLinkRead (peer : ℕ) (line : Line T) (r : Reach S H T) (more : Bool) (r' : Reach S H T) : Type 0 where
    pub frames : List (Vec ℕ Global)
    pub goes_on : Bool
    pub left : Line T
    pub read : IsLineRead reads r.sockets line frames goes_on more r'.sockets left
    pub links : List (Option (Line T))
    pub kept : Relinks r.near.dialled links peer (left_if goes_on left)
    pub heard : HearsAll hears at frames (record r.near { dialled = links }) r'.near

  abbrev pub IsPeerReadIn : Option (Line T) → ℕ → Reach S H T → Bool → Reach S H T → Type 0
  IsPeerReadIn None peer r more r' = (r' ≡ r) × (more ≡ false)
  IsPeerReadIn (Some line) peer r more r' = IsPeerLinkRead peer line r more r'

  -- the link to a peer, if there is one, is read; and whether it may have more
  pub record IsPeerRead (peer : ℕ) (r : Reach S H T) (more : Bool) (r' : Reach S H T) : Type 0 where
    pub by_link : IsPeerReadIn (link_of r.near.dialled peer) peer r more r'

module _ {S T : Type 0} (connects : S → SocketAddr → Option T → S → Type 0) (watches : S → T → Watched → Bool → S → Type 0) where
  -- a connection that can't be watched is none
  abbrev pub IsWatchedIf : Option T → ℕ → S → Option T → S → Type 0
  IsWatchedIf None peer s stream s' = (stream ≡ None) × (s' ≡ s)
  IsWatchedIf (Some came) peer s stream s' = (watchable : Bool) × watches s came (Peer peer) watchable s' × (stream ≡ (if watchable then Some came else None))

  -- the address is dialled once, and what was begun is watched
  pub record IsBegun (address : SocketAddr) (peer : ℕ) (s : S) (stream : Option T) (s' : S) : Type 0 where
    pub came : Option T
    pub asked : S
    pub answered : connects s address came asked
    pub watched : IsWatchedIf came peer asked stream s'

module _ {S H T : Type 0} (connects : S → SocketAddr → Option T → S → Type 0) (watches : S → T → Watched → Bool → S → Type 0) (hears : H → PeerEvent → Given → H → Type 0) (at : ℕ) where
  abbrev pub IsBegunBy : Option T → ℕ → Near H T → Near H T → Type 0
  IsBegunBy None peer n n' = n' ≡ n
  IsBegunBy (Some stream) peer n n' =
      (links : List (Option (Line T))) × Relinks n.dialled links peer (Some (fresh_line stream))
      × IsHearing hears (peer_event at (Linked peer)) (record n { dialled = links }) n'

  -- a peer is dialled, which is noted, and the handler is told where a link was begun
  pub record IsDialled (address : SocketAddr) (peer : ℕ) (q q' : Search S H T) : Type 0 where
    pub stream : Option T
    pub answered : IsBegun connects watches address peer q.reach.sockets stream q'.reach.sockets
    pub begun : IsBegunBy stream peer q.reach.near q'.reach.near
    pub noted : q'.sought ≡ slice_set q.sought peer (Some at)

  abbrev pub IsDialledOnce : Bool → SocketAddr → ℕ → Search S H T → Search S H T → Type 0
  IsDialledOnce true address peer q q' = IsDialled address peer q q'
  IsDialledOnce false address peer q q' = q' ≡ q

  -- a peer without a link is dialled, but not within 1,000 milliseconds of the last time
  abbrev pub IsDialledIf : Option (Line T) → SocketAddr → ℕ → Search S H T → Search S H T → Type 0
  IsDialledIf None address peer q q' = IsDialledOnce (is_rested 1000 at (slice_index_or q.sought peer None)) address peer q q'
  IsDialledIf (Some line) address peer q q' = q' ≡ q

  -- a number without an address is this node's own
  abbrev pub IsDialledAt : Option SocketAddr → ℕ → Search S H T → Search S H T → Type 0
  IsDialledAt None peer q q' = q' ≡ q
  IsDialledAt (Some address) peer q q' = IsDialledIf (link_of q.reach.near.dialled peer) address peer q q'

  pub record IsSought (peers : List (Option SocketAddr)) (peer : ℕ) (q q' : Search S H T) : Type 0 where
    pub by_address : IsDialledAt (slice_index_or peers peer None) peer q q'

-- it is noted on the link of a peer that more was asked for
pub record IsMarked {H T : Type 0} (at peer : ℕ) (n n' : Near H T) : Type 0 where
  pub handler : n'.handler ≡ n.handler
  pub clients : n'.clients ≡ n.clients
  pub links : Relinks n.dialled n'.dialled peer (option_map (marked at) (link_of n.dialled peer))

module _ {H T : Type 0} (hears : H → PeerEvent → Given → H → Type 0) (at : ℕ) where
  abbrev pub IsShippedIf : Option PeerEventKind → ℕ → Near H T → Near H T → Type 0
  IsShippedIf (Some kind) peer n n' = (m : Near H T) × IsHearing hears (peer_event at kind) n m × IsMarked at peer m n'
  IsShippedIf None peer n n' = n' ≡ n

  abbrev pub IsShipped : Option (Line T) → ℕ → Near H T → Near H T → Type 0
  IsShipped None peer n n' = n' ≡ n
  IsShipped (Some line) peer n n' = IsShippedIf (asks_for at peer line) peer n n'

  -- the handler is asked for more just where there is a link to the peer on which it is due
  pub record IsSupplied (peer : ℕ) (n n' : Near H T) : Type 0 where
    pub by_link : IsShipped (link_of n.dialled peer) peer n n'

module _ {S T : Type 0} (writes : S → T → List ℕ → Answer → S → T → Type 0) where
  -- the link of a peer is offered what waits, and is let go unless it goes on
  pub record IsLinkWritten (line : Line T) (peer : ℕ) (s : S) (d : List (Option (Line T))) (s' : S) (d' : List (Option (Line T))) : Type 0 where
    pub goes_on : Bool
    pub left : Line T
    pub written : IsLineWritten writes s line goes_on s' left
    pub kept : Relinks d d' peer (left_if goes_on left)

  abbrev pub IsLinkWrittenIn : Option (Line T) → ℕ → S → List (Option (Line T)) → S → List (Option (Line T)) → Type 0
  IsLinkWrittenIn None peer s d s' d' = (s' ≡ s) × (d' ≡ d)
  IsLinkWrittenIn (Some line) peer s d s' d' = IsLinkWritten line peer s d s' d'

  pub record IsOffered (peer : ℕ) (w w' : S × List (Option (Line T))) : Type 0 where
    pub by_link : IsLinkWrittenIn (link_of w.1 peer) peer w.0 w.1 w'.0 w'.1
