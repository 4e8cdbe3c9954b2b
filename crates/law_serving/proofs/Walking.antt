-- One call, or a few, from one place to the next.
use Rattle.std.proofs.Common.{◌≡◌, ◌<◌, ◌⊎◌, ℕ, List, [], ◌∷◌, ◌++◌, Bool, true, false, Option, Some, None, Vec, length, refl, sym, ap, subst, inl, inr}
use Rattle.std.specs.Prelude.{option_map}
use Rattle.std.specs.List.{AllByRecursion}
use Rattle.std.specs.declared.alloc.Global.{Global}
use Rattle.std.specs.declared.net.socket_addr.SocketAddr.{SocketAddr}
use Rattle.slab.specs.Slab.{Slab, get, Updates}
use Rattle.broker_sockets.specs.Answers.{Offers, left_after}
use Rattle.broker_sockets.specs.declared.bridge.Given.{Given}
use Rattle.broker_sockets.specs.declared.bridge.PeerEvent.{PeerEvent}
use Rattle.broker_sockets.specs.declared.events.Event.{Event}
use Rattle.broker_sockets.specs.declared.events.Output.{Output}
use Rattle.broker_sockets.specs.declared.network.Answer.{Answer}
use Rattle.broker_sockets.specs.declared.ready.Ready.{Ready}
use Rattle.broker_sockets.specs.declared.ready.Watched.{Watched}
use Rattle.broker_sockets.specs.declared.ready.Watched.TheVariants as watched
use Rattle.broker_sockets.specs.declared.network.Answer.TheVariants.{Gone}
use Rattle.broker_turns.specs.declared.clients.Client.{Client}
use Rattle.broker_turns.specs.declared.lines.Line.{Line}
use Rattle.broker_turns.specs.declared.setting.Setting.{Setting}
use Rattle.broker_turns.specs.Bridging.{IsHearing, IsTaken, Near, Place, Relinks, left_if, near, place}
use Rattle.broker_turns.specs.Clients.{fresh}
use Rattle.broker_turns.specs.Connections.{IsHandled}
use Rattle.broker_turns.specs.Handling.Told.{Of_client, Of_peer}
use Rattle.broker_turns.specs.Lines.{fresh_line, link_of}
use Rattle.law_serving.specs.Calls.{Accepts, Accepts_link, Call, Dials, Finds, IsAsked, IsAt, IsDone, Lets_go, Reads, Reads_link, Settles, Tells, Through, Watches, Writes}
use Rattle.law_serving.specs.Channels.{Channel, Goes, IsFor, IsLetGo, IsLinkRead, IsNew, IsOf, IsOver, IsRead, IsWritten, channel_at, is_gone, is_same, most, of_client, of_line}
use Rattle.law_serving.proofs.Giving.{found_new, found_touched, found_twice, given_to_all, given_to_clients}

pub through_join : {A W : Type 0} (step : A → W → W → Type 0) (xs ys : List A) (a b c : W) → Through step xs a b → Through step ys b c → Through step (xs ++ ys) a c
through_join {W = W} step [] ys a b c same more =
    let From : W → Type 0 = λ w. Through step ys w c in
    subst From same more
through_join step (x ∷ xs) ys a b c first more = (first.0, first.1, through_join step xs ys first.0 b c first.2 more)

pub all_join : {A : Type 0} (P : A → Type 0) (xs ys : List A) → AllByRecursion P xs → AllByRecursion P ys → AllByRecursion P (xs ++ ys)
all_join P [] ys first more = more
all_join P (x ∷ xs) ys first more = (first.0, all_join P xs ys first.1 more)

-- a link is read, and closed where it doesn't go on
module _ {T : Type 0} where
  abbrev pub Reading : Watched → Line T → Answer → List ℕ → List (Vec ℕ Global) → Bool → Line T → List (Call T)
  Reading self line answer bytes frames true left = Reads_link self line.stream answer bytes frames true left.stream ∷ []
  Reading self line answer bytes frames false left = Reads_link self line.stream answer bytes frames false left.stream ∷ Lets_go self false ∷ []

module _ {S H T : Type 0} where
  -- a place by its parts
  abbrev pub spot : S → H → Slab (Client T) → List (Option (Line T)) → Slab (Line T) → Place S H T
  spot s h c d a = place s (near h c d) a

module _
    {S H L T : Type 0} (accepts : S → L → Option T → S → Type 0) (watches : S → T → Watched → Bool → S → Type 0) (connects : S → SocketAddr → Option T → S → Type 0)
    (reads : S → T → Answer → List ℕ → S → T → Type 0) (writes : S → T → List ℕ → Answer → S → T → Type 0) (finds : S → Ready → S → Type 0)
    (handles : H → Event → List Output → H → Type 0) (hears : H → PeerEvent → Given → H → Type 0) (settles : H → H → Type 0)
    (setting : Setting L) (at : ℕ) where
  pub record Walked (calls : List (Call T)) (p p' : Place S H T) : Type 0 where
    pub asked : Through (IsAsked accepts watches connects reads writes finds setting) calls p.reach.sockets p'.reach.sockets
    pub done : Through (IsDone T handles hears settles) calls p.reach.near.handler p'.reach.near.handler
    pub moment : AllByRecursion (IsAt at) calls
    pub flows : (name : Watched) → Through (Goes name) calls (channel_at name p) (channel_at name p')

  pub walked_over : (xs ys : List (Call T)) (a b c : Place S H T) → Walked xs a b → Walked ys b c → Walked (xs ++ ys) a c
  walked_over xs ys a b c first more = record {
    asked = through_join (IsAsked accepts watches connects reads writes finds setting) xs ys a.reach.sockets b.reach.sockets c.reach.sockets first.asked more.asked;
    done = through_join (IsDone T handles hears settles) xs ys a.reach.near.handler b.reach.near.handler c.reach.near.handler first.done more.done;
    moment = all_join (IsAt at) xs ys first.moment more.moment;
    flows = λ name. through_join (Goes name) xs ys (channel_at name a) (channel_at name b) (channel_at name c) (first.flows name) (more.flows name);
  }

  -- nothing passes, and each channel is as it was
  pub walked_still : (p p' : Place S H T) → p'.reach.sockets ≡ p.reach.sockets → p'.reach.near.handler ≡ p.reach.near.handler → ((name : Watched) → channel_at name p' ≡ channel_at name p) → Walked [] p p'
  walked_still p p' sockets handler channels = record { asked = sockets; done = handler; moment = tt; flows = channels }

  walked_one : (call : Call T) (p p' : Place S H T) → IsAsked accepts watches connects reads writes finds setting call p.reach.sockets p'.reach.sockets → IsDone T handles hears settles call p.reach.near.handler p'.reach.near.handler
      → IsAt at call → ((name : Watched) → Goes name call (channel_at name p) (channel_at name p')) → Walked (call ∷ []) p p'
  walked_one call p p' asked done moment flows = record {
    asked = (p'.reach.sockets, asked, refl);
    done = (p'.reach.near.handler, done, refl);
    moment = (moment, tt);
    flows = λ name. (channel_at name p', flows name, refl);
  }

  -- ---- calls that concern no channel

  unmoved : (s s' : S) (h h' : H) (c : Slab (Client T)) (d : List (Option (Line T))) (a : Slab (Line T)) (name : Watched) → channel_at name (spot s' h' c d a) ≡ channel_at name (spot s h c d a)
  unmoved s s' h h' c d a (watched.Client key) = refl
  unmoved s s' h h' c d a (watched.Link key) = refl
  unmoved s s' h h' c d a (watched.Peer peer) = refl

  module _ (s s' : S) (h : H) (c : Slab (Client T)) (d : List (Option (Line T))) (a : Slab (Line T)) where
    pub walked_accepts : (stream : Option T) → accepts s setting.listener stream s' → Walked (Accepts stream ∷ []) (spot s h c d a) (spot s' h c d a)
    walked_accepts stream is = walked_one (Accepts stream) (spot s h c d a) (spot s' h c d a) is refl tt (unmoved s s' h h c d a)

    pub walked_accepts_link : (stream : Option T) → accepts s setting.bridge stream s' → Walked (Accepts_link stream ∷ []) (spot s h c d a) (spot s' h c d a)
    walked_accepts_link stream is = walked_one (Accepts_link stream) (spot s h c d a) (spot s' h c d a) is refl tt (unmoved s s' h h c d a)

    pub walked_dials : (address : SocketAddr) (stream : Option T) → connects s address stream s' → Walked (Dials address stream ∷ []) (spot s h c d a) (spot s' h c d a)
    walked_dials address stream is = walked_one (Dials address stream) (spot s h c d a) (spot s' h c d a) is refl tt (unmoved s s' h h c d a)

    pub walked_finds : (ready : Ready) → finds s ready s' → Walked (Finds ready ∷ []) (spot s h c d a) (spot s' h c d a)
    walked_finds ready is = walked_one (Finds ready) (spot s h c d a) (spot s' h c d a) is refl tt (unmoved s s' h h c d a)

    -- that can't be watched
    pub walked_unwatched : (name : Watched) (stream : T) → watches s stream name false s' → Walked (Watches name stream false ∷ []) (spot s h c d a) (spot s' h c d a)
    walked_unwatched name stream is = walked_one (Watches name stream false) (spot s h c d a) (spot s' h c d a) is refl tt (unmoved s s' h h c d a)

  pub walked_settles : (s : S) (h h' : H) (c : Slab (Client T)) (d : List (Option (Line T))) (a : Slab (Line T)) → settles h h' → Walked (Settles ∷ []) (spot s h c d a) (spot s h' c d a)
  walked_settles s h h' c d a is = walked_one Settles (spot s h c d a) (spot s h' c d a) refl is tt (unmoved s s h h' c d a)

  -- ---- what the handler is told

  pub walked_handled : (e : Event) (s : S) (h h' : H) (c c' : Slab (Client T)) (d : List (Option (Line T))) (a : Slab (Line T)) (is : IsHandled handles e h c h' c')
      → e.at ≡ at → ((name : Watched) → IsFor name (Of_client e is.outputs) (channel_at name (spot s h c d a))) → Walked (Tells (Of_client e is.outputs) ∷ []) (spot s h c d a) (spot s h' c' d a)
  walked_handled e s h h' c c' d a is moment for =
      walked_one (Tells (Of_client e is.outputs)) (spot s h c d a) (spot s h' c' d a) refl is.answered moment
      (λ name. (for name, given_to_clients is.outputs (spot s h c d a) (spot s h' c' d a) is.released refl refl name))

  pub walked_hearing : (e : PeerEvent) (s : S) (n n' : Near H T) (a : Slab (Line T)) (is : IsHearing hears e n n')
      → e.at ≡ at → ((name : Watched) → IsFor name (Of_peer e is.given) (channel_at name (place s n a))) → Walked (Tells (Of_peer e is.given) ∷ []) (place s n a) (place s n' a)
  walked_hearing e s n n' a is moment for =
      walked_one (Tells (Of_peer e is.given)) (place s n a) (place s n' a) refl is.answered moment
      (λ name. (for name, given_to_all is.given.outputs.items is.given.frames.items (place s n a) (place s n' a) is.released is.framed refl name))

  -- ---- clients

  module _ (s s' : S) (h : H) (c c' : Slab (Client T)) (d : List (Option (Line T))) (a : Slab (Line T)) (key : ℕ) where
    client_touched : (does : Channel T → Option (Channel T) → Type 0) (client : Client T) (slot : Option (Client T)) → get c key ≡ Some client → Updates c c' key slot → does (of_client client) (option_map of_client slot)
        → (name : Watched) → IsOf (is_same (watched.Client key) name) does (channel_at name (spot s h c d a)) (channel_at name (spot s' h c' d a))
    client_touched does client slot found updates is (watched.Client other) = found_touched of_client (get c) (get c') key slot updates.changed updates.others does client found is other
    client_touched does client slot found updates is (watched.Link other) = refl
    client_touched does client slot found updates is (watched.Peer other) = refl

    client_new : (stream : T) → get c key ≡ None → Updates c c' key (Some (fresh stream)) → (name : Watched) → IsNew (is_same (watched.Client key) name) stream (channel_at name (spot s h c d a)) (channel_at name (spot s' h c' d a))
    client_new stream free updates (watched.Client other) = found_new of_client (get c) (get c') key (Some (fresh stream)) updates.changed updates.others (fresh stream) stream free refl refl other
    client_new stream free updates (watched.Link other) = refl
    client_new stream free updates (watched.Peer other) = refl

    pub walked_opens : (stream : T) → watches s stream (watched.Client key) true s' → get c key ≡ None → Updates c c' key (Some (fresh stream)) → Walked (Watches (watched.Client key) stream true ∷ []) (spot s h c d a) (spot s' h c' d a)
    walked_opens stream is free updates = walked_one (Watches (watched.Client key) stream true) (spot s h c d a) (spot s' h c' d a) is refl tt (client_new stream free updates)

    pub walked_reads : (client left : Client T) (answer : Answer) (bytes : List ℕ) → reads s client.stream answer bytes s' left.stream → client.closing ≡ false → is_gone answer ≡ false → left.unsent ≡ client.unsent → left.closing ≡ client.closing
        → get c key ≡ Some client → Updates c c' key (Some left) → Walked (Reads key client.stream answer bytes left.stream ∷ []) (spot s h c d a) (spot s' h c' d a)
    walked_reads client left answer bytes is unclosed stays unsent closing found updates =
        let now : of_client left ≡ record (of_client client) { stream = left.stream; gone = is_gone answer } =
        λ j. record { stream = left.stream; held = []; waits = unsent j; closing = closing j; gone = sym stays j } in
        walked_one (Reads key client.stream answer bytes left.stream) (spot s h c d a) (spot s' h c' d a) is refl tt
        (client_touched (IsRead client.stream answer left.stream) client (Some left) found updates (record { same = refl; unclosed = unclosed; fresh = refl; now = ap (λ (x : Channel T). Some x) now }))

    pub walked_writes : (client left : Client T) (answer : Answer) → (o : Offers writes client.unsent s client.stream answer left.unsent s' left.stream) → is_gone answer ≡ false → left.closing ≡ client.closing
        → get c key ≡ Some client → Updates c c' key (Some left) → Walked (Writes (watched.Client key) client.stream o.offered answer left.stream ∷ []) (spot s h c d a) (spot s' h c' d a)
    walked_writes client left answer o stays closing found updates =
        let now : of_client left ≡ record (of_client client) { stream = left.stream; waits = left_after answer client.unsent; gone = is_gone answer } =
        λ j. record { stream = left.stream; held = []; waits = o.left_is j; closing = closing j; gone = sym stays j } in
        walked_one (Writes (watched.Client key) client.stream o.offered answer left.stream) (spot s h c d a) (spot s' h c' d a) o.asked refl tt
        (client_touched (IsWritten client.stream o.offered answer left.stream) client (Some left) found updates
        (record { same = refl; fresh = refl; some = o.some; first = o.first; within = o.within; now = ap (λ (x : Channel T). Some x) now }))

    -- that is closed
    pub walked_drops : (asked : Bool) (client : Client T) → client.closing ≡ asked → get c key ≡ Some client → IsOver 16777216 (of_client client) → Updates c c' key None → s' ≡ s → Walked (Lets_go (watched.Client key) asked ∷ []) (spot s h c d a) (spot s' h c' d a)
    walked_drops asked client shut found over updates same =
        walked_one (Lets_go (watched.Client key) asked) (spot s h c d a) (spot s' h c' d a) same refl tt
        (client_touched (IsLetGo 16777216 asked) client None found updates (record { over = over; shut = shut; now = refl }))

    -- two calls of it, the second of which closes it
    client_twice : (does : Channel T → Option (Channel T) → Type 0) (asked : Bool) (client : Client T) (y : Channel T) → get c key ≡ Some client → Updates c c' key None → does (of_client client) (Some y) → IsLetGo 16777216 asked y None
        → (name : Watched) → (m : Option (Channel T)) × IsOf (is_same (watched.Client key) name) does (channel_at name (spot s h c d a)) m
        × IsOf (is_same (watched.Client key) name) (IsLetGo 16777216 asked) m (channel_at name (spot s' h c' d a))
    client_twice does asked client y found updates is on (watched.Client other) = found_twice of_client (get c) (get c') key None updates.changed updates.others does (IsLetGo 16777216 asked) client y found is on other
    client_twice does asked client y found updates is on (watched.Link other) = (channel_at (watched.Link other) (spot s h c d a), refl, refl)
    client_twice does asked client y found updates is on (watched.Peer other) = (channel_at (watched.Peer other) (spot s h c d a), refl, refl)

    pub walked_reads_last : (client : Client T) (bytes : List ℕ) (after : T) → reads s client.stream Gone bytes s' after → client.closing ≡ false → get c key ≡ Some client → Updates c c' key None
        → Walked (Reads key client.stream Gone bytes after ∷ Lets_go (watched.Client key) false ∷ []) (spot s h c d a) (spot s' h c' d a)
    walked_reads_last client bytes after is unclosed found updates =
        let y : Channel T = record (of_client client) { stream = after; gone = true } in
        let flows = client_twice (IsRead client.stream Gone after) false client y found updates (record { same = refl; unclosed = unclosed; fresh = refl; now = refl }) (record { over = inl refl; shut = unclosed; now = refl }) in
        record {
          asked = (s', is, (s', refl, refl));
          done = (h, refl, (h, refl, refl));
          moment = (tt, (tt, tt));
          flows = λ name. let f = flows name in (f.0, f.1, (channel_at name (spot s' h c' d a), f.2, refl));
        }

    pub walked_writes_last : (asked : Bool) (client left : Client T) (answer : Answer) → (o : Offers writes client.unsent s client.stream answer left.unsent s' left.stream) → left.closing ≡ client.closing → left.closing ≡ asked
        → (is_gone answer ≡ true) ⊎ (16777216 < length left.unsent) ⊎ ((left.closing ≡ true) × (left.unsent ≡ [])) → get c key ≡ Some client → Updates c c' key None
        → Walked (Writes (watched.Client key) client.stream o.offered answer left.stream ∷ Lets_go (watched.Client key) asked ∷ []) (spot s h c d a) (spot s' h c' d a)
    walked_writes_last asked client left answer o closing shut over found updates =
        let y : Channel T = record { stream = left.stream; held = []; waits = left.unsent; closing = left.closing; gone = is_gone answer } in
        let z : Channel T = record (of_client client) { stream = left.stream; waits = left_after answer client.unsent; gone = is_gone answer } in
        let now : y ≡ z = λ j. record { stream = left.stream; held = []; waits = o.left_is j; closing = closing j; gone = is_gone answer } in
        let flows = client_twice (IsWritten client.stream o.offered answer left.stream) asked client y found updates
        (record { same = refl; fresh = refl; some = o.some; first = o.first; within = o.within; now = ap (λ (x : Channel T). Some x) now }) (record { over = over; shut = shut; now = refl }) in
        record {
          asked = (s', o.asked, (s', refl, refl));
          done = (h, refl, (h, refl, refl));
          moment = (tt, (tt, tt));
          flows = λ name. let f = flows name in (f.0, f.1, (channel_at name (spot s' h c' d a), f.2, refl));
        }

  -- ---- links

  -- the line of one name among the channels of a place, and what becomes of it
  pub record Lined (self : Watched) (p p' : Place S H T) (line : Line T) (slot : Option (Line T)) : Type 1 where
    pub once : (does : Channel T → Option (Channel T) → Type 0) → does (of_line line) (option_map of_line slot) → (name : Watched) → IsOf (is_same self name) does (channel_at name p) (channel_at name p')
    pub twice : (does next : Channel T → Option (Channel T) → Type 0) (y : Channel T) → does (of_line line) (Some y) → next y (option_map of_line slot)
        → (name : Watched) → (m : Option (Channel T)) × IsOf (is_same self name) does (channel_at name p) m × IsOf (is_same self name) next m (channel_at name p')

  pub link_lined : (s s' : S) (h : H) (c : Slab (Client T)) (d : List (Option (Line T))) (a a' : Slab (Line T)) (key : ℕ) (line : Line T) (slot : Option (Line T)) → get a key ≡ Some line → Updates a a' key slot
      → Lined (watched.Link key) (spot s h c d a) (spot s' h c d a') line slot
  link_lined s s' h c d a a' key line slot found updates = record {
    once = λ does is name. once does is name;
    twice = λ does next y is on name. twice does next y is on name;
  }
    where
      once : (does : Channel T → Option (Channel T) → Type 0) → does (of_line line) (option_map of_line slot) → (name : Watched) → IsOf (is_same (watched.Link key) name) does (channel_at name (spot s h c d a)) (channel_at name (spot s' h c d a'))
      once does is (watched.Client other) = refl
      once does is (watched.Link other) = found_touched of_line (get a) (get a') key slot updates.changed updates.others does line found is other
      once does is (watched.Peer other) = refl

      twice : (does next : Channel T → Option (Channel T) → Type 0) (y : Channel T) → does (of_line line) (Some y) → next y (option_map of_line slot)
          → (name : Watched) → (m : Option (Channel T)) × IsOf (is_same (watched.Link key) name) does (channel_at name (spot s h c d a)) m × IsOf (is_same (watched.Link key) name) next m (channel_at name (spot s' h c d a'))
      twice does next y is on (watched.Client other) = (channel_at (watched.Client other) (spot s h c d a), refl, refl)
      twice does next y is on (watched.Link other) = found_twice of_line (get a) (get a') key slot updates.changed updates.others does next line y found is on other
      twice does next y is on (watched.Peer other) = (channel_at (watched.Peer other) (spot s h c d a), refl, refl)

  pub peer_lined : (s s' : S) (h : H) (c : Slab (Client T)) (d d' : List (Option (Line T))) (a : Slab (Line T)) (peer : ℕ) (line : Line T) (slot : Option (Line T)) → link_of d peer ≡ Some line → Relinks d d' peer slot
      → Lined (watched.Peer peer) (spot s h c d a) (spot s' h c d' a) line slot
  peer_lined s s' h c d d' a peer line slot found updates = record {
    once = λ does is name. once does is name;
    twice = λ does next y is on name. twice does next y is on name;
  }
    where
      once : (does : Channel T → Option (Channel T) → Type 0) → does (of_line line) (option_map of_line slot) → (name : Watched) → IsOf (is_same (watched.Peer peer) name) does (channel_at name (spot s h c d a)) (channel_at name (spot s' h c d' a))
      once does is (watched.Client other) = refl
      once does is (watched.Link other) = refl
      once does is (watched.Peer other) = found_touched of_line (link_of d) (link_of d') peer slot updates.changed updates.others does line found is other

      twice : (does next : Channel T → Option (Channel T) → Type 0) (y : Channel T) → does (of_line line) (Some y) → next y (option_map of_line slot)
          → (name : Watched) → (m : Option (Channel T)) × IsOf (is_same (watched.Peer peer) name) does (channel_at name (spot s h c d a)) m × IsOf (is_same (watched.Peer peer) name) next m (channel_at name (spot s' h c d' a))
      twice does next y is on (watched.Client other) = (channel_at (watched.Client other) (spot s h c d a), refl, refl)
      twice does next y is on (watched.Link other) = (channel_at (watched.Link other) (spot s h c d a), refl, refl)
      twice does next y is on (watched.Peer other) = found_twice of_line (link_of d) (link_of d') peer slot updates.changed updates.others does next line y found is on other

  -- a new one
  pub walked_links : (s s' : S) (h : H) (c : Slab (Client T)) (d : List (Option (Line T))) (a a' : Slab (Line T)) (key : ℕ) (stream : T) → watches s stream (watched.Link key) true s' → get a key ≡ None → Updates a a' key (Some (fresh_line stream))
      → Walked (Watches (watched.Link key) stream true ∷ []) (spot s h c d a) (spot s' h c d a')
  walked_links s s' h c d a a' key stream is free updates = walked_one (Watches (watched.Link key) stream true) (spot s h c d a) (spot s' h c d a') is refl tt flows
    where
      flows : (name : Watched) → IsNew (is_same (watched.Link key) name) stream (channel_at name (spot s h c d a)) (channel_at name (spot s' h c d a'))
      flows (watched.Client other) = refl
      flows (watched.Link other) = found_new of_line (get a) (get a') key (Some (fresh_line stream)) updates.changed updates.others (fresh_line stream) stream free refl refl other
      flows (watched.Peer other) = refl

  pub walked_reaches : (s s' : S) (h : H) (c : Slab (Client T)) (d d' : List (Option (Line T))) (a : Slab (Line T)) (peer : ℕ) (stream : T) → watches s stream (watched.Peer peer) true s' → link_of d peer ≡ None → Relinks d d' peer (Some (fresh_line stream))
      → Walked (Watches (watched.Peer peer) stream true ∷ []) (spot s h c d a) (spot s' h c d' a)
  walked_reaches s s' h c d d' a peer stream is free updates = walked_one (Watches (watched.Peer peer) stream true) (spot s h c d a) (spot s' h c d' a) is refl tt flows
    where
      flows : (name : Watched) → IsNew (is_same (watched.Peer peer) name) stream (channel_at name (spot s h c d a)) (channel_at name (spot s' h c d' a))
      flows (watched.Client other) = refl
      flows (watched.Link other) = refl
      flows (watched.Peer other) = found_new of_line (link_of d) (link_of d') peer (Some (fresh_line stream)) updates.changed updates.others (fresh_line stream) stream free refl refl other

  -- ---- what is read of a link, and written

  module _ (self : Watched) (p p' : Place S H T) (line : Line T) (same : p'.reach.near.handler ≡ p.reach.near.handler) where
    pub walked_line_read : (left : Line T) (answer : Answer) (bytes : List ℕ) (frames : List (Vec ℕ Global)) (goes_on more : Bool) → Lined self p p' line (left_if goes_on left) → reads p.reach.sockets line.stream answer bytes p'.reach.sockets left.stream
        → IsTaken answer bytes line.held frames left.held goes_on more → left.unsent ≡ line.unsent → Walked (Reading self line answer bytes frames goes_on left) p p'
    walked_line_read left answer bytes frames true more lined is taken unsent =
        let now : of_line left ≡ record (of_line line) { stream = left.stream; held = left.held } = λ j. record { stream = left.stream; held = left.held; waits = unsent j; closing = false; gone = false } in
        walked_one (Reads_link self line.stream answer bytes frames true left.stream) p p' is same tt
        (lined.once (IsLinkRead line.stream answer bytes frames true left.stream) (record { same = refl; fresh = refl; held = left.held; more = more; cut = taken; now = ap (λ (x : Channel T). Some x) now }))
    walked_line_read left answer bytes frames false more lined is taken unsent =
        let y : Channel T = record (of_line line) { stream = left.stream; held = left.held; gone = true } in
        let flows = lined.twice (IsLinkRead line.stream answer bytes frames false left.stream) (IsLetGo (most self) false) y
        (record { same = refl; fresh = refl; held = left.held; more = more; cut = taken; now = refl }) (record { over = inl refl; shut = refl; now = refl }) in
        record {
          asked = (p'.reach.sockets, is, (p'.reach.sockets, refl, refl));
          done = (p.reach.near.handler, refl, (p'.reach.near.handler, same, refl));
          moment = (tt, (tt, tt));
          flows = λ name. let f = flows name in (f.0, f.1, (channel_at name p', f.2, refl));
        }

    module _ (left : Line T) (answer : Answer) (o : Offers writes line.unsent p.reach.sockets line.stream answer left.unsent p'.reach.sockets left.stream) (held : left.held ≡ line.held) where
      pub walked_line_written : is_gone answer ≡ false → Lined self p p' line (Some left) → Walked (Writes self line.stream o.offered answer left.stream ∷ []) p p'
      walked_line_written stays lined =
          let now : of_line left ≡ record (of_line line) { stream = left.stream; waits = left_after answer line.unsent; gone = is_gone answer } =
          λ j. record { stream = left.stream; held = held j; waits = o.left_is j; closing = false; gone = sym stays j } in
          walked_one (Writes self line.stream o.offered answer left.stream) p p' o.asked same tt
          (lined.once (IsWritten line.stream o.offered answer left.stream) (record { same = refl; fresh = refl; some = o.some; first = o.first; within = o.within; now = ap (λ (x : Channel T). Some x) now }))

      pub walked_line_last : (is_gone answer ≡ true) ⊎ (most self < length left.unsent) → Lined self p p' line None → Walked (Writes self line.stream o.offered answer left.stream ∷ Lets_go self false ∷ []) p p'
      walked_line_last over lined =
          let y : Channel T = record { stream = left.stream; held = left.held; waits = left.unsent; closing = false; gone = is_gone answer } in
          let z : Channel T = record (of_line line) { stream = left.stream; waits = left_after answer line.unsent; gone = is_gone answer } in
          let now : y ≡ z = λ j. record { stream = left.stream; held = held j; waits = o.left_is j; closing = false; gone = is_gone answer } in
          let ends : IsOver (most self) y = elim over [ inl gone ↦ inl gone | inr much ↦ inr (inl much) ] in
          let flows = lined.twice (IsWritten line.stream o.offered answer left.stream) (IsLetGo (most self) false) y
          (record { same = refl; fresh = refl; some = o.some; first = o.first; within = o.within; now = ap (λ (x : Channel T). Some x) now }) (record { over = ends; shut = refl; now = refl }) in
          record {
            asked = (p'.reach.sockets, o.asked, (p'.reach.sockets, refl, refl));
            done = (p.reach.near.handler, refl, (p'.reach.near.handler, same, refl));
            moment = (tt, (tt, tt));
            flows = λ name. let f = flows name in (f.0, f.1, (channel_at name p', f.2, refl));
          }
