-- The steps of links as calls, with what they bring and tell.
use Rattle.std.proofs.Common.{◌≡◌, ◌<◌, ◌-◌, ◌&&◌, not, is_some, ◌⊎◌, ℕ, List, [], ◌∷◌, ◌++◌, map, Bool, true, false, eqb, leb, ltb, eqb-true, if◌then◌else◌, Option, Some, None, Vec, length, append-nil, refl, sym, ap, subst, ◌∙◌, inl, inr, arith}
use Rattle.std.proofs.lemmas.Bool.Decides.{eqb_tells, nat_tests}
use Rattle.std.proofs.lemmas.List.Concat.{flat_map-append}
use Rattle.std.specs.Prelude.{option_map, flat_map}
use Rattle.std.specs.declared.alloc.Global.{Global}
use Rattle.std.specs.declared.net.socket_addr.SocketAddr.{SocketAddr}
use Rattle.slab.specs.Slab.{Slab, get}
use Rattle.broker_sockets.specs.Answers.{Offers}
use Rattle.broker_sockets.specs.declared.bridge.Given.{Given}
use Rattle.broker_sockets.specs.declared.bridge.PeerEvent.{PeerEvent}
use Rattle.broker_sockets.specs.declared.bridge.PeerEventKind.TheVariants.{Linked, More, Ship}
use Rattle.broker_sockets.specs.declared.events.Event.{Event}
use Rattle.broker_sockets.specs.declared.events.Output.{Output}
use Rattle.broker_sockets.specs.declared.network.Answer.{Answer}
use Rattle.broker_sockets.specs.declared.network.Answer.TheVariants.{Later, Bytes, Gone}
use Rattle.broker_sockets.specs.declared.ready.Ready.{Ready}
use Rattle.broker_sockets.specs.declared.ready.Watched.{Watched}
use Rattle.broker_sockets.specs.declared.ready.Watched.TheVariants as watched
use Rattle.broker_turns.specs.declared.clients.Client.{Client}
use Rattle.broker_turns.specs.declared.lines.Line.{Line}
use Rattle.broker_turns.specs.declared.setting.Setting.{Setting}
use Rattle.broker_turns.specs.Bridging.{HearsAll, IsAdmitted, IsBegunBy, IsDialledAt, IsDialledIf, IsDialledOnce, IsLinkAccepted, IsLinkReadIn, IsLinkWrittenIn, IsMarked, IsNoLinkAccepted, IsPeerReadIn, IsShipped, IsShippedIf, IsWatchedIf, LineTried, Near, Place, Reach, Relinks, Search, goes_on_by, left_if, peer_event, place}
use Rattle.broker_turns.specs.Handling.Told.{Of_peer}
use Rattle.broker_turns.specs.Lines.{asks_for, is_due, link_of, marked, takes_more}
use Rattle.law_serving.specs.Calls.{Accepts_link, Call, Dials, Finds, IsAmong, IsFinding, Lets_go, News, Rests, Tells, Through, Watches, Writes, beats, brings, framed, news_closed, tells_of, writes_to}
use Rattle.law_serving.specs.Channels.{Channel, Holds, IsReadOrShut, channel_at, is_gone, is_same, of_client, of_line}
use Rattle.law_serving.proofs.Attending.{IsThere}
use Rattle.law_serving.proofs.Giving.{found_still, if_map}
use Rattle.law_serving.proofs.Tracing.{Asked, Traced, Walks, and_both, heard_all, holds_at, none_waits, same_number, still, trace_none, trace_over, traced, walks}
use Rattle.law_serving.proofs.Walking.{Reading, link_lined, peer_lined, spot, walked_accepts_link, walked_dials, walked_finds, walked_hearing, walked_line_last, walked_line_read, walked_line_written, walked_links, walked_reaches, walked_unwatched}

more-not-leb : (n m : ℕ) → leb n m ≡ false → m < n
more-not-leb n m is = grind (arith, is, nat_tests)

second : (a b c d : Bool) → (a && b && c && d) ≡ true → b ≡ true
second a true c d all = refl
second true false c d all = absurd (let z : false ≡ true = all in cc)
second false false c d all = absurd (let z : false ≡ true = all in cc)

below : (n m : ℕ) → ltb n m ≡ true → n < m
below n m is = grind (arith, is, nat_tests)

-- what a link comes to that was written
goes_means : (answer : Answer) (n : ℕ) → goes_on_by (Some answer) n ≡ false → (is_gone answer ≡ true) ⊎ (536870912 < n)
goes_means Later n is = inr (more-not-leb n 536870912 is)
goes_means (Bytes k) n is = inr (more-not-leb n 536870912 is)
goes_means Gone n is = inl refl

stays_means : (answer : Answer) (n : ℕ) → goes_on_by (Some answer) n ≡ true → is_gone answer ≡ false
stays_means Later n is = refl
stays_means (Bytes k) n is = refl
stays_means Gone n is = absurd cc

module _ {T : Type 0} where
  marked_same : (at : ℕ) (o : Option (Line T)) → option_map of_line (option_map (marked at) o) ≡ option_map of_line o
  marked_same at None = refl
  marked_same at (Some line) =
      ap (λ (x : Channel T). Some x) (if_map of_line (eqb (length line.unsent) 0) line (record line { asked = Some at }) ∙ both (eqb (length line.unsent) 0) (of_line line))
    where
      both : (b : Bool) (x : Channel T) → (if b then x else x) ≡ x
      both true x = refl
      both false x = refl

module _
    {S H L T : Type 0} (accepts : S → L → Option T → S → Type 0) (watches : S → T → Watched → Bool → S → Type 0) (connects : S → SocketAddr → Option T → S → Type 0)
    (reads : S → T → Answer → List ℕ → S → T → Type 0) (writes : S → T → List ℕ → Answer → S → T → Type 0) (finds : S → Ready → S → Type 0)
    (handles : H → Event → List Output → H → Type 0) (hears : H → PeerEvent → Given → H → Type 0) (settles : H → H → Type 0)
    (setting : Setting L) (at : ℕ) where
  abbrev Made : Bool → Place S H T → Place S H T → Type 0
  Made out p p' = Traced accepts watches connects reads writes finds handles hears settles setting at out [] p p'

  abbrev Goes_by : List (Call T) → Place S H T → Place S H T → Type 0
  Goes_by calls p p' = Walks accepts watches connects reads writes finds handles hears settles setting at calls p p'

  made : (calls : List (Call T)) (p p' : Place S H T) → Goes_by calls p p' → flat_map tells_of calls ≡ flat_map brings calls → flat_map beats calls ≡ [] → flat_map writes_to calls ≡ [] → Made false p p'
  made calls p p' w news time none = traced accepts watches connects reads writes finds handles hears settles setting at false [] calls p p' w news time none

  made_out : (calls : List (Call T)) (p p' : Place S H T) → Goes_by calls p p' → flat_map tells_of calls ≡ flat_map brings calls → flat_map beats calls ≡ [] → Through Rests calls true true → Made true p p'
  made_out calls p p' w news time rests = traced accepts watches connects reads writes finds handles hears settles setting at true [] calls p p' w news time rests

  made_over : (a b c : Place S H T) → Made false a b → Made false b c → Made false a c
  made_over a b c p q = trace_over accepts watches connects reads writes finds handles hears settles setting at false [] [] a b c p q

  made_none : (out : Bool) (p p' : Place S H T) → p' ≡ p → Made out p p'
  made_none out p p' same = trace_none accepts watches connects reads writes finds handles hears settles setting at out p p' same

  goes : (xs ys : List (Call T)) (a b c : Place S H T) → Goes_by xs a b → Goes_by ys b c → Goes_by (xs ++ ys) a c
  goes xs ys a b c first more = walks accepts watches connects reads writes finds handles hears settles setting at xs ys a b c first more

  -- ---- links that are accepted

  module _ (n : Near H T) where
    abbrev pub of_links : S × Slab (Line T) → Place S H T
    of_links w = place w.0 n w.1

    admitted : (watchable : Bool) (stream : T) (key : ℕ) (s asked s' : S) (a a' : Slab (Line T)) → accepts s setting.bridge (Some stream) asked → watches asked stream (watched.Link key) watchable s' → get a key ≡ None
        → IsAdmitted accepts watches setting.bridge watchable stream key a a' → Made false (place s n a) (place s' n a')
    admitted true stream key s asked s' a a' came watch free is =
        let first = walked_accepts_link accepts watches connects reads writes finds handles hears settles setting at s asked n.handler n.clients n.dialled a (Some stream) came in
        let opens = walked_links accepts watches connects reads writes finds handles hears settles setting at asked s' n.handler n.clients n.dialled a a' key stream watch free is in
        made (Accepts_link (Some stream) ∷ Watches (watched.Link key) stream true ∷ []) (place s n a) (place s' n a')
        (goes (Accepts_link (Some stream) ∷ []) (Watches (watched.Link key) stream true ∷ []) (place s n a) (place asked n a) (place s' n a') first opens) refl refl refl
    admitted false stream key s asked s' a a' came watch free same =
        let first = walked_accepts_link accepts watches connects reads writes finds handles hears settles setting at s asked n.handler n.clients n.dialled a (Some stream) came in
        let none = walked_unwatched accepts watches connects reads writes finds handles hears settles setting at asked s' n.handler n.clients n.dialled a (watched.Link key) stream watch in
        made_over (place s n a) (place s' n a) (place s' n a')
        (made (Accepts_link (Some stream) ∷ Watches (watched.Link key) stream false ∷ []) (place s n a) (place s' n a)
        (goes (Accepts_link (Some stream) ∷ []) (Watches (watched.Link key) stream false ∷ []) (place s n a) (place asked n a) (place s' n a) first none) refl refl refl)
        (made_none false (place s' n a) (place s' n a') (ap (λ (b : Slab (Line T)). place s' n b) same))

    pub link_accepted : (w w' : S × Slab (Line T)) → IsLinkAccepted accepts watches setting.bridge w w' → Made false (of_links w) (of_links w')
    link_accepted w w' is = admitted is.watchable is.stream is.key w.0 is.asked w'.0 w.1 w'.1 is.answered is.watched is.free is.admitted

    pub no_link_accepted : (w w' : S × Slab (Line T)) → IsNoLinkAccepted accepts watches setting.bridge w w' → Made false (of_links w) (of_links w')
    no_link_accepted w w' is =
        made_over (of_links w) (place w'.0 n w.1) (of_links w')
        (made (Accepts_link None ∷ []) (of_links w) (place w'.0 n w.1)
        (walked_accepts_link accepts watches connects reads writes finds handles hears settles setting at w.0 w'.0 n.handler n.clients n.dialled w.1 None is.answered) refl refl refl)
        (made_none false (place w'.0 n w.1) (of_links w') (ap (λ (b : Slab (Line T)). place w'.0 n b) is.links))

  -- ---- links that are read

  reading_brings : (self : Watched) → news_closed T self false ≡ [] → (line : Line T) (answer : Answer) (bytes : List ℕ) (frames : List (Vec ℕ Global)) (goes_on : Bool) (left : Line T) → flat_map brings (Reading self line answer bytes frames goes_on left) ≡ map (framed T) frames
  reading_brings self none line answer bytes frames true left = append-nil (map (framed T) frames)
  reading_brings self none line answer bytes frames false left = ap (λ (ns : List (News T)). map (framed T) frames ++ (ns ++ [])) none ∙ append-nil (map (framed T) frames)

  reading_tells : (self : Watched) (line : Line T) (answer : Answer) (bytes : List ℕ) (frames : List (Vec ℕ Global)) (goes_on : Bool) (left : Line T) → flat_map tells_of (Reading self line answer bytes frames goes_on left) ≡ []
  reading_tells self line answer bytes frames true left = refl
  reading_tells self line answer bytes frames false left = refl

  reading_beats : (self : Watched) (line : Line T) (answer : Answer) (bytes : List ℕ) (frames : List (Vec ℕ Global)) (goes_on : Bool) (left : Line T) → flat_map beats (Reading self line answer bytes frames goes_on left) ≡ []
  reading_beats self line answer bytes frames true left = refl
  reading_beats self line answer bytes frames false left = refl

  reading_writes : (self : Watched) (line : Line T) (answer : Answer) (bytes : List ℕ) (frames : List (Vec ℕ Global)) (goes_on : Bool) (left : Line T) → flat_map writes_to (Reading self line answer bytes frames goes_on left) ≡ []
  reading_writes self line answer bytes frames true left = refl
  reading_writes self line answer bytes frames false left = refl

  reading_reads : (self : Watched) (line : Line T) (answer : Answer) (bytes : List ℕ) (frames : List (Vec ℕ Global)) (goes_on : Bool) (left : Line T) (more : List (Call T)) → is_same self self ≡ true → IsAmong (IsReadOrShut self) (Reading self line answer bytes frames goes_on left ++ more)
  reading_reads self line answer bytes frames true left more its = inl its
  reading_reads self line answer bytes frames false left more its = inl its

  -- its stream is asked for what it has
  abbrev Asks : Watched → Place S H T → Place S H T → Type 0
  Asks name p p' = (t : Made false p p') × IsAmong (IsReadOrShut name) t.0

  -- it is read, and its frames are handed over
  read_and_heard : (self : Watched) → is_same self self ≡ true → news_closed T self false ≡ [] → (p : Place S H T) (s' : S) (n n' : Near H T) (a : Slab (Line T)) (line left : Line T) (answer : Answer) (bytes : List ℕ) (frames : List (Vec ℕ Global)) (goes_on : Bool)
      → Goes_by (Reading self line answer bytes frames goes_on left) p (place s' n a) → HearsAll hears at frames n n' → Asks self p (place s' n' a)
  unfolding made
  read_and_heard self its none p s' n n' a line left answer bytes frames goes_on read all =
      let hs = heard_all accepts watches connects reads writes finds handles hears settles setting at frames s' a n n' all in
      let calls = Reading self line answer bytes frames goes_on left in
      let made_here = made (calls ++ hs.calls) p (place s' n' a) (goes calls hs.calls p (place s' n a) (place s' n' a) read hs.walk)
      (flat_map-append tells_of calls hs.calls ∙ ap (λ (ns : List (News T)). ns ++ flat_map tells_of hs.calls) (reading_tells self line answer bytes frames goes_on left) ∙ hs.tells
      ∙ sym (flat_map-append brings calls hs.calls ∙ ap (λ (ns : List (News T)). flat_map brings calls ++ ns) hs.brings ∙ append-nil (flat_map brings calls) ∙ reading_brings self none line answer bytes frames goes_on left))
      (flat_map-append beats calls hs.calls ∙ ap (λ (es : List Event). es ++ flat_map beats hs.calls) (reading_beats self line answer bytes frames goes_on left) ∙ hs.beats)
      (flat_map-append writes_to calls hs.calls ∙ ap (λ (ns : List Watched). ns ++ flat_map writes_to hs.calls) (reading_writes self line answer bytes frames goes_on left) ∙ hs.unwritten) in
      (made_here, reading_reads self line answer bytes frames goes_on left hs.calls its)

  abbrev Asked_if : Option (Line T) → Watched → Place S H T → Place S H T → Type 0
  Asked_if o name p p' = Asked accepts watches connects reads writes finds handles hears settles setting at (IsThere o) name p p'

  pub link_read_in : (key : ℕ) (o : Option (Line T)) (p : Place S H T) (more : Bool) (p' : Place S H T) → get p.accepted key ≡ o → IsLinkReadIn reads hears at o key p more p' → Asked_if o (watched.Link key) p p'
  link_read_in key None p more p' found is = (made_none false p p' is.0, λ never. absurd never)
  link_read_in key (Some line) p more p' found is =
      let r = is.read in
      let n = p.reach.near in
      let s' = p'.reach.sockets in
      let lined = link_lined accepts watches connects reads writes finds handles hears settles setting at p.reach.sockets s' n.handler n.clients n.dialled p.accepted p'.accepted key line (left_if is.goes_on is.left) found is.kept in
      let walk = walked_line_read accepts watches connects reads writes finds handles hears settles setting at (watched.Link key) p (place s' n p'.accepted) line refl is.left r.answer r.bytes is.frames is.goes_on more lined r.asked r.taken r.unsent in
      let one = read_and_heard (watched.Link key) (same_number key) refl p s' n p'.reach.near p'.accepted line is.left r.answer r.bytes is.frames is.goes_on walk is.heard in
      (one.0, λ _. one.1)

  module _ (a : Slab (Line T)) where
    abbrev pub of_reach : Reach S H T → Place S H T
    of_reach r = place r.sockets r.near a

    pub peer_read_in : (peer : ℕ) (o : Option (Line T)) (r : Reach S H T) (more : Bool) (r' : Reach S H T) → link_of r.near.dialled peer ≡ o → IsPeerReadIn reads hears at o peer r more r' → Asked_if o (watched.Peer peer) (of_reach r) (of_reach r')
    peer_read_in peer None r more r' found is = (made_none false (of_reach r) (of_reach r') (ap of_reach is.0), λ never. absurd never)
    peer_read_in peer (Some line) r more r' found is =
        let rd = is.read in
        let n = r.near in
        let between = record n { dialled = is.links } in
        let lined = peer_lined accepts watches connects reads writes finds handles hears settles setting at r.sockets r'.sockets n.handler n.clients n.dialled is.links a peer line (left_if is.goes_on is.left) found is.kept in
        let walk = walked_line_read accepts watches connects reads writes finds handles hears settles setting at (watched.Peer peer) (of_reach r) (place r'.sockets between a) line refl is.left rd.answer rd.bytes is.frames is.goes_on more lined rd.asked rd.taken rd.unsent in
        let one = read_and_heard (watched.Peer peer) (same_number peer) refl (of_reach r) r'.sockets between r'.near a line is.left rd.answer rd.bytes is.frames is.goes_on walk is.heard in
        (one.0, λ _. one.1)

    -- ---- peers that are dialled

    begun : (came stream : Option T) (address : SocketAddr) (peer : ℕ) (s asked s' : S) (n n' : Near H T) → link_of n.dialled peer ≡ None → connects s address came asked → IsWatchedIf connects watches came peer asked stream s'
        → IsBegunBy connects watches hears at stream peer n n' → Made false (place s n a) (place s' n' a)
    begun None stream address peer s asked s' n n' free dials watch is =
        let By : Option T → Type 0 = λ o. IsBegunBy connects watches hears at o peer n n' in
        let same : n' ≡ n = subst By watch.0 is in
        made_over (place s n a) (place asked n a) (place s' n' a)
        (made (Dials address None ∷ []) (place s n a) (place asked n a) (walked_dials accepts watches connects reads writes finds handles hears settles setting at s asked n.handler n.clients n.dialled a address None dials) refl refl refl)
        (made_none false (place asked n a) (place s' n' a) (λ j. place (watch.1 j) (same j) a))
    begun (Some came) stream address peer s asked s' n n' free dials watch is =
        let first = walked_dials accepts watches connects reads writes finds handles hears settles setting at s asked n.handler n.clients n.dialled a address (Some came) dials in
        watched_by watch.0 watch.1 watch.2 first
      where
        watched_by : (watchable : Bool) → watches asked came (watched.Peer peer) watchable s' → stream ≡ (if watchable then Some came else None) → Goes_by (Dials address (Some came) ∷ []) (place s n a) (place asked n a) → Made false (place s n a) (place s' n' a)
        watched_by true watch known first =
            let By : Option T → Type 0 = λ o. IsBegunBy connects watches hears at o peer n n' in
            let on = subst By known is in
            let between = record n { dialled = on.0 } in
            let call = Tells (Of_peer (peer_event at (Linked peer)) on.2.given) in
            let opens = walked_reaches accepts watches connects reads writes finds handles hears settles setting at asked s' n.handler n.clients n.dialled on.0 a peer came watch free on.1 in
            let tells = walked_hearing accepts watches connects reads writes finds handles hears settles setting at (peer_event at (Linked peer)) s' between n' a on.2 refl (λ name. tt) in
            made (Dials address (Some came) ∷ Watches (watched.Peer peer) came true ∷ call ∷ []) (place s n a) (place s' n' a)
            (goes (Dials address (Some came) ∷ []) (Watches (watched.Peer peer) came true ∷ call ∷ []) (place s n a) (place asked n a) (place s' n' a) first
            (goes (Watches (watched.Peer peer) came true ∷ []) (call ∷ []) (place asked n a) (place s' between a) (place s' n' a) opens tells)) refl refl refl
        watched_by false watch known first =
            let By : Option T → Type 0 = λ o. IsBegunBy connects watches hears at o peer n n' in
            let same : n' ≡ n = subst By known is in
            let none = walked_unwatched accepts watches connects reads writes finds handles hears settles setting at asked s' n.handler n.clients n.dialled a (watched.Peer peer) came watch in
            made_over (place s n a) (place s' n a) (place s' n' a)
            (made (Dials address (Some came) ∷ Watches (watched.Peer peer) came false ∷ []) (place s n a) (place s' n a)
            (goes (Dials address (Some came) ∷ []) (Watches (watched.Peer peer) came false ∷ []) (place s n a) (place asked n a) (place s' n a) first none) refl refl refl)
            (made_none false (place s' n a) (place s' n' a) (ap (λ (m : Near H T). place s' m a) same))

    abbrev pub of_search : Search S H T → Place S H T
    of_search q = of_reach q.reach

    dialled_once : (rested : Bool) (address : SocketAddr) (peer : ℕ) (q q' : Search S H T) → link_of q.reach.near.dialled peer ≡ None → IsDialledOnce connects watches hears at rested address peer q q' → Made false (of_search q) (of_search q')
    dialled_once true address peer q q' free is =
        begun is.answered.came is.stream address peer q.reach.sockets is.answered.asked q'.reach.sockets q.reach.near q'.reach.near free is.answered.answered is.answered.watched is.begun
    dialled_once false address peer q q' free same = made_none false (of_search q) (of_search q') (ap of_search same)

    dialled_if : (o : Option (Line T)) (address : SocketAddr) (peer : ℕ) (q q' : Search S H T) → link_of q.reach.near.dialled peer ≡ o → IsDialledIf connects watches hears at o address peer q q' → Made false (of_search q) (of_search q')
    dialled_if None address peer q q' found is = dialled_once _ address peer q q' found is
    dialled_if (Some line) address peer q q' found same = made_none false (of_search q) (of_search q') (ap of_search same)

    pub dialled_at : (o : Option SocketAddr) (peer : ℕ) (q q' : Search S H T) → IsDialledAt connects watches hears at o peer q q' → Made false (of_search q) (of_search q')
    dialled_at None peer q q' same = made_none false (of_search q) (of_search q') (ap of_search same)
    dialled_at (Some address) peer q q' is = dialled_if (link_of q.reach.near.dialled peer) address peer q q' refl is

    -- ---- peers that are asked for

    marked_still : (s : S) (n n' : Near H T) (peer : ℕ) → IsMarked at peer n n' → (name : Watched) → channel_at name (place s n' a) ≡ channel_at name (place s n a)
    marked_still s n n' peer is (watched.Client other) = ap (λ (c : Slab (Client T)). option_map of_client (get c other)) is.clients
    marked_still s n n' peer is (watched.Link other) = refl
    marked_still s n n' peer is (watched.Peer other) = elim (eqb_tells peer other) [
      | inl agree ↦
          ap (λ (k : ℕ). option_map of_line (link_of n'.dialled k)) (sym agree.1) ∙ ap (λ (o : Option (Line T)). option_map of_line o) is.links.changed ∙ marked_same at (link_of n.dialled peer)
          ∙ ap (λ (k : ℕ). option_map of_line (link_of n.dialled k)) agree.1
      | inr differ ↦ ap (λ (o : Option (Line T)). option_map of_line o) (is.links.others other (λ same. differ.1 (sym same)))
    ]

    module _ (s : S) where
      abbrev pub of_near : Near H T → Place S H T
      of_near n = place s n a

      for_peer : (is : Channel T → Type 0) (peer : ℕ) (line : Line T) (n : Near H T) → link_of n.dialled peer ≡ Some line → is (of_line line) → (name : Watched) → Holds (is_same (watched.Peer peer) name) is (channel_at name (of_near n))
      for_peer is peer line n found so (watched.Client other) = tt
      for_peer is peer line n found so (watched.Link other) = tt
      for_peer is peer line n found so (watched.Peer other) =
          holds_at (eqb peer other) is (channel_at (watched.Peer other) (of_near n))
          (λ agree. (of_line line, ap (λ (k : ℕ). option_map of_line (link_of n.dialled k)) (sym (eqb-true peer other agree)) ∙ ap (λ (o : Option (Line T)). option_map of_line o) found, so))

      shipped_if : (due more : Bool) (peer : ℕ) (line : Line T) (n n' : Near H T) → is_due at line ≡ due → takes_more line ≡ more → link_of n.dialled peer ≡ Some line
          → IsShippedIf hears at (if due then Some (Ship peer) else if more then Some (More peer line.sent) else None) peer n n' → Made false (of_near n) (of_near n')
      shipped_if true more peer line n n' due takes found is =
          let call = Tells (Of_peer (peer_event at (Ship peer)) is.1.given) in
          let none : line.unsent ≡ [] = none_waits line.unsent (and_both _ _ (and_both _ _ due).1).0 in
          let tells = walked_hearing accepts watches connects reads writes finds handles hears settles setting at (peer_event at (Ship peer)) s n is.0 a is.1 refl (for_peer (λ (x : Channel T). x.waits ≡ []) peer line n found none) in
          let last = still accepts watches connects reads writes finds handles hears settles setting at (of_near is.0) (of_near n') refl is.2.handler (marked_still s is.0 n' peer is.2) in
          made (call ∷ []) (of_near n) (of_near n') (goes (call ∷ []) [] (of_near n) (of_near is.0) (of_near n') tells last) refl refl refl
      shipped_if false true peer line n n' due takes found is =
          let call = Tells (Of_peer (peer_event at (More peer line.sent)) is.1.given) in
          let few : length line.unsent < 65536 = below (length line.unsent) 65536 (second (is_some line.asked) (ltb (length line.unsent) 65536) (not line.awaited) (ltb (line.sent - line.got) 16384) takes) in
          let tells = walked_hearing accepts watches connects reads writes finds handles hears settles setting at (peer_event at (More peer line.sent)) s n is.0 a is.1 refl (for_peer (λ (x : Channel T). length x.waits < 65536) peer line n found few) in
          let last = still accepts watches connects reads writes finds handles hears settles setting at (of_near is.0) (of_near n') refl is.2.handler (marked_still s is.0 n' peer is.2) in
          made (call ∷ []) (of_near n) (of_near n') (goes (call ∷ []) [] (of_near n) (of_near is.0) (of_near n') tells last) refl refl refl
      shipped_if false false peer line n n' due takes found same = made_none false (of_near n) (of_near n') (ap of_near same)

      pub shipped_in : (o : Option (Line T)) (peer : ℕ) (n n' : Near H T) → link_of n.dialled peer ≡ o → IsShipped hears at o peer n n' → Made false (of_near n) (of_near n')
      shipped_in None peer n n' found same = made_none false (of_near n) (of_near n') (ap of_near same)
      shipped_in (Some line) peer n n' found is = shipped_if (is_due at line) (takes_more line) peer line n n' refl refl found is

    -- ---- links that are written

    module _ (h : H) (c : Slab (Client T)) where
      abbrev pub of_dialled : S × List (Option (Line T)) → Place S H T
      of_dialled w = spot w.0 h c w.1 a

      line_tried : (goes_on : Bool) (answer : Answer) (line left : Line T) (peer : ℕ) (s s' : S) (d d' : List (Option (Line T))) → link_of d peer ≡ Some line → (o : Offers writes line.unsent s line.stream answer left.unsent s' left.stream) → left.held ≡ line.held
          → goes_on ≡ goes_on_by (Some answer) (length left.unsent) → Relinks d d' peer (left_if goes_on left) → Made true (spot s h c d a) (spot s' h c d' a)
      line_tried true answer line left peer s s' d d' found o held is kept =
          let lined = peer_lined accepts watches connects reads writes finds handles hears settles setting at s s' h c d d' a peer line (Some left) found kept in
          made_out (Writes (watched.Peer peer) line.stream o.offered answer left.stream ∷ []) (spot s h c d a) (spot s' h c d' a)
          (walked_line_written accepts watches connects reads writes finds handles hears settles setting at (watched.Peer peer) (spot s h c d a) (spot s' h c d' a) line refl left answer o held (stays_means answer (length left.unsent) (sym is)) lined) refl refl (true, (refl, refl), refl)
      line_tried false answer line left peer s s' d d' found o held is kept =
          let lined = peer_lined accepts watches connects reads writes finds handles hears settles setting at s s' h c d d' a peer line None found kept in
          made_out (Writes (watched.Peer peer) line.stream o.offered answer left.stream ∷ Lets_go (watched.Peer peer) false ∷ []) (spot s h c d a) (spot s' h c d' a)
          (walked_line_last accepts watches connects reads writes finds handles hears settles setting at (watched.Peer peer) (spot s h c d a) (spot s' h c d' a) line refl left answer o held (goes_means answer (length left.unsent) (sym is)) lined) refl refl (true, (refl, refl), (true, refl, refl))

      line_written : (answer : Option Answer) (goes_on : Bool) (line left : Line T) (peer : ℕ) (s s' : S) (d d' : List (Option (Line T))) → link_of d peer ≡ Some line → LineTried writes s line answer s' left
          → goes_on ≡ goes_on_by answer (length left.unsent) → Relinks d d' peer (left_if goes_on left) → Made true (spot s h c d a) (spot s' h c d' a)
      line_written None goes_on line left peer s s' d d' found t is kept =
          made_out [] (spot s h c d a) (spot s' h c d' a) (still accepts watches connects reads writes finds handles hears settles setting at (spot s h c d a) (spot s' h c d' a) t.1 refl stays) refl refl refl
        where
          slot : left_if goes_on left ≡ Some line
          slot = ap (λ (b : Bool). left_if b left) is ∙ ap (λ (x : Line T). Some x) t.2

          stays : (name : Watched) → channel_at name (spot s' h c d' a) ≡ channel_at name (spot s h c d a)
          stays (watched.Client other) = refl
          stays (watched.Link other) = refl
          stays (watched.Peer other) = found_still of_line (link_of d) (link_of d') peer (left_if goes_on left) kept.changed kept.others line found (ap (λ (o : Option (Line T)). option_map of_line o) slot) other
      line_written (Some answer) goes_on line left peer s s' d d' found t is kept = line_tried goes_on answer line left peer s s' d d' found t.0 t.1 is kept

      pub link_written_in : (o : Option (Line T)) (peer : ℕ) (w w' : S × List (Option (Line T))) → link_of w.1 peer ≡ o → IsLinkWrittenIn writes o peer w.0 w.1 w'.0 w'.1 → Made true (of_dialled w) (of_dialled w')
      link_written_in None peer w w' found is = made_none true (of_dialled w) (of_dialled w') (λ j. spot (is.0 j) h c (is.1 j) a)
      link_written_in (Some line) peer w w' found is =
          line_written is.written.answer is.goes_on line is.left peer w.0 w'.0 w.1 w'.1 found is.written.tried is.written.comes_to is.kept

    pub found_ready : (ready : Ready) (s s' : S) (n : Near H T) → finds s ready s' → (t : Made true (place s n a) (place s' n a)) × IsAmong (IsFinding ready) t.0
    unfolding made_out
    found_ready ready s s' n is = (
      made_out (Finds ready ∷ []) (place s n a) (place s' n a) (walked_finds accepts watches connects reads writes finds handles hears settles setting at s s' n.handler n.clients n.dialled a ready is) refl refl (true, refl, refl),
      inl refl,
    )
