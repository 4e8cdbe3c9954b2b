-- The steps of a turn as calls, with what they bring and tell.
use Rattle.std.proofs.Common.{◌≡◌, ◌≢◌, ◌<◌, ◌-◌, ◌⊎◌, ◌&&◌, ℕ, List, [], ◌∷◌, ◌++◌, map, Bool, true, false, not, eqb, ltb, eqb-true, if◌then◌else◌, Option, Some, None, Vec, length, refl, sym, ap, subst, ◌∙◌, inl, inr, arith}
use Rattle.std.proofs.lemmas.Bool.Decides.{eqb_tells, nat_tests}
use Rattle.std.proofs.lemmas.List.{nil_from_length}
use Rattle.std.proofs.lemmas.List.Concat.{flat_map-append}
use Rattle.std.specs.Prelude.{option_map, flat_map}
use Rattle.std.specs.List.{AllByRecursion}
use Rattle.std.specs.declared.alloc.Global.{Global}
use Rattle.std.specs.declared.net.socket_addr.SocketAddr.{SocketAddr}
use Rattle.slab.specs.Slab.{Slab, get, Updates}
use Rattle.broker_sockets.specs.Answers.{Offers}
use Rattle.broker_sockets.specs.declared.bridge.Given.{Given}
use Rattle.broker_sockets.specs.declared.bridge.PeerEvent.{PeerEvent}
use Rattle.broker_sockets.specs.declared.bridge.PeerEventKind.TheVariants.{Frame}
use Rattle.broker_sockets.specs.declared.events.Event.{Event}
use Rattle.broker_sockets.specs.declared.events.EventKind.{EventKind}
use Rattle.broker_sockets.specs.declared.events.EventKind.TheVariants.{Started, Opened, Piece, Room, Closed, Tick}
use Rattle.broker_sockets.specs.declared.events.Output.{Output}
use Rattle.broker_sockets.specs.declared.events.Output.TheVariants.{Send, Close}
use Rattle.broker_sockets.specs.declared.network.Answer.{Answer}
use Rattle.broker_sockets.specs.declared.network.Answer.TheVariants.{Later, Bytes, Gone}
use Rattle.broker_sockets.specs.declared.ready.Ready.{Ready}
use Rattle.broker_sockets.specs.declared.ready.Watched.{Watched}
use Rattle.broker_sockets.specs.declared.ready.Watched.TheVariants as watched
use Rattle.broker_turns.specs.declared.clients.Client.{Client}
use Rattle.broker_turns.specs.declared.lines.Line.{Line}
use Rattle.broker_turns.specs.declared.setting.Setting.{Setting}
use Rattle.broker_turns.specs.Bridging.{HearsAll, Near, Place, peer_event, place}
use Rattle.broker_turns.specs.Clients.{closed, fresh, room_of, takes_more, told, told_all, told_at}
use Rattle.broker_turns.specs.Connections.{IsAccepted, IsHandled, IsHeard, IsLost, IsNobodyAccepted, IsParted, IsReadIf, IsReadIn, IsRoomIf, IsRoomIn, IsRoomMade, IsWelcomed, IsWroteIn, World, event}
use Rattle.broker_turns.specs.Handling.Told.{Of_client, Of_peer}
use Rattle.broker_turns.specs.Lines.{Noted, again, heard_from, is_from, is_of, link_of, noted, number_in}
use Rattle.broker_turns.specs.Writing.{Tried, fate_by_size, fate_of}
use Rattle.broker_turns.proofs.Rooming.{takes-low}
use Rattle.law_serving.specs.Calls.{Accepts, Accepts_link, Call, Dials, Finds, IsAsked, IsAt, IsDone, Has_come, IsAmong, IsWrittenTo, Is_gone, Lets_go, News, Reads, Reads_link, Rests, Settles, Tells, Through, Watches, Writes, beats, brings, framed, tells_of, writes_to}
use Rattle.law_serving.specs.Channels.{Channel, Goes, Holds, IsFor, IsReadOrShut, TakesMore, channel_at, is_gone, is_same, of_client, of_line}
use Rattle.law_serving.specs.Traces.{IsTrace}
use Rattle.law_serving.proofs.Attending.{IsOpen}
use Rattle.law_serving.proofs.Giving.{found_still, if_map}
use Rattle.law_serving.proofs.Walking.{Walked, all_join, spot, through_join, walked_accepts, walked_drops, walked_handled, walked_hearing, walked_opens, walked_over, walked_reads, walked_reads_last, walked_settles, walked_still, walked_unwatched, walked_writes, walked_writes_last}

-- ---- what a client takes, and what comes of it

and_open : (u b l : Bool) → (u && (not b && l)) ≡ true → b ≡ false
and_open true true l is = absurd cc
and_open true false l is = refl
and_open false b l is = absurd cc

pub and_both : (a b : Bool) → (a && b) ≡ true → (a ≡ true) × (b ≡ true)
and_both true b is = (refl, is)
and_both false b is = absurd cc

pub none_waits : (xs : List ℕ) → eqb (length xs) 0 ≡ true → xs ≡ []
none_waits xs is = nil_from_length xs (eqb-true (length xs) 0 is)

below-all : (n m : ℕ) → ltb n m ≡ true → n < m
below-all n m is = grind (arith, is, nat_tests)

pub among_left : {A : Type 0} (is : A → Type 0) (xs ys : List A) → IsAmong is xs → IsAmong is (xs ++ ys)
among_left is [] ys none = absurd none
among_left is (x ∷ xs) ys some = elim some [ inl here ↦ inl here | inr later ↦ inr (among_left is xs ys later) ]

pub same_number : (n : ℕ) → eqb n n ≡ true
same_number n = elim (eqb_tells n n) [
  | inl agree ↦ agree.0
  | inr differ ↦ absurd (differ.1 refl)
]

append_waits : (xs ys : List ℕ) → xs ≢ [] → (xs ++ ys) ≢ []
append_waits [] ys some none = some refl
append_waits (x ∷ xs) ys some none = absurd cc

module _ {T : Type 0} where
  sent_waits : (its closing : Bool) (bytes : List ℕ) (client : Client T) → client.unsent ≢ [] → (if its then (if closing then client else record client { unsent = client.unsent ++ bytes; untold = true }) else client).unsent ≢ []
  sent_waits true true bytes client waits = waits
  sent_waits true false bytes client waits = append_waits client.unsent bytes waits
  sent_waits false closing bytes client waits = waits

  closed_waits : (its : Bool) (client : Client T) → client.unsent ≢ [] → (if its then closed client else client).unsent ≢ []
  closed_waits true client waits = waits
  closed_waits false client waits = waits

  told_waits : (key : ℕ) (outputs : List Output) (client : Client T) → client.unsent ≢ [] → (told_all key outputs client).unsent ≢ []
  told_waits key [] client waits = waits
  told_waits key (Send connection bytes ∷ more) client waits = told_waits key more (told key (Send connection bytes) client) (sent_waits (eqb connection key) client.closing bytes.items client waits)
  told_waits key (Close connection ∷ more) client waits = told_waits key more (told key (Close connection) client) (closed_waits (eqb connection key) client waits)

  closes_empty : (left : Client T) → (left.closing && eqb (length left.unsent) 0) ≡ true → (left.closing ≡ true) × (left.unsent ≡ [])
  closes_empty left is = let both = and_both left.closing (eqb (length left.unsent) 0) is in (both.0, none_waits left.unsent both.1)

  heard_same : (got know : Bool) (at : ℕ) (frame : List ℕ) (line : Line T)
      → of_line (if got then record line { heard = true; asked = again at line.asked; got = number_in frame }
      else if know then record line { heard = true; asked = again at line.asked; awaited = false } else record line { heard = true }) ≡ of_line line
  heard_same true know at frame line = refl
  heard_same false true at frame line = refl
  heard_same false false at frame line = refl

  noted_same : (peer at : ℕ) (frame : List ℕ) (o : Option (Line T)) → option_map of_line (noted peer at frame o) ≡ option_map of_line o
  noted_same peer at frame None = refl
  noted_same peer at frame (Some line) = ap (λ (x : Channel T). Some x) (by (is_from peer frame))
    where
      by : (b : Bool) → of_line (if b then heard_from at frame line else line) ≡ of_line line
      by true = heard_same (is_of 5 frame) (is_of 3 frame) at frame line
      by false = refl

  pub holds_at : (b : Bool) (is : Channel T → Type 0) (o : Option (Channel T)) → (b ≡ true → (x : Channel T) × (o ≡ Some x) × is x) → Holds b is o
  holds_at true is o agree =
      let at = agree refl in
      let P : Option (Channel T) → Type 0 = λ v. Holds true is v in
      subst P (sym at.1) at.2
  holds_at false is o agree = tt

-- ---- who is written to, and when

module _ {T : Type 0} where
  -- up to when the handler settles nobody is, and after that it rests before and after each step
  abbrev pub Kept : Bool → List (Call T) → Type 0
  Kept false calls = flat_map writes_to calls ≡ []
  Kept true calls = Through Rests calls true true

  pub kept_join : (out : Bool) (xs ys : List (Call T)) → Kept out xs → Kept out ys → Kept out (xs ++ ys)
  kept_join false xs ys first more =
      flat_map-append writes_to xs ys ∙ ap (λ (ns : List Watched). ns ++ flat_map writes_to ys) first ∙ more
  kept_join true xs ys first more = through_join Rests xs ys true true true first more

  -- where nobody is written to it comes to something, whatever was before
  pub rests_by : (calls : List (Call T)) → flat_map writes_to calls ≡ [] → (before : Bool) → (after : Bool) × Through Rests calls before after
  rests_by [] none before = (before, refl)
  rests_by (Accepts stream ∷ calls) none before = let r = rests_by calls none before in (r.0, (before, refl, r.1))
  rests_by (Accepts_link stream ∷ calls) none before = let r = rests_by calls none before in (r.0, (before, refl, r.1))
  rests_by (Dials address stream ∷ calls) none before = let r = rests_by calls none before in (r.0, (before, refl, r.1))
  rests_by (Watches name stream answer ∷ calls) none before = let r = rests_by calls none before in (r.0, (before, refl, r.1))
  rests_by (Reads key stream answer bytes left ∷ calls) none before = let r = rests_by calls none before in (r.0, (before, refl, r.1))
  rests_by (Reads_link name stream answer bytes frames goes_on left ∷ calls) none before = let r = rests_by calls none before in (r.0, (before, refl, r.1))
  rests_by (Writes name stream offered answer left ∷ calls) none before = absurd cc
  rests_by (Lets_go name asked ∷ calls) none before = let r = rests_by calls none before in (r.0, (before, refl, r.1))
  rests_by (Finds ready ∷ calls) none before = let r = rests_by calls none before in (r.0, (before, refl, r.1))
  rests_by (Tells told ∷ calls) none before = let r = rests_by calls none false in (r.0, (false, refl, r.1))
  rests_by (Settles ∷ calls) none before = let r = rests_by calls none true in (r.0, (true, refl, r.1))

pub kept_none : (T : Type 0) (out : Bool) → Kept {T = T} out []
kept_none T false = refl
kept_none T true = refl

-- ---- one trace after another

module _
    {S H L T : Type 0} (accepts : S → L → Option T → S → Type 0) (watches : S → T → Watched → Bool → S → Type 0) (connects : S → SocketAddr → Option T → S → Type 0)
    (reads : S → T → Answer → List ℕ → S → T → Type 0) (writes : S → T → List ℕ → Answer → S → T → Type 0) (finds : S → Ready → S → Type 0)
    (handles : H → Event → List Output → H → Type 0) (hears : H → PeerEvent → Given → H → Type 0) (settles : H → H → Type 0)
    (setting : Setting L) where
  pub trace_join : (xs ys : List Event) (cs ds : List (Call T)) (p q r : Place S H T) → IsTrace accepts watches connects reads writes finds handles hears settles setting xs cs p q
      → IsTrace accepts watches connects reads writes finds handles hears settles setting ys ds q r → IsTrace accepts watches connects reads writes finds handles hears settles setting (xs ++ ys) (cs ++ ds) p r
  trace_join xs ys cs ds p q r first more = record {
    asked = through_join (IsAsked accepts watches connects reads writes finds setting) cs ds p.reach.sockets q.reach.sockets r.reach.sockets first.asked more.asked;
    done = through_join (IsDone T handles hears settles) cs ds p.reach.near.handler q.reach.near.handler r.reach.near.handler first.done more.done;
    news =
        flat_map-append tells_of cs ds ∙ ap (λ (ns : List (News T)). ns ++ flat_map tells_of ds) first.news ∙ ap (λ (ns : List (News T)). flat_map brings cs ++ ns) more.news
        ∙ sym (flat_map-append brings cs ds);
    time = flat_map-append beats cs ds ∙ ap (λ (es : List Event). es ++ flat_map beats ds) first.time ∙ ap (λ (es : List Event). xs ++ es) more.time;
    flows = λ name. through_join (Goes name) cs ds (channel_at name p) (channel_at name q) (channel_at name r) (first.flows name) (more.flows name);
  }

module _
    {S H L T : Type 0} (accepts : S → L → Option T → S → Type 0) (watches : S → T → Watched → Bool → S → Type 0) (connects : S → SocketAddr → Option T → S → Type 0)
    (reads : S → T → Answer → List ℕ → S → T → Type 0) (writes : S → T → List ℕ → Answer → S → T → Type 0) (finds : S → Ready → S → Type 0)
    (handles : H → Event → List Output → H → Type 0) (hears : H → PeerEvent → Given → H → Type 0) (settles : H → H → Type 0)
    (setting : Setting L) (at : ℕ) where
  abbrev pub Walks : List (Call T) → Place S H T → Place S H T → Type 0
  Walks calls p p' = Walked accepts watches connects reads writes finds handles hears settles setting at calls p p'

  abbrev pub Traced : Bool → List Event → Place S H T → Place S H T → Type 0
  Traced out clock p p' =
      (calls : List (Call T)) × IsTrace accepts watches connects reads writes finds handles hears settles setting clock calls p p' × AllByRecursion (IsAt at) calls × Kept out calls

  abbrev pub traced : (out : Bool) (clock : List Event) (calls : List (Call T)) (p p' : Place S H T) → Walks calls p p' → flat_map tells_of calls ≡ flat_map brings calls → flat_map beats calls ≡ clock → Kept out calls → Traced out clock p p'
  traced out clock calls p p' w news time kept = (calls, record { asked = w.asked; done = w.done; news = news; time = time; flows = w.flows }, w.moment, kept)

  pub walks : (xs ys : List (Call T)) (a b c : Place S H T) → Walks xs a b → Walks ys b c → Walks (xs ++ ys) a c
  walks xs ys a b c first more = walked_over accepts watches connects reads writes finds handles hears settles setting at xs ys a b c first more

  pub still : (p p' : Place S H T) → p'.reach.sockets ≡ p.reach.sockets → p'.reach.near.handler ≡ p.reach.near.handler → ((name : Watched) → channel_at name p' ≡ channel_at name p) → Walks [] p p'
  still p p' sockets handler channels = walked_still accepts watches connects reads writes finds handles hears settles setting at p p' sockets handler channels

  abbrev pub trace_over : (out : Bool) (xs ys : List Event) (a b c : Place S H T) → Traced out xs a b → Traced out ys b c → Traced out (xs ++ ys) a c
  trace_over out xs ys a b c p q =
      (p.0 ++ q.0, trace_join accepts watches connects reads writes finds handles hears settles setting xs ys p.0 q.0 a b c p.1 q.1, all_join (IsAt at) p.0 q.0 p.2 q.2, kept_join out p.0 q.0 p.3 q.3)

  abbrev pub trace_none : (out : Bool) (p p' : Place S H T) → p' ≡ p → Traced out [] p p'
  trace_none out p p' same =
      traced out [] [] p p' (still p p' (ap (λ (q : Place S H T). q.reach.sockets) same) (ap (λ (q : Place S H T). q.reach.near.handler) same) (λ name. ap (λ (q : Place S H T). channel_at name q) same)) refl refl (kept_none T out)

  -- where this holds its stream is asked for what it has
  abbrev pub Asked : Type 0 → Watched → Place S H T → Place S H T → Type 0
  Asked Due name p p' = (t : Traced false [] p p') × (Due → IsAmong (IsReadOrShut name) t.0)

  -- ---- frames

  pub record Hears (frames : List (Vec ℕ Global)) (p p' : Place S H T) : Type 0 where
    pub calls : List (Call T)
    pub walk : Walks calls p p'
    pub tells : flat_map tells_of calls ≡ map (framed T) frames
    pub brings : flat_map brings calls ≡ []
    pub beats : flat_map beats calls ≡ []
    pub unwritten : flat_map writes_to calls ≡ []

  pub heard_all : (frames : List (Vec ℕ Global)) (s : S) (a : Slab (Line T)) (n n' : Near H T) → HearsAll hears at frames n n' → Hears frames (place s n a) (place s n' a)
  heard_all [] s a n n' same = record {
    calls = [];
    walk = still (place s n a) (place s n' a) refl (ap (λ (m : Near H T). m.handler) same) (λ name. ap (λ (m : Near H T). channel_at name (place s m a)) same);
    tells = refl;
    brings = refl;
    beats = refl;
    unwritten = refl;
  }
  heard_all (frame ∷ frames) s a n n' all =
      let one = all.1 in
      let between = record n { dialled = one.links } in
      let call = Tells (Of_peer (peer_event at (Frame frame)) one.heard.given) in
      let first = still (place s n a) (place s between a) refl refl (noted_at one.links one.noted) in
      let told = walked_hearing accepts watches connects reads writes finds handles hears settles setting at (peer_event at (Frame frame)) s between all.0 a one.heard refl (λ name. tt) in
      let rest = heard_all frames s a all.0 n' all.2 in
      record {
        calls = call ∷ rest.calls;
        walk =
            walks [] (call ∷ rest.calls) (place s n a) (place s between a) (place s n' a) first
            (walks (call ∷ []) rest.calls (place s between a) (place s all.0 a) (place s n' a) told rest.walk);
        tells = ap (λ (ns : List (News T)). framed T frame ∷ ns) rest.tells;
        brings = rest.brings;
        beats = rest.beats;
        unwritten = rest.unwritten;
      }
    where
      noted_at : (links : List (Option (Line T))) → Noted at frame.items n.dialled links → (name : Watched) → channel_at name (place s (record n { dialled = links }) a) ≡ channel_at name (place s n a)
      noted_at links is (watched.Client other) = refl
      noted_at links is (watched.Link other) = refl
      noted_at links is (watched.Peer other) = ap (λ (o : Option (Line T)). option_map of_line o) (is other) ∙ noted_same other at frame.items (link_of n.dialled other)

  -- ---- what clients are about

  module _ (d : List (Option (Line T))) (a : Slab (Line T)) where
    abbrev pub of_world : World S H T → Place S H T
    of_world w = spot w.sockets w.handler w.clients d a

    told_once : (kind : EventKind) (s : S) (h h' : H) (c c' : Slab (Client T)) (is : IsHandled handles (event at kind) h c h' c') → ((name : Watched) → IsFor name (Of_client (event at kind) is.outputs) (channel_at name (spot s h c d a)))
        → Walks (Tells (Of_client (event at kind) is.outputs) ∷ []) (spot s h c d a) (spot s h' c' d a)
    told_once kind s h h' c c' is for = walked_handled accepts watches connects reads writes finds handles hears settles setting at (event at kind) s h h' c c' d a is refl for

    pub ticked : (s : S) (h h' : H) (c c' : Slab (Client T)) → IsHandled handles (event at Tick) h c h' c' → Traced false (event at Tick ∷ []) (spot s h c d a) (spot s h' c' d a)
    ticked s h h' c c' is =
        traced false (event at Tick ∷ []) (Tells (Of_client (event at Tick) is.outputs) ∷ []) (spot s h c d a) (spot s h' c' d a) (told_once Tick s h h' c c' is (λ name. tt)) refl refl refl

    pub started : (s : S) (h h' : H) (c c' : Slab (Client T)) → IsHandled handles (event at Started) h c h' c' → Traced false (event at Started ∷ []) (spot s h c d a) (spot s h' c' d a)
    started s h h' c c' is =
        traced false (event at Started ∷ []) (Tells (Of_client (event at Started) is.outputs) ∷ []) (spot s h c d a) (spot s h' c' d a) (told_once Started s h h' c c' is (λ name. tt)) refl refl refl

    pub settled : (s : S) (h h' : H) (c : Slab (Client T)) → settles h h' → Traced false [] (spot s h c d a) (spot s h' c d a)
    settled s h h' c is =
        traced false [] (Settles ∷ []) (spot s h c d a) (spot s h' c d a) (walked_settles accepts watches connects reads writes finds handles hears settles setting at s h h' c d a is) refl refl refl

    -- the room of a connection
    room_if : (takes : Bool) (key : ℕ) (client : Client T) (s : S) (h h' : H) (c c' : Slab (Client T)) → takes_more client ≡ takes → get c key ≡ Some client → IsRoomIf handles at takes key client h c h' c' → Traced false [] (spot s h c d a) (spot s h' c' d a)
    room_if true key client s h h' c c' takes found is =
        let told = record client { untold = false } in
        let call = Tells (Of_client (event at (Room key (room_of client))) is.handled.outputs) in
        let first = still (spot s h c d a) (spot s h is.noted d a) refl refl (minded is.noted is.notes) in
        traced false [] (call ∷ []) (spot s h c d a) (spot s h' c' d a)
        (walks [] (call ∷ []) (spot s h c d a) (spot s h is.noted d a) (spot s h' c' d a) first (told_once (Room key (room_of client)) s h h' is.noted c' is.handled (room_for is.noted is.notes))) refl refl refl
      where
        minded : (more : Slab (Client T)) → Updates c more key (Some (record client { untold = false })) → (name : Watched) → channel_at name (spot s h more d a) ≡ channel_at name (spot s h c d a)
        minded more updates (watched.Client other) = found_still of_client (get c) (get more) key (Some (record client { untold = false })) updates.changed updates.others client found refl other
        minded more updates (watched.Link other) = refl
        minded more updates (watched.Peer other) = refl

        room_for : (more : Slab (Client T)) → Updates c more key (Some (record client { untold = false })) → (name : Watched) → Holds (is_same (watched.Client key) name) (TakesMore (room_of client)) (channel_at name (spot s h more d a))
        room_for more updates (watched.Client other) =
            holds_at (eqb key other) (TakesMore (room_of client)) (channel_at (watched.Client other) (spot s h more d a))
            (λ agree. (
              of_client (record client { untold = false }),
              ap (λ (n : ℕ). option_map of_client (get more n)) (sym (eqb-true key other agree)) ∙ ap (λ (o : Option (Client T)). option_map of_client o) updates.changed,
              record { unclosed = and_open client.untold client.closing (ltb (length client.unsent) 262144) takes; few = takes-low client takes; room = refl },
            ))
        room_for more updates (watched.Link other) = tt
        room_for more updates (watched.Peer other) = tt
    room_if false key client s h h' c c' takes found is = trace_none false (spot s h c d a) (spot s h' c' d a) (λ j. spot s (is.0 j) (is.1 j) d a)

    room_in : (o : Option (Client T)) (key : ℕ) (s : S) (h h' : H) (c c' : Slab (Client T)) → get c key ≡ o → IsRoomIn handles at o key h c h' c' → Traced false [] (spot s h c d a) (spot s h' c' d a)
    room_in None key s h h' c c' found is = trace_none false (spot s h c d a) (spot s h' c' d a) (λ j. spot s (is.0 j) (is.1 j) d a)
    room_in (Some client) key s h h' c c' found is = room_if (takes_more client) key client s h h' c c' refl found is

    pub room_made : (key : ℕ) (s : S) (h h' : H) (c c' : Slab (Client T)) → IsRoomMade handles at key h c h' c' → Traced false [] (spot s h c d a) (spot s h' c' d a)
    room_made key s h h' c c' is = room_in (get c key) key s h h' c c' refl is.by_client

    -- a new client
    pub welcomed : (watchable : Bool) (stream : T) (key : ℕ) (s asked s' : S) (h h' : H) (c c' : Slab (Client T)) → accepts s setting.listener (Some stream) asked → watches asked stream (watched.Client key) watchable s'
        → get c key ≡ None → IsWelcomed handles at watchable stream key h c h' c' → Traced false [] (spot s h c d a) (spot s' h' c' d a)
    welcomed true stream key s asked s' h h' c c' came watch free j =
        let call = Tells (Of_client (event at (Opened key)) j.handled.outputs) in
        let first = walked_accepts accepts watches connects reads writes finds handles hears settles setting at s asked h c d a (Some stream) came in
        let opens = walked_opens accepts watches connects reads writes finds handles hears settles setting at asked s' h c j.more d a key stream watch free j.added in
        let tells = told_once (Opened key) s' h j.told j.more j.opened j.handled (λ name. tt) in
        let both = walks (Accepts (Some stream) ∷ []) (Watches (watched.Client key) stream true ∷ []) (spot s h c d a) (spot asked h c d a) (spot s' h j.more d a) first opens in
        let all = walks (Accepts (Some stream) ∷ Watches (watched.Client key) stream true ∷ []) (call ∷ []) (spot s h c d a) (spot s' h j.more d a) (spot s' j.told j.opened d a) both tells in
        trace_over false [] [] (spot s h c d a) (spot s' j.told j.opened d a) (spot s' h' c' d a)
        (traced false [] (Accepts (Some stream) ∷ Watches (watched.Client key) stream true ∷ call ∷ []) (spot s h c d a) (spot s' j.told j.opened d a) all refl refl refl)
        (room_made key s' j.told h' j.opened c' j.room)
    welcomed false stream key s asked s' h h' c c' came watch free same =
        let first = walked_accepts accepts watches connects reads writes finds handles hears settles setting at s asked h c d a (Some stream) came in
        let none = walked_unwatched accepts watches connects reads writes finds handles hears settles setting at asked s' h c d a (watched.Client key) stream watch in
        let both = walks (Accepts (Some stream) ∷ []) (Watches (watched.Client key) stream false ∷ []) (spot s h c d a) (spot asked h c d a) (spot s' h c d a) first none in
        trace_over false [] [] (spot s h c d a) (spot s' h c d a) (spot s' h' c' d a)
        (traced false [] (Accepts (Some stream) ∷ Watches (watched.Client key) stream false ∷ []) (spot s h c d a) (spot s' h c d a) both refl refl refl)
        (trace_none false (spot s' h c d a) (spot s' h' c' d a) (λ j. spot s' (same.0 j) (same.1 j) d a))

    pub accepted : (w w' : World S H T) → IsAccepted accepts watches handles at setting.listener w w' → Traced false [] (of_world w) (of_world w')
    accepted w w' is =
        welcomed is.watchable is.stream is.key w.sockets is.asked w'.sockets w.handler w'.handler w.clients w'.clients is.answered is.watch is.free is.welcomed

    pub nobody_accepted : (w w' : World S H T) → IsNobodyAccepted accepts watches handles at setting.listener w w' → Traced false [] (of_world w) (of_world w')
    nobody_accepted w w' is =
        trace_over false [] [] (of_world w) (spot w'.sockets w.handler w.clients d a) (of_world w')
        (traced false [] (Accepts None ∷ []) (of_world w) (spot w'.sockets w.handler w.clients d a)
        (walked_accepts accepts watches connects reads writes finds handles hears settles setting at w.sockets w'.sockets w.handler w.clients d a None is.answered) refl refl refl)
        (trace_none false (spot w'.sockets w.handler w.clients d a) (of_world w') (λ j. spot w'.sockets (is.handler j) (is.clients j) d a))

    -- a client is read
    heard : (answer : Answer) (bytes : List ℕ) (key : ℕ) (client : Client T) (after : T) (s s' : S) (h h' : H) (c c' : Slab (Client T)) (more : Bool) → get c key ≡ Some client → client.closing ≡ false → reads s client.stream answer bytes s' after
        → IsHeard handles at key answer bytes (record client { stream = after }) h c more h' c' → Asked (Unit {0}) (watched.Client key) (spot s h c d a) (spot s' h' c' d a)
    heard Later bytes key client after s s' h h' c c' more found unclosed is came =
        let left = record client { stream = after } in
        let one = walked_reads accepts watches connects reads writes finds handles hears settles setting at s s' h c c' d a key client left Later bytes is unclosed refl refl refl found came.1 in (
          trace_over false [] [] (spot s h c d a) (spot s' h c' d a) (spot s' h' c' d a)
              (traced false [] (Reads key client.stream Later bytes after ∷ []) (spot s h c d a) (spot s' h c' d a) one refl refl refl)
              (trace_none false (spot s' h c' d a) (spot s' h' c' d a) (λ j. spot s' (came.0 j) c' d a)),
          λ _. inl (same_number key),
        )
    heard (Bytes n) bytes key client after s s' h h' c c' more found unclosed is came =
        let left = record client { stream = after } in
        let on = came.0 in
        let call = Tells (Of_client (event at (Piece key on.piece)) on.handled.outputs) in
        let one = walked_reads accepts watches connects reads writes finds handles hears settles setting at s s' h c on.kept d a key client left (Bytes n) bytes is unclosed refl refl refl found on.keeps in
        let tells = told_once (Piece key on.piece) s' h h' on.kept c' on.handled (λ name. tt) in
        let as_news : List ℕ → List (News T) = λ piece. Has_come key piece ∷ [] in (
          traced false [] (Reads key client.stream (Bytes n) bytes after ∷ call ∷ []) (spot s h c d a) (spot s' h' c' d a)
              (walks (Reads key client.stream (Bytes n) bytes after ∷ []) (call ∷ []) (spot s h c d a) (spot s' h on.kept d a) (spot s' h' c' d a) one tells) (ap as_news on.is) refl refl,
          λ _. inl (same_number key),
        )
    heard Gone bytes key client after s s' h h' c c' more found unclosed is came =
        let on = came.0 in
        let call = Tells (Of_client (event at (Closed key)) on.handled.outputs) in
        let one = walked_reads_last accepts watches connects reads writes finds handles hears settles setting at s s' h c on.less d a key client bytes after is unclosed found on.removed in
        let tells = told_once (Closed key) s' h h' on.less c' on.handled (λ name. tt) in (
          traced false [] (Reads key client.stream Gone bytes after ∷ Lets_go (watched.Client key) false ∷ call ∷ []) (spot s h c d a) (spot s' h' c' d a)
              (walks (Reads key client.stream Gone bytes after ∷ Lets_go (watched.Client key) false ∷ []) (call ∷ []) (spot s h c d a) (spot s' h on.less d a) (spot s' h' c' d a) one tells) refl refl refl,
          λ _. inl (same_number key),
        )

    read_if : (key : ℕ) (closing : Bool) (client : Client T) (w : World S H T) (more : Bool) (w' : World S H T) → get w.clients key ≡ Some client → client.closing ≡ closing → IsReadIf reads handles at key closing client w more w' → Asked (closing ≡ false) (watched.Client key) (of_world w) (of_world w')
    read_if key true client w more w' found unclosed is = (trace_none false (of_world w) (of_world w') (ap of_world is.0), λ never. absurd cc)
    read_if key false client w more w' found unclosed is =
        let r = heard is.answer is.bytes key client is.stream w.sockets w'.sockets w.handler w'.handler w.clients w'.clients more found unclosed is.answered is.heard in
        (r.0, λ _. r.1 tt)

    pub read_in : (key : ℕ) (o : Option (Client T)) (w : World S H T) (more : Bool) (w' : World S H T) → get w.clients key ≡ o → IsReadIn reads handles at key o w more w' → Asked (IsOpen o) (watched.Client key) (of_world w) (of_world w')
    read_in key None w more w' found is = (trace_none false (of_world w) (of_world w') (ap of_world is.0), λ never. absurd never)
    read_in key (Some client) w more w' found is = read_if key client.closing client w more w' found refl is

    -- where this holds the client's stream is asked
    abbrev pub Wrote : Type 0 → ℕ → Place S H T → Place S H T → Type 0
    Wrote Due key p p' = (t : Traced true [] p p') × (Due → IsAmong (IsWrittenTo (watched.Client key)) t.0)

    wrote_then : (Due : Type 0) (key : ℕ) (p q r : Place S H T) → Wrote Due key p q → Traced true [] q r → Wrote Due key p r
    wrote_then Due key p q r w t = (trace_over true [] [] p q r w.0 t, λ due. among_left (IsWrittenTo (watched.Client key)) w.0.0 t.0 (w.1 due))

    -- of one that is closed the handler is told, unless it had asked for it
    lost : (Due : Type 0) (closing : Bool) (key : ℕ) (p : Place S H T) (s' : S) (h h' : H) (c c' : Slab (Client T))
        → ((less : Slab (Client T)) → Updates c less key None → (calls : List (Call T)) × Walks (calls ++ Lets_go (watched.Client key) closing ∷ []) p (spot s' h less d a)
        × (flat_map tells_of calls ≡ []) × (flat_map brings calls ≡ []) × (flat_map beats calls ≡ []) × Through Rests calls true true × (Due → IsAmong (IsWrittenTo (watched.Client key)) calls))
        → IsLost handles settles at closing key h c h' c' → Wrote Due key p (spot s' h' c' d a)
    lost Due true key p s' h h' c c' closes is =
        let one = closes c' is.1 in
        let last = Lets_go (watched.Client key) true ∷ [] in
        wrote_then Due key p (spot s' h c' d a) (spot s' h' c' d a) (
          traced true [] (one.0 ++ last) p (spot s' h c' d a) one.1
              (flat_map-append tells_of one.0 last ∙ ap (λ (ns : List (News T)). ns ++ []) (one.2 ∙ sym one.3) ∙ sym (flat_map-append brings one.0 last))
              (flat_map-append beats one.0 last ∙ ap (λ (es : List Event). es ++ []) one.4)
              (through_join Rests one.0 last true true true one.5 (true, refl, refl)),
          λ due. among_left (IsWrittenTo (watched.Client key)) one.0 last (one.6 due),
        )
        (trace_none true (spot s' h c' d a) (spot s' h' c' d a) (λ j. spot s' (is.0 j) c' d a))
    lost Due false key p s' h h' c c' closes is =
        let gone = is.1 in
        let one = closes gone.less gone.removed in
        let call = Tells (Of_client (event at (Closed key)) gone.handled.outputs) in
        let last = Lets_go (watched.Client key) false ∷ [] in
        let end = call ∷ Settles ∷ [] in
        let tells = told_once (Closed key) s' h is.0 gone.less c' gone.handled (λ name. tt) in
        let rests = walked_settles accepts watches connects reads writes finds handles hears settles setting at s' is.0 h' c' d a is.2 in
        let both = walks (call ∷ []) (Settles ∷ []) (spot s' h gone.less d a) (spot s' is.0 c' d a) (spot s' h' c' d a) tells rests in
        let all = walks (one.0 ++ last) end p (spot s' h gone.less d a) (spot s' h' c' d a) one.1 both in (
          traced true [] ((one.0 ++ last) ++ end) p (spot s' h' c' d a) all
              (flat_map-append tells_of (one.0 ++ last) end ∙ ap (λ (ns : List (News T)). ns ++ Is_gone key ∷ []) (flat_map-append tells_of one.0 last ∙ ap (λ (ns : List (News T)). ns ++ []) one.2)
              ∙ sym (flat_map-append brings (one.0 ++ last) end ∙ ap (λ (ns : List (News T)). ns ++ []) (flat_map-append brings one.0 last ∙ ap (λ (ns : List (News T)). ns ++ Is_gone key ∷ []) one.3)))
              (flat_map-append beats (one.0 ++ last) end ∙ ap (λ (es : List Event). es ++ []) (flat_map-append beats one.0 last ∙ ap (λ (es : List Event). es ++ []) one.4))
              (through_join Rests (one.0 ++ last) end true true true (through_join Rests one.0 last true true true one.5 (true, refl, refl)) (false, refl, (true, refl, refl))),
          λ due. among_left (IsWrittenTo (watched.Client key)) (one.0 ++ last) end (among_left (IsWrittenTo (watched.Client key)) one.0 last (one.6 due)),
        )

    -- what comes of a client for which too much waits or that has failed, of another one that closes and for which nothing waits, and of any other
    abbrev Parts : Bool → Bool → ℕ → Client T → H → Slab (Client T) → H → Slab (Client T) → Type 0
    Parts much done key left h c h' c' =
        IsParted handles settles at key (if much then fate_of (Some Gone) left else (if done then fate_by_size (record left { closing = true; unsent = [] }) else fate_by_size (fresh left.stream))) left h c h' c'

    untried : (much done : Bool) (key : ℕ) (left : Client T) (s : S) (h h' : H) (c c' : Slab (Client T)) → get c key ≡ Some left → (much ≡ true → 16777216 < length left.unsent) → (done ≡ true → (left.closing ≡ true) × (left.unsent ≡ []))
        → Parts much done key left h c h' c' → Traced true [] (spot s h c d a) (spot s h' c' d a)
    untried true done key left s h h' c c' found long shut is =
        (lost ⊥ left.closing key (spot s h c d a) s h h' c c'
        (λ less removed. ([], walked_drops accepts watches connects reads writes finds handles hears settles setting at s s h c less d a key left.closing left refl found (inr (inl (long refl))) removed refl, refl, refl, refl, refl, λ none. absurd none)) is).0
    untried false true key left s h h' c c' found long shut is =
        trace_over true [] [] (spot s h c d a) (spot s h c' d a) (spot s h' c' d a)
        (traced true [] (Lets_go (watched.Client key) true ∷ []) (spot s h c d a) (spot s h c' d a)
        (walked_drops accepts watches connects reads writes finds handles hears settles setting at s s h c c' d a key true left (shut refl).0 found (inr (inr (shut refl))) is.1 refl) refl refl (true, refl, refl))
        (trace_none true (spot s h c' d a) (spot s h' c' d a) (λ j. spot s (is.0 j) c' d a))
    untried false false key left s h h' c c' found long shut is =
        traced true [] [] (spot s h c d a) (spot s h' c' d a) (still (spot s h c d a) (spot s h' c' d a) refl is.0 stays) refl refl refl
      where
        stays : (name : Watched) → channel_at name (spot s h' c' d a) ≡ channel_at name (spot s h c d a)
        stays (watched.Client other) = found_still of_client (get c) (get c') key (Some left) is.1.changed is.1.others left found refl other
        stays (watched.Link other) = refl
        stays (watched.Peer other) = refl

    tried : (much done : Bool) (key : ℕ) (client left : Client T) (answer : Answer) (s s' : S) (h h' : H) (c c' : Slab (Client T)) → get c key ≡ Some client → (o : Offers writes client.unsent s client.stream answer left.unsent s' left.stream) → left.closing ≡ client.closing
        → (much ≡ true → (is_gone answer ≡ true) ⊎ (16777216 < length left.unsent) ⊎ ((left.closing ≡ true) × (left.unsent ≡ []))) → (much ≡ false → is_gone answer ≡ false) → (done ≡ true → (left.closing ≡ true) × (left.unsent ≡ []))
        → Parts much done key left h c h' c' → Wrote (Unit {0}) key (spot s h c d a) (spot s' h' c' d a)
    tried true done key client left answer s s' h h' c c' found o closing over stays shut is =
        lost (Unit {0}) left.closing key (spot s h c d a) s' h h' c c'
        (λ less removed. (
          Writes (watched.Client key) client.stream o.offered answer left.stream ∷ [],
          walked_writes_last accepts watches connects reads writes finds handles hears settles setting at s s' h c less d a key left.closing client left answer o closing refl (over refl) found removed,
          refl,
          refl,
          refl,
          (true, (refl, refl), refl),
          λ _. inl refl,
        ))
        is
    tried false true key client left answer s s' h h' c c' found o closing over stays shut is =
        wrote_then (Unit {0}) key (spot s h c d a) (spot s' h c' d a) (spot s' h' c' d a) (
          traced true [] (Writes (watched.Client key) client.stream o.offered answer left.stream ∷ Lets_go (watched.Client key) true ∷ []) (spot s h c d a) (spot s' h c' d a)
              (walked_writes_last accepts watches connects reads writes finds handles hears settles setting at s s' h c c' d a key true client left answer o closing (shut refl).0 (inr (inr (shut refl))) found is.1) refl refl (true, (refl, refl), (true, refl, refl)),
          λ _. inl refl,
        )
        (trace_none true (spot s' h c' d a) (spot s' h' c' d a) (λ j. spot s' (is.0 j) c' d a))
    tried false false key client left answer s s' h h' c c' found o closing over stays shut is =
        wrote_then (Unit {0}) key (spot s h c d a) (spot s' h c' d a) (spot s' h' c' d a) (
          traced true [] (Writes (watched.Client key) client.stream o.offered answer left.stream ∷ []) (spot s h c d a) (spot s' h c' d a)
              (walked_writes accepts watches connects reads writes finds handles hears settles setting at s s' h c c' d a key client left answer o (stays refl) closing found is.1) refl refl (true, (refl, refl), refl),
          λ _. inl refl,
        )
        (trace_none true (spot s' h c' d a) (spot s' h' c' d a) (λ j. spot s' (is.0 j) c' d a))

    -- by the answer
    wrote_some : (answer : Answer) (key : ℕ) (client left : Client T) (s s' : S) (h h' : H) (c c' : Slab (Client T)) → get c key ≡ Some client → (o : Offers writes client.unsent s client.stream answer left.unsent s' left.stream) → left.closing ≡ client.closing
        → IsParted handles settles at key (fate_of (Some answer) left) left h c h' c' → Wrote (Unit {0}) key (spot s h c d a) (spot s' h' c' d a)
    wrote_some Later key client left s s' h h' c c' found o closing is =
        tried (ltb 16777216 (length left.unsent)) (left.closing && eqb (length left.unsent) 0) key client left Later s s' h h' c c' found o closing
        (λ much. inr (inl (below-all 16777216 (length left.unsent) much))) (λ _. refl) (closes_empty left) is
    wrote_some (Bytes n) key client left s s' h h' c c' found o closing is =
        tried (ltb 16777216 (length left.unsent)) (left.closing && eqb (length left.unsent) 0) key client left (Bytes n) s s' h h' c c' found o closing
        (λ much. inr (inl (below-all 16777216 (length left.unsent) much))) (λ _. refl) (closes_empty left) is
    wrote_some Gone key client left s s' h h' c c' found o closing is =
        tried true false key client left Gone s s' h h' c c' found o closing (λ _. inl refl) (λ wrong. absurd cc) (λ wrong. absurd cc) is

    wrote_by : (key : ℕ) (client left : Client T) (answer : Option Answer) (s s' : S) (h h' : H) (c c' : Slab (Client T)) → get c key ≡ Some client → Tried writes s client answer s' left
        → IsParted handles settles at key (fate_of answer left) left h c h' c' → Wrote (client.unsent ≢ []) key (spot s h c d a) (spot s' h' c' d a)
    wrote_by key client left None s s' h h' c c' found t is =
        let same : get c key ≡ Some left = found ∙ ap (λ (x : Client T). Some x) (sym t.2) in (
          trace_over true [] [] (spot s h c d a) (spot s h' c' d a) (spot s' h' c' d a)
              (untried (ltb 16777216 (length left.unsent)) (left.closing && eqb (length left.unsent) 0) key left s h h' c c' same (below-all 16777216 (length left.unsent)) (closes_empty left) is)
              (trace_none true (spot s h' c' d a) (spot s' h' c' d a) (λ j. spot (t.1 j) h' c' d a)),
          λ due. absurd (due t.0),
        )
    wrote_by key client left (Some answer) s s' h h' c c' found t is =
        let w = wrote_some answer key client left s s' h h' c c' found t.0 t.1 is in
        (w.0, λ _. w.1 tt)

    -- something waits for it
    abbrev pub IsOwed : Option (Client T) → Type 0
    IsOwed o = (client : Client T) × (o ≡ Some client) × (client.unsent ≢ [])

    pub wrote_in : (key : ℕ) (o : Option (Client T)) (w w' : World S H T) → get w.clients key ≡ o → IsWroteIn writes handles settles at key o w w' → Wrote (IsOwed o) key (of_world w) (of_world w')
    wrote_in key None w w' found same = (trace_none true (of_world w) (of_world w') (ap of_world same), λ due. let wrong = due.1 in absurd cc)
    wrote_in key (Some client) w w' found is =
        let one = wrote_by key client is.left is.written.answer w.sockets w'.sockets w.handler w'.handler w.clients w'.clients found is.written.tried
        (subst (λ fate. IsParted handles settles at key fate is.left w.handler w.clients w'.handler w'.clients) is.written.comes_to is.parted) in
        (one.0, λ due. one.1 (λ empty. let same = due.1 in let its : due.0 ≡ client = cc in due.2 (ap (λ (x : Client T). x.unsent) its ∙ empty)))

    -- ---- who is there still when another one is written to

    lost_keeps : (closing : Bool) (key other : ℕ) (client : Client T) (h h' : H) (c c' : Slab (Client T)) → other ≢ key → get c other ≡ Some client → client.unsent ≢ [] → IsLost handles settles at closing key h c h' c' → IsOwed (get c' other)
    lost_keeps true key other client h h' c c' apart found waits is = (client, is.1.others other apart ∙ found, waits)
    lost_keeps false key other client h h' c c' apart found waits is =
        let gone = is.1 in
        let outputs = gone.handled.outputs in (
          told_all other outputs client,
          gone.handled.released other ∙ ap (λ (o : Option (Client T)). told_at other outputs o) (gone.removed.others other apart ∙ found),
          told_waits other outputs client waits,
        )

    parts_keep : (much done : Bool) (key other : ℕ) (left client : Client T) (h h' : H) (c c' : Slab (Client T)) → other ≢ key → get c other ≡ Some client → client.unsent ≢ [] → Parts much done key left h c h' c' → IsOwed (get c' other)
    parts_keep true done key other left client h h' c c' apart found waits is = lost_keeps left.closing key other client h h' c c' apart found waits is
    parts_keep false true key other left client h h' c c' apart found waits is = (client, is.1.others other apart ∙ found, waits)
    parts_keep false false key other left client h h' c c' apart found waits is = (client, is.1.others other apart ∙ found, waits)

    fate_keeps : (answer : Option Answer) (key other : ℕ) (left client : Client T) (h h' : H) (c c' : Slab (Client T)) → other ≢ key → get c other ≡ Some client → client.unsent ≢ [] → IsParted handles settles at key (fate_of answer left) left h c h' c' → IsOwed (get c' other)
    fate_keeps None key other left client h h' c c' apart found waits is = parts_keep (ltb 16777216 (length left.unsent)) (left.closing && eqb (length left.unsent) 0) key other left client h h' c c' apart found waits is
    fate_keeps (Some Later) key other left client h h' c c' apart found waits is = parts_keep (ltb 16777216 (length left.unsent)) (left.closing && eqb (length left.unsent) 0) key other left client h h' c c' apart found waits is
    fate_keeps (Some (Bytes n)) key other left client h h' c c' apart found waits is = parts_keep (ltb 16777216 (length left.unsent)) (left.closing && eqb (length left.unsent) 0) key other left client h h' c c' apart found waits is
    fate_keeps (Some Gone) key other left client h h' c c' apart found waits is = parts_keep true false key other left client h h' c c' apart found waits is

    pub wrote_keeps : (key other : ℕ) (o : Option (Client T)) (client : Client T) (w w' : World S H T) → other ≢ key → get w.clients other ≡ Some client → client.unsent ≢ [] → IsWroteIn writes handles settles at key o w w' → IsOwed (get w'.clients other)
    wrote_keeps key other None client w w' apart found waits same = (client, ap (λ (v : World S H T). get v.clients other) same ∙ found, waits)
    wrote_keeps key other (Some its) client w w' apart found waits is =
        fate_keeps is.written.answer key other is.left client w.handler w'.handler w.clients w'.clients apart found waits
        (subst (λ fate. IsParted handles settles at key fate is.left w.handler w.clients w'.handler w'.clients) is.written.comes_to is.parted)
