-- What the handler gives out, as it comes to clients and links, and what a call is to the channel of each name.
use Rattle.std.proofs.Common.{◌≡◌, ℕ, List, [], ◌∷◌, ◌++◌, map, eqb, eqb-true, if◌then◌else◌, Bool, true, false, Option, Some, None, refl, sym, ap, subst, ◌∙◌, inl, inr}
use Rattle.std.proofs.lemmas.Bool.Decides.{eqb_tells}
use Rattle.std.specs.Prelude.{◌≢◌, option_map}
use Rattle.slab.specs.Slab.{Slab, get}
use Rattle.broker_sockets.specs.declared.bridge.PeerFrame.{PeerFrame}
use Rattle.broker_sockets.specs.declared.events.Output.{Output}
use Rattle.broker_sockets.specs.declared.events.Output.TheVariants.{Send, Close}
use Rattle.broker_sockets.specs.declared.ready.Watched.{Watched}
use Rattle.broker_sockets.specs.declared.ready.Watched.TheVariants as watched
use Rattle.broker_turns.specs.declared.clients.Client.{Client}
use Rattle.broker_turns.specs.declared.lines.Line.{Line}
use Rattle.broker_turns.specs.Bridging.{Place}
use Rattle.broker_turns.specs.Clients.{Released, closed, sent, told, told_all, told_at}
use Rattle.broker_turns.specs.Lines.{Framed, framed, framed_all, framed_at, link_of, pushed}
use Rattle.law_serving.specs.Channels.{Channel, Gift, IsNew, IsOf, channel_at, frame_of, gift_of, given, is_same, new_channel, of_client, of_line, put}

pub if_map : {A B : Type 0} (f : A → B) (b : Bool) (x y : A) → f (if b then x else y) ≡ (if b then f x else f y)
if_map f true x y = refl
if_map f false x y = refl

if_first : {A : Type 0} (b : Bool) (x y z : A) → x ≡ z → (if b then x else y) ≡ (if b then z else y)
if_first true x y z same = same
if_first false x y z same = refl

apart : (a b : ℕ) → eqb a b ≡ false → b ≢ a
apart a b is same = elim (eqb_tells a b) [
  | inl agree ↦ absurd (cc)
  | inr differ ↦ differ.1 (sym same)
]

module _ {T : Type 0} where
  -- ---- gifts

  pub given_join : (name : Watched) (xs ys : List Gift) (x : Channel T) → given name (xs ++ ys) x ≡ given name ys (given name xs x)
  given_join name [] ys x = refl
  given_join name (gift ∷ xs) ys x = given_join name xs ys (if is_same gift.name name then put gift.bytes x else x)

  told_put : (key : ℕ) (output : Output) (client : Client T) → of_client (told key output client) ≡ given (watched.Client key) (gift_of output ∷ []) (of_client client)
  told_put key (Send connection bytes) client =
      if_map of_client (eqb connection key) (sent bytes.items client) client
      ∙ if_first (eqb connection key) (of_client (sent bytes.items client)) (of_client client) (put (Some bytes.items) (of_client client))
      (if_map of_client client.closing client (record client { unsent = client.unsent ++ bytes.items; untold = true }))
  told_put key (Close connection) client = if_map of_client (eqb connection key) (closed client) client

  told_given : (key : ℕ) (outputs : List Output) (client : Client T) → of_client (told_all key outputs client) ≡ given (watched.Client key) (map gift_of outputs) (of_client client)
  told_given key [] client = refl
  told_given key (output ∷ outputs) client =
      told_given key outputs (told key output client)
      ∙ ap (λ (x : Channel T). given (watched.Client key) (map gift_of outputs) x) (told_put key output client)
      ∙ sym (given_join (watched.Client key) (gift_of output ∷ []) (map gift_of outputs) (of_client client))

  released_at : (key : ℕ) (outputs : List Output) (o : Option (Client T)) → option_map of_client (told_at key outputs o) ≡ option_map (given (watched.Client key) (map gift_of outputs)) (option_map of_client o)
  released_at key outputs None = refl
  released_at key outputs (Some client) = ap (λ (x : Channel T). Some x) (told_given key outputs client)

  frame_put : (peer : ℕ) (frame : PeerFrame) (line : Line T) → of_line (framed peer frame line) ≡ given (watched.Peer peer) (frame_of frame ∷ []) (of_line line)
  frame_put peer frame line = if_map of_line (eqb frame.peer peer) (pushed frame.bytes.items line) line

  framed_given : (peer : ℕ) (frames : List PeerFrame) (line : Line T) → of_line (framed_all peer frames line) ≡ given (watched.Peer peer) (map frame_of frames) (of_line line)
  framed_given peer [] line = refl
  framed_given peer (frame ∷ frames) line =
      framed_given peer frames (framed peer frame line)
      ∙ ap (λ (x : Channel T). given (watched.Peer peer) (map frame_of frames) x) (frame_put peer frame line)
      ∙ sym (given_join (watched.Peer peer) (frame_of frame ∷ []) (map frame_of frames) (of_line line))

  put_at : (peer : ℕ) (frames : List PeerFrame) (o : Option (Line T)) → option_map of_line (framed_at peer frames o) ≡ option_map (given (watched.Peer peer) (map frame_of frames)) (option_map of_line o)
  put_at peer frames None = refl
  put_at peer frames (Some line) = ap (λ (x : Channel T). Some x) (framed_given peer frames line)

  -- what is for others

  link_given : (key : ℕ) (outputs : List Output) (x : Channel T) → given (watched.Link key) (map gift_of outputs) x ≡ x
  link_given key [] x = refl
  link_given key (Send connection bytes ∷ more) x = link_given key more x
  link_given key (Close connection ∷ more) x = link_given key more x

  peer_given : (peer : ℕ) (outputs : List Output) (x : Channel T) → given (watched.Peer peer) (map gift_of outputs) x ≡ x
  peer_given peer [] x = refl
  peer_given peer (Send connection bytes ∷ more) x = peer_given peer more x
  peer_given peer (Close connection ∷ more) x = peer_given peer more x

  client_framed : (key : ℕ) (frames : List PeerFrame) (x : Channel T) → given (watched.Client key) (map frame_of frames) x ≡ x
  client_framed key [] x = refl
  client_framed key (frame ∷ frames) x = client_framed key frames x

  link_framed : (key : ℕ) (frames : List PeerFrame) (x : Channel T) → given (watched.Link key) (map frame_of frames) x ≡ x
  link_framed key [] x = refl
  link_framed key (frame ∷ frames) x = link_framed key frames x

  kept_by : (f : Channel T → Channel T) → ((x : Channel T) → f x ≡ x) → (o : Option (Channel T)) → option_map f o ≡ o
  kept_by f same None = refl
  kept_by f same (Some x) = ap (λ (y : Channel T). Some y) (same x)

  like_by : (f g : Channel T → Channel T) → ((x : Channel T) → f x ≡ g x) → (o : Option (Channel T)) → option_map f o ≡ option_map g o
  like_by f g same None = refl
  like_by f g same (Some x) = ap (λ (y : Channel T). Some y) (same x)

  module _ {S H : Type 0} where
    -- what outputs make of each channel
    pub given_to_clients : (outputs : List Output) (p p' : Place S H T) → Released outputs p.reach.near.clients p'.reach.near.clients → p'.reach.near.dialled ≡ p.reach.near.dialled → p'.accepted ≡ p.accepted
        → (name : Watched) → channel_at name p' ≡ option_map (given name (map gift_of outputs)) (channel_at name p)
    given_to_clients outputs p p' released dialled accepted (watched.Client key) =
        ap (λ (o : Option (Client T)). option_map of_client o) (released key) ∙ released_at key outputs (get p.reach.near.clients key)
    given_to_clients outputs p p' released dialled accepted (watched.Link key) =
        ap (λ (a : Slab (Line T)). option_map of_line (get a key)) accepted ∙ sym (kept_by (given (watched.Link key) (map gift_of outputs)) (link_given key outputs) (channel_at (watched.Link key) p))
    given_to_clients outputs p p' released dialled accepted (watched.Peer peer) =
        ap (λ (d : List (Option (Line T))). option_map of_line (link_of d peer)) dialled
        ∙ sym (kept_by (given (watched.Peer peer) (map gift_of outputs)) (peer_given peer outputs) (channel_at (watched.Peer peer) p))

    -- and outputs with frames
    pub given_to_all : (outputs : List Output) (frames : List PeerFrame) (p p' : Place S H T) → Released outputs p.reach.near.clients p'.reach.near.clients → Framed frames p.reach.near.dialled p'.reach.near.dialled → p'.accepted ≡ p.accepted
        → (name : Watched) → channel_at name p' ≡ option_map (given name (map gift_of outputs ++ map frame_of frames)) (channel_at name p)
    given_to_all outputs frames p p' released put accepted (watched.Client key) =
        let name = watched.Client key in
        ap (λ (o : Option (Client T)). option_map of_client o) (released key) ∙ released_at key outputs (get p.reach.near.clients key)
        ∙ like_by (given name (map gift_of outputs)) (given name (map gift_of outputs ++ map frame_of frames))
        (λ x. sym (given_join name (map gift_of outputs) (map frame_of frames) x ∙ client_framed key frames (given name (map gift_of outputs) x))) (channel_at name p)
    given_to_all outputs frames p p' released put accepted (watched.Link key) =
        let name = watched.Link key in
        ap (λ (a : Slab (Line T)). option_map of_line (get a key)) accepted
        ∙ sym (kept_by (given name (map gift_of outputs ++ map frame_of frames))
        (λ x. given_join name (map gift_of outputs) (map frame_of frames) x ∙ link_framed key frames (given name (map gift_of outputs) x) ∙ link_given key outputs x) (channel_at name p))
    given_to_all outputs frames p p' released put accepted (watched.Peer peer) =
        let name = watched.Peer peer in
        ap (λ (o : Option (Line T)). option_map of_line o) (put peer) ∙ put_at peer frames (link_of p.reach.near.dialled peer)
        ∙ like_by (given name (map frame_of frames)) (given name (map gift_of outputs ++ map frame_of frames))
        (λ x. sym (given_join name (map gift_of outputs) (map frame_of frames) x ∙ ap (λ (y : Channel T). given name (map frame_of frames) y) (peer_given peer outputs x))) (channel_at name p)

  -- ---- calls of one name

  at_open : (b : Bool) (does : Channel T → Option (Channel T) → Type 0) (o o' : Option (Channel T)) (x : Channel T) → (b ≡ true → (o ≡ Some x) × does x o') → (b ≡ false → o' ≡ o) → IsOf b does o o'
  at_open true does o o' x agree differ =
      let is = agree refl in
      let P : Option (Channel T) → Type 0 = λ v. IsOf true does v o' in
      subst P (sym is.0) is.1
  at_open false does o o' x agree differ = differ refl

  at_new : (b : Bool) (stream : T) (o o' : Option (Channel T)) → (b ≡ true → (o ≡ None) × (o' ≡ Some (new_channel stream))) → (b ≡ false → o' ≡ o) → IsNew b stream o o'
  at_new true stream o o' agree differ = agree refl
  at_new false stream o o' agree differ = differ refl

  two_open : (b : Bool) (does next : Channel T → Option (Channel T) → Type 0) (o o' : Option (Channel T)) (x y : Channel T)
      → (b ≡ true → (o ≡ Some x) × does x (Some y) × next y o') → (b ≡ false → o' ≡ o) → (m : Option (Channel T)) × IsOf b does o m × IsOf b next m o'
  two_open true does next o o' x y agree differ =
      let is = agree refl in
      let P : Option (Channel T) → Type 0 = λ v. IsOf true does v (Some y) in
      (Some y, subst P (sym is.0) is.1, is.2)
  two_open false does next o o' x y agree differ = (o, refl, differ refl)

  module _ {A : Type 0} (f : A → Channel T) (find find' : ℕ → Option A) (key : ℕ) (slot : Option A) (changed : find' key ≡ slot) (others : (other : ℕ) → other ≢ key → find' other ≡ find other) where
    -- what was found under a number is this now
    pub found_touched : (does : Channel T → Option (Channel T) → Type 0) (x : A) → find key ≡ Some x → does (f x) (option_map f slot) → (other : ℕ) → IsOf (eqb key other) does (option_map f (find other)) (option_map f (find' other))
    found_touched does x found is other =
        at_open (eqb key other) does (option_map f (find other)) (option_map f (find' other)) (f x)
        (λ agree.
        let same : key ≡ other = eqb-true key other agree in
        let now : option_map f (find' other) ≡ option_map f slot = ap (λ (n : ℕ). option_map f (find' n)) (sym same) ∙ ap (λ (o : Option A). option_map f o) changed in
        let Does : Option (Channel T) → Type 0 = λ o. does (f x) o in
        (ap (λ (n : ℕ). option_map f (find n)) (sym same) ∙ ap (λ (o : Option A). option_map f o) found, subst Does (sym now) is))
        (λ differ. ap (λ (o : Option A). option_map f o) (others other (apart key other differ)))

    -- after two calls
    pub found_twice : (does next : Channel T → Option (Channel T) → Type 0) (x : A) (y : Channel T) → find key ≡ Some x → does (f x) (Some y) → next y (option_map f slot) → (other : ℕ)
        → (m : Option (Channel T)) × IsOf (eqb key other) does (option_map f (find other)) m × IsOf (eqb key other) next m (option_map f (find' other))
    found_twice does next x y found is on other =
        two_open (eqb key other) does next (option_map f (find other)) (option_map f (find' other)) (f x) y
        (λ agree.
        let same : key ≡ other = eqb-true key other agree in
        let now : option_map f (find' other) ≡ option_map f slot = ap (λ (n : ℕ). option_map f (find' n)) (sym same) ∙ ap (λ (o : Option A). option_map f o) changed in
        let Then : Option (Channel T) → Type 0 = λ o. next y o in
        (ap (λ (n : ℕ). option_map f (find n)) (sym same) ∙ ap (λ (o : Option A). option_map f o) found, is, subst Then (sym now) on))
        (λ differ. ap (λ (o : Option A). option_map f o) (others other (apart key other differ)))

    -- it comes to the same
    pub found_still : (x : A) → find key ≡ Some x → option_map f slot ≡ Some (f x) → (other : ℕ) → option_map f (find' other) ≡ option_map f (find other)
    found_still x found is other = elim (eqb_tells key other) [
      | inl agree ↦
          ap (λ (n : ℕ). option_map f (find' n)) (sym agree.1) ∙ ap (λ (o : Option A). option_map f o) changed ∙ is
          ∙ sym (ap (λ (n : ℕ). option_map f (find n)) (sym agree.1) ∙ ap (λ (o : Option A). option_map f o) found)
      | inr differ ↦ ap (λ (o : Option A). option_map f o) (others other (λ same. differ.1 (sym same)))
    ]

    pub found_new : (x : A) (stream : T) → find key ≡ None → slot ≡ Some x → f x ≡ new_channel stream → (other : ℕ) → IsNew (eqb key other) stream (option_map f (find other)) (option_map f (find' other))
    found_new x stream free is new other =
        at_new (eqb key other) stream (option_map f (find other)) (option_map f (find' other))
        (λ agree.
        let same : key ≡ other = eqb-true key other agree in (
          ap (λ (n : ℕ). option_map f (find n)) (sym same) ∙ ap (λ (o : Option A). option_map f o) free,
          ap (λ (n : ℕ). option_map f (find' n)) (sym same) ∙ ap (λ (o : Option A). option_map f o) (changed ∙ is) ∙ ap (λ (y : Channel T). Some y) new,
        ))
        (λ differ. ap (λ (o : Option A). option_map f o) (others other (apart key other differ)))
