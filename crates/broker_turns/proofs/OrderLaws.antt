-- What waits for a client stays whole and in order.
use Rattle.std.proofs.Common.{◌≡◌, ℕ, zero, suc, List, [], ◌∷◌, ◌++◌, length, take, drop, Option, Some, None, Bool, true, false, refl, sym, ◌∙◌, ap, append_assoc, append-nil, inl, inr, eqb, if◌then◌else◌, slice_index_or, Vec}
use Rattle.std.proofs.lemmas.Bool.Decides.{eqb_tells}
use Rattle.std.proofs.lemmas.List.{take-append-drop, take-take}
use Rattle.std.specs.Io.{StartsWith}
use Rattle.std.specs.declared.alloc.Global.{Global}
use Rattle.std.specs.declared.net.socket_addr.SocketAddr.{SocketAddr}
use Rattle.slab.specs.Slab.{Slab, get, Updates}
use Rattle.broker_sockets.specs.declared.network.Answer.{Answer}
use Rattle.broker_sockets.specs.declared.network.Answer.TheVariants.{Later, Bytes, Gone}
use Rattle.broker_turns.specs.declared.clients.Client.{Client}
use Rattle.broker_turns.specs.declared.turn.Fate.{Fate}
use Rattle.broker_turns.specs.declared.turn.Fate.TheVariants.{Stays, Done, Lost}
use Rattle.broker_sockets.specs.declared.events.Event.{Event}
use Rattle.broker_sockets.specs.declared.events.Output.{Output}
use Rattle.broker_sockets.specs.declared.events.Output.TheVariants.{Send, Close}
use Rattle.broker_sockets.specs.declared.bridge.Given.{Given}
use Rattle.broker_sockets.specs.declared.bridge.PeerEvent.{PeerEvent}
use Rattle.broker_sockets.specs.declared.bridge.PeerEventKind.{PeerEventKind}
use Rattle.broker_turns.specs.declared.lines.Line.{Line}
use Rattle.broker_sockets.specs.declared.ready.Ready.{Ready}
use Rattle.broker_sockets.specs.declared.ready.Watched.{Watched}
use Rattle.broker_turns.specs.declared.setting.Setting.{Setting}
use Rattle.broker_turns.specs.Bridging.{HearsAll, IsBegunBy, IsDialledAt, IsDialledIf, IsHeardFrom, IsHearing, IsDialledOnce, IsLinkReadIn, IsPeerRead, IsPeerReadIn, IsShipped, IsShippedIf, IsSought, IsSupplied, Near, Place, Reach, Search}
use Rattle.broker_turns.specs.Lines.{asks_for, is_rested, link_of}
use Rattle.broker_sockets.specs.Answers.{IsWithin, carried, left_after, Offers}
use Rattle.broker_turns.specs.Clients.{sent, closed, takes_more, told, told_all, told_at, Released}
use Rattle.broker_turns.specs.Writing.{Tried}
use Rattle.broker_turns.specs.Connections.{World, IsAccepted, IsNobodyAccepted, IsWelcomed, IsHandled, IsLetGo, IsHeard, IsRead, IsReadIn, IsReadIf, IsRoomIf, IsRoomIn, IsRoomStep, IsWrote, IsWroteIn, IsParted, IsLost}
use Rattle.broker_turns.specs.Steps.{AreLetInIf, IsEnough, Each, EachBelow, EachTells}
use Rattle.broker_turns.specs.Turns.{IsDecided, IsGivenOut, IsTakenIn, IsTurn, Site, front}
use Rattle.broker_turns.specs.Order.{Extends, flow, TakesWhatItAnswers, TakesNothing, NothingIsLost}

pub Extends-same : (xs ys : List ℕ) → xs ≡ ys → Extends xs ys
Extends-same xs ys e = ([], e ∙ sym (append-nil ys))

pub Extends-over : (xs ys zs : List ℕ) → Extends xs ys → Extends ys zs → Extends xs zs
Extends-over xs ys zs a b = (b.0 ++ a.0, a.1 ∙ ap (λ t. t ++ a.0) b.1 ∙ append_assoc zs b.0 a.0)

-- what was carried and what is left are what waited
pub whole : (answer : Answer) (unsent offered : List ℕ) → StartsWith unsent offered → IsWithin answer (length offered) → carried answer offered ++ left_after answer unsent ≡ unsent
whole Later unsent offered first within = refl
whole (Bytes n) unsent offered first within =
    ap (λ t. t ++ drop n unsent) (ap (λ t. take n t) (sym first) ∙ take-take n (length offered) unsent within) ∙ take-append-drop n unsent
whole Gone unsent offered first within = refl

module _ {T : Type 0} (taken : T → List ℕ) where
  sent-by : (closing : Bool) (bytes : List ℕ) (client : Client T) → Extends (flow taken (if closing then client else record client { unsent = client.unsent ++ bytes; untold = true })) (flow taken client)
  sent-by true bytes client = Extends-same _ _ refl
  sent-by false bytes client = (bytes, sym (append_assoc (taken client.stream) client.unsent bytes))

  told-if : (b : Bool) (bytes : List ℕ) (client : Client T) → Extends (flow taken (if b then sent bytes client else client)) (flow taken client)
  told-if true bytes client = sent-by client.closing bytes client
  told-if false bytes client = Extends-same _ _ refl

  closed-if : (b : Bool) (client : Client T) → Extends (flow taken (if b then closed client else client)) (flow taken client)
  closed-if true client = Extends-same _ _ refl
  closed-if false client = Extends-same _ _ refl

  told-extends : (key : ℕ) (output : Output) (client : Client T) → Extends (flow taken (told key output client)) (flow taken client)
  told-extends key (Send connection bytes) client = told-if (eqb connection key) bytes.items client
  told-extends key (Close connection) client = closed-if (eqb connection key) client

  told_all-extends : (key : ℕ) (outputs : List Output) (client : Client T) → Extends (flow taken (told_all key outputs client)) (flow taken client)
  told_all-extends key [] client = Extends-same _ _ refl
  told_all-extends key (output ∷ outputs) client =
      Extends-over _ _ _ (told_all-extends key outputs (told key output client)) (told-extends key output client)

  -- each client that is there was there, and has kept what it had
  abbrev Keeps : Slab (Client T) → Slab (Client T) → Type 0
  Keeps c c' = (key : ℕ) (client' : Client T) → get c' key ≡ Some client' → (client : Client T) × (get c key ≡ Some client) × Extends (flow taken client') (flow taken client)

  Keeps-same : (c : Slab (Client T)) → Keeps c c
  Keeps-same c key client' there = (client', there, Extends-same _ _ refl)

  Keeps-over : (a b c : Slab (Client T)) → Keeps a b → Keeps b c → Keeps a c
  Keeps-over a b c first second key client' there =
      let late = second key client' there in
      let early = first key late.0 late.1 in
      (early.0, early.1, Extends-over _ _ _ late.2 early.2)

  told-from : (key : ℕ) (outputs : List Output) (before : Option (Client T)) (client' : Client T) → Some client' ≡ told_at key outputs before → (client : Client T) × (before ≡ Some client) × Extends (flow taken client') (flow taken client)
  told-from key outputs None client' e = absurd (cc)
  told-from key outputs (Some client) client' e =
      let is : client' ≡ told_all key outputs client = cc in
      (client, refl, rw is (told_all-extends key outputs client))

  Keeps-released : (outputs : List Output) (c c' : Slab (Client T)) → Released outputs c c' → Keeps c c'
  Keeps-released outputs c c' released key client' there =
      told-from key outputs (get c key) client' (sym there ∙ released key)

  Keeps-update : (c c' : Slab (Client T)) (key : ℕ) (client client' : Client T) → get c key ≡ Some client → Extends (flow taken client') (flow taken client) → Updates c c' key (Some client') → Keeps c c'
  Keeps-update c c' key client client' found extends updates other other' there = elim (eqb_tells other key) [
    | inl same ↦
        let is : Some client' ≡ Some other' = sym updates.changed ∙ ap (λ k. get c' k) (sym same.1) ∙ there in
        let at : other' ≡ client' = cc in
        (client, ap (λ k. get c k) same.1 ∙ found, rw at extends)
    | inr apart ↦ (other', sym (updates.others other apart.1) ∙ there, Extends-same _ _ refl)
  ]

  Keeps-removal : (c c' : Slab (Client T)) (key : ℕ) → Updates c c' key None → Keeps c c'
  Keeps-removal c c' key updates other other' there = elim (eqb_tells other key) [
    | inl same ↦
        let is : None ≡ Some other' = sym updates.changed ∙ ap (λ k. get c' k) (sym same.1) ∙ there in
        absurd (cc)
    | inr apart ↦ (other', sym (updates.others other apart.1) ∙ there, Extends-same _ _ refl)
  ]

module _ {S H T : Type 0} (taken : T → List ℕ) (reads : S → T → Answer → List ℕ → S → T → Type 0) (writes : S → T → List ℕ → Answer → S → T → Type 0) (handles : H → Event → List Output → H → Type 0) (settles : H → H → Type 0) (at : ℕ) where
  Keeps-handled : (it : Event) (h h' : H) (c c' : Slab (Client T)) → IsHandled handles it h c h' c' → Keeps taken c c'
  Keeps-handled it h h' c c' handled = Keeps-released taken handled.outputs c c' handled.released

  Keeps-let_go : (key : ℕ) (h h' : H) (c c' : Slab (Client T)) → IsLetGo handles at key h c h' c' → Keeps taken c c'
  Keeps-let_go key h h' c c' gone =
      Keeps-over taken c gone.less c' (Keeps-removal taken c gone.less key gone.removed) (Keeps-handled _ h h' gone.less c' gone.handled)

  Keeps-heard : (key : ℕ) (answer : Answer) (bytes : List ℕ) (client client' : Client T) (h h' : H) (c c' : Slab (Client T)) (more : Bool) → get c key ≡ Some client → Extends (flow taken client') (flow taken client) → IsHeard handles at key answer bytes client' h c more h' c' → Keeps taken c c'
  Keeps-heard key Later bytes client client' h h' c c' more found extends heard = Keeps-update taken c c' key client client' found extends heard.1
  Keeps-heard key (Bytes n) bytes client client' h h' c c' more found extends heard =
      Keeps-over taken c heard.0.kept c' (Keeps-update taken c heard.0.kept key client client' found extends heard.0.keeps) (Keeps-handled _ h h' heard.0.kept c' heard.0.handled)
  Keeps-heard key Gone bytes client client' h h' c c' more found extends heard = Keeps-let_go key h h' c c' heard.0

  Keeps-read_if : TakesNothing taken reads → (closing : Bool) (key : ℕ) (client : Client T) (w : World S H T) (more : Bool) (w' : World S H T) → get w.clients key ≡ Some client → IsReadIf reads handles at key closing client w more w' → Keeps taken w.clients w'.clients
  Keeps-read_if honest true key client w more w' found same = rw same.0 (Keeps-same taken w.clients)
  Keeps-read_if honest false key client w more w' found asked =
      Keeps-heard key asked.answer asked.bytes client (record client { stream = asked.stream }) w.handler w'.handler w.clients w'.clients more found
      (Extends-same _ _ (ap (λ t. t ++ client.unsent) (honest _ _ _ _ _ _ asked.answered))) asked.heard

  Keeps-read_in : TakesNothing taken reads → (before : Option (Client T)) (key : ℕ) (w : World S H T) (more : Bool) (w' : World S H T) → get w.clients key ≡ before → IsReadIn reads handles at key before w more w' → Keeps taken w.clients w'.clients
  Keeps-read_in honest None key w more w' found same = rw same.0 (Keeps-same taken w.clients)
  Keeps-read_in honest (Some client) key w more w' found asked = Keeps-read_if honest client.closing key client w more w' found asked

  Keeps-read : TakesNothing taken reads → (key : ℕ) (w : World S H T) (more : Bool) (w' : World S H T) → IsRead reads handles at key w more w' → Keeps taken w.clients w'.clients
  Keeps-read honest key w more w' read = Keeps-read_in honest (get w.clients key) key w more w' refl read.by_client

  Keeps-lost : (closing : Bool) (key : ℕ) (h h' : H) (c c' : Slab (Client T)) → IsLost handles settles at closing key h c h' c' → Keeps taken c c'
  Keeps-lost true key h h' c c' lost = Keeps-removal taken c c' key lost.1
  Keeps-lost false key h h' c c' lost = Keeps-let_go key h lost.0 c c' lost.1

  Keeps-parted : (key : ℕ) (fate : Fate) (client left : Client T) (h h' : H) (c c' : Slab (Client T)) → get c key ≡ Some client → Extends (flow taken left) (flow taken client) → IsParted handles settles at key fate left h c h' c' → Keeps taken c c'
  Keeps-parted key Stays client left h h' c c' found extends parted = Keeps-update taken c c' key client left found extends parted.1
  Keeps-parted key Done client left h h' c c' found extends parted = Keeps-removal taken c c' key parted.1
  Keeps-parted key Lost client left h h' c c' found extends parted = Keeps-lost left.closing key h h' c c' parted

  offers-whole : TakesWhatItAnswers taken writes → (s s' : S) (client left : Client T) (answer : Answer) → Offers writes client.unsent s client.stream answer left.unsent s' left.stream → flow taken left ≡ flow taken client
  offers-whole honest s s' client left answer o =
      ap (λ t. t ++ left.unsent) (honest _ _ _ _ _ _ o.asked)
      ∙ append_assoc (taken client.stream) (carried answer o.offered) left.unsent
      ∙ ap (λ t. taken client.stream ++ t) (ap (λ t. carried answer o.offered ++ t) o.left_is ∙ whole answer client.unsent o.offered o.first o.within)

  tried-whole : TakesWhatItAnswers taken writes → (answer : Option Answer) (s s' : S) (client left : Client T) → Tried writes s client answer s' left → flow taken left ≡ flow taken client
  tried-whole honest None s s' client left t = ap (λ c. flow taken c) t.2
  tried-whole honest (Some answer) s s' client left t = offers-whole honest s s' client left answer t.0

  Keeps-wrote_in : TakesWhatItAnswers taken writes → (before : Option (Client T)) (key : ℕ) (w w' : World S H T) → get w.clients key ≡ before → IsWroteIn writes handles settles at key before w w' → Keeps taken w.clients w'.clients
  Keeps-wrote_in honest None key w w' found same = rw same (Keeps-same taken w.clients)
  Keeps-wrote_in honest (Some client) key w w' found tried =
      Keeps-parted key tried.fate client tried.left w.handler w'.handler w.clients w'.clients found
      (Extends-same _ _ (tried-whole honest tried.written.answer _ _ client tried.left tried.written.tried)) tried.parted

  Keeps-wrote : TakesWhatItAnswers taken writes → (key : ℕ) (w w' : World S H T) → IsWrote writes handles settles at key w w' → Keeps taken w.clients w'.clients
  Keeps-wrote honest key w w' wrote = Keeps-wrote_in honest (get w.clients key) key w w' refl wrote.by_client

module _ {T : Type 0} (taken : T → List ℕ) where
  -- each client that was there is there, and has kept what it had
  abbrev Grows : Slab (Client T) → Slab (Client T) → Type 0
  Grows c c' = (key : ℕ) (client : Client T) → get c key ≡ Some client → (client' : Client T) × (get c' key ≡ Some client') × Extends (flow taken client') (flow taken client)

  Grows-equal : (c c' : Slab (Client T)) → c' ≡ c → Grows c c'
  Grows-equal c c' same key client found = (client, ap (λ s. get s key) same ∙ found, Extends-same _ _ refl)

  Grows-over : (a b c : Slab (Client T)) → Grows a b → Grows b c → Grows a c
  Grows-over a b c first second key client found =
      let early = first key client found in
      let late = second key early.0 early.1 in
      (late.0, late.1, Extends-over _ _ _ late.2 early.2)

  Grows-released : (outputs : List Output) (c c' : Slab (Client T)) → Released outputs c c' → Grows c c'
  Grows-released outputs c c' released key client found =
      (told_all key outputs client, released key ∙ ap (λ o. told_at key outputs o) found, told_all-extends taken key outputs client)

  Grows-added : (c c' : Slab (Client T)) (key : ℕ) (new : Client T) → get c key ≡ None → Updates c c' key (Some new) → Grows c c'
  Grows-added c c' key new free added other client found = elim (eqb_tells other key) [
    | inl same ↦
        let is : None ≡ Some client = sym free ∙ ap (λ k. get c k) (sym same.1) ∙ found in
        absurd (cc)
    | inr apart ↦ (client, added.others other apart.1 ∙ found, Extends-same _ _ refl)
  ]

  Grows-update : (c c' : Slab (Client T)) (key : ℕ) (old new : Client T) → get c key ≡ Some old → Extends (flow taken new) (flow taken old) → Updates c c' key (Some new) → Grows c c'
  Grows-update c c' key old new found extends updates other client there = elim (eqb_tells other key) [
    | inl same ↦
        let is : Some old ≡ Some client = sym found ∙ ap (λ k. get c k) (sym same.1) ∙ there in
        let at : client ≡ old = cc in
        (new, ap (λ k. get c' k) same.1 ∙ updates.changed, rw at extends)
    | inr apart ↦ (client, updates.others other apart.1 ∙ there, Extends-same _ _ refl)
  ]

module _ {H T : Type 0} (taken : T → List ℕ) (handles : H → Event → List Output → H → Type 0) (at : ℕ) where
  -- while the handler is told how much a connection takes
  Grows-room_if : (takes : Bool) (key : ℕ) (client : Client T) (h h' : H) (c c' : Slab (Client T)) → get c key ≡ Some client → IsRoomIf handles at takes key client h c h' c' → Grows taken c c'
  Grows-room_if true key client h h' c c' found told =
      Grows-over taken c told.noted c' (Grows-update taken c told.noted key client _ found (Extends-same _ _ refl) told.notes) (Grows-released taken told.handled.outputs told.noted c' told.handled.released)
  Grows-room_if false key client h h' c c' found same = Grows-equal taken c c' same.1

  Grows-room_in : (o : Option (Client T)) (key : ℕ) (h h' : H) (c c' : Slab (Client T)) → get c key ≡ o → IsRoomIn handles at o key h c h' c' → Grows taken c c'
  Grows-room_in None key h h' c c' found same = Grows-equal taken c c' same.1
  Grows-room_in (Some client) key h h' c c' found is = Grows-room_if (takes_more client) key client h h' c c' found is

  Keeps-room_if : (takes : Bool) (key : ℕ) (client : Client T) (h h' : H) (c c' : Slab (Client T)) → get c key ≡ Some client → IsRoomIf handles at takes key client h c h' c' → Keeps taken c c'
  Keeps-room_if true key client h h' c c' found told =
      Keeps-over taken c told.noted c' (Keeps-update taken c told.noted key client _ found (Extends-same _ _ refl) told.notes) (Keeps-released taken told.handled.outputs told.noted c' told.handled.released)
  Keeps-room_if false key client h h' c c' found same = rw same.1 (Keeps-same taken c)

  Keeps-room_in : (o : Option (Client T)) (key : ℕ) (h h' : H) (c c' : Slab (Client T)) → get c key ≡ o → IsRoomIn handles at o key h c h' c' → Keeps taken c c'
  Keeps-room_in None key h h' c c' found same = rw same.1 (Keeps-same taken c)
  Keeps-room_in (Some client) key h h' c c' found is = Keeps-room_if (takes_more client) key client h h' c c' found is

  Keeps-room : (key : ℕ) (n n' : H × Slab (Client T)) → IsRoomStep handles at key n n' → Keeps taken n.1 n'.1
  Keeps-room key n n' made = Keeps-room_in (get n.1 key) key n.0 n'.0 n.1 n'.1 refl made.by_client

module _ {S H L T : Type 0} (taken : T → List ℕ) (accepts : S → L → Option T → S → Type 0) (watches : S → T → Watched → Bool → S → Type 0) (handles : H → Event → List Output → H → Type 0) (at : ℕ) (listener : L) where
  Grows-welcomed : (watchable : Bool) (stream : T) (key : ℕ) (h h' : H) (c c' : Slab (Client T)) → get c key ≡ None → IsWelcomed handles at watchable stream key h c h' c' → Grows taken c c'
  Grows-welcomed true stream key h h' c c' free joined =
      Grows-over taken c joined.more c' (Grows-added taken c joined.more key _ free joined.added)
      (Grows-over taken joined.more joined.opened c' (Grows-released taken joined.handled.outputs joined.more joined.opened joined.handled.released)
      (Grows-room_in taken handles at (get joined.opened key) key joined.told h' joined.opened c' refl joined.room.by_client))
  Grows-welcomed false stream key h h' c c' free same = Grows-equal taken c c' same.1

  Grows-below : (n : ℕ) (w w' : World S H T) → EachBelow (λ (_ : ℕ). IsAccepted accepts watches handles at listener) n w w' → Grows taken w.clients w'.clients
  Grows-below zero w w' same = Grows-equal taken w.clients w'.clients (ap (λ v. v.clients) same)
  Grows-below (suc n) w w' each =
      Grows-over taken w.clients each.0.clients w'.clients (Grows-below n w each.0 each.1)
      (Grows-welcomed each.2.watchable each.2.stream each.2.key each.0.handler w'.handler each.0.clients w'.clients each.2.free each.2.welcomed)

  Grows-enough : (more : Bool) (count : ℕ) (w w' : World S H T) → IsEnough (IsAccepted accepts watches handles at listener) (IsNobodyAccepted accepts watches handles at listener) 64 more count w w' → Grows taken w.clients w'.clients
  Grows-enough true count w w' full = Grows-equal taken w.clients w'.clients (ap (λ v. v.clients) full.1)
  Grows-enough false count w w' last = Grows-equal taken w.clients w'.clients last.1.clients

  Grows-accepted : (asked : Bool) (w : World S H T) (more : Bool) (w' : World S H T) → AreLetInIf (IsAccepted accepts watches handles at listener) (IsNobodyAccepted accepts watches handles at listener) 64 asked w more w' → Grows taken w.clients w'.clients
  Grows-accepted true w more w' let_in =
      Grows-over taken w.clients let_in.between.clients w'.clients (Grows-below let_in.count w let_in.between let_in.each) (Grows-enough more let_in.count let_in.between w' let_in.enough)
  Grows-accepted false w more w' same = Grows-equal taken w.clients w'.clients (ap (λ v. v.clients) same.1)

module _ {T : Type 0} (taken : T → List ℕ) where
  Keeps-equal : (c c' : Slab (Client T)) → c' ≡ c → Keeps taken c c'
  Keeps-equal c c' same = rw same (Keeps-same taken c)

  module _ {W : Type 0} (clients : W → Slab (Client T)) (step : ℕ → W → W → Type 0) (keeps : (key : ℕ) (w w' : W) → step key w w' → Keeps taken (clients w) (clients w')) where
    Keeps-each : (keys : List ℕ) (w w' : W) → Each step keys w w' → Keeps taken (clients w) (clients w')
    Keeps-each [] w w' same = Keeps-equal (clients w) (clients w') (ap clients same)
    Keeps-each (key ∷ keys) w w' each =
        Keeps-over taken (clients w) (clients each.0) (clients w') (keeps key w each.0 each.1) (Keeps-each keys each.0 w' each.2)

    Keeps-below : (n : ℕ) (w w' : W) → EachBelow step n w w' → Keeps taken (clients w) (clients w')
    Keeps-below zero w w' same = Keeps-equal (clients w) (clients w') (ap clients same)
    Keeps-below (suc n) w w' each =
        Keeps-over taken (clients w) (clients each.0) (clients w') (Keeps-below n w each.0 each.1) (keeps n each.0 w' each.2)

  module _ {W : Type 0} (clients : W → Slab (Client T)) (step : ℕ → W → Bool → W → Type 0) (keeps : (key : ℕ) (w : W) (more : Bool) (w' : W) → step key w more w' → Keeps taken (clients w) (clients w')) where
    Keeps-tells : (keys : List ℕ) (w : W) (found : List ℕ) (w' : W) → EachTells step keys w found w' → Keeps taken (clients w) (clients w')
    Keeps-tells [] w found w' same = Keeps-equal (clients w) (clients w') (ap clients same.0)
    Keeps-tells (key ∷ keys) w found w' each =
        Keeps-over taken (clients w) (clients each.0) (clients w') (keeps key w each.1 each.0 each.3) (Keeps-tells keys each.0 each.2 w' each.4)

module _ {S H T : Type 0} (taken : T → List ℕ) (watches : S → T → Watched → Bool → S → Type 0) (connects : S → SocketAddr → Option T → S → Type 0) (reads : S → T → Answer → List ℕ → S → T → Type 0) (hears : H → PeerEvent → Given → H → Type 0) (at : ℕ) where
  Keeps-hearing : (it : PeerEvent) (n n' : Near H T) → IsHearing hears it n n' → Keeps taken n.clients n'.clients
  Keeps-hearing it n n' h = Keeps-released taken h.given.outputs.items n.clients n'.clients h.released

  Keeps-hears_all : (frames : List (Vec ℕ Global)) (n n' : Near H T) → HearsAll hears at frames n n' → Keeps taken n.clients n'.clients
  Keeps-hears_all [] n n' same = Keeps-equal taken n.clients n'.clients (ap (λ m. m.clients) same)
  Keeps-hears_all (frame ∷ frames) n n' h =
      Keeps-over taken n.clients h.0.clients n'.clients (Keeps-hearing _ (record n { dialled = h.1.links }) h.0 h.1.heard) (Keeps-hears_all frames h.0 n' h.2)

  Keeps-link_in : (line : Option (Line T)) (key : ℕ) (p : Place S H T) (more : Bool) (p' : Place S H T) → IsLinkReadIn reads hears at line key p more p' → Keeps taken p.reach.near.clients p'.reach.near.clients
  Keeps-link_in None key p more p' same = Keeps-equal taken _ _ (ap (λ q. q.reach.near.clients) same.0)
  Keeps-link_in (Some line) key p more p' read = Keeps-hears_all read.frames p.reach.near p'.reach.near read.heard

  Keeps-heard_from : (key : ℕ) (p : Place S H T) (more : Bool) (p' : Place S H T) → IsHeardFrom reads hears at key p more p' → Keeps taken p.reach.near.clients p'.reach.near.clients
  Keeps-heard_from key p more p' h = Keeps-link_in (get p.accepted key) key p more p' h.by_link

  Keeps-peer_in : (line : Option (Line T)) (peer : ℕ) (r : Reach S H T) (more : Bool) (r' : Reach S H T) → IsPeerReadIn reads hears at line peer r more r' → Keeps taken r.near.clients r'.near.clients
  Keeps-peer_in None peer r more r' same = Keeps-equal taken _ _ (ap (λ q. q.near.clients) same.0)
  Keeps-peer_in (Some line) peer r more r' read = Keeps-hears_all read.frames (record r.near { dialled = read.links }) r'.near read.heard

  Keeps-peer : (peer : ℕ) (r : Reach S H T) (more : Bool) (r' : Reach S H T) → IsPeerRead reads hears at peer r more r' → Keeps taken r.near.clients r'.near.clients
  Keeps-peer peer r more r' h = Keeps-peer_in (link_of r.near.dialled peer) peer r more r' h.by_link

  Keeps-begun : (stream : Option T) (peer : ℕ) (n n' : Near H T) → IsBegunBy connects watches hears at stream peer n n' → Keeps taken n.clients n'.clients
  Keeps-begun None peer n n' same = Keeps-equal taken _ _ (ap (λ m. m.clients) same)
  Keeps-begun (Some stream) peer n n' begun = Keeps-hearing _ (record n { dialled = begun.0 }) n' begun.2

  Keeps-dialled_once : (rested : Bool) (address : SocketAddr) (peer : ℕ) (q q' : Search S H T) → IsDialledOnce connects watches hears at rested address peer q q' → Keeps taken q.reach.near.clients q'.reach.near.clients
  Keeps-dialled_once true address peer q q' dialled = Keeps-begun dialled.stream peer q.reach.near q'.reach.near dialled.begun
  Keeps-dialled_once false address peer q q' same = Keeps-equal taken _ _ (ap (λ d. d.reach.near.clients) same)

  Keeps-dialled_if : (line : Option (Line T)) (address : SocketAddr) (peer : ℕ) (q q' : Search S H T) → IsDialledIf connects watches hears at line address peer q q' → Keeps taken q.reach.near.clients q'.reach.near.clients
  Keeps-dialled_if None address peer q q' dialled = Keeps-dialled_once (is_rested 1000 at (slice_index_or q.sought peer None)) address peer q q' dialled
  Keeps-dialled_if (Some line) address peer q q' same = Keeps-equal taken _ _ (ap (λ d. d.reach.near.clients) same)

  Keeps-dialled_at : (address : Option SocketAddr) (peer : ℕ) (q q' : Search S H T) → IsDialledAt connects watches hears at address peer q q' → Keeps taken q.reach.near.clients q'.reach.near.clients
  Keeps-dialled_at None peer q q' same = Keeps-equal taken _ _ (ap (λ d. d.reach.near.clients) same)
  Keeps-dialled_at (Some address) peer q q' dialled = Keeps-dialled_if (link_of q.reach.near.dialled peer) address peer q q' dialled

  Keeps-sought : (peers : List (Option SocketAddr)) (peer : ℕ) (q q' : Search S H T) → IsSought connects watches hears at peers peer q q' → Keeps taken q.reach.near.clients q'.reach.near.clients
  Keeps-sought peers peer q q' sought = Keeps-dialled_at (slice_index_or peers peer None) peer q q' sought.by_address

  Keeps-shipped_if : (kind : Option PeerEventKind) (peer : ℕ) (n n' : Near H T) → IsShippedIf hears at kind peer n n' → Keeps taken n.clients n'.clients
  Keeps-shipped_if (Some kind) peer n n' h = Keeps-over taken n.clients h.0.clients n'.clients (Keeps-hearing _ n h.0 h.1) (Keeps-equal taken h.0.clients n'.clients h.2.clients)
  Keeps-shipped_if None peer n n' same = Keeps-equal taken _ _ (ap (λ m. m.clients) same)

  Keeps-shipped : (line : Option (Line T)) (peer : ℕ) (n n' : Near H T) → IsShipped hears at line peer n n' → Keeps taken n.clients n'.clients
  Keeps-shipped None peer n n' same = Keeps-equal taken _ _ (ap (λ m. m.clients) same)
  Keeps-shipped (Some line) peer n n' h = Keeps-shipped_if (asks_for at peer line) peer n n' h

  Keeps-supplied : (peer : ℕ) (n n' : Near H T) → IsSupplied hears at peer n n' → Keeps taken n.clients n'.clients
  Keeps-supplied peer n n' h = Keeps-shipped (link_of n.dialled peer) peer n n' h.by_link

module _ {S H L T : Type 0} (accepts : S → L → Option T → S → Type 0) (watches : S → T → Watched → Bool → S → Type 0) (connects : S → SocketAddr → Option T → S → Type 0) (reads : S → T → Answer → List ℕ → S → T → Type 0) (writes : S → T → List ℕ → Answer → S → T → Type 0) (finds : S → Ready → S → Type 0) (handles : H → Event → List Output → H → Type 0) (hears : H → PeerEvent → Given → H → Type 0) (settles : H → H → Type 0) where
  -- since clients have been accepted
  Keeps-taken_in :
      (taken : T → List ℕ) → TakesNothing taken reads
      → (setting : Setting L) (at : ℕ) (ready : Ready) (p : Place S H T) (more : Ready) (p' : Place S H T) (t : IsTakenIn accepts watches reads handles hears setting at ready p more p')
      → Keeps taken t.joined.reach.near.clients p'.reach.near.clients
  Keeps-taken_in taken none setting at ready p more p' t =
      let of : Place S H T → Slab (Client T) = λ p. p.reach.near.clients in
      let over : (a b c : Place S H T) → Keeps taken (of a) (of b) → Keeps taken (of b) (of c) → Keeps taken (of a) (of c) =
      λ a b c first second. Keeps-over taken (of a) (of b) (of c) first second in
      let met = Keeps-equal taken (of t.joined) (of t.met) (ap (λ (n : Near H T). n.clients) t.links_accepted.near) in
      let read = Keeps-tells taken (λ (w : World S H T). w.clients) (IsRead reads handles at) (Keeps-read taken reads writes handles settles at none) ready.clients.items (front t.met.reach) more.clients.items (front t.heard.reach) t.read.does.does in
      let links = Keeps-tells taken (λ (p : Place S H T). p.reach.near.clients) (IsHeardFrom reads hears at) (Keeps-heard_from taken watches connects reads hears at) ready.links.items t.heard more.links.items t.listened t.links_read in
      let peers = Keeps-tells taken (λ (r : Reach S H T). r.near.clients) (IsPeerRead reads hears at) (Keeps-peer taken watches connects reads hears at) ready.peers.items t.listened.reach more.peers.items p'.reach t.peers_read.does in
      over t.joined t.met p' met (over t.met t.heard p' read (over t.heard t.listened p' links peers))

  Keeps-decided :
      (taken : T → List ℕ) (setting : Setting L) (at : ℕ) (q q' : Search S H T) (d : IsDecided watches connects handles hears settles setting at q q')
      → Keeps taken q.reach.near.clients q'.reach.near.clients
  Keeps-decided taken setting at q q' d =
      let of : Reach S H T → Slab (Client T) = λ r. r.near.clients in
      let over : (a b c : Reach S H T) → Keeps taken (of a) (of b) → Keeps taken (of b) (of c) → Keeps taken (of a) (of c) =
      λ a b c first second. Keeps-over taken (of a) (of b) (of c) first second in
      let dialled = Keeps-below taken (λ (s : Search S H T). s.reach.near.clients) (IsSought connects watches hears at setting.peers.items) (Keeps-sought taken watches connects reads hears at setting.peers.items) _ q d.reached d.dialled in
      let ticked = Keeps-handled taken reads writes handles settles at _ _ _ d.reached.reach.near.clients d.told.near.clients d.ticked.does.handled in
      let shipped = Keeps-below taken (λ (n : Near H T). n.clients) (IsSupplied hears at) (Keeps-supplied taken watches connects reads hears at) _ d.told.near d.supplied.near d.shipped.does in
      let rooms = Keeps-each taken (λ (n : H × Slab (Client T)). n.1) (IsRoomStep handles at) (Keeps-room taken handles at) d.rooms_made.does.takers _ _ d.rooms_made.does.each in
      let settled = Keeps-equal taken (of d.roomed) (of q'.reach) d.settled.does.clients in
      over q.reach d.reached.reach q'.reach dialled (over d.reached.reach d.told q'.reach ticked (over d.told d.supplied q'.reach shipped (over d.supplied d.roomed q'.reach rooms settled)))

  Keeps-given_out :
      (taken : T → List ℕ) → TakesWhatItAnswers taken writes
      → (setting : Setting L) (at : ℕ) (r r' : Reach S H T) (g : IsGivenOut writes handles settles setting at r r')
      → Keeps taken r.near.clients r'.near.clients
  Keeps-given_out taken takes setting at r r' g =
      let wrote = Keeps-each taken (λ (w : World S H T). w.clients) (IsWrote writes handles settles at) (Keeps-wrote taken reads writes handles settles at takes) g.due (front r) (front g.served) g.written.does in
      Keeps-over taken r.near.clients g.served.near.clients r'.near.clients wrote (Keeps-equal taken g.served.near.clients r'.near.clients g.links_written.clients)

  Keeps-turn :
      (taken : T → List ℕ) → TakesWhatItAnswers taken writes → TakesNothing taken reads
      → (setting : Setting L) (at : ℕ) (old new : Site S H T) (turn : IsTurn accepts watches connects reads writes finds handles hears settles setting at old new)
      → Keeps taken turn.takes_in.joined.reach.near.clients new.place.reach.near.clients
  Keeps-turn taken takes none setting at old new turn =
      let joined = turn.takes_in.joined.reach.near.clients in
      let last = Keeps-equal taken turn.given.near.clients new.place.reach.near.clients (ap (λ (n : Near H T). n.clients) turn.near) in
      Keeps-over taken joined turn.taken.reach.near.clients new.place.reach.near.clients (Keeps-taken_in taken none setting at old.ready old.place turn.more turn.taken turn.takes_in)
      (Keeps-over taken turn.taken.reach.near.clients turn.settled.near.clients new.place.reach.near.clients (Keeps-decided taken setting at _ _ turn.decides)
      (Keeps-over taken turn.settled.near.clients turn.given.near.clients new.place.reach.near.clients (Keeps-given_out taken takes setting at turn.settled turn.given turn.gives_out) last))

  pub nothing_is_lost : NothingIsLost accepts watches connects reads writes finds handles hears settles
  nothing_is_lost taken takes none setting at old new turn key client client' found there =
      let kept = Keeps-turn taken takes none setting at old new turn key client' there in
      let t = turn.takes_in in
      let grown = Grows-accepted taken accepts watches handles at setting.listener old.ready.listeners (front old.place.reach) t.came (front t.joined.reach) t.accepted.does.does key client found in
      let is : Some kept.0 ≡ Some grown.0 = sym kept.1 ∙ grown.1 in
      let same : kept.0 ≡ grown.0 = cc in
      Extends-over _ _ _ kept.2 (Extends-over _ _ _ (Extends-same _ _ (ap (λ t. flow taken t) same)) grown.2)
