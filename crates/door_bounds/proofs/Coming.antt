-- Answers to events.
use Rattle.std.proofs.Common.{◌≡◌, ℕ, Bool, true, false, List, [], Option, Some, None, refl, sym, ap, subst, ◌∙◌}
use Rattle.std.specs.Prelude.{◌==◌}
use Rattle.std.specs.Prelude.{Vec}
use Rattle.std.specs.declared.alloc.Global.{Global}
use Rattle.broker_sockets.specs.declared.events.Event.{Event}
use Rattle.broker_sockets.specs.declared.events.EventKind.{EventKind}
use Rattle.broker_sockets.specs.declared.events.EventKind.TheVariants.{Started, Opened, Piece, Room, Closed, Tick}
use Rattle.broker_sockets.specs.declared.events.Output.{Output}
use Rattle.mqtt_bounds.specs.declared.bounds.Bounds.{Bounds}
use Rattle.door_bounds.specs.Answering.{IsAnsweredIf, IsAnsweredOn, IsCame, IsCameFrom, IsCameOn, IsLetIn, IsMet, IsPlain, IsPlainOn, IsWeighed, instead, is_let_in}
use Rattle.door_bounds.specs.Clients.{IsBut, client_of}
use Rattle.door_bounds.specs.Mending.{Buffer}
use Rattle.door_bounds.specs.Telling.{AreSteps, IsTold}
use Rattle.door_bounds.specs.Walk.{Come, IsCome, come}
use Rattle.door_bounds.specs.declared.client.Client.{Client}
use Rattle.door_bounds.specs.declared.clients.Clients.{Clients}
use Rattle.door_bounds.specs.declared.door.Door.{Door}
use Rattle.door_bounds.specs.declared.step.Step.{Step}

-- events that are no bytes
abbrev pub is_plain : EventKind → Bool
is_plain (Piece q bytes) = false
is_plain kind = true

but_then : (q : ℕ) (x y : Option Client) (k l k' : Clients) → IsBut q x k l → IsBut q y l k' → IsBut q y k k'
but_then q x y k l k' a b = record { at = b.at; others = λ p e. b.others p e ∙ a.others p e }

module _ {H : Type 0} (handles : H → Event → List Output → H → Type 0) where
  pub came_none : (b : Bounds) (full : Bool) (at q : ℕ) (bs : List ℕ) (h : H) (k k' : Clients) (outputs : List Output) → outputs ≡ [] → None ≡ client_of k q → IsBut q None k k'
      → IsCameOn handles b full at q bs h h k k' outputs
  came_none b full at q bs h k k' outputs none found but =
      subst (λ (c : Option Client). IsCameFrom handles c b full at q bs h h k k' outputs) found (none, refl, but)

  pub came : (b : Bounds) (full : Bool) (at q : ℕ) (bs : List ℕ) (client after : Client) (did : Vec Step Global) (h h' : H) (k l m k' : Clients) (o outputs : List Output) → o ≡ [] → Some client ≡ client_of k q
      → IsBut q None k l → IsCome (come b full client bs) did after → IsBut q (Some after) l m → AreSteps handles at q did.items h h' m k' o outputs
      → IsCameOn handles b full at q bs h h' k k' outputs
  came b full at q bs client after did h h' k l m k' o outputs none found gone is put steps =
      let kept : IsBut q (Some (come b full client bs).client) k m = subst (λ (c : Client). IsBut q (Some c) k m) is.client (but_then q None (Some after) k l m gone put) in
      let Did : List Output → Type 0 = λ x. AreSteps handles at q did.items h h' m k' x outputs in
      let done : AreSteps handles at q (come b full client bs).steps h h' m k' [] outputs =
      subst (λ (ss : List Step). AreSteps handles at q ss h h' m k' [] outputs) is.steps (subst Did none steps) in
      subst (λ (c : Option Client). IsCameFrom handles c b full at q bs h h' k k' outputs) found (record { known = m; kept = kept; did = done })

  pub plainly : (e : Event) (h h' : H) (k met k' : Clients) (outputs : List Output) → IsMet e.kind k met → IsTold handles e outputs h h' met k' → IsPlain handles e h h' k k' outputs
  plainly e h h' k met k' outputs meets told = record { met = met; meets = meets; told = told }

  -- the handler inside isn't told
  pub turned_away : (let_in : Bool) (e : Event) (h : H) (k : Door) (outputs : List Output) → let_in ≡ false → outputs ≡ instead e.kind → IsAnsweredOn handles let_in e h h k k outputs
  turned_away true e h k outputs off is = absurd cc
  turned_away false e h k outputs off is = (is, refl, refl)

  plain_kind : (kind : EventKind) (e : Event) (h h' : H) (k k' : Door) (outputs : List Output) → is_plain kind ≡ true → IsPlainOn handles e h h' k k' outputs → IsLetIn handles kind e h h' k k' outputs
  plain_kind Started e h h' k k' outputs free a = a
  plain_kind (Opened c) e h h' k k' outputs free a = a
  plain_kind (Piece c bytes) e h h' k k' outputs free a = absurd cc
  plain_kind (Room c bytes) e h h' k k' outputs free a = a
  plain_kind (Closed c) e h h' k k' outputs free a = a
  plain_kind Tick e h h' k k' outputs free a = a

  event_is : (e e' : Event) (kind : EventKind) → e.kind ≡ kind → e' ≡ record { at = e.at; kind = kind } → e' ≡ e
  event_is e e' kind is same = same ∙ ap (λ (x : EventKind). record { at = e.at; kind = x }) (sym is)

  -- it is told of an event that is no bytes
  pub plain_in : (let_in : Bool) (e e' : Event) (kind : EventKind) (h h' : H) (k k' : Door) (outputs : List Output) → let_in ≡ true → e.kind ≡ kind → is_plain kind ≡ true → e' ≡ record { at = e.at; kind = kind }
      → IsPlain handles e' h h' k.clients k'.clients outputs → k'.limits ≡ k.limits → k'.full ≡ k.full → IsAnsweredOn handles let_in e h h' k k' outputs
  plain_in false e e' kind h h' k k' outputs on is free same p limits full = absurd cc
  plain_in true e e' kind h h' k k' outputs on is free same p limits full =
      let so : IsPlain handles e h h' k.clients k'.clients outputs = subst (λ (x : Event). IsPlain handles x h h' k.clients k'.clients outputs) (event_is e e' kind is same) p in
      let let_kind : IsLetIn handles kind e h h' k k' outputs = plain_kind kind e h h' k k' outputs free (so, (limits, full)) in
      subst (λ (x : EventKind). IsLetIn handles x e h h' k k' outputs) (sym is) let_kind

  -- it is told of bytes
  pub bytes_in : (let_in : Bool) (e : Event) (q : ℕ) (bytes : Buffer) (h h' : H) (k k' : Door) (outputs : List Output) → let_in ≡ true → e.kind ≡ Piece q bytes
      → IsCameOn handles k.limits.packets k.full e.at q bytes.items h h' k.clients k'.clients outputs → k'.limits ≡ k.limits → k'.full ≡ k.full → IsAnsweredOn handles let_in e h h' k k' outputs
  bytes_in false e q bytes h h' k k' outputs on is a limits full = absurd cc
  bytes_in true e q bytes h h' k k' outputs on is a limits full = subst (λ (x : EventKind). IsLetIn handles x e h h' k k' outputs) (sym is) (a, (limits, full))

  -- behind what is asked of memory
  pub handled : (e : Event) (h h' : H) (k m k' : Door) (outputs : List Output) → IsWeighed e.kind k m → IsAnsweredOn handles (is_let_in m e.kind) e h h' m k' outputs
      → IsAnsweredIf handles (Some k) (Some k') e h h' outputs
  handled e h h' k m k' outputs w a = (m, w, a)
