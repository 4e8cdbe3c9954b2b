-- What the handler inside is told behind limits on what clients send.
use Rattle.std.proofs.Common.{◌≡◌, ℕ, List, [], ◌∷◌, Bool, true, false, Option, Some, None, refl, subst}
use Rattle.broker_sockets.specs.declared.bridge.Given.{Given}
use Rattle.broker_sockets.specs.declared.bridge.PeerEvent.{PeerEvent}
use Rattle.broker_sockets.specs.declared.events.Event.{Event}
use Rattle.broker_sockets.specs.declared.events.EventKind.{EventKind}
use Rattle.broker_sockets.specs.declared.events.EventKind.TheVariants.{Started, Opened, Piece, Room, Closed, Tick}
use Rattle.broker_sockets.specs.declared.events.Output.{Output}
use Rattle.broker_turns.specs.Handling.Told.{Of_client, Of_peer}
use Rattle.mqtt_bounds.specs.declared.bounds.Bounds.{Bounds}
use Rattle.mqtt_bounds.specs.declared.verdict.Mend.{Mend}
use Rattle.door_bounds.specs.Answering.{IsAnswered, IsAnsweredIf, IsAnsweredOn, IsCameFrom, IsCameOn, IsHeard, IsLetIn, IsPlainOn, IsSettled, is_let_in}
use Rattle.door_bounds.specs.Clients.{client_of}
use Rattle.door_bounds.specs.Telling.{AreSteps, IsStep, IsTelling, IsTellingIf, is_silent}
use Rattle.door_bounds.specs.Views.{door_of, inside_of}
use Rattle.door_bounds.specs.Walk.{come}
use Rattle.door_bounds.specs.declared.bounded.Bounded.{Bounded}
use Rattle.door_bounds.specs.declared.client.Client.{Client}
use Rattle.door_bounds.specs.declared.clients.Clients.{Clients}
use Rattle.door_bounds.specs.declared.door.Door.{Door}
use Rattle.door_bounds.specs.declared.step.Step.{Step}
use Rattle.door_bounds.specs.declared.step.Step.TheVariants as steps
use Rattle.law_doors.specs.Bounds.{Bounds_pass, BoundsOff, BoundsTell}
use Rattle.law_doors.specs.Calls.{Call, IsCalled, Settles, Tells, notes}
use Rattle.law_doors.proofs.Calls.{Passed, all_passed, all_same}
use Rattle.law_doors.proofs.Noting.{Noted, noted_as, noted_none, noted_one, noted_then}

module _ {H : Type 0} (handles : H → Event → List Output → H → Type 0) (hears : H → PeerEvent → Given → H → Type 0) (settles : H → H → Type 0) where
  -- the same with a handler that notes all, from some notes on
  abbrev Notes : H → H → List Call → (List Call → Type 0) → Type 0
  Notes h h' xs Is = Noted handles hears settles h h' xs Is

  -- ---- bytes

  telling_if : (silent : Bool) (at q : ℕ) (bs : List ℕ) (mend : Mend) (h h' : H) (k k' : Clients) (o o' : List Output) (xs : List Call)
      → IsTellingIf handles silent at q bs mend h h' k k' o o' → Notes h h' xs (λ ys. IsTellingIf notes silent at q bs mend xs ys k k' o o')
  telling_if true at q bs mend h h' k k' o o' xs (same, kept, out) = noted_none handles hears settles h h' xs (λ ys. (ys ≡ xs) × (k' ≡ k) × (o' ≡ o)) same (refl, kept, out)
  telling_if false at q bs mend h h' k k' o o' xs s =
      let e : Event = record { at = at; kind = Piece q s.bytes } in
      noted_one handles hears settles e s.given h h' xs (λ ys. IsTellingIf notes false at q bs mend xs ys k k' o o') s.told.handled
      (record { bytes = s.bytes; same = s.same; given = s.given; told = record { handled = refl; clients = s.told.clients }; sent = s.sent })

  step_noted : (at q : ℕ) (step : Step) (h h' : H) (k k' : Clients) (o o' : List Output) (xs : List Call)
      → IsStep handles at q step h h' k k' o o' → Notes h h' xs (λ ys. IsStep notes at q step xs ys k k' o o')
  step_noted at q (steps.Tells bs mend) h h' k k' o o' xs s = telling_if (is_silent q bs k) at q bs mend h h' k k' o o' xs s
  step_noted at q (steps.Asks p mend) h h' k k' o o' xs (bs, spelled, s) =
      let t = telling_if (is_silent q bs k) at q bs mend h h' k k' o o' xs s in
      noted_as handles hears settles h h' xs (λ ys. IsTelling notes at q bs mend xs ys k k' o o') (λ ys. IsStep notes at q (steps.Asks p mend) xs ys k k' o o') (λ ys is. (bs, spelled, is)) t
  step_noted at q (steps.Answers p) h h' k k' o o' xs (bs, spelled, out, same, kept) =
      noted_none handles hears settles h h' xs (λ ys. IsStep notes at q (steps.Answers p) xs ys k k' o o') same (bs, spelled, out, refl, kept)

  steps_noted : (at q : ℕ) (ss : List Step) (h h' : H) (k k' : Clients) (o o' : List Output) (xs : List Call)
      → AreSteps handles at q ss h h' k k' o o' → Notes h h' xs (λ ys. AreSteps notes at q ss xs ys k k' o o')
  steps_noted at q [] h h' k k' o o' xs (same, kept, out) = noted_none handles hears settles h h' xs (λ ys. (ys ≡ xs) × (k' ≡ k) × (o' ≡ o)) same (refl, kept, out)
  steps_noted at q (s ∷ ss) h h' k k' o o' xs (m, l, p, one, more) =
      let first = step_noted at q s h m k l o p xs one in
      let rest = steps_noted at q ss m h' l k' p o' first.end more in
      noted_then handles hears settles h m h' xs (λ ys. IsStep notes at q s xs ys k l o p) (λ zs. AreSteps notes at q ss first.end zs l k' p o') (λ ys. AreSteps notes at q (s ∷ ss) xs ys k k' o o')
      first (λ zs is. (first.end, l, p, first.is, is)) rest

  -- ---- an event

  plain_noted : (e : Event) (h h' : H) (k k' : Door) (outputs : List Output) (xs : List Call)
      → IsPlainOn handles e h h' k k' outputs → Notes h h' xs (λ ys. IsPlainOn notes e xs ys k k' outputs)
  plain_noted e h h' k k' outputs xs (p, stays) =
      noted_one handles hears settles e outputs h h' xs (λ ys. IsPlainOn notes e xs ys k k' outputs) p.told.handled
      (record { met = p.met; meets = p.meets; told = record { handled = refl; clients = p.told.clients } }, stays)

  came_noted : (client : Option Client) (b : Bounds) (full : Bool) (at q : ℕ) (bs : List ℕ) (h h' : H) (k k' : Clients) (outputs : List Output) (xs : List Call)
      → IsCameFrom handles client b full at q bs h h' k k' outputs → Notes h h' xs (λ ys. IsCameFrom notes client b full at q bs xs ys k k' outputs)
  came_noted None b full at q bs h h' k k' outputs xs (none, same, but) =
      noted_none handles hears settles h h' xs (λ ys. IsCameFrom notes None b full at q bs xs ys k k' outputs) same (none, refl, but)
  came_noted (Some client) b full at q bs h h' k k' outputs xs c =
      let s = steps_noted at q (come b full client bs).steps h h' c.known k' [] outputs xs c.did in
      noted_as handles hears settles h h' xs (λ ys. AreSteps notes at q (come b full client bs).steps xs ys c.known k' [] outputs)
      (λ ys. IsCameFrom notes (Some client) b full at q bs xs ys k k' outputs) (λ ys is. record { known = c.known; kept = c.kept; did = is }) s

  let_in_noted : (kind : EventKind) (e : Event) (h h' : H) (k k' : Door) (outputs : List Output) (xs : List Call)
      → IsLetIn handles kind e h h' k k' outputs → Notes h h' xs (λ ys. IsLetIn notes kind e xs ys k k' outputs)
  let_in_noted Started e h h' k k' outputs xs a = plain_noted e h h' k k' outputs xs a
  let_in_noted (Opened c) e h h' k k' outputs xs a = plain_noted e h h' k k' outputs xs a
  let_in_noted (Room c bytes) e h h' k k' outputs xs a = plain_noted e h h' k k' outputs xs a
  let_in_noted (Closed c) e h h' k k' outputs xs a = plain_noted e h h' k k' outputs xs a
  let_in_noted Tick e h h' k k' outputs xs a = plain_noted e h h' k k' outputs xs a
  let_in_noted (Piece q bytes) e h h' k k' outputs xs (came, stays) =
      let c = came_noted (client_of k.clients q) k.limits.packets k.full e.at q bytes.items h h' k.clients k'.clients outputs xs came in
      noted_as handles hears settles h h' xs (λ ys. IsCameOn notes k.limits.packets k.full e.at q bytes.items xs ys k.clients k'.clients outputs)
      (λ ys. IsLetIn notes (Piece q bytes) e xs ys k k' outputs) (λ ys is. (is, stays)) c

  answered_on : (let_in : Bool) (e : Event) (h h' : H) (k k' : Door) (outputs : List Output) (xs : List Call)
      → IsAnsweredOn handles let_in e h h' k k' outputs → Notes h h' xs (λ ys. IsAnsweredOn notes let_in e xs ys k k' outputs)
  answered_on true e h h' k k' outputs xs a = let_in_noted e.kind e h h' k k' outputs xs a
  answered_on false e h h' k k' outputs xs (out, same, kept) =
      noted_none handles hears settles h h' xs (λ ys. IsAnsweredOn notes false e xs ys k k' outputs) same (out, refl, kept)

  answered_if : (k k' : Option Door) (e : Event) (h h' : H) (outputs : List Output) (xs : List Call)
      → IsAnsweredIf handles k k' e h h' outputs → Notes h h' xs (λ ys. IsAnsweredIf notes k k' e xs ys outputs)
  answered_if None k' e h h' outputs xs a = noted_one handles hears settles e outputs h h' xs (λ ys. IsAnsweredIf notes None k' e xs ys outputs) a.0 (refl, a.1)
  answered_if (Some k) None e h h' outputs xs a = absurd a
  answered_if (Some k) (Some k') e h h' outputs xs (m, weighed, a) =
      let s = answered_on (is_let_in m e.kind) e h h' m k' outputs xs a in
      noted_as handles hears settles h h' xs (λ ys. IsAnsweredOn notes (is_let_in m e.kind) e xs ys m k' outputs) (λ ys. IsAnsweredIf notes (Some k) (Some k') e xs ys outputs)
      (λ ys is. (m, weighed, is)) s

  -- ---- one call

  module _ {G : Type 0} where
    abbrev One : Call → Bounded H G → Bounded H G → Type 0
    One call d d' = Passed handles hears settles (IsAnswered handles) (IsHeard hears) (IsSettled settles) (λ (x : Bounded H G). inside_of x) (λ (x : Bounded H G). door_of x) Bounds_pass (λ x. Unit {0}) call d d'

    one : (call : Call) (d d' : Bounded H G) → Unit {0} → IsCalled (IsAnswered handles) (IsHeard hears) (IsSettled settles) call d d' → One call d d'
    one (Tells (Of_client e outputs)) d d' free a =
        let n = answered_if (door_of d) (door_of d') e (inside_of d) (inside_of d') outputs [] a in
        let Is : List Call → Type 0 = λ ys. IsAnsweredIf notes (door_of d) (door_of d') e [] ys outputs in
        record { inside = n.calls; called = n.called; passed = subst Is n.ends n.is; keeps = tt }
    one (Tells (Of_peer e given)) d d' free a =
        record { inside = Tells (Of_peer e given) ∷ []; called = (inside_of d', a.0, refl); passed = (refl, a.1); keeps = tt }
    one Settles d d' free a = record { inside = Settles ∷ []; called = (inside_of d', a.0, refl); passed = (refl, a.1); keeps = tt }

    pub bounds_tell : BoundsTell {H = H} {G = G} handles hears settles (IsAnswered handles) (IsHeard hears) (IsSettled settles)
    bounds_tell calls d d' all =
        all_passed handles hears settles (IsAnswered handles) (IsHeard hears) (IsSettled settles) (λ (x : Bounded H G). inside_of x) (λ (x : Bounded H G). door_of x)
        Bounds_pass (λ x. Unit {0}) one calls d d' tt all

-- ---- where it is off

free_one : (call : Call) (first : List Call) (k : Option Door) → Bounds_pass None call first k → (first ≡ call ∷ []) × (k ≡ None)
free_one (Tells (Of_client e outputs)) first k is = is
free_one (Tells (Of_peer e given)) first k is = is
free_one Settles first k is = is

pub bounds_off : BoundsOff
bounds_off k calls inside all = all_same Bounds_pass None free_one calls inside k all
