-- What the handler inside is told behind one that lets in users alone.
use Rattle.std.proofs.Common.{◌≡◌, List, [], ◌∷◌, ◌++◌, Option, Some, None, refl, ap, subst}
use Rattle.broker_sockets.specs.declared.bridge.Given.{Given}
use Rattle.broker_sockets.specs.declared.bridge.PeerEvent.{PeerEvent}
use Rattle.broker_sockets.specs.declared.events.Event.{Event}
use Rattle.broker_sockets.specs.declared.events.Output.{Output}
use Rattle.broker_turns.specs.Handling.Told.{Of_client, Of_peer}
use Rattle.door_guard.specs.Answering.{IsAnswered, IsAnsweredIf, IsHeard, IsHeardIf, IsSettled, refusals_of}
use Rattle.door_guard.specs.Telling.{AreTold, Told}
use Rattle.door_guard.specs.Views.{inside_of}
use Rattle.door_guard.specs.declared.door.Door.{Door}
use Rattle.door_guard.specs.declared.guarded.Guarded.{Guarded}
use Rattle.door_packets.specs.Rights.{Rights}
use Rattle.law_doors.specs.Calls.{Call, IsCalled, Settles, Tells, notes, notes_peer}
use Rattle.law_doors.specs.Guards.{Guards_pass, GuardsOff, GuardsTell, door_of}
use Rattle.law_doors.proofs.Calls.{Passed, all_passed, all_same, state_same}
use Rattle.law_doors.proofs.Noting.{Noted, noted_as, noted_none, noted_one, noted_then}

module _ {A H : Type 0} (rights : A → Rights) (handles : H → Event → List Output → H → Type 0) (hears : H → PeerEvent → Given → H → Type 0) (settles : H → H → Type 0) where
  abbrev Notes : H → H → List Call → (List Call → Type 0) → Type 0
  Notes h h' xs Is = Noted handles hears settles h h' xs Is

  told_noted : (told : List Told) (h h' : H) (xs : List Call) → AreTold handles told h h' → Notes h h' xs (λ ys. AreTold notes told xs ys)
  told_noted [] h h' xs same = noted_none handles hears settles h h' xs (λ ys. ys ≡ xs) same refl
  told_noted (t ∷ more) h h' xs all =
      let first = noted_one handles hears settles t.0 t.1 h all.0 xs (λ ys. notes xs t.0 t.1 ys) all.1 refl in
      let rest = told_noted more all.0 h' first.end all.2 in
      noted_then handles hears settles h all.0 h' xs (λ ys. notes xs t.0 t.1 ys) (λ zs. AreTold notes more first.end zs) (λ ys. AreTold notes (t ∷ more) xs ys)
      first (λ zs is. (first.end, first.is, is)) rest

  answered_if : (k k' : Option (Door A)) (e : Event) (h h' : H) (outputs : List Output) (xs : List Call)
      → IsAnsweredIf handles rights k k' e h h' outputs → Notes h h' xs (λ ys. IsAnsweredIf notes rights k k' e xs ys outputs)
  answered_if None k' e h h' outputs xs a = noted_one handles hears settles e outputs h h' xs (λ ys. IsAnsweredIf notes rights None k' e xs ys outputs) a.0 (refl, a.1)
  answered_if (Some k) None e h h' outputs xs a = absurd a
  answered_if (Some k) (Some k') e h h' outputs xs a =
      let p = a.0.part in
      noted_as handles hears settles h h' xs (λ ys. AreTold notes p.calls xs ys) (λ ys. IsAnsweredIf notes rights (Some k) (Some k') e xs ys outputs)
      (λ ys is. (record { part = record { calls = p.calls; refused = p.refused; told = is; moments = p.moments; counts = p.counts; paths = p.paths } }, a.1)) (told_noted p.calls h h' xs p.told)

  heard_one : (e : PeerEvent) (given : Given) (h h' : H) (xs : List Call) → hears h e given h' → Notes h h' xs (λ ys. notes_peer xs e given ys)
  heard_one e given h h' xs is = record { calls = Tells (Of_peer e given) ∷ []; called = (h', is, refl); end = xs ++ Tells (Of_peer e given) ∷ []; ends = refl; is = refl }

  heard_if : (k k' : Option (Door A)) (e : PeerEvent) (h h' : H) (given : Given) (xs : List Call)
      → IsHeardIf hears rights k k' e h h' given → Notes h h' xs (λ ys. IsHeardIf notes_peer rights k k' e xs ys given)
  heard_if None k' e h h' given xs a =
      noted_as handles hears settles h h' xs (λ ys. notes_peer xs e given ys) (λ ys. IsHeardIf notes_peer rights None k' e xs ys given) (λ ys is. (is, a.1)) (heard_one e given h h' xs a.0)
  heard_if (Some k) None e h h' given xs a = absurd a
  heard_if (Some k) (Some k') e h h' given xs a =
      let p = a.0 in
      noted_as handles hears settles h h' xs (λ ys. notes_peer xs e p.first ys) (λ ys. IsHeardIf notes_peer rights (Some k) (Some k') e xs ys given)
      (λ ys is. (record { first = p.first; heard = is; frames = p.frames; gives = p.gives }, a.1)) (heard_one e p.first h h' xs p.heard)

  -- ---- one call

  abbrev One : Call → Guarded H A → Guarded H A → Type 0
  One call d d' = Passed handles hears settles (IsAnswered handles rights) (IsHeard hears rights) (IsSettled settles) (λ (x : Guarded H A). inside_of x) (λ (x : Guarded H A). door_of x) (Guards_pass rights) (λ x. Unit {0}) call d d'

  one : (call : Call) (d d' : Guarded H A) → Unit {0} → IsCalled (IsAnswered handles rights) (IsHeard hears rights) (IsSettled settles) call d d' → One call d d'
  one (Tells (Of_client e outputs)) d d' free a =
      let n = answered_if (door_of d) (door_of d') e (inside_of d) (inside_of d') outputs [] a in
      let Is : List Call → Type 0 = λ ys. IsAnsweredIf notes rights (door_of d) (door_of d') e [] ys outputs in
      record { inside = n.calls; called = n.called; passed = subst Is n.ends n.is; keeps = tt }
  one (Tells (Of_peer e given)) d d' free a =
      let n = heard_if (door_of d) (door_of d') e (inside_of d) (inside_of d') given [] a in
      let Is : List Call → Type 0 = λ ys. IsHeardIf notes_peer rights (door_of d) (door_of d') e [] ys given in
      record { inside = n.calls; called = n.called; passed = subst Is n.ends n.is; keeps = tt }
  one Settles d d' free a = record { inside = Settles ∷ []; called = (inside_of d', a.0, refl); passed = (refl, a.1); keeps = tt }

  pub guards_tell : GuardsTell rights handles hears settles (IsAnswered handles rights) (IsHeard hears rights) (IsSettled settles)
  guards_tell calls d d' all =
      all_passed handles hears settles (IsAnswered handles rights) (IsHeard hears rights) (IsSettled settles) (λ (x : Guarded H A). inside_of x) (λ (x : Guarded H A). door_of x)
      (Guards_pass rights) (λ x. Unit {0}) one calls d d' tt all

-- ---- without users

module _ {A : Type 0} (rights : A → Rights) where
  free_one : (call : Call) (first : List Call) (k : Option (Door A)) → Guards_pass rights None call first k → (first ≡ call ∷ []) × (k ≡ None)
  free_one (Tells (Of_client e outputs)) first k is = is
  free_one (Tells (Of_peer e given)) first k is = is
  free_one Settles first k is = is

  pub guards_off : GuardsOff rights
  guards_off k calls inside all = (
    all_same (Guards_pass rights) None free_one calls inside k all,
    ap (λ (x : Option (Door A)). refusals_of x) (state_same (Guards_pass rights) None free_one calls inside k all),
  )
