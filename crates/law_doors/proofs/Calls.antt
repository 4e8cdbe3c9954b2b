-- Calls of a handler, call by call as those of the one inside.
use Rattle.std.proofs.Common.{◌≡◌, List, [], ◌∷◌, ◌++◌, refl, ap, subst, ◌∙◌}
use Rattle.broker_sockets.specs.declared.bridge.Given.{Given}
use Rattle.broker_sockets.specs.declared.bridge.PeerEvent.{PeerEvent}
use Rattle.broker_sockets.specs.declared.events.Event.{Event}
use Rattle.broker_sockets.specs.declared.events.Output.{Output}
use Rattle.law_doors.specs.Calls.{AreCalled, ArePassed, Call, IsCalled}

module _ {H : Type 0} (handles : H → Event → List Output → H → Type 0) (hears : H → PeerEvent → Given → H → Type 0) (settles : H → H → Type 0) where
  pub called_join : (xs ys : List Call) (h m h' : H) → AreCalled handles hears settles xs h m → AreCalled handles hears settles ys m h' → AreCalled handles hears settles (xs ++ ys) h h'
  called_join [] ys h m h' same more = subst (λ (x : H). AreCalled handles hears settles ys x h') same more
  called_join (call ∷ xs) ys h m h' all more = (all.0, all.1, called_join xs ys all.0 m h' all.2 more)

  -- a handler D before this one, which keeps something, and of which a state is seen
  module _ {D K : Type 0} (handles' : D → Event → List Output → D → Type 0) (hears' : D → PeerEvent → Given → D → Type 0) (settles' : D → D → Type 0)
      (within : D → H) (state : D → K) (passes : K → Call → List Call → K → Type 0) (Keeps : D → Type 0) where
    -- one call of it
    pub record Passed (call : Call) (d d' : D) : Type 0 where
      pub inside : List Call
      pub called : AreCalled handles hears settles inside (within d) (within d')
      pub passed : passes (state d) call inside (state d')
      pub keeps : Keeps d'

    module _ (one : (call : Call) (d d' : D) → Keeps d → IsCalled handles' hears' settles' call d d' → Passed call d d') where
      pub all_passed : (calls : List Call) (d d' : D) → Keeps d → AreCalled handles' hears' settles' calls d d'
          → (inside : List Call) × AreCalled handles hears settles inside (within d) (within d') × ArePassed passes (state d) calls inside (state d')
      all_passed [] d d' keeps same = ([], ap within same, (refl, ap state same))
      all_passed (call ∷ calls) d d' keeps all =
          let m = all.0 in
          let first = one call d m keeps all.1 in
          let rest = all_passed calls m d' first.keeps all.2 in (
            first.inside ++ rest.0,
            called_join first.inside rest.0 (within d) (within m) (within d') first.called rest.1,
            (state m, first.inside, rest.0, first.passed, rest.2, refl),
          )

-- where each call is passed as it is, all are
module _ {K : Type 0} (passes : K → Call → List Call → K → Type 0) (k : K) (one : (call : Call) (first : List Call) (k' : K) → passes k call first k' → (first ≡ call ∷ []) × (k' ≡ k)) where
  pub all_same : (calls inside : List Call) (k' : K) → ArePassed passes k calls inside k' → inside ≡ calls
  all_same [] inside k' all = all.0
  all_same (call ∷ calls) inside k' all =
      let same = one call all.1 all.0 all.3 in
      let From : K → Type 0 = λ m. ArePassed passes m calls all.2 k' in
      all.5 ∙ ap (λ (first : List Call). first ++ all.2) same.0 ∙ ap (λ (rest : List Call). call ∷ rest) (all_same calls all.2 k' (subst From same.1 all.4))

  -- and what it keeps is the same
  pub state_same : (calls inside : List Call) (k' : K) → ArePassed passes k calls inside k' → k' ≡ k
  state_same [] inside k' all = all.1
  state_same (call ∷ calls) inside k' all =
      let same = one call all.1 all.0 all.3 in
      let From : K → Type 0 = λ m. ArePassed passes m calls all.2 k' in
      state_same calls all.2 k' (subst From same.1 all.4)
