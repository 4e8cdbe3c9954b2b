-- What the handler inside is told behind limits on clients.
use Rattle.std.proofs.Common.{◌≡◌, ℕ, List, [], ◌∷◌, map, Bool, true, false, refl, sym, ap, subst, ◌∙◌}
use Rattle.broker_sockets.specs.declared.bridge.Given.{Given}
use Rattle.broker_sockets.specs.declared.bridge.PeerEvent.{PeerEvent}
use Rattle.broker_sockets.specs.declared.events.Event.{Event}
use Rattle.broker_sockets.specs.declared.events.Output.{Output}
use Rattle.broker_turns.specs.Handling.Told.{Of_client, Of_peer}
use Rattle.door_limits.specs.Answering.{AreCut, AreCutIf, Cut, IsAnswered, IsAnsweredBy, IsAnsweredIf, IsHeard, IsSettled, after_if, is_tick, is_told}
use Rattle.door_limits.specs.Connected.{Connected, IsLate, NoneIsLate}
use Rattle.door_limits.specs.Limits.{are_none}
use Rattle.door_limits.specs.Views.{connections_of, inside_of, limits_of}
use Rattle.door_limits.specs.declared.limited.Limited.{Limited}
use Rattle.door_limits.specs.declared.limits.Limits.{Limits}
use Rattle.law_doors.specs.Calls.{AreCalled, Call, IsCalled, Settles, Tells}
use Rattle.law_doors.specs.Limits.{AreLate, AreLateIf, IsLetInIf, IsLimited, Limits_pass, LimitsOff, LimitsTell, told_gone}
use Rattle.law_doors.proofs.Calls.{Passed, all_passed, all_same}

module _ {H : Type 0} (handles : H → Event → List Output → H → Type 0) (hears : H → PeerEvent → Given → H → Type 0) (settles : H → H → Type 0) where
  abbrev Called : List Call → H → H → Type 0
  Called calls h h' = AreCalled handles hears settles calls h h'

  -- from limits that are the same
  abbrev Same : Limits → Limited H → Type 0
  Same limits d = limits_of d ≡ limits

  -- one connection after another is late
  record Cuts (limits : Limits) (at : ℕ) (cuts : List Cut) (d d' : Limited H) : Type 0 where
    called : Called (map (told_gone at) cuts) (inside_of d) (inside_of d')
    late : AreLate limits at cuts (connections_of d) (connections_of d')
    keeps : Same limits d'

  cuts_called : (limits : Limits) (at : ℕ) (cuts : List Cut) (d d' : Limited H) → Same limits d → AreCut handles at cuts d d' → Cuts limits at cuts d d'
  cuts_called limits at [] d d' same all =
      record { called = ap (λ (x : Limited H). inside_of x) all; late = ap (λ (x : Limited H). connections_of x) all; keeps = ap (λ (x : Limited H). limits_of x) all ∙ same }
  cuts_called limits at (cut ∷ more) d d' same all =
      let m = all.0 in
      let one = all.1 in
      let rest = cuts_called limits at more m d' (one.told.limits ∙ same) all.2 in
      let Late : Connected → Type 0 = λ known. AreLate limits at more known (connections_of d') in
      record {
        called = (inside_of m, one.told.answered, rest.called);
        late = (subst (λ (l : Limits). IsLate l.within at (connections_of d) cut.0) same one.late, subst Late one.told.connections rest.late);
        keeps = rest.keeps;
      }

  record CutsIf (limits : Limits) (ticks : Bool) (at : ℕ) (cuts : List Cut) (d d' : Limited H) : Type 0 where
    called : Called (map (told_gone at) cuts) (inside_of d) (inside_of d')
    late : AreLateIf ticks limits at cuts (connections_of d) (connections_of d')
    keeps : Same limits d'

  swept : (limits : Limits) (ticks : Bool) (at : ℕ) (cuts : List Cut) (d d' : Limited H) → Same limits d → AreCutIf handles ticks at cuts d d' → CutsIf limits ticks at cuts d d'
  swept limits true at cuts d d' same all =
      let c = cuts_called limits at cuts d d' same all.each in
      record { called = c.called; late = (c.late, subst (λ (l : Limits). NoneIsLate l.within at (connections_of d')) c.keeps all.none); keeps = c.keeps }
  swept limits false at cuts d d' same all =
      let None : List Cut → Type 0 = λ xs. Called (map (told_gone at) xs) (inside_of d) (inside_of d') in
      record {
        called = subst None (sym all.0) (ap (λ (x : Limited H). inside_of x) all.1);
        late = (all.0, ap (λ (x : Limited H). connections_of x) all.1);
        keeps = ap (λ (x : Limited H). limits_of x) all.1 ∙ same;
      }

  -- one call
  abbrev One : Limits → Call → Limited H → Limited H → Type 0
  One limits call d d' = Passed handles hears settles (IsAnswered handles) (IsHeard hears) (IsSettled settles) (λ (x : Limited H). inside_of x) (λ (x : Limited H). connections_of x) (Limits_pass limits) (Same limits) call d d'

  -- an event of clients
  record OneOf (Is : List Call → Connected → Type 0) (limits : Limits) (d d' : Limited H) : Type 0 where
    inside : List Call
    called : Called inside (inside_of d) (inside_of d')
    is : Is inside (connections_of d')
    keeps : Same limits d'

  let_in : (limits : Limits) (told : Bool) (e : Event) (outputs : List Output) (d d' : Limited H) → Same limits d → IsAnsweredBy handles told e outputs d d'
      → OneOf (IsLetInIf told limits (connections_of d) e outputs) limits d d'
  let_in limits true e outputs d d' same a =
      let s = swept limits (is_tick e.kind) e.at a.cuts a.between d' (a.told.limits ∙ same) a.swept in
      let Late : Connected → Type 0 = λ known. AreLateIf (is_tick e.kind) limits e.at a.cuts known (connections_of d') in
      record {
        inside = Tells (Of_client e a.given) ∷ map (told_gone e.at) a.cuts;
        called = (inside_of a.between, a.told.answered, s.called);
        is = record { given = a.given; cuts = a.cuts; told = refl; late = subst Late a.told.connections s.late; all = a.all };
        keeps = s.keeps;
      }
  let_in limits false e outputs d d' same a = record {
    inside = [];
    called = ap (λ (x : Limited H). inside_of x) a.1;
    is = (refl, a.0, ap (λ (x : Limited H). connections_of x) a.1);
    keeps = ap (λ (x : Limited H). limits_of x) a.1 ∙ same;
  }

  answered : (limits : Limits) (free : Bool) (e : Event) (outputs : List Output) (d d' : Limited H) → Same limits d → IsAnsweredIf handles free e outputs d d'
      → OneOf (IsLimited free limits (connections_of d) e outputs) limits d d'
  answered limits true e outputs d d' same a = record {
    inside = Tells (Of_client e outputs) ∷ [];
    called = (inside_of d', a.answered, refl);
    is = (refl, a.connections);
    keeps = a.limits ∙ same;
  }
  answered limits false e outputs d d' same a =
      let By : Limits → Type 0 = λ l. IsAnsweredBy handles (is_told l (connections_of d) e.kind) e outputs d d' in
      let_in limits (is_told limits (connections_of d) e.kind) e outputs d d' same (subst By same a)

  one : (limits : Limits) (call : Call) (d d' : Limited H) → Same limits d → IsCalled (IsAnswered handles) (IsHeard hears) (IsSettled settles) call d d' → One limits call d d'
  one limits (Tells (Of_client e outputs)) d d' same a =
      let If : Limits → Type 0 = λ l. IsAnsweredIf handles (are_none l) e outputs d d' in
      let x = answered limits (are_none limits) e outputs d d' same (subst If same a) in
      record { inside = x.inside; called = x.called; passed = x.is; keeps = x.keeps }
  one limits (Tells (Of_peer e given)) d d' same a =
      let After : Limits → Type 0 = λ l. Limits_pass l (connections_of d) (Tells (Of_peer e given)) (Tells (Of_peer e given) ∷ []) (connections_of d') in
      record { inside = Tells (Of_peer e given) ∷ []; called = (inside_of d', a.heard, refl); passed = subst After same (refl, a.connections); keeps = a.limits ∙ same }
  one limits Settles d d' same a =
      record { inside = Settles ∷ []; called = (inside_of d', a.settled, refl); passed = (refl, a.connections); keeps = a.limits ∙ same }

  pub limits_tell : LimitsTell handles hears settles (IsAnswered handles) (IsHeard hears) (IsSettled settles)
  limits_tell calls d d' all =
      all_passed handles hears settles (IsAnswered handles) (IsHeard hears) (IsSettled settles) (λ (x : Limited H). inside_of x) (λ (x : Limited H). connections_of x)
      (Limits_pass (limits_of d)) (Same (limits_of d)) (one (limits_of d)) calls d d' refl all

-- ---- without limits

free_one : (limits : Limits) (known : Connected) → are_none limits ≡ true → (call : Call) (first : List Call) (known' : Connected) → Limits_pass limits known call first known' → (first ≡ call ∷ []) × (known' ≡ known)
free_one limits known free (Tells (Of_client e outputs)) first known' is =
    let If : Bool → Type 0 = λ b. IsLimited b limits known e outputs first known' in
    subst If free is
free_one limits known free (Tells (Of_peer e given)) first known' is = (is.0, is.1 ∙ ap (λ (b : Bool). after_if b given.outputs.items known) free)
free_one limits known free Settles first known' is = is

pub limits_off : LimitsOff
limits_off limits known known' calls inside free all = all_same (Limits_pass limits) known (free_one limits known free) calls inside known' all
