-- What a node that has started does at an event, after what is due.
use Rattle.std.proofs.Common.{◌≡◌, ◌≢◌, ◌⊎◌, inl, inr, ℕ, ◌^◌, nat_lt, not, Bool, true, false, List, [], ◌∷◌, ◌++◌, Option, Some, None, refl, sym, ap, ◌∙◌, subst, append_assoc}
use Rattle.std.proofs.lemmas.List.{append-nil}
use Rattle.node_work.specs.Acts.{Act, MomentTaken, Runs, next}
use Rattle.node_work.specs.Doings.{TakesMoment}
use Rattle.node_work.specs.View.{Place, HeldView}
use Rattle.node_work.specs.Working.{Doing, If, Then}
use Rattle.node_work.proofs.Working.{runs_join}
use Rattle.broker_node.specs.declared.event.Event.{Event}
use Rattle.broker_node.specs.declared.event.EventKind.{EventKind}
use Rattle.broker_node.specs.declared.event.EventKind.TheVariants as kinds
use Rattle.broker_node.specs.Due as due
use Rattle.broker_node.specs.Turns as turns
use Rattle.law_runs.proofs.Keeping.{none_some}
use Rattle.law_runs.proofs.Passing.{numbered}
use Rattle.law_runs.proofs.Splits.{left_by}
use Rattle.law_steps.specs.Due.{DueFirst}

pub if_so : {A : Type 0} (b : Bool) (P Q : Option A → Doing) (out : Option A) (p : Place) (h : HeldView) (acts : List Act) → b ≡ true → If b P Q out p h acts → P out p h acts
if_so true P Q out p h acts e d = d
if_so false P Q out p h acts e d = absurd (let z : false ≡ true = e in cc)

pub if_not : {A : Type 0} (b : Bool) (P Q : Option A → Doing) (out : Option A) (p : Place) (h : HeldView) (acts : List Act) → b ≡ false → If b P Q out p h acts → Q out p h acts
if_not true P Q out p h acts e d = absurd (let z : true ≡ false = e in cc)
if_not false P Q out p h acts e d = d

if_is : {A : Type 0} (b : Bool) (P Q : Option A → Doing) (out : Option A) (p : Place) (h : HeldView) (acts : List Act) → b ≡ true → P out p h acts → If b P Q out p h acts
if_is true P Q out p h acts e d = d
if_is false P Q out p h acts e d = absurd (let z : false ≡ true = e in cc)

-- another event than Started
abbrev pub IsAfterStart : EventKind → Type 0
IsAfterStart kinds.Started = ⊥
IsAfterStart kind = Unit {0}

goes_on : (kind : EventKind) (out : Option (Unit {0})) (p : Place) (h : HeldView) (acts : List Act) → IsAfterStart kind → turns.AnswersAfterDue kind out p h acts → Then due.DoesDue (λ _. turns.AnswersEvent kind) out p h acts
goes_on kinds.Started out p h acts is d = absurd is
goes_on (kinds.Opened c) out p h acts is d = d
goes_on (kinds.Piece c bytes) out p h acts is d = d
goes_on (kinds.Room c bytes) out p h acts is d = d
goes_on (kinds.Closed c) out p h acts is d = d
goes_on (kinds.Frame bytes) out p h acts is d = d
goes_on (kinds.Linked peer) out p h acts is d = d
goes_on (kinds.Ship peer) out p h acts is d = d
goes_on (kinds.More peer after) out p h acts is d = d
goes_on kinds.Tick out p h acts is d = d
goes_on (kinds.Evict client) out p h acts is d = d
goes_on (kinds.Table homes) out p h acts is d = d

-- what is due is done at the moment that was taken, and then the event is answered
pub record Turned (e : Event) (p : Place) (h : HeldView) (acts : List Act) : Type 0 where
  pub first : DueFirst p h e.at acts
  pub own : List Act
  pub due_is : first.due ≡ MomentTaken e.at ∷ own
  pub answer : Unit {0}
  pub does : due.DoesDue (Some answer) p (next h (MomentTaken e.at)) own
  pub ran : Runs p (next h (MomentTaken e.at)) own first.held
  pub answers : turns.AnswersEvent e.kind (Some tt) p first.held first.rest

module _ (e : Event) (p : Place) (h : HeldView) (after : IsAfterStart e.kind) (started : h.started ≡ true) where
  abbrev tick : Event
  tick = record { at = e.at; kind = kinds.Tick }

  ticked : (x : Unit {0}) (first : List Act) (mid : HeldView) (y : Unit {0}) (own : List Act) (last : HeldView) → TakesMoment e.at (Some x) p h first → Runs p h first mid → mid.started ≡ true → due.DoesDue (Some y) p mid own → Runs p mid own last
      → turns.Decides tick (Some tt) p h (first ++ own)
  ticked x first mid y own last moment runs so does ran =
      inr (x, first, mid, own, moment, runs, if_is mid.started (turns.AnswersAfterDue kinds.Tick) (turns.AwaitsStart kinds.Tick) (Some tt) p mid own so (inr (y, own, last, [], does, ran, (refl, refl), sym (append-nil own))), refl)

  turned_by : (x : Unit {0}) (first : List Act) (mid : HeldView) (acts : List Act) → TakesMoment e.at (Some x) p h first → Runs p h first mid → first ≡ MomentTaken e.at ∷ [] → mid ≡ next h (MomentTaken e.at) → Then due.DoesDue (λ _. turns.AnswersEvent e.kind) (Some tt) p mid acts
      → Turned e p h (first ++ acts)
  turned_by x first mid acts moment runs alone left (inl d) = none_some (sym d.0)
  turned_by x first mid acts moment runs alone left (inr (y, own, last, rest, one, ran, answers, is)) = record {
    first = record {
      due = first ++ own;
      rest = rest;
      is = ap (λ zs. first ++ zs) is ∙ sym (append_assoc first own rest);
      ticks = ticked x first mid y own last moment runs (ap (λ (v : HeldView). v.started) left ∙ started) one ran;
      held = last;
      runs = runs_join p first own h mid last runs ran;
    };
    own = own;
    due_is = ap (λ zs. zs ++ own) alone;
    answer = y;
    does = subst (λ v. due.DoesDue (Some y) p v own) left one;
    ran = subst (λ v. Runs p v own last) left ran;
    answers = answers;
  }

  pub turned : (acts : List Act) → turns.Decides e (Some tt) p h acts → Turned e p h acts
  turned acts (inl d) = none_some (sym d.0)
  turned acts (inr (x, own, mid, rest, one, runs, turn, is)) =
      let a = MomentTaken e.at in
      let alone : own ≡ a ∷ [] = numbered (not (nat_lt e.at (2 ^ 62))) x a own one in
      let left : mid ≡ next h a = left_by p h mid a own alone runs in
      let so : mid.started ≡ true = ap (λ (v : HeldView). v.started) left ∙ started in
      let goes = goes_on e.kind (Some tt) p mid rest after (if_so mid.started (turns.AnswersAfterDue e.kind) (turns.AwaitsStart e.kind) (Some tt) p mid rest so turn) in
      subst (Turned e p h) (sym is) (turned_by x own mid rest one runs alone left goes)

-- ---- by the event, and by whether the node has started
pub after_start : (kind : EventKind) → kind ≢ kinds.Started → IsAfterStart kind
after_start kinds.Started ne = absurd (ne refl)
after_start (kinds.Opened c) ne = tt
after_start (kinds.Piece c bytes) ne = tt
after_start (kinds.Room c bytes) ne = tt
after_start (kinds.Closed c) ne = tt
after_start (kinds.Frame bytes) ne = tt
after_start (kinds.Linked peer) ne = tt
after_start (kinds.Ship peer) ne = tt
after_start (kinds.More peer after) ne = tt
after_start kinds.Tick ne = tt
after_start (kinds.Evict client) ne = tt
after_start (kinds.Table homes) ne = tt

pub awaits : (kind : EventKind) (x : Unit {0}) (p : Place) (h : HeldView) (acts : List Act) → kind ≢ kinds.Started → turns.AwaitsStart kind (Some x) p h acts → acts ≡ []
awaits kinds.Started x p h acts ne d = absurd (ne refl)
awaits (kinds.Opened c) x p h acts ne d = d.1
awaits (kinds.Piece c bytes) x p h acts ne d = d.1
awaits (kinds.Room c bytes) x p h acts ne d = d.1
awaits (kinds.Closed c) x p h acts ne d = d.1
awaits (kinds.Frame bytes) x p h acts ne d = d.1
awaits (kinds.Linked peer) x p h acts ne d = d.1
awaits (kinds.Ship peer) x p h acts ne d = d.1
awaits (kinds.More peer after) x p h acts ne d = d.1
awaits kinds.Tick x p h acts ne d = d.1
awaits (kinds.Evict client) x p h acts ne d = d.1
awaits (kinds.Table homes) x p h acts ne d = d.1

-- the moment, and then the turn
pub record Momentary (e : Event) (p : Place) (h : HeldView) (acts : List Act) : Type 0 where
  pub rest : List Act
  pub is : acts ≡ MomentTaken e.at ∷ rest
  pub turn : turns.Turn e.kind (Some tt) p (next h (MomentTaken e.at)) rest

pub momentary : (e : Event) (p : Place) (h : HeldView) (acts : List Act) → turns.Decides e (Some tt) p h acts → Momentary e p h acts
momentary e p h acts (inl d) = none_some (sym d.0)
momentary e p h acts (inr (x, own, mid, rest, one, runs, turn, is)) =
    let a = MomentTaken e.at in
    let alone : own ≡ a ∷ [] = numbered (not (nat_lt e.at (2 ^ 62))) x a own one in
    let left : mid ≡ next h a = left_by p h mid a own alone runs in
    record { rest = rest; is = is ∙ ap (λ zs. zs ++ rest) alone; turn = subst (λ v. turns.Turn e.kind (Some tt) p v rest) left turn }

-- the node begins its work
pub record BegunOf (e : Event) (p : Place) (h : HeldView) (acts : List Act) : Type 0 where
  pub kind : e.kind ≡ kinds.Started
  pub waits : h.started ≡ false
  pub rest : List Act
  pub is : acts ≡ MomentTaken e.at ∷ rest
  pub goes : due.Starts (Some tt) p (next h (MomentTaken e.at)) rest

-- it goes on, begins, or takes the moment alone
abbrev pub CameOf : Event → Place → HeldView → List Act → Type 0
CameOf e p h acts = Turned e p h acts ⊎ BegunOf e p h acts ⊎ (acts ≡ MomentTaken e.at ∷ [])

module _ (e : Event) (p : Place) (h : HeldView) (acts : List Act) (d : turns.Decides e (Some tt) p h acts) where
  abbrev now : HeldView
  now = next h (MomentTaken e.at)

  moment : Momentary e p h acts
  moment = momentary e p h acts d

  another : (started : Bool) → h.started ≡ started → e.kind ≢ kinds.Started → CameOf e p h acts
  another true s other = inl (turned e p h (after_start e.kind other) s acts d)
  another false s other =
      let none : moment.rest ≡ [] = awaits e.kind tt p now moment.rest other (if_not h.started (turns.AnswersAfterDue e.kind) (turns.AwaitsStart e.kind) (Some tt) p now moment.rest s moment.turn) in
      inr (inr (moment.is ∙ ap (λ zs. MomentTaken e.at ∷ zs) none))

  start : (started : Bool) → h.started ≡ started → e.kind ≡ kinds.Started → CameOf e p h acts
  start true s kind =
      let goes = if_so h.started (turns.AnswersAfterDue e.kind) (turns.AwaitsStart e.kind) (Some tt) p now moment.rest s moment.turn in
      inr (inr (moment.is ∙ ap (λ zs. MomentTaken e.at ∷ zs) (subst (λ (k : EventKind). turns.AnswersAfterDue k (Some tt) p now moment.rest) kind goes).1))
  start false s kind =
      let goes = if_not h.started (turns.AnswersAfterDue e.kind) (turns.AwaitsStart e.kind) (Some tt) p now moment.rest s moment.turn in
      inr (inl (record { kind = kind; waits = s; rest = moment.rest; is = moment.is; goes = subst (λ (k : EventKind). turns.AwaitsStart k (Some tt) p now moment.rest) kind goes }))

  came_by : (kind : EventKind) → e.kind ≡ kind → CameOf e p h acts
  came_by kinds.Started is = start h.started refl is
  came_by (kinds.Opened c) is = another h.started refl (λ q. (let z : kinds.Opened c ≡ kinds.Started = sym is ∙ q in cc))
  came_by (kinds.Piece c bytes) is = another h.started refl (λ q. (let z : kinds.Piece c bytes ≡ kinds.Started = sym is ∙ q in cc))
  came_by (kinds.Room c bytes) is = another h.started refl (λ q. (let z : kinds.Room c bytes ≡ kinds.Started = sym is ∙ q in cc))
  came_by (kinds.Closed c) is = another h.started refl (λ q. (let z : kinds.Closed c ≡ kinds.Started = sym is ∙ q in cc))
  came_by (kinds.Frame bytes) is = another h.started refl (λ q. (let z : kinds.Frame bytes ≡ kinds.Started = sym is ∙ q in cc))
  came_by (kinds.Linked peer) is = another h.started refl (λ q. (let z : kinds.Linked peer ≡ kinds.Started = sym is ∙ q in cc))
  came_by (kinds.Ship peer) is = another h.started refl (λ q. (let z : kinds.Ship peer ≡ kinds.Started = sym is ∙ q in cc))
  came_by (kinds.More peer after) is = another h.started refl (λ q. (let z : kinds.More peer after ≡ kinds.Started = sym is ∙ q in cc))
  came_by kinds.Tick is = another h.started refl (λ q. (let z : kinds.Tick ≡ kinds.Started = sym is ∙ q in cc))
  came_by (kinds.Evict client) is = another h.started refl (λ q. (let z : kinds.Evict client ≡ kinds.Started = sym is ∙ q in cc))
  came_by (kinds.Table homes) is = another h.started refl (λ q. (let z : kinds.Table homes ≡ kinds.Started = sym is ∙ q in cc))

  pub came : CameOf e p h acts
  came = came_by e.kind refl
