-- What holds of no acts, of acts one after the other, and so of work that is put together of parts.
use Rattle.std.proofs.Common.{◌≡◌, ℕ, Bool, true, false, cond, List, [], ◌∷◌, ◌++◌, Option, Some, None, inl, inr, refl, sym, subst}
use Rattle.law_sessions.specs.Runs.{Event, connects, rooms, queues, takes, answers, closes, ticks, finishes, loses}
use Rattle.session_table.specs.Seats.{Seat}
use Rattle.mqtt_sessions.specs.Reaction.{Reaction}
use Rattle.node_work.specs.declared.outcome.Output.{Output}
use Rattle.node_work.specs.declared.outcome.Output.TheVariants.{Send, Close, Frame as Release}
use Rattle.node_work.specs.Acts.{Act, MomentTaken, Began, Moved, Store, Connection, Session, Bridge, Out, Named, Acknowledged, Passed, Dropped, Runs}
use Rattle.node_work.specs.Calling.{Calls, CallsAt}
use Rattle.node_work.specs.Held.Bridge.{BridgeAct, Put, Took, Got, Believed, Greeted, Gave, Left_out}
use Rattle.node_work.specs.Held.Sessions.{SessionAct, SessionStep, Begun, Called, Over, seat_at}
use Rattle.node_work.specs.View.{Place, HeldView}
use Rattle.node_work.specs.Working.{Doing, Returns, Stops, Acting, Numbered, Looks, FindsWhere, If, Where, Then, InTurn, Each}
use Rattle.law_runs.specs.StepSending.{IsOwnPacket}

-- a property of acts, by the node's place and what it holds before them
abbrev pub Property : Type 1
Property = Place → HeldView → List Act → Type 0

-- an event of a session that neither takes a packet nor gives the codes of an answer
abbrev pub IsOther : Event → Type 0
IsOther (connects c continued room now) = Unit {0}
IsOther (rooms bytes now) = Unit {0}
IsOther (queues d now) = Unit {0}
IsOther (takes k now room) = ⊥
IsOther (answers id codes) = ⊥
IsOther (closes now) = Unit {0}
IsOther (ticks now) = Unit {0}
IsOther (finishes now) = Unit {0}
IsOther loses = Unit {0}

abbrev pub IsOtherCall : SessionAct → Type 0
IsOtherCall (Begun client) = Unit {0}
IsOtherCall (Called s) = IsOther s.event
IsOtherCall (Over client) = Unit {0}

-- a packet that is given out of a node's own is CONNACK or DISCONNECT
abbrev pub IsPlainOutput : Output → Type 0
IsPlainOutput (Send connection bytes) = IsOwnPacket bytes
IsPlainOutput (Close connection) = Unit {0}
IsPlainOutput (Release frame) = Unit {0}

-- an act for other nodes that takes no message
abbrev pub IsPlainBridge : BridgeAct → Type 0
IsPlainBridge (Put peer m) = Unit {0}
IsPlainBridge (Took peer number m copies lost) = ⊥
IsPlainBridge (Got peer number) = Unit {0}
IsPlainBridge (Believed peer dots) = Unit {0}
IsPlainBridge (Greeted peer g) = Unit {0}
IsPlainBridge (Gave f) = Unit {0}
IsPlainBridge (Left_out what) = Unit {0}

-- an act that is neither such a call nor takes a message of a lane
abbrev pub IsPlain : Act → Type 0
IsPlain (MomentTaken at) = Unit {0}
IsPlain Began = Unit {0}
IsPlain (Moved homes) = Unit {0}
IsPlain (Store a) = Unit {0}
IsPlain (Connection a) = Unit {0}
IsPlain (Session a) = IsOtherCall a
IsPlain (Bridge a) = IsPlainBridge a
IsPlain (Out o) = IsPlainOutput o
IsPlain (Named number) = Unit {0}
IsPlain (Acknowledged client packet at grants offers) = Unit {0}
IsPlain (Passed m copies lost routes) = Unit {0}
IsPlain Dropped = Unit {0}

-- it holds of no acts, of a plain act alone, and of acts one after the other
pub record Joins (T : Property) : Type 0 where
  pub none : (p : Place) (h : HeldView) → T p h []
  pub one : (p : Place) (h : HeldView) (a : Act) → IsPlain a → T p h (a ∷ [])
  pub both : (p : Place) (h mid : HeldView) (xs ys : List Act) → Runs p h xs mid → T p h xs → T p mid ys → T p h (xs ++ ys)

-- the acts of work that is done
pub record Keeps (T : Property) {A : Type 0} (P : Option A → Doing) : Type 0 where
  pub of : (x : A) (p : Place) (h : HeldView) (acts : List Act) → P (Some x) p h acts → T p h acts

pub none_some : {A : Type 0} {X : Type 0} {x : A} → None ≡ Some x → X
none_some e = cc

-- ---- a call of a session that is there
pub record Calling (client : List ℕ) (event : ℕ → Event) (h : HeldView) (r : Reaction) (acts : List Act) : Type 0 where
  pub step : SessionStep
  pub acts_are : acts ≡ Session (Called step) ∷ []
  pub client_is : step.client ≡ client
  pub at_is : step.at ≡ h.at
  pub event_is : step.event ≡ event h.at
  pub reaction_is : step.reaction ≡ r

pub calling_by : (client : List ℕ) (event : ℕ → Event) (on : Option ℕ → Option ℕ) (seat : Seat) (r : Reaction) (p : Place) (h : HeldView) (acts : List Act) → CallsAt client event on (Some seat) (Some r) p h acts → Calling client event h r acts
calling_by client event on seat r p h acts (inl d) = none_some (sym d.0)
calling_by client event on seat r p h acts (inr d) = record {
  step = record { client = client; on = on seat.connection; at = h.at; event = event h.at; reaction = d.0; after = d.1 };
  acts_are = d.4;
  client_is = refl;
  at_is = refl;
  event_is = refl;
  reaction_is = let same : r ≡ d.0 = (let z = d.2 in cc) in sym same;
}

module _ (T : Property) (c : Joins T) where
  pub k_returns : {A : Type 0} (y : A) → Keeps T (Returns y)
  k_returns y = record { of = λ x p h acts d. subst (T p h) (sym d.1) (c.none p h) }

  pub k_stops : {A : Type 0} → Keeps T {A = A} Stops
  k_stops = record { of = λ x p h acts d. absurd (let z = d.0 in cc) }

  pub k_acting : (a : Place → HeldView → Act) → ((p : Place) (h : HeldView) → IsPlain (a p h)) → Keeps T (Acting a)
  k_acting a plain = record { of = λ x p h acts d. subst (T p h) (sym d.1) (c.one p h (a p h) (plain p h)) }

  not_at_end : (b : Bool) (x : Unit {0}) (X Y : Type 0) → cond b ((Some x ≡ None) × Y) X → X
  not_at_end true x X Y d = absurd (let z = d.0 in cc)
  not_at_end false x X Y d = d

  pub k_numbered : (at_end : Place → HeldView → Bool) (a : Place → HeldView → Act) → ((p : Place) (h : HeldView) → IsPlain (a p h)) → Keeps T (Numbered at_end a)
  k_numbered at_end a plain = record { of = λ x p h acts d. (k_acting a plain).of x p h acts (not_at_end (at_end p h) x (Acting a (Some x) p h acts) (acts ≡ []) d) }

  pub k_looks : {A B : Type 0} (see : Place → HeldView → A) (P : A → Option B → Doing) → ((y : A) → Keeps T (P y)) → Keeps T (Looks see P)
  k_looks see P f = record { of = λ x p h acts d. (f (see p h)).of x p h acts d }

  pub k_finds : {A B : Type 0} (Is : Place → HeldView → A → Type 0) (P : A → Option B → Doing) → ((y : A) → Keeps T (P y)) → Keeps T (FindsWhere Is P)
  k_finds Is P f = record { of = λ x p h acts d. (f d.0).of x p h acts d.2 }

  pub k_if : {A : Type 0} (b : Bool) (P Q : Option A → Doing) → Keeps T P → Keeps T Q → Keeps T (If b P Q)
  k_if true P Q f g = record { of = λ x p h acts d. f.of x p h acts d }
  k_if false P Q f g = record { of = λ x p h acts d. g.of x p h acts d }

  pub k_where : {A : Type 0} (X : Type 0) (P Q : Option A → Doing) → Keeps T P → Keeps T Q → Keeps T (Where X P Q)
  k_where X P Q f g = record { of = λ x p h acts d. elim d [ inl e ↦ f.of x p h acts e.1 | inr e ↦ g.of x p h acts e.1 ] }

  then_of : {A B : Type 0} (P : Option A → Doing) (Q : A → Option B → Doing) → Keeps T P → ((y : A) → Keeps T (Q y)) → (x : B) (p : Place) (h : HeldView) (acts : List Act) → Then P Q (Some x) p h acts → T p h acts
  then_of P Q f g x p h acts (inl d) = absurd (let z = d.0 in cc)
  then_of P Q f g x p h acts (inr (y, own, mid, rest, one, runs, more, is)) = subst (T p h) (sym is) (c.both p h mid own rest runs (f.of y p h own one) ((g y).of x p mid rest more))

  pub k_then : {A B : Type 0} (P : Option A → Doing) (Q : A → Option B → Doing) → Keeps T P → ((y : A) → Keeps T (Q y)) → Keeps T (Then P Q)
  k_then P Q f g = record { of = then_of P Q f g }

  pub k_inturn : {A B : Type 0} (One : A → Option B → Doing) (xs : List A) (given : List B) → ((x : A) → Keeps T (One x)) → Keeps T (InTurn One xs given)
  k_inturn One [] given f = k_returns given
  k_inturn One (x ∷ xs) given f = k_then (One x) (λ y. InTurn One xs (given ++ y ∷ [])) (f x) (λ y. k_inturn One xs (given ++ y ∷ []) f)

  pub k_each : {A : Type 0} (One : A → Option (Unit {0}) → Doing) (xs : List A) → ((x : A) → Keeps T (One x)) → Keeps T (Each One xs)
  k_each One [] f = k_returns tt
  k_each One (x ∷ xs) f = k_then (One x) (λ _. Each One xs) (f x) (λ _. k_each One xs f)

  -- a call of a session
  calls_at : (client : List ℕ) (event : ℕ → Event) (on : Option ℕ → Option ℕ) → ((at : ℕ) → IsOther (event at)) → (found : Option Seat) (r : Reaction) (p : Place) (h : HeldView) (acts : List Act) → CallsAt client event on found (Some r) p h acts → T p h acts
  calls_at client event on other None r p h acts d = subst (T p h) (sym d.1) (c.none p h)
  calls_at client event on other (Some seat) r p h acts (inl d) = absurd (let z = d.0 in cc)
  calls_at client event on other (Some seat) r p h acts (inr d) = subst (T p h) (sym d.4) (c.one p h _ (other h.at))

  pub k_calls : (client : List ℕ) (event : ℕ → Event) (on : Option ℕ → Option ℕ) → ((at : ℕ) → IsOther (event at)) → Keeps T (Calls client event on)
  k_calls client event on other = record { of = λ r p h acts d. calls_at client event on other (seat_at client h) r p h acts d }
