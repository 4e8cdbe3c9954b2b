-- What holds of no acts and of acts one after the other, and so of work that is put together of parts.
use Rattle.std.proofs.Common.{◌≡◌, ℕ, Bool, true, false, cond, List, [], ◌∷◌, ◌++◌, Option, Some, None, inl, inr, sym, subst}
use Rattle.std.specs.List.{AllByRecursion}
use Rattle.mqtt_sessions.specs.Reaction.{Reaction}
use Rattle.law_sessions.specs.Runs.{Event}
use Rattle.session_table.specs.Seats.{Seat}
use Rattle.node_work.specs.Acts.{Act, Session, Runs}
use Rattle.node_work.specs.Calling.{Calls, CallsAt}
use Rattle.node_work.specs.Held.Sessions.{SessionStep, Called, seat_at}
use Rattle.node_work.specs.View.{Place, HeldView}
use Rattle.node_work.specs.Working.{Doing, Returns, Stops, Acting, Numbered, Looks, FindsWhere, If, Where, Then}
use Rattle.law_runs.proofs.Keeping.{Property, Keeps, calling_by, none_some}

pub record Closed (T : Property) : Type 0 where
  pub none : (p : Place) (h : HeldView) → T p h []
  pub both : (p : Place) (h mid : HeldView) (xs ys : List Act) → Runs p h xs mid → T p h xs → T p mid ys → T p h (xs ++ ys)

module _ (T : Property) (c : Closed T) where
  pub j_returns : {A : Type 0} (y : A) → Keeps T (Returns y)
  j_returns y = record { of = λ x p h acts d. subst (T p h) (sym d.1) (c.none p h) }

  pub j_stops : {A : Type 0} → Keeps T {A = A} Stops
  j_stops = record { of = λ x p h acts d. none_some (sym d.0) }

  pub j_acting : (a : Place → HeldView → Act) → ((p : Place) (h : HeldView) → T p h (a p h ∷ [])) → Keeps T (Acting a)
  j_acting a one = record { of = λ x p h acts d. subst (T p h) (sym d.1) (one p h) }

  not_at_end : (b : Bool) (x : Unit {0}) (X Y : Type 0) → cond b ((Some x ≡ None) × Y) X → X
  not_at_end true x X Y d = none_some (sym d.0)
  not_at_end false x X Y d = d

  pub j_numbered : (at_end : Place → HeldView → Bool) (a : Place → HeldView → Act) → ((p : Place) (h : HeldView) → T p h (a p h ∷ [])) → Keeps T (Numbered at_end a)
  j_numbered at_end a one = record { of = λ x p h acts d. (j_acting a one).of x p h acts (not_at_end (at_end p h) x (Acting a (Some x) p h acts) (acts ≡ []) d) }

  pub j_looks : {A B : Type 0} (see : Place → HeldView → A) (P : A → Option B → Doing) → ((y : A) → Keeps T (P y)) → Keeps T (Looks see P)
  j_looks see P f = record { of = λ x p h acts d. (f (see p h)).of x p h acts d }

  pub j_finds : {A B : Type 0} (Is : Place → HeldView → A → Type 0) (P : A → Option B → Doing) → ((y : A) → Keeps T (P y)) → Keeps T (FindsWhere Is P)
  j_finds Is P f = record { of = λ x p h acts d. (f d.0).of x p h acts d.2 }

  pub j_if : {A : Type 0} (b : Bool) (P Q : Option A → Doing) → Keeps T P → Keeps T Q → Keeps T (If b P Q)
  j_if true P Q f g = record { of = λ x p h acts d. f.of x p h acts d }
  j_if false P Q f g = record { of = λ x p h acts d. g.of x p h acts d }

  pub j_where : {A : Type 0} (X : Type 0) (P Q : Option A → Doing) → Keeps T P → Keeps T Q → Keeps T (Where X P Q)
  j_where X P Q f g = record { of = λ x p h acts d. elim d [ inl e ↦ f.of x p h acts e.1 | inr e ↦ g.of x p h acts e.1 ] }

  then_of : {A B : Type 0} (P : Option A → Doing) (Q : A → Option B → Doing) → Keeps T P → ((y : A) → Keeps T (Q y)) → (x : B) (p : Place) (h : HeldView) (acts : List Act) → Then P Q (Some x) p h acts → T p h acts
  then_of P Q f g x p h acts (inl d) = none_some (sym d.0)
  then_of P Q f g x p h acts (inr (y, own, mid, rest, one, runs, more, is)) = subst (T p h) (sym is) (c.both p h mid own rest runs (f.of y p h own one) ((g y).of x p mid rest more))

  pub j_then : {A B : Type 0} (P : Option A → Doing) (Q : A → Option B → Doing) → Keeps T P → ((y : A) → Keeps T (Q y)) → Keeps T (Then P Q)
  j_then P Q f g = record { of = then_of P Q f g }

  -- a call of a session, by what holds of one with this event
  calls_at : (client : List ℕ) (event : ℕ → Event) (on : Option ℕ → Option ℕ) → ((p : Place) (h : HeldView) (s : SessionStep) → s.event ≡ event h.at → T p h (Session (Called s) ∷ []))
      → (found : Option Seat) (r : Reaction) (p : Place) (h : HeldView) (acts : List Act) → CallsAt client event on found (Some r) p h acts → T p h acts
  calls_at client event on one None r p h acts d = subst (T p h) (sym d.1) (c.none p h)
  calls_at client event on one (Some seat) r p h acts d = let k = calling_by client event on seat r p h acts d in subst (T p h) (sym k.acts_are) (one p h k.step k.event_is)

  pub j_calls : (client : List ℕ) (event : ℕ → Event) (on : Option ℕ → Option ℕ) → ((p : Place) (h : HeldView) (s : SessionStep) → s.event ≡ event h.at → T p h (Session (Called s) ∷ [])) → Keeps T (Calls client event on)
  j_calls client event on one = record { of = λ r p h acts d. calls_at client event on one (seat_at client h) r p h acts d }

-- ---- of each act alone
module _ (Q : Act → Type 0) where
  abbrev pub All : Property
  All p h acts = AllByRecursion Q acts

  pub all_both : (xs ys : List Act) → AllByRecursion Q xs → AllByRecursion Q ys → AllByRecursion Q (xs ++ ys)
  all_both [] ys a b = b
  all_both (x ∷ xs) ys a b = (a.0, all_both xs ys a.1 b)

  pub all_closed : Closed All
  all_closed = record { none = λ p h. tt; both = λ p h mid xs ys runs a b. all_both xs ys a b }
