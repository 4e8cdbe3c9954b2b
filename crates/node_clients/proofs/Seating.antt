-- Copies for clients that have no session here go nowhere.
use Rattle.std.proofs.Common.{◌≡◌, ℕ, Bool, true, false, cond, List, [], ◌∷◌, ◌++◌, Option, Some, None, Result, inl, inr, is_some, refl, sym, ap, subst, ◌∙◌}
use Rattle.std.specs.Ordering.{eq_by_cmp}
use Rattle.std.proofs.lemmas.List.{append-nil}
use Rattle.std.proofs.lemmas.List.Elements.{filter-append}
use Rattle.std.specs.FinMap as map
use Rattle.law_maps.proofs.Texts.{text_cmp, same_text, get_inserted, get_apart}
use Rattle.bridge_routes.specs.declared.plain.PlainCopy.{PlainCopy as Copy}
use Rattle.mqtt_sessions.specs.Reaction.{Reaction, nothing}
use Rattle.law_sessions.specs.Runs.{Event, queues}
use Rattle.session_table.specs.Calls.{stays}
use Rattle.session_table.specs.Seats.{Seat, Seats}
use Rattle.node_work.specs.Acts.{Act, Runs, next}
use Rattle.node_work.specs.Calling.{Calls, CallsAt, Queues, QueuesOne}
use Rattle.node_work.specs.Held.Sessions.{has_session, seat_at}
use Rattle.node_work.specs.Passing.{seated}
use Rattle.node_work.specs.View.{Place, HeldView, WorkView}
use Rattle.node_work.specs.Working.{Returns, Acting, Numbered, Did, ComesTo}
use Rattle.node_work.specs.declared.fault.NodeFault.{NodeFault}
use Rattle.node_work.proofs.Working.{comes_as}

-- ---- the same clients have a session
abbrev SameSeats : HeldView → HeldView → Type 0
SameSeats h h' = (q : List ℕ) → has_session q h' ≡ has_session q h

seated_same : (h h' : HeldView) (copies : List Copy) → SameSeats h h' → seated h' copies ≡ seated h copies
seated_same h h' [] same = refl
seated_same h h' (x ∷ xs) same = (λ i. cond (same x.client i) (x ∷ seated h' xs) (seated h' xs)) ∙ ap (λ ys. cond (has_session x.client h) (x ∷ ys) ys) (seated_same h h' xs same)

seats_written : (m : Seats) (client : List ℕ) (was new : Seat) (q : List ℕ) (b : Bool) → eq_by_cmp text_cmp q client ≡ b → map.get m client ≡ Some was → is_some (map.get (map.insert m client new) q) ≡ is_some (map.get m q)
seats_written m client was new q true e found =
    let at : q ≡ client = same_text q client e in
    ap (λ k. is_some (map.get (map.insert m client new) k)) at ∙ ap is_some (get_inserted m client new) ∙ ap is_some (sym found) ∙ ap (λ k. is_some (map.get m k)) (sym at)
seats_written m client was new q false e found = ap is_some (get_apart m client new q e)

module _ (client : List ℕ) (event : ℕ → Event) (p : Place) (h mid : HeldView) (r : Reaction) (acts : List Act) where
  called_keeps : (found : Option Seat) → seat_at client h ≡ found → CallsAt client event stays found (Some r) p h acts → Runs p h acts mid → SameSeats h mid
  called_keeps None at d runs q = ap (has_session q) (subst (λ xs. Runs p h xs mid) d.1 runs)
  called_keeps (Some seat) at (inl d) runs q = absurd (let z : Some r ≡ None = d.0 in cc)
  called_keeps (Some seat) at (inr d) runs q =
      let ran = subst (λ xs. Runs p h xs mid) d.4 runs in
      ap (has_session q) (ran.2 ∙ ran.1.1) ∙ seats_written h.sessions client seat (record { session = d.1; connection = seat.connection }) q (eq_by_cmp text_cmp q client) refl at

-- a copy that joined its session
joined_keeps : (x : Copy) (u : Unit {0}) (p : Place) (h mid : HeldView) (acts : List Act) → QueuesOne x (Some u) p h acts → Runs p h acts mid → SameSeats h mid
joined_keeps x u p h mid acts (inl d) runs = absurd (let z : Some u ≡ None = d.0 in cc)
joined_keeps x u p h mid acts (inr d) runs =
    let own = d.1 in
    called_keeps x.client (queues x.delivery) p h mid d.0 own (seat_at x.client h) refl d.4 (subst (λ xs. Runs p h xs mid) (d.7 ∙ (λ i. own ++ d.6.1 i) ∙ append-nil own) runs)

-- ---- a copy without a session
no_seat : (o : Option Seat) → is_some o ≡ false → o ≡ None
no_seat None e = refl
no_seat (Some x) e = absurd (let z : true ≡ false = e in cc)

module _ (x : Copy) (p : Place) (h : HeldView) (none : has_session x.client h ≡ false) where
  called_none : (out : Option Reaction) (acts : List Act) → Calls x.client (queues x.delivery) stays out p h acts → (out ≡ Some nothing) × (acts ≡ [])
  called_none out acts d = subst (λ o. CallsAt x.client (queues x.delivery) stays o out p h acts) (no_seat (seat_at x.client h) none) d

  unjoined_stops : (acts : List Act) → ¬ QueuesOne x None p h acts
  unjoined_stops acts (inl d) = let z : None ≡ Some nothing = (called_none None acts d.1).0 in cc
  unjoined_stops acts (inr d) = let z : None ≡ Some tt = d.6.0 in cc

  unjoined : (u : Unit {0}) (acts : List Act) → QueuesOne x (Some u) p h acts → acts ≡ []
  unjoined u acts (inl d) = absurd (let z : Some u ≡ None = d.0 in cc)
  unjoined u acts (inr d) = d.7 ∙ (λ i. (called_none (Some d.0) d.1 d.4).1 i ++ d.6.1 i)

-- ---- all of them
abbrev Leads : List Copy → Type 0
Leads xs = (out : Option (Unit {0})) (p : Place) (h : HeldView) (acts : List Act) → Queues xs out p h acts → Queues (seated h xs) out p h acts

by_seat : (x : Copy) (xs : List Copy) → Leads xs → (b : Bool) (out : Option (Unit {0})) (p : Place) (h : HeldView) (acts : List Act) → has_session x.client h ≡ b → Queues (x ∷ xs) out p h acts → Queues (cond b (x ∷ seated h xs) (seated h xs)) out p h acts
by_seat x xs leads true out p h acts e (inl d) = inl d
by_seat x xs leads true out p h acts e (inr d) =
    inr (d.0, d.1, d.2, d.3, d.4, d.5, subst (λ ys. Queues ys out p d.2 d.3) (seated_same h d.2 xs (joined_keeps x d.0 p h d.2 d.1 d.4 d.5)) (leads out p d.2 d.3 d.6), d.7)
by_seat x xs leads false out p h acts e (inl d) = absurd (unjoined_stops x p h e acts d.1)
by_seat x xs leads false out p h acts e (inr d) =
    let none = unjoined x p h e d.0 d.1 d.4 in
    let held : d.2 ≡ h = subst (λ ys. Runs p h ys d.2) none d.5 in
    let rest : d.3 ≡ acts = sym (d.7 ∙ (λ i. none i ++ d.3)) in
    leads out p h acts (subst (λ v. Queues xs out p v acts) held (subst (λ ys. Queues xs out p d.2 ys) rest d.6))

queues_seated : (copies : List Copy) → Leads copies
queues_seated [] out p h acts d = d
queues_seated (x ∷ xs) out p h acts d = by_seat x xs (queues_seated xs) (has_session x.client h) out p h acts refl d

pub comes_seated : (copies : List Copy) (r : Result (Unit {0}) NodeFault) (w w' : WorkView) → ComesTo (λ x. x) r w w' (Queues copies) → ComesTo (λ x. x) r w w' (Queues (seated w.held copies))
comes_seated copies r w w' d = comes_as (λ x. x) r w w' (Queues copies) (Queues (seated w.held copies)) (λ out acts q. queues_seated copies out w.place w.held acts q) d

-- ---- those that have a session, of which some were asked before
again : (h : HeldView) (x : Copy) (ys : List Copy) (b : Bool) → has_session x.client h ≡ b → seated h (cond b (x ∷ ys) ys) ≡ cond b (x ∷ seated h ys) (seated h ys)
again h x ys true e = ap (λ t. cond t (x ∷ seated h ys) (seated h ys)) e
again h x ys false e = refl

seated_again : (h : HeldView) (copies : List Copy) → seated h (seated h copies) ≡ seated h copies
seated_again h [] = refl
seated_again h (x ∷ xs) = again h x (seated h xs) (has_session x.client h) refl ∙ ap (λ ys. cond (has_session x.client h) (x ∷ ys) ys) (seated_again h xs)

pub seated_joined : (h : HeldView) (plain more : List Copy) → seated h (plain ++ seated h more) ≡ seated h plain ++ seated h more
seated_joined h plain more = filter-append (λ (x : Copy). has_session x.client h) plain (seated h more) ∙ ap (λ ys. seated h plain ++ ys) (seated_again h more)

-- ---- an act that leaves the sessions as they were
pub after_act : (a : Place → HeldView → Act) (w n : WorkView) → Did w n (Acting a (Some tt)) → n.held ≡ next w.held (a w.place w.held)
after_act a w n d = let ran = subst (λ xs. Runs w.place w.held xs n.held) d.does.1 d.runs in ran.2 ∙ ran.1.1

left_by : (a : Place → HeldView → Act) (w n : WorkView) (u : Unit {0}) (acts : List Act) (b : Bool) → Runs w.place w.held acts n.held → cond b ((Some u ≡ None) × (acts ≡ [])) (Acting a (Some u) w.place w.held acts)
    → n.held ≡ next w.held (a w.place w.held)
left_by a w n u acts true runs x = absurd (let z : Some u ≡ None = x.0 in cc)
left_by a w n u acts false runs x = let ran = subst (λ xs. Runs w.place w.held xs n.held) x.1 runs in ran.2 ∙ ran.1.1

pub after_number : (at_end : Place → HeldView → Bool) (a : Place → HeldView → Act) (w n : WorkView) → Did w n (Numbered at_end a (Some tt)) → n.held ≡ next w.held (a w.place w.held)
after_number at_end a w n d = left_by a w n tt d.acts (at_end w.place w.held) d.runs d.does

pub seated_after : (h h' : HeldView) (copies : List Copy) → h'.sessions ≡ h.sessions → seated h' copies ≡ seated h copies
seated_after h h' copies e = seated_same h h' copies (λ q. ap (λ (m : Seats). is_some (map.get m q)) e)
