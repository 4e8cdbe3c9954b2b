-- What acts leave of clients that are connected, and of their sessions.
use Rattle.std.proofs.Common.{◌≡◌, ◌≢◌, inl, inr, ℕ, Bool, true, false, List, [], ◌∷◌, Option, Some, None, option_and_then, refl, sym, ap, ◌∙◌, subst}
use Rattle.std.specs.FinMap as map
use Rattle.std.specs.List.{AllByRecursion}
use Rattle.std.specs.Ordering.{eq_by_cmp}
use Rattle.law_maps.proofs.Texts.{same_text, get_inserted, get_apart, get_left}
use Rattle.mqtt_sessions.specs.declared.kept.Phase.TheVariants.{Connected}
use Rattle.law_sessions.specs.Runs.{Event, connects, queues, rooms, takes, answers, closes, ticks, finishes, loses}
use Rattle.session_table.specs.Listing.{text_cmp}
use Rattle.session_table.specs.Seats.{Seat, Seats}
use Rattle.node_work.specs.Acts.{Act, MomentTaken, Began, Moved, Store, Connection, Session, Bridge, Out, Named, Acknowledged, Passed, Dropped, Allowed, Runs, next}
use Rattle.node_work.specs.Held.Bridge.{BridgeAct, Put, Took, Got, Believed, Greeted, Gave, Left_out, bridged}
use Rattle.node_work.specs.Held.Connections.{ConnectionTable, Closed, client_at}
use Rattle.node_work.specs.Held.Sessions.{SessionStep, Begun, Called, Over, IsOn}
use Rattle.node_work.specs.View.{Place, HeldView, ConnectionView}
use Rattle.cluster_play.proofs.Bools.{nat_cases}
use Rattle.law_runs.proofs.Keeping.{none_some}
use Rattle.law_steps.proofs.On.{apart_text, gone_here, gone_apart}
use Rattle.law_steps.proofs.Gentle.{IsGentle, IsSteady}
use Rattle.law_steps.proofs.Phases.{steady_phase}

-- the session of a client is on a connection, and connected
pub record IsLive (h : HeldView) (client : List ℕ) (c : ℕ) : Type 0 where
  pub seat : Seat
  pub found : map.get h.sessions client ≡ Some seat
  pub on : seat.connection ≡ Some c
  pub phase : seat.session.kept.phase ≡ Connected

-- so is that of each client that is on an open connection
pub record AllServed (h : HeldView) : Type 0 where
  pub live : (c : ℕ) (client : List ℕ) → client_at c h ≡ Some client → IsLive h client c

-- a client is on no connection; or on this one at most
abbrev pub IsAway : List ℕ → HeldView → Type 0
IsAway client h = (c : ℕ) → client_at c h ≡ Some client → ⊥

abbrev pub IsOnlyAt : ℕ → List ℕ → HeldView → Type 0
IsOnlyAt c client h = (q : ℕ) → client_at q h ≡ Some client → q ≡ c

pub same_at : (h h' : HeldView) (q : ℕ) → h'.connections ≡ h.connections → client_at q h' ≡ client_at q h
same_at h h' q e = ap (λ (m : ConnectionTable). option_and_then (λ (v : ConnectionView). v.client) (map.get m q)) e

pub still_away : (client : List ℕ) (h h' : HeldView) → h'.connections ≡ h.connections → IsAway client h → IsAway client h'
still_away client h h' e away c at = away c (sym (same_at h h' c e) ∙ at)

pub still_only : (c : ℕ) (client : List ℕ) (h h' : HeldView) → h'.connections ≡ h.connections → IsOnlyAt c client h → IsOnlyAt c client h'
still_only c client h h' e only q at = only q (sym (same_at h h' q e) ∙ at)

-- ---- a session that is called stays where it was
steady_on : (e : Event) (before on : Option ℕ) → IsSteady e → IsOn e before on → on ≡ before
steady_on (connects c continued room now) before on steady is = absurd steady
steady_on (queues d now) before on steady is = is
steady_on (rooms bytes now) before on steady is = is
steady_on (takes p now room) before on steady is = is
steady_on (answers id codes) before on steady is = is
steady_on (closes now) before on steady is = absurd steady
steady_on (ticks now) before on steady is = is
steady_on (finishes now) before on steady is = is
steady_on loses before on steady is = absurd steady

called_live : (p : Place) (h : HeldView) (s : SessionStep) → IsSteady s.event → Allowed p h (Session (Called s)) → (client : List ℕ) (c : ℕ) → IsLive h client c → IsLive (next h (Session (Called s))) client c
called_live p h s steady allowed client c was = by (eq_by_cmp text_cmp client s.client) refl
  where
    own : Seat
    own = record { session = s.after; connection = s.on }

    by : (b : Bool) → eq_by_cmp text_cmp client s.client ≡ b → IsLive (next h (Session (Called s))) client c
    by true e =
        let same : client ≡ s.client = same_text client s.client e in
        let seat : allowed.seat ≡ was.seat = (let z : Some allowed.seat ≡ Some was.seat = sym allowed.found ∙ ap (map.get h.sessions) (sym same) ∙ was.found in cc) in
        record {
          seat = own;
          found = ap (map.get (map.insert h.sessions s.client own)) same ∙ get_inserted h.sessions s.client own;
          on = steady_on s.event allowed.seat.connection s.on steady allowed.on ∙ ap (λ (v : Seat). v.connection) seat ∙ was.on;
          phase = steady_phase allowed.seat.session s.after s.event s.reaction steady allowed.reacts ∙ ap (λ (v : Seat). v.session.kept.phase) seat ∙ was.phase;
        }
    by false e = record { seat = was.seat; found = get_apart h.sessions s.client own client e ∙ was.found; on = was.on; phase = was.phase }

-- ---- gentle acts
pub record Gently (h h' : HeldView) : Type 0 where
  pub connections : h'.connections ≡ h.connections
  pub live : (client : List ℕ) (c : ℕ) → IsLive h client c → IsLive h' client c

pub live_in : (h h' : HeldView) → h'.sessions ≡ h.sessions → (client : List ℕ) (c : ℕ) → IsLive h client c → IsLive h' client c
live_in h h' e client c was = record { seat = was.seat; found = ap (λ (m : Seats). map.get m client) e ∙ was.found; on = was.on; phase = was.phase }

bridge_gentle : (h : HeldView) (a : BridgeAct) → Gently h (bridged h a)
bridge_gentle h (Put peer m) = record { connections = refl; live = live_in h (bridged h (Put peer m)) refl }
bridge_gentle h (Took peer number m copies lost) = record { connections = refl; live = live_in h (bridged h (Took peer number m copies lost)) refl }
bridge_gentle h (Got peer number) = record { connections = refl; live = live_in h (bridged h (Got peer number)) refl }
bridge_gentle h (Believed peer dots) = record { connections = refl; live = live_in h (bridged h (Believed peer dots)) refl }
bridge_gentle h (Greeted peer g) = record { connections = refl; live = live_in h (bridged h (Greeted peer g)) refl }
bridge_gentle h (Gave f) = record { connections = refl; live = live_in h (bridged h (Gave f)) refl }
bridge_gentle h (Left_out what) = record { connections = refl; live = live_in h (bridged h (Left_out what)) refl }

one_gentle : (p : Place) (h : HeldView) (a : Act) → IsGentle a → Allowed p h a → Gently h (next h a)
one_gentle p h (Session (Begun client)) gentle allowed = absurd gentle
one_gentle p h (Session (Called s)) gentle allowed = record { connections = refl; live = called_live p h s gentle allowed }
one_gentle p h (Session (Over client)) gentle allowed = absurd gentle
one_gentle p h (Connection a) gentle allowed = absurd gentle
one_gentle p h Began gentle allowed = absurd gentle
one_gentle p h (Bridge a) gentle allowed = bridge_gentle h a
one_gentle p h (MomentTaken at) gentle allowed = record { connections = refl; live = live_in h (next h (MomentTaken at)) refl }
one_gentle p h (Moved homes) gentle allowed = record { connections = refl; live = live_in h (next h (Moved homes)) refl }
one_gentle p h (Store a) gentle allowed = record { connections = refl; live = live_in h (next h (Store a)) refl }
one_gentle p h (Out o) gentle allowed = record { connections = refl; live = live_in h (next h (Out o)) refl }
one_gentle p h (Named number) gentle allowed = record { connections = refl; live = live_in h (next h (Named number)) refl }
one_gentle p h (Acknowledged client packet at given os) gentle allowed = record { connections = refl; live = live_in h (next h (Acknowledged client packet at given os)) refl }
one_gentle p h (Passed m copies lost routes) gentle allowed = record { connections = refl; live = live_in h (next h (Passed m copies lost routes)) refl }
one_gentle p h Dropped gentle allowed = record { connections = refl; live = live_in h (next h Dropped) refl }

pub gently : (p : Place) (acts : List Act) (h h' : HeldView) → AllByRecursion IsGentle acts → Runs p h acts h' → Gently h h'
gently p [] h h' gentle r = record { connections = ap (λ (v : HeldView). v.connections) r; live = live_in h h' (ap (λ (v : HeldView). v.sessions) r) }
gently p (a ∷ acts) h h' gentle r =
    let first : Gently h r.0 = subst (Gently h) (sym r.1.1) (one_gentle p h a gentle.0 r.1.0) in
    let rest = gently p acts r.0 h' gentle.1 r.2 in
    record { connections = rest.connections ∙ first.connections; live = λ client c was. rest.live client c (first.live client c was) }

-- ---- what is left
pub record LeavesServed (h h' : HeldView) : Type 0 where
  pub served : AllServed h'
  pub same : h'.connections ≡ h.connections

pub served_gently : (h h' : HeldView) → Gently h h' → AllServed h → LeavesServed h h'
served_gently h h' g s = record {
  served = record { live = λ c client at. g.live client c (s.live c client (sym (same_at h h' c g.connections) ∙ at)) };
  same = g.connections;
}

pub leaves_then : (h mid h' : HeldView) → LeavesServed h mid → LeavesServed mid h' → LeavesServed h h'
leaves_then h mid h' a b = record { served = b.served; same = b.same ∙ a.same }

pub leaves_same : (h h' : HeldView) → h' ≡ h → AllServed h → LeavesServed h h'
leaves_same h h' e s = record { served = subst AllServed (sym e) s; same = ap (λ (v : HeldView). v.connections) e }

-- ---- a session that is over, or is told of a close, while its client is on no connection
other_client : (client q : List ℕ) (h : HeldView) (c : ℕ) → IsAway client h → client_at c h ≡ Some q → q ≢ client
other_client client q h c away at e = away c (at ∙ ap Some e)

pub over_served : (h : HeldView) (client : List ℕ) → IsAway client h → AllServed h → LeavesServed h (next h (Session (Over client)))
over_served h client away s = record { served = record { live = live }; same = refl } where
  live : (c : ℕ) (q : List ℕ) → client_at c (next h (Session (Over client))) ≡ Some q → IsLive (next h (Session (Over client))) q c
  live c q at =
      let was = s.live c q at in
      record { seat = was.seat; found = get_left h.sessions client q (apart_text q client (other_client client q h c away at)) ∙ was.found; on = was.on; phase = was.phase }

pub told_served : (h : HeldView) (t : SessionStep) → IsAway t.client h → AllServed h → LeavesServed h (next h (Session (Called t)))
told_served h t away s = record { served = record { live = live }; same = refl } where
  own : Seat
  own = record { session = t.after; connection = t.on }

  live : (c : ℕ) (q : List ℕ) → client_at c (next h (Session (Called t))) ≡ Some q → IsLive (next h (Session (Called t))) q c
  live c q at =
      let was = s.live c q at in
      record { seat = was.seat; found = get_apart h.sessions t.client own q (apart_text q t.client (other_client t.client q h c away at)) ∙ was.found; on = was.on; phase = was.phase }

-- ---- a connection that is closed
abbrev pub shut : HeldView → ℕ → HeldView
shut h c = next h (Connection (Closed c))

pub shut_client : (h : HeldView) (c q : ℕ) (client : List ℕ) → client_at q (shut h c) ≡ Some client → (client_at q h ≡ Some client) × (q ≢ c)
shut_client h c q client at = elim (nat_cases q c) [
  | inl e ↦ none_some (sym (ap (option_and_then (λ (v : ConnectionView). v.client)) (ap (λ n. map.get (map.remove h.connections c) n) e ∙ gone_here h.connections c)) ∙ at)
  | inr ne ↦ (sym (ap (option_and_then (λ (v : ConnectionView). v.client)) (gone_apart h.connections c q ne)) ∙ at, ne)
]

pub shut_served : (h : HeldView) (c : ℕ) → AllServed h → AllServed (shut h c)
shut_served h c s = record { live = λ q client at. live_in h (shut h c) refl client q (s.live q client (shut_client h c q client at).0) }

pub shut_away : (h : HeldView) (c : ℕ) (client : List ℕ) → IsOnlyAt c client h → IsAway client (shut h c)
shut_away h c client only q at = let was = shut_client h c q client at in was.1 (only q was.0)
