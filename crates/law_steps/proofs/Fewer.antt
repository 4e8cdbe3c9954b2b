-- Work by which connections close, and none is opened or changed otherwise.
use Rattle.std.specs.FinMap as map
use Rattle.std.proofs.Common.{◌≡◌, ◌≢◌, ◌⊎◌, inl, inr, ℕ, List, [], ◌∷◌, Option, Some, sym, ap, ◌∙◌, subst}
use Rattle.std.specs.List.{AllByRecursion}
use Rattle.session_table.specs.Dues.{Due}
use Rattle.law_sessions.specs.Runs.{closes, ticks}
use Rattle.session_table.specs.Calls.{leaves, stays}
use Rattle.session_table.specs.Seats.{run_outs, wills_due, ends_due}
use Rattle.node_work.specs.declared.outcome.Output.TheVariants.{Close}
use Rattle.node_work.specs.Acts.{Act, Connection, Out, Runs, Session, Bridge, next}
use Rattle.node_work.specs.Calling.{Calls}
use Rattle.node_work.specs.Held.Bridge.{BridgeAct, Put, Took, Got, Believed, Greeted, Gave, Left_out, bridged}
use Rattle.node_work.specs.Held.Connections.{ConnectionAct, Opened, Fed, Roomed, Accepted, Closed}
use Rattle.node_work.specs.Held.Sessions.{SessionAct, Begun, Called, Over, called}
use Rattle.node_work.specs.View.{Place, HeldView, ConnectionView}
use Rattle.node_work.specs.Working.{Acting, Doing, Each, Returns, Then}
use Rattle.node_clients.specs.Ending as ending
use Rattle.broker_node.specs.Due as due
use Rattle.cluster_play.proofs.Bools.{nat_cases}
use Rattle.law_runs.proofs.Keeping.{none_some}
use Rattle.law_steps.proofs.Alone.{K, Kind, acting, calling, low, ticks_of}
use Rattle.law_steps.proofs.Below.{each}
use Rattle.law_steps.proofs.On.{gone_apart, gone_here}

-- an act that opens no connection and changes none, but may close one
abbrev pub LeavesFewer : Act → Type 0
LeavesFewer (Connection (Opened c)) = ⊥
LeavesFewer (Connection (Fed c piece)) = ⊥
LeavesFewer (Connection (Roomed c bytes)) = ⊥
LeavesFewer (Connection (Accepted c client)) = ⊥
LeavesFewer a = Unit {0}

fewer_kind : Kind LeavesFewer
fewer_kind = record {
  made = λ o. tt;
  called = λ s calm. tt;
  over = λ client. tt;
  put = λ peer m. tt;
  missed = λ what other. tt;
  passed = λ m copies lost routes. tt;
  dropped = tt;
  acknowledged = λ client packet at given os. tt;
}

abbrev Fewer_acts : (Option (Unit {0}) → Doing) → Type 0
Fewer_acts P = K LeavesFewer fewer_kind (Unit {0}) P

closes_of : (c : ℕ) → Fewer_acts (ending.ClosesConnection c)
closes_of c =
    (low LeavesFewer fewer_kind).join (Acting (λ p h. Connection (Closed c))) (λ _. Acting (λ p h. Out (Close c))) (acting LeavesFewer fewer_kind (λ p h. Connection (Closed c)) (λ p h. tt))
    (λ _. acting LeavesFewer fewer_kind (λ p h. Out (Close c)) (λ p h. tt))

runs_out : (d : Due) → Fewer_acts (due.RunsOut d)
runs_out d =
    let w = low LeavesFewer fewer_kind in
    w.join (Calls d.1 ticks stays) (λ _. Then (ending.ClosesConnection d.0) (λ _. Then (Calls d.1 closes leaves) (λ _. Returns tt))) (calling LeavesFewer fewer_kind d.1 ticks stays (λ at. tt)) (λ _.
    w.join (ending.ClosesConnection d.0) (λ _. Then (Calls d.1 closes leaves) (λ _. Returns tt)) (closes_of d.0) (λ _.
    w.join (Calls d.1 closes leaves) (λ _. Returns tt) (calling LeavesFewer fewer_kind d.1 closes leaves (λ at. tt)) (λ _. w.returns tt)))

ticks_all : (ds : List Due) → Fewer_acts (Each due.TicksOf ds)
ticks_all ds = each (K LeavesFewer fewer_kind) (low LeavesFewer fewer_kind) due.TicksOf ds (λ d. ticks_of LeavesFewer fewer_kind d.1)

due_acts : Fewer_acts due.DoesDue
due_acts =
    let w = low LeavesFewer fewer_kind in
    w.join due.EndsConnections (λ _. Then due.PublishesWills (λ _. due.EndsSessions))
    (w.looks (λ p h. run_outs h.sessions h.at) (Each due.RunsOut) (λ ds. each (K LeavesFewer fewer_kind) w due.RunsOut ds runs_out)) (λ _.
    w.join due.PublishesWills (λ _. due.EndsSessions) (w.looks (λ p h. wills_due h.sessions h.at) (Each due.TicksOf) ticks_all) (λ _. w.looks (λ p h. ends_due h.sessions h.at) (Each due.TicksOf) ticks_all))

-- ---- the connections that are open afterwards were open, and the same
abbrev pub Fewer : HeldView → HeldView → Type 0
Fewer h h' = (c : ℕ) (found : ConnectionView) → map.get h'.connections c ≡ Some found → map.get h.connections c ≡ Some found

pub fewer_same : (h h' : HeldView) → h' ≡ h → Fewer h h'
fewer_same h h' same c found at = subst (λ (v : HeldView). map.get v.connections c ≡ Some found) same at

pub fewer_then : (h mid h' : HeldView) → Fewer h mid → Fewer mid h' → Fewer h h'
fewer_then h mid h' a b c found at = a c found (b c found at)

closed_fewer : (h : HeldView) (n : ℕ) → Fewer h (next h (Connection (Closed n)))
closed_fewer h n c found at = by (nat_cases c n)
  where
    by : (c ≡ n) ⊎ (c ≢ n) → map.get h.connections c ≡ Some found
    by (inl e) = none_some (sym (gone_here h.connections n) ∙ ap (map.get (map.remove h.connections n)) (sym e) ∙ at)
    by (inr ne) = sym (gone_apart h.connections n c ne) ∙ at

connection_fewer : (h : HeldView) (a : ConnectionAct) → LeavesFewer (Connection a) → Fewer h (next h (Connection a))
connection_fewer h (Opened c) fewer = absurd fewer
connection_fewer h (Fed c piece) fewer = absurd fewer
connection_fewer h (Roomed c bytes) fewer = absurd fewer
connection_fewer h (Accepted c client) fewer = absurd fewer
connection_fewer h (Closed c) fewer = closed_fewer h c

session_fewer : (h : HeldView) (a : SessionAct) → Fewer h (called h a)
session_fewer h (Begun client) = λ c found at. at
session_fewer h (Called s) = λ c found at. at
session_fewer h (Over client) = λ c found at. at

bridge_fewer : (h : HeldView) (a : BridgeAct) → Fewer h (bridged h a)
bridge_fewer h (Put peer m) = λ c found at. at
bridge_fewer h (Took peer number m copies lost) = λ c found at. at
bridge_fewer h (Got peer number) = λ c found at. at
bridge_fewer h (Believed peer dots) = λ c found at. at
bridge_fewer h (Greeted peer g) = λ c found at. at
bridge_fewer h (Gave f) = λ c found at. at
bridge_fewer h (Left_out what) = λ c found at. at

act_fewer : (h : HeldView) (a : Act) → LeavesFewer a → Fewer h (next h a)
act_fewer h (Connection a) fewer = connection_fewer h a fewer
act_fewer h (Session a) fewer = session_fewer h a
act_fewer h (Bridge a) fewer = bridge_fewer h a
act_fewer h a fewer = λ c found at. at

acts_fewer : (p : Place) (acts : List Act) (h h' : HeldView) → AllByRecursion LeavesFewer acts → Runs p h acts h' → Fewer h h'
acts_fewer p [] h h' all runs = fewer_same h h' runs
acts_fewer p (a ∷ acts) h h' all runs =
    fewer_then h runs.0 h' (subst (Fewer h) (sym runs.1.1) (act_fewer h a all.0)) (acts_fewer p acts runs.0 h' all.1 runs.2)

pub due_fewer : (x : Unit {0}) (p : Place) (h h' : HeldView) (acts : List Act) → due.DoesDue (Some x) p h acts → Runs p h acts h' → Fewer h h'
due_fewer x p h h' acts d runs = acts_fewer p acts h h' (due_acts.of x p h acts d) runs
