-- Where a table of homes comes, and at the first Started, nothing else is done.
use Rattle.std.proofs.Common.{◌≡◌, inl, inr, ℕ, Bool, true, false, cond, List, [], ◌∷◌, ◌++◌, Option, Some, None, sym, ap, ◌∙◌, subst}
use Rattle.std.proofs.lemmas.List.{append-nil}
use Rattle.home_table.specs.Table.{Table}
use Rattle.mqtt_packets.specs.declared.packet.Packet.{Packet}
use Rattle.mqtt_packets.specs.Written.{written}
use Rattle.session_table.specs.Seats.{connected}
use Rattle.node_work.specs.declared.counts.Missed.TheVariants.{TableRefused}
use Rattle.node_work.specs.declared.outcome.Output.TheVariants.{Send}
use Rattle.node_work.specs.Acts.{Act, Began, Bridge, MomentTaken, Moved, Out, Runs, next}
use Rattle.node_work.specs.Doings.{Misses, Sends}
use Rattle.node_work.specs.Held.Bridge.{Left_out}
use Rattle.node_work.specs.Held.Sessions.{connection_at, has_session, seat_at, takes_packet}
use Rattle.node_work.specs.Packets.{moved_packet}
use Rattle.node_work.specs.View.{Place, HeldView}
use Rattle.node_work.specs.Working.{Returns, If, Each}
use Rattle.node_clients.specs.Connecting.{address_of}
use Rattle.node_clients.specs.Moving as moving
use Rattle.broker_node.specs.declared.event.Event.{Event}
use Rattle.broker_node.specs.declared.event.EventKind.{EventKind}
use Rattle.broker_node.specs.declared.event.EventKind.TheVariants as kinds
use Rattle.broker_node.specs.Due as due
use Rattle.broker_node.specs.Moving as tables
use Rattle.broker_node.specs.Turns as turns
use Rattle.law_runs.proofs.Keeping.{none_some}
use Rattle.law_runs.proofs.Splits.{left_by}
use Rattle.law_steps.proofs.ClosingLaws.{second_runs}
use Rattle.law_steps.specs.Going.{IsToldItsHome}
use Rattle.law_steps.specs.Starting.{AreClosed, IsClosed}
use Rattle.law_steps.proofs.Turning.{if_not, momentary}
use Rattle.law_steps.specs.Ending.{ClosesOn}
use Rattle.law_steps.specs.Moving.{ClientsGoAlone, GoesAlone, GoInTurnAlone, PartsAlone, StartsAlone, TableAlone}
use Rattle.law_steps.proofs.Ended.{all_due, close_by, closes_alone, finish_alone}
use Rattle.law_steps.proofs.Moving.{told_leaves}

-- ---- a client goes
told_if : (takes : Bool) (c : ℕ) (packet : Packet) (x : Unit {0}) (p : Place) (h : HeldView) (acts : List Act) → If takes (Sends c packet) (Returns tt) (Some x) p h acts → cond takes (acts ≡ Out (Send c (written packet)) ∷ []) (acts ≡ [])
told_if true c packet x p h acts d = d.1
told_if false c packet x p h acts d = d.1

told_by : (address : Option (List ℕ)) (c : ℕ) (client : List ℕ) (x : Unit {0}) (p : Place) (h : HeldView) (acts : List Act) → moving.RedirectsBy c client address (Some x) p h acts → IsToldItsHome c client h address acts
told_by None c client x p h acts d = d.1
told_by (Some address) c client x p h acts d = told_if (takes_packet client (moved_packet address) h) c (moved_packet address) x p h acts d

parts_on : (on : Option ℕ) (client : List ℕ) (x : Unit {0}) (p : Place) (h : HeldView) (acts : List Act) → moving.PartsOn client on (Some x) p h acts → PartsAlone p h client on acts
parts_on None client x p h acts d = d.1
parts_on (Some c) client x p h acts (inl d) = none_some (sym d.0)
parts_on (Some c) client x p h acts (inr (y, own, mid, rest, (node, home, one), ran, more, is)) =
    let told : IsToldItsHome c client h (address_of h node) own = told_by (address_of h node) c client y p h own one in
    record {
      home = node;
      is_home = home;
      told = own;
      rest = rest;
      is = is;
      is_told = told;
      closes = subst (λ v. ClosesOn p v c client rest) (told_leaves (address_of h node) c client p h mid own told ran) (closes_alone c client x p mid rest more);
    }

goes : (client : List ℕ) (x : Unit {0}) (p : Place) (h : HeldView) (acts : List Act) → moving.MovesAway client (Some x) p h acts → GoesAlone p h client acts
goes client x p h acts (inl d) = none_some (sym d.0)
goes client x p h acts (inr (y, own, mid, rest, one, ran, more, is)) =
    record { parting = own; ending = rest; is = is; parts = parts_on (connection_at client h) client y p h own one; left = mid; leaves = ran; ends = finish_alone client x p mid rest more }

each_goes : (clients : List (List ℕ)) (x : Unit {0}) (p : Place) (h : HeldView) (acts : List Act) → Each moving.MovesAway clients (Some x) p h acts → GoInTurnAlone p clients h acts
each_goes [] x p h acts d = d.1
each_goes (client ∷ clients) x p h acts (inl d) = none_some (sym d.0)
each_goes (client ∷ clients) x p h acts (inr (y, own, mid, rest, one, ran, more, is)) = (own, mid, rest, is, ran, goes client y p h own one, each_goes clients x p mid rest more)

clients_go : (x : Unit {0}) (p : Place) (h : HeldView) (acts : List Act) → tables.SendsAway (Some x) p h acts → ClientsGoAlone p h acts
clients_go x p h acts (away, are, d) = record { away = away; are = are; go = each_goes away x p h acts d }

-- ---- a table
table_if : (newer : Bool) (homes : Table) (x : Unit {0}) (p : Place) (h : HeldView) (acts : List Act) → If newer (tables.TakesNewerTable homes) (Misses TableRefused) (Some x) p h acts
    → cond newer ((rest : List Act) × (acts ≡ Moved homes ∷ rest) × ClientsGoAlone p (next h (Moved homes)) rest) (acts ≡ Bridge (Left_out TableRefused) ∷ [])
table_if true homes x p h acts (inl d) = none_some (sym d.0)
table_if true homes x p h acts (inr (y, own, mid, rest, one, ran, more, is)) =
    let left : mid ≡ next h (Moved homes) = left_by p h mid (Moved homes) own one.1 ran in
    (rest, is ∙ ap (λ zs. zs ++ rest) one.1, subst (λ v. ClientsGoAlone p v rest) left (clients_go x p mid rest more))
table_if false homes x p h acts d = d.1

pub table_taken : (homes : Table) (x : Unit {0}) (p : Place) (h : HeldView) (acts : List Act) → tables.TakesTable homes (Some x) p h acts → TableAlone p h homes acts
table_taken homes x p h acts d = table_if (tables.is_newer_table homes p h) homes x p h acts d

-- ---- the first Started
one_close : (client : List ℕ) (x : Unit {0}) (p : Place) (h : HeldView) (acts : List Act) → due.PartsFrom client (Some x) p h acts → cond (has_session client h) (IsClosed h client acts) (acts ≡ [])
one_close client x p h acts (inl d) = none_some (sym d.0)
one_close client x p h acts (inr (r, own, mid, rest, one, ran, more, is)) =
    let same : acts ≡ own = is ∙ ap (λ zs. own ++ zs) more.1 ∙ append-nil own in
    subst (λ zs. cond (has_session client h) (IsClosed h client zs) (zs ≡ [])) (sym same) (close_by (seat_at client h) client r p h own one)

each_closed : (clients : List (List ℕ)) (x : Unit {0}) (p : Place) (h h' : HeldView) (acts : List Act) → Each due.PartsFrom clients (Some x) p h acts → Runs p h acts h' → AreClosed p clients h acts h'
each_closed [] x p h h' acts d runs = (d.1, subst (λ xs. Runs p h xs h') d.1 runs)
each_closed (client ∷ clients) x p h h' acts (inl d) runs = none_some (sym d.0)
each_closed (client ∷ clients) x p h h' acts (inr (y, own, mid, rest, one, ran, more, is)) runs =
    (own, mid, rest, is, ran, one_close client y p h own one, each_closed clients x p mid h' rest more (second_runs p h mid h' own rest acts is ran runs))

starts : (at : ℕ) (x : Unit {0}) (p : Place) (h : HeldView) (acts : List Act) → due.Starts (Some x) p (next h (MomentTaken at)) acts → StartsAlone p h at (MomentTaken at ∷ acts)
starts at x p h acts (inl d) = none_some (sym d.0)
starts at x p h acts (inr (y, own, mid, rest, one, ran, (inl d), is)) = none_some (sym d.0)
starts at x p h acts (inr (y, own, mid, rest, one, ran, (inr (y2, own2, mid2, rest2, two, ran2, (inl d), is2)), is)) = none_some (sym d.0)
starts at x p h acts (inr (y, own, mid, rest, one, ran, (inr (y2, own2, mid2, rest2, two, ran2, (inr (y3, own3, mid3, rest3, three, ran3, more, is3)), is2)), is)) =
    let now = next h (MomentTaken at) in
    let left : mid ≡ next now Began = left_by p now mid Began own one.1 ran in
    record {
      closed = own2;
      due = own3;
      away = rest3;
      is = ap (λ zs. MomentTaken at ∷ zs) (is ∙ (λ i. one.1 i ++ (is2 ∙ ap (λ zs. own2 ++ zs) is3) i));
      mid = mid2;
      closes_all = each_closed (connected h.sessions) y2 p (next now Began) mid2 own2 (subst (λ v. due.ClosesStored (Some y2) p v own2) left two) (subst (λ v. Runs p v own2 mid2) left ran2);
      left = mid3;
      leaves = ran3;
      does = all_due y3 p mid2 mid3 own3 three ran3;
      goes = clients_go x p mid3 rest3 more;
    }

pub starts_alone : (e : Event) (p : Place) (h : HeldView) (acts : List Act) → turns.Decides e (Some tt) p h acts → h.started ≡ false → e.kind ≡ kinds.Started → StartsAlone p h e.at acts
starts_alone e p h acts d waits kind =
    let m = momentary e p h acts d in
    let turn = if_not h.started (turns.AnswersAfterDue e.kind) (turns.AwaitsStart e.kind) (Some tt) p (next h (MomentTaken e.at)) m.rest waits m.turn in
    subst (StartsAlone p h e.at) (sym m.is) (starts e.at tt p h m.rest (subst (λ (k : EventKind). turns.AwaitsStart k (Some tt) p (next h (MomentTaken e.at)) m.rest) kind turn))
