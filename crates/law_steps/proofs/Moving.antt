-- What a table of homes, and the first Started, come to is determined.
use Rattle.std.proofs.Common.{◌≡◌, ℕ, Bool, true, false, cond, List, [], ◌∷◌, ◌++◌, map as map_list, Option, Some, None, refl, sym, ◌∙◌, subst}
use Rattle.std.specs.FinMap as map
use Rattle.home_table.specs.Table.{Table, IsTable}
use Rattle.home_table.proofs.HomeLaws.{home_alone}
use Rattle.bridge_routes.proofs.Selecting.{selected_once}
use Rattle.mqtt_packets.specs.Written.{written}
use Rattle.law_sessions.specs.Runs.{finishes}
use Rattle.session_table.specs.Seats.{IsElsewhere, connected}
use Rattle.node_work.specs.declared.counts.Missed.TheVariants.{TableRefused}
use Rattle.node_work.specs.declared.outcome.Output.TheVariants.{Send}
use Rattle.node_work.specs.Acts.{Act, Began, Bridge, MomentTaken, Moved, Out, Runs, next}
use Rattle.node_work.specs.Held.Bridge.{Left_out}
use Rattle.node_work.specs.Held.Sessions.{connection_at, has_session, takes_packet}
use Rattle.node_work.specs.Packets.{moved_packet}
use Rattle.node_work.specs.View.{Place, HeldView}
use Rattle.node_work.proofs.Homes.{is_table_on}
use Rattle.node_work.proofs.Working.{runs_join}
use Rattle.node_clients.specs.Connecting.{address_of}
use Rattle.node_clients.proofs.Determined.{runs_determined}
use Rattle.broker_node.specs.Moving.{is_newer_table}
use Rattle.law_steps.specs.Going.{IsToldItsHome}
use Rattle.law_steps.specs.Starting.{AreClosed}
use Rattle.law_steps.specs.Ending.{AllDueIsDone, OwnIsDone}
use Rattle.law_steps.specs.Moving.{ClientsGoAlone, GoesAlone, GoInTurnAlone, PartsAlone, SentOnAlone, StartsAlone, TableAlone}
use Rattle.law_steps.proofs.Calls.{after_head, two_heads, two_parts}
use Rattle.law_steps.proofs.EndingLaws.{closed_fixed, closes_fixed, due_fixed, own_by}

-- ---- what a client that goes is told
told_if : (takes : Bool) (a : Act) (xs ys : List Act) → cond takes (xs ≡ a ∷ []) (xs ≡ []) → cond takes (ys ≡ a ∷ []) (ys ≡ []) → xs ≡ ys
told_if true a xs ys x y = x ∙ sym y
told_if false a xs ys x y = x ∙ sym y

told_fixed : (address : Option (List ℕ)) (c : ℕ) (client : List ℕ) (h : HeldView) (xs ys : List Act) → IsToldItsHome c client h address xs → IsToldItsHome c client h address ys → xs ≡ ys
told_fixed None c client h xs ys x y = x ∙ sym y
told_fixed (Some address) c client h xs ys x y = told_if (takes_packet client (moved_packet address) h) (Out (Send c (written (moved_packet address)))) xs ys x y

-- that leaves what the node holds
leaves_if : (takes : Bool) (c : ℕ) (bytes : List ℕ) (p : Place) (h mid : HeldView) (told : List Act) → cond takes (told ≡ Out (Send c bytes) ∷ []) (told ≡ []) → Runs p h told mid → mid ≡ h
leaves_if true c bytes p h mid told is runs = let r = subst (λ zs. Runs p h zs mid) is runs in r.2 ∙ r.1.1
leaves_if false c bytes p h mid told is runs = subst (λ zs. Runs p h zs mid) is runs

pub told_leaves : (address : Option (List ℕ)) (c : ℕ) (client : List ℕ) (p : Place) (h mid : HeldView) (told : List Act) → IsToldItsHome c client h address told → Runs p h told mid → mid ≡ h
told_leaves None c client p h mid told is runs = subst (λ zs. Runs p h zs mid) is runs
told_leaves (Some address) c client p h mid told is runs = leaves_if (takes_packet client (moved_packet address) h) c (written (moved_packet address)) p h mid told is runs

-- ---- a client goes
sent_fixed : (p : Place) (h : HeldView) (c : ℕ) (client : List ℕ) (last last' : HeldView) (xs ys : List Act) → IsTable h.homes → Runs p h xs last → Runs p h ys last' → SentOnAlone p h c client xs → SentOnAlone p h c client ys → xs ≡ ys
sent_fixed p h c client last last' xs ys sound r s x y =
    let same : x.home ≡ y.home = home_alone h.homes client x.home y.home sound x.is_home y.is_home in
    let is_told : IsToldItsHome c client h (address_of h x.home) y.told = subst (λ n. IsToldItsHome c client h (address_of h n) y.told) (sym same) y.is_told in
    two_parts p h last last' xs ys x.told x.rest y.told y.rest x.is y.is r s
    (λ k l ra rb. told_fixed (address_of h x.home) c client h x.told y.told x.is_told is_told)
    (λ mid ra rb rc rd. (
    let stays : mid ≡ h = told_leaves (address_of h x.home) c client p h mid x.told x.is_told ra in
    closes_fixed p h c client last last' x.rest y.rest sound (subst (λ v. Runs p v x.rest last) stays rc) (subst (λ v. Runs p v y.rest last') stays rd) x.closes y.closes))

parts_by : (on : Option ℕ) (p : Place) (h : HeldView) (client : List ℕ) (last last' : HeldView) (xs ys : List Act) → IsTable h.homes → Runs p h xs last → Runs p h ys last' → PartsAlone p h client on xs → PartsAlone p h client on ys → xs ≡ ys
parts_by None p h client last last' xs ys sound r s x y = x ∙ sym y
parts_by (Some c) p h client last last' xs ys sound r s x y = sent_fixed p h c client last last' xs ys sound r s x y

goes_fixed : (p : Place) (h : HeldView) (client : List ℕ) (last last' : HeldView) (xs ys : List Act) → IsTable h.homes → Runs p h xs last → Runs p h ys last' → GoesAlone p h client xs → GoesAlone p h client ys → xs ≡ ys
goes_fixed p h client last last' xs ys sound r s x y =
    two_parts p h last last' xs ys x.parting x.ending y.parting y.ending x.is y.is r s
    (λ k l ra rb. parts_by (connection_at client h) p h client k l x.parting y.parting sound ra rb x.parts y.parts)
    (λ mid ra rb rc rd. (
    let hx : x.left ≡ mid = runs_determined p x.parting h x.left mid x.leaves ra in
    let hy : y.left ≡ mid = runs_determined p y.parting h y.left mid y.leaves rb in
    own_by (has_session client mid) finishes (λ at. tt) p mid client last last' x.ending y.ending (is_table_on p x.parting h mid ra sound) rc rd
    (subst (λ v. OwnIsDone finishes p v client x.ending) hx x.ends) (subst (λ v. OwnIsDone finishes p v client y.ending) hy y.ends)))

turn_fixed : (p : Place) (clients : List (List ℕ)) (h last last' : HeldView) (xs ys : List Act) → IsTable h.homes → Runs p h xs last → Runs p h ys last' → GoInTurnAlone p clients h xs → GoInTurnAlone p clients h ys → xs ≡ ys
turn_fixed p [] h last last' xs ys sound r s x y = x ∙ sym y
turn_fixed p (client ∷ clients) h last last' xs ys sound r s x y =
    two_parts p h last last' xs ys x.0 x.2 y.0 y.2 x.3 y.3 r s
    (λ k l ra rb. goes_fixed p h client k l x.0 y.0 sound ra rb x.5 y.5)
    (λ mid ra rb rc rd. (
    let hx : x.1 ≡ mid = runs_determined p x.0 h x.1 mid x.4 ra in
    let hy : y.1 ≡ mid = runs_determined p y.0 h y.1 mid y.4 rb in
    turn_fixed p clients mid last last' x.2 y.2 (is_table_on p x.0 h mid ra sound) rc rd (subst (λ w. GoInTurnAlone p clients w x.2) hx x.6) (subst (λ w. GoInTurnAlone p clients w y.2) hy y.6)))

away_fixed : (p : Place) (h last last' : HeldView) (xs ys : List Act) → IsTable h.homes → Runs p h xs last → Runs p h ys last' → ClientsGoAlone p h xs → ClientsGoAlone p h ys → xs ≡ ys
away_fixed p h last last' xs ys sound r s x y =
    let same : x.away ≡ y.away = selected_once (IsElsewhere h.homes p.id) (map_list (λ e. e.0) (map.entries h.sessions)) x.away y.away x.are y.are in
    turn_fixed p x.away h last last' xs ys sound r s x.go (subst (λ clients. GoInTurnAlone p clients h ys) (sym same) y.go)

-- ---- a table
table_by : (newer : Bool) (homes : Table) (p : Place) (h last last' : HeldView) (xs ys : List Act) → Runs p h xs last → Runs p h ys last'
    → cond newer ((rest : List Act) × (xs ≡ Moved homes ∷ rest) × ClientsGoAlone p (next h (Moved homes)) rest) (xs ≡ Bridge (Left_out TableRefused) ∷ [])
    → cond newer ((rest : List Act) × (ys ≡ Moved homes ∷ rest) × ClientsGoAlone p (next h (Moved homes)) rest) (ys ≡ Bridge (Left_out TableRefused) ∷ []) → xs ≡ ys
table_by true homes p h last last' xs ys r s x y =
    let a = Moved homes in
    let sound : IsTable homes = (after_head p h last xs a x.0 x.1 r).0.table in
    two_heads p h last last' xs ys a a x.0 y.0 x.1 y.1 refl r s (λ r2 s2. away_fixed p (next h a) last last' x.0 y.0 sound r2 s2 x.2 y.2)
table_by false homes p h last last' xs ys r s x y = x ∙ sym y

pub table_fixed : (homes : Table) (p : Place) (h last last' : HeldView) (xs ys : List Act) → Runs p h xs last → Runs p h ys last' → TableAlone p h homes xs → TableAlone p h homes ys → xs ≡ ys
table_fixed homes p h last last' xs ys r s x y = table_by (is_newer_table homes p h) homes p h last last' xs ys r s x y

-- ---- the first Started
closed_runs : (p : Place) (clients : List (List ℕ)) (h last : HeldView) (acts : List Act) → AreClosed p clients h acts last → Runs p h acts last
closed_runs p [] h last acts x = subst (λ zs. Runs p h zs last) (sym x.0) x.1
closed_runs p (client ∷ clients) h last acts x = subst (λ zs. Runs p h zs last) (sym x.3) (runs_join p x.0 x.2 h x.1 last x.4 (closed_runs p clients x.1 last x.2 x.6))

each_fixed : (p : Place) (clients : List (List ℕ)) (h m n last last' : HeldView) (xs ys : List Act) → Runs p h xs m → Runs p h ys n → AreClosed p clients h xs last → AreClosed p clients h ys last' → xs ≡ ys
each_fixed p [] h m n last last' xs ys r s x y = x.0 ∙ sym y.0
each_fixed p (client ∷ clients) h m n last last' xs ys r s x y =
    two_parts p h m n xs ys x.0 x.2 y.0 y.2 x.3 y.3 r s
    (λ k l ra rb. closed_fixed (has_session client h) p h client k l x.0 y.0 ra rb x.5 y.5)
    (λ mid ra rb rc rd. (
    let hx : x.1 ≡ mid = runs_determined p x.0 h x.1 mid x.4 ra in
    let hy : y.1 ≡ mid = runs_determined p y.0 h y.1 mid y.4 rb in
    each_fixed p clients mid m n last last' x.2 y.2 rc rd (subst (λ w. AreClosed p clients w x.2 last) hx x.6) (subst (λ w. AreClosed p clients w y.2 last') hy y.6)))

pub starts_fixed : (p : Place) (h : HeldView) (at : ℕ) (last last' : HeldView) (xs ys : List Act) → IsTable h.homes → Runs p h xs last → Runs p h ys last' → StartsAlone p h at xs → StartsAlone p h at ys → xs ≡ ys
starts_fixed p h at last last' xs ys sound r s x y =
    let a = MomentTaken at in
    let now = next (next h a) Began in
    let later : List Act = x.closed ++ (x.due ++ x.away) in
    let later' : List Act = y.closed ++ (y.due ++ y.away) in
    let clients = connected h.sessions in
    two_heads p h last last' xs ys a a (Began ∷ later) (Began ∷ later') x.is y.is refl r s (λ r2 s2.
    two_heads p (next h a) last last' (Began ∷ later) (Began ∷ later') Began Began later later' refl refl refl r2 s2 (λ r3 s3.
    two_parts p now last last' later later' x.closed (x.due ++ x.away) y.closed (y.due ++ y.away) refl refl r3 s3
    (λ k l ra rb. each_fixed p clients now k l x.mid y.mid x.closed y.closed ra rb x.closes_all y.closes_all)
    (λ mid ra rb rc rd. (
    let hx : x.mid ≡ mid = runs_determined p x.closed now x.mid mid (closed_runs p clients now x.mid x.closed x.closes_all) ra in
    let hy : y.mid ≡ mid = runs_determined p y.closed now y.mid mid (closed_runs p clients now y.mid y.closed y.closes_all) rb in
    let due_x : AllDueIsDone p mid x.due x.left = subst (λ v. AllDueIsDone p v x.due x.left) hx x.does in
    let due_y : AllDueIsDone p mid y.due y.left = subst (λ v. AllDueIsDone p v y.due y.left) hy y.does in
    let ran_x : Runs p mid x.due x.left = subst (λ v. Runs p v x.due x.left) hx x.leaves in
    let ran_y : Runs p mid y.due y.left = subst (λ v. Runs p v y.due y.left) hy y.leaves in
    let sound' = is_table_on p x.closed now mid ra sound in
    two_parts p mid last last' (x.due ++ x.away) (y.due ++ y.away) x.due x.away y.due y.away refl refl rc rd
    (λ k l ta tb. due_fixed p mid k l x.left y.left x.due y.due sound' ta tb due_x due_y)
    (λ mid2 ta tb tc td. (
    let kx : x.left ≡ mid2 = runs_determined p x.due mid x.left mid2 ran_x ta in
    let ky : y.left ≡ mid2 = runs_determined p y.due mid y.left mid2 ran_y tb in
    away_fixed p mid2 last last' x.away y.away (is_table_on p x.due mid mid2 ta sound') tc td (subst (λ v. ClientsGoAlone p v x.away) kx x.goes) (subst (λ v. ClientsGoAlone p v y.away) ky y.goes)))))))
