-- What a call of a client's session comes to.
use Rattle.std.proofs.Common.{◌≡◌, ℕ, Bool, false, List, [], Option, Some, None, Bor, IfOk, IfSome, MatchOption, is_some, not, Result, Ok, Err, unwrap_or, ◌||◌, ◌&&◌, inl, inr, refl, sym, ap, subst, ◌∙◌}
use Rattle.std.specs.Ordering.{eq_by_cmp}
use Rattle.std.specs.Option.{option_and_then, option_map}
use Rattle.std.specs.FinMap as map
use Rattle.mqtt_sessions.specs.Aliases.{topic_for}
use Rattle.mqtt_sessions.specs.Called.{Called}
use Rattle.mqtt_sessions.specs.Ending.{will_due, end_due}
use Rattle.mqtt_sessions.specs.Reaction.{Reaction, AreSpelled}
use Rattle.mqtt_sessions.specs.Saved.{Saved, state_of}
use Rattle.mqtt_sessions.specs.State.{State, aliases_of, limit_of, new_session}
use Rattle.mqtt_sessions.specs.declared.fault.SessionFault.{SessionFault}
use Rattle.mqtt_sessions.specs.declared.fault.SessionFault.TheVariants.{NoMemory, NumbersAtEnd, Spent, BadRow}
use Rattle.law_sessions.specs.Runs.{Event, connects, queues, rooms, takes, answers, closes, ticks, finishes, loses, Reacts, step_of, MayCome, wants_of, ends_of}
use Rattle.session_table.specs.Seats.{Seat, Seats}
use Rattle.mqtt_sessions.specs.Connecting.{MayConnectIf}
use Rattle.mqtt_packets.specs.declared.connect.Connect.{Connect as ConnectPacket}
use Rattle.session_table.specs.declared.call.Call.{Call}
use Rattle.session_table.specs.declared.call.Call.TheVariants.{Connect}
use Rattle.session_table.specs.Calls.{event_of, IsSpelledIf, IsCalled, IsTurned, IsSeated, MayTurn, MayTurnAt}
use Rattle.session_table.specs.Listing.{Table, connection_in, text_cmp, seat_of, seats_in, moments_of, no_moments, listed_in, IsAt, IsListedAt, Relists, IsListed, IsKeyed, IsKept, IsBroken, Runs}
use Rattle.session_table.specs.Rows.{IsAllTold}
use Rattle.session_table.specs.Wants.{WantsAt, WantsToTell, HasNewMoment, keeps_rows, is_ending, is_queue, leaves_rows}
use Rattle.session_table.specs.declared.listing.Listing.{Listing}
use Rattle.session_table.specs.declared.moments.Moments.{Moments}
use Rattle.session_table.specs.declared.seated.Seated.{Seated}
use Rattle.session_table.specs.Dues.{Dues, due_cmp}
use Rattle.law_maps.proofs.Texts.{remove_absent, get_apart, get_inserted, get_removed, get_left}
use Rattle.session_table.proofs.SeatMaps.{get_seat, seats_insert}
use Rattle.session_table.proofs.Lists.{listed_again, relists_then, listed_put, listed_out, each_put, each_out, each_but}

-- ---- one session
by_step : (e : Event) (old new : State) (r : Reaction) → MayCome e old → step_of e old r new → Reacts old e r new
by_step (connects c continued room now) old new r may h = (may, h)
by_step (queues d now) old new r may h = h
by_step (rooms bytes now) old new r may h = h
by_step (takes p now room) old new r may h = h
by_step (answers id codes) old new r may h = h
by_step (closes now) old new r may h = h
by_step (ticks now) old new r may h = h
by_step (finishes now) old new r may h = h
by_step loses old new r may h = h

pub turned : (e : Event) (old : Option State) (result : Result Reaction SessionFault) (new : Option State) → MayTurn e old
    → Called (step_of e) (wants_of e) (ends_of e) old result new → IfSome old (λ s. IsTurned e s result new)
turned e None result new may h = tt
turned e (Some s) (Ok r) new may h = (h.0, h.1, by_step e s h.0 r (may s refl) h.2)
turned e (Some s) (Err NoMemory) new may h = tt
turned e (Some s) (Err NumbersAtEnd) new may h = h.0
turned e (Some s) (Err Spent) new may h = absurd h.0
turned e (Some s) (Err BadRow) new may h = absurd h.0

-- and where it wants memory the session may
pub wanted : (e : Event) (old : Option State) (result : Result Reaction SessionFault) (new : Option State) → Called (step_of e) (wants_of e) (ends_of e) old result new → result ≡ Err NoMemory → IfSome old (wants_of e)
wanted e None result new h is = tt
wanted e (Some s) (Ok r) new h is = absurd (cc)
wanted e (Some s) (Err NoMemory) new h is = h.0
wanted e (Some s) (Err NumbersAtEnd) new h is = absurd (cc)
wanted e (Some s) (Err Spent) new h is = absurd (cc)
wanted e (Some s) (Err BadRow) new h is = absurd (cc)

pub may_connect : (call : Call) (connect : Bor ConnectPacket) (continued : Bool) (room : Option ℕ) (now : ℕ) (old : Option State) → call ≡ Connect connect continued room now → MayTurn (event_of call) old → MayConnectIf continued old
may_connect call connect continued room now None is may = tt
may_connect call connect continued room now (Some s) is may = (let P : Call → Type 0 = λ k. MayCome (event_of k) s in subst P is (may s refl))

pub turned_as : (call made : Call) (old : Option State) (result : Result Reaction SessionFault) (new : Option State) → call ≡ made → MayTurn (event_of call) old
    → Called (step_of (event_of made)) (wants_of (event_of made)) (ends_of (event_of made)) old result new → IfSome old (λ s. IsTurned (event_of call) s result new)
turned_as call made old result new is may h =
    (let P : Call → Type 0 = λ k. MayTurn (event_of k) old in
    let Q : Call → Type 0 = λ k. IfSome old (λ s. IsTurned (event_of k) s result new) in
    subst Q (sym is) (turned (event_of made) old result new (subst P is may) h))

pub wanted_as : (call made : Call) (old : Option State) (result : Result Reaction SessionFault) (new : Option State) → call ≡ made
    → Called (step_of (event_of made)) (wants_of (event_of made)) (ends_of (event_of made)) old result new → result ≡ Err NoMemory → IfSome old (wants_of (event_of call))
wanted_as call made old result new is h refused =
    (let P : Call → Type 0 = λ k. IfSome old (wants_of (event_of k)) in
    subst P (sym is) (wanted (event_of made) old result new h refused))

-- packets with spellings at each moment have them at one
pub spelled_at : (result : Result (Option Reaction) SessionFault) → IfOk result (λ o. IfSome o (λ r. (now : ℕ) → AreSpelled now r.packets)) → (now : ℕ) → IfOk result (IsSpelledIf now)
spelled_at (Ok None) h now = tt
spelled_at (Ok (Some r)) h now = h now
spelled_at (Err fault) h now = tt

-- ---- where it wants memory
-- what is known of the call before and after it
pub leaves_as : (e : Event) (old : Option State) (r : Reaction) (keeps ending queued leaves b : Bool) → IfSome old (λ s. keeps ≡ keeps_rows e s) → ending ≡ is_ending e → queued ≡ is_queue e
    → leaves ≡ (keeps || ((ending && not (is_some r.ask)) || (queued && r.full))) → leaves ≡ b
    → IfSome old (λ s. leaves_rows e s r ≡ b)
leaves_as e None r keeps ending queued leaves b before end queue is so = tt
leaves_as e (Some s) r keeps ending queued leaves b before end queue is so = (λ i. sym before i || ((sym end i && not (is_some r.ask)) || (sym queue i && r.full))) ∙ sym is ∙ so

pub may_alter : (e : Event) (old : Option State) (r : Reaction) (left : Option State) → IfSome old (λ s. IsTurned e s (Ok r) left) → IfSome old (λ s. leaves_rows e s r ≡ false) → IfSome old (WantsToTell e)
may_alter e None r left turns alters = tt
may_alter e (Some s) r left turns alters = inr (record { reaction = r; after = turns.0; reacts = turns.2; alters = alters })

pub due_anew : (e : Event) (on : Option ℕ → Option ℕ) (old : Option State) (connection : Option ℕ) (r : Reaction) (left : Option State) (listed m : Moments)
    → IfSome old (λ s. IsTurned e s (Ok r) left) → IfSome old (λ s. listed ≡ moments_of s connection) → IfSome left (λ s. m ≡ moments_of s (on connection)) → HasNewMoment listed m
    → IfSome old (λ s. WantsAt e on s connection)
due_anew e on None connection r left listed m turns were are moment = tt
due_anew e on (Some s) connection r left listed m turns were are moment =
    (let P : Option State → Type 0 = λ o. IfSome o (λ s. m ≡ moments_of s (on connection)) in
    let now : m ≡ moments_of turns.0 (on connection) = subst P turns.1 are in
    let Q : Moments → Type 0 = λ n. HasNewMoment n (moments_of turns.0 (on connection)) in
    let R : Moments → Type 0 = HasNewMoment listed in
    inr (record { reaction = r; after = turns.0; reacts = turns.2; moment = subst Q were (subst R now moment) }))

pub wants_more : (e : Event) (on : Option ℕ → Option ℕ) (old : Option State) (connection : Option ℕ) → IfSome old (WantsToTell e) → IfSome old (λ s. WantsAt e on s connection)
wants_more e on None connection w = tt
wants_more e on (Some s) connection w = inl w

pub moments_here : (x : Seated) → Runs x → IfSome (state_of x.session) (λ s. x.listed ≡ moments_of s x.connection)
moments_here x run = (let P : Option State → Type 0 = λ o. IfSome o (λ s. x.listed ≡ moments_of s x.connection) in subst P (sym run.1) run.2)

-- ---- its seat
pub seated_ok : (e : Event) (on : Option ℕ → Option ℕ) (old : Option State) (connection : Option ℕ) (r : Reaction) (left : Option State) (m : Moments) (x : Seated)
    → IfSome old (λ s. IsTurned e s (Ok r) left) → state_of x.session ≡ left → x.connection ≡ on connection → x.listed ≡ m → IfSome left (λ s. m ≡ moments_of s (on connection))
    → IfSome old (λ s. IsSeated e on s connection (Ok r) x)
seated_ok e on None connection r left m x h session landed listed are = tt
seated_ok e on (Some s) connection r left m x h session landed listed are =
    (let P : Option State → Type 0 = λ o. IfSome o (λ s. m ≡ moments_of s (on connection)) in
    (h.0, session ∙ h.1, h.2, landed, listed ∙ subst P h.1 are))

pub seated_err : (e : Event) (on : Option ℕ → Option ℕ) (old : Option State) (connection : Option ℕ) (fault : SessionFault) (left : Option State) (x : Seated)
    → IfSome old (λ s. IsTurned e s (Err fault) left) → IfSome old (λ s. IsSeated e on s connection (Err fault) x)
seated_err e on None connection fault left x h = tt
seated_err e on (Some s) connection NoMemory left x h = tt
seated_err e on (Some s) connection NumbersAtEnd left x h = h
seated_err e on (Some s) connection Spent left x h = h
seated_err e on (Some s) connection BadRow left x h = h

pub seated_refused : (e : Event) (on : Option ℕ → Option ℕ) (old : Option State) (connection : Option ℕ) (fault : SessionFault) (x : Seated)
    → fault ≡ NoMemory → IfSome old (λ s. IsSeated e on s connection (Err fault) x)
seated_refused e on old connection fault x is =
    (let P : SessionFault → Type 0 = λ f. IfSome old (λ s. IsSeated e on s connection (Err f) x) in subst P (sym is) (by old))
  where
    by : (o : Option State) → IfSome o (λ s. IsSeated e on s connection (Err NoMemory) x)
    by None = tt
    by (Some s) = tt

-- ---- the table
pub listed_here : (client : List ℕ) (t : Table) (l : Listing) (x : Seated) → IsListed t l → IsKeyed t → map.get t client ≡ Some x → IsListedAt l x.key.1 x.listed
listed_here client t l x h keyed is =
    (let P : Option Seated → Type 0 = λ g. IsListedAt l client (listed_in g) in
    let Q : List ℕ → Type 0 = λ c. IsListedAt l c x.listed in
    subst Q (sym (keyed client x is)) (subst P is (h client)))

pub told_here : (client : List ℕ) (t : Table) (l : Listing) (x : Seated) → IsKept t l → map.get t client ≡ Some x → IsAllTold x.key.1 x.session
told_here client t l x kept is = (let P : List ℕ → Type 0 = λ c. IsAllTold c x.session in subst P (sym (kept.keyed client x is)) (kept.told client x is))

seat_here : (client : List ℕ) (t : Table) (x : Seated) → map.get t client ≡ Some x → map.get (seats_in t) client ≡ Some (seat_of x)
seat_here client t x is = get_seat t client ∙ ap (option_map seat_of) is

pub same_state : (x : Seated) (s : State) → state_of x.session ≡ Some s → (seat_of x).session ≡ s
same_state x s is = ap (λ o. unwrap_or o (new_session [])) is

pub may_here : (e : Event) (client : List ℕ) (t : Table) (x : Seated) → map.get t client ≡ Some x → MayTurnAt e (map.get (seats_in t) client) → MayTurn e (state_of x.session)
may_here e client t x is may s session =
    (let P : State → Type 0 = MayCome e in subst P (same_state x s session) (may (seat_of x) (seat_here client t x is)))

-- a seat whose session was called, written back
module _ (e : Event) (on : Option ℕ → Option ℕ) (client : List ℕ) (t u : Table) (x y : Seated) (run : Runs x) (is : map.get t client ≡ Some x) (written : u ≡ map.insert t client y) where
  at_state : (P : State → Type 0) → IfSome (state_of x.session) P → P run.0
  at_state P h = (let Q : Option State → Type 0 = λ o. IfSome o P in subst Q run.1 h)

  pub called_ok : (r : Reaction) → IfSome (state_of x.session) (λ s. IsSeated e on s x.connection (Ok r) y) → IsCalled client e on (seats_in t) (Ok (Some r)) (seats_in u)
  called_ok r h =
      (let d = at_state (λ s. IsSeated e on s x.connection (Ok r) y) h in
      let here : Seat = record { session = run.0; connection = x.connection } in
      let now : Seat = record { session = d.0; connection = on x.connection } in
      let was : seat_of x ≡ here = (λ i. record { session = same_state x run.0 run.1 i; connection = x.connection }) in
      let left : seat_of y ≡ now = (λ i. record { session = same_state y d.0 d.1 i; connection = d.3 i }) in
      (here, d.0, seat_here client t x is ∙ ap Some was, d.2, ap seats_in written ∙ seats_insert t client y ∙ ap (map.insert (seats_in t) client) left))

  pub called_err : (fault : SessionFault) → IfSome (state_of x.session) (λ s. IsSeated e on s x.connection (Err fault) y) → (fault ≡ NoMemory → IfSome (state_of x.session) (λ s. WantsAt e on s x.connection))
      → IsCalled client e on (seats_in t) (Err fault) (seats_in u)
  called_err fault h w = by fault (at_state (λ s. IsSeated e on s x.connection (Err fault) y) h) (λ is. at_state (λ s. WantsAt e on s x.connection) (w is))
    where
      here : Seat
      here = record { session = run.0; connection = x.connection }

      there : map.get (seats_in t) client ≡ Some here
      there = seat_here client t x is ∙ ap (λ s. Some (record { session = s; connection = x.connection })) (same_state x run.0 run.1)

      by : (f : SessionFault) → IsSeated e on run.0 x.connection (Err f) y → (f ≡ NoMemory → WantsAt e on run.0 x.connection) → IsCalled client e on (seats_in t) (Err f) (seats_in u)
      by NoMemory d w = (here, there, w refl)
      by NumbersAtEnd d w = (here, there, d)
      by Spent d w = d
      by BadRow d w = d

  pub kept_ok : (r : Reaction) (k l : Listing) → IfSome (state_of x.session) (λ s. IsSeated e on s x.connection (Ok r) y) → y.key.1 ≡ x.key.1 → IsKept t k → IsListedAt l x.key.1 y.listed → Relists x.key.1 k l
      → IsAllTold x.key.1 y.session → IsKept u l
  kept_ok r k l h key kept at others told =
      (let d = at_state (λ s. IsSeated e on s x.connection (Ok r) y) h in
      let name = kept.keyed client x is in
      let P : List ℕ → Type 0 = λ c. IsListedAt l c y.listed in
      let Q : List ℕ → Type 0 = λ c. Relists c k l in
      record {
        listed = listed_put client t u k l y kept.listed (subst Q name others) written (subst P name at);
        keyed = each_put (λ c z. z.key.1 ≡ c) client t u y kept.keyed written (key ∙ name);
        run = each_put (λ c z. Runs z) client t u y kept.run written (d.0, d.1, d.4 ∙ ap (moments_of d.0) (sym d.3));
        told = each_put (λ c z. IsAllTold c z.session) client t u y kept.told written (subst (λ (c : List ℕ). IsAllTold c y.session) name told);
      })

  pub broken : (k l : Listing) → y.key.1 ≡ x.key.1 → IsKept t k → IsListedAt l x.key.1 y.listed → Relists x.key.1 k l → IsBroken client t u l
  broken k l key kept at others =
      (let name = kept.keyed client x is in
      let P : List ℕ → Type 0 = λ c. IsListedAt l c y.listed in
      let Q : List ℕ → Type 0 = λ c. Relists c k l in
      record {
        listed = listed_put client t u k l y kept.listed (subst Q name others) written (subst P name at);
        keyed = each_put (λ c z. z.key.1 ≡ c) client t u y kept.keyed written (key ∙ name);
        others = λ q apart. ap (λ m. map.get m q) written ∙ get_apart t client y q apart;
      })

pub called_none : (e : Event) (on : Option ℕ → Option ℕ) (client : List ℕ) (t u : Table) → map.get t client ≡ None → u ≡ t → IsCalled client e on (seats_in t) (Ok None) (seats_in u)
called_none e on client t u none same = (get_seat t client ∙ ap (option_map seat_of) none, ap seats_in same)

-- ---- its connection
pub connection_here : (client : List ℕ) (t : Table) → connection_in (map.get t client) ≡ option_and_then (λ (s : Seat). s.connection) (map.get (seats_in t) client)
connection_here client t = by (map.get t client) ∙ ap (option_and_then (λ (s : Seat). s.connection)) (sym (get_seat t client))
  where
    by : (g : Option Seated) → connection_in g ≡ option_and_then (λ (s : Seat). s.connection) (option_map seat_of g)
    by None = refl
    by (Some x) = refl

-- of a seat that was written
pub goes_here : (client : List ℕ) (t u : Table) (y : Seated) (to : Option ℕ) → u ≡ map.insert t client y → to ≡ y.connection → to ≡ option_and_then (λ (s : Seat). s.connection) (map.get (seats_in u) client)
goes_here client t u y to written is = is ∙ ap connection_in (sym (ap (λ m. map.get m client) written ∙ get_inserted t client y)) ∙ connection_here client u

-- ---- a client that is taken out
pub kept_out : (client : List ℕ) (t u : Table) (k l : Listing) → IsKept t k → u ≡ map.remove t client → IsListed u l → IsKept u l
kept_out client t u k l kept gone listed = record {
  listed = listed;
  keyed = each_out (λ c z. z.key.1 ≡ c) client t u kept.keyed gone;
  run = each_out (λ c z. Runs z) client t u kept.run gone;
  told = each_out (λ c z. IsAllTold c z.session) client t u kept.told gone;
}

-- after a fault
pub mended : (client : List ℕ) (t u v : Table) (k l m : Listing) → IsKept t k → IsBroken client t u l → v ≡ map.remove u client → IsListed v m → IsKept v m
mended client t u v k l m kept b gone listed =
    (let none : map.get v client ≡ None = ap (λ n. map.get n client) gone ∙ get_removed u client in
    let same : (q : List ℕ) → eq_by_cmp text_cmp q client ≡ false → map.get v q ≡ map.get t q = λ q apart. ap (λ n. map.get n q) gone ∙ get_left u client q apart ∙ b.others q apart in
    record {
      listed = listed;
      keyed = each_but (λ c z. z.key.1 ≡ c) client t v kept.keyed none same;
      run = each_but (λ c z. Runs z) client t v kept.run none same;
      told = each_but (λ c z. IsAllTold c z.session) client t v kept.told none same;
    })

-- what is said after a fault doesn't speak of the table
pub fault_alone : (client : List ℕ) (e : Event) (on : Option ℕ → Option ℕ) (old : Seats) (fault : SessionFault) (new other : Seats) → IsCalled client e on old (Err fault) new → IsCalled client e on old (Err fault) other
fault_alone client e on old NoMemory new other h = h
fault_alone client e on old NumbersAtEnd new other h = h
fault_alone client e on old Spent new other h = h
fault_alone client e on old BadRow new other h = h

pub out_listed : (client : List ℕ) (t u : Table) (k l : Listing) (x : Seated) → IsListed t k → IsKeyed t → map.get t client ≡ Some x → u ≡ map.remove t client → IsListedAt l x.key.1 no_moments → Relists x.key.1 k l
    → IsListed u l
out_listed client t u k l x listed keyed is gone at others =
    (let name = keyed client x is in
    let P : List ℕ → Type 0 = λ c. IsListedAt l c no_moments in
    let Q : List ℕ → Type 0 = λ c. Relists c k l in
    listed_out client t u k l listed (subst Q name others) gone (subst P name at))

pub still_listed : (client : List ℕ) (t u : Table) (l : Listing) → map.get t client ≡ None → u ≡ map.remove t client → IsListed t l → IsListed u l
still_listed client t u l none gone listed = (let P : Table → Type 0 = λ m. IsListed m l in subst P (sym (gone ∙ remove_absent t client none)) listed)

-- ---- a client that is put in
pub absent_here : (client : List ℕ) (t : Table) (l : Listing) (key : List ℕ) (m : Moments) → IsListed t l → map.get t client ≡ None → key ≡ client → m ≡ no_moments → IsListedAt l key m
absent_here client t l key m listed none name is =
    (let P : Option Seated → Type 0 = λ g. IsListedAt l client (listed_in g) in
    let Q : List ℕ → Type 0 = λ c. IsListedAt l c no_moments in
    let R : Moments → Type 0 = IsListedAt l key in
    subst R (sym is) (subst Q (sym name) (subst P none (listed client))))

pub put_kept : (client : List ℕ) (t u : Table) (k l : Listing) (key : List ℕ) (y : Seated) (m : Moments) → IsKept t k → u ≡ map.insert t client y → key ≡ client → y.key.1 ≡ key → IsListedAt l key y.listed
    → Relists key k l → y.listed ≡ m → IsAllTold client y.session → y.connection ≡ None → IfSome (state_of y.session) (λ s. m ≡ moments_of s None) → IsKept u l
put_kept client t u k l key y m kept written name same at others listed told off are =
    (let P : List ℕ → Type 0 = λ c. IsListedAt l c y.listed in
    let Q : List ℕ → Type 0 = λ c. Relists c k l in
    record {
      listed = listed_put client t u k l y kept.listed (subst Q name others) written (subst P name at);
      keyed = each_put (λ c z. z.key.1 ≡ c) client t u y kept.keyed written (same ∙ name);
      run = each_put (λ c z. Runs z) client t u y kept.run written (by y.session refl told are);
      told = each_put (λ c z. IsAllTold c z.session) client t u y kept.told written told;
    })
  where
    by : (o : Option Saved) → y.session ≡ o → IsAllTold client o → IfSome (state_of o) (λ s. m ≡ moments_of s None) → Runs y
    by None e h a = absurd h
    by (Some x) e h a = (x.tracked.state, ap state_of e, listed ∙ a ∙ ap (moments_of x.tracked.state) (sym off))

pub put_seats : (client : List ℕ) (t u : Table) (y : Seated) → u ≡ map.insert t client y → y.connection ≡ None
    → IfSome (state_of y.session) (λ s. seats_in u ≡ map.insert (seats_in t) client (record { session = s; connection = None }))
put_seats client t u y written off = by (state_of y.session) refl
  where
    by : (o : Option State) → state_of y.session ≡ o → IfSome o (λ s. seats_in u ≡ map.insert (seats_in t) client (record { session = s; connection = None }))
    by None e = tt
    by (Some s) e =
        (let now : Seat = record { session = s; connection = None } in
        let left : seat_of y ≡ now = (λ i. record { session = same_state y s e i; connection = off i }) in
        ap seats_in written ∙ seats_insert t client y ∙ ap (map.insert (seats_in t) client) left)

-- it isn't put in after all
pub put_undone : (client : List ℕ) (t : Table) (k l : Listing) (key : List ℕ) → IsKept t k → map.get t client ≡ None → key ≡ client → Relists key k l → IsListedAt l key no_moments → IsKept t l
put_undone client t k l key kept none name others at =
    (let P : Option Seated → Type 0 = λ g. IsListedAt l client (listed_in g) in
    let Q : List ℕ → Type 0 = λ c. IsListedAt l c no_moments in
    let R : List ℕ → Type 0 = λ c. Relists c k l in
    record {
      listed = listed_again client t t k l kept.listed (subst R name others) (λ q apart. refl) (subst P (sym none) (subst Q name at));
      keyed = kept.keyed;
      run = kept.run;
      told = kept.told;
    })

-- ---- no client
pub kept_empty : (t : Table) (l : Listing) → t ≡ map.empty → l.run_outs ≡ map.empty → l.wills ≡ map.empty → l.ends ≡ map.empty → IsKept t l
kept_empty t l none a b c = record {
  listed = λ client.
      (let P : Option Seated → Type 0 = λ g. IsListedAt l client (listed_in g) in
      subst P (sym (absent client)) (record { run_out = empty_at l.run_outs client a; will = empty_at l.wills client b; end = empty_at l.ends client c }));
  keyed = λ client x is. absurd (let no : None ≡ Some x = sym (absent client) ∙ is in cc);
  run = λ client x is. absurd (let no : None ≡ Some x = sym (absent client) ∙ is in cc);
  told = λ client x is. absurd (let no : None ≡ Some x = sym (absent client) ∙ is in cc);
}
  where
    absent : (client : List ℕ) → map.get t client ≡ None
    absent client = ap (λ m. map.get m client) none ∙ map.get-empty text_cmp client

    empty_at : (dues : Dues) (client : List ℕ) → dues ≡ map.empty → IsAt dues client None
    empty_at dues client e at = ap (λ m. map.contains_key m (at, client)) e ∙ ap is_some (map.get-empty due_cmp (at, client))

-- ---- answers
pub limit_here : (client : List ℕ) (t : Table) (x : Seated) (n : Option ℕ) → Runs x → map.get t client ≡ Some x → IfSome (state_of x.session) (λ s. n ≡ limit_of s.link)
    → n ≡ option_and_then (λ (s : Seat). limit_of s.session.link) (map.get (seats_in t) client)
limit_here client t x n run is h =
    (let Q : Option State → Type 0 = λ o. IfSome o (λ s. n ≡ limit_of s.link) in
    subst Q run.1 h ∙ ap (λ (s : State). limit_of s.link) (sym (same_state x run.0 run.1)) ∙ ap (option_and_then (λ (s : Seat). limit_of s.session.link)) (sym (seat_here client t x is)))

pub topic_here : (N : Type 0) (client : List ℕ) (t : Table) (x : Seated) (alias : ℕ) (o : Option (List ℕ)) → Runs x → map.get t client ≡ Some x → MatchOption (state_of x.session) N (λ s. o ≡ topic_for alias (aliases_of s.link))
    → o ≡ option_and_then (λ (s : Seat). topic_for alias (aliases_of s.session.link)) (map.get (seats_in t) client)
topic_here N client t x alias o run is h =
    (let Q : Option State → Type 0 = λ w. MatchOption w N (λ s. o ≡ topic_for alias (aliases_of s.link)) in
    subst Q run.1 h ∙ ap (λ (s : State). topic_for alias (aliases_of s.link)) (sym (same_state x run.0 run.1)) ∙ ap (option_and_then (λ (s : Seat). topic_for alias (aliases_of s.session.link))) (sym (seat_here client t x is)))

pub will_here : (client : List ℕ) (t : Table) (x : Seated) (n : Option ℕ) → Runs x → map.get t client ≡ Some x → IfSome (state_of x.session) (λ s. n ≡ will_due s.kept)
    → n ≡ option_and_then (λ (s : Seat). will_due s.session.kept) (map.get (seats_in t) client)
will_here client t x n run is h =
    (let Q : Option State → Type 0 = λ o. IfSome o (λ s. n ≡ will_due s.kept) in
    subst Q run.1 h ∙ ap (λ (s : State). will_due s.kept) (sym (same_state x run.0 run.1)) ∙ ap (option_and_then (λ (s : Seat). will_due s.session.kept)) (sym (seat_here client t x is)))

pub end_here : (client : List ℕ) (t : Table) (x : Seated) (n : Option ℕ) → Runs x → map.get t client ≡ Some x → IfSome (state_of x.session) (λ s. n ≡ end_due s.kept)
    → n ≡ option_and_then (λ (s : Seat). end_due s.session.kept) (map.get (seats_in t) client)
end_here client t x n run is h =
    (let Q : Option State → Type 0 = λ o. IfSome o (λ s. n ≡ end_due s.kept) in
    subst Q run.1 h ∙ ap (λ (s : State). end_due s.kept) (sym (same_state x run.0 run.1)) ∙ ap (option_and_then (λ (s : Seat). end_due s.session.kept)) (sym (seat_here client t x is)))

-- the same, where the client was listed meanwhile
pub put_taken_back : (client : List ℕ) (t : Table) (k l m : Listing) (key other : List ℕ) → IsKept t k → map.get t client ≡ None → key ≡ client → Relists key k l → other ≡ key → IsListedAt m other no_moments → Relists other l m
    → IsKept t m
put_taken_back client t k l m key other kept none name first same at then =
    (let P : List ℕ → Type 0 = λ c. IsListedAt m c no_moments in
    let Q : List ℕ → Type 0 = λ c. Relists c l m in
    put_undone client t k m key kept none name (relists_then key k l m first (subst Q same then)) (subst P same at))
