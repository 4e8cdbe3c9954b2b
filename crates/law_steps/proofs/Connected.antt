-- A CONNECT comes to what the laws say, and nothing else.
use Rattle.std.proofs.Common.{◌≡◌, ◌≢◌, ◌⊎◌, inl, inr, ℕ, ◌==◌, nat_lt, Bool, true, false, cond, is_some, length, List, [], ◌∷◌, ◌++◌, Option, Some, None, refl, sym, ap, ◌∙◌, subst, arith}
use Rattle.std.proofs.lemmas.Bool.{eqb-true, eqb-false, ltb-true, ltb-false}
use Rattle.law_maps.proofs.Texts.{get_inserted}
use Rattle.mqtt_packets.specs.declared.connect.Connect.{Connect}
use Rattle.mqtt_packets.specs.declared.packet.Packet.{Packet}
use Rattle.mqtt_packets.specs.declared.packet.Packet.TheVariants as packets
use Rattle.mqtt_packets.specs.Written.{written}
use Rattle.mqtt_sessions.specs.Answers.{disconnect, fits}
use Rattle.mqtt_sessions.specs.Arriving.{has_property}
use Rattle.mqtt_sessions.specs.Reaction.{Reaction}
use Rattle.mqtt_sessions.specs.State.{limit_in}
use Rattle.law_sessions.specs.Runs.{connects, finishes}
use Rattle.session_table.specs.Calls.{moves}
use Rattle.session_table.specs.Seats.{begun}
use Rattle.node_work.specs.declared.outcome.Output.TheVariants.{Send}
use Rattle.node_work.specs.Acts.{Act, Connection, Session, Out, Named, Runs, next}
use Rattle.node_work.specs.Calling.{CallsAt}
use Rattle.node_work.specs.Held.Connections.{Accepted, room_at}
use Rattle.node_work.specs.Held.Sessions.{SessionStep, Begun, Called, connection_at, has_session, seat_at, takes_disconnect}
use Rattle.node_work.specs.Packets.{refused_packet}
use Rattle.node_work.specs.View.{Place, HeldView}
use Rattle.node_work.specs.Working.{Returns, If}
use Rattle.node_clients.specs.Connecting as connecting
use Rattle.node_clients.specs.Ending as ending
use Rattle.node_clients.specs.Naming.{IsNextNumber, automatic}
use Rattle.node_clients.specs.Pieces as pieces
use Rattle.law_runs.proofs.Keeping.{none_some}
use Rattle.law_runs.proofs.Passing.{has_of}
use Rattle.law_runs.proofs.Splits.{left_by}
use Rattle.law_runs.specs.Connects.{HasMethod, HasLongClient, LivesAt, IsKnownAs, IsRefusedBy, IsRefusedFor, IsWelcome}
use Rattle.law_steps.proofs.DueDone.{call}
use Rattle.law_steps.proofs.TakenLaws.{closed}
use Rattle.law_steps.specs.Connects.{TakesOverAlone, CleansAlone, BeginsAlone, AcceptsAlone, ConnectsAlone, FirstAlone}
use Rattle.law_steps.specs.Ending.{ClosesOn, DoesOwn, OwnIsDone}
use Rattle.law_steps.proofs.Ended.{closes_alone, finish_alone}
use Rattle.law_steps.proofs.Packets.{told_same}
use Rattle.law_steps.proofs.Requested.{close_if}

-- ---- a refusal
told_by : (fitting : Bool) (c : ℕ) (packet : Packet) (x : Unit {0}) (p : Place) (h : HeldView) (acts : List Act) → connecting.SendsIf fitting c packet (Some x) p h acts → acts ≡ cond fitting (Out (Send c (written packet)) ∷ []) []
told_by true c packet x p h acts d = d.1
told_by false c packet x p h acts d = d.1

refused : (c : ℕ) (q : Connect) (code : ℕ) (reference : Option (List ℕ)) (x : Unit {0}) (p : Place) (h : HeldView) (acts : List Act) → connecting.RefusesConnect c q code reference (Some x) p h acts → IsRefusedBy c q code reference acts
refused c q code reference x p h acts (inl d) = none_some (sym d.0)
refused c q code reference x p h acts (inr (y, own, mid, rest, one, runs, more, is)) =
    is ∙ (λ i. told_by (fits (limit_in q.properties) (refused_packet code reference)) c (refused_packet code reference) y p h own one i ++ closed c x p mid rest more i)

-- ---- an older connection, and Clean Start
over_alone : (client : List ℕ) (older : Option ℕ) (x : Unit {0}) (p : Place) (h : HeldView) (acts : List Act) → connecting.TakesOverFrom client older (Some x) p h acts → TakesOverAlone p h client older acts
over_alone client None x p h acts d = d.1
over_alone client (Some older) x p h acts (inl d) = none_some (sym d.0)
over_alone client (Some older) x p h acts (inr (y, own, mid, rest, one, ran, more, is)) =
    let b = takes_disconnect client 142 h in
    let told = told_by b older (disconnect 142) y p h own one in
    let same : mid ≡ h = told_same b (Send older (written (disconnect 142))) p h mid (subst (λ zs. Runs p h zs mid) told ran) in
    (rest, is ∙ ap (λ zs. zs ++ rest) told, subst (λ v. ClosesOn p v older client rest) same (closes_alone older client x p mid rest more))

clean_by : (has : Bool) (client : List ℕ) (x : Unit {0}) (p : Place) (h : HeldView) (acts : List Act) → has_session client h ≡ has → If has (ending.Finishes client) (Returns tt) (Some x) p h acts → OwnIsDone finishes p h client acts
clean_by true client x p h acts is d = finish_alone client x p h acts d
clean_by false client x p h acts is d = subst (λ b. cond b (DoesOwn finishes p h client acts) (acts ≡ [])) (sym is) d.1

clean_alone : (clean : Bool) (client : List ℕ) (x : Unit {0}) (p : Place) (h : HeldView) (acts : List Act) → connecting.Cleans clean client (Some x) p h acts → CleansAlone clean p h client acts
clean_alone false client x p h acts d = d.1
clean_alone true client x p h acts d = clean_by (has_session client h) client x p h acts refl d

-- ---- the session's call
record Joined (c : ℕ) (client : List ℕ) (q : Connect) (continued : Bool) (room : Option ℕ) (r : Reaction) (h : HeldView) (acts : List Act) : Type 0 where
  call : SessionStep
  is : acts ≡ cond continued [] (Session (Begun client) ∷ []) ++ Session (Called call) ∷ []
  of : call.client ≡ client
  on : call.on ≡ Some c
  event : call.event ≡ connects q continued room h.at
  reaction : call.reaction ≡ r

joined : (continued : Bool) (c : ℕ) (client : List ℕ) (q : Connect) (room : Option ℕ) (r : Reaction) (p : Place) (h : HeldView) (acts : List Act) → has_session client h ≡ continued → connecting.JoinsBy continued c client q room (Some r) p h acts → Joined c client q continued room r h acts
joined true c client q room r p h acts has d =
    let found = has_of client h has in
    let k = call client (connects q true room) (moves c) found.0 r p h acts (subst (λ f. CallsAt client (connects q true room) (moves c) f (Some r) p h acts) found.1 d) in
    record { call = k.step; is = k.is; of = k.of; on = k.to; event = k.event_is; reaction = k.reaction }
joined false c client q room r p h acts has (inl d) = none_some (sym d.0)
joined false c client q room r p h acts has (inr (y, own, mid, rest, one, runs, more, is)) =
    let a = Session (Begun client) in
    let left : mid ≡ next h a = left_by p h mid a own one.1 runs in
    let found : seat_at client mid ≡ Some (begun client) = ap (λ (v : HeldView). seat_at client v) left ∙ get_inserted h.sessions client (begun client) in
    let k = call client (connects q false room) (moves c) (begun client) r p mid rest (subst (λ f. CallsAt client (connects q false room) (moves c) f (Some r) p mid rest) found more) in
    record { call = k.step; is = is ∙ (λ i. one.1 i ++ k.is i); of = k.of; on = k.to; event = k.event_is ∙ ap (connects q false room) (ap (λ (v : HeldView). v.at) left); reaction = k.reaction }

begins_by : (now : HeldView) (c : ℕ) (client : List ℕ) (q : Connect) (r : Reaction) (x : Unit {0}) (p : Place) (h mid : HeldView) (own rest : List Act) → now ≡ next h (Connection (Accepted c client)) → connecting.Joins c client q (Some r) p now own → Runs p now own mid
    → ending.ClosesAfter r.end c client (Some x) p mid rest → BeginsAlone p h c client q (Connection (Accepted c client) ∷ (own ++ rest))
begins_by now c client q r x p h mid own rest left d ran more =
    let after = next h (Connection (Accepted c client)) in
    let k : Joined c client q (has_session client after) (room_at c after) r after own =
    joined (has_session client after) c client q (room_at c after) r p after own refl (subst (λ v. connecting.Joins c client q (Some r) p v own) left d) in
    record {
      call = k.call;
      own = own;
      rest = rest;
      is = refl;
      joins = k.is;
      of = k.of;
      on = k.on;
      event = k.event;
      left = mid;
      leaves = subst (λ v. Runs p v own mid) left ran;
      closes = subst (λ (v : Reaction). cond (is_some v.end) (ClosesOn p mid c client rest) (rest ≡ [])) (sym k.reaction) (close_if r.end c client x p mid rest more);
    }

begins_alone : (c : ℕ) (client : List ℕ) (q : Connect) (x : Unit {0}) (p : Place) (h : HeldView) (acts : List Act) → connecting.BeginsSession c client q (Some x) p h acts → BeginsAlone p h c client q acts
begins_alone c client q x p h acts (inl d) = none_some (sym d.0)
begins_alone c client q x p h acts (inr (y, own, mid, rest, one, ran, (inl d), is)) = none_some (sym d.0)
begins_alone c client q x p h acts (inr (y, own, mid, rest, one, ran, (inr (r, own2, mid2, rest2, two, ran2, more, is2)), is)) =
    let left : mid ≡ next h (Connection (Accepted c client)) = left_by p h mid (Connection (Accepted c client)) own one.1 ran in
    subst (BeginsAlone p h c client q) (sym (is ∙ (λ i. one.1 i ++ is2 i))) (begins_by mid c client q r x p h mid2 own2 rest2 left two ran2 more)

-- ---- the client is accepted
module _ (c : ℕ) (q : Connect) (client : List ℕ) (p : Place) (start h : HeldView) (named : List Act) (known : IsKnownAs p start q client named) (ran : Runs p start named h) where
  accepted : (x : Unit {0}) (acts : List Act) → connecting.Accepts c q client (Some x) p h acts → AcceptsAlone p start c q (named ++ acts)
  accepted x acts (inl d) = none_some (sym d.0)
  accepted x acts (inr (y, over, mid, rest, one, runs, (inl d), is)) = none_some (sym d.0)
  accepted x acts (inr (y, over, mid, rest, one, runs, (inr (y2, clean, mid2, rest2, two, runs2, more, is2)), is)) = record {
    client = client;
    named = named;
    over = over;
    clean = clean;
    rest = rest2;
    is = ap (λ zs. named ++ zs) (is ∙ ap (λ zs. over ++ zs) is2);
    known = known;
    mid = h;
    runs = ran;
    takes_over = over_alone client (connection_at client h) y p h over one;
    mid2 = mid;
    runs2 = runs;
    cleans = clean_alone q.clean_start client y2 p mid clean two;
    mid3 = mid2;
    runs3 = runs2;
    begins = begins_alone c client q x p mid2 rest2 more;
  }

-- ---- in the order of the refusals
empty : (t : List ℕ) → length t ≡ 0 → t ≡ []
empty [] e = refl
empty (b ∷ bs) e = absurd (omega (arith, e))

as_here : (c : ℕ) (q : Connect) (x : Unit {0}) (p : Place) (h : HeldView) (acts : List Act) → (¬ HasMethod q) → (¬ HasLongClient q) → LivesAt h q p.id → connecting.AcceptsAs c q q.client (Some x) p h acts → ConnectsAlone p h c q acts
as_here c q x p h acts plain short lives (inl d) = inr ((plain, short, inr lives, d.0), accepted c q q.client p h h [] (inl (lives.0, refl, refl)) refl x acts d.1)
as_here c q x p h acts plain short lives (inr d) = inl (144, None, inr (inr (inr (plain, short, inr lives, d.0, refl, refl))), refused c q 144 None x p h acts d.1)

comes : (here : Bool) (c : ℕ) (q : Connect) (node : ℕ) (x : Unit {0}) (p : Place) (h : HeldView) (acts : List Act) → (¬ HasMethod q) → (¬ HasLongClient q) → LivesAt h q node → (node == p.id) ≡ here
    → If here (connecting.AcceptsAs c q q.client) (connecting.Refers c q node) (Some x) p h acts → ConnectsAlone p h c q acts
comes true c q node x p h acts plain short lives is d = as_here c q x p h acts plain short (subst (LivesAt h q) (eqb-true node p.id is) lives) d
comes false c q node x p h acts plain short lives is d =
    inl (156, connecting.address_of h node, inr (inr (inl (plain, short, (node, lives, eqb-false node p.id is, refl, refl)))), refused c q 156 (connecting.address_of h node) x p h acts d)

named_alone : (c : ℕ) (q : Connect) (number : Option ℕ) (x : Unit {0}) (p : Place) (h : HeldView) (acts : List Act) → q.client ≡ [] → IsNextNumber p h number → connecting.NamesBy c q number (Some x) p h acts → AcceptsAlone p h c q acts
named_alone c q None x p h acts none is d = none_some (sym d.0)
named_alone c q (Some number) x p h acts none is (inl d) = none_some (sym d.0)
named_alone c q (Some number) x p h acts none is (inr (y, own, mid, rest, one, runs, more, same)) =
    subst (AcceptsAlone p h c q) (sym same) (accepted c q (automatic p.id number) p h mid own (inr (none, (number, is, refl, one.1))) runs x rest more)

connects_at : (bare : Bool) (c : ℕ) (q : Connect) (x : Unit {0}) (p : Place) (h : HeldView) (acts : List Act) → (¬ HasMethod q) → (¬ HasLongClient q) → (length q.client == 0) ≡ bare → connecting.ConnectsAt bare c q (Some x) p h acts → ConnectsAlone p h c q acts
connects_at true c q x p h acts plain short e (inl d) =
    let none : q.client ≡ [] = empty q.client (eqb-true (length q.client) 0 e) in inr ((plain, short, inl none, d.0), named_alone c q d.1.0 x p h acts none d.1.1 d.1.2)
connects_at true c q x p h acts plain short e (inr d) =
    let none : q.client ≡ [] = empty q.client (eqb-true (length q.client) 0 e) in inl (144, None, inr (inr (inr (plain, short, inl none, d.0, refl, refl))), refused c q 144 None x p h acts d.1)
connects_at false c q x p h acts plain short e (node, home, d) =
    let some : q.client ≢ [] = λ none. eqb-false (length q.client) 0 e (ap length none) in comes (node == p.id) c q node x p h acts plain short (some, home) refl d

connected : (a b : Bool) (c : ℕ) (q : Connect) (x : Unit {0}) (p : Place) (h : HeldView) (acts : List Act) → has_property 21 q.properties ≡ a → nat_lt 256 (length q.client) ≡ b
    → connecting.ConnectsBy (cond a (Some 140) (cond b (Some 133) None)) c q (Some x) p h acts → ConnectsAlone p h c q acts
connected true b c q x p h acts is long d = inl (140, None, inl (is, refl, refl), refused c q 140 None x p h acts d)
connected false true c q x p h acts is long d = inl (133, None, inr (inl ((λ e. (let z : false ≡ true = sym is ∙ e in cc)), ltb-true 256 (length q.client) long, refl, refl)), refused c q 133 None x p h acts d)
connected false false c q x p h acts is long d =
    let plain : ¬ HasMethod q = λ e. (let z : false ≡ true = sym is ∙ e in cc) in
    let few = ltb-false 256 (length q.client) long in
    let short : ¬ HasLongClient q = λ e. omega (arith, few, e) in
    connects_at (length q.client == 0) c q x p h acts plain short refl d

-- ---- the first packet
pub first_alone : (k : Packet) (c : ℕ) (x : Unit {0}) (p : Place) (h : HeldView) (acts : List Act) → pieces.AnswersFirstPacket c k (Some x) p h acts → FirstAlone p h c k acts
first_alone (packets.Connect q) c x p h acts d = connected (has_property 21 q.properties) (nat_lt 256 (length q.client)) c q x p h acts refl refl d
first_alone k c x p h acts d = closed c x p h acts d
