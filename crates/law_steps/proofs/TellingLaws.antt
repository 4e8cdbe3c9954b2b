-- To whom a node sends something as clients go.
use Rattle.std.proofs.Common.{◌≡◌, ◌≢◌, inl, inr, ℕ, Bool, true, false, cond, List, [], ◌∷◌, ◌++◌, map as map_list, Option, Some, None, refl, sym, ap, ◌∙◌, subst, append_assoc}
use Rattle.std.specs.FinMap as map
use Rattle.std.specs.List.{AllByRecursion}
use Rattle.std.specs.Option.{option_map}
use Rattle.std.specs.Prelude.{option_and_then}
use Rattle.home_table.specs.Homes.{IsHome}
use Rattle.home_table.specs.Table.{Table}
use Rattle.mqtt_packets.specs.Written.{written}
use Rattle.mqtt_sessions.specs.State.{Kept}
use Rattle.session_table.specs.Seats.{Seat, IsElsewhere}
use Rattle.subscription_set.specs.Standing.{any_below}
use Rattle.node_work.specs.declared.outcome.Output.{Output}
use Rattle.node_work.specs.declared.outcome.Output.TheVariants.{Send, Close, Frame as Release}
use Rattle.node_work.specs.Acts.{Act, MomentTaken, Began, Moved, Store, Made, Connection, Session, Bridge, Out, Named, Acknowledged, Passed, Dropped, Runs}
use Rattle.node_work.specs.Held.Bridge.{BridgeAct, Put, Took, Got, Believed, Greeted, Gave, Left_out}
use Rattle.node_work.specs.Held.Connections.{ConnectionAct, Opened, Fed, Accepted, Roomed, Closed}
use Rattle.node_work.specs.Held.Making.{removal_below}
use Rattle.node_work.specs.Held.Sessions.{Over, connection_at, seat_at, takes_packet}
use Rattle.node_work.specs.Packets.{moved_packet}
use Rattle.node_work.specs.View.{Place, HeldView}
use Rattle.node_work.proofs.Working.{runs_join}
use Rattle.node_clients.specs.Connecting.{address_of}
use Rattle.law_runs.specs.StepSending.{IsIn}
use Rattle.law_steps.specs.Going.{Goes, IsOfEnding, IsParted, IsToldItsHome, seat_seen, seen_in}
use Rattle.law_steps.specs.Tables.{GoInTurn}
use Rattle.law_steps.specs.Telling.{HasHomeElsewhere, IsSentOnAmong, TellsHome, IsForThem, ClientsAreSentOn}
use Rattle.law_steps.proofs.Calm.{Has}
use Rattle.law_steps.proofs.EachAct.{are_both}
use Rattle.law_steps.proofs.Keys.{Apart, key_in, keys_apart, keys_seated, selected_all, selected_apart, selected_in}
use Rattle.law_steps.proofs.Turn.{AreAway, still_away}

-- ---- the connection that is seen of a session
abbrev connection_in : Option (Option ℕ × Kept) → Option ℕ
connection_in o = option_and_then (λ (x : Option ℕ × Kept). x.0) o

connection_seen : (o : Option Seat) → option_and_then (λ (s : Seat). s.connection) o ≡ connection_in (option_map seen_in o)
connection_seen None = refl
connection_seen (Some seat) = refl

same_connection : (q : List ℕ) (h h' : HeldView) → seat_seen q h' ≡ seat_seen q h → connection_at q h' ≡ connection_at q h
same_connection q h h' is = connection_seen (seat_at q h') ∙ ap connection_in is ∙ sym (connection_seen (seat_at q h))

has_by : (q : List ℕ) (h : HeldView) (c : ℕ) → connection_at q h ≡ Some c → Has q h
has_by q h c on = by (seat_at q h) refl on
  where
    by : (o : Option Seat) → seat_at q h ≡ o → option_and_then (λ (s : Seat). s.connection) o ≡ Some c → Has q h
    by None at e = absurd (let z : None ≡ Some c = e in cc)
    by (Some seat) at e = (seat, at)

-- ---- those that go later go from the connection that they were on
module _ (p : Place) (client : List ℕ) (h mid : HeldView) (own : List Act) (g : Goes p client h own mid) where
  goes_back : (c : ℕ) (q : List ℕ) → HasHomeElsewhere p mid c q → HasHomeElsewhere p h c q
  goes_back c q on =
      let has = has_by q mid c on.on in
      let other : q ≢ client = λ e. (let z : None ≡ Some has.0 = sym g.leaves.gone ∙ ap (λ k. seat_at k mid) (sym e) ∙ has.1 in cc) in
      record { on = sym (same_connection q h mid (g.leaves.sessions q other)) ∙ on.on; elsewhere = subst (λ (t : Table). IsElsewhere t p.id q) g.leaves.homes on.elsewhere }

  tells_back : (q bytes : List ℕ) → TellsHome p mid q bytes → TellsHome p h q bytes
  tells_back q bytes t = record {
    home = t.home;
    is_home = subst (λ (x : Table). IsHome x q t.home) g.leaves.homes t.is_home;
    other = t.other;
    address = t.address;
    at = ap (λ (x : Table). address_of (record h { homes = x }) t.home) (sym g.leaves.homes) ∙ t.at;
    is = t.is;
  }

  out_back : (o : Output) → IsForThem p mid (Out o) → IsForThem p h (Out o)
  out_back (Send c bytes) x = (x.0, goes_back c x.0 x.1, tells_back x.0 bytes x.2)
  out_back (Close c) x = (x.0, goes_back c x.0 x.1)
  out_back (Release f) x = absurd x

  connection_back : (a : ConnectionAct) → IsForThem p mid (Connection a) → IsForThem p h (Connection a)
  connection_back (Closed c) x = (x.0, goes_back c x.0 x.1)
  connection_back (Opened c) x = absurd x
  connection_back (Fed c piece) x = absurd x
  connection_back (Accepted c q) x = absurd x
  connection_back (Roomed c bytes) x = absurd x

  bridge_back : (a : BridgeAct) → IsForThem p mid (Bridge a) → IsForThem p h (Bridge a)
  bridge_back (Gave f) x = absurd x
  bridge_back (Put peer m) x = tt
  bridge_back (Took peer number m copies lost) x = tt
  bridge_back (Got peer number) x = tt
  bridge_back (Believed peer dots) x = tt
  bridge_back (Greeted peer g) x = tt
  bridge_back (Left_out what) x = tt

  act_back : (a : Act) → IsForThem p mid a → IsForThem p h a
  act_back (Out o) x = out_back o x
  act_back (Connection a) x = connection_back a x
  act_back (Bridge a) x = bridge_back a x
  act_back (MomentTaken at) x = tt
  act_back Began x = tt
  act_back (Moved homes) x = tt
  act_back (Store a) x = tt
  act_back (Session a) x = tt
  act_back (Named number) x = tt
  act_back (Acknowledged q packet at grants offers) x = tt
  act_back (Passed m copies lost routes) x = tt
  act_back Dropped x = tt

  all_back : (acts : List Act) → AllByRecursion (IsForThem p mid) acts → AllByRecursion (IsForThem p h) acts
  all_back [] all = tt
  all_back (a ∷ acts) all = (act_back a all.0, all_back acts all.1)

-- ---- the acts of one client
module _ (p : Place) (client : List ℕ) (h : HeldView) (elsewhere : IsElsewhere h.homes p.id client) where
  told_for : (c home : ℕ) (o : Option (List ℕ)) (told : List Act) → connection_at client h ≡ Some c → IsHome h.homes client home → home ≢ p.id → address_of h home ≡ o → IsToldItsHome c client h o told → AllByRecursion (IsForThem p h) told
  told_for c home None told on is_home other at t = subst (AllByRecursion (IsForThem p h)) (sym t) tt
  told_for c home (Some address) told on is_home other at t = by (takes_packet client (moved_packet address) h) t
    where
      by : (b : Bool) → cond b (told ≡ Out (Send c (written (moved_packet address))) ∷ []) (told ≡ []) → AllByRecursion (IsForThem p h) told
      by true e = subst (AllByRecursion (IsForThem p h)) (sym e)
          ((client, record { on = on; elsewhere = elsewhere }, record { home = home; is_home = is_home; other = other; address = address; at = at; is = refl }), tt)
      by false e = subst (AllByRecursion (IsForThem p h)) (sym e) tt

  parted_for : (o : Option ℕ) (acts : List Act) → connection_at client h ≡ o → IsParted p client h o acts → AllByRecursion (IsForThem p h) acts
  parted_for None acts on d = subst (AllByRecursion (IsForThem p h)) (sym d) tt
  parted_for (Some c) acts on d =
      let there : HasHomeElsewhere p h c client = record { on = on; elsewhere = elsewhere } in
      subst (AllByRecursion (IsForThem p h)) (sym d.is)
      (are_both (IsForThem p h) d.told (Connection (Closed c) ∷ Out (Close c) ∷ []) (told_for c d.home (address_of h d.home) d.told on d.is_home d.other refl d.is_told) ((client, there), ((client, there), tt)))

  bridge_for : (a : BridgeAct) → IsOfEnding client (Bridge a) → IsForThem p h (Bridge a)
  bridge_for (Put peer m) kind = tt
  bridge_for (Left_out what) kind = tt
  bridge_for (Took peer number m copies lost) kind = absurd kind
  bridge_for (Got peer number) kind = absurd kind
  bridge_for (Believed peer dots) kind = absurd kind
  bridge_for (Greeted peer g) kind = absurd kind
  bridge_for (Gave f) kind = absurd kind

  ending_for : (acts : List Act) → AllByRecursion (IsOfEnding client) acts → AllByRecursion (IsForThem p h) acts
  ending_for [] kind = tt
  ending_for (a ∷ acts) kind = (one a kind.0, ending_for acts kind.1)
    where
      one : (a : Act) → IsOfEnding client a → IsForThem p h a
      one (Out o) kind = absurd kind
      one (Connection a) kind = absurd kind
      one (Bridge a) kind = bridge_for a kind
      one (MomentTaken at) kind = tt
      one Began kind = tt
      one (Moved homes) kind = tt
      one (Store a) kind = tt
      one (Session a) kind = tt
      one (Named number) kind = tt
      one (Acknowledged q packet at grants offers) kind = tt
      one (Passed m copies lost routes) kind = tt
      one Dropped kind = tt

  removed_for : (some : Bool) (mid : HeldView) (removing : List Act) → cond some (removing ≡ Store (Made (removal_below p.id client mid.homes.version mid.store)) ∷ []) (removing ≡ []) → AllByRecursion (IsForThem p h) removing
  removed_for true mid removing is = subst (AllByRecursion (IsForThem p h)) (sym is) (tt, tt)
  removed_for false mid removing is = subst (AllByRecursion (IsForThem p h)) (sym is) tt

  goes_for : (h' : HeldView) (acts : List Act) → Goes p client h acts h' → AllByRecursion (IsForThem p h) acts
  goes_for h' acts g =
      let Q = IsForThem p h in
      let removed = removed_for (any_below client g.mid.homes.version g.mid.store.subscriptions) g.mid g.removing g.removed in
      subst (AllByRecursion Q) (sym g.is)
      (are_both Q g.parting (g.ending ++ (g.removing ++ Session (Over client) ∷ [])) (parted_for (connection_at client h) g.parting refl g.parted)
      (are_both Q g.ending (g.removing ++ Session (Over client) ∷ []) (ending_for g.ending g.ends) (are_both Q g.removing (Session (Over client) ∷ []) removed (tt, tt))))

  sent_first : (h' : HeldView) (own rest : List Act) (c : ℕ) → Goes p client h own h' → connection_at client h ≡ Some c → IsSentOnAmong p h (own ++ rest) c client
  sent_first h' own rest c g on = record {
    before = [];
    own = g.parting;
    after = (g.ending ++ (g.removing ++ Session (Over client) ∷ [])) ++ rest;
    is = ap (λ xs. xs ++ rest) g.is ∙ append_assoc g.parting (g.ending ++ (g.removing ++ Session (Over client) ∷ [])) rest;
    mid = h;
    runs = refl;
    sent = subst (λ o. IsParted p client h o g.parting) on g.parted;
  }

sent_later : (p : Place) (h mid : HeldView) (own rest : List Act) (c : ℕ) (q : List ℕ) → Runs p h own mid → IsSentOnAmong p mid rest c q → IsSentOnAmong p h (own ++ rest) c q
sent_later p h mid own rest c q ran s = record {
  before = own ++ s.before;
  own = s.own;
  after = s.after;
  is = ap (λ xs. own ++ xs) s.is ∙ sym (append_assoc own s.before (s.own ++ s.after));
  mid = s.mid;
  runs = runs_join p own s.before h mid s.mid ran s.runs;
  sent = s.sent;
}

-- ---- one after the other
not_in : (q client : List ℕ) (clients : List (List ℕ)) → AllByRecursion (λ (y : List ℕ). y ≢ client) clients → IsIn q clients → q ≢ client
not_in q client [] apart there same = absurd there
not_in q client (x ∷ xs) apart (inl e) same = apart.0 (e ∙ same)
not_in q client (x ∷ xs) apart (inr i) same = not_in q client xs apart.1 i same

each_sent : (p : Place) (clients : List (List ℕ)) (h last : HeldView) (acts : List Act) → Apart clients → AreAway p h clients → GoInTurn p clients h acts last → (q : List ℕ) (c : ℕ) → IsIn q clients → connection_at q h ≡ Some c → IsSentOnAmong p h acts c q
each_sent p [] h last acts apart away d q c there on = absurd there
each_sent p (client ∷ clients) h last acts apart away (own, mid, rest, is, ran, g, more) q c (inl e) on =
    subst (λ xs. IsSentOnAmong p h xs c q) (sym is) (subst (λ k. IsSentOnAmong p h (own ++ rest) c k) e (sent_first p client h away.0.0 mid own rest c g (ap (λ k. connection_at k h) e ∙ on)))
each_sent p (client ∷ clients) h last acts apart away (own, mid, rest, is, ran, g, more) q c (inr i) on =
    let other : q ≢ client = not_in q client clients apart.0 i in
    let there : connection_at q mid ≡ Some c = same_connection q h mid (g.leaves.sessions q other) ∙ on in
    subst (λ xs. IsSentOnAmong p h xs c q) (sym is)
    (sent_later p h mid own rest c q ran (each_sent p clients mid last rest apart.1 (still_away p client h mid clients g.leaves.homes g.leaves.sessions apart.0 away.1) more q c i there))

all_for : (p : Place) (clients : List (List ℕ)) (h last : HeldView) (acts : List Act) → Apart clients → AreAway p h clients → GoInTurn p clients h acts last → AllByRecursion (IsForThem p h) acts
all_for p [] h last acts apart away d = subst (AllByRecursion (IsForThem p h)) (sym d.0) tt
all_for p (client ∷ clients) h last acts apart away (own, mid, rest, is, ran, g, more) =
    subst (AllByRecursion (IsForThem p h)) (sym is) (are_both (IsForThem p h) own rest (goes_for p client h away.0.0 mid own g)
    (all_back p client h mid own g rest (all_for p clients mid last rest apart.1 (still_away p client h mid clients g.leaves.homes g.leaves.sessions apart.0 away.1) more)))

others_stay : (p : Place) (clients : List (List ℕ)) (h last : HeldView) (acts : List Act) → Apart clients → AreAway p h clients → GoInTurn p clients h acts last → (c : ℕ) → ((q : List ℕ) → HasHomeElsewhere p h c q → ⊥) → map.get last.connections c ≡ map.get h.connections c
others_stay p [] h last acts apart away d c none = ap (λ (v : HeldView). map.get v.connections c) d.1
others_stay p (client ∷ clients) h last acts apart away (own, mid, rest, is, ran, g, more) c none =
    others_stay p clients mid last rest apart.1 (still_away p client h mid clients g.leaves.homes g.leaves.sessions apart.0 away.1) more c (λ q on. none q (goes_back p client h mid own g c q on))
    ∙ g.leaves.connections c (λ on. none client (record { on = on; elsewhere = away.0.0 }))

pub clients_are_sent_on : ClientsAreSentOn
clients_are_sent_on = λ p h last acts s. (
    let keys = map_list (λ e. e.0) (map.entries h.sessions) in
    let apart : Apart s.away = selected_apart (IsElsewhere h.homes p.id) keys s.away s.are (keys_apart h.sessions) in
    let away : AreAway p h s.away = selected_all (IsElsewhere h.homes p.id) (λ q. Has q h) keys s.away s.are (keys_seated h.sessions) in
    record {
      each = λ client c on. (
          let has = has_by client h c on.on in
          each_sent p s.away h last acts apart away s.go client c (selected_in (IsElsewhere h.homes p.id) keys s.away client s.are (key_in h.sessions client has.0 has.1) on.elsewhere) on.on);
      alone = all_for p s.away h last acts apart away s.go;
      others = λ c none. others_stay p s.away h last acts apart away s.go c none;
    })
