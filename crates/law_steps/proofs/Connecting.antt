-- A CONNECT in the order of its refusals, and a client that is accepted.
use Rattle.std.proofs.Common.{◌≡◌, ◌⊎◌, inl, inr, ℕ, ◌==◌, Bool, true, false, length, List, [], ◌∷◌, ◌++◌, Option, Some, None, refl, sym, ap, ◌∙◌, subst, append_assoc, arith}
use Rattle.std.proofs.lemmas.Bool.{eqb-true}
use Rattle.std.proofs.lemmas.List.{append-nil}
use Rattle.std.specs.FinMap as map
use Rattle.mqtt_packets.specs.declared.connect.Connect.{Connect}
use Rattle.node_work.specs.Acts.{Act, Connection, Named, Runs, next}
use Rattle.node_work.specs.Held.Connections.{ConnectionTable, Accepted, client_at, room_at}
use Rattle.node_work.specs.Held.Sessions.{connection_at, has_session}
use Rattle.node_work.specs.View.{Place, HeldView}
use Rattle.node_work.specs.Working.{If}
use Rattle.node_clients.specs.Connecting as connecting
use Rattle.node_clients.specs.Naming.{automatic}
use Rattle.law_runs.proofs.Keeping.{none_some}
use Rattle.law_runs.proofs.Splits.{left_by}
use Rattle.law_steps.specs.Outputs.{Occasion, SessionsAreOnTheirs, WhyClosed}
use Rattle.law_steps.proofs.Accepting.{IsBare, Overs, Shuts, bare_again, cleans, has_client, joins, others_stay, refuses, still_on, takes_over}
use Rattle.law_steps.proofs.ClosingLaws.{Ending, calm_ends, ending_then, second_runs, closes_after, ended_by}
use Rattle.law_steps.proofs.On.{Right, right_one, right_both, right_again}

-- a client is known by its Client Identifier, or by one that the node gives
abbrev pub IsKnownTo : Connect → List ℕ → Type 0
IsKnownTo q client = (client ≡ q.client) ⊎ (q.client ≡ [])

empty : (t : List ℕ) → length t ≡ 0 → t ≡ []
empty [] e = refl
empty (b ∷ bs) e = absurd (omega (arith, e))

module _ (occasion : Occasion) (c : ℕ) (q : Connect) (shut : Shuts occasion c q) (overs : (client : List ℕ) → IsKnownTo q client → Overs occasion c client) where
  -- from the acceptance on
  begins : (pre : List Act) (client : List ℕ) (x : Unit {0}) (p : Place) (h h' : HeldView) (acts : List Act) → SessionsAreOnTheirs h → IsBare h c → connecting.BeginsSession c client q (Some x) p h acts → Runs p h acts h' → Ending occasion pre p c h h' acts
  begins pre client x p h h' acts on is (inl d) runs = none_some (sym d.0)
  begins pre client x p h h' acts on is (inr (y, own, mid, rest, one, ran, (inl d), all)) runs = none_some (sym d.0)
  begins pre client x p h h' acts on is (inr (y, own, mid, rest, one, ran, (inr (r, own2, mid2, rest2, two, ran2, more, all2)), all)) runs =
      let a = Connection (Accepted c client) in
      let left : mid ≡ next h a = left_by p h mid a own one.1 ran in
      let has : client_at c mid ≡ Some client = ap (client_at c) left ∙ has_client h c client on is in
      let there : SessionsAreOnTheirs mid = subst SessionsAreOnTheirs (sym left) (still_on h c client on is) in
      let first : Ending occasion pre p c h mid own = record {
        right = right_again occasion pre p h (a ∷ []) own one.1 (right_one occasion pre p h a tt);
        ends = record { on = there; others = λ n ne. ap (λ (v : HeldView). map.get v.connections n) left ∙ others_stay h c client on is n ne };
      } in
      let later = second_runs p h mid h' own rest acts all ran runs in
      let j = joins occasion (pre ++ own) (has_session client mid) c client q (room_at c mid) r p mid mid2 own2 there has two ran2 in
      let still : client_at c mid2 ≡ Some client = ap (λ (m : ConnectionTable). client_at c (record mid { connections = m })) j.calm.kept.connections ∙ has in
      let why : (code : ℕ) → r.end ≡ Some code → WhyClosed occasion p ((pre ++ own) ++ own2) mid2 c = λ code ends. (
      let w : WhyClosed occasion p ((((pre ++ own) ++ j.earlier) ++ j.own) ++ []) mid2 c = ended_by occasion p ((pre ++ own) ++ j.earlier) j.own [] mid2 c client r code still j.react ends in
      subst (λ xs. WhyClosed occasion p xs mid2 c) (append-nil (((pre ++ own) ++ j.earlier) ++ j.own) ∙ append_assoc (pre ++ own) j.earlier j.own ∙ ap (λ xs. (pre ++ own) ++ xs) (sym j.is)) w) in
      ending_then occasion pre p c h mid h' own rest acts all ran first
      (ending_then occasion (pre ++ own) p c mid mid2 h' own2 rest2 rest all2 ran2 (calm_ends occasion (pre ++ own) p c mid mid2 own2 j.calm)
      (closes_after occasion ((pre ++ own) ++ own2) r.end c client x p mid2 h' rest2 j.calm.kept.on still why more (second_runs p mid mid2 h' own2 rest2 rest all2 ran2 later)))

  -- a client is accepted: what is left of its connection isn't said where its older connection is another one
  pub record After (pre : List Act) (p : Place) (h h' : HeldView) (acts : List Act) : Type 0 where
    pub right : Right occasion pre p h acts
    pub on : SessionsAreOnTheirs h'

  accepts : (pre : List Act) (client : List ℕ) (x : Unit {0}) (p : Place) (h h' : HeldView) (acts : List Act) → IsKnownTo q client → SessionsAreOnTheirs h → IsBare h c → connecting.Accepts c q client (Some x) p h acts → Runs p h acts h' → After pre p h h' acts
  accepts pre client x p h h' acts known on is (inl d) runs = none_some (sym d.0)
  accepts pre client x p h h' acts known on is (inr (y, own, mid, rest, one, ran, (inl d), all)) runs = none_some (sym d.0)
  accepts pre client x p h h' acts known on is (inr (y, own, mid, rest, one, ran, (inr (y2, own2, mid2, rest2, two, ran2, more, all2)), all)) runs =
      let first = takes_over occasion pre c client (connection_at client h) y p h mid own (overs client known) on is refl one ran in
      let bare : IsBare mid c = bare_again h mid c first.1.1 is in
      let later = second_runs p h mid h' own rest acts all ran runs in
      let second = cleans occasion (pre ++ own) q.clean_start client y2 p mid mid2 own2 first.1.0 two ran2 in
      let still : IsBare mid2 c = bare_again mid mid2 c (ap (λ (m : ConnectionTable). map.get m c) second.kept.connections) bare in
      let third = begins ((pre ++ own) ++ own2) client x p mid2 h' rest2 second.kept.on still more (second_runs p mid mid2 h' own2 rest2 rest all2 ran2 later) in
      record {
        right = right_again occasion pre p h (own ++ rest) acts all (right_both occasion pre p h mid own rest ran first.0
            (right_again occasion (pre ++ own) p mid (own2 ++ rest2) rest all2 (right_both occasion (pre ++ own) p mid mid2 own2 rest2 ran2 second.right third.right)));
        on = third.ends.on;
      }

  refused : (pre : List Act) (code : ℕ) (reference : Option (List ℕ)) (x : Unit {0}) (p : Place) (h h' : HeldView) (acts : List Act) → SessionsAreOnTheirs h → IsBare h c → connecting.RefusesConnect c q code reference (Some x) p h acts → Runs p h acts h' → After pre p h h' acts
  refused pre code reference x p h h' acts on is d runs = let e = refuses occasion pre c q code reference x p h h' acts shut on is d runs in record { right = e.right; on = e.ends.on }

  -- ---- in the order of the refusals
  accepts_as : (pre : List Act) (client : List ℕ) (x : Unit {0}) (p : Place) (h h' : HeldView) (acts : List Act) → IsKnownTo q client → SessionsAreOnTheirs h → IsBare h c → connecting.AcceptsAs c q client (Some x) p h acts → Runs p h acts h' → After pre p h h' acts
  accepts_as pre client x p h h' acts known on is (inl d) runs = accepts pre client x p h h' acts known on is d.1 runs
  accepts_as pre client x p h h' acts known on is (inr d) runs = refused pre 144 None x p h h' acts on is d.1 runs

  names_by : (pre : List Act) (number : Option ℕ) (x : Unit {0}) (p : Place) (h h' : HeldView) (acts : List Act) → q.client ≡ [] → SessionsAreOnTheirs h → IsBare h c → connecting.NamesBy c q number (Some x) p h acts → Runs p h acts h' → After pre p h h' acts
  names_by pre None x p h h' acts none on is d runs = none_some (sym d.0)
  names_by pre (Some number) x p h h' acts none on is (inl d) runs = none_some (sym d.0)
  names_by pre (Some number) x p h h' acts none on is (inr (y, own, mid, rest, one, ran, more, all)) runs =
      let left : mid ≡ next h (Named number) = left_by p h mid (Named number) own one.1 ran in
      let there : SessionsAreOnTheirs mid = subst SessionsAreOnTheirs (sym left) on in
      let bare : IsBare mid c = bare_again h mid c (ap (λ (v : HeldView). map.get v.connections c) left) is in
      let second = accepts (pre ++ own) (automatic p.id number) x p mid h' rest (inr none) there bare more (second_runs p h mid h' own rest acts all ran runs) in
      record {
        right = right_again occasion pre p h (own ++ rest) acts all (right_both occasion pre p h mid own rest ran (right_again occasion pre p h (Named number ∷ []) own one.1 (right_one occasion pre p h (Named number) tt)) second.right);
        on = second.on;
      }

  home_by : (here : Bool) (pre : List Act) (node : ℕ) (x : Unit {0}) (p : Place) (h h' : HeldView) (acts : List Act) → SessionsAreOnTheirs h → IsBare h c
      → If here (connecting.AcceptsAs c q q.client) (connecting.Refers c q node) (Some x) p h acts → Runs p h acts h' → After pre p h h' acts
  home_by true pre node x p h h' acts on is d runs = accepts_as pre q.client x p h h' acts (inl refl) on is d runs
  home_by false pre node x p h h' acts on is d runs = refused pre 156 (connecting.address_of h node) x p h h' acts on is d runs

  connects_at : (bare : Bool) (pre : List Act) (x : Unit {0}) (p : Place) (h h' : HeldView) (acts : List Act) → (length q.client == 0) ≡ bare → SessionsAreOnTheirs h → IsBare h c → connecting.ConnectsAt bare c q (Some x) p h acts → Runs p h acts h' → After pre p h h' acts
  connects_at true pre x p h h' acts e on is (inl d) runs = names_by pre d.1.0 x p h h' acts (empty q.client (eqb-true (length q.client) 0 e)) on is d.1.2 runs
  connects_at true pre x p h h' acts e on is (inr d) runs = refused pre 144 None x p h h' acts on is d.1 runs
  connects_at false pre x p h h' acts e on is (node, home, d) runs = home_by (node == p.id) pre node x p h h' acts on is d runs

  connects_by : (code : Option ℕ) (pre : List Act) (x : Unit {0}) (p : Place) (h h' : HeldView) (acts : List Act) → SessionsAreOnTheirs h → IsBare h c → connecting.ConnectsBy code c q (Some x) p h acts → Runs p h acts h' → After pre p h h' acts
  connects_by (Some code) pre x p h h' acts on is d runs = refused pre code None x p h h' acts on is d runs
  connects_by None pre x p h h' acts on is d runs = connects_at (length q.client == 0) pre x p h h' acts refl on is d runs

  pub connects_right : (pre : List Act) (x : Unit {0}) (p : Place) (h h' : HeldView) (acts : List Act) → SessionsAreOnTheirs h → IsBare h c → connecting.Connects c q (Some x) p h acts → Runs p h acts h' → After pre p h h' acts
  connects_right pre x p h h' acts on is d runs = connects_by (connecting.connect_refusal q) pre x p h h' acts on is d runs
