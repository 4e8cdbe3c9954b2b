-- How a client goes whose home is elsewhere.
use Rattle.std.proofs.Common.{◌≡◌, ◌≢◌, inl, inr, ℕ, Bool, true, false, cond, List, [], ◌∷◌, ◌++◌, Option, Some, None, refl, sym, ap, ◌∙◌, subst, append_assoc}
use Rattle.std.proofs.lemmas.List.{append-nil}
use Rattle.std.specs.FinMap as map
use Rattle.std.specs.FinMap.{nat_cmp-IsAntisymmetric}
use Rattle.std.specs.Cmp.{Equal-is, nat_cmp_total}
use Rattle.std.specs.Ordering.{eq_by_cmp, nat_cmp}
use Rattle.law_maps.proofs.Tables as tables
use Rattle.home_table.specs.Homes.{IsHome}
use Rattle.home_table.specs.Table.{Table}
use Rattle.mqtt_message.specs.Accepted.{accepted_will}
use Rattle.session_table.specs.Seats.{IsElsewhere}
use Rattle.mqtt_packets.specs.Written.{written}
use Rattle.node_work.specs.declared.outcome.Output.TheVariants.{Send, Close}
use Rattle.node_work.specs.Acts.{Act, Connection, Out, Runs, next}
use Rattle.node_work.specs.Doings.{Sends}
use Rattle.node_work.specs.Held.Connections.{Closed}
use Rattle.node_work.specs.Held.Sessions.{connection_at, takes_packet}
use Rattle.node_work.specs.Packets.{moved_packet}
use Rattle.node_work.specs.View.{Place, HeldView}
use Rattle.node_work.specs.Working.{If, Returns}
use Rattle.node_work.proofs.Working.{runs_join}
use Rattle.node_clients.specs.Connecting.{address_of}
use Rattle.node_clients.specs.Ending as endings
use Rattle.node_clients.specs.Moving as moving
use Rattle.law_runs.proofs.Keeping.{none_some}
use Rattle.law_runs.proofs.Splits.{left_by}
use Rattle.law_steps.specs.Going.{IsToldItsHome, IsParted, AsksFor, SessionHasWill, Goes, seat_seen}
use Rattle.law_steps.proofs.Calm.{Has, calmly}
use Rattle.law_steps.proofs.MoveEnding.{Dead, finishes_dead, finishes_gone, second_runs, then_dead, w_parts}

-- ---- what it is told
told_by : (b : Bool) (c : ℕ) (address : List ℕ) (x : Unit {0}) (p : Place) (h : HeldView) (acts : List Act) → If b (Sends c (moved_packet address)) (Returns tt) (Some x) p h acts
    → cond b (acts ≡ Out (Send c (written (moved_packet address))) ∷ []) (acts ≡ [])
told_by true c address x p h acts d = d.1
told_by false c address x p h acts d = d.1

told : (o : Option (List ℕ)) (c : ℕ) (client : List ℕ) (x : Unit {0}) (p : Place) (h : HeldView) (acts : List Act) → moving.RedirectsBy c client o (Some x) p h acts → IsToldItsHome c client h o acts
told None c client x p h acts d = d.1
told (Some address) c client x p h acts d = told_by (takes_packet client (moved_packet address) h) c address x p h acts d

told_same : (o : Option (List ℕ)) (c : ℕ) (client : List ℕ) (p : Place) (h h' : HeldView) (acts : List Act) → IsToldItsHome c client h o acts → Runs p h acts h' → h' ≡ h
told_same None c client p h h' acts t runs = subst (λ xs. Runs p h xs h') t runs
told_same (Some address) c client p h h' acts t runs = by (takes_packet client (moved_packet address) h) t
  where
    by : (b : Bool) → cond b (acts ≡ Out (Send c (written (moved_packet address))) ∷ []) (acts ≡ []) → h' ≡ h
    by true e = left_by p h h' (Out (Send c (written (moved_packet address)))) acts e runs
    by false e = subst (λ xs. Runs p h xs h') e runs

-- ---- its connection is closed
same_number : (a b : ℕ) → eq_by_cmp nat_cmp a b ≡ true → a ≡ b
same_number a b t = nat_cmp-IsAntisymmetric a b ((Equal-is (nat_cmp a b)).0 t)

apart_number : (q c : ℕ) → q ≢ c → eq_by_cmp nat_cmp q c ≡ false
apart_number q c ne = by (eq_by_cmp nat_cmp q c) refl
  where
    by : (b : Bool) → eq_by_cmp nat_cmp q c ≡ b → eq_by_cmp nat_cmp q c ≡ false
    by true e = absurd (ne (same_number q c e))
    by false e = e

pub record IsClosed (c : ℕ) (h h' : HeldView) (acts : List Act) : Type 0 where
  pub is : acts ≡ Connection (Closed c) ∷ Out (Close c) ∷ []
  pub left : h' ≡ next h (Connection (Closed c))

closes : (c : ℕ) (x : Unit {0}) (p : Place) (h h' : HeldView) (acts : List Act) → endings.ClosesConnection c (Some x) p h acts → Runs p h acts h' → IsClosed c h h' acts
closes c x p h h' acts (inl d) runs = none_some (sym d.0)
closes c x p h h' acts (inr (y, own, mid, rest, one, ran, more, is)) runs = record {
  is = is ∙ (λ i. one.1 i ++ more.1 i);
  left = left_by p mid h' (Out (Close c)) rest more.1 (second_runs p h mid h' own rest acts is ran runs) ∙ left_by p h mid (Connection (Closed c)) own one.1 ran;
}

closed_others : (h : HeldView) (c q : ℕ) → q ≢ c → map.get (next h (Connection (Closed c))).connections q ≡ map.get h.connections q
closed_others h c q ne = tables.get_left nat_cmp_total h.connections c q (apart_number q c ne)

-- ---- the parts of its going
module _ (p : Place) (client : List ℕ) where
  -- its connection, if it has one, is closed before its session ends
  pub record Parted (h : HeldView) (acts : List Act) (h' : HeldView) : Type 0 where
    pub parted : IsParted p client h (connection_at client h) acts
    pub moment : h'.at ≡ h.at
    pub homes : h'.homes ≡ h.homes
    pub sessions : h'.sessions ≡ h.sessions
    pub connections : (c : ℕ) → connection_at client h ≢ Some c → map.get h'.connections c ≡ map.get h.connections c

  -- what it is told, before the close
  pub record IsSentTold (c : ℕ) (h : HeldView) (said : List Act) : Type 0 where
    pub home : ℕ
    pub is_home : IsHome h.homes client home
    pub other : home ≢ p.id
    pub is_told : IsToldItsHome c client h (address_of h home) said

  goes_by : (h h1 h' : HeldView) (parting rest acts : List Act) → Runs p h parting h1 → Parted h parting h1 → Dead client p h1 rest h' → acts ≡ parting ++ rest → Goes p client h acts h'
  goes_by h h1 h' parting rest acts ran a d is =
      let calm = calmly client p d.ending h1 d.mid d.ends d.runs in
      record {
        parting = parting;
        ending = d.ending;
        removing = d.removing;
        is = is ∙ ap (λ zs. parting ++ zs) d.is;
        parted = a.parted;
        ends = d.ends;
        will = λ w id own. (
            let there : SessionHasWill client w id h1 = record { seat = own.seat; at = ap (λ m. map.get m client) a.sessions ∙ own.at; will = own.will; id_is = own.id_is } in
            subst (λ n. AsksFor client (accepted_will w id n) d.ending) a.moment (d.will w id there));
        mid = d.mid;
        runs = runs_join p parting d.ending h h1 d.mid ran d.runs;
        same = calm.homes ∙ a.homes;
        removed = d.removed;
        leaves = record {
          gone = d.left.gone;
          moment = d.left.moment ∙ calm.moment ∙ a.moment;
          homes = d.left.homes ∙ calm.homes ∙ a.homes;
          sessions = λ q ne. d.left.sessions q ne ∙ calm.sessions q ne ∙ ap (λ m. seat_seen q (record h { sessions = m })) a.sessions;
          connections = λ c ne. ap (λ m. map.get m c) (d.left.connections ∙ calm.connections) ∙ a.connections c ne;
        };
      }

  -- where it is on no connection
  pub parted_none : (h : HeldView) → connection_at client h ≡ None → Parted h [] h
  parted_none h at = record { parted = subst (λ o. IsParted p client h o []) (sym at) refl; moment = refl; homes = refl; sessions = refl; connections = λ c ne. refl }

  parted_some : (c : ℕ) (h h1 h' : HeldView) (said closing acts : List Act) → connection_at client h ≡ Some c → IsSentTold c h said → h1 ≡ h → IsClosed c h1 h' closing → acts ≡ said ++ closing → Parted h acts h'
  parted_some c h h1 h' said closing acts at sent same closed is =
      let left : h' ≡ next h (Connection (Closed c)) = closed.left ∙ ap (λ v. next v (Connection (Closed c))) same in
      record {
        parted = subst (λ o. IsParted p client h o acts) (sym at) (record { home = sent.home; is_home = sent.is_home; other = sent.other; told = said; is_told = sent.is_told; is = is ∙ ap (λ xs. said ++ xs) closed.is });
        moment = ap (λ (v : HeldView). v.at) left;
        homes = ap (λ (v : HeldView). v.homes) left;
        sessions = ap (λ (v : HeldView). v.sessions) left;
        connections = λ q ne. ap (λ (v : HeldView). map.get v.connections q) left ∙ closed_others h c q (λ e. ne (at ∙ ap Some (sym e)));
      }

  -- ---- all of it
  -- its session ends with its close, or after it
  ends_then : (y x : Unit {0}) (h mid h' : HeldView) (parting rest : List Act) → Has client h → IsElsewhere h.homes p.id client → endings.Parts client (Some y) p h parting → Runs p h parting mid → endings.Finishes client (Some x) p mid rest → Runs p mid rest h'
      → Dead client p h (parting ++ rest) h'
  ends_then y x h mid h' parting rest has elsewhere first ran more later = elim ((w_parts client p).there y h mid parting first ran has elsewhere) [
    | inl a ↦ (
        let away : IsElsewhere mid.homes p.id client = subst (λ (t : Table). IsElsewhere t p.id client) (sym (calmly client p parting h mid a.ends ran).homes) elsewhere in
        then_dead client p h mid h' parting rest ran a (finishes_dead client p x mid h' rest more later a.has away))
    | inr a ↦ (
        let none : rest ≡ [] = finishes_gone client p x mid rest more a.left.gone in
        let same : h' ≡ mid = subst (λ xs. Runs p mid xs h') none later in
        subst (λ xs. Dead client p h xs h') (sym (ap (λ xs. parting ++ xs) none ∙ append-nil parting)) (subst (Dead client p h parting) (sym same) a))
  ]

  -- it is told, its connection is closed, and its session ends
  on_connection : (c : ℕ) (y x : Unit {0}) (h mid h' : HeldView) (own rest acts : List Act) → Has client h → IsElsewhere h.homes p.id client → connection_at client h ≡ Some c → moving.PartsOn client (Some c) (Some y) p h own → Runs p h own mid
      → endings.Finishes client (Some x) p mid rest → Runs p mid rest h' → acts ≡ own ++ rest → Goes p client h acts h'
  on_connection c y x h mid h' own rest acts has elsewhere at (inl d) ran more later is = none_some (sym d.0)
  on_connection c y x h mid h' own rest acts has elsewhere at (inr (z, saying, m1, closing, says, ran1, (inl d), whole)) ran more later is = none_some (sym d.0)
  on_connection c y x h mid h' own rest acts has elsewhere at (inr (z, saying, m1, closing, (home, is_home, says), ran1, (inr (u, shut, m2, parting, first, ran2, second, all)), whole)) ran more later is =
      let is_told : IsToldItsHome c client h (address_of h home) saying = told (address_of h home) c client z p h saying says in
      let same : m1 ≡ h = told_same (address_of h home) c client p h m1 saying is_told ran1 in
      let later1 : Runs p m1 closing mid = second_runs p h m1 mid saying closing own whole ran1 ran in
      let later2 : Runs p m2 parting mid = second_runs p m1 m2 mid shut parting closing all ran2 later1 in
      let sent : IsSentTold c h saying = record { home = home; is_home = is_home; other = λ e. elsewhere (subst (IsHome h.homes client) e is_home); is_told = is_told } in
      let a : Parted h (saying ++ shut) m2 = parted_some c h m1 m2 saying shut (saying ++ shut) at sent same (closes c u p m1 m2 shut first ran2) refl in
      let there : Has client m2 = (has.0, ap (λ m. map.get m client) a.sessions ∙ has.1) in
      let still : IsElsewhere m2.homes p.id client = subst (λ (t : Table). IsElsewhere t p.id client) (sym a.homes) elsewhere in
      goes_by h m2 h' (saying ++ shut) (parting ++ rest) acts (runs_join p saying shut h m1 m2 ran1 ran2) a (ends_then y x m2 mid h' parting rest there still second later2 more later)
      (is ∙ ap (λ xs. xs ++ rest) (whole ∙ ap (λ xs. saying ++ xs) all ∙ sym (append_assoc saying shut parting)) ∙ append_assoc (saying ++ shut) parting rest)

  goes_from : (o : Option ℕ) (y x : Unit {0}) (h mid h' : HeldView) (own rest acts : List Act) → Has client h → IsElsewhere h.homes p.id client → connection_at client h ≡ o → moving.PartsOn client o (Some y) p h own → Runs p h own mid
      → endings.Finishes client (Some x) p mid rest → Runs p mid rest h' → acts ≡ own ++ rest → Goes p client h acts h'
  goes_from None y x h mid h' own rest acts has elsewhere at d ran more later is =
      let same : mid ≡ h = subst (λ xs. Runs p h xs mid) d.1 ran in
      let more_here : endings.Finishes client (Some x) p h rest = subst (λ v. endings.Finishes client (Some x) p v rest) same more in
      goes_by h h h' [] rest acts refl (parted_none h at) (finishes_dead client p x h h' rest more_here (subst (λ v. Runs p v rest h') same later) has elsewhere) (is ∙ ap (λ xs. xs ++ rest) d.1)
  goes_from (Some c) y x h mid h' own rest acts has elsewhere at d ran more later is = on_connection c y x h mid h' own rest acts has elsewhere at d ran more later is

  -- a client with a session whose home is elsewhere
  pub goes : (x : Unit {0}) (h h' : HeldView) (acts : List Act) → Has client h → IsElsewhere h.homes p.id client → moving.MovesAway client (Some x) p h acts → Runs p h acts h' → Goes p client h acts h'
  goes x h h' acts has elsewhere (inl d) runs = none_some (sym d.0)
  goes x h h' acts has elsewhere (inr (y, own, mid, rest, one, ran, more, is)) runs =
      goes_from (connection_at client h) y x h mid h' own rest acts has elsewhere refl one ran more (second_runs p h mid h' own rest acts is ran runs) is
