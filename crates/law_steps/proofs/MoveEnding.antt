-- How a session ends of a client whose home is elsewhere: act by act, until it is over.
use Rattle.std.proofs.Common.{◌≡◌, ◌≢◌, ◌⊎◌, inl, inr, ℕ, ◌==◌, ◌+◌, ◌*◌, min, nat_le, Bool, true, false, cond, List, [], ◌∷◌, ◌++◌, Option, Some, None, refl, sym, ap, ◌∙◌, subst, append_assoc, arith, unwrap_or}
use Rattle.std.proofs.lemmas.List.{append-nil}
use Rattle.std.proofs.lemmas.Bool.Decides.{nat_tests}
use Rattle.std.specs.List.{AllByRecursion}
use Rattle.std.specs.Option.{option_map}
use Rattle.std.specs.Ordering.{eq_by_cmp}
use Rattle.law_maps.proofs.Texts.{same_text, get_inserted, get_removed, get_left}
use Rattle.home_table.specs.Homes.{IsHome}
use Rattle.home_table.specs.Table.{Table}
use Rattle.mqtt_message.specs.declared.message.Message.{Message}
use Rattle.mqtt_message.specs.Accepted.{accepted_will}
use Rattle.mqtt_fields.specs.Properties.{first_four}
use Rattle.mqtt_message.specs.Expiry.{first_of, session_end}
use Rattle.mqtt_packets.specs.declared.connect.Will.{Will}
use Rattle.mqtt_sessions.specs.declared.kept.Phase.{Phase}
use Rattle.mqtt_sessions.specs.declared.kept.Phase.TheVariants as phases
use Rattle.mqtt_sessions.specs.declared.reaction.Ask.TheVariants.{Pass}
use Rattle.mqtt_sessions.specs.Ending.{ask_of, end_by, end_due, finished, has_run_out, is_due, message_of, ticked, ticked_if, timed_out, will_by, will_due}
use Rattle.mqtt_sessions.specs.Reaction.{Reaction, Outcome, Comes, nothing}
use Rattle.mqtt_sessions.specs.State.{Kept, Link, State}
use Rattle.law_sessions.specs.Runs.{Event, closes, ticks, finishes, Reacts}
use Rattle.session_table.specs.Calls.{stays, leaves}
use Rattle.session_table.specs.Listing.{text_cmp}
use Rattle.session_table.specs.Seats.{Seat, IsElsewhere}
use Rattle.subscription_set.specs.Standing.{any_below}
use Rattle.node_work.specs.Acts.{Act, Store, Made, Session, Runs, next}
use Rattle.node_work.specs.Calling.{Calls, CallsAt}
use Rattle.node_work.specs.Doings.{MakesRemoveBelow}
use Rattle.node_work.specs.Held.Making.{number_at_end, removal_below}
use Rattle.node_work.specs.Held.Sessions.{SessionStep, Called, Over, seat_at, will_is_due, end_is_due}
use Rattle.node_work.specs.View.{Place, HeldView}
use Rattle.node_work.specs.Working.{Doing, Returns, Looks, If, Then}
use Rattle.node_work.proofs.Working.{runs_join}
use Rattle.node_clients.specs.Ending as endings
use Rattle.node_clients.proofs.Determined.{runs_determined}
use Rattle.law_runs.proofs.Keeping.{none_some}
use Rattle.law_runs.proofs.Passing.{numbered}
use Rattle.law_runs.proofs.Splits.{left_by, runs_split}
use Rattle.law_steps.specs.Going.{MayEnd, MayPublish, IsOfEnding, AsksFor, SessionHasWill, OlderAreRemoved, seat_seen, seen_in}
use Rattle.law_steps.proofs.Calm.{Has, IsPassing, calmly, passing_ends, passing_seen, will_stays}
use Rattle.law_steps.proofs.EachAct.{Kind, are_both, passes_asked}

-- ---- two parts of some acts
pub second_runs : (p : Place) (h mid h' : HeldView) (own rest acts : List Act) → acts ≡ own ++ rest → Runs p h own mid → Runs p h acts h' → Runs p mid rest h'
second_runs p h mid h' own rest acts is ran runs =
    let both = runs_split p own rest h h' (subst (λ xs. Runs p h xs h') is runs) in subst (λ v. Runs p v rest h') (runs_determined p own h both.0 mid both.1 ran) both.2

pub asks_after : (client : List ℕ) (m : Message) (xs ys : List Act) → AsksFor client m ys → AsksFor client m (xs ++ ys)
asks_after client m xs ys a = record {
  before = xs ++ a.before;
  call = a.call;
  after = a.after;
  is = ap (λ zs. xs ++ zs) a.is ∙ sym (append_assoc xs a.before (Session (Called a.call) ∷ a.after));
  same = a.same;
  event = a.event;
  asks = a.asks;
}

pub asks_before : (client : List ℕ) (m : Message) (xs ys : List Act) → AsksFor client m xs → AsksFor client m (xs ++ ys)
asks_before client m xs ys a = record {
  before = a.before;
  call = a.call;
  after = a.after ++ ys;
  is = ap (λ zs. zs ++ ys) a.is ∙ append_assoc a.before (Session (Called a.call) ∷ a.after) ys;
  same = a.same;
  event = a.event;
  asks = a.asks;
}

same_number : (a b : ℕ) → (a == b) ≡ true → a ≡ b
same_number a b e = grind (arith, nat_tests)

-- ---- a will is due no later than its session's end
lesser : (a b c : ℕ) → nat_le b c ≡ true → nat_le (min a b) c ≡ true
lesser a b c e = grind (arith, nat_tests)

first_late : (moment now : ℕ) (e : Option ℕ) → is_due e now ≡ true → is_due (Some (first_of moment e)) now ≡ true
first_late moment now None due = absurd (let z : false ≡ true = due in cc)
first_late moment now (Some end) due = lesser moment end now due

will_first : (k : Kept) (w : Will) (now : ℕ) → k.will ≡ Some w → is_due (will_due k) now ≡ false → is_due (end_due k) now ≡ true → ⊥
will_first k w now will early late = by k.phase (subst (λ o. is_due (will_by o k.phase k.expiry) now ≡ false) will early) late
  where
    by : (phase : Phase) → is_due (will_by (Some w) phase k.expiry) now ≡ false → is_due (end_by phase k.expiry) now ≡ true → ⊥
    by phases.Connected e l = let z : false ≡ true = l in cc
    by (phases.Closed at) e l = let z : false ≡ true = sym e ∙ first_late (at + 1000 * unwrap_or (first_four 24 w.properties) 0) now (session_end at k.expiry) l in cc

-- ---- what a tick and an end do with a will: it is passed on, or it stays and the session isn't over
abbrev IsDealtWith : Will → ℕ → State → Outcome → Type 0
IsDealtWith w now s o = (o.reaction.ask ≡ Some (Pass (accepted_will w s.kept.client now))) ⊎ ((o.left.kept ≡ s.kept) × (o.reaction.over ≡ false))

timed_will : (l : Option Link) (s : State) → ((timed_out l s).left.kept ≡ s.kept) × ((timed_out l s).reaction.over ≡ false)
timed_will None s = (refl, refl)
timed_will (Some l) s = (refl, refl)

ticked_will : (run_out due : Bool) (end : Bool) (w : Will) (now : ℕ) (s : State) → s.kept.will ≡ Some w → is_due (will_due s.kept) now ≡ due → is_due (end_due s.kept) now ≡ end → IsDealtWith w now s (ticked_if run_out due end now s)
ticked_will true due end w now s will is at = inr (timed_will s.link s)
ticked_will false true end w now s will is at = inl (ap (λ o. ask_of (message_of o s.kept.client now)) will)
ticked_will false false true w now s will is at = absurd (will_first s.kept w now will is at)
ticked_will false false false w now s will is at = inr (refl, refl)

finished_will : (w : Will) (now : ℕ) (s : State) → s.kept.will ≡ Some w → IsDealtWith w now s (finished now s)
finished_will w now s will = inl (ap (λ o. ask_of (message_of o s.kept.client now)) will)

-- ---- passing a will on
passing_kind : Kind IsPassing
passing_kind = record {
  queued = λ s d at is client. subst (MayEnd client s.client) (sym is) tt;
  put = λ id content h client. tt;
  laned = λ peer m client. tt;
  missed = λ what client. tt;
  passed = λ m copies lost routes client. tt;
  dropped = λ client. tt;
}

module _ (client : List ℕ) (p : Place) where
  -- ---- the Remove, and the end
  removes_below : (some : Bool) (version : ℕ) (y : Bool) (h : HeldView) (own : List Act) → If some (Then (MakesRemoveBelow client version) (λ _. Returns true)) (Returns false) (Some y) p h own
      → cond some (own ≡ Store (Made (removal_below p.id client version h.store)) ∷ []) (own ≡ [])
  removes_below true version y h own (inl d) = none_some (sym d.0)
  removes_below true version y h own (inr (x, made, left, none, one, ran, also, same)) =
      same ∙ (λ i. made ++ also.1 i) ∙ append-nil made ∙ numbered (number_at_end p.id h) x (Store (Made (removal_below p.id client version h.store))) made one
  removes_below false version y h own d = d.1

  -- what a session that is over leaves
  pub record Gone (h h' : HeldView) : Type 0 where
    pub gone : seat_at client h' ≡ None
    pub moment : h'.at ≡ h.at
    pub homes : h'.homes ≡ h.homes
    pub connections : h'.connections ≡ h.connections
    pub sessions : (q : List ℕ) → q ≢ client → seat_seen q h' ≡ seat_seen q h

  apart : (q : List ℕ) → q ≢ client → eq_by_cmp text_cmp q client ≡ false
  apart q ne = by (eq_by_cmp text_cmp q client) refl
    where
      by : (b : Bool) → eq_by_cmp text_cmp q client ≡ b → eq_by_cmp text_cmp q client ≡ false
      by true e = absurd (ne (same_text q client e))
      by false e = e

  over_gone : (h : HeldView) → Gone h (next h (Session (Over client)))
  over_gone h = record {
    gone = get_removed h.sessions client;
    moment = refl;
    homes = refl;
    connections = refl;
    sessions = λ q ne. ap (option_map seen_in) (get_left h.sessions client q (apart q ne));
  }

  removed_gone : (some : Bool) (version : ℕ) (h h' : HeldView) (removing : List Act) → cond some (removing ≡ Store (Made (removal_below p.id client version h.store)) ∷ []) (removing ≡ [])
      → Runs p h (removing ++ Session (Over client) ∷ []) h' → Gone h h'
  removed_gone true version h h' removing is runs =
      let r = subst (λ xs. Runs p h (xs ++ Session (Over client) ∷ []) h') is runs in
      let last : h' ≡ next (next h (Store (Made (removal_below p.id client version h.store)))) (Session (Over client)) = r.2.2 ∙ r.2.1.1 ∙ ap (λ v. next v (Session (Over client))) r.1.1 in
      subst (Gone h) (sym last) (let g = over_gone (next h (Store (Made (removal_below p.id client version h.store)))) in record { gone = g.gone; moment = g.moment; homes = g.homes; connections = g.connections; sessions = g.sessions })
  removed_gone false version h h' removing is runs =
      let r = subst (λ xs. Runs p h (xs ++ Session (Over client) ∷ []) h') is runs in subst (Gone h) (sym (r.2 ∙ r.1.1)) (over_gone h)

  -- ---- what work on the session comes to: the session is there still, or it is over
  pub record Alive (h : HeldView) (acts : List Act) (h' : HeldView) : Type 0 where
    pub ends : AllByRecursion (IsOfEnding client) acts
    pub has : Has client h'
    pub will : (w : Will) (id : List ℕ) → SessionHasWill client w id h → SessionHasWill client w id h' ⊎ AsksFor client (accepted_will w id h.at) acts

  pub record Dead (h : HeldView) (acts : List Act) (h' : HeldView) : Type 0 where
    pub ending : List Act
    pub removing : List Act
    pub is : acts ≡ ending ++ (removing ++ Session (Over client) ∷ [])
    pub ends : AllByRecursion (IsOfEnding client) ending
    pub mid : HeldView
    pub runs : Runs p h ending mid
    pub removed : OlderAreRemoved p client mid removing
    pub left : Gone mid h'
    pub will : (w : Will) (id : List ℕ) → SessionHasWill client w id h → AsksFor client (accepted_will w id h.at) ending

  abbrev pub Came : HeldView → List Act → HeldView → Type 0
  Came h acts h' = Alive h acts h' ⊎ Dead h acts h'

  pub record Works {A : Type 0} (P : Option A → Doing) : Type 0 where
    pub there : (x : A) (h h' : HeldView) (acts : List Act) → P (Some x) p h acts → Runs p h acts h' → Has client h → IsElsewhere h.homes p.id client → Came h acts h'
    pub gone : (x : A) (h : HeldView) (acts : List Act) → P (Some x) p h acts → seat_at client h ≡ None → acts ≡ []

  w_returns : {A : Type 0} (y : A) → Works (Returns y)
  w_returns y = record {
    there = λ x h h' acts d runs has elsewhere. inl (nothing_done h h' acts d.1 runs has);
    gone = λ x h acts d none. d.1;
  }
    where
      nothing_done : (h h' : HeldView) (acts : List Act) → acts ≡ [] → Runs p h acts h' → Has client h → Alive h acts h'
      nothing_done h h' acts is runs has =
          let same : h' ≡ h = subst (λ xs. Runs p h xs h') is runs in
          record {
            ends = subst (AllByRecursion (IsOfEnding client)) (sym is) tt;
            has = subst (Has client) (sym same) has;
            will = λ w id own. inl (subst (SessionHasWill client w id) (sym same) own);
          }

  w_looks : {A B : Type 0} (see : Place → HeldView → A) (P : A → Option B → Doing) → ((y : A) → Works (P y)) → Works (Looks see P)
  w_looks see P f = record {
    there = λ x h h' acts d runs has elsewhere. (f (see p h)).there x h h' acts d runs has elsewhere;
    gone = λ x h acts d none. (f (see p h)).gone x h acts d none;
  }

  w_if : {A : Type 0} (b : Bool) (P R : Option A → Doing) → Works P → Works R → Works (If b P R)
  w_if true P R f g = record { there = λ x h h' acts d runs has elsewhere. f.there x h h' acts d runs has elsewhere; gone = λ x h acts d none. f.gone x h acts d none }
  w_if false P R f g = record { there = λ x h h' acts d runs has elsewhere. g.there x h h' acts d runs has elsewhere; gone = λ x h acts d none. g.gone x h acts d none }

  both_alive : (h mid h' : HeldView) (own rest : List Act) → Runs p h own mid → Alive h own mid → Alive mid rest h' → Alive h (own ++ rest) h'
  both_alive h mid h' own rest ran a b =
      let moment : mid.at ≡ h.at = (calmly client p own h mid a.ends ran).moment in
      record {
        ends = are_both (IsOfEnding client) own rest a.ends b.ends;
        has = b.has;
        will = λ w id has. elim (a.will w id has) [
          | inl still ↦ (elim (b.will w id still) [ inl s ↦ inl s | inr asks ↦ inr (subst (λ n. AsksFor client (accepted_will w id n) (own ++ rest)) moment (asks_after client _ own rest asks)) ])
          | inr asks ↦ inr (asks_before client _ own rest asks)
        ];
      }

  pub then_dead : (h mid h' : HeldView) (own rest : List Act) → Runs p h own mid → Alive h own mid → Dead mid rest h' → Dead h (own ++ rest) h'
  then_dead h mid h' own rest ran a b =
      let moment : mid.at ≡ h.at = (calmly client p own h mid a.ends ran).moment in
      record {
        ending = own ++ b.ending;
        removing = b.removing;
        is = ap (λ zs. own ++ zs) b.is ∙ sym (append_assoc own b.ending (b.removing ++ Session (Over client) ∷ []));
        ends = are_both (IsOfEnding client) own b.ending a.ends b.ends;
        mid = b.mid;
        runs = runs_join p own b.ending h mid b.mid ran b.runs;
        removed = b.removed;
        left = b.left;
        will = λ w id has. elim (a.will w id has) [
          | inl still ↦ subst (λ n. AsksFor client (accepted_will w id n) (own ++ b.ending)) moment (asks_after client _ own b.ending (b.will w id still))
          | inr asks ↦ asks_before client _ own b.ending asks
        ];
      }

  came_again : (h h' : HeldView) (xs ys : List Act) → ys ≡ xs → Came h xs h' → Came h ys h'
  came_again h h' xs ys is c = subst (λ zs. Came h zs h') (sym is) c

  w_then : {A B : Type 0} (P : Option A → Doing) (R : A → Option B → Doing) → Works P → ((y : A) → Works (R y)) → Works (Then P R)
  w_then {A} {B} P R f g = record { there = λ x h h' acts d runs has elsewhere. there_by x h h' acts d runs has elsewhere; gone = λ x h acts d none. gone_by x h acts d none }
    where
      there_by : (x : B) (h h' : HeldView) (acts : List Act) → Then P R (Some x) p h acts → Runs p h acts h' → Has client h → IsElsewhere h.homes p.id client → Came h acts h'
      there_by x h h' acts (inl d) runs has elsewhere = none_some (sym d.0)
      there_by x h h' acts (inr (y, own, mid, rest, one, ran, more, is)) runs has elsewhere =
          let later = second_runs p h mid h' own rest acts is ran runs in
          came_again h h' (own ++ rest) acts is (elim (f.there y h mid own one ran has elsewhere) [
            | inl a ↦ (
                let still : IsElsewhere mid.homes p.id client = subst (λ (t : Table). IsElsewhere t p.id client) (sym (calmly client p own h mid a.ends ran).homes) elsewhere in
                elim ((g y).there x mid h' rest more later a.has still) [
                  | inl b ↦ inl (both_alive h mid h' own rest ran a b)
                  | inr b ↦ inr (then_dead h mid h' own rest ran a b)
                ])
            | inr a ↦ (
                let none : rest ≡ [] = (g y).gone x mid rest more a.left.gone in
                let same : h' ≡ mid = subst (λ xs. Runs p mid xs h') none later in
                came_again h h' own (own ++ rest) (ap (λ zs. own ++ zs) none ∙ append-nil own) (inr (subst (Dead h own) (sym same) a)))
          ])

      gone_by : (x : B) (h : HeldView) (acts : List Act) → Then P R (Some x) p h acts → seat_at client h ≡ None → acts ≡ []
      gone_by x h acts (inl d) none = none_some (sym d.0)
      gone_by x h acts (inr (y, own, mid, rest, one, ran, more, is)) none =
          let first : own ≡ [] = f.gone y h own one none in
          let same : mid ≡ h = subst (λ xs. Runs p h xs mid) first ran in
          let second : rest ≡ [] = (g y).gone x mid rest more (ap (seat_at client) same ∙ none) in
          is ∙ (λ i. first i ++ second i)

  -- ---- a call that does nothing of its session's end but to close it
  w_closes : Works (Calls client closes leaves)
  w_closes = record {
    there = λ r h h' acts d runs has elsewhere. there_by r h h' acts has (subst (λ f. CallsAt client closes leaves f (Some r) p h acts) has.1 d) runs;
    gone = λ r h acts d none. gone_by r h acts (subst (λ f. CallsAt client closes leaves f (Some r) p h acts) none d);
  }
    where
      there_by : (r : Reaction) (h h' : HeldView) (acts : List Act) (has : Has client h) → CallsAt client closes leaves (Some has.0) (Some r) p h acts → Runs p h acts h' → Came h acts h'
      there_by r h h' acts has (inl d) runs = none_some (sym d.0)
      there_by r h h' acts has (inr (q, after, answer, reacts, acts_are)) runs =
          let s : SessionStep = record { client = client; on = None; at = h.at; event = closes h.at; reaction = q; after = after } in
          let seat : Seat = record { session = after; connection = None } in
          let left : h' ≡ next h (Session (Called s)) = left_by p h h' (Session (Called s)) acts acts_are runs in
          let found : seat_at client h' ≡ Some seat = ap (seat_at client) left ∙ get_inserted h.sessions client seat in
          inl (record {
            ends = subst (AllByRecursion (IsOfEnding client)) (sym acts_are) (refl, tt);
            has = (seat, found);
            will = λ w id own. (
                let one : own.seat ≡ has.0 = (let z : Some own.seat ≡ Some has.0 = sym own.at ∙ has.1 in cc) in
                inl (record {
                  seat = seat;
                  at = found;
                  will = ap (λ (v : State). v.kept.will) reacts.1 ∙ ap (λ (v : Seat). v.session.kept.will) (sym one) ∙ own.will;
                  id_is = ap (λ (v : State). v.kept.client) reacts.1 ∙ ap (λ (v : Seat). v.session.kept.client) (sym one) ∙ own.id_is;
                }));
          })

      gone_by : (r : Reaction) (h : HeldView) (acts : List Act) → CallsAt client closes leaves None (Some r) p h acts → acts ≡ []
      gone_by r h acts d = d.1

  -- ---- what follows a call: its will is passed on, and then, where it says so, the session is over
  pub record Followed (over : Bool) (h : HeldView) (acts : List Act) (h' : HeldView) : Type 0 where
    pub passing : List Act
    pub removing : List Act
    pub kind : AllByRecursion IsPassing passing
    pub mid : HeldView
    pub runs : Runs p h passing mid
    pub last : cond over (acts ≡ passing ++ (removing ++ Session (Over client) ∷ [])) (acts ≡ passing)
    pub removed : cond over (OlderAreRemoved p client mid removing) (Unit {0})
    pub left : cond over (Gone mid h') (h' ≡ mid)

  ends_session : (x : Unit {0}) (h h' : HeldView) (acts : List Act) → IsElsewhere h.homes p.id client → endings.EndsSession client (Some x) p h acts → Runs p h acts h'
      → (removing : List Act) × (acts ≡ removing ++ Session (Over client) ∷ []) × OlderAreRemoved p client h removing × Gone h h'
  ends_session x h h' acts elsewhere (inl d) runs = none_some (sym d.0)
  ends_session x h h' acts elsewhere (inr (y, own, mid, rest, (node, home, one), ran, more, is)) runs =
      let other : (node == p.id) ≡ false = apart_ids node p.id (λ e. elsewhere (subst (IsHome h.homes client) e home)) in
      let older : endings.ends_below node p h ≡ h.homes.version = ap (λ b. cond b (h.homes.version + 1) h.homes.version) other in
      let removal : OlderAreRemoved p client h own = subst (λ version. cond (any_below client version h.store.subscriptions) (own ≡ Store (Made (removal_below p.id client version h.store)) ∷ []) (own ≡ [])) older
      (removes_below (any_below client (endings.ends_below node p h) h.store.subscriptions) (endings.ends_below node p h) y h own one) in
      let whole : acts ≡ own ++ Session (Over client) ∷ [] = is ∙ (λ i. own ++ more.1 i) in
      (own, whole, removal, removed_gone (any_below client h.homes.version h.store.subscriptions) h.homes.version h h' own removal (subst (λ xs. Runs p h xs h') whole runs))
    where
      apart_ids : (a b : ℕ) → a ≢ b → (a == b) ≡ false
      apart_ids a b ne = by_test (a == b) refl
        where
          by_test : (t : Bool) → (a == b) ≡ t → (a == b) ≡ false
          by_test true e = absurd (ne (same_number a b e))
          by_test false e = e

  follows_by : (over : Bool) (x : Unit {0}) (h mid h' : HeldView) (passing rest acts : List Act) → AllByRecursion IsPassing passing → Runs p h passing mid → IsElsewhere mid.homes p.id client
      → If over (endings.EndsSession client) (Returns tt) (Some x) p mid rest → Runs p mid rest h' → acts ≡ passing ++ rest → Followed over h acts h'
  follows_by true x h mid h' passing rest acts kind ran elsewhere d runs is =
      let e = ends_session x mid h' rest elsewhere d runs in
      record { passing = passing; removing = e.0; kind = kind; mid = mid; runs = ran; last = is ∙ ap (λ zs. passing ++ zs) e.1; removed = e.2; left = e.3 }
  follows_by false x h mid h' passing rest acts kind ran elsewhere d runs is =
      record { passing = passing; removing = []; kind = kind; mid = mid; runs = ran; last = is ∙ ap (λ zs. passing ++ zs) d.1 ∙ append-nil passing; removed = tt; left = subst (λ xs. Runs p mid xs h') d.1 runs }

  follows : (r : Reaction) (x : Unit {0}) (h h' : HeldView) (acts : List Act) → IsElsewhere h.homes p.id client → endings.FollowsReaction client r (Some x) p h acts → Runs p h acts h' → Followed r.over h acts h'
  follows r x h h' acts elsewhere (inl d) runs = none_some (sym d.0)
  follows r x h h' acts elsewhere (inr (y, own, mid, rest, one, ran, more, is)) runs =
      let kind = passes_asked IsPassing passing_kind r.ask y p h own one in
      let still : IsElsewhere mid.homes p.id client = subst (λ (t : Table). IsElsewhere t p.id client) (sym (calmly client p own h mid (passing_ends client own kind) ran).homes) elsewhere in
      follows_by r.over x h mid h' own rest acts kind ran still more (second_runs p h mid h' own rest acts is ran runs) is

  -- after a call of no session nothing follows
  nothing_follows : (x : Unit {0}) (h : HeldView) (acts : List Act) → endings.FollowsReaction client nothing (Some x) p h acts → acts ≡ []
  nothing_follows x h acts (inl d) = none_some (sym d.0)
  nothing_follows x h acts (inr (y, own, mid, rest, one, ran, more, is)) = is ∙ (λ i. one.1 i ++ more.1 i)

  -- ---- a call that does what is due, or ends the session, with what follows
  module _ (event : ℕ → Event) (outcome : ℕ → State → Outcome) (own_call : (now : ℕ) → MayEnd client client (event now)) (publishes : (now : ℕ) → MayPublish (event now)) (comes : (now : ℕ) (s new : State) (r : Reaction) → Reacts s (event now) r new → Comes (outcome now s) r new) (deals : (w : Will) (now : ℕ) (s : State) → s.kept.will ≡ Some w → IsDealtWith w now s (outcome now s)) where
    abbrev step_at : Seat → Reaction → State → HeldView → SessionStep
    step_at seat r after h = record { client = client; on = seat.connection; at = h.at; event = event h.at; reaction = r; after = after }

    module _ (seat : Seat) (r : Reaction) (after : State) (h mid : HeldView) (found : seat_at client h ≡ Some seat) (left : mid ≡ next h (Session (Called (step_at seat r after h)))) (came : Comes (outcome h.at seat.session) r after) where
      abbrev s : SessionStep
      s = step_at seat r after h

      abbrev there : Seat
      there = record { session = after; connection = seat.connection }

      found_after : seat_at client mid ≡ Some there
      found_after = ap (seat_at client) left ∙ get_inserted h.sessions client there

      -- the will is asked for by the call, or is there still
      dealt : (w : Will) (id : List ℕ) → SessionHasWill client w id h → (r.ask ≡ Some (Pass (accepted_will w id h.at))) ⊎ (SessionHasWill client w id mid × (r.over ≡ false))
      dealt w id own =
          let one : own.seat ≡ seat = (let z : Some own.seat ≡ Some seat = sym own.at ∙ found in cc) in
          let has : seat.session.kept.will ≡ Some w = ap (λ (v : Seat). v.session.kept.will) (sym one) ∙ own.will in
          let named : seat.session.kept.client ≡ id = ap (λ (v : Seat). v.session.kept.client) (sym one) ∙ own.id_is in
          elim (deals w h.at seat.session has) [
            | inl asks ↦ inl (ap (λ (v : Reaction). v.ask) came.0 ∙ asks ∙ ap (λ n. Some (Pass (accepted_will w n h.at))) named)
            | inr stays ↦ (
                let kept : after.kept ≡ seat.session.kept = ap (λ (v : State). v.kept) came.1 ∙ stays.0 in
                inr (record { seat = there; at = found_after; will = ap (λ (k : Kept). k.will) kept ∙ has; id_is = ap (λ (k : Kept). k.client) kept ∙ named }, ap (λ (v : Reaction). v.over) came.0 ∙ stays.1))
          ]

      asks_first : (m : Message) (rest : List Act) → r.ask ≡ Some (Pass m) → AsksFor client m (Session (Called s) ∷ rest)
      asks_first m rest asks = record { before = []; call = s; after = rest; is = refl; same = refl; event = publishes h.at; asks = asks }

      ends_first : (rest : List Act) → AllByRecursion IsPassing rest → AllByRecursion (IsOfEnding client) (Session (Called s) ∷ rest)
      ends_first rest kind = (own_call h.at, passing_ends client rest kind)

      by_over : (over : Bool) (h' : HeldView) (rest : List Act) → r.over ≡ over → Runs p h (Session (Called s) ∷ []) mid → Followed over mid rest h' → cond over (Dead h (Session (Called s) ∷ rest) h') (Alive h (Session (Called s) ∷ rest) h')
      by_over false h' rest so ran f =
          let kind : AllByRecursion IsPassing rest = subst (AllByRecursion IsPassing) (sym f.last) f.kind in
          let runs : Runs p mid rest h' = subst (λ v. Runs p mid rest v) (sym f.left) (subst (λ xs. Runs p mid xs f.mid) (sym f.last) f.runs) in
          record {
            ends = ends_first rest kind;
            has = (calmly client p rest mid h' (passing_ends client rest kind) runs).has (there, found_after);
            will = λ w id own. elim (dealt w id own) [
              | inl asks ↦ inr (asks_first (accepted_will w id h.at) rest asks)
              | inr still ↦ inl (will_stays client w id mid h' (passing_seen p rest mid h' client kind runs) still.0)
            ];
          }
      by_over true h' rest so ran f = record {
        ending = Session (Called s) ∷ f.passing;
        removing = f.removing;
        is = ap (λ xs. Session (Called s) ∷ xs) f.last;
        ends = ends_first f.passing f.kind;
        mid = f.mid;
        runs = runs_join p (Session (Called s) ∷ []) f.passing h mid f.mid ran f.runs;
        removed = f.removed;
        left = f.left;
        will = λ w id own. elim (dealt w id own) [
          | inl asks ↦ asks_first (accepted_will w id h.at) f.passing asks
          | inr still ↦ absurd (let z : true ≡ false = sym so ∙ still.1 in cc)
        ];
      }

    -- whether it is over says the call
    abbrev pub Came_by : Bool → HeldView → List Act → HeldView → Type 0
    Came_by over h acts h' = cond over (Dead h acts h') (Alive h acts h')

    called_by : (r : Reaction) (x : Unit {0}) (h mid h' : HeldView) (own rest acts : List Act) (has : Has client h) → IsElsewhere h.homes p.id client → CallsAt client event stays (Some has.0) (Some r) p h own → Runs p h own mid
        → endings.FollowsReaction client r (Some x) p mid rest → Runs p mid rest h' → acts ≡ own ++ rest → Came_by (outcome h.at has.0.session).reaction.over h acts h'
    called_by r x h mid h' own rest acts has elsewhere (inl d) ran more later is = none_some (sym d.0)
    called_by r x h mid h' own rest acts has elsewhere (inr (q, after, answer, reacts, acts_are)) ran more later is =
        let same : r ≡ q = (let z = answer in cc) in
        let call : SessionStep = step_at has.0 q after h in
        let left : mid ≡ next h (Session (Called call)) = left_by p h mid (Session (Called call)) own acts_are ran in
        let still : IsElsewhere mid.homes p.id client = subst (λ (v : HeldView). IsElsewhere v.homes p.id client) (sym left) elsewhere in
        let f = follows q x mid h' rest still (subst (λ v. endings.FollowsReaction client v (Some x) p mid rest) same more) later in
        let came = comes h.at has.0.session after q reacts in
        subst (λ b. Came_by b h acts h') (ap (λ (v : Reaction). v.over) came.0) (subst (λ xs. Came_by q.over h xs h') (sym (is ∙ ap (λ xs. xs ++ rest) acts_are))
        (by_over has.0 q after h mid has.1 left came q.over h' rest refl (subst (λ xs. Runs p h xs mid) acts_are ran) f))

    pub came_there : (x : Unit {0}) (h h' : HeldView) (acts : List Act) (has : Has client h) → IsElsewhere h.homes p.id client → Then (Calls client event stays) (endings.FollowsReaction client) (Some x) p h acts → Runs p h acts h' → Came_by (outcome h.at has.0.session).reaction.over h acts h'
    came_there x h h' acts has elsewhere (inl d) runs = none_some (sym d.0)
    came_there x h h' acts has elsewhere (inr (r, own, mid, rest, one, ran, more, is)) runs =
        called_by r x h mid h' own rest acts has elsewhere (subst (λ f. CallsAt client event stays f (Some r) p h own) has.1 one) ran more (second_runs p h mid h' own rest acts is ran runs) is

    either : (over : Bool) (h h' : HeldView) (acts : List Act) → Came_by over h acts h' → Came h acts h'
    either true h h' acts c = inr c
    either false h h' acts c = inl c

    w_call : Works (Then (Calls client event stays) (endings.FollowsReaction client))
    w_call = record {
      there = λ x h h' acts d runs has elsewhere. either (outcome h.at has.0.session).reaction.over h h' acts (came_there x h h' acts has elsewhere d runs);
      gone = λ x h acts d none. gone_by x h acts none d;
    }
      where
        gone_by : (x : Unit {0}) (h : HeldView) (acts : List Act) → seat_at client h ≡ None → Then (Calls client event stays) (endings.FollowsReaction client) (Some x) p h acts → acts ≡ []
        gone_by x h acts none (inl d) = none_some (sym d.0)
        gone_by x h acts none (inr (r, own, mid, rest, one, ran, more, is)) =
            let alone = subst (λ f. CallsAt client event stays f (Some r) p h own) none one in
            let same : r ≡ nothing = (let z : Some r ≡ Some nothing = alone.0 in cc) in
            let later : rest ≡ [] = nothing_follows x mid rest (subst (λ v. endings.FollowsReaction client v (Some x) p mid rest) same more) in
            is ∙ (λ i. alone.1 i ++ later i)

  w_ticks : Works (endings.Ticks client)
  w_ticks = w_call ticks ticked (λ now. refl) (λ now. tt) (λ now s new r reacts. reacts) (λ w now s will. ticked_will (has_run_out s.link now) (is_due (will_due s.kept) now) (is_due (end_due s.kept) now) w now s will refl refl)

  -- an end of a session that is there is its last
  pub finishes_dead : (x : Unit {0}) (h h' : HeldView) (acts : List Act) → endings.Finishes client (Some x) p h acts → Runs p h acts h' → Has client h → IsElsewhere h.homes p.id client → Dead h acts h'
  finishes_dead x h h' acts d runs has elsewhere = came_there finishes finished (λ now. refl) (λ now. tt) (λ now s new r reacts. reacts) (λ w now s will. finished_will w now s will) x h h' acts has elsewhere d runs

  pub finishes_gone : (x : Unit {0}) (h : HeldView) (acts : List Act) → endings.Finishes client (Some x) p h acts → seat_at client h ≡ None → acts ≡ []
  finishes_gone x h acts d none = (w_call finishes finished (λ now. refl) (λ now. tt) (λ now s new r reacts. reacts) (λ w now s will. finished_will w now s will)).gone x h acts d none

  -- ---- the close of its connection, with what is due then
  ticks_if : (due : Bool) → Works (endings.TicksIf due client)
  ticks_if due = w_if due (endings.Ticks client) (Returns tt) w_ticks (w_returns tt)

  pub w_parts : Works (endings.Parts client)
  w_parts =
      w_then (Calls client closes leaves) (λ _. endings.DoesDueOf client) w_closes (λ _.
      w_then (Looks (λ p h. will_is_due client h) (λ due. endings.TicksIf due client)) (λ _. Looks (λ p h. end_is_due client h) (λ due. endings.TicksIf due client))
      (w_looks (λ p h. will_is_due client h) (λ due. endings.TicksIf due client) ticks_if) (λ _. w_looks (λ p h. end_is_due client h) (λ due. endings.TicksIf due client) ticks_if))
