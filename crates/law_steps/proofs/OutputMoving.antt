-- Clients whose home is elsewhere: what they are told, and how their connections end.
use Rattle.std.proofs.Common.{◌≡◌, inl, inr, ℕ, Bool, true, false, List, [], ◌∷◌, ◌++◌, Option, Some, None, refl, sym, ap, ◌∙◌, subst}
use Rattle.std.specs.FinMap as map
use Rattle.std.specs.List.{AllByRecursion}
use Rattle.std.specs.Prelude.{◌⊎◌, map as map_list}
use Rattle.filter_trie.specs.Selected.{IsSelected}
use Rattle.home_table.specs.Homes.{IsHome}
use Rattle.home_table.specs.Table.{Table}
use Rattle.session_table.specs.Seats.{IsElsewhere}
use Rattle.node_work.specs.declared.counts.Missed.TheVariants.{TableRefused}
use Rattle.node_work.specs.Acts.{Act, Moved, Runs, gather, moved_in}
use Rattle.node_work.specs.Doings.{Misses, Sends}
use Rattle.node_work.specs.Held.Connections.{client_at}
use Rattle.node_work.specs.Held.Sessions.{connection_at, takes_packet}
use Rattle.node_work.specs.Packets.{moved_packet}
use Rattle.node_work.specs.View.{Place, HeldView}
use Rattle.node_work.specs.Working.{Each, If, Returns}
use Rattle.node_work.proofs.Homes.{homes_stay}
use Rattle.node_work.proofs.Working.{gather-append}
use Rattle.node_clients.specs.Connecting.{address_of}
use Rattle.node_clients.specs.Moving as moving
use Rattle.broker_node.specs.Moving as tables
use Rattle.broker_node.proofs.Quiet.{handed_in, sends_away_quiet}
use Rattle.cluster_play.proofs.Bools.{some_is}
use Rattle.law_runs.proofs.Keeping.{none_some}
use Rattle.law_steps.specs.Outputs.{Occasion, SessionsAreOnTheirs, IsAway, MaySendAway, SentLast, ToldWhere, WhyClosed}
use Rattle.law_steps.proofs.Accepting.{nothing_right, older_at, sends_right}
use Rattle.law_steps.proofs.Alone.{finishes_of}
use Rattle.law_steps.proofs.ClosingLaws.{Done, calm_done, closes_for, done_then, nothing_done, second_runs}
use Rattle.law_steps.proofs.On.{Right, IsCalm, calm_kind}

-- ---- the table stays
nothing_of : {A : Type 0} (xs ys : List A) → xs ++ ys ≡ [] → (xs ≡ []) × (ys ≡ [])
nothing_of [] ys e = (refl, e)
nothing_of (x ∷ xs) ys e = absurd (let z : x ∷ (xs ++ ys) ≡ [] = e in cc)

no_table : (a : Act) → handed_in a ≡ [] → moved_in a ≡ []
no_table (Moved homes) e = absurd (let z : Moved homes ∷ [] ≡ [] = e in cc)
no_table a e = refl

no_tables : (acts : List Act) → gather handed_in acts ≡ [] → gather moved_in acts ≡ []
no_tables [] e = refl
no_tables (a ∷ acts) e = let parts = nothing_of (handed_in a) (gather handed_in acts) e in λ i. no_table a parts.0 i ++ no_tables acts parts.1 i

-- ---- what a client is told
pub record Redirected (occasion : Occasion) (pre : List Act) (p : Place) (c : ℕ) (client : List ℕ) (h h' : HeldView) (acts : List Act) : Type 0 where
  pub right : Right occasion pre p h acts
  pub same : h' ≡ h
  pub home : ℕ
  pub away : IsAway p h client home
  pub told : ToldWhere (pre ++ acts) h' c client home

module _ (occasion : Occasion) (pre : List Act) (c : ℕ) (client : List ℕ) (home : ℕ) (x : Unit {0}) (p : Place) (h h' : HeldView) (acts : List Act) (has : client_at c h ≡ Some client) (away : IsAway p h client home) (runs : Runs p h acts h') where
  -- the address that the table has is the one
  one_address : (address other : List ℕ) → h' ≡ h → address_of h home ≡ Some address → address_of h' home ≡ Some other → address ≡ other
  one_address address other same at there = some_is (sym at ∙ ap (λ (v : HeldView). address_of v home) (sym same) ∙ there)

  abbrev Told : List ℕ → Type 0
  Told address = SentLast (pre ++ acts) c (moved_packet address) ⊎ (takes_packet client (moved_packet address) h' ≡ false)

  told_by : (b : Bool) (address : List ℕ) → address_of h home ≡ Some address → takes_packet client (moved_packet address) h ≡ b → If b (Sends c (moved_packet address)) (Returns tt) (Some x) p h acts → Redirected occasion pre p c client h h' acts
  told_by true address at fitting d =
      let s = sends_right occasion pre c (moved_packet address) x p h h' acts (inr (inr (record { client = client; there = has; home = home; away = away; address = address; at = at; is = refl }))) d runs in
      record { right = s.0; same = s.1; home = home; away = away; told = λ other there. subst Told (one_address address other s.1 at there) (inl (pre, ap (λ xs. pre ++ xs) d.1)) }
  told_by false address at fitting d =
      let s = nothing_right occasion pre p h h' acts d.1 runs in
      record { right = s.0; same = s.1; home = home; away = away; told = λ other there. subst Told (one_address address other s.1 at there) (inr (ap (takes_packet client (moved_packet address)) s.1 ∙ fitting)) }

  redirected : (o : Option (List ℕ)) → address_of h home ≡ o → moving.RedirectsBy c client o (Some x) p h acts → Redirected occasion pre p c client h h' acts
  redirected None at d =
      let s = nothing_right occasion pre p h h' acts d.1 runs in
      record { right = s.0; same = s.1; home = home; away = away; told = λ other there. none_some (sym at ∙ ap (λ (v : HeldView). address_of v home) (sym s.1) ∙ there) }
  redirected (Some address) at d = told_by (takes_packet client (moved_packet address) h) address at refl d

redirects : (occasion : Occasion) (pre : List Act) (c : ℕ) (client : List ℕ) (x : Unit {0}) (p : Place) (h h' : HeldView) (acts : List Act) → client_at c h ≡ Some client → IsElsewhere h.homes p.id client → moving.RedirectsHome c client (Some x) p h acts → Runs p h acts h'
    → Redirected occasion pre p c client h h' acts
redirects occasion pre c client x p h h' acts has elsewhere (home, is_home, d) runs =
    let away : IsAway p h client home = record { is_home = is_home; other = λ e. elsewhere (subst (IsHome h.homes client) e is_home) } in
    redirected occasion pre c client home x p h h' acts has away runs (address_of h home) refl d

-- ---- its connection, if it has one, is closed
module _ (occasion : Occasion) (may : MaySendAway occasion.kind) where
  parts_on : (pre : List Act) (client : List ℕ) (o : Option ℕ) (x : Unit {0}) (p : Place) (h h' : HeldView) (acts : List Act) → SessionsAreOnTheirs h → IsElsewhere h.homes p.id client → connection_at client h ≡ o → moving.PartsOn client o (Some x) p h acts → Runs p h acts h'
      → Done occasion pre p h h' acts
  parts_on pre client None x p h h' acts on elsewhere at d runs = nothing_done occasion pre p h h' acts d.1 on runs
  parts_on pre client (Some c) x p h h' acts on elsewhere at (inl d) runs = none_some (sym d.0)
  parts_on pre client (Some c) x p h h' acts on elsewhere at (inr (y, own, mid, rest, one, ran, more, is)) runs =
      let has = older_at h client c on at in
      let first = redirects occasion pre c client y p h mid own has elsewhere one ran in
      let there : client_at c mid ≡ Some client = ap (client_at c) first.same ∙ has in
      let away : IsAway p mid client first.home = subst (λ (v : HeldView). IsAway p v client first.home) (sym first.same) first.away in
      let why : WhyClosed occasion p (pre ++ own) mid c = inr (inr (inr (inr (inr (record { client = client; there = there; event = may; home = first.home; away = away; told = first.told }))))) in
      let second = closes_for occasion (pre ++ own) c client x p mid h' rest (subst SessionsAreOnTheirs (sym first.same) on) there why more (second_runs p h mid h' own rest acts is ran runs) in
      done_then occasion pre p h mid h' own rest acts is ran first.right (second.right, second.ends.on)

  -- and its session ends
  moves_away : (pre : List Act) (client : List ℕ) (x : Unit {0}) (p : Place) (h h' : HeldView) (acts : List Act) → SessionsAreOnTheirs h → IsElsewhere h.homes p.id client → moving.MovesAway client (Some x) p h acts → Runs p h acts h' → Done occasion pre p h h' acts
  moves_away pre client x p h h' acts on elsewhere (inl d) runs = none_some (sym d.0)
  moves_away pre client x p h h' acts on elsewhere (inr (y, own, mid, rest, one, ran, more, is)) runs =
      let first = parts_on pre client (connection_at client h) y p h mid own on elsewhere refl one ran in
      let calm : AllByRecursion IsCalm rest = (finishes_of IsCalm calm_kind client).of x p mid rest more in
      done_then occasion pre p h mid h' own rest acts is ran first.0 (calm_done occasion (pre ++ own) p mid h' rest calm first.1 (second_runs p h mid h' own rest acts is ran runs))

  each_away : (away : List (List ℕ)) (pre : List Act) (x : Unit {0}) (p : Place) (h h' : HeldView) (acts : List Act) → SessionsAreOnTheirs h → AllByRecursion (IsElsewhere h.homes p.id) away → gather moved_in acts ≡ [] → Each moving.MovesAway away (Some x) p h acts → Runs p h acts h'
      → Done occasion pre p h h' acts
  each_away [] pre x p h h' acts on elsewhere none d runs = nothing_done occasion pre p h h' acts d.1 on runs
  each_away (client ∷ away) pre x p h h' acts on elsewhere none (inl d) runs = none_some (sym d.0)
  each_away (client ∷ away) pre x p h h' acts on elsewhere none (inr (y, own, mid, rest, one, ran, more, is)) runs =
      let parts = nothing_of (gather moved_in own) (gather moved_in rest) (sym (gather-append moved_in own rest) ∙ ap (gather moved_in) (sym is) ∙ none) in
      let same : mid.homes ≡ h.homes = homes_stay p own h mid ran parts.0 in
      let first = moves_away pre client y p h mid own on elsewhere.0 one ran in
      let others : AllByRecursion (IsElsewhere mid.homes p.id) away = subst (λ (t : Table). AllByRecursion (IsElsewhere t p.id) away) (sym same) elsewhere.1 in
      done_then occasion pre p h mid h' own rest acts is ran first.0 (each_away away (pre ++ own) x p mid h' rest first.1 others parts.1 more (second_runs p h mid h' own rest acts is ran runs))

  -- those whose home is elsewhere
  pub sends_away : (pre : List Act) (x : Unit {0}) (p : Place) (h h' : HeldView) (acts : List Act) → SessionsAreOnTheirs h → tables.SendsAway (Some x) p h acts → Runs p h acts h' → Done occasion pre p h h' acts
  sends_away pre x p h h' acts on (away, are, d) runs =
      each_away away pre x p h h' acts on (all_of (IsElsewhere h.homes p.id) (map_list (λ e. e.0) (map.entries h.sessions)) away are) (no_tables acts (sends_away_quiet (Some x) p h acts (away, are, d))) d runs
    where
      all_of : {A : Type 0} (P : A → Type 0) (xs out : List A) → IsSelected P xs out → AllByRecursion P out
      all_of P [] out s = subst (AllByRecursion P) (sym s) tt
      all_of P (z ∷ xs) out (inl s) = subst (AllByRecursion P) (sym s.1.1) (s.0, all_of P xs s.1.0 s.1.2)
      all_of P (z ∷ xs) out (inr s) = all_of P xs out s.1

-- ---- another table
table_by : (occasion : Occasion) → MaySendAway occasion.kind → (newer : Bool) (homes : Table) (pre : List Act) (x : Unit {0}) (p : Place) (h h' : HeldView) (acts : List Act) → SessionsAreOnTheirs h → If newer (tables.TakesNewerTable homes) (Misses TableRefused) (Some x) p h acts → Runs p h acts h' → Done occasion pre p h h' acts
table_by occasion may true homes pre x p h h' acts on (inl d) runs = none_some (sym d.0)
table_by occasion may true homes pre x p h h' acts on (inr (y, own, mid, rest, one, ran, more, is)) runs =
    let first = calm_done occasion pre p h mid own (subst (AllByRecursion IsCalm) (sym one.1) (tt, tt)) on ran in
    done_then occasion pre p h mid h' own rest acts is ran first.0 (sends_away occasion may (pre ++ own) x p mid h' rest first.1 more (second_runs p h mid h' own rest acts is ran runs))
table_by occasion may false homes pre x p h h' acts on d runs = calm_done occasion pre p h h' acts (subst (AllByRecursion IsCalm) (sym d.1) (tt, tt)) on runs

pub takes_table : (occasion : Occasion) → MaySendAway occasion.kind → (homes : Table) (pre : List Act) (x : Unit {0}) (p : Place) (h h' : HeldView) (acts : List Act) → SessionsAreOnTheirs h → tables.TakesTable homes (Some x) p h acts → Runs p h acts h' → Done occasion pre p h h' acts
takes_table occasion may homes pre x p h h' acts on d runs = table_by occasion may (tables.is_newer_table homes p h) homes pre x p h h' acts on d runs
