-- Sessions that a node has through the acts of a step: those of clients whose home is here.
use Rattle.std.proofs.Common.{◌≡◌, ◌⊎◌, inl, inr, ℕ, Bool, true, false, cond, is_some, List, [], ◌∷◌, ◌++◌, Some, None, refl, sym, ap, ◌∙◌, subst}
use Rattle.std.specs.FinMap as map
use Rattle.std.specs.Ordering.{eq_by_cmp}
use Rattle.law_maps.proofs.Texts.{same_text, get_apart, get_left, get_removed}
use Rattle.home_table.specs.Table.{Table}
use Rattle.session_table.specs.Listing.{text_cmp}
use Rattle.session_table.specs.Seats.{IsElsewhere, begun}
use Rattle.node_work.specs.declared.counts.Missed.TheVariants.{TableRefused}
use Rattle.node_work.specs.Acts.{Act, MomentTaken, Began, Moved, Store, Connection, Session, Bridge, Out, Named, Acknowledged, Passed, Dropped, Allowed, Runs, gather, moved_in, next}
use Rattle.node_work.specs.Held.Bridge.{BridgeAct, Put, Took, Got, Believed, Greeted, Gave, Left_out}
use Rattle.node_work.specs.Held.Connections.{ConnectionAct, Opened, Fed, Accepted, Roomed, Closed}
use Rattle.node_work.specs.Held.Sessions.{SessionAct, Begun, Called, Over, has_session}
use Rattle.node_work.specs.View.{Place, HeldView}
use Rattle.node_work.specs.Working.{If}
use Rattle.node_work.proofs.Homes.{homes_by}
use Rattle.node_work.proofs.Working.{gather-append}
use Rattle.broker_node.specs.declared.event.Event.{Event}
use Rattle.broker_node.specs.declared.event.EventKind.{EventKind}
use Rattle.broker_node.specs.declared.event.EventKind.TheVariants as kinds
use Rattle.broker_node.specs.Step.{MayBringTables}
use Rattle.broker_node.specs.Turns as turns
use Rattle.broker_node.proofs.Handing.{turn_brings}
use Rattle.law_runs.proofs.Passing.{has_of}
use Rattle.law_runs.proofs.Splits.{left_by}
use Rattle.law_steps.specs.Sessions.{NoneElsewhere, HasItsOwn, IsInItsTable, SessionsAreAtHome}
use Rattle.law_steps.specs.Tables.{TableIsRefused, TicksFirst}
use Rattle.law_steps.proofs.Beginning.{Begin, decides}
use Rattle.law_steps.proofs.Calm.{Has}
use Rattle.law_steps.proofs.TableLaws.{Turning, turning, tables_are_taken, starts_send_away}
use Rattle.law_steps.proofs.Turn.{none_away}

-- ---- what is there afterwards was there, or begins
abbrev Was : List ℕ → HeldView → Act → Type 0
Was q h a = (a ≡ Session (Begun q)) ⊎ Has q h

session_was : (p : Place) (h : HeldView) (a : SessionAct) (q : List ℕ) → Allowed p h (Session a) → Has q (next h (Session a)) → Was q h (Session a)
session_was p h (Begun client) q allowed has = by (eq_by_cmp text_cmp q client) refl
  where
    by : (b : Bool) → eq_by_cmp text_cmp q client ≡ b → Was q h (Session (Begun client))
    by true e = inl (ap (λ k. Session (Begun k)) (sym (same_text q client e)))
    by false e = inr (has.0, sym (get_apart h.sessions client (begun client) q e) ∙ has.1)
session_was p h (Called s) q allowed has = by (eq_by_cmp text_cmp q s.client) refl
  where
    by : (b : Bool) → eq_by_cmp text_cmp q s.client ≡ b → Was q h (Session (Called s))
    by true e = inr (allowed.seat, ap (map.get h.sessions) (same_text q s.client e) ∙ allowed.found)
    by false e = inr (has.0, sym (get_apart h.sessions s.client (record { session = s.after; connection = s.on }) q e) ∙ has.1)
session_was p h (Over client) q allowed has = by (eq_by_cmp text_cmp q client) refl
  where
    by : (b : Bool) → eq_by_cmp text_cmp q client ≡ b → Was q h (Session (Over client))
    by true e = absurd (let z : None ≡ Some has.0 = sym (get_removed h.sessions client) ∙ ap (map.get (map.remove h.sessions client)) (sym (same_text q client e)) ∙ has.1 in cc)
    by false e = inr (has.0, sym (get_left h.sessions client q e) ∙ has.1)

connection_was : (h : HeldView) (a : ConnectionAct) (q : List ℕ) → Has q (next h (Connection a)) → Has q h
connection_was h (Opened c) q has = has
connection_was h (Fed c piece) q has = has
connection_was h (Accepted c client) q has = has
connection_was h (Roomed c bytes) q has = has
connection_was h (Closed c) q has = has

bridge_was : (h : HeldView) (a : BridgeAct) (q : List ℕ) → Has q (next h (Bridge a)) → Has q h
bridge_was h (Put peer m) q has = has
bridge_was h (Took peer number m copies lost) q has = has
bridge_was h (Got peer number) q has = has
bridge_was h (Believed peer dots) q has = has
bridge_was h (Greeted peer g) q has = has
bridge_was h (Gave f) q has = has
bridge_was h (Left_out what) q has = has

act_was : (p : Place) (h : HeldView) (a : Act) (q : List ℕ) → Allowed p h a → Has q (next h a) → Was q h a
act_was p h (Session a) q allowed has = session_was p h a q allowed has
act_was p h (Connection a) q allowed has = inr (connection_was h a q has)
act_was p h (Bridge a) q allowed has = inr (bridge_was h a q has)
act_was p h (MomentTaken at) q allowed has = inr has
act_was p h Began q allowed has = inr has
act_was p h (Moved homes) q allowed has = inr has
act_was p h (Store a) q allowed has = inr has
act_was p h (Out o) q allowed has = inr has
act_was p h (Named number) q allowed has = inr has
act_was p h (Acknowledged client packet at grants offers) q allowed has = inr has
act_was p h (Passed m copies lost routes) q allowed has = inr has
act_was p h Dropped q allowed has = inr has

-- ---- no session of a client whose home is elsewhere
abbrev NoneAway : Place → HeldView → Type 0
NoneAway p h = (q : List ℕ) → Has q h → IsElsewhere h.homes p.id q → ⊥

-- it stays so where no table is taken
act_none : (p : Place) (h : HeldView) (a : Act) → Allowed p h a → moved_in a ≡ [] → Begin p h (a ∷ []) → NoneAway p h → NoneAway p (next h a)
act_none p h a allowed none begin away q has elsewhere =
    let homes : (next h a).homes ≡ h.homes = homes_by (λ t. t ≡ h.homes) p h a allowed (λ t is. absurd (let e : t ∷ [] ≡ [] = sym (ap moved_in is) ∙ none in cc)) refl in
    let here : IsElsewhere h.homes p.id q = subst (λ (t : Table). IsElsewhere t p.id q) homes elsewhere in
    elim (act_was p h a q allowed has) [
      | inl is ↦ here (begin [] [] q h (ap (λ x. x ∷ []) is) refl)
      | inr was ↦ away q was here
    ]

nothing_of : {A : Type 0} (xs ys : List A) → xs ++ ys ≡ [] → (xs ≡ []) × (ys ≡ [])
nothing_of [] ys e = (refl, e)
nothing_of (x ∷ xs) ys e = absurd (let z : x ∷ (xs ++ ys) ≡ [] = e in cc)

first_begins : (p : Place) (h : HeldView) (a : Act) (acts : List Act) → Begin p h (a ∷ acts) → Begin p h (a ∷ [])
first_begins p h a acts begin [] after client mid is ran = begin [] acts client mid (ap (λ x. x ∷ acts) (let z : a ≡ Session (Begun client) = cc in z)) ran
first_begins p h a acts begin (b ∷ before) after client mid is ran = absurd (let z : [] ≡ before ++ Session (Begun client) ∷ after = cc in nothing_there before after (Session (Begun client)) z)
  where
    nothing_there : (before after : List Act) (x : Act) → [] ≡ before ++ x ∷ after → ⊥
    nothing_there [] after x e = cc
    nothing_there (y ∷ before) after x e = cc

acts_none : (p : Place) (acts : List Act) (h h' : HeldView) → Runs p h acts h' → gather moved_in acts ≡ [] → Begin p h acts → NoneAway p h → NoneAway p h'
acts_none p [] h h' ran none begin away = subst (NoneAway p) (sym ran) away
acts_none p (a ∷ acts) h h' ran none begin away =
    let parts = nothing_of (moved_in a) (gather moved_in acts) none in
    let later : Begin p ran.0 acts = λ before after client mid is runs. begin (a ∷ before) after client mid (ap (λ xs. a ∷ xs) is) (ran.0, ran.1, runs) in
    acts_none p acts ran.0 h' ran.2 parts.1 later (subst (NoneAway p) (sym ran.1.1) (act_none p h a ran.1.0 parts.0 (first_begins p h a acts begin) away))

-- ---- as it is told
pub has_is : (q : List ℕ) (h : HeldView) → Has q h → has_session q h ≡ true
has_is q h has = ap is_some has.1

told : (p : Place) (h : HeldView) → NoneAway p h → NoneElsewhere p.id h
told p h away q has = away q (has_of q h has)

known : (p : Place) (h : HeldView) → NoneElsewhere p.id h → NoneAway p h
known p h none q has = none q (has_is q h has)

-- ---- a step
-- an event that brings no table takes none
pub no_table : (kind : EventKind) (started : Bool) (p : Place) (h : HeldView) (rest : List Act) → ((homes : Table) → kind ≡ kinds.Table homes → ⊥) → If started (turns.AnswersAfterDue kind) (turns.AwaitsStart kind) (Some tt) p h rest → gather moved_in rest ≡ []
no_table kind started p h rest other d = by kind started other (turn_brings started kind p h rest d).moved
  where
    by : (kind : EventKind) (started : Bool) → ((homes : Table) → kind ≡ kinds.Table homes → ⊥) → cond started (MayBringTables kind (gather moved_in rest)) (gather moved_in rest ≡ []) → gather moved_in rest ≡ []
    by kind false other e = e
    by kinds.Started true other e = e
    by (kinds.Opened connection) true other e = e
    by (kinds.Piece connection bytes) true other e = e
    by (kinds.Closed connection) true other e = e
    by (kinds.Room connection bytes) true other e = e
    by (kinds.Frame bytes) true other e = e
    by (kinds.Linked peer) true other e = e
    by (kinds.Ship peer) true other e = e
    by (kinds.More peer after) true other e = e
    by kinds.Tick true other e = e
    by (kinds.Evict client) true other e = e
    by (kinds.Table homes) true other e = absurd (other homes refl)

-- nor does what is due, or a table that is refused
pub due_tables : (e : Event) (p : Place) (h : HeldView) (first : TicksFirst e p h) → gather moved_in first.due ≡ []
due_tables e p h first =
    let k = turning (record { at = e.at; kind = kinds.Tick }) p h first.due first.does in
    ap (gather moved_in) k.is ∙ no_table kinds.Tick h.started p (next h (MomentTaken e.at)) k.rest (λ homes z. cc) k.does

pub refused_tables : (e : Event) (p : Place) (h last : HeldView) (acts : List Act) → TableIsRefused e p h acts last → gather moved_in acts ≡ []
refused_tables e p h last acts r = ap (gather moved_in) r.is ∙ gather-append moved_in r.first.due (Bridge (Left_out TableRefused) ∷ []) ∙ (λ i. due_tables e p h r.first i ++ [])

pub is_table : (kind : EventKind) → ((homes : Table) × (kind ≡ kinds.Table homes)) ⊎ ((homes : Table) → kind ≡ kinds.Table homes → ⊥)
is_table kinds.Started = inr (λ homes e. cc)
is_table (kinds.Opened connection) = inr (λ homes e. cc)
is_table (kinds.Piece connection bytes) = inr (λ homes e. cc)
is_table (kinds.Closed connection) = inr (λ homes e. cc)
is_table (kinds.Room connection bytes) = inr (λ homes e. cc)
is_table (kinds.Frame bytes) = inr (λ homes e. cc)
is_table (kinds.Linked peer) = inr (λ homes e. cc)
is_table (kinds.Ship peer) = inr (λ homes e. cc)
is_table (kinds.More peer after) = inr (λ homes e. cc)
is_table kinds.Tick = inr (λ homes e. cc)
is_table (kinds.Evict client) = inr (λ homes e. cc)
is_table (kinds.Table homes) = inl (homes, refl)

-- before it has started only Started brings a node to do anything
first_nothing : (kind : EventKind) (p : Place) (h : HeldView) (rest : List Act) → turns.AwaitsStart kind (Some tt) p h rest → (kind ≡ kinds.Started) ⊎ (rest ≡ [])
first_nothing kinds.Started p h rest d = inl refl
first_nothing (kinds.Opened connection) p h rest d = inr d.1
first_nothing (kinds.Piece connection bytes) p h rest d = inr d.1
first_nothing (kinds.Closed connection) p h rest d = inr d.1
first_nothing (kinds.Room connection bytes) p h rest d = inr d.1
first_nothing (kinds.Frame bytes) p h rest d = inr d.1
first_nothing (kinds.Linked peer) p h rest d = inr d.1
first_nothing (kinds.Ship peer) p h rest d = inr d.1
first_nothing (kinds.More peer after) p h rest d = inr d.1
first_nothing kinds.Tick p h rest d = inr d.1
first_nothing (kinds.Evict client) p h rest d = inr d.1
first_nothing (kinds.Table homes) p h rest d = inr d.1

module _ (e : Event) (p : Place) (h last : HeldView) (acts : List Act) (placed : IsInItsTable p h) (d : turns.Decides e (Some tt) p h acts) (runs : Runs p h acts last) where
  t : Turning p h e acts
  t = turning e p h acts d

  begins : Begin p h acts
  begins = decides p placed.number e tt h acts placed.nodes d

  -- after a move none is left; or no table is taken, and a node that has started afterwards had before
  abbrev Comes : Type 0
  Comes = NoneAway p last ⊎ ((gather moved_in acts ≡ []) × (last.started ≡ true → h.started ≡ true))

  unstarted : h.started ≡ false → Comes
  unstarted waits = elim (first_nothing e.kind p (next h (MomentTaken e.at)) t.rest (subst (λ b. If b (turns.AnswersAfterDue e.kind) (turns.AwaitsStart e.kind) (Some tt) p (next h (MomentTaken e.at)) t.rest) waits t.does)) [
    | inl is ↦ inl (let s = starts_send_away e p h last acts is waits d runs in none_away p s.left last s.rest s.sends)
    | inr none ↦ inr (
        let whole : acts ≡ MomentTaken e.at ∷ [] = t.is ∙ ap (λ xs. MomentTaken e.at ∷ xs) none in
        let left : last ≡ next h (MomentTaken e.at) = left_by p h last (MomentTaken e.at) acts whole runs in (ap (gather moved_in) whole, λ started. sym (ap (λ (v : HeldView). v.started) left) ∙ started))
  ]

  goes_on : h.started ≡ true → Comes
  goes_on started = elim (is_table e.kind) [
    | inl table ↦ (elim (tables_are_taken e table.0 p h last acts table.1 started d runs) [
      | inl taken ↦ inl (none_away p (record taken.1.first.left { homes = table.0 }) last taken.1.rest taken.1.sends)
      | inr refused ↦ inr (refused_tables e p h last acts refused.1, λ any. started)
    ])
    | inr other ↦ inr (ap (gather moved_in) t.is ∙ no_table e.kind h.started p (next h (MomentTaken e.at)) t.rest other t.does, λ any. started)
  ]

  comes : Comes
  comes = by h.started refl
    where
      by : (b : Bool) → h.started ≡ b → Comes
      by true is = goes_on is
      by false is = unstarted is

  none_stays : NoneElsewhere p.id h → NoneElsewhere p.id last
  none_stays none = told p last (elim comes [ inl away ↦ away | inr x ↦ acts_none p acts h last runs x.0 begins (known p h none) ])

  own_stays : HasItsOwn p.id h → HasItsOwn p.id last
  own_stays own started = told p last (elim comes [ inl away ↦ away | inr x ↦ acts_none p acts h last runs x.0 begins (known p h (own (x.1 started))) ])

pub sessions_are_at_home : SessionsAreAtHome
sessions_are_at_home = λ e p h last acts placed d runs. (none_stays e p h last acts placed d runs, own_stays e p h last acts placed d runs, begins e p h last acts placed d runs)
