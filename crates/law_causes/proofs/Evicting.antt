-- What an eviction removes.
use Rattle.std.proofs.Common.{◌≡◌, ◌⊎◌, inl, inr, ℕ, ◌^◌, not, nat_lt, Bool, true, false, List, [], ◌∷◌, ◌++◌, Option, Some, None, refl, sym, ap, ◌∙◌, subst, append_assoc}
use Rattle.std.proofs.lemmas.List.{append-nil}
use Rattle.std.specs.FinSet as set
use Rattle.std.specs.Cmp.Lexicographic.{bytes_decides}
use Rattle.std.specs.Ordering.{eq_by_cmp}
use Rattle.causal_context.specs.Dots.{Dot, dot_cmp}
use Rattle.subscription_set.specs.declared.entry.Entry.{Entry}
use Rattle.subscription_set.specs.Entries.{is_of}
use Rattle.subscription_set.specs.Standing.{standing, any_of, dots_of}
use Rattle.subscription_set.proofs.Lists.{contains-dots_in}
use Rattle.replica_store.specs.declared.operation.Operation.{Operation}
use Rattle.replica_store.specs.Operations.{dot_of, Stands, HaveOwnDots}
use Rattle.replica_store.specs.States.{State}
use Rattle.replica_store.specs.StateOf.{IsStateOf}
use Rattle.replica_store.proofs.Views.{cover_is}
use Rattle.node_work.specs.Acts.{Act, Store, Made, MomentTaken, Runs, gather, op_in, next}
use Rattle.node_work.specs.Doings.{MakesRemove}
use Rattle.node_work.specs.Held.Making.{number_at_end, removal}
use Rattle.node_work.specs.View.{Place, HeldView}
use Rattle.node_work.specs.Working.{Doing, Returns, If, Then}
use Rattle.node_work.proofs.Working.{runs_join}
use Rattle.broker_node.specs.declared.event.Event.{Event}
use Rattle.broker_node.specs.declared.event.EventKind.TheVariants as kinds
use Rattle.broker_node.specs.Turns as turns
use Rattle.law_runs.proofs.Keeping.{none_some}
use Rattle.law_runs.proofs.Passing.{numbered}
use Rattle.law_runs.proofs.Splits.{left_by}
use Rattle.cluster_play.specs.Worlds.{World}
use Rattle.cluster_play.specs.Runs.{Played}
use Rattle.cluster_play.specs.Histories.{Reached, site, event_committed, acts_of, made, taken_amid, operations_amid}
use Rattle.cluster_play.specs.Agreement.{HoldsAmid}
use Rattle.cluster_play.proofs.Agreeing.{own_dots}
use Rattle.cluster_play.proofs.Amid.{amid_acts}
use Rattle.cluster_play.proofs.Operations.{own_some}
use Rattle.cluster_play.proofs.Paths.{midway, made_more}
use Rattle.cluster_play.proofs.Rows.{committed}
use Rattle.cluster_play.proofs.Showing.{node_holds_amid}
use Rattle.law_causes.specs.Ends.{EvictsWithRemove, EvictionsHaveRemoves}
use Rattle.law_causes.proofs.EndLaws.{none_passes}

-- ---- in a step
-- the last act is the Remove, or nothing stands
pub record Evicted (p : Place) (h : HeldView) (client : List ℕ) (acts : List Act) : Type 0 where
  pub before : List Act
  pub mid : HeldView
  pub runs : Runs p h before mid
  pub removes : (acts ≡ before ++ Store (Made (removal p.id client None mid.store)) ∷ []) ⊎ ((acts ≡ before) × (any_of client None mid.store.subscriptions ≡ false))

removed_by : (stands : Bool) (client : List ℕ) (y : Bool) (p : Place) (h : HeldView) (own : List Act) → any_of client None h.store.subscriptions ≡ stands
    → If stands (Then (MakesRemove client None) (λ _. Returns true)) (Returns false) (Some y) p h own → (own ≡ Store (Made (removal p.id client None h.store)) ∷ []) ⊎ ((own ≡ []) × (any_of client None h.store.subscriptions ≡ false))
removed_by false client y p h own none d = inr (d.1, none)
removed_by true client y p h own some (inl d) = none_some (sym d.0)
removed_by true client y p h own some (inr (x, made, left, none, one, ran, also, same)) =
    inl (same ∙ (λ i. made ++ also.1 i) ∙ append-nil made ∙ numbered (number_at_end p.id h) x (Store (Made (removal p.id client None h.store))) made one)

-- after these acts
evicted_after : (client : List ℕ) (x : Unit {0}) (p : Place) (start h : HeldView) (front acts : List Act) → Runs p start front h → turns.Evicts client (Some x) p h acts → Evicted p start client (front ++ acts)
evicted_after client x p start h front acts ran (inl d) = none_some (sym d.0)
evicted_after client x p start h front acts ran (inr (y, own, mid, rest, one, runs, more, is)) =
    let alone : acts ≡ own = is ∙ (λ i. own ++ more.1 i) ∙ append-nil own in
    record {
      before = front;
      mid = h;
      runs = ran;
      removes = elim (removed_by (any_of client None h.store.subscriptions) client y p h own refl one) [
        | inl made ↦ inl (ap (λ zs. front ++ zs) (alone ∙ made))
        | inr none ↦ inr (ap (λ zs. front ++ zs) (alone ∙ none.0) ∙ append-nil front, none.1)
      ];
    }

started_by : {A : Type 0} (b : Bool) (P Q : Option A → Doing) (out : Option A) (p : Place) (h : HeldView) (acts : List Act) → b ≡ true → If b P Q out p h acts → P out p h acts
started_by true P Q out p h acts e d = d
started_by false P Q out p h acts e d = absurd (let z : false ≡ true = e in cc)

due_first : (client : List ℕ) (x : Unit {0}) (p : Place) (start h : HeldView) (front acts : List Act) → Runs p start front h → turns.AnswersAfterDue (kinds.Evict client) (Some x) p h acts → Evicted p start client (front ++ acts)
due_first client x p start h front acts ran (inl d) = none_some (sym d.0)
due_first client x p start h front acts ran (inr (y, own, mid, rest, one, runs, more, is)) =
    subst (Evicted p start client) (append_assoc front own rest ∙ ap (λ zs. front ++ zs) (sym is)) (evicted_after client x p start mid (front ++ own) rest (runs_join p front own start h mid ran runs) more)

evicted : (e : Event) (p : Place) (h : HeldView) (acts : List Act) (client : List ℕ) → e.kind ≡ kinds.Evict client → h.started ≡ true → turns.Decides e (Some tt) p h acts → Evicted p h client acts
evicted e p h acts client kind started (inl d) = none_some (sym d.0)
evicted e p h acts client kind started (inr (y, own, mid, rest, one, runs, more, is)) =
    let a = MomentTaken e.at in
    let alone : own ≡ a ∷ [] = numbered (not (nat_lt e.at (2 ^ 62))) y a own one in
    let left : mid ≡ next h a = left_by p h mid a own alone runs in
    let turn = subst (λ k. turns.Turn k (Some tt) p mid rest) kind more in
    let on : mid.started ≡ true = ap (λ (v : HeldView). v.started) left ∙ started in
    subst (Evicted p h client) (sym is) (due_first client tt p h mid own rest runs (started_by mid.started (turns.AnswersAfterDue (kinds.Evict client)) (turns.AwaitsStart (kinds.Evict client)) (Some tt) p mid rest on turn))

-- ---- in a run
none_stand : (O : List Operation) (s : State) → HaveOwnDots O → IsStateOf O s → (client : List ℕ) → any_of client None s.subscriptions ≡ false → (dot : Dot) (entry : Entry) → Stands O dot entry → entry.client ≡ client → ⊥
none_stand O s own is client none dot entry stands whose =
    let p : Entry → Bool = is_of client None in
    let passes : p entry ≡ true = (bytes_decides client entry.client).1 (sym whose) in
    let there : set.contains (dots_of client None s.subscriptions) dot ≡ true = (cover_is O s own is client None dot).1 (entry, stands, passes) in
    let z : false ≡ true = sym (none_passes p (λ d. eq_by_cmp dot_cmp dot d) (standing s.subscriptions) none) ∙ sym (contains-dots_in p (standing s.subscriptions) dot) ∙ there in
    cc z

eviction_has_remove : (run later : List Played) (m : Played) (w : World) → Reached (run ++ m ∷ later) w → (e : Event) (client : List ℕ) → event_committed m.fate ≡ Some e → e.kind ≡ kinds.Evict client → EvictsWithRemove run m client
eviction_has_remove run later m w r e client commits kind =
    let i = site m.fate in
    let half = midway run (m ∷ later) w r in
    let c = committed half.mid m.step m.fate half.path.0 e half.path.1 commits in
    let place = c.was.node.place in
    let there : (pre rest : List Act) (h : HeldView) → Runs place c.before pre h → acts_of m.fate ≡ pre ++ rest → HoldsAmid half.mid m i pre h =
    λ pre rest h runs so. record { event = e; commits = commits; at = refl; rest = rest; acts = so; held = c.before; holds = record { site = c.was; at = c.at; up = c.up }; runs = runs } in
    let state : (pre rest : List Act) (h : HeldView) → Runs place c.before pre h → acts_of m.fate ≡ pre ++ rest → IsStateOf (operations_amid i run pre) h.store =
    λ pre rest h runs so. (node_holds_amid run half.mid half.path.0 m half.reached half.honest.0 half.path.1 i pre h (there pre rest h runs so)).state in
    let whole : acts_of m.fate ≡ acts_of m.fate ++ [] = sym (append-nil (acts_of m.fate)) in
    let after = midway (run ++ m ∷ []) later w (subst (λ ms. Reached ms w) (sym (append_assoc run (m ∷ []) later)) r) in
    let all : HaveOwnDots (made run ++ gather op_in (acts_of m.fate)) = subst HaveOwnDots (sym (made_more run m)) (own_dots (run ++ m ∷ []) after.mid after.reached) in
    let own : HaveOwnDots (operations_amid i run (acts_of m.fate)) = own_some _ (λ o. taken_amid i run (acts_of m.fate) (dot_of o)) all in
    record {
      world = half.mid;
      reached = half.reached;
      held = c.before;
      there = there [] (acts_of m.fate) c.before refl refl;
      removes = λ started. (
          let d = evicted e place c.before (acts_of m.fate) client kind started c.steps.does in
          elim d.removes [
            | inl is ↦ inl (record {
              before = d.before;
              dot = _;
              cover = _;
              is = is;
              covers = λ dot. cover_is (operations_amid i run d.before) d.mid.store (own_some _ (λ o. taken_amid i run d.before (dot_of o)) (amid_acts run later m w r d.before [] (Store (Made (removal place.id client None d.mid.store))) is).grown.own_dots)
                  (state d.before (Store (Made (removal place.id client None d.mid.store)) ∷ []) d.mid d.runs is) client None dot;
            })
            | inr none ↦ inr (none_stand (operations_amid i run (acts_of m.fate)) d.mid.store own
                (state (acts_of m.fate) [] d.mid (subst (λ zs. Runs place c.before zs d.mid) (sym none.0) d.runs) whole) client none.1)
          ]);
    }

pub evictions_have_removes : EvictionsHaveRemoves
evictions_have_removes = λ run later m w r e client commits kind. eviction_has_remove run later m w r e client commits kind
