-- What a session's end removes, in every run.
use Rattle.std.proofs.Common.{◌≡◌, inl, inr, ℕ, ◌+◌, ◌==◌, ◌&&◌, ◌||◌, nat_lt, cond, Bool, true, false, List, [], ◌∷◌, ◌++◌, refl, sym, ap, ◌∙◌, subst, append_assoc}
use Rattle.std.specs.List.{list_any}
use Rattle.std.specs.FinSet as set
use Rattle.std.specs.Cmp.Lexicographic.{bytes_decides}
use Rattle.std.specs.Ordering.{eq_by_cmp}
use Rattle.std.proofs.lemmas.Bool.{lt-ltb}
use Rattle.causal_context.specs.Dots.{Dot, dot_cmp}
use Rattle.home_table.specs.Table.{Table}
use Rattle.subscription_set.specs.declared.entry.Entry.{Entry}
use Rattle.subscription_set.specs.Entries.{is_of_below, same_text}
use Rattle.subscription_set.specs.Standing.{Entries, standing, any_below, dots_below}
use Rattle.subscription_set.proofs.Lists.{contains-dots_in}
use Rattle.replica_store.specs.declared.operation.Operation.{Operation}
use Rattle.replica_store.specs.Operations.{dot_of, HaveOwnDots}
use Rattle.replica_store.specs.States.{State}
use Rattle.replica_store.specs.StateOf.{IsStateOf}
use Rattle.replica_store.proofs.Views.{cover_below_is}
use Rattle.node_work.specs.Acts.{Act, Store, Made, Session, Runs}
use Rattle.node_work.specs.Held.Making.{removal_below}
use Rattle.node_work.specs.Held.Sessions.{Over}
use Rattle.node_work.specs.View.{HeldView}
use Rattle.node_clients.specs.Ending.{ends_below}
use Rattle.cluster_play.specs.Worlds.{World}
use Rattle.cluster_play.specs.Runs.{Played}
use Rattle.cluster_play.specs.Histories.{Reached, site, acts_of, taken_amid, operations_amid}
use Rattle.cluster_play.specs.Agreement.{HoldsAmid}
use Rattle.cluster_play.specs.NextOperations.{CoversWhatStandsBelow}
use Rattle.cluster_play.proofs.Amid.{amid_acts, runs_split}
use Rattle.cluster_play.proofs.Operations.{own_some}
use Rattle.cluster_play.proofs.Paths.{commits_acts, midway}
use Rattle.cluster_play.proofs.Rows.{committed}
use Rattle.cluster_play.proofs.Showing.{node_holds_amid}
use Rattle.law_causes.specs.Ends.{NothingStands, EndsWithRemove, EndsHaveRemoves}
use Rattle.law_causes.proofs.CauseLaws.{below_by}
use Rattle.law_causes.proofs.Overs.{all_ended}

and_both : (a b : Bool) → a ≡ true → b ≡ true → (a && b) ≡ true
and_both true b e h = h
and_both false b e h = cc

pub none_passes : (p : Entry → Bool) (r : Dot → Bool) (es : Entries) → list_any (λ x. p x.1) es ≡ false → list_any (λ x. p x.1 && r x.0) es ≡ false
none_passes p r [] e = refl
none_passes p r (x ∷ es) e = by (p x.1) (list_any (λ y. p y.1) es) e (none_passes p r es)
  where
    by : (a b : Bool) → (a || b) ≡ false → (b ≡ false → list_any (λ y. p y.1 && r y.0) es ≡ false) → ((a && r x.0) || list_any (λ y. p y.1 && r y.0) es) ≡ false
    by true b t f = absurd (let z : true ≡ false = t in cc)
    by false b t f = f t

nothing_stands : (O : List Operation) (s : State) → HaveOwnDots O → IsStateOf O s → (client : List ℕ) (version : ℕ) → any_below client version s.subscriptions ≡ false → NothingStands O client version
nothing_stands O s own is client version none dot entry stands whose older =
    let p : Entry → Bool = is_of_below client version in
    let passes : p entry ≡ true = and_both (same_text client entry.client) (nat_lt entry.version version) ((bytes_decides client entry.client).1 (sym whose)) (lt-ltb entry.version version older) in
    let there : set.contains (dots_below client version s.subscriptions) dot ≡ true = (cover_below_is O s own is client version dot).1 (entry, stands, passes) in
    let z : false ≡ true = sym (none_passes p (λ d. eq_by_cmp dot_cmp dot d) (standing s.subscriptions) none) ∙ sym (contains-dots_in p (standing s.subscriptions) dot) ∙ there in
    absurd (cc z)

end_has_remove : (run later : List Played) (m : Played) (w : World) → Reached (run ++ m ∷ later) w → (before after : List Act) (client : List ℕ) → acts_of m.fate ≡ before ++ Session (Over client) ∷ after → EndsWithRemove run m before client
end_has_remove run later m w r before after client is =
    let i = site m.fate in
    let a = Session (Over client) in
    let half = midway run (m ∷ later) w r in
    let e = commits_acts m.fate before after a is in
    let c = committed half.mid m.step m.fate half.path.0 e.0 half.path.1 e.1 in
    let place = c.was.node.place in
    let parts = runs_split place before (a ∷ after) c.before c.after (subst (λ acts. Runs place c.before acts c.after) is c.steps.runs) in
    let there : (pre rest : List Act) (h : HeldView) → Runs place c.before pre h → acts_of m.fate ≡ pre ++ rest → HoldsAmid half.mid m i pre h =
    λ pre rest h runs so. record { event = e.0; commits = e.1; at = refl; rest = rest; acts = so; held = c.before; holds = record { site = c.was; at = c.at; up = c.up }; runs = runs } in
    let state : (pre rest : List Act) (h : HeldView) → Runs place c.before pre h → acts_of m.fate ≡ pre ++ rest → IsStateOf (operations_amid i run pre) h.store =
    λ pre rest h runs so. (node_holds_amid run half.mid half.path.0 m half.reached half.honest.0 half.path.1 i pre h (there pre rest h runs so)).state in
    let own : (pre rest : List Act) (x : Act) → acts_of m.fate ≡ pre ++ x ∷ rest → HaveOwnDots (operations_amid i run pre) =
    λ pre rest x so. own_some _ (λ o. taken_amid i run pre (dot_of o)) (amid_acts run later m w r pre rest x so).grown.own_dots in
    elim (all_ended e.0 place c.before (acts_of m.fate) c.steps.does before after client parts.0 is parts.1) [
      | inl d ↦ (
          let x = Store (Made (removal_below place.id client (ends_below d.node place d.mid) d.mid.store)) in
          let so : acts_of m.fate ≡ d.earlier ++ x ∷ (a ∷ after) = is ∙ ap (λ zs. zs ++ a ∷ after) d.is ∙ append_assoc d.earlier (x ∷ []) (a ∷ after) in
          record {
            world = half.mid;
            reached = half.reached;
            held = parts.0;
            there = there before (a ∷ after) parts.0 parts.1 is;
            version = ends_below d.node place parts.0;
            below = below_by (d.node == place.id) d.node place parts.0 client d.home refl;
            removes = inl (record {
              earlier = d.earlier;
              dot = _;
              cover = _;
              is = d.is;
              covers = subst (λ version. CoversWhatStandsBelow (operations_amid i run d.earlier) client version (dots_below client (ends_below d.node place d.mid) d.mid.store.subscriptions)) (ap (λ (t : Table). cond (d.node == place.id) (t.version + 1) t.version) (sym d.same))
                  (λ dot. cover_below_is (operations_amid i run d.earlier) d.mid.store (own d.earlier (a ∷ after) x so) (state d.earlier (x ∷ a ∷ after) d.mid d.runs so) client (ends_below d.node place d.mid) dot);
            });
          })
      | inr d ↦ record {
        world = half.mid;
        reached = half.reached;
        held = parts.0;
        there = there before (a ∷ after) parts.0 parts.1 is;
        version = ends_below d.node place parts.0;
        below = below_by (d.node == place.id) d.node place parts.0 client d.home refl;
        removes = inr (nothing_stands (operations_amid i run before) parts.0.store (own before after a is) (state before (a ∷ after) parts.0 parts.1 is) client (ends_below d.node place parts.0) d.none);
      }
    ]

pub ends_have_removes : EndsHaveRemoves
ends_have_removes = λ run later m w r before after client is. end_has_remove run later m w r before after client is
