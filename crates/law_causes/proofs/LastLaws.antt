-- The last of equal filters stands, in every run.
use Rattle.std.proofs.Common.{◌≡◌, inl, inr, ℕ, ◌<◌, ◌≤◌, ◌&&◌, Bool, true, false, List, [], ◌∷◌, ◌++◌, refl, sym, ap, ◌∙◌, subst, append_assoc, arith}
use Rattle.std.specs.Cmp.{IsTotalOrder, nat_cmp_total}
use Rattle.std.specs.Cmp.Lexicographic.{bytes_decides}
use Rattle.std.specs.List.{AllByRecursion}
use Rattle.std.specs.Ordering.{is_lt}
use Rattle.std.proofs.lemmas.Cmp.{on_total, then_total, tied_itself}
use Rattle.causal_context.specs.Dots.{Dot, Dots}
use Rattle.mqtt_packets.specs.declared.subscribe.SubscribeFilter.{SubscribeFilter}
use Rattle.subscription_set.specs.declared.entry.Entry.{Entry}
use Rattle.subscription_set.specs.Entries.{recency_cmp, same_subscription, same_text}
use Rattle.replica_store.specs.declared.operation.Operation.{Operation}
use Rattle.replica_store.specs.declared.operation.Operation.TheVariants as operations
use Rattle.replica_store.specs.Operations.{dot_of, Stands, HaveOwnDots}
use Rattle.replica_store.specs.StateOf.{IsStateOf}
use Rattle.replica_store.proofs.Views.{live_is}
use Rattle.node_work.specs.Acts.{Act, Store, Made, Session, Runs}
use Rattle.node_work.specs.Held.Sessions.{Called}
use Rattle.node_work.specs.View.{HeldView}
use Rattle.node_clients.specs.Subscribing.{subscription_entry, identifier_of}
use Rattle.cluster_play.specs.Worlds.{World}
use Rattle.cluster_play.specs.Runs.{Played, Run}
use Rattle.cluster_play.specs.Agreement.{HoldsAmid}
use Rattle.cluster_play.specs.Histories.{Reached, site, acts_of, taken_amid, operations_amid}
use Rattle.cluster_play.proofs.Amid.{amid_acts, runs_split}
use Rattle.cluster_play.proofs.Operations.{own_some}
use Rattle.cluster_play.proofs.Paths.{commits_acts, midway}
use Rattle.cluster_play.proofs.Rows.{committed}
use Rattle.cluster_play.proofs.Showing.{node_holds_amid}
use Rattle.cluster_play.proofs.Splits.{all_front, all_both}
use Rattle.law_runs.specs.Staying.{CallsSession}
use Rattle.law_runs.specs.Filters.{FilterReply, AreFiltersAnswered, IsFilterAnswered}
use Rattle.law_runs.specs.Subacks.{with_call}
use Rattle.law_causes.specs.Equals.{StandsAlone, HasOneSubscription, IsGrant, NoneEquals, LastOfEqualsStands}
use Rattle.law_causes.specs.Requests.{AsksToSubscribe, SubscribesInOrder}
use Rattle.law_causes.proofs.Covered.{new_is_fresh, none_covers_new}
use Rattle.law_causes.proofs.Equals.{MakesOne, NoneTo, all_made, last_stands}

-- ---- what stands alone is live
recency_total : IsTotalOrder recency_cmp
recency_total = then_total (on_total (λ (x : Dot × Entry). x.1.version) nat_cmp_total) (then_total (on_total (λ (x : Dot × Entry). x.0.number) nat_cmp_total) (on_total (λ (x : Dot × Entry). x.0.node) nat_cmp_total))

and_first : (a b : Bool) → (a && b) ≡ true → a ≡ true
and_first true b e = refl
and_first false b e = cc

and_second : (a b : Bool) → (a && b) ≡ true → b ≡ true
and_second true b e = e
and_second false b e = cc

abbrev IsAlone : List Operation → Dot → Entry → Type 0
IsAlone O dot entry = (d : Dot) (e : Entry) → Stands O d e → e.client ≡ entry.client → e.filter ≡ entry.filter → (d ≡ dot) × (e ≡ entry)

stands_alone : (O : List Operation) (dot : Dot) (entry : Entry) → Stands O dot entry → IsAlone O dot entry → StandsAlone O dot entry
stands_alone O dot entry stands alone = record {
  live = record {
    stands = stands;
    latest = λ other its there same. (
        let is = alone other its there ((bytes_decides its.client entry.client).0 (and_first (same_text its.client entry.client) (same_text its.filter entry.filter) same))
        ((bytes_decides its.filter entry.filter).0 (and_second (same_text its.client entry.client) (same_text its.filter entry.filter) same)) in
        (λ n. is_lt (recency_cmp (dot, entry) (is.0 n, is.1 n))) ∙ ap is_lt (tied_itself recency_total (dot, entry)));
  };
  alone = alone;
}

-- ---- the acts that answer filters
refused_code : (code n : ℕ) → code ≡ n → code < 128 → 128 ≤ n → ⊥
refused_code code n is low high = omega (arith, is, low, high)

nothing_there : {A P : Type 0} (xs ys : List A) (x : A) → [] ≡ xs ++ x ∷ ys → P
nothing_there [] ys x h = cc
nothing_there (y ∷ xs) ys x h = cc

-- an act makes no Subscribe of the client to the filter
abbrev MakesOther : List ℕ → List ℕ → Act → Type 0
MakesOther client to a = (d : Dot) (e : Entry) (c : Dots) → a ≡ Store (Made (operations.Subscribe d e c)) → e.client ≡ client → e.filter ≡ to → ⊥

module _ (run : List Played) (m : Played) (client : List ℕ) (identifier : ℕ) where
  abbrev IsAnswered : List Act → SubscribeFilter → FilterReply → List Act → Type 0
  IsAnswered first f r acts = IsFilterAnswered (operations_amid (site m.fate) run first) client identifier f r acts

  one_made : (first : List Act) (f : SubscribeFilter) (r : FilterReply) (acts : List Act) → IsAnswered first f r acts → AllByRecursion MakesOne acts
  one_made first f r acts (inl x) = subst (AllByRecursion MakesOne) (sym x.1.2) tt
  one_made first f r acts (inr (inl x)) = subst (AllByRecursion MakesOne) (sym x.2.2) tt
  one_made first f r acts (inr (inr x)) = let own = x.2.2 in subst (AllByRecursion MakesOne) (sym own.3) ((own.0, subscription_entry client f identifier own.2, own.1, refl), tt)

  all_ones : (first : List Act) (fs : List SubscribeFilter) (rs : List FilterReply) (acts : List Act) → AreFiltersAnswered run m first client identifier fs rs acts → AllByRecursion MakesOne acts
  all_ones first [] rs acts d = subst (AllByRecursion MakesOne) (sym d.1) tt
  all_ones first (f ∷ fs) rs acts (r, others, own, rest, is, of, parts, one, more) =
      subst (AllByRecursion MakesOne) (sym parts) (all_both MakesOne own rest (one_made first f r own one) (all_ones (first ++ own) fs others rest more))

  other_made : (to : List ℕ) (first : List Act) (f : SubscribeFilter) (r : FilterReply) (acts : List Act) → (f.filter ≡ to → ⊥) → IsAnswered first f r acts → AllByRecursion (MakesOther client to) acts
  other_made to first f r acts ne (inl x) = subst (AllByRecursion (MakesOther client to)) (sym x.1.2) tt
  other_made to first f r acts ne (inr (inl x)) = subst (AllByRecursion (MakesOther client to)) (sym x.2.2) tt
  other_made to first f r acts ne (inr (inr x)) =
      let own = x.2.2 in
      let entry = subscription_entry client f identifier own.2 in
      subst (AllByRecursion (MakesOther client to)) (sym own.3)
      ((λ d e c is whose filter. (let same : entry ≡ e = (let z : Store (Made (operations.Subscribe own.0 entry own.1)) ≡ Store (Made (operations.Subscribe d e c)) = is in cc) in ne (ap (λ (v : Entry). v.filter) same ∙ filter))), tt)

  all_others : (to : List ℕ) (first : List Act) (fs : List SubscribeFilter) (rs : List FilterReply) (acts : List Act) → AllByRecursion (λ (s : FilterReply). s.filter.filter ≡ to → ⊥) rs
      → AreFiltersAnswered run m first client identifier fs rs acts → AllByRecursion (MakesOther client to) acts
  all_others to first [] rs acts ne d = subst (AllByRecursion (MakesOther client to)) (sym d.1) tt
  all_others to first (f ∷ fs) rs acts ne (r, others, own, rest, is, of, parts, one, more) =
      let each : AllByRecursion (λ (s : FilterReply). s.filter.filter ≡ to → ⊥) (r ∷ others) = subst (AllByRecursion (λ (s : FilterReply). s.filter.filter ≡ to → ⊥)) is ne in
      let apart : f.filter ≡ to → ⊥ = λ e. each.0 (ap (λ (g : SubscribeFilter). g.filter) of ∙ e) in
      subst (AllByRecursion (MakesOther client to)) (sym parts)
      (all_both (MakesOther client to) own rest (other_made to first f r own apart one) (all_others to (first ++ own) fs others rest each.1 more))

  none_to : (to : List ℕ) (acts : List Act) → AllByRecursion (MakesOther client to) acts → NoneTo run (site m.fate) client to acts
  none_to to acts all before after d e c is whose filter = (all_front (MakesOther client to) before _ (subst (AllByRecursion (MakesOther client to)) is all)).1.0 d e c refl whose filter

  -- ---- the act of a filter that is granted, and what comes after it
  record Grants (r : FilterReply) (acts : List Act) : Type 0 where
    own : List Act
    dot : Dot
    cover : Dots
    version : ℕ
    rest : List Act
    is : acts ≡ own ++ Store (Made (operations.Subscribe dot (subscription_entry client r.filter identifier version) cover)) ∷ rest
    none : NoneTo run (site m.fate) client r.filter.filter rest

  grants_first : (first : List Act) (f : SubscribeFilter) (r : FilterReply) (own rest acts : List Act) → r.filter ≡ f → acts ≡ own ++ rest → IsGrant r → IsAnswered first f r own
      → NoneTo run (site m.fate) client r.filter.filter rest → Grants r acts
  grants_first first f r own rest acts of parts granted (inl x) none = absurd (refused_code r.code 143 x.1.0 granted (omega arith))
  grants_first first f r own rest acts of parts granted (inr (inl x)) none = absurd (refused_code r.code 151 x.2.0 granted (omega arith))
  grants_first first f r own rest acts of parts granted (inr (inr x)) none =
      let made = x.2.2 in
      record {
        own = [];
        dot = made.0;
        cover = made.1;
        version = made.2;
        rest = rest;
        is = parts ∙ ap (λ xs. xs ++ rest) made.3 ∙ ap (λ g. Store (Made (operations.Subscribe made.0 (subscription_entry client g identifier made.2) made.1)) ∷ rest) (sym of);
        none = none;
      }

  grants_of : (first : List Act) (fs : List SubscribeFilter) (rs : List FilterReply) (acts : List Act) → AreFiltersAnswered run m first client identifier fs rs acts
      → (front back : List FilterReply) (r : FilterReply) → rs ≡ front ++ r ∷ back → IsGrant r → NoneEquals r back → Grants r acts
  grants_of first [] rs acts d front back r is granted none = nothing_there front back r (sym d.0 ∙ is)
  grants_of first (f ∷ fs) rs acts (q, others, own, rest, all, of, parts, one, more) [] back r is granted none =
      let here : q ∷ others ≡ r ∷ back = sym all ∙ is in
      let same : q ≡ r = (let z : q ∷ others ≡ r ∷ back = here in cc) in
      let rest_is : others ≡ back = (let z : q ∷ others ≡ r ∷ back = here in cc) in
      grants_first first f r own rest acts (ap (λ (x : FilterReply). x.filter) (sym same) ∙ of) parts granted (subst (λ x. IsAnswered first f x own) same one)
      (none_to r.filter.filter rest (all_others r.filter.filter (first ++ own) fs back rest none (subst (λ xs. AreFiltersAnswered run m (first ++ own) client identifier fs xs rest) rest_is more)))
  grants_of first (f ∷ fs) rs acts (q, others, own, rest, all, of, parts, one, more) (x ∷ front) back r is granted none =
      let here : q ∷ others ≡ x ∷ (front ++ r ∷ back) = sym all ∙ is in
      let rest_is : others ≡ front ++ r ∷ back = (let z : q ∷ others ≡ x ∷ (front ++ r ∷ back) = here in cc) in
      let g = grants_of (first ++ own) fs others rest more front back r rest_is granted none in
      record {
        own = own ++ g.own;
        dot = g.dot;
        cover = g.cover;
        version = g.version;
        rest = g.rest;
        is = parts ∙ ap (λ xs. own ++ xs) g.is ∙ sym (append_assoc own g.own _);
        none = g.none;
      }

-- ---- in a run
module _ (run later : List Played) (m : Played) (w : World) (r : Reached (run ++ m ∷ later) w) (before : List Act) (c : CallsSession m before) (a : AsksToSubscribe c.step) (s : SubscribesInOrder run m before c a.subscribe) where
  abbrev first : List Act
  first = with_call before c

  abbrev answer : Act
  answer = Session (Called s.answer)

  parts_are : acts_of m.fate ≡ first ++ (s.acts ++ answer ∷ s.rest)
  parts_are = c.acts ∙ ap (λ zs. before ++ Session (Called c.step) ∷ zs) s.is ∙ sym (append_assoc before (Session (Called c.step) ∷ []) (s.acts ++ answer ∷ s.rest))

  amid_them : (own others : List Act) → s.acts ≡ own ++ others → acts_of m.fate ≡ (first ++ own) ++ (others ++ answer ∷ s.rest)
  amid_them own others e =
      parts_are ∙ ap (λ zs. first ++ (zs ++ answer ∷ s.rest)) e ∙ ap (λ zs. first ++ zs) (append_assoc own others (answer ∷ s.rest)) ∙ sym (append_assoc first own (others ++ answer ∷ s.rest))

  -- what was made until acts of its filters has dots of its own
  dots_before : (pre ops : List Act) → acts_of m.fate ≡ pre ++ (ops ++ answer ∷ s.rest) → HaveOwnDots (all_made run (site m.fate) pre)
  dots_before pre [] is = (amid_acts run later m w r pre s.rest answer is).grown.own_dots
  dots_before pre (x ∷ xs) is = (amid_acts run later m w r pre (xs ++ answer ∷ s.rest) x is).grown.own_dots

  abbrev all_of_them : List Act
  all_of_them = first ++ s.acts

  -- what the node holds once they are answered
  record Held : Type 0 where
    world : World
    reached : Reached run world
    path : Run world (m ∷ later) w
    held : HeldView
    there : HoldsAmid world m (site m.fate) all_of_them held
    state : IsStateOf (operations_amid (site m.fate) run all_of_them) held.store

  at_answer : acts_of m.fate ≡ all_of_them ++ answer ∷ s.rest
  at_answer = parts_are ∙ sym (append_assoc first s.acts (answer ∷ s.rest))

  held_there : Held
  held_there =
      let half = midway run (m ∷ later) w r in
      let e = commits_acts m.fate all_of_them s.rest answer at_answer in
      let k = committed half.mid m.step m.fate half.path.0 e.0 half.path.1 e.1 in
      let place = k.was.node.place in
      let parts = runs_split place all_of_them (answer ∷ s.rest) k.before k.after (subst (λ acts. Runs place k.before acts k.after) at_answer k.steps.runs) in
      let there : HoldsAmid half.mid m (site m.fate) all_of_them parts.0 = record {
        event = e.0;
        commits = e.1;
        at = refl;
        rest = answer ∷ s.rest;
        acts = at_answer;
        held = k.before;
        holds = record { site = k.was; at = k.at; up = k.up };
        runs = parts.1;
      } in
      record {
        world = half.mid;
        reached = half.reached;
        path = half.path;
        held = parts.0;
        there = there;
        state = (node_holds_amid run half.mid half.path.0 m half.reached half.honest.0 half.path.1 (site m.fate) all_of_them parts.0 there).state;
      }

  -- of equal filters the last one's subscription stands alone
  record Alone (client : List ℕ) (f : SubscribeFilter) (identifier : ℕ) : Type 0 where
    dot : Dot
    version : ℕ
    alone : StandsAlone (operations_amid (site m.fate) run all_of_them) dot (subscription_entry client f identifier version)

  last_alone : (front back : List FilterReply) (x : FilterReply) → s.replies ≡ front ++ x ∷ back → IsGrant x → NoneEquals x back → Alone c.step.client x.filter (identifier_of a.subscribe)
  last_alone front back x is granted none =
      let client = c.step.client in
      let identifier = identifier_of a.subscribe in
      let g = grants_of run m client identifier first a.subscribe.filters s.replies s.acts s.answered front back x is granted none in
      let entry = subscription_entry client x.filter identifier g.version in
      let o = operations.Subscribe g.dot entry g.cover in
      let ones : AllByRecursion MakesOne s.acts = all_ones run m client identifier first a.subscribe.filters s.replies s.acts s.answered in
      let here = amid_them g.own (Store (Made o) ∷ g.rest) g.is in
      let stands : Stands (operations_amid (site m.fate) run (first ++ (g.own ++ Store (Made o) ∷ g.rest))) g.dot entry =
      last_stands run (site m.fate) g.own g.rest first g.dot entry g.cover (all_front MakesOne g.own (Store (Made o) ∷ g.rest) (subst (AllByRecursion MakesOne) g.is ones)).1.1
      (λ xs ys q. dots_before (first ++ xs) ys (amid_them xs ys (g.is ∙ q)))
      (λ own rest d e cover q. s.covers own rest d e cover (g.is ∙ q))
      (λ front back d e cover q. g.none front back d e cover q)
      (new_is_fresh run later m w r (first ++ g.own) (g.rest ++ answer ∷ s.rest) o here)
      (none_covers_new run later m w r (first ++ g.own) (g.rest ++ answer ∷ s.rest) o here) in
      record {
        dot = g.dot;
        version = g.version;
        alone = stands_alone (operations_amid (site m.fate) run all_of_them) g.dot entry (subst (λ zs. Stands (operations_amid (site m.fate) run (first ++ zs)) g.dot entry) (sym g.is) stands)
            (λ d e there client filter. s.alone g.own g.rest g.dot entry g.cover g.is (λ front back d e cover q. g.none front back d e cover q) d e there client filter);
      }

  one_subscription : (front back : List FilterReply) (x : FilterReply) → s.replies ≡ front ++ x ∷ back → IsGrant x → NoneEquals x back
      → HasOneSubscription run later m w all_of_them c.step.client x.filter (identifier_of a.subscribe)
  one_subscription front back x is granted none =
      let t = last_alone front back x is granted none in
      let h = held_there in
      let entry = subscription_entry c.step.client x.filter (identifier_of a.subscribe) t.version in
      let O = operations_amid (site m.fate) run all_of_them in
      let own : HaveOwnDots O = own_some _ (λ o. taken_amid (site m.fate) run all_of_them (dot_of o)) (dots_before all_of_them [] at_answer) in
      record {
        dot = t.dot;
        version = t.version;
        stands = t.alone;
        world = h.world;
        reached = h.reached;
        path = h.path;
        held = h.held;
        there = h.there;
        shows = (live_is O h.held.store own h.state t.dot entry).1 t.alone.live;
      }

pub last_of_equals_stands : LastOfEqualsStands
last_of_equals_stands = λ run later m w r before c a s front back x is granted none. one_subscription run later m w r before c a s front back x is granted none
