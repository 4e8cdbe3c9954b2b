-- Operations of a cluster of so many nodes, and what states of them name.
use Rattle.std.proofs.Common.{◌≡◌, ℕ, ◌<◌, true, false, List, [], ◌∷◌, ◌++◌, Option, Some, None, filter, sym, ap, ◌∙◌, inl, inr, subst, append_assoc}
use Rattle.std.proofs.lemmas.List.{append-nil}
use Rattle.std.specs.Prelude.{is_some}
use Rattle.std.specs.FinMap as map
use Rattle.std.specs.FinSet as set
use Rattle.causal_context.specs.Dots.{Dot, Dots, dot_cmp}
use Rattle.subscription_set.specs.declared.entry.Entry.{Entry}
use Rattle.subscription_set.proofs.Seen.{contains-seen_of}
use Rattle.subscription_set.specs.Statuses.{Status}
use Rattle.replica_store.specs.declared.operation.Operation.{Operation}
use Rattle.replica_store.specs.declared.operation.Operation.TheVariants.{Subscribe, Remove, Put}
use Rattle.replica_store.specs.Operations.{dot_of, cover_of, Among, Stands, HasStatus, HasKept}
use Rattle.replica_store.specs.States.{State}
use Rattle.replica_store.specs.StateOf.{IsStateOf}
use Rattle.replica_store.proofs.Unions.{among_cases}
use Rattle.node_rows.specs.Reading.{IsAmong}
use Rattle.node_work.specs.Acts.{Act, MomentTaken, Began, Moved, Store, Connection, Session, Bridge, Out, Named, Acknowledged, Passed, Dropped, Made, Merged, Allowed, IsMade, Runs, gather, op_in, merge_in}
use Rattle.node_work.specs.View.{Place, HeldView}
use Rattle.cluster_play.specs.NextOperations.{CoversWhatStands, IsRemoval, IsNextOperation}
use Rattle.cluster_play.proofs.Operations.{among_some, own_some}
use Rattle.cluster_play.proofs.Sound.{Sound, Grown, lists}
use Rattle.cluster_play.proofs.Growing.{AllSound, Holding, act_grows}
use Rattle.cluster_play.proofs.Next.{next_operation}
use Rattle.cluster_play.proofs.Splits.{all_front, all_weaker}

-- the stamp of a Put is a node's
abbrev pub IsPlainly : ℕ → Operation → Type 0
IsPlainly count (Subscribe dot entry cover) = Unit {0}
IsPlainly count (Remove dot cover) = Unit {0}
IsPlainly count (Put dot stamp content) = stamp.node < count

pub record IsPlain (count : ℕ) (o : Operation) : Type 0 where
  pub dot : (dot_of o).node < count
  pub cover : (d : Dot) → set.contains (cover_of o) d ≡ true → d.node < count
  pub rest : IsPlainly count o

abbrev pub AllPlain : ℕ → List Operation → Type 0
AllPlain count ms = (o : Operation) → Among o ms → IsPlain count o

-- ---- what a node makes is plain
stands_plain : (count : ℕ) (ms : List Operation) (s : State) (d : Dot) (entry : Entry) → AllPlain count ms → Stands (filter (lists s) ms) d entry → d.node < count
stands_plain count ms s d entry plain stands =
    let by = stands.subscribed in
    (plain (Subscribe d entry by.0) (among_some (lists s) (Subscribe d entry by.0) ms by.1).0).dot

covers_plain : (count : ℕ) (ms : List Operation) (s : State) (client : List ℕ) (to : Option (List ℕ)) (cover : Dots) → AllPlain count ms → CoversWhatStands (filter (lists s) ms) client to cover
    → (d : Dot) → set.contains cover d ≡ true → d.node < count
covers_plain count ms s client to cover plain covers d h =
    let there = (covers d).0 h in
    stands_plain count ms s d there.0 plain there.1

removes_plain : (count : ℕ) (ms : List Operation) (s : State) (cover : Dots) → AllPlain count ms → IsRemoval (filter (lists s) ms) cover → (d : Dot) → set.contains cover d ≡ true → d.node < count
removes_plain count ms s cover plain (inl (client, to, covers)) d h = covers_plain count ms s client to cover plain covers d h
removes_plain count ms s cover plain (inr (client, version, covers)) d h =
    let there = (covers d).0 h in
    stands_plain count ms s d there.0 plain there.1

module _ (i count : ℕ) (ms : List Operation) (s : State) (g : Grown i ms s) (low : i < count) (plain : AllPlain count ms) where
  next : (version : ℕ) (o : Operation) → IsMade i version s o → IsNextOperation i version (filter (lists s) ms) o
  next version o may = next_operation i (filter (lists s) ms) s (own_some ms (lists s) g.own_dots) g.sound version o may

  made_plain : (version : ℕ) (o : Operation) → IsMade i version s o → IsPlain count o
  made_plain version (Subscribe dot entry cover) may =
      let n = next version (Subscribe dot entry cover) may in
      record { dot = subst (λ j. j < count) (sym n.0.node) low; cover = covers_plain count ms s entry.client (Some entry.filter) cover plain n.1; rest = tt }
  made_plain version (Remove dot cover) may =
      let n = next version (Remove dot cover) may in
      record { dot = subst (λ j. j < count) (sym n.0.node) low; cover = removes_plain count ms s cover plain n.1; rest = tt }
  made_plain version (Put dot stamp content) may =
      let n = next version (Put dot stamp content) may in
      record {
        dot = subst (λ j. j < count) (sym n.0.node) low;
        cover = λ d h. absurd (let no : false ≡ true = sym (set.contains-empty dot_cmp d) ∙ h in cc);
        rest = subst (λ j. j < count) (sym n.1.node) low;
      }

-- the act that makes an operation
op_of_act : (a : Act) (o : Operation) → Among o (op_in a) → a ≡ Store (Made o)
op_of_act (MomentTaken at) o x = absurd x
op_of_act Began o x = absurd x
op_of_act (Moved homes) o x = absurd x
op_of_act (Store (Made p)) o (inl e) = ap (λ q. Store (Made q)) (sym e)
op_of_act (Store (Made p)) o (inr x) = absurd x
op_of_act (Store (Merged s)) o x = absurd x
op_of_act (Connection c) o x = absurd x
op_of_act (Session c) o x = absurd x
op_of_act (Bridge b) o x = absurd x
op_of_act (Out e) o x = absurd x
op_of_act (Named number) o x = absurd x
op_of_act (Acknowledged client packet at grants offers) o x = absurd x
op_of_act (Passed m copies lost routes) o x = absurd x
op_of_act Dropped o x = absurd x

pub acts_plain : (p : Place) (count : ℕ) (acts : List Act) (ms : List Operation) (h h' : HeldView) → p.id < count → Holding p.id ms h → Runs p h acts h' → AllSound ms (gather merge_in acts)
    → AllPlain count ms → AllPlain count (ms ++ gather op_in acts)
acts_plain p count [] ms h h' low g r all plain = subst (AllPlain count) (sym (append-nil ms)) plain
acts_plain p count (a ∷ acts) ms h h' low g r all plain =
    let parts = all_front (Sound ms) (merge_in a) (gather merge_in acts) all in
    let grows = act_grows p ms h r.0 a g r.1 parts.0 in
    let ms' = ms ++ (op_in a ++ []) in
    let here : AllPlain count ms' = λ o x. elim (among_cases o ms (op_in a ++ []) x) [
      | inl old ↦ plain o old
      | inr new ↦ (let is = op_of_act a o (subst (Among o) (append-nil (op_in a)) new) in
          made_plain p.id count ms h.store g.grown low plain h.homes.version o (subst (Allowed p h) is r.1.0))
    ] in
    let rest = acts_plain p count acts ms' r.0 h' low grows.holding r.2 (all_weaker (Sound ms) (Sound ms') (gather merge_in acts) grows.stays parts.1) here in
    subst (AllPlain count) (ap (λ os. (ms ++ os) ++ gather op_in acts) (append-nil (op_in a)) ∙ append_assoc ms (op_in a) (gather op_in acts)) rest

-- ---- a state of plain operations names none but nodes of the cluster
module _ (count : ℕ) (O : List Operation) (s : State) (state : IsStateOf O s) (plain : AllPlain count O) where
  seen_plain : (d : Dot) (o : Option Status) → HasStatus O d o → is_some o ≡ true → d.node < count
  seen_plain d None h is = absurd (let no : false ≡ true = is in cc)
  seen_plain d (Some None) h is = elim h.seen [
    | inl at ↦ subst (λ (q : Dot). q.node < count) at.2 (plain at.0 at.1).dot
    | inr covered ↦ (plain covered.0 covered.1).cover d covered.2
  ]
  seen_plain d (Some (Some f)) h is = let by = h.subscribed in (plain (Subscribe d f by.0) by.1).dot

  pub is_among : IsAmong count s
  is_among = record {
    taken = λ d h. (let o = (state.taken d).0 h in subst (λ (q : Dot). q.node < count) o.2 (plain o.0 o.1).dot);
    seen = λ d h. seen_plain d (map.get s.subscriptions d) (state.subscriptions d) (sym (contains-seen_of s.subscriptions d) ∙ h);
    stamps = λ topic k h. (let p = (subst (HasKept O topic) h (state.retained topic)).put in (plain (Put p.0 k.stamp p.1) p.2).rest);
  }

-- and so is one of those of plain operations that it lists
pub sound_among : (count : ℕ) (ms : List Operation) (s : State) → Sound ms s → AllPlain count ms → IsAmong count s
sound_among count ms s sound plain = is_among count (filter (lists s) ms) s sound (λ o a. plain o (among_some (lists s) o ms a).0)
