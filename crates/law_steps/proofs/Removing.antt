-- The operations that clients make as they go: Puts of wills, and one Remove for each.
use Rattle.std.proofs.Common.{◌≡◌, ◌⊎◌, inl, inr, ℕ, Bool, true, false, cond, List, [], ◌∷◌, ◌++◌, Option, Some, None, refl, sym, ap, ◌∙◌, subst, append_assoc}
use Rattle.std.specs.List.{AllByRecursion}
use Rattle.causal_context.specs.Dots.{Dot}
use Rattle.home_table.specs.Table.{Table}
use Rattle.replica_store.specs.declared.content.Content.{Content}
use Rattle.replica_store.specs.declared.operation.Operation.{Operation}
use Rattle.replica_store.specs.declared.operation.Operation.TheVariants as operations
use Rattle.replica_store.specs.Operations.{Among}
use Rattle.replica_store.specs.Stamps.{Stamp}
use Rattle.replica_store.proofs.Unions.{among_cases}
use Rattle.subscription_set.specs.Standing.{any_below}
use Rattle.node_work.specs.Acts.{Act, StoreAct, MomentTaken, Began, Moved, Store, Made, Merged, Connection, Session, Bridge, Out, Named, Acknowledged, Passed, Dropped, Runs, gather, op_in}
use Rattle.node_work.specs.Held.Connections.{Closed}
use Rattle.node_work.specs.Held.Making.{removal_below}
use Rattle.node_work.specs.Held.Sessions.{Over, connection_at, takes_packet}
use Rattle.node_work.specs.declared.outcome.Output.TheVariants.{Close, Send}
use Rattle.node_work.specs.Packets.{moved_packet}
use Rattle.mqtt_packets.specs.Written.{written}
use Rattle.node_work.specs.View.{Place, HeldView}
use Rattle.node_work.proofs.Working.{gather-append, runs_join}
use Rattle.node_clients.specs.Connecting.{address_of}
use Rattle.law_runs.specs.StepSending.{IsIn}
use Rattle.law_steps.specs.Going.{Goes, IsOfEnding, IsParted, IsToldItsHome}
use Rattle.law_steps.specs.Tables.{GoInTurn}

-- ---- the operations of the parts
abbrev ops : List Act → List Operation
ops acts = gather op_in acts

told_none : (c : ℕ) (client : List ℕ) (h : HeldView) (o : Option (List ℕ)) (told : List Act) → IsToldItsHome c client h o told → ops told ≡ []
told_none c client h None told t = ap ops t
told_none c client h (Some address) told t = by (takes_packet client (moved_packet address) h) t
  where
    by : (b : Bool) → cond b (told ≡ Out (Send c (written (moved_packet address))) ∷ []) (told ≡ []) → ops told ≡ []
    by true e = ap ops e
    by false e = ap ops e

parted_none : (p : Place) (client : List ℕ) (h : HeldView) (o : Option ℕ) (acts : List Act) → IsParted p client h o acts → ops acts ≡ []
parted_none p client h None acts d = ap ops d
parted_none p client h (Some c) acts d =
    ap ops d.is ∙ gather-append op_in d.told (Connection (Closed c) ∷ Out (Close c) ∷ []) ∙ (λ i. told_none c client h (address_of h d.home) d.told d.is_told i ++ [])

-- a Put
abbrev pub IsPut : Operation → Type 0
IsPut o = (dot : Dot) × (stamp : Stamp) × (content : Content) × (o ≡ operations.Put dot stamp content)

store_put : (client : List ℕ) (a : StoreAct) (o : Operation) → IsOfEnding client (Store a) → Among o (op_in (Store a)) → IsPut o
store_put client (Made (operations.Put dot stamp content)) o kind (inl e) = (dot, stamp, content, e)
store_put client (Made (operations.Put dot stamp content)) o kind (inr a) = absurd a
store_put client (Made (operations.Subscribe dot entry cover)) o kind a = absurd kind
store_put client (Made (operations.Remove dot cover)) o kind a = absurd kind
store_put client (Merged s) o kind a = absurd kind

one_put : (client : List ℕ) (a : Act) (o : Operation) → IsOfEnding client a → Among o (op_in a) → IsPut o
one_put client (Store a) o kind there = store_put client a o kind there
one_put client (MomentTaken at) o kind there = absurd there
one_put client Began o kind there = absurd there
one_put client (Moved homes) o kind there = absurd there
one_put client (Connection a) o kind there = absurd there
one_put client (Session a) o kind there = absurd there
one_put client (Bridge a) o kind there = absurd there
one_put client (Out x) o kind there = absurd there
one_put client (Named number) o kind there = absurd there
one_put client (Acknowledged c packet at grants offers) o kind there = absurd there
one_put client (Passed m copies lost routes) o kind there = absurd there
one_put client Dropped o kind there = absurd there

ending_put : (client : List ℕ) (acts : List Act) (o : Operation) → AllByRecursion (IsOfEnding client) acts → Among o (ops acts) → IsPut o
ending_put client [] o kind there = absurd there
ending_put client (a ∷ acts) o kind there = elim (among_cases o (op_in a) (ops acts) there) [ inl x ↦ one_put client a o kind.0 x | inr x ↦ ending_put client acts o kind.1 x ]

-- ---- a Remove of what stands of a client under versions below one, among acts
pub record Removes (p : Place) (version : ℕ) (client : List ℕ) (h : HeldView) (acts : List Act) (o : Operation) : Type 0 where
  pub front : List Act
  pub back : List Act
  pub mid : HeldView
  pub runs : Runs p h front mid
  pub o_is : o ≡ removal_below p.id client version mid.store
  pub is : acts ≡ front ++ Store (Made o) ∷ back

-- or nothing of that stands where it would come
pub record Lacks (p : Place) (version : ℕ) (client : List ℕ) (h : HeldView) (acts : List Act) : Type 0 where
  pub front : List Act
  pub back : List Act
  pub mid : HeldView
  pub runs : Runs p h front mid
  pub is : acts ≡ front ++ Session (Over client) ∷ back
  pub none : any_below client version mid.store.subscriptions ≡ false

abbrev pub Ends : Place → ℕ → List ℕ → HeldView → List Act → Type 0
Ends p version client h acts = ((o : Operation) × Removes p version client h acts o) ⊎ Lacks p version client h acts

removes_later : (p : Place) (version : ℕ) (client : List ℕ) (h mid : HeldView) (own rest : List Act) (o : Operation) → Runs p h own mid → Removes p version client mid rest o → Removes p version client h (own ++ rest) o
removes_later p version client h mid own rest o ran r = record {
  front = own ++ r.front;
  back = r.back;
  mid = r.mid;
  runs = runs_join p own r.front h mid r.mid ran r.runs;
  o_is = r.o_is;
  is = ap (λ xs. own ++ xs) r.is ∙ sym (append_assoc own r.front (Store (Made o) ∷ r.back));
}

removes_before : (p : Place) (version : ℕ) (client : List ℕ) (h : HeldView) (own rest : List Act) (o : Operation) → Removes p version client h own o → Removes p version client h (own ++ rest) o
removes_before p version client h own rest o r = record {
  front = r.front;
  back = r.back ++ rest;
  mid = r.mid;
  runs = r.runs;
  o_is = r.o_is;
  is = ap (λ xs. xs ++ rest) r.is ∙ append_assoc r.front (Store (Made o) ∷ r.back) rest;
}

ends_later : (p : Place) (version : ℕ) (client : List ℕ) (h mid : HeldView) (own rest : List Act) → Runs p h own mid → Ends p version client mid rest → Ends p version client h (own ++ rest)
ends_later p version client h mid own rest ran (inl r) = inl (r.0, removes_later p version client h mid own rest r.0 ran r.1)
ends_later p version client h mid own rest ran (inr l) = inr (record {
  front = own ++ l.front;
  back = l.back;
  mid = l.mid;
  runs = runs_join p own l.front h mid l.mid ran l.runs;
  is = ap (λ xs. own ++ xs) l.is ∙ sym (append_assoc own l.front (Session (Over client) ∷ l.back));
  none = l.none;
})

ends_before : (p : Place) (version : ℕ) (client : List ℕ) (h : HeldView) (own rest : List Act) → Ends p version client h own → Ends p version client h (own ++ rest)
ends_before p version client h own rest (inl r) = inl (r.0, removes_before p version client h own rest r.0 r.1)
ends_before p version client h own rest (inr l) = inr (record {
  front = l.front;
  back = l.back ++ rest;
  mid = l.mid;
  runs = l.runs;
  is = ap (λ xs. xs ++ rest) l.is ∙ append_assoc l.front (Session (Over client) ∷ l.back) rest;
  none = l.none;
})

-- ---- of one client
module _ (p : Place) (client : List ℕ) (h h' : HeldView) (acts : List Act) (g : Goes p client h acts h') where
  abbrev own_version : ℕ
  own_version = h.homes.version

  abbrev done : List Act
  done = g.parting ++ g.ending

  abbrev last : List Act
  last = g.removing ++ Session (Over client) ∷ []

  whole : acts ≡ done ++ last
  whole = g.is ∙ sym (append_assoc g.parting g.ending last)

  own_ops : ops acts ≡ ops g.ending ++ ops g.removing
  own_ops =
      ap ops g.is ∙ gather-append op_in g.parting (g.ending ++ last) ∙ (λ i. parted_none p client h (connection_at client h) g.parting g.parted i ++ ops (g.ending ++ last))
      ∙ gather-append op_in g.ending last ∙ ap (λ xs. ops g.ending ++ xs) (gather-append op_in g.removing (Session (Over client) ∷ []) ∙ nothing_more (ops g.removing))
    where
      nothing_more : (xs : List Operation) → xs ++ [] ≡ xs
      nothing_more [] = refl
      nothing_more (x ∷ xs) = ap (λ ys. x ∷ ys) (nothing_more xs)

  ends_here : Ends p own_version client h acts
  ends_here = by (any_below client g.mid.homes.version g.mid.store.subscriptions) refl g.removed
    where
      older : g.mid.homes.version ≡ own_version
      older = ap (λ (t : Table). t.version) g.same

      by : (some : Bool) → any_below client g.mid.homes.version g.mid.store.subscriptions ≡ some → cond some (g.removing ≡ Store (Made (removal_below p.id client g.mid.homes.version g.mid.store)) ∷ []) (g.removing ≡ []) → Ends p own_version client h acts
      by true some is = inl (
        removal_below p.id client g.mid.homes.version g.mid.store,
        record {
          front = done;
          back = Session (Over client) ∷ [];
          mid = g.mid;
          runs = g.runs;
          o_is = ap (λ n. removal_below p.id client n g.mid.store) older;
          is = whole ∙ ap (λ xs. done ++ (xs ++ Session (Over client) ∷ [])) is;
        },
      )
      by false none is = inr (record {
        front = done;
        back = [];
        mid = g.mid;
        runs = g.runs;
        is = whole ∙ ap (λ xs. done ++ (xs ++ Session (Over client) ∷ [])) is;
        none = subst (λ n. any_below client n g.mid.store.subscriptions ≡ false) older none;
      })

  op_here : (o : Operation) → Among o (ops acts) → IsPut o ⊎ Removes p own_version client h acts o
  op_here o there = elim (among_cases o (ops g.ending) (ops g.removing) (subst (Among o) own_ops there)) [
    | inl x ↦ inl (ending_put client g.ending o g.ends x)
    | inr x ↦ inr (by (any_below client g.mid.homes.version g.mid.store.subscriptions) g.removed x)
  ]
    where
      older : g.mid.homes.version ≡ own_version
      older = ap (λ (t : Table). t.version) g.same

      by : (some : Bool) → cond some (g.removing ≡ Store (Made (removal_below p.id client g.mid.homes.version g.mid.store)) ∷ []) (g.removing ≡ []) → Among o (ops g.removing) → Removes p own_version client h acts o
      by true is x = elim (subst (λ xs. Among o (ops xs)) is x) [
        | inl e ↦ record {
          front = done;
          back = Session (Over client) ∷ [];
          mid = g.mid;
          runs = g.runs;
          o_is = e ∙ ap (λ n. removal_below p.id client n g.mid.store) older;
          is = whole ∙ ap (λ xs. done ++ (xs ++ Session (Over client) ∷ [])) is ∙ ap (λ k. done ++ Store (Made k) ∷ Session (Over client) ∷ []) (sym e);
        }
        | inr none ↦ absurd none
      ]
      by false is x = absurd (subst (λ xs. Among o (ops xs)) is x)

-- ---- of all
pub record RemovesOne (p : Place) (version : ℕ) (clients : List (List ℕ)) (h : HeldView) (acts : List Act) (o : Operation) : Type 0 where
  pub client : List ℕ
  pub among : IsIn client clients
  pub removes : Removes p version client h acts o

pub turn_op : (p : Place) (version : ℕ) (clients : List (List ℕ)) (h h' : HeldView) (acts : List Act) → h.homes.version ≡ version → GoInTurn p clients h acts h' → (o : Operation) → Among o (ops acts) → IsPut o ⊎ RemovesOne p version clients h acts o
turn_op p version [] h h' acts is d o there = absurd (subst (λ xs. Among o (ops xs)) d.0 there)
turn_op p version (client ∷ clients) h h' acts is (own, mid, rest, parts, ran, g, more) o there =
    let next_version : mid.homes.version ≡ version = ap (λ (t : Table). t.version) g.leaves.homes ∙ is in
    elim (among_cases o (ops own) (ops rest) (subst (Among o) (ap ops parts ∙ gather-append op_in own rest) there)) [
      | inl x ↦ (elim (op_here p client h mid own g o x) [
        | inl put ↦ inl put
        | inr r ↦ inr (record {
          client = client;
          among = inl refl;
          removes = subst (λ xs. Removes p version client h xs o) (sym parts) (removes_before p version client h own rest o (subst (λ n. Removes p n client h own o) is r));
        })
      ])
      | inr x ↦ (elim (turn_op p version clients mid h' rest next_version more o x) [
        | inl put ↦ inl put
        | inr r ↦ inr (record {
          client = r.client;
          among = inr r.among;
          removes = subst (λ xs. Removes p version r.client h xs o) (sym parts) (removes_later p version r.client h mid own rest o ran r.removes);
        })
      ])
    ]

pub turn_ends : (p : Place) (version : ℕ) (clients : List (List ℕ)) (h h' : HeldView) (acts : List Act) → h.homes.version ≡ version → GoInTurn p clients h acts h' → (client : List ℕ) → IsIn client clients → Ends p version client h acts
turn_ends p version [] h h' acts is d q there = absurd there
turn_ends p version (client ∷ clients) h h' acts is (own, mid, rest, parts, ran, g, more) q (inl e) =
    subst (λ xs. Ends p version q h xs) (sym parts) (subst (λ k. Ends p version k h (own ++ rest)) e (ends_before p version client h own rest (subst (λ n. Ends p n client h own) is (ends_here p client h mid own g))))
turn_ends p version (client ∷ clients) h h' acts is (own, mid, rest, parts, ran, g, more) q (inr i) =
    let next_version : mid.homes.version ≡ version = ap (λ (t : Table). t.version) g.leaves.homes ∙ is in
    subst (λ xs. Ends p version q h xs) (sym parts) (ends_later p version q h mid own rest ran (turn_ends p version clients mid h' rest next_version more q i))
