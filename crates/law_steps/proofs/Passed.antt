-- Where a message is passed on, nothing else is done.
use Rattle.std.proofs.Common.{◌≡◌, inl, inr, ℕ, Bool, true, false, cond, List, [], ◌∷◌, ◌++◌, Option, Some, None, refl, sym, ap, ◌∙◌, subst}
use Rattle.causal_context.specs.Dots.{Dot}
use Rattle.bridge_routes.specs.declared.plain.PlainCopy.{PlainCopy as Copy}
use Rattle.bridge_routes.specs.declared.destinations.Route.{Route}
use Rattle.bridge_routes.specs.Routes.{forward_at, route_of}
use Rattle.mqtt_message.specs.declared.message.Message.{Message}
use Rattle.mqtt_message.specs.Expiry.{IsBefore}
use Rattle.mqtt_sessions.specs.declared.reaction.Ask.{Ask}
use Rattle.mqtt_sessions.specs.declared.reaction.Ask.TheVariants as asks
use Rattle.node_bridge.specs.View.{BridgeView, offer_to}
use Rattle.replica_store.specs.declared.content.Content.{Content}
use Rattle.replica_store.specs.declared.operation.Operation.TheVariants.{Put}
use Rattle.replica_store.specs.Making.{put_of}
use Rattle.replica_store.specs.Stamps.{Stamp}
use Rattle.node_work.specs.Acts.{Act, Store, Made, Passed, Dropped, Runs, next}
use Rattle.node_work.specs.Calling.{Queues}
use Rattle.node_work.specs.Doings.{MakesPut, Routes}
use Rattle.node_work.specs.Held.Making.{put_at_end}
use Rattle.node_work.specs.Passing.{content_given, seated, turn_at_end}
use Rattle.node_work.specs.View.{Place, HeldView}
use Rattle.node_work.specs.Working.{Returns, If, Then, Each}
use Rattle.node_clients.specs.Ending as ending
use Rattle.node_clients.specs.Passing as passing
use Rattle.law_runs.specs.StepPublishing.{CopiesAreQueued}
use Rattle.law_runs.proofs.Keeping.{none_some}
use Rattle.law_runs.proofs.Passing.{HaveAll, each_queued, have_both, have_seated, numbered}
use Rattle.law_runs.proofs.Routing.{AreApart, are_apart, each_routed}
use Rattle.law_runs.proofs.Splits.{left_by}
use Rattle.law_steps.specs.Passing.{AreItsCopies, PassesOn, PassesWillOn}

-- the calls leave what is kept for the other nodes
calls_keep : (at : ℕ) (xs : List Copy) (p : Place) (h h' : HeldView) (acts : List Act) → CopiesAreQueued at xs acts → Runs p h acts h' → h'.bridge ≡ h.bridge
calls_keep at [] p h h' acts q runs = ap (λ (v : HeldView). v.bridge) (subst (λ zs. Runs p h zs h') q runs)
calls_keep at (x ∷ xs) p h h' acts (s, rest, is, client, moment, event, q) runs =
    let r = subst (λ zs. Runs p h zs h') is runs in
    calls_keep at xs p r.0 h' rest q r.2 ∙ ap (λ (v : HeldView). v.bridge) r.1.1

-- the copies, and then what goes to other nodes
then_routed : (b : BridgeView) (copies : List Copy) (routes : List (ℕ × Route)) (at : ℕ) (m : Message) (lost : ℕ) (x : Unit {0}) (p : Place) (h : HeldView) (acts : List Act)
    → h.at ≡ at → HaveAll h copies → AreApart routes → ((q : ℕ) → offer_to q h.bridge ≡ offer_to q b)
    → Then (Queues copies) (λ _. Each Routes routes) (Some x) p h acts → AreItsCopies m at b (Passed m copies lost routes ∷ acts)
then_routed b copies routes at m lost x p h acts now there apart alike (inl d) = none_some (sym d.0)
then_routed b copies routes at m lost x p h acts now there apart alike (inr (y, calls, mid, others, one, runs, more, is)) =
    let queued : CopiesAreQueued h.at copies calls = each_queued copies y p h calls there one in
    let same : mid.bridge ≡ h.bridge = calls_keep h.at copies p h mid calls queued runs in
    record {
      copies = copies;
      lost = lost;
      routes = routes;
      calls = calls;
      to_others = others;
      is = ap (λ zs. Passed m copies lost routes ∷ zs) is;
      queued = subst (λ n. CopiesAreQueued n copies calls) now queued;
      routed = each_routed b routes x p mid others apart (λ q. ap (offer_to q) same ∙ alike q) more;
    }

makes_copies : (b : BridgeView) (m : Message) (x : Unit {0}) (p : Place) (h : HeldView) (acts : List Act) → ((q : ℕ) → offer_to q h.bridge ≡ offer_to q b) → passing.Copies m (Some x) p h acts → AreItsCopies m h.at b acts
makes_copies b m x p h acts alike (found, made, (inl d)) = none_some (sym d.0)
makes_copies b m x p h acts alike (found, made, (inr (y, own, mid, rest, one, runs, more, is))) =
    let a = Passed m found.0 found.1.0 found.1.1 in
    let alone : own ≡ a ∷ [] = numbered (turn_at_end p h) y a own one in
    let left : mid ≡ next h a = left_by p h mid a own alone runs in
    let there : HaveAll h found.0 = subst (HaveAll h) (sym made.copies_are) (have_both h (seated h made.plain) (seated h made.homed) (have_seated h made.plain) (have_seated h made.homed)) in
    let apart : AreApart found.1.1 = subst AreApart (sym made.routes_are.2) (are_apart p (λ peer. route_of (forward_at peer m made.routes_are.0))) in
    subst (AreItsCopies m h.at b) (sym (is ∙ ap (λ zs. zs ++ rest) alone))
    (then_routed b found.0 found.1.1 h.at m found.1.0 x p mid rest (ap (λ (v : HeldView). v.at) left) (subst (λ (v : HeldView). HaveAll v found.0) (sym left) there) apart
    (λ q. ap (λ (v : HeldView). offer_to q v.bridge) left ∙ alike q) more)

-- ---- its Put
record PutFirst (m : Message) (b : Bool) (h mid : HeldView) (acts : List Act) : Type 0 where
  put : cond b ((dot : Dot) × (stamp : Stamp) × (acts ≡ Store (Made (Put dot stamp (content_given m))) ∷ [])) (acts ≡ [])
  at : mid.at ≡ h.at
  alike : (q : ℕ) → offer_to q mid.bridge ≡ offer_to q h.bridge

put_first : (m : Message) (b : Bool) (x : Unit {0}) (p : Place) (h mid : HeldView) (acts : List Act) → If b (MakesPut (content_given m)) (Returns tt) (Some x) p h acts → Runs p h acts mid → PutFirst m b h mid acts
put_first m true x p h mid acts d runs =
    let a = Store (Made (put_of p.id (content_given m) h.store)) in
    let alone : acts ≡ a ∷ [] = numbered (put_at_end p.id h) x a acts d in
    let left : mid ≡ next h a = left_by p h mid a acts alone runs in
    record { put = (_, _, alone); at = ap (λ (v : HeldView). v.at) left; alike = λ q. ap (λ (v : HeldView). offer_to q v.bridge) left }
put_first m false x p h mid acts d runs =
    let same : mid ≡ h = subst (λ xs. Runs p h xs mid) d.1 runs in
    record { put = d.1; at = ap (λ (v : HeldView). v.at) same; alike = λ q. ap (λ (v : HeldView). offer_to q v.bridge) same }

-- ---- all of it
pub passes_on : (m : Message) (x : Unit {0}) (p : Place) (h : HeldView) (acts : List Act) → passing.Passes m (Some x) p h acts → PassesOn m h.at h.bridge acts
passes_on m x p h acts (inl d) = none_some (sym d.0)
passes_on m x p h acts (inr (y, own, mid, rest, one, runs, (inl d), is)) =
    let f = put_first m m.retain y p h mid own one runs in
    record { puts = own; rest = rest; is = is; put = f.put; copied = inl (subst (λ n. IsBefore n m.deadline) f.at d.0, subst (λ n. AreItsCopies m n h.bridge rest) f.at (makes_copies h.bridge m x p mid rest f.alike d.1)) }
passes_on m x p h acts (inr (y, own, mid, rest, one, runs, (inr d), is)) =
    let f = put_first m m.retain y p h mid own one runs in
    record { puts = own; rest = rest; is = is; put = f.put; copied = inr ((λ before. d.0 (subst (λ n. IsBefore n m.deadline) (sym f.at) before)), d.1.1) }

-- ---- a will
will_on : (lacks : Bool) (m : Message) (x : Unit {0}) (p : Place) (h : HeldView) (acts : List Act) → If lacks passing.Drops (passing.Passes m) (Some x) p h acts → cond lacks (acts ≡ Dropped ∷ []) (PassesOn m h.at h.bridge acts)
will_on true m x p h acts d = d.1
will_on false m x p h acts d = passes_on m x p h acts d

pub asked_on : (ask : Option Ask) (x : Unit {0}) (p : Place) (h : HeldView) (acts : List Act) → ending.PassesAsked ask (Some x) p h acts → PassesWillOn h ask acts
asked_on None x p h acts d = d.1
asked_on (Some (asks.Pass m)) x p h acts d = will_on (passing.lacks_room m h) m x p h acts d
asked_on (Some asks.Subscribe) x p h acts d = d.1
asked_on (Some asks.Unsubscribe) x p h acts d = d.1
