-- The acts by which a message is passed on are determined.
use Rattle.std.proofs.Common.{◌≡◌, ◌⊎◌, inl, inr, ℕ, Bool, true, false, cond, List, [], ◌∷◌, ◌++◌, Option, Some, None, refl, sym, ap, ◌∙◌, subst}
use Rattle.bridge_deltas.specs.declared.offer.Offer.{Offer}
use Rattle.bridge_deltas.specs.declared.offer.Offer.TheVariants.{Queued, Full, AtEnd}
use Rattle.bridge_frames.specs.declared.forward.Forward.{Forward}
use Rattle.causal_context.specs.Dots.{Dot}
use Rattle.home_table.specs.Table.{IsTable}
use Rattle.bridge_routes.specs.declared.plain.PlainCopy.{PlainCopy as Copy}
use Rattle.bridge_routes.specs.declared.destinations.Route.{Route}
use Rattle.bridge_routes.specs.declared.destinations.Route.TheVariants.{Nothing, Lane, TooLarge}
use Rattle.mqtt_message.specs.declared.message.Message.{Message}
use Rattle.mqtt_message.specs.Expiry.{IsBefore}
use Rattle.mqtt_sessions.specs.declared.reaction.Ask.{Ask}
use Rattle.mqtt_sessions.specs.declared.reaction.Ask.TheVariants as asks
use Rattle.node_bridge.specs.View.{BridgeView, offer_to}
use Rattle.replica_store.specs.declared.content.Content.{Content}
use Rattle.replica_store.specs.declared.operation.Operation.{Operation}
use Rattle.replica_store.specs.declared.operation.Operation.TheVariants.{Put}
use Rattle.replica_store.specs.Stamps.{Stamp}
use Rattle.node_work.specs.Acts.{Act, Store, Made, Session, Passed, Dropped, Runs, next}
use Rattle.node_work.specs.Held.Sessions.{SessionStep, Called}
use Rattle.node_work.specs.Passing.{content_given}
use Rattle.node_work.specs.View.{Place, HeldView}
use Rattle.node_work.proofs.Homes.{is_table_on}
use Rattle.node_clients.specs.Passing as passing
use Rattle.node_clients.proofs.Determined.{copies_alone}
use Rattle.law_runs.specs.StepPublishing.{CopiesAreQueued, IsPutInLane, IsRouted, AreRouted}
use Rattle.law_steps.specs.Passing.{AreItsCopies, PassesOn, PassesWillOn}
use Rattle.law_steps.proofs.Calls.{IsKnown, after_head, same_call, two_heads, two_parts}

-- ---- what goes to other nodes
lane_fixed : (peer : ℕ) (m : Forward) (o : Offer) (xs ys : List Act) → IsPutInLane peer m o xs → IsPutInLane peer m o ys → xs ≡ ys
lane_fixed peer m (Queued n) xs ys a b = a ∙ sym b
lane_fixed peer m Full xs ys a b = a ∙ sym b
lane_fixed peer m AtEnd xs ys a b = absurd a

route_fixed : (b : BridgeView) (peer : ℕ) (r : Route) (xs ys : List Act) → IsRouted b peer r xs → IsRouted b peer r ys → xs ≡ ys
route_fixed b peer Nothing xs ys x y = x ∙ sym y
route_fixed b peer (Lane m) xs ys x y = lane_fixed peer m (offer_to peer b) xs ys x y
route_fixed b peer TooLarge xs ys x y = x ∙ sym y

routes_fixed : (b : BridgeView) (rs : List (ℕ × Route)) (xs ys : List Act) → AreRouted b rs xs → AreRouted b rs ys → xs ≡ ys
routes_fixed b [] xs ys x y = x ∙ sym y
routes_fixed b (r ∷ rs) xs ys x y = x.2 ∙ (λ i. route_fixed b r.0 r.1 x.0 y.0 x.3 y.3 i ++ routes_fixed b rs x.1 y.1 x.4 y.4 i) ∙ sym y.2

-- ---- copies
pub queued_fixed : (at : ℕ) (copies : List Copy) (p : Place) (h m n : HeldView) (xs ys : List Act) → Runs p h xs m → Runs p h ys n → CopiesAreQueued at copies xs → CopiesAreQueued at copies ys → xs ≡ ys
queued_fixed at [] p h m n xs ys r s a b = a ∙ sym b
queued_fixed at (x ∷ copies) p h m n xs ys r s (c, rest, is, client, moment, event, more) (c', rest', is', client', moment', event', more') =
    let a = after_head p h m xs (Session (Called c)) rest is r in
    let b = after_head p h n ys (Session (Called c')) rest' is' s in
    let same : c ≡ c' = same_call p h c c' a.0 b.0 (client ∙ sym client') (event ∙ sym event') (subst IsKnown (sym event) tt) in
    two_heads p h m n xs ys (Session (Called c)) (Session (Called c')) rest rest' is is' (ap (λ (v : SessionStep). Session (Called v)) same) r s
    (λ r2 s2. queued_fixed at copies p (next h (Session (Called c))) m n rest rest' r2 s2 more more')

copies_fixed : (m : Message) (at : ℕ) (b : BridgeView) (p : Place) (h last last' : HeldView) (xs ys : List Act) → IsTable h.homes → Runs p h xs last → Runs p h ys last' → AreItsCopies m at b xs → AreItsCopies m at b ys → xs ≡ ys
copies_fixed m at b p h last last' xs ys sound r s x y =
    let u = Passed m x.copies x.lost x.routes in
    let v = Passed m y.copies y.lost y.routes in
    let made : passing.Made = (x.copies, (x.lost, x.routes)) in
    let made' : passing.Made = (y.copies, (y.lost, y.routes)) in
    let a = after_head p h last xs u (x.calls ++ x.to_others) x.is r in
    let c = after_head p h last' ys v (y.calls ++ y.to_others) y.is s in
    let one : made ≡ made' = copies_alone m p h made made' sound a.0.1 c.0.1 in
    let queued : CopiesAreQueued at x.copies y.calls = subst (λ cs. CopiesAreQueued at cs y.calls) (sym (ap (λ (w : passing.Made). w.0) one)) y.queued in
    let routed : AreRouted b x.routes y.to_others = subst (λ rs. AreRouted b rs y.to_others) (sym (ap (λ (w : passing.Made). w.1.1) one)) y.routed in
    two_heads p h last last' xs ys u v (x.calls ++ x.to_others) (y.calls ++ y.to_others) x.is y.is (ap (λ (w : passing.Made). Passed m w.0 w.1.0 w.1.1) one) r s (λ r2 s2.
    two_parts p (next h u) last last' (x.calls ++ x.to_others) (y.calls ++ y.to_others) x.calls x.to_others y.calls y.to_others refl refl r2 s2
    (λ k l ra rb. queued_fixed at x.copies p (next h u) k l x.calls y.calls ra rb x.queued queued)
    (λ mid ra rb rc rd. routes_fixed b x.routes x.to_others y.to_others x.routed routed))

-- ---- the Put
put_fixed : (b : Bool) (content : Content) (p : Place) (h m n : HeldView) (xs ys : List Act) → Runs p h xs m → Runs p h ys n
    → cond b ((dot : Dot) × (stamp : Stamp) × (xs ≡ Store (Made (Put dot stamp content)) ∷ [])) (xs ≡ []) → cond b ((dot : Dot) × (stamp : Stamp) × (ys ≡ Store (Made (Put dot stamp content)) ∷ [])) (ys ≡ []) → xs ≡ ys
put_fixed true content p h m n xs ys r s a b =
    let x = after_head p h m xs (Store (Made (Put a.0 a.1 content))) [] a.2 r in
    let y = after_head p h n ys (Store (Made (Put b.0 b.1 content))) [] b.2 s in
    a.2 ∙ ap (λ (o : Operation). Store (Made o) ∷ []) (x.0.2 ∙ sym y.0.2) ∙ sym b.2
put_fixed false content p h m n xs ys r s a b = a ∙ sym b

-- ---- all of it
copied_fixed : (m : Message) (at : ℕ) (b : BridgeView) (p : Place) (h last last' : HeldView) (xs ys : List Act) → IsTable h.homes → Runs p h xs last → Runs p h ys last'
    → (IsBefore at m.deadline × AreItsCopies m at b xs) ⊎ ((¬ IsBefore at m.deadline) × (xs ≡ [])) → (IsBefore at m.deadline × AreItsCopies m at b ys) ⊎ ((¬ IsBefore at m.deadline) × (ys ≡ [])) → xs ≡ ys
copied_fixed m at b p h last last' xs ys sound r s (inl x) (inl y) = copies_fixed m at b p h last last' xs ys sound r s x.1 y.1
copied_fixed m at b p h last last' xs ys sound r s (inl x) (inr y) = absurd (y.0 x.0)
copied_fixed m at b p h last last' xs ys sound r s (inr x) (inl y) = absurd (x.0 y.0)
copied_fixed m at b p h last last' xs ys sound r s (inr x) (inr y) = x.1 ∙ sym y.1

pub passes_fixed : (m : Message) (at : ℕ) (b : BridgeView) (p : Place) (h last last' : HeldView) (xs ys : List Act) → IsTable h.homes → Runs p h xs last → Runs p h ys last' → PassesOn m at b xs → PassesOn m at b ys → xs ≡ ys
passes_fixed m at b p h last last' xs ys sound r s x y =
    two_parts p h last last' xs ys x.puts x.rest y.puts y.rest x.is y.is r s
    (λ k l ra rb. put_fixed m.retain (content_given m) p h k l x.puts y.puts ra rb x.put y.put)
    (λ mid ra rb rc rd. copied_fixed m at b p mid last last' x.rest y.rest (is_table_on p x.puts h mid ra sound) rc rd x.copied y.copied)

will_fixed : (lacks : Bool) (m : Message) (p : Place) (h last last' : HeldView) (xs ys : List Act) → IsTable h.homes → Runs p h xs last → Runs p h ys last'
    → cond lacks (xs ≡ Dropped ∷ []) (PassesOn m h.at h.bridge xs) → cond lacks (ys ≡ Dropped ∷ []) (PassesOn m h.at h.bridge ys) → xs ≡ ys
will_fixed true m p h last last' xs ys sound r s x y = x ∙ sym y
will_fixed false m p h last last' xs ys sound r s x y = passes_fixed m h.at h.bridge p h last last' xs ys sound r s x y

pub asked_fixed : (ask : Option Ask) (p : Place) (h last last' : HeldView) (xs ys : List Act) → IsTable h.homes → Runs p h xs last → Runs p h ys last' → PassesWillOn h ask xs → PassesWillOn h ask ys → xs ≡ ys
asked_fixed None p h last last' xs ys sound r s x y = x ∙ sym y
asked_fixed (Some (asks.Pass m)) p h last last' xs ys sound r s x y = will_fixed (passing.lacks_room m h) m p h last last' xs ys sound r s x y
asked_fixed (Some asks.Subscribe) p h last last' xs ys sound r s x y = x ∙ sym y
asked_fixed (Some asks.Unsubscribe) p h last last' xs ys sound r s x y = x ∙ sym y
