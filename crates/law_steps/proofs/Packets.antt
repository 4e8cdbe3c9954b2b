-- What a packet of an accepted client comes to is determined.
use Rattle.std.proofs.Common.{◌≡◌, inl, inr, ℕ, Bool, true, false, cond, is_some, List, [], ◌∷◌, ◌++◌, Option, Some, None, refl, sym, ap, ◌∙◌, subst}
use Rattle.home_table.specs.Table.{IsTable}
use Rattle.mqtt_packets.specs.declared.fault.PacketFault.{PacketFault}
use Rattle.mqtt_packets.specs.declared.packet.Packet.{Packet}
use Rattle.mqtt_packets.specs.declared.packet.Packet.TheVariants as packets
use Rattle.mqtt_packets.specs.Written.{written}
use Rattle.mqtt_sessions.specs.declared.reaction.Ask.{Ask}
use Rattle.mqtt_sessions.specs.declared.reaction.Ask.TheVariants as asks
use Rattle.mqtt_sessions.specs.Answers.{disconnect}
use Rattle.mqtt_sessions.specs.Reaction.{Reaction}
use Rattle.law_sessions.specs.Runs.{takes}
use Rattle.node_work.specs.declared.outcome.Output.{Output}
use Rattle.node_work.specs.declared.outcome.Output.TheVariants.{Send}
use Rattle.node_work.specs.Acts.{Act, Out, Dropped, Runs}
use Rattle.node_work.specs.Held.Sessions.{takes_disconnect}
use Rattle.node_work.specs.View.{Place, HeldView}
use Rattle.node_work.proofs.Homes.{is_table_on}
use Rattle.node_clients.specs.Serving.{is_dropped, room_for}
use Rattle.node_clients.proofs.Determined.{runs_determined}
use Rattle.law_steps.specs.Ending.{ClosesOn}
use Rattle.law_steps.specs.Packets.{SubscribeIsDone, UnsubscribeIsDone, IsDone, TakesAlone, BreaksAlone}
use Rattle.law_steps.proofs.Calls.{two_parts}
use Rattle.law_steps.proofs.EndingLaws.{closes_fixed}
use Rattle.law_steps.proofs.Passing.{passes_fixed}
use Rattle.law_steps.proofs.Requests.{once_fixed, subscribes_fixed, unsubscribes_fixed}

-- ---- what the session asks for
subscribe_fixed : (k : Packet) (p : Place) (h : HeldView) (c : ℕ) (client : List ℕ) (last last' : HeldView) (xs ys : List Act) → IsTable h.homes → Runs p h xs last → Runs p h ys last' → SubscribeIsDone p h c client k xs → SubscribeIsDone p h c client k ys → xs ≡ ys
subscribe_fixed (packets.Subscribe q) p h c client last last' xs ys sound r s x y = subscribes_fixed q p h c client last last' xs ys sound r s x y
subscribe_fixed k p h c client last last' xs ys sound r s x y = x ∙ sym y

unsubscribe_fixed : (k : Packet) (p : Place) (h : HeldView) (c : ℕ) (client : List ℕ) (last last' : HeldView) (xs ys : List Act) → IsTable h.homes → Runs p h xs last → Runs p h ys last' → UnsubscribeIsDone p h c client k xs → UnsubscribeIsDone p h c client k ys → xs ≡ ys
unsubscribe_fixed (packets.Unsubscribe u) p h c client last last' xs ys sound r s x y = unsubscribes_fixed u p h c client last last' xs ys sound r s x y
unsubscribe_fixed k p h c client last last' xs ys sound r s x y = x ∙ sym y

dropped_fixed : (b : Bool) (xs ys : List Act) → cond b (xs ≡ Dropped ∷ []) (xs ≡ []) → cond b (ys ≡ Dropped ∷ []) (ys ≡ []) → xs ≡ ys
dropped_fixed true xs ys x y = x ∙ sym y
dropped_fixed false xs ys x y = x ∙ sym y

done_fixed : (ask : Option Ask) (k : Packet) (room : Bool) (end : Option ℕ) (p : Place) (h : HeldView) (c : ℕ) (client : List ℕ) (last last' : HeldView) (xs ys : List Act) → IsTable h.homes → Runs p h xs last → Runs p h ys last'
    → IsDone p h c client ask k room end xs → IsDone p h c client ask k room end ys → xs ≡ ys
done_fixed None k room end p h c client last last' xs ys sound r s x y = dropped_fixed (is_dropped k room end) xs ys x y
done_fixed (Some (asks.Pass m)) k room end p h c client last last' xs ys sound r s x y = passes_fixed m h.at h.bridge p h last last' xs ys sound r s x y
done_fixed (Some asks.Subscribe) k room end p h c client last last' xs ys sound r s x y = subscribe_fixed k p h c client last last' xs ys sound r s x y
done_fixed (Some asks.Unsubscribe) k room end p h c client last last' xs ys sound r s x y = unsubscribe_fixed k p h c client last last' xs ys sound r s x y

pub close_fixed : (ends : Bool) (p : Place) (h : HeldView) (c : ℕ) (client : List ℕ) (last last' : HeldView) (xs ys : List Act) → IsTable h.homes → Runs p h xs last → Runs p h ys last'
    → cond ends (ClosesOn p h c client xs) (xs ≡ []) → cond ends (ClosesOn p h c client ys) (ys ≡ []) → xs ≡ ys
close_fixed true p h c client last last' xs ys sound r s x y = closes_fixed p h c client last last' xs ys sound r s x y
close_fixed false p h c client last last' xs ys sound r s x y = x ∙ sym y

-- ---- a packet
pub takes_fixed : (p : Place) (h : HeldView) (c : ℕ) (client : List ℕ) (k : Packet) (last last' : HeldView) (xs ys : List Act) → IsTable h.homes → Runs p h xs last → Runs p h ys last' → TakesAlone p h c client k xs → TakesAlone p h c client k ys → xs ≡ ys
takes_fixed p h c client k last last' xs ys sound r s x y =
    let room = room_for client k h in
    let event = takes k h.at room in
    two_parts p h last last' xs ys x.told (x.asked ++ x.closed) y.told (y.asked ++ y.closed) x.is y.is r s
    (λ m n ra rb. (once_fixed client event p h m n x.reaction y.reaction x.told y.told tt ra rb x.tells y.tells).1)
    (λ mid ra rb rc rd. (
    let same : x.reaction ≡ y.reaction = (once_fixed client event p h mid mid x.reaction y.reaction x.told y.told tt ra rb x.tells y.tells).0 in
    let hx : x.left ≡ mid = runs_determined p x.told h x.left mid x.leaves ra in
    let hy : y.left ≡ mid = runs_determined p y.told h y.left mid y.leaves rb in
    let sound' = is_table_on p x.told h mid ra sound in
    let ask = x.reaction.ask in
    let end = x.reaction.end in
    let dx : IsDone p mid c client ask k room end x.asked = subst (λ v. IsDone p v c client ask k room end x.asked) hx x.does in
    let dy : IsDone p mid c client ask k room end y.asked =
    subst (λ v. IsDone p v c client ask k room end y.asked) hy (subst (λ (v : Reaction). IsDone p y.left c client v.ask k room v.end y.asked) (sym same) y.does) in
    let cy : cond (is_some end) (ClosesOn p y.held c client y.closed) (y.closed ≡ []) = subst (λ (v : Reaction). cond (is_some v.end) (ClosesOn p y.held c client y.closed) (y.closed ≡ [])) (sym same) y.closes in
    two_parts p mid last last' (x.asked ++ x.closed) (y.asked ++ y.closed) x.asked x.closed y.asked y.closed refl refl rc rd
    (λ m n ta tb. done_fixed ask k room end p mid c client m n x.asked y.asked sound' ta tb dx dy)
    (λ mid2 ta tb tc td. (
    let kx : x.held ≡ mid2 = runs_determined p x.asked mid x.held mid2 (subst (λ v. Runs p v x.asked x.held) hx x.runs) ta in
    let ky : y.held ≡ mid2 = runs_determined p y.asked mid y.held mid2 (subst (λ v. Runs p v y.asked y.held) hy y.runs) tb in
    close_fixed (is_some end) p mid2 c client last last' x.closed y.closed (is_table_on p x.asked mid mid2 ta sound') tc td
    (subst (λ v. cond (is_some end) (ClosesOn p v c client x.closed) (x.closed ≡ [])) kx x.closes) (subst (λ v. cond (is_some end) (ClosesOn p v c client y.closed) (y.closed ≡ [])) ky cy)))))

-- ---- a fault
pub told_same : (b : Bool) (o : Output) (p : Place) (h mid : HeldView) → Runs p h (cond b (Out o ∷ []) []) mid → mid ≡ h
told_same true o p h mid r = r.2 ∙ r.1.1
told_same false o p h mid r = r

pub breaks_fixed : (p : Place) (h : HeldView) (c : ℕ) (client : List ℕ) (fault : PacketFault) (last last' : HeldView) (xs ys : List Act) → IsTable h.homes → Runs p h xs last → Runs p h ys last' → BreaksAlone p h c client fault xs → BreaksAlone p h c client fault ys → xs ≡ ys
breaks_fixed p h c client fault last last' xs ys sound r s x y =
    let code : x.code ≡ y.code = (let z : Some x.code ≡ Some y.code = sym x.has_code ∙ y.has_code in cc) in
    let told : ℕ → List Act = λ n. cond (takes_disconnect client n h) (Out (Send c (written (disconnect n))) ∷ []) [] in
    two_parts p h last last' xs ys (told x.code) x.rest (told y.code) y.rest x.is y.is r s
    (λ k l ra rb. ap told code)
    (λ mid ra rb rc rd. (
    let same : mid ≡ h = told_same (takes_disconnect client x.code h) (Send c (written (disconnect x.code))) p h mid ra in
    closes_fixed p h c client last last' x.rest y.rest sound (subst (λ v. Runs p v x.rest last) same rc) (subst (λ v. Runs p v y.rest last') same rd) x.closes y.closes))
