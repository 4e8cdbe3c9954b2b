use Rattle.std.proofs.Common.{◌≡◌, ◌∙◌, ℕ, List, [], ◌∷◌, ◌==◌, Bor, Some, length, sym, ap, subst, false}
use Rattle.bridge_frames.specs.declared.pick.Pick.{Pick}
use Rattle.bridge_routes.specs.Copies.{AreLive}
use Rattle.bridge_routes.specs.Deliveries.{copy_for}
use Rattle.bridge_routes.specs.Tables.{referents}
use Rattle.mqtt_message.specs.declared.delivery.Delivery.{Delivery}
use Rattle.mqtt_message.specs.declared.message.Message.{Message}
use Rattle.subscription_set.specs.Entries.{Entry}
use Rattle.subscription_set.specs.Standing.{live}
use Rattle.bridge_routes.specs.Taken.{IsPicked, copy_by}
use Rattle.bridge_routes.proofs.taken.picked_copy.Goals as goal

-- where something is live the copy is the client's
made : (m : Message) (p : Pick) (own : List (Bor Entry)) (client : List ℕ) (delivery : Delivery) → (length own == 0) ≡ false → client ≡ p.client → delivery ≡ copy_for m (referents own) → Some (record { client = client; delivery = delivery }) ≡ copy_by m p (referents own)
made m p [] client delivery some its copy = absurd cc
made m p (e ∷ es) client delivery some its copy =
    ap (λ c. Some (record { client = c; delivery = delivery })) its ∙ ap (λ d. Some (record { client = p.client; delivery = d })) copy

pub returns : goal.returns
returns c =
    let own = c.in_ok-own.own in
    let Live : Message → Type 0 = λ m. AreLive (IsPicked m c.args.pick.now) (live c.args.subscriptions.now) (referents own.items) in
    let some : (length own.items == 0) ≡ false = ap (λ n. n == 0) (sym own.ok.0) ∙ sym c.is_empty.ensures ∙ c.if-is_empty.false in
    let copy = c.in_ok-delivery.ensures ∙ ap (λ es. copy_for c.args.message.now (referents es)) c.as_slice.ensures.value in
    (referents own.items, subst Live c.message.ensures c.in_ok-own.ensures, made c.args.message.now c.args.pick.now own.items c.in_ok-client.client c.in_ok-delivery.delivery some c.in_ok-client.ensures copy)
