use Rattle.std.proofs.Common.{Bor, refl, ◌++◌, ◌∷◌, [], sym, ap, subst, ◌∙◌}
use Rattle.std.specs.Prelude.{map as map_list}
use Rattle.std.proofs.lemmas.List.{take_all}
use Rattle.std.specs.FinMap as map
use Rattle.bridge_routes.specs.Deliveries.{offer_of}
use Rattle.mqtt_message.specs.declared.message.Message.{Message}
use Rattle.replica_store.specs.Answers.{IsAnswer}
use Rattle.replica_store.specs.States.{State}
use Rattle.node_work.specs.View.{HeldView}
use Rattle.node_clients.proofs.Offering.{made_next, mapped}
use Rattle.node_clients.proofs.offer.add_offers.Goals as goal

pub loop-message-preserved : goal.loop-message-preserved
loop-message-preserved c =
    let a = c.args.asked.now in
    let before = c.loop-message.offers.items in
    made_next (λ (m : Bor Message). offer_of a.options a.identifiers m.now) c.args.offers.now.items before c.push.new.self.items c.deref-message-items.result.now c.loop-message.message-index c.message-item.result
    c.loop-message-test.true c.message-item.is c.loop-message.invariant (c.in_ok-push.ensures.items ∙ ap (λ x. before ++ x ∷ []) c.in_ok-offer.ensures)

pub returns-clause-ok : goal.returns-clause-ok
returns-clause-ok c =
    let xs = c.deref-message-items.result.now in
    let a = c.args.asked.now in
    let f = offer_of a.options a.identifiers in
    let held = c.held-held.ensures in
    let store = c.store.ensures ∙ ap (λ (h : HeldView). h.store) held in
    let at = c.at.ensures.at ∙ ap (λ (h : HeldView). h.at) held in
    let before = c.args.offers.now.items in (
      map_list f (map_list (λ r. r.now) xs),
      (
        map_list (λ r. r.now) xs,
        subst (λ ys. IsAnswer a.filter c.args.work.now.held.at (map.entries c.args.work.now.held.store.retained) (map_list (λ r. r.now) ys)) (sym c.deref-message-items.ensures.value)
            (subst (λ (s : State). IsAnswer a.filter c.args.work.now.held.at (map.entries s.retained) (map_list (λ r. r.now) c.in_ok-found.found.items)) store
            (subst (λ n. IsAnswer a.filter n (map.entries c.store.result.now.retained) (map_list (λ r. r.now) c.in_ok-found.found.items)) at c.in_ok-found.ensures.answer)),
        refl,
      ),
      c.loop-message.invariant ∙ ap (λ ys. before ++ map_list (λ (m : Bor Message). f m.now) ys) (take_all _ _ c.loop-message-test.false) ∙ ap (λ ys. before ++ ys) (mapped f xs),
    )
