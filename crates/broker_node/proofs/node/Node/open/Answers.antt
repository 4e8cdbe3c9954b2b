use Rattle.std.proofs.Common.{◌∙◌, Some, subst}
use Rattle.node_rows.specs.Reading.{IsLasting}
use Rattle.node_work.specs.View.{place_of, woken}
use Rattle.broker_node.proofs.node.Node.open.Goals as goal

pub wake-requires-clause-lanes : goal.wake-requires-clause-lanes
wake-requires-clause-lanes c = let e = c.in_ok-opened.ensures.ok in (e.0.lanes, (c.args.id, c.nodes.result, e.3.links))

pub returns-clause-ok : goal.returns-clause-ok
returns-clause-ok c =
    let e = c.in_ok-opened.ensures.ok in
    let o = c.in_ok-opened.opened in
    let work = c.wake.ensures e.0.lanes (c.args.id, c.nodes.result, e.3.links) in
    record {
      lasting = e.0;
      held = woken c.args.homes o.named o.sessions o.store e.0.lanes;
      can_last = subst (λ n. IsLasting c.args.id n e.0) c.nodes.ensures.count e.1;
      say = e.2;
      woken = (o.sessions, e.3.sessions, λ i. woken c.args.homes (e.3.named i) o.sessions (e.3.store i) e.0.lanes);
      is = (λ i. record { place = place_of c.args.id c.args.homes; homes = c.args.homes; up = Some ((work i).held) })
          ∙ (λ i. record { place = place_of c.args.id c.args.homes; homes = c.args.homes; up = Some (woken (c.in-Ok.ensures i) o.named o.sessions o.store e.0.lanes) });
    }
