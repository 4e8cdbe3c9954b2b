use Rattle.std.proofs.Common.{◌∙◌, ◌++◌, ap, refl, subst, sym}
use Rattle.std.specs.BTreeMap.{get}
use Rattle.std.specs.Ordering.{nat_cmp}
use Rattle.broker_holds.specs.Holding.{forgotten}
use Rattle.broker_holds.proofs.sockets.HoldingSocketsReadiness.ready.Goals as goal

pub returns : goal.returns
returns g c =
    let inside = c.in_ok-found.found in
    record {
      inside = inside;
      told = subst (λ s. g.S.Readiness.finds c.args.self.now.sockets inside s) (sym c.forget.ensures.sockets) c.in_ok-found.ensures;
      strained = c.get-strained.result;
      due = c.in_ok-due.due.items;
      all = c.in_ok-due.ensures;
      clients = c.in_ok-extend_from_slice.ensures.items ∙ ap (λ due. inside.clients.items ++ due) c.deref-2.ensures.value;
      listeners = refl;
      links = refl;
      peers = refl;
      kept = λ client. c.forget.ensures.held client ∙ ap (λ due. forgotten client due (get nat_cmp c.args.self.now.held client)) c.deref-3.ensures.value;
    }
