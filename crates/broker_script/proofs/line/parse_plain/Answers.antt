use Rattle.std.proofs.Common.{◌∷◌, ◌∙◌, sym, ap, map}
use Rattle.broker_script.proofs.Commands.{no_start, no_open, no_close, no_tick, no_ship, no_link, no_event}
use Rattle.broker_script.proofs.line.parse_plain.Goals as goal

pub returns-in_err-node-in-start-clause-none : goal.returns-in_err-node-in-start-clause-none
returns-in_err-node-in-start-clause-none c = rw c.from_residual.ensures (λ command r e.
    no_start _ c.in_err-node-in-start.ensures.none command r (sym (ap (λ w. w ∷ map (λ v. v.now) c.args.rest.now) c.in-start.is) ∙ e))

pub returns-in_err-node-in-open-clause-none : goal.returns-in_err-node-in-open-clause-none
returns-in_err-node-in-open-clause-none c = rw c.from_residual-in_err-node-in-open.ensures (λ command r e.
    no_open _ c.in_err-node-in-open.ensures.none command r (sym (ap (λ w. w ∷ map (λ v. v.now) c.args.rest.now) c.in-open.is) ∙ e))

pub returns-in_err-node-in-close-clause-none : goal.returns-in_err-node-in-close-clause-none
returns-in_err-node-in-close-clause-none c = rw c.from_residual-in_err-node-in-close.ensures (λ command r e.
    no_close _ c.in_err-node-in-close.ensures.none command r (sym (ap (λ w. w ∷ map (λ v. v.now) c.args.rest.now) c.in-close.is) ∙ e))

pub returns-in_err-node-in-tick-clause-none : goal.returns-in_err-node-in-tick-clause-none
returns-in_err-node-in-tick-clause-none c = rw c.from_residual-in_err-node-in-tick.ensures (λ command r e.
    no_tick _ c.in_err-node-in-tick.ensures.none command r (sym (ap (λ w. w ∷ map (λ v. v.now) c.args.rest.now) c.in-tick.is) ∙ e))

pub returns-in_err-node-in-ship-clause-none : goal.returns-in_err-node-in-ship-clause-none
returns-in_err-node-in-ship-clause-none c = rw c.from_residual-in_err-node-in-ship.ensures (λ command r e.
    no_ship _ c.in_err-node-in-ship.ensures.none command r (sym (ap (λ w. w ∷ map (λ v. v.now) c.args.rest.now) c.in-ship.is) ∙ e))

pub returns-in_err-node-in-link-clause-none : goal.returns-in_err-node-in-link-clause-none
returns-in_err-node-in-link-clause-none c = rw c.from_residual-in_err-node-in-link.ensures (λ command r e.
    no_link _ c.in_err-node-in-link.ensures.none command r (sym (ap (λ w. w ∷ map (λ v. v.now) c.args.rest.now) c.in-link.is) ∙ e))

pub returns-in_default-clause-none : goal.returns-in_default-clause-none
returns-in_default-clause-none c =
    let n = c.in_default in
    no_event _ _ n.not-start n.not-open n.not-ship c.requires.not_bytes c.requires.not_evict n.not-close n.not-tick n.not-link c.requires.not_move
