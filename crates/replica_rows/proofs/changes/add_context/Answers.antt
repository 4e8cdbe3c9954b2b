use Rattle.std.proofs.Common.{[], ◌∷◌, sym, ap, ◌∙◌, inl, inr, refl, true≢false}
use Rattle.mqtt_message.proofs.RoomLaws.{on_err}
use Rattle.causal_context.specs.Spelling.{context}
use Rattle.replica_rows.proofs.Contexts.{nothing_more, something_more}
use Rattle.replica_rows.proofs.changes.add_context.Goals as goal

pub returns-then-is_below-clause-put : goal.returns-then-is_below-clause-put
returns-then-is_below-clause-put c = inl (nothing_more c.args.own.now c.args.other.now (c.is_below.ensures.0 c.if-is_below.true), refl)

pub returns-clause-put : goal.returns-clause-put
returns-clause-put c = inr (record {
  more = something_more c.args.own.now c.args.other.now (λ below. true≢false (sym (c.is_below.ensures.1 below) ∙ c.if-is_below.false));
  spelled = record { ranges = c.ranges-own.result.now; context = c.ranges-own.ensures.ranges; set = c.ranges-own.ensures.set };
  row = c.in_ok-row.row;
  is = c.in_ok-row.ensures ∙ ap (λ x. ((6, ([], c.args.at ∷ [])), context.bytes x)) c.in_ok-joined.ensures.both;
  pushed = c.in_ok-push.ensures.items;
  joined = record { ranges = c.joined-2.inside.ranges.items; context = c.joined-2.invariant; set = c.joined-2.view_is ∙ c.in_ok-joined.ensures.both };
})

pub returns-in_err-joined-clause-memory : goal.returns-in_err-joined-clause-memory
returns-in_err-joined-clause-memory c = on_err c.from_residual.result _ (something_more c.args.own.now c.args.other.now (λ below. true≢false (sym (c.is_below.ensures.1 below) ∙ c.if-is_below.false)))

pub returns-in_err-row-clause-memory : goal.returns-in_err-row-clause-memory
returns-in_err-row-clause-memory c = on_err c.from_residual-in_err-row.result _ (something_more c.args.own.now c.args.other.now (λ below. true≢false (sym (c.is_below.ensures.1 below) ∙ c.if-is_below.false)))

pub returns-in_err-push-clause-memory : goal.returns-in_err-push-clause-memory
returns-in_err-push-clause-memory c = on_err c.from_residual-in_err-push.result _ (something_more c.args.own.now c.args.other.now (λ below. true≢false (sym (c.is_below.ensures.1 below) ∙ c.if-is_below.false)))
