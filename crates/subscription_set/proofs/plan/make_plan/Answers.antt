use Rattle.std.proofs.Common.{sym, subst, ap, ◌∙◌, length, arith}
use Rattle.subscription_set.specs.Joining.{AreUnseen}
use Rattle.subscription_set.proofs.Merges.{unseen_none}
use Rattle.subscription_set.proofs.Below.{no_dots}
use Rattle.subscription_set.proofs.plan.make_plan.Goals as goal

pub bring-requires : goal.bring-requires
bring-requires c = unseen_none c.args.seen.now.0 c.args.entries.now c.args.others.now c.deref.result.now c.requires (subst (AreUnseen c.args.seen.now.0 c.args.others.now) (sym c.deref.ensures.value) c.in_ok-brought.ensures.unseen)

pub returns-in_err-bring-clause-none : goal.returns-in_err-bring-clause-none
returns-in_err-bring-clause-none c = λ leaves none.
    (let empty = ap length (c.deref.ensures.value ∙ no_dots c.in_ok-brought.brought.items (λ q. c.in_ok-brought.ensures.unseen q ∙ sym (none q))) in
    let some = c.in_err-bring.ensures.some in absurd (omega arith))
