use Rattle.std.proofs.Common.{◌≡◌, Some, None, IsTrue, false, subst, sym, lit<, rules, arith}
use Rattle.std.specs.Prelude.{codes}
use Rattle.home_table.specs.Homes.{IsWholeNumber}
use Rattle.std.proofs.lemmas.Str.Pattern.{split_parts}
use Rattle.home_table.proofs.AutomaticLaws.{cut_auto, cut_node, joined}
use Rattle.home_table.proofs.automatic.automatic_number.Goals as goal

pub returns-in_err-node-clause-none : goal.returns-in_err-node-clause-none
returns-in_err-node-clause-none c = rw c.from_residual-in_err-node.ensures (λ n small own.
    let (front, later) = cut_auto c.args.identifier.now n (Some (c.in_ok-auto.auto, c.in_ok-auto.rest)) c.in_ok-auto.ensures.cases own in
    let (number, whole, e) = later in
    cut_node c.in_ok-auto.rest.now number n None (omega arith) c.in_err-node.ensures.cases e)

pub returns-then-not-is_whole_number-clause-none : goal.returns-then-not-is_whole_number-clause-none
returns-then-not-is_whole_number-clause-none c = λ n small own.
    let (front, later) = cut_auto c.args.identifier.now n (Some (c.in_ok-auto.auto, c.in_ok-auto.rest)) c.in_ok-auto.ensures.cases own in
    let (number, whole, e) = later in
    let parts = cut_node c.in_ok-auto.rest.now number n (Some (c.in_ok-node.node, c.in_ok-node.number)) (omega arith) c.in_ok-node.ensures.cases e in
    let h : IsTrue false = c.if-not-is_whole_number.ensures.1 (subst IsWholeNumber (sym parts.1) whole) in cc

pub returns-in_err-n-clause-none : goal.returns-in_err-n-clause-none
returns-in_err-n-clause-none c = rw c.from_residual-in_err-n.ensures (λ n small own.
    let (front, later) = cut_auto c.args.identifier.now n (Some (c.in_ok-auto.auto, c.in_ok-auto.rest)) c.in_ok-auto.ensures.cases own in
    let (number, whole, e) = later in
    let parts = cut_node c.in_ok-auto.rest.now number n (Some (c.in_ok-node.node, c.in_ok-node.number)) (omega arith) c.in_ok-node.ensures.cases e in
    c.in_err-n.ensures.none n small parts.0)

pub returns-clause-some : goal.returns-clause-some
returns-clause-some c =
    let first = split_parts 45 c.args.identifier.now (Some (c.in_ok-auto.auto, c.in_ok-auto.rest)) c.in_ok-auto.ensures.cases (lit< tt) in
    let second = split_parts 45 c.in_ok-auto.rest.now (Some (c.in_ok-node.node, c.in_ok-node.number)) c.in_ok-node.ensures.cases (lit< tt) in
    let front : c.in_ok-auto.auto.now ≡ codes "auto" = search rules in (
      c.in_ok-n.ensures.some.0,
      joined c.args.identifier.now c.in_ok-auto.auto.now c.in_ok-auto.rest.now c.in_ok-node.node.now c.in_ok-node.number.now c.in_ok-n.n first.0 front second.0 c.in_ok-n.ensures.some.1 (c.is_whole_number.ensures.0 c.if-not-is_whole_number.false),
    )
