use Rattle.std.proofs.Common.{◌<◌, ◌^◌, ◌∙◌, arith}
use Rattle.std.proofs.lemmas.List.{length-set, take_all}
use Rattle.broker_script.proofs.Words.{not_numbers, read_more}
use Rattle.std.proofs.lemmas.List.Elements.{All-set}
use Rattle.broker_script.proofs.word.parse_nodes.Goals as goal

pub returns-in_err-nodes-clause-none : goal.returns-in_err-nodes-clause-none
returns-in_err-nodes-clause-none g c =
    rw c.from_residual.ensures (λ ns long fits e. not_numbers _ (λ w. w.now) c.args.words.now _ ns c.loop-i.i (omega arith) fits e c.in_err-nodes.ensures.none)

pub loop-i-preserved : goal.loop-i-preserved
loop-i-preserved g c = record {
  read = read_more (λ w. w.now) c.args.words.now _ c.loop-i.nodes c.loop-i.i c.in_ok-nodes.field-0 (omega arith) c.loop-i.invariant.long c.loop-i.invariant.read c.in_ok-nodes.ensures.some.1;
  fits = All-set (λ n. n < 2 ^ 16) c.loop-i.nodes c.loop-i.i c.in_ok-nodes.field-0 c.in_ok-nodes.ensures.some.0 c.loop-i.invariant.fits;
  long = length-set c.loop-i.nodes c.loop-i.i c.in_ok-nodes.field-0 ∙ c.loop-i.invariant.long;
}

pub returns-clause-some : goal.returns-clause-some
returns-clause-some g c =
    let whole = rw (take_all c.loop-i.i c.args.words.now (omega arith), take_all c.loop-i.i c.loop-i.nodes (omega (arith, c.loop-i.invariant.long))) at c.loop-i.invariant.read in
    (c.loop-i.invariant.fits, whole)
