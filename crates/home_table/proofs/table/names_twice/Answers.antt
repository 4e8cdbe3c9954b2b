use Rattle.std.proofs.Common.{◌+◌, ◌||◌, take, sym, ap, ◌∙◌}
use Rattle.std.specs.List.{list_any}
use Rattle.std.specs.Str.{bytes_eq}
use Rattle.home_table.proofs.TwiceLaws.{twice_more, twice_in_front}
use Rattle.home_table.proofs.table.names_twice.Goals as goal

pub returns-then-has_name : goal.returns-then-has_name
returns-then-has_name c =
    let node = c.index-nodes-i.result in
    let before = take c.loop-i.i c.args.nodes.now in
    let more = twice_more (λ n. n.name) c.args.nodes.now c.loop-i.i node c.loop-i-test.true in
    let same = c.as_str.ensures.same ∙ ap (λ n. n.name) c.index-nodes-i.is in
    let any = ap (λ x. list_any (λ n. bytes_eq n.name x) before) (sym same) ∙ sym c.if-has_name.ensures in
    sym (twice_in_front (λ n. n.name) c.args.nodes.now (c.loop-i.i + 1) (more ∙ (λ j. c.loop-i.invariant j || any j)))

pub loop-i-preserved : goal.loop-i-preserved
loop-i-preserved c =
    let node = c.index-nodes-i.result in
    let before = take c.loop-i.i c.args.nodes.now in
    let more = twice_more (λ n. n.name) c.args.nodes.now c.loop-i.i node c.loop-i-test.true in
    let same = c.as_str.ensures.same ∙ ap (λ n. n.name) c.index-nodes-i.is in
    let any = ap (λ x. list_any (λ n. bytes_eq n.name x) before) (sym same) ∙ sym c.if-has_name.ensures in
    more ∙ (λ j. c.loop-i.invariant j || any j)
