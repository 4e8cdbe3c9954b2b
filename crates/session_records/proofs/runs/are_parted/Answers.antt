use Rattle.std.proofs.Common.{sym, ◌∙◌}
use Rattle.std.proofs.lemmas.Bool.{not-true}
use Rattle.session_records.specs.Apart.{named}
use Rattle.session_records.proofs.Interleaving.{parted, from_empty}
use Rattle.session_records.proofs.runs.are_parted.Goals as goal

pub returns-then-are_below : goal.returns-then-are_below
returns-then-are_below c high = parted (named c.in-Some.bound.now) c.args.these.now c.args.those.now (sym c.are_below.ensures ∙ c.if-are_below.true) (sym c.is_one_below.ensures ∙ not-true _ high)

pub returns-in-None : goal.returns-in-None
returns-in-None c none = from_empty c.args.these.now c.args.those.now c.in-None.ensures.value
