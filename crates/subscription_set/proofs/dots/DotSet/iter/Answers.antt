use Rattle.subscription_set.proofs.OneDot.{one_rises}
use Rattle.subscription_set.proofs.dots.DotSet.iter.Goals as goal

pub returns-in-One-clause-rises : goal.returns-in-One-clause-rises
returns-in-One-clause-rises c = one_rises c.in-One.dot c.single.result c.single.ensures
