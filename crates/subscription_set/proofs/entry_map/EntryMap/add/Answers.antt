use Rattle.std.proofs.Common.{sym, ap, ◌∙◌, arith}
use Rattle.std.specs.FinMap as map
use Rattle.subscription_set.specs.Holding.{held}
use Rattle.subscription_set.specs.Indexing.{ByDot}
use Rattle.subscription_set.proofs.Alone.{none_held, none_counted, alone_some}
use Rattle.subscription_set.proofs.entry_map.EntryMap.add.Goals as goal

pub returns-in_err-with-in-One-clause-first : goal.returns-in_err-with-in-One-clause-first
returns-in_err-with-in-One-clause-first c = λ none. absurd (alone_some c.in-One.one (sym (ap held c.in-One.is) ∙ c.self.view_is ∙ none))

pub returns-then-len-gt0-clause-first : goal.returns-then-len-gt0-clause-first
returns-then-len-gt0-clause-first c = λ none. absurd (omega (arith, c.len.ensures, c.if-len-gt0.true, none_counted c.in-Many.all (sym (ap held c.in-Many.is) ∙ c.self.view_is ∙ none)))

pub returns-else-len-gt0-clause-ok : goal.returns-else-len-gt0-clause-ok
returns-else-len-gt0-clause-ok c = ap (λ x. map.insert map.empty x.0 x.1) c.new-in-Many.ensures
    ∙ ap (λ (m : ByDot). map.insert m c.args.dot c.args.entry) (sym (none_held c.in-Many.all (omega (arith, c.len.ensures, c.if-len-gt0.false))) ∙ sym (ap held c.in-Many.is) ∙ c.self.view_is)
