use Rattle.std.proofs.Common.{◌∙◌, ap}
use Rattle.std.specs.FinMap as finite
use Rattle.home_table.proofs.PrefixLaws.{get-prefixes}
use Rattle.home_table.proofs.prefixes.Prefixes.get.Goals as goal

pub returns : goal.returns
returns c = c.copied.ensures ∙ c.get.ensures.value ∙ get-prefixes c.args.prefix.now c.self.inside.numbers.entries ∙ ap (λ m. finite.get m c.args.prefix.now) c.self.view_is
