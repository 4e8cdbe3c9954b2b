use Rattle.std.proofs.Common.{◌∙◌, ap, map}
use Rattle.std.specs.FinMap as finite
use Rattle.home_table.proofs.PrefixLaws.{by_bytes, insert-prefixes}
use Rattle.home_table.proofs.prefixes.Prefixes.add.Goals as goal

pub returns-clause-ok : goal.returns-clause-ok
returns-clause-ok c =
    ap (λ es. finite.from_entries (map by_bytes es)) c.in_ok-insert.ensures.entries
    ∙ insert-prefixes c.self.inside.numbers.entries c.in_ok-key.key c.args.node
    ∙ (λ i. finite.insert (c.self.view_is i) (c.in_ok-key.ensures.items i) c.args.node)
