use Rattle.std.proofs.Common.{◌<◌, length, map, subst, sym, ap, ◌∙◌, arith}
use Rattle.std.specs.FinMap as finite
use Rattle.std.proofs.lemmas.Bool.Decides.{nat_tests}
use Rattle.home_table.specs.Table.{IsTable, home_of_row}
use Rattle.home_table.proofs.PrefixLaws.{homes_known}
use Rattle.home_table.proofs.HomeLaws.{shared_table}
use Rattle.home_table.proofs.table.HomeTable.of.Goals as goal

pub invariant_of-result : goal.invariant_of-result
invariant_of-result c =
    let some : 0 < length c.args.nodes.items = grind (arith, nat_tests) in
    subst IsTable (sym (ap shared_table c.in_ok-shared.ensures.ok)) (record {
      some = some;
      few = c.requires;
      known = λ prefix node is. homes_known c.args.nodes.items c.args.homes.now some prefix node (ap (λ m. finite.get m prefix) (sym (c.in_ok-prefixes.ensures.placed ∙ ap (λ nodes. finite.from_entries (map (home_of_row nodes) c.args.homes.now)) c.as_slice-2.ensures.value)) ∙ is);
    })
