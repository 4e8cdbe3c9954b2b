use Rattle.std.proofs.Common.{◌≡◌, true, length, map, ◌∙◌, arith}
use Rattle.std.specs.Prelude.{nat_le}
use Rattle.std.proofs.lemmas.Bool.Decides.{nat_tests}
use Rattle.std.proofs.lemmas.List.{length-map}
use Rattle.toml.specs.View.{view}
use Rattle.home_table.specs.Document.{is_document_key}
use Rattle.home_table.proofs.RowLaws.{list_all-keys}
use Rattle.home_table.proofs.rows.sections_of.Goals as goal

pub returns-then-not-has_document_keys-clause-sections : goal.returns-then-not-has_document_keys-clause-sections
returns-then-not-has_document_keys-clause-sections c = rw (← (c.if-not-has_document_keys.ensures ∙ list_all-keys is_document_key c.args.document.now.entries))

pub returns-clause-sections : goal.returns-clause-sections
returns-clause-sections c =
    let few : nat_le (length (map view c.in_ok-nodes.nodes.now)) 64 ≡ true = rw length-map (grind (arith, nat_tests)) in
    rw (← (c.if-not-has_document_keys.ensures ∙ list_all-keys is_document_key c.args.document.now.entries), ← c.in_ok-nodes.ensures, few, ← c.in_ok-homes.ensures)
