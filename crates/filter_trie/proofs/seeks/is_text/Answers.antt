use Rattle.std.proofs.Common.{◌∙◌, sym, arith}
use Rattle.mqtt_fields.proofs.TextLaws.{is_text_from}
use Rattle.filter_trie.proofs.seeks.is_text.Goals as goal

pub returns-then-text-le-LONGEST_STRING : goal.returns-then-text-le-LONGEST_STRING
returns-then-text-le-LONGEST_STRING c = λ t. (omega arith, is_text_from c.args.text.now c.utf8.text (sym c.has_no_zero.ensures ∙ t))
