-- A blank text is the empty document.
use Rattle.std.proofs.Common.{◌≡◌, ℕ, suc, List, [], length, Some, arith}
use Rattle.toml.specs.Data.{no_members}
use Rattle.toml.specs.Tables.{no_nodes}
use Rattle.toml.specs.Errors.{IsBlank}
use Rattle.toml.specs.Parse.{parse_document, skip_bom}
use Rattle.toml.proofs.Turns.{document_some, lines_end}

pub blank_reads : (text : List ℕ) → IsBlank text → parse_document text ≡ Some no_members
blank_reads text blank = document_some text (no_nodes, []) (lines_end (suc (length text)) (no_nodes, []) (skip_bom text) (omega arith) blank)
