use Rattle.std.proofs.Common.{◌≡◌, drop}
use Rattle.std.specs.Prelude.{string_bytes}
use Rattle.status_texts.specs.Codes.{with_code_rows}
use Rattle.status_texts.proofs.codes.push_code_rows.Given as goal

-- with the codes that are left, all are there
abbrev pub invariant-loop-one : goal.invariant-loop-one
invariant-loop-one l = with_code_rows l.before (drop l.one-index l.all) (string_bytes l.text) ≡ with_code_rows l.before l.all (string_bytes l.fn.text)
