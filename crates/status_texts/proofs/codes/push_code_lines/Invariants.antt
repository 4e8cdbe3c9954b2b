use Rattle.std.proofs.Common.{◌≡◌, drop}
use Rattle.std.specs.Prelude.{string_bytes}
use Rattle.status_texts.specs.Codes.{with_code_lines}
use Rattle.status_texts.proofs.codes.push_code_lines.Given as goal

-- with the codes that are left, all are there
abbrev pub invariant-loop-one : goal.invariant-loop-one
invariant-loop-one l = with_code_lines l.name (drop l.one-index l.all) (string_bytes l.text) ≡ with_code_lines l.name l.all (string_bytes l.fn.text)
