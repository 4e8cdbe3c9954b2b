use Rattle.std.proofs.Common.{◌≡◌, drop}
use Rattle.std.specs.Prelude.{string_bytes}
use Rattle.status_pages.specs.Status.{with_codes}
use Rattle.status_pages.proofs.codes.push_codes.Given as goal

-- with the codes that are left, all are there
abbrev pub invariant-loop-index : goal.invariant-loop-index
invariant-loop-index l = with_codes l.index (drop l.index l.all) (string_bytes l.text) ≡ with_codes 0 l.all (string_bytes l.fn.text)
