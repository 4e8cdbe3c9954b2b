use Rattle.std.proofs.Common.{◌≡◌, drop}
use Rattle.std.specs.Prelude.{string_bytes}
use Rattle.door_log.specs.Telling.{all_told}
use Rattle.door_log.proofs.losses.tell_all.Given as goal

-- with the losses that are left, all are told
abbrev pub invariant-loop-place : goal.invariant-loop-place
invariant-loop-place l =
    all_told l.at l.place (drop l.place l.losses) (l.noted.items, string_bytes l.text) ≡ all_told l.at 0 l.losses (l.fn.noted.items, string_bytes l.fn.text)
