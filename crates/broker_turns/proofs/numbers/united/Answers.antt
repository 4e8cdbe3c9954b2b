use Rattle.std.proofs.Common.{◌∙◌, ap}
use Rattle.broker_turns.specs.Numbers.{is_among}
use Rattle.broker_turns.proofs.Numbering.{among-append}
use Rattle.broker_turns.proofs.numbers.united.Goals as goal

pub returns : goal.returns
returns c = record {
  rise = c.rising.ensures.rise;
  those = λ number. c.rising.ensures.those number ∙ ap (λ k. is_among k number) c.in_ok-extend_from_slice.ensures.items ∙ among-append _ _ number;
}
