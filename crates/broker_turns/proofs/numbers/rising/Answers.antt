use Rattle.std.proofs.Common.{◌∙◌, ap, sym, eqb, subst}
use Rattle.std.specs.List.Sorted.{IsStrictlyIncreasing}
use Rattle.std.proofs.lemmas.List.Filters.{dedup_is}
use Rattle.std.proofs.lemmas.List.Sorted.{list_any-IsPermutation}
use Rattle.std.proofs.lemmas.Map.Keys.{IsStrictlyIncreasing-dedup}
use Rattle.broker_turns.specs.Numbers.{is_among}
use Rattle.broker_turns.proofs.Numbering.{among-dedup}
use Rattle.broker_turns.proofs.numbers.rising.Goals as goal

pub returns : goal.returns
returns c =
    let is = dedup_is eqb _ _ c.dedup.ensures.filtered in
    record {
      rise = subst IsStrictlyIncreasing (sym is) (IsStrictlyIncreasing-dedup _ c.sort_unstable.ensures.sorted);
      those = λ number.
          ap (λ k. is_among k number) is ∙ among-dedup _ number
          ∙ sym (list_any-IsPermutation (eqb number) _ _ c.sort_unstable.ensures.permutation);
    }
