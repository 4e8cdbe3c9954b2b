use Rattle.std.proofs.Common.{inl, inr}
use Rattle.filter_trie.proofs.StepLaws.{begins_allowed}
use Rattle.filter_trie.proofs.steps.filter_step.Goals as goal

pub returns-clause-past : goal.returns-clause-past
returns-clause-past c = c.lesser.ensures.past c.args.rest.now c.level_step.ensures.past c.wildcard_after.ensures.past

pub returns-clause-covers : goal.returns-clause-covers
returns-clause-covers c = λ later t m after.
    elim (begins_allowed t c.args.level.now later m) [
      | inl wild ↦ elim (c.wildcard_after.ensures.covers t wild after) [ inl from ↦ inl (c.lesser.ensures.from t (inr from)) | inr shared ↦ inr shared ]
      | inr at ↦ elim (c.level_step.ensures.covers t at after) [ inl from ↦ inl (c.lesser.ensures.from t (inl from)) | inr shared ↦ inr shared ]
    ]
