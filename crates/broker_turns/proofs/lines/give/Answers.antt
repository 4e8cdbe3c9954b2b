use Rattle.std.proofs.Common.{sym, ◌∙◌, ◌∷◌, [], ap}
use Rattle.broker_turns.proofs.Linking.{framed_at-more}
use Rattle.broker_turns.specs.Lines.{framed_at}
use Rattle.broker_turns.proofs.lines.give.Goals as goal

pub loop-frame-preserved : goal.loop-frame-preserved
loop-frame-preserved g c = (
  λ peer.
      c.in_ok-give_one.ensures.ok peer
      ∙ ap (λ t. framed_at peer (c.in-Some.frame ∷ []) t) (c.loop-frame.invariant.0 peer)
      ∙ sym (framed_at-more peer c.loop-frame.yielded c.in-Some.frame _),
  c.in_ok-give_one.ensures.len ∙ c.loop-frame.invariant.1,
)
