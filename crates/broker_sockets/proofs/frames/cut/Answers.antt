use Rattle.std.proofs.Common.{◌≡◌, refl, sym, ap, subst, append-nil, ◌∙◌}
use Rattle.broker_sockets.specs.Buffers.{joined}
use Rattle.broker_sockets.proofs.Cutting.{finish, frames-more, shift}
use Rattle.broker_sockets.specs.Frames.{IsFrame, IsTooLong}
use Rattle.broker_sockets.proofs.frames.cut.Goals as goal

pub loop-rest-preserved : goal.loop-rest-preserved
loop-rest-preserved c =
    let kept = shift _ c.loop-rest.held.items c.loop-rest.rest.now c.split_at.result.0.now c.split_at.result.1.now _ c.extend_from_slice.new.self.items
    c.in_ok-extend_from_slice.ensures.items (sym c.split_at.ensures.by_index.0) c.loop-rest.invariant.2 in
    let seen : c.deref-in-loop-rest.result.now ≡ c.extend_from_slice.new.self.items = c.deref-in-loop-rest.ensures.value in
    let same = ap (λ v. v.items) c.replace.ensures.value in
    let empty = ap (λ v. v.items) c.replace.ensures.after ∙ c.new.ensures.items in (
      rw empty tt,
      frames-more _ _ _ c.extend_from_slice.new.self.items c.in_ok-push-in-Whole.ensures.items same (subst IsFrame seen (c.in-Whole.ensures.whole refl)) c.loop-rest.invariant.1,
      rw (empty, append-nil (joined c.push.new.self.items)) (finish _ _ _ c.extend_from_slice.new.self.items _ _ c.in_ok-push-in-Whole.ensures.items same kept),
    )

pub returns-in-TooLong : goal.returns-in-TooLong
returns-in-TooLong c =
    let kept = shift _ c.loop-rest.held.items c.loop-rest.rest.now c.split_at.result.0.now c.split_at.result.1.now _ c.extend_from_slice.new.self.items
    c.in_ok-extend_from_slice.ensures.items (sym c.split_at.ensures.by_index.0) c.loop-rest.invariant.2 in
    let seen : c.deref-in-loop-rest.result.now ≡ c.extend_from_slice.new.self.items = c.deref-in-loop-rest.ensures.value in
    (c.loop-rest.invariant.1, (c.extend_from_slice.new.self.items, c.split_at.result.1.now, subst IsTooLong seen (c.in-TooLong.ensures.long refl), kept))
