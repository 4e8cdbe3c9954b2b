use Rattle.std.proofs.Common.{inl, inr, refl}
use Rattle.causal_context.proofs.RangeLemmas.{not_so}
use Rattle.causal_context.proofs.Searching.{covered_beside, covered_reaches}
use Rattle.causal_context.proofs.Inserting.{put_alone, put_first, put_nothing, put_last, put_between}
use Rattle.causal_context.proofs.insertion.put.Goals as goal

pub returns-then-follows-clause-ok : goal.returns-then-follows-clause-ok
returns-then-follows-clause-ok c =
    let started = rw c.deref.ensures.value at c.started-next.ensures in
    let follows = rw c.deref-2.ensures.value at c.follows_at-follows.ensures in
    let reaches = rw c.deref-3.ensures.value at c.reaches_at.ensures in
    put_first c.args.ranges.now.items c.args.node c.args.number c.started-next.result c.requires.context.sound c.ranges.node.fits c.requires.from c.requires.below started
    c.index_mut.result.now _ (not_so c.reaches_at.result reaches c.if-not-reaches_at.true) (follows.0 c.if-follows.true) c.index_mut.ensures.value refl

pub returns-then-not-reaches_at-clause-ok : goal.returns-then-not-reaches_at-clause-ok
returns-then-not-reaches_at-clause-ok c =
    let started = rw c.deref.ensures.value at c.started-next.ensures in
    let follows = rw c.deref-2.ensures.value at c.follows_at-follows.ensures in
    let reaches = rw c.deref-3.ensures.value at c.reaches_at.ensures in
    rw c.in_ok-insert.ensures.items (put_alone c.args.ranges.now.items c.args.node c.args.number c.started-next.result c.requires.context.sound c.ranges.node.fits c.requires.from c.requires.below started
    (not_so c.reaches_at.result reaches c.if-not-reaches_at.true) (not_so c.follows_at-follows.result follows c.if-follows.false))

pub returns-then-number-before-clause-ok : goal.returns-then-number-before-clause-ok
returns-then-number-before-clause-ok c =
    let started = rw c.deref.ensures.value at c.started-next.ensures in
    let reaches = rw c.deref-3.ensures.value at c.reaches_at.ensures in
    put_nothing c.args.ranges.now.items c.args.node c.args.number c.started-next.result c.requires.context.sound c.ranges.node.fits c.requires.from c.requires.below started
    c.index-before.result.now (reaches.0 c.if-not-reaches_at.false) c.index-before.ensures c.if-number-before.true

pub returns-then-follows-2-clause-ok : goal.returns-then-follows-2-clause-ok
returns-then-follows-2-clause-ok c =
    let started = rw c.deref.ensures.value at c.started-next.ensures in
    let follows = rw c.deref-2.ensures.value at c.follows_at-follows.ensures in
    let reaches = rw c.deref-3.ensures.value at c.reaches_at.ensures in
    rw c.remove.ensures.items (put_between c.args.ranges.now.items c.args.node c.args.number c.started-next.result c.requires.context.sound c.ranges.node.fits c.requires.from c.requires.below started
    c.index-before.result.now (reaches.0 c.if-not-reaches_at.false) c.index-before.ensures c.index.result.now _ (follows.0 c.if-follows-2.true) c.index.ensures c.if-number-before.false refl)

pub returns-clause-ok : goal.returns-clause-ok
returns-clause-ok c =
    let started = rw c.deref.ensures.value at c.started-next.ensures in
    let follows = rw c.deref-2.ensures.value at c.follows_at-follows.ensures in
    let reaches = rw c.deref-3.ensures.value at c.reaches_at.ensures in
    put_last c.args.ranges.now.items c.args.node c.args.number c.started-next.result c.requires.context.sound c.ranges.node.fits c.requires.from c.requires.below started
    c.index-before.result.now (reaches.0 c.if-not-reaches_at.false) c.index-before.ensures _ (not_so c.follows_at-follows.result follows c.if-follows-2.false) c.if-number-before.false refl

pub returns-then-len-eq-MOST_RANGES-clause-there : goal.returns-then-len-eq-MOST_RANGES-clause-there
returns-then-len-eq-MOST_RANGES-clause-there c =
    let started = rw c.deref.ensures.value at c.started-next.ensures in
    let reaches = rw c.deref-3.ensures.value at c.reaches_at.ensures in
    λ there. absurd (not_so c.reaches_at.result reaches c.if-not-reaches_at.true (covered_reaches c.args.ranges.now.items _ c.started-next.result c.requires.context.sound started there))

pub returns-in_err-insert-clause-there : goal.returns-in_err-insert-clause-there
returns-in_err-insert-clause-there c =
    let started = rw c.deref.ensures.value at c.started-next.ensures in
    let reaches = rw c.deref-3.ensures.value at c.reaches_at.ensures in
    λ there. absurd (not_so c.reaches_at.result reaches c.if-not-reaches_at.true (covered_reaches c.args.ranges.now.items _ c.started-next.result c.requires.context.sound started there))

pub returns-then-len-eq-MOST_RANGES-clause-beside : goal.returns-then-len-eq-MOST_RANGES-clause-beside
returns-then-len-eq-MOST_RANGES-clause-beside c =
    let started = rw c.deref.ensures.value at c.started-next.ensures in
    let follows = rw c.deref-2.ensures.value at c.follows_at-follows.ensures in
    let reaches = rw c.deref-3.ensures.value at c.reaches_at.ensures in
    λ m low high there. elim (covered_beside c.args.ranges.now.items (record { node = c.args.node; number = c.args.number }) m c.started-next.result c.requires.context.sound started low high there) [
      | inl before ↦ absurd (not_so c.reaches_at.result reaches c.if-not-reaches_at.true before)
      | inr after ↦ absurd (not_so c.follows_at-follows.result follows c.if-follows.false after)
    ]

pub returns-in_err-insert-clause-beside : goal.returns-in_err-insert-clause-beside
returns-in_err-insert-clause-beside c =
    let started = rw c.deref.ensures.value at c.started-next.ensures in
    let follows = rw c.deref-2.ensures.value at c.follows_at-follows.ensures in
    let reaches = rw c.deref-3.ensures.value at c.reaches_at.ensures in
    λ m low high there. elim (covered_beside c.args.ranges.now.items (record { node = c.args.node; number = c.args.number }) m c.started-next.result c.requires.context.sound started low high there) [
      | inl before ↦ absurd (not_so c.reaches_at.result reaches c.if-not-reaches_at.true before)
      | inr after ↦ absurd (not_so c.follows_at-follows.result follows c.if-follows.false after)
    ]
