use Rattle.std.proofs.Common.{◌≡◌, true, [], sym, ap, ◌∙◌}
use Rattle.std.specs.Option.{option_copied}
use Rattle.std.specs.FinMap as map
use Rattle.replica_rows.proofs.Gathered.{own_at}
use Rattle.mqtt_message.proofs.RoomLaws.{on_err}
use Rattle.replica_store.specs.Merging.{is_newer}
use Rattle.replica_rows.proofs.Merged.{topic_loses, topic_fresh, topic_greater}
use Rattle.replica_rows.proofs.changes.add_topic.Goals as goal
use Rattle.replica_rows.proofs.changes.add_topic.Goals.{in-Some+else-not-is_below, in_default}

pub kept_fits-requires : goal.kept_fits-requires
kept_fits-requires c = own_at c.retained.result.now c.args.topic.now c.in-Some.own.now c.kept.ensures.topics (sym (sym (ap option_copied c.in-Some.is) ∙ c.kept.ensures.kept))

pub returns-then-not-is_below-clause-put : goal.returns-then-not-is_below-clause-put
returns-then-not-is_below-clause-put c =
    let here = sym (sym (ap option_copied c.in-Some.is) ∙ c.kept.ensures.kept ∙ ap (λ m. map.get m c.args.topic.now) c.retained.ensures) in
    topic_loses c.args.store.now c.args.delta.now c.args.topic.now c.in-Some.own.now c.args.kept.now (5, (c.args.topic.now, [])) c.args.out.now.items c.is_below.result here c.is_below.ensures c.if-not-is_below.true

pub returns-clause-put : goal.returns-clause-put
returns-clause-put c = elim c.match-kept.branch [
  | in-Some+else-not-is_below w ↦
      let here = sym (sym (ap option_copied w.in-Some.is) ∙ c.kept.ensures.kept ∙ ap (λ m. map.get m c.args.topic.now) c.retained.ensures) in
      topic_greater c.args.store.now c.args.delta.now c.args.topic.now w.in-Some.own.now c.args.kept.now c.in_ok-row.row c.args.out.now.items c.push.new.self.items w.is_below.result c.requires.there here w.is_below.ensures w.if-not-is_below.false
      w.kept_fits.ensures c.kept_fits-2.ensures c.in_ok-row.ensures c.in_ok-push.ensures.items
  | in_default w ↦
      let none = sym (sym (ap option_copied w.in_default.is) ∙ c.kept.ensures.kept ∙ ap (λ m. map.get m c.args.topic.now) c.retained.ensures) in
      topic_fresh c.args.store.now c.args.delta.now c.args.topic.now c.args.kept.now c.in_ok-row.row c.args.out.now.items c.push.new.self.items c.requires.there none c.in_ok-row.ensures c.in_ok-push.ensures.items
]

pub returns-in_err-row-clause-memory : goal.returns-in_err-row-clause-memory
returns-in_err-row-clause-memory c = on_err c.from_residual.result (is_newer (map.get c.args.store.now.retained c.args.topic.now) c.args.kept.now ≡ true) (elim c.match-kept.branch [
  | in-Some+else-not-is_below w ↦
      let here = sym (sym (ap option_copied w.in-Some.is) ∙ c.kept.ensures.kept ∙ ap (λ m. map.get m c.args.topic.now) c.retained.ensures) in
      ap (λ o. is_newer o c.args.kept.now) here ∙ sym w.is_below.ensures ∙ w.if-not-is_below.false
  | in_default w ↦
      let none = sym (sym (ap option_copied w.in_default.is) ∙ c.kept.ensures.kept ∙ ap (λ m. map.get m c.args.topic.now) c.retained.ensures) in
      ap (λ o. is_newer o c.args.kept.now) none
])

pub returns-in_err-push-clause-memory : goal.returns-in_err-push-clause-memory
returns-in_err-push-clause-memory c = on_err c.from_residual-in_err-push.result (is_newer (map.get c.args.store.now.retained c.args.topic.now) c.args.kept.now ≡ true) (elim c.match-kept.branch [
  | in-Some+else-not-is_below w ↦
      let here = sym (sym (ap option_copied w.in-Some.is) ∙ c.kept.ensures.kept ∙ ap (λ m. map.get m c.args.topic.now) c.retained.ensures) in
      ap (λ o. is_newer o c.args.kept.now) here ∙ sym w.is_below.ensures ∙ w.if-not-is_below.false
  | in_default w ↦
      let none = sym (sym (ap option_copied w.in_default.is) ∙ c.kept.ensures.kept ∙ ap (λ m. map.get m c.args.topic.now) c.retained.ensures) in
      ap (λ o. is_newer o c.args.kept.now) none
])
