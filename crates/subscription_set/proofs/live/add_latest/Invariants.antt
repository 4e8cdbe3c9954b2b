use Rattle.std.proofs.Common.{◌≡◌, ◌++◌, [], map as map_list}
use Rattle.subscription_set.proofs.Walking.{latest_at}
use Rattle.subscription_set.proofs.live.add_latest.Given as goal

abbrev pub invariant-loop-dot : goal.invariant-loop-dot
invariant-loop-dot l = record {
  items : map_list (λ r. r.now) l.out.items ++ map_list (λ x. x.1) (latest_at l.entries l.dot-iterator) ≡ map_list (λ r. r.now) l.fn.out.items ++ map_list (λ x. x.1) (latest_at l.entries l.initial.dot-iterator);
  left : map_list (λ x. x.1) (latest_at l.entries l.initial.dot-iterator) ≡ [] → map_list (λ x. x.1) (latest_at l.entries l.dot-iterator) ≡ [];
}
