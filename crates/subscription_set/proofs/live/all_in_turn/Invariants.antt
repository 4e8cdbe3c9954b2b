use Rattle.std.proofs.Common.{◌≡◌, ◌++◌, drop, flat_map, map as map_list}
use Rattle.subscription_set.specs.Members.{in_turn, latest_entries, to_filter}
use Rattle.subscription_set.proofs.live.all_in_turn.Given as goal

abbrev pub invariant-loop-filter : goal.invariant-loop-filter
invariant-loop-filter l = map_list (λ r. r.now) l.out.items ++ flat_map (λ f. in_turn l.turn (to_filter f (latest_entries l.entries))) (map_list (λ r. r.now) (drop l.filter-index l.groups))
    ≡ flat_map (λ f. in_turn l.turn (to_filter f (latest_entries l.entries))) (map_list (λ r. r.now) l.groups)
