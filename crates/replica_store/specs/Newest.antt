-- Under which versions of the table of homes a node has made subscriptions.
use Rattle.std.specs.Prelude.{ℕ, max, cond, nat_eq, List, [], ◌∷◌}
use Rattle.causal_context.specs.Dots.{Dot}
use Rattle.replica_store.specs.States.{State}
use Rattle.subscription_set.specs.declared.entry.Entry.{Entry}
use Rattle.subscription_set.specs.Standing.{Entries, standing}

-- the version under which a node made a subscription; 0 where another node made it
abbrev pub own_version : ℕ → Dot × Entry → ℕ
own_version id x = cond (nat_eq x.0.node id) x.1.version 0

-- the greatest version under which a node made one of these subscriptions; 0 where it made none
abbrev pub newest_in : ℕ → Entries → ℕ
newest_in id [] = 0
newest_in id (x ∷ xs) = max (own_version id x) (newest_in id xs)

-- of those that stand
abbrev pub newest_of : ℕ → State → ℕ
newest_of id s = newest_in id (standing s.subscriptions)
