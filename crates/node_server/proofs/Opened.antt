-- With which table of homes a node is opened.
use Rattle.std.proofs.Common.{◌≡◌, ◌<◌, ◌≤◌, ℕ, MatchOption, Some, sym, ap, ◌∙◌, subst}
use Rattle.cli_stops.specs.declared.run_fault.RunFault.TheVariants as runs
use Rattle.home_table.specs.Table.{Table}
use Rattle.node_keeper.specs.declared.fault.KeeperFault.{KeeperFault}
use Rattle.node_keeper.specs.declared.fault.KeeperFault.TheVariants as keepers
use Rattle.node_keeper.specs.declared.keeper.Keeper.{Keeper}
use Rattle.node_keeper.specs.Keeping.{HoldsWhatLasts, OpensFromRows}
use Rattle.node_keeper.specs.Views.{node_of, rows_of}
use Rattle.node_work.specs.View.{HeldView, NodeView, Place}
use Rattle.replica_store.specs.States.{State}
use Rattle.row_store.specs.Rows.{Content}
use Rattle.replica_store.specs.Newest.{newest_of}
use Rattle.node_server.specs.Faults.{of_node}
use Rattle.node_server.specs.Opening.{IsNotOlder, IsTableBefore, WasOpened}

-- no fault of a node is that of an older table
pub never_older : (fault : KeeperFault) (version : ℕ) → of_node fault ≡ runs.OlderTable version → ⊥
never_older keepers.NoMemory version e = cc
never_older (keepers.Rows fault) version e = cc
never_older keepers.NumbersAtEnd version e = cc
never_older keepers.Stopped version e = cc

same_version : (a b : ℕ) → runs.OlderTable a ≡ runs.OlderTable b → a ≡ b
same_version a b e = cc

-- the state of a node that runs
abbrev pub IsStoreOf : NodeView → State → Type 0
IsStoreOf n store = MatchOption n.up (Unit {0}) (λ h. store ≡ h.store)

store_is : (p : Place) (homes : Table) (rows : Content) (n : NodeView) (store : State) (r : HoldsWhatLasts p homes rows n) → IsStoreOf n store → store ≡ r.lasting.store
store_is p homes rows n store r is = subst (λ (v : NodeView). IsStoreOf v store) r.is is ∙ ap (λ (v : HeldView). v.store) r.woken.2

pub is_before : (p : Place) (homes : Table) (rows rows' : Content) (n : NodeView) (store : State) (newest version : ℕ) → OpensFromRows p homes rows rows' n → IsStoreOf n store → newest ≡ newest_of p.id store
    → homes.version < newest → runs.OlderTable newest ≡ runs.OlderTable version → IsTableBefore p rows rows' homes version
is_before p homes rows rows' n store newest version o is found less told =
    let r = o.reopened in
    let same : newest ≡ version = same_version newest version told in
    record {
      left = o.mark;
      lasting = r.lasting;
      are = r.are;
      newest = ap (newest_of p.id) (sym (store_is p homes rows' n store r is)) ∙ sym found ∙ same;
      older = subst (λ v. homes.version < v) same less;
    }

pub is_not_older : (n : NodeView) (id : ℕ) (store : State) (newest : ℕ) → id ≡ n.place.id → IsStoreOf n store → newest ≡ newest_of id store → newest ≤ n.homes.version → IsNotOlder n
is_not_older n id store newest place is found least h up =
    let same : store ≡ h.store = subst (λ u. MatchOption u (Unit {0}) (λ (v : HeldView). store ≡ v.store)) up is in
    subst (λ v. v ≤ n.homes.version) (found ∙ ap (newest_of id) same ∙ ap (λ i. newest_of i h.store) place) least

-- a node that was opened so
pub was_opened : {R : Type 0} (is_clean is_open : R → Type 0) (content : R → Content) (p : Place) (homes : Table) (rows : R) (k : Keeper R) → (node_of k).homes ≡ homes → IsNotOlder (node_of k)
    → (is_clean (rows_of k) → is_open rows → is_open (rows_of k) × OpensFromRows p homes (content rows) (content (rows_of k)) (node_of k)) → WasOpened is_clean is_open content p homes rows
was_opened is_clean is_open content p homes rows k same newest opens = record { keeper = k; by = same; newest = newest; opens = opens }
