-- A node that is opened from its rows is one of a run that is restarted.
use Rattle.std.proofs.Common.{◌≡◌, ◌≤◌, ℕ, [], inr, refl, sym, subst, ap}
use Rattle.cluster_play.proofs.Sites.{get-set_same}
use Rattle.cluster_play.specs.Worlds.{IsTableAfter, Reopens, Site, world_with}
use Rattle.home_table.specs.Table.{Table}
use Rattle.node_keeper.specs.declared.batch.BatchKeeper.{BatchKeeper}
use Rattle.node_keeper.specs.BatchViews.{node_in, rows_in}
use Rattle.node_keeper.specs.Keeping.{HoldsWhatLasts, marked_or_raised}
use Rattle.replica_store.specs.Newest.{newest_of}
use Rattle.node_work.specs.View.{HeldView, NodeView, Place, place_of}
use Rattle.row_store.specs.Rows.{Content}
use Rattle.law_serving.specs.Settling.{served_site}
use Rattle.law_serving.specs.Opening.{IsOpened, OpeningIsARestart}

module _ {R : Type 0} (is_open : R → Type 0) (content : R → Content) where
  -- what it is opened with isn't older than what lasts of it
  after : (homes : Table) (id : ℕ) (rows : Content) (k : BatchKeeper R) (is : IsOpened is_open content homes id rows k) → IsTableAfter (place_of id homes) is.opens.reopened.lasting homes
  after homes id rows k is =
      let o = is.opens.reopened in
      let up = ap (λ (n : NodeView). n.up) o.is in
      let least : newest_of id o.held.store ≤ homes.version = subst (λ (n : NodeView). newest_of n.place.id o.held.store ≤ n.homes.version) o.is (is.newest o.held up) in
      record { nodes = refl; newest = subst (λ (h : HeldView). newest_of id h.store ≤ homes.version) o.woken.2 least }

  reopens : (s : Site) (homes : Table) (id : ℕ) (k : BatchKeeper R) → s.node.place ≡ place_of id homes → IsOpened is_open content homes id s.rows k → Reopens homes s (served_site content k)
  reopens s homes id k place is =
      let rows = content (rows_in k) in
      let At : Place → Type 0 = λ p. marked_or_raised p.id s.rows rows × (node : HoldsWhatLasts p homes rows (node_in k)) × IsTableAfter p node.lasting homes in
      let at : At s.node.place = subst At (sym place) (is.opens.mark, is.opens.reopened, after homes id s.rows k is) in
      record { rows = at.0; node = at.1; table = inr at.2 }

  pub opening_is_a_restart : OpeningIsARestart is_open content
  opening_is_a_restart w i id s homes k at place is =
      let site = served_site content k in
      let held = is.opens.reopened.held in
      record {
        leads = (world_with w i site [], (s, at, tt, (refl, (site, reopens s homes id k place is, refl))), refl);
        begins = record { at = get-set_same w.sites i site s at; held = held; up = ap (λ (n : NodeView). n.up) is.opens.reopened.is; nothing = is.nothing; stands = is.stands };
      }
