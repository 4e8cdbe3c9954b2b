use Rattle.std.proofs.Common.{◌≡◌, ◌<◌, List, Some, true, slice_get, get_or, length, map, sym, ap, ◌∙◌, subst, arith}
use Rattle.std.specs.FinMap as fin
use Rattle.std.proofs.lemmas.List.{length-map, length-take, map_push}
use Rattle.home_table.specs.Table.{Table}
use Rattle.node_keeper.specs.Views.{node_of, rows_of}
use Rattle.node_rows.proofs.OneNode.{rows_tell_all}
use Rattle.node_rows.specs.Rows.{mark, mark_key}
use Rattle.node_work.specs.View.{NodeView, fresh_node}
use Rattle.cluster_play.specs.Clusters.{are_tables, site_of}
use Rattle.cluster_play.specs.Histories.{IsNewSite}
use Rattle.cluster_play.proofs.Fresh.{opened_new}
use Rattle.cluster_play.proofs.Sites.{each_added}
use Rattle.cluster_play.proofs.Tables.{few_tables, fits_at, homes_more, table_of}
use Rattle.cluster_play.proofs.cluster.Cluster.new.Goals as goal

-- the node of the next number joins the ones that are there
pub loop-i-preserved : goal.loop-i-preserved
loop-i-preserved c =
    let tables = c.args.tables.items in
    let nodes = c.loop-i.opened.items in
    let sites = map site_of nodes in
    let i = c.loop-i.i in
    let x = c.homes-item.result in
    let k = c.in-Ok.keeper in
    let same = c.deref-homes-items.ensures.value in
    let long = ap length same in
    let below : i < length tables = omega (arith, long) in
    let is : x ≡ get_or tables i x = c.homes-item.is ∙ ap (λ (ts : List Table). get_or ts i x) same in
    let fit : are_tables tables ≡ true = ap are_tables (sym c.as_slice.ensures.value) ∙ sym c.are_tables.ensures ∙ c.if-not-are_tables.false in
    let many : length sites ≡ length nodes = length-map nodes site_of in
    let taken = sym (length-map sites table_of) ∙ ap length c.loop-i.invariant.homes ∙ length-take i tables in
    let count : i ≡ length sites = omega (arith, taken, below) in
    let copied = c.in_ok-copy.ensures in
    let new = opened_new rows_tell_all i c.in_ok-copy.field-0 c.new.result (rows_of k) (node_of k) c.new.ensures (c.in-Ok.ensures.ok tt tt).1 in
    let added = ap (map site_of) c.in_ok-push.ensures.items ∙ map_push site_of nodes k in
    record {
      each = λ j s h. each_added (IsNewSite (length tables)) sites (site_of k) c.loop-i.invariant.each
          (record {
            homes = c.in_ok-copy.field-0;
            fits = ap (λ (t : Table). length t.nodes) copied ∙ fits_at tables i x fit below is;
            node = new.0 ∙ ap (λ j. fresh_node j c.in_ok-copy.field-0) count;
            rows = new.1 ∙ ap (λ j. fin.insert fin.empty mark_key (mark j 0)) count;
          }) j s (subst (λ ss. slice_get ss j ≡ Some s) added h);
      homes = ap (map table_of) added
          ∙ homes_more sites tables i (site_of k) x below is (ap (λ (n : NodeView). n.homes) new.0 ∙ copied) c.loop-i.invariant.homes;
    }

pub returns-clause-start : goal.returns-clause-start
returns-clause-start c =
    let tables = c.args.tables.items in
    let sites = map site_of c.loop-i.opened.items in
    let long = ap length c.deref-homes-items.ensures.value in
    let taken = sym (length-map sites table_of) ∙ ap length c.loop-i.invariant.homes ∙ length-take c.loop-i.i tables in
    let count : length tables ≡ length sites = omega (arith, taken, long) in
    let fit : are_tables tables ≡ true = ap are_tables (sym c.as_slice.ensures.value) ∙ sym c.are_tables.ensures ∙ c.if-not-are_tables.false in
    let few = few_tables tables fit in
    record { few = omega (arith, few, count); sites = λ k s h. subst (λ j. IsNewSite j k s) count (c.loop-i.invariant.each k s h); frames = c.new-2.ensures.items }
