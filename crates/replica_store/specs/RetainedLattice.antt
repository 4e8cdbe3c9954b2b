-- Entries are in a total order, and so retained messages are a lattice.
use Rattle.std.specs.Prelude.{Some, None, refl}
use Rattle.std.proofs.Common.{ap}
use Rattle.std.specs.Ordering.{nat_cmp}
use Rattle.std.specs.Cmp.{IsTotalOrder, nat_cmp_total, then_total, on_total}
use Rattle.std.specs.Cmp.Lexicographic.{nat_list_cmp_total, options_total}
use Rattle.std.specs.FinMap.{IsAntisymmetric, nat_cmp-IsAntisymmetric, slice_cmp-IsAntisymmetric}
use Rattle.causal_context.specs.Lattices.{JoinLaws}
use Rattle.causal_context.specs.MapLattice.{map_lattice}
use Rattle.causal_context.specs.OrderLattice.{order_lattice}
use Rattle.mqtt_message.proofs.OrderLaws.{message_cmp_total, message_cmp_antisym, both_equal}
use Rattle.replica_store.specs.Stamps.{stamp_cmp}
use Rattle.replica_store.specs.Retained.{content_cmp, kept_cmp, topic_cmp, retained_join, RetainedBelow}

stamp_cmp_total : IsTotalOrder stamp_cmp
stamp_cmp_total = then_total (on_total (λ s. s.count) nat_cmp_total) (on_total (λ s. s.node) nat_cmp_total)

stamp_cmp_antisym : IsAntisymmetric stamp_cmp
stamp_cmp_antisym x y e =
    let parts = both_equal (nat_cmp x.count y.count) _ e in
    let count = nat_cmp-IsAntisymmetric x.count y.count parts.0 in
    let node = nat_cmp-IsAntisymmetric x.node y.node parts.1 in
    λ i. record { count = count i; node = node i }

pub kept_cmp_total : IsTotalOrder kept_cmp
kept_cmp_total = then_total (on_total (λ k. k.stamp) stamp_cmp_total) (on_total (λ k. k.message) (options_total message_cmp_total))

content_antisym : IsAntisymmetric content_cmp
content_antisym None None e = refl
content_antisym None (Some n) e = cc
content_antisym (Some m) None e = cc
content_antisym (Some m) (Some n) e = ap Some (message_cmp_antisym m n e)

pub kept_cmp_antisym : IsAntisymmetric kept_cmp
kept_cmp_antisym x y e =
    let parts = both_equal (stamp_cmp x.stamp y.stamp) _ e in
    let stamp = stamp_cmp_antisym x.stamp y.stamp parts.0 in
    let message = content_antisym x.message y.message parts.1 in
    λ i. record { stamp = stamp i; message = message i }

pub topic_cmp_antisym : IsAntisymmetric topic_cmp
topic_cmp_antisym = slice_cmp-IsAntisymmetric nat_cmp-IsAntisymmetric

pub retained_lattice : JoinLaws retained_join RetainedBelow
unfolding retained_join
retained_lattice = map_lattice nat_list_cmp_total topic_cmp_antisym (order_lattice kept_cmp_total kept_cmp_antisym)
