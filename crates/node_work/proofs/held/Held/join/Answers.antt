use Rattle.std.proofs.Common.{subst, sym}
use Rattle.causal_context.specs.Spelling.{HasSpelling}
use Rattle.replica_store.specs.States.{State, state_join}
use Rattle.row_store.specs.Leading.{AllDiffer, LeadWithin}
use Rattle.replica_rows.specs.Reading.{IsStore}
use Rattle.replica_rows.specs.Rows.{row_at}
use Rattle.subscription_set.specs.Standing.{seen_of}
use Rattle.node_work.specs.Lasting.{is_store_kind}
use Rattle.node_work.specs.View.{HeldView}
use Rattle.node_work.proofs.Storing.{join_is_store}
use Rattle.node_work.proofs.Telling.{changes_differ, changes_within}
use Rattle.node_work.proofs.held.Held.join.Goals as goal

pub invariant_of-self-2 : goal.invariant_of-self-2
invariant_of-self-2 c =
    let ok = c.in_ok-join.ensures.ok in
    let taken = subst (λ (s : State). HasSpelling s.taken) ok c.are_spelled.ensures.taken in
    let seen = subst (λ (s : State). HasSpelling (seen_of s.subscriptions)) ok c.are_spelled.ensures.seen in
    (c.self.invariant.0, c.self.invariant.1, c.self.invariant.2, subst IsStore (sym ok) (join_is_store c.self.inside.store c.args.state.now c.self.invariant.3 c.is_store.ensures taken seen))

pub returns-clause-tells : goal.returns-clause-tells
returns-clause-tells c =
    let own = c.in_ok-own.own.items in
    let new = state_join c.self.inside.store c.args.state.now in
    let lead = subst (λ (h : HeldView). LeadWithin is_store_kind (row_at h.store) (row_at new) own) c.self.view_is (changes_within c.self.inside.store new own c.in_ok-own.ensures.changes) in
    let differ = subst (λ (h : HeldView). AllDiffer (row_at h.store) (row_at new) own) c.self.view_is (changes_differ c.self.inside.store new own c.in_ok-own.ensures.changes) in (
      own,
      c.in_ok-append.ensures.items,
      subst (λ (s : State). LeadWithin is_store_kind (row_at c.args.self.now.store) (row_at s) own) (sym c.in_ok-join.ensures.ok) lead,
      subst (λ (s : State). AllDiffer (row_at c.args.self.now.store) (row_at s) own) (sym c.in_ok-join.ensures.ok) differ,
    )
