use Rattle.std.proofs.Common.{◌≡◌, ◌<◌, ◌∷◌, false, sym, ◌∙◌, ap, arith}
use Rattle.std.specs.Map.{keys_of}
use Rattle.qos_handshakes.specs.Incoming.{Received, opened_here}
use Rattle.qos_handshakes.proofs.Arrivals.{ids-back, ids-fall, kept-here, made-first}
use Rattle.qos_handshakes.proofs.RiseLaws.{first_of, rise-more}
use Rattle.qos_handshakes.proofs.incoming.Incoming.from_identifiers.Goals as goal

pub returns-then-from-first-clause-made : goal.returns-then-from-first-clause-made
returns-then-from-first-clause-made c =
    ids-fall c.loop-id.left.items _ (keys_of c.loop-id.exchanges.entries) c.args.identifiers.items c.in-Some.id c.loop-id.invariant.all c.in-Some.ensures.items (omega (arith, c.loop-id.invariant.first_is, c.from.ensures))

pub invariant_of-result : goal.invariant_of-result
invariant_of-result c = sym (ap opened_here c.loop-id.invariant.none ∙ kept-here (keys_of c.loop-id.exchanges.entries))

pub loop-id-preserved : goal.loop-id-preserved
loop-id-preserved c =
    let lt : c.in-Some.id < first_of (keys_of c.loop-id.exchanges.entries) = omega (arith, c.loop-id.invariant.first_is, c.from.ensures) in
    let is : c.insert.new.self.entries ≡ (c.in-Some.id, false) ∷ c.loop-id.exchanges.entries = c.in_ok-insert.ensures.entries ∙ made-first c.in-Some.id c.loop-id.exchanges.entries lt in
    rw is (record {
      all = ids-back c.loop-id.left.items _ (keys_of c.loop-id.exchanges.entries) c.args.identifiers.items c.in-Some.id c.loop-id.invariant.all c.in-Some.ensures.items;
      none = ap (λ (r : Received). (c.in-Some.id, false) ∷ r) c.loop-id.invariant.none;
      rises = rise-more c.in-Some.id (keys_of c.loop-id.exchanges.entries) lt c.loop-id.invariant.rises;
      first_is = c.from-first.ensures;
    })
