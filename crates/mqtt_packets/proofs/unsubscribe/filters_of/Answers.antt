use Rattle.std.proofs.Common.{arith, ◌≡◌, ◌<◌, length, sym, ◌∙◌, inl, inr, Err, refl, ap}
use Rattle.std.specs.Prelude.{is_ok}
use Rattle.std.proofs.lemmas.Grind.{common_steps}
use Rattle.std.proofs.lemmas.Result.{err_from_is_err_and}
use Rattle.mqtt_fields.specs.Numbers.{text}
use Rattle.mqtt_packets.proofs.FilterLaws.{text_long}
use Rattle.mqtt_packets.proofs.ManyLaws.{shorter, rest_fits, goes_on, stops, ends}
use Rattle.mqtt_packets.specs.declared.fault.PacketFault.TheVariants.{NoMemory}
use Rattle.mqtt_packets.proofs.MemoryLaws.{first_text}
use Rattle.mqtt_packets.proofs.unsubscribe.filters_of.Goals as goal

pub returns-in_err-filter-clause-exact : goal.returns-in_err-filter-clause-exact
returns-in_err-filter-clause-exact c =
    let long : 0 < length c.loop-rest.rest.now = grind (arith, common_steps) in
    let p = err_from_is_err_and c.from_residual.result c.from_residual.ensures.1 in
    rw (p.1, p.2) (stops text c.loop-rest.items.items c.loop-rest.rest.now _ _ long c.in_err-filter.ensures.exact c.loop-rest.invariant.so_far)

pub returns-in_err-filter-clause-no_memory : goal.returns-in_err-filter-clause-no_memory
returns-in_err-filter-clause-no_memory c = λ h.
    let p = err_from_is_err_and c.from_residual.result c.from_residual.ensures.1 in
    let same : c.in_err-filter.field-0.0 ≡ NoMemory = cc (p.1, p.2) in
    first_text c.loop-rest.rest.now c.args.bytes.now c.loop-rest.invariant.began (c.in_err-filter.ensures.no_memory (ap Err same))

pub returns-in_err-push-clause-no_memory : goal.returns-in_err-push-clause-no_memory
returns-in_err-push-clause-no_memory c = λ _. first_text c.loop-rest.rest.now c.args.bytes.now c.loop-rest.invariant.began (ap is_ok c.in_ok-filter.ensures.exact)

pub loop-rest-init : goal.loop-rest-init
loop-rest-init c = record { bytes = λ i. omega (arith, c.type_inv.bytes i); so_far = rw c.new-items.ensures.items refl; began = inl refl }

pub loop-rest-smaller : goal.loop-rest-smaller
loop-rest-smaller c = shorter text text_long c.loop-rest.rest.now (c.in_ok-filter.filter, c.in_ok-filter.after.now) c.loop-rest.invariant.bytes c.in_ok-filter.ensures.exact

pub loop-rest-preserved : goal.loop-rest-preserved
loop-rest-preserved c =
    let long : 0 < length c.loop-rest.rest.now = grind (arith, common_steps) in
    record {
      bytes = rest_fits text text_long c.loop-rest.rest.now (c.in_ok-filter.filter, c.in_ok-filter.after.now) c.loop-rest.invariant.bytes c.in_ok-filter.ensures.exact;
      so_far = rw c.in_ok-push.ensures.items (sym (goes_on text text_long c.loop-rest.items.items c.loop-rest.rest.now (c.in_ok-filter.filter, c.in_ok-filter.after.now) c.loop-rest.invariant.bytes long c.in_ok-filter.ensures.exact) ∙ c.loop-rest.invariant.so_far);
      began = inr (first_text c.loop-rest.rest.now c.args.bytes.now c.loop-rest.invariant.began (ap is_ok c.in_ok-filter.ensures.exact));
    }

pub returns-clause-exact : goal.returns-clause-exact
returns-clause-exact c =
    let none : length c.loop-rest.rest.now ≡ 0 = grind (arith, common_steps) in
    rw c.new.ensures (sym c.loop-rest.invariant.so_far ∙ ends text c.loop-rest.items.items c.loop-rest.rest.now none)
