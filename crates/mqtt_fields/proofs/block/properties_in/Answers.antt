use Rattle.std.proofs.Common.{arith, ◌≡◌, ◌<◌, ◌∙◌, sym, length, refl, inl, inr, ap, Err}
use Rattle.std.specs.Prelude.{is_ok}
use Rattle.std.proofs.lemmas.Grind.{common_steps}
use Rattle.mqtt_fields.specs.declared.fault.FieldFault.TheVariants.{NoMemory}
use Rattle.mqtt_fields.proofs.BlockLaws.{shorter, rest_fits, goes_on, stops, ends, first_read, no_memory_in}
use Rattle.mqtt_fields.proofs.block.properties_in.Goals as goal

pub loop-rest-init : goal.loop-rest-init
loop-rest-init c = record {
  bytes = λ i. omega (arith, c.type_inv.block i);
  so_far = rw c.new-items.ensures.items refl;
  began = inl (c.new-items.ensures.items, refl);
}

pub loop-rest-smaller : goal.loop-rest-smaller
loop-rest-smaller c =
    let e = rw c.as_slice.ensures.value at c.in-Ok.ensures.exact in
    shorter c.args.place c.loop-rest.items.items c.loop-rest.rest.now (c.in-Ok.p, c.in-Ok.after.now) c.loop-rest.invariant.bytes e

pub loop-rest-preserved : goal.loop-rest-preserved
loop-rest-preserved c =
    let e = rw c.as_slice.ensures.value at c.in-Ok.ensures.exact in
    let long : 0 < length c.loop-rest.rest.now = grind (arith, common_steps) in
    record {
      bytes = rest_fits c.args.place c.loop-rest.items.items c.loop-rest.rest.now (c.in-Ok.p, c.in-Ok.after.now) c.loop-rest.invariant.bytes e;
      so_far = rw c.in_ok-push-in-Ok.ensures.items (sym (goes_on c.args.place c.loop-rest.items.items c.loop-rest.rest.now (c.in-Ok.p, c.in-Ok.after.now) c.loop-rest.invariant.bytes long e) ∙ c.loop-rest.invariant.so_far);
      began = inr (first_read c.args.place c.loop-rest.items.items c.loop-rest.rest.now c.args.block.now c.loop-rest.invariant.began (ap is_ok e));
    }

pub returns-in-Err-clause-exact : goal.returns-in-Err-clause-exact
returns-in-Err-clause-exact c =
    let e = rw c.as_slice.ensures.value at c.in-Err.ensures.exact in
    let long : 0 < length c.loop-rest.rest.now = grind (arith, common_steps) in
    rw c.in_block.ensures (stops c.args.place c.loop-rest.items.items c.loop-rest.rest.now c.in-Err.e _ long e c.loop-rest.invariant.so_far)

pub returns-in-Err-clause-no_memory : goal.returns-in-Err-clause-no_memory
returns-in-Err-clause-no_memory c = λ h.
    let same : c.in_block.result ≡ NoMemory = cc in
    let ran_out = no_memory_in c.in-Err.e (sym c.in_block.ensures ∙ same) in
    let ok = rw c.as_slice.ensures.value at c.in-Err.ensures.no_memory in
    first_read c.args.place c.loop-rest.items.items c.loop-rest.rest.now c.args.block.now c.loop-rest.invariant.began (ok (ap Err ran_out))

pub returns-clause-exact : goal.returns-clause-exact
returns-clause-exact c =
    let none : length c.loop-rest.rest.now ≡ 0 = grind (arith, common_steps) in
    sym c.loop-rest.invariant.so_far ∙ ends c.args.place c.loop-rest.items.items c.loop-rest.rest.now none
