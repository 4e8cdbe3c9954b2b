-- A SUBSCRIBE that came asks with options and an identifier that a SUBSCRIBE can have.
use Rattle.std.proofs.Common.{◌≡◌, ℕ, ◌<◌, ◌^◌, Bool, true, false, cond, List, [], ◌∷◌, length, Option, Some, arith}
use Rattle.std.specs.Prelude.{◌==◌, ◌&&◌, not, nat_le, unwrap_or, option_and_then}
use Rattle.std.specs.List.{list_all, AllByRecursion}
use Rattle.std.proofs.lemmas.Bool.{and_parts, leb-true}
use Rattle.std.proofs.lemmas.Bool.Decides.{nat_tests}
use Rattle.mqtt_fields.specs.declared.table.Place.TheVariants as places
use Rattle.mqtt_fields.specs.declared.value.Property.{Property}
use Rattle.mqtt_fields.specs.declared.value.Value.{Value}
use Rattle.mqtt_fields.specs.declared.value.Value.TheVariants as values
use Rattle.mqtt_fields.specs.Block.{properties}
use Rattle.mqtt_fields.specs.Properties.{first_value, first_vbi}
use Rattle.mqtt_fields.specs.Value.{as_vbi, VbiFits}
use Rattle.mqtt_fields.proofs.BlockLaws.{values_fit}
use Rattle.mqtt_packets.specs.declared.packet.Packet.TheVariants as packets
use Rattle.mqtt_packets.specs.declared.subscribe.Subscribe.{Subscribe}
use Rattle.mqtt_packets.specs.declared.subscribe.SubscribeFilter.{SubscribeFilter}
use Rattle.mqtt_packets.specs.Packet.{BodyFits}
use Rattle.mqtt_packets.specs.Subscribe.{subscribe, subscribe_filter, is_valid_filter}
use Rattle.mqtt_packets.specs.Values.{are_valid}
use Rattle.mqtt_packets.specs.Written.{HasSpelling}
use Rattle.mqtt_packets.proofs.WrittenLaws.{sound_of}
use Rattle.subscription_set.specs.Entries.{are_options, can_be_asked}
use Rattle.node_clients.specs.Subscribing.{identifier_of}

value_small : (v : Value) → VbiFits v → unwrap_or (as_vbi v) 0 < 2 ^ 28
value_small (values.Byte n) fits = omega arith
value_small (values.Two n) fits = omega arith
value_small (values.Four n) fits = omega arith
value_small (values.Vbi n) fits = fits
value_small (values.Text t) fits = omega arith
value_small (values.Blob b) fits = omega arith
value_small (values.Pair a b) fits = omega arith

either_small : (is : Bool) (v : Value) (later : Option Value) → unwrap_or (as_vbi v) 0 < 2 ^ 28 → unwrap_or (option_and_then as_vbi later) 0 < 2 ^ 28 → unwrap_or (option_and_then as_vbi (cond is (Some v) later)) 0 < 2 ^ 28
either_small true v later small more = small
either_small false v later small more = more

first_small : (id : ℕ) (ps : List Property) → AllByRecursion (λ p. VbiFits p.value) ps → unwrap_or (first_vbi id ps) 0 < 2 ^ 28
first_small id [] all = omega arith
first_small id (p ∷ ps) all = either_small (p.id == id) p.value (first_value id ps) (value_small p.value all.0) (first_small id ps all.1)

is_small : (n : ℕ) → n < 2 ^ 28 → nat_le n 268435455 ≡ true
is_small n below = grind (arith, nat_tests)

all_asked : (n : ℕ) (fs : List SubscribeFilter) → nat_le n 268435455 ≡ true → AllByRecursion subscribe_filter.Fits fs → list_all is_valid_filter fs ≡ true → AllByRecursion (λ f. can_be_asked f.options n ≡ true) fs
all_asked n [] small fits valid = tt
all_asked n (f ∷ fs) small fits valid =
    let parts = and_parts (is_valid_filter f) (list_all is_valid_filter fs) valid in
    ((λ i. (fits.0.1.1 i && parts.0 i) && small i), all_asked n fs small fits.1 parts.1)

pub identifier_small : (options n : ℕ) → can_be_asked options n ≡ true → n < 2 ^ 28
identifier_small options n asked = omega (arith, leb-true n 268435455 (and_parts (are_options options) (nat_le n 268435455) asked).1)

pub asked_each : (p : Subscribe) → HasSpelling (packets.Subscribe p) → AllByRecursion (λ f. can_be_asked f.options (identifier_of p) ≡ true) p.filters
unfolding BodyFits subscribe properties
asked_each p h =
    let s = sound_of (packets.Subscribe p) h in
    let parts = and_parts (not (p.identifier == 0) && are_valid p.properties) (not (length p.filters == 0) && list_all is_valid_filter p.filters) s.fits.1 in
    let valid = and_parts (not (length p.filters == 0)) (list_all is_valid_filter p.filters) parts.1 in
    let small = first_small 11 p.properties (values_fit places.Subscribe [] p.properties s.fits.0.0.1.0.1) in
    all_asked (identifier_of p) p.filters (is_small (identifier_of p) small) s.fits.0.0.1.1 valid.1
