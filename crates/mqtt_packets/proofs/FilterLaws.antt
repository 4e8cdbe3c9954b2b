-- The fields of SUBSCRIBE and UNSUBSCRIBE that stand one after another.
use Rattle.std.proofs.Common.{◌≡◌, ℕ, ◌+◌, ◌<◌, List, ◌++◌, length, refl, arith}
use Rattle.std.specs.Int.{w8, w16, to_be_bytes}
use Rattle.std.proofs.lemmas.List.{length-append}
use Rattle.mqtt_fields.specs.declared.fault.FieldFault.TheVariants as fields
use Rattle.mqtt_fields.specs.Field.{after, tested}
use Rattle.mqtt_fields.specs.Numbers.{number, text}
use Rattle.mqtt_fields.proofs.Laws.{IsField, after_is, tested_is, seen_is}
use Rattle.mqtt_fields.proofs.NumberLaws.{wide8, number_is, text_is}
use Rattle.mqtt_packets.specs.declared.subscribe.SubscribeFilter.{SubscribeFilter}
use Rattle.mqtt_packets.specs.Subscribe.{options, filter_of, filter_parts, subscribe_filter}
use Rattle.mqtt_packets.proofs.ManyLaws.{IsLong}

text_some : (xs : List ℕ) → 0 < length (text.bytes xs)
text_some xs = omega (arith, length-append (to_be_bytes w16 (length xs)) xs)

pub text_long : IsLong text
text_long = record { field = text_is; long = text_some }

options_is : IsField options
options_is = tested_is _ fields.Malformed (number w8) (number_is w8 wide8)

filter_some : (f : SubscribeFilter) → 0 < length (subscribe_filter.bytes f)
filter_some f = let some = text_some f.filter in omega (arith, length-append (text.bytes f.filter) (options.bytes f.options))

pub filter_long : IsLong subscribe_filter
filter_long = record {
  field = seen_is filter_of filter_parts (after text (λ _. options)) (λ a. refl) (λ b. refl) (after_is text (λ _. options) text_is (λ _. options_is));
  long = filter_some;
}
