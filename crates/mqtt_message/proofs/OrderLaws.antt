-- The order of messages is total, and only equal messages tie.
use Rattle.std.proofs.Common.{◌≡◌, ℕ, Bool, true, false, length, Option, Some, None, refl, ap, sym, ◌∙◌}
use Rattle.std.specs.declared.cmp.Ordering.{Ordering}
use Rattle.std.specs.declared.cmp.Ordering.TheVariants.{Less, Equal, Greater}
use Rattle.std.specs.Ordering.{nat_cmp, ordering_then}
use Rattle.std.specs.Cmp.{IsTotalOrder, nat_cmp_total, then_total, on_total}
use Rattle.std.specs.Cmp.Lexicographic.{slice_cmp, nat_list_cmp_total, lists_total}
use Rattle.std.specs.FinMap.{IsAntisymmetric, nat_cmp-IsAntisymmetric, slice_cmp-IsAntisymmetric}
use Rattle.mqtt_fields.specs.Numbers.{vbi}
use Rattle.mqtt_fields.specs.Options.{qos_number}
use Rattle.mqtt_fields.specs.Block.{properties_bytes}
use Rattle.mqtt_message.specs.Order.{bytes_cmp, kind_rank, number_in, bytes_in, named_in, value_cmp, property_cmp, block_cmp, flag_rank, deadline_rank, message_cmp}
use Rattle.mqtt_message.specs.Codes.{value_of, value_back, qos_of, qos_back}

bytes_cmp_total : IsTotalOrder bytes_cmp
bytes_cmp_total = then_total (on_total length nat_cmp_total) nat_list_cmp_total

value_cmp_total : IsTotalOrder value_cmp
value_cmp_total =
    then_total (on_total kind_rank nat_cmp_total) (then_total (on_total number_in nat_cmp_total)
    (then_total (on_total bytes_in bytes_cmp_total) (on_total named_in bytes_cmp_total)))

property_cmp_total : IsTotalOrder property_cmp
property_cmp_total = then_total (on_total (λ p. p.id) nat_cmp_total) (on_total (λ p. p.value) value_cmp_total)

block_cmp_total : IsTotalOrder block_cmp
block_cmp_total = then_total (on_total (λ ps. vbi.bytes (length (properties_bytes ps))) nat_list_cmp_total) (lists_total property_cmp_total)

pub message_cmp_total : IsTotalOrder message_cmp
message_cmp_total =
    then_total (on_total (λ m. m.topic) bytes_cmp_total) (then_total (on_total (λ m. m.payload) bytes_cmp_total)
    (then_total (on_total (λ m. m.properties) block_cmp_total) (then_total (on_total (λ m. qos_number m.qos) nat_cmp_total)
    (then_total (on_total (λ m. flag_rank m.retain) nat_cmp_total)
    (then_total (on_total (λ m. m.publisher) bytes_cmp_total) (on_total (λ m. deadline_rank m.deadline) nat_cmp_total))))))

-- ---- only equal messages tie

pub both_equal : (r s : Ordering) → ordering_then r s ≡ Equal → (r ≡ Equal) × (s ≡ Equal)
both_equal Less s e = cc
both_equal Equal s e = (refl, e)
both_equal Greater s e = cc

pub bytes_cmp_antisym : IsAntisymmetric bytes_cmp
bytes_cmp_antisym x y e = slice_cmp-IsAntisymmetric nat_cmp-IsAntisymmetric x y (both_equal (nat_cmp (length x) (length y)) _ e).1

value_cmp_antisym : IsAntisymmetric value_cmp
value_cmp_antisym v w e =
    let one = both_equal (nat_cmp (kind_rank v) (kind_rank w)) _ e in
    let two = both_equal (nat_cmp (number_in v) (number_in w)) _ one.1 in
    let three = both_equal (bytes_cmp (bytes_in v) (bytes_in w)) _ two.1 in
    let kind = nat_cmp-IsAntisymmetric (kind_rank v) (kind_rank w) one.0 in
    let number = nat_cmp-IsAntisymmetric (number_in v) (number_in w) two.0 in
    let bytes = bytes_cmp_antisym (bytes_in v) (bytes_in w) three.0 in
    let named = bytes_cmp_antisym (named_in v) (named_in w) three.1 in
    sym (value_back v) ∙ (λ i. value_of (kind i, (number i, (bytes i, named i)))) ∙ value_back w

pub property_cmp_antisym : IsAntisymmetric property_cmp
property_cmp_antisym p q e =
    let parts = both_equal (nat_cmp p.id q.id) _ e in
    let id = nat_cmp-IsAntisymmetric p.id q.id parts.0 in
    let value = value_cmp_antisym p.value q.value parts.1 in
    λ i. record { id = id i; value = value i }

block_cmp_antisym : IsAntisymmetric block_cmp
block_cmp_antisym ps qs e = slice_cmp-IsAntisymmetric property_cmp_antisym ps qs (both_equal (slice_cmp nat_cmp (vbi.bytes (length (properties_bytes ps))) (vbi.bytes (length (properties_bytes qs)))) _ e).1

same_flag : (a b : Bool) → flag_rank a ≡ flag_rank b → a ≡ b
same_flag true true e = refl
same_flag false false e = refl
same_flag true false e = cc
same_flag false true e = cc

same_deadline : (a b : Option ℕ) → deadline_rank a ≡ deadline_rank b → a ≡ b
same_deadline None None e = refl
same_deadline None (Some b) e = cc
same_deadline (Some a) None e = cc
same_deadline (Some a) (Some b) e = (let same : a ≡ b = cc in ap Some same)

pub message_cmp_antisym : IsAntisymmetric message_cmp
message_cmp_antisym x y e =
    let one = both_equal (bytes_cmp x.topic y.topic) _ e in
    let two = both_equal (bytes_cmp x.payload y.payload) _ one.1 in
    let three = both_equal (block_cmp x.properties y.properties) _ two.1 in
    let four = both_equal (nat_cmp (qos_number x.qos) (qos_number y.qos)) _ three.1 in
    let five = both_equal (nat_cmp (flag_rank x.retain) (flag_rank y.retain)) _ four.1 in
    let six = both_equal (bytes_cmp x.publisher y.publisher) _ five.1 in
    let topic = bytes_cmp_antisym x.topic y.topic one.0 in
    let payload = bytes_cmp_antisym x.payload y.payload two.0 in
    let properties = block_cmp_antisym x.properties y.properties three.0 in
    let number = nat_cmp-IsAntisymmetric (qos_number x.qos) (qos_number y.qos) four.0 in
    let qos = sym (qos_back x.qos) ∙ ap qos_of number ∙ qos_back y.qos in
    let retain = same_flag x.retain y.retain (nat_cmp-IsAntisymmetric _ _ five.0) in
    let publisher = bytes_cmp_antisym x.publisher y.publisher six.0 in
    let deadline = same_deadline x.deadline y.deadline (nat_cmp-IsAntisymmetric _ _ six.1) in
    λ i. record { topic = topic i; payload = payload i; properties = properties i; qos = qos i; retain = retain i; publisher = publisher i; deadline = deadline i }
