-- The first property with an identifier.
use Rattle.std.specs.Prelude.{ℕ, ◌==◌, if◌then◌else◌, List, [], ◌∷◌, Option, Some, None, option_and_then}
use Rattle.mqtt_fields.specs.declared.value.Property.{Property}
use Rattle.mqtt_fields.specs.declared.value.Value.{Value}
use Rattle.mqtt_fields.specs.Value.{as_byte, as_two, as_four, as_vbi, as_text, as_blob}

-- its value
abbrev pub first_value : ℕ → List Property → Option Value
first_value id [] = None
first_value id (p ∷ ps) = if p.id == id then Some p.value else first_value id ps

-- its value, if it is of this type
abbrev pub first_byte : ℕ → List Property → Option ℕ
first_byte id ps = option_and_then as_byte (first_value id ps)

abbrev pub first_two : ℕ → List Property → Option ℕ
first_two id ps = option_and_then as_two (first_value id ps)

abbrev pub first_four : ℕ → List Property → Option ℕ
first_four id ps = option_and_then as_four (first_value id ps)

abbrev pub first_vbi : ℕ → List Property → Option ℕ
first_vbi id ps = option_and_then as_vbi (first_value id ps)

abbrev pub first_text : ℕ → List Property → Option (List ℕ)
first_text id ps = option_and_then as_text (first_value id ps)

abbrev pub first_blob : ℕ → List Property → Option (List ℕ)
first_blob id ps = option_and_then as_blob (first_value id ps)
