-- Properties (MQTT 5.0, 2.2.2): a Property Length, a Variable Byte Integer, and properties in that many bytes.
use Rattle.std.specs.Prelude.{ℕ, zero, suc, ◌<◌, ◌^◌, ◌==◌, not, ◌||◌, Bool, false, List, [], ◌∷◌, ◌++◌, length, Option, Some, None, Result, Ok, Err, is_some, flat_map}
use Rattle.std.specs.Int.{w8}
use Rattle.std.specs.List.{list_any, AllByRecursion}
use Rattle.mqtt_fields.specs.declared.fault.FieldFault.{FieldFault}
use Rattle.mqtt_fields.specs.declared.fault.FieldFault.TheVariants.{Short, Malformed, NotHere, Repeated}
use Rattle.mqtt_fields.specs.declared.table.Place.{Place}
use Rattle.mqtt_fields.specs.declared.table.Place.TheVariants.{Publish}
use Rattle.mqtt_fields.specs.declared.table.ValueKind.{ValueKind}
use Rattle.mqtt_fields.specs.declared.table.ValueKind.TheVariants as kinds
use Rattle.mqtt_fields.specs.declared.table.Entry.{Entry}
use Rattle.mqtt_fields.specs.declared.value.Property.{Property}
use Rattle.mqtt_fields.specs.declared.value.Value.{Value}
use Rattle.mqtt_fields.specs.Reading.{◌>>=◌}
use Rattle.mqtt_fields.specs.Field.{Field, after, tested, seen}
use Rattle.mqtt_fields.specs.Numbers.{number, vbi, run_of}
use Rattle.mqtt_fields.specs.Identifier.{subscription_identifier, user_property}
use Rattle.mqtt_fields.specs.Table.{entry_of, is_here}
use Rattle.mqtt_fields.specs.Value.{value, value_bytes, VbiFits}

-- a line's type
abbrev pub kind_in : Option Entry → ValueKind
kind_in None = kinds.Byte
kind_in (Some e) = e.kind

-- an identifier's line, if there is one, lets it stand here
abbrev pub is_here_in : Place → Option Entry → Bool
is_here_in place None = false
is_here_in place (Some e) = is_here e place

-- A property that may stand more than once: a User Property, and in a PUBLISH a Subscription Identifier (MQTT 5.0,
-- 3.3.2.3.8).
unfoldable pub is_multiple : Place → ℕ → Bool
is_multiple Publish id = (id == user_property) || (id == subscription_identifier)
is_multiple _ id = id == user_property

-- it doesn't repeat one of those before it, or may
unfoldable pub is_new : Place → List Property → ℕ → Bool
is_new place before id = is_multiple place id || not (list_any (λ p. p.id == id) before)

-- An identifier that may come next, after these properties: one of the table, of a property that may stand here, and that
-- isn't one repeated. The faults are found in this order, before the value is read.
abbrev pub identifier : Place → List Property → Field ℕ
identifier place before = tested (is_new place before) Repeated
    (tested (λ id. is_here_in place (entry_of id)) NotHere
    (tested (λ id. is_some (entry_of id)) Malformed (number w8)))

-- a property of an identifier and a value, and back
abbrev pub property_of : ℕ × Value → Property
property_of x = record { id = x.0; value = x.1 }

abbrev pub parts_of : Property → ℕ × Value
parts_of p = (p.id, p.value)

-- a property that may come next: its identifier, and a value of the type that this has
unfoldable pub property : Place → List Property → Field Property
property place before = seen property_of parts_of (after (identifier place before) (λ id. value (kind_in (entry_of id))))

-- a property that passes the end of its block is malformed
abbrev pub in_block_fault : FieldFault → FieldFault
in_block_fault Short = Malformed
in_block_fault f = f

-- so read in a block
abbrev pub in_block : {A : Type 0} → Result A FieldFault → Result A FieldFault
in_block (Ok x) = Ok x
in_block (Err f) = Err (in_block_fault f)

-- at most k more properties, after these ones, in all of the bytes
unfoldable pub properties_at : Place → ℕ → List Property → List ℕ → Result (List Property) FieldFault
properties_at place k before [] = Ok before
properties_at place zero before (b ∷ bs) = Err Malformed
properties_at place (suc k) before (b ∷ bs) =
    in_block ((property place before).at (b ∷ bs)) >>= λ p. properties_at place k (before ++ p.0 ∷ []) p.1

-- each one may stand after those before it
abbrev pub MayStand : Place → List Property → List Property → Type 0
MayStand place before [] = Unit {0}
MayStand place before (p ∷ ps) = (property place before).Fits p × MayStand place (before ++ p ∷ []) ps

-- a property's spelling
abbrev pub property_bytes : Property → List ℕ
property_bytes p = p.id ∷ value_bytes p.value

-- the spelling of properties, without their length
abbrev pub properties_bytes : List Property → List ℕ
properties_bytes ps = flat_map property_bytes ps

-- the property block of a place
unfoldable pub properties : Place → Field (List Property)
properties place = record {
  at = λ bs. vbi.at bs >>= λ n. (run_of n.0).at n.1 >>= λ block. properties_at place (length block.0) [] block.0 >>= λ ps. Ok (ps, block.1);
  bytes = λ ps. vbi.bytes (length (properties_bytes ps)) ++ properties_bytes ps;
  Fits = λ ps. (length (properties_bytes ps) < 2 ^ 28) × MayStand place [] ps;
}

-- the first property of a block
abbrev pub first_property : Place → List ℕ → Result (Property × List ℕ) FieldFault
first_property place bs = vbi.at bs >>= λ n. (run_of n.0).at n.1 >>= λ block. (property place []).at block.0

-- the first property in some bytes, if there are any
abbrev pub first_in : Place → List ℕ → Result (Option Property) FieldFault
first_in place [] = Ok None
first_in place (b ∷ bs) = (property place []).at (b ∷ bs) >>= λ p. Ok (Some p.0)

-- the first property of a block, if it has one
abbrev pub first_if_any : Place → List ℕ → Result (Option Property) FieldFault
first_if_any place bs = vbi.at bs >>= λ n. (run_of n.0).at n.1 >>= λ block. first_in place block.0

-- properties that have a spelling, though perhaps at no place
abbrev pub HasSpelling : List Property → Type 0
HasSpelling ps = (length (properties_bytes ps) < 2 ^ 28) × AllByRecursion (λ p. VbiFits p.value) ps
