-- What holds of every kind of field.
use Rattle.std.specs.Prelude.{◌≡◌}
use Rattle.std.specs.Int.{w8, w16, w32, w64}
use Rattle.mqtt_fields.specs.declared.table.Place.{Place}
use Rattle.mqtt_fields.specs.declared.table.ValueKind.{ValueKind}
use Rattle.mqtt_fields.specs.declared.table.TheConstants.{TABLE}
use Rattle.mqtt_fields.specs.Field.{IsField, IsSteady}
use Rattle.mqtt_fields.specs.Numbers.{number, vbi, text, blob, long}
use Rattle.mqtt_fields.specs.Value.{value}
use Rattle.mqtt_fields.specs.Table.{table}
use Rattle.mqtt_fields.specs.Block.{properties}

-- what is read is spelled so, and what is spelled so is read again, whatever follows
pub record ReadAsSpelled : Type 0 where
  pub byte : IsField (number w8)
  pub two : IsField (number w16)
  pub four : IsField (number w32)
  pub eight : IsField (number w64)
  pub variable : IsField vbi
  pub string : IsField text
  pub binary : IsField blob
  pub long_run : IsField long
  pub values : (kind : ValueKind) → IsField (value kind)
  pub blocks : (place : Place) → IsField (properties place)

-- a value or a fault that is read stays so, whatever follows
pub record ReadFromTheLeft : Type 0 where
  pub byte : IsSteady (number w8)
  pub two : IsSteady (number w16)
  pub four : IsSteady (number w32)
  pub eight : IsSteady (number w64)
  pub variable : IsSteady vbi
  pub string : IsSteady text
  pub binary : IsSteady blob
  pub long_run : IsSteady long
  pub values : (kind : ValueKind) → IsSteady (value kind)
  pub blocks : (place : Place) → IsSteady (properties place)

-- the table that the code looks properties up in is the standard's
abbrev pub TableIsStandard : Type 0
TableIsStandard = TABLE ≡ table
