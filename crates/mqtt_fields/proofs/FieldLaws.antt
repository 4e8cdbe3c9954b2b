-- The laws of all fields, put together.
use Rattle.std.specs.Int.{w8, w16, w32, w64}
use Rattle.mqtt_fields.specs.Laws.{ReadAsSpelled, ReadFromTheLeft}
use Rattle.mqtt_fields.proofs.NumberLaws.{wide8, wide16, wide32, wide64, number_is, vbi_is, blob_is, long_is, text_is}
use Rattle.mqtt_fields.proofs.ValueLaws.{value_is}
use Rattle.mqtt_fields.proofs.BlockLaws.{properties_is}
use Rattle.mqtt_fields.proofs.SteadyLaws.{number_steady, vbi_steady, blob_steady, long_steady, text_steady, value_steady, properties_steady}

pub read_as_spelled : ReadAsSpelled
read_as_spelled = record {
  byte = number_is w8 wide8;
  two = number_is w16 wide16;
  four = number_is w32 wide32;
  eight = number_is w64 wide64;
  variable = vbi_is;
  string = text_is;
  binary = blob_is;
  long_run = long_is;
  values = value_is;
  blocks = properties_is;
}

pub read_from_the_left : ReadFromTheLeft
read_from_the_left = record {
  byte = number_steady w8;
  two = number_steady w16;
  four = number_steady w32;
  eight = number_steady w64;
  variable = vbi_steady;
  string = text_steady;
  binary = blob_steady;
  long_run = long_steady;
  values = value_steady;
  blocks = properties_steady;
}
