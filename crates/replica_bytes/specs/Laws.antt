-- What holds of all states and their bytes.
use Rattle.std.specs.Prelude.{◌≡◌, ℕ, List}
use Rattle.std.specs.Cmp.Lexicographic.{slice_cmp}
use Rattle.std.specs.Ordering.{nat_cmp}
use Rattle.mqtt_fields.specs.Field.{IsField}
use Rattle.mqtt_message.specs.Spelling.{optional}
use Rattle.mqtt_message.specs.Spellings.{message}
use Rattle.replica_store.specs.declared.kept.Kept.{Kept}
use Rattle.replica_store.specs.Retained.{kept_cmp}
use Rattle.replica_bytes.specs.Stores.{state}
use Rattle.replica_bytes.specs.Values.{kept}

-- what is read is spelled so and has a spelling, and what is spelled so is read again, whatever follows
abbrev pub ReadAsSpelled : Type 0
ReadAsSpelled = IsField state

-- of two entries of a topic with equal stamps the greater is the one whose bytes after the stamp are the greater list of bytes
abbrev pub EqualStampsGoByBytes : Type 0
EqualStampsGoByBytes = (topic : List ℕ) (x y : Kept) → (kept topic).Fits x → (kept topic).Fits y → x.stamp ≡ y.stamp
    → kept_cmp x y ≡ slice_cmp nat_cmp ((optional message).bytes x.message) ((optional message).bytes y.message)
