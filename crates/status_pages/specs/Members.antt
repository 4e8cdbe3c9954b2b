-- Members of JSON objects.
use Rattle.std.specs.Prelude.{ℕ, Bool, List, ◌++◌, codes, Option, Some, None, String, if◌then◌else◌}
use Rattle.std.specs.declared.alloc.Global.{Global}
use Rattle.std.specs.Fmt.{decimal}
use Rattle.serde_json.specs.Data.{string}
use Rattle.serde_json.specs.Written.{compact_text}

abbrev pub truth : Bool → List ℕ
truth so = if so then codes "true" else codes "false"

-- a member, behind what stands before it
unfoldable pub member : List ℕ → List ℕ → List ℕ → List ℕ
member before key value = before ++ codes "\"" ++ key ++ codes "\":" ++ value

unfoldable pub number_member : List ℕ → List ℕ → ℕ → List ℕ
number_member before key n = before ++ codes "\"" ++ key ++ codes "\":" ++ decimal n

-- a number or a text in quotes, and `null` where there is none
abbrev pub known_text : Option ℕ → List ℕ
known_text None = codes "null"
known_text (Some n) = decimal n

abbrev pub quoted_text : Option (String Global) → List ℕ
quoted_text None = codes "null"
quoted_text (Some text) = compact_text (string text.bytes.items)
