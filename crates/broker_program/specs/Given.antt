-- What an option of a command line was given.
use Rattle.std.specs.Prelude.{ℕ, List, Option, String, option_map}
use Rattle.std.specs.declared.alloc.Global.{Global}

-- the text that it was given, if it was given
abbrev pub given_text : Option (String Global) → Option (List ℕ)
given_text = option_map (λ (text : String Global). text.bytes.items)
