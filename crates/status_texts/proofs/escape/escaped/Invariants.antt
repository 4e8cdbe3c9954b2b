use Rattle.std.proofs.Common.{◌≡◌, ◌++◌, IsUtf8, string_bytes}
use Rattle.std.specs.Str.Iter.{chars_rest}
use Rattle.status_texts.specs.Escapes.{escaped}
use Rattle.status_texts.proofs.escape.escaped.Given as goal

-- with what is left, the whole name is there
abbrev pub invariant-loop-c : goal.invariant-loop-c
invariant-loop-c l = IsUtf8 (chars_rest l.c-iterator)
    × (string_bytes l.text ++ escaped (chars_rest l.c-iterator) ≡ escaped l.fn.name)
