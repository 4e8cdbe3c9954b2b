-- How a set of dots is spelled in bytes.
use Rattle.std.specs.Prelude.{◌≡◌, ℕ, suc, zero, ◌+◌, ◌<◌, ◌^◌, Bool, true, ◌||◌, ◌&&◌, ◌==◌, nat_le, nat_lt, List, [], ◌∷◌, ◌++◌, map, length, Option, Some, None, Result, Ok, Err, if◌then◌else◌}
use Rattle.std.specs.Int.{to_be_bytes, w16, w32, w64}
use Rattle.std.specs.List.{flat_map}
use Rattle.std.specs.FinSet as set
use Rattle.std.specs.FinMap as fin_map
use Rattle.mqtt_fields.specs.declared.fault.FieldFault.{FieldFault}
use Rattle.mqtt_fields.specs.declared.fault.FieldFault.TheVariants.{Malformed}
use Rattle.mqtt_fields.specs.Reading.{◌>>=◌}
use Rattle.mqtt_fields.specs.Field.{Field, after, seen}
use Rattle.mqtt_fields.specs.Numbers.{number}
use Rattle.causal_context.specs.Dots.{Dot, Dots, dot_cmp}
use Rattle.causal_context.specs.declared.ranges.Range.{Range}
use Rattle.causal_context.specs.Ranges.{IsContext, set_of}

-- a range: its node in two bytes, its first and its last number in eight each
abbrev pub range : Field Range
range = seen (λ x. record { node = x.0; first = x.1.0; last = x.1.1 }) (λ r. (r.node, (r.first, r.last))) (after (number w16) (λ _. after (number w64) (λ _. number w64)))

-- the bytes of ranges: how many there are, in four bytes, and each of them
unfoldable pub ranges_bytes : List Range → List ℕ
ranges_bytes rs = to_be_bytes w32 (length rs) ++ flat_map range.bytes rs

-- the bytes spell the set
pub record Spells (bytes : List ℕ) (s : Dots) : Type 0 where
  pub ranges : List Range
  pub context : IsContext ranges
  pub set : set_of ranges ≡ s
  pub is : bytes ≡ ranges_bytes ranges

-- the set has a spelling
pub record HasSpelling (s : Dots) : Type 0 where
  pub ranges : List Range
  pub context : IsContext ranges
  pub set : set_of ranges ≡ s

-- the ranges of rising dots: from the last on, each is put before the range that it touches, or alone
abbrev pub put_before : Dot → List Range → List Range
put_before d [] = record { node = d.node; first = d.number; last = d.number } ∷ []
put_before d (r ∷ rs) = if (r.node == d.node) && (r.first == d.number + 1) then record { node = d.node; first = d.number; last = r.last } ∷ rs
    else record { node = d.node; first = d.number; last = d.number } ∷ r ∷ rs

abbrev pub runs : List Dot → List Range
runs [] = []
runs (d ∷ ds) = put_before d (runs ds)

-- the dots of a set, rising
abbrev pub as_entry : Dot → Dot × Unit {0}
as_entry d = (d, tt)

unfoldable pub in_order : Dots → List Dot
in_order s = fin_map.keys (fin_map.from_entries {R = dot_cmp} (map as_entry (set.items s)))

unfoldable pub ranges_of : Dots → List Range
ranges_of s = runs (in_order s)

-- whether a range is not empty and of numbers that dots have
abbrev pub is_of_dots : Range → Bool
is_of_dots r = nat_le 1 r.first && (nat_le r.first r.last && nat_lt r.last (2 ^ 62))

-- whether a stands before b and doesn't touch it
abbrev pub stands_before : Range → Range → Bool
stands_before a b = nat_lt a.node b.node || ((a.node == b.node) && nat_lt (a.last + 1) b.first)

-- whether a range may come next
abbrev pub may_follow : Option Range → Range → Bool
may_follow None r = is_of_dots r
may_follow (Some before) r = is_of_dots r && stands_before before r

-- one more range before those that were read
abbrev pub with_first : Range → List Range × List ℕ → Result (List Range × List ℕ) FieldFault
with_first r x = Ok (r ∷ x.0, x.1)

-- Each range is read whole, and then tested against the one before it: the first fault from the left.
abbrev pub ranges_at : ℕ → Option Range → List ℕ → Result (List Range × List ℕ) FieldFault
ranges_at zero before bs = Ok ([], bs)
ranges_at (suc n) before bs = range.at bs >>= λ x. if may_follow before x.0 then (ranges_at n (Some x.0) x.1 >>= with_first x.0) else Err Malformed

unfoldable pub ranges : Field (List Range)
ranges = record {
  at = λ bs. (number w32).at bs >>= λ n. ranges_at n.0 None n.1;
  bytes = ranges_bytes;
  Fits = IsContext;
}

-- of so many ranges there is a first, and nothing is wrong with it
pub record HasFirst (count : ℕ) (bs : List ℕ) : Type 0 where
  pub some : 0 < count
  pub first : Range
  pub rest : List ℕ
  pub read : range.at bs ≡ Ok (first, rest)
  pub fine : is_of_dots first ≡ true

-- Reading a set wants memory: its first range has been read. An empty set wants none, nor does a fault before that.
pub record WantsMemory (bs : List ℕ) : Type 0 where
  pub count : ℕ
  pub more : List ℕ
  pub counted : (number w32).at bs ≡ Ok (count, more)
  pub first : HasFirst count more

-- a set of dots, as a field
unfoldable pub context : Field Dots
context = record {
  at = λ bs. ranges.at bs >>= λ x. Ok (set_of x.0, x.1);
  bytes = λ s. ranges_bytes (ranges_of s);
  Fits = HasSpelling;
}

-- a set has one spelling
abbrev pub HasOneSpelling : Type 0
HasOneSpelling = (a b : List ℕ) (s : Dots) → Spells a s → Spells b s → a ≡ b
