-- Variable Byte Integers in the standard's words (MQTT 5.0, 1.5.5).
use Rattle.std.specs.Prelude.{◌≡◌, ◌↔◌, ℕ, ◌+◌, ◌*◌, ◌%◌, ◌^◌, ◌<◌, ◌≤◌, List, [], ◌∷◌, length}
use Rattle.mqtt_fields.specs.Numbers.{vbi}

-- the number that the low seven bits of some bytes make, the lowest first
abbrev pub sevens : List ℕ → ℕ
sevens [] = 0
sevens (b ∷ bs) = b % 128 + 128 * sevens bs

-- the highest bit of each byte says whether another follows
abbrev pub IsContinued : List ℕ → Type 0
IsContinued [] = ⊥
IsContinued (b ∷ []) = b < 128
IsContinued (b ∷ c ∷ bs) = (128 ≤ b) × (b < 256) × IsContinued (c ∷ bs)

-- the bytes encode the number, in four bytes at most
pub record Encodes (bs : List ℕ) (n : ℕ) : Type 0 where
  pub continued : IsContinued bs
  pub short : length bs ≤ 4
  pub value : sevens bs ≡ n

-- they do so in the fewest bytes
pub record IsVbi (bs : List ℕ) (n : ℕ) : Type 0 where
  pub encodes : Encodes bs n
  pub fewest : (others : List ℕ) → Encodes others n → length bs ≤ length others

-- what is written is the one spelling of a number, and the numbers below 2^28 have one
abbrev pub OneSpelling : Type 0
OneSpelling = (bs : List ℕ) (n : ℕ) → IsVbi bs n ↔ ((n < 2 ^ 28) × (bs ≡ vbi.bytes n))
