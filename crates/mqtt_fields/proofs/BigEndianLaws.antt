-- What byteorder reads is the number that std reads.
use Rattle.std.proofs.Common.{◌≡◌, ℕ, List, arith}
use Rattle.std.specs.Int.{w16, w32, w64, from_be_bytes}
use Rattle.byteorder.specs.Endian.{big_number}

pub big_number-2 : (bs : List ℕ) → big_number 2 bs ≡ from_be_bytes w16 bs
big_number-2 bs = omega arith

pub big_number-4 : (bs : List ℕ) → big_number 4 bs ≡ from_be_bytes w32 bs
big_number-4 bs = omega arith

pub big_number-8 : (bs : List ℕ) → big_number 8 bs ≡ from_be_bytes w64 bs
big_number-8 bs = omega arith

pub ruleset big_numbers = (big_number-2, big_number-4, big_number-8)
