-- Keyed hashing for message authentication with SHA-512: RFC 2104, 2.
use Rattle.std.specs.Prelude.{ℕ, ◌-◌, List, [], ◌∷◌, ◌++◌, length, replicate, bit_xor, nat_lt, if◌then◌else◌}
use Rattle.sha2.specs.Sha512.{sha512}

-- two strings of bytes of one length, XORed byte by byte
abbrev pub xor : List ℕ → List ℕ → List ℕ
xor [] ys = []
xor (x ∷ xs) [] = []
xor (x ∷ xs) (y ∷ ys) = bit_xor x y ∷ xor xs ys

-- zeros appended up to the block size of the hash, B = 128 bytes
abbrev pub filled : List ℕ → List ℕ
filled bytes = bytes ++ replicate (128 - length bytes) 0

-- a key longer than the block is hashed first
abbrev pub key_block : List ℕ → List ℕ
key_block key = filled (if nat_lt 128 (length key) then sha512 key else key)

-- the byte 0x36 repeated B times, and the byte 0x5C
abbrev pub ipad : List ℕ
ipad = replicate 128 54

abbrev pub opad : List ℕ
opad = replicate 128 92

-- H(K XOR opad, H(K XOR ipad, text))
abbrev pub hmac : List ℕ → List ℕ → List ℕ
hmac key text = sha512 (xor (key_block key) opad ++ sha512 (xor (key_block key) ipad ++ text))
