-- Password-based key derivation with HMAC-SHA-512: RFC 8018, 5.2.
use Rattle.std.specs.Prelude.{ℕ, zero, suc, List, [], ◌∷◌, ◌++◌}
use Rattle.mqtt_access.specs.Hmac.{xor, hmac}

-- INT(1), the number of the first block in four bytes, the highest one first
abbrev pub first_block : List ℕ
first_block = 0 ∷ 0 ∷ 0 ∷ 1 ∷ []

-- U_1 = PRF(P, S || INT(1)), and each later one is PRF(P, the one before); counted from 0 here
abbrev pub u : List ℕ → List ℕ → ℕ → List ℕ
u password salt zero = hmac password (salt ++ first_block)
u password salt (suc i) = hmac password (u password salt i)

-- U_1 XOR U_2 XOR .. , so many more than one
abbrev pub xor_of : List ℕ → List ℕ → ℕ → List ℕ
xor_of password salt zero = u password salt zero
xor_of password salt (suc i) = xor (xor_of password salt i) (u password salt (suc i))

-- the derived key of dkLen = hLen = 64 bytes, which is T_1: the XOR of U_1 to U_c for an iteration count c
abbrev pub derived_key : List ℕ → List ℕ → ℕ → List ℕ
derived_key password salt zero = []
derived_key password salt (suc more) = xor_of password salt more
