-- What the two hashers of a key have read: RFC 2104, 4.
use Rattle.std.specs.Prelude.{ℕ, List}
use Rattle.sha2.specs.Hashers.{Holds512}
use Rattle.mqtt_access.specs.Hmac.{xor, key_block, ipad, opad}
use Rattle.mqtt_access.specs.declared.hmac.HmacKey.{HmacKey}

-- (K XOR ipad) and (K XOR opad), each of a block
pub record IsKeyed (key : List ℕ) (hashers : HmacKey) : Type 0 where
  pub inner : Holds512 hashers.inner (xor (key_block key) ipad)
  pub outer : Holds512 hashers.outer (xor (key_block key) opad)
