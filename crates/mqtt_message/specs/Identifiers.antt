-- The Subscription Identifiers of a delivery (MQTT 5.0, 3.3.2.3.8).
use Rattle.std.specs.Prelude.{ℕ, List, [], ◌∷◌, ◌==◌, ◌&&◌, nat_lt, nat_le, Bool, true, if◌then◌else◌}

-- the numbers ascend from this one on, and each fits a Variable Byte Integer
abbrev pub ascends_from : ℕ → List ℕ → Bool
ascends_from least [] = true
ascends_from least (n ∷ rest) = nat_le least n && (nat_lt n 268435456 && ascends_from n rest)

-- ascending Subscription Identifiers, none of which is 0 (3.8.2.1.2)
abbrev pub are_identifiers : List ℕ → Bool
are_identifiers ns = ascends_from 1 ns

-- those of one subscription, which has one or none; 0 stands for none
abbrev pub identifiers_of : ℕ → List ℕ
identifiers_of n = if n == 0 then [] else n ∷ []
