-- Identifiers that rise.
use Rattle.std.proofs.Common.{◌≡◌, ◌≤◌, ℕ, ◌+◌, true, List, [], ◌∷◌, length, refl, arith}
use Rattle.std.specs.Prelude.{nat_le, nat_lt}
use Rattle.std.specs.List.{list_all}
use Rattle.std.proofs.lemmas.Bool.{and_from, and_parts, le-leb, leb-true, ltb-true}
use Rattle.qos_handshakes.specs.Incoming.{rise}
use Rattle.qos_handshakes.proofs.RiseLaws.{rise-parts}

all-next : (i : ℕ) (ids : List ℕ) → list_all (nat_lt i) ids ≡ true → list_all (nat_le (i + 1)) ids ≡ true
all-next i [] h = refl
all-next i (k ∷ ids) h =
    let parts = and_parts (nat_lt i k) (list_all (nat_lt i) ids) h in
    let lt = ltb-true i k parts.0 in
    and_from (nat_le (i + 1) k) (list_all (nat_le (i + 1)) ids) (le-leb (i + 1) k (omega (arith, lt))) (all-next i ids parts.1)

-- from one on there are no more of them than identifiers
rise-few : (least : ℕ) (ids : List ℕ) → least ≤ 65536 → list_all (nat_le least) ids ≡ true → rise ids ≡ true → length ids + least ≤ 65536
rise-few least [] most from h = omega (arith, most)
rise-few least (i ∷ is) most from h =
    let parts = rise-parts i is h in
    let le = leb-true least i (and_parts (nat_le least i) (list_all (nat_le least) is) from).0 in
    omega (arith, le, rise-few (i + 1) is (omega (arith, parts.0)) (all-next i is parts.1) parts.2)

all-from_zero : (ids : List ℕ) → list_all (nat_le 0) ids ≡ true
all-from_zero [] = refl
all-from_zero (i ∷ is) = and_from (nat_le 0 i) (list_all (nat_le 0) is) (le-leb 0 i (omega arith)) (all-from_zero is)

pub rise-length : (ids : List ℕ) → rise ids ≡ true → length ids ≤ 65536
rise-length ids h = omega (arith, rise-few 0 ids (omega arith) (all-from_zero ids) h)
