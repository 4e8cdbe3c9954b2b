-- Joined buffers.
use Rattle.std.proofs.Common.{◌≡◌, ℕ, List, [], ◌∷◌, ◌++◌, Vec, sym, ◌∙◌, ap, append_assoc, append-nil, refl}
use Rattle.std.specs.declared.alloc.Global.{Global}
use Rattle.broker_sockets.specs.Buffers.{joined, behind}

pub joined-append : (xs ys : List (Vec ℕ Global)) → joined (xs ++ ys) ≡ joined xs ++ joined ys
joined-append [] ys = refl
joined-append (x ∷ xs) ys = ap (λ t. x.items ++ t) (joined-append xs ys) ∙ sym (append_assoc x.items (joined xs) (joined ys))

-- one buffer is full, and the next begins
pub behind-more : (rest : List (Vec ℕ Global)) (full fresh : Vec ℕ Global) → behind (rest ++ full ∷ []) fresh ≡ behind rest full ++ fresh.items
behind-more rest full fresh = rw (joined-append rest (full ∷ []), append-nil) refl
