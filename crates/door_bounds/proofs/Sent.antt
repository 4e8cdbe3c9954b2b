-- Packets as bytes.
use Rattle.std.proofs.Common.{◌≡◌, ℕ, Bool, true, false, List, [], ◌∷◌, ◌++◌, inl, inr, refl, sym, ap, subst, ◌∙◌, append_assoc}
use Rattle.std.specs.Prelude.{◌==◌, ◌↔◌, IsTrue}
use Rattle.std.proofs.lemmas.Bool.{eq-eqb}
use Rattle.std.proofs.lemmas.List.{append-nil}
use Rattle.broker_sockets.specs.declared.events.Output.{Output}
use Rattle.broker_sockets.specs.declared.events.Output.TheVariants.{Send}
use Rattle.mqtt_packets.specs.Stream.{packet_at}
use Rattle.mqtt_packets.specs.Written.{HasSpelling, written}
use Rattle.mqtt_packets.specs.declared.packet.Packet.{Packet}
use Rattle.mqtt_bounds.specs.declared.verdict.Mend.{Mend}
use Rattle.door_bounds.specs.Mending.{AreMended, Buffer, IsMended, IsMendedAt, IsMendedIf, IsPutMended, IsReplaced, IsSpelled}

pub is_spelled : (p : Packet) (b : Bool) (bs : List ℕ) → b ≡ true → IsTrue b ↔ HasSpelling p → bs ≡ written p → IsSpelled p bs
is_spelled p false bs e sound is = absurd cc
is_spelled p true bs e sound is = inl (sound.0 refl, is)

pub not_spelled : (p : Packet) (b : Bool) (bs : List ℕ) → b ≡ false → IsTrue b ↔ HasSpelling p → bs ≡ [] → IsSpelled p bs
not_spelled p true bs e sound is = absurd cc
not_spelled p false bs e sound is = inr ((λ has. absurd (let bad : false ≡ true = sound.1 has in cc)), is)

pub is_replaced : (p : Packet) (b : Bool) (rest bs x : List ℕ) → b ≡ true → IsTrue b ↔ HasSpelling p → x ≡ written p ++ rest → IsReplaced p rest bs x
is_replaced p false rest bs x e sound is = absurd cc
is_replaced p true rest bs x e sound is = inl (sound.0 refl, is)

pub not_replaced : (p : Packet) (b : Bool) (rest bs x : List ℕ) → b ≡ false → IsTrue b ↔ HasSpelling p → x ≡ bs → IsReplaced p rest bs x
not_replaced p true rest bs x e sound is = absurd cc
not_replaced p false rest bs x e sound is = inr ((λ has. absurd (let bad : false ≡ true = sound.1 has in cc)), is)

-- bytes for the connection whose answers are mended
send_case : (m : Mend) (to : ℕ) (bytes y : Buffer) (t : Bool) → t ≡ true → IsMendedAt m bytes.items y.items (packet_at bytes.items) → IsMendedIf t m to bytes (Send to y)
send_case m to bytes y true e is = (y, is, refl)
send_case m to bytes y false e is = absurd cc

pub mended_send : (q : ℕ) (m : Mend) (to : ℕ) (bytes y : Buffer) → to ≡ q → IsMendedAt m bytes.items y.items (packet_at bytes.items) → IsMended q m (Send to bytes) (Send to y)
mended_send q m to bytes y e is = send_case m to bytes y (to == q) (eq-eqb to q e) is

-- one more output
mended_then : (q : ℕ) (m : Mend) (os xs : List Output) (o x : Output) → AreMended q m os xs → IsMended q m o x → AreMended q m (os ++ o ∷ []) (xs ++ x ∷ [])
mended_then q m [] [] o x all one = (one, tt)
mended_then q m [] (y ∷ ys) o x all one = absurd all
mended_then q m (p ∷ os) [] o x all one = absurd all
mended_then q m (p ∷ os) (y ∷ ys) o x all one = (all.0, mended_then q m os ys o x all.1 one)

pub put_none : (q : ℕ) (m : Mend) (o : List Output) → IsPutMended q m [] o o
put_none q m o = ([], tt, sym (append-nil o))

pub put_then : (q : ℕ) (m : Mend) (given : List Output) (output x : Output) (o p r : List Output) → IsPutMended q m given o p → IsMended q m output x → r ≡ p ++ x ∷ []
    → IsPutMended q m (given ++ output ∷ []) o r
put_then q m given output x o p r put one is =
    (put.0 ++ x ∷ [], mended_then q m given put.0 output x put.1 one, is ∙ ap (λ (ys : List Output). ys ++ x ∷ []) put.2 ∙ append_assoc o put.0 (x ∷ []))
