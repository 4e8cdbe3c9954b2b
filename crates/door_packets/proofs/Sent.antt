-- Packets as bytes, and what goes out.
use Rattle.std.proofs.Common.{◌≡◌, ℕ, Bool, true, false, cond, List, [], ◌∷◌, ◌++◌, drop, length, take, Option, Some, None, Result, Ok, Err, inl, inr, refl, sym, ap, subst, ◌∙◌}
use Rattle.std.specs.Prelude.{◌==◌, ◌&&◌, ◌↔◌, IsTrue}
use Rattle.std.specs.List.{list_all}
use Rattle.mqtt_packets.specs.Stream.{packet_at}
use Rattle.mqtt_packets.specs.Written.{HasSpelling, written}
use Rattle.mqtt_packets.specs.declared.fault.PacketFault.{PacketFault}
use Rattle.mqtt_packets.specs.declared.packet.Packet.{Packet}
use Rattle.mqtt_packets.specs.declared.publish.Publish.{Publish}
use Rattle.mqtt_bounds.specs.declared.front.Front.TheVariants as fronts
use Rattle.mqtt_bounds.specs.Pieces.{cut, front_at}
use Rattle.mqtt_bounds.proofs.Growing.{cut_broken, cut_long, cut_waits, cut_whole}
use Rattle.door_packets.specs.Front.{IsFront, IsNoPacket, IsPublish}
use Rattle.door_packets.specs.Going.{is_nothing, may_go, may_go_cut}
use Rattle.door_packets.specs.Rights.{Rights}
use Rattle.door_packets.specs.Sending.{IsSpelled, is_readable, may_receive, mended, mended_at, mended_by, readable_at, readable_by}
use Rattle.door_packets.specs.declared.access.Login.{Login}
use Rattle.door_packets.specs.declared.codes.Awaited.{Awaited}

pub is_spelled : (p : Packet) (b : Bool) (bs : List ℕ) → b ≡ true → IsTrue b ↔ HasSpelling p → bs ≡ written p → IsSpelled p bs
is_spelled p false bs e sound is = absurd cc
is_spelled p true bs e sound is = inl (sound.0 refl, is)

pub not_spelled : (p : Packet) (b : Bool) (bs : List ℕ) → b ≡ false → IsTrue b ↔ HasSpelling p → bs ≡ [] → IsSpelled p bs
not_spelled p true bs e sound is = absurd cc
not_spelled p false bs e sound is = inr ((λ has. absurd (let bad : false ≡ true = sound.1 has in cc)), is)

-- ---- SUBACK

none_mended : (a : Awaited) (bs : List ℕ) (x : Result (Option (Packet × List ℕ)) PacketFault) → IsNoPacket x → bs ≡ mended_at a bs x
none_mended a bs (Ok (Some x)) not_one = absurd not_one
none_mended a bs (Ok None) not_one = refl
none_mended a bs (Err f) not_one = refl

pub mended_none : (o : Option Awaited) (a : Awaited) (bs : List ℕ) → o ≡ Some a → IsFront bs None → bs ≡ mended o bs
mended_none o a bs is front = subst (λ (x : Option Awaited). bs ≡ mended x bs) (sym is) (none_mended a bs (packet_at bs) front)

pub mended_front : (o : Option Awaited) (a : Awaited) (bs y : List ℕ) (x : Packet × ℕ) → o ≡ Some a → IsFront bs (Some x) → y ≡ mended_by a bs x.0 (drop x.1 bs) → y ≡ mended o bs
mended_front o a bs y x is front e = subst (λ (z : Option Awaited). y ≡ mended z bs) (sym is) (e ∙ sym (ap (mended_at a bs) front.0))

-- ---- PUBLISH

none_readable : (r : Rights) (l : Option Login) (x : Result (Option (Packet × List ℕ)) PacketFault) → IsNoPacket x → false ≡ readable_at r l x
none_readable r l (Ok (Some x)) not_one = absurd not_one
none_readable r l (Ok None) not_one = refl
none_readable r l (Err f) not_one = refl

pub readable_none : (r : Rights) (l : Option Login) (bs : List ℕ) → IsFront bs None → false ≡ is_readable r l bs
readable_none r l bs front = none_readable r l (packet_at bs) front

pub readable_some : (r : Rights) (l : Option Login) (bs : List ℕ) (x : Packet × ℕ) (b : Bool) → IsFront bs (Some x) → b ≡ readable_by r l x.0 → b ≡ is_readable r l bs
readable_some r l bs x b front e = e ∙ sym (ap (readable_at r l) front.0)

publish_case : (r : Rights) (l : Option Login) (p : Publish) (x : Result (Option (Packet × List ℕ)) PacketFault) (b : Bool) → IsPublish p x → b ≡ may_receive r l p → b ≡ readable_at r l x
publish_case r l p (Ok (Some x)) b is e = e ∙ sym (ap (readable_by r l) is)
publish_case r l p (Ok None) b is e = absurd is
publish_case r l p (Err f) b is e = absurd is

pub readable_publish : (r : Rights) (l : Option Login) (bs : List ℕ) (p : Publish) (b : Bool) → IsPublish p (packet_at bs) → b ≡ may_receive r l p → b ≡ is_readable r l bs
readable_publish r l bs p b is e = publish_case r l p (packet_at bs) b is e

-- ---- one packet after another

and_false : (b : Bool) → false ≡ (b && false)
and_false true = refl
and_false false = refl

and_true : (b : Bool) → b ≡ (b && true)
and_true true = refl
and_true false = refl

-- what is to be seen of all bytes, where the first of these is readable, or isn't
read_on : (r : Rights) (l : Option Login) (bs : List ℕ) (used : ℕ) (b : Bool) → front_at 268435460 bs ≡ fronts.Whole used → is_readable r l (take used bs) ≡ b
    → may_go r l bs ≡ (is_nothing (cut 268435460 (drop used bs)).rest && (b && list_all (is_readable r l) (cut 268435460 (drop used bs)).packets))
read_on r l bs used b front is =
    ap (may_go_cut r l) (cut_whole 268435460 bs used front)
    ∙ ap (λ (t : Bool). is_nothing (cut 268435460 (drop used bs)).rest && (t && list_all (is_readable r l) (cut 268435460 (drop used bs)).packets)) is

pub goes_whole : (r : Rights) (l : Option Login) (all bs x rest : List ℕ) (used : ℕ) → front_at 268435460 bs ≡ fronts.Whole used → x ≡ take used bs → rest ≡ drop used bs → is_readable r l x ≡ true
    → may_go r l all ≡ may_go r l bs → may_go r l all ≡ may_go r l rest
goes_whole r l all bs x rest used front at_front behind is so =
    so ∙ read_on r l bs used true front (sym (ap (is_readable r l) at_front) ∙ is) ∙ ap (may_go r l) (sym behind)

pub goes_not : (r : Rights) (l : Option Login) (all bs x : List ℕ) (used : ℕ) → front_at 268435460 bs ≡ fronts.Whole used → x ≡ take used bs → is_readable r l x ≡ false → may_go r l all ≡ may_go r l bs
    → false ≡ may_go r l all
goes_not r l all bs x used front at_front is so =
    and_false (is_nothing (cut 268435460 (drop used bs)).rest) ∙ sym (so ∙ read_on r l bs used false front (sym (ap (is_readable r l) at_front) ∙ is))

pub ends_waiting : (r : Rights) (l : Option Login) (all bs : List ℕ) → front_at 268435460 bs ≡ fronts.Waits → may_go r l all ≡ may_go r l bs → (length bs == 0) ≡ may_go r l all
ends_waiting r l all bs front so = and_true (length bs == 0) ∙ sym (so ∙ ap (may_go_cut r l) (cut_waits 268435460 bs front))

pub ends_long : (r : Rights) (l : Option Login) (all bs : List ℕ) → front_at 268435460 bs ≡ fronts.TooLong → may_go r l all ≡ may_go r l bs → (length bs == 0) ≡ may_go r l all
ends_long r l all bs front so = and_true (length bs == 0) ∙ sym (so ∙ ap (may_go_cut r l) (cut_long 268435460 bs front))

pub ends_broken : (r : Rights) (l : Option Login) (all bs : List ℕ) → front_at 268435460 bs ≡ fronts.Broken → may_go r l all ≡ may_go r l bs → (length bs == 0) ≡ may_go r l all
ends_broken r l all bs front so = and_true (length bs == 0) ∙ sym (so ∙ ap (may_go_cut r l) (cut_broken 268435460 bs front))
