-- Where reading wants memory.
use Rattle.std.proofs.Common.{◌≡◌, ℕ, ◌<◌, List, [], ◌∷◌, length, arith, ◌++◌, Option, Some, None, Result, Ok, Err, ◌⊎◌, inl, inr, refl, sym, subst, ap}
use Rattle.std.specs.Prelude.{IsOk}
use Rattle.mqtt_fields.specs.declared.fault.FieldFault.{FieldFault}
use Rattle.mqtt_fields.specs.declared.table.Place.{Place}
use Rattle.mqtt_fields.specs.declared.value.Property.{Property}
use Rattle.mqtt_fields.specs.Reading.{◌>>=◌}
use Rattle.mqtt_fields.specs.Numbers.{text}
use Rattle.mqtt_fields.specs.Block.{properties, first_if_any}
use Rattle.mqtt_fields.proofs.BlockLaws.{read_any}
use Rattle.mqtt_packets.specs.declared.fault.PacketFault.{PacketFault}
use Rattle.mqtt_packets.specs.declared.head.Head.{Head}
use Rattle.mqtt_packets.specs.declared.packet.Packet.{Packet}
use Rattle.mqtt_packets.specs.declared.subscribe.SubscribeFilter.{SubscribeFilter}
use Rattle.mqtt_packets.specs.Reading.{in_packet, field_at}
use Rattle.mqtt_packets.specs.Stream.{header_at, limited, body_at, step_at, Cut, cut}
use Rattle.mqtt_packets.specs.Memory.{HeaderWants, StepWants, HasHeader, FaultWants, FeedWants}
use Rattle.mqtt_packets.proofs.CutLaws.{cut_err}
use Rattle.mqtt_packets.specs.Subscribe.{options, filter_of, subscribe_filter}

in_packet_ok : {A : Type 0} (r : Result A FieldFault) (x : A) → in_packet r ≡ Ok x → r ≡ Ok x
in_packet_ok (Ok y) x e = let same : y ≡ x = cc in ap Ok same
in_packet_ok (Err f) x e = absurd cc

packet_ok : {A : Type 0} (r : Result A FieldFault) → IsOk r → IsOk (in_packet r)
packet_ok (Ok x) h = refl
packet_ok (Err f) h = absurd cc

-- a block that is read begins with a property, or has none
pub list_read : (place : Place) (bs : List ℕ) (x : List Property × List ℕ) → field_at (properties place) bs ≡ Ok x → IsOk (in_packet (first_if_any place bs))
list_read place bs x e = packet_ok (first_if_any place bs) (read_any place bs x (in_packet_ok ((properties place).at bs) x e))

-- no filter has been read yet, or the first one's text has
abbrev pub Began : List ℕ → List ℕ → Type 0
Began rest all = (rest ≡ all) ⊎ IsOk (field_at text all)

pub first_text : (rest all : List ℕ) → Began rest all → IsOk (field_at text rest) → IsOk (field_at text all)
first_text rest all (inl e) ok = subst (λ (bs : List ℕ). IsOk (field_at text bs)) e ok
first_text rest all (inr b) ok = b

filter_case : {B : Type 0} (r : Result (List ℕ × List ℕ) FieldFault) (next : List ℕ × List ℕ → Result B FieldFault) (made : B → Result (SubscribeFilter × List ℕ) FieldFault) (x : SubscribeFilter × List ℕ)
    → in_packet ((r >>= next) >>= made) ≡ Ok x → IsOk (in_packet r)
filter_case (Ok y) next made x e = refl
filter_case (Err f) next made x e = absurd cc

pub filter_text : (bs : List ℕ) (x : SubscribeFilter × List ℕ) → field_at subscribe_filter bs ≡ Ok x → IsOk (field_at text bs)
filter_text bs x e =
    let next : List ℕ × List ℕ → Result ((List ℕ × ℕ) × List ℕ) FieldFault = λ a. options.at a.1 >>= λ b. Ok ((a.0, b.0), b.1) in
    let made : (List ℕ × ℕ) × List ℕ → Result (SubscribeFilter × List ℕ) FieldFault = λ a. Ok (filter_of a.0, a.1) in
    filter_case (text.at bs) next made x e

-- reading wanted memory
pub wants_at : (limit : ℕ) (bs : List ℕ) → StepWants limit bs → FaultWants limit bs
wants_at limit bs w f e = w

-- no packet in front is faulty where one is read, or where a cut has no fault
pub read_wants : (limit : ℕ) (bs : List ℕ) (x : Packet × List ℕ) → step_at limit bs ≡ Ok (Some x) → FaultWants limit bs
read_wants limit bs x e f g = absurd cc

pub quiet_wants : (limit : ℕ) (bs : List ℕ) → (cut limit bs).fault ≡ None → FaultWants limit bs
quiet_wants limit bs quiet f e =
    let found : (cut limit bs).fault ≡ Some f = ap (λ (c : Cut). c.fault) (cut_err limit bs f e) in
    absurd cc

-- nothing has been cut off yet, or what is wrong in front has been looked at
abbrev pub HasBegun : ℕ → List ℕ → List ℕ → Type 0
HasBegun limit rest all = (rest ≡ all) ⊎ FaultWants limit all

pub first_wants : (limit : ℕ) (rest all : List ℕ) → HasBegun limit rest all → FaultWants limit rest → FaultWants limit all
first_wants limit rest all (inl e) w = subst (FaultWants limit) e w
first_wants limit rest all (inr b) w = b

header_case : (r : Result (Option (Head × ℕ × List ℕ)) PacketFault) → ((f : PacketFault) → (r >>= body_at) ≡ Err f → HeaderWants r) → IsOk r
header_case (Ok o) h = refl
header_case (Err f) h = absurd (h f refl)

-- a header that can't be is a fault that wants no memory
pub header_wants : (limit : ℕ) (bs : List ℕ) → FaultWants limit bs → HasHeader limit bs
unfolding step_at
header_wants limit bs w = header_case (header_at bs >>= limited limit bs) w

-- so where nothing was held
pub first_piece : (limit : ℕ) (held piece : List ℕ) → held ≡ [] → FaultWants limit piece → FeedWants limit held piece
first_piece limit held piece none w = record { header = subst (λ (bs : List ℕ). HasHeader limit (bs ++ piece)) (sym none) (header_wants limit piece w); body = λ _. w }

-- where something was, the header is what counts
pub next_piece : (limit : ℕ) (held piece : List ℕ) → (held ≡ [] → ⊥) → HasHeader limit (held ++ piece) → FeedWants limit held piece
next_piece limit held piece some h = record { header = h; body = λ none. absurd (some none) }

-- nothing is wrong with no bytes
pub fault_long : (limit : ℕ) (bs : List ℕ) (f : PacketFault) → step_at limit bs ≡ Err f → 0 < length bs
unfolding step_at header_at
fault_long limit [] f e = absurd cc
fault_long limit (b ∷ bs) f e = omega arith
