-- How a stream is cut into packets.
use Rattle.std.proofs.Common.{◌≡◌, ℕ, zero, suc, ◌+◌, ◌-◌, ◌<◌, ◌≤◌, ltb, List, [], ◌∷◌, ◌++◌, length, drop, Option, Some, None, Result, Ok, Err, refl, sym, ap, ◌∙◌, append_assoc, arith}
use Rattle.std.proofs.lemmas.List.{drop_at, append-nil, length-append}
use Rattle.mqtt_fields.specs.Reading.{◌>>=◌}
use Rattle.mqtt_fields.specs.Numbers.{vbi}
use Rattle.mqtt_fields.proofs.Laws.{IsBytes, IsBytes-after, bind_ok, guard_ok, ok_is}
use Rattle.mqtt_packets.specs.declared.fault.PacketFault.{PacketFault}
use Rattle.mqtt_packets.specs.declared.fault.PacketFault.TheVariants as faults
use Rattle.mqtt_packets.specs.declared.head.Head.{Head}
use Rattle.mqtt_packets.specs.declared.packet.Packet.{Packet}
use Rattle.mqtt_packets.specs.Reading.{Fails}
use Rattle.mqtt_packets.specs.Stream.{header_at, body_at, packet_at, limited, step_at, Cut, before, cut_after, cut_within, cut}
use Rattle.mqtt_packets.proofs.StreamLaws.{packet_take}

pub limited_ok : (limit : ℕ) (bs : List ℕ) (o h : Option (Head × ℕ × List ℕ)) → limited limit bs o ≡ Ok h → o ≡ h
limited_ok limit bs None h e = ok_is None h e
limited_ok limit bs (Some n) h e = (guard_ok (ltb limit (length bs - length n.2 + n.1)) faults.TooLarge (Some n) h e).1

pub within_limit : (limit : ℕ) (bs : List ℕ) (x : Packet × List ℕ) → step_at limit bs ≡ Ok (Some x) → packet_at bs ≡ Ok (Some x)
unfolding step_at packet_at
within_limit limit bs x e =
    let h = bind_ok (header_at bs >>= limited limit bs) body_at (Some x) e in
    let g = bind_ok (header_at bs) (limited limit bs) h.0 h.1 in
    rw g.1 (ap body_at (limited_ok limit bs g.0 h.0 g.2) ∙ h.2)

pub rest_fits : (limit : ℕ) (bs : List ℕ) (x : Packet × List ℕ) → IsBytes bs → step_at limit bs ≡ Ok (Some x) → IsBytes x.1
rest_fits limit bs x fits e = let s = packet_take bs x fits (within_limit limit bs x e) in IsBytes-after bs s.0 x.1 fits s.1

pub shorter : (limit : ℕ) (bs : List ℕ) (x : Packet × List ℕ) → IsBytes bs → step_at limit bs ≡ Ok (Some x) → length x.1 < length bs
shorter limit bs x fits e =
    let s = packet_take bs x fits (within_limit limit bs x e) in
    let long : length s.0 ≡ suc (length (vbi.bytes (length s.2.inside) ++ s.2.inside)) = ap length s.2.whole in
    let len : length bs ≡ length s.0 + length x.1 = ap length s.1 ∙ length-append s.0 x.1 in
    omega arith

cut_step : (limit k j : ℕ) (bs : List ℕ) (r : Result (Option (Packet × List ℕ)) PacketFault)
    → ((x : Packet × List ℕ) → r ≡ Ok (Some x) → cut_within limit k x.1 ≡ cut_within limit j x.1)
    → cut_after bs (λ rest. cut_within limit k rest) r ≡ cut_after bs (λ rest. cut_within limit j rest) r
cut_step limit k j bs (Ok None) next = refl
cut_step limit k j bs (Ok (Some x)) next = ap (before (x.0 ∷ [])) (next x refl)
cut_step limit k j bs (Err f) next = refl

enough : (limit k j : ℕ) (bs : List ℕ) → IsBytes bs → length bs < k → length bs < j → cut_within limit k bs ≡ cut_within limit j bs
unfolding cut_within
enough limit zero j bs fits lk lj = absurd (omega arith)
enough limit (suc k) zero bs fits lk lj = absurd (omega arith)
enough limit (suc k) (suc j) bs fits lk lj = cut_step limit k j bs (step_at limit bs)
    (λ x e. let lt = shorter limit bs x fits e in enough limit k j x.1 (rest_fits limit bs x fits e) (omega arith) (omega arith))

-- a step of the loop
pub cut_some : (limit : ℕ) (bs : List ℕ) (x : Packet × List ℕ) → IsBytes bs → step_at limit bs ≡ Ok (Some x) → cut limit bs ≡ before (x.0 ∷ []) (cut limit x.1)
unfolding cut_within
cut_some limit bs x fits e =
    let lt = shorter limit bs x fits e in
    rw e (ap (before (x.0 ∷ [])) (enough limit (length bs) (suc (length x.1)) x.1 (rest_fits limit bs x fits e) (omega arith) (omega arith)))

pub goes_on : (limit : ℕ) (ps : List Packet) (bs : List ℕ) (x : Packet × List ℕ) → IsBytes bs → step_at limit bs ≡ Ok (Some x) → before ps (cut limit bs) ≡ before (ps ++ x.0 ∷ []) (cut limit x.1)
goes_on limit ps bs x fits e = ap (before ps) (cut_some limit bs x fits e) ∙ ap (λ (qs : List Packet). record { packets = qs; rest = (cut limit x.1).rest; fault = (cut limit x.1).fault }) (sym (append_assoc ps (x.0 ∷ []) (cut limit x.1).packets))

pub cut_none : (limit : ℕ) (bs : List ℕ) → step_at limit bs ≡ Ok None → cut limit bs ≡ record { packets = []; rest = bs; fault = None }
unfolding cut_within
cut_none limit bs e = rw e refl

pub cut_err : (limit : ℕ) (bs : List ℕ) (f : PacketFault) → step_at limit bs ≡ Err f → cut limit bs ≡ record { packets = []; rest = bs; fault = Some f }
unfolding cut_within
cut_err limit bs f e = rw e refl

pub is_fault : {Y : Type 0} (f : PacketFault) (r : Result Y PacketFault) → (f ≡ faults.NoMemory → ⊥) → Fails f r → r ≡ Err f
is_fault faults.NoMemory r n h = absurd (n refl)
is_fault faults.Malformed r n h = h
is_fault faults.ProtocolError r n h = h
is_fault faults.TooLarge r n h = h
is_fault faults.WrongVersion r n h = h

pub stops : (limit : ℕ) (ps : List Packet) (bs : List ℕ) (f : PacketFault) (total : Cut) → (f ≡ faults.NoMemory → ⊥) → Fails f (step_at limit bs) → before ps (cut limit bs) ≡ total → total ≡ record { packets = ps; rest = bs; fault = Some f }
stops limit ps bs f total n h so_far = sym so_far ∙ ap (before ps) (cut_err limit bs f (is_fault f (step_at limit bs) n h)) ∙ ap (λ (qs : List Packet). record { packets = qs; rest = bs; fault = Some f }) (append-nil ps)

pub ends : (limit : ℕ) (ps : List Packet) (bs : List ℕ) (total : Cut) → step_at limit bs ≡ Ok None → before ps (cut limit bs) ≡ total → total ≡ record { packets = ps; rest = bs; fault = None }
ends limit ps bs total e so_far = sym so_far ∙ ap (before ps) (cut_none limit bs e) ∙ ap (λ (qs : List Packet). record { packets = qs; rest = bs; fault = None }) (append-nil ps)

suffix_of : (bs : List ℕ) (r : Result (Option (Packet × List ℕ)) PacketFault) (next : List ℕ → Cut)
    → ((x : Packet × List ℕ) → r ≡ Ok (Some x) → (front : List ℕ) × (bs ≡ front ++ (next x.1).rest))
    → (front : List ℕ) × (bs ≡ front ++ (cut_after bs next r).rest)
suffix_of bs (Ok None) next h = ([], refl)
suffix_of bs (Err f) next h = ([], refl)
suffix_of bs (Ok (Some x)) next h = h x refl

suffix : (limit k : ℕ) (bs : List ℕ) → IsBytes bs → (front : List ℕ) × (bs ≡ front ++ (cut_within limit k bs).rest)
unfolding cut_within
suffix limit zero bs fits = ([], refl)
suffix limit (suc k) bs fits = suffix_of bs (step_at limit bs) (λ rest. cut_within limit k rest)
    (λ x e. let s = packet_take bs x fits (within_limit limit bs x e) in let t = suffix limit k x.1 (rest_fits limit bs x fits e) in
    (s.0 ++ t.0, s.1 ∙ ap (λ (r : List ℕ). s.0 ++ r) t.1 ∙ sym (append_assoc s.0 t.0 (cut_within limit k x.1).rest)))

pub used : (limit : ℕ) (bs : List ℕ) (ps : List Packet) (rest : List ℕ) (fault : Option PacketFault) → IsBytes bs → cut limit bs ≡ record { packets = ps; rest = rest; fault = fault } → (length rest ≤ length bs) × (drop (length bs - length rest) bs ≡ rest)
used limit bs ps rest fault fits e =
    let s = suffix limit (suc (length bs)) bs fits in
    let same : (cut limit bs).rest ≡ rest = ap (λ (c : Cut). c.rest) e in
    let parts : bs ≡ s.0 ++ rest = s.1 ∙ ap (λ (r : List ℕ). s.0 ++ r) same in
    let len : length bs ≡ length s.0 + length rest = ap length parts ∙ length-append s.0 rest in
    (omega arith, ap (λ (ys : List ℕ). drop (length bs - length rest) ys) parts ∙ drop_at s.0 rest (length bs - length rest) (omega arith))
