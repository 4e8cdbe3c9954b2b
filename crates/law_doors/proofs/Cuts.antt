-- How a client's bytes are cut into packets.
use Rattle.std.proofs.Common.{◌≡◌, ℕ, zero, suc, ◌+◌, ◌-◌, ◌<◌, ◌≤◌, List, [], ◌∷◌, ◌++◌, length, take, Option, Some, None, Result, Ok, Err, refl, sym, ap, subst, ◌∙◌, append_assoc, arith}
use Rattle.std.proofs.lemmas.List.{append-nil, length-append, take_at}
use Rattle.mqtt_fields.proofs.Laws.{IsBytes, IsBytes-after}
use Rattle.mqtt_packets.specs.declared.fault.PacketFault.{PacketFault}
use Rattle.mqtt_packets.specs.declared.packet.Packet.{Packet}
use Rattle.mqtt_packets.specs.Stream.{Cut, before, cut_after}
use Rattle.mqtt_packets.proofs.GrowLaws.{GrownOn, IsBytes-front, on_packet}
use Rattle.mqtt3_packets.specs.declared.level.Level.{Level}
use Rattle.mqtt3_packets.specs.Stream.{header_at, packet_at}
use Rattle.door_mqtt3.specs.Client.{limit}
use Rattle.law_doors.specs.Cut.{cut, cut_within, packets_of}
use Rattle.law_doors.proofs.Growing.{packet_front, packet_grows, packet_less, packet_rest}

-- these packets, this rest, and no fault
abbrev pub sound : List Packet → List ℕ → Cut
sound ps rest = record { packets = ps; rest = rest; fault = None }

abbrev faulty : List Packet → List ℕ → PacketFault → Cut
faulty ps rest f = record { packets = ps; rest = rest; fault = Some f }

pub nothing_there : (level : Level) → packet_at level limit [] ≡ Ok None
unfolding packet_at header_at
nothing_there level = refl

pub within_zero : (level : Level) (bs : List ℕ) → cut_within zero level bs ≡ sound [] bs
unfolding cut_within
within_zero level bs = refl

pub within_none : (k : ℕ) (level : Level) (bs : List ℕ) → packet_at level limit bs ≡ Ok None → cut_within k level bs ≡ sound [] bs
unfolding cut_within
within_none zero level bs e = refl
within_none (suc k) level bs e = rw e refl

pub within_some : (k : ℕ) (level : Level) (bs : List ℕ) (x : Packet × List ℕ) → packet_at level limit bs ≡ Ok (Some x) → cut_within (suc k) level bs ≡ before (x.0 ∷ []) (cut_within k level x.1)
unfolding cut_within
within_some k level bs x e = rw e refl

within_err : (k : ℕ) (level : Level) (bs : List ℕ) (f : PacketFault) → packet_at level limit bs ≡ Err f → cut_within (suc k) level bs ≡ faulty [] bs f
unfolding cut_within
within_err k level bs f e = rw e refl

cut_step : (k j : ℕ) (level : Level) (bs : List ℕ) (r : Result (Option (Packet × List ℕ)) PacketFault)
    → ((x : Packet × List ℕ) → r ≡ Ok (Some x) → cut_within k level x.1 ≡ cut_within j level x.1)
    → cut_after bs (λ rest. cut_within k level rest) r ≡ cut_after bs (λ rest. cut_within j level rest) r
cut_step k j level bs (Ok None) next = refl
cut_step k j level bs (Ok (Some x)) next = ap (before (x.0 ∷ [])) (next x refl)
cut_step k j level bs (Err f) next = refl

enough : (k j : ℕ) (level : Level) (bs : List ℕ) → IsBytes bs → length bs ≤ k → length bs ≤ j → cut_within k level bs ≡ cut_within j level bs
unfolding cut_within
enough k j level [] fits lk lj = within_none k level [] (nothing_there level) ∙ sym (within_none j level [] (nothing_there level))
enough zero j level (b ∷ bs) fits lk lj = absurd (omega arith)
enough (suc k) zero level (b ∷ bs) fits lk lj = absurd (omega arith)
enough (suc k) (suc j) level (b ∷ bs) fits lk lj =
    cut_step k j level (b ∷ bs) (packet_at level limit (b ∷ bs))
    (λ x e. let lt = packet_less level limit (b ∷ bs) x fits e in enough k j level x.1 (packet_rest level limit (b ∷ bs) x fits e) (omega arith) (omega arith))

one_more : (level : Level) (bs : List ℕ) → IsBytes bs → cut level bs ≡ cut_within (suc (length bs)) level bs
one_more level bs fits = enough (length bs) (suc (length bs)) level bs fits (omega arith) (omega arith)

pub cut_some : (level : Level) (bs : List ℕ) (x : Packet × List ℕ) → IsBytes bs → packet_at level limit bs ≡ Ok (Some x) → cut level bs ≡ before (x.0 ∷ []) (cut level x.1)
cut_some level bs x fits e =
    let lt = packet_less level limit bs x fits e in
    one_more level bs fits ∙ within_some (length bs) level bs x e
    ∙ ap (before (x.0 ∷ [])) (enough (length bs) (length x.1) level x.1 (packet_rest level limit bs x fits e) (omega arith) (omega arith))

pub cut_none : (level : Level) (bs : List ℕ) → packet_at level limit bs ≡ Ok None → cut level bs ≡ sound [] bs
cut_none level bs e = within_none (length bs) level bs e

pub cut_err : (level : Level) (bs : List ℕ) (f : PacketFault) → IsBytes bs → packet_at level limit bs ≡ Err f → cut level bs ≡ faulty [] bs f
cut_err level bs f fits e = one_more level bs fits ∙ within_err (length bs) level bs f e

pub cut_nothing : (level : Level) → cut level [] ≡ sound [] []
cut_nothing level = cut_none level [] (nothing_there level)

-- ---- more bytes

more_at : Level → List Packet → List ℕ → Option PacketFault → List ℕ → Cut
more_at level ps rest None b = before ps (cut level (rest ++ b))
more_at level ps rest (Some f) b = faulty ps (rest ++ b) f

more : Level → Cut → List ℕ → Cut
more level c b = more_at level c.packets c.rest c.fault b

before_more : (level : Level) (p : Packet) (c : Cut) (b : List ℕ) (f : Option PacketFault) → more_at level (p ∷ c.packets) c.rest f b ≡ before (p ∷ []) (more_at level c.packets c.rest f b)
unfolding more_at
before_more level p c b None = refl
before_more level p c b (Some f) = refl

rest_of : (level : Level) (a b : List ℕ) (x : Packet × List ℕ) → IsBytes (a ++ b) → packet_at level limit a ≡ Ok (Some x) → IsBytes (x.1 ++ b)
rest_of level a b x fits e =
    let f = packet_front level limit a x (IsBytes-front a b fits) e in
    IsBytes-after (a ++ b) f.front (x.1 ++ b) fits (ap (λ (ys : List ℕ). ys ++ b) f.whole ∙ append_assoc f.front x.1 b)

alike_case : (level : Level) (a b : List ℕ) (r : Result (Option (Packet × List ℕ)) PacketFault) → packet_at level limit a ≡ r → GrownOn on_packet b r (packet_at level limit (a ++ b)) → IsBytes (a ++ b)
    → ((x : Packet × List ℕ) → r ≡ Ok (Some x) → cut level (x.1 ++ b) ≡ more level (cut level x.1) b)
    → cut level (a ++ b) ≡ more level (cut level a) b
unfolding GrownOn more more_at
alike_case level a b (Ok None) e g fits next = sym (ap (λ (c : Cut). more level c b) (cut_none level a e))
alike_case level a b (Err f) e g fits next = cut_err level (a ++ b) f fits g ∙ sym (ap (λ (c : Cut). more level c b) (cut_err level a f (IsBytes-front a b fits) e))
alike_case level a b (Ok (Some x)) e g fits next =
    let front = IsBytes-front a b fits in
    cut_some level (a ++ b) (on_packet b x) fits g ∙ ap (before (x.0 ∷ [])) (next x refl) ∙ sym (before_more level x.0 (cut level x.1) b (cut level x.1).fault)
    ∙ sym (ap (λ (c : Cut). more level c b) (cut_some level a x front e))

alike_within : (n : ℕ) (level : Level) (a b : List ℕ) → length a < n → IsBytes (a ++ b) → cut level (a ++ b) ≡ more level (cut level a) b
alike_within zero level a b lt fits = absurd (omega arith)
alike_within (suc n) level a b lt fits =
    let front = IsBytes-front a b fits in
    alike_case level a b (packet_at level limit a) refl (packet_grows level limit a b front) fits
    (λ x e. let less = packet_less level limit a x front e in alike_within n level x.1 b (omega arith) (rest_of level a b x fits e))

-- behind bytes without a fault the cut goes on with what was left of them
pub cut_on : (level : Level) (a b : List ℕ) (ps : List Packet) (rest : List ℕ) → IsBytes (a ++ b) → cut level a ≡ sound ps rest → cut level (a ++ b) ≡ before ps (cut level (rest ++ b))
unfolding more more_at
cut_on level a b ps rest fits e = alike_within (suc (length a)) level a b (omega arith) fits ∙ ap (λ (c : Cut). more level c b) e

-- what the bytes of a packet are cut into
pub own_bytes : (level : Level) (bs : List ℕ) (x : Packet × List ℕ) → IsBytes bs → packet_at level limit bs ≡ Ok (Some x)
    → IsBytes (take (length bs - length x.1) bs) × (cut level (take (length bs - length x.1) bs) ≡ sound (x.0 ∷ []) [])
own_bytes level bs x fits e =
    let f = packet_front level limit bs x fits e in
    let len : length bs ≡ length f.front + length x.1 = ap length f.whole ∙ length-append f.front x.1 in
    let is : take (length bs - length x.1) bs ≡ f.front = ap (take (length bs - length x.1)) f.whole ∙ take_at f.front x.1 (length bs - length x.1) (omega arith) in
    let own : IsBytes f.front = IsBytes-front f.front x.1 (subst IsBytes f.whole fits) in
    let nothing : List ℕ = [] in
    rw is (own, cut_some level f.front (x.0, nothing) own f.alone ∙ ap (before (x.0 ∷ [])) (cut_nothing level))

-- packets that are all there, and others behind them
pub whole_then : (level : Level) (a b : List ℕ) (ps qs : List Packet) (rest : List ℕ) → IsBytes (a ++ b) → cut level a ≡ sound ps [] → cut level b ≡ sound qs rest → cut level (a ++ b) ≡ sound (ps ++ qs) rest
whole_then level a b ps qs rest fits e f = cut_on level a b ps [] fits e ∙ ap (before ps) f

-- what was cut of the first bytes is cut of more
packets_case : (level : Level) (b : List ℕ) (ps : List Packet) (rest : List ℕ) (f : Option PacketFault) → (qs : List Packet) × ((more_at level ps rest f b).packets ≡ ps ++ qs)
unfolding more_at
packets_case level b ps rest None = ((cut level (rest ++ b)).packets, refl)
packets_case level b ps rest (Some f) = ([], sym (append-nil ps))

pub packets_front : (level : Level) (a b : List ℕ) → IsBytes (a ++ b) → (qs : List Packet) × (packets_of level (a ++ b) ≡ packets_of level a ++ qs)
unfolding more
packets_front level a b fits =
    let c = cut level a in
    let k = packets_case level b c.packets c.rest c.fault in
    (k.0, ap (λ (x : Cut). x.packets) (alike_within (suc (length a)) level a b (omega arith) fits) ∙ k.1)

-- what is left of bytes is their end
suffix_of : (bs : List ℕ) (r : Result (Option (Packet × List ℕ)) PacketFault) (next : List ℕ → Cut)
    → ((x : Packet × List ℕ) → r ≡ Ok (Some x) → (front : List ℕ) × (bs ≡ front ++ (next x.1).rest))
    → (front : List ℕ) × (bs ≡ front ++ (cut_after bs next r).rest)
suffix_of bs (Ok None) next h = ([], refl)
suffix_of bs (Err f) next h = ([], refl)
suffix_of bs (Ok (Some x)) next h = h x refl

suffix : (k : ℕ) (level : Level) (bs : List ℕ) → IsBytes bs → (front : List ℕ) × (bs ≡ front ++ (cut_within k level bs).rest)
unfolding cut_within
suffix zero level bs fits = ([], refl)
suffix (suc k) level bs fits = suffix_of bs (packet_at level limit bs) (λ rest. cut_within k level rest)
    (λ x e. let f = packet_front level limit bs x fits e in let t = suffix k level x.1 (packet_rest level limit bs x fits e) in
    (f.front ++ t.0, f.whole ∙ ap (λ (r : List ℕ). f.front ++ r) t.1 ∙ sym (append_assoc f.front t.0 (cut_within k level x.1).rest)))

pub rest_fits : (level : Level) (a b : List ℕ) (ps : List Packet) (rest : List ℕ) → IsBytes (a ++ b) → cut level a ≡ sound ps rest → IsBytes (rest ++ b)
rest_fits level a b ps rest fits e =
    let s = suffix (length a) level a (IsBytes-front a b fits) in
    let parts : a ≡ s.0 ++ rest = s.1 ∙ ap (λ (c : Cut). s.0 ++ c.rest) e in
    IsBytes-after (a ++ b) s.0 (rest ++ b) fits (ap (λ (ys : List ℕ). ys ++ b) parts ∙ append_assoc s.0 rest b)
