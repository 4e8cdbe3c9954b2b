-- What packets tell a client, and that nothing else does.
use Rattle.std.proofs.Common.{◌≡◌, ◌≤◌, ◌+◌, ◌*◌, ℕ, zero, suc, Bool, true, false, cond, ltb, List, [], ◌∷◌, ◌++◌, length, get_or, drop, Option, Some, None, Result, Ok, Err, refl, ap, ◌∙◌, arith}
use Rattle.std.specs.Prelude.{◌||◌, flat_map, map, nat_lt, ◌==◌, not}
use Rattle.std.specs.Int.{w16, to_be_bytes}
use Rattle.std.specs.List.{list_any}
use Rattle.std.proofs.lemmas.Bool.{eqb-true, ltb-false}
use Rattle.mqtt_fields.specs.Numbers.{vbi}
use Rattle.mqtt_fields.specs.Options.{qos_number}
use Rattle.mqtt_fields.specs.declared.options.Qos.{Qos}
use Rattle.mqtt_fields.specs.declared.options.Qos.TheVariants.{AtMostOnce, AtLeastOnce, ExactlyOnce}
use Rattle.mqtt_packets.specs.declared.fault.PacketFault.{PacketFault}
use Rattle.mqtt_packets.specs.declared.packet.Packet.{Packet}
use Rattle.mqtt_packets.specs.declared.packet.Packet.TheVariants as packets
use Rattle.mqtt_packets.specs.declared.publish.Publish.{Publish}
use Rattle.mqtt_packets.specs.Head.{bit}
use Rattle.mqtt_packets.specs.Stream.{packet_at}
use Rattle.mqtt3_packets.specs.declared.level.Level.{Level}
use Rattle.mqtt3_packets.specs.Written.{code_of, connack_with, ends, framed, publish_body, return_code, written}
use Rattle.door_mqtt3.specs.Sending.{Exchanges, Sent, after_sent, closed_by, gotten, none_sent, sent_for, sent_of, sent_then, sent_within}
use Rattle.door_mqtt3.specs.declared.client.Client.{Client}
use Rattle.law_doors.specs.Telling.{ConnacksAreTrue, GrantsAreTrue, PubacksAreTrue, PubcompsAreTrue, PubrecsAreTrue, SentIsWritten, before_end, given_by, given_packets, given_within}

-- ---- first bytes

apart : (x y : ℕ) (xs ys : List ℕ) → (x ≡ y → ⊥) → x ∷ xs ≡ y ∷ ys → ⊥
apart x y xs ys never e = never (ap (λ (l : List ℕ). get_or l 0 0) e)

none : (y : ℕ) (ys : List ℕ) → [] ≡ y ∷ ys → ⊥
none y ys e = cc

framed_case : (t : Bool) (x y : ℕ) (xs ys : List ℕ) → (x ≡ y → ⊥) → cond t [] (x ∷ xs) ≡ y ∷ ys → ⊥
framed_case true x y xs ys never e = none y ys e
framed_case false x y xs ys never e = apart x y xs ys never e

framed_apart : (x y : ℕ) (body ys : List ℕ) → (x ≡ y → ⊥) → framed x body ≡ y ∷ ys → ⊥
framed_apart x y body ys never e = framed_case (nat_lt 268435455 (length body)) x y (vbi.bytes (length body) ++ body) ys never e

connack_apart : (present : Bool) (o : Option ℕ) (y : ℕ) (ys : List ℕ) → (32 ≡ y → ⊥) → connack_with present o ≡ y ∷ ys → ⊥
connack_apart present None y ys never e = none y ys e
connack_apart present (Some code) y ys never e = apart 32 y _ ys never e

bit_small : (b : Bool) → bit b ≤ 1
bit_small true = omega arith
bit_small false = omega arith

qos_small : (q : Qos) → qos_number q ≤ 2
qos_small AtMostOnce = omega arith
qos_small AtLeastOnce = omega arith
qos_small ExactlyOnce = omega arith

publish_apart : (p : Publish) (y : ℕ) (ys : List ℕ) → 64 ≤ y → framed (0x30 + 8 * bit p.dup + 2 * qos_number p.qos + bit p.retain) (publish_body p) ≡ y ∷ ys → ⊥
publish_apart p y ys le e =
    let d = bit_small p.dup in
    let q = qos_small p.qos in
    let r = bit_small p.retain in
    framed_apart (0x30 + 8 * bit p.dup + 2 * qos_number p.qos + bit p.retain) y (publish_body p) ys (λ same. omega arith) e

publish_apart_below : (p : Publish) {ys : List ℕ} → framed (0x30 + 8 * bit p.dup + 2 * qos_number p.qos + bit p.retain) (publish_body p) ≡ 0x20 ∷ ys → ⊥
publish_apart_below p {ys} e = framed_apart (0x30 + 8 * bit p.dup + 2 * qos_number p.qos + bit p.retain) 0x20 (publish_body p) ys (λ same. omega arith) e

second : (f g : ℕ) (n xs : List ℕ) → f ∷ 2 ∷ n ≡ g ∷ 2 ∷ xs → n ≡ xs
second f g n xs e = ap (λ (l : List ℕ). drop 2 l) e

-- ---- acknowledgements

pub pubacks_are_true : PubacksAreTrue
unfolding written ends
pubacks_are_true level (packets.Puback a) high low goes is =
    record { ack = a; is = refl; number = second 0x40 0x40 (to_be_bytes w16 a.identifier) (high ∷ low ∷ []) is; taken = goes }
pubacks_are_true level (packets.Connack c) high low goes is = absurd (connack_apart (_) (return_code c.reason) 0x40 _ (λ same. omega arith) is)
pubacks_are_true level (packets.Publish p) high low goes is = absurd (publish_apart p 0x40 _ (omega arith) is)
pubacks_are_true level (packets.Pubrec a) high low goes is = absurd (apart 0x50 0x40 _ _ (λ same. omega arith) is)
pubacks_are_true level (packets.Pubrel a) high low goes is = absurd (apart 0x62 0x40 _ _ (λ same. omega arith) is)
pubacks_are_true level (packets.Pubcomp a) high low goes is = absurd (apart 0x70 0x40 _ _ (λ same. omega arith) is)
pubacks_are_true level (packets.Suback r) high low goes is = absurd (framed_apart 0x90 0x40 (to_be_bytes w16 r.identifier ++ map code_of r.reasons) _ (λ same. omega arith) is)
pubacks_are_true level (packets.Unsuback r) high low goes is = absurd (apart 0xb0 0x40 _ _ (λ same. omega arith) is)
pubacks_are_true level packets.Pingresp high low goes is = absurd (apart 0xd0 0x40 _ _ (λ same. omega arith) is)
pubacks_are_true level p high low goes is = absurd (none _ _ is)

pub pubrecs_are_true : PubrecsAreTrue
unfolding written ends
pubrecs_are_true level (packets.Pubrec a) high low goes is =
    record { ack = a; is = refl; number = second 0x50 0x50 (to_be_bytes w16 a.identifier) (high ∷ low ∷ []) is; taken = goes }
pubrecs_are_true level (packets.Connack c) high low goes is = absurd (connack_apart (_) (return_code c.reason) 0x50 _ (λ same. omega arith) is)
pubrecs_are_true level (packets.Publish p) high low goes is = absurd (publish_apart p 0x50 _ (omega arith) is)
pubrecs_are_true level (packets.Puback a) high low goes is = absurd (apart 0x40 0x50 _ _ (λ same. omega arith) is)
pubrecs_are_true level (packets.Pubrel a) high low goes is = absurd (apart 0x62 0x50 _ _ (λ same. omega arith) is)
pubrecs_are_true level (packets.Pubcomp a) high low goes is = absurd (apart 0x70 0x50 _ _ (λ same. omega arith) is)
pubrecs_are_true level (packets.Suback r) high low goes is = absurd (framed_apart 0x90 0x50 (to_be_bytes w16 r.identifier ++ map code_of r.reasons) _ (λ same. omega arith) is)
pubrecs_are_true level (packets.Unsuback r) high low goes is = absurd (apart 0xb0 0x50 _ _ (λ same. omega arith) is)
pubrecs_are_true level packets.Pingresp high low goes is = absurd (apart 0xd0 0x50 _ _ (λ same. omega arith) is)
pubrecs_are_true level p high low goes is = absurd (none _ _ is)

pub pubcomps_are_true : PubcompsAreTrue
unfolding written
pubcomps_are_true level (packets.Pubcomp a) high low is =
    record { ack = a; is = refl; number = second 0x70 0x70 (to_be_bytes w16 a.identifier) (high ∷ low ∷ []) is }
pubcomps_are_true level (packets.Connack c) high low is = absurd (connack_apart (_) (return_code c.reason) 0x70 _ (λ same. omega arith) is)
pubcomps_are_true level (packets.Publish p) high low is = absurd (publish_apart p 0x70 _ (omega arith) is)
pubcomps_are_true level (packets.Puback a) high low is = absurd (apart 0x40 0x70 _ _ (λ same. omega arith) is)
pubcomps_are_true level (packets.Pubrec a) high low is = absurd (apart 0x50 0x70 _ _ (λ same. omega arith) is)
pubcomps_are_true level (packets.Pubrel a) high low is = absurd (apart 0x62 0x70 _ _ (λ same. omega arith) is)
pubcomps_are_true level (packets.Suback r) high low is = absurd (framed_apart 0x90 0x70 (to_be_bytes w16 r.identifier ++ map code_of r.reasons) _ (λ same. omega arith) is)
pubcomps_are_true level (packets.Unsuback r) high low is = absurd (apart 0xb0 0x70 _ _ (λ same. omega arith) is)
pubcomps_are_true level packets.Pingresp high low is = absurd (apart 0xd0 0x70 _ _ (λ same. omega arith) is)
pubcomps_are_true level p high low is = absurd (none _ _ is)

-- ---- return codes

code_by : (t : Bool) (a b : Option ℕ) → (a ≡ Some 0 → ⊥) → (b ≡ Some 0 → ⊥) → cond t a b ≡ Some 0 → ⊥
code_by true a b never nor e = never e
code_by false a b never nor e = nor e

zero_case : (n : ℕ) (t : Bool) (o : Option ℕ) → (n == 0) ≡ t → (o ≡ Some 0 → ⊥) → cond t (Some 0) o ≡ Some 0 → n ≡ 0
zero_case n true o is never e = eqb-true n 0 is
zero_case n false o is never e = absurd (never e)

other_code : (k : ℕ) → (k ≡ 0 → ⊥) → Some k ≡ Some 0 → ⊥
other_code k never e = never cc

no_code : ◌≡◌ {A = Option ℕ} None (Some 0) → ⊥
no_code e = cc

code_zero : (n : ℕ) → return_code n ≡ Some 0 → n ≡ 0
unfolding return_code
code_zero n e = zero_case n (n == 0) _ refl
    (code_by (n == 0x84) _ _ (other_code 1 (λ k. omega arith)) (code_by (n == 0x85) _ _ (other_code 2 (λ k. omega arith))
    (code_by (((n == 0x88) || (n == 0x89)) || ((n == 0x9c) || (n == 0x9d))) _ _ (other_code 3 (λ k. omega arith)) (code_by (n == 0x86) _ _ (other_code 4 (λ k. omega arith))
    (code_by (n == 0x87) _ _ (other_code 5 (λ k. omega arith)) no_code))))) e

told_case : (present : Bool) (o : Option ℕ) (b : ℕ) → connack_with present o ≡ 0x20 ∷ 2 ∷ b ∷ 0 ∷ [] → o ≡ Some 0
told_case present None b e = absurd (none _ _ e)
told_case present (Some code) b e = let same : code ≡ 0 = ap (λ (l : List ℕ). get_or l 3 0) e in ap (λ (n : ℕ). Some n) same

pub connacks_are_true : ConnacksAreTrue
unfolding written
connacks_are_true level (packets.Connack c) b is = record { connack = c; is = refl; accepted = code_zero c.reason (told_case _ (return_code c.reason) b is) }
connacks_are_true level (packets.Publish p) b is = absurd (publish_apart_below p is)
connacks_are_true level (packets.Puback a) b is = absurd (apart 0x40 0x20 _ _ (λ same. omega arith) is)
connacks_are_true level (packets.Pubrec a) b is = absurd (apart 0x50 0x20 _ _ (λ same. omega arith) is)
connacks_are_true level (packets.Pubrel a) b is = absurd (apart 0x62 0x20 _ _ (λ same. omega arith) is)
connacks_are_true level (packets.Pubcomp a) b is = absurd (apart 0x70 0x20 _ _ (λ same. omega arith) is)
connacks_are_true level (packets.Suback r) b is = absurd (framed_apart 0x90 0x20 (to_be_bytes w16 r.identifier ++ map code_of r.reasons) _ (λ same. omega arith) is)
connacks_are_true level (packets.Unsuback r) b is = absurd (apart 0xb0 0x20 _ _ (λ same. omega arith) is)
connacks_are_true level packets.Pingresp b is = absurd (apart 0xd0 0x20 _ _ (λ same. omega arith) is)
connacks_are_true level p b is = absurd (none _ _ is)

granted_case : (n : ℕ) (t : Bool) → ltb 0x80 n ≡ t → not (ltb (cond t 0x80 n) 0x80) ≡ false → cond t 0x80 n ≡ n
granted_case n true e h = absurd cc
granted_case n false e h = refl

failed_case : (n : ℕ) (t : Bool) → ltb 0x80 n ≡ t → 0x80 ≤ n → cond t 0x80 n ≡ 0x80
failed_case n true e le = refl
failed_case n false e le = let up : n ≤ 0x80 = ltb-false 0x80 n e in omega arith

failure_is : (n : ℕ) (t : Bool) → ltb n 0x80 ≡ t → not t ≡ true → 0x80 ≤ n
failure_is n true e h = absurd cc
failure_is n false e h = ltb-false n 0x80 e

pub grants_are_true : GrantsAreTrue
grants_are_true = record {
  granted = λ n h. granted_case n (ltb 0x80 n) refl h;
  failed = λ n h. failed_case n (ltb 0x80 n) refl (failure_is n (ltb n 0x80) refl h);
}

-- ---- each packet that is given

-- what is sent of some packets
abbrev Sends : Level → Sent → List Packet → Type 0
Sends level s ps = (s.bytes ≡ flat_map (written level) (before_end level ps)) × (s.ends ≡ list_any (ends level) ps)

sends_first : (level : Level) (exchanges : Exchanges) (p : Packet) (s : Sent) (ps : List Packet) (b : Bool) → ends level p ≡ b → Sends level s ps
    → Sends level (cond b (none_sent exchanges true) (sent_then (written level p) s)) (p ∷ ps)
sends_first level exchanges p s ps true e h = rw e (refl, refl)
sends_first level exchanges p s ps false e h = rw e (ap (λ (bs : List ℕ). written level p ++ bs) h.0, h.1)

sends_case : (level : Level) (exchanges : Exchanges) (next : Exchanges → List ℕ → Sent) (later : List ℕ → List Packet) (r : Result (Option (Packet × List ℕ)) PacketFault)
    → ((left : Exchanges) (bs : List ℕ) → Sends level (next left bs) (later bs)) → Sends level (sent_for level exchanges next r) (given_by later r)
sends_case level exchanges next later (Ok None) h = (refl, refl)
sends_case level exchanges next later (Err f) h = (refl, refl)
sends_case level exchanges next later (Ok (Some x)) h =
    sends_first level exchanges x.0 (next (closed_by x.0 exchanges) x.1) (later x.1) (ends level x.0) refl (h (closed_by x.0 exchanges) x.1)

sends : (k : ℕ) (level : Level) (exchanges : Exchanges) (bs : List ℕ) → Sends level (sent_within k level exchanges bs) (given_within k bs)
unfolding sent_within given_within
sends zero level exchanges bs = (refl, refl)
sends (suc k) level exchanges bs =
    sends_case level exchanges (λ left rest. sent_within k level left rest) (λ rest. given_within k rest) (packet_at bs) (λ left rest. sends k level left rest)

silenced_case : (c : Client) (s : Sent) (b : Bool) → s.ends ≡ b → c.silenced ≡ false → (after_sent c s).silenced ≡ b
silenced_case c s true e on = rw e refl
silenced_case c s false e on = rw e on

sent_bytes : (c : Client) (bytes : List ℕ) → c.silenced ≡ false → ((gotten c bytes).sent ≡ (sent_of c.level c.exchanges bytes).bytes) × ((gotten c bytes).client ≡ after_sent c (sent_of c.level c.exchanges bytes))
sent_bytes c bytes on = rw on (refl, refl)

pub sent_is_written : SentIsWritten
sent_is_written = record {
  sent = λ c bytes on. (sent_bytes c bytes on).0 ∙ (sends (length bytes) c.level c.exchanges bytes).0;
  silenced = λ c bytes on.
      ap (λ (d : Client). d.silenced) (sent_bytes c bytes on).1
      ∙ silenced_case c (sent_of c.level c.exchanges bytes) (list_any (ends c.level) (given_packets bytes)) (sends (length bytes) c.level c.exchanges bytes).1 on;
  nothing = λ c bytes off. rw off refl;
}
