-- A cut stream is spelled.
use Rattle.std.proofs.Common.{◌≡◌, ℕ, zero, suc, ◌+◌, ◌-◌, ◌<◌, ◌≤◌, Bool, true, false, cond, ltb, List, [], ◌∷◌, ◌++◌, length, take, drop, Option, Some, None, Result, Ok, Err, refl, sym, ap, subst, ◌∙◌, append_assoc, arith}
use Rattle.std.specs.List.{concat}
use Rattle.std.proofs.lemmas.Bool.{ltb-false, ltb-true}
use Rattle.std.proofs.lemmas.List.{length-append, length-drop}
use Rattle.std.proofs.lemmas.Option.{same_Some}
use Rattle.mqtt_fields.specs.Reading.{◌>>=◌}
use Rattle.mqtt_fields.specs.Field.{IsBytes}
use Rattle.mqtt_fields.specs.Numbers.{vbi}
use Rattle.mqtt_fields.proofs.Laws.{bind_ok, guard_ok, ok_is}
use Rattle.mqtt_fields.proofs.NumberLaws.{vbi_is}
use Rattle.mqtt_packets.specs.declared.fault.PacketFault.{PacketFault}
use Rattle.mqtt_packets.specs.declared.fault.PacketFault.TheVariants as faults
use Rattle.mqtt_packets.specs.declared.head.Head.{Head}
use Rattle.mqtt_packets.specs.declared.packet.Packet.{Packet}
use Rattle.mqtt_packets.specs.Head.{first_byte, head_at}
use Rattle.mqtt_packets.specs.Packet.{body_of}
use Rattle.mqtt_packets.specs.Stream.{inside_at, with_head, header_after, header_at, body_at, packet_at, limited, step_at, Cut, cut_after, cut_within, cut}
use Rattle.mqtt_packets.specs.Cut.{Announces, IsWithin, Ends, IsCut}
use Rattle.mqtt_packets.specs.Laws.{CutIsSpelled, NeverFaulty}
use Rattle.mqtt_packets.proofs.HeadLaws.{head_found, head_again}
use Rattle.mqtt_packets.proofs.StreamLaws.{inside_ok, packet_take}
use Rattle.mqtt_packets.proofs.CutLaws.{within_limit, rest_fits, shorter}
use Rattle.mqtt_packets.proofs.FaultLaws.{waiting_begins}
use Rattle.mqtt_packets.proofs.NamedLaws.{never_out, never_large}

abbrev Header : Type 0
Header = Head × ℕ × List ℕ

-- how long the packet is, by its header
abbrev total_of : List ℕ → Header → ℕ
total_of bs h = length bs - length h.2 + h.1

-- what is announced is what the header says
announced : (bs : List ℕ) (total : ℕ) (a : Announces bs total) → header_at bs ≡ Ok (Some (a.head, a.remaining, a.more))
unfolding header_at
announced bs total a =
    let first : head_at (first_byte a.head) ≡ Some a.head = head_again a.head a.allowed in
    ap header_at a.parts ∙ rw (first, vbi_is.again a.remaining a.more a.short) refl

announced_total : (bs : List ℕ) (total : ℕ) (a : Announces bs total) → total_of bs (a.head, a.remaining, a.more) ≡ total
announced_total bs total a =
    let len : length bs ≡ suc (length (vbi.bytes a.remaining ++ a.more)) = ap length a.parts in
    let sum = a.sum in
    omega (arith, length-append (vbi.bytes a.remaining) a.more)

framed_ok : (x : Head) (o : Option (ℕ × List ℕ)) (h : Header) → with_head x o ≡ Some h → (x ≡ h.0) × (o ≡ Some (h.1, h.2))
framed_ok x None h e = absurd cc
framed_ok x (Some n) h e =
    let same : (x, n.0, n.1) ≡ h = same_Some (x, n.0, n.1) h e in
    (ap (λ (m : Header). m.0) same, ap (λ (m : Header). Some (m.1, m.2)) same)

announces_case : (b : ℕ) (bs : List ℕ) (o : Option Head) (h : Header) → IsBytes bs → head_at b ≡ o → header_after o bs ≡ Ok (Some h) → Announces (b ∷ bs) (total_of (b ∷ bs) h)
announces_case b bs None h fits first e = absurd cc
announces_case b bs (Some x) h fits first e =
    let o = bind_ok (inside_at (vbi.at bs)) (λ o. Ok (with_head x o)) (Some h) e in
    let f = framed_ok x o.0 h (ok_is (with_head x o.0) (Some h) o.2) in
    let at : vbi.at bs ≡ Ok (h.1, h.2) = inside_ok (vbi.at bs) (h.1, h.2) (o.1 ∙ ap (λ (m : Option (ℕ × List ℕ)). Ok m) f.1) in
    let v = vbi_is.takes bs (h.1, h.2) fits at in
    let own = head_found b x first in
    let len : length bs ≡ length (vbi.bytes h.1) + length h.2 = ap length v.0 ∙ length-append (vbi.bytes h.1) h.2 in
    record {
      head = x;
      remaining = h.1;
      more = h.2;
      parts = ap (λ (c : ℕ). c ∷ bs) own.0 ∙ ap (λ (ys : List ℕ). first_byte x ∷ ys) v.0;
      allowed = own.1;
      short = v.1;
      sum = omega arith;
    }

-- what a header says is announced
announces : (bs : List ℕ) (h : Header) → IsBytes bs → header_at bs ≡ Ok (Some h) → Announces bs (total_of bs h)
unfolding header_at
announces [] h fits e = absurd cc
announces (b ∷ bs) h fits e = announces_case b bs (head_at b) h (λ i. fits (suc i)) refl e

-- a header within the limit
record Passed (limit : ℕ) (bs : List ℕ) (o : Option Header) : Type 0 where
  read : header_at bs ≡ Ok o
  below : (h : Header) → o ≡ Some h → total_of bs h ≤ limit

passed_case : (limit : ℕ) (bs : List ℕ) (o p : Option Header) → header_at bs ≡ Ok o → limited limit bs o ≡ Ok p → (o ≡ p) × Passed limit bs p
passed_case limit bs None p e l =
    let same : None ≡ p = ok_is None p l in
    (same, record { read = e ∙ ap (λ (q : Option Header). Ok q) same; below = λ h s. absurd cc })
passed_case limit bs (Some n) p e l =
    let g = guard_ok (ltb limit (total_of bs n)) faults.TooLarge (Some n) p l in
    let le : total_of bs n ≤ limit = ltb-false limit (total_of bs n) g.0 in (
      g.1,
      record {
        read = e ∙ ap (λ (q : Option Header). Ok q) g.1;
        below = λ h s. let same : n ≡ h = same_Some n h (g.1 ∙ s) in subst (λ (k : Header). total_of bs k ≤ limit) same le;
      },
    )

-- a step that succeeded
step_passed : (limit : ℕ) (bs : List ℕ) (x : Option (Packet × List ℕ)) → step_at limit bs ≡ Ok x → (o : Option Header) × Passed limit bs o × (body_at o ≡ Ok x)
unfolding step_at
step_passed limit bs x e =
    let p = bind_ok (header_at bs >>= limited limit bs) body_at x e in
    let o = bind_ok (header_at bs) (limited limit bs) p.0 p.1 in
    let c = passed_case limit bs o.0 p.0 o.1 o.2 in
    (p.0, c.1, p.2)

same_header : (bs : List ℕ) (o : Option Header) (h : Header) → header_at bs ≡ Ok o → header_at bs ≡ Ok (Some h) → o ≡ Some h
same_header bs o h a b = ok_is o (Some h) (sym a ∙ b)

passed_within : (limit : ℕ) (bs : List ℕ) (o : Option Header) → Passed limit bs o → IsWithin limit bs
passed_within limit bs o p total a =
    let same = same_header bs o (a.head, a.remaining, a.more) p.read (announced bs total a) in
    let le = p.below (a.head, a.remaining, a.more) same in
    let sum = announced_total bs total a in
    omega arith

step_packet : (limit : ℕ) (bs : List ℕ) (o : Option Header) (x : Option (Packet × List ℕ)) → Passed limit bs o → body_at o ≡ Ok x → packet_at bs ≡ Ok x
unfolding packet_at
step_packet limit bs o x p e = rw p.read e

none_ends : (limit : ℕ) (bs : List ℕ) → IsBytes bs → step_at limit bs ≡ Ok None → Ends limit bs None
none_ends limit bs fits e =
    let s = step_passed limit bs None e in
    (waiting_begins bs fits (step_packet limit bs s.0 None s.1 s.2), passed_within limit bs s.0 s.1)

-- a packet's spelling is as long as its header says
whole_case : (t : Bool) (r : Result Packet PacketFault) (rest : List ℕ) (x : Packet × List ℕ) → cond t (Ok None) (r >>= λ p. Ok (Some (p, rest))) ≡ Ok (Some x) → (t ≡ false) × (x.1 ≡ rest)
whole_case true r rest x e = absurd cc
whole_case false (Ok p) rest x e =
    let same : (p, rest) ≡ x = same_Some (p, rest) x (ok_is (Some (p, rest)) (Some x) e) in
    (refl, sym (ap (λ (y : Packet × List ℕ). y.1) same))
whole_case false (Err f) rest x e = absurd cc

header_long : (bs : List ℕ) (h : Header) → IsBytes bs → header_at bs ≡ Ok (Some h) → length h.2 < length bs
header_long bs h fits e =
    let a = announces bs h fits e in
    let same = same_header bs (Some (a.head, a.remaining, a.more)) h (announced bs (total_of bs h) a) e in
    let rest : a.more ≡ h.2 = ap (λ (k : Header). k.2) (same_Some (a.head, a.remaining, a.more) h same) in
    let len : length bs ≡ suc (length (vbi.bytes a.remaining ++ a.more)) = ap length a.parts in
    let tail : length a.more ≡ length h.2 = ap length rest in
    omega (arith, length-append (vbi.bytes a.remaining) a.more)

some_long : (limit : ℕ) (bs : List ℕ) (o : Option Header) (x : Packet × List ℕ) → IsBytes bs → Passed limit bs o → body_at o ≡ Ok (Some x) → length bs - length x.1 ≤ limit
some_long limit bs None x fits p e = absurd cc
some_long limit bs (Some h) x fits p e =
    let w = whole_case (ltb (length h.2) h.1) (body_of h.0 (take h.1 h.2)) (drop h.1 h.2) x e in
    let long : h.1 ≤ length h.2 = ltb-false (length h.2) h.1 w.0 in
    let rest : length x.1 ≡ length (drop h.1 h.2) = ap length w.1 in
    let below : total_of bs h ≤ limit = p.below h refl in
    let more = header_long bs h fits p.read in
    omega (arith, length-drop h.1 h.2)

-- the fault of a step
fault_ends : (limit : ℕ) (bs : List ℕ) (f : PacketFault) → packet_at bs ≡ Err f → IsWithin limit bs → Ends limit bs (Some f)
fault_ends limit bs faults.Malformed e w = (e, w)
fault_ends limit bs faults.ProtocolError e w = (e, w)
fault_ends limit bs faults.WrongVersion e w = (e, w)
fault_ends limit bs faults.TooLarge e w = absurd (never_large bs e)
fault_ends limit bs faults.NoMemory e w = absurd (never_out bs e)

over_case : (limit : ℕ) (bs : List ℕ) (h : Header) (f : PacketFault) (t : Bool) → IsBytes bs → header_at bs ≡ Ok (Some h) → ltb limit (total_of bs h) ≡ t
    → (cond t (Err faults.TooLarge) (Ok (Some h)) >>= body_at) ≡ Err f → Ends limit bs (Some f)
unfolding packet_at
over_case limit bs h f true fits e l s =
    let same : faults.TooLarge ≡ f = cc in
    subst (λ (g : PacketFault). Ends limit bs (Some g)) same (total_of bs h, announces bs h fits e, ltb-true limit (total_of bs h) l)
over_case limit bs h f false fits e l s =
    let below : total_of bs h ≤ limit = ltb-false limit (total_of bs h) l in
    let passed : Passed limit bs (Some h) = record { read = e; below = λ k q. let same : h ≡ k = same_Some h k q in subst (λ (m : Header). total_of bs m ≤ limit) same below } in
    fault_ends limit bs f (rw e s) (passed_within limit bs (Some h) passed)

err_case : (limit : ℕ) (bs : List ℕ) (f : PacketFault) (r : Result (Option Header) PacketFault) → IsBytes bs → header_at bs ≡ r → (r >>= limited limit bs >>= body_at) ≡ Err f → Ends limit bs (Some f)
unfolding packet_at
err_case limit bs f (Ok None) fits e s = absurd cc
err_case limit bs f (Ok (Some h)) fits e s = over_case limit bs h f (ltb limit (total_of bs h)) fits e refl s
err_case limit bs f (Err d) fits e s =
    let same : d ≡ f = cc in
    fault_ends limit bs f (rw e (ap (λ (g : PacketFault). Err g) same)) (λ total a. let no = announced bs total a in absurd cc)

err_ends : (limit : ℕ) (bs : List ℕ) (f : PacketFault) → IsBytes bs → step_at limit bs ≡ Err f → Ends limit bs (Some f)
unfolding step_at
err_ends limit bs f fits e = err_case limit bs f (header_at bs) fits refl e

step_cut : (limit : ℕ) (bs : List ℕ) (next : List ℕ → Cut) (r : Result (Option (Packet × List ℕ)) PacketFault) → IsBytes bs → step_at limit bs ≡ r
    → ((x : Packet × List ℕ) → r ≡ Ok (Some x) → IsCut limit x.1 (next x.1)) → IsCut limit bs (cut_after bs next r)
step_cut limit bs next (Ok None) fits e later = record { spellings = []; whole = refl; spelled = tt; ends = none_ends limit bs fits e }
step_cut limit bs next (Err f) fits e later = record { spellings = []; whole = refl; spelled = tt; ends = err_ends limit bs f fits e }
step_cut limit bs next (Ok (Some x)) fits e later =
    let s = packet_take bs x fits (within_limit limit bs x e) in
    let p = step_passed limit bs (Some x) e in
    let long = some_long limit bs p.0 x fits p.1 p.2 in
    let len : length bs ≡ length s.0 + length x.1 = ap length s.1 ∙ length-append s.0 x.1 in
    let c = later x refl in
    record {
      spellings = s.0 ∷ c.spellings;
      whole = s.1 ∙ ap (λ (ys : List ℕ). s.0 ++ ys) c.whole ∙ sym (append_assoc s.0 (concat c.spellings) (next x.1).rest);
      spelled = (s.2, omega arith, c.spelled);
      ends = c.ends;
    }

spelled_within : (limit k : ℕ) (bs : List ℕ) → IsBytes bs → length bs < k → IsCut limit bs (cut_within limit k bs)
unfolding cut_within
spelled_within limit zero bs fits lt = absurd (omega arith)
spelled_within limit (suc k) bs fits lt = step_cut limit bs (λ rest. cut_within limit k rest) (step_at limit bs) fits refl
    (λ x e. let less = shorter limit bs x fits e in spelled_within limit k x.1 (rest_fits limit bs x fits e) (omega arith))

pub cut_is_spelled : CutIsSpelled
cut_is_spelled limit stream fits = spelled_within limit (suc (length stream)) stream fits (omega arith)

pub never_faulty : NeverFaulty
never_faulty = record { no_want_of_memory = never_out; no_limit = never_large }
