-- Packets that are sent, one after another.
use Rattle.std.proofs.Common.{◌≡◌, drop, length, ℕ, zero, suc, ◌+◌, ◌-◌, ◌<◌, ◌≤◌, Bool, true, false, List, ◌++◌, Option, Some, None, Result, Ok, Err, refl, sym, ap, ◌∙◌, append_assoc, arith}
use Rattle.std.proofs.lemmas.List.{append-nil}
use Rattle.mqtt_packets.specs.declared.fault.PacketFault.{PacketFault}
use Rattle.mqtt_packets.specs.declared.fault.PacketFault.TheVariants as faults
use Rattle.mqtt_packets.specs.declared.packet.Packet.{Packet}
use Rattle.mqtt_packets.specs.declared.packet.Packet.TheVariants as packets
use Rattle.mqtt_packets.specs.declared.publish.Publish.{Publish}
use Rattle.mqtt_packets.specs.Reading.{Fails}
use Rattle.mqtt_packets.specs.Stream.{packet_at, rest_at}
use Rattle.mqtt3_packets.specs.declared.level.Level.{Level}
use Rattle.mqtt3_packets.specs.Cut.{IsPassed}
use Rattle.mqtt3_packets.specs.Written.{ends, written}
use Rattle.door_mqtt3.specs.declared.sending.Next.TheVariants as nexts
use Rattle.door_mqtt3.specs.Sending.{Exchanges, IsNext, Sent, closed_by, none_sent, sent_as, sent_for, sent_then, sent_within}

more : (n i : ℕ) → i < n → n - i ≡ suc (n - (i + 1))
more n i lt = omega arith

over : (level : Level) (exchanges : Exchanges) (bs : List ℕ) → sent_within zero level exchanges bs ≡ none_sent exchanges false
unfolding sent_within
over level exchanges bs = refl

nothing : (s : List ℕ) (exchanges : Exchanges) (b : Bool) → sent_then s (none_sent exchanges b) ≡ sent_as s exchanges b
nothing s exchanges b = ap (λ (xs : List ℕ). sent_as xs exchanges b) (append-nil s)

joined : (s w : List ℕ) (r : Sent) → sent_then s (sent_then w r) ≡ sent_then (s ++ w) r
joined s w r = ap (λ (xs : List ℕ). sent_as xs r.exchanges r.ends) (sym (append_assoc s w r.bytes))

-- a fault that isn't want of memory is that of the bytes
pub fails_is : {Y : Type 0} (f : PacketFault) (r : Result Y PacketFault) → (f ≡ faults.NoMemory → ⊥) → Fails f r → r ≡ Err f
fails_is faults.NoMemory r not h = absurd (not refl)
fails_is faults.Malformed r not h = h
fails_is faults.ProtocolError r not h = h
fails_is faults.TooLarge r not h = h
fails_is faults.WrongVersion r not h = h

pub found_at : (bs : List ℕ) (o : Option (Packet × ℕ)) (p : Packet) (used : ℕ) (r : Result (Option (Packet × List ℕ)) PacketFault) → o ≡ Some (p, used) → r ≡ Ok (rest_at bs o) → r ≡ Ok (Some (p, drop used bs))
found_at bs o p used r is e = e ∙ ap (λ (x : Option (Packet × ℕ)). Ok (rest_at bs x)) is

pub none_found : (bs : List ℕ) (o : Option (Packet × ℕ)) (r : Result (Option (Packet × List ℕ)) PacketFault) → o ≡ None → r ≡ Ok (rest_at bs o) → r ≡ Ok None
none_found bs o r is e = e ∙ ap (λ (x : Option (Packet × ℕ)). Ok (rest_at bs x)) is

-- what the packet in front comes to
pub next_put : (level : Level) (bs : List ℕ) (exchanges : Exchanges) (p : Packet) (used : ℕ) (was now : List ℕ) (new : Exchanges) → used ≤ length bs → packet_at bs ≡ Ok (Some (p, drop used bs)) → ends level p ≡ false
    → now ≡ was ++ written level p → new ≡ closed_by p exchanges → IsNext level bs exchanges new was now (nexts.Put used)
next_put level bs exchanges p used was now new fits e goes is closed = (
  fits,
  λ next. rw (e, goes) (joined was (written level p) (next (closed_by p exchanges) (drop used bs))
      ∙ ap (λ (xs : List ℕ). sent_then xs (next (closed_by p exchanges) (drop used bs))) (sym is) ∙ ap (λ (x : Exchanges). sent_then now (next x (drop used bs))) (sym closed)),
)

pub next_ends : (level : Level) (bs : List ℕ) (exchanges : Exchanges) (p : Packet) (after was : List ℕ) → packet_at bs ≡ Ok (Some (p, after)) → ends level p ≡ true → IsNext level bs exchanges exchanges was was nexts.Ends
next_ends level bs exchanges p after was e stops = λ next. rw (e, stops) (nothing was exchanges true)

pub next_none : (level : Level) (bs : List ℕ) (exchanges : Exchanges) (was : List ℕ) → packet_at bs ≡ Ok None → IsNext level bs exchanges exchanges was was nexts.Stops
next_none level bs exchanges was e = λ next. rw e (nothing was exchanges false)

pub next_fault : (level : Level) (bs : List ℕ) (exchanges : Exchanges) (was : List ℕ) (f : PacketFault) → packet_at bs ≡ Err f → IsNext level bs exchanges exchanges was was nexts.Stops
next_fault level bs exchanges was f e = λ next. rw e (nothing was exchanges false)

goes : (level : Level) (p : Publish) → ends level (packets.Publish p) ≡ false
unfolding ends
goes level p = refl

pub next_passed : (level : Level) (bs : List ℕ) (exchanges : Exchanges) (used : ℕ) (was now : List ℕ) → IsPassed bs used was now → IsNext level bs exchanges exchanges was now (nexts.Put used)
next_passed level bs exchanges used was now h =
    next_put level bs exchanges (packets.Publish h.publish) used was now exchanges h.fits h.found (goes level h.publish) (h.sent level) refl

-- what is sent so far, and what is to be sent of the rest
abbrev pub IsSending : Level → Exchanges → List ℕ → List ℕ → ℕ → List ℕ → Exchanges → List ℕ → ℕ → Type 0
IsSending level begun old bs n now exchanges rest i = sent_then old (sent_within n level begun bs) ≡ sent_then now (sent_within (n - i) level exchanges rest)

pub begins : (level : Level) (exchanges : Exchanges) (old bs : List ℕ) (n : ℕ) → IsSending level exchanges old bs n old exchanges bs 0
begins level exchanges old bs n = let same : n ≡ n - 0 = omega arith in ap (λ (k : ℕ). sent_then old (sent_within k level exchanges bs)) same

one_more : (level : Level) (exchanges : Exchanges) (now rest : List ℕ) (n i : ℕ) → i < n
    → sent_then now (sent_within (n - i) level exchanges rest) ≡ sent_then now (sent_for level exchanges (λ left after. sent_within (n - (i + 1)) level left after) (packet_at rest))
unfolding sent_within
one_more level exchanges now rest n i lt = ap (λ (k : ℕ). sent_then now (sent_within k level exchanges rest)) (more n i lt)

module _ (level : Level) (begun : Exchanges) (old bs : List ℕ) (n : ℕ) (now : List ℕ) (exchanges : Exchanges) (rest : List ℕ) (i : ℕ) where
  pub goes_on : (used : ℕ) (after now' : List ℕ) (exchanges' : Exchanges) → i < n → IsNext level rest exchanges exchanges' now now' (nexts.Put used) → after ≡ drop used rest
      → IsSending level begun old bs n now exchanges rest i → IsSending level begun old bs n now' exchanges' after (i + 1)
  goes_on used after now' exchanges' lt next is h =
      h ∙ one_more level exchanges now rest n i lt ∙ next.1 (λ left xs. sent_within (n - (i + 1)) level left xs)
      ∙ ap (λ (xs : List ℕ). sent_then now' (sent_within (n - (i + 1)) level exchanges' xs)) (sym is)

  pub ends_at : (now' : List ℕ) (exchanges' : Exchanges) → i < n → IsNext level rest exchanges exchanges' now now' nexts.Ends → IsSending level begun old bs n now exchanges rest i
      → sent_as now' exchanges' true ≡ sent_then old (sent_within n level begun bs)
  ends_at now' exchanges' lt next h = sym (h ∙ one_more level exchanges now rest n i lt ∙ next (λ left xs. sent_within (n - (i + 1)) level left xs))

  pub stops_at : (now' : List ℕ) (exchanges' : Exchanges) → i < n → IsNext level rest exchanges exchanges' now now' nexts.Stops → IsSending level begun old bs n now exchanges rest i
      → sent_as now' exchanges' false ≡ sent_then old (sent_within n level begun bs)
  stops_at now' exchanges' lt next h = sym (h ∙ one_more level exchanges now rest n i lt ∙ next (λ left xs. sent_within (n - (i + 1)) level left xs))

  pub all_done : n - i ≡ 0 → IsSending level begun old bs n now exchanges rest i → sent_as now exchanges false ≡ sent_then old (sent_within n level begun bs)
  all_done none h = sym (h ∙ ap (λ (k : ℕ). sent_then now (sent_within k level exchanges rest)) none ∙ ap (sent_then now) (over level exchanges rest) ∙ nothing now exchanges false)
