-- What is durable of a session beside its copies stays sound.
use Rattle.std.proofs.Common.{◌≡◌, ℕ, ◌<◌, ◌≤◌, ◌^◌, Bool, true, false, List, [], ◌∷◌, length, Option, Some, None, refl, sym, ap, arith, inl, inr}
use Rattle.std.specs.Prelude.{◌==◌, IfSome, nat_lt, unwrap_or}
use Rattle.std.specs.BTreeMap.{is_at, insert_entry}
use Rattle.std.specs.List.{AllByRecursion, list_all}
use Rattle.std.specs.Map.{remove_entry}
use Rattle.std.specs.Ordering.{nat_cmp}
use Rattle.std.specs.declared.cmp.Ordering.{Ordering}
use Rattle.std.specs.declared.cmp.Ordering.TheVariants.{Less, Equal, Greater}
use Rattle.std.proofs.lemmas.Bool.{cases_Bool, and_from, and_parts, lt-ltb}
use Rattle.std.proofs.lemmas.Cmp.{ranked}
use Rattle.mqtt_fields.specs.declared.options.Qos.{Qos}
use Rattle.mqtt_fields.specs.declared.options.Qos.TheVariants.{AtMostOnce, AtLeastOnce, ExactlyOnce}
use Rattle.mqtt_fields.specs.Numbers.{IsText, IsBlob}
use Rattle.mqtt_fields.specs.Properties.{first_four}
use Rattle.mqtt_message.specs.Spelling.{OptionalFits, flag}
use Rattle.mqtt_message.specs.Parts.{qos}
use Rattle.mqtt_packets.specs.declared.connect.Will.{Will}
use Rattle.mqtt_packets.specs.declared.packet.Packet.{Packet}
use Rattle.mqtt_packets.specs.declared.packet.Packet.TheVariants as packets
use Rattle.mqtt_packets.specs.Written.{HasSpelling}
use Rattle.mqtt_message.specs.Accepted.{IsPublishable}
use Rattle.qos_handshakes.specs.Incoming.{Received, identifiers_of, of_before, of_identifiers, rise}
use Rattle.qos_handshakes.proofs.RiseLaws.{rise-before, rise-from, rise-parts}
use Rattle.mqtt_sessions.specs.declared.kept.Phase.{Phase}
use Rattle.mqtt_sessions.specs.declared.kept.Phase.TheVariants.{Connected, Closed}
use Rattle.mqtt_sessions.specs.Ending.{will_after}
use Rattle.mqtt_sessions.specs.Saved.{closed_of, phase_of, main_of}
use Rattle.mqtt_sessions.specs.State.{IsMoment, Kept, State, IsPublishableIf}
use Rattle.law_sessions.specs.Runs.{Event, connects, queues, rooms, takes, answers, closes, ticks, finishes, loses, Reacts}
use Rattle.session_rows.specs.Durable.{Durable, IsDurable, IsMomentIf, IsSound}
use Rattle.session_rows.specs.Fields.{Main, main, will, closed}
use Rattle.session_rows.proofs.RiseLaws.{rise-length}
use Rattle.law_sessions.specs.Sound.{IsSoundEvent}
use Rattle.law_sessions.proofs.SpelledLaws.{disconnect-four, publish-counted, publish-small}
use Rattle.law_sessions.proofs.TurnLaws.{Turns, TurnsPacket, turned, expiry_by}

-- a will that has rows, and can be published
pub record HasRow (o : Option Will) : Type 0 where
  pub publishable : IsPublishableIf o
  pub fits : OptionalFits will o

-- identifiers are from 1 on
abbrev pub AreCounted : List ℕ → Type 0
AreCounted ids = AllByRecursion (λ (id : ℕ). 1 ≤ id) ids

pub record Rest (k : Kept) (i : Received) : Type 0 where
  pub client : IsText k.client
  pub expiry : k.expiry < 2 ^ 32
  pub moment : IsMoment k.phase
  pub will : HasRow k.will
  pub rises : rise (identifiers_of i) ≡ true
  pub counted : AreCounted (identifiers_of i)

-- ---- identifiers that rise
module _ (p : ℕ → Bool) where
  all-put : (id : ℕ) (is : Received) → p id ≡ true → list_all p (identifiers_of is) ≡ true → list_all p (identifiers_of (insert_entry nat_cmp is id true)) ≡ true
  all-put id [] own all = and_from (p id) true own refl
  all-put id (e ∷ es) own all =
      let parts = and_parts (p e.0) (list_all p (identifiers_of es)) all in
      by (nat_cmp id e.0) refl parts.0 (all-put id es own parts.1)
    where
      by : (o : Ordering) → nat_cmp id e.0 ≡ o → p e.0 ≡ true → list_all p (identifiers_of (insert_entry nat_cmp es id true)) ≡ true → list_all p (identifiers_of (insert_entry nat_cmp (e ∷ es) id true)) ≡ true
      by Less c first more = rw c (and_from (p id) (list_all p (identifiers_of (e ∷ es))) own all)
      by Equal c first more = rw c all
      by Greater c first more = rw c (and_from (p e.0) (list_all p (identifiers_of (insert_entry nat_cmp es id true))) first more)

  all-left : (test : ℕ → Bool) (is : Received) → list_all p (identifiers_of is) ≡ true → list_all p (identifiers_of (remove_entry test is)) ≡ true
  all-left test [] all = refl
  all-left test (e ∷ es) all =
      let parts = and_parts (p e.0) (list_all p (identifiers_of es)) all in
      elim (cases_Bool (test e.0)) [
        | inl t ↦ rw t parts.1
        | inr f ↦ rw f (and_from (p e.0) (list_all p (identifiers_of (remove_entry test es))) parts.0 (all-left test es parts.1))
      ]

rise-put : (id : ℕ) (is : Received) → id < 65536 → rise (identifiers_of is) ≡ true → rise (identifiers_of (insert_entry nat_cmp is id true)) ≡ true
rise-put id [] small r = rise-from id [] small refl refl
rise-put id (e ∷ es) small r =
    let parts = rise-parts e.0 (identifiers_of es) r in
    by (nat_cmp id e.0) refl parts.0 parts.1 (rise-put id es small parts.2)
  where
    by : (o : Ordering) → nat_cmp id e.0 ≡ o → e.0 < 65536 → list_all (nat_lt e.0) (identifiers_of es) ≡ true → rise (identifiers_of (insert_entry nat_cmp es id true)) ≡ true → rise (identifiers_of (insert_entry nat_cmp (e ∷ es) id true)) ≡ true
    by Less c least above more = rw c (rise-from id (identifiers_of (e ∷ es)) small (rise-before id e.0 (identifiers_of es) (ranked id e.0 Less (sym c)) r) r)
    by Equal c least above more = rw c r
    by Greater c least above more =
        let past : e.0 < id = ranked id e.0 Greater (sym c) in
        rw c (rise-from e.0 (identifiers_of (insert_entry nat_cmp es id true)) least (all-put (nat_lt e.0) id es (lt-ltb e.0 id past) above) more)

rise-left : (test : ℕ → Bool) (is : Received) → rise (identifiers_of is) ≡ true → rise (identifiers_of (remove_entry test is)) ≡ true
rise-left test [] r = refl
rise-left test (e ∷ es) r =
    let parts = rise-parts e.0 (identifiers_of es) r in
    elim (cases_Bool (test e.0)) [
      | inl t ↦ rw t parts.2
      | inr f ↦ rw f (rise-from e.0 (identifiers_of (remove_entry test es)) parts.0 (all-left (nat_lt e.0) test es parts.1) (rise-left test es parts.2))
    ]

before-same : (is : Received) → identifiers_of (of_before is) ≡ identifiers_of is
before-same [] = refl
before-same (e ∷ es) = ap (λ (r : List ℕ). e.0 ∷ r) (before-same es)

-- ---- identifiers from 1 on
counted-put : (id : ℕ) (is : Received) → 1 ≤ id → AreCounted (identifiers_of is) → AreCounted (identifiers_of (insert_entry nat_cmp is id true))
counted-put id [] least c = (least, tt)
counted-put id (e ∷ es) least c = by (nat_cmp id e.0) refl (counted-put id es least c.1)
  where
    by : (o : Ordering) → nat_cmp id e.0 ≡ o → AreCounted (identifiers_of (insert_entry nat_cmp es id true)) → AreCounted (identifiers_of (insert_entry nat_cmp (e ∷ es) id true))
    by Less is more = rw is (least, c)
    by Equal is more = rw is c
    by Greater is more = rw is (c.0, more)

counted-left : (test : ℕ → Bool) (is : Received) → AreCounted (identifiers_of is) → AreCounted (identifiers_of (remove_entry test is))
counted-left test [] c = tt
counted-left test (e ∷ es) c = elim (cases_Bool (test e.0)) [ inl t ↦ rw t c.1 | inr f ↦ rw f (c.0, counted-left test es c.1) ]

-- ---- a will's row
qos-fits : (q : Qos) → qos.Fits q
qos-fits AtMostOnce = omega arith
qos-fits AtLeastOnce = omega arith
qos-fits ExactlyOnce = omega arith

flag-fits : (b : Bool) → flag.Fits b
flag-fits true = omega arith
flag-fits false = omega arith

will-fits : (w : Will) → IsPublishable w → IsBlob w.payload → will.Fits w
unfolding will
will-fits w p b = (p.name.fits, ((omega (arith, b), lt-ltb (length w.payload) 65536 b), (p.properties.fits, (qos-fits w.qos, flag-fits w.retain))))

row-of : (o : Option Will) → IsPublishableIf o → IfSome o (λ w. IsBlob w.payload) → HasRow o
row-of None p b = record { publishable = tt; fits = tt }
row-of (Some w) p b = record { publishable = p; fits = will-fits w p b }

no-row : HasRow None
no-row = record { publishable = tt; fits = tt }

row-after : (code : ℕ) (o : Option Will) → HasRow o → HasRow (will_after code o)
row-after code o h = elim (cases_Bool (code == 0)) [ inl t ↦ rw t no-row | inr f ↦ rw f h ]

-- ---- events
expiry-or : (o : Option ℕ) → IfSome o (λ n. n < 2 ^ 32) → unwrap_or o 0 < 2 ^ 32
expiry-or None h = omega arith
expiry-or (Some n) h = h

expiry-by : (o : Option ℕ) (before : ℕ) → IfSome o (λ n. n < 2 ^ 32) → before < 2 ^ 32 → expiry_by o before < 2 ^ 32
expiry-by None before h b = b
expiry-by (Some n) before h b = h

packets-keep : (p : Packet) → HasSpelling p → TurnsPacket Rest p
packets-keep (packets.Publish p) s = λ k i h twice. record {
  client = h.client;
  expiry = h.expiry;
  moment = h.moment;
  will = h.will;
  rises = rise-put p.identifier i (publish-small p s) h.rises;
  counted = counted-put p.identifier i (publish-counted p s twice) h.counted;
}
packets-keep (packets.Puback a) s = tt
packets-keep (packets.Pubrec a) s = tt
packets-keep (packets.Pubrel a) s = λ k i h. record {
  client = h.client;
  expiry = h.expiry;
  moment = h.moment;
  will = h.will;
  rises = rise-left (is_at (nat_cmp a.identifier)) i h.rises;
  counted = counted-left (is_at (nat_cmp a.identifier)) i h.counted;
}
packets-keep (packets.Pubcomp a) s = tt
packets-keep (packets.Subscribe p) s = tt
packets-keep (packets.Unsubscribe p) s = tt
packets-keep packets.Pingreq s = tt
packets-keep (packets.Disconnect p) s = λ k i h. record {
  client = h.client;
  expiry = expiry-by (first_four 17 p.properties) k.expiry (disconnect-four p s) h.expiry;
  moment = h.moment;
  will = row-after p.reason k.will h.will;
  rises = h.rises;
  counted = h.counted;
}
packets-keep (packets.Connect p) s = tt
packets-keep (packets.Connack p) s = tt
packets-keep (packets.Suback p) s = tt
packets-keep (packets.Unsuback p) s = tt
packets-keep packets.Pingresp s = tt
packets-keep (packets.Auth p) s = tt

events-keep : (e : Event) → IsSoundEvent e → Turns Rest e
events-keep (connects c continued room now) s = λ k i h. record { client = h.client; expiry = expiry-or (first_four 17 c.properties) s.expiry; moment = tt; will = row-of c.will s.publishable s.payload; rises = rw (before-same i) h.rises; counted = rw (before-same i) h.counted }
events-keep (queues d now) s = tt
events-keep (rooms bytes now) s = tt
events-keep (takes p now room) s = packets-keep p s
events-keep (answers id codes) s = tt
events-keep (closes now) s = λ k i h. record { client = h.client; expiry = h.expiry; moment = s; will = h.will; rises = h.rises; counted = h.counted }
events-keep (ticks now) s = λ k i h. record { client = h.client; expiry = h.expiry; moment = h.moment; will = no-row; rises = h.rises; counted = h.counted }
events-keep (finishes now) s = λ k i h. record { client = h.client; expiry = h.expiry; moment = h.moment; will = no-row; rises = h.rises; counted = h.counted }
events-keep loses s = λ k i h. record { client = h.client; expiry = h.expiry; moment = h.moment; will = h.will; rises = rw (before-same i) h.rises; counted = rw (before-same i) h.counted }

pub rest-after : (e : Event) (old : State) (r : _) (new : State) → IsSoundEvent e → Reacts old e r new → Rest old.kept old.incoming → Rest new.kept new.incoming
rest-after e old r new s h p = turned Rest e old r new (events-keep e s) h p

-- ---- the session's own row
closed-fits : (p : Phase) → IsMoment p → closed.Fits (closed_of p)
closed-fits Connected m = (omega arith, omega arith)
closed-fits (Closed at) m = (omega arith, omega (arith, m))

ids-fit : (l : List ℕ) → rise l ≡ true → AllByRecursion (λ (n : ℕ). n < 2 ^ 16) l
ids-fit [] r = tt
ids-fit (i ∷ is) r = let parts = rise-parts i is r in (omega (arith, parts.0), ids-fit is parts.2)

pub main-fits : (s : State) → Rest s.kept s.incoming → s.outbox.next_place < 2 ^ 64 → main.Fits (main_of s)
unfolding main
main-fits s r small =
    let few = rise-length (identifiers_of s.incoming) r.rises in
    (r.expiry, (closed-fits s.kept.phase r.moment, (r.will.fits, ((omega (arith, few), ids-fit (identifiers_of s.incoming) r.rises), small))))

moment-if : (p : Phase) → IsMoment p → IsMomentIf (closed_of p)
moment-if Connected m = tt
moment-if (Closed at) m = m

pub main-sound : (s : State) → Rest s.kept s.incoming → IsSound (main_of s)
main-sound s r = record { publishable = r.will.publishable; moment = moment-if s.kept.phase r.moment }

-- ---- where it begins
pub rest-begun : (client : List ℕ) → IsText client → Rest (record { client = client; expiry = 0; phase = Closed 0; will = None }) []
rest-begun client t = record { client = t; expiry = omega arith; moment = omega arith; will = no-row; rises = refl; counted = tt }

if-moment : (o : Option ℕ) → IsMomentIf o → IsMoment (phase_of o)
if-moment None m = tt
if-moment (Some at) m = m

identifiers-back : (l : List ℕ) → identifiers_of (of_identifiers l) ≡ l
identifiers-back [] = refl
identifiers-back (i ∷ is) = ap (λ (r : List ℕ). i ∷ r) (identifiers-back is)

main-parts : (m : Main) → main.Fits m → (m.expiry < 2 ^ 32) × OptionalFits will m.will
unfolding main
main-parts m f = (f.0, f.1.1.0)

pub rest-opened : (d : Durable) → IsDurable d → Rest (record { client = d.client; expiry = d.main.expiry; phase = phase_of d.main.closed; will = d.main.will }) (of_identifiers d.main.incoming)
rest-opened d i =
    let p = main-parts d.main i.form.main in
    record { client = i.form.client; expiry = p.0; moment = if-moment d.main.closed i.sound.moment; will = record { publishable = i.sound.publishable; fits = p.1 }; rises = rw (identifiers-back d.main.incoming) i.rise; counted = rw (identifiers-back d.main.incoming) i.reachable.identifiers }
