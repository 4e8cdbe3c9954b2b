-- What is sent again is what was sent first under its identifier.
use Rattle.std.proofs.Common.{◌≡◌, ◌≢◌, ℕ, Bool, true, false, cond, not, List, [], ◌∷◌, ◌++◌, Option, Some, None, refl, sym, ◌∙◌, inl, inr}
use Rattle.std.specs.Prelude.{◌==◌}
use Rattle.std.proofs.lemmas.Bool.{cases_Bool, cases_eq, eq-eqb, ne_eqb, both_ways, and_parts, false≢true}
use Rattle.std.specs.List.{AllByRecursion}
use Rattle.qos_handshakes.specs.declared.answers.Ack.TheVariants.{Done, Unknown}
use Rattle.qos_handshakes.specs.declared.answers.Rec.{Rec}
use Rattle.qos_handshakes.specs.declared.answers.Rec.TheVariants as rec
use Rattle.qos_handshakes.specs.declared.copies.Entry.{Entry}
use Rattle.qos_handshakes.specs.declared.copies.Stage.{Stage}
use Rattle.qos_handshakes.specs.declared.copies.Stage.TheVariants.{Waiting, Published, Released}
use Rattle.mqtt_message.specs.declared.delivery.Delivery.{Delivery}
use Rattle.qos_handshakes.specs.Entries.{Entries, stage_has, has_id, find_id, drop_id, write_id, as_released}
use Rattle.qos_handshakes.specs.Outbox.{Outbox, is_owed, is_published, is_released, after_resend, ReceivedIf, empty_outbox}
use Rattle.law_handshakes.specs.Runs.{Step, offered, acknowledged, completed, received, resumed, listed, asked, lost, Takes, Run}
use Rattle.law_handshakes.specs.Lists.{Without}
use Rattle.law_handshakes.specs.Numbers.{AreNumbered, NoneHas}
use Rattle.law_handshakes.specs.Resends.{SentCopy, first_sends_of, resends_of, Answers, published_part, published, owed, open_after, ResendsOpen, KeepsResendsOpen}
use Rattle.law_handshakes.proofs.OrderLaws.{resent-dup}
use Rattle.qos_handshakes.proofs.EntryLaws.{none-head, none-tail, none-cons}
use Rattle.law_handshakes.proofs.NumberLaws.{numbered-step}
use Rattle.law_handshakes.proofs.ChosenLaws.{append-nil}
use Rattle.law_handshakes.proofs.LaidLaws.{AreLaid, laid-resent, laid-step, chosen-first}
use Rattle.law_handshakes.proofs.ResendLaws.{published-waits, published-resent, published-step, owed-step}
use Rattle.law_handshakes.proofs.QuotaLaws.{numbered-later}

-- ---- what holds of all elements
pub all-left : {A : Type 0} (P Q : A → Type 0) (xs ys : List A) → AllByRecursion Q xs → Without P xs ys → AllByRecursion Q ys
all-left P Q [] ys all h = rw h tt
all-left P Q (x ∷ xs) ys all (inl h) = all-left P Q xs ys all.1 h.1
all-left P Q (x ∷ xs) ys all (inr h) = rw h.1 (all.0, all-left P Q xs h.0 all.1 h.2)

pub all-both : {A : Type 0} (Q : A → Type 0) (xs ys : List A) → AllByRecursion Q xs → AllByRecursion Q ys → AllByRecursion Q (xs ++ ys)
all-both Q [] ys h k = k
all-both Q (x ∷ xs) ys h k = (h.0, all-both Q xs ys h.1 k)

pub all-head : {A : Type 0} (Q : A → Type 0) (xs ys : List A) → AllByRecursion Q (xs ++ ys) → AllByRecursion Q xs
all-head Q [] ys h = tt
all-head Q (x ∷ xs) ys h = (h.0, all-head Q xs ys h.1)

pub all-tail : {A : Type 0} (Q : A → Type 0) (xs ys : List A) → AllByRecursion Q (xs ++ ys) → AllByRecursion Q ys
all-tail Q [] ys h = h
all-tail Q (x ∷ xs) ys h = all-tail Q xs ys h.1

pub all-join : {A : Type 0} (Q R S : A → Type 0) → ((x : A) → Q x → R x → S x) → (xs : List A) → AllByRecursion Q xs → AllByRecursion R xs → AllByRecursion S xs
all-join Q R S f [] h k = tt
all-join Q R S f (x ∷ xs) h k = (f x h.0 k.0, all-join Q R S f xs h.1 k.1)

-- ---- the exchanges of other identifiers
abbrev pub Other : ℕ → SentCopy → Type 0
Other id x = x.0 ≢ id

part-other : (id : ℕ) (s : Stage) (here : Bool) (c : Delivery) → stage_has id s ≡ false → AllByRecursion (Other id) (published_part (record { stage = s; here = here; delivery = c }))
part-other id Waiting here c h = tt
part-other id (Published i) here c h = (λ same. both_ways (i == id) h (eq-eqb i id same), tt)
part-other id (Released i order) here c h = tt

all-other : (id : ℕ) (es : Entries) → NoneHas id es → AllByRecursion (Other id) (published es)
all-other id [] h = tt
all-other id (e ∷ es) h = all-both (Other id) (published_part e.1) (published es) (part-other id e.1.stage e.1.here e.1.delivery (none-head id e es h)) (all-other id es (none-tail id e es h))

pub none-dropped : (id : ℕ) (es : Entries) → AreNumbered es → NoneHas id (drop_id id es)
none-dropped id [] n = refl
none-dropped id (e ∷ es) n = elim (cases_Bool (has_id id e.1)) [
  | inl h ↦ rw h (numbered-later id e.1.stage es h n.0)
  | inr h ↦ rw h (none-cons id e (drop_id id es) h (none-dropped id es n.1))
]

other-released : (id order : ℕ) (es : Entries) → AreNumbered es → AllByRecursion (Other id) (published (write_id (as_released id order) id es))
other-released id order [] n = tt
other-released id order (e ∷ es) n = elim (cases_Bool (has_id id e.1)) [
  | inl h ↦ rw h (all-other id es (numbered-later id e.1.stage es h n.0))
  | inr h ↦ rw h (all-both (Other id) (published_part e.1) (published (write_id (as_released id order) id es)) (part-other id e.1.stage e.1.here e.1.delivery h) (other-released id order es n.1))
]

part-released : (id : ℕ) (s : Stage) (here : Bool) (c : Delivery) → is_released s ≡ true → AllByRecursion (Other id) (published_part (record { stage = s; here = here; delivery = c }))
part-released id Waiting here c h = tt
part-released id (Published i) here c h = absurd (false≢true h)
part-released id (Released i order) here c h = tt

other-known : (id : ℕ) (x : Entry) (es : Entries) → AreNumbered es → find_id id es ≡ Some x → is_released x.stage ≡ true → AllByRecursion (Other id) (published es)
other-known id x [] n is r = tt
other-known id x (e ∷ es) n is r = elim (cases_Bool (has_id id e.1)) [
  | inl h ↦
      let f : Some e.1 ≡ Some x = rw h at is in let same : e.1 ≡ x = cc in
      all-both (Other id) (published_part e.1) (published es) (part-released id e.1.stage e.1.here e.1.delivery (rw same r)) (all-other id es (numbered-later id e.1.stage es h n.0))
  | inr h ↦ all-both (Other id) (published_part e.1) (published es) (part-other id e.1.stage e.1.here e.1.delivery h) (other-known id x es n.1 (rw h at is) r)
]

-- ---- the copy of an exchange without PUBREC
abbrev pub IsOpen : ℕ → Option Delivery → SentCopy → Type 0
IsOpen id o x = x.0 ≡ id → o ≡ Some x.1

owed-open : (Q : SentCopy → Type 0) (es : Entries) → AllByRecursion Q (published es) → AllByRecursion Q (owed es)
owed-open Q [] h = tt
owed-open Q (e ∷ es) h = elim (cases_Bool (is_owed e.1)) [
  | inl t ↦ let p = (and_parts (is_published e.1.stage) (not e.1.here) t).0 in let k = rw p at h in rw t (k.0, owed-open Q es k.1)
  | inr t ↦ rw t (owed-open Q es (all-tail Q (published_part e.1) (published es) h))
]

no-longer : (id i : ℕ) (o : Option Delivery) (fs : Entries) → AllByRecursion (IsOpen id o) (published fs) → AllByRecursion (Other i) (published fs) → AllByRecursion (IsOpen id (cond (i == id) None o)) (published fs)
no-longer id i o fs h k = elim (cases_eq i id) [
  | inl same ↦ rw (eq-eqb i id same) (all-join (IsOpen id o) (Other i) (IsOpen id None) (λ x a b is. absurd (b (is ∙ sym same))) (published fs) h k)
  | inr apart ↦ rw (ne_eqb i id apart) h
]

-- without a first send
open-quiet : (id : ℕ) (o : Option Delivery) (old new : Outbox) (s : Step) → first_sends_of s ≡ [] → Takes old s new → AreLaid old.copies → AllByRecursion (IsOpen id o) (published old.copies) → AllByRecursion (IsOpen id o) (published new.copies)
open-quiet id o old new s none t h all =
    all-left (Answers s) (IsOpen id o) (published old.copies) (published new.copies) all (rw (none, append-nil (published old.copies)) at (published-step old new s t h))

open-received : (id : ℕ) (o : Option Delivery) (x : Option Entry) (old new : Outbox) (i reason : ℕ) (a : Rec) → find_id i old.copies ≡ x → ReceivedIf x old i reason a new → AreNumbered old.copies → AllByRecursion (IsOpen id o) (published new.copies) → AllByRecursion (IsOpen id (open_after id o (received i reason a))) (published new.copies)
open-received id o None old new i reason a is s n all = rw s.0 all
open-received id o (Some x) old new i reason rec.Release is (inl s) n all = no-longer id i o new.copies all (rw s.3 (other-released i old.next_order old.copies n))
open-received id o (Some x) old new i reason rec.Release is (inr s) n all = no-longer id i o new.copies all (rw s.1 (other-known i x old.copies n is s.0))
open-received id o (Some x) old new i reason rec.Ended is s n all = no-longer id i o new.copies all (rw s.2 (all-other i (drop_id i old.copies) (none-dropped i old.copies n)))
open-received id o (Some x) old new i reason rec.Unknown is s n all = all
open-received id o (Some x) old new i reason rec.AtEnd is s n all = all

open-step : (id : ℕ) (o : Option Delivery) (old new : Outbox) (s : Step) → Takes old s new → AreLaid old.copies → AreNumbered old.copies → AllByRecursion (IsOpen id o) (published old.copies) → AllByRecursion (IsOpen id (open_after id o s)) (published new.copies)
open-step id o old new (offered c a) s h n all = open-quiet id o old new (offered c a) refl s h all
open-step id o old new (acknowledged i Done) s h n all =
    no-longer id i o new.copies (open-quiet id o old new (acknowledged i Done) refl s h all) (rw s.1 (all-other i (drop_id i old.copies) (none-dropped i old.copies n)))
open-step id o old new (acknowledged i Unknown) s h n all = open-quiet id o old new (acknowledged i Unknown) refl s h all
open-step id o old new (completed i a) s h n all = open-quiet id o old new (completed i a) refl s h all
open-step id o old new (received i reason a) s h n all = open-received id o _ old new i reason a refl s n (open-quiet id o old new (received i reason a) refl s h all)
open-step id o old new (resumed maximum) s h n all = open-quiet id o old new (resumed maximum) refl s h all
open-step id o old new (listed ids) s h n all = open-quiet id o old new (listed ids) refl s h all
open-step id o old new (asked now limit None) s h n all = open-quiet id o old new (asked now limit None) refl s h all
open-step id o old new (asked now limit (Some x)) (inl s) h n all =
    let dup : x.dup ≡ true = resent-dup now limit x old.copies s.sent in
    rw dup (open-quiet id o old new (asked now limit (Some x)) (rw dup refl) (inl s) h all)
open-step id o old new (asked now limit (Some x)) (inr s) h n all =
    let before = all-left _ (IsOpen id o) (published old.copies) (published (after_resend now limit old.copies)) all (published-resent now limit old.copies) in
    let free = all-other x.id (after_resend now limit old.copies) s.number.free in
    rw (s.first, s.left, chosen-first published_part (λ y w k. published-waits y.stage y.here y.delivery w) now limit x.id x.copy (after_resend now limit old.copies) (laid-resent now limit old.copies h) s.sent)
    (elim (cases_eq x.id id) [
      | inl same ↦ rw (eq-eqb x.id id same) (all-both (IsOpen id (Some x.copy)) (published (after_resend now limit old.copies)) ((x.id, x.copy) ∷ [])
          (all-join (IsOpen id o) (Other x.id) (IsOpen id (Some x.copy)) (λ y a b is. absurd (b (is ∙ sym same))) (published (after_resend now limit old.copies)) before free) (λ _. refl, tt))
      | inr apart ↦ rw (ne_eqb x.id id apart) (all-both (IsOpen id o) (published (after_resend now limit old.copies)) ((x.id, x.copy) ∷ []) before (λ is. absurd (apart is), tt))
    ])
open-step id o old new lost s h n all = open-quiet id o old new lost refl s h all

-- ---- the law
open-resends : (id : ℕ) (o : Option Delivery) (old new : Outbox) (s : Step) → Takes old s new → AllByRecursion (IsOpen id o) (published old.copies) → AllByRecursion (IsOpen id o) (resends_of s)
open-resends id o old new (offered c a) s all = tt
open-resends id o old new (acknowledged i a) s all = tt
open-resends id o old new (completed i a) s all = tt
open-resends id o old new (received i reason a) s all = tt
open-resends id o old new (resumed maximum) s all = tt
open-resends id o old new (listed ids) s all = tt
open-resends id o old new (asked now limit a) s all =
    all-head (IsOpen id o) (resends_of (asked now limit a)) (owed new.copies) (all-left _ (IsOpen id o) (owed old.copies) _ (owed-open (IsOpen id o) old.copies all) (owed-step old new (asked now limit a) tt s))
open-resends id o old new lost s all = tt

open-run : (id : ℕ) (o : Option Delivery) (start : Outbox) (steps : List Step) (end : Outbox) → Run start steps end → AreLaid start.copies → AreNumbered start.copies → AllByRecursion (IsOpen id o) (published start.copies) → ResendsOpen id o steps
open-run id o start [] end r h n all = tt
open-run id o start (s ∷ ss) end r h n all = (
  open-resends id o start r.0 s r.1 all,
  open-run id (open_after id o s) r.0 ss end r.2 (laid-step start r.0 s r.1 h) (numbered-step start r.0 s r.1 n) (open-step id o start r.0 s r.1 h n all),
)

pub keeps_resends_open : KeepsResendsOpen
keeps_resends_open = λ id steps end r. open-run id None empty_outbox steps end r tt tt tt
