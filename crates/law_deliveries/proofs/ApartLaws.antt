use Rattle.qos_handshakes.specs.Touched.{is_in}
-- What goes on has distinct identifiers.
use Rattle.std.proofs.Common.{◌≡◌, ◌≢◌, ℕ, Bool, false, List, [], ◌∷◌, ◌++◌, Some, None, refl, sym, ◌∙◌, inl, inr}
use Rattle.std.specs.Prelude.{◌==◌}
use Rattle.std.specs.List.{AllByRecursion}
use Rattle.std.proofs.lemmas.Bool.{cases_Bool, both_ways, eq-eqb}
use Rattle.mqtt_message.specs.declared.delivery.Delivery.{Delivery}
use Rattle.qos_handshakes.specs.declared.copies.Entry.{Entry}
use Rattle.qos_handshakes.specs.declared.copies.Stage.{Stage}
use Rattle.qos_handshakes.specs.declared.copies.Stage.TheVariants.{Waiting, Published, Released}
use Rattle.qos_handshakes.specs.Entries.{Entries, find_id, has_id, stage_has}
use Rattle.qos_handshakes.specs.Outbox.{is_released}
use Rattle.qos_handshakes.proofs.EntryLaws.{NoneHas, none-head, none-tail}
use Rattle.law_handshakes.specs.Numbers.{AreNumbered, IsNumbered}
use Rattle.law_handshakes.specs.Resends.{SentCopy, published, published_part}
use Rattle.law_handshakes.proofs.OpenLaws.{all-both}
use Rattle.law_handshakes.proofs.QuotaLaws.{numbered-later}
use Rattle.law_sessions.specs.Releases.{released_ids}
use Rattle.law_sessions.proofs.LiftLaws.{keeps_numbers}
use Rattle.law_deliveries.specs.Identifiers.{AreDistinct, KeepsApart}
use Rattle.law_deliveries.proofs.BeginningLaws.{absent, released-told}
use Rattle.law_deliveries.proofs.UnansweredLaws.{keeps_open}

all-weaker : {A : Type 0} (P Q : A → Type 0) → ((x : A) → P x → Q x) → (xs : List A) → AllByRecursion P xs → AllByRecursion Q xs
all-weaker P Q f [] h = tt
all-weaker P Q f (x ∷ xs) h = (f x h.0, all-weaker P Q f xs h.1)

-- ---- those of other identifiers
other-part : (id : ℕ) (s : Stage) (here : Bool) (d : Delivery) → stage_has id s ≡ false → AllByRecursion (λ (y : SentCopy). y.0 ≢ id) (published_part (record { stage = s; here = here; delivery = d }))
other-part id Waiting here d h = tt
other-part id (Published i) here d h = (λ same. both_ways (i == id) h (eq-eqb i id same), tt)
other-part id (Released i order) here d h = tt

others : (id : ℕ) (es : Entries) → NoneHas id es → AllByRecursion (λ (y : SentCopy). y.0 ≢ id) (published es)
others id [] h = tt
others id (e ∷ es) h = all-both (λ (y : SentCopy). y.0 ≢ id) (published_part e.1) (published es) (other-part id e.1.stage e.1.here e.1.delivery (none-head id e es h)) (others id es (none-tail id e es h))

distinct-head : (s : Stage) (here : Bool) (d : Delivery) (es : Entries) → IsNumbered s es → AreDistinct (published es) → AreDistinct (published_part (record { stage = s; here = here; delivery = d }) ++ published es)
distinct-head Waiting here d es n h = h
distinct-head (Published id) here d es n h = ((n.0, n.1), others id es n.2, h)
distinct-head (Released id order) here d es n h = h

distinct : (es : Entries) → AreNumbered es → AreDistinct (published es)
distinct [] n = tt
distinct (e ∷ es) n = distinct-head e.1.stage e.1.here e.1.delivery es n.0 (distinct es n.1)

-- ---- each is found, and isn't released
record IsFound (es : Entries) (x : SentCopy) : Type 0 where
  pub entry : Entry
  pub at : find_id x.0 es ≡ Some entry
  pub stage : is_released entry.stage ≡ false

found-part : (s : Stage) (here : Bool) (d : Delivery) (place : ℕ) (es : Entries) → AllByRecursion (IsFound ((place, record { stage = s; here = here; delivery = d }) ∷ es)) (published_part (record { stage = s; here = here; delivery = d }))
found-part Waiting here d place es = tt
found-part (Published id) here d place es = (record { entry = record { stage = Published id; here = here; delivery = d }; at = rw (eq-eqb id id refl) refl; stage = refl }, tt)
found-part (Released id order) here d place es = tt

found-later : (e : ℕ × Entry) (es : Entries) (x : SentCopy) → IsNumbered e.1.stage es → IsFound es x → IsFound (e ∷ es) x
found-later e es x n f = elim (cases_Bool (has_id x.0 e.1)) [
  | inl t ↦ absurd (let bad : None ≡ Some f.entry = sym (numbered-later x.0 e.1.stage es t n) ∙ f.at in cc)
  | inr t ↦ record { entry = f.entry; at = rw t f.at; stage = f.stage }
]

found : (es : Entries) → AreNumbered es → AllByRecursion (IsFound es) (published es)
found [] n = tt
found (e ∷ es) n =
    all-both (IsFound (e ∷ es)) (published_part e.1) (published es) (found-part e.1.stage e.1.here e.1.delivery e.0 es) (all-weaker (IsFound es) (IsFound (e ∷ es)) (λ x f. found-later e es x n.0 f) (published es) (found es n.1))

-- ---- the law
pub keeps_apart : KeepsApart
keeps_apart = λ client steps end r.
    let n = keeps_numbers client steps end r in
    let free = all-weaker (IsFound end.outbox.copies) (λ (x : SentCopy). is_in x.0 (released_ids end) ≡ false) (λ x f. absent (Some f.entry) x.0 end n f.at f.stage) (published end.outbox.copies) (found end.outbox.copies n) in
    record {
      going = published end.outbox.copies;
      is = keeps_open client steps end r;
      distinct = distinct end.outbox.copies n;
      apart = rw (released-told client steps end r) free;
    }
