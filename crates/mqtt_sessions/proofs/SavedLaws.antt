-- Rows of a session, and the session that is opened_of from them.
use Rattle.std.proofs.Common.{◌≡◌, ℕ, List, [], ◌∷◌, map, Option, Some, None, Result, Ok, Err, refl, sym, ap, subst, ◌∙◌}
use Rattle.std.specs.Prelude.{IfOk, IfErr, Vec}
use Rattle.qos_handshakes.specs.Entries.{Entries}
use Rattle.qos_handshakes.specs.Incoming.{identifiers_of, of_identifiers}
use Rattle.qos_handshakes.specs.Outbox.{away}
use Rattle.row_store.specs.declared.row.Row.{Row}
use Rattle.row_store.specs.Rows.{entry_of}
use Rattle.session_rows.specs.declared.session.Opened.{Opened}
use Rattle.session_rows.specs.Durable.{Durable, IsDurable, opened_of, IsPublishableIf, IsMomentIf}
use Rattle.session_rows.proofs.DurableLaws.{durable-client}
use Rattle.session_rows.specs.Fields.{main}
use Rattle.session_rows.specs.Reading.{HasClient}
use Rattle.session_rows.specs.Rows.{copy_row, copy_rows, rows_of, main_key}
use Rattle.mqtt_sessions.specs.declared.fault.SessionFault.{SessionFault}
use Rattle.mqtt_sessions.specs.declared.fault.SessionFault.TheVariants.{NoMemory, NumbersAtEnd, Spent, BadRow}
use Rattle.mqtt_sessions.specs.Saved.{Saved, closed_of, phase_of, main_of, durable_of, state_in, tracked_in, told_of, reopened, OpensFrom}
use Rattle.mqtt_sessions.specs.State.{State}

pub rows-away : (client : List ℕ) (es : Entries) → copy_rows client (away es) ≡ copy_rows client es
rows-away client [] = refl
rows-away client (e ∷ es) = ap (λ r. copy_row client e ∷ r) (rows-away client es)

pub rows-if : {A E : Type 0} (r : Result (Vec Row A) E) (s : State) (client value : List ℕ) (copies : Entries) → value ≡ main.bytes (main_of s) → client ≡ s.kept.client → copies ≡ s.outbox.copies
    → IfOk r (λ rows. map entry_of rows.items ≡ (main_key client, value) ∷ copy_rows client copies) → IfOk r (λ rows. map entry_of rows.items ≡ rows_of (durable_of s))
rows-if (Ok rows) s client value copies own owner all is = rw (is, own, owner, all) (ap (λ r. (main_key s.kept.client, main.bytes (main_of s)) ∷ r) (sym (rows-away s.kept.client s.outbox.copies)))
rows-if (Err e) s client value copies own owner all is = tt

identifiers-back : (ids : List ℕ) → identifiers_of (of_identifiers ids) ≡ ids
identifiers-back [] = refl
identifiers-back (i ∷ is) = ap (λ r. i ∷ r) (identifiers-back is)

closed-back : (c : Option ℕ) → closed_of (phase_of c) ≡ c
closed-back None = refl
closed-back (Some at) = refl

pub main-back : (d : Durable) → main_of (state_in d) ≡ d.main
main-back d = λ i. record { expiry = d.main.expiry; closed = closed-back d.main.closed i; will = d.main.will; incoming = identifiers-back d.main.incoming i; next_place = d.main.next_place }

saved_in : Opened → Saved
saved_in o = record { tracked = tracked_in o; told = told_of (durable_of (tracked_in o).state) }

saved-reopened : (d : Durable) → saved_in (opened_of d) ≡ reopened d
unfolding saved_in
saved-reopened d = λ i. record { tracked = tracked_in (opened_of d); told = record { value = Some (main.bytes (main-back d i)); next_place = d.main.next_place } }

-- what a reader of rows says of them
abbrev pub IsRead : List Row → Opened → Type 0
IsRead rows o = (d : Durable) × IsDurable d × (rows_of d ≡ map entry_of rows) × (o ≡ opened_of d)

pub read-publishable : (rows : List Row) (o : Opened) → IsRead rows o → IsPublishableIf o.will
read-publishable rows o h = subst (λ (x : Opened). IsPublishableIf x.will) (sym h.3) h.1.sound.publishable

pub read-moment : (rows : List Row) (o : Opened) → IsRead rows o → IsMomentIf o.closed
read-moment rows o h = subst (λ (x : Opened). IsMomentIf x.closed) (sym h.3) h.1.sound.moment

pub read-client : (rows : List Row) (o : Opened) → IsRead rows o → HasClient (map entry_of rows)
read-client rows o h = subst HasClient h.2 (durable-client h.0 h.1)

pub opens : (rows : List Row) (o : Opened) (r : Result (Option Saved) SessionFault) → IsRead rows o
    → IfOk r (λ s. s ≡ Some (record { tracked = tracked_in o; told = told_of (durable_of (tracked_in o).state) })) → IfErr r (λ e. e ≡ NoMemory) → OpensFrom rows r
unfolding saved_in
opens rows o (Ok s) h ok err = (h.0, h.1, h.2, ok ∙ ap (λ x. Some (saved_in x)) h.3 ∙ ap (λ x. Some x) (saved-reopened h.0))
opens rows o (Err NoMemory) h ok err = tt
opens rows o (Err NumbersAtEnd) h ok err = absurd cc
opens rows o (Err Spent) h ok err = absurd cc
opens rows o (Err BadRow) h ok err = absurd cc
