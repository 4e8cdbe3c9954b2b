-- Nothing is held back, as events tell it.
use Rattle.std.proofs.Common.{◌≡◌, ℕ, List, ◌∷◌, ◌++◌, length, IsSome, sym, ◌∙◌, ap, inl, inr, arith}
use Rattle.qos_handshakes.specs.Entries.{find_id}
use Rattle.qos_handshakes.specs.Outbox.{waiting}
use Rattle.law_handshakes.specs.Quota.{CannotSend}
use Rattle.law_handshakes.specs.Resends.{owed}
use Rattle.law_handshakes.proofs.QuotaLaws.{here_ids, in_flight-here}
use Rattle.law_handshakes.proofs.ResendLaws.{found-has}
use Rattle.mqtt_sessions.specs.State.{State, new_session}
use Rattle.law_sessions.specs.Quota.{is_none}
use Rattle.law_sessions.specs.Room.{room_over, uncounted}
use Rattle.law_sessions.specs.Runs.{connects, Step}
use Rattle.law_sessions.proofs.BusyLaws.{keeps_busy}
use Rattle.law_sessions.proofs.RoomLaws.{keeps_left, left-room}
use Rattle.law_deliveries.specs.Busy.{IsBusy, KeepsBusyTold}
use Rattle.law_deliveries.specs.Queue.{Told, told_nothing, told_over}
use Rattle.law_deliveries.proofs.FlyLaws.{Tells, keeps_queue_told, tells-nothing}
use Rattle.law_deliveries.proofs.NumberLaws.{some-of, there}
use Rattle.law_deliveries.proofs.OwedLaws.{keeps_owed, tells-over}

busy : (t : Told) (s : State) → Tells t s → CannotSend s.outbox → IsBusy t (owed s.outbox.copies) (waiting s.outbox.copies)
busy t s h (inl full) =
    let same : length t.flying ≡ length (here_ids s.outbox.copies) = ap (λ (xs : List ℕ). length xs) h.flying in
    let most = h.maximum in
    inl (omega (arith, full, same, most, in_flight-here s.outbox.copies h.laid))
busy t s h (inr (none, inl all)) = inr (
  none,
  inl (λ k low high.
      let e = some-of (find_id k s.outbox.copies) (all k low high) in
      ap is_none (h.exchanges k e.0 e.1) ∙ there k e.0.stage e.0.delivery (found-has k e.0 s.outbox.copies e.1)),
)
busy t s h (inr (none, inr idle)) = inr (none, inr idle)

pub keeps_busy_told : KeepsBusyTold
keeps_busy_told = λ client before here c continued room now r end stay run on some.
    let steps : List Step = before ++ record { event = connects c continued room now; reaction = r } ∷ here in
    let k = keeps_owed client before here c continued room now r end stay run in
    let h = tells-over told_nothing (new_session client) steps end (tells-nothing client) run in
    let linked : IsSome end.link = sym h.on ∙ on in
    let m = room_over uncounted steps in
    record {
      going = k.going;
      owes = owed end.outbox.copies;
      queue = waiting end.outbox.copies;
      was = k.was;
      is = k.is;
      waits = keeps_queue_told client steps end run;
      busy = busy (told_over told_nothing steps) end h (keeps_busy client steps end run linked (rw (keeps_left client steps end run) (left-room m.given m.taken some)));
    }
