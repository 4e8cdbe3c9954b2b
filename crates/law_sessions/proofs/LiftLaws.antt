-- The laws of the handshakes, lifted to sessions.
use Rattle.std.proofs.Common.{◌≡◌, ℕ, Bool, true, false, List, [], ◌∷◌, ◌++◌, ◌⊎◌, Option, Some, None, refl, sym, ◌∙◌, ap, inl, inr, append_assoc}
use Rattle.std.specs.Prelude.{is_some}
use Rattle.std.specs.List.{AllByRecursion}
use Rattle.std.proofs.lemmas.Bool.{cases_Bool, false≢true}
use Rattle.mqtt_packets.specs.declared.connect.Connect.{Connect}
use Rattle.mqtt_message.specs.declared.delivery.Delivery.{Delivery}
use Rattle.qos_handshakes.specs.Outbox.{Outbox, waiting, empty_outbox}
use Rattle.law_handshakes.specs.Runs as low
use Rattle.law_handshakes.specs.Runs.{offered, acknowledged, completed, received, resumed, listed, asked, lost}
use Rattle.law_handshakes.specs.Numbers.{AreNumbered}
use Rattle.law_handshakes.specs.Order as low_order
use Rattle.law_handshakes.specs.Order.{all_offers, all_firsts}
use Rattle.law_handshakes.specs.Resends as low_resends
use Rattle.law_handshakes.specs.Resends.{SentCopy, AnsweredIn, all_first_sends, all_resends, owed}
use Rattle.law_handshakes.proofs.ChosenLaws.{without-more, both-nil}
use Rattle.law_handshakes.proofs.NumberLaws as low_numbers
use Rattle.law_handshakes.proofs.OrderLaws as low_laws
use Rattle.law_handshakes.proofs.ResendLaws as low_again
use Rattle.mqtt_sessions.specs.Connecting.{ConnectStep}
use Rattle.mqtt_sessions.specs.Reaction.{Reaction}
use Rattle.mqtt_sessions.specs.State.{State, limit_in, new_session}
use Rattle.law_sessions.specs.Runs.{connects, Step, Run, connected_after, limit_after}
use Rattle.law_sessions.specs.Sends.{Mark, marks_of, all_marks, maximum_in}
use Rattle.law_sessions.specs.Order.{firsts, resends, copies_of, all_queued, LeftOutIn, KeepsOrder, SendsOnce, KeepsAtMostOnce}
use Rattle.law_sessions.specs.Resends.{EndedIn, StaysConnected, KeepsResendsInOrder, KeepsResendsContinued, ResendsFirst, KeepsResendsFirst}
use Rattle.law_sessions.specs.Sizes.{SizesFit, KeepsSizes}
use Rattle.law_sessions.specs.Numbers.{KeepsLeast, KeepsNumbers, KeepsQuota}
use Rattle.law_sessions.proofs.QuietLaws.{HasLimit}
use Rattle.law_sessions.proofs.SilenceLaws.{run-split}
use Rattle.law_sessions.proofs.CallLaws.{Call, mark_of, call_marks, HasNumbers, numbered-calls}
use Rattle.law_sessions.proofs.ProjectLaws.{project, begun}

-- ---- two lists of calls in turn
run-then : (a b c : Outbox) (xs ys : List Call) → low.Run a xs b → low.Run b ys c → low.Run a (xs ++ ys) c
run-then a b c [] ys r t = rw r at t
run-then a b c (x ∷ xs) ys r t = (r.0, r.1, run-then r.0 b c xs ys r.2 t)

offers-then : (xs ys : List Call) → all_offers (xs ++ ys) ≡ all_offers xs ++ all_offers ys
offers-then [] ys = refl
offers-then (x ∷ xs) ys = rw (offers-then xs ys, append_assoc (low_order.offers_of x) (all_offers xs) (all_offers ys)) refl

pub marks-then : (xs ys : List Call) → call_marks (xs ++ ys) ≡ call_marks xs ++ call_marks ys
marks-then [] ys = refl
marks-then (x ∷ xs) ys = rw (marks-then xs ys, append_assoc (mark_of x) (call_marks xs) (call_marks ys)) refl

left-then : (xs ys : List Call) (x : Delivery) → low_order.LeftOutIn (xs ++ ys) x → low_order.LeftOutIn xs x ⊎ low_order.LeftOutIn ys x
left-then [] ys x h = inr h
left-then (c ∷ xs) ys x (inl h) = inl (inl h)
left-then (c ∷ xs) ys x (inr h) = elim (left-then xs ys x h) [ inl g ↦ inl (inr g) | inr g ↦ inr g ]

answered-then : (xs ys : List Call) (x : SentCopy) → AnsweredIn (xs ++ ys) x → AnsweredIn xs x ⊎ AnsweredIn ys x
answered-then [] ys x h = inr h
answered-then (c ∷ xs) ys x (inl h) = inl (inl h)
answered-then (c ∷ xs) ys x (inr h) = elim (answered-then xs ys x h) [ inl g ↦ inl (inr g) | inr g ↦ inr g ]

pub all-then : {A : Type 0} (P : A → Type 0) (xs ys : List A) → AllByRecursion P xs → AllByRecursion P ys → AllByRecursion P (xs ++ ys)
all-then P [] ys h k = k
all-then P (x ∷ xs) ys h k = (h.0, all-then P xs ys h.1 k)

-- ---- what the calls of a list of events show
pub record ShowsAll (on : Bool) (limit : ℕ) (steps : List Step) (calls : List Call) : Type 0 where
  pub offers : all_offers calls ≡ all_queued steps
  pub marks : call_marks calls ≡ all_marks on steps
  pub once : SendsOnce on limit steps
  pub sized : SizesFit limit steps
  pub left_out : (x : Delivery) → low_order.LeftOutIn calls x → LeftOutIn on limit steps x
  pub answered : (x : SentCopy) → AnsweredIn calls x → EndedIn on limit steps x
  pub stays : AllByRecursion (λ (s : Step). StaysConnected s.event) steps → AllByRecursion low_resends.StaysConnected calls
  pub numbers : AllByRecursion HasNumbers calls

abbrev pub limit_over : ℕ → List Step → ℕ
limit_over limit [] = limit
limit_over limit (s ∷ ss) = limit_over (limit_after limit s.event) ss

abbrev pub connected_over : Bool → List Step → Bool
connected_over on [] = on
connected_over on (s ∷ ss) = connected_over (connected_after on s.event s.reaction) ss

pub record ProjectsAll (on : Bool) (limit : ℕ) (old : State) (steps : List Step) (new : State) : Type 0 where
  pub calls : List Call
  pub runs : low.Run old.outbox calls new.outbox
  pub shows : ShowsAll on limit steps calls
  pub limited : HasLimit (limit_over limit steps) new.link
  pub connected : connected_over on steps ≡ is_some new.link

pub project-run : (on : Bool) (limit : ℕ) (old : State) (steps : List Step) (new : State) → HasLimit limit old.link → on ≡ is_some old.link → AreNumbered old.outbox.copies → Run old steps new → ProjectsAll on limit old steps new
project-run on limit old [] new is opens n r = record {
  calls = [];
  runs = ap (λ (s : State). s.outbox) r;
  shows = record { offers = refl; marks = refl; once = tt; sized = tt; left_out = λ x h. h; answered = λ x h. h; stays = λ _. tt; numbers = tt };
  limited = rw r is;
  connected = rw r opens;
}
project-run on limit old (s ∷ ss) new is opens n r =
    let p = project on limit old r.0 s.event s.reaction is opens n r.1 in
    let q = project-run (connected_after on s.event s.reaction) (limit_after limit s.event) r.0 ss new p.limited p.connected (numbered-calls old.outbox p.calls r.0.outbox p.runs n) r.2 in
    record {
      calls = p.calls ++ q.calls;
      runs = run-then old.outbox r.0.outbox new.outbox p.calls q.calls p.runs q.runs;
      shows = record {
        offers = rw (offers-then p.calls q.calls, p.shows.offers, q.shows.offers) refl;
        marks = rw (marks-then p.calls q.calls, p.shows.marks, q.shows.marks) refl;
        once = (p.shows.once, q.shows.once);
        sized = (p.shows.sized, q.shows.sized);
        left_out = λ x h. elim (left-then p.calls q.calls x h) [ inl g ↦ inl (p.shows.left_out x g) | inr g ↦ inr (q.shows.left_out x g) ];
        answered = λ x h. elim (answered-then p.calls q.calls x h) [ inl g ↦ inl (p.shows.answered x g) | inr g ↦ inr (q.shows.answered x g) ];
        stays = λ h. all-then low_resends.StaysConnected p.calls q.calls (p.shows.stays h.0) (q.shows.stays h.1);
        numbers = all-then HasNumbers p.calls q.calls p.shows.numbers q.shows.numbers;
      };
      limited = q.limited;
      connected = q.connected;
    }

pub whole : (client : List ℕ) (steps : List Step) (end : State) → Run (new_session client) steps end → ProjectsAll false 0 (new_session client) steps end
whole client steps end r = project-run false 0 (new_session client) steps end tt refl tt r

-- ---- numbers and quota
pub keeps_numbers : KeepsNumbers
keeps_numbers = λ client steps end r. let p = whole client steps end r in low_numbers.keeps_numbers p.calls end.outbox p.runs

pub keeps_quota : KeepsQuota
keeps_quota = λ client steps end r. let p = whole client steps end r in low_laws.keeps_quota p.calls end.outbox p.runs

pub keeps_least : KeepsLeast
keeps_least = λ client steps s end r.
    let t = run-split (new_session client) steps (s ∷ []) end r in
    let p = whole client steps t.0 t.1 in
    rw t.2.2 (project (connected_over false steps) (limit_over 0 steps) t.0 t.2.0 s.event s.reaction p.limited p.connected (numbered-calls empty_outbox p.calls t.0.outbox p.runs tt) t.2.1).least

-- ---- order
firsts-marks : (cs : List Call) → copies_of (firsts (call_marks cs)) ≡ all_firsts cs
firsts-marks [] = refl
firsts-marks (offered c a ∷ cs) = firsts-marks cs
firsts-marks (acknowledged id a ∷ cs) = firsts-marks cs
firsts-marks (completed id a ∷ cs) = firsts-marks cs
firsts-marks (received id reason a ∷ cs) = firsts-marks cs
firsts-marks (resumed maximum ∷ cs) = firsts-marks cs
firsts-marks (listed ids ∷ cs) = firsts-marks cs
firsts-marks (asked now limit None ∷ cs) = firsts-marks cs
firsts-marks (asked now limit (Some s) ∷ cs) = elim (cases_Bool s.dup) [
  | inl h ↦ rw h (firsts-marks cs)
  | inr h ↦ rw h (ap (λ (t : List Delivery). s.copy ∷ t) (firsts-marks cs))
]
firsts-marks (lost ∷ cs) = firsts-marks cs

pub keeps_order : KeepsOrder
keeps_order = λ client steps end r.
    let p = whole client steps end r in
    rw (← p.shows.offers, ← p.shows.marks, firsts-marks p.calls)
    (without-more (low_order.LeftOutIn p.calls) (LeftOutIn false 0 steps) p.shows.left_out (all_offers p.calls) (all_firsts p.calls ++ waiting end.outbox.copies) (low_laws.keeps_order p.calls end.outbox p.runs))

pub keeps_at_most_once : KeepsAtMostOnce
keeps_at_most_once = λ client steps end r. (whole client steps end r).shows.once

pub keeps_sizes : KeepsSizes
keeps_sizes = λ client steps end r. (whole client steps end r).shows.sized

-- ---- resends
sends-marks : (cs : List Call) → all_first_sends cs ≡ firsts (call_marks cs)
sends-marks [] = refl
sends-marks (offered c a ∷ cs) = sends-marks cs
sends-marks (acknowledged id a ∷ cs) = sends-marks cs
sends-marks (completed id a ∷ cs) = sends-marks cs
sends-marks (received id reason a ∷ cs) = sends-marks cs
sends-marks (resumed maximum ∷ cs) = sends-marks cs
sends-marks (listed ids ∷ cs) = sends-marks cs
sends-marks (asked now limit None ∷ cs) = sends-marks cs
sends-marks (asked now limit (Some s) ∷ cs) = rw (sends-marks cs) refl
sends-marks (lost ∷ cs) = sends-marks cs

resends-marks : (cs : List Call) → all_resends cs ≡ resends (call_marks cs)
resends-marks [] = refl
resends-marks (offered c a ∷ cs) = resends-marks cs
resends-marks (acknowledged id a ∷ cs) = resends-marks cs
resends-marks (completed id a ∷ cs) = resends-marks cs
resends-marks (received id reason a ∷ cs) = resends-marks cs
resends-marks (resumed maximum ∷ cs) = resends-marks cs
resends-marks (listed ids ∷ cs) = resends-marks cs
resends-marks (asked now limit None ∷ cs) = resends-marks cs
resends-marks (asked now limit (Some s) ∷ cs) = rw (resends-marks cs) refl
resends-marks (lost ∷ cs) = resends-marks cs

ended-before : (on : Bool) (limit : ℕ) (before after : List Step) (x : SentCopy) → EndedIn on limit before x → EndedIn on limit (before ++ after) x
ended-before on limit [] after x h = absurd h
ended-before on limit (s ∷ before) after x (inl h) = inl h
ended-before on limit (s ∷ before) after x (inr h) = inr (ended-before (connected_after on s.event s.reaction) (limit_after limit s.event) before after x h)

ended-after : (on : Bool) (limit : ℕ) (before after : List Step) (x : SentCopy) → EndedIn (connected_over on before) (limit_over limit before) after x → EndedIn on limit (before ++ after) x
ended-after on limit [] after x h = h
ended-after on limit (s ∷ before) after x h = inr (ended-after (connected_after on s.event s.reaction) (limit_after limit s.event) before after x h)

both-marks : (xs ys ms ns : List Mark) → xs ≡ ms → ys ≡ ns → resends (xs ++ ys) ≡ resends (ms ++ ns)
both-marks xs ys ms ns p q = rw (p, q) refl

-- the calls of a connection, from its beginning on
record Goes (old : State) (c : Connect) (first : Step) (here : List Step) (end : State) : Type 0 where
  pub rest : List Call
  pub runs : low.Run old.outbox (resumed (maximum_in c) ∷ rest) end.outbox
  pub stays : AllByRecursion low_resends.StaysConnected rest
  pub resent : all_resends rest ≡ resends (all_marks false (first ∷ here))
  pub answered : (on : Bool) (limit : ℕ) (x : SentCopy) → AnsweredIn rest x → EndedIn on limit (first ∷ here) x

goes : (old mid : State) (here : List Step) (c : Connect) (continued : Bool) (room : Option ℕ) (now : ℕ) (r : Reaction) (end : State) → AreNumbered old.outbox.copies → AllByRecursion (λ (s : Step). StaysConnected s.event) here → ConnectStep c continued room now old r mid → Run mid here end
    → Goes old c (record { event = connects c continued room now; reaction = r }) here end
goes old mid here c continued room now r end n stay begins run =
    let first : Step = record { event = connects c continued room now; reaction = r } in
    let b = begun false 0 old mid c continued room now r n begins in
    let m = numbered-calls old.outbox (resumed (maximum_in c) ∷ b.rest) mid.outbox b.runs n in
    let q = project-run (connected_after false (connects c continued room now) r) (limit_in c.properties) mid here end b.limited b.connected m run in
    record {
      rest = b.rest ++ q.calls;
      runs = run-then old.outbox mid.outbox end.outbox (resumed (maximum_in c) ∷ b.rest) q.calls b.runs q.runs;
      stays = all-then low_resends.StaysConnected b.rest q.calls b.stays (q.shows.stays stay);
      resent = resends-marks (resumed (maximum_in c) ∷ b.rest ++ q.calls) ∙ ap resends (marks-then (resumed (maximum_in c) ∷ b.rest) q.calls)
          ∙ both-marks (call_marks (resumed (maximum_in c) ∷ b.rest)) (call_marks q.calls) (marks_of false first) (all_marks (connected_after false (connects c continued room now) r) here) b.shows.marks q.shows.marks;
      answered = λ on limit x h. elim (answered-then b.rest q.calls x h) [
        | inl k ↦ inl (b.shows.answered x (inr k))
        | inr k ↦ inr (q.shows.answered x k)
      ];
    }

pub keeps_resends_in_order : KeepsResendsInOrder
keeps_resends_in_order = λ client before here c continued room now r end stay run.
    let first : Step = record { event = connects c continued room now; reaction = r } in
    let t = run-split (new_session client) before (first ∷ here) end run in
    let p = whole client before t.0 t.1 in
    let g = goes t.0 t.2.0 here c continued room now r end (numbered-calls empty_outbox p.calls t.0.outbox p.runs tt) stay t.2.1.1 t.2.2 in
    let law = low_again.keeps_resends_in_order p.calls g.rest (maximum_in c) end.outbox g.stays (run-then empty_outbox t.0.outbox end.outbox p.calls (resumed (maximum_in c) ∷ g.rest) p.runs g.runs) in
    rw (← p.shows.marks, ← sends-marks p.calls, ← g.resent)
    (without-more (AnsweredIn (p.calls ++ g.rest)) (EndedIn false 0 (before ++ first ∷ here))
    (λ x h. elim (answered-then p.calls g.rest x h) [
      | inl k ↦ ended-before false 0 before (first ∷ here) x (p.shows.answered x k)
      | inr k ↦ ended-after false 0 before (first ∷ here) x (g.answered (connected_over false before) (limit_over 0 before) x k)
    ])
    (all_first_sends p.calls) (all_resends g.rest ++ owed end.outbox.copies) law)

fresh-nothing : (old : Outbox) (c : Connect) (rest : List Call) (end : Outbox) → old ≡ empty_outbox → AllByRecursion low_resends.StaysConnected rest → low.Run old (resumed (maximum_in c) ∷ rest) end → all_resends rest ≡ []
fresh-nothing old c rest end new stay run = (both-nil (all_resends rest) (owed end.copies) (low_again.keeps_resends_in_order [] rest (maximum_in c) end stay (rw new at run))).0

pub keeps_resends_continued : KeepsResendsContinued
keeps_resends_continued = λ client before here c room now r end stay run.
    let first : Step = record { event = connects c false room now; reaction = r } in
    let t = run-split (new_session client) before (first ∷ here) end run in
    let p = whole client before t.0 t.1 in
    let g = goes t.0 t.2.0 here c false room now r end (numbered-calls empty_outbox p.calls t.0.outbox p.runs tt) stay t.2.1.1 t.2.2 in
    sym g.resent ∙ elim t.2.1.0 [
      | inl bad ↦ absurd (false≢true bad)
      | inr fresh ↦ fresh-nothing t.0.outbox c g.rest end.outbox fresh.0 g.stays g.runs
    ]

-- ---- resends come first
first-marks : (sent : Bool) (cs : List Call) → low_resends.ResendsComeFirst sent cs → ResendsFirst sent (call_marks cs)
first-marks sent [] h = tt
first-marks sent (offered c a ∷ cs) h = first-marks sent cs h.1
first-marks sent (acknowledged id a ∷ cs) h = first-marks sent cs h.1
first-marks sent (completed id a ∷ cs) h = first-marks sent cs h.1
first-marks sent (received id reason a ∷ cs) h = first-marks sent cs h.1
first-marks sent (resumed maximum ∷ cs) h = first-marks false cs h.1
first-marks sent (listed ids ∷ cs) h = first-marks sent cs h.1
first-marks sent (asked now limit None ∷ cs) h = first-marks sent cs h.1
first-marks sent (asked now limit (Some s) ∷ cs) h = elim (cases_Bool s.dup) [
  | inl d ↦ (λ t. (let bad : (s.id, s.copy) ∷ [] ≡ [] = rw d at (h.0 t) in cc), rw d (first-marks sent cs (rw d at h.1)))
  | inr d ↦ (λ t. d, rw d (first-marks true cs (rw d at h.1)))
]
first-marks sent (lost ∷ cs) h = first-marks false cs h.1

pub keeps_resends_first : KeepsResendsFirst
keeps_resends_first = λ client steps end r.
    let p = whole client steps end r in
    rw (← p.shows.marks) (first-marks false p.calls (low_again.keeps_resends_first p.calls end.outbox p.runs))
