-- What becomes of a copy that is queued.
use Rattle.std.proofs.Common.{◌≡◌, ◌⊎◌, inl, inr, ℕ, ◌<◌, Bool, true, false, cond, is_some, List, [], ◌∷◌, ◌++◌, refl, sym, ap, ◌∙◌, subst, arith}
use Rattle.std.specs.Prelude.{◌==◌}
use Rattle.std.specs.List.{AllByRecursion}
use Rattle.std.proofs.lemmas.Bool.{cases_Bool, leb-true, false≢true}
use Rattle.law_handshakes.specs.Numbers.{AreNumbered}
use Rattle.law_handshakes.specs.Resends.{SentCopy, published}
use Rattle.law_handshakes.proofs.LaidLaws.{AreLaid}
use Rattle.mqtt_message.specs.declared.delivery.Delivery.{Delivery}
use Rattle.mqtt_packets.specs.declared.packet.Packet.{Packet}
use Rattle.mqtt_packets.specs.declared.packet.Packet.TheVariants as packets
use Rattle.mqtt_sessions.specs.declared.reaction.Output.{Output}
use Rattle.mqtt_sessions.specs.declared.reaction.Output.TheVariants.{Publish, Answer}
use Rattle.mqtt_sessions.specs.Answers as answer_packets
use Rattle.mqtt_sessions.specs.Reaction.{packet_of}
use Rattle.mqtt_sessions.specs.Sending.{is_once}
use Rattle.mqtt_sessions.specs.State.{State, new_session}
use Rattle.qos_handshakes.specs.Length.{length_of}
use Rattle.qos_handshakes.specs.Outbox.{fits, waiting}
use Rattle.law_sessions.specs.Exchanges.{Exchange, none}
use Rattle.law_sessions.specs.Order.{IsLate, copies_of, firsts, queued_by}
use Rattle.law_sessions.specs.Runs.{Event, connects, queues, rooms, takes, answers, closes, ticks, finishes, loses, Step, Reacts, Run, limit_after}
use Rattle.law_sessions.specs.Sends.{Mark, marks_by, marks_in, marks_of, sends_of, sent_in}
use Rattle.law_sessions.specs.Sizes.{moment_of}
use Rattle.law_sessions.proofs.CallLaws.{numbered-calls}
use Rattle.law_sessions.proofs.ProjectLaws.{project}
use Rattle.law_sessions.proofs.QuietLaws.{HasLimit}
use Rattle.law_sessions.proofs.SilenceLaws.{run-split}
use Rattle.law_sessions.proofs.SizeLaws.{publish-length}
use Rattle.law_deliveries.specs.Copies.{IsOneOf, Channel, no_channel, channel_after, channel_over, EndsAmong, IsSentBy, GoesFrom, KeepsCopies}
use Rattle.law_deliveries.specs.Queue.{SentOf, joins_by}
use Rattle.law_deliveries.specs.Unanswered.{Ends, IsTooLong, OpenOver}
use Rattle.law_deliveries.proofs.NumberLaws.{AllTold, x_over}
use Rattle.law_deliveries.proofs.OwnLaws.{laid-calls}
use Rattle.law_deliveries.proofs.QueueLaws.{serves}
use Rattle.law_deliveries.proofs.SentLaws.{in_both, in_left, in_right, in_without, in_copies, SendsLast, sends_only, last_by, sent_published, firsts_told}
use Rattle.law_deliveries.proofs.ShapeLaws.{shape}
use Rattle.law_deliveries.proofs.UnansweredLaws.{going-run, long-ends, told-calls}

-- ---- what is sent isn't too long
short-one : (now limit : ℕ) (os : List Output) → AllByRecursion (λ (o : Output). answer_packets.fits limit (packet_of now o) ≡ true) os → (x : SentCopy) → IsOneOf x (firsts (sends_of (sent_in os))) → fits now limit x.1 ≡ true
short-one now limit [] all x i = absurd i
short-one now limit (Answer p ∷ os) all x i = short-one now limit os all.1 x i
short-one now limit (Publish p ∷ os) all x i = elim (cases_Bool (p.id == 0)) [
  | inl t ↦ short-one now limit os all.1 x (rw t at i)
  | inr t ↦ elim (cases_Bool p.dup) [
    | inl d ↦ short-one now limit os all.1 x (rw (t, d) at i)
    | inr d ↦
        let fit : fits now limit p.delivery ≡ true = rw (publish-length p.delivery now p.id p.dup) at (all.0) in
        let j : ((p.id, p.delivery) ≡ x) ⊎ IsOneOf x (firsts (sends_of (sent_in os))) = rw (t, d) at i in
        elim j [ inl same ↦ subst (λ (y : SentCopy). fits now limit y.1 ≡ true) same fit | inr k ↦ short-one now limit os all.1 x k ]
  ]
]

too-long : (on : Bool) (limit : ℕ) (e : Event) (x : SentCopy) → IsTooLong on limit e x → limit < length_of (moment_of e) x.1
too-long on limit (connects c continued room now) x h = h
too-long on limit (queues d now) x h = h.1
too-long on limit (rooms bytes now) x h = h.1
too-long on limit (takes p now room) x h = h.1
too-long on limit (answers id codes) x h = absurd h
too-long on limit (closes now) x h = absurd h
too-long on limit (ticks now) x h = absurd h
too-long on limit (finishes now) x h = absurd h
too-long on limit loses x h = absurd h

not-long : (now limit : ℕ) (d : Delivery) → fits now limit d ≡ true → limit < length_of now d → ⊥
not-long now limit d f l = let le = leb-true (length_of now d) limit f in omega (arith, le, l)

-- ---- what an event sends first
marks-none : (p : Packet) (ms : List Mark) → firsts (marks_in p ++ ms) ≡ firsts ms
marks-none (packets.Puback a) ms = refl
marks-none (packets.Pubrec a) ms = refl
marks-none (packets.Pubcomp a) ms = refl
marks-none p ms = refl

firsts-last : (on : Bool) (e : Event) (ms : List Mark) → firsts (marks_by on e ++ ms) ≡ firsts ms
firsts-last on (connects c continued room now) ms = refl
firsts-last true (takes p now room) ms = marks-none p ms
firsts-last false (takes p now room) ms = refl
firsts-last on (queues d now) ms = refl
firsts-last on (rooms bytes now) ms = refl
firsts-last on (answers id codes) ms = refl
firsts-last on (closes now) ms = refl
firsts-last on (ticks now) ms = refl
firsts-last on (finishes now) ms = refl
firsts-last on loses ms = refl

-- ---- what goes on once it was sent
open-goes : (l : Channel) (going : List SentCopy) (ss : List Step) (last : List SentCopy) (x : SentCopy) → OpenOver l.on l.limit l.sent going ss last → IsOneOf x going → IsOneOf x last ⊎ EndsAmong l ss x
open-goes l going [] last x o i = inl (subst (IsOneOf x) (sym o) i)
open-goes l going (s ∷ ss) last x o i =
    elim (in_without (Ends l.on (limit_after l.limit s.event) l.sent s.event) x (going ++ firsts (marks_of l.on s)) o.0 o.1 (in_left x going (firsts (marks_of l.on s)) i)) [
      | inl e ↦ inr (inl e)
      | inr j ↦ elim (open-goes (channel_after l s) o.0 ss last x o.2 j) [ inl k ↦ inl k | inr k ↦ inr (inr k) ]
    ]

-- ---- what an event takes of the queue
in-all : (P : Delivery → Type 0) (x : Delivery) (xs : List Delivery) → AllByRecursion P xs → IsOneOf x xs → P x
in-all P x [] all i = absurd i
in-all P x (y ∷ xs) all (inl same) = subst P same all.0
in-all P x (y ∷ xs) all (inr i) = in-all P x xs all.1 i

in-taken : (P : Delivery → Type 0) (x : Delivery) (taken xs : List Delivery) → SentOf P taken xs → IsOneOf x taken → P x ⊎ IsOneOf x xs
in-taken P x taken [] s i = absurd (subst (IsOneOf x) s i)
in-taken P x taken (y ∷ xs) s i = elim (in_both x s.0 (y ∷ s.1) (subst (IsOneOf x) s.2 i)) [
  | inl out ↦ inl (in-all P x s.0 s.3 out)
  | inr rest ↦ elim rest [ inl same ↦ inr (inl same) | inr j ↦ elim (in-taken P x s.1 xs s.4 j) [ inl p ↦ inl p | inr k ↦ inr (inr k) ] ]
]

-- what a session holds, by what events told
record Stands (l : Channel) (x : ℕ → Exchange) (s : State) : Type 0 where
  pub limited : HasLimit l.limit s.link
  pub opens : l.on ≡ is_some s.link
  pub numbered : AreNumbered s.outbox.copies
  pub laid : AreLaid s.outbox.copies
  pub told : AllTold x l.sent s.outbox.copies

stands-after : (l : Channel) (x : ℕ → Exchange) (old new : State) (s : Step) → Stands l x old → Reacts old s.event s.reaction new → Stands (channel_after l s) (x_over x (marks_of l.on s)) new
stands-after l x old new s h r =
    let p = project l.on l.limit old new s.event s.reaction h.limited h.opens h.numbered r in
    record {
      limited = p.limited;
      opens = p.connected;
      numbered = numbered-calls old.outbox p.calls new.outbox p.runs h.numbered;
      laid = laid-calls old.outbox p.calls new.outbox p.runs h.laid;
      told = rw p.shows.marks at (told-calls x l.sent old.outbox p.calls new.outbox p.runs p.shows.numbers h.numbered h.told);
    }

stands-over : (l : Channel) (x : ℕ → Exchange) (old new : State) (steps : List Step) → Stands l x old → Run old steps new → (y : ℕ → Exchange) × Stands (channel_over l steps) y new
stands-over l x old new [] h r = (x, subst (Stands l x) (sym r) h)
stands-over l x old new (s ∷ ss) h r = stands-over (channel_after l s) (x_over x (marks_of l.on s)) r.0 new ss (stands-after l x old r.0 s h r.1) r.2

-- one that is sent by an event
sent-goes : (l : Channel) (x : ℕ → Exchange) (old new end : State) (s : Step) (ss : List Step) (d : Delivery) → Stands l x old → Reacts old s.event s.reaction new → Run new ss end
    → IsOneOf d (copies_of (firsts (sends_of (sent_in s.reaction.packets)))) → IsSentBy l s ss d (published end.outbox.copies)
sent-goes l x old new end s ss d h r run i =
    let p = project l.on l.limit old new s.event s.reaction h.limited h.opens h.numbered r in
    let l' = channel_after l s in
    let mine = in_copies d (firsts (sends_of (sent_in s.reaction.packets))) i in
    let here : IsOneOf (mine.0, d) (firsts (marks_of l.on s)) = subst (IsOneOf (mine.0, d)) (sym (firsts-last l.on s.event (sends_of (sent_in s.reaction.packets)))) mine.1 in
    let last = subst SendsLast (sym p.shows.marks) (last_by l.on s.event (sends_of (sent_in s.reaction.packets)) (sends_only (sent_in s.reaction.packets))) in
    let after = stands-after l x old new s h r in (
      mine.0,
      here,
      elim (sent_published (mine.0, d) old.outbox p.calls new.outbox p.runs h.laid last (subst (IsOneOf (mine.0, d)) (sym (firsts_told p.calls ∙ ap firsts p.shows.marks)) here)) [
        | inl long ↦ absurd (not-long (moment_of s.event) l'.limit d (short-one (moment_of s.event) l'.limit s.reaction.packets p.shows.sized.packets (mine.0, d) mine.1)
            (too-long l.on l'.limit s.event (mine.0, d) (long-ends l.on l'.limit s.event (mine.0, d) (λ k. p.shows.answered (k, d) (long k)))))
        | inr now ↦ open-goes l' (published new.outbox.copies) ss (published end.outbox.copies) (mine.0, d)
            (going-run l'.on l'.limit (x_over x (marks_of l.on s)) l'.sent new ss end after.limited after.opens after.numbered after.laid after.told run) now
      ],
    )

-- a copy is in the queue, once the first of the events has queued its own
abbrev IsQueued : State → List Step → Delivery → Type 0
IsQueued old [] d = IsOneOf d (waiting old.outbox.copies)
IsQueued old (s ∷ ss) d = IsOneOf d (waiting old.outbox.copies ++ joins_by s.event s.reaction)

is-queued : (old : State) (ss : List Step) (d : Delivery) → IsOneOf d (waiting old.outbox.copies) → IsQueued old ss d
is-queued old [] d i = i
is-queued old (s ∷ ss) d i = in_left d (waiting old.outbox.copies) (joins_by s.event s.reaction) i

goes-run : (l : Channel) (x : ℕ → Exchange) (old end : State) (steps : List Step) (d : Delivery) → Stands l x old → Run old steps end → IsQueued old steps d → GoesFrom l steps d (waiting end.outbox.copies) (published end.outbox.copies)
goes-run l x old end [] d h r i = subst (λ (s : State). IsOneOf d (waiting s.outbox.copies)) (sym r) i
goes-run l x old end (s ∷ ss) d h r i =
    let after = stands-after l x old r.0 s h r.1 in
    let on : IsOneOf d (waiting r.0.outbox.copies) → GoesFrom l (s ∷ ss) d (waiting end.outbox.copies) (published end.outbox.copies) = λ i. inr (inr (goes-run (channel_after l s) (x_over x (marks_of l.on s)) r.0 end ss d after r.2 (is-queued r.0 ss d i))) in
    elim (shape l.limit old r.0 s.event s.reaction h.limited h.numbered r.1) [
      | inl k ↦ on (subst (IsOneOf d) (sym k.queue) i)
      | inr k ↦
          let v = serves (channel_after l s).limit old.outbox s r.0 (inr k) in
          let open_now : (channel_after l s).on ≡ true = after.opens ∙ k.linked in
          elim (in_both d v.taken (v.late ++ waiting r.0.outbox.copies) (subst (IsOneOf d) v.splits i)) [
            | inl t ↦ elim (in-taken (IsLate (moment_of s.event) (channel_after l s).limit) d v.taken (copies_of (firsts (sends_of (sent_in s.reaction.packets)))) v.sent t) [
              | inl late ↦ inr (inl (open_now, late))
              | inr sent ↦ inl (sent-goes l x old r.0 end s ss d h r.1 r.2 sent)
            ]
            | inr t ↦ elim (in_both d v.late (waiting r.0.outbox.copies) t) [
              | inl late ↦ inr (inl (open_now, in-all (IsLate (moment_of s.event) (channel_after l s).limit) d v.late v.left_out late))
              | inr rest ↦ on rest
            ]
          ]
    ]

-- ---- the event that queues it
joins-own : (s : Step) (x : Delivery) (now : ℕ) (full : Bool) → s.event ≡ queues x now → is_once x.qos ≡ false → s.reaction.full ≡ full → (full ≡ true) ⊎ IsOneOf x (joins_by s.event s.reaction)
joins-own s x now true is twice f = inl refl
joins-own s x now false is twice f =
    inr (subst (λ e. IsOneOf x (joins_by e s.reaction)) (sym is) (subst (λ b. IsOneOf x (cond b [] (queued_by (queues x now)))) (sym f) (subst (λ b. IsOneOf x (cond b [] (x ∷ []))) (sym twice) (inl refl))))

starts : (client : List ℕ) → Stands no_channel (λ id. none) (new_session client)
starts client = record { limited = tt; opens = refl; numbered = tt; laid = tt; told = record { told = λ id e bad. (cc bad); stays = λ id t. absurd (false≢true t) } }

pub keeps_copies : KeepsCopies
keeps_copies = λ client before since s x now end is twice run.
    let t = run-split (new_session client) before (s ∷ since) end run in
    let h = stands-over no_channel (λ id. none) (new_session client) t.0 before (starts client) t.1 in
    elim (joins-own s x now s.reaction.full is twice refl) [
      | inl full ↦ inl full
      | inr joins ↦ inr (goes-run (channel_over no_channel before) h.0 t.0 end (s ∷ since) x h.1 t.2 (in_right x (waiting t.0.outbox.copies) (joins_by s.event s.reaction) joins))
    ]
