-- Packets that break no limit go on in their order.
use Rattle.std.proofs.Common.{◌≡◌, ℕ, Bool, true, false, List, [], ◌∷◌, ◌++◌, Option, Some, None, Result, Ok, Err, refl, sym, ap, subst, ◌∙◌, append_assoc}
use Rattle.std.specs.Prelude.{◌||◌, flat_map}
use Rattle.std.specs.List.{AllByRecursion, concat}
use Rattle.std.proofs.lemmas.Grind.{flat_map-append}
use Rattle.std.proofs.lemmas.List.{append-nil}
use Rattle.mqtt_packets.specs.Stream.{packet_at}
use Rattle.mqtt_packets.specs.declared.fault.PacketFault.{PacketFault}
use Rattle.mqtt_packets.specs.declared.packet.Packet.{Packet}
use Rattle.mqtt_bounds.specs.Laws.{IsWithin}
use Rattle.mqtt_bounds.specs.declared.bounds.Bounds.{Bounds}
use Rattle.mqtt_bounds.specs.declared.verdict.Mend.{Mend}
use Rattle.mqtt_bounds.specs.declared.verdict.Mend.TheVariants as mends
use Rattle.mqtt_bounds.specs.declared.verdict.Verdict.{Verdict}
use Rattle.mqtt_bounds.specs.declared.verdict.Verdict.TheVariants as verdicts
use Rattle.mqtt_bounds.proofs.Within.{goes_within}
use Rattle.mqtt_bounds.specs.Pieces.{Cut, cut}
use Rattle.mqtt_bounds.specs.declared.cut.End.{End}
use Rattle.mqtt_bounds.specs.declared.cut.End.TheVariants as ends
use Rattle.door_bounds.specs.Laws.{AllGoOn, IsReadWithin, is_answer, told_by}
use Rattle.door_bounds.specs.Limits.{limit_of}
use Rattle.door_bounds.specs.Walk.{Walked, begins_connect, come, come_on, ended, finish_with, put, started, told_with, took, verdict_at, walked, with_step}
use Rattle.door_bounds.specs.declared.client.Client.{Client}
use Rattle.door_bounds.specs.declared.step.Step.{Step}
use Rattle.door_bounds.specs.declared.step.Step.TheVariants as steps

-- what was told so far, and is told next
abbrev told_in : Walked → List ℕ
told_in w = flat_map told_by w.steps ++ w.run

abbrev pub answers_in : Walked → List Packet
answers_in w = flat_map is_answer w.steps

goes_case : (b : Bounds) (full : Bool) (r : Result (Option (Packet × List ℕ)) PacketFault) → ((p : Packet) (rest : List ℕ) → r ≡ Ok (Some (p, rest)) → IsWithin b full p) → (m : Mend) × (verdict_at b full r ≡ verdicts.Goes m)
goes_case b full (Ok (Some y)) is = goes_within b full y.0 (is y.0 y.1 refl)
goes_case b full (Ok None) is = (mends.Nothing, refl)
goes_case b full (Err f) is = (mends.Nothing, refl)

step_told : (w : Walked) (x : List ℕ) (m : Mend) → told_in (with_step w (steps.Tells x m)) ≡ told_in w ++ x
step_told w x m =
    let front : flat_map told_by (w.steps ++ steps.Tells w.run mends.Nothing ∷ []) ≡ told_in w =
    flat_map-append told_by w.steps (steps.Tells w.run mends.Nothing ∷ []) ∙ ap (λ (ys : List ℕ). flat_map told_by w.steps ++ ys) (append-nil w.run) in
    let all : flat_map told_by ((w.steps ++ steps.Tells w.run mends.Nothing ∷ []) ++ steps.Tells x m ∷ []) ≡ told_in w ++ x =
    flat_map-append told_by (w.steps ++ steps.Tells w.run mends.Nothing ∷ []) (steps.Tells x m ∷ []) ∙ ap (λ (ys : List ℕ). ys ++ (x ++ [])) front ∙ ap (λ (ys : List ℕ). told_in w ++ ys) (append-nil x) in
    append-nil (flat_map told_by ((w.steps ++ steps.Tells w.run mends.Nothing ∷ []) ++ steps.Tells x m ∷ [])) ∙ all

step_answers : (w : Walked) (x : List ℕ) (m : Mend) → answers_in (with_step w (steps.Tells x m)) ≡ answers_in w
step_answers w x m =
    flat_map-append is_answer (w.steps ++ steps.Tells w.run mends.Nothing ∷ []) (steps.Tells x m ∷ []) ∙ append-nil (flat_map is_answer (w.steps ++ steps.Tells w.run mends.Nothing ∷ []))
    ∙ flat_map-append is_answer w.steps (steps.Tells w.run mends.Nothing ∷ []) ∙ append-nil (flat_map is_answer w.steps)

pub with_told : (w : Walked) (x : List ℕ) (m : Mend) → (told_in (told_with w x m) ≡ told_in w ++ x) × (answers_in (told_with w x m) ≡ answers_in w)
with_told w x mends.Nothing = (sym (append_assoc (flat_map told_by w.steps) w.run x), refl)
with_told w x (mends.Connack longest expiry) = (step_told w x (mends.Connack longest expiry), step_answers w x (mends.Connack longest expiry))
with_told w x (mends.Suback identifier codes) = (step_told w x (mends.Suback identifier codes), step_answers w x (mends.Suback identifier codes))
with_told w x (mends.Disconnect reason) = (step_told w x (mends.Disconnect reason), step_answers w x (mends.Disconnect reason))

took_told : (b : Bounds) (full : Bool) (w : Walked) (x : List ℕ) → IsReadWithin b full x → (told_in (took b full w x) ≡ told_in w ++ x) × (answers_in (took b full w x) ≡ answers_in w)
took_told b full w x is =
    let g = goes_case b full (packet_at x) is in
    let w' : Walked = record w { greeted = w.greeted || begins_connect x } in
    let same : put w' x (verdict_at b full (packet_at x)) ≡ told_with w' x g.0 = ap (put w' x) g.1 in
    let t = with_told w' x g.0 in
    (ap told_in same ∙ t.0, ap answers_in same ∙ t.1)

walked_told : (b : Bounds) (full : Bool) (w : Walked) (ps : List (List ℕ)) → AllByRecursion (IsReadWithin b full) ps
    → (told_in (walked b full w ps) ≡ told_in w ++ concat ps) × (answers_in (walked b full w ps) ≡ answers_in w)
walked_told b full w [] all = (sym (append-nil (told_in w)), refl)
walked_told b full w (p ∷ ps) all =
    let one = took_told b full w p all.0 in
    let rest = walked_told b full (took b full w p) ps all.1 in
    (rest.0 ∙ ap (λ (ys : List ℕ). ys ++ concat ps) one.0 ∙ append_assoc (told_in w) p (concat ps), rest.1 ∙ one.1)

finished_told : (c : Cut) (w : Walked) (end : End) → c.end ≡ end → end ≡ ends.Open → (flat_map told_by (finish_with c w).steps ≡ told_in w) × (flat_map is_answer (finish_with c w).steps ≡ answers_in w)
finished_told c w ends.TooLong is begun = absurd cc
finished_told c w ends.Broken is begun = absurd cc
finished_told c w ends.Open is begun =
    let nothing : ended c.end c.rest ≡ [] = ap (λ (e : End). ended e c.rest) is in
    let last : w.run ++ ended c.end c.rest ≡ w.run = ap (λ (ys : List ℕ). w.run ++ ys) nothing ∙ append-nil w.run in (
      flat_map-append told_by w.steps (steps.Tells (w.run ++ ended c.end c.rest) mends.Nothing ∷ []) ∙ ap (λ (ys : List ℕ). flat_map told_by w.steps ++ ys) (append-nil (w.run ++ ended c.end c.rest) ∙ last),
      flat_map-append is_answer w.steps (steps.Tells (w.run ++ ended c.end c.rest) mends.Nothing ∷ []) ∙ append-nil (flat_map is_answer w.steps),
    )

come_told : (b : Bounds) (full : Bool) (c : Client) (bytes : List ℕ) → (cut (limit_of b.longest_packet) (c.partial ++ bytes)).end ≡ ends.Open
    → AllByRecursion (IsReadWithin b full) (cut (limit_of b.longest_packet) (c.partial ++ bytes)).packets
    → (flat_map told_by (come_on b full c bytes).steps ≡ concat (cut (limit_of b.longest_packet) (c.partial ++ bytes)).packets) × (flat_map is_answer (come_on b full c bytes).steps ≡ [])
come_told b full c bytes last all =
    let parts = cut (limit_of b.longest_packet) (c.partial ++ bytes) in
    let w = walked b full (started c.greeted) parts.packets in
    let told = finished_told parts w parts.end refl last in
    let each = walked_told b full (started c.greeted) parts.packets all in
    (told.0 ∙ each.0, told.1 ∙ each.1)

pub all_go_on : AllGoOn
all_go_on b full c bytes on last all = rw on (come_told b full c bytes last all)
