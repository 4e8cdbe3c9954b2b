-- What the handler inside is told of the packets that come.
use Rattle.std.proofs.Common.{◌≡◌, ℕ, Bool, true, false, cond, List, [], ◌∷◌, ◌++◌, Option, Some, None, Result, Ok, Err, inl, inr, refl, sym, ap, subst, ◌∙◌, append_assoc}
use Rattle.std.specs.Prelude.{◌||◌}
use Rattle.std.specs.List.{AllByRecursion, concat}
use Rattle.std.proofs.lemmas.List.{append-nil}
use Rattle.mqtt_packets.specs.Stream.{packet_at}
use Rattle.mqtt_packets.specs.Written.{HasSpelling, written}
use Rattle.mqtt_packets.specs.declared.fault.PacketFault.{PacketFault}
use Rattle.mqtt_packets.specs.declared.packet.Packet.{Packet}
use Rattle.mqtt_bounds.specs.Bounded.{bounded}
use Rattle.mqtt_bounds.specs.Laws.{IsWithin}
use Rattle.mqtt_bounds.specs.declared.bounds.Bounds.{Bounds}
use Rattle.mqtt_bounds.specs.declared.verdict.Mend.{Mend}
use Rattle.mqtt_bounds.specs.declared.verdict.Mend.TheVariants as mends
use Rattle.mqtt_bounds.specs.declared.verdict.Verdict.{Verdict}
use Rattle.mqtt_bounds.specs.declared.verdict.Verdict.TheVariants as verdicts
use Rattle.mqtt_bounds.proofs.Within.{other_within, same_within}
use Rattle.mqtt_bounds.specs.PieceLaws.{Ends}
use Rattle.mqtt_bounds.specs.Pieces.{Cut, cut, cut_by, cut_within, front_at}
use Rattle.mqtt_bounds.specs.declared.cut.End.{End}
use Rattle.mqtt_bounds.specs.declared.cut.End.TheVariants as ends
use Rattle.mqtt_bounds.specs.declared.front.Front.{Front}
use Rattle.mqtt_bounds.specs.declared.front.Front.TheVariants as fronts
use Rattle.mqtt_bounds.proofs.Ends.{cut_ends}
use Rattle.door_bounds.specs.Laws.{IsLet, IsPart, IsReadWithin}
use Rattle.door_bounds.specs.Limits.{limit_of}
use Rattle.door_bounds.specs.Mending.{IsSpelled}
use Rattle.door_bounds.specs.Walk.{Walked, answered_with, begins_connect, come, come_on, ended, finish_with, put, refused, started, told_with, too_large, took, verdict_at, walked, with_step}
use Rattle.door_bounds.specs.declared.client.Client.{Client}
use Rattle.door_bounds.specs.declared.step.Step.{Step}
use Rattle.door_bounds.specs.declared.step.Step.TheVariants as steps
use Rattle.door_bounds.proofs.Told.{OfStep, all_then}

-- ---- bytes

concat_then : (xs ys : List (List ℕ)) → concat (xs ++ ys) ≡ concat xs ++ concat ys
concat_then [] ys = refl
concat_then (x ∷ xs) ys = ap (λ (zs : List ℕ). x ++ zs) (concat_then xs ys) ∙ sym (append_assoc x (concat xs) (concat ys))

pub let_none : (b : Bounds) (full : Bool) → IsLet b full []
let_none b full = ([], refl, tt)

pub let_one : (b : Bounds) (full : Bool) (x : List ℕ) → IsPart b full x → IsLet b full x
let_one b full x is = (x ∷ [], sym (append-nil x), (is, tt))

pub let_then : (b : Bounds) (full : Bool) (xs ys : List ℕ) → IsLet b full xs → IsLet b full ys → IsLet b full (xs ++ ys)
let_then b full xs ys (ps, is, all) (qs, are, more) =
    (ps ++ qs, ap (λ (zs : List ℕ). zs ++ ys) is ∙ ap (λ (zs : List ℕ). concat ps ++ zs) are ∙ sym (concat_then ps qs), all_then (IsPart b full) ps qs all more)

asks_let : (b : Bounds) (full : Bool) (p : Packet) (m : Mend) → IsWithin b full p → OfStep (IsLet b full) (steps.Asks p m)
asks_let b full p m within = λ bs spelled.
    elim spelled [
      | inl s ↦ let_one b full bs (inr (inl (p, within, s.1)))
      | inr s ↦ subst (IsLet b full) (sym s.1) (let_none b full)
    ]

-- ---- verdicts

read_case : (b : Bounds) (full : Bool) (m : Mend) (r : Result (Option (Packet × List ℕ)) PacketFault) → verdict_at b full r ≡ verdicts.Goes m → (p : Packet) (rest : List ℕ) → r ≡ Ok (Some (p, rest)) → IsWithin b full p
read_case b full m r e p rest is =
    let same : bounded b full p ≡ verdicts.Goes m = sym (ap (verdict_at b full) is) ∙ e in
    same_within b full p m same

goes_read : (b : Bounds) (full : Bool) (m : Mend) (x : List ℕ) → verdict_at b full (packet_at x) ≡ verdicts.Goes m → IsReadWithin b full x
goes_read b full m x e = λ p rest is. read_case b full m (packet_at x) e p rest is

becomes_case : (b : Bounds) (full : Bool) (q : Packet) (m : Mend) (r : Result (Option (Packet × List ℕ)) PacketFault) → verdict_at b full r ≡ verdicts.Becomes q m → IsWithin b full q
becomes_case b full q m (Ok (Some y)) e = other_within b full y.0 q m e
becomes_case b full q m (Ok None) e = absurd cc
becomes_case b full q m (Err f) e = absurd cc

-- ---- one packet after another

pub record IsWalkLet (b : Bounds) (full : Bool) (w : Walked) : Type 0 where
  pub steps : AllByRecursion (OfStep (IsLet b full)) w.steps
  pub run : IsLet b full w.run

step_let : (b : Bounds) (full : Bool) (w : Walked) (s : Step) → IsWalkLet b full w → OfStep (IsLet b full) s → IsWalkLet b full (with_step w s)
step_let b full w s is one = record {
  steps = all_then (OfStep (IsLet b full)) (w.steps ++ steps.Tells w.run mends.Nothing ∷ []) (s ∷ []) (all_then (OfStep (IsLet b full)) w.steps (steps.Tells w.run mends.Nothing ∷ []) is.steps (is.run, tt)) (one, tt);
  run = let_none b full;
}

more_let : (b : Bounds) (full : Bool) (w : Walked) (x : List ℕ) → IsWalkLet b full w → IsPart b full x → IsWalkLet b full (record w { run = w.run ++ x })
more_let b full w x is one = record { steps = is.steps; run = let_then b full w.run x is.run (let_one b full x one) }

told_let : (b : Bounds) (full : Bool) (w : Walked) (x : List ℕ) (m : Mend) → IsWalkLet b full w → IsReadWithin b full x → IsWalkLet b full (told_with w x m)
told_let b full w x mends.Nothing is read = more_let b full w x is (inl read)
told_let b full w x (mends.Connack longest expiry) is read = step_let b full w (steps.Tells x (mends.Connack longest expiry)) is (let_one b full x (inl read))
told_let b full w x (mends.Suback identifier codes) is read = step_let b full w (steps.Tells x (mends.Suback identifier codes)) is (let_one b full x (inl read))
told_let b full w x (mends.Disconnect reason) is read = step_let b full w (steps.Tells x (mends.Disconnect reason)) is (let_one b full x (inl read))

answered_let : (b : Bounds) (full : Bool) (w : Walked) (answer : Option Packet) → IsWalkLet b full w → IsWalkLet b full (answered_with w answer)
answered_let b full w None is = is
answered_let b full w (Some p) is = step_let b full w (steps.Answers p) is tt

refused_case : (b : Bounds) (full : Bool) (w : Walked) (x : List ℕ) (answer : Option Packet) (greeted : Bool) → IsWalkLet b full w → IsWalkLet b full (cond greeted (answered_with w answer) (record w { run = w.run ++ too_large x }))
refused_case b full w x answer true is = answered_let b full w answer is
refused_case b full w x answer false is = more_let b full w (too_large x) is (inr (inr (inl (x, refl))))

put_let : (b : Bounds) (full : Bool) (w : Walked) (x : List ℕ) (v : Verdict) → verdict_at b full (packet_at x) ≡ v → IsWalkLet b full w → IsWalkLet b full (put w x v)
put_let b full w x (verdicts.Goes m) e is = told_let b full w x m is (goes_read b full m x e)
put_let b full w x (verdicts.Becomes q m) e is = step_let b full w (steps.Asks q m) is (asks_let b full q m (becomes_case b full q m (packet_at x) e))
put_let b full w x (verdicts.Refused answer) e is = refused_case b full w x answer w.greeted is
put_let b full w x (verdicts.Ends reason) e is = step_let b full w (steps.Tells (too_large x) (mends.Disconnect reason)) is (let_one b full (too_large x) (inr (inr (inl (x, refl)))))

took_let : (b : Bounds) (full : Bool) (w : Walked) (x : List ℕ) → IsWalkLet b full w → IsWalkLet b full (took b full w x)
took_let b full w x is = put_let b full (record w { greeted = w.greeted || begins_connect x }) x (verdict_at b full (packet_at x)) refl (record { steps = is.steps; run = is.run })

walked_let : (b : Bounds) (full : Bool) (w : Walked) (ps : List (List ℕ)) → IsWalkLet b full w → IsWalkLet b full (walked b full w ps)
walked_let b full w [] is = is
walked_let b full w (p ∷ ps) is = walked_let b full (took b full w p) ps (took_let b full w p is)

-- ---- bytes that came

ended_let : (b : Bounds) (full : Bool) (end : End) (rest : List ℕ) → Ends (limit_of b.longest_packet) rest end → IsLet b full (ended end rest)
ended_let b full ends.Open rest e = let_none b full
ended_let b full ends.TooLong rest e = let_one b full (too_large rest) (inr (inr (inl (rest, refl))))
ended_let b full ends.Broken rest e = let_one b full rest (inr (inr (inr e)))

finished_let : (b : Bounds) (full : Bool) (c : Cut) (w : Walked) → Ends (limit_of b.longest_packet) c.rest c.end → IsWalkLet b full w → AllByRecursion (OfStep (IsLet b full)) (finish_with c w).steps
finished_let b full c w e is =
    all_then (OfStep (IsLet b full)) w.steps (steps.Tells (w.run ++ ended c.end c.rest) mends.Nothing ∷ []) is.steps (let_then b full w.run (ended c.end c.rest) is.run (ended_let b full c.end c.rest e), tt)

come_on_let : (b : Bounds) (full : Bool) (c : Client) (bytes : List ℕ) → AllByRecursion (OfStep (IsLet b full)) (come_on b full c bytes).steps
come_on_let b full c bytes =
    let parts = cut (limit_of b.longest_packet) (c.partial ++ bytes) in
    finished_let b full parts (walked b full (started c.greeted) parts.packets) (cut_ends (limit_of b.longest_packet) (c.partial ++ bytes))
    (walked_let b full (started c.greeted) parts.packets (record { steps = tt; run = let_none b full }))

come_case : (b : Bounds) (full : Bool) (c : Client) (bytes : List ℕ) (over : Bool) → c.over ≡ over → AllByRecursion (OfStep (IsLet b full)) (come b full c bytes).steps
come_case b full c bytes true e = rw e tt
come_case b full c bytes false e = rw e (come_on_let b full c bytes)

pub come_let : (b : Bounds) (full : Bool) (c : Client) (bytes : List ℕ) → AllByRecursion (OfStep (IsLet b full)) (come b full c bytes).steps
come_let b full c bytes = come_case b full c bytes c.over refl
