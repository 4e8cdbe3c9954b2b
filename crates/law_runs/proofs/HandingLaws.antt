-- The copies of a message that is taken of a lane join their sessions directly after that.
use Rattle.std.proofs.Common.{◌≡◌, inl, inr, ℕ, List, [], ◌∷◌, ◌++◌, Some, sym, ap, ◌∙◌, subst, append_assoc}
use Rattle.std.proofs.lemmas.List.{append-nil}
use Rattle.bridge_frames.specs.declared.forward.Forward.{Forward}
use Rattle.bridge_routes.specs.declared.plain.PlainCopy.{PlainCopy as Copy}
use Rattle.node_work.specs.Acts.{Act, Session, Bridge, Runs, next}
use Rattle.node_work.specs.Calling.{Queues, QueuesOne}
use Rattle.node_work.specs.Handed.{IsHanded, found}
use Rattle.node_work.specs.Held.Bridge.{Took}
use Rattle.node_work.specs.Held.Sessions.{SessionStep, Called}
use Rattle.node_work.specs.Passing.{seated}
use Rattle.node_work.specs.View.{Place, HeldView}
use Rattle.node_work.specs.Working.{Acting, Then}
use Rattle.node_clients.specs.Passing as passing
use Rattle.node_clients.proofs.Determined.{runs_determined}
use Rattle.law_runs.specs.StepPublishing.{CopiesAreQueued}
use Rattle.law_runs.specs.Handing.{JoinAtOnce, HandedIsQueued}
use Rattle.law_runs.proofs.Keeping.{Property, IsPlain, Joins, Keeps, none_some, k_each}
use Rattle.law_runs.proofs.Splits.{head_is, tail_is, none_there, alone_is, left_by, runs_split, splits}
use Rattle.law_runs.proofs.Passing.{HaveAll, have_both, have_seated, each_queued}
use Rattle.law_runs.proofs.Work.{queues_one, serves}
use Rattle.law_runs.proofs.Events.{decides}

-- ---- the messages that are taken among acts
abbrev Handed : Property
Handed p h acts =
    (before after : List Act) (from number : ℕ) (m : Forward) (copies : List Copy) (lost : ℕ) (held : HeldView)
    → acts ≡ before ++ Bridge (Took from number m copies lost) ∷ after → Runs p h before held → JoinAtOnce held.at copies after

joins_more : (at : ℕ) (copies : List Copy) (xs ys : List Act) → JoinAtOnce at copies xs → JoinAtOnce at copies (xs ++ ys)
joins_more at copies xs ys d = record { calls = d.calls; rest = d.rest ++ ys; is = ap (λ zs. zs ++ ys) d.is ∙ append_assoc d.calls d.rest ys; queued = d.queued }

-- an act that takes none
one_handed : (p : Place) (h : HeldView) (a : Act) → IsPlain a → Handed p h (a ∷ [])
one_handed p h a plain before after from number m copies lost held is ran = absurd (subst IsPlain (alone_is a (Bridge (Took from number m copies lost)) before after is) plain)

call_handed : (p : Place) (h : HeldView) (s : SessionStep) → Handed p h (Session (Called s) ∷ [])
call_handed p h s before after from number m copies lost held is ran =
    let a = Bridge (Took from number m copies lost) in absurd (let z : Session (Called s) ≡ a = alone_is (Session (Called s)) a before after is in cc)

both_handed : (p : Place) (h mid : HeldView) (xs ys : List Act) → Runs p h xs mid → Handed p h xs → Handed p mid ys → Handed p h (xs ++ ys)
both_handed p h mid xs ys runs f g before after from number m copies lost held is ran =
    elim (splits xs ys before after (Bridge (Took from number m copies lost)) is) [
      | inl r ↦ subst (JoinAtOnce held.at copies) (sym r.2) (joins_more held.at copies r.0 ys (f before r.0 from number m copies lost held r.1 ran))
      | inr r ↦ (
          let parts = runs_split p xs r.0 h held (subst (λ zs. Runs p h zs held) r.1 ran) in
          let same : parts.0 ≡ mid = runs_determined p xs h parts.0 mid parts.1 runs in
          g r.0 after from number m copies lost held r.2 (subst (λ v. Runs p v r.0 held) same parts.2))
    ]

handed : Joins Handed
handed = record {
  none = λ p h before after from number m copies lost held is. none_there before after (Bridge (Took from number m copies lost)) is;
  one = one_handed;
  both = both_handed;
}

-- ---- the act that takes a message, with what follows it
took_handed : (from number : ℕ) (m : Forward) (copies : List Copy) (lost : ℕ) (p : Place) (h mid : HeldView) (rest : List Act)
    → mid ≡ next h (Bridge (Took from number m copies lost)) → JoinAtOnce h.at copies rest → Handed p mid rest → Handed p h (Bridge (Took from number m copies lost) ∷ rest)
took_handed from number m copies lost p h mid rest left joined more [] after peer n x others l held is ran =
    let same : copies ≡ others = (let z = head_is is in cc) in
    subst (λ (v : HeldView). JoinAtOnce v.at others after) (sym ran) (subst (λ xs. JoinAtOnce h.at xs after) same (subst (JoinAtOnce h.at copies) (tail_is is) joined))
took_handed from number m copies lost p h mid rest left joined more (b ∷ before) after peer n x others l held is ran =
    let same : ran.0 ≡ mid = ran.1.1 ∙ ap (next h) (sym (head_is is)) ∙ sym left in
    more before after peer n x others l held (tail_is is) (subst (λ v. Runs p v before held) same ran.2)

-- each copy has its session
have_handed : (h : HeldView) (m : Forward) (copies : List Copy) (lost : ℕ) → IsHanded h m copies lost → HaveAll h copies
have_handed h m copies lost (inl d) =
    let made = d.1 in
    subst (HaveAll h) (sym made.copies_are) (have_both h (seated h made.plain) (seated h (found made.picked)) (have_seated h made.plain) (have_seated h (found made.picked)))
have_handed h m copies lost (inr d) = subst (HaveAll h) (sym d.1) tt

takes_copies : (from number : ℕ) (m : Forward) (copies : List Copy) (lost : ℕ) (x : Unit {0}) (p : Place) (h : HeldView) (acts : List Act)
    → HaveAll h copies → Then (Acting (λ p h. Bridge (Took from number m copies lost))) (λ _. Queues copies) (Some x) p h acts → Handed p h acts
takes_copies from number m copies lost x p h acts there (inl d) = none_some (sym d.0)
takes_copies from number m copies lost x p h acts there (inr (y, own, mid, rest, one, runs, more, is)) =
    let a = Bridge (Took from number m copies lost) in
    let left : mid ≡ next h a = left_by p h mid a own one.1 runs in
    let queued : CopiesAreQueued mid.at copies rest = each_queued copies x p mid rest (subst (λ v. HaveAll v copies) (sym left) there) more in
    let joined : JoinAtOnce h.at copies rest = record { calls = rest; rest = []; is = sym (append-nil rest); queued = subst (λ n. CopiesAreQueued n copies rest) (ap (λ (v : HeldView). v.at) left) queued } in
    subst (Handed p h) (sym (is ∙ ap (λ zs. zs ++ rest) one.1))
    (took_handed from number m copies lost p h mid rest left joined ((k_each Handed handed QueuesOne copies (queues_one Handed handed)).of x p mid rest more))

takes_forward : (from number : ℕ) (m : Forward) → Keeps Handed (passing.TakesForward from number m)
takes_forward from number m = record { of = λ x p h acts d. takes_copies from number m d.0.0 d.0.1 x p h acts (have_handed h m d.0.0 d.0.1 d.1) d.2 }

pub handed_is_queued : HandedIsQueued
handed_is_queued = λ e p h held acts d before after from number m copies lost is ran.
    (decides Handed handed (serves Handed handed call_handed) takes_forward e).of tt p h acts d before after from number m copies lost held is ran
