-- A frame that goes out, or is counted.
use Rattle.std.proofs.Common.{◌≡◌, inl, inr, ℕ, Bool, true, false, cond, List, [], ◌∷◌, ◌++◌, length, Some, refl, sym, ap, ◌∙◌, arith}
use Rattle.std.specs.Int.{to_be_bytes, w8, w16, w64}
use Rattle.std.proofs.lemmas.Bool.{le-leb}
use Rattle.std.proofs.lemmas.List.{length-append}
use Rattle.mqtt_fields.proofs.NumberLaws.{wide8, wide16, wide64}
use Rattle.bridge_frames.specs.declared.body.FrameBody.TheVariants.{Got}
use Rattle.bridge_frames.specs.declared.frame.BridgeFrame.{BridgeFrame}
use Rattle.bridge_frames.specs.Frames.{content, limit}
use Rattle.node_work.specs.declared.counts.Missed.TheVariants.{FrameTooLarge}
use Rattle.law_runs.specs.LaneHistories.{by_bridge, took_by}
use Rattle.node_work.specs.Acts.{Act, Bridge, Runs, gather, heard_in}
use Rattle.node_work.specs.Doings.{GivesFrame, Misses, is_small}
use Rattle.node_work.specs.Held.Bridge.{Gave, Left_out}
use Rattle.node_work.specs.View.{Place, HeldView}
use Rattle.node_work.specs.Working.{Acting, If, Each}
use Rattle.node_work.proofs.Working.{gather-append}
use Rattle.law_runs.proofs.Keeping.{none_some}
use Rattle.law_runs.proofs.Splits.{left_by}
use Rattle.law_steps.specs.Frames.{given_in, frames_given, those_small}

-- what it leaves of what frames tell
pub record GivesOne (p : Place) (h h' : HeldView) (f : BridgeFrame) (acts : List Act) : Type 0 where
  pub frames : frames_given acts ≡ those_small (f ∷ [])
  pub store : h'.store ≡ h.store
  pub bridge : h'.bridge ≡ h.bridge
  pub hears : gather heard_in acts ≡ []
  pub takes : (j : ℕ) → gather (by_bridge (took_by j)) acts ≡ []

gives_by : (b : Bool) (f : BridgeFrame) (x : Unit {0}) (p : Place) (h h' : HeldView) (acts : List Act) → is_small f ≡ b → If b (Acting (λ p h. Bridge (Gave f))) (Misses FrameTooLarge) (Some x) p h acts → Runs p h acts h' → GivesOne p h h' f acts
gives_by true f x p h h' acts small d runs =
    let left = left_by p h h' (Bridge (Gave f)) acts d.1 runs in
    record { frames = ap frames_given d.1 ∙ ap (λ b. cond b (f ∷ []) []) (sym small); store = ap (λ (v : HeldView). v.store) left; bridge = ap (λ (v : HeldView). v.bridge) left; hears = ap (gather heard_in) d.1; takes = λ j. ap (gather (by_bridge (took_by j))) d.1 }
gives_by false f x p h h' acts small d runs =
    let left = left_by p h h' (Bridge (Left_out FrameTooLarge)) acts d.1 runs in
    record { frames = ap frames_given d.1 ∙ ap (λ b. cond b (f ∷ []) []) (sym small); store = ap (λ (v : HeldView). v.store) left; bridge = ap (λ (v : HeldView). v.bridge) left; hears = ap (gather heard_in) d.1; takes = λ j. ap (gather (by_bridge (took_by j))) d.1 }

pub gives_one : (f : BridgeFrame) (x : Unit {0}) (p : Place) (h h' : HeldView) (acts : List Act) → GivesFrame f (Some x) p h acts → Runs p h acts h' → GivesOne p h h' f acts
gives_one f x p h h' acts d runs = gives_by (is_small f) f x p h h' acts refl d runs

pub small_both : (xs ys : List BridgeFrame) → those_small (xs ++ ys) ≡ those_small xs ++ those_small ys
small_both [] ys = refl
small_both (x ∷ xs) ys = by (is_small x) (small_both xs ys)
  where
    by : (b : Bool) → those_small (xs ++ ys) ≡ those_small xs ++ those_small ys → cond b (x ∷ those_small (xs ++ ys)) (those_small (xs ++ ys)) ≡ cond b (x ∷ those_small xs) (those_small xs) ++ those_small ys
    by true rest = ap (λ zs. x ∷ zs) rest
    by false rest = rest

pub each_given : (fs : List BridgeFrame) (x : Unit {0}) (p : Place) (h : HeldView) (acts : List Act) → Each GivesFrame fs (Some x) p h acts → frames_given acts ≡ those_small fs
each_given [] x p h acts d = ap frames_given d.1
each_given (f ∷ fs) x p h acts (inl d) = none_some (sym d.0)
each_given (f ∷ fs) x p h acts (inr (y, own, mid, rest, one, runs, more, is)) =
    ap frames_given is ∙ gather-append given_in own rest ∙ (λ i. (gives_one f y p h mid own one runs).frames i ++ each_given fs x p mid rest more i) ∙ sym (small_both (f ∷ []) fs)

-- Got is small: it has a kind, two nodes and a number
pub got_small : (from to n : ℕ) → is_small (record { from = from; to = to; body = Got n }) ≡ true
unfolding content
got_small from to n =
    let a = wide8.len 5 in
    let b = wide16.len from in
    let c = wide16.len to in
    let d = wide64.len n in
    let last = length-append (to_be_bytes w16 to) (to_be_bytes w64 n) in
    let middle = length-append (to_be_bytes w16 from) (to_be_bytes w16 to ++ to_be_bytes w64 n) in
    let whole = length-append (to_be_bytes w8 5) (to_be_bytes w16 from ++ (to_be_bytes w16 to ++ to_be_bytes w64 n)) in
    le-leb (length (content.bytes (record { from = from; to = to; body = Got n }))) limit (omega arith)
