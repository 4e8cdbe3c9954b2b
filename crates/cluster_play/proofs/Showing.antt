-- What a node shows is what its operations say.
use Rattle.std.proofs.Common.{◌≡◌, ◌↔◌, ℕ, ◌||◌, List, ◌++◌, Some, sym, ap, ◌∙◌, subst}
use Rattle.std.specs.FinMap as map
use Rattle.std.specs.FinSet as set
use Rattle.causal_context.specs.Dots.{Dot}
use Rattle.mqtt_message.specs.declared.message.Message.{Message}
use Rattle.subscription_set.specs.declared.entry.Entry.{Entry}
use Rattle.subscription_set.specs.Standing.{find_entry, live}
use Rattle.replica_store.specs.Answers.{IsAnswer, IsAnswerOf}
use Rattle.replica_store.specs.Operations.{dot_of, IsLive}
use Rattle.replica_store.proofs.Answered.{answer_is}
use Rattle.replica_store.proofs.Views.{live_is}
use Rattle.node_work.specs.Acts.{Act, gather, heard_in, op_in, merge_in}
use Rattle.node_work.specs.View.{HeldView}
use Rattle.cluster_play.specs.Worlds.{World, Happens}
use Rattle.cluster_play.specs.Runs.{Played, IsHonestStep}
use Rattle.cluster_play.specs.Histories.{Reached, acts_of, made, taken, gained, operations, taken_amid, operations_amid}
use Rattle.cluster_play.specs.Agreement.{Holds, HoldsAmid, AnswersByOperations}
use Rattle.cluster_play.proofs.Agreeing.{node_holds, own_dots}
use Rattle.cluster_play.proofs.Bridging.{AreSo, IsSo}
use Rattle.cluster_play.proofs.Growing.{AllSound}
use Rattle.cluster_play.proofs.Brought.{all_merged, all_so, site_acts}
use Rattle.cluster_play.proofs.Explaining.{past}
use Rattle.cluster_play.proofs.Kept.{explained}
use Rattle.cluster_play.proofs.Operations.{own_some}
use Rattle.cluster_play.proofs.Paths.{known_event}
use Rattle.cluster_play.proofs.Rows.{committed}
use Rattle.cluster_play.proofs.Sound.{Sound, state_by}
use Rattle.cluster_play.proofs.Splits.{all_front, gather_both}

pub node_shows : (run : List Played) (w : World) → Reached run w → (i : ℕ) (h : HeldView) → Holds w i h
    → (dot : Dot) (entry : Entry) → (find_entry dot (live h.store.subscriptions) ≡ Some entry) ↔ IsLive (operations i run) dot entry
node_shows run w r i h at dot entry =
    live_is (operations i run) h.store (own_some (made run) (λ o. taken i run (dot_of o)) (own_dots run w r)) (node_holds run w r i h at).0 dot entry

pub node_answers : (run : List Played) (w : World) → Reached run w → (i : ℕ) (h : HeldView) → Holds w i h
    → (filter : List ℕ) (now : ℕ) (out : List Message) → IsAnswer filter now (map.entries h.store.retained) out → IsAnswerOf (operations i run) filter now out
node_answers run w r i h at filter now out a =
    answer_is (operations i run) h.store (own_some (made run) (λ o. taken i run (dot_of o)) (own_dots run w r)) (node_holds run w r i h at).0 filter now out a

pub node_holds_amid : (run : List Played) (w w' : World) (m : Played) → Reached run w → IsHonestStep w.frames m.step → Happens w m.step m.fate w'
    → (i : ℕ) (before : List Act) (mid : HeldView) → HoldsAmid w m i before mid → AnswersByOperations (operations_amid i run before) mid
node_holds_amid run w w' m r honest happens i before mid a =
    let c = committed w m.step m.fate w' a.event happens a.commits in
    let known = known_event w m.step m.fate w' a.event honest happens a.commits in
    let x = explained run w r in
    let here = x.sites i a.holds.site a.holds.at in
    let same : here.held ≡ a.held = sym (here.up a.held a.holds.up) in
    let place = c.was.node.place in
    let all = all_merged (past r.start run) w x place c.before c.after a.event (acts_of m.fate) c.outputs known c.steps in
    let so = all_so (past r.start run) w x place c.before c.after a.event (acts_of m.fate) c.outputs known c.steps in
    let own_acts = (all_front (Sound (made run)) (gather merge_in before) (gather merge_in a.rest) (subst (AllSound (made run)) (ap (gather merge_in) a.acts ∙ gather_both merge_in before a.rest) all)).0 in
    let own_so = (all_front (IsSo (past r.start run).took) (gather heard_in before) (gather heard_in a.rest) (subst (AreSo (past r.start run).took) (ap (gather heard_in) a.acts ∙ gather_both heard_in before a.rest) so)).0 in
    let g = (site_acts (past r.start run) w x i a.holds.site a.holds.at a.held mid before a.holds.up a.runs own_acts own_so).grows in
    let listed : (d : Dot) → set.contains mid.store.taken d ≡ taken_amid i run before d =
    λ d. g.takes d ∙ ap (λ (v : HeldView). set.contains v.store.taken d || gained before d) (sym same) ∙ ap (λ b. b || gained before d) (here.listed d) in
    let state = state_by (made run ++ gather op_in before) mid.store (taken_amid i run before) g.holding.grown.sound listed in
    record {
      state = state;
      answers = answer_is (operations_amid i run before) mid.store (own_some (made run ++ gather op_in before) (λ o. taken_amid i run before (dot_of o)) g.holding.grown.own_dots) state;
    }
