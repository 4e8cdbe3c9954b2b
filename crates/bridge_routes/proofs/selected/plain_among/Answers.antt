use Rattle.std.proofs.Common.{Vec, Bor, Global, ◌+◌, ◌∷◌, drop, false, IsTrue, refl, sym, ap, subst, ◌∙◌}
use Rattle.std.proofs.lemmas.List.{drop_more, drop_all}
use Rattle.filter_trie.proofs.Selecting.{Follows, begins, goes_with, goes_without, ends}
use Rattle.subscription_set.specs.Entries.{Entry}
use Rattle.mqtt_topics.specs.Topics.{IsShared}
use Rattle.bridge_routes.specs.Tables.{referents}
use Rattle.bridge_routes.proofs.selected.plain_among.Goals as goal
use Rattle.bridge_routes.proofs.selected.plain_among.Goals.{then-is_plain+in_ok-push, else-is_plain}

pub loop-entry-init : goal.loop-entry-init
loop-entry-init c = begins (λ (e : Entry). IsShared e.filter → ⊥) _ _ _ refl (ap referents c.new-out.ensures.items)

pub loop-entry-preserved : goal.loop-entry-preserved
loop-entry-preserved c =
    let P : Entry → Type 0 = λ e. IsShared e.filter → ⊥ in
    let es = c.args.found.now in
    let step = ap referents (drop_more es c.loop-entry.entry-index c.entry-item.result c.loop-entry-test.true) ∙ ap (λ r. r.now ∷ referents (drop (c.loop-entry.entry-index + 1) es)) (sym c.entry-item.is) in
    let Left : Vec (Bor Entry) Global → Type 0 = λ o. Follows P (referents es) (referents o.items) (referents (drop (c.loop-entry.entry-index + 1) es)) in
    elim c.if-is_plain.branch [
      | then-is_plain+in_ok-push w ↦ subst Left (sym w.out-is) (goes_with P (λ r. r.now) (referents es) (referents (drop c.loop-entry.entry-index es)) (referents (drop (c.loop-entry.entry-index + 1) es)) c.entry-item.result.now c.entry-item.result c.loop-entry.out.items w.push.new.self.items step refl w.in_ok-push.ensures.items (w.if-is_plain.ensures.0 refl) c.loop-entry.invariant)
      | else-is_plain w ↦ subst Left (sym w.out-is) (goes_without P (referents es) (referents (drop c.loop-entry.entry-index es)) (referents (drop (c.loop-entry.entry-index + 1) es)) (referents c.loop-entry.out.items) c.entry-item.result.now step (λ h. let no : IsTrue false = w.if-is_plain.ensures.1 h in cc) c.loop-entry.invariant)
    ]

pub returns-clause-selected : goal.returns-clause-selected
returns-clause-selected c =
    let es = c.args.found.now in
    ends (λ (e : Entry). IsShared e.filter → ⊥) (referents es) (referents (drop c.loop-entry.entry-index es)) (referents c.loop-entry.out.items) (ap referents (drop_all c.loop-entry.entry-index es c.loop-entry-test.false)) c.loop-entry.invariant
