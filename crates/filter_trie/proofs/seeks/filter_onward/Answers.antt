use Rattle.std.proofs.Common.{◌≡◌, ◌++◌, List, ℕ, IsTrue, false, Some, None, IfSome, string_bytes, sym, subst}
use Rattle.mqtt_topics.specs.Matching.{Matches}
use Rattle.filter_trie.specs.Search.Onward.{Leads}
use Rattle.filter_trie.specs.Search.Steps.{bound_text}
use Rattle.filter_trie.proofs.ShareLaws.{plain_next}
use Rattle.filter_trie.proofs.OnwardLaws.{leads_if_written}
use Rattle.filter_trie.proofs.seeks.filter_onward.Goals as goal

pub returns-in-Some : goal.returns-in-Some
returns-in-Some c =
    let L : List ℕ → Type 0 = λ k. Leads string_bytes (λ f. Matches f c.args.name.now) k c.shared_onward.result in
    subst L (sym c.in-Some.ensures.0) c.shared_onward.ensures

pub returns-in-Some-filter_bound : goal.returns-in-Some-filter_bound
returns-in-Some-filter_bound c =
    let key = c.args.key.now in
    let name = c.args.name.now in
    let bound = bound_text key c.in-Some-filter_bound.bound in
    let I : List ℕ → Type 0 = λ x. IfSome c.with_bound.result (λ t. string_bytes t ≡ x ++ bound) in
    leads_if_written string_bytes (λ f. Matches f name) key bound c.onward_from.result c.with_bound.result c.onward_from.ensures (subst I c.new.ensures.bytes c.with_bound.ensures)
    (plain_next key name (Some bound) (λ b. let h : IsTrue false = c.if-is_before-2.ensures.1 b in cc) c.in-Some-filter_bound.ensures)

pub returns-in-None : goal.returns-in-None
returns-in-None c = plain_next c.args.key.now c.args.name.now None (λ b. let h : IsTrue false = c.if-is_before-2.ensures.1 b in cc) c.in-None.ensures
