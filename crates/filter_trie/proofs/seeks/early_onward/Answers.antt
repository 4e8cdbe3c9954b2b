use Rattle.std.proofs.Common.{◌≡◌, ◌++◌, List, ℕ, IsTrue, false, Some, string_bytes, sym, ap, subst, ◌∙◌}
use Rattle.std.specs.Prelude.{codes}
use Rattle.mqtt_topics.specs.Matching.{Matches}
use Rattle.filter_trie.specs.Search.Seeking.{IsBefore}
use Rattle.filter_trie.specs.Search.Steps.{bound_text, some_bound}
use Rattle.filter_trie.proofs.ShareLaws.{share_next}
use Rattle.filter_trie.proofs.OnwardLaws.{leads_if_written}
use Rattle.filter_trie.proofs.seeks.early_onward.Goals as goal

pub returns : goal.returns
returns c =
    let key = c.args.key.now in
    let name = c.args.name.now in
    let text = c.as_str.result.now in
    let e : text ≡ bound_text key c.in-Some.bound = c.as_str.ensures.value ∙ c.in-Some-with_bound.ensures ∙ ap (λ x. x ++ bound_text key c.in-Some.bound) c.new.ensures.bytes in
    leads_if_written string_bytes (λ f. Matches f name) key (codes "$share") c.onward_from-2.result c.share_text-2.result c.onward_from-2.ensures c.share_text-2.ensures
    (share_next key name (some_bound key (Some c.in-Some.bound)) c.in-Some.ensures c.requires
    (λ b is low.
    let B : List ℕ → Type 0 = λ x. IsBefore x (codes "$share") in
    let same : bound_text key c.in-Some.bound ≡ b = cc in
    let h : IsTrue false = c.if-is_before.ensures.1 (subst B (sym (e ∙ same)) low) in cc))
