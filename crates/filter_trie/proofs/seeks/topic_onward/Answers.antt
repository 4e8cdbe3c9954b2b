use Rattle.std.proofs.Common.{◌∷◌, [], List, ℕ, string_bytes, refl, subst}
use Rattle.mqtt_topics.specs.Matching.{Matches, BeginsWithWildcard}
use Rattle.filter_trie.proofs.ShareLaws.{dollar_next}
use Rattle.filter_trie.proofs.OnwardLaws.{leads_if_written}
use Rattle.filter_trie.proofs.seeks.topic_onward.Goals as goal

pub returns-then-begins_with_wildcard : goal.returns-then-begins_with_wildcard
returns-then-begins_with_wildcard c =
    let filter = c.args.filter.now in
    let key = c.args.key.now in
    let W : List ℕ → Type 0 = BeginsWithWildcard in
    leads_if_written string_bytes (Matches filter) key (37 ∷ []) c.onward_from.result c.past_dollar.result c.onward_from.ensures c.past_dollar.ensures
    (dollar_next filter key (subst W c.part_of-part.ensures (c.if-begins_with_wildcard.ensures.0 refl)) (c.if-begins_with_dollar.ensures.0 refl))
