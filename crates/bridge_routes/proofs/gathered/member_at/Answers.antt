use Rattle.std.proofs.Common.{◌≡◌, ◌+◌, ◌∷◌, ◌<◌, length, take, drop, sym, ap, subst, ◌∙◌}
use Rattle.subscription_set.specs.Filing.{text_cmp}
use Rattle.bridge_routes.specs.Gathered.{by_client, client_of}
use Rattle.bridge_routes.specs.Tables.{front, referents}
use Rattle.subscription_set.proofs.Spreading.{text_total, text_anti}
use Rattle.bridge_routes.proofs.InOrder.{front_some, gathered_at}
use Rattle.bridge_routes.proofs.gathered.member_at.Goals as goal

-- how many there are of the client
count : (c : goal.After-own-1) → length c.split_at-2.result.0.now ≡ front text_cmp client_of c.client-client.result.now (referents (drop c.args.place c.args.entries.now))
count c = c.split_at-2.ensures.front_len ∙ c.front_of.ensures.front ∙ ap (λ es. front text_cmp client_of c.client-client.result.now (referents es)) c.split_at.ensures.back

pub returns-clause-some : goal.returns-clause-some
returns-clause-some c = subst (λ n. 0 < n) (sym (count c))
    (front_some text_total text_anti client_of (λ r. r.now) c.args.entries.now c.args.place c.index-entries-place.result c.client-client.result.now c.requires.there c.index-entries-place.is c.client-client.ensures)

pub returns-clause-first : goal.returns-clause-first
returns-clause-first c =
    let es = c.args.entries.now in
    let p = c.args.place in
    let n = count c in
    let own : c.split_at-2.result.0.now ≡ take (length c.split_at-2.result.0.now) (drop p es) = c.split_at-2.ensures.front ∙ ap (λ m. take m c.split_at.result.1.now) (sym c.split_at-2.ensures.front_len) ∙ ap (take (length c.split_at-2.result.0.now)) c.split_at.ensures.back in
    gathered_at text_total text_anti client_of (λ r. r.now) es p c.index-entries-place.result c.client-client.result.now c.requires.there c.index-entries-place.is c.client-client.ensures c.requires.order
    ∙ (λ i. (c.client-client.result.now, referents ((ap (λ m. take m (drop p es)) (sym n) ∙ sym own) i)) ∷ by_client (referents (drop (p + sym n i) es)))
