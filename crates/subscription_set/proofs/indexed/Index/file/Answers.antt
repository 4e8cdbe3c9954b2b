use Rattle.std.proofs.Common.{◌∙◌}
use Rattle.std.specs.FinSet as set
use Rattle.subscription_set.proofs.Spreading.{filed_total, filed_anti, places_total, places_anti}
use Rattle.subscription_set.proofs.Indexing.{undone}
use Rattle.subscription_set.proofs.indexed.Index.file.Goals as goal

pub returns-in-Err-clause-clients_stay : goal.returns-in-Err-clause-clients_stay
returns-in-Err-clause-clients_stay c =
    c.remove.ensures ∙ (λ i. set.remove (c.in_ok-add.ensures.ok i) (c.client-in-Err.ensures i, c.args.dot)) ∙ (λ i. set.remove (set.insert c.args.self.now.clients (c.client.ensures i, c.args.dot)) (c.args.entry.now.client, c.args.dot))
    ∙ undone filed_total filed_anti c.args.self.now.clients (c.args.entry.now.client, c.args.dot) c.requires.clients

pub returns-in-Err-add-clause-clients_stay : goal.returns-in-Err-add-clause-clients_stay
returns-in-Err-add-clause-clients_stay c =
    c.remove-in-Err-add-2.ensures ∙ (λ i. set.remove (c.in_ok-add.ensures.ok i) (c.client-in-Err-add-2.ensures i, c.args.dot)) ∙ (λ i. set.remove (set.insert c.args.self.now.clients (c.client.ensures i, c.args.dot)) (c.args.entry.now.client, c.args.dot))
    ∙ undone filed_total filed_anti c.args.self.now.clients (c.args.entry.now.client, c.args.dot) c.requires.clients

pub returns-in-Err-add-clause-filters_stay : goal.returns-in-Err-add-clause-filters_stay
returns-in-Err-add-clause-filters_stay c =
    c.remove-in-Err-add.ensures ∙ (λ i. set.remove (c.in_default.ensures.ok i) (c.client-in-Err-add.ensures i, (c.filter-in-Err-add.ensures i, c.args.dot)))
    ∙ (λ i. set.remove (set.insert c.args.self.now.filters (c.client-2.ensures i, (c.filter.ensures i, c.args.dot))) (c.args.entry.now.client, (c.args.entry.now.filter, c.args.dot)))
    ∙ undone places_total places_anti c.args.self.now.filters (c.args.entry.now.client, (c.args.entry.now.filter, c.args.dot)) c.requires.filters
