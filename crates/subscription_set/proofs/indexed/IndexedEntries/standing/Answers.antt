use Rattle.std.proofs.Common.{◌≡◌, ℕ, List, Option, false, Some, None, MatchOption, sym, ap, subst}
use Rattle.std.specs.Option.{option_copied}
use Rattle.std.specs.FinMap as map
use Rattle.causal_context.specs.Dots.{Dot}
use Rattle.subscription_set.specs.Indexing.{ByDot, IsStanding, stands_as}
use Rattle.subscription_set.proofs.Indexing.{standing_client, standing_filter}
use Rattle.subscription_set.proofs.indexed.IndexedEntries.standing.Goals as goal

pub returns-in-Some : goal.returns-in-Some
returns-in-Some c =
    let f = c.in-Some.filter.now in
    let P : ByDot → Type 0 = λ m. MatchOption c.under.result ((d : Dot) → stands_as c.args.client.now (Some f) (map.get m d) ≡ false) (λ s. IsStanding m c.args.client.now (Some f) s.now) in
    let proved = subst P c.self.view_is (standing_filter (map.from_entries c.self.inside.entries.entries) c.self.inside.index.clients c.self.inside.index.filters c.self.inside.live c.self.invariant.indexed c.args.client.now f c.under.result c.under.ensures) in
    let Q : Option (List ℕ) → Type 0 = λ o. MatchOption c.under.result ((d : Dot) → stands_as c.args.client.now o (map.get c.args.self.now d) ≡ false) (λ s. IsStanding c.args.self.now c.args.client.now o s.now) in
    subst Q (sym (ap option_copied c.in-Some.is)) proved

pub returns-in-None : goal.returns-in-None
returns-in-None c =
    let P : ByDot → Type 0 = λ m. MatchOption c.under-in-None.result ((d : Dot) → stands_as c.args.client.now None (map.get m d) ≡ false) (λ s. IsStanding m c.args.client.now None s.now) in
    let proved = subst P c.self.view_is (standing_client (map.from_entries c.self.inside.entries.entries) c.self.inside.index.clients c.self.inside.index.filters c.self.inside.live c.self.invariant.indexed c.args.client.now c.under-in-None.result c.under-in-None.ensures) in
    let Q : Option (List ℕ) → Type 0 = λ o. MatchOption c.under-in-None.result ((d : Dot) → stands_as c.args.client.now o (map.get c.args.self.now d) ≡ false) (λ s. IsStanding c.args.self.now c.args.client.now o s.now) in
    subst Q (sym (ap option_copied c.in-None.is)) proved
