use Rattle.std.proofs.Common.{◌≡◌, ℕ, List, length, subst}
use Rattle.std.specs.Prelude.{◌==◌}
use Rattle.subscription_set.specs.Filing.{IsEmptiness}
use Rattle.subscription_set.specs.Members.{Clients}
use Rattle.subscription_set.proofs.Seating.{empty_is}
use Rattle.subscription_set.proofs.Spreading.{text_total, text_anti}
use Rattle.subscription_set.proofs.clients.Clients.is_empty.Goals as goal

pub returns : goal.returns
returns c =
    let P : Clients → Type 0 = λ s. IsEmptiness s c.is_empty.result in
    let Q : List (List ℕ) → Type 0 = λ l. c.is_empty.result ≡ (length l == 0) in
    subst P c.self.view_is (empty_is text_total text_anti c.self.inside.clients.items c.is_empty.result (subst Q c.as_slice.ensures.value c.is_empty.ensures))
