use Rattle.std.proofs.Common.{◌≡◌, ℕ, List, length, inl, inr, subst, ap, ◌∙◌, arith}
use Rattle.home_table.specs.Table.{Table}
use Rattle.home_table.specs.Homes.{IsHome, IsByPrefix, HasNoPrefix}
use Rattle.home_table.proofs.HomeLaws.{shared_table}
use Rattle.home_table.proofs.table.HomeTable.sought_home.Goals as goal

pub returns-in-Some-longest-clause-home : goal.returns-in-Some-longest-clause-home
returns-in-Some-longest-clause-home c =
    let count : c.len-nodes.result ≡ length c.as_ref-shared.result.now.nodes.items = omega arith in
    let P : Table → Type 0 = λ t. IsHome t c.args.identifier.now c.in-Some-longest.node in
    let B : List ℕ → Type 0 = λ bytes. IsByPrefix c.as_ref-shared.result.now.prefixes bytes c.in-Some-longest.node in
    subst P (ap shared_table c.as_ref-shared.ensures ∙ c.self.view_is)
    (inr (inl (λ node low. c.in_default.ensures.none node (omega (arith, count)), subst B c.as_bytes-bytes.ensures.value c.in-Some-longest.ensures)))

pub returns-in-None-clause-home : goal.returns-in-None-clause-home
returns-in-None-clause-home c =
    let count : c.len-nodes.result ≡ length c.as_ref-shared.result.now.nodes.items = omega arith in
    let P : Table → Type 0 = λ t. IsHome t c.args.identifier.now c.sum_place.result in
    let B : List ℕ → Type 0 = λ bytes. HasNoPrefix c.as_ref-shared.result.now.prefixes bytes in
    subst P (ap shared_table c.as_ref-shared.ensures ∙ c.self.view_is)
    (inr (inr (
      λ node low. c.in_default.ensures.none node (omega (arith, count)),
      subst B c.as_bytes-bytes.ensures.value c.in-None.ensures,
      rw (c.sum_place.ensures, c.as_bytes-bytes.ensures.value, count),
    )))
