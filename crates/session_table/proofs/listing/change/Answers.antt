use Rattle.std.proofs.Common.{◌≡◌, ℕ, List, ap, ◌∙◌}
use Rattle.std.proofs.lemmas.Option.{MatchOption-at_some}
use Rattle.std.specs.FinMap as map
use Rattle.session_table.proofs.Lists.{put_at, put_others, others_then}
use Rattle.session_table.proofs.listing.change.Goals.{in-Some-taken, in-None+in_ok-name-in-None}
use Rattle.session_table.proofs.listing.change.Goals as goal

pub returns-clause-at : goal.returns-clause-at
returns-clause-at c =
    let named : c.match-taken-2.name ≡ c.args.key.now.1 = elim c.match-taken-2.branch [
      | in-Some-taken w ↦ w.name-is ∙ MatchOption-at_some _ (λ name. name ≡ c.args.key.now.1) w.in-Some-taken.name w.in-Some-taken.is c.withdraw-taken.ensures.name
      | in-None+in_ok-name-in-None w ↦ w.name-is ∙ w.in_ok-name-in-None.ensures ∙ c.withdraw-taken.ensures.key
    ] in
    put_at c.withdraw-taken.new.list _ c.args.key.now.1 c.in-Some.at c.withdraw-taken.ensures.at
    (c.in_ok-insert.ensures.ok ∙ ap (λ (n : List ℕ). map.insert c.withdraw-taken.new.list (c.in-Some.at, n) tt) named)

pub returns-clause-others : goal.returns-clause-others
returns-clause-others c =
    let named : c.match-taken-2.name ≡ c.args.key.now.1 = elim c.match-taken-2.branch [
      | in-Some-taken w ↦ w.name-is ∙ MatchOption-at_some _ (λ name. name ≡ c.args.key.now.1) w.in-Some-taken.name w.in-Some-taken.is c.withdraw-taken.ensures.name
      | in-None+in_ok-name-in-None w ↦ w.name-is ∙ w.in_ok-name-in-None.ensures ∙ c.withdraw-taken.ensures.key
    ] in
    others_then c.args.key.now.1 c.args.list.now c.withdraw-taken.new.list _ c.withdraw-taken.ensures.others
    (put_others c.withdraw-taken.new.list _ c.args.key.now.1 c.in-Some.at (c.in_ok-insert.ensures.ok ∙ ap (λ (n : List ℕ). map.insert c.withdraw-taken.new.list (c.in-Some.at, n) tt) named))
