use Rattle.std.proofs.Common.{◌∙◌, [], ap, sym}
use Rattle.std.specs.FinSet as set
use Rattle.causal_context.specs.Dots.{dot_cmp, dot_cmp_total, dot_cmp_antisym}
use Rattle.law_maps.proofs.Tables.{add_table, contains_table}
use Rattle.subscription_set.specs.Placing.{dots_placed}
use Rattle.subscription_set.proofs.OneDot.{put_again, not_empty, not_other, none_of_keys}
use Rattle.subscription_set.proofs.dots.DotSet.insert.Goals as goal

pub returns-then-is_same-clause-ok : goal.returns-then-is_same-clause-ok
returns-then-is_same-clause-ok c =
    put_again c.in-One.first c.args.dot (sym c.is_same.ensures ∙ c.if-is_same.true)
    ∙ ap (λ s. set.insert s c.args.dot) (sym (λ i. set.from_list {R = dot_cmp} (dots_placed (c.in-One.is i))) ∙ c.self.view_is)

pub returns-in_ok-insert-in-Many-clause-ok : goal.returns-in_ok-insert-in-Many-clause-ok
returns-in_ok-insert-in-Many-clause-ok c =
    add_table dot_cmp_total dot_cmp_antisym c.in-Many.dots.keys c.insert.new.self.keys c.args.dot c.in_ok-insert-in-Many.ensures.updates.0
    ∙ ap (λ s. set.insert s c.args.dot) (sym (λ i. set.from_list {R = dot_cmp} (dots_placed (c.in-Many.is i))) ∙ c.self.view_is)

pub returns-in_err-both-in-One-clause-first : goal.returns-in_err-both-in-One-clause-first
returns-in_err-both-in-One-clause-first c = λ none. absurd (not_empty c.in-One.first [] (sym (λ i. set.from_list {R = dot_cmp} (dots_placed (c.in-One.is i))) ∙ c.self.view_is ∙ none))

pub returns-in_err-both-in-One-clause-there : goal.returns-in_err-both-in-One-clause-there
returns-in_err-both-in-One-clause-there c = λ there. absurd (not_other c.in-One.first c.args.dot (sym c.is_same.ensures ∙ c.if-is_same.false)
    (ap (λ s. set.contains s c.args.dot) (sym (λ i. set.from_list {R = dot_cmp} (dots_placed (c.in-One.is i))) ∙ c.self.view_is) ∙ there))

pub returns-in_err-insert-in-Many-clause-first : goal.returns-in_err-insert-in-Many-clause-first
returns-in_err-insert-in-Many-clause-first c = λ none. absurd
    (let some = none_of_keys c.in-Many.dots.keys (sym (λ i. set.from_list {R = dot_cmp} (dots_placed (c.in-Many.is i))) ∙ c.self.view_is ∙ none) in
    let no = sym c.if-is_empty.false ∙ c.is_empty.ensures.1 some in cc)

pub returns-in_err-insert-in-Many-clause-there : goal.returns-in_err-insert-in-Many-clause-there
returns-in_err-insert-in-Many-clause-there c = λ there. absurd
    (let no = sym c.in_err-insert-in-Many.ensures.absent ∙ sym (contains_table dot_cmp_total c.in-Many.dots.keys c.args.dot)
    ∙ ap (λ s. set.contains s c.args.dot) (sym (λ i. set.from_list {R = dot_cmp} (dots_placed (c.in-Many.is i))) ∙ c.self.view_is) ∙ there in cc)
