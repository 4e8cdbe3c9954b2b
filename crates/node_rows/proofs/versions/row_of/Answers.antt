use Rattle.std.proofs.Common.{◌≡◌, inl, inr, true, Some, None, true≢false, ap, sym, ◌∙◌}
use Rattle.std.specs.Prelude.{◌==◌, ◌≢◌, if◌then◌else◌, option_map}
use Rattle.std.specs.FinSet as set
use Rattle.std.proofs.lemmas.Bool.{cases_Bool}
use Rattle.std.specs.Cmp.{unsigned_Decides}
use Rattle.causal_context.specs.Dots.{Dots, dot_cmp}
use Rattle.causal_context.specs.Spelling.{context}
use Rattle.replica_rows.specs.Rows.{dots_value}
use Rattle.node_rows.specs.Versions.{seen_key}
use Rattle.node_rows.proofs.versions.row_of.Goals as goal

no_value : (dots : Dots) → dots ≡ set.empty → dots_value dots ≡ None
no_value dots none = ap dots_value none ∙ ap (λ n. if n == 0 then None else Some (context.bytes set.empty)) (set.len-empty dot_cmp)

some_value : (dots : Dots) → dots ≢ set.empty → dots_value dots ≡ Some (context.bytes dots)
some_value dots some = elim (cases_Bool (set.len dots == 0)) [
  | inl t ↦ absurd (some (set.empty_of_len dots ((unsigned_Decides (set.len dots) 0).0 t)))
  | inr f ↦ ap (λ b. if b then None else Some (context.bytes dots)) f
]

pub returns-then-is_empty : goal.returns-then-is_empty
returns-then-is_empty c = ap (option_map (λ v. (seen_key, v))) (sym (no_value c.args.seen.now (c.is_empty.ensures.0 c.if-is_empty.true)))

pub returns : goal.returns
returns c =
    ap Some c.in_ok-context_row.ensures
    ∙ ap (option_map (λ v. (seen_key, v))) (sym (some_value c.args.seen.now (λ none. true≢false (sym (c.is_empty.ensures.1 none) ∙ c.if-is_empty.false))))
