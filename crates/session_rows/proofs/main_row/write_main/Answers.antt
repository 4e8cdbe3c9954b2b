use Rattle.std.proofs.Common.{◌≡◌, ℕ, List, ◌++◌, append_assoc}
use Rattle.std.proofs.lemmas.Result.{on_ok_weaker}
use Rattle.session_rows.specs.Fields.{main}
use Rattle.session_rows.proofs.main_row.write_main.Goals as goal

joined : (o p q r s t a b d e f : List ℕ) → p ≡ o ++ a → q ≡ p ++ b → r ≡ q ++ d → s ≡ r ++ e → t ≡ s ++ f → t ≡ o ++ (a ++ (b ++ (d ++ (e ++ f))))
joined o p q r s t a b d e f one two three four five = rw (five, four, three, two, one) (simp append_assoc)

pub returns-clause-ok : goal.returns-clause-ok
unfolding main
returns-clause-ok c = on_ok_weaker c.put_u64.result (λ last. joined c.args.out.now.items _ _ _ _ _ _ _ _ _ _ c.in_ok-put_u32.ensures.ok c.in_ok-put_closed.ensures.ok c.in_ok-put_will_if.ensures.ok c.in_ok-put_identifiers.ensures.ok last) c.put_u64.ensures.ok
