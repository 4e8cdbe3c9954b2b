use Rattle.std.proofs.Common.{◌≡◌, ap, sym, ◌∙◌, inl, inr, arith, true, false, not, ℕ, List, length}
use Rattle.std.specs.Str.{bytes_eq}
use Rattle.std.proofs.lemmas.Bool.Decides.{nat_tests}
use Rattle.std.proofs.lemmas.Bool.{false≢true, cases_Bool}
use Rattle.std.proofs.lemmas.Slice.Eq.{bytes_eq-Decides}
use Rattle.hex.specs.Hex.{encode_lower}
use Rattle.hex.proofs.HexLemmas.{decode_of-encode_lower, decode_of-ok}
use Rattle.broker_script.proofs.word.parse_hex.Goals as goal
use Rattle.broker_script.proofs.word.parse_hex.Goals.{then-is_empty-via-then-is_empty, then-is_empty-via-else-is_empty+then-ne}

differ : (a b : List ℕ) → true ≡ not (bytes_eq a b) → a ≡ b → ⊥
differ a b other e = let yes = (bytes_eq-Decides a b).1 e in false≢true (sym (rw yes at other))

same_text : (a b : List ℕ) → false ≡ not (bytes_eq a b) → a ≡ b
same_text a b other = elim (cases_Bool (bytes_eq a b)) [
  | inl equal ↦ (bytes_eq-Decides a b).0 equal
  | inr unequal ↦ absurd (false≢true (rw unequal at other))
]

pub returns-then-is_empty-clause-none : goal.returns-then-is_empty-clause-none
returns-then-is_empty-clause-none c = λ xs bytes some is.
    let e = decode_of-encode_lower xs bytes in
    let h = c.in-Ok.ensures.ok in
    let same : c.in-Ok.bytes.items ≡ xs = cc in
    elim c.then-is_empty.branch [
      | then-is_empty-via-then-is_empty w ↦ let long : length c.in-Ok.bytes.items ≡ length xs = ap length same in grind (arith, nat_tests)
      | then-is_empty-via-else-is_empty+then-ne w ↦
          let text : w.as_str.result.now ≡ c.args.word.now =
          w.as_str.ensures.value ∙ c.in_ok-text.ensures ∙ ap encode_lower (c.as_slice.ensures.value ∙ same) ∙ sym is in
          differ _ _ w.if-ne.ensures text
    ]

pub returns-in_default-clause-none : goal.returns-in_default-clause-none
returns-in_default-clause-none c = λ xs bytes some is.
    let e = decode_of-encode_lower xs bytes in
    elim c.in-Err.ensures.err [
      | inl memory ↦ c.in_default.not-OutOfMemory memory
      | inr refused ↦ cc
    ]

pub returns-clause-some : goal.returns-clause-some
returns-clause-some c =
    let text : c.as_str.result.now ≡ c.args.word.now = same_text _ _ c.if-ne.ensures in
    let spelled = c.as_str.ensures.value ∙ c.in_ok-text.ensures ∙ ap encode_lower c.as_slice.ensures.value in
    let bytes = decode_of-ok c.args.word.now c.in-Ok.bytes.items c.in-Ok.ensures.ok in
    (grind (arith, nat_tests), bytes.3, sym text ∙ spelled)
