-- A bound that was written, or not for want of memory.
use Rattle.std.proofs.Common.{◌≡◌, ℕ, List, Option, Some, None, IfSome, sym, subst}
use Rattle.filter_trie.specs.declared.seeks.Onward.{Onward}
use Rattle.filter_trie.specs.Search.Seeking.{IsNext}
use Rattle.filter_trie.specs.Search.Onward.{Leads, from_text}

module _ {K : Type 0} (read : K → List ℕ) (P : List ℕ → Type 0) (key bound : List ℕ) where
  written : (text : Option K) → IfSome text (λ t. read t ≡ bound) → IsNext P key (Some bound) → Leads read P key (from_text text)
  written None is next = tt
  written (Some t) is next = let N : List ℕ → Type 0 = λ b. IsNext P key (Some b) in subst N (sym is) next

  pub leads_if_written : (r : Onward K) (text : Option K) → r ≡ from_text text → IfSome text (λ t. read t ≡ bound) → IsNext P key (Some bound) → Leads read P key r
  leads_if_written r text e is next = let L : Onward K → Type 0 = Leads read P key in subst L (sym e) (written text is next)
