-- Which table may take the place of the one in force.
use Rattle.std.proofs.Common.{◌≡◌, ◌≢◌, ◌+◌, ℕ, List, Bool, true, false, Option, Some, Ok, inl, inr, sym, ap, subst, ◌∙◌, arith}
use Rattle.std.specs.Bool.{Decides}
use Rattle.std.specs.Str.{bytes_eq}
use Rattle.std.proofs.lemmas.Bool.Decides.{eqb_tells}
use Rattle.std.proofs.lemmas.Option.{same_Some}
use Rattle.std.proofs.lemmas.Slice.Eq.{bytes_eq-Decides}
use Rattle.home_table.specs.Configurations.{configuration}
use Rattle.home_table.specs.Table.{Table}
use Rattle.cli_files.specs.Judging.{HasBridges, IsReason, IsRefused, IsTakeable, IsTaken, bridge_at}
use Rattle.cli_files.specs.Looking.{Found}
use Rattle.cli_files.specs.declared.refusal.Refusal.{Refusal}
use Rattle.cli_files.specs.declared.refusal.Refusal.TheVariants.{Faulty, OtherNodes, NotNewer, OtherNumber, OtherAddress, OtherBridge}

pub texts_decide : (a b : Option (List ℕ)) (x y : List ℕ) (r : Bool) → a ≡ Some x → b ≡ Some y → r ≡ bytes_eq x y → Decides r (a ≡ b)
texts_decide a b x y r ia ib ir = (
  λ is. ia ∙ ap (λ t. Some t) ((bytes_eq-Decides x y).0 (sym ir ∙ is)) ∙ sym ib,
  λ same. let both : Some x ≡ Some y = sym ia ∙ same ∙ ib in let equal : x ≡ y = same_Some x y both in ir ∙ (bytes_eq-Decides x y).1 equal,
)

pub one_more : (homes other : Table) (n : ℕ) → HasBridges homes other n → bridge_at other n ≡ bridge_at homes n → HasBridges homes other (n + 1)
one_more homes other n below here k within = elim (eqb_tells k n) [
  | inl same ↦ let P : ℕ → Type 0 = λ i. bridge_at other i ≡ bridge_at homes i in subst P (sym same.1) here
  | inr apart ↦ below k (omega (arith, apart.1, within))
]

-- a node that has another bridge
pub bridge_apart : (homes other : Table) (n : ℕ) (r : Bool) → Decides r (bridge_at other n ≡ bridge_at homes n) → r ≡ false → bridge_at other n ≢ bridge_at homes n
bridge_apart homes other n r decides is same = let yes : true ≡ false = sym (decides.1 same) ∙ is in cc yes

pub taken_of : (found : Found) (text node : List ℕ) (homes : Table) (id : ℕ) (other : Table) (number : ℕ) → Some text ≡ found → configuration text node ≡ Ok (other, number)
    → IsTakeable homes id other number → IsTaken found node homes id other
taken_of found text node homes id other number is configured takeable = record { text = text; is = sym is; number = number; configured = configured; takeable = takeable }

pub refused_of : (found : Found) (text node : List ℕ) (homes : Table) (id : ℕ) (other : Table) (number : ℕ) (refusal : Refusal) → Some text ≡ found → configuration text node ≡ Ok (other, number)
    → IsReason homes id other number refusal → IsRefused found node homes id refusal
refused_of found text node homes id other number (Faulty cause) is configured reason = tt
refused_of found text node homes id other number (OtherNodes nodes) is configured reason = record { text = text; is = sym is; other = other; number = number; configured = configured; reason = reason }
refused_of found text node homes id other number (NotNewer version) is configured reason = record { text = text; is = sym is; other = other; number = number; configured = configured; reason = reason }
refused_of found text node homes id other number (OtherNumber n) is configured reason = record { text = text; is = sym is; other = other; number = number; configured = configured; reason = reason }
refused_of found text node homes id other number OtherAddress is configured reason = record { text = text; is = sym is; other = other; number = number; configured = configured; reason = reason }
refused_of found text node homes id other number (OtherBridge n) is configured reason = record { text = text; is = sym is; other = other; number = number; configured = configured; reason = reason }
