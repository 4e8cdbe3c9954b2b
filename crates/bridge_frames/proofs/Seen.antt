-- Values that are seen as those of another type.
use Rattle.std.proofs.Common.{◌≡◌, ℕ, List, ◌++◌, Ok, refl, ap, subst}
use Rattle.mqtt_fields.specs.Field.{Field, IsField, seen}
use Rattle.mqtt_fields.proofs.Laws.{bind_ok, ok_is}

-- the same bytes, for values of another type, of which some that fit are those that are read
pub seen_fits : {A B : Type 0} (to : A → B) (from : B → A) (f : Field A) → ((a : A) → f.Fits a → from (to a) ≡ a) → ((b : B) → to (from b) ≡ b) → IsField f → IsField (seen to from f)
seen_fits {A} {B} to from f back forth F = record {
  takes = λ bs x fits e.
      let a = bind_ok (f.at bs) (λ a. Ok (to a.0, a.1)) x e in
      let s = F.takes bs a.0 fits a.1 in
      let made : B × List ℕ = (to a.0.0, a.0.1) in
      subst (λ (y : B × List ℕ). (bs ≡ f.bytes (from y.0) ++ y.1) × f.Fits (from y.0)) (ok_is made x a.2) (rw (back a.0.0 s.1) s);
  again = λ b rest fits. rw (F.again (from b) rest fits, forth b) refl;
}
