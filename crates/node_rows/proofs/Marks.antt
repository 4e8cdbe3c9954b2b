-- What a mark says.
use Rattle.std.proofs.Common.{◌≡◌, ℕ, ◌<◌, ◌^◌, List, Some, None, arith, sym, ap, subst, ◌∙◌}
use Rattle.std.specs.Int.{w16, w64}
use Rattle.mqtt_fields.specs.Field.{IsBytes, IsField, after}
use Rattle.mqtt_fields.specs.Numbers.{number}
use Rattle.mqtt_fields.proofs.Laws.{after_is}
use Rattle.mqtt_fields.proofs.NumberLaws.{number_is, wide16, wide64}
use Rattle.session_rows.specs.Reading.{whole}
use Rattle.session_rows.proofs.DurableLaws.{whole_again, whole_takes}
use Rattle.node_rows.specs.Reading.{IsMark, NoMark}
use Rattle.node_rows.specs.Rows.{mark_key, marked}
use Rattle.row_store.specs.Rows.{Plain}

marked_is : IsField marked
marked_is = after_is (number w16) (λ _. after (number w16) (λ _. number w64)) (number_is w16 wide16) (λ _. after_is (number w16) (λ _. number w64) (number_is w16 wide16) (λ _. number_is w64 wide64))

pub is_mark : (value : List ℕ) (version node named id : ℕ) → IsBytes value → Some (version, (node, named)) ≡ whole marked value → (version ≡ 3) × (node ≡ id) × (named < 2 ^ 62) → IsMark id (mark_key, value) named
is_mark value version node named id bytes is own =
    let spelled = (whole_takes marked marked_is value (version, (node, named)) bytes (sym is)).0 ∙ (λ i. marked.bytes (own.0 i, (own.1 i, named))) in
    (own.2, λ i. (mark_key, spelled i))

pub only_mark : (value : List ℕ) (named id : ℕ) → id < 2 ^ 16 → IsMark id (mark_key, value) named → whole marked value ≡ Some (3, (id, named))
only_mark value named id small is =
    ap (whole marked) (ap (λ (e : Plain). e.1) is.1) ∙ whole_again marked marked_is (3, (id, named)) (omega arith, (omega (arith, small), omega (arith, is.0)))

no_mark : (x : ℕ × (ℕ × ℕ)) → None ≡ Some x → ⊥
no_mark x e = cc

one_mark : (x y : ℕ × (ℕ × ℕ)) → Some x ≡ Some y → x ≡ y
one_mark x y e = cc

pub none_whole : (value : List ℕ) (id : ℕ) → id < 2 ^ 16 → None ≡ whole marked value → NoMark id (mark_key, value)
none_whole value id small is named mark_is = no_mark (3, (id, named)) (is ∙ only_mark value named id small mark_is)

parts_are : (x y : ℕ × (ℕ × ℕ)) → x ≡ y → (x.0 ≡ y.0) × (x.1.0 ≡ y.1.0) × (x.1.1 ≡ y.1.1)
parts_are x y e = (ap (λ (z : ℕ × (ℕ × ℕ)). z.0) e, ap (λ (z : ℕ × (ℕ × ℕ)). z.1.0) e, ap (λ (z : ℕ × (ℕ × ℕ)). z.1.1) e)

pub other_mark : (value : List ℕ) (version node named id : ℕ) → id < 2 ^ 16 → Some (version, (node, named)) ≡ whole marked value → ((version ≡ 3) × (node ≡ id) × (named < 2 ^ 62) → ⊥) → NoMark id (mark_key, value)
other_mark value version node named id small is other n mark_is =
    let same = parts_are (version, (node, named)) (3, (id, n)) (one_mark (version, (node, named)) (3, (id, n)) (is ∙ only_mark value n id small mark_is)) in
    other (same.0, same.1, subst (λ k. k < 2 ^ 62) (sym same.2) mark_is.0)
