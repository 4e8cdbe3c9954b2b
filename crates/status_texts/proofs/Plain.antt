-- What comes of a character is harmless.
use Rattle.std.proofs.Common.{◌≡◌, ◌≢◌, ℕ, ◌<◌, Bool, true, false, cond, eqb, List, [], ◌∷◌, ◌++◌, length, get_or, map, flat_map, chars, encode_utf8, refl, sym, ap, ◌∙◌, inl, inr, append-nil, arith}
use Rattle.std.specs.Prelude.{codes}
use Rattle.std.specs.List.{All}
use Rattle.std.proofs.lemmas.Bool.{eqb-false}
use Rattle.std.proofs.lemmas.List.Elements.{All-nil, All-cons, All-from_get_or}
use Rattle.std.proofs.lemmas.Str.{inside_one}
use Rattle.status_texts.specs.Escapes.{IsPlain, IsPiece, IsNoMarkup, IsLabelPiece, IsWithinQuotes, escape_of, escaped, label, label_escape_of}

-- a byte below 128 within a character is the character
within : (c k b : ℕ) → b < 128 → c ≢ b → k < length (encode_utf8 c) → get_or (encode_utf8 c) k 0 ≢ b
within c k b low other inside same =
    let below : get_or (encode_utf8 c) k 0 < 128 = omega (arith, low, same) in
    other (inside_one c [] (encode_utf8 c) k (sym (append-nil _)) inside below ∙ same)

plain_encoded : (c : ℕ) → IsPlain c → All IsPlain (encode_utf8 c)
plain_encoded c h = All-from_get_or IsPlain (encode_utf8 c) 0
    (λ k inside. (
      within c k 38 (omega arith) h.0 inside,
      within c k 60 (omega arith) h.1 inside,
      within c k 62 (omega arith) h.2 inside,
      within c k 34 (omega arith) h.3 inside,
      within c k 39 (omega arith) h.4 inside,
    ))

piece_by : (c : ℕ) (a b d e f : Bool) → eqb c 38 ≡ a → eqb c 60 ≡ b → eqb c 62 ≡ d → eqb c 34 ≡ e → eqb c 39 ≡ f
    → IsPiece (cond a (codes "&amp;") (cond b (codes "&lt;") (cond d (codes "&gt;") (cond e (codes "&quot;") (cond f (codes "&#39;") (encode_utf8 c))))))
piece_by c true b d e f p q r s t = inl refl
piece_by c false true d e f p q r s t = inr (inl refl)
piece_by c false false true e f p q r s t = inr (inr (inl refl))
piece_by c false false false true f p q r s t = inr (inr (inr (inl refl)))
piece_by c false false false false true p q r s t = inr (inr (inr (inr (inl refl))))
piece_by c false false false false false p q r s t =
    inr (inr (inr (inr (inr (plain_encoded c (eqb-false c 38 p, eqb-false c 60 q, eqb-false c 62 r, eqb-false c 34 s, eqb-false c 39 t))))))

piece : (c : ℕ) → IsPiece (escape_of c)
piece c = piece_by c (eqb c 38) (eqb c 60) (eqb c 62) (eqb c 34) (eqb c 39) refl refl refl refl refl

pieces : (cs : List ℕ) → All IsPiece (map escape_of cs)
pieces [] = All-nil IsPiece
pieces (c ∷ cs) = All-cons IsPiece (escape_of c) (map escape_of cs) (piece c) (pieces cs)

joined : (f : ℕ → List ℕ) (cs : List ℕ) → flat_map (λ one. one) (map f cs) ≡ flat_map f cs
joined f [] = refl
joined f (c ∷ cs) = ap (λ rest. f c ++ rest) (joined f cs)

pub no_markup : (name : List ℕ) → IsNoMarkup (escaped name)
unfolding escaped
no_markup name = record { pieces = map escape_of (chars name); joined = joined escape_of (chars name); each = pieces (chars name) }

quiet_encoded : (c : ℕ) → (c ≢ 92) × (c ≢ 34) × (c ≢ 10) → All (λ b. (b ≢ 92) × (b ≢ 34) × (b ≢ 10)) (encode_utf8 c)
quiet_encoded c h = All-from_get_or (λ b. (b ≢ 92) × (b ≢ 34) × (b ≢ 10)) (encode_utf8 c) 0
    (λ k inside. (within c k 92 (omega arith) h.0 inside, within c k 34 (omega arith) h.1 inside, within c k 10 (omega arith) h.2 inside))

label_piece_by : (c : ℕ) (a b d : Bool) → eqb c 92 ≡ a → eqb c 34 ≡ b → eqb c 10 ≡ d
    → IsLabelPiece (cond a (codes "\\\\") (cond b (codes "\\\"") (cond d (codes "\\n") (encode_utf8 c))))
label_piece_by c true b d p q r = inl refl
label_piece_by c false true d p q r = inr (inl refl)
label_piece_by c false false true p q r = inr (inr (inl refl))
label_piece_by c false false false p q r = inr (inr (inr (quiet_encoded c (eqb-false c 92 p, eqb-false c 34 q, eqb-false c 10 r))))

label_piece : (c : ℕ) → IsLabelPiece (label_escape_of c)
label_piece c = label_piece_by c (eqb c 92) (eqb c 34) (eqb c 10) refl refl refl

label_pieces : (cs : List ℕ) → All IsLabelPiece (map label_escape_of cs)
label_pieces [] = All-nil IsLabelPiece
label_pieces (c ∷ cs) = All-cons IsLabelPiece (label_escape_of c) (map label_escape_of cs) (label_piece c) (label_pieces cs)

pub within_quotes : (name : List ℕ) → IsWithinQuotes (label name)
unfolding label
within_quotes name =
    record { pieces = map label_escape_of (chars name); joined = joined label_escape_of (chars name); each = label_pieces (chars name) }
