-- The words of a line: what they spell, and that they spell it alone.
use Rattle.std.proofs.Common.{◌≡◌, ◌≢◌, ◌<◌, ◌≤◌, ◌^◌, ◌+◌, ℕ, Bool, List, [], ◌∷◌, length, get_or, Result, Ok, Err, MatchResult, refl, sym, ◌∙◌, ap, subst, arith, zero, suc, map, take, drop, set, true, false, ◌++◌}
use Rattle.std.specs.List.{All, AllByRecursion}
use Rattle.std.specs.Str.{bytes_eq}
use Rattle.std.proofs.lemmas.Bool.{false≢true}
use Rattle.std.proofs.lemmas.Slice.Eq.{bytes_eq-Decides}
use Rattle.std.proofs.lemmas.List.{length-map, get_or-map, take_more, take_more_set, map_push}
use Rattle.hex.specs.Hex.{encode_lower, IsBytes}
use Rattle.hex.proofs.HexLemmas.{decode_of-encode_lower}
use Rattle.std.specs.Fmt.{decimal}
use Rattle.std.specs.Str.Parse.{ParsesUnsigned, AllDigits, digits_value}
use Rattle.std.proofs.lemmas.Fmt.{decimal_digit, first_decimal, decimal_nonempty, parse-decimal, decimal-digits_value, decimal_injective}
use Rattle.std.proofs.lemmas.Str.Parse.{IsNumeralModel, numerals_by_value, tells_digits, parse_plain}
use Rattle.broker_script.specs.Line.{Word, literal, node_count, node_number, whole_number, hex_bytes, client_identifier, home_prefix, table_version, spelled, IsWordInRange}

plain : IsNumeralModel (AllDigits 10) (digits_value 10)
plain = numerals_by_value _ tells_digits

-- the first digit of a number: `0` stands alone
pub record HasFirst (bs : List ℕ) : Type 0 where
  pub some : 0 < length bs
  pub low : 48 ≤ get_or bs 0 0
  pub lone : get_or bs 0 0 ≡ 48 → length bs ≡ 1

pub decimal_first : (n : ℕ) → n < 2 ^ 64 → HasFirst (decimal n)
decimal_first zero small =
    let e : decimal 0 ≡ 48 ∷ [] = decimal_digit 0 (omega arith) in
    subst HasFirst (sym e) (record { some = omega arith; low = omega arith; lone = λ _. refl })
decimal_first (suc n) small =
    let f = first_decimal (suc n) (omega arith) small in
    record { some = decimal_nonempty (suc n) small; low = omega (arith, f); lone = λ e. absurd (omega (arith, f, e)) }

-- what `parse` answers on a text with no plus and no leading zero
pub number_read : {E : Type 0} (bs : List ℕ) (r : Result ℕ E) → ParsesUnsigned 64 10 bs r → get_or bs 0 0 ≢ 43
    → (get_or bs 0 0 ≡ 48 → length bs ≡ 1)
    → MatchResult r (λ n. (n < 2 ^ 64) × (bs ≡ decimal n)) (λ _. (n : ℕ) → n < 2 ^ 64 → bs ≡ decimal n → ⊥)
number_read {E} bs (Ok n) parsed plus zeros =
    let got = parse_plain plain {E = E} 64 bs (Ok n) parsed plus in
    let text = decimal-digits_value plain bs got.0.0 got.0.1 zeros got.0.2 in
    (subst (λ n. n < 2 ^ 64) (sym got.1) got.0.2, sym text ∙ ap decimal (sym got.1))
number_read {E} bs (Err e) parsed plus zeros = λ n small is.
    let found = parse-decimal {E = E} 64 n bs (Err e) small small is parsed in cc found

-- where one word spells no number below the limit, the words don't spell such numbers
pub not_numbers : {A : Type 0} (limit : ℕ) (f : A → List ℕ) (ws : List A) (d : A) (ns : List ℕ) (i : ℕ) → i < length ws
    → All (λ n. n < limit) ns → map f ws ≡ map decimal ns
    → ((n : ℕ) → n < limit → f (get_or ws i d) ≡ decimal n → ⊥) → ⊥
not_numbers limit f ws d ns i h fits e none =
    let long : length ws ≡ length ns = sym (length-map ws f) ∙ ap length e ∙ length-map ns decimal in
    let inside : i < length ns = omega arith in
    let one = get_or-map f ws i d [] h in
    let other = get_or-map decimal ns i 0 [] inside in
    none (get_or ns i 0) (fits i 0 inside) (sym one ∙ ap (λ xs. get_or xs i []) e ∙ other)

-- one more word, and one more number
pub read_more : {A : Type 0} (f : A → List ℕ) (ws : List A) (d : A) (ns : List ℕ) (i n : ℕ) → i < length ws
    → length ns ≡ length ws → map f (take i ws) ≡ map decimal (take i ns) → f (get_or ws i d) ≡ decimal n
    → map f (take (i + 1) ws) ≡ map decimal (take (i + 1) (set ns i n))
read_more f ws d ns i n h long read one =
    let inside : i < length ns = omega arith in
    let left = ap (map f) (take_more ws i d h) ∙ map_push f (take i ws) (get_or ws i d) in
    let right = ap (map decimal) (take_more_set ns i n inside) ∙ map_push decimal (take i ns) n in
    let middle : map f (take i ws) ++ f (get_or ws i d) ∷ [] ≡ map decimal (take i ns) ++ decimal n ∷ [] = rw (read, one) refl in
    left ∙ middle ∙ sym right

-- lists that begin alike
pub heads : {A : Type 0} (a b : A) (x y : List A) → a ∷ x ≡ b ∷ y → a ≡ b
heads a b x y e = cc

pub tails : {A : Type 0} (a b : A) (x y : List A) → a ∷ x ≡ b ∷ y → x ≡ y
tails a b x y e = cc

-- two lists of words that begin otherwise
pub apart : (a b : List ℕ) (x y : List (List ℕ)) → bytes_eq a b ≡ false → a ∷ x ≡ b ∷ y → ⊥
apart a b x y differ e = false≢true (sym differ ∙ (bytes_eq-Decides a b).1 (heads a b x y e))

pub all_none : (limit : ℕ) → All (λ n. n < limit) []
all_none limit i d k = absurd (omega arith)

pub all_cons : (limit a : ℕ) (ns : List ℕ) → a < limit → All (λ n. n < limit) ns → All (λ n. n < limit) (a ∷ ns)
all_cons limit a ns h hs zero d k = h
all_cons limit a ns h hs (suc i) d k = hs i d (omega arith)

-- words that spell some numbers and others after them, cut between
split_fields : {A : Type 0} (f : A → List ℕ) (ws : List A) (ks ns : List ℕ) → map f ws ≡ map decimal ks ++ map decimal ns
    → (map f (take (length ks) ws) ≡ map decimal ks) × (map f (drop (length ks) ws) ≡ map decimal ns)
split_fields f ws [] ns e = (refl, e)
split_fields f [] (k ∷ ks) ns e = absurd (cc)
split_fields f (w ∷ ws) (k ∷ ks) ns e =
    let rest = split_fields f ws ks ns (tails _ _ _ _ e) in
    (ap (λ x. x ∷ map f (take (length ks) ws)) (heads _ _ _ _ e) ∙ ap (λ xs. decimal k ∷ xs) rest.0, rest.1)

pub front_fields : {A : Type 0} (f : A → List ℕ) (ws : List A) (ks ns : List ℕ) (k : ℕ) → length ks ≡ k
    → map f ws ≡ map decimal ks ++ map decimal ns → map f (take k ws) ≡ map decimal ks
front_fields f ws ks ns k long e = subst (λ m. map f (take m ws) ≡ map decimal ks) long (split_fields f ws ks ns e).0

pub back_fields : {A : Type 0} (f : A → List ℕ) (ws : List A) (ks ns : List ℕ) (k : ℕ) → length ks ≡ k
    → map f ws ≡ map decimal ks ++ map decimal ns → map f (drop k ws) ≡ map decimal ns
back_fields f ws ks ns k long e = subst (λ m. map f (drop m ws) ≡ map decimal ns) long (split_fields f ws ks ns e).1

-- one number is spelled in one way
same_number : (limit a b : ℕ) → limit ≤ 2 ^ 64 → a < limit → b < limit → decimal a ≡ decimal b → a ≡ b
same_number limit a b h low low_too e = decimal_injective a b (omega arith) (omega arith) e

-- some bytes are spelled in one way
same_bytes : (xs ys : List ℕ) → IsBytes xs → IsBytes ys → encode_lower xs ≡ encode_lower ys → xs ≡ ys
same_bytes xs ys hx hy e =
    let one = decode_of-encode_lower xs hx in
    let other = decode_of-encode_lower ys hy in
    let both : Ok xs ≡ Ok ys = sym one ∙ rw e other in cc

-- whether two words say a thing of one kind
abbrev pub of_a_kind : Word → Word → Bool
of_a_kind (literal _) (literal _) = true
of_a_kind (node_count _) (node_count _) = true
of_a_kind (node_number _) (node_number _) = true
of_a_kind (whole_number _) (whole_number _) = true
of_a_kind (hex_bytes _) (hex_bytes _) = true
of_a_kind (client_identifier _) (client_identifier _) = true
of_a_kind (home_prefix _) (home_prefix _) = true
of_a_kind (table_version _) (table_version _) = true
of_a_kind _ _ = false

-- a word is known by its kind and its text
same_word : (a b : Word) → IsWordInRange a → IsWordInRange b → of_a_kind a b ≡ true → spelled a ≡ spelled b → a ≡ b
same_word (literal x) (literal y) h k s e = ap literal e
same_word (literal x) _ h k s e = absurd (false≢true s)
same_word (node_count x) (node_count y) h k s e = ap node_count (same_number (2 ^ 16) x y (omega arith) h k e)
same_word (node_count x) _ h k s e = absurd (false≢true s)
same_word (node_number x) (node_number y) h k s e = ap node_number (same_number (2 ^ 16) x y (omega arith) h k e)
same_word (node_number x) _ h k s e = absurd (false≢true s)
same_word (whole_number x) (whole_number y) h k s e = ap whole_number (same_number (2 ^ 64) x y (omega arith) h k e)
same_word (whole_number x) _ h k s e = absurd (false≢true s)
same_word (hex_bytes x) (hex_bytes y) h k s e = ap hex_bytes (same_bytes x y h.1 k.1 e)
same_word (hex_bytes x) _ h k s e = absurd (false≢true s)
same_word (client_identifier x) (client_identifier y) h k s e = ap client_identifier e
same_word (client_identifier x) _ h k s e = absurd (false≢true s)
same_word (home_prefix x) (home_prefix y) h k s e = ap home_prefix e
same_word (home_prefix x) _ h k s e = absurd (false≢true s)
same_word (table_version x) (table_version y) h k s e = ap table_version (same_number (2 ^ 32) x y (omega arith) h k e)
same_word (table_version x) _ h k s e = absurd (false≢true s)

-- the kinds of two lists of words are the same
abbrev pub AreAlike : List Word → List Word → Type 0
AreAlike [] [] = Unit {0}
AreAlike (a ∷ as') (b ∷ bs) = (of_a_kind a b ≡ true) × AreAlike as' bs
AreAlike _ _ = ⊥

pub same_line : (ws vs : List Word) → AllByRecursion IsWordInRange ws → AllByRecursion IsWordInRange vs → AreAlike ws vs
    → map spelled ws ≡ map spelled vs → ws ≡ vs
same_line [] [] h k s e = refl
same_line [] (v ∷ vs) h k s e = absurd s
same_line (w ∷ ws) [] h k s e = absurd s
same_line (w ∷ ws) (v ∷ vs) h k s e =
    let first = same_word w v h.0 k.0 s.0 (heads _ _ _ _ e) in
    let rest = same_line ws vs h.1 k.1 s.1 (tails _ _ _ _ e) in cc
