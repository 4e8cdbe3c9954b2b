-- The first line whose condition an identifier meets sends it to its home.
use Rattle.std.proofs.Common.{◌≡◌, ◌∙◌, ◌⊎◌, ◌<◌, ◌≤◌, ◌+◌, ◌-◌, ℕ, suc, zero, Bool, true, false, cond, List, [], ◌∷◌, ◌++◌, take, length, Option, Some, None, inl, inr, refl, sym, ap, ap₂, subst, arith, nat_cmp, is_eq}
use Rattle.std.specs.Prelude.{◌==◌}
use Rattle.std.specs.Cmp.Lexicographic.{slice_cmp, nat_list_cmp_total}
use Rattle.std.specs.FinMap.{find}
use Rattle.std.specs.FinMap as finite
use Rattle.std.specs.List.{filter}
use Rattle.std.specs.Str.{bytes_eq}
use Rattle.std.proofs.lemmas.Bool.{cases_order}
use Rattle.std.proofs.lemmas.Bool.Decides.{Decides-eqb}
use Rattle.std.proofs.lemmas.List.{length-take}
use Rattle.std.proofs.lemmas.Map.Text.{is_eq-slice_cmp}
use Rattle.std.proofs.lemmas.Slice.Eq.{bytes_eq-Decides}
use Rattle.home_table.specs.Homes.{HasNoPrefix, IsByPrefix, IsHome}
use Rattle.home_table.specs.Table.{Table}
use Rattle.cli_files.specs.Listed.{AreHomes}
use Rattle.cli_reports.specs.Balancer.{has_length, ordered, ordered_for}
use Rattle.cli_reports.specs.Sent.{ClientsAreSentHome, IsSent, begins_with, sent_by}

abbrev Homes : Type 0
Homes = List (List ℕ × ℕ)

-- a home at a prefix, among others
abbrev placed_at : List ℕ → Homes → Option ℕ
placed_at prefix homes = find (slice_cmp nat_cmp) prefix homes

chosen : (b c : Bool) (x : ℕ) (o p : Option ℕ) → b ≡ c → o ≡ p → cond b (Some x) o ≡ cond c (Some x) p
chosen b c x o p e f = ap₂ (λ d q. cond d (Some x) q) e f

-- whether an identifier begins with a prefix of so many bytes
whole : (identifier prefix : List ℕ) (n : ℕ) → length prefix ≡ n → begins_with identifier prefix ≡ is_eq (slice_cmp nat_cmp (take n identifier) prefix)
whole identifier prefix n same = ap (λ k. bytes_eq (take k identifier) prefix) same ∙ sym (is_eq-slice_cmp (take n identifier) prefix)

other : (b : Bool) (x y : List ℕ) → bytes_eq x y ≡ b → (x ≡ y → ⊥) → b ≡ false
other true x y e apart = absurd (apart ((bytes_eq-Decides x y).0 e))
other false x y e apart = refl

equal : (m n : ℕ) → (m == n) ≡ true → m ≡ n
equal m n e = (Decides-eqb m n).0 e

unequal : (m n : ℕ) → (m == n) ≡ false → m ≡ n → ⊥
unequal m n e same = let bad = (Decides-eqb m n).1 same in cc

-- one of another length isn't at the first bytes of an identifier
apart : (identifier prefix : List ℕ) (n : ℕ) → n ≤ length identifier → (length prefix == n) ≡ false → is_eq (slice_cmp nat_cmp (take n identifier) prefix) ≡ false
apart identifier prefix n inside differs =
    is_eq-slice_cmp (take n identifier) prefix
    ∙ other _ (take n identifier) prefix refl (λ same.
    let len = length-take n identifier in
    let is : length (take n identifier) ≡ length prefix = ap length same in
    unequal (length prefix) n differs (omega (arith, len, is)))

-- one that is longer than the identifier doesn't begin it
too_long : (identifier prefix : List ℕ) → length identifier < length prefix → begins_with identifier prefix ≡ false
too_long identifier prefix long =
    other _ (take (length prefix) identifier) prefix refl (λ same.
    let len = length-take (length prefix) identifier in
    let is : length (take (length prefix) identifier) ≡ length prefix = ap length same in
    omega (arith, len, is))

one_of_length : (identifier : List ℕ) (n : ℕ) (home : List ℕ × ℕ) (homes kept : Homes) (b : Bool) → n ≤ length identifier → (length home.0 == n) ≡ b
    → sent_by kept identifier ≡ placed_at (take n identifier) homes → sent_by (cond b (home ∷ kept) kept) identifier ≡ placed_at (take n identifier) (home ∷ homes)
one_of_length identifier n home homes kept true inside is later =
    chosen _ _ home.1 _ _ (whole identifier home.0 n (equal (length home.0) n is)) later
one_of_length identifier n home homes kept false inside is later =
    later ∙ sym (ap (λ c. cond c (Some home.1) (placed_at (take n identifier) homes)) (apart identifier home.0 n inside is))

-- of the homes whose prefixes have so many bytes the one decides that is at the identifier's first bytes
of_length : (identifier : List ℕ) (n : ℕ) (homes : Homes) → n ≤ length identifier → sent_by (filter (has_length n) homes) identifier ≡ placed_at (take n identifier) homes
of_length identifier n [] inside = refl
of_length identifier n (home ∷ homes) inside =
    one_of_length identifier n home homes (filter (has_length n) homes) (length home.0 == n) inside refl (of_length identifier n homes inside)

one_too_long : (identifier : List ℕ) (n : ℕ) (home : List ℕ × ℕ) (kept : Homes) (b : Bool) → length identifier < n → (length home.0 == n) ≡ b
    → sent_by kept identifier ≡ None → sent_by (cond b (home ∷ kept) kept) identifier ≡ None
one_too_long identifier n home kept true long is later =
    let same = equal (length home.0) n is in
    chosen _ false home.1 _ None (too_long identifier home.0 (omega (arith, same, long))) later
one_too_long identifier n home kept false long is later = later

-- where these are longer than the identifier none of them does
of_longer : (identifier : List ℕ) (n : ℕ) (homes : Homes) → length identifier < n → sent_by (filter (has_length n) homes) identifier ≡ None
of_longer identifier n [] long = refl
of_longer identifier n (home ∷ homes) long = one_too_long identifier n home (filter (has_length n) homes) (length home.0 == n) long refl (of_longer identifier n homes long)

abbrev either : Option ℕ → Option ℕ → Option ℕ
either None p = p
either (Some x) p = Some x

either-cond : (b : Bool) (x : ℕ) (o p : Option ℕ) → cond b (Some x) (either o p) ≡ either (cond b (Some x) o) p
either-cond true x o p = refl
either-cond false x o p = refl

-- the first of two lists decides, or else the second
sent_by-append : (xs ys : Homes) (identifier : List ℕ) → sent_by (xs ++ ys) identifier ≡ either (sent_by xs identifier) (sent_by ys identifier)
sent_by-append [] ys identifier = refl
sent_by-append (home ∷ xs) ys identifier =
    ap (cond (begins_with identifier home.0) (Some home.1)) (sent_by-append xs ys identifier)
    ∙ either-cond (begins_with identifier home.0) home.1 (sent_by xs identifier) (sent_by ys identifier)

-- the longest of the prefixes with which an identifier begins is at the node
abbrev IsLongest : Homes → List ℕ → ℕ → Type 0
IsLongest homes identifier node =
    (k : ℕ) × (k ≤ length identifier) × (placed_at (take k identifier) homes ≡ Some node) × ((j : ℕ) → k < j → j ≤ length identifier → placed_at (take j identifier) homes ≡ None)

-- it begins with none of those with more than so many bytes
abbrev HasNoLonger : Homes → List ℕ → ℕ → Type 0
HasNoLonger homes identifier n = (j : ℕ) → 256 < n + j → j ≤ length identifier → placed_at (take j identifier) homes ≡ None

abbrev Sends : Homes → List ℕ → ℕ → Option ℕ → Type 0
Sends homes identifier n None = HasNoLonger homes identifier n
Sends homes identifier n (Some node) = IsLongest homes identifier node

sends_more : (homes : Homes) (identifier : List ℕ) (n : ℕ) (o p : Option ℕ) → n ≤ 256 → sent_by (filter (has_length (256 - n)) homes) identifier ≡ p
    → Sends homes identifier n o → Sends homes identifier (suc n) (either o p)
sends_more homes identifier n (Some node) p few is before = before
sends_more homes identifier n None None few is before = λ j late inside.
    elim (cases_order (256 - n) j) [
      | inl same ↦ sym (of_length identifier j homes inside) ∙ ap (λ k. sent_by (filter (has_length k) homes) identifier) (sym same) ∙ is
      | inr (inl less) ↦ before j (omega arith) inside
      | inr (inr more) ↦ absurd (omega arith)
    ]
sends_more homes identifier n None (Some node) few is before =
    elim (cases_order (length identifier) (256 - n)) [
      | inl same ↦ (256 - n, omega arith, sym (of_length identifier (256 - n) homes (omega arith)) ∙ is, λ j late inside. before j (omega arith) inside)
      | inr (inl less) ↦ (let bad : ◌≡◌ {A = Option ℕ} None (Some node) = sym (of_longer identifier (256 - n) homes less) ∙ is in absurd (cc))
      | inr (inr more) ↦ (256 - n, omega arith, sym (of_length identifier (256 - n) homes (omega arith)) ∙ is, λ j late inside. before j (omega arith) inside)
    ]

sends : (homes : Homes) (identifier : List ℕ) (n : ℕ) → n ≤ 257 → length identifier ≤ 256 → Sends homes identifier n (sent_by (ordered_for n homes) identifier)
sends homes identifier zero few short = λ j late inside. absurd (omega arith)
sends homes identifier (suc n) few short =
    subst (Sends homes identifier (suc n)) (sym (sent_by-append (ordered_for n homes) (filter (has_length (256 - n)) homes) identifier))
    (sends_more homes identifier n (sent_by (ordered_for n homes) identifier) _ (omega arith) refl (sends homes identifier n (omega arith) short))

-- what the table's map has at a prefix
found : (t : Table) (homes : Homes) (prefix : List ℕ) → AreHomes t homes → finite.get t.homes prefix ≡ placed_at prefix homes
found t homes prefix are = ap (λ m. finite.get m prefix) (sym are) ∙ finite.get-from_entries nat_list_cmp_total homes prefix

by_prefix : (t : Table) (homes : Homes) (identifier : List ℕ) (node : ℕ) → AreHomes t homes → IsLongest homes identifier node → IsByPrefix t.homes identifier node
by_prefix t homes identifier node are (k, inside, is, none) =
    (k, inside, found t homes (take k identifier) are ∙ is, λ j more within. found t homes (take j identifier) are ∙ none j more within)

no_prefix : (t : Table) (homes : Homes) (identifier : List ℕ) → AreHomes t homes → HasNoLonger homes identifier 257 → HasNoPrefix t.homes identifier
no_prefix t homes identifier are none = λ k inside. found t homes (take k identifier) are ∙ none k (omega arith) inside

alone : (t : Table) (identifier : List ℕ) (i j : ℕ) → IsByPrefix t.homes identifier i → IsByPrefix t.homes identifier j → i ≡ j
alone t identifier i j (k, hk, fk, nk) (m, hm, fm, nm) =
    elim (cases_order k m) [
      | inl same ↦ (let both : Some i ≡ Some j = sym fk ∙ ap (λ n. finite.get t.homes (take n identifier)) same ∙ fm in cc)
      | inr (inl less) ↦ (let none = nk m less hm in absurd (cc))
      | inr (inr more) ↦ (let none = nm k more hk in absurd (cc))
    ]

not_both : (t : Table) (identifier : List ℕ) (i : ℕ) → IsByPrefix t.homes identifier i → HasNoPrefix t.homes identifier → ⊥
not_both t identifier i (k, hk, fk, nk) none = let h = none k hk in cc

-- where the lines of the homes send it
by_homes : (t : Table) (homes : Homes) (identifier : List ℕ) (o : Option ℕ) → AreHomes t homes → Sends homes identifier 257 o → (node : ℕ)
    → ((o ≡ Some node → IsByPrefix t.homes identifier node) × (IsByPrefix t.homes identifier node → o ≡ Some node)) × ((o ≡ None → HasNoPrefix t.homes identifier) × (HasNoPrefix t.homes identifier → o ≡ None))
by_homes t homes identifier None are none node =
    let no = no_prefix t homes identifier are none in ((λ e. absurd (cc), λ by. absurd (not_both t identifier node by no)), (λ e. no, λ e. refl))
by_homes t homes identifier (Some m) are longest node =
    let by = by_prefix t homes identifier m are longest in (
      (λ e. subst (IsByPrefix t.homes identifier) (let same : m ≡ node = cc in same) by, λ other_by. ap Some (alone t identifier m node by other_by)),
      (λ e. absurd (cc), λ no. absurd (not_both t identifier m by no)),
    )

sent_home : (t : Table) (homes : Homes) (identifier : List ℕ) (node : ℕ) → AreHomes t homes → length identifier ≤ 256 → IsSent t homes identifier node → IsHome t identifier node
sent_home t homes identifier node are short (inl own) = inl own
sent_home t homes identifier node are short (inr (inl sent)) =
    inr (inl (sent.0, (by_homes t homes identifier _ are (sends homes identifier 257 (omega arith) short) node).0.0 sent.1))
sent_home t homes identifier node are short (inr (inr rest)) =
    inr (inr (rest.0, (by_homes t homes identifier _ are (sends homes identifier 257 (omega arith) short) node).1.0 rest.1, rest.2))

home_sent : (t : Table) (homes : Homes) (identifier : List ℕ) (node : ℕ) → AreHomes t homes → length identifier ≤ 256 → IsHome t identifier node → IsSent t homes identifier node
home_sent t homes identifier node are short (inl own) = inl own
home_sent t homes identifier node are short (inr (inl by)) =
    inr (inl (by.0, (by_homes t homes identifier _ are (sends homes identifier 257 (omega arith) short) node).0.1 by.1))
home_sent t homes identifier node are short (inr (inr rest)) =
    inr (inr (rest.0, (by_homes t homes identifier _ are (sends homes identifier 257 (omega arith) short) node).1.1 rest.1, rest.2))

pub clients_sent_home : ClientsAreSentHome
clients_sent_home t homes identifier node are some short = (sent_home t homes identifier node are short, home_sent t homes identifier node are short)
