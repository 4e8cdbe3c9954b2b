-- The tables of homes of a cluster.
use Rattle.std.proofs.Common.{◌≡◌, ◌<◌, ◌≤◌, ◌+◌, ◌==◌, ◌&&◌, ℕ, zero, suc, Bool, true, List, [], ◌∷◌, ◌++◌, length, map, take, get_or, sym, ap, ◌∙◌, arith}
use Rattle.std.specs.List.{list_all}
use Rattle.std.specs.Prelude.{nat_le}
use Rattle.std.proofs.lemmas.Bool.Decides.{nat_tests}
use Rattle.std.proofs.lemmas.List.{take_more, map_push}
use Rattle.home_table.specs.Table.{Table}
use Rattle.cluster_play.specs.Clusters.{are_tables}
use Rattle.cluster_play.specs.Worlds.{Site}
use Rattle.cluster_play.proofs.Bools.{and_true, nat_is}

all_at : {A : Type 0} (p : A → Bool) (xs : List A) (i : ℕ) (d : A) → list_all p xs ≡ true → i < length xs → p (get_or xs i d) ≡ true
all_at p [] i d all h = absurd (omega arith)
all_at p (x ∷ xs) zero d all h = (and_true (p x) (list_all p xs) all).0
all_at p (x ∷ xs) (suc i) d all h = all_at p xs i d (and_true (p x) (list_all p xs) all).1 (omega arith)

-- a table of tables that fit one another is for as many nodes as there are tables
pub fits_at : (tables : List Table) (i : ℕ) (x : Table) → are_tables tables ≡ true → i < length tables → x ≡ get_or tables i x → length x.nodes ≡ length tables
fits_at tables i x all h is =
    let each = (and_true (nat_le 1 (length tables) && nat_le (length tables) 64) (list_all (λ t. length t.nodes == length tables) tables) all).1 in
    let here : (length (get_or tables i x).nodes == length tables) ≡ true = all_at (λ t. length t.nodes == length tables) tables i x each h in
    ap (λ (t : Table). length t.nodes) is ∙ nat_is (length (get_or tables i x).nodes) (length tables) here

pub few_tables : (tables : List Table) → are_tables tables ≡ true → length tables ≤ 64
few_tables tables all =
    let few = (and_true (nat_le 1 (length tables)) (nat_le (length tables) 64) (and_true (nat_le 1 (length tables) && nat_le (length tables) 64) (list_all (λ t. length t.nodes == length tables) tables) all).0).1 in
    grind (arith, nat_tests)

-- the tables of the first nodes, and one more
abbrev pub table_of : Site → Table
table_of s = s.node.homes

pub homes_more : (sites : List Site) (tables : List Table) (i : ℕ) (s : Site) (x : Table) → i < length tables → x ≡ get_or tables i x → table_of s ≡ x
    → map table_of sites ≡ take i tables → map table_of (sites ++ s ∷ []) ≡ take (i + 1) tables
homes_more sites tables i s x h is homes first =
    map_push table_of sites s ∙ (λ k. first k ++ (homes ∙ is) k ∷ []) ∙ sym (take_more tables i x h)
