-- What is read as homes of a table's text are those of the table.
use Rattle.std.proofs.Common.{◌≡◌, ◌∙◌, ◌⊎◌, ℕ, Bool, true, false, List, [], ◌∷◌, map, Option, Some, None, option_map, Result, Ok, Err, if◌then◌else◌, inl, inr, refl, sym, ap, subst}
use Rattle.std.specs.Prelude.{IfErr, IsErrAnd, codes, option_and_then}
use Rattle.std.specs.FinMap as finite
use Rattle.toml.specs.Data.{Data, Members, as_str, as_table, get_member}
use Rattle.toml.specs.Parse.{parse_document}
use Rattle.home_table.specs.Document.{◌>>=◌, Parts, Refuses, are_few, each, has_only, home_of, home_row, is_document_key, is_home_key, is_value, items_at, node_row, only, parts_of, row_of, rows_in, rows_of, sections, text_at, version_at}
use Rattle.home_table.specs.Table.{Table, home_of_row, reading, table_in, table_of}
use Rattle.home_table.specs.declared.fault.TableFault.{TableFault}
use Rattle.home_table.specs.declared.fault.TableFault.TheVariants.{NoMemory, NoNodes, TwiceNamed, UnknownNode}
use Rattle.home_table.specs.declared.rows.HomeEntry.{HomeEntry}
use Rattle.home_table.specs.declared.rows.NodeEntry.{NodeEntry}
use Rattle.cli_files.specs.Listed.{AreHomes, home_in, listed_in}

bound : {A B : Type 0} (o : Option A) (f : A → Option B) (y : B) → o >>= f ≡ Some y → (x : A) × (o ≡ Some x) × (f x ≡ Some y)
bound None f y e = absurd (cc)
bound (Some x) f y e = (x, refl, e)

chosen : {A : Type 0} (b : Bool) (x y : A) → (if b then Some x else None) ≡ Some y → x ≡ y
chosen true x y e = cc
chosen false x y e = absurd (cc)

passed : {A : Type 0} (test : A → Bool) (o : Option A) (y : A) → o >>= only test ≡ Some y → o ≡ Some y
passed test o y e = let b = bound o (only test) y e in b.1 ∙ ap Some (chosen (test b.0) b.0 y b.2)

joined : (value : Data) (row : Members) (prefix node : List ℕ) (home : HomeEntry) → as_table value ≡ Some row → (get_member (codes "prefix") row >>= as_str) ≡ Some prefix
    → (get_member (codes "node") row >>= as_str) ≡ Some node → Some (home_of prefix node) ≡ Some home → home_in value ≡ Some (home.prefix, home.node)
joined value row prefix node home in_row at_prefix at_node is = rw (in_row, at_prefix, at_node) (let same : home_of prefix node ≡ home = cc in ap (λ h. Some (h.prefix, h.node)) same)

-- a home has its prefix and its node
has_home : (value : Data) (home : HomeEntry) → home_row value ≡ Some home → home_in value ≡ Some (home.prefix, home.node)
has_home value home e =
    let row = bound (row_of is_home_key value) _ home e in
    let prefix = bound (text_at (codes "prefix") row.0) _ home row.2 in
    let node = bound (text_at (codes "node") row.0) _ home prefix.2 in
    let is_row = passed (has_only is_home_key) (as_table value) row.0 row.1 in
    let is_prefix = passed is_value (get_member (codes "prefix") row.0 >>= as_str) prefix.0 prefix.1 in
    let is_node = passed is_value (get_member (codes "node") row.0 >>= as_str) node.0 node.1 in
    let is : ◌≡◌ {A = Option HomeEntry} (Some (home_of prefix.0 node.0)) (Some home) = node.2 in
    joined value row.0 prefix.0 node.0 home is_row is_prefix is_node is

both : {A B : Type 0} (o : Option A) (p : Option (List A)) (q : Option (List B)) (f : A → B) (ys : List A) (z : Option B)
    → ((x : A) → o ≡ Some x → z ≡ Some (f x)) → ((xs : List A) → p ≡ Some xs → q ≡ Some (map f xs))
    → o >>= (λ x. option_map (λ xs. x ∷ xs) p) ≡ Some ys → z >>= (λ y. option_map (λ zs. y ∷ zs) q) ≡ Some (map f ys)
both None p q f ys z first later e = absurd (cc)
both (Some x) None q f ys z first later e = absurd (cc)
both (Some x) (Some xs) q f ys z first later e =
    let is : x ∷ xs ≡ ys = cc in
    rw (first x refl, later xs refl) (ap (λ zs. Some (map f zs)) is)

-- the homes that values write are listed
has_homes : (t : Table) (values : List Data) (homes : List HomeEntry) → each home_row values ≡ Some homes → each (listed_in t) values ≡ Some (map (home_of_row t.nodes) homes)
has_homes t [] homes e = let is : ◌≡◌ {A = List HomeEntry} [] homes = cc in ap (λ hs. Some (map (home_of_row t.nodes) hs)) is
has_homes t (value ∷ values) homes e =
    both (home_row value) (each home_row values) (each (listed_in t) values) (home_of_row t.nodes) homes (listed_in t value)
    (λ home is. rw (has_home value home is) refl) (λ hs is. has_homes t values hs is) e

mapped : {A B : Type 0} (f : A → B) (o : Option A) (y : B) → option_map f o ≡ Some y → (x : A) × (o ≡ Some x) × (f x ≡ y)
mapped f None y e = absurd (cc)
mapped f (Some x) y e = (x, refl, let is : f x ≡ y = cc in is)

sound : (a b c : Bool) (t u : Table) → (if a then Err NoNodes else if b then Err TwiceNamed else if c then Err UnknownNode else Ok u) ≡ Ok t → u ≡ t
sound true b c t u e = absurd (cc)
sound false true c t u e = absurd (cc)
sound false false true t u e = absurd (cc)
sound false false false t u e = cc

-- a table of some rows has their nodes and homes
of_rows : (version : ℕ) (nodes : List NodeEntry) (homes : List HomeEntry) (t : Table) → table_of version nodes homes ≡ Ok t
    → (nodes ≡ t.nodes) × (finite.from_entries (map (home_of_row nodes) homes) ≡ t.homes)
of_rows version nodes homes t e = let is = sound _ _ _ t _ e in (ap (λ (u : Table). u.nodes) is, ap (λ (u : Table). u.homes) is)

of_parts : (o : Option Parts) (t : Table) → table_in o ≡ Ok t → (parts : Parts) × (o ≡ Some parts) × (table_of parts.0 parts.1.0 parts.1.1 ≡ Ok t)
of_parts None t e = absurd (cc)
of_parts (Some parts) t e = (parts, refl, e)

-- the homes that a document lists are those of its table
pub lists : (document : Members) (t : Table) → table_in (parts_of document) ≡ Ok t
    → (homes : List (List ℕ × ℕ)) × (option_and_then (each (listed_in t)) (items_at (codes "home") document) ≡ Some homes) × AreHomes t homes
lists document t e =
    let whole = of_parts (parts_of document) t e in
    let parts = whole.0 in
    let version = bound (version_at document) _ parts whole.1 in
    let rows = mapped (λ (rows : List NodeEntry × List HomeEntry). (version.0, rows)) (rows_of document) parts version.2 in
    let section = bound (sections document) rows_in rows.0 rows.1 in
    let nodes = bound (each node_row section.0.0) _ rows.0 section.2 in
    let homes = mapped (λ (homes : List HomeEntry). (nodes.0, homes)) (each home_row section.0.1) rows.0 nodes.2 in
    let same = bound (only (has_only is_document_key) document) _ section.0 section.1 in
    let is_document = chosen (has_only is_document_key document) document same.0 same.1 in
    let few = bound (items_at (codes "node") same.0 >>= only are_few) _ section.0 same.2 in
    let items = mapped (λ (homes : List Data). (few.0, homes)) (items_at (codes "home") same.0) section.0 few.2 in
    let at = ap (items_at (codes "home")) is_document ∙ items.1 ∙ ap (λ (s : List Data × List Data). Some s.1) items.2 in
    let each_is = homes.1 ∙ ap (λ (r : List NodeEntry × List HomeEntry). Some r.1) homes.2 ∙ ap (λ (p : Parts). Some p.1.1) rows.2 in
    let made = of_rows parts.0 parts.1.0 parts.1.1 t whole.2 in (
      map (home_of_row t.nodes) parts.1.1,
      ap (option_and_then (each (listed_in t))) at ∙ has_homes t section.0.1 parts.1.1 each_is,
      ap (λ nodes. finite.from_entries (map (home_of_row nodes) parts.1.1)) (sym made.0) ∙ made.1,
    )

-- the homes that are read are those of the table
pub are_homes : (text : List ℕ) (t : Table) (document : Members) (homes : List (List ℕ × ℕ)) → reading text ≡ Ok t → parse_document text ≡ Some document
    → option_and_then (each (listed_in t)) (items_at (codes "home") document) ≡ Some homes → AreHomes t homes
are_homes text t document homes table parsed is =
    let found = lists document t (sym (ap (λ o. table_in (option_and_then parts_of o)) parsed) ∙ table) in
    let same : found.0 ≡ homes = (let both = sym found.1 ∙ is in cc) in
    subst (AreHomes t) same found.2

-- they can be had, but for want of memory
pub is_refused : {X : Type 0} (text : List ℕ) (t : Table) (document : Members) (e : TableFault) (r : Result X TableFault) → reading text ≡ Ok t → parse_document text ≡ Some document
    → Refuses (option_and_then (each (listed_in t)) (items_at (codes "home") document)) e → IsErrAnd r (λ x. x ≡ e)
    → IfErr r (λ fault. (fault ≡ NoMemory) ⊎ (reading text ≡ Err fault))
is_refused text t document e (Ok x) table parsed refused is = absurd is
is_refused text t document e (Err x) table parsed (inl memory) is = inl (is ∙ memory)
is_refused text t document e (Err x) table parsed (inr none) is =
    let found = lists document t (sym (ap (λ o. table_in (option_and_then parts_of o)) parsed) ∙ table) in
    let bad : ◌≡◌ {A = Option (List (List ℕ × ℕ))} None (Some found.0) = sym none.1 ∙ found.1 in absurd (cc)
