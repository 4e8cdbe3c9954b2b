-- The text of a backend of HAProxy that sends each client to its home, line by line.
use Rattle.std.specs.Prelude.{◌≡◌, ℕ, zero, suc, ◌-◌, ◌==◌, ◌||◌, Bool, true, false, List, [], ◌∷◌, ◌++◌, codes, length, option_map, slice_get, unwrap_or, if◌then◌else◌}
use Rattle.std.specs.List.{filter, list_all, list_any}
use Rattle.std.specs.Char.{is_ascii_alphanumeric}
use Rattle.std.specs.Fmt.{decimal}
use Rattle.hex.specs.Hex.{encode_lower}
use Rattle.home_table.specs.Table.{Table}

-- the name of a node, and where clients reach it
abbrev pub name_at : Table → ℕ → List ℕ
name_at t number = unwrap_or (option_map (λ n. n.name) (slice_get t.nodes number)) []

abbrev pub address_at : Table → ℕ → List ℕ
address_at t number = unwrap_or (option_map (λ n. n.address) (slice_get t.nodes number)) []

-- the bytes of a word that stand for themselves
abbrev pub is_plain : ℕ → Bool
is_plain b = is_ascii_alphanumeric b || list_any (λ c. c == b) (codes "-_./:[]")

-- each byte by its number
abbrev pub escapes : List ℕ → List ℕ
escapes [] = []
escapes (b ∷ bs) = codes "\\x" ++ encode_lower (b ∷ []) ++ escapes bs

abbrev pub as_word : List ℕ → List ℕ
as_word text = if list_all is_plain text then text else escapes text

-- the lines of the first numbers, and those of some values
abbrev pub lines_below : (ℕ → List ℕ) → ℕ → List ℕ
lines_below line zero = []
lines_below line (suc n) = lines_below line n ++ line n

abbrev pub lines_of : {A : Type 0} → (A → List ℕ) → List A → List ℕ
lines_of line [] = []
lines_of line (x ∷ xs) = line x ++ lines_of line xs

unfoldable pub heading : ℕ → List ℕ
heading version = codes "# Sends each client to its home, by version " ++ decimal version ++ codes " of the table of homes.\n"

-- how it begins: what HAProxy reads of a client before it chooses a node
unfoldable pub opening : ℕ → List ℕ
opening version =
    heading version
    ++ codes "backend homes\n    mode tcp\n    balance leastconn\n    option persist\n    tcp-request inspect-delay 10s\n    tcp-request content reject unless { req.payload(0,0),mqtt_is_valid }\n    tcp-request content set-var(txn.id) req.payload(0,0),mqtt_field_value(connect,client_identifier)\n"

-- the sum of the bytes of an identifier
unfoldable pub sum_line : ℕ → List ℕ
sum_line place =
    codes "    tcp-request content set-var(txn.sum) var(txn.id),bytes(" ++ (decimal place
    ++ (codes ",1),be2dec(,1),add(txn.sum) if { var(txn.id),length gt " ++ (decimal place ++ codes " }\n")))

-- of each of them
unfoldable pub byte_lines : List ℕ
byte_lines = lines_below sum_line 256

unfoldable pub zero_line : List ℕ
zero_line = codes "    tcp-request content set-var(txn.sum) int(0)\n"

abbrev pub sum_lines : List ℕ
sum_lines = zero_line ++ byte_lines

-- identifiers that a node gives by itself, by its number, go to the node of that name
unfoldable pub given : List ℕ → ℕ → List ℕ
given name number =
    codes "    use-server " ++ (name ++ (codes " if { var(txn.id) -m reg ^auto-" ++ (decimal number
    ++ (codes "-[0-9] } !{ var(txn.id) -m reg ^auto-" ++ (decimal number ++ codes "-(0.|.*[^0-9]) }\n")))))

unfoldable pub given_line : Table → ℕ → List ℕ
given_line t number = given (name_at t number) number

unfoldable pub begins_plainly : List ℕ → List ℕ
begins_plainly prefix = codes "{ var(txn.id) -m beg -- " ++ prefix ++ codes " }"

unfoldable pub begins_by : List ℕ → List ℕ
begins_by digits = codes "{ var(txn.id),hex,lower -m beg " ++ digits ++ codes " }"

-- what begins with a prefix; each identifier but the empty one begins with the empty prefix
unfoldable pub begins : List ℕ → List ℕ
begins prefix =
    if length prefix == 0 then codes "{ var(txn.id),length gt 0 }"
    else if list_all is_plain prefix then begins_plainly prefix
    else begins_by (encode_lower prefix)

unfoldable pub use_line : List ℕ → List ℕ → List ℕ
use_line name condition = codes "    use-server " ++ (name ++ (codes " if " ++ (condition ++ codes "\n")))

-- goes to the node of the prefix
unfoldable pub home_line : Table → List ℕ × ℕ → List ℕ
home_line t home = use_line (name_at t home.1) (begins home.0)

-- the homes whose prefixes have so many bytes
abbrev pub has_length : ℕ → List ℕ × ℕ → Bool
has_length n home = length home.0 == n

-- the homes whose prefixes have 256 bytes, then those of 255 and so on, for so many lengths
abbrev pub ordered_for : ℕ → List (List ℕ × ℕ) → List (List ℕ × ℕ)
ordered_for zero homes = []
ordered_for (suc n) homes = ordered_for n homes ++ filter (has_length (256 - n)) homes

-- the longest prefix first: no client identifier has more than 256 bytes
abbrev pub ordered : List (List ℕ × ℕ) → List (List ℕ × ℕ)
ordered homes = ordered_for 257 homes

-- whether a home is that of all identifiers that begin with no other prefix
abbrev pub is_rest : List ℕ × ℕ → Bool
is_rest home = length home.0 == 0

-- what begins with none of the prefixes goes to the node in place sum of the bytes modulo the number of nodes
unfoldable pub rest : List ℕ → ℕ → ℕ → List ℕ
rest name nodes number =
    codes "    use-server " ++ (name ++ (codes " if { var(txn.id),length gt 0 } { var(txn.sum),mod(" ++ (decimal nodes
    ++ (codes ") eq " ++ (decimal number ++ codes " }\n")))))

unfoldable pub rest_line : Table → ℕ → List ℕ
rest_line t number = rest (name_at t number) (length t.nodes) number

abbrev pub sum_lines_if : Bool → List ℕ
sum_lines_if true = []
sum_lines_if false = sum_lines

abbrev pub rest_lines_if : Table → Bool → List ℕ
rest_lines_if t true = []
rest_lines_if t false = lines_below (rest_line t) (length t.nodes)

-- a node with its address; whether it takes connections is looked at, so that clients without an identifier come to one that does
unfoldable pub server_line : Table → ℕ → List ℕ
server_line t number = codes "    server " ++ name_at t number ++ codes " " ++ as_word (address_at t number) ++ codes " check\n"

-- of the lines `use-server` the first one decides whose condition an identifier meets
abbrev pub balancer_text : Table → List (List ℕ × ℕ) → List ℕ
balancer_text t homes =
    opening t.version
    ++ sum_lines_if (list_any is_rest homes)
    ++ lines_below (given_line t) (length t.nodes)
    ++ lines_of (home_line t) (ordered homes)
    ++ rest_lines_if t (list_any is_rest homes)
    ++ lines_below (server_line t) (length t.nodes)
