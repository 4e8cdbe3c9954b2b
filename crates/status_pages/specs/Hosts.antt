-- By which hosts a node is asked. A `Host` (RFC 9110, 7.2) is a name or an IP address, and a port. One in brackets has an address of IPv6 in them, or the request can't be read.
use Rattle.std.specs.Prelude.{◌⊎◌, ℕ, ◌==◌, ◌&&◌, Bool, false, not, List, [], ◌∷◌, length, Option, Some, None, codes, take, IsTrue}
use Rattle.std.specs.Borrow.{Bor}
use Rattle.std.specs.List.{list_any, prefix_len, slice_split}
use Rattle.std.specs.Net.Grammar.{IsIpv4Text}
use Rattle.std.specs.declared.net.ipv4_addr.Ipv4Addr.{Ipv4Addr}
use Rattle.http_header.specs.FieldValue.{FieldValue}
use Rattle.http_header.specs.HeaderMap.{Entries, get}
use Rattle.http1.specs.Text.{eq_ignore_case}

-- how long what stands before the colon of a port is
abbrev pub name_len : List ℕ → ℕ
name_len host = prefix_len (λ b. not (b == 58)) host

abbrev pub is_bracketed : List ℕ → Bool
is_bracketed [] = false
is_bracketed (b ∷ host) = b == 91

-- an address of IPv6, or of IPv4
abbrev pub IsAddress : List ℕ → Type 0
IsAddress host = IsTrue (is_bracketed host) ⊎ ((address : Ipv4Addr) × IsIpv4Text (take (name_len host) host) address)

-- it has this name, in letters of either case; no host has an empty one
abbrev pub is_named : List ℕ → List ℕ → Bool
is_named host name = not (length name == 0) && eq_ignore_case (take (name_len host) host) name

-- the names between the commas of a text
abbrev pub names_in : List ℕ → List (List ℕ)
names_in text = slice_split (λ b. b == 44) text

-- those that are left, where any are
abbrev pub names_left : Option (Bor (List ℕ)) → List (List ℕ)
names_left None = []
names_left (Some text) = names_in text.now

-- it has one of them
abbrev pub is_among : List ℕ → List ℕ → Bool
is_among host names = list_any (is_named host) (names_in names)

-- a node is asked by an IP address, as `localhost`, by its name, or by one of these names: no name that somebody else may give to its address
abbrev pub IsHost : List ℕ → List ℕ → List ℕ → Type 0
IsHost host node names = IsAddress host ⊎ IsTrue (is_named host (codes "localhost")) ⊎ IsTrue (is_named host node) ⊎ IsTrue (is_among host names)

-- of several fields named so the first
abbrev pub host_in : Entries FieldValue → Option FieldValue
host_in headers = get headers (codes "host")

-- a request of HTTP/1.0 may have none
abbrev pub Fits : Option FieldValue → List ℕ → List ℕ → Type 0
Fits None node names = Unit {0}
Fits (Some host) node names = IsHost host.bytes node names
