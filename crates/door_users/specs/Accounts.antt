-- The file of users: a line for each, as `mosquitto_passwd` writes it.
use Rattle.std.specs.Prelude.{ℕ, ◌+◌, ◌^◌, List, [], ◌∷◌, ◌++◌, length, drop, Bool, not, ◌&&◌, ◌||◌, ◌==◌, nat_eq, nat_lt, nat_le, Result, Ok, Err, codes, if◌then◌else◌}
use Rattle.std.specs.List.{after_first, before_first, list_all, list_any, starts_with}
use Rattle.std.specs.Str.{all_ascii_digits, bytes_eq, trim}
use Rattle.std.specs.Str.Parse.{digits_value}
use Rattle.base64.specs.declared.decode.DecodeError.{DecodeError}
use Rattle.base64.specs.Engines.{standard}
use Rattle.base64.specs.GeneralPurpose.{decode_of}
use Rattle.door_users.specs.declared.fault.LineFlaw.{LineFlaw}
use Rattle.door_users.specs.declared.fault.LineFlaw.TheVariants.{NoName, BadName, NameTwice, NotPbkdf2, BadIterations, BadSalt, BadHash}
use Rattle.door_users.specs.Lines.{file_lines}
use Rattle.door_users.specs.Outcomes.{◌>>=◌, at_line}

-- a user name, and the hash of its password with a salt after so many iterations of PBKDF2
pub record Account : Type 0 where
  pub name : List ℕ
  pub iterations : ℕ
  pub salt : List ℕ
  pub hash : List ℕ

abbrev pub has_none : List ℕ → Bool
has_none text = length text == 0

-- a text that MQTT can carry, of what is UTF-8: at most 65,535 bytes, and no U+0000 (MQTT 5.0, 1.5.4)
abbrev pub is_carried : List ℕ → Bool
is_carried text = nat_lt (length text) (2 ^ 16) && list_all (λ b. not (b == 0)) text

abbrev pub is_colon : ℕ → Bool
is_colon b = b == 58

abbrev pub is_dollar : ℕ → Bool
is_dollar b = b == 36

abbrev pub carried : LineFlaw → List ℕ → Result (List ℕ) LineFlaw
carried flaw text = if is_carried text then Ok text else Err flaw

-- the name stands before the first colon
abbrev pub name_in : List ℕ → Result (List ℕ) LineFlaw
name_in name = if has_none name then Err NoName else carried BadName name

-- `$7$` is the sign of PBKDF2 with HMAC-SHA-512
abbrev pub after_kind : List ℕ → Result (List ℕ) LineFlaw
after_kind hash = if starts_with nat_eq hash (codes "$7$") then Ok (drop 3 hash) else Err NotPbkdf2

-- a number from 1 to 100,000 in decimal digits, the first one no zero
abbrev pub is_count : List ℕ → Bool
is_count text =
    (not (has_none text) && not (starts_with nat_eq text (48 ∷ []))) && (all_ascii_digits text && (nat_lt 0 (digits_value 10 text) && nat_le (digits_value 10 text) 100000))

abbrev pub iterations_in : List ℕ → Result ℕ LineFlaw
iterations_in text = if is_count text then Ok (digits_value 10 text) else Err BadIterations

-- bytes in base64, with its padding (RFC 4648, 4)
abbrev pub bytes_by : LineFlaw → Result (List ℕ) DecodeError → Result (List ℕ) LineFlaw
bytes_by flaw (Ok bytes) = Ok bytes
bytes_by flaw (Err error) = Err flaw

abbrev pub bytes_in : LineFlaw → List ℕ → Result (List ℕ) LineFlaw
bytes_in flaw text = bytes_by flaw (decode_of standard text)

-- 64 bytes
abbrev pub hash_in : List ℕ → Result (List ℕ) LineFlaw
hash_in text = bytes_in BadHash text >>= λ bytes. (if length bytes == 64 then Ok bytes else Err BadHash)

-- iterations, `$`, salt, `$` and hash
abbrev pub secret_in : List ℕ → List ℕ → Result Account LineFlaw
secret_in name text =
    iterations_in (before_first is_dollar text)
    >>= λ iterations. bytes_in BadSalt (before_first is_dollar (after_first is_dollar text))
    >>= λ salt. hash_in (after_first is_dollar (after_first is_dollar text))
    >>= λ hash. Ok (record { name = name; iterations = iterations; salt = salt; hash = hash })

abbrev pub account_in : List ℕ → Result Account LineFlaw
account_in line = name_in (before_first is_colon line) >>= λ name. after_kind (after_first is_colon line) >>= λ text. secret_in name text

-- a line that is empty, or begins with `#`, says nothing
abbrev pub is_skipped : List ℕ → Bool
is_skipped line = has_none line || starts_with nat_eq line (35 ∷ [])

abbrev pub has_name : List ℕ → List Account → Bool
has_name name accounts = list_any (λ a. bytes_eq a.name name) accounts

-- one more account, whose name is new
abbrev pub with_account : List Account → Account → Result (List Account) LineFlaw
with_account accounts a = if has_name a.name accounts then Err NameTwice else Ok (accounts ++ a ∷ [])

-- a line, without white space at its ends
abbrev pub with_line : List Account → List ℕ → Result (List Account) LineFlaw
with_line accounts line = if is_skipped line then Ok accounts else (account_in line >>= with_account accounts)

-- the lines from this number on
abbrev pub with_lines : ℕ → List Account → List (List ℕ) → Result (List Account) (ℕ × LineFlaw)
with_lines number accounts [] = Ok accounts
with_lines number accounts (line ∷ more) = at_line number (with_line accounts (trim line)) >>= λ known. with_lines (number + 1) known more

-- the users of a file
abbrev pub accounts_of : List ℕ → Result (List Account) (ℕ × LineFlaw)
accounts_of text = with_lines 1 [] (file_lines text)
