-- One line of a file after another.
use Rattle.std.proofs.Common.{◌≡◌, ℕ, ◌+◌, List, [], ◌∷◌, sym, ap, ◌∙◌}
use Rattle.std.specs.Prelude.{Result, Ok, Err}
use Rattle.std.specs.Str.{trim}
use Rattle.mqtt_access.specs.declared.rule.ClientRule.{ClientRule}
use Rattle.mqtt_access.specs.declared.rule.TopicRule.{TopicRule}
use Rattle.door_users.specs.declared.fault.FileFault.{FileFault}
use Rattle.door_users.specs.declared.fault.FileFault.TheVariants.{NoMemory, Line}
use Rattle.door_users.specs.declared.fault.LineFlaw.{LineFlaw}
use Rattle.door_users.specs.Accounts.{Account, with_line, with_lines}
use Rattle.door_users.specs.Outcomes.{◌>>=◌, FileFails, at_line}
use Rattle.door_users.specs.Rules.{State, after_lines, after_text, rules_in}

-- ---- users

module _ (n : ℕ) (known : List Account) (lines : List (List ℕ)) (read : Result (List Account) (ℕ × LineFlaw)) where
  abbrev with_lines_by : List (List ℕ) → Result (List Account) LineFlaw → Result (List Account) (ℕ × LineFlaw)
  with_lines_by more first = at_line n first >>= λ later. with_lines (n + 1) later more

  users_by : (line : List ℕ) (more : List (List ℕ)) (first : Result (List Account) LineFlaw) → with_line known (trim line) ≡ first → lines ≡ line ∷ more → with_lines n known lines ≡ with_lines_by more first
  users_by line more first is at = ap (λ (ls : List (List ℕ)). with_lines n known ls) at ∙ ap (with_lines_by more) is

  pub users_go : (later : List Account) (line : List ℕ) (more : List (List ℕ)) → with_line known (trim line) ≡ Ok later → lines ≡ line ∷ more → with_lines n known lines ≡ read → with_lines (n + 1) later more ≡ read
  users_go later line more is at so = sym (users_by line more (Ok later) is at) ∙ so

  pub users_fail : (line : List ℕ) (more : List (List ℕ)) (flaw : LineFlaw) → with_line known (trim line) ≡ Err flaw → lines ≡ line ∷ more → with_lines n known lines ≡ read → read ≡ Err (n, flaw)
  users_fail line more flaw is at so = sym so ∙ users_by line more (Err flaw) is at

  pub users_end : lines ≡ [] → with_lines n known lines ≡ read → read ≡ Ok known
  users_end at so = sym so ∙ ap (λ (ls : List (List ℕ)). with_lines n known ls) at

-- ---- rules

module _ (n : ℕ) (s : State) (lines : List (List ℕ)) (read : Result (List TopicRule × List ClientRule) (ℕ × LineFlaw)) where
  abbrev after_lines_by : List (List ℕ) → Result State LineFlaw → Result (List TopicRule × List ClientRule) (ℕ × LineFlaw)
  after_lines_by more first = rules_in (at_line n first >>= λ t. after_lines (n + 1) t more)

  rules_by : (line : List ℕ) (more : List (List ℕ)) (first : Result State LineFlaw) → after_text s (trim line) ≡ first → lines ≡ line ∷ more → rules_in (after_lines n s lines) ≡ after_lines_by more first
  rules_by line more first is at = ap (λ (ls : List (List ℕ)). rules_in (after_lines n s ls)) at ∙ ap (after_lines_by more) is

  pub rules_go : (t : State) (line : List ℕ) (more : List (List ℕ)) → after_text s (trim line) ≡ Ok t → lines ≡ line ∷ more → rules_in (after_lines n s lines) ≡ read → rules_in (after_lines (n + 1) t more) ≡ read
  rules_go t line more is at so = sym (rules_by line more (Ok t) is at) ∙ so

  pub rules_fail : (line : List ℕ) (more : List (List ℕ)) (e : FileFault) → FileFails e (at_line n (after_text s (trim line))) → lines ≡ line ∷ more → rules_in (after_lines n s lines) ≡ read → FileFails e read
  rules_fail line more NoMemory is at so = tt
  rules_fail line more (Line number flaw) is at so =
      sym so ∙ ap (λ (ls : List (List ℕ)). rules_in (after_lines n s ls)) at ∙ ap (λ (first : Result State (ℕ × LineFlaw)). rules_in (first >>= λ t. after_lines (n + 1) t more)) is

  pub rules_end : lines ≡ [] → rules_in (after_lines n s lines) ≡ read → read ≡ Ok (s.topics, s.clients)
  rules_end at so = sym so ∙ ap (λ (ls : List (List ℕ)). rules_in (after_lines n s ls)) at
