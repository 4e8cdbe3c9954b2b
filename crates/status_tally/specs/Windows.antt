-- What went through in the last ten seconds.
use Rattle.std.specs.Prelude.{ℕ, ◌-◌, Bool, true, List, [], ◌∷◌, ◌++◌, Option, Some, None, max, nat_le, if◌then◌else◌}
use Rattle.std.specs.Int.{abs_diff}
use Rattle.circular_buffer.specs.Buffer.{keep_last, last_item}
use Rattle.status_figures.specs.declared.traffic.Traffic.{Traffic}
use Rattle.status_tally.specs.declared.window.Mark.{Mark}

-- nothing has gone through
abbrev pub no_traffic : Traffic
no_traffic = record {
  opened = 0;
  bytes_received = 0;
  packets_sent = 0;
  bytes_sent = 0;
  frames_received = 0;
  frame_bytes_received = 0;
  frames_sent = 0;
  frame_bytes_sent = 0;
}

-- what went through after so much
abbrev pub less : Traffic → Traffic → Traffic
less total before = record {
  opened = total.opened - before.opened;
  bytes_received = total.bytes_received - before.bytes_received;
  packets_sent = total.packets_sent - before.packets_sent;
  bytes_sent = total.bytes_sent - before.bytes_sent;
  frames_received = total.frames_received - before.frames_received;
  frame_bytes_received = total.frame_bytes_received - before.frame_bytes_received;
  frames_sent = total.frames_sent - before.frames_sent;
  frame_bytes_sent = total.frame_bytes_sent - before.frame_bytes_sent;
}

-- a second has passed since the last mark, if there is one
abbrev pub is_away : ℕ → Option Mark → Bool
is_away at None = true
is_away at (Some mark) = nat_le 1000 (abs_diff mark.at at)

abbrev pub is_due : ℕ → List Mark → Bool
is_due at marks = is_away at (last_item marks)

-- a total is noted at a moment, with the longest time between two ticks, and the last eleven are kept
abbrev pub noted : ℕ → Traffic → ℕ → List Mark → List Mark
noted at total longest marks = if is_due at marks then keep_last 11 (marks ++ record { at = at; total = total; longest = longest } ∷ []) else marks

-- the total at the oldest mark that is at most ten seconds away; where there is none, nothing had gone through
abbrev pub base : ℕ → List Mark → Traffic
base at [] = no_traffic
base at (mark ∷ marks) = if nat_le (abs_diff mark.at at) 10000 then mark.total else base at marks

-- the longest time between two ticks, of one and those of the marks that are at most ten seconds away
abbrev pub with_mark : ℕ → ℕ → Mark → ℕ
with_mark at longest mark = if nat_le (abs_diff mark.at at) 10000 then max longest mark.longest else longest

abbrev pub longest_of : ℕ → ℕ → List Mark → ℕ
longest_of at longest [] = longest
longest_of at longest (mark ∷ marks) = longest_of at (with_mark at longest mark) marks
