-- The places of lines in a buffer.
use Rattle.std.specs.Prelude.{◌≡◌, ℕ, ◌≤◌, List, length}
use Rattle.hm_schedule.specs.declared.lines.TheConstants.{BUFFER_LEN}

-- how many bytes a buffer of lines holds
abbrev pub buffer_len : ℕ
buffer_len = BUFFER_LEN

-- a line, and behind it the bytes that are ahead
pub record IsBuffer (bytes : List ℕ) (line_start line_end start end : ℕ) : Type 0 where
  pub size : length bytes ≡ buffer_len
  pub line : line_start ≤ line_end
  pub before : line_end ≤ start
  pub ahead : start ≤ end
  pub within : end ≤ buffer_len
