use Rattle.std.specs.Prelude.{ℕ, Bool, List, ◌+◌, ◌==◌, not, count_by, reverse, drop, length, ◌-◌, ◌||◌}
use Rattle.std.specs.Prelude.{nat_lt}
use Rattle.std.specs.List.{prefix_len}

-- whether a byte is a newline
abbrev pub is_newline : ℕ → Bool
is_newline b = b == 10

-- whether a byte begins a character
abbrev pub is_start : ℕ → Bool
is_start b = nat_lt b 128 || nat_lt 191 b

-- the line of what follows these bytes, from 1
abbrev pub line_after : List ℕ → ℕ
line_after before = count_by is_newline before + 1

-- how many bytes there are after the last newline
abbrev pub last_line_len : List ℕ → ℕ
last_line_len before = prefix_len (λ b. not (is_newline b)) (reverse before)

-- the column of what follows these bytes, in characters from 1
abbrev pub column_after : List ℕ → ℕ
column_after before = count_by is_start (drop (length before - last_line_len before) before) + 1
