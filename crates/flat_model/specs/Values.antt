-- The values that can be written to files: their ranges, and the first fault of any other text.
use Rattle.std.specs.Prelude.{ℕ, ◌-◌, Bool, false, cond, not, ◌&&◌, ◌||◌, ◌==◌, nat_lt, nat_le, List, [], ◌∷◌, length, take, drop, codes, Option, None, Result, Ok}
use Rattle.std.specs.List.{prefix_len, suffix_len}
use Rattle.std.specs.Str.{all_ascii_digits}
use Rattle.std.specs.Str.Parse.{digits_value}
use Rattle.flat_model.specs.Refuse.{refuse, unless, map_ok}
use Rattle.flat_model.specs.Path.{same_name}
use Rattle.flat_model.specs.State.{Limit, Unlimited, At}
use Rattle.flat_model.specs.File.{LimitFile, PidsMax, MaxDescendants, MaxDepth}

-- pids are 1 to 4,194,303
abbrev pub pid_max : ℕ
pid_max = 4194303

-- the greatest number that `cgroup.max.descendants` and `cgroup.max.depth` accept; it means no limit
abbrev pub hierarchy_limit_max : ℕ
hierarchy_limit_max = 2147483647

-- the greatest number that the file of a limit accepts
abbrev pub limit_max : LimitFile → ℕ
limit_max PidsMax = 4194304
limit_max MaxDescendants = hierarchy_limit_max
limit_max MaxDepth = hierarchy_limit_max

pub data ValueFault : Type 0 where
  Empty : ValueFault
  NotANumber : ValueFault
  LeadingZero : ValueFault
  OutOfRange : ValueFault

-- a space, a tab, a line feed, or a carriage return
abbrev pub is_space : ℕ → Bool
is_space b = b == 0x20 || b == 0x09 || b == 0x0A || b == 0x0D

-- the text without spaces at both ends
abbrev pub without_front : List ℕ → List ℕ
without_front text = drop (prefix_len is_space text) text

abbrev pub without_end : List ℕ → List ℕ
without_end text = take (length text - suffix_len is_space text) text

abbrev pub trimmed : List ℕ → List ℕ
trimmed text = without_end (without_front text)

abbrev pub begins_with_zero : List ℕ → Bool
begins_with_zero [] = false
begins_with_zero (b ∷ bytes) = b == 0x30

-- the first fault of a number from `low` to `high` in decimal digits
unfoldable pub number_fault : ℕ → ℕ → List ℕ → Option ValueFault
number_fault low high digits =
    refuse (length digits == 0) Empty
    (refuse (not (all_ascii_digits digits)) NotANumber
    (refuse (nat_lt 1 (length digits) && begins_with_zero digits) LeadingZero
    (refuse (not (nat_le low (digits_value 10 digits) && nat_le (digits_value 10 digits) high)) OutOfRange None)))

abbrev pub read_number : ℕ → ℕ → List ℕ → Result ℕ ValueFault
read_number low high digits = unless (number_fault low high digits) (digits_value 10 digits)

abbrev pub read_pid : List ℕ → Result ℕ ValueFault
read_pid text = read_number 1 pid_max (trimmed text)

-- the only value of `cgroup.kill` is 1
abbrev pub read_kill : List ℕ → Result ℕ ValueFault
read_kill text = read_number 1 1 (trimmed text)

-- the limit of a number in the file's range
abbrev pub limit_from : LimitFile → ℕ → Limit
limit_from PidsMax n = At n
limit_from MaxDescendants n = cond (n == hierarchy_limit_max) Unlimited (At n)
limit_from MaxDepth n = cond (n == hierarchy_limit_max) Unlimited (At n)

abbrev pub read_limit_in : LimitFile → List ℕ → Result Limit ValueFault
read_limit_in file text = cond (same_name text (codes "max")) (Ok Unlimited) (map_ok (limit_from file) (read_number 0 (limit_max file) text))

abbrev pub read_limit : LimitFile → List ℕ → Result Limit ValueFault
read_limit file text = read_limit_in file (trimmed text)
