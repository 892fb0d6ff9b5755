-- The number and the place of the first fault of a text that is not a path.
use Rattle.std.specs.Prelude.{ℕ, ◌+◌, ◌==◌, nat_lt, cond, min, List, length, take, sum_by, Option, Some, None, is_some}
use Rattle.std.specs.List.{position_or_len}
use Rattle.std.specs.Option.{option_and_then}
use Rattle.flat_model.specs.Path.{Name}
use Rattle.flat_model.specs.PathText.{depth_max, text_max, name_fault, names_in, path_fault}
use Rattle.group_path.specs.FollowsGrammar.{fault_of}
use Rattle.group_path.specs.declared.fault.PathFault.{PathFault}
use Rattle.group_path.specs.declared.fault.PathFault.TheVariants.{NotRooted, EmptyName, BadByte, DotName, Reserved, NameTooLong, TooDeep, TooLong, OutOfMemory}
use Rattle.line_engine.specs.declared.path_faults.FaultAt.{FaultAt}

-- 0 is no fault of a text
abbrev pub number_of : PathFault → ℕ
number_of OutOfMemory = 0
number_of NotRooted = 1
number_of TooLong = 2
number_of TooDeep = 3
number_of EmptyName = 4
number_of (BadByte at) = 5
number_of NameTooLong = 6
number_of DotName = 7
number_of Reserved = 8

-- the index of the first byte of the k-th name, counted from 0: a slash is before each name
abbrev pub place_of_name : List Name → ℕ → ℕ
place_of_name names k = 1 + sum_by (λ name. length name + 1) (take k names)

-- the first name with a fault, counted from 0, or the first name too many
abbrev pub first_faulty : List Name → ℕ
first_faulty names = min depth_max (position_or_len (λ name. is_some (name_fault 0 name)) names)

-- the index of the first byte of that name; 0 if there is none
abbrev pub faulty_name : List Name → ℕ
faulty_name names = cond (nat_lt (first_faulty names) (length names)) (place_of_name names (first_faulty names)) 0

abbrev pub place_of : List ℕ → PathFault → ℕ
place_of text OutOfMemory = 0
place_of text NotRooted = 0
place_of text TooLong = text_max
place_of text (BadByte at) = at
place_of text TooDeep = faulty_name (names_in text)
place_of text EmptyName = faulty_name (names_in text)
place_of text NameTooLong = faulty_name (names_in text)
place_of text DotName = faulty_name (names_in text)
place_of text Reserved = faulty_name (names_in text)

-- None if the fault is not one of the text
abbrev pub found : List ℕ → PathFault → Option FaultAt
found text fault = cond (number_of fault == 0) None (Some (record { number = number_of fault; at = place_of text fault }))

-- None for a path
abbrev pub fault_at : List ℕ → Option FaultAt
fault_at text = option_and_then (λ fault. found text (fault_of fault)) (path_fault text)
