-- The text of a path, which texts are paths, and the first fault of any other text.
-- A path is `/`, or one or more names, each after a slash.
use Rattle.std.specs.Prelude.{◌≡◌, nat_eq, ℕ, ◌+◌, ◌≤◌, Bool, true, false, not, ◌&&◌, ◌||◌, ◌==◌, nat_lt, nat_le, List, [], ◌∷◌, ◌++◌, length, codes, Option, None, option_map, Result}
use Rattle.std.specs.Option.{option_or}
use Rattle.std.specs.List.{AllByRecursion, starts_with, position_from, slice_split}
use Rattle.flat_model.specs.Path.{Name, Path, same_name}
use Rattle.flat_model.specs.Refuse.{refuse, unless}

abbrev pub is_slash : ℕ → Bool
is_slash b = b == 47

-- a slash before each name
abbrev pub spelled : List Name → List ℕ
spelled [] = []
spelled (name ∷ names) = 47 ∷ name ++ spelled names

-- the one text of a path; the root's is a single slash
abbrev pub path_text : Path → List ℕ
path_text [] = 47 ∷ []
path_text (name ∷ names) = spelled (name ∷ names)

-- a printable ASCII character other than the slash
abbrev pub is_name_byte : ℕ → Bool
is_name_byte b = nat_le 0x21 b && nat_le b 0x7E && not (is_slash b)

abbrev pub is_bad_byte : ℕ → Bool
is_bad_byte b = not (is_name_byte b)

-- `.` and `..`
abbrev pub is_dots : Name → Bool
is_dots name = same_name name (codes ".") || same_name name (codes "..")

-- it begins like the kernel's interface files
abbrev pub is_reserved : Name → Bool
is_reserved name = starts_with nat_eq name (codes "cgroup.") || starts_with nat_eq name (codes "pids.")

-- the bounds of the grammar
abbrev pub name_max : ℕ
name_max = 255

abbrev pub depth_max : ℕ
depth_max = 32

abbrev pub text_max : ℕ
text_max = 4095

-- a name of the grammar
pub record IsName (name : Name) : Type 0 where
  pub not_empty : (length name == 0) ≡ false
  pub bytes : AllByRecursion (λ b. is_name_byte b ≡ true) name
  pub short : length name ≤ name_max
  pub no_dots : is_dots name ≡ false
  pub free : is_reserved name ≡ false

-- a path of the grammar
pub record IsPath (names : Path) : Type 0 where
  pub all_names : AllByRecursion IsName names
  pub shallow : length names ≤ depth_max
  pub short : length (path_text names) ≤ text_max

pub data PathFault : Type 0 where
  NotRooted : PathFault
  EmptyName : PathFault
  -- the index of the byte
  BadByte : ℕ → PathFault
  DotName : PathFault
  Reserved : PathFault
  NameTooLong : PathFault
  TooDeep : PathFault
  TooLong : PathFault

-- the first fault of a name whose first byte is at index `here`
unfoldable pub name_fault : ℕ → Name → Option PathFault
name_fault here name =
    refuse (length name == 0) EmptyName
    (option_or (option_map BadByte (position_from is_bad_byte here name))
    (refuse (nat_lt name_max (length name)) NameTooLong
    (refuse (is_dots name) DotName
    (refuse (is_reserved name) Reserved None))))

-- the first fault of names that follow `count` others; the first byte of the first name is at index `here`
abbrev pub names_fault : ℕ → ℕ → List Name → Option PathFault
names_fault count here [] = None
names_fault count here (name ∷ names) =
    refuse (count == depth_max) TooDeep
    (option_or (name_fault here name)
    (names_fault (count + 1) (here + (length name + 1)) names))

abbrev pub is_rooted : List ℕ → Bool
is_rooted [] = false
is_rooted (b ∷ bytes) = is_slash b

-- the texts after each slash; a single slash has no names
abbrev pub names_in : List ℕ → List Name
names_in [] = []
names_in (b ∷ []) = []
names_in (b ∷ c ∷ bytes) = slice_split is_slash (c ∷ bytes)

-- the first fault of a text
unfoldable pub path_fault : List ℕ → Option PathFault
path_fault text =
    refuse (not (is_rooted text)) NotRooted
    (refuse (nat_lt text_max (length text)) TooLong
    (names_fault 0 1 (names_in text)))

-- the path that a text spells, or the first fault of the text
abbrev pub read_path : List ℕ → Result Path PathFault
read_path text = unless (path_fault text) (names_in text)

-- the first fault of adding this name to p
unfoldable pub child_fault : Path → Name → Option PathFault
child_fault p name =
    option_or (name_fault 0 name)
    (refuse (nat_le depth_max (length p)) TooDeep
    (refuse (nat_lt text_max (length (path_text (p ++ name ∷ [])))) TooLong None))

-- the child of p with that name, or the first fault
abbrev pub child_path : Path → Name → Result Path PathFault
child_path p name = unless (child_fault p name) (p ++ name ∷ [])
