-- Traces: lines, words, and the command or text fault of a line.
use Rattle.std.specs.Prelude.{ℕ, Bool, false, cond, not, ◌||◌, ◌==◌, nat_lt, List, [], ◌∷◌, length, codes, filter, map, Result, Ok, Err}
use Rattle.std.specs.List.{slice_split}
use Rattle.flat_model.specs.Refuse.{map_ok, or_fault, some_or, and_then}
use Rattle.flat_model.specs.Path.{Path, same_name}
use Rattle.flat_model.specs.PathText.{read_path}
use Rattle.flat_model.specs.File.{File, ValueKind, PidValue, LimitValue, KillValue, value_kind, file_named, readable}
use Rattle.flat_model.specs.Command.{Command, MakeGroup, RemoveGroup, Fork, Exit, Move, SetLimit, Kill, Show, Locate, Undo}
use Rattle.flat_model.specs.Values.{read_pid, read_limit, read_kill}

abbrev pub Word : Type 0
Word = List ℕ

-- ---- lines and words

abbrev pub is_line_feed : ℕ → Bool
is_line_feed b = b == 0x0A

-- a space, a tab, or a carriage return
abbrev pub is_blank : ℕ → Bool
is_blank b = b == 0x20 || b == 0x09 || b == 0x0D

-- the pieces, without an empty last one
abbrev pub without_empty_end : List (List ℕ) → List (List ℕ)
without_empty_end [] = []
without_empty_end (piece ∷ []) = cond (length piece == 0) [] (piece ∷ [])
without_empty_end (piece ∷ next ∷ pieces) = piece ∷ without_empty_end (next ∷ pieces)

-- the text cut at its line feeds, which are not part of the lines; text after the last line feed is a line if it is not empty
abbrev pub lines_in : List ℕ → List (List ℕ)
lines_in text = without_empty_end (slice_split is_line_feed text)

-- the longest runs of bytes that are not blank
abbrev pub words_in : List ℕ → List Word
words_in line = filter (λ w. not (length w == 0)) (slice_split is_blank line)

-- ---- a line

pub data TextFault : Type 0 where
  BadSyntax : TextFault
  BadPath : TextFault
  BadFile : TextFault
  BadDirection : TextFault
  BadValue : TextFault

pub data Line : Type 0 where
  Skip : Line
  Run : Command → Line
  Fault : TextFault → Line

-- the most bytes of a line with a command
abbrev pub line_max : ℕ
line_max = 8192

-- the largest trace
abbrev pub trace_max : ℕ
trace_max = 16777216

abbrev pub path_word : Word → Result Path TextFault
path_word w = or_fault BadPath (read_path w)

abbrev pub file_word : Word → Result File TextFault
file_word w = some_or BadFile (file_named w)

abbrev pub pid_word : Word → Result ℕ TextFault
pid_word w = or_fault BadValue (read_pid w)

-- the command that writes a value of this kind to the group's file
abbrev pub write_as : Path → ValueKind → Word → Result Command TextFault
write_as p PidValue w = map_ok (Move p) (pid_word w)
write_as p (LimitValue file) w = map_ok (SetLimit p file) (or_fault BadValue (read_limit file w))
write_as p KillValue w = map_ok (λ one. Kill p) (or_fault BadValue (read_kill w))

-- writing a value to a file of the group: the direction is tested first, then the value
abbrev pub write_of : Path → File → Word → Result Command TextFault
write_of p file w = and_then (some_or BadDirection (value_kind file)) (λ kind. write_as p kind w)

abbrev pub show_of : Path → File → Result Command TextFault
show_of p file = cond (readable file) (Ok (Show p file)) (Err BadDirection)

-- the rest of a line, by its first word: a wrong number of words is bad syntax; then path, file, direction and value are tested in this order
abbrev pub mkdir_of : List Word → Result Command TextFault
mkdir_of [] = Err BadSyntax
mkdir_of (p ∷ []) = map_ok MakeGroup (path_word p)
mkdir_of (p ∷ q ∷ rest) = Err BadSyntax

abbrev pub rmdir_of : List Word → Result Command TextFault
rmdir_of [] = Err BadSyntax
rmdir_of (p ∷ []) = map_ok RemoveGroup (path_word p)
rmdir_of (p ∷ q ∷ rest) = Err BadSyntax

abbrev pub fork_of : List Word → Result Command TextFault
fork_of [] = Err BadSyntax
fork_of (from ∷ []) = Err BadSyntax
fork_of (from ∷ child ∷ []) = and_then (pid_word from) (λ m. map_ok (Fork m) (pid_word child))
fork_of (from ∷ child ∷ more ∷ rest) = Err BadSyntax

abbrev pub exit_of : List Word → Result Command TextFault
exit_of [] = Err BadSyntax
exit_of (pid ∷ []) = map_ok Exit (pid_word pid)
exit_of (pid ∷ more ∷ rest) = Err BadSyntax

abbrev pub write_words : List Word → Result Command TextFault
write_words [] = Err BadSyntax
write_words (p ∷ []) = Err BadSyntax
write_words (p ∷ file ∷ []) = Err BadSyntax
write_words (p ∷ file ∷ value ∷ []) = and_then (path_word p) (λ path. and_then (file_word file) (λ f. write_of path f value))
write_words (p ∷ file ∷ value ∷ more ∷ rest) = Err BadSyntax

abbrev pub cat_of : List Word → Result Command TextFault
cat_of [] = Err BadSyntax
cat_of (p ∷ []) = Err BadSyntax
cat_of (p ∷ file ∷ []) = and_then (path_word p) (λ path. and_then (file_word file) (show_of path))
cat_of (p ∷ file ∷ more ∷ rest) = Err BadSyntax

abbrev pub where_of : List Word → Result Command TextFault
where_of [] = Err BadSyntax
where_of (pid ∷ []) = map_ok Locate (pid_word pid)
where_of (pid ∷ more ∷ rest) = Err BadSyntax

abbrev pub undo_of : List Word → Result Command TextFault
undo_of [] = Ok Undo
undo_of (more ∷ rest) = Err BadSyntax

-- the command of a line, by its first word
unfoldable pub command_of_words : Word → List Word → Result Command TextFault
command_of_words first rest =
    cond (same_name first (codes "mkdir")) (mkdir_of rest)
    (cond (same_name first (codes "rmdir")) (rmdir_of rest)
    (cond (same_name first (codes "fork")) (fork_of rest)
    (cond (same_name first (codes "exit")) (exit_of rest)
    (cond (same_name first (codes "write")) (write_words rest)
    (cond (same_name first (codes "cat")) (cat_of rest)
    (cond (same_name first (codes "where")) (where_of rest)
    (cond (same_name first (codes "undo")) (undo_of rest)
    (Err BadSyntax))))))))

abbrev pub is_comment : Word → Bool
is_comment [] = false
is_comment (b ∷ w) = b == 0x23

abbrev pub line_of : Result Command TextFault → Line
line_of (Ok c) = Run c
line_of (Err f) = Fault f

-- a line with these words, which has this number of bytes
abbrev pub line_with : ℕ → List Word → Line
line_with len [] = Skip
line_with len (first ∷ rest) =
    cond (is_comment first) Skip
    (cond (nat_lt line_max len) (Fault BadSyntax)
    (line_of (command_of_words first rest)))

-- the meaning of a line
abbrev pub read_line : List ℕ → Line
read_line bytes = line_with (length bytes) (words_in bytes)

-- the meaning of a trace, line by line
abbrev pub read_trace : List ℕ → List Line
read_trace bytes = map read_line (lines_in bytes)
