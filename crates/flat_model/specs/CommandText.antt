-- The text of a command: its line in a trace, with one blank between words.
use Rattle.std.specs.Prelude.{◌≡◌, ◌≢◌, ℕ, ◌≤◌, true, false, ◌⊎◌, List, [], ◌∷◌, codes, decimal}
use Rattle.std.specs.List.{join_with_byte}
use Rattle.flat_model.specs.PathText.{path_text, IsPath}
use Rattle.flat_model.specs.State.{Limit, Unlimited, At}
use Rattle.flat_model.specs.File.{LimitFile, PidsMax, MaxDescendants, MaxDepth, Procs, LimitOf, KillFile, file_name, is_pids_max, readable}
use Rattle.flat_model.specs.Command.{Command, MakeGroup, RemoveGroup, Fork, Exit, Move, SetLimit, Kill, Show, Locate, Undo}
use Rattle.flat_model.specs.Values.{pid_max, limit_max, hierarchy_limit_max}
use Rattle.flat_model.specs.FileText.{limit_text}

abbrev pub command_words : Command → List (List ℕ)
command_words (MakeGroup p) = codes "mkdir" ∷ path_text p ∷ []
command_words (RemoveGroup p) = codes "rmdir" ∷ path_text p ∷ []
command_words (Fork from child) = codes "fork" ∷ decimal from ∷ decimal child ∷ []
command_words (Exit pid) = codes "exit" ∷ decimal pid ∷ []
command_words (Move p pid) = codes "write" ∷ path_text p ∷ file_name Procs ∷ decimal pid ∷ []
command_words (SetLimit p file value) = codes "write" ∷ path_text p ∷ file_name (LimitOf file) ∷ limit_text value ∷ []
command_words (Kill g) = codes "write" ∷ path_text g ∷ file_name KillFile ∷ codes "1" ∷ []
command_words (Show p file) = codes "cat" ∷ path_text p ∷ file_name file ∷ []
command_words (Locate pid) = codes "where" ∷ decimal pid ∷ []
command_words Undo = codes "undo" ∷ []

abbrev pub command_text : Command → List ℕ
command_text c = join_with_byte 0x20 (command_words c)

-- ---- the commands that a trace can say

abbrev pub IsPid : ℕ → Type 0
IsPid n = (1 ≤ n) × (n ≤ pid_max)

-- a hierarchy limit with the greatest number is read as no limit
abbrev pub IsLimit : LimitFile → Limit → Type 0
IsLimit file Unlimited = Unit {0}
IsLimit PidsMax (At n) = n ≤ limit_max PidsMax
IsLimit MaxDescendants (At n) = (n ≤ limit_max MaxDescendants) × (n ≢ hierarchy_limit_max)
IsLimit MaxDepth (At n) = (n ≤ limit_max MaxDepth) × (n ≢ hierarchy_limit_max)

-- the texts that are read as this limit: the text that its file shows, and for no limit of the hierarchy also the greatest number
abbrev pub IsLimitText : LimitFile → Limit → List ℕ → Type 0
IsLimitText file Unlimited text = (text ≡ codes "max") ⊎ ((is_pids_max file ≡ false) × (text ≡ decimal hierarchy_limit_max))
IsLimitText file (At n) text = text ≡ decimal n

-- the paths are in the grammar, pids and limits are in range, and a file that is shown can be read
abbrev pub IsSayable : Command → Type 0
IsSayable (MakeGroup p) = IsPath p
IsSayable (RemoveGroup p) = IsPath p
IsSayable (Fork from child) = IsPid from × IsPid child
IsSayable (Exit pid) = IsPid pid
IsSayable (Move p pid) = IsPath p × IsPid pid
IsSayable (SetLimit p file value) = IsPath p × IsLimit file value
IsSayable (Kill g) = IsPath g
IsSayable (Show p file) = IsPath p × (readable file ≡ true)
IsSayable (Locate pid) = IsPid pid
IsSayable Undo = Unit {0}
