-- Listings of groups.
use Rattle.std.specs.Prelude.{◌≡◌, ℕ, ◌+◌, zero, suc, true, false, List, [], ◌∷◌, ◌++◌, map, flat_map, length, drop, Result, Ok, Err}
use Rattle.std.specs.Result.{IsOk, IsErr}
use Rattle.flat_model.specs.Path.{Name, Path}
use Rattle.flat_model.specs.PathText.{PathFault, depth_max, path_text}
use Rattle.flat_model.specs.State.{State}
use Rattle.flat_model.specs.Counts.{is_group, children}
use Rattle.flat_model.specs.Command.{Command}
use Rattle.flat_model.specs.CommandText.{command_text}
use Rattle.flat_model.specs.FileText.{line}
use Rattle.group_tree.specs.ChildNames.{last_name}
use Rattle.undo_journal.specs.Answer.{recorded_commands}
use Rattle.line_engine.specs.Buffer.{Holds, LacksRoom}
use Rattle.line_engine.specs.declared.listing.Listing.{Listing}
use Rattle.line_engine.specs.declared.listing.Listing.TheVariants as listing
use Rattle.line_engine.specs.declared.listing.Found.{Found}
use Rattle.line_engine.specs.declared.listing.Found.TheVariants as found
use Rattle.line_engine.specs.declared.listing.Unread.{Unread}
use Rattle.line_engine.specs.declared.listing.Unread.TheVariants as unread

-- each name followed by a zero byte
abbrev pub names_bytes : List Name → List ℕ
names_bytes names = flat_map (λ name. name ++ 0 ∷ []) names

-- the names of the children of p, in order
abbrev pub names_below : State → Path → List Name
names_below s p = map last_name (children s p)

-- p, then the groups below it, child by child in order, at most this number of levels
abbrev pub groups_from : State → ℕ → Path → List Path
groups_from s zero p = []
groups_from s (suc n) p = p ∷ flat_map (λ name. groups_from s n (p ++ name ∷ [])) (names_below s p)

-- the group p and those below it
abbrev pub subtree : State → Path → List Path
subtree s p = groups_from s (depth_max + 1) p

-- all groups
abbrev pub all_groups : State → List Path
all_groups s = subtree s []

-- each path followed by a zero byte
abbrev pub paths_bytes : List Path → List ℕ
paths_bytes paths = flat_map (λ p. path_text p ++ 0 ∷ []) paths

-- the text of each command, and a line feed
abbrev pub lines_bytes : List Command → List ℕ
lines_bytes cs = flat_map (λ c. line (command_text c)) cs

-- the path of the grammar; otherwise no path, or out of memory
abbrev pub ReadsListedPath : Result Path Unread → Result Path PathFault → Type 0
ReadsListedPath (Ok path) m = m ≡ Ok path
ReadsListedPath (Err unread.BadPath) m = IsErr m
ReadsListedPath (Err unread.OutOfMemory) m = IsOk m

-- the first len bytes of the buffer are the names of the group's children, of which there are `count`; or there is no
-- such group; or the names are longer than the buffer
abbrev pub TellsChildrenAt : State → Path → List ℕ → Listing → Type 0
TellsChildrenAt s p out (listing.Listed len count) = (is_group s p ≡ true) × Holds out len (names_bytes (names_below s p)) × (count ≡ length (children s p))
TellsChildrenAt s p out listing.NoGroup = is_group s p ≡ false
TellsChildrenAt s p out listing.BadPath = ⊥
TellsChildrenAt s p out (listing.TooSmall needed) = (is_group s p ≡ true) × LacksRoom out needed (names_bytes (names_below s p))
TellsChildrenAt s p out listing.OutOfMemory = Unit {0}

-- the same for the group at the text, if it is a path
abbrev pub TellsChildren : State → Result Path PathFault → List ℕ → Listing → Type 0
TellsChildren s (Ok p) out a = TellsChildrenAt s p out a
TellsChildren s (Err f) out a = a ≡ listing.BadPath

abbrev pub TellsGroupAt : State → Path → Found → Type 0
TellsGroupAt s p found.There = is_group s p ≡ true
TellsGroupAt s p found.NoGroup = is_group s p ≡ false
TellsGroupAt s p found.BadPath = ⊥
TellsGroupAt s p found.OutOfMemory = Unit {0}

abbrev pub TellsGroup : State → Result Path PathFault → Found → Type 0
TellsGroup s (Ok p) a = TellsGroupAt s p a
TellsGroup s (Err f) a = a ≡ found.BadPath

-- the first len bytes of the buffer are these, of `many` entries; or they are longer than the buffer
abbrev pub TellsAll : List ℕ → ℕ → List ℕ → Listing → Type 0
TellsAll bytes many out (listing.Listed len count) = Holds out len bytes × (count ≡ many)
TellsAll bytes many out listing.NoGroup = ⊥
TellsAll bytes many out listing.BadPath = ⊥
TellsAll bytes many out (listing.TooSmall needed) = LacksRoom out needed bytes
TellsAll bytes many out listing.OutOfMemory = Unit {0}

-- the paths of all groups
abbrev pub TellsGroups : State → List ℕ → Listing → Type 0
TellsGroups s out a = TellsAll (paths_bytes (all_groups s)) (length (all_groups s)) out a

-- the paths of the group and of those below it; or there is no such group
abbrev pub TellsSubtreeAt : State → Path → List ℕ → Listing → Type 0
TellsSubtreeAt s p out (listing.Listed len count) = (is_group s p ≡ true) × Holds out len (paths_bytes (subtree s p)) × (count ≡ length (subtree s p))
TellsSubtreeAt s p out listing.NoGroup = is_group s p ≡ false
TellsSubtreeAt s p out listing.BadPath = ⊥
TellsSubtreeAt s p out (listing.TooSmall needed) = (is_group s p ≡ true) × LacksRoom out needed (paths_bytes (subtree s p))
TellsSubtreeAt s p out listing.OutOfMemory = Unit {0}

-- the same for the group at the text, if it is a path
abbrev pub TellsSubtree : State → Result Path PathFault → List ℕ → Listing → Type 0
TellsSubtree s (Ok p) out a = TellsSubtreeAt s p out a
TellsSubtree s (Err f) out a = a ≡ listing.BadPath

-- the commands that can be undone from a place on, oldest first
abbrev pub history_from : List (Command × State) → ℕ → List Command
history_from past from = drop from (recorded_commands past)

-- the same as lines
abbrev pub TellsHistory : List (Command × State) → ℕ → List ℕ → Listing → Type 0
TellsHistory past from out a = TellsAll (lines_bytes (history_from past from)) (length (history_from past from)) out a
