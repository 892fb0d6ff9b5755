-- Texts of whole lines, and a line that has not ended.
use Rattle.std.specs.Prelude.{◌≡◌, ◌≤◌, ℕ, Bool, true, false, List, [], ◌∷◌, ◌++◌, length}
use Rattle.std.specs.List.{All}
use Rattle.flat_model.specs.Replies.{is_fault}
use Rattle.flat_model.specs.Trace.{Line, is_line_feed, lines_in, read_trace, trace_max}

-- the text is empty, or its last byte is a line feed
abbrev pub ends_line : List ℕ → Bool
ends_line [] = true
ends_line (b ∷ []) = is_line_feed b
ends_line (b ∷ c ∷ bytes) = ends_line (c ∷ bytes)

-- none of the bytes is a line feed
abbrev pub HasNoFeed : List ℕ → Type 0
HasNoFeed bytes = All (λ b. is_line_feed b ≡ false) bytes

-- no line has more bytes than a whole trace may have
abbrev pub HasShortLines : List ℕ → Type 0
HasShortLines text = All (λ line. length line ≤ trace_max) (lines_in text)

-- each line is a command, or is skipped
abbrev pub HasCommandsOnly : List ℕ → Type 0
HasCommandsOnly text = All (λ line. is_fault line ≡ false) (read_trace text)

-- what a strict shell has answered without stopping; any other shell answers every line
abbrev pub IsClean : Bool → List ℕ → Type 0
IsClean false text = Unit {0}
IsClean true text = HasCommandsOnly text

-- each line but the last is a command, or is skipped; the last may be any line
abbrev pub HasCommandsBeforeLast : List ℕ → Type 0
HasCommandsBeforeLast text = (front last : List Line) × (read_trace text ≡ front ++ last) × (length last ≤ 1) × All (λ line. is_fault line ≡ false) front

-- what a strict shell has answered, perhaps with the line at which it stops; any other shell answers every line
abbrev pub IsCleanBeforeLast : Bool → List ℕ → Type 0
IsCleanBeforeLast false text = Unit {0}
IsCleanBeforeLast true text = HasCommandsBeforeLast text
