-- The bytes that a reply appends to the output.
use Rattle.std.specs.Prelude.{◌≡◌, ℕ, List, ◌++◌, Option, Some, None}
use Rattle.flat_model.specs.Command.{Reply}
use Rattle.flat_model.specs.Replies.{reply_bytes}

-- the output for the n-th command was appended to the bytes; a command that is out of memory has none
abbrev pub AddsReply : List ℕ → ℕ → Option Reply → List ℕ → Type 0
AddsReply old n None new = ⊥
AddsReply old n (Some r) new = new ≡ old ++ reply_bytes n r
