-- The bytes of a text in a reply.
use Rattle.std.specs.Prelude.{ℕ, List}
use Rattle.undo_journal.specs.declared.bytes.Text.{Text}
use Rattle.undo_journal.specs.declared.bytes.Text.TheVariants.{Few, Many}

-- whether they are in the value itself or in their vector
abbrev pub bytes_in : {A : Type 0} → Text A → List ℕ
bytes_in (Few text) = text
bytes_in (Many text) = text.items
