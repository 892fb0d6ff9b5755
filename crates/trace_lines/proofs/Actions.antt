-- What a `write` and a `cat` say: the path, and what the words behind it say at that path.
use Rattle.std.proofs.Common.{◌≡◌, List, [], ◌∷◌, ap, sym, subst, Option, Some, None, Result}
use Rattle.flat_model.specs.Refuse.{and_then}
use Rattle.flat_model.specs.Path.{Path}
use Rattle.flat_model.specs.Command as model
use Rattle.flat_model.specs.Trace.{Word, path_word, write_words, cat_of}
use Rattle.flat_model.specs.Trace as trace
use Rattle.undo_journal.specs.declared.command.Command.{Command}
use Rattle.trace_lines.specs.declared.action.Action.{Action}
use Rattle.trace_lines.specs.declared.fault.TextFault.{TextFault}
use Rattle.trace_lines.specs.declared.fault.Unread.{Unread}
use Rattle.trace_lines.specs.Action.{write_at, show_at, action_at, ReadsAction}
use Rattle.trace_lines.specs.Cut.{the_two, the_three}
use Rattle.trace_lines.specs.LineMeaning.{ReadsPath, ReadsCommand}

-- ---- the words

abbrev pair_listed : Option (Word × Word) → List Word
pair_listed None = []
pair_listed (Some t) = t.0 ∷ t.1 ∷ []

two_are : (ws : List Word) (p f : Word) → Some (p, f) ≡ the_two ws → ws ≡ p ∷ f ∷ []
two_are [] p f e = cc
two_are (a ∷ []) p f e = cc
two_are (a ∷ b ∷ []) p f e = ap pair_listed (sym e)
two_are (a ∷ b ∷ c ∷ ws) p f e = cc

abbrev triple_listed : Option (Word × Word × Word) → List Word
triple_listed None = []
triple_listed (Some t) = t.0 ∷ t.1 ∷ t.2 ∷ []

three_are : (ws : List Word) (p f v : Word) → Some (p, f, v) ≡ the_three ws → ws ≡ p ∷ f ∷ v ∷ []
three_are [] p f v e = cc
three_are (a ∷ []) p f v e = cc
three_are (a ∷ b ∷ []) p f v e = cc
three_are (a ∷ b ∷ c ∷ []) p f v e = ap triple_listed (sym e)
three_are (a ∷ b ∷ c ∷ d ∷ ws) p f v e = cc

-- ---- the command

-- the action says the same as these words at every path
same_words : {A : Type 0} (m : Result Path trace.TextFault) (path : Result Path Unread) (action : Result Action TextFault)
    (r : Result (Command A) Unread) (next : Path → Result model.Command trace.TextFault)
    → ReadsPath path m → ((q : Path) → action_at q action ≡ next q) → ReadsAction path action r → ReadsCommand r (and_then m next)
same_words m path action r next is says reads = subst (λ f. ReadsCommand r (and_then m f)) (λ i q. says q i) (reads m is)

pub write_reads : {A : Type 0} (ws : List Word) (p f v : Word) (path : Result Path Unread) (action : Result Action TextFault) (r : Result (Command A) Unread)
    → Some (p, f, v) ≡ the_three ws → ReadsPath path (path_word p) → ((q : Path) → action_at q action ≡ write_at q f v) → ReadsAction path action r → ReadsCommand r (write_words ws)
write_reads ws p f v path action r words is says reads =
    subst (λ l. ReadsCommand r (write_words l)) (sym (three_are ws p f v words)) (same_words (path_word p) path action r (λ q. write_at q f v) is says reads)

pub cat_reads : {A : Type 0} (ws : List Word) (p f : Word) (path : Result Path Unread) (action : Result Action TextFault) (r : Result (Command A) Unread)
    → Some (p, f) ≡ the_two ws → ReadsPath path (path_word p) → ((q : Path) → action_at q action ≡ show_at q f) → ReadsAction path action r → ReadsCommand r (cat_of ws)
cat_reads ws p f path action r words is says reads =
    subst (λ l. ReadsCommand r (cat_of l)) (sym (two_are ws p f words)) (same_words (path_word p) path action r (λ q. show_at q f) is says reads)
