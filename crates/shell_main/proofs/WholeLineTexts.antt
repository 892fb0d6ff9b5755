-- Two texts of whole lines, one after the other: their lines, their answers, and the point after them.
use Rattle.std.proofs.Common.{◌≡◌, ◌∙◌, ℕ, ◌≤◌, Bool, true, false, List, [], ◌∷◌, ◌++◌, length, append-nil, append_assoc, arith, sym, ap, subst}
use Rattle.std.specs.List.{All}
use Rattle.std.proofs.lemmas.List.Elements.{All-append, All-cons, All-nil}
use Rattle.flat_model.specs.Replies.{is_fault}
use Rattle.flat_model.specs.Trace.{Line, lines_in, read_line, read_trace, trace_max}
use Rattle.trace_talk.specs.Points.{Point, answers_on, point_after}
use Rattle.shell_main.specs.Forgetful.{after_by, answers_by, remembered}
use Rattle.shell_main.specs.Talks.{IsPassed}
use Rattle.shell_main.specs.WholeLines.{HasShortLines, IsClean, IsCleanBeforeLast, ends_line}
use Rattle.shell_main.proofs.LineCuts.{HasOneMore, lines_cut, trace_cut}
use Rattle.shell_main.proofs.ForgetfulCuts.{after_by_cut, after_one, answers_by_cut, answers_one}

pub ends_both : (a b : List ℕ) → ends_line a ≡ true → ends_line b ≡ true → ends_line (a ++ b) ≡ true
ends_both [] b e f = f
ends_both (x ∷ []) [] e f = e
ends_both (x ∷ []) (y ∷ b) e f = f
ends_both (x ∷ y ∷ a) b e f = ends_both (y ∷ a) b e f

pub short_both : (a b : List ℕ) → ends_line a ≡ true → HasShortLines a → HasShortLines b → HasShortLines (a ++ b)
short_both a b e s t =
    let P : List ℕ → Type 0 = λ l. length l ≤ trace_max in
    subst (All P) (sym (lines_cut a b e)) (All-append P (lines_in a) (lines_in b) s t)

pub clean_both : (strict : Bool) (a b : List ℕ) → ends_line a ≡ true → IsClean strict a → IsClean strict b → IsClean strict (a ++ b)
clean_both false a b e c d = tt
clean_both true a b e c d =
    let P : Line → Type 0 = λ l. is_fault l ≡ false in
    subst (All P) (sym (trace_cut a b e)) (All-append P (read_trace a) (read_trace b) c d)

pub clean_none : (strict : Bool) → IsClean strict []
clean_none false = tt
clean_none true = All-nil (λ (l : Line). is_fault l ≡ false)

pub clean_more : (strict : Bool) (lines line text : List ℕ) → HasOneMore lines line text → IsClean strict lines → IsPassed strict (read_line line) → IsClean strict text
clean_more false lines line text one c p = tt
clean_more true lines line text one c p =
    let P : Line → Type 0 = λ l. is_fault l ≡ false in
    subst (All P) (sym one.reads) (All-append P (read_trace lines) (read_line line ∷ []) c (All-cons P (read_line line) [] p (All-nil P)))

-- ---- clean but for the last line

pub before_last : (strict : Bool) (text : List ℕ) → IsClean strict text → IsCleanBeforeLast strict text
before_last false text c = tt
before_last true text c = (read_trace text, [], sym (append-nil (read_trace text)), omega (arith), c)

pub last_any : (strict : Bool) (lines line text : List ℕ) → HasOneMore lines line text → IsClean strict lines → IsCleanBeforeLast strict text
last_any false lines line text one c = tt
last_any true lines line text one c = (read_trace lines, read_line line ∷ [], one.reads, omega (arith), c)

pub before_last_both : (strict : Bool) (a b : List ℕ) → ends_line a ≡ true → IsClean strict a → IsCleanBeforeLast strict b → IsCleanBeforeLast strict (a ++ b)
before_last_both false a b e c d = tt
before_last_both true a b e c d =
    let P : Line → Type 0 = λ l. is_fault l ≡ false in (
      read_trace a ++ d.0,
      d.1,
      trace_cut a b e ∙ ap (λ ls. read_trace a ++ ls) d.2 ∙ sym (append_assoc (read_trace a) d.0 d.1),
      d.3,
      All-append P (read_trace a) d.0 c d.4,
    )

-- ---- the point after both
pub point_both : (history : Bool) (old now new : Point) (a b : List ℕ) → ends_line a ≡ true → now ≡ after_by history old (read_trace a)
    → new ≡ after_by history now (read_trace b) → new ≡ after_by history old (read_trace (a ++ b))
point_both history old now new a b e p n =
    n ∙ ap (λ q. after_by history q (read_trace b)) p ∙ sym (after_by_cut history old (read_trace a) (read_trace b)) ∙ ap (after_by history old) (sym (trace_cut a b e))

-- their answers
pub answers_both : (history : Bool) (old now : Point) (a b : List ℕ) → ends_line a ≡ true → now ≡ after_by history old (read_trace a)
    → answers_by history old (read_trace (a ++ b)) ≡ answers_by history old (read_trace a) ++ answers_by history now (read_trace b)
answers_both history old now a b e p =
    ap (answers_by history old) (trace_cut a b e) ∙ answers_by_cut history old (read_trace a) (read_trace b)
    ∙ ap (λ q. answers_by history old (read_trace a) ++ answers_by history q (read_trace b)) (sym p)

-- the same for one line more
pub point_more : (history : Bool) (old now new : Point) (lines line text : List ℕ) → HasOneMore lines line text → now ≡ after_by history old (read_trace lines)
    → new ≡ remembered history (point_after now (read_line line ∷ [])) → new ≡ after_by history old (read_trace text)
point_more history old now new lines line text one p n =
    n ∙ after_one history now (read_line line) ∙ ap (λ q. after_by history q (read_line line ∷ [])) p
    ∙ sym (after_by_cut history old (read_trace lines) (read_line line ∷ [])) ∙ ap (after_by history old) (sym one.reads)

pub answers_more : (history : Bool) (old now : Point) (lines line text : List ℕ) → HasOneMore lines line text → now ≡ after_by history old (read_trace lines)
    → answers_by history old (read_trace text) ≡ answers_by history old (read_trace lines) ++ answers_on now (read_line line ∷ [])
answers_more history old now lines line text one p =
    ap (answers_by history old) one.reads ∙ answers_by_cut history old (read_trace lines) (read_line line ∷ [])
    ∙ ap (λ q. answers_by history old (read_trace lines) ++ answers_by history q (read_line line ∷ [])) (sym p)
    ∙ ap (λ x. answers_by history old (read_trace lines) ++ x) (answers_one history now (read_line line))
