use Rattle.std.proofs.Common.{◌∙◌, ◌+◌, ◌-◌, ◌++◌, ◌∷◌, ◌≤◌, [], ℕ, List, Ok, Err, length, take, drop, sym, subst, append-nil, arith}
use Rattle.std.proofs.lemmas.List.{length-drop, take_rest}
use Rattle.flat_model.specs.Trace.{read_line}
use Rattle.shell_main.specs.Talks.{Answered, IsUnended, AnswersShellLine}
use Rattle.shell_main.proofs.Feeds.{at_feed, no_feed}
use Rattle.shell_main.proofs.ReadLines.{handed_halts, keep_halts, kept, kept_unended, nothing_unended, said, say_halts}
use Rattle.shell_main.proofs.answering.answer_lines.Goals as goal

-- ---- a line that ends

pub returns-in_err-keep-clause-err : goal.returns-in_err-keep-clause-err
returns-in_err-keep-clause-err c =
    let inv = c.loop-end.invariant in
    let rest = c.loop-end.rest.now in
    let end = c.in-Some.end in
    let feed = at_feed rest end (sym c.in-Some.is ∙ c.line_end.ensures) in
    let bytes = c.args.line.now.items ++ c.args.bytes.now in
    let P : List ℕ → Type 0 = λ x. Answered c.args.options c.args.talk.now bytes (c.loop-end.line.items ++ x) c.loop-end.out.items c.loop-end.talk in
    handed_halts c.from_residual.result c.in_err-keep.field-0.0 c.args.options c.args.talk.now bytes c.loop-end.out.items c.from_residual.ensures.1
    (keep_halts c.in_err-keep.field-0.0 c.args.options c.args.talk.now c.loop-end.talk bytes c.loop-end.line.items (take end rest) (0x0A
    ∷ drop (end + 1) rest) c.keep.new.line.items c.loop-end.out.items
    (subst P feed.0 inv.0) inv.1 feed.1 c.in_err-keep.ensures)

pub returns-in_err-say-clause-err : goal.returns-in_err-say-clause-err
returns-in_err-say-clause-err c =
    let inv = c.loop-end.invariant in
    let rest = c.loop-end.rest.now in
    let end = c.in-Some.end in
    let feed = at_feed rest end (sym c.in-Some.is ∙ c.line_end.ensures) in
    let bytes = c.args.line.now.items ++ c.args.bytes.now in
    let line = c.keep.new.line.items in
    let fault = c.in_err-say.field-0.0 in
    let P : List ℕ → Type 0 = λ x. Answered c.args.options c.args.talk.now bytes (c.loop-end.line.items ++ x) c.loop-end.out.items c.loop-end.talk in
    let a = kept c.args.options c.args.talk.now c.loop-end.talk bytes c.loop-end.line.items (take end rest) (0x0A ∷ drop (end + 1) rest)
    line c.loop-end.out.items (subst P feed.0 inv.0) c.in_ok-keep.ensures.0 in
    let Q : List ℕ → Type 0 = λ x. AnswersShellLine c.args.options c.loop-end.talk (read_line x) c.loop-end.out.items c.say.new.out.items (Err fault) c.say.new.talk in
    handed_halts c.from_residual-in_err-say.result fault c.args.options c.args.talk.now bytes c.say.new.out.items c.from_residual-in_err-say.ensures.1
    (say_halts fault c.args.options c.args.talk.now c.loop-end.talk c.say.new.talk bytes line (drop (end + 1) rest) c.loop-end.out.items c.say.new.out.items
    a (kept_unended c.loop-end.line.items (take end rest) line inv.1 feed.1 c.in_ok-keep.ensures) (subst Q c.as_slice.ensures.value c.in_err-say.ensures))

pub returns-then-len-ge-OUTPUT_MAX-clause-ok : goal.returns-then-len-ge-OUTPUT_MAX-clause-ok
returns-then-len-ge-OUTPUT_MAX-clause-ok c =
    let inv = c.loop-end.invariant in
    let rest = c.loop-end.rest.now in
    let end = c.in-Some.end in
    let feed = at_feed rest end (sym c.in-Some.is ∙ c.line_end.ensures) in
    let bytes = c.args.line.now.items ++ c.args.bytes.now in
    let line = c.keep.new.line.items in
    let P : List ℕ → Type 0 = λ x. Answered c.args.options c.args.talk.now bytes (c.loop-end.line.items ++ x) c.loop-end.out.items c.loop-end.talk in
    let a = kept c.args.options c.args.talk.now c.loop-end.talk bytes c.loop-end.line.items (take end rest) (0x0A ∷ drop (end + 1) rest)
    line c.loop-end.out.items (subst P feed.0 inv.0) c.in_ok-keep.ensures.0 in
    let Q : List ℕ → Type 0 = λ x. AnswersShellLine c.args.options c.loop-end.talk (read_line x) c.loop-end.out.items c.say.new.out.items (Ok tt) c.say.new.talk in
    let next = said c.args.options c.args.talk.now c.loop-end.talk c.say.new.talk bytes line (drop (end + 1) rest) c.loop-end.out.items c.say.new.out.items tt
    a (kept_unended c.loop-end.line.items (take end rest) line inv.1 feed.1 c.in_ok-keep.ensures) (subst Q c.as_slice.ensures.value c.in_ok-say.ensures) in
    let R : List ℕ → List ℕ → Type 0 = λ x y. Answered c.args.options c.args.talk.now bytes (x ++ y) c.say.new.out.items c.say.new.talk in
    subst (λ x. R x (take (length rest - (end + 1)) (drop (end + 1) rest))) (sym c.clear.ensures.items) (subst (λ y. R [] y) (sym (take_rest rest (end + 1))) next)

pub loop-end-preserved : goal.loop-end-preserved
loop-end-preserved c =
    let inv = c.loop-end.invariant in
    let rest = c.loop-end.rest.now in
    let end = c.in-Some.end in
    let feed = at_feed rest end (sym c.in-Some.is ∙ c.line_end.ensures) in
    let bytes = c.args.line.now.items ++ c.args.bytes.now in
    let line = c.keep.new.line.items in
    let P : List ℕ → Type 0 = λ x. Answered c.args.options c.args.talk.now bytes (c.loop-end.line.items ++ x) c.loop-end.out.items c.loop-end.talk in
    let a = kept c.args.options c.args.talk.now c.loop-end.talk bytes c.loop-end.line.items (take end rest) (0x0A ∷ drop (end + 1) rest)
    line c.loop-end.out.items (subst P feed.0 inv.0) c.in_ok-keep.ensures.0 in
    let Q : List ℕ → Type 0 = λ x. AnswersShellLine c.args.options c.loop-end.talk (read_line x) c.loop-end.out.items c.say.new.out.items (Ok tt) c.say.new.talk in
    let next = said c.args.options c.args.talk.now c.loop-end.talk c.say.new.talk bytes line (drop (end + 1) rest) c.loop-end.out.items c.say.new.out.items tt
    a (kept_unended c.loop-end.line.items (take end rest) line inv.1 feed.1 c.in_ok-keep.ensures) (subst Q c.as_slice.ensures.value c.in_ok-say.ensures) in
    let R : List ℕ → List ℕ → Type 0 = λ x y. Answered c.args.options c.args.talk.now bytes (x ++ y) c.say.new.out.items c.say.new.talk in (
      subst (λ x. R x (take (length rest - (end + 1)) (drop (end + 1) rest))) (sym c.clear.ensures.items) (subst (λ y. R [] y) (sym (take_rest rest (end + 1))) next),
      subst IsUnended (sym c.clear.ensures.items) nothing_unended,
      subst (λ y. length y ≤ length c.args.bytes.now) (sym (take_rest rest (end + 1))) (let d = length-drop (end + 1) rest in let b = inv.2 in omega (arith, d, b)),
    )

-- ---- the line that does not

pub returns-in_err-keep-2-clause-err : goal.returns-in_err-keep-2-clause-err
returns-in_err-keep-2-clause-err c =
    let inv = c.loop-end.invariant in
    let rest = c.loop-end.rest.now in
    let bytes = c.args.line.now.items ++ c.args.bytes.now in
    let P : List ℕ → Type 0 = λ x. Answered c.args.options c.args.talk.now bytes (c.loop-end.line.items ++ x) c.loop-end.out.items c.loop-end.talk in
    handed_halts c.from_residual-in_err-keep-2.result c.in_err-keep-2.field-0.0 c.args.options c.args.talk.now bytes c.loop-end.out.items c.from_residual-in_err-keep-2.ensures.1
    (keep_halts c.in_err-keep-2.field-0.0 c.args.options c.args.talk.now c.loop-end.talk bytes c.loop-end.line.items rest [] c.keep-2.new.line.items c.loop-end.out.items
    (subst P (sym (append-nil rest)) inv.0) inv.1 (no_feed rest (sym c.in_default.is ∙ c.line_end.ensures)) c.in_err-keep-2.ensures)

pub returns-clause-unended : goal.returns-clause-unended
returns-clause-unended c =
    let inv = c.loop-end.invariant in
    let rest = c.loop-end.rest.now in
    kept_unended c.loop-end.line.items rest c.keep-2.new.line.items inv.1 (no_feed rest (sym c.in_default.is ∙ c.line_end.ensures)) c.in_ok-keep-2.ensures
