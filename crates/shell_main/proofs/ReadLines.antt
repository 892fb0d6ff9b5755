-- Lines of one read are answered, one by one.
use Rattle.std.proofs.Common.{◌≡◌, ◌∙◌, inl, inr, ℕ, ◌≤◌, false, List, [], ◌∷◌, ◌++◌, length, append_assoc, refl, sym, ap, subst, arith, Result, Ok, Err, MatchResult}
use Rattle.std.specs.Bool.{⊤}
use Rattle.std.specs.Result.{IsErrAnd}
use Rattle.std.proofs.lemmas.List.Elements.{All-append, All-nil}
use Rattle.flat_model.specs.Trace.{is_line_feed, read_line, trace_max}
use Rattle.trace_talk.specs.Points.{Point, answers_on}
use Rattle.shell_main.specs.declared.fault.ShellFault.{ShellFault}
use Rattle.shell_main.specs.declared.fault.ShellFault.TheVariants.{Read, Write, InputTooLong, OutOfMemory, NotACommand}
use Rattle.shell_main.specs.declared.options.Options.{Options}
use Rattle.shell_main.specs.Talks.{Answered, Halts, IsUnended, KeepsBytes, AnswersShellLine}
use Rattle.shell_main.specs.WholeLines.{HasNoFeed}
use Rattle.shell_main.proofs.LineCuts.{ends_more, with_feed}
use Rattle.shell_main.proofs.ForgetfulCuts.{after_none, answers_none}
use Rattle.shell_main.proofs.WholeLineTexts.{answers_more, clean_more, clean_none, point_more}

pub nothing_unended : IsUnended []
nothing_unended = record { no_feed = All-nil (λ b. is_line_feed b ≡ false); fits = search arith }

-- before the first line
pub none_answered : (how : Options) (now : Point) (bytes out : List ℕ) → out ≡ [] → Answered how now bytes bytes out now
none_answered how now bytes out e = record {
  text = [];
  is_front = refl;
  whole = refl;
  short = All-nil (λ (l : List ℕ). length l ≤ trace_max);
  clean = clean_none how.is_strict;
  point = after_none how.keeps_history now;
  output = e ∙ sym (answers_none how.keeps_history now);
}

-- a piece without a line feed was appended to the line
pub kept_unended : (line piece line2 : List ℕ) → IsUnended line → HasNoFeed piece → (line2 ≡ line ++ piece) × (length line2 ≤ trace_max) → IsUnended line2
kept_unended line piece line2 u h k = record {
  no_feed = subst HasNoFeed (sym k.0) (All-append (λ b. is_line_feed b ≡ false) line piece u.no_feed h);
  fits = k.1;
}

pub kept : (how : Options) (old now : Point) (bytes line piece more line2 out : List ℕ)
    → Answered how old bytes (line ++ (piece ++ more)) out now → line2 ≡ line ++ piece → Answered how old bytes (line2 ++ more) out now
kept how old now bytes line piece more line2 out a k =
    let joined : line ++ (piece ++ more) ≡ line2 ++ more = sym (append_assoc line piece more) ∙ ap (λ x. x ++ more) (sym k) in
    subst (λ x. Answered how old bytes x out now) joined a

-- the line got too long, or out of memory for it
pub keep_halts : (fault : ShellFault) (how : Options) (old now : Point) (bytes line piece more line2 out : List ℕ)
    → Answered how old bytes (line ++ (piece ++ more)) out now → IsUnended line → HasNoFeed piece → KeepsBytes line piece (Err fault) line2
    → Halts how old bytes out fault
keep_halts Read how old now bytes line piece more line2 out a u h k = absurd k
keep_halts Write how old now bytes line piece more line2 out a u h k = absurd k
keep_halts NotACommand how old now bytes line piece more line2 out a u h k = absurd k
keep_halts OutOfMemory how old now bytes line piece more line2 out a u h k = (line ++ (piece ++ more), now, a)
keep_halts InputTooLong how old now bytes line piece more line2 out a u h k = (
  line ++ piece,
  more,
  now,
  (
    kept how old now bytes line piece more (line ++ piece) out a refl,
    All-append (λ b. is_line_feed b ≡ false) line piece u.no_feed h,
    inl k,
  ),
)

-- a line that ended is answered
pub said : (how : Options) (old now new : Point) (bytes line more out out2 : List ℕ) (u : Unit {0})
    → Answered how old bytes (line ++ 0x0A ∷ more) out now → IsUnended line → AnswersShellLine how now (read_line line) out out2 (Ok u) new
    → Answered how old bytes more out2 new
said how old now new bytes line more out out2 u a l w =
    let text = a.text ++ (line ++ 0x0A ∷ []) in
    let one = with_feed a.text line a.whole l.no_feed in
    record {
      text = text;
      is_front =
          a.is_front ∙ ap (λ x. a.text ++ x) (sym (append_assoc line (0x0A ∷ []) more)) ∙ sym (append_assoc a.text (line ++ 0x0A ∷ []) more);
      whole = ends_more a.text line;
      short = one.short a.short l.fits;
      clean = clean_more how.is_strict a.text line text one a.clean w.2;
      point = point_more how.keeps_history old now new a.text line text one a.point w.0;
      output = w.1 ∙ ap (λ x. x ++ answers_on now (read_line line ∷ [])) a.output ∙ sym (answers_more how.keeps_history old now a.text line text one a.point);
    }

-- it is not: no number was left, or out of memory; or a strict shell stops after it
pub say_halts : (fault : ShellFault) (how : Options) (old now new : Point) (bytes line more out out2 : List ℕ)
    → Answered how old bytes (line ++ 0x0A ∷ more) out now → IsUnended line → AnswersShellLine how now (read_line line) out out2 (Err fault) new
    → Halts how old bytes out2 fault
say_halts Read how old now new bytes line more out out2 a l w = absurd w
say_halts Write how old now new bytes line more out out2 a l w = absurd w
say_halts OutOfMemory how old now new bytes line more out out2 a l w = (line ++ 0x0A ∷ more, now, subst (λ x. Answered how old bytes (line ++ 0x0A ∷ more) x now) (sym w) a)
say_halts InputTooLong how old now new bytes line more out out2 a l w = (
  line,
  0x0A ∷ more,
  now,
  (subst (λ x. Answered how old bytes (line ++ 0x0A ∷ more) x now) (sym w.1) a, l.no_feed, inr w.0),
)
say_halts NotACommand how old now new bytes line more out out2 a l w = record {
  line = line;
  more = more;
  first = out;
  now = now;
  answered = a;
  unended = l;
  is_strict = w.0;
  fault = w.1;
  output = w.2;
}

-- a fault that is handed on
pub handed_halts : {T : Type 0} (r : Result T ShellFault) (fault : ShellFault) (how : Options) (old : Point) (bytes out : List ℕ) → IsErrAnd r (λ e. e ≡ fault) → Halts how old bytes out fault
    → MatchResult r (λ x. ⊤) (Halts how old bytes out)
handed_halts (Ok x) fault how old bytes out e h = tt
handed_halts (Err f) fault how old bytes out e h = subst (λ v. Halts how old bytes out v) (sym e) h
