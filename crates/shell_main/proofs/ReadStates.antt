-- What stands before each read, from one part of what was read to the next.
use Rattle.std.proofs.Common.{◌≡◌, ◌∙◌, ℕ, ◌≤◌, Bool, true, false, List, [], ◌∷◌, ◌++◌, length, append_assoc, append-nil, refl, sym, ap, subst, Option, Some, None}
use Rattle.std.specs.Io.KnownBytes.{Consumes}
use Rattle.std.proofs.lemmas.List.Elements.{All-nil}
use Rattle.flat_model.specs.Trace.{read_line, read_trace, trace_max}
use Rattle.program_io.specs.Device.{TakesFront}
use Rattle.trace_talk.specs.Points.{Point, answers_on, start_point}
use Rattle.shell_main.specs.declared.options.Options.{Options}
use Rattle.shell_main.specs.Devices.{SinkState}
use Rattle.shell_main.specs.Forgetful.{after_by, answers_by, output_of}
use Rattle.shell_main.specs.Talks.{GoesOn, StandsBeforeRead}
use Rattle.shell_main.specs.WholeLines.{ends_line}
use Rattle.shell_main.proofs.LineCuts.{HasOneMore}
use Rattle.shell_main.proofs.ForgetfulCuts.{after_none, answers_none}
use Rattle.shell_main.proofs.ReadLines.{nothing_unended}
use Rattle.shell_main.proofs.WholeLineTexts.{answers_both, answers_more, clean_both, clean_none, ends_both, point_both, short_both}

-- ---- bytes

-- what was read in two steps
consumed_more : (start left later : Option (List ℕ)) (a b : List ℕ) → Consumes start left a → Consumes left later b → Consumes start later (a ++ b)
consumed_more None left later a b c d = tt
consumed_more (Some xs) None later a b c d = absurd c
consumed_more (Some xs) (Some ys) None a b c d = absurd d
consumed_more (Some xs) (Some ys) (Some zs) a b c d = c ∙ ap (λ x. a ++ x) d ∙ sym (append_assoc a b zs)

-- what was written in two steps
pub both_written : (before mid after : Option (List ℕ)) (a b rest : List ℕ) → TakesFront before a [] mid → TakesFront mid b rest after → TakesFront before (a ++ b) rest after
both_written None mid after a b rest v w = tt
both_written (Some xs) None after a b rest v w = absurd v
both_written (Some xs) (Some ys) None a b rest v w = absurd w
both_written (Some xs) (Some ys) (Some zs) a b rest v w = (
  v.0 ++ w.0,
  ap (λ t. t ++ b) (v.1 ∙ append-nil v.0) ∙ ap (λ t. v.0 ++ t) w.1 ∙ sym (append_assoc v.0 w.0 rest),
  w.2 ∙ ap (λ t. t ++ w.0) v.2 ∙ append_assoc xs v.0 w.0,
)

none_written : (before : Option (List ℕ)) → TakesFront before [] [] before
none_written None = tt
none_written (Some xs) = ([], refl, sym (append-nil xs))

none_consumed : (left : Option (List ℕ)) → Consumes left left []
none_consumed None = tt
none_consumed (Some xs) = refl

-- ---- the answers to more lines

pub written_both : (history : Bool) (lines text rest : List ℕ) (now : Point) (before taken after : Option (List ℕ)) → ends_line lines ≡ true → now ≡ after_by history start_point (read_trace lines)
    → TakesFront before (output_of history lines) [] taken → TakesFront taken (answers_by history now (read_trace text)) rest after → TakesFront before (output_of history (lines ++ text)) rest after
written_both history lines text rest now before taken after e p w v =
    subst (λ x. TakesFront before x rest after) (sym (answers_both history start_point now lines text e p))
    (both_written before taken after (output_of history lines) (answers_by history now (read_trace text)) rest w v)

pub written_more : (history : Bool) (lines line text rest : List ℕ) (now : Point) (before taken after : Option (List ℕ))
    → HasOneMore lines line text → now ≡ after_by history start_point (read_trace lines)
    → TakesFront before (output_of history lines) [] taken → TakesFront taken (answers_on now (read_line line ∷ [])) rest after → TakesFront before (output_of history text) rest after
written_more history lines line text rest now before taken after one p w v =
    subst (λ x. TakesFront before x rest after) (sym (answers_more history start_point now lines line text one p))
    (both_written before taken after (output_of history lines) (answers_on now (read_line line ∷ [])) rest w v)

-- ---- steps

-- before the first line
pub at_start : (how : Options) (left : Option (List ℕ)) (sink : SinkState) (now : Point) → now ≡ start_point → sink.failed ≡ false
    → sink.flushed ≡ true → StandsBeforeRead how left left sink.taken sink now [] [] []
at_start how left sink now p f o = record {
  whole = refl;
  short = All-nil (λ (l : List ℕ). length l ≤ trace_max);
  clean = clean_none how.is_strict;
  unended = nothing_unended;
  read = none_consumed left;
  point = p ∙ after_none how.keeps_history start_point;
  written = subst (λ x. TakesFront sink.taken x [] sink.taken) (sym (answers_none how.keeps_history start_point)) (none_written sink.taken);
  good = f;
  is_out = o;
}

-- bytes came in
pub came : {how : Options} {start left before : Option (List ℕ)} {sink : SinkState} {now : Point} {lines line : List ℕ} (later : Option (List ℕ)) (bytes : List ℕ)
    → StandsBeforeRead how start left before sink now lines line [] → Consumes left later bytes → StandsBeforeRead how start later before sink now lines line bytes
came {how} {start} {left} {before} {sink} {now} {lines} {line} later bytes s c = record {
  whole = s.whole;
  short = s.short;
  clean = s.clean;
  unended = s.unended;
  read =
      let joined : (lines ++ (line ++ [])) ++ bytes ≡ lines ++ (line ++ bytes) = ap (λ x. (lines ++ x) ++ bytes) (append-nil line) ∙ append_assoc lines line bytes in
      subst (Consumes start later) joined (consumed_more start left later (lines ++ (line ++ [])) bytes s.read c);
  point = s.point;
  written = s.written;
  good = s.good;
  is_out = s.is_out;
}

-- what was read, cut after lines that are answered
pub read_cut : (start left : Option (List ℕ)) (lines bytes text more : List ℕ) → Consumes start left (lines ++ bytes) → bytes ≡ text ++ more → Consumes start left ((lines ++ text) ++ more)
read_cut start left lines bytes text more c e = subst (Consumes start left) (ap (λ x. lines ++ x) e ∙ sym (append_assoc lines text more)) c

-- lines of what came are answered, and their output is out
pub went_on : {how : Options} {start left before : Option (List ℕ)} {old sink : SinkState} {now new : Point} {lines line pending line2 rest : List ℕ}
    → StandsBeforeRead how start left before old now lines line pending → (g : GoesOn how now (line ++ pending) old.taken sink new line2 rest)
    → StandsBeforeRead how start left before sink new (lines ++ g.answered.text) line2 rest
went_on {how} {start} {left} {before} {old} {sink} {now} {new} {lines} {line} {pending} {line2} {rest} s g =
    let a = g.answered in
    record {
      whole = ends_both lines a.text s.whole a.whole;
      short = short_both lines a.text s.whole s.short a.short;
      clean = clean_both how.is_strict lines a.text s.whole s.clean a.clean;
      unended = g.unended;
      read = read_cut start left lines (line ++ pending) a.text (line2 ++ rest) s.read a.is_front;
      point = point_both how.keeps_history start_point now new lines a.text s.whole s.point a.point;
      written = written_both how.keeps_history lines a.text [] now before old.taken sink.taken s.whole s.point s.written (subst (λ x. TakesFront old.taken x [] sink.taken) a.output g.is_out.written);
      good = g.is_out.good;
      is_out = g.is_out.is_out;
    }
