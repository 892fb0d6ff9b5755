-- What one line of a talk leaves, and what a talk counts.
use Rattle.std.proofs.Common.{◌≡◌, ◌↔◌, ◌+◌, ◌<◌, ◌^◌, ◌++◌, ℕ, List, [], ◌∷◌, cond, refl, sym, ap, ◌∙◌, append-nil, zero-add, arith}
use Rattle.flat_model.specs.Command.{Command}
use Rattle.flat_model.specs.Machine.{tick}
use Rattle.flat_model.specs.Replies.{command_count, fault_bytes, is_refused, refused_count, reply_bytes}
use Rattle.flat_model.specs.Trace.{Fault, Run, Skip, TextFault, Line, read_trace}
use Rattle.undo_journal.specs.Slots.{slots}
use Rattle.trace_talk.specs.Points.{IsSaid, Point, answers_on, number_max, point_after, start_point, summary_of}

-- the state after a line, whose answer was appended
said : (p : Point) (line : Line) (before after bytes : List ℕ) (next q : Point) → answers_on p (line ∷ []) ≡ bytes → point_after p (line ∷ []) ≡ next
    → IsSaid p line before after q ↔ ((after ≡ before ++ bytes) × (q ≡ next))
said p line before after bytes next q b n = (
  λ h. (h.bytes_are ∙ ap (λ (x : List ℕ). before ++ x) b, h.point ∙ n),
  λ h. record { bytes_are = h.0 ∙ ap (λ (x : List ℕ). before ++ x) (sym b); point = h.1 ∙ sym n },
)

same_point : (p : Point) (m n : ℕ) → p.commands + m ≡ n → (r s : ℕ) → p.refused + r ≡ s
    → ◌≡◌ {A = Point} (record { machine = p.machine; commands = p.commands + m; refused = p.refused + r }) (record { machine = p.machine; commands = n; refused = s })
same_point p m n c r s d = λ i. record { machine = p.machine; commands = c i; refused = d i }

pub skipped_is : (p q : Point) (before after : List ℕ) → IsSaid p Skip before after q ↔ ((after ≡ before) × (q ≡ p))
skipped_is p q before after =
    let next : point_after p (Skip ∷ []) ≡ p = same_point p 0 p.commands (omega arith) 0 p.refused (omega arith) in
    let h = said p Skip before after [] p q refl next in
    (λ s. ((h.0 s).0 ∙ append-nil before, (h.0 s).1), λ s. h.1 (s.0 ∙ sym (append-nil before), s.1))

pub fault_is : (p q : Point) (f : TextFault) (before after : List ℕ) → IsSaid p (Fault f) before after q
    ↔ ((after ≡ before ++ fault_bytes (p.commands + 1) f) × (q ≡ record { machine = p.machine; commands = p.commands + 1; refused = p.refused + 1 }))
fault_is p q f before after = said p (Fault f) before after (fault_bytes (p.commands + 1) f) _ q (append-nil (fault_bytes (p.commands + 1) f)) refl

pub command_is : (p q : Point) (c : Command) (before after : List ℕ) → IsSaid p (Run c) before after q
    ↔ ((after ≡ before ++ reply_bytes (p.commands + 1) (tick slots p.machine c).1)
    × (q ≡ record { machine = (tick slots p.machine c).0; commands = p.commands + 1; refused = p.refused + cond (is_refused (tick slots p.machine c).1) 1 0 }))
command_is p q c before after =
    let one : ℕ = cond (is_refused (tick slots p.machine c).1) 1 0 in
    let count : p.refused + (0 + (0 + one)) ≡ p.refused + one = omega arith in
    said p (Run c) before after (reply_bytes (p.commands + 1) (tick slots p.machine c).1)
    (record { machine = (tick slots p.machine c).0; commands = p.commands + 1; refused = p.refused + one }) q
    (append-nil (reply_bytes (p.commands + 1) (tick slots p.machine c).1))
    (λ i. record { machine = (tick slots p.machine c).0; commands = p.commands + 1; refused = count i })

pub commands_are : (text : List ℕ) → (summary_of (point_after start_point (read_trace text))).commands ≡ command_count (read_trace text)
commands_are text = zero-add (command_count (read_trace text))

pub refused_are : (text : List ℕ) → (summary_of (point_after start_point (read_trace text))).refused ≡ refused_count slots (read_trace text)
refused_are text = zero-add (refused_count slots (read_trace text))

pub next_number : (n : ℕ) → (n < number_max) ↔ (n + 1 < 2 ^ 64)
next_number n = (λ h. omega (arith, h), λ h. omega (arith, h))
