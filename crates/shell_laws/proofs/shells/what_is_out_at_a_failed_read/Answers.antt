use Rattle.std.proofs.Common.{◌≡◌, ◌∙◌, ◌++◌, List, ℕ, [], Option, Some, None, append-nil, ap, sym}
use Rattle.program_io.specs.Device.{TakesFront}
use Rattle.shell_main.specs.Forgetful.{output_of}
use Rattle.shell_laws.proofs.shells.what_is_out_at_a_failed_read.Goals as goal

-- all of these bytes were taken
all_taken : (before bytes : List ℕ) (after : Option (List ℕ)) → TakesFront (Some before) bytes [] after → after ≡ Some (before ++ bytes)
all_taken before bytes None t = absurd t
all_taken before bytes (Some xs) t = ap (λ x. Some x) (t.2 ∙ ap (λ y. before ++ y) (sym (append-nil t.0) ∙ sym t.1))

pub returns : goal.returns
returns c = λ history failed start left before sink s.
    let n = s.1.2 in
    (s.1.0, s.1.1, n.read, n.whole, n.unended, all_taken before (output_of history s.1.0) sink.taken n.written, n.is_out)
