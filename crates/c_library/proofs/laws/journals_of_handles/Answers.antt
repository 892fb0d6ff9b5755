use Rattle.std.proofs.Common.{length, ap, ◌∙◌}
use Rattle.c_library.proofs.StatusLaws.{forgotten_depth, kept_state}
use Rattle.c_library.proofs.laws.journals_of_handles.Goals as goal

pub returns : goal.returns
returns c = record {
  two = λ e s t status depth new past h. (h.0, h.1 ∙ ap length past, h.2);
  closed = λ status depth new h. (h.0, h.1);
  forgotten = forgotten_depth;
  kept = kept_state;
  none = λ s new h. h;
}
