use Rattle.c_library.proofs.StatusLaws.{source_is, taken_is, copied_is, uncopied_is}
use Rattle.c_library.proofs.laws.copies_of_handles.Goals as goal

pub returns : goal.returns
returns c = record {
  source = source_is;
  taken = taken_is;
  copied = copied_is;
  memory = uncopied_is;
  nothing = λ to new new_to s h. (h.0, h.2);
}
