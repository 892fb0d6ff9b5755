use Rattle.std.proofs.Common.{[], ap, ◌∙◌}
use Rattle.c_library.specs.Status.{found_info, found_status}
use Rattle.c_library.proofs.StatusLaws.{there_by, absent_by, told_by_zero, root_by_one}
use Rattle.c_library.proofs.laws.groups_and_numbers_by_status.Goals as goal

pub returns : goal.returns
returns c = record {
  there = λ e p status info new g h. (there_by e.engine.machine.state p h.answer status g h.tells h.status_is, h.new_is);
  absent = λ e p status info new g h. absent_by e.engine.machine.state p h.answer status g h.tells h.status_is;
  no_path = λ e f status info new h. (h.status_is ∙ ap found_status h.tells, h.info_is ∙ ap found_info h.tells);
  closed = λ f status info new h. (h.0, h.2);
  told = λ e of p value info new h.
      let x = told_by_zero e.engine.machine.state p (of e.engine.machine.state p) value h.answer h.tells h.status_is h.value_is in (x.0, x.1, h.new_is);
  root = λ e of value info new g h.
      root_by_one e.engine.machine.state (of e.engine.machine.state []) value h.answer info g h.tells h.status_is h.value_is h.info_is;
  no_number = λ of f status value info new h. (h.0, h.1);
}
