use Rattle.std.proofs.Common.{◌∙◌, ap}
use Rattle.std.specs.Cmp.Lexicographic.{texts_ties}
use Rattle.flat_model.specs.Path.{same_name}
use Rattle.interface_files.proofs.limit.is_max.Goals as goal

pub returns : goal.returns
returns c = c.eq.ensures ∙ texts_ties c.args.word.now c.as_slice.result.now ∙ ap (same_name c.args.word.now) c.as_slice.ensures
