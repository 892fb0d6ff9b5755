use Rattle.flat_model.proofs.PathLaws.{at_or_below_is, strictly_below_is, at_or_below_itself, at_or_below_through, at_or_below_both}
use Rattle.flat_model.proofs.PathLaws.{take_above, parent_above, parent-child, at_or_below_either, at_or_below_length}
use Rattle.flat_model_laws.proofs.paths.below_is_prefix.Goals as goal

pub returns : goal.returns
returns c = record {
  test = at_or_below_is;
  strictly = strictly_below_is;
  itself = at_or_below_itself;
  through = at_or_below_through;
  both = at_or_below_both;
  front = take_above;
  parent = parent_above;
  child = parent-child;
  line = at_or_below_either;
  shorter = at_or_below_length;
}
