use Rattle.std.proofs.Common.{refl}
use Rattle.flat_model.specs.PathText.{NotRooted, EmptyName, BadByte, DotName, Reserved, NameTooLong, TooDeep, TooLong, name_fault, path_fault}
use Rattle.hierarchy_laws.proofs.FaultLaws.{is_named}
use Rattle.hierarchy_laws.proofs.paths.each_fault_has_its_name.Goals as goal

pub returns : goal.returns
unfolding name_fault path_fault
returns c = record {
  not_rooted = λ r. is_named NotRooted r _ refl;
  empty_name = λ r. is_named EmptyName r _ refl;
  bad_byte = λ r. is_named (BadByte 2) r _ refl;
  dots = λ r. is_named DotName r _ refl;
  reserved = λ r. is_named Reserved r _ refl;
  long_name = λ r. is_named NameTooLong r _ refl;
  deep = λ r. is_named TooDeep r _ refl;
  long = λ r. is_named TooLong r _ refl;
}
