use Rattle.std.proofs.Common.{refl}
use Rattle.journal_laws.proofs.FileMeanings.{kind_for, kinds_apart}
use Rattle.journal_laws.proofs.files.kinds_are_the_models.Goals as goal

pub returns : goal.returns
returns c = record {
  apart = kinds_apart;
  all = kind_for;
  pid = refl;
  kill = refl;
  pids = refl;
  descendants = refl;
  depth = refl;
}
