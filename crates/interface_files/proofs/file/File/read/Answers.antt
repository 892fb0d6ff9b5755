use Rattle.std.proofs.Common.{◌∙◌, ap, option_map}
use Rattle.interface_files.specs.FileMeaning.{file_of}
use Rattle.interface_files.proofs.Names.{file_is}
use Rattle.interface_files.proofs.file.File.read.Goals as goal

pub returns : goal.returns
returns c = ap (option_map file_of) c.first_named.ensures ∙ file_is c.args.name.now
