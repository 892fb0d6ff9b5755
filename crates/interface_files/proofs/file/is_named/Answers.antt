use Rattle.flat_model.specs.File.{file_name}
use Rattle.interface_files.specs.FileMeaning.{file_of}
use Rattle.interface_files.proofs.Names.{same_bytes}
use Rattle.interface_files.proofs.file.is_named.Goals as goal

pub returns : goal.returns
returns c = same_bytes c.name.result.now (file_name (file_of c.args.file)) c.args.name.now c.eq.result c.name.ensures c.eq.ensures
