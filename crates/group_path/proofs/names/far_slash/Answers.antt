use Rattle.flat_model.specs.PathText.{is_slash}
use Rattle.group_path.proofs.Slashes.{first_is}
use Rattle.group_path.proofs.names.far_slash.Goals as goal

pub returns : goal.returns
returns c = first_is is_slash c.args.bytes.now c.memchr.result c.memchr.ensures
