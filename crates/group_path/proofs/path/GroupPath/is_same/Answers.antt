use Rattle.group_path.proofs.SameTexts.{same_text}
use Rattle.group_path.proofs.path.GroupPath.is_same.Goals as goal

pub returns : goal.returns
returns g c = same_text c.args.self.now c.args.other.now c.text.result.now c.text-2.result.now c.eq.result c.known.ensures c.known-2.ensures c.text.ensures c.text-2.ensures c.eq.ensures
