use Rattle.group_path.proofs.PrefixTexts.{front_faultless, front_names}
use Rattle.group_path.proofs.PathTexts.{text_is, path_is}
use Rattle.group_path.proofs.path.GroupPath.cut.Goals as goal

pub invariant_of-self : goal.invariant_of-self
invariant_of-self g c =
    front_faultless c.self.inside.text c.truncate.new.self c.args.self.now c.args.n c.prefix_len-len.result
    (text_is c.self.inside.text c.args.self.now c.self.view_is c.self.invariant)
    (path_is c.self.inside.text c.args.self.now c.self.view_is c.self.invariant) c.prefix_len-len.ensures.value c.truncate.ensures

pub returns : goal.returns
returns g c =
    front_names c.self.inside.text c.truncate.new.self c.args.self.now c.args.n c.prefix_len-len.result
    (text_is c.self.inside.text c.args.self.now c.self.view_is c.self.invariant)
    (path_is c.self.inside.text c.args.self.now c.self.view_is c.self.invariant) c.prefix_len-len.ensures.value c.truncate.ensures
