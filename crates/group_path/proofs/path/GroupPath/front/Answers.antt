use Rattle.group_path.proofs.PrefixTexts.{front_faultless, front_names}
use Rattle.group_path.proofs.PathTexts.{path_is}
use Rattle.group_path.proofs.path.GroupPath.front.Goals as goal

pub invariant_of-result : goal.invariant_of-result
invariant_of-result g c =
    front_faultless c.text.result.now c.in_ok-text.text c.args.self.now c.args.n c.prefix_len.result c.text.ensures
    (path_is c.self.inside.text c.args.self.now c.self.view_is c.self.invariant) c.prefix_len.ensures.value c.in_ok-text.ensures.same

pub returns-clause-group : goal.returns-clause-group
returns-clause-group g c =
    front_names c.text.result.now c.in_ok-text.text c.args.self.now c.args.n c.prefix_len.result c.text.ensures
    (path_is c.self.inside.text c.args.self.now c.self.view_is c.self.invariant) c.prefix_len.ensures.value c.in_ok-text.ensures.same
