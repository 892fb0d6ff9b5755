use Rattle.std.proofs.Common.{List, map, string_bytes, subst}
use Rattle.std.specs.declared.alloc.Global.{Global}
use Rattle.std.specs.declared.string.String.{String}
use Rattle.replay_main.specs.ReplayArguments.{AsksReplay}
use Rattle.replay_main.proofs.arguments.read_arguments.Goals as goal

pub returns : goal.returns
returns c = subst (λ (words : List (String Global)). AsksReplay (map string_bytes words) c.read_words.result) c.without_name.ensures c.read_words.ensures
