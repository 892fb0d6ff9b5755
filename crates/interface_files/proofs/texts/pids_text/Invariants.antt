use Rattle.std.proofs.Common.{◌≡◌, ◌++◌, decimal, drop, flat_map}
use Rattle.flat_model.specs.FileText.{line}
use Rattle.interface_files.proofs.texts.pids_text.Given as goal

-- the lines so far and those that are left make up the whole
abbrev pub invariant-loop-pid : goal.invariant-loop-pid
invariant-loop-pid g l = l.text.items ++ flat_map (λ pid. line (decimal pid)) (drop l.pid-index l.pids) ≡ flat_map (λ pid. line (decimal pid)) l.pids
