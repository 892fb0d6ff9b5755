use Rattle.shell_laws.proofs.words.clusters_of_flags.Goals as goal

pub returns-clause-passed : goal.returns-clause-passed
returns-clause-passed c = λ word words a k. rw (a, k)
