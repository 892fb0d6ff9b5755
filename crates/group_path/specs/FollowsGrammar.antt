-- What a call returns for a result of the grammar: the same result, or out of memory instead of a path.
use Rattle.std.specs.Prelude.{◌≡◌, Option, Some, None, Result, Ok, Err, MatchResult}
use Rattle.flat_model.specs.Path.{Path}
use Rattle.flat_model.specs.PathText as grammar
use Rattle.group_path.specs.declared.fault.PathFault.{PathFault}
use Rattle.group_path.specs.declared.fault.PathFault.TheVariants.{NotRooted, EmptyName, BadByte, DotName, Reserved, NameTooLong, TooDeep, TooLong, OutOfMemory}

-- the fault of the code for a fault of the grammar
abbrev pub fault_of : grammar.PathFault → PathFault
fault_of grammar.NotRooted = NotRooted
fault_of grammar.EmptyName = EmptyName
fault_of (grammar.BadByte at) = BadByte at
fault_of grammar.DotName = DotName
fault_of grammar.Reserved = Reserved
fault_of grammar.NameTooLong = NameTooLong
fault_of grammar.TooDeep = TooDeep
fault_of grammar.TooLong = TooLong

-- the result of a test of the grammar
abbrev pub checked : Option grammar.PathFault → Result (Unit {0}) PathFault
checked None = Ok tt
checked (Some fault) = Err (fault_of fault)

abbrev pub FollowsGrammar : Result Path PathFault → Result Path grammar.PathFault → Type 0
FollowsGrammar result (Err fault) = result ≡ Err (fault_of fault)
FollowsGrammar result (Ok path) = MatchResult result (λ p. p ≡ path) (λ fault. fault ≡ OutOfMemory)
