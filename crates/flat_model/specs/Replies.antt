-- The output for a trace.
use Rattle.std.specs.Prelude.{ℕ, ◌+◌, Bool, true, false, List, [], ◌∷◌, ◌++◌, codes, decimal, flat_map, count_by}
use Rattle.flat_model.specs.PathText.{path_text}
use Rattle.flat_model.specs.Command.{Command}
use Rattle.flat_model.specs.Command.{Refusal, Exists, NoGroup, Descendants, Depth, NoSlot, RootFixed, HasChildren, HasProcesses, NoProcess, PidInUse, OverPidsMax, NoFile, NotReadable}
use Rattle.flat_model.specs.Command.{Reply, Done, Text, Undone, Refused, NothingToUndo}
use Rattle.flat_model.specs.CommandText.{command_text}
use Rattle.flat_model.specs.FileText.{line}
use Rattle.flat_model.specs.Machine.{replies, new_machine}
use Rattle.flat_model.specs.Trace.{TextFault, BadSyntax, BadPath, BadFile, BadDirection, BadValue, Line, Skip, Run, Fault, lines_in, read_trace}

abbrev pub refusal_text : Refusal → List ℕ
refusal_text Exists = codes "exists"
refusal_text (NoGroup p) = codes "nogroup " ++ path_text p
refusal_text (Descendants p) = codes "descendants " ++ path_text p
refusal_text (Depth p) = codes "depth " ++ path_text p
refusal_text NoSlot = codes "noslot"
refusal_text RootFixed = codes "rootfixed"
refusal_text HasChildren = codes "haschildren"
refusal_text HasProcesses = codes "hasprocesses"
refusal_text (NoProcess pid) = codes "noprocess " ++ decimal pid
refusal_text (PidInUse pid) = codes "pidinuse " ++ decimal pid
refusal_text (OverPidsMax p) = codes "pidsmax " ++ path_text p
refusal_text NoFile = codes "nofile"
refusal_text NotReadable = codes "direction"

abbrev pub fault_text : TextFault → List ℕ
fault_text BadSyntax = codes "syntax"
fault_text BadPath = codes "path"
fault_text BadFile = codes "file"
fault_text BadDirection = codes "direction"
fault_text BadValue = codes "value"

abbrev pub ok_line : ℕ → List ℕ
ok_line n = line (decimal n ++ codes " ok")

abbrev pub refused_line : ℕ → List ℕ → List ℕ
refused_line n words = line (decimal n ++ codes " refused " ++ words)

-- a line of a reply's text
abbrev pub bar_line : List ℕ → List ℕ
bar_line text = line (codes "| " ++ text)

-- the output for the n-th command
abbrev pub reply_bytes : ℕ → Reply → List ℕ
reply_bytes n Done = ok_line n
reply_bytes n (Text text) = ok_line n ++ flat_map bar_line (lines_in text)
reply_bytes n (Undone c) = ok_line n ++ bar_line (command_text c)
reply_bytes n (Refused r) = refused_line n (refusal_text r)
reply_bytes n NothingToUndo = refused_line n (codes "nothing")

abbrev pub fault_bytes : ℕ → TextFault → List ℕ
fault_bytes n f = refused_line n (fault_text f)

abbrev pub command_in : Line → List Command
command_in Skip = []
command_in (Run c) = c ∷ []
command_in (Fault f) = []

-- the commands of the lines, in order
abbrev pub commands_in : List Line → List Command
commands_in lines = flat_map command_in lines

-- the output from number n on: text faults at their places, and the replies to commands
abbrev pub out : ℕ → List Line → List Reply → List ℕ
out n [] rs = []
out n (Skip ∷ lines) rs = out n lines rs
out n (Fault f ∷ lines) rs = fault_bytes n f ++ out (n + 1) lines rs
out n (Run c ∷ lines) [] = []
out n (Run c ∷ lines) (r ∷ rs) = reply_bytes n r ++ out (n + 1) lines rs

-- the replies of the machine, from its start, to the commands of the lines
abbrev pub line_replies : ℕ → List Line → List Reply
line_replies slots lines = replies slots new_machine (commands_in lines)

abbrev pub answers_to : ℕ → List Line → List ℕ
answers_to slots lines = out 1 lines (line_replies slots lines)

-- the output for a trace
abbrev pub answers : ℕ → List ℕ → List ℕ
answers slots bytes = answers_to slots (read_trace bytes)

-- ---- the two counts of the summary

abbrev pub is_numbered : Line → Bool
is_numbered Skip = false
is_numbered (Run c) = true
is_numbered (Fault f) = true

abbrev pub is_fault : Line → Bool
is_fault Skip = false
is_fault (Run c) = false
is_fault (Fault f) = true

-- the reply is a refusal
abbrev pub is_refused : Reply → Bool
is_refused Done = false
is_refused (Text text) = false
is_refused (Undone c) = false
is_refused (Refused r) = true
is_refused NothingToUndo = true

abbrev pub command_count : List Line → ℕ
command_count lines = count_by is_numbered lines

abbrev pub refused_count : ℕ → List Line → ℕ
refused_count slots lines = count_by is_fault lines + count_by is_refused (line_replies slots lines)
