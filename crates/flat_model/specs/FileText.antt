-- The text of each file, and of `/proc/PID/cgroup`. Numbers are decimal, and each line ends with a line feed.
use Rattle.std.specs.Prelude.{ℕ, Bool, cond, List, [], ◌∷◌, ◌++◌, codes, decimal, flat_map}
use Rattle.flat_model.specs.Path.{Path}
use Rattle.flat_model.specs.PathText.{path_text}
use Rattle.flat_model.specs.State.{State, Limit, Unlimited, At}
use Rattle.flat_model.specs.Counts.{current, populated, descendant_count, members}
use Rattle.flat_model.specs.File.{File, Procs, Events, Stat, LimitOf, KillFile, PidsCurrent, PidsPeak, PidsEvents, PidsEventsLocal}
use Rattle.flat_model.specs.Step.{home_of, attr_of, limit_at}

abbrev pub line : List ℕ → List ℕ
line text = text ++ 0x0A ∷ []

abbrev pub limit_text : Limit → List ℕ
limit_text Unlimited = codes "max"
limit_text (At n) = decimal n

abbrev pub flag_text : Bool → List ℕ
flag_text b = cond b (codes "1") (codes "0")

abbrev pub file_text : State → Path → File → List ℕ
file_text s g Procs = flat_map (λ pid. line (decimal pid)) (members s g)
file_text s g Events = line (codes "populated " ++ flag_text (populated s g)) ++ line (codes "frozen 0")
file_text s g Stat = line (codes "nr_descendants " ++ decimal (descendant_count s g)) ++ line (codes "nr_dying_descendants 0")
file_text s g (LimitOf file) = line (limit_text (limit_at file (attr_of s g)))
file_text s g KillFile = []
file_text s g PidsCurrent = line (decimal (current s g))
file_text s g PidsPeak = line (decimal (attr_of s g).peak)
file_text s g PidsEvents = line (codes "max " ++ decimal (attr_of s g).total)
file_text s g PidsEventsLocal = line (codes "max " ++ decimal (attr_of s g).local)

abbrev pub home_text : State → ℕ → List ℕ
home_text s pid = line (codes "0::" ++ path_text (home_of s pid))
