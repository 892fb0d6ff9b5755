-- What the text of a file or of `/proc/PID/cgroup` is. The first refusal is returned, out of memory last.
use Rattle.std.specs.Prelude.{◌≡◌, ℕ, Option, Some, None, Result, Ok, Err}
use Rattle.std.specs.declared.vec.Vec.{Vec}
use Rattle.flat_model.specs.Path.{Path}
use Rattle.flat_model.specs.State.{State}
use Rattle.flat_model.specs.File as model_file
use Rattle.flat_model.specs.Command as model
use Rattle.flat_model.specs.FileText.{file_text, home_text}
use Rattle.flat_model.specs.Step.{refusal}
use Rattle.interface_files.specs.declared.cat.Shown.{Shown}
use Rattle.interface_files.specs.declared.cat.Shown.TheVariants.{Text, Refused}
use Rattle.interface_files.specs.declared.fault.ShowRefusal.{ShowRefusal}
use Rattle.interface_files.specs.declared.fault.ShowRefusal.TheVariants as refused
use Rattle.interface_files.specs.declared.fault.ShowFault.{ShowFault}
use Rattle.interface_files.specs.declared.fault.ShowFault.TheVariants.{NoGroup, NoFile, NotReadable, OutOfMemory, NoProcess}

-- the refusal of the flat state, if p is the group
abbrev pub refusal_to_show : Path → ShowRefusal → model.Refusal
refusal_to_show p refused.NotReadable = model.NotReadable
refusal_to_show p refused.NoGroup = model.NoGroup p
refusal_to_show p refused.NoFile = model.NoFile

-- the file of the group at p or its first refusal, if there may be `slots` groups besides the root
abbrev pub ShowsTo : {B : Type 0} → ℕ → State → Path → model_file.File → Shown B → Type 0
ShowsTo slots s p file (Text text) = (refusal slots s (model.Show p file) ≡ None) × (text.items ≡ file_text s p file)
ShowsTo slots s p file (Refused r) = refusal slots s (model.Show p file) ≡ Some (refusal_to_show p r)

-- the refusal that a fault is; out of memory is none, and no file asks for a process
abbrev pub show_refusal_in : ShowFault → Option ShowRefusal
show_refusal_in NotReadable = Some refused.NotReadable
show_refusal_in NoGroup = Some refused.NoGroup
show_refusal_in NoFile = Some refused.NoFile
show_refusal_in OutOfMemory = None
show_refusal_in NoProcess = None

-- the file of the group at p, if there may be `slots` groups besides the root
abbrev pub Shows : {B : Type 0} → ℕ → State → Path → model_file.File → Result (Vec ℕ B) ShowFault → Type 0
Shows slots s p file (Ok text) = (refusal slots s (model.Show p file) ≡ None) × (text.items ≡ file_text s p file)
Shows slots s p file (Err NotReadable) = refusal slots s (model.Show p file) ≡ Some model.NotReadable
Shows slots s p file (Err NoGroup) = refusal slots s (model.Show p file) ≡ Some (model.NoGroup p)
Shows slots s p file (Err NoFile) = refusal slots s (model.Show p file) ≡ Some model.NoFile
Shows slots s p file (Err OutOfMemory) = refusal slots s (model.Show p file) ≡ None
Shows slots s p file (Err NoProcess) = ⊥

-- the group of a process
abbrev pub ShowsHome : {B : Type 0} → ℕ → State → ℕ → Result (Vec ℕ B) ShowFault → Type 0
ShowsHome slots s pid (Ok text) = (refusal slots s (model.Locate pid) ≡ None) × (text.items ≡ home_text s pid)
ShowsHome slots s pid (Err NoProcess) = refusal slots s (model.Locate pid) ≡ Some (model.NoProcess pid)
ShowsHome slots s pid (Err OutOfMemory) = refusal slots s (model.Locate pid) ≡ None
ShowsHome slots s pid (Err NotReadable) = ⊥
ShowsHome slots s pid (Err NoGroup) = ⊥
ShowsHome slots s pid (Err NoFile) = ⊥
