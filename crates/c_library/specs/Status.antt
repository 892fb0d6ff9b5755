-- What the calls from C return and leave. A handle has an engine, or none.
use Rattle.std.specs.Prelude.{◌≡◌, ℕ, cond, nat_eq, nat_lt, List, [], Option, None, Some, length, Result}
use Rattle.flat_model.specs.Command.{NoGroup, NoFile}
use Rattle.flat_model.specs.Machine.{Machine, new_machine}
use Rattle.flat_model.specs.Path.{Path}
use Rattle.flat_model.specs.PathText.{PathFault}
use Rattle.flat_model.specs.State.{State}
use Rattle.flat_model.specs.Trace.{Line, BadSyntax, BadPath}
use Rattle.undo_journal.specs.Beginning.{forgets}
use Rattle.undo_journal.specs.Timeline.{from_start}
use Rattle.line_engine.specs.declared.answer.Answer.{Answer}
use Rattle.line_engine.specs.declared.answer.Answer.TheVariants.{Skipped, Answered, TooSmall, OutOfMemory}
use Rattle.line_engine.specs.declared.listing.Listing.{Listing}
use Rattle.line_engine.specs.declared.listing.Listing.TheVariants as listing
use Rattle.line_engine.specs.declared.listing.Found.{Found}
use Rattle.line_engine.specs.declared.listing.Found.TheVariants as found
use Rattle.line_engine.specs.declared.engine.LineEngine.{LineEngine}
use Rattle.line_engine.specs.FaultCodes.{refusal_code, fault_code}
use Rattle.line_engine.specs.LineAnswers.{AnswersLine}
use Rattle.line_engine.specs.Listings.{TellsChildren, TellsGroups, TellsSubtree, TellsHistory, TellsGroup}
use Rattle.line_engine.specs.Numbers.{TellsNumber}
use Rattle.line_engine.specs.declared.numbers.Number.{Number}
use Rattle.line_engine.specs.declared.numbers.Number.TheVariants as number
use Rattle.line_engine.specs.declared.path_faults.FaultAt.{FaultAt}
use Rattle.c_library.specs.declared.info.Info.{Info}

-- what a call returns besides its status
abbrev pub told : ℕ → ℕ → ℕ → Info
told len count code = record { len = len; count = count; needed = 0; code = code }

-- the buffer is too small: this number of bytes is needed
abbrev pub too_small : ℕ → Info
too_small needed = record { len = 0; count = 0; needed = needed; code = 0 }

-- 0 for done, 1 for refused, 2 for a line that is no command: the codes of faults begin with that of BadSyntax
abbrev pub status_of_code : ℕ → ℕ
status_of_code code = cond (nat_eq code 0) 0 (cond (nat_lt code (fault_code BadSyntax)) 1 2)

-- ---- a line

abbrev pub status_of : Answer → ℕ
status_of Skipped = 5
status_of (Answered len code) = status_of_code code
status_of (TooSmall needed) = 3
status_of OutOfMemory = 4

abbrev pub info_of : Answer → Info
info_of Skipped = told 0 0 0
info_of (Answered len code) = told len 0 code
info_of (TooSmall needed) = too_small needed
info_of OutOfMemory = told 0 0 0

-- the engine e answered the n-th line so, and the handle still has an engine
pub record AnsweredAt (e : LineEngine) (n : ℕ) (line : Line) (out : List ℕ) (status : ℕ) (info : Info) (new : Option LineEngine) : Type 0 where
  pub engine : LineEngine
  pub answer : Answer
  pub new_is : new ≡ Some engine
  pub answers : AnswersLine e.engine n line out answer engine.engine
  pub status_is : status ≡ status_of answer
  pub info_is : info ≡ info_of answer

abbrev pub AnswersAt : Option LineEngine → ℕ → Line → List ℕ → ℕ → Info → Option LineEngine → Type 0
AnswersAt None n line out status info new = (status ≡ 6) × (info ≡ told 0 0 0) × (new ≡ None)
AnswersAt (Some e) n line out status info new = AnsweredAt e n line out status info new

-- ---- the engine of a handle

-- a handle without an engine gets a new one, unless out of memory; a handle with one keeps it
abbrev pub IsOpened : Option LineEngine → ℕ → Option LineEngine → Type 0
IsOpened (Some e) status new = (status ≡ 6) × (new ≡ Some e)
IsOpened None status None = status ≡ 4
IsOpened None status (Some e) = (status ≡ 0) × (e.engine ≡ from_start new_machine)

abbrev pub ClosesHandle : Option LineEngine → ℕ → Option LineEngine → Type 0
ClosesHandle None status new = (status ≡ 6) × (new ≡ None)
ClosesHandle (Some e) status new = (status ≡ 0) × (new ≡ None)

abbrev pub DepthAt : Option LineEngine → ℕ → ℕ → Option LineEngine → Type 0
DepthAt None status depth new = (status ≡ 6) × (depth ≡ 0) × (new ≡ None)
DepthAt (Some e) status depth new = (status ≡ 0) × (depth ≡ length e.engine.machine.past) × (new ≡ Some e)

-- the groups and processes stay, and nothing can be undone
abbrev pub ForgetsAt : Option LineEngine → ℕ → Option LineEngine → Type 0
ForgetsAt None status new = (status ≡ 6) × (new ≡ None)
ForgetsAt (Some e) status new = (status ≡ 0) × (new ≡ Some (record { engine = forgets e.engine }))

-- a handle without an engine gets a copy of the other's, with the same groups, processes and journal, unless out of memory;
-- the other keeps its engine
abbrev pub CopiesAt : Option LineEngine → Option LineEngine → ℕ → Option LineEngine → Option LineEngine → Type 0
CopiesAt None to status new new_to = (status ≡ 6) × (new ≡ None) × (new_to ≡ to)
CopiesAt (Some e) (Some held) status new new_to = (status ≡ 6) × (new ≡ Some e) × (new_to ≡ Some held)
CopiesAt (Some e) None status new None = (status ≡ 4) × (new ≡ Some e)
CopiesAt (Some e) None status new (Some copy) = (status ≡ 0) × (new ≡ Some e) × (copy.engine ≡ e.engine)

-- ---- groups

abbrev pub listing_status : Listing → ℕ
listing_status (listing.Listed len count) = 0
listing_status listing.NoGroup = 1
listing_status listing.BadPath = 2
listing_status (listing.TooSmall needed) = 3
listing_status listing.OutOfMemory = 4

abbrev pub listing_info : Listing → Info
listing_info (listing.Listed len count) = told len count 0
listing_info listing.NoGroup = told 0 0 (refusal_code (NoGroup []))
listing_info listing.BadPath = told 0 0 (fault_code BadPath)
listing_info (listing.TooSmall needed) = too_small needed
listing_info listing.OutOfMemory = told 0 0 0

-- a listing that holds what `tells` says is returned, and the engine stays
pub record ListedAt (tells : Machine → List ℕ → Listing → Type 0) (e : LineEngine) (out : List ℕ) (status : ℕ) (info : Info) (new : Option LineEngine) : Type 0 where
  pub answer : Listing
  pub new_is : new ≡ Some e
  pub answer_is : tells e.engine.machine out answer
  pub status_is : status ≡ listing_status answer
  pub info_is : info ≡ listing_info answer

abbrev pub ListsAt : (Machine → List ℕ → Listing → Type 0) → Option LineEngine → List ℕ → ℕ → Info → Option LineEngine → Type 0
ListsAt tells None out status info new = (status ≡ 6) × (info ≡ told 0 0 0) × (new ≡ None)
ListsAt tells (Some e) out status info new = ListedAt tells e out status info new

-- what each call lists
abbrev pub TellsChildrenOf : Result Path PathFault → Machine → List ℕ → Listing → Type 0
TellsChildrenOf path m out answer = TellsChildren m.state path out answer

abbrev pub TellsGroupsOf : Machine → List ℕ → Listing → Type 0
TellsGroupsOf m out answer = TellsGroups m.state out answer

abbrev pub TellsSubtreeOf : Result Path PathFault → Machine → List ℕ → Listing → Type 0
TellsSubtreeOf path m out answer = TellsSubtree m.state path out answer

abbrev pub TellsHistoryOf : ℕ → Machine → List ℕ → Listing → Type 0
TellsHistoryOf from m out answer = TellsHistory m.past from out answer

abbrev pub found_status : Found → ℕ
found_status found.There = 0
found_status found.NoGroup = 1
found_status found.BadPath = 2
found_status found.OutOfMemory = 4

abbrev pub found_info : Found → Info
found_info found.There = told 0 0 0
found_info found.NoGroup = told 0 0 (refusal_code (NoGroup []))
found_info found.BadPath = told 0 0 (fault_code BadPath)
found_info found.OutOfMemory = told 0 0 0

pub record FoundAt (e : LineEngine) (path : Result Path PathFault) (status : ℕ) (info : Info) (new : Option LineEngine) : Type 0 where
  pub answer : Found
  pub new_is : new ≡ Some e
  pub tells : TellsGroup e.engine.machine.state path answer
  pub status_is : status ≡ found_status answer
  pub info_is : info ≡ found_info answer

abbrev pub FindsAt : Option LineEngine → Result Path PathFault → ℕ → Info → Option LineEngine → Type 0
FindsAt None path status info new = (status ≡ 6) × (info ≡ told 0 0 0) × (new ≡ None)
FindsAt (Some e) path status info new = FoundAt e path status info new

-- ---- numbers

abbrev pub number_status : Number → ℕ
number_status (number.Told n) = 0
number_status number.NoGroup = 1
number_status number.NoFile = 1
number_status number.BadPath = 2
number_status number.OutOfMemory = 4

abbrev pub number_info : Number → Info
number_info (number.Told n) = told 0 0 0
number_info number.NoGroup = told 0 0 (refusal_code (NoGroup []))
number_info number.NoFile = told 0 0 (refusal_code NoFile)
number_info number.BadPath = told 0 0 (fault_code BadPath)
number_info number.OutOfMemory = told 0 0 0

abbrev pub number_value : Number → ℕ
number_value (number.Told n) = n
number_value number.NoGroup = 0
number_value number.NoFile = 0
number_value number.BadPath = 0
number_value number.OutOfMemory = 0

-- the number of the group at the path is returned so, and the engine stays
pub record ToldAt (e : LineEngine) (number_of : State → Path → ℕ) (path : Result Path PathFault) (status value : ℕ) (info : Info) (new : Option LineEngine) : Type 0 where
  pub answer : Number
  pub new_is : new ≡ Some e
  pub tells : TellsNumber e.engine.machine.state number_of path answer
  pub status_is : status ≡ number_status answer
  pub value_is : value ≡ number_value answer
  pub info_is : info ≡ number_info answer

abbrev pub TellsAt : Option LineEngine → (State → Path → ℕ) → Result Path PathFault → ℕ → ℕ → Info → Option LineEngine → Type 0
TellsAt None number_of path status value info new = (status ≡ 6) × (value ≡ 0) × (info ≡ told 0 0 0) × (new ≡ None)
TellsAt (Some e) number_of path status value info new = ToldAt e number_of path status value info new

-- ---- the fault of a text that is not a path

-- its number and its place; two zeros for a path
abbrev pub TellsFault : Option FaultAt → ℕ → ℕ → Type 0
TellsFault None number at = (number ≡ 0) × (at ≡ 0)
TellsFault (Some fault) number at = (number ≡ fault.number) × (at ≡ fault.at)
