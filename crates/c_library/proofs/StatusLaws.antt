-- What the statuses of the calls mean.
use Rattle.std.proofs.Common.{◌≡◌, ◌≢◌, ◌⊎◌, inl, inr, ◌<◌, ℕ, Bool, true, false, cond, List, [], Option, Some, None, length, take, refl, sym, ap, subst, ◌∙◌, arith}
use Rattle.std.specs.Prelude.{nat_eq, nat_lt}
use Rattle.std.proofs.lemmas.Option.{same_Some}
use Rattle.flat_model.specs.Command.{Command, Reply}
use Rattle.flat_model.specs.Counts.{is_group}
use Rattle.flat_model.specs.Machine.{new_machine, tick}
use Rattle.flat_model.specs.Path.{Path, is_root}
use Rattle.flat_model.specs.Replies.{fault_bytes, reply_bytes}
use Rattle.flat_model.specs.State.{State}
use Rattle.flat_model.specs.Trace.{Line, TextFault, BadSyntax}
use Rattle.undo_journal.specs.Slots.{slots}
use Rattle.undo_journal.specs.Timeline.{Timeline, from_start}
use Rattle.line_engine.specs.Buffer.{Holds}
use Rattle.line_engine.specs.FaultCodes.{fault_code, reply_code}
use Rattle.line_engine.specs.LineAnswers.{AnswersFault, AnswersRun}
use Rattle.line_engine.specs.Listings.{TellsAll, TellsChildrenAt, TellsGroupAt, TellsSubtreeAt}
use Rattle.line_engine.specs.Numbers.{TellsNumberAt}
use Rattle.line_engine.specs.declared.answer.Answer.{Answer}
use Rattle.line_engine.specs.declared.answer.Answer.TheVariants.{Answered, OutOfMemory, Skipped, TooSmall}
use Rattle.line_engine.specs.declared.engine.LineEngine.{LineEngine}
use Rattle.line_engine.specs.declared.listing.Found.{Found}
use Rattle.line_engine.specs.declared.listing.Found.TheVariants as found
use Rattle.line_engine.specs.declared.listing.Listing.{Listing}
use Rattle.line_engine.specs.declared.listing.Listing.TheVariants as listing
use Rattle.line_engine.specs.declared.numbers.Number.{Number}
use Rattle.line_engine.specs.declared.numbers.Number.TheVariants as number
use Rattle.c_library.specs.Status.{AnswersAt, ClosesHandle, CopiesAt, DepthAt, ForgetsAt, IsOpened}
use Rattle.c_library.specs.Status.{found_status, info_of, listing_info, listing_status, number_info, number_status, number_value, status_of, told, too_small}
use Rattle.c_library.specs.declared.info.Info.{Info}

-- ---- lines

-- the status of a code, by the two tests of it
abbrev status_by : Bool → Bool → ℕ
status_by a b = cond a 0 (cond b 1 2)

below_three : (a b : Bool) → status_by a b < 3
below_three true b = omega arith
below_three false true = omega arith
below_three false false = omega arith

not_six : (a : Answer) → status_of a ≡ 6 → ⊥
not_six Skipped e = omega (arith, e)
not_six (Answered len code) e = omega (arith, e, below_three (nat_eq code 0) (nat_lt code (fault_code BadSyntax)))
not_six (TooSmall needed) e = omega (arith, e)
not_six OutOfMemory e = omega (arith, e)

pub held_is : (e : LineEngine) (n status : ℕ) (line : Line) (out : List ℕ) (info : Info) (new : Option LineEngine) → AnswersAt (Some e) n line out status info new → status ≢ 6
held_is e n status line out info new h s = not_six h.answer (sym h.status_is ∙ s)

-- an answer's bytes and code
told_bytes : (out bytes is : List ℕ) (len code c : ℕ) (info : Info) → bytes ≡ is → Holds out len bytes → code ≡ c → info ≡ told len 0 code
    → (info ≡ told (length is) 0 c) × (take (length is) out ≡ is)
told_bytes out bytes is len code c info e h k i =
    let l : len ≡ length is = h.0 ∙ ap length e in
    (i ∙ (λ j. told (l j) 0 (k j)), ap (λ (m : ℕ). take m out) (sym l) ∙ h.1 ∙ e)

pub fault_by_two : (n : ℕ) (f : TextFault) (out is : List ℕ) (a : Answer) (info : Info) → fault_bytes n f ≡ is → AnswersFault n f out a → 2 ≡ status_of a → info ≡ info_of a
    → (info ≡ told (length is) 0 (fault_code f)) × (take (length is) out ≡ is)
fault_by_two n f out is Skipped info e h s i = absurd h
fault_by_two n f out is (Answered len code) info e h s i = told_bytes out (fault_bytes n f) is len code (fault_code f) info e h.0 h.1 i
fault_by_two n f out is (TooSmall needed) info e h s i = absurd (omega (arith, s))
fault_by_two n f out is OutOfMemory info e h s i = absurd (omega (arith, s))

pub fault_by_three : (n : ℕ) (f : TextFault) (out is : List ℕ) (a : Answer) (info : Info) → fault_bytes n f ≡ is → AnswersFault n f out a → 3 ≡ status_of a → info ≡ info_of a
    → (info ≡ too_small (length is)) × (length out < length is)
fault_by_three n f out is Skipped info e h s i = absurd h
fault_by_three n f out is (Answered len code) info e h s i = absurd (omega (arith, s, below_three (nat_eq code 0) (nat_lt code (fault_code BadSyntax))))
fault_by_three n f out is (TooSmall needed) info e h s i =
    let l : needed ≡ length is = h.0 ∙ ap length e in (i ∙ ap too_small l, omega (arith, h.1, l))
fault_by_three n f out is OutOfMemory info e h s i = absurd (omega (arith, s))

pub run_by_one : (t next : Timeline) (n : ℕ) (c : Command) (r : Reply) (out is : List ℕ) (a : Answer) (info : Info) → (tick slots t.machine c).1 ≡ r → reply_bytes n r ≡ is
    → AnswersRun t n c out a next → 1 ≡ status_of a → info ≡ info_of a → (info ≡ told (length is) 0 (reply_code r)) × (take (length is) out ≡ is)
run_by_one t next n c r out is Skipped info e b h s i = absurd h
run_by_one t next n c r out is (Answered len code) info e b h s i =
    told_bytes out (reply_bytes n (tick slots t.machine c).1) is len code (reply_code r) info (ap (reply_bytes n) e ∙ b) h.answered (h.code_is ∙ ap reply_code e) i
run_by_one t next n c r out is (TooSmall needed) info e b h s i = absurd (omega (arith, s))
run_by_one t next n c r out is OutOfMemory info e b h s i = absurd (omega (arith, s))

-- ---- handles

-- the engine with this timeline, in a handle
abbrev pub in_handle : Timeline → Option LineEngine
in_handle t = Some (record { engine = t })

pub opened_is : (new : Option LineEngine) → IsOpened None 0 new → (e : LineEngine) × (new ≡ Some e) × (e.engine ≡ from_start new_machine)
opened_is None h = absurd (omega (arith, h))
opened_is (Some e) h = (e, refl, h.1)

pub unopened_is : (new : Option LineEngine) → IsOpened None 4 new → new ≡ None
unopened_is None h = refl
unopened_is (Some e) h = absurd (omega (arith, h.0))

pub opens_by : (status : ℕ) (new : Option LineEngine) → IsOpened None status new → (status ≡ 0) ⊎ (status ≡ 4)
opens_by status None h = inr h
opens_by status (Some e) h = inl h.0

pub closed_is : (h : Option LineEngine) (status : ℕ) (new : Option LineEngine) → ClosesHandle h status new → new ≡ None
closed_is None status new c = c.1
closed_is (Some e) status new c = c.1

pub closed_twice : (h : Option LineEngine) (s t : ℕ) (new again : Option LineEngine) → ClosesHandle h s new → ClosesHandle new t again → t ≡ 6
closed_twice h s t new again a b = (subst (λ (x : Option LineEngine). ClosesHandle x t again) (closed_is h s new a) b).0

pub forgotten_depth : (e : LineEngine) (s t depth : ℕ) (new again : Option LineEngine) → ForgetsAt (Some e) s new → DepthAt new t depth again → (s ≡ 0) × (t ≡ 0) × (depth ≡ 0)
forgotten_depth e s t depth new again f d =
    let x = subst (λ (h : Option LineEngine). DepthAt h t depth again) f.1 d in (f.0, x.0, x.1)

pub kept_state : (e f : LineEngine) (s : ℕ) → ForgetsAt (Some e) s (Some f) → f.engine.machine.state ≡ e.engine.machine.state
kept_state e f s h = ap (λ (x : LineEngine). x.engine.machine.state) (same_Some f _ h.1)

pub source_is : (h to new new_to : Option LineEngine) (s : ℕ) → CopiesAt h to s new new_to → new ≡ h
source_is None to new new_to s c = c.1
source_is (Some e) (Some held) new new_to s c = c.1
source_is (Some e) None new None s c = c.1
source_is (Some e) None new (Some copy) s c = c.1

pub taken_is : (h new new_to : Option LineEngine) (held : LineEngine) (s : ℕ) → CopiesAt h (Some held) s new new_to → (s ≡ 6) × (new_to ≡ Some held)
taken_is None new new_to held s c = (c.0, c.2)
taken_is (Some e) new new_to held s c = (c.0, c.2)

pub copied_is : (e : LineEngine) (new new_to : Option LineEngine) → CopiesAt (Some e) None 0 new new_to → (c : LineEngine) × (new_to ≡ Some c) × (c.engine ≡ e.engine)
copied_is e new None c = absurd (omega (arith, c.0))
copied_is e new (Some copy) c = (copy, refl, c.2)

pub uncopied_is : (e : LineEngine) (new new_to : Option LineEngine) → CopiesAt (Some e) None 4 new new_to → new_to ≡ None
uncopied_is e new None c = refl
uncopied_is e new (Some copy) c = absurd (omega (arith, c.0))

-- ---- lists

pub all_by_zero : (out bytes is : List ℕ) (many n : ℕ) (a : Listing) (info : Info) → bytes ≡ is → many ≡ n → TellsAll bytes many out a → 0 ≡ listing_status a → info ≡ listing_info a
    → (info ≡ told (length is) n 0) × (take (length is) out ≡ is)
all_by_zero out bytes is many n (listing.Listed len count) info e m h s i =
    let l : len ≡ length is = h.0.0 ∙ ap length e in
    let c : count ≡ n = h.1 ∙ m in
    (i ∙ (λ j. told (l j) (c j) 0), ap (λ (k : ℕ). take k out) (sym l) ∙ h.0.1 ∙ e)
all_by_zero out bytes is many n listing.NoGroup info e m h s i = absurd h
all_by_zero out bytes is many n listing.BadPath info e m h s i = absurd h
all_by_zero out bytes is many n (listing.TooSmall needed) info e m h s i = absurd (omega (arith, s))
all_by_zero out bytes is many n listing.OutOfMemory info e m h s i = absurd (omega (arith, s))

pub no_children : (s : State) (p : Path) (out : List ℕ) (a : Listing) (status : ℕ) (info : Info) → is_group s p ≡ false → TellsChildrenAt s p out a
    → status ≡ listing_status a → info ≡ listing_info a → ((status ≡ 1) × (info ≡ told 0 0 2)) ⊎ (status ≡ 4)
no_children s p out (listing.Listed len count) status info g h e i = let some = h.0 in cc
no_children s p out listing.NoGroup status info g h e i = inl (e, i)
no_children s p out listing.BadPath status info g h e i = absurd h
no_children s p out (listing.TooSmall needed) status info g h e i = let some = h.0 in cc
no_children s p out listing.OutOfMemory status info g h e i = inr e

pub no_subtree : (s : State) (p : Path) (out : List ℕ) (a : Listing) (status : ℕ) (info : Info) → is_group s p ≡ false → TellsSubtreeAt s p out a
    → status ≡ listing_status a → info ≡ listing_info a → ((status ≡ 1) × (info ≡ told 0 0 2)) ⊎ (status ≡ 4)
no_subtree s p out (listing.Listed len count) status info g h e i = let some = h.0 in cc
no_subtree s p out listing.NoGroup status info g h e i = inl (e, i)
no_subtree s p out listing.BadPath status info g h e i = absurd h
no_subtree s p out (listing.TooSmall needed) status info g h e i = let some = h.0 in cc
no_subtree s p out listing.OutOfMemory status info g h e i = inr e

-- ---- groups and numbers

pub there_by : (s : State) (p : Path) (a : Found) (status : ℕ) → is_group s p ≡ true → TellsGroupAt s p a → status ≡ found_status a → (status ≡ 0) ⊎ (status ≡ 4)
there_by s p found.There status g h e = inl e
there_by s p found.NoGroup status g h e = cc
there_by s p found.BadPath status g h e = absurd h
there_by s p found.OutOfMemory status g h e = inr e

pub absent_by : (s : State) (p : Path) (a : Found) (status : ℕ) → is_group s p ≡ false → TellsGroupAt s p a → status ≡ found_status a → (status ≡ 1) ⊎ (status ≡ 4)
absent_by s p found.There status g h e = cc
absent_by s p found.NoGroup status g h e = inl e
absent_by s p found.BadPath status g h e = absurd h
absent_by s p found.OutOfMemory status g h e = inr e

pub told_by_zero : (s : State) (p : Path) (n value : ℕ) (a : Number) → TellsNumberAt s p n a → 0 ≡ number_status a → value ≡ number_value a → (value ≡ n) × (is_root p ≡ false)
told_by_zero s p n value (number.Told m) h e v = (v ∙ h.2, h.0)
told_by_zero s p n value number.NoGroup h e v = absurd (omega (arith, e))
told_by_zero s p n value number.NoFile h e v = absurd (omega (arith, e))
told_by_zero s p n value number.BadPath h e v = absurd h
told_by_zero s p n value number.OutOfMemory h e v = absurd (omega (arith, e))

pub root_by_one : (s : State) (n value : ℕ) (a : Number) (info : Info) → is_group s [] ≡ true → TellsNumberAt s [] n a → 1 ≡ number_status a → value ≡ number_value a → info ≡ number_info a
    → (value ≡ 0) × (info ≡ told 0 0 12)
root_by_one s n value (number.Told m) info g h e v i = absurd (omega (arith, e))
root_by_one s n value number.NoGroup info g h e v i = cc
root_by_one s n value number.NoFile info g h e v i = (v, i)
root_by_one s n value number.BadPath info g h e v i = absurd h
root_by_one s n value number.OutOfMemory info g h e v i = absurd (omega (arith, e))
