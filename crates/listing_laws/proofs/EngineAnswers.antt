-- What the engine of the C library answers, line by line, list by list and number by number.
use Rattle.std.proofs.Common.{◌≡◌, ◌≤◌, ◌<◌, ◌⊎◌, ◌↔◌, inl, inr, ℕ, Bool, true, false, cond, ltb, List, [], map, Option, Some, Ok, length, take, length-take, refl, sym, ap, ◌∙◌, arith}
use Rattle.std.specs.Prelude.{unwrap_or}
use Rattle.std.proofs.lemmas.Bool.Decides.{nat_tests}
use Rattle.std.specs.FinMap.{get}
use Rattle.flat_model.specs.Path.{Path, is_root}
use Rattle.flat_model.specs.State.{Attr, Limit, State, fresh}
use Rattle.flat_model.specs.Counts.{IsInhabited, children, current, is_group, populated}
use Rattle.flat_model.specs.File.{LimitOf, PidsMax}
use Rattle.flat_model.specs.FileText.{file_text, limit_text, line}
use Rattle.flat_model.specs.Command.{Command}
use Rattle.flat_model.specs.Machine.{tick}
use Rattle.flat_model.specs.Replies.{fault_bytes, reply_bytes}
use Rattle.flat_model.specs.Trace.{Fault, Line, Run, Skip}
use Rattle.flat_model.proofs.GroupCounts.{populated_is}
use Rattle.undo_journal.specs.Slots.{slots}
use Rattle.undo_journal.specs.Timeline.{Timeline}
use Rattle.line_engine.specs.Buffer.{Holds, LacksRoom}
use Rattle.line_engine.specs.LineAnswers.{AnswersLine}
use Rattle.group_tree.specs.ChildNames.{last_name}
use Rattle.line_engine.specs.Listings.{TellsChildren, TellsGroup, TellsGroups, TellsSubtree, all_groups, names_bytes, names_below, paths_bytes, subtree}
use Rattle.line_engine.specs.Numbers.{TellsNumber, limit_number, pids_limit, populated_number}
use Rattle.line_engine.specs.declared.answer.Answer.TheVariants as answer
use Rattle.line_engine.specs.declared.listing.Found.{Found}
use Rattle.line_engine.specs.declared.listing.Found.TheVariants as found
use Rattle.line_engine.specs.declared.listing.Listing.{Listing}
use Rattle.line_engine.specs.declared.listing.Listing.TheVariants as listing
use Rattle.line_engine.specs.declared.numbers.Number.{Number}
use Rattle.line_engine.specs.declared.numbers.Number.TheVariants as number

-- ---- buffers

-- the bytes that a buffer holds fit into it
held_fits : (out : List ℕ) (len : ℕ) (bytes : List ℕ) → Holds out len bytes → len ≤ length out
held_fits out len bytes h = omega (arith, length-take len out, ap length h.1, h.0)

not_both : (out : List ℕ) (len needed : ℕ) (bytes : List ℕ) → Holds out len bytes → LacksRoom out needed bytes → ⊥
not_both out len needed bytes h l = omega (arith, held_fits out len bytes h, h.0, l.0, l.1)

-- ---- lines

pub fits : (t u : Timeline) (n len code : ℕ) (l : Line) (out : List ℕ) → AnswersLine t n l out (answer.Answered len code) u → len ≤ length out
fits t u n len code Skip out h = let no = h.1 in cc
fits t u n len code (Fault f) out h = held_fits out len (fault_bytes n f) h.1.0
fits t u n len code (Run c) out h = held_fits out len (reply_bytes n (tick slots t.machine c).1) h.answered

pub lacks : (t u : Timeline) (n needed : ℕ) (l : Line) (out : List ℕ) → AnswersLine t n l out (answer.TooSmall needed) u → (length out < needed) × (u ≡ t)
lacks t u n needed Skip out h = let no = h.1 in cc
lacks t u n needed (Fault f) out h = (h.1.1, h.0)
lacks t u n needed (Run c) out h = (h.1.1, h.0)

pub one_answer : (t u v : Timeline) (n len code needed : ℕ) (l : Line) (out : List ℕ)
    → AnswersLine t n l out (answer.Answered len code) u → AnswersLine t n l out (answer.TooSmall needed) v → ⊥
one_answer t u v n len code needed Skip out h i = let no = h.1 in cc
one_answer t u v n len code needed (Fault f) out h i = not_both out len needed (fault_bytes n f) h.1.0 i.1
one_answer t u v n len code needed (Run c) out h i = not_both out len needed (reply_bytes n (tick slots t.machine c).1) h.answered i.1

pub ran : (t u : Timeline) (n len code : ℕ) (c : Command) (out : List ℕ) → AnswersLine t n (Run c) out (answer.Answered len code) u
    → (u.machine ≡ (tick slots t.machine c).0) × (take len out ≡ reply_bytes n (tick slots t.machine c).1)
ran t u n len code c out h = (ap (λ (x : Timeline). x.machine) h.goes, h.answered.1)

pub unchanged : (t u : Timeline) (n : ℕ) (l : Line) (out : List ℕ) → AnswersLine t n l out answer.OutOfMemory u → u ≡ t
unchanged t u n Skip out h = h.0
unchanged t u n (Fault f) out h = h.0
unchanged t u n (Run c) out h = h

-- ---- lists

-- what is listed, if these are the bytes and that is how many there are
pub listed_are : (out : List ℕ) (len count many n : ℕ) (bytes is : List ℕ) → bytes ≡ is → many ≡ n
    → (Holds out len bytes × (count ≡ many)) ↔ ((len ≡ length is) × (take len out ≡ is) × (count ≡ n))
listed_are out len count many n bytes is e m = (
  λ h. (h.0.0 ∙ ap length e, h.0.1 ∙ e, h.1 ∙ m),
  λ h. ((h.0 ∙ sym (ap length e), h.1 ∙ sym e), h.2 ∙ sym m),
)

pub lacking_is : (out : List ℕ) (needed : ℕ) (bytes is : List ℕ) → bytes ≡ is → LacksRoom out needed bytes ↔ ((needed ≡ length is) × (length out < length is))
lacking_is out needed bytes is e =
    let same : length bytes ≡ length is = ap length e in
    (λ h. (h.0 ∙ same, omega (arith, h.0, h.1, same)), λ h. (h.0 ∙ sym same, omega (arith, h.0, h.1, same)))

pub children_listed : (s : State) (p : Path) (out : List ℕ) (len count : ℕ) (cs : List Path) (bytes : List ℕ) → names_bytes (map last_name cs) ≡ bytes
    → is_group s p ≡ true → children s p ≡ cs
    → TellsChildren s (Ok p) out (listing.Listed len count) ↔ ((len ≡ length bytes) × (take len out ≡ bytes) × (count ≡ length cs))
children_listed s p out len count cs bytes b g e =
    let h = listed_are out len count (length (children s p)) (length cs) (names_bytes (names_below s p)) bytes
    (ap (λ (ps : List Path). names_bytes (map last_name ps)) e ∙ b) (ap length e) in
    (λ t. h.0 (t.1, t.2), λ t. let x = h.1 t in (g, x.0, x.1))

pub subtree_listed : (s : State) (p : Path) (out : List ℕ) (len count : ℕ) (ps : List Path) (bytes : List ℕ) → paths_bytes ps ≡ bytes
    → is_group s p ≡ true → subtree s p ≡ ps
    → TellsSubtree s (Ok p) out (listing.Listed len count) ↔ ((len ≡ length bytes) × (take len out ≡ bytes) × (count ≡ length ps))
subtree_listed s p out len count ps bytes b g e =
    let h = listed_are out len count (length (subtree s p)) (length ps) (paths_bytes (subtree s p)) bytes (ap paths_bytes e ∙ b) (ap length e) in
    (λ t. h.0 (t.1, t.2), λ t. let x = h.1 t in (g, x.0, x.1))

pub groups_listed : (s : State) (out : List ℕ) (len count : ℕ) (ps : List Path) (bytes : List ℕ) → paths_bytes ps ≡ bytes → all_groups s ≡ ps
    → TellsGroups s out (listing.Listed len count) ↔ ((len ≡ length bytes) × (take len out ≡ bytes) × (count ≡ length ps))
groups_listed s out len count ps bytes b e =
    listed_are out len count (length (all_groups s)) (length ps) (paths_bytes (all_groups s)) bytes (ap paths_bytes e ∙ b) (ap length e)

pub no_children : (s : State) (p : Path) (out : List ℕ) (a : Listing) → is_group s p ≡ false
    → TellsChildren s (Ok p) out a ↔ ((a ≡ listing.NoGroup) ⊎ (a ≡ listing.OutOfMemory))
no_children s p out (listing.Listed len count) g = (λ h. (let some = h.0 in cc), λ h. elim h [ inl e ↦ cc | inr e ↦ cc ])
no_children s p out listing.NoGroup g = (λ h. inl refl, λ h. g)
no_children s p out listing.BadPath g = (λ h. absurd h, λ h. elim h [ inl e ↦ cc | inr e ↦ cc ])
no_children s p out (listing.TooSmall needed) g = (λ h. (let some = h.0 in cc), λ h. elim h [ inl e ↦ cc | inr e ↦ cc ])
no_children s p out listing.OutOfMemory g = (λ h. inr refl, λ h. tt)

pub no_subtree : (s : State) (p : Path) (out : List ℕ) (a : Listing) → is_group s p ≡ false
    → TellsSubtree s (Ok p) out a ↔ ((a ≡ listing.NoGroup) ⊎ (a ≡ listing.OutOfMemory))
no_subtree s p out (listing.Listed len count) g = (λ h. (let some = h.0 in cc), λ h. elim h [ inl e ↦ cc | inr e ↦ cc ])
no_subtree s p out listing.NoGroup g = (λ h. inl refl, λ h. g)
no_subtree s p out listing.BadPath g = (λ h. absurd h, λ h. elim h [ inl e ↦ cc | inr e ↦ cc ])
no_subtree s p out (listing.TooSmall needed) g = (λ h. (let some = h.0 in cc), λ h. elim h [ inl e ↦ cc | inr e ↦ cc ])
no_subtree s p out listing.OutOfMemory g = (λ h. inr refl, λ h. tt)

-- ---- groups

pub found_is : (s : State) (p : Path) (a : Found) → is_group s p ≡ true → TellsGroup s (Ok p) a ↔ ((a ≡ found.There) ⊎ (a ≡ found.OutOfMemory))
found_is s p found.There g = (λ h. inl refl, λ h. g)
found_is s p found.NoGroup g = (λ h. cc, λ h. elim h [ inl e ↦ cc | inr e ↦ cc ])
found_is s p found.BadPath g = (λ h. absurd h, λ h. elim h [ inl e ↦ cc | inr e ↦ cc ])
found_is s p found.OutOfMemory g = (λ h. inr refl, λ h. tt)

pub absent_is : (s : State) (p : Path) (a : Found) → is_group s p ≡ false → TellsGroup s (Ok p) a ↔ ((a ≡ found.NoGroup) ⊎ (a ≡ found.OutOfMemory))
absent_is s p found.There g = (λ h. cc, λ h. elim h [ inl e ↦ cc | inr e ↦ cc ])
absent_is s p found.NoGroup g = (λ h. inl refl, λ h. g)
absent_is s p found.BadPath g = (λ h. absurd h, λ h. elim h [ inl e ↦ cc | inr e ↦ cc ])
absent_is s p found.OutOfMemory g = (λ h. inr refl, λ h. tt)

-- ---- numbers

pub limit_is : (s : State) (p : Path) (a : Attr) (l : Limit) → get s.groups p ≡ Some a → a.limits.pids ≡ l
    → (pids_limit s p ≡ limit_number l) × (file_text s p (LimitOf PidsMax) ≡ line (limit_text l))
limit_is s p a l e h = (
  ap (λ (o : Option Attr). limit_number (unwrap_or o fresh).limits.pids) e ∙ ap limit_number h,
  ap (λ (o : Option Attr). line (limit_text (unwrap_or o fresh).limits.pids)) e ∙ ap (λ (m : Limit). line (limit_text m)) h,
)

abbrev flag : Bool → ℕ
flag b = cond b 1 0

one_is : (b : Bool) → (flag b ≡ 1) ↔ (b ≡ true)
one_is true = (λ _. refl, λ _. refl)
one_is false = (λ e. absurd (omega (arith, e)), λ e. cc)

pub populated_by : (s : State) (p : Path) → (populated_number s p ≡ 1) ↔ IsInhabited s p
populated_by s p = (λ e. (populated_is s p).0 ((one_is (populated s p)).0 e), λ i. (one_is (populated s p)).1 ((populated_is s p).1 i))

zero_is : (n : ℕ) → (flag (ltb 0 n) ≡ 0) ↔ (n ≡ 0)
zero_is n =
    elim (ltb 0 n) as (λ b. ltb 0 n ≡ b → (flag b ≡ 0) ↔ (n ≡ 0)) [
      | true ↦ λ t. (λ e. absurd (omega (arith, e)), λ z. grind (arith, nat_tests))
      | false ↦ λ t. (λ _. grind (arith, nat_tests), λ _. refl)
    ] refl

pub empty_by : (s : State) (p : Path) → (populated_number s p ≡ 0) ↔ (current s p ≡ 0)
empty_by s p = zero_is (current s p)

told_back : (m n : ℕ) → number.Told m ≡ number.Told n → m ≡ n
told_back m n e = let same : m ≡ n = cc in same

pub told_is : (s : State) (of : State → Path → ℕ) (p : Path) (a : Number) → is_root p ≡ false → is_group s p ≡ true
    → TellsNumber s of (Ok p) a ↔ ((a ≡ number.Told (of s p)) ⊎ (a ≡ number.OutOfMemory))
told_is s of p (number.Told m) r g = (λ h. inl (ap number.Told h.2), λ h. elim h [ inl e ↦ (r, g, told_back m (of s p) e) | inr e ↦ cc ])
told_is s of p number.NoGroup r g = (λ h. cc, λ h. elim h [ inl e ↦ cc | inr e ↦ cc ])
told_is s of p number.NoFile r g = (λ h. cc, λ h. elim h [ inl e ↦ cc | inr e ↦ cc ])
told_is s of p number.BadPath r g = (λ h. absurd h, λ h. elim h [ inl e ↦ cc | inr e ↦ cc ])
told_is s of p number.OutOfMemory r g = (λ h. inr refl, λ h. tt)

pub untold_is : (s : State) (of : State → Path → ℕ) (p : Path) (a : Number) → is_root p ≡ false → is_group s p ≡ false
    → TellsNumber s of (Ok p) a ↔ ((a ≡ number.NoGroup) ⊎ (a ≡ number.OutOfMemory))
untold_is s of p (number.Told m) r g = (λ h. (let some = h.1 in cc), λ h. elim h [ inl e ↦ cc | inr e ↦ cc ])
untold_is s of p number.NoGroup r g = (λ h. inl refl, λ h. g)
untold_is s of p number.NoFile r g = (λ h. cc, λ h. elim h [ inl e ↦ cc | inr e ↦ cc ])
untold_is s of p number.BadPath r g = (λ h. absurd h, λ h. elim h [ inl e ↦ cc | inr e ↦ cc ])
untold_is s of p number.OutOfMemory r g = (λ h. inr refl, λ h. tt)

pub root_is : (s : State) (of : State → Path → ℕ) (a : Number) → is_group s [] ≡ true
    → TellsNumber s of (Ok []) a ↔ ((a ≡ number.NoFile) ⊎ (a ≡ number.OutOfMemory))
root_is s of (number.Told m) g = (λ h. (let no = h.0 in cc), λ h. elim h [ inl e ↦ cc | inr e ↦ cc ])
root_is s of number.NoGroup g = (λ h. cc, λ h. elim h [ inl e ↦ cc | inr e ↦ cc ])
root_is s of number.NoFile g = (λ h. inl refl, λ h. refl)
root_is s of number.BadPath g = (λ h. absurd h, λ h. elim h [ inl e ↦ cc | inr e ↦ cc ])
root_is s of number.OutOfMemory g = (λ h. inr refl, λ h. tt)
