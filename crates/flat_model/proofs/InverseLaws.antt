-- Each recorded command, taken back by its record, leaves the state as it was.
use Rattle.std.proofs.Common.{◌≡◌, ℕ, ◌+◌, ◌-◌, false, cond, not, [], Option, Some, None, refl, sym, ap, ◌∙◌, arith}
use Rattle.std.specs.Prelude.{unwrap_or, is_some}
use Rattle.std.specs.Ordering.{nat_cmp}
use Rattle.std.specs.Cmp.{nat_cmp_total}
use Rattle.std.specs.FinMap.{FinMap, get, insert, nat_cmp-IsAntisymmetric}
use Rattle.flat_model.specs.Path.{Path, path_cmp, same_path}
use Rattle.flat_model.specs.State.{State, Attr, Limit, fresh}
use Rattle.flat_model.specs.File.{LimitFile, PidsMax, MaxDescendants, MaxDepth}
use Rattle.flat_model.specs.Command.{Command, MakeGroup, RemoveGroup, Fork, Exit, Move, SetLimit, Kill, Show, Locate, Undo, Refusal, Exists}
use Rattle.flat_model.specs.Command.{NoGroup, Descendants, Depth, NoSlot, RootFixed, HasChildren, HasProcesses, NoProcess, PidInUse}
use Rattle.flat_model.specs.Command.{OverPidsMax, NoFile, NotReadable, changes, is_counted}
use Rattle.flat_model.specs.Step.{refusal, after, after_refusal, count_up, count_down, with_limit, limit_at, attr_of, home_of, lives_in, counts_for, raise_peaks, peaks_upward, set_peaks}
use Rattle.flat_model.specs.Inverse.{Inverse, Made, Removed, Forked, Exited, Moved, Limited, Counted, Killed, back, inverse, inverse_of_refusal, lost}
use Rattle.flat_model.proofs.PathLaws.{path_cmp-IsTotalOrder, path_cmp-IsAntisymmetric}
use Rattle.flat_model.proofs.Maps.{remove_insert, insert_remove, insert_insert, each_back, place_lost, get-own}
use Rattle.flat_model.proofs.Peaks as peaks
use Rattle.flat_model.proofs.RefusalTests.{passed, beyond}
use Rattle.flat_model.proofs.Options.{not_some_is_none}

there : {X : Type 0} (o : Option X) (d : X) → not (is_some o) ≡ false → o ≡ Some (unwrap_or o d)
there None d e = cc
there (Some x) d e = refl

counted_back : (a p : Path) (attr : Attr) → count_down a p (count_up a p attr) ≡ attr
counted_back a p attr =
    let local : (attr.local + cond (same_path p a) 1 0) - cond (same_path p a) 1 0 ≡ attr.local = omega arith in
    let total : (attr.total + cond (counts_for a p) 1 0) - cond (counts_for a p) 1 0 ≡ attr.total = omega arith in
    λ i. record attr { local = local i; total = total i }

limit_back : (file : LimitFile) (value : Limit) (attr : Attr) → with_limit file (limit_at file attr) (with_limit file value attr) ≡ attr
limit_back PidsMax value attr = refl
limit_back MaxDescendants value attr = refl
limit_back MaxDepth value attr = refl

-- the record that was made is the one that takes back
by_record : (x i : Inverse) (s t : State) → Some x ≡ Some i → back x t ≡ s → back i t ≡ s
by_record x i s t is h = ap (λ o. back (unwrap_or o x) t) (sym is) ∙ h

back_counted : (s : State) (a : Path) → back (Counted a) (after_refusal s (OverPidsMax a)) ≡ s
back_counted s a = ap (λ (g : FinMap path_cmp Attr). record s { groups = g }) (each_back path_cmp-IsTotalOrder path_cmp-IsAntisymmetric (count_up a) (count_down a) (counted_back a) s.groups)

limited_back : (s : State) (p : Path) (file : LimitFile) (value : Limit) (a : Attr) → get s.groups p ≡ Some a →
    insert (insert s.groups p (with_limit file value a)) p (with_limit file (limit_at file a) (with_limit file value a)) ≡ s.groups
limited_back s p file value a e =
    ap (insert (insert s.groups p (with_limit file value a)) p) (limit_back file value a)
    ∙ insert_insert path_cmp-IsTotalOrder path_cmp-IsAntisymmetric s.groups p a (with_limit file value a) e

-- the groups, or the homes, as they were
groups_back : (s : State) (g : FinMap path_cmp Attr) → g ≡ s.groups → record s { groups = g } ≡ s
groups_back s g e = ap (λ (x : FinMap path_cmp Attr). record s { groups = x }) e

homes_back : (s : State) (h : FinMap nat_cmp Path) → h ≡ s.home → record s { home = h } ≡ s
homes_back s h e = ap (λ (x : FinMap nat_cmp Path). record s { home = x }) e

-- a process that came to a group, taken away again, with the peaks that were there
come_back : (s : State) (pid : ℕ) (a : Path) (h : FinMap nat_cmp Path) → h ≡ s.home →
    set_peaks (home_of (raise_peaks a (record s { home = insert s.home pid a })) pid) (peaks_upward s a) (record (raise_peaks a (record s { home = insert s.home pid a })) { home = h }) ≡ s
come_back s pid a h was =
    ap (λ (o : Option Path). set_peaks (unwrap_or o []) (peaks_upward s a) (record (raise_peaks a (record s { home = insert s.home pid a })) { home = h }))
    (get-own nat_cmp_total nat_cmp-IsAntisymmetric s.home pid a)
    ∙ (λ i. record { groups = peaks.groups_back s (record s { home = insert s.home pid a }) a refl i; home = was i })

-- an accepted command, taken back by its record
pub back_accepted : (slots : ℕ) (s : State) (c : Command) (i : Inverse) → refusal slots s c ≡ None → inverse s c ≡ Some i → back i (after s c) ≡ s
back_accepted slots s (MakeGroup p) i e is = by_record (Made p) i s _ is
    (groups_back s _ (remove_insert path_cmp-IsTotalOrder path_cmp-IsAntisymmetric s.groups p fresh (not_some_is_none _ (passed _ _ _ e))))
back_accepted slots s (RemoveGroup p) i e is = by_record (Removed p (attr_of s p)) i s _ is
    (groups_back s _ (insert_remove path_cmp-IsTotalOrder path_cmp-IsAntisymmetric s.groups p (attr_of s p) (there _ _ (passed _ _ _ (beyond _ _ _ e)))))
back_accepted slots s (Fork from child) i e is = by_record (Forked child (peaks_upward s (home_of s from))) i s _ is
    (come_back s child (home_of s from) _ (remove_insert nat_cmp_total nat_cmp-IsAntisymmetric s.home child (home_of s from) (not_some_is_none _ (passed _ _ _ (beyond _ _ _ e)))))
back_accepted slots s (Exit pid) i e is = by_record (Exited pid (home_of s pid)) i s _ is
    (homes_back s _ (insert_remove nat_cmp_total nat_cmp-IsAntisymmetric s.home pid (home_of s pid) (there _ _ (passed _ _ _ e))))
back_accepted slots s (Move p pid) i e is = by_record (Moved pid (home_of s pid) (peaks_upward s p)) i s _ is
    (come_back s pid p _ (insert_insert nat_cmp_total nat_cmp-IsAntisymmetric s.home pid (home_of s pid) p (there _ _ (passed _ _ _ (beyond _ _ _ e)))))
back_accepted slots s (SetLimit p file value) i e is = by_record (Limited p file (limit_at file (attr_of s p))) i s _ is
    (let there_is : get s.groups p ≡ Some (attr_of s p) = there _ _ (passed _ _ _ (beyond _ _ _ e)) in
    groups_back s _
    (ap (λ a. insert (after s (SetLimit p file value)).groups p (with_limit file (limit_at file (attr_of s p)) (unwrap_or a fresh)))
    (get-own path_cmp-IsTotalOrder path_cmp-IsAntisymmetric s.groups p (with_limit file value (attr_of s p)))
    ∙ limited_back s p file value (attr_of s p) there_is))
back_accepted slots s (Kill g) i e is = by_record (Killed (lost s g)) i s _ is (homes_back s _ (place_lost (lives_in s g) s.home))
back_accepted slots s (Show p file) i e is = cc
back_accepted slots s (Locate pid) i e is = cc
back_accepted slots s Undo i e is = cc

-- a counted fork, taken back by its record
pub back_refused : (s : State) (r : Refusal) (i : Inverse) → inverse_of_refusal r ≡ Some i → back i (after_refusal s r) ≡ s
back_refused s (OverPidsMax a) i is = by_record (Counted a) i s _ is (back_counted s a)
back_refused s Exists i is = cc
back_refused s (NoGroup p) i is = cc
back_refused s (Descendants p) i is = cc
back_refused s (Depth p) i is = cc
back_refused s NoSlot i is = cc
back_refused s RootFixed i is = cc
back_refused s HasChildren i is = cc
back_refused s HasProcesses i is = cc
back_refused s (NoProcess p) i is = cc
back_refused s (PidInUse p) i is = cc
back_refused s NoFile i is = cc
back_refused s NotReadable i is = cc

-- what is recorded has a record, and nothing else
pub recorded_has_record : (s : State) (c : Command) → is_some (inverse s c) ≡ changes c
recorded_has_record s (MakeGroup p) = refl
recorded_has_record s (RemoveGroup p) = refl
recorded_has_record s (Fork from child) = refl
recorded_has_record s (Exit pid) = refl
recorded_has_record s (Move p pid) = refl
recorded_has_record s (SetLimit p file value) = refl
recorded_has_record s (Kill g) = refl
recorded_has_record s (Show p file) = refl
recorded_has_record s (Locate pid) = refl
recorded_has_record s Undo = refl

pub counted_has_record : (r : Refusal) → is_some (inverse_of_refusal r) ≡ is_counted r
counted_has_record (OverPidsMax a) = refl
counted_has_record Exists = refl
counted_has_record (NoGroup p) = refl
counted_has_record (Descendants p) = refl
counted_has_record (Depth p) = refl
counted_has_record NoSlot = refl
counted_has_record RootFixed = refl
counted_has_record HasChildren = refl
counted_has_record HasProcesses = refl
counted_has_record (NoProcess p) = refl
counted_has_record (PidInUse p) = refl
counted_has_record NoFile = refl
counted_has_record NotReadable = refl
