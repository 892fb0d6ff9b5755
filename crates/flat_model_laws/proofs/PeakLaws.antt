-- What raises a peak, and what leaves it.
use Rattle.std.proofs.Common.{◌≡◌, ℕ, ◌-◌, ◌≤◌, true, false, cond, List, [], length, get_or, Option, Some, None, refl, sym, ap, ◌∙◌}
use Rattle.std.specs.Prelude.{option_map, max, unwrap_or}
use Rattle.std.specs.Ordering.{eq_by_cmp}
use Rattle.std.specs.FinMap.{FinMap, get, insert, same_map, get-insert, get-remove}
use Rattle.flat_model.specs.Path.{Path, path_cmp, is_root}
use Rattle.flat_model.specs.State.{State, Attr, Limit, fresh}
use Rattle.flat_model.specs.Counts.{current}
use Rattle.flat_model.specs.File.{LimitFile}
use Rattle.flat_model.specs.Command.{Command, SetLimit, RemoveGroup, Refusal, Exists, NoGroup, Descendants, Depth, NoSlot, RootFixed}
use Rattle.flat_model.specs.Command.{HasChildren, HasProcesses, NoProcess, PidInUse, OverPidsMax, NoFile, NotReadable}
use Rattle.flat_model.specs.Step.{after, after_refusal, counts_for, count_up, raise_peak, raise_peaks, peaks_upward, set_peak, set_peaks, with_limit}
use Rattle.flat_model.specs.Machine.{after_all}
use Rattle.flat_model.specs.RaisedPeaks.{IsRaised}
use Rattle.flat_model.proofs.PathLaws.{path_cmp-IsTotalOrder, path_cmp-IsAntisymmetric}
use Rattle.flat_model.proofs.Maps.{get-each, key_of}
use Rattle.flat_model.proofs.Peaks.{peak_there}
use Rattle.flat_model.proofs.Reachable.{reached_well}
use Rattle.flat_model.proofs.WellFormedSteps.{limit_peak}
use Rattle.flat_model_laws.proofs.EventLaws.{counts_above, counts_else}

module _ (s : State) (pid : ℕ) (a : Path) where
  come : State
  come = record s { home = insert s.home pid a }

  each : (p : Path) → get (raise_peaks a (record s { home = insert s.home pid a })).groups p ≡ option_map (raise_peak (record s { home = insert s.home pid a }) a p) (get s.groups p)
  each p = get-each path_cmp-IsTotalOrder path_cmp-IsAntisymmetric (raise_peak (record s { home = insert s.home pid a }) a) s.groups p

  raised_up : (p : Path) (x : Attr) → IsRaised a p (current (record s { home = insert s.home pid a }) p) x (raise_peak (record s { home = insert s.home pid a }) a p x)
  raised_up p x = record {
    limits = refl;
    local = refl;
    total = refl;
    reached = λ h n. ap (λ b. cond b (max x.peak (current (record s { home = insert s.home pid a }) p)) x.peak) (counts_above a p h n);
    elsewhere = λ h. ap (λ b. cond b (max x.peak (current (record s { home = insert s.home pid a }) p)) x.peak) (counts_else a p h);
  }

  pub raised : (p : Path) (x : Attr) → get s.groups p ≡ Some x →
      (y : Attr) × (get (raise_peaks a (record s { home = insert s.home pid a })).groups p ≡ Some y) × IsRaised a p (current (raise_peaks a (record s { home = insert s.home pid a })) p) x y
  raised p x h = (raise_peak (record s { home = insert s.home pid a }) a p x, each p ∙ ap (option_map (raise_peak (record s { home = insert s.home pid a }) a p)) h, raised_up p x)

  pub none_raised : (p : Path) → get s.groups p ≡ None → get (raise_peaks a (record s { home = insert s.home pid a })).groups p ≡ None
  none_raised p h = each p ∙ ap (option_map (raise_peak (record s { home = insert s.home pid a }) a p)) h

-- ---- what leaves it

pub limited : (s : State) (g : Path) (file : LimitFile) (value : Limit) (p : Path) (x y : Attr) → get s.groups p ≡ Some x → get (after s (SetLimit g file value)).groups p ≡ Some y → y.peak ≡ x.peak
limited s g file value p x y there now =
    elim (eq_by_cmp path_cmp p g) as (λ b. eq_by_cmp path_cmp p g ≡ b → cond b (Some (with_limit file value (unwrap_or (get s.groups g) fresh))) (get s.groups p) ≡ Some y → y.peak ≡ x.peak) [
      | true ↦ λ t e.
          let own : unwrap_or (get s.groups g) fresh ≡ x =
          ap (λ (q : Path). unwrap_or (get s.groups q) fresh) (sym (key_of path_cmp-IsAntisymmetric p g t))
          ∙ ap (λ (o : Option Attr). unwrap_or o fresh) there in
          let same : with_limit file value (unwrap_or (get s.groups g) fresh) ≡ y = cc in
          ap (λ (z : Attr). z.peak) (sym same) ∙ limit_peak file value (unwrap_or (get s.groups g) fresh) ∙ ap (λ (z : Attr). z.peak) own
      | false ↦ λ t e. let same : x ≡ y = cc in ap (λ (z : Attr). z.peak) (sym same)
    ] refl (sym (get-insert path_cmp-IsTotalOrder s.groups g (with_limit file value (unwrap_or (get s.groups g) fresh)) p) ∙ now)

pub removed : (s : State) (g p : Path) (y : Attr) → get (after s (RemoveGroup g)).groups p ≡ Some y → get s.groups p ≡ Some y
removed s g p y h =
    elim (eq_by_cmp path_cmp p g) as (λ b. cond b None (get s.groups p) ≡ Some y → get s.groups p ≡ Some y) [
      | true ↦ λ e. cc
      | false ↦ λ e. e
    ] (sym (get-remove path_cmp-IsTotalOrder s.groups g p) ∙ h)

same_peak : (x y : Attr) → Some x ≡ Some y → y.peak ≡ x.peak
same_peak x y e = ap (λ (o : Option Attr). (unwrap_or o x).peak) (sym e)

pub refused : (s : State) (r : Refusal) (p : Path) (x y : Attr) → get s.groups p ≡ Some x → get (after_refusal s r).groups p ≡ Some y → y.peak ≡ x.peak
refused s (OverPidsMax a) p x y h now =
    same_peak (count_up a p x) y (sym (get-each path_cmp-IsTotalOrder path_cmp-IsAntisymmetric (count_up a) s.groups p ∙ ap (option_map (count_up a p)) h) ∙ now)
refused s Exists p x y h now = same_peak x y (sym h ∙ now)
refused s (NoGroup q) p x y h now = same_peak x y (sym h ∙ now)
refused s (Descendants q) p x y h now = same_peak x y (sym h ∙ now)
refused s (Depth q) p x y h now = same_peak x y (sym h ∙ now)
refused s NoSlot p x y h now = same_peak x y (sym h ∙ now)
refused s RootFixed p x y h now = same_peak x y (sym h ∙ now)
refused s HasChildren p x y h now = same_peak x y (sym h ∙ now)
refused s HasProcesses p x y h now = same_peak x y (sym h ∙ now)
refused s (NoProcess pid) p x y h now = same_peak x y (sym h ∙ now)
refused s (PidInUse pid) p x y h now = same_peak x y (sym h ∙ now)
refused s NoFile p x y h now = same_peak x y (sym h ∙ now)
refused s NotReadable p x y h now = same_peak x y (sym h ∙ now)

-- ---- what commands reach

pub held : (slots : ℕ) (cs : List Command) (p : Path) (x : Attr) → get (after_all slots cs).state.groups p ≡ Some x → is_root p ≡ false → current (after_all slots cs).state p ≤ x.peak
held slots cs p x h r = (reached_well slots cs).0.peaks p x h r

pub root_has_none : (slots : ℕ) (cs : List Command) (x : Attr) → get (after_all slots cs).state.groups [] ≡ Some x → x.peak ≡ 0
root_has_none slots cs x h = (reached_well slots cs).0.root_peak x h

-- ---- the peaks that are there, set

pub set_as_they_are : (s : State) (p : Path) → set_peaks p (peaks_upward s p) s ≡ s
set_as_they_are s p =
    ap (λ (g : FinMap path_cmp Attr). record s { groups = g })
    (same_map path_cmp-IsTotalOrder path_cmp-IsAntisymmetric (set_peaks p (peaks_upward s p) s).groups s.groups (λ q.
    get-each path_cmp-IsTotalOrder path_cmp-IsAntisymmetric (set_peak p (peaks_upward s p)) s.groups q ∙ own q (get s.groups q) refl))
  where
    own : (q : Path) (o : Option Attr) → get s.groups q ≡ o → option_map (set_peak p (peaks_upward s p) q) o ≡ o
    own q None e = refl
    own q (Some x) e =
        elim (counts_for p q) as (λ b. counts_for p q ≡ b → ◌≡◌ {A = Option Attr} (Some (record x { peak = cond b (get_or (peaks_upward s p) (length p - length q) x.peak) x.peak })) (Some x)) [
          | true ↦ λ c. ap (λ (n : ℕ). Some (record x { peak = n })) (peak_there s p q x x.peak c e)
          | false ↦ λ c. refl
        ] refl
