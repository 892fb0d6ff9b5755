-- The peaks along a path: those that a record keeps are those that were there, and set again they are there again.
use Rattle.std.proofs.Common.{◌≡◌, ℕ, ◌-◌, ◌<◌, true, false, cond, [], ◌∷◌, map, length, get_or, take, Option, Some, refl, sym, ap, ◌∙◌, arith}
use Rattle.std.specs.Prelude.{max, unwrap_or}
use Rattle.std.proofs.lemmas.List.{get_or-map, get_or-take, length-map, length-take-le}
use Rattle.std.specs.FinMap.{FinMap, get, from_entries, entries}
use Rattle.flat_model.specs.Path.{Path, path_cmp, at_or_below, upward, is_root}
use Rattle.flat_model.specs.State.{State, Attr, fresh}
use Rattle.flat_model.specs.Counts.{current}
use Rattle.flat_model.specs.Step.{attr_of, counts_for, raise_peak, raise_peaks, peaks_upward, set_peak, set_peaks}
use Rattle.flat_model.proofs.PathLaws.{path_cmp-IsTotalOrder, path_cmp-IsAntisymmetric, at_or_below_take, at_or_below_length}
use Rattle.flat_model.proofs.Maps.{each_there_back}
use Rattle.flat_model.proofs.Booleans.{both_by}
use Rattle.flat_model.proofs.Prefixes.{length-upward, upward_at}

-- ---- the groups from p upward

-- the i-th is the one of i names fewer
pub group_upward : (p : Path) (i : ℕ) (d : Path) → i < length p → get_or (take (length p) (upward p)) i d ≡ take (length p - i) p
group_upward p i d h = get_or-take (length p) (upward p) i d h ∙ upward_at p i d (omega arith)

pub length-groups_upward : (p : Path) → length (take (length p) (upward p)) ≡ length p
length-groups_upward p = length-take-le (length p) (upward p) (let e = length-upward p in omega (arith, e))

-- ---- their peaks

pub length-peaks_upward : (s : State) (p : Path) → length (peaks_upward s p) ≡ length p
length-peaks_upward s p = length-map (take (length p) (upward p)) (λ q. (attr_of s q).peak) ∙ length-groups_upward p

pub peak_upward : (s : State) (p : Path) (i d : ℕ) → i < length p → get_or (peaks_upward s p) i d ≡ (attr_of s (take (length p - i) p)).peak
peak_upward s p i d h =
    let many = length-groups_upward p in
    get_or-map (λ q. (attr_of s q).peak) (take (length p) (upward p)) i [] d (omega (arith, many))
    ∙ ap (λ q. (attr_of s q).peak) (group_upward p i [] h)

pub named : (q : Path) → is_root q ≡ false → 0 < length q
named [] e = cc
named (n ∷ q) e = omega arith

-- the peak of a group that counts what happens in a
pub peak_there : (s : State) (a q : Path) (x : Attr) (d : ℕ) → counts_for a q ≡ true → get s.groups q ≡ Some x → get_or (peaks_upward s a) (length a - length q) d ≡ x.peak
peak_there s a q x d c there =
    let two = both_by (is_root q) (at_or_below a q) c in
    let long = named q two.0 in
    let short = at_or_below_length a q two.1 in
    let same : length a - (length a - length q) ≡ length q = omega arith in
    let at : take (length a - (length a - length q)) a ≡ q = ap (λ n. take n a) same ∙ sym (at_or_below_take a q two.1) in
    peak_upward s a (length a - length q) d (omega arith)
    ∙ ap (λ (p : Path). (attr_of s p).peak) at
    ∙ ap (λ (o : Option Attr). (unwrap_or o fresh).peak) there

-- ---- raised, and set again

module _ (s t : State) (a : Path) where
  raised_back : (q : Path) (x : Attr) → get s.groups q ≡ Some x → set_peak a (peaks_upward s a) q (raise_peak t a q x) ≡ x
  raised_back q x there =
      elim (counts_for a q) as (λ b. counts_for a q ≡ b
      → ◌≡◌ {A = Attr} (record x {
        peak = cond b (get_or (peaks_upward s a) (length a - length q) (cond b (max x.peak (current t q)) x.peak))
            (cond b (max x.peak (current t q)) x.peak);
      }) x) [
        | true ↦ λ c. ap (λ (n : ℕ). record x { peak = n }) (peak_there s a q x (max x.peak (current t q)) c there)
        | false ↦ λ c. refl
      ] refl

  -- the groups after a raise, with the peaks that were there
  pub groups_back : t.groups ≡ s.groups → (set_peaks a (peaks_upward s a) (raise_peaks a t)).groups ≡ s.groups
  groups_back same =
      ap (λ (g : FinMap path_cmp Attr). from_entries {R = path_cmp}
      (map (λ e. (e.0, set_peak a (peaks_upward s a) e.0 e.1))
      (entries (from_entries {R = path_cmp} (map (λ e. (e.0, raise_peak t a e.0 e.1)) (entries g)))))) same
      ∙ each_there_back path_cmp-IsTotalOrder path_cmp-IsAntisymmetric (raise_peak t a) (set_peak a (peaks_upward s a)) s.groups raised_back
