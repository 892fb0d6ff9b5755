-- A group and those above it, changed one after the other.
use Rattle.std.proofs.Common.{◌≡◌, ◌≢◌, ℕ, suc, ◌+◌, ◌-◌, ◌<◌, ◌≤◌, ◌&&◌, inl, inr, true, false, cond, ltb, not, Bool, Option, Some, None, IsSome, List, [], ◌∷◌, length, take, drop, get_or, option_map, refl, sym, ap, ◌∙◌, subst, arith}
use Rattle.std.proofs.lemmas.Bool.{false≢true, cases_lt}
use Rattle.std.proofs.lemmas.Bool.Decides.{nat_tests}
use Rattle.std.proofs.lemmas.List.{length-take-le, get_or-drop}
use Rattle.std.specs.FinMap as fin
use Rattle.flat_model.specs.Path.{Path, is_root, at_or_below, parent, same_path}
use Rattle.flat_model.specs.Step.{counts_for}
use Rattle.flat_model.proofs.Booleans.{both_by}
use Rattle.flat_model.proofs.PathLaws.{at_or_below_take, at_or_below_length, at_or_below_either, at_or_below_itself, at_or_below_through, same_path_is, same_path_itself, take_above}
use Rattle.flat_model.proofs.Peaks.{named}
use Rattle.group_tree.specs.Groups.{Groups, slot_of}
use Rattle.group_tree.specs.declared.attr.Attr.{Attr}
use Rattle.pids_charge.specs.Events.{counted_by}
use Rattle.pids_charge.specs.GroupRows.{IsOfGroup}
use Rattle.pids_charge.specs.Lists.{row_at}
use Rattle.pids_charge.specs.Peaks.{peaked_by}
use Rattle.pids_charge.proofs.Changes.{which}
use Rattle.pids_charge.proofs.RowsAt.{row_at_same}
use Rattle.pids_charge.proofs.ParentSteps.{own_slot, step_by, step_up}

-- the first n groups from p upward, changed by f from their places on the way
abbrev pub up_by : Path → (ℕ → Attr → Attr) → ℕ → Path → Attr → Attr
up_by p f n q a = cond (counts_for p q && ltb (length p - length q) n) (f (length p - length q) a) a

both_false : (a : Bool) → (a && false) ≡ false
both_false true = refl
both_false false = refl

module _ (p : Path) (f : ℕ → Attr → Attr) where
  none_yet : (o : Option Attr) (q : Path) → o ≡ option_map (up_by p f 0 q) o
  none_yet None q = refl
  none_yet (Some a) q =
      let no : ltb (length p - length q) 0 ≡ false = grind (arith, nat_tests) in
      ap (λ b. Some (cond b (f (length p - length q) a) a)) (sym (ap (λ b. counts_for p q && b) no ∙ both_false (counts_for p q)))

  -- before the first
  pub begun : (m : Groups) (q : Path) → fin.get m q ≡ option_map (up_by p f 0 q) (fin.get m q)
  begun m q = none_yet (fin.get m q) q

  -- a group that is not the next one is changed already, or not at all
  other : (n : ℕ) → n < length p → (q : Path) → (q ≡ take (length p - n) p → ⊥) → (a : Attr) → up_by p f n q a ≡ up_by p f (suc n) q a
  other n l q apart a = elim (counts_for p q) as (λ b. counts_for p q ≡ b
      → cond (b && ltb (length p - length q) n) (f (length p - length q) a) a ≡ cond (b && ltb (length p - length q) (suc n)) (f (length p - length q) a) a) [
        | true ↦ λ c.
            let two = both_by (is_root q) (at_or_below p q) c in
            let short = at_or_below_length p q two.1 in
            let ne : length p - length q ≢ n = λ e. apart (at_or_below_take p q two.1 ∙ ap (λ (k : ℕ). take k p) (omega (arith, e, short, l))) in
            let same : ltb (length p - length q) n ≡ ltb (length p - length q) (suc n) = grind (arith, nat_tests, ne) in
            ap (λ b. cond b (f (length p - length q) a) a) same
        | false ↦ λ c. refl
      ] refl

  others : (n : ℕ) → n < length p → (q : Path) → (q ≡ take (length p - n) p → ⊥) → (o : Option Attr) → option_map (up_by p f n q) o ≡ option_map (up_by p f (suc n) q) o
  others n l q apart None = refl
  others n l q apart (Some a) = ap Some (other n l q apart a)

  module _ (n : ℕ) (l : n < length p) where
    abbrev own : Path
    own = take (length p - n) p

    own_place : length p - length own ≡ n
    own_place = omega (arith, l, length-take-le (length p - n) p (omega arith))

    own_counts : counts_for p own ≡ true
    own_counts = by own (take_above (length p - n) p) (omega (arith, l, length-take-le (length p - n) p (omega arith)))
      where
        by : (q : Path) → at_or_below p q ≡ true → 0 < length q → counts_for p q ≡ true
        by q above pos = ap (λ b. not b && at_or_below p q) (nonroot q pos) ∙ above
          where
            nonroot : (q : Path) → 0 < length q → is_root q ≡ false
            nonroot [] h = absurd (omega (arith, h))
            nonroot (x ∷ q) h = refl

    own_before : (a : Attr) → up_by p f n own a ≡ a
    own_before a =
        let no : ltb (length p - length own) n ≡ false = grind (arith, nat_tests, own_place) in
        ap (λ b. cond b (f (length p - length own) a) a) (ap (λ b. counts_for p own && b) no ∙ both_false (counts_for p own))

    own_after : (a : Attr) → up_by p f (suc n) own a ≡ f n a
    own_after a =
        let yes : ltb (length p - length own) (suc n) ≡ true = grind (arith, nat_tests, own_place) in
        ap (λ b. cond (b && ltb (length p - length own) (suc n)) (f (length p - length own) a) a) own_counts
        ∙ ap (λ b. cond b (f (length p - length own) a) a) yes ∙ ap (λ k. f k a) own_place

    -- the next one is as it was before the walk
    pub untouched : (old now : Groups) → ((q : Path) → fin.get now q ≡ option_map (up_by p f n q) (fin.get old q)) → fin.get now own ≡ fin.get old own
    untouched old now h = h own ∙ by (fin.get old own)
      where
        by : (o : Option Attr) → option_map (up_by p f n own) o ≡ o
        by None = refl
        by (Some a) = ap Some (own_before a)

    -- one group further
    pub further : (old now new : Groups) (a : Attr) → ((q : Path) → fin.get now q ≡ option_map (up_by p f n q) (fin.get old q))
        → Some a ≡ fin.get now own → new ≡ fin.insert now own (f n a) → (q : Path) → fin.get new q ≡ option_map (up_by p f (suc n) q) (fin.get old q)
    further old now new a h here is q =
        ap (λ (m : Groups). fin.get m q) is ∙ elim (which now own (f n a) q) [
          | inl w ↦ w.1 ∙ ap Some (sym (own_after a)) ∙ ap (option_map (up_by p f (suc n) own)) (here ∙ untouched old now h) ∙ ap (λ (r : Path). option_map (up_by p f (suc n) r) (fin.get old r)) (sym w.0)
          | inr w ↦ w.1 ∙ h q ∙ others n l q w.0 (fin.get old q)
        ]

  -- all of them
  pub whole : (q : Path) (a : Attr) → up_by p f (length p) q a ≡ cond (counts_for p q) (f (length p - length q) a) a
  whole q a = elim (counts_for p q) as (λ b. counts_for p q ≡ b
      → cond (b && ltb (length p - length q) (length p)) (f (length p - length q) a) a ≡ cond b (f (length p - length q) a) a) [
        | true ↦ λ c.
            let two = both_by (is_root q) (at_or_below p q) c in
            let pos = named q two.0 in
            let short = at_or_below_length p q two.1 in
            let yes : ltb (length p - length q) (length p) ≡ true = grind (arith, nat_tests, pos, short) in
            ap (λ b. cond b (f (length p - length q) a) a) yes
        | false ↦ λ c. refl
      ] refl

  -- slots stay, where f keeps them
  module _ (keeps : (k : ℕ) (a : Attr) → (f k a).slot ≡ a.slot) (n : ℕ) (old now : Groups) (h : (q : Path) → fin.get now q ≡ option_map (up_by p f n q) (fin.get old q)) where
    slot_kept : (q : Path) (a : Attr) → (up_by p f n q a).slot ≡ a.slot
    slot_kept q a = elim (counts_for p q && ltb (length p - length q) n) as (λ b. (cond b (f (length p - length q) a) a).slot ≡ a.slot) [ true ↦ keeps (length p - length q) a | false ↦ refl ]

    slot_of_kept : (q : Path) (o : Option Attr) → slot_of (option_map (up_by p f n q) o) ≡ slot_of o
    slot_of_kept q None = refl
    slot_of_kept q (Some a) = slot_kept q a

    pub rows_at_kept : (q : Path) → row_at now q ≡ row_at old q
    rows_at_kept q = row_at_same now old q (ap slot_of (h q) ∙ slot_of_kept q (fin.get old q))

    pub still_there : (q : Path) → IsSome (fin.get old q) → IsSome (fin.get now q)
    still_there q i = subst IsSome (sym (h q)) (by (fin.get old q) i)
      where
        by : (o : Option Attr) → IsSome o → IsSome (option_map (up_by p f n q) o)
        by None j = j
        by (Some a) j = refl

-- ---- a step of such a walk

-- the walk is at the n-th group from p upward, whose processes are in slot `at` of their table
pub record IsStepAt (old now : Groups) (p : Path) (n at : ℕ) : Type 0 where
  pub there : IsSome (fin.get now (take (length p - n) p))
  pub here : at ≡ row_at now (take (length p - n) p)
  pub positive : 1 ≤ at
  pub next : (up : ℕ) → ((q : Path) → IsSome (fin.get now q) → at ≡ row_at now q → up ≡ row_at now (parent q)) → up ≡ row_at old (take (length p - (n + 1)) p)

pub step_at : (old : Groups) (p : Path) → IsSome (fin.get old p)
    → ((p q : Path) → IsSome (fin.get old p) → at_or_below p q ≡ true → IsSome (fin.get old q))
    → (f : ℕ → Attr → Attr) → ((k : ℕ) (a : Attr) → (f k a).slot ≡ a.slot) → (n : ℕ) → n < length p → (now : Groups) → ((q : Path) → fin.get now q ≡ option_map (up_by p f n q) (fin.get old q))
    → (at : ℕ) → at ≡ row_at old (take (length p - n) p) → IsStepAt old now p n at
step_at old p home prefixes f keeps n l now h at e =
    let own : Path = take (length p - n) p in
    let up = step_by old p home prefixes at (length p - n) (length p - (n + 1)) (omega arith) e (omega (arith, l)) in
    let same = rows_at_kept p f keeps n old now h in
    record {
      there = still_there p f keeps n old now h own (prefixes p own home (take_above (length p - n) p));
      here = e ∙ sym (same own);
      positive = omega (arith, e, own_slot old own (omega (arith, l, length-take-le (length p - n) p (omega arith))));
      next = λ above says. up.next above (λ q i is. says q (still_there p f keeps n old now h q i) (is ∙ sym (same q)) ∙ same (parent q));
    }

-- a walk that is below the root has not passed all groups
pub way_left : (tree : Groups) (p : Path) → IsSome (fin.get tree p) → ((p q : Path) → IsSome (fin.get tree p) → at_or_below p q ≡ true → IsSome (fin.get tree q))
    → (n at : ℕ) → at ≡ row_at tree (take (length p - n) p) → 0 < at → n < length p
way_left tree p home prefixes n at here pos =
    let step = step_up tree p home prefixes at (length p - n) (length p - (n + 1)) (omega arith) here pos (omega arith) in
    let more = step.more in
    omega (arith, more)

-- after n steps up from the group at p, changed by f, the walk is in the row `at`
pub record IsPartWay (old now : Groups) (p : Path) (f : ℕ → Attr → Attr) (n at : ℕ) : Type 0 where
  pub here : at ≡ row_at old (take (length p - n) p)
  pub changed : (q : Path) → fin.get now q ≡ option_map (up_by p f n q) (fin.get old q)

pub part_step : (old : Groups) (p : Path) → IsSome (fin.get old p)
    → ((p q : Path) → IsSome (fin.get old p) → at_or_below p q ≡ true → IsSome (fin.get old q))
    → (f : ℕ → Attr → Attr) → ((k : ℕ) (a : Attr) → (f k a).slot ≡ a.slot) → (n : ℕ) → n < length p → (now : Groups)
    → (at : ℕ) → IsPartWay old now p f n at → IsStepAt old now p n at
part_step old p home prefixes f keeps n l now at w = step_at old p home prefixes f keeps n l now w.changed at w.here

-- the row of such a step is a group's
pub of_step : (old now : Groups) (p : Path) (n at : ℕ) → IsStepAt old now p n at → IsOfGroup now at
of_step old now p n at s = record { path = take (length p - n) p; there = s.there; here = s.here }

-- ---- peaks

abbrev pub peak_by : List ℕ → ℕ → Attr → Attr
peak_by peaks k a = record a { peak = get_or peaks k a.peak }

pub peaks_set : (p : Path) (peaks : List ℕ) (old now : Groups) → ((q : Path) → fin.get now q ≡ option_map (up_by p (peak_by peaks) (length p) q) (fin.get old q))
    → (q : Path) → fin.get now q ≡ option_map (peaked_by p peaks q) (fin.get old q)
peaks_set p peaks old now h q = h q ∙ by (fin.get old q)
  where
    by : (o : Option Attr) → option_map (up_by p (peak_by peaks) (length p) q) o ≡ option_map (peaked_by p peaks q) o
    by None = refl
    by (Some a) = ap Some (whole p (peak_by peaks) q a ∙ elim (counts_for p q) as (λ b.
        ◌≡◌ {A = Attr} (cond b (record a { peak = get_or peaks (length p - length q) a.peak }) a) (record a { peak = cond b (get_or peaks (length p - length q) a.peak) a.peak })) [ true ↦ refl | false ↦ refl ])

-- ---- event totals

abbrev pub total_by : (ℕ → ℕ) → ℕ → Attr → Attr
total_by g k a = record a { total = g a.total }

module _ (g : ℕ → ℕ) (p : Path) (old now new : Groups) (row : Attr) (h : (q : Path) → fin.get now q ≡ option_map (up_by p (total_by g) (length p) q) (fin.get old q))
    (here : Some row ≡ fin.get now p) (is : new ≡ fin.insert now p (record row { local = g row.local })) where
  own_total : (o : Option Attr) → Some row ≡ option_map (up_by p (total_by g) (length p) p) o → ◌≡◌ {A = Option Attr} (Some (record row { local = g row.local })) (option_map (counted_by g p p) o)
  own_total None e = cc
  own_total (Some a) e =
      let same : row ≡ up_by p (total_by g) (length p) p a = cc in
      let all : row ≡ cond (counts_for p p) (record a { total = g a.total }) a = same ∙ whole p (total_by g) p a in
      ap (λ (r : Attr). Some (record r { local = g r.local })) all
      ∙ elim (counts_for p p) as (λ b.
      ◌≡◌ {A = Option Attr} (Some (record (cond b (record a { total = g a.total }) a) { local = g (cond b (record a { total = g a.total }) a).local }))
      (Some (record a { local = g a.local; total = cond b (g a.total) a.total }))) [ true ↦ refl | false ↦ refl ]
      ∙ ap (λ b. Some (record a { local = cond b (g a.local) a.local; total = cond (counts_for p p) (g a.total) a.total })) (sym (same_path_itself p))

  other_total : (q : Path) → (q ≡ p → ⊥) → (o : Option Attr) → option_map (up_by p (total_by g) (length p) q) o ≡ option_map (counted_by g p q) o
  other_total q apart None = refl
  other_total q apart (Some a) =
      let not_same : same_path q p ≡ false = elim (same_path q p) as (λ b. same_path q p ≡ b → b ≡ false) [ true ↦ λ t. absurd (apart ((same_path_is q p).0 t)) | false ↦ λ t. refl ] refl in
      ap Some (whole p (total_by g) q a ∙ elim (counts_for p q) as (λ b.
      ◌≡◌ {A = Attr} (cond b (record a { total = g a.total }) a) (record a { local = a.local; total = cond b (g a.total) a.total })) [ true ↦ refl | false ↦ refl ]
      ∙ ap (λ b. record a { local = cond b (g a.local) a.local; total = cond (counts_for p q) (g a.total) a.total }) (sym not_same))

  pub totals_changed : (q : Path) → fin.get new q ≡ option_map (counted_by g p q) (fin.get old q)
  totals_changed q =
      ap (λ (m : Groups). fin.get m q) is ∙ elim (which now p (record row { local = g row.local }) q) [
        | inl w ↦ w.1 ∙ own_total (fin.get old p) (here ∙ h p) ∙ ap (λ (r : Path). option_map (counted_by g p r) (fin.get old r)) (sym w.0)
        | inr w ↦ w.1 ∙ h q ∙ other_total q w.0 (fin.get old q)
      ]

-- ---- the peaks of a path of which only the first n names are a group

module _ (p : Path) (peaks : List ℕ) (n : ℕ) (few : n ≤ length p) (many : length peaks ≡ length p) (old : Groups)
    (missing : (k : ℕ) → n < k → k ≤ length p → fin.get old (take k p) ≡ None) where
  abbrev front : Path
  front = take n p

  abbrev rest : List ℕ
  rest = drop (length peaks - n) peaks

  below_front : (q : Path) (a : Attr) → fin.get old q ≡ Some a → at_or_below p q ≡ true → at_or_below front q ≡ true
  below_front q a e t =
      let short = at_or_below_length p q t in
      let is = at_or_below_take p q t in
      elim (cases_lt n (length q)) [
        | inl lt ↦ let none : ◌≡◌ {A = Option Attr} (Some a) None = sym e ∙ ap (fin.get old) is ∙ missing (length q) lt short in cc
        | inr le ↦ elim (at_or_below_either p front q (take_above n p) t) [
          | inl u ↦ u
          | inr u ↦
              let same : length q ≡ n = omega (arith, le, at_or_below_length q front u, length-take-le n p few) in
              let own : q ≡ front = is ∙ ap (λ (k : ℕ). take k p) same in
              subst (λ (r : Path). at_or_below front r ≡ true) (sym own) (at_or_below_itself front)
        ]
      ]

  same_below : (q : Path) (a : Attr) → fin.get old q ≡ Some a → at_or_below front q ≡ at_or_below p q
  same_below q a e = elim (at_or_below p q) as (λ b. at_or_below p q ≡ b → at_or_below front q ≡ b) [
    | true ↦ λ t. below_front q a e t
    | false ↦ λ t. elim (at_or_below front q) as (λ b. at_or_below front q ≡ b → b ≡ false) [
      | true ↦ λ u. absurd (false≢true (sym t ∙ at_or_below_through p front q (take_above n p) u))
      | false ↦ λ u. refl
    ] refl
  ] refl

  same_peak : (q : Path) (d : ℕ) → counts_for front q ≡ true → get_or rest (length front - length q) d ≡ get_or peaks (length p - length q) d
  same_peak q d c =
      let two = both_by (is_root q) (at_or_below front q) c in
      let short = at_or_below_length front q two.1 in
      get_or-drop (length peaks - n) peaks (length front - length q) d
      ∙ ap (λ (k : ℕ). get_or peaks k d) (omega (arith, short, many, few, length-take-le n p few))

  at_front : (q : Path) (o : Option Attr) → fin.get old q ≡ o → option_map (peaked_by front rest q) o ≡ option_map (peaked_by p peaks q) o
  at_front q None e = refl
  at_front q (Some a) e =
      ap Some (elim (counts_for front q) as (λ b. counts_for front q ≡ b → ◌≡◌ {A = Attr}
      (record a { peak = cond b (get_or rest (length front - length q) a.peak) a.peak }) (record a { peak = cond b (get_or peaks (length p - length q) a.peak) a.peak })) [
        | true ↦ λ c. ap (λ (k : ℕ). record a { peak = k }) (same_peak q a.peak c)
        | false ↦ λ c. refl
      ] refl
      ∙ ap (λ b. record a { peak = cond (not (is_root q) && b) (get_or peaks (length p - length q) a.peak) a.peak }) (same_below q a e))

  -- those of the groups that there are
  pub front_set : (new : Groups) → ((q : Path) → fin.get new q ≡ option_map (peaked_by front rest q) (fin.get old q)) → (q : Path) → fin.get new q ≡ option_map (peaked_by p peaks q) (fin.get old q)
  front_set new h q = h q ∙ at_front q (fin.get old q) refl
