-- The notes of a walk up from a path: one group more each time, and what they say of charges and peaks.
use Rattle.std.proofs.Common.{◌≡◌, ℕ, zero, suc, ◌+◌, ◌-◌, ◌<◌, ◌≤◌, inl, inr, true, List, [], ◌∷◌, ◌++◌, length, length-append, get_or, take, sum_by, Option, Some, None, IsSome, refl, sym, ap, ◌∙◌, subst, arith}
use Rattle.std.specs.Prelude.{max}
use Rattle.std.specs.List.{All}
use Rattle.std.proofs.lemmas.List.Elements.{All-from_get_or}
use Rattle.std.proofs.lemmas.List.Sums.{sum_by-cons}
use Rattle.std.proofs.lemmas.Bool.{cases_lt}
use Rattle.std.proofs.lemmas.List.{length-take-le, get_or_append_left}
use Rattle.std.specs.FinMap as fin
use Rattle.flat_model.specs.Path.{Path, parent, at_or_below}
use Rattle.flat_model.proofs.PathLaws.{take_above}
use Rattle.group_tree.specs.Groups.{Groups, slot_of}
use Rattle.group_tree.specs.declared.attr.Attr.{Attr}
use Rattle.snzi_tokens.specs.Listed.{one_at, over_leaves}
use Rattle.pids_charge.specs.Content.{Content}
use Rattle.pids_charge.specs.GroupRows.{IsOfGroup}
use Rattle.pids_charge.specs.Lists.{row_at, slot_at}
use Rattle.pids_charge.specs.Peaks.{peak_of, reached_of, AreUpward, Noted, IsNoted}
use Rattle.pids_charge.specs.Recount.{chain_at, charges_at, SlotsBelow}
use Rattle.pids_charge.proofs.ParentSteps.{at_own, at_root, of_group, step_up}
use Rattle.pids_charge.proofs.PathCharges.{over_leaves-same}

-- f applied to the groups of the first n names, from the last of them upward
pub record AreNoted (f : Option Attr → ℕ) (tree : Groups) (p : Path) (n : ℕ) (ns : List ℕ) : Type 0 where
  pub many : length ns ≡ n
  pub each : (k : ℕ) → k < n → get_or ns k 0 ≡ f (fin.get tree (take (n - k) p))

-- f applied to the first k groups from p upward
pub record AreUpTo (f : Option Attr → ℕ) (tree : Groups) (p : Path) (k : ℕ) (ns : List ℕ) : Type 0 where
  pub many : length ns ≡ k
  pub each : (j : ℕ) → j < k → get_or ns j 0 ≡ f (fin.get tree (take (length p - j) p))

read_last : (ns : List ℕ) (x k : ℕ) → k ≡ length ns → get_or (ns ++ x ∷ []) k 0 ≡ x
read_last [] x k e = ap (λ (j : ℕ). get_or (x ∷ []) j 0) e
read_last (n ∷ ns) x zero e = absurd (omega (arith, e))
read_last (n ∷ ns) x (suc k) e = read_last ns x k (omega (arith, e))

module _ (f : Option Attr → ℕ) (tree : Groups) (p : Path) where
  pub none_up : AreUpTo f tree p 0 []
  none_up = record { many = refl; each = λ j h. absurd (omega (arith, h)) }

  -- the next group upward
  pub one_up : (k x : ℕ) (ns : List ℕ) (a : Attr) → Some a ≡ fin.get tree (take (length p - k) p) → x ≡ f (Some a) → AreUpTo f tree p k ns → AreUpTo f tree p (k + 1) (ns ++ x ∷ [])
  one_up k x ns a here is h = record { many = let l = h.many in omega (arith, l, length-append ns (x ∷ [])); each = each }
    where
      each : (j : ℕ) → j < k + 1 → get_or (ns ++ x ∷ []) j 0 ≡ f (fin.get tree (take (length p - j) p))
      each j below = elim (cases_lt j k) [
        | inl lt ↦ get_or_append_left ns (x ∷ []) 0 j (let l = h.many in omega (arith, l, lt)) ∙ h.each j lt
        | inr le ↦
            let last : j ≡ k = omega (arith, le, below) in
            read_last ns x j (let l = h.many in omega (arith, l, last)) ∙ is ∙ ap f here ∙ ap (λ (i : ℕ). f (fin.get tree (take (length p - i) p))) (sym last)
      ]

  pub all_up : (k : ℕ) (ns : List ℕ) → k ≡ length p → AreUpTo f tree p k ns → AreUpward f tree p ns
  all_up k ns e h = record { many = h.many ∙ e; each = λ j below. h.each j (omega (arith, below, e)) }

-- after so many steps from the group at p the walk is in the row `at`, and the groups that it passed are noted
pub record HasNoted (tree : Groups) (p : Path) (up at : ℕ) (notes : Noted) : Type 0 where
  pub here : at ≡ row_at tree (take (length p - up) p)
  pub few : up ≤ length p
  pub slots : AreUpTo slot_of tree p up notes.slots
  pub peaks : AreUpTo peak_of tree p up notes.peaks

pub none_noted : (tree : Groups) (p : Path) (at : ℕ) (notes : Noted) → notes ≡ record { slots = []; peaks = [] } → at ≡ row_at tree p → HasNoted tree p 0 at notes
none_noted tree p at notes e here = record {
  here = at_own tree p at here;
  few = omega arith;
  slots = subst (λ (x : Noted). AreUpTo slot_of tree p 0 x.slots) (sym e) (none_up slot_of tree p);
  peaks = subst (λ (x : Noted). AreUpTo peak_of tree p 0 x.peaks) (sym e) (none_up peak_of tree p);
}

module _ (tree : Groups) (prefixes : (p q : Path) → IsSome (fin.get tree p) → at_or_below p q ≡ true → IsSome (fin.get tree q))
    (p : Path) (home : IsSome (fin.get tree p)) (up at : ℕ) (notes : Noted) (w : HasNoted tree p up at notes) where
  pub note_walks : IsOfGroup tree at
  note_walks = of_group tree p home prefixes at (length p - up) w.here

  -- below the root there is one more to note
  pub note_left : 0 < at → length notes.slots < length p
  note_left pos =
      let step = step_up tree p home prefixes at (length p - up) (length p - (up + 1)) (omega arith) w.here pos (omega arith) in
      let more = step.more in
      let many = w.slots.many in
      omega (arith, more, many)

  pub one_noted : 0 < at → (above : ℕ) → ((q : Path) → IsSome (fin.get tree q) → at ≡ row_at tree q → above ≡ row_at tree (parent q))
      → (attr : Attr) → ((q : Path) → IsSome (fin.get tree q) → at ≡ row_at tree q → Some attr ≡ fin.get tree q)
      → (new : Noted) → new ≡ record { slots = notes.slots ++ attr.slot ∷ []; peaks = notes.peaks ++ attr.peak ∷ [] } → HasNoted tree p (up + 1) above new
  one_noted pos above says attr reads new is =
      let step = step_up tree p home prefixes at (length p - up) (length p - (up + 1)) (omega arith) w.here pos (omega arith) in
      let more = step.more in
      let own : Path = take (length p - up) p in
      let here = reads own (prefixes p own home (take_above (length p - up) p)) w.here in
      record {
        here = step.next above says;
        few = omega (arith, more);
        slots = subst (λ (x : Noted). AreUpTo slot_of tree p (up + 1) x.slots) (sym is) (one_up slot_of tree p up attr.slot notes.slots attr here refl w.slots);
        peaks = subst (λ (x : Noted). AreUpTo peak_of tree p (up + 1) x.peaks) (sym is) (one_up peak_of tree p up attr.peak notes.peaks attr here refl w.peaks);
      }

  pub all_noted : length p - up ≡ 0 → IsNoted tree p notes
  all_noted none =
      let few = w.few in
      let whole : up ≡ length p = omega (arith, none, few) in
      record { slots = all_up slot_of tree p up notes.slots whole w.slots; peaks = all_up peak_of tree p up notes.peaks whole w.peaks }

  pub noted_to_top : at ≡ 0 → IsNoted tree p notes
  noted_to_top e = all_noted (at_root tree p at (length p - up) (omega arith) w.here e)

-- one charge at each slot that was noted
chain_noted : (tree : Groups) (p : Path) (leaf s j n : ℕ) (ns : List ℕ) → AreNoted slot_of tree p n ns → sum_by (λ slot. one_at slot leaf s j) ns ≡ chain_at tree p n leaf s j
chain_noted tree p leaf s j zero [] h = refl
chain_noted tree p leaf s j zero (x ∷ ns) h = let l = h.many in absurd (omega (arith, l))
chain_noted tree p leaf s j (suc n) [] h = let l = h.many in absurd (omega (arith, l))
chain_noted tree p leaf s j (suc n) (x ∷ ns) h =
    let rest = chain_noted tree p leaf s j n ns (record {
      many = let l = h.many in omega (arith, l);
      each = λ k below. h.each (suc k) (omega (arith, below)) ∙ ap (λ (m : ℕ). slot_at tree (take m p)) (omega arith);
    }) in
    let whole : suc n - 0 ≡ suc n = omega arith in
    let here : x ≡ slot_at tree (take (suc n) p) = h.each 0 (omega arith) ∙ ap (λ (m : ℕ). slot_at tree (take m p)) whole in
    let first = ap (λ slot. one_at slot leaf s j) here in
    omega (arith, sum_by-cons (λ slot. one_at slot leaf s j) x ns, rest, first)

module _ (tree : Groups) (p : Path) (notes : Noted) (noted : IsNoted tree p notes) where
  pub charges_noted : (leaf s j : ℕ) → sum_by (λ slot. one_at slot leaf s j) notes.slots ≡ charges_at tree p leaf s j
  charges_noted leaf s j = chain_noted tree p leaf s j (length p) notes.slots (record { many = noted.slots.many; each = noted.slots.each })

  module _ (home : IsSome (fin.get tree p)) (prefixes : (p q : Path) → IsSome (fin.get tree p) → at_or_below p q ≡ true → IsSome (fin.get tree q)) where
    there : (k : ℕ) → IsSome (fin.get tree (take (length p - k) p))
    there k = prefixes p (take (length p - k) p) home (take_above (length p - k) p)

    pub below_noted : (slots : ℕ) → SlotsBelow slots tree → All (λ s. s < slots) notes.slots
    below_noted slots h = All-from_get_or (λ s. s < slots) notes.slots 0 (λ k below.
        let l = noted.slots.many in
        let inside : k < length p = omega (arith, below, l) in
        let long = length-take-le (length p - k) p (omega arith) in
        subst (λ (s : ℕ). s < slots) (sym (noted.slots.each k inside)) (h (take (length p - k) p) (omega (arith, long, inside)) (there k)))

    reached_by : (leaves : ℕ) (content : Content) (o : Option Attr) → IsSome o → max (peak_of o) (over_leaves leaves (content (slot_of o))) ≡ reached_of leaves content o
    reached_by leaves content None h = cc
    reached_by leaves content (Some a) h = refl

    -- the greater of each peak and the count at its slot
    pub reached_noted : (leaves : ℕ) (content final : Content) → ((s j : ℕ) → content s j ≡ final s j) → (ns : List ℕ) → length ns ≡ length notes.slots
        → ((k : ℕ) → k < length notes.slots → get_or ns k 0 ≡ max (get_or notes.peaks k 0) (over_leaves leaves (content (get_or notes.slots k 0))))
        → AreUpward (reached_of leaves final) tree p ns
    reached_noted leaves content final same ns many each = record {
      many = many ∙ noted.slots.many;
      each = λ k below.
          let l = noted.slots.many in
          each k (omega (arith, below, l))
          ∙ (λ i. max (noted.peaks.each k below i) (over_leaves leaves (content (noted.slots.each k below i))))
          ∙ ap (max (peak_of (fin.get tree (take (length p - k) p)))) (over_leaves-same leaves _ _ (same (slot_at tree (take (length p - k) p))))
          ∙ reached_by leaves final (fin.get tree (take (length p - k) p)) (there k);
    }
