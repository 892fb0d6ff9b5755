use Rattle.std.proofs.Common.{◌≡◌, ◌≢◌, ℕ, ◌+◌, ◌-◌, ◌<◌, List, ◌∷◌, Option, length, get_or, subst, sym, ap, ◌∙◌, arith}
use Rattle.std.specs.List.{swap_remove}
use Rattle.std.specs.List.Sorted.{IsPermutation}
use Rattle.std.proofs.lemmas.List.{get_or_read}
use Rattle.std.proofs.lemmas.List.Sorted.{IsPermutation-swap_remove}
use Rattle.process_table.specs.Members.{HasLeft, IsRead}
use Rattle.process_table.proofs.members.Members.leave.Goals as goal

left_by : (xs ys : List ℕ) (place x : ℕ) (moved : Option ℕ) → place < length xs → x ≡ get_or xs place x → ys ≡ swap_remove xs place x → length ys + 1 ≡ length xs
    → ((d : ℕ) → place + 1 < length xs → get_or ys place d ≡ get_or xs (length xs - 1) d) → ((k d : ℕ) → k ≢ place → k + 1 < length xs → get_or ys k d ≡ get_or xs k d)
    → IsRead ys place moved → HasLeft xs place moved ys
left_by xs ys place x moved within value items len last stay comes = record {
  fewer = len;
  others = subst (λ l. IsPermutation xs (get_or xs place 0 ∷ l)) (sym items)
      (subst (λ y. IsPermutation xs (y ∷ swap_remove xs place x)) (get_or_read xs place x within value 0)
      (IsPermutation-swap_remove xs place x within value));
  stay = λ k ne lt. stay k 0 ne (omega (arith, len));
  last = λ lt. last 0 (omega (arith, len)) ∙ ap (λ n. get_or xs n 0) (omega (arith, len));
  comes = comes;
}

pub returns : goal.returns
returns g c =
    let old = c.self.inside.pids in
    let new = c.swap_remove.new.self in
    let long : old.len ≡ length old.items = omega (arith, old.ok) in
    let short : new.len ≡ length new.items = omega (arith, new.ok) in
    let by = c.swap_remove.ensures.by_index in
    subst (λ l. HasLeft l c.args.place c.read.result new.items) c.self.view_is
    (left_by old.items new.items c.args.place c.swap_remove.result c.read.result (rw c.self.view_is c.requires) c.swap_remove.ensures.value
    c.swap_remove.ensures.items (omega (arith, c.swap_remove.ensures.len, long, short))
    (λ d lt. by.0 d (omega (arith, lt, long)) ∙ ap (λ n. get_or old.items (n - 1) d) long) (λ k d ne lt. by.1 k d ne (omega (arith, lt, long)))
    (subst (λ l. IsRead l c.args.place c.read.result) c.as_slice.ensures.value c.read.ensures))
