use Rattle.std.proofs.Common.{◌≡◌, ℕ, ◌+◌, ◌-◌, ◌<◌, ◌≤◌, List, [], ◌∷◌, ◌++◌, length, take, drop, slice_set, replicate, refl, ap, ◌∙◌, arith, append_assoc, length-append, length-drop, length-set}
use Rattle.std.proofs.Math.Seq.{set-append_seam, take-append-add}
use Rattle.std.proofs.lemmas.Slice.{take-put_mid}
use borrow.Rule.Slice.PartMut.{put_mid}
use Rattle.inline_bytes.proofs.bytes.InlineBytes.inline_joined.Goals as goal

-- a byte written behind the first ones
one_more : (front rest : List ℕ) (between : ℕ) → 0 < length rest → take (length front + 1) (slice_set (front ++ rest) (length front) between) ≡ front ++ between ∷ []
one_more front [] between some = absurd (let none : ⊥ = omega arith in none)
one_more front (old ∷ rest) between some = ap (take (length front + 1)) (set-append_seam front old rest between) ∙ take-append-add front (between ∷ rest) 1

-- and the last ones behind it
joined : (front back bytes : List ℕ) (between k : ℕ) → length front + 1 + length back ≤ length bytes
    → take (length front + 1
    + length back) (put_mid (length front + 1) k (slice_set (front ++ drop (length front) bytes) (length front) between) back)
    ≡ front ++ between ∷ back
joined front back bytes between k fits =
    let rest = drop (length front) bytes in
    let some : 0 < length rest = omega (arith, length-drop (length front) bytes) in
    let room : length front + 1 ≤ length (slice_set (front ++ rest) (length front) between) =
    omega (arith, length-append front rest, length-drop (length front) bytes, length-set (front ++ rest) (length front) between) in
    take-put_mid (length front + 1) k (slice_set (front ++ rest) (length front) between) back (length front + 1 + length back) refl room
    ∙ ap (λ (x : List ℕ). x ++ back) (one_more front rest between some) ∙ append_assoc front (between ∷ []) back

pub returns : goal.returns
returns g c =
    rw (
      c.copy_from_slice.ensures.after,
      c.copy_from_slice-2.ensures.after,
    ) (joined c.args.front.now c.args.back.now (replicate 22 0) c.args.between (length c.args.front.now
    + 1 + length c.args.back.now - (length c.args.front.now + 1)) c.requires)
