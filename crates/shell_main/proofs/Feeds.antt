-- The first line feed.
use Rattle.std.proofs.Common.{◌≡◌, ◌∙◌, ℕ, ◌+◌, ◌<◌, nat_lt, List, ◌∷◌, ◌++◌, take, drop, length, get_or, refl, sym, ap, subst, arith, Some, None}
use Rattle.std.specs.List.{position, position_or_len}
use Rattle.std.proofs.lemmas.Bool.{eqb-true}
use Rattle.std.proofs.lemmas.List.{get_or-take, length-take}
use Rattle.std.proofs.lemmas.List.Quantifiers.{position-Some}
use Rattle.std.proofs.lemmas.List.Sums.{fails_before_first, split_at_first}
use Rattle.flat_model.specs.Trace.{is_line_feed}
use Rattle.shell_main.specs.WholeLines.{HasNoFeed}
use Rattle.flat_model.proofs.Booleans.{place_by, no_place}

place : (bytes : List ℕ) (end : ℕ) → Some end ≡ position is_line_feed bytes → (position_or_len is_line_feed bytes < length bytes) × (position_or_len is_line_feed bytes ≡ end)
place bytes end h = place_by (position_or_len is_line_feed bytes) (length bytes) end (nat_lt (position_or_len is_line_feed bytes) (length bytes)) refl h

pub no_feed : (bytes : List ℕ) → None ≡ position is_line_feed bytes → HasNoFeed bytes
no_feed bytes h =
    let e = no_place (position_or_len is_line_feed bytes) (length bytes) (nat_lt (position_or_len is_line_feed bytes) (length bytes)) refl h in
    λ k d l. fails_before_first is_line_feed bytes k d (let j : k < position_or_len is_line_feed bytes = omega arith in j)

pub at_feed : (bytes : List ℕ) (end : ℕ) → Some end ≡ position is_line_feed bytes → (bytes ≡ take end bytes ++ 0x0A ∷ drop (end + 1) bytes) × HasNoFeed (take end bytes)
at_feed bytes end h =
    let e = place bytes end h in
    let P : ℕ → Type 0 = λ n. bytes ≡ take n bytes ++ get_or bytes n 0 ∷ drop (n + 1) bytes in
    let cut : P end = subst P e.1 (split_at_first is_line_feed bytes 0 e.0) in
    let feed = eqb-true (get_or bytes end 0) 0x0A (position-Some is_line_feed bytes end 0 (sym h)).1 in (
      cut ∙ ap (λ b. take end bytes ++ b ∷ drop (end + 1) bytes) feed,
      λ k d l. let below : k < end = let m = length-take end bytes in omega (arith, l, m) in
          ap is_line_feed (get_or-take end bytes k d below) ∙ (position-Some is_line_feed bytes end d (sym h)).2 k below,
    )
