-- A hand that may act may act after each of its steps.
use Rattle.std.proofs.Common.{◌≡◌, ℕ, sym, subst}
use mathlib.Core.Logic.{dite}
use native.Mathlib.Decide.{ℕ_discrete}
use Rattle.atomic_table.specs.Table.{Step}
use Rattle.snzi_core.specs.Shape.{parent}
use Rattle.snzi_tree.specs.declared.board.View.{View}
use Rattle.snzi_tree.specs.BoardEvents.{StaysActive}
use Rattle.snzi_tree.specs.Tell.{looked, queried, summed, root_added, child_added, fast_added, left, added_on, staged, unstaged}
use Rattle.snzi_tree.specs.View.{Acts, Knows}

still : (u v : View) → u ≡ v → Acts v → Acts u
still u v is acts = subst (λ (x : View). Acts x) (sym is) acts

module _ (st : Step (Unit {0})) (me : Knows) (acts : Acts me.0) where
  pub looked_active : StaysActive (looked st me)
  looked_active r m told = still m.0 me.0 told.0 acts

  pub queried_active : (w s : ℕ) → StaysActive (queried w s st me)
  queried_active w s r m told = still m.0 me.0 told.0 acts

  pub summed_active : StaysActive (summed st me)
  summed_active r m told = still m.0 me.0 told.0 acts

  pub staged_active : StaysActive (staged st me)
  staged_active r m told = still m.0 _ told.0 acts

  pub unstaged_active : StaysActive (unstaged st me)
  unstaged_active r m told = still m.0 _ told.0 acts

  pub root_active : StaysActive (root_added st me)
  root_active r m told = still m.0 _ told.0 acts

  pub stripe_active : StaysActive (added_on st me)
  stripe_active r m told = still m.0 _ told.0 acts

  pub child_active : (w s : ℕ) → StaysActive (child_added w s st me)
  child_active w s r m told = dite (ℕ_discrete r 0) (λ z. still m.0 _ (told.0 z) acts) (λ n. still m.0 _ (told.1 n) acts)

  pub fast_active : StaysActive (fast_added st me)
  fast_active r m told = dite (ℕ_discrete r st.first) (λ hit. still m.0 _ (told.0 hit) acts) (λ miss. still m.0 _ (told.1 miss) acts)

  pub left_active : (w s : ℕ) → StaysActive (left w s st me)
  left_active w s r m told = dite (ℕ_discrete (parent w s st.word) st.word)
      (λ root. still m.0 _ (told.2 root) acts)
      (λ child. dite (ℕ_discrete r 1) (λ one. still m.0 _ (told.0 one child) acts) (λ more. still m.0 _ (told.1 more) acts))
