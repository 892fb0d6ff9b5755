-- Rows of commands, one after the other.
use Rattle.std.proofs.Common.{◌≡◌, ◌∙◌, ℕ, ◌+◌, ◌%◌, List, [], ◌∷◌, length, length-append, length-set, refl, sym, ap, arith}
use Rattle.flat_model.specs.Command.{Command}
use Rattle.flat_model.specs.Log.{Session}
use Rattle.flat_model_laws.specs.AuditExamples.{made, receipt, session, shown}
use Rattle.sessions.specs.Turns.{TakeSomeTurns, TakeTurns, TakesTurn}

pub second_runs : TakesTurn 1 made.command (session 0 [] ∷ session 1 [] ∷ []) (session 0 [] ∷ session 1 (receipt 1 made ∷ []) ∷ [])
second_runs = record {
  old = session 1 [];
  new = session 1 (receipt 1 made ∷ []);
  is_at = refl;
  ran = (refl, (receipt 1 made, refl, refl, refl));
  after_is = refl;
}

pub first_runs : TakesTurn 2 shown.command (session 0 [] ∷ session 1 (receipt 1 made ∷ []) ∷ []) (session 0 (receipt 2 shown ∷ []) ∷ session 1 (receipt 1 made ∷ []) ∷ [])
first_runs = record {
  old = session 0 [];
  new = session 0 (receipt 2 shown ∷ []);
  is_at = refl;
  ran = (refl, (receipt 2 shown, refl, refl, refl));
  after_is = refl;
}

-- how many receipts the first of the sessions has
receipts_of_first : List Session → ℕ
receipts_of_first [] = 0
receipts_of_first (s ∷ ss) = length s.receipts

pub not_the_first : (after : List Session) → TakesTurn 1 made.command (session 0 [] ∷ session 1 [] ∷ []) after
    → after ≡ session 0 (receipt 1 made ∷ []) ∷ session 1 [] ∷ [] → ⊥
unfolding receipts_of_first
not_the_first after one is = let n = ap receipts_of_first (sym is ∙ one.after_is) in omega (arith, n)

pub as_many : (turn : ℕ) (cs : List Command) (before after : List Session) → TakeTurns turn cs before after → length after ≡ length before
as_many turn [] before after turns = ap length turns
as_many turn (c ∷ cs) before after turns =
    let one = turns.1 in
    as_many (turn + 1) cs turns.0 after turns.2 ∙ ap length one.after_is ∙ length-set before (turn % length before) one.new

pub never_all : (turn : ℕ) (before after : List Session) → TakeSomeTurns turn [] before after → ⊥
never_all turn before after some =
    let n = ap length some.commands in
    let m = length-append some.done (some.refused ∷ some.rest) in
    omega (arith, n, m)
