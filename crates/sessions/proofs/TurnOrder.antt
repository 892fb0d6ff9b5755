-- Turns in a row, one command after the other.
use Rattle.std.proofs.Common.{◌≡◌, ◌∙◌, ℕ, ◌+◌, ◌<◌, ◌%◌, List, [], ◌∷◌, ◌++◌, map, take, drop, length, length-set, get_or, refl, sym, ap, subst, arith, Some, Result, Ok, Err, IsErr, MatchResult}
use Rattle.std.specs.Prelude.{slice_set}
use Rattle.std.proofs.Math.Nat.{mod-lt}
use Rattle.std.proofs.lemmas.Bool.{false≢true}
use Rattle.std.proofs.lemmas.List.{length-map, length-take-le, map-append, set-get_or, take_all, take_more, take-append-drop, drop_more}
use Rattle.std.proofs.lemmas.Option.{slice_get-get_or}
use Rattle.flat_model.specs.Command.{Command}
use Rattle.flat_model.specs.Log.{Session}
use Rattle.sessions.specs.declared.fault.RunFault.{RunFault}
use Rattle.sessions.specs.Receipts.{LastAt}
use Rattle.sessions.specs.Turns.{TakeSomeTurns, TakeTurns, TakesTurn}

-- what the session at the index of the turn does, all sessions do
pub turn_of : (result : Result ℕ RunFault) (turn : ℕ) (c : Command) (ss : List Session) (d new : Session) → 0 < length ss
    → MatchResult result (λ _. LastAt turn c (get_or ss (turn % length ss) d) new) (λ _. new ≡ get_or ss (turn % length ss) d)
    → MatchResult result (λ _. TakesTurn turn c ss (slice_set ss (turn % length ss) new)) (λ _. slice_set ss (turn % length ss) new ≡ ss)
turn_of (Ok n) turn c ss d new some ran = record {
  old = get_or ss (turn % length ss) d;
  new = new;
  is_at = slice_get-get_or ss (turn % length ss) d (mod-lt turn some);
  ran = ran;
  after_is = refl;
}
turn_of (Err e) turn c ss d new some same =
    let at = turn % length ss in
    ap (λ s. slice_set ss at s) same ∙ set-get_or ss at d

-- ---- one command more

turns_more : (turn : ℕ) (cs : List Command) (c : Command) (before between after : List Session)
    → TakeTurns turn cs before between → TakesTurn (turn + length cs) c between after → TakeTurns turn (cs ++ c ∷ []) before after
turns_more turn [] c before between after turns one =
    let here : turn + 0 ≡ turn = omega arith in
    (after, subst (λ ss. TakesTurn turn c ss after) turns (subst (λ n. TakesTurn n c between after) here one), refl)
turns_more turn (d ∷ cs) c before between after turns one =
    let here : turn + length (d ∷ cs) ≡ turn + 1 + length cs = omega arith in
    (turns.0, turns.1, turns_more (turn + 1) cs c turns.0 between after turns.2 (subst (λ n. TakesTurn n c between after) here one))

pub still_some : (turn : ℕ) (c : Command) (before after : List Session) → TakesTurn turn c before after → 0 < length before → 0 < length after
still_some turn c before after one some =
    let n = ap length one.after_is in
    let m = length-set before (turn % length before) one.new in
    omega (arith, n, m, some)

-- the commands up to the next one
pub turns_to : {X : Type 0} (f : X → Command) (xs : List X) (i : ℕ) (x : X) (start turn : ℕ) (before between after : List Session)
    → i < length xs → x ≡ get_or xs i x → turn ≡ start + i → TakeTurns start (map f (take i xs)) before between → TakesTurn turn (f x) between after
    → TakeTurns start (map f (take (i + 1) xs)) before after
turns_to f xs i x start turn before between after inside is at turns one =
    let many : length (map f (take i xs)) ≡ i = length-map (take i xs) f ∙ length-take-le i xs (omega (arith, inside)) in
    let n : turn ≡ start + length (map f (take i xs)) = omega (arith, at, many) in
    let cut : map f (take (i + 1) xs) ≡ map f (take i xs) ++ f x ∷ [] =
    ap (λ t. map f t) (take_more xs i x inside ∙ ap (λ y. take i xs ++ y ∷ []) (sym is)) ∙ map-append f (take i xs) (x ∷ []) in
    subst (λ cs. TakeTurns start cs before after) (sym cut) (turns_more start (map f (take i xs)) (f x) before between after turns (subst (λ m. TakesTurn m (f x) between after) n one))

-- the commands before one that doesn't run
pub turns_before : {X A E : Type 0} (r : Result A E) (P : A → Type 0) (f : X → Command) (xs : List X) (i : ℕ) (x : X) (start : ℕ) (before between after : List Session)
    → IsErr r → i < length xs → x ≡ get_or xs i x → TakeTurns start (map f (take i xs)) before between → after ≡ between
    → MatchResult r P (λ _. TakeSomeTurns start (map f xs) before after)
turns_before (Ok a) P f xs i x start before between after err inside is turns same = absurd (false≢true err)
turns_before (Err e) P f xs i x start before between after err inside is turns same =
    let cut : xs ≡ take i xs ++ x ∷ drop (i + 1) xs =
    sym (take-append-drop i xs) ∙ ap (λ t. take i xs ++ t) (drop_more xs i x inside ∙ ap (λ y. y ∷ drop (i + 1) xs) (sym is)) in
    record {
      done = map f (take i xs);
      refused = f x;
      rest = map f (drop (i + 1) xs);
      commands = ap (λ t. map f t) cut ∙ map-append f (take i xs) (x ∷ drop (i + 1) xs);
      turns = subst (λ ss. TakeTurns start (map f (take i xs)) before ss) (sym same) turns;
    }
