-- A machine with less of a past answers the same until an undo takes back what it lacks.
use Rattle.std.proofs.Common.{◌≡◌, ◌∙◌, ℕ, ◌≤◌, true, false, cond, List, [], ◌∷◌, ◌++◌, length, Option, Some, None, refl, sym, ap, subst, arith}
use Rattle.flat_model.specs.State.{State}
use Rattle.flat_model.specs.Command as model
use Rattle.flat_model.specs.Step.{refusal, after, after_refusal}
use Rattle.flat_model.specs.Machine.{Machine, accepted, recorded, outcome, undone, tick, replies, end_of, TakesBackItsOwn}

abbrev Past : Type 0
Past = List (model.Command × State)

-- the machine with this past, and behind it what was recorded before
abbrev over : State → Past → Past → Machine
over s past rest = record { state = s; past = past ++ rest }

abbrev alone : State → Past → Machine
alone s past = record { state = s; past = past }

-- both come to one state, give one reply and put the same in front
record Alike (rest : Past) (a b : Machine × model.Reply) : Type 0 where
  state : State
  past : Past
  reply : model.Reply
  shorter : a ≡ (alone state past, reply)
  longer : b ≡ (over state past rest, reply)

module _ (rest : Past) (s : State) (past : Past) where
  outcome_alike : (c : model.Command) (o : Option model.Refusal) → Alike rest (outcome (alone s past) c o) (outcome (over s past rest) c o)
  outcome_alike c None =
      elim (model.changes c) as (λ b. Alike rest (
        cond b (recorded (alone s past) c (after s c)) (alone s past),
        accepted s c,
      ) (cond b (recorded (over s past rest) c (after s c)) (over s past rest), accepted s c)) [
        | true ↦ record { state = after s c; past = (c, s) ∷ past; reply = accepted s c; shorter = refl; longer = refl }
        | false ↦ record { state = s; past = past; reply = accepted s c; shorter = refl; longer = refl }
      ]
  outcome_alike c (Some r) =
      elim (model.is_counted r) as (λ b. Alike rest (
        cond b (recorded (alone s past) c (after_refusal s r)) (alone s past),
        model.Refused r,
      ) (cond b (recorded (over s past rest) c (after_refusal s r)) (over s past rest), model.Refused r)) [
        | true ↦ record { state = after_refusal s r; past = (c, s) ∷ past; reply = model.Refused r; shorter = refl; longer = refl }
        | false ↦ record { state = s; past = past; reply = model.Refused r; shorter = refl; longer = refl }
      ]

undone_alike : (rest : Past) (s : State) (past : Past) → length rest ≤ length (undone s (past ++ rest)).0.past → Alike rest (undone s past) (undone s (past ++ rest))
undone_alike [] s [] l = record { state = s; past = []; reply = model.NothingToUndo; shorter = refl; longer = refl }
undone_alike (e ∷ rest) s [] l = absurd (omega (arith, l))
undone_alike rest s (e ∷ past) l = record { state = e.1; past = past; reply = model.Undone e.0; shorter = refl; longer = refl }

module _ (slots : ℕ) (rest : Past) where
  tick_alike : (s : State) (past : Past) (c : model.Command) → length rest ≤ length (tick slots (over s past rest) c).0.past
      → Alike rest (tick slots (alone s past) c) (tick slots (over s past rest) c)
  tick_alike s past c l =
      elim (model.is_undo c) as (λ b. length rest ≤ length (cond b (undone s (past ++ rest)) (outcome (over s past rest) c (refusal slots s c))).0.past
      → Alike rest (cond b (undone s past) (outcome (alone s past) c (refusal slots s c))) (cond b (undone s (past ++ rest)) (outcome (over s past rest) c (refusal slots s c)))) [
        | true ↦ λ h. undone_alike rest s past h
        | false ↦ λ h. outcome_alike rest s past c (refusal slots s c)
      ] l

  run_alike : (cs : List model.Command) (s : State) (past : Past) → TakesBackItsOwn slots (length rest) (over s past rest) cs
      → (replies slots (alone s past) cs ≡ replies slots (over s past rest) cs) × ((end_of slots (alone s past) cs).state ≡ (end_of slots (over s past rest) cs).state)
  run_alike [] s past own = (refl, refl)
  run_alike (c ∷ cs) s past own =
      let one = tick_alike s past c own.0 in
      let more = run_alike cs one.state one.past (subst (λ (x : Machine × model.Reply). TakesBackItsOwn slots (length rest) x.0 cs) one.longer own.1) in (
        (λ k. (one.shorter k).1 ∷ replies slots (one.shorter k).0 cs)
            ∙ ap (λ (rs : List model.Reply). one.reply ∷ rs) more.0
            ∙ sym (λ k. (one.longer k).1 ∷ replies slots (one.longer k).0 cs),
        ap (λ (x : Machine × model.Reply). (end_of slots x.0 cs).state) one.shorter
            ∙ more.1
            ∙ sym (ap (λ (x : Machine × model.Reply). (end_of slots x.0 cs).state) one.longer),
      )

-- so does one that has forgotten everything
pub forgets_alike : (slots : ℕ) (m : Machine) (cs : List model.Command) → TakesBackItsOwn slots (length m.past) m cs
    → (replies slots (alone m.state []) cs ≡ replies slots m cs) × ((end_of slots (alone m.state []) cs).state ≡ (end_of slots m cs).state)
forgets_alike slots m cs own = run_alike slots m.past cs m.state [] own

-- a past without a length is empty
pub empty : (past : Past) → length past ≡ 0 → past ≡ []
empty [] z = refl
empty (e ∷ past) z = absurd (omega (arith, z))
