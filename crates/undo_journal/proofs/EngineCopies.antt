-- A copy has the same machine, and has forgotten as much; and the replies that a copy gives are the machine's.
use Rattle.std.proofs.Common.{◌≡◌, ◌++◌, ◌∷◌, [], ℕ, ◌+◌, ◌<◌, ◌≤◌, List, Option, Some, map, take, drop, length, get_or, reverse, sym, ap, subst, ◌∙◌}
use Rattle.std.proofs.lemmas.List.{append_assoc, append-nil, map_push, map_more, take_all, drop_more, drop_all}
use Rattle.flat_model.specs.Command as model
use Rattle.flat_model.specs.Inverse as model_inverse
use Rattle.flat_model.specs.State.{State}
use Rattle.flat_model.specs.Machine.{replies, tick}
use Rattle.undo_journal.specs.declared.command.Command.{Command}
use Rattle.undo_journal.specs.declared.reply.Reply.{Reply}
use Rattle.undo_journal.specs.declared.journal.JournalEntry.{JournalEntry}
use Rattle.undo_journal.specs.CommandMeaning.{command_of, reply_of}
use Rattle.undo_journal.specs.Answer.{Answers}
use Rattle.undo_journal.specs.History.{journal_entry, records, timeline_of, IsHistory}
use Rattle.undo_journal.specs.Timeline.{Timeline}

-- ---- one entry after another

module _ {X Y Z : Type 0} (f : X → Z) (g : Y → Z) (xs : List X) (ys : List Y) where
  pub one_more : (ys' : List Y) (i : ℕ) (x : X) (y : Y) → i < length xs → x ≡ get_or xs i x → ys' ≡ ys ++ y ∷ [] → g y ≡ f x → map g ys ≡ map f (take i xs) → map g ys' ≡ map f (take (i + 1) xs)
  one_more ys' i x y l is new e h = ap (map g) new ∙ map_push g ys y ∙ (λ k. h k ++ (e ∙ ap f is) k ∷ []) ∙ sym (map_more f xs i x l)

  pub all_entries : (i : ℕ) → length xs ≤ i → map g ys ≡ map f (take i xs) → map g ys ≡ map f xs
  all_entries i l h = h ∙ ap (map f) (take_all i xs l)

-- ---- the same machine

module _ {A B : Type 0} (s s' : State) (js : List (JournalEntry A)) (js' : List (JournalEntry B)) (state : s' ≡ s) (entries : map journal_entry js' ≡ map journal_entry js) where
  pub same_timeline : (forgotten : ℕ) → timeline_of forgotten s' js' ≡ timeline_of forgotten s js
  same_timeline forgotten = λ k. record { machine = record { state = state k; past = model_inverse.past_of (state k) (reverse (entries k)) }; forgotten = forgotten }

  pub same_history : (slots forgotten : ℕ) → IsHistory slots forgotten s (records js) → IsHistory slots forgotten s' (records js')
  same_history slots forgotten h = subst (λ (t : State). IsHistory slots forgotten t (records js')) (sym state) (subst (IsHistory slots forgotten s) (sym (ap reverse entries)) h)

-- ---- one command after another

module _ {A B : Type 0} (slots : ℕ) (cs : List (Command A)) (rs : List (Reply B)) (t : Timeline) (all : List (Option model.Reply)) (i : ℕ) where
  pub one_said : (next : Timeline) (rs' : List (Reply B)) (c : Command A) (r : Reply B) → i < length cs → c ≡ get_or cs i c → rs' ≡ rs ++ r ∷ [] → Answers slots t (command_of c) r next
      → map reply_of rs ++ map Some (replies slots t.machine (map command_of (drop i cs))) ≡ all
      → map reply_of rs' ++ map Some (replies slots next.machine (map command_of (drop (i + 1) cs))) ≡ all
  one_said next rs' c r l is new a h =
      let rest = map Some (replies slots (tick slots t.machine (command_of c)).0 (map command_of (drop (i + 1) cs))) in
      let cut : drop i cs ≡ c ∷ drop (i + 1) cs = drop_more cs i c l ∙ (λ k. sym is k ∷ drop (i + 1) cs) in
      (λ k. (ap (map reply_of) new ∙ map_push reply_of rs r) k ++ map Some (replies slots (a.state k).machine (map command_of (drop (i + 1) cs))))
      ∙ (λ k. (map reply_of rs ++ a.reply_is k ∷ []) ++ rest)
      ∙ append_assoc (map reply_of rs) (Some (tick slots t.machine (command_of c)).1 ∷ []) rest
      ∙ sym (ap (λ (ds : List (Command A)). map reply_of rs ++ map Some (replies slots t.machine (map command_of ds))) cut)
      ∙ h

  pub all_said : length cs ≤ i → map reply_of rs ++ map Some (replies slots t.machine (map command_of (drop i cs))) ≡ all → map reply_of rs ≡ all
  all_said l h =
      sym (append-nil (map reply_of rs)) ∙ sym (ap (λ (ds : List (Command A)). map reply_of rs ++ map Some (replies slots t.machine (map command_of ds))) (drop_all i cs l)) ∙ h
