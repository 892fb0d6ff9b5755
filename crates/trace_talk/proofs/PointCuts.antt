-- Lines in two parts: the machine, the answers and the two numbers behind the second go on from where the first leaves them.
use Rattle.std.proofs.Common.{◌≡◌, ◌∙◌, ℕ, ◌+◌, List, [], ◌∷◌, ◌++◌, append_assoc, refl, sym, ap, arith}
use Rattle.std.specs.List.{count_by}
use Rattle.flat_model.proofs.Sums.{count_by-cons, count_by-append}
use Rattle.flat_model.specs.Command.{Reply}
use Rattle.flat_model.specs.Machine.{Machine, end_of, replies, tick}
use Rattle.flat_model.specs.Replies.{command_count, commands_in, fault_bytes, is_fault, is_numbered, is_refused, out, reply_bytes}
use Rattle.flat_model.specs.Trace.{Line, Skip, Run, Fault}
use Rattle.undo_journal.specs.Slots.{slots}
use Rattle.trace_talk.specs.Points.{Point, answers_on, point_after, replies_on}

answers_cut : (n : ℕ) (m : Machine) (a b : List Line)
    → out n (a ++ b) (replies slots m (commands_in (a ++ b))) ≡ out n a (replies slots m (commands_in a))
    ++ out (n + command_count a) b (replies slots (end_of slots m (commands_in a)) (commands_in b))
answers_cut n m [] b = let e : n ≡ n + 0 = omega arith in ap (λ k. out k b (replies slots m (commands_in b))) e
answers_cut n m (Skip ∷ a) b =
    let count = count_by-cons is_numbered Skip a in
    let e : n + command_count a ≡ n + command_count (Skip ∷ a) = omega (arith, count) in
    answers_cut n m a b ∙ ap (λ k. out n a (replies slots m (commands_in a)) ++ out k b (replies slots (end_of slots m (commands_in a)) (commands_in b))) e
answers_cut n m (Fault f ∷ a) b =
    let count = count_by-cons is_numbered (Fault f) a in
    let e : n + 1 + command_count a ≡ n + command_count (Fault f ∷ a) = omega (arith, count) in
    let rs = replies slots m (commands_in a) in
    let after = replies slots (end_of slots m (commands_in a)) (commands_in b) in
    ap (λ t. fault_bytes n f ++ t) (answers_cut (n + 1) m a b ∙ ap (λ k. out (n + 1) a rs ++ out k b after) e)
    ∙ sym (append_assoc (fault_bytes n f) (out (n + 1) a rs) (out (n + command_count (Fault f ∷ a)) b after))
answers_cut n m (Run c ∷ a) b =
    let count = count_by-cons is_numbered (Run c) a in
    let e : n + 1 + command_count a ≡ n + command_count (Run c ∷ a) = omega (arith, count) in
    let next = (tick slots m c).0 in
    let r = (tick slots m c).1 in
    let rs = replies slots next (commands_in a) in
    let after = replies slots (end_of slots next (commands_in a)) (commands_in b) in
    ap (λ t. reply_bytes n r ++ t) (answers_cut (n + 1) next a b ∙ ap (λ k. out (n + 1) a rs ++ out k b after) e)
    ∙ sym (append_assoc (reply_bytes n r) (out (n + 1) a rs) (out (n + command_count (Run c ∷ a)) b after))

end_cut : (m : Machine) (a b : List Line) → end_of slots m (commands_in (a ++ b)) ≡ end_of slots (end_of slots m (commands_in a)) (commands_in b)
end_cut m [] b = refl
end_cut m (Skip ∷ a) b = end_cut m a b
end_cut m (Fault f ∷ a) b = end_cut m a b
end_cut m (Run c ∷ a) b = end_cut (tick slots m c).0 a b

replies_cut : (m : Machine) (a b : List Line) → replies slots m (commands_in (a ++ b)) ≡ replies slots m (commands_in a) ++ replies slots (end_of slots m (commands_in a)) (commands_in b)
replies_cut m [] b = refl
replies_cut m (Skip ∷ a) b = replies_cut m a b
replies_cut m (Fault f ∷ a) b = replies_cut m a b
replies_cut m (Run c ∷ a) b = ap (λ (t : List Reply). (tick slots m c).1 ∷ t) (replies_cut (tick slots m c).0 a b)

pub point_cut : (p : Point) (a b : List Line) → point_after p (a ++ b) ≡ point_after (point_after p a) b
point_cut p a b =
    let machine = end_cut p.machine a b in
    let commands : p.commands + command_count (a ++ b) ≡ p.commands + command_count a + command_count b = let k = count_by-append is_numbered a b in omega (arith, k) in
    let refused : (point_after p (a ++ b)).refused ≡ (point_after (point_after p a) b).refused =
    let f = count_by-append is_fault a b in
    let k = ap (count_by is_refused) (replies_cut p.machine a b) ∙ count_by-append is_refused (replies_on p a) (replies_on (point_after p a) b) in
    omega (arith, f, k) in
    λ i. record { machine = machine i; commands = commands i; refused = refused i }

pub answers_on_cut : (p : Point) (a b : List Line) → answers_on p (a ++ b) ≡ answers_on p a ++ answers_on (point_after p a) b
answers_on_cut p a b =
    let e : p.commands + 1 + command_count a ≡ p.commands + command_count a + 1 = omega arith in
    answers_cut (p.commands + 1) p.machine a b ∙ ap (λ k. answers_on p a ++ out k b (replies_on (point_after p a) b)) e
