use Rattle.std.proofs.Common.{◌≡◌, ◌∙◌, ◌<◌, ℕ, List, Bor, length, drop, get_or, sym, subst, rules, tests, arith}
use Rattle.std.proofs.lemmas.Iterator.{YieldsList}
use Rattle.std.proofs.lemmas.Iterator.Consumers.{YieldsList-at, YieldsList-turn, YieldsList-end}
use Rattle.std.proofs.lemmas.Iterator.Splits.{YieldsList-from_slice_split}
use Rattle.std.proofs.lemmas.List.{length_push, take_rest}
use Rattle.flat_model.specs.Path.{Name}
use Rattle.flat_model.specs.PathText.{is_slash, names_in}
use Rattle.line_engine.proofs.FaultyNames.{names_cut, within, place_more, faultless_more, too_many, at_fault, all_faultless}
use Rattle.line_engine.proofs.path_faults.faulty_name.Given.{iterator-loop-name}
use Rattle.line_engine.proofs.path_faults.faulty_name.Goals as goal
use Rattle.line_engine.proofs.path_faults.faulty_name.Goals.{After-into_iter-name-iterator, In-Some}
use Rattle.line_engine.proofs.path_faults.faulty_name.Goals.{then-count-eq-DEPTH_MAX-via-then-count-eq-DEPTH_MAX, then-count-eq-DEPTH_MAX-via-else-count-eq-DEPTH_MAX+then-is_faulty}

-- the loop takes the names of the text
names : (c : After-into_iter-name-iterator) → YieldsList iterator-loop-name.next_gives (λ (name : Bor (List ℕ)). name.now) c.into_iter-name-iterator.result (names_in c.args.text.now)
names c =
    subst (λ (xs : List Name). YieldsList iterator-loop-name.next_gives (λ (name : Bor (List ℕ)). name.now) c.into_iter-name-iterator.result xs) (names_cut c.args.text.now c.if-text-lt2.false)
    (YieldsList-at c.into_iter-name-iterator.ensures.into_iter_gives
    (YieldsList-from_slice_split _ is_slash (drop 1 c.args.text.now) (c.split-name-items.ensures.rest ∙ take_rest c.args.text.now 1)
    c.split-name-items.ensures.done c.split-name-items.ensures.closure (λ x b q k. search (rules, tests))))

-- the name of this turn is the one at the index that was counted
turn : (c : In-Some) → YieldsList iterator-loop-name.next_gives (λ (name : Bor (List ℕ)). name.now) c.into_iter-name-iterator.result (names_in c.args.text.now)
    → (c.loop-name.count < length (names_in c.args.text.now)) × (c.in-Some.name.now ≡ get_or (names_in c.args.text.now) c.loop-name.count c.in-Some.name.now)
turn c e =
    subst (λ (k : ℕ). (k < length (names_in c.args.text.now)) × (c.in-Some.name.now ≡ get_or (names_in c.args.text.now) k c.in-Some.name.now)) (sym c.loop-name.invariant.count)
    (YieldsList-turn e c.loop-name.yielded _ c.loop-name.yielded_by _ _ c.in-Some.name c.in-Some.is c.next.ensures.steps)

pub loop-name-preserved : goal.loop-name-preserved
loop-name-preserved c =
    let t = turn (goal.at.loop-name-preserved c).In-Some (names (goal.at.loop-name-preserved c).After-into_iter-name-iterator) in
    let i = c.loop-name.invariant in
    record {
      can = search rules;
      finite = search rules;
      count = omega (arith, length_push c.loop-name.yielded c.in-Some.name);
      few = omega arith;
      place = place_more (names_in c.args.text.now) c.loop-name.count c.loop-name.at c.in-Some.name.now t.0 t.1 i.place;
      faultless = faultless_more (names_in c.args.text.now) c.loop-name.count c.in-Some.name.now t.0 t.1 (sym c.is_faulty.ensures ∙ c.if-is_faulty.false) i.faultless;
    }

pub overflow_add-at-in-loop-name : goal.overflow_add-at-in-loop-name
overflow_add-at-in-loop-name c =
    let t = turn (goal.at.overflow_add-at-in-loop-name c).In-Some (names (goal.at.overflow_add-at-in-loop-name c).After-into_iter-name-iterator) in
    omega (arith, within c.args.text.now c.loop-name.count c.in-Some.name.now c.if-text-lt2.false t.0 t.1)

pub returns-then-count-eq-DEPTH_MAX : goal.returns-then-count-eq-DEPTH_MAX
returns-then-count-eq-DEPTH_MAX c =
    let t = turn (goal.at.returns-then-count-eq-DEPTH_MAX c).In-Some (names (goal.at.returns-then-count-eq-DEPTH_MAX c).After-into_iter-name-iterator) in
    let i = c.loop-name.invariant in
    elim c.then-count-eq-DEPTH_MAX.branch [
      | then-count-eq-DEPTH_MAX-via-then-count-eq-DEPTH_MAX w ↦ too_many (names_in c.args.text.now) c.loop-name.count c.loop-name.at t.0 i.faultless w.if-count-eq-DEPTH_MAX.true i.place
      | then-count-eq-DEPTH_MAX-via-else-count-eq-DEPTH_MAX+then-is_faulty w ↦
          at_fault (names_in c.args.text.now) c.loop-name.count c.loop-name.at c.in-Some.name.now t.0 t.1 (sym w.is_faulty.ensures ∙ w.if-is_faulty.true) i.faultless i.few i.place
    ]

pub returns : goal.returns
returns c =
    let e = YieldsList-end (names (goal.at.returns c).After-into_iter-name-iterator) c.loop-name.yielded _ c.loop-name.yielded_by _ _ c.in-None.is c.next.ensures.steps in
    let l : c.loop-name.count ≡ length (names_in c.args.text.now) = c.loop-name.invariant.count ∙ e.1 in
    all_faultless (names_in c.args.text.now) (omega arith) (omega arith)
