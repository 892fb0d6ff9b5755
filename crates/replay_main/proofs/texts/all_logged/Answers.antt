use Rattle.std.proofs.Common.{rules, ◌≡◌, ◌∙◌, [], ◌∷◌, ◌++◌, take, true, ap, sym, subst, arith}
use Rattle.std.specs.List.{All}
use Rattle.std.proofs.lemmas.List.{take_all, take_more}
use Rattle.std.proofs.lemmas.List.Elements.{All-append, All-cons, All-nil}
use Rattle.replay_main.specs.declared.texts.Part.{Part}
use Rattle.replay_main.proofs.texts.all_logged.Goals as goal

pub loop-part-preserved : goal.loop-part-preserved
loop-part-preserved c =
    let parts = c.args.parts.now in
    let i = c.loop-part.part-index in
    let part = c.part-item.result in
    let P : Part → Type 0 = λ p. p.is_logged ≡ true in
    let logged : part.is_logged ≡ true = search (rules, c.if-not-part.false) in
    subst (λ ps. All P ps) (sym (take_more parts i part (omega (arith, c.loop-part-test.true)) ∙ ap (λ p. take i parts ++ p ∷ []) (sym c.part-item.is)))
    (All-append P (take i parts) (part ∷ []) c.loop-part.invariant (All-cons P part [] logged (All-nil P)))

pub returns : goal.returns
returns c =
    let P : Part → Type 0 = λ p. p.is_logged ≡ true in
    λ yes. subst (λ ps. All P ps) (take_all c.loop-part.part-index c.args.parts.now (omega (arith, c.loop-part-test.false))) c.loop-part.invariant
