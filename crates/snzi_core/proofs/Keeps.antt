-- Each lawful event leaves a core.
use Rattle.std.proofs.Common.{◌≡◌, Bool, true, false, cond, List, [], ◌∷◌, ◌++◌, refl, sym, ap, ◌∙◌, subst, None, Result, Ok, Err}
use Rattle.std.specs.Prelude.{OnOk, IfErr}
use Rattle.snzi_core.specs.declared.unlawful.Unlawful.{Unlawful}
use Rattle.snzi_core.specs.declared.event.Event.{Event}
use Rattle.snzi_core.specs.declared.event.Event.TheVariants.{Load, FastAdd, RootAdd, ChildAdd, Leave, StripeAdd, Split, Join}
use Rattle.snzi_core.specs.CoreState.{CoreState, node_of, SameShape}
use Rattle.snzi_core.specs.Lawful.{refusal, is_zero, passes_up}
use Rattle.snzi_core.specs.Effect.{after, Runs, Refuses}
use Rattle.snzi_core.specs.Kept.{IsCore}
use Rattle.snzi_core.proofs.LawfulSteps.{ready_fast, ready_root, ready_first, ready_child, ready_last, ready_leave, ready_stripe}
use Rattle.snzi_core.proofs.CoreSplits.{split_lawful, split_core}
use Rattle.snzi_core.proofs.CoreJoins.{join_core}
use Rattle.snzi_core.proofs.Lawfulness.{join}

by_test : (b : Bool) (x y : CoreState) → (b ≡ true → IsCore x) → (b ≡ false → IsCore y) → IsCore (cond b x y)
by_test true x y p q = p refl
by_test false x y p q = q refl

pub keeps : (k : CoreState) (e : Event) → IsCore k → refusal k e ≡ None → IsCore (after k e)
keeps k (Load hand slot word) c e = c
keeps k (FastAdd hand at) c e = (ready_fast k c hand at e).3
keeps k (RootAdd hand slot) c e = (ready_root k c hand slot e).3
keeps k (ChildAdd hand at) c e = by_test (is_zero k (node_of k at)) _ _ (λ z. (ready_first k c hand at e z).4) (λ n. (ready_child k c hand at e n).3)
keeps k (Leave hand at) c e = by_test (passes_up k at) _ _ (λ z. (ready_last k c hand at e z).4) (λ n. (ready_leave k c hand at e n).3)
keeps k (StripeAdd hand slot s n) c e = (ready_stripe k c hand slot s n e).2
keeps k (Split share) c e = let l = split_lawful k share.now e in split_core k share.now c l.1 l.2
keeps k (Join helper) c e = let l = join k helper e in join_core k c helper l.0 l.1

-- one event more
pub runs_more : (k k' k'' : CoreState) (es : List Event) (e : Event) → Runs k es k' → refusal k' e ≡ None → k'' ≡ after k' e → Runs k (es ++ e ∷ []) k''
runs_more k k' k'' [] e r lawful is = (subst (λ (s : CoreState). refusal s e ≡ None) r lawful, is ∙ ap (λ (s : CoreState). after s e) r)
runs_more k k' k'' (x ∷ es) e r lawful is = (r.0, runs_more (after k x) k' k'' es e r.1 lawful is)

-- a step leaves a core, done or refused
pub step_core : {T : Type 0} (k k' : CoreState) (e : Event) (r : Result T Unlawful) → IsCore k → refusal k e ≡ None → OnOk r (k' ≡ after k e) → IfErr r (λ u. Refuses u k e × (k' ≡ k)) → IsCore k'
step_core k k' e (Ok x) c lawful ok err = subst IsCore (sym ok) (keeps k e c lawful)
step_core k k' e (Err u) c lawful ok err = subst IsCore (sym err.1) c

-- a list of lawful events leaves a core
pub runs_core : (k k' : CoreState) (es : List Event) → IsCore k → Runs k es k' → IsCore k'
runs_core k k' [] c r = subst IsCore (sym r) c
runs_core k k' (e ∷ es) c r = runs_core (after k e) k' es (keeps k e c r.0) r.1

-- no event changes the shape
cond_shape : (b : Bool) (k x y : CoreState) → SameShape k x → SameShape k y → SameShape k (cond b x y)
cond_shape true k x y p q = p
cond_shape false k x y p q = q

after_shape : (k : CoreState) (e : Event) → SameShape k (after k e)
after_shape k (Load hand slot word) = (refl, refl)
after_shape k (FastAdd hand at) = (refl, refl)
after_shape k (RootAdd hand slot) = (refl, refl)
after_shape k (ChildAdd hand at) = cond_shape (is_zero k (node_of k at)) k _ _ (refl, refl) (refl, refl)
after_shape k (Leave hand at) = cond_shape (passes_up k at) k _ _ (refl, refl) (refl, refl)
after_shape k (StripeAdd hand slot s n) = (refl, refl)
after_shape k (Split share) = (refl, refl)
after_shape k (Join helper) = (refl, refl)

pub step_shape : {T : Type 0} (k k' : CoreState) (e : Event) (r : Result T Unlawful) → OnOk r (k' ≡ after k e) → IfErr r (λ u. Refuses u k e × (k' ≡ k)) → SameShape k k'
step_shape k k' e (Ok x) ok err = let s = after_shape k e in (ap (λ (x : CoreState). x.slots) ok ∙ s.0, ap (λ (x : CoreState). x.nodes) ok ∙ s.1)
step_shape k k' e (Err u) ok err = (ap (λ (x : CoreState). x.slots) err.1, ap (λ (x : CoreState). x.nodes) err.1)

pub shape_trans : (a b c : CoreState) → SameShape a b → SameShape b c → SameShape a c
shape_trans a b c p q = (q.0 ∙ p.0, q.1 ∙ p.1)
