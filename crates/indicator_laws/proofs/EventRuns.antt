-- A list of events comes to one core, and stops in one way.
use Rattle.std.proofs.Common.{◌≡◌, ℕ, zero, suc, List, [], ◌∷◌, take, length, ◌<◌, ◌⊎◌, inl, inr, ⊎_elim, arith, refl, sym, ◌∙◌, subst, Option, Some, None}
use Rattle.std.specs.List.{slice_get}
use Rattle.snzi_core.specs.declared.unlawful.Unlawful.{Unlawful}
use Rattle.snzi_core.specs.declared.unlawful.Unlawful.TheVariants.{NoHand, NoToken, Cap, StillHolding, OutOfMemory, NoNode, ZeroNode}
use Rattle.snzi_core.specs.declared.event.Event.{Event}
use Rattle.snzi_core.specs.CoreState.{CoreState}
use Rattle.snzi_core.specs.Lawful.{refusal}
use Rattle.snzi_core.specs.Effect.{after, Runs, Refuses, Stops}

pub runs_one : (k a b : CoreState) (es : List Event) → Runs k es a → Runs k es b → a ≡ b
runs_one k a b [] r s = r ∙ sym s
runs_one k a b (e ∷ es) r s = runs_one (after k e) a b es r.1 s.1

-- where the event is lawful, it is refused when out of memory alone
memory : (k : CoreState) (e : Event) (u : Unlawful) → refusal k e ≡ None → Refuses u k e → u ≡ OutOfMemory
memory k e NoHand n r = cc
memory k e NoToken n r = cc
memory k e Cap n r = cc
memory k e StillHolding n r = cc
memory k e OutOfMemory n r = refl
memory k e NoNode n r = cc
memory k e ZeroNode n r = cc

-- two refusals of one event are the same
told : (k : CoreState) (e : Event) (u : Unlawful) → Refuses u k e → (refusal k e ≡ Some u) ⊎ ((u ≡ OutOfMemory) × (refusal k e ≡ None))
told k e NoHand r = inl r
told k e NoToken r = inl r
told k e Cap r = inl r
told k e StillHolding r = inl r
told k e OutOfMemory r = inr (refl, r.0)
told k e NoNode r = inl r
told k e ZeroNode r = inl r

both : (k : CoreState) (e : Event) (u v : Unlawful) → Refuses u k e → Refuses v k e → u ≡ v
both k e u v r s = ⊎_elim
    (λ (p : refusal k e ≡ Some u). ⊎_elim (λ (q : refusal k e ≡ Some v). cc) (λ (q : (v ≡ OutOfMemory) × (refusal k e ≡ None)). let n = q.1 in cc) (told k e v s))
    (λ (p : (u ≡ OutOfMemory) × (refusal k e ≡ None)). sym (memory k e v p.1 s ∙ sym p.0))
    (told k e u r)

-- an event at one place is one event
same : (a b : Event) (o : Option Event) → o ≡ Some a → o ≡ Some b → a ≡ b
same a b o p q = cc

pub stops_one : (k a b : CoreState) (es : List Event) (i : ℕ) (u v : Unlawful) → Stops k es i u a → Stops k es i v b → (u ≡ v) × (a ≡ b)
stops_one k a b es i u v (p, e, at, x) (q, f, bt, y) =
    let is = runs_one k a b (take i es) p q in
    let z = subst (λ (c : CoreState). Refuses v c f) (sym is) y in
    (both a e u v x (subst (λ (g : Event). Refuses v a g) (same f e (slice_get es i) bt at) z), is)

pub stops_memory : (k a b : CoreState) (es : List Event) (i : ℕ) (u : Unlawful) → Runs k es b → Stops k es i u a → u ≡ OutOfMemory
stops_memory k a b [] i u r (q, e, at, x) = cc
stops_memory k a b (f ∷ es) zero u r (q, e, at, x) = memory k f u r.0 (subst (λ (c : CoreState). Refuses u c f) q (subst (λ (g : Event). Refuses u a g) (same e f (Some f) at refl) x))
stops_memory k a b (f ∷ es) (suc i) u r (q, e, at, x) = stops_memory (after k f) a b es i u r.1 (q.1, e, at, x)

pub stops_first : (k a b : CoreState) (es : List Event) (i j : ℕ) (u v : Unlawful) → Stops k es i u a → Stops k es j v b → i < j → u ≡ OutOfMemory
stops_first k a b [] i j u v (q, e, at, x) s l = cc
stops_first k a b (f ∷ es) i zero u v s t l = absurd (omega (arith, l))
stops_first k a b (f ∷ es) zero (suc j) u v (q, e, at, x) (p, g, bt, y) l =
    memory k f u p.0 (subst (λ (c : CoreState). Refuses u c f) q (subst (λ (g : Event). Refuses u a g) (same e f (Some f) at refl) x))
stops_first k a b (f ∷ es) (suc i) (suc j) u v (q, e, at, x) (p, g, bt, y) l = stops_first (after k f) a b es i j u v (q.1, e, at, x) (p.1, g, bt, y) (omega (arith, l))

pub stops_inside : (k a : CoreState) (es : List Event) (i : ℕ) (u : Unlawful) → Stops k es i u a → i < length es
stops_inside k a [] i u (q, e, at, x) = cc
stops_inside k a (f ∷ es) zero u s = omega arith
stops_inside k a (f ∷ es) (suc i) u (q, e, at, x) = let l = stops_inside (after k f) a es i u (q.1, e, at, x) in omega (arith, l)
