-- `empty` puts two fields side by side, and owns no more than they do.
use mathlib.Core.Path.{◌≡◌, refl, sym, subst}
use mathlib.Core.List.{List, [], ◌∷◌, ◌++◌}
use lib.Dec.{T, lit<}
use seplogic.Ra.Ura.{Ura}
use mir.Syntax.{ty_ptr}
use mir.Val.{Val, vstruct, vcons, vnil, has_ty, WT}
use base.Logic.{SProp, ent, emp, id⊢}
use base.Fml.{ftrue}
use prog.Memory.{Memory}
use prog.Routine.{Routine}
use prog.Wp.{WpFn, Tables}
use types.Logic.{Logic}
use contract.Monad.{Fun}
use contract.Running.{tables, tables_of}
use sound.WpLaws.{WpFn-mono}
use types.Kit.{Item, ‵, raw, ◌⊛◌, ◌$◌, ◌∵◌, !, qed, by, move, drop, use1, join, split, fsplit, fjoin, fpack, feq_i, feq_l, suffices, done}
use types.Part.{agg}
use types.Run.{no_more, and_then, returns, enter}
use types.ByLocal.{alloc_all, pass_all, free_all, look_at, get, sets}
use denote.Exit.{yes}
use denote.RattleType.{owns, Valss}
use denote.RawPtr.{Ptr, RawPtr, block_ptr, null_ptr, ptr_val}
use denote.Signature.{plain}
use denote.Steps.{nothing}
use denote.Struct.Struct.{within}
use denote.Struct.Owning.{shape}
use denote.Triple.Spec.{triple_of}
use denote.Triple.Table.{entered}
use denote.Triple.Walked.{says, Stays, stay_dropped, walk_of, ends_at, Goes-dropped, walk_Meets}
use Rattle.std.specs.Prelude.{None}
use Rattle.std.proofs.alloc.Calls.{α, Fits, handle_tells}
use Rattle.std_alloc.proofs.BoxSteps.Form.{P, owning, box_ty, box_typed}
use Rattle.std_alloc.proofs.ResultValues.{and_tt}
use Rattle.std_heap.specs.contracts.Global as Heap
use Rattle.c_library.proofs.AsBox.{E}
use Rattle.c_library.specs.contracts.seal.Seal as Seal
use Rattle.c_library.specs.contracts.seal.Seal.empty as F
use Rattle.c_library.specs.contracts.seal.Seal.empty.Key.{name as #self}
use Rattle.c_library.proofs.seal.Seal.empty.Statement as stated
use Rattle.c_library.proofs.seal.Seal.empty.Code as code

zero_fits : WT (ptr_val null_ptr)
zero_fits = record { fits = lit< tt }

abbrev stayed : Stays (F.ended).signature.params (F.ended).kept
stayed = (stay_dropped (plain (λ _. Heap.the_row)) yes, (stay_dropped (plain (λ _. RawPtr)) yes, tt))

module _ {M : Type 1} {𝓤 : Ura M} (𝓛 : Logic 𝓤) (at_mem : Memory → SProp 𝓤) (run : Routine → Fun 𝓤) (𝓣 : Tables 𝓤 𝓛.H) where
  open 𝓛 use {H}

  abbrev Ends : Heap.the_row.Denot → Ptr → List Val → List Val → (walk_of 𝓛 F.ended stayed (F.clauses 𝓛 at_mem run)).Ghost
  Ends a p us vs = ((tt, tt, tt, (a, (p, tt)), (us, (vs, tt))), tt)

  walk_at : (a : Heap.the_row.Denot) (hv : Val) (fa : Fits E.al hv) (us vs : List Val) (p : Ptr) (v : Val) → ptr_val p ≡ v → T (has_ty ty_ptr v) × WT v
      → T (has_ty (box_ty E) (vstruct (vcons v (vcons hv vnil)))) × WT (vstruct (vcons v (vcons hv vnil)))
      → ent 𝓤 (types.Kit.⋆ 𝓛 (‵ ((P E).own_val a (hv ∷ [])) ∷ [])) (WpFn 𝓤 H 𝓣.C 𝓣.Λ code.function (hv ∷ v ∷ []) ((walk_of 𝓛 F.ended stayed (F.clauses 𝓛 at_mem run)).post (Ends a p us vs)))
  walk_at a hv fa us vs p v is gp gw =
      let made : Seal.the_row.Denot = record { at = p; alloc = a; held = None } in
      let w : Val = vstruct (vcons v (vcons hv vnil)) in
      qed 𝓛 (‵ ((P E).own_val a (hv ∷ [])) ∷ []) ∵ enter ! 𝓣.C 𝓣.Λ code.function (hv ∷ v ∷ []) _ $ alloc_all ! (λ ls. pass_all ! refl (fa, (gp, tt)) $
      sets ! (agg ! (and_then ! (get ! refl) (and_then ! (get ! refl) (no_more !)))) refl gw $ returns ! (look_at ! 0 refl) $ free_all ! refl $
      nothing ! $ nothing ! $ move ! (2 ∷ 0 ∷ []) $ fjoin ! $ feq_i ! (List Val) (v ∷ []) (ptr_val p ∷ []) (λ i. sym is i ∷ []) $ fjoin ! $
      feq_i ! (List Val) (w ∷ []) (w ∷ []) refl $ fjoin ! $ fpack ! (Valss (RawPtr ∷ P E ∷ [])) (within (shape (owning E)) (p, (a, tt)) (w ∷ [])) (v ∷ [], (hv ∷ [], tt)) $ fjoin ! $
      use1 𝓛 (‵ (Seal.the_row.own_val made (w ∷ []))) (id⊢ 𝓤 _) $
      suffices ! _ (ends_at 𝓛 F.ended stayed (F.clauses 𝓛 at_mem run) (Ends a p us vs) w made (tt, (tt, tt)) (tt, (tt, tt))) $ says ! refl $
      nothing ! $ nothing ! $ fjoin ! $ nothing ! $ fjoin ! $ join ! $ nothing ! $ join ! $ done !)

  each : (a : Heap.the_row.Denot) (hv : Val) (fa : Fits E.al hv) (us vs : List Val) (p : Ptr)
      → ent 𝓤 (types.Kit.⋆ 𝓛 (‵ ((P E).own_val a (hv ∷ [])) ∷ [])) (WpFn 𝓤 H 𝓣.C 𝓣.Λ code.function (hv ∷ ptr_val p ∷ []) ((walk_of 𝓛 F.ended stayed (F.clauses 𝓛 at_mem run)).post (Ends a p us vs)))
  each a hv fa us vs (block_ptr b o) = walk_at a hv fa us vs (block_ptr b o) (ptr_val (block_ptr b o)) refl (tt, tt) (box_typed E hv b o fa)
  each a hv fa us vs null_ptr = walk_at a hv fa us vs null_ptr (ptr_val null_ptr) refl (tt, zero_fits) (and_tt (has_ty (α E.al) hv) fa.0, (zero_fits, (fa.1, tt)))

  walk : (z : (walk_of 𝓛 F.ended stayed (F.clauses 𝓛 at_mem run)).Ghost)
      → ent 𝓤 ((walk_of 𝓛 F.ended stayed (F.clauses 𝓛 at_mem run)).pre z) (WpFn 𝓤 H 𝓣.C 𝓣.Λ code.function (z.0.4.0 ++ (z.0.4.1.0 ++ [])) ((walk_of 𝓛 F.ended stayed (F.clauses 𝓛 at_mem run)).post z))
  walk z =
      let Post = (walk_of 𝓛 F.ended stayed (F.clauses 𝓛 at_mem run)).post z in
      let a = z.0.3.0 in let p = z.0.3.1.0 in
      qed 𝓛 ((‵ ftrue ⊛ ‵ (owns (Heap.the_row ∷ RawPtr ∷ []) (a, (p, tt)) (z.0.4.0, (z.0.4.1.0, tt)))) ∷ raw (emp 𝓤) ∷ []) ∵ split ! $ drop ! $ fsplit ! $
      handle_tells E.al ! a z.0.4.0 (λ hv ea fa. move ! (1 ∷ []) $ fsplit ! $ feq_l ! (λ ev. drop ! $ move ! (1 ∷ []) $ drop ! $
      by ! (subst (λ (us : List Val). ent 𝓤 (types.Kit.⋆ 𝓛 (‵ ((P E).own_val a (hv ∷ [])) ∷ [])) (WpFn 𝓤 H 𝓣.C 𝓣.Λ code.function (us ++ (z.0.4.1.0 ++ [])) Post)) (sym ea)
      (subst (λ (us : List Val). ent 𝓤 (types.Kit.⋆ 𝓛 (‵ ((P E).own_val a (hv ∷ [])) ∷ [])) (WpFn 𝓤 H 𝓣.C 𝓣.Λ code.function (hv ∷ (us ++ [])) Post)) (sym ev)
      (each a hv fa z.0.4.0 z.0.4.1.0 p)))))

pub empty_spec : {M : Type 1} → stated.statement M
unfolding tables_of
empty_spec 𝓤 𝓛 𝓜 𝓡 wired =
    let 𝓣 : Tables 𝓤 𝓛.H = tables_of 𝓤 𝓛.H 𝓜 (tables 𝓤 𝓛.H 𝓜 𝓡 𝓡.env) in
    entered 𝓤 𝓛.H (triple_of 𝓛 F.signature (F.spec 𝓛 𝓜.mem 𝓡.returns)) 𝓣.C 𝓣.Λ #self code.function (code.unfolded 𝓤 𝓛.H 𝓜 𝓡 wired)
    (walk_Meets 𝓛 F.ended stayed (
      Goes-dropped 𝓛 0 (plain (λ _. Heap.the_row)) yes (λ κs x f. refl),
      (Goes-dropped 𝓛 0 (plain (λ _. RawPtr)) yes (λ κs x f. refl), tt),
    ) (F.clauses 𝓛 𝓜.mem 𝓡.returns) (WpFn 𝓤 𝓛.H 𝓣.C 𝓣.Λ code.function)
    (WpFn-mono 𝓤 𝓛.H 𝓛.laws 𝓣 code.function)
    (walk 𝓛 𝓜.mem 𝓡.returns 𝓣))
