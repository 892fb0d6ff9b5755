-- A split and a join of hands are allowed, by a law of the core.
use Rattle.std.proofs.Common.{◌≡◌, ℕ, ◌+◌, ◌<◌, ◌≤◌, List, [], ◌∷◌, ◌++◌, map, set, sym, ap, ◌∙◌, subst, arith}
use Rattle.std.specs.Prelude.{slice_index}
use mathlib.Core.Option.{some}
use mathlib.Core.List.{map-append}
use lib.ListN.{get_elem?}
use lib.Seq.{map-set}
use Rattle.atomic_table.specs.Table.{Splits, Joins}
use Rattle.atomic_table.proofs.Lists.{at_map}
use Rattle.snzi_core.specs.declared.holding.Holding.{Holding}
use Rattle.snzi_core.specs.declared.holding.Role.TheVariants.{Helper, Spent}
use Rattle.snzi_core.specs.Caps.{token_cap, helper_cap}
use Rattle.snzi_core.specs.Holding.{tokens_at, held, out, empty, main_weight, keeper, helper_with, rejoined}
use Rattle.snzi_core.specs.Shape.{IsShape}
use Rattle.snzi_core.specs.Balance.{Ruled}
use Rattle.snzi_core.specs.Laws.{SplitKeeps, JoinKeeps}
use Rattle.snzi_core.proofs.NumberLists.{at_nothing, added_merged}
use Rattle.snzi_core.proofs.Hands.{parts, unites, at_held}
use Rattle.snzi_core.proofs.SplitBalance.{one_out_main, one_back_main}
use Rattle.snzi_tree.specs.declared.board.View.{View}
use Rattle.snzi_tree.specs.View.{holding, kept, given, joined, spent_view}
use Rattle.snzi_tree.proofs.RuleSteps.{Rule, kind, main_weighed, main_left, main_followed}

module _ (n w l : ℕ) (shape : IsShape w (w + l)) where
  pub splits : (id : ℕ) (v : View) → SplitKeeps → main_weight v.holding.role ≡ 1 → out v.holding.role < helper_cap
      → ((i : ℕ) → slice_index v.plan i ≤ tokens_at i v.holding) → Splits (Rule n w l) id v (kept v) (given v)
  splits id v law main room fits st r at =
      let by = law w (w + l) st.words (map holding st.views) id v.holding (keeper v.holding v.plan) (helper_with v.plan []) shape
      (at_map holding st.views id v at) (parts v.holding v.plan [] main fits at_nothing) in (
        r.0,
        subst (λ (hs : List Holding). Ruled (kind n w l) st.words hs) (sym (map-append holding (set st.views id (kept v)) (given v ∷ [])
            ∙ ap (λ (hs : List Holding). hs ++ helper_with v.plan [] ∷ []) (map-set holding st.views id (kept v))))
            (by.0 r.1.0, by.1 r.1.1 room),
        main_followed st.views id v (kept v) (given v) at (one_out_main v.holding.role) r.2,
      )

  pub joins : (id other : ℕ) (v u : View) → JoinKeeps → main_weight v.holding.role ≡ 1 → u.holding.role ≡ Helper
      → held v.holding + held u.holding ≤ token_cap → Joins (Rule n w l) id v other u (joined v u) spent_view
  joins id other v u law main helper room st r at apart there =
      let is = map-set holding (set st.views id (joined v u)) other spent_view ∙ ap (λ (hs : List Holding). set hs other (empty Spent)) (map-set holding st.views id (joined v u)) in
      let there' = subst (λ (hs : List Holding). get_elem? hs other ≡ some u.holding) (map-set holding st.views id (joined v u)) (at_map holding (set st.views id (joined v u)) other u there) in
      let both = rejoined v.holding u.holding in
      let by = law w (w + l) st.words (map holding st.views) id other v.holding u.holding both shape (at_map holding st.views id v at) there' (unites v.holding u.holding main helper) in
      let all = added_merged v.holding.tokens u.holding.tokens in (
        r.0,
        subst (λ (hs : List Holding). Ruled (kind n w l) st.words hs) (sym is)
            (by.0 r.1.0, by.1 r.1.1 (λ i. let a = at_held both i in omega arith)),
        main_left (set st.views id (joined v u)) other u spent_view there (ap main_weight helper) (main_weighed st.views id v (joined v u) at (one_back_main v.holding.role) r.2),
      )
