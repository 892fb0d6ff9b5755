use Rattle.std.proofs.Common.{List, subst}
use Rattle.snzi_core.specs.Holding.{held}
use Rattle.snzi_tokens.specs.declared.token.Token.{Token}
use Rattle.pids_charge.specs.Table.{table_at, table_held}
use Rattle.board_tests.specs.Tokens.{HoldsTokens, board_content}
use Rattle.board_tests.proofs.Still.{holds_still}
use Rattle.board_tests.proofs.meters.Meters.replace.Goals as goal

pub invariant_of-self-clause-plain_holds : goal.invariant_of-self-clause-plain_holds
invariant_of-self-clause-plain_holds g c =
    let one = c.alike.ensures.one in
    subst (λ (ts : List Token). HoldsTokens ts (table_at c.alike.new.one) (table_held c.alike.new.one)) c.as_slice-arriving.ensures.value (holds_still _ _ _ _ _ one.0 one.1 c.swap.ensures.held)

pub invariant_of-self-clause-board_holds : goal.invariant_of-self-clause-board_holds
invariant_of-self-clause-board_holds g c =
    let other = c.alike.ensures.other in
    subst (λ (ts : List Token). HoldsTokens ts (board_content c.alike.new.other) (held c.alike.new.other)) c.as_slice-arriving.ensures.value (holds_still _ _ _ _ _ other.0 other.1 c.swap-2.ensures.held)
