use Prim.Native.Nat.{ℕ, ◌-◌}
use mathlib.Core.Path.{ap, sym, ◌∙◌}
use native.Mathlib.Omega.{arith}
use Rattle.paper.specs.Rows.{con_len, con_val}
use Rattle.keys.proofs.Laws.{last_none, last_some}
use Rattle.keys.proofs.Child.largest.Goals as goal

pub returns-then-n-eq0 : goal.returns-then-n-eq0
returns-then-n-eq0 c =
    let r = c.args.self in
    (last_none (con_len r.node) (con_val c.args.keys.now r.node r.mul) (sym c.len-n.ensures ∙ c.if-n-eq0.true), omega arith)

pub returns : goal.returns
returns c =
    let r = c.args.self in
    let n = c.len-n in (
      c.at.ensures.0
          ∙ ap (λ (i : ℕ). con_val c.args.keys.now r.node r.mul (i - 1)) n.ensures
          ∙ last_some (con_len r.node) (con_val c.args.keys.now r.node r.mul) (λ e. c.if-n-eq0.false (n.ensures ∙ e)),
      c.at.ensures.1,
    )
