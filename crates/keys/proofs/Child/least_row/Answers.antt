use Prim.Native.Nat.{ℕ, ◌+◌}
use mathlib.Core.Path.{ap₂, ◌∙◌}
use Rattle.paper.specs.Rows.{con_val}
use Rattle.keys.specs.Least.{pick_of}
use Rattle.keys.proofs.Laws.{all_least_none, all_least_more}
use Rattle.keys.proofs.Child.least_row.Goals as goal

pub loop-j-init : goal.loop-j-init
loop-j-init c = all_least_none _ _ _

pub loop-j-preserved : goal.loop-j-preserved
loop-j-preserved c =
    let a = c.args in
    c.pick-b.ensures
    ∙ ap₂ (λ (v : ℕ) (b : ℕ). pick_of a.a (a.l + v) b) c.at.ensures.0 c.loop-j.invariant
    ∙ all_least_more c.loop-j.j (λ (k : ℕ). a.l + con_val a.keys.now a.self.node a.self.mul k) a.a a.best
