use mathlib.Core.Path.{sym, ap₂, ◌∙◌}
use mathlib.Core.Bool.{Bool, not, ◌&&◌, ◌||◌}
use lib.Dec.{leb, eqb}
use Rattle.paper.specs.Limits.{mul_limit}
use Rattle.paper.specs.Below.{and_then, and_else}
use Rattle.paper.specs.Table.{general_ok}
use Rattle.node_check.proofs.general_ok.Goals as goal

pub returns-then-n-is_general : goal.returns-then-n-is_general
unfolding general_ok
returns-then-n-is_general c =
    let n = c.args.n in
    let e = ap₂ (λ (x : Bool) (y : Bool). ((((leb 1 n.lmul && leb n.lmul mul_limit) && leb 1 n.rmul) && leb n.rmul mul_limit) && ((x || y) || not (eqb n.lmul n.rmul))) && leb 1 n.count) c.is_general.ensures c.is_general-2.ensures in
    and_then _ _ _ (sym e ∙ c.if-n-is_general.true) (ap₂ ◌&&◌ c.marks_low.ensures c.general_keys_ok.ensures)

pub returns-else-n-is_general : goal.returns-else-n-is_general
unfolding general_ok
returns-else-n-is_general c =
    let n = c.args.n in
    let e = ap₂ (λ (x : Bool) (y : Bool). ((((leb 1 n.lmul && leb n.lmul mul_limit) && leb 1 n.rmul) && leb n.rmul mul_limit) && ((x || y) || not (eqb n.lmul n.rmul))) && leb 1 n.count) c.is_general.ensures c.is_general-2.ensures in
    c.if-n-is_general.false ∙ and_else _ _ (sym e ∙ c.if-n-is_general.false)
