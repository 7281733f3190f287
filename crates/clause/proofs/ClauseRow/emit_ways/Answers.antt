use mathlib.Core.Path.{ap, ◌∙◌}
use native.Mathlib.Omega.{arith}
use Prim.Native.Nat.{◌-◌, ◌≤◌}
use Rattle.paper.specs.Span.{span_turn, span_end}
use Rattle.clause.specs.Row.{lay}
use Rattle.clause.specs.Filling.{row_of}
use Rattle.clause.proofs.Laws.{counted_after, ways_is}
use Rattle.clause.proofs.ClauseRow.emit_ways.Goals as goal

pub loop-x-preserved : goal.loop-x-preserved
loop-x-preserved g c =
    let l = c.loop-x in
    let a = c.append.ensures in
    let left : l.x ≤ c.args.a = omega (arith, c.min-end.ensures, c.loop-x-test.true) in
    let right : c.args.n - l.x ≤ c.args.b = omega (arith, c.min.ensures, l.auto.x) in (
      record { lent = a.same.lent ∙ l.invariant.0.lent; long = a.same.long ∙ l.invariant.0.long },
      counted_after _ _ _ _ a.laid,
      λ of told. span_turn _ _ (λ x t. lay t (of x (c.args.n - x))) (row_of l.self) _ _ c.loop-x-test.true
          (a.laid ∙ ap (lay (row_of l.self)) (told l.x _ left right c.clause.ensures)) (l.invariant.2 of told),
    )

pub returns-clause-laid : goal.returns-clause-laid
returns-clause-laid g c =
    let l = c.loop-x in
    λ of told. record {
      is =
          span_end _ _ (λ x t. lay t (of x (c.args.n - x))) _ _ c.loop-x-test.false (l.invariant.2 of told)
          ∙ ways_is of c.args.n _ _ _ _ _ c.min.ensures c.min-end.ensures;
      counted = l.invariant.1;
    }
