use native.Mathlib.Omega.{arith}
use mathlib.Core.Path.{◌≡◌, sym, ap, ◌∙◌}
use Prim.Native.Nat.{◌+◌, ◌/◌}
use Rattle.paper.specs.Weighted.{place_of}
use Rattle.find.proofs.Laws.{output_place, count_fits}
use borrow.Author.Rules.{rules}
use Rattle.find.proofs.share_of.Goals as goal

pub overflow_add-result : goal.overflow_add-result
overflow_add-result c = let e = sym c.in-Some.is ∙ c.output_of.ensures in
    let h : c.in-Some.j + 1 ≡ _ = ap place_of e in
    omega (arith, h, output_place c.args.keys.now c.args.n (c.args.v / c.args.m), count_fits c.args.n (search rules))
