use borrow.Author.Rules.{rules}
use mathlib.Core.Path.{refl, sym, ◌∙◌}
use Prim.Native.Nat.{◌-◌}
use native.Mathlib.Omega.{arith}
use Rattle.paper.specs.Span.{span_turn, span_end}
use Rattle.paper.specs.Plain.{define, demands_of}
use Rattle.clause.specs.Row.{lay}
use Rattle.count.specs.Encoding.{state_of}
use Rattle.count.proofs.Laws.{pass_ok, walk_is_ok, return_is, pass_is, continue_is, walk_is, pass_ends, walk_ends, turn_ends, next_by, ends_1, ends_2, ends_3, ends_4}
use Rattle.count.proofs.Encoder.+unweighted.Invariants.{each}
use Rattle.count.proofs.Encoder.+unweighted.Goals as goal

pub define_unweighted_rec-define_unweighted_rec-requires : goal.define_unweighted_rec-define_unweighted_rec-requires
define_unweighted_rec-define_unweighted_rec-requires t c =
    let z = c.requires.ends in
    let e = sym c.precond_unweighted.ensures ∙ c.in-Pass.is in
    let k = pass_ok c.args.tree.now.nodes.now c.args.self.now.marks.now _ _ c.args.id c.args.i c.args.want c.requires.fit.ok c.requires.here _ _ e in (
      omega (arith, c.decreases, k.falls),
      (
        c.requires.fit,
        (
          record { below = omega (arith, k.falls, c.requires.here.below); out = k.out },
          record { fuel = z.fuel - 1; enough = omega (arith, k.falls, z.enough); within = pass_ends c.args.tree.now.nodes.now c.args.tree.now.inputs.now c.args.id c.args.i c.args.want (state_of c.args.self.now) z.fuel z.enough z.within _ _ e },
        ),
      ),
    )

pub define_unweighted_rec-encode_unweighted-requires-clause-cell : goal.define_unweighted_rec-encode_unweighted-requires-clause-cell
define_unweighted_rec-encode_unweighted-requires-clause-cell t c =
    let e = sym c.precond_unweighted.ensures ∙ c.in-Pass.is in
    let k = pass_ok c.args.tree.now.nodes.now c.args.self.now.marks.now _ _ c.args.id c.args.i c.args.want c.requires.fit.ok c.requires.here _ _ e in
    k.cell

pub define_unweighted_rec-encode_unweighted-requires-clause-run_bound : goal.define_unweighted_rec-encode_unweighted-requires-clause-run_bound
define_unweighted_rec-encode_unweighted-requires-clause-run_bound t c =
    let z = c.requires.ends in
    let e = sym c.precond_unweighted.ensures ∙ c.in-Pass.is in
    let k = pass_ok c.args.tree.now.nodes.now c.args.self.now.marks.now _ _ c.args.id c.args.i c.args.want c.requires.fit.ok c.requires.here _ _ e in
    let d = c.define_unweighted_rec.ensures.ran in next_by (pass_is c.args.tree.now.nodes.now c.args.tree.now.inputs.now c.args.id c.args.i c.args.want (state_of c.args.self.now) _ _ _ _ e z.fuel z.enough (d.is (z.fuel - 1) (omega (arith, k.falls, z.enough))) refl) z.within

pub define_unweighted_rec-recurse_unweighted-requires : goal.define_unweighted_rec-recurse_unweighted-requires
define_unweighted_rec-recurse_unweighted-requires t c =
    let z = c.requires.ends in
    let e = sym c.precond_unweighted.ensures ∙ c.in-Continue.is in
    let k = walk_is_ok c.args.tree.now.nodes.now c.args.self.now.marks.now _ _ c.args.id c.args.i c.args.want c.requires.fit.ok c.requires.here _ _ e in (
      omega (arith, c.decreases),
      (
        c.requires.fit,
        (
          k.1,
          record { fuel = z.fuel - 1; enough = omega (arith, z.enough); within = walk_ends c.args.tree.now.nodes.now c.args.tree.now.inputs.now c.args.id c.args.i c.args.want (state_of c.args.self.now) z.fuel z.enough z.within _ _ e },
        ),
      ),
    )

pub define_unweighted_rec-encode_unweighted-requires-in-Continue-clause-cell : goal.define_unweighted_rec-encode_unweighted-requires-in-Continue-clause-cell
define_unweighted_rec-encode_unweighted-requires-in-Continue-clause-cell t c =
    let e = sym c.precond_unweighted.ensures ∙ c.in-Continue.is in
    let k = walk_is_ok c.args.tree.now.nodes.now c.args.self.now.marks.now _ _ c.args.id c.args.i c.args.want c.requires.fit.ok c.requires.here _ _ e in
    k.0

pub define_unweighted_rec-encode_unweighted-requires-in-Continue-clause-run_bound : goal.define_unweighted_rec-encode_unweighted-requires-in-Continue-clause-run_bound
define_unweighted_rec-encode_unweighted-requires-in-Continue-clause-run_bound t c =
    let z = c.requires.ends in
    let e = sym c.precond_unweighted.ensures ∙ c.in-Continue.is in
    let k = walk_is_ok c.args.tree.now.nodes.now c.args.self.now.marks.now _ _ c.args.id c.args.i c.args.want c.requires.fit.ok c.requires.here _ _ e in
    let d = c.recurse_unweighted.ensures.ran in next_by (continue_is c.args.tree.now.nodes.now c.args.tree.now.inputs.now c.args.id c.args.i c.args.want (state_of c.args.self.now) _ _ _ _ e z.fuel z.enough (d.is (z.fuel - 1) (omega (arith, z.enough))) refl) z.within

pub define_unweighted_rec-returns-in-Return-clause-ran : goal.define_unweighted_rec-returns-in-Return-clause-ran
define_unweighted_rec-returns-in-Return-clause-ran t c =
    let e = sym c.precond_unweighted.ensures ∙ c.in-Return.is in
    record { is = return_is c.args.tree.now.nodes.now c.args.tree.now.inputs.now c.args.id c.args.i c.args.want (state_of c.args.self.now) e; fit = c.requires.fit }

pub define_unweighted_rec-returns-in-Pass-clause-ran : goal.define_unweighted_rec-returns-in-Pass-clause-ran
define_unweighted_rec-returns-in-Pass-clause-ran t c =
    let z = c.requires.ends in
    let e = sym c.precond_unweighted.ensures ∙ c.in-Pass.is in
    let k = pass_ok c.args.tree.now.nodes.now c.args.self.now.marks.now _ _ c.args.id c.args.i c.args.want c.requires.fit.ok c.requires.here _ _ e in
    let d = c.define_unweighted_rec.ensures.ran in
    let g = c.encode_unweighted.ensures.done in
    record {
      is = λ f h. pass_is c.args.tree.now.nodes.now c.args.tree.now.inputs.now c.args.id c.args.i c.args.want (state_of c.args.self.now) _ _ _ _ e f h (d.is (f - 1) (omega (arith, k.falls))) g.is;
      fit = g.fit;
    }

pub define_unweighted_rec-returns-in-Continue-clause-ran : goal.define_unweighted_rec-returns-in-Continue-clause-ran
define_unweighted_rec-returns-in-Continue-clause-ran t c =
    let z = c.requires.ends in
    let e = sym c.precond_unweighted.ensures ∙ c.in-Continue.is in
    let k = walk_is_ok c.args.tree.now.nodes.now c.args.self.now.marks.now _ _ c.args.id c.args.i c.args.want c.requires.fit.ok c.requires.here _ _ e in
    let d = c.recurse_unweighted.ensures.ran in
    let g = c.encode_unweighted-in-Continue.ensures.done in
    record {
      is = λ f h. continue_is c.args.tree.now.nodes.now c.args.tree.now.inputs.now c.args.id c.args.i c.args.want (state_of c.args.self.now) _ _ _ _ e f h (d.is (f - 1) (omega arith)) g.is;
      fit = g.fit;
    }

pub recurse_span-define_unweighted_rec-requires : goal.recurse_span-define_unweighted_rec-requires
unfolding demands_of
recurse_span-define_unweighted_rec-requires t c =
    let l = c.loop-k in
    let z = c.requires.ends in (
      omega (arith, c.decreases),
      (
        l.invariant.0,
        (
          record { below = c.requires.child_in_bounds.0; out = omega (arith, c.requires.child_in_bounds.1, c.loop-k-test.true) },
          record {
            fuel = z.fuel;
            enough = z.enough;
            within =
                turn_ends z.fuel c.args.tree.now.nodes.now c.args.tree.now.inputs.now c.args.child c.args.want l.k c.args.span.to (state_of l.self) _ c.loop-k-test.true
                (l.invariant.2 z.fuel z.enough) z.within;
          },
        ),
      ),
    )

pub recurse_span-loop-k-preserved : goal.recurse_span-loop-k-preserved
recurse_span-loop-k-preserved t c =
    let l = c.loop-k in
    let d = c.define_unweighted_rec.ensures in (
      d.ran.fit,
      search rules,
      λ f h. span_turn l.k c.args.span.to (each f c.args.tree.now.nodes.now c.args.tree.now.inputs.now c.args.child c.args.want) (state_of l.self) _ _ c.loop-k-test.true (d.ran.is f h) (l.invariant.2 f h),
    )

pub recurse_span-returns-clause-ran : goal.recurse_span-returns-clause-ran
unfolding demands_of
recurse_span-returns-clause-ran t c =
    let l = c.loop-k in
    record {
      is = λ f h. span_end l.k c.args.span.to (each f c.args.tree.now.nodes.now c.args.tree.now.inputs.now c.args.child c.args.want) _ _ c.loop-k-test.false (l.invariant.2 f h);
      fit = l.invariant.0;
    }

pub recurse_unweighted-recurse_span-requires : goal.recurse_unweighted-recurse_span-requires
recurse_unweighted-recurse_span-requires t c =
    let w = c.requires.walk_ok in
    let z = c.requires.ends in (
      omega (arith, c.decreases, w.left_falls),
      (
        c.requires.fit,
        (
          (omega (arith, w.left_falls, w.below), w.left_if_to),
          record { fuel = z.fuel; enough = omega (arith, w.left_falls, z.enough); within = ends_1 z.fuel c.args.tree.now.nodes.now c.args.tree.now.inputs.now c.args.rs (state_of c.args.self.now) z.within },
        ),
      ),
    )

pub recurse_unweighted-recurse_span-requires-2 : goal.recurse_unweighted-recurse_span-requires-2
recurse_unweighted-recurse_span-requires-2 t c =
    let w = c.requires.walk_ok in
    let z = c.requires.ends in (
      omega (arith, c.decreases, w.right_falls),
      (
        c.recurse_span.ensures.ran.fit,
        (
          (omega (arith, w.right_falls, w.below), w.right_if_to),
          record { fuel = z.fuel; enough = omega (arith, w.right_falls, z.enough); within = ends_2 z.fuel c.args.tree.now.nodes.now c.args.tree.now.inputs.now c.args.rs (state_of c.args.self.now) z.within _ (c.recurse_span.ensures.ran.is z.fuel (omega (arith, w.left_falls, z.enough))) },
        ),
      ),
    )

pub recurse_unweighted-recurse_span-requires-3 : goal.recurse_unweighted-recurse_span-requires-3
recurse_unweighted-recurse_span-requires-3 t c =
    let w = c.requires.walk_ok in
    let z = c.requires.ends in (
      omega (arith, c.decreases, w.left_falls),
      (
        c.recurse_span-2.ensures.ran.fit,
        (
          (omega (arith, w.left_falls, w.below), w.left_only_to),
          record { fuel = z.fuel; enough = omega (arith, w.left_falls, z.enough); within = ends_3 z.fuel c.args.tree.now.nodes.now c.args.tree.now.inputs.now c.args.rs (state_of c.args.self.now) z.within _ _ (c.recurse_span.ensures.ran.is z.fuel (omega (arith, w.left_falls, z.enough))) (c.recurse_span-2.ensures.ran.is z.fuel (omega (arith, w.right_falls, z.enough))) },
        ),
      ),
    )

pub recurse_unweighted-recurse_span-requires-4 : goal.recurse_unweighted-recurse_span-requires-4
recurse_unweighted-recurse_span-requires-4 t c =
    let w = c.requires.walk_ok in
    let z = c.requires.ends in (
      omega (arith, c.decreases, w.right_falls),
      (
        c.recurse_span-3.ensures.ran.fit,
        (
          (omega (arith, w.right_falls, w.below), w.right_only_to),
          record { fuel = z.fuel; enough = omega (arith, w.right_falls, z.enough); within = ends_4 z.fuel c.args.tree.now.nodes.now c.args.tree.now.inputs.now c.args.rs (state_of c.args.self.now) z.within _ _ _ (c.recurse_span.ensures.ran.is z.fuel (omega (arith, w.left_falls, z.enough))) (c.recurse_span-2.ensures.ran.is z.fuel (omega (arith, w.right_falls, z.enough))) (c.recurse_span-3.ensures.ran.is z.fuel (omega (arith, w.left_falls, z.enough))) },
        ),
      ),
    )

pub recurse_unweighted-returns-clause-ran : goal.recurse_unweighted-returns-clause-ran
recurse_unweighted-returns-clause-ran t c =
    let w = c.requires.walk_ok in
    let d4 = c.recurse_span-4.ensures.ran in
    record {
      is = λ f h. walk_is (define lay f c.args.tree.now.nodes.now c.args.tree.now.inputs.now) c.args.rs (state_of c.args.self.now) _ _ _ _
          (c.recurse_span.ensures.ran.is f (omega (arith, w.left_falls))) (c.recurse_span-2.ensures.ran.is f (omega (arith, w.right_falls)))
          (c.recurse_span-3.ensures.ran.is f (omega (arith, w.left_falls))) (d4.is f (omega (arith, w.right_falls)));
      fit = d4.fit;
    }
