use borrow.Author.Rules.{rules}
use native.Mathlib.Omega.{arith}
use mathlib.Core.Path.{◌≡◌, refl, sym, ap, ◌∙◌}
use Prim.Native.Nat.{◌-◌, ◌<◌}
use lib.ListN.{length, set, length-set}
use Rattle.paper.specs.declared.Node.{Node}
use Rattle.paper.specs.declared.Way.{Way}
use Rattle.clause.specs.Row.{lay}
use Rattle.paper.specs.Span.{span_turn, span_end}
use Rattle.paper.specs.Weighted.{weigh, link_of, links_of, mark_at}
use Rattle.count.specs.Encoding.{state_of}
use Rattle.count.proofs.Laws.{next_by}
use Rattle.find.proofs.Laws.{count_ok, sum_ok}
use Rattle.sum.proofs.Laws.{place_at, link_ends_1, link_ends_2, turn_ends, pairs_start, pairs_ends, left_ends, right_ends, alone_is, link_is, take_is, mark_is, nothing_is, count_is, sum_is, take_asks, links_asks, mono_weigh, way_ok, fit_words, fit_marks, state_as, fit_as, ends_as}
use Prim.Native.Nat.{◌<◌}
use Rattle.sum.proofs.+weighted.Invariants.{each}
use Rattle.sum.proofs.+weighted.Goals as goal

pub link-weigh-requires : goal.link-weigh-requires
link-weigh-requires t c = let n = c.node_at-n in
    let a = c.requires.way_at in
    let z = c.requires.ends in
    let g = c.requires.generals c.args.id a.cell.below a.cell.general in
    let el : n.result.left ≡ _ = ap (λ (m : Node). m.left) n.ensures in
    let er : n.result.right ≡ _ = ap (λ (m : Node). m.right) n.ensures in
    let hl : n.result.left < c.args.id = omega (arith, el, g.left_below) in
    let hr : n.result.right < c.args.id = omega (arith, er, g.right_below) in (
      omega (arith, c.decreases, hr),
      (
        c.requires.fit,
        (
          c.requires.generals,
          (
            record { below = omega (arith, hr, a.cell.below); out = rw n.ensures a.right },
            record { fuel = z.fuel; enough = omega (arith, hr, z.enough); within = link_ends_1 (weigh lay z.fuel c.args.tree.now.nodes.now c.args.tree.now.inputs.now c.args.tree.now.keys.now) (mono_weigh z.fuel c.args.tree.now.nodes.now c.args.tree.now.inputs.now c.args.tree.now.keys.now) c.args.tree.now.nodes.now c.args.tree.now.inputs.now c.args.id c.args.at c.args.p (state_of c.args.encoder.now) n.result n.ensures z.within },
          ),
        ),
      ),
    )

pub link-weigh-requires-2 : goal.link-weigh-requires-2
link-weigh-requires-2 t c = let n = c.node_at-n in
    let a = c.requires.way_at in
    let z = c.requires.ends in
    let g = c.requires.generals c.args.id a.cell.below a.cell.general in
    let el : n.result.left ≡ _ = ap (λ (m : Node). m.left) n.ensures in
    let er : n.result.right ≡ _ = ap (λ (m : Node). m.right) n.ensures in
    let hl : n.result.left < c.args.id = omega (arith, el, g.left_below) in
    let hr : n.result.right < c.args.id = omega (arith, er, g.right_below) in
    let d = c.weigh.ensures.ran in (
      omega (arith, c.decreases, hl),
      (
        d.fit,
        (
          c.requires.generals,
          (
            record { below = omega (arith, hl, a.cell.below); out = rw n.ensures a.left },
            record { fuel = z.fuel; enough = omega (arith, hl, z.enough); within = link_ends_2 (weigh lay z.fuel c.args.tree.now.nodes.now c.args.tree.now.inputs.now c.args.tree.now.keys.now) (mono_weigh z.fuel c.args.tree.now.nodes.now c.args.tree.now.inputs.now c.args.tree.now.keys.now) c.args.tree.now.nodes.now c.args.tree.now.inputs.now c.args.id c.args.at c.args.p (state_of c.args.encoder.now) _ n.result n.ensures (d.is z.fuel (omega (arith, hr, z.enough))) z.within },
          ),
        ),
      ),
    )

pub link-returns-clause-ran : goal.link-returns-clause-ran
link-returns-clause-ran t c = let n = c.node_at-n in
    let a = c.requires.way_at in
    let z = c.requires.ends in
    let g = c.requires.generals c.args.id a.cell.below a.cell.general in
    let el : n.result.left ≡ _ = ap (λ (m : Node). m.left) n.ensures in
    let er : n.result.right ≡ _ = ap (λ (m : Node). m.right) n.ensures in
    let hl : n.result.left < c.args.id = omega (arith, el, g.left_below) in
    let hr : n.result.right < c.args.id = omega (arith, er, g.right_below) in
    let d = c.weigh.ensures.ran in
    let d2 = c.weigh-2.ensures.ran in
    let q = c.clause_of-words in
    record {
      is = λ f h. link_is (weigh lay f c.args.tree.now.nodes.now c.args.tree.now.inputs.now c.args.tree.now.keys.now) c.args.tree.now.nodes.now c.args.tree.now.inputs.now c.args.id c.args.at c.args.p (state_of c.args.encoder.now) _ _ _ _ _ c.weigh-2.new.encoder.run q.result n.result n.ensures
          (d.is f (omega (arith, hr))) (d2.is f (omega (arith, hl))) q.ensures.is;
      fit = fit_words _ _ _ _ c.weigh-2.new.encoder.run d2.fit q.result q.ensures.counted;
    }

pub links-pairs-requires : goal.links-pairs-requires
links-pairs-requires t c = let b = c.requires.cell_at in
    let z = c.requires.ends in
    let g = c.requires.generals c.args.id b.below b.general in (
      omega (arith, c.decreases),
      (
        c.requires.fit,
        (
          c.requires.generals,
          (
            b,
            record { fuel = z.fuel; enough = z.enough; within = pairs_ends (weigh lay z.fuel c.args.tree.now.nodes.now c.args.tree.now.inputs.now c.args.tree.now.keys.now) c.args.tree.now.nodes.now c.args.tree.now.inputs.now c.args.tree.now.keys.now c.args.id c.args.at c.args.v (state_of c.args.encoder.now) _ _ _ refl refl refl (mono_weigh z.fuel c.args.tree.now.nodes.now c.args.tree.now.inputs.now c.args.tree.now.keys.now) z.within },
          ),
        ),
      ),
    )

pub links-link-requires : goal.links-link-requires
links-link-requires t c = let b = c.requires.cell_at in
    let z = c.requires.ends in
    let g = c.requires.generals c.args.id b.below b.general in
    let u = c.pairs.ensures in
    let len = u.same.lits_long in (
      omega (arith, c.decreases),
      (
        u.ran.fit,
        (
          c.requires.generals,
          (
            way_ok c.args.tree.now.nodes.now c.args.tree.now.keys.now _ c.args.id c.args.at c.args.v _ c.way_at-left.result (record { below = b.below; general = b.general; inside = omega (arith, b.inside, len) }) c.way_at-left.ensures,
            record { fuel = z.fuel; enough = z.enough; within = left_ends (weigh lay z.fuel c.args.tree.now.nodes.now c.args.tree.now.inputs.now c.args.tree.now.keys.now) c.args.tree.now.nodes.now c.args.tree.now.inputs.now c.args.tree.now.keys.now c.args.id c.args.at c.args.v (state_of c.args.encoder.now) c.left_count-pairs.result c.way_at-left.result _ c.left_count-pairs.ensures c.way_at-left.ensures refl (mono_weigh z.fuel c.args.tree.now.nodes.now c.args.tree.now.inputs.now c.args.tree.now.keys.now) z.within _ (u.ran.is z.fuel z.enough) },
          ),
        ),
      ),
    )

pub links-link-requires-2 : goal.links-link-requires-2
links-link-requires-2 t c = let b = c.requires.cell_at in
    let z = c.requires.ends in
    let g = c.requires.generals c.args.id b.below b.general in
    let u = c.pairs.ensures in
    let d = c.link.ensures in
    let len = d.same.lits_long ∙ u.same.lits_long in (
      omega (arith, c.decreases),
      (
        d.ran.fit,
        (
          c.requires.generals,
          (
            way_ok c.args.tree.now.nodes.now c.args.tree.now.keys.now _ c.args.id c.args.at c.args.v _ c.way_at-right.result (record { below = b.below; general = b.general; inside = omega (arith, b.inside, len) }) c.way_at-right.ensures,
            record { fuel = z.fuel; enough = z.enough; within = right_ends (weigh lay z.fuel c.args.tree.now.nodes.now c.args.tree.now.inputs.now c.args.tree.now.keys.now) c.args.tree.now.nodes.now c.args.tree.now.inputs.now c.args.tree.now.keys.now c.args.id c.args.at c.args.v (state_of c.args.encoder.now) c.left_count-pairs.result c.way_at-left.result c.way_at-right.result c.left_count-pairs.ensures c.way_at-left.ensures c.way_at-right.ensures z.within _ _ (u.ran.is z.fuel z.enough) (d.ran.is z.fuel z.enough) },
          ),
        ),
      ),
    )

pub links-returns-clause-ran : goal.links-returns-clause-ran
links-returns-clause-ran t c = let u = c.pairs.ensures.ran in
    let d = c.link.ensures.ran in
    let d2 = c.link-2.ensures.ran in
    record { is = λ f h. alone_is (weigh lay f c.args.tree.now.nodes.now c.args.tree.now.inputs.now c.args.tree.now.keys.now) c.args.tree.now.nodes.now c.args.tree.now.inputs.now c.args.tree.now.keys.now c.args.id c.args.at c.args.v (state_of c.args.encoder.now) c.left_count-pairs.result c.way_at-left.result c.way_at-right.result c.left_count-pairs.ensures c.way_at-left.ensures c.way_at-right.ensures _ _ _ (u.is f h) (d.is f h) (d2.is f h); fit = d2.fit }

pub pairs-loop-k-init : goal.pairs-loop-k-init
pairs-loop-k-init t c = let g = c.requires.generals c.args.id c.requires.cell_at.below c.requires.cell_at.general in
    (c.requires.fit, search rules, λ f h. pairs_start f c.args.tree.now.nodes.now c.args.tree.now.inputs.now c.args.tree.now.keys.now c.args.id c.args.at c.args.v c.window-w.result (state_of c.args.encoder.now) c.window-w.ensures g.right_sorted)

pub pairs-link-requires : goal.pairs-link-requires
pairs-link-requires t c = let l = c.loop-k in
    let b = c.requires.cell_at in
    let z = c.requires.ends in (
      omega (arith, c.decreases),
      (
        l.invariant.0,
        (
          c.requires.generals,
          (
            way_ok c.args.tree.now.nodes.now c.args.tree.now.keys.now (length l.encoder.lits.now) c.args.id c.args.at c.args.v l.k c.way_at-p.result (record { below = b.below; general = b.general; inside = omega (arith, b.inside, l.invariant.1.lits_long) }) c.way_at-p.ensures,
            record {
              fuel = z.fuel;
              enough = z.enough;
              within = turn_ends (weigh lay z.fuel c.args.tree.now.nodes.now c.args.tree.now.inputs.now c.args.tree.now.keys.now) (mono_weigh z.fuel c.args.tree.now.nodes.now c.args.tree.now.inputs.now c.args.tree.now.keys.now) c.args.tree.now.nodes.now c.args.tree.now.inputs.now c.args.id c.args.at c.args.tree.now.keys.now c.args.v l.k _ (state_of l.encoder) _ c.way_at-p.result c.loop-k-test.true c.way_at-p.ensures (l.invariant.2 z.fuel z.enough) z.within;
            },
          ),
        ),
      ),
    )

pub pairs-loop-k-preserved : goal.pairs-loop-k-preserved
pairs-loop-k-preserved t c = let l = c.loop-k in
    let d = c.link.ensures in (
      d.ran.fit,
      search rules,
      λ f h. span_turn l.k _ (each f c.args.tree.now.nodes.now c.args.tree.now.inputs.now c.args.tree.now.keys.now c.args.id c.args.at c.args.v) (state_of l.encoder) _ _ c.loop-k-test.true
          (d.ran.is f h ∙ ap (λ (p : Way). link_of lay (weigh lay f c.args.tree.now.nodes.now c.args.tree.now.inputs.now c.args.tree.now.keys.now) c.args.tree.now.nodes.now c.args.tree.now.inputs.now c.args.id c.args.at p (state_of l.encoder)) c.way_at-p.ensures) (l.invariant.2 f h),
    )

pub pairs-returns-clause-ran : goal.pairs-returns-clause-ran
pairs-returns-clause-ran t c = let l = c.loop-k in
    record { is = λ f h. span_end l.k _ (each f c.args.tree.now.nodes.now c.args.tree.now.inputs.now c.args.tree.now.keys.now c.args.id c.args.at c.args.v) (state_of l.encoder) _ c.loop-k-test.false (l.invariant.2 f h); fit = l.invariant.0 }

pub weigh-job_at-requires : goal.weigh-job_at-requires
weigh-job_at-requires t c = let b = c.requires.spot in
    rw c.requires.fit.same (place_at c.args.tree.now.nodes.now _ _ c.args.id c.requires.fit.ok b.below c.args.y b.out)

pub weigh-define_unweighted_rec-requires-clause-here : goal.weigh-define_unweighted_rec-requires-clause-here
weigh-define_unweighted_rec-requires-clause-here t c = let b = c.requires.spot in
    let e = sym c.job_at.ensures ∙ c.in-Count.is in
    let here = place_at c.args.tree.now.nodes.now _ _ c.args.id c.requires.fit.ok b.below c.args.y b.out in
    let k = count_ok c.args.tree.now.nodes.now c.args.tree.now.keys.now c.args.encoder.now.marks.now _ c.args.id c.args.y here _ e in record { below = b.below; out = k.1 }

pub weigh-define_unweighted_rec-requires-clause-ends : goal.weigh-define_unweighted_rec-requires-clause-ends
weigh-define_unweighted_rec-requires-clause-ends t c = let z = c.requires.ends in
    let e = sym c.job_at.ensures ∙ c.in-Count.is in
    record { fuel = z.fuel; enough = z.enough; within = next_by (count_is c.args.tree.now.nodes.now c.args.tree.now.inputs.now c.args.tree.now.keys.now c.args.id c.args.y (state_of c.args.encoder.now) _ e z.fuel z.enough) z.within }

pub weigh-take_lit-requires : goal.weigh-take_lit-requires
weigh-take_lit-requires t c = let z = c.requires.ends in
    let e = sym c.job_at.ensures ∙ c.in-Sum.is in
    let o = c.args.encoder.now in
    take_asks c.args.tree.now.nodes.now c.args.tree.now.inputs.now c.args.tree.now.keys.now c.args.id c.args.y o.lits.now o.marks.now o.row.now o.run c.requires.fit c.requires.spot _ _ e z.fuel z.enough z.within

pub weigh-links-requires : goal.weigh-links-requires
weigh-links-requires t c = let z = c.requires.ends in
    let e = sym c.job_at.ensures ∙ c.in-Sum.is in
    let o = c.args.encoder.now in
    let k = c.take_lit.ensures in
    let d = c.take_lit.new.self in
    let ns = c.args.tree.now.nodes.now in
    let keys = c.args.tree.now.keys.now in
    let a = links_asks c.args.tree.now.nodes.now c.args.tree.now.inputs.now c.args.tree.now.keys.now c.args.id c.args.y o.lits.now o.marks.now o.row.now o.run c.requires.fit c.requires.spot _ _ e z.fuel z.enough z.within
    _ _ k.taken.0 k.taken.1 k.same.lits_long in
    (omega (arith, c.decreases), (fit_as d k.kept.0 k.kept.1 k.kept.2 a.0, (c.requires.generals, (a.1, ends_as d k.kept.0 k.kept.1 k.kept.2 (λ f. links_of lay (weigh lay f ns c.args.tree.now.inputs.now keys) ns c.args.tree.now.inputs.now keys c.args.id c.in-Sum.at c.in-Sum.v) a.2))))

pub weigh-bounds-encoder-at : goal.weigh-bounds-encoder-at
weigh-bounds-encoder-at t c = let b = c.requires.spot in
    let e = sym c.job_at.ensures ∙ c.in-Sum.is in
    let here = place_at c.args.tree.now.nodes.now _ _ c.args.id c.requires.fit.ok b.below c.args.y b.out in
    let k = sum_ok c.args.tree.now.nodes.now c.args.tree.now.keys.now c.args.encoder.now.marks.now _ c.args.id c.args.y here _ _ e in
    omega (arith, k.1, c.requires.fit.same, c.take_lit.ensures.same.marks_long, c.links.ensures.same.marks_long)

pub weigh-returns-in-Nothing-clause-ran : goal.weigh-returns-in-Nothing-clause-ran
weigh-returns-in-Nothing-clause-ran t c = record { is = nothing_is c.args.tree.now.nodes.now c.args.tree.now.inputs.now c.args.tree.now.keys.now c.args.id c.args.y (state_of c.args.encoder.now) (sym c.job_at.ensures ∙ c.in-Nothing.is); fit = c.requires.fit }

pub weigh-returns-in-Count-clause-ran : goal.weigh-returns-in-Count-clause-ran
weigh-returns-in-Count-clause-ran t c = let d = c.define_unweighted_rec.ensures.ran in
    let e = sym c.job_at.ensures ∙ c.in-Count.is in
    record { is = λ f h. d.is f h ∙ count_is c.args.tree.now.nodes.now c.args.tree.now.inputs.now c.args.tree.now.keys.now c.args.id c.args.y (state_of c.args.encoder.now) _ e f h; fit = d.fit }

pub weigh-returns-in-Sum-clause-ran : goal.weigh-returns-in-Sum-clause-ran
weigh-returns-in-Sum-clause-ran t c = let e = sym c.job_at.ensures ∙ c.in-Sum.is in
    let k = c.take_lit.ensures in
    let o = c.args.encoder.now in
    let ti = state_as c.take_lit.new.self k.kept.0 k.kept.1 k.kept.2 ∙ take_is o.lits.now o.marks.now o.row.now o.run c.in-Sum.at _ _ k.taken.0 k.taken.1 in
    let q = c.links.ensures.ran in
    let w = c.links.new.encoder in
    let at = c.in-Sum.at in
    let v = c.in-Sum.v in
    record {
      is = λ f h. mark_is w.lits.now w.marks.now w.row.now w.run at
          ∙ ap (mark_at lay at) (q.is (f - 1) (omega arith) ∙ ap (links_of lay (weigh lay (f - 1) c.args.tree.now.nodes.now c.args.tree.now.inputs.now c.args.tree.now.keys.now) c.args.tree.now.nodes.now c.args.tree.now.inputs.now c.args.tree.now.keys.now c.args.id at v) ti)
          ∙ sum_is c.args.tree.now.nodes.now c.args.tree.now.inputs.now c.args.tree.now.keys.now c.args.id c.args.y (state_of c.args.encoder.now) at v e f h;
      fit = fit_marks _ _ _ w.marks.now w.run q.fit (set w.marks.now at 1) (length-set w.marks.now at 1);
    }
