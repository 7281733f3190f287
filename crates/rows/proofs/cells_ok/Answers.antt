use Prim.Native.Nat.{ℕ, ◌<◌}
use Rattle.std.proofs.Common.{sym, ap, ap₂, ◌∙◌, length, get_or, arith, ℤ, pos, take}
use Rattle.std.proofs.lemmas.Slice.Zip.{zip_turn}
use Rattle.std.proofs.lemmas.List.{length-take-le, get_or-take, length_push}
use mir.Syntax.{w32}
use mir.ValLaws.{to_z-of_z}
use Rattle.paper.specs.Below.{all_below, all_none, all_step}
use Rattle.paper.specs.Rows.{cell_ok}
use Rattle.rows.proofs.cells_ok.Goals as goal

pub loop-x-init : goal.loop-x-init
loop-x-init c = sym (all_none _)

pub loop-x-preserved : goal.loop-x-preserved
loop-x-preserved c =
    let a = c.args in
    let xs = take a.n a.lits.now in
    let ys = take a.n a.marks.now in
    let k : ℕ = length c.loop-x.yielded in
    let t = zip_turn xs ys c.loop-x.yielded c.into_iter-x-iterator.result c.loop-x.x-iterator c.next.new.self c.next.result (cc) (cc) c.loop-x.yielded_by _ c.in-Some.is c.next.ensures.steps in
    let low : k < a.n = omega (arith, t.0, length-take-le a.n a.lits.now (omega arith)) in
    all_step _ _ k _ c.loop-x.invariant
    (c.cell_ok-ok.ensures
    ∙ ap₂ (λ (x : ℤ) (m : ℕ). cell_ok x m a.f a.next) (to_z-of_z w32 c.in-Some.x.now (record { sfits = c.cell_ok-arg-1.given }) ∙ t.2 (pos 0) ∙ get_or-take a.n a.lits.now k (pos 0) low) (t.3 0 ∙ get_or-take a.n a.marks.now k 0 low))
    ∙ ap (λ (i : ℕ). all_below i (λ (j : ℕ). cell_ok (get_or a.lits.now j (pos 0)) (get_or a.marks.now j 0) a.f a.next)) (sym (length_push c.loop-x.yielded _))
