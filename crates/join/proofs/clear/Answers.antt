use Rattle.std.proofs.Common.{ℕ, ◌+◌, set, replicate, sym, ap, ◌∙◌, add-one, arith}
use Rattle.std.proofs.lemmas.List.{length-replicate}
use Rattle.std.proofs.Math.ListN.{get_or-replicate}
use Rattle.std.proofs.Math.Seq.{paste, paste-suc}
use Rattle.join.proofs.clear.Goals as goal

pub loop-i-preserved : goal.loop-i-preserved
loop-i-preserved g c =
    let a = c.args in
    let i = c.loop-i.i in (
      omega arith,
      ap (λ d. set d (a.at + i) a.zero) c.loop-i.invariant.1
          ∙ ap (λ v. set (paste a.row.now a.at (replicate a.count a.zero) i) (a.at + i) v) (sym (get_or-replicate a.count i a.zero a.zero (omega arith)))
          ∙ paste-suc a.row.now a.at (replicate a.count a.zero) i a.zero (omega (arith, c.requires)) (omega (arith, length-replicate a.count a.zero))
          ∙ ap (λ (k : ℕ). paste a.row.now a.at (replicate a.count a.zero) k) (sym (add-one i)),
    )
