use Prim.Native.Nat.{ℕ, ◌+◌}
use native.Mathlib.Omega.{arith}
use mathlib.Core.Path.{sym, ap, ◌∙◌}
use mathlib.Core.List.{List}
use lib.ListN.{set}
use lib.Seq.{paste, paste-suc}
use native.Mathlib.Nat.{add_comm}
use native.Mathlib.Numerals.{add-one}
use Rattle.paper.specs.Join.{count_up}
use Rattle.join_plan.proofs.Plans.{count_size, count_at}
use Rattle.join.proofs.write_count.Goals as goal

pub loop-i-preserved : goal.loop-i-preserved
loop-i-preserved c =
    let a = c.args in
    let i = c.loop-i.i in (
      omega arith,
      ap (λ (d : List ℕ). set d (a.at + i) (i + 1)) c.loop-i.invariant.1
          ∙ ap (λ (v : ℕ). set (paste a.keys.now a.at (count_up a.count) i) (a.at + i) v) (sym (count_at 1 a.count i 0 c.loop-i-test.true ∙ add_comm 1 i))
          ∙ paste-suc a.keys.now a.at (count_up a.count) i 0 (omega (arith, c.requires.0)) (omega (arith, count_size 1 a.count))
          ∙ ap (λ (k : ℕ). paste a.keys.now a.at (count_up a.count) k) (sym (add-one i)),
    )
