use Rattle.std.proofs.Common.{arith, refl, length}
use Rattle.std.proofs.lemmas.List.{drop_all}
use Rattle.plans_rows.proofs.dump.cells_before.Goals as goal

pub loop-i-init : goal.loop-i-init
loop-i-init c = record {
  room = omega arith;
  within = omega arith;
  written = rw (drop_all 480 c.args.text.now (omega arith), drop_all (length c.args.keys.now) c.args.keys.now (omega arith)) refl;
  ascii = rw (drop_all 480 c.args.text.now (omega arith)) (λ i. omega arith);
}
