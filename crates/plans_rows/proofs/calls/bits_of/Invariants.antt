use Rattle.std.proofs.Common.{◌≡◌, ◌-◌, map, take, length}
use Rattle.plans_rows.proofs.calls.bits_of.Given as goal

abbrev pub invariant-loop-i : goal.invariant-loop-i
invariant-loop-i l = record {
  len : length l.bits ≡ length l.initial.bits;
  done : take l.i l.bits ≡ map (λ d. d - 48) (take l.i l.digits);
}
