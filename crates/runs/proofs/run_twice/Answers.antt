use mathlib.Core.Path.{refl, sym, ap, ◌∙◌}
use mathlib.Core.List.{List}
use Prim.Native.Nat.{◌+◌, ◌≤◌, ◌<◌, ◌^◌}
use native.Mathlib.Omega.{arith}
use lib.IntN.{ℤ}
use lib.ListN.{length}
use mir.Syntax.{w32}
use mir.Facts.{to_z-of_z}
use Rattle.paper.specs.Rows.{con_lits}
use Rattle.paper.specs.Plain.{lit_at}
use Rattle.runs.proofs.Dry.{dry_known, earnest}
use Rattle.runs.proofs.Meets.{no_vars, no_room, all_given, given_is}
use Rattle.runs.specs.Used.{run_of}
use Rattle.runs.proofs.run_twice.Goals as goal

pub run_on-dry-requires-clause-ends : goal.run_on-dry-requires-clause-ends
run_on-dry-requires-clause-ends g c =
    let t = g.met.D.Demand.twice c.args.demand.now c.args.tree.now in
    let small : length c.args.clauses.now ≤ 2 ^ 62 = omega (arith, c.well_formed) in
    t.dry_ends _ _ _ small (rw c.requires.ints_value.0 c.requires.lits_len_bound.0)

pub overflow_sub-words : goal.overflow_sub-words
overflow_sub-words g c =
    let t = g.met.D.Demand.twice c.args.demand.now c.args.tree.now in
    let small : length c.args.clauses.now ≤ 2 ^ 62 = omega (arith, c.well_formed) in
    let k = dry_known t c.requires.ints_value.0 c.requires.ints_value.1 small c.requires.lits_len_bound.0 c.run_on-dry.ensures.is c.args.c.next c.requires.fit.some in
    omega (arith, k.words)

pub overflow_add-c-2 : goal.overflow_add-c-2
overflow_add-c-2 g c =
    let t = g.met.D.Demand.twice c.args.demand.now c.args.tree.now in
    let small : length c.args.clauses.now ≤ 2 ^ 62 = omega (arith, c.well_formed) in
    let k = dry_known t c.requires.ints_value.0 c.requires.ints_value.1 small c.requires.lits_len_bound.0 c.run_on-dry.ensures.is c.args.c.next c.requires.fit.some in
    omega (arith, k.fits, c.requires.lits_len_bound.2, c.requires.lits_len_bound.3)

pub returns-then-c-vars : goal.returns-then-c-vars
returns-then-c-vars g c =
    let t = g.met.D.Demand.twice c.args.demand.now c.args.tree.now in
    let small : length c.args.clauses.now ≤ 2 ^ 62 = omega (arith, c.well_formed) in
    let k = dry_known t c.requires.ints_value.0 c.requires.ints_value.1 small c.requires.lits_len_bound.0 c.run_on-dry.ensures.is c.args.c.next c.requires.fit.some in
    let p = g.D.Demand.plain c.args.demand.now c.args.tree.now c.args.lits.now c.args.marks.now c.args.c.next in
    let h : c.args.c.last + 1 < p.next = omega (arith, k.next, c.if-c-vars.true, c.requires.fit.some) in
    record { answer = sym (no_vars _ _ _ _ h); lits_are = refl; marks_are = refl; row_is = k.row_is }

pub returns-then-len-c : goal.returns-then-len-c
returns-then-len-c g c =
    let t = g.met.D.Demand.twice c.args.demand.now c.args.tree.now in
    let small : length c.args.clauses.now ≤ 2 ^ 62 = omega (arith, c.well_formed) in
    let k = dry_known t c.requires.ints_value.0 c.requires.ints_value.1 small c.requires.lits_len_bound.0 c.run_on-dry.ensures.is c.args.c.next c.requires.fit.some in
    let p = g.D.Demand.plain c.args.demand.now c.args.tree.now c.args.lits.now c.args.marks.now c.args.c.next in
    let v : p.next ≤ c.args.c.last + 1 = omega (arith, k.next, c.if-c-vars.false, c.requires.fit.some) in
    let o : length c.args.clauses.now < c.args.c.words + length p.out = omega (arith, k.words, c.if-len-c.true, c.well_formed) in
    record { answer = sym (no_room _ _ _ _ v o); lits_are = refl; marks_are = refl; row_is = k.row_is }

pub run_on-ran-requires-clause-ends : goal.run_on-ran-requires-clause-ends
run_on-ran-requires-clause-ends g c =
    let t = g.met.D.Demand.twice c.args.demand.now c.args.tree.now in
    let small : length c.args.clauses.now ≤ 2 ^ 62 = omega (arith, c.well_formed) in
    let k = dry_known t c.requires.ints_value.0 c.requires.ints_value.1 small c.requires.lits_len_bound.0 c.run_on-dry.ensures.is c.args.c.next c.requires.fit.some in
    let p = g.D.Demand.plain c.args.demand.now c.args.tree.now c.args.lits.now c.args.marks.now c.args.c.next in
    let v : p.next ≤ c.args.c.last + 1 = omega (arith, k.next, c.if-c-vars.false, c.requires.fit.some) in
    t.real_ends _ _ c.run_on-dry.new.row (rw k.row_is small) (run_of c.args.c) c.requires.fit.counted (omega (arith, c.requires.lits_len_bound.2))

pub returns : goal.returns
returns g c =
    let t = g.met.D.Demand.twice c.args.demand.now c.args.tree.now in
    let small : length c.args.clauses.now ≤ 2 ^ 62 = omega (arith, c.well_formed) in
    let k = dry_known t c.requires.ints_value.0 c.requires.ints_value.1 small c.requires.lits_len_bound.0 c.run_on-dry.ensures.is c.args.c.next c.requires.fit.some in
    let p = g.D.Demand.plain c.args.demand.now c.args.tree.now c.args.lits.now c.args.marks.now c.args.c.next in
    let v : p.next ≤ c.args.c.last + 1 = omega (arith, k.next, c.if-c-vars.false, c.requires.fit.some) in
    let o : c.args.c.words + length p.out ≤ length c.args.clauses.now = omega (arith, k.words, c.if-len-c.false, c.well_formed) in
    let r = earnest t k.row_is small (run_of c.args.c) (omega arith) c.run_on-ran.ensures.is in
    let z = to_z-of_z {w = w32} {z = c.literal_at-lit.result} (record { sfits = c.literal_at-lit.type_inv }) ∙ c.literal_at-lit.ensures ∙ ap (λ (x : List ℤ). lit_at (con_lits c.args.tree.now.nodes.now c.args.tree.now.inputs.now x c.args.id) c.args.i) r.lits in
    record {
      answer = given_is c.args.c z r.next r.words ∙ sym (all_given _ _ _ _ v o);
      lits_are = r.lits;
      marks_are = r.marks;
      row_is = r.row_is;
    }
