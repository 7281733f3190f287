use Rattle.std.proofs.Common.{◌≡◌, ℕ, ◌+◌, ◌∙◌, List, ℤ, ap, arith, length, add-one}
use Rattle.paper.specs.declared.Counters.{Counters}
use Rattle.records.specs.declared.Seen.{Seen}
use Rattle.records.specs.declared.Record.{Record}
use Rattle.records.specs.Table.{record_in, seen_at, step_of, earlier_of, finish_of}
use Rattle.records.proofs.Verdict.{verdict}
use Rattle.records.proofs.check_records.Goals as goal

pub loop-i-init : goal.loop-i-init
unfolding seen_at
loop-i-init c = c.begin-s.ensures

-- one record more
seen_more : (at : ℕ → Record) (inputs : List ℤ) (keys : List ℕ) (lits : List ℤ) (marks : List ℕ) (clauses : List ℤ) (c : Counters) (i left right : ℕ) (s : Seen)
    → s ≡ seen_at at inputs keys lits marks clauses c i → left ≡ earlier_of (at i).left i → right ≡ earlier_of (at i).right i
    → step_of (at i) (at left) (at right) i s inputs keys lits marks clauses c ≡ seen_at at inputs keys lits marks clauses c (i + 1)
unfolding seen_at
seen_more at inputs keys lits marks clauses c i left right s e l r = rw (add-one i, e, l, r)

pub loop-i-preserved : goal.loop-i-preserved
loop-i-preserved c =
    c.step-s.ensures
    ∙ seen_more (record_in c.args.nodes.now) c.args.inputs.now c.args.keys.now c.args.lits.now c.args.marks.now c.args.clauses.now c.args.c c.loop-i.i c.earlier.result
    c.earlier-in-loop-i.result c.loop-i.s c.loop-i.invariant c.earlier.ensures c.earlier-in-loop-i.ensures

pub returns : goal.returns
returns c =
    let last : c.loop-i.i ≡ length c.args.nodes.now = omega arith in
    c.finish.ensures
    ∙ ap (λ (s : Seen). finish_of s c.args.inputs.now c.args.keys.now c.args.lits.now c.args.marks.now c.args.clauses.now c.args.c) (c.loop-i.invariant ∙ ap (λ (i : ℕ). seen_at (record_in c.args.nodes.now) c.args.inputs.now c.args.keys.now c.args.lits.now c.args.marks.now c.args.clauses.now c.args.c i) last)
    ∙ verdict (record_in c.args.nodes.now) c.args.inputs.now c.args.keys.now c.args.lits.now c.args.marks.now c.args.clauses.now c.args.c (length c.args.nodes.now)
