use borrow.Author.Rules.{rules}
use mathlib.Core.Path.{◌≡◌, sym, ap, ap₂, ◌∙◌}
use mathlib.Core.List.{List}
use Prim.Native.Nat.{ℕ, ◌+◌, ◌<◌, ◌^◌, min}
use native.Mathlib.Omega.{arith}
use lib.ListN.{length, drop, set}
use lib.Seq.{sets}
use lib.IntN.{ℤ}
use Rattle.paper.specs.Plain.{words_of, lit_at}
use Rattle.clause.specs.Row.{lay, at_row}
use Rattle.clause.proofs.Laws.{words_length, words_at, words_last, left_step}
use Rattle.clause.proofs.ClauseRow.append.Goals as goal

pub loop-k-preserved : goal.loop-k-preserved
loop-k-preserved c =
    let p = c.put in
    let l = c.loop-k in
    let at = c.args.self.now.words in
    let three : length c.args.c.lits ≡ 3 = search rules in
    let e : p.new.row ≡ set l.self.row.now (at + l.k) (lit_at c.args.c.lits l.k) = search rules in
    let in_words : l.k < length (words_of c.args.c) = omega (arith, words_length c.args.c three c.requires.1) in (
      record { lent = l.invariant.0.lent; long = p.auto.row ∙ l.invariant.0.long },
      l.invariant.1,
      ap (λ (r : List ℤ). sets r (at + (l.k + 1)) (drop (l.k + 1) (words_of c.args.c))) (e ∙ ap (set l.self.row.now (at + l.k)) (sym (words_at _ three c.requires.1 l.k (omega arith))))
          ∙ sym (left_step l.self.row.now (words_of c.args.c) at l.k in_words)
          ∙ l.invariant.2,
    )

pub returns-clause-laid : goal.returns-clause-laid
unfolding lay
returns-clause-laid c =
    let p = c.put-2 in
    let l = c.loop-k in
    let at = c.args.self.now.words in
    let three : length c.args.c.lits ≡ 3 = search rules in
    let k : l.k ≡ c.args.c.len = omega arith in
    let row : p.new.row ≡ sets c.args.self.now.row.now at (words_of c.args.c) =
    p.ensures ∙ sym (ap (sets l.self.row.now (at + c.args.c.len)) (words_last c.args.c three c.requires.1))
    ∙ sym (ap (λ (m : ℕ). sets l.self.row.now (at + m) (drop m (words_of c.args.c))) k) ∙ l.invariant.2 in
    ap₂ at_row row (c.min-self.ensures ∙ ap (λ (m : ℕ). min (at + m) (2 ^ 62)) (sym (words_length c.args.c three c.requires.1)))
