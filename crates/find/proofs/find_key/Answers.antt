use Rattle.std.proofs.Common.{rules, tests, sym, ◌∙◌, arith}
use Rattle.find.proofs.Paper.{key_is, key_left}
use Rattle.find.proofs.find_key.Goals.{else-at-count-via-then-at-count+else-word_from-v, else-at-count-via-else-at-count}
use Rattle.find.proofs.find_key.Goals as goal

pub returns-then-word_from-v : goal.returns-then-word_from-v
returns-then-word_from-v c =
    let a = c.args in
    key_is a.keys.now a.first a.v a.count c.requires _ c.if-at-count.true (sym c.word_from.ensures.0 ∙ c.if-word_from-v.true)

pub returns : goal.returns
returns c =
    let a = c.args in
    let f = c.first_not-at.ensures in
    key_left a.keys.now a.first a.v a.count c.requires _ f.bound (λ h. let q = f.before h in search (rules, tests)) (λ h. let q = f.after h in search (rules, tests))
    (λ h e. elim c.else-at-count.branch [
      | else-at-count-via-then-at-count+else-word_from-v w ↦ w.if-word_from-v.false (w.word_from.ensures.0 ∙ e)
      | else-at-count-via-else-at-count w ↦ let z : ⊥ = omega (arith, w.if-at-count.false) in z
    ])
