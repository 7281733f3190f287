use Rattle.std.proofs.Common.{rules, tests}
use Rattle.find.proofs.Pairs.{cut_of}
use Rattle.find.proofs.first_from.Goals as goal

pub returns : goal.returns
returns c =
    let a = c.args in
    let f = c.first_not.ensures in
    cut_of a.keys.now a.child.node c.requires.sorted a.child.mul a.more a.v _ (search rules) (λ h. let q = f.before h in search (rules, tests)) (λ h. let q = f.after (search rules) in search (rules, tests))
