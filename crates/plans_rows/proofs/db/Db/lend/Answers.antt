use Rattle.std.proofs.Common.{◌≡◌, ℕ, min, refl, rules}
use Rattle.plans.specs.declared.command.Lengths.{Lengths}
use Rattle.plans_rows.proofs.db.Db.lend.Goals as goal

-- lengths that agree row by row
same : (n : Lengths) (a b c d e f g h : ℕ) → a ≡ n.nodes → b ≡ n.inputs → c ≡ n.keys → d ≡ n.lits → e ≡ n.marks → f ≡ n.clauses → g ≡ n.ints → h ≡ n.bytes → record { nodes = a; inputs = b; keys = c; lits = d; marks = e; clauses = f; ints = g; bytes = h } ≡ n
same n a b c d e f g h ea eb ec ed ee ef eg eh = rw (ea, eb, ec, ed, ee, ef, eg, eh) refl

pub returns-clause-ok : goal.returns-clause-ok
returns-clause-ok c =
    let nodes : min c.args.n.nodes c.args.self.now.nodes.len ≡ c.args.n.nodes = search rules in
    let inputs : min c.args.n.inputs c.args.self.now.inputs.len ≡ c.args.n.inputs = search rules in
    let keys : min c.args.n.keys c.args.self.now.keys.len ≡ c.args.n.keys = search rules in
    let lits : min c.args.n.lits c.args.self.now.lits.len ≡ c.args.n.lits = search rules in
    let marks : min c.args.n.marks c.args.self.now.marks.len ≡ c.args.n.marks = search rules in
    let clauses : min c.args.n.clauses c.args.self.now.clauses.len ≡ c.args.n.clauses = search rules in
    let ints : min c.args.n.ints c.args.self.now.ints.len ≡ c.args.n.ints = search rules in
    let bytes : min c.args.n.bytes c.args.self.now.bytes.len ≡ c.args.n.bytes = search rules in
    same c.args.n _ _ _ _ _ _ _ _ nodes inputs keys lits marks clauses ints bytes
