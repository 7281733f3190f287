use Rattle.std.proofs.Common.{ℕ, [], ◌∷◌, ◌<◌, arith}
use Rattle.std.proofs.lemmas.Fmt.{length-decimal-le}
use Rattle.std.proofs.lemmas.Str.Ascii.{IsAscii-cons, IsAscii-nil}
use Rattle.std.specs.Str.{IsAscii}
use Rattle.plans_rows.proofs.dump.cell_before.Goals as goal

pub number_before-start-requires-2-clause-room : goal.number_before-start-requires-2-clause-room
number_before-start-requires-2-clause-room c =
    omega (arith, length-decimal-le 3 c.args.mark (omega arith) (omega arith) (omega arith))

pub bytes_before-requires-clause-room : goal.bytes_before-requires-clause-room
bytes_before-requires-clause-room c =
    omega (arith, length-decimal-le 3 c.args.mark (omega arith) (omega arith) (omega arith), length-decimal-le 10 c.args.key (omega arith) (omega arith) (omega arith))

pub returns-clause-short : goal.returns-clause-short
returns-clause-short c =
    omega (arith, length-decimal-le 3 c.args.mark (omega arith) (omega arith) (omega arith), length-decimal-le 10 c.args.key (omega arith) (omega arith) (omega arith))

one : (b : ℕ) → b < 128 → IsAscii (b ∷ [])
one b h = IsAscii-cons b [] h IsAscii-nil

pub returns-clause-ascii : goal.returns-clause-ascii
returns-clause-ascii c h =
    let colon = one 58 (omega arith) in
    let mark = c.bytes_before-start.ensures.ascii colon (c.number_before-start.ensures.ascii h) in
    let lit = c.bytes_before-start-2.ensures.ascii colon (c.literal_before-start.ensures.ascii mark) in
    c.bytes_before.ensures.ascii (one 32 (omega arith)) (c.number_before-start-2.ensures.ascii lit)
