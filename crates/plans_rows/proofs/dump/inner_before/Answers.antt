use Rattle.std.proofs.Common.{ℕ, [], ◌∷◌, ◌<◌, arith, refl}
use Rattle.std.proofs.lemmas.Str.Ascii.{IsAscii-cons, IsAscii-nil}
use Rattle.std.specs.Str.{IsAscii}
use Rattle.plans_rows.proofs.dump.inner_before.Goals as goal

six : (a b c d e f : ℕ) → a < 128 → b < 128 → c < 128 → d < 128 → e < 128 → f < 128 → IsAscii (a ∷ b ∷ c ∷ d ∷ e ∷ f ∷ [])
six a b c d e f i j k l m n =
    IsAscii-cons a (b ∷ c ∷ d ∷ e ∷ f ∷ []) i (IsAscii-cons b (c ∷ d ∷ e ∷ f ∷ []) j (IsAscii-cons c (d ∷ e ∷ f ∷ []) k
    (IsAscii-cons d (e ∷ f ∷ []) l (IsAscii-cons e (f ∷ []) m (IsAscii-cons f [] n IsAscii-nil)))))

pub returns-clause-ascii : goal.returns-clause-ascii
returns-clause-ascii c h =
    let cells = six 32 99 101 108 108 115 (omega arith) (omega arith) (omega arith) (omega arith) (omega arith) (omega arith) in
    let depth = six 32 100 101 112 116 104 (omega arith) (omega arith) (omega arith) (omega arith) (omega arith) (omega arith) in
    let last = c.spaced_before-start.ensures.ascii (c.bytes_before-start.ensures.ascii cells h) in
    let rmul = c.spaced_before-start-2.ensures.ascii (c.bytes_before-start-2.ensures.ascii depth last) in
    let left = c.spaced_before-start-5.ensures.ascii (c.spaced_before-start-4.ensures.ascii (c.spaced_before-start-3.ensures.ascii rmul)) in
    c.bytes_before.ensures.ascii c.requires.letters left

pub returns-clause-written : goal.returns-clause-written
returns-clause-written c =
    rw (c.bytes_before.ensures.written, c.spaced_before-start-5.ensures.written, c.spaced_before-start-4.ensures.written, c.spaced_before-start-3.ensures.written, c.spaced_before-start-2.ensures.written, c.bytes_before-start-2.ensures.written, c.spaced_before-start.ensures.written, c.bytes_before-start.ensures.written) refl
