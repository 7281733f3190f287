use Rattle.std.proofs.Common.{arith, ◌≡◌, ℕ, ◌+◌, ◌<◌, length, List, slice_index_or}
use Rattle.std.specs.Str.{IsUtf8, IsCharBoundary}
use Rattle.std.proofs.lemmas.Str.{IsCharBoundary-before_ascii, IsCharBoundary-after_ascii, IsCharBoundary-start}
use Rattle.plans.specs.Words.{IsBlank}
use Rattle.plans.proofs.words.Words.of.Goals as goal
use Rattle.plans.proofs.words.Words.of.Goals.{then-is_blank, else-is_blank}

ascii : (b : ℕ) → IsBlank b → b < 128
ascii b h = grind arith

-- a line may be cut before a blank, and after it
before : (s t : List ℕ) (i : ℕ) → s ≡ t → i < length s → IsBlank (slice_index_or s i 0) → IsCharBoundary t i
before s t i e l h = IsCharBoundary-before_ascii t i (rw (← e) l) (rw (← e) (ascii _ h))

after : (s t : List ℕ) (i : ℕ) → s ≡ t → IsUtf8 t → i < length s → IsBlank (slice_index_or s i 0) → IsCharBoundary t (i + 1)
after s t i e u l h = IsCharBoundary-after_ascii t i u (rw (← e) l) (rw (← e) (ascii _ h))

pub loop-i-init : goal.loop-i-init
loop-i-init c = record { begun = omega arith; boundary = IsCharBoundary-start _ c.utf8.line }

pub range-requires-clause-start_boundary : goal.range-requires-clause-start_boundary
range-requires-clause-start_boundary c = λ _. c.loop-i.invariant.boundary

pub range-requires-clause-end_boundary : goal.range-requires-clause-end_boundary
range-requires-clause-end_boundary c =
    before _ _ _ c.as_bytes-b-items.ensures.value c.loop-i-test.true (c.is_blank.ensures.0 c.if-is_blank.true)

pub loop-i-preserved : goal.loop-i-preserved
loop-i-preserved c =
    elim c.if-is_blank.branch [
      | then-is_blank w ↦ record {
        begun = omega (arith, w.from-is);
        boundary = rw w.from-is (after _ _ _ c.as_bytes-b-items.ensures.value c.utf8.line c.loop-i-test.true (c.is_blank.ensures.0 w.if-is_blank.true));
      }
      | else-is_blank w ↦ record {
        begun = omega (arith, w.from-is, c.loop-i.invariant.begun);
        boundary = rw w.from-is c.loop-i.invariant.boundary;
      }
    ]

pub range_from-requires : goal.range_from-requires
range_from-requires c = λ _. c.loop-i.invariant.boundary
