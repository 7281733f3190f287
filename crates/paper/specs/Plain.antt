-- 01, "The plain run": "Unweighted, index i, demand d (an enum of If, OnlyIf, both)".
-- S is where clauses go and `put` appends one: the run is one definition, whatever becomes of its clauses.
use Rattle.std.specs.Prelude.{Bool, true, false, cond, not, ◌&&◌, ◌||◌, List, [], ◌∷◌, ◌++◌, ℕ, zero, suc, ◌+◌, ◌-◌, min, eqb, ℤ, pos, neg_ℤ, length, get_or, take, set}
use Rattle.paper.specs.Span.{span}
use Rattle.paper.specs.Rows.{node_at, is_unit, is_dummy, con_len, con_lits, is_zero}
use Rattle.paper.specs.declared.Node.{Node}
use Rattle.paper.specs.declared.Semantics.{Semantics}
use Rattle.paper.specs.declared.Semantics.TheVariants.{If, OnlyIf, IfAndOnlyIf}
use Rattle.paper.specs.declared.Mark.{Mark}
use Rattle.paper.specs.declared.Mark.TheVariants.{Unmarked, MarkedIf, MarkedOnlyIf, MarkedBoth}
use Rattle.paper.specs.declared.Want.{Want}
use Rattle.paper.specs.declared.Span.{Span}
use Rattle.paper.specs.declared.Ranges.{Ranges}
use Rattle.paper.specs.declared.Todo.{Todo}
use Rattle.paper.specs.declared.Clause.{Clause}
use Rattle.paper.specs.declared.Precond.{Precond}
use Rattle.paper.specs.declared.Precond.TheVariants.{Return, Pass, Continue}

-- ---- demands and marks

abbrev pub just_if : Want
just_if = record { fi = true; fo = false }

abbrev pub just_only : Want
just_only = record { fi = false; fo = true }

unfoldable pub want_of : Semantics → Want
want_of If = just_if
want_of OnlyIf = just_only
want_of IfAndOnlyIf = record { fi = true; fo = true }

-- "marks (0 none, 1 If, 2 OnlyIf, 3 both)"
unfoldable pub mark_of : ℕ → Mark
mark_of m = cond (eqb m 0) Unmarked (cond (eqb m 1) MarkedIf (cond (eqb m 2) MarkedOnlyIf MarkedBoth))

unfoldable pub mark_byte : Bool → Bool → ℕ
mark_byte i o = cond i (cond o 3 1) (cond o 2 0)

unfoldable pub has_if : Mark → Bool
has_if Unmarked = false
has_if MarkedIf = true
has_if MarkedOnlyIf = false
has_if MarkedBoth = true

unfoldable pub has_only : Mark → Bool
has_only Unmarked = false
has_only MarkedIf = false
has_only MarkedOnlyIf = true
has_only MarkedBoth = true

-- step 1, "Missing marks only": the part of the demand that the mark m lacks, and the mark once it is met
unfoldable pub missing_of : ℕ → Want → Todo
missing_of m w =
    record {
      want = record { fi = w.fi && not (has_if (mark_of m)); fo = w.fo && not (has_only (mark_of m)) };
      mark = mark_byte (w.fi || has_if (mark_of m)) (w.fo || has_only (mark_of m));
    }

-- ---- the ranges of step 3, over the counts a and b of a child and of the other

-- "If missing: x runs from i+1-min(b,i+1) to min(a,i+1). Demand If of the left at x-1 for each x > 0, then of the right at y-1 for each y = i+1-x > 0":
-- the outputs x - 1, and the same with a and b exchanged for y - 1
unfoldable pub if_span : ℕ → ℕ → ℕ → Span
if_span a b i = record { from = i + 1 - min b (i + 1) - 1; to = min a (i + 1) }

-- "OnlyIf missing: x runs from i-min(b,i) to min(a,i); demand OnlyIf of the left at each x < a, then of the right at each y = i-x < b"
unfoldable pub only_span : ℕ → ℕ → ℕ → Span
only_span a b i = record { from = i - min b i; to = min a (i + 1) }

abbrev pub no_span : Span
no_span = record { from = 0; to = 0 }

unfoldable pub ranges_of : Node → ℕ → ℕ → Want → ℕ → Ranges
ranges_of n a b w i =
    record {
      left = n.left;
      right = n.right;
      left_if = cond w.fi (if_span a b i) no_span;
      right_if = cond w.fi (if_span b a i) no_span;
      left_only = cond w.fo (only_span a b i) no_span;
      right_only = cond w.fo (only_span b a i) no_span;
    }

-- step 2, "One child dummy: demand the missing part at i of the other child", else step 3. A dummy is told by its kind
unfoldable pub plan_two : Node → Node → Node → ℕ → Todo → Precond
plan_two n l r i t =
    cond (is_dummy l) (Pass n.right t)
    (cond (is_dummy r) (Pass n.left t)
    (Continue (ranges_of n (con_len l) (con_len r) t.want i) t))

-- "None missing: answer the literal, do nothing."
unfoldable pub plan_unit : Node → Node → Node → ℕ → Todo → Precond
plan_unit n l r i t = cond t.want.fi (plan_two n l r i t) (cond t.want.fo (plan_two n l r i t) Return)

-- "A leaf answers its literal": nothing is to be done there
unfoldable pub plan_of : List ℕ → List ℕ → ℕ → ℕ → Want → Precond
plan_of ns marks k i w =
    cond (is_unit (node_at ns k))
    (plan_unit (node_at ns k) (node_at ns (node_at ns k).left) (node_at ns (node_at ns k).right) i
    (missing_of (get_or marks ((node_at ns k).first + i) 0) w))
    Return

-- ---- clauses

abbrev pub clause1 : ℤ → Clause
clause1 a = record { lits = a ∷ pos 0 ∷ pos 0 ∷ []; len = 1 }

abbrev pub clause2 : ℤ → ℤ → Clause
clause2 a b = record { lits = a ∷ b ∷ pos 0 ∷ []; len = 2 }

abbrev pub clause3 : ℤ → ℤ → ℤ → Clause
clause3 a b c = record { lits = a ∷ b ∷ c ∷ []; len = 3 }

abbrev pub lit_at : List ℤ → ℕ → ℤ
lit_at l k = get_or l k (pos 0)

-- "(-left[x-1], -right[y-1], o), a literal with x or y = 0 left out"
unfoldable pub if_clause : List ℤ → List ℤ → ℕ → ℕ → ℤ → Clause
if_clause l r x y o =
    cond (eqb x 0)
    (cond (eqb y 0) (clause1 o) (clause2 (neg_ℤ (lit_at r (y - 1))) o))
    (cond (eqb y 0) (clause2 (neg_ℤ (lit_at l (x - 1))) o) (clause3 (neg_ℤ (lit_at l (x - 1))) (neg_ℤ (lit_at r (y - 1))) o))

-- "(left[x], right[y], -o), left out where x = a or y = b"
unfoldable pub only_clause : List ℤ → List ℤ → ℕ → ℕ → ℤ → Clause
only_clause l r x y o =
    cond (eqb x (length l))
    (cond (eqb y (length r)) (clause1 (neg_ℤ o)) (clause2 (lit_at r y) (neg_ℤ o)))
    (cond (eqb y (length r)) (clause2 (lit_at l x) (neg_ℤ o)) (clause3 (lit_at l x) (lit_at r y) (neg_ℤ o)))

-- "Clauses: literals then 0."
unfoldable pub words_of : Clause → List ℤ
words_of c = take c.len c.lits ++ (pos 0 ∷ [])

-- ---- the run

-- the rows and counters of a run
pub record St (S : Type 0) : Type 0 where
  pub lits : List ℤ
  pub marks : List ℕ
  pub next : ℕ
  pub out : S

-- the cell is there and has no literal
abbrev pub has_none : List ℤ → ℕ → Bool
has_none lits at = is_zero (get_or lits at (pos 1))

-- step 4, "Take a literal (the next variable) if there is none"
abbrev pub taken_lits : List ℤ → ℕ → ℕ → List ℤ
taken_lits lits at next = cond (has_none lits at) (set lits at (pos next)) lits

abbrev pub taken_next : List ℤ → ℕ → ℕ → ℕ
taken_next lits at next = cond (has_none lits at) (next + 1) next

module _ {S : Type 0} (put : S → Clause → S) where
  -- step 5, "If: for x ascending append .."
  unfoldable pub emit_if : List ℤ → List ℤ → ℕ → ℤ → S → S
  emit_if l r i o s =
      span (i + 1 - min (length r) (i + 1)) (min (length l) (i + 1) + 1) (λ x t. put t (if_clause l r x (i + 1 - x) o)) s

  -- "OnlyIf: append .."
  unfoldable pub emit_only : List ℤ → List ℤ → ℕ → ℤ → S → S
  emit_only l r i o s =
      span (i - min (length r) i) (min (length l) i + 1) (λ x t. put t (only_clause l r x (i - x) o)) s

  unfoldable pub emit_both : List ℤ → List ℤ → ℕ → ℤ → Want → S → S
  emit_both l r i o w s = cond w.fo (emit_only l r i o (cond w.fi (emit_if l r i o s) s)) (cond w.fi (emit_if l r i o s) s)

  -- steps 4 and 5: a literal, the mark, the clauses. With one child dummy the ranges come down to step 2's clause for each direction
  unfoldable pub finish_of : List ℕ → List ℤ → ℕ → ℕ → Todo → St S → St S
  finish_of ns ins k i t s =
      let at = (node_at ns k).first + i in
      let ls = taken_lits s.lits at s.next in
      record {
        lits = ls;
        marks = set s.marks at t.mark;
        next = taken_next s.lits at s.next;
        out = emit_both (con_lits ns ins ls (node_at ns k).left) (con_lits ns ins ls (node_at ns k).right) i (lit_at ls at) t.want s.out;
      }

  -- `rec` meets a demand of a child: node, index, directions
  unfoldable pub demands_of : (ℕ → ℕ → Want → St S → St S) → ℕ → Span → Want → St S → St S
  demands_of rec c sp w s = span sp.from sp.to (λ j t. rec c j w t) s

  -- step 3: If of the left, then of the right; then OnlyIf of the left, then of the right
  unfoldable pub walk_of : (ℕ → ℕ → Want → St S → St S) → Ranges → St S → St S
  walk_of rec rs s =
      demands_of rec rs.right rs.right_only just_only
      (demands_of rec rs.left rs.left_only just_only
      (demands_of rec rs.right rs.right_if just_if
      (demands_of rec rs.left rs.left_if just_if s)))

  unfoldable pub step_of : (ℕ → ℕ → Want → St S → St S) → List ℕ → List ℤ → ℕ → ℕ → Precond → St S → St S
  step_of rec ns ins k i Return s = s
  step_of rec ns ins k i (Pass c t) s = finish_of ns ins k i t (rec c i t.want s)
  step_of rec ns ins k i (Continue rs t) s = finish_of ns ins k i t (walk_of rec rs s)

  -- demand w of output i of node k. "ids fall": the fuel bounds the ids on the way, and any fuel above k gives the same
  unfoldable pub define : ℕ → List ℕ → List ℤ → ℕ → ℕ → Want → St S → St S
  define zero ns ins k i w s = s
  define (suc f) ns ins k i w s = step_of (define f ns ins) ns ins k i (plan_of ns s.marks k i w) s

-- unlimited room: the words are gathered in a list
abbrev pub grow : List ℤ → Clause → List ℤ
grow out c = out ++ words_of c

abbrev pub start : List ℤ → List ℕ → ℕ → St (List ℤ)
start lits marks next = record { lits = lits; marks = marks; next = next; out = [] }

-- the rows afterwards, the next free variable, and the words that are appended
unfoldable pub plain_run : List ℕ → List ℤ → List ℤ → List ℕ → ℕ → ℕ → ℕ → Want → St (List ℤ)
plain_run ns ins lits marks next k i w = define grow (k + 1) ns ins k i w (start lits marks next)
