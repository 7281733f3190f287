-- 01, "The plain run": "Weighted, value v".
use Rattle.std.specs.Prelude.{cond, List, ℕ, zero, suc, ◌+◌, ◌-◌, ◌/◌, ◌%◌, eqb, ltb, ℤ, get_or, set, None, Option, Some}
use Rattle.paper.specs.Span.{span}
use Rattle.paper.specs.Rows.{node_at, is_unit, is_general, value_count, con_len, con_val, con_lits}
use Rattle.paper.specs.Plain.{St, lit_at, taken_lits, taken_next, if_clause, define, just_if, grow, start}
use Rattle.paper.specs.declared.Node.{Node}
use Rattle.paper.specs.declared.Want.{Want}
use Rattle.paper.specs.declared.Clause.{Clause}
use Rattle.paper.specs.declared.Way.{Way}
use Rattle.paper.specs.declared.Job.{Job}
use Rattle.paper.specs.declared.Job.TheVariants.{Nothing, Count, Sum}

-- ---- outputs by value

-- "search the keys for v": the first of n keys, from the k-th behind `first` on, that is v
unfoldable pub key_from : List ℕ → ℕ → ℕ → ℕ → ℕ → Option ℕ
key_from keys first v zero k = None
key_from keys first v (suc n) k = cond (eqb (get_or keys (first + k) 0) v) (Some k) (key_from keys first v n (k + 1))

-- "Leaf: v = 1 only. Dummy: answer 1. Unit: index v-1 ..; v = 0 or above the count is answer 1. General: search the keys for v, else answer 1."
unfoldable pub output_of : List ℕ → Node → ℕ → Option ℕ
output_of keys n v =
    cond (is_general n) (key_from keys n.first v n.count 0) (cond (eqb v 0) None (cond (ltb (value_count n) v) None (Some (v - 1))))

-- an output's place, counted from 1; 0 where there is none
abbrev pub place_of : Option ℕ → ℕ
place_of (Some j) = j + 1
place_of None = 0

-- the place of the child's output that times the multiplier m is v: "if .. is a multiple of the right multiplier and the quotient is an output"
unfoldable pub share_of : List ℕ → Node → ℕ → ℕ → ℕ
share_of keys n m v = cond (eqb (v % m) 0) (place_of (output_of keys n (v / m))) 0

-- ---- the ways to make up a value

abbrev pub no_way : Way
no_way = record { x = 0; y = 0 }

-- x with the output of the other child that makes up the rest
abbrev pub joined : ℕ → ℕ → Way
joined x y = cond (eqb y 0) no_way (record { x = x; y = y })

-- The p-th way: "For left values x ascending with m·x < v" the pairs; "Then, if v is the left multiplier times an output of the left child" that
-- alone; "Then right alone likewise."
unfoldable pub way_two : List ℕ → Node → Node → Node → ℕ → ℕ → Way
way_two keys n l r v p =
    cond (ltb p (con_len l))
    (cond (ltb (con_val keys l n.lmul p) v) (joined (p + 1) (share_of keys r n.rmul (v - con_val keys l n.lmul p))) no_way)
    (cond (eqb p (con_len l)) (record { x = share_of keys l n.lmul v; y = 0 }) (record { x = 0; y = share_of keys r n.rmul v }))

abbrev pub way_of : List ℕ → List ℕ → ℕ → ℕ → ℕ → Way
way_of ns keys k v p = way_two keys (node_at ns k) (node_at ns (node_at ns k).left) (node_at ns (node_at ns k).right) v p

-- how many ways there are to try
abbrev pub turns_of : List ℕ → ℕ → ℕ
turns_of ns k = con_len (node_at ns (node_at ns k).left) + 2

-- What is to be done for the output at place y of node k. "Unit: index v-1, If"; a general node's cell and key, "Marked: answer the literal"
unfoldable pub job_of : List ℕ → List ℕ → List ℕ → ℕ → ℕ → Job
job_of ns keys marks k y =
    cond (eqb y 0) Nothing
    (cond (is_unit (node_at ns k)) (Count (y - 1))
    (cond (is_general (node_at ns k))
    (cond (eqb (get_or marks ((node_at ns k).first + (y - 1)) 0) 0) (Sum ((node_at ns k).first + (y - 1)) (get_or keys ((node_at ns k).first + (y - 1)) 0)) Nothing)
    Nothing))

-- ---- the run

module _ {S : Type 0} (put : S → Clause → S) where
  -- "Else take a literal if there is none, before the children."
  unfoldable pub take_lit_at : ℕ → St S → St S
  take_lit_at at s = record { lits = taken_lits s.lits at s.next; marks = s.marks; next = taken_next s.lits at s.next; out = s.out }

  -- "Mark If."
  unfoldable pub mark_at : ℕ → St S → St S
  mark_at at s = record { lits = s.lits; marks = set s.marks at 1; next = s.next; out = s.out }

  -- "append (-left, -right, o)"; alone "(-left, o)"; for no way nothing
  unfoldable pub emit_way : List ℤ → List ℤ → Way → ℤ → S → S
  emit_way l r p o s = cond (eqb (p.x + p.y) 0) s (put s (if_clause l r p.x p.y o))

  unfoldable pub clause_at : List ℕ → List ℤ → ℕ → ℕ → Way → St S → St S
  clause_at ns ins k at p s =
      record {
        lits = s.lits;
        marks = s.marks;
        next = s.next;
        out = emit_way (con_lits ns ins s.lits (node_at ns k).left) (con_lits ns ins s.lits (node_at ns k).right) p (lit_at s.lits at) s.out;
      }

  -- "demand that, then left x, and append": `rec` meets a demand of a child, node and place
  unfoldable pub link_of : (ℕ → ℕ → St S → St S) → List ℕ → List ℤ → ℕ → ℕ → Way → St S → St S
  link_of rec ns ins k at p s = clause_at ns ins k at p (rec (node_at ns k).left p.x (rec (node_at ns k).right p.y s))

  unfoldable pub links_of : (ℕ → ℕ → St S → St S) → List ℕ → List ℤ → List ℕ → ℕ → ℕ → ℕ → St S → St S
  links_of rec ns ins keys k at v s = span 0 (turns_of ns k) (λ j t. link_of rec ns ins k at (way_of ns keys k v j) t) s

  unfoldable pub do_of : (ℕ → ℕ → St S → St S) → (ℕ → ℕ → Want → St S → St S) → List ℕ → List ℤ → List ℕ → ℕ → Job → St S → St S
  do_of rec count ns ins keys k Nothing s = s
  do_of rec count ns ins keys k (Count i) s = count k i just_if s
  do_of rec count ns ins keys k (Sum at v) s = mark_at at (links_of rec ns ins keys k at v (take_lit_at at s))

  -- the output at place y of node k. The fuel bounds the ids on the way, and any fuel above k gives the same
  unfoldable pub weigh : ℕ → List ℕ → List ℤ → List ℕ → ℕ → ℕ → St S → St S
  weigh zero ns ins keys k y s = s
  weigh (suc f) ns ins keys k y s = do_of (weigh f ns ins keys) (define put (suc f) ns ins) ns ins keys k (job_of ns keys s.marks k y) s

-- the rows afterwards, the next free variable, and the words that are appended
unfoldable pub weigh_run : List ℕ → List ℤ → List ℕ → List ℤ → List ℕ → ℕ → ℕ → ℕ → St (List ℤ)
weigh_run ns ins keys lits marks next k y = weigh grow (k + 1) ns ins keys k y (start lits marks next)
