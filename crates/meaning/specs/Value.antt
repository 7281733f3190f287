-- The value of a node under an assignment of all variables, by 01's rule; it is what the call `value` answers, and its equations.
use Rattle.std.specs.Prelude.{Bool, cond, List, ℤ, pos, get_or, eqb}
use Prim.Native.Nat.{ℕ, zero, suc, ◌+◌, ◌*◌}
use Rattle.paper.specs.Rows.{node_at, is_leaf, is_dummy}
use Rattle.paper.specs.Upkeep.{byte_at}
use Rattle.paper.specs.declared.Node.{Node}
use Rattle.meaning.specs.Table.{bit}

-- "leaf 1 if its literal is true, dummy 0, else the children's values times multipliers, added"
-- b tells which literals count as true: `litv α` for an assignment α
unfoldable pub worth_under : Node → List ℤ → (ℤ → Bool) → ℕ → ℕ → ℕ
worth_under n ins b l r = cond (is_leaf n) (bit (b (get_or ins n.first (pos 0)))) (cond (is_dummy n) 0 (n.lmul * l + n.rmul * r))

-- by recursion over the children; the fuel is above the id
unfoldable pub sum_under : ℕ → List ℕ → List ℤ → (ℤ → Bool) → ℕ → ℕ
sum_under zero ns ins b n = 0
sum_under (suc f) ns ins b n = worth_under (node_at ns n) ins b (sum_under f ns ins b (node_at ns n).left) (sum_under f ns ins b (node_at ns n).right)

-- the sum of a node
abbrev pub sum_at : List ℕ → List ℤ → (ℤ → Bool) → ℕ → ℕ
sum_at ns ins b n = sum_under (n + 1) ns ins b n

-- ---- the assignment as a row of bytes says the same

abbrev pub assigned : List ℕ → ℕ → Bool
assigned a v = eqb (byte_at a v) 1
