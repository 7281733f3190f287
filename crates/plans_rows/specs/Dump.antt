-- What `dump` says of the cells of a node, and of an inner node before its cells.
use Rattle.std.specs.Prelude.{ℕ, ℤ, List, [], ◌∷◌, ◌++◌, codes, decimal}
use Rattle.std.specs.Fmt.{signed_decimal}
use Rattle.paper.specs.declared.Node.{Node}

-- ` KEY:LITERAL:MARKS`
abbrev pub cell_text : ℕ → ℤ → ℕ → List ℕ
cell_text key lit mark = 32 ∷ decimal key ++ 58 ∷ signed_decimal lit ++ 58 ∷ decimal mark

-- a cell for each place that all three rows have
abbrev pub cells_text : List ℕ → List ℤ → List ℕ → List ℕ
cells_text (key ∷ keys) (lit ∷ lits) (mark ∷ marks) = cell_text key lit mark ++ cells_text keys lits marks
cells_text _ _ _ = []

-- ` LEFT MULTIPLIER RIGHT MULTIPLIER depth DEPTH cells`, and what follows
abbrev pub inner_text : Node → List ℕ → List ℕ
inner_text n rest =
    32 ∷ decimal n.left ++ (32 ∷ decimal n.lmul ++ (32 ∷ decimal n.right ++ (32 ∷ decimal n.rmul
    ++ (codes " depth " ++ (decimal n.depth ++ (codes " cells" ++ rest))))))
