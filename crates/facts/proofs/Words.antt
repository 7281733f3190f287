-- The eight words of a node, written: the nodes before it read as they did, and it reads back. Assumes nothing.
use Rattle.std.specs.Prelude.{ℕ, ◌+◌, ◌*◌, ◌<◌, ◌≤◌, List, ◌≡◌, length, get_or, set}
use Rattle.std.proofs.Common.{ap, ◌∙◌, add-zero, arith, length-set, get_or-set_other, get_or-set_same}
use Rattle.paper.specs.Limits.{node_words}
use Rattle.paper.specs.Rows.{node_at}
use Rattle.paper.specs.Grow.{put_node}
use Rattle.paper.specs.declared.Node.{Node}

abbrev w1 : List ℕ → ℕ → Node → List ℕ
w1 ws id n = set ws (id * node_words) n.kind

abbrev w2 : List ℕ → ℕ → Node → List ℕ
w2 ws id n = set (w1 ws id n) (id * node_words + 1) n.left

abbrev w3 : List ℕ → ℕ → Node → List ℕ
w3 ws id n = set (w2 ws id n) (id * node_words + 2) n.lmul

abbrev w4 : List ℕ → ℕ → Node → List ℕ
w4 ws id n = set (w3 ws id n) (id * node_words + 3) n.right

abbrev w5 : List ℕ → ℕ → Node → List ℕ
w5 ws id n = set (w4 ws id n) (id * node_words + 4) n.rmul

abbrev w6 : List ℕ → ℕ → Node → List ℕ
w6 ws id n = set (w5 ws id n) (id * node_words + 5) n.first

abbrev w7 : List ℕ → ℕ → Node → List ℕ
w7 ws id n = set (w6 ws id n) (id * node_words + 6) n.count

abbrev w8 : List ℕ → ℕ → Node → List ℕ
w8 ws id n = set (w7 ws id n) (id * node_words + 7) n.depth

-- the words before node id are kept
pub put_below : (ws : List ℕ) (id : ℕ) (n : Node) (j : ℕ) → j < id * node_words → get_or (put_node ws id n) j 0 ≡ get_or ws j 0
unfolding put_node
put_below ws id n j h =
    get_or-set_other (w7 ws id n) (id * node_words + 7) j n.depth 0 (λ e. omega arith)
    ∙ get_or-set_other (w6 ws id n) (id * node_words + 6) j n.count 0 (λ e. omega arith)
    ∙ get_or-set_other (w5 ws id n) (id * node_words + 5) j n.first 0 (λ e. omega arith)
    ∙ get_or-set_other (w4 ws id n) (id * node_words + 4) j n.rmul 0 (λ e. omega arith)
    ∙ get_or-set_other (w3 ws id n) (id * node_words + 3) j n.right 0 (λ e. omega arith)
    ∙ get_or-set_other (w2 ws id n) (id * node_words + 2) j n.lmul 0 (λ e. omega arith)
    ∙ get_or-set_other (w1 ws id n) (id * node_words + 1) j n.left 0 (λ e. omega arith)
    ∙ get_or-set_other ws (id * node_words) j n.kind 0 (λ e. omega arith)

-- .. and those after it
pub put_above : (ws : List ℕ) (id : ℕ) (n : Node) (j : ℕ) → id * node_words + node_words ≤ j → get_or (put_node ws id n) j 0 ≡ get_or ws j 0
unfolding put_node
put_above ws id n j h =
    get_or-set_other (w7 ws id n) (id * node_words + 7) j n.depth 0 (λ e. omega arith)
    ∙ get_or-set_other (w6 ws id n) (id * node_words + 6) j n.count 0 (λ e. omega arith)
    ∙ get_or-set_other (w5 ws id n) (id * node_words + 5) j n.first 0 (λ e. omega arith)
    ∙ get_or-set_other (w4 ws id n) (id * node_words + 4) j n.rmul 0 (λ e. omega arith)
    ∙ get_or-set_other (w3 ws id n) (id * node_words + 3) j n.right 0 (λ e. omega arith)
    ∙ get_or-set_other (w2 ws id n) (id * node_words + 2) j n.lmul 0 (λ e. omega arith)
    ∙ get_or-set_other (w1 ws id n) (id * node_words + 1) j n.left 0 (λ e. omega arith)
    ∙ get_or-set_other ws (id * node_words) j n.kind 0 (λ e. omega arith)

pub put_length : (ws : List ℕ) (id : ℕ) (n : Node) → length (put_node ws id n) ≡ length ws
unfolding put_node
put_length ws id n = simp length-set

pub put_old : (ws : List ℕ) (id : ℕ) (n : Node) (i : ℕ) → i < id → node_at (put_node ws id n) i ≡ node_at ws i
unfolding node_at
put_old ws id n i h = λ t. record { kind = put_below ws id n (i * node_words + 0) (omega arith) t; left = put_below ws id n (i * node_words + 1) (omega arith) t; lmul = put_below ws id n (i * node_words + 2) (omega arith) t; right = put_below ws id n (i * node_words + 3) (omega arith) t; rmul = put_below ws id n (i * node_words + 4) (omega arith) t; first = put_below ws id n (i * node_words + 5) (omega arith) t; count = put_below ws id n (i * node_words + 6) (omega arith) t; depth = put_below ws id n (i * node_words + 7) (omega arith) t }

word0 : (ws : List ℕ) (id : ℕ) (n : Node) → id * node_words + node_words ≤ length ws → get_or (put_node ws id n) (id * node_words + 0) 0 ≡ n.kind
unfolding put_node
word0 ws id n h =
    get_or-set_other (w7 ws id n) (id * node_words + 7) (id * node_words + 0) n.depth 0 (λ e. omega arith)
    ∙ get_or-set_other (w6 ws id n) (id * node_words + 6) (id * node_words + 0) n.count 0 (λ e. omega arith)
    ∙ get_or-set_other (w5 ws id n) (id * node_words + 5) (id * node_words + 0) n.first 0 (λ e. omega arith)
    ∙ get_or-set_other (w4 ws id n) (id * node_words + 4) (id * node_words + 0) n.rmul 0 (λ e. omega arith)
    ∙ get_or-set_other (w3 ws id n) (id * node_words + 3) (id * node_words + 0) n.right 0 (λ e. omega arith)
    ∙ get_or-set_other (w2 ws id n) (id * node_words + 2) (id * node_words + 0) n.lmul 0 (λ e. omega arith)
    ∙ get_or-set_other (w1 ws id n) (id * node_words + 1) (id * node_words + 0) n.left 0 (λ e. omega arith)
    ∙ ap (λ (j : ℕ). get_or (w1 ws id n) j 0) (add-zero (id * node_words))
    ∙ get_or-set_same ws (id * node_words) n.kind 0 (omega arith)

word1 : (ws : List ℕ) (id : ℕ) (n : Node) → id * node_words + node_words ≤ length ws → get_or (put_node ws id n) (id * node_words + 1) 0 ≡ n.left
unfolding put_node
word1 ws id n h =
    get_or-set_other (w7 ws id n) (id * node_words + 7) (id * node_words + 1) n.depth 0 (λ e. omega arith)
    ∙ get_or-set_other (w6 ws id n) (id * node_words + 6) (id * node_words + 1) n.count 0 (λ e. omega arith)
    ∙ get_or-set_other (w5 ws id n) (id * node_words + 5) (id * node_words + 1) n.first 0 (λ e. omega arith)
    ∙ get_or-set_other (w4 ws id n) (id * node_words + 4) (id * node_words + 1) n.rmul 0 (λ e. omega arith)
    ∙ get_or-set_other (w3 ws id n) (id * node_words + 3) (id * node_words + 1) n.right 0 (λ e. omega arith)
    ∙ get_or-set_other (w2 ws id n) (id * node_words + 2) (id * node_words + 1) n.lmul 0 (λ e. omega arith)
    ∙ get_or-set_same (w1 ws id n) (id * node_words + 1) n.left 0 (simp length-set (omega arith))

word2 : (ws : List ℕ) (id : ℕ) (n : Node) → id * node_words + node_words ≤ length ws → get_or (put_node ws id n) (id * node_words + 2) 0 ≡ n.lmul
unfolding put_node
word2 ws id n h =
    get_or-set_other (w7 ws id n) (id * node_words + 7) (id * node_words + 2) n.depth 0 (λ e. omega arith)
    ∙ get_or-set_other (w6 ws id n) (id * node_words + 6) (id * node_words + 2) n.count 0 (λ e. omega arith)
    ∙ get_or-set_other (w5 ws id n) (id * node_words + 5) (id * node_words + 2) n.first 0 (λ e. omega arith)
    ∙ get_or-set_other (w4 ws id n) (id * node_words + 4) (id * node_words + 2) n.rmul 0 (λ e. omega arith)
    ∙ get_or-set_other (w3 ws id n) (id * node_words + 3) (id * node_words + 2) n.right 0 (λ e. omega arith)
    ∙ get_or-set_same (w2 ws id n) (id * node_words + 2) n.lmul 0 (simp length-set (omega arith))

word3 : (ws : List ℕ) (id : ℕ) (n : Node) → id * node_words + node_words ≤ length ws → get_or (put_node ws id n) (id * node_words + 3) 0 ≡ n.right
unfolding put_node
word3 ws id n h =
    get_or-set_other (w7 ws id n) (id * node_words + 7) (id * node_words + 3) n.depth 0 (λ e. omega arith)
    ∙ get_or-set_other (w6 ws id n) (id * node_words + 6) (id * node_words + 3) n.count 0 (λ e. omega arith)
    ∙ get_or-set_other (w5 ws id n) (id * node_words + 5) (id * node_words + 3) n.first 0 (λ e. omega arith)
    ∙ get_or-set_other (w4 ws id n) (id * node_words + 4) (id * node_words + 3) n.rmul 0 (λ e. omega arith)
    ∙ get_or-set_same (w3 ws id n) (id * node_words + 3) n.right 0 (simp length-set (omega arith))

word4 : (ws : List ℕ) (id : ℕ) (n : Node) → id * node_words + node_words ≤ length ws → get_or (put_node ws id n) (id * node_words + 4) 0 ≡ n.rmul
unfolding put_node
word4 ws id n h =
    get_or-set_other (w7 ws id n) (id * node_words + 7) (id * node_words + 4) n.depth 0 (λ e. omega arith)
    ∙ get_or-set_other (w6 ws id n) (id * node_words + 6) (id * node_words + 4) n.count 0 (λ e. omega arith)
    ∙ get_or-set_other (w5 ws id n) (id * node_words + 5) (id * node_words + 4) n.first 0 (λ e. omega arith)
    ∙ get_or-set_same (w4 ws id n) (id * node_words + 4) n.rmul 0 (simp length-set (omega arith))

word5 : (ws : List ℕ) (id : ℕ) (n : Node) → id * node_words + node_words ≤ length ws → get_or (put_node ws id n) (id * node_words + 5) 0 ≡ n.first
unfolding put_node
word5 ws id n h =
    get_or-set_other (w7 ws id n) (id * node_words + 7) (id * node_words + 5) n.depth 0 (λ e. omega arith)
    ∙ get_or-set_other (w6 ws id n) (id * node_words + 6) (id * node_words + 5) n.count 0 (λ e. omega arith)
    ∙ get_or-set_same (w5 ws id n) (id * node_words + 5) n.first 0 (simp length-set (omega arith))

word6 : (ws : List ℕ) (id : ℕ) (n : Node) → id * node_words + node_words ≤ length ws → get_or (put_node ws id n) (id * node_words + 6) 0 ≡ n.count
unfolding put_node
word6 ws id n h =
    get_or-set_other (w7 ws id n) (id * node_words + 7) (id * node_words + 6) n.depth 0 (λ e. omega arith)
    ∙ get_or-set_same (w6 ws id n) (id * node_words + 6) n.count 0 (simp length-set (omega arith))

word7 : (ws : List ℕ) (id : ℕ) (n : Node) → id * node_words + node_words ≤ length ws → get_or (put_node ws id n) (id * node_words + 7) 0 ≡ n.depth
unfolding put_node
word7 ws id n h =
    get_or-set_same (w7 ws id n) (id * node_words + 7) n.depth 0 (simp length-set (omega arith))

pub put_new : (ws : List ℕ) (id : ℕ) (n : Node) → id * node_words + node_words ≤ length ws → node_at (put_node ws id n) id ≡ n
unfolding node_at
put_new ws id n h = λ t. record { kind = word0 ws id n h t; left = word1 ws id n h t; lmul = word2 ws id n h t; right = word3 ws id n h t; rmul = word4 ws id n h t; first = word5 ws id n h t; count = word6 ws id n h t; depth = word7 ws id n h t }
