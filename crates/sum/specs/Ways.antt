-- What the steps of a weighted run ask.
use Rattle.std.specs.Prelude.{◌≡◌, List, ℕ, ◌/◌, ◌<◌, ◌≤◌, ◌^◌, ℤ, length}
use Rattle.paper.specs.Limits.{node_words}
use Rattle.paper.specs.Span.{span}
use Rattle.paper.specs.Rows.{node_at}
use Rattle.paper.specs.Plain.{St}
use Rattle.paper.specs.Weighted.{way_of, link_of}
use Rattle.paper.specs.declared.Way.{Way}
use Rattle.clause.specs.Row.{Row, Neg, lay}
use Rattle.count.specs.Run.{Ok, outs}
use Rattle.find.specs.Ways.{Sorted, Muls}

-- what the table check gives of a general node
pub record GeneralOk (ns keys : List ℕ) (k : ℕ) : Type 0 where
  pub left_below : (node_at ns k).left < k
  pub right_below : (node_at ns k).right < k
  pub muls : Muls (node_at ns k)
  pub few : outs ns (node_at ns k).left < 2 ^ 32
  pub left_sorted : Sorted keys (node_at ns (node_at ns k).left)
  pub right_sorted : Sorted keys (node_at ns (node_at ns k).right)

-- .. and of all of them
abbrev pub Generals : List ℕ → List ℕ → Type 0
Generals ns keys = (k : ℕ) → k < length ns / node_words → (node_at ns k).kind ≡ 2 → GeneralOk ns keys k

-- place y of node k: 0, or an output
pub record Spot (ns : List ℕ) (k y : ℕ) : Type 0 where
  pub below : k < length ns / node_words
  pub out : y ≤ outs ns k

-- a cell of the general node k, with nc cells
pub record CellAt (ns : List ℕ) (nc k at : ℕ) : Type 0 where
  pub below : k < length ns / node_words
  pub general : (node_at ns k).kind ≡ 2
  pub inside : at < nc

-- .. and a way to make its value
pub record WayAt (ns : List ℕ) (nc k at : ℕ) (p : Way) : Type 0 where
  pub cell : CellAt ns nc k at
  pub left : p.x ≤ outs ns (node_at ns k).left
  pub right : p.y ≤ outs ns (node_at ns k).right

-- what the clause of a way asks
pub record Sides (ns : List ℕ) (ins lits : List ℤ) (left right at : ℕ) (p : Way) : Type 0 where
  pub ok : Ok ns (length ins) (length lits)
  pub left_below : left < length ns / node_words
  pub right_below : right < length ns / node_words
  pub x : p.x ≤ outs ns left
  pub y : p.y ≤ outs ns right
  pub neg_ins : Neg ins
  pub neg_lits : Neg lits
  pub inside : at < length lits

-- the links of the pairs, one for each left output
unfoldable pub pairs_of : (ℕ → ℕ → St Row → St Row) → List ℕ → List ℤ → List ℕ → ℕ → ℕ → ℕ → St Row → St Row
pairs_of rec ns ins keys k at v s = span 0 (outs ns (node_at ns k).left) (λ j t. link_of lay rec ns ins k at (way_of ns keys k v j) t) s
