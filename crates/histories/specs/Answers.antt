-- What a done demand leaves: the output that was asked for has the marks, and the answer is its literal.
use Rattle.std.specs.Prelude.{◌≡◌, true, ◌⊎◌, ℕ, ◌<◌, ℤ}
use Rattle.paper.specs.Rows.{node_at}
use Rattle.paper.specs.Plain.{just_if, has_if, has_only}
use Rattle.paper.specs.Calls.{Db}
use Rattle.paper.specs.declared.Want.{Want}
use Rattle.histories.specs.Rows.{literal, key, mark}

pub record Answered (after : Db) (n j : ℕ) (z : ℤ) (w : Want) : Type 0 where
  pub literal_is : z ≡ literal after n j
  pub if_marked : w.fi ≡ true → has_if (mark after n j) ≡ true
  pub only_marked : w.fo ≡ true → has_only (mark after n j) ≡ true

-- the output of node n whose key is v
pub record Weighed (d after : Db) (n v : ℕ) (z : ℤ) : Type 0 where
  pub index : ℕ
  pub low : index < (node_at d.nodes n).count
  pub key_is : key d n index ≡ v
  pub answered : Answered after n index z just_if

-- a unit or general node
abbrev pub InnerKind : Db → ℕ → Type 0
InnerKind d n = ((node_at d.nodes n).kind ≡ 1) ⊎ ((node_at d.nodes n).kind ≡ 2)
