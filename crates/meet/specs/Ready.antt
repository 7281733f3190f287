-- What a weighted demand's run asks of the rows in use, and what it then says.
use Rattle.paper.specs.declared.Refusal.{Refusal}
use Rattle.std.specs.Prelude.{List, ℕ, ◌+◌, ◌<◌, ◌≤◌, ◌^◌, ℤ, length, Result}
use Rattle.paper.specs.Limits.{var_limit}
use Rattle.paper.specs.Rows.{con_lits}
use Rattle.paper.specs.Plain.{lit_at}
use Rattle.paper.specs.Weighted.{weigh_run}
use Rattle.paper.specs.declared.Counters.{Counters}
use Rattle.paper.specs.declared.Demanded.{Demanded}
use Rattle.count.specs.Run.{Fit}
use Rattle.sum.specs.Ways.{Generals}
use Rattle.runs.specs.Met.{Met}
use Rattle.runs.specs.Used.{run_of}

-- the parts in use of the rows of a table that passes its check, with a clause row of the length given
pub record Ready (ns : List ℕ) (ins : List ℤ) (keys : List ℕ) (lits : List ℤ) (marks : List ℕ) (clauses : ℕ) (c : Counters) : Type 0 where
  pub fit : Fit ns ins lits marks (run_of c)
  pub generals : Generals ns keys
  pub few : length lits < 2 ^ 31
  pub words : c.words ≤ clauses
  pub last : c.last ≤ var_limit
  pub next : c.next ≤ c.last + 1

-- the demand of output j of node k, met: by the plain run from place j + 1
abbrev pub MetSum : List ℕ → List ℤ → List ℕ → Counters → ℕ → ℕ → List ℤ → List ℕ → List ℤ → Result Demanded Refusal → List ℤ → List ℕ → List ℤ → Type 0
MetSum ns ins keys c k j lits marks row r lits' marks' row' =
    Met (weigh_run ns ins keys lits marks c.next k (j + 1)) c (lit_at (con_lits ns ins (weigh_run ns ins keys lits marks c.next k (j + 1)).lits k) j) lits marks row r lits' marks' row'
