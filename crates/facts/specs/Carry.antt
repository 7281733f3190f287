-- The check of a table moves with what it reads: `table_change` gives it again for rows that agree with the old ones below the counts, with other
-- literals, marks and counters whose own facts are given. `used_facts` is its case for the parts in use of the rows. Assumes nothing.
use Rattle.std.specs.Prelude.{ℕ, ◌<◌, List, ◌≡◌, get_or}
use Rattle.paper.specs.declared.Counters.{Counters}

-- two rows that agree below a place
abbrev pub Agree : {A : Type 0} → ℕ → A → List A → List A → Type 0
Agree n d new old = (k : ℕ) → k < n → get_or new k d ≡ get_or old k d

-- the counters with another next variable and another clause length
abbrev pub moved : Counters → ℕ → ℕ → Counters
moved c next words = record { first = c.first; next = next; last = c.last; nodes = c.nodes; inputs = c.inputs; cells = c.cells; words = words }
