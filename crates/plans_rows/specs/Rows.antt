-- The lengths of the rows and of the fronts that are lent, what `rows` clears, and what `set` and `poke` write.
use Rattle.std.specs.Prelude.{ℕ, pos, ◌≡◌, ◌/◌, Some, min, replicate, take, slice_get, vec_len}
use Rattle.paper.specs.declared.Counters.{Counters}
use Rattle.paper.specs.declared.TheConstants.{NODE_WORDS}
use Rattle.plans.specs.declared.command.Counter.{Counter}
use Rattle.plans.specs.declared.command.Counter.TheVariants.{First, Next, Last, Nodes, Ins, Cells, Length, WorkInt, WorkByte}
use Rattle.plans.specs.declared.command.Entry.{Entry}
use Rattle.plans.specs.declared.command.Entry.TheVariants.{Words, Inputs, Keys, Lits, Marks, Clauses}
use Rattle.plans.specs.declared.command.Lengths.{Lengths}
use Rattle.plans_rows.specs.declared.db.Db.{Db}

-- the lengths of the rows themselves
abbrev pub whole : Db → Lengths
whole db = record {
  nodes = vec_len db.nodes;
  inputs = vec_len db.inputs;
  keys = vec_len db.keys;
  lits = vec_len db.lits;
  marks = vec_len db.marks;
  clauses = vec_len db.clauses;
  ints = vec_len db.ints;
  bytes = vec_len db.bytes;
}

-- the lengths of the fronts, which are what is lent
abbrev pub lengths_of : Db → Lengths
lengths_of db = record {
  nodes = min db.lent.nodes (vec_len db.nodes);
  inputs = min db.lent.inputs (vec_len db.inputs);
  keys = min db.lent.keys (vec_len db.keys);
  lits = min db.lent.lits (vec_len db.lits);
  marks = min db.lent.marks (vec_len db.marks);
  clauses = min db.lent.clauses (vec_len db.clauses);
  ints = min db.lent.ints (vec_len db.ints);
  bytes = min db.lent.bytes (vec_len db.bytes);
}

-- the nodes in use that lie in the front of their row
abbrev pub node_count : Db → ℕ
node_count db = min db.counters.nodes (min db.lent.nodes (vec_len db.nodes) / NODE_WORDS)

abbrev pub at_start : Counters
at_start = record { first = 0; next = 0; last = 0; nodes = 0; inputs = 0; cells = 0; words = 0 }

abbrev pub counted : Counter → Db → ℕ
counted First db = db.counters.first
counted Next db = db.counters.next
counted Last db = db.counters.last
counted Nodes db = db.counters.nodes
counted Ins db = db.counters.inputs
counted Cells db = db.counters.cells
counted Length db = db.counters.words
counted WorkInt db = min db.lent.ints (vec_len db.ints)
counted WorkByte db = min db.lent.bytes (vec_len db.bytes)

-- the fronts that hold the table and the clauses are all 0, and so are the counters
pub record Cleared (db : Db) : Type 0 where
  pub nodes : take db.lent.nodes db.nodes.items ≡ replicate db.lent.nodes 0
  pub inputs : take db.lent.inputs db.inputs.items ≡ replicate db.lent.inputs (pos 0)
  pub keys : take db.lent.keys db.keys.items ≡ replicate db.lent.keys 0
  pub lits : take db.lent.lits db.lits.items ≡ replicate db.lent.lits (pos 0)
  pub marks : take db.lent.marks db.marks.items ≡ replicate db.lent.marks 0
  pub clauses : take db.lent.clauses db.clauses.items ≡ replicate db.lent.clauses (pos 0)
  pub counters : db.counters ≡ at_start

-- the entry stands at i of the front of its row
abbrev pub Holds : Entry → ℕ → Db → Type 0
Holds (Words x) i db = slice_get (take db.lent.nodes db.nodes.items) i ≡ Some x
Holds (Inputs x) i db = slice_get (take db.lent.inputs db.inputs.items) i ≡ Some x
Holds (Keys x) i db = slice_get (take db.lent.keys db.keys.items) i ≡ Some x
Holds (Lits x) i db = slice_get (take db.lent.lits db.lits.items) i ≡ Some x
Holds (Marks x) i db = slice_get (take db.lent.marks db.marks.items) i ≡ Some x
Holds (Clauses x) i db = slice_get (take db.lent.clauses db.clauses.items) i ≡ Some x
