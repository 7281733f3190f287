-- Calls made from another language: the number answered, what is given back and the counters left are those that the step says, and each row is the step's.
use Rattle.std.specs.Prelude.{ℕ, List, ◌≡◌, ℤ, pos}
use Rattle.std.proofs.Common.{sym, ◌∙◌}
use Rattle.paper.specs.Calls.{Db, Work, After, leaf_call, dummy_call, inner_call, reserve_call, reset_call}
use Rattle.paper.specs.declared.Pair.{Pair}
use Rattle.tell.specs.Tell.{Told, told_once}

pub record LeafTold (d : Db) (x : ℤ) (number id : ℕ) (counters nodes : List ℕ) (inputs : List ℤ) : Type 0 where
  pub told : Told (leaf_call d x).said number (pos id) counters
  pub nodes_are : nodes ≡ (leaf_call d x).db.nodes
  pub inputs_are : inputs ≡ (leaf_call d x).db.inputs

pub record DummyTold (d : Db) (number id : ℕ) (counters nodes : List ℕ) : Type 0 where
  pub told : Told (dummy_call d).said number (pos id) counters
  pub nodes_are : nodes ≡ (dummy_call d).db.nodes

pub record InnerTold (d : Db) (j : Pair) (number id : ℕ) (counters nodes keys : List ℕ) (lits : List ℤ) (marks : List ℕ) : Type 0 where
  pub told : Told (inner_call d j).said number (pos id) counters
  pub nodes_are : nodes ≡ (inner_call d j).db.nodes
  pub keys_are : keys ≡ (inner_call d j).db.keys
  pub lits_are : lits ≡ (inner_call d j).db.lits
  pub marks_are : marks ≡ (inner_call d j).db.marks

pub record DemandTold (a : After) (number : ℕ) (lit : ℤ) (counters : List ℕ) (lits : List ℤ) (marks : List ℕ) (clauses : List ℤ) : Type 0 where
  pub told : Told a.said number lit counters
  pub lits_are : lits ≡ a.db.lits
  pub marks_are : marks ≡ a.db.marks
  pub clauses_are : clauses ≡ a.db.clauses

pub record ReserveTold (d : Db) (w : Work) (id : ℕ) (number : ℕ) (counters : List ℕ) (lits : List ℤ) : Type 0 where
  pub told : Told (reserve_call d w id).said number (pos 0) counters
  pub lits_are : lits ≡ (reserve_call d w id).db.lits

pub record ResetTold (d : Db) (number : ℕ) (counters marks : List ℕ) : Type 0 where
  pub told : Told (reset_call d).said number (pos 0) counters
  pub marks_are : marks ≡ (reset_call d).db.marks

-- ---- two tellings that a contract allows are equal

pub leaf_told_once : (d : Db) (x : ℤ) (n n' id id' : ℕ) (k k' ns ns' : List ℕ) (is is' : List ℤ) → LeafTold d x n id k ns is → LeafTold d x n' id' k' ns' is'
    → ((n ≡ n') × (pos id ≡ pos id') × (k ≡ k')) × (ns ≡ ns') × (is ≡ is')
leaf_told_once d x n n' id id' k k' ns ns' is is' a b =
    (told_once _ _ _ _ _ _ _ a.told b.told, a.nodes_are ∙ sym b.nodes_are, a.inputs_are ∙ sym b.inputs_are)

pub dummy_told_once : (d : Db) (n n' id id' : ℕ) (k k' ns ns' : List ℕ) → DummyTold d n id k ns → DummyTold d n' id' k' ns'
    → ((n ≡ n') × (pos id ≡ pos id') × (k ≡ k')) × (ns ≡ ns')
dummy_told_once d n n' id id' k k' ns ns' a b = (told_once _ _ _ _ _ _ _ a.told b.told, a.nodes_are ∙ sym b.nodes_are)

pub inner_told_once : (d : Db) (j : Pair) (n n' id id' : ℕ) (k k' ns ns' ks ks' : List ℕ) (ls ls' : List ℤ) (ms ms' : List ℕ)
    → InnerTold d j n id k ns ks ls ms → InnerTold d j n' id' k' ns' ks' ls' ms'
    → ((n ≡ n') × (pos id ≡ pos id') × (k ≡ k')) × (ns ≡ ns') × (ks ≡ ks') × (ls ≡ ls') × (ms ≡ ms')
inner_told_once d j n n' id id' k k' ns ns' ks ks' ls ls' ms ms' a b =
    (told_once _ _ _ _ _ _ _ a.told b.told, a.nodes_are ∙ sym b.nodes_are, a.keys_are ∙ sym b.keys_are, a.lits_are ∙ sym b.lits_are, a.marks_are ∙ sym b.marks_are)

pub demand_told_once : (e : After) (n n' : ℕ) (z z' : ℤ) (k k' : List ℕ) (ls ls' : List ℤ) (ms ms' : List ℕ) (cs cs' : List ℤ)
    → DemandTold e n z k ls ms cs → DemandTold e n' z' k' ls' ms' cs'
    → ((n ≡ n') × (z ≡ z') × (k ≡ k')) × (ls ≡ ls') × (ms ≡ ms') × (cs ≡ cs')
demand_told_once e n n' z z' k k' ls ls' ms ms' cs cs' a b =
    (told_once _ _ _ _ _ _ _ a.told b.told, a.lits_are ∙ sym b.lits_are, a.marks_are ∙ sym b.marks_are, a.clauses_are ∙ sym b.clauses_are)

pub reserve_told_once : (d : Db) (w : Work) (id n n' : ℕ) (k k' : List ℕ) (ls ls' : List ℤ) → ReserveTold d w id n k ls → ReserveTold d w id n' k' ls'
    → ((n ≡ n') × (pos 0 ≡ pos 0) × (k ≡ k')) × (ls ≡ ls')
reserve_told_once d w id n n' k k' ls ls' a b = (told_once _ _ _ _ _ _ _ a.told b.told, a.lits_are ∙ sym b.lits_are)

pub reset_told_once : (d : Db) (n n' : ℕ) (k k' ms ms' : List ℕ) → ResetTold d n k ms → ResetTold d n' k' ms'
    → ((n ≡ n') × (pos 0 ≡ pos 0) × (k ≡ k')) × (ms ≡ ms')
reset_told_once d n n' k k' ms ms' a b = (told_once _ _ _ _ _ _ _ a.told b.told, a.marks_are ∙ sym b.marks_are)

abbrev pub pair_of : ℕ → ℕ → ℕ → ℕ → Pair
pair_of left lmul right rmul = record { left = left; lmul = lmul; right = right; rmul = rmul }
