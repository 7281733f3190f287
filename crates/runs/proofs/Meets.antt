-- A demand on rows in use: the answer, and the rows afterwards, by the plain run p and the literal z that the output then has.
use Rattle.paper.specs.Answers.{gives}
use Rattle.paper.specs.declared.Refusal.{Refusal}
use Rattle.std.specs.Prelude.{◌≡◌, List, Bool, true, false, ℕ, ◌+◌, ◌≤◌, ◌<◌, ℤ, Err, Result}
use borrow.Author.Tests.{le-leb, lt-leb}
use Rattle.std.proofs.Math.ListN.{length}
use Rattle.paper.specs.Plain.{St}
use Rattle.paper.specs.Demand.{ran_counters, room_of, demanded_of}
use Rattle.paper.specs.declared.Counters.{Counters}
use Rattle.paper.specs.declared.Refusal.TheVariants.{NoSuchOutput, TableFails, WorkShort, NoSuchNode, GeneralNode, VariablesOut, ClausesShort}
use Rattle.paper.specs.declared.Demanded.{Demanded}

-- "12 and 13 are given exactly if the plain run with unlimited room takes more variables or words than remain."
module _ (p : St (List ℤ)) (c : Counters) (len : ℕ) (z : ℤ) where
  pub no_vars : c.last + 1 < p.next → room_of p c len z ≡ Err VariablesOut
  unfolding room_of
  no_vars h = rw (lt-leb p.next (c.last + 1) h)

  pub no_room : p.next ≤ c.last + 1 → len < c.words + length p.out → room_of p c len z ≡ Err ClausesShort
  unfolding room_of
  no_room h g = rw (le-leb p.next (c.last + 1) h, lt-leb (c.words + length p.out) len g)

  pub all_given : p.next ≤ c.last + 1 → c.words + length p.out ≤ len → room_of p c len z ≡ gives z (ran_counters p c)
  unfolding room_of
  all_given h g = rw (le-leb p.next (c.last + 1) h, le-leb (c.words + length p.out) len g)

-- the number of each refusal, by the tests that lead there: "2, 3, 4, 5, 1, 12, 13"
module _ (table work here general output : Bool) (room : Result Demanded Refusal) where
  pub is_2 : table ≡ false → demanded_of table work here general output room ≡ Err TableFails
  unfolding demanded_of
  is_2 a = rw a

  pub is_3 : table ≡ true → work ≡ false → demanded_of table work here general output room ≡ Err WorkShort
  unfolding demanded_of
  is_3 a b = rw (a, b)

  pub is_4 : table ≡ true → work ≡ true → here ≡ false → demanded_of table work here general output room ≡ Err NoSuchNode
  unfolding demanded_of
  is_4 a b c = rw (a, b, c)

  pub is_5 : table ≡ true → work ≡ true → here ≡ true → general ≡ true → demanded_of table work here general output room ≡ Err GeneralNode
  unfolding demanded_of
  is_5 a b c d = rw (a, b, c, d)

  pub is_1 : table ≡ true → work ≡ true → here ≡ true → general ≡ false → output ≡ false → demanded_of table work here general output room ≡ Err NoSuchOutput
  unfolding demanded_of
  is_1 a b c d e = rw (a, b, c, d, e)

  pub is_room : table ≡ true → work ≡ true → here ≡ true → general ≡ false → output ≡ true → demanded_of table work here general output room ≡ room
  unfolding demanded_of
  is_room a b c d e = rw (a, b, c, d, e)

-- a literal given, with the counters after the run
pub given_is : {z z' : ℤ} {n n' w w' : ℕ} (c : Counters) → z ≡ z' → n ≡ n' → w ≡ w'
    → gives z (record { first = c.first; next = n; last = c.last; nodes = c.nodes; inputs = c.inputs; cells = c.cells; words = w })
    ≡ gives z' (record { first = c.first; next = n'; last = c.last; nodes = c.nodes; inputs = c.inputs; cells = c.cells; words = w' })
given_is c e f g = λ j. gives (e j) (record { first = c.first; next = f j; last = c.last; nodes = c.nodes; inputs = c.inputs; cells = c.cells; words = g j })
