-- The elementary steps: take a variable, append own clauses, mark, clear marks, add a node. Each keeps the invariant.
use Rattle.std.specs.Prelude.{◌≡◌, false, ◌⊎◌, ℕ, suc, ◌<◌}
use Rattle.meaning.specs.Table.{Dir, Tab, Marks, NodeOk}
use Rattle.std.specs.Prelude.{true}
use Rattle.meaning.specs.Table.{History, Inv, Marked}

-- 1. a cell without a literal takes the next variable
pub record Taken (t t' : Tab) (n j : ℕ) : Type 0 where
  pub size_is : t'.size ≡ t.size
  pub node_is : (k : ℕ) → k < t.size → t'.node k ≡ t.node k
  pub key_is : (k i : ℕ) → k < t.size → i < (t.node k).count → t'.key k i ≡ t.key k i
  pub there : t'.held n j ≡ t.next
  pub other : (k i : ℕ) → k < t.size → i < (t.node k).count → ¬ ((k ≡ n) × (i ≡ j)) → t'.held k i ≡ t.held k i
  pub from_is : t'.from ≡ t.from
  pub next_is : t'.next ≡ suc t.next

-- 4. the marks of a direction are all kept or all cleared (01's reset clears both; 02's item 5 one)
abbrev pub KeptOrCleared : Tab → Marks → Marks → Dir → Type 0
KeptOrCleared t m m' d =
    ((n j : ℕ) → n < t.size → j < (t.node n).count → m' d n j ≡ false) ⊎ ((n j : ℕ) → n < t.size → j < (t.node n).count → m' d n j ≡ m d n j)

-- 5. a node is added, its cells empty
pub record Added (t t' : Tab) (m m' : Marks) : Type 0 where
  pub size_is : t'.size ≡ suc t.size
  pub node_is : (k : ℕ) → k < t.size → t'.node k ≡ t.node k
  pub key_is : (k i : ℕ) → k < t.size → i < (t.node k).count → t'.key k i ≡ t.key k i
  pub held_is : (k i : ℕ) → k < t.size → i < (t.node k).count → t'.held k i ≡ t.held k i
  pub from_is : t'.from ≡ t.from
  pub next_is : t'.next ≡ t.next
  pub ok : NodeOk t' t.size (t'.node t.size).kind
  pub empty : (i : ℕ) → i < (t'.node t.size).count → t'.held t.size i ≡ 0
  pub marks_is : (d : Dir) (k i : ℕ) → k < t.size → i < (t.node k).count → m' d k i ≡ m d k i
  pub unmarked : (d : Dir) (i : ℕ) → i < (t'.node t.size).count → m' d t.size i ≡ false

-- the statement of `inv_reset`: clearing the marks of some directions keeps the invariant, over the same history
abbrev pub InvReset : Tab → Marks → Marks → History → Type 0
InvReset t m m' h = Inv t m h
    → ((d : Dir) → KeptOrCleared t m m' d) → Inv t m' h

-- .. and of its step at one mark
abbrev pub MarkedReset : Tab → Marks → Marks → History → Type 0
MarkedReset t m m' h = (d : Dir) (n j : ℕ) → n < t.size → j < (t.node n).count → m' d n j ≡ true
    → KeptOrCleared t m m' d → Marked t m' h d n j
