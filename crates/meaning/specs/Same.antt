-- Two tables that read the same, and their marks: the invariant of one is that of the other.
use Rattle.std.specs.Prelude.{◌≡◌, List, ℕ, ◌<◌, get_or}
use Rattle.meaning.specs.Table.{Dir, Tab, Marks}

pub record Alike (t t' : Tab) (m m' : Marks) : Type 0 where
  pub size_is : t'.size ≡ t.size
  pub node_is : (n : ℕ) → n < t.size → t'.node n ≡ t.node n
  pub key_is : (n j : ℕ) → n < t.size → j < (t.node n).count → t'.key n j ≡ t.key n j
  pub held_is : (n j : ℕ) → n < t.size → j < (t.node n).count → t'.held n j ≡ t.held n j
  pub from_is : t'.from ≡ t.from
  pub next_is : t'.next ≡ t.next
  pub marks_are : (d : Dir) (n j : ℕ) → n < t.size → j < (t.node n).count → m' d n j ≡ m d n j

-- ---- rows that read the same below the counts

-- two rows that agree below a place
abbrev pub Agrees : {A : Type 0} → ℕ → A → List A → List A → Type 0
Agrees n d new old = (k : ℕ) → k < n → get_or new k d ≡ get_or old k d
