-- The table as plain data, values, own clauses, and the invariant of table, marks and history.
use Rattle.std.specs.Prelude.{◌≡◌, Bool, true, false, ℕ, zero, suc, ◌+◌, ◌*◌, ◌<◌, ◌≤◌, ℤ, pos}
use mathlib.Core.List.{List, Memᴰ}
use Rattle.meaning.specs.Base.{Nz, var, if_clause, only_clause, AtPrev, Same, In}

pub data Kind : Type 0 where
  leaf dummy unit general : Kind

pub data Dir : Type 0 where
  If OnlyIf : Dir

pub record Node : Type 0 where
  pub kind : Kind
  pub input : ℤ
  pub left : ℕ
  pub lmul : ℕ
  pub right : ℕ
  pub rmul : ℕ
  pub count : ℕ

-- key and var: of a node's output j; var is 0 for none, and 0 in a leaf
pub record Tab : Type 0 where
  pub size : ℕ
  pub node : ℕ → Node
  pub key : ℕ → ℕ → ℕ
  pub held : ℕ → ℕ → ℕ
  pub from : ℕ
  pub next : ℕ

abbrev pub Marks : Type 0
Marks = Dir → ℕ → ℕ → Bool

abbrev pub lit_of : Kind → ℤ → ℕ → ℤ
lit_of leaf z v = z
lit_of dummy z v = pos v
lit_of unit z v = pos v
lit_of general z v = pos v

-- the literal of output j of node n
abbrev pub lit : Tab → ℕ → ℕ → ℤ
lit t n j = lit_of (t.node n).kind (t.node n).input (t.held n j)

abbrev pub held_of : Kind → ℕ → Type 0
held_of leaf v = Unit {0}
held_of dummy v = 0 < v
held_of unit v = 0 < v
held_of general v = 0 < v

-- output j of node n has a literal
abbrev pub Held : Tab → ℕ → ℕ → Type 0
Held t n j = held_of (t.node n).kind (t.held n j)

abbrev pub done_of : Kind → Bool → Type 0
done_of leaf b = Unit {0}
done_of dummy b = b ≡ true
done_of unit b = b ≡ true
done_of general b = b ≡ true

-- output j of node n is a leaf's or is marked
abbrev pub Done : Tab → Marks → Dir → ℕ → ℕ → Type 0
Done t m d n j = done_of (t.node n).kind (m d n j)

-- the value of which output x-1 tells; 0 for x = 0
abbrev pub key_at : Tab → ℕ → ℕ → ℕ
key_at t n zero = 0
key_at t n (suc p) = t.key n p

abbrev pub NotGeneral : Kind → Type 0
NotGeneral leaf = Unit {0}
NotGeneral dummy = Unit {0}
NotGeneral unit = Unit {0}
NotGeneral general = ⊥

abbrev pub Inner : Kind → Type 0
Inner leaf = ⊥
Inner dummy = ⊥
Inner unit = Unit {0}
Inner general = Unit {0}

-- x and y make an If clause of output j of node n
pub record IfPair (t : Tab) (n j x y : ℕ) : Type 0 where
  pub hx : x ≤ (t.node (t.node n).left).count
  pub hy : y ≤ (t.node (t.node n).right).count
  pub sum : (t.node n).lmul * key_at t (t.node n).left x + (t.node n).rmul * key_at t (t.node n).right y ≡ t.key n j

pub record OnlyPair (t : Tab) (n j x y : ℕ) : Type 0 where
  pub hx : x ≤ (t.node (t.node n).left).count
  pub hy : y ≤ (t.node (t.node n).right).count
  pub sum : x + y ≡ j

abbrev pub if_of : Tab → ℕ → ℕ → ℕ → ℕ → List ℤ
if_of t n j x y = if_clause (lit t (t.node n).left) (lit t (t.node n).right) (pos (t.held n j)) x y

abbrev pub only_of : Tab → ℕ → ℕ → ℕ → ℕ → List ℤ
only_of t n j x y =
    only_clause (lit t (t.node n).left) (lit t (t.node n).right) (pos (t.held n j)) (t.node (t.node n).left).count
    (t.node (t.node n).right).count x y

-- the shape of a node, by its kind
pub record LeafOk (t : Tab) (n : ℕ) : Type 0 where
  pub count_is : (t.node n).count ≡ 1
  pub key_is : t.key n 0 ≡ 1
  pub nonzero : Nz (t.node n).input
  pub below : var (t.node n).input < t.from

pub record UnitOk (t : Tab) (n : ℕ) : Type 0 where
  pub hl : (t.node n).left < n
  pub hr : (t.node n).right < n
  pub lmul_is : (t.node n).lmul ≡ 1
  pub rmul_is : (t.node n).rmul ≡ 1
  pub left_kind : NotGeneral (t.node (t.node n).left).kind
  pub right_kind : NotGeneral (t.node (t.node n).right).kind
  pub count_is : (t.node n).count ≡ (t.node (t.node n).left).count + (t.node (t.node n).right).count
  pub key_is : (j : ℕ) → j < (t.node n).count → t.key n j ≡ suc j

pub record GeneralOk (t : Tab) (n : ℕ) : Type 0 where
  pub hl : (t.node n).left < n
  pub hr : (t.node n).right < n
  pub keys : (x y : ℕ) → x ≤ (t.node (t.node n).left).count → y ≤ (t.node (t.node n).right).count → 0 < x + y
      → (j : ℕ) × (j < (t.node n).count) × (t.key n j ≡ (t.node n).lmul * key_at t (t.node n).left x + (t.node n).rmul * key_at t (t.node n).right y)

abbrev pub NodeOk : Tab → ℕ → Kind → Type 0
NodeOk t n leaf = LeafOk t n
NodeOk t n dummy = (t.node n).count ≡ 0
NodeOk t n unit = UnitOk t n
NodeOk t n general = GeneralOk t n

abbrev pub Shape : Tab → Type 0
Shape t = (n : ℕ) → n < t.size → NodeOk t n (t.node n).kind

-- w gives the nodes' values under α
abbrev pub bit : Bool → ℕ
bit true = 1
bit false = 0

abbrev pub ValueOf : (ℤ → Bool) → (ℕ → ℕ) → Node → ℕ → Kind → Type 0
ValueOf b w d n leaf = w n ≡ bit (b d.input)
ValueOf b w d n dummy = w n ≡ 0
ValueOf b w d n unit = w n ≡ w d.left + w d.right
ValueOf b w d n general = w n ≡ d.lmul * w d.left + d.rmul * w d.right

-- b tells which input literals count 1: litv α for an assignment α
abbrev pub Values : Tab → (ℤ → Bool) → (ℕ → ℕ) → Type 0
Values t b w = (n : ℕ) → n < t.size → ValueOf b w (t.node n) n (t.node n).kind

-- all own clauses of an output are in the history, and the children's outputs that they use are done
abbrev pub History : Type 0
History = List (List ℤ)

pub record ClosedIf (t : Tab) (m : Marks) (h : History) (n j x y : ℕ) : Type 0 where
  pub there : In (if_of t n j x y) h
  pub ldone : AtPrev (Done t m If (t.node n).left) x
  pub rdone : AtPrev (Done t m If (t.node n).right) y

pub record ClosedOnly (t : Tab) (m : Marks) (h : History) (n j x y : ℕ) : Type 0 where
  pub there : In (only_of t n j x y) h
  pub ldone : x < (t.node (t.node n).left).count → Done t m OnlyIf (t.node n).left x
  pub rdone : y < (t.node (t.node n).right).count → Done t m OnlyIf (t.node n).right y

abbrev pub Closed : Tab → Marks → History → Dir → ℕ → ℕ → Type 0
Closed t m h If n j = (x y : ℕ) → IfPair t n j x y → ClosedIf t m h n j x y
Closed t m h OnlyIf n j = ((t.node n).kind ≡ unit) × ((x y : ℕ) → OnlyPair t n j x y → ClosedOnly t m h n j x y)

-- what holds of a marked output
pub record Marked (t : Tab) (m : Marks) (h : History) (d : Dir) (n j : ℕ) : Type 0 where
  pub inner : Inner (t.node n).kind
  pub held : 0 < t.held n j
  pub closed : Closed t m h d n j

-- a clause is an own clause of a cell with a literal, all its literals held
pub record FromIf (t : Tab) (n j x y : ℕ) (c : List ℤ) : Type 0 where
  pub pair : IfPair t n j x y
  pub lheld : AtPrev (Held t (t.node n).left) x
  pub rheld : AtPrev (Held t (t.node n).right) y
  pub is : Same c (if_of t n j x y)

pub record FromOnly (t : Tab) (n j x y : ℕ) (c : List ℤ) : Type 0 where
  pub kind : (t.node n).kind ≡ unit
  pub pair : OnlyPair t n j x y
  pub lheld : x < (t.node (t.node n).left).count → Held t (t.node n).left x
  pub rheld : y < (t.node (t.node n).right).count → Held t (t.node n).right y
  pub is : Same c (only_of t n j x y)

pub record Cell (t : Tab) (n j : ℕ) : Type 0 where
  pub hn : n < t.size
  pub hj : j < (t.node n).count
  pub inner : Inner (t.node n).kind
  pub held : 0 < t.held n j

pub data Own (t : Tab) (c : List ℤ) : Type 0 where
  own_if : (n j x y : ℕ) → Cell t n j → FromIf t n j x y c → Own t c
  own_only : (n j x y : ℕ) → Cell t n j → FromOnly t n j x y c → Own t c

pub record Cells (t : Tab) : Type 0 where
  pub positive : 0 < t.from
  pub range : (n j : ℕ) → n < t.size → j < (t.node n).count → 0 < t.held n j → (t.from ≤ t.held n j) × (t.held n j < t.next)
  pub order : t.from ≤ t.next
  pub distinct : (n j k i : ℕ) → n < t.size → j < (t.node n).count → k < t.size → i < (t.node k).count → 0 < t.held n j
      → t.held n j ≡ t.held k i → (n ≡ k) × (j ≡ i)

pub record Inv (t : Tab) (m : Marks) (h : History) : Type 0 where
  pub shape : Shape t
  pub cells : Cells t
  pub marked : (d : Dir) (n j : ℕ) → n < t.size → j < (t.node n).count → m d n j ≡ true → Marked t m h d n j
  pub own : (c : List ℤ) → Memᴰ c h → Own t c

abbrev pub AllSat : (ℕ → Bool) → History → Type 0
AllSat α h = (c : List ℤ) → Memᴰ c h → Rattle.meaning.specs.Base.Sat α c
