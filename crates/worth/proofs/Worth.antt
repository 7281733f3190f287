-- How the loop over the nodes reaches the definition of a node's value. Assumes nothing.
use Prim.Native.Nat.{ℕ, zero, suc, ◌+◌, ◌-◌, ◌*◌, ◌<◌, ◌≤◌}
use mathlib.Core.List.{List}
use mathlib.Core.Bool.{Bool, true, false, cond}
use mathlib.Core.Path.{◌≡◌, refl, sym, ap, ap₂, ◌∙◌}
use mathlib.Core.Logic.{⊎_elim}
use native.Mathlib.Omega.{arith}
use lib.ListN.{length, get_or, set}
use lib.Dec.{eqb}
use lib.IntN.{ℤ, pos, nat_abs}
use lib.Seq.{get_or-set_same, get_or-set_other}
use borrow.Author.Tests.{eq-eqb, ne_eqb}
use Rattle.paper.specs.Below.{side}
use Rattle.paper.specs.Rows.{node_at}
use Rattle.paper.specs.Upkeep.{truth_of, worth_of, value_of}
use Rattle.paper.specs.declared.Node.{Node}
use Rattle.worth.specs.Value.{Ready, Sound}

pub value_step : (ns : List ℕ) (ins : List ℤ) (a : List ℕ) (f i : ℕ) → i < f
    → value_of f ns ins a i ≡ worth_of (node_at ns i) ins a (value_of (f - 1) ns ins a (node_at ns i).left) (value_of (f - 1) ns ins a (node_at ns i).right)
unfolding value_of
value_step ns ins a zero i h = absurd (omega arith)
value_step ns ins a (suc f) i h = let q : suc f - 1 ≡ f = omega arith in rw q

pub worth_leaf : (n : Node) (ins : List ℤ) (a : List ℕ) (l r : ℕ) → n.kind ≡ 0 → worth_of n ins a l r ≡ truth_of a (get_or ins n.first (pos 0))
unfolding worth_of
worth_leaf n ins a l r k = rw (eq-eqb _ _ k)

pub worth_dummy : (n : Node) (ins : List ℤ) (a : List ℕ) (l r : ℕ) → n.kind ≡ 3 → worth_of n ins a l r ≡ 0
unfolding worth_of
worth_dummy n ins a l r k = rw (ne_eqb n.kind 0 (λ e. omega (arith, k)), eq-eqb n.kind 3 k)

pub worth_inner : (n : Node) (ins : List ℤ) (a : List ℕ) (l r : ℕ) → (n.kind ≡ 0 → ⊥) → (n.kind ≡ 3 → ⊥) → worth_of n ins a l r ≡ n.lmul * l + n.rmul * r
unfolding worth_of
worth_inner n ins a l r p q = rw (ne_eqb n.kind 0 p, ne_eqb n.kind 3 q)

-- the children's values matter only at an inner node
pub worth_same : (n : Node) (ins : List ℤ) (a : List ℕ) (l r k s : ℕ)
    → (eqb n.kind 0 ≡ false → eqb n.kind 3 ≡ false → l ≡ k) → (eqb n.kind 0 ≡ false → eqb n.kind 3 ≡ false → r ≡ s) → worth_of n ins a l r ≡ worth_of n ins a k s
unfolding worth_of
worth_same n ins a l r k s p q = go (eqb n.kind 0) refl (eqb n.kind 3) refl
  where
    go : (t : Bool) → eqb n.kind 0 ≡ t → (u : Bool) → eqb n.kind 3 ≡ u
        → cond t (truth_of a (get_or ins n.first (pos 0))) (cond u 0 (n.lmul * l + n.rmul * r)) ≡ cond t (truth_of a (get_or ins n.first (pos 0))) (cond u 0 (n.lmul * k + n.rmul * s))
    go true e u d = refl
    go false e true d = refl
    go false e false d = ap₂ (λ (x : ℕ) (y : ℕ). n.lmul * x + n.rmul * y) (p e d) (q e d)

-- ---- the loop

pub ready_more : (ns : List ℕ) (k limit i : ℕ) → Ready ns k i i → i ≤ limit → Ready ns k limit i
ready_more ns k limit i r h =
    record { leaf = r.leaf; left = λ p q. let g = r.left p q in omega (arith, g); right = λ p q. let g = r.right p q in omega (arith, g); lmul = r.lmul; rmul = r.rmul }

-- the rows's first i places have the values of the nodes before i
abbrev pub Held : List ℕ → List ℤ → List ℕ → List ℤ → ℕ → Type 0
Held ns ins a work i = (j : ℕ) → j < i → (f : ℕ) → j < f → get_or work j (pos 0) ≡ pos (value_of f ns ins a j)

pub reach : (ns : List ℕ) (ins : List ℤ) (a : List ℕ) (work : List ℤ) (id i v : ℕ) → Sound ns ins a id → i ≤ id → Held ns ins a work i
    → v ≡ worth_of (node_at ns i) ins a (nat_abs (get_or work (node_at ns i).left (pos 0))) (nat_abs (get_or work (node_at ns i).right (pos 0)))
    → (f : ℕ) → i < f → v ≡ value_of f ns ins a i
reach ns ins a work id i v s h held e f g =
    e
    ∙ worth_same (node_at ns i) ins a _ _ (value_of (f - 1) ns ins a (node_at ns i).left) (value_of (f - 1) ns ins a (node_at ns i).right)
    (λ p q. let l = (s.ready i h).left p q in ap nat_abs (held (node_at ns i).left l (f - 1) (omega (arith, l))))
    (λ p q. let l = (s.ready i h).right p q in ap nat_abs (held (node_at ns i).right l (f - 1) (omega (arith, l))))
    ∙ sym (value_step ns ins a f i g)

pub held_more : (ns : List ℕ) (ins : List ℤ) (a : List ℕ) (work : List ℤ) (i v : ℕ) (z : ℤ) → i < length work → z ≡ pos v → Held ns ins a work i
    → ((f : ℕ) → i < f → v ≡ value_of f ns ins a i) → Held ns ins a (set work i z) (i + 1)
held_more ns ins a work i v z h e held r j g f k =
    ⊎_elim
    (λ (l : j < i). get_or-set_other work i j z (pos 0) (λ q. omega arith) ∙ held j l f k)
    (λ (l : i ≤ j). let q : j ≡ i = omega arith in rw q (get_or-set_same work i z (pos 0) h ∙ e ∙ ap pos (r f (omega arith))))
    (side j i)

-- any fuel above the id gives the same value
pub value_fuel : (ns : List ℕ) (ins : List ℤ) (a : List ℕ) (id : ℕ) → Sound ns ins a id → (f g i : ℕ) → i ≤ id → i < f → i < g → value_of f ns ins a i ≡ value_of g ns ins a i
unfolding value_of
value_fuel ns ins a id s zero g i h p q = absurd (omega arith)
value_fuel ns ins a id s (suc f) zero i h p q = absurd (omega arith)
value_fuel ns ins a id s (suc f) (suc g) i h p q =
    worth_same (node_at ns i) ins a (value_of f ns ins a (node_at ns i).left) (value_of f ns ins a (node_at ns i).right) (value_of g ns ins a (node_at ns i).left) (value_of g ns ins a (node_at ns i).right)
    (λ x y. let l = (s.ready i h).left x y in value_fuel ns ins a id s f g (node_at ns i).left (omega (arith, l)) (omega (arith, l)) (omega (arith, l)))
    (λ x y. let l = (s.ready i h).right x y in value_fuel ns ins a id s f g (node_at ns i).right (omega (arith, l)) (omega (arith, l)) (omega (arith, l)))
