-- Laws of counts, lookups, ways to make a value, and jobs.
use Rattle.std.specs.Prelude.{None, Option, Some}
use mathlib.Core.Path.{◌≡◌, refl, sym, ap, ◌∙◌, subst}
use mathlib.Core.Bool.{Bool, true, false, cond}
use mathlib.Core.List.{List}
use Prim.Native.Nat.{ℕ, zero, suc, ◌+◌, ◌-◌, ◌/◌, ◌%◌, ◌≤◌, ◌<◌, ◌^◌}
use native.Mathlib.Omega.{arith}
use native.Mathlib.Decide.{ℕ_discrete}
use borrow.Author.Tests.{eq-eqb, ne_eqb, lt-ltb, le-ltb, eqb-true, eqb-false, ltb-true, ltb-false}
use lib.Dec.{eqb, ltb}
use lib.ListN.{get_or}
use Rattle.paper.specs.Rows.{node_at, value_count, con_val}
use Rattle.paper.specs.Weighted.{key_from, output_of, place_of, share_of, no_way, joined, way_two, job_of}
use Rattle.paper.specs.declared.Node.{Node}
use Rattle.paper.specs.declared.Way.{Way}
use Rattle.paper.specs.declared.Job.{Job}
use Rattle.paper.specs.declared.Job.TheVariants.{Nothing, Count, Sum}
use Rattle.find.specs.Ways.{Sorted, Muls, Place}

-- ---- counts

pub count_leaf : (n : Node) → n.kind ≡ 0 → value_count n ≡ 1
unfolding value_count
count_leaf n e = rw (eq-eqb n.kind 0 e)

pub count_dummy : (n : Node) → n.kind ≡ 3 → value_count n ≡ 0
unfolding value_count
count_dummy n e = rw (ne_eqb n.kind 0 (λ z. omega arith), eq-eqb n.kind 3 e)

pub count_inner : (n : Node) → (n.kind ≡ 0 → ⊥) → (n.kind ≡ 3 → ⊥) → value_count n ≡ n.count
unfolding value_count
count_inner n e f = rw (ne_eqb n.kind 0 e, ne_eqb n.kind 3 f)

-- a count that fits a word
pub count_fits : (n : Node) → n.count < 2 ^ 64 → value_count n < 2 ^ 64
unfolding value_count
count_fits n h = go (eqb n.kind 0) (eqb n.kind 3)
  where
    go : (a b : Bool) → cond a 1 (cond b 0 n.count) < 2 ^ 64
    go true b = omega arith
    go false true = omega arith
    go false false = h

pub count_unit : (n : Node) → n.kind ≡ 1 → value_count n ≡ n.count
count_unit n e = count_inner n (λ z. omega arith) (λ z. omega arith)

pub count_general : (n : Node) → n.kind ≡ 2 → value_count n ≡ n.count
count_general n e = count_inner n (λ z. omega arith) (λ z. omega arith)

-- ---- the search

module _ (keys : List ℕ) (first v : ℕ) where
  place_cond : (b : Bool) (a c : Option ℕ) (n : ℕ) → place_of a ≤ n → place_of c ≤ n → place_of (cond b a c) ≤ n
  place_cond true a c n p q = p
  place_cond false a c n p q = q

  pub key_place : (n k : ℕ) → place_of (key_from keys first v n k) ≤ k + n
  unfolding key_from
  key_place zero k = omega arith
  key_place (suc n) k =
      place_cond (eqb (get_or keys (first + k) 0) v) (Some k) (key_from keys first v n (k + 1)) (k + suc n) (omega arith) (omega (arith, key_place n (k + 1)))

-- ---- outputs by value

module _ (keys : List ℕ) (n : Node) where
  pub output_general : (q : ℕ) → n.kind ≡ 2 → output_of keys n q ≡ key_from keys n.first q n.count 0
  unfolding output_of
  output_general q e = rw (eq-eqb n.kind 2 e)

  pub output_zero : (q : ℕ) → (n.kind ≡ 2 → ⊥) → q ≡ 0 → output_of keys n q ≡ None
  unfolding output_of
  output_zero q e z = rw (ne_eqb n.kind 2 e, eq-eqb q 0 z)

  pub output_past : (q : ℕ) → (n.kind ≡ 2 → ⊥) → (q ≡ 0 → ⊥) → value_count n < q → output_of keys n q ≡ None
  unfolding output_of
  output_past q e z h = rw (ne_eqb n.kind 2 e, ne_eqb q 0 z, lt-ltb (value_count n) q h)

  pub output_at : (q : ℕ) → (n.kind ≡ 2 → ⊥) → (q ≡ 0 → ⊥) → q ≤ value_count n → output_of keys n q ≡ Some (q - 1)
  unfolding output_of
  output_at q e z h = rw (ne_eqb n.kind 2 e, ne_eqb q 0 z, le-ltb (value_count n) q h)

  pub output_place : (q : ℕ) → place_of (output_of keys n q) ≤ value_count n
  output_place q = go (ℕ_discrete n.kind 2) (ℕ_discrete q 0)
    where
      past : (n.kind ≡ 2 → ⊥) → (q ≡ 0 → ⊥) → (b : Bool) → ltb (value_count n) q ≡ b → place_of (output_of keys n q) ≤ value_count n
      past e z true h = rw (output_past q e z (ltb-true _ _ h)) (omega arith)
      past e z false h = let g = ltb-false _ _ h in rw (output_at q e z g) (omega arith)

      go : Dec (n.kind ≡ 2) → Dec (q ≡ 0) → place_of (output_of keys n q) ≤ value_count n
      go (yes e) d = rw (output_general q e, count_general n e) (omega (arith, key_place keys n.first q n.count 0))
      go (no e) (yes z) = rw (output_zero q e z) (omega arith)
      go (no e) (no z) = past e z (ltb (value_count n) q) refl

  pub share_yes : (m v : ℕ) (f : Option ℕ) → v % m ≡ 0 → f ≡ output_of keys n (v / m) → place_of f ≡ share_of keys n m v
  unfolding share_of
  share_yes m v f e g = rw (eq-eqb (v % m) 0 e, ← g)

  pub share_no : (m v : ℕ) → (v % m ≡ 0 → ⊥) → share_of keys n m v ≡ 0
  unfolding share_of
  share_no m v e = rw (ne_eqb (v % m) 0 e)

  pub share_place : (m v : ℕ) → share_of keys n m v ≤ value_count n
  unfolding share_of
  share_place m v = go (eqb (v % m) 0)
    where
      go : (b : Bool) → cond b (place_of (output_of keys n (v / m))) 0 ≤ value_count n
      go true = output_place (v / m)
      go false = omega arith

-- ---- the ways

module _ (keys : List ℕ) (n l r : Node) (v p : ℕ) where
  pub way_both : p < value_count l → con_val keys l n.lmul p < v → way_two keys n l r v p ≡ joined (p + 1) (share_of keys r n.rmul (v - con_val keys l n.lmul p))
  unfolding way_two
  way_both h g = rw (lt-ltb p (value_count l) h, lt-ltb (con_val keys l n.lmul p) v g)

  pub way_over : p < value_count l → v ≤ con_val keys l n.lmul p → way_two keys n l r v p ≡ no_way
  unfolding way_two
  way_over h g = rw (lt-ltb p (value_count l) h, le-ltb (con_val keys l n.lmul p) v g)

  pub way_left : p ≡ value_count l → way_two keys n l r v p ≡ record { x = share_of keys l n.lmul v; y = 0 }
  unfolding way_two
  way_left h = let g : value_count l ≤ p = omega arith in rw (le-ltb p (value_count l) g, eq-eqb p (value_count l) h)

  pub way_right : value_count l ≤ p → (p ≡ value_count l → ⊥) → way_two keys n l r v p ≡ record { x = 0; y = share_of keys r n.rmul v }
  unfolding way_two
  way_right h g = rw (le-ltb p (value_count l) h, ne_eqb p (value_count l) g)

pub record Within (n l r : Node) (q : Way) : Type 0 where
  pub left : q.x ≤ value_count l
  pub right : q.y ≤ value_count r

module _ (keys : List ℕ) (n l r : Node) (v p : ℕ) where
  within_cond : (b : Bool) (q q' : Way) → (b ≡ true → Within n l r q) → (b ≡ false → Within n l r q') → Within n l r (cond b q q')
  within_cond true q q' f g = f refl
  within_cond false q q' f g = g refl

  within_none : Within n l r no_way
  within_none = record { left = omega arith; right = omega arith }

  pub way_within : Within n l r (way_two keys n l r v p)
  unfolding way_two
  way_within =
      within_cond (ltb p (value_count l)) _ _
      (λ h. within_cond (ltb (con_val keys l n.lmul p) v) _ _
      (λ _. within_cond (eqb (share_of keys r n.rmul (v - con_val keys l n.lmul p)) 0) _ _ (λ _. within_none)
      (λ _. record { left = omega (arith, ltb-true p (value_count l) h); right = share_place keys r n.rmul (v - con_val keys l n.lmul p) }))
      (λ _. within_none))
      (λ _. within_cond (eqb p (value_count l)) _ _ (λ _. record { left = share_place keys l n.lmul v; right = omega arith })
      (λ _. record { left = omega arith; right = share_place keys r n.rmul v }))

-- what is asked of a node, of one that is read
pub muls_by : (n m : Node) → n ≡ m → Muls m → Muls n
muls_by n m e h = rw e h

pub sorted_by : (keys : List ℕ) (n m : Node) → n ≡ m → Sorted keys m → Sorted keys n
sorted_by keys n m e h = rw e h

-- ---- what a job tells

pub cell_at : (ns : List ℕ) (nc k y : ℕ) (n : Node) → n ≡ node_at ns k → Place ns nc k y → n.kind ≡ 2 → (y ≡ 0 → ⊥) → n.first + (y - 1) < nc
cell_at ns nc k y n e here g z =
    let d : (node_at ns k).kind ≡ 2 = sym (ap (λ (m : Node). m.kind) e) ∙ g in
    let f : n.first ≡ (node_at ns k).first = ap (λ (m : Node). m.first) e in
    omega (arith, here.cells d, here.out, count_general (node_at ns k) d)

abbrev pub Told : List ℕ → ℕ → ℕ → Job → Type 0
Told ns nc k Nothing = Unit {0}
Told ns nc k (Count i) = ((node_at ns k).kind ≡ 1) × (i < value_count (node_at ns k))
Told ns nc k (Sum at v) = ((node_at ns k).kind ≡ 2) × (at < nc)

module _ (ns keys marks : List ℕ) (nc k y : ℕ) (here : Place ns nc k y) where
  told_cond : (b : Bool) (j i : Job) → (b ≡ true → Told ns nc k j) → (b ≡ false → Told ns nc k i) → Told ns nc k (cond b j i)
  told_cond true j i f g = f refl
  told_cond false j i f g = g refl

  pub told : Told ns nc k (job_of ns keys marks k y)
  unfolding job_of
  told =
      told_cond (eqb y 0) _ _ (λ _. tt)
      (λ z. told_cond (eqb (node_at ns k).kind 1) _ _
      (λ u. let s : (y ≡ 0 → ⊥) = eqb-false y 0 z in (eqb-true _ _ u, omega (arith, here.out)))
      (λ _. told_cond (eqb (node_at ns k).kind 2) _ _
      (λ u. told_cond (eqb (get_or marks ((node_at ns k).first + (y - 1)) 0) 0) _ _
      (λ _. (eqb-true _ _ u, cell_at ns nc k y (node_at ns k) refl here (eqb-true _ _ u) (eqb-false _ _ z)))
      (λ _. tt))
      (λ _. tt)))

  pub count_ok : (i : ℕ) → job_of ns keys marks k y ≡ Count i → ((node_at ns k).kind ≡ 1) × (i < value_count (node_at ns k))
  count_ok i e = subst (λ (j : Job). Told ns nc k j) e told

  pub sum_ok : (at v : ℕ) → job_of ns keys marks k y ≡ Sum at v → ((node_at ns k).kind ≡ 2) × (at < nc)
  sum_ok at v e = subst (λ (j : Job). Told ns nc k j) e told
