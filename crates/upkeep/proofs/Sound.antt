-- The value of a node is 0 or one of its values, so it is at most its largest key; and what the table check gives the loop over the nodes. Assumes nothing.
use Prim.Native.Nat.{ℕ, zero, suc, ◌+◌, ◌*◌, ◌/◌, ◌<◌, ◌≤◌}
use mathlib.Core.List.{List}
use mathlib.Core.Bool.{Bool, true, false, cond}
use mathlib.Core.Path.{◌≡◌, refl, sym, ap, ◌∙◌}
use mathlib.Core.Logic.{◌⊎◌, inl, inr, ⊎_elim}
use native.Mathlib.Nat.{mul-zero, add-zero, zero-add}
use native.Mathlib.Omega.{arith}
use lib.ListN.{length, get_or}
use lib.Dec.{eqb}
use lib.IntN.{ℤ, pos, nat_abs}
use borrow.Author.Tests.{eq-eqb, ne_eqb, eqb-true, eqb-false}
use Rattle.paper.specs.Limits.{cell_limit, key_limit, node_words}
use Rattle.paper.specs.Rows.{node_at, word_from, value_count, value_at, con_val, is_neg}
use Rattle.paper.specs.Keys.{node_keys}
use Rattle.paper.specs.Table.{table_ok}
use Rattle.paper.specs.Upkeep.{byte_at, truth_of, worth_of, value_of}
use Rattle.paper.specs.declared.Node.{Node}
use Rattle.paper.specs.declared.Counters.{Counters}
use Rattle.facts.specs.Members.{In}
use Rattle.facts.proofs.Members.{left_in, right_in, sum_in, in_at}
use Rattle.facts.specs.Facts.{TableFacts, NodeFacts, NodeFactsAt, a_leaf, a_dummy, a_unit, a_general, GeneralFacts, UnitFacts}
use Rattle.facts.proofs.Facts.{table_facts, leaf_outputs, dummy_outputs, unit_outputs, general_outputs, leaf_low}
use Rattle.worth.specs.Value.{Ready, Sound}
use Rattle.worth.proofs.Worth.{worth_leaf, worth_dummy, worth_inner}

abbrev Bit : ℕ → Type 0
Bit v = (v ≡ 0) ⊎ (v ≡ 1)

truth_bit : (a : List ℕ) (x : ℤ) → Bit (truth_of a x)
unfolding truth_of
truth_bit a x = go (eqb (byte_at a (nat_abs x)) 1) (is_neg x)
  where
    go : (t n : Bool) → Bit (cond t (cond n 0 1) (cond n 1 0))
    go true true = inl refl
    go true false = inr refl
    go false true = inr refl
    go false false = inl refl

at_leaf : (keys : List ℕ) (n : Node) (i : ℕ) → n.kind ≡ 0 → value_at keys n i ≡ 1
unfolding value_at
at_leaf keys n i k = rw (eq-eqb n.kind 0 k)

at_inner : (keys : List ℕ) (n : Node) (i : ℕ) → (n.kind ≡ 0 → ⊥) → value_at keys n i ≡ word_from keys n.first i
unfolding value_at
at_inner keys n i p = rw (ne_eqb n.kind 0 p)

-- v is 0 or one of the node's values
pub data Got (keys : List ℕ) (n : Node) (v : ℕ) : Type 0 where
  nothing : v ≡ 0 → Got keys n v
  one : (i : ℕ) → i < value_count n → v ≡ value_at keys n i → Got keys n v

other : (k a b : ℕ) → k ≡ a → (a ≡ b → ⊥) → k ≡ b → ⊥
other k a b e h q = h (sym e ∙ q)

-- of a node that is not general, at most its count
plain_low : (keys marks : List ℕ) (n l r : Node) (id inputs cells limit : ℕ) → NodeFacts keys marks n l r id inputs cells limit → eqb n.kind 2 ≡ false
    → (v : ℕ) → Got keys n v → v ≤ value_count n
plain_low keys marks n l r id inputs cells limit f p v (nothing z) = omega (arith, z)
plain_low keys marks n l r id inputs cells limit (a_leaf k f) p v (one i h e) = omega (arith, e, h, at_leaf keys n i k)
plain_low keys marks n l r id inputs cells limit (a_dummy k f) p v (one i h e) = absurd (omega (arith, h, dummy_outputs n k))
plain_low keys marks n l r id inputs cells limit (a_unit k f g) p v (one i h e) =
    let c = unit_outputs n k in
    omega (arith, e, h, at_inner keys n i (other _ 1 0 k (λ q. omega arith)), c, g.key i (omega (arith, h, c)))
plain_low keys marks n l r id inputs cells limit (a_general k f g) p v (one i h e) = absurd (eqb-false _ _ p k)

-- of any node, within the limit of keys
got_low : (keys marks : List ℕ) (n l r : Node) (id inputs cells limit : ℕ) → limit ≤ cell_limit → NodeFacts keys marks n l r id inputs cells limit
    → (v : ℕ) → Got keys n v → v ≤ key_limit
got_low keys marks n l r id inputs cells limit few f v (nothing z) = omega (arith, z)
got_low keys marks n l r id inputs cells limit few (a_leaf k f) v (one i h e) = omega (arith, e, at_leaf keys n i k)
got_low keys marks n l r id inputs cells limit few (a_dummy k f) v (one i h e) = absurd (omega (arith, h, dummy_outputs n k))
got_low keys marks n l r id inputs cells limit few (a_unit k f g) v (one i h e) =
    let c = unit_outputs n k in
    omega (arith, e, h, few, f.within, at_inner keys n i (other _ 1 0 k (λ q. omega arith)), c, g.key i (omega (arith, h, c)))
got_low keys marks n l r id inputs cells limit few (a_general k f g) v (one i h e) =
    let c = general_outputs n k in
    omega (arith, e, at_inner keys n i (other _ 2 0 k (λ q. omega arith)), g.key_low i (omega (arith, h, c)))

-- ---- the sum of the children's values is 0 or a value of the node

unit_got : (keys : List ℕ) (n l r : Node) → n.kind ≡ 1 → UnitFacts keys n l r → (v : ℕ) → v ≤ n.count → Got keys n v
unit_got keys n l r k g zero h = nothing refl
unit_got keys n l r k g (suc v) h =
    let c = unit_outputs n k in
    let a = at_inner keys n v (other _ 1 0 k (λ q. omega arith)) in
    let e = g.key v (omega arith) in
    one v (omega (arith, c)) (omega (arith, a, e))

left_alone : (m a k b : ℕ) → b ≡ 0 → m * a + k * b ≡ m * a
left_alone m a k b e = rw (e, mul-zero k, add-zero (m * a))

right_alone : (m a k b : ℕ) → a ≡ 0 → m * a + k * b ≡ k * b
right_alone m a k b e = rw (e, mul-zero m, zero-add (k * b))

sum_key : (keys : List ℕ) (l r : Node) (lm rm a b : ℕ) → Got keys l a → Got keys r b → (lm * a + rm * b ≡ 0) ⊎ In (lm * a + rm * b) (node_keys keys l lm r rm)
sum_key keys l r lm rm a b (nothing p) (nothing q) = inl (left_alone lm a rm b q ∙ ap (λ (x : ℕ). lm * x) p ∙ mul-zero lm)
sum_key keys l r lm rm a b (nothing p) (one j h e) = inr (rw (right_alone lm a rm b p, e) (right_in (con_val keys l lm) (value_count r) (con_val keys r rm) (value_count l) j h))
sum_key keys l r lm rm a b (one i g d) (nothing q) = inr (rw (left_alone lm a rm b q, d) (left_in (con_val keys l lm) (value_count r) (con_val keys r rm) (value_count l) i g))
sum_key keys l r lm rm a b (one i g d) (one j h e) = inr (rw (d, e) (sum_in (con_val keys l lm) (value_count r) (con_val keys r rm) (value_count l) i j g h))

general_got : (keys marks : List ℕ) (n l r : Node) → n.kind ≡ 2 → GeneralFacts keys marks n l r → (y : ℕ) → In y (node_keys keys l n.lmul r n.rmul) → Got keys n y
general_got keys marks n l r k g y m =
    let w = in_at y (node_keys keys l n.lmul r n.rmul) m in
    let h : w.0 < n.count = omega (arith, w.1, g.size) in
    one w.0 (omega (arith, h, general_outputs n k))
    (sym w.2 ∙ sym (g.key w.0 h) ∙ sym (at_inner keys n w.0 (other _ 2 0 k (λ q. omega arith))))

abbrev Facts : List ℕ → List ℤ → List ℕ → List ℤ → List ℕ → ℕ → Counters → Type 0
Facts ns ins keys lits marks clauses c = TableFacts (node_at ns) (length ns / node_words) ins keys lits marks clauses c

module _ (ns : List ℕ) (ins : List ℤ) (keys : List ℕ) (lits : List ℤ) (marks : List ℕ) (clauses : ℕ) (c : Counters) (t : Facts ns ins keys lits marks clauses c) (a : List ℕ) where
  -- the value of a node is 0 or one of its values
  pub attained : (f i : ℕ) → i < f → i < c.nodes → Got keys (node_at ns i) (value_of f ns ins a i)
  unfolding value_of
  attained zero i h l = absurd (omega arith)
  attained (suc f) i h l = go (λ j p q. attained f j p q) (t.node i l)
    where
      step : value_of (suc f) ns ins a i ≡ worth_of (node_at ns i) ins a (value_of f ns ins a (node_at ns i).left) (value_of f ns ins a (node_at ns i).right)
      step = refl

      go : ((j : ℕ) → j < f → j < c.nodes → Got keys (node_at ns j) (value_of f ns ins a j)) → NodeFactsAt (node_at ns) keys marks c.cells i → Got keys (node_at ns i) (value_of (suc f) ns ins a i)
      go rec (a_leaf k g) =
          let x = get_or ins (node_at ns i).first (pos 0) in
          let e = step ∙ worth_leaf (node_at ns i) ins a (value_of f ns ins a (node_at ns i).left) (value_of f ns ins a (node_at ns i).right) k in
          ⊎_elim (λ (z : truth_of a x ≡ 0). nothing (e ∙ z))
          (λ (z : truth_of a x ≡ 1). one 0 (omega (arith, leaf_outputs (node_at ns i) k)) (e ∙ z ∙ sym (at_leaf keys (node_at ns i) 0 k))) (truth_bit a x)
      go rec (a_dummy k g) = nothing (step ∙ worth_dummy (node_at ns i) ins a (value_of f ns ins a (node_at ns i).left) (value_of f ns ins a (node_at ns i).right) k)
      go rec (a_unit k g u) =
          let L = value_of f ns ins a (node_at ns i).left in
          let R = value_of f ns ins a (node_at ns i).right in
          let e = step ∙ worth_inner (node_at ns i) ins a L R (other _ 1 0 k (λ q. omega arith)) (other _ 1 3 k (λ q. omega arith)) in
          let p = plain_low _ _ _ _ _ _ _ _ _ (t.node (node_at ns i).left (omega (arith, g.left_low))) u.left_plain L (rec (node_at ns i).left (omega (arith, g.left_low)) (omega (arith, g.left_low))) in
          let q = plain_low _ _ _ _ _ _ _ _ _ (t.node (node_at ns i).right (omega (arith, g.right_low))) u.right_plain R (rec (node_at ns i).right (omega (arith, g.right_low)) (omega (arith, g.right_low))) in
          let m : (node_at ns i).lmul * L + (node_at ns i).rmul * R ≡ L + R = rw (u.lmul, u.rmul) (let w : 1 * L + 1 * R ≡ L + R = omega arith in w) in
          unit_got keys (node_at ns i) _ _ k u (value_of (suc f) ns ins a i) (omega (arith, e, m, p, q, u.sum))
      go rec (a_general k g u) =
          let L = value_of f ns ins a (node_at ns i).left in
          let R = value_of f ns ins a (node_at ns i).right in
          let e = step ∙ worth_inner (node_at ns i) ins a L R (other _ 2 0 k (λ q. omega arith)) (other _ 2 3 k (λ q. omega arith)) in
          ⊎_elim (λ (z : (node_at ns i).lmul * L + (node_at ns i).rmul * R ≡ 0). nothing (e ∙ z))
          (λ (m : In ((node_at ns i).lmul * L + (node_at ns i).rmul * R) (node_keys keys (node_at ns (node_at ns i).left) (node_at ns i).lmul (node_at ns (node_at ns i).right) (node_at ns i).rmul)). rw e (general_got keys marks (node_at ns i) _ _ k u _ m))
          (sum_key keys (node_at ns (node_at ns i).left) (node_at ns (node_at ns i).right) (node_at ns i).lmul (node_at ns i).rmul L R
          (rec (node_at ns i).left (omega (arith, g.left_low)) (omega (arith, g.left_low)))
          (rec (node_at ns i).right (omega (arith, g.right_low)) (omega (arith, g.right_low))))

-- ---- what the check gives

table_sound : (ns : List ℕ) (ins : List ℤ) (keys : List ℕ) (lits : List ℤ) (marks : List ℕ) (clauses : ℕ) (c : Counters) → Facts ns ins keys lits marks clauses c → (a : List ℕ) (id : ℕ) → id < c.nodes → Sound ns ins a id
table_sound ns ins keys lits marks clauses c t a id h =
    record {
      ready = λ i g. ready i (omega arith);
      low = λ i g f k. got_low _ _ _ _ _ _ _ _ _ t.counters.cell_limit_met (t.node i (omega arith)) (value_of f ns ins a i) (attained ns ins keys lits marks clauses c t a f i k (omega arith));
    }
  where
    ready : (i : ℕ) → i < c.nodes → Ready ns (length ins) i i
    ready i l = go (t.node i l)
      where
        go : NodeFactsAt (node_at ns) keys marks c.cells i → Ready ns (length ins) i i
        go (a_leaf k g) = record { leaf = λ p. omega (arith, leaf_low t i l k, t.input_row); left = λ p q. absurd (eqb-false _ _ p k); right = λ p q. absurd (eqb-false _ _ p k); lmul = omega (arith, g.lmul); rmul = omega (arith, g.rmul) }
        go (a_dummy k g) = record { leaf = λ p. absurd (other _ 3 0 k (λ q. omega arith) (eqb-true _ _ p)); left = λ p q. absurd (eqb-false _ _ q k); right = λ p q. absurd (eqb-false _ _ q k); lmul = omega (arith, g.lmul); rmul = omega (arith, g.rmul) }
        go (a_unit k g u) = record { leaf = λ p. absurd (other _ 1 0 k (λ q. omega arith) (eqb-true _ _ p)); left = λ p q. g.left_low; right = λ p q. g.right_low; lmul = omega (arith, u.lmul); rmul = omega (arith, u.rmul) }
        go (a_general k g u) = record { leaf = λ p. absurd (other _ 2 0 k (λ q. omega arith) (eqb-true _ _ p)); left = λ p q. g.left_low; right = λ p q. g.right_low; lmul = u.lmul_high; rmul = u.rmul_high }

pub sound : (ns : List ℕ) (ins : List ℤ) (keys : List ℕ) (lits : List ℤ) (marks : List ℕ) (clauses : ℕ) (c : Counters) → table_ok ns ins keys lits marks clauses c ≡ true → (a : List ℕ) (id : ℕ) → id < c.nodes → Sound ns ins a id
sound ns ins keys lits marks clauses c h a id l = table_sound ns ins keys lits marks clauses c (table_facts (node_at ns) (length ns / node_words) ins keys lits marks clauses c h) a id l

-- in a checked table the answer is at most the limit of keys
pub value_low : (ns : List ℕ) (ins : List ℤ) (keys : List ℕ) (lits : List ℤ) (marks : List ℕ) (clauses : ℕ) (c : Counters) → table_ok ns ins keys lits marks clauses c ≡ true → (a : List ℕ) (id : ℕ) → id < c.nodes
    → value_of (id + 1) ns ins a id ≤ key_limit
value_low ns ins keys lits marks clauses c h a id l = (sound ns ins keys lits marks clauses c h a id l).low id (omega arith) (id + 1) (omega arith)
