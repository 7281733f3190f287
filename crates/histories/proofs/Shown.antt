-- What the table check says, as what the meaning of clauses needs: the shape of the view, its cells, its keys.
use Rattle.std.specs.Prelude.{◌≡◌, refl, false, List, ◌⊎◌, ℕ, zero, suc, ◌+◌, ◌*◌, ◌<◌, ◌≤◌, ℤ, pos, negsuc, nat_abs, get_or, eqb}
use Rattle.std.proofs.Common.{sym, ◌∙◌, ap, true≢false, inl, inr, mul-pos, arith}
use Rattle.std.proofs.Math.Decide.{dec_lt}
use Rattle.paper.specs.Rows.{node_at, word_from, value_count, value_at, con_val, con_len, is_leaf, is_dummy, is_neg}
use Rattle.paper.specs.declared.Counters.{Counters}
use Rattle.facts.specs.Facts.{InnerFacts, UnitFacts, GeneralFacts, NodeFactsAt, a_leaf, a_dummy, a_unit, a_general, TableFacts}
use Rattle.facts.proofs.Facts.{node_under, leaf_low, cells_apart}
use Rattle.facts.specs.Members.{KeyIs, from_right, from_left, from_sum}
use Rattle.facts.proofs.Members.{left_key, right_key, sum_key, key_only, key_ascend}
use Rattle.meaning.specs.Base.{Nz, var}
use Rattle.meaning.specs.Table.{Kind, leaf, dummy, unit, general, key_at, NotGeneral, Inner, NodeOk, Shape}
use Rattle.meaning.proofs.Sound.{strong}
use Rattle.meaning.specs.Rows.{Net, State, tab_of, Room}
use Rattle.meaning.specs.View.{kind_of, net_of, key_of, Sharp, Fit}
use Rattle.meaning.proofs.View.{word_is, test_is, count_is, value_is}

nz_of : (z : ℤ) → 1 ≤ nat_abs z → Nz z
nz_of (pos zero) h = let x : ⊥ = omega arith in x
nz_of (pos (suc v)) h = tt
nz_of (negsuc v) h = tt

var_is : (z : ℤ) → var z ≡ nat_abs z
var_is (pos v) = refl
var_is (negsuc v) = refl

pub not_general : (w : ℕ) → eqb w 2 ≡ false → NotGeneral (kind_of w)
not_general zero e = tt
not_general (suc zero) e = tt
not_general (suc (suc zero)) e = absurd (true≢false e)
not_general (suc (suc (suc k))) e = tt

module _ {holds clauses : ℕ} (ns : List ℕ) (ins : List ℤ) (keys : List ℕ) (lits : List ℤ) (marks : List ℕ) (c : Counters)
    (t : TableFacts (node_at ns) holds ins keys lits marks clauses c) where
  abbrev g : Net
  g = net_of ns ins keys c.nodes c.first

  abbrev NodeIs : ℕ → Type 0
  NodeIs n = NodeFactsAt (node_at ns) keys marks c.cells n

  kinds : (n : ℕ) → n < c.nodes → (node_at ns n).kind ≤ 3
  kinds n s = go (t.node n s)
    where
      go : NodeIs n → (node_at ns n).kind ≤ 3
      go (a_leaf k f) = omega arith
      go (a_dummy k f) = omega arith
      go (a_unit k f h) = omega arith
      go (a_general k f h) = omega arith

  -- an inner node by the tests of the paper
  pub record InnerTests (n : ℕ) : Type 0 where
    pub no_leaf : is_leaf (node_at ns n) ≡ false
    pub no_dummy : is_dummy (node_at ns n) ≡ false
    pub count : value_count (node_at ns n) ≡ (node_at ns n).count

  pub inner_tests : (n : ℕ) → n < c.nodes → Inner (kind_of (node_at ns n).kind) → InnerTests n
  inner_tests n s i = go (kind_of (node_at ns n).kind) refl i
    where
      go : (q : Kind) → kind_of (node_at ns n).kind ≡ q → Inner q → InnerTests n
      go leaf e i = absurd i
      go dummy e i = absurd i
      go unit e i = record { no_leaf = test_is ns n (kinds n s) unit 0 e; no_dummy = test_is ns n (kinds n s) unit 3 e; count = count_is ns n (kinds n s) unit e }
      go general e i = record { no_leaf = test_is ns n (kinds n s) general 0 e; no_dummy = test_is ns n (kinds n s) general 3 e; count = count_is ns n (kinds n s) general e }

  room : Room g c.cells
  room =
      record {
        fits = λ n j s hj i. let a = inner_tests n s i in let b = node_under t n s a.no_leaf in omega arith;
        apart = λ n j k i s hj p sk hi q e. go n j k i s hj p sk hi q e (dec_lt n k) (dec_lt k n);
      }
    where
      go : (n j k i : ℕ) → n < c.nodes → j < value_count (node_at ns n) → Inner (kind_of (node_at ns n).kind) → k < c.nodes → i < value_count (node_at ns k) → Inner (kind_of (node_at ns k).kind)
          → (node_at ns n).first + j ≡ (node_at ns k).first + i → Dec (n < k) → Dec (k < n) → (n ≡ k) × (j ≡ i)
      go n j k i s hj p sk hi q e (yes l) d =
          let a = inner_tests n s p in
          let b = inner_tests k sk q in
          let f = cells_apart t n k l sk a.no_leaf a.no_dummy b.no_leaf b.no_dummy in
          let x = a.count in
          absurd (let z : ⊥ = omega arith in z)
      go n j k i s hj p sk hi q e (no l) (yes d) =
          let a = inner_tests n s p in
          let b = inner_tests k sk q in
          let f = cells_apart t k n d s b.no_leaf b.no_dummy a.no_leaf a.no_dummy in
          let x = b.count in
          absurd (let z : ⊥ = omega arith in z)
      go n j k i s hj p sk hi q e (no l) (no d) =
          let same : n ≡ k = omega arith in
          let f : (node_at ns n).first ≡ (node_at ns k).first = ap (λ (x : ℕ). (node_at ns x).first) same in
          (same, omega arith)

  pub fit : Fit ns ins keys c.nodes c.first c.cells
  fit = record { kinds = kinds; leaf_in = λ n s k. let a = leaf_low t n s k in let b = t.input_row in omega arith; room = room }

  -- ---- the facts of a node of each kind

  unit_at : (n : ℕ) → n < c.nodes → kind_of (node_at ns n).kind ≡ unit
      → InnerFacts (node_at ns n) (node_at ns (node_at ns n).left) (node_at ns (node_at ns n).right) n (Rattle.paper.specs.Table.cells_before (node_at ns) n) c.cells
      × UnitFacts keys (node_at ns n) (node_at ns (node_at ns n).left) (node_at ns (node_at ns n).right)
  unit_at n s e = go (t.node n s)
    where
      w : (node_at ns n).kind ≡ 1
      w = word_is ns n (kinds n s) unit e

      go : NodeIs n → InnerFacts (node_at ns n) (node_at ns (node_at ns n).left) (node_at ns (node_at ns n).right) n (Rattle.paper.specs.Table.cells_before (node_at ns) n) c.cells
          × UnitFacts keys (node_at ns n) (node_at ns (node_at ns n).left) (node_at ns (node_at ns n).right)
      go (a_leaf k f) = absurd (let z : ⊥ = omega (arith, w, k) in z)
      go (a_dummy k f) = absurd (let z : ⊥ = omega (arith, w, k) in z)
      go (a_unit k f h) = (f, h)
      go (a_general k f h) = absurd (let z : ⊥ = omega (arith, w, k) in z)

  general_at : (n : ℕ) → n < c.nodes → kind_of (node_at ns n).kind ≡ general
      → InnerFacts (node_at ns n) (node_at ns (node_at ns n).left) (node_at ns (node_at ns n).right) n (Rattle.paper.specs.Table.cells_before (node_at ns) n) c.cells
      × GeneralFacts keys marks (node_at ns n) (node_at ns (node_at ns n).left) (node_at ns (node_at ns n).right)
  general_at n s e = go (t.node n s)
    where
      w : (node_at ns n).kind ≡ 2
      w = word_is ns n (kinds n s) general e

      go : NodeIs n → InnerFacts (node_at ns n) (node_at ns (node_at ns n).left) (node_at ns (node_at ns n).right) n (Rattle.paper.specs.Table.cells_before (node_at ns) n) c.cells
          × GeneralFacts keys marks (node_at ns n) (node_at ns (node_at ns n).left) (node_at ns (node_at ns n).right)
      go (a_leaf k f) = absurd (let z : ⊥ = omega (arith, w, k) in z)
      go (a_dummy k f) = absurd (let z : ⊥ = omega (arith, w, k) in z)
      go (a_unit k f h) = absurd (let z : ⊥ = omega (arith, w, k) in z)
      go (a_general k f h) = (f, h)

  -- a key word, in the view
  word_key : (n : ℕ) → Inner (kind_of (node_at ns n).kind) → (j : ℕ) → key_of g n j ≡ word_from keys (node_at ns n).first j
  word_key n i j = go (kind_of (node_at ns n).kind) refl i
    where
      go : (q : Kind) → kind_of (node_at ns n).kind ≡ q → Inner q → key_of g n j ≡ word_from keys (node_at ns n).first j
      go leaf e i = absurd i
      go dummy e i = absurd i
      go unit e i = rw e
      go general e i = rw e

  -- ---- keys are positive, and apart

  abbrev Positive : ℕ → Type 0
  Positive n = n < c.nodes → (j : ℕ) → j < value_count (node_at ns n) → 0 < key_of g n j

  key_positive : (n : ℕ) → Positive n
  key_positive = strong Positive (λ n ih s j hj. go n ih s j hj (kind_of (node_at ns n).kind) refl)
    where
      value : (d m : ℕ) → d < c.nodes → ((p : ℕ) → p < value_count (node_at ns d) → 0 < key_of g d p) → 1 ≤ m → (p : ℕ) → p < value_count (node_at ns d) → 0 < con_val keys (node_at ns d) m p
      value d m sd f hm p hp = rw (value_is ns ins keys c.nodes c.first c.cells fit d sd p hp) (mul-pos hm (f p hp))

      sum_of : (n : ℕ) (y : ℕ) → KeyIs (con_len (node_at ns (node_at ns n).left)) (con_val keys (node_at ns (node_at ns n).left) (node_at ns n).lmul)
          (con_len (node_at ns (node_at ns n).right)) (con_val keys (node_at ns (node_at ns n).right) (node_at ns n).rmul) y
          → ((p : ℕ) → p < value_count (node_at ns (node_at ns n).left) → 0 < con_val keys (node_at ns (node_at ns n).left) (node_at ns n).lmul p)
          → ((p : ℕ) → p < value_count (node_at ns (node_at ns n).right) → 0 < con_val keys (node_at ns (node_at ns n).right) (node_at ns n).rmul p) → 0 < y
      sum_of n y (from_right a) fl fr = rw a.is (fr a.index a.low)
      sum_of n y (from_left a) fl fr = rw a.is (fl a.index a.low)
      sum_of n y (from_sum i h a) fl fr = let x = fl i h in rw a.is (omega arith)

      go : (n : ℕ) → ((d : ℕ) → d < n → Positive d) → n < c.nodes → (j : ℕ) → j < value_count (node_at ns n) → (q : Kind) → kind_of (node_at ns n).kind ≡ q → 0 < key_of g n j
      go n ih s j hj leaf e = rw e (omega arith)
      go n ih s j hj dummy e = let a = count_is ns n (kinds n s) dummy e in absurd (let z : ⊥ = omega arith in z)
      go n ih s j hj unit e =
          let (f, h) = unit_at n s e in
          let a = count_is ns n (kinds n s) unit e in
          let b = h.key j (omega arith) in
          rw (word_key n (rw e tt) j) (omega arith)
      go n ih s j hj general e =
          let (f, h) = general_at n s e in
          let a = count_is ns n (kinds n s) general e in
          let sl : (node_at ns n).left < c.nodes = omega (arith, f.left_low) in
          let sr : (node_at ns n).right < c.nodes = omega (arith, f.right_low) in
          rw (word_key n (rw e tt) j)
          (sum_of n (word_from keys (node_at ns n).first j) (key_only h j (omega arith))
          (value (node_at ns n).left (node_at ns n).lmul sl (ih (node_at ns n).left f.left_low sl) h.lmul_low)
          (value (node_at ns n).right (node_at ns n).rmul sr (ih (node_at ns n).right f.right_low sr) h.rmul_low))

  pub sharp : Sharp g
  sharp =
      record {
        lpos = λ n s e. (general_at n s e).1.lmul_low;
        rpos = λ n s e. (general_at n s e).1.rmul_low;
        kpos = λ n j s hj. key_positive n s j hj;
        apart = λ n j i s hj hi e. go n j i s hj hi e (kind_of (node_at ns n).kind) refl (dec_lt j i) (dec_lt i j);
      }
    where
      go : (n j i : ℕ) → n < c.nodes → j < value_count (node_at ns n) → i < value_count (node_at ns n) → key_of g n j ≡ key_of g n i → (q : Kind) → kind_of (node_at ns n).kind ≡ q
          → Dec (j < i) → Dec (i < j) → j ≡ i
      go n j i s hj hi e leaf k a b = let x = count_is ns n (kinds n s) leaf k in omega arith
      go n j i s hj hi e dummy k a b = let x = count_is ns n (kinds n s) dummy k in absurd (let z : ⊥ = omega arith in z)
      go n j i s hj hi e unit k a b =
          let x = count_is ns n (kinds n s) unit k in
          let h = (unit_at n s k).1 in
          let y : word_from keys (node_at ns n).first j ≡ word_from keys (node_at ns n).first i = sym (word_key n (rw k tt) j) ∙ e ∙ word_key n (rw k tt) i in
          let p = h.key j (omega arith) in
          let q = h.key i (omega arith) in
          omega arith
      go n j i s hj hi e general k (yes a) b =
          let x = count_is ns n (kinds n s) general k in
          let y : word_from keys (node_at ns n).first j ≡ word_from keys (node_at ns n).first i = sym (word_key n (rw k tt) j) ∙ e ∙ word_key n (rw k tt) i in
          let p = key_ascend (general_at n s k).1 j i a (omega arith) in
          absurd (let z : ⊥ = omega arith in z)
      go n j i s hj hi e general k (no a) (yes b) =
          let x = count_is ns n (kinds n s) general k in
          let y : word_from keys (node_at ns n).first j ≡ word_from keys (node_at ns n).first i = sym (word_key n (rw k tt) j) ∙ e ∙ word_key n (rw k tt) i in
          let p = key_ascend (general_at n s k).1 i j b (omega arith) in
          absurd (let z : ⊥ = omega arith in z)
      go n j i s hj hi e general k (no a) (no b) = omega arith

  -- ---- the shape

  pub shape : (σ : State) → Shape (tab_of g σ)
  shape σ n s = go (kind_of (node_at ns n).kind) refl
    where
      view : (d p : ℕ) → d < c.nodes → p < value_count (node_at ns d) → value_at keys (node_at ns d) p ≡ key_of g d p
      view d p sd hp = value_is ns ins keys c.nodes c.first c.cells fit d sd p hp

      l : ℕ
      l = (node_at ns n).left

      r : ℕ
      r = (node_at ns n).right

      all_keys : kind_of (node_at ns n).kind ≡ general → l < c.nodes → r < c.nodes → GeneralFacts keys marks (node_at ns n) (node_at ns l) (node_at ns r)
          → (x y : ℕ) → x ≤ value_count (node_at ns l) → y ≤ value_count (node_at ns r) → 0 < x + y
          → (j : ℕ) × (j < value_count (node_at ns n)) × (key_of g n j ≡ (node_at ns n).lmul * key_at (tab_of g σ) l x + (node_at ns n).rmul * key_at (tab_of g σ) r y)
      all_keys e sl sr h zero zero hx hy p = absurd (let z : ⊥ = omega arith in z)
      all_keys e sl sr h (suc x) zero hx hy p =
          let k = left_key h x hx in
          let a = count_is ns n (kinds n s) general e in
          let b = k.low in
          (k.index, omega arith, word_key n (rw e tt) k.index ∙ k.is ∙ ap (λ (v : ℕ). (node_at ns n).lmul * v) (view l x sl hx) ∙ (let z : (node_at ns n).lmul * key_of g l x ≡ (node_at ns n).lmul * key_of g l x + (node_at ns n).rmul * 0 = omega arith in z))
      all_keys e sl sr h zero (suc y) hx hy p =
          let k = right_key h y hy in
          let a = count_is ns n (kinds n s) general e in
          let b = k.low in
          (k.index, omega arith, word_key n (rw e tt) k.index ∙ k.is ∙ ap (λ (v : ℕ). (node_at ns n).rmul * v) (view r y sr hy) ∙ (let z : (node_at ns n).rmul * key_of g r y ≡ (node_at ns n).lmul * 0 + (node_at ns n).rmul * key_of g r y = omega arith in z))
      all_keys e sl sr h (suc x) (suc y) hx hy p =
          let k = sum_key h x y hx hy in
          let a = count_is ns n (kinds n s) general e in
          let b = k.low in
          (k.index, omega arith, word_key n (rw e tt) k.index ∙ k.is ∙ rw (view l x sl hx, view r y sr hy))

      go : (q : Kind) → kind_of (node_at ns n).kind ≡ q → NodeOk (tab_of g σ) n q
      go leaf e =
          let place = leaf_low t n s (word_is ns n (kinds n s) leaf e) in
          let f = t.input (node_at ns n).first place in
          let z = get_or ins (node_at ns n).first (pos 0) in
          record {
            count_is = count_is ns n (kinds n s) leaf e;
            key_is = rw e;
            nonzero = rw e (nz_of z f.some);
            below = rw e (let a = var_is z in let b = f.low in omega arith);
          }
      go dummy e = count_is ns n (kinds n s) dummy e
      go unit e =
          let (f, h) = unit_at n s e in
          let a = count_is ns n (kinds n s) unit e in
          record {
            hl = f.left_low;
            hr = f.right_low;
            lmul_is = h.lmul;
            rmul_is = h.rmul;
            left_kind = not_general (node_at ns l).kind h.left_plain;
            right_kind = not_general (node_at ns r).kind h.right_plain;
            count_is = a ∙ h.sum;
            key_is = λ j hj. word_key n (rw e tt) j ∙ h.key j (omega arith) ∙ (let z : j + 1 ≡ suc j = omega arith in z);
          }
      go general e =
          let (f, h) = general_at n s e in
          record { hl = f.left_low; hr = f.right_low; keys = all_keys e (omega (arith, f.left_low)) (omega (arith, f.right_low)) h }

  -- ---- the cells: no literal is negative

  pub plain : (k : ℕ) → k < c.cells → is_neg (get_or lits k (pos 0)) ≡ false
  plain k h = go (t.cell k h).lit
    where
      go : (get_or lits k (pos 0) ≡ pos 0) ⊎ Rattle.facts.specs.Facts.Held (get_or lits k (pos 0)) c.first c.next → is_neg (get_or lits k (pos 0)) ≡ false
      go (inl e) = ap is_neg e
      go (inr v) = ap is_neg v.is
