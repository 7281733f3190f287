-- The value of a node under an assignment of all variables, by 01's rule; it is what the call `value` answers, and its equations.
use Rattle.std.specs.Prelude.{◌≡◌, Bool, true, false, not, cond, List, ℤ, pos, negsuc, get_or, eqb}
use Rattle.std.proofs.Math.Path.{refl, sym}
use Rattle.std.proofs.Common.{◌∙◌, ap, add-one}
use Prim.Native.Nat.{ℕ, zero, suc, ◌+◌, ◌*◌, ◌<◌}
use native.Mathlib.Omega.{arith}
use Rattle.paper.specs.Rows.{node_at, is_leaf, is_dummy}
use Rattle.paper.specs.Upkeep.{byte_at, truth_of, worth_of, value_of}
use Rattle.paper.specs.declared.Node.{Node}
use Rattle.meaning.specs.Base.{litv}
use Rattle.meaning.specs.Table.{Kind, leaf, dummy, unit, general, Tab, NodeOk, Shape, bit, ValueOf, Values}
use Rattle.meaning.proofs.Sound.{strong}
use Rattle.meaning.specs.Rows.{Net, State, tab_of}
use Rattle.meaning.specs.View.{kind_of, net_of, Fit}
use Rattle.meaning.proofs.View.{test_is}
use Rattle.meaning.specs.Value.{assigned, sum_at, sum_under, worth_under}

truth_is : (a : List ℕ) (x : ℤ) → truth_of a x ≡ bit (litv (assigned a) x)
unfolding truth_of
truth_is a (pos v) = go (eqb (byte_at a v) 1)
  where
    go : (b : Bool) → cond b 1 0 ≡ bit b
    go true = refl
    go false = refl
truth_is a (negsuc v) = go (eqb (byte_at a (suc v)) 1)
  where
    go : (b : Bool) → cond b 0 1 ≡ bit (not b)
    go true = refl
    go false = refl

-- the call `value` on the bytes a answers the sum under the assignment that they are
pub value_is : (f : ℕ) (ns : List ℕ) (ins : List ℤ) (a : List ℕ) (n : ℕ) → value_of f ns ins a n ≡ sum_under f ns ins (litv (assigned a)) n
unfolding value_of sum_under worth_of worth_under
value_is zero ns ins a n = refl
value_is (suc f) ns ins a n =
    rw (truth_is a (get_or ins (node_at ns n).first (pos 0)), value_is f ns ins a (node_at ns n).left, value_is f ns ins a (node_at ns n).right)

-- ---- its equations

module _ (ns : List ℕ) (ins : List ℤ) (keys : List ℕ) (size from len : ℕ) (fit : Fit ns ins keys size from len) (σ : State)
    (shape : Shape (tab_of (net_of ns ins keys size from) σ)) (b : ℤ → Bool) where
  abbrev g : Net
  g = net_of ns ins keys size from

  -- the rule of a node, by its kind
  abbrev worth_by : Kind → ℕ → ℕ → ℕ → ℕ
  worth_by leaf n l r = bit (b (get_or ins (node_at ns n).first (pos 0)))
  worth_by dummy n l r = 0
  worth_by unit n l r = (node_at ns n).lmul * l + (node_at ns n).rmul * r
  worth_by general n l r = (node_at ns n).lmul * l + (node_at ns n).rmul * r

  worth_is : (n : ℕ) → n < size → (q : Kind) → kind_of (node_at ns n).kind ≡ q → (l r : ℕ) → worth_under (node_at ns n) ins b l r ≡ worth_by q n l r
  unfolding worth_under
  worth_is n s leaf e l r = rw (test_is ns n (fit.kinds n s) leaf 0 e)
  worth_is n s dummy e l r = rw (test_is ns n (fit.kinds n s) dummy 0 e, test_is ns n (fit.kinds n s) dummy 3 e)
  worth_is n s unit e l r = rw (test_is ns n (fit.kinds n s) unit 0 e, test_is ns n (fit.kinds n s) unit 3 e)
  worth_is n s general e l r = rw (test_is ns n (fit.kinds n s) general 0 e, test_is ns n (fit.kinds n s) general 3 e)

  sum_fuel : (f h n : ℕ) → n < size → n < f → n < h → sum_under f ns ins b n ≡ sum_under h ns ins b n
  unfolding sum_under
  sum_fuel zero h n s hf hh = absurd (let z : ⊥ = omega arith in z)
  sum_fuel (suc f) zero n s hf hh = absurd (let z : ⊥ = omega arith in z)
  sum_fuel (suc f) (suc h) n s hf hh = go (λ c sc hc. sum_fuel f h c sc (omega arith) (omega arith)) (kind_of (node_at ns n).kind) refl (shape n s)
    where
      both : (q : Kind) → kind_of (node_at ns n).kind ≡ q → (l r l' r' : ℕ) → worth_by q n l r ≡ worth_by q n l' r'
          → worth_under (node_at ns n) ins b l r ≡ worth_under (node_at ns n) ins b l' r'
      both q e l r l' r' x = worth_is n s q e l r ∙ x ∙ sym (worth_is n s q e l' r')

      inner : (l r l' r' : ℕ) → l ≡ l' → r ≡ r' → (node_at ns n).lmul * l + (node_at ns n).rmul * r ≡ (node_at ns n).lmul * l' + (node_at ns n).rmul * r'
      inner l r l' r' x y = rw (x, y)

      go : ((c : ℕ) → c < size → c < n → sum_under f ns ins b c ≡ sum_under h ns ins b c) → (q : Kind) → kind_of (node_at ns n).kind ≡ q → NodeOk (tab_of g σ) n q
          → worth_under (node_at ns n) ins b (sum_under f ns ins b (node_at ns n).left) (sum_under f ns ins b (node_at ns n).right)
          ≡ worth_under (node_at ns n) ins b (sum_under h ns ins b (node_at ns n).left) (sum_under h ns ins b (node_at ns n).right)
      go ih leaf e o = both leaf e _ _ _ _ refl
      go ih dummy e o = both dummy e _ _ _ _ refl
      go ih unit e o = both unit e _ _ _ _ (inner _ _ _ _ (ih (node_at ns n).left (omega (arith, o.hl)) o.hl) (ih (node_at ns n).right (omega (arith, o.hr)) o.hr))
      go ih general e o = both general e _ _ _ _ (inner _ _ _ _ (ih (node_at ns n).left (omega (arith, o.hl)) o.hl) (ih (node_at ns n).right (omega (arith, o.hr)) o.hr))

  sum_opens : (n : ℕ) → sum_at ns ins b n ≡ worth_under (node_at ns n) ins b (sum_under n ns ins b (node_at ns n).left) (sum_under n ns ins b (node_at ns n).right)
  unfolding sum_under
  sum_opens n = rw (add-one n)

  child : (n c : ℕ) → n < size → c < n → sum_under n ns ins b c ≡ sum_at ns ins b c
  child n c s h = sum_fuel n (c + 1) c (omega arith) h (omega arith)

  pub sums : Values (tab_of g σ) b (sum_at ns ins b)
  sums n s = go (kind_of (node_at ns n).kind) refl (shape n s)
    where
      inner : (l r l' r' : ℕ) → l ≡ l' → r ≡ r' → (node_at ns n).lmul * l + (node_at ns n).rmul * r ≡ (node_at ns n).lmul * l' + (node_at ns n).rmul * r'
      inner l r l' r' x y = rw (x, y)

      go : (q : Kind) → kind_of (node_at ns n).kind ≡ q → NodeOk (tab_of g σ) n q → ValueOf b (sum_at ns ins b) (g.node n) n q
      go leaf e o = sum_opens n ∙ worth_is n s leaf e _ _ ∙ rw e
      go dummy e o = sum_opens n ∙ worth_is n s dummy e _ _
      go unit e o =
          let x = sum_opens n ∙ worth_is n s unit e _ _ ∙ inner _ _ _ _ (child n (node_at ns n).left s o.hl) (child n (node_at ns n).right s o.hr) in
          x ∙ rw (o.lmul_is, o.rmul_is) (omega arith)
      go general e o = sum_opens n ∙ worth_is n s general e _ _ ∙ inner _ _ _ _ (child n (node_at ns n).left s o.hl) (child n (node_at ns n).right s o.hr)

-- ---- rows that read the same below the counts give the same sums

worth_alike : (n : Node) (ins ins' : List ℤ) (b : ℤ → Bool) (l r l' r' : ℕ) → (is_leaf n ≡ true → get_or ins' n.first (pos 0) ≡ get_or ins n.first (pos 0)) → l' ≡ l → r' ≡ r
    → worth_under n ins' b l' r' ≡ worth_under n ins b l r
unfolding worth_under
worth_alike n ins ins' b l r l' r' f x y = rw (x, y) (go (is_leaf n) refl)
  where
    go : (t : Bool) → is_leaf n ≡ t → cond t (bit (b (get_or ins' n.first (pos 0)))) (cond (is_dummy n) 0 (n.lmul * l + n.rmul * r)) ≡ cond t (bit (b (get_or ins n.first (pos 0)))) (cond (is_dummy n) 0 (n.lmul * l + n.rmul * r))
    go true e = ap (λ (z : ℤ). bit (b z)) (f e)
    go false e = refl

pub sum_alike : (ns ns' : List ℕ) (ins ins' : List ℤ) (size : ℕ) (b : ℤ → Bool) → ((n : ℕ) → n < size → node_at ns' n ≡ node_at ns n)
    → ((n : ℕ) → n < size → ((node_at ns n).left < size) × ((node_at ns n).right < size))
    → ((n : ℕ) → n < size → is_leaf (node_at ns n) ≡ true → get_or ins' (node_at ns n).first (pos 0) ≡ get_or ins (node_at ns n).first (pos 0))
    → (f n : ℕ) → n < size → sum_under f ns' ins' b n ≡ sum_under f ns ins b n
unfolding sum_under
sum_alike ns ns' ins ins' size b same there leaves zero n s = refl
sum_alike ns ns' ins ins' size b same there leaves (suc f) n s =
    let (hl, hr) = there n s in
    ap (λ (w : Node). worth_under w ins' b (sum_under f ns' ins' b w.left) (sum_under f ns' ins' b w.right)) (same n s)
    ∙ worth_alike (node_at ns n) ins ins' b _ _ _ _ (leaves n s) (sum_alike ns ns' ins ins' size b same there leaves f (node_at ns n).left hl)
    (sum_alike ns ns' ins ins' size b same there leaves f (node_at ns n).right hr)

-- values by the same literals are the same
pub values_unique : (t : Tab) → Shape t → (b : ℤ → Bool) (w v : ℕ → ℕ) → Values t b w → Values t b v → (n : ℕ) → n < t.size → w n ≡ v n
values_unique t shape b w v x y = strong (λ n. n < t.size → w n ≡ v n) (λ n ih s. go n ih s (t.node n).kind (shape n s) (x n s) (y n s))
  where
    go : (n : ℕ) → ((c : ℕ) → c < n → c < t.size → w c ≡ v c) → n < t.size → (k : Kind) → NodeOk t n k → ValueOf b w (t.node n) n k → ValueOf b v (t.node n) n k → w n ≡ v n
    go n ih s leaf o p q = p ∙ sym q
    go n ih s dummy o p q = p ∙ sym q
    go n ih s unit o p q =
        let l = ih (t.node n).left o.hl (omega (arith, o.hl)) in
        let r = ih (t.node n).right o.hr (omega (arith, o.hr)) in
        omega arith
    go n ih s general o p q = p ∙ rw (ih (t.node n).left o.hl (omega (arith, o.hl)), ih (t.node n).right o.hr (omega (arith, o.hr))) (sym q)
