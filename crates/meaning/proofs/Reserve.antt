-- Reserve keeps the invariant: each place that it gives a variable to is a cell of an inner node.
use Rattle.std.specs.Prelude.{◌≡◌, cond, ◌⊎◌, ℤ, eqb}
use Rattle.std.proofs.Math.Path.{refl, subst}
use Rattle.std.proofs.Common.{sym, inl, inr}
use mathlib.Core.List.Memᴰ
use mathlib.Core.List.{List, [], ◌∷◌, ◌++◌, Memᴰ}
use Prim.Native.Nat.{ℕ, zero, suc, ◌+◌, ◌<◌}
use native.Mathlib.Omega.{arith}
use Rattle.paper.specs.Rows.{node_at, value_count}
use Rattle.paper.specs.Upkeep.{give, give_all, cells_from, places_of}
use Rattle.meaning.specs.Table.{Kind, leaf, dummy, unit, general, Inner, NodeOk, Shape}
use Rattle.meaning.specs.Rows.{Net, State, tab_of, Good, Grow, ensure}
use Rattle.meaning.proofs.Rows.{grow_refl, grow_trans, ensure_good}
use Rattle.meaning.specs.View.{kind_of, net_of, Fit}
use Rattle.meaning.proofs.View.{test_is, count_is}
use Rattle.meaning.specs.Reserve.{CellAt, Kept, ensure_all, stock_of}

pub give_is : (ps : List ℕ) (σ : State) → give_all ps (stock_of σ) ≡ stock_of (ensure_all ps σ)
unfolding give_all give ensure_all ensure
give_is [] σ = refl
give_is (p ∷ ps) σ = give_is ps (ensure σ p)

pub all_rest : (ps : List ℕ) (σ : State) → ((ensure_all ps σ).marks ≡ σ.marks) × ((ensure_all ps σ).out ≡ σ.out)
unfolding ensure_all ensure
all_rest [] σ = (refl, refl)
all_rest (p ∷ ps) σ = all_rest ps (ensure σ p)

module _ (ns : List ℕ) (ins : List ℤ) (keys : List ℕ) (size from len : ℕ) (fit : Fit ns ins keys size from len) where
  abbrev g : Net
  g = net_of ns ins keys size from

  pub all_good : (ps : List ℕ) (σ : State) → Good g len σ → ((p : ℕ) → Memᴰ p ps → CellAt g p) → Kept g len σ (ensure_all ps σ)
  unfolding ensure_all
  all_good [] σ good f = record { good = good; grow = grow_refl g σ }
  all_good (p ∷ ps) σ good f =
      let c = f p (Memᴰ.head refl) in
      let a = ensure_good g len fit.room σ c.id c.index good c.hn c.hj c.inner in
      let e = c.is in
      let gd : Good g len (ensure σ p) = subst (λ (q : ℕ). Good g len (ensure σ q)) (sym e) a.good in
      let gw : Grow g σ (ensure σ p) = subst (λ (q : ℕ). Grow g σ (ensure σ q)) (sym e) a.grow in
      let b = all_good ps (ensure σ p) gd (λ q m. f q (Memᴰ.tail m)) in
      record { good = b.good; grow = grow_trans g σ (ensure σ p) (ensure_all ps (ensure σ p)) gw b.grow }

  from_place : (k n p : ℕ) → Memᴰ p (cells_from k n) → (j : ℕ) × (j < n) × (p ≡ k + j)
  unfolding cells_from
  from_place k zero p m = absurd (Memᴰ.not-nil m)
  from_place k (suc n) p m = go (from_place (k + 1) n p) (Memᴰ.cases_cons m)
    where
      go : (Memᴰ p (cells_from (k + 1) n) → (j : ℕ) × (j < n) × (p ≡ k + 1 + j)) → (p ≡ k) ⊎ Memᴰ p (cells_from (k + 1) n) → (j : ℕ) × (j < suc n) × (p ≡ k + j)
      go ih (inl e) = (0, omega arith, omega arith)
      go ih (inr q) = let r = ih q in let a = r.1 in let b = r.2 in (suc r.0, omega arith, omega arith)

  -- every place of reserve is a cell
  pub places_cells : (σ : State) → Shape (tab_of g σ) → (f id : ℕ) → id < size → (p : ℕ) → Memᴰ p (places_of f ns id) → CellAt g p
  unfolding places_of
  places_cells σ shape zero id s p m = absurd (Memᴰ.not-nil m)
  places_cells σ shape (suc f) id s p m = go (λ c sc. places_cells σ shape f c sc p) (kind_of (node_at ns id).kind) refl (shape id s) m
    where
      l : ℕ
      l = (node_at ns id).left

      r : ℕ
      r = (node_at ns id).right

      own : (c : ℕ) → value_count (node_at ns id) ≡ c → Inner (kind_of (node_at ns id).kind) → Memᴰ p (cells_from (node_at ns id).first c) → CellAt g p
      own c ec i q = let w = from_place (node_at ns id).first c p q in let a = w.1 in record { id = id; index = w.0; hn = s; hj = omega arith; inner = i; is = w.2 }

      both : ((c : ℕ) → c < size → Memᴰ p (places_of f ns c) → CellAt g p) → l < size → r < size → value_count (node_at ns id) ≡ (node_at ns id).count → Inner (kind_of (node_at ns id).kind)
          → Memᴰ p ((places_of f ns l ++ places_of f ns r) ++ cells_from (node_at ns id).first (node_at ns id).count) → CellAt g p
      both ih sl sr ec i q = outer (Memᴰ.append_cases (places_of f ns l ++ places_of f ns r) q)
        where
          kids : Memᴰ p (places_of f ns l) ⊎ Memᴰ p (places_of f ns r) → CellAt g p
          kids (inl x) = ih l sl x
          kids (inr x) = ih r sr x

          outer : Memᴰ p (places_of f ns l ++ places_of f ns r) ⊎ Memᴰ p (cells_from (node_at ns id).first (node_at ns id).count) → CellAt g p
          outer (inl x) = kids (Memᴰ.append_cases (places_of f ns l) x)
          outer (inr x) = own (node_at ns id).count ec i x

      go : ((c : ℕ) → c < size → Memᴰ p (places_of f ns c) → CellAt g p) → (q : Kind) → kind_of (node_at ns id).kind ≡ q → NodeOk (tab_of g σ) id q
          → Memᴰ p (cond (eqb (node_at ns id).kind 0) [] (cond (eqb (node_at ns id).kind 3) [] ((places_of f ns l ++ places_of f ns r) ++ cells_from (node_at ns id).first (node_at ns id).count))) → CellAt g p
      go ih leaf e o = rw (test_is ns id (fit.kinds id s) leaf 0 e) (λ q. absurd (Memᴰ.not-nil q))
      go ih dummy e o = rw (test_is ns id (fit.kinds id s) dummy 0 e, test_is ns id (fit.kinds id s) dummy 3 e) (λ q. absurd (Memᴰ.not-nil q))
      go ih unit e o = rw (test_is ns id (fit.kinds id s) unit 0 e, test_is ns id (fit.kinds id s) unit 3 e) (both ih (omega (arith, o.hl)) (omega (arith, o.hr)) (count_is ns id (fit.kinds id s) unit e) (rw e tt))
      go ih general e o = rw (test_is ns id (fit.kinds id s) general 0 e, test_is ns id (fit.kinds id s) general 3 e) (both ih (omega (arith, o.hl)) (omega (arith, o.hr)) (count_is ns id (fit.kinds id s) general e) (rw e tt))
