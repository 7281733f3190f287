-- The net that the words of a table show, what is asked of it, and the literals that a parent reads of a child.
use Rattle.std.specs.Prelude.{◌≡◌, false, List, ℕ, zero, suc, ◌+◌, ◌<◌, ◌≤◌, ℤ, pos, negsuc, nat_abs, length, get_or, take, drop}
use Rattle.std.proofs.Math.Path.{refl}
use Rattle.std.proofs.Common.{◌∙◌, ap, true≢false, length-take, length-drop, get_or-take, get_or-drop}
use Rattle.std.proofs.Math.Bool.{cond}
use native.Mathlib.Omega.{arith}
use Rattle.std.proofs.Math.Dec.{eqb}
use Rattle.paper.specs.Rows.{node_at, word_from, value_count, value_at, con_lits, is_neg}
use Rattle.paper.specs.Plain.{lit_at}
use Rattle.meaning.specs.Table.{Kind, leaf, dummy, unit, general, lit, Inner}
use Rattle.meaning.specs.Rows.{Net, State, tab_of, Good}
use Rattle.meaning.specs.View.{Fit, code_of, key_of, kind_of, net_of}

pub kind_word : (w : ℕ) → w ≤ 3 → (q : Kind) → kind_of w ≡ q → w ≡ code_of q
kind_word zero h q e = ap code_of e
kind_word (suc zero) h q e = ap code_of e
kind_word (suc (suc zero)) h q e = ap code_of e
kind_word (suc (suc (suc zero))) h q e = ap code_of e
kind_word (suc (suc (suc (suc k)))) h q e = absurd (let z : ⊥ = omega arith in z)

-- ---- the kind of a node, as the definitions of the paper test it

module _ (ns : List ℕ) (n : ℕ) (h : (node_at ns n).kind ≤ 3) where
  pub word_is : (q : Kind) → kind_of (node_at ns n).kind ≡ q → (node_at ns n).kind ≡ code_of q
  word_is q e = kind_word (node_at ns n).kind h q e

  -- the paper's test for the kind of number k
  pub test_is : (q : Kind) (k : ℕ) → kind_of (node_at ns n).kind ≡ q → eqb (node_at ns n).kind k ≡ eqb (code_of q) k
  test_is q k e = ap (λ (w : ℕ). eqb w k) (word_is q e)

  abbrev pub count_in : Kind → ℕ
  count_in leaf = 1
  count_in dummy = 0
  count_in unit = (node_at ns n).count
  count_in general = (node_at ns n).count

  pub count_is : (q : Kind) → kind_of (node_at ns n).kind ≡ q → value_count (node_at ns n) ≡ count_in q
  unfolding value_count
  count_is leaf e = rw (test_is leaf 0 e)
  count_is dummy e = rw (test_is dummy 0 e, test_is dummy 3 e)
  count_is unit e = rw (test_is unit 0 e, test_is unit 3 e)
  count_is general e = rw (test_is general 0 e, test_is general 3 e)

-- ---- a part of a row

pub part_length : {A : Type 0} (k f : ℕ) (l : List A) → (0 < k → f + k ≤ length l) → length (take k (drop f l)) ≡ k
part_length zero f l h = refl
part_length (suc k) f l h =
    let a = h (omega arith) in
    let b = length-take (suc k) (drop f l) in
    let c = length-drop f l in
    omega arith

pub part_at : {A : Type 0} (k f : ℕ) (l : List A) (p : ℕ) (d : A) → p < k → get_or (take k (drop f l)) p d ≡ get_or l (f + p) d
part_at k f l p d h = get_or-take k (drop f l) p d h ∙ get_or-drop f l p d

pub plain_pos : (z : ℤ) → is_neg z ≡ false → z ≡ pos (nat_abs z)
plain_pos (pos v) e = refl
plain_pos (negsuc v) e = absurd (true≢false e)

-- ---- the literals of a child

module _ (ns : List ℕ) (ins : List ℤ) (keys : List ℕ) (size from len : ℕ) (fit : Fit ns ins keys size from len) where
  abbrev net : Net
  net = net_of ns ins keys size from

  -- the value at an index is the key of the view
  pub value_is : (c : ℕ) → c < size → (p : ℕ) → p < value_count (node_at ns c) → value_at keys (node_at ns c) p ≡ key_of net c p
  unfolding value_at
  value_is c s p hp = go (kind_of (node_at ns c).kind) refl
    where
      go : (q : Kind) → kind_of (node_at ns c).kind ≡ q → cond (eqb (node_at ns c).kind 0) 1 (word_from keys (node_at ns c).first p) ≡ key_of net c p
      go leaf e = rw (test_is ns c (fit.kinds c s) leaf 0 e, e)
      go dummy e = let a = count_is ns c (fit.kinds c s) dummy e in absurd (let z : ⊥ = omega arith in z)
      go unit e = rw (test_is ns c (fit.kinds c s) unit 0 e, e)
      go general e = rw (test_is ns c (fit.kinds c s) general 0 e, e)

  module _ (σ : State) (good : Good net len σ) (c : ℕ) (s : c < size) where
    inner_room : Inner (kind_of (node_at ns c).kind) → (k : ℕ) → value_count (node_at ns c) ≡ k → 0 < k → (node_at ns c).first + k ≤ length σ.lits
    inner_room i zero e h = absurd (let z : ⊥ = omega arith in z)
    inner_room i (suc k) e h = let a = fit.room.fits c k s (omega arith) i in let b = good.lits_len in omega arith

    pub lits_length : length (con_lits ns ins σ.lits c) ≡ value_count (node_at ns c)
    unfolding con_lits
    lits_length = go (kind_of (node_at ns c).kind) refl
      where
        w : (q : Kind) → kind_of (node_at ns c).kind ≡ q → eqb (node_at ns c).kind 0 ≡ eqb (code_of q) 0
        w q e = test_is ns c (fit.kinds c s) q 0 e

        go : (q : Kind) → kind_of (node_at ns c).kind ≡ q
            → length (cond (eqb (node_at ns c).kind 0) (take 1 (drop (node_at ns c).first ins)) (take (value_count (node_at ns c)) (drop (node_at ns c).first σ.lits))) ≡ value_count (node_at ns c)
        go leaf e =
            let a = fit.leaf_in c s (word_is ns c (fit.kinds c s) leaf e) in
            rw (count_is ns c (fit.kinds c s) leaf e, w leaf e) (part_length 1 (node_at ns c).first ins (λ h. omega arith))
        go dummy e = rw (count_is ns c (fit.kinds c s) dummy e, w dummy e)
        go unit e = rw (w unit e) (part_length (value_count (node_at ns c)) (node_at ns c).first σ.lits (inner_room (rw e tt) (value_count (node_at ns c)) refl))
        go general e = rw (w general e) (part_length (value_count (node_at ns c)) (node_at ns c).first σ.lits (inner_room (rw e tt) (value_count (node_at ns c)) refl))

    -- a cell's literal is its variable
    pub cell_lit_is : (j : ℕ) → j < value_count (node_at ns c) → Inner (kind_of (node_at ns c).kind) → get_or σ.lits ((node_at ns c).first + j) (pos 0) ≡ pos (nat_abs (get_or σ.lits ((node_at ns c).first + j) (pos 0)))
    cell_lit_is j hj i = plain_pos (get_or σ.lits ((node_at ns c).first + j) (pos 0)) (good.plain ((node_at ns c).first + j) (fit.room.fits c j s hj i))

    pub lits_at : (p : ℕ) → p < value_count (node_at ns c) → lit_at (con_lits ns ins σ.lits c) p ≡ lit (tab_of net σ) c p
    unfolding con_lits
    lits_at p hp = go (kind_of (node_at ns c).kind) refl
      where
        w : (q : Kind) → kind_of (node_at ns c).kind ≡ q → eqb (node_at ns c).kind 0 ≡ eqb (code_of q) 0
        w q e = test_is ns c (fit.kinds c s) q 0 e

        go : (q : Kind) → kind_of (node_at ns c).kind ≡ q
            → lit_at (cond (eqb (node_at ns c).kind 0) (take 1 (drop (node_at ns c).first ins)) (take (value_count (node_at ns c)) (drop (node_at ns c).first σ.lits))) p ≡ lit (tab_of net σ) c p
        go leaf e =
            let a = count_is ns c (fit.kinds c s) leaf e in
            let z : p ≡ 0 = omega arith in
            let y : (node_at ns c).first + 0 ≡ (node_at ns c).first = omega arith in
            rw (w leaf e, e, z) (part_at 1 (node_at ns c).first ins 0 (pos 0) (omega arith) ∙ ap (λ (f : ℕ). get_or ins f (pos 0)) y)
        go dummy e = let a = count_is ns c (fit.kinds c s) dummy e in absurd (let z : ⊥ = omega arith in z)
        go unit e = let i : Inner (kind_of (node_at ns c).kind) = rw e tt in rw (w unit e, e) (part_at (value_count (node_at ns c)) (node_at ns c).first σ.lits p (pos 0) hp ∙ cell_lit_is p hp i)
        go general e = let i : Inner (kind_of (node_at ns c).kind) = rw e tt in rw (w general e, e) (part_at (value_count (node_at ns c)) (node_at ns c).first σ.lits p (pos 0) hp ∙ cell_lit_is p hp i)
