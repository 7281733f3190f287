-- Two tables that read the same, and their marks: the invariant of one is that of the other.
use Rattle.std.specs.Prelude.{◌≡◌, refl, false, List, ℕ, suc, ◌+◌, ◌<◌, ◌≤◌, ℤ, pos, nat_abs, length, get_or}
use Rattle.std.proofs.Common.{sym, ◌∙◌, ap, inl, arith}
use Rattle.paper.specs.Rows.{node_at, value_count}
use Rattle.paper.specs.Plain.{mark_of, has_if, has_only}
use Rattle.paper.specs.declared.Node.{Node}
use Rattle.meaning.specs.Table.{Kind, leaf, dummy, unit, general, Dir, If, OnlyIf, Tab, Marks, Inner, NodeOk, History, Cells, Inv}
use Rattle.meaning.specs.Keep.{Ext}
use Rattle.meaning.proofs.Keep.{inv_step}
use Rattle.meaning.specs.Steps.{Added}
use Rattle.meaning.proofs.Steps.{shape_ext}
use Rattle.meaning.specs.Rows.{Net, State, held_in, tab_of, marks_of, has_mark, mark_in, Good}
use Rattle.meaning.proofs.Rows.{held_other, mark_other, key_other}
use Rattle.meaning.specs.View.{kind_of, input_of, node_of, net_of, Fit}
use Rattle.meaning.proofs.View.{word_is}
use Rattle.meaning.specs.Same.{Agrees, Alike}

module _ (t t' : Tab) (m m' : Marks) (h : History) (inv : Inv t m h) (a : Alike t t' m m') where
  alike_ext : Ext t t'
  alike_ext =
      record {
        size_le = omega (arith, a.size_is);
        node_is = a.node_is;
        key_is = a.key_is;
        held_is = λ n j s hj p. a.held_is n j s hj;
        from_is = a.from_is;
      }

  inside : (n : ℕ) → n < t'.size → n < t.size
  inside n s = omega (arith, a.size_is)

  of_count : (n j : ℕ) → n < t.size → j < (t'.node n).count → j < (t.node n).count
  of_count n j s h = rw (a.node_is n s) at h

  alike_cells : Cells t'
  alike_cells =
      let c = inv.cells in
      record {
        positive = omega (arith, c.positive, a.from_is);
        range = λ n j s hj p.
            let s' = inside n s in
            let hj' = of_count n j s' hj in
            let e = a.held_is n j s' hj' in
            let r = c.range n j s' hj' (omega arith) in
            let f = a.from_is in
            let x = a.next_is in
            (omega arith, omega arith);
        order = omega (arith, c.order, a.from_is, a.next_is);
        distinct = λ n j k i s hj sk hi p e.
            let s' = inside n s in
            let hj' = of_count n j s' hj in
            let sk' = inside k sk in
            let hi' = of_count k i sk' hi in
            let x = a.held_is n j s' hj' in
            let y = a.held_is k i sk' hi' in
            c.distinct n j k i s' hj' sk' hi' (omega arith) (omega arith);
      }

  pub inv_alike : Inv t' m' h
  inv_alike =
      inv_step t m h t' m' h inv (record {
        ext = alike_ext;
        shape = λ n s. let s' = inside n s in rw (a.node_is n s') (shape_ext t t' alike_ext n s' (t.node n).kind (inv.shape n s'));
        cells = alike_cells;
        sub = λ c mem. mem;
        new = λ c mem. inl mem;
        kept = λ d n j s hj q. a.marks_are d n j s hj ∙ q;
        marks = λ d n j s hj q. let s' = inside n s in inl (s', sym (a.marks_are d n j s' (of_count n j s' hj)) ∙ q);
      })

-- ---- cells without literal or mark

pub held_zero : (k : Kind) (v : ℕ) → (Inner k → v ≡ 0) → held_in k v ≡ 0
held_zero leaf v h = refl
held_zero dummy v h = refl
held_zero unit v h = h tt
held_zero general v h = h tt

none_marked : (d : Dir) → has_mark d 0 ≡ false
unfolding mark_of has_if has_only
none_marked If = refl
none_marked OnlyIf = refl

pub mark_zero : (k : Kind) (d : Dir) (v : ℕ) → (Inner k → v ≡ 0) → mark_in k d v ≡ false
mark_zero leaf d v h = refl
mark_zero dummy d v h = refl
mark_zero unit d v h = ap (has_mark d) (h tt) ∙ none_marked d
mark_zero general d v h = ap (has_mark d) (h tt) ∙ none_marked d

pub node_alike : (ns ns' : List ℕ) (ins ins' : List ℤ) (n : ℕ) → node_at ns' n ≡ node_at ns n
    → (kind_of (node_at ns n).kind ≡ leaf → get_or ins' (node_at ns n).first (pos 0) ≡ get_or ins (node_at ns n).first (pos 0)) → node_of ns' ins' n ≡ node_of ns ins n
node_alike ns ns' ins ins' n e f =
    ap (λ (w : Node). record {
      kind = kind_of w.kind;
      input = input_of (kind_of w.kind) (get_or ins' w.first (pos 0));
      left = w.left;
      lmul = w.lmul;
      right = w.right;
      rmul = w.rmul;
      count = value_count w;
    }) e
    ∙ ap (λ (z : ℤ). record {
      kind = kind_of (node_at ns n).kind;
      input = z;
      left = (node_at ns n).left;
      lmul = (node_at ns n).lmul;
      right = (node_at ns n).right;
      rmul = (node_at ns n).rmul;
      count = value_count (node_at ns n);
    }) (input_same (kind_of (node_at ns n).kind) refl)
  where
    input_same : (q : Kind) → kind_of (node_at ns n).kind ≡ q → input_of (kind_of (node_at ns n).kind) (get_or ins' (node_at ns n).first (pos 0)) ≡ input_of (kind_of (node_at ns n).kind) (get_or ins (node_at ns n).first (pos 0))
    input_same leaf q = ap (input_of (kind_of (node_at ns n).kind)) (f q)
    input_same dummy q = rw q
    input_same unit q = rw q
    input_same general q = rw q

module _ (ns ns' : List ℕ) (ins ins' : List ℤ) (keys keys' : List ℕ) (size from len inputs : ℕ) (fit : Fit ns ins keys size from len)
    (σ σ' : State) (hn : (n : ℕ) → n < size → node_at ns' n ≡ node_at ns n)
    (hf : (n : ℕ) → n < size → (node_at ns n).kind ≡ 0 → (node_at ns n).first < inputs) (hi : Agrees inputs (pos 0) ins' ins) (hk : Agrees len 0 keys' keys)
    (hl : Agrees len (pos 0) σ'.lits σ.lits) (hm : Agrees len 0 σ'.marks σ.marks) (hx : σ'.next ≡ σ.next) where
  abbrev g : Net
  g = net_of ns ins keys size from

  abbrev g' : Net
  g' = net_of ns' ins' keys' size from

  node_same : (n : ℕ) → n < size → node_of ns' ins' n ≡ node_of ns ins n
  node_same n s = node_alike ns ns' ins ins' n (hn n s) (λ e. hi (node_at ns n).first (hf n s (word_is ns n (fit.kinds n s) leaf e)))

  first_same : (n : ℕ) → n < size → (node_at ns' n).first ≡ (node_at ns n).first
  first_same n s = ap (λ (w : Node). w.first) (hn n s)

  kind_same : (n : ℕ) → n < size → kind_of (node_at ns' n).kind ≡ kind_of (node_at ns n).kind
  kind_same n s = ap (λ (w : Node). kind_of w.kind) (hn n s)

  pub rows_alike : Alike (tab_of g σ) (tab_of g' σ') (marks_of g σ) (marks_of g' σ')
  rows_alike =
      record {
        size_is = refl;
        node_is = node_same;
        key_is = λ n j s hj. rw (kind_same n s, first_same n s) (key_other (kind_of (node_at ns n).kind) _ _ (λ i. hk ((node_at ns n).first + j) (fit.room.fits n j s hj i)));
        held_is = λ n j s hj. rw (kind_same n s, first_same n s) (held_other (kind_of (node_at ns n).kind) _ _ (λ i. ap nat_abs (hl ((node_at ns n).first + j) (fit.room.fits n j s hj i))));
        from_is = refl;
        next_is = hx;
        marks_are = λ d n j s hj. rw (kind_same n s, first_same n s) (mark_other (kind_of (node_at ns n).kind) d _ _ (λ i. hm ((node_at ns n).first + j) (fit.room.fits n j s hj i)));
      }

  pub rows_good : Good g len σ → σ'.out ≡ σ.out → len ≤ length σ'.lits → len ≤ length σ'.marks → Good g' len σ'
  rows_good good e ll lm =
      record {
        lits_len = ll;
        marks_len = lm;
        plain = λ c h. rw (hl c h) (good.plain c h);
        inv = rw e (inv_alike (tab_of g σ) (tab_of g' σ') (marks_of g σ) (marks_of g' σ') σ.out good.inv rows_alike);
      }

  -- one node more: what stands below the counts is as it was, and its own cells have no literal and no mark
  module _ (more : ℕ) (em : more ≡ suc size) where
    abbrev g⁺ : Net
    g⁺ = net_of ns' ins' keys' more from

    pub rows_added : NodeOk (tab_of g⁺ σ') size (kind_of (node_at ns' size).kind)
        → ((j : ℕ) → j < value_count (node_at ns' size) → Inner (kind_of (node_at ns' size).kind) → get_or σ'.lits ((node_at ns' size).first + j) (pos 0) ≡ pos 0)
        → ((j : ℕ) → j < value_count (node_at ns' size) → Inner (kind_of (node_at ns' size).kind) → get_or σ'.marks ((node_at ns' size).first + j) 0 ≡ 0)
        → Added (tab_of g σ) (tab_of g⁺ σ') (marks_of g σ) (marks_of g⁺ σ')
    rows_added ok lits marks =
        let a = rows_alike in
        record {
          size_is = em;
          node_is = a.node_is;
          key_is = a.key_is;
          held_is = a.held_is;
          from_is = refl;
          next_is = hx;
          ok = ok;
          empty = λ i hi. held_zero (kind_of (node_at ns' size).kind) _ (λ q. ap nat_abs (lits i hi q));
          marks_is = a.marks_are;
          unmarked = λ d i hi. mark_zero (kind_of (node_at ns' size).kind) d _ (marks i hi);
        }
