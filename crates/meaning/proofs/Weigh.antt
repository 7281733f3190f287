-- The plain run of a weighted demand keeps the invariant, and what was asked is done.
use Rattle.std.proofs.Math.Path.{◌≡◌, refl}
use Rattle.std.proofs.Common.{sym, ◌∙◌, ap, subst, true≢false, inl, inr, eqb-true, ne_eqb}
use Rattle.std.specs.Prelude.{Bool, false, cond, List, [], ◌∷◌, ◌++◌, ◌⊎◌, ℤ, pos, get_or, eqb}
use Rattle.std.proofs.Math.Bool.{true}
use mathlib.Core.List.Memᴰ
use Prim.Native.Nat.{ℕ, zero, suc, ◌+◌, ◌-◌, ◌<◌, ◌≤◌}
use Rattle.std.proofs.Math.Decide.{ℕ_discrete}
use native.Mathlib.Omega.{arith}
use Rattle.std.proofs.lemmas.Bool.{eqb-false}
use Rattle.paper.specs.Span.{over}
use Rattle.paper.specs.Rows.{node_at, value_count, con_lits}
use Rattle.paper.specs.Plain.{lit_at, if_clause, just_if, define, mark_of, has_if, has_only}
use Rattle.paper.specs.Weighted.{way_of, turns_of, job_of, take_lit_at, mark_at, emit_way, clause_at, link_of, links_of, do_of, weigh}
use Rattle.paper.specs.declared.Way.{Way}
use Rattle.paper.specs.declared.Job.{Job}
use Rattle.paper.specs.declared.Job.TheVariants.{Nothing, Count, Sum}
use Rattle.paper.specs.declared.Mark.TheVariants.{Unmarked, MarkedIf, MarkedOnlyIf, MarkedBoth}
use Rattle.meaning.specs.Base.{AtPrev, prev}
use Rattle.meaning.proofs.Base.{same_refl, in_of, in_sub}
use Rattle.meaning.specs.Table.{Kind, leaf, dummy, unit, general, Dir, If, OnlyIf, lit, Done, key_at, Inner, IfPair, if_of, GeneralOk, NodeOk, ClosedIf, Closed, Own, own_if}
use Rattle.meaning.proofs.Keep.{if_ext, at_done_held}
use Rattle.meaning.specs.Rows.{Net, State, tab_of, marks_of, has_mark, Good, Grow, ensure, put, append}
use Rattle.meaning.proofs.Rows.{grow_refl, grow_trans, held_inner, mark_inner, ensure_good, still_prev, done_of_true, put_at, put_grow, put_good, append_good, append_grow}
use Rattle.meaning.specs.View.{kind_of, net_of, key_of, Sharp, Fit}
use Rattle.meaning.proofs.View.{test_is, count_is, lits_at, cell_lit_is}
use Rattle.meaning.specs.Emit.{gather, lits_in}
use Rattle.meaning.proofs.Emit.{if_lits}
use Rattle.meaning.proofs.Asked.{leaf_done}
use Rattle.meaning.proofs.Run.{define_good}
use Rattle.meaning.proofs.Ways.{way_fair, way_all}
use Rattle.meaning.specs.Weigh.{Placed, Rec1, RecOk1}

-- the mark of a general output: not OnlyIf, so If if any
one_if : has_mark If 1 ≡ true
unfolding mark_of has_if
one_if = refl

one_only : has_mark OnlyIf 1 ≡ false
unfolding mark_of has_only
one_only = refl

some_mark : (m : ℕ) → eqb m 0 ≡ false → has_mark OnlyIf m ≡ false → has_mark If m ≡ true
unfolding mark_of has_if has_only
some_mark m e = go (eqb m 1) (eqb m 2)
  where
    go : (a b : Bool) → has_only (cond (eqb m 0) Unmarked (cond a MarkedIf (cond b MarkedOnlyIf MarkedBoth))) ≡ false → has_if (cond (eqb m 0) Unmarked (cond a MarkedIf (cond b MarkedOnlyIf MarkedBoth))) ≡ true
    go true b = rw e (λ h. refl)
    go false true = rw e (λ h. absurd (true≢false h))
    go false false = rw e (λ h. refl)

module _ (ns : List ℕ) (ins : List ℤ) (keys : List ℕ) (size from len : ℕ) (fit : Fit ns ins keys size from len) (sharp : Sharp (net_of ns ins keys size from)) where
  abbrev g : Net
  g = net_of ns ins keys size from

  module _ (n j : ℕ) (s : n < size) (k : kind_of (node_at ns n).kind ≡ general) (hj : j < value_count (node_at ns n)) (hl : (node_at ns n).left < n) (hr : (node_at ns n).right < n) where
    abbrev at : ℕ
    at = (node_at ns n).first + j

    abbrev Settled : State → ℕ → ℕ → Type 0
    Settled σ x y = ClosedIf (tab_of g σ) (marks_of g σ) σ.out n j x y

    inner_g : Inner (kind_of (node_at ns n).kind)
    inner_g = rw k tt

    pair_of : (σ ρ : State) (x y : ℕ) → IfPair (tab_of g σ) n j x y → IfPair (tab_of g ρ) n j x y
    pair_of σ ρ x y pr =
        record { hx = pr.hx; hy = pr.hy; sum = rw (key_same ρ σ (node_at ns n).left x, key_same ρ σ (node_at ns n).right y) pr.sum }
      where
        key_same : (τ υ : State) (c z : ℕ) → key_at (tab_of g τ) c z ≡ key_at (tab_of g υ) c z
        key_same τ υ c zero = refl
        key_same τ υ c (suc z) = refl

    held_grow : (σ ρ : State) → Grow g σ ρ → 0 < (tab_of g σ).held n j → 0 < (tab_of g ρ).held n j
    held_grow σ ρ w p = rw (w.ext.held_is n j s hj p) p

    settled_grow : (σ ρ : State) → Good g len σ → 0 < (tab_of g σ).held n j → Grow g σ ρ → (x y : ℕ) → IfPair (tab_of g σ) n j x y → Settled σ x y → Settled ρ x y
    settled_grow σ ρ good p w x y pr c =
        let t = tab_of g σ in
        let l = (node_at ns n).left in
        let r = (node_at ns n).right in
        let lh = at_done_held t (marks_of g σ) σ.out good.inv If l x (omega arith) pr.hx c.ldone in
        let rh = at_done_held t (marks_of g σ) σ.out good.inv If r y (omega arith) pr.hy c.rdone in
        record {
          there = rw (if_ext t (tab_of g ρ) w.ext n j x y s hj p (hl, hr) pr lh rh) (in_sub (if_of t n j x y) σ.out ρ.out w.sub c.there);
          ldone = still_prev g σ ρ ρ w If l x (omega arith) pr.hx c.ldone;
          rdone = still_prev g σ ρ ρ w If r y (omega arith) pr.hy c.rdone;
        }

    record Part (Q : State → Type 0) (σ σ' : State) : Type 0 where
      good : Good g len σ'
      held : 0 < (tab_of g σ').held n j
      grow : Grow g σ σ'
      fact : Q σ'

    -- one own clause is appended
    clause_good : (x y : ℕ) (τ : State) → Good g len τ → 0 < (tab_of g τ).held n j → IfPair (tab_of g τ) n j x y
        → AtPrev (Done (tab_of g τ) (marks_of g τ) If (node_at ns n).left) x → AtPrev (Done (tab_of g τ) (marks_of g τ) If (node_at ns n).right) y
        → Part (λ ρ. Settled ρ x y) τ (append τ (if_of (tab_of g τ) n j x y ∷ []))
    unfolding append
    clause_good x y τ good p pr ld rd =
        let t = tab_of g τ in
        let m = marks_of g τ in
        let c = if_of t n j x y in
        let own : Own t c = own_if n j x y (record { hn = s; hj = hj; inner = inner_g; held = p }) (record {
          pair = pr;
          lheld = at_done_held t m τ.out good.inv If (node_at ns n).left x (omega arith) pr.hx ld;
          rheld = at_done_held t m τ.out good.inv If (node_at ns n).right y (omega arith) pr.hy rd;
          is = same_refl c;
        }) in
        record {
          good = append_good g len τ (c ∷ []) good (λ b mem. rw (Memᴰ.eq_of_singleton mem) own);
          held = p;
          grow = append_grow g τ (c ∷ []);
          fact = record { there = in_of c _ (Memᴰ.append_right τ.out (Memᴰ.head refl)); ldone = ld; rdone = rd };
        }

    prev_of : (P : ℕ → Type 0) (a x : ℕ) → x ≤ a → ((p : ℕ) → p < a → P p) → AtPrev P x
    prev_of P a zero h f = tt
    prev_of P a (suc p) h f = f p h

    -- the clause that the run appends for a way is the own clause of the pair
    clause_is : (x y : ℕ) (τ : State) → Good g len τ → IfPair (tab_of g τ) n j x y
        → lits_in (if_clause (con_lits ns ins τ.lits (node_at ns n).left) (con_lits ns ins τ.lits (node_at ns n).right) x y (lit_at τ.lits at)) ≡ if_of (tab_of g τ) n j x y
    clause_is x y τ good pr =
        let l = (node_at ns n).left in
        let r = (node_at ns n).right in
        let o : lit_at τ.lits at ≡ pos ((tab_of g τ).held n j) = cell_lit_is ns ins keys size from len fit τ good n s j hj inner_g ∙ sym (ap pos (held_inner (kind_of (node_at ns n).kind) _ inner_g)) in
        if_lits (con_lits ns ins τ.lits l) (con_lits ns ins τ.lits r) (lit (tab_of g τ) l) (lit (tab_of g τ) r) (lit_at τ.lits at) x y
        (prev_of _ (value_count (node_at ns l)) x pr.hx (lits_at ns ins keys size from len fit τ good l (omega arith)))
        (prev_of _ (value_count (node_at ns r)) y pr.hy (lits_at ns ins keys size from len fit τ good r (omega arith)))
        ∙ ap (λ (z : ℤ). prev x (lit (tab_of g τ) l) (prev y (lit (tab_of g τ) r) (z ∷ []))) o

    module _ (r : Rec1) (ok : RecOk1 g len r n) where
      -- the pair of a way is settled, if it is one
      abbrev Made : Way → State → Type 0
      Made w ρ = 0 < w.x + w.y → Settled ρ w.x w.y

      link_good : (w : Way) (τ : State) → Good g len τ → 0 < (tab_of g τ).held n j → (w.x + w.y ≡ 0) ⊎ IfPair (tab_of g τ) n j w.x w.y
          → Part (Made w) τ (link_of gather r ns ins n at w τ)
      unfolding link_of clause_at emit_way append
      link_good w τ good h fair = go (eqb (w.x + w.y) 0) refl fair
        where
          l : ℕ
          l = (node_at ns n).left

          q : ℕ
          q = (node_at ns n).right

          none : State → State
          none υ = record { lits = υ.lits; marks = υ.marks; next = υ.next; out = υ.out }

          some : State → State
          some υ =
              record {
                lits = υ.lits;
                marks = υ.marks;
                next = υ.next;
                out = gather υ.out (if_clause (con_lits ns ins υ.lits l) (con_lits ns ins υ.lits q) w.x w.y (lit_at υ.lits at));
              }

          ways : (x y : ℕ) → (x + y ≡ 0) ⊎ IfPair (tab_of g τ) n j x y → (x ≤ value_count (node_at ns l)) × (y ≤ value_count (node_at ns q))
          ways x y (inl e) = (omega arith, omega arith)
          ways x y (inr pr) = (pr.hx, pr.hy)

          ρ : State
          ρ = r q w.y τ

          a : Placed g len τ ρ q w.y
          a = ok q hr τ good w.y (ways w.x w.y fair).1

          υ : State
          υ = r l w.x ρ

          b : Placed g len ρ υ l w.x
          b = ok l hl ρ a.good w.x (ways w.x w.y fair).0

          gr : Grow g τ υ
          gr = grow_trans g τ ρ υ a.grow b.grow

          go : (e : Bool) → eqb (w.x + w.y) 0 ≡ e → (w.x + w.y ≡ 0) ⊎ IfPair (tab_of g τ) n j w.x w.y
              → Part (Made w) τ (record {
                lits = υ.lits;
                marks = υ.marks;
                next = υ.next;
                out = cond e υ.out (gather υ.out (if_clause (con_lits ns ins υ.lits l) (con_lits ns ins υ.lits q) w.x w.y (lit_at υ.lits at)));
              })
          go true e f = record { good = b.good; held = held_grow τ υ gr h; grow = gr; fact = λ p. absurd (let z = eqb-true (w.x + w.y) 0 e in let y : ⊥ = omega arith in y) }
          go false e (inl z) = absurd (eqb-false (w.x + w.y) 0 e z)
          go false e (inr pr) =
              let pr' = pair_of τ υ w.x w.y pr in
              let c = clause_good w.x w.y υ b.good (held_grow τ υ gr h) pr' b.done
              (still_prev g ρ υ υ b.grow If q w.y (omega arith) pr.hy a.done) in
              let ω = append υ (if_of (tab_of g υ) n j w.x w.y ∷ []) in
              let is : some υ ≡ ω = ap (λ (z : List ℤ). record { lits = υ.lits; marks = υ.marks; next = υ.next; out = υ.out ++ (z ∷ []) }) (clause_is w.x w.y υ b.good pr') in
              subst (λ (ψ : State). Part (Made w) τ ψ) (sym is)
              (record { good = c.good; held = c.held; grow = grow_trans g τ υ ω gr c.grow; fact = λ p. c.fact })

      -- all ways from p on, c of them
      abbrev v : ℕ
      v = key_of g n j

      abbrev turn : ℕ → State → State
      turn p τ = link_of gather r ns ins n at (way_of ns keys n v p) τ

      links_good : (c p : ℕ) (τ : State) → Good g len τ → 0 < (tab_of g τ).held n j
          → Part (λ ρ. (q : ℕ) → p ≤ q → q < p + c → Made (way_of ns keys n v q) ρ) τ (over c turn p τ)
      unfolding over
      links_good zero p τ good h = record { good = good; held = h; grow = grow_refl g τ; fact = λ q x y. absurd (let z : ⊥ = omega arith in z) }
      links_good (suc c) p τ good h =
          let ρ = turn p τ in
          let x = link_good (way_of ns keys n v p) τ good h (way_fair ns ins keys size from len fit sharp τ good.inv.shape n j s k hj hl hr p) in
          let y = links_good c (p + 1) ρ x.good x.held in
          let υ = over c turn (p + 1) ρ in
          record {
            good = y.good;
            held = y.held;
            grow = grow_trans g τ ρ υ x.grow y.grow;
            fact = λ q lo up. pick q lo up x.good x.held y.grow x.fact y.fact (ℕ_discrete q p);
          }
        where
          pick : (q : ℕ) → p ≤ q → q < p + suc c → Good g len (turn p τ) → 0 < (tab_of g (turn p τ)).held n j → Grow g (turn p τ) (over c turn (p + 1) (turn p τ))
              → Made (way_of ns keys n v p) (turn p τ) → ((q : ℕ) → p + 1 ≤ q → q < p + 1 + c → Made (way_of ns keys n v q) (over c turn (p + 1) (turn p τ)))
              → Dec (q ≡ p) → Made (way_of ns keys n v q) (over c turn (p + 1) (turn p τ))
          pick q lo up gd hd w this rest (yes e) = rw e (λ z.
              settled_grow (turn p τ) (over c turn (p + 1) (turn p τ)) gd hd w (way_of ns keys n v p).x (way_of ns keys n v p).y
              (some_pair (way_fair ns ins keys size from len fit sharp (turn p τ) gd.inv.shape n j s k hj hl hr p) z) (this z))
            where
              some_pair : ((way_of ns keys n v p).x + (way_of ns keys n v p).y ≡ 0) ⊎ IfPair (tab_of g (turn p τ)) n j (way_of ns keys n v p).x (way_of ns keys n v p).y
                  → 0 < (way_of ns keys n v p).x + (way_of ns keys n v p).y → IfPair (tab_of g (turn p τ)) n j (way_of ns keys n v p).x (way_of ns keys n v p).y
              some_pair (inl a) z = absurd (let b : ⊥ = omega arith in b)
              some_pair (inr a) z = a
          pick q lo up gd hd w this rest (no x) = rest q (omega arith) (omega arith)

      made_pair : (σ : State) (w : Way) (x y : ℕ) → w ≡ record { x = x; y = y } → Made w σ → 0 < x + y → Settled σ x y
      made_pair σ w x y e m h = subst (λ (u : Way). Made u σ) e m h

      -- the whole of a general output: a literal, the ways, the mark
      sum_good : (σ : State) → Good g len σ → Placed g len σ (mark_at gather at (links_of gather r ns ins keys n at v (take_lit_at gather at σ))) n (suc j)
      unfolding mark_at links_of take_lit_at put ensure
      sum_good σ good =
          let a = ensure_good g len fit.room σ n j good s hj inner_g in
          let σ₁ = ensure σ at in
          let p = links_good (turns_of ns n - 0) 0 σ₁ a.good a.held in
          let σ₂ = over (turns_of ns n - 0) turn 0 σ₁ in
          let w = grow_trans g σ σ₁ σ₂ a.grow p.grow in
          let ρ = put 1 σ₂ at in
          let kept : (d : Dir) → marks_of g σ₂ d n j ≡ true → has_mark d 1 ≡ true = λ d e. kept_one σ₂ p.good d e in
          record {
            good = put_good g len fit.room σ₂ p.good n j s hj inner_g 1 kept p.held (λ d e. new_one σ₂ p.good p.fact d e);
            grow = grow_trans g σ σ₂ ρ w (put_grow g len fit.room σ₂ p.good n j s hj inner_g 1 kept);
            done = done_of_true (kind_of (node_at ns n).kind) _ (put_at g len fit.room σ₂ p.good n j s hj inner_g 1 kept If one_if);
          }
        where
          no_only : (τ : State) → Good g len τ → marks_of g τ OnlyIf n j ≡ true → ⊥
          no_only τ gd e =
              let f = (gd.inv.marked OnlyIf n j s hj e).closed.0 in
              let z : ◌≡◌ {A = ℕ} 0 1 = cc in
              let y : ⊥ = omega arith in
              y

          kept_one : (τ : State) → Good g len τ → (d : Dir) → marks_of g τ d n j ≡ true → has_mark d 1 ≡ true
          kept_one τ gd If e = one_if
          kept_one τ gd OnlyIf e = absurd (no_only τ gd e)

          closed : (τ : State) → Good g len τ → ((q : ℕ) → 0 ≤ q → q < 0 + (turns_of ns n - 0) → Made (way_of ns keys n v q) τ) → Closed (tab_of g τ) (marks_of g τ) τ.out If n j
          closed τ gd f x y pr =
              let (q, hq, e) = way_all ns ins keys size from len fit sharp τ gd.inv.shape n j s k hj hl hr x y pr in
              made_pair τ (way_of ns keys n v q) x y e (f q (omega arith) (omega arith)) (some x y pr)
            where
              some : (x y : ℕ) → IfPair (tab_of g τ) n j x y → 0 < x + y
              some zero zero pr = let a = sharp.kpos n j s hj in let b = pr.sum in omega arith
              some (suc x) y pr = omega arith
              some zero (suc y) pr = omega arith

          new_one : (τ : State) → Good g len τ → ((q : ℕ) → 0 ≤ q → q < 0 + (turns_of ns n - 0) → Made (way_of ns keys n v q) τ) → (d : Dir) → has_mark d 1 ≡ true
              → (marks_of g τ d n j ≡ true) ⊎ Closed (tab_of g τ) (marks_of g τ) τ.out d n j
          new_one τ gd f If e = inr (closed τ gd f)
          new_one τ gd f OnlyIf e = absurd (true≢false (sym e ∙ one_only))

  -- THE WEIGHTED DEMAND keeps the invariant, and what was asked is done
  pub weigh_good : (f : ℕ) (σ : State) → Good g len σ → (n y : ℕ) → n < f → n < size → y ≤ value_count (node_at ns n) → Placed g len σ (weigh gather f ns ins keys n y σ) n y
  unfolding weigh job_of do_of
  weigh_good zero σ good n y h s hy = absurd (let z : ⊥ = omega arith in z)
  weigh_good (suc f) σ good n zero h s hy = record { good = good; grow = grow_refl g σ; done = tt }
  weigh_good (suc f) σ good n (suc j) h s hj =
      rw (ne_eqb (suc j) 0 (λ z. let y : ⊥ = omega arith in y), (let e : suc j - 1 ≡ j = omega arith in e))
      (go (λ c hc τ gt y hy. weigh_good f τ gt c y (omega arith) (omega arith) hy) (kind_of (node_at ns n).kind) refl)
    where
      r : Rec1
      r = weigh gather f ns ins keys

      at : ℕ
      at = (node_at ns n).first + j

      sums : Job
      sums = cond (eqb (get_or σ.marks at 0) 0) (Sum at (get_or keys at 0)) Nothing

      -- a general output that is marked is marked If
      marked : kind_of (node_at ns n).kind ≡ general → eqb (get_or σ.marks at 0) 0 ≡ false → marks_of g σ If n j ≡ true
      marked e z = mark_inner (kind_of (node_at ns n).kind) If (get_or σ.marks at 0) (rw e tt) ∙ some_mark (get_or σ.marks at 0) z (only (has_mark OnlyIf (get_or σ.marks at 0)) refl)
        where
          only : (b : Bool) → has_mark OnlyIf (get_or σ.marks at 0) ≡ b → b ≡ false
          only false q = refl
          only true q =
              let x = (good.inv.marked OnlyIf n j s hj (mark_inner (kind_of (node_at ns n).kind) OnlyIf (get_or σ.marks at 0) (rw e tt) ∙ q)).closed.0 in
              let y : ◌≡◌ {A = ℕ} 0 1 = cc in
              absurd (let w : ⊥ = omega arith in w)

      sum : RecOk1 g len r n → kind_of (node_at ns n).kind ≡ general → GeneralOk (tab_of g σ) n → (b : Bool) → eqb (get_or σ.marks at 0) 0 ≡ b
          → Placed g len σ (do_of gather r (define gather (suc f) ns ins) ns ins keys n (cond b (Sum at (get_or keys at 0)) Nothing) σ) n (suc j)
      sum ok e o true z =
          let key : get_or keys at 0 ≡ key_of g n j = rw e in
          rw key (sum_good n j s e hj o.hl o.hr r ok σ good)
      sum ok e o false z = record { good = good; grow = grow_refl g σ; done = done_of_true (kind_of (node_at ns n).kind) _ (marked e z) }

      go : RecOk1 g len r n → (q : Kind) → kind_of (node_at ns n).kind ≡ q
          → Placed g len σ (do_of gather r (define gather (suc f) ns ins) ns ins keys n (cond (eqb (node_at ns n).kind 1) (Count j) (cond (eqb (node_at ns n).kind 2) sums Nothing)) σ) n (suc j)
      go ok leaf e =
          rw (test_is ns n (fit.kinds n s) leaf 1 e, test_is ns n (fit.kinds n s) leaf 2 e)
          (record { good = good; grow = grow_refl g σ; done = leaf_done (kind_of (node_at ns n).kind) e (marks_of g σ If n j) })
      go ok dummy e = let c = count_is ns n (fit.kinds n s) dummy e in absurd (let z : ⊥ = omega arith in z)
      go ok unit e =
          let a = define_good ns ins keys size from len fit (suc f) σ good n j h s (rw e tt) hj just_if in
          rw (test_is ns n (fit.kinds n s) unit 1 e)
          (record { good = a.good; grow = a.grow; done = a.done If refl })
      go ok general e =
          rw (test_is ns n (fit.kinds n s) general 1 e, test_is ns n (fit.kinds n s) general 2 e)
          (sum ok e (subst (NodeOk (tab_of g σ) n) e (good.inv.shape n s)) (eqb (get_or σ.marks at 0) 0) refl)
