-- The plain run of an unweighted demand keeps the invariant, and what was asked is done.
use Rattle.std.specs.Prelude.{◌≡◌, Bool, not, cond, ◌&&◌, ◌⊎◌, ℤ, get_or, eqb}
use Rattle.std.proofs.Math.Path.{refl, sym, ap, subst}
use Rattle.std.proofs.Common.{◌∙◌, true≢false, inl, inr}
use Rattle.std.proofs.Math.Bool.{true, false}
use Rattle.std.proofs.lemmas.Bool.{false≢true}
use mathlib.Core.List.Memᴰ
use mathlib.Core.List.{List, [], ◌++◌, Memᴰ}
use Prim.Native.Nat.{ℕ, zero, suc, ◌+◌, ◌-◌, ◌<◌}
use native.Mathlib.Omega.{arith}
use Rattle.std.proofs.Math.IntN.{pos}
use Rattle.std.proofs.Math.ListN.{set}
use Rattle.paper.specs.Span.{over}
use Rattle.paper.specs.Rows.{node_at, value_count, con_lits, is_dummy}
use Rattle.paper.specs.Plain.{just_if, just_only, missing_of, if_span, only_span, no_span, ranges_of, plan_two, plan_unit, plan_of, lit_at, taken_lits, taken_next, finish_of, demands_of, walk_of, step_of, define}
use Rattle.paper.specs.declared.Want.{Want}
use Rattle.paper.specs.declared.Todo.{Todo}
use Rattle.paper.specs.declared.Span.{Span}
use Rattle.paper.specs.declared.Precond.{Precond}
use Rattle.paper.specs.declared.Precond.TheVariants.{Return, Pass, Continue}
use Rattle.meaning.specs.Table.{Kind, leaf, dummy, unit, general, Dir, If, OnlyIf, Done, NotGeneral, Inner, UnitOk, NodeOk, History, Closed}
use Rattle.facts.specs.Ranges.{ask_span, Need}
use Rattle.facts.proofs.Ranges.{if_ask, only_ask, need_asked, need_alone, need_none, ask_to}
use Rattle.meaning.specs.Lists.{own_list, Needs}
use Rattle.meaning.proofs.Lists.{list_own, list_closed}
use Rattle.meaning.specs.Rows.{Net, State, tab_of, marks_of, has_mark, Good, Grow, Still, ensure, put, append}
use Rattle.meaning.proofs.Rows.{grow_refl, grow_trans, still_refl, still_trans, still_from, held_inner, mark_inner, Ensured, ensure_good, still_done, done_of_true, put_at, put_grow, put_still, put_good, append_good, append_grow}
use Rattle.meaning.specs.View.{kind_of, net_of, Fit}
use Rattle.meaning.proofs.View.{test_is, count_is, lits_length, lits_at, cell_lit_is}
use Rattle.meaning.specs.Emit.{gather}
use Rattle.meaning.proofs.Emit.{emit_both_is}
use Rattle.meaning.specs.Asked.{wants, Asked, Rec, RecOk}
use Rattle.meaning.proofs.Asked.{walk_good, met_is, missing_is, or_right, or_left, either, no_outputs, leaf_done}

-- ---- a unit's output

module _ (ns : List ℕ) (ins : List ℤ) (keys : List ℕ) (size from len : ℕ) (fit : Fit ns ins keys size from len) where
  abbrev g : Net
  g = net_of ns ins keys size from

  needs_grow : (d : Dir) (n i : ℕ) (σ ρ : State) → (g.node n).left < size → (g.node n).right < size → Grow g σ ρ → Needs (tab_of g σ) (marks_of g σ) d n i
      → Needs (tab_of g ρ) (marks_of g ρ) d n i
  needs_grow d n i σ ρ sl sr w a =
      record {
        lneed = λ p q. still_done g σ ρ ρ w d (g.node n).left p sl q.inside (a.lneed p q);
        rneed = λ p q. still_done g σ ρ ρ w d (g.node n).right p sr q.inside (a.rneed p q);
      }

  module _ (n i : ℕ) (s : n < size) (k : kind_of (node_at ns n).kind ≡ unit) (hi : i < value_count (node_at ns n)) where
    abbrev at : ℕ
    at = (node_at ns n).first + i

    inner_here : Inner (kind_of (node_at ns n).kind)
    inner_here = rw k tt

    unit_here : (σ : State) → Good g len σ → UnitOk (tab_of g σ) n
    unit_here σ good = subst (NodeOk (tab_of g σ) n) k (good.inv.shape n s)

    abbrev mark : State → ℕ
    mark σ = get_or σ.marks at 0

    mark_here : (σ : State) (d : Dir) → marks_of g σ d n i ≡ has_mark d (mark σ)
    mark_here σ d = mark_inner (kind_of (node_at ns n).kind) d (mark σ) inner_here

    -- the state that steps 4 and 5 leave
    abbrev clauses : Dir → Bool → State → History
    clauses d b σ = cond b (own_list d (tab_of g σ) n i) []

    abbrev finished : Todo → State → State
    finished t τ =
        put t.mark (append (append (ensure τ at) (clauses If t.want.fi (ensure τ at))) (clauses OnlyIf t.want.fo (ensure τ at))) at

    finish_is : (t : Todo) (τ : State) → Good g len τ → finish_of gather ns ins n i t τ ≡ finished t τ
    unfolding finish_of put append ensure
    finish_is t τ good =
        let o = unit_here τ good in
        let sl : (g.node n).left < size = omega (arith, o.hl) in
        let sr : (g.node n).right < size = omega (arith, o.hr) in
        let a = ensure_good g len fit.room τ n i good s hi inner_here in
        let ρ = ensure τ at in
        let l = (node_at ns n).left in
        let r = (node_at ns n).right in
        ap (λ (out : History). record { lits = taken_lits τ.lits at τ.next; marks = set τ.marks at t.mark; next = taken_next τ.lits at τ.next; out = out })
        (emit_both_is (tab_of g ρ) n i (con_lits ns ins ρ.lits l) (con_lits ns ins ρ.lits r) (lit_at ρ.lits at)
        (lits_length ns ins keys size from len fit ρ a.good l sl) (lits_length ns ins keys size from len fit ρ a.good r sr)
        (lits_at ns ins keys size from len fit ρ a.good l sl) (lits_at ns ins keys size from len fit ρ a.good r sr)
        (cell_lit_is ns ins keys size from len fit ρ a.good n s i hi inner_here ∙ sym (ap pos (held_inner (kind_of (node_at ns n).kind) _ inner_here))) t.want τ.out)

    own_when : (b : Bool) (d : Dir) (ρ : State) → Good g len ρ → 0 < (tab_of g ρ).held n i → (b ≡ true → Needs (tab_of g ρ) (marks_of g ρ) d n i)
        → (c : List ℤ) → Memᴰ c (clauses d b ρ) → Rattle.meaning.specs.Table.Own (tab_of g ρ) c
    own_when true d ρ good held w c m =
        list_own (tab_of g ρ) good.inv.shape n i s (unit_here ρ good) hi (marks_of g ρ) ρ.out good.inv k held d (w refl) c m
    own_when false d ρ good held w c m = absurd (Memᴰ.not-nil m)

    -- steps 4 and 5. m is the mark as it was when the demand came, and still is
    finish_good : (m : ℕ) (w : Want) (τ : State) → Good g len τ → mark τ ≡ m
        → ((d : Dir) → wants d (missing_of m w).want ≡ true → Needs (tab_of g τ) (marks_of g τ) d n i)
        → Asked g len τ (finish_of gather ns ins n i (missing_of m w) τ) n i w
    unfolding append ensure put
    finish_good m w τ good em needs = subst (λ (υ : State). Asked g len τ υ n i w) (sym (finish_is t τ good)) result
      where
        t : Todo
        t = missing_of m w

        ρ : State
        ρ = ensure τ at

        a : Ensured g len fit.room τ ρ n i
        a = ensure_good g len fit.room τ n i good s hi inner_here

        o : UnitOk (tab_of g τ) n
        o = unit_here τ good

        there : (d : Dir) → wants d t.want ≡ true → Needs (tab_of g ρ) (marks_of g ρ) d n i
        there d e = needs_grow d n i τ ρ (omega (arith, o.hl)) (omega (arith, o.hr)) a.grow (needs d e)

        A : History
        A = clauses If t.want.fi ρ

        B : History
        B = clauses OnlyIf t.want.fo ρ

        υ : State
        υ = append (append ρ A) B

        υ_good : Good g len υ
        υ_good =
            append_good g len (append ρ A) B (append_good g len ρ A a.good (own_when t.want.fi If ρ a.good a.held (there If)))
            (own_when t.want.fo OnlyIf ρ a.good a.held (there OnlyIf))

        there_when : (b : Bool) (c : List ℤ) (h : History) → b ≡ true → Memᴰ c h → Memᴰ c (cond b h [])
        there_when true c h e mem = mem
        there_when false c h e mem = absurd (false≢true e)

        closed : (d : Dir) → wants d t.want ≡ true → Closed (tab_of g υ) (marks_of g υ) υ.out d n i
        closed If e =
            list_closed (tab_of g ρ) a.good.inv.shape n i s (unit_here ρ a.good) hi (marks_of g ρ) υ.out If k (there If e)
            (λ c mem. Memᴰ.append_left B (Memᴰ.append_right ρ.out (there_when t.want.fi c (own_list If (tab_of g ρ) n i) e mem)))
        closed OnlyIf e =
            list_closed (tab_of g ρ) a.good.inv.shape n i s (unit_here ρ a.good) hi (marks_of g ρ) υ.out OnlyIf k (there OnlyIf e)
            (λ c mem. Memᴰ.append_right (ρ.out ++ A) (there_when t.want.fo c (own_list OnlyIf (tab_of g ρ) n i) e mem))

        was : (d : Dir) → marks_of g υ d n i ≡ has_mark d m
        was d = mark_here υ d ∙ ap (has_mark d) em

        kept : (d : Dir) → marks_of g υ d n i ≡ true → has_mark d t.mark ≡ true
        kept d e = met_is d m w ∙ or_right (wants d w) (has_mark d m) (sym (was d) ∙ e)

        new : (d : Dir) → (has_mark d m ≡ true) ⊎ ((wants d w && not (has_mark d m)) ≡ true)
            → (marks_of g υ d n i ≡ true) ⊎ Closed (tab_of g υ) (marks_of g υ) υ.out d n i
        new d (inl e) = inl (was d ∙ e)
        new d (inr e) = inr (closed d (missing_is d m w ∙ e))

        result : Asked g len τ (put t.mark υ at) n i w
        result =
            record {
              good = put_good g len fit.room υ υ_good n i s hi inner_here t.mark kept a.held
                  (λ d e. new d (either (wants d w) (has_mark d m) (sym (met_is d m w) ∙ e)));
              grow = grow_trans g τ ρ (put t.mark υ at) a.grow
                  (grow_trans g ρ (append ρ A) (put t.mark υ at) (append_grow g ρ A)
                  (grow_trans g (append ρ A) υ (put t.mark υ at) (append_grow g (append ρ A) B) (put_grow g len fit.room υ υ_good n i s hi inner_here t.mark kept)));
              still = record { same = (put_still g len fit.room υ υ_good n i s hi inner_here t.mark kept).same };
              done = λ d e. done_of_true (kind_of (node_at ns n).kind) _
                  (put_at g len fit.room υ υ_good n i s hi inner_here t.mark kept d (met_is d m w ∙ or_left (wants d w) (has_mark d m) e));
            }

    -- what is ready for steps 4 and 5
    record Ready (σ σ' : State) (w : Want) : Type 0 where
      good : Good g len σ'
      grow : Grow g σ σ'
      still : Still g n σ σ'
      needs : (d : Dir) → wants d w ≡ true → Needs (tab_of g σ') (marks_of g σ') d n i

    ready_finish : (w : Want) (σ τ : State) → Ready σ τ (missing_of (mark σ) w).want → Asked g len σ (finish_of gather ns ins n i (missing_of (mark σ) w) τ) n i w
    ready_finish w σ τ a =
        let m = mark σ in
        let b = finish_good m w τ a.good (a.still.same n i (omega arith) s hi inner_here) a.needs in
        let υ = finish_of gather ns ins n i (missing_of m w) τ in
        record {
          good = b.good;
          grow = grow_trans g σ τ υ a.grow b.grow;
          still = still_trans g (suc n) σ τ υ (still_from g n (suc n) σ τ (omega arith) a.still) b.still;
          done = b.done;
        }

    -- step 2: one child without outputs, and the other's output i is all that is used
    through_right : (σ : State) (d : Dir) → value_count (node_at ns (node_at ns n).left) ≡ 0 → Done (tab_of g σ) (marks_of g σ) d (node_at ns n).right i
        → Needs (tab_of g σ) (marks_of g σ) d n i
    through_right σ d z h =
        record {
          lneed = λ p w. absurd (need_none _ _ i p z w);
          rneed = λ p w. rw (need_alone _ _ i p z w) h;
        }

    through_left : (σ : State) (d : Dir) → value_count (node_at ns (node_at ns n).right) ≡ 0 → Done (tab_of g σ) (marks_of g σ) d (node_at ns n).left i
        → Needs (tab_of g σ) (marks_of g σ) d n i
    through_left σ d z h =
        record {
          lneed = λ p w. rw (need_alone _ _ i p z w) h;
          rneed = λ p w. absurd (need_none _ _ i p z w);
        }

    module _ (r : Rec) (ok : RecOk g len r n) where
      pass_right : (w : Want) (σ : State) → Good g len σ → value_count (node_at ns (node_at ns n).left) ≡ 0 → Ready σ (r (node_at ns n).right i w σ) w
      pass_right w σ good z =
          let o = unit_here σ good in
          let ec = o.count_is in
          let c = (node_at ns n).right in
          let a = ok c o.hr o.right_kind σ good i (omega arith) w in
          record {
            good = a.good;
            grow = a.grow;
            still = still_from g (suc c) n σ (r c i w σ) o.hr a.still;
            needs = λ d e. through_right (r c i w σ) d z (a.done d e);
          }

      pass_left : (w : Want) (σ : State) → Good g len σ → value_count (node_at ns (node_at ns n).right) ≡ 0 → Ready σ (r (node_at ns n).left i w σ) w
      pass_left w σ good z =
          let o = unit_here σ good in
          let ec = o.count_is in
          let c = (node_at ns n).left in
          let a = ok c o.hl o.left_kind σ good i (omega arith) w in
          record {
            good = a.good;
            grow = a.grow;
            still = still_from g (suc c) n σ (r c i w σ) o.hl a.still;
            needs = λ d e. through_left (r c i w σ) d z (a.done d e);
          }

      -- step 3, one of its four loops: child c with a outputs, beside one with b
      abbrev just : Dir → Want
      just If = just_if
      just OnlyIf = just_only

      abbrev span_of : Dir → ℕ → ℕ → Span
      span_of If a b = if_span a b i
      span_of OnlyIf a b = only_span a b i

      just_wants : (d : Dir) → wants d (just d) ≡ true
      just_wants If = refl
      just_wants OnlyIf = refl

      record Looped (d : Dir) (on : Bool) (c b : ℕ) (σ σ' : State) : Type 0 where
        good : Good g len σ'
        grow : Grow g σ σ'
        still : Still g n σ σ'
        done : on ≡ true → (p : ℕ) → Need (value_count (node_at ns c)) b i p → Done (tab_of g σ') (marks_of g σ') d c p

      ask : (d : Dir) (a b : ℕ) → span_of d a b ≡ ask_span a b i
      ask If a b = if_ask a b i
      ask OnlyIf a b = only_ask a b i

      ask_good : (d : Dir) (c b : ℕ) → c < n → NotGeneral (kind_of (node_at ns c).kind) → (σ : State) → Good g len σ
          → Looped d true c b σ (demands_of gather r c (ask_span (value_count (node_at ns c)) b i) (just d) σ)
      unfolding demands_of over
      ask_good d c b hc kc σ good =
          let a = value_count (node_at ns c) in
          let from = (ask_span a b i).from in
          let to = (ask_span a b i).to in
          let top = ask_to a b i in
          let w = walk_good g len n (omega arith) r ok (just d) c hc kc (to - from) from σ (λ h. omega arith) good in
          record { good = w.good; grow = w.grow; still = w.still; done = λ e p q. let (x, y) = need_asked a b i p q in w.done d (just_wants d) p x (omega arith) }

      loop_good : (d : Dir) (on : Bool) (c b : ℕ) → c < n → NotGeneral (kind_of (node_at ns c).kind) → (σ : State) → Good g len σ
          → Looped d on c b σ (demands_of gather r c (cond on (span_of d (value_count (node_at ns c)) b) no_span) (just d) σ)
      unfolding demands_of over
      loop_good d true c b hc kc σ good =
          let a = value_count (node_at ns c) in
          subst (λ (sp : Span). Looped d true c b σ (demands_of gather r c sp (just d) σ)) (sym (ask d a b)) (ask_good d c b hc kc σ good)
      loop_good d false c b hc kc σ good = record { good = good; grow = grow_refl g σ; still = still_refl g n σ; done = λ e. absurd (false≢true e) }

      walked : (w : Want) (σ : State) → Good g len σ
          → Ready σ (walk_of gather r (ranges_of (node_at ns n) (value_count (node_at ns (node_at ns n).left)) (value_count (node_at ns (node_at ns n).right)) w i) σ) w
      unfolding walk_of ranges_of
      walked w σ good =
          let o = unit_here σ good in
          let l = (node_at ns n).left in
          let q = (node_at ns n).right in
          let a = value_count (node_at ns l) in
          let b = value_count (node_at ns q) in
          let σ₁ = demands_of gather r l (cond w.fi (if_span a b i) no_span) just_if σ in
          let w₁ = loop_good If w.fi l b o.hl o.left_kind σ good in
          let σ₂ = demands_of gather r q (cond w.fi (if_span b a i) no_span) just_if σ₁ in
          let w₂ = loop_good If w.fi q a o.hr o.right_kind σ₁ w₁.good in
          let σ₃ = demands_of gather r l (cond w.fo (only_span a b i) no_span) just_only σ₂ in
          let w₃ = loop_good OnlyIf w.fo l b o.hl o.left_kind σ₂ w₂.good in
          let σ₄ = demands_of gather r q (cond w.fo (only_span b a i) no_span) just_only σ₃ in
          let w₄ = loop_good OnlyIf w.fo q a o.hr o.right_kind σ₃ w₃.good in
          let g₂ = grow_trans g σ₂ σ₃ σ₄ w₃.grow w₄.grow in
          let g₁ = grow_trans g σ₁ σ₂ σ₄ w₂.grow g₂ in
          record {
            good = w₄.good;
            grow = grow_trans g σ σ₁ σ₄ w₁.grow g₁;
            still = still_trans g n σ σ₁ σ₄ w₁.still (still_trans g n σ₁ σ₂ σ₄ w₂.still (still_trans g n σ₂ σ₃ σ₄ w₃.still w₄.still));
            needs = λ d. elim d as (λ k. wants k w ≡ true → Needs (tab_of g σ₄) (marks_of g σ₄) k n i) [
              | If ↦ λ e. record {
                lneed = λ p h. still_done g σ₁ σ₄ σ₄ g₁ If l p (omega (arith, o.hl)) h.inside (w₁.done e p h);
                rneed = λ p h. still_done g σ₂ σ₄ σ₄ g₂ If q p (omega (arith, o.hr)) h.inside (w₂.done e p h);
              }
              | OnlyIf ↦ λ e. record {
                lneed = λ p h. still_done g σ₃ σ₄ σ₄ w₄.grow OnlyIf l p (omega (arith, o.hl)) h.inside (w₃.done e p h);
                rneed = λ p h. w₄.done e p h;
              }
            ];
          }

      -- steps 2 to 5
      two_good : (w : Want) (σ : State) → Good g len σ → (dl dr : Bool) → is_dummy (node_at ns (node_at ns n).left) ≡ dl → is_dummy (node_at ns (node_at ns n).right) ≡ dr
          → Asked g len σ (step_of gather r ns ins n i
          (cond dl (Pass (node_at ns n).right (missing_of (mark σ) w))
          (cond dr (Pass (node_at ns n).left (missing_of (mark σ) w))
          (Continue (ranges_of (node_at ns n) (value_count (node_at ns (node_at ns n).left)) (value_count (node_at ns (node_at ns n).right)) (missing_of (mark σ) w).want i) (missing_of (mark σ) w)))) σ) n i w
      unfolding step_of
      two_good w σ good true dr el er = ready_finish w σ _ (pass_right (missing_of (mark σ) w).want σ good (no_outputs ns (node_at ns n).left el))
      two_good w σ good false true el er = ready_finish w σ _ (pass_left (missing_of (mark σ) w).want σ good (no_outputs ns (node_at ns n).right er))
      two_good w σ good false false el er = ready_finish w σ _ (walked (missing_of (mark σ) w).want σ good)

      -- nothing is missing
      none_missing : (a b : Bool) → (a && not b) ≡ false → a ≡ true → b ≡ true
      none_missing true true e f = refl
      none_missing true false e f = absurd (true≢false e)
      none_missing false b e f = absurd (false≢true f)

      unit_good : (w : Want) (σ : State) → Good g len σ
          → Asked g len σ (step_of gather r ns ins n i
          (plan_unit (node_at ns n) (node_at ns (node_at ns n).left) (node_at ns (node_at ns n).right) i (missing_of (mark σ) w)) σ) n i w
      unfolding plan_unit plan_two step_of
      unit_good w σ good = go (missing_of (mark σ) w).want.fi refl (missing_of (mark σ) w).want.fo refl
        where
          t : Todo
          t = missing_of (mark σ) w

          two : Precond
          two = plan_two (node_at ns n) (node_at ns (node_at ns n).left) (node_at ns (node_at ns n).right) i t

          all : Asked g len σ (step_of gather r ns ins n i two σ) n i w
          all = two_good w σ good (is_dummy (node_at ns (node_at ns n).left)) (is_dummy (node_at ns (node_at ns n).right)) refl refl

          there : (d : Dir) → wants d t.want ≡ false → wants d w ≡ true → Done (tab_of g σ) (marks_of g σ) d n i
          there d e h =
              done_of_true (kind_of (node_at ns n).kind) _
              (mark_here σ d ∙ none_missing (wants d w) (has_mark d (mark σ)) (sym (missing_is d (mark σ) w) ∙ e) h)

          go : (a : Bool) → t.want.fi ≡ a → (b : Bool) → t.want.fo ≡ b → Asked g len σ (step_of gather r ns ins n i (cond a two (cond b two Return)) σ) n i w
          go true e b f = all
          go false e true f = all
          go false e false f =
              record {
                good = good;
                grow = grow_refl g σ;
                still = still_refl g (suc n) σ;
                done = λ d. elim d as (λ k. wants k w ≡ true → Done (tab_of g σ) (marks_of g σ) k n i) [ If ↦ there If e | OnlyIf ↦ there OnlyIf f ];
              }

  -- THE DEMAND keeps the invariant, and what was asked is done
  pub define_good : (f : ℕ) (σ : State) → Good g len σ → (n i : ℕ) → n < f → n < size → NotGeneral (kind_of (node_at ns n).kind) → i < value_count (node_at ns n)
      → (w : Want) → Asked g len σ (define gather f ns ins n i w σ) n i w
  unfolding define plan_of step_of
  define_good zero σ good n i h s k hi w = absurd (let z : ⊥ = omega arith in z)
  define_good (suc f) σ good n i h s k hi w =
      go (λ c hc kc τ gt p hp v. define_good f τ gt c p (omega arith) (omega arith) kc hp v) (kind_of (node_at ns n).kind) refl
    where
      unit_plan : Precond
      unit_plan = plan_unit (node_at ns n) (node_at ns (node_at ns n).left) (node_at ns (node_at ns n).right) i (missing_of (get_or σ.marks ((node_at ns n).first + i) 0) w)

      go : RecOk g len (define gather f ns ins) n → (q : Kind) → kind_of (node_at ns n).kind ≡ q
          → Asked g len σ (step_of gather (define gather f ns ins) ns ins n i (cond (eqb (node_at ns n).kind 1) unit_plan Return) σ) n i w
      go ok leaf e =
          rw (test_is ns n (fit.kinds n s) leaf 1 e)
          (record { good = good; grow = grow_refl g σ; still = still_refl g (suc n) σ; done = λ d x. leaf_done (kind_of (node_at ns n).kind) e (marks_of g σ d n i) })
      go ok dummy e = let c = count_is ns n (fit.kinds n s) dummy e in absurd (let z : ⊥ = omega arith in z)
      go ok unit e = rw (test_is ns n (fit.kinds n s) unit 1 e) (unit_good n i s e hi (define gather f ns ins) ok w σ good)
      go ok general e = absurd (subst NotGeneral e k)
