-- The rows of a run, and the table that they show. Taking a literal, appending own clauses and marking keep the invariant.
use Rattle.std.specs.Prelude.{◌≡◌, Bool, false, cond, ◌⊎◌, ℤ, pos, negsuc, nat_abs, length, get_or, set}
use Rattle.std.proofs.Math.Path.{refl, ap}
use Rattle.std.proofs.Common.{sym, ◌∙◌, true≢false, inl, inr, length-set, get_or-set_same}
use Rattle.std.proofs.Math.Bool.{true}
use Rattle.std.proofs.lemmas.Bool.{false≢true}
use mathlib.Core.List.Memᴰ
use mathlib.Core.List.{List, [], ◌∷◌, Memᴰ}
use Prim.Native.Nat.{ℕ, zero, suc, ◌+◌, ◌<◌, ◌≤◌}
use Rattle.std.proofs.Math.Decide.{ℕ_discrete}
use native.Mathlib.Omega.{arith}
use Rattle.std.proofs.Math.Seq.{get_or-set_other}
use Rattle.paper.specs.Rows.{is_zero, is_neg}
use Rattle.paper.specs.Plain.{has_none}
use Rattle.meaning.specs.Base.{AtPrev}
use Rattle.meaning.proofs.Base.{at_prev_map}
use Rattle.meaning.specs.Table.{Kind, leaf, dummy, unit, general, Dir, done_of, Done, Inner, History, Closed, Marked, Own}
use Rattle.meaning.specs.Steps.{Taken}
use Rattle.meaning.proofs.Steps.{taken_ext, inv_take, inv_append, inv_mark, closed_marks}
use Rattle.meaning.specs.Keep.{Below}
use Rattle.meaning.proofs.Keep.{ext_refl, ext_trans, below_of}
use Rattle.meaning.specs.Rows.{Good, Grow, Net, Room, State, Still, append, ensure, has_mark, held_in, key_in, mark_in, marks_of, put, tab_of}

pub grow_refl : (g : Net) (σ : State) → Grow g σ σ
grow_refl g σ = record { marks = λ d n j s hj e. e; ext = ext_refl (tab_of g σ); sub = λ c m. m }

pub grow_trans : (g : Net) (σ ρ τ : State) → Grow g σ ρ → Grow g ρ τ → Grow g σ τ
grow_trans g σ ρ τ a b =
    record {
      marks = λ d n j s hj e. b.marks d n j s hj (a.marks d n j s hj e);
      ext = ext_trans (tab_of g σ) (tab_of g ρ) (tab_of g τ) a.ext b.ext;
      sub = λ c m. b.sub c (a.sub c m);
    }

pub still_refl : (g : Net) (n : ℕ) (σ : State) → Still g n σ σ
still_refl g n σ = record { same = λ k j h s hj i. refl }

pub still_trans : (g : Net) (n : ℕ) (σ ρ τ : State) → Still g n σ ρ → Still g n ρ τ → Still g n σ τ
still_trans g n σ ρ τ a b = record { same = λ k j h s hj i. b.same k j h s hj i ∙ a.same k j h s hj i }

pub still_from : (g : Net) (n k : ℕ) (σ ρ : State) → n ≤ k → Still g n σ ρ → Still g k σ ρ
still_from g n k σ ρ l a = record { same = λ b j h s hj i. a.same b j (omega arith) s hj i }

pub held_inner : (k : Kind) (v : ℕ) → Inner k → held_in k v ≡ v
held_inner leaf v i = absurd i
held_inner dummy v i = absurd i
held_inner unit v i = refl
held_inner general v i = refl

-- a cell of another output is not touched
pub held_other : (k : Kind) (v u : ℕ) → (Inner k → u ≡ v) → held_in k u ≡ held_in k v
held_other leaf v u h = refl
held_other dummy v u h = refl
held_other unit v u h = h tt
held_other general v u h = h tt

pub mark_inner : (k : Kind) (d : Dir) (v : ℕ) → Inner k → mark_in k d v ≡ has_mark d v
mark_inner leaf d v i = absurd i
mark_inner dummy d v i = absurd i
mark_inner unit d v i = refl
mark_inner general d v i = refl

pub inner_of_mark : (k : Kind) (d : Dir) (v : ℕ) → mark_in k d v ≡ true → Inner k
inner_of_mark leaf d v e = absurd (false≢true e)
inner_of_mark dummy d v e = absurd (false≢true e)
inner_of_mark unit d v e = tt
inner_of_mark general d v e = tt

pub mark_other : (k : Kind) (d : Dir) (v u : ℕ) → (Inner k → u ≡ v) → mark_in k d u ≡ mark_in k d v
mark_other leaf d v u h = refl
mark_other dummy d v u h = refl
mark_other unit d v u h = ap (has_mark d) (h tt)
mark_other general d v u h = ap (has_mark d) (h tt)

pub key_other : (k : Kind) (v u : ℕ) → (Inner k → u ≡ v) → key_in k u ≡ key_in k v
key_other leaf v u h = refl
key_other dummy v u h = refl
key_other unit v u h = h tt
key_other general v u h = h tt

-- a cell that has no literal shows 0
pub zero_abs : (z : ℤ) → is_zero z ≡ true → nat_abs z ≡ 0
zero_abs (pos zero) e = refl
zero_abs (pos (suc v)) e = absurd (false≢true e)
zero_abs (negsuc v) e = absurd (false≢true e)

pub some_abs : (z : ℤ) → is_zero z ≡ false → 0 < nat_abs z
some_abs (pos zero) e = absurd (true≢false e)
some_abs (pos (suc v)) e = omega arith
some_abs (negsuc v) e = omega arith

-- inside a row it does not matter what stands for a word past its end
pub inside : {A : Type 0} (l : List A) (c : ℕ) (d e : A) → c < length l → get_or l c d ≡ get_or l c e
inside [] c d e h = absurd (let z : ⊥ = omega arith in z)
inside (x ∷ l) zero d e h = refl
inside (x ∷ l) (suc c) d e h = inside l c d e (omega arith)

module _ (g : Net) (len : ℕ) (room : Room g len) where
  abbrev take : State → ℕ → State
  take σ c = record { lits = set σ.lits c (pos σ.next); marks = σ.marks; next = σ.next + 1; out = σ.out }

  taken_rows : (σ : State) (n j : ℕ) → len ≤ length σ.lits → n < g.size → j < (g.node n).count → Inner (g.node n).kind
      → Taken (tab_of g σ) (tab_of g (take σ (g.first n + j))) n j
  taken_rows σ n j ll s hj i =
      let c = g.first n + j in
      record {
        size_is = refl;
        node_is = λ k sk. refl;
        key_is = λ k a sk ha. refl;
        there = held_inner (g.node n).kind _ i ∙ ap nat_abs (get_or-set_same σ.lits c (pos σ.next) (pos 0) (omega (arith, room.fits n j s hj i)));
        other = λ k a sk ha q. held_other (g.node k).kind _ _ (λ ik.
            ap nat_abs (get_or-set_other σ.lits c (g.first k + a) (pos σ.next) (pos 0) (λ e. q (room.apart k a n j sk ha ik s hj i e))));
        from_is = refl;
        next_is = omega arith;
      }

  plain_set : (l : List ℤ) (c v b : ℕ) → c < length l → is_neg (get_or l b (pos 0)) ≡ false → is_neg (get_or (set l c (pos v)) b (pos 0)) ≡ false
  plain_set l c v b h e = go (ℕ_discrete b c)
    where
      go : Dec (b ≡ c) → is_neg (get_or (set l c (pos v)) b (pos 0)) ≡ false
      go (yes q) = rw q (ap is_neg (get_or-set_same l c (pos v) (pos 0) h))
      go (no q) = ap is_neg (get_or-set_other l c b (pos v) (pos 0) q) ∙ e

  take_good : (σ : State) (n j : ℕ) → Good g len σ → n < g.size → j < (g.node n).count → Inner (g.node n).kind
      → nat_abs (get_or σ.lits (g.first n + j) (pos 0)) ≡ 0 → Good g len (take σ (g.first n + j))
  take_good σ n j good s hj i z =
      record {
        lits_len = rw (length-set σ.lits) good.lits_len;
        marks_len = good.marks_len;
        plain = λ c h. plain_set σ.lits (g.first n + j) σ.next c (let a = room.fits n j s hj i in let b = good.lits_len in omega arith) (good.plain c h);
        inv = inv_take (tab_of g σ) (tab_of g (take σ (g.first n + j))) (marks_of g σ) σ.out n j good.inv s hj
            (held_inner (g.node n).kind _ i ∙ z) (taken_rows σ n j good.lits_len s hj i);
      }

  -- after it: the cell has a literal, the marks are as before
  pub record Ensured (σ σ' : State) (n j : ℕ) : Type 0 where
    pub good : Good g len σ'
    pub held : 0 < (tab_of g σ').held n j
    pub grow : Grow g σ σ'

  pub ensure_good : (σ : State) (n j : ℕ) → Good g len σ → n < g.size → j < (g.node n).count → Inner (g.node n).kind → Ensured σ (ensure σ (g.first n + j)) n j
  unfolding ensure
  ensure_good σ n j good s hj i = go (has_none σ.lits (g.first n + j)) refl
    where
      c : ℕ
      c = g.first n + j

      seen : get_or σ.lits c (pos 0) ≡ get_or σ.lits c (pos 1)
      seen = inside σ.lits c (pos 0) (pos 1) (let a = room.fits n j s hj i in let b = good.lits_len in omega arith)

      go : (b : Bool) → has_none σ.lits c ≡ b
          → Ensured σ (record { lits = cond b (set σ.lits c (pos σ.next)) σ.lits; marks = σ.marks; next = cond b (σ.next + 1) σ.next; out = σ.out }) n j
      go true e =
          let z : nat_abs (get_or σ.lits c (pos 0)) ≡ 0 = ap nat_abs seen ∙ zero_abs (get_or σ.lits c (pos 1)) e in
          let k = taken_rows σ n j good.lits_len s hj i in
          record {
            good = take_good σ n j good s hj i z;
            held = let h = k.there in let o = good.inv.cells.order in let f = good.inv.cells.positive in omega arith;
            grow = record {
              marks = λ d a b sa hb h. h;
              ext = taken_ext (tab_of g σ) (tab_of g (take σ c)) n j k s hj (held_inner (g.node n).kind _ i ∙ z) good.inv.cells;
              sub = λ a m. m;
            };
          }
      go false e =
          let z : 0 < nat_abs (get_or σ.lits c (pos 1)) = some_abs (get_or σ.lits c (pos 1)) e in
          let y : nat_abs (get_or σ.lits c (pos 0)) ≡ nat_abs (get_or σ.lits c (pos 1)) = ap nat_abs seen in
          record { good = good; held = let h = held_inner (g.node n).kind (nat_abs (get_or σ.lits c (pos 0))) i in omega arith; grow = grow_refl g σ }

done_grow : (k : Kind) (a b : Bool) → (a ≡ true → b ≡ true) → done_of k a → done_of k b
done_grow leaf a b f h = tt
done_grow dummy a b f h = f h
done_grow unit a b f h = f h
done_grow general a b f h = f h

-- what is done stays done
pub still_done : (g : Net) (σ ρ τ : State) → Grow g σ ρ → (d : Dir) (n j : ℕ) → n < g.size → j < (g.node n).count
    → Done (tab_of g τ) (marks_of g σ) d n j → Done (tab_of g τ) (marks_of g ρ) d n j
still_done g σ ρ τ w d n j s hj h = done_grow (g.node n).kind (marks_of g σ d n j) (marks_of g ρ d n j) (w.marks d n j s hj) h

pub still_prev : (g : Net) (σ ρ τ : State) → Grow g σ ρ → (d : Dir) (n x : ℕ) → n < g.size → x ≤ (g.node n).count
    → AtPrev (Done (tab_of g τ) (marks_of g σ) d n) x → AtPrev (Done (tab_of g τ) (marks_of g ρ) d n) x
still_prev g σ ρ τ w d n x s hx h =
    at_prev_map (Done (tab_of g τ) (marks_of g σ) d n) (Done (tab_of g τ) (marks_of g ρ) d n) x (λ p hp q. still_done g σ ρ τ w d n p s (omega arith) q) h

pub done_of_true : (k : Kind) (b : Bool) → b ≡ true → done_of k b
done_of_true leaf b e = tt
done_of_true dummy b e = e
done_of_true unit b e = e
done_of_true general b e = e

-- the mark b is written at output j of node n: it has what the old mark had, and what is new is closed
module _ (g : Net) (len : ℕ) (room : Room g len) (σ : State) (good : Good g len σ) (n j : ℕ) (s : n < g.size) (hj : j < (g.node n).count)
    (i : Inner (g.node n).kind) (b : ℕ) (kept : (d : Dir) → marks_of g σ d n j ≡ true → has_mark d b ≡ true) where
  abbrev here : ℕ
  here = g.first n + j

  abbrev marked : State
  marked = put b σ here

  in_row : here < length σ.marks
  in_row = let a = room.fits n j s hj i in let c = good.marks_len in omega arith

  -- of a cell's mark afterwards
  data After (k a : ℕ) : Type 0 where
    this : k ≡ n → a ≡ j → get_or (set σ.marks here b) (g.first k + a) 0 ≡ b → After k a
    other : (Inner (g.node k).kind → get_or (set σ.marks here b) (g.first k + a) 0 ≡ get_or σ.marks (g.first k + a) 0) → After k a

  after : (k a : ℕ) → k < g.size → a < (g.node k).count → After k a
  after k a sk ha = go (ℕ_discrete k n) (ℕ_discrete a j)
    where
      go : Dec (k ≡ n) → Dec (a ≡ j) → After k a
      go (yes e) (yes f) = this e f (rw (e, f) (get_or-set_same σ.marks here b 0 in_row))
      go (yes e) (no f) = other (λ ik. get_or-set_other σ.marks here (g.first k + a) b 0 (λ q. f (room.apart k a n j sk ha ik s hj i q).1))
      go (no e) f = other (λ ik. get_or-set_other σ.marks here (g.first k + a) b 0 (λ q. e (room.apart k a n j sk ha ik s hj i q).0))

  pub put_at : (d : Dir) → has_mark d b ≡ true → marks_of g marked d n j ≡ true
  unfolding put
  put_at d e = mark_inner (g.node n).kind d _ i ∙ ap (has_mark d) (get_or-set_same σ.marks here b 0 in_row) ∙ e

  pub put_grow : Grow g σ marked
  unfolding put
  put_grow = record { marks = λ d k a sk ha h. go d k a sk ha h (after k a sk ha); ext = ext_refl (tab_of g σ); sub = λ c m. m }
    where
      go : (d : Dir) (k a : ℕ) → k < g.size → a < (g.node k).count → marks_of g σ d k a ≡ true → After k a → marks_of g marked d k a ≡ true
      go d k a sk ha h (this e f q) = rw (e, f) (put_at d (kept d (rw (e, f) at h)))
      go d k a sk ha h (other q) = mark_other (g.node k).kind d _ _ q ∙ h

  pub put_still : Still g (suc n) σ marked
  unfolding put
  put_still = record { same = λ k a h sk ha ik. get_or-set_other σ.marks here (g.first k + a) b 0 (λ q. let e = (room.apart k a n j sk ha ik s hj i q).0 in let z : ⊥ = omega arith in z) }

  pub put_good : 0 < (tab_of g σ).held n j
      → ((d : Dir) → has_mark d b ≡ true → (marks_of g σ d n j ≡ true) ⊎ Closed (tab_of g σ) (marks_of g σ) σ.out d n j) → Good g len marked
  unfolding put
  put_good p c =
      record {
        lits_len = good.lits_len;
        marks_len = rw (length-set σ.marks) good.marks_len;
        plain = good.plain;
        inv = inv_mark (tab_of g σ) (marks_of g σ) (marks_of g marked) σ.out good.inv put_grow.marks (λ d k a sk ha h. go d k a h (after k a sk ha));
      }
    where
      below : Below (tab_of g σ) n
      below = below_of (tab_of g σ) n (g.node n).kind i (good.inv.shape n s)

      new : (d : Dir) → (marks_of g σ d n j ≡ true) ⊎ Closed (tab_of g σ) (marks_of g σ) σ.out d n j
          → (marks_of g σ d n j ≡ true) ⊎ Marked (tab_of g σ) (marks_of g marked) σ.out d n j
      new d (inl e) = inl e
      new d (inr q) = inr (record { inner = i; held = p; closed = closed_marks (tab_of g σ) (marks_of g σ) (marks_of g marked) σ.out d n j s below (put_grow.marks d) q })

      go : (d : Dir) (k a : ℕ) → marks_of g marked d k a ≡ true → After k a → (marks_of g σ d k a ≡ true) ⊎ Marked (tab_of g σ) (marks_of g marked) σ.out d k a
      go d k a h (this e f q) =
          rw (e, f) (new d (c d (sym (ap (has_mark d) q) ∙ sym (mark_inner (g.node k).kind d _ (rw e i)) ∙ h)))
      go d k a h (other q) = inl (sym (mark_other (g.node k).kind d _ _ q) ∙ h)

pub append_good : (g : Net) (len : ℕ) (σ : State) (cs : History) → Good g len σ → ((c : List ℤ) → Memᴰ c cs → Own (tab_of g σ) c) → Good g len (append σ cs)
unfolding append
append_good g len σ cs good own =
    record { lits_len = good.lits_len; marks_len = good.marks_len; plain = good.plain; inv = inv_append (tab_of g σ) (marks_of g σ) σ.out cs good.inv own }

pub append_grow : (g : Net) (σ : State) (cs : History) → Grow g σ (append σ cs)
unfolding append
append_grow g σ cs = record { marks = λ d n j s hj e. e; ext = ext_refl (tab_of g σ); sub = λ c m. Memᴰ.append_left cs m }
