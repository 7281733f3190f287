-- The cap recipe by calls: to cap a unit or general node at k, demand every key above k. When these calls are done, every key above k is marked,
-- so that the outputs, once refused, leave exactly the assignments whose sum is at most k.
use Rattle.std.specs.Prelude.{◌≡◌, refl, true, false, ◌⊎◌, ℕ, ◌+◌, ◌<◌, ℤ, get_or}
use Rattle.std.proofs.Common.{sym, ◌∙◌, ap, subst, inl, inr, arith}
use mathlib.Core.List.Memᴰ
use mathlib.Core.List.{List, [], ◌∷◌, Memᴰ}
use Rattle.paper.specs.Rows.{node_at}
use Rattle.paper.specs.Plain.{mark_of, has_if}
use Rattle.paper.specs.Calls.{Db, Work, weighted, step}
use Rattle.paper.specs.Sums.{played}
use Rattle.paper.specs.declared.Node.{Node}
use Rattle.histories.proofs.Upheld.{facts_of, fit_of}
use Rattle.histories.proofs.Shown.{sharp}
use Rattle.histories.specs.Stays.{Stays}
use Rattle.histories.specs.Histories.{Reached, call, db_after, words_after}
use Rattle.histories.specs.Answers.{InnerKind}
use Rattle.histories.specs.Rows.{key, mark, Seen}
use Rattle.histories.proofs.Rows.{seen}
use Rattle.histories.specs.Meaning.{AllDemanded}
use Rattle.histories.proofs.Meaning.{all_stand, always_passes, stays, weighted_answered}
use Rattle.histories.specs.Cap.{AllDone, demands}

-- output j of node n as it was, after a demand
module _ {d : Db} {w : List ℤ} (r : Reached d w) (wk : Work) (n v : ℕ) (s : n < d.counters.nodes) (k : InnerKind d n) where
  abbrev after : Db
  after = (step d (weighted wk n v)).db

  st : Stays d after false
  st = stays r (weighted wk n v) refl

  node : node_at after.nodes n ≡ node_at d.nodes n
  node = st.node_is n s

  pub count_same : (node_at after.nodes n).count ≡ (node_at d.nodes n).count
  count_same = ap (λ (m : Node). m.count) node

  pub kind_same : InnerKind after n
  kind_same = go k
    where
      go : InnerKind d n → InnerKind after n
      go (inl e) = inl (ap (λ (m : Node). m.kind) node ∙ e)
      go (inr e) = inr (ap (λ (m : Node). m.kind) node ∙ e)

  module _ (j : ℕ) (hj : j < (node_at d.nodes n).count) where
    q : Seen d n j
    q = seen d (all_stand r).clauses (all_stand r).upheld n j s hj

    low : (node_at d.nodes n).first + j < d.counters.cells
    low = (fit_of d (always_passes r)).room.fits n j s q.low q.inner

    place : (node_at after.nodes n).first + j ≡ (node_at d.nodes n).first + j
    place = ap (λ (m : Node). m.first + j) node

    pub key_same : key after n j ≡ key d n j
    key_same = ap (λ (a : ℕ). get_or after.keys a 0) place ∙ st.keys ((node_at d.nodes n).first + j) low

    pub mark_same : has_if (mark d n j) ≡ true → has_if (mark after n j) ≡ true
    mark_same e = ap (λ (a : ℕ). has_if (mark_of (get_or after.marks a 0))) place ∙ st.ifs refl ((node_at d.nodes n).first + j) low e

    -- a done demand of its key marks it
    pub mark_new : key d n j ≡ v → (step d (weighted wk n v)).said.number ≡ 0 → has_if (mark after n j) ≡ true
    mark_new e done =
        let x = weighted_answered r wk n v k done in
        let y = seen d (all_stand r).clauses (all_stand r).upheld n x.index s x.low in
        let same : x.index ≡ j = (sharp d.nodes d.inputs d.keys d.lits d.marks d.counters (facts_of d (always_passes r))).apart n x.index j s y.low q.low
        (y.key_is ∙ x.key_is ∙ sym e ∙ sym q.key_is) in
        subst (λ (i : ℕ). has_if (mark after n i) ≡ true) same (x.answered.if_marked refl)

-- the keys above k that are not marked yet are still to be demanded
demanded_all : {d : Db} {w : List ℤ} → Reached d w → (wk : Work) (n k : ℕ) → n < d.counters.nodes → InnerKind d n → (vs : List ℕ)
    → ((j : ℕ) → j < (node_at d.nodes n).count → k < key d n j → (has_if (mark d n j) ≡ true) ⊎ Memᴰ (key d n j) vs)
    → AllDone (demands wk n vs) d → AllDemanded (played (demands wk n vs) d) n k
unfolding played
demanded_all {d = d} {w = w} r wk n k s ik [] f done = λ j hj above. go j (f j hj above)
  where
    go : (j : ℕ) → (has_if (mark d n j) ≡ true) ⊎ Memᴰ (key d n j) [] → has_if (mark d n j) ≡ true
    go j (inl e) = e
    go j (inr m) = absurd (Memᴰ.not-nil m)
demanded_all {d = d} {w = w} r wk n k s ik (v ∷ vs) f (done, rest) =
    demanded_all {d = db_after d (weighted wk n v)} {w = words_after d (weighted wk n v) w} (call d w (weighted wk n v) r) wk n k (let x = (stays r (weighted wk n v) refl).nodes_le in omega arith) (kind_same r wk n v s ik) vs
    (λ j hj above.
    let hj' : j < (node_at d.nodes n).count = let x = count_same r wk n v s ik in omega arith in
    let e = key_same r wk n v s ik j hj' in
    go j hj' e (f j hj' (omega arith)))
    rest
  where
    after : Db
    after = (step d (weighted wk n v)).db

    tail : (j : ℕ) → j < (node_at d.nodes n).count → key after n j ≡ key d n j → (key d n j ≡ v) ⊎ Memᴰ (key d n j) vs → (has_if (mark after n j) ≡ true) ⊎ Memᴰ (key after n j) vs
    tail j hj e (inl x) = inl (mark_new r wk n v s ik j hj x done)
    tail j hj e (inr m) = inr (subst (λ (x : ℕ). Memᴰ x vs) (sym e) m)

    go : (j : ℕ) → j < (node_at d.nodes n).count → key after n j ≡ key d n j → (has_if (mark d n j) ≡ true) ⊎ Memᴰ (key d n j) (v ∷ vs) → (has_if (mark after n j) ≡ true) ⊎ Memᴰ (key after n j) vs
    go j hj e (inl m) = inl (mark_same r wk n v s ik j hj m)
    go j hj e (inr m) = tail j hj e (Memᴰ.cases_cons m)

-- THE RECIPE: vs has every key of node n above k, and the demands of vs are done
pub cap_recipe : {d : Db} {w : List ℤ} → Reached d w → (wk : Work) (n k : ℕ) → n < d.counters.nodes → InnerKind d n → (vs : List ℕ)
    → ((j : ℕ) → j < (node_at d.nodes n).count → k < key d n j → Memᴰ (key d n j) vs) → AllDone (demands wk n vs) d → AllDemanded (played (demands wk n vs) d) n k
cap_recipe r wk n k s ik vs all done = demanded_all r wk n k s ik vs (λ j hj above. inr (all j hj above)) done
