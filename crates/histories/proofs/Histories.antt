-- Histories of public calls. A done fresh call on any rows begins one; each further call, done or refused, is a step on the rows and counters
-- as the call before it left them; a done fresh call begins anew. The words of a history are all clause words appended since, emptied ones included.
use Rattle.std.specs.Prelude.{◌≡◌, refl, Bool, true, false, cond, List, [], ◌∷◌, ◌++◌, ℕ, ℤ}
use Rattle.std.proofs.Common.{sym, ◌∙◌, ap, subst, arith, eqb-true}
use Rattle.paper.specs.Calls.{Db, Call, fresh, leaf, dummy, inner, unweighted, weighted, reserve, value, reset, empty, check, checked, step, value_call, check_call, appended}
use Rattle.paper.specs.Sums.{played}
use Rattle.meaning.specs.Table.{History}
use Rattle.meaning.proofs.Words.{words_back}
use Rattle.histories.specs.Upheld.{tab_of, marks_of, Upheld, Moved}
use Rattle.histories.proofs.Upheld.{moved_none}
use Rattle.histories.proofs.Stepped.{unweighted_moves, weighted_moves, reserve_moves, reset_moves, empty_moves}
use Rattle.histories.proofs.Added.{leaf_moves, dummy_moves, inner_moves, fresh_upheld, fresh_refused}
use Rattle.histories.specs.Histories.{Goes, Reached, Stands, begin, call, clauses_of, db_after, restarts, words_after, words_of}

pub goes : (d : Db) (h : History) → Upheld d h → (k : Call) → restarts d k ≡ false → checked (step d k).db ≡ true → Goes d h k
unfolding words_after step value_call check_call
goes d h u (fresh first last) e ok =
    record {
      appends = λ w. ap (λ (b : Bool). cond b [] (w ++ appended d.counters (db_after d (fresh first last)))) e;
      moved = subst (λ (x : Db). Moved d x h false) (sym (fresh_refused d first last e)) (moved_none d h u false);
    }
goes d h u (leaf x) e ok = record { appends = λ w. refl; moved = leaf_moves d h u x ok }
goes d h u dummy e ok = record { appends = λ w. refl; moved = dummy_moves d h u ok }
goes d h u (inner j) e ok = record { appends = λ w. refl; moved = inner_moves d h u j ok }
goes d h u (unweighted wk id i m) e ok = record { appends = λ w. refl; moved = unweighted_moves d h u wk id i m ok }
goes d h u (weighted wk id v) e ok = record { appends = λ w. refl; moved = weighted_moves d h u wk id v ok }
goes d h u (reserve wk id) e ok = record { appends = λ w. refl; moved = reserve_moves d h u wk id ok }
goes d h u (value wk id a) e ok = record { appends = λ w. refl; moved = moved_none d h u false }
goes d h u reset e ok = record { appends = λ w. refl; moved = reset_moves d h u ok }
goes d h u empty e ok = record { appends = λ w. refl; moved = empty_moves d h u ok }
goes d h u check e ok = record { appends = λ w. refl; moved = moved_none d h u false }

restarted : (d : Db) (k : Call) (w : List ℤ) → restarts d k ≡ true → Stands (db_after d k) (words_after d k w)
unfolding words_after
restarted d (fresh first last) w e =
    record { clauses = []; upheld = fresh_upheld d first last (eqb-true _ _ e); words = ap (λ (b : Bool). cond b [] (w ++ appended d.counters (db_after d (fresh first last)))) e }
restarted d (leaf x) w e = absurd (let z : ◌≡◌ {A = ℕ} 0 1 = cc in let y : ⊥ = omega arith in y)
restarted d dummy w e = absurd (let z : ◌≡◌ {A = ℕ} 0 1 = cc in let y : ⊥ = omega arith in y)
restarted d (inner j) w e = absurd (let z : ◌≡◌ {A = ℕ} 0 1 = cc in let y : ⊥ = omega arith in y)
restarted d (unweighted wk id i m) w e = absurd (let z : ◌≡◌ {A = ℕ} 0 1 = cc in let y : ⊥ = omega arith in y)
restarted d (weighted wk id v) w e = absurd (let z : ◌≡◌ {A = ℕ} 0 1 = cc in let y : ⊥ = omega arith in y)
restarted d (reserve wk id) w e = absurd (let z : ◌≡◌ {A = ℕ} 0 1 = cc in let y : ⊥ = omega arith in y)
restarted d (value wk id a) w e = absurd (let z : ◌≡◌ {A = ℕ} 0 1 = cc in let y : ⊥ = omega arith in y)
restarted d reset w e = absurd (let z : ◌≡◌ {A = ℕ} 0 1 = cc in let y : ⊥ = omega arith in y)
restarted d empty w e = absurd (let z : ◌≡◌ {A = ℕ} 0 1 = cc in let y : ⊥ = omega arith in y)
restarted d check w e = absurd (let z : ◌≡◌ {A = ℕ} 0 1 = cc in let y : ⊥ = omega arith in y)

module _ (keeps : (d : Db) (k : Call) → checked d ≡ true → checked (step d k).db ≡ true) where
  pub stands : {d : Db} {w : List ℤ} → Reached d w → Stands d w
  stands (begin d first last e) = record { clauses = []; upheld = fresh_upheld d first last e; words = refl }
  stands (call d w k r) = go (stands r) (restarts d k) refl
    where
      go : Stands d w → (b : Bool) → restarts d k ≡ b → Stands (db_after d k) (words_after d k w)
      go s true e = restarted d k w e
      go s false e =
          let g = goes d s.clauses s.upheld k e (keeps d k s.upheld.passes) in
          let m = g.moved in
          record { clauses = m.now; upheld = m.upheld; words = g.appends w ∙ ap (λ (x : List ℤ). x ++ appended d.counters (db_after d k)) s.words ∙ sym m.words }

-- the words of a history, read as clauses, are its clauses
pub read : {d : Db} {w : List ℤ} (s : Stands d w) → clauses_of w ≡ s.clauses
read {d} {w} s = ap clauses_of s.words ∙ words_back (tab_of d) (marks_of d) s.clauses s.upheld.inv

pub history : (ks : List Call) (d : Db) (w : List ℤ) → Reached d w → Reached (played ks d) (words_of ks d w)
unfolding played words_of
history [] d w r = r
history (k ∷ ks) d w r = history ks (step d k).db (words_after d k w) (call d w k r)

-- .. that begins with a done fresh call, on any rows
pub history_of : (first last : ℕ) (ks : List Call) (d : Db) → (step d (fresh first last)).said.number ≡ 0 → Reached (played ks (step d (fresh first last)).db) (words_of ks (step d (fresh first last)).db [])
history_of first last ks d e = history ks (step d (fresh first last)).db [] (begin d first last e)
