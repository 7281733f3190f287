-- What a dry run and a run in earnest tell, by the plain run: of any run that has the laws of `Runs`.
use Rattle.std.specs.Prelude.{◌≡◌, refl, List, ℕ, ◌+◌, ◌≤◌, ◌<◌, ◌^◌, min, ℤ, length}
use Rattle.std.proofs.Common.{sym, ap, ap₂, ◌∙◌, le_refl, arith, length-append}
use Rattle.paper.specs.Plain.{St, grow, start, words_of}
use Rattle.paper.specs.declared.Run.{Run}
use Rattle.clause.specs.Row.{Row, lay, at_row}
use Rattle.count.specs.Run.{Fit, state, Ran, Ends}
use Rattle.facts.specs.Sinks.{through}
use Rattle.runs.specs.Counts.{laid, tally, Like, zeros, AnyRun, Runs}
use Rattle.runs.proofs.Counts.{laid_hom, sets_out, zeros_length}
use Rattle.runs.specs.Dry.{Known, Real, dry_run, plain_of, Twice}

module _ (run : AnyRun) (laws : Runs run) (k : ℕ) (lits : List ℤ) (marks : List ℕ) where
  abbrev plain : ℕ → St (List ℤ)
  plain n = plain_of run k lits marks n

  next_bound : (n : ℕ) → 1 ≤ n → (plain n).next ≤ n + zeros lits
  next_bound n h =
      let r = laws.sum (n + zeros lits) k (start lits marks n) (start lits marks n) (record { same = refl; some = h; sum = refl }) in
      omega (arith, r.sum)

  -- from a and from b as the first free variable: as many variables, and as many words
  same_counts : (a b : ℕ) → 1 ≤ a → 1 ≤ b → Like a b (through length (plain a)) (through length (plain b))
  same_counts a b p q =
      let m : (out : List ℤ) (c : _) → length (grow out c) ≡ tally (length out) c = λ out c. length-append out (words_of c) in
      rw (laws.hom (List ℤ) ℕ grow tally length m k (start lits marks a), laws.hom (List ℤ) ℕ grow tally length m k (start lits marks b))
      (laws.like a b k _ _ (record { marks = refl; shape = refl; gap = omega arith; some_s = p; some_t = q; out = refl }))

  module _ (row : List ℤ) (small : length row ≤ 2 ^ 62) where
    -- a run over the row is the plain run, laid there
    run_is : (u : Run) → u.words ≤ 2 ^ 62 → run Row lay k (state lits marks row u) ≡ through (laid row u.words) (plain u.next)
    run_is u h =
        let e : min (u.words + 0) (2 ^ 62) ≡ u.words = omega arith in
        sym
        (laws.hom (List ℤ) Row grow lay (laid row u.words) (laid_hom row u.words small) k (start lits marks u.next)
        ∙ ap (λ (n : ℕ). run Row lay k (record { lits = lits; marks = marks; next = u.next; out = at_row row n })) e)

    pub dry_ends : length lits < 2 ^ 31 → Ends k (λ f. run Row lay f (state lits marks row (dry_run row)))
    dry_ends h =
        let e : (run Row lay k (state lits marks row (dry_run row))).next ≡ (plain 1).next = ap (λ (s : St Row). s.next) (run_is (dry_run row) small) in
        record { fuel = k; enough = le_refl k; within = omega (arith, e, next_bound 1 (omega arith), zeros_length lits) }

    pub real_ends : (u : Run) → u.words ≤ 2 ^ 62 → (plain u.next).next ≤ 2 ^ 31 → Ends k (λ f. run Row lay f (state lits marks row u))
    real_ends u h b =
        let e : (run Row lay k (state lits marks row u)).next ≡ (plain u.next).next = ap (λ (s : St Row). s.next) (run_is u h) in
        record { fuel = k; enough = le_refl k; within = omega arith }

    -- where there are variables for every cell
    pub few_ends : (u : Run) → u.words ≤ 2 ^ 62 → 1 ≤ u.next → u.next + length lits ≤ 2 ^ 31 → Ends k (λ f. run Row lay f (state lits marks row u))
    few_ends u h s b = real_ends u h (omega (arith, next_bound u.next s, zeros_length lits))

    -- the counts of the dry run
    module _ (few : length lits < 2 ^ 31) (ls : List ℤ) (ms : List ℕ) (r : List ℤ) (d : Run) (is : (f : ℕ) → k ≤ f → state ls ms r d ≡ run Row lay f (state lits marks row (dry_run row))) where
      dry_is : state ls ms r d ≡ through (laid row (length row)) (plain 1)
      dry_is = is k (le_refl k) ∙ run_is (dry_run row) small

      pub known : (n : ℕ) → 1 ≤ n → Known (plain n) n row r d
      known n h =
          let e : d.next ≡ (plain 1).next = ap (λ (s : St Row). s.next) dry_is in
          let c = same_counts n 1 h (omega arith) in
          record {
            next = omega (arith, c.gap);
            words = ap (λ (s : St Row). s.out.words) dry_is ∙ ap (λ (m : ℕ). min (length row + m) (2 ^ 62)) (sym c.out);
            row_is = ap (λ (s : St Row). s.out.row) dry_is ∙ sets_out (plain 1).out row (length row) (le_refl (length row));
            fits = omega (arith, e, next_bound 1 (omega arith), zeros_length lits);
          }

    -- the rows and counters of the run in earnest
    pub real : (u : Run) (ls : List ℤ) (ms : List ℕ) (r : List ℤ) (d : Run) → u.words + length (plain u.next).out ≤ 2 ^ 62
        → ((f : ℕ) → k ≤ f → state ls ms r d ≡ run Row lay f (state lits marks row u)) → Real (plain u.next) u row ls ms r d
    real u ls ms r d h is =
        let e : state ls ms r d ≡ through (laid row u.words) (plain u.next) = is k (le_refl k) ∙ run_is u (omega arith) in
        let g : min (u.words + length (plain u.next).out) (2 ^ 62) ≡ u.words + length (plain u.next).out = omega arith in
        record {
          lits = ap (λ (s : St Row). s.lits) e;
          marks = ap (λ (s : St Row). s.marks) e;
          row_is = ap (λ (s : St Row). s.out.row) e;
          next = ap (λ (s : St Row). s.next) e;
          words = ap (λ (s : St Row). s.out.words) e ∙ g;
        }

-- what a run keeps, of the rows that the dry run works on
pub fit_dry : (ns : List ℕ) (ins lits wl : List ℤ) (marks wm : List ℕ) (u : Run) (len : ℕ) → wl ≡ lits → wm ≡ marks → len ≤ 2 ^ 62 → Fit ns ins lits marks u → Fit ns ins wl wm (record { next = 1; words = len })
fit_dry ns ins lits wl marks wm u len a b h f =
    rw (a, b)
    (record { ok = f.ok; same = f.same; neg_ins = f.neg_ins; neg_lits = f.neg_lits; some = omega arith; counted = h })

-- any run that has the laws of `Runs` can be run twice
pub twice : (run : AnyRun) (laws : Runs run) (k : ℕ) → Twice (run Row lay) (plain_of run k) k
twice run laws k =
    record {
      dry_ends = λ lits marks row small few. dry_ends run laws k lits marks row small few;
      real_ends = λ lits marks row small u h b. real_ends run laws k lits marks row small u h b;
      known = λ lits marks row small few ls ms r d is n h. known run laws k lits marks row small few ls ms r d is n h;
      real = λ lits marks row small u h ls ms r d is. real run laws k lits marks row small u ls ms r d h is;
    }

-- rows that came back as those of a run
pub ran_back : {ns : List ℕ} {ins : List ℤ} {k : ℕ} {s : ℕ → St Row} {l l' : List ℤ} {m m' : List ℕ} {r r' : List ℤ} {u : Run}
    → l' ≡ l → m' ≡ m → r' ≡ r → Ran ns ins k s l m r u → Ran ns ins k s l' m' r' u
ran_back p q e h = rw (p, q, e) h

-- what the dry run on copies tells
pub dry_known : {at : ℕ → St Row → St Row} {plain : List ℤ → List ℕ → ℕ → St (List ℤ)} {k : ℕ} → Twice at plain k
    → {lits wl : List ℤ} {marks wm : List ℕ} {row : List ℤ} → wl ≡ lits → wm ≡ marks → length row ≤ 2 ^ 62 → length lits < 2 ^ 31
    → {ls : List ℤ} {ms : List ℕ} {r : List ℤ} {d : Run} → ((f : ℕ) → k ≤ f → state ls ms r d ≡ at f (state wl wm row (dry_run row)))
    → (n : ℕ) → 1 ≤ n → Known (plain lits marks n) n row r d
dry_known {at} t {row = row} a b small few is n h =
    t.known _ _ row small few _ _ _ _ (λ f l. is f l ∙ ap₂ (λ (x : List ℤ) (z : List ℕ). at f (state x z row (dry_run row))) a b) n h

-- what the run in earnest leaves, over the row as the dry run left it
pub earnest : {at : ℕ → St Row → St Row} {plain : List ℤ → List ℕ → ℕ → St (List ℤ)} {k : ℕ} → Twice at plain k
    → {lits : List ℤ} {marks : List ℕ} {row old : List ℤ} → row ≡ old → length old ≤ 2 ^ 62 → (u : Run) → u.words + length (plain lits marks u.next).out ≤ 2 ^ 62
    → {ls : List ℤ} {ms : List ℕ} {r : List ℤ} {d : Run} → ((f : ℕ) → k ≤ f → state ls ms r d ≡ at f (state lits marks row u))
    → Real (plain lits marks u.next) u old ls ms r d
earnest {at} t {lits} {marks} {old = old} e small u h is =
    t.real _ _ old small u h _ _ _ _ (λ f l. is f l ∙ ap (λ (x : List ℤ). at f (state lits marks x u)) e)
