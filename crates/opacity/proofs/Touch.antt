-- Steps that change one cell's metadata.
use Rattle.std.proofs.Common.{◌≡◌, ◌≢◌, ℕ, nat_eq, ◌<◌, ◌≤◌, ◌⊎◌, true, false, List, length, refl, sym, ◌∙◌, arith, inl, inr, subst}
use Rattle.std.proofs.lemmas.Bool.{cases_eq, cases_lt, eq-eqb, eqb-false, eqb-true}
use Rattle.std.proofs.lemmas.Bool.Decides.{nat_tests}
use Rattle.meta_word.specs.declared.meta.Meta.{Meta}
use Rattle.stm_model.specs.After.{at}
use Rattle.stm_model.specs.Attempt.{Attempt, Ended, Stage, held_at, holds, marks, stamp_of}
use Rattle.stm_model.specs.History.{last}
use Rattle.stm_model.specs.Safe.{HoldsNewest, Safe, SafeAttempt, SafeCell, stamp_on, value_then}
use Rattle.stm_model.specs.World.{IsCaller, Terms, World, attempt_of, cells_in, replaced}
use Rattle.opacity.proofs.Cells.{AlikeAt, MovesOn, SameCell, same_of}
use Rattle.opacity.proofs.Places.{replaced_else, replaced_here}
use Rattle.opacity.proofs.Stands.{Follows, own_follows}
use Rattle.opacity.proofs.Whole.{OwnSafe, others_else, own_here, quiet, safe_moved}

-- an attempt that has ended holds nothing
pub ended_holds : (t : Attempt) (cell : ℕ) → t.stage ≡ Ended → holds t cell ≡ false
unfolding held_at
ended_holds t cell is = rw is refl

ended_marks : (t : Attempt) (cell : ℕ) → t.stage ≡ Ended → marks t cell ≡ false
unfolding held_at
ended_marks t cell is = rw is refl

module _ (lawful : List ℕ → Type 0) (may : List ℕ → List ℕ → Type 0) (terms : Terms) (w : World) (safe : Safe lawful may terms w) where
  nobody_marks : (cell : ℕ) → marks (attempt_of w 0) cell ≡ false
  nobody_marks cell = ended_marks (attempt_of w 0) cell (safe.nobody 0 (inl refl)).stage

  nobody_stamp : stamp_of (attempt_of w 0) ≡ 0
  nobody_stamp = (safe.nobody 0 (inl refl)).stamp

  -- a cell that nobody owns isn't changing, and no decided writer owns it
  pub free_quiet : (cell : ℕ) → cell < cells_in terms → (w.meta cell).owner ≡ 0 → (w.meta cell).changing ≡ false
  free_quiet cell within none = (safe.cells cell within).changing ∙ rw none (nobody_marks cell)

  pub free_stamp : (cell : ℕ) → (w.meta cell).owner ≡ 0 → stamp_on w cell ≡ 0
  free_stamp cell none = rw none nobody_stamp

  -- who holds a cell is its owner
  pub owner_is : (p cell : ℕ) → 0 < p → cell < cells_in terms → holds (attempt_of w p) cell ≡ true → (w.meta cell).owner ≡ p
  owner_is p cell above within held = sym (eqb-true p (w.meta cell).owner (sym ((safe.cells cell within).owner p above) ∙ held))

  pub owner_is_not : (p cell : ℕ) → 0 < p → cell < cells_in terms → holds (attempt_of w p) cell ≡ false → (w.meta cell).owner ≢ p
  owner_is_not p cell above within free = λ same. eqb-false p (w.meta cell).owner (sym ((safe.cells cell within).owner p above) ∙ free) (sym same)

  -- an owner is a caller's number, or nobody's
  pub owner_low : (cell : ℕ) → cell < cells_in terms → (w.meta cell).owner ≤ terms.callers
  owner_low cell within = elim (cases_lt terms.callers (w.meta cell).owner) [
    | inl past ↦
        let owner = (w.meta cell).owner in
        let free : holds (attempt_of w owner) cell ≡ false = ended_holds (attempt_of w owner) cell (safe.nobody owner (inr past)).stage in
        let held : holds (attempt_of w owner) cell ≡ true = (safe.cells cell within).owner owner (omega arith) ∙ eq-eqb owner owner refl in
        let never : true ≡ false = sym held ∙ free in
        cc
    | inr low ↦ low
  ]

module _ (lawful : List ℕ → Type 0) (may : List ℕ → List ℕ → Type 0) (terms : Terms) (w : World) (p : ℕ) (safe : Safe lawful may terms w) (caller : IsCaller terms p)
    (cell : ℕ) (within : cell < cells_in terms) (meta : Meta) (u : Attempt) where
  -- the cell's metadata is this, and the caller's attempt is this one
  abbrev pub touched : World
  touched = quiet w (replaced w.meta cell meta) w.value w.status p (record (w.view p) { attempt = u })

  meta_here : touched.meta cell ≡ meta
  meta_here = replaced_here w.meta cell meta

  own_then : attempt_of touched p ≡ u
  own_then = own_here lawful may terms w (replaced w.meta cell meta) w.value w.status p (record (w.view p) { attempt = u }) safe caller

  others_then : (q : ℕ) → q ≢ p → attempt_of touched q ≡ attempt_of w q
  others_then q other = others_else lawful may terms w (replaced w.meta cell meta) w.value w.status p (record (w.view p) { attempt = u }) safe caller q other

  same_else : (stage : Stage) → (attempt_of w p).stage ≡ stage → (b : ℕ) → b < cells_in terms → b ≢ cell → AlikeAt b u (at (attempt_of w p) stage) → SameCell terms w touched b
  same_else stage is b inside other alike =
      let here : AlikeAt b u (attempt_of w p) = subst (λ (s : Stage). AlikeAt b u (at (attempt_of w p) s)) (sym is) alike in
      same_of terms w touched p b (safe.cells b inside) caller.0 others_then (rw own_then here) (replaced_else w.meta cell meta b other) refl refl refl

  moves_on : (w.meta cell).version ≤ meta.version → ((w.meta cell).version ≡ meta.version → (w.meta cell).pending ≡ true → meta.pending ≡ true)
      → (stamp_on w cell ≡ 0) ⊎ ((w.meta cell).version < meta.version) → MovesOn w touched cell
  moves_on version pending written = record {
    version = rw meta_here version;
    pending = rw meta_here pending;
    written = elim written [ inl none ↦ inl none | inr less ↦ inr (inr (rw meta_here less)) ];
  }

  own_safe : (stage : Stage) → (attempt_of w p).stage ≡ stage → Follows (at (attempt_of w p) stage) u → SafeAttempt terms w p u
      → OwnSafe terms w p (record (w.view p) { attempt = u }) (w.status p)
  own_safe stage is follows attempt =
      let here : Follows (attempt_of w p) u = subst (λ (s : Stage). Follows (at (attempt_of w p) s) u) (sym is) follows in
      let view = safe.views p caller.1 in
      own_follows terms w p (attempt_of w p) (record (w.view p) { attempt = u }) refl view (safe.statuses p caller) (λ n inside same. safe.callers.undecided n p inside same)
      (record { seen = omega arith; high = view.seen; since = refl; clock = view.clock }) here attempt

  pub safe_touched : (stage : Stage) → (attempt_of w p).stage ≡ stage → ((b : ℕ) → b ≢ cell → AlikeAt b u (at (attempt_of w p) stage)) → Follows (at (attempt_of w p) stage) u → SafeAttempt terms w p u
      → (w.meta cell).version ≤ meta.version → ((w.meta cell).version ≡ meta.version → (w.meta cell).pending ≡ true → meta.pending ≡ true)
      → (stamp_on w cell ≡ 0) ⊎ ((w.meta cell).version < meta.version) → SafeCell terms touched cell → Safe lawful may terms touched
  safe_touched stage is alike follows attempt version pending written safe_cell =
      safe_moved lawful may terms w (replaced w.meta cell meta) w.value w.status p (record (w.view p) { attempt = u }) safe caller
      (λ b inside. elim (cases_eq b cell) [
        | inl same ↦ inr (rw same (moves_on version pending written, safe_cell))
        | inr other ↦ inl (same_else stage is b inside other (alike b other))
      ])
      (λ q other. inl refl)
      (own_safe stage is follows attempt)

  -- The cell is rolled back or released: nobody owns it, and it stands as the history left it.
  pub freed : meta.owner ≡ 0 → meta.changing ≡ false → holds u cell ≡ false → (w.meta cell).owner ≡ p → meta.version ≡ last w.history (length w.history) cell
      → w.value cell ≡ value_then terms w (length w.history) cell → SafeCell terms touched cell
  freed none quiet free mine version value = record {
    owner = λ q above. rw (meta_here, none) (gone q above (cases_eq q p));
    changing = rw (meta_here, none) (quiet ∙ sym nobody);
    settled = λ unstamped. record { version = rw meta_here version; value = value };
    written = λ stamped. absurd (never stamped);
  }
    where
      zero_else : attempt_of touched 0 ≡ attempt_of w 0
      zero_else = others_then 0 (omega (arith, caller.0))

      nobody : marks (attempt_of touched 0) cell ≡ false
      nobody = rw zero_else (nobody_marks lawful may terms w safe cell)

      above_zero : (q : ℕ) → 0 < q → nat_eq q 0 ≡ false
      above_zero q above = grind (arith, nat_tests)

      apart : (q owner : ℕ) → 0 < q → q ≢ p → owner ≡ p → nat_eq q owner ≡ nat_eq q 0
      apart q owner above other is = grind (arith, nat_tests)

      gone : (q : ℕ) → 0 < q → (q ≡ p) ⊎ (q ≢ p) → holds (attempt_of touched q) cell ≡ nat_eq q 0
      gone q above (inl is) = rw (is, own_then, free) (sym (above_zero p caller.0))
      gone q above (inr other) = rw (others_then q other) ((safe.cells cell within).owner q above ∙ apart q (w.meta cell).owner above other mine)

      never : 0 < stamp_on touched cell → ⊥
      never stamped =
          let zero : stamp_on touched cell ≡ 0 = rw (meta_here, none, zero_else) (nobody_stamp lawful may terms w safe) in
          omega arith

  -- The cell is the caller's, and its commit isn't decided.
  pub kept : meta.owner ≡ p → holds u cell ≡ true → marks u cell ≡ meta.changing → stamp_of u ≡ 0 → stamp_on w cell ≡ 0 → meta.version ≡ (w.meta cell).version
      → ((w.meta cell).owner ≡ p) ⊎ ((w.meta cell).owner ≡ 0) → SafeCell terms touched cell
  kept owner held marked undecided before version mine = record {
    owner = λ q above. rw (meta_here, owner) (holder q above (cases_eq q p));
    changing = rw (meta_here, owner, own_then) (sym marked);
    settled = λ unstamped.
        let is : HoldsNewest terms w cell = (safe.cells cell within).settled before in
        record { version = rw meta_here (version ∙ is.version); value = is.value };
    written = λ stamped. absurd (never stamped);
  }
    where
      apart : (q number : ℕ) → 0 < q → q ≢ p → (number ≡ p) ⊎ (number ≡ 0) → nat_eq q number ≡ nat_eq q p
      apart q number above other is = grind (arith, nat_tests)

      holder : (q : ℕ) → 0 < q → (q ≡ p) ⊎ (q ≢ p) → holds (attempt_of touched q) cell ≡ nat_eq q p
      holder q above (inl is) = rw (is, own_then, held) (sym (eq-eqb p p refl))
      holder q above (inr other) = rw (others_then q other) ((safe.cells cell within).owner q above ∙ apart q (w.meta cell).owner above other mine)

      never : 0 < stamp_on touched cell → ⊥
      never stamped =
          let zero : stamp_on touched cell ≡ 0 = rw (meta_here, owner, own_then) undecided in
          omega arith
