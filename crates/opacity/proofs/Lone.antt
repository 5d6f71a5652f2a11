-- What an attempt finds where no other caller has one in flight: no cell is another's, and no note is stale.
use Rattle.std.proofs.Common.{◌≡◌, ◌≢◌, ◌⊎◌, ℕ, nat_eq, ◌<◌, ◌&&◌, not, true, false, Bool, if◌then◌else◌, List, length, refl, sym, ap, ◌∙◌, arith, inl, inr}
use Rattle.std.proofs.lemmas.Bool.{and_from, and_right, cases_eq, eq-eqb}
use Rattle.std.proofs.lemmas.Bool.Decides.{nat_tests}
use Rattle.meta_word.specs.Meta.{changing_by_another, owned_by_another, still_has}
use Rattle.stm_model.specs.declared.note.Note.{Note}
use Rattle.stm_model.specs.Attempt.{Attempt, holds, stamp_of}
use Rattle.stm_model.specs.History.{IsCurrent, last}
use Rattle.stm_model.specs.Safe.{Safe, SafeAttempt, stamp_on}
use Rattle.stm_model.specs.World.{IsCaller, Terms, World, attempt_of, cells_in}
use Rattle.opacity.specs.Alone.{IsLone}
use Rattle.opacity.proofs.Samples.{not_written}
use Rattle.opacity.proofs.Touch.{ended_holds}

nobody_else : (own owner : ℕ) → (owner ≡ 0) ⊎ (owner ≡ own) → (not (nat_eq owner 0) && not (nat_eq owner own)) ≡ false
nobody_else own owner is = grind (arith, nat_tests)

-- a test that is true, and one that is false, choose
pub chosen : {X : Type 0} (P : X → Type 0) (b : Bool) (x y : X) → b ≡ true → P x → P (if b then x else y)
chosen P b x y is h = rw is h

pub passed : {X : Type 0} (P : X → Type 0) (b : Bool) (x y : X) → b ≡ false → P y → P (if b then x else y)
passed P b x y is h = rw is h

module _ (lawful : List ℕ → Type 0) (may : List ℕ → List ℕ → Type 0) (terms : Terms) (w : World) (p : ℕ) (safe : Safe lawful may terms w) (caller : IsCaller terms p) (lone : IsLone w p) where
  abbrev t : Attempt
  t = attempt_of w p

  own : SafeAttempt terms w p t
  own = safe.attempts p caller

  owner_here : (cell : ℕ) → cell < cells_in terms → ((w.meta cell).owner ≡ 0) ⊎ ((w.meta cell).owner ≡ t.own)
  owner_here cell within = go (cases_eq (w.meta cell).owner 0) (cases_eq (w.meta cell).owner p)
    where
      go : ((w.meta cell).owner ≡ 0) ⊎ ((w.meta cell).owner ≢ 0) → ((w.meta cell).owner ≡ p) ⊎ ((w.meta cell).owner ≢ p) → ((w.meta cell).owner ≡ 0) ⊎ ((w.meta cell).owner ≡ t.own)
      go (inl none) same = inl none
      go (inr some) (inl same) = inr (same ∙ sym own.sound.own)
      go (inr some) (inr other) =
          let owner = (w.meta cell).owner in
          let free : holds (attempt_of w owner) cell ≡ false = ended_holds (attempt_of w owner) cell (lone owner other) in
          let held : holds (attempt_of w owner) cell ≡ true = (safe.cells cell within).owner owner (omega arith) ∙ eq-eqb owner owner refl in
          let never : true ≡ false = sym held ∙ free in
          cc

  pub not_another : (cell : ℕ) → cell < cells_in terms → owned_by_another t.own (w.meta cell) ≡ false
  not_another cell within = nobody_else t.own (w.meta cell).owner (owner_here cell within)

  pub not_changing : (cell : ℕ) → cell < cells_in terms → changing_by_another t.own (w.meta cell) ≡ false
  not_changing cell within = and_right (w.meta cell).changing (owned_by_another t.own (w.meta cell)) (not_another cell within)

  pub still : (cell version : ℕ) → cell < cells_in terms → (w.meta cell).version ≡ version → still_has t.own version (w.meta cell) ≡ true
  still cell version within same = and_from (nat_eq (w.meta cell).version version) (not (changing_by_another t.own (w.meta cell))) (eq-eqb _ _ same) (rw (not_changing cell within) refl)

  -- a cell that no decided writer owns has its last writer's version
  newest : (cell : ℕ) → cell < cells_in terms → stamp_of t ≡ 0 → (w.meta cell).version ≡ last w.history (length w.history) cell
  newest cell within undecided =
      let quiet : changing_by_another p (w.meta cell) ≡ false = rw own.sound.own at (not_changing cell within) in
      let none : stamp_on w cell ≡ 0 = not_written lawful may terms w safe p cell within undecided quiet in
      ((safe.cells cell within).settled none).version

  -- a note at the end of the history has its cell's version
  pub note_now : (note : Note) → note.addr.0 < cells_in terms → stamp_of t ≡ 0 → t.prefix ≡ length w.history → IsCurrent terms.opening w.history t.prefix note → (w.meta note.addr.0).version ≡ note.version
  note_now note within undecided here current =
      newest note.addr.0 within undecided ∙ sym (current.version ∙ ap (λ (n : ℕ). last w.history n note.addr.0) here)
