-- Whole runs and lists of local moves, and what a safe world says of its attempts.
use Rattle.std.proofs.Common.{◌≡◌, ℕ, List, [], ◌∷◌, sym, ap, ◌∙◌, subst, inl, inr}
use Rattle.std.proofs.lemmas.Bool.{cases_eq}
use Rattle.stm_model.specs.Moves.{May, MayAll, Move, moved, moved_on}
use Rattle.stm_model.specs.Safe.{HasBegun, IsKept, Opaque, Safe}
use Rattle.stm_model.specs.World.{Event, IsCaller, MayHappen, MayRun, MeetsOwed, Moves, Terms, View, World, attempt_of, cells_in, happened, move, replaced, run, with_view}
use Rattle.stm_model.proofs.HistoryLemmas.{Agrees-from_current}
use Rattle.opacity.specs.Effects.{moved_by}
use Rattle.opacity.specs.Runs.{MeetAllOwed}
use Rattle.opacity.proofs.Places.{replaced_else, replaced_here}
use Rattle.opacity.proofs.Steps.{event_safe}

module _ (lawful : List ℕ → Type 0) (may : List ℕ → List ℕ → Type 0) (terms : Terms) where
  pub run_safe : (events : List Event) (w : World) → MayRun terms w events → MeetAllOwed lawful may terms w events → Safe lawful may terms w → Safe lawful may terms (run w events)
  run_safe [] w able meets safe = safe
  run_safe (event ∷ events) w able meets safe = run_safe events (happened w event) able.1 meets.1 (event_safe lawful may terms w event able.0 meets.0 safe)

  -- the same view as it was
  same_view : (w : World) (p : ℕ) → with_view w p (w.view p) ≡ w
  same_view w p = λ i. record w { view = λ q. again q i }
    where
      again : (q : ℕ) → replaced w.view p (w.view p) q ≡ w.view q
      again q = elim (cases_eq q p) [
        | inl is ↦ ap (λ (n : ℕ). replaced w.view p (w.view p) n) is ∙ replaced_here w.view p (w.view p) ∙ ap w.view (sym is)
        | inr other ↦ replaced_else w.view p (w.view p) q other
      ]

  -- of two views, one after the other, the later one stands
  later_view : (w : World) (p : ℕ) (x y : View) → with_view (with_view w p x) p y ≡ with_view w p y
  later_view w p x y = λ i. record w { view = λ q. later q i }
    where
      later : (q : ℕ) → replaced (replaced w.view p x) p y q ≡ replaced w.view p y q
      later q = elim (cases_eq q p) [
        | inl is ↦ rw (is, replaced_here (replaced w.view p x) p y) (sym (replaced_here w.view p y))
        | inr other ↦ replaced_else (replaced w.view p x) p y q other ∙ replaced_else w.view p x q other ∙ sym (replaced_else w.view p y q other)
      ]

  move_once : (w : World) (p : ℕ) (this : Move) → IsCaller terms p → May (cells_in terms) terms.limit (attempt_of w p) this → Safe lawful may terms w → Safe lawful may terms (move w p this)
  unfolding happened MayHappen MeetsOwed
  move_once w p this caller able safe = event_safe lawful may terms w (Moves p this) (caller, able) tt safe

  pub moves_safe : (moves : List Move) (w : World) (p : ℕ) → IsCaller terms p → MayAll (cells_in terms) terms.limit (attempt_of w p) moves → Safe lawful may terms w → Safe lawful may terms (moved_by w p moves)
  moves_safe [] w p caller able safe = rw (same_view w p) safe
  moves_safe (this ∷ moves) w p caller able safe =
      let x : View = record (w.view p) { attempt = moved (attempt_of w p) this } in
      let here : (move w p this).view p ≡ x = replaced_here w.view p x in
      let on : Safe lawful may terms (moved_by (move w p this) p moves) = moves_safe moves (move w p this) p caller
      (subst (λ (view : View). MayAll (cells_in terms) terms.limit view.attempt moves) (sym here) able.1) (move_once w p this caller able.0 safe) in
      let same : moved_by (move w p this) p moves ≡ moved_by w p (this ∷ moves) =
      ap (λ (view : View). with_view (move w p this) p (record view { attempt = moved_on view.attempt moves })) here ∙ later_view w p x _ in
      subst (Safe lawful may terms) same on

  pub safe_opaque : (w : World) (p : ℕ) → Safe lawful may terms w → IsCaller terms p → HasBegun (attempt_of w p).stage → IsKept (attempt_of w p).stage (attempt_of w p).ending
      → Opaque terms.opening w.history (w.view p).since (attempt_of w p)
  safe_opaque w p safe caller begun kept =
      let own = safe.attempts p caller in
      record {
        prefix = own.sound.prefix;
        fresh = (safe.views p caller.1).fresh begun kept;
        notes = Agrees-from_current terms.opening w.history (attempt_of w p).prefix (attempt_of w p).notes own.sound.notes;
      }
