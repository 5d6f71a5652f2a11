-- Each before-commit body has its turn, and a whole script asks only what may be asked.
use Rattle.std.proofs.Common.{◌≡◌, ◌≤◌, ◌^◌, ℕ, zero, suc, Bool, IsTrue, List, [], ◌∷◌, length, drop, refl, sym, subst, arith}
use Rattle.std.specs.Prelude.{Option, Some, None, MatchBool, slice_get}
use Rattle.std.proofs.lemmas.Bool.{le-ltb, lt-ltb}
use Rattle.std.proofs.lemmas.Option.{slice_get_within}
use Rattle.stm_model.specs.Refusing.{deepest}
use Rattle.stm_model.specs.declared.access.Ask.TheVariants as ask
use Rattle.ledger_model.specs.declared.script.Statement.{Statement}
use Rattle.ledger_model.specs.Allowed.{IsAllowed, TurnsTo, first_footing}
use Rattle.ledger_model.specs.Fits.{Places, block_fits}
use Rattle.ledger_model.specs.Run.{Kept, Failed, Retried, statement_count}
use Rattle.ledger_model.specs.Talk.{Talk, Over, Ends, Own, block_part, if_kept, late_talk, next_late, over, own_start, talk, tells}
use Rattle.ledger_model.proofs.Allowing.{May, MayFollow, block}
use Rattle.ledger_model.proofs.Lates.{waiting}
use Rattle.ledger_model.proofs.Standing.{Frame, Stands, behind, footing, waiting_turn}
use Rattle.ledger_model.proofs.Standing as standing

past_end : (bodies : List (List Statement)) (turn : ℕ) → slice_get bodies turn ≡ None → length bodies ≤ turn
past_end [] turn is = omega arith
past_end (body ∷ bodies) zero is = cc
past_end (body ∷ bodies) (suc turn) is = let more = past_end bodies turn is in omega (arith, more)

none_waits : (bodies : List (List Statement)) (turn : ℕ) → waiting (drop turn bodies) ≤ 0 → length bodies ≤ turn
unfolding waiting
none_waits [] turn h = omega arith
none_waits (body ∷ bodies) zero h = absurd (omega (arith, h))
none_waits (body ∷ bodies) (suc turn) h = let more = none_waits bodies turn h in omega (arith, more)

module _ (p : Places) where
  -- ---- before-commit bodies

  -- Behind so many bodies that have had their turn this talk may be asked, or it is over.
  abbrev MayTurn : ℕ → Own → Talk → Type 0
  MayTurn turn s talk = TurnsTo (footing (behind turn) s) (λ g. IsAllowed p.refs g talk) talk

  -- A script or a body that isn't kept gives up.
  ends_follow : (f : Frame) (room : ℕ) (rest : Own → Talk) → ((s : Own) → Stands p f room s → May p f s (rest s)) → MayFollow p f room (if_kept rest over)
  ends_follow f room rest more Kept s word h = more s h
  ends_follow f room rest more (Failed code) s word h = (tt, λ answer small. refl)
  ends_follow f room rest more Retried s word h = (tt, λ answer small. refl)

  none_turns : (turn : ℕ) (s : Own) → length s.lates ≤ turn → MayTurn turn s (Over Kept)
  none_turns turn s past = subst (λ (b : Bool). MatchBool b (IsAllowed p.refs (footing (behind (suc turn)) s) (Over Kept)) (Over Kept ≡ Over Kept)) (sym (le-ltb turn (length s.lates) past)) refl

  body_turns : (turns turn : ℕ) (rest : Own → Talk) (s : Own) (found : Option (List Statement)) → slice_get s.lates turn ≡ found → Stands p (behind turn) (suc turns) s
      → ((t : Own) → Stands p (behind (suc turn)) turns t → MayTurn (suc turn) t (rest t)) → MayTurn turn s (next_late rest s found)
  body_turns turns turn rest s None is h more = none_turns turn s (past_end s.lates turn is)
  body_turns turns turn rest s (Some body) is h more =
      let f : Frame = behind (suc turn) in
      let ends : Own → Talk = λ t. Ends (rest t) in
      let said : Talk = block_part body s (if_kept ends over) in
      let fit = standing.body_fits p (behind turn) (suc turns) turn body s is h in
      let deep : fit.0 ≤ deepest = fit.1 in
      let waits = h.waits in
      let counts = waiting_turn s.lates turn body is in
      let may : May p f s said =
      block p body fit.0 fit.2 f (waiting (drop (suc turn) s.lates)) turns s (if_kept ends over) (omega (arith, deep)) (omega (arith, waits, counts))
      (standing.takes_turn p turn (suc turns) body s is h) (ends_follow f turns ends (λ t after. (omega arith, refl, more t after))) in
      subst (λ (b : Bool). MatchBool b (May p f s said) (said ≡ Over Kept)) (sym (lt-ltb turn (length s.lates) (slice_get_within s.lates turn body is))) may

  turns_to : (turns turn : ℕ) (s : Own) → Stands p (behind turn) turns s → MayTurn turn s (late_talk turns turn s)
  unfolding late_talk
  turns_to zero turn s h = none_turns turn s (none_waits s.lates turn h.waits)
  turns_to (suc turns) turn s h = body_turns turns turn (late_talk turns (suc turn)) s (slice_get s.lates turn) refl h (turns_to turns (suc turn))

  -- ---- whole scripts

  pub script_may : (ms : List Statement) (left : ℕ) → left ≤ deepest → IsTrue (block_fits p left ms) → statement_count ms ≤ 2 ^ 32 → IsAllowed p.refs first_footing (talk ms)
  script_may ms left deep fit few =
      let finishes : Own → Talk = λ s. tells ask.Finish (late_talk (2 ^ 32) 0 s) in
      block p ms left fit (behind 0) 0 (2 ^ 32) own_start (if_kept finishes over) (omega (arith, deep)) (omega (arith, few)) (standing.first_stands p)
      (ends_follow (behind 0) (2 ^ 32) finishes (λ s h. ((refl, refl), λ answer small. turns_to (2 ^ 32) 0 s h)))
