-- What a script without maps asks, heard on plain contents, is its run.
use Rattle.std.proofs.Common.{◌≡◌, ◌≤◌, ◌^◌, ℕ, zero, suc, IsTrue, List, [], ◌∷◌, ◌++◌, length, refl, ap, sym, ◌∙◌, arith, append_assoc, length-append}
use Rattle.std.specs.Prelude.{slice_get}
use Rattle.std.specs.List.{AllByRecursion}
use Rattle.stm_model.specs.declared.access.Ask.TheVariants as ask
use Rattle.ledger_model.specs.declared.job.Contents.{Contents}
use Rattle.ledger_model.specs.declared.script.Statement.{Statement}
use Rattle.ledger_model.specs.Fits.{Places, block_fits}
use Rattle.ledger_model.specs.Growth.{LeavesMaps}
use Rattle.ledger_model.specs.Heard.{Heard, Undoable, hear, heard_at, heard_run, hearing_start}
use Rattle.ledger_model.specs.Run.{State, Outcome, End, Kept, Failed, Retried, and_then, run_block, statement_count, late_bodies, next_late, start, run}
use Rattle.ledger_model.specs.Talk.{Ends, Own, tells, if_kept, block_part, over, late_talk, talk}
use Rattle.ledger_model.specs.Talk.{next_late as late_next}
use Rattle.ledger_model.proofs.Growing.{run_sizes}
use Rattle.ledger_model.proofs.Lates.{turns_suffice}
use Rattle.ledger_model.proofs.Moments.{FitsLate}
use Rattle.ledger_model.proofs.Alike.{own, goes_on}
use Rattle.ledger_model.proofs.Following.{block}
use Rattle.ledger_model.proofs.Staying.{Stays}
use Rattle.ledger_model.proofs.Staying as staying

module _ (p : Places) (no_maps : p.maps ≡ 0) (no_slots : p.snaps ≡ 0) where
  -- ---- before-commit bodies

  -- what is heard is this part of a run, which leaves the maps and the bodies that wait as they may be
  abbrev pub IsHeard : Heard → List Undoable → State → Outcome → Type 0
  IsHeard heard saved s o = (heard ≡ heard_run saved o) × Stays p s o.after

  -- from where the bodies in front have had their turn
  LatesFollow : ℕ → Type 0
  LatesFollow turns = (front : List (List Statement)) (saved : List Undoable) (s : State) → AllByRecursion (FitsLate p) s.lates
      → IsHeard (hear (late_talk turns (length front) (own front s)) (heard_at saved s)) saved s (late_bodies turns s)

  -- what is heard behind a body that ended so
  behind : (turns : ℕ) → LatesFollow turns → (front : List (List Statement)) (saved : List Undoable) (o : Outcome) → AllByRecursion (FitsLate p) o.after.lates
      → IsHeard (goes_on front (if_kept (λ t. Ends (late_talk turns (length front) t)) over) saved o) saved o.after (and_then o (late_bodies turns))
  unfolding LatesFollow
  behind turns more front saved o fit = by_end o.end o.after fit where
    by_end : (end : End) (after : State) → AllByRecursion (FitsLate p) after.lates
        → IsHeard (goes_on front (if_kept (λ t. Ends (late_talk turns (length front) t)) over) saved (record { end = end; after = after })) saved after (and_then (record { end = end; after = after }) (late_bodies turns))
    by_end Kept after fit = more front saved after fit
    by_end (Failed code) after fit = (refl, staying.same p after after refl refl refl refl)
    by_end Retried after fit = (refl, staying.same p after after refl refl refl refl)

  get_first : (front bodies : List (List Statement)) → slice_get (front ++ bodies) (length front) ≡ slice_get bodies 0
  get_first [] bodies = refl
  get_first (body ∷ front) bodies = get_first front bodies

  length-push : (front : List (List Statement)) (body : List Statement) → length (front ++ body ∷ []) ≡ suc (length front)
  length-push front body = let h = length-append front (body ∷ []) in omega (arith, h)

  body_follows : (turns : ℕ) → LatesFollow turns → (front : List (List Statement)) (saved : List Undoable) (s : State) (bodies : List (List Statement)) → s.lates ≡ bodies
      → AllByRecursion (FitsLate p) bodies
      → IsHeard (hear (late_next (late_talk turns (suc (length front))) (own front s) (slice_get bodies 0)) (heard_at saved s)) saved s (next_late (late_bodies turns) s bodies)
  body_follows turns more front saved s [] is fit = (refl, staying.same p s s refl refl refl refl)
  body_follows turns more front saved s (body ∷ rest) is fit =
      let t : State = record s { lates = rest } in
      let now_front : List (List Statement) = front ++ body ∷ [] in
      let first = block p no_maps no_slots body fit.0.0 fit.0.1 in
      let o : Outcome = run_block body t in
      let last = behind turns more now_front saved o ((first.stays t).lates fit.1) in
      let taken : own now_front t ≡ own front s =
      ap (λ lates. record { registers = s.registers; lates = lates }) (append_assoc front (body ∷ []) rest ∙ ap (λ lates. front ++ lates) (sym is)) in
      let counted = length-push front body in (
        ap (λ (own_now : Own). hear (block_part body own_now (if_kept (λ u. Ends (late_talk turns (suc (length front)) u)) over)) (heard_at saved s)) (sym taken)
            ∙ (ap (λ (n : ℕ). hear (block_part body (own now_front t) (if_kept (λ u. Ends (late_talk turns n u)) over)) (heard_at saved t)) (sym counted)
            ∙ (first.alike now_front (if_kept (λ u. Ends (late_talk turns (length now_front) u)) over) saved t ∙ last.0)),
        staying.joined p s t _ (record { totals = refl; maps = refl; slots = refl; lates = λ fits. fit.1 }) (staying.joined p t o.after _ (first.stays t) last.1),
      )

  lates_follow : (turns : ℕ) → LatesFollow turns
  unfolding LatesFollow late_talk late_bodies
  lates_follow zero front saved s fit = (refl, staying.same p s s refl refl refl refl)
  lates_follow (suc turns) front saved s fit =
      let rest = body_follows turns (lates_follow turns) front saved s s.lates refl fit in
      (ap (λ found. hear (late_next (late_talk turns (suc (length front))) (own front s) found) (heard_at saved s)) (get_first front s.lates) ∙ rest.0, rest.1)

  -- ---- whole scripts

  -- with any number of turns
  pub whole : (ms : List Statement) (left : ℕ) (contents : Contents) (turns : ℕ) → IsTrue (block_fits p left ms)
      → IsHeard (hear (block_part ms (own [] (start contents)) (if_kept (λ s. tells ask.Finish (late_talk turns 0 s)) over)) (hearing_start contents)) [] (start contents)
      (and_then (run_block ms (start contents)) (late_bodies turns))
  unfolding LatesFollow
  whole ms left contents turns fit =
      let first = block p no_maps no_slots ms left fit in
      let s : State = start contents in
      let o : Outcome = run_block ms s in
      let last = by_end o.end o.after ((first.stays s).lates tt) in
      (first.alike [] (if_kept (λ s. tells ask.Finish (late_talk turns 0 s)) over) [] s ∙ last.0, staying.joined p s o.after _ (first.stays s) last.1) where
        by_end : (end : End) (after : State) → AllByRecursion (FitsLate p) after.lates
            → IsHeard (goes_on [] (if_kept (λ s. tells ask.Finish (late_talk turns 0 s)) over) [] (record { end = end; after = after })) [] after
            (and_then (record { end = end; after = after }) (late_bodies turns))
        by_end Kept after fit = lates_follow turns [] [] after fit
        by_end (Failed code) after fit = (refl, staying.same p after after refl refl refl refl)
        by_end Retried after fit = (refl, staying.same p after after refl refl refl refl)

  pub script_is_its_run : (ms : List Statement) (left : ℕ) (contents : Contents) → IsTrue (block_fits p left ms) → statement_count ms ≤ 2 ^ 32
      → hear (talk ms) (hearing_start contents) ≡ heard_run [] (run ms contents)
  script_is_its_run ms left contents fit few = (whole ms left contents (2 ^ 32) fit).0 ∙ ap (heard_run []) (turns_suffice ms contents (2 ^ 32) few)

  pub run_leaves_maps : (ms : List Statement) (left : ℕ) (contents : Contents) → IsTrue (block_fits p left ms) → LeavesMaps (start contents) (run ms contents).after
  run_leaves_maps ms left contents fit =
      let h = (whole ms left contents (statement_count ms) fit).1 in
      record { totals = h.totals; maps = h.maps; slots = h.slots; used = (run_sizes ms contents).used }
