-- A trace in which it is nobody's turn.
use Rattle.std.proofs.Common.{◌≡◌, inl, inr, ℕ, suc, ◌<◌, true, false, List, [], length, None, refl, sym, ap, ◌∙◌, arith}
use Rattle.std.proofs.lemmas.Bool.{both_ways, cases_lt, MatchBool-at_false}
use Rattle.std.proofs.lemmas.List.FromFn.{fill_by_all}
use Rattle.stm_model.specs.Attempt.{Ended, Stage, flies_at}
use Rattle.stm_model.specs.History.{state}
use Rattle.stm_model.specs.Safe.{caller_at}
use Rattle.stm_model.specs.declared.settings.Settings.{Settings}
use Rattle.stm_model.proofs.HistoryLemmas.{length-state}
use Rattle.opacity.specs.Alone.{NoneInFlight}
use Rattle.opacity.proofs.AtRest.{rests_newest}
use Rattle.ledger_model.specs.declared.job.Job.{Job}
use Rattle.ledger_model.specs.declared.listing.Listing.{Listing}
use Rattle.ledger_model.specs.Contents.{opening_contents}
use Rattle.ledger_model.specs.Traced.{IsListed, MayBeTraced, Trace, attempt_in, is_flying, may_begin, refs_in, terms_of_job, whose, workers_of}
use Rattle.ledger_model.proofs.Listed.{listed_sized}
use Rattle.ledger_model.proofs.Lists.{neither, none_where}
use Rattle.trace_laws.proofs.Told.{with_refs}
use Rattle.trace_laws.proofs.Tracked.{HasWriter, Rests, Tracked, TracksWorker, contents_at}
use Rattle.trace_laws.proofs.Lists.{each_has}
use Rattle.trace_laws.proofs.Numbers.{IsBetween, Has-range}

pub ended_here : (stage : Stage) → flies_at stage ≡ false → stage ≡ Ended
unfolding flies_at
ended_here Ended rests = refl
ended_here stage rests = absurd (both_ways true rests refl)

flies_not : (stage : Stage) → stage ≡ Ended → flies_at stage ≡ false
unfolding flies_at
flies_not stage is = ap (λ (stage : Stage). flies_at stage) is

-- It is nobody's turn in a tracked trace, and this is its listing.
pub record Rested (lawful : List ℕ → Type 0) (may : List ℕ → List ℕ → Type 0) (job : Job) (settings : Settings) (s : Trace) (listing : Listing) : Type 0 where
  pub fits : MayBeTraced job settings
  pub tracked : Tracked lawful may job settings s
  pub over : whose job settings s ≡ None
  pub listed : IsListed job s listing

module _ {lawful : List ℕ → Type 0} {may : List ℕ → List ℕ → Type 0} {job : Job} {settings : Settings} {s : Trace} {listing : Listing} (r : Rested lawful may job settings s listing) where
  abbrev n : ℕ
  n = length job.workers

  abbrev tracked : Tracked lawful may job settings s
  tracked = r.tracked

  pub tracks : (p : ℕ) → IsBetween 1 (length job.workers) p → TracksWorker job settings s p
  tracks p within = tracked.workers p within.0 (omega arith)

  pub not_flying : (p : ℕ) → IsBetween 1 (length job.workers) p → is_flying s p ≡ false
  not_flying p within =
      each_has (λ p. is_flying s p ≡ false) (workers_of job) p (none_where (is_flying s) (workers_of job) (neither _ _ r.over).0) (Has-range 1 n p within)

  pub may_not_begin : (p : ℕ) → IsBetween 1 (length job.workers) p → may_begin job settings s p ≡ false
  may_not_begin p within =
      each_has (λ p. may_begin job settings s p ≡ false) (workers_of job) p (none_where (may_begin job settings s) (workers_of job) (neither _ _ r.over).1) (Has-range 1 n p within)

  pub rests : (p : ℕ) → IsBetween 1 (length job.workers) p → Rests s p
  rests p within = MatchBool-at_false _ _ (not_flying p within) (tracks p within).stands

  -- Each attempt is over.
  all_over : (p : ℕ) → 0 < p → (attempt_in s p).stage ≡ Ended
  all_over p from = elim (cases_lt n p) [
    | inl past ↦ tracked.others p past
    | inr within ↦ ended_here (attempt_in s p).stage (not_flying p (omega arith))
  ]

  none_in_flight : NoneInFlight (terms_of_job job settings) s.world
  none_in_flight p caller = all_over p caller.0

  -- Each entry is that of a listed writer.
  pub written : (i : ℕ) → i < length s.world.history → HasWriter s.rows (suc i)
  written i less = elim (tracked.accounted i less) [
    | inl writer ↦ writer
    | inr flying ↦
        let p = caller_at s.world i in
        absurd (both_ways (is_flying s p) (flies_not (attempt_in s p).stage (all_over p (tracked.safe.callers.callers i less).0)) flying.0)
  ]

  -- The references hold what the whole history left.
  pub contents_last : record (opening_contents job) { refs = refs_in job s.world } ≡ contents_at job s.world.history (length s.world.history)
  contents_last =
      let opening : List ℕ = (opening_contents job).refs in
      let h = s.world.history in
      let cells : length opening ≡ job.refs = (listed_sized job [] 0).0 in
      let held = fill_by_all (λ cell. s.world.value cell) (state opening h (length h)) job.refs 0 (length-state opening h (length h) ∙ cells)
      (λ cell less. sym (rests_newest lawful may (terms_of_job job settings) s.world tracked.safe none_in_flight cell (omega arith)).value) in
      ap (λ (refs : List ℕ). with_refs (opening_contents job) refs) (sym held)
