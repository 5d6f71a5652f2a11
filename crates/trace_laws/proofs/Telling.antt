-- What rows and rolled lines show of the history, they tell of the listed writers.
use Rattle.std.proofs.Common.{◌≡◌, ℕ, ◌-◌, ◌≤◌, true, false, List, length, sym, ap, subst, ◌∙◌, inl, inr, arith}
use Rattle.std.proofs.lemmas.Bool.{MatchBool-at_false, MatchBool-at_true, cases_lt}
use Rattle.std.proofs.lemmas.List.{take_all}
use Rattle.stm_model.specs.History.{Entry}
use Rattle.stm_model.specs.declared.settings.Settings.{Settings}
use Rattle.ledger_model.specs.declared.job.Contents.{Contents}
use Rattle.ledger_model.specs.declared.job.Job.{Job}
use Rattle.ledger_model.specs.declared.listing.Rolled.{Rolled}
use Rattle.ledger_model.specs.declared.listing.Row.{Row}
use Rattle.ledger_model.specs.Contents.{blocks_of, opening_contents}
use Rattle.ledger_model.specs.Replays.{TellsReader, TellsRolled, TellsWriter, after_writers, contents_after, run_after, run_of, writers_of}
use Rattle.trace_laws.proofs.Tracked.{ShowsRolled, ShowsRow, contents_at}

-- The contents after so many listed writers are what as many entries left.
module _ (job : Job) (settings : Settings) (h : List Entry) (listed : List Row) (alike : (n : ℕ) → n ≤ length h → contents_after job listed n ≡ contents_at job h n) where
  pub tells_writer : (row : Row) → ShowsRow job settings h row → row.writer ≡ true → TellsWriter settings row (run_after job listed (row.position - 1) row.worker row.number)
  tells_writer row shows writes =
      let writer = MatchBool-at_true _ _ writes shows.script in
      let to = shows.to in
      subst (λ (contents : Contents). TellsWriter settings row (run_of job row.worker row.number contents)) (sym (alike (row.position - 1) (omega arith))) writer.tells

  pub tells_reader : (row : Row) → ShowsRow job settings h row → row.writer ≡ false → TellsReader settings row (run_after job listed row.position row.worker row.number)
  tells_reader row shows reads =
      subst (λ (contents : Contents). TellsReader settings row (run_of job row.worker row.number contents)) (sym (alike row.position shows.to)) (MatchBool-at_false _ _ reads shows.script)

  pub tells_rolled : (rolled : Rolled) → ShowsRolled job settings h rolled → TellsRolled job settings rolled (run_after job listed rolled.prefix rolled.worker rolled.number)
  tells_rolled rolled shows =
      subst (λ (contents : Contents). TellsRolled job settings rolled (run_of job rolled.worker rolled.number contents)) (sym (alike rolled.prefix shows.to)) shows.tells

  -- No block is ever in use.
  pub none_used : length (writers_of listed) ≡ length h → (n : ℕ) → (contents_after job listed n).used ≤ blocks_of job
  none_used as_many n = elim (cases_lt (length h) n) [
    | inl past ↦
        let whole : contents_after job listed n ≡ contents_after job listed (length h) = ap (λ (some : List Row). after_writers job some (opening_contents job))
        (take_all n (writers_of listed) (omega (arith, as_many)) ∙ sym (take_all (length h) (writers_of listed) (omega (arith, as_many)))) in
        let used : (contents_after job listed n).used ≡ 0 = ap (λ (contents : Contents). contents.used) (whole ∙ alike (length h) (omega arith)) in
        omega (arith, used)
    | inr within ↦
        let used : (contents_after job listed n).used ≡ 0 = ap (λ (contents : Contents). contents.used) (alike n within) in
        omega (arith, used)
  ]
