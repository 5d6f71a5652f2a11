-- What an attempt that is over tells of its script's run.
use Rattle.std.proofs.Common.{◌≡◌, ℕ, Bool, true, false, List, [], ◌++◌, length, Option, Some, None, refl, sym, ap, subst, ◌∙◌}
use Rattle.stm_model.specs.Attempt.{Attempt, Ended, Stage}
use Rattle.stm_model.specs.HandlerRuns.{ended_runs}
use Rattle.stm_model.specs.Heap.{Agrees, over}
use Rattle.stm_model.specs.Telling.{Extends}
use Rattle.stm_model.specs.declared.cause.Cause.{Cause}
use Rattle.stm_model.specs.declared.cause.Cause.TheVariants.{ClockEnd, Retry, User}
use Rattle.stm_model.specs.declared.ending.Ending.{Ending}
use Rattle.stm_model.specs.declared.ending.Ending.TheVariants.{Committed, Read, Rolled}
use Rattle.stm_model.proofs.HandlerRunsLemmas.{ends-over}
use Rattle.ledger_model.specs.declared.job.Contents.{Contents}
use Rattle.ledger_model.specs.declared.script.Statement.{Statement}
use Rattle.ledger_model.specs.Heard.{Heard, heard_run}
use Rattle.ledger_model.specs.Run.{End, Kept, Failed, Retried, Outcome}
use Rattle.ledger_model.specs.Traced.{Progress}
use Rattle.trace_laws.proofs.Ended.{TellsRollback, TellsRun}
use Rattle.trace_laws.proofs.Told.{BeginsSo, Closes, ClosesSo, IsTold, RollsBackSo, ToldAt, heard_whole, hearing_on, is_any, with_refs}

module _ (base : Contents) (block : List Statement) (t : Attempt) (g : Progress) (over_now : t.stage ≡ Ended) (none : t.due ≡ [])
    (heap : List ℕ) (long : length heap ≡ length base.refs) (agrees : Agrees t.notes heap) (o : Outcome) (whole : heard_whole base block heap ≡ heard_run [] o) where
  -- the run, as the attempt and its script tell it
  record Same (prepared : Bool) (end : End) : Type 0 where
    ended : o.end ≡ end
    wrote : o.after.wrote ≡ is_any t.now.writes
    contents : o.after.contents ≡ with_refs base (over heap t.now.writes)
    prints : o.after.prints ≡ g.prints
    trail : o.after.trail ≡ g.trail
    runs : t.now.runs ≡ o.after.runs ++ ended_runs prepared t.ending o.after.hooks

  same : (prepared : Bool) (end : End) → Closes base block t prepared end g → Same prepared end
  same prepared end closes =
      let heard : heard_run [] o ≡ record { end = end; after = hearing_on base heap (record t.now { runs = closes.former }) t.saved g } = sym whole ∙ closes.comes heap long agrees in
      let hooks : o.after.hooks ≡ t.now.hooks = ap (λ (h : Heard). h.after.now.hooks) heard in
      let former : o.after.runs ≡ closes.former = ap (λ (h : Heard). h.after.runs) heard in
      record {
        ended = ap (λ (h : Heard). h.end) heard;
        wrote = ap (λ (h : Heard). h.after.now.wrote) heard;
        contents = ap (λ (h : Heard). h.after.now.contents) heard;
        prints = ap (λ (h : Heard). h.after.now.prints) heard;
        trail = ap (λ (h : Heard). h.after.trail) heard;
        runs = rw (hooks, former) (ends-over closes.former t.now.hooks prepared t closes.ends over_now none);
      }

  -- the handlers, where it ended so
  ran : (prepared : Bool) (end : End) (ending : Option Ending) → t.ending ≡ ending → Same prepared end → t.now.runs ≡ o.after.runs ++ ended_runs prepared ending o.after.hooks
  ran prepared end ending is so = subst (λ (e : Option Ending). t.now.runs ≡ o.after.runs ++ ended_runs prepared e o.after.hooks) is so.runs

  begun : BeginsSo base block t.notes g → Extends g.trail o.after.trail
  begun begins = subst (λ (h : Heard). Extends g.trail h.after.trail) whole (begins heap long agrees)

  rolled_back : (cause : Cause) (prefix : ℕ) → t.ending ≡ Some (Rolled cause prefix) → RollsBackSo base block t g cause → TellsRollback t g o cause
  unfolding RollsBackSo TellsRollback
  rolled_back (User code) prefix is so =
      let told = same false (Failed code) so in record { end = told.ended; runs = ran false (Failed code) _ is told }
  rolled_back (ClockEnd clock) prefix is so =
      let told = same true Kept so.0 in
      record { end = told.ended; wrote = told.wrote ∙ so.1; runs = ran true Kept _ is told; prefix = so.2 }
  rolled_back Retry prefix is so = let told = same false Retried so in record { end = told.ended; trail = told.trail }
  rolled_back cause prefix is so = record { trail = begun so.0; text = so.1 }

  tells : (ending : Option Ending) → t.ending ≡ ending → ClosesSo base block t g ending → TellsRun base heap t g o ending
  unfolding ClosesSo TellsRun
  tells None is so = so
  tells (Some (Committed stamp)) is so =
      let told = same so.0.0 Kept so.0.1 in
      record { end = told.ended; wrote = told.wrote ∙ so.1; contents = told.contents; prints = told.prints; runs = ran so.0.0 Kept _ is told }
  tells (Some (Read prefix)) is so =
      let told = same so.0.0 Kept so.0.1 in
      record { end = told.ended; wrote = told.wrote ∙ ap is_any so.1; prints = told.prints; runs = ran so.0.0 Kept _ is told }
  tells (Some (Rolled cause prefix)) is so = rolled_back cause prefix is so

  told_end : (stage : Stage) → stage ≡ Ended → ToldAt base block t g stage → ClosesSo base block t g t.ending
  unfolding ToldAt
  told_end stage is so = subst (λ (s : Stage). ToldAt base block t g s) is so

  pub tells_run : IsTold base block t g → TellsRun base heap t g o t.ending
  tells_run so = tells t.ending refl (told_end t.stage over_now so)
