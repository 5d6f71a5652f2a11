-- Turns one after another. Here s is a trace.
use Rattle.std.proofs.Common.{◌≡◌, ℕ, zero, suc, ◌+◌, ◌<◌, List, [], ◌∷◌, ◌++◌, length, get_or, take, Option, Some, refl, ap, sym, subst, ◌∙◌, Bor}
use Rattle.std.specs.Option.{option_map_or}
use Rattle.std.proofs.lemmas.List.{take_more}
use Rattle.stm_model.specs.declared.settings.Settings.{Settings}
use Rattle.ledger_model.specs.declared.job.Job.{Job}
use Rattle.ledger_model.specs.Traced.{Trace, onward, turn, turns, whose}
use Rattle.host_trace.specs.declared.trace.Tracing.{Tracing}
use Rattle.host_trace.specs.Tracings.{GoesOn, IsTracing, Traces, TracesOn}
use Rattle.host_trace.proofs.Beginning.{traces_as, traces_on}

module _ (job : Job) (settings : Settings) where
  pub turns_more : (ps : List ℕ) (p : ℕ) (s : Trace) → turn job settings p (turns job settings ps s) ≡ turns job settings (ps ++ p ∷ []) s
  turns_more [] p s = refl
  turns_more (q ∷ ps) p s = turns_more ps p (turn job settings q s)

  abbrev next : Trace → Trace
  next s = option_map_or (λ p. turn job settings p s) (whose job settings s) s

  onward_more : (n : ℕ) (s : Trace) → next (onward job settings n s) ≡ onward job settings (suc n) s
  unfolding onward
  onward_more zero s = refl
  onward_more (suc n) s = onward_more n (next s)

  onward_none : (s : Trace) → s ≡ onward job settings 0 s
  unfolding onward
  onward_none s = refl

module _ {t : Tracing} where
  pub goes_none : GoesOn t t
  goes_none = record {
    job = refl;
    settings = refl;
    comes = λ s traces. record { count = 0; traces = subst (Traces t) (onward_none t.job.now t.settings s) traces };
  }

  -- One turn more, of whose it is.
  pub goes_more : {u after : Tracing} → GoesOn t u → (p : ℕ) → TracesOn u after (turn u.job.now u.settings p)
      → ((s : Trace) → Traces u s → Some p ≡ whose u.job.now u.settings s) → GoesOn t after
  goes_more {u = u} {after = after} goes p on mine = record {
    job = on.job ∙ goes.job;
    settings = on.settings ∙ goes.settings;
    comes = λ s traces.
        let come = goes.comes s traces in
        let here = onward t.job.now u.settings come.count s in
        let turned : Traces after (turn u.job.now u.settings p here) = on.traces here come.traces in
        let same : turn u.job.now u.settings p here ≡ onward t.job.now u.settings (suc come.count) s =
        ap (λ (mine : Option ℕ). option_map_or (λ p. turn u.job.now u.settings p here) mine here) (mine here come.traces)
        ∙ ap (λ (job : Job). next job u.settings here) (ap (λ (job : Bor Job). job.now) goes.job)
        ∙ onward_more t.job.now u.settings come.count s in
        record {
          count = suc come.count;
          traces = subst (λ (settings : Settings). Traces after (onward t.job.now settings (suc come.count) s)) (sym on.settings) (subst (Traces after) same turned);
        };
  }

pub tracing_then : {t u : Tracing} → IsTracing t → GoesOn t u → IsTracing u
tracing_then stands goes = let come = goes.comes stands.trace stands.traces in record { trace = _; traces = come.traces }

-- ---- the written steps

-- One step more.
pub steps_more : {t u after : Tracing} (steps : List ℕ) (k p : ℕ) → k < length steps → p ≡ get_or steps k 0
    → TracesOn t u (turns t.job.now t.settings (take k steps)) → TracesOn u after (turn u.job.now u.settings p) → TracesOn t after (turns t.job.now t.settings (take (k + 1) steps))
steps_more {t = t} {u = u} steps k p less is first second =
    let job = t.job.now in
    let settings = t.settings in
    traces_as (λ s. turn u.job.now u.settings p (turns job settings (take k steps) s)) (turns job settings (take (k + 1) steps))
    (traces_on (turns job settings (take k steps)) (turn u.job.now u.settings p) first second)
    (λ s traces.
    ap (λ (job : Bor Job). turn job.now u.settings p (turns t.job.now settings (take k steps) s)) first.job
    ∙ ap (λ (other : Settings). turn job other p (turns job settings (take k steps) s)) first.settings
    ∙ turns_more job settings (take k steps) p s
    ∙ ap (λ (p : ℕ). turns job settings (take k steps ++ p ∷ []) s) is
    ∙ ap (λ (ps : List ℕ). turns job settings ps s) (sym (take_more steps k 0 less)))
