-- What is left of the runs of a stage, one registration after another.
use Rattle.std.proofs.Common.{◌≡◌, ◌≢◌, ℕ, ◌+◌, ◌-◌, ◌<◌, ◌≤◌, true, false, Bool, [], ◌∷◌, ◌++◌, length, take, drop, get_or, reverse, refl, ap, sym, ◌∙◌, arith}
use Rattle.std.proofs.lemmas.List.{drop_all, drop_more, reverse-append, take_all, take_more}
use Rattle.std.proofs.lemmas.List.Elements.{filter-append}
use Rattle.stm_model.specs.declared.cause.HookPhase.{HookPhase}
use Rattle.stm_model.specs.Handlers.{Handlers, is_undoing, of_phase, undoing}
use Rattle.lifecycle.specs.declared.stage.Stage.{Stage}
use Rattle.lifecycle.specs.declared.stage.Stage.TheVariants.{Preparing, Committing, AfterCommit, AfterRollback}
use Rattle.lifecycle.specs.StageRuns.{left_after, runs_at, stage_runs}

-- ---- in order of registration

forward : (stage : Stage) (passed : ℕ) (hooks : Handlers) → stage ≢ AfterRollback → left_after stage passed hooks ≡ of_phase (runs_at stage) (drop passed hooks)
unfolding left_after
forward Preparing passed hooks other = refl
forward Committing passed hooks other = refl
forward AfterCommit passed hooks other = refl
forward AfterRollback passed hooks other = absurd (other refl)

runs_first : (is : HookPhase → Bool) (hook : HookPhase × ℕ) (hooks : Handlers) → is hook.0 ≡ true → of_phase is (hook ∷ hooks) ≡ hook ∷ of_phase is hooks
runs_first is hook hooks runs = rw runs refl

passes_first : (is : HookPhase → Bool) (hook : HookPhase × ℕ) (hooks : Handlers) → is hook.0 ≡ false → of_phase is (hook ∷ hooks) ≡ of_phase is hooks
passes_first is hook hooks passes = rw passes refl

pub runs_here : (stage : Stage) (hooks : Handlers) (index : ℕ) (any : HookPhase × ℕ) → stage ≢ AfterRollback → index < length hooks
    → runs_at stage (get_or hooks index any).0 ≡ true → left_after stage index hooks ≡ get_or hooks index any ∷ left_after stage (index + 1) hooks
runs_here stage hooks index any other within runs =
    forward stage index hooks other
    ∙ ap (of_phase (runs_at stage)) (drop_more hooks index any within)
    ∙ runs_first (runs_at stage) (get_or hooks index any) (drop (index + 1) hooks) runs
    ∙ ap (λ (rest : Handlers). get_or hooks index any ∷ rest) (sym (forward stage (index + 1) hooks other))

pub passes_here : (stage : Stage) (hooks : Handlers) (index : ℕ) (any : HookPhase × ℕ) → stage ≢ AfterRollback → index < length hooks
    → runs_at stage (get_or hooks index any).0 ≡ false → left_after stage index hooks ≡ left_after stage (index + 1) hooks
passes_here stage hooks index any other within passes =
    forward stage index hooks other
    ∙ ap (of_phase (runs_at stage)) (drop_more hooks index any within)
    ∙ passes_first (runs_at stage) (get_or hooks index any) (drop (index + 1) hooks) passes
    ∙ sym (forward stage (index + 1) hooks other)

pub none_left : (stage : Stage) (hooks : Handlers) (index : ℕ) → stage ≢ AfterRollback → length hooks ≤ index → left_after stage index hooks ≡ []
none_left stage hooks index other past = forward stage index hooks other ∙ ap (of_phase (runs_at stage)) (drop_all index hooks past)

-- ---- the last first

backward : (hooks : Handlers) (left : ℕ) (any : HookPhase × ℕ) → left < length hooks
    → undoing (take (left + 1) hooks) ≡ undoing (get_or hooks left any ∷ []) ++ undoing (take left hooks)
backward hooks left any within =
    ap undoing (take_more hooks left any within)
    ∙ ap reverse (filter-append (λ (hook : HookPhase × ℕ). is_undoing hook.0) (take left hooks) (get_or hooks left any ∷ []))
    ∙ reverse-append (of_phase is_undoing (take left hooks)) (of_phase is_undoing (get_or hooks left any ∷ []))

pub undoes_here : (hooks : Handlers) (left : ℕ) (any : HookPhase × ℕ) → left < length hooks → is_undoing (get_or hooks left any).0 ≡ true
    → undoing (take (left + 1) hooks) ≡ get_or hooks left any ∷ undoing (take left hooks)
undoes_here hooks left any within runs =
    backward hooks left any within
    ∙ ap (λ (front : Handlers). reverse front ++ undoing (take left hooks)) (runs_first is_undoing (get_or hooks left any) [] runs)

pub leaves_here : (hooks : Handlers) (left : ℕ) (any : HookPhase × ℕ) → left < length hooks → is_undoing (get_or hooks left any).0 ≡ false
    → undoing (take (left + 1) hooks) ≡ undoing (take left hooks)
leaves_here hooks left any within passes =
    backward hooks left any within
    ∙ ap (λ (front : Handlers). reverse front ++ undoing (take left hooks)) (passes_first is_undoing (get_or hooks left any) [] passes)

-- so many are left before those that are passed at the end
pub left_before : (hooks : Handlers) (left : ℕ) → left ≤ length hooks → left_after AfterRollback (length hooks - left) hooks ≡ undoing (take left hooks)
unfolding left_after
left_before hooks left within =
    let same : length hooks - (length hooks - left) ≡ left = omega arith in
    ap (λ (n : ℕ). undoing (take n hooks)) same

pub undoes_next : (hooks : Handlers) (left : ℕ) (any : HookPhase × ℕ) → 0 < left → left ≤ length hooks → is_undoing (get_or hooks (left - 1) any).0 ≡ true
    → undoing (take left hooks) ≡ get_or hooks (left - 1) any ∷ left_after AfterRollback (length hooks - (left - 1)) hooks
undoes_next hooks left any more within runs =
    let last : left ≡ (left - 1) + 1 = omega arith in
    ap (λ (n : ℕ). undoing (take n hooks)) last
    ∙ undoes_here hooks (left - 1) any (omega arith) runs
    ∙ ap (λ (rest : Handlers). get_or hooks (left - 1) any ∷ rest) (sym (left_before hooks (left - 1) (omega arith)))

pub undoing_starts : (hooks : Handlers) (passed : ℕ) → left_after AfterRollback passed hooks ≡ undoing (take (length hooks - passed) hooks)
unfolding left_after
undoing_starts hooks passed = refl

-- ---- before the first run

pub all_left : (stage : Stage) (hooks : Handlers) → left_after stage 0 hooks ≡ stage_runs stage hooks
unfolding left_after
all_left Preparing hooks = refl
all_left Committing hooks = refl
all_left AfterCommit hooks = refl
all_left AfterRollback hooks = ap undoing (take_all (length hooks - 0) hooks (omega arith))
