use Rattle.std.proofs.Common.{◌≡◌, ◌++◌, Option, None, Some, is_some, false, refl, sym, ◌∙◌, append-nil, arith}
use Rattle.lifecycle.specs.declared.walk.Walk.{Walk}
use Rattle.op_commit.specs.Buffered.{ring_for}
use Rattle.stm_core.proofs.Marked.{marked_with_fewer}
use Rattle.stm_core.specs.Running.{HasRuns, InvariantAt, attempt_at, due_with, left_at, reads_under_way, runs_due, writes_under_way}
use Rattle.stm_core.proofs.running.Running.undo_hooks.Goals as goal
use Rattle.stm_model.specs.After.{run_all}
use Rattle.stm_model.specs.Handlers.{Handlers}
use Rattle.stm_model.specs.declared.cause.Addr.{Addr}

-- Where the walk comes to no run, no more is due.
none_more : (ring : Option Addr) (former runs : Option Walk) (hooks fewer left : Handlers) → former ≡ None → is_some runs ≡ false → runs_due runs hooks ≡ left
    → due_with ring runs fewer ≡ due_with ring former hooks ++ run_all left
none_more ring former (Some walk) hooks fewer left none not_some is = absurd (cc not_some)
none_more ring former None hooks fewer left none not_some is = rw (none, ← is) (sym (append-nil (ring_for ring)))

no_runs : (runs : Option Walk) (hooks : Handlers) → is_some runs ≡ false → HasRuns runs hooks
no_runs None hooks is = tt
no_runs (Some walk) hooks is = absurd (cc is)

pub returns-else-is_some-clause-becomes : goal.returns-else-is_some-clause-becomes
unfolding InvariantAt attempt_at left_at reads_under_way writes_under_way
returns-else-is_some-clause-becomes c =
    let r = c.args.self.now in
    let due = none_more r.due.ring r.due.runs c.runs_of-self.result r.handlers.hooks c.undo_to.new.self.hooks _ c.requires.runs (sym c.is_some.ensures ∙ c.if-is_some.false) (c.runs_of-self.ensures.runs ∙ c.new.ensures r.handlers.hooks) in
    record {
      shows = rw (c.undo_to.ensures.laters.laters, ← due, c.undo_to.ensures.hooks) refl;
      left = omega arith;
      numbers = record { own = refl; serial = refl; settings = refl };
      sound = record {
        fits = record {
          numbers = c.requires.fits.numbers;
          marks = marked_with_fewer _ _ _ c.args.hooks _ _ c.requires.within c.undo_to.ensures.hooks c.undo_to.ensures.laters.laters c.requires.outer c.requires.fits.marks;
        };
        runs = no_runs c.runs_of-self.result c.undo_to.new.self.hooks (sym c.is_some.ensures ∙ c.if-is_some.false);
        holds = tt;
      };
    }
