-- What an operation shows once it has ended.
use Rattle.std.proofs.Common.{◌≡◌, ℕ, true, List, ◌++◌, Option, Some, refl, sym, subst}
use Rattle.op_commit.specs.Acquire as acquire
use Rattle.op_commit.specs.Back as rollback
use Rattle.op_commit.specs.Commit as commit
use Rattle.op_commit.specs.declared.acquire.AcquireEnd.{AcquireEnd}
use Rattle.op_commit.specs.declared.acquire.AcquirePlace.{AcquirePlace}
use Rattle.op_commit.specs.declared.acquire.AcquirePlace.TheVariants as at_acquire
use Rattle.op_commit.specs.declared.back.BackEnd.{BackEnd}
use Rattle.op_commit.specs.declared.back.BackOp.{BackOp}
use Rattle.op_commit.specs.declared.back.BackPlace.{BackPlace}
use Rattle.op_commit.specs.declared.back.BackPlace.TheVariants as at_back
use Rattle.op_commit.specs.declared.commit.CommitEnd.{CommitEnd}
use Rattle.op_commit.specs.declared.commit.CommitOp.{CommitOp}
use Rattle.op_commit.specs.declared.commit.CommitPlace.{CommitPlace}
use Rattle.op_commit.specs.declared.commit.CommitPlace.TheVariants as at_commit
use Rattle.op_read.specs.Extend as extension
use Rattle.op_read.specs.Read as read
use Rattle.op_read.specs.declared.extend.ExtendEnd.{ExtendEnd}
use Rattle.op_read.specs.declared.extend.ExtendPlace.{ExtendPlace}
use Rattle.op_read.specs.declared.extend.ExtendPlace.TheVariants as at_extend
use Rattle.meta_word.specs.declared.status.Phase.TheVariants.{Idle}
use Rattle.op_commit.specs.Buffered.{ring_for}
use Rattle.stm_model.specs.After.{at, final_runs, run_all}
use Rattle.stm_model.specs.Attempt.{Attempt, Due, Ended}
use Rattle.stm_model.specs.declared.cause.Addr.{Addr}
use Rattle.stm_model.specs.declared.ending.Ending.TheVariants.{Committed}
use Rattle.op_commit.specs.declared.commit.CommitEnd.TheVariants.{Stamp}
use Rattle.op_read.specs.declared.read.ReadEnd.{ReadEnd}
use Rattle.op_read.specs.declared.read.ReadPlace.{ReadPlace}
use Rattle.op_read.specs.declared.read.ReadPlace.TheVariants as at_read

pub read_over : (place : ReadPlace) (end : ReadEnd) → read.ended_at place ≡ Some end → place ≡ at_read.Ended end
read_over (at_read.Ended other) end over = cc over
read_over _ end over = cc over

pub extension_over : (place : ExtendPlace) (end : ExtendEnd) → extension.end_at place ≡ Some end → place ≡ at_extend.Ended end
extension_over (at_extend.Ended other) end over = cc over
extension_over _ end over = cc over

pub acquire_over : (place : AcquirePlace) (end : AcquireEnd) → acquire.end_at place ≡ Some end → place ≡ at_acquire.Ended end
acquire_over (at_acquire.Ended other) end over = cc over
acquire_over _ end over = cc over

pub commit_over : (place : CommitPlace) (end : CommitEnd) → commit.end_at place ≡ Some end → place ≡ at_commit.Ended end
commit_over (at_commit.Ended other) end over = cc over
commit_over _ end over = cc over

pub back_over : (place : BackPlace) (end : BackEnd) → rollback.end_at place ≡ Some end → place ≡ at_back.Ended end
back_over (at_back.Ended other) end over = cc over
back_over _ end over = cc over

-- An operation that has ended is at its end.
pub ruleset ends = (read_over, extension_over, acquire_over, commit_over, back_over)

-- What is due is none of a commit's concern, nor of a rollback's.
pub whatever_due : (op : CommitOp) (t : Attempt) (dues : List Due) → commit.IsCommitting op t → commit.IsCommitting op (record t { due = dues })
whatever_due op t dues commits = record { own = commits.own; serial = commits.serial; tries = commits.tries; limit = commits.limit; writes = commits.writes }

pub whatever_is_due : (op : BackOp) (t : Attempt) (dues : List Due) → rollback.IsBacking op t → rollback.IsBacking op (record t { due = dues })
whatever_is_due op t dues backs = record { own = backs.own; serial = backs.serial }

-- ---- the end of a rollback

back_ends_at : (rung : Option Addr) (t : Attempt) (end : BackEnd) →
    rollback.backing_at (at_back.Ended end) true (record t { due = rollback.due_at (at_back.Ended end) true rung t }) ≡ at (record t { phase = Idle; due = ring_for rung ++ run_all (final_runs t.ending t.now.hooks) }) Ended
back_ends_at rung t end = refl

pub back_ends : (op : BackOp) (t : Attempt) (end : BackEnd) → op.place ≡ at_back.Ended end → op.whole ≡ true →
    rollback.backing op (record t { due = rollback.due_by op t }) ≡ at (record t { phase = Idle; due = ring_for op.rung ++ run_all (final_runs t.ending t.now.hooks) }) Ended
back_ends op t end place whole =
    let ended : Attempt = at (record t { phase = Idle; due = ring_for op.rung ++ run_all (final_runs t.ending t.now.hooks) }) Ended in
    subst (λ p. rollback.backing_at p op.whole (record t { due = rollback.due_at p op.whole op.rung t }) ≡ ended) (sym place)
    (subst (λ w. rollback.backing_at (at_back.Ended end) w (record t { due = rollback.due_at (at_back.Ended end) w op.rung t }) ≡ ended) (sym whole)
    (back_ends_at op.rung t end))

-- ---- the end of a commit

commit_ends_at : (writes stamp : ℕ) (rung : Option Addr) (t : Attempt) →
    commit.committing_at (at_commit.Ended (Stamp stamp)) writes (record t { due = commit.due_at (at_commit.Ended (Stamp stamp)) rung t })
    ≡ at (record t { phase = Idle; ending = Some (Committed stamp); due = ring_for rung ++ run_all (final_runs (Some (Committed stamp)) t.now.hooks) }) Ended
unfolding final_runs
commit_ends_at writes stamp rung t = refl

pub commit_ends : (op : CommitOp) (t : Attempt) (stamp : ℕ) → op.place ≡ at_commit.Ended (Stamp stamp) →
    commit.committing op (record t { due = commit.due_by op t }) ≡ at (record t { phase = Idle; ending = Some (Committed stamp); due = ring_for op.rung ++ run_all (final_runs (Some (Committed stamp)) t.now.hooks) }) Ended
commit_ends op t stamp place =
    let ended : Attempt = at (record t { phase = Idle; ending = Some (Committed stamp); due = ring_for op.rung ++ run_all (final_runs (Some (Committed stamp)) t.now.hooks) }) Ended in
    subst (λ p. commit.committing_at p op.writes (record t { due = commit.due_at p op.rung t }) ≡ ended) (sym place) (commit_ends_at op.writes stamp op.rung t)
