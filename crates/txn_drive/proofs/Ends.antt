-- Where an access ends an attempt, handlers alone are due.
use Rattle.std.proofs.Common.{◌≡◌, ℕ, zero, suc, Bool, true, false, nat_eq, nat_lt, not, ◌&&◌, List, [], ◌∷◌, Option, Some, None, refl, sym, ap, subst, ◌∙◌, if◌then◌else◌}
use Rattle.meta_word.specs.Meta.{changing_by_another, owned_by_another, same_but_pending, same_meta, still_has}
use Rattle.meta_word.specs.Policy.{dooms}
use Rattle.meta_word.specs.Status.{same_status}
use Rattle.meta_word.specs.declared.meta.Meta.{Meta}
use Rattle.stm_model.specs.declared.cause.Cause.{Cause}
use Rattle.stm_model.specs.declared.ending.Ending.TheVariants.{Committed, Rolled}
use Rattle.stm_model.specs.declared.note.Note.{Note}
use Rattle.stm_model.specs.Accesses.{Act, Answer, Number, OfMeta, OfStatus, active, answer_of, next, next_at, unless_due}
use Rattle.stm_model.specs.After.{acquire_again, acquiring, after, after_at, after_found, after_word, decided, exchanged, extend_on, extended, final_runs, is_active, mark_on, meta_acquired, meta_read, note_of, note_validated, owner_status_loaded, owner_validated, prepared, read_again, release_level_on, release_on, ring_if, roll_on, rolled, run_all, store_on, validate_on, validated}
use Rattle.stm_model.specs.Attempt.{Attempt, Due, Stage, Write, Announce, Begin, ReadMeta, ExtendClock, ExtendNote, ReadValue, Validate, AcquireMeta, Acquire, OwnerStatus, OwnerMeta, DoomOwner, ReleaseLevel, Prepare, Mark, CommitClock, CommitNote, Decide, StoreValues, Release, RollBack, Close, Ended}
use Rattle.stm_model.specs.Handlers.{committing, preparing}
use Rattle.stm_model.specs.declared.access.Access.{Access}
use Rattle.stm_model.specs.Accesses.{next_access}
use Rattle.txn_drive.specs.Standing.{AreRuns}
use Rattle.txn_drive.proofs.Led.{next_act}

-- once it is over, handlers alone are due
abbrev Ends : Attempt → Type 0
Ends t = t.stage ≡ Ended → AreRuns t.due

if_ends : (b : Bool) (t u : Attempt) → Ends t → Ends u → Ends (if b then t else u)
if_ends true t u first second = first
if_ends false t u first second = second

again_ends : (t : Attempt) (cell left : ℕ) (cause : Cause) → Ends (read_again t cell left cause)
again_ends t cell zero cause = λ is. absurd (cc is)
again_ends t cell (suc left) cause = λ is. absurd (cc is)

extend_ends : (t : Attempt) (cell left : ℕ) (first : Meta) (clock : ℕ) (behind : List Note) → Ends (extend_on t cell left first clock behind)
extend_ends t cell left first clock [] = λ is. absurd (cc is)
extend_ends t cell left first clock (note ∷ behind) = λ is. absurd (cc is)

write_ends : (t : Attempt) (cell value left : ℕ) (tried : Bool) (first latest : Meta) → Ends (acquire_again t cell value left tried first latest)
write_ends t cell value zero tried first latest = λ is. absurd (cc is)
write_ends t cell value (suc left) tried first latest = λ is. absurd (cc is)

acquiring_ends : (t : Attempt) (cell value left : ℕ) (tried : Bool) (first : Meta) → Ends (acquiring t cell value left tried first)
unfolding acquiring
acquiring_ends t cell value left tried first =
    if_ends (owned_by_another t.own first) _ _ (if_ends (dooms t.settings.policy && not tried) _ _ (λ is. absurd (cc is)) (write_ends t cell value left tried first first))
    (if_ends (nat_eq first.owner 0) _ _ (λ is. absurd (cc is)) (write_ends t cell value left tried first first))

acquired_ends : (t : Attempt) (cell value left : ℕ) (tried : Bool) (note : Option Note) (first : Meta) → Ends (meta_acquired t cell value left tried note first)
acquired_ends t cell value left tried None first = acquiring_ends t cell value left tried first
acquired_ends t cell value left tried (Some note) first = if_ends (nat_eq note.version first.version) _ _ (acquiring_ends t cell value left tried first) (λ is. absurd (cc is))

level_ends : (t : Attempt) (kept behind : List Write) → Ends (release_level_on t kept behind)
level_ends t kept [] = λ is. absurd (cc is)
level_ends t kept (write ∷ behind) = λ is. absurd (cc is)

roll_ends : (t : Attempt) (behind : List Write) → Ends (roll_on t behind)
roll_ends t [] = λ is. absurd (cc is)
roll_ends t (write ∷ behind) = λ is. absurd (cc is)

rolled_ends : (t : Attempt) (cause : Cause) → Ends (rolled t cause)
rolled_ends t cause = roll_ends (record t { ending = Some (Rolled cause t.prefix) }) t.now.writes

mark_ends : (t : Attempt) (behind : List Write) → Ends (mark_on t behind)
mark_ends t [] = λ is. absurd (cc is)
mark_ends t (write ∷ behind) = λ is. absurd (cc is)

release_ends : (t : Attempt) (behind : List Write) → Ends (release_on t behind)
release_ends t [] = λ is. absurd (cc is)
release_ends t (write ∷ behind) = λ is. absurd (cc is)

store_ends : (t : Attempt) (behind : List Write) → Ends (store_on t behind)
store_ends t [] = release_ends t t.now.writes
store_ends t (write ∷ behind) = λ is. absurd (cc is)

check_ends : (t : Attempt) (lost clock : ℕ) (behind : List Note) → Ends (validate_on t lost clock behind)
unfolding validate_on
check_ends t lost clock [] = if_ends (nat_eq clock t.settings.clock) _ _ (rolled_ends (record t { prefix = clock }) _) (λ is. absurd (cc is))
check_ends t lost clock (note ∷ behind) = λ is. absurd (cc is)

decided_ends : (t : Attempt) (lost clock found : ℕ) → Ends (decided t lost clock found)
unfolding decided
decided_ends t lost clock found =
    if_ends (nat_eq found clock) _ _ (store_ends (record t { ending = Some (Committed (suc clock)); due = run_all (committing t.now.hooks) }) t.now.writes)
    (if_ends (nat_lt lost t.settings.tries) _ _ (λ is. absurd (cc is)) (rolled_ends t _))

after_ends : (t : Attempt) (stage : Stage) (answer : Answer) → t.stage ≡ stage → (stage ≡ Ended → ⊥) → Ends (after_at t stage answer)
unfolding after_at meta_read extended validated exchanged owner_status_loaded owner_validated prepared note_validated
after_ends t Announce (OfStatus found) here going = λ is. absurd (cc is)
after_ends t Begin (Number clock) here going = λ is. absurd (cc is)
after_ends t (ReadMeta cell left) (OfMeta found) here going =
    if_ends (changing_by_another t.own found) _ _ (again_ends t cell left _) (if_ends (nat_lt t.prefix found.version) _ _ (λ is. absurd (cc is)) (λ is. absurd (cc is)))
after_ends t (ExtendClock cell left first) (Number clock) here going = extend_ends t cell left first clock t.notes
after_ends t (ExtendNote cell left first clock note behind) (OfMeta found) here going =
    if_ends (still_has t.own note.version found) _ _ (extend_ends t cell left first clock behind) (λ is. absurd (cc is))
after_ends t (ReadValue cell left first) (Number value) here going = λ is. absurd (cc is)
after_ends t (Validate cell left first value) (OfMeta found) here going =
    if_ends (still_has t.own first.version found) _ _ (λ is. absurd (cc is)) (again_ends t cell left _)
after_ends t (AcquireMeta cell value left tried) (OfMeta found) here going = acquired_ends t cell value left tried (note_of t.notes cell) found
after_ends t (Acquire cell value left tried first expected again) (OfMeta found) here going =
    if_ends (same_meta found expected) _ _ (λ is. absurd (cc is)) (if_ends (not again && same_but_pending found expected) _ _ (λ is. absurd (cc is)) (write_ends t cell value left tried first found))
after_ends t (OwnerStatus cell value left first) (OfStatus found) here going =
    if_ends (is_active found.phase) _ _ (λ is. absurd (cc is)) (write_ends t cell value left true first first)
after_ends t (OwnerMeta cell value left first status) (OfMeta found) here going =
    if_ends (nat_eq found.owner first.owner && not found.changing) _ _ (λ is. absurd (cc is)) (write_ends t cell value left true first found)
after_ends t (DoomOwner cell value left first second status) (OfStatus found) here going = write_ends t cell value left true first second
after_ends t (ReleaseLevel kept write behind) (OfMeta found) here going = level_ends (record t { due = ring_if found.pending write.0 }) kept behind
after_ends t Prepare (OfStatus found) here going =
    if_ends (same_status found (active t.serial)) _ _ (mark_ends (record t { phase = _; due = run_all (preparing t.now.hooks) }) t.now.writes) (rolled_ends t _)
after_ends t (Mark write behind) (OfMeta found) here going = mark_ends t behind
after_ends t (CommitClock lost) (Number clock) here going = check_ends t lost clock t.notes
after_ends t (CommitNote lost clock note behind) (OfMeta found) here going =
    if_ends (still_has t.own note.version found) _ _ (check_ends t lost clock behind) (rolled_ends t _)
after_ends t (Decide lost clock) (Number found) here going = decided_ends t lost clock found
after_ends t (StoreValues write behind) (Number found) here going = store_ends t behind
after_ends t (Release write behind) (OfMeta found) here going = release_ends (record t { due = ring_if found.pending write.0 }) behind
after_ends t (RollBack write behind) (OfMeta found) here going = roll_ends (record t { due = ring_if found.pending write.0 }) behind
after_ends t Close (OfStatus found) here going = λ is. (final_runs t.ending t.now.hooks, refl)
after_ends t stage answer here going = λ is. absurd (going (sym here ∙ is))

no_act : (due : List Due) (act : Act) (t : Attempt) → unless_due due (next_at t Ended) ≡ Some act → ⊥
unfolding next_at
no_act [] act t is = cc is
no_act (this ∷ dues) act t is = cc is

ended_none : (t : Attempt) (act : Act) → next t ≡ Some act → t.stage ≡ Ended → ⊥
ended_none t act is over = no_act t.due act t (ap (λ (stage : Stage). unless_due t.due (next_at t stage)) (sym over) ∙ is)

pub word_ends : (t u : Attempt) (access : Access) (found : ℕ) → next_access t ≡ Some access → u ≡ after_word t found → u.stage ≡ Ended → AreRuns u.due
word_ends t u access found comes is over =
    let this = next_act t access comes in
    let same : u ≡ after t (answer_of this.act found) = is ∙ ap (λ (act : Option Act). after_found t act found) this.is in
    let ends : Ends (after t (answer_of this.act found)) = after_ends t t.stage (answer_of this.act found) refl (ended_none t this.act this.is) in
    subst (λ (a : Attempt). AreRuns a.due) (sym same) (ends (ap (λ (a : Attempt). a.stage) (sym same) ∙ over))
