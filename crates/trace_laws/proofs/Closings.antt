-- The accesses behind the decision, and those of a rollback, keep what is told.
use Rattle.std.proofs.Common.{◌≡◌, Bool, true, false, ◌||◌, List, [], ◌∷◌, Option, Some, None, refl, sym, subst}
use Rattle.stm_model.specs.declared.cause.Cause.{Cause}
use Rattle.stm_model.specs.declared.cause.Cause.TheVariants.{ClockEnd, Retry, User}
use Rattle.stm_model.specs.declared.ending.Ending.{Ending}
use Rattle.stm_model.specs.declared.ending.Ending.TheVariants.{Committed, Read, Rolled}
use Rattle.stm_model.specs.Accesses.{Answer, Number, OfMeta, OfStatus}
use Rattle.stm_model.specs.After.{after_at, release_on, ring_if, roll_on, store_on}
use Rattle.stm_model.specs.Attempt.{Attempt, Stage, Write, Close, Release, RollBack, StoreValues, has_prepared}
use Rattle.stm_model.specs.CellsState.{Book}
use Rattle.stm_model.specs.HandlerRuns.{Ends, EndsAt}
use Rattle.stm_model.specs.Handlers.{Handlers}
use Rattle.ledger_model.specs.declared.job.Contents.{Contents}
use Rattle.ledger_model.specs.declared.script.Statement.{Statement}
use Rattle.ledger_model.specs.Run.{End, Failed, Kept, Retried}
use Rattle.ledger_model.specs.Traced.{Progress}
use Rattle.trace_laws.proofs.Told.{BeginsSo, Closes, ClosesSo, IsTold, RollsBackSo, ToldAt}

-- ---- two attempts of which the same is heard

abbrev pub HeardAlike : Attempt → Attempt → Type 0
HeardAlike t u = (u.notes ≡ t.notes) × (u.now ≡ t.now) × (u.saved ≡ t.saved)

-- and that end alike
abbrev pub EndsAlike : Attempt → Attempt → Type 0
EndsAlike t u = HeardAlike t u × (u.prefix ≡ t.prefix) × (has_prepared u.phase ≡ true → has_prepared t.phase ≡ true)

-- The second is the first after an access at this stage, as far as handlers tell.
abbrev pub EndsOn : Attempt → Stage → Attempt → Type 0
EndsOn t stage u = (former : Handlers) (prepared : Bool) → Ends former t.now.hooks prepared t
    → EndsAt prepared t.ending stage × Ends former t.now.hooks (prepared || has_prepared u.phase) u

pub roll_alike : (t : Attempt) (writes : List Write) → EndsAlike t (roll_on t writes)
roll_alike t [] = ((refl, refl, refl), refl, λ is. is)
roll_alike t (write ∷ behind) = ((refl, refl, refl), refl, λ is. is)

release_alike : (t : Attempt) (writes : List Write) → EndsAlike t (release_on t writes)
release_alike t [] = ((refl, refl, refl), refl, λ is. is)
release_alike t (write ∷ behind) = ((refl, refl, refl), refl, λ is. is)

pub store_alike : (t : Attempt) (writes : List Write) → EndsAlike t (store_on t writes)
store_alike t [] = release_alike t t.now.writes
store_alike t (write ∷ behind) = ((refl, refl, refl), refl, λ is. is)

flag_stays : (prepared phase : Bool) → (phase ≡ true → prepared ≡ true) → (prepared || phase) ≡ prepared
flag_stays true phase so = refl
flag_stays false false so = refl
flag_stays false true so = sym (so refl)

module _ (base : Contents) (block : List Statement) (g : Progress) where
  pub begins_alike : (t u : Attempt) → HeardAlike t u → BeginsSo base block t.notes g → BeginsSo base block u.notes g
  begins_alike t u alike begins = rw alike.0 begins

  pub closes_alike : (t u : Attempt) (prepared begun : Bool) (end : End) → HeardAlike t u → (closes : Closes base block t prepared end g)
      → Ends closes.former t.now.hooks begun u → Closes base block u begun end g
  closes_alike t u prepared begun end alike closes ends = record {
    former = closes.former;
    ends = subst (λ (now : Book). Ends closes.former now.hooks begun u) (sym alike.1) ends;
    comes = rw (alike.0, alike.1, alike.2) closes.comes;
  }

  -- ---- where the ending is certain

  module _ (t u : Attempt) (alike : EndsAlike t u) (stage : Stage) (on : EndsOn t stage u) where
    closes_on : (prepared : Bool) (end : End) → Closes base block t prepared end g → Closes base block u prepared end g
    closes_on prepared end closes =
        let ends = (on closes.former prepared closes.ends).1 in
        let same = flag_stays prepared (has_prepared u.phase) (λ is. closes.ends.phase (alike.2 is)) in
        closes_alike t u prepared prepared end alike.0 closes (rw same at ends)

    rolls_on : (cause : Cause) → RollsBackSo base block t g cause → RollsBackSo base block u g cause
    unfolding RollsBackSo
    rolls_on (User code) so = closes_on false (Failed code) so
    rolls_on Retry so = closes_on false Retried so
    rolls_on (ClockEnd clock) so = (closes_on true Kept so.0, rw alike.0.1 so.1, rw alike.1 so.2)
    rolls_on _ so = (begins_alike t u alike.0 so.0, so.1)

    closes_so : (ending : Option Ending) → ClosesSo base block t g ending → ClosesSo base block u g ending
    unfolding ClosesSo
    closes_so None so = absurd so
    closes_so (Some (Committed stamp)) so = ((so.0.0, closes_on so.0.0 Kept so.0.1), rw alike.0.1 so.1)
    closes_so (Some (Read prefix)) so = ((so.0.0, closes_on so.0.0 Kept so.0.1), rw alike.0.1 so.1)
    closes_so (Some (Rolled cause prefix)) so = rolls_on cause so

  -- ---- what is told there

  pub roll_told : (t : Attempt) (writes : List Write) → ClosesSo base block (roll_on t writes) g t.ending → IsTold base block (roll_on t writes) g
  unfolding ToldAt
  roll_told t [] so = so
  roll_told t (write ∷ behind) so = so

  release_told : (t : Attempt) (writes : List Write) → ClosesSo base block (release_on t writes) g t.ending → IsTold base block (release_on t writes) g
  unfolding ToldAt
  release_told t [] so = so
  release_told t (write ∷ behind) so = so

  pub store_told : (t : Attempt) (writes : List Write) → ClosesSo base block (store_on t writes) g t.ending → IsTold base block (store_on t writes) g
  unfolding ToldAt
  store_told t [] so = release_told t t.now.writes so
  store_told t (write ∷ behind) so = so

  -- ---- each access

  module _ (t : Attempt) (so : ClosesSo base block t g t.ending) (here : IsTold base block t g) where
    pub store_values_told : (write : Write) (behind : List Write) (answer : Answer) → EndsOn t (StoreValues write behind) (after_at t (StoreValues write behind) answer)
        → IsTold base block (after_at t (StoreValues write behind) answer) g
    unfolding after_at
    store_values_told write behind (Number found) on = store_told t behind (closes_so t (store_on t behind) (store_alike t behind) (StoreValues write behind) on t.ending so)
    store_values_told write behind answer on = here

    pub release_cell_told : (write : Write) (behind : List Write) (answer : Answer) → EndsOn t (Release write behind) (after_at t (Release write behind) answer)
        → IsTold base block (after_at t (Release write behind) answer) g
    unfolding after_at
    release_cell_told write behind (OfMeta found) on =
        let rung : Attempt = record t { due = ring_if found.pending write.0 } in
        release_told rung behind (closes_so t (release_on rung behind) (release_alike rung behind) (Release write behind) on t.ending so)
    release_cell_told write behind answer on = here

    pub roll_back_told : (write : Write) (behind : List Write) (answer : Answer) → EndsOn t (RollBack write behind) (after_at t (RollBack write behind) answer)
        → IsTold base block (after_at t (RollBack write behind) answer) g
    unfolding after_at
    roll_back_told write behind (OfMeta found) on =
        let rung : Attempt = record t { due = ring_if found.pending write.0 } in
        roll_told rung behind (closes_so t (roll_on rung behind) (roll_alike rung behind) (RollBack write behind) on t.ending so)
    roll_back_told write behind answer on = here

    pub close_told : (answer : Answer) → EndsOn t Close (after_at t Close answer) → IsTold base block (after_at t Close answer) g
    unfolding after_at ToldAt
    close_told (OfStatus found) on =
        closes_so t _ ((refl, refl, refl), refl, λ is. cc is) Close on t.ending so
    close_told answer on = here
