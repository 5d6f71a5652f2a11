-- What an event does to the history, to others' views and to status words.
use Rattle.std.proofs.Common.{◌≡◌, ◌≢◌, ◌⊎◌, ◌++◌, ℕ, nat_eq, suc, Bool, true, false, if◌then◌else◌, Option, Some, None, List, [], ◌∷◌, refl, sym, ap, ◌∙◌, inl, inr}
use Rattle.std.proofs.lemmas.Bool.{cases_eq, eqb-true}
use Rattle.meta_word.specs.declared.status.Phase.TheVariants.{Active, Doomed, Idle, Preparing}
use Rattle.meta_word.specs.declared.status.TxnStatus.{TxnStatus}
use Rattle.stm_model.specs.Accesses.{Act, StoreStatus, ExchangeClock, ExchangeMeta, ExchangeStatus, active, doomed, next, next_at, unless_due}
use Rattle.meta_word.specs.Meta.{same_meta}
use Rattle.meta_word.specs.Status.{same_status}
use Rattle.stm_model.specs.Attempt.{Announce, Attempt, Close, Due, DoomOwner, Prepare, Stage}
use Rattle.stm_model.specs.Safe.{Safe, SafeStage}
use Rattle.stm_model.specs.World.{Event, IsCaller, Looks, MayHappen, Moves, Steps, Terms, View, Waits, World, attempt_of, entry_of, happened, replaced, step, with_status, words_after}
use Rattle.opacity.specs.Effects.{IsToDoom, WinsClock, caller_of}
use Rattle.opacity.proofs.Dooms.{another_number, status_same}
use Rattle.opacity.proofs.Fits.{stage_is}
use Rattle.opacity.proofs.Places.{replaced_else, replaced_here}
use Rattle.opacity.proofs.Stepping.{step_is, stepped_by}

-- ---- views

if_view : (b : Bool) (v w : World) → v.view ≡ w.view → (if b then v else w).view ≡ w.view
if_view true v w same = same
if_view false v w same = refl

pub words_view : (w : World) (t : Attempt) (this : Act) → (words_after w t this).view ≡ w.view
unfolding words_after
words_view w t (ExchangeClock old) = if_view (nat_eq w.clock old) (record w { clock = suc old; history = w.history ++ entry_of t ∷ [] }) w refl
words_view w t (ExchangeStatus p old new) = if_view (same_status (w.status p) old) (with_status w p new) w refl
words_view w t (ExchangeMeta cell old new) = if_view (same_meta (w.meta cell) old) _ w refl
words_view w t this = refl

stepped_view : (w : World) (p : ℕ) (stage : Stage) (this : Option Act) (q : ℕ) → q ≢ p → (stepped_by w p stage this).view q ≡ w.view q
stepped_view w p stage None q other = refl
stepped_view w p stage (Some this) q other =
    replaced_else (words_after w (attempt_of w p) this).view p _ q other ∙ ap (λ (views : ℕ → View). views q) (words_view w (attempt_of w p) this)

step_view : (w : World) (p q : ℕ) → q ≢ p → (step w p).view q ≡ w.view q
step_view w p q other = ap (λ (v : World). v.view q) (step_is w p (next (attempt_of w p))) ∙ stepped_view w p (attempt_of w p).stage (next (attempt_of w p)) q other

pub others_views : (w : World) (event : Event) (q : ℕ) → q ≢ caller_of event → (happened w event).view q ≡ w.view q
unfolding happened words_after
others_views w (Steps p) q other = step_view w p q other
others_views w (Moves p this) q other = replaced_else w.view p _ q other
others_views w (Looks p) q other = replaced_else w.view p _ q other
others_views w (Waits p cell) q other = replaced_else w.view p _ q other

-- ---- the history

-- The history stays, or this access wins the exchange of the clock, and leaves the attempt's entry.
abbrev pub LeavesOwn : World → World → Attempt → Option Act → Type 0
LeavesOwn w v t this = (v.history ≡ w.history) ⊎ ((this ≡ Some (ExchangeClock w.clock)) × (v.history ≡ w.history ++ entry_of t ∷ []))

if_history : (b : Bool) (v w : World) → v.history ≡ w.history → (if b then v else w).history ≡ w.history
if_history true v w same = same
if_history false v w same = refl

pub words_history : (w : World) (t : Attempt) (this : Act) → LeavesOwn w (words_after w t this) t (Some this)
unfolding words_after
words_history w t (ExchangeClock old) = go (nat_eq w.clock old) refl
  where
    go : (b : Bool) → nat_eq w.clock old ≡ b → LeavesOwn w (if b then record w { clock = suc old; history = w.history ++ entry_of t ∷ [] } else w) t (Some (ExchangeClock old))
    go true won = inr (ap (λ (n : ℕ). Some (ExchangeClock n)) (sym (eqb-true w.clock old won)), refl)
    go false lost = inl refl
words_history w t (ExchangeStatus p old new) = inl (if_history (same_status (w.status p) old) (with_status w p new) w refl)
words_history w t (ExchangeMeta cell old new) = inl (if_history (same_meta (w.meta cell) old) _ w refl)
words_history w t this = inl refl

stepped_history : (w : World) (p : ℕ) (stage : Stage) (this : Option Act) → LeavesOwn w (stepped_by w p stage this) (attempt_of w p) this
stepped_history w p stage None = inl refl
stepped_history w p stage (Some this) = words_history w (attempt_of w p) this

step_history : (w : World) (p : ℕ) → LeavesOwn w (step w p) (attempt_of w p) (next (attempt_of w p))
step_history w p = rw (step_is w p (next (attempt_of w p))) (stepped_history w p (attempt_of w p).stage (next (attempt_of w p)))

pub history_after : (w : World) (event : Event) → ((happened w event).history ≡ w.history) ⊎ (WinsClock w (caller_of event) event × ((happened w event).history ≡ w.history ++ entry_of (attempt_of w (caller_of event)) ∷ []))
unfolding happened words_after
history_after w (Steps p) = elim (step_history w p) [
  | inl same ↦ inl same
  | inr won ↦ inr (record { steps = refl; access = won.0 }, won.1)
]
history_after w (Moves p this) = inl refl
history_after w (Looks p) = inl refl
history_after w (Waits p cell) = inl refl

-- ---- status words

-- The access leaves all status words.
abbrev LeavesStatus : Option Act → Type 0
LeavesStatus (Some (StoreStatus p new)) = ⊥
LeavesStatus (Some (ExchangeStatus p old new)) = ⊥
LeavesStatus this = Unit {0}

if_status : (b : Bool) (v w : World) → v.status ≡ w.status → (if b then v else w).status ≡ w.status
if_status true v w same = same
if_status false v w same = refl

words_status : (w : World) (t : Attempt) (this : Act) → LeavesStatus (Some this) → (words_after w t this).status ≡ w.status
unfolding words_after
words_status w t (StoreStatus p new) leaves = absurd leaves
words_status w t (ExchangeStatus p old new) leaves = absurd leaves
words_status w t (ExchangeClock old) leaves = if_status (nat_eq w.clock old) (record w { clock = suc old; history = w.history ++ entry_of t ∷ [] }) w refl
words_status w t (ExchangeMeta cell old new) leaves = if_status (same_meta (w.meta cell) old) _ w refl
words_status w t this leaves = refl

stepped_status : (w : World) (p : ℕ) (stage : Stage) (this : Option Act) → LeavesStatus this → (stepped_by w p stage this).status ≡ w.status
stepped_status w p stage None leaves = refl
stepped_status w p stage (Some this) leaves = words_status w (attempt_of w p) this leaves

-- a store of a word with another phase dooms nobody
store_dooms : (status : ℕ → TxnStatus) (own : ℕ) (new : TxnStatus) (q : ℕ) → (new.phase ≡ Doomed → ⊥) → (status q).phase ≢ Doomed → (replaced status own new q).phase ≡ Doomed → ⊥
store_dooms status own new q other before after = elim (cases_eq q own) [
  | inl same ↦ other (sym (ap (λ (word : TxnStatus). word.phase) (ap (λ (n : ℕ). replaced status own new n) same ∙ replaced_here status own new)) ∙ after)
  | inr apart ↦ before (sym (ap (λ (word : TxnStatus). word.phase) (replaced_else status own new q apart)) ∙ after)
]

active_apart : Active ≡ Doomed → ⊥
active_apart is = cc

idle_apart : Idle ≡ Doomed → ⊥
idle_apart is = cc

preparing_apart : Preparing ≡ Doomed → ⊥
preparing_apart is = cc

module _ (lawful : List ℕ → Type 0) (may : List ℕ → List ℕ → Type 0) (terms : Terms) (w : World) (p : ℕ) (safe : Safe lawful may terms w) (caller : IsCaller terms p) (q : ℕ) (before : (w.status q).phase ≢ Doomed) where
  abbrev t : Attempt
  t = attempt_of w p

  -- what it means that the caller dooms this one
  abbrev Found : Type 0
  Found = (p ≢ q) × IsToDoom t q (w.status q)

  dooms : (stage : Stage) → t.stage ≡ stage → ((stepped_by w p stage (next_at t stage)).status q).phase ≡ Doomed → Found
  unfolding next_at words_after SafeStage
  dooms Announce is after = absurd (store_dooms w.status t.own (active t.serial) q active_apart before after)
  dooms Close is after = absurd (store_dooms w.status t.own (record { serial = t.serial; phase = Idle }) q idle_apart before after)
  dooms Prepare is after = absurd (go (same_status (w.status t.own) (active t.serial)) after)
    where
      go : (b : Bool) → ((if b then with_status w t.own (record { serial = t.serial; phase = Preparing }) else w).status q).phase ≡ Doomed → ⊥
      go true after = store_dooms w.status t.own (record { serial = t.serial; phase = Preparing }) q preparing_apart before after
      go false after = before after
  dooms (DoomOwner cell value left first second status) is after = go (same_status (w.status first.owner) status) refl after
    where
      found : q ≡ first.owner → same_status (w.status first.owner) status ≡ true → Found
      found own same =
          let at_stage = stage_is terms w p (DoomOwner cell value left first second status) (safe.attempts p caller) is in
          let word : status ≡ w.status q = sym (status_same (w.status first.owner) status same) ∙ ap (λ (n : ℕ). w.status n) (sym own) in
          let other : first.owner ≢ t.own = another_number t.own first.owner at_stage.1.another in (
            λ same_caller. other (sym own ∙ sym same_caller ∙ sym (safe.attempts p caller).sound.own),
            record {
              cell = cell;
              value = value;
              left = left;
              first = first;
              second = second;
              stands = is ∙ ap (λ (s : TxnStatus). DoomOwner cell value left first second s) word;
              owned = at_stage.3 ∙ sym own;
              active = ap (λ (s : TxnStatus). s.phase) (sym word) ∙ at_stage.4;
            },
          )

      go : (b : Bool) → same_status (w.status first.owner) status ≡ b → ((if b then with_status w first.owner (doomed status) else w).status q).phase ≡ Doomed → Found
      go true same after = elim (cases_eq q first.owner) [
        | inl own ↦ found own same
        | inr apart ↦ absurd (before (sym (ap (λ (word : TxnStatus). word.phase) (replaced_else w.status first.owner (doomed status) q apart)) ∙ after))
      ]
      go false lost after = absurd (before after)
  dooms stage is after =
      let same = ap (λ (words : ℕ → TxnStatus). (words q).phase) (stepped_status w p stage (next_at t stage) tt) in
      absurd (before (sym same ∙ after))

  by_due : (due : List Due) → ((stepped_by w p t.stage (unless_due due (next_at t t.stage))).status q).phase ≡ Doomed → Found
  by_due [] after = dooms t.stage refl after
  by_due (due ∷ dues) after = absurd (before after)

  step_dooms : ((step w p).status q).phase ≡ Doomed → Found
  step_dooms after = by_due t.due (ap (λ (v : World). (v.status q).phase) (sym (step_is w p (next t))) ∙ after)

pub event_dooms : (lawful : List ℕ → Type 0) (may : List ℕ → List ℕ → Type 0) (terms : Terms) (w : World) (event : Event) (q : ℕ) → MayHappen terms w event → Safe lawful may terms w → (w.status q).phase ≢ Doomed
    → ((happened w event).status q).phase ≡ Doomed → (caller_of event ≢ q) × IsToDoom (attempt_of w (caller_of event)) q (w.status q)
unfolding MayHappen happened words_after
event_dooms lawful may terms w (Steps p) q able safe before after = step_dooms lawful may terms w p safe able q before after
event_dooms lawful may terms w (Moves p this) q able safe before after = absurd (before after)
event_dooms lawful may terms w (Looks p) q able safe before after = absurd (before after)
event_dooms lawful may terms w (Waits p cell) q able safe before after = absurd (before after)
