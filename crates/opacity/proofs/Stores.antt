-- The store of a value keeps the world safe.
use Rattle.std.proofs.Common.{◌≡◌, ◌≢◌, ℕ, suc, ◌-◌, ◌<◌, ◌&&◌, true, false, Bool, if◌then◌else◌, List, [], ◌∷◌, length, refl, sym, ap, ◌∙◌, arith, inl, inr, subst, slice_index}
use Rattle.std.proofs.lemmas.Bool.{cases_eq, eq-eqb}
use Rattle.meta_word.specs.declared.status.Phase.TheVariants.{Preparing}
use Rattle.stm_model.specs.Accesses.{next_at}
use Rattle.stm_model.specs.After.{after_at, at, release_on, store_on}
use Rattle.stm_model.specs.Attempt.{flies_at, Attempt, Release, Stage, StoreValues, Write, held_at, unmarked_at, unstored_at, holds, marks, stamp_of}
use Rattle.stm_model.specs.Heap.{over, writes_to}
use Rattle.stm_model.specs.History.{Entry, entry_after, state}
use Rattle.stm_model.specs.Safe.{EndingAt, EndsSo, EndsWith, HasBegun, IsBeingWritten, PhaseAt, Safe, SafeAttempt, SafeCell, SafeStage, stamp_on, value_then, Sound}
use Rattle.stm_model.specs.World.{IsCaller, Terms, View, World, attempt_of, cells_in, words_after, clock_after, entry_of, found, replaced, seen_after, since_at}
use Rattle.stm_model.proofs.HeapLemmas.{over_found}
use Rattle.stm_model.proofs.HistoryLemmas.{length-state, state-suc}
use Rattle.opacity.proofs.Cells.{AlikeAt, MovesOn, SameCell, same_of}
use Rattle.opacity.proofs.Fits.{ending_is, phase_is, stage_is}
use Rattle.opacity.proofs.Places.{replaced_else, replaced_here}
use Rattle.opacity.proofs.Releases.{held_here, release_safe, written_cell}
use Rattle.opacity.proofs.Stands.{Follows, follows_at, own_follows, placed}
use Rattle.opacity.proofs.Stepping.{IsStamped, stamped_release, stepped}
use Rattle.opacity.proofs.Touch.{owner_is}
use Rattle.opacity.proofs.Walks.{IsNext, ends_more, next_of, writes_to_else}
use Rattle.opacity.proofs.Whole.{OwnSafe, others_else, own_here, quiet, safe_moved}

-- Where values are stored, the attempt holds all that it writes, marked, and has these still to store.
pub record Stores (u t : Attempt) (behind : List Write) (cell : ℕ) : Type 0 where
  pub held : holds u cell ≡ writes_to t.now.writes cell
  pub marked : marks u cell ≡ writes_to t.now.writes cell
  pub unstored : writes_to t.now.writes cell ≡ true → writes_to (unstored_at u.stage) cell ≡ writes_to behind cell
  pub stamp : stamp_of u ≡ stamp_of t

and_true : (b : Bool) → (b && true) ≡ b
and_true b = grind arith

release_stores : (t : Attempt) (writes : List Write) (cell : ℕ) → t.now.writes ≡ writes → Stores (release_on t writes) t [] cell
unfolding held_at unmarked_at unstored_at
release_stores t [] cell is = record { held = rw is refl; marked = rw is refl; unstored = λ there. refl; stamp = refl }
release_stores t (next ∷ behind) cell is = record { held = rw is refl; marked = rw is (and_true (writes_to (next ∷ behind) cell)); unstored = λ there. refl; stamp = refl }

pub store_stores : (t : Attempt) (behind : List Write) (cell : ℕ) → Stores (store_on t behind) t behind cell
unfolding held_at unmarked_at unstored_at
store_stores t [] cell = release_stores t t.now.writes cell refl
store_stores t (next ∷ behind) cell = record { held = refl; marked = and_true (writes_to t.now.writes cell); unstored = λ there. refl; stamp = refl }

release_goes : (t : Attempt) (write : Write) (behind writes : List Write) → Follows (at t (StoreValues write behind)) (release_on t writes)
unfolding flies_at HasBegun
release_goes t write behind [] = follows_at t _ (StoreValues write behind) refl refl refl refl refl tt tt
release_goes t write behind (next ∷ rest) = follows_at t _ (StoreValues write behind) refl refl refl refl refl tt tt

pub store_follows : (t : Attempt) (write : Write) (behind rest : List Write) → Follows (at t (StoreValues write behind)) (store_on t rest)
unfolding flies_at HasBegun
store_follows t write behind [] = release_goes t write behind t.now.writes
store_follows t write behind (next ∷ rest) = follows_at t _ (StoreValues write behind) refl refl refl refl refl tt tt

pub store_safe : (terms : Terms) (w : World) (p : ℕ) (t : Attempt) (write : Write) (behind rest : List Write) → Sound terms w p t → t.phase ≡ Preparing → EndingAt (Release write behind) t.ending → EndsSo w t t.ending
    → EndsWith t.now.writes rest → SafeAttempt terms w p (store_on t rest)
unfolding SafeStage PhaseAt EndingAt HasBegun
store_safe terms w p t write behind [] sound phase ending so ends = release_safe terms w p t t.due write t.now.writes sound phase ending so ([], refl)
store_safe terms w p t write behind (next ∷ rest) sound phase ending so ends = placed terms w p t sound so (StoreValues next rest) tt phase ending ends

-- what a writer's entry makes of a cell that it writes
state_stamp : (opening : List ℕ) (history : List Entry) (stamp : ℕ) (entry : Entry) → 0 < stamp → entry_after history (stamp - 1) ≡ entry → state opening history stamp ≡ over (state opening history (stamp - 1)) entry.writes
state_stamp opening history stamp entry above is =
    let next : suc (stamp - 1) ≡ stamp = omega arith in
    subst (λ (n : ℕ). state opening history n ≡ over (state opening history (stamp - 1)) entry.writes) next (state-suc opening history (stamp - 1) ∙ ap (λ (e : Entry). over (state opening history (stamp - 1)) e.writes) is)

still : (stamp : ℕ) (b : Bool) → b ≡ false → stamp ≡ (if b then stamp - 1 else stamp)
still stamp b is = rw is refl

module _ (lawful : List ℕ → Type 0) (may : List ℕ → List ℕ → Type 0) (terms : Terms) (w : World) (p : ℕ) (safe : Safe lawful may terms w) (caller : IsCaller terms p)
    (write : Write) (behind : List Write) (is : (attempt_of w p).stage ≡ StoreValues write behind) where
  abbrev t : Attempt
  t = attempt_of w p

  abbrev cell : ℕ
  cell = write.0

  abbrev x : View
  x = record (w.view p) { attempt = store_on t behind }

  abbrev after : World
  after = quiet w w.meta (replaced w.value cell write.1) w.status p x

  ends : EndsWith t.now.writes (write ∷ behind)
  unfolding SafeStage
  ends = stage_is terms w p (StoreValues write behind) (safe.attempts p caller) is

  ending : EndingAt (Release write behind) t.ending
  unfolding EndingAt
  ending = ending_is terms w p (StoreValues write behind) (safe.attempts p caller) is

  stamped : IsStamped w t
  stamped = stamped_release w t write behind ending (safe.attempts p caller).ends_so

  next : IsNext t.now.writes write behind
  next = next_of t.now.writes write behind (safe.attempts p caller).sound.entry.writes_apart ends

  within : cell < cells_in terms
  within = written_cell lawful may terms w p safe caller cell next.there

  mine : (w.meta cell).owner ≡ p
  unfolding held_at
  mine = owner_is lawful may terms w safe p cell caller.0 within (held_here lawful may terms w p safe caller (StoreValues write behind) is cell next.there)

  own_then : attempt_of after p ≡ store_on t behind
  own_then = own_here lawful may terms w w.meta (replaced w.value cell write.1) w.status p x safe caller

  others_then : (q : ℕ) → q ≢ p → attempt_of after q ≡ attempt_of w q
  others_then = others_else lawful may terms w w.meta (replaced w.value cell write.1) w.status p x safe caller

  alike : (b : ℕ) → b ≢ cell → AlikeAt b (store_on t behind) (attempt_of w p)
  unfolding held_at unmarked_at unstored_at
  alike b other =
      let goes : Stores (store_on t behind) t behind b = store_stores t behind b in
      subst (λ (s : Stage). AlikeAt b (store_on t behind) (at t s)) (sym is) (record {
        held = goes.held;
        marked = λ held. goes.marked ∙ sym (and_true (writes_to t.now.writes b));
        unstored = λ held. goes.unstored held ∙ sym (writes_to_else write behind b other);
        stamp = λ held. goes.stamp;
      })

  same_then : (b : ℕ) → b < cells_in terms → b ≢ cell → SameCell terms w after b
  same_then b inside other =
      same_of terms w after p b (safe.cells b inside) caller.0 others_then (rw own_then (alike b other)) refl (replaced_else w.value cell write.1 b other) refl refl

  stamp_before : stamp_on w cell ≡ stamp_of t
  stamp_before = rw mine refl

  goes_here : Stores (store_on t behind) t behind cell
  goes_here = store_stores t behind cell

  stamp_then : stamp_on after cell ≡ stamp_of t
  stamp_then = rw (mine, own_then) goes_here.stamp

  value_stored : write.1 ≡ value_then terms w (stamp_of t) cell
  value_stored =
      let heap = state_stamp terms.opening w.history (stamp_of t) (entry_of t) stamped.above stamped.entry in
      let room : cell < length (state terms.opening w.history (stamp_of t - 1)) = omega (arith, within, length-state terms.opening w.history (stamp_of t - 1)) in
      sym (ap (λ (h : List ℕ). slice_index h cell) heap ∙ over_found (state terms.opening w.history (stamp_of t - 1)) t.now.writes cell write.1 room next.found)

  cell_then : SafeCell terms after cell
  cell_then =
      let before : IsBeingWritten terms w cell (stamp_on w cell) = (safe.cells cell within).written (omega (arith, stamp_before, stamped.above)) in
      record {
        owner = λ q above. elim (cases_eq q p) [
          | inl same ↦ rw (same, own_then, goes_here.held, next.there, mine) (sym (eq-eqb p p refl))
          | inr other ↦ rw (others_then q other) ((safe.cells cell within).owner q above)
        ];
        changing = rw (mine, own_then, goes_here.marked, next.there) before.changing;
        settled = λ none. absurd (never none);
        written = λ some. rw stamp_then (record {
          changing = before.changing;
          version = rw stamp_before at before.version;
          newest = rw stamp_before at before.newest;
          value = rw (mine, own_then, replaced_here w.value cell write.1)
              (value_stored ∙ ap (λ (n : ℕ). value_then terms w n cell) (still (stamp_of t) _ (goes_here.unstored next.there ∙ next.done)));
        });
      }
    where
      never : stamp_on after cell ≡ 0 → ⊥
      never none = absurd (omega (arith, none, stamp_then, stamped.above))

  moves : MovesOn w after cell
  moves = record { version = omega arith; pending = λ same set. set; written = inr (inl (omega (arith, stamp_then, stamped.above))) }

  prepares : t.phase ≡ Preparing
  unfolding PhaseAt
  prepares = phase_is terms w p (StoreValues write behind) (safe.attempts p caller) is

  own_safe : OwnSafe terms w p x (w.status p)
  own_safe =
      let own = safe.attempts p caller in
      let view = safe.views p caller.1 in
      let goes : Follows (attempt_of w p) (store_on t behind) = subst (λ (s : Stage). Follows (at t s) (store_on t behind)) (sym is) (store_follows t write behind behind) in
      own_follows terms w p (attempt_of w p) x refl view (safe.statuses p caller) (λ n inside same. safe.callers.undecided n p inside same)
      (record { seen = omega arith; high = view.seen; since = refl; clock = view.clock }) goes
      (store_safe terms w p t write behind behind own.sound prepares ending own.ends_so (ends_more t.now.writes write behind ends))

  pub keeps_store_values : Safe lawful may terms (stepped w p (StoreValues write behind))
  unfolding next_at after_at words_after found seen_after since_at clock_after
  keeps_store_values =
      safe_moved lawful may terms w w.meta (replaced w.value cell write.1) w.status p x safe caller
      (λ b inside. elim (cases_eq b cell) [
        | inl same ↦ inr (rw same (moves, cell_then))
        | inr other ↦ inl (same_then b inside other)
      ])
      (λ q other. inl refl) own_safe
