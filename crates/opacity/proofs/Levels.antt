-- Writes that are put into the book, and levels that are undone.
use Rattle.std.proofs.Common.{◌≡◌, ℕ, ◌<◌, ◌^◌, ◌&&◌, not, true, false, Bool, None, List, [], ◌∷◌, ◌++◌, length, drop, refl, sym, ap, ◌∙◌, arith, append_assoc, length-append}
use Rattle.std.specs.List.{All}
use Rattle.std.specs.Map.{keys_of}
use Rattle.std.proofs.lemmas.List.{append-nil, drop-map, drop_at, get_or_append_left, length-map}
use Rattle.std.proofs.lemmas.List.Elements.{All-push}
use Rattle.meta_word.specs.declared.status.Phase.TheVariants.{Active}
use Rattle.stm_model.specs.After.{release_level_on, run_all}
use Rattle.stm_model.specs.Attempt.{Attempt, Due, Write, ReleaseLevel, Ready, held_at, unmarked_at, unstored_at, holds, marks, stamp_of}
use Rattle.stm_model.specs.CellsState.{Book, level_runs, outer, returned}
use Rattle.stm_model.specs.Heap.{put, writes_to}
use Rattle.stm_model.specs.Safe.{EndingAt, ReleasesLevel, HasBegun, LevelsNest, PhaseAt, SafeAttempt, SafeStage, EndsSo, Sound}
use Rattle.stm_model.specs.World.{Terms, World, cells_in}
use Rattle.stm_model.proofs.HeapLemmas.{AreWords-put, IsDistinct-put}
use Rattle.opacity.proofs.Stands.{placed, sound_levels, sound_with}
use Rattle.opacity.proofs.Walks.{distinct_front, keys-put_new, keys-put_written}

-- ---- levels

pub nest_outer : (cells : List ℕ) (saved : List Book) → LevelsNest cells saved → LevelsNest cells (outer saved)
nest_outer cells [] nest = tt
nest_outer cells (former ∷ []) nest = tt
nest_outer cells (former ∷ book ∷ books) nest =
    let inner : LevelsNest (keys_of former.writes) (book ∷ books) = nest.2 in
    ((inner.0.0 ++ nest.0.0, nest.0.1 ∙ ap (λ front. front ++ nest.0.0) inner.0.1 ∙ append_assoc (keys_of book.writes) inner.0.0 nest.0.0), inner.1, inner.2)

nest_more : (cells more : List ℕ) (saved : List Book) → LevelsNest cells saved → LevelsNest (cells ++ more) saved
nest_more cells more [] nest = tt
nest_more cells more (book ∷ books) nest =
    ((nest.0.0 ++ more, ap (λ front. front ++ more) nest.0.1 ∙ append_assoc (keys_of book.writes) nest.0.0 more), nest.1, nest.2)

-- ---- one write more

module _ (terms : Terms) (w : World) (p : ℕ) (t : Attempt) (sound : Sound terms w p t) where
  abbrev with_write : ℕ → ℕ → Attempt
  with_write cell value = record t { now = record t.now { writes = put t.now.writes cell value } }

  put_sound : (cell value : ℕ) → value < 2 ^ 64 → All (λ each. each < cells_in terms) (keys_of (put t.now.writes cell value)) → LevelsNest (keys_of (put t.now.writes cell value)) t.saved
      → Sound terms w p (with_write cell value)
  put_sound cell value word cells levels =
      sound_with terms w p t (put t.now.writes cell value) t.saved sound (IsDistinct-put t.now.writes cell value sound.entry.writes_apart) (AreWords-put t.now.writes cell value sound.entry.words word) cells levels

  pub put_written : (cell value : ℕ) → value < 2 ^ 64 → writes_to t.now.writes cell ≡ true → Sound terms w p (with_write cell value)
  put_written cell value word written =
      let same = keys-put_written t.now.writes cell value written in
      put_sound cell value word (rw same sound.written_cells) (rw same sound.levels)

  pub put_new : (cell value : ℕ) → value < 2 ^ 64 → cell < cells_in terms → writes_to t.now.writes cell ≡ false → Sound terms w p (with_write cell value)
  put_new cell value word within none =
      let more = keys-put_new t.now.writes cell value none in
      put_sound cell value word
      (rw more (All-push (λ each. each < cells_in terms) (keys_of t.now.writes) cell sound.written_cells within))
      (rw more (nest_more (keys_of t.now.writes) (cell ∷ []) t.saved sound.levels))

-- ---- a level is undone

All-front : {X : Type 0} (P : X → Type 0) (front behind : List X) → All P (front ++ behind) → All P front
All-front P front behind all = λ k d within.
    let here : k < length (front ++ behind) = omega (arith, length-append front behind) in
    rw (get_or_append_left front behind d k within) at (all k d here)

keys-drop : (n : ℕ) (writes : List Write) → keys_of (drop n writes) ≡ drop n (keys_of writes)
keys-drop n writes = sym (drop-map (λ write. write.0) n writes)

-- the cells behind those with which the level began
level_behind : (former writes : List Write) (since : List ℕ) → keys_of writes ≡ keys_of former ++ since → keys_of writes ≡ keys_of former ++ [] ++ keys_of (drop (length former) writes)
level_behind former writes since whole =
    let behind : keys_of (drop (length former) writes) ≡ since =
    keys-drop (length former) writes ∙ ap (λ cells. drop (length former) cells) whole ∙ drop_at (keys_of former) since (length former) (length-map former (λ write. write.0)) in
    rw behind (rw append-nil whole)

pub gives_level : (t : Attempt) (former : Book) (others : List Book) → LevelsNest (keys_of t.now.writes) t.saved → t.saved ≡ former ∷ others
    → (gives : ReleasesLevel t former.writes (drop (length former.writes) t.now.writes)) × (gives.given ≡ [])
gives_level t former others nest is =
    let level : LevelsNest (keys_of t.now.writes) (former ∷ others) = rw is at nest in
    (record { former = former; others = others; level = is; kept_writes = refl; given = []; whole = level_behind former.writes t.now.writes level.0.0 level.0.1 }, refl)

module _ (terms : Terms) (w : World) (p : ℕ) where
  -- the book with which the level began comes back
  returned_sound : (t : Attempt) (saved : List Book) (due : List Due) → Sound terms w p t → LevelsNest (keys_of t.now.writes) saved
      → Sound terms w p (record t { now = returned saved t.now; saved = outer saved; due = due })
  returned_sound t [] due sound nest = sound_levels terms w p t [] sound tt
  returned_sound t (former ∷ others) due sound nest =
      sound_with terms w p t former.writes others sound (distinct_front (keys_of former.writes) nest.0.0 (rw nest.0.1 at sound.entry.writes_apart)) nest.1
      (All-front (λ cell. cell < cells_in terms) (keys_of former.writes) nest.0.0 (rw nest.0.1 at sound.written_cells)) nest.2

  pub level_safe : (t : Attempt) (kept behind : List Write) → Sound terms w p t → ReleasesLevel t kept behind → t.phase ≡ Active → t.ending ≡ None → SafeAttempt terms w p (release_level_on t kept behind)
  unfolding SafeStage PhaseAt EndingAt HasBegun EndsSo
  level_safe t kept [] sound gives active none =
      let u = record t { now = returned t.saved t.now; saved = outer t.saved; due = t.due ++ run_all (level_runs t.saved t.now) } in
      placed terms w p u (returned_sound t t.saved u.due sound sound.levels) (rw none tt) (Ready None) tt active none tt
  level_safe t kept (write ∷ behind) sound gives active none =
      placed terms w p t sound (rw none tt) (ReleaseLevel kept write behind) tt active none gives

-- An attempt holds these cells, unmarked, and is undecided.
pub record HoldsThese (u : Attempt) (kept behind : List Write) (cell : ℕ) : Type 0 where
  pub held : holds u cell ≡ writes_to (kept ++ behind) cell
  pub unmarked : marks u cell ≡ false
  pub unstored : unstored_at u.stage ≡ []
  pub stamp : stamp_of u ≡ 0

pub and_not : (b : Bool) → (b && not b) ≡ false
and_not true = refl
and_not false = refl

returned_writes : (saved : List Book) (now former : Book) (others : List Book) → saved ≡ former ∷ others → (returned saved now).writes ≡ former.writes
returned_writes saved now former others is = rw is refl

pub level_holds : (t : Attempt) (kept behind : List Write) (cell : ℕ) → ReleasesLevel t kept behind → t.ending ≡ None → HoldsThese (release_level_on t kept behind) kept behind cell
unfolding held_at unmarked_at unstored_at
level_holds t kept [] cell gives none =
    let back : (returned t.saved t.now).writes ≡ kept = returned_writes t.saved t.now gives.former gives.others gives.level ∙ sym gives.kept_writes in
    record {
      held = rw append-nil (ap (λ writes. writes_to writes cell) back);
      unmarked = and_not (writes_to (returned t.saved t.now).writes cell);
      unstored = refl;
      stamp = rw none refl;
    }
level_holds t kept (write ∷ behind) cell gives none = record { held = refl; unmarked = and_not (writes_to (kept ++ write ∷ behind) cell); unstored = refl; stamp = rw none refl }
