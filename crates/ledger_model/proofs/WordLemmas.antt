-- From contents of words a script that fits runs on words.
use Rattle.std.proofs.Common.{◌≡◌, ◌+◌, ◌-◌, ◌^◌, ◌%◌, ℕ, zero, suc, Bool, true, false, IsTrue, if◌then◌else◌, ◌&&◌, List, [], ◌∷◌, length, map, replicate, take, nat_lt, nat_le, nat_eq, is_some, slice_index, slice_set, refl, sym, subst, arith}
use Rattle.std.specs.Prelude.{unwrap_or}
use Rattle.std.specs.List.{AllByRecursion}
use Rattle.ledger_model.specs.declared.job.Contents.{Contents}
use Rattle.ledger_model.specs.declared.job.Job.{Job}
use Rattle.ledger_model.specs.declared.script.Statement.{Statement}
use Rattle.ledger_model.specs.declared.script.Statement.TheOpen.{Statement-F}
use Rattle.ledger_model.specs.declared.script.Statement.TheOpen as layer
use Rattle.ledger_model.specs.declared.script.Statement.TheFolds.{map-Statement, fold-roll-Statement, ind-Statement}
use Rattle.ledger_model.specs.Fits.{JobFits, OpeningsAscend, Places, ScriptFits, WorkerFits, block_fits, each_fits, each_part_fits, fits, fits_step, fits_word, is_register, is_code, nests, operand_fits, places}
use Rattle.ledger_model.specs.Maps.{delete_pair, path_allowance, put_pair, value_at}
use Rattle.ledger_model.specs.Run.{State, Outcome, Meaning, End, Kept, Failed, Retried, Known, kept, and_then, in_turn, nested, undone_unless_kept, caught, or_else, either, move, moved_into, put, delete, share, value_of, ref_at, map_at, slot_at, set_register, set_ref, set_map, set_slot, printed, registered, registered_late, allowed, step, known, meaning, run_block, statement_count, next_late, late_bodies, start, run}
use Rattle.ledger_model.specs.declared.listing.Row.{Row}
use Rattle.ledger_model.specs.Contents.{opened, opening_contents}
use Rattle.ledger_model.specs.Replays.{after_writers, block_of, contents_after, left_by, scripts_of, writers_of}
use Rattle.ledger_model.specs.Words.{ArePairsOfWords, HoldsWords, IsWord, RunsOnWords}
use Rattle.ledger_model.proofs.MapLemmas.{All-at, All-replicate, All-set}
use Rattle.ledger_model.proofs.Meaning.{itself_all, meaning-roll}
use Rattle.ledger_model.proofs.Moments.{Moment, FitsLate, both, below, code_word, nests_inside, put_words, delete_words, found_word, register, ref, pairs, slot, allow, print, hook, late, back, value, ref_word, map_words, slot_words}

-- a code is a word
unfoldable pub EndFits : End → Type 0
EndFits Kept = Unit {0}
EndFits (Failed code) = IsWord code
EndFits Retried = Unit {0}

module _ (p : Places) where
  -- ---- parts

  -- a moment of words, and a code that is one
  To : Outcome → Type 0
  To o = Moment p o.after × EndFits o.end

  next : (o : Outcome) (more : Meaning) → To o → ((t : State) → Moment p t → To (more t)) → To (and_then o more)
  unfolding To EndFits
  next o more h rest = by_end o.end o.after h.0 h.1 where
    by_end : (end : End) (after : State) → Moment p after → EndFits end → To (and_then (record { end = end; after = after }) more)
    by_end Kept after h code = rest after h
    by_end (Failed code) after h word = (h, word)
    by_end Retried after h none = (h, none)

  or_next : (o : Outcome) (more : Meaning) → To o → ((t : State) → Moment p t → To (more t)) → To (or_else o more)
  unfolding To EndFits
  or_next o more h rest = by_end o.end o.after h.0 h.1 where
    by_end : (end : End) (after : State) → Moment p after → EndFits end → To (or_else (record { end = end; after = after }) more)
    by_end Kept after h none = (h, none)
    by_end (Failed code) after h word = (h, word)
    by_end Retried after h none = rest after h

  unless_kept : (s : State) (o : Outcome) → Moment p s → To o → To (undone_unless_kept s o)
  unfolding To EndFits
  unless_kept s o g h = by_end o.end o.after h.0 h.1 where
    by_end : (end : End) (after : State) → Moment p after → EndFits end → To (undone_unless_kept s (record { end = end; after = after }))
    by_end Kept after h none = (h, none)
    by_end (Failed code) after h word = (back p s after g h, word)
    by_end Retried after h none = (back p s after g h, none)

  catches : (r : ℕ) (o : Outcome) → To o → To (caught r o)
  unfolding To EndFits
  catches r o h = by_end o.end o.after h.0 h.1 where
    by_end : (end : End) (after : State) → Moment p after → EndFits end → To (caught r (record { end = end; after = after }))
    by_end Kept after h none = (register p r 0 after (omega arith) h, none)
    by_end (Failed code) after h word = (register p r code after word h, tt)
    by_end Retried after h none = (h, none)

  keeps : (s : State) → Moment p s → To (kept s)
  unfolding To EndFits
  keeps s h = (h, tt)

  -- ---- statements that have no others inside

  by_test : (b : Bool) (o other : Outcome) → To o → To other → To (if b then o else other)
  by_test true o other h g = h
  by_test false o other h g = g

  fails : (code : ℕ) (s : State) → IsWord code → Moment p s → To (record { end = Failed code; after = s })
  unfolding To EndFits
  fails code s word h = (h, word)

  retries : (s : State) → Moment p s → To (record { end = Retried; after = s })
  unfolding To EndFits
  retries s h = (h, tt)

  gives : (into n : ℕ) (s : State) → Moment p s → To (moved_into into n s)
  gives into n s h = by (nat_lt (ref_at into s + n) (2 ^ 64)) refl where
    by : (b : Bool) → nat_lt (ref_at into s + n) (2 ^ 64) ≡ b
        → To (if b then kept (set_ref into (ref_at into s + n) s) else record { end = Failed 2; after = s })
    by true is = keeps (set_ref into (ref_at into s + n) s) (ref p into (ref_at into s + n) s (below (ref_at into s + n) (2 ^ 64) is) h)
    by false is = fails 2 s (omega arith) h

  moves : (from into n : ℕ) (s : State) → Moment p s → To (move from into n s)
  moves from into n s h =
      let word = ref_word p from s h in
      by_test (nat_lt (ref_at from s) n) (record { end = Failed 1; after = s }) (moved_into into n (set_ref from (ref_at from s - n) s)) (fails 1 s (omega arith) h)
      (gives into n (set_ref from (ref_at from s - n) s) (ref p from (ref_at from s - n) s (omega (arith, word)) h))

  either_state : (b : Bool) (t u : State) → Moment p t → Moment p u → Moment p (if b then t else u)
  either_state true t u h g = h
  either_state false t u h g = g

  deletes : (m key : ℕ) (s : State) → Moment p s → Moment p (delete m key s)
  deletes m key s h =
      let t : State = allowed (path_allowance key (map_at m s)) s in
      let now : Moment p t = allow p (path_allowance key (map_at m s)) s h in
      either_state (is_some (value_at key (map_at m s))) (set_map m (delete_pair key (map_at m s)) t) t
      (pairs p m (delete_pair key (map_at m s)) t (delete_words key (map_at m s) (map_words p m s h)) now) now

  shares : (from into : ℕ) (s : State) → Moment p s → Moment p (share from into s)
  shares from into s h =
      let t : State = allowed 2 s in
      let now : Moment p t = allow p 2 s h in
      either_state (nat_eq from into) t (set_map into (map_at from s) t) now (pairs p into (map_at from s) t (map_words p from s h) now)

  -- ---- statements that are known to keep words

  Is : Statement → Type 0
  Is m = (left : ℕ) → IsTrue (fits p m left) → (s : State) → Moment p s → To (meaning m s)

  abbrev One : Type 0
  One = (m : Statement) × Is m

  abbrev plain : One → Statement
  plain it = it.0

  turn : (ones : List One) (left : ℕ) → IsTrue (block_fits p left (map plain ones)) → (s : State) → Moment p s → To (in_turn (map known (map plain ones)) s)
  unfolding Is
  turn [] left fit s h = keeps s h
  turn (it ∷ ones) left fit s h =
      let split = both (fits p it.0 left) (block_fits p left (map plain ones)) fit in
      next (meaning it.0 s) (in_turn (map known (map plain ones))) (it.1 left split.0 s h) (turn ones left split.1)

  first_part : (parts : List (List One)) (left : ℕ) → IsTrue (each_part_fits left (map (map (fits p)) (map (map plain) parts))) → (s : State) → Moment p s
      → To (either (map (map known) (map (map plain) parts)) s)
  first_part [] left fit s h = retries s h
  first_part (part ∷ parts) left fit s h =
      let split = both (block_fits p left (map plain part)) (each_part_fits left (map (map (fits p)) (map (map plain) parts))) fit in
      or_next (nested (map known (map plain part)) s) (either (map (map known) (map (map plain) parts)))
      (unless_kept s (in_turn (map known (map plain part)) s) h (turn part left split.0 s h)) (first_part parts left split.1)

  -- ---- all statements

  layers : (y : Statement-F One) (left : ℕ) → IsTrue (fits_step p (map-Statement Statement (ℕ → Bool) (fits p) (map-Statement One Statement plain y)) left) → (s : State) → Moment p s
      → To (step (map-Statement Statement Known known (map-Statement One Statement plain y)) s)
  layers (layer.Const r n) left fit s h = keeps (set_register r n s) (register p r n s (below n (2 ^ 64) (both (is_register r) (fits_word n) fit).1) h)
  layers (layer.Read r cell) left fit s h = keeps (set_register r (ref_at cell s) s) (register p r (ref_at cell s) s (ref_word p cell s h) h)
  layers (layer.Write cell x) left fit s h =
      keeps (set_ref cell (value_of x s) s) (ref p cell (value_of x s) s (value p x s (both (nat_lt cell p.refs) (operand_fits x) fit).1 h) h)
  layers (layer.Add r x) left fit s h =
      let n : ℕ = (slice_index s.registers r + value_of x s) % 2 ^ 64 in keeps (set_register r n s) (register p r n s (omega arith) h)
  layers (layer.Sub r x) left fit s h =
      let n : ℕ = (slice_index s.registers r + (2 ^ 64 - value_of x s)) % 2 ^ 64 in keeps (set_register r n s) (register p r n s (omega arith) h)
  layers (layer.Print x) left fit s h = keeps (printed (value_of x s) s) (print p (value_of x s) s (value p x s fit h) h)
  layers (layer.Check x y code) left fit s h =
      by_test (nat_lt (value_of x s) (value_of y s)) (record { end = Failed code; after = s }) (kept s) (fails code s (code_word code (both (operand_fits x && operand_fits y) (is_code code) fit).1) h) (keeps s h)
  layers (layer.Need x y) left fit s h =
      by_test (nat_lt (value_of x s) (value_of y s)) (record { end = Retried; after = s }) (kept s) (retries s h) (keeps s h)
  layers (layer.Move from into x) left fit s h = moves from into (value_of x s) s h
  layers (layer.Inner r block) left fit s h =
      let less = nests_inside left (λ inside. each_fits inside (map (fits p) (map plain block))) (both (is_register r) (nests left (λ inside. each_fits inside (map (fits p) (map plain block)))) fit).1 in
      catches r (nested (map known (map plain block)) s) (unless_kept s (in_turn (map known (map plain block)) s) h (turn block less.0 less.1 s h))
  layers (layer.Either parts) left fit s h =
      let inside : ℕ → Bool = λ less. each_part_fits less (map (map (fits p)) (map (map plain) parts)) in
      let less = nests_inside left inside (both (nat_le 2 (length (map (map (fits p)) (map (map plain) parts)))) (nests left inside) fit).1 in first_part parts less.0 less.1 s h
  layers (layer.Late block) left fit s h =
      let body : List Statement = map (λ part. part.itself) (map known (map plain block)) in
      let less = nests_inside left (λ inside. each_fits inside (map (fits p) (map plain block))) fit in
      let same : IsTrue (block_fits p less.0 body) = subst (λ (b : List Statement). IsTrue (block_fits p less.0 b)) (sym (itself_all (map plain block))) less.1 in
      keeps (registered_late body s) (late p body s (less.0, same) h)
  layers (layer.Hook phase token) left fit s h = keeps (registered phase token s) (hook p phase token s (below token (2 ^ 64) fit) h)
  layers (layer.Put m x y) left fit s h =
      let split = both (nat_lt m p.maps && operand_fits x) (operand_fits y) fit in
      let key : IsWord (value_of x s) = value p x s (both (nat_lt m p.maps) (operand_fits x) split.0).1 h in
      let set : IsWord (value_of y s) = value p y s split.1 h in
      let t : State = allowed (path_allowance (value_of x s) (map_at m s)) s in
      keeps (put m (value_of x s) (value_of y s) s)
      (pairs p m (put_pair (value_of x s) (value_of y s) (map_at m s)) t (put_words (value_of x s) (value_of y s) (map_at m s) key set (map_words p m s h)) (allow p (path_allowance (value_of x s) (map_at m s)) s h))
  layers (layer.Del m x) left fit s h = keeps (delete m (value_of x s) s) (deletes m (value_of x s) s h)
  layers (layer.Look r m x y) left fit s h =
      let n : ℕ = unwrap_or (value_at (value_of x s) (map_at m s)) (value_of y s) in
      let other : IsWord (value_of y s) = value p y s (both (is_register r && nat_lt m p.maps && operand_fits x) (operand_fits y) fit).1 h in
      keeps (set_register r n s) (register p r n s (found_word (value_of x s) (value_of y s) (map_at m s) other (map_words p m s h)) h)
  layers (layer.LookSlot r k x y) left fit s h =
      let n : ℕ = unwrap_or (value_at (value_of x s) (slot_at k s)) (value_of y s) in
      let other : IsWord (value_of y s) = value p y s (both (is_register r && nat_lt k p.snaps && operand_fits x) (operand_fits y) fit).1 h in
      keeps (set_register r n s) (register p r n s (found_word (value_of x s) (value_of y s) (slot_at k s) other (slot_words p k s h)) h)
  layers (layer.Snap k m) left fit s h =
      keeps (set_slot k (map_at m s) (allowed 1 s)) (slot p k (map_at m s) (allowed 1 s) (map_words p m s h) (allow p 1 s h))
  layers (layer.Share from into) left fit s h = keeps (share from into s) (shares from into s h)

  statement : (m : Statement) → Is m
  unfolding Is
  statement = ind-Statement Is (λ x y are left fit s h.
      let fits_here : IsTrue (fits_step p (map-Statement Statement (ℕ → Bool) (fits p) x) left) =
      subst (λ (test : ℕ → Bool). IsTrue (test left)) (fold-roll-Statement (ℕ → Bool) (fits_step p) x) fit in
      let fits_there : IsTrue (fits_step p (map-Statement Statement (ℕ → Bool) (fits p) (map-Statement One Statement plain y)) left) =
      subst (λ (z : Statement-F Statement). IsTrue (fits_step p (map-Statement Statement (ℕ → Bool) (fits p) z) left)) (sym are) fits_here in
      let done : To (step (map-Statement Statement Known known x) s) =
      subst (λ (z : Statement-F Statement). To (step (map-Statement Statement Known known z) s)) are (layers y left fits_there s h) in
      subst (λ (o : Outcome). To o) (sym (meaning-roll x s)) done)

  block : (ms : List Statement) (left : ℕ) → IsTrue (block_fits p left ms) → (s : State) → Moment p s → To (run_block ms s)
  unfolding Is
  block [] left fit s h = keeps s h
  block (m ∷ ms) left fit s h =
      let split = both (fits p m left) (block_fits p left ms) fit in next (meaning m s) (in_turn (map known ms)) (statement m left split.0 s h) (block ms left split.1)

  -- ---- whole runs

  taken_off : (s : State) (body : List Statement) (rest : List (List Statement)) → AllByRecursion (FitsLate p) (body ∷ rest) → Moment p s → Moment p (record s { lates = rest })
  taken_off s body rest lates h =
      let w = h.words in
      record { words = record { registers = w.registers; contents = w.contents; prints = w.prints; trail = w.trail; hooks = w.hooks; runs = w.runs }; lates = lates.1 }

  next_turn : (bodies : List (List Statement)) (more : Meaning) (s : State) → AllByRecursion (FitsLate p) bodies → ((t : State) → Moment p t → To (more t)) → Moment p s
      → To (next_late more s bodies)
  next_turn [] more s lates rest h = keeps s h
  next_turn (body ∷ bodies) more s lates rest h =
      let t : State = record s { lates = bodies } in next (run_block body t) more (block body lates.0.0 lates.0.1 t (taken_off s body bodies lates h)) rest

  turns : (n : ℕ) (s : State) → Moment p s → To (late_bodies n s)
  unfolding late_bodies
  turns zero s h = keeps s h
  turns (suc n) s h = next_turn s.lates (late_bodies n) s h.lates (turns n) h

  at_start : (contents : Contents) → HoldsWords contents → Moment p (start contents)
  at_start contents words =
      record {
        words = record { registers = All-replicate IsWord 16 0 (omega arith); contents = words; prints = tt; trail = tt; hooks = tt; runs = tt };
        lates = tt;
      }

  pub run_words : (ms : List Statement) (left : ℕ) (contents : Contents) → IsTrue (block_fits p left ms) → HoldsWords contents → RunsOnWords (run ms contents).after
  unfolding To
  run_words ms left contents fit words =
      (next (run_block ms (start contents)) (late_bodies (statement_count ms)) (block ms left fit (start contents) (at_start contents words)) (turns (statement_count ms))).0.words

-- ---- the contents of a listing

opened_words : (refs from : ℕ) (openings : List (ℕ × ℕ)) (list : List ℕ) → OpeningsAscend refs from openings → AllByRecursion IsWord list → AllByRecursion IsWord (opened openings list)
opened_words refs from [] list h words = words
opened_words refs from (opening ∷ openings) list h words =
    opened_words refs (opening.0 + 1) openings (slice_set list opening.0 opening.1) h.3 (All-set IsWord list opening.0 opening.1 words h.2)

opening_words : (job : Job) → JobFits job → HoldsWords (opening_contents job)
opening_words job fit = record {
  refs = opened_words job.refs 0 job.openings (replicate job.refs 0) fit.openings (All-replicate IsWord job.refs 0 (omega arith));
  maps = All-replicate ArePairsOfWords job.maps [] tt;
  slots = All-replicate ArePairsOfWords job.snaps [] tt;
}

-- a script that is named, or none
block_of_fits : (job : Job) (worker number : ℕ) → JobFits job → IsTrue (block_fits (places job) 32 (block_of job worker number))
block_of_fits job worker number fit =
    let scripts = All-at (WorkerFits (places job)) job.workers (worker - 1) [] fit.scripts (omega arith, tt) in
    All-at (ScriptFits (places job)) (scripts_of job worker) (number - 1) (record { block = [] }) scripts.1 refl

writers_words : (job : Job) (rows : List Row) (contents : Contents) → JobFits job → HoldsWords contents → HoldsWords (after_writers job rows contents)
writers_words job [] contents fit words = words
writers_words job (row ∷ rows) contents fit words =
    let left = (run_words (places job) (block_of job row.worker row.number) 32 contents (block_of_fits job row.worker row.number fit) words).contents in
    writers_words job rows (left_by job row contents) fit (record { refs = left.refs; maps = left.maps; slots = left.slots })

pub listed_words : (job : Job) (rows : List Row) (n : ℕ) → JobFits job → HoldsWords (contents_after job rows n)
listed_words job rows n fit = writers_words job (take n (writers_of rows)) (opening_contents job) fit (opening_words job fit)
