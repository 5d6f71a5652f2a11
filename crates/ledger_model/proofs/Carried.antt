-- A relation between moments that each single change carries on is carried on by every statement and every block.
use Rattle.std.proofs.Common.{◌≡◌, ◌≤◌, ◌<◌, ◌+◌, ◌-◌, ◌^◌, ℕ, Bool, true, false, if◌then◌else◌, List, [], ◌∷◌, map, is_some, nat_lt, nat_eq, refl, ap, sym, subst, arith}
use Rattle.std.specs.Prelude.{sum, sum_by}
use Rattle.std.proofs.lemmas.List.Sums.{sum_by-cons}
use Rattle.stm_model.specs.declared.cause.HookPhase.{HookPhase}
use Rattle.ledger_model.specs.declared.script.Statement.{Statement}
use Rattle.ledger_model.specs.declared.script.Statement.TheOpen.{Statement-F}
use Rattle.ledger_model.specs.declared.script.Statement.TheOpen as layer
use Rattle.ledger_model.specs.declared.script.Statement.TheViews.{roll-Statement}
use Rattle.ledger_model.specs.declared.script.Statement.TheFolds.{map-Statement, fold-Statement, fold-roll-Statement, ind-Statement}
use Rattle.ledger_model.specs.Maps.{delete_pair, path_allowance, put_pair, value_at}
use Rattle.ledger_model.specs.Run.{State, Outcome, Meaning, End, Kept, Failed, Retried, Known, kept, and_then, in_turn, nested, undone_unless_kept, undone, caught, or_else, either, move, moved_into, put, delete, share, value_of, ref_at, map_at, set_register, set_ref, set_map, set_slot, printed, registered, registered_late, allowed, step, known, meaning, run_block, count_step, statement_count}
use Rattle.ledger_model.proofs.Meaning.{itself_all, meaning-roll}

-- Each single change keeps R, which has a count of the statements that lie between the two moments.
pub record Carried (R : ℕ → State → State → Type 0) : Type 0 where
  pub same : (s : State) → R 0 s s
  pub wider : (m n : ℕ) (s t : State) → m ≤ n → R m s t → R n s t
  pub joined : (m n : ℕ) (s t u : State) → R m s t → R n t u → R (m + n) s u
  pub back : (n : ℕ) (s t : State) → R n s t → R n s (undone s t)
  pub register : (r n : ℕ) (s : State) → R 0 s (set_register r n s)
  pub ref : (cell n : ℕ) (s : State) → R 0 s (set_ref cell n s)
  pub put : (m key value : ℕ) (s : State) → R 0 s (set_map m (put_pair key value (map_at m s)) s)
  pub del : (m key : ℕ) (s : State) → R 0 s (set_map m (delete_pair key (map_at m s)) s)
  pub share : (from into : ℕ) (s : State) → R 0 s (set_map into (map_at from s) s)
  pub snap : (k m : ℕ) (s : State) → R 0 s (set_slot k (map_at m s) s)
  pub print : (n : ℕ) (s : State) → R 1 s (printed n s)
  pub hook : (phase : HookPhase) (token : ℕ) (s : State) → R 1 s (registered phase token s)
  pub late : (body : List Statement) (s : State) → R (1 + statement_count body) s (registered_late body s)
  pub allow : (n : ℕ) (s : State) → 0 < n → R 1 s (allowed n s)

-- ---- how many statements there are, layer by layer

abbrev pub size : Statement → ℕ
size m = fold-Statement ℕ count_step m

pub sum_map : (block : List Statement) → sum (map size block) ≡ statement_count block
sum_map [] = refl
sum_map (m ∷ block) =
    let a = sum_by-cons (λ (n : ℕ). n) (size m) (map size block) in
    let b = sum_by-cons size m block in
    let c = sum_map block in omega (arith, a, b, c)

pub sum_parts : (parts : List (List Statement)) → sum_by sum (map (map size) parts) ≡ sum_by statement_count parts
sum_parts [] = refl
sum_parts (part ∷ parts) =
    let a = sum_by-cons sum (map size part) (map (map size) parts) in
    let b = sum_by-cons statement_count part parts in
    let c = sum_parts parts in
    let d = sum_map part in omega (arith, a, b, c, d)

module _ (R : ℕ → State → State → Type 0) (rule : Carried R) where
  -- ---- parts

  abbrev To : ℕ → State → Outcome → Type 0
  To n s o = R n s o.after

  next : (m n : ℕ) (s : State) (o : Outcome) (more : Meaning) → To m s o → ((t : State) → To n t (more t)) → To (m + n) s (and_then o more)
  next m n s o more h rest = by_end o.end o.after h where
    by_end : (end : End) (after : State) → R m s after → To (m + n) s (and_then (record { end = end; after = after }) more)
    by_end Kept after h = rule.joined m n s after _ h (rest after)
    by_end (Failed code) after h = rule.wider m (m + n) s after (omega arith) h
    by_end Retried after h = rule.wider m (m + n) s after (omega arith) h

  or_next : (m n : ℕ) (s : State) (o : Outcome) (more : Meaning) → To m s o → ((t : State) → To n t (more t)) → To (m + n) s (or_else o more)
  or_next m n s o more h rest = by_end o.end o.after h where
    by_end : (end : End) (after : State) → R m s after → To (m + n) s (or_else (record { end = end; after = after }) more)
    by_end Kept after h = rule.wider m (m + n) s after (omega arith) h
    by_end (Failed code) after h = rule.wider m (m + n) s after (omega arith) h
    by_end Retried after h = rule.joined m n s after _ h (rest after)

  unless_kept : (n : ℕ) (s : State) (o : Outcome) → To n s o → To n s (undone_unless_kept s o)
  unless_kept n s o h = by_end o.end o.after h where
    by_end : (end : End) (after : State) → R n s after → To n s (undone_unless_kept s (record { end = end; after = after }))
    by_end Kept after h = h
    by_end (Failed code) after h = rule.back n s after h
    by_end Retried after h = rule.back n s after h

  -- a change that counts for nothing
  and_set : (n : ℕ) (s t u : State) → R n s t → R 0 t u → R n s u
  and_set n s t u h set = rule.wider (n + 0) n s u (omega arith) (rule.joined n 0 s t u h set)

  catches : (n r : ℕ) (s : State) (o : Outcome) → To n s o → To n s (caught r o)
  catches n r s o h = by_end o.end o.after h where
    by_end : (end : End) (after : State) → R n s after → To n s (caught r (record { end = end; after = after }))
    by_end Kept after h = and_set n s after _ h (rule.register r 0 after)
    by_end (Failed code) after h = and_set n s after _ h (rule.register r code after)
    by_end Retried after h = h

  -- ---- statements that have no others inside

  one : (s t : State) → R 0 s t → R 1 s t
  one s t h = rule.wider 0 1 s t (omega arith) h

  by_test : (b : Bool) (n : ℕ) (s : State) (o p : Outcome) → To n s o → To n s p → To n s (if b then o else p)
  by_test true n s o p h g = h
  by_test false n s o p h g = g

  ends : (b : Bool) (end : End) (s : State) → To 1 s (if b then record { end = end; after = s } else kept s)
  ends b end s = by_test b 1 s (record { end = end; after = s }) (kept s) (one s s (rule.same s)) (one s s (rule.same s))

  moves : (from into n : ℕ) (s : State) → To 1 s (move from into n s)
  moves from into n s =
      let t : State = set_ref from (ref_at from s - n) s in
      let taken : R 0 s t = rule.ref from (ref_at from s - n) s in
      by_test (nat_lt (ref_at from s) n) 1 s (record { end = Failed 1; after = s }) (moved_into into n t) (one s s (rule.same s))
      (by_test (nat_lt (ref_at into t + n) (2 ^ 64)) 1 s (kept (set_ref into (ref_at into t + n) t)) (record { end = Failed 2; after = t })
      (one s _ (and_set 0 s t _ taken (rule.ref into (ref_at into t + n) t))) (one s t taken))

  either_state : (b : Bool) (s t u : State) → R 1 s t → R 1 s u → R 1 s (if b then t else u)
  either_state true s t u h g = h
  either_state false s t u h g = g

  -- the allowance of a path, which is never nothing
  path : (key m : ℕ) (s : State) → R 1 s (allowed (path_allowance key (map_at m s)) s)
  path key m s = rule.allow (path_allowance key (map_at m s)) s (omega arith)

  puts : (m key value : ℕ) (s : State) → R 1 s (put m key value s)
  puts m key value s =
      let t : State = allowed (path_allowance key (map_at m s)) s in and_set 1 s t (put m key value s) (path key m s) (rule.put m key value t)

  deletes : (m key : ℕ) (s : State) → R 1 s (delete m key s)
  deletes m key s =
      let t : State = allowed (path_allowance key (map_at m s)) s in
      either_state (is_some (value_at key (map_at m s))) s (set_map m (delete_pair key (map_at m t)) t) t
      (and_set 1 s t (set_map m (delete_pair key (map_at m t)) t) (path key m s) (rule.del m key t)) (path key m s)

  shares : (from into : ℕ) (s : State) → R 1 s (share from into s)
  shares from into s =
      let t : State = allowed 2 s in
      let two : R 1 s t = rule.allow 2 s (omega arith) in
      either_state (nat_eq from into) s t (set_map into (map_at from t) t) two (and_set 1 s t (set_map into (map_at from t) t) two (rule.share from into t))

  -- ---- blocks of statements that are known to carry it on

  abbrev Is : Statement → Type 0
  Is m = (s : State) → To (size m) s (meaning m s)

  abbrev One : Type 0
  One = (m : Statement) × Is m

  abbrev plain : One → Statement
  plain it = it.0

  turn : (ones : List One) (s : State) → To (statement_count (map plain ones)) s (in_turn (map known (map plain ones)) s)
  turn [] s = rule.same s
  turn (it ∷ ones) s =
      rule.wider (size it.0 + statement_count (map plain ones)) (statement_count (map plain (it ∷ ones))) s _
      (let c = sum_by-cons size (it.0) (map plain ones) in omega (arith, c))
      (next (size it.0) (statement_count (map plain ones)) s (meaning it.0 s) (in_turn (map known (map plain ones))) (it.1 s) (turn ones))

  first_part : (parts : List (List One)) (s : State) → To (sum_by statement_count (map (map plain) parts)) s (either (map (map known) (map (map plain) parts)) s)
  first_part [] s = rule.same s
  first_part (part ∷ parts) s =
      let n : ℕ = statement_count (map plain part) in
      let m : ℕ = sum_by statement_count (map (map plain) parts) in
      rule.wider (n + m) (sum_by statement_count (map (map plain) (part ∷ parts))) s _
      (let c = sum_by-cons statement_count (map plain part) (map (map plain) parts) in omega (arith, c))
      (or_next n m s (nested (map known (map plain part)) s) (either (map (map known) (map (map plain) parts)))
      (unless_kept n s (in_turn (map known (map plain part)) s) (turn part s)) (first_part parts))

  -- ---- all statements

  layers : (y : Statement-F One) (s : State)
      → To (count_step (map-Statement Statement ℕ size (map-Statement One Statement plain y))) s (step (map-Statement Statement Known known (map-Statement One Statement plain y)) s)
  layers (layer.Const r n) s = one s _ (rule.register r n s)
  layers (layer.Read r cell) s = one s _ (rule.register r _ s)
  layers (layer.Write cell x) s = one s _ (rule.ref cell _ s)
  layers (layer.Add r x) s = one s _ (rule.register r _ s)
  layers (layer.Sub r x) s = one s _ (rule.register r _ s)
  layers (layer.Print x) s = rule.print (value_of x s) s
  layers (layer.Check x y code) s = ends (nat_lt (value_of x s) (value_of y s)) (Failed code) s
  layers (layer.Need x y) s = ends (nat_lt (value_of x s) (value_of y s)) Retried s
  layers (layer.Move from into x) s = moves from into (value_of x s) s
  layers (layer.Inner r block) s =
      let n : ℕ = statement_count (map plain block) in
      rule.wider n (1 + sum (map size (map plain block))) s _ (let c = sum_map (map plain block) in omega (arith, c))
      (catches n r s (nested (map known (map plain block)) s) (unless_kept n s (in_turn (map known (map plain block)) s) (turn block s)))
  layers (layer.Either parts) s =
      rule.wider (sum_by statement_count (map (map plain) parts)) (1 + sum_by sum (map (map size) (map (map plain) parts))) s _
      (let c = sum_parts (map (map plain) parts) in omega (arith, c)) (first_part parts s)
  layers (layer.Late block) s =
      let body : List Statement = map (λ part. part.itself) (map known (map plain block)) in
      rule.wider (1 + statement_count body) (1 + sum (map size (map plain block))) s _
      (let b = ap statement_count (itself_all (map plain block)) in let c = sum_map (map plain block) in omega (arith, b, c))
      (rule.late body s)
  layers (layer.Hook phase token) s = rule.hook phase token s
  layers (layer.Put m x y) s = puts m (value_of x s) (value_of y s) s
  layers (layer.Del m x) s = deletes m (value_of x s) s
  layers (layer.Look r m x y) s = one s _ (rule.register r _ s)
  layers (layer.LookSlot r k x y) s = one s _ (rule.register r _ s)
  layers (layer.Snap k m) s =
      let t : State = allowed 1 s in and_set 1 s t (set_slot k (map_at m t) t) (rule.allow 1 s (omega arith)) (rule.snap k m t)
  layers (layer.Share from into) s = shares from into s

  pub statement : (m : Statement) (s : State) → R (fold-Statement ℕ count_step m) s (meaning m s).after
  statement = ind-Statement Is (λ x y are s.
      let h : To (count_step (map-Statement Statement ℕ size x)) s (step (map-Statement Statement Known known x) s) =
      subst (λ (z : Statement-F Statement). To (count_step (map-Statement Statement ℕ size z)) s (step (map-Statement Statement Known known z) s)) are (layers y s) in
      let counted : To (size (roll-Statement x)) s (step (map-Statement Statement Known known x) s) =
      subst (λ (n : ℕ). To n s (step (map-Statement Statement Known known x) s)) (sym (fold-roll-Statement ℕ count_step x)) h in
      subst (λ (o : Outcome). To (size (roll-Statement x)) s o) (sym (meaning-roll x s)) counted)

  pub block : (ms : List Statement) (s : State) → R (statement_count ms) s (run_block ms s).after
  block [] s = rule.same s
  block (m ∷ ms) s =
      rule.wider (size m + statement_count ms) (statement_count (m ∷ ms)) s _
      (let c = sum_by-cons size m ms in omega (arith, c))
      (next (size m) (statement_count ms) s (meaning m s) (in_turn (map known ms)) (statement m s) (block ms))
