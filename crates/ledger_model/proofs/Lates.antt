-- Each before-commit body runs, and each statement at most once: as many turns as there are statements suffice.
use Rattle.std.proofs.Common.{◌≡◌, ◌≤◌, ◌+◌, ℕ, zero, suc, List, [], ◌∷◌, ◌++◌, length, drop, refl, ap, arith, length-append, length-drop}
use Rattle.std.proofs.lemmas.List.{length-reverse}
use Rattle.std.proofs.lemmas.List.Sums.{count_by-le-length, length-filter}
use Rattle.stm_model.specs.declared.cause.HookPhase.{HookPhase}
use Rattle.stm_model.specs.Handlers.{is_undoing, of_phase, undoing}
use Rattle.ledger_model.specs.declared.job.Contents.{Contents}
use Rattle.ledger_model.specs.declared.script.Statement.{Statement}
use Rattle.ledger_model.specs.Growth.{recorded}
use Rattle.ledger_model.specs.Maps.{delete_pair, put_pair}
use Rattle.ledger_model.specs.Run.{State, Outcome, Meaning, End, Kept, Failed, Retried, kept, and_then, run_block, statement_count, next_late, late_bodies, start, run, undone, set_register, set_ref, set_map, set_slot, map_at, allowance}
use Rattle.ledger_model.proofs.Carried.{Carried}
use Rattle.ledger_model.proofs.Carried as carried

-- ---- what is still to run

-- the statements of all bodies that wait, and one more for each body
unfoldable pub waiting : List (List Statement) → ℕ
waiting [] = 0
waiting (body ∷ bodies) = 1 + statement_count body + waiting bodies

waiting_push : (bodies : List (List Statement)) (body : List Statement) → waiting (bodies ++ body ∷ []) ≡ waiting bodies + (1 + statement_count body)
unfolding waiting
waiting_push [] body = omega arith
waiting_push (b ∷ bodies) body = let more = waiting_push bodies body in omega (arith, more)

nothing_waits : (bodies : List (List Statement)) → waiting bodies ≤ 0 → bodies ≡ []
unfolding waiting
nothing_waits [] h = refl
nothing_waits (body ∷ bodies) h = absurd (omega (arith, h))

-- what is recorded, and what may still be
weight : State → ℕ
weight s = waiting s.lates + recorded s

-- so many statements put at most so much on
record Bounded (n : ℕ) (s t : State) : Type 0 where
  lates : waiting t.lates ≤ waiting s.lates + n
  all : weight t ≤ weight s + n
  fewer : waiting s.lates ≤ waiting t.lates
  hooks : length s.hooks ≤ length t.hooks

bounded_same : (s t : State) → t.lates ≡ s.lates → t.trail ≡ s.trail → t.totals ≡ s.totals → t.hooks ≡ s.hooks → t.runs ≡ s.runs → Bounded 0 s t
unfolding weight
bounded_same s t lates trail totals hooks runs =
    let a = ap waiting lates in
    let b = ap length trail in
    let c = ap length totals in
    let d = ap length hooks in
    let e = ap length runs in
    record { lates = omega (arith, a); all = omega (arith, a, b, c, d, e); fewer = omega (arith, a); hooks = omega (arith, d) }

length-undoing : (hooks : List (HookPhase × ℕ)) → length (undoing hooks) ≤ length hooks
length-undoing hooks =
    let a = length-reverse (of_phase is_undoing hooks) in
    let b = length-filter (λ (hook : HookPhase × ℕ). is_undoing hook.0) hooks in
    let c = count_by-le-length (λ (hook : HookPhase × ℕ). is_undoing hook.0) hooks in omega (arith, a, b, c)

bounded_back : (n : ℕ) (s t : State) → Bounded n s t → Bounded n s (undone s t)
unfolding weight
bounded_back n s t h =
    let own : List (HookPhase × ℕ) = drop (length s.hooks) t.hooks in
    let a = length-append t.runs (undoing own) in
    let b = length-undoing own in
    let c = length-drop (length s.hooks) t.hooks in
    let lates = h.lates in
    let all = h.all in
    let fewer = h.fewer in
    let hooks = h.hooks in
    record { lates = omega arith; all = omega (arith, a, b, c, all, fewer, hooks); fewer = omega arith; hooks = omega arith }

bounded_joined : (m n : ℕ) (s t u : State) → Bounded m s t → Bounded n t u → Bounded (m + n) s u
bounded_joined m n s t u h g =
    let a = h.lates in
    let b = g.lates in
    let c = h.all in
    let d = g.all in
    let e = h.fewer in
    let f = g.fewer in
    let i = h.hooks in
    let j = g.hooks in
    record { lates = omega (arith, a, b); all = omega (arith, c, d); fewer = omega (arith, e, f); hooks = omega (arith, i, j) }

bounded : Carried Bounded
unfolding weight
bounded = record {
  same = λ s. bounded_same s s refl refl refl refl refl;
  wider = λ m n s t le h. let a = h.lates in let b = h.all in record { lates = omega (arith, a, le); all = omega (arith, b, le); fewer = h.fewer; hooks = h.hooks };
  joined = bounded_joined;
  back = bounded_back;
  register = λ r n s. bounded_same s (set_register r n s) refl refl refl refl refl;
  ref = λ cell n s. bounded_same s (set_ref cell n s) refl refl refl refl refl;
  put = λ m key value s. bounded_same s (set_map m (put_pair key value (map_at m s)) s) refl refl refl refl refl;
  del = λ m key s. bounded_same s (set_map m (delete_pair key (map_at m s)) s) refl refl refl refl refl;
  share = λ from into s. bounded_same s (set_map into (map_at from s) s) refl refl refl refl refl;
  snap = λ k m s. bounded_same s (set_slot k (map_at m s) s) refl refl refl refl refl;
  print = λ n s. let a = length-append s.trail (n ∷ []) in record { lates = omega arith; all = omega (arith, a); fewer = omega arith; hooks = omega arith };
  hook = λ phase token s.
      let a = length-append s.hooks ((phase, token) ∷ []) in record { lates = omega arith; all = omega (arith, a); fewer = omega arith; hooks = omega (arith, a) };
  late = λ body s. let a = waiting_push s.lates body in record { lates = omega (arith, a); all = omega (arith, a); fewer = omega (arith, a); hooks = omega arith };
  allow = λ n s positive. let a = length-append s.totals ((allowance s + n) ∷ []) in record { lates = omega arith; all = omega (arith, a); fewer = omega arith; hooks = omega arith };
}

block_bounded : (block : List Statement) (s : State) → Bounded (statement_count block) s (run_block block s).after
block_bounded = carried.block Bounded bounded

-- ---- turns

-- a body leaves no more to run than stood in its queue before it was taken off
body_leaves : (n : ℕ) (body : List Statement) (rest : List (List Statement)) (s : State) → waiting (body ∷ rest) ≤ suc n
    → waiting (run_block body (record s { lates = rest })).after.lates ≤ n
unfolding waiting
body_leaves n body rest s le = let h = (block_bounded body (record s { lates = rest })).lates in omega (arith, h, le)

-- where o is kept, m and n more turns come to one
same_next : (m n : ℕ) (o : Outcome) → late_bodies m o.after ≡ late_bodies n o.after → and_then o (late_bodies m) ≡ and_then o (late_bodies n)
same_next m n o same = by_end o.end o.after same where
  by_end : (end : End) (after : State) → late_bodies m after ≡ late_bodies n after
      → and_then (record { end = end; after = after }) (late_bodies m) ≡ and_then (record { end = end; after = after }) (late_bodies n)
  by_end Kept after same = same
  by_end (Failed code) after same = refl
  by_end Retried after same = refl

same_turn : (m n : ℕ) (bodies : List (List Statement)) (s : State)
    → ((t : State) → waiting t.lates ≤ n → late_bodies m t ≡ late_bodies n t) → waiting bodies ≤ suc n → next_late (late_bodies m) s bodies ≡ next_late (late_bodies n) s bodies
same_turn m n [] s same le = refl
same_turn m n (body ∷ rest) s same le =
    same_next m n (run_block body (record s { lates = rest })) (same (run_block body (record s { lates = rest })).after (body_leaves n body rest s le))

none_left : (n : ℕ) (bodies : List (List Statement)) (s : State) → waiting bodies ≤ 0 → next_late (late_bodies n) s bodies ≡ kept s
none_left n bodies s le = ap (next_late (late_bodies n) s) (nothing_waits bodies le)

-- with enough turns for what waits, more change nothing
enough : (m n : ℕ) (s : State) → n ≤ m → waiting s.lates ≤ n → late_bodies m s ≡ late_bodies n s
unfolding late_bodies
enough zero zero s fewer le = refl
enough zero (suc n) s fewer le = absurd (omega (arith, fewer))
enough (suc m) zero s fewer le = none_left m s.lates s le
enough (suc m) (suc n) s fewer le = same_turn m n s.lates s (λ t h. enough m n t (omega (arith, fewer)) h) le

-- nothing waits where this is kept
RunsAll : Outcome → Type 0
RunsAll o = o.end ≡ Kept → o.after.lates ≡ []

all_next : (o : Outcome) (more : Meaning) → RunsAll (more o.after) → RunsAll (and_then o more)
unfolding RunsAll
all_next o more h = by_end o.end o.after h where
  by_end : (end : End) (after : State) → RunsAll (more after) → RunsAll (and_then (record { end = end; after = after }) more)
  by_end Kept after h = h
  by_end (Failed code) after h = λ is. cc
  by_end Retried after h = λ is. cc

all_turn : (n : ℕ) (s : State) (bodies : List (List Statement)) → ((t : State) → waiting t.lates ≤ n → RunsAll (late_bodies n t))
    → s.lates ≡ bodies → waiting bodies ≤ suc n → RunsAll (next_late (late_bodies n) s bodies)
unfolding RunsAll
all_turn n s [] all is le = λ kept. is
all_turn n s (body ∷ rest) all is le =
    all_next (run_block body (record s { lates = rest })) (late_bodies n) (all (run_block body (record s { lates = rest })).after (body_leaves n body rest s le))

all_run : (n : ℕ) (s : State) → waiting s.lates ≤ n → RunsAll (late_bodies n s)
unfolding late_bodies RunsAll
all_run zero s le = λ kept. nothing_waits s.lates le
all_run (suc n) s le = all_turn n s s.lates (all_run n) refl le

-- ---- what is recorded

heavy_next : (n : ℕ) (o : Outcome) (more : Meaning) → weight o.after ≤ n → ((t : State) → weight (more t).after ≤ weight t) → weight (and_then o more).after ≤ n
heavy_next n o more h rest = by_end o.end o.after h where
  by_end : (end : End) (after : State) → weight after ≤ n → weight (and_then (record { end = end; after = after }) more).after ≤ n
  by_end Kept after h = let g = rest after in omega (arith, h, g)
  by_end (Failed code) after h = h
  by_end Retried after h = h

heavy_turn : (bodies : List (List Statement)) (s : State) (more : Meaning) → s.lates ≡ bodies → ((t : State) → weight (more t).after ≤ weight t)
    → weight (next_late more s bodies).after ≤ weight s
unfolding weight waiting
heavy_turn [] s more is rest = omega arith
heavy_turn (body ∷ bodies) s more is rest =
    let t : State = record s { lates = bodies } in
    let h = (block_bounded body t).all in
    let queue = ap waiting is in heavy_next (weight s) (run_block body t) more (omega (arith, h, queue)) rest

heavy : (n : ℕ) (s : State) → weight (late_bodies n s).after ≤ weight s
unfolding late_bodies
heavy zero s = omega arith
heavy (suc n) s = heavy_turn s.lates s (late_bodies n) refl (heavy n)

-- ---- whole runs

first_waits : (block : List Statement) (contents : Contents) → waiting (run_block block (start contents)).after.lates ≤ statement_count block
unfolding waiting
first_waits block contents = let h = (block_bounded block (start contents)).lates in omega (arith, h)

pub all_lates_run : (block : List Statement) (contents : Contents) → (run block contents).end ≡ Kept → (run block contents).after.lates ≡ []
unfolding RunsAll
all_lates_run block contents =
    all_next (run_block block (start contents)) (late_bodies (statement_count block)) (all_run (statement_count block) (run_block block (start contents)).after (first_waits block contents))

pub turns_suffice : (block : List Statement) (contents : Contents) (turns : ℕ) → statement_count block ≤ turns
    → and_then (run_block block (start contents)) (late_bodies turns) ≡ run block contents
turns_suffice block contents turns le =
    same_next turns (statement_count block) (run_block block (start contents))
    (enough turns (statement_count block) (run_block block (start contents)).after le (first_waits block contents))

pub recorded_once : (block : List Statement) (contents : Contents) → recorded (run block contents).after ≤ statement_count block
unfolding weight waiting
recorded_once block contents =
    let h = (block_bounded block (start contents)).all in
    let g = heavy_next (statement_count block) (run_block block (start contents)) (late_bodies (statement_count block)) (omega (arith, h)) (heavy (statement_count block)) in
    omega (arith, g)
