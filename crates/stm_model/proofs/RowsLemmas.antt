-- Whether a schedule may happen, by a test that is run along with it.
use Rattle.std.proofs.Common.{◌≡◌, ℕ, ◌^◌, ◌<◌, ◌≤◌, Bool, true, false, ◌&&◌, List, [], ◌∷◌, nat_eq, nat_lt, nat_le, arith, refl, ap, inr, Some}
use Rattle.std.proofs.lemmas.Bool.Decides.{nat_tests}
use Rattle.meta_word.specs.declared.meta.Meta.{Meta}
use Rattle.meta_word.specs.declared.policy.Policy.{Policy}
use Rattle.meta_word.specs.declared.status.TheConstants.{MAX_SERIAL}
use Rattle.stm_model.specs.declared.access.Ask.{Ask}
use Rattle.stm_model.specs.declared.access.Ask.TheVariants.{Abandon, Finish, Get, Set}
use Rattle.stm_model.specs.declared.cause.Addr.{Addr}
use Rattle.stm_model.specs.declared.cause.Cause.{Cause}
use Rattle.stm_model.specs.declared.cause.Cause.TheVariants.{ReadConflict, Stale, WriteConflict}
use Rattle.stm_model.specs.Accesses.{addr_of, next_at}
use Rattle.meta_word.specs.Meta.{same_bool, same_but_pending, same_meta}
use Rattle.stm_model.specs.After.{acquiring, after_at, validate_on, note_validated, decided, extended, final_runs, meta_read, validated, owner_status_loaded, owner_validated, exchanged, prepared}
use Rattle.stm_model.specs.Attempt.{Attempt, Due, Ended, Late, Ready, Stage, Stopped, cause_at}
use Rattle.stm_model.specs.Moves.{Begins, May, MayAbandon, MayAsk, Move, Takes, AwaitsAskAt, asked_at, asked_going, asked_stopped, moved}
use Rattle.stm_model.specs.Rows.{settings_of, terms_of}
use Rattle.stm_model.specs.World.{Event, IsCaller, MayHappen, MayRun, Moves, Steps, Terms, World, attempt_of, cells_in, words_after, clock_after, found, happened, opened, replaced, run, seen_after, since_at, step_by}

-- ---- tests

abbrev pub is_caller : Terms → ℕ → Bool
is_caller terms p = nat_lt 0 p && nat_le p terms.callers

abbrev pub is_over : Stage → Bool
is_over Ended = true
is_over _ = false

abbrev pub waits_at : Stage → Bool
waits_at (Ready answer) = true
waits_at (Late token) = true
waits_at (Stopped cause) = true
waits_at _ = false

abbrev pub has_none : List Due → Bool
has_none [] = true
has_none (due ∷ dues) = false

abbrev pub same_cause : Cause → Cause → Bool
same_cause (ReadConflict a m) (ReadConflict b n) = nat_eq a.0 b.0 && same_meta m n
same_cause (WriteConflict a m) (WriteConflict b n) = nat_eq a.0 b.0 && same_meta m n
same_cause (Stale a version m) (Stale b other n) = nat_eq a.0 b.0 && (nat_eq version other && same_meta m n)
same_cause _ _ = false

abbrev pub is_cause : Stage → Cause → Bool
is_cause (Stopped cause) other = same_cause cause other
is_cause _ _ = false

abbrev pub may_ask : ℕ → Attempt → Ask → Bool
may_ask size t (Get cell) = nat_lt cell.0 size
may_ask size t (Set cell value) = nat_lt cell.0 size && nat_lt value (2 ^ 64)
may_ask size t Finish = nat_eq t.turn 0
may_ask size t (Abandon cause) = is_cause t.stage cause
may_ask size t _ = false

abbrev pub may_move : (size limit : ℕ) → Attempt → Move → Bool
may_move size limit t (Takes ask) = waits_at t.stage && (has_none t.due && may_ask size t ask)
may_move size limit t (Begins settings) =
    is_over t.stage && (has_none t.due && (nat_eq settings.clock limit && (nat_lt t.serial settings.attempts && nat_le settings.attempts MAX_SERIAL)))
may_move size limit t _ = false

abbrev pub may_happen : Terms → World → Event → Bool
may_happen terms w (Steps p) = is_caller terms p
may_happen terms w (Moves p this) = is_caller terms p && may_move (cells_in terms) terms.limit (attempt_of w p) this
may_happen terms w _ = false

abbrev pub may_run : Terms → World → List Event → Bool
may_run terms w [] = true
may_run terms w (event ∷ events) = may_happen terms w event && may_run terms (happened w event) events

-- ---- what they show

both : (a b : Bool) → (a && b) ≡ true → (a ≡ true) × (b ≡ true)
both true true h = (refl, refl)
both true false h = cc
both false b h = cc

caller : (terms : Terms) (p : ℕ) → is_caller terms p ≡ true → IsCaller terms p
caller terms p h = (grind (arith, nat_tests), grind (arith, nat_tests))

over : (stage : Stage) → is_over stage ≡ true → stage ≡ Ended
over Ended h = refl
over _ h = cc

waiting : (stage : Stage) → waits_at stage ≡ true → AwaitsAskAt stage
unfolding AwaitsAskAt
waiting (Ready answer) h = tt
waiting (Late token) h = tt
waiting (Stopped cause) h = tt
waiting _ h = cc

nothing : (dues : List Due) → has_none dues ≡ true → dues ≡ []
nothing [] h = refl
nothing (due ∷ dues) h = cc

bools : (a b : Bool) → same_bool a b ≡ true → a ≡ b
bools true true h = refl
bools true false h = cc
bools false true h = cc
bools false false h = refl

numbers : (m n : ℕ) → nat_eq m n ≡ true → m ≡ n
numbers m n h = grind (arith, nat_tests)

below : (m n : ℕ) → nat_lt m n ≡ true → m < n
below m n h = grind (arith, nat_tests)

at_most : (m n : ℕ) → nat_le m n ≡ true → m ≤ n
at_most m n h = grind (arith, nat_tests)

abbrev word : (changing pending : Bool) (owner version : ℕ) → Meta
word changing pending owner version = record { changing = changing; pending = pending; owner = owner; version = version }

by_fields : (c d p q : Bool) (o r v u : ℕ) → c ≡ d → p ≡ q → o ≡ r → v ≡ u → word c p o v ≡ word d q r u
by_fields c d p q o r v u changing pending owner version = cc

metas : (m n : Meta) → same_meta m n ≡ true → m ≡ n
metas m n h =
    let first = both (same_but_pending m n) (same_bool m.pending n.pending) h in
    let second = both (same_bool m.changing n.changing) (nat_eq m.owner n.owner && nat_eq m.version n.version) first.0 in
    let third = both (nat_eq m.owner n.owner) (nat_eq m.version n.version) second.1 in
    by_fields m.changing n.changing m.pending n.pending m.owner n.owner m.version n.version
    (bools _ _ second.0) (bools _ _ first.1) (numbers _ _ third.0) (numbers _ _ third.1)

addrs : (a b : Addr) → a.0 ≡ b.0 → a ≡ b
addrs a b h = ap (λ (cell : ℕ). addr_of cell) h

may_abandon : (t : Attempt) (stage : Stage) (cause : Cause) → t.stage ≡ stage → is_cause stage cause ≡ true → MayAbandon t cause
unfolding cause_at
may_abandon t (Stopped (ReadConflict a m)) (ReadConflict b n) e h =
    let h = both _ _ h in
    let addr = addrs a b (numbers _ _ h.0) in
    let meta = metas m n h.1 in
    let is : cause_at t.stage ≡ Some (ReadConflict b n) = cc in
    inr is
may_abandon t (Stopped (WriteConflict a m)) (WriteConflict b n) e h =
    let h = both _ _ h in
    let addr = addrs a b (numbers _ _ h.0) in
    let meta = metas m n h.1 in
    let is : cause_at t.stage ≡ Some (WriteConflict b n) = cc in
    inr is
may_abandon t (Stopped (Stale a version m)) (Stale b other n) e h =
    let h = both _ _ h in
    let k = both _ _ h.1 in
    let addr = addrs a b (numbers _ _ h.0) in
    let same = numbers version other k.0 in
    let meta = metas m n k.1 in
    let is : cause_at t.stage ≡ Some (Stale b other n) = cc in
    inr is
may_abandon t _ _ e h = cc

asks : (size : ℕ) (t : Attempt) (ask : Ask) → may_ask size t ask ≡ true → MayAsk size t ask
unfolding MayAsk
asks size t (Get cell) h = below cell.0 size h
asks size t (Set cell value) h =
    let h = both (nat_lt cell.0 size) (nat_lt value (2 ^ 64)) h in
    (below cell.0 size h.0, below value (2 ^ 64) h.1)
asks size t Finish h = numbers t.turn 0 h
asks size t (Abandon cause) h = may_abandon t t.stage cause refl h
asks size t _ h = cc

move : (size limit : ℕ) (t : Attempt) (this : Move) → may_move size limit t this ≡ true → May size limit t this
unfolding May
move size limit t (Takes ask) h =
    let h = both (waits_at t.stage) (has_none t.due && may_ask size t ask) h in
    let k = both (has_none t.due) (may_ask size t ask) h.1 in
    (record { stands = waiting t.stage h.0; nothing_due = nothing t.due k.0 }, asks size t ask k.1)
move size limit t (Begins settings) h =
    let room : Bool = nat_lt t.serial settings.attempts && nat_le settings.attempts MAX_SERIAL in
    let h = both (is_over t.stage) (has_none t.due && (nat_eq settings.clock limit && room)) h in
    let k = both (has_none t.due) (nat_eq settings.clock limit && room) h.1 in
    let l = both (nat_eq settings.clock limit) room k.1 in
    let m = both (nat_lt t.serial settings.attempts) (nat_le settings.attempts MAX_SERIAL) l.1 in
    (over t.stage h.0, nothing t.due k.0, numbers settings.clock limit l.0, below t.serial settings.attempts m.0, at_most settings.attempts MAX_SERIAL m.1)
move size limit t _ h = cc

event_may : (terms : Terms) (w : World) (event : Event) → may_happen terms w event ≡ true → MayHappen terms w event
unfolding MayHappen
event_may terms w (Steps p) h = caller terms p h
event_may terms w (Moves p this) h =
    let h = both (is_caller terms p) (may_move (cells_in terms) terms.limit (attempt_of w p) this) h in
    (caller terms p h.0, move (cells_in terms) terms.limit (attempt_of w p) this h.1)
event_may terms w _ h = cc

run_may : (terms : Terms) (w : World) (events : List Event) → may_run terms w events ≡ true → MayRun terms w events
run_may terms w [] h = tt
run_may terms w (event ∷ events) h =
    let h = both (may_happen terms w event) (may_run terms (happened w event) events) h in
    (event_may terms w event h.0, run_may terms (happened w event) events h.1)

-- A schedule that passes the test may happen.
pub all_may : (opening : List ℕ) (policy : Policy) (events : List Event)
    → may_run (terms_of opening) (opened (terms_of opening) (settings_of policy)) events ≡ true
    → MayRun (terms_of opening) (opened (terms_of opening) (settings_of policy)) events
all_may opening policy events h = run_may (terms_of opening) (opened (terms_of opening) (settings_of policy)) events h

-- ---- evaluation

-- To unfold this is to unfold all that a schedule computes with.
unfoldable pub computes : World → List Event → World
unfolding happened step_by found words_after seen_after clock_after since_at replaced next_at after_at meta_read extended validated acquiring exchanged owner_status_loaded owner_validated prepared validate_on note_validated decided final_runs moved asked_at asked_going asked_stopped
computes w events = run w events
