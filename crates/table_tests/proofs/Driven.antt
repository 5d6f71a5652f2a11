-- Attempts that are driven on a table: what a seat needs for their accesses, and what becomes of them.
use Rattle.std.proofs.Common.{◌≡◌, ◌≢◌, ◌⊎◌, ℕ, suc, ◌+◌, ◌<◌, ◌≤◌, Bool, true, false, List, [], ◌∷◌, ◌++◌, length, Option, Some, None, if◌then◌else◌, refl, sym, ap, subst, ◌∙◌, ⊎_elim, inl, arith}
use Rattle.meta_word.specs.declared.meta.TheConstants.{PENDING_BIT}
use Rattle.meta_word.specs.declared.status.TheConstants.{MAX_SERIAL}
use Rattle.opacity.specs.Words.{IsOfTable}
use Rattle.ref_table.specs.Performs.{FoundFits, IsNextOf, MayPerform, Performed, Performs}
use Rattle.ref_table.specs.Seats.{IsSameSeat, SeatState}
use Rattle.stm_core.specs.Machine.{FindsClock, IsAtRest, IsRefused, IsSameAttempt, IsToRun, Promises, in_flight}
use Rattle.stm_core.specs.declared.next.Next.{Next}
use Rattle.stm_core.specs.declared.next.Next.TheVariants as coming
use Rattle.stm_core.specs.declared.next.Reply.TheVariants as reply
use Rattle.stm_model.specs.Accesses.{Act, ExchangeClock, SetPending, access_of, next, next_at, packed, unless_due, word_of}
use Rattle.stm_model.specs.After.{after_word}
use Rattle.stm_model.specs.Attempt.{Announce, Attempt, Due, Ended, Stage, flies_at, no_attempt}
use Rattle.stm_model.specs.Moves.{AwaitsAsk, AwaitsAskAt, Begins, Does, May, MayAll, MayAsk, Move, OutOfMemory, Takes, moved, moved_on}
use Rattle.stm_model.specs.World.{Terms, View, cells_in}
use Rattle.stm_model.specs.declared.access.Access.{Access}
use Rattle.stm_model.specs.declared.access.Access.TheVariants.{Exchange, Load, SetBits}
use Rattle.stm_model.specs.declared.access.Ask.{Ask}
use Rattle.stm_model.specs.declared.access.Word.TheVariants.{Clock, Meta}
use Rattle.stm_model.specs.declared.ending.Ending.{Ending}
use Rattle.stm_model.specs.declared.settings.Settings.{Settings}
use Rattle.table_tests.specs.Driving.{IsOn, Rests}

-- ---- in flight

flies_by : (t : Attempt) (stage : Stage) (dues : List Due) (act : Act) → unless_due dues (next_at t stage) ≡ Some act → flies_at stage ≡ true
unfolding flies_at next_at
flies_by t Ended [] act is = cc
flies_by t Ended (due ∷ dues) act is = cc
flies_by t stage dues act is = refl

pub flies : (t : Attempt) (act : Act) → next t ≡ Some act → flies_at t.stage ≡ true
flies t act is = flies_by t t.stage t.due act is

pub shown_next : (t : Attempt) (act : Act) → next t ≡ Some act → in_flight t ≡ Some t
shown_next t act is = ap (λ b. if b then Some t else None) (flies t act is)

pub goes_by_access : (t : Attempt) (act : Act) → next t ≡ Some act → t.stage ≢ Ended
unfolding flies_at
goes_by_access t act is over = let flying = flies t act is in let lands = ap (λ (stage : Stage). flies_at stage) over in cc

pub goes_by_ask : (t : Attempt) → AwaitsAsk t → t.stage ≢ Ended
unfolding AwaitsAskAt
goes_by_ask t waits over = subst AwaitsAskAt over waits.stands

-- what says so that it goes on
abbrev pub is_going : Next → Bool
is_going (coming.Access access) = true
is_going (coming.Decide old) = true
is_going (coming.Reply reply.Ready) = true
is_going (coming.Reply (reply.Value value)) = true
is_going (coming.Reply (reply.Stopped cause)) = true
is_going other = false

pub goes_so : (t : Attempt) (said : Next) → Promises t said → is_going said ≡ true → t.stage ≢ Ended
goes_so t (coming.Access access) promises is = goes_by_access t promises.act promises.next
goes_so t (coming.Decide old) promises is = goes_by_access t (ExchangeClock old) promises.next
goes_so t (coming.Reply reply.Ready) promises is = goes_by_ask t promises.awaits
goes_so t (coming.Reply (reply.Value value)) promises is = goes_by_ask t promises.awaits
goes_so t (coming.Reply (reply.Stopped cause)) promises is = goes_by_ask t promises.waits.awaits
goes_so t other promises is = absurd cc

-- ---- an access

-- Under the free law nothing is owed.
pub may_next : (terms : Terms) (seat : SeatState) (t : Attempt) (act : Act) (access : Access) → IsOn terms seat t → next t ≡ Some act → access_of act ≡ access
    → MayPerform (λ heap. Unit {0}) (λ heap other. Unit {0}) terms seat.view access (in_flight t)
may_next terms seat t act access on is made =
    let next_one : IsNextOf (λ heap. Unit {0}) (λ heap other. Unit {0}) terms seat.view access t = record {
      comes = on.comes;
      is_next = ap packed is ∙ ap (λ a. Some a) made;
      owes = λ old decides heap possible. (tt, tt);
    } in
    subst (λ (o : Option Attempt). MayPerform (λ heap. Unit {0}) (λ heap other. Unit {0}) terms seat.view access o) (sym (shown_next t act is)) next_one

clock_found : (terms : Terms) (access : Access) (found : ℕ) → FoundFits terms (word_of access) found → FindsClock access → found ≤ terms.limit
unfolding FoundFits word_of
clock_found terms (Load Clock) found fits finds = fits
clock_found terms access found fits finds = absurd finds

pub clock_fits : (terms : Terms) (seat : SeatState) (t : Attempt) (access : Access) (found : ℕ) → IsOn terms seat t → FoundFits terms (word_of access) found → FindsClock access → found ≤ t.settings.clock
clock_fits terms seat t access found on fits finds = let low = clock_found terms access found fits finds in let same = on.limit in omega (arith, low, same)

pub decided_fits : (terms : Terms) (seat : SeatState) (t : Attempt) (old new found : ℕ) → IsOn terms seat t → FoundFits terms (word_of (Exchange Clock old new)) found → found ≤ t.settings.clock
unfolding FoundFits word_of
decided_fits terms seat t old new found on fits = let low : found ≤ terms.limit = fits in let same = on.limit in omega (arith, low, same)

pub of_clock : (terms : Terms) (old new : ℕ) → IsOfTable terms (word_of (Exchange Clock old new))
unfolding IsOfTable word_of
of_clock terms old new = tt

pub decides : (old : ℕ) → access_of (ExchangeClock old) ≡ Exchange Clock old (old + 1)
unfolding access_of
decides old = ap (λ (n : ℕ). Exchange Clock old n) (omega arith)

pub on_next : (terms : Terms) (a b : SeatState) (t u : Attempt) (act : Act) (access : Access) (found : ℕ) → IsOn terms a t → next t ≡ Some act → Performs access found a b (in_flight t) → b.view.attempt.own ≡ b.number
    → u ≡ after_word t found → IsSameAttempt t u → IsOn terms b u
on_next terms a b t u act access found on is performs own after same =
    let steps : Performed t found a b = subst (λ (o : Option Attempt). Performs access found a b o) (shown_next t act is) performs in
    let alike : b.view.attempt ≡ u = ap (λ (v : View). v.attempt) steps.view ∙ sym after in record {
      comes = record { moves = []; may = tt; reach = alike };
      own = own;
      limit = ap (λ (s : Settings). s.clock) same.settings ∙ on.limit;
      over = λ ended. alike;
    }

-- ---- a local move

may_all_on : (size limit : ℕ) (moves : List Move) (t : Attempt) (move : Move) → MayAll size limit t moves → May size limit (moved_on t moves) move → MayAll size limit t (moves ++ move ∷ [])
may_all_on size limit [] t move all one = (one, tt)
may_all_on size limit (first ∷ moves) t move all one = (all.0, may_all_on size limit moves (moved t first) move all.1 one)

moved_on_on : (moves : List Move) (t : Attempt) (move : Move) → moved_on t (moves ++ move ∷ []) ≡ moved (moved_on t moves) move
moved_on_on [] t move = refl
moved_on_on (first ∷ moves) t move = moved_on_on moves (moved t first) move

on_moved : (terms : Terms) (seat : SeatState) (t u : Attempt) (move : Move) → IsOn terms seat t → May (cells_in terms) terms.limit t move → u ≡ moved t move → IsSameAttempt t u → u.stage ≢ Ended → IsOn terms seat u
on_moved terms seat t u move on may is same goes = record {
  comes = record {
    moves = on.comes.moves ++ move ∷ [];
    may = may_all_on (cells_in terms) terms.limit on.comes.moves seat.view.attempt move on.comes.may (subst (λ (a : Attempt). May (cells_in terms) terms.limit a move) (sym on.comes.reach) may);
    reach = moved_on_on on.comes.moves seat.view.attempt move ∙ (ap (λ (a : Attempt). moved a move) on.comes.reach ∙ sym is);
  };
  own = on.own;
  limit = ap (λ (s : Settings). s.clock) same.settings ∙ on.limit;
  over = λ ended. absurd (goes ended);
}

pub on_asked : (terms : Terms) (seat : SeatState) (t u : Attempt) (ask : Ask) → IsOn terms seat t → cells_in terms ≡ 2 → AwaitsAsk t → MayAsk 2 t ask → (u ≡ moved t (Takes ask)) ⊎ IsRefused t ask u → IsSameAttempt t u
    → u.stage ≢ Ended → IsOn terms seat u
unfolding May
on_asked terms seat t u ask on cells waits may moves same goes =
    let here : MayAsk (cells_in terms) t ask = subst (λ (n : ℕ). MayAsk n t ask) (sym cells) may in
    ⊎_elim
    (λ (is : u ≡ moved t (Takes ask)). on_moved terms seat t u (Takes ask) on (waits, here) is same goes)
    (λ (no : IsRefused t ask u). on_moved terms seat t u (OutOfMemory ask) on (waits, no.going, here, no.wants) no.stops same goes) moves

pub to_ring : (t : Attempt) → 0 < length t.due → IsToRun t
unfolding IsToRun
to_ring t some = inl some

pub on_rung : (terms : Terms) (seat : SeatState) (t u : Attempt) → IsOn terms seat t → 0 < length t.due → u ≡ moved t Does → IsSameAttempt t u → u.stage ≢ Ended → IsOn terms seat u
unfolding May
on_rung terms seat t u on some is same goes = on_moved terms seat t u Does on some is same goes

-- ---- the first and the last

abbrev pub fresh : ℕ → ℕ → Settings → Attempt
fresh own serial settings = record (no_attempt own settings) { serial = serial; stage = Announce }

pub on_begun : (terms : Terms) (seat : SeatState) (u : Attempt) (own serial : ℕ) (settings : Settings) → Rests seat → own ≡ seat.number → serial ≡ seat.view.attempt.serial + 1 → u ≡ fresh own serial settings → settings.clock ≡ terms.limit
    → serial ≤ settings.attempts → settings.attempts ≤ MAX_SERIAL → IsOn terms seat u
unfolding May moved
on_begun terms seat u own serial settings rests mine next_one is limit room most =
    let number : suc seat.view.attempt.serial ≡ serial = omega (arith, next_one) in record {
      comes = record {
        moves = Begins settings ∷ [];
        may = ((rests.stage, rests.nothing_due, limit, omega (arith, room, next_one), most), tt);
        reach = (λ i. fresh ((rests.own ∙ sym mine) i) (number i) settings) ∙ sym is;
      };
      own = rests.own;
      limit = ap (λ (t : Attempt). t.settings.clock) is ∙ limit;
      over = λ ended. let here : Announce ≡ Ended = sym (ap (λ (t : Attempt). t.stage) is) ∙ ended in absurd cc;
    }

pub at_rest : (terms : Terms) (seat : SeatState) (t : Attempt) (ending : Ending) → IsOn terms seat t → IsAtRest t ending → Rests seat
at_rest terms seat t ending on over =
    let alike = on.over over.stage in record {
      own = on.own;
      stage = ap (λ (a : Attempt). a.stage) alike ∙ over.stage;
      nothing_due = ap (λ (a : Attempt). a.due) alike ∙ over.nothing_due;
    }

-- ---- a wait

pub may_wait : (terms : Terms) (seat : SeatState) (cell : ℕ) (access : Access) → Rests seat → access ≡ access_of (SetPending cell) → cell < cells_in terms
    → MayPerform (λ heap. Unit {0}) (λ heap other. Unit {0}) terms seat.view access None
may_wait terms seat cell access rests sets within = record { cell = cell; in_range = within; at_rest = rests.stage; sets = sets }

pub wait_rests : (a b : SeatState) (cell found : ℕ) (access : Access) → Rests a → access ≡ access_of (SetPending cell) → Performs access found a b None → IsSameSeat a b → Rests b
wait_rests a b cell found access rests sets performs same =
    let alike : b.view.attempt ≡ a.view.attempt = ap (λ (v : View). v.attempt) (performs cell sets).0 in record {
      own = ap (λ (t : Attempt). t.own) alike ∙ (rests.own ∙ sym same.number);
      stage = ap (λ (t : Attempt). t.stage) alike ∙ rests.stage;
      nothing_due = ap (λ (t : Attempt). t.due) alike ∙ rests.nothing_due;
    }

pub sets_zero : SetBits (Meta (record { 0 = 0 })) PENDING_BIT ≡ access_of (SetPending 0)
unfolding access_of
sets_zero = refl

pub of_zero : (terms : Terms) → cells_in terms ≡ 2 → IsOfTable terms (word_of (SetBits (Meta (record { 0 = 0 })) PENDING_BIT))
unfolding IsOfTable word_of
of_zero terms cells = omega (arith, cells)
