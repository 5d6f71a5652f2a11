-- What is due is done, one after another.
use Rattle.std.proofs.Common.{◌≡◌, ℕ, ◌<◌, List, [], ◌∷◌, ◌++◌, length, Option, Some, None, refl, sym, ap, subst, ◌∙◌, arith}
use Rattle.ref_table.specs.Performs.{ComesFrom}
use Rattle.stm_core.proofs.Shown.{shown_alike}
use Rattle.stm_core.specs.Machine.{after_due}
use Rattle.stm_core.specs.Running.{IsSound, due_in, shown}
use Rattle.stm_core.specs.declared.running.Running.{Running}
use Rattle.stm_core.specs.declared.next.Next.{Next}
use Rattle.stm_core.specs.declared.next.Next.TheVariants as coming
use Rattle.stm_model.specs.Accesses.{addr_of}
use Rattle.stm_model.specs.Attempt.{Attempt, Due, Ring, Run}
use Rattle.stm_model.specs.Handlers.{Handlers}
use Rattle.stm_model.specs.Moves.{Does, May, MayAll, Move, did_first, moved, moved_on}
use Rattle.stm_model.specs.World.{Terms, cells_in}
use Rattle.txn_drive.specs.Calls.{Calls}
use Rattle.stm_model.specs.After.{run_all}
use Rattle.txn_drive.specs.Standing.{AreRuns}
use Rattle.txn_drive.specs.Stepping.{IsCalled, Settles}
use Rattle.txn_drive.proofs.Led.{led_done, led_on, led_self}
use Rattle.txn_drive.proofs.Told.{calls_none, calls_on, calls_one, calls_same}

-- ---- local moves, one after another

moved_append : (t : Attempt) (moves more : List Move) → moved_on t (moves ++ more) ≡ moved_on (moved_on t moves) more
moved_append t [] more = refl
moved_append t (move ∷ moves) more = moved_append (moved t move) moves more

may_append : (size limit : ℕ) (t : Attempt) (moves more : List Move) → MayAll size limit t moves → MayAll size limit (moved_on t moves) more → MayAll size limit t (moves ++ more)
may_append size limit t [] more all rest = rest
may_append size limit t (move ∷ moves) more all rest = (all.0, may_append size limit (moved t move) moves more all.1 rest)

pub comes_self : (terms : Terms) (t : Attempt) → ComesFrom terms t t
comes_self terms t = record { moves = []; may = tt; reach = refl }

-- one local move more
pub comes_on : (terms : Terms) (first t u : Attempt) (move : Move) → ComesFrom terms first t → May (cells_in terms) terms.limit t move → u ≡ moved t move → ComesFrom terms first u
comes_on terms first t u move comes able is = record {
  moves = comes.moves ++ move ∷ [];
  may = may_append (cells_in terms) terms.limit first comes.moves (move ∷ []) comes.may (subst (λ (a : Attempt). May (cells_in terms) terms.limit a move) (sym comes.reach) able, tt);
  reach = moved_append first comes.moves (move ∷ []) ∙ (ap (λ (a : Attempt). moved a move) comes.reach ∙ sym is);
}

-- ---- one of it

-- what is due first, and that it is what comes next
pub record FirstDue (dues : List Due) (next : Next) : Type 0 where
  pub due : Due
  pub behind : List Due
  pub first : dues ≡ due ∷ behind
  pub comes : after_due (due ∷ []) None ≡ Some next

pub first_due : (dues : List Due) (next : Next) → ((behind : Option Next) → after_due dues behind ≡ Some next) → FirstDue dues next
unfolding after_due
first_due [] next comes = absurd (cc (comes None))
first_due (Run phase token ∷ dues) next comes = record { due = Run phase token; behind = dues; first = refl; comes = comes None }
first_due (Ring cell ∷ dues) next comes = record { due = Ring cell; behind = dues; first = refl; comes = comes None }

runs_behind : (hooks : Handlers) (due : Due) (behind : List Due) → due ∷ behind ≡ run_all hooks → AreRuns behind
runs_behind [] due behind is = absurd (cc is)
runs_behind (hook ∷ hooks) due behind is = (hooks, cc is)

no_ring : (hooks : Handlers) (cell : ℕ) (behind : List Due) → Ring cell ∷ behind ≡ run_all hooks → ⊥
no_ring [] cell behind is = cc is
no_ring (hook ∷ hooks) cell behind is = cc is

module _ (t u v : Attempt) (next : Next) (runs runs_then runs_last : Option Handlers) (rings rings_then rings_last : Option (List ℕ)) (settles : Settles t u runs runs_then rings rings_then)
    (called : IsCalled next runs_then runs_last rings_then rings_last) (is : v ≡ moved u Does) where
  -- what was changed
  changed : (due : Due) (behind : List Due) → u.due ≡ due ∷ behind → after_due (due ∷ []) None ≡ Some next
      → (v ≡ record u { due = v.due; rings = v.rings; now = record u.now { runs = v.now.runs } })
      × Calls u.now.runs v.now.runs runs_then runs_last × Calls u.rings v.rings rings_then rings_last
  unfolding after_due moved IsCalled
  changed (Run phase token) behind some comes =
      let so : v ≡ record u { now = record u.now { runs = u.now.runs ++ (phase, token) ∷ [] }; due = behind } = is ∙ ap (did_first u) some in
      let same : coming.Run phase token ≡ next = cc comes in
      let call = subst (λ (n : Next). IsCalled n runs_then runs_last rings_then rings_last) (sym same) called in (
        subst (λ (a : Attempt). a ≡ record u { due = a.due; rings = a.rings; now = record u.now { runs = a.now.runs } }) (sym so) refl,
        calls_one u.now.runs v.now.runs runs_then runs_last (phase, token) (ap (λ (a : Attempt). a.now.runs) so) call.0,
        calls_same u.rings v.rings rings_then rings_last (ap (λ (a : Attempt). a.rings) so) call.1,
      )
  changed (Ring cell) behind some comes =
      let so : v ≡ record u { rings = u.rings ++ cell ∷ []; due = behind } = is ∙ ap (did_first u) some in
      let same : coming.Ring (addr_of cell) ≡ next = cc comes in
      let call = subst (λ (n : Next). IsCalled n runs_then runs_last rings_then rings_last) (sym same) called in (
        subst (λ (a : Attempt). a ≡ record u { due = a.due; rings = a.rings; now = record u.now { runs = a.now.runs } }) (sym so) refl,
        calls_same u.now.runs v.now.runs runs_then runs_last (ap (λ (a : Attempt). a.now.runs) so) call.0,
        calls_one u.rings v.rings rings_then rings_last cell (ap (λ (a : Attempt). a.rings) so) call.1,
      )

  -- Where handlers alone are due, the first of them is run.
  runs_on : (due : Due) (behind : List Due) → u.due ≡ due ∷ behind → AreRuns u.due → AreRuns v.due × (v.rings ≡ u.rings)
  unfolding moved
  runs_on (Run phase token) behind some all =
      let so : v ≡ record u { now = record u.now { runs = u.now.runs ++ (phase, token) ∷ [] }; due = behind } = is ∙ ap (did_first u) some in
      (subst AreRuns (sym (ap (λ (a : Attempt). a.due) so)) (runs_behind all.0 (Run phase token) behind (sym some ∙ all.1)), ap (λ (a : Attempt). a.rings) so)
  runs_on (Ring cell) behind some all = absurd (no_ring all.0 cell behind (sym some ∙ all.1))

  pub settles_on : FirstDue u.due next → Settles t v runs runs_last rings rings_last
  unfolding May
  settles_on due =
      let these = changed due.due due.behind due.first due.comes in
      let some : 0 < length u.due = (let many = ap length due.first in omega (arith, many)) in
      record {
        comes = λ terms first comes. comes_on terms first u v Does (settles.comes terms first comes) some is;
        led = led_on t u v settles.led (led_done u v is);
        is = these.0 ∙ ap (λ (a : Attempt). record a { due = v.due; rings = v.rings; now = record a.now { runs = v.now.runs } }) settles.is;
        ran = calls_on t.now.runs u.now.runs v.now.runs runs runs_then runs_last settles.ran these.1;
        rang = calls_on t.rings u.rings v.rings rings rings_then rings_last settles.rang these.2;
        handlers = λ all. let so = settles.handlers all in let runs = runs_on due.due due.behind due.first so.0 in (runs.0, runs.1 ∙ so.1);
      }

pub settles_self : (t : Attempt) (runs : Option Handlers) (rings : Option (List ℕ)) → Settles t t runs runs rings rings
settles_self t runs rings = record {
  comes = λ terms first comes. comes;
  led = led_self t;
  is = refl;
  ran = calls_none t.now.runs runs;
  rang = calls_none t.rings rings;
  handlers = λ all. (all, refl);
}

pub due_shown : (r : Running) (next : Next) → IsSound r → ((behind : Option Next) → after_due (due_in r.due r.handlers.hooks) behind ≡ Some next) → FirstDue (shown r).due next
due_shown r next sound comes = subst (λ (dues : List Due). FirstDue dues next) (sym (shown_alike r sound).due) (first_due (due_in r.due r.handlers.hooks) next comes)

pub some_due : (dues : List Due) (next : Next) → FirstDue dues next → 0 < length dues
some_due dues next due = let many = ap length due.first in omega (arith, many)

-- something less is due
pub less_due : (u v : Attempt) (next : Next) → FirstDue u.due next → v ≡ moved u Does → length v.due < length u.due
unfolding moved
less_due u v next due is = go due.due due.behind due.first
  where
    go : (one : Due) (behind : List Due) → u.due ≡ one ∷ behind → length v.due < length u.due
    go (Run phase token) behind some = let so = ap (λ (a : Attempt). length a.due) (is ∙ ap (did_first u) some) in let many = ap length some in omega (arith, so, many)
    go (Ring cell) behind some = let so = ap (λ (a : Attempt). length a.due) (is ∙ ap (did_first u) some) in let many = ap length some in omega (arith, so, many)
