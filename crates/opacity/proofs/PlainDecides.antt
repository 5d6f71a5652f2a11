-- The exchange of the clock, in a world that a table shows with its history.
use Rattle.std.proofs.Common.{◌≡◌, ◌≢◌, ℕ, suc, ◌+◌, Bool, true, false, List, [], ◌∷◌, ◌++◌, Some, ap, sym, ◌∙◌, refl, subst, if◌then◌else◌, ◌<◌, ◌^◌, nat_eq, get_or, set, take, length, slice_get, arith}
use Rattle.std.proofs.lemmas.Bool.{eq-eqb, ne_eqb}
use Rattle.std.proofs.Math.Seq.{take-suc}
use Rattle.std.proofs.lemmas.List.{map-append, set-get_or}
use Rattle.std.proofs.lemmas.Option.{get_or_from_slice_get}
use Rattle.meta_word.specs.Status.{status_of}
use Rattle.stm_model.specs.Accesses.{ExchangeClock, access_of, next, next_at, unless_due, word_of}
use Rattle.stm_model.specs.Attempt.{Attempt, Announce, Begin, Due, Stage, Write}
use Rattle.stm_model.specs.History.{Entry}
use Rattle.stm_model.specs.Safe.{HasBegun, Safe}
use Rattle.stm_model.specs.World.{IsCaller, MayHappen, MeetsOwed, Steps, Terms, View, World, entry_of, happened, place_of, step, step_by, words_after, world_of}
use Rattle.stm_model.specs.declared.note.Note.{Note}
use Rattle.opacity.specs.Plain.{ShowsSafe, writes_in}
use Rattle.opacity.specs.Words.{BringsWords, IsTable, effect, table_after}
use Rattle.opacity.proofs.Stands.{serial_from}
use Rattle.opacity.proofs.Steps.{event_safe}
use Rattle.opacity.proofs.Tables.{status_in, status_own}
use Rattle.opacity.proofs.TableSteps.{step_shown}

-- one more of a list
pub taken_more : (notes : List Note) (i : ℕ) (note : Note) → i < length notes → slice_get notes i ≡ Some note → take (i + 1) notes ≡ take i notes ++ note ∷ []
taken_more notes i note within is =
    let more : i + 1 ≡ suc i = omega arith in
    ap (λ (n : ℕ). take n notes) more ∙ take-suc notes i note within
    ∙ ap (λ (each : Note). take i notes ++ each ∷ []) (get_or_from_slice_get notes i note note is)

pub written_more : (notes : List Note) (i : ℕ) (note : Note) → i < length notes → slice_get notes i ≡ Some note
    → writes_in (take (i + 1) notes) ≡ writes_in (take i notes) ++ (note.addr.0, note.value) ∷ []
written_more notes i note within is =
    ap (λ (some : List Note). writes_in some) (taken_more notes i note within is) ∙ map-append (λ (each : Note). (each.addr.0, each.value)) (take i notes) (note ∷ [])

-- Who makes the exchange has begun.
begun : (t : Attempt) (old : ℕ) (due : List Due) (stage : Stage) → unless_due due (next_at t stage) ≡ Some (ExchangeClock old) → HasBegun stage
unfolding next_at HasBegun
begun t old (first ∷ due) stage is = cc
begun t old [] Announce is = cc
begun t old [] Begin is = cc
begun t old [] stage is = tt

module _ (lawful : List ℕ → Type 0) (may : List ℕ → List ℕ → Type 0) (terms : Terms) (words : List ℕ) (history : List Entry) (view : ℕ → View) (p old : ℕ)
    (safe : Safe lawful may terms (world_of terms words history view)) (caller : IsCaller terms p) (is : next (view p).attempt ≡ Some (ExchangeClock old)) where
  abbrev w : World
  w = world_of terms words history view

  abbrev t : Attempt
  t = (view p).attempt

  serial_is : t.serial ≡ (status_of (get_or words p 0)).serial
  unfolding world_of
  serial_is =
      serial_from t.stage t.serial (status_in terms words p).serial (begun t old t.due t.stage is) (safe.statuses p caller).serial
      ∙ rw (status_own terms words p caller) refl

  own_is : t.own ≡ p
  unfolding world_of
  own_is = (safe.attempts p caller).sound.own

  -- What the status word and the lists say is the attempt's entry.
  pub entry_is : (reads : List Note) (writes : List Write) → reads ≡ t.notes → writes ≡ t.now.writes
      → (let entry : Entry = record { caller = p; serial = (status_of (get_or words p 0)).serial; reads = reads; writes = writes } in entry ≡ entry_of t)
  entry_is reads writes noted written =
      let own = sym own_is in
      let serial = sym serial_is in
      λ i. record { caller = own i; serial = serial i; reads = noted i; writes = written i }

  module _ (table : IsTable terms words) (below : suc old < 2 ^ 64) (owes : MeetsOwed lawful may terms w (Steps p)) where
    past : (b : Bool) → nat_eq (get_or words 0 0) old ≡ b → (step w p).history ≡ (if b then history ++ entry_of t ∷ [] else history)
    unfolding world_of step_by words_after
    past true test = rw (is, test) refl
    past false test = rw (is, test) refl

    brings : BringsWords (access_of (ExchangeClock old))
    unfolding BringsWords access_of
    brings = (omega (arith, below), below)

    then_table : (b : Bool) → nat_eq (get_or words 0 0) old ≡ b → table_after terms words (access_of (ExchangeClock old)) ≡ set words 0 (if b then suc old else get_or words 0 0)
    unfolding access_of word_of effect place_of
    then_table b test = rw test refl

    decides : (b : Bool) → nat_eq (get_or words 0 0) old ≡ b
        → ShowsSafe lawful may terms (set words 0 (if b then suc old else get_or words 0 0)) (if b then history ++ entry_of t ∷ [] else history) (step w p)
    unfolding MayHappen happened
    decides b test = record {
      shows = step_shown lawful may terms words history view p (ExchangeClock old) safe table caller is brings
          ∙ ap (λ (entries : List Entry). world_of terms (table_after terms words (access_of (ExchangeClock old))) entries (step w p).view) (past b test)
          ∙ ap (λ (ws : List ℕ). world_of terms ws (if b then history ++ entry_of t ∷ [] else history) (step w p).view) (then_table b test);
      safe = event_safe lawful may terms w (Steps p) caller owes safe;
    }

    pub decides_won : get_or words 0 0 ≡ old → (entry : Entry) → entry ≡ entry_of t → ShowsSafe lawful may terms (set words 0 (old + 1)) (history ++ entry ∷ []) (step w p)
    decides_won same entry one =
        let more : old + 1 ≡ suc old = omega arith in
        rw (one, more) (decides true (eq-eqb (get_or words 0 0) old same))

    pub decides_lost : get_or words 0 0 ≢ old → ShowsSafe lawful may terms words history (step w p)
    decides_lost other =
        subst (λ (ws : List ℕ). ShowsSafe lawful may terms ws history (step w p)) (set-get_or words 0 0) (decides false (ne_eqb (get_or words 0 0) old other))
