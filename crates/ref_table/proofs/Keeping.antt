-- Where a caller's seat makes an access, the rule is kept, and the seat knows the world after it.
use Rattle.std.proofs.Common.{◌≡◌, ◌≢◌, ℕ, ◌<◌, ◌≤◌, List, [], ◌∷◌, length, set, take, drop, refl, ap, ◌∙◌, arith}
use Rattle.std.proofs.lemmas.List.{length-take-le, take-append-drop}
use mathlib.Core.Option.{some}
use mathlib.Core.List.{IsPrefix}
use lib.ListN.{get_elem?}
use Rattle.atomic_table.proofs.Lists.{set_here}
use Rattle.stm_model.specs.History.{Entry}
use Rattle.stm_model.specs.Safe.{Safe}
use Rattle.stm_model.specs.World.{IsCaller, Terms, View, world_of}
use Rattle.stm_model.specs.declared.settings.Settings.{Settings}
use Rattle.opacity.specs.Alone.{IsAlone}
use Rattle.opacity.specs.Known.{IsKnown}
use Rattle.opacity.specs.Words.{IsTable}
use Rattle.ref_table.specs.Knowledge.{Caller, Knowledge}
use Rattle.ref_table.specs.Rule.{FitsWorld, IsCallerSeat, IsSafeTable}
use Rattle.ref_table.specs.Seen.{SafeSeat}
use Rattle.ref_table.specs.Keyed.{seat_of}
use Rattle.ref_table.specs.declared.lists.Lists.{Lists}
use Rattle.atomic_table.specs.Seated.{TableId}
use Rattle.ref_table.proofs.Fitting.{all_fit, as_caller, of_caller, whose_stays}
use Rattle.ref_table.proofs.Beginnings.{at_below, prefix_shorter, prefix_trans}
use Rattle.ref_table.proofs.SafeSeats.{safe_seat}

first_of : {X : Type 0} (n : ℕ) (xs : List X) → IsPrefix (take n xs) xs
first_of n xs = (drop n xs, take-append-drop n xs)

pub take_prefix : {X : Type 0} (xs ys : List X) → IsPrefix xs ys → take (length xs) ys ≡ xs
take_prefix [] ys first = refl
take_prefix (x ∷ xs) [] first = absurd (cc (first.1))
take_prefix (x ∷ xs) (y ∷ ys) first = let rest = take_prefix xs ys (first.0, cc (first.1)) in cc (first.1, rest)

-- what a caller's seat knows that has this view over a history
abbrev pub now : ℕ → View → List Entry → Knowledge
now p view history = record { whose = Caller p; view = view; seen = take view.seen history; joined = [] }

-- The words, the history and the views after an access of this caller: the world is safe, the history has grown, and no other caller's view has changed.
pub record IsAfter (lawful : List ℕ → Type 0) (may : List ℕ → List ℕ → Type 0) (terms : Terms) (before : List Entry) (who : ℕ → View) (p : ℕ) (words : List ℕ) (history : List Entry) (view : ℕ → View) : Type 0 where
  pub safe : Safe lawful may terms (world_of terms words history view)
  pub table : IsTable terms words
  pub grows : IsPrefix before history
  pub others : (q : ℕ) → q ≢ p → view q ≡ who q
  pub more : (who p).seen ≤ (view p).seen
  pub clock : (view p).clock ≤ (view p).seen
  pub known : IsKnown (view p)
  pub alone : terms.callers ≡ 1 → IsAlone (world_of terms words history view) 1

-- The rule is kept, and what the seat has seen is the beginning of the history that its view says, and has grown.
pub record Sees (lawful : List ℕ → Type 0) (may : List ℕ → List ℕ → Type 0) (terms : Terms) (settings : Settings) (seats : List Knowledge) (id p : ℕ) (before : List Entry) (then : List ℕ) (history : List Entry) (view : View) : Type 0 where
  pub counted : length (now p view history).seen ≡ view.seen
  pub first : IsPrefix (now p view history).seen history
  pub grows : IsPrefix before (now p view history).seen
  pub shows : IsSafeTable lawful may terms settings then (set seats id (now p view history))
  pub safe_seat : (table : TableId) (lists : Lists) → SafeSeat lawful may terms (seat_of table p lists (now p view history))

module _ (lawful : List ℕ → Type 0) (may : List ℕ → List ℕ → Type 0) (terms : Terms) (settings : Settings) (words : List ℕ) (seats : List Knowledge) (k : IsSafeTable lawful may terms settings words seats)
    (id p : ℕ) (before : Knowledge) (is : before.whose ≡ Caller p) (here : get_elem? seats id ≡ some before) where
  pub fits : FitsWorld settings k.history k.who k.place k.given id before
  fits = k.each id before here

  pub seat : IsCallerSeat k.who k.place k.given id p before.view before.seen
  seat = of_caller settings k.who k.place k.given id p before is fits.whose

  pub caller : IsCaller terms p
  caller = (seat.low, omega (arith, seat.high, k.few))

  module _ (then : List ℕ) (history : List Entry) (view : ℕ → View) (after : IsAfter lawful may terms k.history k.who p then history view) where
    abbrev then_known : Knowledge
    then_known = now p (view p) history

    bound : (view p).seen ≤ length history
    unfolding world_of
    bound = (after.safe.views p caller.1).seen

    counted : length (take (view p).seen history) ≡ (view p).seen
    counted = length-take-le (view p).seen history bound

    first : IsPrefix (take (view p).seen history) history
    first = first_of (view p).seen history

    old_first : IsPrefix before.seen history
    old_first = prefix_trans before.seen k.history history fits.seen after.grows

    more_seen : before.view.seen ≤ (view p).seen
    more_seen = let same : (k.who p).seen ≡ before.view.seen = ap (λ (v : View). v.seen) seat.shows in omega (arith, same, after.more)

    grows : IsPrefix before.seen (take (view p).seen history)
    grows = prefix_shorter before.seen (take (view p).seen history) history old_first first (omega (arith, more_seen, counted, seat.counted))

    own_then : IsCallerSeat view k.place k.given id p (view p) (take (view p).seen history)
    own_then = record {
      low = seat.low;
      high = seat.high;
      other = seat.other;
      placed = seat.placed;
      shows = refl;
      counted = counted;
      clock = after.clock;
      known = after.known;
    }

    fits_then : FitsWorld settings history view k.place k.given id then_known
    fits_then = record { seen = first; joined = (history, refl); whose = as_caller settings view k.place k.given id p then_known refl own_then }

    out : 0 < k.place p
    out = omega (arith, seat.placed, seat.other)

    another : (q : ℕ) → k.place q ≡ 0 → q ≢ p
    another q none = λ e. let at : k.place q ≡ k.place p = ap k.place e in omega (arith, at, none, out)

    shows_then : IsSafeTable lawful may terms settings then (set seats id then_known)
    shows_then = record {
      history = history;
      who = view;
      place = k.place;
      given = k.given;
      safe = after.safe;
      table = after.table;
      few = k.few;
      fresh = λ q above low. after.others q (λ e. let high = seat.high in omega (arith, e, above, high)) ∙ k.fresh q above low;
      at_rest = λ q low high none. ap (λ (v : View). v.attempt.stage) (after.others q (another q none)) ∙ k.at_rest q low high none;
      alone = after.alone;
      each = all_fit (FitsWorld settings history view k.place k.given) seats id then_known fits_then
          (λ j other apart there. let has = k.each j other there in record {
            seen = prefix_trans other.seen k.history history has.seen after.grows;
            joined = prefix_trans other.joined k.history history has.joined after.grows;
            whose = whose_stays settings k.who view k.place k.given j p other other.whose after.others out (λ e. apart (e ∙ seat.placed)) has.whose;
          });
    }

    -- It is the seat's in the table then.
    there : get_elem? (set seats id then_known) id ≡ some then_known
    there = set_here seats id then_known (at_below seats id before here)

    pub sees : Sees lawful may terms settings seats id p before.seen then history (view p)
    sees = record {
      counted = counted;
      first = first;
      grows = grows;
      shows = shows_then;
      safe_seat = λ table lists. safe_seat lawful may terms settings then (set seats id then_known) shows_then id then_known there table lists p refl;
    }
