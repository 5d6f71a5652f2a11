-- Each cut and each join keeps the rule.
use Rattle.std.proofs.Common.{◌≡◌, ◌≢◌, ℕ, suc, ◌+◌, ◌<◌, ◌≤◌, Bool, true, false, cond, leb, List, [], ◌∷◌, ◌++◌, length, set, refl, sym, ap, subst, ◌∙◌, inl, inr, ⊎_elim, arith, length-set}
use Rattle.std.specs.List.{Contains}
use Rattle.std.specs.Map.{keys_of}
use Rattle.std.proofs.lemmas.Bool.{cases_eq, leb-false, leb-true}
use Rattle.std.proofs.lemmas.List.Elements.{All-cons, All-weaker}
use mathlib.Core.Option.{some}
use mathlib.Core.List.{IsPrefix}
use lib.ListN.{get_elem?}
use Rattle.atomic_table.proofs.Lists.{at_set}
use Rattle.atomic_table.specs.Table.{Joins, Splits}
use Rattle.stm_model.specs.Attempt.{Ended}
use Rattle.stm_model.specs.History.{Entry}
use Rattle.stm_model.specs.Safe.{Safe}
use Rattle.stm_model.specs.World.{Terms, View, replaced, world_of}
use Rattle.stm_model.specs.declared.settings.Settings.{Settings}
use Rattle.opacity.specs.Alone.{IsAlone}
use Rattle.opacity.specs.Known.{IsKnown, clock_at}
use Rattle.opacity.proofs.Events.{learn_safe}
use Rattle.opacity.proofs.KnownEvents.{sees_more}
use Rattle.opacity.proofs.LoneRuns.{learned_alone}
use Rattle.opacity.proofs.Places.{replaced_else, replaced_here}
use Rattle.ref_table.specs.Knowledge.{Caller, Knowledge, Maker, Mark, Whose, first_view}
use Rattle.ref_table.specs.Parts.{after_deal, after_gather, after_heed, dealt, gathered_of, given_of, learned, marked, number_of, spent}
use Rattle.ref_table.specs.Rule.{FitsWorld, FitsWhose, IsCallerSeat, IsMakerSeat, Keeps, IsSafeTable, WasGathered, out_of}
use Rattle.ref_table.specs.Seats.{longer, shorter}
use Rattle.ref_table.proofs.Counts.{out_fewer, out_more}
use Rattle.ref_table.proofs.Fitting.{all_fit, as_caller, as_maker, as_mark, of_caller, of_maker, whose_joined, whose_stays}
use Rattle.ref_table.proofs.Beginnings.{at_below, at_snoc, prefix_length, prefix_self}

-- ---- the longer of two

pub longer_right : (xs ys : List Entry) → length ys ≤ length (longer xs ys)
longer_right xs ys = go (leb (length xs) (length ys)) refl
  where
    go : (b : Bool) → leb (length xs) (length ys) ≡ b → length ys ≤ length (cond b ys xs)
    go true is = omega arith
    go false is = let less = leb-false (length xs) (length ys) is in omega arith

pub longer_left : (xs ys : List Entry) → length xs ≤ length (longer xs ys)
longer_left xs ys = go (leb (length xs) (length ys)) refl
  where
    go : (b : Bool) → leb (length xs) (length ys) ≡ b → length xs ≤ length (cond b ys xs)
    go true is = leb-true (length xs) (length ys) is
    go false is = omega arith

pub longer_prefix : (xs ys zs : List Entry) → IsPrefix xs zs → IsPrefix ys zs → IsPrefix (longer xs ys) zs
longer_prefix xs ys zs first second = go (leb (length xs) (length ys))
  where
    go : (b : Bool) → IsPrefix (cond b ys xs) zs
    go true = second
    go false = first

pub shorter_prefix : (xs ys zs : List Entry) → IsPrefix xs zs → IsPrefix ys zs → IsPrefix (shorter xs ys) zs
shorter_prefix xs ys zs first second = go (leb (length xs) (length ys))
  where
    go : (b : Bool) → IsPrefix (cond b xs ys) zs
    go true = first
    go false = second

pub shorter_length : (xs ys : List Entry) → length (shorter xs ys) ≤ length (longer xs ys)
shorter_length xs ys = go (leb (length xs) (length ys)) refl
  where
    go : (b : Bool) → leb (length xs) (length ys) ≡ b → length (cond b xs ys) ≤ length (cond b ys xs)
    go true is = leb-true (length xs) (length ys) is
    go false is = let less = leb-false (length xs) (length ys) is in omega arith

-- Where the shorter one is a beginning of the longer one, both are.
pub both_begin : (xs ys : List Entry) → IsPrefix (shorter xs ys) (longer xs ys) → IsPrefix xs (longer xs ys) × IsPrefix ys (longer xs ys)
both_begin xs ys = go (leb (length xs) (length ys))
  where
    go : (b : Bool) → IsPrefix (cond b xs ys) (cond b ys xs) → IsPrefix xs (cond b ys xs) × IsPrefix ys (cond b ys xs)
    go true first = (first, prefix_self ys)
    go false second = (prefix_self xs, second)

-- ---- what a list contains

contains_first : (p q : ℕ) (xs : List ℕ) → p ≡ q → Contains (p ∷ xs) q
contains_first p q xs is = (0, omega arith, is)

contains_more : (p q : ℕ) (xs : List ℕ) → Contains xs q → Contains (p ∷ xs) q
contains_more p q xs has = (suc has.0, (let low = has.1 in omega arith), has.2)

-- ---- the rule, in any state

known_first : (p : ℕ) (settings : Settings) (n : ℕ) → IsKnown (first_view p settings n)
unfolding clock_at
known_first p settings n = record { prefix = omega arith; clock = omega arith }

module _ (lawful : List ℕ → Type 0) (may : List ℕ → List ℕ → Type 0) (terms : Terms) (settings : Settings) (words : List ℕ) (seats : List Knowledge) (shows : IsSafeTable lawful may terms settings words seats) (id : ℕ) where
  -- ---- a seat cut off another

  module _ (left right : Knowledge) where
    abbrev cut : List Knowledge
    cut = set seats id left ++ right ∷ []

    cut_fits : (K : ℕ → Knowledge → Type 0) → K id left → K (length seats) right → ((j : ℕ) (k : Knowledge) → j ≢ id → get_elem? seats j ≡ some k → K j k) → (j : ℕ) (k : Knowledge) → get_elem? cut j ≡ some k → K j k
    cut_fits K mine new others j k there = ⊎_elim
        (λ was. all_fit K seats id left mine others j k was)
        (λ (at : (right ≡ k) × (j ≡ length (set seats id left))). let here : j ≡ length seats = at.1 ∙ length-set seats id left in subst (λ (y : ℕ × Knowledge). K y.0 y.1) (λ i. (sym here i, at.0 i)) new)
        (at_snoc (set seats id left) right k j there)

  -- a mark
  pub marks : (k : Knowledge) → get_elem? seats id ≡ some k → IsSafeTable lawful may terms settings words (set seats id k ++ marked k ∷ [])
  marks k here = record {
    history = shows.history;
    who = shows.who;
    place = shows.place;
    given = shows.given;
    safe = shows.safe;
    table = shows.table;
    few = shows.few;
    fresh = shows.fresh;
    at_rest = shows.at_rest;
    alone = shows.alone;
    each = cut_fits k (marked k) (FitsWorld settings shows.history shows.who shows.place shows.given) (shows.each id k here)
        record { seen = (shows.each id k here).seen; joined = (shows.each id k here).joined; whose = as_mark settings shows.who shows.place shows.given (length seats) (marked k) refl }
        (λ j other apart there. shows.each j other there);
  }

  -- a caller's seat
  module _ (g : ℕ) (gathered : List (ℕ × ℕ)) (k : Knowledge) (is : k.whose ≡ Maker g gathered) (here : get_elem? seats id ≡ some k) (room : g < terms.callers) where
    fits : FitsWorld settings shows.history shows.who shows.place shows.given id k
    fits = shows.each id k here

    maker : IsMakerSeat settings shows.who shows.place shows.given id g gathered k.view k.seen
    maker = of_maker settings shows.who shows.place shows.given id g gathered k is fits.whose

    abbrev number : ℕ
    number = g + 1

    abbrev seat : ℕ
    seat = length seats

    abbrev new_view : View
    new_view = record (shows.who number) { seen = length k.seen }

    who_then : ℕ → View
    who_then = replaced shows.who number new_view

    place_then : ℕ → ℕ
    place_then = replaced shows.place number seat

    is_new : shows.who number ≡ first_view number settings 0
    is_new = shows.fresh number (omega (arith, maker.counts)) (omega (arith, room))

    new_seen : new_view ≡ first_view number settings (length k.seen)
    new_seen = ap (λ (view : View). record view { seen = length k.seen }) is_new

    some_seats : 0 < length seats
    some_seats = omega (arith, at_below seats id k here)

    left : Knowledge
    left = record { whose = Maker number gathered; view = k.view; seen = k.seen; joined = k.joined }

    right : Knowledge
    right = record { whose = Caller number; view = first_view number settings (length k.seen); seen = k.seen; joined = [] }

    low_number : number ≤ terms.callers
    low_number = omega (arith, room)

    nothing_seen : (shows.who number).seen ≡ 0
    nothing_seen = ap (λ (view : View). view.seen) is_new

    deal_safe : Safe lawful may terms (world_of terms words shows.history (replaced shows.who number new_view))
    unfolding world_of
    deal_safe = learn_safe lawful may terms (world_of terms words shows.history shows.who) number shows.safe low_number (length k.seen) (omega (arith, nothing_seen)) (prefix_length k.seen shows.history fits.seen)

    deal_alone : terms.callers ≡ 1 → IsAlone (world_of terms words shows.history (replaced shows.who number new_view)) 1
    unfolding world_of
    deal_alone one = learned_alone (world_of terms words shows.history shows.who) 1 number (length k.seen) (shows.alone one)

    place_else : (q : ℕ) → q ≢ number → place_then q ≡ shows.place q
    unfolding place_then
    place_else q other = replaced_else shows.place number seat q other

    place_here : place_then number ≡ seat
    unfolding place_then
    place_here = replaced_here shows.place number seat

    who_else : (q : ℕ) → q ≢ number → who_then q ≡ shows.who q
    unfolding who_then
    who_else q other = replaced_else shows.who number new_view q other

    who_here : who_then number ≡ first_view number settings (length k.seen)
    unfolding who_then
    who_here = replaced_here shows.who number new_view ∙ new_seen

    gathered_then : (one : ℕ × ℕ) → WasGathered shows.who shows.place shows.given k.seen one → WasGathered who_then place_then number k.seen one
    gathered_then one was =
        let other : one.0 ≢ number = (λ e. omega (arith, e, was.high, maker.counts)) in
        record {
          low = was.low;
          high = omega (arith, was.high, maker.counts);
          back = place_else one.0 other ∙ was.back;
          counted = ap (λ (view : View). view.seen) (who_else one.0 other) ∙ was.counted;
          within = was.within;
        }

    left_is : IsMakerSeat settings who_then place_then number id number gathered k.view k.seen
    unfolding place_then
    left_is = record {
      first = maker.first;
      rests = maker.rests;
      counts = refl;
      balance =
          let same : out_of shows.place g ≡ out_of shows.place shows.given = ap (out_of shows.place) maker.counts in
          omega (arith, maker.balance, maker.counts, out_more shows.place g seat some_seats, same);
      back = λ p low high none. elim (cases_eq p number) [
        | inl e ↦ let at : place_then p ≡ seat = ap place_then e ∙ place_here in absurd (omega (arith, at, none, some_seats))
        | inr other ↦ maker.back p low (let at = maker.counts in omega arith) (sym (place_else p other) ∙ none)
      ];
      each = All-weaker (WasGathered shows.who shows.place shows.given k.seen) (WasGathered who_then place_then number k.seen) gathered_then gathered maker.each;
    }

    others_then : (j : ℕ) (other : Knowledge) (whose : Whose) → j ≢ id → FitsWhose settings shows.who shows.place shows.given j other whose → FitsWhose settings who_then place_then number j other whose
    unfolding FitsWhose
    others_then j other (Maker h list) apart has = absurd (apart (has.first ∙ sym maker.first))
    others_then j other (Caller q) apart has =
        let old : q ≢ number = (λ e. omega (arith, e, has.high, maker.counts)) in
        record {
          low = has.low;
          high = omega (arith, has.high, maker.counts);
          other = has.other;
          placed = place_else q old ∙ has.placed;
          shows = who_else q old ∙ has.shows;
          counted = has.counted;
          clock = has.clock;
          known = has.known;
        }
    others_then j other Mark apart has = tt

    right_is : IsCallerSeat who_then place_then number seat number (first_view number settings (length k.seen)) k.seen
    right_is = record {
      low = omega arith;
      high = omega arith;
      other = some_seats;
      placed = place_here;
      shows = who_here;
      counted = refl;
      clock = omega arith;
      known = known_first number settings (length k.seen);
    }

    pub deals_in : IsSafeTable lawful may terms settings words (set seats id (record { whose = Maker number gathered; view = k.view; seen = k.seen; joined = k.joined })
        ++ (record { whose = Caller number; view = first_view number settings (length k.seen); seen = k.seen; joined = [] }) ∷ [])
    unfolding who_then left right
    deals_in = record {
      history = shows.history;
      who = who_then;
      place = place_then;
      given = number;
      safe = deal_safe;
      table = shows.table;
      few = low_number;
      fresh = λ p above low. who_else p (λ e. omega (arith, e, above)) ∙ shows.fresh p (omega (arith, above, maker.counts)) low;
      at_rest = λ p low high none. elim (cases_eq p number) [
        | inl e ↦ let at : place_then p ≡ seat = ap place_then e ∙ place_here in absurd (omega (arith, at, none, some_seats))
        | inr other ↦
            let before : p ≤ shows.given = omega (arith, high, other, maker.counts) in
            ap (λ (view : View). view.attempt.stage) (who_else p other) ∙ shows.at_rest p low before (sym (place_else p other) ∙ none)
      ];
      alone = deal_alone;
      each = cut_fits left right (FitsWorld settings shows.history who_then place_then number)
          record { seen = fits.seen; joined = fits.joined; whose = as_maker settings who_then place_then number id number gathered left refl left_is }
          record { seen = fits.seen; joined = (shows.history, refl); whose = as_caller settings who_then place_then number seat number right refl right_is }
          (λ j other apart there. let has = shows.each j other there in record { seen = has.seen; joined = has.joined; whose = others_then j other other.whose apart has.whose });
    }

  -- ---- a seat joined to another

  module _ (other : ℕ) (k both : Knowledge) (apart : ¬ (other ≡ id)) (there : get_elem? (set seats id both) other ≡ some k) where
    theirs : get_elem? seats other ≡ some k
    theirs = ⊎_elim (λ (c : (other ≡ id) × (both ≡ k)). absurd (apart c.0)) (λ (c : (other ≢ id) × (get_elem? seats other ≡ some k)). c.1) (at_set seats id other both k there)

    join_fits : (K : ℕ → Knowledge → Type 0) (spent : Knowledge) → K id both → K other spent → ((j : ℕ) (u : Knowledge) → j ≢ id → j ≢ other → get_elem? seats j ≡ some u → K j u)
        → (j : ℕ) (u : Knowledge) → get_elem? (set (set seats id both) other spent) j ≡ some u → K j u
    join_fits K spent mine gone others j u at = ⊎_elim
        (λ (c : (j ≡ other) × (spent ≡ u)). subst (λ (y : ℕ × Knowledge). K y.0 y.1) (λ i. (sym c.0 i, c.1 i)) gone)
        (λ (c : (j ≢ other) × (get_elem? (set seats id both) j ≡ some u)). all_fit (λ j u. j ≢ other → K j u) seats id both (λ _. mine) (λ j u own e they. others j u own they e) j u c.1 c.0)
        (at_set (set seats id both) other j spent u at)

    spent_fits : (settings : Settings) (who : ℕ → View) (place : ℕ → ℕ) (given : ℕ) → FitsWorld settings shows.history who place given other spent
    spent_fits settings who place given = record { seen = (shows.history, refl); joined = (shows.history, refl); whose = as_mark settings who place given other spent refl }

  -- a mark is heeded
  pub heeds_in : (other : ℕ) (k mark : Knowledge) → get_elem? seats id ≡ some k → (apart : ¬ (other ≡ id)) (there : get_elem? (set seats id (after_heed k mark)) other ≡ some mark)
      → IsSafeTable lawful may terms settings words (set (set seats id (after_heed k mark)) other spent)
  heeds_in other k mark here apart there = record {
    history = shows.history;
    who = shows.who;
    place = shows.place;
    given = shows.given;
    safe = shows.safe;
    table = shows.table;
    few = shows.few;
    fresh = shows.fresh;
    at_rest = shows.at_rest;
    alone = shows.alone;
    each = join_fits other mark (after_heed k mark) apart there (FitsWorld settings shows.history shows.who shows.place shows.given) spent
        record {
          seen = (shows.each id k here).seen;
          joined = (shows.each other mark (theirs other mark (after_heed k mark) apart there)).seen;
          whose = whose_joined settings shows.who shows.place shows.given id k mark.seen k.whose (shows.each id k here).whose;
        }
        (spent_fits other mark (after_heed k mark) apart there settings shows.who shows.place shows.given)
        (λ j u mine they at. shows.each j u at);
  }

  -- a caller learns what was joined to its seat
  module _ (p : ℕ) (k : Knowledge) (is : k.whose ≡ Caller p) (here : get_elem? seats id ≡ some k) where
    has : FitsWorld settings shows.history shows.who shows.place shows.given id k
    has = shows.each id k here

    own : IsCallerSeat shows.who shows.place shows.given id p k.view k.seen
    own = of_caller settings shows.who shows.place shows.given id p k is has.whose

    abbrev view_then : View
    view_then = record (shows.who p) { seen = length (longer k.seen k.joined) }

    whose_then : ℕ → View
    whose_then = replaced shows.who p view_then

    pub learned_first : IsPrefix (longer k.seen k.joined) shows.history
    learned_first = longer_prefix k.seen k.joined shows.history has.seen has.joined

    more : k.view.seen ≤ length (longer k.seen k.joined)
    more = omega (arith, own.counted, longer_left k.seen k.joined)

    more_seen : (shows.who p).seen ≤ length (longer k.seen k.joined)
    more_seen = let same : (shows.who p).seen ≡ k.view.seen = ap (λ (view : View). view.seen) own.shows in omega (arith, same, more)

    low : p ≤ terms.callers
    low = omega (arith, own.high, shows.few)

    learned_safe : Safe lawful may terms (world_of terms words shows.history (replaced shows.who p view_then))
    unfolding world_of
    learned_safe = learn_safe lawful may terms (world_of terms words shows.history shows.who) p shows.safe low (length (longer k.seen k.joined)) more_seen (prefix_length (longer k.seen k.joined) shows.history learned_first)

    still_alone : terms.callers ≡ 1 → IsAlone (world_of terms words shows.history (replaced shows.who p view_then)) 1
    unfolding world_of
    still_alone one = learned_alone (world_of terms words shows.history shows.who) 1 p (length (longer k.seen k.joined)) (shows.alone one)

    learned_else : (q : ℕ) → q ≢ p → whose_then q ≡ shows.who q
    unfolding whose_then
    learned_else q other = replaced_else shows.who p view_then q other

    learned_here : whose_then p ≡ record k.view { seen = length (longer k.seen k.joined) }
    unfolding whose_then
    learned_here = replaced_here shows.who p view_then ∙ ap (λ (view : View). record view { seen = length (longer k.seen k.joined) }) own.shows

    out : 0 < shows.place p
    out = omega (arith, own.placed, own.other)

    learned_is : IsCallerSeat whose_then shows.place shows.given id p (record k.view { seen = length (longer k.seen k.joined) }) (longer k.seen k.joined)
    learned_is = record {
      low = own.low;
      high = own.high;
      other = own.other;
      placed = own.placed;
      shows = learned_here;
      counted = refl;
      clock = omega (arith, own.clock, more);
      known = sees_more k.view (length (longer k.seen k.joined)) more own.known;
    }

    pub learns_in : IsSafeTable lawful may terms settings words (set seats id (learned k))
    unfolding whose_then
    learns_in = record {
      history = shows.history;
      who = whose_then;
      place = shows.place;
      given = shows.given;
      safe = learned_safe;
      table = shows.table;
      few = shows.few;
      fresh = λ q above below. learned_else q (λ e. omega (arith, e, above, own.high)) ∙ shows.fresh q above below;
      at_rest = λ q above high none.
          let another : q ≢ p = (λ e. let at : shows.place q ≡ shows.place p = ap shows.place e in omega (arith, at, none, out)) in
          ap (λ (view : View). view.attempt.stage) (learned_else q another) ∙ shows.at_rest q above high none;
      alone = still_alone;
      each = all_fit (FitsWorld settings shows.history whose_then shows.place shows.given) seats id (learned k)
          record { seen = learned_first; joined = has.joined; whose = as_caller settings whose_then shows.place shows.given id p (learned k) is learned_is }
          (λ j u mine at. let fit = shows.each j u at in record {
            seen = fit.seen;
            joined = fit.joined;
            whose = whose_stays settings shows.who whose_then shows.place shows.given j p u u.whose learned_else out (λ e. mine (e ∙ own.placed)) fit.whose;
          });
    }

  -- a caller's seat is gathered
  module _ (other g : ℕ) (gathered : List (ℕ × ℕ)) (p : ℕ) (k seat : Knowledge) (is : k.whose ≡ Maker g gathered) (caller : seat.whose ≡ Caller p) (rests : seat.view.attempt.stage ≡ Ended)
      (here : get_elem? seats id ≡ some k) (apart : ¬ (other ≡ id)) (there : get_elem? (set seats id (after_gather k seat)) other ≡ some seat) where
    makes : FitsWorld settings shows.history shows.who shows.place shows.given id k
    makes = shows.each id k here

    gives : FitsWorld settings shows.history shows.who shows.place shows.given other seat
    gives = shows.each other seat (theirs other seat (after_gather k seat) apart there)

    takes : IsMakerSeat settings shows.who shows.place shows.given id g gathered k.view k.seen
    takes = of_maker settings shows.who shows.place shows.given id g gathered k is makes.whose

    gone : IsCallerSeat shows.who shows.place shows.given other p seat.view seat.seen
    gone = of_caller settings shows.who shows.place shows.given other p seat caller gives.whose

    back_then : ℕ → ℕ
    back_then = replaced shows.place p 0

    back_else : (q : ℕ) → q ≢ p → back_then q ≡ shows.place q
    unfolding back_then
    back_else q other = replaced_else shows.place p 0 q other

    back_here : back_then p ≡ 0
    unfolding back_then
    back_here = replaced_here shows.place p 0

    was_out : 0 < shows.place p
    was_out = omega (arith, gone.placed, gone.other)

    one_more : WasGathered shows.who back_then shows.given (longer k.seen seat.seen) (p, length seat.seen)
    one_more = record {
      low = gone.low;
      high = gone.high;
      back = back_here;
      counted = ap (λ (view : View). view.seen) gone.shows ∙ sym gone.counted;
      within = longer_right k.seen seat.seen;
    }

    as_before : (one : ℕ × ℕ) → WasGathered shows.who shows.place shows.given k.seen one → WasGathered shows.who back_then shows.given (longer k.seen seat.seen) one
    as_before one was =
        let another : one.0 ≢ p = (λ e. let at : shows.place one.0 ≡ shows.place p = ap shows.place e in omega (arith, at, was.back, was_out)) in
        record {
          low = was.low;
          high = was.high;
          back = back_else one.0 another ∙ was.back;
          counted = was.counted;
          within = omega (arith, was.within, longer_left k.seen seat.seen);
        }

    back_again : (q : ℕ) → 0 < q → q ≤ shows.given → back_then q ≡ 0 → Contains (keys_of ((p, length seat.seen) ∷ gathered)) q
    back_again q above high none = elim (cases_eq q p) [
      | inl e ↦ contains_first p q (keys_of gathered) (sym e)
      | inr another ↦ contains_more p q (keys_of gathered) (takes.back q above high (sym (back_else q another) ∙ none))
    ]

    gather_is : IsMakerSeat settings shows.who back_then shows.given id g ((p, length seat.seen) ∷ gathered) k.view (longer k.seen seat.seen)
    unfolding back_then
    gather_is = record {
      first = takes.first;
      rests = takes.rests;
      counts = takes.counts;
      balance = let fewer : out_of shows.place shows.given ≡ out_of (replaced shows.place p 0) shows.given + 1 = out_fewer shows.place p shows.given gone.low gone.high was_out in omega (arith, takes.balance, fewer);
      back = back_again;
      each = All-cons (WasGathered shows.who back_then shows.given (longer k.seen seat.seen)) (p, length seat.seen) gathered one_more
          (All-weaker (WasGathered shows.who shows.place shows.given k.seen) (WasGathered shows.who back_then shows.given (longer k.seen seat.seen)) as_before gathered takes.each);
    }

    whose_gathers : (after_gather k seat).whose ≡ Maker g ((p, length seat.seen) ∷ gathered)
    whose_gathers = λ i. Maker (given_of (is i)) ((number_of (caller i), length seat.seen) ∷ gathered_of (is i))

    still : (j : ℕ) (u : Knowledge) (whose : Whose) → j ≢ id → j ≢ other → FitsWhose settings shows.who shows.place shows.given j u whose → FitsWhose settings shows.who back_then shows.given j u whose
    unfolding FitsWhose
    still j u (Maker h list) mine they fit = absurd (mine (fit.first ∙ sym takes.first))
    still j u (Caller q) mine they fit =
        let another : q ≢ p = (λ e. they (sym fit.placed ∙ (ap shows.place e ∙ gone.placed))) in
        record {
          low = fit.low;
          high = fit.high;
          other = fit.other;
          placed = back_else q another ∙ fit.placed;
          shows = fit.shows;
          counted = fit.counted;
          clock = fit.clock;
          known = fit.known;
        }
    still j u Mark mine they fit = tt

    pub gathers_in : IsSafeTable lawful may terms settings words (set (set seats id (after_gather k seat)) other spent)
    gathers_in = record {
      history = shows.history;
      who = shows.who;
      place = back_then;
      given = shows.given;
      safe = shows.safe;
      table = shows.table;
      few = shows.few;
      fresh = shows.fresh;
      at_rest = λ q above high none. elim (cases_eq q p) [
        | inl e ↦ ap (λ (q : ℕ). (shows.who q).attempt.stage) e ∙ (ap (λ (view : View). view.attempt.stage) gone.shows ∙ rests)
        | inr another ↦ shows.at_rest q above high (sym (back_else q another) ∙ none)
      ];
      alone = shows.alone;
      each = join_fits other seat (after_gather k seat) apart there (FitsWorld settings shows.history shows.who back_then shows.given) spent
          record {
            seen = longer_prefix k.seen seat.seen shows.history makes.seen gives.seen;
            joined = shorter_prefix k.seen seat.seen shows.history makes.seen gives.seen;
            whose = as_maker settings shows.who back_then shows.given id g ((p, length seat.seen) ∷ gathered) (after_gather k seat) whose_gathers gather_is;
          }
          (spent_fits other seat (after_gather k seat) apart there settings shows.who back_then shows.given)
          (λ j u mine they at. let fit = shows.each j u at in record { seen = fit.seen; joined = fit.joined; whose = still j u u.whose mine they fit.whose });
    }

-- ---- as the table asks for them

module _ (lawful : List ℕ → Type 0) (may : List ℕ → List ℕ → Type 0) (terms : Terms) (settings : Settings) (id : ℕ) where
  -- A mark is cut off a seat.
  pub copies : (k : Knowledge) → Splits (Keeps lawful may terms settings) id k k (marked k)
  copies k s shows here = marks lawful may terms settings s.words s.views shows id k here

  -- A caller's seat is cut off the maker's.
  pub deals : (g : ℕ) (gathered : List (ℕ × ℕ)) (k : Knowledge) → k.whose ≡ Maker g gathered → g < terms.callers → Splits (Keeps lawful may terms settings) id k (after_deal k) (dealt k)
  deals g gathered k is room s shows here =
      let rests : k.view ≡ first_view 0 settings 0 = (maker lawful may terms settings s.words s.views shows id g gathered k is here room).rests in
      let left_is : (record { whose = Maker (g + 1) gathered; view = k.view; seen = k.seen; joined = k.joined }) ≡ after_deal k = sym (λ i. record { whose = Maker (given_of (is i) + 1) (gathered_of (is i)); view = k.view; seen = k.seen; joined = k.joined }) in
      let right_is : (record { whose = Caller (g + 1); view = first_view (g + 1) settings (length k.seen); seen = k.seen; joined = [] }) ≡ dealt k =
      sym (λ i. record { whose = Caller (given_of (is i) + 1); view = first_view (given_of (is i) + 1) ((rests i).attempt.settings) (length k.seen); seen = k.seen; joined = [] }) in
      subst (λ (y : Knowledge × Knowledge). IsSafeTable lawful may terms settings s.words (set s.views id y.0 ++ y.1 ∷ [])) (λ i. (left_is i, right_is i))
      (deals_in lawful may terms settings s.words s.views shows id g gathered k is here room)

  -- A mark is joined to a seat.
  pub heeds : (other : ℕ) (k mark : Knowledge) → Joins (Keeps lawful may terms settings) id k other mark (after_heed k mark) spent
  heeds other k mark s shows here apart there = heeds_in lawful may terms settings s.words s.views shows id other k mark here apart there

  -- The maker gathers a caller's seat that has no attempt in flight.
  pub gathers : (other g : ℕ) (gathered : List (ℕ × ℕ)) (p : ℕ) (k seat : Knowledge) → k.whose ≡ Maker g gathered → seat.whose ≡ Caller p → seat.view.attempt.stage ≡ Ended
      → Joins (Keeps lawful may terms settings) id k other seat (after_gather k seat) spent
  gathers other g gathered p k seat is caller rests s shows here apart there = gathers_in lawful may terms settings s.words s.views shows id other g gathered p k seat is caller rests here apart there
