-- Where the maker has gathered all that it gave, it has seen the whole history, and the words are what that leaves.
use Rattle.std.proofs.Common.{◌≡◌, ℕ, zero, suc, ◌+◌, ◌*◌, ◌<◌, ◌≤◌, List, [], ◌∷◌, ◌++◌, length, get_or, take, sym, ap, subst, ◌∙◌, inl, inr, arith}
use Rattle.std.specs.Map.{keys_of}
use Rattle.std.proofs.lemmas.Bool.{cases_lt}
use Rattle.std.proofs.lemmas.List.{take_all, take_more}
use Rattle.std.proofs.lemmas.List.Elements.{All-contains, All-map, All-weaker}
use mathlib.Core.Option.{some, some-injective, some-ne-none}
use lib.ListN.{get_elem?}
use Rattle.atomic_table.specs.Table.{Final, Seen}
use Rattle.stm_model.specs.History.{Entry, state}
use Rattle.stm_model.specs.Safe.{caller_at}
use Rattle.stm_model.specs.World.{IsCaller, Terms, View, World, cells_in, place_of, words_in, world_of}
use Rattle.stm_model.specs.declared.settings.Settings.{Settings}
use Rattle.stm_model.proofs.HistoryLemmas.{length-state}
use Rattle.opacity.specs.Alone.{NoneInFlight}
use Rattle.opacity.proofs.AtRest.{rests_words}
use Rattle.ref_table.specs.Knowledge.{Knowledge, Maker}
use Rattle.ref_table.specs.Rule.{IsMakerSeat, Keeps, IsSafeTable, WasGathered}
use Rattle.ref_table.proofs.Counts.{out_none}
use Rattle.ref_table.proofs.Fitting.{of_maker}
use Rattle.ref_table.proofs.Beginnings.{prefix_whole}

-- The words of a table at its end, by the history that was seen.
pub record EndsAs (terms : Terms) (seen : List Entry) (words : List ℕ) : Type 0 where
  pub size : length words ≡ words_in terms
  pub clock : get_or words 0 0 ≡ length seen
  pub values : (cell : ℕ) → cell < cells_in terms → get_or words (terms.callers + 2 + 2 * cell) 0 ≡ get_or (state terms.opening seen (length seen)) cell 0

module _ (lawful : List ℕ → Type 0) (may : List ℕ → List ℕ → Type 0) (terms : Terms) (settings : Settings) (words : List ℕ) (seats : List Knowledge) (shows : IsSafeTable lawful may terms settings words seats)
    (id g : ℕ) (gathered : List (ℕ × ℕ)) (k : Knowledge) (is : k.whose ≡ Maker g gathered) (all : length gathered ≡ g) (here : get_elem? seats id ≡ some k) where
  abbrev w : World
  w = world_of terms words shows.history shows.who

  maker : IsMakerSeat settings shows.who shows.place shows.given id g gathered k.view k.seen
  maker = of_maker settings shows.who shows.place shows.given id g gathered k is (shows.each id k here).whose

  none_out : (p : ℕ) → 0 < p → p ≤ shows.given → shows.place p ≡ 0
  none_out p low high = out_none shows.place shows.given (omega (arith, maker.balance, maker.counts, all)) p low high

  seen_of_key : (one : ℕ × ℕ) → WasGathered shows.who shows.place shows.given k.seen one → (shows.who one.0).seen ≤ length k.seen
  seen_of_key one was = omega (arith, was.counted, was.within)

  -- The maker has seen all that any caller has.
  all_seen : (p : ℕ) → IsCaller terms p → (shows.who p).seen ≤ length k.seen
  all_seen p caller = elim (cases_lt shows.given p) [
    | inl more ↦
        let none : (shows.who p).seen ≡ 0 = ap (λ (view : View). view.seen) (shows.fresh p more caller.1) in
        omega (arith, none)
    | inr within ↦ All-contains (λ (q : ℕ). (shows.who q).seen ≤ length k.seen) (keys_of gathered) p
        (All-map (λ (q : ℕ). (shows.who q).seen ≤ length k.seen) (λ (one : ℕ × ℕ). one.0) gathered
        (All-weaker (WasGathered shows.who shows.place shows.given k.seen) (λ (one : ℕ × ℕ). (shows.who one.0).seen ≤ length k.seen) seen_of_key gathered maker.each))
        (maker.back p caller.0 within (none_out p caller.0 within))
  ]

  long : length shows.history ≤ length k.seen
  unfolding world_of
  long = elim (cases_lt (length k.seen) (length shows.history)) [
    | inl more ↦
        let q : ℕ = caller_at w (length k.seen) in
        let caller : IsCaller terms q = shows.safe.callers.callers (length k.seen) more in
        let has : length k.seen < (shows.who q).seen = shows.safe.callers.seen (length k.seen) more in
        absurd (omega (arith, has, all_seen q caller))
    | inr within ↦ within
  ]

  -- The maker has seen the whole history.
  pub history_is : k.seen ≡ shows.history
  history_is = prefix_whole k.seen shows.history (shows.each id k here).seen long

  rests : NoneInFlight terms (world_of terms words shows.history shows.who)
  unfolding world_of
  rests p caller = elim (cases_lt shows.given p) [
    | inl more ↦ ap (λ (view : View). view.attempt.stage) (shows.fresh p more caller.1)
    | inr within ↦ shows.at_rest p caller.0 within (none_out p caller.0 within)
  ]

  clock_is : get_or words 0 0 ≡ length shows.history
  unfolding world_of
  clock_is = shows.safe.clock

  value_is : (cell : ℕ) → cell < cells_in terms → get_or words (terms.callers + 2 + 2 * cell) 0 ≡ get_or (state terms.opening shows.history (length shows.history)) cell 0
  unfolding place_of
  value_is cell within = rests_words lawful may terms words shows.history shows.who cell shows.safe rests within

  pub ends_as : EndsAs terms k.seen words
  ends_as = subst (λ (seen : List Entry). EndsAs terms seen words) (sym history_is) record { size = shows.table.size; clock = clock_is; values = value_is }

-- The words that a table is closed with.
pub closes : (lawful : List ℕ → Type 0) (may : List ℕ → List ℕ → Type 0) (terms : Terms) (settings : Settings) (id g : ℕ) (gathered : List (ℕ × ℕ)) (k : Knowledge) (words : List ℕ) (slots : List Unit)
    → k.whose ≡ Maker g gathered → length gathered ≡ g → Final (Seen (Keeps lawful may terms settings) id k) words slots → EndsAs terms k.seen words
closes lawful may terms settings id g gathered k words slots is all ends =
    let s = ends.0 in
    subst (λ (words : List ℕ). EndsAs terms k.seen words) ends.2 (ends_as lawful may terms settings s.words s.views ends.1.0 id g gathered k is all ends.1.1)

-- ---- by what is read of them

-- a word that was read
pub word_read : (words : List ℕ) (i n : ℕ) → get_elem? words i ≡ some n → n ≡ get_or words i 0
word_read [] i n is = absurd (some-ne-none n (sym is))
word_read (x ∷ words) zero n is = sym (some-injective x n is)
word_read (x ∷ words) (suc i) n is = word_read words i n is

pub clock_read : (terms : Terms) (seen : List Entry) (words : List ℕ) (n : ℕ) → EndsAs terms seen words → get_elem? words 0 ≡ some n → n ≡ length seen
clock_read terms seen words n ends is = word_read words 0 n is ∙ ends.clock

pub value_read : (terms : Terms) (seen : List Entry) (words : List ℕ) (place cell n : ℕ) → EndsAs terms seen words → cell < cells_in terms → place ≡ terms.callers + 2 + 2 * cell → get_elem? words place ≡ some n
    → n ≡ get_or (state terms.opening seen (length seen)) cell 0
value_read terms seen words place cell n ends within at is = word_read words place n is ∙ (ap (λ (i : ℕ). get_or words i 0) at ∙ ends.values cell within)

-- so many values of the heap, and one more
pub values_more : (heap values : List ℕ) (cell n : ℕ) → cell < length heap → values ≡ take cell heap → n ≡ get_or heap cell 0 → values ++ n ∷ [] ≡ take (cell + 1) heap
values_more heap values cell n within so is =
    let both : values ++ n ∷ [] ≡ take cell heap ++ get_or heap cell 0 ∷ [] = λ i. so i ++ is i ∷ [] in
    both ∙ sym (take_more heap cell 0 within)

pub values_whole : (terms : Terms) (seen : List Entry) (values : List ℕ) → values ≡ take (cells_in terms) (state terms.opening seen (length seen)) → values ≡ state terms.opening seen (length seen)
values_whole terms seen values so =
    let long : length (state terms.opening seen (length seen)) ≡ cells_in terms = length-state terms.opening seen (length seen) in
    so ∙ take_all (cells_in terms) (state terms.opening seen (length seen)) (omega (arith, long))
