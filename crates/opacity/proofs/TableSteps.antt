-- A step in a world that a table shows is an access to the table.
use Rattle.std.proofs.Common.{◌≡◌, ℕ, ◌<◌, ◌^◌, true, false, Bool, if◌then◌else◌, nat_eq, List, length, get_or, Some, ap, sym, ◌∙◌, arith, inl, inr}
use Rattle.std.specs.Int.{bit_not, w64}
use Rattle.std.specs.Int.Bits.{or_lt}
use Rattle.std.proofs.lemmas.Bool.{cases_lt}
use Rattle.std.proofs.lemmas.List.{get_or_past, length-set}
use Rattle.std.proofs.lemmas.List.Elements.{All-set}
use Rattle.std.proofs.lemmas.Nat.{and_le_l}
use Rattle.stm_model.specs.Accesses.{Act, access_of, next, word_of}
use Rattle.stm_model.specs.History.{Entry}
use Rattle.stm_model.specs.Safe.{Safe}
use Rattle.stm_model.specs.World.{IsCaller, Terms, View, World, place_of, replaced, step, step_by, view_after, with_view, words_after, world_of}
use Rattle.stm_model.specs.declared.access.Access.{Access}
use Rattle.stm_model.specs.declared.access.Access.TheVariants.{ClearBits, Exchange, Load, SetBits, Store, Swap}
use Rattle.opacity.specs.Words.{BringsWords, IsTable, effect, table_after, word_found}
use Rattle.opacity.proofs.Effects.{words_view}
use Rattle.opacity.proofs.NextAccess.{fits_next}
use Rattle.opacity.proofs.WordSteps.{shows_after}

found_below : (terms : Terms) (words : List ℕ) (place : ℕ) → IsTable terms words → get_or words place 0 < 2 ^ 64
found_below terms words place table = elim (cases_lt place (length words)) [
  | inl within ↦ table.each place 0 within
  | inr past ↦ rw (get_or_past words place 0 past) (omega arith)
]

chosen_below : (b : Bool) (new found : ℕ) → new < 2 ^ 64 → found < 2 ^ 64 → (if b then new else found) < 2 ^ 64
chosen_below true new found low below = low
chosen_below false new found low below = below

effect_below : (access : Access) (found : ℕ) → BringsWords access → found < 2 ^ 64 → effect access found < 2 ^ 64
unfolding effect BringsWords
effect_below (Load word) found brings below = below
effect_below (Store word new) found brings below = brings
effect_below (Swap word new) found brings below = brings
effect_below (Exchange word old new) found brings below = chosen_below (nat_eq found old) new found brings.1 below
effect_below (SetBits word mask) found brings below = or_lt 64 found mask below brings
effect_below (ClearBits word mask) found brings below = omega (arith, below, and_le_l found (bit_not w64 mask))

pub table_stays : (terms : Terms) (words : List ℕ) (access : Access) → IsTable terms words → BringsWords access → IsTable terms (table_after terms words access)
table_stays terms words access table brings =
    let place = place_of terms.callers (word_of access) in
    let below = effect_below access (word_found terms words access) brings (found_below terms words place table) in
    record {
      size = length-set words place _ ∙ table.size;
      each = All-set (λ (number : ℕ). number < 2 ^ 64) words place _ below table.each;
    }

pub step_shown : (lawful : List ℕ → Type 0) (may : List ℕ → List ℕ → Type 0) (terms : Terms) (words : List ℕ) (history : List Entry) (view : ℕ → View) (p : ℕ) (act : Act)
    → (let w = world_of terms words history view in Safe lawful may terms w → IsTable terms words → IsCaller terms p → next (view p).attempt ≡ Some act → BringsWords (access_of act)
    → step w p ≡ world_of terms (table_after terms words (access_of act)) (step w p).history (step w p).view)
unfolding step_by world_of
step_shown lawful may terms words history view p act safe table caller is brings =
    let w = world_of terms words history view in
    let after = words_after w (view p).attempt act in
    let own = view_after w (view p) act in
    let table_then = table_after terms words (access_of act) in
    let good = fits_next lawful may terms w p safe caller act is in
    let shows = shows_after terms words history view table (view p).attempt act good.word (good.fields brings) in
    rw is (ap (λ (u : World). with_view u p own) shows
    ∙ ap (λ (views : ℕ → View). world_of terms table_then after.history (replaced views p own)) (sym (words_view w (view p).attempt act)))
