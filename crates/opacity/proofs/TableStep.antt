-- An access of an attempt as a step of a table, all at once.
use Rattle.std.proofs.Common.{◌≡◌, ◌⊎◌, ℕ, ◌≤◌, List, [], ◌∷◌, ◌++◌, get_or, Some, sym, ap, ◌∙◌, arith}
use Rattle.stm_model.specs.Accesses.{Act, ExchangeClock, access_of, next}
use Rattle.stm_model.specs.After.{after, after_found, after_word}
use Rattle.stm_model.specs.History.{Entry}
use Rattle.stm_model.specs.Safe.{Safe}
use Rattle.stm_model.specs.World.{IsCaller, MayHappen, MeetsOwed, Steps, Terms, View, World, attempt_of, entry_of, happened, step, step_by, view_after, words_after, world_of}
use Rattle.opacity.specs.Plain.{IsTableStep}
use Rattle.opacity.specs.Words.{BringsWords, IsTable, word_found}
use Rattle.opacity.proofs.Effects.{others_views}
use Rattle.opacity.proofs.Knowing.{seen_more}
use Rattle.opacity.proofs.NextAccess.{fits_next}
use Rattle.opacity.proofs.Places.{replaced_here}
use Rattle.opacity.proofs.Steps.{event_safe}
use Rattle.opacity.proofs.TableSteps.{step_shown, table_stays}
use Rattle.opacity.proofs.WordSteps.{found_word, history_after}

-- the caller's view after the step
own_view : (w : World) (p : ℕ) (act : Act) → next (attempt_of w p) ≡ Some act → (step w p).view p ≡ view_after w (w.view p) act
unfolding step_by
own_view w p act is = rw is (replaced_here (words_after w (attempt_of w p) act).view p (view_after w (w.view p) act))

seen_low : (lawful : List ℕ → Type 0) (may : List ℕ → List ℕ → Type 0) (terms : Terms) (words : List ℕ) (history : List Entry) (view : ℕ → View) (p : ℕ)
    → (let w = world_of terms words history view in Safe lawful may terms w → IsCaller terms p → (view p).seen ≤ w.clock)
unfolding world_of
seen_low lawful may terms words history view p safe caller = omega (arith, (safe.views p caller.1).seen, safe.clock)

module _ (lawful : List ℕ → Type 0) (may : List ℕ → List ℕ → Type 0) (terms : Terms) (words : List ℕ) (history : List Entry) (view : ℕ → View) (p : ℕ) (act : Act)
    (safe : Safe lawful may terms (world_of terms words history view)) (table : IsTable terms words) (caller : IsCaller terms p) (is : next (view p).attempt ≡ Some act)
    (brings : BringsWords (access_of act)) (meets : MeetsOwed lawful may terms (world_of terms words history view) (Steps p)) where
  abbrev w : World
  w = world_of terms words history view

  own : (step w p).view p ≡ view_after w (view p) act
  unfolding world_of
  own = own_view w p act is

  leads : attempt_of (step w p) p ≡ after_word (view p).attempt (word_found terms words (access_of act))
  unfolding world_of
  leads =
      let good = fits_next lawful may terms w p safe caller act is in
      ap (λ (v : View). v.attempt) own ∙ ap (after (view p).attempt) (found_word terms words history view act good.word)
      ∙ sym (ap (λ o. after_found (view p).attempt o (word_found terms words (access_of act))) is)

  keeps : ((step w p).history ≡ history) ⊎ ((act ≡ ExchangeClock (get_or words 0 0)) × ((step w p).history ≡ history ++ entry_of (view p).attempt ∷ []))
  unfolding step_by world_of
  keeps = rw is (history_after terms words history view (view p).attempt act)

  pub table_step : IsTableStep lawful may terms words history view p act (step w p)
  unfolding world_of happened MayHappen
  table_step =
      let good = fits_next lawful may terms w p safe caller act is in
      let seen : (view p).seen ≤ w.clock = seen_low lawful may terms words history view p safe caller in
      record {
        word = good.word;
        fits = good.fields brings;
        own = own;
        attempt = leads;
        others = λ q other. others_views w (Steps p) q other;
        seen = rw own (seen_more w (view p) act seen);
        table = table_stays terms words (access_of act) table brings;
        shows = record { shows = step_shown lawful may terms words history view p act safe table caller is brings; safe = event_safe lawful may terms w (Steps p) caller meets safe };
        entries = keeps;
      }
