-- The rule holds of a table that opens.
use Rattle.std.proofs.Common.{◌≡◌, ℕ, zero, suc, List, [], ◌∷◌, length, refl, sym, subst, arith}
use mathlib.Core.Option.{some, some-injective, some-ne-none}
use lib.ListN.{get_elem?}
use Rattle.atomic_table.specs.Table.{opening}
use Rattle.stm_model.specs.Safe.{Safe, TermsFit}
use Rattle.stm_model.specs.World.{Terms, View, world_of}
use Rattle.stm_model.specs.declared.settings.Settings.{Settings}
use Rattle.opacity.specs.Alone.{IsAlone}
use Rattle.opacity.specs.Plain.{OpensTo, terms_of}
use Rattle.opacity.proofs.LoneRuns.{opened_alone}
use Rattle.opacity.proofs.Openings.{opened_safe}
use Rattle.opacity.proofs.PlainOpening.{shows_opened}
use Rattle.stm_model.specs.World.{World, opened}
use Rattle.ref_table.specs.Knowledge.{Knowledge, first_view, opening_knowledge}
use Rattle.ref_table.specs.Rule.{FitsWorld, IsMakerSeat, Keeps}
use Rattle.std.proofs.lemmas.List.Elements.{All-nil}
use Rattle.ref_table.specs.Rule.{WasGathered}
use Rattle.ref_table.proofs.Fitting.{as_maker}

module _ (lawful : List ℕ → Type 0) (may : List ℕ → List ℕ → Type 0) (heap : List ℕ) (settings : Settings) where
  abbrev terms : Terms
  terms = terms_of heap settings.callers settings.clock

  abbrev who : ℕ → View
  who p = first_view p settings 0

  abbrev nowhere : ℕ → ℕ
  nowhere p = 0

  maker_is : IsMakerSeat settings who nowhere 0 0 0 [] (first_view 0 settings 0) []
  maker_is = record {
    first = refl;
    rests = refl;
    counts = refl;
    balance = refl;
    back = λ p low high none. absurd (omega (arith, low, high));
    each = All-nil (WasGathered who nowhere 0 []);
  }

  maker_fits : (i : ℕ) (k : Knowledge) → get_elem? (opening_knowledge settings ∷ []) i ≡ some k → FitsWorld settings [] who nowhere 0 i k
  maker_fits zero k is = subst (FitsWorld settings [] who nowhere 0 0) (some-injective (opening_knowledge settings) k is)
      record { seen = ([], refl); joined = ([], refl); whose = as_maker settings who nowhere 0 0 0 [] (opening_knowledge settings) refl maker_is }
  maker_fits (suc i) k is = absurd (some-ne-none k (sym is))

  pub starts : (words : List ℕ) → OpensTo heap settings.callers (length heap) words → TermsFit terms → lawful heap → Keeps lawful may terms settings (opening words [] (opening_knowledge settings))
  starts words opens fits law =
      let shown : opened terms settings ≡ world_of terms words [] who = sym (shows_opened heap settings.callers settings.clock words opens settings) in
      record {
        history = [];
        who = who;
        place = nowhere;
        given = 0;
        safe = subst (Safe lawful may terms) shown (opened_safe terms settings lawful may fits refl law);
        table = record { size = opens.size; each = opens.each };
        few = omega arith;
        fresh = λ p above low. refl;
        at_rest = λ p low high none. refl;
        alone = λ one. subst (λ (w : World). IsAlone w 1) shown (opened_alone terms settings 1);
        each = maker_fits;
      }

pub starts_so : {S : Type 0} (lawful : S → List ℕ → Type 0) (may : S → List ℕ → List ℕ → Type 0) (law other_law : S) (heap other_heap : List ℕ) (settings : Settings) (words other_words : List ℕ)
    → other_law ≡ law → other_heap ≡ heap → other_words ≡ words → OpensTo heap settings.callers (length heap) words → TermsFit (terms_of heap settings.callers settings.clock) → lawful law heap
    → Keeps (lawful other_law) (may other_law) (terms_of other_heap settings.callers settings.clock) settings (opening other_words [] (opening_knowledge settings))
starts_so {S} lawful may law other_law heap other_heap settings words other_words same_law same_heap same_words opens fits holds =
    subst (λ (y : S × List ℕ × List ℕ). Keeps (lawful y.0) (may y.0) (terms_of y.1 settings.callers settings.clock) settings (opening y.2 [] (opening_knowledge settings))) (λ i. (sym same_law i, sym same_heap i, sym same_words i))
    (starts (lawful law) (may law) heap settings words opens fits holds)
