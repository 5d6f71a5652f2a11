-- A load tells a seat whatever follows from the rule, and by it a caller learns what was joined to its seat.
use Rattle.std.proofs.Common.{◌≡◌, ℕ, List, get_or, set, refl, sym, subst}
use Rattle.std.proofs.lemmas.List.{set-get_or}
use mathlib.Core.Option.{some}
use mathlib.Core.List.{IsPrefix}
use lib.ListN.{get_elem?}
use Rattle.atomic_table.proofs.Lists.{set_again, set_here}
use Rattle.atomic_table.specs.Seated.{TableId}
use Rattle.atomic_table.specs.Table.{Allows, Me, keeps}
use Rattle.stm_model.specs.World.{Terms}
use Rattle.stm_model.specs.declared.settings.Settings.{Settings}
use Rattle.ref_table.specs.Keyed.{Confirms, Learns}
use Rattle.ref_table.specs.Knowledge.{Caller, Knowledge}
use Rattle.ref_table.specs.Parts.{learned}
use Rattle.ref_table.specs.Rule.{Keeps, IsSafeTable}
use Rattle.ref_table.specs.Seats.{longer}
use Rattle.ref_table.proofs.Links.{learned_first, learns_in, longer_left, longer_right}
use Rattle.ref_table.proofs.Beginnings.{at_below, prefix_shorter}
use Rattle.ref_table.proofs.SafeSeats.{maker_rests, none_in, safe_seat, safe_maker}

module _ (lawful : List ℕ → Type 0) (may : List ℕ → List ℕ → Type 0) (terms : Terms) (settings : Settings) (slots id : ℕ) (me : Me Unit Knowledge) where
  -- `then` is told of the word found and of what the seat knows before and after.
  pub confirms : (then : ℕ → Knowledge → Knowledge → Type 0)
      → ((words : List ℕ) (seats : List Knowledge) → IsSafeTable lawful may terms settings words seats → get_elem? seats id ≡ some me.0 → then (get_or words 0 0) me.0 me.0)
      → Allows (Keeps lawful may terms settings) slots id me 0 (λ n. n) (λ n m. then n me.0 m.0 × (m.1 ≡ me.1))
  confirms then follows s shows _ here _ =
      let words : s.words ≡ set s.words 0 (get_or s.words 0 0) = sym (set-get_or s.words 0 0) in
      let seats : s.views ≡ set s.views id me.0 = sym (set_again s.views id me.0 here) in (
        me.0,
        keeps,
        tt,
        subst (λ (y : List ℕ × List Knowledge). IsSafeTable lawful may terms settings y.0 y.1) (λ i. (words i, seats i)) shows,
        (follows s.words s.views shows here, refl),
      )

  -- What any seat is told by it.
  pub confirms_all : (table : TableId) → Allows (Keeps lawful may terms settings) slots id me 0 (λ n. n)
      (λ n m. ((m.0 ≡ me.0) × Confirms lawful may terms settings table m.0) × (m.1 ≡ me.1))
  confirms_all table = confirms (λ n before after. (after ≡ before) × Confirms lawful may terms settings table after) (λ words seats shows here. (
    refl,
    record {
      caller = λ number lists is. safe_seat lawful may terms settings words seats shows id me.0 here table lists number is;
      maker = λ given gathered is. safe_maker lawful may terms settings words seats shows id me.0 here given gathered is table;
      rests = λ given gathered is. maker_rests lawful may terms settings words seats shows id me.0 here given gathered is;
      joined = λ low. let fits = shows.each id me.0 here in prefix_shorter me.0.joined me.0.seen shows.history fits.joined fits.seen low;
    },
  ))

  -- What was joined to a caller's seat is learned by it.
  pub learns : (table : TableId) (p : ℕ) → me.0.whose ≡ Caller p → Allows (Keeps lawful may terms settings) slots id me 0 (λ n. n) (λ n m. Learns lawful may terms table p me.0 m.0 × (m.1 ≡ me.1))
  learns table p is s shows _ here _ =
      let k : Knowledge = me.0 in
      let then : IsSafeTable lawful may terms settings s.words (set s.views id (learned k)) = learns_in lawful may terms settings s.words s.views shows id p k is here in
      let words : s.words ≡ set s.words 0 (get_or s.words 0 0) = sym (set-get_or s.words 0 0) in
      let first : IsPrefix (longer k.seen k.joined) shows.history = learned_first lawful may terms settings s.words s.views shows id p k is here in
      let fits = shows.each id k here in (
        learned k,
        keeps,
        tt,
        subst (λ (w : List ℕ). IsSafeTable lawful may terms settings w (set s.views id (learned k))) words then,
        (
          record {
            knows = refl;
            own = prefix_shorter k.seen (longer k.seen k.joined) shows.history fits.seen first (longer_left k.seen k.joined);
            others = prefix_shorter k.joined (longer k.seen k.joined) shows.history fits.joined first (longer_right k.seen k.joined);
            fresh = none_in lawful may terms settings s.words s.views shows id k here p is (longer k.seen k.joined) first;
            safe_seat = λ lists. safe_seat lawful may terms settings s.words (set s.views id (learned k)) then id (learned k) (set_here s.views id (learned k) (at_below s.views id k here)) table lists p is;
          },
          refl,
        ),
      )
