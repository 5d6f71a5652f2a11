-- What a caller can rely on whose seat was just made.
use Rattle.std.proofs.Common.{◌≡◌, ℕ, ◌+◌, ◌<◌, List, length, ap, subst, sym}
use Rattle.atomic_table.specs.Seated.{TableId}
use Rattle.stm_model.specs.World.{Terms, View}
use Rattle.stm_model.specs.declared.settings.Settings.{Settings}
use Rattle.ref_table.specs.Keyed.{Confirms, seat_of}
use Rattle.ref_table.specs.Knowledge.{Knowledge, Maker, first_view}
use Rattle.ref_table.specs.Parts.{dealt, given_of}
use Rattle.ref_table.specs.Seen.{SafeSeat}
use Rattle.ref_table.specs.declared.lists.Lists.{Lists}
use Rattle.ref_table.proofs.SafeSeats.{new_safe_seat}

module _ (lawful : List ℕ → Type 0) (may : List ℕ → List ℕ → Type 0) (terms : Terms) (settings : Settings) (table : TableId) (maker : Knowledge) (g : ℕ) (gathered : List (ℕ × ℕ))
    (is : maker.whose ≡ Maker g gathered) (confirmed : Confirms lawful may terms settings table maker) where
  pub deals_safe_seat : (lists : Lists) → g < terms.callers → settings.clock ≡ terms.limit → SafeSeat lawful may terms (seat_of table (g + 1) lists (dealt maker))
  deals_safe_seat lists room limit =
      let safe_seat = new_safe_seat lawful may terms record { table = table; given = g; gathered = gathered; seen = maker.seen } (confirmed.maker g gathered is) settings table lists room limit in
      let given : given_of maker.whose ≡ g = ap given_of is in
      let set : maker.view.attempt.settings ≡ settings = ap (λ (v : View). v.attempt.settings) (confirmed.rests g gathered is) in
      subst (λ (y : ℕ × Settings). SafeSeat lawful may terms record { table = table; number = g + 1; view = first_view (y.0 + 1) y.1 (length maker.seen); seen = maker.seen; lists = lists })
      (λ i. (sym given i, sym set i)) safe_seat
