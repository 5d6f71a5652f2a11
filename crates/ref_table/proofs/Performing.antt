-- What a seat keeps over an access.
use Rattle.std.proofs.Common.{◌≡◌, ℕ, List, Option, ap, subst, sym, ◌∙◌}
use Rattle.atomic_table.specs.Seated.{TableId}
use Rattle.atomic_table.specs.Table.{Me}
use Rattle.stm_model.specs.Attempt.{Attempt}
use Rattle.stm_model.specs.World.{Terms}
use Rattle.stm_model.specs.declared.access.Access.{Access}
use Rattle.ref_table.specs.Keyed.{HoldsSeat, Tells, clock_kept, seat_of, serial_then}
use Rattle.ref_table.specs.Knowledge.{Caller, Knowledge, Whose}
use Rattle.ref_table.specs.Parts.{number_of}
use Rattle.ref_table.specs.Performs.{MayPerform}
use Rattle.ref_table.specs.declared.lists.Lists.{Lists}
use Rattle.ref_table.proofs.Serials.{clock_is_kept, serial_kept}

-- whose seat it is, by its number
pub whose_own : (own : ℕ) (whose : Whose) → whose ≡ Caller own → whose ≡ Caller (number_of whose)
whose_own own whose is = is ∙ ap (λ (w : Whose). Caller (number_of w)) (sym is)

module _ (lawful : List ℕ → Type 0) (may : List ℕ → List ℕ → Type 0) (terms : Terms) (table : TableId) (own latest loaded : ℕ) (access : Access) (shown : Option Attempt) (found : ℕ) (me after : Me Unit Knowledge)
    (holds : HoldsSeat own latest loaded me) (told : Tells lawful may terms table (number_of me.0.whose) access shown found me.0 after.0) where
  -- what is told, by the seat's number
  pub own_told : Tells lawful may terms table own access shown found me.0 after.0
  own_told = subst (λ (p : ℕ). Tells lawful may terms table p access shown found me.0 after.0) (ap number_of holds.whose) told

  pub seat_holds : (lists : Lists) (serial clock : ℕ) → serial ≡ serial_then access latest → clock ≡ clock_kept access found loaded → MayPerform lawful may terms me.0.view access shown → after.1 ≡ me.1 → HoldsSeat own serial clock after
  seat_holds lists serial clock serial_is clock_is able same =
      let performs = own_told.performs lists in
      let before = seat_of table own lists me.0 in
      let then = seat_of table own lists after.0 in
      record {
        whose = own_told.whose;
        slots = same ∙ holds.slots;
        serial = serial_is ∙ ap (serial_then access) holds.serial ∙ sym (serial_kept lawful may terms access found before then shown able performs);
        clock = clock_is ∙ ap (clock_kept access found) holds.clock ∙ sym (clock_is_kept lawful may terms access found before then shown able performs);
      }
