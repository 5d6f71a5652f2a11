-- What the maker's seat is once it has gathered another.
use Rattle.std.proofs.Common.{◌≡◌, ℕ, ◌≤◌, Bool, true, false, cond, leb, List, ◌∷◌, length, refl, ap, subst, sym, ◌∙◌, arith}
use Rattle.std.proofs.lemmas.Bool.{leb-false, leb-true}
use mathlib.Core.List.{IsPrefix}
use Rattle.atomic_table.specs.Seated.{TableId}
use Rattle.atomic_table.specs.Table.{Me}
use Rattle.stm_model.specs.History.{Entry}
use Rattle.ref_table.specs.Calls.{IsGathered, SeesBoth}
use Rattle.ref_table.specs.Knowledge.{Caller, Knowledge}
use Rattle.ref_table.specs.Parts.{after_gather, gathered_of, number_of}
use Rattle.ref_table.specs.Seats.{SeatState, longer, shorter}
use Rattle.ref_table.proofs.Beginnings.{prefix_self}

-- Where the longer of two lists begins with the shorter, it begins with both.
sees_both : (one other : List Entry) → (length (shorter one other) ≤ length (longer one other) → IsPrefix (shorter one other) (longer one other)) → SeesBoth one other (longer one other)
sees_both one other begins = let both = go (leb (length one) (length other)) refl begins in record { seen = refl; own = both.0; others = both.1 }
  where
    go : (b : Bool) → leb (length one) (length other) ≡ b → (length (cond b one other) ≤ length (cond b other one) → IsPrefix (cond b one other) (cond b other one)) → IsPrefix one (cond b other one) × IsPrefix other (cond b other one)
    go true is begins = (begins (leb-true (length one) (length other) is), prefix_self other)
    go false is begins = (prefix_self one, begins (let less = leb-false (length one) (length other) is in omega arith))

module _ (before after : TableId) (given : ℕ) (mine theirs : Knowledge) (me then : Me Unit Knowledge) (seat : SeatState) (same : after ≡ before) (joins : then ≡ (after_gather mine theirs, me.1))
    (whose : theirs.whose ≡ Caller seat.number) (seen : theirs.seen ≡ seat.seen) (begins : length then.0.joined ≤ length then.0.seen → IsPrefix then.0.joined then.0.seen) where
  known : then.0 ≡ after_gather mine theirs
  known = ap (λ (m : Me Unit Knowledge). m.0) joins

  both : SeesBoth mine.seen theirs.seen (longer mine.seen theirs.seen)
  both = sees_both mine.seen theirs.seen (subst (λ (k : Knowledge). length k.joined ≤ length k.seen → IsPrefix k.joined k.seen) known begins)

  pub is_gathered : IsGathered (record { table = before; given = given; gathered = gathered_of mine.whose; seen = mine.seen }) (record { table = after; given = given; gathered = gathered_of then.0.whose; seen = then.0.seen }) seat
  is_gathered =
      let path : then.0.seen ≡ longer mine.seen theirs.seen = ap (λ (k : Knowledge). k.seen) known in record {
        table = same;
        given = refl;
        gathered = ap (λ (k : Knowledge). gathered_of k.whose) known ∙ (λ i. (number_of (whose i), length (seen i)) ∷ gathered_of mine.whose);
        sees = subst (λ (y : List Entry × List Entry). SeesBoth mine.seen y.0 y.1) (λ i. (seen i, sym path i)) both;
      }
