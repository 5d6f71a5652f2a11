-- A script without maps goes on, heard on plain contents, as its run does: each statement, and each block.
use Rattle.std.proofs.Common.{◌≡◌, ℕ, Bool, IsTrue, ◌&&◌, List, [], ◌∷◌, ◌++◌, length, map, nat_lt, nat_le, refl, ap, sym, subst, ◌∙◌, arith, append_assoc}
use Rattle.text_lines.proofs.Lists.{AllByRecursion-append}
use Rattle.ledger_model.specs.declared.script.Statement.{Statement}
use Rattle.ledger_model.specs.declared.script.Statement.TheOpen.{Statement-F}
use Rattle.ledger_model.specs.declared.script.Statement.TheOpen as layer
use Rattle.ledger_model.specs.declared.script.Statement.TheFolds.{map-Statement, fold-roll-Statement, ind-Statement}
use Rattle.ledger_model.specs.Fits.{Places, block_fits, each_fits, each_part_fits, fits, fits_step, is_register, nests, operand_fits}
use Rattle.ledger_model.specs.Heard.{hear, heard_at}
use Rattle.ledger_model.specs.Run.{State, Outcome, Meaning, Kept, Failed, Retried, Known, kept, in_turn, nested, either, value_of, step, known, meaning, run_block}
use Rattle.ledger_model.specs.Talk.{Part, Spoken, all_of, level, first_of_them, part_by, spoken, block_part}
use Rattle.ledger_model.proofs.Growing.{block_lates}
use Rattle.ledger_model.proofs.Meaning.{itself_all, itself_spoken, meaning-roll, says-roll}
use Rattle.ledger_model.proofs.Moments.{FitsLate, below, both, nests_inside}
use Rattle.ledger_model.proofs.Alike.{Alike, caught_alike, first_alike, level_alike, moves_alike, own, goes_on, tested, turn_alike, value_same}
use Rattle.ledger_model.proofs.Staying.{Stays}
use Rattle.ledger_model.proofs.Staying as staying

module _ (p : Places) where
  -- ---- both, for blocks of statements that are known to follow

  pub record Follows (part : Part) (does : Meaning) : Type 0 where
    pub alike : Alike part does
    pub stays : (s : State) → Stays p s (does s).after

  Is : Statement → Type 0
  Is m = (left : ℕ) → IsTrue (fits p m left) → Follows (spoken m).says (meaning m)

  abbrev One : Type 0
  One = (m : Statement) × Is m

  abbrev plain : One → Statement
  plain it = it.0

  turn : (ones : List One) (left : ℕ) → IsTrue (block_fits p left (map plain ones)) → Follows (all_of (map spoken (map plain ones))) (in_turn (map known (map plain ones)))
  unfolding Is
  turn [] left fit = record { alike = λ front next saved s. refl; stays = λ s. staying.same p s s refl refl refl refl }
  turn (it ∷ ones) left fit =
      let split = both (fits p it.0 left) (block_fits p left (map plain ones)) fit in
      let first = it.1 left split.0 in
      let rest = turn ones left split.1 in
      record {
        alike = turn_alike (spoken it.0) (map spoken (map plain ones)) (known it.0) (map known (map plain ones)) first.alike rest.alike;
        stays = λ s. staying.next p (meaning it.0 s) s (in_turn (map known (map plain ones))) (first.stays s) rest.stays;
      }

  nests_follow : (ones : List One) (left : ℕ) → IsTrue (block_fits p left (map plain ones)) → Follows (level (map spoken (map plain ones))) (nested (map known (map plain ones)))
  nests_follow ones left fit =
      let inside = turn ones left fit in
      record {
        alike = level_alike (map spoken (map plain ones)) (map known (map plain ones)) inside.alike (block_lates (map plain ones));
        stays = λ s. staying.unless_kept p (in_turn (map known (map plain ones)) s) s (inside.stays s);
      }

  parts_follow : (parts : List (List One)) (left : ℕ) → IsTrue (each_part_fits left (map (map (fits p)) (map (map plain) parts)))
      → Follows (first_of_them (map (map spoken) (map (map plain) parts))) (either (map (map known) (map (map plain) parts)))
  parts_follow [] left fit = record { alike = λ front next saved s. refl; stays = λ s. staying.same p s s refl refl refl refl }
  parts_follow (part ∷ parts) left fit =
      let split = both (block_fits p left (map plain part)) (each_part_fits left (map (map (fits p)) (map (map plain) parts))) fit in
      let first = nests_follow part left split.0 in
      let rest = parts_follow parts left split.1 in
      record {
        alike = first_alike (map spoken (map plain part)) (map (map spoken) (map (map plain) parts)) (map known (map plain part)) (map (map known) (map (map plain) parts)) first.alike rest.alike;
        stays = λ s. staying.or_next p (nested (map known (map plain part)) s) s (either (map (map known) (map (map plain) parts))) (first.stays s) rest.stays;
      }

  -- ---- all statements

  module _ (no_maps : p.maps ≡ 0) (no_slots : p.snaps ≡ 0) where
    -- no map or slot is there
    nowhere : {X : Type 0} (m count : ℕ) → count ≡ 0 → IsTrue (nat_lt m count) → X
    nowhere m count none is = let less = below m count is in absurd (omega (arith, none, less))

    layers : (y : Statement-F One) (left : ℕ) → IsTrue (fits_step p (map-Statement Statement (ℕ → Bool) (fits p) (map-Statement One Statement plain y)) left)
        → Follows (part_by (map-Statement Statement Spoken spoken (map-Statement One Statement plain y))) (step (map-Statement Statement Known known (map-Statement One Statement plain y)))
    layers (layer.Const r n) left fit = record { alike = λ front next saved s. refl; stays = λ s. staying.same p s _ refl refl refl refl }
    layers (layer.Read r cell) left fit = record { alike = λ front next saved s. refl; stays = λ s. staying.same p s _ refl refl refl refl }
    layers (layer.Write cell x) left fit = record { alike = λ front next saved s. rw (value_same x front s) refl; stays = λ s. staying.same p s _ refl refl refl refl }
    layers (layer.Add r x) left fit = record { alike = λ front next saved s. rw (value_same x front s) refl; stays = λ s. staying.same p s _ refl refl refl refl }
    layers (layer.Sub r x) left fit = record { alike = λ front next saved s. rw (value_same x front s) refl; stays = λ s. staying.same p s _ refl refl refl refl }
    layers (layer.Print x) left fit = record { alike = λ front next saved s. rw (value_same x front s) refl; stays = λ s. staying.same p s _ refl refl refl refl }
    layers (layer.Check x y code) left fit = record {
      alike = λ front next saved s.
          rw (value_same x front s, value_same y front s)
          (tested (nat_lt (value_of x s) (value_of y s)) (next (Failed code) (own front s)) (next Kept (own front s)) (record { end = Failed code; after = s }) (kept s) front next saved s refl refl);
      stays = λ s. staying.ends p (nat_lt (value_of x s) (value_of y s)) (Failed code) s;
    }
    layers (layer.Need x y) left fit = record {
      alike = λ front next saved s.
          rw (value_same x front s, value_same y front s)
          (tested (nat_lt (value_of x s) (value_of y s)) (next Retried (own front s)) (next Kept (own front s)) (record { end = Retried; after = s }) (kept s) front next saved s refl refl);
      stays = λ s. staying.ends p (nat_lt (value_of x s) (value_of y s)) Retried s;
    }
    layers (layer.Move from into x) left fit = record {
      alike = λ front next saved s. rw (value_same x front s) (moves_alike from into (value_of x s) front next saved s);
      stays = λ s. staying.moves p from into (value_of x s) s;
    }
    layers (layer.Inner r block) left fit =
        let less = nests_inside left (λ inside. each_fits inside (map (fits p) (map plain block))) (both (is_register r) (nests left (λ inside. each_fits inside (map (fits p) (map plain block)))) fit).1 in
        let inside = nests_follow block less.0 less.1 in
        record {
          alike = caught_alike r (map spoken (map plain block)) (map known (map plain block)) inside.alike;
          stays = λ s. staying.catches p r (nested (map known (map plain block)) s) s (inside.stays s);
        }
    layers (layer.Either parts) left fit =
        let inside : ℕ → Bool = λ less. each_part_fits less (map (map (fits p)) (map (map plain) parts)) in
        let less = nests_inside left inside (both (nat_le 2 (length (map (map (fits p)) (map (map plain) parts)))) (nests left inside) fit).1 in
        let them = parts_follow parts less.0 less.1 in
        record { alike = them.alike; stays = them.stays }
    layers (layer.Late block) left fit =
        let body : List Statement = map (λ part. part.itself) (map known (map plain block)) in
        let spoken_body : List Statement = map (λ part. part.itself) (map spoken (map plain block)) in
        let is_body : spoken_body ≡ body = itself_spoken (map plain block) ∙ sym (itself_all (map plain block)) in
        let less = nests_inside left (λ inside. each_fits inside (map (fits p) (map plain block))) fit in
        let same_fit : IsTrue (block_fits p less.0 body) = subst (λ (b : List Statement). IsTrue (block_fits p less.0 b)) (sym (itself_all (map plain block))) less.1 in
        record {
          alike = λ front next saved s.
              ap (λ lates. hear (next Kept (record { registers = s.registers; lates = lates })) (heard_at saved s))
              (append_assoc front s.lates (spoken_body ∷ []) ∙ ap (λ (b : List Statement). front ++ (s.lates ++ b ∷ [])) is_body);
          stays = λ s. record { totals = refl; maps = refl; slots = refl; lates = λ fit. AllByRecursion-append (FitsLate p) s.lates (body ∷ []) fit ((less.0, same_fit), tt) };
        }
    layers (layer.Hook phase token) left fit = record { alike = λ front next saved s. refl; stays = λ s. staying.same p s _ refl refl refl refl }
    layers (layer.Put m x y) left fit =
        nowhere m p.maps no_maps (both (nat_lt m p.maps) (operand_fits x) (both (nat_lt m p.maps && operand_fits x) (operand_fits y) fit).0).0
    layers (layer.Del m x) left fit = nowhere m p.maps no_maps (both (nat_lt m p.maps) (operand_fits x) fit).0
    layers (layer.Look r m x y) left fit =
        let named = (both (is_register r && nat_lt m p.maps) (operand_fits x) (both (is_register r && nat_lt m p.maps && operand_fits x) (operand_fits y) fit).0).0 in
        nowhere m p.maps no_maps (both (is_register r) (nat_lt m p.maps) named).1
    layers (layer.LookSlot r k x y) left fit =
        let named = (both (is_register r && nat_lt k p.snaps) (operand_fits x) (both (is_register r && nat_lt k p.snaps && operand_fits x) (operand_fits y) fit).0).0 in
        nowhere k p.snaps no_slots (both (is_register r) (nat_lt k p.snaps) named).1
    layers (layer.Snap k m) left fit = nowhere k p.snaps no_slots (both (nat_lt k p.snaps) (nat_lt m p.maps) fit).0
    layers (layer.Share from into) left fit = nowhere from p.maps no_maps (both (nat_lt from p.maps) (nat_lt into p.maps) fit).0

    statement_is : (m : Statement) → Is m
    unfolding Is
    statement_is = ind-Statement Is (λ x y are left fit.
        let fits_here : IsTrue (fits_step p (map-Statement Statement (ℕ → Bool) (fits p) x) left) =
        subst (λ (test : ℕ → Bool). IsTrue (test left)) (fold-roll-Statement (ℕ → Bool) (fits_step p) x) fit in
        let fits_there : IsTrue (fits_step p (map-Statement Statement (ℕ → Bool) (fits p) (map-Statement One Statement plain y)) left) =
        subst (λ (z : Statement-F Statement). IsTrue (fits_step p (map-Statement Statement (ℕ → Bool) (fits p) z) left)) (sym are) fits_here in
        let done : Follows (part_by (map-Statement Statement Spoken spoken x)) (step (map-Statement Statement Known known x)) =
        subst (λ (z : Statement-F Statement). Follows (part_by (map-Statement Statement Spoken spoken z)) (step (map-Statement Statement Known known z))) are (layers y left fits_there) in
        record {
          alike = λ front next saved s.
              ap (λ talk. hear talk (heard_at saved s)) (says-roll x (own front s) next) ∙ (done.alike front next saved s ∙ ap (goes_on front next saved) (sym (meaning-roll x s)));
          stays = λ s. subst (λ (o : Outcome). Stays p s o.after) (sym (meaning-roll x s)) (done.stays s);
        })

    pub statement : (m : Statement) (left : ℕ) → IsTrue (fits p m left) → Follows (spoken m).says (meaning m)
    unfolding Is
    statement = statement_is

    pub block : (ms : List Statement) (left : ℕ) → IsTrue (block_fits p left ms) → Follows (block_part ms) (run_block ms)
    block [] left fit = record { alike = λ front next saved s. refl; stays = λ s. staying.same p s s refl refl refl refl }
    block (m ∷ ms) left fit =
        let split = both (fits p m left) (block_fits p left ms) fit in
        let first = statement m left split.0 in
        let rest = block ms left split.1 in
        record {
          alike = turn_alike (spoken m) (map spoken ms) (known m) (map known ms) first.alike rest.alike;
          stays = λ s. staying.next p (meaning m s) s (run_block ms) (first.stays s) rest.stays;
        }
