-- Where the next row or the next rolled line of a worker stands: behind all that it has listed so far.
use Rattle.std.proofs.Common.{◌≡◌, ◌++◌, ℕ, suc, ◌+◌, ◌<◌, ◌≤◌, Bool, true, false, MatchBool, List, [], ◌∷◌, length, sym, ap, ◌∙◌, subst, arith}
use Rattle.std.proofs.lemmas.List.{length_push, map_push}
use Rattle.std.specs.List.{AllByRecursion, range_with_len}
use Rattle.ledger_model.specs.declared.listing.Rolled.{Rolled}
use Rattle.ledger_model.specs.declared.listing.Row.{Row}
use Rattle.ledger_model.specs.Replays.{MayPrecede}
use Rattle.ledger_model.proofs.Lists.{each_weaker, range_push}
use Rattle.trace_laws.proofs.Tracked.{ComesEarlier, StandsBetween}
use Rattle.trace_laws.proofs.Lists.{Ordered-push, each_both, each_mapped, each_push}
use Rattle.trace_laws.proofs.Midway.{AreFrom, AreOrdered}
use Rattle.trace_laws.proofs.Numbers.{IsBetween, each_in_range}

-- a place behind n, and behind it for a writer
abbrev pub IsBehind : ℕ → Bool → ℕ → Type 0
IsBehind n writer position = MatchBool writer (n < position) (n ≤ position)

behind_earlier : (m n : ℕ) (writer : Bool) (position : ℕ) → m ≤ n → IsBehind n writer position → IsBehind m writer position
behind_earlier m n true position low behind = omega (arith, low, behind)
behind_earlier m n false position low behind = omega (arith, low, behind)

module _ (rows : List Row) (lines : List Rolled) (old : AreOrdered rows lines) (n : ℕ) (from : AreFrom n rows lines) where
  -- each row has a lower number than the next one
  lower : AllByRecursion (λ row. IsBetween 1 (length rows) row.number) rows
  lower = each_mapped (IsBetween 1 (length rows)) (λ row. row.number) rows (subst (AllByRecursion (IsBetween 1 (length rows))) (sym old.numbered) (each_in_range 1 (length rows)))

  -- ---- a row

  module _ (row : Row) (number : row.number ≡ suc (length rows)) (behind : IsBehind n row.writer row.position) where
    comes_later : AllByRecursion (λ earlier. ComesEarlier earlier row) rows
    comes_later =
        each_both (λ earlier. IsBetween 1 (length rows) earlier.number) (λ earlier. earlier.position ≤ n) (λ earlier. ComesEarlier earlier row)
        (λ earlier below low. record { number = omega (arith, below, number); position = behind_earlier earlier.position n row.writer row.position low behind })
        rows lower from.0

    between_more : (line : Rolled) → StandsBetween rows line → line.prefix ≤ n → StandsBetween (rows ++ row ∷ []) line
    between_more line stands low = record {
      number = omega (arith, stands.number, length_push rows row);
      behind = each_push (λ (each : Row). each.number < line.number → each.position ≤ line.prefix) rows row stands.behind (λ earlier. absurd (omega (arith, earlier, number, stands.number)));
      before = each_push (λ (each : Row). line.number ≤ each.number → IsBehind line.prefix each.writer each.position) rows row stands.before
          (λ later. behind_earlier line.prefix n row.writer row.position low behind);
    }

    pub row_placed : AreOrdered (rows ++ row ∷ []) lines
    row_placed =
        let next : row.number ≡ 1 + length rows = omega (arith, number) in
        let long : length (rows ++ row ∷ []) ≡ suc (length rows) = omega (arith, length_push rows row) in
        record {
          numbered = map_push (λ (each : Row). each.number) rows row ∙ ap (λ (numbers : List ℕ). numbers ++ row.number ∷ []) old.numbered ∙ ap (λ (k : ℕ). range_with_len 1 (length rows) ++ k ∷ []) next
              ∙ range_push 1 (length rows) ∙ ap (range_with_len 1) (sym long);
          rows_rise = Ordered-push ComesEarlier rows row old.rows_rise comes_later;
          lines_rise = old.lines_rise;
          between = each_both (StandsBetween rows) (λ line. line.prefix ≤ n) (StandsBetween (rows ++ row ∷ [])) between_more lines old.between from.1;
        }

  -- ---- a rolled line

  module _ (line : Rolled) (number : line.number ≡ suc (length rows)) (behind : n ≤ line.prefix) (workers : AllByRecursion (λ earlier. earlier.worker ≡ line.worker) lines) where
    stands : StandsBetween rows line
    stands = record {
      number = omega (arith, number);
      behind = each_weaker (λ (row : Row). row.position ≤ n) (λ (row : Row). row.number < line.number → row.position ≤ line.prefix) (λ row low earlier. omega (arith, low, behind)) rows from.0;
      before = each_weaker (λ (row : Row). IsBetween 1 (length rows) row.number) (λ (row : Row). line.number ≤ row.number → IsBehind line.prefix row.writer row.position)
          (λ row below later. absurd (omega (arith, below, later, number))) rows lower;
    }

    may_precede : (earlier : Rolled) → (earlier.prefix ≤ n) × StandsBetween rows earlier → earlier.worker ≡ line.worker → MayPrecede earlier line
    may_precede earlier is worker = record {
      worker = omega (arith, worker);
      number = λ same. omega (arith, is.1.number, number);
      prefix = λ same. omega (arith, is.0, behind);
    }

    pub line_placed : AreOrdered rows (lines ++ line ∷ [])
    line_placed =
        let places = each_both (λ (earlier : Rolled). earlier.prefix ≤ n) (StandsBetween rows) (λ (earlier : Rolled). (earlier.prefix ≤ n) × StandsBetween rows earlier) (λ earlier low between. (low, between)) lines from.1 old.between in
        record {
          numbered = old.numbered;
          rows_rise = old.rows_rise;
          lines_rise = Ordered-push MayPrecede lines line old.lines_rise
              (each_both (λ (earlier : Rolled). (earlier.prefix ≤ n) × StandsBetween rows earlier) (λ (earlier : Rolled). earlier.worker ≡ line.worker) (λ (earlier : Rolled). MayPrecede earlier line) may_precede lines places workers);
          between = each_push (StandsBetween rows) lines line old.between stands;
        }
