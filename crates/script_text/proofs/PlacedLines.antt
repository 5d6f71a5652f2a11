-- The lines of a job, each in its place.
use Rattle.std.proofs.Common.{◌≡◌, ℕ, zero, suc, ◌+◌, ◌<◌, ◌≤◌, ◌^◌, Bool, true, false, ◌||◌, not, cond, nat_eq, nat_lt, List, [], ◌∷◌, length, map, Option, Some, None, Ok, Err, refl, sym, ap, ◌∙◌, subst, arith, codes}
use Rattle.std.specs.List.{AllByRecursion}
use Rattle.text_lines.specs.Lines.{Row}
use Rattle.text_lines.specs.Numbers.{plain_word}
use Rattle.text_lines.proofs.NumberLemmas.{number_below, plain_number}
use Rattle.ledger_model.specs.Fits.{is_register, fits}
use Rattle.ledger_model.specs.declared.reason.Reason.{Reason}
use Rattle.ledger_model.specs.declared.reason.Reason.TheVariants.{Unbuilt, Order, Depth, Many, Count}
use Rattle.script_text.specs.declared.keyword.Keyword.{Keyword}
use Rattle.script_text.specs.declared.keyword.Keyword.TheVariants as key
use Rattle.script_text.specs.declared.line.Line.{Line}
use Rattle.script_text.specs.declared.line.Line.TheVariants as says
use Rattle.script_text.specs.declared.section.Section.{Section}
use Rattle.script_text.specs.declared.section.Section.TheVariants as section
use Rattle.script_text.specs.Words.{◌>>=◌, keyword_word, keyword_of, is_unbuilt, both, below, number, no_word, one_word, two_words}
use Rattle.script_text.specs.Line.{said, statement_of, steps_of, workers_of}
use Rattle.script_text.specs.Standing.{Standing, Opener, OfInner, OfEither, OfOr, OfLate, rank, after, behind_first, falls_below, is_less, in_script, in_part, may_end, first_of, misplaced, unless, said_at, read_at, read_row, out_of_order, too_deep, too_many}
use Rattle.script_text.specs.Form.{FitsOnLine}
use Rattle.script_text.proofs.SpelledWords.{bind_ok, ok_same, both_ok, one_ok, two_ok, register_way, number_ok, below_ok, below_small, keyword_is, true_lt, lt_false, le_false, eq_same}
use Rattle.script_text.proofs.SpelledLines.{one_says, kept, line_rows, only, statement_says, refs_kept, opening_kept, NamesWorker, workers_say}

-- ---- lines in their places

-- Behind the head of a job the line may stand in this place, and what it says is within the limits.
abbrev pub Stands : Standing → Line → Type 0
Stands p says.Head = ⊥
Stands p (says.Refs n) = (rank p.come_to ≤ 1) × (n ≤ 65536)
Stands p (says.Opening cell n) = (rank p.come_to ≤ 3) × (p.next ≤ cell) × (cell < p.refs) × (n < 2 ^ 64)
Stands p says.Worker = (p.openers ≡ []) × (rank p.come_to ≤ 4) × (p.workers < 16)
Stands p says.Script = (p.openers ≡ []) × (rank p.come_to ≡ 4) × (p.scripts < 4096)
Stands p says.End = may_end p.openers ≡ true
Stands p (says.Inner r) = (0 < length p.openers) × (length p.openers ≤ 32) × (is_register r ≡ true)
Stands p says.Either = (0 < length p.openers) × (length p.openers ≤ 32)
Stands p says.Or = in_part p.openers ≡ true
Stands p says.Late = (0 < length p.openers) × (length p.openers ≤ 32)
Stands p (says.Steps numbers) = (p.openers ≡ []) × (p.steps + length numbers ≤ 262144) × AllByRecursion (NamesWorker p.workers) numbers × FitsOnLine numbers
Stands p (says.Plain m) = (0 < length p.openers) × ((left : ℕ) → fits (only p.refs) m left ≡ true)

-- What is open is open in a script, which stands among the workers, and nothing has passed its limit.
pub record IsSound (p : Standing) : Type 0 where
  pub begun : 1 ≤ rank p.come_to
  pub among : 0 < length p.openers → rank p.come_to ≡ 4
  pub workers : p.workers ≤ 16
  pub scripts : p.scripts ≤ 4096
  pub steps : p.steps ≤ 262144

-- Each of the lines stands in its place, from this one on, and nothing is open at the end.
abbrev pub Placed : Standing → List Line → Type 0
Placed p [] = IsSound p × (p.openers ≡ [])
Placed p (line ∷ more) = IsSound p × Stands p line × Placed (after p line) more

none_open : (p : Standing) → IsSound p → (rank p.come_to ≡ 4 → ⊥) → p.openers ≡ []
none_open p s f = at p.openers s.among where
  at : (openers : List Opener) → (0 < length openers → rank p.come_to ≡ 4) → openers ≡ []
  at [] g = refl
  at (o ∷ openers) g = absurd (f (g (omega arith)))

pub ends_among : (p : Standing) → IsSound p → may_end p.openers ≡ true → rank p.come_to ≡ 4
ends_among p s h = s.among (at p.openers h) where
  at : (openers : List Opener) → may_end openers ≡ true → 0 < length openers
  at [] h = cc
  at (o ∷ openers) h = omega arith

pub part_among : (p : Standing) → IsSound p → in_part p.openers ≡ true → rank p.come_to ≡ 4
part_among p s h = s.among (at p.openers h) where
  at : (openers : List Opener) → in_part openers ≡ true → 0 < length openers
  at [] h = cc
  at (o ∷ openers) h = omega arith

none_longer : (openers : List Opener) → openers ≡ [] → 0 < length openers → ⊥
none_longer [] e l = omega arith
none_longer (o ∷ openers) e l = cc

still : (p : Standing) → IsSound p → (openers : List Opener) → rank p.come_to ≡ 4 → IsSound (record p { openers = openers })
still p s openers r = record { begun = s.begun; among = λ _. r; workers = s.workers; scripts = s.scripts; steps = s.steps }

pub sound_after : (p : Standing) (line : Line) → IsSound p → Stands p line → IsSound (after p line)
sound_after p says.Head s h = absurd h
sound_after p (says.Refs n) s h = record { begun = omega arith; among = λ l. absurd (none_longer p.openers (none_open p s (λ e. omega (arith, h.0, e))) l); workers = s.workers; scripts = s.scripts; steps = s.steps }
sound_after p (says.Opening cell n) s h = record { begun = omega arith; among = λ l. absurd (none_longer p.openers (none_open p s (λ e. omega (arith, h.0, e))) l); workers = s.workers; scripts = s.scripts; steps = s.steps }
sound_after p says.Worker s h = record { begun = omega arith; among = λ _. refl; workers = omega (arith, h.2); scripts = omega arith; steps = s.steps }
sound_after p says.Script s h = record { begun = s.begun; among = λ _. h.1; workers = s.workers; scripts = omega (arith, h.2); steps = s.steps }
sound_after p says.End s h = still p s (behind_first p.openers) (ends_among p s h)
sound_after p (says.Inner r) s h = still p s (OfInner ∷ p.openers) (s.among h.0)
sound_after p says.Either s h = still p s (OfEither ∷ p.openers) (s.among h.0)
sound_after p says.Or s h = still p s (OfOr ∷ behind_first p.openers) (part_among p s h)
sound_after p says.Late s h = still p s (OfLate ∷ p.openers) (s.among h.0)
sound_after p (says.Steps numbers) s h = record { begun = omega arith; among = λ l. absurd (none_longer p.openers h.0 l); workers = s.workers; scripts = s.scripts; steps = h.1 }
sound_after p (says.Plain m) s h = s

-- ---- rows as lines

pub record Reads (p : Standing) (row : Row) (line : Line) : Type 0 where
  pub kept_is : kept row ≡ line_rows line
  pub stands : Stands p line

pub record NoReason (u o d m : Bool) : Type 0 where
  pub built : u ≡ false
  pub order : o ≡ false
  pub depth : d ≡ false
  pub few : m ≡ false

no_reason : (u o d m : Bool) → first_of ((u, Unbuilt) ∷ (o, Order) ∷ (d, Depth) ∷ (m, Many) ∷ []) ≡ None → NoReason u o d m
no_reason true o d m h = cc
no_reason false true d m h = cc
no_reason false false true m h = cc
no_reason false false false true h = cc
no_reason false false false false h = record { built = refl; order = refl; depth = refl; few = refl }

not_false : (b : Bool) → not b ≡ false → b ≡ true
not_false true h = refl
not_false false h = cc

no_either : (a b : Bool) → (a || b) ≡ false → (a ≡ false) × (b ≡ false)
no_either true b h = cc
no_either false b h = (refl, h)

open_in : (openers : List Opener) → not (not (nat_eq (length openers) 0)) ≡ false → 0 < length openers
open_in [] h = cc
open_in (o ∷ openers) h = omega arith

pub closed : (openers : List Opener) → not (nat_eq (length openers) 0) ≡ false → openers ≡ []
closed [] h = refl
closed (o ∷ openers) h = let e = eq_same (length (o ∷ openers)) 0 (not_false (nat_eq (length (o ∷ openers)) 0) h) in absurd (omega arith)

-- the test of the place for this keyword
abbrev Fitting : Standing → Keyword → Row → Type 0
Fitting p k args = NoReason (is_unbuilt k) (out_of_order p k args) (too_deep p k) (too_many p k args)

-- a line of one word
alone : (p : Standing) (k : Keyword) (l : Line) → kept (keyword_word k ∷ []) ≡ line_rows l → Stands p l
    → (args : Row) (line : Line) → (no_word args >>= λ _. Ok l) ≡ Ok line → Reads p (keyword_word k ∷ args) line
alone p k l e g [] line h = subst (Reads p (keyword_word k ∷ [])) (ok_same l line h) (record { kept_is = e; stands = g })
alone p k l e g (a ∷ more) line h = cc

-- a statement of one line
plainly : (p : Standing) (k : Keyword) (args : Row) (line : Line) → kept (keyword_word k ∷ args) ≡ (keyword_word k ∷ map plain_word args) ∷ []
    → not (in_script p) ≡ false → (statement_of p.refs k args >>= λ m. Ok (says.Plain m)) ≡ Ok line → Reads p (keyword_word k ∷ args) line
plainly p k args line e o h =
    let b = bind_ok (statement_of p.refs k args) (λ m. Ok (says.Plain m)) line h in
    let t = statement_says p.refs k args b.0 b.1 in
    subst (Reads p (keyword_word k ∷ args)) (ok_same (says.Plain b.0) line b.2) (record {
      kept_is = e ∙ t.row;
      stands = (open_in p.openers o, t.fits);
    })

opening_reads : (p : Standing) (args : Row) (line : Line) → (nat_lt 3 (rank p.come_to) || falls_below p.next args) ≡ false
    → (two_words args >>= λ w. both (below p.refs w.0) (number w.1) >>= λ x. Ok (says.Opening x.0 x.1)) ≡ Ok line → Reads p (codes "ref" ∷ args) line
opening_reads p args line o h =
    let w = bind_ok (two_words args) (λ w. both (below p.refs w.0) (number w.1) >>= λ x. Ok (says.Opening x.0 x.1)) line h in
    let b = bind_ok (both (below p.refs w.0.0) (number w.0.1)) (λ x. Ok (says.Opening x.0 x.1)) line w.2 in
    let d = both_ok (below p.refs w.0.0) (number w.0.1) b.0 b.1 in
    let c = below_ok p.refs w.0.0 b.0.0 d.0 in
    let n = number_ok w.0.1 b.0.1 d.1 in
    let t = no_either (nat_lt 3 (rank p.come_to)) (falls_below p.next args) o in
    let q = sym (ap (λ (o : Option ℕ). is_less o p.next) c.0) ∙ sym (ap (falls_below p.next) (two_ok args w.0 w.1)) ∙ t.1 in
    subst (Reads p (codes "ref" ∷ args)) (ok_same (says.Opening b.0.0 b.0.1) line b.2) (record {
      kept_is = ap (λ (ws : Row). kept (codes "ref" ∷ ws)) (two_ok args w.0 w.1)
          ∙ opening_kept w.0.0 w.0.1 b.0.0 b.0.1 (number_below w.0.1 b.0.1 n) (plain_number w.0.0 b.0.0 c.0) (plain_number w.0.1 b.0.1 n);
      stands = (lt_false 3 (rank p.come_to) t.0, lt_false b.0.0 p.next q, true_lt b.0.0 p.refs c.1, number_below w.0.1 b.0.1 n);
    })

refs_reads : (p : Standing) (args : Row) (line : Line) → nat_lt 1 (rank p.come_to) ≡ false → said p.refs p.workers key.Refs args ≡ Ok line → Reads p (codes "refs" ∷ args) line
refs_reads p args line o h =
    let w = bind_ok (one_word args) (λ w. below 65537 w >>= λ n. Ok (says.Refs n)) line h in
    let b = bind_ok (below 65537 w.0) (λ n. Ok (says.Refs n)) line w.2 in
    let c = below_ok 65537 w.0 b.0 b.1 in
    let l = true_lt b.0 65537 c.1 in
    subst (Reads p (codes "refs" ∷ args)) (ok_same (says.Refs b.0) line b.2) (record {
      kept_is = ap (λ (ws : Row). kept (codes "refs" ∷ ws)) (one_ok args w.0 w.1) ∙ refs_kept w.0 b.0 (below_small 65537 w.0 b.0 b.1) (plain_number w.0 b.0 c.0);
      stands = (lt_false 1 (rank p.come_to) o, omega (arith, l));
    })

steps_reads : (p : Standing) (args : Row) (line : Line) → in_script p ≡ false → nat_lt 262144 (p.steps + length args) ≡ false
    → (steps_of p.workers args >>= λ numbers. Ok (says.Steps numbers)) ≡ Ok line → Reads p (codes "steps" ∷ args) line
steps_reads p args line o m h =
    let b = bind_ok (steps_of p.workers args) (λ numbers. Ok (says.Steps numbers)) line h in
    let c = at b.0 (nat_eq (length args) 0 || nat_lt 64 (length args)) refl b.1 in
    let t = no_either (nat_eq (length args) 0) (nat_lt 64 (length args)) c.0 in
    let few = lt_false 64 (length args) t.1 in
    let some = not_zero (length args) t.0 in
    let w = workers_say p.workers args b.0 c.1 in
    let l = lt_false 262144 (p.steps + length args) m in
    subst (Reads p (codes "steps" ∷ args)) (ok_same (says.Steps b.0) line b.2) (record {
      kept_is = ap (λ (ws : Row). (codes "steps" ∷ ws) ∷ []) w.0;
      stands = (closed p.openers o, omega (arith, w.2, l), w.1, (omega (arith, w.2, some), omega (arith, w.2, few)));
    }) where
      at : (ns : List ℕ) (c : Bool) → (nat_eq (length args) 0 || nat_lt 64 (length args)) ≡ c → cond c (Err Count) (workers_of p.workers args) ≡ Ok ns
          → ((nat_eq (length args) 0 || nat_lt 64 (length args)) ≡ false) × (workers_of p.workers args ≡ Ok ns)
      at ns true e h = cc
      at ns false e h = (e, h)

      not_zero : (n : ℕ) → nat_eq n 0 ≡ false → 1 ≤ n
      not_zero zero h = cc
      not_zero (suc n) h = omega arith

inner_reads : (p : Standing) (args : Row) (line : Line) → not (in_script p) ≡ false → nat_lt 32 (length p.openers) ≡ false
    → said p.refs p.workers key.Inner args ≡ Ok line → Reads p (codes "inner" ∷ args) line
inner_reads p args line o d h =
    let t = one_says register_way says.Inner args line h in
    subst (Reads p (codes "inner" ∷ args)) t.is (record {
      kept_is = ap (λ (more : Row). (codes "inner" ∷ more) ∷ []) t.plain;
      stands = (open_in p.openers o, lt_false 32 (length p.openers) d, t.fits);
    })

said_reads : (p : Standing) (k : Keyword) (args : Row) (line : Line) → Fitting p k args → said p.refs p.workers k args ≡ Ok line → Reads p (keyword_word k ∷ args) line
said_reads p key.Stm args line f h = let e = f.order in cc
said_reads p key.Refs args line f h = refs_reads p args line f.order h
said_reads p key.Maps args line f h = let e = f.built in cc
said_reads p key.Snaps args line f h = let e = f.built in cc
said_reads p key.Blocks args line f h = let e = f.built in cc
said_reads p key.Ref args line f h = opening_reads p args line f.order h
said_reads p key.Worker args line f h =
    let t = no_either (in_script p) (nat_lt 4 (rank p.come_to)) f.order in
    alone p key.Worker says.Worker refl (closed p.openers t.0, lt_false 4 (rank p.come_to) t.1, le_false 16 p.workers f.few) args line h
said_reads p key.Script args line f h =
    let t = no_either (in_script p) (not (nat_eq (rank p.come_to) 4)) f.order in
    alone p key.Script says.Script refl (closed p.openers t.0, eq_same (rank p.come_to) 4 (not_false (nat_eq (rank p.come_to) 4) t.1), le_false 4096 p.scripts f.few) args line h
said_reads p key.End args line f h = alone p key.End says.End refl (not_false (may_end p.openers) f.order) args line h
said_reads p key.Steps args line f h = steps_reads p args line f.order f.few h
said_reads p key.Inner args line f h = inner_reads p args line f.order f.depth h
said_reads p key.Either args line f h = alone p key.Either says.Either refl (open_in p.openers f.order, lt_false 32 (length p.openers) f.depth) args line h
said_reads p key.Or args line f h = alone p key.Or says.Or refl (not_false (in_part p.openers) f.order) args line h
said_reads p key.Late args line f h = alone p key.Late says.Late refl (open_in p.openers f.order, lt_false 32 (length p.openers) f.depth) args line h
said_reads p key.Const args line f h = plainly p key.Const args line refl f.order h
said_reads p key.Read args line f h = plainly p key.Read args line refl f.order h
said_reads p key.Write args line f h = plainly p key.Write args line refl f.order h
said_reads p key.Add args line f h = plainly p key.Add args line refl f.order h
said_reads p key.Sub args line f h = plainly p key.Sub args line refl f.order h
said_reads p key.Print args line f h = plainly p key.Print args line refl f.order h
said_reads p key.Check args line f h = plainly p key.Check args line refl f.order h
said_reads p key.Need args line f h = plainly p key.Need args line refl f.order h
said_reads p key.Move args line f h = plainly p key.Move args line refl f.order h
said_reads p key.Hook args line f h = plainly p key.Hook args line refl f.order h
said_reads p key.Put args line f h = let e = f.built in cc
said_reads p key.Del args line f h = let e = f.built in cc
said_reads p key.Look args line f h = let e = f.built in cc
said_reads p key.From args line f h = let e = f.built in cc
said_reads p key.Snap args line f h = let e = f.built in cc
said_reads p key.Share args line f h = let e = f.built in cc

word_reads : (p : Standing) (word : List ℕ) (args : Row) (line : Line) → said_at p (keyword_of word) args ≡ Ok line → Reads p (word ∷ args) line
word_reads p word args line h = at (keyword_of word) refl h where
  by : (k : Keyword) (o : Option Reason) → misplaced p k args ≡ o → unless o (said p.refs p.workers k args) ≡ Ok line → Reads p (keyword_word k ∷ args) line
  by k None e h = said_reads p k args line (no_reason (is_unbuilt k) (out_of_order p k args) (too_deep p k) (too_many p k args) e) h
  by k (Some r) e h = cc

  at : (o : Option Keyword) → keyword_of word ≡ o → said_at p o args ≡ Ok line → Reads p (word ∷ args) line
  at None e h = cc
  at (Some k) e h = subst (λ (w : List ℕ). Reads p (w ∷ args) line) (sym (keyword_is word k e)) (by k (misplaced p k args) refl h)

pub row_reads : (p : Standing) (row : Row) (line : Line) → 1 ≤ rank p.come_to → read_row p row ≡ Ok line → Reads p row line
row_reads p row line l h = at p.come_to l h where
  by : (row : Row) → read_at section.Head p row ≡ Ok line → Reads p row line
  by [] h = cc
  by (word ∷ args) h = word_reads p word args line h

  at : (c : Section) → 1 ≤ rank c → read_at c p row ≡ Ok line → Reads p row line
  at section.Start l h = absurd (omega arith)
  at section.Head l h = by row h
  at section.Refs l h = by row h
  at section.Openings l h = by row h
  at section.Workers l h = by row h
  at section.Steps l h = by row h
