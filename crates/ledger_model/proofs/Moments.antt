-- Moments of a run whose numbers are words, and what each single change makes of them.
use Rattle.std.proofs.Common.{◌<◌, ◌≤◌, ◌^◌, ℕ, zero, suc, Bool, true, false, cond, IsTrue, ◌&&◌, List, [], ◌∷◌, length, drop, filter, reverse, nat_le, nat_lt, nat_eq, slice_set, refl, sym, subst, arith}
use Rattle.std.specs.Prelude.{Some, unwrap_or}
use Rattle.std.proofs.lemmas.Grind.{reverse_onto}
use Rattle.std.specs.List.{AllByRecursion}
use Rattle.std.specs.declared.cmp.Ordering.TheVariants.{Less, Equal, Greater}
use Rattle.std.specs.Ordering.{match_ordering}
use Rattle.std.proofs.lemmas.Bool.Decides.{nat_tests}
use Rattle.text_lines.proofs.Lists.{AllByRecursion-append}
use Rattle.stm_model.specs.declared.cause.HookPhase.{HookPhase}
use Rattle.stm_model.specs.Handlers.{is_undoing, undoing}
use Rattle.ledger_model.specs.declared.job.Contents.{Contents}
use Rattle.ledger_model.specs.declared.script.Operand.{Operand}
use Rattle.ledger_model.specs.declared.script.Operand.TheVariants.{Reg, Number}
use Rattle.ledger_model.specs.declared.script.Statement.{Statement}
use Rattle.ledger_model.specs.Fits.{Places, block_fits, is_code, nests, operand_fits}
use Rattle.ledger_model.specs.Limits.{most_code}
use Rattle.ledger_model.specs.Maps.{delete_pair, put_pair, value_at}
use Rattle.ledger_model.specs.Run.{State, undone, value_of, ref_at, map_at, slot_at, set_register, set_ref, set_map, set_slot, printed, registered, registered_late, allowed}
use Rattle.ledger_model.specs.Words.{ArePairsOfWords, HaveWords, HoldsWords, IsWord, RunsOnWords}
use Rattle.ledger_model.proofs.MapLemmas.{All-at, All-set}

-- ---- lists

All-filter : {X : Type 0} (P : X → Type 0) (keep : X → Bool) (list : List X) → AllByRecursion P list → AllByRecursion P (filter keep list)
All-filter P keep [] h = h
All-filter P keep (x ∷ list) h = by (keep x) (All-filter P keep list h.1) where
  by : (kept : Bool) → AllByRecursion P (filter keep list) → AllByRecursion P (cond kept (x ∷ filter keep list) (filter keep list))
  by true more = (h.0, more)
  by false more = more

All-drop : {X : Type 0} (P : X → Type 0) (n : ℕ) (list : List X) → AllByRecursion P list → AllByRecursion P (drop n list)
All-drop P zero list h = h
All-drop P (suc n) [] h = h
All-drop P (suc n) (x ∷ list) h = All-drop P n list h.1

All-reverse : {X : Type 0} (P : X → Type 0) (list : List X) → AllByRecursion P list → AllByRecursion P (reverse list)
All-reverse P [] h = h
All-reverse P (x ∷ list) h =
    subst (λ backwards. AllByRecursion P backwards) (sym (reverse_onto list x [])) (AllByRecursion-append P (reverse list) (x ∷ []) (All-reverse P list h.1) (h.0, tt))

pub undoing_words : (hooks : List (HookPhase × ℕ)) → HaveWords hooks → HaveWords (undoing hooks)
undoing_words hooks h =
    All-reverse (λ hook. IsWord hook.1) (filter (λ hook. is_undoing hook.0) hooks) (All-filter (λ hook. IsWord hook.1) (λ hook. is_undoing hook.0) hooks h)

-- ---- pairs

pub put_words : (key value : ℕ) (pairs : List (ℕ × ℕ)) → IsWord key → IsWord value → ArePairsOfWords pairs → ArePairsOfWords (put_pair key value pairs)
put_words key value [] k v h = ((k, v), tt)
put_words key value (p ∷ pairs) k v h = by (nat_lt key p.0) (nat_eq key p.0) (put_words key value pairs k v h.1) where
  by : (first same : Bool) → ArePairsOfWords (put_pair key value pairs)
      → ArePairsOfWords (match_ordering (cond first Less (cond same Equal Greater)) ((key, value) ∷ p ∷ pairs) ((p.0, value) ∷ pairs) (p ∷ put_pair key value pairs))
  by true same more = ((k, v), h)
  by false true more = ((h.0.0, v), h.1)
  by false false more = (h.0, more)

pub delete_words : (key : ℕ) (pairs : List (ℕ × ℕ)) → ArePairsOfWords pairs → ArePairsOfWords (delete_pair key pairs)
delete_words key [] h = h
delete_words key (p ∷ pairs) h = by (nat_eq key p.0) (delete_words key pairs h.1) where
  by : (same : Bool) → ArePairsOfWords (delete_pair key pairs) → ArePairsOfWords (cond same pairs (p ∷ delete_pair key pairs))
  by true more = h.1
  by false more = (h.0, more)

pub found_word : (key other : ℕ) (pairs : List (ℕ × ℕ)) → IsWord other → ArePairsOfWords pairs → IsWord (unwrap_or (value_at key pairs) other)
found_word key other [] o h = o
found_word key other (p ∷ pairs) o h = by (nat_eq key p.0) (found_word key other pairs o h.1) where
  by : (same : Bool) → IsWord (unwrap_or (value_at key pairs) other) → IsWord (unwrap_or (cond same (Some p.1) (value_at key pairs)) other)
  by true more = h.0.1
  by false more = more

-- ---- tests

pub both : (a b : Bool) → IsTrue (a && b) → IsTrue a × IsTrue b
both true b h = (refl, h)
both false b h = cc

pub below : (n limit : ℕ) → IsTrue (nat_lt n limit) → n < limit
below n limit h = grind (arith, nat_tests)

at_most : (n limit : ℕ) → IsTrue (nat_le n limit) → n ≤ limit
at_most n limit h = grind (arith, nat_tests)

pub code_word : (code : ℕ) → IsTrue (is_code code) → IsWord code
code_word code h = let no_more = at_most code most_code (both (nat_le 1 code) (nat_le code most_code) h).1 in omega (arith, no_more)

-- what fits one level deeper fits some level
pub nests_inside : (left : ℕ) (inside : ℕ → Bool) → IsTrue (nests left inside) → (less : ℕ) × IsTrue (inside less)
nests_inside zero inside h = cc
nests_inside (suc left) inside h = (left, h)

-- ---- moments

-- a before-commit body whose statements fit
abbrev pub FitsLate : Places → List Statement → Type 0
FitsLate p body = (left : ℕ) × IsTrue (block_fits p left body)

-- a moment of words, whose before-commit bodies fit
pub record Moment (p : Places) (s : State) : Type 0 where
  pub words : RunsOnWords s
  pub lates : AllByRecursion (FitsLate p) s.lates

module _ (p : Places) where
  pub register : (r n : ℕ) (s : State) → IsWord n → Moment p s → Moment p (set_register r n s)
  register r n s word h =
      let w = h.words in
      record {
        words = record { registers = All-set IsWord s.registers r n w.registers word; contents = w.contents; prints = w.prints; trail = w.trail; hooks = w.hooks; runs = w.runs };
        lates = h.lates;
      }

  -- with other contents
  holding : (contents : Contents) (wrote : Bool) (s : State) → HoldsWords contents → Moment p s → Moment p (record s { contents = contents; wrote = wrote })
  holding contents wrote s words h =
      let w = h.words in
      record { words = record { registers = w.registers; contents = words; prints = w.prints; trail = w.trail; hooks = w.hooks; runs = w.runs }; lates = h.lates }

  pub ref : (cell n : ℕ) (s : State) → IsWord n → Moment p s → Moment p (set_ref cell n s)
  ref cell n s word h =
      let c = h.words.contents in
      holding (record s.contents { refs = slice_set s.contents.refs cell n }) true s (record { refs = All-set IsWord s.contents.refs cell n c.refs word; maps = c.maps; slots = c.slots }) h

  pub pairs : (m : ℕ) (list : List (ℕ × ℕ)) (s : State) → ArePairsOfWords list → Moment p s → Moment p (set_map m list s)
  pairs m list s words h =
      let c = h.words.contents in
      holding (record s.contents { maps = slice_set s.contents.maps m list }) true s (record { refs = c.refs; maps = All-set ArePairsOfWords s.contents.maps m list c.maps words; slots = c.slots }) h

  pub slot : (k : ℕ) (list : List (ℕ × ℕ)) (s : State) → ArePairsOfWords list → Moment p s → Moment p (set_slot k list s)
  slot k list s words h =
      let c = h.words.contents in
      holding (record s.contents { slots = slice_set s.contents.slots k list }) true s (record { refs = c.refs; maps = c.maps; slots = All-set ArePairsOfWords s.contents.slots k list c.slots words }) h

  pub allow : (n : ℕ) (s : State) → Moment p s → Moment p (allowed n s)
  allow n s h =
      let w = h.words in
      record { words = record { registers = w.registers; contents = w.contents; prints = w.prints; trail = w.trail; hooks = w.hooks; runs = w.runs }; lates = h.lates }

  pub print : (n : ℕ) (s : State) → IsWord n → Moment p s → Moment p (printed n s)
  print n s word h =
      let w = h.words in
      record {
        words = record {
          registers = w.registers;
          contents = w.contents;
          prints = AllByRecursion-append IsWord s.prints (n ∷ []) w.prints (word, tt);
          trail = AllByRecursion-append IsWord s.trail (n ∷ []) w.trail (word, tt);
          hooks = w.hooks;
          runs = w.runs;
        };
        lates = h.lates;
      }

  pub hook : (phase : HookPhase) (token : ℕ) (s : State) → IsWord token → Moment p s → Moment p (registered phase token s)
  hook phase token s word h =
      let w = h.words in
      record {
        words = record {
          registers = w.registers;
          contents = w.contents;
          prints = w.prints;
          trail = w.trail;
          hooks = AllByRecursion-append (λ hook. IsWord hook.1) s.hooks ((phase, token) ∷ []) w.hooks (word, tt);
          runs = w.runs;
        };
        lates = h.lates;
      }

  pub late : (body : List Statement) (s : State) → FitsLate p body → Moment p s → Moment p (registered_late body s)
  late body s fit h =
      let w = h.words in
      record {
        words = record { registers = w.registers; contents = w.contents; prints = w.prints; trail = w.trail; hooks = w.hooks; runs = w.runs };
        lates = AllByRecursion-append (FitsLate p) s.lates (body ∷ []) h.lates (fit, tt);
      }

  pub back : (s t : State) → Moment p s → Moment p t → Moment p (undone s t)
  back s t h g =
      let w = h.words in
      let v = g.words in
      let own : List (HookPhase × ℕ) = drop (length s.hooks) t.hooks in
      record {
        words = record {
          registers = w.registers;
          contents = w.contents;
          prints = w.prints;
          trail = v.trail;
          hooks = w.hooks;
          runs =
              AllByRecursion-append (λ hook. IsWord hook.1) t.runs (undoing own) v.runs (undoing_words own (All-drop (λ hook. IsWord hook.1) (length s.hooks) t.hooks v.hooks));
        };
        lates = h.lates;
      }

  -- ---- values

  pub value : (x : Operand) (s : State) → IsTrue (operand_fits x) → Moment p s → IsWord (value_of x s)
  value (Reg r) s fit h = All-at IsWord s.registers r 0 h.words.registers (omega arith)
  value (Number n) s fit h = below n (2 ^ 64) fit

  pub ref_word : (cell : ℕ) (s : State) → Moment p s → IsWord (ref_at cell s)
  ref_word cell s h = All-at IsWord s.contents.refs cell 0 h.words.contents.refs (omega arith)

  pub map_words : (m : ℕ) (s : State) → Moment p s → ArePairsOfWords (map_at m s)
  map_words m s h = All-at ArePairsOfWords s.contents.maps m [] h.words.contents.maps tt

  pub slot_words : (k : ℕ) (s : State) → Moment p s → ArePairsOfWords (slot_at k s)
  slot_words k s h = All-at ArePairsOfWords s.contents.slots k [] h.words.contents.slots tt
