-- A block within the limits asks only what may be asked.
use Rattle.std.proofs.Common.{◌≡◌, ◌<◌, ◌≤◌, ◌+◌, ◌-◌, ◌^◌, ◌%◌, ℕ, zero, suc, Bool, true, false, IsTrue, if◌then◌else◌, ◌&&◌, List, [], ◌∷◌, ◌++◌, length, map, nat_le, nat_lt, slice_index, refl, sym, subst, arith, length-append}
use Rattle.std.specs.Prelude.{sum, sum_by}
use Rattle.std.proofs.lemmas.List.Sums.{sum_by-cons}
use Rattle.stm_model.specs.Accesses.{addr_of}
use Rattle.stm_model.specs.Refusing.{deepest}
use Rattle.stm_model.specs.declared.access.Ask.TheVariants as ask
use Rattle.ledger_model.specs.declared.script.Statement.{Statement}
use Rattle.ledger_model.specs.declared.script.Statement.TheOpen.{Statement-F}
use Rattle.ledger_model.specs.declared.script.Statement.TheOpen as layer
use Rattle.ledger_model.specs.declared.script.Statement.TheFolds.{map-Statement, fold-roll-Statement, ind-Statement}
use Rattle.ledger_model.specs.declared.script.Statement.TheViews.{roll-Statement}
use Rattle.ledger_model.specs.Allowed.{IsAllowed}
use Rattle.ledger_model.specs.Fits.{Places, block_fits, each_fits, each_part_fits, fits, fits_step, fits_word, is_code, is_register, nests, operand_fits}
use Rattle.ledger_model.specs.Run.{End, Kept, Failed, Retried, count_step, statement_count}
use Rattle.ledger_model.specs.Talk.{Talk, Own, Next, Part, Spoken, adding, all_of, back_to, block_part, catching, closed, first_of_them, if_kept, if_retried, level, moving, part_by, spoken, talk, tells, value_in, with_register}
use Rattle.ledger_model.specs.Words.{IsWord}
use Rattle.ledger_model.proofs.Carried.{size, sum_map, sum_parts}
use Rattle.ledger_model.proofs.Meaning.{itself_spoken, says-roll}
use Rattle.ledger_model.proofs.Moments.{both, below, code_word}
use Rattle.ledger_model.proofs.Standing.{Frame, Stands, behind, footing, inside, waiting_turn}
use Rattle.ledger_model.proofs.Standing as standing
use Rattle.ledger_model.proofs.WordLemmas.{EndFits}

-- what fits one level deeper fits with fewer levels left
fewer_left : (left : ℕ) (deeper : ℕ → Bool) → IsTrue (nests left deeper) → (less : ℕ) × (less < left) × IsTrue (deeper less)
fewer_left zero deeper h = cc
fewer_left (suc left) deeper h = (left, omega arith, h)

module _ (p : Places) where
  -- ---- parts

  -- All that this talk asks here may be asked.
  abbrev pub May : Frame → Own → Talk → Type 0
  May f s talk = IsAllowed p.refs (footing f s) talk

  -- However a part has ended, with so much room for what waits, what comes next may be asked.
  abbrev pub MayFollow : Frame → ℕ → Next → Type 0
  MayFollow f room next = (end : End) (s : Own) → EndFits end → Stands p f room s → May f s (next end s)

  -- With so many levels left the part of so many statements may be asked, where what comes next may be.
  abbrev pub MayCome : ℕ → ℕ → Part → Type 0
  MayCome left count part =
      (f : Frame) (room most : ℕ) (s : Own) (next : Next) → length f.saved + left ≤ deepest → room + count ≤ most → Stands p f room s → MayFollow f most next → May f s (part s next)

  kept_follows : (f : Frame) (room most : ℕ) (rest : Own → Talk) (next : Next) → room ≤ most → ((s : Own) → Stands p f room s → May f s (rest s)) → MayFollow f most next
      → MayFollow f room (if_kept rest next)
  kept_follows f room most rest next less more follows Kept s word h = more s h
  kept_follows f room most rest next less more follows (Failed code) s word h = follows (Failed code) s word (standing.wider p f room most s less h)
  kept_follows f room most rest next less more follows Retried s word h = follows Retried s word (standing.wider p f room most s less h)

  retried_follows : (f : Frame) (room most : ℕ) (other : Own → Talk) (next : Next) → room ≤ most → ((s : Own) → Stands p f room s → May f s (other s)) → MayFollow f most next
      → MayFollow f room (if_retried other next)
  retried_follows f room most other next less more follows Kept s word h = follows Kept s word (standing.wider p f room most s less h)
  retried_follows f room most other next less more follows (Failed code) s word h = follows (Failed code) s word (standing.wider p f room most s less h)
  retried_follows f room most other next less more follows Retried s word h = more s h

  catches : (f : Frame) (room r : ℕ) (next : Next) → MayFollow f room next → MayFollow f room (catching r next)
  unfolding EndFits
  catches f room r next follows Kept s word h = follows Kept (with_register r 0 s) tt (standing.sets p f room r 0 s (omega arith) h)
  catches f room r next follows (Failed code) s word h = follows Kept (with_register r code s) tt (standing.sets p f room r code s word h)
  catches f room r next follows Retried s word h = follows Retried s tt h

  -- with as many bodies as are registered
  counted : (f : Frame) (count : ℕ) (s : Own) (talk : Talk) → length s.lates ≡ count → May f s talk → IsAllowed p.refs (record { registered = count; saved = f.saved; turn = f.turn }) talk
  counted f count s talk is may = subst (λ (n : ℕ). IsAllowed p.refs (record { registered = n; saved = f.saved; turn = f.turn }) talk) is may

  closes : (f : Frame) (room most : ℕ) (s : Own) (next : Next) → Stands p f room s → MayFollow f most next → MayFollow (inside f s) most (closed s.registers (length s.lates) next)
  closes f room most s next before follows Kept t word after = (omega arith, λ answer small. follows Kept t word (standing.leaves p f room most s t before after))
  closes f room most s next before follows (Failed code) t word after =
      let back : Own = back_to s.registers (length s.lates) t in (
        omega arith,
        λ answer small. counted f (length s.lates) back (next (Failed code) back) (standing.as_many p f most s t after)
            (follows (Failed code) back word (standing.goes_back p f room most s t before after)),
      )
  closes f room most s next before follows Retried t word after =
      let back : Own = back_to s.registers (length s.lates) t in (
        omega arith,
        λ answer small. counted f (length s.lates) back (next Retried back) (standing.as_many p f most s t after)
            (follows Retried back word (standing.goes_back p f room most s t before after)),
      )

  opens : (less left count : ℕ) (block : List Spoken) → less < left → MayCome less count (all_of block) → MayCome left count (level block)
  opens less left count block fewer come f room most s next deep few h follows = (
    omega (arith, fewer, deep),
    λ answer small. come (inside f s) room most s (closed s.registers (length s.lates) next) (omega (arith, fewer, deep)) few (standing.enters p f room s h)
        (closes f room most s next h follows),
  )

  caught : (r left count : ℕ) (part : Part) → MayCome left count part → MayCome left count (λ s next. part s (catching r next))
  caught r left count part come f room most s next deep few h follows = come f room most s (catching r next) deep few h (catches f most r next follows)

  more : (left count all : ℕ) (part : Part) → count ≤ all → MayCome left count part → MayCome left all part
  more left count all part less come f room most s next deep few h follows = come f room most s next deep (omega (arith, few, less)) h follows

  -- ---- statements that have no others inside

  -- whatever room is left
  abbrev Alone : Part → Type 0
  Alone part = (f : Frame) (room : ℕ) (s : Own) (next : Next) → Stands p f room s → MayFollow f room next → May f s (part s next)

  comes : (part : Part) → Alone part → (left count : ℕ) → MayCome left count part
  comes part alone left count f room most s next deep few h follows = alone f most s next (standing.wider p f room most s (omega (arith, few)) h) follows

  by_test : (f : Frame) (s : Own) (b : Bool) (this that : Talk) → May f s this → May f s that → May f s (if b then this else that)
  by_test f s true this that h g = h
  by_test f s false this that h g = g

  adds : (into n : ℕ) → into < p.refs → IsWord n → Alone (adding into n)
  unfolding EndFits
  adds into n there word f room s next h follows = (there, λ here small. by here (nat_lt (here + n) (2 ^ 64)) refl) where
    by : (here : ℕ) (b : Bool) → nat_lt (here + n) (2 ^ 64) ≡ b
        → May f s (if b then tells (ask.Set (addr_of into) (here + n)) (next Kept s) else next (Failed 2) s)
    by here true is = ((there, below (here + n) (2 ^ 64) is), λ answer small. follows Kept s tt h)
    by here false is = follows (Failed 2) s (omega arith) h

  moves : (from into n : ℕ) → from < p.refs → into < p.refs → IsWord n → Alone (moving from into n)
  unfolding EndFits
  moves from into n there here word f room s next h follows = (
    there,
    λ value small. by_test f s (nat_lt value n) (next (Failed 1) s) (tells (ask.Set (addr_of from) (value - n)) (adding into n s next)) (follows (Failed 1) s (omega arith) h)
        ((there, omega (arith, small)), λ answer none. adds into n here word f room s next h follows),
  )

  -- ---- blocks of statements that are known to ask what may be asked

  abbrev Is : Statement → Type 0
  Is m = (left : ℕ) → IsTrue (fits p m left) → MayCome left (size m) (spoken m).says

  abbrev One : Type 0
  One = (m : Statement) × Is m

  abbrev plain : One → Statement
  plain it = it.0

  turn : (ones : List One) (left : ℕ) → IsTrue (block_fits p left (map plain ones)) → MayCome left (statement_count (map plain ones)) (all_of (map spoken (map plain ones)))
  unfolding EndFits
  turn [] left fit f room most s next deep few h follows = follows Kept s tt (standing.wider p f room most s (omega (arith, few)) h)
  turn (it ∷ ones) left fit f room most s next deep few h follows =
      let split = both (fits p it.0 left) (block_fits p left (map plain ones)) fit in
      let counts = sum_by-cons size it.0 (map plain ones) in
      let rest : Own → Talk = λ t. all_of (map spoken (map plain ones)) t next in
      it.1 left split.0 f room (room + size it.0) s (if_kept rest next) deep (omega arith) h
      (kept_follows f (room + size it.0) most rest next (omega (arith, few, counts))
      (λ t after. turn ones left split.1 f (room + size it.0) most t next deep (omega (arith, few, counts)) after follows) follows)

  first_part : (parts : List (List One)) (less left : ℕ) → less < left → IsTrue (each_part_fits less (map (map (fits p)) (map (map plain) parts)))
      → MayCome left (sum_by statement_count (map (map plain) parts)) (first_of_them (map (map spoken) (map (map plain) parts)))
  unfolding EndFits
  first_part [] less left fewer fit f room most s next deep few h follows = follows Retried s tt (standing.wider p f room most s (omega (arith, few)) h)
  first_part (part ∷ parts) less left fewer fit f room most s next deep few h follows =
      let split = both (block_fits p less (map plain part)) (each_part_fits less (map (map (fits p)) (map (map plain) parts))) fit in
      let count : ℕ = statement_count (map plain part) in
      let counts = sum_by-cons statement_count (map plain part) (map (map plain) parts) in
      let other : Own → Talk = λ t. first_of_them (map (map spoken) (map (map plain) parts)) t next in
      opens less left count (map spoken (map plain part)) fewer (turn part less split.0) f room (room + count) s (if_retried other next) deep (omega arith) h
      (retried_follows f (room + count) most other next (omega (arith, few, counts))
      (λ t after. first_part parts less left fewer split.1 f (room + count) most t next deep (omega (arith, few, counts)) after follows) follows)

  -- ---- all statements

  abbrev registering : List Statement → Part
  registering body s next = tells (ask.Later (length s.lates)) (next Kept (record s { lates = s.lates ++ body ∷ [] }))

  registers_late : (block : List Statement) (left : ℕ) → IsTrue (nests left (λ less. each_fits less (map (fits p) block)))
      → MayCome left (1 + statement_count block) (registering block)
  unfolding EndFits
  registers_late block left fit f room most s next deep few h follows =
      let less = fewer_left left (λ less. each_fits less (map (fits p) block)) fit in
      let fewer : less.0 < left = less.1 in
      let now : Own = record s { lates = s.lates ++ block ∷ [] } in
      let more = standing.registers_body p f room block s (less.0, omega (arith, fewer, deep), less.2) h in
      let longer : length now.lates ≡ suc (length s.lates) = (let c = length-append s.lates (block ∷ []) in omega (arith, c)) in
      (refl, λ answer small. counted f (suc (length s.lates)) now (next Kept now) longer (follows Kept now tt (standing.wider p f _ most now few more)))

  layers : (y : Statement-F One) (left : ℕ) → IsTrue (fits_step p (map-Statement Statement (ℕ → Bool) (fits p) (map-Statement One Statement plain y)) left)
      → MayCome left (count_step (map-Statement Statement ℕ size (map-Statement One Statement plain y))) (part_by (map-Statement Statement Spoken spoken (map-Statement One Statement plain y)))
  unfolding EndFits
  layers (layer.Const r n) left fit =
      comes (part_by (layer.Const r n)) (λ f room s next h follows.
      follows Kept (with_register r n s) tt (standing.sets p f room r n s (below n (2 ^ 64) (both (is_register r) (fits_word n) fit).1) h)) left 1
  layers (layer.Read r cell) left fit =
      comes (part_by (layer.Read r cell)) (λ f room s next h follows.
      (below cell p.refs (both (is_register r) (nat_lt cell p.refs) fit).1, λ value small. follows Kept (with_register r value s) tt (standing.sets p f room r value s small h))) left 1
  layers (layer.Write cell x) left fit =
      let split = both (nat_lt cell p.refs) (operand_fits x) fit in
      comes (part_by (layer.Write cell x)) (λ f room s next h follows.
      ((below cell p.refs split.0, standing.value p f room x s split.1 h), λ answer small. follows Kept s tt h)) left 1
  layers (layer.Add r x) left fit =
      comes (part_by (layer.Add r x)) (λ f room s next h follows.
      let n : ℕ = (slice_index s.registers r + value_in x s) % 2 ^ 64 in follows Kept (with_register r n s) tt (standing.sets p f room r n s (omega arith) h)) left 1
  layers (layer.Sub r x) left fit =
      comes (part_by (layer.Sub r x)) (λ f room s next h follows.
      let n : ℕ = (slice_index s.registers r + (2 ^ 64 - value_in x s)) % 2 ^ 64 in
      follows Kept (with_register r n s) tt (standing.sets p f room r n s (omega arith) h)) left 1
  layers (layer.Print x) left fit =
      comes (part_by (layer.Print x)) (λ f room s next h follows. (standing.value p f room x s fit h, follows Kept s tt h)) left 1
  layers (layer.Check x y code) left fit =
      comes (part_by (layer.Check x y code)) (λ f room s next h follows.
      by_test f s (nat_lt (value_in x s) (value_in y s)) (next (Failed code) s) (next Kept s)
      (follows (Failed code) s (code_word code (both (operand_fits x && operand_fits y) (is_code code) fit).1) h) (follows Kept s tt h)) left 1
  layers (layer.Need x y) left fit =
      comes (part_by (layer.Need x y)) (λ f room s next h follows.
      by_test f s (nat_lt (value_in x s) (value_in y s)) (next Retried s) (next Kept s) (follows Retried s tt h) (follows Kept s tt h)) left 1
  layers (layer.Move from into x) left fit =
      let split = both (nat_lt from p.refs && nat_lt into p.refs) (operand_fits x) fit in
      let cells = both (nat_lt from p.refs) (nat_lt into p.refs) split.0 in
      comes (part_by (layer.Move from into x)) (λ f room s next h follows.
      moves from into (value_in x s) (below from p.refs cells.0) (below into p.refs cells.1) (standing.value p f room x s split.1 h) f room s next h follows) left 1
  layers (layer.Inner r block) left fit =
      let deeper : ℕ → Bool = λ less. each_fits less (map (fits p) (map plain block)) in
      let less = fewer_left left deeper (both (is_register r) (nests left deeper) fit).1 in
      let count : ℕ = statement_count (map plain block) in
      let parts : List Spoken = map spoken (map plain block) in
      let counts = sum_map (map plain block) in
      more left count (1 + sum (map size (map plain block))) (λ s next. level parts s (catching r next)) (omega (arith, counts))
      (caught r left count (level parts) (opens less.0 left count parts less.1 (turn block less.0 less.2)))
  layers (layer.Either parts) left fit =
      let deeper : ℕ → Bool = λ less. each_part_fits less (map (map (fits p)) (map (map plain) parts)) in
      let less = fewer_left left deeper (both (nat_le 2 (length (map (map (fits p)) (map (map plain) parts)))) (nests left deeper) fit).1 in
      let counts = sum_parts (map (map plain) parts) in
      more left (sum_by statement_count (map (map plain) parts)) (1 + sum_by sum (map (map size) (map (map plain) parts))) (first_of_them (map (map spoken) (map (map plain) parts)))
      (omega (arith, counts)) (first_part parts less.0 left less.1 less.2)
  layers (layer.Late block) left fit =
      let counts = sum_map (map plain block) in
      more left (1 + statement_count (map plain block)) (1 + sum (map size (map plain block))) (registering (map (λ part. part.itself) (map spoken (map plain block)))) (omega (arith, counts))
      (subst (λ (body : List Statement). MayCome left (1 + statement_count (map plain block)) (registering body)) (sym (itself_spoken (map plain block))) (registers_late (map plain block) left fit))
  layers (layer.Hook phase token) left fit =
      comes (part_by (layer.Hook phase token)) (λ f room s next h follows. (below token (2 ^ 64) fit, λ answer small. follows Kept s tt h)) left 1
  layers _ left fit = comes (λ s next. next Kept s) (λ f room s next h follows. follows Kept s tt h) left 1

  statement : (m : Statement) → Is m
  statement = ind-Statement Is (λ x y are left fit f room most s next deep few h follows.
      let fits_here : IsTrue (fits_step p (map-Statement Statement (ℕ → Bool) (fits p) x) left) =
      subst (λ (test : ℕ → Bool). IsTrue (test left)) (fold-roll-Statement (ℕ → Bool) (fits_step p) x) fit in
      let fits_there : IsTrue (fits_step p (map-Statement Statement (ℕ → Bool) (fits p) (map-Statement One Statement plain y)) left) =
      subst (λ (z : Statement-F Statement). IsTrue (fits_step p (map-Statement Statement (ℕ → Bool) (fits p) z) left)) (sym are) fits_here in
      let done : MayCome left (count_step (map-Statement Statement ℕ size x)) (part_by (map-Statement Statement Spoken spoken x)) =
      subst (λ (z : Statement-F Statement). MayCome left (count_step (map-Statement Statement ℕ size z)) (part_by (map-Statement Statement Spoken spoken z))) are (layers y left fits_there) in
      let counts : size (roll-Statement x) ≡ count_step (map-Statement Statement ℕ size x) = fold-roll-Statement ℕ count_step x in
      subst (λ (talk : Talk). May f s talk) (sym (says-roll x s next)) (done f room most s next deep (omega (arith, few, counts)) h follows))

  pub block : (ms : List Statement) (left : ℕ) → IsTrue (block_fits p left ms) → MayCome left (statement_count ms) (block_part ms)
  unfolding EndFits
  block [] left fit f room most s next deep few h follows = follows Kept s tt (standing.wider p f room most s (omega (arith, few)) h)
  block (m ∷ ms) left fit f room most s next deep few h follows =
      let split = both (fits p m left) (block_fits p left ms) fit in
      let counts = sum_by-cons size m ms in
      let rest : Own → Talk = λ t. block_part ms t next in
      statement m left split.0 f room (room + size m) s (if_kept rest next) deep (omega arith) h
      (kept_follows f (room + size m) most rest next (omega (arith, few, counts))
      (λ t after. block ms left split.1 f (room + size m) most t next deep (omega (arith, few, counts)) after follows) follows)
