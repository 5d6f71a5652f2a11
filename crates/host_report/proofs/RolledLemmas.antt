-- The lines of attempts that were rolled back are rows of words, and tell the attempts.
use Rattle.std.proofs.Common.{◌≡◌, ℕ, ◌+◌, ◌<◌, ◌^◌, Bool, true, false, IsTrue, List, [], ◌∷◌, ◌++◌, map, length, slice_index, refl, sym, ap, ◌∙◌, append_assoc, arith, codes, decimal}
use Rattle.std.proofs.lemmas.Fmt.{decimal_injective}
use Rattle.std.specs.Char.{is_ascii_digit}
use Rattle.std.specs.List.{AllByRecursion, list_all}
use Rattle.meta_word.specs.declared.meta.Meta.{Meta}
use Rattle.meta_word.specs.declared.status.TxnStatus.{TxnStatus}
use Rattle.stm_model.specs.declared.cause.Addr.{Addr}
use Rattle.stm_model.specs.declared.cause.Cause.{Cause}
use Rattle.stm_model.specs.declared.cause.Cause.TheVariants.{ReadConflict, Moved, Stale, WriteConflict, Doomed, ClockMoved, ClockEnd, Retry, User, Full, TooDeep, AttemptsEnd, Memory}
use Rattle.text_lines.specs.Lines.{Row as Line, is_visible, is_word, AreWords}
use Rattle.text_lines.proofs.Lists.{list_all-join, AllByRecursion-append, AllByRecursion-map, heads_same, stops, front_same, map_same}
use Rattle.text_lines.proofs.NumberLemmas.{decimal_digits, decimal_word}
use Rattle.ledger_model.specs.declared.listing.Rolled.{Rolled}
use Rattle.ledger_model.specs.Report.{name_word, flag, meta_text, has_text, cause_words, trail_words, rolled_line}
use Rattle.ledger_model.specs.Reported.{ShowsDoom}
use Rattle.host_report.specs.WithinTypes.{IsWord, IsMetaWithinTypes, IsCauseWithinTypes, IsRolledWithinTypes}
use Rattle.host_report.proofs.WordLemmas.{first_byte, first_word, digits_seen, small_is_word, half_is_word, name_is_word, name_same}

-- ---- metadata words

-- the letters of the bits that are set
abbrev flags : Bool → Bool → List ℕ
flags changing pending = flag (codes "c") changing ++ flag (codes "p") pending

-- the text in its parts, one behind the other
meta_is : (m : Meta) → meta_text m ≡ 118 ∷ (decimal m.version ++ 111 ∷ (decimal m.owner ++ flags m.changing m.pending))
meta_is m =
    append_assoc (codes "v" ++ decimal m.version ++ codes "o" ++ decimal m.owner) (flag (codes "c") m.changing) (flag (codes "p") m.pending)
    ∙ append_assoc (codes "v" ++ decimal m.version ++ codes "o") (decimal m.owner) (flags m.changing m.pending)
    ∙ append_assoc (codes "v" ++ decimal m.version) (codes "o") (decimal m.owner ++ flags m.changing m.pending)

flags_seen : (c p : Bool) → list_all is_visible (flags c p) ≡ true
flags_seen true true = refl
flags_seen true false = refl
flags_seen false true = refl
flags_seen false false = refl

meta_is_word : (m : Meta) → IsMetaWithinTypes m → IsTrue (is_word (meta_text m))
meta_is_word m h =
    ap (λ (t : List ℕ). is_word t) (meta_is m)
    ∙ list_all-join is_visible (decimal m.version) (111 ∷ (decimal m.owner ++ flags m.changing m.pending)) (digits_seen m.version h.version)
    (list_all-join is_visible (decimal m.owner) (flags m.changing m.pending) (digits_seen m.owner (small_is_word m.owner h.owner)) (flags_seen m.changing m.pending))

flags_stop : (c p : Bool) → stops (λ b. is_ascii_digit b) (flags c p) ≡ true
flags_stop true true = refl
flags_stop true false = refl
flags_stop false true = refl
flags_stop false false = refl

flags_same : (c p d q : Bool) → flags c p ≡ flags d q → (c ≡ d) × (p ≡ q)
flags_same true true true true e = (refl, refl)
flags_same true false true false e = (refl, refl)
flags_same false true false true e = (refl, refl)
flags_same false false false false e = (refl, refl)
flags_same true true true false e = let t = ap length e in absurd (omega arith)
flags_same true false true true e = let t = ap length e in absurd (omega arith)
flags_same false true false false e = let t = ap length e in absurd (omega arith)
flags_same false false false true e = let t = ap length e in absurd (omega arith)
flags_same true p false true e = let t = ap first_byte e in absurd (omega arith)
flags_same true p false false e = let t = ap first_byte e in absurd (omega arith)
flags_same false true true q e = let t = ap first_byte e in absurd (omega arith)
flags_same false false true q e = let t = ap first_byte e in absurd (omega arith)

meta_by_fields : (m n : Meta) → m.changing ≡ n.changing → m.pending ≡ n.pending → m.owner ≡ n.owner → m.version ≡ n.version → m ≡ n
meta_by_fields m n c p o v = rw (c, p, o, v) refl

meta_same : (m n : Meta) → IsMetaWithinTypes m → IsMetaWithinTypes n → meta_text m ≡ meta_text n → m ≡ n
meta_same m n h k e =
    let behind = (heads_same 118 118 _ _ (sym (meta_is m) ∙ e ∙ meta_is n)).1 in
    let version = front_same (λ b. is_ascii_digit b) (decimal m.version) (decimal n.version) (111 ∷ (decimal m.owner ++ flags m.changing m.pending)) (111 ∷ (decimal n.owner ++ flags n.changing n.pending))
    (decimal_digits m.version h.version) (decimal_digits n.version k.version) refl refl behind in
    let owner = front_same (λ b. is_ascii_digit b) (decimal m.owner) (decimal n.owner) (flags m.changing m.pending) (flags n.changing n.pending)
    (decimal_digits m.owner (small_is_word m.owner h.owner)) (decimal_digits n.owner (small_is_word n.owner k.owner)) (flags_stop m.changing m.pending) (flags_stop n.changing n.pending)
    (heads_same 111 111 _ _ version.1).1 in
    let bits = flags_same m.changing m.pending n.changing n.pending owner.1 in
    meta_by_fields m n bits.0 bits.1 (decimal_injective m.owner n.owner (small_is_word m.owner h.owner) (small_is_word n.owner k.owner) owner.0)
    (decimal_injective m.version n.version h.version k.version version.0)

-- ---- causes

addr_is_word : (a : Addr) → a.0 < 2 ^ 32 → IsTrue (is_word (decimal a.0))
addr_is_word a h = decimal_word a.0 (half_is_word a.0 h)

addr_same : (a b : Addr) → a.0 < 2 ^ 32 → b.0 < 2 ^ 32 → decimal a.0 ≡ decimal b.0 → a ≡ b
addr_same a b h k e = by_number a b (decimal_injective a.0 b.0 (half_is_word a.0 h) (half_is_word b.0 k) e) where
  by_number : (a b : Addr) → a.0 ≡ b.0 → a ≡ b
  by_number a b p = rw p refl

cause_of_words : (c : Cause) → IsCauseWithinTypes c → AreWords (cause_words c)
cause_of_words (ReadConflict a m) h = (refl, (addr_is_word a h.0, (meta_is_word m h.1, tt)))
cause_of_words (Moved a m n) h = (refl, (addr_is_word a h.0, (meta_is_word m h.1, (meta_is_word n h.2, tt))))
cause_of_words (Stale a v m) h = (refl, (addr_is_word a h.0, (decimal_word v h.1, (meta_is_word m h.2, tt))))
cause_of_words (WriteConflict a m) h = (refl, (addr_is_word a h.0, (meta_is_word m h.1, tt)))
cause_of_words (Doomed s) h = (refl, (decimal_word s.serial h, tt))
cause_of_words (ClockMoved c d) h = (refl, (decimal_word c h.0, (decimal_word d h.1, tt)))
cause_of_words Retry h = (refl, tt)
cause_of_words c h = tt

-- a number that differs at causes of different kinds
abbrev kind_mark : Line → ℕ
kind_mark line = length (first_word line) + slice_index (first_word line) 1

-- the cause has a text that shows it whole
abbrev IsCauseShown : Cause → Type 0
IsCauseShown c = IsCauseWithinTypes c × (IsTrue (has_text c) × ShowsDoom c)

status_same : (s t : TxnStatus) → s.serial ≡ t.serial → s.phase ≡ t.phase → s ≡ t
status_same s t p q = rw (p, q) refl

-- a cause of another kind has no text
no_text : IsTrue false → ⊥
no_text h = cc

cause_same : (c d : Cause) (r s : Line) → IsCauseShown c → IsCauseShown d → (cause_words c ++ r) ≡ (cause_words d ++ s) → (c ≡ d) × (r ≡ s)
cause_same (ReadConflict a m) (ReadConflict b n) r s (h, ht) (k, kt) e =
    let x : decimal a.0 ≡ decimal b.0 = cc in
    let y : meta_text m ≡ meta_text n = cc in
    let v = addr_same a b h.0 k.0 x in
    let w = meta_same m n h.1 k.1 y in
    (rw (v, w) refl, cc)
cause_same (Moved a m o) (Moved b n p) r s (h, ht) (k, kt) e =
    let x : decimal a.0 ≡ decimal b.0 = cc in
    let y : meta_text m ≡ meta_text n = cc in
    let z : meta_text o ≡ meta_text p = cc in
    let u = addr_same a b h.0 k.0 x in
    let v = meta_same m n h.1 k.1 y in
    let w = meta_same o p h.2 k.2 z in
    (rw (u, v, w) refl, cc)
cause_same (Stale a i m) (Stale b j n) r s (h, ht) (k, kt) e =
    let x : decimal a.0 ≡ decimal b.0 = cc in
    let y : decimal i ≡ decimal j = cc in
    let z : meta_text m ≡ meta_text n = cc in
    let u = addr_same a b h.0 k.0 x in
    let v = decimal_injective i j h.1 k.1 y in
    let w = meta_same m n h.2 k.2 z in
    (rw (u, v, w) refl, cc)
cause_same (WriteConflict a m) (WriteConflict b n) r s (h, ht) (k, kt) e =
    let x : decimal a.0 ≡ decimal b.0 = cc in
    let y : meta_text m ≡ meta_text n = cc in
    let v = addr_same a b h.0 k.0 x in
    let w = meta_same m n h.1 k.1 y in
    (rw (v, w) refl, cc)
cause_same (Doomed t) (Doomed u) r s (h, ht) (k, kt) e =
    let x : decimal t.serial ≡ decimal u.serial = cc in
    let v = decimal_injective t.serial u.serial h k x in
    (ap Doomed (status_same t u v (ht.1 ∙ sym kt.1)), cc)
cause_same (ClockMoved i m) (ClockMoved j n) r s (h, ht) (k, kt) e =
    let x : decimal i ≡ decimal j = cc in
    let y : decimal m ≡ decimal n = cc in
    let v = decimal_injective i j h.0 k.0 x in
    let w = decimal_injective m n h.1 k.1 y in
    (rw (v, w) refl, cc)
cause_same Retry Retry r s h k e = (refl, cc)
cause_same (ClockEnd c) d r s (h, ht) k e = absurd (no_text ht.0)
cause_same (User c) d r s (h, ht) k e = absurd (no_text ht.0)
cause_same (Full c m) d r s (h, ht) k e = absurd (no_text ht.0)
cause_same (TooDeep c) d r s (h, ht) k e = absurd (no_text ht.0)
cause_same (AttemptsEnd c) d r s (h, ht) k e = absurd (no_text ht.0)
cause_same Memory d r s (h, ht) k e = absurd (no_text ht.0)
cause_same c (ClockEnd d) r s h (k, kt) e = absurd (no_text kt.0)
cause_same c (User d) r s h (k, kt) e = absurd (no_text kt.0)
cause_same c (Full d m) r s h (k, kt) e = absurd (no_text kt.0)
cause_same c (TooDeep d) r s h (k, kt) e = absurd (no_text kt.0)
cause_same c (AttemptsEnd d) r s h (k, kt) e = absurd (no_text kt.0)
cause_same c Memory r s h (k, kt) e = absurd (no_text kt.0)
cause_same c d r s h k e = let t = ap kind_mark e in absurd (omega arith)

-- ---- lines

trail_of_words : (trail : List ℕ) → AllByRecursion IsWord trail → AreWords (trail_words trail)
trail_of_words [] h = tt
trail_of_words (n ∷ trail) h = (refl, AllByRecursion-map IsWord (λ w. IsTrue (is_word w)) decimal decimal_word (n ∷ trail) h)

trail_same : (xs ys : List ℕ) → AllByRecursion IsWord xs → AllByRecursion IsWord ys → trail_words xs ≡ trail_words ys → xs ≡ ys
trail_same [] [] h k e = refl
trail_same [] (y ∷ ys) h k e = cc
trail_same (x ∷ xs) [] h k e = cc
trail_same (x ∷ xs) (y ∷ ys) h k e =
    map_same IsWord decimal decimal_injective (x ∷ xs) (y ∷ ys) h k (heads_same (codes ":") (codes ":") (map decimal (x ∷ xs)) (map decimal (y ∷ ys)) e).1

-- the line of an attempt that was rolled back is a row of words
pub rolled_line_of_words : (rolled : Rolled) → IsRolledWithinTypes rolled → AreWords (rolled_line rolled)
rolled_line_of_words rolled h = (
  refl,
  (
    name_is_word rolled.worker rolled.number h.name,
    (
      refl,
      (
        decimal_word rolled.prefix h.prefix,
        AllByRecursion-append (λ w. IsTrue (is_word w)) (cause_words rolled.cause) (trail_words rolled.trail) (cause_of_words rolled.cause h.cause) (trail_of_words rolled.trail h.trail),
      ),
    ),
  ),
)

by_fields : (a b : Rolled) → a.worker ≡ b.worker → a.number ≡ b.number → a.prefix ≡ b.prefix → a.cause ≡ b.cause → a.trail ≡ b.trail → a ≡ b
by_fields a b w n p c t = rw (w, n, p, c, t) refl

-- the attempt is within its types, and its cause has a text that shows it whole
abbrev pub IsRolledShown : Rolled → Type 0
IsRolledShown rolled = IsRolledWithinTypes rolled × (IsTrue (has_text rolled.cause) × ShowsDoom rolled.cause)

-- attempts with one line are equal
pub rolled_same : (a b : Rolled) → IsRolledShown a → IsRolledShown b → rolled_line a ≡ rolled_line b → a ≡ b
rolled_same a b (h, ht) (k, kt) e =
    let name_word_same : name_word a.worker a.number ≡ name_word b.worker b.number = cc in
    let prefix_word_same : decimal a.prefix ≡ decimal b.prefix = cc in
    let name = name_same a.worker a.number b.worker b.number h.name k.name name_word_same in
    let cause = cause_same a.cause b.cause (trail_words a.trail) (trail_words b.trail) (h.cause, ht) (k.cause, kt) (cc) in
    by_fields a b name.0 name.1 (decimal_injective a.prefix b.prefix h.prefix k.prefix prefix_word_same) cause.0 (trail_same a.trail b.trail h.trail k.trail cause.1)
