-- Metadata words and their fields.
use Rattle.std.proofs.Common.{◌≡◌, ℕ, ◌+◌, ◌*◌, ◌/◌, ◌%◌, ◌^◌, ◌<◌, Bool, true, false, not, eqb, ap, ◌∙◌, sym, arith}
use Rattle.std.specs.Int.{bit_not, from_bool, w64}
use Rattle.std.specs.Int.Bits.{bit_and, bit_or, or_lt}
use Rattle.std.proofs.lemmas.Nat.{or_shifted, and_comm, and_le_l, and-not, and_mask}
use Rattle.meta_word.specs.declared.meta.Meta.{Meta}
use Rattle.meta_word.specs.declared.meta.TheConstants.{CHANGING_BIT, MAX_OWNER, MAX_VERSION, OWNER_AND_CHANGING_BITS, PENDING_BIT}
use Rattle.meta_word.specs.Meta.{MetaFits, meta_of, meta_word}
use Rattle.meta_word.proofs.BitLemmas.{from_bool_below, truth_of_number, number_of_truth, mask_tests_bit, or_bit, and_bit_and_run}

-- ---- words as sums

-- the fields of a sum
changing_of : (c p o v : ℕ) → c < 2 → p < 2 → o < 2 ^ 11 → v < 2 ^ 51 → (2 ^ 63 * c + 2 ^ 62 * p + 2 ^ 51 * o + v) / 2 ^ 63 % 2 ≡ c
changing_of c p o v hc hp ho hv = omega arith

pending_of : (c p o v : ℕ) → c < 2 → p < 2 → o < 2 ^ 11 → v < 2 ^ 51 → (2 ^ 63 * c + 2 ^ 62 * p + 2 ^ 51 * o + v) / 2 ^ 62 % 2 ≡ p
pending_of c p o v hc hp ho hv = omega arith

owner_of : (c p o v : ℕ) → c < 2 → p < 2 → o < 2 ^ 11 → v < 2 ^ 51 → (2 ^ 63 * c + 2 ^ 62 * p + 2 ^ 51 * o + v) / 2 ^ 51 % 2 ^ 11 ≡ o
owner_of c p o v hc hp ho hv = omega arith

version_of : (c p o v : ℕ) → c < 2 → p < 2 → o < 2 ^ 11 → v < 2 ^ 51 → (2 ^ 63 * c + 2 ^ 62 * p + 2 ^ 51 * o + v) % 2 ^ 51 ≡ v
version_of c p o v hc hp ho hv = omega arith

-- the sum of a word's fields is the word
sum_of : (w : ℕ) → w < 2 ^ 64 → 2 ^ 63 * (w / 2 ^ 63 % 2) + 2 ^ 62 * (w / 2 ^ 62 % 2) + 2 ^ 51 * (w / 2 ^ 51 % 2 ^ 11) + w % 2 ^ 51 ≡ w
sum_of w h = omega arith

-- fields that are each the same are the same
same_fields : (c c' p p' : Bool) (o o' v v' : ℕ) → c ≡ c' → p ≡ p' → o ≡ o' → v ≡ v'
    → (let m : Meta = record { changing = c; pending = p; owner = o; version = v } in m) ≡ record { changing = c'; pending = p'; owner = o'; version = v' }
same_fields c c' p p' o o' v v' hc hp ho hv = cc

-- ---- words and fields

pub meta_word_below : (meta : Meta) → MetaFits meta → meta_word meta < 2 ^ 64
unfolding meta_word
meta_word_below meta fits = let c = from_bool_below meta.changing in let p = from_bool_below meta.pending in omega arith

pub meta_of-fits : (word : ℕ) → MetaFits (meta_of word)
unfolding meta_of
meta_of-fits word = record { owner = omega arith; version = omega arith }

pub meta_of-meta_word : (meta : Meta) → MetaFits meta → meta_of (meta_word meta) ≡ meta
unfolding meta_of meta_word
meta_of-meta_word meta fits =
    let c : ℕ = from_bool meta.changing in
    let p : ℕ = from_bool meta.pending in
    let hc : c < 2 = from_bool_below meta.changing in
    let hp : p < 2 = from_bool_below meta.pending in
    let ho : meta.owner < 2 ^ 11 = omega arith in
    let hv : meta.version < 2 ^ 51 = omega arith in
    same_fields _ meta.changing _ meta.pending _ meta.owner _ meta.version
    (ap (λ (x : ℕ). eqb x 1) (changing_of c p meta.owner meta.version hc hp ho hv) ∙ truth_of_number meta.changing)
    (ap (λ (x : ℕ). eqb x 1) (pending_of c p meta.owner meta.version hc hp ho hv) ∙ truth_of_number meta.pending)
    (owner_of c p meta.owner meta.version hc hp ho hv)
    (version_of c p meta.owner meta.version hc hp ho hv)

pub meta_word-meta_of : (word : ℕ) → word < 2 ^ 64 → meta_word (meta_of word) ≡ word
unfolding meta_of meta_word
meta_word-meta_of word h =
    let c = number_of_truth (word / 2 ^ 63 % 2) (omega arith) in
    let p = number_of_truth (word / 2 ^ 62 % 2) (omega arith) in
    omega (arith, c, p, sum_of word h)

-- ---- setting a bit

set_changing : (w s : ℕ) → w < 2 ^ 64 → s + (w / 2 ^ 63 % 2) * 2 ^ 63 ≡ w + 2 ^ 63
    → (s / 2 ^ 63 % 2 ≡ 1) × (s / 2 ^ 62 % 2 ≡ w / 2 ^ 62 % 2) × (s / 2 ^ 51 % 2 ^ 11 ≡ w / 2 ^ 51 % 2 ^ 11) × (s % 2 ^ 51 ≡ w % 2 ^ 51)
set_changing w s h e = (omega arith, omega arith, omega arith, omega arith)

set_pending : (w s : ℕ) → w < 2 ^ 64 → s + (w / 2 ^ 62 % 2) * 2 ^ 62 ≡ w + 2 ^ 62
    → (s / 2 ^ 63 % 2 ≡ w / 2 ^ 63 % 2) × (s / 2 ^ 62 % 2 ≡ 1) × (s / 2 ^ 51 % 2 ^ 11 ≡ w / 2 ^ 51 % 2 ^ 11) × (s % 2 ^ 51 ≡ w % 2 ^ 51)
set_pending w s h e = (omega arith, omega arith, omega arith, omega arith)

pub meta_of-or_changing : (word : ℕ) → word < 2 ^ 64 → meta_of (bit_or word CHANGING_BIT) ≡ record (meta_of word) { changing = true }
unfolding meta_of
meta_of-or_changing word h =
    let s = set_changing word (bit_or word CHANGING_BIT) h (or_bit word 63) in
    same_fields _ true _ _ _ _ _ _ (ap (λ (x : ℕ). eqb x 1) s.0) (ap (λ (x : ℕ). eqb x 1) s.1) s.2 s.3

pub meta_of-or_pending : (word : ℕ) → word < 2 ^ 64 → meta_of (bit_or word PENDING_BIT) ≡ record (meta_of word) { pending = true }
unfolding meta_of
meta_of-or_pending word h =
    let s = set_pending word (bit_or word PENDING_BIT) h (or_bit word 62) in
    same_fields _ _ _ true _ _ _ _ (ap (λ (x : ℕ). eqb x 1) s.0) (ap (λ (x : ℕ). eqb x 1) s.1) s.2 s.3

-- ---- clearing owner and changing

-- these bits of a word
kept_bits : (w : ℕ) → w < 2 ^ 64 → bit_and OWNER_AND_CHANGING_BITS w ≡ 2 ^ 63 * (w / 2 ^ 63 % 2) + 2 ^ 51 * (w / 2 ^ 51 % 2 ^ 11)
kept_bits w h =
    let b : ℕ = w / 2 ^ 63 in
    let r : ℕ = w % 2 ^ 63 in
    let whole : w ≡ b * 2 ^ 63 + r = omega arith in
    ap (λ (x : ℕ). bit_and OWNER_AND_CHANGING_BITS x) whole
    ∙ and_bit_and_run 63 11 51 b r (omega arith) (omega arith) (omega arith)
    ∙ omega arith

cleared : (w s : ℕ) → w < 2 ^ 64 → s + (2 ^ 63 * (w / 2 ^ 63 % 2) + 2 ^ 51 * (w / 2 ^ 51 % 2 ^ 11)) ≡ w
    → (s / 2 ^ 63 % 2 ≡ 0) × (s / 2 ^ 62 % 2 ≡ w / 2 ^ 62 % 2) × (s / 2 ^ 51 % 2 ^ 11 ≡ 0) × (s % 2 ^ 51 ≡ w % 2 ^ 51)
cleared w s h e = (omega arith, omega arith, omega arith, omega arith)

pub meta_of-cleared : (word : ℕ) → word < 2 ^ 64
    → meta_of (bit_and word (bit_not w64 OWNER_AND_CHANGING_BITS)) ≡ record (meta_of word) { changing = false; owner = 0 }
unfolding meta_of
meta_of-cleared word h =
    let left : ℕ = bit_and word (bit_not w64 OWNER_AND_CHANGING_BITS) in
    let s = cleared word left h whole in
    same_fields _ false _ _ _ 0 _ _ (ap (λ (x : ℕ). eqb x 1) s.0) (ap (λ (x : ℕ). eqb x 1) s.1) s.2 s.3
  where
    whole : bit_and word (bit_not w64 OWNER_AND_CHANGING_BITS) + (2 ^ 63 * (word / 2 ^ 63 % 2) + 2 ^ 51 * (word / 2 ^ 51 % 2 ^ 11)) ≡ word
    whole =
        ap (λ (x : ℕ). x + (2 ^ 63 * (word / 2 ^ 63 % 2) + 2 ^ 51 * (word / 2 ^ 51 % 2 ^ 11)))
        (and_comm word (bit_not w64 OWNER_AND_CHANGING_BITS))
        ∙ ap (λ (x : ℕ). bit_and (bit_not w64 OWNER_AND_CHANGING_BITS) word + x) (sym (kept_bits word h))
        ∙ and-not 64 OWNER_AND_CHANGING_BITS word (omega arith) h

-- ---- the same of packed words

-- a word with these fields is their word
word_of : (word : ℕ) (meta : Meta) → word < 2 ^ 64 → meta_of word ≡ meta → word ≡ meta_word meta
word_of word meta h e = sym (meta_word-meta_of word h) ∙ ap meta_word e

pub or_changing-meta_word : (meta : Meta) → MetaFits meta → bit_or (meta_word meta) CHANGING_BIT ≡ meta_word (record meta { changing = true })
or_changing-meta_word meta fits =
    word_of (bit_or (meta_word meta) CHANGING_BIT) (record meta { changing = true })
    (or_lt 64 (meta_word meta) CHANGING_BIT (meta_word_below meta fits) (omega arith))
    (meta_of-or_changing (meta_word meta) (meta_word_below meta fits)
    ∙ ap (λ (m : Meta). record m { changing = true }) (meta_of-meta_word meta fits))

pub or_pending-meta_word : (meta : Meta) → MetaFits meta → bit_or (meta_word meta) PENDING_BIT ≡ meta_word (record meta { pending = true })
or_pending-meta_word meta fits =
    word_of (bit_or (meta_word meta) PENDING_BIT) (record meta { pending = true })
    (or_lt 64 (meta_word meta) PENDING_BIT (meta_word_below meta fits) (omega arith))
    (meta_of-or_pending (meta_word meta) (meta_word_below meta fits)
    ∙ ap (λ (m : Meta). record m { pending = true }) (meta_of-meta_word meta fits))

pub cleared-meta_word : (meta : Meta) → MetaFits meta
    → bit_and (meta_word meta) (bit_not w64 OWNER_AND_CHANGING_BITS) ≡ meta_word (record meta { changing = false; owner = 0 })
cleared-meta_word meta fits =
    let below : meta_word meta < 2 ^ 64 = meta_word_below meta fits in
    let less = and_le_l (meta_word meta) (bit_not w64 OWNER_AND_CHANGING_BITS) in
    word_of (bit_and (meta_word meta) (bit_not w64 OWNER_AND_CHANGING_BITS)) (record meta { changing = false; owner = 0 })
    (omega (arith, less))
    (meta_of-cleared (meta_word meta) below
    ∙ ap (λ (m : Meta). record m { changing = false; owner = 0 }) (meta_of-meta_word meta fits))

-- ---- packing and unpacking

-- numbers shifted to their places make their sum
or_of_fields : (c p o v : ℕ) → c < 2 → p < 2 → o < 2 ^ 11 → v < 2 ^ 51
    → bit_or (bit_or (bit_or (c * 2 ^ 63 % 2 ^ 64) (p * 2 ^ 62 % 2 ^ 64)) (o * 2 ^ 51 % 2 ^ 64)) v ≡ 2 ^ 63 * c + 2 ^ 62 * p + 2 ^ 51 * o + v
or_of_fields c p o v hc hp ho hv =
    let bits : ℕ = 2 * c + p in
    let upper : bit_or (c * 2 ^ 63) (p * 2 ^ 62) ≡ bits * 2 ^ 62 = or_shifted c 63 (p * 2 ^ 62) (omega arith) ∙ omega arith in
    let high : bit_or (bits * 2 ^ 62) (o * 2 ^ 51) ≡ (bits * 2 ^ 11 + o) * 2 ^ 51 = or_shifted bits 62 (o * 2 ^ 51) (omega arith) ∙ omega arith in
    let c_fits : c * 2 ^ 63 % 2 ^ 64 ≡ c * 2 ^ 63 = omega arith in
    let p_fits : p * 2 ^ 62 % 2 ^ 64 ≡ p * 2 ^ 62 = omega arith in
    let o_fits : o * 2 ^ 51 % 2 ^ 64 ≡ o * 2 ^ 51 = omega arith in
    rw (c_fits, p_fits, o_fits, upper, high, or_shifted (bits * 2 ^ 11 + o) 51 v hv) (omega arith)

-- fields shifted to their places make their word
pub packed_fields : (meta : Meta) → MetaFits meta
    → bit_or (bit_or (bit_or (from_bool meta.changing * 2 ^ 63 % 2 ^ 64) (from_bool meta.pending * 2 ^ 62 % 2 ^ 64)) (meta.owner * 2 ^ 51 % 2 ^ 64)) meta.version
    ≡ meta_word meta
unfolding meta_word
packed_fields meta fits =
    or_of_fields (from_bool meta.changing) (from_bool meta.pending) meta.owner meta.version
    (from_bool_below meta.changing) (from_bool_below meta.pending) (omega arith) (omega arith)

-- masked bits are the word's fields
pub masked_fields : (word : ℕ)
    → (let m : Meta = record {
      changing = not (eqb (bit_and word CHANGING_BIT) 0);
      pending = not (eqb (bit_and word PENDING_BIT) 0);
      owner = bit_and (word / 2 ^ 51) MAX_OWNER;
      version = bit_and word MAX_VERSION;
    } in m) ≡ meta_of word
unfolding meta_of
masked_fields word =
    same_fields _ _ _ _ _ _ _ _ (mask_tests_bit word 63) (mask_tests_bit word 62) (and_mask (word / 2 ^ 51) 11) (and_mask word 51)
