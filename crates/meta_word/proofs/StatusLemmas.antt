-- Status words and their fields.
use Rattle.std.proofs.Common.{◌≡◌, ℕ, zero, suc, ◌+◌, ◌-◌, ◌*◌, ◌/◌, ◌%◌, ◌^◌, ◌<◌, refl, ap, ◌∙◌, arith}
use Rattle.std.specs.Int.Bits.{bit_and, bit_or}
use Rattle.std.proofs.lemmas.Nat.{or_shifted, and_mask}
use Rattle.meta_word.specs.declared.status.Phase.{Phase}
use Rattle.meta_word.specs.declared.status.Phase.TheVariants.{Idle, Active, Preparing, Doomed}
use Rattle.meta_word.specs.declared.status.TxnStatus.{TxnStatus}
use Rattle.meta_word.specs.Status.{StatusFits, phase_number, phase_of, status_of, status_word}

pub phase_number_below : (phase : Phase) → phase_number phase < 4
phase_number_below Idle = omega arith
phase_number_below Active = omega arith
phase_number_below Preparing = omega arith
phase_number_below Doomed = omega arith

phase_of-phase_number : (phase : Phase) → phase_of (phase_number phase) ≡ phase
phase_of-phase_number Idle = refl
phase_of-phase_number Active = refl
phase_of-phase_number Preparing = refl
phase_of-phase_number Doomed = refl

phase_number-phase_of : (n : ℕ) → n < 4 → phase_number (phase_of n) ≡ n
phase_number-phase_of zero h = refl
phase_number-phase_of (suc zero) h = refl
phase_number-phase_of (suc (suc zero)) h = refl
phase_number-phase_of (suc (suc (suc zero))) h = refl
phase_number-phase_of (suc (suc (suc (suc n)))) h = absurd (omega arith)

same_fields : (s s' : ℕ) (p p' : Phase) → s ≡ s' → p ≡ p'
    → (let t : TxnStatus = record { serial = s; phase = p } in t) ≡ record { serial = s'; phase = p' }
same_fields s s' p p' hs hp = cc

pub status_word_below : (status : TxnStatus) → StatusFits status → status_word status < 2 ^ 64
unfolding status_word
status_word_below status fits = let p = phase_number_below status.phase in omega arith

pub status_of-fits : (word : ℕ) → word < 2 ^ 64 → StatusFits (status_of word)
unfolding status_of
status_of-fits word h = record { serial = omega arith }

pub status_of-status_word : (status : TxnStatus) → StatusFits status → status_of (status_word status) ≡ status
unfolding status_of status_word
status_of-status_word status fits =
    let n : ℕ = phase_number status.phase in
    let below : n < 4 = phase_number_below status.phase in
    same_fields _ status.serial _ status.phase (omega arith)
    (ap phase_of (let e : (2 ^ 2 * status.serial + n) % 2 ^ 2 ≡ n = omega arith in e) ∙ phase_of-phase_number status.phase)

pub status_word-status_of : (word : ℕ) → word < 2 ^ 64 → status_word (status_of word) ≡ word
unfolding status_of status_word
status_word-status_of word h = let p = phase_number-phase_of (word % 2 ^ 2) (omega arith) in omega (arith, p)

-- ---- packing and unpacking

pub packed_fields : (status : TxnStatus) → StatusFits status → bit_or (status.serial * 2 ^ 2 % 2 ^ 64) (phase_number status.phase) ≡ status_word status
unfolding status_word
packed_fields status fits =
    let below : phase_number status.phase < 2 ^ 2 = phase_number_below status.phase in
    ap (λ (x : ℕ). bit_or x (phase_number status.phase)) (let e : status.serial * 2 ^ 2 % 2 ^ 64 ≡ status.serial * 2 ^ 2 = omega arith in e)
    ∙ or_shifted status.serial 2 (phase_number status.phase) below
    ∙ omega arith

-- shifted and masked bits are the word's fields
pub masked_fields : (word : ℕ) → (let t : TxnStatus = record { serial = word / 2 ^ 2; phase = phase_of (bit_and word (2 ^ 2 - 1)) } in t) ≡ status_of word
unfolding status_of
masked_fields word = ap (λ (x : ℕ). let t : TxnStatus = record { serial = word / 2 ^ 2; phase = phase_of x } in t) (and_mask word 2)
