-- In a safe world the next access of an attempt is to a word of the table, and its fields fit.
use Rattle.std.proofs.Common.{◌≡◌, ℕ, ◌-◌, ◌<◌, ◌≤◌, ◌^◌, true, not, ◌&&◌, nat_eq, List, [], ◌∷◌, ◌++◌, length, Option, Some, sym, subst, arith, inl, inr}
use Rattle.std.specs.Prelude.{IfSome}
use Rattle.std.proofs.lemmas.Bool.Decides.{nat_tests}
use Rattle.std.proofs.lemmas.Bool.{cases_lt}
use Rattle.meta_word.specs.Status.{StatusFits, status_word}
use Rattle.meta_word.specs.declared.meta.Meta.{Meta}
use Rattle.meta_word.specs.declared.meta.TheConstants.{MAX_VERSION}
use Rattle.meta_word.specs.declared.status.TxnStatus.{TxnStatus}
use Rattle.stm_model.specs.declared.note.Note.{Note}
use Rattle.stm_model.specs.Accesses.{Act, access_of, next, next_at, unless_due, word_of}
use Rattle.stm_model.specs.Attempt.{Attempt, Due, Stage, Write, AcquireMeta, Announce, Begin, CommitNote, Close, Decide, DoomOwner, ExtendNote, ReadValue, ReadMeta, ReleaseLevel, Mark, Acquire, Prepare, Release, ExtendClock, RollBack, CommitClock, Validate, OwnerMeta, OwnerStatus, StoreValues}
use Rattle.stm_model.specs.Safe.{EndingAt, EndsWith, ReleasesLevel, Safe, SafeStage, WasTaken, stamp_on}
use Rattle.stm_model.specs.World.{IsCaller, Terms, World, attempt_of, cells_in}
use Rattle.stm_model.proofs.HistoryLemmas.{last_within}
use Rattle.opacity.specs.Words.{BringsWords, FieldsFit, FitsTable, IsOfTable}
use Rattle.opacity.proofs.RollBacks.{out_there}
use Rattle.opacity.proofs.Releases.{written_cell}
use Rattle.opacity.proofs.Shown.{all_at}
use Rattle.opacity.proofs.Stepping.{IsStamped, stamped_release}
use Rattle.opacity.proofs.Walks.{next_of}

status_fits : (status : TxnStatus) → status_word status < 2 ^ 64 → StatusFits status
unfolding status_word
status_fits status below = record { serial = omega (arith, below) }

another_above : (own owner : ℕ) → (not (nat_eq owner 0) && not (nat_eq owner own)) ≡ true → 0 < owner
another_above own owner test = grind (arith, nat_tests)

module _ (lawful : List ℕ → Type 0) (may : List ℕ → List ℕ → Type 0) (terms : Terms) (w : World) (p : ℕ) (safe : Safe lawful may terms w) (caller : IsCaller terms p) where
  abbrev t : Attempt
  t = attempt_of w p

  -- its own number is a caller's
  own_caller : IsCaller terms t.own
  own_caller = subst (λ (n : ℕ). IsCaller terms n) (sym (safe.attempts p caller).sound.own) caller

  -- a version has room
  version_fits : (cell : ℕ) → cell < cells_in terms → (w.meta cell).version ≤ MAX_VERSION
  version_fits cell within = elim (cases_lt 0 (stamp_on w cell)) [
    | inl decided ↦
        let written = (safe.cells cell within).written decided in
        omega (arith, written.version, last_within w.history (stamp_on w cell - 1) cell, safe.clock, safe.limit, safe.fits.limit)
    | inr none ↦
        let settled = (safe.cells cell within).settled (omega (arith, none)) in
        omega (arith, settled.version, last_within w.history (length w.history) cell, safe.clock, safe.limit, safe.fits.limit)
  ]

  walked : (write : Write) (behind : List Write) → EndsWith t.now.writes (write ∷ behind) → write.0 < cells_in terms
  walked write behind ends =
      written_cell lawful may terms w p safe caller write.0 (next_of t.now.writes write behind (safe.attempts p caller).sound.entry.writes_apart ends).there

  given : (kept : List Write) (write : Write) (behind : List Write) → ReleasesLevel t kept (write ∷ behind) → write.0 < cells_in terms
  given kept write behind gives = written_cell lawful may terms w p safe caller write.0 (out_there t kept write behind gives)

  noted : (checked behind : List Note) (note : Note) → t.notes ≡ checked ++ note ∷ behind → note.addr.0 < cells_in terms
  noted checked behind note is = all_at (λ each. each.addr.0 < cells_in terms) checked behind t.notes note is (safe.attempts p caller).sound.noted_cells

  taken : (cell : ℕ) (meta : Meta) → WasTaken terms w t cell meta → IsCaller terms meta.owner
  taken cell meta found = (another_above t.own meta.owner found.another, found.found.owner)

  pub fits_at : (stage : Stage) → SafeStage terms w t stage → EndingAt stage t.ending → IfSome (next_at t stage) (FitsTable terms)
  unfolding next_at SafeStage IsOfTable word_of access_of BringsWords FieldsFit
  fits_at Announce is ending = record { word = own_caller; fields = λ brings. record { serial = (safe.attempts p caller).sound.serial } }
  fits_at Begin is ending = record { word = tt; fields = λ brings. tt }
  fits_at (ReadMeta cell left) is ending = record { word = is.in_range; fields = λ brings. tt }
  fits_at (ExtendClock cell left first) is ending = record { word = tt; fields = λ brings. tt }
  fits_at (ExtendNote cell left first clock note behind) is ending = record { word = noted is.3.checked behind note is.3.notes; fields = λ brings. tt }
  fits_at (ReadValue cell left first) is ending = record { word = is.0.in_range; fields = λ brings. tt }
  fits_at (Validate cell left first value) is ending = record { word = is.0.in_range; fields = λ brings. tt }
  fits_at (AcquireMeta cell value left tried) is ending = record { word = is.in_range; fields = λ brings. tt }
  fits_at (Acquire cell value left tried first expected again) is ending =
      let version : expected.version ≤ MAX_VERSION = omega (arith, is.1.behind, version_fits cell is.0.in_range) in
      record {
        word = is.0.in_range;
        fields = λ brings. (record { owner = omega (arith, is.1.owner, safe.fits.callers); version = version }, record { owner = omega (arith, own_caller.1, safe.fits.callers); version = version });
      }
  fits_at (OwnerStatus cell value left first) is ending = record { word = taken cell first is.1; fields = λ brings. tt }
  fits_at (OwnerMeta cell value left first status) is ending = record { word = is.0.in_range; fields = λ brings. tt }
  fits_at (DoomOwner cell value left first second status) is ending = record {
    word = taken cell first is.1;
    fields = λ brings. let fits = status_fits status brings.0 in (fits, record { serial = fits.serial });
  }
  fits_at (ReleaseLevel kept write behind) is ending = record { word = given kept write behind is; fields = λ brings. tt }
  fits_at Prepare is ending =
      let serial = (safe.attempts p caller).sound.serial in
      record { word = own_caller; fields = λ brings. (record { serial = serial }, record { serial = serial }) }
  fits_at (Mark write behind) is ending = record { word = walked write behind is; fields = λ brings. tt }
  fits_at (CommitClock lost) is ending = record { word = tt; fields = λ brings. tt }
  fits_at (CommitNote lost clock note behind) is ending = record { word = noted is.1.checked behind note is.1.notes; fields = λ brings. tt }
  fits_at (Decide lost clock) is ending = record { word = tt; fields = λ brings. tt }
  fits_at (StoreValues write behind) is ending = record { word = walked write behind is; fields = λ brings. tt }
  fits_at (Release write behind) is ending =
      let stamped : IsStamped w t = stamped_release w t write behind ending (safe.attempts p caller).ends_so in
      record {
        word = walked write behind is;
        fields = λ brings. record { owner = omega arith; version = omega (arith, stamped.high, safe.clock, safe.limit, safe.fits.limit) };
      }
  fits_at (RollBack write behind) is ending = record { word = walked write behind is; fields = λ brings. tt }
  fits_at Close is ending = record { word = own_caller; fields = λ brings. record { serial = (safe.attempts p caller).sound.serial } }
  fits_at stage is ending = tt

  fits_due : (dues : List Due) → IfSome (next_at t t.stage) (FitsTable terms) → IfSome (unless_due dues (next_at t t.stage)) (FitsTable terms)
  fits_due [] good = good
  fits_due (due ∷ dues) good = tt

  pub fits_next : (act : Act) → next t ≡ Some act → FitsTable terms act
  fits_next act is =
      subst (λ (this : Option Act). IfSome this (FitsTable terms)) is
      (fits_due t.due (fits_at t.stage (safe.attempts p caller).stage (safe.attempts p caller).ending))
