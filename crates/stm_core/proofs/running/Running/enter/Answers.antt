use Rattle.std.proofs.Common.{◌≡◌, ◌<◌, ◌≤◌, ℕ, List, ◌∷◌, nat_lt, true, false, length, rules, refl, sym, ◌∙◌, inl, inr, arith}
use Rattle.std.proofs.lemmas.Bool.Decides.{nat_tests}
use Rattle.stm_core.proofs.Marked.{IsNow, as_many, marked_entered}
use Rattle.stm_core.specs.Machine.{accesses_asked, reads_asked, writes_asked}
use Rattle.stm_core.specs.Past.{books_in}
use Rattle.stm_core.specs.Running.{InvariantAt, IsAsked, IsFree, attempt_at, left_at, reads_under_way, standing_at, writes_under_way}
use Rattle.stm_core.specs.declared.running.Running.{Running}
use Rattle.stm_core.specs.declared.running.State.TheVariants as in_state
use Rattle.stm_core.proofs.running.Running.enter.Goals as goal
use Rattle.stm_model.specs.After.{done, stopped}
use Rattle.stm_model.specs.Attempt.{Attempt}
use Rattle.stm_model.specs.Moves.{MayRunOut, asked_going, enter_level}
use Rattle.stm_model.specs.Refusing.{deepest}
use Rattle.stm_model.specs.declared.access.Ask.TheVariants.{Enter}
use Rattle.stm_model.specs.declared.cause.Cause.{Cause}
use Rattle.stm_model.specs.declared.cause.Cause.TheVariants.{TooDeep}
use Rattle.stm_model.specs.declared.marks.Level.{Level}

opens : (t : Attempt) → length t.saved < deepest → enter_level t ≡ done (record t { saved = t.now ∷ t.saved })
opens t below = let less : nat_lt (length t.saved) deepest ≡ true = grind (arith, nat_tests) in rw less refl

refuses : (t : Attempt) → length t.saved ≡ deepest → enter_level t ≡ stopped t (TooDeep deepest)
refuses t all = let not_less : nat_lt (length t.saved) deepest ≡ false = grind (arith, nat_tests) in rw not_less refl

fewer : (levels depth : ℕ) → depth ≡ levels → depth ≤ deepest → (levels ≡ deepest → ⊥) → levels < deepest
fewer levels depth is within not_all = omega (arith, not_all)

-- Where no level is entered, all but the state stays.
stays : {r : Running} {levels : List Level} {cause : Cause} → IsFree r → levels ≡ r.levels →
    IsAsked Enter r (record r { levels = levels; state = in_state.Stopped cause })
unfolding InvariantAt attempt_at left_at reads_under_way writes_under_way accesses_asked reads_asked writes_asked
stays {r} {levels} {cause} free same = record {
  left = search rules;
  room = search rules;
  numbers = record { own = refl; serial = refl; settings = refl };
  sound = record {
    fits = record { numbers = free.fits.numbers; marks = rw same free.fits.marks };
    runs = rw free.nothing_due tt;
    holds = tt;
  };
}

pub returns-in-Ok : goal.returns-in-Ok
unfolding InvariantAt attempt_at left_at reads_under_way writes_under_way accesses_asked reads_asked writes_asked asked_going MayRunOut
returns-in-Ok c =
    let r = c.args.self.now in
    let count : length r.levels ≡ length (books_in r.past) = as_many r.footprint.writes r.handlers r.levels (books_in r.past) c.requires.fits.marks in
    let below : length r.levels < deepest = fewer (length r.levels) c.depth-depth.result c.depth-depth.ensures.count c.depth-depth.ensures.within (λ all. cc (c.in-Ok.ensures.deep.1 all)) in
    let below_all : length (books_in r.past) < deepest = omega arith in
    let now : IsNow r.footprint.writes r.handlers _ = record { mark = c.mark.ensures.mark; same = c.mark.ensures.writes; last = c.mark.ensures.last; hooks = c.mark-2.ensures.count; laters = c.later_mark.ensures.count } in
    let past = c.enter-in-Ok.ensures in
    record {
      moves = λ stage. inl (rw (past.rings, past.runs, past.books) (sym (opens (standing_at r stage) below_all)));
      takes = λ stage room. rw (past.rings, past.runs, past.books) (sym (opens (standing_at r stage) below_all));
      asked = record {
        left = search rules;
        room = search rules;
        numbers = record { own = refl; serial = refl; settings = refl };
        sound = record {
          fits = record {
            numbers = c.requires.fits.numbers;
            marks = rw (past.books, c.in-Ok.ensures.ok) (marked_entered _ _ _ _ _ _ now c.requires.fits.marks);
          };
          runs = rw c.requires.nothing_due tt;
          holds = tt;
        };
      };
    }

pub returns-in-Err-TooDeep : goal.returns-in-Err-TooDeep
unfolding InvariantAt attempt_at left_at reads_under_way writes_under_way accesses_asked reads_asked writes_asked asked_going MayRunOut
returns-in-Err-TooDeep c =
    let r = c.args.self.now in
    let count : length r.levels ≡ length (books_in r.past) = as_many r.footprint.writes r.handlers r.levels (books_in r.past) c.requires.fits.marks in
    let all : length r.levels ≡ deepest = c.in-Err-TooDeep.ensures.deep.0 cc in
    let depth : c.depth-depth.result ≡ deepest = c.depth-depth.ensures.count ∙ all in
    record {
      moves = λ stage. inl (rw depth (sym (refuses (standing_at r stage) (sym count ∙ all))));
      takes = λ stage room. rw depth (sym (refuses (standing_at r stage) (sym count ∙ all)));
      asked = stays c.requires c.in-Err-TooDeep.ensures.err;
    }

pub returns-in-Err-Memory : goal.returns-in-Err-Memory
unfolding InvariantAt attempt_at left_at reads_under_way writes_under_way accesses_asked reads_asked writes_asked asked_going MayRunOut
returns-in-Err-Memory c =
    let r = c.args.self.now in
    let count : length r.levels ≡ length (books_in r.past) = as_many r.footprint.writes r.handlers r.levels (books_in r.past) c.requires.fits.marks in
    let below : length r.levels < deepest = fewer (length r.levels) c.depth-depth.result c.depth-depth.ensures.count c.depth-depth.ensures.within (λ all. cc (c.in-Err-Memory.ensures.deep.1 all)) in
    record {
      moves = λ stage. inr (omega arith, refl);
      takes = λ stage inside. absurd (c.in-Err-Memory.ensures.takes (omega (arith, inside, count)) cc);
      asked = stays c.requires c.in-Err-Memory.ensures.err;
    }
