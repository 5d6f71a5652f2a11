-- What taking a line makes of the reader: its place moves behind the line, and the line stands in front of the rest.
use Rattle.std.proofs.Common.{◌≡◌, ℕ, ◌+◌, suc, Bool, true, false, not, if◌then◌else◌, nat_eq, nat_le, List, [], ◌∷◌, ◌++◌, map, length, Option, Some, None, refl, sym, ap, ◌∙◌, append_assoc, append-nil, length-append, arith}
use Rattle.std.proofs.lemmas.Bool.Decides.{nat_tests}
use Rattle.std.specs.Prelude.{unwrap_or}
use Rattle.ledger_model.specs.declared.job.Job.{Job}
use Rattle.ledger_model.specs.declared.script.Script.{Script}
use Rattle.ledger_model.specs.declared.script.Statement.{Statement}
use Rattle.ledger_model.specs.declared.script.Statement.TheVariants as made
use Rattle.script_text.specs.declared.frames.Begun.{Begun}
use Rattle.script_text.specs.declared.frames.Begun.TheVariants as begun
use Rattle.script_text.specs.declared.frames.Frame.{Frame}
use Rattle.script_text.specs.declared.line.Line.TheVariants as says
use Rattle.script_text.specs.declared.section.Section.{Section}
use Rattle.script_text.specs.declared.section.Section.TheVariants as section
use Rattle.script_text.specs.declared.reader.Reader.{Reader}
use Rattle.script_text.specs.Standing.{Opener, OfScript, OfEither, OfOr, in_script, rank, behind_first}
use Rattle.script_text.specs.JobText.{Remainder, in_front, begin_with, enclose, begin_part}
use Rattle.script_text.specs.Frames.{opener_of, opener_by, closed}
use Rattle.script_text.specs.Reading.{come_to, standing_of, scripts_with, job_so_far, began, with_part, ended, Took, workers_so_far}

abbrev Rests : Type 0
Rests = List (List Statement × List (List Statement))

-- ---- what comes of what is open

closed_by_none : (frames : List Frame) (block : List Statement) → closed frames block [] ≡ []
closed_by_none [] block = refl
closed_by_none (frame ∷ frames) block = refl

none_closed : (frames : List Frame) (block : List Statement) (rests : Rests) → frames ≡ [] → closed frames block rests ≡ []
none_closed [] block rests e = refl
none_closed (frame ∷ frames) block rests e = cc

closed_plain : (frames : List Frame) (block : List Statement) (m : Statement) (rests : Rests)
    → closed frames (block ++ m ∷ []) rests ≡ closed frames block (begin_with m rests)
closed_plain [] block m rests = refl
closed_plain (frame ∷ frames) block m [] = refl
closed_plain (frame ∷ frames) block m (rest ∷ rests) = ap (λ (t : List Statement). closed (frame ∷ frames) [] ((t, rest.1) ∷ rests)) (append_assoc block (m ∷ []) rest.0)

closed_inner : (frames : List Frame) (block : List Statement) (r : ℕ) (rests : Rests)
    → closed (record { begun = begun.Inner r; outer = block } ∷ frames) [] rests ≡ closed frames block (enclose (λ block parts. made.Inner r block) rests)
closed_inner frames block r [] = sym (closed_by_none frames block)
closed_inner frames block r (rest ∷ rests) = closed_plain frames block (made.Inner r rest.0) rests

closed_either : (frames : List Frame) (block : List Statement) (rests : Rests)
    → closed (record { begun = begun.Either []; outer = block } ∷ frames) [] rests ≡ closed frames block (enclose (λ block parts. made.Either (block ∷ parts)) rests)
closed_either frames block [] = sym (closed_by_none frames block)
closed_either frames block (rest ∷ rests) = closed_plain frames block (made.Either (rest.0 ∷ rest.1)) rests

closed_late : (frames : List Frame) (block : List Statement) (rests : Rests)
    → closed (record { begun = begun.Late; outer = block } ∷ frames) [] rests ≡ closed frames block (enclose (λ block parts. made.Late block) rests)
closed_late frames block [] = sym (closed_by_none frames block)
closed_late frames block (rest ∷ rests) = closed_plain frames block (made.Late rest.0) rests

closed_or : (frames : List Frame) (parts : List (List Statement)) (outer block : List Statement) (rests : Rests)
    → closed (record { begun = begun.Either (parts ++ block ∷ []); outer = outer } ∷ frames) [] rests ≡ closed (record { begun = begun.Either parts; outer = outer } ∷ frames) block (begin_part rests)
closed_or frames parts outer block [] = refl
closed_or frames parts outer block (rest ∷ rests) = ap (λ (t : List (List Statement)). closed frames (outer ++ made.Either t ∷ []) rests)
    (append_assoc parts (block ∷ []) (rest.0 ∷ rest.1) ∙ ap (λ (t : List Statement). parts ++ t ∷ rest.0 ∷ rest.1) (sym (append-nil block)))

-- ---- the job that differs in one part

abbrev with_scripts : Reader → Remainder → List Script → Job
with_scripts reader rest scripts = record {
  refs = unwrap_or reader.refs rest.refs;
  maps = 0;
  snaps = 0;
  blocks = 0;
  openings = reader.openings ++ rest.openings;
  workers = reader.workers ++ (if nat_eq reader.worker_count 0 then rest.workers else scripts ∷ rest.workers);
  steps = reader.steps ++ rest.steps;
}

abbrev with_workers : Reader → Remainder → List (List Script) → Job
with_workers reader rest workers = record {
  refs = unwrap_or reader.refs rest.refs;
  maps = 0;
  snaps = 0;
  blocks = 0;
  openings = reader.openings ++ rest.openings;
  workers = workers;
  steps = reader.steps ++ rest.steps;
}

-- ---- statements and blocks

pub took_plain : (old new : Reader) (m : Statement) → new ≡ record old { block = old.block ++ m ∷ [] } → Took old new (says.Plain m)
took_plain old new m e = rw e (record {
  place = refl;
  job = λ rest. ap (λ (c : List Script). with_scripts old rest (old.scripts ++ (c ++ rest.scripts))) (closed_plain old.frames old.block m rest.blocks);
})

pub took_inner : (old new : Reader) (r : ℕ) → new ≡ began old (begun.Inner r) → Took old new (says.Inner r)
took_inner old new r e = rw e (record {
  place = refl;
  job = λ rest. ap (λ (c : List Script). with_scripts old rest (old.scripts ++ (c ++ rest.scripts))) (closed_inner old.frames old.block r rest.blocks);
})

pub took_either : (old new : Reader) → new ≡ began old (begun.Either []) → Took old new says.Either
took_either old new e = rw e (record {
  place = refl;
  job = λ rest. ap (λ (c : List Script). with_scripts old rest (old.scripts ++ (c ++ rest.scripts))) (closed_either old.frames old.block rest.blocks);
})

pub took_late : (old new : Reader) → new ≡ began old begun.Late → Took old new says.Late
took_late old new e = rw e (record {
  place = refl;
  job = λ rest. ap (λ (c : List Script). with_scripts old rest (old.scripts ++ (c ++ rest.scripts))) (closed_late old.frames old.block rest.blocks);
})

-- ---- a further part

suc_is_some : (n : ℕ) → nat_eq (suc n) 0 ≡ false
suc_is_some n = grind (arith, nat_tests)

some_parts : (parts : List (List Statement)) (block : List Statement) → opener_by (begun.Either (parts ++ block ∷ [])) ≡ OfOr
some_parts [] block = refl
some_parts (part ∷ parts) block = ap (λ (b : Bool). if b then OfEither else OfOr) (suc_is_some (length (parts ++ block ∷ [])))

pub took_or : (old new : Reader) (parts : List (List Statement)) (outer : List Statement) (frames : List Frame)
    → old.frames ≡ record { begun = begun.Either parts; outer = outer } ∷ frames
    → new ≡ with_part (record old { frames = frames }) parts outer
    → Took old new says.Or
took_or old new parts outer frames f e = rw e (record {
  place = ap (λ (o : List Opener). record (standing_of old) { openers = o })
      (ap (λ (o : Opener). o ∷ map opener_of frames) (some_parts parts old.block) ∙ ap (λ (fs : List Frame). OfOr ∷ behind_first (map opener_of fs)) (sym f));
  job = λ rest. ap (λ (c : List Script). with_scripts old rest (old.scripts ++ (c ++ rest.scripts)))
      (closed_or frames parts outer old.block rest.blocks ∙ ap (λ (fs : List Frame). closed fs old.block (begin_part rest.blocks)) (sym f));
})

-- ---- the end of what is begun

abbrev ended_job : Reader → List Frame → Begun → List Statement → List Statement → Remainder → List Script
ended_job old frames begun outer block rest = scripts_with (ended (record old { block = outer; frames = frames }) begun block) rest

ended_scripts : (old : Reader) (frames : List Frame) (begun : Begun) (outer block : List Statement) (rest : Remainder)
    → ended_job old frames begun outer block rest ≡ old.scripts ++ (closed (record { begun = begun; outer = outer } ∷ frames) block (([], []) ∷ rest.blocks) ++ rest.scripts)
ended_scripts old frames begun.Script outer block rest =
    append_assoc old.scripts (record { block = block } ∷ []) (closed frames outer rest.blocks ++ rest.scripts)
    ∙ ap (λ (t : List Statement). old.scripts ++ (record { block = t } ∷ (closed frames outer rest.blocks ++ rest.scripts))) (sym (append-nil block))
ended_scripts old frames (begun.Inner r) outer block rest =
    ap (λ (t : List Statement). old.scripts ++ (closed frames (outer ++ made.Inner r t ∷ []) rest.blocks ++ rest.scripts)) (sym (append-nil block))
ended_scripts old frames (begun.Either parts) outer block rest =
    ap (λ (t : List Statement). old.scripts ++ (closed frames (outer ++ made.Either (parts ++ t ∷ []) ∷ []) rest.blocks ++ rest.scripts)) (sym (append-nil block))
ended_scripts old frames begun.Late outer block rest =
    ap (λ (t : List Statement). old.scripts ++ (closed frames (outer ++ made.Late t ∷ []) rest.blocks ++ rest.scripts)) (sym (append-nil block))

ended_place : (old : Reader) (begun : Begun) (block : List Statement) → standing_of (ended old begun block) ≡ standing_of old
ended_place old begun.Script block = refl
ended_place old (begun.Inner r) block = refl
ended_place old (begun.Either parts) block = refl
ended_place old begun.Late block = refl

ended_rest : (old : Reader) (begun : Begun) (block : List Statement) (rest : Remainder)
    → job_so_far (ended old begun block) rest ≡ with_scripts old rest (scripts_with (ended old begun block) rest)
ended_rest old begun.Script block rest = refl
ended_rest old (begun.Inner r) block rest = refl
ended_rest old (begun.Either parts) block rest = refl
ended_rest old begun.Late block rest = refl

pub took_end : (old new : Reader) (begun : Begun) (outer : List Statement) (frames : List Frame)
    → old.frames ≡ record { begun = begun; outer = outer } ∷ frames
    → new ≡ ended (record old { block = outer; frames = frames }) begun old.block → Took old new says.End
took_end old new begun outer frames f e = rw e (record {
  place = ended_place (record old { block = outer; frames = frames }) begun old.block ∙ ap (λ (fs : List Frame). record (standing_of old) { openers = behind_first (map opener_of fs) }) (sym f);
  job = λ rest. ended_rest (record old { block = outer; frames = frames }) begun old.block rest
      ∙ ap (with_scripts old rest) (ended_scripts old frames begun outer old.block rest ∙ ap (λ (fs : List Frame). old.scripts ++ (closed fs old.block (([], []) ∷ rest.blocks) ++ rest.scripts)) (sym f));
})

pub took_no_end : (old new : Reader) → old.frames ≡ [] → new ≡ old → Took old new says.End
took_no_end old new f e = rw e (record {
  place = ap (λ (fs : List Frame). record (standing_of old) { openers = map opener_of fs }) f ∙ ap (λ (fs : List Frame). record (standing_of old) { openers = behind_first (map opener_of fs) }) (sym f);
  job = λ rest. ap (λ (c : List Script). with_scripts old rest (old.scripts ++ (c ++ rest.scripts))) (none_closed old.frames old.block rest.blocks f ∙ sym (none_closed old.frames old.block (([], []) ∷ rest.blocks) f));
})

-- ---- scripts and workers

no_frames : (old : Reader) → in_script (standing_of old) ≡ false → old.frames ≡ []
no_frames old e = by old.frames e where
  by : (frames : List Frame) → not (nat_eq (length (map opener_of frames)) 0) ≡ false → frames ≡ []
  by [] e = refl
  by (frame ∷ frames) e = let k : true ≡ false = sym (ap not (suc_is_some (length (map opener_of frames)))) ∙ e in cc

pub took_script : (old new : Reader) → in_script (standing_of old) ≡ false
    → new ≡ began (record old { script_count = old.script_count + 1 }) begun.Script → Took old new says.Script
took_script old new s e = let f = no_frames old s in rw e (record {
  place = ap (λ (fs : List Frame). record (standing_of old) { scripts = old.script_count + 1; openers = OfScript ∷ map opener_of fs }) f;
  job = λ rest. by rest.blocks rest f;
}) where
  by : (blocks : Rests) (rest : Remainder) → old.frames ≡ []
      → job_so_far (began (record old { script_count = old.script_count + 1 }) begun.Script) (record rest { blocks = blocks }) ≡ job_so_far old (in_front says.Script (record rest { blocks = blocks }))
  by [] rest f = ap (λ (c : List Script). with_scripts old rest (old.scripts ++ (c ++ rest.scripts))) (sym (none_closed old.frames old.block [] f))
  by (block ∷ blocks) rest f =
      ap (λ (c : List Script). with_scripts old rest (old.scripts ++ (record { block = block.0 } ∷ (c ++ rest.scripts)))) (none_closed old.frames old.block blocks f)
      ∙ ap (λ (c : List Script). with_scripts old rest (old.scripts ++ (c ++ record { block = block.0 } ∷ rest.scripts))) (sym (none_closed old.frames old.block blocks f))

next_is_some : (n : ℕ) → nat_eq (n + 1) 0 ≡ false
next_is_some n = grind (arith, nat_tests)

pub took_worker : (old new : Reader) → in_script (standing_of old) ≡ false
    → new ≡ record old { come_to = section.Workers; worker_count = old.worker_count + 1; workers = workers_so_far old; script_count = 0; scripts = [] }
    → Took old new says.Worker
took_worker old new s e = let f = no_frames old s in rw e (record {
  place = refl;
  job = λ rest.
      ap (λ (b : Bool). with_workers old rest (workers_so_far old ++ (if b then rest.workers else (closed old.frames old.block rest.blocks ++ rest.scripts) ∷ rest.workers))) (next_is_some old.worker_count)
      ∙ ap (λ (c : List Script). with_workers old rest (workers_so_far old ++ (c ++ rest.scripts) ∷ rest.workers)) (none_closed old.frames old.block rest.blocks f)
      ∙ ap (with_workers old rest) (by (nat_eq old.worker_count 0) rest)
      ∙ ap (λ (c : List Script). with_scripts old (record rest { scripts = []; workers = rest.scripts ∷ rest.workers }) (old.scripts ++ (c ++ []))) (sym (none_closed old.frames old.block rest.blocks f));
}) where
  by : (b : Bool) (rest : Remainder) → (if b then old.workers else old.workers ++ old.scripts ∷ []) ++ rest.scripts ∷ rest.workers
      ≡ old.workers ++ (if b then rest.scripts ∷ rest.workers else (old.scripts ++ []) ∷ rest.scripts ∷ rest.workers)
  by true rest = refl
  by false rest = append_assoc old.workers (old.scripts ∷ []) (rest.scripts ∷ rest.workers) ∙ ap (λ (t : List Script). old.workers ++ t ∷ rest.scripts ∷ rest.workers) (sym (append-nil old.scripts))

-- ---- the head, references and steps

unsaid : (p : Section) (refs : Option ℕ) → nat_le (rank (come_to p refs)) 1 ≡ true → refs ≡ None
unsaid p None e = refl
unsaid section.Start (Some n) e = cc
unsaid section.Head (Some n) e = cc
unsaid section.Refs (Some n) e = cc
unsaid section.Openings (Some n) e = cc
unsaid section.Workers (Some n) e = cc
unsaid section.Steps (Some n) e = cc

first_two : (n : ℕ) → nat_eq n 0 ≡ true → nat_le n 1 ≡ true
first_two n e = grind (arith, nat_tests)

pub took_head : (old new : Reader) → nat_eq (rank (come_to old.come_to old.refs)) 0 ≡ true → new ≡ record old { come_to = section.Head } → Took old new says.Head
took_head old new h e = rw e (record {
  place = ap (λ (p : Section). record (standing_of old) { come_to = p }) (ap (come_to section.Head) (unsaid old.come_to old.refs (first_two (rank (come_to old.come_to old.refs)) h)));
  job = λ rest. refl;
})

pub took_refs : (old new : Reader) (n : ℕ) → nat_le (rank (come_to old.come_to old.refs)) 1 ≡ true → new ≡ record old { come_to = section.Refs; refs = Some n } → Took old new (says.Refs n)
took_refs old new n h e = rw e (record {
  place = refl;
  job = λ rest. ap (λ (o : Option ℕ). record (job_so_far old rest) { refs = unwrap_or o n }) (sym (unsaid old.come_to old.refs h));
})

pub took_opening : (old new : Reader) (cell n : ℕ) → new ≡ record old { come_to = section.Openings; next = cell + 1; openings = if nat_eq n 0 then old.openings else old.openings ++ (cell, n) ∷ [] }
    → Took old new (says.Opening cell n)
took_opening old new cell n e = rw e (record {
  place = refl;
  job = λ rest. ap (λ (o : List (ℕ × ℕ)). record (job_so_far old rest) { openings = o }) (by (nat_eq n 0) rest);
}) where
  by : (b : Bool) (rest : Remainder) → (if b then old.openings else old.openings ++ (cell, n) ∷ []) ++ rest.openings ≡ old.openings ++ (if b then rest.openings else (cell, n) ∷ rest.openings)
  by true rest = refl
  by false rest = append_assoc old.openings ((cell, n) ∷ []) rest.openings

pub took_steps : (old new : Reader) (numbers : List ℕ) → new ≡ record old { come_to = section.Steps; steps = old.steps ++ numbers } → Took old new (says.Steps numbers)
took_steps old new numbers e = rw e (record {
  place = ap (λ (n : ℕ). record (standing_of old) { come_to = section.Steps; steps = n }) (length-append old.steps numbers);
  job = λ rest. ap (λ (t : List ℕ). record (job_so_far old rest) { steps = t }) (append_assoc old.steps numbers rest.steps);
})
