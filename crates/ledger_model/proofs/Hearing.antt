-- What is heard of each part of a talk, and what stays in front.
use Rattle.std.proofs.Common.{◌≡◌, ℕ, [], ◌∷◌, ◌++◌, length, drop, refl}
use Rattle.stm_model.specs.declared.access.Ask.{Ask}
use Rattle.stm_model.specs.declared.access.Ask.TheVariants.{Undo}
use Rattle.stm_model.specs.Handlers.{undoing}
use Rattle.stm_model.specs.Telling.{Extends}
use Rattle.stm_model.proofs.CellsLemmas.{Extends-append, Extends-refl, Extends-trans}
use Rattle.ledger_model.specs.Run.{End}
use Rattle.ledger_model.specs.Talk.{Talk, Over, Says, Asks, Ends}
use Rattle.ledger_model.specs.Heard.{Hearing, after_asking, with_print, answer_to, former, hear}

-- ---- one step

pub hear-over : (end : End) (h : Hearing) → hear (Over end) h ≡ record { end = end; after = h }
hear-over end h = refl

pub hear-says : (n : ℕ) (rest : Talk) (h : Hearing) → hear (Says n rest) h ≡ hear rest (with_print n h)
hear-says n rest h = refl

pub hear-asks : (ask : Ask) (rest : ℕ → Talk) (h : Hearing) → hear (Asks ask rest) h ≡ hear (rest (answer_to ask h)) (after_asking ask h)
hear-asks ask rest h = refl

pub hear-ends : (rest : Talk) (h : Hearing) → hear (Ends rest) h ≡ hear rest h
hear-ends rest h = refl

-- ---- what stays in front

asking_trail : (ask : Ask) (h : Hearing) → Extends h.trail (after_asking ask h).trail
asking_trail Undo h = Extends-refl h.trail
asking_trail _ h = Extends-refl h.trail

asking_runs : (ask : Ask) (h : Hearing) → Extends h.runs (after_asking ask h).runs
asking_runs Undo h = Extends-append h.runs (undoing (drop (length (former h).hooks) h.now.hooks))
asking_runs _ h = Extends-refl h.runs

pub trail_stays : (talk : Talk) (h : Hearing) → Extends h.trail (hear talk h).after.trail
trail_stays (Over end) h = Extends-refl h.trail
trail_stays (Says n rest) h = Extends-trans h.trail (h.trail ++ n ∷ []) _ (Extends-append h.trail (n ∷ [])) (trail_stays rest (with_print n h))
trail_stays (Asks ask rest) h = Extends-trans h.trail (after_asking ask h).trail _ (asking_trail ask h) (trail_stays (rest (answer_to ask h)) (after_asking ask h))
trail_stays (Ends rest) h = trail_stays rest h

pub runs_stay : (talk : Talk) (h : Hearing) → Extends h.runs (hear talk h).after.runs
runs_stay (Over end) h = Extends-refl h.runs
runs_stay (Says n rest) h = runs_stay rest (with_print n h)
runs_stay (Asks ask rest) h = Extends-trans h.runs (after_asking ask h).runs _ (asking_runs ask h) (runs_stay (rest (answer_to ask h)) (after_asking ask h))
runs_stay (Ends rest) h = runs_stay rest h
