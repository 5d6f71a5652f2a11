-- What the writers of a listing leave: as many references, maps and slots as the job has, and maps by ascending keys.
use Rattle.std.proofs.Common.{◌≡◌, ℕ, List, [], ◌∷◌, length, take, slice_set, replicate, refl, ◌∙◌}
use Rattle.std.proofs.lemmas.List.{length-replicate, length-set}
use Rattle.ledger_model.specs.declared.job.Contents.{Contents}
use Rattle.ledger_model.specs.declared.job.Job.{Job}
use Rattle.ledger_model.specs.declared.listing.Row.{Row}
use Rattle.ledger_model.specs.Contents.{opened, opening_contents}
use Rattle.ledger_model.specs.Replays.{after_writers, block_of, contents_after, left_by, writers_of}
use Rattle.ledger_model.specs.Growth.{MapsAscend}
use Rattle.stm_model.specs.Pairs.{KeysAscend}
use Rattle.ledger_model.proofs.MapLemmas.{All-replicate}
use Rattle.ledger_model.proofs.Growing.{run_ascend, run_sizes}

opening_ascend : (job : Job) → MapsAscend (opening_contents job)
opening_ascend job = (All-replicate KeysAscend job.maps [] tt, All-replicate KeysAscend job.snaps [] tt)

writers_ascend : (job : Job) (rows : List Row) (contents : Contents) → MapsAscend contents → MapsAscend (after_writers job rows contents)
writers_ascend job [] contents maps = maps
writers_ascend job (row ∷ rows) contents maps = writers_ascend job rows (left_by job row contents) (run_ascend (block_of job row.worker row.number) contents maps)

pub listed_ascend : (job : Job) (rows : List Row) (n : ℕ) → MapsAscend (contents_after job rows n)
listed_ascend job rows n = writers_ascend job (take n (writers_of rows)) (opening_contents job) (opening_ascend job)

length-opened : (openings : List (ℕ × ℕ)) (refs : List ℕ) → length (opened openings refs) ≡ length refs
length-opened [] refs = refl
length-opened (opening ∷ openings) refs = length-opened openings (slice_set refs opening.0 opening.1) ∙ length-set refs opening.0 opening.1

-- as many references, maps and slots as the job has
abbrev Sized : Job → Contents → Type 0
Sized job contents = (length contents.refs ≡ job.refs) × (length contents.maps ≡ job.maps) × (length contents.slots ≡ job.snaps)

opening_sized : (job : Job) → Sized job (opening_contents job)
opening_sized job =
    (length-opened job.openings (replicate job.refs 0) ∙ length-replicate job.refs 0, length-replicate job.maps [], length-replicate job.snaps [])

writers_sized : (job : Job) (rows : List Row) (contents : Contents) → Sized job contents → Sized job (after_writers job rows contents)
writers_sized job [] contents h = h
writers_sized job (row ∷ rows) contents h =
    let same = run_sizes (block_of job row.worker row.number) contents in
    writers_sized job rows (left_by job row contents) (same.refs ∙ h.0, same.maps ∙ h.1, same.slots ∙ h.2)

pub listed_sized : (job : Job) (rows : List Row) (n : ℕ) → Sized job (contents_after job rows n)
listed_sized job rows n = writers_sized job (take n (writers_of rows)) (opening_contents job) (opening_sized job)
