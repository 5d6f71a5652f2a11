-- What a job's references, maps and slots hold at the start.
use Rattle.std.specs.Prelude.{ℕ, ◌*◌, max, replicate, List, [], ◌∷◌, length, slice_set}
use Rattle.ledger_model.specs.declared.job.Contents.{Contents}
use Rattle.ledger_model.specs.declared.job.Job.{Job}

-- references, with the value of each opening put in
abbrev pub opened : List (ℕ × ℕ) → List ℕ → List ℕ
opened [] refs = refs
opened (opening ∷ openings) refs = opened openings (slice_set refs opening.0 opening.1)

-- The opened references hold their values, all others 0. Maps and slots are empty, and no block is in use.
abbrev pub opening_contents : Job → Contents
opening_contents job = record {
  refs = opened job.openings (replicate job.refs 0);
  maps = replicate job.maps [];
  slots = replicate job.snaps [];
  used = 0;
}

-- How many blocks there are: a stripe of them for each worker, and one where there is no worker.
abbrev pub blocks_of : Job → ℕ
blocks_of job = job.blocks * max (length job.workers) 1
