-- The limits of jobs. A text past one of them is refused, and a job within them all has a text.
use Rattle.std.specs.Prelude.{ℕ}

abbrev pub most_refs : ℕ
most_refs = 65536

abbrev pub most_maps : ℕ
most_maps = 64

-- slots for snapshots
abbrev pub most_slots : ℕ
most_slots = 64

-- of the stripe of each worker
abbrev pub most_blocks : ℕ
most_blocks = 65536

abbrev pub most_workers : ℕ
most_workers = 16

-- of each worker
abbrev pub most_scripts : ℕ
most_scripts = 4096

-- numbers of steps in all, and on one line
abbrev pub most_steps : ℕ
most_steps = 262144

abbrev pub most_steps_on_line : ℕ
most_steps_on_line = 64

-- how deep blocks nest in a script
abbrev pub most_depth : ℕ
most_depth = 32

-- registers of a script, from 0 on
abbrev pub registers : ℕ
registers = 16

-- the greatest code to fail with; the least is 1
abbrev pub most_code : ℕ
most_code = 65535
