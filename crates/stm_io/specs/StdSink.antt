-- What a clause reads of a sink over a writer of std.
use Rattle.std.specs.Prelude.{ℕ}
use Rattle.stm_io.specs.declared.over_std.StdSink.{StdSink}

-- the writer below
abbrev pub writer_of : {W : Type 0} → StdSink W → W
writer_of s = s.writer

-- how often it has failed
abbrev pub write_faults : {W : Type 0} → StdSink W → ℕ
write_faults s = s.faults
