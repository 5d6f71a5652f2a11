-- What a clause reads of a source over a reader of std.
use Rattle.std.specs.Prelude.{ℕ}
use Rattle.stm_io.specs.declared.over_std.StdSource.{StdSource}

-- the reader below
abbrev pub reader_of : {R : Type 0} → StdSource R → R
reader_of s = s.reader

-- how often it has failed
abbrev pub read_faults : {R : Type 0} → StdSource R → ℕ
read_faults s = s.faults
