use Rattle.std.proofs.Common.{refl}
use Rattle.clap.proofs.OnLiterals.{clap_on_literals}
use Rattle.bank_words.proofs.laws.some_command_lines.Goals as goal

pub returns : goal.returns
unfolding clap_on_literals
returns c = record { plain = refl; threads = refl; joined = refl; one = refl; many = refl; unknown = refl; short = refl }
