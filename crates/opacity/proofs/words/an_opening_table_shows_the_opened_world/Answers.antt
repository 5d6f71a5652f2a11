use Rattle.opacity.proofs.PlainOpening.{shows_opened}
use Rattle.opacity.proofs.words.an_opening_table_shows_the_opened_world.Goals as goal

pub returns-clause-table : goal.returns-clause-table
returns-clause-table c = λ terms words opens. record { size = opens.size; each = opens.each }

pub returns-clause-shows : goal.returns-clause-shows
returns-clause-shows c = λ terms settings words opens. shows_opened terms.opening terms.callers terms.limit words opens settings
