-- Books kept in lists.
use Rattle.std.specs.Prelude.{◌+◌, ◌≤◌, length, vec_capacity}
use Rattle.stm_model.specs.CellsState.{Book}
use Rattle.plain_cells.specs.declared.book.PlainBook.{PlainBook}

abbrev pub book_of : PlainBook → Book
book_of book = record { writes = book.writes.items; hooks = book.hooks.items; laters = book.laters.items; runs = book.runs.items }

-- The list of runs has room for the runs of all handlers.
abbrev pub HasRoom : PlainBook → Type 0
HasRoom book = length book.runs.items + length book.hooks.items ≤ vec_capacity book.runs
