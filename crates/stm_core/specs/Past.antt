-- What has happened in an attempt: the cells that were rung for, the handlers that were run, and the books of the levels that are open.
use Rattle.std.specs.Prelude.{ℕ, List, [], ◌∷◌, ◌++◌}
use Rattle.lifecycle.specs.Registered.{Registered}
use Rattle.stm_core.specs.declared.past.Past.{Past, Nothing, Rang', Ran', Entered', Left'}
use Rattle.stm_model.specs.CellsState.{Book, outer}
use Rattle.stm_model.specs.Handlers.{Handlers}
use Rattle.write_buffer.specs.Buffer.{Buffer}

-- the cells that were rung for, in order
unfoldable pub rings_in : Past → List ℕ
rings_in Nothing = []
rings_in (Rang' shape earlier addr) = rings_in earlier ++ addr.0 ∷ []
rings_in (Ran' shape earlier phase token) = rings_in earlier
rings_in (Entered' shape earlier writes handlers) = rings_in earlier
rings_in (Left' shape earlier) = rings_in earlier

-- the handlers that were run, in order
unfoldable pub runs_in : Past → Handlers
runs_in Nothing = []
runs_in (Rang' shape earlier addr) = runs_in earlier
runs_in (Ran' shape earlier phase token) = runs_in earlier ++ (phase, token) ∷ []
runs_in (Entered' shape earlier writes handlers) = runs_in earlier
runs_in (Left' shape earlier) = runs_in earlier

-- the book with these writes, registrations and runs
abbrev pub book_of : Buffer → Registered → Handlers → Book
book_of buffer registered runs = record { writes = buffer.writes; hooks = registered.hooks; laters = registered.laters; runs = runs }

-- the books of the open levels, as they were where each was entered, the innermost first
unfoldable pub books_in : Past → List Book
books_in Nothing = []
books_in (Rang' shape earlier addr) = books_in earlier
books_in (Ran' shape earlier phase token) = books_in earlier
books_in (Entered' shape earlier writes handlers) = book_of writes.value handlers.value (runs_in earlier) ∷ books_in earlier
books_in (Left' shape earlier) = outer (books_in earlier)
