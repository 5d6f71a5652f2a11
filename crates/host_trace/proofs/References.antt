-- What the references of a simulation hold in the worlds that it shows. Here c is a simulation and w a world.
use Rattle.std.proofs.Common.{◌≡◌, ℕ, ◌<◌, length, slice_index, ap, sym}
use Rattle.opacity.specs.Words.{IsOfTable}
use Rattle.stm_model.specs.Accesses.{addr_of}
use Rattle.stm_model.specs.World.{World, place_of, world_of}
use Rattle.stm_model.specs.declared.access.Word.TheVariants.{Value}
use Rattle.stm_model.specs.declared.law.Free.{Free}
use Rattle.world_run.specs.Simulation.{Simulation, terms_in}
use Rattle.host_trace.specs.Flights.{ShowsWorld}

pub value_there : (c : Simulation Free) (w : World) → ShowsWorld c w → (cell : ℕ) → slice_index c.words (place_of c.settings.callers (Value (addr_of cell))) ≡ w.value cell
unfolding place_of world_of
value_there c w shows cell = sym (ap (λ (w : World). w.value cell) shows.words)

pub of_table : (c : Simulation Free) (cell : ℕ) → cell < length c.opening → IsOfTable (terms_in c) (Value (addr_of cell))
unfolding IsOfTable
of_table c cell less = less
