-- Private: how what a seat knows is cut in two, and how that of two seats is joined.
use Rattle.std.specs.Prelude.{ℕ, ◌+◌, List, [], ◌∷◌, length}
use Rattle.meta_word.specs.declared.policy.Policy.TheVariants.{GiveWay}
use Rattle.stm_model.specs.declared.settings.Settings.{Settings}
use Rattle.ref_table.specs.Knowledge.{Caller, Knowledge, Maker, Mark, Whose, first_view}
use Rattle.ref_table.specs.Seats.{longer, shorter}

-- how many numbers were given, if it is the maker's
abbrev pub given_of : Whose → ℕ
given_of (Maker given gathered) = given
given_of whose = 0

-- and which it has gathered
abbrev pub gathered_of : Whose → List (ℕ × ℕ)
gathered_of (Maker given gathered) = gathered
gathered_of whose = []

-- its number, if it is a caller's
abbrev pub number_of : Whose → ℕ
number_of (Caller number) = number
number_of whose = 0

-- what the maker knows that has given one number more
abbrev pub after_deal : Knowledge → Knowledge
after_deal maker = record maker { whose = Maker (given_of maker.whose + 1) (gathered_of maker.whose) }

-- and what the caller knows to whom it was given
abbrev pub dealt : Knowledge → Knowledge
dealt maker = record {
  whose = Caller (given_of maker.whose + 1);
  view = first_view (given_of maker.whose + 1) maker.view.attempt.settings (length maker.seen);
  seen = maker.seen;
  joined = [];
}

-- what is kept of a seat as a mark
abbrev pub marked : Knowledge → Knowledge
marked seat = record seat { whose = Mark }

-- what a caller knows to whose seat a mark was joined
abbrev pub after_heed : Knowledge → Knowledge → Knowledge
after_heed seat mark = record seat { joined = mark.seen }

-- and what it knows once it has learned that
abbrev pub learned : Knowledge → Knowledge
learned seat = record seat { view = record seat.view { seen = length (longer seat.seen seat.joined) }; seen = longer seat.seen seat.joined }

-- what the maker knows that has gathered a caller's seat
abbrev pub after_gather : Knowledge → Knowledge → Knowledge
after_gather maker seat = record maker {
  whose = Maker (given_of maker.whose) ((number_of seat.whose, length seat.seen) ∷ gathered_of maker.whose);
  seen = longer maker.seen seat.seen;
  joined = shorter maker.seen seat.seen;
}

abbrev pub no_settings : Settings
no_settings = record { callers = 0; policy = GiveWay; tries = 0; clock = 0; attempts = 0 }

-- what is left of a seat that was joined to another: a mark with nothing seen
abbrev pub spent : Knowledge
spent = record { whose = Mark; view = first_view 0 no_settings 0; seen = []; joined = [] }
