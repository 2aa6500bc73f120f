-- What each host shows.
use Rattle.std.specs.Prelude.{◌≡◌, ℕ, ◌-◌, max, List, [], ◌∷◌, length}
use Rattle.std.specs.VecDeque.{deque_items}
use Rattle.host.specs.Leaving.{HostState, places}
use Rattle.host.specs.Reading.{first_of}
use Rattle.host.specs.declared.kept.KeptClock.{KeptClock}
use Rattle.host.specs.declared.notes.NotesHost.{NotesHost}
use Rattle.host.specs.declared.steady.SteadyHost.{SteadyHost}
use Rattle.host.specs.declared.tape.Tape.{Tape}

-- the readings that a clock has to come; the last of them comes for ever
abbrev pub kept : KeptClock → List ℕ
kept c = c.reading ∷ []

abbrev pub tape : Tape → List ℕ
tape t = deque_items t.readings

-- a host with a clock and places for notes shows the first reading to come
abbrev pub shown : {Clock : Type 0} → (Clock → List ℕ) → NotesHost Clock → HostState
shown to_come h = record { reading = first_of (to_come h.clock); notes = deque_items h.waiting; spare = places - length (deque_items h.waiting) }

-- a steady host shows what the host below shows, and the larger of its reading and the largest that was given
abbrev pub steadied : {Host : Type 0} → (Host → HostState) → SteadyHost Host → HostState
steadied state h = record { reading = max (state h.below).reading h.largest; notes = (state h.below).notes; spare = (state h.below).spare }

-- the largest reading that was given stays, and below what stays there
abbrev pub LargestStays : {Host : Type 0} → (Host → Host → Type 0) → SteadyHost Host → SteadyHost Host → Type 0
LargestStays Stays before after = (after.largest ≡ before.largest) × Stays before.below after.below
