-- What a host shows, and what a call does to that.
use Rattle.std.specs.Prelude.{◌≡◌, ℕ, ◌-◌, Bool, cond, List, [], ◌∷◌, ◌++◌, length, drop, Some, None, Option, nat_lt}
use Rattle.host.specs.declared.Note.{Note}

-- how many notes wait at most
abbrev pub places : ℕ
places = 64

-- what a host shows
pub record HostState : Type 0 where
  -- what the clock will answer next
  pub reading : ℕ
  -- the notes that wait, oldest first
  pub notes : List Note
  -- how many more notes can wait
  pub spare : ℕ

-- the host was asked for the time: what the next reading will be is open, and nothing else
abbrev pub WaitsOn : HostState → HostState → Type 0
WaitsOn before after = (after.notes ≡ before.notes) × (after.spare ≡ before.spare)

-- the host was asked to take a note, and answered whether it did
pub record Leaves (note : Note) (taken : Bool) (before after : HostState) : Type 0 where
  -- yes where a place is to spare
  pub answer : taken ≡ nat_lt 0 before.spare
  -- on yes the note joins the end, on no the notes stay
  pub joined : after.notes ≡ cond (nat_lt 0 before.spare) (before.notes ++ (note ∷ [])) before.notes
  -- one place fewer, and none where there was none
  pub fewer : after.spare ≡ before.spare - 1
  pub timeless : after.reading ≡ before.reading

-- the first of a list
abbrev pub oldest : List Note → Option Note
oldest [] = None
oldest (n ∷ _) = Some n

-- the program asked for the oldest waiting note
pub record Takes (taken : Option Note) (before after : HostState) : Type 0 where
  pub answer : taken ≡ oldest before.notes
  -- the others wait on, in their order
  pub rest : after.notes ≡ drop 1 before.notes
  -- the place of the note is to spare again
  pub freed : after.spare ≡ places - length after.notes
  pub timeless : after.reading ≡ before.reading
