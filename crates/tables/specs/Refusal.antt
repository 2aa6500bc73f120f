-- What a call may be short of, and in which order that is told.
use Rattle.std.specs.Prelude.{ℕ, Bool, false, cond, not, List, [], ◌∷◌, length, Some, None, Ok, Err, Option, Result, nat_le}
use Rattle.ei.specs.declared.error.EventError.{EventError}
use Rattle.ei.specs.declared.error.EventError.TheVariants.{LongText, RegionsFull, TableFull, HostFull, StoreFull, HandlesUsedUp}
use Rattle.tables.specs.declared.shortage.Shortage.{Shortage}

-- a text to be kept has over 128 bytes
abbrev pub too_long : List ℕ → Bool
too_long bs = not (nat_le (length bs) 128)

abbrev pub some_too_long : Option (List ℕ) → Bool
some_too_long None = false
some_too_long (Some bs) = too_long bs

-- the first that holds
abbrev pub first_of : List (Bool × EventError) → Option EventError
first_of [] = None
first_of (t ∷ ts) = cond t.0 (Some t.1) (first_of ts)

-- the order of refusals behind the server's faults
abbrev pub refusal : Shortage → Option EventError
refusal s =
    first_of (
    (s.long_text, LongText) ∷
    ((s.regions_full, RegionsFull) ∷
    ((s.table_full, TableFull) ∷
    ((s.host_full, HostFull) ∷
    ((s.store_full, StoreFull) ∷
    ((s.handles_used_up, HandlesUsedUp) ∷ []))))))

-- short of nothing
abbrev pub ample : Shortage
ample = record { long_text = false; regions_full = false; table_full = false; host_full = false; store_full = false; handles_used_up = false }

-- short of one thing or another
abbrev pub of_text : Bool → Shortage → Shortage
of_text b s = record { long_text = b; regions_full = s.regions_full; table_full = s.table_full; host_full = s.host_full; store_full = s.store_full; handles_used_up = s.handles_used_up }

abbrev pub of_regions : Bool → Shortage
of_regions b = record { long_text = false; regions_full = b; table_full = false; host_full = false; store_full = false; handles_used_up = false }

abbrev pub of_rows : Bool → Shortage
of_rows b = record { long_text = false; regions_full = false; table_full = b; host_full = false; store_full = false; handles_used_up = false }

abbrev pub of_notes : Bool → Shortage
of_notes b = record { long_text = false; regions_full = false; table_full = false; host_full = b; store_full = false; handles_used_up = false }

abbrev pub of_places : Bool → Shortage
of_places b = record { long_text = false; regions_full = false; table_full = false; host_full = false; store_full = b; handles_used_up = false }

abbrev pub of_places_and_handles : Bool → Bool → Shortage
of_places_and_handles b h = record { long_text = false; regions_full = false; table_full = false; host_full = false; store_full = b; handles_used_up = h }

-- what the check of a shortage answers
abbrev pub checked : {X : Type 0} → Option EventError → X → Result X EventError
checked (Some e) x = Err e
checked None x = Ok x
