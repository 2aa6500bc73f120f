-- The head of a record: number, standing and handle.
use Rattle.std.specs.Prelude.{ℕ}
use Rattle.records.specs.declared.standing.Head.{Head}
use Rattle.records.specs.declared.standing.Standing.TheVariants.{Pending, Live, Detached}

-- a record that is to be set up
abbrev pub new_head : ℕ → Head
new_head n = record { number = n; standing = Pending; handle = 0 }

abbrev pub live_head : ℕ → Head → Head
live_head h x = record { number = x.number; standing = Live; handle = h }

abbrev pub detached_head : Head → Head
detached_head x = record { number = x.number; standing = Detached; handle = x.handle }
