-- What the step of the law takes from the rows: the book's handles, live devices and owners are the model's, and a retired handle is
-- nobody's.
use Rattle.std.proofs.Common.{◌≡◌, ℕ, ◌≤◌, true, Some}
use Rattle.std.specs.Option.{option_map}
use Rattle.ei.specs.declared.object.Object.{Object}
use Rattle.records.specs.Rows.{first}
use Rattle.records.specs.declared.standing.Standing.TheVariants.{Live}
use Rattle.tables.specs.Model.{Model}
use Rattle.tables.specs.Rules.{device_at, owner_of}
use Rattle.law.specs.History.{Book}

pub record Known (b : Book) (m : Model) : Type 0 where
  pub handles : b.handles ≡ m.handles
  pub live : (n : ℕ) → b.live n ≡ option_map (λ row. row.head.handle) (first (device_at n Live) m.devices)
  pub owner : (o : Object) → b.owner o ≡ owner_of o m
  -- a retired handle was given, owns nothing, and is no live device's
  pub given : (h : ℕ) → b.retired h ≡ true → h ≤ m.handles
  pub owns_none : (h : ℕ) (o : Object) → b.retired h ≡ true → owner_of o m ≡ Some h → ⊥
  pub not_live : (h n : ℕ) → b.retired h ≡ true → option_map (λ row. row.head.handle) (first (device_at n Live) m.devices) ≡ Some h → ⊥
