-- The places of an event store, and the room that is reserved for them.
use Rattle.std.specs.Prelude.{ℕ, ◌+◌, ◌≤◌}

-- 256 places for pending and queued events together, and room for that many in either list
pub record Room (pending queued pending_room queued_room : ℕ) : Type 0 where
  pub bounded : pending + queued ≤ 256
  pub pending_reserved : 256 ≤ pending_room
  pub queued_reserved : 256 ≤ queued_room
