use Rattle.std.proofs.Common.{refl}
use Rattle.ei.specs.Texts.{text_of, padded}
use Rattle.records.specs.Listing.{no_entries, with_entry, all_owned, given_up}
use Rattle.records.specs.Places.{no_regions}
use Rattle.store.specs.Moves.{of, not_of, pending_for, others, has_pending, held, fits, pended, added, batch, framed, can_hold, hold, can_commit, commit, queue, can_queue_framed, queue_framed, given, rest}
use Rattle.sessions.proofs.worked.worked_sessions_hold.Goals as goal

-- the model computes it
pub returns : goal.returns
unfolding text_of padded no_entries with_entry all_owned given_up no_regions of not_of pending_for others has_pending held fits pended added batch framed can_hold hold can_commit commit queue can_queue_framed queue_framed given rest
returns c = refl
