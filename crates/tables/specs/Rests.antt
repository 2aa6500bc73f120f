-- What is left of a call once the tables have taken it, and what comes of that.
use Rattle.std.specs.Prelude.{◌≡◌, ℕ, ◌<◌, ◌^◌, Ok, Err, Result, ◌==◌}
use Rattle.ei.specs.declared.error.EventError.{EventError}
use Rattle.ei.specs.declared.event.EiEvent.{EiEvent}
use Rattle.host.specs.declared.Note.TheVariants as notes
use Rattle.records.specs.Rows.{without}
use Rattle.tables.specs.declared.rest.Rest.{Rest}
use Rattle.tables.specs.declared.rest.Rest.TheVariants as rests
use Rattle.tables.specs.Calls.{Call}
use Rattle.tables.specs.Model.{Model, View, Outcome, refused, done, asking, note_asked, unless, with_callbacks}
use Rattle.tables.specs.Outcomes.{handled}
use Rattle.tables.specs.Refusal.{refusal, of_notes}
use Rattle.tables.specs.Rules.{untimed_queued, pinged, callback_at}

-- a known callback is run, and its row is gone
abbrev pub run_once : View → ℕ → ℕ → ℕ → Model → Outcome
run_once v n ticket x m = asking (note_asked (notes.Run ticket x)) (unless (refusal (of_notes (v.spare == 0))) m (done (with_callbacks (without (callback_at n) m.callbacks) m)))

-- what comes of it with a host that shows this
abbrev pub finish : View → Result Rest EventError → Model → Outcome
finish v (Err e) m = refused e m
finish v (Ok rests.Nothing) m = done m
finish v (Ok (rests.Untimed device event)) m = untimed_queued v device event m
finish v (Ok (rests.Pong p)) m = pinged v p m
finish v (Ok (rests.Run n ticket x)) m = run_once v n ticket x m

-- the tables took the call: with any host, what is left gives what the call does
abbrev pub Takes : Call → Model → Result Rest EventError → Model → Type 0
Takes c m r after = (v : View) → finish v r after ≡ handled v c m

-- what a closure gives for a handle is this function of it
abbrev pub Makes : (ℕ → EiEvent → Type 0) → (ℕ → EiEvent) → Type 0
Makes gives make = (h : ℕ) (e : EiEvent) → h < 2 ^ 32 → gives h e → e ≡ make h

-- with any host, what is left gives this
abbrev pub Gives : (View → Outcome) → Result Rest EventError → Model → Type 0
Gives o r after = (v : View) → finish v r after ≡ o v
