-- What comes of a session with the model of the converter, over a kept host.
use Rattle.std.specs.Prelude.{◌≡◌, ℕ, zero, suc, ◌-◌, Bool, true, false, cond, not, List, [], ◌∷◌, ◌++◌, length, is_some, Some, None, Ok, Err, Option, Result, ◌==◌, nat_lt}
use Rattle.ei.specs.Events.{kind_of, handle_of, time_of}
use Rattle.ei.specs.Refusals.{answer_of}
use Rattle.ei.specs.declared.enums.DeviceType.TheVariants as types
use Rattle.ei.specs.declared.error.EventError.{EventError}
use Rattle.ei.specs.declared.event.EiEvent.{EiEvent}
use Rattle.host.specs.Leaving.{places}
use Rattle.host.specs.declared.Note.{Note}
use Rattle.host.specs.declared.Note.TheVariants as notes
use Rattle.records.specs.Owners.{keyboard_of}
use Rattle.store.specs.Moves.{given}
use Rattle.tables.specs.Calls as says
use Rattle.tables.specs.Model.{Model, View, Asked, nothing_asked, time_asked, note_asked, Outcome, fresh, at_some}
use Rattle.tables.specs.Outcomes.{handled}
use Rattle.sessions.specs.Calls.{call_of}
use Rattle.sessions.specs.declared.line.Line.{Line}
use Rattle.sessions.specs.declared.line.Line.TheVariants as lines

-- how a session stands: what the converter holds, the host's reading, and the notes that wait at the host, oldest first
pub record Stage : Type 0 where
  pub model : Model
  pub reading : ℕ
  pub waiting : List Note

abbrev pub begun : ℕ → Stage
begun serial = record { model = fresh serial; reading = 0; waiting = [] }

-- what a call sees of the host
abbrev pub view : Stage → View
view s = record { reading = s.reading; spare = places - length s.waiting }

-- the notes once a call has asked for this; a full host takes none
abbrev pub noted : Asked → List Note → List Note
noted nothing_asked ns = ns
noted time_asked ns = ns
noted (note_asked n) ns = cond (nat_lt (length ns) places) (ns ++ (n ∷ [])) ns

abbrev pub moved : Outcome → Stage → Stage
moved o s = record { model = o.after; reading = s.reading; waiting = noted o.asked s.waiting }

-- Each line leads to how the session stands then, or to none where the line's expectation fails.

abbrev pub if_so : Bool → Stage → Option Stage
if_so b s = cond b (Some s) None

abbrev pub if_answered : Result (Unit {0}) EventError → Stage → Outcome → Option Stage
if_answered a s o = if_so (answer_of o.answer == answer_of a) (moved o s)

-- a call with its answer
abbrev pub called : says.Call → Result (Unit {0}) EventError → Stage → Option Stage
called c a s = if_answered a s (handled (view s) c s.model)

-- so many calls, each done
abbrev pub repeated : ℕ → says.Call → Stage → Option Stage
repeated zero c s = Some s
repeated (suc n) c s = at_some (called c (Ok tt) s) None (repeated n c)

-- calls one after the other, each done
abbrev pub all_called : List says.Call → Stage → Option Stage
all_called [] s = Some s
all_called (c ∷ cs) s = at_some (called c (Ok tt) s) None (all_called cs)

-- seat 101 gets handle 1, and device 201, virtual with keyboard 301, handle 2
abbrev pub setup : List says.Call
setup =
    says.new_seat 101 ∷
    (says.seat_done 101 ∷
    (says.seat_device 101 201 ∷
    (says.device_type 201 types.Virtual ∷
    (says.device_interface 201 (Some (keyboard_of 301)) ∷
    (says.device_done 201 ∷ [])))))

-- the event has this kind, handle and time
abbrev pub is_seen : ℕ → ℕ → ℕ → Option EiEvent → Bool
is_seen kind handle time None = false
is_seen kind handle time (Some e) = cond (kind_of e == kind) (cond (handle_of e == handle) (time_of e == time) false) false

abbrev pub next_seen : ℕ → ℕ → ℕ → Stage → Option Stage
next_seen kind handle time s = cond (is_seen kind handle time (given s.model.store)) (called says.next_event (Ok tt) s) None

abbrev pub none_seen : Stage → Option Stage
none_seen s = if_so (not (is_some (given s.model.store))) s

abbrev pub same_note : Note → Note → Bool
same_note (notes.Pong p x) (notes.Pong q y) = cond (p == q) (x == y) false
same_note (notes.Pong p x) (notes.Run q y) = false
same_note (notes.Pong p x) (notes.Bind q y) = false
same_note (notes.Run p x) (notes.Pong q y) = false
same_note (notes.Run p x) (notes.Run q y) = cond (p == q) (x == y) false
same_note (notes.Run p x) (notes.Bind q y) = false
same_note (notes.Bind p x) (notes.Pong q y) = false
same_note (notes.Bind p x) (notes.Run q y) = false
same_note (notes.Bind p x) (notes.Bind q y) = cond (p == q) (x == y) false

-- the oldest note is taken and is this one, or there is none
abbrev pub taken : Option Note → List Note → Stage → Option Stage
taken None [] s = Some s
taken None (n ∷ ns) s = None
taken (Some m) [] s = None
taken (Some m) (n ∷ ns) s = if_so (same_note m n) (record { model = s.model; reading = s.reading; waiting = ns })

abbrev pub played : Line → Stage → Option Stage
played (lines.Start serial) s = Some (begun serial)
played lines.Setup s = all_called setup s
played (lines.Reading micros) s = Some (record { model = s.model; reading = micros; waiting = s.waiting })
played (lines.Does c) s = called (call_of c) (Ok tt) s
played (lines.Repeats n c) s = repeated n (call_of c) s
played (lines.Refuses c e) s = called (call_of c) (Err e) s
played (lines.AddCallback n ticket answer) s = called (says.add_callback n ticket) answer s
played (lines.Bind seat set answer) s = called (says.bind seat set) answer s
played (lines.Next kind handle time) s = next_seen kind handle time s
played lines.NoNext s = none_seen s
played (lines.Take n) s = taken n s.waiting s
played (lines.Serial serial) s = if_so (s.model.serial == serial) s

-- every line comes out as expected
abbrev pub plays : List Line → Stage → Bool
plays [] s = true
plays (l ∷ ls) s = at_some (played l s) false (plays ls)

abbrev pub ComeOut : List Line → Type 0
ComeOut ls = plays ls (begun 0) ≡ true
