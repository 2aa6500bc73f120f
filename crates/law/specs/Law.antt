-- The record law: what the calls and answers of a session, the queued list and what is pending have to do with each other.
use Rattle.std.specs.Prelude.{◌≡◌, ℕ, Bool, true, false, cond, List, [], ◌∷◌, ◌++◌, map, Some, None, filter, Option}
use Rattle.std.specs.List.{AllByRecursion}
use Rattle.ei.specs.Events.{device_of, timed, is_frame, time_of, at_time}
use Rattle.ei.specs.declared.event.EiEvent.{EiEvent}
use Rattle.law.specs.History.{Entry, book, holds, accepted, since, queued_by, given_by, at_some, server_time}

-- a timed event of this handle
abbrev pub timed_of_handle : ℕ → EiEvent → Bool
timed_of_handle h e = cond (timed e) (holds (device_of e) h) false

-- the timed events of a handle in a list, without their times
abbrev pub timed_of : ℕ → List EiEvent → List EiEvent
timed_of h q = map (at_time 0) (filter (timed_of_handle h) q)

abbrev pub same_device : Option ℕ → Option ℕ → Bool
same_device (Some a) b = holds b a
same_device None b = false

-- the time of the first Frame of a device in a list
abbrev pub next_frame : Option ℕ → List EiEvent → Option ℕ
next_frame d [] = None
next_frame d (e ∷ q) = cond (cond (is_frame e) (same_device d (device_of e)) false) (Some (time_of e)) (next_frame d q)

-- each timed event has the time of the next Frame of its handle, and there is one
abbrev pub Stamped : List EiEvent → Type 0
Stamped [] = Unit {0}
Stamped (e ∷ q) = (timed e ≡ true → next_frame (device_of e) q ≡ Some (time_of e)) × Stamped q

-- each Frame directly follows a timed event of its handle
abbrev pub Follows : EiEvent → EiEvent → Type 0
Follows e f = is_frame f ≡ true → (timed e ≡ true) × (device_of e ≡ device_of f)

abbrev pub FramedAfter : EiEvent → List EiEvent → Type 0
FramedAfter e [] = Unit {0}
FramedAfter e (f ∷ q) = Follows e f × FramedAfter f q

abbrev pub Framed : List EiEvent → Type 0
Framed [] = Unit {0}
Framed (e ∷ q) = (is_frame e ≡ false) × FramedAfter e q

-- the time of a Frame that a call queues: the server's timestamp where it is a server's Frame, and the host's reading as the call began
-- where an untimed device event forces it
abbrev pub frame_time : Entry → ℕ
frame_time e = at_some (server_time e.call) e.reading (λ t. t)

-- each call only lengthens the queued list, and each Frame that it adds has the time of that call
abbrev pub Lengthened : List Entry → Type 0
Lengthened [] = Unit {0}
Lengthened (e ∷ es) =
    ((added : List EiEvent) × (e.queued ≡ queued_by es ++ added) × AllByRecursion (λ x. is_frame x ≡ true → time_of x ≡ frame_time e) added) × Lengthened es

-- pending says, by handle, what the store holds for it besides what is queued; left is what next_event would still give
pub record Faithful (es : List Entry) (pending : ℕ → List EiEvent) (left : List EiEvent) : Type 0 where
  -- the timed events accepted for a handle that is not retired are, in order, those queued and then those pending, each once
  pub nothing_lost : (h : ℕ) → (book es).retired h ≡ false → accepted h es ≡ timed_of h (queued_by es) ++ pending h
  -- pending are those accepted since the last Frame or untimed device event accepted for the handle
  pub waiting : (h : ℕ) → (book es).retired h ≡ false → pending h ≡ since h es
  -- retired or not, what is queued for a handle was accepted for it, in this order and unchanged
  pub unchanged : (h : ℕ) → (rest : List EiEvent) × (accepted h es ≡ timed_of h (queued_by es) ++ rest)
  -- each queued timed event has the time of its handle's next queued Frame, and there is one
  pub stamped : Stamped (queued_by es)
  -- each queued Frame directly follows a timed event of its handle
  pub framed : Framed (queued_by es)
  -- each call only lengthens the queued list, and its Frames' times are accounted for
  pub lengthened : Lengthened es
  -- the queued list is what next_event has given, then what it would still give
  pub handed_out : queued_by es ≡ given_by es ++ left
