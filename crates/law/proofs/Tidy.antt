-- What waits is timed and has no time yet, whatever was called.
use Rattle.std.proofs.Common.{◌≡◌, ℕ, true, List, [], ◌∷◌, Some, None, filter, Option, sym, subst}
use Rattle.std.proofs.ByRecursion.{all_kept_by, All-push}
use Rattle.std.proofs.lemmas.Bool.{cond_both, eqb-true, false≢true}
use Rattle.std.specs.List.{AllByRecursion}
use Rattle.ei.specs.Events.{device_of, timed, at_time}
use Rattle.ei.specs.declared.event.EiEvent.{EiEvent}
use Rattle.store.proofs.Handles.{hold_done}
use Rattle.store.specs.Moves.{Contents, is_device, of, not_of, pending_for, others, can_hold, hold, pended}
use Rattle.tables.specs.Model.{Model, fresh}
use Rattle.law.proofs.Events.{TimedFor}

abbrev pub Unstamped : EiEvent → Type 0
Unstamped e = (timed e ≡ true) × (at_time 0 e ≡ e)

abbrev pub TidyStore : Contents → Type 0
TidyStore c = AllByRecursion Unstamped c.pending

abbrev pub Tidy : Model → Type 0
Tidy m = TidyStore m.store

pub tidy_start : (serial : ℕ) → Tidy (fresh serial)
tidy_start serial = tt

device_from : (h : ℕ) (o : Option ℕ) → is_device h o ≡ true → o ≡ Some h
device_from h None y = absurd (false≢true y)
device_from h (Some d) y = λ i. Some (eqb-true d h y i)

timed_in : (h : ℕ) (es : List EiEvent) → AllByRecursion Unstamped es → AllByRecursion (TimedFor h) (filter (of h) es)
unfolding of
timed_in h [] a = tt
timed_in h (e ∷ es) a =
    cond_both (of h e) (e ∷ filter (of h) es) (filter (of h) es) (AllByRecursion (TimedFor h)) (λ y. ((a.0.0, device_from h (device_of e) y, a.0.1), timed_in h es a.1)) (λ _. timed_in h es a.1)

-- what waits for a device is its
pub pending_timed : (h : ℕ) (c : Contents) → TidyStore c → AllByRecursion (TimedFor h) (pending_for h c)
unfolding pending_for
pending_timed h c a = timed_in h c.pending a

pub tidy_others : (h : ℕ) (c : Contents) → TidyStore c → AllByRecursion Unstamped (others h c)
unfolding others
tidy_others h c a = all_kept_by (not_of h) Unstamped c.pending a

pub tidy_hold : (e : EiEvent) (c : Contents) → can_hold c ≡ true → Unstamped (at_time 0 e) → TidyStore c → TidyStore (hold e c)
unfolding pended
tidy_hold e c y u a = subst TidyStore (sym (hold_done e c y)) (All-push Unstamped c.pending (at_time 0 e) a u)
