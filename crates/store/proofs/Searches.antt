-- A search of a list, as the store's questions say it.
use Rattle.std.proofs.Common.{◌≡◌, Bool, true, false, cond, List, [], ◌∷◌, filter, refl}
use Rattle.std.specs.Prelude.{◌||◌}
use Rattle.std.specs.List.{list_any}
use Rattle.ei.specs.declared.event.EiEvent.{EiEvent}
use Rattle.store.specs.Moves.{some}

some_step : (b : Bool) (e : EiEvent) (found : Bool) (es : List EiEvent) → found ≡ some es → (b || found) ≡ some (cond b (e ∷ es) es)
some_step true e found es h = refl
some_step false e found es h = h

-- one passes a test, as a filter tells it
pub some_filter : (p : EiEvent → Bool) (es : List EiEvent) → list_any p es ≡ some (filter p es)
some_filter p [] = refl
some_filter p (e ∷ es) = some_step (p e) e (list_any p es) (filter p es) (some_filter p es)
