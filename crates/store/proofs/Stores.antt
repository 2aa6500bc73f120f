-- A store and its contents.
use Rattle.std.proofs.Common.{◌≡◌, ℕ, ◌+◌, ◌≤◌, true, List, [], ◌∷◌, ◌++◌, map, length, filter, refl, ap, ◌∙◌}
use Rattle.std.proofs.lemmas.List.Filters.{length-filter_both}
use Rattle.std.proofs.lemmas.Bool.{leb-true, le-leb}
use Rattle.ei.specs.Events.{at_time}
use Rattle.ei.specs.declared.event.EiEvent.{EiEvent}
use Rattle.ei.specs.declared.event.EiEvent.TheVariants as event
use Rattle.ei.specs.declared.event.Frame.{Frame}
use Rattle.store.specs.Moves.{Contents, held, fits, some, of, not_of, batch}

pub same_contents : {p p' q q' : List EiEvent} → p ≡ p' → q ≡ q' → ◌≡◌ {A = Contents} (record { pending = p; queued = q }) (record { pending = p'; queued = q' })
same_contents {p} {p'} {q} {q'} e f =
    ap (λ (l : List EiEvent). let c : Contents = record { pending = l; queued = q } in c) e ∙ ap (λ (l : List EiEvent). let c : Contents = record { pending = p'; queued = l } in c) f

pub fits_true : (n : ℕ) (c : Contents) → fits n c ≡ true → held c + n ≤ 256
unfolding fits
fits_true n c e = leb-true (held c + n) 256 e

pub fits_from : (n : ℕ) (c : Contents) → held c + n ≤ 256 → fits n c ≡ true
unfolding fits
fits_from n c h = le-leb (held c + n) 256 h

-- A device's events and the others are all the events.
pub both_parts : (h : ℕ) (es : List EiEvent) → length (filter (of h) es) + length (filter (not_of h) es) ≡ length es
unfolding not_of
both_parts h es = length-filter_both (of h) (not_of h) (λ _. refl) es

pub batch_some : (f : Frame) (es : List EiEvent) → some es ≡ true → batch f es ≡ map (at_time f.time) es ++ (event.Frame f ∷ [])
unfolding batch
batch_some f [] t = cc
batch_some f (e ∷ es) t = refl
