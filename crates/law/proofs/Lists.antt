-- Filters, times and frames of lists that are put together.
use Rattle.std.proofs.Common.{◌≡◌, ℕ, Bool, false, cond, List, [], ◌∷◌, ◌++◌, map, Some, filter, Option, sym, refl, ap, ◌∙◌, ⊎_elim, arith}
use Rattle.std.proofs.lemmas.List.Elements.{filter-append}
use Rattle.std.proofs.ByRecursion.{All-weaker}
use Rattle.std.proofs.lemmas.List.{map-append}
use Rattle.std.proofs.lemmas.Bool.{cases_Bool, cond-true, cond-false, both_ways}
use Rattle.std.specs.List.{AllByRecursion}
use Rattle.ei.specs.Events.{device_of, timed, is_frame, time_of, at_time}
use Rattle.ei.specs.declared.event.EiEvent.{EiEvent}
use Rattle.law.specs.Law.{timed_of_handle, timed_of, same_device, next_frame, Stamped, FramedAfter, Framed}
use Rattle.law.proofs.Events.{Plain}

module _ {X : Type 0} (p : X → Bool) where
  -- none passes
  pub kept_nothing : (xs : List X) → AllByRecursion (λ x. p x ≡ false) xs → filter p xs ≡ []
  kept_nothing [] a = refl
  kept_nothing (x ∷ xs) a = cond-false (p x) _ _ a.0 ∙ kept_nothing xs a.1

pub timed_of_append : (h : ℕ) (q r : List EiEvent) → timed_of h (q ++ r) ≡ timed_of h q ++ timed_of h r
timed_of_append h q r = ap (map (at_time 0)) (filter-append (timed_of_handle h) q r) ∙ map-append (at_time 0) (filter (timed_of_handle h) q) (filter (timed_of_handle h) r)

-- the next frame is found before what is appended
next_frame_append : (d : Option ℕ) (t : ℕ) (q r : List EiEvent) → next_frame d q ≡ Some t → next_frame d (q ++ r) ≡ Some t
next_frame_append d t [] r n = let z : ◌≡◌ {A = ℕ} 0 1 = cc in absurd (omega arith)
next_frame_append d t (e ∷ q) r n =
    let b : Bool = cond (is_frame e) (same_device d (device_of e)) false in
    ⊎_elim
    (λ y. cond-true b _ _ y ∙ (sym (cond-true b _ _ y) ∙ n))
    (λ y. cond-false b _ _ y ∙ next_frame_append d t q r (sym (cond-false b _ _ y) ∙ n))
    (cases_Bool b)

pub stamped_append : (q r : List EiEvent) → Stamped q → Stamped r → Stamped (q ++ r)
stamped_append [] r s u = u
stamped_append (e ∷ q) r s u = (λ t. next_frame_append (device_of e) (time_of e) q r (s.0 t), stamped_append q r s.1 u)

-- no frame comes first, so any event may come before
framed_behind : (e : EiEvent) (r : List EiEvent) → Framed r → FramedAfter e r
framed_behind e [] f = tt
framed_behind e (x ∷ r) f = (λ y. absurd (both_ways (is_frame x) f.0 y), f.1)

framed_after_append : (e : EiEvent) (q r : List EiEvent) → FramedAfter e q → Framed r → FramedAfter e (q ++ r)
framed_after_append e [] r f g = framed_behind e r g
framed_after_append e (x ∷ q) r f g = (f.0, framed_after_append x q r f.1 g)

pub framed_append : (q r : List EiEvent) → Framed q → Framed r → Framed (q ++ r)
framed_append [] r f g = g
framed_append (e ∷ q) r f g = (f.0, framed_after_append e q r f.1 g)

-- Of plain events.

pub stamped_plain : (q : List EiEvent) → AllByRecursion Plain q → Stamped q
stamped_plain [] a = tt
stamped_plain (e ∷ q) a = (λ t. absurd (both_ways (timed e) a.0.0 t), stamped_plain q a.1)

pub framed_plain : (q : List EiEvent) → AllByRecursion Plain q → Framed q
framed_plain [] a = tt
framed_plain (e ∷ q) a = (a.0.1, framed_behind e q (framed_plain q a.1))

pub timed_of_plain : (h : ℕ) (q : List EiEvent) → AllByRecursion Plain q → timed_of h q ≡ []
timed_of_plain h q a = ap (map (at_time 0)) (kept_nothing (timed_of_handle h) q (All-weaker Plain (λ e. timed_of_handle h e ≡ false) (λ e p. cond-false (timed e) _ _ p.0) q a))
