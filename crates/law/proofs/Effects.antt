-- The two kinds of step: one that queues plain events and takes nothing that waits, and one that queues all that waits for a device.
use Rattle.std.proofs.Common.{◌≡◌, ℕ, true, false, eqb, List, [], ◌++◌, filter, sym, ap, ◌∙◌, subst, ⊎_elim}
use Rattle.std.proofs.ByRecursion.{All-append, All-weaker}
use Rattle.std.proofs.lemmas.List.{append-nil}
use Rattle.std.proofs.lemmas.Bool.{cases_Bool, both_ways, eqb-true, eqb-false, ne_eqb}
use Rattle.std.specs.List.{AllByRecursion}
use Rattle.ei.specs.Events.{is_frame, time_of}
use Rattle.ei.specs.declared.event.EiEvent.{EiEvent}
use Rattle.ei.specs.declared.event.Frame.{Frame}
use Rattle.store.proofs.Handles.{others_none, others_same}
use Rattle.store.specs.Moves.{Contents, of, pending_for, others, batch}
use Rattle.law.specs.History.{Entry, Book, booked, press, bound}
use Rattle.law.specs.Law.{timed_of, frame_time}
use Rattle.law.proofs.Batches.{Batched, batched}
use Rattle.law.proofs.Events.{Plain}
use Rattle.law.proofs.Lists.{timed_of_append, stamped_append, framed_append, stamped_plain, framed_plain, timed_of_plain}
use Rattle.law.proofs.Steps.{listed, Fate, settled, awaits, Step}
use Rattle.law.proofs.Tidy.{TidyStore, Unstamped, pending_timed, tidy_others}

-- plain events have no frame whose time is to be told
times_plain : (t : ℕ) (q : List EiEvent) → AllByRecursion Plain q → AllByRecursion (λ x. is_frame x ≡ true → time_of x ≡ t) q
times_plain t q a = All-weaker Plain (λ x. is_frame x ≡ true → time_of x ≡ t) (λ x p y. absurd (both_ways (is_frame x) p.1 y)) q a

-- What waits, once the events of one device are gone.

pub own_gone : (h : ℕ) (before after : Contents) → after.pending ≡ others h before → pending_for h after ≡ []
unfolding pending_for others
own_gone h before after p = ap (filter (of h)) p ∙ others_none h before.pending

pub others_stay : (h k : ℕ) (before after : Contents) → after.pending ≡ others h before → eqb h k ≡ false → pending_for k after ≡ pending_for k before
unfolding pending_for others
others_stay h k before after p n = ap (filter (of k)) p ∙ others_same h k (λ e. eqb-false h k n (sym e)) before.pending

module _ (b : Book) (e : Entry) (before after : Contents) (q : List EiEvent) (plain : AllByRecursion Plain q) where
  pub free_step : before.queued ++ q ≡ listed e.given ++ after.queued → ((h : ℕ) → bound h b e ≡ false) → ((h : ℕ) → (booked b e.call e.answer).retired h ≡ false → pending_for h after ≡ pending_for h before ++ press h b e) → TidyStore after → Step b e before after
  free_step moves free waits tidy = record {
    added = q;
    moves = moves;
    stamped = stamped_plain q plain;
    framed = framed_plain q plain;
    times = times_plain (frame_time e) q plain;
    fate = λ h _. awaits (free h) (timed_of_plain h q plain) (waits h);
    retired = λ h _. timed_of_plain h q plain;
    tidy = tidy;
  }

  module _ (f : Frame) (time : f.time ≡ frame_time e) (tidy : TidyStore before) where
    abbrev waited : List EiEvent
    waited = pending_for f.device before

    the_batch : Batched f (frame_time e) waited (batch f waited)
    the_batch = batched f (frame_time e) time waited (pending_timed f.device before tidy)

    -- the plain events behind the batch are nobody's timed ones
    only_batch : (h : ℕ) → timed_of h (batch f waited ++ q) ≡ timed_of h (batch f waited)
    only_batch h = timed_of_append h (batch f waited) q ∙ (ap (λ l. timed_of h (batch f waited) ++ l) (timed_of_plain h q plain) ∙ append-nil (timed_of h (batch f waited)))

    module _ (gone : after.pending ≡ others f.device before) (bounds : (h : ℕ) → bound h b e ≡ eqb f.device h) (no_press : (h : ℕ) → press h b e ≡ []) where
      own_fate : (h : ℕ) → eqb f.device h ≡ true → Fate b e (batch f waited ++ q) h (pending_for h before) (pending_for h after)
      own_fate h y =
          let same : f.device ≡ h = eqb-true f.device h y in
          settled (bounds h ∙ y) (no_press h) (only_batch h ∙ (the_batch.own h y ∙ ap (λ k. pending_for k before) same)) (ap (λ k. pending_for k after) (sym same) ∙ own_gone f.device before after gone)

      other_fate : (h : ℕ) → eqb f.device h ≡ false → Fate b e (batch f waited ++ q) h (pending_for h before) (pending_for h after)
      other_fate h n =
          awaits (bounds h ∙ n) (only_batch h ∙ the_batch.others h n) (λ _. others_stay f.device h before after gone n ∙ (sym (append-nil (pending_for h before)) ∙ ap (λ l. pending_for h before ++ l) (sym (no_press h))))

      pub bound_step : before.queued ++ (batch f waited ++ q) ≡ listed e.given ++ after.queued → b.retired f.device ≡ false → Step b e before after
      bound_step moves current = record {
        added = batch f waited ++ q;
        moves = moves;
        stamped = stamped_append (batch f waited) q the_batch.stamped (stamped_plain q plain);
        framed = framed_append (batch f waited) q the_batch.framed (framed_plain q plain);
        times = All-append (λ x. is_frame x ≡ true → time_of x ≡ frame_time e) (batch f waited) q the_batch.times (times_plain (frame_time e) q plain);
        fate = λ h _. ⊎_elim (own_fate h) (other_fate h) (cases_Bool (eqb f.device h));
        retired = λ h r. only_batch h ∙ the_batch.others h (ne_eqb f.device h (λ s. both_ways (b.retired h) (ap b.retired (sym s) ∙ current) r));
        tidy = subst (AllByRecursion Unstamped) (sym gone) (tidy_others f.device before tidy);
      }
