use Rattle.std.proofs.Common.{◌≡◌, true, [], ◌∷◌, ◌++◌, map, deque_items, filter, sym, refl, ap, ◌∙◌}
use Rattle.std.proofs.lemmas.Bool.{cond-true, cond-false}
use Rattle.std.proofs.lemmas.List.{append_assoc}
use Rattle.ei.specs.Events.{at_time}
use Rattle.ei.specs.declared.event.EiEvent.TheVariants as event
use Rattle.store.specs.Moves.{not_of, has_pending, pending_for, others, can_commit, framed}
use Rattle.store.proofs.Handles.{commit_done, framed_none}
use Rattle.store.proofs.Stores.{same_contents, batch_some}
use Rattle.store.proofs.kept.EventStore.commit.Goals as goal

pub returns-then-not-has_pending-clause-after : goal.returns-then-not-has_pending-clause-after
unfolding can_commit
returns-then-not-has_pending-clause-after c =
    let s = c.args.self.now in
    let f = c.args.frame in
    let none = sym c.if-not-has_pending.ensures in
    let fit : can_commit f s ≡ true = cond-false (has_pending f.device s) _ _ none in
    sym (commit_done f s fit ∙ framed_none f s none)

pub returns-clause-after : goal.returns-clause-after
unfolding can_commit framed others pending_for has_pending
returns-clause-after c =
    let s = c.args.self.now in
    let f = c.args.frame in
    let es = pending_for f.device s in
    let pending : c.self.inside.pending.items ≡ s.pending = ap (λ v. v.pending) c.self.view_is in
    let queued : deque_items c.self.inside.queued ≡ s.queued = ap (λ v. v.queued) c.self.view_is in
    let moved : deque_items c.queue_at.new.queued ≡ s.queued ++ map (at_time f.time) es =
    rw (c.queue_at.ensures.items, c.deref.ensures.value, pending, queued) refl in
    let all : deque_items c.push_back_reserved.new.self ≡ (framed f s).queued =
    c.push_back_reserved.ensures.items
    ∙ (ap (λ l. l ++ (event.Frame f ∷ [])) moved
    ∙ (append_assoc s.queued (map (at_time f.time) es) (event.Frame f ∷ []) ∙ ap (λ l. s.queued ++ l) (sym (batch_some f es (sym c.if-not-has_pending.ensures))))) in
    let fit : can_commit f s ≡ true = cond-true (has_pending f.device s) _ _ (sym c.if-not-has_pending.ensures) ∙ (sym c.fits.ensures ∙ c.in_ok-unless.ensures.ok) in
    same_contents (c.take_out.ensures.items ∙ ap (filter (not_of f.device)) pending) all ∙ sym (commit_done f s fit)
