use Rattle.std.proofs.Common.{◌≡◌, true, sym, ap, ◌∙◌}
use Rattle.store.specs.Moves.{done_if, fits, can_queue_framed, queue, framed}
use Rattle.store.proofs.Handles.{framed_first, framed_next, commit_done, queue_done, queue_framed_done}
use Rattle.store.proofs.kept.EventStore.queue_framed.Goals as goal

-- where the two fit, the frame is not refused
pub returns-in_err-commit : goal.returns-in_err-commit
unfolding can_queue_framed
returns-in_err-commit c =
    let s = c.args.self.now in
    let f = c.args.frame in
    let e : can_queue_framed f s ≡ true = sym c.can_queue_framed.ensures ∙ c.in_ok-unless.ensures.ok in
    cc (c.in_err-commit.ensures.answer ∙ ap done_if (framed_first f s e))

pub returns : goal.returns
unfolding can_queue_framed
returns c =
    let s = c.args.self.now in
    let f = c.args.frame in
    let e : can_queue_framed f s ≡ true = sym c.can_queue_framed.ensures ∙ c.in_ok-unless.ensures.ok in
    let mid : c.commit.new.self ≡ framed f s = c.commit.ensures.after ∙ commit_done f s (framed_first f s e) in
    record {
      answer = c.queue.ensures.answer ∙ (ap (λ m. done_if (fits 1 m)) mid ∙ (ap done_if (framed_next f s e) ∙ sym (ap done_if e)));
      after = c.queue.ensures.after ∙ (ap (queue c.args.event) mid ∙ (queue_done c.args.event (framed f s) (framed_next f s e) ∙ sym (queue_framed_done f c.args.event s e)));
    }
