use Rattle.store.proofs.Handles.{hold_law, commit_law, queue_law, queue_framed_law, next_law, discard_law, lengthening, refusing}
use Rattle.store.proofs.laws.store_laws.Goals as goal

pub returns : goal.returns
returns c =
    record { hold = hold_law; commit = commit_law; queue = queue_law; queue_framed = queue_framed_law; next = next_law; discard = discard_law; lengthening = lengthening; refusing = refusing }
