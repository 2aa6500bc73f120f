-- The law of a new converter, and of one more call.
use Rattle.std.proofs.Common.{ℕ, List, [], ◌∷◌, refl}
use Rattle.store.specs.Moves.{pending_for}
use Rattle.tables.specs.Calls.{Call}
use Rattle.tables.specs.Model.{Model, View, fresh}
use Rattle.tables.specs.Outcomes.{handled}
use Rattle.law.specs.History.{Entry, book}
use Rattle.law.specs.Law.{Faithful}
use Rattle.law.specs.Runs.{entry_of, Run, start, more, pending_of, RecordLaw}
use Rattle.law.proofs.Handled.{moved}
use Rattle.law.proofs.Known.{Known}
use Rattle.law.proofs.Steps.{faithful_step}
use Rattle.law.proofs.Tidy.{Tidy, tidy_start}

pub law_start : (s : ℕ) → Faithful [] (pending_of (fresh s)) []
unfolding pending_for
law_start s = record { nothing_lost = λ _ _. refl; waiting = λ _ _. refl; unchanged = λ _. ([], refl); stamped = tt; framed = tt; lengthened = tt; handed_out = refl }

pub law_step : (es : List Entry) (m : Model) → Known (book es) m → Tidy m → Faithful es (pending_of m) m.store.queued → (v : View) (c : Call) → Faithful (entry_of es v c m ∷ es) (pending_of (handled v c m).after) (handled v c m).after.store.queued
law_step es m k t f v c = faithful_step es (entry_of es v c m) m.store (handled v c m).after.store (moved (record { es = es; v = v; m = m; k = k; tidy = t }) c).step refl f

pub tidy_step : (es : List Entry) (m : Model) → Known (book es) m → Tidy m → (v : View) (c : Call) → Tidy (handled v c m).after
tidy_step es m k t v c = (moved (record { es = es; v = v; m = m; k = k; tidy = t }) c).step.tidy

-- with the link between the book and the rows, the law of every run
module _ (link : (es : List Entry) (m : Model) → Run es m → Known (book es) m) where
  tidy_faithful : {es : List Entry} {m : Model} → Run es m → Tidy m × Faithful es (pending_of m) m.store.queued
  tidy_faithful (start s) = (tidy_start s, law_start s)
  tidy_faithful (more {es = es} {m = m} r v c) =
      (tidy_step es m (link es m r) (tidy_faithful r).0 v c, law_step es m (link es m r) (tidy_faithful r).0 (tidy_faithful r).1 v c)

  pub record_law_from : RecordLaw
  record_law_from es m r = (tidy_faithful r).1
