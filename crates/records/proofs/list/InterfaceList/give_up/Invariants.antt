use Rattle.std.proofs.Common.{◌≡◌, ℕ, ◌<◌, ◌≤◌, length, get_or, None}
use Rattle.records.specs.Listing.{disowned_entry}
use Rattle.records.proofs.list.InterfaceList.give_up.Given as goal

-- the entries so far are given up, and the others as they were
abbrev pub invariant-loop-kind : goal.invariant-loop-kind
invariant-loop-kind l = record {
  long : length l.entry-items ≡ 7;
  so_far : (k : ℕ) → k < l.kind → get_or l.entry-items k None ≡ disowned_entry (get_or l.other.entries k None) (get_or l.initial.entry-items k None);
  others : (k : ℕ) → l.kind ≤ k → get_or l.entry-items k None ≡ get_or l.initial.entry-items k None;
}
