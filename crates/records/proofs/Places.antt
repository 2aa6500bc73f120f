-- Regions are those in use: one more is one more in the list.
use mathlib.Core.HLevel.{is_prop→PathP}
use Rattle.std.proofs.Common.{◌≡◌, ◌≤◌, length}
use native.Mathlib.Bridge.{le_prop}
use base.Stored.{Coded-set, coded_ℕ}
use Rattle.records.specs.declared.regions.Regions.{Regions}

pub same_regions : (a b : Regions) → a.items ≡ b.items → a.count ≡ b.count → a ≡ b
same_regions a b e f = λ i. record {
  items = e i;
  count = f i;
  long = is_prop→PathP (λ j. length (e j) ≡ 8) (λ j. Coded-set coded_ℕ (length (e j)) 8) a.long b.long i;
  few = is_prop→PathP (λ j. f j ≤ 8) (λ j. le_prop) a.few b.few i;
}
