-- An interface list is its entries, and the loops over them.
use mathlib.Core.HLevel.{is_prop→PathP}
use Rattle.std.proofs.Common.{◌≡◌, ℕ, zero, suc, ◌<◌, List, [], ◌∷◌, map, length, get_or, Option, sym, refl, ◌∙◌, arith}
use Rattle.std.proofs.lemmas.List.{ext_get_or, get_or-map, length-map}
use base.Stored.{Coded-set, coded_ℕ}
use Rattle.records.specs.declared.list.Entry.{Entry}
use Rattle.records.specs.declared.list.InterfaceList.{InterfaceList}
use Rattle.records.specs.Listing.{disowned_entry, disowned_entries, length_disowned}

pub same_list : (a b : InterfaceList) → a.entries ≡ b.entries → a ≡ b
same_list a b e = λ i. record { entries = e i; long = is_prop→PathP (λ j. length (e j) ≡ 7) (λ j. Coded-set coded_ℕ (length (e j)) 7) a.long b.long i }

-- a call at each element, or at each pair of them
pub mapped : {X : Type 0} (f : X → X) (xs ys : List X) (n : ℕ) (d : X) → length xs ≡ n → length ys ≡ n → ((k : ℕ) → k < n → get_or ys k d ≡ f (get_or xs k d)) → ys ≡ map f xs
mapped f xs ys n d lx ly h = ext_get_or d ys (map f xs) (ly ∙ sym (length-map xs f ∙ lx)) (λ k b. h k (omega arith) ∙ sym (get_or-map f xs k d d (omega arith)))

disowned_at : (xs es : List (Option Entry)) (k : ℕ) (d : Option Entry) → k < length xs → k < length es → get_or (disowned_entries xs es) k d ≡ disowned_entry (get_or xs k d) (get_or es k d)
disowned_at [] es k d b c = absurd (omega arith)
disowned_at (x ∷ xs) [] k d b c = absurd (omega arith)
disowned_at (x ∷ xs) (e ∷ es) zero d b c = refl
disowned_at (x ∷ xs) (e ∷ es) (suc k) d b c = disowned_at xs es k d (omega arith) (omega arith)

pub all_disowned : (xs es ys : List (Option Entry)) (n : ℕ) (d : Option Entry) → length xs ≡ n → length es ≡ n → length ys ≡ n → ((k : ℕ) → k < n → get_or ys k d ≡ disowned_entry (get_or xs k d) (get_or es k d)) → ys ≡ disowned_entries xs es
all_disowned xs es ys n d lx le ly h = ext_get_or d ys (disowned_entries xs es) (ly ∙ sym (length_disowned xs es ∙ le)) (λ k b. h k (omega arith) ∙ sym (disowned_at xs es k d (omega arith) (omega arith)))
