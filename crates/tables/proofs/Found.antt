-- What some row or some entry passes, by a search.
use Rattle.std.proofs.Common.{◌≡◌, Bool, true, false, cond, List, [], ◌∷◌, length, slice_index_or, Some, None, Option, refl, is_some, ◌||◌, ◌∙◌, arith}
use Rattle.std.specs.List.{list_any}
use Rattle.ei.specs.Capabilities.{every_capability, index_of}
use Rattle.records.specs.declared.list.Entry.{Entry}
use Rattle.records.specs.declared.list.InterfaceList.{InterfaceList}
use Rattle.records.specs.Listing.{entry_at}
use Rattle.records.specs.Rows.{any, first}
use Rattle.tables.specs.Rules.{owns_any}

-- an entry that is owned
abbrev pub is_owned : Option Entry → Bool
is_owned None = false
is_owned (Some e) = e.owned

pub owns_any_is : (es : List (Option Entry)) → list_any is_owned es ≡ owns_any es
owns_any_is [] = refl
owns_any_is (None ∷ es) = owns_any_is es
owns_any_is (Some e ∷ es) = by e.owned (owns_any_is es)
  where
    by : (b : Bool) → list_any is_owned es ≡ owns_any es → list_any is_owned (Some (record { object = e.object; owned = b }) ∷ es) ≡ cond b true (owns_any es)
    by true r = refl
    by false r = r

by_kind : (es : List (Option Entry)) → length es ≡ 7 → list_any (λ k. is_owned (slice_index_or es (index_of k) None)) every_capability ≡ list_any is_owned es
by_kind [] h = absurd (omega (arith, h))
by_kind (a ∷ []) h = absurd (omega (arith, h))
by_kind (a ∷ (b ∷ [])) h = absurd (omega (arith, h))
by_kind (a ∷ (b ∷ (c ∷ []))) h = absurd (omega (arith, h))
by_kind (a ∷ (b ∷ (c ∷ (d ∷ [])))) h = absurd (omega (arith, h))
by_kind (a ∷ (b ∷ (c ∷ (d ∷ (e ∷ []))))) h = absurd (omega (arith, h))
by_kind (a ∷ (b ∷ (c ∷ (d ∷ (e ∷ (f ∷ [])))))) h = absurd (omega (arith, h))
by_kind (a ∷ (b ∷ (c ∷ (d ∷ (e ∷ (f ∷ (g ∷ []))))))) h = refl
by_kind (a ∷ (b ∷ (c ∷ (d ∷ (e ∷ (f ∷ (g ∷ (x ∷ es)))))))) h = absurd (omega (arith, h))

-- some kind is owned where some entry is
pub owned_by_kind : (l : InterfaceList) → list_any (λ k. is_owned (entry_at l k)) every_capability ≡ owns_any l.entries
owned_by_kind l = by_kind l.entries l.long ∙ owns_any_is l.entries

-- a row is found where some row passes
pub found_any : {X : Type 0} (p : X → Bool) (xs : List X) → list_any p xs ≡ any p xs
found_any p [] = refl
found_any p (x ∷ xs) = by (p x) (found_any p xs)
  where
    by : (b : Bool) → list_any p xs ≡ any p xs → (b || list_any p xs) ≡ is_some (cond b (Some x) (first p xs))
    by true r = refl
    by false r = r
