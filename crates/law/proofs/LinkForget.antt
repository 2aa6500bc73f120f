-- The link through the end of an owned object.
use Rattle.std.proofs.Common.{◌≡◌, ℕ, Bool, true, false, eqb, List, get_or, Some, None, Option, sym, refl, ap, ◌∙◌, arith}
use Rattle.std.proofs.ByRecursion.{All-weaker}
use Rattle.std.proofs.lemmas.Bool.{cond-true, both_ways, eqb-true, eq-eqb, cond_both}
use Rattle.std.proofs.lemmas.Bool.Decides.{nat_tests}
use Rattle.std.specs.Option.{option_map}
use Rattle.ei.specs.Capabilities.{index_of}
use Rattle.ei.specs.declared.capability.DeviceCapability.{DeviceCapability}
use Rattle.ei.specs.declared.object.Object.{Object}
use Rattle.records.specs.Devices.{device_with_list}
use Rattle.records.specs.Listing.{entry_at, owned_as, owns, with_entry}
use Rattle.records.specs.Owners.{owns_it}
use Rattle.records.specs.Rows.{first, changed}
use Rattle.records.specs.declared.device.DeviceRow.{DeviceRow}
use Rattle.records.specs.declared.list.Entry.{Entry}
use Rattle.records.specs.declared.list.InterfaceList.{InterfaceList}
use Rattle.records.specs.declared.standing.Standing.TheVariants.{Pending}
use Rattle.tables.specs.Rules.{device_at}
use Rattle.law.specs.History.{Book, put, put_kind, same_kind, same_object, object_ended}
use Rattle.law.proofs.Link.{Linked, Sound, handle_of, listing, pending}
use Rattle.law.proofs.LinkHeads.{both_of, pending_is, owner_settled}
use Rattle.law.proofs.LinkKept.{SameHead, relinked, sound_again, sound_at_one}
use Rattle.law.proofs.LinkLists.{objects_with, owns_with}
use Rattle.law.proofs.LinkRows.{Alike, mapped_some, all_first, first_passes, nobody_first, changed_out, each_changed, each_first}

-- the object of a kind is taken off a row's list
abbrev pub forgetting : DeviceCapability → DeviceRow → DeviceRow
forgetting c row = device_with_list (with_entry c None row.list) row

-- the entry of a kind goes by its place
same_entry : (c d : DeviceCapability) (l : InterfaceList) → same_kind c d ≡ true → entry_at l c ≡ entry_at l d
same_entry c d l t = ap (λ i. get_or l.entries i None) (eqb-true (index_of c) (index_of d) t)

-- two names of an object
same_owns : (p o : Object) → same_object p o ≡ true → (l : InterfaceList) → owns p l ≡ owns o l
same_owns p o t l =
    let both = both_of (same_kind p.kind o.kind) (eqb p.number o.number) t in
    ap (owned_as p.number) (same_entry p.kind o.kind l both.0) ∙ ap (λ n. owned_as n (entry_at l o.kind)) (eqb-true p.number o.number both.1)

-- an entry is one object
owned_once : (n k : ℕ) (e : Option Entry) → owned_as n e ≡ true → eqb k n ≡ false → owned_as k e ≡ false
owned_once n k None t d = refl
owned_once n k (Some e) t d = grind (arith, nat_tests)

-- a row owns one object of a kind
owns_one : (p o : Object) (l : InterfaceList) → owns o l ≡ true → same_kind p.kind o.kind ≡ true → same_object p o ≡ false → owns p l ≡ false
owns_one p o l t s d =
    ap (owned_as p.number) (same_entry p.kind o.kind l s) ∙ owned_once o.number p.number (entry_at l o.kind) t (sym (cond-true (same_kind p.kind o.kind) _ _ s) ∙ d)

-- what is forgotten is not owned, and another object is owned as before
forgotten : (o : Object) (row : DeviceRow) → owns_it o (forgetting o.kind row) ≡ false
forgotten o row = owns_with o o.kind None row.list ∙ cond-true (same_kind o.kind o.kind) _ _ (eq-eqb (index_of o.kind) (index_of o.kind) refl)

-- another object is owned as before
not_forgotten : (p o : Object) (row : DeviceRow) → owns_it o row ≡ true → same_object p o ≡ false → owns_it p (forgetting o.kind row) ≡ owns_it p row
not_forgotten p o row t d =
    owns_with p o.kind None row.list ∙ cond_both (same_kind p.kind o.kind) false _ (λ w. w ≡ owns_it p row) (λ s. sym (owns_one p o row.list t s d)) (λ _. refl)

-- nothing comes to be owned
none_more : (p : Object) (c : DeviceCapability) (row : DeviceRow) → owns_it p row ≡ false → owns_it p (forgetting c row) ≡ false
none_more p c row t = owns_with p c None row.list ∙ cond_both (same_kind p.kind c) false _ (λ w. w ≡ false) (λ _. refl) (λ _. t)

-- an owned object is forgotten by its owner
pub forget : (b : Book) (hs : ℕ) (xs : List DeviceRow) → Linked b hs xs → (o : Object) (h : ℕ) → b.owner o ≡ Some h → Linked (object_ended o h b) hs (changed (owns_it o) (forgetting o.kind) xs)
forget b hs xs l o h e =
    let q : DeviceRow → Bool = owns_it o in
    let f : DeviceRow → DeviceRow = forgetting o.kind in
    let ys : List DeviceRow = changed q f xs in
    let v : DeviceCapability → Option ℕ = put_kind (b.lists h) o.kind None in
    let S : DeviceRow → Type 0 = Sound b.lists b.retired hs in
    let settled : (x : DeviceRow) → first q xs ≡ Some x → pending x ≡ false = λ x w. owner_settled o x (all_first S q xs x l.sound w) (first_passes q xs x w) in
    let found = mapped_some handle_of (first q xs) h (sym (l.owned o) ∙ e) in
    let r : DeviceRow = found.0 in
    let s : S r = all_first S q xs r l.sound found.1 in
    let at_r : pending r ≡ false = settled r found.1 in
    relinked b hs xs ys l (each_changed SameHead q f (λ x. refl) xs (λ x _. refl)) b.setup (put b.lists h v) (object_ended o h b).owner
    (λ n. l.set_up n ∙ sym (each_first (device_at n Pending) listing xs ys (each_changed (Alike (device_at n Pending) listing) q f (λ x. (refl, λ _. refl)) xs (λ x w. (refl, λ u. absurd (both_ways (pending x) (settled x w) (pending_is n x u)))))))
    (λ p. cond_both (same_object p o) _ _ (λ w. w ≡ option_map handle_of (first (owns_it p) ys))
    (λ t. sym (ap (option_map handle_of) (nobody_first (owns_it p) ys (All-weaker (λ y. owns_it o y ≡ false) _ (λ y u. same_owns p o t y.list ∙ u) ys (changed_out q f (λ x _. forgotten o x) xs (l.one_owner o))))))
    (λ t. l.owned p ∙ sym (each_first (owns_it p) handle_of xs ys (each_changed (Alike (owns_it p) handle_of) q f (λ x. (refl, λ _. refl)) xs (λ x w. (not_forgotten p o x (first_passes q xs x w) t, λ _. refl))))))
    (λ p. each_changed _ q f (λ x t. t) xs (λ x _ t. none_more p o.kind x t))
    (sound_at_one b hs xs l q f h v r found.1 at_r found.2
    (sound_again r (f r) refl s (λ t. absurd (both_ways (pending r) at_r t))
    (λ t. cond-true (eqb (handle_of r) h) _ _ (eq-eqb (handle_of r) h found.2) ∙ (ap (λ w. put_kind w o.kind None) (ap b.lists (sym found.2) ∙ s.listed t) ∙ sym (objects_with o.kind None r.list)))))
