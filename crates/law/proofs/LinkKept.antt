-- The link through what leaves every row's number, standing and handle: a description, an interface object more, objects given up.
use Rattle.std.proofs.Common.{◌≡◌, ℕ, ◌≤◌, Bool, true, false, cond, eqb, List, map, Some, None, Option, sym, refl, ap, ◌∙◌, subst, ⊎_elim}
use Rattle.std.proofs.ByRecursion.{All-weaker, All-map}
use Rattle.std.proofs.lemmas.Bool.{cond-true, cond-false, cases_Bool, both_ways, eqb-true, cond_both}
use Rattle.std.specs.Option.{option_map}
use Rattle.std.specs.List.{AllZip, AllByRecursion}
use Rattle.ei.specs.declared.capability.DeviceCapability.{DeviceCapability}
use Rattle.ei.specs.declared.object.Object.{Object}
use Rattle.records.specs.Devices.{device_with_list, with_object}
use Rattle.records.specs.Listing.{lists, owns, given_up}
use Rattle.records.specs.Owners.{owns_it}
use Rattle.records.specs.Rows.{first, changed, without, same_standing}
use Rattle.records.specs.declared.device.DeviceRow.{DeviceRow}
use Rattle.records.specs.declared.list.InterfaceList.{InterfaceList}
use Rattle.records.specs.declared.standing.Standing.{Standing}
use Rattle.records.specs.declared.standing.Standing.TheVariants.{Pending, Live}
use Rattle.tables.specs.Rules.{device_at, device_by_handle}
use Rattle.law.specs.History.{Book, put, put_kind, same_kind, holds, at_some, with_owner, equipped}
use Rattle.law.proofs.Link.{Linked, Sound, handle_of, listing, pending}
use Rattle.law.proofs.LinkHeads.{at_other_number, other_handle, found_by_handle, pending_is, same_at, same_by_handle}
use Rattle.law.proofs.LinkLists.{objects, objects_with, objects_given_up, owns_with, owns_given_up, holds_lists}
use Rattle.law.proofs.LinkRows.{Alike, all_both, all_changed, all_without, others_fail, all_here, all_first, first_passes, nobody_first, each_changed, each_map, each_weaker, each_all, each_lone, each_first, first_changed_itself}

-- the number, the standing and the handle are the same
abbrev pub SameHead : DeviceRow → DeviceRow → Type 0
SameHead x y = y.head ≡ x.head

-- a row of the same head is sound where it owns nothing while it is set up, and is listed
pub sound_again : {lists lists' : ℕ → DeviceCapability → Option ℕ} {retired : ℕ → Bool} {hs : ℕ} (x y : DeviceRow) → SameHead x y → Sound lists retired hs x → (pending x ≡ true → (o : Object) → owns_it o y ≡ false) → (pending x ≡ false → lists' (handle_of x) ≡ listing y) → Sound lists' retired hs y
sound_again {lists' = lists'} {retired = retired} {hs = hs} x y e s none is =
    let was : pending x ≡ pending y = sym (ap (λ h. same_standing h.standing Pending) e) in
    let named : handle_of x ≡ handle_of y = sym (ap (λ h. h.handle) e) in
    record { owns_nothing = λ p. none (was ∙ p); given = λ p. subst (λ h. h ≤ hs) named (s.given (was ∙ p)); listed = λ p. subst (λ h. lists' h ≡ listing y) named (is (was ∙ p)); current = λ p. subst (λ h. retired h ≡ false) named (s.current (was ∙ p)) }

-- where the heads are kept it remains to look at what is listed and owned
pub relinked : (b : Book) (hs : ℕ) (xs ys : List DeviceRow) → Linked b hs xs → AllZip SameHead xs ys
    → (setup : ℕ → Option (DeviceCapability → Option ℕ)) (lists : ℕ → DeviceCapability → Option ℕ) (owner : Object → Option ℕ)
    → ((n : ℕ) → setup n ≡ option_map listing (first (device_at n Pending) ys))
    → ((o : Object) → owner o ≡ option_map handle_of (first (owns_it o) ys))
    → ((o : Object) → AllZip (λ x y. owns_it o x ≡ false → owns_it o y ≡ false) xs ys)
    → AllByRecursion (Sound lists b.retired hs) ys
    → Linked (record { handles = b.handles; setup = setup; live = b.live; lists = lists; owner = owner; retired = b.retired }) hs ys
relinked b hs xs ys l heads setup lists owner set_up owned fewer sound =
    let at : (n : ℕ) (s : Standing) → AllZip (λ x y. device_at n s x ≡ false → device_at n s y ≡ false) xs ys = λ n s. each_weaker SameHead _ (λ x y e t. same_at n s x y e ∙ t) xs ys heads in
    record {
      counted = l.counted;
      set_up = set_up;
      alive = λ n. l.alive n ∙ sym (each_first (device_at n Live) handle_of xs ys (each_weaker SameHead _ (λ x y e. (same_at n Live x y e, λ _. ap (λ h. h.handle) e)) xs ys heads));
      owned = owned;
      one_pending = λ n. each_lone (device_at n Pending) xs ys (at n Pending) (l.one_pending n);
      one_live = λ n. each_lone (device_at n Live) xs ys (at n Live) (l.one_live n);
      one_handle = λ h. each_lone (device_by_handle h) xs ys (each_weaker SameHead _ (λ x y e t. same_by_handle h x y e ∙ t) xs ys heads) (l.one_handle h);
      one_owner = λ o. each_lone (owns_it o) xs ys (fewer o) (l.one_owner o);
      sound = sound;
      was_given = l.was_given;
    }

-- a row is described: its head and its list are kept
pub redescribed : (b : Book) (hs : ℕ) (xs : List DeviceRow) → Linked b hs xs → (q : DeviceRow → Bool) (f : DeviceRow → DeviceRow) → ((x : DeviceRow) → (f x).head ≡ x.head) → ((x : DeviceRow) → (f x).list ≡ x.list) → Linked b hs (changed q f xs)
redescribed b hs xs l q f heads lists =
    let ys : List DeviceRow = changed q f xs in
    let Kept : DeviceRow → DeviceRow → Type 0 = λ x y. (y.head ≡ x.head) × (y.list ≡ x.list) in
    let kept : AllZip Kept xs ys = each_changed Kept q f (λ x. (refl, refl)) xs (λ x _. (heads x, lists x)) in
    relinked b hs xs ys l (each_weaker Kept SameHead (λ x y e. e.0) xs ys kept) b.setup b.lists b.owner
    (λ n. l.set_up n ∙ sym (each_first (device_at n Pending) listing xs ys (each_weaker Kept _ (λ x y e. (same_at n Pending x y e.0, λ _. ap objects e.1)) xs ys kept)))
    (λ o. l.owned o ∙ sym (each_first (owns_it o) handle_of xs ys (each_weaker Kept _ (λ x y e. (ap (owns o) e.1, λ _. ap (λ h. h.handle) e.0)) xs ys kept)))
    (λ o. each_weaker Kept _ (λ x y e t. ap (owns o) e.1 ∙ t) xs ys kept)
    (each_all (Sound b.lists b.retired hs) (Sound b.lists b.retired hs) xs ys
    (each_weaker Kept _ (λ x y e s. sound_again x y e.0 s (λ p o. ap (owns o) e.1 ∙ s.owns_nothing p o) (λ p. s.listed p ∙ sym (ap objects e.1))) xs ys kept)
    l.sound)

-- a device lists one object more, and owns what it owned
abbrev pub with_one : Object → DeviceRow → DeviceRow
with_one o row = device_with_list (with_object o row.list) row

-- what was not owned is not
unowned_with : (o p : Object) (row : DeviceRow) → owns_it p row ≡ false → owns_it p (with_one o row) ≡ false
unowned_with o p row t = owns_with p o.kind _ row.list ∙ cond_both (same_kind p.kind o.kind) false _ (λ w. w ≡ false) (λ _. refl) (λ _. t)

-- what the book has of a device after one object more
abbrev more_listed : Object → Option (DeviceCapability → Option ℕ) → Option (DeviceCapability → Option ℕ)
more_listed o w = at_some w None (λ l. Some (put_kind l o.kind (Some o.number)))

-- the list that the book has is the row's
listed_with : (o : Object) (w : Option DeviceRow) → more_listed o (option_map listing w) ≡ option_map listing (option_map (with_one o) w)
listed_with o None = refl
listed_with o (Some row) = ap Some (sym (objects_with o.kind _ row.list))

-- a device that is being set up lists one object more
pub equip : (b : Book) (hs : ℕ) (xs : List DeviceRow) → Linked b hs xs → (n : ℕ) (o : Object) → Linked (equipped n o b) hs (changed (device_at n Pending) (with_one o) xs)
equip b hs xs l n o =
    let q : DeviceRow → Bool = device_at n Pending in
    let ys : List DeviceRow = changed q (with_one o) xs in
    let S : DeviceRow → Type 0 = Sound b.lists b.retired hs in
    let owns_not : (p : Object) (x : DeviceRow) → first q xs ≡ Some x → owns_it p x ≡ false = λ p x e. (all_first S q xs x l.sound e).owns_nothing (pending_is n x (first_passes q xs x e)) p in
    relinked b hs xs ys l (each_changed SameHead q (with_one o) (λ x. refl) xs (λ x _. refl)) (equipped n o b).setup b.lists b.owner
    (λ k. cond_both (eqb k n) _ _ (λ w. w ≡ option_map listing (first (device_at k Pending) ys))
    (λ t. subst (λ j. more_listed o (b.setup n) ≡ option_map listing (first (device_at j Pending) ys)) (sym (eqb-true k n t)) (ap (more_listed o) (l.set_up n) ∙ (listed_with o (first q xs) ∙ sym (ap (option_map listing) (first_changed_itself q (with_one o) (λ x u. u) xs)))))
    (λ t. l.set_up k ∙ sym (each_first (device_at k Pending) listing xs ys (each_changed (Alike (device_at k Pending) listing) q (with_one o) (λ x. (refl, λ _. refl)) xs (λ x e. (refl, λ v. absurd (both_ways _ (at_other_number k n Pending Pending x (first_passes q xs x e) t) v)))))))
    (λ p. l.owned p ∙ sym (each_first (owns_it p) handle_of xs ys (each_changed (Alike (owns_it p) handle_of) q (with_one o) (λ x. (refl, λ _. refl)) xs (λ x e. (unowned_with o p x (owns_not p x e) ∙ sym (owns_not p x e), λ _. refl)))))
    (λ p. each_changed _ q (with_one o) (λ x t. t) xs (λ x _ t. unowned_with o p x t))
    (each_all S S xs ys (each_changed _ q (with_one o) (λ x s. s) xs (λ x e s. sound_again x (with_one o x) refl s (λ p k. unowned_with o k x (s.owns_nothing p k)) (λ p. absurd (both_ways (pending x) p (pending_is n x (first_passes q xs x e)))))) l.sound)

-- whatever lists them, the objects of a list are nobody's
abbrev pub less : InterfaceList → DeviceRow → DeviceRow
less other row = device_with_list (given_up other row.list) row

-- the objects of a list are given up by all
pub give_up : (b : Book) (hs : ℕ) (xs : List DeviceRow) → Linked b hs xs → (other : InterfaceList) → Linked (with_owner (λ o. cond (holds (objects other o.kind) o.number) None (b.owner o)) b) hs (map (less other) xs)
give_up b hs xs l other =
    let ys : List DeviceRow = map (less other) xs in
    let S : DeviceRow → Type 0 = Sound b.lists b.retired hs in
    let freed : (o : Object) → holds (objects other o.kind) o.number ≡ true → (x : DeviceRow) → owns_it o (less other x) ≡ false = λ o t x. owns_given_up o other x.list ∙ cond-true (lists o other) _ _ (sym (holds_lists o other) ∙ t) in
    let kept : (o : Object) → holds (objects other o.kind) o.number ≡ false → (x : DeviceRow) → owns_it o (less other x) ≡ owns_it o x = λ o t x. owns_given_up o other x.list ∙ cond-false (lists o other) _ _ (sym (holds_lists o other) ∙ t) in
    let fewer : (o : Object) (x : DeviceRow) → owns_it o x ≡ false → owns_it o (less other x) ≡ false = λ o x u. ⊎_elim (λ t. freed o t x) (λ t. kept o t x ∙ u) (cases_Bool (holds (objects other o.kind) o.number)) in
    relinked b hs xs ys l (each_map SameHead (less other) xs (all_here _ (λ x. refl) xs)) b.setup b.lists (λ o. cond (holds (objects other o.kind) o.number) None (b.owner o))
    (λ n. l.set_up n ∙ sym (each_first (device_at n Pending) listing xs ys (each_map (Alike (device_at n Pending) listing) (less other) xs (all_here _ (λ x. (refl, λ _. objects_given_up other x.list)) xs))))
    (λ o. cond_both (holds (objects other o.kind) o.number) _ _ (λ w. w ≡ option_map handle_of (first (owns_it o) ys))
    (λ t. sym (ap (option_map handle_of) (nobody_first (owns_it o) ys (All-map (λ y. owns_it o y ≡ false) (less other) xs (all_here _ (freed o t) xs)))))
    (λ t. l.owned o ∙ sym (each_first (owns_it o) handle_of xs ys (each_map (Alike (owns_it o) handle_of) (less other) xs (all_here _ (λ x. (kept o t x, λ _. refl)) xs)))))
    (λ o. each_map _ (less other) xs (all_here _ (fewer o) xs))
    (All-map S (less other) xs (All-weaker S _ (λ x s. sound_again x (less other x) refl s (λ p o. fewer o x (s.owns_nothing p o)) (λ p. s.listed p ∙ sym (objects_given_up other x.list))) xs l.sound))

-- Another list under one handle.

-- the rows of other handles do not see it
pub sound_elsewhere : (lists : ℕ → DeviceCapability → Option ℕ) (retired : ℕ → Bool) (hs h : ℕ) (v : DeviceCapability → Option ℕ) (xs : List DeviceRow) → AllByRecursion (Sound lists retired hs) xs → AllByRecursion (λ x. device_by_handle h x ≡ false) xs → AllByRecursion (Sound (put lists h v) retired hs) xs
sound_elsewhere lists retired hs h v xs sound others =
    All-weaker (λ x. Sound lists retired hs x × (device_by_handle h x ≡ false)) _
    (λ x s. record { owns_nothing = s.0.owns_nothing; given = s.0.given; listed = λ p. cond-false (eqb (handle_of x) h) _ _ (other_handle h x s.1 p) ∙ s.0.listed p; current = s.0.current })
    xs (all_both (Sound lists retired hs) (λ x. device_by_handle h x ≡ false) xs sound others)

-- the row of the handle is changed with it
pub sound_at_one : (b : Book) (hs : ℕ) (xs : List DeviceRow) → Linked b hs xs → (q : DeviceRow → Bool) (f : DeviceRow → DeviceRow) (h : ℕ) (v : DeviceCapability → Option ℕ) (r : DeviceRow) → first q xs ≡ Some r → pending r ≡ false → handle_of r ≡ h → Sound (put b.lists h v) b.retired hs (f r) → AllByRecursion (Sound (put b.lists h v) b.retired hs) (changed q f xs)
sound_at_one b hs xs l q f h v r e settled named now =
    all_changed (Sound (put b.lists h v) b.retired hs) q f xs r e now
    (sound_elsewhere b.lists b.retired hs h v (without q xs) (all_without (Sound b.lists b.retired hs) q xs l.sound)
    (others_fail (device_by_handle h) q xs r e (subst (λ k. device_by_handle k r ≡ true) named (found_by_handle r settled)) (l.one_handle h)))
