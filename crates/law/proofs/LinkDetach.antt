-- The link through the end of a live device: it is superseded or destroyed, and at last retired.
use Rattle.std.proofs.Common.{◌≡◌, ℕ, ◌≤◌, Bool, true, false, eqb, List, Some, None, Option, sym, refl, ap, ◌∙◌, subst, ⊎_elim}
use Rattle.std.proofs.ByRecursion.{All-weaker}
use Rattle.std.proofs.lemmas.Bool.{cond-true, cond-false, cases_Bool, both_ways, eqb-true, eq-eqb, cond_both}
use Rattle.std.specs.Option.{option_map}
use Rattle.std.specs.List.{AllZip, AllByRecursion}
use Rattle.ei.specs.declared.capability.DeviceCapability.{DeviceCapability}
use Rattle.ei.specs.declared.object.Object.{Object}
use Rattle.records.specs.Devices.{superseded, destroyed}
use Rattle.records.specs.Heads.{detached_head}
use Rattle.records.specs.Listing.{lists}
use Rattle.records.specs.Owners.{owns_it}
use Rattle.records.specs.Rows.{first, changed, without, same_standing}
use Rattle.records.specs.declared.device.DeviceRow.{DeviceRow}
use Rattle.records.specs.declared.standing.Standing.{Standing}
use Rattle.records.specs.declared.standing.Standing.TheVariants.{Pending, Live, Detached}
use Rattle.tables.specs.Rules.{device_at, device_by_handle}
use Rattle.law.specs.History.{Book, put, holds, with_live, with_lists, with_retired}
use Rattle.law.proofs.Link.{Linked, Sound, handle_of, listing, pending}
use Rattle.law.proofs.LinkHeads.{at_standing_is, at_other, at_other_number, live_settled, by_own_handle, by_handle_is, other_handle}
use Rattle.law.proofs.LinkKept.{sound_at_one}
use Rattle.law.proofs.LinkLists.{objects_none, owns_none, owns_listed, holds_lists}
use Rattle.law.proofs.LinkRows.{Alike, some_same, mapped_some, mapped_none, all_first, first_passes, first_nobody, nobody_first, changed_out, all_both, all_without, first_without, lone_without, without_itself, each_changed, each_all, each_first, each_lone}

-- the live device of a number is detached: it remains to look at what is listed and owned
pub detach : (b : Book) (hs : ℕ) (xs : List DeviceRow) → Linked b hs xs → (n : ℕ) (f : DeviceRow → DeviceRow) → ((x : DeviceRow) → (f x).head ≡ detached_head x.head)
    → (lists : ℕ → DeviceCapability → Option ℕ)
    → ((o : Object) → b.owner o ≡ option_map handle_of (first (owns_it o) (changed (device_at n Live) f xs)))
    → ((o : Object) → AllZip (λ x y. owns_it o x ≡ false → owns_it o y ≡ false) xs (changed (device_at n Live) f xs))
    → AllByRecursion (Sound lists b.retired hs) (changed (device_at n Live) f xs)
    → Linked (with_lists lists (with_live (put b.live n None) b)) hs (changed (device_at n Live) f xs)
detach b hs xs l n f heads lists owned fewer sound =
    let q : DeviceRow → Bool = device_at n Live in
    let ys : List DeviceRow = changed q f xs in
    let gone : (k : ℕ) (s : Standing) → same_standing Detached s ≡ false → (x : DeviceRow) → device_at k s (f x) ≡ false = λ k s d x. at_other k s Detached (f x) (ap (λ h. h.standing) (heads x)) d in
    let handles : (h : ℕ) (x : DeviceRow) → q x ≡ true → device_by_handle h x ≡ false → device_by_handle h (f x) ≡ false = λ h x u t. by_own_handle h (f x) (ap (λ w. same_standing w.standing Pending) (heads x)) ∙ (ap (λ w. eqb w.handle h) (heads x) ∙ other_handle h x t (live_settled n x u)) in
    record {
      counted = l.counted;
      set_up = λ k. l.set_up k ∙ sym (each_first (device_at k Pending) listing xs ys (each_changed (Alike (device_at k Pending) listing) q f (λ x. (refl, λ _. refl)) xs
          (λ x w. let was = at_other k Pending Live x (at_standing_is n Live x (first_passes q xs x w)) refl in (gone k Pending refl x ∙ sym was, λ u. absurd (both_ways _ was u)))));
      alive = λ k. cond_both (eqb k n) _ _ (λ w. w ≡ option_map handle_of (first (device_at k Live) ys))
          (λ t. subst (λ j. None ≡ option_map handle_of (first (device_at j Live) ys)) (sym (eqb-true k n t)) (sym (ap (option_map handle_of) (nobody_first q ys (changed_out q f (λ x _. gone n Live refl x) xs (l.one_live n))))))
          (λ t. l.alive k ∙ sym (each_first (device_at k Live) handle_of xs ys (each_changed (Alike (device_at k Live) handle_of) q f (λ x. (refl, λ _. refl)) xs
          (λ x w. let was = at_other_number k n Live Live x (first_passes q xs x w) t in (gone k Live refl x ∙ sym was, λ u. absurd (both_ways _ was u))))));
      owned = owned;
      one_pending = λ k. each_lone (device_at k Pending) xs ys (each_changed _ q f (λ x t. t) xs (λ x _ _. gone k Pending refl x)) (l.one_pending k);
      one_live = λ k. each_lone (device_at k Live) xs ys (each_changed _ q f (λ x t. t) xs (λ x _ _. gone k Live refl x)) (l.one_live k);
      one_handle = λ h. each_lone (device_by_handle h) xs ys (each_changed _ q f (λ x t. t) xs (λ x w t. handles h x (first_passes q xs x w) t)) (l.one_handle h);
      one_owner = λ o. each_lone (owns_it o) xs ys (fewer o) (l.one_owner o);
      sound = sound;
      was_given = l.was_given;
    }

-- it keeps its list
pub supersede : (b : Book) (hs : ℕ) (xs : List DeviceRow) → Linked b hs xs → (n : ℕ) → Linked (with_live (put b.live n None) b) hs (changed (device_at n Live) superseded xs)
supersede b hs xs l n =
    let q : DeviceRow → Bool = device_at n Live in
    let ys : List DeviceRow = changed q superseded xs in
    let S : DeviceRow → Type 0 = Sound b.lists b.retired hs in
    detach b hs xs l n superseded (λ x. refl) b.lists
    (λ o. l.owned o ∙ sym (each_first (owns_it o) handle_of xs ys (each_changed (Alike (owns_it o) handle_of) q superseded (λ x. (refl, λ _. refl)) xs (λ x _. (refl, λ _. refl)))))
    (λ o. each_changed _ q superseded (λ x t. t) xs (λ x _ t. t))
    (each_all S S xs ys (each_changed _ q superseded (λ x s. s) xs
    (λ x w s. let p = live_settled n x (first_passes q xs x w) in
    record { owns_nothing = λ t. absurd (both_ways false refl t); given = λ _. s.given p; listed = λ _. s.listed p; current = λ _. s.current p }))
    l.sound)

-- it lists nothing more, once nobody owns what it listed
pub destroy : (b : Book) (hs : ℕ) (xs : List DeviceRow) → Linked b hs xs → (n h : ℕ) → b.live n ≡ Some h → ((o : Object) → holds (b.lists h o.kind) o.number ≡ true → b.owner o ≡ None) → Linked (with_lists (put b.lists h (λ _. None)) (with_live (put b.live n None) b)) hs (changed (device_at n Live) destroyed xs)
destroy b hs xs l n h e free =
    let q : DeviceRow → Bool = device_at n Live in
    let ys : List DeviceRow = changed q destroyed xs in
    let S : DeviceRow → Type 0 = Sound b.lists b.retired hs in
    let found = mapped_some handle_of (first q xs) h (sym (l.alive n) ∙ e) in
    let r : DeviceRow = found.0 in
    let s : S r = all_first S q xs r l.sound found.1 in
    let at_r : pending r ≡ false = live_settled n r (first_passes q xs r found.1) in
    let listed : b.lists h ≡ listing r = ap b.lists (sym found.2) ∙ s.listed at_r in
    let unowned : (o : Object) → owns_it o r ≡ false = λ o. ⊎_elim (λ t. all_first (λ y. owns_it o y ≡ false) q xs r (first_nobody (owns_it o) xs (mapped_none handle_of _ (sym (l.owned o) ∙ free o (ap (λ w. holds (w o.kind) o.number) listed ∙ (holds_lists o r.list ∙ t))))) found.1) (λ t. owns_listed o r.list t) (cases_Bool (lists o r.list)) in
    let unowned_at : (o : Object) (x : DeviceRow) → first q xs ≡ Some x → owns_it o x ≡ false = λ o x w. subst (λ y. owns_it o y ≡ false) (some_same (sym found.1 ∙ w)) (unowned o) in
    detach b hs xs l n destroyed (λ x. refl) (put b.lists h (λ _. None))
    (λ o. l.owned o ∙ sym (each_first (owns_it o) handle_of xs ys (each_changed (Alike (owns_it o) handle_of) q destroyed (λ x. (refl, λ _. refl)) xs (λ x w. (owns_none o ∙ sym (unowned_at o x w), λ _. refl)))))
    (λ o. each_changed _ q destroyed (λ x t. t) xs (λ x _ _. owns_none o))
    (sound_at_one b hs xs l q destroyed h (λ _. None) r found.1 at_r found.2
    (record { owns_nothing = λ t. absurd (both_ways false refl t); given = λ _. s.given at_r; listed = λ _. cond-true (eqb (handle_of r) h) _ _ (eq-eqb (handle_of r) h found.2) ∙ sym objects_none; current = λ _. s.current at_r }))

-- the row of a detached device that owns nothing is freed
pub retire : (b : Book) (hs : ℕ) (xs : List DeviceRow) → Linked b hs xs → (h : ℕ) (r : DeviceRow) → first (device_by_handle h) xs ≡ Some r → r.head.standing ≡ Detached → ((o : Object) → owns_it o r ≡ false) → Linked (with_retired (put b.retired h true) b) hs (without (device_by_handle h) xs)
retire b hs xs l h r e stands unowned =
    let q : DeviceRow → Bool = device_by_handle h in
    let S : DeviceRow → Type 0 = Sound b.lists b.retired hs in
    let is_r : (x : DeviceRow) → first q xs ≡ Some x → r ≡ x = λ x w. some_same (sym e ∙ w) in
    let kept : (p : DeviceRow → Bool) → p r ≡ false → first p (without q xs) ≡ first p xs = λ p t. first_without p q xs (λ x w. subst (λ y. p y ≡ false) (is_r x w) t) in
    let own = by_handle_is h r (first_passes q xs r e) in
    let s : S r = all_first S q xs r l.sound e in
    record {
      counted = l.counted;
      set_up = λ k. l.set_up k ∙ sym (ap (option_map listing) (kept (device_at k Pending) (at_other k Pending Detached r stands refl)));
      alive = λ k. l.alive k ∙ sym (ap (option_map handle_of) (kept (device_at k Live) (at_other k Live Detached r stands refl)));
      owned = λ o. l.owned o ∙ sym (ap (option_map handle_of) (kept (owns_it o) (unowned o)));
      one_pending = λ k. lone_without (device_at k Pending) q xs (l.one_pending k);
      one_live = λ k. lone_without (device_at k Live) q xs (l.one_live k);
      one_handle = λ k. lone_without (device_by_handle k) q xs (l.one_handle k);
      one_owner = λ o. lone_without (owns_it o) q xs (l.one_owner o);
      sound = All-weaker (λ x. S x × (q x ≡ false)) (Sound b.lists (put b.retired h true) hs)
          (λ x t. record { owns_nothing = t.0.owns_nothing; given = t.0.given; listed = t.0.listed; current = λ p. cond-false (eqb (handle_of x) h) _ _ (other_handle h x t.1 p) ∙ t.0.current p })
          (without q xs) (all_both S (λ x. q x ≡ false) (without q xs) (all_without S q xs l.sound) (without_itself q xs (l.one_handle h)));
      was_given = λ k t. ⊎_elim
          (λ u. subst (λ j. j ≤ hs) (own.1 ∙ sym (eqb-true k h u)) (s.given own.0))
          (λ u. l.was_given k (sym (cond-false (eqb k h) _ _ u) ∙ t))
          (cases_Bool (eqb k h));
    }
