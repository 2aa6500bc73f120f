-- The link through the Done of a device: it is live under the next handle and owns what it lists, which nobody owned.
use Rattle.std.proofs.Common.{◌≡◌, ℕ, ◌+◌, ◌<◌, Bool, true, false, cond, eqb, List, Some, None, Option, sym, refl, ap, ◌∙◌, subst, ⊎_elim, arith}
use Rattle.std.proofs.ByRecursion.{All-weaker}
use Rattle.std.proofs.lemmas.Bool.{cond-true, cond-false, cases_Bool, both_ways, eqb-true, eq-eqb, ne_eqb, cond_both}
use Rattle.std.specs.Option.{option_map}
use Rattle.ei.specs.declared.capability.DeviceCapability.{DeviceCapability}
use Rattle.ei.specs.declared.object.Object.{Object}
use Rattle.records.specs.Devices.{gone_live}
use Rattle.records.specs.Owners.{owns_it}
use Rattle.records.specs.Rows.{first, changed, without}
use Rattle.records.specs.declared.device.DeviceRow.{DeviceRow}
use Rattle.records.specs.declared.standing.Standing.TheVariants.{Pending, Live}
use Rattle.tables.specs.Rules.{device_at, device_by_handle}
use Rattle.law.specs.History.{Book, put, holds, with_owner, with_lists, with_live, with_setup, with_handles, finished}
use Rattle.law.proofs.Link.{Linked, Sound, handle_of, listing, pending}
use Rattle.law.proofs.LinkHeads.{at_number_is, at_standing_is, at_other, at_own, at_other_number, pending_is, by_own_handle}
use Rattle.law.proofs.LinkLists.{objects_owned, owns_all, holds_lists}
use Rattle.law.proofs.LinkRows.{Alike, Nobody, mapped_some, mapped_none, all_first, first_passes, first_nobody, nobody_first, changed_out, all_without, all_changed, each_changed, each_first, first_changed_by, lone_changed_by}

-- the book after a device is done under this handle
abbrev finished_as : ℕ → ℕ → (DeviceCapability → Option ℕ) → Book → Book
finished_as h n v b =
    with_owner (λ o. cond (holds (v o.kind) o.number) (Some h) (b.owner o))
    (with_lists (put b.lists h v)
    (with_live (put b.live n (Some h))
    (with_setup (put b.setup n None)
    (with_handles h b))))

-- no row has a handle that was not given
ungiven : {lists : ℕ → DeviceCapability → Option ℕ} {retired : ℕ → Bool} {hs : ℕ} (k : ℕ) → hs < k → (x : DeviceRow) → Sound lists retired hs x → device_by_handle k x ≡ false
ungiven k high x s = ⊎_elim (λ p. cond-true (pending x) _ _ p) (λ p. by_own_handle k x p ∙ ne_eqb (handle_of x) k (λ e. omega (arith, s.given p))) (cases_Bool (pending x))

-- one handle more, under which this is listed
sound_next : (lists : ℕ → DeviceCapability → Option ℕ) (retired : ℕ → Bool) (hs : ℕ) (v : DeviceCapability → Option ℕ) (x : DeviceRow) → Sound lists retired hs x → Sound (put lists (hs + 1) v) retired (hs + 1) x
sound_next lists retired hs v x s =
    record { owns_nothing = s.owns_nothing; given = λ p. omega (arith, s.given p); listed = λ p. cond-false (eqb (handle_of x) (hs + 1)) _ _ (ne_eqb (handle_of x) (hs + 1) (λ e. omega (arith, s.given p))) ∙ s.listed p; current = s.current }

-- the pending device of a number is live, under the handle after the last
finish_as : (b : Book) (hs : ℕ) (xs : List DeviceRow) → Linked b hs xs → (n : ℕ) (v : DeviceCapability → Option ℕ) → b.setup n ≡ Some v → b.live n ≡ None → ((o : Object) → holds (v o.kind) o.number ≡ true → b.owner o ≡ None) → Linked (finished_as (hs + 1) n v b) (hs + 1) (changed (device_at n Pending) (gone_live (hs + 1)) xs)
finish_as b hs xs l n v is not_live free =
    let h : ℕ = hs + 1 in
    let q : DeviceRow → Bool = device_at n Pending in
    let g : DeviceRow → DeviceRow = gone_live h in
    let ys : List DeviceRow = changed q g xs in
    let S : DeviceRow → Type 0 = Sound b.lists b.retired hs in
    let found = mapped_some listing (first q xs) v (sym (l.set_up n) ∙ is) in
    let r : DeviceRow = found.0 in
    let e : first q xs ≡ Some r = found.1 in
    let u : q r ≡ true = first_passes q xs r e in
    let s : S r = all_first S q xs r l.sound e in
    let at : (k : ℕ) → device_at k Live (g r) ≡ eqb k n = λ k. at_own k n Live (g r) (at_number_is n Pending r u) refl in
    let none_live : (k : ℕ) → eqb k n ≡ true → Nobody (device_at k Live) xs = λ k t. first_nobody (device_at k Live) xs (mapped_none handle_of _ (sym (l.alive k) ∙ (ap b.live (eqb-true k n t) ∙ not_live))) in
    let owns : (o : Object) → owns_it o (g r) ≡ holds (v o.kind) o.number = λ o. owns_all o r.list ∙ (sym (holds_lists o r.list) ∙ ap (λ w. holds (w o.kind) o.number) found.2) in
    let none_owns : (o : Object) → holds (v o.kind) o.number ≡ true → Nobody (owns_it o) xs = λ o t. first_nobody (owns_it o) xs (mapped_none handle_of _ (sym (l.owned o) ∙ free o t)) in
    let none_has : (k : ℕ) → eqb h k ≡ true → Nobody (device_by_handle k) xs = λ k t. All-weaker S _ (ungiven k (let same = eqb-true h k t in omega arith)) xs l.sound in
    record {
      counted = refl;
      set_up = λ k. cond_both (eqb k n) _ _ (λ w. w ≡ option_map listing (first (device_at k Pending) ys))
          (λ t. subst (λ j. None ≡ option_map listing (first (device_at j Pending) ys)) (sym (eqb-true k n t)) (sym (ap (option_map listing) (nobody_first q ys (changed_out q g (λ x _. at_other n Pending Live (g x) refl refl) xs (l.one_pending n))))))
          (λ t. l.set_up k ∙ sym (each_first (device_at k Pending) listing xs ys (each_changed (Alike (device_at k Pending) listing) q g (λ x. (refl, λ _. refl)) xs
          (λ x w. let was = at_other_number k n Pending Pending x (first_passes q xs x w) t in (at_other k Pending Live (g x) refl refl ∙ sym was, λ z. absurd (both_ways _ was z))))));
      alive = λ k. ap (cond (eqb k n) (Some h)) (l.alive k) ∙ sym (first_changed_by (device_at k Live) q g handle_of xs r e (at_other k Live Pending r (at_standing_is n Pending r u) refl) (eqb k n) (at k) (none_live k));
      owned = λ o. ap (cond (holds (v o.kind) o.number) (Some h)) (l.owned o) ∙ sym (first_changed_by (owns_it o) q g handle_of xs r e (s.owns_nothing (pending_is n r u) o) (holds (v o.kind) o.number) (owns o) (none_owns o));
      one_pending = λ k. lone_changed_by (device_at k Pending) q g xs r e false (at_other k Pending Live (g r) refl refl) (λ t. absurd (both_ways false refl t)) (l.one_pending k);
      one_live = λ k. lone_changed_by (device_at k Live) q g xs r e (eqb k n) (at k) (none_live k) (l.one_live k);
      one_handle = λ k. lone_changed_by (device_by_handle k) q g xs r e (eqb h k) refl (none_has k) (l.one_handle k);
      one_owner = λ o. lone_changed_by (owns_it o) q g xs r e (holds (v o.kind) o.number) (owns o) (none_owns o) (l.one_owner o);
      sound = all_changed (Sound (put b.lists h v) b.retired h) q g xs r e
          (record {
            owns_nothing = λ t. absurd (both_ways false refl t);
            given = λ _. omega arith;
            listed = λ _. cond-true (eqb h h) _ _ (eq-eqb h h refl) ∙ (sym found.2 ∙ sym (objects_owned r.list));
            current = λ _. ⊎_elim (λ t. absurd (let low = l.was_given h t in omega arith)) (λ t. t) (cases_Bool (b.retired h));
          })
          (All-weaker S _ (sound_next b.lists b.retired hs v) (without q xs) (all_without S q xs l.sound));
      was_given = λ k t. omega (arith, l.was_given k t);
    }

-- a device that is set up is done
pub finish : (b : Book) (hs : ℕ) (xs : List DeviceRow) → Linked b hs xs → (n : ℕ) (v : DeviceCapability → Option ℕ) → b.setup n ≡ Some v → b.live n ≡ None → ((o : Object) → holds (v o.kind) o.number ≡ true → b.owner o ≡ None) → Linked (finished n v b) (hs + 1) (changed (device_at n Pending) (gone_live (hs + 1)) xs)
finish b hs xs l n v is not_live free =
    subst (λ c. Linked (finished_as (c + 1) n v b) (hs + 1) (changed (device_at n Pending) (gone_live (hs + 1)) xs)) (sym l.counted) (finish_as b hs xs l n v is not_live free)
