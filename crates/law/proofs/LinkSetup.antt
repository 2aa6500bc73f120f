-- The link as a device that is being set up is dropped, as one is added, and as a handle is given to a seat.
use Rattle.std.proofs.Common.{◌≡◌, ℕ, ◌+◌, Bool, true, false, eqb, List, [], ◌∷◌, ◌++◌, Some, None, sym, refl, ap, ◌∙◌, subst, arith}
use Rattle.std.proofs.ByRecursion.{All-push, All-weaker}
use Rattle.std.proofs.lemmas.Bool.{both_ways, eqb-true, cond_both}
use Rattle.std.specs.Option.{option_map}
use Rattle.records.specs.Devices.{new_device}
use Rattle.records.specs.Owners.{owns_it}
use Rattle.records.specs.Rows.{first, without}
use Rattle.records.specs.declared.device.DeviceRow.{DeviceRow}
use Rattle.records.specs.declared.standing.Standing.TheVariants.{Pending, Live}
use Rattle.tables.specs.Rules.{device_at, device_by_handle}
use Rattle.law.specs.History.{Book, put, with_setup, with_handles}
use Rattle.law.proofs.Link.{Linked, Sound, handle_of, listing}
use Rattle.law.proofs.LinkHeads.{at_standing_is, at_other, at_own, at_other_number, pending_is}
use Rattle.law.proofs.LinkLists.{objects_none, owns_none}
use Rattle.law.proofs.LinkRows.{Nobody, mapped_none, all_first, first_passes, all_without, nobody_first, first_nobody, first_without, lone_without, without_itself, first_push_in, first_push_out, lone_push}

-- the device of a number that is being set up is dropped
pub drop_pending : (b : Book) (hs : ℕ) (xs : List DeviceRow) → Linked b hs xs → (n : ℕ) → Linked (with_setup (put b.setup n None) b) hs (without (device_at n Pending) xs)
drop_pending b hs xs l n =
    let q : DeviceRow → Bool = device_at n Pending in
    record {
      counted = l.counted;
      set_up = λ k. cond_both (eqb k n) _ _ (λ w. w ≡ option_map listing (first (device_at k Pending) (without q xs)))
          (λ t. subst (λ j. None ≡ option_map listing (first (device_at j Pending) (without q xs))) (sym (eqb-true k n t)) (sym (ap (option_map listing) (nobody_first q (without q xs) (without_itself q xs (l.one_pending n))))))
          (λ t. l.set_up k ∙ sym (ap (option_map listing) (first_without (device_at k Pending) q xs (λ x e. at_other_number k n Pending Pending x (first_passes q xs x e) t))));
      alive = λ k. l.alive k ∙ sym (ap (option_map handle_of) (first_without (device_at k Live) q xs (λ x e. at_other k Live Pending x (at_standing_is n Pending x (first_passes q xs x e)) refl)));
      owned = λ o. l.owned o ∙ sym (ap (option_map handle_of) (first_without (owns_it o) q xs (λ x e. (all_first (Sound b.lists b.retired hs) q xs x l.sound e).owns_nothing (pending_is n x (first_passes q xs x e)) o)));
      one_pending = λ k. lone_without (device_at k Pending) q xs (l.one_pending k);
      one_live = λ k. lone_without (device_at k Live) q xs (l.one_live k);
      one_handle = λ h. lone_without (device_by_handle h) q xs (l.one_handle h);
      one_owner = λ o. lone_without (owns_it o) q xs (l.one_owner o);
      sound = all_without (Sound b.lists b.retired hs) q xs l.sound;
      was_given = l.was_given;
    }

-- where none of the number is being set up, one begins to be
pub add_pending : (b : Book) (hs : ℕ) (xs : List DeviceRow) → Linked b hs xs → (n seat : ℕ) → b.setup n ≡ None → Linked (with_setup (put b.setup n (Some (λ _. None))) b) hs (xs ++ (new_device n seat ∷ []))
add_pending b hs xs l n seat e =
    let y : DeviceRow = new_device n seat in
    let found : (k : ℕ) → device_at k Pending y ≡ eqb k n = λ k. at_own k n Pending y refl refl in
    let none : (k : ℕ) → eqb k n ≡ true → Nobody (device_at k Pending) xs = λ k t. first_nobody (device_at k Pending) xs (mapped_none listing _ (sym (l.set_up k) ∙ (ap b.setup (eqb-true k n t) ∙ e))) in
    record {
      counted = l.counted;
      set_up = λ k. cond_both (eqb k n) _ _ (λ w. w ≡ option_map listing (first (device_at k Pending) (xs ++ (y ∷ []))))
          (λ t. sym (ap (option_map listing) (first_push_in (device_at k Pending) xs y (none k t) (found k ∙ t)) ∙ ap Some objects_none))
          (λ t. l.set_up k ∙ sym (ap (option_map listing) (first_push_out (device_at k Pending) xs y (found k ∙ t))));
      alive = λ k. l.alive k ∙ sym (ap (option_map handle_of) (first_push_out (device_at k Live) xs y (at_other k Live Pending y refl refl)));
      owned = λ o. l.owned o ∙ sym (ap (option_map handle_of) (first_push_out (owns_it o) xs y (owns_none o)));
      one_pending = λ k. lone_push (device_at k Pending) xs y (λ t. none k (sym (found k) ∙ t)) (l.one_pending k);
      one_live = λ k. lone_push (device_at k Live) xs y (λ t. absurd (both_ways (device_at k Live y) (at_other k Live Pending y refl refl) t)) (l.one_live k);
      one_handle = λ h. lone_push (device_by_handle h) xs y (λ t. absurd (both_ways false refl t)) (l.one_handle h);
      one_owner = λ o. lone_push (owns_it o) xs y (λ t. absurd (both_ways (owns_it o y) (owns_none o) t)) (l.one_owner o);
      sound = All-push (Sound b.lists b.retired hs) xs y l.sound (record { owns_nothing = λ _ o. owns_none o; given = λ t. absurd (both_ways true t refl); listed = λ t. absurd (both_ways true t refl); current = λ t. absurd (both_ways true t refl) });
      was_given = l.was_given;
    }

-- one handle more is given, and not to a device
pub one_more_handle : (b : Book) (hs : ℕ) (xs : List DeviceRow) → Linked b hs xs → Linked (with_handles (b.handles + 1) b) (hs + 1) xs
one_more_handle b hs xs l =
    record {
      counted = ap (λ h. h + 1) l.counted;
      set_up = l.set_up;
      alive = l.alive;
      owned = l.owned;
      one_pending = l.one_pending;
      one_live = l.one_live;
      one_handle = l.one_handle;
      one_owner = l.one_owner;
      sound = All-weaker (Sound b.lists b.retired hs) (Sound b.lists b.retired (hs + 1)) (λ x s. record { owns_nothing = s.owns_nothing; given = λ p. omega (arith, s.given p); listed = s.listed; current = s.current }) xs l.sound;
      was_given = λ h t. omega (arith, l.was_given h t);
    }
