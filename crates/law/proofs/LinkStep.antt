-- The link is kept by every call.
use Rattle.std.proofs.Common.{◌≡◌, ℕ, zero, suc, Bool, true, false, cond, List, [], ◌∷◌, get_or, Some, None, Option, sym, refl, ap, ◌∙◌, subst}
use Rattle.std.proofs.lemmas.Bool.{cond-false, both_ways}
use Rattle.std.specs.Option.{option_map}
use Rattle.ei.specs.Capabilities.{index_of}
use Rattle.ei.specs.Refusals.{answer_of}
use Rattle.ei.specs.declared.object.Object.{Object}
use Rattle.records.specs.Listing.{owned_as}
use Rattle.records.specs.Owners.{owns_it, pending_lists}
use Rattle.records.specs.Rows.{first, any, changed, same_standing}
use Rattle.records.specs.declared.device.DeviceRow.{DeviceRow}
use Rattle.records.specs.declared.list.Entry.{Entry}
use Rattle.records.specs.declared.standing.Standing.TheVariants.{Pending, Detached}
use Rattle.store.specs.Moves.{Contents}
use Rattle.tables.specs.Calls.{Call, handshake, new_seat, ping, disconnected, invalid_object, callback_done, seat_name, seat_capability, seat_done, seat_device, seat_destroyed, device_name, device_type, device_dimensions, device_region, device_mapping_id, device_interface, device_done, device_speech, device_frame, device_destroyed, keymap, modifiers, act, object_destroyed, next_event, add_callback, bind, retire_seat, retire_device}
use Rattle.tables.specs.Model.{Model, View}
use Rattle.tables.specs.Outcomes.{handled}
use Rattle.tables.specs.Rules.{device_at, device_by_handle, device_retirable, owns_any, no_places_for, next_handle, no_handle}
use Rattle.law.specs.History.{Book, booked, at_some, object_ended}
use Rattle.law.proofs.Link.{Link, Linked, handle_of}
use Rattle.law.proofs.LinkDetach.{retire}
use Rattle.law.proofs.LinkForget.{forgetting, forget}
use Rattle.law.proofs.LinkHeads.{both_of, same_standing_true}
use Rattle.law.proofs.LinkMoves.{detailed, equips, arrives, done_live, destroyed_live, destroyed_pending}
use Rattle.law.proofs.LinkRows.{some_any, none_any}
use Rattle.law.proofs.LinkSetup.{drop_pending, one_more_handle}
use Rattle.law.proofs.LinkShapes.{Kept, shapes, some_kept, cond_kept, done_full}

-- The calls.

-- no part of a test
neither_of : (p q : Bool) → cond p true q ≡ false → (p ≡ false) × (q ≡ false)
neither_of true q t = absurd (both_ways true t refl)
neither_of false q t = (refl, t)

-- of entries of which none is owned
none_owned : (es : List (Option Entry)) → owns_any es ≡ false → (i n : ℕ) → owned_as n (get_or es i None) ≡ false
none_owned [] t i n = refl
none_owned (None ∷ es) t zero n = refl
none_owned (None ∷ es) t (suc i) n = none_owned es t i n
none_owned (Some e ∷ es) t zero n = cond-false e.owned _ _ (neither_of e.owned (owns_any es) t).0
none_owned (Some e ∷ es) t (suc i) n = none_owned es (neither_of e.owned (owns_any es) t).1 i n

-- the else of a test
only_else : (p q : Bool) → cond p false q ≡ true → p ≡ false
only_else true q t = absurd (both_ways false refl t)
only_else false q t = refl

-- what may be retired is detached and owns nothing
retirable : (row : DeviceRow) (c : Contents) → device_retirable row c ≡ true → (row.head.standing ≡ Detached) × ((o : Object) → owns_it o row ≡ false)
retirable row c t =
    let both = both_of (same_standing row.head.standing Detached) _ t in
    (same_standing_true row.head.standing Detached both.0, λ o. none_owned row.list.entries (only_else (owns_any row.list.entries) _ both.1) (index_of o.kind) o.number)

-- an object that is destroyed was owned or not
ended_object : (b : Book) (m : Model) → Link b m → (o : Object) → any (owns_it o) m.devices ≡ true → Linked (at_some (b.owner o) b (λ h. object_ended o h b)) m.handles (changed (owns_it o) (forgetting o.kind) m.devices)
ended_object b m l o t =
    let found = some_any (first (owns_it o) m.devices) t in
    let is : b.owner o ≡ Some (handle_of found.0) = l.owned o ∙ ap (option_map handle_of) found.1 in
    subst (λ w. Linked (at_some w b (λ h. object_ended o h b)) m.handles (changed (owns_it o) (forgetting o.kind) m.devices)) (sym is) (forget b m.handles m.devices l o (handle_of found.0) is)

-- nobody owned it
unowned_object : (b : Book) (m : Model) → Link b m → (o : Object) → any (owns_it o) m.devices ≡ false → Link (at_some (b.owner o) b (λ h. object_ended o h b)) m
unowned_object b m l o t = subst (λ w. Link (at_some w b (λ h. object_ended o h b)) m) (sym (l.owned o ∙ ap (option_map handle_of) (none_any (first (owns_it o) m.devices) t))) l

-- call by call
step : (b : Book) (m : Model) → Link b m → (v : View) (c : Call) → Kept Link b c (handled v c m)
step b m l v handshake = record { kept = l }
step b m l v (new_seat n) = search shapes
step b m l v (ping n) = search shapes
step b m l v (disconnected n x y) = search shapes
step b m l v invalid_object = record { kept = l }
step b m l v (callback_done n x) = search shapes
step b m l v (seat_name n t) = search shapes
step b m l v (seat_capability n mask kind) = search shapes
step b m l v (seat_done n) = let more = one_more_handle b m.handles m.devices l in search shapes
step b m l v (seat_device s n) = let more = arrives b m.handles m.devices l n in search shapes
step b m l v (seat_destroyed n s) = search shapes
step b m l v (device_name n t) = let told = detailed b m.handles m.devices l (device_at n Pending) in search shapes
step b m l v (device_type n t) = let told = detailed b m.handles m.devices l (device_at n Pending) in search shapes
step b m l v (device_dimensions n x y) = let told = detailed b m.handles m.devices l (device_at n Pending) in search shapes
step b m l v (device_region n r) = let told = detailed b m.handles m.devices l (device_at n Pending) in search shapes
step b m l v (device_mapping_id n t) = let told = detailed b m.handles m.devices l (device_at n Pending) in search shapes
step b m l v (device_interface n None) = search shapes
step b m l v (device_interface n (Some o)) = let told = equips b m.handles m.devices l n o in search shapes
step b m l v (device_done n) =
    some_kept Link b (device_done n) (first (device_at n Pending) m.devices) _ _ (λ _. record { kept = l })
    (λ row e. some_kept Link b (device_done n) row.description.device_type _ _ (λ _. record { kept = drop_pending b m.handles m.devices l n })
    (λ _ _. done_full Link b m l n (no_places_for (next_handle m) m.store) (no_handle m) _ (record { kept = done_live b m.handles m.devices l n row e })))
step b m l v (device_speech n s x) = search shapes
step b m l v (device_frame n s t) = search shapes
step b m l v (device_destroyed n s) =
    let live = destroyed_live b m.handles m.devices l n in
    let none = destroyed_pending b m.handles m.devices l n in
    search shapes
step b m l v (keymap n k) = let told = detailed b m.handles m.devices l (pending_lists n) in search shapes
step b m l v (modifiers n s x) = search shapes
step b m l v (act o x) = search shapes
step b m l v (object_destroyed o s) = let gone = ended_object b m l o in let none = unowned_object b m l o in search shapes
step b m l v next_event = record { kept = l }
step b m l v (add_callback n t) = search shapes
step b m l v (bind h bits) = search shapes
step b m l v (retire_seat h) = search shapes
step b m l v (retire_device h) =
    some_kept Link b (retire_device h) (first (device_by_handle h) m.devices) _ _ (λ _. record { kept = l })
    (λ row e. cond_kept Link b (retire_device h) (device_retirable row m.store) _ _
    (λ t. let may = retirable row m.store t in record { kept = retire b m.handles m.devices l h row e may.0 may.1 })
    (λ _. record { kept = l }))

-- each call keeps the link
pub link_step : (b : Book) (m : Model) → Link b m → (v : View) (c : Call) → Link (booked b c (answer_of (handled v c m).answer)) (handled v c m).after
link_step b m l v c = (step b m l v c).kept
