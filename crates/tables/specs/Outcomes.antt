-- What comes of each call.
use Rattle.ei.specs.declared.error.EventError.TheVariants as refusals
use Rattle.records.specs.declared.device.Detail.TheVariants as details
use Rattle.tables.specs.Calls.{Call, acted, text_kept, spoken, modified, handshake, new_seat, ping, disconnected, invalid_object, callback_done, seat_name, seat_capability, seat_done, seat_device, seat_destroyed, device_name, device_type, device_dimensions, device_region, device_mapping_id, device_interface, device_done, device_speech, device_frame, device_destroyed, keymap, modifiers, act, object_destroyed, next_event, add_callback, bind, retire_seat, retire_device}
use Rattle.tables.specs.Model.{Model, View, Outcome, refused, done, with_store}
use Rattle.tables.specs.Rules.{seat_arrives, pinged, connection_ends, callback_ends, seat_named, seat_capable, seat_ready, device_arrives, seat_gone, device_detailed, device_named, device_mapped, device_placed, device_equipped, device_ready, device_speaks, device_framed, device_gone, keymap_arrives, keyboard_modified, owner_acts, object_gone, callback_added, seat_bound, seat_retired, device_retired}
use Rattle.store.specs.Moves.{rest}

abbrev pub handled : View → Call → Model → Outcome
handled v handshake m = refused refusals.UnexpectedHandshakeEvent m
handled v (new_seat n) m = seat_arrives n m
handled v (ping n) m = pinged v n m
handled v (disconnected n reason text) m = connection_ends n reason text m
handled v invalid_object m = done m
handled v (callback_done n x) m = callback_ends v n x m
handled v (seat_name n t) m = seat_named n t m
handled v (seat_capability n mask kind) m = seat_capable n mask kind m
handled v (seat_done n) m = seat_ready n m
handled v (seat_device s n) m = device_arrives s n m
handled v (seat_destroyed n s) m = seat_gone n s m
handled v (device_name n t) m = device_named n t m
handled v (device_type n t) m = device_detailed n (details.Type t) m
handled v (device_dimensions n x y) m = device_detailed n (details.Dimensions x y) m
handled v (device_region n r) m = device_placed n r m
handled v (device_mapping_id n t) m = device_mapped n t m
handled v (device_interface n o) m = device_equipped n o m
handled v (device_done n) m = device_ready v n m
handled v (device_speech n s x) m = device_speaks v n s (spoken x s) m
handled v (device_frame n s t) m = device_framed n s t m
handled v (device_destroyed n s) m = device_gone v n s m
handled v (keymap n k) m = keymap_arrives n k m
handled v (modifiers n s x) m = keyboard_modified v n s (modified x s) m
handled v (act o x) m = owner_acts o (text_kept x) (acted x) m
handled v (object_destroyed o s) m = object_gone o s m
handled v next_event m = done (with_store (rest m.store) m)
handled v (add_callback n t) m = callback_added n t m
handled v (bind h bits) m = seat_bound v h bits m
handled v (retire_seat h) m = seat_retired h m
handled v (retire_device h) m = device_retired h m
