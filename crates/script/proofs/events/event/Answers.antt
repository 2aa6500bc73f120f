use Rattle.std.proofs.Common.{◌≡◌, codes, sym, subst, rules}
use Rattle.script.specs.Events.{EventLine}
use Rattle.script.proofs.events.event.Goals as goal
use Rattle.script.proofs.events.event.Goals.{in-callback+in_ok-callback_event-in-callback, in-seat+in_ok-seat_event-in-seat, in-device+in_ok-device_event-in-device, in-keyboard+in_ok-keyboard_event-in-keyboard, in-pointer+in_ok-pointer_event-in-pointer, in-pointer_absolute+in_ok-pointer_absolute_event-in-pointer_absolute, in-scroll+in_ok-scroll_event-in-scroll, in-button+in_ok-button_event-in-button, in-touchscreen+in_ok-touchscreen_event-in-touchscreen, in-text+in_ok-text_event-in-text}

pub returns : goal.returns
returns c =
    elim c.match-interface.branch [
      | in-callback+in_ok-callback_event-in-callback w ↦ search rules
      | in-seat+in_ok-seat_event-in-seat w ↦ search rules
      | in-device+in_ok-device_event-in-device w ↦
          let reads = c.in_ok-object.ensures in
          let says = w.in_ok-device_event-in-device.ensures in
          let on : c.args.interface.now ≡ codes "device" = search rules in
          subst (λ e. EventLine c.args.interface.now c.args.name.now c.args.rest.words e) (sym w.result-is) (on, (_, reads, says))
      | in-keyboard+in_ok-keyboard_event-in-keyboard w ↦ search rules
      | in-pointer+in_ok-pointer_event-in-pointer w ↦ search rules
      | in-pointer_absolute+in_ok-pointer_absolute_event-in-pointer_absolute w ↦ search rules
      | in-scroll+in_ok-scroll_event-in-scroll w ↦ search rules
      | in-button+in_ok-button_event-in-button w ↦ search rules
      | in-touchscreen+in_ok-touchscreen_event-in-touchscreen w ↦ search rules
      | in-text+in_ok-text_event-in-text w ↦ search rules
    ]
