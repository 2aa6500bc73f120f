use Rattle.std.proofs.Common.{◌≡◌, codes, sym, subst, rules}
use Rattle.script.specs.Events.{DeviceLine}
use Rattle.script.proofs.events.device_event.Goals as goal
use Rattle.script.proofs.events.device_event.Goals.{in-name+in_ok-text-in-name, in-device_type+in_ok-device_type-in-device_type, in-dimensions+in_ok-width-in-dimensions, in-region+in_ok-offset_x-in-region+in_ok-width-in-region, in-region_mapping_id+in_ok-text-in-region_mapping_id, in-interface+in_ok-kind-in-interface, in-done+in_ok-end-in-done, in_default+in_ok-device_state_event-in_default}

pub returns : goal.returns
returns c =
    elim c.match-name.branch [
      | in-name+in_ok-text-in-name w ↦ search rules
      | in-device_type+in_ok-device_type-in-device_type w ↦ search rules
      | in-dimensions+in_ok-width-in-dimensions w ↦ search rules
      | in-region+in_ok-offset_x-in-region+in_ok-width-in-region w ↦
          let front = w.in_ok-offset_x-in-region.ensures in
          let back = w.in_ok-width-in-region.ensures in
          let on : c.args.name.now ≡ codes "region" = search rules in
          subst (λ e. DeviceLine c.args.name.now c.args.rest.words e) (sym w.result-is) (on, _, front, back)
      | in-region_mapping_id+in_ok-text-in-region_mapping_id w ↦ search rules
      | in-interface+in_ok-kind-in-interface w ↦ search rules
      | in-done+in_ok-end-in-done w ↦ search rules
      | in_default+in_ok-device_state_event-in_default w ↦ search rules
    ]
