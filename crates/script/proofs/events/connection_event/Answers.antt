use Rattle.std.proofs.Common.{◌≡◌, codes, sym, subst, rules}
use Rattle.script.specs.Events.{ConnectionLine}
use Rattle.script.proofs.events.connection_event.Goals as goal
use Rattle.script.proofs.events.connection_event.Goals.{in-seat+in_ok-last-in-seat, in-ping+in_ok-last-in-ping, in-disconnected+in_ok-last_serial-in-disconnected+in_ok-optional_text-in-disconnected, in-invalid_object+in_ok-last_serial-in-invalid_object}

pub returns : goal.returns
returns c =
    elim c.match-name.branch [
      | in-seat+in_ok-last-in-seat w ↦ search rules
      | in-ping+in_ok-last-in-ping w ↦ search rules
      | in-disconnected+in_ok-last_serial-in-disconnected+in_ok-optional_text-in-disconnected w ↦
          let reads = w.in_ok-last_serial-in-disconnected.ensures in
          let text = w.in_ok-optional_text-in-disconnected.ensures in
          let on : c.args.name.now ≡ codes "disconnected" = search rules in
          subst (λ e. ConnectionLine c.args.name.now c.args.rest.words e) (sym w.result-is) (on, _, reads, text)
      | in-invalid_object+in_ok-last_serial-in-invalid_object w ↦ search rules
    ]
