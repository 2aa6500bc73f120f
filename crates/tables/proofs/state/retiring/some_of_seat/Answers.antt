use Rattle.std.proofs.Common.{Bool, nat_eq, ◌∙◌, rules, tests}
use Rattle.std.proofs.lemmas.Iterator.{YieldsList-from_slice}
use Rattle.std.proofs.lemmas.Iterator.Search.{any_from_yields_List}
use Rattle.records.specs.declared.device.DeviceRow.{DeviceRow}
use Rattle.tables.proofs.Found.{found_any}
use Rattle.tables.proofs.state.retiring.some_of_seat.Goals as goal

pub returns : goal.returns
returns c =
    let of_seat : DeviceRow → Bool = λ device. nat_eq device.seat c.args.seat in
    any_from_yields_List of_seat _ _ c.any.result c.any.ensures.ran (YieldsList-from_slice c.args.devices.now cc) (λ x b q k. search (rules, tests))
    ∙ found_any of_seat c.args.devices.now
