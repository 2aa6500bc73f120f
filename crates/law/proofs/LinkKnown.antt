-- What the law's step takes from the rows follows from the link.
use Rattle.std.proofs.Common.{◌≡◌, ℕ, true, false, Some, sym, ap, ◌∙◌}
use Rattle.std.proofs.lemmas.Bool.{both_ways}
use Rattle.std.specs.Option.{option_map}
use Rattle.records.specs.Owners.{owns_it}
use Rattle.records.specs.Rows.{first}
use Rattle.records.specs.declared.device.DeviceRow.{DeviceRow}
use Rattle.records.specs.declared.standing.Standing.TheVariants.{Live}
use Rattle.tables.specs.Model.{Model}
use Rattle.tables.specs.Rules.{device_at}
use Rattle.law.specs.History.{Book}
use Rattle.law.proofs.Known.{Known}
use Rattle.law.proofs.Link.{Link, Sound, handle_of, pending}
use Rattle.law.proofs.LinkHeads.{owner_settled, live_settled}
use Rattle.law.proofs.LinkRows.{mapped_some, all_first, first_passes}

-- the handle that a test of settled rows finds is not retired
not_retired : (b : Book) (m : Model) → Link b m → (p : DeviceRow → _) → ((row : DeviceRow) → Sound b.lists b.retired m.handles row → p row ≡ true → pending row ≡ false) → (h : ℕ) → b.retired h ≡ true → option_map handle_of (first p m.devices) ≡ Some h → ⊥
not_retired b m l p settled h t e =
    let found = mapped_some handle_of (first p m.devices) h e in
    let s = all_first (Sound b.lists b.retired m.handles) p m.devices found.0 l.sound found.1 in
    both_ways (b.retired h) (sym (ap b.retired found.2) ∙ s.current (settled found.0 s (first_passes p m.devices found.0 found.1))) t

-- the book's handles, live devices and owners are the model's
pub link_known : (b : Book) (m : Model) → Link b m → Known b m
link_known b m l =
    record { handles = l.counted; live = l.alive; owner = l.owned; given = l.was_given; owns_none = λ h o t e. not_retired b m l (owns_it o) (owner_settled o) h t e; not_live = λ h n t e. not_retired b m l (device_at n Live) (λ row _ u. live_settled n row u) h t e }
