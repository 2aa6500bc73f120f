-- The link through the calls that do several things to the rows: a device arrives, is done, is destroyed.
use Rattle.std.proofs.Common.{◌≡◌, ℕ, ◌+◌, Bool, true, false, cond, eqb, List, [], ◌∷◌, ◌++◌, Some, None, Option, sym, refl, ap, ◌∙◌, subst}
use mathlib.Core.Path.{fun_ext}
use Rattle.std.proofs.lemmas.Bool.{cond-true, eq-eqb}
use Rattle.std.specs.Option.{option_map}
use Rattle.ei.specs.declared.capability.DeviceCapability.{DeviceCapability}
use Rattle.ei.specs.declared.enums.DeviceType.{DeviceType}
use Rattle.ei.specs.declared.object.Object.{Object}
use Rattle.records.specs.Devices.{new_device, device_taken, gone_live, superseded, destroyed}
use Rattle.records.specs.Rows.{first, changed, without}
use Rattle.records.specs.declared.device.Detail.{Detail}
use Rattle.records.specs.declared.device.DeviceRow.{DeviceRow}
use Rattle.records.specs.declared.device.DeviceStep.TheVariants as steps
use Rattle.records.specs.declared.device.Stage.{Stage}
use Rattle.records.specs.declared.device.Stage.TheVariants as stages
use Rattle.records.specs.declared.standing.Standing.{Standing}
use Rattle.records.specs.declared.standing.Standing.TheVariants.{Pending, Live, Detached}
use Rattle.tables.specs.Rules.{device_at, device_steps, all_step}
use Rattle.law.specs.History.{Book, put, holds, at_some, with_setup, with_owner, with_live, with_lists, finished, ended, equipped}
use Rattle.law.proofs.Link.{Linked, Sound, handle_of, listing}
use Rattle.law.proofs.LinkDetach.{supersede, destroy}
use Rattle.law.proofs.LinkHeads.{stepped_by, pending_first, live_settled}
use Rattle.law.proofs.LinkKept.{with_one, less, redescribed, equip, give_up}
use Rattle.law.proofs.LinkLive.{finish}
use Rattle.law.proofs.LinkRows.{Alike, all_here, all_first, first_passes, each_map, each_first}
use Rattle.law.proofs.LinkSetup.{drop_pending, add_pending}

-- a later choice under the same test
cond_over : {A : Type 0} (t : Bool) (x y z : A) → cond t x (cond t y z) ≡ cond t x z
cond_over true x y z = refl
cond_over false x y z = refl

-- a device of a standing takes a step as that standing does
pub stepped_as : (n : ℕ) (s : Standing) (stage : Stage) (f : DeviceRow → DeviceRow) → ((x : DeviceRow) → device_taken s stage x ≡ f x) → (xs : List DeviceRow) → device_steps n s (steps.Take stage) xs ≡ changed (device_at n s) f xs
stepped_as n s stage f same xs = stepped_by (λ row. row.head.number) (λ row. row.head.standing) (λ z x. device_taken z stage x) n s f same xs

-- a detail leaves the head and the list
pub detail_head : (s : Standing) (d : Detail) (x : DeviceRow) → (device_taken s (stages.Setup d) x).head ≡ x.head
detail_head Pending d x = refl
detail_head Live d x = refl
detail_head Detached d x = refl

-- and the list
detail_list : (s : Standing) (d : Detail) (x : DeviceRow) → (device_taken s (stages.Setup d) x).list ≡ x.list
detail_list Pending d x = refl
detail_list Live d x = refl
detail_list Detached d x = refl

-- a detail is told
pub detailed : (b : Book) (hs : ℕ) (xs : List DeviceRow) → Linked b hs xs → (q : DeviceRow → Bool) (d : Detail) → Linked b hs (changed q (λ x. device_taken x.head.standing (stages.Setup d) x) xs)
detailed b hs xs l q d = redescribed b hs xs l q _ (λ x. detail_head x.head.standing d x) (λ x. detail_list x.head.standing d x)

-- an interface object is told
pub equips : (b : Book) (hs : ℕ) (xs : List DeviceRow) → Linked b hs xs → (n : ℕ) (o : Object) → Linked (equipped n o b) hs (device_steps n Pending (steps.Take (stages.Interface o)) xs)
equips b hs xs l n o = subst (Linked (equipped n o b) hs) (sym (stepped_as n Pending (stages.Interface o) (with_one o) (λ x. refl) xs)) (equip b hs xs l n o)

-- a new device replaces one of its number that is being set up
pub arrives : (b : Book) (hs : ℕ) (xs : List DeviceRow) → Linked b hs xs → (n seat : ℕ) → Linked (with_setup (put b.setup n (Some (λ _. None))) b) hs (without (device_at n Pending) xs ++ (new_device n seat ∷ []))
arrives b hs xs l n seat =
    subst (λ w. Linked (with_setup w b) hs (without (device_at n Pending) xs ++ (new_device n seat ∷ [])))
    (fun_ext (λ k. cond_over (eqb k n) (Some (λ _. None)) None (b.setup k)))
    (add_pending (with_setup (put b.setup n None) b) hs (without (device_at n Pending) xs) (drop_pending b hs xs l n) n seat (cond-true (eqb n n) _ _ (eq-eqb n n refl)))

-- a device is done: others give up what it lists, the live one of its number is detached, and it is live
finished_same : (n : ℕ) (v : DeviceCapability → Option ℕ) (b : Book) → finished n v (with_live (put b.live n None) (with_owner (λ o. cond (holds (v o.kind) o.number) None (b.owner o)) b)) ≡ finished n v b
finished_same n v b = λ i. record {
  handles = b.handles + 1;
  setup = put b.setup n None;
  live = λ k. cond_over (eqb k n) (Some (b.handles + 1)) None (b.live k) i;
  lists = put b.lists (b.handles + 1) v;
  owner = λ o. cond_over (holds (v o.kind) o.number) (Some (b.handles + 1)) None (b.owner o) i;
  retired = b.retired;
}

-- the type that a device has so far
abbrev pub type_of : DeviceRow → Option DeviceType
type_of row = row.description.device_type

-- the device that is done is still there, with its type, once the others have given way
pub pending_after : (n h : ℕ) (row : DeviceRow) (xs : List DeviceRow) → first (device_at n Pending) xs ≡ Some row → option_map type_of (first (device_at n Pending) (device_steps n Live (steps.Take (stages.Done h)) (all_step (steps.GiveUp row.list) xs))) ≡ Some (type_of row)
pending_after n h row xs e =
    let q : DeviceRow → Bool = device_at n Pending in
    let ys : List DeviceRow = all_step (steps.GiveUp row.list) xs in
    ap (λ zs. option_map type_of (first q zs)) (stepped_as n Live (stages.Done h) superseded (λ x. refl) ys)
    ∙ (pending_first (λ x. x.head.number) (λ x. x.head.standing) superseded type_of (λ x. refl) n ys
    ∙ (each_first q type_of xs ys (each_map (Alike q type_of) (less row.list) xs (all_here _ (λ x. (refl, λ _. refl)) xs))
    ∙ ap (option_map type_of) e))

-- the Done of a device that is being set up
pub done_live : (b : Book) (hs : ℕ) (xs : List DeviceRow) → Linked b hs xs → (n : ℕ) (row : DeviceRow) → first (device_at n Pending) xs ≡ Some row
    → Linked (at_some (b.setup n) b (λ v. finished n v b)) (hs + 1) (device_steps n Pending (steps.Take (stages.Done (hs + 1))) (device_steps n Live (steps.Take (stages.Done (hs + 1))) (all_step (steps.GiveUp row.list) xs)))
done_live b hs xs l n row e =
    let h : ℕ = hs + 1 in
    let v : DeviceCapability → Option ℕ = listing row in
    let is : b.setup n ≡ Some v = l.set_up n ∙ ap (option_map listing) e in
    let b₁ : Book = with_owner (λ o. cond (holds (v o.kind) o.number) None (b.owner o)) b in
    let b₂ : Book = with_live (put b.live n None) b₁ in
    let xs₁ : List DeviceRow = all_step (steps.GiveUp row.list) xs in
    let xs₂ : List DeviceRow = device_steps n Live (steps.Take (stages.Done h)) xs₁ in
    let l₁ : Linked b₁ hs xs₁ = give_up b hs xs l row.list in
    let l₂ : Linked b₂ hs xs₂ = subst (Linked b₂ hs) (sym (stepped_as n Live (stages.Done h) superseded (λ x. refl) xs₁)) (supersede b₁ hs xs₁ l₁ n) in
    let l₃ : Linked (finished n v b₂) h (device_steps n Pending (steps.Take (stages.Done h)) xs₂) =
    subst (Linked (finished n v b₂) h) (sym (stepped_as n Pending (stages.Done h) (gone_live h) (λ x. refl) xs₂))
    (finish b₂ hs xs₂ l₂ n v is (cond-true (eqb n n) _ _ (eq-eqb n n refl)) (λ o t. cond-true (holds (v o.kind) o.number) _ _ t)) in
    let P : Book → Type 0 = λ w. Linked w h (device_steps n Pending (steps.Take (stages.Done h)) xs₂) in
    subst (λ w. P (at_some w b (λ z. finished n z b))) (sym is) (subst P (finished_same n v b) l₃)

-- a live device is destroyed: all give up what it lists
ended_as : (b : Book) (hs : ℕ) (xs : List DeviceRow) → Linked b hs xs → (n h : ℕ) (row : DeviceRow) → first (device_at n Live) xs ≡ Some row → handle_of row ≡ h
    → Linked (ended n h b) hs (device_steps n Live (steps.Take stages.Destroyed) (all_step (steps.GiveUp row.list) (without (device_at n Pending) xs)))
ended_as b hs xs l n h row e named =
    let v : DeviceCapability → Option ℕ = listing row in
    let listed : b.lists h ≡ v = ap b.lists (sym named) ∙ (all_first (Sound b.lists b.retired hs) (device_at n Live) xs row l.sound e).listed (live_settled n row (first_passes (device_at n Live) xs row e)) in
    let is : b.live n ≡ Some h = l.alive n ∙ (ap (option_map handle_of) e ∙ ap Some named) in
    let b₁ : Book = with_setup (put b.setup n None) b in
    let b₂ : Book = with_owner (λ o. cond (holds (v o.kind) o.number) None (b.owner o)) b₁ in
    let xs₁ : List DeviceRow = without (device_at n Pending) xs in
    let xs₂ : List DeviceRow = all_step (steps.GiveUp row.list) xs₁ in
    let l₂ : Linked b₂ hs xs₂ = give_up b₁ hs xs₁ (drop_pending b hs xs l n) row.list in
    let free : (o : Object) → holds (b.lists h o.kind) o.number ≡ true → b₂.owner o ≡ None = λ o t. cond-true (holds (v o.kind) o.number) _ _ (sym (ap (λ w. holds (w o.kind) o.number) listed) ∙ t) in
    subst (λ w. Linked (with_owner (λ o. cond (holds (w o.kind) o.number) None (b.owner o)) (with_lists (put b.lists h (λ _. None)) (with_live (put b.live n None) b₁))) hs (device_steps n Live (steps.Take stages.Destroyed) xs₂)) (sym listed)
    (subst (Linked (with_lists (put b.lists h (λ _. None)) (with_live (put b.live n None) b₂)) hs) (sym (stepped_as n Live stages.Destroyed destroyed (λ x. refl) xs₂)) (destroy b₂ hs xs₂ l₂ n h is free))

-- the end of a device that is live
pub destroyed_live : (b : Book) (hs : ℕ) (xs : List DeviceRow) → Linked b hs xs → (n : ℕ) (row : DeviceRow) → first (device_at n Live) xs ≡ Some row
    → Linked (at_some (b.live n) (with_setup (put b.setup n None) b) (λ h. ended n h b)) hs (device_steps n Live (steps.Take stages.Destroyed) (all_step (steps.GiveUp row.list) (without (device_at n Pending) xs)))
destroyed_live b hs xs l n row e =
    subst (λ w. Linked (at_some w (with_setup (put b.setup n None) b) (λ h. ended n h b)) hs (device_steps n Live (steps.Take stages.Destroyed) (all_step (steps.GiveUp row.list) (without (device_at n Pending) xs))))
    (sym (l.alive n ∙ ap (option_map handle_of) e)) (ended_as b hs xs l n (handle_of row) row e refl)

-- where none is live, one that is being set up is gone
pub destroyed_pending : (b : Book) (hs : ℕ) (xs : List DeviceRow) → Linked b hs xs → (n : ℕ) → first (device_at n Live) xs ≡ None
    → Linked (at_some (b.live n) (with_setup (put b.setup n None) b) (λ h. ended n h b)) hs (without (device_at n Pending) xs)
destroyed_pending b hs xs l n e =
    subst (λ w. Linked (at_some w (with_setup (put b.setup n None) b) (λ h. ended n h b)) hs (without (device_at n Pending) xs)) (sym (l.alive n ∙ ap (option_map handle_of) e)) (drop_pending b hs xs l n)
