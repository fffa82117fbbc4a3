-- What the test of one row of the table gives: `Ok` where the row does not apply, with what the call then knows, and else the row's refusal.
--   Checked t e r          the row applies where t holds, and refuses by e
--   SizeChecked n r        row 1
--   DepthChecked b r       row 2
--   ListChecked len r      row 5
--   RoomChecked n len e r  row 6 or 7, as e says, of one buffer
use Rattle.std.specs.Prelude.{◌≡◌, ◌≤◌, ◌*◌, T, Bool, true, false, ℕ, Result, Ok, Err}
use Rattle.h265.specs.Range.{is_size}
use Rattle.refusal.specs.declared.Refusal.{Refusal}
use Rattle.refusal.specs.declared.Refusal.TheVariants.{SizeInvalid, DepthInvalid, ListLengthInvalid}
use Rattle.refusal.specs.Condition.{size_refused, depth_refused, list_refused, block_refused}

abbrev pub Checked : Bool → Refusal → Result (Unit {0}) Refusal → Type 0
Checked t e (Ok _) = t ≡ false
Checked t e (Err f) = (t ≡ true) × (f ≡ e)

abbrev pub SizeChecked : ℕ → Result (Unit {0}) Refusal → Type 0
SizeChecked n (Ok _) = (size_refused n ≡ false) × T (is_size n)
SizeChecked n (Err e) = (size_refused n ≡ true) × (e ≡ SizeInvalid)

abbrev pub DepthChecked : ℕ → Result (Unit {0}) Refusal → Type 0
DepthChecked b (Ok _) = (depth_refused b ≡ false) × (8 ≤ b) × (b ≤ 16)
DepthChecked b (Err e) = (depth_refused b ≡ true) × (e ≡ DepthInvalid)

abbrev pub ListChecked : ℕ → Result (Unit {0}) Refusal → Type 0
ListChecked len (Ok _) = (list_refused len ≡ false) × (len ≡ 64)
ListChecked len (Err e) = (list_refused len ≡ true) × (e ≡ ListLengthInvalid)

abbrev pub RoomChecked : ℕ → ℕ → Refusal → Result (Unit {0}) Refusal → Type 0
RoomChecked n len why (Ok _) = (block_refused n len ≡ false) × (n * n ≤ len)
RoomChecked n len why (Err e) = (block_refused n len ≡ true) × (e ≡ why)
