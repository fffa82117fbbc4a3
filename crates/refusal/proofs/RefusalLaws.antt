-- Laws of the numbers.
--   number_least   every refusal has a number above 0, which is that of no refusal
use Prim.Native.Nat.{◌≤◌}
use lib.Dec.{lit≤}
use Rattle.refusal.specs.declared.Refusal.{Refusal}
use Rattle.refusal.specs.declared.Refusal.TheVariants.{SizeInvalid, DepthInvalid, WidthTooNarrow, DstSizeInvalid, ListLengthInvalid, InputTooShort, OutputTooShort, PlaceOutside, CoefficientAbove, WayMismatched, LevelMissing, SampleOutside, PictureInvalid, BitsEnded, ReferenceMissing, ListValueInvalid, StreamFull, ListMissing, CoefficientBelow, KindUnknown, BodyTooShort, LevelsBeforeParameters, ParameterInvalid, BlockMissing, RotationSizeInvalid}
use Rattle.refusal.specs.Refusal.{number}

pub number_least : (e : Refusal) → 1 ≤ number e
number_least SizeInvalid = lit≤ tt
number_least DepthInvalid = lit≤ tt
number_least WidthTooNarrow = lit≤ tt
number_least DstSizeInvalid = lit≤ tt
number_least ListLengthInvalid = lit≤ tt
number_least InputTooShort = lit≤ tt
number_least OutputTooShort = lit≤ tt
number_least PlaceOutside = lit≤ tt
number_least (CoefficientAbove k c) = lit≤ tt
number_least WayMismatched = lit≤ tt
number_least (LevelMissing k c) = lit≤ tt
number_least (SampleOutside i) = lit≤ tt
number_least PictureInvalid = lit≤ tt
number_least (BitsEnded i) = lit≤ tt
number_least (ReferenceMissing i) = lit≤ tt
number_least (ListValueInvalid i) = lit≤ tt
number_least StreamFull = lit≤ tt
number_least ListMissing = lit≤ tt
number_least (CoefficientBelow k c) = lit≤ tt
number_least KindUnknown = lit≤ tt
number_least BodyTooShort = lit≤ tt
number_least LevelsBeforeParameters = lit≤ tt
number_least ParameterInvalid = lit≤ tt
number_least BlockMissing = lit≤ tt
number_least RotationSizeInvalid = lit≤ tt
