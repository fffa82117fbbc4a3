-- The table of refusals, docs/RULES.md: a number for each row, and the place where the row names one.
--   parts e         the four of a refusal, a line for each row of the table
--   number e        the row's number
--   place e         the place that it names by one number, an index or an offset, else 0
--   row e, column e the place of a coefficient outside its range, else 0
use Rattle.std.specs.Prelude.{ℕ}
use Rattle.refusal.specs.declared.Refusal.{Refusal}
use Rattle.refusal.specs.declared.RefusalParts.{RefusalParts}
use Rattle.refusal.specs.declared.Refusal.TheVariants.{SizeInvalid, DepthInvalid, WidthTooNarrow, DstSizeInvalid, ListLengthInvalid, InputTooShort, OutputTooShort, PlaceOutside, CoefficientAbove, WayMismatched, LevelMissing, SampleOutside, PictureInvalid, BitsEnded, ReferenceMissing, ListValueInvalid, StreamFull, ListMissing, CoefficientBelow, KindUnknown, BodyTooShort, LevelsBeforeParameters, ParameterInvalid, BlockMissing, RotationSizeInvalid}

-- a row that names no place, one that names a number, and one that names a coefficient
abbrev pub nowhere : ℕ → RefusalParts
nowhere n = record { number = n; place = 0; row = 0; column = 0 }

abbrev pub at : ℕ → ℕ → RefusalParts
at n i = record { number = n; place = i; row = 0; column = 0 }

abbrev pub coefficient : ℕ → ℕ → ℕ → RefusalParts
coefficient n k c = record { number = n; place = 0; row = k; column = c }

abbrev pub parts : Refusal → RefusalParts
parts SizeInvalid = nowhere 1
parts DepthInvalid = nowhere 2
parts WidthTooNarrow = nowhere 3
parts DstSizeInvalid = nowhere 4
parts ListLengthInvalid = nowhere 5
parts InputTooShort = nowhere 6
parts OutputTooShort = nowhere 7
parts PlaceOutside = nowhere 8
parts (CoefficientAbove k c) = coefficient 9 k c
parts WayMismatched = nowhere 10
parts (LevelMissing k c) = coefficient 11 k c
parts (SampleOutside i) = at 12 i
parts PictureInvalid = nowhere 13
parts (BitsEnded i) = at 14 i
parts (ReferenceMissing i) = at 15 i
parts (ListValueInvalid i) = at 16 i
parts StreamFull = nowhere 17
parts ListMissing = nowhere 18
parts (CoefficientBelow k c) = coefficient 19 k c
parts KindUnknown = nowhere 20
parts BodyTooShort = nowhere 21
parts LevelsBeforeParameters = nowhere 22
parts ParameterInvalid = nowhere 23
parts BlockMissing = nowhere 24
parts RotationSizeInvalid = nowhere 25

abbrev pub number : Refusal → ℕ
number e = (parts e).number

abbrev pub place : Refusal → ℕ
place e = (parts e).place

abbrev pub row : Refusal → ℕ
row e = (parts e).row

abbrev pub column : Refusal → ℕ
column e = (parts e).column
