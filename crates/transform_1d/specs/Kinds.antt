-- What a kind of transform says of a size. Row 4 of docs/RULES.md's table.
--   is_dst kind          the kind as a flag
--   dst_refused kind n   row 4: a DST whose size is not 4
use Rattle.std.specs.Prelude.{Bool, not, ◌&&◌, ℕ, eqb}
use Rattle.transform_1d.specs.declared.Kind.{Kind}
use Rattle.transform_1d.specs.declared.Kind.TheVariants.{Dct, Dst}

abbrev pub is_dst : Kind → Bool
is_dst Dct = Bool.false
is_dst Dst = Bool.true

unfoldable pub dst_refused : Kind → ℕ → Bool
dst_refused kind n = is_dst kind && not (eqb n 4)
