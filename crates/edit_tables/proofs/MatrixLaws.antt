-- The matrix of a kind.
--   holds_dct, holds_dst    a table of the DCT's matrix, or of the DST's, is one of the kind's
use mathlib.Core.Path.{◌≡◌, sym, subst}
use mathlib.Core.List.{List}
use Prim.Native.Nat.{ℕ}
use lib.IntN.{ℤ}
use Rattle.h265.specs.Matrix.{trans_matrix, dst_matrix}
use Rattle.transform_1d.specs.declared.Kind.{Kind}
use Rattle.transform_1d.specs.declared.Kind.TheVariants.{Dct, Dst}
use Rattle.transform_1d.specs.MatrixOf.{matrix_of}
use Rattle.edit_tables.specs.Tables.{Holds}

pub holds_dct : {kind : Kind} {n : ℕ} {xs : List ℤ} → kind ≡ Dct → Holds n (trans_matrix n) xs → Holds n (matrix_of kind n) xs
unfolding matrix_of
holds_dct {n = n} {xs} e h = subst (λ (k : Kind). Holds n (matrix_of k n) xs) (sym e) h

pub holds_dst : {kind : Kind} {n : ℕ} {xs : List ℤ} → kind ≡ Dst → n ≡ 4 → Holds 4 dst_matrix xs → Holds n (matrix_of kind n) xs
unfolding matrix_of
holds_dst {n = n} {xs} e s h = rw (e, s) h
