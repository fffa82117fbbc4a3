-- Examples of the definition under one statement: depths 8 and 9 with each part of the mask in use, and planes whose stride is above the width.
use Rattle.std.proofs.Common.{◌≡◌, ℕ, List, [], ◌∷◌, replicate, refl}
use Rattle.checksum.specs.Checksum.{xor_mask, sample_term, total, column_term, row_total, picture_checksum}

pub examples : List ℕ
examples =
    picture_checksum 8 1 1 1 (65535 ∷ [])
    ∷ picture_checksum 9 1 1 1 (65535 ∷ [])
    ∷ picture_checksum 8 257 1 257 (replicate 257 0)
    ∷ picture_checksum 9 257 1 257 (replicate 257 0)
    ∷ picture_checksum 8 1 257 1 (replicate 257 0)
    ∷ picture_checksum 8 2 2 3 (1 ∷ 2 ∷ 99 ∷ 3 ∷ 4 ∷ 99 ∷ [])
    ∷ picture_checksum 16 2 2 3 (256 ∷ 513 ∷ 99 ∷ 3 ∷ 1024 ∷ 99 ∷ [])
    ∷ []

pub examples_hold : examples ≡ 255 ∷ 510 ∷ 32641 ∷ 65282 ∷ 32641 ∷ 10 ∷ 11 ∷ []
unfolding examples picture_checksum row_total column_term total sample_term xor_mask
examples_hold = refl
