-- What the functions of a block leave to show.
--   block-missing, block_found_lem    what a call hands back, by what the search left
--   copied                        levels that were found and then copied
--   first_miss_bound               the search ends at n²
use Rattle.std.specs.Prelude.{Ok, Err}
use mathlib.Core.Path.{◌≡◌, refl, ap, ◌∙◌}
use mathlib.Core.List.{List, ◌++◌}
use Prim.Native.Nat.{ℕ, ◌*◌, ◌/◌, ◌%◌, ◌≤◌, ◌<◌}
use borrow.Author.Tests.{lt-ltb, le-ltb}
use lib.IntN.{ℤ}
use lib.ListN.{take, drop}
use Rattle.integers.specs.Lists.{overwrite}
use Rattle.integers.proofs.ListsLaws.{overwrite-take}
use Rattle.integers.proofs.SearchLaws.{first_where_first}
use Rattle.h265.specs.ScalingFactor.{ScalingList}
use Rattle.refusal.specs.declared.Refusal.{Refusal}
use Rattle.refusal.specs.declared.Refusal.TheVariants.{LevelMissing}
use Rattle.refusal.specs.Outcome.{answer}
use Rattle.refusal.specs.Written.{Writes}
use Rattle.parameters.specs.declared.DequantParams.{DequantParams}
use Rattle.level_search.specs.Found.{block_found}
use Rattle.level_search.specs.Work.{misses_at, first_miss}

-- ---- answers
module _ (n first : ℕ) (at : ℕ → ℤ) (out : List ℤ) where
  pub block-missing : first < n * n → {e : Refusal} → e ≡ LevelMissing (first / n) (first % n) → Writes (Err e) out (block_found n first at out)
  unfolding block_found
  block-missing h q = rw (lt-ltb first (n * n) h) (record { answered = ap (λ (e : Refusal). answer (Err e)) q; out = refl })

  pub block_found_lem : n * n ≤ first → {after : List ℤ} → after ≡ overwrite (n * n) at out → Writes (Ok tt) after (block_found n first at out)
  unfolding block_found
  block_found_lem h q = rw (le-ltb first (n * n) h) (record { answered = refl; out = q })

-- what was found, and then copied
pub copied : (k : ℕ) (at : ℕ → ℤ) (before : List ℤ) {found taken : List ℤ} (out : List ℤ) → taken ≡ take k found → found ≡ overwrite k at before
    → taken ++ drop k out ≡ overwrite k at out
unfolding overwrite
copied k at before out e f = ap (λ (xs : List ℤ). xs ++ drop k out) (e ∙ ap (take k) f ∙ overwrite-take k at before)

pub first_miss_bound : (p : DequantParams) (list : ScalingList) (n : ℕ) (coeff : List ℤ) → first_miss p list n coeff ≤ n * n
unfolding first_miss
first_miss_bound p list n coeff = (first_where_first (n * n) (misses_at p list n coeff)).inside
