-- Laws of the values in a body.
--   machine_is              a level from its 32 bits
--   level_in_chunk          a level from the chunk of its four bytes
--   edit-level              the level of an edit from its four bytes
use mathlib.Core.Path.{◌≡◌, refl, sym, ◌∙◌, ap}
use mathlib.Core.Bool.{Bool, true, false}
use mathlib.Core.List.{List}
use Prim.Native.Nat.{ℕ, zero, suc, ◌+◌, ◌-◌, ◌*◌, ◌≤◌, ◌<◌}
use native.Mathlib.Omega.{arith}
use borrow.Author.Tests.{lt-ltb, le-ltb, ltb-true, ltb-false}
use lib.Dec.{ltb}
use lib.IntN.{negsuc}
use lib.ListN.{get_or, take, drop}
use lib.Seq.{get_or-drop, get_or-take, drop-drop}
use Rattle.std.specs.Simd.{first_chunks}
use mir.Syntax.{w32}
use mir.Val.{to_z}
use mir.Facts.{to_z-neg}
use Rattle.feed_format.specs.Format.{signed32, level_at, edit_level}

level_low : (u : ℕ) → u < 2147483648 → to_z w32 u ≡ signed32 u
unfolding signed32
level_low u h = simp (lt-ltb u 2147483648 h)

high_is : (u : ℕ) → 2147483648 ≤ u → u < 4294967296 → signed32 u ≡ negsuc (4294967295 - u)
unfolding signed32
high_is u h k =
    simp (le-ltb u 2147483648 h, lt-ltb u 4294967296 k) (ap negsuc (let e : 4294967296 - suc u ≡ 4294967295 - u = omega arith in e))

level_high : (u : ℕ) → 2147483648 ≤ u → u < 4294967296 → to_z w32 u ≡ signed32 u
level_high u h k =
    let same : 4294967296 - suc (4294967295 - u) ≡ u = omega arith in
    rw same at (to_z-neg w32 (4294967295 - u) (omega arith)) ∙ sym (high_is u h k)

pub machine_is : (u : ℕ) → u < 4294967296 → to_z w32 u ≡ signed32 u
machine_is u k = by_test (ltb u 2147483648) refl
  where
    by_test : (t : Bool) → ltb u 2147483648 ≡ t → to_z w32 u ≡ signed32 u
    by_test true e = level_low u (ltb-true u 2147483648 e)
    by_test false e = level_high u (ltb-false u 2147483648 e) k

chunk_at : (k : ℕ) (xs : List ℕ) (i : ℕ) (d : List ℕ) → i < k → get_or (first_chunks 4 k xs) i d ≡ take 4 (drop (4 * i) xs)
chunk_at zero xs i d h = absurd (omega (arith, h))
chunk_at (suc k) xs zero d h = refl
chunk_at (suc k) xs (suc i) d h =
    let e : 4 + 4 * i ≡ 4 * suc i = omega arith in
    chunk_at k (drop 4 xs) i d (omega (arith, h)) ∙ ap (take 4) (drop-drop (4 * i) 4 xs ∙ ap (λ (j : ℕ). drop j xs) e)

chunk_byte : (body : List ℕ) (i j : ℕ) → j < 4 → get_or (take 4 (drop (4 * i) body)) j 0 ≡ get_or body (4 * i + j) 0
chunk_byte body i j h = get_or-take 4 (drop (4 * i) body) j 0 h ∙ get_or-drop (4 * i) body j 0

pub level_in_chunk : (k : ℕ) (body : List ℕ) (i : ℕ) (d : List ℕ) → i < k → level_at (get_or (first_chunks 4 k body) i d) 0 ≡ level_at body i
unfolding level_at
level_in_chunk k body i d h =
    rw (chunk_at k body i d h, chunk_byte body i 0 (omega arith), chunk_byte body i 1 (omega arith), chunk_byte body i 2 (omega arith), chunk_byte body i 3 (omega arith)) refl

pub edit-level : (body : List ℕ) → signed32 (get_or body 2 0 + 256 * (get_or body 3 0 + 256 * (get_or body 4 0 + 256 * get_or body 5 0))) ≡ edit_level body
unfolding edit_level level_at
edit-level body = rw (← get_or-drop 2 body 0 0, ← get_or-drop 2 body 1 0, ← get_or-drop 2 body 2 0, ← get_or-drop 2 body 3 0) refl
